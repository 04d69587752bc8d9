use Rattle.std.proofs.Common.{[], ◌∷◌, drop, get_or, sym, ◌∙◌, ap}
use Rattle.md_engine.specs.declared.event.Name.TheVariants as n
use Rattle.md_events.specs.Events.Nested.{exit}
use Rattle.md_tables.specs.Tabled.{tabled_from}
use Rattle.md_tables.specs.declared.cells.Stage.TheVariants.{Outside}
use Rattle.md_tables.specs.declared.tables.Section.TheVariants.{Between}
use Rattle.md_tables.proofs.PartsWalk.{gives, head-ends, one-first, row-ends}
use Rattle.md_tables.proofs.Unset.{unset}
use Rattle.md_tables.proofs.tables.Walk.part_after.Goals as goal

pub returns-then-ends_text_row-clause-in_all : goal.returns-then-ends_text_row-clause-in_all
returns-then-ends_text_row-clause-in_all c =
    let now = c.args.self.now in
    let events = c.args.events.now in
    let end = get_or events 0 unset in
    let rest = drop 1 events in
    gives now.rows.given.items c.give.new.given.items (end ∷ []) (tabled_from now.section now.rows.stage events)
    (tabled_from now.section Outside rest) c.in_ok-give.ensures
    (ap (tabled_from now.section now.rows.stage) (sym (one-first events unset c.in-len1-up.len_at_least))
    ∙ rw c.requires.stage
    (row-ends now.section end rest c.requires.section
    (sym c.ends_text_row.ensures ∙ c.if-ends_text_row.true)))

pub returns-clause-in_all : goal.returns-clause-in_all
returns-clause-in_all c =
    let now = c.args.self.now in
    let events = c.args.events.now in
    let end = get_or events 0 unset in
    let rest = drop 1 events in
    gives now.rows.given.items c.give_last.new.given.items (end ∷ exit n.GfmTableHead end.point ∷ [])
    (tabled_from now.section now.rows.stage events) (tabled_from Between Outside rest) c.in_ok-give_last.ensures
    (ap (tabled_from now.section now.rows.stage) (sym (one-first events unset c.in-len1-up.len_at_least))
    ∙ rw c.requires.stage
    (head-ends now.section end rest (sym c.ends_head.ensures ∙ c.if-not-ends_head.false)))
