use Rattle.std.proofs.Common.{List, [], ◌∷◌, ◌++◌, drop, get_or, sym, ◌∙◌, ap}
use Rattle.md_engine.specs.declared.event.Event.{Event}
use Rattle.std.proofs.lemmas.List.{take_rest}
use Rattle.md_events.specs.Events.Nested.{exit}
use Rattle.md_tables.specs.Cells.{inner_name}
use Rattle.md_tables.specs.Tabled.{tabled_from}
use Rattle.md_tables.specs.declared.cells.Stage.TheVariants.{Within}
use Rattle.md_tables.proofs.PartsWalk.{gives, inner-ends, inner-joins, one-first}
use Rattle.md_tables.proofs.Unset.{unset}
use Rattle.md_tables.proofs.tables.Walk.part_inner.Goals as goal

pub returns-then-not-is_continued-clause-in_all : goal.returns-then-not-is_continued-clause-in_all
returns-then-not-is_continued-clause-in_all c =
    let now = c.args.self.now in
    let k = c.args.kind in
    let events = c.args.events.now in
    let end = get_or events 0 unset in
    let rest = drop 1 events in
    gives now.rows.given.items c.give_last.new.given.items (end ∷ exit (inner_name k) end.point ∷ [])
    (tabled_from now.section now.rows.stage events) (tabled_from now.section (Within k) rest)
    (rw c.inner_name.ensures at c.in_ok-give_last.ensures)
    (ap (tabled_from now.section now.rows.stage) (sym (one-first events unset c.in-len1-up.len_at_least))
    ∙ rw c.requires.stage
    (inner-ends now.section k end rest c.requires.section (sym c.ends_inner.ensures ∙ c.if-not-ends_inner.false)
    (rw (take_rest events 1) at (sym c.is_continued.ensures ∙ c.if-not-is_continued.true))))

pub returns-in-Text-clause-in_all : goal.returns-in-Text-clause-in_all
returns-in-Text-clause-in_all c =
    let now = c.args.self.now in
    let events = c.args.events.now in
    ap (λ (l : List Event). now.rows.given.items ++ l)
    (rw c.requires.stage
    (inner-joins now.section c.args.kind events unset c.in-Text.is c.requires.section c.in-len1-up.len_at_least
    (sym c.ends_inner.ensures ∙ c.if-not-ends_inner.false)
    (rw (take_rest events 1) at (sym c.is_continued.ensures ∙ c.if-not-is_continued.false))))
