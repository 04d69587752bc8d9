use Rattle.std.proofs.Common.{[], ◌∷◌, drop, get_or, sym, ◌∙◌, ap}
use Rattle.md_tables.specs.Tabled.{tabled_from}
use Rattle.md_tables.proofs.PartsWalk.{gives, two-first, white-proceeds}
use Rattle.md_tables.proofs.Unset.{unset}
use Rattle.md_tables.proofs.tables.Walk.part_within.Goals as goal

pub returns-then-is_white_pair-clause-in_all : goal.returns-then-is_white_pair-clause-in_all
returns-then-is_white_pair-clause-in_all c =
    let now = c.args.self.now in
    let events = c.args.events.now in
    let begin = get_or events 0 unset in
    let end = get_or events 1 unset in
    let rest = drop 2 events in
    gives now.rows.given.items c.give_two.new.given.items (begin ∷ end ∷ [])
    (tabled_from now.section now.rows.stage events) (tabled_from now.section now.rows.stage rest)
    c.in_ok-give_two.ensures
    (ap (tabled_from now.section now.rows.stage) (sym (two-first events unset c.in-len2-up.len_at_least))
    ∙ rw c.requires.stage
    (white-proceeds now.section c.args.kind begin end rest c.requires.section
    (sym c.is_white_pair.ensures ∙ c.if-is_white_pair.true)))
