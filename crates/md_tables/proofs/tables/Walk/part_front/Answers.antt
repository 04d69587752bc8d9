use Rattle.std.proofs.Common.{[], ◌∷◌, drop, get_or, sym, ◌∙◌, ap}
use Rattle.md_events.specs.Events.Nested.{enter}
use Rattle.md_tables.specs.Cells.{cell_name}
use Rattle.md_tables.specs.Tabled.{tabled_from}
use Rattle.md_tables.specs.declared.cells.Stage.TheVariants.{Within}
use Rattle.md_tables.proofs.PartsWalk.{front-proceeds, gives, two-first}
use Rattle.md_tables.proofs.Unset.{unset}
use Rattle.md_tables.proofs.tables.Walk.part_front.Goals as goal

pub returns-clause-in_all : goal.returns-clause-in_all
returns-clause-in_all c =
    let now = c.args.self.now in
    let k = c.args.kind in
    let events = c.args.events.now in
    let begin = get_or events 0 unset in
    let end = get_or events 1 unset in
    let rest = drop 2 events in
    gives now.rows.given.items c.give_two_first.new.given.items (enter (cell_name k) begin.point ∷ begin ∷ end ∷ [])
    (tabled_from now.section now.rows.stage events) (tabled_from now.section (Within k) rest)
    (rw c.cell_name.ensures at c.in_ok-give_two_first.ensures)
    (ap (tabled_from now.section now.rows.stage) (sym (two-first events unset c.in-len2-up.len_at_least))
    ∙ rw c.requires.stage
    (front-proceeds now.section k begin end rest c.requires.section (sym c.is_pipe.ensures ∙ c.if-not-is_pipe.false)))
