use Rattle.std.proofs.Common.{[], ◌∷◌, sym, ◌∙◌, ap}
use Rattle.std.proofs.lemmas.List.{drop-drop}
use Rattle.md_events.specs.Events.Nested.{enter, exit}
use Rattle.md_tables.specs.Cells.{cell_name}
use Rattle.md_tables.specs.Proceeds.{in_all}
use Rattle.md_tables.specs.Tabled.{tabled_from}
use Rattle.md_tables.specs.declared.cells.Stage.TheVariants.{Following}
use Rattle.md_tables.proofs.PartsWalk.{gives, last-proceeds, pipe-proceeds}
use Rattle.md_tables.proofs.tables.Walk.pipe_within.Goals as goal

pub returns-then-row_ends-clause-in_all : goal.returns-then-row_ends-clause-in_all
returns-then-row_ends-clause-in_all c =
    let now = c.args.self.now in
    let k = c.args.kind in
    let begin = c.args.begin.now in
    let end = c.args.end.now in
    let rest = c.args.following.now in
    ap (in_all c.part_after.new.self) (sym (drop-drop c.in_ok-many.many 2 (begin ∷ end ∷ rest)))
    ∙ c.in_ok-many.ensures.in_all
    ∙ gives now.rows.given.items c.give_two_last.new.given.items (begin ∷ end ∷ exit (cell_name k) end.point ∷ [])
    (tabled_from now.section now.rows.stage (begin ∷ end ∷ rest)) (tabled_from now.section Following rest)
    (rw c.cell_name-name.ensures at c.in_ok-give_two_last.ensures)
    (rw c.requires.stage
    (last-proceeds now.section k begin end rest c.requires.section c.requires.pipe
    (sym c.row_ends.ensures ∙ c.if-row_ends.true)))

pub returns-clause-in_all : goal.returns-clause-in_all
returns-clause-in_all c =
    let now = c.args.self.now in
    let k = c.args.kind in
    let begin = c.args.begin.now in
    let end = c.args.end.now in
    let rest = c.args.following.now in
    gives now.rows.given.items c.give_between.new.given.items
    (exit (cell_name k) begin.point ∷ enter (cell_name k) begin.point ∷ begin ∷ end ∷ [])
    (tabled_from now.section now.rows.stage (begin ∷ end ∷ rest)) (tabled_from now.section now.rows.stage rest)
    (rw c.cell_name-name.ensures at c.in_ok-give_between.ensures)
    (rw c.requires.stage
    (pipe-proceeds now.section k begin end rest c.requires.section c.requires.pipe
    (sym c.row_ends.ensures ∙ c.if-row_ends.false)))
