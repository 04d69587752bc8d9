use Rattle.std.proofs.Common.{[], ◌∷◌, sym, ◌∙◌}
use Rattle.std.proofs.lemmas.Bool.{and_parts}
use Rattle.md_events.specs.Events.Nested.{enter, exit}
use Rattle.md_tables.specs.Cells.{begins_inner, ends_inner, inner_name}
use Rattle.md_tables.specs.Tabled.{tabled_from}
use Rattle.md_tables.specs.declared.cells.Stage.TheVariants.{Inner}
use Rattle.md_tables.proofs.PartsWalk.{gives, inner-begins, inner-whole}
use Rattle.md_tables.proofs.tables.Walk.piece_within.Goals as goal

pub returns-then-is_continued-clause-in_all : goal.returns-then-is_continued-clause-in_all
returns-then-is_continued-clause-in_all c =
    let now = c.args.self.now in
    let k = c.args.kind in
    let begin = c.args.begin.now in
    let rest = c.args.end.now ∷ c.args.following.now in
    let both = and_parts (begins_inner k begin) (ends_inner k c.args.end.now) c.requires.piece in
    gives now.rows.given.items c.give_first.new.given.items (enter (inner_name k) begin.point ∷ begin ∷ [])
    (tabled_from now.section now.rows.stage (begin ∷ rest)) (tabled_from now.section (Inner k) rest)
    (rw c.inner_name-name.ensures at c.in_ok-give_first.ensures)
    (rw c.requires.stage (inner-begins now.section k begin rest c.requires.section both.0))

pub returns-clause-in_all : goal.returns-clause-in_all
returns-clause-in_all c =
    let now = c.args.self.now in
    let k = c.args.kind in
    let begin = c.args.begin.now in
    let end = c.args.end.now in
    let rest = c.args.following.now in
    gives now.rows.given.items c.give_whole.new.given.items
    (enter (inner_name k) begin.point ∷ begin ∷ end ∷ exit (inner_name k) end.point ∷ [])
    (tabled_from now.section now.rows.stage (begin ∷ end ∷ rest)) (tabled_from now.section now.rows.stage rest)
    (rw c.inner_name-name.ensures at c.in_ok-give_whole.ensures)
    (rw c.requires.stage
    (inner-whole now.section k begin end rest c.requires.section c.requires.piece
    (sym c.is_continued.ensures ∙ c.if-is_continued.false)))
