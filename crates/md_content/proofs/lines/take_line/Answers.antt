use Rattle.std.proofs.Common.{◌≡◌, ◌+◌, ◌∙◌, ◌∷◌, ℕ, List, ap, arith, cond, drop, get_or, refl, sym}
use Rattle.std.specs.Prelude.{None, nat_lt}
use Rattle.md_engine.specs.declared.event.Event.{Event}
use Rattle.md_engine.specs.declared.event.Kind.TheVariants.{Enter}
use Rattle.md_engine.specs.declared.event.Name.TheVariants.{Frontmatter}
use Rattle.md_content.specs.Joined.{joined_with}
use Rattle.md_content.specs.Lines.{lines_from}
use Rattle.md_content.proofs.LinesLemmas.{lines-split}
use Rattle.md_content.proofs.ParagraphLines.{begins, last-next, last-none, last-some}
use Rattle.md_content.proofs.lines.take_line.Goals as goal
use Rattle.md_content.proofs.lines.take_line.Goals.{else-more-gt0, then-more-gt0}
use Rattle.md_events.specs.declared.inline.Chunk.{Chunk}
use Rattle.md_events.specs.Rewritten.{left_of}
use Rattle.md_events.specs.Substituted.{chunk_of}

-- what indexing gives past the end of a list
abbrev unset : Event
unset = record {
  kind = Enter;
  name = Frontmatter;
  point = record { line = 0; column = 0; index = 0; vs = 0 };
  link = None;
}

pub returns-clause-line : goal.returns-clause-line
returns-clause-line c =
    let rest : List Event = left_of c.args.all.now in
    let last : ℕ = c.if-more-gt0.last in
    let is : last ≡ 1 + cond (nat_lt 0 c.args.more) 2 0 = elim c.if-more-gt0.branch [
      | then-more-gt0 w ↦ last-some c.args.more last (omega arith) w.last-is
      | else-more-gt0 w ↦ last-none c.args.more last (omega arith) w.last-is
    ] in
    let next = last-next c.args.more last rest c.requires is in
    let own : c.chunk_of-line.result ≡ chunk_of (get_or rest 0 unset) (get_or rest last unset) =
    c.chunk_of-line.ensures
    ∙ ap (λ (l : List Event). chunk_of (get_or l 0 unset) (get_or l last unset)) c.left-left.ensures in
    lines-split rest (joined_with (drop 1 rest)) last unset (begins c.args.more rest c.requires) refl next
    ∙ ap (λ (k : Chunk). k ∷ lines_from (drop (last + 1) rest)) (sym own)
    ∙ ap (λ (l : List Event). c.chunk_of-line.result ∷ lines_from l) (sym c.skip.ensures.left)

pub returns-clause-left : goal.returns-clause-left
returns-clause-left c =
    let rest : List Event = left_of c.args.all.now in
    let last : ℕ = c.if-more-gt0.last in
    let is : last ≡ 1 + cond (nat_lt 0 c.args.more) 2 0 = elim c.if-more-gt0.branch [
      | then-more-gt0 w ↦ last-some c.args.more last (omega arith) w.last-is
      | else-more-gt0 w ↦ last-none c.args.more last (omega arith) w.last-is
    ] in
    let next = last-next c.args.more last rest c.requires is in
    c.skip.ensures.left ∙ ap (λ (n : ℕ). drop n rest) (omega (arith, next))
