use Rattle.std.proofs.Common.{◌≡◌, ◌<◌, ℕ, List, ap, drop, get_or, length, ◌∙◌}
use Rattle.std.specs.List.{prefix_len}
use Rattle.std.specs.Prelude.{None}
use Rattle.md_engine.specs.declared.event.Event.{Event}
use Rattle.md_engine.specs.declared.event.Kind.TheVariants.{Enter}
use Rattle.md_engine.specs.declared.event.Name.TheVariants.{Frontmatter}
use Rattle.md_events.specs.Rewritten.{left_of}
use Rattle.md_events.specs.Substituted.{chunk_of, stays}
use Rattle.md_events.proofs.LinedLemmas.{begins-following}
use Rattle.md_events.proofs.subtokenize.next_chunk.Goals as goal

-- what indexing gives past the end of a list
abbrev unset : Event
unset = record {
  kind = Enter;
  name = Frontmatter;
  point = record { line = 0; column = 0; index = 0; vs = 0 };
  link = None;
}

pub returns-clause-some : goal.returns-clause-some
returns-clause-some g c =
    let wants = g.R.Reader.wants c.args.reader.now in
    let old : List Event = left_of c.args.all.now in
    let rest : List Event = left_of c.hold_many.new.self in
    let many : c.staying-many.result ≡ prefix_len (stays wants) old =
    c.staying-many.ensures.value ∙ ap (prefix_len (stays wants)) c.left.ensures in
    let following : rest ≡ drop (prefix_len (stays wants) old) old =
    c.hold_many.ensures.left ∙ ap (λ (n : ℕ). drop n old) many in
    let two : 1 < length rest = rw c.left-left.ensures at c.if-left-lt2.false in
    begins-following wants old rest unset _ following two
    (ap (λ (l : List Event). chunk_of (get_or l 0 unset) (get_or l 1 unset)) c.left-left.ensures)
