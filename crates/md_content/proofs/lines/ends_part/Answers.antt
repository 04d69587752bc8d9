use Rattle.std.proofs.Common.{◌≡◌, ◌∙◌, Bool, List, arith, drop, false, refl, sym, true}
use Rattle.std.specs.Prelude.{None, not}
use Rattle.std.proofs.lemmas.Bool.{true≢false}
use Rattle.md_engine.specs.declared.event.Event.{Event}
use Rattle.md_engine.specs.declared.event.Kind.TheVariants.{Enter}
use Rattle.md_engine.specs.declared.event.Name.TheVariants.{Frontmatter}
use Rattle.md_content.specs.Lines.{begins_chunk}
use Rattle.md_content.proofs.LinesLemmas.{lines-stop}
use Rattle.md_events.proofs.SubstitutedLemmas.{to-end}
use Rattle.md_content.proofs.lines.ends_part.Goals as goal

-- what indexing gives past the end of a list
abbrev unset : Event
unset = record {
  kind = Enter;
  name = Frontmatter;
  point = record { line = 0; column = 0; index = 0; vs = 0 };
  link = None;
}

pub returns-then-not-begins_chunk-clause-last : goal.returns-then-not-begins_chunk-clause-last
returns-then-not-begins_chunk-clause-last c = λ h.
    let events : List Event = c.args.events.now in
    let none : begins_chunk (drop 1 events) ≡ false =
    sym (rw (to-end events 1) at c.begins_chunk.ensures.value) ∙ c.if-not-begins_chunk.true in
    lines-stop events 1 unset (omega arith) none (sym c.is_prefix.ensures ∙ not-true c.is_prefix.result h)
  where
    not-true : (x : Bool) → not x ≡ true → x ≡ false
    not-true true h = absurd (true≢false (sym h))
    not-true false h = refl
