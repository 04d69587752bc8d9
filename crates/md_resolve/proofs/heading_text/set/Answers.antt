use Rattle.std.proofs.Common.{◌≡◌, ◌+◌, ◌-◌, ◌++◌, ℕ, List, None, Some, arith, get_or, ap, ap₂, append_assoc, drop}
use Rattle.std.proofs.Common.{subst, sym, take, ◌∙◌}
use Rattle.std.specs.List.{All}
use Rattle.std.proofs.lemmas.List.Elements.{All-drop}
use Rattle.md_engine.specs.declared.event.Event.{Event}
use Rattle.md_engine.specs.declared.event.Kind.TheVariants.{Enter}
use Rattle.md_engine.specs.declared.event.Name.TheVariants.{Frontmatter}
use Rattle.md_engine.specs.declared.event.Point.{Point}
use Rattle.md_leaves.specs.HeadingText.{text_between}
use Rattle.md_events.specs.Rewritten.{given_of, held_of, left_of, written_of}
use Rattle.md_resolve.specs.Texted.{IsInside}
use Rattle.md_resolve.proofs.TextLaws.{IsFound, found, heading-given, heading-inside, heading-kept, heading-left}
use Rattle.md_resolve.proofs.TextLaws.{slice-from}
use Rattle.md_resolve.proofs.heading_text.set.Goals as goal

pub until_text-front-requires : goal.until_text-front-requires
until_text-front-requires c = record {
  inside = subst (All IsInside) (ap (λ m. take m c.left-left.result.now) (sym c.until_end-many.ensures.value))
      (heading-inside c.left-left.result.now);
}

pub text_len-text-requires : goal.text_len-text-requires
text_len-text-requires c =
    let es : List Event = take c.until_end-many.result c.left-left.result.now in
    record {
      inside = subst (All IsInside) (sym (slice-from c.until_text-front.result es))
          (All-drop IsInside c.until_text-front.result es
          (subst (All IsInside) (ap (λ m. take m c.left-left.result.now) (sym c.until_end-many.ensures.value))
          (heading-inside c.left-left.result.now)));
    }

pub returns-then-text-eq0-clause-given : goal.returns-then-text-eq0-clause-given
returns-then-text-eq0-clause-given c =
    let left : List Event = left_of c.args.all.now in
    ap₂ (λ (a b : List Event). a ++ b) c.hold_many.ensures.written c.hold_many.ensures.held
    ∙ sym (append_assoc (written_of c.args.all.now) (held_of c.args.all.now) (take c.until_end-many.result left))
    ∙ ap (λ (l : List Event). given_of c.args.all.now ++ l)
    (heading-kept c.args._event left (take c.until_end-many.result c.left-left.result.now) c.until_end-many.result
    c.until_text-front.result c.text_len-text.result
    (found c.args._event left c.left-left.result.now c.until_end-many.result c.until_text-front.result
    c.text_len-text.result c.requires.first c.requires.begins c.left-left.ensures c.until_end-many.ensures.value
    c.until_end-many.ensures.within c.until_text-front.ensures.set c.until_text-front.ensures.within
    c.text_len-text.ensures.set c.text_len-text.ensures.within) c.if-text-eq0.true)

is-found : (c : goal.After-hold_many-3) →
    IsFound c.args._event (left_of c.args.all.now) (take c.until_end-many.result c.left-left.result.now)
    c.until_end-many.result c.until_text-front.result c.text_len-text.result
is-found c =
    found c.args._event (left_of c.args.all.now) c.left-left.result.now c.until_end-many.result
    c.until_text-front.result c.text_len-text.result c.requires.first c.requires.begins c.left-left.ensures
    c.until_end-many.ensures.value c.until_end-many.ensures.within c.until_text-front.ensures.set
    c.until_text-front.ensures.within c.text_len-text.ensures.set c.text_len-text.ensures.within

-- what is left after the text
left-following : (c : goal.After-hold_many-3) →
    left_of c.push_text.new.events
    ≡ drop c.text_len-text.result (drop c.until_text-front.result (left_of c.args.all.now))
left-following c =
    c.in_ok-push_text.ensures.left ∙ c.skip.ensures.left ∙ ap (drop c.text_len-text.result) c.hold_many-2.ensures.left

-- what an index past the end would give
abbrev nothing : Event
nothing = record {
  kind = Enter;
  name = Frontmatter;
  link = None;
  point = record { line = 0; column = 0; index = 0; vs = 0 };
}

pub returns-clause-given : goal.returns-clause-given
returns-clause-given c =
    let es : List Event = take c.until_end-many.result c.left-left.result.now in
    let front : ℕ = c.until_text-front.result in
    let text : ℕ = c.text_len-text.result in
    let more : ℕ = c.until_end-many.result - front - text in
    let after : Point = (get_or es (front + text - 1) nothing).point in
    ap₂ (λ (a b : List Event). a ++ b)
    (c.hold_many-3.ensures.written ∙ c.in_ok-push_text.ensures.written
    ∙ ap (λ (l : List Event). l ++ text_between (get_or es front nothing).point (Some after))
    (c.skip.ensures.written
    ∙ ap₂ (λ (a b : List Event). a ++ b) c.hold_many-2.ensures.written c.hold_many-2.ensures.held))
    (c.hold_many-3.ensures.held
    ∙ ap₂ (λ (a b : List Event). a ++ take more b) (c.in_ok-push_text.ensures.held ∙ c.skip.ensures.held)
    (left-following c))
    ∙ heading-given c.args._event (left_of c.args.all.now) es c.until_end-many.result front text nothing
    (written_of c.args.all.now) (held_of c.args.all.now) (is-found c) (omega (arith, c.if-text-eq0.false))

pub returns-clause-left : goal.returns-clause-left
returns-clause-left c =
    c.hold_many-3.ensures.left
    ∙ ap (drop (c.until_end-many.result - c.until_text-front.result - c.text_len-text.result)) (left-following c)
    ∙ heading-left c.args._event (left_of c.args.all.now) (take c.until_end-many.result c.left-left.result.now)
    c.until_end-many.result c.until_text-front.result c.text_len-text.result (is-found c)
