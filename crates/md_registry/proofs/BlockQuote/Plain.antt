-- The prefix `> ` of a quote, taken at once, is what its states take.
use Rattle.std.proofs.Common.{◌≡◌, ℕ, Option, Some, refl, sym, ◌∙◌, ap, arith}
use Rattle.std.specs.Prelude.{slice_range}
use Rattle.md_engine.specs.declared.state.Name.TheVariants as n
use Rattle.md_engine.specs.declared.state.document.State.TheVariants as document
use Rattle.md_engine.specs.World.{World, after}
use Rattle.md_engine.proofs.Points.{cells-fall}
use Rattle.md_engine.proofs.StayLemmas.{seen-inside}
use Rattle.md_containers.specs.Quote.{may_begin}
use Rattle.md_containers.proofs.QuotePrefix.{HasQuote, prefix-run}
use Rattle.md_events.specs.Look.{following_code, first_following, looks_after, may_with}
use Rattle.md_events.specs.Spaces.{ends_line}
use Rattle.md_events.specs.Transition.{Transition}
use Rattle.proof_container_laws.specs.Containers.BlockQuote.{quote_rules}
use Rattle.md_registry.specs.States.{FlowStep}
use Rattle.md_registry.proofs.PlainLaws.{PlainLaws, others}

-- what is seen here is first after whitespace, unless it is whitespace
sees-quote : (w : World) → w.current ≡ Some 62 → looks_after w ≡ Some 62
unfolding looks_after
sees-quote w e =
    ap (λ (o : Option ℕ). following_code o
    (first_following (slice_range w.setting.bytes w.point.index w.setting.limit))) e

has-quote : HasQuote FlowStep
has-quote state w to new e = record {
  to_is = sym (ap (λ (x : Transition). x.to) e);
  new_is = sym (ap (λ (x : Transition). x.world) e);
}

pub quote-plain : PlainLaws quote_rules
unfolding looks_after
quote-plain = record {
  asked = λ w c d is. record { here = is.here; inside = is.inside; space = is.space; next = is.next };
  may = λ w c is seen. ap (may_with may_begin) (sees-quote w (seen ∙ is.here));
  not_end = λ w c is seen. ap ends_line (seen ∙ is.here);
  took = λ w c is.
      let one = cells-fall w.setting w.point (seen-inside w.setting w.point 62 is.here) in
      let two = cells-fall w.setting (after w.setting w.point) is.inside in
      record { seen = refl; inside = is.next; less = omega (arith, one, two) };
  runs = λ is_end s v a c arrived seen within is asks.
      prefix-run FlowStep is_end s v (n.Document document.ContainerExistingAfter) others a
      has-quote arrived seen within is;
}
