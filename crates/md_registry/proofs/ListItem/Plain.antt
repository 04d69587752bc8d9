-- The indent of an item, taken at once, is what its states take.
use Rattle.std.proofs.Common.{ℕ, refl, sym, ◌∙◌, ap, arith, Option, subst}
use Rattle.md_engine.specs.declared.state.Name.TheVariants as n
use Rattle.md_engine.specs.declared.state.document.State.TheVariants as document
use Rattle.md_engine.specs.Staying.{along}
use Rattle.md_engine.proofs.Loops.{ArrivedAt}
use Rattle.md_containers.specs.Item.{least_width}
use Rattle.md_containers.specs.PlainItem.{IsPlainIndent, indented}
use Rattle.md_containers.proofs.PlainItem.{HasItem, indent-run, space-seen, spaces-fall, spaces-index}
use Rattle.md_containers.proofs.ItemTermination.{least-some}
use Rattle.md_events.specs.Look.{looks_after, may_with}
use Rattle.md_events.specs.Spaces.{ends_line}
use Rattle.md_events.specs.Transition.{Transition}
use Rattle.proof_container_laws.specs.Containers.ListItem.{item_rules}
use Rattle.md_registry.specs.States.{FlowStep}
use Rattle.md_registry.proofs.PlainLaws.{PlainLaws, others}

pub has-item : HasItem FlowStep
has-item state w to new e = record {
  to_is = sym (ap (λ (x : Transition). x.to) e);
  new_is = sym (ap (λ (x : Transition). x.world) e);
}

pub item-plain : PlainLaws item_rules
unfolding along looks_after
item-plain = record {
  asked = λ w c d is. record {
    spaces = is.spaces;
    inside = is.inside;
    first = is.first;
    following = is.following;
    filled = is.filled;
    rest = is.rest;
  };
  may = λ w c is seen. ap (λ (o : Option ℕ). may_with item_rules.may_continue o) is.following;
  not_end = λ w c is seen.
      let size = (least-some c).1 in
      ap ends_line (seen ∙ space-seen w (least_width c) 0 is.spaces is.inside (omega (arith, size)));
  took = λ w c is.
      let size = (least-some c).1 in
      let at = spaces-index w (least_width c) is.spaces in
      let low = is.inside in
      let fall = spaces-fall w (least_width c) is.spaces is.inside in
      record { seen = refl; inside = omega (arith, at, low); less = omega (arith, size, fall) };
  runs = λ is_end s v a c arrived seen within is asks.
      let T = FlowStep in
      let next = n.Document document.ContainerExistingAfter in
      let size = least-some c in
      subst (λ (m : ℕ). ArrivedAt T is_end s v next (indented m a)) (sym size.1)
      (indent-run T is_end s v next others a size.0 has-item arrived seen within (ap least_width asks ∙ size.1)
      (subst (λ (m : ℕ). IsPlainIndent m a) size.1 is));
}
