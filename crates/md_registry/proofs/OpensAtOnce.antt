-- A container that opens at once is what the states become that try one kind after another.
use Rattle.std.proofs.Common.{◌≡◌, ℕ, Bool, true, false, ◌||◌, nat_eq, List, [], ◌∷◌, Option, Some, refl, sym, ◌∙◌, ap}
use Rattle.std.proofs.Common.{subst}
use Rattle.std.specs.List.{list_any}
use Rattle.std.specs.Prelude.{◌==◌, if◌then◌else◌, slice_index}
use Rattle.std.proofs.lemmas.Bool.{eqb-true}
use Rattle.md_engine.specs.declared.state.Name.TheVariants as n
use Rattle.md_engine.specs.declared.state.document.State.TheVariants as document
use Rattle.md_engine.specs.declared.state.list_item.State.TheVariants as its
use Rattle.md_engine.specs.declared.state.State.{State}
use Rattle.md_engine.specs.declared.state.State.TheVariants.{Next, Retry}
use Rattle.md_engine.specs.declared.tokenizer.container.name.ContainerKind.{ContainerKind}
use Rattle.md_engine.specs.declared.tokenizer.container.name.ContainerKind.TheVariants as kind
use Rattle.md_engine.specs.Run.{Step}
use Rattle.md_engine.specs.World.{World, container_of, looks}
use Rattle.md_engine.proofs.Loops.{ArrivedAt}
use Rattle.md_engine.proofs.Walks.{Within, then-stays}
use Rattle.md_meaning.specs.Containers.{is_bullet, is_digit}
use Rattle.md_containers.specs.PlainBullet.{IsPlainBullet, bulleted}
use Rattle.md_containers.proofs.PlainBullet.{bullet-run, bullet-seen}
use Rattle.md_events.specs.Look.{looks_after, may_with}
use Rattle.md_events.specs.Transition.{Transition, tried}
use Rattle.md_registry.specs.AtOnce.{all_asked}
use Rattle.proof_container_laws.specs.Containers.ListItem.{item_rules}
use Rattle.md_registry.specs.Flow.{new_before_transition, trial_code}
use Rattle.md_registry.specs.LineFlags.{asking}
use Rattle.proof_frame.specs.ContainerNames.{kind_number}
use Rattle.md_registry.specs.Registry.{may_open, next_opener, opener_front, openers, openers_after, opens_with}
use Rattle.md_registry.specs.States.{FlowStep}
use Rattle.md_registry.proofs.LinesAtOnce.{openers-refuse}
use Rattle.md_registry.proofs.ListItem.Plain.{has-item}

-- the kinds that are tried before one
abbrev fronts : ℕ → List ContainerKind → List ContainerKind
fronts m [] = []
fronts m (k ∷ ks) = if kind_number k == m then [] else k ∷ fronts m ks

abbrev in_front : List ContainerKind
in_front = fronts (kind_number kind.ListItem) openers

-- a bullet opens none of those that are tried before an item
bullets-refused : (b : ℕ) → is_bullet b ≡ true → list_any (λ (k : ContainerKind). may_open k b) in_front ≡ false
bullets-refused b h = go (nat_eq b 42) (nat_eq b 43) (nat_eq b 45) refl refl refl h
  where
    P : ℕ → Type 0
    P m = list_any (λ (k : ContainerKind). may_open k m) in_front ≡ false

    go : (x y z : Bool) → nat_eq b 42 ≡ x → nat_eq b 43 ≡ y → nat_eq b 45 ≡ z → (x || y || z) ≡ true → P b
    go true y z e f g is = subst P (sym (eqb-true b 42 e)) refl
    go false true z e f g is = subst P (sym (eqb-true b 43 f)) refl
    go false false true e f g is = subst P (sym (eqb-true b 45 g)) refl
    go false false false e f g is = cc

-- an item without a number is tried after others that are refused, and opens
pub bullet-opens : (is_end : Bool) (s : State) (v w : World) →
    ArrivedAt FlowStep is_end s v (n.Document (opener_front openers)) w → w.current ≡ looks w → Within w →
    IsPlainBullet w →
    ArrivedAt FlowStep is_end s v (n.Document document.ContainerNewAfter)
    (bulleted (asking (container_of kind.ListItem) w))
unfolding looks_after
bullet-opens is_end s v w arrived seen within plain =
    bullet-run T is_end s v (n.Document document.ContainerNewAfter) none b has-item
    (λ state x to new e. record {
      to_is = sym (ap (λ (y : Transition). y.to) e);
      new_is = sym (ap (λ (y : Transition). y.world) e);
    }) tries seen within
    (record {
      on = plain.on;
      bullet = plain.bullet;
      space = plain.space;
      other = plain.other;
      dark = plain.dark;
      filled = plain.filled;
      inside = plain.inside;
      there = plain.there;
    })
  where
    T : Step
    T = FlowStep

    marker : ℕ
    marker = slice_index w.setting.bytes w.point.index

    is : looks_after w ≡ Some marker
    is = bullet-seen w seen plain

    none : State
    none = Next (n.Document (next_opener kind.ListItem))

    b : World
    b = asking (container_of kind.ListItem) w

    a : World
    a = all_asked in_front w

    at_item : ArrivedAt T is_end s v (n.Document item_rules.before) a
    at_item =
        openers-refuse is_end s v in_front (kind.ListItem ∷ openers_after kind.ListItem) w refl
        (record { byte = marker; here = is; none = bullets-refused marker plain.bullet }) seen within arrived

    begun : new_before_transition kind.ListItem a ≡
        record {
          to = Retry (n.ListItem its.Start);
          world = tried b (Next (n.Document document.ContainerNewAfter)) none;
        }
    begun =
        ap
        (λ (o : Option ℕ).
        trial_code (opens_with kind.ListItem) (n.Document document.ContainerNewAfter)
        (n.Document (next_opener kind.ListItem)) b (may_with (λ (x : ℕ). is_bullet x || is_digit x) o)) is
        ∙ ap
        (λ (x : Bool).
        trial_code (opens_with kind.ListItem) (n.Document document.ContainerNewAfter)
        (n.Document (next_opener kind.ListItem)) b (x || is_digit marker)) plain.bullet

    tries : ArrivedAt T is_end s v (n.ListItem its.Start) (tried b (Next (n.Document document.ContainerNewAfter)) none)
    tries =
        then-stays T is_end s v (n.Document item_rules.before) (n.ListItem its.Start) a
        (tried b (Next (n.Document document.ContainerNewAfter)) none) at_item
        (record {
          to_is = sym (ap (λ (y : Transition). y.to) begun);
          new_is = sym (ap (λ (y : Transition). y.world) begun);
        }) refl within refl seen
