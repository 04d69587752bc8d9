-- Which containers open on a line after those that continue, as flow tries them one after another.
use Rattle.md_engine.specs.declared.tokenizer.held_leaf.HeldLeaf.TheVariants as held_leaf
use Rattle.md_engine.specs.declared.tokenizer.held_leaf.HeldLeaf.{HeldLeaf}
use Rattle.std.proofs.Common.{◌≡◌, ℕ, zero, suc, ◌<◌, ◌≤◌, Bool, false, ◌&&◌, List, [], ◌∷◌, ◌++◌, length, take}
use Rattle.std.proofs.Common.{Option, Some, None, refl, sym, ◌∙◌, ap, subst, arith, append_assoc, append-nil}
use Rattle.std.specs.Option.{option_or}
use Rattle.std.specs.Prelude.{◌==◌}
use Rattle.md_engine.specs.declared.configuration.ParseOptions.{ParseOptions}
use Rattle.md_engine.specs.declared.event.Event.{Event}
use Rattle.md_engine.specs.declared.event.Point.{Point}
use Rattle.md_engine.specs.declared.tokenizer.container.Container.{Container as Known}
use Rattle.md_engine.specs.declared.tokenizer.container.name.ContainerKind.{ContainerKind}
use Rattle.md_engine.specs.Meaning.{Cell, Here, Outcome}
use Rattle.md_engine.specs.World.{Flags, container_of}
use Rattle.md_containers.specs.Interrupts.{is_interrupted, interrupts as by_flags}
use Rattle.md_events.specs.Spaces.{IsRest}
use Rattle.md_meaning.specs.State.{Container}
use Rattle.proof_frame.specs.Rule.{Rule, tried}
use Rattle.md_registry.specs.FlowRule.{asking_here, after_containers, new_from, opened, opens_of}
use Rattle.proof_frame.specs.Passed.{Passed, passed_by, passed_here}
use Rattle.md_registry.specs.Registry.{container_rules, openers, opens_at, opens_by}
use Rattle.proof_rows.specs.Rows.{Front, in_front, opened_prefixes, no_front}
use Rattle.proof_rows.specs.Valid.{AreOpen}
use Rattle.md_registry.proofs.Registry.{container-laws}
use Rattle.md_registry.proofs.RegistryContainers.{opens-same, opens-shorter}
use Rattle.proof_rows.proofs.FlowHeld.{closed-none, open-all, open-append}
use Rattle.proof_rows.proofs.FlowContinues.{asked_at}

-- none opens where nothing is left of the line
pub opens-none : (options : ParseOptions) (interrupting : Bool) (cells : List Cell) (p : Point) → length cells ≤ 0 →
    opens_at options interrupting cells p ≡ None
opens-none options interrupting cells p most = go (opens_at options interrupting cells p) refl
  where
    go : (x : Option Passed) → opens_at options interrupting cells p ≡ x → x ≡ None
    go None e = refl
    go (Some t) e = absurd (omega (arith, opens-shorter options interrupting cells p t e))

pub new-shorter : (options : ParseOptions) (interrupting : Bool) (size : ℕ) (cells : List Cell) (p : Point) →
    length (opened_prefixes options interrupting size cells p).cells ≤ length cells
new-shorter options interrupting zero cells p = omega arith
new-shorter options interrupting (suc size) cells p =
    go (opens_at options interrupting cells p) refl (λ t. new-shorter options false size t.cells t.point)
  where
    Shorter : Front → Type 0
    Shorter f = length f.cells ≤ length cells

    go : (x : Option Passed) → opens_at options interrupting cells p ≡ x →
        ((t : Passed) → length (opened_prefixes options false size t.cells t.point).cells ≤ length t.cells) →
        Shorter
        (elim x [ None ↦ no_front cells p | Some t ↦ in_front t (opened_prefixes options false size t.cells t.point) ])
    go None e more = omega arith
    go (Some t) e more = omega (arith, more t, opens-shorter options interrupting cells p t e)

-- where none of these kinds opens, each has been tried
pub record Refused (options : ParseOptions) (next : Rule) (cells : List Cell) (h : Here) (o : Outcome) : Type 0 where
  pub asked : Known
  pub column : ℕ
  pub is : o ≡ after_containers options next cells (asked_at asked column h)

-- what is left at the trials of these kinds, by the outcome of the first
abbrev tries_from : ParseOptions → Rule → Rule → List ContainerKind → List Cell → Here → Outcome → Outcome
tries_from options next onward ks cells h o =
    tried o onward
    (λ s g. opens_of options onward (after_containers options next) ks cells (record h { scratch = s; flags = g }))

first-tried : (options : ParseOptions) (next onward : Rule) (interrupting : Bool) (k : ContainerKind)
    (ks : List ContainerKind) (cells : List Cell) (h : Here) (o : Option Passed) →
    IsRest h.scratch → interrupting ≡ by_flags h.flags →
    (container_rules k).opens options interrupting cells h.point ≡ o →
    opens_of options onward (after_containers options next) (k ∷ ks) cells h ≡
    tries_from options next onward ks cells h (passed_by o (asking_here (container_of k) h))
first-tried options next onward interrupting k ks cells h o is by e =
    ap (tries_from options next onward ks cells h)
    ((container-laws k).begins_is options interrupting cells (asking_here (container_of k) h) is refl refl by
    ∙ ap (λ (x : Option Passed). passed_by x (asking_here (container_of k) h)) e)

none-tried : (options : ParseOptions) (next onward : Rule) (interrupting : Bool) (ks : List ContainerKind)
    (cells : List Cell) (h : Here) →
    IsRest h.scratch → interrupting ≡ by_flags h.flags → opens_by options interrupting cells h.point ks ≡ None →
    Refused options next cells h (opens_of options onward (after_containers options next) ks cells h)
none-tried options next onward interrupting [] cells h is by e =
    record { asked = h.flags.asked; column = h.flags.asked_column; is = refl }
none-tried options next onward interrupting (k ∷ ks) cells h is by e =
    go ((container_rules k).opens options interrupting cells h.point) refl e
    (none-tried options next onward interrupting ks cells (asking_here (container_of k) h) is by)
  where
    go : (o : Option Passed) → (container_rules k).opens options interrupting cells h.point ≡ o →
        option_or o (opens_by options interrupting cells h.point ks) ≡ None →
        (opens_by options interrupting cells h.point ks ≡ None →
        Refused options next cells (asking_here (container_of k) h)
        (opens_of options onward (after_containers options next) ks cells (asking_here (container_of k) h))) →
        Refused options next cells h (opens_of options onward (after_containers options next) (k ∷ ks) cells h)
    go (Some t) e none more = cc
    go None e none more =
        let r = more none in
        record {
          asked = r.asked;
          column = r.column;
          is = first-tried options next onward interrupting k ks cells h None is by e ∙ r.is;
        }

one-tried : (options : ParseOptions) (next onward : Rule) (interrupting : Bool) (ks : List ContainerKind)
    (cells : List Cell) (h : Here) (t : Passed) →
    IsRest h.scratch → interrupting ≡ by_flags h.flags → opens_by options interrupting cells h.point ks ≡ Some t →
    opens_of options onward (after_containers options next) ks cells h ≡
    onward t.cells (passed_here t (asking_here t.held h))
one-tried options next onward interrupting [] cells h t is by e = cc
one-tried options next onward interrupting (k ∷ ks) cells h t is by e =
    go ((container_rules k).opens options interrupting cells h.point) refl e
    (one-tried options next onward interrupting ks cells (asking_here (container_of k) h) t is by)
  where
    Opens : Type 0
    Opens =
        opens_of options onward (after_containers options next) (k ∷ ks) cells h ≡
        onward t.cells (passed_here t (asking_here t.held h))

    go : (o : Option Passed) → (container_rules k).opens options interrupting cells h.point ≡ o →
        option_or o (opens_by options interrupting cells h.point ks) ≡ Some t →
        (opens_by options interrupting cells h.point ks ≡ Some t →
        opens_of options onward (after_containers options next) ks cells (asking_here (container_of k) h) ≡
        onward t.cells (passed_here t (asking_here t.held h))) →
        Opens
    go (Some u) e some more =
        first-tried options next onward interrupting k ks cells h (Some t) is by (e ∙ some)
    go None e some more = first-tried options next onward interrupting k ks cells h None is by e ∙ more some

pub new-none : (options : ParseOptions) (next : Rule) (interrupting : Bool) (m : ℕ) (cells : List Cell) (h : Here) →
    IsRest h.scratch → interrupting ≡ by_flags h.flags → opens_at options interrupting cells h.point ≡ None →
    Refused options next cells h (new_from options next (suc m) cells h)
unfolding new_from
new-none options next interrupting m cells h is by e =
    none-tried options next (λ rest k. new_from options next m rest (opened k)) interrupting openers cells h is by e

-- after the first prefix of one that opens
abbrev pub opened_by : Passed → Here → Here
opened_by t h = opened (passed_here t (asking_here t.held h))

pub new-one : (options : ParseOptions) (next : Rule) (interrupting : Bool) (m : ℕ) (cells : List Cell) (h : Here)
    (t : Passed) →
    IsRest h.scratch → interrupting ≡ by_flags h.flags → opens_at options interrupting cells h.point ≡ Some t →
    new_from options next (suc m) cells h ≡ new_from options next m t.cells (opened_by t h)
unfolding new_from
new-one options next interrupting m cells h t is by e =
    one-tried options next (λ rest k. new_from options next m rest (opened k)) interrupting openers cells h t is by e

-- after these containers, which continue or are new, others open
pub record Opened (options : ParseOptions) (next : Rule) (cs : List Container) (h : Here) (f : Front)
    (o : Outcome) : Type 0 where
  pub new : Here
  pub is : o ≡ after_containers options next f.cells new
  pub rest : IsRest new.scratch
  pub events : new.events ≡ h.events ++ f.events
  pub point : new.point ≡ f.point
  pub containers : AreOpen new.flags.containers (cs ++ f.containers)
  pub all : new.flags.continued ≡ length new.flags.containers
  pub leaf : new.flags.leaf ≡ held_leaf.None
  pub blank : new.flags.blank ≡ h.flags.blank

-- where none opens
opened-none : (options : ParseOptions) (next : Rule) (cs : List Container) (cells : List Cell) (h : Here)
    (o : Outcome) →
    Refused options next cells h o → IsRest h.scratch → AreOpen h.flags.containers cs →
    h.flags.continued ≡ length h.flags.containers → h.flags.leaf ≡ held_leaf.None →
    Opened options next cs h (no_front cells h.point) o
opened-none options next cs cells h o refused is are all shut = record {
  new = asked_at refused.asked refused.column h;
  is = refused.is;
  rest = is;
  events = sym (append-nil h.events);
  point = refl;
  containers = let P : List Container → Type 0 = λ l. AreOpen h.flags.containers l in subst P (sym (append-nil cs)) are;
  all = all;
  leaf = shut;
  blank = refl;
}

-- where no leaf is open, what opens interrupts none
interrupts-none : (g : Flags) → g.leaf ≡ held_leaf.None → false ≡ by_flags g
interrupts-none g shut =
    sym (ap (λ (leaf : HeldLeaf). is_interrupted leaf && (g.continued == length g.containers)) shut)

pub new-more : (options : ParseOptions) (next : Rule) (m size : ℕ) (cs : List Container) (cells : List Cell)
    (h : Here) → IsRest h.scratch → length cells < m → length cells ≤ size → AreOpen h.flags.containers cs →
    h.flags.continued ≡ length h.flags.containers → h.flags.leaf ≡ held_leaf.None →
    Opened options next cs h (opened_prefixes options false size cells h.point) (new_from options next m cells h)
new-more options next zero size cs cells h is some most are all shut = absurd (omega arith)
new-more options next (suc m) zero cs cells h is some most are all shut =
    opened-none options next cs cells h (new_from options next (suc m) cells h)
    (new-none options next false m cells h is (interrupts-none h.flags shut)
    (opens-none options false cells h.point most)) is are all shut
new-more options next (suc m) (suc size) cs cells h is some most are all shut =
    go
    (λ t lt le more.
    new-more options next m size (cs ++ t.container ∷ []) t.cells (opened_by t h) is lt le more refl refl)
    (opens_at options false cells h.point) refl
  where
    by : false ≡ by_flags h.flags
    by = interrupts-none h.flags shut

    Further : Type 0
    Further =
        (t : Passed) → length t.cells < m → length t.cells ≤ size →
        AreOpen (opened_by t h).flags.containers (cs ++ t.container ∷ []) →
        Opened options next (cs ++ t.container ∷ []) (opened_by t h)
        (opened_prefixes options false size t.cells t.point) (new_from options next m t.cells (opened_by t h))

    go : Further → (x : Option Passed) → opens_at options false cells h.point ≡ x →
        Opened options next cs h
        (elim x [
          | None ↦ no_front cells h.point
          | Some t ↦ in_front t (opened_prefixes options false size t.cells t.point)
        ])
        (new_from options next (suc m) cells h)
    go more None e =
        opened-none options next cs cells h (new_from options next (suc m) cells h)
        (new-none options next false m cells h is by e) is are all shut
    go more (Some t) e =
        let shorter = opens-shorter options false cells h.point t e in
        let f : Front = opened_prefixes options false size t.cells t.point in
        let begun : AreOpen (opened_by t h).flags.containers (cs ++ t.container ∷ []) =
        open-append (take h.flags.continued h.flags.containers) (t.held ∷ []) cs (t.container ∷ [])
        (open-all h.flags.continued h.flags.containers cs all are)
        (opens-same options false cells h.point t e, tt) in
        let o = more t (omega (arith, shorter)) (omega (arith, shorter)) begun in
        let none : (opened_by t h).events ≡
        h.events
        ++ t.events = closed-none h.flags.continued h.flags.line_end h.flags.containers
        (h.events ++ t.events) t.point (omega arith) in
        let P : List Container → Type 0 = λ l. AreOpen o.new.flags.containers l in
        record {
          new = o.new;
          is = new-one options next false m cells h t is by e ∙ o.is;
          rest = o.rest;
          events = o.events ∙ ap (λ (es : List Event). es ++ f.events) none ∙ append_assoc h.events t.events f.events;
          point = o.point;
          containers = subst P (append_assoc cs (t.container ∷ []) f.containers) o.containers;
          all = o.all;
          leaf = o.leaf;
          blank = o.blank;
        }
