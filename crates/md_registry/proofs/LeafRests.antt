-- Leaves whose trial, begun at rest, takes the line or refuses it at rest, whatever the line.
use Rattle.std.proofs.Common.{◌≡◌, Bool, true, false, cond, List, refl, subst, sym}
use Rattle.md_engine.specs.declared.configuration.ParseOptions.{ParseOptions}
use Rattle.md_engine.specs.declared.tokenizer.Scratch.{Scratch}
use Rattle.md_engine.specs.Meaning.{Accepts, Cell, Fails, Here, Outcome, Refuses}
use Rattle.md_engine.specs.World.{Flags}
use Rattle.md_events.specs.Spaces.{IsRest}
use Rattle.proof_frame.specs.LeafName.{LeafName}
use Rattle.proof_frame.specs.Rule.{Rule, tried}
use Rattle.md_registry.specs.Registry.{leaf}

-- an outcome that refuses does so at rest
abbrev pub RestsAfter : Outcome → Type 0
RestsAfter (Accepts h rest) = Unit {0}
RestsAfter (Refuses s g) = IsRest s
RestsAfter Fails = Unit {0}

pub cond-rests : (x : Bool) (a b : Outcome) → RestsAfter a → RestsAfter b → RestsAfter (cond x a b)
cond-rests true a b p q = p
cond-rests false a b p q = q

-- so two ways to continue a refused trial are one, where they agree at rest
pub tried-agree : (o : Outcome) (onward : Rule) (f g : Scratch → Flags → Outcome) → RestsAfter o →
    ((s : Scratch) (x : Flags) → IsRest s → f s x ≡ g s x) → tried o onward f ≡ tried o onward g
tried-agree (Accepts h rest) onward f g rests same = refl
tried-agree (Refuses s x) onward f g rests same = same s x rests
tried-agree Fails onward f g rests same = refl

-- a leaf's trial does so
abbrev pub Rests : LeafName → Type 0
Rests l = (options : ParseOptions) (cells : List Cell) (h : Here) → IsRest h.scratch →
    RestsAfter ((leaf l).trial options cells h)

-- where it accepts a line that it takes, and leaves all as it was where it does not
pub taken-or-not : (x : Bool) (o a : Outcome) (h : Here) → IsRest h.scratch → RestsAfter a → (x ≡ true → o ≡ a) →
    (x ≡ false → o ≡ Refuses h.scratch h.flags) → RestsAfter o
taken-or-not true o a h is fine took refused = subst RestsAfter (sym (took refl)) fine
taken-or-not false o a h is fine took refused = subst RestsAfter (sym (refused refl)) is
