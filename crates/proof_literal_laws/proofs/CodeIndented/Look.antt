-- One look at what is here shows whether indented code may begin: whitespace is before it, and any byte after that.
use Rattle.std.proofs.Common.{◌≡◌, ℕ, Bool, true, false, cond, ◌&&◌, nat_le, List, Option, Some, None, refl, ◌∙◌, ap}
use Rattle.std.specs.Option.{is_some}
use Rattle.std.specs.Prelude.{not, slice_range}
use Rattle.md_engine.specs.declared.configuration.ParseOptions.{ParseOptions}
use Rattle.md_engine.specs.declared.tokenizer.held_leaf.HeldLeaf.{HeldLeaf}
use Rattle.md_engine.specs.declared.tokenizer.held_leaf.HeldLeaf.TheVariants as held_leaf
use Rattle.md_engine.specs.Meaning.{Cell}
use Rattle.md_engine.specs.World.{World}
use Rattle.md_meaning.specs.Rest.{is_blank, is_white}
use Rattle.md_literal.specs.Code.{may_open}
use Rattle.md_events.specs.Ahead.{begins_white, line_bytes}
use Rattle.md_events.specs.Look.{following_code, first_following, looks_after, may_with, seen_after}
use Rattle.md_events.specs.Spaces.{sees_white}
use Rattle.md_events.proofs.AheadLemmas.{none-size}
use Rattle.proof_literal_laws.specs.Leaf.CodeIndented.{code_further, code_leaf}

-- A line without whitespace in front has no indent.
pub code-looked : (options : ParseOptions) (on : HeldLeaf) (cells : List Cell) (b : ℕ) → seen_after cells ≡ Some b →
    code_leaf.may_begin on (begins_white cells) b ≡ false → code_leaf.takes options on cells ≡ false
code-looked options on cells b seen e =
    let text : Bool = not (is_blank (line_bytes cells)) in
    let allowed : Bool = options.constructs.code_indented && may_open on in
    ap (λ (size : ℕ). is_some (cond (allowed && nat_le 4 size && text) (Some held_leaf.Code) None))
    (none-size 4 cells e)
    ∙ none allowed text
  where
    none : (x y : Bool) → is_some (cond (x && false && y) (Some held_leaf.Code) None) ≡ false
    none true y = refl
    none false y = refl

-- Any byte may be first on a further line.
pub code_further-looked : (options : ParseOptions) (on : HeldLeaf) (cells : List Cell) (b : ℕ) →
    seen_after cells ≡ Some b → code_further.may_begin on (begins_white cells) b ≡ false →
    code_further.takes options on cells ≡ false
code_further-looked options on cells b seen e = cc

-- What is first after whitespace does not count, and where nothing is that may be read, it is tried: so it is known
-- from what is here alone.
pub code-may : (w : World) →
    may_with (code_leaf.may_begin w.flags.leaf (sees_white w.current)) (looks_after w) ≡ may_with is_white w.current
unfolding looks_after
code-may w = go w.current
  where
    found : Option ℕ
    found = first_following (slice_range w.setting.bytes w.point.index w.setting.limit)

    any : (o : Option ℕ) → may_with (λ (b : ℕ). true) o ≡ true
    any None = refl
    any (Some b) = refl

    by : (b : ℕ) (x : Bool) → may_with (λ (c : ℕ). x) (cond x found (Some b)) ≡ x
    by b true = any found
    by b false = refl

    go : (o : Option ℕ) →
        may_with (code_leaf.may_begin w.flags.leaf (sees_white o)) (following_code o found) ≡ may_with is_white o
    go None = refl
    go (Some b) = by b (is_white b)
