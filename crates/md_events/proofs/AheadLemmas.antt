-- What is known of the whitespace before a line, as a state is fed it.
use Rattle.std.proofs.Common.{◌≡◌, ℕ, zero, suc, ◌≤◌, Bool, true, false, cond, nat_eq, List, [], ◌∷◌, length, refl, ap}
use Rattle.std.proofs.Common.{arith}
use Rattle.std.proofs.lemmas.Bool.Decides.{nat_tests}
use Rattle.md_engine.specs.declared.configuration.ParseOptions.{ParseOptions}
use Rattle.md_engine.specs.declared.event.Point.{Point}
use Rattle.md_engine.specs.Meaning.{Cell}
use Rattle.md_events.specs.Ahead.{begins_white, from_ending, line_end, white_end, white_rest, white_size}
use Rattle.md_meaning.specs.Rest.{is_white}
use Rattle.md_events.specs.Spaces.{any_size, small_indent}

-- whitespace ends no line
pub white-no_ending : (c : ℕ) → is_white c ≡ true → nat_eq c 10 ≡ false
white-no_ending c s = grind (arith, nat_tests)

-- after its whitespace a line ends where it ends
pub white-ending : (room : ℕ) (cells : List Cell) → from_ending (white_rest room cells) ≡ from_ending cells
white-ending room [] = refl
white-ending zero (c ∷ cs) = refl
white-ending (suc room) (c ∷ cs) = go (is_white c.byte) refl (white-ending room cs)
  where
    go : (x : Bool) → is_white c.byte ≡ x → from_ending (white_rest room cs) ≡ from_ending cs →
        from_ending (white_rest (suc room) (c ∷ cs)) ≡ from_ending (c ∷ cs)
    go true e same = rw (white-no_ending c.byte e, e) same
    go false e same = rw e refl

pub white-line_end : (room : ℕ) (cells : List Cell) (p : Point) →
    line_end (white_rest room cells) (white_end room cells p) ≡ line_end cells p
white-line_end room [] p = refl
white-line_end zero (c ∷ cs) p = refl
white-line_end (suc room) (c ∷ cs) p = go (is_white c.byte) refl (white-line_end room cs c.after)
  where
    go : (x : Bool) → is_white c.byte ≡ x →
        line_end (white_rest room cs) (white_end room cs c.after) ≡ line_end cs c.after →
        line_end (white_rest (suc room) (c ∷ cs)) (white_end (suc room) (c ∷ cs) p) ≡ line_end (c ∷ cs) p
    go true e same = rw (white-no_ending c.byte e, e) same
    go false e same = rw e refl

-- a line that begins with none
pub none-rest : (room : ℕ) (cells : List Cell) → begins_white cells ≡ false → white_rest room cells ≡ cells
none-rest room [] e = refl
none-rest zero (c ∷ cs) e = refl
none-rest (suc room) (c ∷ cs) e = ap (λ (x : Bool). cond x (white_rest room cs) (c ∷ cs)) e

pub none-end : (room : ℕ) (cells : List Cell) (p : Point) → begins_white cells ≡ false → white_end room cells p ≡ p
none-end room [] p e = refl
none-end zero (c ∷ cs) p e = refl
none-end (suc room) (c ∷ cs) p e = ap (λ (x : Bool). cond x (white_end room cs c.after) p) e

pub none-size : (room : ℕ) (cells : List Cell) → begins_white cells ≡ false → white_size room cells ≡ 0
none-size room [] e = refl
none-size zero (c ∷ cs) e = refl
none-size (suc room) (c ∷ cs) e = ap (λ (x : Bool). cond x (suc (white_size room cs)) 0) e

-- an indent may have a column at least
pub small-some : (options : ParseOptions) → 1 ≤ small_indent options
small-some options = go options.constructs.code_indented
  where
    go : (b : Bool) → 1 ≤ cond b 3 any_size
    go true = omega arith
    go false = omega arith

-- all whitespace is taken
pub white-all : (room : ℕ) (cells : List Cell) → length cells ≤ room → begins_white (white_rest room cells) ≡ false
white-all room [] le = refl
white-all zero (c ∷ cs) le = absurd (omega (arith, le))
white-all (suc room) (c ∷ cs) le = go (is_white c.byte) refl (white-all room cs (omega (arith, le)))
  where
    go : (x : Bool) → is_white c.byte ≡ x → begins_white (white_rest room cs) ≡ false →
        begins_white (cond x (white_rest room cs) (c ∷ cs)) ≡ false
    go true e next = next
    go false e next = e
