-- Texts and parentheses, one byte at a time.
use Rattle.std.proofs.Common.{◌≡◌, ℕ, ◌+◌, ◌-◌, ◌<◌, ◌≤◌, Bool, true, false, ◌==◌, if◌then◌else◌, List, [], ◌∷◌, ◌++◌}
use Rattle.std.proofs.Common.{length, take, drop, Option, Some, None, Bor, refl, sym, ap, subst}
use Rattle.std.proofs.Common.{eqb-true, ◌∙◌, get_or, add-one, drop-cons, arith, append_assoc, append-nil}
use Rattle.std.proofs.Math.Seq.{take-append_seam}
use Rattle.std.proofs.Math.ListN.{drop_of_length-le}
use Rattle.std.proofs.lemmas.List.{length-append}
use Rattle.md_meaning.specs.Enclosed.{Enclosed, Closed, Open, Broken, with_byte, enclosed}
use Rattle.md_meaning.specs.Definition.{balanced}
use Rattle.md_scan.specs.Definitions.{texts, is_bare, depth_following}

-- with these bytes before the text
abbrev pub with_bytes : List ℕ → Enclosed → Enclosed
with_bytes bytes (Closed text rest) = Closed (bytes ++ text) rest
with_bytes bytes Open = Open
with_bytes bytes Broken = Broken

with_bytes-with_byte : (bytes : List ℕ) (b : ℕ) (e : Enclosed) →
    with_bytes bytes (with_byte b e) ≡ with_bytes (bytes ++ b ∷ []) e
with_bytes-with_byte bytes b (Closed text rest) = rw append_assoc refl
with_bytes-with_byte bytes b Open = refl
with_bytes-with_byte bytes b Broken = refl

with_bytes-nil : (e : Enclosed) → with_bytes [] e ≡ e
with_bytes-nil (Closed text rest) = refl
with_bytes-nil Open = refl
with_bytes-nil Broken = refl

-- What is left of a text on a line, and what was seen of it.
pub record TextIn (opener closer : ℕ) (escaped : Bool) (rest line : List ℕ) : Type 0 where
  pub seen : List ℕ
  pub whole : seen ++ rest ≡ line
  pub proceeds : with_bytes seen (enclosed opener closer escaped rest) ≡ enclosed opener closer false line

pub TextIn-whole : (opener closer : ℕ) (line : List ℕ) → TextIn opener closer false line line
TextIn-whole opener closer line = record {
  seen = [];
  whole = refl;
  proceeds = with_bytes-nil (enclosed opener closer false line);
}

pub enclosed-closer : (opener closer : ℕ) (escaped : Bool) (b : ℕ) (bs : List ℕ) → is_bare escaped b closer ≡ true →
    enclosed opener closer escaped (b ∷ bs) ≡ Closed [] bs
unfolding enclosed
enclosed-closer opener closer true b bs e = cc
enclosed-closer opener closer false b bs e = rw e refl

pub enclosed-opener : (opener closer : ℕ) (escaped : Bool) (b : ℕ) (bs : List ℕ) → is_bare escaped b closer ≡ false →
    is_bare escaped b opener ≡ true → enclosed opener closer escaped (b ∷ bs) ≡ Broken
unfolding enclosed
enclosed-opener opener closer true b bs e f = cc
enclosed-opener opener closer false b bs e f = rw (e, f) refl

pub enclosed-byte : (opener closer : ℕ) (escaped : Bool) (b : ℕ) (bs : List ℕ) → is_bare escaped b closer ≡ false →
    is_bare escaped b opener ≡ false →
    enclosed opener closer escaped (b ∷ bs) ≡ with_byte b (enclosed opener closer (is_bare escaped b 92) bs)
unfolding enclosed
enclosed-byte opener closer true b bs e f = refl
enclosed-byte opener closer false b bs e f = rw (e, f) refl

take-seen : (seen rest : List ℕ) → take (length (seen ++ rest) - length rest) (seen ++ rest) ≡ seen
take-seen seen rest =
    let n : length (seen ++ rest) - length rest ≡ length seen = omega (arith, length-append seen rest) in
    rw n (take-append_seam seen rest)

enclosed-nil : (opener closer : ℕ) (escaped : Bool) → enclosed opener closer escaped [] ≡ Open
unfolding enclosed
enclosed-nil opener closer true = refl
enclosed-nil opener closer false = refl

pub TextIn-closed : {opener closer b : ℕ} {escaped : Bool} {rest others line : List ℕ} →
    TextIn opener closer escaped rest line → rest ≡ b ∷ others → is_bare escaped b closer ≡ true →
    Closed (take (length line - length rest) line) others ≡ enclosed opener closer false line
TextIn-closed {opener} {closer} {b} {escaped} {rest} {others} {line} t e bare =
    let text : take (length line - length rest) line ≡
    t.seen = subst (λ l. take (length l - length rest) l ≡ t.seen) t.whole (take-seen t.seen rest) in
    let proceeds : with_bytes t.seen (enclosed opener closer escaped (b ∷ others)) ≡
    enclosed opener closer false line = subst
    (λ r. with_bytes t.seen (enclosed opener closer escaped r) ≡ enclosed opener closer false line) e t.proceeds in
    let closes : Closed (t.seen ++ []) others ≡
    enclosed opener closer false line = rw (enclosed-closer opener closer escaped b others bare) at proceeds in
    rw text (rw append-nil at closes)

pub TextIn-broken : {opener closer b : ℕ} {escaped : Bool} {rest others line : List ℕ} →
    TextIn opener closer escaped rest line → rest ≡ b ∷ others → is_bare escaped b closer ≡ false →
    is_bare escaped b opener ≡ true → Broken ≡ enclosed opener closer false line
TextIn-broken {opener} {closer} {b} {escaped} {rest} {others} {line} t e stays bare =
    let proceeds : with_bytes t.seen (enclosed opener closer escaped (b ∷ others)) ≡
    enclosed opener closer false line = subst
    (λ r. with_bytes t.seen (enclosed opener closer escaped r) ≡ enclosed opener closer false line) e t.proceeds in
    rw (enclosed-opener opener closer escaped b others stays bare) at proceeds

pub TextIn-open : {opener closer : ℕ} {escaped : Bool} {rest line : List ℕ} → TextIn opener closer escaped rest line →
    length rest ≡ 0 → Open ≡ enclosed opener closer false line
TextIn-open {opener} {closer} {escaped} {rest = []} {line} t e = rw (enclosed-nil opener closer escaped) at t.proceeds
TextIn-open {opener} {closer} {escaped} {rest = b ∷ bs} {line} t e = absurd (omega arith)

pub TextIn-byte : {opener closer b : ℕ} {escaped : Bool} {rest others line : List ℕ} →
    TextIn opener closer escaped rest line → rest ≡ b ∷ others → is_bare escaped b closer ≡ false →
    is_bare escaped b opener ≡ false → TextIn opener closer (is_bare escaped b 92) others line
TextIn-byte {opener} {closer} {b} {escaped} {rest} {others} {line} t e stays neither =
    let proceeds : with_bytes t.seen (enclosed opener closer escaped (b ∷ others)) ≡
    enclosed opener closer false line = subst
    (λ r. with_bytes t.seen (enclosed opener closer escaped r) ≡ enclosed opener closer false line) e t.proceeds in
    record {
      seen = t.seen ++ b ∷ [];
      whole = append_assoc t.seen (b ∷ []) others ∙ sym (ap (λ r. t.seen ++ r) e) ∙ t.whole;
      proceeds =
          sym (with_bytes-with_byte t.seen b (enclosed opener closer (is_bare escaped b 92) others))
          ∙ (rw (enclosed-byte opener closer escaped b others stays neither) at proceeds);
    }

-- what is left of balanced text after a byte
abbrev pub balanced_after : Option ℕ → Bool → List ℕ → Bool
balanced_after None escaped rest = false
balanced_after (Some depth) escaped rest = balanced depth escaped rest

balanced-bare : (depth b : ℕ) (bs : List ℕ) (closes is_zero opens : Bool) → (b == 41) ≡ closes →
    (depth == 0) ≡ is_zero → (b == 40) ≡ opens →
    balanced depth false (b ∷ bs) ≡ balanced_after (depth_following false depth b) (b == 92) bs
unfolding balanced
balanced-bare depth b bs true true opens e f g = rw (e, f) refl
balanced-bare depth b bs true false opens e f g =
    let not_open : (b == 40) ≡ false = rw (eqb-true b 41 e) refl in rw (e, f, not_open) refl
balanced-bare depth b bs false is_zero true e f g = rw (e, g) refl
balanced-bare depth b bs false is_zero false e f g = rw (e, g) refl

pub balanced-byte : (depth : ℕ) (escaped : Bool) (b : ℕ) (bs : List ℕ) →
    balanced depth escaped (b ∷ bs) ≡ balanced_after (depth_following escaped depth b) (is_bare escaped b 92) bs
unfolding balanced
balanced-byte depth true b bs = refl
balanced-byte depth false b bs = balanced-bare depth b bs (b == 41) (depth == 0) (b == 40) refl refl refl

pub balanced-stops : (depth : ℕ) (escaped : Bool) (b : ℕ) (others rest : List ℕ) → rest ≡ b ∷ others →
    None ≡ depth_following escaped depth b → balanced depth escaped rest ≡ false
balanced-stops depth escaped b others rest e f =
    ap (balanced depth escaped) e ∙ balanced-byte depth escaped b others
    ∙ ap (λ d. balanced_after d (is_bare escaped b 92) others) (sym f)

pub balanced-proceeds : (depth following : ℕ) (escaped : Bool) (b : ℕ) (others rest : List ℕ) → rest ≡ b ∷ others →
    Some following ≡ depth_following escaped depth b →
    balanced depth escaped rest ≡ balanced following (is_bare escaped b 92) others
balanced-proceeds depth following escaped b others rest e f =
    ap (balanced depth escaped) e ∙ balanced-byte depth escaped b others
    ∙ ap (λ d. balanced_after d (is_bare escaped b 92) others) (sym f)

pub balanced-ends : (depth : ℕ) (escaped : Bool) (rest : List ℕ) → length rest ≡ 0 →
    balanced depth escaped rest ≡ (depth == 0)
unfolding balanced
balanced-ends depth true [] e = refl
balanced-ends depth false [] e = refl
balanced-ends depth escaped (b ∷ bs) e = absurd (omega arith)

pub depth_following-le : (escaped : Bool) (depth b following : ℕ) → Some following ≡ depth_following escaped depth b →
    following ≤ depth + 1
depth_following-le escaped depth b following e = go (is_bare escaped b 41) (depth == 0) (is_bare escaped b 40) e
  where
    go : (closes is_zero opens : Bool) →
        Some following ≡
        (if closes then (if is_zero then None else Some (depth - 1)) else if opens then Some (depth + 1)
        else Some depth) →
        following ≤ depth + 1
    go true true opens f = cc
    go true false opens f = let k : following ≡ depth - 1 = cc in omega arith
    go false is_zero true f = let k : following ≡ depth + 1 = cc in omega arith
    go false is_zero false f = let k : following ≡ depth = cc in omega arith

-- the lines from this one on
pub texts-drop : (lines : List (Bor (List ℕ))) (i : ℕ) (d : Bor (List ℕ)) → i < length lines →
    texts (drop i lines) ≡ (get_or lines i d).now ∷ texts (drop (i + 1) lines)
texts-drop lines i d h = rw (add-one, drop-cons lines i d) refl

pub texts-drop_all : (lines : List (Bor (List ℕ))) (i : ℕ) → length lines ≤ i → texts (drop i lines) ≡ []
texts-drop_all lines i h = ap texts (drop_of_length-le lines h)
