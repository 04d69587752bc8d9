-- One step of a writer through its tokens.
use Rattle.std.proofs.Common.{◌≡◌, ℕ, zero, suc, ◌+◌, ◌-◌, ◌<◌, ◌≤◌, Bool, true, false, List, [], ◌∷◌, ◌++◌, cond}
use Rattle.std.proofs.Common.{length, take, drop}
use Rattle.std.proofs.Common.{refl, ap, sym, ◌∙◌, append_assoc, slice_index_or, subst, arith}
use Rattle.std.proofs.lemmas.List.{append-nil, drop_more}
use Rattle.md_engine.specs.declared.event.Name.{Name}
use Rattle.md_engine.specs.declared.event.Point.{Point}
use Rattle.md_events.specs.Events.Inline.{pair_unless_empty}
use Rattle.md_events.specs.Events.Nested.{pair}
use Rattle.md_events.proofs.InlineLemmas.{same-refl}
use Rattle.md_inline_events.specs.Cursor.{back_of, before_piece, begun, entering, first_back, first_front, is_piece}
use Rattle.md_inline_events.specs.Cursor.{left_first, marks_left, passed, piece_len, piece_name, rest_marks}
use Rattle.md_inline_events.specs.Cursor.{token_marks}
use Rattle.md_inline_events.specs.Marks.{Mark, begins, stays}
use Rattle.md_inline_events.specs.declared.token.Token.{Token}
use Rattle.md_inline_events.specs.declared.token.Token.TheVariants as t

-- Within a piece nothing begins, and before its last byte nothing ends; after all pieces neither does.

no-back : (count : ℕ) → first_back (drop count (marks_left 0 [])) ≡ stays
no-back zero = refl
no-back (suc count) = refl

before-last : (left last : ℕ) (ts : List Token) → (left ≡ 0 → ts ≡ []) → (0 < left → suc last < left) →
    first_back (drop last (marks_left left ts)) ≡ stays
before-last zero last ts none fits =
    subst (λ (l : List Token). first_back (drop last (marks_left 0 l)) ≡ stays) (sym (none refl)) (no-back last)
before-last (suc zero) last ts none fits = absurd (omega (arith, fits (omega arith)))
before-last (suc (suc left)) zero ts none fits = refl
before-last (suc (suc left)) (suc last) ts none fits =
    before-last (suc left) last ts (λ k. absurd (omega (arith, k))) (λ k. omega (arith, fits (omega arith)))

within-marks : (left count less : ℕ) (ts : List Token) → (left ≡ 0 → ts ≡ []) → (0 < left → count < left) →
    less ≡ left - count → marks_left less ts ≡ drop count (marks_left left ts)
within-marks left zero less ts none fits e =
    let same : less ≡ left = omega (arith, e) in ap (λ (k : ℕ). marks_left k ts) same
within-marks zero (suc count) less ts none fits e =
    let zero-less : less ≡ 0 = omega (arith, e) in
    ap (λ (k : ℕ). marks_left k ts) zero-less
    ∙ ap (λ (l : List Token). marks_left 0 l) (none refl)
    ∙ ap (λ (l : List Token). drop (suc count) (marks_left 0 l)) (sym (none refl))
within-marks (suc zero) (suc count) less ts none fits e = absurd (omega (arith, fits (omega arith)))
within-marks (suc (suc left)) (suc count) less ts none fits e =
    within-marks (suc left) count less ts (λ k. absurd (omega (arith, k))) (λ k. omega (arith, fits (omega arith)))
    (omega (arith, e))

at-last : (last : ℕ) (ts : List Token) → first_back (drop last (marks_left (suc last) ts)) ≡ back_of (left_first ts)
at-last zero ts = refl
at-last (suc last) ts = at-last last ts

after-last : (last : ℕ) (ts : List Token) → drop (suc last) (marks_left (suc last) ts) ≡ token_marks [] ts
after-last zero ts = refl
after-last (suc last) ts = after-last last ts

pub far_back : (left count : ℕ) (ts : List Token) → 0 < count → (left ≡ 0 → ts ≡ []) → (0 < left → count ≤ left) →
    (left ≡ count → ⊥) → first_back (drop (count - 1) (marks_left left ts)) ≡ stays
far_back left count ts some none fits other =
    before-last left (count - 1) ts none (λ k. let h = fits k in omega (arith, h, some, other))

pub far_marks : (left count less : ℕ) (ts : List Token) → (left ≡ 0 → ts ≡ []) → (0 < left → count ≤ left) →
    (left ≡ count → ⊥) → less ≡ left - count → marks_left less ts ≡ drop count (marks_left left ts)
far_marks left count less ts none fits other e =
    within-marks left count less ts none (λ k. let h = fits k in omega (arith, h, other)) e

pub last_back : (left count : ℕ) (ts : List Token) → 0 < count → left ≡ count →
    first_back (drop (count - 1) (marks_left left ts)) ≡ back_of (left_first ts)
last_back left count ts some same =
    let one : left ≡ suc (count - 1) = omega (arith, some, same) in
    ap (λ (k : ℕ). first_back (drop (count - 1) (marks_left k ts))) one ∙ at-last (count - 1) ts

pub last_marks : (left count : ℕ) (ts : List Token) → 0 < count → left ≡ count →
    drop count (marks_left left ts) ≡ token_marks [] ts
last_marks left count ts some same =
    let one : left ≡ suc (count - 1) = omega (arith, some, same) in
    let two : count ≡ suc (count - 1) = omega (arith, some) in
    ap (λ (k : ℕ). drop count (marks_left k ts)) one
    ∙ ap (λ (k : ℕ). drop k (marks_left (suc (count - 1)) ts)) two ∙ after-last (count - 1) ts

-- A piece begins.

pub piece_here : (ts : List Token) (i : ℕ) (d : Token) → i < length ts → is_piece (slice_index_or ts i d) ≡ true →
    before_piece (drop i ts) ≡ 0
piece_here ts i d h is =
    ap before_piece (drop_more ts i d h)
    ∙ ap (λ (x : Bool). cond x 0 (suc (before_piece (drop (i + 1) ts)))) is

pub piece_later : (ts : List Token) (i : ℕ) (d : Token) → i < length ts → is_piece (slice_index_or ts i d) ≡ false →
    before_piece (drop i ts) ≡ suc (before_piece (drop (i + 1) ts))
piece_later ts i d h is =
    ap before_piece (drop_more ts i d h)
    ∙ ap (λ (x : Bool). cond x 0 (suc (before_piece (drop (i + 1) ts)))) is

-- none is left
pub no_piece : (opens : List Name) (ts : List Token) → length ts ≤ before_piece ts → token_marks opens ts ≡ []
no_piece opens [] h = refl
no_piece opens (t.Enters name ∷ ts) h = no_piece (opens ++ name ∷ []) ts (omega (arith, h))
no_piece opens (t.Leaves name ∷ ts) h = no_piece opens ts (omega (arith, h))
no_piece opens (t.Over name zero ∷ ts) h = no_piece opens ts (omega (arith, h))
no_piece opens (t.Over name (suc more) ∷ ts) h = absurd (omega (arith, h))

-- what stops the search is one
stops : (ts rest : List Token) (token : Token) → drop (before_piece ts) ts ≡ token ∷ rest → 0 < piece_len token
stops [] rest token h = cc
stops (t.Enters name ∷ ts) rest token h = stops ts rest token h
stops (t.Leaves name ∷ ts) rest token h = stops ts rest token h
stops (t.Over name zero ∷ ts) rest token h = stops ts rest token h
stops (t.Over name (suc more) ∷ ts) rest token h =
    let same : t.Over name (suc more) ≡ token = cc in
    subst (λ (k : Token). 0 < piece_len k) same (omega arith)

next-piece : (opens : List Name) (ts rest : List Token) (token : Token) →
    drop (before_piece ts) ts ≡ token ∷ rest →
    token_marks opens ts ≡
    begun (opens ++ entering (take (before_piece ts) ts)) (piece_name token)
    (rest_marks (piece_len token) (left_first rest))
    ++ token_marks [] rest
next-piece opens [] rest token h = cc
next-piece opens (t.Enters name ∷ ts) rest token h =
    next-piece (opens ++ name ∷ []) ts rest token h
    ∙ ap (λ (l : List Name). begun l (piece_name token) (rest_marks (piece_len token) (left_first rest)) ++
    token_marks [] rest)
    (append_assoc opens (name ∷ []) (entering (take (before_piece ts) ts)))
next-piece opens (t.Leaves name ∷ ts) rest token h = next-piece opens ts rest token h
next-piece opens (t.Over name zero ∷ ts) rest token h = next-piece opens ts rest token h
next-piece opens (t.Over name (suc more) ∷ ts) rest token h =
    let one : t.Over name (suc more) ≡ token = cc in
    let two : ts ≡ rest = cc in
    ap (λ (l : List Name). begun l name (rest_marks (suc more) (left_first ts)) ++ token_marks [] ts)
    (sym (append-nil opens))
    ∙ ap (λ (k : Token). begun (opens ++ []) (piece_name k) (rest_marks (piece_len k) (left_first ts)) ++ token_marks
    [] ts) one
    ∙ ap (λ (l : List Token). begun (opens ++ []) (piece_name token) (rest_marks (piece_len token) (left_first l)) ++
    token_marks [] l) two

begun-front : (opens closes : List Name) (name : Name) (left : ℕ) (ms : List Mark) → 0 < left →
    first_front (begun opens name (rest_marks left closes) ++ ms) ≡ begins opens name
begun-front opens closes name zero ms h = absurd (omega (arith, h))
begun-front opens closes name (suc zero) ms h = refl
begun-front opens closes name (suc (suc more)) ms h = refl

begun-passed : (opens closes : List Name) (name : Name) (left : ℕ) (ms : List Mark) → 0 < left →
    passed (begun opens name (rest_marks left closes) ++ ms) ≡ rest_marks left closes ++ ms
begun-passed opens closes name zero ms h = absurd (omega (arith, h))
begun-passed opens closes name (suc zero) ms h = refl
begun-passed opens closes name (suc (suc more)) ms h = refl

pub piece_front : (ts rest opening : List Token) (token : Token) (k : ℕ) → k ≡ before_piece ts →
    drop k ts ≡ token ∷ rest → opening ≡ take k ts →
    first_front (marks_left 0 ts) ≡ begins (entering opening) (piece_name token)
piece_front ts rest opening token k e h o =
    let at : drop (before_piece ts) ts ≡ token ∷ rest = ap (λ (i : ℕ). drop i ts) (sym e) ∙ h in
    ap first_front (next-piece [] ts rest token at)
    ∙ begun-front (entering (take (before_piece ts) ts)) (left_first rest) (piece_name token) (piece_len token)
    (token_marks [] rest) (stops ts rest token at)
    ∙ ap (λ (l : List Token). begins (entering l) (piece_name token)) (ap (λ (i : ℕ). take i ts) (sym e) ∙ sym o)

pub piece_passed : (ts rest : List Token) (token : Token) (k : ℕ) → k ≡ before_piece ts →
    drop k ts ≡ token ∷ rest → marks_left (piece_len token) rest ≡ passed (marks_left 0 ts)
piece_passed ts rest token k e h =
    let at : drop (before_piece ts) ts ≡ token ∷ rest = ap (λ (i : ℕ). drop i ts) (sym e) ∙ h in
    sym
    (ap passed (next-piece [] ts rest token at)
    ∙ begun-passed (entering (take (before_piece ts) ts)) (left_first rest) (piece_name token) (piece_len token)
    (token_marks [] rest) (stops ts rest token at))

pub piece_some : (ts rest : List Token) (token : Token) (k : ℕ) → k ≡ before_piece ts → drop k ts ≡ token ∷ rest →
    0 < piece_len token
piece_some ts rest token k e h = stops ts rest token (ap (λ (i : ℕ). drop i ts) (sym e) ∙ h)

-- What begins before a byte, where `k` tokens are before its piece.
pub record Begins (left : ℕ) (ts opening rest : List Token) (made : Name × ℕ) : Type 0 where
  pub front : first_front (marks_left left ts) ≡ begins (entering opening) made.0
  pub marks : marks_left made.1 rest ≡ passed (marks_left left ts)
  pub some : 0 < made.1

pub begins_here : (left : ℕ) (ts split opening rest : List Token) (k : ℕ) (d : Token) (made : Name × ℕ) → left ≤ 0 →
    k ≡ before_piece ts → k < length ts → split ≡ drop k ts → opening ≡ take k ts → rest ≡ drop 1 split →
    made ≡ (piece_name (slice_index_or ts k d), piece_len (slice_index_or ts k d)) → Begins left ts opening rest made
begins_here left ts split opening rest k d made z e lt s o r m =
    let token : Token = slice_index_or ts k d in
    let zero : 0 ≡ left = omega (arith, z) in
    let tail : rest ≡ drop (k + 1) ts = r ∙ ap (λ (l : List Token). drop 1 l) (s ∙ drop_more ts k d lt) in
    let at : drop k ts ≡ token ∷ rest = drop_more ts k d lt ∙ ap (λ (l : List Token). token ∷ l) (sym tail) in
    subst (λ (l : ℕ). Begins l ts opening rest made) zero
    (subst (λ (x : Name × ℕ). Begins 0 ts opening rest x) (sym m)
    (record {
      front = piece_front ts rest opening token k e at o;
      marks = piece_passed ts rest token k e at;
      some = piece_some ts rest token k e at;
    }))

-- Parts end one after the other.

pub no-pair : (name : Name) (p : Point) → pair_unless_empty name p p ≡ []
no-pair name p = ap (λ (x : Bool). cond x [] (pair name p p)) (same-refl p)
