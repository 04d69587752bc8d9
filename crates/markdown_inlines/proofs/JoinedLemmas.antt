-- Text beside text is one token among the tokens of a forest as it is one piece in the forest.
use Rattle.std.proofs.Common.{◌≡◌, ℕ, zero, suc, ◌+◌, Bool, true, false, cond, ◌&&◌, List, [], ◌∷◌, ◌++◌}
use Rattle.std.proofs.Common.{refl, ap, sym, ◌∙◌, append_assoc, append-nil, arith}
use Rattle.std.specs.Prelude.{◌||◌, not, nat_lt}
use Rattle.std.proofs.lemmas.Bool.{and_parts}
use Rattle.md_engine.specs.declared.event.Name.{Name}
use Rattle.md_engine.specs.declared.event.Name.TheVariants as n
use Rattle.md_events.specs.Events.Pieces.{is_piece_name}
use Rattle.md_inline_events.specs.Forest.{Forest, has_names, nothing, over, part, piece, size}
use Rattle.md_inline_events.specs.Tokens.{around, tokens}
use Rattle.md_inline_events.specs.declared.token.Token.{Token}
use Rattle.md_inline_events.specs.declared.token.Token.TheVariants as t
use Rattle.md_inlines.specs.Atoms.{is_data, joined, merged}
use Rattle.proof_inlines.proofs.ContentForests.{PartNames, merged-over, own, part-names, piece-names, size-part}
use Rattle.proof_inlines.proofs.ContentForests.{size-piece}
use Rattle.proof_inlines.specs.Sized.{Over}
use Rattle.markdown_inlines.specs.Addressed.{joined_after, texts}
use Rattle.markdown_inlines.specs.Readable.{begins_apart, is_readable}

-- A forest is over no byte if and only if it has no token.

pub none-size : (forest : Forest) → tokens forest ≡ [] → size forest ≡ 0
none-size nothing h = refl
none-size (piece name more following) h = cc
none-size (part name inside following) h = go (tokens inside) h (none-size inside) (none-size following)
  where
    go : (list : List Token) → around name list ++ tokens following ≡ [] → (list ≡ [] → size inside ≡ 0) →
        (tokens following ≡ [] → size following ≡ 0) → size (part name inside following) ≡ 0
    go [] h first second = omega (arith, size-part name inside following, first refl, second h)
    go (token ∷ list) h first second = cc

pub size-none : (forest : Forest) → size forest ≡ 0 → tokens forest ≡ []
size-none nothing h = refl
size-none (piece name more following) h = absurd (omega (arith, size-piece name more following, h))
size-none (part name inside following) h =
    let is : size inside + size following ≡ 0 = sym (size-part name inside following) ∙ h in
    ap (λ (l : List Token). around name l ++ tokens following) (size-none inside (omega (arith, is)))
    ∙ size-none following (omega (arith, is))

-- Text beside text is one piece.

pub data-name : (name : Name) → is_data name ≡ true → name ≡ n.Data
data-name n.Data h = refl
data-name other h = cc

joined-other : (name : Name) (more : ℕ) (forest : Forest) → is_data name ≡ false →
    joined name more forest ≡ piece name more forest
joined-other name more nothing h = refl
joined-other name more (part other inside following) h = refl
joined-other name more (piece other count following) h = simp h refl

pub joined-joined : (name other : Name) (more count : ℕ) (forest : Forest) → is_data name ≡ true → is_data other ≡ true →
    joined name more (joined other count forest) ≡ joined name (more + suc count) forest
joined-joined name other more count nothing h k = simp (h, k) refl
joined-joined name other more count (part third inside following) h k = simp (h, k) refl
joined-joined name other more count (piece third left following) h k = go (is_data third) refl
  where
    go : (t : Bool) → is_data third ≡ t →
        joined name more (joined other count (piece third left following)) ≡
        joined name (more + suc count) (piece third left following)
    go true e =
        let same : more + suc (count + suc left) ≡ more + suc count + suc left = omega arith in
        simp (h, k, e) (ap (λ (c : ℕ). piece name c following) same)
    go false e = simp (h, k, e) refl

-- Nothing is joined over what is not text.

joined-left : (xs : List Token) (len : ℕ) (name : Name) (ys : List Token) →
    joined_after len (xs ++ t.Leaves name ∷ ys) ≡ joined_after len xs ++ t.Leaves name ∷ joined_after 0 ys
joined-left [] len name ys = refl
joined-left (t.Enters other ∷ xs) len name ys =
    ap (λ (l : List Token). texts len ++ t.Enters other ∷ l) (joined-left xs 0 name ys)
    ∙ sym (append_assoc (texts len) (t.Enters other ∷ joined_after 0 xs) (t.Leaves name ∷ joined_after 0 ys))
joined-left (t.Leaves other ∷ xs) len name ys =
    ap (λ (l : List Token). texts len ++ t.Leaves other ∷ l) (joined-left xs 0 name ys)
    ∙ sym (append_assoc (texts len) (t.Leaves other ∷ joined_after 0 xs) (t.Leaves name ∷ joined_after 0 ys))
joined-left (t.Over other more ∷ xs) len name ys = go (is_data other) (λ (count : ℕ). joined-left xs count name ys)
  where
    ends : List Token
    ends = t.Leaves name ∷ joined_after 0 ys

    go : (b : Bool) →
        ((count : ℕ) → joined_after count (xs ++ t.Leaves name ∷ ys) ≡ joined_after count xs ++ ends) →
        cond b (joined_after (len + more) (xs ++ t.Leaves name ∷ ys))
        (texts len ++ t.Over other more ∷ joined_after 0 (xs ++ t.Leaves name ∷ ys)) ≡
        cond b (joined_after (len + more) xs) (texts len ++ t.Over other more ∷ joined_after 0 xs) ++ ends
    go true same = same (len + more)
    go false same =
        ap (λ (l : List Token). texts len ++ t.Over other more ∷ l) (same 0)
        ∙ sym (append_assoc (texts len) (t.Over other more ∷ joined_after 0 xs) ends)

-- a part after text, and a forest that begins with none
part-after : (name : Name) (inside following : Forest) (len : ℕ) →
    tokens (merged (over n.Data len (part name inside following))) ≡
    texts len ++ tokens (part name (merged inside) (merged following))
part-after name inside following zero = refl
part-after name inside following (suc more) = refl

apart-after : (forest : Forest) (len : ℕ) → begins_apart forest ≡ true →
    joined_after len (tokens forest) ≡ texts len ++ joined_after 0 (tokens forest)
apart-after nothing len h = sym (append-nil (texts len))
apart-after (piece name more following) len h = go (is_data name) h
  where
    go : (b : Bool) → not b ≡ true →
        cond b (joined_after (len + suc more) (tokens following))
        (texts len ++ t.Over name (suc more) ∷ joined_after 0 (tokens following)) ≡
        texts len
        ++ cond b (joined_after (0 + suc more) (tokens following))
        (t.Over name (suc more) ∷ joined_after 0 (tokens following))
    go true h = cc
    go false h = refl
apart-after (part name inside following) len h = go (tokens inside) refl
  where
    go : (list : List Token) → tokens inside ≡ list →
        joined_after len (around name list ++ tokens following) ≡
        texts len ++ joined_after 0 (around name list ++ tokens following)
    go [] is =
        let none : nat_lt 0 0 ≡ true = ap (nat_lt 0) (sym (none-size inside is)) ∙ h in
        cc
    go (token ∷ list) is = refl

pub joined-tokens : (forest : Forest) (len : ℕ) → has_names forest ≡ true → is_readable forest ≡ true →
    joined_after len (tokens forest) ≡ tokens (merged (over n.Data len forest))
joined-tokens nothing zero names h = refl
joined-tokens nothing (suc more) names h = refl
joined-tokens (piece name more following) len names h =
    go (is_data name) refl (λ (count : ℕ). joined-tokens following count
    (piece-names name following names).1 (and_parts (is_piece_name name) (is_readable following) h).1)
  where
    data-after : (len : ℕ) → is_data name ≡ true →
        merged (over n.Data (len + suc more) following) ≡ merged (over n.Data len (piece name more following))
    data-after zero d =
        let sum : 0 + suc more ≡ suc more = omega arith in
        ap (λ (count : ℕ). merged (over n.Data count following)) sum
        ∙ ap (λ (other : Name). joined other more (merged following)) (sym (data-name name d))
    data-after (suc count) d =
        let sum : suc count + suc more ≡ suc (count + suc more) = omega arith in
        ap (λ (k : ℕ). merged (over n.Data k following)) sum
        ∙ sym (joined-joined n.Data name count more (merged following) refl d)

    other-after : (len : ℕ) → is_data name ≡ false →
        texts len ++ t.Over name (suc more) ∷ tokens (merged following) ≡
        tokens (merged (over n.Data len (piece name more following)))
    other-after zero d = ap tokens (sym (joined-other name more (merged following) d))
    other-after (suc count) d =
        let one : joined n.Data count (piece name more (merged following)) ≡
        piece n.Data count (piece name more (merged following)) = simp d refl in
        ap tokens (sym one)
        ∙ ap (λ (f : Forest). tokens (joined n.Data count f)) (sym (joined-other name more (merged following) d))

    go : (b : Bool) → is_data name ≡ b →
        ((count : ℕ) → joined_after count (tokens following) ≡ tokens (merged (over n.Data count following))) →
        cond b (joined_after (len + suc more) (tokens following))
        (texts len ++ t.Over name (suc more) ∷ joined_after 0 (tokens following)) ≡
        tokens (merged (over n.Data len (piece name more following)))
    go true d same = same (len + suc more) ∙ ap tokens (data-after len d)
    go false d same =
        ap (λ (l : List Token). texts len ++ t.Over name (suc more) ∷ l) (same 0) ∙ other-after len d
joined-tokens (part name inside following) len names h =
    go (tokens inside) refl (tokens (merged inside)) refl (joined-tokens inside 0 parts.inner inner)
    (joined-tokens following 0 parts.next next)
    ∙ sym (part-after name inside following len)
  where
    parts : PartNames name inside following
    parts = part-names name inside following names

    both : ((nat_lt 0 (size inside) || begins_apart following) ≡ true)
        × ((is_readable inside && is_readable following) ≡ true)
    both =
        and_parts (nat_lt 0 (size inside) || begins_apart following) (is_readable inside && is_readable following)
        (and_parts (not (is_piece_name name)) _ h).1

    inner : is_readable inside ≡ true
    inner = (and_parts (is_readable inside) (is_readable following) both.1).0

    next : is_readable following ≡ true
    next = (and_parts (is_readable inside) (is_readable following) both.1).1

    sized : Over (merged inside) (size inside)
    sized = merged-over inside (size inside) (own inside parts.inner)

    go : (list : List Token) → tokens inside ≡ list → (made : List Token) → tokens (merged inside) ≡ made →
        joined_after 0 (tokens inside) ≡ tokens (merged inside) →
        joined_after 0 (tokens following) ≡ tokens (merged following) →
        joined_after len (around name list ++ tokens following) ≡
        texts len ++ (around name made ++ tokens (merged following))
    go [] is made made_is first second =
        let none : made ≡ [] = sym made_is ∙ sym first ∙ ap (joined_after 0) is in
        let apart : begins_apart following ≡ true =
        ap (λ (k : ℕ). nat_lt 0 k || begins_apart following) (sym (none-size inside is)) ∙ both.0 in
        apart-after following len apart
        ∙ ap (λ (l : List Token). texts len ++ l) second
        ∙ ap (λ (l : List Token). texts len ++ (around name l ++ tokens (merged following))) (sym none)
    go (token ∷ list) is [] made_is first second =
        let none : tokens inside ≡ [] = size-none inside (sym sized.sized ∙ none-size (merged inside) made_is) in
        cc
    go (token ∷ list) is (other ∷ made) made_is first second =
        let same : joined_after 0 (token ∷ list) ≡ other ∷ made = ap (joined_after 0) (sym is) ∙ first ∙ made_is in
        ap (λ (l : List Token). texts len ++ t.Enters name ∷ l)
        (ap (joined_after 0) (append_assoc (token ∷ list) (t.Leaves name ∷ []) (tokens following))
        ∙ joined-left (token ∷ list) 0 name (tokens following)
        ∙ ap (λ (l : List Token). l ++ t.Leaves name ∷ joined_after 0 (tokens following)) same
        ∙ ap (λ (l : List Token). (other ∷ made) ++ t.Leaves name ∷ l) second
        ∙ sym (append_assoc (other ∷ made) (t.Leaves name ∷ []) (tokens (merged following))))
