-- The tokens that are read off the spans of a forest are those of the forest.
use Rattle.std.proofs.Common.{◌≡◌, ℕ, zero, suc, ◌+◌, ◌-◌, ◌<◌, ◌≤◌, Bool, true, false, cond, List, [], ◌∷◌, ◌++◌}
use Rattle.std.proofs.Common.{length, refl, ap, sym, ◌∙◌, subst, append_assoc, arith}
use Rattle.std.specs.Prelude.{◌&&◌, ◌||◌, not, min, nat_le, nat_lt, reverse}
use Rattle.std.proofs.lemmas.Bool.{and_parts, both_ways, not-true}
use Rattle.std.proofs.lemmas.Bool.Decides.{nat_tests}
use Rattle.std.proofs.lemmas.List.{append-nil, length-append, reverse-append}
use Rattle.md_engine.specs.declared.event.Name.{Name}
use Rattle.md_engine.specs.declared.event.Name.TheVariants as n
use Rattle.md_events.specs.Events.Pieces.{is_piece_name}
use Rattle.md_inline_events.specs.Forest.{Forest, nothing, part, piece, size}
use Rattle.md_inline_events.specs.Tokens.{around, tokens}
use Rattle.md_inline_events.specs.declared.token.Token.{Token}
use Rattle.md_inline_events.specs.declared.token.Token.TheVariants as t
use Rattle.md_inlines.specs.Atoms.{is_data, joined, merged}
use Rattle.proof_inlines.proofs.SizeLemmas.{part-size, piece-size}
use Rattle.markdown_inlines.specs.declared.span.Span.{Span}
use Rattle.markdown_inlines.specs.Filled.{Shows}
use Rattle.markdown_inlines.specs.Readable.{begins_apart, is_readable}
use Rattle.markdown_inlines.specs.Spans.{live, shown, span_of, spans_forest, unless_data}
use Rattle.markdown_inlines.specs.Tokens.{begun, ends, opened, past_begun, still_open, text, tokens_from}

-- where the next span begins, or the end
abbrev next_start : List Span → ℕ → ℕ
next_start [] end = end
next_start (span ∷ spans) end = span.start

-- where text ends: at the end of the innermost part, or where the next span begins
abbrev next_stop : List Span → ℕ → ℕ
next_stop [] to = to
next_stop (inner ∷ parts) to = min inner.end to

stop-within : (parts : List Span) (to : ℕ) → next_stop parts to ≤ to
stop-within [] to = omega arith
stop-within (inner ∷ parts) to = omega arith

stop-here : (parts : List Span) (at to : ℕ) → at ≤ next_stop parts to → next_stop parts at ≡ at
stop-here [] at to h = refl
stop-here (inner ∷ parts) at to h = omega (arith, h)

-- Text between two places.

text-none : (at to : ℕ) → to ≤ at → text at to ≡ []
text-none at to h = go (nat_lt at to) refl
  where
    go : (x : Bool) → nat_lt at to ≡ x → cond x (t.Over n.Data (to - at) ∷ []) [] ≡ []
    go true is = let less : at < to = grind (arith, nat_tests) in absurd (omega (arith, h, less))
    go false is = refl

text-some : (at more to : ℕ) → to ≡ at + suc more → text at to ≡ t.Over n.Data (suc more) ∷ []
text-some at more to h = go (nat_lt at to) refl
  where
    go : (x : Bool) → nat_lt at to ≡ x →
        cond x (t.Over n.Data (to - at) ∷ []) [] ≡ t.Over n.Data (suc more) ∷ []
    go true is =
        let long : to - at ≡ suc more = omega (arith, h) in ap (λ (len : ℕ). t.Over n.Data len ∷ []) long
    go false is = let less : to ≤ at = grind (arith, nat_tests) in absurd (omega (arith, h, less))

-- The innermost part ends before a place is reached, or after it.

ends-past : (inner : Span) (parts : List Span) (at to : ℕ) → inner.end ≤ to →
    ends (inner ∷ parts) at to ≡ text at inner.end ++ t.Leaves inner.name ∷ ends parts inner.end to
ends-past inner parts at to h = go (nat_le inner.end to) refl
  where
    go : (x : Bool) → nat_le inner.end to ≡ x →
        cond x (text at inner.end ++ t.Leaves inner.name ∷ ends parts inner.end to) (text at to) ≡
        text at inner.end ++ t.Leaves inner.name ∷ ends parts inner.end to
    go true is = refl
    go false is = let less : to < inner.end = grind (arith, nat_tests) in absurd (omega (arith, h, less))

ends-before : (inner : Span) (parts : List Span) (at to : ℕ) → to < inner.end → ends (inner ∷ parts) at to ≡ text at to
ends-before inner parts at to h = go (nat_le inner.end to) refl
  where
    go : (x : Bool) → nat_le inner.end to ≡ x →
        cond x (text at inner.end ++ t.Leaves inner.name ∷ ends parts inner.end to) (text at to) ≡ text at to
    go true is = let less : inner.end ≤ to = grind (arith, nat_tests) in absurd (omega (arith, h, less))
    go false is = refl

open-past : (inner : Span) (parts : List Span) (to : ℕ) → inner.end ≤ to →
    still_open (inner ∷ parts) to ≡ still_open parts to
open-past inner parts to h = go (nat_le inner.end to) refl
  where
    go : (x : Bool) → nat_le inner.end to ≡ x → cond x (still_open parts to) (inner ∷ parts) ≡ still_open parts to
    go true is = refl
    go false is = let less : to < inner.end = grind (arith, nat_tests) in absurd (omega (arith, h, less))

open-before : (inner : Span) (parts : List Span) (to : ℕ) → to < inner.end →
    still_open (inner ∷ parts) to ≡ inner ∷ parts
open-before inner parts to h = go (nat_le inner.end to) refl
  where
    go : (x : Bool) → nat_le inner.end to ≡ x → cond x (still_open parts to) (inner ∷ parts) ≡ inner ∷ parts
    go true is = let less : inner.end ≤ to = grind (arith, nat_tests) in absurd (omega (arith, h, less))
    go false is = refl

-- Text before what is next.

ends-text : (parts : List Span) (at more to : ℕ) → next_stop parts to ≡ at + suc more →
    ends parts at to ≡ t.Over n.Data (suc more) ∷ ends parts (at + suc more) to
ends-text [] at more to h =
    text-some at more to h
    ∙ ap (λ (l : List Token). t.Over n.Data (suc more) ∷ l) (sym (text-none (at + suc more) to (omega (arith, h))))
ends-text (inner ∷ parts) at more to h = go (nat_le inner.end to) refl
  where
    go : (x : Bool) → nat_le inner.end to ≡ x →
        cond x (text at inner.end ++ t.Leaves inner.name ∷ ends parts inner.end to) (text at to) ≡
        t.Over n.Data (suc more)
        ∷ cond x (text (at + suc more) inner.end ++ t.Leaves inner.name ∷ ends parts inner.end to)
        (text (at + suc more) to)
    go true is =
        let less : inner.end ≤ to = grind (arith, nat_tests) in
        let same : inner.end ≡ at + suc more = omega (arith, h, less) in
        ap (λ (l : List Token). l ++ t.Leaves inner.name ∷ ends parts inner.end to) (text-some at more inner.end same)
        ∙ ap (λ (l : List Token). t.Over n.Data (suc more) ∷ (l ++ t.Leaves inner.name ∷ ends parts inner.end to))
        (sym (text-none (at + suc more) inner.end (omega (arith, same))))
    go false is =
        let less : to < inner.end = grind (arith, nat_tests) in
        let same : to ≡ at + suc more = omega (arith, h, less) in
        text-some at more to same
        ∙ ap (λ (l : List Token). t.Over n.Data (suc more) ∷ l)
        (sym (text-none (at + suc more) to (omega (arith, same))))

tokens-text : (parts : List Span) (at more : ℕ) (spans : List Span) (end : ℕ) →
    next_stop parts (next_start spans end) ≡ at + suc more →
    tokens_from parts at spans end ≡ t.Over n.Data (suc more) ∷ tokens_from parts (at + suc more) spans end
tokens-text parts at more [] end h = ends-text parts at more end h
tokens-text parts at more (span ∷ spans) end h =
    ap (λ (l : List Token). l
    ++ begun span ∷ tokens_from (opened span (still_open parts span.start)) (past_begun span) spans end)
    (ends-text parts at more span.start h)

-- Where a span begins, and no part that is open ends.

ends-none : (parts : List Span) (at to : ℕ) → at < next_stop parts to → ends parts at at ≡ []
ends-none [] at to h = text-none at at (omega arith)
ends-none (inner ∷ parts) at to h =
    ends-before inner parts at at (omega (arith, h)) ∙ text-none at at (omega arith)

all-open : (parts : List Span) (at to : ℕ) → at < next_stop parts to → still_open parts at ≡ parts
all-open [] at to h = refl
all-open (inner ∷ parts) at to h = open-before inner parts at (omega (arith, h))

tokens-span : (parts : List Span) (span : Span) (spans : List Span) (end to : ℕ) → span.start < next_stop parts to →
    tokens_from parts span.start (span ∷ spans) end ≡
    begun span ∷ tokens_from (opened span parts) (past_begun span) spans end
tokens-span parts span spans end to h =
    ap (λ (l : List Token). l
    ++ begun span ∷ tokens_from (opened span (still_open parts span.start)) (past_begun span) spans end)
    (ends-none parts span.start to h)
    ∙ ap (λ (l : List Span). begun span ∷ tokens_from (opened span l) (past_begun span) spans end)
    (all-open parts span.start to h)

tokens-piece : (parts : List Span) (name : Name) (at more : ℕ) (spans : List Span) (end to : ℕ) →
    is_piece_name name ≡ true → at < next_stop parts to →
    tokens_from parts at (span_of name at (at + suc more) ∷ spans) end ≡
    t.Over name (suc more) ∷ tokens_from parts (at + suc more) spans end
tokens-piece parts name at more spans end to is h =
    tokens-span parts (span_of name at (at + suc more)) spans end to h
    ∙ ap (λ (x : Bool). cond x (t.Over name ((at + suc more) - at)) (t.Enters name)
    ∷ tokens_from (cond x parts (span_of name at (at + suc more) ∷ parts)) (cond x (at + suc more) at) spans end) is
    ∙ ap (λ (len : ℕ). t.Over name len ∷ tokens_from parts (at + suc more) spans end) long
  where
    long : (at + suc more) - at ≡ suc more
    long = omega arith

tokens-part : (parts : List Span) (name : Name) (at close : ℕ) (spans : List Span) (end to : ℕ) →
    is_piece_name name ≡ false → at < next_stop parts to →
    tokens_from parts at (span_of name at close ∷ spans) end ≡
    t.Enters name ∷ tokens_from (span_of name at close ∷ parts) at spans end
tokens-part parts name at close spans end to is h =
    tokens-span parts (span_of name at close) spans end to h
    ∙ ap (λ (x : Bool). cond x (t.Over name (close - at)) (t.Enters name)
    ∷ tokens_from (cond x parts (span_of name at close ∷ parts)) (cond x close at) spans end) is

-- Where the innermost part ends.

ends-left : (inner : Span) (parts : List Span) (to : ℕ) → inner.end ≤ to →
    ends (inner ∷ parts) inner.end to ≡ t.Leaves inner.name ∷ ends parts inner.end to
ends-left inner parts to h =
    ends-past inner parts inner.end to h
    ∙ ap (λ (l : List Token). l ++ t.Leaves inner.name ∷ ends parts inner.end to)
    (text-none inner.end inner.end (omega arith))

tokens-left : (inner : Span) (parts spans : List Span) (end : ℕ) → inner.end ≤ next_start spans end →
    tokens_from (inner ∷ parts) inner.end spans end ≡ t.Leaves inner.name ∷ tokens_from parts inner.end spans end
tokens-left inner parts [] end h = ends-left inner parts end h
tokens-left inner parts (span ∷ spans) end h =
    ap (λ (l : List Token). l
    ++ begun span ∷ tokens_from (opened span (still_open (inner ∷ parts) span.start)) (past_begun span) spans end)
    (ends-left inner parts span.start h)
    ∙ ap (λ (l : List Span). t.Leaves inner.name ∷ (ends parts inner.end span.start
    ++ begun span ∷ tokens_from (opened span l) (past_begun span) spans end))
    (open-past inner parts span.start h)

-- Where the spans of a forest begin.

shown-some : (span : Span) → span.start < span.end → shown span ≡ span ∷ []
shown-some span h = go (nat_lt span.start span.end) refl
  where
    go : (x : Bool) → nat_lt span.start span.end ≡ x → cond x (span ∷ []) [] ≡ span ∷ []
    go true is = refl
    go false is = let less : span.end ≤ span.start = grind (arith, nat_tests) in absurd (omega (arith, h, less))

shown-none : (span : Span) → span.end ≤ span.start → shown span ≡ []
shown-none span h = go (nat_lt span.start span.end) refl
  where
    go : (x : Bool) → nat_lt span.start span.end ≡ x → cond x (span ∷ []) [] ≡ []
    go true is = let less : span.start < span.end = grind (arith, nat_tests) in absurd (omega (arith, h, less))
    go false is = refl

spans-full : (name : Name) (at more : ℕ) → shown (span_of name at (at + suc more)) ≡
    span_of name at (at + suc more) ∷ []
spans-full name at more = shown-some (span_of name at (at + suc more)) (omega arith)

-- the next span begins within a forest that is over bytes before it, or after the forest
start-within : (forest : Forest) (at : ℕ) (spans : List Span) (end : ℕ) → at + size forest ≤ next_start spans end →
    at ≤ next_start (spans_forest at forest ++ spans) end
start-within nothing at spans end h = omega (arith, h)
start-within (piece name more following) at spans end h =
    go (is_data name)
    (start-within following (at + suc more) spans end (omega (arith, h, piece-size name more following)))
  where
    go : (x : Bool) → at + suc more ≤ next_start (spans_forest (at + suc more) following ++ spans) end →
        at ≤ next_start
        ((unless_data x (shown (span_of name at (at + suc more))) ++ spans_forest (at + suc more) following) ++ spans)
        end
    go true later = omega (arith, later)
    go false later =
        subst (λ (l : List Span). at ≤ next_start ((l ++ spans_forest (at + suc more) following) ++ spans) end)
        (sym (spans-full name at more)) (omega arith)
start-within (part name inside following) at spans end h =
    go (nat_lt at (at + size inside))
    (start-within inside at (spans_forest (at + size inside) following ++ spans) end
    (start-within following (at + size inside) spans end (omega (arith, h, part-size name inside following))))
  where
    go : (x : Bool) →
        at ≤ next_start (spans_forest at inside ++ (spans_forest (at + size inside) following ++ spans)) end →
        at ≤ next_start
        ((cond x (span_of name at (at + size inside) ∷ []) []
        ++ (spans_forest at inside ++ spans_forest (at + size inside) following)) ++ spans) end
    go true within = omega arith
    go false within =
        subst (λ (l : List Span). at ≤ next_start l end)
        (sym (append_assoc (spans_forest at inside) (spans_forest (at + size inside) following) spans)) within

-- A part over no byte.

empty-spans : (forest : Forest) (at : ℕ) → size forest ≡ 0 → spans_forest at forest ≡ []
empty-spans nothing at h = refl
empty-spans (piece name more following) at h = absurd (omega (arith, h, piece-size name more following))
empty-spans (part name inside following) at h =
    ap (λ (l : List Span). l ++ (spans_forest at inside ++ spans_forest (at + size inside) following))
    (shown-none (span_of name at (at + size inside)) (omega (arith, h, part-size name inside following)))
    ∙ ap (λ (l : List Span). l ++ spans_forest (at + size inside) following)
    (empty-spans inside at (omega (arith, h, part-size name inside following)))
    ∙ empty-spans following (at + size inside) (omega (arith, h, part-size name inside following))

empty-tokens : (forest : Forest) → size forest ≡ 0 → tokens forest ≡ []
empty-tokens nothing h = refl
empty-tokens (piece name more following) h = absurd (omega (arith, h, piece-size name more following))
empty-tokens (part name inside following) h =
    ap (λ (l : List Token). around name l ++ tokens following)
    (empty-tokens inside (omega (arith, h, part-size name inside following)))
    ∙ empty-tokens following (omega (arith, h, part-size name inside following))

around-length : (name : Name) (l : List Token) → length l ≤ length (around name l)
around-length name [] = omega arith
around-length name (token ∷ l) = omega (arith, length-append l (t.Leaves name ∷ []))

full-tokens : (forest : Forest) → 0 < size forest → 0 < length (tokens forest)
full-tokens nothing h = absurd (omega (arith, h))
full-tokens (piece name more following) h = omega arith
full-tokens (part name inside following) h =
    go (size inside) refl (full-tokens inside) (full-tokens following)
  where
    long : length (tokens (part name inside following)) ≡
        length (around name (tokens inside)) + length (tokens following)
    long = length-append (around name (tokens inside)) (tokens following)

    go : (n : ℕ) → size inside ≡ n → (0 < size inside → 0 < length (tokens inside)) →
        (0 < size following → 0 < length (tokens following)) → 0 < length (tokens (part name inside following))
    go zero is one other =
        let some : 0 < length (tokens following) =
        other (omega (arith, h, is, part-size name inside following)) in
        omega (arith, long, some)
    go (suc n) is one other =
        let some : 0 < length (tokens inside) = one (omega (arith, is)) in
        omega (arith, long, some, around-length name (tokens inside))

around-some : (name : Name) (l : List Token) → 0 < length l → around name l ≡ t.Enters name ∷ l ++ t.Leaves name ∷ []
around-some name [] h = absurd (omega (arith, h))
around-some name (token ∷ l) h = refl

-- Merged text: no text is after it.

abbrev begins_otherwise : Forest → Bool
begins_otherwise nothing = true
begins_otherwise (piece name more following) = not (is_data name)
begins_otherwise (part name inside following) = true

joined-kept : (name : Name) (more : ℕ) (made following : Forest) →
    joined name more made ≡ piece name more following →
    (made ≡ following) × (is_data name ≡ true → begins_otherwise made ≡ true)
joined-kept name more nothing following h = (cc, λ is. refl)
joined-kept name more (part other inside after) following h = (cc, λ is. refl)
joined-kept name more (piece other count after) following h = go (is_data name) (is_data other) refl refl h
  where
    go : (x y : Bool) → is_data name ≡ x → is_data other ≡ y →
        cond (x && y) (piece name (more + suc count) after) (piece name more (piece other count after)) ≡
        piece name more following →
        (piece other count after ≡ following) × (is_data name ≡ true → not (is_data other) ≡ true)
    go true true is or k = let same : more + suc count ≡ more = cc in absurd (omega (arith, same))
    go true false is or k = (cc, λ _. ap not or)
    go false y is or k = (cc, λ known. absurd (both_ways (is_data name) is known))

merged-kept : (name : Name) (more : ℕ) (following : Forest) →
    merged (piece name more following) ≡ piece name more following →
    (merged following ≡ following) × (is_data name ≡ true → begins_otherwise following ≡ true)
merged-kept name more following h =
    let kept = joined-kept name more (merged following) following h in
    (kept.0, λ is. ap begins_otherwise (sym kept.0) ∙ kept.1 is)

apart-otherwise : (forest : Forest) → begins_apart forest ≡ true → begins_otherwise forest ≡ true
apart-otherwise nothing h = refl
apart-otherwise (piece name more following) h = h
apart-otherwise (part name inside following) h = refl

-- Parts that can be read: what holds of the name, of what is after one over no byte, and of what is inside and after.
readable-part : (name : Name) (inside following : Forest) → is_readable (part name inside following) ≡ true →
    (is_piece_name name ≡ false) × (size inside ≡ 0 → begins_otherwise following ≡ true)
    × (is_readable inside ≡ true) × (is_readable following ≡ true)
readable-part name inside following h =
    let outer = and_parts (not (is_piece_name name))
    ((nat_lt 0 (size inside) || begins_apart following) && (is_readable inside && is_readable following)) h in
    let middle = and_parts (nat_lt 0 (size inside) || begins_apart following)
    (is_readable inside && is_readable following) outer.1 in
    let both = and_parts (is_readable inside) (is_readable following) middle.1 in (
      not-true (is_piece_name name) outer.0,
      λ (none : size inside ≡ 0). apart-otherwise following
          (subst (λ (k : ℕ). (nat_lt 0 k || begins_apart following) ≡ true) none middle.0),
      both.0,
      both.1,
    )

stop-at : (forest : Forest) (parts : List Span) (at : ℕ) (spans : List Span) (end : ℕ) →
    is_readable forest ≡ true → begins_otherwise forest ≡ true →
    next_stop parts (next_start spans end) ≡ at + size forest →
    next_stop parts (next_start (spans_forest at forest ++ spans) end) ≡ at
stop-at nothing parts at spans end r b h = omega (arith, h)
stop-at (piece name more following) parts at spans end r b h =
    subst (λ (x : Bool). next_stop parts
    (next_start
    ((unless_data x (shown (span_of name at (at + suc more))) ++ spans_forest (at + suc more) following) ++ spans)
    end) ≡ at)
    (sym (not-true (is_data name) b))
    (subst (λ (l : List Span). next_stop parts
    (next_start ((l ++ spans_forest (at + suc more) following) ++ spans) end) ≡ at)
    (sym (spans-full name at more))
    (stop-here parts at (next_start spans end) (omega (arith, h))))
stop-at (part name inside following) parts at spans end r b h =
    go (size inside) refl
    (λ otherwise. stop-at following parts (at + size inside) spans end
    (readable-part name inside following r).3 otherwise (omega (arith, h, part-size name inside following)))
  where
    go : (n : ℕ) → size inside ≡ n →
        (begins_otherwise following ≡ true →
        next_stop parts (next_start (spans_forest (at + size inside) following ++ spans) end) ≡ at + size inside) →
        next_stop parts
        (next_start
        ((shown (span_of name at (at + size inside))
        ++ (spans_forest at inside ++ spans_forest (at + size inside) following)) ++ spans) end) ≡
        at
    go zero is later =
        subst (λ (l : List Span). next_stop parts
        (next_start ((l ++ (spans_forest at inside ++ spans_forest (at + size inside) following)) ++ spans) end) ≡ at)
        (sym (shown-none (span_of name at (at + size inside)) (omega (arith, is))))
        (subst (λ (l : List Span). next_stop parts
        (next_start ((l ++ spans_forest (at + size inside) following) ++ spans) end) ≡ at)
        (sym (empty-spans inside at is))
        (later ((readable-part name inside following r).1 is) ∙ omega (arith, is)))
    go (suc n) is later =
        subst (λ (l : List Span). next_stop parts
        (next_start ((l ++ (spans_forest at inside ++ spans_forest (at + size inside) following)) ++ spans) end) ≡ at)
        (sym (shown-some (span_of name at (at + size inside)) (omega (arith, is))))
        (stop-here parts at (next_start spans end) (omega (arith, h)))

data-name : (name : Name) → is_data name ≡ true → name ≡ n.Data
data-name n.Data h = refl
data-name name h = cc

-- One step of what is read: text, another piece, a part over no byte, and one over bytes.

piece-read : (name : Name) (more : ℕ) (following : Forest) (parts : List Span) (at : ℕ) (spans : List Span) (end : ℕ) →
    is_readable (piece name more following) ≡ true → merged (piece name more following) ≡ piece name more following →
    next_stop parts (next_start spans end) ≡ at + size (piece name more following) →
    tokens_from parts (at + suc more) (spans_forest (at + suc more) following ++ spans) end ≡
    tokens following ++ tokens_from parts ((at + suc more) + size following) spans end →
    tokens_from parts at (spans_forest at (piece name more following) ++ spans) end ≡
    tokens (piece name more following) ++ tokens_from parts (at + size (piece name more following)) spans end
piece-read name more following parts at spans end r m h later = go (is_data name) refl
  where
    after : List Span
    after = spans_forest (at + suc more) following

    past : (at + suc more) + size following ≡ at + size (piece name more following)
    past = omega (arith, piece-size name more following)

    named : (is_piece_name name ≡ true) × (is_readable following ≡ true)
    named = and_parts (is_piece_name name) (is_readable following) r

    rest : tokens_from parts (at + suc more) (after ++ spans) end ≡
        tokens following ++ tokens_from parts (at + size (piece name more following)) spans end
    rest = later ∙ ap (λ (place : ℕ). tokens following ++ tokens_from parts place spans end) past

    go : (x : Bool) → is_data name ≡ x →
        tokens_from parts at ((unless_data x (shown (span_of name at (at + suc more))) ++ after) ++ spans) end ≡
        t.Over name (suc more)
        ∷ (tokens following ++ tokens_from parts (at + size (piece name more following)) spans end)
    go true is =
        tokens-text parts at more (after ++ spans) end
        (stop-at following parts (at + suc more) spans end named.1 ((merged-kept name more following m).1 is)
        (h ∙ sym past))
        ∙ ap (λ (text : Name). t.Over text (suc more) ∷ tokens_from parts (at + suc more) (after ++ spans) end)
        (sym (data-name name is))
        ∙ ap (λ (l : List Token). t.Over name (suc more) ∷ l) rest
    go false is =
        ap (λ (l : List Span). tokens_from parts at ((l ++ after) ++ spans) end) (spans-full name at more)
        ∙ tokens-piece parts name at more (after ++ spans) end (next_start spans end) named.0
        (omega (arith, h, piece-size name more following))
        ∙ ap (λ (l : List Token). t.Over name (suc more) ∷ l) rest

empty-read : (name : Name) (inside following : Forest) (parts : List Span) (at : ℕ) (spans : List Span) (end : ℕ) →
    size inside ≡ 0 →
    tokens_from parts (at + size inside) (spans_forest (at + size inside) following ++ spans) end ≡
    tokens following ++ tokens_from parts ((at + size inside) + size following) spans end →
    tokens_from parts at (spans_forest at (part name inside following) ++ spans) end ≡
    tokens (part name inside following) ++ tokens_from parts (at + size (part name inside following)) spans end
empty-read name inside following parts at spans end is later =
    ap (λ (l : List Span). tokens_from parts at ((l ++ (spans_forest at inside ++ after)) ++ spans) end)
    (shown-none (span_of name at (at + size inside)) (omega (arith, is)))
    ∙ ap (λ (l : List Span). tokens_from parts at ((l ++ after) ++ spans) end) (empty-spans inside at is)
    ∙ ap (λ (place : ℕ). tokens_from parts place (after ++ spans) end) here
    ∙ later
    ∙ ap (λ (place : ℕ). tokens following ++ tokens_from parts place spans end) past
    ∙ ap (λ (l : List Token). (around name l ++ tokens following)
    ++ tokens_from parts (at + size (part name inside following)) spans end) (sym (empty-tokens inside is))
  where
    after : List Span
    after = spans_forest (at + size inside) following

    here : at ≡ at + size inside
    here = omega (arith, is)

    past : (at + size inside) + size following ≡ at + size (part name inside following)
    past = omega (arith, part-size name inside following)

full-read : (name : Name) (inside following : Forest) (parts : List Span) (at : ℕ) (spans : List Span) (end : ℕ) →
    is_piece_name name ≡ false → 0 < size inside →
    next_stop parts (next_start spans end) ≡ at + size (part name inside following) →
    tokens_from (span_of name at (at + size inside) ∷ parts) at
    (spans_forest at inside ++ (spans_forest (at + size inside) following ++ spans)) end ≡
    tokens inside ++ tokens_from (span_of name at (at + size inside) ∷ parts) (at + size inside)
    (spans_forest (at + size inside) following ++ spans) end →
    tokens_from parts (at + size inside) (spans_forest (at + size inside) following ++ spans) end ≡
    tokens following ++ tokens_from parts ((at + size inside) + size following) spans end →
    tokens_from parts at (spans_forest at (part name inside following) ++ spans) end ≡
    tokens (part name inside following) ++ tokens_from parts (at + size (part name inside following)) spans end
full-read name inside following parts at spans end named some h within later =
    ap (λ (l : List Span). tokens_from parts at ((l ++ (spans_forest at inside ++ after)) ++ spans) end)
    (shown-some span (omega (arith, some)))
    ∙ tokens-part parts name at (at + size inside) ((spans_forest at inside ++ after) ++ spans) end
    (next_start spans end) named (omega (arith, h, some, part-size name inside following))
    ∙ ap (λ (l : List Span). t.Enters name ∷ tokens_from (span ∷ parts) at l end)
    (append_assoc (spans_forest at inside) after spans)
    ∙ ap (λ (l : List Token). t.Enters name ∷ l)
    (within
    ∙ ap (λ (l : List Token). tokens inside ++ l)
    (tokens-left span parts (after ++ spans) end
    (start-within following (at + size inside) spans end
    (omega (arith, h, part-size name inside following, stop-within parts (next_start spans end))))
    ∙ ap (λ (l : List Token). t.Leaves name ∷ l)
    (later ∙ ap (λ (place : ℕ). tokens following ++ tokens_from parts place spans end) past)))
    ∙ ap (λ (l : List Token). t.Enters name ∷ l) (sym (seam (tokens inside)))
    ∙ ap (λ (l : List Token). (l ++ tokens following) ++ rest)
    (sym (around-some name (tokens inside) (full-tokens inside some)))
  where
    after : List Span
    after = spans_forest (at + size inside) following

    span : Span
    span = span_of name at (at + size inside)

    rest : List Token
    rest = tokens_from parts (at + size (part name inside following)) spans end

    past : (at + size inside) + size following ≡ at + size (part name inside following)
    past = omega (arith, part-size name inside following)

    seam : (l : List Token) →
        ((l ++ t.Leaves name ∷ []) ++ tokens following) ++ rest ≡ l ++ t.Leaves name ∷ (tokens following ++ rest)
    seam l =
        append_assoc (l ++ t.Leaves name ∷ []) (tokens following) rest
        ∙ append_assoc l (t.Leaves name ∷ []) (tokens following ++ rest)

-- The spans of a forest are read where parts are open and other spans follow.
tokens-forest : (forest : Forest) (parts : List Span) (at : ℕ) (spans : List Span) (end : ℕ) →
    is_readable forest ≡ true → merged forest ≡ forest →
    next_stop parts (next_start spans end) ≡ at + size forest →
    tokens_from parts at (spans_forest at forest ++ spans) end ≡
    tokens forest ++ tokens_from parts (at + size forest) spans end
tokens-forest nothing parts at spans end r m h =
    let same : at ≡ at + size nothing = omega arith in ap (λ (place : ℕ). tokens_from parts place spans end) same
tokens-forest (piece name more following) parts at spans end r m h =
    piece-read name more following parts at spans end r m h
    (tokens-forest following parts (at + suc more) spans end
    (and_parts (is_piece_name name) (is_readable following) r).1 (merged-kept name more following m).0
    (omega (arith, h, piece-size name more following)))
tokens-forest (part name inside following) parts at spans end r m h =
    go (size inside) refl
    (λ k. tokens-forest inside (span_of name at (at + size inside) ∷ parts) at
    (spans_forest (at + size inside) following ++ spans) end read.2 (cc) k)
    (tokens-forest following parts (at + size inside) spans end read.3 (cc)
    (omega (arith, h, part-size name inside following)))
  where
    read : (is_piece_name name ≡ false) × (size inside ≡ 0 → begins_otherwise following ≡ true)
        × (is_readable inside ≡ true) × (is_readable following ≡ true)
    read = readable-part name inside following r

    go : (n : ℕ) → size inside ≡ n →
        (next_stop (span_of name at (at + size inside) ∷ parts)
        (next_start (spans_forest (at + size inside) following ++ spans) end) ≡ at + size inside →
        tokens_from (span_of name at (at + size inside) ∷ parts) at
        (spans_forest at inside ++ (spans_forest (at + size inside) following ++ spans)) end ≡
        tokens inside ++ tokens_from (span_of name at (at + size inside) ∷ parts) (at + size inside)
        (spans_forest (at + size inside) following ++ spans) end) →
        tokens_from parts (at + size inside) (spans_forest (at + size inside) following ++ spans) end ≡
        tokens following ++ tokens_from parts ((at + size inside) + size following) spans end →
        tokens_from parts at (spans_forest at (part name inside following) ++ spans) end ≡
        tokens (part name inside following) ++ tokens_from parts (at + size (part name inside following)) spans end
    go zero is within later = empty-read name inside following parts at spans end is later
    go (suc n) is within later =
        let start : at + size inside ≤ next_start (spans_forest (at + size inside) following ++ spans) end =
        start-within following (at + size inside) spans end
        (omega (arith, h, part-size name inside following, stop-within parts (next_start spans end))) in
        full-read name inside following parts at spans end read.0 (omega (arith, is)) h
        (within (omega (arith, start))) later

-- So the tokens that are read off the spans of a forest, of which some are over no byte, are those of the forest.
pub tokens-read : (forest : Forest) (start end : ℕ) (spans : List Span) → is_readable forest ≡ true →
    merged forest ≡ forest → start + size forest ≡ end → Shows start [] forest spans →
    tokens_from [] start (live spans) end ≡ tokens forest
tokens-read forest start end spans r m long shows =
    ap (λ (l : List Span). tokens_from [] start (live l) end) shows.same
    ∙ ap (λ (l : List Span). tokens_from [] start l end) shows.shown
    ∙ ap (λ (l : List Span). tokens_from [] start l end) (sym (append-nil (spans_forest start forest)))
    ∙ tokens-forest forest [] start [] end r m (sym long)
    ∙ ap (λ (l : List Token). tokens forest ++ l) (text-none (start + size forest) end (omega (arith, long)))
    ∙ append-nil (tokens forest)

-- As they are read: the parts that are open are listed with the innermost last.

last-first : (old parts : List Span) (inner : Span) → old ≡ parts ++ inner ∷ [] → reverse old ≡ inner ∷ reverse parts
last-first old parts inner h = ap (λ (l : List Span). reverse l) h ∙ reverse-append parts (inner ∷ [])

pub ended_tokens : (ts between made : List Token) (old parts : List Span) (inner : Span) (at to : ℕ) →
    old ≡ parts ++ inner ∷ [] → inner.end ≤ to → between ≡ ts ++ text at inner.end →
    made ≡ between ++ t.Leaves inner.name ∷ [] →
    made ++ ends (reverse parts) inner.end to ≡ ts ++ ends (reverse old) at to
ended_tokens ts between made old parts inner at to h le k m =
    ap (λ (l : List Token). l ++ rest) (m ∙ ap (λ (l : List Token). l ++ t.Leaves inner.name ∷ []) k)
    ∙ append_assoc (ts ++ text at inner.end) (t.Leaves inner.name ∷ []) rest
    ∙ append_assoc ts (text at inner.end) (t.Leaves inner.name ∷ rest)
    ∙ ap (λ (l : List Token). ts ++ l)
    (sym
    (ap (λ (l : List Span). ends l at to) (last-first old parts inner h)
    ∙ ends-past inner (reverse parts) at to le))
  where
    rest : List Token
    rest = ends (reverse parts) inner.end to

pub ended_open : (old parts : List Span) (inner : Span) (to : ℕ) → old ≡ parts ++ inner ∷ [] → inner.end ≤ to →
    still_open (reverse parts) to ≡ still_open (reverse old) to
ended_open old parts inner to h le =
    sym
    (ap (λ (l : List Span). still_open l to) (last-first old parts inner h) ∙ open-past inner (reverse parts) to le)

-- a span over no byte is passed
pub passed : (span : Span) (rest spans : List Span) → rest ≡ span ∷ spans → span.end ≤ span.start →
    live spans ≡ live rest
passed span rest spans h less =
    sym (ap live h ∙ ap (λ (l : List Span). l ++ live spans) (shown-none span less))

pub all_read : (ts made : List Token) (parts : List Span) (at : ℕ) (rest : List Span) (end : ℕ) → length rest ≡ 0 →
    made ≡ ts ++ ends (reverse parts) at end → made ≡ ts ++ tokens_from (reverse parts) at (live rest) end
all_read ts made parts at [] end none h = h
all_read ts made parts at (span ∷ rest) end none h = absurd (omega (arith, none))
