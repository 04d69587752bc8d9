-- A fence keeps the grammar of events.
use Rattle.std.proofs.Common.{◌≡◌, ℕ, Bool, true, false, cond, List, [], ◌∷◌, ◌++◌, length, drop, refl, sym, ap, ◌∙◌}
use Rattle.std.proofs.Common.{subst, append_assoc, append-nil}
use Rattle.std.specs.Prelude.{not}
use Rattle.std.proofs.lemmas.List.Sums.{take_while-cons}
use Rattle.md_engine.specs.declared.event.Event.{Event}
use Rattle.md_engine.specs.declared.event.Name.{Name}
use Rattle.md_engine.specs.declared.event.Name.TheVariants as n
use Rattle.md_engine.specs.declared.event.Point.{Point}
use Rattle.md_meaning.specs.Leaves.{first_word}
use Rattle.md_meaning.specs.Rest.{is_white, trim_start}
use Rattle.md_events.proofs.RestLines.{count-none, count-one}
use Rattle.md_literal.proofs.FenceParts.{prefix-take}
use Rattle.md_events.specs.declared.inline.Chunk.{Chunk}
use Rattle.md_events.specs.Events.Grammar.{Expression, following, inside, may_end, plain_text, unread_text}
use Rattle.md_events.specs.Events.Inline.{plain_chunk}
use Rattle.md_events.specs.Events.Nested.{around, pair}
use Rattle.md_events.specs.Events.Places.{past_text}
use Rattle.md_events.proofs.GrammarLemmas.{IsWord, Leads, leads-around, leads-pair, maybe, word-following}
use Rattle.proof_literal_laws.specs.Leaf.Fence.{Inner, linked, past_white, read_inner, text_part, white_part}
use Rattle.proof_frame.proofs.ChunkFacts.{chunk-word}
use Rattle.proof_literal_laws.proofs.Fence.Walk.{CutsWord, following-first}

-- What is in info and in meta is a text.
abbrev pub Word : Expression → Inner → Type 0
Word text inner = (p q : Point) → IsWord text (text ∷ []) (inner p q)

pub linked-word : Word unread_text linked
linked-word p q = record { left = following n.Data unread_text; leads = λ outer. refl; ends = refl }

pub read-word : (bytes : List ℕ) → Word plain_text (read_inner bytes)
read-word bytes p q =
    let chunk : Chunk = record { first = p; after = q } in
    subst (IsWord plain_text (plain_text ∷ [])) (sym (append-nil (plain_chunk bytes chunk)))
    (chunk-word bytes true chunk)

-- Whitespace, and a part of text.

white-leads : (text x : Expression) (bytes : List ℕ) (p : Point) →
    (some : Bool) × Leads text (x ∷ []) (maybe some n.SpaceOrTab x ∷ []) (white_part bytes p)
white-leads text x [] p = (false, λ outer. refl)
white-leads text x (b ∷ bs) p = go (is_white b)
  where
    go : (white : Bool) →
        (some : Bool) × Leads text (x ∷ []) (maybe some n.SpaceOrTab x ∷ [])
        (cond white (pair n.SpaceOrTab p (past_white (b ∷ bs) p)) [])
    go true = (true, leads-pair text x n.SpaceOrTab p (past_white (b ∷ bs) p) refl)
    go false = (false, λ outer. refl)

-- after the sequence of math
abbrev math_marked : Expression → Bool → Expression
math_marked text some = maybe some n.SpaceOrTab (following n.MathFlowFenceSequence (inside text n.MathFlowFence))

-- a part of text after which nothing has to be
part-word : (text x : Expression) (inner : Inner) (name : Name) → may_end (following name x) ≡ true → (b : ℕ)
    (bs : List ℕ) (p : Point) → IsWord text (inside text name ∷ []) (inner p (past_text (b ∷ bs) p)) →
    IsWord text (x ∷ []) (text_part inner name (b ∷ bs) p)
part-word text x inner name ends b bs p word =
    let q = past_text (b ∷ bs) p in
    record { left = following name x; leads = leads-around text x name p q (inner p q) word; ends = ends }

math-word : (text : Expression) (inner : Inner) → Word text inner → (xs : List ℕ) (p : Point) (some : Bool) →
    IsWord text (math_marked text some ∷ []) (text_part inner n.MathFlowFenceMeta xs p)
math-word text inner word [] p true = record { left = math_marked text true; leads = λ outer. refl; ends = refl }
math-word text inner word [] p false = record { left = math_marked text false; leads = λ outer. refl; ends = refl }
math-word text inner word (b ∷ bs) p true =
    part-word text (math_marked text true) inner n.MathFlowFenceMeta refl b bs p (word p (past_text (b ∷ bs) p))
math-word text inner word (b ∷ bs) p false =
    part-word text (math_marked text false) inner n.MathFlowFenceMeta refl b bs p (word p (past_text (b ∷ bs) p))

-- after the sequence of code, and after info
abbrev marked : Expression → Bool → Expression
marked text some = maybe some n.SpaceOrTab (following n.CodeFencedFenceSequence (inside text n.CodeFencedFence))

abbrev recorded : Expression → Expression
recorded text = following n.CodeFencedFenceInfo (marked text true)

meta-word : (text : Expression) (inner : Inner) → Word text inner → (xs : List ℕ) (p : Point) →
    IsWord text (following n.SpaceOrTab (recorded text) ∷ []) (text_part inner n.CodeFencedFenceMeta xs p)
meta-word text inner word [] p =
    record { left = following n.SpaceOrTab (recorded text); leads = λ outer. refl; ends = refl }
meta-word text inner word (b ∷ bs) p =
    part-word text (following n.SpaceOrTab (recorded text)) inner n.CodeFencedFenceMeta refl b bs p
    (word p (past_text (b ∷ bs) p))

recorded-word : (text : Expression) (inner : Inner) → Word text inner → (left : List ℕ) (q : Point) → CutsWord left →
    IsWord text (recorded text ∷ [])
    (white_part left q ++ text_part inner n.CodeFencedFenceMeta (trim_start left) (past_white left q))
recorded-word text inner word [] q cut = record { left = recorded text; leads = λ outer. refl; ends = refl }
recorded-word text inner word (c ∷ cs) q cut =
    let v = past_white (c ∷ cs) q in
    let meta = text_part inner n.CodeFencedFenceMeta (trim_start (c ∷ cs)) v in
    subst (λ (x : Bool). IsWord text (recorded text ∷ []) (cond x (pair n.SpaceOrTab q v) [] ++ meta)) (sym cut)
    (word-following text (recorded text ∷ []) (following n.SpaceOrTab (recorded text) ∷ []) (pair n.SpaceOrTab q v) meta
    (leads-pair text (recorded text) n.SpaceOrTab q v refl) (meta-word text inner word (trim_start (c ∷ cs)) v))

-- whether bytes begin with no whitespace
abbrev pub Dark : List ℕ → Type 0
Dark [] = Unit {0}
Dark (b ∷ bs) = is_white b ≡ false

pub trim-dark : (bytes : List ℕ) → Dark (trim_start bytes)
trim-dark [] = tt
trim-dark (b ∷ bs) = go (is_white b) refl (trim-dark bs)
  where
    go : (x : Bool) → is_white b ≡ x → Dark (trim_start bs) → Dark (trim_start (b ∷ bs))
    go true e more = subst (λ (k : ℕ). Dark (drop k (b ∷ bs))) (sym (count-one is_white b bs e)) more
    go false e more = subst (λ (k : ℕ). Dark (drop k (b ∷ bs))) (sym (count-none is_white b bs e)) e

info-leads : (text : Expression) (inner : Inner) → Word text inner → (b : ℕ) (bs : List ℕ) (p : Point) (some : Bool) →
    is_white b ≡ false →
    Leads text (marked text some ∷ []) (recorded text ∷ [])
    (text_part inner n.CodeFencedFenceInfo (first_word (b ∷ bs)) p)
info-leads text inner word b bs p some dark =
    subst
    (λ (xs : List ℕ).
    Leads text (marked text some ∷ []) (recorded text ∷ []) (text_part inner n.CodeFencedFenceInfo xs p))
    (sym
    (take_while-cons (λ c. not (is_white c)) b bs
    ∙ ap (λ (x : Bool). cond (not x) (b ∷ first_word bs) []) dark))
    (go some)
  where
    q : Point
    q = past_text (b ∷ first_word bs) p

    go : (some : Bool) →
        Leads text (marked text some ∷ []) (recorded text ∷ []) (around n.CodeFencedFenceInfo p q (inner p q))
    go true = leads-around text (marked text true) n.CodeFencedFenceInfo p q (inner p q) (word p q)
    go false = leads-around text (marked text false) n.CodeFencedFenceInfo p q (inner p q) (word p q)

abbrev pub code_parts : Inner → List ℕ → Point → List Event
code_parts inner text p =
    let word = first_word text in
    let left = drop (length word) text in
    let q = past_text word p in
    text_part inner n.CodeFencedFenceInfo word p
    ++ white_part left q ++ text_part inner n.CodeFencedFenceMeta (trim_start left) (past_white left q)

code-word : (text : Expression) (inner : Inner) → Word text inner → (xs : List ℕ) (p : Point) (some : Bool) →
    Dark xs → IsWord text (marked text some ∷ []) (code_parts inner xs p)
code-word text inner word [] p true dark = record { left = marked text true; leads = λ outer. refl; ends = refl }
code-word text inner word [] p false dark = record { left = marked text false; leads = λ outer. refl; ends = refl }
code-word text inner word (b ∷ bs) p some dark =
    let xs = first_word (b ∷ bs) in
    let left = drop (length xs) (b ∷ bs) in
    let q = past_text xs p in
    let info = text_part inner n.CodeFencedFenceInfo xs p in
    let meta = text_part inner n.CodeFencedFenceMeta (trim_start left) (past_white left q) in
    subst (IsWord text (marked text some ∷ [])) (sym (append_assoc info (white_part left q) meta))
    (word-following text (marked text some ∷ []) (recorded text ∷ []) info (white_part left q ++ meta)
    (info-leads text inner word b bs p some dark)
    (recorded-word text inner word left q
    (subst (λ (k : ℕ). CutsWord (drop k (b ∷ bs))) (sym (prefix-take (λ c. not (is_white c)) (b ∷ bs)))
    (following-first (b ∷ bs)))))

-- What is in a fence is a word of it.

abbrev pub parts_by : Bool → Inner → List ℕ → Point → List Event
parts_by math inner xs p =
    cond math (text_part inner (cond math n.MathFlowFenceMeta n.CodeFencedFenceMeta) xs p)
    (let word = first_word xs in
    let left = drop (length word) xs in
    let q = past_text word p in
    text_part inner n.CodeFencedFenceInfo word p
    ++ white_part left q
    ++ text_part inner (cond math n.MathFlowFenceMeta n.CodeFencedFenceMeta) (trim_start left) (past_white left q))

pub fence-word : (text : Expression) (inner : Inner) → Word text inner → (math : Bool) (xs : List ℕ) (p q : Point) →
    IsWord text (inside text (cond math n.MathFlowFence n.CodeFencedFence) ∷ [])
    (pair (cond math n.MathFlowFenceSequence n.CodeFencedFenceSequence) p q
    ++ (white_part xs q ++ parts_by math inner (trim_start xs) (past_white xs q)))
fence-word text inner word true xs p q =
    let x = following n.MathFlowFenceSequence (inside text n.MathFlowFence) in
    let white = white-leads text x xs q in
    let meta = text_part inner n.MathFlowFenceMeta (trim_start xs) (past_white xs q) in
    word-following text (inside text n.MathFlowFence ∷ []) (x ∷ []) (pair n.MathFlowFenceSequence p q)
    (white_part xs q ++ meta)
    (leads-pair text (inside text n.MathFlowFence) n.MathFlowFenceSequence p q refl)
    (word-following text (x ∷ []) (maybe white.0 n.SpaceOrTab x ∷ []) (white_part xs q) meta white.1
    (math-word text inner word (trim_start xs) (past_white xs q) white.0))
fence-word text inner word false xs p q =
    let x = following n.CodeFencedFenceSequence (inside text n.CodeFencedFence) in
    let white = white-leads text x xs q in
    let parts = code_parts inner (trim_start xs) (past_white xs q) in
    word-following text (inside text n.CodeFencedFence ∷ []) (x ∷ []) (pair n.CodeFencedFenceSequence p q)
    (white_part xs q ++ parts)
    (leads-pair text (inside text n.CodeFencedFence) n.CodeFencedFenceSequence p q refl)
    (word-following text (x ∷ []) (maybe white.0 n.SpaceOrTab x ∷ []) (white_part xs q) parts white.1
    (code-word text inner word (trim_start xs) (past_white xs q) white.0 (trim-dark xs)))
