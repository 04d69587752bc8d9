-- Which parts a reader may be asked for, step by step.
use Rattle.std.proofs.Common.{◌≡◌, ℕ, zero, suc, ◌+◌, ◌<◌, ◌⊎◌, inl, inr, List, [], ◌∷◌, length, get_or, drop, refl}
use Rattle.std.proofs.Common.{sym, subst, arith}
use Rattle.std.specs.Prelude.{Option, Some, None, Bool}
use Rattle.std.specs.List.{prefix_len}
use Rattle.md_engine.specs.declared.event.Content.{Content}
use Rattle.md_engine.specs.declared.event.Event.{Event}
use Rattle.md_events.specs.Substituted.{Asked, Begun, EachAsked, chunk_of, chunks_after, chunks_from, stays, wanted}
use Rattle.md_events.proofs.SubstitutedLemmas.{two-left}

-- what may be asked after two events, by what a chunk that begins with the first holds
abbrev pub AskedBy : (Content → Bool) → Asked → ℕ → Event → Event → List Event → Option Content → Type 0
AskedBy wants asked chunks e f es o = elim o [
  | None ↦ EachAsked wants asked chunks (f ∷ es)
  | Some content ↦ elim chunks [
    | zero ↦
        asked content (chunk_of e f ∷ chunks_after wants es)
        × EachAsked wants asked (length (chunks_after wants es)) es
    | suc more ↦ EachAsked wants asked more es
  ]
]

-- an event that stays
pub asked-event : (wants : Content → Bool) (asked : Asked) (n : ℕ) (e : Event) (rest : List Event) →
    (wanted wants e ≡ None) ⊎ (rest ≡ []) → EachAsked wants asked n (e ∷ rest) → EachAsked wants asked n rest
asked-event wants asked n e [] stays each = tt
asked-event wants asked n e (f ∷ es) (inl none) each = subst (AskedBy wants asked n e f es) none each
asked-event wants asked n e (f ∷ es) (inr none) each = cc

-- events that stay, up to the next chunk
asked-events : (wants : Content → Bool) (asked : Asked) (n : ℕ) (rest : List Event) → EachAsked wants asked n rest →
    EachAsked wants asked n (drop (prefix_len (stays wants) rest) rest)
asked-events wants asked n [] each = tt
asked-events wants asked n (e ∷ es) each =
    go (wanted wants e) refl (λ on. asked-events wants asked n es on)
  where
    run : ℕ
    run = prefix_len (stays wants) es

    go : (x : Option Content) → wanted wants e ≡ x →
        (EachAsked wants asked n es → EachAsked wants asked n (drop run es)) →
        EachAsked wants asked n (drop (prefix_len (stays wants) (e ∷ es)) (e ∷ es))
    go None k following =
        let more : 1 + run ≡ suc run = omega arith in
        rw (k, more) (following (asked-event wants asked n e es (inl k) each))
    go (Some held) k following = rw k each

-- an event that stays, as no chunk begins there, and those after it up to the next chunk
pub asked-stays : (wants : Content → Bool) (asked : Asked) (rest : List Event) (chunks many : ℕ) (e : Event) →
    rest ≡ e ∷ drop 1 rest → (wanted wants e ≡ None) ⊎ (drop 1 rest ≡ []) →
    many ≡ suc (prefix_len (stays wants) (drop 1 rest)) → EachAsked wants asked chunks rest →
    EachAsked wants asked chunks (drop many rest)
asked-stays wants asked rest chunks many e first stay count each =
    subst (λ (l : List Event). EachAsked wants asked chunks (drop many l)) (sym first)
    (subst (λ (n : ℕ). EachAsked wants asked chunks (drop n (e ∷ drop 1 rest))) (sym count)
    (asked-events wants asked chunks (drop 1 rest)
    (asked-event wants asked chunks e (drop 1 rest) stay (subst (EachAsked wants asked chunks) first each))))

-- a part begins, unless chunks of another are left
pub asked-part : (wants : Content → Bool) (asked : Asked) (rest : List Event) (chunks : ℕ) (d : Event)
    (content : Content) →
    1 < length rest → Some content ≡ wanted wants (get_or rest 0 d) → EachAsked wants asked chunks rest → chunks ≡ 0 →
    asked content (chunks_from wants rest)
asked-part wants asked rest chunks d content h some each none =
    let e : Event = get_or rest 0 d in
    let f : Event = get_or rest 1 d in
    let es : List Event = drop 2 rest in
    let split : rest ≡ e ∷ f ∷ es = two-left rest 0 d h in
    let begun : AskedBy wants asked 0 e f es (Some content) =
    subst (AskedBy wants asked 0 e f es) (sym some)
    (subst (λ (n : ℕ). EachAsked wants asked n (e ∷ f ∷ es)) none
    (subst (EachAsked wants asked chunks) split each)) in
    subst (λ (l : List Event). asked content (chunks_from wants l)) (sym split) begun.0

-- a chunk is read, and those that are left continue the part
pub asked-next : (wants : Content → Bool) (asked : Asked) (reads : List Event → Type 0) (rest left now : List Event)
    (chunks many chunks_left : ℕ) (d : Event) (content : Content) →
    1 < length rest → Some content ≡ wanted wants (get_or rest 0 d) →
    Begun reads (length (chunks_from wants rest)) left chunks now many → chunks_left + 1 ≡ many →
    EachAsked wants asked chunks rest → EachAsked wants asked chunks_left (drop 2 rest)
asked-next wants asked reads rest left now chunks many chunks_left d content h some begun one each =
    let split : rest ≡ e ∷ f ∷ es = two-left rest 0 d h in
    go chunks
    (subst (λ (l : List Event). Begun reads (length (chunks_from wants l)) left chunks now many) split begun)
    (subst (AskedBy wants asked chunks e f es) (sym some) (subst (EachAsked wants asked chunks) split each))
  where
    e : Event
    e = get_or rest 0 d

    f : Event
    f = get_or rest 1 d

    es : List Event
    es = drop 2 rest

    go : (chunks : ℕ) → Begun reads (length (chunks_from wants (e ∷ f ∷ es))) left chunks now many →
        AskedBy wants asked chunks e f es (Some content) → EachAsked wants asked chunks_left es
    go zero begun each =
        let all : many ≡ suc (length (chunks_after wants es)) = begun.1 in
        let same : length (chunks_after wants es) ≡ chunks_left = omega (arith, all, one) in
        subst (λ (n : ℕ). EachAsked wants asked n es) same each.1
    go (suc more) begun each =
        let all : many ≡ suc more = begun.1 in
        let same : more ≡ chunks_left = omega (arith, all, one) in
        subst (λ (n : ℕ). EachAsked wants asked n es) same each
