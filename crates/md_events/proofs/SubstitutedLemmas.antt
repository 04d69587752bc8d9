-- Linked parts, and the events that are in their places, step by step.
use Rattle.std.proofs.Common.{◌≡◌, ℕ, zero, suc, ◌+◌, ◌-◌, ◌<◌, ◌≤◌, ◌⊎◌, inl, inr, Bool, true, false, cond, List, []}
use Rattle.std.proofs.Common.{◌∷◌, ◌++◌, length, get_or, take, drop, refl, ap, sym, ◌∙◌, subst, append_assoc}
use Rattle.std.proofs.Common.{length-drop, arith}
use Rattle.std.specs.Prelude.{is_none, Option, Some, None}
use Rattle.std.proofs.lemmas.Bool.{and_parts, true≢false}
use Rattle.md_engine.specs.declared.event.Kind.{Kind}
use Rattle.md_engine.specs.declared.event.Kind.TheVariants.{Enter, Exit}
use Rattle.md_engine.specs.declared.event.Link.{Link}
use Rattle.std.specs.Option.{is_some}
use Rattle.std.specs.List.{All, prefix_len}
use Rattle.std.proofs.lemmas.List.{append-nil, drop-drop, drop_more, take_all}
use Rattle.std.proofs.lemmas.List.Elements.{All-nil, All-cons, All-head, All-tail}
use Rattle.md_engine.specs.declared.event.Content.{Content}
use Rattle.md_engine.specs.declared.event.Event.{Event}
use Rattle.md_engine.specs.Place.{IsPlaced}
use Rattle.md_events.specs.Parts.{AreChunks, ArePlaced, IsChunk}
use Rattle.md_events.specs.declared.inline.Chunk.{Chunk}
use Rattle.md_events.specs.Substituted.{Begun, Readings, Substituted, chunk_of, chunks_after, chunks_from, share, stays}
use Rattle.md_events.specs.Substituted.{is_plain_prefix, wanted, wanted_at}
use Rattle.md_events.specs.Events.Prefix.{is_prefix}

-- The chunks of a part.

chunk-placed : (bytes : List ℕ) (e f : Event) (es : List Event) → ArePlaced bytes (e ∷ f ∷ es) →
    IsChunk bytes (chunk_of e f)
chunk-placed bytes e f es h = record {
  first = All-head (λ (e : Event). IsPlaced bytes e.point) e (f ∷ es) h;
  after =
      All-head (λ (e : Event). IsPlaced bytes e.point) f es
      (All-tail (λ (e : Event). IsPlaced bytes e.point) e (f ∷ es) h);
}

following-placed : (bytes : List ℕ) (wants : Content → Bool) (es : List Event) → ArePlaced bytes es →
    All (IsChunk bytes) (chunks_after wants es)
following-placed bytes wants [] h = All-nil (IsChunk bytes)
following-placed bytes wants (e ∷ []) h = All-nil (IsChunk bytes)
following-placed bytes wants (e ∷ f ∷ es) h =
    let next : ArePlaced bytes (f ∷ es) = All-tail (λ (e : Event). IsPlaced bytes e.point) e (f ∷ es) h in
    go (is_some (wanted wants e)) (is_prefix e.name) (following-placed bytes wants (f ∷ es) next)
    (following-placed bytes wants es (All-tail (λ (e : Event). IsPlaced bytes e.point) f es next))
  where
    go : (x y : Bool) → All (IsChunk bytes) (chunks_after wants (f ∷ es)) →
        All (IsChunk bytes) (chunks_after wants es) →
        All (IsChunk bytes) (cond x (chunk_of e f ∷ chunks_after wants es) (cond y (chunks_after wants (f ∷ es)) []))
    go true y next rest =
        All-cons (IsChunk bytes) (chunk_of e f) (chunks_after wants es) (chunk-placed bytes e f es h) rest
    go false true next rest = next
    go false false next rest = All-nil (IsChunk bytes)

-- they are chunks of the text
pub chunks-placed : (bytes : List ℕ) (wants : Content → Bool) (events : List Event) → ArePlaced bytes events →
    1 < length events → AreChunks bytes (chunks_from wants events)
chunks-placed bytes wants [] h two = absurd (omega arith)
chunks-placed bytes wants (e ∷ []) h two = absurd (omega arith)
chunks-placed bytes wants (e ∷ f ∷ es) h two =
    let next : ArePlaced bytes (f ∷ es) = All-tail (λ (e : Event). IsPlaced bytes e.point) e (f ∷ es) h in
    record {
      some = omega arith;
      each =
          All-cons (IsChunk bytes) (chunk_of e f) (chunks_after wants es) (chunk-placed bytes e f es h)
          (following-placed bytes wants es (All-tail (λ (e : Event). IsPlaced bytes e.point) f es next));
    }

-- none continue a part at its last event
pub chunks-end : (wants : Content → Bool) (events : List Event) (at : ℕ) → length events ≤ at + 1 →
    chunks_after wants (drop at events) ≡ []
chunks-end wants events at h = go (drop at events) (omega (arith, length-drop at events))
  where
    go : (rest : List Event) → length rest ≤ 1 → chunks_after wants rest ≡ []
    go [] small = refl
    go (e ∷ []) small = refl
    go (e ∷ f ∷ es) small = absurd (omega arith)

-- nor after an event that is neither a chunk nor of a prefix
pub chunks-stop : (wants : Content → Bool) (events : List Event) (at : ℕ) (d : Event) → at < length events →
    is_some (wanted wants (get_or events at d)) ≡ false → is_prefix (get_or events at d).name ≡ false →
    chunks_after wants (drop at events) ≡ []
chunks-stop wants events at d h none other =
    ap (chunks_after wants) (drop_more events at d h) ∙ go (get_or events at d) (drop (at + 1) events) none other
  where
    go : (e : Event) (es : List Event) → is_some (wanted wants e) ≡ false → is_prefix e.name ≡ false →
        chunks_after wants (e ∷ es) ≡ []
    go e [] none other = refl
    go e (f ∷ es) none other =
        ap
        (λ (x : Bool).
        cond x (chunk_of e f ∷ chunks_after wants es) (cond (is_prefix e.name) (chunks_after wants (f ∷ es)) [])) none
        ∙ ap (λ (x : Bool). cond x (chunks_after wants (f ∷ es)) []) other

-- those after events of prefixes that begin no chunk
pub chunks-past : (wants : Content → Bool) (es : List Event) →
    chunks_after wants (drop (prefix_len is_plain_prefix es) es) ≡ chunks_after wants es
chunks-past wants [] = refl
chunks-past wants (e ∷ es) = by (is_plain_prefix e) refl (chunks-past wants es)
  where
    run : ℕ
    run = prefix_len is_plain_prefix es

    unwanted : (k : Kind) (l : Option Link) → is_none l ≡ true → is_some (wanted_at wants k l) ≡ false
    unwanted Enter None h = refl
    unwanted Exit None h = refl
    unwanted k (Some l) h = absurd (true≢false (sym h))

    go : (e : Event) (es : List Event) → is_prefix e.name ≡ true → is_some (wanted wants e) ≡ false →
        chunks_after wants (e ∷ es) ≡ chunks_after wants es
    go e [] prefix none = refl
    go e (f ∷ es) prefix none =
        ap
        (λ (x : Bool).
        cond x (chunk_of e f ∷ chunks_after wants es) (cond (is_prefix e.name) (chunks_after wants (f ∷ es)) [])) none
        ∙ ap (λ (x : Bool). cond x (chunks_after wants (f ∷ es)) []) prefix

    by : (x : Bool) → is_plain_prefix e ≡ x → chunks_after wants (drop run es) ≡ chunks_after wants es →
        chunks_after wants (drop (cond (is_plain_prefix e) (1 + run) 0) (e ∷ es)) ≡ chunks_after wants (e ∷ es)
    by true plain following =
        let parts : (is_prefix e.name ≡ true) × (is_none e.link ≡ true) = and_parts (is_prefix e.name)
        (is_none e.link) plain in
        let more : 1 + run ≡ suc run = omega arith in
        ap (λ x. chunks_after wants (drop (cond x (1 + run) 0) (e ∷ es))) plain
        ∙ ap (λ n. chunks_after wants (drop n (e ∷ es))) more
        ∙ following ∙ sym (go e es parts.0 (unwanted e.kind e.link parts.1))
    by false other following = ap (λ x. chunks_after wants (drop (cond x (1 + run) 0) (e ∷ es))) other

-- and so at a place
pub chunks-past-at : (wants : Content → Bool) (events rest : List Event) (at n : ℕ) → rest ≡ drop at events →
    n ≡ prefix_len is_plain_prefix rest →
    chunks_after wants (drop (at + n) events) ≡ chunks_after wants (drop at events)
chunks-past-at wants events rest at n is run =
    sym (ap (chunks_after wants) (drop-drop n at events))
    ∙ ap (λ l. chunks_after wants (drop n l)) (sym is)
    ∙ ap (λ k. chunks_after wants (drop k rest)) run
    ∙ chunks-past wants rest ∙ ap (chunks_after wants) is

-- The events in their places.

-- what the events that are left lead to, after those that are
abbrev pub Leads : (Content → Bool) → Readings → List Event → List Event → ℕ → List Event → List Event → Type 0
Leads wants reads events left chunks rest all =
    (out : List Event) → Substituted wants reads left chunks rest out → Substituted wants reads [] 0 events (all ++ out)

-- what follows two events, by what a chunk that begins with the first holds
abbrev pub SubstitutedBy : (Content → Bool) → Readings → List Event → ℕ → Event → Event → List Event → List Event →
    Option Content → Type 0
SubstitutedBy wants reads left chunks e f es out o = elim o [
  | None ↦ (rest : List Event) × (is : out ≡ e ∷ rest) × Substituted wants reads left chunks (f ∷ es) rest
  | Some content ↦ elim chunks [
    | zero ↦
        (answer rest : List Event) × (read : reads content (chunk_of e f ∷ chunks_after wants es) answer)
        × (is : out ≡ take (share (length (chunks_after wants es)) answer f.point.index) answer ++ rest)
        × Substituted wants reads (drop (share (length (chunks_after wants es)) answer f.point.index) answer)
        (length (chunks_after wants es)) es rest
    | suc more ↦
        (rest : List Event) × (is : out ≡ take (share more left f.point.index) left ++ rest)
        × Substituted wants reads (drop (share more left f.point.index) left) more es rest
  ]
]

-- an event that stays
pub leads-event : (wants : Content → Bool) (reads : Readings) (events left rest all : List Event) (chunks : ℕ)
    (e : Event) →
    (wanted wants e ≡ None) ⊎ (rest ≡ []) →
    Leads wants reads events left chunks (e ∷ rest) all → Leads wants reads events left chunks rest (all ++ e ∷ [])
leads-event wants reads events left rest all chunks e stays leads out s =
    subst (Substituted wants reads [] 0 events) (sym (append_assoc all (e ∷ []) out))
    (leads (e ∷ out) (go rest stays s))
  where
    go : (rest : List Event) → (wanted wants e ≡ None) ⊎ (rest ≡ []) → Substituted wants reads left chunks rest out →
        Substituted wants reads left chunks (e ∷ rest) (e ∷ out)
    go [] stays s = ap (λ (l : List Event). e ∷ l) s
    go (f ∷ es) (inl none) s = subst (SubstitutedBy wants reads left chunks e f es (e ∷ out)) (sym none) (out, refl, s)
    go (f ∷ es) (inr none) s = cc

-- a chunk, in the place of which is what belongs there
pub leads-chunk : (wants : Content → Bool) (reads : Readings) (events left all : List Event) (chunks : ℕ) (e f : Event)
    (es : List Event) (content : Content) →
    wanted wants e ≡ Some content →
    Leads wants reads events left chunks (e ∷ f ∷ es) all →
    (now : List Event) (more : ℕ) →
    Begun (reads content (chunks_from wants (e ∷ f ∷ es))) (length (chunks_from wants (e ∷ f ∷ es))) left chunks now
    (suc more) →
    Leads wants reads events (drop (share more now f.point.index) now) more es
    (all ++ take (share more now f.point.index) now)
leads-chunk wants reads events left all zero e f es content some leads now more begun out s =
    let placed : List Event = take (share more now f.point.index) now in
    let many : more ≡ length (chunks_after wants es) = cc in
    let valid : SubstitutedBy wants reads left 0 e f es (placed ++ out) (Some content) =
    subst
    (λ (n : ℕ).
    (answer rest : List Event) × (read : reads content (chunk_of e f ∷ chunks_after wants es) answer) ×
    (is : placed ++ out ≡ take (share n answer f.point.index) answer ++ rest) ×
    Substituted wants reads (drop (share n answer f.point.index) answer) n es rest) many
    (now, out, begun.0, refl, s) in
    subst (Substituted wants reads [] 0 events) (sym (append_assoc all placed out))
    (leads (placed ++ out) (subst (SubstitutedBy wants reads left 0 e f es (placed ++ out)) (sym some) valid))
leads-chunk wants reads events left all (suc last) e f es content some leads now more begun out s =
    let placed : List Event = take (share more now f.point.index) now in
    let many : more ≡ last = cc in
    let valid : SubstitutedBy wants reads now (suc more) e f es (placed ++ out) (Some content) = (out, refl, s) in
    let same : SubstitutedBy wants reads left (suc last) e f es (placed ++ out) (Some content) =
    subst (λ (l : List Event). SubstitutedBy wants reads l (suc last) e f es (placed ++ out) (Some content)) begun.0
    (subst (λ (n : ℕ). SubstitutedBy wants reads now (suc n) e f es (placed ++ out) (Some content)) many valid) in
    subst (Substituted wants reads [] 0 events) (sym (append_assoc all placed out))
    (leads (placed ++ out)
    (subst (SubstitutedBy wants reads left (suc last) e f es (placed ++ out)) (sym some) same))

-- At an index.

pub two-left : (events : List Event) (at : ℕ) (d : Event) → at + 1 < length events →
    drop at events ≡ get_or events at d ∷ get_or events (at + 1) d ∷ drop (at + 2) events
two-left events at d h =
    let next : (at + 1) + 1 ≡ at + 2 = omega arith in
    drop_more events at d (omega arith)
    ∙ ap (λ (l : List Event). get_or events at d ∷ l) (drop_more events (at + 1) d h)
    ∙ ap (λ (n : ℕ). get_or events at d ∷ get_or events (at + 1) d ∷ drop n events) next

-- nothing is read yet
pub leads-first : (wants : Content → Bool) (reads : Readings) (events rest found all : List Event) (placed chunks : ℕ) →
    rest ≡ events → found ≡ [] → placed ≡ 0 → chunks ≡ 0 → all ≡ [] →
    Leads wants reads events (drop placed found) chunks rest all
leads-first wants reads events rest found all placed chunks whole none front fresh empty =
    rw (whole, none, front, fresh, empty) (λ out s. s)

-- all is read
pub leads-all : (wants : Content → Bool) (reads : Readings) (events left rest all : List Event) (chunks : ℕ) →
    rest ≡ [] → Leads wants reads events left chunks rest all → Substituted wants reads [] 0 events all
leads-all wants reads events left rest all chunks none leads =
    subst (Substituted wants reads [] 0 events) (append-nil all)
    (subst (λ (l : List Event). Leads wants reads events left chunks l all) none leads [] refl)

-- events that stay, up to the next chunk
leads-events : (wants : Content → Bool) (reads : Readings) (events left rest all : List Event) (chunks : ℕ) →
    Leads wants reads events left chunks rest all →
    let run = prefix_len (stays wants) rest in
    Leads wants reads events left chunks (drop run rest) (all ++ take run rest)
leads-events wants reads events left [] all chunks leads =
    subst (Leads wants reads events left chunks []) (sym (append-nil all)) leads
leads-events wants reads events left (e ∷ es) all chunks leads =
    go (wanted wants e) refl (λ on. leads-events wants reads events left es (all ++ e ∷ []) chunks on)
  where
    run : ℕ
    run = prefix_len (stays wants) es

    go : (x : Option Content) → wanted wants e ≡ x →
        (Leads wants reads events left chunks es (all ++ e ∷ []) →
        Leads wants reads events left chunks (drop run es) ((all ++ e ∷ []) ++ take run es)) →
        let many = prefix_len (stays wants) (e ∷ es) in
        Leads wants reads events left chunks (drop many (e ∷ es)) (all ++ take many (e ∷ es))
    go None k following =
        let more : 1 + run ≡ suc run = omega arith in
        rw (k, more)
        (subst (Leads wants reads events left chunks (drop run es)) (append_assoc all (e ∷ []) (take run es))
        (following (leads-event wants reads events left es all chunks e (inl k) leads)))
    go (Some wanted) k following =
        rw k (subst (Leads wants reads events left chunks (e ∷ es)) (sym (append-nil all)) leads)

-- an event that stays, as no chunk begins there, and those after it up to the next chunk
pub leads-stays : (wants : Content → Bool) (reads : Readings) (events left all rest : List Event) (chunks many : ℕ)
    (e : Event) →
    rest ≡ e ∷ drop 1 rest → (wanted wants e ≡ None) ⊎ (drop 1 rest ≡ []) →
    many ≡ suc (prefix_len (stays wants) (drop 1 rest)) →
    Leads wants reads events left chunks rest all →
    Leads wants reads events left chunks (drop many rest) (all ++ take many rest)
leads-stays wants reads events left all rest chunks many e first stay count leads =
    subst (λ (l : List Event). Leads wants reads events left chunks (drop many l) (all ++ take many l)) (sym first)
    (subst (λ (n : ℕ). Leads wants reads events left chunks (drop n (e ∷ es)) (all ++ take n (e ∷ es))) (sym count)
    (subst (Leads wants reads events left chunks (drop run es)) (append_assoc all (e ∷ []) (take run es))
    (leads-events wants reads events left es (all ++ e ∷ []) chunks
    (leads-event wants reads events left es all chunks e stay
    (subst (λ (l : List Event). Leads wants reads events left chunks l all) first leads)))))
  where
    es : List Event
    es = drop 1 rest

    run : ℕ
    run = prefix_len (stays wants) es

-- a chunk begins
pub leads-part : (wants : Content → Bool) (reads : Readings) (events rest left now left_after all new : List Event)
    (chunks many chunks_left : ℕ) (d : Event) (content : Content) →
    1 < length rest → Some content ≡ wanted wants (get_or rest 0 d) →
    Begun (reads content (chunks_from wants rest)) (length (chunks_from wants rest)) left chunks now many →
    chunks_left + 1 ≡ many →
    new ≡ all ++ take (share (many - 1) now (get_or rest 1 d).point.index) now →
    left_after ≡ drop (share (many - 1) now (get_or rest 1 d).point.index) now →
    Leads wants reads events left chunks rest all → Leads wants reads events left_after chunks_left (drop 2 rest) new
leads-part wants reads events rest left now left_after all new chunks many chunks_left d content h some begun one placed
    following leads =
    let e : Event = get_or rest 0 d in
    let f : Event = get_or rest 1 d in
    let es : List Event = drop 2 rest in
    let split : rest ≡ e ∷ f ∷ es = two-left rest 0 d h in
    let more : many ≡ suc chunks_left = omega arith in
    let less : many - 1 ≡ chunks_left = omega arith in
    let begins : Begun (reads content (chunks_from wants (e ∷ f ∷ es)))
    (length (chunks_from wants (e ∷ f ∷ es))) left chunks now (suc chunks_left) =
    subst
    (λ (n : ℕ).
    Begun (reads content (chunks_from wants (e ∷ f ∷ es)))
    (length (chunks_from wants (e ∷ f ∷ es))) left chunks now n) more
    (subst
    (λ (l : List Event).
    Begun (reads content (chunks_from wants l)) (length (chunks_from wants l)) left chunks now many) split begun) in
    let leads_on : Leads wants reads events (drop (share chunks_left now f.point.index) now) chunks_left es
    (all ++ take (share chunks_left now f.point.index) now) =
    leads-chunk wants reads events left all chunks e f es content (sym some)
    (subst (λ (l : List Event). Leads wants reads events left chunks l all) split leads) now chunks_left begins in
    subst (λ (l : List Event). Leads wants reads events l chunks_left es new) (sym following)
    (subst (Leads wants reads events (drop (share (many - 1) now f.point.index) now) chunks_left es) (sym placed)
    (subst
    (λ (n : ℕ).
    Leads wants reads events (drop (share n now f.point.index) now) chunks_left es
    (all ++ take (share n now f.point.index) now))
    (sym less) leads_on))

-- Chunks are listed.

-- a slice to the end
pub to-end : (events : List Event) (n : ℕ) → take (length events - n) (drop n events) ≡ drop n events
to-end events n = take_all _ _ (omega (arith, length-drop n events))

-- the first is, and those after prefixes are left
pub lists-first : (wants : Content → Bool) (events : List Event) (d : Event) (none items : List Chunk) (n : ℕ) →
    1 < length events → none ≡ [] →
    items ≡ none ++ chunk_of (get_or events 0 d) (get_or events 1 d) ∷ [] →
    n ≡ prefix_len is_plain_prefix (take (length events - 2) (drop 2 events)) →
    items ++ chunks_after wants (drop (2 + n) events) ≡ chunks_from wants events
lists-first wants events d none items n two empty is run =
    let past = chunks-past-at wants events _ 2 n (to-end events 2) run in
    rw (is, empty)
    (ap (λ l. chunk_of (get_or events 0 d) (get_or events 1 d) ∷ l) past ∙ go events two)
  where
    go : (events : List Event) → 1 < length events →
        ◌≡◌ {A = List Chunk} (chunk_of (get_or events 0 d) (get_or events 1 d) ∷ chunks_after wants (drop 2 events))
        (chunks_from wants events)
    go [] two = absurd (omega arith)
    go (e ∷ []) two = absurd (omega arith)
    go (e ∷ f ∷ es) two = refl

-- and so is one more
pub lists-more : (wants : Content → Bool) (events : List Event) (at : ℕ) (d : Event) (items new all : List Chunk)
    (n : ℕ) → at + 1 < length events → is_some (wanted wants (get_or events at d)) ≡ true →
    new ≡ items ++ chunk_of (get_or events at d) (get_or events (at + 1) d) ∷ [] →
    n ≡ prefix_len is_plain_prefix (take (length events - (at + 2)) (drop (at + 2) events)) →
    items ++ chunks_after wants (drop at events) ≡ all → new ++ chunks_after wants (drop (at + 2 + n) events) ≡ all
lists-more wants events at d items new all n two some is run listed =
    let e : Event = get_or events at d in
    let f : Event = get_or events (at + 1) d in
    let es : List Event = drop (at + 2) events in
    let past = chunks-past-at wants events _ (at + 2) n (to-end events (at + 2)) run in
    let here : chunks_after wants (drop at events) ≡ chunk_of e f ∷ chunks_after wants es =
    ap (chunks_after wants) (two-left events at d two)
    ∙ ap
    (λ (x : Bool).
    cond x (chunk_of e f ∷ chunks_after wants es) (cond (is_prefix e.name) (chunks_after wants (f ∷ es)) []))
    some in
    ap (λ l. new ++ l) past
    ∙ ap (λ l. l ++ chunks_after wants es) is
    ∙ append_assoc items (chunk_of e f ∷ []) (chunks_after wants es)
    ∙ ap (λ l. items ++ l) (sym here) ∙ listed
