-- A walk over the blocks of a document by which a layer reads its text parts: which part is next, and where it is.
use Rattle.std.proofs.Common.{◌≡◌, ℕ, zero, suc, ◌+◌, ◌-◌, ◌<◌, ◌≤◌, ◌⊎◌, inl, inr, Bool, true, List, [], ◌∷◌, ◌++◌, length}
use Rattle.std.proofs.Common.{append-nil, append_assoc, get_or, take, drop, refl, ap, sym, ◌∙◌, subst, arith}
use Rattle.std.specs.Prelude.{Option, Some, None}
use Rattle.std.specs.Option.{is_some}
use Rattle.std.specs.List.{prefix_len}
use Rattle.std.proofs.lemmas.Bool.{true≢false}
use Rattle.std.proofs.lemmas.List.{drop-drop, drop-take, take-append-drop, take-take}
use Rattle.md_engine.specs.declared.event.Content.{Content}
use Rattle.md_engine.specs.declared.event.Event.{Event}
use Rattle.md_events.specs.declared.inline.Chunk.{Chunk}
use Rattle.md_events.specs.declared.inline.PartPlace.{PartPlace}
use Rattle.md_events.specs.Events.Inline.{Part}
use Rattle.md_events.specs.Events.Tiles.{parts}
use Rattle.md_events.specs.Substituted.{Begun, Readings, chunk_of, chunks_after, chunks_from, share}
use Rattle.md_events.specs.Substituted.{stays, wanted}
use Rattle.md_events.specs.TextPart.{AreBlocks, Document, text_kind, wants_text}
use Rattle.md_events.proofs.PartWalks.{Walk, Ends, Stays, Begins, IsContinued, unlinked-unwanted}
use Rattle.md_events.proofs.PartWalks.{walk-blocks}
use Rattle.md_events.proofs.SubstitutedLemmas.{Leads, SubstitutedBy, leads-chunk, leads-event, two-left}
use Rattle.markdown_blocks.specs.InPlace.{InPlace, is_chunk_next, InPlace.Nothing, InPlace.Placed}
use Rattle.markdown_blocks.specs.PartPlaces.{IsNext, part_places, places_after}
use Rattle.markdown_blocks.proofs.PlacedParts.{ArePlacedAt, following-parts, next-part, placed-parts}

-- What is left of such a walk: the places of the parts whose first chunk is still to come, and so many chunks of a part
-- that has begun.
pub record AreNext (document : Document) (places : List PartPlace) (chunks : ℕ) (rest : List Event) : Type 0 where
  pub left : List Chunk
  pub following : List Part
  pub walk : Walk left rest following
  pub count : length left ≡ chunks
  pub placed : ArePlacedAt document following places

-- nothing is read yet
pub ahead-first : (document : Document) (blocks rest : List Event) (places : List PartPlace) (chunks : ℕ) →
    AreBlocks document blocks → rest ≡ blocks → places ≡ part_places None blocks → chunks ≡ 0 →
    AreNext document places chunks rest
ahead-first document blocks rest places chunks are whole is none = record {
  left = [];
  following = parts blocks;
  walk = subst (λ (list : List Event). Walk [] list (parts blocks)) (sym whole) (walk-blocks document.bytes blocks are.list);
  count = sym none;
  placed = subst (ArePlacedAt document (parts blocks)) (sym is) (placed-parts document blocks are);
}

-- an event that stays
walk-stays : {left : List Chunk} {rest : List Event} {following : List Part} → Walk left rest following →
    (e : Event) → rest ≡ e ∷ drop 1 rest → (wanted wants_text e ≡ None) ⊎ (drop 1 rest ≡ []) →
    Walk left (drop 1 rest) following
walk-stays Ends e first stay = Ends
walk-stays (Stays unlinked outer walk) e first stay = walk
walk-stays (Begins {e = d} {f = f} {es = es} {held = held} is listed walk) e first (inl none) =
    let same : Some d ≡ Some e = ap first_of first in
    let some : wanted wants_text d ≡ Some held = is.holds in cc
  where
    first_of : List Event → Option Event
    first_of [] = None
    first_of (x ∷ xs) = Some x
walk-stays (Begins is listed walk) e first (inr none) = cc
walk-stays (IsContinued {e = d} {f = f} {es = es} {held = held} is walk) e first (inl none) =
    let same : Some d ≡ Some e = ap first_of first in
    let some : wanted wants_text d ≡ Some held = is.holds in cc
  where
    first_of : List Event → Option Event
    first_of [] = None
    first_of (x ∷ xs) = Some x
walk-stays (IsContinued is walk) e first (inr none) = cc

-- some of the events that stay, before the next chunk
walk-run : {left : List Chunk} {rest : List Event} {following : List Part} → Walk left rest following → (n : ℕ) →
    n ≤ prefix_len (stays wants_text) rest → Walk left (drop n rest) following
walk-run walk zero within = walk
walk-run Ends (suc n) within = Ends
walk-run (Stays {e = e} {es = es} unlinked outer walk) (suc n) within =
    let none : wanted wants_text e ≡ None = unlinked-unwanted wants_text e unlinked in
    let more : suc n ≤ 1 + prefix_len (stays wants_text) es = rw none at within in
    walk-run walk n (omega (arith, more))
walk-run (Begins is listed walk) (suc n) within =
    let none : suc n ≤ 0 = rw is.holds at within in absurd (omega (arith, none))
walk-run (IsContinued is walk) (suc n) within =
    let none : suc n ≤ 0 = rw is.holds at within in absurd (omega (arith, none))

pub ahead-stays : (document : Document) (places : List PartPlace) (chunks many : ℕ) (rest : List Event)
    (e : Event) → rest ≡ e ∷ drop 1 rest → (wanted wants_text e ≡ None) ⊎ (drop 1 rest ≡ []) → 0 < many →
    many ≤ suc (prefix_len (stays wants_text) (drop 1 rest)) →
    AreNext document places chunks rest → AreNext document places chunks (drop many rest)
ahead-stays document places chunks zero rest e first stay some within ahead = absurd (omega arith)
ahead-stays document places chunks (suc n) rest e first stay some within ahead = record {
  left = ahead.left;
  following = ahead.following;
  walk =
      subst (λ (list : List Event). Walk ahead.left list ahead.following)
      (sym (ap (λ (list : List Event). drop (suc n) list) first))
      (walk-run (walk-stays ahead.walk e first stay) n (omega arith));
  count = ahead.count;
  placed = ahead.placed;
}

-- The same of the events that are given.

leads-run : (wants : Content → Bool) (reads : Readings) (events left rest all : List Event) (chunks n : ℕ) →
    n ≤ prefix_len (stays wants) rest → Leads wants reads events left chunks rest all →
    Leads wants reads events left chunks (drop n rest) (all ++ take n rest)
leads-run wants reads events left rest all chunks zero within leads =
    subst (Leads wants reads events left chunks rest) (sym (append-nil all)) leads
leads-run wants reads events left [] all chunks (suc n) within leads =
    subst (Leads wants reads events left chunks []) (sym (append-nil all)) leads
leads-run wants reads events left (e ∷ es) all chunks (suc n) within leads =
    go (wanted wants e) refl
    (λ less on. leads-run wants reads events left es (all ++ e ∷ []) chunks n less on)
  where
    go : (x : Option Content) → wanted wants e ≡ x →
        (n ≤ prefix_len (stays wants) es → Leads wants reads events left chunks es (all ++ e ∷ []) →
        Leads wants reads events left chunks (drop n es) ((all ++ e ∷ []) ++ take n es)) →
        Leads wants reads events left chunks (drop n es) (all ++ e ∷ take n es)
    go None none following =
        let more : suc n ≤ 1 + prefix_len (stays wants) es = rw none at within in
        subst (Leads wants reads events left chunks (drop n es)) (append_assoc all (e ∷ []) (take n es))
        (following (omega (arith, more)) (leads-event wants reads events left es all chunks e (inl none) leads))
    go (Some held) some following = let none : suc n ≤ 0 = rw some at within in absurd (omega (arith, none))

pub leads-stay : (wants : Content → Bool) (reads : Readings) (events left all rest : List Event) (chunks many : ℕ)
    (e : Event) →
    rest ≡ e ∷ drop 1 rest → (wanted wants e ≡ None) ⊎ (drop 1 rest ≡ []) → 0 < many →
    many ≤ suc (prefix_len (stays wants) (drop 1 rest)) →
    Leads wants reads events left chunks rest all →
    Leads wants reads events left chunks (drop many rest) (all ++ take many rest)
leads-stay wants reads events left all rest chunks zero e first stay some within leads = absurd (omega arith)
leads-stay wants reads events left all rest chunks (suc n) e first stay some within leads =
    subst (λ (l : List Event). Leads wants reads events left chunks (drop (suc n) l) (all ++ take (suc n) l))
    (sym first)
    (subst (Leads wants reads events left chunks (drop n es)) (append_assoc all (e ∷ []) (take n es))
    (leads-run wants reads events left es (all ++ e ∷ []) chunks n (omega arith)
    (leads-event wants reads events left es all chunks e stay
    (subst (λ (l : List Event). Leads wants reads events left chunks l all) first leads))))
  where
    es : List Event
    es = drop 1 rest

-- a chunk, where none is left of a part that has begun, is the first of the next part
pub ahead-part : (document : Document) (places : List PartPlace) (chunks : ℕ) (rest : List Event) (d : Event)
    (content : Content) → 1 < length rest → Some content ≡ wanted wants_text (get_or rest 0 d) →
    AreNext document places chunks rest → chunks ≡ 0 →
    IsNext document places (record { kind = text_kind content; chunks = chunks_from wants_text rest })
ahead-part document places chunks rest d content two some ahead none =
    go ahead.walk two some (ahead.count ∙ none) ahead.placed
  where
    go : {left : List Chunk} {rest : List Event} {following : List Part} → Walk left rest following →
        1 < length rest → Some content ≡ wanted wants_text (get_or rest 0 d) → length left ≡ 0 →
        ArePlacedAt document following places →
        IsNext document places (record { kind = text_kind content; chunks = chunks_from wants_text rest })
    go Ends two some none placed = absurd (omega arith)
    go (Stays {e = e} unlinked outer walk) two some none placed =
        let no : wanted wants_text e ≡ None = unlinked-unwanted wants_text e unlinked in cc
    go (Begins {e = e} {f = f} {es = es} {left = left} {parts = following} {held = held} is listed walk) two some none
        placed =
        let same : Some content ≡ Some held = some ∙ is.holds in
        let kind : content ≡ held = cc in
        subst
        (λ (list : List Chunk).
        IsNext document places (record { kind = text_kind content; chunks = chunk_of e f ∷ list })) (sym listed)
        (subst
        (λ (c : Content).
        IsNext document places (record { kind = text_kind c; chunks = chunk_of e f ∷ left })) (sym kind)
        (next-part document (record { kind = text_kind held; chunks = chunk_of e f ∷ left }) following places
        placed))
    go (IsContinued is walk) two some none placed = absurd (omega arith)

-- A part has begun, unless chunks of another are left.

-- what is ahead then
pub ahead-begun : (document : Document) (places now_places : List PartPlace) (chunks many : ℕ)
    (reads : List Event → Type 0) (rest left now : List Event) (d : Event) (content : Content) →
    1 < length rest → Some content ≡ wanted wants_text (get_or rest 0 d) →
    Begun reads (length (chunks_from wants_text rest)) left chunks now many →
    now_places ≡ places_after chunks places → AreNext document places chunks rest →
    AreNext document now_places many rest
ahead-begun document places now_places chunks many reads rest before now d content two some begun took ahead =
    go chunks took begun ahead.walk two some ahead.count ahead.placed
  where
    go : (chunks : ℕ) → now_places ≡ places_after chunks places → {left : List Chunk} {rest : List Event}
        {following : List Part} →
        Begun reads (length (chunks_from wants_text rest)) before chunks now many → Walk left rest following →
        1 < length rest → Some content ≡ wanted wants_text (get_or rest 0 d) → length left ≡ chunks →
        ArePlacedAt document following places → AreNext document now_places many rest
    go chunks took begun Ends two some count placed = absurd (omega arith)
    go chunks took begun (Stays {e = e} unlinked outer walk) two some count placed =
        let no : wanted wants_text e ≡ None = unlinked-unwanted wants_text e unlinked in cc
    go zero took begun
        (Begins {e = e} {f = f} {es = es} {left = left} {parts = following} {held = held} is listed walk) two some
        count placed =
        let all : many ≡ suc (length (chunks_after wants_text es)) = begun.1 in
        let long : length (chunks_after wants_text es) ≡ length left = ap length listed in
        record {
          left = chunk_of e f ∷ left;
          following = following;
          walk = IsContinued is walk;
          count = omega (arith, all, long);
          placed =
              subst (ArePlacedAt document following) (sym took)
              (following-parts document (record { kind = text_kind held; chunks = chunk_of e f ∷ left }) following
              places placed);
        }
    go (suc more) took begun (Begins is listed walk) two some count placed = absurd (omega arith)
    go zero took begun (IsContinued is walk) two some count placed = absurd (omega arith)
    go (suc more) took begun
        (IsContinued {e = e} {f = f} {es = es} {left = left} {parts = following} is walk) two some count placed =
        let all : many ≡ suc more = begun.1 in
        record {
          left = chunk_of e f ∷ left;
          following = following;
          walk = IsContinued is walk;
          count = omega (arith, all, count);
          placed = subst (ArePlacedAt document following) (sym took) placed;
        }

-- the same of the events that are given
pub leads-begun : (wants : Content → Bool) (reads : Readings) (events rest left now all : List Event)
    (chunks many : ℕ) (d : Event) (content : Content) →
    1 < length rest → Some content ≡ wanted wants (get_or rest 0 d) →
    Begun (reads content (chunks_from wants rest)) (length (chunks_from wants rest)) left chunks now many →
    Leads wants reads events left chunks rest all → Leads wants reads events now many rest all
leads-begun wants reads events [] left now all chunks many d held two some begun leads out s =
    absurd (omega arith)
leads-begun wants reads events (e ∷ []) left now all chunks many d held two some begun leads out s =
    absurd (omega arith)
leads-begun wants reads events (e ∷ f ∷ es) left now all chunks many d content two some begun leads out s =
    leads out
    (subst (SubstitutedBy wants reads left chunks e f es out) some
    (go chunks many begun (subst (SubstitutedBy wants reads now many e f es out) (sym some) s)))
  where
    go : (chunks many : ℕ) →
        Begun (reads content (chunks_from wants (e ∷ f ∷ es))) (length (chunks_from wants (e ∷ f ∷ es))) left chunks now
        many →
        SubstitutedBy wants reads now many e f es out (Some content) →
        SubstitutedBy wants reads left chunks e f es out (Some content)
    go zero many begun s =
        let same : SubstitutedBy wants reads now (suc (length (chunks_after wants es))) e f es out (Some content) =
        subst (λ (n : ℕ). SubstitutedBy wants reads now n e f es out (Some content)) begun.1 s in
        (now, same.0, begun.0, same.1, same.2)
    go (suc more) many begun s =
        subst (λ (l : List Event). SubstitutedBy wants reads l (suc more) e f es out (Some content)) begun.0
        (subst (λ (n : ℕ). SubstitutedBy wants reads now n e f es out (Some content)) begun.1 s)

-- Chunks are in their places.

-- a chunk is next
pub first-begins : (events : List Event) (d : Event) → is_chunk_next events ≡ true →
    is_some (wanted wants_text (get_or events 0 d)) ≡ true
first-begins [] d begins = absurd (true≢false (sym begins))
first-begins (e ∷ es) d begins = begins

pub begins-first : (events : List Event) (d : Event) (content : Content) → 1 < length events →
    Some content ≡ wanted wants_text (get_or events 0 d) → is_chunk_next events ≡ true
begins-first [] d held two some = absurd (omega arith)
begins-first (e ∷ es) d held two some = ap is_some (sym some)

-- one more chunk
pub place-more : (left rest out now given after ahead : List Event) (chunks many fewer : ℕ) (d : Event) →
    1 < length ahead → is_some (wanted wants_text (get_or ahead 0 d)) ≡ true → fewer + 1 ≡ many →
    InPlace left chunks rest out now many ahead →
    given ≡ out ++ take (share (many - 1) now (get_or ahead 1 d).point.index) now →
    after ≡ drop (share (many - 1) now (get_or ahead 1 d).point.index) now →
    InPlace left chunks rest given after fewer (drop 2 ahead)
place-more left rest out now given after ahead chunks many fewer d two begins one is given_is after_is =
    subst (λ (l : List Event). InPlace left chunks rest l after fewer es)
    (sym (given_is ∙ ap (λ (n : ℕ). out ++ take (share n now f.point.index) now) less))
    (subst (λ (l : List Event). InPlace left chunks rest (out ++ take (share fewer now f.point.index) now) l fewer es)
    (sym (after_is ∙ ap (λ (n : ℕ). drop (share n now f.point.index) now) less)) (go (wanted wants_text e) refl begins))
  where
    e : Event
    e = get_or ahead 0 d

    f : Event
    f = get_or ahead 1 d

    es : List Event
    es = drop 2 ahead

    less : many - 1 ≡ fewer
    less = omega (arith, one)

    here : InPlace left chunks rest out now (suc fewer) (e ∷ f ∷ es)
    here =
        let more : many ≡ suc fewer = omega (arith, one) in
        subst (λ (n : ℕ). InPlace left chunks rest out now n (e ∷ f ∷ es)) more
        (subst (λ (l : List Event). InPlace left chunks rest out now many l) (two-left ahead 0 d two) is)

    go : (o : Option Content) → wanted wants_text e ≡ o → is_some o ≡ true →
        InPlace left chunks rest (out ++ take (share fewer now f.point.index) now)
        (drop (share fewer now f.point.index) now) fewer es
    go None none begins = absurd (true≢false (sym begins))
    go (Some held) some begins = Placed here some

-- the events in their places, where more are
pub taken-up : (items given : List Event) (first placed next : ℕ) → first ≤ placed → placed ≤ next →
    take (next - placed) (drop placed items) ≡ given →
    take (next - first) (drop first items) ≡ take (placed - first) (drop first items) ++ given
taken-up items given first placed next one two is =
    let n : ℕ = placed - first in
    let sum : next - first ≡ n + (next - placed) = omega (arith, one, two) in
    let at : first + n ≡ placed = omega (arith, one) in
    ap (λ (k : ℕ). take k (drop first items)) sum
    ∙ sym (take-add n (next - placed) (drop first items))
    ∙ ap (λ (l : List Event). take n (drop first items) ++ take (next - placed) l)
    (drop-drop n first items ∙ ap (λ (k : ℕ). drop k items) at)
    ∙ ap (λ (l : List Event). take n (drop first items) ++ l) is
  where
    take-add : (n m : ℕ) (l : List Event) → take n l ++ take m (drop n l) ≡ take (n + m) l
    take-add n m l =
        let within : n ≤ n + m = omega arith in
        ap (λ (f : List Event). f ++ take m (drop n l)) (sym (take-take n (n + m) l within))
        ∙ ap (λ (f : List Event). take n (take (n + m) l) ++ f) (sym (drop-take n m l))
        ∙ take-append-drop n (take (n + m) l)

-- what is ahead after them
ahead-chunk : (document : Document) (places : List PartPlace) (more : ℕ) (rest : List Event) (d : Event)
    (content : Content) → 1 < length rest → wanted wants_text (get_or rest 0 d) ≡ Some content →
    AreNext document places (suc more) rest → AreNext document places more (drop 2 rest)
ahead-chunk document places more rest d content two some ahead = go ahead.walk two some ahead.count ahead.placed
  where
    go : {left : List Chunk} {rest : List Event} {following : List Part} → Walk left rest following →
        1 < length rest → wanted wants_text (get_or rest 0 d) ≡ Some content → length left ≡ suc more →
        ArePlacedAt document following places → AreNext document places more (drop 2 rest)
    go Ends two some count placed = absurd (omega arith)
    go (Stays {e = e} unlinked outer walk) two some count placed =
        let no : wanted wants_text e ≡ None = unlinked-unwanted wants_text e unlinked in cc
    go (Begins is listed walk) two some count placed = absurd (omega (arith, count))
    go (IsContinued {left = left} {parts = following} is walk) two some count placed = record {
      left = left;
      following = following;
      walk = walk;
      count = omega (arith, count);
      placed = placed;
    }

pub ahead-placed : (document : Document) (places : List PartPlace) (left rest out now ahead : List Event)
    (chunks more : ℕ) → InPlace left chunks rest out now more ahead →
    AreNext document places chunks rest → AreNext document places more ahead
ahead-placed document places left rest out now ahead chunks more is next = go is
  where
    go : {out now ahead : List Event} {more : ℕ} → InPlace left chunks rest out now more ahead →
        AreNext document places more ahead
    go Nothing = next
    go (Placed {more = more} {e = e} {f = f} {es = es} {content = held} placed some) =
        ahead-chunk document places more (e ∷ f ∷ es) e held (omega arith) some (go placed)

-- the same of the events that are given
pub leads-placed : (reads : Readings) (events all left rest out now ahead : List Event) (chunks more : ℕ) →
    InPlace left chunks rest out now more ahead →
    Leads wants_text reads events left chunks rest all → Leads wants_text reads events now more ahead (all ++ out)
leads-placed reads events all left rest out now ahead chunks more is leads = go is
  where
    go : {out now ahead : List Event} {more : ℕ} → InPlace left chunks rest out now more ahead →
        Leads wants_text reads events now more ahead (all ++ out)
    go Nothing = subst (Leads wants_text reads events left chunks rest) (sym (append-nil all)) leads
    go (Placed {out = out} {now = now} {more = more} {e = e} {f = f} {es = es} {content = held} placed some) =
        subst (Leads wants_text reads events (drop (share more now f.point.index) now) more es)
        (append_assoc all out (take (share more now f.point.index) now))
        (leads-chunk wants_text reads events now (all ++ out) (suc more) e f es held some (go placed) now more
        (refl, refl))
