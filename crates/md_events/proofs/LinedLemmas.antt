-- Parts that are read as the plain layer reads them, chunk by chunk.
use Rattle.std.proofs.Common.{◌≡◌, ℕ, zero, suc, ◌+◌, ◌<◌, Bool, true, false, cond, ◌&&◌, List, [], ◌∷◌, ◌++◌, length}
use Rattle.std.proofs.Common.{get_or, take, drop, refl, ap, sym, ◌∙◌, subst, append_assoc, length-drop, ◌-◌, arith}
use Rattle.std.specs.Prelude.{Option, Some, None, is_none}
use Rattle.std.specs.Option.{is_some}
use Rattle.std.specs.List.{All, list_all, prefix_len}
use Rattle.std.proofs.lemmas.Bool.{and_from, and_parts, true≢false}
use Rattle.std.proofs.lemmas.List.{append_cancel_left, drop_more, take-append-drop}
use Rattle.std.proofs.lemmas.List.Sums.{prefix_len_stops}
use Rattle.std.proofs.lemmas.List.Elements.{All-append, All-cons, All-head, All-tail}
use Rattle.md_engine.specs.declared.event.Content.{Content}
use Rattle.md_engine.specs.declared.event.Event.{Event}
use Rattle.md_engine.specs.Place.{IsPlaced}
use Rattle.md_events.specs.declared.inline.Chunk.{Chunk}
use Rattle.md_events.specs.Events.Inline.{cut_at, ends_whole, in_order, plain_chunk, plain_chunks, together}
use Rattle.md_events.specs.Events.Places.{at_or_before}
use Rattle.md_events.specs.Events.Prefix.{is_prefix}
use Rattle.md_events.specs.Lined.{AreLines, BeginsWith, EachLine, IsLine, ReadsLines, lined}
use Rattle.md_events.specs.Parts.{ArePlaced}
use Rattle.md_events.specs.Substituted.{Asked, EachAsked, Readings, Substituted, chunk_of, chunks_after, share, stays}
use Rattle.md_events.specs.Substituted.{wanted}
use Rattle.md_events.proofs.AskedLemmas.{AskedBy}
use Rattle.md_events.proofs.InlineLemmas.{plain-cut}
use Rattle.md_events.proofs.SubstitutedLemmas.{SubstitutedBy}

-- By what a chunk that begins with the first of two events holds.

abbrev LinedBy : (Content → Bool) → List ℕ → Event → Event → List Event → Option Content → List Event
LinedBy wants bytes e f es o = elim o [
  | None ↦ e ∷ lined wants bytes (f ∷ es)
  | Some _ ↦ plain_chunk bytes (chunk_of e f) ++ lined wants bytes es
]

abbrev EachBy : (Content → Bool) → List ℕ → Event → Event → List Event → Option Content → Type 0
EachBy wants bytes e f es o = elim o [
  | None ↦ EachLine wants bytes (f ∷ es)
  | Some _ ↦ IsLine bytes (chunk_of e f) × EachLine wants bytes es
]

-- Lines.

next-lines : (bytes : List ℕ) (chunk : Chunk) (chunks : List Chunk) → AreLines bytes (chunk ∷ chunks) →
    AreLines bytes chunks
next-lines bytes chunk chunks are = record {
  each = All-tail (IsLine bytes) chunk chunks are.each;
  from = chunk.after;
  order =
      (and_parts (at_or_before are.from chunk.first && at_or_before chunk.first chunk.after)
      (in_order chunk.after chunks) are.order).1;
}

each-whole : (bytes : List ℕ) (chunks : List Chunk) → All (IsLine bytes) chunks → list_all ends_whole chunks ≡ true
each-whole bytes [] each = refl
each-whole bytes (chunk ∷ chunks) each =
    and_from (ends_whole chunk) (list_all ends_whole chunks) (All-head (IsLine bytes) chunk chunks each).whole
    (each-whole bytes chunks (All-tail (IsLine bytes) chunk chunks each))

-- the share of a chunk in what is left is what the plain layer gives for it
record IsShare (bytes : List ℕ) (left : List Event) (chunk : Chunk) (chunks : List Chunk) : Type 0 where
  first : take (share (length chunks) left chunk.after.index) left ≡ plain_chunk bytes chunk
  rest : drop (share (length chunks) left chunk.after.index) left ≡ together (plain_chunks bytes chunks)

line-share : (bytes : List ℕ) (chunk : Chunk) (chunks : List Chunk) → AreLines bytes (chunk ∷ chunks) →
    IsShare bytes (together (plain_chunks bytes (chunk ∷ chunks))) chunk chunks
line-share bytes chunk chunks are =
    let all : List Event = together (plain_chunks bytes (chunk ∷ chunks)) in
    let n : ℕ = share (length chunks) all chunk.after.index in
    let cut : cut_at (chunk ∷ chunks) all ≡ plain_chunk bytes chunk ∷ plain_chunks bytes chunks =
    plain-cut bytes are.from (chunk ∷ chunks) are.order (each-whole bytes (chunk ∷ chunks) are.each) in
    let front : take n all ≡ plain_chunk bytes chunk = cc in
    record {
      first = front;
      rest =
          append_cancel_left (plain_chunk bytes chunk) (drop n all) (together (plain_chunks bytes chunks))
          (ap (λ (l : List Event). l ++ drop n all) (sym front) ∙ take-append-drop n all);
    }

-- Which events are read.

-- the chunks that continue a part after an event with no chunk
none-following : (wants : Content → Bool) (e f : Event) (es : List Event) → wanted wants e ≡ None →
    chunks_after wants (e ∷ f ∷ es) ≡ cond (is_prefix e.name) (chunks_after wants (f ∷ es)) []
none-following wants e f es none =
    ap
    (λ (o : Option Content).
    cond (is_some o) (chunk_of e f ∷ chunks_after wants es) (cond (is_prefix e.name) (chunks_after wants (f ∷ es)) []))
    none

-- and with one
some-following : (wants : Content → Bool) (e f : Event) (es : List Event) (held : Content) →
    wanted wants e ≡ Some held → chunks_after wants (e ∷ f ∷ es) ≡ chunk_of e f ∷ chunks_after wants es
some-following wants e f es held some =
    ap
    (λ (o : Option Content).
    cond (is_some o) (chunk_of e f ∷ chunks_after wants es) (cond (is_prefix e.name) (chunks_after wants (f ∷ es)) []))
    some

-- of a part that has begun, these chunks are ahead, and these events are left
record Ahead (bytes : List ℕ) (left : List Event) (count : ℕ) (chunks : List Chunk) : Type 0 where
  many : count ≡ length chunks
  left_are : left ≡ together (plain_chunks bytes chunks)
  lines : AreLines bytes chunks

-- what is read where each chunk has its own events
record ReadLined (wants : Content → Bool) (bytes : List ℕ) (reads : Readings) (left : List Event) (count : ℕ)
    (events : List Event) : Type 0 where
  substituted : Substituted wants reads left count events (lined wants bytes events)
  each : EachLine wants bytes events

lined-reads : (wants : Content → Bool) (bytes : List ℕ) (asked : Asked) (reads : Readings) →
    ReadsLines bytes asked reads → (left : List Event) (count : ℕ) (events : List Event) →
    EachAsked wants asked count events → (0 < count → Ahead bytes left count (chunks_after wants events)) →
    ReadLined wants bytes reads left count events
lined-reads wants bytes asked reads law left count [] asks ahead = record { substituted = refl; each = tt }
lined-reads wants bytes asked reads law left count (e ∷ []) asks ahead = record { substituted = refl; each = tt }
lined-reads wants bytes asked reads law left count (e ∷ f ∷ es) asks ahead =
    go (wanted wants e) refl left count asks ahead
    (λ l n a h. lined-reads wants bytes asked reads law l n (f ∷ es) a h)
    (λ l n a h. lined-reads wants bytes asked reads law l n es a h)
  where
    chunk : Chunk
    chunk = chunk_of e f

    following : List Chunk
    following = chunks_after wants es

    -- the chunks ahead stay the same after an event of a prefix, and there are none after another
    pass : (x : Bool) (left : List Event) (count : ℕ) → 0 < count →
        Ahead bytes left count (cond x (chunks_after wants (f ∷ es)) []) →
        Ahead bytes left count (chunks_after wants (f ∷ es))
    pass true left count some ahead = ahead
    pass false left count some ahead = absurd (omega (arith, ahead.many))

    go : (o : Option Content) → wanted wants e ≡ o → (left : List Event) (count : ℕ) →
        EachAsked wants asked count (e ∷ f ∷ es) →
        (0 < count → Ahead bytes left count (chunks_after wants (e ∷ f ∷ es))) →
        ((l : List Event) (n : ℕ) → EachAsked wants asked n (f ∷ es) →
        (0 < n → Ahead bytes l n (chunks_after wants (f ∷ es))) → ReadLined wants bytes reads l n (f ∷ es)) →
        ((l : List Event) (n : ℕ) → EachAsked wants asked n es →
        (0 < n → Ahead bytes l n (chunks_after wants es)) → ReadLined wants bytes reads l n es) →
        ReadLined wants bytes reads left count (e ∷ f ∷ es)
    go None k left count asks ahead next later =
        let read = next left count (subst (AskedBy wants asked count e f es) k asks)
        (λ some. pass (is_prefix e.name) left count some
        (subst (Ahead bytes left count) (none-following wants e f es k) (ahead some))) in
        record {
          substituted =
              subst (SubstitutedBy wants reads left count e f es (lined wants bytes (e ∷ f ∷ es))) (sym k)
              (lined wants bytes (f ∷ es), ap (LinedBy wants bytes e f es) k, read.substituted);
          each = subst (EachBy wants bytes e f es) (sym k) read.each;
        }
    go (Some held) k left zero asks ahead next later =
        let now = subst (AskedBy wants asked 0 e f es) k asks in
        let may : AreLines bytes (chunk ∷ following) × reads held (chunk ∷ following)
        (together (plain_chunks bytes (chunk ∷ following))) =
        law held (chunk ∷ following) now.0 in
        let all : List Event = together (plain_chunks bytes (chunk ∷ following)) in
        let is : IsShare bytes all chunk following = line-share bytes chunk following may.0 in
        let read = later (drop (share (length following) all f.point.index) all) (length following) now.1
        (λ some. record { many = refl; left_are = is.rest; lines = next-lines bytes chunk following may.0 }) in
        record {
          substituted =
              subst (SubstitutedBy wants reads left 0 e f es (lined wants bytes (e ∷ f ∷ es))) (sym k) (
                all,
                lined wants bytes es,
                may.1,
                ap (LinedBy wants bytes e f es) k ∙ ap (λ (l : List Event). l ++ lined wants bytes es) (sym is.first),
                read.substituted,
              );
          each =
              subst (EachBy wants bytes e f es) (sym k)
              (All-head (IsLine bytes) chunk following may.0.each, read.each);
        }
    go (Some held) k left (suc more) asks ahead next later =
        let now : EachAsked wants asked more es = subst (AskedBy wants asked (suc more) e f es) k asks in
        let here : Ahead bytes left (suc more) (chunk ∷ following) =
        subst (Ahead bytes left (suc more)) (some-following wants e f es held k) (ahead (omega arith)) in
        let many : more ≡ length following = omega (arith, here.many) in
        let all : IsShare bytes left chunk following =
        subst (λ (l : List Event). IsShare bytes l chunk following) (sym here.left_are)
        (line-share bytes chunk following here.lines) in
        let first : take (share more left f.point.index) left ≡ plain_chunk bytes chunk =
        ap (λ (n : ℕ). take (share n left f.point.index) left) many ∙ all.first in
        let rest : drop (share more left f.point.index) left ≡ together (plain_chunks bytes following) =
        ap (λ (n : ℕ). drop (share n left f.point.index) left) many ∙ all.rest in
        let read = later (drop (share more left f.point.index) left) more now
        (λ some. record { many = many; left_are = rest; lines = next-lines bytes chunk following here.lines }) in
        record {
          substituted =
              subst (SubstitutedBy wants reads left (suc more) e f es (lined wants bytes (e ∷ f ∷ es))) (sym k) (
                lined wants bytes es,
                ap (LinedBy wants bytes e f es) k ∙ ap (λ (l : List Event). l ++ lined wants bytes es) (sym first),
                read.substituted,
              );
          each =
              subst (EachBy wants bytes e f es) (sym k)
              (All-head (IsLine bytes) chunk following here.lines.each, read.each);
        }

-- no part has begun
pub lined-substituted : (wants : Content → Bool) (bytes : List ℕ) (asked : Asked) (reads : Readings)
    (events : List Event) → ReadsLines bytes asked reads → EachAsked wants asked 0 events →
    Substituted wants reads [] 0 events (lined wants bytes events)
lined-substituted wants bytes asked reads events law asks =
    (lined-reads wants bytes asked reads law [] 0 events asks (λ some. absurd (omega arith))).substituted

pub lined-each : (wants : Content → Bool) (bytes : List ℕ) (asked : Asked) (reads : Readings)
    (events : List Event) → ReadsLines bytes asked reads → EachAsked wants asked 0 events →
    EachLine wants bytes events
lined-each wants bytes asked reads events law asks =
    (lined-reads wants bytes asked reads law [] 0 events asks (λ some. absurd (omega arith))).each

-- the events are at points of the text
pub lined-placed : (wants : Content → Bool) (bytes : List ℕ) (events : List Event) → ArePlaced bytes events →
    EachLine wants bytes events → ArePlaced bytes (lined wants bytes events)
lined-placed wants bytes [] placed each = placed
lined-placed wants bytes (e ∷ []) placed each = placed
lined-placed wants bytes (e ∷ f ∷ es) placed each =
    let next : ArePlaced bytes (f ∷ es) = All-tail (λ (e : Event). IsPlaced bytes e.point) e (f ∷ es) placed in
    go (wanted wants e) refl
    (λ h. lined-placed wants bytes (f ∷ es) next h)
    (λ h. lined-placed wants bytes es (All-tail (λ (e : Event). IsPlaced bytes e.point) f es next) h)
  where
    go : (o : Option Content) → wanted wants e ≡ o →
        (EachLine wants bytes (f ∷ es) → ArePlaced bytes (lined wants bytes (f ∷ es))) →
        (EachLine wants bytes es → ArePlaced bytes (lined wants bytes es)) →
        ArePlaced bytes (lined wants bytes (e ∷ f ∷ es))
    go None k next later =
        subst (ArePlaced bytes) (sym (ap (LinedBy wants bytes e f es) k))
        (All-cons (λ (e : Event). IsPlaced bytes e.point) e (lined wants bytes (f ∷ es))
        (All-head (λ (e : Event). IsPlaced bytes e.point) e (f ∷ es) placed)
        (next (subst (EachBy wants bytes e f es) k each)))
    go (Some held) k next later =
        let now : IsLine bytes (chunk_of e f) × EachLine wants bytes es = subst (EachBy wants bytes e f es) k each in
        subst (ArePlaced bytes) (sym (ap (LinedBy wants bytes e f es) k))
        (All-append (λ (e : Event). IsPlaced bytes e.point) (plain_chunk bytes (chunk_of e f)) (lined wants bytes es)
        now.0.placed (later now.1))

-- Step by step.

-- events that stay, up to the next chunk
pub lined-run : (wants : Content → Bool) (bytes : List ℕ) (l : List Event) →
    lined wants bytes l ≡ take (prefix_len (stays wants) l) l ++ lined wants bytes (drop (prefix_len (stays wants) l) l)
lined-run wants bytes [] = refl
lined-run wants bytes (e ∷ es) = go (wanted wants e) refl (lined-run wants bytes es)
  where
    run : ℕ
    run = prefix_len (stays wants) es

    next : (es : List Event) → wanted wants e ≡ None → lined wants bytes (e ∷ es) ≡ e ∷ lined wants bytes es
    next [] none = refl
    next (f ∷ es) none = ap (LinedBy wants bytes e f es) none

    go : (o : Option Content) → wanted wants e ≡ o →
        lined wants bytes es ≡ take run es ++ lined wants bytes (drop run es) →
        lined wants bytes (e ∷ es) ≡ take (cond (is_none (wanted wants e)) (1 + run) 0) (e ∷ es)
        ++ lined wants bytes (drop (cond (is_none (wanted wants e)) (1 + run) 0) (e ∷ es))
    go None k following =
        let more : 1 + run ≡ suc run = omega arith in
        let many : cond (is_none (wanted wants e)) (1 + run) 0 ≡ suc run =
        ap (λ (o : Option Content). cond (is_none o) (1 + run) 0) k ∙ more in
        subst (λ (n : ℕ). lined wants bytes (e ∷ es) ≡ take n (e ∷ es)
        ++ lined wants bytes (drop n (e ∷ es))) (sym many)
        (next es k ∙ ap (λ (l : List Event). e ∷ l) following)
    go (Some held) k following =
        let many : cond (is_none (wanted wants e)) (1 + run) 0 ≡ 0 =
        ap (λ (o : Option Content). cond (is_none o) (1 + run) 0) k in
        subst (λ (n : ℕ). lined wants bytes (e ∷ es) ≡ take n (e ∷ es)
        ++ lined wants bytes (drop n (e ∷ es))) (sym many)
        refl

pub each-run : (wants : Content → Bool) (bytes : List ℕ) (l : List Event) → EachLine wants bytes l →
    EachLine wants bytes (drop (prefix_len (stays wants) l) l)
each-run wants bytes [] each = tt
each-run wants bytes (e ∷ es) each = go (wanted wants e) refl (λ h. each-run wants bytes es h)
  where
    run : ℕ
    run = prefix_len (stays wants) es

    next : (es : List Event) → wanted wants e ≡ None → EachLine wants bytes (e ∷ es) → EachLine wants bytes es
    next [] none each = tt
    next (f ∷ es) none each = subst (EachBy wants bytes e f es) none each

    go : (o : Option Content) → wanted wants e ≡ o →
        (EachLine wants bytes es → EachLine wants bytes (drop run es)) →
        EachLine wants bytes (drop (cond (is_none (wanted wants e)) (1 + run) 0) (e ∷ es))
    go None k following =
        let more : 1 + run ≡ suc run = omega arith in
        let many : cond (is_none (wanted wants e)) (1 + run) 0 ≡ suc run =
        ap (λ (o : Option Content). cond (is_none o) (1 + run) 0) k ∙ more in
        subst (λ (n : ℕ). EachLine wants bytes (drop n (e ∷ es))) (sym many) (following (next es k each))
    go (Some held) k following =
        let many : cond (is_none (wanted wants e)) (1 + run) 0 ≡ 0 =
        ap (λ (o : Option Content). cond (is_none o) (1 + run) 0) k in
        subst (λ (n : ℕ). EachLine wants bytes (drop n (e ∷ es))) (sym many) each

-- the first chunk
pub record FirstLine (wants : Content → Bool) (bytes : List ℕ) (l : List Event) (chunk : Chunk) : Type 0 where
  pub is : lined wants bytes l ≡ plain_chunk bytes chunk ++ lined wants bytes (drop 2 l)
  pub line : IsLine bytes chunk
  pub each : EachLine wants bytes (drop 2 l)
  pub two : 1 < length l

pub first-line : (wants : Content → Bool) (bytes : List ℕ) (l : List Event) (chunk : Chunk) →
    BeginsWith wants chunk l → EachLine wants bytes l → FirstLine wants bytes l chunk
first-line wants bytes [] chunk begins each = absurd begins
first-line wants bytes (e ∷ []) chunk begins each = absurd begins
first-line wants bytes (e ∷ f ∷ es) chunk begins each =
    subst (FirstLine wants bytes (e ∷ f ∷ es)) (sym begins.0) (go (wanted wants e) refl begins.1)
  where
    go : (o : Option Content) → wanted wants e ≡ o → is_none o ≡ false →
        FirstLine wants bytes (e ∷ f ∷ es) (chunk_of e f)
    go None k none = absurd (true≢false none)
    go (Some held) k some =
        let now : IsLine bytes (chunk_of e f) × EachLine wants bytes es = subst (EachBy wants bytes e f es) k each in
        record { is = ap (LinedBy wants bytes e f es) k; line = now.0; each = now.1; two = omega arith }

-- what is given so far, with what is in the places of the rest, after the events that stay
pub given-run : (wants : Content → Bool) (bytes : List ℕ) (rest left before now all : List Event) →
    left ≡ drop (prefix_len (stays wants) rest) rest → now ≡ before ++ take (prefix_len (stays wants) rest) rest →
    before ++ lined wants bytes rest ≡ all → now ++ lined wants bytes left ≡ all
given-run wants bytes rest left before now all following given so_far =
    let n : ℕ = prefix_len (stays wants) rest in
    rw (following, given)
    (append_assoc before (take n rest) (lined wants bytes (drop n rest))
    ∙ ap (λ (l : List Event). before ++ l) (sym (lined-run wants bytes rest)) ∙ so_far)

-- and after the first chunk
pub given-line : (wants : Content → Bool) (bytes : List ℕ) (rest left before now all : List Event) (chunk : Chunk) →
    FirstLine wants bytes rest chunk → left ≡ drop 2 rest → now ≡ before ++ plain_chunk bytes chunk →
    before ++ lined wants bytes rest ≡ all → now ++ lined wants bytes left ≡ all
given-line wants bytes rest left before now all chunk first following given so_far =
    rw (following, given)
    (append_assoc before (plain_chunk bytes chunk) (lined wants bytes (drop 2 rest))
    ∙ ap (λ (l : List Event). before ++ l) (sym first.is) ∙ so_far)

-- it begins after those that stay
pub begins-following : (wants : Content → Bool) (l rest : List Event) (d : Event) (chunk : Chunk) →
    rest ≡ drop (prefix_len (stays wants) l) l → 1 < length rest →
    chunk ≡ chunk_of (get_or rest 0 d) (get_or rest 1 d) → BeginsWith wants chunk rest
begins-following wants l rest d chunk following two is =
    let n : ℕ = prefix_len (stays wants) l in
    let long : length rest ≡ length l - n = ap length following ∙ length-drop n l in
    let stop : stays wants (get_or l n d) ≡ false = prefix_len_stops (stays wants) l d (omega arith) in
    let same : get_or rest 0 d ≡ get_or l n d = ap (λ (l : List Event). get_or l 0 d)
    (following ∙ drop_more l n d (omega arith)) in
    go rest two is (ap (stays wants) same ∙ stop)
  where
    go : (rest : List Event) → 1 < length rest → chunk ≡ chunk_of (get_or rest 0 d) (get_or rest 1 d) →
        stays wants (get_or rest 0 d) ≡ false → BeginsWith wants chunk rest
    go [] two is stop = absurd (omega arith)
    go (e ∷ []) two is stop = absurd (omega arith)
    go (e ∷ f ∷ es) two is stop = (is, stop)

-- where there is none, nothing changes
pub lined-short : (wants : Content → Bool) (bytes : List ℕ) (l : List Event) → length l < 2 → lined wants bytes l ≡ l
lined-short wants bytes [] small = refl
lined-short wants bytes (e ∷ []) small = refl
lined-short wants bytes (e ∷ f ∷ es) small = absurd (omega arith)
