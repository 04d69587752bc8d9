-- Lines of content are joined and read in one walk, step by step.
use Rattle.std.proofs.Common.{◌≡◌, ℕ, suc, ◌+◌, ◌-◌, ◌<◌, ◌≤◌, ◌⊎◌, inl, inr, Bool, true, false, ◌&&◌, cond, List, []}
use Rattle.std.proofs.Common.{◌∷◌, ◌++◌, length, get_or, take, drop, refl, ap, sym, ◌∙◌, subst, append_assoc}
use Rattle.std.proofs.Common.{append-nil, length-drop, arith}
use Rattle.std.specs.Prelude.{not, is_none, Option, Some, None}
use Rattle.std.specs.List.{prefix_len}
use Rattle.std.specs.Option.{is_some}
use Rattle.std.proofs.lemmas.Bool.{and_parts, true≢false}
use Rattle.std.proofs.lemmas.List.{drop-drop, drop_more, get_or-drop}
use Rattle.md_engine.specs.declared.configuration.ParseOptions.{ParseOptions}
use Rattle.md_engine.specs.declared.event.Content.{Content}
use Rattle.md_engine.specs.declared.event.Event.{Event}
use Rattle.md_engine.specs.declared.event.Kind.{Kind}
use Rattle.md_engine.specs.declared.event.Kind.TheVariants.{Enter, Exit}
use Rattle.md_engine.specs.declared.event.Link.{Link}
use Rattle.md_engine.specs.declared.event.Name.{Name}
use Rattle.md_engine.specs.declared.event.Name.TheVariants as name
use Rattle.md_content.specs.ContentReads.{content_events, content_readings, wants_content}
use Rattle.md_content.specs.Joined.{ends_content, is_continued, is_content, joined, joined_with}
use Rattle.md_content.specs.Lines.{begins_chunk, is_passed, lines_from}
use Rattle.md_content.proofs.JoinedLemmas.{joined-head, joined-placed}
use Rattle.md_events.specs.declared.inline.Chunk.{Chunk}
use Rattle.md_events.specs.Events.Nested.{is_exit}
use Rattle.md_events.specs.Events.Prefix.{is_prefix}
use Rattle.md_events.specs.Parts.{AreChunks, ArePlaced}
use Rattle.md_events.specs.Substituted.{Begun, chunk_of, chunks_after, chunks_from, share, stays, wanted, wanted_at}
use Rattle.md_events.proofs.SubstitutedLemmas.{Leads, chunks-placed, leads-chunk, leads-event}

-- An event with which no line ends is joined with none.

exits : (k : Kind) (l : Option Link) → is_some (wanted_at wants_content k l) ≡ true → is_exit k ≡ false
exits Enter l h = refl
exits Exit l h = absurd (true≢false (sym h))

pub joined-stays : (e : Event) (es : List Event) → ends_content e ≡ false → joined (e ∷ es) ≡ e ∷ joined es
joined-stays e [] h = refl
joined-stays e (f ∷ []) h = refl
joined-stays e (f ∷ g ∷ es) h = rw (other (is_exit e.kind) (is_content e.name) (is_continued (f ∷ g ∷ es)) h) refl
  where
    other : (a b c : Bool) → (a && b) ≡ false → (a && b && c) ≡ false
    other true true c h = absurd (true≢false h)
    other true false c h = refl
    other false b c h = refl

wanted-stays : (e : Event) → is_some (wanted wants_content e) ≡ true → ends_content e ≡ false
wanted-stays e h = ap (λ (x : Bool). x && is_content e.name) (exits e.kind e.link h)

pub prefix-stays : (e : Event) → is_prefix e.name ≡ true → ends_content e ≡ false
prefix-stays e h = go (is_exit e.kind) (is_content e.name) (other e.name h)
  where
    other : (x : Name) → is_prefix x ≡ true → is_content x ≡ false
    other name.Content h = absurd (true≢false (sym h))
    other _ h = refl

    go : (a b : Bool) → b ≡ false → (a && b) ≡ false
    go true b h = h
    go false b h = refl

-- A chunk begins.

first-begins : (rest : List Event) (d : Event) → begins_chunk rest ≡ true →
    is_some (wanted wants_content (get_or rest 0 d)) ≡ true
first-begins [] d h = absurd (true≢false (sym h))
first-begins (e ∷ []) d h = absurd (true≢false (sym h))
first-begins (e ∷ f ∷ es) d h = h

-- the second event of a chunk, which ends after the ending of its line if that continues
abbrev ended : List Event → ℕ → Event → Event
ended rest last d = record (get_or rest 1 d) { point = (get_or rest last d).point }

chunk-split : (rest : List Event) (with last : ℕ) (d : Event) → begins_chunk rest ≡ true →
    with ≡ joined_with (drop 1 rest) → last ≡ 1 + with →
    joined rest ≡ get_or rest 0 d ∷ ended rest last d ∷ joined (drop (last + 1) rest)
chunk-split [] with last d h is more = absurd (true≢false (sym h))
chunk-split (e ∷ []) with last d h is more = absurd (true≢false (sym h))
chunk-split (e ∷ f ∷ es) with last d h is more =
    let far : last + 1 ≡ suc (suc with) = omega arith in
    let one : with + 1 ≡ suc with = omega arith in
    let next : last ≡ suc with = omega arith in
    joined-stays e (f ∷ es) (wanted-stays e h)
    ∙ ap (λ (l : List Event). e ∷ l) (joined-head (f ∷ es) with d d (omega arith) is)
    ∙ ap
    (λ (n : ℕ). e ∷ record f { point = (get_or (f ∷ es) with d).point } ∷ joined (drop n (f ∷ es))) one
    ∙ sym
    (ap
    (λ (n : ℕ). e ∷ record f { point = (get_or (e ∷ f ∷ es) n d).point } ∷ joined (drop (suc with) (f ∷ es))) next)
    ∙ sym
    (ap
    (λ (n : ℕ). e ∷ record f { point = (get_or (e ∷ f ∷ es) last d).point } ∷ joined (drop n (e ∷ f ∷ es))) far)

-- so the part begins with it, or continues
pub lines-split : (rest : List Event) (with last : ℕ) (d : Event) → begins_chunk rest ≡ true →
    with ≡ joined_with (drop 1 rest) → last ≡ 1 + with →
    lines_from rest ≡ chunk_of (get_or rest 0 d) (get_or rest last d) ∷ lines_from (drop (last + 1) rest)
lines-split rest with last d h is more =
    let e : Event = get_or rest 0 d in
    let f : Event = ended rest last d in
    let es : List Event = joined (drop (last + 1) rest) in
    ap (chunks_after wants_content) (chunk-split rest with last d h is more)
    ∙ ap
    (λ (x : Bool).
    cond x (chunk_of e f ∷ chunks_after wants_content es)
    (cond (is_prefix e.name) (chunks_after wants_content (f ∷ es)) []))
    (first-begins rest d h)

some-content : (o : Option Content) → is_some o ≡ true → (content : Content) × (o ≡ Some content)
some-content (Some held) h = (held, refl)
some-content None h = absurd (true≢false (sym h))

-- what is read is in the places of its lines
pub leads-line : (bytes : List ℕ) (options : ParseOptions)
    (events rest left now left_after all new : List Event) (chunks many chunks_left with last : ℕ) (d : Event) →
    begins_chunk rest ≡ true → with ≡ joined_with (drop 1 rest) → last ≡ 1 + with →
    Begun (λ (answer : List Event). answer ≡ content_events bytes options (lines_from rest)) (length (lines_from rest))
    left chunks now many →
    chunks_left + 1 ≡ many →
    new ≡ all ++ take (share (many - 1) now (get_or rest last d).point.index) now →
    left_after ≡ drop (share (many - 1) now (get_or rest last d).point.index) now →
    Leads wants_content (content_readings bytes options) events left chunks (joined rest) all →
    Leads wants_content (content_readings bytes options) events left_after chunks_left (joined (drop (last + 1) rest))
    new
leads-line bytes options events rest left now left_after all new chunks many chunks_left with last d h is next begun
    one placed following leads =
    let reads = content_readings bytes options in
    let e : Event = get_or rest 0 d in
    let f : Event = ended rest last d in
    let es : List Event = joined (drop (last + 1) rest) in
    let more : many ≡ suc chunks_left = omega arith in
    let less : many - 1 ≡ chunks_left = omega arith in
    let held = some-content (wanted wants_content e) (first-begins rest d h) in
    let begins : Begun (reads held.0 (chunk_of e f ∷ chunks_after wants_content es))
    (length (chunk_of e f ∷ chunks_after wants_content es)) left chunks now (suc chunks_left) =
    subst
    (λ (n : ℕ).
    Begun (reads held.0 (chunk_of e f ∷ chunks_after wants_content es))
    (length (chunk_of e f ∷ chunks_after wants_content es)) left chunks now n) more
    (subst
    (λ (cs : List Chunk).
    Begun (λ (answer : List Event). answer ≡ content_events bytes options cs) (length cs) left chunks now many)
    (lines-split rest with last d h is next) begun) in
    let leads_on : Leads wants_content reads events (drop (share chunks_left now f.point.index) now) chunks_left es
    (all ++ take (share chunks_left now f.point.index) now) =
    leads-chunk wants_content reads events left all chunks e f es held.0 held.1
    (subst (λ (l : List Event). Leads wants_content reads events left chunks l all)
    (chunk-split rest with last d h is next) leads) now chunks_left begins in
    subst (λ (l : List Event). Leads wants_content reads events l chunks_left es new) (sym following)
    (subst (Leads wants_content reads events (drop (share (many - 1) now f.point.index) now) chunks_left es)
    (sym placed)
    (subst
    (λ (n : ℕ).
    Leads wants_content reads events (drop (share n now f.point.index) now) chunks_left es
    (all ++ take (share n now f.point.index) now))
    (sym less) leads_on))

-- its chunks are chunks of the text
pub lines-placed : (bytes : List ℕ) (rest : List Event) (d : Event) → begins_chunk rest ≡ true →
    ArePlaced bytes rest → AreChunks bytes (lines_from rest)
lines-placed bytes rest d h placed =
    let with : ℕ = joined_with (drop 1 rest) in
    let split = chunk-split rest with (1 + with) d h refl refl in
    subst (AreChunks bytes) (sym (lines-split rest with (1 + with) d h refl refl))
    (subst (λ (l : List Event). AreChunks bytes (chunks_from wants_content l)) split
    (chunks-placed bytes wants_content (joined rest) (joined-placed bytes rest placed)
    (subst (λ (l : List Event). 1 < length l) (sym split) (omega arith))))

-- A line ends outside of a chunk.

ends-first : (e : Event) (es : List Event) → 0 < joined_with (e ∷ es) → is_exit e.kind ≡ true
ends-first e [] lt = absurd (omega arith)
ends-first e (f ∷ []) lt = absurd (omega arith)
ends-first e (f ∷ g ∷ es) lt = go (is_exit e.kind) (is_content e.name) (is_continued (f ∷ g ∷ es)) lt
  where
    go : (a b c : Bool) → 0 < cond (a && b && c) 2 0 → a ≡ true
    go true b c lt = refl
    go false b c lt = absurd (omega arith)

exit-stays : (k : Kind) (l : Option Link) → is_exit k ≡ true → wanted_at wants_content k l ≡ None
exit-stays Enter l h = absurd (true≢false (sym h))
exit-stays Exit l h = refl

pub leads-end : (bytes : List ℕ) (options : ParseOptions) (events left rest all : List Event) (chunks with : ℕ)
    (e d : Event) → rest ≡ e ∷ drop 1 rest → with ≡ joined_with rest → 0 < with →
    Leads wants_content (content_readings bytes options) events left chunks (joined rest) all →
    Leads wants_content (content_readings bytes options) events left chunks (joined (drop (with + 1) rest))
    (all ++ record e { point = (get_or rest with d).point } ∷ [])
leads-end bytes options events left rest all chunks with e d first is some leads =
    let reads = content_readings bytes options in
    let f : Event = get_or rest with d in
    let now : Event = record e { point = f.point } in
    let following : List Event = joined (drop (with + 1) rest) in
    let here : get_or rest 0 e ≡ e = ap (λ (l : List Event). get_or l 0 e) first in
    let long : 0 < length rest = subst (λ (l : List Event). 0 < length l) (sym first) (omega arith) in
    let split : joined rest ≡ now ∷ following = joined-head rest with e d long is
    ∙ both (get_or rest 0 e) e f following here in
    let exit : is_exit e.kind ≡ true = ends-first e (drop 1 rest)
    (subst (λ (l : List Event). 0 < joined_with l) first (subst (λ (n : ℕ). 0 < n) is some)) in
    leads-event wants_content reads events left following all chunks now (inl (exit-stays e.kind e.link exit))
    (subst (λ (l : List Event). Leads wants_content reads events left chunks l all) split leads)
  where
    both : (a b f : Event) (l : List Event) → a ≡ b →
        ◌≡◌ {A = List Event} (record a { point = f.point } ∷ l) (record b { point = f.point } ∷ l)
    both a b f l p = rw p refl

-- Events stay.

unwanted : (o : Option Content) → is_none o ≡ true → o ≡ None
unwanted None h = refl
unwanted (Some held) h = absurd (true≢false (sym h))

pub leads-run : (bytes : List ℕ) (options : ParseOptions) (events left rest all : List Event) (chunks : ℕ) →
    Leads wants_content (content_readings bytes options) events left chunks (joined rest) all →
    let run = prefix_len is_passed rest in
    Leads wants_content (content_readings bytes options) events left chunks (joined (drop run rest))
    (all ++ take run rest)
leads-run bytes options events left [] all chunks leads =
    subst (Leads wants_content (content_readings bytes options) events left chunks []) (sym (append-nil all)) leads
leads-run bytes options events left (e ∷ es) all chunks leads =
    go (is_passed e) refl (λ on. leads-run bytes options events left es (all ++ e ∷ []) chunks on)
  where
    run : ℕ
    run = prefix_len is_passed es

    not-true : (x : Bool) → not x ≡ true → x ≡ false
    not-true true h = absurd (true≢false (sym h))
    not-true false h = refl

    go : (x : Bool) → is_passed e ≡ x →
        (Leads wants_content (content_readings bytes options) events left chunks (joined es) (all ++ e ∷ []) →
        Leads wants_content (content_readings bytes options) events left chunks (joined (drop run es))
        ((all ++ e ∷ []) ++ take run es)) →
        let many = cond (is_passed e) (1 + run) 0 in
        Leads wants_content (content_readings bytes options) events left chunks (joined (drop many (e ∷ es)))
        (all ++ take many (e ∷ es))
    go true k following =
        let reads = content_readings bytes options in
        let more : 1 + run ≡ suc run = omega arith in
        let parts = and_parts (stays wants_content e) (not (ends_content e)) k in
        rw (k, more)
        (subst (Leads wants_content reads events left chunks (joined (drop run es)))
        (append_assoc all (e ∷ []) (take run es))
        (following
        (leads-event wants_content reads events left (joined es) all chunks e
        (inl (unwanted (wanted wants_content e) parts.0))
        (subst (λ (l : List Event). Leads wants_content reads events left chunks l all)
        (joined-stays e es (not-true (ends_content e) parts.1)) leads))))
    go false k following =
        rw k
        (subst (Leads wants_content (content_readings bytes options) events left chunks (joined (e ∷ es)))
        (sym (append-nil all)) leads)

pub leads-passed : (bytes : List ℕ) (options : ParseOptions) (events left all rest : List Event) (chunks many : ℕ)
    (e : Event) → rest ≡ e ∷ drop 1 rest → begins_chunk rest ≡ false → joined_with rest ≡ 0 →
    many ≡ suc (prefix_len is_passed (drop 1 rest)) →
    Leads wants_content (content_readings bytes options) events left chunks (joined rest) all →
    Leads wants_content (content_readings bytes options) events left chunks (joined (drop many rest))
    (all ++ take many rest)
leads-passed bytes options events left all rest chunks many e first none alone count leads =
    let reads = content_readings bytes options in
    let es : List Event = drop 1 rest in
    let run : ℕ = prefix_len is_passed es in
    let split : joined rest ≡ e ∷ joined es = ap joined first ∙ one e es
    (ap joined_with (sym first) ∙ alone) in
    subst
    (λ (l : List Event).
    Leads wants_content reads events left chunks (joined (drop many l)) (all ++ take many l)) (sym first)
    (subst
    (λ (n : ℕ).
    Leads wants_content reads events left chunks (joined (drop n (e ∷ es))) (all ++ take n (e ∷ es))) (sym count)
    (subst (Leads wants_content reads events left chunks (joined (drop run es)))
    (append_assoc all (e ∷ []) (take run es))
    (leads-run bytes options events left es (all ++ e ∷ []) chunks
    (leads-event wants_content reads events left (joined es) all chunks e
    (stay e es (ap begins_chunk (sym first) ∙ none))
    (subst (λ (l : List Event). Leads wants_content reads events left chunks l all) split leads)))))
  where
    one : (e : Event) (es : List Event) → joined_with (e ∷ es) ≡ 0 → joined (e ∷ es) ≡ e ∷ joined es
    one e es is = joined-head (e ∷ es) 0 e e (omega arith) (sym is)

    some-not : (o : Option Content) → is_some o ≡ false → o ≡ None
    some-not None h = refl
    some-not (Some held) h = absurd (true≢false h)

    stay : (e : Event) (es : List Event) → begins_chunk (e ∷ es) ≡ false →
        (wanted wants_content e ≡ None) ⊎ (joined es ≡ [])
    stay e [] h = inr refl
    stay e (f ∷ es) h = inl (some-not (wanted wants_content e) h)

-- Lines are listed.

-- one more
pub lines-more : (events : List Event) (at with last : ℕ) (d : Event) (items new all : List Chunk) →
    begins_chunk (drop at events) ≡ true → with ≡ joined_with (drop (at + 1) events) → last ≡ at + 1 + with →
    new ≡ items ++ chunk_of (get_or events at d) (get_or events last d) ∷ [] →
    items ++ lines_from (drop at events) ≡ all → new ++ lines_from (drop (last + 1) events) ≡ all
lines-more events at with last d items new all h is next new_is listed =
    let rest : List Event = drop at events in
    let one : drop 1 rest ≡ drop (at + 1) events =
    drop-drop 1 at events ∙ ap (λ (n : ℕ). drop n events) (omega arith) in
    let here : get_or rest 0 d ≡ get_or events at d =
    get_or-drop at events 0 d ∙ ap (λ (n : ℕ). get_or events n d) (omega arith) in
    let there : get_or rest (1 + with) d ≡ get_or events last d =
    get_or-drop at events (1 + with) d ∙ ap (λ (n : ℕ). get_or events n d) (omega arith) in
    let far : drop (1 + with + 1) rest ≡ drop (last + 1) events =
    drop-drop (1 + with + 1) at events ∙ ap (λ (n : ℕ). drop n events) (omega arith) in
    let split : lines_from rest ≡
    chunk_of (get_or rest 0 d) (get_or rest (1 + with) d) ∷ lines_from (drop (1 + with + 1) rest) =
    lines-split rest with (1 + with) d h (is ∙ ap joined_with (sym one)) refl in
    let own : List Chunk = chunk_of (get_or events at d) (get_or events last d) ∷ [] in
    let following : List Chunk = lines_from (drop (last + 1) events) in
    ap (λ (l : List Chunk). l ++ following) new_is
    ∙ append_assoc items own following
    ∙ sym
    (ap (λ (l : List Chunk). items ++ l)
    (split
    ∙ ap (λ (e : Event). chunk_of e (get_or rest (1 + with) d) ∷ lines_from (drop (1 + with + 1) rest)) here
    ∙ ap (λ (e : Event). chunk_of (get_or events at d) e ∷ lines_from (drop (1 + with + 1) rest)) there
    ∙ ap (λ (l : List Event). chunk_of (get_or events at d) (get_or events last d) ∷ lines_from l) far))
    ∙ listed

-- those after an event of a prefix
pub past-prefix : (e : Event) (es : List Event) → is_some (wanted wants_content e) ≡ false → is_prefix e.name ≡ true →
    lines_from (e ∷ es) ≡ lines_from es
past-prefix e es none prefix =
    ap (chunks_after wants_content) (joined-stays e es (prefix-stays e prefix)) ∙ go (joined es)
  where
    go : (l : List Event) → chunks_after wants_content (e ∷ l) ≡ chunks_after wants_content l
    go [] = refl
    go (f ∷ l) =
        ap
        (λ (x : Bool).
        cond x (chunk_of e f ∷ chunks_after wants_content l)
        (cond (is_prefix e.name) (chunks_after wants_content (f ∷ l)) [])) none
        ∙ ap (λ (x : Bool). cond x (chunks_after wants_content (f ∷ l)) []) prefix

-- none after another event
pub past-other : (e : Event) (es : List Event) → is_some (wanted wants_content e) ≡ false →
    is_prefix e.name ≡ false → lines_from (e ∷ es) ≡ []
past-other e es none other =
    let j : ℕ = joined_with (e ∷ es) in
    ap (chunks_after wants_content) (joined-head (e ∷ es) j e e (omega arith) refl)
    ∙ go (record e { point = (get_or (e ∷ es) j e).point }) (joined (drop (j + 1) (e ∷ es))) none other
  where
    go : (e : Event) (l : List Event) → is_some (wanted wants_content e) ≡ false → is_prefix e.name ≡ false →
        chunks_after wants_content (e ∷ l) ≡ []
    go e [] none other = refl
    go e (f ∷ l) none other =
        ap
        (λ (x : Bool).
        cond x (chunk_of e f ∷ chunks_after wants_content l)
        (cond (is_prefix e.name) (chunks_after wants_content (f ∷ l)) [])) none
        ∙ ap (λ (x : Bool). cond x (chunks_after wants_content (f ∷ l)) []) other

unbegun : (e : Event) (es : List Event) → 0 < length es → begins_chunk (e ∷ es) ≡ false →
    is_some (wanted wants_content e) ≡ false
unbegun e [] lt h = absurd (omega arith)
unbegun e (f ∷ es) lt h = h

-- and so at a place
pub lines-past : (events : List Event) (at : ℕ) (d : Event) → at + 1 < length events →
    begins_chunk (drop at events) ≡ false → is_prefix (get_or events at d).name ≡ true →
    lines_from (drop at events) ≡ lines_from (drop (at + 1) events)
lines-past events at d lt none prefix =
    let split : drop at events ≡ get_or events at d ∷ drop (at + 1) events = drop_more events at d (omega arith) in
    ap lines_from split
    ∙ past-prefix (get_or events at d) (drop (at + 1) events)
    (unbegun (get_or events at d) (drop (at + 1) events) (omega (arith, length-drop (at + 1) events))
    (ap begins_chunk (sym split) ∙ none)) prefix

pub lines-stop : (events : List Event) (at : ℕ) (d : Event) → at + 1 < length events →
    begins_chunk (drop at events) ≡ false → is_prefix (get_or events at d).name ≡ false →
    lines_from (drop at events) ≡ []
lines-stop events at d lt none other =
    let split : drop at events ≡ get_or events at d ∷ drop (at + 1) events = drop_more events at d (omega arith) in
    ap lines_from split
    ∙ past-other (get_or events at d) (drop (at + 1) events)
    (unbegun (get_or events at d) (drop (at + 1) events) (omega (arith, length-drop (at + 1) events))
    (ap begins_chunk (sym split) ∙ none)) other

-- nor at the last
pub lines-end : (events : List Event) (at : ℕ) → length events ≤ at + 1 → lines_from (drop at events) ≡ []
lines-end events at le = go (drop at events) (omega (arith, length-drop at events))
  where
    go : (rest : List Event) → length rest ≤ 1 → lines_from rest ≡ []
    go [] small = refl
    go (e ∷ []) small = refl
    go (e ∷ f ∷ es) small = absurd (omega arith)
