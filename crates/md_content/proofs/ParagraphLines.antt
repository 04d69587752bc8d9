-- A paragraph is written for its lines, one after another.
use Rattle.std.proofs.Common.{◌≡◌, ℕ, zero, suc, ◌+◌, ◌-◌, ◌<◌, ◌≤◌, inl, Bool, true, false, ◌&&◌, cond, List, [], ◌∷◌}
use Rattle.std.proofs.Common.{◌++◌, length, get_or, take, drop, refl, ap, sym, ◌∙◌, subst, append_assoc, append-nil}
use Rattle.std.proofs.Common.{arith, length-drop}
use Rattle.std.specs.Prelude.{is_none, nat_le, nat_lt, Option, Some, None, slice_range}
use Rattle.std.specs.List.{All, prefix_len}
use Rattle.std.specs.Option.{is_some}
use Rattle.std.proofs.lemmas.Bool.{and_parts, true≢false}
use Rattle.std.proofs.lemmas.Bool.Decides.{nat_tests}
use Rattle.std.proofs.lemmas.List.{get_or-drop, drop-drop, drop_all, drop_at, take_all, take_at}
use Rattle.std.proofs.lemmas.List.Elements.{All-append, All-cons, All-drop, All-head, All-nil, All-take}
use Rattle.md_engine.specs.declared.configuration.ParseOptions.{ParseOptions}
use Rattle.md_engine.specs.declared.event.Event.{Event}
use Rattle.md_engine.specs.declared.event.Kind.{Kind}
use Rattle.md_engine.specs.declared.event.Kind.TheVariants.{Enter, Exit}
use Rattle.md_engine.specs.declared.event.Link.{Link}
use Rattle.md_engine.specs.declared.event.Name.{Name}
use Rattle.md_engine.specs.declared.event.Name.TheVariants as parts
use Rattle.md_engine.specs.declared.event.Point.{Point}
use Rattle.md_engine.specs.Place.{IsPlaced}
use Rattle.md_content.specs.ContentReads.{content_events, content_readings, wants_content}
use Rattle.md_content.specs.Joined.{content_after, ends_content, is_continued, is_content, joined, joined_with}
use Rattle.md_content.specs.Lines.{begins_chunk, lines_from}
use Rattle.md_content.specs.Paragraph.{text_link}
use Rattle.md_content.specs.ParagraphLines.{HasLines, IsParagraph, Reached, is_unlinked, past_prefixes}
use Rattle.md_content.specs.LabelLook.{may_define_in}
use Rattle.md_content.specs.WholeLines.{after_of, are_lines, is_followed, is_within_line, lines_of, paragraph_of}
use Rattle.md_content.proofs.LinesLemmas.{joined-stays, leads-line, lines-placed, lines-split, past-prefix}
use Rattle.md_content.proofs.LinesLemmas.{prefix-stays}
use Rattle.md_content.proofs.WholeLines.{first-vs, followed, has-byte, whole-lines, within}
use Rattle.md_events.specs.declared.inline.Chunk.{Chunk}
use Rattle.md_events.specs.Events.Inline.{is_line_ending}
use Rattle.md_events.specs.Events.Nested.{enter, enter_link, exit, is_enter, is_exit}
use Rattle.md_events.specs.Parts.{ArePlaced, IsChunk}
use Rattle.md_events.specs.Events.Prefix.{is_prefix}
use Rattle.md_events.specs.Substituted.{Begun, Readings, Substituted, belongs, chunk_of, is_plain_prefix, share, wanted}
use Rattle.md_events.specs.Substituted.{wanted_at}
use Rattle.md_events.proofs.SubstitutedLemmas.{Leads, SubstitutedBy, leads-event}
use Rattle.md_engine.specs.declared.event.Content.{Content}

-- What belongs to a line.

-- a line has a byte
line-byte : (bytes : List ℕ) (c : Chunk) (cs : List Chunk) → All (IsChunk bytes) (c ∷ cs) →
    are_lines (c ∷ cs) ≡ true → c.first.index < c.after.index
line-byte bytes c [] are l = (within c l).index
line-byte bytes c (d ∷ cs) are l =
    let f = followed c d (and_parts _ _ l).0 in
    let is = All-head (IsChunk bytes) c (d ∷ cs) are in
    has-byte bytes c.first c.after is.first is.after (first-vs bytes c.after is.after f.column)
    (omega (arith, f.line))

-- the two events of a line belong to it, and what comes after them does not if it begins there
line-share : (c : Chunk) (q : Point) (es : List Event) → c.first.index < c.after.index → c.after.index ≤ q.index →
    prefix_len (belongs c.after.index)
    (enter_link parts.Data c.first text_link ∷ exit parts.Data c.after ∷ enter_link parts.Data q text_link ∷ es) ≡ 2
line-share c q es lt le =
    let begins : nat_lt c.first.index c.after.index ≡ true = grind (arith, nat_tests, lt) in
    let ends : nat_le c.after.index c.after.index ≡ true = grind (arith, nat_tests) in
    let stops : nat_lt q.index c.after.index ≡ false = grind (arith, nat_tests, le) in
    rw (begins, ends, stops) refl

-- and so does the begin of the paragraph
first-share : (c : Chunk) (q : Point) (es : List Event) → c.first.index < c.after.index → c.after.index ≤ q.index →
    prefix_len (belongs c.after.index)
    (enter parts.Paragraph c.first
    ∷ enter_link parts.Data c.first text_link ∷ exit parts.Data c.after ∷ enter_link parts.Data q text_link ∷ es) ≡ 3
first-share c q es lt le =
    let begins : nat_lt c.first.index c.after.index ≡ true = grind (arith, nat_tests, lt) in
    let ends : nat_le c.after.index c.after.index ≡ true = grind (arith, nat_tests) in
    let stops : nat_lt q.index c.after.index ≡ false = grind (arith, nat_tests, le) in
    rw (begins, ends, stops) refl

-- The events lead on.

abbrev pub LeadsTo : List ℕ → ParseOptions → List Event → List Event → ℕ → List Event → List Event → Type 0
LeadsTo bytes options events left chunks rest all =
    Leads wants_content (content_readings bytes options) (joined events) left chunks (joined rest) all

-- after a line of a paragraph that has ended here, and which continues with the lines that are left
abbrev pub Shown : List ℕ → ParseOptions → List Event → List Event → List Event → Point → List Chunk → Type 0
Shown bytes options events rest all after [] =
    LeadsTo bytes options events [] 0 rest (all ++ exit parts.Paragraph after ∷ [])
Shown bytes options events rest all after (c ∷ cs) =
    (are_lines (c ∷ cs) ≡ true)
    × LeadsTo bytes options events (lines_of (c ∷ cs) ++ exit parts.Paragraph (after_of (c ∷ cs)) ∷ [])
    (suc (length cs)) rest all

heads : (a b : Chunk) (cs ds : List Chunk) → ◌≡◌ {A = List Chunk} (a ∷ cs) (b ∷ ds) → a ≡ b
heads a b cs ds h = cc

-- what belongs to a line is put in its place
line-placed : (bytes : List ℕ) (options : ParseOptions) (events rest left now all : List Event) (chunks with n : ℕ)
    (c : Chunk) (cs : List Chunk) (d : Event) → begins_chunk rest ≡ true → with ≡ joined_with (drop 1 rest) →
    lines_from rest ≡ c ∷ cs → share (length cs) now c.after.index ≡ n →
    Begun (λ (answer : List Event). answer ≡ content_events bytes options (c ∷ cs)) (length (c ∷ cs)) left chunks now
    (suc (length cs)) →
    LeadsTo bytes options events left chunks rest all →
    LeadsTo bytes options events (drop n now) (length cs) (drop (with + 2) rest) (all ++ take n now)
line-placed bytes options events rest left now all chunks with n c cs d begins is lines own begun leads =
    let last : ℕ = 1 + with in
    let split = lines-split rest with last d begins is refl in
    let first : chunk_of (get_or rest 0 d) (get_or rest last d) ≡ c =
    heads (chunk_of (get_or rest 0 d) (get_or rest last d)) c (lines_from (drop (last + 1) rest)) cs
    (sym split ∙ lines) in
    let end : (get_or rest last d).point.index ≡ c.after.index = ap (λ (k : Chunk). k.after.index) first in
    let less : suc (length cs) - 1 ≡ length cs = omega arith in
    let share_is : share (suc (length cs) - 1) now (get_or rest last d).point.index ≡ n =
    ap (λ (k : ℕ). share k now (get_or rest last d).point.index) less ∙ ap (share (length cs) now) end ∙ own in
    let far : last + 1 ≡ with + 2 = omega arith in
    subst (λ (k : ℕ). LeadsTo bytes options events (drop n now) (length cs) (drop k rest) (all ++ take n now)) far
    (leads-line bytes options (joined events) rest left now (drop n now) all (all ++ take n now) chunks
    (suc (length cs)) (length cs) with last d begins is refl
    (subst
    (λ (ls : List Chunk).
    Begun (λ (answer : List Event). answer ≡ content_events bytes options ls) (length ls) left chunks now
    (suc (length cs))) (sym lines) begun)
    (omega arith) (ap (λ (k : ℕ). all ++ take k now) (sym share_is)) (ap (λ (k : ℕ). drop k now) (sym share_is)) leads)

-- the line that comes first
shows-line : (bytes : List ℕ) (options : ParseOptions) (events rest left now all front : List Event) (chunks with : ℕ)
    (c : Chunk) (cs : List Chunk) (d : Event) → begins_chunk rest ≡ true → with ≡ joined_with (drop 1 rest) →
    lines_from rest ≡ c ∷ cs → are_lines (c ∷ cs) ≡ true →
    now ≡ front ++ (lines_of (c ∷ cs) ++ exit parts.Paragraph (after_of (c ∷ cs)) ∷ []) →
    ((q : Point) (es : List Event) → c.after.index ≤ q.index →
    prefix_len (belongs c.after.index)
    (front ++
    (enter_link parts.Data c.first text_link ∷ exit parts.Data c.after ∷ enter_link parts.Data q text_link ∷ es)) ≡
    length (front ++ lines_of (c ∷ []))) →
    Begun (λ (answer : List Event). answer ≡ content_events bytes options (c ∷ cs)) (length (c ∷ cs)) left chunks now
    (suc (length cs)) →
    LeadsTo bytes options events left chunks rest all →
    Shown bytes options events (drop (with + 2) rest) (all ++ (front ++ lines_of (c ∷ []))) c.after cs
shows-line bytes options events rest left now all front chunks with c [] d begins is lines whole valid own begun
    leads =
    let put : List Event = front ++ lines_of (c ∷ []) in
    let ends : List Event = exit parts.Paragraph c.after ∷ [] in
    let on = line-placed bytes options events rest left now all chunks with (length now) c [] d begins is lines refl
    begun leads in
    let given : all ++ take (length now) now ≡ (all ++ put) ++ ends =
    ap (λ (l : List Event). all ++ l)
    (take_all (length now) now (omega arith) ∙ valid ∙ sym (append_assoc front (lines_of (c ∷ [])) ends))
    ∙ sym (append_assoc all put ends) in
    subst (LeadsTo bytes options events [] 0 (drop (with + 2) rest)) given
    (subst
    (λ (l : List Event).
    LeadsTo bytes options events l 0 (drop (with + 2) rest) (all ++ take (length now) now))
    (drop_all (length now) now (omega arith)) on)
shows-line bytes options events rest left now all front chunks with c (e ∷ cs) d begins is lines whole valid own begun
    leads =
    let put : List Event = front ++ lines_of (c ∷ []) in
    let following : List Event = lines_of (e ∷ cs) ++ exit parts.Paragraph (after_of (e ∷ cs)) ∷ [] in
    let both = and_parts _ _ whole in
    let f = followed c e both.0 in
    let n : ℕ = length put in
    let apart : now ≡ put ++ following = valid ∙ sym (append_assoc front (lines_of (c ∷ [])) following) in
    let share_is : share (suc (length cs)) now c.after.index ≡ n =
    ap (prefix_len (belongs c.after.index)) valid
    ∙ own e.first (exit parts.Data e.after ∷ lines_of cs ++ exit parts.Paragraph (after_of (e ∷ cs)) ∷ []) f.index in
    let on = line-placed bytes options events rest left now all chunks with n c (e ∷ cs) d begins is lines share_is
    begun leads in (
      both.1,
      subst
          (λ (l : List Event).
          LeadsTo bytes options events l (suc (length cs)) (drop (with + 2) rest) (all ++ put))
          (ap (drop n) apart ∙ drop_at put following n refl)
          (subst
          (λ (l : List Event).
          LeadsTo bytes options events (drop n now) (suc (length cs)) (drop (with + 2) rest) (all ++ l))
          (ap (take n) apart ∙ take_at put following n refl) on),
    )

-- the first line of a paragraph
pub shows-first : (bytes : List ℕ) (options : ParseOptions) (events rest all : List Event) (with : ℕ) (c : Chunk)
    (cs : List Chunk) (d : Event) → begins_chunk rest ≡ true → with ≡ joined_with (drop 1 rest) →
    lines_from rest ≡ c ∷ cs → All (IsChunk bytes) (c ∷ cs) → are_lines (c ∷ cs) ≡ true →
    content_events bytes options (c ∷ cs) ≡ paragraph_of (c ∷ cs) →
    LeadsTo bytes options events [] 0 rest all →
    Shown bytes options events (drop (with + 2) rest) (all ++ enter parts.Paragraph c.first ∷ lines_of (c ∷ [])) c.after
    cs
shows-first bytes options events rest all with c cs d begins is lines are whole reads leads =
    shows-line bytes options events rest [] (paragraph_of (c ∷ cs)) all (enter parts.Paragraph c.first ∷ []) 0 with c cs
    d begins is lines whole refl (λ q es. first-share c q es (line-byte bytes c cs are whole)) (sym reads, refl) leads

-- and a further line
pub shows-next : (bytes : List ℕ) (options : ParseOptions) (events rest all : List Event) (with : ℕ) (c : Chunk)
    (cs : List Chunk) (d : Event) → begins_chunk rest ≡ true → with ≡ joined_with (drop 1 rest) →
    lines_from rest ≡ c ∷ cs → All (IsChunk bytes) (c ∷ cs) → are_lines (c ∷ cs) ≡ true →
    LeadsTo bytes options events (lines_of (c ∷ cs) ++ exit parts.Paragraph (after_of (c ∷ cs)) ∷ []) (suc (length cs))
    rest all →
    Shown bytes options events (drop (with + 2) rest) (all ++ lines_of (c ∷ [])) c.after cs
shows-next bytes options events rest all with c cs d begins is lines are whole leads =
    let left : List Event = lines_of (c ∷ cs) ++ exit parts.Paragraph (after_of (c ∷ cs)) ∷ [] in
    shows-line bytes options events rest left left all [] (suc (length cs)) with c cs d begins is lines whole refl
    (λ q es. line-share c q es (line-byte bytes c cs are whole)) (refl, refl) leads

-- Container prefixes between two lines.

unlinked : (k : Kind) (l : Option Link) → is_none l ≡ true → wanted_at wants_content k l ≡ None
unlinked Enter None h = refl
unlinked Exit None h = refl
unlinked k (Some l) h = absurd (true≢false (sym h))

plain-unwanted : (e : Event) → is_plain_prefix e ≡ true → wanted wants_content e ≡ None
plain-unwanted e h = unlinked e.kind e.link (and_parts (is_prefix e.name) (is_none e.link) h).1

-- the lines after them are those of the part
pub lines-prefixes : (events : List Event) → lines_from (past_prefixes events) ≡ lines_from events
lines-prefixes [] = refl
lines-prefixes (e ∷ es) = by (is_plain_prefix e) refl (lines-prefixes es)
  where
    run : ℕ
    run = prefix_len is_plain_prefix es

    by : (x : Bool) → is_plain_prefix e ≡ x → lines_from (drop run es) ≡ lines_from es →
        lines_from (drop (cond (is_plain_prefix e) (1 + run) 0) (e ∷ es)) ≡ lines_from (e ∷ es)
    by true plain following =
        let more : 1 + run ≡ suc run = omega arith in
        ap (λ (x : Bool). lines_from (drop (cond x (1 + run) 0) (e ∷ es))) plain
        ∙ ap (λ (n : ℕ). lines_from (drop n (e ∷ es))) more
        ∙ following
        ∙ sym
        (past-prefix e es (ap is_some (plain-unwanted e plain))
        (and_parts (is_prefix e.name) (is_none e.link) plain).0)
    by false other following = ap (λ (x : Bool). lines_from (drop (cond x (1 + run) 0) (e ∷ es))) other

-- where a line begins after them, they are the events without a link
pub unlinked-prefixes : (events : List Event) → begins_chunk (past_prefixes events) ≡ true →
    prefix_len is_unlinked events ≡ prefix_len is_plain_prefix events
unlinked-prefixes [] h = refl
unlinked-prefixes (e ∷ es) h = by (is_plain_prefix e) refl h (unlinked-prefixes es)
  where
    run : ℕ
    run = prefix_len is_plain_prefix es

    linked : (k : Kind) (l : Option Link) → is_some (wanted_at wants_content k l) ≡ true → is_none l ≡ false
    linked k None h = absurd (true≢false (sym (none k h)))
      where
        none : (k : Kind) → is_some (wanted_at wants_content k None) ≡ true → false ≡ true
        none Enter h = h
        none Exit h = h
    linked k (Some l) h = refl

    wants_first : (l : List Event) → begins_chunk (e ∷ l) ≡ true → is_some (wanted wants_content e) ≡ true
    wants_first [] h = absurd (true≢false (sym h))
    wants_first (f ∷ l) h = h

    by : (x : Bool) → is_plain_prefix e ≡ x →
        begins_chunk (drop (cond (is_plain_prefix e) (1 + run) 0) (e ∷ es)) ≡ true →
        (begins_chunk (past_prefixes es) ≡ true → prefix_len is_unlinked es ≡ run) →
        cond (is_unlinked e) (1 + prefix_len is_unlinked es) 0 ≡ cond (is_plain_prefix e) (1 + run) 0
    by true plain h following =
        let more : 1 + run ≡ suc run = omega arith in
        let there : begins_chunk (drop (suc run) (e ∷ es)) ≡ true =
        subst (λ (n : ℕ). begins_chunk (drop n (e ∷ es)) ≡ true) more
        (subst (λ (x : Bool). begins_chunk (drop (cond x (1 + run) 0) (e ∷ es)) ≡ true) plain h) in
        ap (λ (x : Bool). cond x (1 + prefix_len is_unlinked es) 0)
        (and_parts (is_prefix e.name) (is_none e.link) plain).1
        ∙ ap (λ (n : ℕ). 1 + n) (following there)
        ∙ sym (ap (λ (x : Bool). cond x (1 + run) 0) plain)
    by false other h following =
        let here : begins_chunk (e ∷ es) ≡ true =
        subst (λ (x : Bool). begins_chunk (drop (cond x (1 + run) 0) (e ∷ es)) ≡ true) other h in
        ap (λ (x : Bool). cond x (1 + prefix_len is_unlinked es) 0)
        (linked e.kind e.link (wants_first es here))
        ∙ sym (ap (λ (x : Bool). cond x (1 + run) 0) other)

-- they stay as they are
pub leads-prefixes : (bytes : List ℕ) (options : ParseOptions) (events left rest all : List Event) (chunks : ℕ) →
    LeadsTo bytes options events left chunks rest all →
    LeadsTo bytes options events left chunks (past_prefixes rest) (all ++ take (prefix_len is_plain_prefix rest) rest)
leads-prefixes bytes options events left [] all chunks leads =
    subst (LeadsTo bytes options events left chunks []) (sym (append-nil all)) leads
leads-prefixes bytes options events left (e ∷ es) all chunks leads =
    go (is_plain_prefix e) refl (λ on. leads-prefixes bytes options events left es (all ++ e ∷ []) chunks on)
  where
    run : ℕ
    run = prefix_len is_plain_prefix es

    go : (x : Bool) → is_plain_prefix e ≡ x →
        (LeadsTo bytes options events left chunks es (all ++ e ∷ []) →
        LeadsTo bytes options events left chunks (drop run es) ((all ++ e ∷ []) ++ take run es)) →
        let many = cond (is_plain_prefix e) (1 + run) 0 in
        LeadsTo bytes options events left chunks (drop many (e ∷ es)) (all ++ take many (e ∷ es))
    go true plain following =
        let reads = content_readings bytes options in
        let more : 1 + run ≡ suc run = omega arith in
        let prefix = (and_parts (is_prefix e.name) (is_none e.link) plain).0 in
        rw (plain, more)
        (subst (LeadsTo bytes options events left chunks (drop run es)) (append_assoc all (e ∷ []) (take run es))
        (following
        (leads-event wants_content reads (joined events) left (joined es) all chunks e (inl (plain-unwanted e plain))
        (subst (λ (l : List Event). Leads wants_content reads (joined events) left chunks l all)
        (joined-stays e es (prefix-stays e prefix)) leads))))
    go false other following =
        rw other
        (subst (LeadsTo bytes options events left chunks (e ∷ es)) (sym (append-nil all)) leads)

-- Where no part is begun, what is left of one is nothing.
unbegun : (bytes : List ℕ) (options : ParseOptions) (left now rest out : List Event) →
    Substituted wants_content (content_readings bytes options) left 0 rest out →
    Substituted wants_content (content_readings bytes options) now 0 rest out
unbegun bytes options left now [] out s = s
unbegun bytes options left now (e ∷ []) out s = s
unbegun bytes options left now (e ∷ f ∷ es) out s =
    go (wanted wants_content e) (λ out. unbegun bytes options left now (f ∷ es) out) s
  where
    reads : Readings
    reads = content_readings bytes options

    go : (o : Option Content) →
        ((out : List Event) → Substituted wants_content reads left 0 (f ∷ es) out →
        Substituted wants_content reads now 0 (f ∷ es) out) →
        SubstitutedBy wants_content reads left 0 e f es out o → SubstitutedBy wants_content reads now 0 e f es out o
    go None following s = (s.0, s.1, following s.0 s.2)
    go (Some _) following s = s

pub to-unbegun : (bytes : List ℕ) (options : ParseOptions) (events left rest all : List Event) (chunks : ℕ) →
    chunks ≡ 0 → LeadsTo bytes options events left chunks rest all → LeadsTo bytes options events [] 0 rest all
to-unbegun bytes options events left rest all chunks none leads out s =
    subst (λ (n : ℕ). LeadsTo bytes options events left n rest all) none leads out
    (unbegun bytes options [] left (joined rest) out s)

pub from-unbegun : (bytes : List ℕ) (options : ParseOptions) (events left rest all : List Event) (chunks : ℕ) →
    chunks ≡ 0 → LeadsTo bytes options events [] 0 rest all → LeadsTo bytes options events left chunks rest all
from-unbegun bytes options events left rest all chunks none leads =
    subst (λ (n : ℕ). LeadsTo bytes options events left n rest all) (sym none)
    (λ out s. leads out (unbegun bytes options left [] (joined rest) out s))

-- A paragraph is written.

-- some of its lines are, the last of which ends at `after`
pub record Following (bytes : List ℕ) (options : ParseOptions) (items all rest : List Event)
    (after : Point) : Type 0 where
  pub given : ArePlaced bytes all
  pub left : ArePlaced bytes rest
  pub end : IsPlaced bytes after
  pub shown : Shown bytes options items rest all after (lines_from rest)

-- so many lines are left, of which the next is after container prefixes
abbrev pub HasFurther : ℕ → List Event → Type 0
HasFurther zero rest = lines_from rest ≡ []
HasFurther (suc more) rest = HasLines more (past_prefixes rest)

pub begins : (more : ℕ) (rest : List Event) → HasLines more rest → begins_chunk rest ≡ true
begins zero rest h = h.0
begins (suc more) rest h = h.0

pub has-further : (more : ℕ) (rest : List Event) → HasLines more rest →
    HasFurther more (drop (joined_with (drop 1 rest) + 2) rest)
has-further zero rest h = rw h.1 h.2
has-further (suc more) rest h = rw h.1 h.2

-- the event that a line ends with
pub last-event : (more : ℕ) (rest : List Event) → HasLines more rest →
    joined_with (drop 1 rest) ≡ cond (nat_lt 0 more) 2 0
last-event zero rest h = h.1
last-event (suc more) rest h =
    let some : nat_lt 0 (suc more) ≡ true = grind (arith, nat_tests) in
    h.1 ∙ sym (ap (λ (b : Bool). cond b 2 0) some)

joined-within : (l : List Event) → 0 < length l → joined_with l < length l
joined-within [] lt = absurd (omega arith)
joined-within (e ∷ []) lt = omega arith
joined-within (e ∷ f ∷ []) lt = omega arith
joined-within (e ∷ f ∷ g ∷ es) lt = go (is_exit e.kind && is_content e.name && is_continued (f ∷ g ∷ es))
  where
    go : (b : Bool) → cond b 2 0 < length (e ∷ f ∷ g ∷ es)
    go true = omega arith
    go false = omega arith

pub two-first : (rest : List Event) → begins_chunk rest ≡ true → 1 < length rest
two-first [] h = absurd (true≢false (sym h))
two-first (e ∷ []) h = absurd (true≢false (sym h))
two-first (e ∷ f ∷ es) h = omega arith

pub last-within : (rest : List Event) → begins_chunk rest ≡ true → joined_with (drop 1 rest) + 1 < length rest
last-within rest h =
    let two = two-first rest h in
    let size = length-drop 1 rest in
    let within = joined-within (drop 1 rest) (omega (arith, size, two)) in
    omega (arith, size, two, within)

-- its chunks lie in the text
chunks-are : (bytes : List ℕ) (rest : List Event) (c : Chunk) (cs : List Chunk) (d : Event) →
    begins_chunk rest ≡ true → lines_from rest ≡ c ∷ cs → ArePlaced bytes rest → All (IsChunk bytes) (c ∷ cs)
chunks-are bytes rest c cs d h lines placed =
    subst (All (IsChunk bytes)) lines (lines-placed bytes rest d h placed).each

line-at : (bytes : List ℕ) (c : Chunk) → IsChunk bytes c → ArePlaced bytes (lines_of (c ∷ []))
line-at bytes c is =
    All-cons (λ (e : Event). IsPlaced bytes e.point) (enter_link parts.Data c.first text_link)
    (exit parts.Data c.after ∷ []) is.first
    (All-cons (λ (e : Event). IsPlaced bytes e.point) (exit parts.Data c.after) [] is.after
    (All-nil (λ (e : Event). IsPlaced bytes e.point)))

-- the first line
pub paragraph-first : (bytes : List ℕ) (options : ParseOptions) (events all rest all_after rest_after : List Event)
    (more : ℕ) (c : Chunk) (d : Event) → IsParagraph bytes more rest → Reached bytes options events all rest →
    lines_from rest ≡ c ∷ lines_from rest_after → rest_after ≡ drop (joined_with (drop 1 rest) + 2) rest →
    all_after ≡ all ++ enter parts.Paragraph c.first ∷ lines_of (c ∷ []) →
    Following bytes options events all_after rest_after c.after
paragraph-first bytes options events all rest all_after rest_after more c d is reached lines next given =
    let At = λ (e : Event). IsPlaced bytes e.point in
    let cs : List Chunk = lines_from rest_after in
    let h = begins more rest is.lines in
    let are = chunks-are bytes rest c cs d h lines reached.left in
    let own = All-head (IsChunk bytes) c cs are in
    let shown = shows-first bytes options events rest all (joined_with (drop 1 rest)) c cs d h refl lines are
    (subst (λ (l : List Chunk). are_lines l ≡ true) lines is.whole)
    (subst (λ (l : List Chunk). content_events bytes options l ≡ paragraph_of l) lines (is.reads options))
    reached.substituted in
    record {
      given =
          subst (ArePlaced bytes) (sym given)
          (All-append At all (enter parts.Paragraph c.first ∷ lines_of (c ∷ [])) reached.given
          (All-cons At (enter parts.Paragraph c.first) (lines_of (c ∷ [])) own.first (line-at bytes c own)));
      left = subst (ArePlaced bytes) (sym next) (All-drop At (joined_with (drop 1 rest) + 2) rest reached.left);
      end = own.after;
      shown =
          subst (λ (l : List Event). Shown bytes options events rest_after l c.after cs) (sym given)
          (subst
          (λ (l : List Event).
          Shown bytes options events l (all ++ enter parts.Paragraph c.first ∷ lines_of (c ∷ [])) c.after cs) (sym next)
          shown);
    }

-- a further line
pub paragraph-more : (bytes : List ℕ) (options : ParseOptions) (events all rest all_after rest_after : List Event)
    (after : Point) (more : ℕ) (c : Chunk) (d : Event) → Following bytes options events all rest after →
    HasLines more (past_prefixes rest) →
    lines_from (past_prefixes rest) ≡ c ∷ lines_from rest_after →
    rest_after ≡ drop (joined_with (drop 1 (past_prefixes rest)) + 2) (past_prefixes rest) →
    all_after ≡ (all ++ take (prefix_len is_plain_prefix rest) rest) ++ lines_of (c ∷ []) →
    Following bytes options events all_after rest_after c.after
paragraph-more bytes options events all rest all_after rest_after after more c d following has lines next given =
    let At = λ (e : Event). IsPlaced bytes e.point in
    let cs : List Chunk = lines_from rest_after in
    let now : List Event = past_prefixes rest in
    let n : ℕ = prefix_len is_plain_prefix rest in
    let put : List Event = all ++ take n rest in
    let h = begins more now has in
    let left = All-drop At n rest following.left in
    let are = chunks-are bytes now c cs d h lines left in
    let own = All-head (IsChunk bytes) c cs are in
    let left_is : Shown bytes options events rest all after (c ∷ cs) =
    subst (Shown bytes options events rest all after) (sym (lines-prefixes rest) ∙ lines) following.shown in
    let shown = shows-next bytes options events now put (joined_with (drop 1 now)) c cs d h refl lines are left_is.0
    (leads-prefixes bytes options events (lines_of (c ∷ cs) ++ exit parts.Paragraph (after_of (c ∷ cs)) ∷ []) rest all
    (suc (length cs)) left_is.1) in
    record {
      given =
          subst (ArePlaced bytes) (sym given)
          (All-append At put (lines_of (c ∷ []))
          (All-append At all (take n rest) following.given (All-take At n rest following.left)) (line-at bytes c own));
      left = subst (ArePlaced bytes) (sym next) (All-drop At (joined_with (drop 1 now) + 2) now left);
      end = own.after;
      shown =
          subst (λ (l : List Event). Shown bytes options events rest_after l c.after cs) (sym given)
          (subst (λ (l : List Event). Shown bytes options events l (put ++ lines_of (c ∷ [])) c.after cs) (sym next)
          shown);
    }

-- no further line
pub paragraph-all : (bytes : List ℕ) (options : ParseOptions) (events all rest all_after rest_after : List Event)
    (after : Point) → Following bytes options events all rest after → lines_from rest ≡ [] → rest_after ≡ rest →
    all_after ≡ all ++ exit parts.Paragraph after ∷ [] → Reached bytes options events all_after rest_after
paragraph-all bytes options events all rest all_after rest_after after following none next given =
    let At = λ (e : Event). IsPlaced bytes e.point in
    let ends : Event = exit parts.Paragraph after in
    subst (Reached bytes options events all_after) (sym next)
    (subst (λ (l : List Event). Reached bytes options events l rest) (sym given)
    (record {
      given = All-append At all (ends ∷ []) following.given (All-cons At ends [] following.end (All-nil At));
      left = following.left;
      substituted = subst (Shown bytes options events rest all after) none following.shown;
    }))

-- A paragraph is looked for.

-- a line of content is after prefixes
following-prefixes : (es : List Event) (d : Event) → prefix_len is_plain_prefix es < length es →
    (is_enter (get_or es (prefix_len is_plain_prefix es) d).kind
    && is_content (get_or es (prefix_len is_plain_prefix es) d).name) ≡ true →
    content_after es ≡ true
following-prefixes [] d lt h = absurd (omega arith)
following-prefixes (e ∷ es) d lt h = by (is_plain_prefix e) refl lt h (following-prefixes es d)
  where
    run : ℕ
    run = prefix_len is_plain_prefix es

    Begins : List Event → ℕ → Type 0
    Begins l n = (is_enter (get_or l n d).kind && is_content (get_or l n d).name) ≡ true

    other : (x : Name) → is_content x ≡ true → is_prefix x ≡ false
    other parts.Content h = refl
    other parts.SpaceOrTab h = absurd (true≢false (sym h))
    other parts.BlockQuotePrefix h = absurd (true≢false (sym h))
    other parts.BlockQuoteMarker h = absurd (true≢false (sym h))
    other _ h = refl

    by : (x : Bool) → is_plain_prefix e ≡ x → cond (is_plain_prefix e) (1 + run) 0 < length (e ∷ es) →
        Begins (e ∷ es) (cond (is_plain_prefix e) (1 + run) 0) →
        (run < length es → Begins es run → content_after es ≡ true) →
        cond (is_prefix e.name) (content_after es) (is_enter e.kind && is_content e.name) ≡ true
    by true plain lt h following =
        let more : 1 + run ≡ suc run = omega arith in
        let less : cond true (1 + run) 0 < length (e ∷ es) =
        subst (λ (x : Bool). cond x (1 + run) 0 < length (e ∷ es)) plain lt in
        let there : Begins (e ∷ es) (suc run) =
        subst (Begins (e ∷ es)) more (subst (λ (x : Bool). Begins (e ∷ es) (cond x (1 + run) 0)) plain h) in
        ap (λ (x : Bool). cond x (content_after es) (is_enter e.kind && is_content e.name))
        (and_parts (is_prefix e.name) (is_none e.link) plain).0
        ∙ following (omega (arith, less)) there
    by false none lt h following =
        let here : Begins (e ∷ es) 0 = subst (λ (x : Bool). Begins (e ∷ es) (cond x (1 + run) 0)) none h in
        ap (λ (x : Bool). cond x (content_after es) (is_enter e.kind && is_content e.name))
        (other e.name (and_parts (is_enter e.kind) (is_content e.name) here).1)
        ∙ here

-- so a line continues
pub joins-two : (events : List Event) (n : ℕ) (d : Event) → 3 ≤ length events →
    ends_content (get_or events 0 d) ≡ true → is_line_ending (get_or events 1 d).name ≡ true →
    n ≡ prefix_len is_plain_prefix (drop 3 events) → 3 + n < length events →
    (is_enter (get_or events (3 + n) d).kind && is_content (get_or events (3 + n) d).name) ≡ true →
    joined_with events ≡ 2
joins-two [] n d three ends ending is lt h = absurd (omega arith)
joins-two (e ∷ []) n d three ends ending is lt h = absurd (omega arith)
joins-two (e ∷ f ∷ []) n d three ends ending is lt h = absurd (omega arith)
joins-two (e ∷ f ∷ g ∷ es) n d three ends ending is lt h =
    let more : 3 + n ≡ suc (suc (suc n)) = omega arith in
    let there = subst
    (λ (k : ℕ). (is_enter (get_or (e ∷ f ∷ g ∷ es) k d).kind && is_content (get_or (e ∷ f ∷ g ∷ es) k d).name) ≡ true)
    more h in
    let following : content_after es ≡ true =
    following-prefixes es d (omega (arith, is))
    (subst (λ (k : ℕ). (is_enter (get_or es k d).kind && is_content (get_or es k d).name) ≡ true) is there) in
    let own = and_parts (is_exit e.kind) (is_content e.name) ends in
    rw (own.0, own.1, ending, following) refl

-- one line more

front-drop : (events : List Event) (at n : ℕ) → drop n (drop (at + 1) events) ≡ drop (suc n) (drop at events)
front-drop events at n =
    drop-drop n (at + 1) events
    ∙ ap (λ (k : ℕ). drop k events) (omega arith)
    ∙ sym (drop-drop (suc n) at events)

pub more-lines : (events : List Event) (at following next : ℕ) → begins_chunk (drop at events) ≡ true →
    joined_with (drop (at + 1) events) ≡ 2 →
    following ≡ 3 + prefix_len is_plain_prefix (drop 3 (drop (at + 1) events)) → next ≡ at + 1 + following →
    (past_prefixes (drop 4 (drop at events)) ≡ drop next events)
    × (joined_with (drop 1 (drop at events)) ≡ 2)
more-lines events at following next h two is far =
    let n : ℕ = prefix_len is_plain_prefix (drop 3 (drop (at + 1) events)) in
    let there : drop 3 (drop (at + 1) events) ≡ drop 4 (drop at events) = front-drop events at 3 in
    let sum : (at + 4) + n ≡ next = omega (arith, is, far) in (
      sym (ap past_prefixes there)
          ∙ ap (drop n) (there ∙ drop-drop 4 at events)
          ∙ drop-drop n (at + 4) events
          ∙ ap (λ (k : ℕ). drop k events) sum,
      ap joined_with (sym (front-drop events at 0)) ∙ two,
    )

-- lines that are looked at lead to so many further ones
abbrev pub CountsTo : List Event → ℕ → ℕ → Type 0
CountsTo events at more = (n : ℕ) → HasLines n (drop at events) → HasLines (n + more) events

pub counts-more : (events : List Event) (at following next more : ℕ) → begins_chunk (drop at events) ≡ true →
    joined_with (drop (at + 1) events) ≡ 2 →
    following ≡ 3 + prefix_len is_plain_prefix (drop 3 (drop (at + 1) events)) → next ≡ at + 1 + following →
    CountsTo events at more → CountsTo events next (more + 1)
counts-more events at following next more h two is far counts n has =
    let on = more-lines events at following next h two is far in
    let sum : suc n + more ≡ n + (more + 1) = omega arith in
    subst (λ (k : ℕ). HasLines k events) sum
    (counts (suc n) (h, on.1, subst (HasLines n) (sym on.0) has))

-- the lines of the part, from one on
pub whole-more : (events : List Event) (at following next : ℕ) (d : Event) (q : Point) →
    begins_chunk (drop at events) ≡ true →
    begins_chunk (drop next events) ≡ true → joined_with (drop (at + 1) events) ≡ 2 →
    following ≡ 3 + prefix_len is_plain_prefix (drop 3 (drop (at + 1) events)) → next ≡ at + 1 + following →
    is_followed (chunk_of (get_or events at d) (get_or events (at + 3) d))
    (record { first = (get_or events next d).point; after = q }) ≡ true →
    are_lines (lines_from (drop next events)) ≡ are_lines (lines_from (drop at events))
whole-more events at following next d q h there two is far follows =
    let rest : List Event = drop at events in
    let following_is = more-lines events at following next h two is far in
    let with : ℕ = joined_with (drop 1 (drop next events)) in
    let own = lines-split rest 2 3 d h (sym following_is.1) refl in
    let more = lines-split (drop next events) with (1 + with) d there refl refl in
    let e : Event = get_or (drop next events) 0 d in
    let f : Event = get_or (drop next events) (1 + with) d in
    let tail : List Chunk = lines_from (drop (1 + with + 1) (drop next events)) in
    let here : get_or rest 0 d ≡ get_or events at d =
    get_or-drop at events 0 d ∙ ap (λ (n : ℕ). get_or events n d) (omega arith) in
    let last : get_or rest 3 d ≡ get_or events (at + 3) d =
    get_or-drop at events 3 d ∙ ap (λ (n : ℕ). get_or events n d) (omega arith) in
    let first : e ≡ get_or events next d =
    get_or-drop next events 0 d ∙ ap (λ (n : ℕ). get_or events n d) (omega arith) in
    let c : Chunk = chunk_of (get_or events at d) (get_or events (at + 3) d) in
    let lines : lines_from rest ≡ c ∷ chunk_of e f ∷ tail =
    own
    ∙ ap (λ (k : Event). chunk_of k (get_or rest 3 d) ∷ lines_from (drop 4 rest)) here
    ∙ ap (λ (k : Event). chunk_of (get_or events at d) k ∷ lines_from (drop 4 rest)) last
    ∙ ap (λ (l : List Chunk). c ∷ l)
    (sym (lines-prefixes (drop 4 rest)) ∙ ap lines_from following_is.0 ∙ more) in
    let followed_is : is_followed c (chunk_of e f) ≡ true =
    ap (λ (k : Event). is_followed c (chunk_of k f)) first ∙ follows in
    ap are_lines more ∙ sym (ap are_lines lines ∙ ap (λ (b : Bool). b && are_lines (chunk_of e f ∷ tail)) followed_is)

-- the last line
pub lines-last : (events : List Event) (at : ℕ) → begins_chunk (drop at events) ≡ true →
    joined_with (drop (at + 1) events) ≡ 0 → lines_from (drop 1 (drop (at + 1) events)) ≡ [] →
    HasLines 0 (drop at events)
lines-last events at h alone none =
    (h, ap joined_with (sym (front-drop events at 0)) ∙ alone, ap lines_from (sym (front-drop events at 1)) ∙ none)

pub whole-last : (events : List Event) (at : ℕ) (d : Event) → HasLines 0 (drop at events) →
    is_within_line (chunk_of (get_or events at d) (get_or events (at + 1) d)) ≡ true →
    are_lines (lines_from (drop at events)) ≡ true
whole-last events at d has alone =
    let rest : List Event = drop at events in
    let own = lines-split rest 0 1 d has.0 (sym has.1) refl in
    let here : get_or rest 0 d ≡ get_or events at d =
    get_or-drop at events 0 d ∙ ap (λ (n : ℕ). get_or events n d) (omega arith) in
    let last : get_or rest 1 d ≡ get_or events (at + 1) d = get_or-drop at events 1 d in
    ap are_lines
    (own
    ∙ ap (λ (l : List Chunk). chunk_of (get_or rest 0 d) (get_or rest 1 d) ∷ l) has.2)
    ∙ ap (λ (e : Event). is_within_line (chunk_of e (get_or rest 1 d))) here
    ∙ ap (λ (f : Event). is_within_line (chunk_of (get_or events at d) f)) last
    ∙ alone

-- a paragraph is found
pub paragraph-found : (bytes : List ℕ) (events : List Event) (more last : ℕ) (d : Event) → ArePlaced bytes events →
    HasLines more events → are_lines (lines_from events) ≡ true → last ≡ 1 + cond (nat_lt 0 more) 2 0 →
    may_define_in (slice_range bytes (get_or events 0 d).point.index (get_or events last d).point.index) ≡ false →
    IsParagraph bytes more events
paragraph-found bytes events more last d placed has whole is none =
    let h = begins more events has in
    let with : ℕ = joined_with (drop 1 events) in
    let c : Chunk = chunk_of (get_or events 0 d) (get_or events last d) in
    let rest : List Chunk = lines_from (drop (last + 1) events) in
    let next : last ≡ 1 + with = is ∙ ap (λ (n : ℕ). 1 + n) (sym (last-event more events has)) in
    let lines : lines_from events ≡ c ∷ rest = lines-split events with last d h refl next in
    record {
      lines = has;
      whole = whole;
      reads = λ options.
          whole-lines bytes options (lines_from events) c (lines-placed bytes events d h placed)
          (subst
          (λ (l : List Chunk).
          may_define_in (slice_range bytes (get_or l 0 c).first.index (get_or l 0 c).after.index) ≡ false) (sym lines)
          none) whole;
    }

-- The same, by what the code holds.

pub last-some : (more last : ℕ) → 0 < more → last ≡ 3 → last ≡ 1 + cond (nat_lt 0 more) 2 0
last-some more last lt is =
    let some : nat_lt 0 more ≡ true = grind (arith, nat_tests, lt) in
    is ∙ sym (ap (λ (b : Bool). 1 + cond b 2 0) some)

pub last-none : (more last : ℕ) → more ≤ 0 → last ≡ 1 → last ≡ 1 + cond (nat_lt 0 more) 2 0
last-none more last le is =
    let none : nat_lt 0 more ≡ false = grind (arith, nat_tests, le) in
    is ∙ sym (ap (λ (b : Bool). 1 + cond b 2 0) none)

-- the last event of the first line is the one that this says
pub last-next : (more last : ℕ) (events : List Event) → HasLines more events →
    last ≡ 1 + cond (nat_lt 0 more) 2 0 → last ≡ 1 + joined_with (drop 1 events)
last-next more last events has is = is ∙ ap (λ (n : ℕ). 1 + n) (sym (last-event more events has))

pub last-below : (more last : ℕ) (events : List Event) → HasLines more events →
    last ≡ 1 + cond (nat_lt 0 more) 2 0 → last < length events
last-below more last events has is =
    let next = last-next more last events has is in
    let within = last-within events (begins more events has) in
    omega (arith, next, within)

pub ended-lines : (events : List Event) (at more : ℕ) → CountsTo events at more → HasLines 0 (drop at events) →
    HasLines more events
ended-lines events at more counts has =
    let sum : 0 + more ≡ more = omega arith in
    subst (λ (n : ℕ). HasLines n events) sum (counts 0 has)

pub further-has : (more : ℕ) (rest : List Event) → 0 < more → HasFurther more rest →
    HasLines (more - 1) (past_prefixes rest)
further-has zero rest lt h = absurd (omega arith)
further-has (suc more) rest lt h =
    let less : suc more - 1 ≡ more = omega arith in
    subst (λ (n : ℕ). HasLines n (past_prefixes rest)) (sym less) h

pub fewer-left : (rest : List Event) (n : ℕ) → begins_chunk rest ≡ true → length (drop (n + 2) rest) < length rest
fewer-left rest n h =
    let two = two-first rest h in
    let size = length-drop (n + 2) rest in
    omega (arith, two, size)

pub given-first : (written begun put held all line : List Event) (e : Event) → written ≡ all →
    begun ≡ written ++ e ∷ [] → put ≡ begun ++ line → held ≡ [] → put ++ held ≡ all ++ e ∷ line
given-first written begun put held all line e is begins puts none =
    ap (λ (l : List Event). put ++ l) none ∙ append-nil put ∙ puts
    ∙ ap (λ (l : List Event). l ++ line) (begins ∙ ap (λ (l : List Event). l ++ e ∷ []) is)
    ∙ append_assoc all (e ∷ []) line

pub given-more : (written held written_on held_on taken put held_after prefixes line : List Event) →
    written_on ≡ written → held_on ≡ held ++ prefixes → taken ≡ written_on ++ held_on → put ≡ taken ++ line →
    held_after ≡ [] → put ++ held_after ≡ ((written ++ held) ++ prefixes) ++ line
given-more written held written_on held_on taken put held_after prefixes line is holds takes puts none =
    ap (λ (l : List Event). put ++ l) none ∙ append-nil put ∙ puts
    ∙ ap (λ (l : List Event). l ++ line)
    (takes ∙ ap (λ (l : List Event). l ++ held_on) is ∙ ap (λ (l : List Event). written ++ l) holds
    ∙ sym (append_assoc written held prefixes))

pub given-end : (written held put held_after : List Event) (e : Event) → put ≡ written ++ e ∷ [] →
    held_after ≡ held → held ≡ [] → put ++ held_after ≡ (written ++ held) ++ e ∷ []
given-end written held put held_after e puts same none =
    ap (λ (l : List Event). put ++ l) (same ∙ none) ∙ append-nil put ∙ puts
    ∙ ap (λ (l : List Event). l ++ e ∷ []) (sym (ap (λ (l : List Event). written ++ l) none ∙ append-nil written))

pub no-chunks : (n : ℕ) → nat_lt 0 n ≡ false → n ≡ 0
no-chunks n h = grind (arith, nat_tests, h)
