-- What is in the places of parts, part by part.
use Rattle.std.proofs.Common.{◌≡◌, ℕ, ◌+◌, suc, Bool, true, false, cond, List, [], ◌∷◌, ◌++◌, length, take, drop}
use Rattle.std.proofs.Common.{refl, ap, sym, ◌∙◌, subst, append_assoc, arith}
use Rattle.std.specs.Prelude.{Option, Some, None}
use Rattle.std.specs.List.{prefix_len}
use Rattle.std.specs.Option.{is_some}
use Rattle.std.proofs.Math.Seq.{drop-append_seam, take-append_seam}
use Rattle.std.proofs.lemmas.List.{take_all}
use Rattle.md_engine.specs.declared.event.Content.{Content}
use Rattle.md_engine.specs.declared.event.Event.{Event}
use Rattle.md_engine.specs.declared.event.Kind.{Kind}
use Rattle.md_engine.specs.declared.event.Kind.TheVariants.{Enter, Exit}
use Rattle.md_engine.specs.declared.event.Link.{Link}
use Rattle.md_engine.specs.declared.event.Name.{Name}
use Rattle.md_engine.specs.declared.event.Point.{Point}
use Rattle.md_events.specs.declared.inline.Chunk.{Chunk}
use Rattle.md_events.specs.Events.Nested.{enter_link, exit}
use Rattle.md_events.specs.Substituted.{Readings, belongs, Substituted, chunk_of, chunks_after, share, wanted}
use Rattle.md_events.specs.Substituted.{wanted_at}
use Rattle.md_events.specs.Events.Prefix.{is_prefix}
use Rattle.md_events.proofs.SubstitutedLemmas.{SubstitutedBy}
use Rattle.proof_frame.specs.Row.{Row, after_row, chunks_of}
use Rattle.proof_frame.specs.UnreadText.{linked_lines}
use Rattle.proof_frame.proofs.PartFacts.{NoLinks}
use Rattle.proof_frame.proofs.PrefixNames.{ArePrefixes}

-- events none of which begins a chunk that the reader wants
abbrev pub Unwanted : (Content → Bool) → List Event → Type 0
Unwanted wants [] = Unit {0}
Unwanted wants (e ∷ es) = (wanted wants e ≡ None) × Unwanted wants es

-- an event with no link begins no chunk
pub no_link-unwanted : (wants : Content → Bool) (e : Event) → e.link ≡ None → wanted wants e ≡ None
no_link-unwanted wants e h = go e.kind e.link h
  where
    go : (kind : Kind) (link : Option Link) → link ≡ None → wanted_at wants kind link ≡ None
    go Enter link h = ap (wanted_at wants Enter) h
    go Exit link h = refl

pub no_links-unwanted : (wants : Content → Bool) (es : List Event) → NoLinks es → Unwanted wants es
no_links-unwanted wants [] h = tt
no_links-unwanted wants (e ∷ es) h = (no_link-unwanted wants e h.0, no_links-unwanted wants es h.1)

passes-one : (wants : Content → Bool) (reads : Readings) (left : List Event) (chunks : ℕ) (e : Event)
    (es out : List Event) →
    wanted wants e ≡ None → Substituted wants reads left chunks (e ∷ es) out →
    (rest : List Event) × (is : out ≡ e ∷ rest) × Substituted wants reads left chunks es rest
passes-one wants reads left chunks e [] out h s = ([], s, refl)
passes-one wants reads left chunks e (f ∷ es) out h s = subst (SubstitutedBy wants reads left chunks e f es out) h s

-- Events that the reader does not want stay as they are.
pub passes : (wants : Content → Bool) (reads : Readings) (left : List Event) (chunks : ℕ) (xs ys out : List Event) →
    Unwanted wants xs → Substituted wants reads left chunks (xs ++ ys) out →
    (rest : List Event) × (is : out ≡ xs ++ rest) × Substituted wants reads left chunks ys rest
passes wants reads left chunks [] ys out h s = (out, refl, s)
passes wants reads left chunks (e ∷ xs) ys out h s =
    let one : (rest : List Event) × (is : out ≡ e ∷ rest) ×
    Substituted wants reads left chunks (xs ++ ys) rest = passes-one wants reads left chunks e
    (xs ++ ys) out h.0 s in
    let more : (rest : List Event) × (is : one.0 ≡ xs ++ rest) ×
    Substituted wants reads left chunks ys rest = passes wants reads left chunks xs ys one.0 h.1 one.2 in
    (more.0, one.1 ∙ ap (λ (l : List Event). e ∷ l) more.1, more.2)

-- So where nothing is wanted nothing changes.
pub keeps : (wants : Content → Bool) (reads : Readings) (left : List Event) (chunks : ℕ) (es : List Event) →
    Unwanted wants es → Substituted wants reads left chunks es es
keeps wants reads left chunks [] h = refl
keeps wants reads left chunks (e ∷ []) h = refl
keeps wants reads left chunks (e ∷ f ∷ es) h =
    subst (SubstitutedBy wants reads left chunks e f es (e ∷ f ∷ es)) (sym h.0)
    (f ∷ es, refl, keeps wants reads left chunks (f ∷ es) h.1)

-- what is left of a part is in the places of its further chunks, however it is shared
abbrev pub Rest : (Content → Bool) → Readings → List Event → List Event → List Event → Type 0
Rest wants reads left ys out =
    (rest over : List Event) × (is : out ≡ left ++ rest) × Substituted wants reads over 0 ys rest

-- Parts of lines with prefixes between them.

-- over prefixes a part continues
pub prefixes-following : (wants : Content → Bool) (xs ys : List Event) → ArePrefixes xs →
    chunks_after wants (xs ++ ys) ≡ chunks_after wants ys
prefixes-following wants [] ys h = refl
prefixes-following wants (e ∷ []) [] h = refl
prefixes-following wants (e ∷ []) (f ∷ ys) h = following-one wants e f ys h.0.0 h.0.1
  where
    following-one : (wants : Content → Bool) (e f : Event) (es : List Event) → is_prefix e.name ≡ true → e.link ≡ None →
        chunks_after wants (e ∷ f ∷ es) ≡ chunks_after wants (f ∷ es)
    following-one wants e f es name link =
        ap
        (λ (x : Option Content).
        cond (is_some x) (chunk_of e f ∷ chunks_after wants es)
        (cond (is_prefix e.name) (chunks_after wants (f ∷ es)) []))
        (no_link-unwanted wants e link)
        ∙ ap (λ (x : Bool). cond x (chunks_after wants (f ∷ es)) []) name
prefixes-following wants (e ∷ f ∷ xs) ys h =
    ap
    (λ (x : Option Content).
    cond (is_some x) (chunk_of e f ∷ chunks_after wants (xs ++ ys))
    (cond (is_prefix e.name) (chunks_after wants (f ∷ xs ++ ys)) []))
    (no_link-unwanted wants e h.0.1)
    ∙ ap (λ (x : Bool). cond x (chunks_after wants (f ∷ xs ++ ys)) []) h.0.0
    ∙ prefixes-following wants (f ∷ xs) ys h.1

pub prefixes-unwanted : (wants : Content → Bool) (es : List Event) → ArePrefixes es → Unwanted wants es
prefixes-unwanted wants [] h = tt
prefixes-unwanted wants (e ∷ es) h = (no_link-unwanted wants e h.0.1, prefixes-unwanted wants es h.1)

-- before each of these lines are prefixes
abbrev pub EachPrefixed : List Row → Type 0
EachPrefixed [] = Unit {0}
EachPrefixed (row ∷ rows) = ArePrefixes row.front × EachPrefixed rows

-- where the chunk of a line ends: after its ending if another line follows
abbrev pub line_after : Row → List Row → Point
line_after row [] = row.end
line_after row (next ∷ rows) = after_row row

-- the chunks of further lines
abbrev further_chunks : List Row → List Chunk
further_chunks [] = []
further_chunks (next ∷ rows) = chunks_of next rows

chunks-are : (row : Row) (rows : List Row) →
    chunks_of row rows ≡ (record { first = row.first; after = line_after row rows }) ∷ further_chunks rows
chunks-are row [] = refl
chunks-are row (next ∷ rows) = refl

chunks-many : (rows : List Row) → length (further_chunks rows) ≡ length rows
chunks-many [] = refl
chunks-many (next ∷ rows) = ap length (chunks-are next rows) ∙ ap suc (chunks-many rows)

-- further lines, each after what is before it
abbrev further_lines : Name → Link → List Row → List Event → List Event
further_lines name link [] ys = ys
further_lines name link (next ∷ rows) ys = next.front ++ (linked_lines name link next rows ++ ys)

lines-are : (name : Name) (link : Link) (row : Row) (rows : List Row) (ys : List Event) →
    linked_lines name link row rows ++ ys ≡
    enter_link name row.first link ∷ exit name (line_after row rows) ∷ further_lines name link rows ys
lines-are name link row [] ys = refl
lines-are name link row (next ∷ rows) ys =
    ap (λ (l : List Event). enter_link name row.first link ∷ exit name (after_row row) ∷ l)
    (append_assoc next.front (linked_lines name link next rows) ys)

-- the chunks that continue a part are those of its further lines
chunks-further : (wants : Content → Bool) (name : Name) (link : Link) (rows : List Row) (ys : List Event) →
    wants link.content ≡ true → chunks_after wants ys ≡ [] → EachPrefixed rows →
    chunks_after wants (further_lines name link rows ys) ≡ further_chunks rows
chunks-further wants name link [] ys w none fits = none
chunks-further wants name link (next ∷ rows) ys w none fits =
    let rest : List Event = exit name (line_after next rows) ∷ further_lines name link rows ys in
    let chunk : Chunk = record { first = next.first; after = line_after next rows } in
    prefixes-following wants next.front (linked_lines name link next rows ++ ys) fits.0
    ∙ ap (chunks_after wants) (lines-are name link next rows ys)
    ∙ ap
    (λ (x : Bool).
    cond (is_some (cond x (Some link.content) None)) (chunk ∷ chunks_after wants (further_lines name link rows ys))
    (cond (is_prefix name) (chunks_after wants rest) [])) w
    ∙ ap (λ (l : List Chunk). chunk ∷ l) (chunks-further wants name link rows ys w none fits.1)
    ∙ sym (chunks-are next rows)

-- events that belong to a chunk that ends at this byte
abbrev pub AllBelong : ℕ → List Event → Type 0
AllBelong end [] = Unit {0}
AllBelong end (e ∷ es) = (belongs end e ≡ true) × AllBelong end es

-- events the first of which does not
abbrev pub NextBelongs : ℕ → List Event → Type 0
NextBelongs end [] = Unit {0}
NextBelongs end (e ∷ es) = belongs end e ≡ false

-- Of the events for the lines of a part, those of each line are in its place, and between them what is before lines.
abbrev pub CutAt : Row → List Row → List Event → List Event → Type 0
CutAt row [] left done = done ≡ left
CutAt row (next ∷ rows) left done =
    (mine more rest : List Event) × (left_is : left ≡ mine ++ more) × (here : AllBelong (after_row row).index mine) ×
    (following : NextBelongs (after_row row).index more)
    × (done_is : done ≡ mine ++ (next.front ++ rest)) × CutAt next rows more rest

-- where the events of a chunk end, its share ends
belongs-cut : (end : ℕ) (xs ys : List Event) → AllBelong end xs → NextBelongs end ys →
    prefix_len (belongs end) (xs ++ ys) ≡ length xs
belongs-cut end [] [] h k = refl
belongs-cut end [] (y ∷ ys) h k = ap (λ (x : Bool). cond x (1 + prefix_len (belongs end) ys) 0) k
belongs-cut end (x ∷ xs) ys h k =
    let more = belongs-cut end xs ys h.1 k in
    ap (λ (t : Bool). cond t (1 + prefix_len (belongs end) (xs ++ ys)) 0) h.0 ∙ omega arith

-- the events of a line, and what follows it
share-joins : (mine front more rest over left out done : List Event) → out ≡ mine ++ rest → rest ≡ front ++ over →
    over ≡ more ++ left → done ≡ mine ++ (front ++ more) → out ≡ done ++ left
share-joins mine front more rest over left out done here between below all =
    here
    ∙ ap (λ (l : List Event). mine ++ l)
    (between ∙ ap (λ (l : List Event). front ++ l) below ∙ sym (append_assoc front more left))
    ∙ sym (append_assoc mine (front ++ more) left)
    ∙ ap (λ (l : List Event). l ++ left) (sym all)

-- each line takes its share of what is left
shares : (wants : Content → Bool) (reads : Readings) (name : Name) (link : Link) (row : Row) (rows : List Row)
    (ys left done out rest : List Event) →
    wants link.content ≡ true → EachPrefixed rows → CutAt row rows left done →
    out ≡ take (share (length rows) left (line_after row rows).index) left ++ rest →
    Substituted wants reads (drop (share (length rows) left (line_after row rows).index) left) (length rows)
    (further_lines name link rows ys) rest →
    Rest wants reads done ys out
shares wants reads name link row [] ys left done out rest w fits cut is s = (
  rest,
  drop (length left) left,
  is ∙ ap (λ (l : List Event). l ++ rest) (take_all (length left) left (omega arith) ∙ sym cut),
  s,
)
shares wants reads name link row (next ∷ rows) ys left done out rest w fits cut is s =
    let end : ℕ = (after_row row).index in
    let mine : List Event = cut.0 in
    let more : List Event = cut.1 in
    let many : ℕ = suc (length rows) in
    let size : share many left end ≡ length mine = ap (prefix_len (belongs end)) cut.3
    ∙ belongs-cut end mine more cut.4 cut.5 in
    let before : take (share many left end) left ≡ mine = ap (λ (k : ℕ). take k left) size
    ∙ ap (take (length mine)) cut.3 ∙ take-append_seam mine more in
    let after : drop (share many left end) left ≡ more = ap (λ (k : ℕ). drop k left) size
    ∙ ap (drop (length mine)) cut.3 ∙ drop-append_seam mine more in
    let one : (over : List Event) × (is : rest ≡ next.front ++ over) ×
    Substituted wants reads more many (linked_lines name link next rows ++ ys) over =
    passes wants reads more many next.front (linked_lines name link next rows ++ ys) rest
    (prefixes-unwanted wants next.front fits.0)
    (subst
    (λ (l : List Event). Substituted wants reads l many (further_lines name link (next ∷ rows) ys) rest) after s) in
    let here : SubstitutedBy wants reads more many (enter_link name next.first link) (exit name (line_after next rows))
    (further_lines name link rows ys) one.0 (Some link.content) =
    subst
    (SubstitutedBy wants reads more many (enter_link name next.first link) (exit name (line_after next rows))
    (further_lines name link rows ys) one.0)
    (ap (λ (x : Bool). cond x (Some link.content) None) w)
    (subst (λ (l : List Event). Substituted wants reads more many l one.0) (lines-are name link next rows ys) one.2) in
    let below : Rest wants reads cut.2 ys one.0 = shares wants reads name link next rows ys more cut.2 one.0 here.0 w
    fits.1 cut.7 here.1 here.2 in (
      below.0,
      below.1,
      share-joins mine next.front cut.2 rest one.0 below.0 out done
          (is ∙ ap (λ (l : List Event). l ++ rest) before) one.1 below.2 cut.6,
      below.3,
    )

-- What is read of a part of lines is in their places.
pub places : (wants : Content → Bool) (reads : Readings) (left : List Event) (name : Name) (link : Link) (row : Row)
    (rows : List Row) (ys done out : List Event) →
    wants link.content ≡ true → chunks_after wants ys ≡ [] → EachPrefixed rows →
    ((answer : List Event) → reads link.content (chunks_of row rows) answer → CutAt row rows answer done) →
    Substituted wants reads left 0 (linked_lines name link row rows ++ ys) out → Rest wants reads done ys out
places wants reads left name link row rows ys done out w none fits cuts s =
    let chunk : Chunk = record { first = row.first; after = line_after row rows } in
    let rest : List Event = further_lines name link rows ys in
    let following : List Chunk = chunks_after wants rest in
    let here : SubstitutedBy wants reads left 0 (enter_link name row.first link)
    (exit name (line_after row rows)) rest out (Some link.content) =
    subst (SubstitutedBy wants reads left 0 (enter_link name row.first link) (exit name (line_after row rows)) rest out)
    (ap (λ (x : Bool). cond x (Some link.content) None) w)
    (subst (λ (l : List Event). Substituted wants reads left 0 l out) (lines-are name link row rows ys) s) in
    let chunks : following ≡ further_chunks rows = chunks-further wants name link rows ys w none fits in
    let size : length following ≡ length rows = ap length chunks ∙ chunks-many rows in
    let answer : List Event = here.0 in
    let read : reads link.content (chunks_of row rows) answer = subst (λ (l : List Chunk). reads link.content l answer)
    (ap (λ (l : List Chunk). chunk ∷ l) chunks ∙ sym (chunks-are row rows)) here.2 in
    shares wants reads name link row rows ys answer done out here.1 w fits (cuts answer read)
    (subst (λ (k : ℕ). out ≡ take (share k answer (line_after row rows).index) answer ++ here.1) size here.3)
    (subst
    (λ (k : ℕ).
    Substituted wants reads (drop (share k answer (line_after row rows).index) answer) k rest here.1) size here.4)

-- after the end of a block no more of its part is
pub following-exit : (wants : Content → Bool) (name : Name) (p : Point) (es : List Event) → is_prefix name ≡ false →
    chunks_after wants (exit name p ∷ es) ≡ []
following-exit wants name p [] h = refl
following-exit wants name p (e ∷ es) h = ap (λ (x : Bool). cond x (chunks_after wants (e ∷ es)) []) h
