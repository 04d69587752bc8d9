-- Once its text parts are read, a block list is still nested, and is at points of its text.
use Rattle.std.proofs.Common.{◌≡◌, ℕ, suc, Bool, true, false, cond, ◌&&◌, List, [], ◌∷◌, ◌++◌, length, refl, ap, sym}
use Rattle.std.proofs.Common.{◌∙◌, subst, append_assoc, arith}
use Rattle.std.specs.Prelude.{Option, Some, None, ◌==◌, not, IsTrue}
use Rattle.std.specs.List.{list_all}
use Rattle.std.proofs.lemmas.Bool.{and_parts, and_from, eqb-true, not-true}
use Rattle.md_engine.specs.declared.event.Point.{Point}
use Rattle.md_engine.specs.declared.event.Link.{Link}
use Rattle.md_engine.specs.declared.event.Event.{Event}
use Rattle.md_engine.specs.declared.event.Kind.{Kind}
use Rattle.md_engine.specs.declared.event.Kind.TheVariants.{Enter, Exit}
use Rattle.md_engine.specs.declared.event.Name.{Name}
use Rattle.md_events.specs.declared.inline.PartKind.{PartKind}
use Rattle.md_events.specs.declared.inline.Chunk.{Chunk}
use Rattle.md_events.specs.Events.Places.{first_point, is_placed, are_placed, at_or_before}
use Rattle.md_events.specs.Events.Nested.{open_following, open_after, Fits, Matches, Forward, last_point, Balanced}
use Rattle.md_events.specs.Events.Nested.{Nested, is_exit}
use Rattle.md_events.specs.Events.Inline.{Part, IsPart, KeepsFrame, Fills, is_linked, together, piece_of, pieces_from}
use Rattle.md_events.specs.Events.Inline.{pieces}
use Rattle.md_events.specs.Events.Tiles.{may_be_in_part, is_data, is_part, is_chunk, depth_following, chunks_in_parts}
use Rattle.md_events.specs.Events.Tiles.{first_list, further_lists, filled_from, parts, part_kind, part_of, part_at}
use Rattle.md_events.specs.Events.Tiles.{inside_part, chunks, EachRead, Tiles}
use Rattle.md_events.proofs.NestedLemmas.{open_after-append, matches-append, matches-front, matches-rest, matches-under}
use Rattle.md_events.proofs.NestedLemmas.{open_after-under, forward-append, forward-from, at_or_before-trans}
use Rattle.md_events.proofs.PlacesLemmas.{all-append}
use Rattle.md_events.proofs.FilledLemmas.{data-no_part}
use Rattle.md_events.proofs.PartsLemmas.{EachPart, parts-are}

-- Chunks and parts, event by event.

pub chunks-unlinked : (e : Event) (es : List Event) → is_linked e ≡ false → chunks (pieces (e ∷ es)) ≡
    chunks (pieces es)
chunks-unlinked e [] h = refl
chunks-unlinked e (f ∷ es) h = go e.kind f.kind
  where
    go : (k l : Kind) → chunks (piece_of e f k l ++ pieces_from f es) ≡ chunks (pieces_from f es)
    go Enter Exit =
        ap
        (λ (x : Bool).
        cond x ((record { first = e.point; after = f.point }) ∷ chunks (pieces_from f es)) (chunks (pieces_from f es)))
        h
    go Enter Enter = refl
    go Exit Enter = refl
    go Exit Exit = refl

chunks-exit : (name : Name) (p : Point) (link : Option Link) (es : List Event) →
    chunks (pieces ((record { kind = Exit; name = name; point = p; link = link }) ∷ es)) ≡ chunks (pieces es)
chunks-exit name p link [] = refl
chunks-exit name p link (f ∷ es) = refl

pub part-none : (kind : Kind) (name : Name) (es : List Event) → is_part name ≡ false →
    part_at kind (part_kind name) es ≡ []
part-none kind name es h = go kind (part_kind name) h
  where
    go : (kind : Kind) (x : Option PartKind) → (elim x [ None ↦ false | Some k ↦ true ]) ≡ false →
        part_at kind x es ≡ []
    go Enter None h = refl
    go Exit None h = refl
    go kind (Some k) h = cc

-- The lists for the parts that are to come.
abbrev pub EachFills : List Part → List (List (List Event)) → Type 0
EachFills [] [] = Unit {0}
EachFills (part ∷ parts) (lists ∷ rest) = Fills part.chunks lists × Balanced (together lists) × EachFills parts rest
EachFills [] (lists ∷ rest) = ⊥
EachFills (part ∷ parts) [] = ⊥

-- From these open names, some events do what others do from those, and never go back where those do not.
abbrev Does : List Name → List Event → List Name → List Event → Type 0
Does M fs N es = Matches M fs × (open_after M fs ≡ open_after N es) × ((p : Point) → Forward p es → Forward p fs)

abbrev Outside : List Event → Type 0
Outside es =
    (N : List Name) (gs : List (List (List Event))) → chunks_in_parts 0 es ≡ true → EachFills (parts es) gs →
    Matches N es → Does N (filled_from false es (together gs)) N es

-- `D` is open inside the part, and `X` was left open by what is in the places of its chunks so far; `G` is still to
-- come
abbrev Inside : List Event → Type 0
Inside es =
    (D X : List Name) (part : Name) (N : List Name) (G : List (List Event)) (gs : List (List (List Event))) →
    chunks_in_parts (suc (length D)) es ≡ true → is_part part ≡ true →
    Fills (chunks (pieces (inside_part es))) G → Matches X (together G) → open_after X (together G) ≡ [] →
    EachFills (parts es) gs → Matches (D ++ (part ∷ N)) es →
    Does (D ++ (X ++ (part ∷ N))) (filled_from false es (G ++ together gs)) (D ++ (part ∷ N)) es

pub no_lists : (G : List (List Event)) → Fills [] G → G ≡ []
no_lists [] h = refl
no_lists (events ∷ G) h = absurd h

inside-end : Inside []
inside-end D X part N G gs valid is fills m closed each k =
    let none : G ≡ [] = no_lists G fills in
    let gone : X ≡ [] = subst (λ (G : List (List Event)). open_after X (together G) ≡ []) none closed in
    (tt, ap (λ (X : List Name). D ++ (X ++ (part ∷ N))) gone, λ p f. tt)

-- an event with no link, with what follows
does-next : (M N : List Name) (e : Event) (es : List Event) (lists : List (List Event)) → is_linked e ≡ false →
    Fits M e.kind e.name →
    Does (open_following M e.kind e.name) (filled_from false es lists) (open_following N e.kind e.name) es →
    Does M (filled_from false (e ∷ es) lists) N (e ∷ es)
does-next M N e es lists unlinked fits does =
    subst
    (λ (x : Bool).
    Does M
    (cond x (first_list lists ++ filled_from true es (further_lists lists)) (e ∷ filled_from false es lists)) N
    (e ∷ es))
    (sym unlinked) ((fits, does.0), does.1, λ p f. (f.0, does.2 e.point f.1))

-- the end of a part
inside-part_ends : (kind : Kind) (name : Name) (p : Point) (link : Option Link) (es : List Event) (D X : List Name)
    (part : Name) (N : List Name) (G : List (List Event)) (gs : List (List (List Event))) →
    Outside es →
    let e : Event = record { kind = kind; name = name; point = p; link = link } in
    is_part name ≡ true → is_exit kind ≡ true → length D ≡ 0 → is_linked e ≡ false → chunks_in_parts 0 es ≡ true →
    Fills (chunks (pieces (inside_part (e ∷ es)))) G → open_after X (together G) ≡ [] → EachFills (parts (e ∷ es)) gs →
    Matches (D ++ (part ∷ N)) (e ∷ es) →
    Does (D ++ (X ++ (part ∷ N))) (filled_from false (e ∷ es) (G ++ together gs)) (D ++ (part ∷ N)) (e ∷ es)
inside-part_ends Enter name p link es D X part N G gs outside is ends flat unlinked valid fills closed each m = cc
inside-part_ends Exit name p link es (d ∷ D) X part N G gs outside is ends flat unlinked valid fills closed each m =
    absurd (omega arith)
inside-part_ends Exit name p link es [] X part N G gs outside is ends flat unlinked valid fills closed each m =
    let e : Event = record { kind = Exit; name = name; point = p; link = link } in
    let none : G ≡
    [] = no_lists G
    (subst (λ (x : Bool). Fills (chunks (pieces (cond (x && true) [] (e ∷ inside_part es)))) G) is fills) in
    let gone : X ≡ [] = subst (λ (G : List (List Event)). open_after X (together G) ≡ []) none closed in
    subst
    (λ (X : List Name). Does (X ++ (part ∷ N)) (filled_from false (e ∷ es) (G ++ together gs)) (part ∷ N) (e ∷ es))
    (sym gone)
    (subst (λ (G : List (List Event)). Does (part ∷ N) (filled_from false (e ∷ es) (G ++ together gs)) (part ∷ N)
    (e ∷ es)) (sym none)
    (does-next (part ∷ N) (part ∷ N) e es (together gs) unlinked m.0 (outside N gs valid each m.1)))

-- a prefix, or an event inside of one
inside-other : (kind : Kind) (name : Name) (p : Point) (link : Option Link) (es : List Event) (D X : List Name)
    (part : Name) (N : List Name) (G : List (List Event)) (gs : List (List (List Event))) →
    Inside es →
    let e : Event = record { kind = kind; name = name; point = p; link = link } in
    is_part name ≡ false → is_linked e ≡ false → chunks_in_parts (depth_following kind (suc (length D))) es ≡ true →
    is_part part ≡ true →
    Fills (chunks (pieces (inside_part es))) G → Matches X (together G) → open_after X (together G) ≡ [] →
    EachFills (parts es) gs → Matches (D ++ (part ∷ N)) (e ∷ es) →
    Does (D ++ (X ++ (part ∷ N))) (filled_from false (e ∷ es) (G ++ together gs)) (D ++ (part ∷ N)) (e ∷ es)
inside-other Enter name p link es D X part N G gs inside other unlinked valid is fills m closed each k =
    does-next (D ++ (X ++ (part ∷ N))) (D ++ (part ∷ N))
    (record { kind = Enter; name = name; point = p; link = link }) es (G ++ together gs) unlinked tt
    (inside (name ∷ D) X part N G gs valid is fills m closed each k.1)
inside-other Exit name p link es (d ∷ D) X part N G gs inside other unlinked valid is fills m closed each k =
    does-next ((d ∷ D) ++ (X ++ (part ∷ N))) ((d ∷ D) ++ (part ∷ N))
    (record { kind = Exit; name = name; point = p; link = link }) es (G ++ together gs) unlinked k.0
    (inside D X part N G gs valid is fills m closed each k.1)
inside-other Exit name p link es [] X part N G gs inside other unlinked valid is fills m closed each k =
    let same : is_part part ≡ is_part name = ap is_part k.0 in cc

last-from : (o p q : Point) (es : List Event) → IsTrue (at_or_before o q) → IsTrue (at_or_before (last_point p es) q) →
    IsTrue (at_or_before (last_point o es) q)
last-from o p q [] h k = h
last-from o p q (e ∷ es) h k = k

-- a chunk
inside-chunk : (name other : Name) (p q : Point) (link back : Option Link) (es : List Event) (X : List Name)
    (part : Name) (N : List Name) (G : List (List Event)) (gs : List (List (List Event))) →
    Inside es →
    let e : Event = record { kind = Enter; name = name; point = p; link = link } in
    let f : Event = record { kind = Exit; name = other; point = q; link = back } in
    is_data other ≡ true → is_linked e ≡ true → chunks_in_parts 2 (f ∷ es) ≡ true → is_part part ≡ true →
    Fills (chunks (pieces (e ∷ inside_part (f ∷ es)))) G → Matches X (together G) → open_after X (together G) ≡ [] →
    EachFills (parts (f ∷ es)) gs → Matches (part ∷ N) (e ∷ f ∷ es) →
    Does (X ++ (part ∷ N)) (filled_from false (e ∷ f ∷ es) (G ++ together gs)) (part ∷ N) (e ∷ f ∷ es)
inside-chunk name other p q link back es X part N G gs inside ends linked valid is fills m closed each k =
    go G
    (subst (λ (x : Bool). Fills
    (cond x ((record { first = p; after = q }) ∷ chunks (pieces_from f (inside_part es)))
    (chunks (pieces_from f (inside_part es)))) G) linked
    (subst (λ (x : Bool). Fills (chunks (pieces (e ∷ cond (x && true) [] (f ∷ inside_part es)))) G) outside fills))
    m closed
  where
    e : Event
    e = record { kind = Enter; name = name; point = p; link = link }

    f : Event
    f = record { kind = Exit; name = other; point = q; link = back }

    outside : is_part other ≡ false
    outside = data-no_part other ends

    on : chunks_in_parts 1 es ≡ true
    on = (and_parts (cond (is_linked f) ((1 == 0) && is_chunk f es) (may_be_in_part Exit other)) (chunks_in_parts 1 es)
        (subst (λ (x : Bool). cond x (true && (1 == 0) && not (is_linked f) && chunks_in_parts 0 es)
        (cond (is_linked f) ((1 == 0) && is_chunk f es) (may_be_in_part Exit other) && chunks_in_parts 1 es) ≡ true)
        outside valid)).1

    go : (G : List (List Event)) →
        Fills ((record { first = p; after = q }) ∷ chunks (pieces_from f (inside_part es))) G → Matches X (together G) →
        open_after X (together G) ≡ [] →
        Does (X ++ (part ∷ N)) (filled_from false (e ∷ f ∷ es) (G ++ together gs)) (part ∷ N) (e ∷ f ∷ es)
    go [] fills m closed = absurd fills
    go (events ∷ G) fills m closed =
        let next : Does (open_after X events ++ (part ∷ N)) (filled_from false es (G ++ together gs)) (part ∷ N) es =
        inside [] (open_after X events) part N G gs on is
        (subst (λ (l : List Chunk). Fills l G) (chunks-exit other q back (inside_part es)) fills.3)
        (matches-rest X events (together G) m)
        (sym (open_after-append X events (together G)) ∙ closed) each k.1.1 in
        let under : open_after (X ++ (part ∷ N)) events ≡
        open_after X events
        ++ (part ∷ N) = open_after-under X (part ∷ N) events (matches-front X events (together G) m) in
        let rest : Does (open_after (X ++ (part ∷ N)) events) (filled_from false es (G ++ together gs)) (part ∷ N) es =
        subst (λ (M : List Name). Does M (filled_from false es (G ++ together gs)) (part ∷ N) es) (sym under) next in
        subst
        (λ (x : Bool).
        Does (X ++ (part ∷ N))
        (cond x (events ++ filled_from true (f ∷ es) (G ++ together gs))
        (e ∷ filled_from false (f ∷ es) ((events ∷ G) ++ together gs)))
        (part ∷ N) (e ∷ f ∷ es))
        (sym linked) (
          matches-append (X ++ (part ∷ N)) events (filled_from false es (G ++ together gs))
              (matches-under X (part ∷ N) events (matches-front X events (together G) m)) rest.0,
          open_after-append (X ++ (part ∷ N)) events (filled_from false es (G ++ together gs)) ∙ rest.1,
          λ o h. forward-append o events (filled_from false es (G ++ together gs)) (forward-from o p events h.0 fills.0)
              (forward-from (last_point o events) q (filled_from false es (G ++ together gs))
              (last-from o p q events (at_or_before-trans o p q h.0 h.1.0) fills.1) (rest.2 q h.1.1)),
        )

abbrev InsideFollowing : List Event → Type 0
InsideFollowing [] = Unit {0}
InsideFollowing (f ∷ es) = Inside es

inside-linked : (kind : Kind) (name : Name) (p : Point) (link : Option Link) (es : List Event) (D X : List Name)
    (part : Name) (N : List Name) (G : List (List Event)) (gs : List (List (List Event))) →
    InsideFollowing es →
    let e : Event = record { kind = kind; name = name; point = p; link = link } in
    length D ≡ 0 → is_chunk e es ≡ true → is_linked e ≡ true →
    chunks_in_parts (depth_following kind (suc (length D))) es ≡ true → is_part part ≡ true →
    Fills (chunks (pieces (e ∷ inside_part es))) G → Matches X (together G) → open_after X (together G) ≡ [] →
    EachFills (parts es) gs → Matches (D ++ (part ∷ N)) (e ∷ es) →
    Does (D ++ (X ++ (part ∷ N))) (filled_from false (e ∷ es) (G ++ together gs)) (D ++ (part ∷ N)) (e ∷ es)
inside-linked kind name p link es (d ∷ D) X part N G gs inside flat chunk linked valid is fills m closed each k =
    absurd (omega arith)
inside-linked kind name p link [] [] X part N G gs inside flat chunk linked valid is fills m closed each k = cc
inside-linked kind name p link (f ∷ es) [] X part N G gs inside flat chunk linked valid is fills m closed each k =
    go kind f.kind chunk valid fills each k
  where
    go : (kind back : Kind) →
        let e : Event = record { kind = kind; name = name; point = p; link = link } in
        let g : Event = record { kind = back; name = f.name; point = f.point; link = f.link } in
        is_chunk e (g ∷ es) ≡ true → chunks_in_parts (depth_following kind 1) (g ∷ es) ≡ true →
        Fills (chunks (pieces (e ∷ inside_part (g ∷ es)))) G → EachFills (parts (g ∷ es)) gs →
        Matches (part ∷ N) (e ∷ g ∷ es) →
        Does (X ++ (part ∷ N)) (filled_from false (e ∷ g ∷ es) (G ++ together gs)) (part ∷ N) (e ∷ g ∷ es)
    go Enter Exit chunk valid fills each k =
        inside-chunk name f.name p f.point link f.link es X part N G gs inside
        (and_parts (is_data name && true) (is_data f.name) chunk).1 linked valid is fills m closed each k
    go Enter Enter chunk valid fills each k =
        cc ((and_parts (is_data name) false (and_parts (is_data name && false) (is_data f.name) chunk).0).1)
    go Exit back chunk valid fills each k = cc

inside-step : (kind : Kind) (name : Name) (p : Point) (link : Option Link) (es : List Event) → Outside es → Inside es →
    InsideFollowing es → Inside ((record { kind = kind; name = name; point = p; link = link }) ∷ es)
inside-step kind name p link es outside inside following D X part N G gs valid is fills m closed each k =
    go (is_part name) refl valid
  where
    e : Event
    e = record { kind = kind; name = name; point = p; link = link }

    go : (x : Bool) → is_part name ≡ x →
        cond x (is_exit kind && (length D == 0) && not (is_linked e) && chunks_in_parts 0 es)
        (cond (is_linked e) ((length D == 0) && is_chunk e es) (may_be_in_part kind name)
        && chunks_in_parts (depth_following kind (suc (length D))) es) ≡
        true →
        Does (D ++ (X ++ (part ∷ N))) (filled_from false (e ∷ es) (G ++ together gs)) (D ++ (part ∷ N)) (e ∷ es)
    go true at h =
        let outer : (is_exit kind && (length D == 0) && not (is_linked e) ≡ true) ×
        (chunks_in_parts 0 es ≡ true) = and_parts (is_exit kind && (length D == 0) && not (is_linked e))
        (chunks_in_parts 0 es) h in
        let middle : (is_exit kind && (length D == 0) ≡ true) ×
        (not (is_linked e) ≡ true) = and_parts (is_exit kind && (length D == 0)) (not (is_linked e)) outer.0 in
        let inner : (is_exit kind ≡ true) ×
        ((length D == 0) ≡ true) = and_parts (is_exit kind) (length D == 0) middle.0 in
        inside-part_ends kind name p link es D X part N G gs outside at inner.0 (eqb-true (length D) 0 inner.1)
        (not-true (is_linked e) middle.1) outer.1 fills closed each k
    go false at h =
        let outer : (cond (is_linked e) ((length D == 0) && is_chunk e es) (may_be_in_part kind name) ≡ true) ×
        (chunks_in_parts (depth_following kind (suc (length D))) es ≡ true) =
        and_parts (cond (is_linked e) ((length D == 0) && is_chunk e es) (may_be_in_part kind name))
        (chunks_in_parts (depth_following kind (suc (length D))) es) h in
        by (is_linked e) refl outer.0 outer.1
        (subst (λ (x : Bool). Fills (chunks (pieces (cond (x && is_exit kind) [] (e ∷ inside_part es)))) G) at fills)
        (subst (λ (l : List Part). EachFills (l ++ parts es) gs) (part-none kind name es at) each)
      where
        by : (y : Bool) → is_linked e ≡ y →
            cond y ((length D == 0) && is_chunk e es) (may_be_in_part kind name) ≡ true →
            chunks_in_parts (depth_following kind (suc (length D))) es ≡ true →
            Fills (chunks (pieces (e ∷ inside_part es))) G → EachFills (parts es) gs →
            Does (D ++ (X ++ (part ∷ N))) (filled_from false (e ∷ es) (G ++ together gs)) (D ++ (part ∷ N)) (e ∷ es)
        by false unlinked valid on fills each =
            inside-other kind name p link es D X part N G gs inside at unlinked on is
            (subst (λ (l : List Chunk). Fills l G) (chunks-unlinked e (inside_part es) unlinked) fills) m closed each k
        by true linked chunk on fills each =
            let parts : ((length D == 0) ≡ true) ×
            (is_chunk e es ≡ true) = and_parts (length D == 0) (is_chunk e es) chunk in
            inside-linked kind name p link es D X part N G gs following
            (eqb-true (length D) 0 parts.0) parts.1 linked on is fills m closed each k

-- a part begins
outside-part : (name : Name) (p : Point) (link : Option Link) (es : List Event) (N : List Name)
    (gs : List (List (List Event))) →
    Inside es → is_part name ≡ true → (kind : PartKind) (list : List Chunk) → chunks (pieces (inside_part es)) ≡ list →
    chunks_in_parts 1 es ≡ true → EachFills (part_of kind list ++ parts es) gs → Matches (name ∷ N) es →
    Does (name ∷ N) (filled_from false es (together gs)) (name ∷ N) es
outside-part name p link es N gs inside is kind [] none valid each k =
    inside [] [] name N [] gs valid is (subst (λ (l : List Chunk). Fills l []) (sym none) tt) tt refl each k
outside-part name p link es N [] inside is kind (chunk ∷ list) some valid each k = absurd each
outside-part name p link es N (g ∷ gs) inside is kind (chunk ∷ list) some valid each k =
    let does : Does (name ∷ N) (filled_from false es (g ++ together gs))
    (name ∷ N) es = inside [] [] name N g gs valid is
    (subst (λ (l : List Chunk). Fills l g) (sym some) each.0) each.1.matches each.1.closed each.2 k in
    does

outside-step : (kind : Kind) (name : Name) (p : Point) (link : Option Link) (es : List Event) → Outside es → Inside es →
    Outside ((record { kind = kind; name = name; point = p; link = link }) ∷ es)
outside-step kind name p link es outside inside N gs valid each k =
    let parts : (not (is_linked e) ≡ true) ×
    (chunks_in_parts (cond (is_part name && not (is_exit kind)) 1 0) es ≡ true) = and_parts (not (is_linked e))
    (chunks_in_parts (cond (is_part name && not (is_exit kind)) 1 0) es) valid in
    does-next N N e es (together gs) (not-true (is_linked e) parts.0) k.0 (go kind (is_part name) refl parts.1 each k.1)
  where
    e : Event
    e = record { kind = kind; name = name; point = p; link = link }

    at : (x : Option PartKind) → (elim x [ None ↦ false | Some k ↦ true ]) ≡ true → chunks_in_parts 1 es ≡ true →
        EachFills (part_at Enter x es ++ parts es) gs → is_part name ≡ true → Matches (name ∷ N) es →
        Does (name ∷ N) (filled_from false es (together gs)) (name ∷ N) es
    at None h valid each is k = cc
    at (Some kind) h valid each is k =
        outside-part name p link es N gs inside is kind (chunks (pieces (inside_part es))) refl valid each k

    go : (kind : Kind) (x : Bool) → is_part name ≡ x → chunks_in_parts (cond (x && not (is_exit kind)) 1 0) es ≡ true →
        EachFills (part_at kind (part_kind name) es ++ parts es) gs → Matches (open_following N kind name) es →
        Does (open_following N kind name) (filled_from false es (together gs)) (open_following N kind name) es
    go Enter true is valid each k = at (part_kind name) is valid each is k
    go Enter false is valid each k =
        outside (name ∷ N) gs valid
        (subst (λ (l : List Part). EachFills (l ++ parts es) gs) (part-none Enter name es is) each) k
    go Exit true is valid each k = outside (open_following N Exit name) gs valid each k
    go Exit false is valid each k = outside (open_following N Exit name) gs valid each k

does-all : (es : List Event) → (outside : Outside es) × (inside : Inside es) × InsideFollowing es
does-all [] = ((λ N gs valid each k. (tt, refl, λ p f. tt)), inside-end, tt)
does-all (e ∷ es) =
    let all : (outside : Outside es) × (inside : Inside es) × InsideFollowing es = does-all es in (
      outside-step e.kind e.name e.point e.link es all.0 all.1,
      inside-step e.kind e.name e.point e.link es all.0 all.1 all.2,
      all.1,
    )

pub fills-read : (bytes : List ℕ) (reads : Part → List Event → Type 0) → KeepsFrame bytes reads →
    (parts : List Part) (lists : List (List (List Event))) → EachPart (IsPart bytes) parts →
    EachRead reads parts lists → EachFills parts lists
fills-read bytes reads frame [] [] are each = tt
fills-read bytes reads frame [] (l ∷ lists) are each = absurd each
fills-read bytes reads frame (part ∷ parts) [] are each = absurd each
fills-read bytes reads frame (part ∷ parts) (l ∷ lists) are each =
    (each.0, (frame part (together l) are.0 each.1).balanced, fills-read bytes reads frame parts lists are.1 each.2)

-- A list that tiles is nested, whatever the layer.
pub tiles-nested : (bytes : List ℕ) (reads : Part → List Event → Type 0) (events : List Event) →
    KeepsFrame bytes reads → Tiles reads bytes events → Nested events
tiles-nested bytes reads events frame tiles =
    let nested : Nested tiles.blocks = tiles.block_list.nested in
    let does : Does [] (filled_from false tiles.blocks (together tiles.lists)) [] tiles.blocks =
    (does-all tiles.blocks).0 [] tiles.lists tiles.block_list.chunks
    (fills-read bytes reads frame (parts tiles.blocks) tiles.lists
    (parts-are bytes tiles.blocks tiles.block_list) tiles.each) nested.balanced.matches in
    subst Nested (sym tiles.read)
    (record {
      balanced = record { matches = does.0; closed = does.1 ∙ nested.balanced.closed };
      forward = does.2 first_point nested.forward;
    })

-- Points.

all-parts : (test : Event → Bool) (xs ys : List Event) → list_all test (xs ++ ys) ≡ true →
    (list_all test xs ≡ true) × (list_all test ys ≡ true)
all-parts test [] ys h = (refl, h)
all-parts test (e ∷ xs) ys h =
    let parts : (test e ≡ true) × (list_all test (xs ++ ys) ≡ true) = and_parts (test e) (list_all test (xs ++ ys)) h in
    let rest : (list_all test xs ≡ true) × (list_all test ys ≡ true) = all-parts test xs ys parts.1 in
    (and_from (test e) (list_all test xs) parts.0 rest.0, rest.1)

first-all : (test : Event → Bool) (lists : List (List Event)) → list_all test (together lists) ≡ true →
    (list_all test (first_list lists) ≡ true) × (list_all test (together (further_lists lists)) ≡ true)
first-all test [] h = (refl, refl)
first-all test (events ∷ lists) h = all-parts test events (together lists) h

-- what holds of each event of a block list and of what is in its chunks' places
all-filled : (test : Event → Bool) (inside : Bool) (es : List Event) (lists : List (List Event)) →
    list_all test es ≡ true → list_all test (together lists) ≡ true → list_all test (filled_from inside es lists) ≡ true
all-filled test inside [] lists h k = refl
all-filled test true (e ∷ es) lists h k = all-filled test false es lists (and_parts (test e) (list_all test es) h).1 k
all-filled test false (e ∷ es) lists h k =
    let parts : (test e ≡ true) × (list_all test es ≡ true) = and_parts (test e) (list_all test es) h in
    let front : (list_all test (first_list lists) ≡ true) ×
    (list_all test (together (further_lists lists)) ≡ true) = first-all test lists k in
    go (is_linked e) parts.0 (all-filled test false es lists parts.1 k) front.0
    (all-filled test true es (further_lists lists) parts.1 front.1)
  where
    go : (x : Bool) → test e ≡ true → list_all test (filled_from false es lists) ≡ true →
        list_all test (first_list lists) ≡ true → list_all test (filled_from true es (further_lists lists)) ≡ true →
        list_all test
        (cond x (first_list lists ++ filled_from true es (further_lists lists)) (e ∷ filled_from false es lists)) ≡
        true
    go true one rest first further =
        all-append test (first_list lists) (filled_from true es (further_lists lists)) first further
    go false one rest first further = and_from (test e) (list_all test (filled_from false es lists)) one rest

pub together-append : {A : Type 0} → (xs ys : List (List A)) → together (xs ++ ys) ≡ together xs ++ together ys
together-append [] ys = refl
together-append {A} (l ∷ xs) ys =
    ap (λ (rest : List A). l ++ rest) (together-append xs ys) ∙ sym (append_assoc l (together xs) (together ys))

placed-read : (bytes : List ℕ) (reads : Part → List Event → Type 0) → KeepsFrame bytes reads →
    (parts : List Part) (lists : List (List (List Event))) → EachPart (IsPart bytes) parts →
    EachRead reads parts lists → are_placed bytes (together (together lists)) ≡ true
placed-read bytes reads frame [] [] are each = refl
placed-read bytes reads frame [] (l ∷ lists) are each = absurd each
placed-read bytes reads frame (part ∷ parts) [] are each = absurd each
placed-read bytes reads frame (part ∷ parts) (l ∷ lists) are each =
    subst (λ (es : List Event). are_placed bytes es ≡ true) (sym (together-append l (together lists)))
    (all-append (λ (e : Event). is_placed bytes e.point) (together l) (together (together lists))
    (frame part (together l) are.0 each.1).placed (placed-read bytes reads frame parts lists are.1 each.2))

-- The events of a list that tiles are at points of the text, whatever the layer.
pub tiles-placed : (bytes : List ℕ) (reads : Part → List Event → Type 0) (events : List Event) →
    KeepsFrame bytes reads → Tiles reads bytes events → are_placed bytes events ≡ true
tiles-placed bytes reads events frame tiles =
    subst (λ (es : List Event). are_placed bytes es ≡ true) (sym tiles.read)
    (all-filled (λ (e : Event). is_placed bytes e.point) false tiles.blocks (together tiles.lists)
    tiles.block_list.placed
    (placed-read bytes reads frame (parts tiles.blocks) tiles.lists
    (parts-are bytes tiles.blocks tiles.block_list) tiles.each))
