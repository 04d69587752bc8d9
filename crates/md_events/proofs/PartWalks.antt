-- A block list, part by part: which of its events begin a text part that is read, which continue one, and which stay.
--
-- A text part is in a block list as its chunks, one a line, with container prefixes between them. What a layer is asked
-- for, and what is in the places of the chunks once it has answered, is said event by event along this walk.
use Rattle.std.proofs.Common.{◌≡◌, ℕ, suc, Bool, true, false, cond, ◌&&◌, List, [], ◌∷◌, ◌++◌, length, refl, ap, sym}
use Rattle.std.proofs.Common.{◌∙◌, subst, arith}
use Rattle.std.specs.Prelude.{Option, Some, None, ◌==◌, not}
use Rattle.std.specs.Option.{is_some}
use Rattle.std.specs.List.{list_all}
use Rattle.std.proofs.lemmas.Bool.{and_parts, and_from, eqb-true, not-true}
use Rattle.md_engine.specs.declared.event.Content.{Content}
use Rattle.md_engine.specs.declared.event.Content.TheVariants as c
use Rattle.md_engine.specs.declared.event.Point.{Point}
use Rattle.md_engine.specs.declared.event.Link.{Link}
use Rattle.md_engine.specs.declared.event.Event.{Event}
use Rattle.md_engine.specs.declared.event.Kind.{Kind}
use Rattle.md_engine.specs.declared.event.Kind.TheVariants.{Enter, Exit}
use Rattle.md_engine.specs.declared.event.Name.{Name}
use Rattle.md_engine.specs.declared.event.Name.TheVariants as n
use Rattle.md_events.specs.declared.inline.PartKind.{PartKind}
use Rattle.md_events.specs.declared.inline.PartKind.TheVariants as k
use Rattle.md_events.specs.declared.inline.Chunk.{Chunk}
use Rattle.md_events.specs.Substituted.{chunk_of, chunks_after, wanted, wanted_at}
use Rattle.md_events.specs.TextPart.{wants_text, text_kind}
use Rattle.md_events.specs.Events.Nested.{open_following, Fits, Matches, is_exit}
use Rattle.md_events.specs.Events.Prefix.{is_prefix}
use Rattle.md_events.specs.Events.Inline.{Part, is_linked, are_lines, piece_of, pieces_from, pieces}
use Rattle.md_events.specs.Events.Tiles.{IsBlockList, may_be_in_part, is_data, is_part, is_chunk, depth_following}
use Rattle.md_events.specs.Events.Tiles.{chunks_in_parts, parts, part_kind, part_of, part_at, part_end, is_whole_part}
use Rattle.md_events.specs.Events.Tiles.{are_whole_parts, inside_part, begins_at, is_white_piece, of_kind, links_kind}
use Rattle.md_events.specs.Events.Tiles.{chunks}
use Rattle.md_events.proofs.FilledLemmas.{chunk-parts, data-no_part}
use Rattle.md_events.proofs.NestsLemmas.{chunks-unlinked, part-none}

-- Events.

-- whether the first of some events ends something, or has a link
abbrev pub starts_exit : List Event → Bool
starts_exit [] = false
starts_exit (e ∷ es) = is_exit e.kind

abbrev pub starts_linked : List Event → Bool
starts_linked [] = false
starts_linked (e ∷ es) = is_linked e

-- Two events that are a chunk of this content. Where what follows ends something, it is the part, of which no chunks
-- are left.
pub record IsLinkedChunk (e f : Event) (es : List Event) (left : List Chunk) (held : Content) : Type 0 where
  pub enters : e.kind ≡ Enter
  pub exits : f.kind ≡ Exit
  pub linked : is_linked e ≡ true
  pub holds : wanted wants_text e ≡ Some held
  pub last : starts_exit es ≡ true → left ≡ []

-- Events from a place of a block list on: the chunks that are left there of a part that has begun, and the parts whose
-- first chunk is still to come.
pub data Walk : List Chunk → List Event → List Part → Type 0 where
  Ends : Walk [] [] []
  -- an event that is no chunk; where a chunk is right inside of what it begins, that is the first of its part
  Stays : {e : Event} {es : List Event} {left : List Chunk} {parts : List Part} → is_linked e ≡ false →
      (e.kind ≡ Enter → starts_linked es ≡ true → left ≡ []) → Walk left es parts → Walk left (e ∷ es) parts
  -- the first chunk of a part, the others of which are those that continue it after prefixes
  Begins : {e f : Event} {es : List Event} {left : List Chunk} {parts : List Part} {held : Content} →
      IsLinkedChunk e f es left held → chunks_after wants_text es ≡ left → Walk left es parts →
      Walk [] (e ∷ f ∷ es) ((record { kind = text_kind held; chunks = chunk_of e f ∷ left }) ∷ parts)
  -- a further chunk
  IsContinued : {e f : Event} {es : List Event} {left : List Chunk} {parts : List Part} {held : Content} →
      IsLinkedChunk e f es left held → Walk left es parts → Walk (chunk_of e f ∷ left) (e ∷ f ∷ es) parts

-- Links.

-- what is not linked is not wanted
pub unlinked-unwanted : (wants : Content → Bool) (e : Event) → is_linked e ≡ false → wanted wants e ≡ None
unlinked-unwanted wants e h = go e.kind e.link h
  where
    go : (kind : Kind) (link : Option Link) → (elim link [ None ↦ false | Some l ↦ true ]) ≡ false →
        wanted_at wants kind link ≡ None
    go Enter None h = refl
    go Exit None h = refl
    go kind (Some l) h = cc

kind-wanted : (kind : PartKind) (held : Content) → of_kind kind held ≡ true →
    (wants_text held ≡ true) × (text_kind held ≡ kind)
kind-wanted k.Text c.Text h = (refl, refl)
kind-wanted k.String c.String h = (refl, refl)
kind-wanted _ _ h = cc

-- the enter of a chunk of a part is wanted, as what the part may hold
linked-wanted : (kind : PartKind) (e : Event) → e.kind ≡ Enter → is_linked e ≡ true → links_kind kind e ≡ true →
    (held : Content) × (wanted wants_text e ≡ Some held) × (text_kind held ≡ kind)
linked-wanted kind e enters linked links = go e.kind e.link enters linked links
  where
    go : (at : Kind) (link : Option Link) → at ≡ Enter → (elim link [ None ↦ false | Some l ↦ true ]) ≡ true →
        (elim link [ None ↦ true | Some l ↦ of_kind kind l.content ]) ≡ true →
        (held : Content) × (wanted_at wants_text at link ≡ Some held) × (text_kind held ≡ kind)
    go Enter None enters linked links = cc
    go Exit link enters linked links = cc
    go Enter (Some l) enters linked links =
        let is : (wants_text l.content ≡ true) × (text_kind l.content ≡ kind) = kind-wanted kind l.content links in
        (l.content, ap (λ (x : Bool). cond x (Some l.content) None) is.0, is.1)

part-no_prefix : (name : Name) → is_part name ≡ true → is_prefix name ≡ false
part-no_prefix n.SpaceOrTab h = cc
part-no_prefix n.BlockQuotePrefix h = cc
part-no_prefix n.BlockQuoteMarker h = cc
part-no_prefix _ h = refl

-- Chunks.

chunks-after_exit : (f : Event) (es : List Event) → f.kind ≡ Exit → chunks (pieces (f ∷ es)) ≡ chunks (pieces es)
chunks-after_exit f [] exits = refl
chunks-after_exit f (g ∷ es) exits =
    ap (λ (kind : Kind). chunks (piece_of f g kind g.kind ++ pieces_from g es)) exits

chunks-linked : (e f : Event) (es : List Event) → e.kind ≡ Enter → f.kind ≡ Exit → is_linked e ≡ true →
    chunks (pieces (e ∷ f ∷ es)) ≡ chunk_of e f ∷ chunks (pieces es)
chunks-linked e f es enters exits linked =
    ap (λ (kind : Kind). chunks (piece_of e f kind f.kind ++ pieces_from f es)) enters
    ∙ ap (λ (kind : Kind). chunks (piece_of e f Enter kind ++ pieces_from f es)) exits
    ∙ ap (λ (x : Bool). cond x (chunk_of e f ∷ chunks (pieces_from f es)) (chunks (pieces_from f es))) linked
    ∙ ap (λ (list : List Chunk). chunk_of e f ∷ list) (chunks-after_exit f es exits)

-- the chunks that continue a part
following-none : (e : Event) (es : List Event) → is_linked e ≡ false → is_prefix e.name ≡ false →
    chunks_after wants_text (e ∷ es) ≡ []
following-none e [] unlinked other = refl
following-none e (f ∷ es) unlinked other =
    ap
    (λ (x : Option Content).
    cond (is_some x) (chunk_of e f ∷ chunks_after wants_text es)
    (cond (is_prefix e.name) (chunks_after wants_text (f ∷ es)) []))
    (unlinked-unwanted wants_text e unlinked)
    ∙ ap (λ (x : Bool). cond x (chunks_after wants_text (f ∷ es)) []) other

following-prefix : (e : Event) (es : List Event) → is_linked e ≡ false → is_prefix e.name ≡ true →
    chunks_after wants_text (e ∷ es) ≡ chunks_after wants_text es
following-prefix e [] unlinked prefix = refl
following-prefix e (f ∷ es) unlinked prefix =
    ap
    (λ (x : Option Content).
    cond (is_some x) (chunk_of e f ∷ chunks_after wants_text es)
    (cond (is_prefix e.name) (chunks_after wants_text (f ∷ es)) []))
    (unlinked-unwanted wants_text e unlinked)
    ∙ ap (λ (x : Bool). cond x (chunks_after wants_text (f ∷ es)) []) prefix

following-chunk : (e f : Event) (es : List Event) (held : Content) → wanted wants_text e ≡ Some held →
    chunks_after wants_text (e ∷ f ∷ es) ≡ chunk_of e f ∷ chunks_after wants_text es
following-chunk e f es held holds =
    ap
    (λ (x : Option Content).
    cond (is_some x) (chunk_of e f ∷ chunks_after wants_text es)
    (cond (is_prefix e.name) (chunks_after wants_text (f ∷ es)) [])) holds

-- Parts.

inside-next : (e : Event) (es : List Event) → is_part e.name ≡ false → inside_part (e ∷ es) ≡ e ∷ inside_part es
inside-next e es other = ap (λ (x : Bool). cond (x && is_exit e.kind) [] (e ∷ inside_part es)) other

parts-next : (e : Event) (es : List Event) → is_part e.name ≡ false → parts (e ∷ es) ≡ parts es
parts-next e es other = ap (λ (list : List Part). list ++ parts es) (part-none e.kind e.name es other)

-- what a part has left where it ends
ends-none : (part : Name) (N : List Name) (es : List Event) → is_part part ≡ true → Matches (part ∷ N) es →
    starts_exit es ≡ true → chunks (pieces (inside_part es)) ≡ []
ends-none part N [] is m h = refl
ends-none part N (g ∷ es) is m h = go g.kind g.name h m.0
  where
    go : (kind : Kind) (name : Name) → is_exit kind ≡ true → Fits (part ∷ N) kind name →
        chunks (pieces (cond (is_part name && is_exit kind) [] (g ∷ inside_part es))) ≡ []
    go Enter name h fits = cc
    go Exit name h fits =
        ap (λ (x : Bool). chunks (pieces (cond (x && true) [] (g ∷ inside_part es)))) (ap is_part (sym fits) ∙ is)

-- no chunk is inside of a prefix
deep-unlinked : (depth : ℕ) (es : List Event) → chunks_in_parts (suc (suc depth)) es ≡ true → starts_linked es ≡ false
deep-unlinked depth [] h = refl
deep-unlinked depth (g ∷ es) h = go (is_part g.name) (is_linked g) h
  where
    go : (x y : Bool) →
        cond x (is_exit g.kind && (suc depth == 0) && not y && chunks_in_parts 0 es)
        (cond y ((suc depth == 0) && is_chunk g es) (may_be_in_part g.kind g.name)
        && chunks_in_parts (depth_following g.kind (suc (suc depth))) es) ≡
        true →
        y ≡ false
    go x false h = refl
    go true true h =
        let no : false ≡ true = (and_parts (is_exit g.kind && (suc depth == 0)) false
        (and_parts (is_exit g.kind && (suc depth == 0) && false) (chunks_in_parts 0 es) h).0).1 in cc
    go false true h =
        let flat : (suc depth == 0) ≡ true = (and_parts (suc depth == 0) (is_chunk g es)
        (and_parts ((suc depth == 0) && is_chunk g es)
        (chunks_in_parts (depth_following g.kind (suc (suc depth))) es) h).0).0
        in
        let no : suc depth ≡ 0 = eqb-true (suc depth) 0 flat in absurd (omega arith)

-- Inside of a text part of this kind, with these names open in it.
record InPart (bytes : List ℕ) (kind : PartKind) (D : List Name) (part : Name) (N : List Name)
    (es : List Event) : Type 0 where
  valid : chunks_in_parts (suc (length D)) es ≡ true
  lines : are_whole_parts bytes es ≡ true
  prefixes : list_all is_prefix D ≡ true
  is : is_part part ≡ true
  links : list_all (links_kind kind) (inside_part es) ≡ true
  matches : Matches (D ++ (part ∷ N)) es

-- the walks from there on: the part has begun, or not yet
record Walks (kind : PartKind) (es : List Event) (left : List Chunk) (following : List Part) : Type 0 where
  listed : chunks_after wants_text es ≡ left
  begun : Walk left es following
  fresh : Walk [] es (part_of kind left ++ following)

abbrev Outside : List ℕ → List Event → Type 0
Outside bytes es =
    (N : List Name) → chunks_in_parts 0 es ≡ true → are_whole_parts bytes es ≡ true → Matches N es →
    Walk [] es (parts es)

abbrev Inside : List ℕ → List Event → Type 0
Inside bytes es =
    (kind : PartKind) (D : List Name) (part : Name) (N : List Name) → InPart bytes kind D part N es →
    Walks kind es (chunks (pieces (inside_part es))) (parts es)

abbrev InsideFollowing : List ℕ → List Event → Type 0
InsideFollowing bytes [] = Unit {0}
InsideFollowing bytes (f ∷ es) = Inside bytes es

inside-end : (bytes : List ℕ) → Inside bytes []
inside-end bytes kind D part N at = record { listed = refl; begun = Ends; fresh = Ends }

-- the end of the part
inside-ends : (bytes : List ℕ) (name : Name) (p : Point) (link : Option Link) (es : List Event) (N : List Name)
    (kind : PartKind) →
    Outside bytes es →
    let e : Event = record { kind = Exit; name = name; point = p; link = link } in
    is_part name ≡ true → is_linked e ≡ false → chunks_in_parts 0 es ≡ true → are_whole_parts bytes es ≡ true →
    Matches N es →
    Walks kind (e ∷ es) (chunks (pieces (inside_part (e ∷ es)))) (parts (e ∷ es))
inside-ends bytes name p link es N kind outside is unlinked valid lines matches =
    let e : Event = record { kind = Exit; name = name; point = p; link = link } in
    let walk : Walk [] (e ∷ es) (parts es) = Stays unlinked (λ enters begins. refl) (outside N valid lines matches) in
    subst
    (λ (x : Bool). Walks kind (e ∷ es) (chunks (pieces (cond (x && true) [] (e ∷ inside_part es)))) (parts es))
    (sym is)
    (record { listed = following-none e es unlinked (part-no_prefix name is); begun = walk; fresh = walk })

-- a prefix, or an event inside of one
other-walks : (e : Event) (es : List Event) (kind : PartKind) → is_part e.name ≡ false → is_linked e ≡ false →
    is_prefix e.name ≡ true →
    (e.kind ≡ Enter → starts_linked es ≡ true → chunks (pieces (inside_part es)) ≡ []) →
    Walks kind es (chunks (pieces (inside_part es))) (parts es) →
    Walks kind (e ∷ es) (chunks (pieces (inside_part (e ∷ es)))) (parts (e ∷ es))
other-walks e es kind other unlinked prefix outer walks =
    let left : List Chunk = chunks (pieces (inside_part es)) in
    let same : chunks (pieces (inside_part (e ∷ es))) ≡ left =
    ap (λ (list : List Event). chunks (pieces list)) (inside-next e es other)
    ∙ chunks-unlinked e (inside_part es) unlinked in
    subst (λ (list : List Chunk). Walks kind (e ∷ es) list (parts (e ∷ es))) (sym same)
    (subst (λ (list : List Part). Walks kind (e ∷ es) left list) (sym (parts-next e es other))
    (record {
      listed = following-prefix e es unlinked prefix ∙ walks.listed;
      begun = Stays unlinked outer walks.begun;
      fresh = Stays unlinked (λ enters begins. refl) walks.fresh;
    }))

links-next : (kind : PartKind) (e : Event) (es : List Event) → is_part e.name ≡ false →
    list_all (links_kind kind) (inside_part (e ∷ es)) ≡ true →
    (links_kind kind e ≡ true) × (list_all (links_kind kind) (inside_part es) ≡ true)
links-next kind e es other links =
    and_parts (links_kind kind e) (list_all (links_kind kind) (inside_part es))
    (subst (λ (list : List Event). list_all (links_kind kind) list ≡ true) (inside-next e es other) links)

inside-other : (bytes : List ℕ) (at : Kind) (name : Name) (p : Point) (link : Option Link) (es : List Event)
    (kind : PartKind) (D : List Name) (part : Name) (N : List Name) →
    Inside bytes es →
    let e : Event = record { kind = at; name = name; point = p; link = link } in
    InPart bytes kind D part N (e ∷ es) → is_part name ≡ false → is_linked e ≡ false → may_be_in_part at name ≡ true →
    chunks_in_parts (depth_following at (suc (length D))) es ≡ true →
    Walks kind (e ∷ es) (chunks (pieces (inside_part (e ∷ es)))) (parts (e ∷ es))
inside-other bytes Enter name p link es kind D part N inside in_part other unlinked prefix valid =
    let e : Event = record { kind = Enter; name = name; point = p; link = link } in
    other-walks e es kind other unlinked prefix
    (λ enters begins. let no : false ≡ true = sym (deep-unlinked (length D) es valid) ∙ begins in cc)
    (inside kind (name ∷ D) part N
    (record {
      valid = valid;
      lines = (and_parts (is_whole_part bytes Enter (part_kind name) p es) (are_whole_parts bytes es) in_part.lines).1;
      prefixes = and_from (is_prefix name) (list_all is_prefix D) prefix in_part.prefixes;
      is = in_part.is;
      links = (links-next kind e es other in_part.links).1;
      matches = in_part.matches.1;
    }))
inside-other bytes Exit name p link es kind (d ∷ D) part N inside in_part other unlinked prefix valid =
    let e : Event = record { kind = Exit; name = name; point = p; link = link } in
    let prefixes : (is_prefix d ≡ true) ×
    (list_all is_prefix D ≡ true) = and_parts (is_prefix d) (list_all is_prefix D) in_part.prefixes in
    other-walks e es kind other unlinked (ap is_prefix (sym in_part.matches.0) ∙ prefixes.0)
    (λ enters begins. cc)
    (inside kind D part N
    (record {
      valid = valid;
      lines = (and_parts (is_whole_part bytes Exit (part_kind name) p es) (are_whole_parts bytes es) in_part.lines).1;
      prefixes = prefixes.1;
      is = in_part.is;
      links = (links-next kind e es other in_part.links).1;
      matches = in_part.matches.1;
    }))
inside-other bytes Exit name p link es kind [] part N inside in_part other unlinked prefix valid =
    let same : is_part part ≡ is_part name = ap is_part in_part.matches.0 in
    let no : true ≡ false = sym in_part.is ∙ same ∙ other in cc

-- a chunk
inside-chunk : (bytes : List ℕ) (e f : Event) (es : List Event) (kind : PartKind) (part : Name) (N : List Name) →
    Inside bytes es → InPart bytes kind [] part N (e ∷ f ∷ es) → is_linked e ≡ true → is_chunk e (f ∷ es) ≡ true →
    chunks_in_parts (depth_following e.kind 1) (f ∷ es) ≡ true →
    Walks kind (e ∷ f ∷ es) (chunks (pieces (inside_part (e ∷ f ∷ es)))) (parts (e ∷ f ∷ es))
inside-chunk bytes e f es kind part N inside in_part linked chunk valid =
    subst (λ (list : List Chunk). Walks kind (e ∷ f ∷ es) list (parts (e ∷ f ∷ es))) (sym same)
    (subst (λ (list : List Part). Walks kind (e ∷ f ∷ es) (chunk_of e f ∷ left) list)
    (sym (parts-next e (f ∷ es) outside ∙ parts-next f es outside_too))
    (record {
      listed = following-chunk e f es wants.0 wants.1 ∙ ap (λ (list : List Chunk). chunk_of e f ∷ list) walks.listed;
      begun = IsContinued is walks.begun;
      fresh =
          subst
          (λ (k : PartKind).
          Walk [] (e ∷ f ∷ es) ((record { kind = k; chunks = chunk_of e f ∷ left }) ∷ parts es)) wants.2
          (Begins is walks.listed walks.begun);
    }))
  where
    facts : (e.kind ≡ Enter) × (is_data e.name ≡ true) × (f.kind ≡ Exit) × (is_data f.name ≡ true)
    facts = chunk-parts e f es chunk

    outside : is_part e.name ≡ false
    outside = data-no_part e.name facts.1

    outside_too : is_part f.name ≡ false
    outside_too = data-no_part f.name facts.3

    links : (links_kind kind e ≡ true) × (list_all (links_kind kind) (inside_part (f ∷ es)) ≡ true)
    links = links-next kind e (f ∷ es) outside in_part.links

    left : List Chunk
    left = chunks (pieces (inside_part es))

    same : chunks (pieces (inside_part (e ∷ f ∷ es))) ≡ chunk_of e f ∷ left
    same =
        ap (λ (list : List Event). chunks (pieces list))
        (inside-next e (f ∷ es) outside ∙ ap (λ (list : List Event). e ∷ list) (inside-next f es outside_too))
        ∙ chunks-linked e f (inside_part es) facts.0 facts.2 linked

    wants : (held : Content) × (wanted wants_text e ≡ Some held) × (text_kind held ≡ kind)
    wants = linked-wanted kind e facts.0 linked links.0

    on : chunks_in_parts 1 es ≡ true
    on =
        let within : chunks_in_parts 2 (f ∷ es) ≡ true =
        subst (λ (k : Kind). chunks_in_parts (depth_following k 1) (f ∷ es) ≡ true) facts.0 valid in
        let following : (cond (is_linked f) ((1 == 0) && is_chunk f es) (may_be_in_part f.kind f.name)
        && chunks_in_parts (depth_following f.kind 2) es) ≡
        true =
        subst
        (λ (x : Bool).
        cond x (is_exit f.kind && (1 == 0) && not (is_linked f) && chunks_in_parts 0 es)
        (cond (is_linked f) ((1 == 0) && is_chunk f es) (may_be_in_part f.kind f.name)
        && chunks_in_parts (depth_following f.kind 2) es) ≡
        true) outside_too within in
        subst (λ (k : Kind). chunks_in_parts (depth_following k 2) es ≡ true) facts.2
        (and_parts (cond (is_linked f) ((1 == 0) && is_chunk f es) (may_be_in_part f.kind f.name))
        (chunks_in_parts (depth_following f.kind 2) es) following).1

    matches : Matches (part ∷ N) es
    matches =
        subst (λ (k : Kind). Matches (open_following (e.name ∷ part ∷ N) k f.name) es) facts.2
        (subst (λ (k : Kind). Matches (open_following (open_following (part ∷ N) k e.name) f.kind f.name) es) facts.0
        in_part.matches.1.1)

    lines : are_whole_parts bytes es ≡ true
    lines =
        (and_parts (is_whole_part bytes f.kind (part_kind f.name) f.point es) (are_whole_parts bytes es)
        (and_parts (is_whole_part bytes e.kind (part_kind e.name) e.point (f ∷ es)) (are_whole_parts bytes (f ∷ es))
        in_part.lines).1).1

    walks : Walks kind es left (parts es)
    walks =
        inside kind [] part N (record {
          valid = on;
          lines = lines;
          prefixes = refl;
          is = in_part.is;
          links = (links-next kind f es outside_too links.1).1;
          matches = matches;
        })

    is : IsLinkedChunk e f es left wants.0
    is = record {
      enters = facts.0;
      exits = facts.2;
      linked = linked;
      holds = wants.1;
      last = ends-none part N es in_part.is matches;
    }

inside-linked : (bytes : List ℕ) (e : Event) (es : List Event) (kind : PartKind) (D : List Name) (part : Name)
    (N : List Name) →
    InsideFollowing bytes es → InPart bytes kind D part N (e ∷ es) → length D ≡ 0 → is_linked e ≡ true →
    is_chunk e es ≡ true → chunks_in_parts (depth_following e.kind (suc (length D))) es ≡ true →
    Walks kind (e ∷ es) (chunks (pieces (inside_part (e ∷ es)))) (parts (e ∷ es))
inside-linked bytes e es kind (d ∷ D) part N following in_part flat linked chunk valid = absurd (omega arith)
inside-linked bytes e [] kind [] part N following in_part flat linked chunk valid = cc
inside-linked bytes e (f ∷ es) kind [] part N following in_part flat linked chunk valid =
    inside-chunk bytes e f es kind part N following in_part linked chunk valid

inside-part : (bytes : List ℕ) (at : Kind) (name : Name) (p : Point) (link : Option Link) (es : List Event)
    (kind : PartKind) (D : List Name) (part : Name) (N : List Name) →
    Outside bytes es →
    let e : Event = record { kind = at; name = name; point = p; link = link } in
    InPart bytes kind D part N (e ∷ es) → is_part name ≡ true → is_exit at ≡ true → length D ≡ 0 →
    is_linked e ≡ false → chunks_in_parts 0 es ≡ true →
    Walks kind (e ∷ es) (chunks (pieces (inside_part (e ∷ es)))) (parts (e ∷ es))
inside-part bytes Enter name p link es kind D part N outside in_part is ends flat unlinked valid = cc
inside-part bytes Exit name p link es kind (d ∷ D) part N outside in_part is ends flat unlinked valid =
    absurd (omega arith)
inside-part bytes Exit name p link es kind [] part N outside in_part is ends flat unlinked valid =
    inside-ends bytes name p link es N kind outside is unlinked valid
    (and_parts (is_whole_part bytes Exit (part_kind name) p es) (are_whole_parts bytes es) in_part.lines).1
    in_part.matches.1

inside-step : (bytes : List ℕ) (at : Kind) (name : Name) (p : Point) (link : Option Link) (es : List Event) →
    Outside bytes es → Inside bytes es → InsideFollowing bytes es →
    Inside bytes ((record { kind = at; name = name; point = p; link = link }) ∷ es)
inside-step bytes at name p link es outside inside following kind D part N in_part =
    go (is_part name) refl in_part.valid
  where
    e : Event
    e = record { kind = at; name = name; point = p; link = link }

    Goal : Type 0
    Goal = Walks kind (e ∷ es) (chunks (pieces (inside_part (e ∷ es)))) (parts (e ∷ es))

    on : Bool
    on = chunks_in_parts (depth_following at (suc (length D))) es

    go : (x : Bool) → is_part name ≡ x →
        cond x (is_exit at && (length D == 0) && not (is_linked e) && chunks_in_parts 0 es)
        (cond (is_linked e) ((length D == 0) && is_chunk e es) (may_be_in_part at name) && on) ≡
        true →
        Goal
    go true is h =
        let outer : (is_exit at && (length D == 0) && not (is_linked e) ≡ true) ×
        (chunks_in_parts 0 es ≡ true) = and_parts (is_exit at && (length D == 0) && not (is_linked e))
        (chunks_in_parts 0 es) h in
        let middle : (is_exit at && (length D == 0) ≡ true) ×
        (not (is_linked e) ≡ true) = and_parts (is_exit at && (length D == 0)) (not (is_linked e)) outer.0 in
        let inner : (is_exit at ≡ true) ×
        ((length D == 0) ≡ true) = and_parts (is_exit at) (length D == 0) middle.0 in
        inside-part bytes at name p link es kind D part N outside in_part is inner.0 (eqb-true (length D) 0 inner.1)
        (not-true (is_linked e) middle.1) outer.1
    go false other h =
        let outer : (cond (is_linked e) ((length D == 0) && is_chunk e es) (may_be_in_part at name) ≡ true) ×
        (on ≡ true) = and_parts (cond (is_linked e) ((length D == 0) && is_chunk e es) (may_be_in_part at name)) on h in
        by (is_linked e) refl outer.0 outer.1
      where
        by : (y : Bool) → is_linked e ≡ y → cond y ((length D == 0) && is_chunk e es) (may_be_in_part at name) ≡ true →
            on ≡ true → Goal
        by false unlinked valid on = inside-other bytes at name p link es kind D part N inside in_part other
            unlinked valid on
        by true linked chunk on =
            let parts : ((length D == 0) ≡ true) ×
            (is_chunk e es ≡ true) = and_parts (length D == 0) (is_chunk e es) chunk in
            inside-linked bytes e es kind D part N following in_part (eqb-true (length D) 0 parts.0) linked parts.1 on

-- a part begins
outside-part : (bytes : List ℕ) (name : Name) (p : Point) (es : List Event) (N : List Name) →
    Inside bytes es → is_part name ≡ true → chunks_in_parts 1 es ≡ true → are_whole_parts bytes es ≡ true →
    is_whole_part bytes Enter (part_kind name) p es ≡ true → Matches (name ∷ N) es →
    Walk [] es (part_at Enter (part_kind name) es ++ parts es)
outside-part bytes name p es N inside is valid lines part matches = go (part_kind name) is part
  where
    go : (x : Option PartKind) → (elim x [ None ↦ false | Some kind ↦ true ]) ≡ true →
        is_whole_part bytes Enter x p es ≡ true → Walk [] es (part_at Enter x es ++ parts es)
    go None h part = cc
    go (Some kind) h part =
        let list : List Chunk = chunks (pieces (inside_part es)) in
        (inside kind [] name N (record {
          valid = valid;
          lines = lines;
          prefixes = refl;
          is = is;
          links =
              (and_parts (begins_at p list && list_all (is_white_piece bytes) (pieces (inside_part es))
              && are_lines bytes (part_end es) list)
              (list_all (links_kind kind) (inside_part es)) part).1;
          matches = matches;
        })).fresh

outside-step : (bytes : List ℕ) (at : Kind) (name : Name) (p : Point) (link : Option Link) (es : List Event) →
    Outside bytes es → Inside bytes es →
    Outside bytes ((record { kind = at; name = name; point = p; link = link }) ∷ es)
outside-step bytes at name p link es outside inside N valid lines matches =
    let here : (not (is_linked e) ≡ true) ×
    (chunks_in_parts (cond (is_part name && not (is_exit at)) 1 0) es ≡ true) = and_parts (not (is_linked e))
    (chunks_in_parts (cond (is_part name && not (is_exit at)) 1 0) es) valid in
    let part : (is_whole_part bytes at (part_kind name) p es ≡ true) ×
    (are_whole_parts bytes es ≡ true) = and_parts (is_whole_part bytes at (part_kind name) p es)
    (are_whole_parts bytes es) lines in
    Stays (not-true (is_linked e) here.0) (λ enters begins. refl)
    (go at (is_part name) refl here.1 part.0 part.1 matches.1)
  where
    e : Event
    e = record { kind = at; name = name; point = p; link = link }

    go : (at : Kind) (x : Bool) → is_part name ≡ x → chunks_in_parts (cond (x && not (is_exit at)) 1 0) es ≡ true →
        is_whole_part bytes at (part_kind name) p es ≡ true → are_whole_parts bytes es ≡ true →
        Matches (open_following N at name) es → Walk [] es (part_at at (part_kind name) es ++ parts es)
    go Enter true is valid part lines matches = outside-part bytes name p es N inside is valid lines part matches
    go Enter false other valid part lines matches =
        subst (λ (list : List Part). Walk [] es (list ++ parts es)) (sym (part-none Enter name es other))
        (outside (name ∷ N) valid lines matches)
    go Exit true is valid part lines matches = outside (open_following N Exit name) valid lines matches
    go Exit false other valid part lines matches = outside (open_following N Exit name) valid lines matches

walk-all : (bytes : List ℕ) (es : List Event) →
    (outside : Outside bytes es) × (inside : Inside bytes es) × InsideFollowing bytes es
walk-all bytes [] = ((λ N valid lines matches. Ends), inside-end bytes, tt)
walk-all bytes (e ∷ es) =
    let all : (outside : Outside bytes es) × (inside : Inside bytes es) × InsideFollowing bytes es =
    walk-all bytes es in (
      outside-step bytes e.kind e.name e.point e.link es all.0 all.1,
      inside-step bytes e.kind e.name e.point e.link es all.0 all.1 all.2,
      all.1,
    )

-- The walk over a block list.
pub walk-blocks : (bytes : List ℕ) (blocks : List Event) → IsBlockList bytes blocks → Walk [] blocks (parts blocks)
walk-blocks bytes blocks list =
    (walk-all bytes blocks).0 [] list.chunks list.lines list.nested.balanced.matches
