-- What is told of each text part is what is read of it: its chunks are walked beside the text that is being read.
use Rattle.std.proofs.Common.{◌≡◌, ℕ, zero, suc, ◌≤◌, Bool, true, false, cond, not, ◌&&◌, List, [], ◌∷◌}
use Rattle.std.proofs.Common.{◌++◌, length, refl, ap, sym, ◌∙◌, subst, arith}
use Rattle.std.proofs.Common.{append-nil, le_trans, ◌⊎◌, inl, inr}
use Rattle.std.specs.Prelude.{◌==◌, Option, Some, None}
use Rattle.std.specs.List.{list_all}
use Rattle.std.proofs.lemmas.Bool.{and_parts, both_ways, cond-true}
use Rattle.md_engine.specs.declared.event.Event.{Event}
use Rattle.md_engine.specs.declared.event.Kind.{Kind}
use Rattle.md_engine.specs.declared.event.Kind.TheVariants.{Enter, Exit}
use Rattle.md_engine.specs.declared.event.Name.{Name}
use Rattle.md_engine.specs.declared.event.Point.{Point}
use Rattle.md_meaning.specs.Rest.{is_blank}
use Rattle.md_events.specs.declared.inline.Chunk.{Chunk}
use Rattle.md_events.specs.declared.inline.PartKind.{PartKind}
use Rattle.md_events.specs.declared.inline.PartKind.TheVariants as k
use Rattle.md_events.specs.Events.Inline.{Part, are_lines, chunk_text, is_linked, pieces}
use Rattle.md_events.specs.Events.Nested.{is_exit}
use Rattle.md_events.specs.Events.Places.{are_placed, at_or_before, is_placed, same_place}
use Rattle.md_events.specs.Events.Spelled.{IsPrefix}
use Rattle.md_events.specs.Events.Spelled.{Role, Text, after_prefix, before_prefix, begun, byte_at, role}
use Rattle.md_events.specs.Events.Spelled.{text_to}
use Rattle.md_events.specs.Events.Tiles.{are_whole_parts, begins_at, chunks, chunks_in_parts, depth_following, inside_part, is_chunk}
use Rattle.md_events.specs.Events.Tiles.{is_data, is_part, is_white_piece, is_whole_part, links_kind}
use Rattle.md_events.specs.Events.Tiles.{may_be_in_part, part_at, part_end, part_kind, part_of, parts}
use Rattle.md_events.proofs.FilledLemmas.{chunk-parts}
use Rattle.md_events.proofs.PlacesLemmas.{placed-facts}
use Rattle.md_events.proofs.PlainSteps.{range-none}
use Rattle.md_inline_events.specs.Woven.{read_chunks}
use Rattle.md_inline_events.specs.TreeTexts.{are_filled, is_filled_part, part_texts}
use Rattle.proof_inlines.proofs.GrammarWalk.{Runs, following_state}
use Rattle.proof_inlines.proofs.Nearby.{is_pair}
use Rattle.proof_inlines.proofs.PartSteps.{Along, ChunkFirst, InPart, NextRead, Reads, along-next, chunk-first}
use Rattle.proof_inlines.proofs.PartSteps.{chunk-reads, chunk_with, left, left-next, left-pair, part-next, parts-next}
use Rattle.proof_inlines.proofs.PartSteps.{reads-white, white-pair}
use Rattle.proof_inlines.proofs.Phases.{ChunkPiece, Elsewhere, InChunk, InMark, InPrefix, InWhite, KindOf}
use Rattle.proof_inlines.proofs.Phases.{MarkerPiece, Out, PartSort, Phase, PrefixPart, TextPart, WhitePiece, Within}
use Rattle.proof_inlines.proofs.Phases.{chunk-data, entered_by, exited_by, is_at, is_chunk_sort}
use Rattle.proof_inlines.proofs.Phases.{is_white_sort, is_inner, is_text, is_told, kind-of, may_step, part_sort, phases, piece-role}
use Rattle.proof_inlines.proofs.Phases.{role_of, told-text, white-space}
use Rattle.proof_inlines.proofs.ReadSteps.{Goes, Gone, Takes, filled-first, goes-start}
use Rattle.proof_inlines.proofs.Slices.{Gains, gains, gains-chunk, gains-white}
use Rattle.proof_inlines.proofs.Told.{text_following, told, told_by}
use Rattle.proof_inlines.proofs.PartTold.{Claim, byte-after, byte-before, byte-same, claim-over, data-linked, deeper-unlinked, depth-enter, depth-exit, enter-state, enter-text, enter-told, exit-state, exit-told, index-before, index-same, inner-apart, inside-depth, marker-told, none-told, other-unlinked, pair-enter, quiet-told, told-over}

-- The walk, so many events on.

-- before the first chunk of a part some are left
abbrev Fresh : Kind → List Chunk → Type 0
Fresh Enter [] = ⊥
Fresh Enter (chunk ∷ cs) = Unit {0}
Fresh Exit cs = Unit {0}

fresh-exit : (kind : Kind) (cs : List Chunk) → kind ≡ Exit → Fresh kind cs
fresh-exit Exit cs e = tt
fresh-exit Enter cs e = cc

fresh-none : (kind : Kind) → Fresh kind [] → kind ≡ Exit
fresh-none Enter h = absurd h
fresh-none Exit h = refl

record Local (bytes : List ℕ) (n : ℕ) : Type 0 where
  out : (p : Point) (kind : Kind) (es : List Event) (text : Option Text) (depth : ℕ) → length es ≤ n →
      Along bytes p kind es → Runs phases Out es → chunks_in_parts depth es ≡ true →
      told bytes text es ≡ part_texts bytes (parts es)
  within : (p : Point) (kind : Kind) (es : List Event) (text : Text) (read : List ℕ) → length es ≤ n →
      Along bytes p kind es → Runs phases Within es → chunks_in_parts 1 es ≡ true → InPart bytes es →
      Fresh kind (left es) → text.from ≤ byte_at p → Reads (left es) (text_to bytes p.index text) read →
      Claim bytes text read es
  prefixed : (p : Point) (kind : Kind) (es : List Event) (text : Text) (read : List ℕ) → length es ≤ n →
      Along bytes p kind es → Runs phases InPrefix es → chunks_in_parts 2 es ≡ true → InPart bytes es →
      Reads (left es) text.front read → Claim bytes text read es
  marked : (p : Point) (kind : Kind) (es : List Event) (text : Text) (read : List ℕ) → length es ≤ n →
      Along bytes p kind es → Runs phases InMark es → chunks_in_parts 3 es ≡ true → InPart bytes es →
      Reads (left es) text.front read → Claim bytes text read es

-- no text ends in a text part
top-out : (s : Phase) → Runs phases s [] → s ≡ Out
top-out s runs = go s runs.1.at
  where
    go : (s : Phase) → is_at Elsewhere s ≡ true → s ≡ Out
    go Out h = refl
    go _ h = cc

-- Which events there may be.

may-mark : (kind : Kind) (sort : PartSort) → may_step kind sort InMark ≡ true →
    (kind ≡ Exit) × ((sort ≡ WhitePiece) ⊎ (sort ≡ MarkerPiece))
may-mark Exit WhitePiece h = (refl, inl refl)
may-mark Exit MarkerPiece h = (refl, inr refl)
may-mark Exit _ h = cc
may-mark Enter TextPart h = cc
may-mark Enter _ h = cc

may-white : (kind : Kind) (sort : PartSort) → may_step kind sort InWhite ≡ true →
    (kind ≡ Exit) × (sort ≡ WhitePiece)
may-white Exit WhitePiece h = (refl, refl)
may-white Exit _ h = cc
may-white Enter TextPart h = cc
may-white Enter _ h = cc

may-prefix : (kind : Kind) (sort : PartSort) → may_step kind sort InPrefix ≡ true →
    ((kind ≡ Enter) × (sort ≡ WhitePiece))
    ⊎ (((kind ≡ Enter) × (sort ≡ MarkerPiece)) ⊎ ((kind ≡ Exit) × (sort ≡ PrefixPart)))
may-prefix Enter WhitePiece h = inl (refl, refl)
may-prefix Enter MarkerPiece h = inr (inl (refl, refl))
may-prefix Enter _ h = cc
may-prefix Exit PrefixPart h = inr (inr (refl, refl))
may-prefix Exit _ h = cc

data Coming (kind : Kind) (sort : PartSort) : Type 0 where
  PartEnds : kind ≡ Exit → sort ≡ TextPart → Coming kind sort
  ChunkComes : kind ≡ Enter → sort ≡ ChunkPiece → Coming kind sort
  WhiteComes : kind ≡ Enter → sort ≡ WhitePiece → Coming kind sort
  PrefixComes : kind ≡ Enter → sort ≡ PrefixPart → Coming kind sort

may-within : (kind : Kind) (sort : PartSort) → may_step kind sort Within ≡ true → Coming kind sort
may-within Exit TextPart h = PartEnds refl refl
may-within Exit _ h = cc
may-within Enter ChunkPiece h = ChunkComes refl refl
may-within Enter WhitePiece h = WhiteComes refl refl
may-within Enter PrefixPart h = PrefixComes refl refl
may-within Enter _ h = cc

-- in a part: an event that is no chunk
record Inner (bytes : List ℕ) (p : Point) (e : Event) (es : List Event) (sort : PartSort) : Type 0 where
  along : Along bytes e.point e.kind es
  apart : is_part e.name ≡ false
  unlinked : is_linked e ≡ false
  part : InPart bytes es
  left_is : left (e ∷ es) ≡ left es

inner-of : (bytes : List ℕ) (p : Point) (kind : Kind) (e : Event) (es : List Event) (sort : PartSort) →
    part_sort e.name ≡ sort → is_inner sort ≡ true → is_linked e ≡ false → Along bytes p kind (e ∷ es) →
    InPart bytes (e ∷ es) → Inner bytes p e es sort
inner-of bytes p kind e es sort is inner unlinked along part =
    let apart : is_part e.name ≡ false = inner-apart e.name sort is inner in
    record {
      along = along-next bytes p kind e es along;
      apart = apart;
      unlinked = unlinked;
      part = part-next bytes e es apart unlinked part;
      left_is = left-next e es apart unlinked;
    }

shorter : (n : ℕ) (e : Event) (es : List Event) → length (e ∷ es) ≤ suc n → length es ≤ n
shorter n e es h = omega (arith, h)

-- In a marker of a prefix, or in its whitespace: its exit.
marked-step : (bytes : List ℕ) (n : ℕ) → Local bytes n → (p : Point) (kind : Kind) (e : Event) (es : List Event)
    (text : Text) (read : List ℕ) →
    length (e ∷ es) ≤ suc n → Along bytes p kind (e ∷ es) → Runs phases InMark (e ∷ es) →
    chunks_in_parts 3 (e ∷ es) ≡ true → InPart bytes (e ∷ es) → Reads (left (e ∷ es)) text.front read →
    Claim bytes text read (e ∷ es)
marked-step bytes n local p kind e es text read size along runs depth part reads =
    let may = may-mark e.kind (part_sort e.name) runs.0 in
    go may.0 may.1
  where
    by : (sort : PartSort) → e.kind ≡ Exit → part_sort e.name ≡ sort → is_inner sort ≡ true →
        exited_by sort InMark ≡ InPrefix → told_by bytes e.kind (role e.name) e.point (Some text) ≡ [] →
        text_following bytes e.kind (role e.name) e.point (Some text) ≡ Some text → Claim bytes text read (e ∷ es)
    by sort exits is inner back none same =
        let apart : is_part e.name ≡ false = inner-apart e.name sort is inner in
        let deep = inside-depth 2 e es depth apart in
        let i : Inner bytes p e es sort = inner-of bytes p kind e es sort is inner
        (deeper-unlinked 2 e es refl deep.0) along part in
        claim-over bytes text text read e es i.apart i.unlinked none same
        (local.prefixed e.point e.kind es text read (shorter n e es size) i.along
        (subst (λ (s : Phase). Runs phases s es) (exit-state e.kind e.name InMark sort exits is ∙ back) runs.1)
        (subst (λ (d : ℕ). chunks_in_parts d es ≡ true) (depth-exit e.kind 2 exits) deep.1) i.part
        (subst (λ (cs : List Chunk). Reads cs text.front read) i.left_is reads))

    go : e.kind ≡ Exit → (part_sort e.name ≡ WhitePiece) ⊎ (part_sort e.name ≡ MarkerPiece) →
        Claim bytes text read (e ∷ es)
    go exits (inl is) =
        let quiet = quiet-told bytes e.kind (role e.name) e.point (Some text)
        (subst (λ (s : PartSort). role_of s (role e.name)) is (piece-role e.name)) in
        by WhitePiece exits is refl refl quiet.0 quiet.1
    go exits (inr is) =
        let quiet = marker-told bytes e.kind (role e.name) e.point (Some text)
        (subst (λ (s : PartSort). role_of s (role e.name)) is (piece-role e.name)) in
        by MarkerPiece exits is refl refl quiet.0 quiet.1

prefix-exit : (bytes : List ℕ) (kind : Kind) (x : Role) (p : Point) (text : Text) → kind ≡ Exit → x ≡ IsPrefix →
    (told_by bytes kind x p (Some text) ≡ [])
    × (text_following bytes kind x p (Some text) ≡ Some (after_prefix p text))
prefix-exit bytes Exit x p text e f = (
  ap (λ (y : Role). told_by bytes Exit y p (Some text)) f,
  ap (λ (y : Role). text_following bytes Exit y p (Some text)) f,
)
prefix-exit bytes Enter x p text e f = cc

prefix-enter : (bytes : List ℕ) (kind : Kind) (x : Role) (p : Point) (text : Text) → kind ≡ Enter → x ≡ IsPrefix →
    (told_by bytes kind x p (Some text) ≡ [])
    × (text_following bytes kind x p (Some text) ≡ Some (before_prefix bytes p text))
prefix-enter bytes Enter x p text e f = (
  ap (λ (y : Role). told_by bytes Enter y p (Some text)) f,
  ap (λ (y : Role). text_following bytes Enter y p (Some text)) f,
)
prefix-enter bytes Exit x p text e f = cc

-- In a prefix: a marker or whitespace, or its end.
prefixed-step : (bytes : List ℕ) (n : ℕ) → Local bytes n → (p : Point) (kind : Kind) (e : Event) (es : List Event)
    (text : Text) (read : List ℕ) →
    length (e ∷ es) ≤ suc n → Along bytes p kind (e ∷ es) → Runs phases InPrefix (e ∷ es) →
    chunks_in_parts 2 (e ∷ es) ≡ true → InPart bytes (e ∷ es) → Reads (left (e ∷ es)) text.front read →
    Claim bytes text read (e ∷ es)
prefixed-step bytes n local p kind e es text read size along runs depth part reads =
    go (may-prefix e.kind (part_sort e.name) runs.0)
  where
    by : (sort : PartSort) → e.kind ≡ Enter → part_sort e.name ≡ sort → is_inner sort ≡ true →
        entered_by sort InPrefix ≡ InMark → told_by bytes e.kind (role e.name) e.point (Some text) ≡ [] →
        text_following bytes e.kind (role e.name) e.point (Some text) ≡ Some text → Claim bytes text read (e ∷ es)
    by sort enters is inner on none same =
        let apart : is_part e.name ≡ false = inner-apart e.name sort is inner in
        let deep = inside-depth 1 e es depth apart in
        let i : Inner bytes p e es sort = inner-of bytes p kind e es sort is inner
        (deeper-unlinked 1 e es refl deep.0) along part in
        claim-over bytes text text read e es i.apart i.unlinked none same
        (local.marked e.point e.kind es text read (shorter n e es size) i.along
        (subst (λ (s : Phase). Runs phases s es) (enter-state e.kind e.name InPrefix sort enters is ∙ on) runs.1)
        (subst (λ (d : ℕ). chunks_in_parts d es ≡ true) (depth-enter e.kind 2 enters) deep.1) i.part
        (subst (λ (cs : List Chunk). Reads cs text.front read) i.left_is reads))

    go : ((e.kind ≡ Enter) × (part_sort e.name ≡ WhitePiece))
        ⊎ (((e.kind ≡ Enter) × (part_sort e.name ≡ MarkerPiece)) ⊎ ((e.kind ≡ Exit) × (part_sort e.name ≡ PrefixPart))) →
        Claim bytes text read (e ∷ es)
    go (inl at) =
        let quiet = quiet-told bytes e.kind (role e.name) e.point (Some text)
        (subst (λ (s : PartSort). role_of s (role e.name)) at.1 (piece-role e.name)) in
        by WhitePiece at.0 at.1 refl refl quiet.0 quiet.1
    go (inr (inl at)) =
        let quiet = marker-told bytes e.kind (role e.name) e.point (Some text)
        (subst (λ (s : PartSort). role_of s (role e.name)) at.1 (piece-role e.name)) in
        by MarkerPiece at.0 at.1 refl refl quiet.0 quiet.1
    go (inr (inr at)) =
        let next : Text = after_prefix e.point text in
        let told_none = prefix-exit bytes e.kind (role e.name) e.point text at.0
        (subst (λ (s : PartSort). role_of s (role e.name)) at.1 (piece-role e.name)) in
        let apart : is_part e.name ≡ false = inner-apart e.name PrefixPart at.1 refl in
        let deep = inside-depth 1 e es depth apart in
        let i : Inner bytes p e es PrefixPart = inner-of bytes p kind e es PrefixPart at.1 refl
        (deeper-unlinked 1 e es refl deep.0) along part in
        let now : text_to bytes e.point.index next ≡ text.front =
        ap (λ (l : List ℕ). text.front ++ l) (range-none bytes (byte_at e.point) e.point.index (byte-after e.point))
        ∙ append-nil text.front in
        claim-over bytes text next read e es i.apart i.unlinked told_none.0 told_none.1
        (local.within e.point e.kind es next read (shorter n e es size) i.along
        (subst (λ (s : Phase). Runs phases s es) (exit-state e.kind e.name InPrefix PrefixPart at.0 at.1) runs.1)
        (subst (λ (d : ℕ). chunks_in_parts d es ≡ true) (depth-exit e.kind 1 at.0) deep.1) i.part
        (fresh-exit e.kind (left es) at.0) (omega arith)
        (subst (λ (t : List ℕ). Reads (left es) t read) (sym now)
        (subst (λ (cs : List Chunk). Reads cs text.front read) i.left_is reads)))

-- Directly in a part: its end, a chunk, whitespace or a prefix.

-- the text up to the next event, which is where the last one was
record Stays (p : Point) (e : Event) : Type 0 where
  index : p.index ≡ e.point.index
  byte : byte_at p ≡ byte_at e.point

stays : (bytes : List ℕ) (p : Point) (kind : Kind) (e : Event) (es : List Event) → Along bytes p kind (e ∷ es) →
    is_pair kind e.kind ≡ false → Stays p e
stays bytes p kind e es along apart =
    let same : same_place p e.point ≡ true = along.near.0 apart in
    record { index = index-same p e.point same; byte = byte-same p e.point same }

stays-enter : (bytes : List ℕ) (p : Point) (kind : Kind) (e : Event) (es : List Event) → Along bytes p kind (e ∷ es) →
    e.kind ≡ Enter → Stays p e
stays-enter bytes p kind e es along enters =
    stays bytes p kind e es along (ap (λ (k : Kind). is_pair kind k) enters ∙ pair-enter kind)

part-enters : (bytes : List ℕ) (n : ℕ) → Local bytes n → (p : Point) (kind : Kind) (e : Event) (es : List Event)
    (text : Text) (read : List ℕ) →
    length (e ∷ es) ≤ suc n → Along bytes p kind (e ∷ es) → Runs phases Within (e ∷ es) →
    chunks_in_parts 1 (e ∷ es) ≡ true → InPart bytes (e ∷ es) →
    Reads (left (e ∷ es)) (text_to bytes p.index text) read → e.kind ≡ Enter → part_sort e.name ≡ PrefixPart →
    Claim bytes text read (e ∷ es)
part-enters bytes n local p kind e es text read size along runs depth part reads enters is =
    let next : Text = before_prefix bytes e.point text in
    let told_none = prefix-enter bytes e.kind (role e.name) e.point text enters
    (subst (λ (s : PartSort). role_of s (role e.name)) is (piece-role e.name)) in
    let apart : is_part e.name ≡ false = inner-apart e.name PrefixPart is refl in
    let deep = inside-depth 0 e es depth apart in
    let called : is_data e.name ≡ false = sym (chunk-data e.name) ∙ ap is_chunk_sort is in
    let i : Inner bytes p e es PrefixPart = inner-of bytes p kind e es PrefixPart is refl
    (other-unlinked e es called deep.0) along part in
    let at : Stays p e = stays-enter bytes p kind e es along enters in
    claim-over bytes text next read e es i.apart i.unlinked told_none.0 told_none.1
    (local.prefixed e.point e.kind es next read (shorter n e es size) i.along
    (subst (λ (s : Phase). Runs phases s es) (enter-state e.kind e.name Within PrefixPart enters is) runs.1)
    (subst (λ (d : ℕ). chunks_in_parts d es ≡ true) (depth-enter e.kind 1 enters) deep.1) i.part
    (subst (λ (j : ℕ). Reads (left es) (text_to bytes j text) read) at.index
    (subst (λ (cs : List Chunk). Reads cs (text_to bytes p.index text) read) i.left_is reads)))

-- its end
part-ends : (bytes : List ℕ) (n : ℕ) → Local bytes n → (p : Point) (kind : Kind) (e : Event) (es : List Event)
    (text : Text) (read : List ℕ) →
    length (e ∷ es) ≤ suc n → Along bytes p kind (e ∷ es) → Runs phases Within (e ∷ es) →
    chunks_in_parts 1 (e ∷ es) ≡ true → Fresh kind (left (e ∷ es)) →
    Reads (left (e ∷ es)) (text_to bytes p.index text) read → e.kind ≡ Exit → part_sort e.name ≡ TextPart →
    Claim bytes text read (e ∷ es)
part-ends bytes n local p kind e es text read size along runs depth fresh reads exits is =
    let ends : is_exit e.kind ≡ true = ap is_exit exits in
    let called : is_part e.name ≡ true =
    ap (λ (o : Option PartKind). elim o [ None ↦ false | Some x ↦ true ])
    (subst (λ (s : PartSort). KindOf s (part_kind e.name)) is (kind-of e.name)) in
    let none : left (e ∷ es) ≡ [] =
    ap (λ (t : Bool). chunks (pieces (cond (t && is_exit e.kind) [] (e ∷ inside_part es)))) called
    ∙ ap (λ (t : Bool). chunks (pieces (cond t [] (e ∷ inside_part es)))) ends in
    let last : kind ≡ Exit = fresh-none kind (subst (Fresh kind) none fresh) in
    let at : Stays p e = stays bytes p kind e es along (ap (λ (k : Kind). is_pair k e.kind) last) in
    let gone : Gone (text_to bytes e.point.index text) read =
    subst (λ (j : ℕ). Gone (text_to bytes j text) read) at.index
    (subst (λ (cs : List Chunk). Reads cs (text_to bytes p.index text) read) none reads) in
    let known : is_told (role e.name) ≡ true = told-text e.name ∙ ap is_text is in
    let tells : told_by bytes e.kind (role e.name) e.point (Some text) ≡ read ∷ [] =
    exit-told bytes e.kind (role e.name) e.point text read exits known gone in
    let here : Bool = is_exit e.kind && (0 == 0) && not (is_linked e) in
    let deep : chunks_in_parts 0 es ≡ true =
    (and_parts here (chunks_in_parts 0 es)
    (sym (cond-true (is_part e.name) (here && chunks_in_parts 0 es)
    (cond (is_linked e) ((0 == 0) && is_chunk e es) (may_be_in_part e.kind e.name)
    && chunks_in_parts (depth_following e.kind 1) es) called) ∙ depth)).1 in
    let next : Option Text = text_following bytes e.kind (role e.name) e.point (Some text) in
    let rest : told bytes next es ≡ part_texts bytes (parts es) =
    local.out e.point e.kind es next 0 (shorter n e es size) (along-next bytes p kind e es along)
    (subst (λ (s : Phase). Runs phases s es) (exit-state e.kind e.name Within TextPart exits is) runs.1) deep in
    let same : parts (e ∷ es) ≡ parts es =
    ap (λ (k : Kind). part_at k (part_kind e.name) es ++ parts es) exits in
    ap (λ (l : List (List ℕ)). l ++ told bytes next es) tells
    ∙ ap (λ (l : List (List ℕ)). read ∷ l) rest
    ∙ ap (λ (l : List ℕ). l ∷ part_texts bytes (parts es)) (sym (append-nil read))
    ∙ ap (λ (cs : List Chunk). (read ++ read_chunks bytes true true cs) ∷ part_texts bytes (parts es)) (sym none)
    ∙ ap (λ (ps : List Part). (read ++ read_chunks bytes true true (left (e ∷ es))) ∷ part_texts bytes ps) (sym same)

-- whitespace
in-white : InWhite ≡ Out → ⊥
in-white e = cc

white-comes : (bytes : List ℕ) (n : ℕ) → Local bytes n → (p : Point) (kind : Kind) (e : Event) (es : List Event)
    (text : Text) (read : List ℕ) →
    length (e ∷ es) ≤ suc n → Along bytes p kind (e ∷ es) → Runs phases Within (e ∷ es) →
    chunks_in_parts 1 (e ∷ es) ≡ true → InPart bytes (e ∷ es) → text.from ≤ byte_at p →
    Reads (left (e ∷ es)) (text_to bytes p.index text) read → e.kind ≡ Enter → part_sort e.name ≡ WhitePiece →
    Claim bytes text read (e ∷ es)
white-comes bytes n local p kind e [] text read size along runs depth part from reads enters is =
    absurd
    (in-white
    (sym (enter-state e.kind e.name Within WhitePiece enters is)
    ∙ top-out (following_state phases e.kind e.name Within) runs.1))
white-comes bytes n local p kind e (f ∷ es) text read size along runs depth part from reads enters is =
    let runs_in : Runs phases InWhite (f ∷ es) = subst (λ (s : Phase). Runs phases s (f ∷ es))
    (enter-state e.kind e.name Within WhitePiece enters is) runs.1 in
    let ends = may-white f.kind (part_sort f.name) runs_in.0 in
    let apart : is_part e.name ≡ false = inner-apart e.name WhitePiece is refl in
    let apart_end : is_part f.name ≡ false = inner-apart f.name WhitePiece ends.1 refl in
    let called : is_data e.name ≡ false = sym (chunk-data e.name) ∙ ap is_chunk_sort is in
    let deep = inside-depth 0 e (f ∷ es) depth apart in
    let deep_in : chunks_in_parts 2 (f ∷ es) ≡ true = subst (λ (d : ℕ). chunks_in_parts d (f ∷ es) ≡ true)
    (depth-enter e.kind 1 enters) deep.1 in
    let deep_end = inside-depth 1 f es deep_in apart_end in
    let i : Inner bytes p e (f ∷ es) WhitePiece = inner-of bytes p kind e (f ∷ es) WhitePiece is refl
    (other-unlinked e (f ∷ es) called deep.0) along part in
    let j : Inner bytes e.point f es WhitePiece = inner-of bytes e.point e.kind f es WhitePiece ends.1 refl
    (deeper-unlinked 1 f es refl deep_end.0) i.along i.part in
    let at : Stays p e = stays-enter bytes p kind e (f ∷ es) along enters in
    let on : at_or_before e.point f.point ≡ true = i.along.forward.0 in
    let before : text.from ≤ byte_at e.point = subst (λ (b : ℕ). text.from ≤ b) at.byte from in
    let g : Gains bytes text e.point f.point = gains bytes text e.point f.point before
    (index-before e.point f.point on) in
    let blank : is_blank g.more ≡ true = gains-white bytes text e.point f.point g
    (white-pair bytes e f es apart apart_end enters ends.0 (sym (white-space e.name) ∙ ap is_white_sort is) part) in
    let later : Reads (left es) (text_to bytes e.point.index text) read =
    subst (λ (k : ℕ). Reads (left es) (text_to bytes k text) read) at.index
    (subst (λ (cs : List Chunk). Reads cs (text_to bytes p.index text) read) (i.left_is ∙ j.left_is) reads) in
    let quiet = quiet-told bytes e.kind (role e.name) e.point (Some text)
    (subst (λ (s : PartSort). role_of s (role e.name)) is (piece-role e.name)) in
    let quiet_end = quiet-told bytes f.kind (role f.name) f.point (Some text)
    (subst (λ (s : PartSort). role_of s (role f.name)) ends.1 (piece-role f.name)) in
    claim-over bytes text text read e (f ∷ es) i.apart i.unlinked quiet.0 quiet.1
    (claim-over bytes text text read f es j.apart j.unlinked quiet_end.0 quiet_end.1
    (local.within f.point f.kind es text read (omega (arith, size)) j.along
    (subst (λ (s : Phase). Runs phases s es) (exit-state f.kind f.name InWhite WhitePiece ends.0 ends.1) runs_in.1)
    (subst (λ (d : ℕ). chunks_in_parts d es ≡ true) (depth-exit f.kind 1 ends.0) deep_end.1) j.part
    (fresh-exit f.kind (left es) ends.0) (le_trans before (byte-before e.point f.point on))
    (subst (λ (t : List ℕ). Reads (left es) t read) (sym g.is)
    (reads-white (left es) (text_to bytes e.point.index text) g.more read blank later))))

-- a chunk
chunk-sort : (sort : PartSort) → is_chunk_sort sort ≡ true → sort ≡ ChunkPiece
chunk-sort ChunkPiece h = refl
chunk-sort _ h = cc

no-chunk : (e : Event) → is_chunk e [] ≡ true → ⊥
no-chunk e h = cc

chunk-over : (bytes : List ℕ) (text : Text) (read now : List ℕ) (e f : Event) (es : List Event) →
    is_part e.name ≡ false → is_part f.name ≡ false →
    told bytes (Some text) (e ∷ f ∷ es) ≡ told bytes (Some text) es → left (e ∷ f ∷ es) ≡ chunk_with e f ∷ left es →
    now ++ read_chunks bytes true true (left es) ≡ read ++ read_chunks bytes true true (chunk_with e f ∷ left es) →
    Claim bytes text now es → Claim bytes text read (e ∷ f ∷ es)
chunk-over bytes text read now e f es apart apart_end over here same claim =
    over
    ∙ claim
    ∙ ap (λ (l : List ℕ). l ∷ part_texts bytes (parts es)) same
    ∙ ap (λ (cs : List Chunk). (read ++ read_chunks bytes true true cs) ∷ part_texts bytes (parts es)) (sym here)
    ∙ ap (λ (ps : List Part). (read ++ read_chunks bytes true true (left (e ∷ f ∷ es))) ∷ part_texts bytes ps)
    (sym (parts-next e (f ∷ es) apart ∙ parts-next f es apart_end))

chunk-comes : (bytes : List ℕ) (n : ℕ) → Local bytes n → (p : Point) (kind : Kind) (e : Event) (es : List Event)
    (text : Text) (read : List ℕ) →
    length (e ∷ es) ≤ suc n → Along bytes p kind (e ∷ es) → Runs phases Within (e ∷ es) →
    chunks_in_parts 1 (e ∷ es) ≡ true → InPart bytes (e ∷ es) → text.from ≤ byte_at p →
    Reads (left (e ∷ es)) (text_to bytes p.index text) read → e.kind ≡ Enter → part_sort e.name ≡ ChunkPiece →
    Claim bytes text read (e ∷ es)
chunk-comes bytes n local p kind e [] text read size along runs depth part from reads enters is =
    let apart : is_part e.name ≡ false = inner-apart e.name ChunkPiece is refl in
    let deep = inside-depth 0 e [] depth apart in
    absurd (no-chunk e (data-linked e [] enters (sym (chunk-data e.name) ∙ ap is_chunk_sort is) deep.0).1)
chunk-comes bytes n local p kind e (f ∷ es) text read size along runs depth part from reads enters is =
    let chunk : Chunk = chunk_with e f in
    let apart : is_part e.name ≡ false = inner-apart e.name ChunkPiece is refl in
    let deep = inside-depth 0 e (f ∷ es) depth apart in
    let linked = data-linked e (f ∷ es) enters (sym (chunk-data e.name) ∙ ap is_chunk_sort is) deep.0 in
    let pair = chunk-parts e f es linked.1 in
    let ends : part_sort f.name ≡ ChunkPiece = chunk-sort (part_sort f.name) (chunk-data f.name ∙ pair.3) in
    let apart_end : is_part f.name ≡ false = inner-apart f.name ChunkPiece ends refl in
    let deep_in : chunks_in_parts 2 (f ∷ es) ≡ true = subst (λ (d : ℕ). chunks_in_parts d (f ∷ es) ≡ true)
    (depth-enter e.kind 1 enters) deep.1 in
    let deep_end = inside-depth 1 f es deep_in apart_end in
    let along_in : Along bytes e.point e.kind (f ∷ es) = along-next bytes p kind e (f ∷ es) along in
    let runs_in : Runs phases InChunk (f ∷ es) = subst (λ (s : Phase). Runs phases s (f ∷ es))
    (enter-state e.kind e.name Within ChunkPiece enters is) runs.1 in
    let first : ChunkFirst bytes chunk es = chunk-first bytes e f es apart apart_end enters pair.2 linked.0 part in
    let here : left (e ∷ f ∷ es) ≡ chunk ∷ left es = left-pair e f es apart apart_end enters pair.2 linked.0 in
    let at : Stays p e = stays-enter bytes p kind e (f ∷ es) along enters in
    let on : at_or_before e.point f.point ≡ true = along_in.forward.0 in
    let before : text.from ≤ byte_at e.point = subst (λ (b : ℕ). text.from ≤ b) at.byte from in
    let g : Gains bytes text e.point f.point = gains bytes text e.point f.point before
    (index-before e.point f.point on) in
    let placed : is_placed bytes e.point ≡ true =
    (and_parts (is_placed bytes e.point) (are_placed bytes (f ∷ es)) along.placed).0 in
    let takes : Takes (chunk_text bytes chunk) g.more = gains-chunk bytes text e.point f.point g
    (placed-facts bytes e.point placed).within (filled-first (chunk_text bytes chunk) [] first.some).1 in
    let goes : Goes (text_to bytes e.point.index text) read =
    subst (λ (k : ℕ). Goes (text_to bytes k text) read) at.index
    (subst (λ (cs : List Chunk). Reads cs (text_to bytes p.index text) read) here reads) in
    let next : NextRead bytes chunk (left es) (text_to bytes e.point.index text ++ g.more) read =
    chunk-reads bytes chunk (left es) (text_to bytes e.point.index text) g.more read
    (same_place chunk.after (part_end es)) first.one first.some first.last takes goes in
    let quiet = quiet-told bytes e.kind (role e.name) e.point (Some text)
    (subst (λ (s : PartSort). role_of s (role e.name)) is (piece-role e.name)) in
    let quiet_end = quiet-told bytes f.kind (role f.name) f.point (Some text)
    (subst (λ (s : PartSort). role_of s (role f.name)) ends (piece-role f.name)) in
    let rest : Claim bytes text next.now es =
    local.within f.point f.kind es text next.now (omega (arith, size)) (along-next bytes e.point e.kind f es along_in)
    (subst (λ (s : Phase). Runs phases s es) (exit-state f.kind f.name InChunk ChunkPiece pair.2 ends) runs_in.1)
    (subst (λ (d : ℕ). chunks_in_parts d es ≡ true) (depth-exit f.kind 1 pair.2) deep_end.1) first.rest
    (fresh-exit f.kind (left es) pair.2) (le_trans before (byte-before e.point f.point on))
    (subst (λ (t : List ℕ). Reads (left es) t next.now) (sym g.is) next.reads) in
    chunk-over bytes text read next.now e f es apart apart_end
    (told-over bytes (Some text) (Some text) e (f ∷ es) quiet.0 quiet.1
    ∙ told-over bytes (Some text) (Some text) f es quiet_end.0 quiet_end.1)
    here next.same rest

within-step : (bytes : List ℕ) (n : ℕ) → Local bytes n → (p : Point) (kind : Kind) (e : Event) (es : List Event)
    (text : Text) (read : List ℕ) →
    length (e ∷ es) ≤ suc n → Along bytes p kind (e ∷ es) → Runs phases Within (e ∷ es) →
    chunks_in_parts 1 (e ∷ es) ≡ true → InPart bytes (e ∷ es) → Fresh kind (left (e ∷ es)) → text.from ≤ byte_at p →
    Reads (left (e ∷ es)) (text_to bytes p.index text) read → Claim bytes text read (e ∷ es)
within-step bytes n local p kind e es text read size along runs depth part fresh from reads =
    go (may-within e.kind (part_sort e.name) runs.0)
  where
    go : Coming e.kind (part_sort e.name) → Claim bytes text read (e ∷ es)
    go (PartEnds exits is) =
        part-ends bytes n local p kind e es text read size along runs depth fresh reads exits is
    go (ChunkComes enters is) =
        chunk-comes bytes n local p kind e es text read size along runs depth part from reads enters is
    go (WhiteComes enters is) =
        white-comes bytes n local p kind e es text read size along runs depth part from reads enters is
    go (PrefixComes enters is) =
        part-enters bytes n local p kind e es text read size along runs depth part reads enters is

-- Outside of text parts.

out-apart : (sort : PartSort) → is_text sort ≡ false → (kind : Kind) (name : Name) → part_sort name ≡ sort →
    following_state phases kind name Out ≡ Out
out-apart sort h Enter name is = ap (λ (s : PartSort). entered_by s Out) is ∙ go sort h
  where
    go : (sort : PartSort) → is_text sort ≡ false → entered_by sort Out ≡ Out
    go TextPart h = cc
    go _ h = refl
out-apart sort h Exit name is = ap (λ (s : PartSort). exited_by s Out) is ∙ go sort
  where
    go : (sort : PartSort) → exited_by sort Out ≡ Out
    go TextPart = refl
    go _ = refl

-- a part that is no text of the tree is not read
none-read : (bytes : List ℕ) (sort : PartSort) → is_text sort ≡ false → (kind : Kind) (held : Option PartKind) →
    KindOf sort held → (es : List Event) (rest : List Part) →
    part_texts bytes (part_at kind held es ++ rest) ≡ part_texts bytes rest
none-read bytes sort h Exit held is es rest = refl
none-read bytes sort h Enter None is es rest = refl
none-read bytes sort h Enter (Some k.String) is es rest = go (left es)
  where
    go : (cs : List Chunk) → part_texts bytes (part_of k.String cs ++ rest) ≡ part_texts bytes rest
    go [] = refl
    go (chunk ∷ cs) = refl
none-read bytes TextPart h Enter (Some k.Text) is es rest = cc
none-read bytes _ h Enter (Some k.Text) is es rest = absurd is

some-depth : (depth : ℕ) (e : Event) (es : List Event) → chunks_in_parts depth (e ∷ es) ≡ true →
    (next : ℕ) × (chunks_in_parts next es ≡ true)
some-depth zero e es h =
    let next : ℕ = cond (is_part e.name && not (is_exit e.kind)) 1 0 in
    (next, (and_parts (not (is_linked e)) (chunks_in_parts next es) h).1)
some-depth (suc depth) e es h = go (is_part e.name) h
  where
    ends : Bool
    ends = is_exit e.kind && (depth == 0) && not (is_linked e)

    here : Bool
    here = cond (is_linked e) ((depth == 0) && is_chunk e es) (may_be_in_part e.kind e.name)

    go : (b : Bool) →
        cond b (ends && chunks_in_parts 0 es) (here && chunks_in_parts (depth_following e.kind (suc depth)) es) ≡
        true →
        (next : ℕ) × (chunks_in_parts next es ≡ true)
    go true h = (0, (and_parts ends (chunks_in_parts 0 es) h).1)
    go false h = (
      depth_following e.kind (suc depth),
      (and_parts here (chunks_in_parts (depth_following e.kind (suc depth)) es) h).1,
    )

-- a text part begins
enter-depth : (depth : ℕ) (e : Event) (es : List Event) → chunks_in_parts depth (e ∷ es) ≡ true →
    is_part e.name ≡ true → is_exit e.kind ≡ false → chunks_in_parts 1 es ≡ true
enter-depth zero e es h called enters =
    let next : ℕ = cond (is_part e.name && not (is_exit e.kind)) 1 0 in
    let is : next ≡ 1 = ap (λ (b : Bool). cond (b && not (is_exit e.kind)) 1 0) called
    ∙ ap (λ (b : Bool). cond (not b) 1 0) enters in
    subst (λ (d : ℕ). chunks_in_parts d es ≡ true) is
    (and_parts (not (is_linked e)) (chunks_in_parts next es) h).1
enter-depth (suc depth) e es h called enters = go (is_part e.name) called h
  where
    here : Bool
    here = cond (is_linked e) ((depth == 0) && is_chunk e es) (may_be_in_part e.kind e.name)

    go : (b : Bool) → b ≡ true →
        cond b (is_exit e.kind && (depth == 0) && not (is_linked e) && chunks_in_parts 0 es)
        (here && chunks_in_parts (depth_following e.kind (suc depth)) es) ≡
        true →
        chunks_in_parts 1 es ≡ true
    go true e_b h =
        let a = and_parts (is_exit e.kind && (depth == 0) && not (is_linked e)) (chunks_in_parts 0 es) h in
        let b = and_parts (is_exit e.kind && (depth == 0)) (not (is_linked e)) a.0 in
        let c = and_parts (is_exit e.kind) (depth == 0) b.0 in
        absurd (both_ways (is_exit e.kind) enters c.0)
    go false e_b h = absurd (both_ways false refl e_b)

-- its chunks
record Begins (bytes : List ℕ) (p : Point) (es : List Event) : Type 0 where
  begins : begins_at p (left es) ≡ true
  part : InPart bytes es

begins-of : (bytes : List ℕ) (p : Point) (es : List Event) → is_whole_part bytes Enter (Some k.Text) p es ≡ true →
    are_filled bytes (left es) ≡ true → Begins bytes p es
begins-of bytes p es h filled =
    let begins : Bool = begins_at p (left es) in
    let white : Bool = list_all (is_white_piece bytes) (pieces (inside_part es)) in
    let lines : Bool = are_lines bytes (part_end es) (left es) in
    let a = and_parts (begins && white && lines) (list_all (links_kind k.Text) (inside_part es)) h in
    let b = and_parts (begins && white) lines a.0 in
    let c = and_parts begins white b.0 in
    record { begins = c.0; part = record { white = c.1; lines = b.1; filled = filled } }

first-filled : (bytes : List ℕ) (cs : List Chunk) (rest : List Part) →
    list_all (is_filled_part bytes) (part_of k.Text cs ++ rest) ≡ true → are_filled bytes cs ≡ true
first-filled bytes [] rest h = refl
first-filled bytes (chunk ∷ cs) rest h =
    (and_parts (are_filled bytes (chunk ∷ cs)) (list_all (is_filled_part bytes) rest) h).0

first-read : (bytes : List ℕ) (p : Point) (cs : List Chunk) (rest : List Part) → begins_at p cs ≡ true →
    part_texts bytes (part_of k.Text cs ++ rest) ≡ read_chunks bytes true true cs ∷ part_texts bytes rest
first-read bytes p [] rest h = cc
first-read bytes p (chunk ∷ cs) rest h = refl

first-fresh : (p : Point) (kind : Kind) (cs : List Chunk) → begins_at p cs ≡ true → Fresh kind cs
first-fresh p kind [] h = cc
first-fresh p Enter (chunk ∷ cs) h = tt
first-fresh p Exit (chunk ∷ cs) h = tt

first-reads : (p : Point) (cs : List Chunk) (text : List ℕ) → begins_at p cs ≡ true → text ≡ [] → Reads cs text []
first-reads p [] text h e = cc
first-reads p (chunk ∷ cs) text h e = subst (λ (t : List ℕ). Goes t []) (sym e) goes-start

text-begins : (bytes : List ℕ) (n : ℕ) → Local bytes n → (p : Point) (kind : Kind) (e : Event) (es : List Event)
    (text : Option Text) (depth : ℕ) →
    length (e ∷ es) ≤ suc n → Along bytes p kind (e ∷ es) → Runs phases Out (e ∷ es) →
    chunks_in_parts depth (e ∷ es) ≡ true → e.kind ≡ Enter → part_sort e.name ≡ TextPart →
    told bytes text (e ∷ es) ≡ part_texts bytes (parts (e ∷ es))
text-begins bytes n local p kind e es text depth size along runs deep enters is =
    let held : part_kind e.name ≡ Some k.Text =
    subst (λ (s : PartSort). KindOf s (part_kind e.name)) is (kind-of e.name) in
    let called : is_part e.name ≡ true =
    ap (λ (o : Option PartKind). elim o [ None ↦ false | Some x ↦ true ]) held in
    let at : part_at e.kind (part_kind e.name) es ≡ part_of k.Text (left es) =
    ap (λ (k : Kind). part_at k (part_kind e.name) es) enters
    ∙ ap (λ (o : Option PartKind). part_at Enter o es) held in
    let filled : are_filled bytes (left es) ≡ true =
    first-filled bytes (left es) (parts es)
    (subst (λ (ps : List Part). list_all (is_filled_part bytes) (ps ++ parts es) ≡ true) at along.filled) in
    let whole : is_whole_part bytes Enter (Some k.Text) e.point es ≡ true =
    subst (λ (o : Option PartKind). is_whole_part bytes Enter o e.point es ≡ true) held
    (subst (λ (x : Kind). is_whole_part bytes x (part_kind e.name) e.point es ≡ true) enters
    (and_parts (is_whole_part bytes e.kind (part_kind e.name) e.point es) (are_whole_parts bytes es) along.whole).0) in
    let b : Begins bytes e.point es = begins-of bytes e.point es whole filled in
    let known : is_told (role e.name) ≡ true = told-text e.name ∙ ap is_text is in
    let start : Text = begun e.point in
    let empty : text_to bytes e.point.index start ≡ [] =
    range-none bytes (byte_at e.point) e.point.index (byte-after e.point) in
    let claim : Claim bytes start [] es =
    local.within e.point e.kind es start [] (shorter n e es size) (along-next bytes p kind e es along)
    (subst (λ (s : Phase). Runs phases s es) (enter-state e.kind e.name Out TextPart enters is) runs.1)
    (enter-depth depth e es deep called (ap is_exit enters)) b.part (first-fresh e.point e.kind (left es) b.begins)
    (omega arith) (first-reads e.point (left es) (text_to bytes e.point.index start) b.begins empty) in
    told-over bytes text (Some start) e es (enter-told bytes e.kind (role e.name) e.point text enters)
    (enter-text bytes e.kind (role e.name) e.point text enters known)
    ∙ claim
    ∙ sym (first-read bytes e.point (left es) (parts es) b.begins)
    ∙ ap (λ (ps : List Part). part_texts bytes (ps ++ parts es)) (sym at)

no-text_exit : (kind : Kind) → may_step kind TextPart Out ≡ true → kind ≡ Enter
no-text_exit Enter h = refl
no-text_exit Exit h = cc

text-sort : (sort : PartSort) → is_text sort ≡ true → sort ≡ TextPart
text-sort TextPart h = refl
text-sort _ h = cc

out-step : (bytes : List ℕ) (n : ℕ) → Local bytes n → (p : Point) (kind : Kind) (e : Event) (es : List Event)
    (text : Option Text) (depth : ℕ) →
    length (e ∷ es) ≤ suc n → Along bytes p kind (e ∷ es) → Runs phases Out (e ∷ es) →
    chunks_in_parts depth (e ∷ es) ≡ true → told bytes text (e ∷ es) ≡ part_texts bytes (parts (e ∷ es))
out-step bytes n local p kind e es text depth size along runs deep = go (is_text (part_sort e.name)) refl
  where
    go : (b : Bool) → is_text (part_sort e.name) ≡ b → told bytes text (e ∷ es) ≡ part_texts bytes (parts (e ∷ es))
    go true h =
        let is : part_sort e.name ≡ TextPart = text-sort (part_sort e.name) h in
        text-begins bytes n local p kind e es text depth size along runs deep
        (no-text_exit e.kind (subst (λ (s : PartSort). may_step e.kind s Out ≡ true) is runs.0)) is
    go false h =
        let next : (d : ℕ) × (chunks_in_parts d es ≡ true) = some-depth depth e es deep in
        let rest : told bytes (text_following bytes e.kind (role e.name) e.point text) es ≡ part_texts bytes (parts es) =
        local.out e.point e.kind es (text_following bytes e.kind (role e.name) e.point text) next.0
        (shorter n e es size) (along-next bytes p kind e es along)
        (subst (λ (s : Phase). Runs phases s es) (out-apart (part_sort e.name) h e.kind e.name refl) runs.1) next.1 in
        told-over bytes text (text_following bytes e.kind (role e.name) e.point text) e es
        (none-told bytes e.kind (role e.name) e.point text (told-text e.name ∙ h)) refl
        ∙ rest
        ∙ sym (none-read bytes (part_sort e.name) h e.kind (part_kind e.name) (kind-of e.name) es (parts es))

-- All events.

within-out : Within ≡ Out → ⊥
within-out e = cc

prefix-out : InPrefix ≡ Out → ⊥
prefix-out e = cc

mark-out : InMark ≡ Out → ⊥
mark-out e = cc

no-more : (e : Event) (es : List Event) → length (e ∷ es) ≤ zero → ⊥
no-more e es h = omega (arith, h)

local : (bytes : List ℕ) (n : ℕ) → Local bytes n
local bytes zero = record {
  out = none;
  within = λ p kind es text read size along runs depth part fresh from reads. go_within es size runs;
  prefixed = λ p kind es text read size along runs depth part reads. go_prefixed es size runs;
  marked = λ p kind es text read size along runs depth part reads. go_marked es size runs;
}
  where
    none : (p : Point) (kind : Kind) (es : List Event) (text : Option Text) (depth : ℕ) → length es ≤ zero →
        Along bytes p kind es → Runs phases Out es → chunks_in_parts depth es ≡ true →
        told bytes text es ≡ part_texts bytes (parts es)
    none p kind [] text depth size along runs deep = refl
    none p kind (e ∷ es) text depth size along runs deep = absurd (no-more e es size)

    go_within : (es : List Event) → length es ≤ zero → Runs phases Within es → {A : Type 0} → A
    go_within [] size runs = absurd (within-out (top-out Within runs))
    go_within (e ∷ es) size runs = absurd (no-more e es size)

    go_prefixed : (es : List Event) → length es ≤ zero → Runs phases InPrefix es → {A : Type 0} → A
    go_prefixed [] size runs = absurd (prefix-out (top-out InPrefix runs))
    go_prefixed (e ∷ es) size runs = absurd (no-more e es size)

    go_marked : (es : List Event) → length es ≤ zero → Runs phases InMark es → {A : Type 0} → A
    go_marked [] size runs = absurd (mark-out (top-out InMark runs))
    go_marked (e ∷ es) size runs = absurd (no-more e es size)
local bytes (suc n) = step (local bytes n)
  where
    step : Local bytes n → Local bytes (suc n)
    step rest = record {
      out = out;
      within = within;
      prefixed = prefixed;
      marked = marked;
    }
      where
        out : (p : Point) (kind : Kind) (es : List Event) (text : Option Text) (depth : ℕ) → length es ≤ suc n →
            Along bytes p kind es → Runs phases Out es → chunks_in_parts depth es ≡ true →
            told bytes text es ≡ part_texts bytes (parts es)
        out p kind [] text depth size along runs deep = refl
        out p kind (e ∷ es) text depth size along runs deep =
            out-step bytes n rest p kind e es text depth size along runs deep

        within : (p : Point) (kind : Kind) (es : List Event) (text : Text) (read : List ℕ) → length es ≤ suc n →
            Along bytes p kind es → Runs phases Within es → chunks_in_parts 1 es ≡ true → InPart bytes es →
            Fresh kind (left es) → text.from ≤ byte_at p → Reads (left es) (text_to bytes p.index text) read →
            Claim bytes text read es
        within p kind [] text read size along runs depth part fresh from reads =
            absurd (within-out (top-out Within runs))
        within p kind (e ∷ es) text read size along runs depth part fresh from reads =
            within-step bytes n rest p kind e es text read size along runs depth part fresh from reads

        prefixed : (p : Point) (kind : Kind) (es : List Event) (text : Text) (read : List ℕ) → length es ≤ suc n →
            Along bytes p kind es → Runs phases InPrefix es → chunks_in_parts 2 es ≡ true → InPart bytes es →
            Reads (left es) text.front read → Claim bytes text read es
        prefixed p kind [] text read size along runs depth part reads = absurd (prefix-out (top-out InPrefix runs))
        prefixed p kind (e ∷ es) text read size along runs depth part reads =
            prefixed-step bytes n rest p kind e es text read size along runs depth part reads

        marked : (p : Point) (kind : Kind) (es : List Event) (text : Text) (read : List ℕ) → length es ≤ suc n →
            Along bytes p kind es → Runs phases InMark es → chunks_in_parts 3 es ≡ true → InPart bytes es →
            Reads (left es) text.front read → Claim bytes text read es
        marked p kind [] text read size along runs depth part reads = absurd (mark-out (top-out InMark runs))
        marked p kind (e ∷ es) text read size along runs depth part reads =
            marked-step bytes n rest p kind e es text read size along runs depth part reads

-- What the events tell is what is read of the parts.
pub told-parts : (bytes : List ℕ) (events : List Event) (p : Point) (depth : ℕ) → Along bytes p Exit events →
    Runs phases Out events → chunks_in_parts depth events ≡ true →
    told bytes None events ≡ part_texts bytes (parts events)
told-parts bytes events p depth along runs deep =
    (local bytes (length events)).out p Exit events None depth (omega arith) along runs deep
