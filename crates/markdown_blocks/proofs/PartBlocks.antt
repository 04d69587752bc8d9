-- What flow reads of a text from a point on is a block list, whose text parts are lines.
use Rattle.md_engine.specs.declared.tokenizer.held_leaf.HeldLeaf.TheVariants as held_leaf
use Rattle.std.proofs.Common.{◌≡◌, ◌^◌, ◌<◌, ℕ, suc, true, List, [], ◌∷◌, drop, length, refl, ap, sym, ◌∙◌}
use Rattle.std.proofs.Common.{subst}
use Rattle.std.specs.List.{All, list_all}
use Rattle.std.proofs.lemmas.Bool.{and_from, and_parts}
use Rattle.md_engine.specs.declared.configuration.ParseOptions.{ParseOptions}
use Rattle.md_engine.specs.declared.event.Event.{Event}
use Rattle.md_engine.specs.declared.event.Name.TheVariants as n
use Rattle.md_engine.specs.declared.event.Point.{Point}
use Rattle.md_engine.specs.Place.{IsPlaced, first_point}
use Rattle.md_containers.specs.Listed.{listed}
use Rattle.md_containers.proofs.ListedBlocks.{listed-blocks}
use Rattle.md_containers.proofs.ListedKept.{listed-pieces, listed-placed}
use Rattle.md_meaning.specs.Texts.{split_lines}
use Rattle.std.specs.Prelude.{None}
use Rattle.std.proofs.lemmas.List.Elements.{All-append, All-cons, All-head, All-nil, All-tail}
use Rattle.std.proofs.Common.{append-nil}
use Rattle.md_events.specs.Events.Inline.{IsPart, Part, chunk_placed, ends_whole, is_line, plain_chunk}
use Rattle.md_events.specs.Events.Inline.{plain_chunks, together}
use Rattle.std.specs.Prelude.{IsTrue}
use Rattle.std.proofs.Common.{rules}
use Rattle.md_events.specs.Events.Inline.{Covers, Piece, pieces}
use Rattle.md_events.specs.Events.Nested.{pair}
use Rattle.md_events.specs.Events.Places.{are_placed, at_or_before, is_placed}
use Rattle.md_events.specs.Events.Tiles.{IsBlockList, end_point, parts}
use Rattle.md_events.specs.Events.Grammar.{Expression}
use Rattle.md_events.specs.Events.Grammar.{blocks}
use Rattle.md_events.specs.Events.Grammar.{is_whole}
use Rattle.md_containers.specs.Unlisted.{keeps_unlisted}
use Rattle.md_containers.specs.Unlisted.{unlisted_left}
use Rattle.md_events.specs.Lined.{AreLines, IsLine}
use Rattle.md_events.specs.Parts.{ArePlaced, IsChunk}
use Rattle.md_events.specs.Substituted.{Asked, EachAsked, chunk_of, wanted}
use Rattle.md_events.specs.TextPart.{text_kind, wants_text}
use Rattle.md_events.specs.declared.inline.Chunk.{Chunk}
use Rattle.md_events.proofs.AskedLemmas.{AskedBy}
use Rattle.md_events.proofs.InlineLemmas.{plain-placed}
use Rattle.md_events.proofs.PlainSteps.{lines-each}
use Rattle.md_events.proofs.TextParts.{placed-events}
use Rattle.md_events.proofs.WalkedLemmas.{placed-point}
use Rattle.md_events.proofs.PartWalks.{Begins, Ends, IsContinued, Stays, Walk, unlinked-unwanted, walk-blocks}
use Rattle.md_events.proofs.PartsLemmas.{EachPart, parts-are}
use Rattle.md_events.proofs.ReachedLemmas.{events-placed}
use Rattle.proof_frame.specs.Row.{Row}
use Rattle.proof_frame.proofs.PartsValid.{valid-outside}
use Rattle.proof_frame.proofs.PiecesLemmas.{tiled-pair}
use Rattle.proof_leaf_laws.proofs.Frontmatter.Whole.{ToLine}
use Rattle.proof_rows.specs.BlockList.{tabled_groups}
use Rattle.proof_rows.specs.Rows.{groups}
use Rattle.proof_rows.specs.TextRows.{text_rows}
use Rattle.proof_rows.specs.WithoutMdx.{IsWithoutMdx}
use Rattle.proof_rows.proofs.EndingRows.{blocks-endings}
use Rattle.proof_rows.proofs.GrammarRows.{blocks-grammar}
use Rattle.proof_rows.proofs.RowFacts.{AreRows}
use Rattle.proof_rows.proofs.TextAre.{MayBegin, from-are}
use Rattle.proof_rows.proofs.TileCovers.{blocks-cover}
use Rattle.proof_rows.proofs.TileParts.{blocks-are_valid, blocks-chunks, blocks-nested}
use Rattle.proof_rows.proofs.TileReads.{end-unread}
use Rattle.markdown_blocks.proofs.FlowReads.{text-quiet}
use Rattle.markdown_blocks.proofs.PartHeld.{part-held}
use Rattle.markdown_blocks.proofs.PartLaid.{pieces-following}
use Rattle.markdown_blocks.proofs.PartPieces.{part-pieces}

-- blocks, and nothing before them, keep the grammar
form-of : (text : Expression) (events : List Event) → is_whole (unlisted_left text (blocks ∷ []) events) ≡ true →
    keeps_unlisted text events ≡ true
unfolding keeps_unlisted
form-of text events h = rw h refl

first-before : (p : Point) → IsTrue (at_or_before first_point p)
first-before p = search rules

-- so it is, where its events are at points of the text
pub part-blocks : (options : ParseOptions) (bytes : List ℕ) (p : Point) → IsWithoutMdx options →
    length bytes < 2 ^ 61 → MayBegin bytes p → (events : List Event) →
    events ≡ listed bytes (tabled_groups options bytes (groups (text_rows options bytes p))) →
    ArePlaced bytes events → IsBlockList bytes events
part-blocks options bytes p built small begins events same placed =
    let lines : List (List ℕ) = split_lines (drop p.index bytes) in
    let rows : List Row = text_rows options bytes p in
    let blocks : List Event = tabled_groups options bytes (groups rows) in
    let are : AreRows options bytes [] held_leaf.None p lines rows = from-are options bytes p built small begins in
    let quiet = text-quiet options bytes p in
    subst (IsBlockList bytes) (sym same)
    (listed-blocks bytes blocks
    (record {
      nested =
          blocks-nested options bytes p [] lines rows
          (record { matches = tt; closed = refl }, (tt, first-before p)) are;
      items = part-held options bytes p lines rows are;
      placed =
          sym (listed-placed bytes bytes blocks) ∙ ap (are_placed bytes) (sym same)
          ∙ events-placed bytes events placed;
      lines =
          blocks-are_valid options bytes [] held_leaf.None p [] lines rows (valid-outside bytes [] tt tt) (refl, refl)
          are quiet;
      chunks =
          blocks-chunks options bytes [] held_leaf.None p [] lines rows (valid-outside bytes [] tt tt) (refl, refl)
          are quiet;
      grammar =
          blocks-grammar options bytes p [] lines rows (ToLine (λ ys. refl) (λ text kind more h. form-of text more h))
          (end-unread options bytes p small) are quiet;
      pieces_are = part-pieces options bytes p lines rows are;
      endings =
          blocks-endings options bytes p [] lines rows (ToLine (λ ys. refl) (λ text kind more h. form-of text more h))
          (end-unread options bytes p small) are quiet;
    }))

-- Their innermost pairs lie side by side, from that point to the end of the text.
pub part-covers : (options : ParseOptions) (bytes : List ℕ) (p : Point) → IsWithoutMdx options →
    length bytes < 2 ^ 61 → MayBegin bytes p → (events : List Event) →
    events ≡ listed bytes (tabled_groups options bytes (groups (text_rows options bytes p))) →
    Covers p (pieces events) (end_point bytes)
part-covers options bytes p built small begins events same =
    let rows : List Row = text_rows options bytes p in
    let blocks : List Event = tabled_groups options bytes (groups rows) in
    subst (λ (ps : List Piece). Covers p ps (end_point bytes))
    (pieces-following n.Data p blocks ∙ sym (ap pieces same ∙ listed-pieces bytes blocks))
    (blocks-cover options bytes p (pair n.Data first_point p) (split_lines (drop p.index bytes)) rows
    (tiled-pair n.Data first_point p) (from-are options bytes p built small begins)).1

-- The text parts of a block list are lines.

abbrev AskedFor : (Part → Type 0) → Asked
AskedFor P held chunks = P (record { kind = text_kind held; chunks = chunks })

-- an event that stays asks for nothing
asked-more : (asked : Asked) (chunks : ℕ) (e : Event) (es : List Event) → wanted wants_text e ≡ None →
    EachAsked wants_text asked chunks es → EachAsked wants_text asked chunks (e ∷ es)
asked-more asked chunks e [] none h = tt
asked-more asked chunks e (f ∷ es) none h = subst (AskedBy wants_text asked chunks e f es) (sym none) h

asked-walk : (P : Part → Type 0) {left : List Chunk} {es : List Event} {parts : List Part} → Walk left es parts →
    EachPart P parts → EachAsked wants_text (AskedFor P) (length left) es
asked-walk P Ends each = tt
asked-walk P (Stays {e = e} {es = es} {left = left} unlinked outer walk) each =
    asked-more (AskedFor P) (length left) e es (unlinked-unwanted wants_text e unlinked) (asked-walk P walk each)
asked-walk P (Begins {e = e} {f = f} {es = es} {left = left} {held = held} is listed walk) each =
    subst (AskedBy wants_text (AskedFor P) 0 e f es) (sym is.holds)
    (subst
    (λ (list : List Chunk).
    AskedFor P held (chunk_of e f ∷ list) × EachAsked wants_text (AskedFor P) (length list) es) (sym listed)
    (each.0, asked-walk P walk each.1))
asked-walk P (IsContinued {e = e} {f = f} {es = es} {left = left} is walk) each =
    subst (AskedBy wants_text (AskedFor P) (suc (length left)) e f es) (sym is.holds) (asked-walk P walk each)

chunk-of : (bytes : List ℕ) → length bytes < 2 ^ 61 → (chunk : Chunk) → chunk_placed bytes chunk ≡ true →
    IsChunk bytes chunk
chunk-of bytes sized chunk placed =
    let ends : (is_placed bytes chunk.first ≡ true) ×
    (is_placed bytes chunk.after ≡ true) = and_parts (is_placed bytes chunk.first) (is_placed bytes chunk.after)
    placed in
    record {
      first = placed-point bytes sized chunk.first ends.0;
      after = placed-point bytes sized chunk.after ends.1;
    }

lines-of : (bytes : List ℕ) → length bytes < 2 ^ 61 → (chunks : List Chunk) →
    list_all (chunk_placed bytes) chunks ≡ true → list_all (is_line bytes) chunks ≡ true →
    list_all ends_whole chunks ≡ true → All (IsLine bytes) chunks
lines-of bytes sized [] placed lines whole = All-nil (IsLine bytes)
lines-of bytes sized (chunk ∷ chunks) placed lines whole =
    let at : (chunk_placed bytes chunk ≡ true) ×
    (list_all (chunk_placed bytes) chunks ≡ true) = and_parts (chunk_placed bytes chunk)
    (list_all (chunk_placed bytes) chunks) placed in
    let line : (is_line bytes chunk ≡ true) ×
    (list_all (is_line bytes) chunks ≡ true) = and_parts (is_line bytes chunk)
    (list_all (is_line bytes) chunks) lines in
    let ends : (ends_whole chunk ≡ true) ×
    (list_all ends_whole chunks ≡ true) = and_parts (ends_whole chunk) (list_all ends_whole chunks) whole in
    All-cons (IsLine bytes) chunk chunks
    (record {
      is = chunk-of bytes sized chunk at.0;
      line = line.0;
      whole = ends.0;
      placed =
          placed-events bytes sized (plain_chunk bytes chunk)
          (subst (λ (l : List Event). are_placed bytes l ≡ true) (append-nil (plain_chunk bytes chunk))
          (plain-placed bytes (chunk ∷ []) (and_from (chunk_placed bytes chunk) true at.0 refl)));
    })
    (lines-of bytes sized chunks at.1 line.1 ends.1)

-- a part that may be read is
part-lines : (bytes : List ℕ) → length bytes < 2 ^ 61 → (part : Part) → IsPart bytes part →
    AreLines bytes part.chunks
part-lines bytes sized part may = record {
  each =
      lines-of bytes sized part.chunks may.placed (lines-each bytes may.end part.chunks may.lines) may.whole;
  from = first_point;
  order = may.order;
}

each-lines : (bytes : List ℕ) → length bytes < 2 ^ 61 → (parts : List Part) → EachPart (IsPart bytes) parts →
    EachPart (λ part. AreLines bytes part.chunks) parts
each-lines bytes sized [] each = tt
each-lines bytes sized (part ∷ parts) each =
    (part-lines bytes sized part each.0, each-lines bytes sized parts each.1)

pub lines-asked : (bytes : List ℕ) (events : List Event) → length bytes < 2 ^ 61 → IsBlockList bytes events →
    EachAsked wants_text (λ content chunks. AreLines bytes chunks) 0 events
lines-asked bytes events sized list =
    asked-walk (λ part. AreLines bytes part.chunks) (walk-blocks bytes events list)
    (each-lines bytes sized (parts events) (parts-are bytes events list))

-- What is read of lines.

pub all-lines : (bytes : List ℕ) (chunks : List Chunk) → All (IsLine bytes) chunks →
    list_all (is_line bytes) chunks ≡ true
all-lines bytes [] h = refl
all-lines bytes (chunk ∷ chunks) h =
    and_from (is_line bytes chunk) (list_all (is_line bytes) chunks) (All-head (IsLine bytes) chunk chunks h).line
    (all-lines bytes chunks (All-tail (IsLine bytes) chunk chunks h))

pub all-whole : (bytes : List ℕ) (chunks : List Chunk) → All (IsLine bytes) chunks →
    list_all ends_whole chunks ≡ true
all-whole bytes [] h = refl
all-whole bytes (chunk ∷ chunks) h =
    and_from (ends_whole chunk) (list_all ends_whole chunks) (All-head (IsLine bytes) chunk chunks h).whole
    (all-whole bytes chunks (All-tail (IsLine bytes) chunk chunks h))

pub all-placed : (bytes : List ℕ) (chunks : List Chunk) → All (IsLine bytes) chunks →
    ArePlaced bytes (together (plain_chunks bytes chunks))
all-placed bytes [] h = All-nil (λ (e : Event). IsPlaced bytes e.point)
all-placed bytes (chunk ∷ chunks) h =
    All-append (λ (e : Event). IsPlaced bytes e.point) (plain_chunk bytes chunk)
    (together (plain_chunks bytes chunks)) (All-head (IsLine bytes) chunk chunks h).placed
    (all-placed bytes chunks (All-tail (IsLine bytes) chunk chunks h))
