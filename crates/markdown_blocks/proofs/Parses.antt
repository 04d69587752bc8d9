-- What the plain layer reads of a text: only one list of events can be read so, and what is known of that besides.
use Rattle.md_engine.specs.declared.tokenizer.held_leaf.HeldLeaf.TheVariants as held_leaf
use Rattle.std.proofs.Common.{◌≡◌, ◌^◌, ◌<◌, ℕ, true, List, [], length, refl, sym, ◌∙◌, subst, arith}
use Rattle.md_engine.specs.declared.configuration.ParseOptions.{ParseOptions}
use Rattle.md_engine.specs.declared.event.Event.{Event}
use Rattle.md_engine.specs.declared.event.Point.{Point}
use Rattle.md_engine.specs.declared.parse_state.ParseState.{ParseState}
use Rattle.md_containers.specs.ItemsHeld.{ItemsHeld}
use Rattle.md_containers.specs.Listed.{listed}
use Rattle.md_containers.proofs.ListedGrammar.{listed-grammar}
use Rattle.md_containers.proofs.ListedKept.{listed-endings, listed-pieces}
use Rattle.md_events.specs.Events.Endings.{endings_are_right}
use Rattle.md_events.specs.Events.Grammar.{keeps_grammar, plain_text}
use Rattle.md_events.specs.Events.Inline.{Piece, pieces}
use Rattle.md_events.specs.Events.Nested.{Nested}
use Rattle.md_events.specs.Events.Pieces.{are_valid_pieces}
use Rattle.md_events.specs.Events.Tiles.{IsBlockList, plain_read}
use Rattle.md_events.specs.Substituted.{Substituted}
use Rattle.md_events.specs.TextPart.{text_readings, wants_text}
use Rattle.md_events.proofs.PlainTiles.{plain-only}
use Rattle.md_events.specs.Exact.Blocks.{exact}
use Rattle.proof_leaf_laws.specs.Front.{body_point, front_events}
use Rattle.proof_frame.specs.ReadsPlain.{reads_plain}
use Rattle.markdown_blocks.specs.Parsed.{IsParsed, IsRead}
use Rattle.proof_rows.specs.WithoutMdx.{IsWithoutMdx}
use Rattle.md_meaning.specs.Wrapped.{IsSmall}
use Rattle.proof_frame.specs.Row.{Row}
use Rattle.proof_rows.specs.Rows.{groups, groups_events}
use Rattle.proof_rows.proofs.Begun.{begun, front-nested}
use Rattle.proof_rows.proofs.EndingRows.{events-endings}
use Rattle.proof_rows.proofs.GrammarRows.{events-grammar}
use Rattle.proof_rows.proofs.HeldRows.{events-held}
use Rattle.proof_rows.proofs.NestedRows.{Nests, rows-nest}
use Rattle.proof_rows.proofs.PieceRows.{events-pieces}
use Rattle.proof_rows.proofs.RowFacts.{AreRows}
use Rattle.proof_rows.proofs.TextAre.{lines_of, rows_of, text-are}
use Rattle.markdown_blocks.proofs.ContentGroups.{part-of}
use Rattle.markdown_blocks.proofs.FlowReads.{text-quiet}
use Rattle.markdown_blocks.proofs.TextBlocks.{read-is, read_of}
use Rattle.proof_rows.proofs.TileReads.{end-read}

-- What is known of the list of events that the plain layer reads.
pub record ReadsPlain (options : ParseOptions) (bytes : List ℕ) : Type 0 where
  pub grammar : keeps_grammar plain_text (plain_read bytes (exact options bytes)) ≡ true
  pub pieces_are : are_valid_pieces bytes (pieces (plain_read bytes (exact options bytes))) ≡ true
  pub endings : endings_are_right (plain_read bytes (exact options bytes)) ≡ true

pub reads-plain : (options : ParseOptions) (bytes : List ℕ) → IsWithoutMdx options → length bytes < 2 ^ 61 →
    ReadsPlain options bytes
reads-plain options bytes built small =
    let p : Point = body_point options bytes in
    let lines : List (List ℕ) = lines_of options bytes in
    let rows : List Row = rows_of options bytes in
    let events : List Event = read_of options bytes in
    let front : List Event = front_events options bytes in
    let part = part-of options bytes in
    let begins = begun options bytes in
    let are : AreRows options bytes [] held_leaf.None p lines rows = text-are options bytes built small in
    let nests : Nests options bytes p (groups rows) = rows-nest options bytes p lines rows are in
    let nested : Nested events =
    front-nested p front (groups_events options bytes (groups rows)) part.stretch.nested nests.balanced nests.forward in
    let held : ItemsHeld [] events = events-held options bytes p front lines rows part are in
    let same : listed bytes events ≡ plain_read bytes (exact options bytes) = read-is options bytes built small in
    record {
      grammar =
          subst (λ (l : List Event). keeps_grammar plain_text l ≡ true) same
          (listed-grammar plain_text refl bytes events nested held
          (events-grammar options bytes p front lines rows begins.fronted.leaves (end-read options bytes p small) are
          (text-quiet options bytes p)));
      pieces_are =
          subst (λ (l : List Event). are_valid_pieces bytes (pieces l) ≡ true) same
          (subst (λ (ps : List Piece). are_valid_pieces bytes ps ≡ true) (sym (listed-pieces bytes events))
          (events-pieces options bytes p front lines rows part are));
      endings =
          subst (λ (l : List Event). endings_are_right l ≡ true) same
          (listed-endings bytes events
          ∙ events-endings options bytes p front lines rows begins.fronted.leaves (end-read options bytes p small) are
          (text-quiet options bytes p));
    }

-- So this is known of a text that was read with that layer.
pub plain-parsed : (text : List ℕ) (options : ParseOptions) (events : List Event) (state : ParseState) →
    IsWithoutMdx options → IsSmall text →
    IsRead (λ document part answer. reads_plain document.bytes part answer) text options events state →
    IsParsed text options events state
plain-parsed text options events state built most read =
    let small : length text < 2 ^ 61 = omega (arith, most) in
    let list : IsBlockList text (exact options text) =
    subst (IsBlockList text) read.blocks_are read.tiles.block_list in
    let same : events ≡ plain_read text (exact options text) =
    plain-only text (exact options text) events list
    (subst
    (λ (l : List ℕ).
    Substituted wants_text (text_readings (reads_plain l)) [] 0 (exact options text) events)
    read.bytes read.events_are) in
    let plain : ReadsPlain options text = reads-plain options text built small in
    record {
      read = read;
      events_are = same;
      grammar = subst (λ (l : List Event). keeps_grammar plain_text l ≡ true) (sym same) plain.grammar;
      pieces_are = subst (λ (l : List Event). are_valid_pieces text (pieces l) ≡ true) (sym same) plain.pieces_are;
      endings = subst (λ (l : List Event). endings_are_right l ≡ true) (sym same) plain.endings;
    }
