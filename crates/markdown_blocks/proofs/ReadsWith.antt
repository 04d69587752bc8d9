-- What is known of a text that was read with an inline layer, whatever that finds: where it keeps the promise of all
-- layers, the blocks and the tree are those of the text before its text parts were read.
use Rattle.std.proofs.Common.{◌≡◌, ◌<◌, ◌^◌, ℕ, List, [], length, map, refl, ap, sym, ◌∙◌, subst}
use Rattle.std.specs.Str.{IsUtf8}
use Rattle.std.specs.String.{string_bytes}
use Rattle.md_engine.specs.declared.event.Event.{Event}
use Rattle.md_engine.specs.declared.parse_state.ParseState.{ParseState}
use Rattle.md_meaning.specs.Label.{labels}
use Rattle.md_meaning.specs.Meaning.{tree}
use Rattle.md_meaning.specs.Tree.{Blocks}
use Rattle.md_outline.proofs.LayerOutlined.{outlined-layer}
use Rattle.md_outline.specs.Outlined.{IsOutlined}
use Rattle.md_events.specs.Events.Inline.{KeepsFrame, Part}
use Rattle.md_events.specs.Events.On.{are_on}
use Rattle.md_events.specs.Events.Spelled.{spelled}
use Rattle.md_events.specs.Events.Tiles.{Tiles, plain_read}
use Rattle.md_events.specs.Parts.{ArePlaced}
use Rattle.md_events.specs.Substituted.{Substituted}
use Rattle.md_events.specs.TextPart.{AreBlocks, Document, document_of, text_readings, wants_text}
use Rattle.md_events.proofs.HeldLemmas.{blocks-held}
use Rattle.md_events.proofs.LayerTiles.{substituted-tiles, tiles-cover}
use Rattle.md_events.proofs.NestsLemmas.{tiles-nested, tiles-placed}
use Rattle.md_events.proofs.OnLemmas.{tree-on}
use Rattle.md_events.proofs.PartsLemmas.{tiles-spelled}
use Rattle.md_events.proofs.ReachedLemmas.{events-placed}
use Rattle.md_events.specs.Exact.Blocks.{exact}
use Rattle.markdown_blocks.specs.Parsed.{IsRead}
use Rattle.proof_rows.specs.WithoutMdx.{IsWithoutMdx}
use Rattle.markdown_blocks.proofs.TextBlocks.{HasBlocks, has-blocks}
use Rattle.markdown_blocks.proofs.TextItemised.{text-itemised}
use Rattle.md_wrap.specs.Footnoted.{NestsInFootnote, footnoted}
use Rattle.md_wrap.proofs.FootnoteLaw.{footnote-nests}
use Rattle.markdown_blocks.proofs.TextQuoted.{text-quoted}

-- The blocks of a text are known before its text parts are read, and the labels in the state are theirs.
pub record IsAhead (state : ParseState) (blocks : List Event) : Type 0 where
  pub built : IsWithoutMdx state.options.now
  pub utf8 : IsUtf8 state.bytes.now
  pub small : length state.bytes.now < 2 ^ 61
  pub are : blocks ≡ exact state.options.now state.bytes.now
  pub placed : ArePlaced state.bytes.now blocks
  pub definitions : map string_bytes state.definitions.items ≡
      (labels (tree state.options.now state.bytes.now)).definitions
  pub footnotes : map string_bytes state.gfm_footnote_definitions.items ≡
      (labels (tree state.options.now state.bytes.now)).footnotes

module _ (state : ParseState) (blocks : List Event) (ahead : IsAhead state blocks) where
  has : HasBlocks state.options.now state.bytes.now
  has =
      has-blocks state.options.now state.bytes.now ahead.built ahead.small
      (events-placed state.bytes.now (exact state.options.now state.bytes.now)
      (subst (ArePlaced state.bytes.now) ahead.are ahead.placed))

  known : AreBlocks (document_of state) (exact state.options.now state.bytes.now)
  known = record {
    exact_list = refl;
    sized = ahead.small;
    list = has.list;
    covers = has.covers;
    spells = has.spells;
    definitions = ahead.definitions;
    footnotes = ahead.footnotes;
  }

  pub blocks-known : AreBlocks (document_of state) blocks
  blocks-known = subst (AreBlocks (document_of state)) (sym ahead.are) known

  -- So what the layer gives is known in whole.
  pub reads-with : (reads : Document → Part → List Event → Type 0) →
      KeepsFrame state.bytes.now (reads (document_of state)) → (events : List Event) →
      Substituted wants_text (text_readings (reads (document_of state))) [] 0 blocks events →
      IsRead reads state.bytes.now state.options.now events state
  reads-with reads frame events substituted =
      let bytes : List ℕ = state.bytes.now in
      let list : List Event = exact state.options.now bytes in
      let all : Substituted wants_text (text_readings (reads (document_of state))) [] 0 list events =
      subst (λ (l : List Event). Substituted wants_text (text_readings (reads (document_of state))) [] 0 l events)
      ahead.are substituted in
      let none : bytes ≡ [] → events ≡ [] = λ empty.
      subst (λ (l : List Event). Substituted wants_text (text_readings (reads (document_of state))) [] 0 l events)
      (has.empty empty) all in
      let tiled : (tiles : Tiles (reads (document_of state)) bytes events) × (tiles.blocks ≡ list) =
      substituted-tiles bytes (reads (document_of state)) list events frame has.list has.covers all none in
      let shows : spelled events bytes ≡ tree state.options.now bytes =
      tiles-spelled bytes (reads (document_of state)) events frame tiled.0
      ∙ ap (λ (l : List Event). spelled l bytes) tiled.1
      ∙ has.spells in
      record {
        bytes = refl;
        options_are = refl;
        nested = tiles-nested bytes (reads (document_of state)) events frame tiled.0;
        placed = tiles-placed bytes (reads (document_of state)) events frame tiled.0;
        in_quote = λ on may. text-quoted state.options.now bytes events shows on may;
        in_item = λ on may. text-itemised state.options.now bytes events shows on may;
        in_footnote =
            subst (NestsInFootnote state.options.now bytes (footnoted bytes)) (sym shows)
            (footnote-nests state.options.now bytes);
        tree = shows;
        on = ap (are_on state.options.now) shows ∙ tree-on state.options.now bytes;
        events_are = all;
        tiles = tiled.0;
        blocks_are = tiled.1;
        covers = tiles-cover bytes (reads (document_of state)) events frame tiled.0;
        held =
            blocks-held bytes tiled.0.blocks tiled.0.covers tiled.0.block_list.pieces_are tiled.0.block_list.chunks;
        outlined =
            outlined-layer bytes (reads (document_of state)) events frame tiled.0
            (subst (λ (l : List Event). IsOutlined (plain_read bytes l) bytes) (sym tiled.1) (has.outlined ahead.utf8));
        definitions = known.definitions ∙ ap (λ (bs : Blocks). (labels bs).definitions) (sym shows);
        footnotes = known.footnotes ∙ ap (λ (bs : Blocks). (labels bs).footnotes) (sym shows);
      }

-- The exact list of a document are its blocks, where all of its labels are known.
pub blocks-again : (document : Document) (others blocks : List Event) → IsWithoutMdx document.options →
    AreBlocks document others → blocks ≡ exact document.options document.bytes → ArePlaced document.bytes blocks →
    AreBlocks document blocks
blocks-again document others blocks built are is placed =
    let has : HasBlocks document.options document.bytes = has-blocks document.options document.bytes built are.sized
    (events-placed document.bytes (exact document.options document.bytes) (subst (ArePlaced document.bytes) is placed)) in
    subst (AreBlocks document) (sym is)
    (record {
      exact_list = refl;
      sized = are.sized;
      list = has.list;
      covers = has.covers;
      spells = has.spells;
      definitions = are.definitions;
      footnotes = are.footnotes;
    })
