-- A text in a container has the inline content that it has by itself.
use Rattle.std.proofs.Common.{◌≡◌, ℕ, true, List, [], ◌∷◌, ◌++◌, append-nil, refl, sym, ap, ◌∙◌, subst}
use Rattle.std.specs.Prelude.{None}
use Rattle.std.specs.List.{list_all}
use Rattle.md_engine.specs.declared.configuration.ParseOptions.{ParseOptions}
use Rattle.md_engine.specs.declared.event.Event.{Event}
use Rattle.md_engine.specs.declared.parse_state.ParseState.{ParseState}
use Rattle.md_meaning.specs.Ascii.{plus}
use Rattle.md_meaning.specs.Meaning.{tree}
use Rattle.md_meaning.specs.Tree.{Blocks, End, Footnote, Item, ListOf, More, Quote}
use Rattle.md_meaning.specs.Wrapped.{IsItemable, IsQuotable, itemised, quoted}
use Rattle.md_wrap.specs.Footnoted.{footnoted, x_label}
use Rattle.md_events.specs.Events.Inline.{Part}
use Rattle.md_events.specs.Events.Spelled.{spelled}
use Rattle.md_events.specs.Events.Tiles.{parts}
use Rattle.md_events.specs.TextPart.{AreBlocks, Document, document_of}
use Rattle.md_inline_events.specs.TreeTexts.{is_filled_part, part_texts, tree_texts}
use Rattle.md_inlines.specs.declared.InlineOptions.{InlineOptions}
use Rattle.proof_inlines.proofs.PartTexts.{texts-of_parts}
use Rattle.proof_exact.proofs.Filled.Exact.{exact-filled}
use Rattle.markdown_blocks.specs.Parsed.{IsRead}
use Rattle.markdown_inlines.specs.Alike.{HaveSameContent, IsReadBy, has_footnote}
use Rattle.markdown_inlines.specs.Layer.{AreEvents}
use Rattle.markdown_inlines.proofs.AlikeLemmas.{footnoted-alike, itemised-alike, quoted-alike}

-- What is read of the text parts of a document are the texts of its tree.
pub own-texts : (document : Document) (blocks : List Event) → AreBlocks document blocks →
    part_texts document.bytes (parts blocks) ≡ tree_texts (tree document.options document.bytes)
own-texts document blocks are =
    texts-of_parts document.bytes blocks are.list are.covers
    (subst (λ (l : List Event). list_all (is_filled_part document.bytes) (parts l) ≡ true) (sym are.exact_list)
    (exact-filled document.options document.bytes))
    ∙ ap tree_texts are.spells

-- Documents whose trees have the same texts have text parts with the same texts.
same-texts : (document other : Document) →
    tree_texts (tree document.options document.bytes) ≡ tree_texts (tree other.options other.bytes) →
    (blocks others : List Event) → AreBlocks document blocks → AreBlocks other others →
    part_texts document.bytes (parts blocks) ≡ part_texts other.bytes (parts others)
same-texts document other same blocks others are also =
    own-texts document blocks are ∙ same ∙ sym (own-texts other others also)

-- the tree of a document that was read
read-tree : (reads : Document → Part → List Event → Type 0) (text : List ℕ) (options : ParseOptions)
    (events : List Event) (state : ParseState) → IsRead reads text options events state →
    tree (document_of state).options (document_of state).bytes ≡ tree options text
read-tree reads text options events state read =
    ap (λ (o : ParseOptions). tree o state.bytes.now) read.options_are ∙ ap (tree options) read.bytes

-- so a text whose tree has the texts of another's, where both were read
wrapped-texts : (reads : Document → Part → List Event → Type 0) (text wrapped : List ℕ) (options : ParseOptions)
    (events found : List Event) (state around : ParseState) → IsRead reads text options events state →
    IsRead reads wrapped options found around →
    tree_texts (tree options wrapped) ≡ tree_texts (spelled events text) →
    tree_texts (tree (document_of state).options (document_of state).bytes) ≡
    tree_texts (tree (document_of around).options (document_of around).bytes)
wrapped-texts reads text wrapped options events found state around read again same =
    ap tree_texts (read-tree reads text options events state read ∙ sym read.tree)
    ∙ sym same
    ∙ sym (ap tree_texts (read-tree reads wrapped options found around again))

pub quoted-content : (inlines : InlineOptions) (options : ParseOptions) (text : List ℕ) (events found : List Event)
    (state quote : ParseState) → options.constructs.block_quote ≡ true → IsQuotable options text →
    IsReadBy inlines text options events state → IsReadBy inlines (quoted text) options found quote →
    HaveSameContent inlines (document_of state) (document_of quote)
quoted-content inlines options text events found state quote on may read again =
    let bs : Blocks = spelled events text in
    record {
      texts =
          same-texts (document_of state) (document_of quote)
          (wrapped-texts (λ document held answer. AreEvents inlines document held answer) text (quoted text) options
          events found state quote read again
          (ap tree_texts (read.in_quote on may).0 ∙ append-nil (tree_texts bs)));
      mean = quoted-alike inlines options text events found state quote on may read again;
    }

pub itemised-content : (inlines : InlineOptions) (options : ParseOptions) (text : List ℕ) (events found : List Event)
    (state item : ParseState) → options.constructs.list_item ≡ true → IsItemable options text →
    IsReadBy inlines text options events state → IsReadBy inlines (itemised text) options found item →
    HaveSameContent inlines (document_of state) (document_of item)
itemised-content inlines options text events found state item on may read again =
    let bs : Blocks = spelled events text in
    record {
      texts =
          same-texts (document_of state) (document_of item)
          (wrapped-texts (λ document held answer. AreEvents inlines document held answer) text (itemised text) options
          events found state item read again
          (ap tree_texts (read.in_item on may).0
          ∙ append-nil (tree_texts bs ++ []) ∙ append-nil (tree_texts bs)));
      mean = itemised-alike inlines options text events found state item on may read again;
    }

pub footnoted-content : (inlines : InlineOptions) (options : ParseOptions) (text : List ℕ) (events found : List Event)
    (state footnote : ParseState) → options.constructs.gfm_footnote_definition ≡ true → IsItemable options text →
    IsReadBy inlines text options events state → IsReadBy inlines (footnoted text) options found footnote →
    has_footnote x_label (document_of state) ≡ true →
    HaveSameContent inlines (document_of state) (document_of footnote)
footnoted-content inlines options text events found state footnote on may read again known =
    let bs : Blocks = spelled events text in
    record {
      texts =
          same-texts (document_of state) (document_of footnote)
          (wrapped-texts (λ document held answer. AreEvents inlines document held answer) text (footnoted text) options
          events found state footnote read again
          (ap tree_texts (read.in_footnote on may).0 ∙ append-nil (tree_texts bs)));
      mean = footnoted-alike inlines options text events found state footnote on may read again known;
    }
