-- The laws of paragraphs, as a leaf of lines of text.
use Rattle.std.proofs.Common.{◌≡◌, ℕ, true, List, [], ◌∷◌, refl}
use Rattle.md_engine.specs.declared.configuration.ParseOptions.{ParseOptions}
use Rattle.md_engine.specs.Meaning.{Cell}
use Rattle.md_engine.specs.TextFeed.{text_feed}
use Rattle.md_engine.specs.World.{World}
use Rattle.md_content.specs.ContentRule.{content_over}
use Rattle.proof_content_laws.proofs.Defined.Names.{content-passed}
use Rattle.md_content.specs.ContentReads.{content_events, part_world}
use Rattle.md_events.specs.declared.inline.Chunk.{Chunk}
use Rattle.md_meaning.specs.Definition.{Defined}
use Rattle.md_meaning.specs.State.{ParagraphLine, Leaf, NoLeaf, OpenParagraph, cut, shut_paragraph, then_block}
use Rattle.md_meaning.specs.State.{texts, then_definitions, then_paragraph}
use Rattle.md_meaning.specs.Tree.{Blocks, Definition, Paragraph}
use Rattle.md_outline.specs.HeadingDepths.{are_shallow}
use Rattle.proof_frame.specs.Leaf.Paragraph.{paragraph_leaf}
use Rattle.proof_content_laws.specs.Defined.{then_front}
use Rattle.proof_frame.specs.HeldLeaf.{IsNoneTextOr}
use Rattle.proof_frame.proofs.EachEvent.{settled-each}
use Rattle.proof_frame.proofs.OutsideFacts.{AreOutside, IsOutside}
use Rattle.proof_content_laws.proofs.Paragraph.Valid.{text-valid}
use Rattle.proof_frame.proofs.ShallowBlocks.{shallow-then}
use Rattle.proof_frame.proofs.TextLaws.{TextLaws}

open-cases : (IsSpan P : Leaf → Type 0) → P NoLeaf →
    ((k : ParagraphLine) (ks : List ParagraphLine) → P (OpenParagraph (k ∷ ks))) →
    ((leaf : Leaf) → IsSpan leaf → P leaf) →
    (leaf : Leaf) → IsNoneTextOr IsSpan leaf → P leaf
open-cases IsSpan P none text span NoLeaf plain = none
open-cases IsSpan P none text span (OpenParagraph []) plain = absurd plain
open-cases IsSpan P none text span (OpenParagraph (k ∷ ks)) plain = text k ks
open-cases IsSpan P none text span leaf plain = span leaf plain

-- What its lines become, an outline can show:
shallow-remaining : (bs : Blocks) (lines : List (List ℕ)) → are_shallow bs ≡ true →
    are_shallow (then_paragraph bs lines) ≡ true
shallow-remaining bs [] h = h
shallow-remaining bs (line ∷ lines) h = shallow-then bs (Paragraph (line ∷ lines)) h refl

-- definitions,
shallow-definitions : (bs : Blocks) (ds : List Defined) → are_shallow bs ≡ true →
    are_shallow (then_definitions bs ds) ≡ true
shallow-definitions bs [] h = h
shallow-definitions bs (d ∷ ds) h =
    shallow-definitions (then_block bs (Definition d.label d.destination d.title)) ds
    (shallow-then bs (Definition d.label d.destination d.title) h refl)

-- those at the front of an open text,
pub shallow-front : (options : ParseOptions) (bs : Blocks) (open_leaf : Leaf) → are_shallow bs ≡ true →
    are_shallow (then_front options bs open_leaf) ≡ true
shallow-front options bs (OpenParagraph lines) h = shallow-definitions bs (cut options (texts lines)).0 h
shallow-front options bs _ h = h

-- and what remains.
shallow-following : (options : ParseOptions) (bs : Blocks) (lines : List (List ℕ)) → are_shallow bs ≡ true →
    are_shallow (shut_paragraph options bs lines) ≡ true
unfolding shut_paragraph
shallow-following options bs lines h =
    let c = cut options lines in
    shallow-remaining (then_definitions bs c.0) c.1 (shallow-definitions bs c.0 h)

-- What is read of content.

content-outside : (bytes : List ℕ) (options : ParseOptions) (chunks : List Chunk) →
    AreOutside (content_events bytes options chunks)
unfolding content_events
content-outside bytes options chunks =
    let w : World = part_world bytes options chunks in
    let cells : List Cell = text_feed w.setting w.point in
    settled-each IsOutside (λ e q h. h) chunks (content_over options cells w.point)
    (content-passed options cells w.point)

pub paragraph-laws : TextLaws paragraph_leaf
paragraph-laws = record {
  cases = λ IsSpan P none text span leaf plain. open-cases IsSpan P none text span leaf plain;
  shut = λ options bs ks. refl;
  shallow = λ options bs lines h. shallow-following options bs lines h;
  valid = λ bytes held p q inside between. text-valid bytes held paragraph_leaf.name p q inside refl between;
  outside = λ bytes options chunks. content-outside bytes options chunks;
}
