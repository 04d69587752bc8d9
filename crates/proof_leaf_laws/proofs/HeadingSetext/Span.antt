-- An underline as a line of a leaf of several: it continues the text that it meets, and so begins none.
use Rattle.std.proofs.Common.{◌≡◌, ℕ, true, false, List, [], ◌∷◌, refl, sym, ap, ◌∙◌, subst, inr}
use Rattle.std.specs.Prelude.{map}
use Rattle.md_engine.specs.declared.configuration.ParseOptions.{ParseOptions}
use Rattle.md_engine.specs.declared.event.Event.{Event}
use Rattle.md_engine.specs.declared.event.Point.{Point}
use Rattle.md_engine.specs.declared.tokenizer.held_leaf.HeldLeaf.{HeldLeaf}
use Rattle.md_meaning.specs.Rest.{Rest}
use Rattle.md_meaning.specs.Tree.{Paragraph}
use Rattle.md_leaves.specs.Spanned.{renamed}
use Rattle.md_leaves.specs.declared.spans.Place.TheVariants.{Between}
use Rattle.md_leaves.proofs.SpannedLines.{NoBlocks}
use Rattle.md_events.specs.Events.Blocks.{is_block}
use Rattle.md_events.specs.Events.Spelled.{role}
use Rattle.proof_frame.specs.RestLine.{rest_line}
use Rattle.proof_leaf_laws.specs.Leaf.HeadingSetext.{setext_leaf, underline_line}
use Rattle.proof_frame.proofs.EachEvent.{Each}
use Rattle.proof_leaf_laws.proofs.HeadingSetext.Kinds.{setext-starts}
use Rattle.proof_leaf_laws.proofs.HeadingSetext.Line.{underline-each}
use Rattle.proof_frame.proofs.SpanLaws.{IsBare, SpanLaws}

-- It continues a text wherever it starts.
pub setext-begins : (options : ParseOptions) (on : HeldLeaf) (r : Rest) → setext_leaf.starts options on r ≡ true →
    setext_leaf.further on ≡ false → ⊥
setext-begins options on r starts begins =
    let bad : true ≡ false = sym (setext-starts options on r starts).text ∙ begins in cc

-- It is bare: no block begins in it, and between two lines it stays as it is.

-- no event is of a block
each-no_blocks : (es : List Event) → Each (λ (e : Event). is_block (role e.name) ≡ false) es → NoBlocks es
each-no_blocks [] h = tt
each-no_blocks (e ∷ es) h = (h.0, each-no_blocks es h.1)

-- none gets another name
each-between : (es : List Event) → Each (λ (e : Event). renamed Between e ≡ e) es → map (renamed Between) es ≡ es
each-between [] h = refl
each-between (e ∷ es) h =
    ap (λ (f : Event). f ∷ map (renamed Between) es) h.0 ∙ ap (λ (l : List Event). e ∷ l) (each-between es h.1)

-- so it is with an underline
pub underline-bare : (line : List ℕ) (p : Point) → IsBare (underline_line line p)
underline-bare line p = record {
  no_blocks =
      each-no_blocks (underline_line line p)
      (underline-each (λ (e : Event). is_block (role e.name) ≡ false) (λ q. refl, λ q. refl) (λ q. refl, λ q. refl)
      (λ q. refl, λ q. refl) line p);
  between =
      each-between (underline_line line p)
      (underline-each (λ (e : Event). renamed Between e ≡ e) (λ q. refl, λ q. refl) (λ q. refl, λ q. refl)
      (λ q. refl, λ q. refl) line p);
}

-- So of its lines there is nothing to say but that.
pub setext-span : SpanLaws setext_leaf setext_leaf
setext-span = record {
  first_spanned =
      λ options bytes row is begins. absurd (setext-begins options row.on is.rest is.starts begins);
  further_spanned =
      λ options bytes row is further.
      inr (subst IsBare (sym is.inside) (underline-bare (rest_line is.rest) row.first));
  block = λ options bytes row rows is are. Paragraph [];
  facts = λ options bytes row rows is begins are. absurd (setext-begins options row.on is.rest is.starts begins);
  shuts = λ options bytes row rows is begins are bs. absurd (setext-begins options row.on is.rest is.starts begins);
}
