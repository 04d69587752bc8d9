-- The laws of the underlines of setext headings.
use Rattle.std.proofs.Common.{◌≡◌, true, false, refl}
use Rattle.md_engine.specs.declared.tokenizer.held_leaf.HeldLeaf.{HeldLeaf}
use Rattle.md_engine.specs.declared.tokenizer.held_leaf.HeldLeaf.TheVariants as held_leaf
use Rattle.md_leaves.specs.HeadingSetext.{is_text}
use Rattle.proof_frame.specs.HeldLeaf.{has_lines, may_continue}
use Rattle.proof_leaf_laws.specs.Leaf.HeadingSetext.{setext_leaf}
use Rattle.proof_leaf_laws.proofs.HeadingSetext.Kinds.{setext-fits, setext-starts}
use Rattle.proof_leaf_laws.proofs.HeadingSetext.Runs.{setext-adds, setext-no_content}
use Rattle.proof_leaf_laws.proofs.HeadingSetext.Trial.{setext-looked, setext-refused, setext-shrinks, setext-took}
use Rattle.proof_frame.proofs.LeafLaws.{LeafLaws}
use Rattle.proof_frame.proofs.OutsideFacts.{LineResolver}

-- a line may continue a text
text-is_continued : (on : HeldLeaf) → is_text on ≡ true → may_continue on ≡ true
text-is_continued (held_leaf.Text at) e = refl
text-is_continued _ e = cc

-- and text is no leaf of several lines
text-alone : (on : HeldLeaf) → is_text on ≡ true → (is_text on ≡ true → has_lines on ≡ true) → ⊥
text-alone (held_leaf.Text at) e lines = let bad : false ≡ true = lines refl in cc
text-alone _ e lines = cc

-- All that the frame asks of an underline: it continues the text that it meets, and leaves no leaf open.
pub setext-laws : (resolver : LineResolver) → LeafLaws resolver setext_leaf
setext-laws resolver = record {
  looked = setext-looked;
  meets = λ options on r starts further. text-is_continued on further;
  took = λ options cells h is few. setext-took options cells h is;
  refused = λ options cells h asked. setext-refused options cells h;
  shrinks = setext-shrinks;
  fits = setext-fits;
  adds_is = setext-adds;
  keeps_is = λ options on said text following r p stop at none ends short starts. refl;
  shut = λ ends options on. absurd (cc);
  finishes = λ ends options leaf r. cc;
  holds_is = λ options leaf r starts. refl;
  not_lazy = λ options on. (λ cells p. refl, λ r. refl);
  no_content = λ wants only. setext-no_content wants;
  lined = λ open_leaf plain options on r p starts lines.
      absurd (text-alone on (setext-starts options on r starts).text lines);
  unturned = λ ends options on r p starts. absurd (cc);
  set = λ ends options on r p es starts. cc;
  unspanned = λ ends options on r p starts. absurd (cc);
  unjoined = λ ends options on r p starts. absurd (cc);
  alone = λ ends options on r p starts. absurd (cc);
  nests = λ ends options on r p starts. absurd (cc);
  facts = λ ends options on bytes r p q starts at. absurd (cc);
}
