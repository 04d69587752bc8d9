-- The laws of further lines of fenced code and of math.
use Rattle.std.proofs.Common.{◌≡◌, true, refl}
use Rattle.md_engine.specs.declared.tokenizer.held_leaf.HeldLeaf.{HeldLeaf}
use Rattle.md_engine.specs.declared.tokenizer.held_leaf.HeldLeaf.TheVariants as held_leaf
use Rattle.proof_frame.specs.RestLine.{rest_line}
use Rattle.proof_frame.specs.HeldLeaf.{may_continue}
use Rattle.md_literal.specs.Fence.{is_open as is_fence}
use Rattle.proof_literal_laws.specs.Leaf.FenceFurther.{fence_further}
use Rattle.proof_literal_laws.proofs.FenceFurther.Cells.{further-adds, further-fits, further-keeps}
use Rattle.proof_literal_laws.proofs.FenceFurther.Definition.{further-held}
use Rattle.proof_literal_laws.proofs.FenceFurther.Names.{further-lined, further-no_content}
use Rattle.proof_literal_laws.proofs.FenceFurther.Trial.{further-looked, further-not_lazy, further-refused}
use Rattle.proof_literal_laws.proofs.FenceFurther.Trial.{further-shrinks, further-shut, further-took}
use Rattle.proof_frame.proofs.LeafLaws.{LeafLaws}
use Rattle.proof_frame.proofs.OutsideFacts.{LineResolver}

-- a line may continue a block with a fence
fence-lines : (on : HeldLeaf) → is_fence on ≡ true → may_continue on ≡ true
fence-lines held_leaf.None e = absurd (cc)
fence-lines (held_leaf.Text at) e = absurd (cc)
fence-lines (held_leaf.LazyText at) e = absurd (cc)
fence-lines held_leaf.Code e = refl
fence-lines (held_leaf.Fence m size indent) e = refl
fence-lines (held_leaf.Html kind) e = refl
fence-lines held_leaf.Table e = refl

-- All that the frame asks of a further line: it continues the block that it meets, and does not always end it.
pub fence_further-laws : (resolver : LineResolver) → LeafLaws resolver fence_further
fence_further-laws resolver = record {
  looked = further-looked;
  meets = λ options on r starts further. fence-lines on further;
  took = λ options cells h is few. further-took options cells h is;
  refused = further-refused;
  shrinks = further-shrinks;
  fits = further-fits;
  adds_is = further-adds;
  keeps_is = further-keeps;
  shut = further-shut;
  finishes = λ ends options leaf r. cc;
  holds_is = further-held;
  not_lazy = further-not_lazy;
  no_content = λ wants only. further-no_content wants only.flow;
  lined = λ open_leaf plain options on r p starts lines. further-lined options on (rest_line r) p;
  unturned = λ ends options on r p starts. absurd (cc);
  set = λ ends options on r p es starts. cc;
  unspanned = λ ends options on r p starts. absurd (cc);
  unjoined = λ ends options on r p starts. absurd (cc);
  alone = λ ends options on r p starts. absurd (cc);
  nests = λ ends options on r p starts. absurd (cc);
  facts = λ ends options on bytes r p q starts at. absurd (cc);
}
