-- The laws of opening fences.
use Rattle.std.proofs.Common.{refl}
use Rattle.proof_frame.specs.RestLine.{rest_line}
use Rattle.proof_literal_laws.specs.Leaf.Fence.{fence_keeps, fence_leaf}
use Rattle.proof_literal_laws.proofs.Fence.Adds.{fence-adds}
use Rattle.proof_literal_laws.proofs.Fence.Cells.{fence-fits, fence-keeps}
use Rattle.proof_literal_laws.proofs.Fence.Outside.{fence-lazy, fence-lined, fence-no_content}
use Rattle.proof_literal_laws.proofs.Fence.Trial.{fence-looked, fence-took, trial-refused, trial-shrinks}
use Rattle.proof_frame.proofs.LeafLaws.{LeafLaws}
use Rattle.proof_frame.proofs.OutsideFacts.{LineResolver}

-- All that the frame asks of the line that begins fenced code or math: it continues no leaf, and never ends its block.
pub fence-laws : (resolver : LineResolver) → LeafLaws resolver fence_leaf
fence-laws resolver = record {
  looked = λ options on. fence-looked options;
  meets = λ options on r starts further. cc;
  took = fence-took;
  refused = λ options cells h asked. trial-refused options cells h;
  shrinks = trial-shrinks;
  fits = λ options on. fence-fits options;
  adds_is = λ options on. fence-adds options;
  keeps_is = λ options on. fence-keeps options;
  shut = λ ends options on. absurd (cc);
  finishes = λ ends options leaf r. cc;
  holds_is = λ options leaf r starts. refl;
  not_lazy = λ options on. (fence-lazy options, λ r. refl);
  no_content = λ wants only options on cells p.
      fence-no_content wants only.string options (fence_keeps options cells p) cells p;
  lined = λ open_leaf plain options on r p starts lines. fence-lined (rest_line r) p;
  unturned = λ ends options on r p starts. absurd (cc);
  set = λ ends options on r p es starts. cc;
  unspanned = λ ends options on r p starts. absurd (cc);
  unjoined = λ ends options on r p starts. absurd (cc);
  alone = λ ends options on r p starts. absurd (cc);
  nests = λ ends options on r p starts. absurd (cc);
  facts = λ ends options on bytes r p q starts at. absurd (cc);
}
