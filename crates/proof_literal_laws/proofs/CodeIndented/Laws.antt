-- The laws of indented code, of its first line and of a further one, as the frame asks for them.
use Rattle.std.proofs.Common.{◌≡◌, true, refl}
use Rattle.md_engine.specs.declared.tokenizer.held_leaf.HeldLeaf.{HeldLeaf}
use Rattle.md_engine.specs.declared.tokenizer.held_leaf.HeldLeaf.TheVariants as held_leaf
use Rattle.proof_frame.specs.HeldLeaf.{may_continue}
use Rattle.proof_frame.specs.RestLine.{rest_line}
use Rattle.proof_literal_laws.specs.Leaf.CodeIndented.{code_further, code_leaf, is_code}
use Rattle.proof_literal_laws.proofs.CodeIndented.Cells.{code-adds, code-fits, code_further-adds, code_further-fits}
use Rattle.proof_literal_laws.proofs.CodeIndented.Look.{code-looked, code_further-looked}
use Rattle.proof_literal_laws.proofs.CodeIndented.Outside.{code-lined, code-no_content, code_further-lined}
use Rattle.proof_literal_laws.proofs.CodeIndented.Outside.{code_further-no_content}
use Rattle.proof_literal_laws.proofs.CodeIndented.Trial.{code-refused, code-shrinks, code-took}
use Rattle.proof_literal_laws.proofs.CodeIndented.Trial.{code_further-refused, code_further-shrinks, code_further-took}
use Rattle.proof_frame.proofs.LeafLaws.{LeafLaws}
use Rattle.proof_frame.proofs.OutsideFacts.{LineResolver}

-- All that the frame asks of the line that begins code,
pub code-laws : (resolver : LineResolver) → LeafLaws resolver code_leaf
code-laws resolver = record {
  looked = code-looked;
  meets = λ options on r starts further. cc;
  took = λ options cells h is few. code-took options cells h is;
  refused = λ options cells h asked. code-refused options cells h;
  shrinks = code-shrinks;
  fits = code-fits;
  adds_is = code-adds;
  keeps_is = λ options on said text following r p stop at none ends short starts. refl;
  shut = λ ends options on. absurd (cc);
  finishes = λ ends options leaf r. cc;
  holds_is = λ options leaf r starts. refl;
  not_lazy = λ options on. (λ cells p. refl, λ r. refl);
  no_content = λ wants only. code-no_content wants;
  lined = λ stays plain options on r p starts lines. code-lined options on (rest_line r) p;
  unturned = λ ends options on r p starts. absurd (cc);
  set = λ ends options on r p es starts. cc;
  unspanned = λ ends options on r p starts. absurd (cc);
  unjoined = λ ends options on r p starts. absurd (cc);
  alone = λ ends options on r p starts. absurd (cc);
  nests = λ ends options on r p starts. absurd (cc);
  facts = λ ends options on bytes r p q starts is. absurd (cc);
}

-- a line may continue open code
code-lines : (on : HeldLeaf) → is_code on ≡ true → may_continue on ≡ true
code-lines held_leaf.Code e = refl
code-lines _ e = cc

-- and of a further line: it continues the code that it meets.
pub code_further-laws : (resolver : LineResolver) → LeafLaws resolver code_further
code_further-laws resolver = record {
  looked = code_further-looked;
  meets = λ options on r starts further. code-lines on further;
  took = λ options cells h is few. code_further-took options cells h is;
  refused = code_further-refused;
  shrinks = code_further-shrinks;
  fits = code_further-fits;
  adds_is = code_further-adds;
  keeps_is = λ options on said text following r p stop at none ends short starts. refl;
  shut = λ ends options on. absurd (cc);
  finishes = λ ends options leaf r. cc;
  holds_is = λ options leaf r starts. refl;
  not_lazy = λ options on. (λ cells p. refl, λ r. refl);
  no_content = λ wants only. code_further-no_content wants only.flow;
  lined = λ stays plain options on r p starts lines. code_further-lined options on (rest_line r) p;
  unturned = λ ends options on r p starts. absurd (cc);
  set = λ ends options on r p es starts. cc;
  unspanned = λ ends options on r p starts. absurd (cc);
  unjoined = λ ends options on r p starts. absurd (cc);
  alone = λ ends options on r p starts. absurd (cc);
  nests = λ ends options on r p starts. absurd (cc);
  facts = λ ends options on bytes r p q starts is. absurd (cc);
}
