-- The laws of HTML, of its first line and of a further one, as the frame asks for them.
use Rattle.proof_frame.specs.RestLine.{rest_line}
use Rattle.proof_frame.specs.HeldLeaf.{kind_of_leaf}
use Rattle.proof_literal_laws.specs.Leaf.HtmlFlow.{html_further, html_leaf}
use Rattle.proof_literal_laws.proofs.HtmlFlow.Cells.{further-adds, further-fits, further-keeps, html-adds, html-fits}
use Rattle.proof_literal_laws.proofs.HtmlFlow.Cells.{html-keeps}
use Rattle.proof_literal_laws.proofs.HtmlFlow.Found.{further-held, further-not_lazy, html-held, html-lines}
use Rattle.proof_literal_laws.proofs.HtmlFlow.Found.{html-not_lazy}
use Rattle.proof_literal_laws.proofs.HtmlFlow.Outside.{further-lined, further-no_content, html-lined, html-no_content}
use Rattle.proof_literal_laws.proofs.HtmlFlow.Trial.{further-looked, further-refused, further-shrinks, further-took}
use Rattle.proof_literal_laws.proofs.HtmlFlow.Trial.{html-looked, html-refused, html-shrinks, html-took}
use Rattle.proof_frame.proofs.LeafLaws.{LeafLaws}
use Rattle.proof_frame.proofs.OutsideFacts.{LineResolver}

-- All that the frame asks of the line that begins HTML,
pub html-laws : (resolver : LineResolver) → LeafLaws resolver html_leaf
html-laws resolver = record {
  looked = html-looked;
  meets = λ options on r starts further. cc;
  took = λ options cells h is few. html-took options cells h is;
  refused = λ options cells h asked. html-refused options cells h;
  shrinks = html-shrinks;
  fits = html-fits;
  adds_is = html-adds;
  keeps_is = html-keeps;
  shut = λ ends options on. absurd (cc);
  finishes = λ ends options leaf r. cc;
  holds_is = λ options leaf r starts. html-held options (kind_of_leaf leaf) leaf r;
  not_lazy = html-not_lazy;
  no_content = λ wants only. html-no_content wants;
  lined = λ stays plain options on r p starts lines. html-lined options on (rest_line r) p;
  unturned = λ ends options on r p starts. absurd (cc);
  set = λ ends options on r p es starts. cc;
  unspanned = λ ends options on r p starts. absurd (cc);
  unjoined = λ ends options on r p starts. absurd (cc);
  alone = λ ends options on r p starts. absurd (cc);
  nests = λ ends options on r p starts. absurd (cc);
  facts = λ ends options on bytes r p q starts is. absurd (cc);
}

-- and of a further line: it continues the HTML that it meets.
pub html_further-laws : (resolver : LineResolver) → LeafLaws resolver html_further
html_further-laws resolver = record {
  looked = further-looked;
  meets = λ options on r starts further. html-lines on further;
  took = λ options cells h is few. further-took options cells h is;
  refused = further-refused;
  shrinks = further-shrinks;
  fits = further-fits;
  adds_is = further-adds;
  keeps_is = further-keeps;
  shut = λ ends options on. absurd (cc);
  finishes = λ ends options leaf r. cc;
  holds_is = λ options leaf r starts. further-held options leaf r;
  not_lazy = further-not_lazy;
  no_content = λ wants only. further-no_content wants only.flow;
  lined = λ stays plain options on r p starts lines. further-lined options on (rest_line r) p;
  unturned = λ ends options on r p starts. absurd (cc);
  set = λ ends options on r p es starts. cc;
  unspanned = λ ends options on r p starts. absurd (cc);
  unjoined = λ ends options on r p starts. absurd (cc);
  alone = λ ends options on r p starts. absurd (cc);
  nests = λ ends options on r p starts. absurd (cc);
  facts = λ ends options on bytes r p q starts is. absurd (cc);
}
