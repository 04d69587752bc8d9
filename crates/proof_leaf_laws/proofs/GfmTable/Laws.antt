-- The laws of a line of a table, as the frame asks for them.
use Rattle.std.proofs.Common.{refl}
use Rattle.proof_leaf_laws.specs.Leaf.GfmTable.{table_leaf}
use Rattle.proof_leaf_laws.proofs.GfmTable.Cells.{table-adds, table-fits}
use Rattle.proof_leaf_laws.proofs.GfmTable.Each.{table-no_content}
use Rattle.proof_leaf_laws.proofs.GfmTable.Found.{table-held, table-lines}
use Rattle.proof_leaf_laws.proofs.GfmTable.Trial.{table-refused, table-shrinks, table-took}
use Rattle.md_tables.proofs.GfmTableLook.{table-looked}
use Rattle.proof_frame.proofs.LeafLaws.{LeafLaws}
use Rattle.proof_frame.proofs.OutsideFacts.{LineResolver}

-- All that the frame asks of it: it continues the text or the table that it meets, and leaves a table open.
pub table-laws : (resolver : LineResolver) → LeafLaws resolver table_leaf
table-laws resolver = record {
  looked = λ options on cells. table-looked options on cells;
  meets = λ options on r starts further. table-lines on further;
  took = λ options cells h is few. table-took options cells h is;
  refused = λ options cells h asked. table-refused options cells h;
  shrinks = table-shrinks;
  fits = table-fits;
  adds_is = table-adds;
  keeps_is = λ options on said text following r p stop is h k short starts. refl;
  shut = λ ends options on. absurd (cc);
  finishes = λ ends options leaf r. cc;
  holds_is = table-held;
  not_lazy = λ options on. (λ cells p. refl, λ r. refl);
  no_content = table-no_content;
  lined = λ stays plain options on r p starts lines. absurd (cc);
  unturned = λ ends options on r p starts. absurd (cc);
  set = λ ends options on r p es starts. cc;
  unspanned = λ ends options on r p starts. absurd (cc);
  unjoined = λ ends options on r p starts. absurd (cc);
  alone = λ ends options on r p starts. absurd (cc);
  nests = λ ends options on r p starts. absurd (cc);
  facts = λ ends options on bytes r p q starts is. absurd (cc);
}
