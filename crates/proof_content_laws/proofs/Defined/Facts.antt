-- All that the frame asks of the events of a definition, by its form.
use Rattle.std.proofs.Common.{◌≡◌, ℕ, true, List}
use Rattle.std.specs.Prelude.{None, Option, Some}
use Rattle.md_engine.specs.declared.event.Point.{Point}
use Rattle.md_events.specs.Events.Tiles.{plain_read}
use Rattle.proof_content_laws.proofs.Defined.Form.{Form, IsFilled, IsForm, IsStrand, IsText, IsTitle, LastLine, NoLine}
use Rattle.proof_content_laws.proofs.Defined.Form.{OneLine, Strand, Titled, form_block, form_done, form_unread}
use Rattle.proof_content_laws.proofs.Defined.Known.Leaf.{facts-by}
use Rattle.proof_content_laws.proofs.Defined.Known.Plain.{form-plain}
use Rattle.proof_content_laws.proofs.Defined.Known.Texts.{FormStrings, TextString, TitleString, form-texts}
use Rattle.proof_content_laws.proofs.Defined.Strings.Facts.{AreFilled, FurtherFilled}
use Rattle.proof_content_laws.proofs.Defined.Strings.Whole.{label-facts, target-facts, title-facts}
use Rattle.proof_frame.proofs.LeafFacts.{LeafFacts}
use Rattle.proof_frame.proofs.FillFacts.{filled-read}

-- Its texts.

-- no further line of a text is blank before its ending
lines-filled : (bytes : List ℕ) (p q : Point) (s : Strand) → IsFilled s → IsStrand bytes p q s → AreFilled s
lines-filled bytes p q NoLine filled is = tt
lines-filled bytes p q (LastLine a b text) filled is = tt
lines-filled bytes p q (OneLine a e b r text front NoLine) filled is = (filled, tt)
lines-filled bytes p q (OneLine a e b r text front (LastLine c d t)) filled is = (filled, tt)
lines-filled bytes p q (OneLine a e b r text front (OneLine c f d u t next s)) filled is =
    (filled, lines-filled bytes r q (OneLine c f d u t next s) is.3 is.4)

further-filled : (bytes : List ℕ) (p q : Point) (s : Strand) → IsStrand bytes p q s → FurtherFilled s
further-filled bytes p q NoLine is = tt
further-filled bytes p q (LastLine a b text) is = tt
further-filled bytes p q (OneLine a e b r text front NoLine) is = tt
further-filled bytes p q (OneLine a e b r text front (LastLine c d t)) is = tt
further-filled bytes p q (OneLine a e b r text front (OneLine c f d u t next s)) is =
    lines-filled bytes r q (OneLine c f d u t next s) is.3 is.4

title-string : (bytes : List ℕ) (p q : Point) (title : Option Titled) → IsTitle bytes p q title →
    TitleString bytes title
title-string bytes p q None is = tt
title-string bytes p q (Some t) is = go t.text is.inside
  where
    go : (text : Option Strand) → IsText bytes t.a t.b text → TextString bytes t.a t.b text
    go None is = tt
    go (Some s) inside =
        title-facts bytes t.a t.b s is.opens.1.whole inside (further-filled bytes t.a t.b s inside)

form-strings : (bytes : List ℕ) (x : Form) (following_gap after_target : Point) →
    IsForm bytes x following_gap after_target → FormStrings bytes x
form-strings bytes x g t is = record {
  label =
      label-facts bytes x.a x.b x.label is.opens.1.whole is.label (further-filled bytes x.a x.b x.label is.label);
  target = target-facts bytes;
  title = title-string bytes t x.e x.title is.title;
}

-- All of it.
pub defined-facts : (bytes : List ℕ) (x : Form) (following_gap after_target : Point) →
    IsForm bytes x following_gap after_target →
    LeafFacts bytes (Some (form_block x)) true x.first x.last (form_unread x) (form_done bytes x)
defined-facts bytes x g t is =
    let known : FormStrings bytes x = form-strings bytes x g t is in
    facts-by bytes x g t is (form-texts bytes x known) (form-plain bytes x g t is known)

pub defined-done : (bytes : List ℕ) (x : Form) (following_gap after_target : Point) →
    IsForm bytes x following_gap after_target → plain_read bytes (form_unread x) ≡ form_done bytes x
defined-done bytes x g t is =
    filled-read bytes (form_unread x) (form_done bytes x) (defined-facts bytes x g t is).are_valid.stretch.filled
