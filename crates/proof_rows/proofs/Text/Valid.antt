-- All that the frame asks of what is in the place of the lines of a text, whatever it is read as: definitions at its
-- front, one after the other, and the leaf of the lines that remain.
use Rattle.std.proofs.Common.{◌≡◌, ℕ, Bool, true, false, List, [], ◌++◌, sym, ◌∙◌, ap, subst, append_assoc}
use Rattle.std.proofs.Common.{subst₂}
use Rattle.md_engine.specs.declared.configuration.ParseOptions.{ParseOptions}
use Rattle.md_engine.specs.declared.event.Event.{Event}
use Rattle.md_engine.specs.declared.event.Point.{Point}
use Rattle.md_link_definitions.specs.DefinitionRule.{DefinitionParts}
use Rattle.md_events.specs.Events.Tiles.{plain_read}
use Rattle.proof_rows.specs.BlockList.{text_unread}
use Rattle.proof_frame.specs.Row.{Row, last_row}
use Rattle.proof_content_laws.specs.Defined.{defined_unread}
use Rattle.proof_rows.specs.Rows.{defined_done, text_done}
use Rattle.proof_content_laws.proofs.Defined.Facts.{defined-done, defined-facts}
use Rattle.proof_content_laws.proofs.Defined.Form.{Form, form_done}
use Rattle.proof_content_laws.proofs.Defined.Is.{IsDefined}
use Rattle.proof_frame.proofs.FrontFacts.{LinePrefix}
use Rattle.proof_rows.proofs.GroupLines.{AreLines, first-text}
use Rattle.proof_frame.proofs.LeafFacts.{EventFacts}
use Rattle.proof_frame.proofs.PartedFacts.{clear}
use Rattle.md_events.proofs.FeedLines.{IsEnding}
use Rattle.proof_frame.proofs.LeafLines.Following.{gap-facts, are_valid-following}
use Rattle.proof_rows.proofs.Text.Cut as cut
use Rattle.proof_rows.proofs.Text.Cut.{Defines, Follows, IsCutText, Remains}
use Rattle.proof_rows.proofs.Text.Cuts.{cut-is}
use Rattle.proof_rows.proofs.Text.Facts.{text-facts}
use Rattle.proof_rows.proofs.Text.Parted.{rest-clear}
use Rattle.proof_rows.proofs.Turned.Under.{text-whole}
use Rattle.proof_rows.proofs.ContentCut.{last-split}

-- One after the other.

-- Events that are from a point to a point, and others after the ending of their last line and the prefixes of the next:
-- all of them are from the first point to the last. No tab of a character is cut where the others begin.
pub are_valid-then : (bytes : List ℕ) (full : Bool) (p q r s t : Point) (front us ds vs ws : List Event) →
    EventFacts bytes true p q us ds → q.vs ≡ 0 → IsEnding bytes q r → LinePrefix bytes [] r s front →
    clear bytes s ≡ true → EventFacts bytes full s t vs ws →
    EventFacts bytes full p t (us ++ cut.between q r front ++ vs) (ds ++ cut.between q r front ++ ws)
are_valid-then bytes full p q r s t front us ds vs ws h whole ending fronts first k =
    subst₂ (λ (xs ys : List Event). EventFacts bytes full p t xs ys)
    (sym (append_assoc us (cut.between q r front) vs)) (sym (append_assoc ds (cut.between q r front) ws))
    (are_valid-following h (gap-facts bytes false q r s front whole ending fronts) first k)

-- A definition.

-- once its texts are read it is what its parts are
pub done-is : (bytes : List ℕ) (d : DefinitionParts) (row : Row) (rows : List Row) →
    (is : IsDefined bytes d row rows) → defined_done bytes d row rows ≡ form_done bytes is.form
done-is bytes d row rows is =
    ap (plain_read bytes) is.unread ∙ defined-done bytes is.form is.following_gap is.after_target is.is

-- it is from the begin of its first line to the end of its last
pub defined-valid : (bytes : List ℕ) (d : DefinitionParts) (row : Row) (rows : List Row) → IsDefined bytes d row rows →
    EventFacts bytes true row.first (last_row row rows).end (defined_unread d row rows) (defined_done bytes d row rows)
defined-valid bytes d row rows is =
    subst₂ (λ (p q : Point). EventFacts bytes true p q (defined_unread d row rows) (defined_done bytes d row rows))
    is.first is.last
    (subst₂ (λ (xs ys : List Event). EventFacts bytes true x.first x.last xs ys) (sym is.unread)
    (sym (done-is bytes d row rows is))
    (defined-facts bytes x is.following_gap is.after_target is.is).are_valid)
  where
    x : Form
    x = is.form

-- Texts.

-- no tab of a character is cut where the first line begins
pub lines-clear : (options : ParseOptions) (bytes : List ℕ) (row : Row) (rows : List Row) →
    AreLines options bytes row rows → clear bytes row.first ≡ true
lines-clear options bytes row rows are =
    let line = first-text options bytes row rows are in rest-clear options bytes line.0 row line.1

cut-clear : (options : ParseOptions) (bytes : List ℕ) (row : Row) (rows : List Row) (es fs : List Event) →
    IsCutText options bytes row rows es fs → clear bytes row.first ≡ true
cut-clear options bytes _ _ _ _ (Remains row rows are) = lines-clear options bytes row rows are
cut-clear options bytes _ _ _ _ (Defines d row rows are is) = lines-clear options bytes row rows are
cut-clear options bytes _ _ _ _ (Follows d row own next more q es fs are is after ends front following) =
    lines-clear options bytes row own are

-- What is in the place of the lines of a text is from the begin of the first to the end of the last.
pub cut-valid : (options : ParseOptions) (bytes : List ℕ) (row : Row) (rows : List Row) (unread done : List Event) →
    IsCutText options bytes row rows unread done →
    EventFacts bytes true row.first (last_row row rows).end unread done
cut-valid options bytes _ _ _ _ (Remains row rows are) =
    (text-facts options bytes row rows are).are_valid
cut-valid options bytes _ _ _ _ (Defines d row rows are is) = defined-valid bytes d row rows is
cut-valid options bytes _ _ _ _ (Follows d row own next more q es fs are is after ends front following) =
    let last : Row = last_row row own in
    subst
    (λ (end : Row).
    EventFacts bytes true row.first end.end (defined_unread d row own ++ cut.between last.end q next.front ++ es)
    (defined_done bytes d row own ++ cut.between last.end q next.front ++ fs))
    (sym (last-split row own next more))
    (are_valid-then bytes true row.first last.end q next.first (last_row next more).end next.front
    (defined_unread d row own) (defined_done bytes d row own) es fs (defined-valid bytes d row own is)
    (text-whole options bytes row own are) ends front (cut-clear options bytes next more es fs following)
    (cut-valid options bytes next more es fs following))

pub text-valid : (options : ParseOptions) (bytes : List ℕ) (row : Row) (rows : List Row) →
    AreLines options bytes row rows →
    EventFacts bytes true row.first (last_row row rows).end (text_unread options bytes row rows)
    (text_done options bytes row rows)
text-valid options bytes row rows are =
    cut-valid options bytes row rows (text_unread options bytes row rows) (text_done options bytes row rows)
    (cut-is options bytes row rows are)
