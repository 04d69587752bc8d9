-- Lines of HTML by their cells: the first one and further ones take the lines that the line definition says, add what
-- it says of their bytes, and hold what it has there.
use Rattle.std.proofs.Common.{◌≡◌, ℕ, ◌^◌, ◌<◌, Bool, true, cond, ◌&&◌, List, [], ◌++◌, ◌∷◌, length, refl, ◌∙◌, ap, ap₂}
use Rattle.md_engine.specs.declared.configuration.ParseOptions.{ParseOptions}
use Rattle.md_engine.specs.declared.event.Name.TheVariants as n
use Rattle.md_engine.specs.declared.event.Point.{Point}
use Rattle.md_engine.specs.declared.tokenizer.Line.{Line}
use Rattle.md_engine.specs.declared.tokenizer.held_leaf.HeldLeaf.{HeldLeaf}
use Rattle.md_engine.specs.declared.tokenizer.held_leaf.HeldLeaf.TheVariants as held_leaf
use Rattle.md_engine.specs.Meaning.{Cell}
use Rattle.md_meaning.specs.Leaves.{is_text}
use Rattle.md_meaning.specs.Rest.{Rest}
use Rattle.md_meaning.proofs.TextsLemmas.{NoEnding}
use Rattle.md_leaves.specs.Further.{further_link}
use Rattle.md_literal.specs.Html.{is_html, is_open_text}
use Rattle.md_literal.proofs.HtmlLines.{proceeds-cells, keeps-cells, keeps_on-cells, kind-agrees}
use Rattle.md_events.specs.Events.Nested.{around, enter_link, exit, pair}
use Rattle.md_events.proofs.FeedLines.{Stops}
use Rattle.md_events.proofs.RestCells.{RestAt, rest_cells}
use Rattle.md_events.proofs.RestLines.{end-cells}
use Rattle.proof_frame.specs.Context.{context_of}
use Rattle.proof_frame.specs.RestLine.{rest_line}
use Rattle.proof_literal_laws.specs.Leaf.HtmlFlow.{html_further, html_leaf}
use Rattle.proof_frame.proofs.LineEnds.{line-ends}

-- They take the lines that the line definition says.

-- text that is open by the leaf that a line meets is open by what it is against
pub text-same : (on : HeldLeaf) → is_open_text on ≡ is_text (context_of on)
text-same (held_leaf.Text at) = refl
text-same (held_leaf.LazyText at) = refl
text-same _ = refl

pub html-fits : (options : ParseOptions) (on : HeldLeaf) (said : Line) (text following : List ℕ) (r : Rest) (p : Point)
    (stop : List Cell) →
    RestAt text following r p → NoEnding r.bytes → Stops stop → length (rest_cells said r p ++ stop) < 2 ^ 63 →
    html_leaf.takes options on (rest_cells said r p ++ stop) ≡ html_leaf.starts options on r
html-fits options on said text following r p stop is h k short =
    kind-agrees options on (context_of on) said text following r p stop (text-same on) is h k short

pub further-fits : (options : ParseOptions) (on : HeldLeaf) (said : Line) (text following : List ℕ)
    (r : Rest) (p : Point)
    (stop : List Cell) →
    RestAt text following r p → NoEnding r.bytes → Stops stop → length (rest_cells said r p ++ stop) < 2 ^ 63 →
    html_further.takes options on (rest_cells said r p ++ stop) ≡ html_further.starts options on r
further-fits options on said text following r p stop is h k short =
    ap (λ (proceeds : Bool). is_html on && proceeds) (proceeds-cells on said r p stop h k)

-- What they add is over the whole line.

pub html-adds : (options : ParseOptions) (on : HeldLeaf) (said : Line) (text following : List ℕ) (r : Rest) (p : Point)
    (stop : List Cell) →
    RestAt text following r p → NoEnding r.bytes → Stops stop → length (rest_cells said r p ++ stop) < 2 ^ 63 →
    html_leaf.starts options on r ≡ true →
    html_leaf.adds options on (rest_cells said r p ++ stop) p ≡ html_leaf.added options on (rest_line r) p
html-adds options on said text following r p stop is h k short starts =
    ap (λ (q : Point). around n.HtmlFlow p q (pair n.HtmlFlowData p q)) (line-ends said text following r p stop is h k)

pub further-adds : (options : ParseOptions) (on : HeldLeaf) (said : Line) (text following : List ℕ)
    (r : Rest) (p : Point)
    (stop : List Cell) →
    RestAt text following r p → NoEnding r.bytes → Stops stop → length (rest_cells said r p ++ stop) < 2 ^ 63 →
    html_further.starts options on r ≡ true →
    html_further.adds options on (rest_cells said r p ++ stop) p ≡ html_further.added options on (rest_line r) p
further-adds options on said text following r p stop is h k short starts =
    ap₂
    (λ (empty : Bool) (q : Point).
    enter_link n.HtmlFlow p further_link ∷ cond empty [] (pair n.HtmlFlowData p q) ++ exit n.HtmlFlow q ∷ [])
    (end-cells said r p stop h k) (line-ends said text following r p stop is h k)

-- What is open after them is what the line definition has there.

pub html-keeps : (options : ParseOptions) (on : HeldLeaf) (said : Line) (text following : List ℕ) (r : Rest) (p : Point)
    (stop : List Cell) →
    RestAt text following r p → NoEnding r.bytes → Stops stop → length (rest_cells said r p ++ stop) < 2 ^ 63 →
    html_leaf.starts options on r ≡ true →
    html_leaf.keeps options on (rest_cells said r p ++ stop) p ≡ html_leaf.holds options on r
html-keeps options on said text following r p stop is h k short starts =
    keeps-cells options on said text following r p stop is h k short
    (html-fits options on said text following r p stop is h k short ∙ starts)

pub further-keeps : (options : ParseOptions) (on : HeldLeaf) (said : Line) (text following : List ℕ)
    (r : Rest) (p : Point)
    (stop : List Cell) →
    RestAt text following r p → NoEnding r.bytes → Stops stop → length (rest_cells said r p ++ stop) < 2 ^ 63 →
    html_further.starts options on r ≡ true →
    html_further.keeps options on (rest_cells said r p ++ stop) p ≡ html_further.holds options on r
further-keeps options on said text following r p stop is h k short starts =
    keeps_on-cells on said r p stop h k
