-- Nothing is on a line of HTML that a resolver rewrites, and no content.
use Rattle.std.proofs.Common.{◌≡◌, ℕ, Bool, true, false, cond, List, [], ◌∷◌, ◌++◌, refl, ap}
use Rattle.std.specs.Prelude.{Some, None}
use Rattle.md_engine.specs.declared.configuration.ParseOptions.{ParseOptions}
use Rattle.md_engine.specs.declared.event.Content.{Content}
use Rattle.md_engine.specs.declared.event.Content.TheVariants as content
use Rattle.md_engine.specs.declared.event.Event.{Event}
use Rattle.md_engine.specs.declared.event.Name.TheVariants as n
use Rattle.md_engine.specs.declared.event.Point.{Point}
use Rattle.md_engine.specs.declared.tokenizer.held_leaf.HeldLeaf.{HeldLeaf}
use Rattle.md_engine.specs.Meaning.{Cell}
use Rattle.md_meaning.specs.Bytes.{is_end}
use Rattle.md_leaves.specs.Further.{further_link}
use Rattle.md_events.specs.Ahead.{line_bytes, line_end}
use Rattle.md_events.specs.Events.Nested.{enter_link, exit, pair}
use Rattle.md_events.specs.Events.Places.{past_text}
use Rattle.proof_literal_laws.specs.Leaf.HtmlFlow.{html_further, html_leaf}
use Rattle.proof_frame.proofs.ContentFacts.{NoContent}
use Rattle.proof_frame.proofs.LinedFacts.{AreLined}

-- A first line between two points, and a further one, by whether it is empty.

abbrev further_line : Bool → Point → Point → List Event
further_line empty p q =
    enter_link n.HtmlFlow p further_link ∷ cond empty [] (pair n.HtmlFlowData p q) ++ exit n.HtmlFlow q ∷ []

-- Their names may be in a leaf of several lines.

pub html-lined : (options : ParseOptions) (on : HeldLeaf) (line : List ℕ) (p : Point) →
    AreLined (html_leaf.added options on line p)
html-lined options on line p = (refl, (refl, (refl, (refl, tt))))

line-lined : (empty : Bool) (p q : Point) → AreLined (further_line empty p q)
line-lined true p q = (refl, (refl, tt))
line-lined false p q = (refl, (refl, (refl, (refl, tt))))

pub further-lined : (options : ParseOptions) (on : HeldLeaf) (line : List ℕ) (p : Point) →
    AreLined (html_further.added options on line p)
further-lined options on line p = line-lined (is_end line) p (past_text line p)

-- No content is in them, and the link is to none that is read later.

pub html-no_content : (wants : Content → Bool) (options : ParseOptions) (on : HeldLeaf) (cells : List Cell)
    (p : Point) → NoContent wants (html_leaf.adds options on cells p)
html-no_content wants options on cells p = (refl, refl, (refl, refl, (refl, refl, (refl, refl, tt))))

pub further-no_content : (wants : Content → Bool) → wants content.Flow ≡ false → (options : ParseOptions)
    (on : HeldLeaf) (cells : List Cell) (p : Point) → NoContent wants (html_further.adds options on cells p)
further-no_content wants flow options on cells p = go (is_end (line_bytes cells))
  where
    go : (empty : Bool) → NoContent wants (further_line empty p (line_end cells p))
    go true = (ap (λ (x : Bool). cond x (Some content.Flow) None) flow, refl, (refl, refl, tt))
    go false =
        (ap (λ (x : Bool). cond x (Some content.Flow) None) flow, refl, (refl, refl, (refl, refl, (refl, refl, tt))))
