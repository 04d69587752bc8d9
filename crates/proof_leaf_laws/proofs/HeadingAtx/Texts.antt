-- The text of a heading: the resolver sets it as one chunk.
use Rattle.std.proofs.Common.{◌≡◌, ℕ, true, List, [], ◌∷◌, ◌++◌, sym, append_assoc, ◌∙◌, ap}
use Rattle.md_engine.specs.declared.event.Event.{Event}
use Rattle.md_engine.specs.declared.event.Name.TheVariants as n
use Rattle.md_engine.specs.declared.event.Point.{Point}
use Rattle.md_leaves.specs.HeadingRule as heading
use Rattle.md_leaves.specs.HeadingText.{Before, headings_resolved, resolved}
use Rattle.md_leaves.specs.HeadingTitle.{flow_title, title_of, unread_title}
use Rattle.md_leaves.proofs.TitleLemmas.{title-resolved}
use Rattle.md_events.specs.Events.Nested.{around, enter, exit}
use Rattle.md_meaning.specs.Rest.{trim_start}

-- the resolver sets the text of a heading, and continues after it
pub heading-resolved : (line : List ℕ) (p q : Point) (es : List Event) → heading.is_heading (trim_start line) ≡ true →
    headings_resolved (around n.HeadingAtx p q (flow_title (title_of line p)) ++ es) ≡
    around n.HeadingAtx p q (unread_title (title_of line p)) ++ headings_resolved es
heading-resolved line p q es h =
    let after = headings_resolved es in
    ap (λ (rest : List Event). enter n.HeadingAtx p ∷ resolved Before rest)
    (append_assoc (flow_title (title_of line p)) (exit n.HeadingAtx q ∷ []) es)
    ∙ ap (λ (rest : List Event). enter n.HeadingAtx p ∷ rest)
    (title-resolved line p q es h
    ∙ sym (append_assoc (unread_title (title_of line p)) (exit n.HeadingAtx q ∷ []) after))
