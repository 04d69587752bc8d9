-- The events of a paragraph are read as a paragraph.
use Rattle.std.proofs.Common.{◌≡◌, ℕ, List, refl, ap, ◌∙◌}
use Rattle.std.specs.Prelude.{None}
use Rattle.md_engine.specs.declared.event.Point.{Point}
use Rattle.md_engine.specs.declared.event.Event.{Event}
use Rattle.md_engine.specs.declared.event.Name.TheVariants as n
use Rattle.md_meaning.specs.Tree as t
use Rattle.md_events.proofs.BlocksLemmas.{read-recorded}
use Rattle.md_meaning.specs.Texts.{trim_each}
use Rattle.md_events.specs.Events.Nested.{around}
use Rattle.md_events.specs.Events.Spelled.{Reading, AsParagraph, add_block, begun, text_to, read}
use Rattle.md_meaning.proofs.TextsLemmas.{IsOfLines, split-lines}
use Rattle.md_events.proofs.SpelledLemmas.{Roles, Between, text_after}

-- A paragraph is read as the lines of its text, which is cut at its container prefixes.
pub read-paragraph : (bytes : List ℕ) (r : Reading) (p q : Point) (inside : List Event) (lines : List (List ℕ)) →
    r.text ≡ None → Roles Between inside → IsOfLines lines (text_to bytes q.index (text_after bytes (begun p) inside)) →
    read bytes r (around n.Paragraph p q inside) ≡ add_block (t.Paragraph (trim_each lines)) r
read-paragraph bytes r p q inside lines none between is =
    read-recorded bytes r n.Paragraph AsParagraph p q inside refl none between
    ∙ ap (λ (x : List (List ℕ)). add_block (t.Paragraph (trim_each x)) r)
    (split-lines lines (text_to bytes q.index (text_after bytes (begun p) inside)) is)
