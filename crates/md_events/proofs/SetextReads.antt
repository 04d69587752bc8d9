-- The events in a setext heading up to its underline are read as its lines.
use Rattle.std.proofs.Common.{◌≡◌, ℕ, Bool, true, false, cond, List, [], ◌++◌, length, refl, ap, sym, ◌∙◌}
use Rattle.std.specs.Prelude.{Option, Some, None, option_map, nat_lt}
use Rattle.md_engine.specs.declared.event.Point.{Point}
use Rattle.md_engine.specs.declared.event.Event.{Event}
use Rattle.md_engine.specs.declared.event.Name.TheVariants as n
use Rattle.md_events.proofs.BlocksLemmas.{read-recorded}
use Rattle.md_meaning.specs.Texts.{trim_each}
use Rattle.md_events.specs.Events.Nested.{around, pair}
use Rattle.md_events.specs.Events.Spelled.{AsHeading, HeadingSetextLeaf, HeadingSoFar, OfHeadingSetext, OpenLeaf}
use Rattle.md_events.specs.Events.Spelled.{Reading, Text, at_ending, begun, fresh, next_line, noted, on_leaf, read}
use Rattle.md_events.specs.Events.Spelled.{text_to}
use Rattle.md_meaning.proofs.TextsLemmas.{IsOfLines, split-lines}
use Rattle.md_events.proofs.SpelledLemmas.{Between, QuietOrPrefix, Roles, read-from, read-within, text_after}

-- Its text is read as the lines of that, which is cut at its container prefixes.
pub read-setext_text : (bytes : List ℕ) (r : Reading) (p q : Point) (inside : List Event) (lines : List (List ℕ)) →
    r.text ≡ None → r.leaf ≡ Some (fresh OfHeadingSetext) → Roles Between inside →
    IsOfLines lines (text_to bytes q.index (text_after bytes (begun p) inside)) →
    read bytes r (around n.HeadingSetextText p q inside) ≡
    record r { leaf = Some (HeadingSetextLeaf (record { markers = []; text = trim_each lines })) }
read-setext_text bytes r p q inside lines none opened between is =
    let text : Text = text_after bytes (begun p) inside in
    read-recorded bytes r n.HeadingSetextText AsHeading p q inside refl none between
    ∙ ap
    (λ (o : Option OpenLeaf).
    record r {
      leaf = option_map (noted AsHeading (record { spaces = text.spaces; text = text_to bytes q.index text })) o;
    }) opened
    ∙ ap
    (λ (x : List (List ℕ)).
    record r { leaf = Some (HeadingSetextLeaf (record { markers = []; text = trim_each x })) })
    (split-lines lines (text_to bytes q.index text) is)

-- The ending after it, and the prefixes before its underline, say nothing.
pub read-setext_gap : (bytes : List ℕ) (r : Reading) (p q : Point) (front : List Event) (heading : HeadingSoFar) →
    r.text ≡ None → r.leaf ≡ Some (HeadingSetextLeaf heading) → Roles QuietOrPrefix front →
    read bytes r (pair n.LineEnding p q ++ front) ≡ r
read-setext_gap bytes r p q front heading none opened prefixes =
    read-from bytes r r (pair n.LineEnding p q) front
    (ap (λ (x : Option Text). at_ending bytes q x r) none ∙ go (nat_lt q.index (length bytes)))
    ∙ read-within bytes r (HeadingSetextLeaf heading) front none opened prefixes
  where
    go : (x : Bool) → cond x (on_leaf next_line r) r ≡ r
    go false = refl
    go true =
        ap (λ (o : Option OpenLeaf). record r { leaf = option_map next_line o }) opened
        ∙ sym (ap (λ (o : Option OpenLeaf). record r { leaf = o }) opened)
