-- No ending is in a heading, and no begin or end of another leaf.
use Rattle.std.proofs.Common.{ℕ, List, ◌++◌, take, refl}
use Rattle.std.specs.Prelude.{Option, Some, None}
use Rattle.md_engine.specs.declared.event.Event.{Event}
use Rattle.md_engine.specs.declared.event.Point.{Point}
use Rattle.md_leaves.specs.HeadingRuns as heading
use Rattle.md_leaves.specs.HeadingRuns.{line_runs}
use Rattle.md_leaves.specs.HeadingText.{linked_text}
use Rattle.md_leaves.specs.HeadingTitle.{Title, front_len, title_of}
use Rattle.md_events.specs.declared.inline.Chunk.{Chunk}
use Rattle.md_events.proofs.EndingsLemmas.{AreOthers, others-append}
use Rattle.proof_leaf_laws.proofs.HeadingAtx.Places.{back_bytes, text_end}
use Rattle.proof_leaf_laws.proofs.HeadingAtx.Runs.{runs-each}

-- what is around the text of a heading
closes-others : (run : heading.Run) (p : Point) → AreOthers (heading.closes run p)
closes-others heading.Apart p = refl
closes-others heading.White p = refl
closes-others heading.Hashes p = refl

opens-others : (run : heading.Run) (p : Point) → AreOthers (heading.opens run p)
opens-others heading.Apart p = refl
opens-others heading.White p = refl
opens-others heading.Hashes p = refl

runs-others : (run : heading.Run) (xs : List ℕ) (p : Point) → AreOthers (line_runs run xs p)
runs-others run xs p =
    runs-each (λ q. Unit {0}) AreOthers
    (record {
      append = others-append;
      closes = λ r q h. closes-others r q;
      opens = λ r q h. opens-others r q;
      next = λ b q h. tt;
    }) run xs p tt

-- what is in a heading, with its text
pub title-others : (line : List ℕ) (p : Point) (text : List Event) → AreOthers text →
    AreOthers ((title_of line p).front ++ text ++ (title_of line p).back)
title-others line p text h =
    let title : Title = title_of line p in
    others-append (title.front ++ text) title.back
    (others-append title.front text (runs-others heading.Apart (take (front_len line) line) p) h)
    (runs-others heading.Apart (back_bytes line) (text_end line p))

-- before it is read
pub linked-others : (text : Option Chunk) → AreOthers (linked_text text)
linked-others None = refl
linked-others (Some chunk) = refl
