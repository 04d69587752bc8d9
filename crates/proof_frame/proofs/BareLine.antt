-- A leaf on one line of which nothing is known but its word: runs of one marker, with whitespace between them.
use Rattle.std.proofs.Common.{◌≡◌, ℕ, Bool, true, false, ◌||◌, List, []}
use Rattle.std.specs.Prelude.{◌==◌, Some}
use Rattle.std.specs.List.{list_all}
use Rattle.md_engine.specs.declared.configuration.ParseOptions.{ParseOptions}
use Rattle.md_engine.specs.declared.event.Name.{Name}
use Rattle.md_engine.specs.declared.event.Point.{Point}
use Rattle.md_engine.specs.declared.tokenizer.held_leaf.HeldLeaf.{HeldLeaf}
use Rattle.md_meaning.specs.declared.outline.Word.{Word}
use Rattle.md_meaning.specs.Leaves.{Finished}
use Rattle.md_meaning.specs.Rest.{Rest, is_white, trim_start}
use Rattle.md_meaning.specs.State.{Leaf}
use Rattle.md_meaning.specs.Texts.{first_byte}
use Rattle.md_meaning.specs.Tree.{Bare}
use Rattle.md_events.specs.Events.Names.{bare_names}
use Rattle.md_events.specs.Events.Nested.{around}
use Rattle.md_events.specs.Events.Places.{past_text}
use Rattle.proof_frame.specs.LineLeaf.{LineLeaf}
use Rattle.proof_frame.specs.MarkRuns.{Apart, mark_runs}

-- a text that is not empty, of its first byte and whitespace
pub record AreMarks (text : List ℕ) : Type 0 where
  pub marks : list_all (λ b. (b == first_byte text) || is_white b) text ≡ true
  pub some : text ≡ [] → ⊥

pub record BareLine (leaf : LineLeaf) : Type 0 where
  -- its word, its name, and that of a run of its markers
  pub word : Word
  pub block : Name
  pub run : Name
  pub names : bare_names word ≡ Some (block, run)
  -- it continues no leaf, and is finished with its line
  pub begins : (on : HeldLeaf) → leaf.further on ≡ false
  pub finishes : (options : ParseOptions) (open_leaf : Leaf) (r : Rest) →
      leaf.becomes options open_leaf r ≡ Finished (Bare word)
  -- its events, which no resolver changes, and what is on a line where it starts
  pub added : (options : ParseOptions) (on : HeldLeaf) (line : List ℕ) (p : Point) →
      leaf.added options on line p ≡ leaf.unread line p
  pub unread : (line : List ℕ) (p : Point) →
      leaf.unread line p ≡
      around block p (past_text line p) (mark_runs run Apart (first_byte (trim_start line)) line p)
  pub marked : (options : ParseOptions) (on : HeldLeaf) (r : Rest) → leaf.starts options on r ≡ true →
      AreMarks (trim_start r.bytes)
