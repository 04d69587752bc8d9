-- A heading may be outlined.
use Rattle.std.proofs.Common.{◌≡◌, ℕ, ◌+◌, Bool, true, false, cond, ◌==◌, List, [], ◌++◌, length, take, drop, refl}
use Rattle.std.specs.Prelude.{Some, None}
use Rattle.md_engine.specs.declared.event.Event.{Event}
use Rattle.md_engine.specs.declared.event.Name.TheVariants as n
use Rattle.md_engine.specs.declared.event.Point.{Point}
use Rattle.md_leaves.specs.HeadingRuns.{Apart, Hashes, Run, White, chunk_unless_empty, closes, line_runs, opens}
use Rattle.md_leaves.specs.HeadingTitle.{Title, front_len, text_of, title_of}
use Rattle.md_events.specs.declared.inline.Chunk.{Chunk}
use Rattle.md_events.specs.Events.Inline.{plain_chunk}
use Rattle.md_events.specs.Events.Nested.{enter, exit}
use Rattle.md_events.specs.Events.Places.{past_text}
use Rattle.md_events.proofs.SpelledLemmas.{QuietOrEnding, roles-append}
use Rattle.md_outline.proofs.LinesPass.{passes-atx_text}
use Rattle.proof_leaf_laws.specs.Leaf.HeadingAtx.{heading_around, read_text, read_title}
use Rattle.proof_leaf_laws.proofs.HeadingAtx.Places.{text_begin, text_end}
use Rattle.proof_leaf_laws.proofs.HeadingAtx.Runs.{runs-each}
use Rattle.proof_frame.proofs.PartedFacts.{clear}
use Rattle.proof_frame.proofs.PlainFacts.{ArePlain, chunk-plain, known-around, past-clear, plain-append}
use Rattle.proof_frame.proofs.PlainFacts.{plain-around, plain-cons, plain-nil, plain-quiet}
use Rattle.proof_frame.proofs.PlainRoles.{chunk-roles}

-- the begin and the end of a run
plain-closes : (bytes : List ℕ) (run : Run) (p : Point) → clear bytes p ≡ true → ArePlain bytes (closes run p)
plain-closes bytes Apart p h = plain-nil bytes
plain-closes bytes White p h = plain-quiet bytes (closes White p) (tt, tt)
plain-closes bytes Hashes p h = plain-cons bytes (exit n.HeadingAtxSequence p) [] refl h (plain-nil bytes)

plain-opens : (bytes : List ℕ) (run : Run) (p : Point) → clear bytes p ≡ true → ArePlain bytes (opens run p)
plain-opens bytes Apart p h = plain-nil bytes
plain-opens bytes White p h = plain-quiet bytes (opens White p) (tt, tt)
plain-opens bytes Hashes p h = plain-cons bytes (enter n.HeadingAtxSequence p) [] refl h (plain-nil bytes)

-- what is left of runs
plain-runs : (bytes : List ℕ) (run : Run) (xs : List ℕ) (p : Point) → clear bytes p ≡ true →
    ArePlain bytes (line_runs run xs p)
plain-runs bytes run xs p h =
    runs-each (λ q. clear bytes q ≡ true) (ArePlain bytes)
    (record {
      append = plain-append bytes;
      closes = plain-closes bytes;
      opens = plain-opens bytes;
      next = λ b q h. refl;
    }) run xs p h

-- the text of a heading
plain-text : (bytes : List ℕ) (size : ℕ) (p q : Point) → clear bytes p ≡ true → clear bytes q ≡ true →
    ArePlain bytes (read_text bytes (chunk_unless_empty size p q))
plain-text bytes size p q hp hq = go (size == 0)
  where
    go : (none : Bool) → ArePlain bytes (read_text bytes (cond none None (Some (record { first = p; after = q }))))
    go true = plain-nil bytes
    go false =
        let chunk : Chunk = record { first = p; after = q } in
        let text : List Event = plain_chunk bytes chunk ++ [] in
        record {
          known =
              known-around bytes n.HeadingAtxText p q text refl hp hq
              (plain-append bytes (plain_chunk bytes chunk) [] (chunk-plain bytes chunk) (plain-nil bytes)).known;
          lines =
              passes-atx_text bytes n.HeadingAtxText p q text refl
              (roles-append QuietOrEnding (plain_chunk bytes chunk) []
              (chunk-roles QuietOrEnding bytes chunk tt tt) tt);
        }

-- what is in it
plain-title : (bytes line : List ℕ) (p : Point) → clear bytes p ≡ true →
    ArePlain bytes (read_title bytes (title_of line p))
plain-title bytes line p h =
    let title : Title = title_of line p in
    let size : ℕ = length (text_of line) in
    let begin : clear bytes (text_begin line p) ≡ true = past-clear bytes (take (front_len line) line) p h in
    let end : clear bytes (text_end line p) ≡ true = past-clear bytes (take (front_len line + size) line) p h in
    plain-append bytes (title.front ++ read_text bytes title.text) title.back
    (plain-append bytes title.front (read_text bytes title.text)
    (plain-runs bytes Apart (take (front_len line) line) p h)
    (plain-text bytes size (text_begin line p) (text_end line p) begin end))
    (plain-runs bytes Apart (drop (front_len line + size) line) (text_end line p) end)

-- and so may the heading
pub heading-plain : (bytes line : List ℕ) (p : Point) → clear bytes p ≡ true →
    ArePlain bytes (heading_around line p (read_title bytes (title_of line p)))
heading-plain bytes line p h =
    plain-around bytes n.HeadingAtx p (past_text line p) (read_title bytes (title_of line p)) refl refl refl
    (plain-title bytes line p h)
