-- What flow reads of a text from a line on is what the exact list has from there on.
use Rattle.std.proofs.Common.{◌≡◌, ◌^◌, ◌<◌, ℕ, Bool, true, false, cond, not, List, [], ◌∷◌, ◌++◌, drop, length, refl}
use Rattle.std.proofs.Common.{ap, sym, ◌∙◌, append_assoc, ◌+◌, zero, suc, take}
use Rattle.std.specs.List.{concat, onto_first, prefix_len}
use Rattle.std.proofs.Math.Seq.{drop-append_seam}
use Rattle.std.proofs.lemmas.List.{drop-drop}
use Rattle.md_engine.specs.declared.configuration.ParseOptions.{ParseOptions}
use Rattle.md_engine.specs.Found.{Found}
use Rattle.md_engine.specs.World.{World}
use Rattle.md_containers.specs.Listed.{listed}
use Rattle.md_events.proofs.PlacesLemmas.{Placed}
use Rattle.md_events.specs.Exact.Places.{TextLine, line_at, lines_from}
use Rattle.md_meaning.specs.Bytes.{is_end}
use Rattle.md_meaning.specs.Lines.{ends_line, full_lines_of, is_ending, without_ending}
use Rattle.proof_exact_lines.proofs.ExactListed.{begun, body-listed}
use Rattle.proof_exact_lines.proofs.Front.{begin}
use Rattle.proof_exact_lines.proofs.LeavesAllowed.{leaves-are_valid}
use Rattle.proof_exact_lines.proofs.Markers.{AreIn, IsIn, lines-are_valid}
use Rattle.proof_exact.proofs.LinesExact.{lines-same}
use Rattle.proof_leaf_laws.proofs.FullLines.{full-lines}
use Rattle.proof_exact.specs.Parts.{events_from}
use Rattle.proof_rows.specs.WithoutMdx.{IsWithoutMdx}
use Rattle.proof_rows.proofs.TextAre.{MayBegin}
use Rattle.markdown_blocks.specs.FlowReads.{FlowReads}
use Rattle.markdown_blocks.proofs.TextBlocks.{resolved-are}

-- The lines of a text are in it.

lines-onto : (b : ℕ) (lines : List (List ℕ)) → concat (onto_first b lines) ≡ b ∷ concat lines
lines-onto b [] = refl
lines-onto b (line ∷ lines) = refl

lines-whole : (bytes : List ℕ) → concat (full_lines_of bytes) ≡ bytes
lines-whole [] = refl
lines-whole (b ∷ bytes) = go (ends_line b bytes) (lines-whole bytes)
  where
    go : (x : Bool) → concat (full_lines_of bytes) ≡ bytes →
        concat (cond x ((b ∷ []) ∷ full_lines_of bytes) (onto_first b (full_lines_of bytes))) ≡ b ∷ bytes
    go true e = ap (λ (l : List ℕ). b ∷ l) e
    go false e = lines-onto b (full_lines_of bytes) ∙ ap (λ (l : List ℕ). b ∷ l) e

front-back : (size : ℕ) (bytes : List ℕ) → bytes ≡ take size bytes ++ drop (length (take size bytes)) bytes
front-back zero bytes = refl
front-back (suc size) [] = refl
front-back (suc size) (b ∷ bytes) = ap (λ (l : List ℕ). b ∷ l) (front-back size bytes)

lines-in : (text : List ℕ) (number index column : ℕ) (fulls : List (List ℕ)) → drop index text ≡ concat fulls →
    AreIn text (lines_from number index column fulls)
lines-in text number index column [] e = (record { following = drop index text; is = refl }, tt)
lines-in text number index column (full ∷ more) e =
    (first, go (is_end line.ending) (lines-in text (number + 1) (index + length full) 0 more next))
  where
    line : TextLine
    line = line_at number index column full

    bytes : List ℕ
    bytes = without_ending full

    following : List ℕ
    following = drop (length bytes) full

    first : IsIn text line
    first = record {
      following = following ++ concat more;
      is =
          e ∙ ap (λ (l : List ℕ). l ++ concat more) (front-back (prefix_len (λ (b : ℕ). not (is_ending b)) full) full)
          ∙ append_assoc bytes following (concat more);
    }

    next : drop (index + length full) text ≡ concat more
    next =
        sym (drop-drop (length full) index text) ∙ ap (drop (length full)) e ∙ drop-append_seam full (concat more)

    go : (x : Bool) → AreIn text (lines_from (number + 1) (index + length full) 0 more) →
        AreIn text (cond x [] (lines_from (number + 1) (index + length full) 0 more))
    go true h = tt
    go false h = h

-- Its events, one for one.
pub flow-events : (options : ParseOptions) (text : List ℕ) (number index column : ℕ) → IsWithoutMdx options →
    length text < 2 ^ 61 → MayBegin text (begin number index column) → Placed text (begin number index column) →
    (found : Found) (new : World) → FlowReads text options (begin number index column) found new →
    new.events ≡ events_from options text number index column
flow-events options text number index column built small begins placed found new flow =
    resolved-are options text (begin number index column) built small begins found new flow
    ∙ ap (listed text)
    (lines-same options text built small number index column (full_lines_of (drop index text))
    (record { are = full-lines (drop index text); placed = placed }))
    ∙ body-listed options text [] lines tt
    (lines-are_valid options text begun lines
    (lines-in text number index column (full_lines_of (drop index text)) (sym (lines-whole (drop index text)))))
    (leaves-are_valid options text lines)
  where
    lines : List TextLine
    lines = lines_from number index column (full_lines_of (drop index text))
