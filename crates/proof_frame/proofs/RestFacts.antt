-- The rest of a line by its cells: where it ends, and what follows its indent.
use Rattle.std.proofs.Common.{◌≡◌, ℕ, zero, suc, ◌+◌, ◌^◌, ◌<◌, ◌≤◌, true, false, List, ◌∷◌}
use Rattle.std.proofs.Common.{◌++◌, length, refl, ap, ◌∙◌, arith}
use Rattle.std.specs.List.{prefix_len}
use Rattle.std.proofs.lemmas.List.{length-append}
use Rattle.md_engine.specs.declared.configuration.ParseOptions.{ParseOptions}
use Rattle.md_engine.specs.declared.event.Point.{Point}
use Rattle.md_engine.specs.declared.tokenizer.Line.{Line}
use Rattle.md_engine.specs.Meaning.{Cell}
use Rattle.md_events.specs.Ahead.{begins_white, line_bytes, line_end, point_after, white_end, white_rest}
use Rattle.md_events.specs.Events.Places.{past_byte, past_text}
use Rattle.md_events.specs.Spaces.{small_indent}
use Rattle.md_meaning.specs.Rest.{Rest, after_indent, cut_tab, has_small_indent, indent, is_white, trim_start}
use Rattle.md_events.proofs.FeedLines.{Stops, after_last, bytes_of, cell, columns_more, next_column}
use Rattle.md_events.proofs.FeedLines.{spread, spread-end, tab_cells, tab_end, tab_end-stop}
use Rattle.md_events.proofs.RestCells.{Cut, HasIndent, RestAt, bare-cells, cells_by, indent-length}
use Rattle.md_events.proofs.RestCells.{indent-over, indent-taken, rest_cells}
use Rattle.md_events.proofs.RestLines.{bare-spread, indent-trims, large-room, small-room, spread-line, trim-white}
use Rattle.md_meaning.proofs.TextsLemmas.{NoEnding, no_ending-drop}
use Rattle.proof_frame.specs.RestLine.{rest_line}

-- Bytes that are fed, up to the end of their line.

-- where they end
pub spread-line_end : (line : Line) (bytes : List ℕ) (p : Point) (rest : List Cell) → NoEnding bytes → Stops rest →
    1 ≤ p.column → line_end (spread line bytes p ++ rest) p ≡ past_text bytes p
spread-line_end line bytes p rest h k one =
    ap (λ (l : List Cell). point_after l p) (spread-line line bytes p rest h k)
    ∙ spread-end line bytes p one

-- What does not show a space from a tab in the first cell has the same value on the rest of a line and on its bytes.

-- the first column of a cut tab
first-same : (X : Type 0) (F : List Cell → X) (said : Line) →
    ((at : Point) (cs : List Cell) → F (cell 32 at said ∷ cs) ≡ F (cell 9 at said ∷ cs)) →
    (n : ℕ) (p : Point) (xs ys : List Cell) →
    F (tab_cells said n 32 p ++ xs ++ ys) ≡ F (tab_cells said n 9 p ++ xs ++ ys)
first-same X F said same zero p xs ys = same (after_last p) (xs ++ ys)
first-same X F said same (suc n) p xs ys = same (next_column p) (tab_cells said n 32 (next_column p) ++ xs ++ ys)

-- so it is for the whole rest
pub rest-same : (X : Type 0) (F : List Cell → X) (said : Line) →
    ((at : Point) (cs : List Cell) → F (cell 32 at said ∷ cs) ≡ F (cell 9 at said ∷ cs)) →
    (r : Rest) (p : Point) (stop : List Cell) → 1 ≤ p.column → Cut r.spaces p →
    F (rest_cells said r p ++ stop) ≡ F (spread said (rest_line r) p ++ stop)
rest-same X F said same r p stop one = go r.spaces
  where
    go : (spaces : ℕ) → Cut spaces p →
        F (cells_by said spaces r.bytes p ++ stop) ≡ F (spread said (cut_tab spaces ++ r.bytes) p ++ stop)
    go zero cut = refl
    go (suc k) cut =
        ap (λ (m : ℕ). F (tab_cells said m 32 p ++ spread said r.bytes (tab_end m p) ++ stop)) cut.1
        ∙ ap (λ (q : Point). F (tab_cells said (columns_more p) 32 p ++ spread said r.bytes q ++ stop))
        (tab_end-stop p one)
        ∙ first-same X F said same (columns_more p) p (spread said r.bytes (past_byte 9 p)) stop

-- a cut tab is no ending
pub rest-no_ending : (r : Rest) → NoEnding r.bytes → NoEnding (rest_line r)
rest-no_ending r h = go r.spaces
  where
    go : (spaces : ℕ) → NoEnding (cut_tab spaces ++ r.bytes)
    go zero = h
    go (suc k) = (refl, h)

-- where it ends
pub rest-line_end : (said : Line) (r : Rest) (p : Point) (stop : List Cell) → NoEnding r.bytes → Stops stop →
    1 ≤ p.column → Cut r.spaces p → line_end (rest_cells said r p ++ stop) p ≡ past_text (rest_line r) p
rest-line_end said r p stop h k one cut =
    rest-same Point (λ (l : List Cell). line_end l p) said (λ at cs. refl) r p stop one cut
    ∙ spread-line_end said (rest_line r) p stop (rest-no_ending r h) k one

-- Its indent.

-- a tab that is cut does not count where all whitespace in front is dropped
pub rest-trim : (r : Rest) → trim_start (rest_line r) ≡ trim_start r.bytes
rest-trim r = go r.spaces
  where
    go : (spaces : ℕ) → trim_start (cut_tab spaces ++ r.bytes) ≡ trim_start r.bytes
    go zero = refl
    go (suc k) = trim-white 9 r.bytes refl

-- The cells after a small indent: no whitespace is left, and they are fed as the bytes without whitespace in front.
pub record Indented (options : ParseOptions) (said : Line) (r : Rest) (p : Point) (stop : List Cell) : Type 0 where
  pub none : begins_white (white_rest (small_indent options) (rest_cells said r p ++ stop)) ≡ false
  pub bytes : line_bytes (white_rest (small_indent options) (rest_cells said r p ++ stop)) ≡
      bytes_of (spread said (trim_start r.bytes) (white_end (small_indent options) (rest_cells said r p ++ stop) p))

pub small-indented : (options : ParseOptions) (said : Line) (text following : List ℕ) (r : Rest) (p : Point)
    (stop : List Cell) →
    RestAt text following r p → NoEnding r.bytes → Stops stop → length (rest_cells said r p ++ stop) < 2 ^ 63 →
    has_small_indent options r ≡ true → Indented options said r p stop
small-indented options said text following r p stop is h k short small =
    record {
      none = ap begins_white taken.cells ∙ bare-cells said (after_indent r) q stop taken.none k;
      bytes =
          ap line_bytes
          (taken.cells
          ∙ ap (λ (l : List Cell). l ++ stop)
          (bare-spread said (after_indent r) q taken.none
          ∙ ap (λ (bytes : List ℕ). spread said bytes q) (indent-trims r taken.none)))
          ∙ ap bytes_of
          (spread-line said (trim_start r.bytes) q stop (no_ending-drop (prefix_len is_white r.bytes) r.bytes h) k);
    }
  where
    cells : List Cell
    cells = rest_cells said r p ++ stop

    room : ℕ
    room = small_indent options

    q : Point
    q = white_end (small_indent options) (rest_cells said r p ++ stop) p

    fits : indent r ≤ small_indent options
    fits =
        let size : length cells ≡
        length (rest_cells said r p) + length stop = length-append (rest_cells said r p) stop in
        small-room options r (length cells) small
        (let most = indent-length said text following r p is in omega arith) short

    taken : HasIndent said text following room r p stop (after_indent r)
    taken = indent-taken said text following room r p stop is k fits

-- After a larger one whitespace is left.
pub large-white : (options : ParseOptions) (said : Line) (text following : List ℕ) (r : Rest) (p : Point)
    (stop : List Cell) →
    RestAt text following r p → has_small_indent options r ≡ false →
    begins_white (white_rest (small_indent options) (rest_cells said r p ++ stop)) ≡ true
large-white options said text following r p stop is large =
    indent-over said text following (small_indent options) r p stop is (large-room options r large)
