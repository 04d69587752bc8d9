-- Which lines a leaf takes after a small indent: by their cells those that it takes by their bytes.
use Rattle.std.proofs.Common.{◌≡◌, ℕ, ◌^◌, ◌<◌, Bool, true, false, ◌&&◌, List, [], ◌∷◌, ◌++◌, length, refl, sym, ap}
use Rattle.std.proofs.Common.{◌∙◌, subst}
use Rattle.md_engine.specs.declared.configuration.ParseOptions.{ParseOptions}
use Rattle.md_engine.specs.declared.event.Point.{Point}
use Rattle.md_engine.specs.declared.tokenizer.Line.{Line}
use Rattle.md_engine.specs.Meaning.{Cell}
use Rattle.md_meaning.specs.Rest.{Rest, has_small_indent, is_white, trim_start}
use Rattle.md_meaning.proofs.TextsLemmas.{NoEnding}
use Rattle.md_events.specs.Ahead.{begins_white, line_bytes, white_end, white_rest}
use Rattle.md_events.specs.Spaces.{small_indent}
use Rattle.md_events.proofs.AheadLemmas.{white-no_ending}
use Rattle.md_events.proofs.FeedLines.{Stops, bytes_of, spread}
use Rattle.md_events.proofs.RestCells.{RestAt, rest_cells}
use Rattle.proof_frame.proofs.RestFacts.{large-white, small-indented}

-- A test of the bytes after an indent: it does not show a tab from its columns, and it refuses whitespace.
pub record Reports (is : List ℕ → Bool) : Type 0 where
  pub spread_same : (line : Line) (bytes : List ℕ) (p : Point) → is (bytes_of (spread line bytes p)) ≡ is bytes
  pub dark : (b : ℕ) (bs : List ℕ) → is_white b ≡ true → is (b ∷ bs) ≡ false

-- so it does by the cells of a line
white-none : (is : List ℕ → Bool) → Reports is → (cells : List Cell) → begins_white cells ≡ true →
    is (line_bytes cells) ≡ false
white-none is records [] e = cc
white-none is records (c ∷ cs) e = rw (white-no_ending c.byte e) (records.dark c.byte (line_bytes cs) e)

-- so a line passes it by its cells if it does by its rest
pub line-fits : (is : List ℕ → Bool) → Reports is → (on : Bool) (options : ParseOptions) (said : Line)
    (text following : List ℕ) (r : Rest) (p : Point) (stop : List Cell) →
    RestAt text following r p → NoEnding r.bytes → Stops stop → length (rest_cells said r p ++ stop) < 2 ^ 63 →
    (on && is (line_bytes (white_rest (small_indent options) (rest_cells said r p ++ stop)))) ≡
    (on && has_small_indent options r && is (trim_start r.bytes))
line-fits is records on options said text following r p stop at h k short = go (has_small_indent options r) refl
  where
    left : List Cell
    left = white_rest (small_indent options) (rest_cells said r p ++ stop)

    By : Bool → Type 0
    By small = (on && is (line_bytes left)) ≡ (on && small && is (trim_start r.bytes))

    with-small : (on x y : Bool) → x ≡ y → (on && x) ≡ (on && true && y)
    with-small true x y e = e
    with-small false x y e = refl

    with-large : (on x y : Bool) → x ≡ false → (on && x) ≡ (on && false && y)
    with-large true x y e = e
    with-large false x y e = refl

    go : (small : Bool) → has_small_indent options r ≡ small → By (has_small_indent options r)
    go true e =
        let q : Point = white_end (small_indent options) (rest_cells said r p ++ stop) p in
        let same : is (line_bytes left) ≡
        is (trim_start r.bytes) = ap is (small-indented options said text following r p stop at h k short e).bytes
        ∙ records.spread_same said (trim_start r.bytes) q in
        subst By (sym e) (with-small on (is (line_bytes left)) (is (trim_start r.bytes)) same)
    go false e =
        subst By (sym e)
        (with-large on (is (line_bytes left)) (is (trim_start r.bytes))
        (white-none is records left (large-white options said text following r p stop at e)))
