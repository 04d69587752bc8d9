-- Which lines are underlines: by their cells those that are by their bytes.
use Rattle.std.proofs.Common.{◌≡◌, ℕ, ◌^◌, ◌<◌, Bool, true, false, ◌&&◌, List, [], ◌∷◌, ◌++◌, length, drop, refl, sym}
use Rattle.std.proofs.Common.{ap, ◌∙◌, arith}
use Rattle.std.specs.Prelude.{◌==◌}
use Rattle.std.proofs.Math.Bool.{and_assoc}
use Rattle.std.proofs.lemmas.Bool.{and_parts, eq-eqb, eqb-true}
use Rattle.std.proofs.lemmas.Bool.Decides.{nat_tests}
use Rattle.md_engine.specs.declared.configuration.ParseOptions.{ParseOptions}
use Rattle.md_engine.specs.declared.event.Point.{Point}
use Rattle.md_engine.specs.declared.tokenizer.Line.{Line}
use Rattle.md_engine.specs.declared.tokenizer.held_leaf.HeldLeaf.{HeldLeaf}
use Rattle.md_engine.specs.Meaning.{Cell}
use Rattle.md_meaning.specs.Rest.{Rest, has_small_indent, is_blank, is_white, trim_start}
use Rattle.md_meaning.specs.Texts.{first_byte}
use Rattle.md_meaning.proofs.TextsLemmas.{NoEnding}
use Rattle.md_leaves.specs.HeadingSetext.{is_marker, is_text, may_turn}
use Rattle.md_leaves.specs.HeadingSetextRule.{is_run, is_underline}
use Rattle.md_events.specs.Ahead.{line_bytes, white_rest}
use Rattle.md_events.specs.Spaces.{small_indent}
use Rattle.md_events.specs.Events.Places.{past_byte}
use Rattle.md_events.proofs.FeedLines.{Stops, all-spread, byte-one, bytes_of, spread}
use Rattle.md_events.proofs.RestCells.{RestAt, rest_cells}
use Rattle.md_events.proofs.RestLines.{count-none, count-one}
use Rattle.proof_leaf_laws.specs.Leaf.HeadingSetext.{setext_leaf}
use Rattle.proof_leaf_laws.proofs.MarkRuns.Cells.{IsMark, spread-first}
use Rattle.proof_frame.proofs.MarkRuns.Fits.{Reports, line-fits}
use Rattle.md_engine.specs.declared.tokenizer.held_leaf.HeldLeaf.TheVariants as held_leaf

-- The marker.

-- it may mark runs
pub underline-mark : (m : ℕ) → is_marker m ≡ true → IsMark m
underline-mark m e = record {
  dark = grind (arith, nat_tests);
  no_ending = grind (arith, nat_tests);
  some = grind (arith, nat_tests);
}

-- an underline begins with it
pub underline-first : (bytes : List ℕ) → is_underline bytes ≡ true → is_marker (first_byte bytes) ≡ true
underline-first [] e = cc
underline-first (m ∷ bytes) e = (and_parts (is_marker m) (is_run m (m ∷ bytes)) e).0

-- Its run.

-- it continues with the marker
pub run-one : (m b : ℕ) (bs : List ℕ) → (b == m) ≡ true → is_run m (b ∷ bs) ≡ is_run m bs
run-one m b bs e = ap (λ (k : ℕ). is_blank (drop k (b ∷ bs))) (count-one (λ (c : ℕ). c == m) b bs e)

-- and after it is whitespace
pub run-other : (m b : ℕ) (bs : List ℕ) → (b == m) ≡ false → is_run m (b ∷ bs) ≡ is_blank (b ∷ bs)
run-other m b bs e = ap (λ (k : ℕ). is_blank (drop k (b ∷ bs))) (count-none (λ (c : ℕ). c == m) b bs e)

-- so where it is over
run-over : (m : ℕ) (bs : List ℕ) → (first_byte bs == m) ≡ false → is_run m bs ≡ is_blank bs
run-over m [] e = refl
run-over m (b ∷ bs) e = run-other m b bs e

-- a byte that is no whitespace is one cell
spread-dark : (line : Line) (b : ℕ) (bs : List ℕ) (p : Point) → is_white b ≡ false →
    bytes_of (spread line (b ∷ bs) p) ≡ b ∷ bytes_of (spread line bs (past_byte b p))
spread-dark line b bs p dark =
    ap (λ (l : List Cell). bytes_of (l ++ spread line bs (past_byte b p))) (byte-one line b p dark)

-- it does not show a tab from its columns
run-spread : (m : ℕ) (line : Line) (bytes : List ℕ) (p : Point) → is_white m ≡ false →
    is_run m (bytes_of (spread line bytes p)) ≡ is_run m bytes
run-spread m line [] p dark = refl
run-spread m line (b ∷ bs) p dark = go (b == m) refl (run-spread m line bs (past_byte b p) dark)
  where
    cells : List ℕ
    cells = bytes_of (spread line (b ∷ bs) p)

    go : (x : Bool) → (b == m) ≡ x →
        is_run m (bytes_of (spread line bs (past_byte b p))) ≡ is_run m bs →
        is_run m (bytes_of (spread line (b ∷ bs) p)) ≡ is_run m (b ∷ bs)
    go true e more =
        ap (is_run m) (spread-dark line b bs p (ap is_white (eqb-true b m e) ∙ dark))
        ∙ run-one m b (bytes_of (spread line bs (past_byte b p))) e
        ∙ more
        ∙ sym (run-one m b bs e)
    go false e more =
        run-over m cells (ap (λ (c : ℕ). c == m) (spread-first line (b ∷ bs) p) ∙ e)
        ∙ all-spread is_white refl line (b ∷ bs) p
        ∙ sym (run-other m b bs e)

-- An underline.

-- what begins with another byte is none
underline-none : (bs : List ℕ) → is_marker (first_byte bs) ≡ false → is_underline bs ≡ false
underline-none [] e = refl
underline-none (b ∷ bs) e = rw e refl

-- by its bytes it is said as the lines of leaves are
pub underline-records : Reports is_underline
underline-records = record {
  spread_same = λ line bytes p. go line bytes p (is_marker (first_byte bytes)) refl;
  dark = λ b bs white. underline-none (b ∷ bs) (no_marker b white);
}
  where
    no_marker : (b : ℕ) → is_white b ≡ true → is_marker b ≡ false
    no_marker b white = grind (arith, nat_tests)

    go : (line : Line) (bytes : List ℕ) (p : Point) (x : Bool) → is_marker (first_byte bytes) ≡ x →
        is_underline (bytes_of (spread line bytes p)) ≡ is_underline bytes
    go line bytes p false e =
        underline-none (bytes_of (spread line bytes p)) (ap is_marker (spread-first line bytes p) ∙ e)
        ∙ sym (underline-none bytes e)
    go line [] p true e = refl
    go line (m ∷ bytes) p true e =
        let mark : IsMark m = underline-mark m e in
        ap is_underline (spread-dark line m bytes p mark.dark)
        ∙ ap (λ (x : Bool). is_marker m && x)
        (run-one m m (bytes_of (spread line bytes (past_byte m p))) (eq-eqb m m refl)
        ∙ run-spread m line bytes (past_byte m p) mark.dark
        ∙ sym (run-one m m bytes (eq-eqb m m refl)))

-- It is on a line by its cells if it does by its rest.
pub setext-fits : (options : ParseOptions) (on : HeldLeaf) (said : Line) (text following : List ℕ)
    (r : Rest) (p : Point)
    (stop : List Cell) →
    RestAt text following r p → NoEnding r.bytes → Stops stop → length (rest_cells said r p ++ stop) < 2 ^ 63 →
    setext_leaf.takes options on (rest_cells said r p ++ stop) ≡ setext_leaf.starts options on r
setext-fits options on said text following r p stop at h k short =
    sym
    (and_assoc (may_turn options on) options.constructs.heading_setext
    (is_underline (line_bytes (white_rest (small_indent options) (rest_cells said r p ++ stop)))))
    ∙ line-fits is_underline underline-records (may_turn options on && options.constructs.heading_setext) options said
    text following r p stop at h k short

-- What is known where it starts.

pub record Underlines (options : ParseOptions) (on : HeldLeaf) (r : Rest) : Type 0 where
  pub text : is_text on ≡ true
  pub turns : may_turn options on ≡ true
  pub enabled : options.constructs.heading_setext ≡ true
  pub small : has_small_indent options r ≡ true
  pub underline : is_underline (trim_start r.bytes) ≡ true
  pub mark : is_marker (first_byte (trim_start r.bytes)) ≡ true

-- what an underline turns is text
turn-text : (options : ParseOptions) (on : HeldLeaf) → may_turn options on ≡ true → is_text on ≡ true
turn-text options (held_leaf.Text at) may = refl
turn-text options _ may = cc

-- all of it
pub setext-starts : (options : ParseOptions) (on : HeldLeaf) (r : Rest) → setext_leaf.starts options on r ≡ true →
    Underlines options on r
setext-starts options on r starts =
    let all = and_parts (may_turn options on && options.constructs.heading_setext && has_small_indent options r)
    (is_underline (trim_start r.bytes)) starts in
    let indented = and_parts (may_turn options on && options.constructs.heading_setext) (has_small_indent options r)
    all.0 in
    let met = and_parts (may_turn options on) options.constructs.heading_setext indented.0 in
    record {
      text = turn-text options on met.0;
      turns = met.0;
      enabled = met.1;
      small = indented.1;
      underline = all.1;
      mark = underline-first (trim_start r.bytes) all.1;
    }
