-- The rest of a line as a row: its bytes as they are in the text, and its cells.
use Rattle.std.proofs.Common.{◌≡◌, ℕ, zero, suc, ◌≤◌, Bool, true, false, cond, ◌==◌, List, [], ◌∷◌, ◌++◌, refl, sym, ap}
use Rattle.std.proofs.Common.{◌∙◌, ◌+◌, length, arith}
use Rattle.std.proofs.lemmas.Bool.Decides.{nat_tests}
use Rattle.std.proofs.lemmas.Bool.{and_parts, or_parts, or_right}
use Rattle.md_engine.specs.declared.event.Event.{Event}
use Rattle.md_engine.specs.declared.event.Name.TheVariants as n
use Rattle.md_engine.specs.declared.event.Point.{Point}
use Rattle.md_engine.specs.declared.tokenizer.Line.{Line}
use Rattle.md_engine.specs.Meaning.{Cell}
use Rattle.md_leaves.specs.BlankRule.{blank_events}
use Rattle.md_events.specs.Ahead.{begins_white, from_ending, line_bytes, line_end}
use Rattle.md_events.specs.Events.Nested.{pair}
use Rattle.md_events.specs.Events.Places.{past_byte, past_text}
use Rattle.md_meaning.specs.Rest.{Rest, cut_tab, is_blank, is_white}
use Rattle.md_events.proofs.FeedLines.{Stops, all-spread, bytes_of, cell, columns_more, from_ending-append}
use Rattle.md_events.proofs.FeedLines.{no_feed-spread, past_text-whole, spread, stops-white, tab_cells, tab_end}
use Rattle.md_events.proofs.FeedLines.{tab_end-stop}
use Rattle.md_events.specs.Look.{first_seen}
use Rattle.md_events.specs.Spaces.{ends_line}
use Rattle.md_events.proofs.RestCells.{Cut, cells_by, past_cut, past_rest, rest_cells}
use Rattle.md_meaning.proofs.TextsLemmas.{NoEnding}
use Rattle.proof_frame.specs.RestLine.{rest_line}
use Rattle.proof_frame.specs.Row.{blank_line}
use Rattle.proof_frame.proofs.PieceFacts.{CutsFirst, whole-first}
use Rattle.proof_frame.proofs.RestFacts.{rest-no_ending, rest-same, spread-line_end}
use Rattle.md_events.proofs.RestLines.{spread-line}

-- Its bytes.

-- a tab that is cut does not count where they are blank
pub line-blank : (r : Rest) → is_blank (rest_line r) ≡ is_blank r.bytes
line-blank r = go r.spaces
  where
    go : (spaces : ℕ) → is_blank (cut_tab spaces ++ r.bytes) ≡ is_blank r.bytes
    go zero = refl
    go (suc k) = refl

-- where they end
pub rest-past : (r : Rest) (p : Point) → 1 ≤ p.column → Cut r.spaces p → past_text (rest_line r) p ≡ past_rest r p
rest-past r p one = go r.spaces
  where
    go : (spaces : ℕ) → Cut spaces p → past_text (cut_tab spaces ++ r.bytes) p ≡ past_text r.bytes (past_cut spaces p)
    go zero cut = refl
    go (suc k) cut =
        sym (ap (λ (m : ℕ). past_text r.bytes (tab_end m p)) cut.1 ∙ ap (past_text r.bytes) (tab_end-stop p one))

-- no tab is cut there
pub rest-whole : (r : Rest) (p : Point) → Cut r.spaces p → (past_text (rest_line r) p).vs ≡ 0
rest-whole r p = go r.spaces
  where
    go : (spaces : ℕ) → Cut spaces p → (past_text (cut_tab spaces ++ r.bytes) p).vs ≡ 0
    go zero cut = past_text-whole r.bytes p cut
    go (suc k) cut = past_text-whole r.bytes (past_byte 9 p) refl

-- a tab that is cut is the first of them
pub rest-cut : (r : Rest) (p : Point) → Cut r.spaces p → CutsFirst p (rest_line r)
rest-cut r p = go r.spaces
  where
    go : (spaces : ℕ) → Cut spaces p → CutsFirst p (cut_tab spaces ++ r.bytes)
    go zero cut = whole-first p r.bytes cut
    go (suc k) cut = or_right (p.vs == 0) true refl

-- Its cells.

-- what begins with an ending is all that is left from there on
stops-rest : (stop : List Cell) → Stops stop → from_ending stop ≡ stop
stops-rest [] h = refl
stops-rest (c ∷ cs) h = rw h refl

-- what follows it
pub rest-ending : (said : Line) (r : Rest) (p : Point) (stop : List Cell) → NoEnding r.bytes → Stops stop →
    1 ≤ p.column → Cut r.spaces p →
    from_ending (rest_cells said r p ++ stop) ≡ stop
rest-ending said r p stop h k one cut =
    rest-same (List Cell) from_ending said (λ at cs. refl) r p stop one cut
    ∙ from_ending-append (spread said (rest_line r) p) stop (no_feed-spread said (rest_line r) p (rest-no_ending r h))
    ∙ stops-rest stop k

-- nothing is there if there are none
pub rest-empty : (said : Line) (r : Rest) (p : Point) (stop : List Cell) (q : ℕ) → NoEnding r.bytes → Stops stop →
    q ≡ p.index + length (rest_line r) →
    ends_line (first_seen (rest_cells said r p ++ stop)) ≡ (p.index == q)
rest-empty said r p stop q none k e = go r.spaces r.bytes none e
  where
    nothing : q ≡ p.index + 0 → true ≡ (p.index == q)
    nothing e = grind (arith, nat_tests)

    some : (n : ℕ) → q ≡ p.index + suc n → false ≡ (p.index == q)
    some n e = grind (arith, nat_tests)

    ended : (stop : List Cell) → Stops stop → ends_line (first_seen stop) ≡ true
    ended [] k = refl
    ended (c ∷ cs) k = k

    tab : (n byte : ℕ) (more : List Cell) → (byte == 10) ≡ false →
        ends_line (first_seen ((tab_cells said n byte p ++ more) ++ stop)) ≡ false
    tab zero byte more other = other
    tab (suc n) byte more other = other

    first : (b : ℕ) (x : Bool) (more : List Cell) → (b == 10) ≡ false →
        ends_line
        (first_seen
        ((cond x (tab_cells said (columns_more p) 9 p) (cell b (past_byte b p) said ∷ []) ++ more) ++ stop)) ≡
        false
    first b true more other = tab (columns_more p) 9 more refl
    first b false more other = other

    go : (spaces : ℕ) (bytes : List ℕ) → NoEnding bytes → q ≡ p.index + length (cut_tab spaces ++ bytes) →
        ends_line (first_seen (cells_by said spaces bytes p ++ stop)) ≡ (p.index == q)
    go zero [] none e = ended stop k ∙ nothing e
    go zero (b ∷ bs) none e =
        first b (b == 9) (spread said bs (past_byte b p)) (or_parts (b == 10) (b == 13) none.0).0 ∙ some (length bs) e
    go (suc n) bytes none e = tab n 32 (spread said bytes (tab_end n p)) refl ∙ some (length bytes) e

-- it is blank if the bytes of the rest are
pub rest-blank : (said : Line) (r : Rest) (p : Point) (stop : List Cell) → NoEnding r.bytes → Stops stop →
    1 ≤ p.column → Cut r.spaces p →
    is_blank (line_bytes (rest_cells said r p ++ stop)) ≡ is_blank r.bytes
rest-blank said r p stop h k one cut =
    rest-same Bool (λ (l : List Cell). is_blank (line_bytes l)) said (λ at cs. refl) r p stop one cut
    ∙ ap (λ (l : List Cell). is_blank (bytes_of l)) (spread-line said (rest_line r) p stop (rest-no_ending r h) k)
    ∙ all-spread is_white refl said (rest_line r) p
    ∙ line-blank r

-- bytes that begin with whitespace do so by their cells
spread-white : (said : Line) (b : ℕ) (bs : List ℕ) (p : Point) (stop : List Cell) → is_white b ≡ true →
    begins_white (spread said (b ∷ bs) p ++ stop) ≡ true
spread-white said b bs p stop e = go (b == 9)
  where
    tab : (n : ℕ) → begins_white ((tab_cells said n 9 p ++ spread said bs (past_byte b p)) ++ stop) ≡ true
    tab zero = refl
    tab (suc n) = refl

    go : (t : Bool) →
        begins_white
        ((cond t (tab_cells said (columns_more p) 9 p) (cell b (past_byte b p) said ∷ [])
        ++ spread said bs (past_byte b p))
        ++ stop) ≡
        true
    go true = tab (columns_more p)
    go false = e

-- the whitespace of a blank line, by its bytes
spread-blank_events : (said : Line) (bytes : List ℕ) (p : Point) (stop : List Cell) → is_blank bytes ≡ true →
    NoEnding bytes → Stops stop → 1 ≤ p.column →
    blank_events (spread said bytes p ++ stop) p ≡ blank_line bytes p
spread-blank_events said [] p stop blank h k one =
    ap (λ (t : Bool). cond t (pair n.SpaceOrTab p (line_end stop p)) []) (stops-white stop k)
spread-blank_events said (b ∷ bs) p stop blank h k one =
    ap (λ (t : Bool). cond t (pair n.SpaceOrTab p (line_end (spread said (b ∷ bs) p ++ stop) p)) [])
    (spread-white said b bs p stop (and_parts (is_white b) (is_blank bs) blank).0)
    ∙ ap (pair n.SpaceOrTab p) (spread-line_end said (b ∷ bs) p stop h k one)

pub rest-blank_events : (said : Line) (r : Rest) (p : Point) (stop : List Cell) → is_blank r.bytes ≡ true →
    NoEnding r.bytes → Stops stop → 1 ≤ p.column →
    Cut r.spaces p → blank_events (rest_cells said r p ++ stop) p ≡ blank_line (rest_line r) p
rest-blank_events said r p stop blank h k one cut =
    rest-same (List Event) (λ (l : List Cell). blank_events l p) said (λ at cs. refl) r p stop one cut
    ∙ spread-blank_events said (rest_line r) p stop (line-blank r ∙ blank) (rest-no_ending r h) k one
