-- Runs and whitespace by the cells of a line, and by its bytes.
use Rattle.std.proofs.Common.{◌≡◌, ℕ, zero, suc, ◌≤◌, Bool, true, false, cond, ◌&&◌, nat_eq, nat_lt, List}
use Rattle.std.proofs.Common.{[], ◌∷◌, ◌++◌, length, take, drop, Option, Some, refl, sym, ◌∙◌, ap, arith}
use Rattle.std.specs.Prelude.{not, nat_le, ◌==◌}
use Rattle.std.specs.List.{prefix_len}
use Rattle.std.proofs.lemmas.Bool.{eqb-true}
use Rattle.std.proofs.lemmas.Bool.Decides.{nat_tests}
use Rattle.md_engine.specs.declared.event.Point.{Point}
use Rattle.md_engine.specs.declared.tokenizer.Line.{Line}
use Rattle.md_engine.specs.Meaning.{Cell}
use Rattle.md_meaning.specs.Rest.{is_blank, is_white, run_len}
use Rattle.md_meaning.proofs.TextsLemmas.{NoEnding, no_ending-drop}
use Rattle.md_literal.specs.Fence.{may_begin}
use Rattle.md_literal.specs.FenceLine.{is_closing}
use Rattle.md_leaves.specs.CellRuns.{is_end, is_line, run_end, run_rest, run_size}
use Rattle.md_literal.proofs.FenceMeaning.{first_is, run-none}
use Rattle.md_events.specs.Ahead.{from_ending, line_bytes, line_cells, line_end, point_after, white_end, white_rest}
use Rattle.md_events.specs.Events.Places.{past_byte, past_text}
use Rattle.md_events.specs.Look.{first_seen}
use Rattle.md_events.specs.Spaces.{any_size, is_current}
use Rattle.md_events.proofs.FeedLines.{Stops, byte-one, cell, columns_more, spread, tab_cells}
use Rattle.md_events.proofs.RestLines.{blank-spread, count-none, count-one}
use Rattle.md_events.proofs.AheadLemmas.{white-no_ending}

-- The end of a line.

-- a run and whitespace do not go over it
pub record SameLine (cells rest : List Cell) (p q : Point) : Type 0 where
  pub end : line_end rest q ≡ line_end cells p
  pub from : from_ending rest ≡ from_ending cells

pub line-run : (t : ℕ → Bool) → ((b : ℕ) → t b ≡ true → nat_eq b 10 ≡ false) → (cells : List Cell) (p : Point) →
    SameLine cells (run_rest t cells) p (run_end t cells p)
line-run t proceeds [] p = record { end = refl; from = refl }
line-run t proceeds (c ∷ cs) p = go (t c.byte) refl (line-run t proceeds cs c.after)
  where
    go : (x : Bool) → t c.byte ≡ x → SameLine cs (run_rest t cs) c.after (run_end t cs c.after) →
        SameLine (c ∷ cs) (cond x (run_rest t cs) (c ∷ cs)) p (cond x (run_end t cs c.after) p)
    go true e next = record { end = rw (proceeds c.byte e) next.end; from = rw (proceeds c.byte e) next.from }
    go false e next = record { end = refl; from = refl }

pub line-white : (room : ℕ) (cells : List Cell) (p : Point) →
    SameLine cells (white_rest room cells) p (white_end room cells p)
line-white room [] p = record { end = refl; from = refl }
line-white zero (c ∷ cs) p = record { end = refl; from = refl }
line-white (suc room) (c ∷ cs) p = go (is_white c.byte) refl (line-white room cs c.after)
  where
    go : (x : Bool) → is_white c.byte ≡ x → SameLine cs (white_rest room cs) c.after (white_end room cs c.after) →
        SameLine (c ∷ cs) (cond x (white_rest room cs) (c ∷ cs)) p (cond x (white_end room cs c.after) p)
    go true e next = record {
      end = rw (white-no_ending c.byte e) next.end;
      from =
          rw (white-no_ending c.byte e) next.from;
    }
    go false e next = record { end = refl; from = refl }

-- where it ends here
pub line-done : (cells : List Cell) (p : Point) → is_end cells ≡ true →
    (line_end cells p ≡ p) × (from_ending cells ≡ cells)
line-done [] p e = (refl, refl)
line-done (c ∷ cs) p e = (rw e refl, rw e refl)

-- a run to the end of the line
pub line-all : (cells : List Cell) (p : Point) →
    (run_end is_line cells p ≡ line_end cells p) × (run_rest is_line cells ≡ from_ending cells)
line-all [] p = (refl, refl)
line-all (c ∷ cs) p = go (c.byte == 10) (line-all cs c.after)
  where
    go : (x : Bool) → (run_end is_line cs c.after ≡ line_end cs c.after) × (run_rest is_line cs ≡ from_ending cs) →
        (cond (not x) (run_end is_line cs c.after) p ≡ point_after (cond x [] (c ∷ line_cells cs)) p) ×
        (cond (not x) (run_rest is_line cs) (c ∷ cs) ≡ cond x (c ∷ cs) (from_ending cs))
    go true next = (refl, refl)
    go false next = next

-- Bytes.

-- what comes first
pub first-spread : (line : Line) (b : ℕ) (bs : List ℕ) (q : Point) (cs : List Cell) →
    first_seen (spread line (b ∷ bs) q ++ cs) ≡ Some b
first-spread line b bs q cs = go (b == 9) refl
  where
    tab : (n : ℕ) → first_seen ((tab_cells line n 9 q ++ spread line bs (past_byte b q)) ++ cs) ≡ Some 9
    tab zero = refl
    tab (suc n) = refl

    go : (x : Bool) → (b == 9) ≡ x →
        first_seen
        ((cond x (tab_cells line (columns_more q) 9 q) (cell b (past_byte b q) line ∷ [])
        ++ spread line bs (past_byte b q)) ++ cs) ≡
        Some b
    go true e = tab (columns_more q) ∙ ap Some (sym (eqb-true b 9 e))
    go false e = refl

pub stop-first : (t : ℕ → Bool) → t 10 ≡ false → (stop : List Cell) → Stops stop → first_is t (first_seen stop) ≡ false
stop-first t ten [] h = refl
stop-first t ten (c ∷ cs) h = ap t (eqb-true c.byte 10 h) ∙ ten

-- a run of bytes without whitespace is one of as many cells
pub record RunOf (t : ℕ → Bool) (line : Line) (bytes : List ℕ) (q : Point) (stop : List Cell) : Type 0 where
  pub size : run_size t (spread line bytes q ++ stop) ≡ prefix_len t bytes
  pub end : run_end t (spread line bytes q ++ stop) q ≡ past_text (take (prefix_len t bytes) bytes) q
  pub rest : run_rest t (spread line bytes q ++ stop) ≡
      spread line (drop (prefix_len t bytes) bytes) (past_text (take (prefix_len t bytes) bytes) q) ++ stop

pub run-walk : (t : ℕ → Bool) → ((b : ℕ) → t b ≡ true → is_white b ≡ false) → t 10 ≡ false → (line : Line)
    (bytes : List ℕ) (q : Point) (stop : List Cell) → Stops stop → RunOf t line bytes q stop
run-walk t dark ten line [] q stop k =
    let none = run-none t stop q (stop-first t ten stop k) in
    record { size = none.size; end = none.end; rest = none.rest }
run-walk t dark ten line (b ∷ bs) q stop k = go (t b) refl (run-walk t dark ten line bs (past_byte b q) stop k)
  where
    left : List Cell
    left = spread line bs (past_byte b q) ++ stop

    go : (x : Bool) → t b ≡ x → RunOf t line bs (past_byte b q) stop → RunOf t line (b ∷ bs) q stop
    go true e next =
        let one : spread line (b ∷ bs) q ++ stop ≡
        cell b (past_byte b q) line ∷ left = ap (λ (l : List Cell). (l ++ spread line bs (past_byte b q)) ++ stop)
        (byte-one line b q (dark b e)) in
        let more = sym (count-one t b bs e) in
        record {
          size = ap (run_size t) one ∙ rw e (ap suc next.size) ∙ more;
          end = ap (λ (l : List Cell). run_end t l q) one ∙ rw e next.end
              ∙ ap (λ (n : ℕ). past_text (take n (b ∷ bs)) q) more;
          rest = ap (run_rest t) one ∙ rw e next.rest
              ∙ ap (λ (n : ℕ). spread line (drop n (b ∷ bs)) (past_text (take n (b ∷ bs)) q) ++ stop) more;
        }
    go false e next =
        let none = run-none t (spread line (b ∷ bs) q ++ stop) q
        (ap (first_is t) (first-spread line b bs q stop) ∙ e) in
        let zero_long = sym (count-none t b bs e) in
        record {
          size = none.size ∙ zero_long;
          end = none.end ∙ ap (λ (n : ℕ). past_text (take n (b ∷ bs)) q) zero_long;
          rest = none.rest
              ∙ ap (λ (n : ℕ). spread line (drop n (b ∷ bs)) (past_text (take n (b ∷ bs)) q) ++ stop) zero_long;
        }

-- Blank.

-- after its whitespace a line ends just where it is blank
pub end-blank : (room : ℕ) (cells : List Cell) → length cells ≤ room →
    is_end (white_rest room cells) ≡ is_blank (line_bytes cells)
end-blank room [] le = refl
end-blank zero (c ∷ cs) le = absurd (omega (arith, le))
end-blank (suc room) (c ∷ cs) le = go (is_white c.byte) refl (end-blank room cs (omega (arith, le)))
  where
    dark : (x : Bool) → is_white c.byte ≡ false → (c.byte == 10) ≡ x →
        (c.byte == 10) ≡ is_blank (line_bytes (c ∷ cs))
    dark true e f = rw f refl
    dark false e f = rw (f, e) refl

    go : (x : Bool) → is_white c.byte ≡ x → is_end (white_rest room cs) ≡ is_blank (line_bytes cs) →
        is_end (cond x (white_rest room cs) (c ∷ cs)) ≡ is_blank (line_bytes (c ∷ cs))
    go true e next = rw (white-no_ending c.byte e, e) next
    go false e next = dark (c.byte == 10) e refl

-- Closing fences.

pub marker-dark : (m b : ℕ) → may_begin m ≡ true → nat_eq b m ≡ true → is_white b ≡ false
marker-dark m b e f = grind (arith, nat_tests)

pub marker-proceeds : (m b : ℕ) → may_begin m ≡ true → nat_eq b m ≡ true → nat_eq b 10 ≡ false
marker-proceeds m b e f = grind (arith, nat_tests)

pub marker-ten : (m : ℕ) → may_begin m ≡ true → nat_eq 10 m ≡ false
marker-ten m e = grind (arith, nat_tests)

pub not-lt : (a b : ℕ) → not (nat_lt a b) ≡ nat_le b a
not-lt a b = go (nat_lt a b) refl
  where
    go : (x : Bool) → nat_lt a b ≡ x → not x ≡ nat_le b a
    go true e = grind (arith, nat_tests)
    go false e = grind (arith, nat_tests)

few-none : (size : ℕ) → 1 ≤ size → nat_le size 0 ≡ false
few-none size some = grind (arith, nat_tests)

pub run-length : (t : ℕ → Bool) (cells : List Cell) → length (run_rest t cells) ≤ length cells
run-length t [] = omega arith
run-length t (c ∷ cs) = go (t c.byte) (run-length t cs)
  where
    go : (x : Bool) → length (run_rest t cs) ≤ length cs → length (cond x (run_rest t cs) (c ∷ cs)) ≤ suc (length cs)
    go true le = omega (arith, le)
    go false le = omega arith

pub closing-spread : (m size : ℕ) (line : Line) (bytes : List ℕ) (q : Point) (stop : List Cell) → may_begin m ≡ true →
    1 ≤ size → NoEnding bytes → Stops stop → length (spread line bytes q ++ stop) ≤ any_size →
    is_closing m size (spread line bytes q ++ stop) ≡
    (nat_le size (run_len m bytes) && is_blank (drop (run_len m bytes) bytes))
closing-spread m size line bytes q stop is some h k short =
    ap
    (λ (n : ℕ).
    is_current m (first_seen cells) && not (nat_lt n size)
    && is_end (white_rest any_size (run_rest (λ b. b == m) cells)))
    run.size
    ∙ ap
    (λ (x : Bool).
    is_current m (first_seen cells) && x && is_end (white_rest any_size (run_rest (λ b. b == m) cells)))
    (not-lt (run_len m bytes) size)
    ∙ ap (λ (x : Bool). is_current m (first_seen cells) && nat_le size (run_len m bytes) && x) ends
    ∙ first bytes
  where
    cells : List Cell
    cells = spread line bytes q ++ stop

    run : RunOf (λ b. b == m) line bytes q stop
    run = run-walk (λ b. b == m) (λ b e. marker-dark m b is e) (marker-ten m is) line bytes q stop k

    left : List ℕ
    left = drop (run_len m bytes) bytes

    following : Point
    following = past_text (take (run_len m bytes) bytes) q

    ends : is_end (white_rest any_size (run_rest (λ b. b == m) cells)) ≡ is_blank left
    ends =
        let le = run-length (λ b. b == m) cells in
        end-blank any_size (run_rest (λ b. b == m) cells) (omega (arith, le, short))
        ∙ ap (λ (l : List Cell). is_blank (line_bytes l)) run.rest
        ∙ blank-spread line left following stop (no_ending-drop (run_len m bytes) bytes h) k

    Same : Option ℕ → ℕ → Bool → Type 0
    Same o n x = (is_current m o && nat_le size n && x) ≡ (nat_le size n && x)

    never : (o : Option ℕ) (n : ℕ) (x : Bool) → n ≡ 0 → Same o n x
    never o n x e =
        let none : nat_le size n ≡ false = ap (nat_le size) e ∙ few-none size some in rw none (over (is_current m o))
      where
        over : (y : Bool) → (y && false && x) ≡ false
        over true = refl
        over false = refl

    first : (bs : List ℕ) →
        (is_current m (first_seen (spread line bs q ++ stop)) && nat_le size (run_len m bs)
        && is_blank (drop (run_len m bs) bs)) ≡
        (nat_le size (run_len m bs) && is_blank (drop (run_len m bs) bs))
    first [] = never (first_seen stop) 0 true refl
    first (b ∷ bs) =
        ap
        (λ (o : Option ℕ).
        is_current m o && nat_le size (run_len m (b ∷ bs)) && is_blank (drop (run_len m (b ∷ bs)) (b ∷ bs)))
        (first-spread line b bs q stop)
        ∙ go (b == m) refl
      where
        go : (x : Bool) → (b == m) ≡ x →
            Same (Some b) (run_len m (b ∷ bs)) (is_blank (drop (run_len m (b ∷ bs)) (b ∷ bs)))
        go true e =
            ap
            (λ (x : Bool).
            x && nat_le size (run_len m (b ∷ bs)) && is_blank (drop (run_len m (b ∷ bs)) (b ∷ bs))) e
        go false e =
            never (Some b) (run_len m (b ∷ bs)) (is_blank (drop (run_len m (b ∷ bs)) (b ∷ bs)))
            (count-none (λ c. c == m) b bs e)
