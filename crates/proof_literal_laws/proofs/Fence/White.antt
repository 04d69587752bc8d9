-- Whitespace by the cells of a line, and by its bytes.
use Rattle.std.proofs.Common.{◌≡◌, ℕ, zero, suc, ◌≤◌, Bool, true, false, cond, ◌&&◌, nat_lt, List, [], ◌∷◌, ◌++◌, refl}
use Rattle.std.proofs.Common.{sym, ap, ◌∙◌, arith, take, append_assoc, Some}
use Rattle.std.specs.Prelude.{◌==◌}
use Rattle.std.proofs.lemmas.Bool.{eqb-true}
use Rattle.std.proofs.lemmas.Bool.Decides.{nat_tests}
use Rattle.md_engine.specs.declared.event.Name.TheVariants as n
use Rattle.md_engine.specs.declared.event.Point.{Point}
use Rattle.md_engine.specs.declared.tokenizer.Line.{Line}
use Rattle.md_engine.specs.Meaning.{Cell}
use Rattle.md_meaning.specs.Rest.{Rest, is_white}
use Rattle.md_literal.specs.FenceLine.{spaces}
use Rattle.md_leaves.specs.CellRuns.{run_end}
use Rattle.md_literal.proofs.FenceCells.{first-spread, stop-first}
use Rattle.md_events.proofs.RestLines.{count-one}
use Rattle.md_literal.proofs.FenceMeaning.{run-none}
use Rattle.md_events.specs.Ahead.{begins_white, white_end, white_rest}
use Rattle.md_events.specs.Events.Nested.{pair}
use Rattle.md_events.specs.Events.Places.{past_byte, past_text}
use Rattle.md_events.specs.Look.{first_seen}
use Rattle.md_events.proofs.FeedLines.{Stops, cell, columns_more, next_column, spread, stops-white, tab_cells, tab_end}
use Rattle.md_events.proofs.FeedLines.{tab_end-last, tab_end-next, tab_end-stop}
use Rattle.md_events.proofs.RestCells.{Cut, rest_cells}
use Rattle.proof_frame.specs.RestLine.{rest_line}
use Rattle.proof_literal_laws.specs.Leaf.Fence.{past_white, white_part}
use Rattle.proof_frame.proofs.RestFacts.{rest-same}

-- where there is room for all whitespace, it ends as a run does
white-run : (room : ℕ) (cells : List Cell) (p : Point) → begins_white (white_rest room cells) ≡ false →
    white_end room cells p ≡ run_end is_white cells p
white-run room [] p h = refl
white-run zero (c ∷ cs) p h = sym (ap (λ (x : Bool). cond x (run_end is_white cs c.after) p) h)
white-run (suc room) (c ∷ cs) p h = go (is_white c.byte) h (white-run room cs c.after)
  where
    go : (x : Bool) → begins_white (cond x (white_rest room cs) (c ∷ cs)) ≡ false →
        (begins_white (white_rest room cs) ≡ false → white_end room cs c.after ≡ run_end is_white cs c.after) →
        cond x (white_end room cs c.after) p ≡ cond x (run_end is_white cs c.after) p
    go true e more = more e
    go false e more = refl

-- a tab lies in whitespace as a whole
tab-run : (line : Line) (m byte : ℕ) (p q : Point) (ys : List Cell) → is_white byte ≡ true →
    run_end is_white (tab_cells line m byte p ++ ys) q ≡ run_end is_white ys (tab_end m p)
tab-run line zero byte p q ys e = rw e (ap (run_end is_white ys) (tab_end-last p))
tab-run line (suc m) byte p q ys e =
    rw e
    (tab-run line m 32 (next_column p) (next_column p) ys refl ∙ ap (run_end is_white ys) (tab_end-next m p))

past-one : (b : ℕ) (bs : List ℕ) (p : Point) → is_white b ≡ true → past_white (b ∷ bs) p ≡ past_white bs (past_byte b p)
past-one b bs p e = ap (λ (k : ℕ). past_text (take k (b ∷ bs)) p) (count-one is_white b bs e)

-- the whitespace of bytes
spread-run : (line : Line) (bytes : List ℕ) (p : Point) (stop : List Cell) → 1 ≤ p.column → Stops stop →
    run_end is_white (spread line bytes p ++ stop) p ≡ past_white bytes p
spread-run line [] p stop one k = (run-none is_white stop p (stop-first is_white refl stop k)).end
spread-run line (b ∷ bs) p stop one k =
    go (b == 9) refl (is_white b) refl (spread-run line bs (past_byte b p) stop (omega arith) k)
  where
    rest : List Cell
    rest = spread line bs (past_byte b p) ++ stop

    dark : (c : ℕ) → (c == 9) ≡ true → is_white c ≡ false → ⊥
    dark c e f = grind (arith, nat_tests)

    tab : b ≡ 9 → run_end is_white rest (past_byte b p) ≡ past_white bs (past_byte b p) →
        run_end is_white (tab_cells line (columns_more p) 9 p ++ rest) p ≡ past_white bs (past_byte b p)
    tab e next =
        tab-run line (columns_more p) 9 p p rest refl
        ∙ ap (run_end is_white rest) (tab_end-stop p one ∙ ap (λ (c : ℕ). past_byte c p) (sym e))
        ∙ next

    go : (t : Bool) → (b == 9) ≡ t → (x : Bool) → is_white b ≡ x →
        run_end is_white rest (past_byte b p) ≡ past_white bs (past_byte b p) →
        run_end is_white
        ((cond t (tab_cells line (columns_more p) 9 p) (cell b (past_byte b p) line ∷ [])
        ++ spread line bs (past_byte b p)) ++ stop) p ≡
        past_white (b ∷ bs) p
    go true e true f next =
        ap (λ (l : List Cell). run_end is_white l p)
        (append_assoc (tab_cells line (columns_more p) 9 p) (spread line bs (past_byte b p)) stop)
        ∙ tab (eqb-true b 9 e) next ∙ sym (past-one b bs p f)
    go true e false f next = absurd (dark b e f)
    go false e true f next =
        ap (λ (x : Bool). cond x (run_end is_white rest (past_byte b p)) p) f ∙ next ∙ sym (past-one b bs p f)
    go false e false f next = rw f refl

-- whether whitespace comes first
pub first-white : (cells : List Cell) (b : ℕ) → first_seen cells ≡ Some b → begins_white cells ≡ is_white b
first-white [] b e = absurd (cc)
first-white (c ∷ cs) b e = let same : c.byte ≡ b = cc in ap is_white same

spread-part : (line : Line) (bytes : List ℕ) (p : Point) (stop : List Cell) → Stops stop →
    cond (begins_white (spread line bytes p ++ stop)) (pair n.SpaceOrTab p (past_white bytes p)) [] ≡
    white_part bytes p
spread-part line [] p stop k = ap (λ (x : Bool). cond x (pair n.SpaceOrTab p p) []) (stops-white stop k)
spread-part line (b ∷ bs) p stop k =
    ap (λ (x : Bool). cond x (pair n.SpaceOrTab p (past_white (b ∷ bs) p)) [])
    (first-white (spread line (b ∷ bs) p ++ stop) b (first-spread line b bs p stop))

-- The whitespace before the rest of a line, where there is room for all of it.
pub record HasWhite (room : ℕ) (said : Line) (r : Rest) (p : Point) (stop : List Cell) : Type 0 where
  pub end : white_end room (rest_cells said r p ++ stop) p ≡ past_white (rest_line r) p
  pub part : spaces room (rest_cells said r p ++ stop) p ≡ white_part (rest_line r) p

pub rest-white : (room : ℕ) (said : Line) (r : Rest) (p : Point) (stop : List Cell) → 1 ≤ room → 1 ≤ p.column →
    Cut r.spaces p → Stops stop → begins_white (white_rest room (rest_cells said r p ++ stop)) ≡ false →
    HasWhite room said r p stop
rest-white room said r p stop some one cut k none = record {
  end = end;
  part =
      ap (λ (x : Bool). cond (x && begins_white cells) (pair n.SpaceOrTab p (white_end room cells p)) []) fits
      ∙ ap (λ (q : Point). cond (begins_white cells) (pair n.SpaceOrTab p q) []) end
      ∙ ap (λ (x : Bool). cond x (pair n.SpaceOrTab p (past_white (rest_line r) p)) [])
      (rest-same Bool begins_white said (λ at cs. refl) r p stop one cut)
      ∙ spread-part said (rest_line r) p stop k;
}
  where
    cells : List Cell
    cells = rest_cells said r p ++ stop

    fits : nat_lt 0 room ≡ true
    fits = grind (arith, nat_tests)

    end : white_end room cells p ≡ past_white (rest_line r) p
    end =
        white-run room cells p none
        ∙ rest-same Point (λ (l : List Cell). run_end is_white l p) said (λ at cs. refl) r p stop one cut
        ∙ spread-run said (rest_line r) p stop one k
