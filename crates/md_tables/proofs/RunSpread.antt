-- The runs of a line by its cells are those by its bytes, whatever runs they are: the columns of a tab lie in one run,
-- and the whitespace before all is one.
use Rattle.std.proofs.Common.{◌≡◌, ℕ, zero, suc, ◌≤◌, Bool, true, false, cond, List, [], ◌∷◌, ◌++◌, refl, sym, ap, ◌∙◌}
use Rattle.std.proofs.Common.{subst, arith}
use Rattle.std.specs.Prelude.{◌==◌}
use Rattle.std.proofs.lemmas.Bool.{eqb-true}
use Rattle.md_engine.specs.declared.event.Event.{Event}
use Rattle.md_engine.specs.declared.event.Name.TheVariants.{SpaceOrTab}
use Rattle.md_engine.specs.declared.event.Point.{Point}
use Rattle.md_engine.specs.declared.tokenizer.Line.{Line}
use Rattle.md_engine.specs.Meaning.{Cell}
use Rattle.md_meaning.specs.Rest.{is_white}
use Rattle.md_events.specs.Ahead.{begins_white, line_cells, white_end, white_rest}
use Rattle.md_events.specs.Events.Nested.{enter, exit, pair}
use Rattle.md_events.specs.Events.Places.{past_byte}
use Rattle.md_events.proofs.AheadLemmas.{white-no_ending}
use Rattle.md_events.proofs.FeedLines.{after_last, byte_cells, cell, columns_more, next_column, spread, tab_cells}
use Rattle.md_events.proofs.FeedLines.{tab_end, tab_end-last, tab_end-next, tab_end-stop}

-- Runs by cells and by bytes, of which one is whitespace: each byte does the same, and so does a column of a tab.
-- Before whitespace is what `turns` puts there.
pub record AreSpread (R : Type 0) (white : R) (turns : R → Point → List Event → List Event)
    (by_cells : R → List Cell → Point → List Event) (by_bytes : R → List ℕ → Point → List Event) : Type 0 where
  pub none : (run : R) (p : Point) → by_cells run [] p ≡ by_bytes run [] p
  pub byte : (run : R) (b : ℕ) (line : Line) (cs : List Cell) (bs : List ℕ) (p : Point) →
      ((r : R) → by_cells r cs (past_byte b p) ≡ by_bytes r bs (past_byte b p)) →
      by_cells run (cell b (past_byte b p) line ∷ cs) p ≡ by_bytes run (b ∷ bs) p
  pub column : (run : R) (at : Point) (line : Line) (cs : List Cell) (p : Point) →
      by_cells run (cell 9 at line ∷ cs) p ≡ turns run p (by_cells white cs at)
  pub tab : (run : R) (bs : List ℕ) (p : Point) →
      by_bytes run (9 ∷ bs) p ≡ turns run p (by_bytes white bs (past_byte 9 p))
  pub more : (byte : ℕ) (at : Point) (line : Line) (cs : List Cell) (q : Point) → is_white byte ≡ true →
      by_cells white (cell byte at line ∷ cs) q ≡ by_cells white cs at

-- a tab lies in whitespace as a whole
tab-white : (R : Type 0) (white : R) (turns : R → Point → List Event → List Event)
    (F : R → List Cell → Point → List Event) (G : R → List ℕ → Point → List Event) → AreSpread R white turns F G →
    (line : Line) (n byte : ℕ) (p q : Point) (ys : List Cell) → is_white byte ≡ true →
    F white (tab_cells line n byte p ++ ys) q ≡ F white ys (tab_end n p)
tab-white R white turns F G are line zero byte p q ys e =
    are.more byte (after_last p) line ys q e ∙ ap (F white ys) (tab_end-last p)
tab-white R white turns F G are line (suc n) byte p q ys e =
    are.more byte (next_column p) line (tab_cells line n 32 (next_column p) ++ ys) q e
    ∙ tab-white R white turns F G are line n 32 (next_column p) (next_column p) ys refl
    ∙ ap (F white ys) (tab_end-next n p)

-- so its columns are one byte to the runs
tab-run : (R : Type 0) (white : R) (turns : R → Point → List Event → List Event)
    (F : R → List Cell → Point → List Event) (G : R → List ℕ → Point → List Event) → AreSpread R white turns F G →
    (run : R) (line : Line) (n : ℕ) (p : Point) (ys : List Cell) →
    F run (tab_cells line n 9 p ++ ys) p ≡ turns run p (F white ys (tab_end n p))
tab-run R white turns F G are run line zero p ys =
    are.column run (after_last p) line ys p ∙ ap (λ (q : Point). turns run p (F white ys q)) (tab_end-last p)
tab-run R white turns F G are run line (suc n) p ys =
    are.column run (next_column p) line (tab_cells line n 32 (next_column p) ++ ys) p
    ∙ ap (turns run p)
    (tab-white R white turns F G are line n 32 (next_column p) (next_column p) ys refl
    ∙ ap (F white ys) (tab_end-next n p))

-- and so are the cells of any byte
byte-run : (R : Type 0) (white : R) (turns : R → Point → List Event → List Event)
    (F : R → List Cell → Point → List Event) (G : R → List ℕ → Point → List Event) → AreSpread R white turns F G →
    (run : R) (line : Line) (b : ℕ) (p : Point) (ys : List Cell) (bs : List ℕ) → 1 ≤ p.column →
    ((r : R) → F r ys (past_byte b p) ≡ G r bs (past_byte b p)) → F run (byte_cells line b p ++ ys) p ≡ G run (b ∷ bs) p
byte-run R white turns F G are run line b p ys bs one = go (b == 9) refl
  where
    P : ℕ → Type 0
    P c =
        ((r : R) → F r ys (past_byte c p) ≡ G r bs (past_byte c p)) →
        F run (byte_cells line c p ++ ys) p ≡ G run (c ∷ bs) p

    go : (t : Bool) → (b == 9) ≡ t → P b
    go true e =
        subst P (sym (eqb-true b 9 e))
        (λ more.
        tab-run R white turns F G are run line (columns_more p) p ys
        ∙ ap (turns run p) (ap (F white ys) (tab_end-stop p one) ∙ more white)
        ∙ sym (are.tab run bs p))
    go false e = λ more.
        ap (λ (t : Bool). F run
        (cond t (tab_cells line (columns_more p) 9 p) (cell b (past_byte b p) line ∷ []) ++ ys) p) e
        ∙ are.byte run b line ys bs p more

pub bytes-run : (R : Type 0) (white : R) (turns : R → Point → List Event → List Event)
    (F : R → List Cell → Point → List Event) (G : R → List ℕ → Point → List Event) → AreSpread R white turns F G →
    (run : R) (line : Line) (bytes : List ℕ) (p : Point) → 1 ≤ p.column →
    F run (spread line bytes p) p ≡ G run bytes p
bytes-run R white turns F G are run line [] p one = are.none run p
bytes-run R white turns F G are run line (b ∷ bs) p one =
    byte-run R white turns F G are run line b p (spread line bs (past_byte b p)) bs one
    (λ (r : R). bytes-run R white turns F G are r line bs (past_byte b p) (omega arith))

-- Whitespace in front.

-- a run of it ends before what is none, and begins between two runs
pub record HaveWhite (R : Type 0) (white apart : R) (F : R → List Cell → Point → List Event) : Type 0 where
  pub none : (q : Point) → F white [] q ≡ exit SpaceOrTab q ∷ F apart [] q
  pub dark : (c : Cell) (cs : List Cell) (q : Point) → is_white c.byte ≡ false →
      F white (c ∷ cs) q ≡ exit SpaceOrTab q ∷ F apart (c ∷ cs) q
  pub more : (c : Cell) (cs : List Cell) (q : Point) → is_white c.byte ≡ true → F white (c ∷ cs) q ≡ F white cs c.after
  pub opens : (c : Cell) (cs : List Cell) (p : Point) → is_white c.byte ≡ true →
      F apart (c ∷ cs) p ≡ enter SpaceOrTab p ∷ F white (c ∷ cs) p

white-ends : (R : Type 0) (white apart : R) (F : R → List Cell → Point → List Event) → HaveWhite R white apart F →
    (c : Cell) (cs : List Cell) (q : Point) → is_white c.byte ≡ false →
    F white (line_cells (c ∷ cs)) q ≡ exit SpaceOrTab q ∷ F apart (line_cells (c ∷ cs)) q
white-ends R white apart F are c cs q e = go (c.byte == 10)
  where
    go : (y : Bool) →
        F white (cond y [] (c ∷ line_cells cs)) q ≡ exit SpaceOrTab q ∷ F apart (cond y [] (c ∷ line_cells cs)) q
    go true = are.none q
    go false = are.dark c (line_cells cs) q e

-- a line continues after whitespace
line-white : (c : Cell) (cs : List Cell) → is_white c.byte ≡ true → line_cells (c ∷ cs) ≡ c ∷ line_cells cs
line-white c cs e = ap (λ (t : Bool). cond t [] (c ∷ line_cells cs)) (white-no_ending c.byte e)

-- it ends after all of it, where that has room
white-run : (R : Type 0) (white apart : R) (F : R → List Cell → Point → List Event) → HaveWhite R white apart F →
    (room : ℕ) (cells : List Cell) (q : Point) → begins_white (white_rest room cells) ≡ false →
    F white (line_cells cells) q ≡
    exit SpaceOrTab (white_end room cells q)
    ∷ F apart (line_cells (white_rest room cells)) (white_end room cells q)
white-run R white apart F are room [] q h = are.none q
white-run R white apart F are zero (c ∷ cs) q h = white-ends R white apart F are c cs q h
white-run R white apart F are (suc room) (c ∷ cs) q h =
    go (is_white c.byte) refl (λ k. white-run R white apart F are room cs c.after k)
  where
    Following : Bool → List Event
    Following t =
        exit SpaceOrTab (cond t (white_end room cs c.after) q)
        ∷ F apart (line_cells (cond t (white_rest room cs) (c ∷ cs))) (cond t (white_end room cs c.after) q)

    go : (x : Bool) → is_white c.byte ≡ x →
        (begins_white (white_rest room cs) ≡ false → F white (line_cells cs) c.after ≡ Following true) →
        F white (line_cells (c ∷ cs)) q ≡ Following (is_white c.byte)
    go true e more =
        ap (λ (l : List Cell). F white l q) (line-white c cs e)
        ∙ are.more c (line_cells cs) q e
        ∙ more (sym (ap (λ (t : Bool). begins_white (cond t (white_rest room cs) (c ∷ cs))) e) ∙ h)
        ∙ sym (ap Following e)
    go false e more = white-ends R white apart F are c cs q e ∙ sym (ap Following e)

-- with the runs after it, it is all the runs
pub front-run : (R : Type 0) (white apart : R) (F : R → List Cell → Point → List Event) →
    HaveWhite R white apart F → (room : ℕ) (cells : List Cell) (p : Point) →
    begins_white (white_rest room cells) ≡ false →
    cond (begins_white cells) (pair SpaceOrTab p (white_end room cells p)) []
    ++ F apart (line_cells (white_rest room cells)) (white_end room cells p) ≡
    F apart (line_cells cells) p
front-run R white apart F are room [] p h = refl
front-run R white apart F are zero (c ∷ cs) p h =
    ap (λ (t : Bool). cond t (pair SpaceOrTab p p) [] ++ F apart (line_cells (c ∷ cs)) p) h
front-run R white apart F are (suc room) (c ∷ cs) p h = go (is_white c.byte) refl
  where
    q : Point
    q = white_end (suc room) (c ∷ cs) p

    go : (x : Bool) → is_white c.byte ≡ x →
        cond (is_white c.byte) (pair SpaceOrTab p q) [] ++ F apart (line_cells (white_rest (suc room) (c ∷ cs))) q ≡
        F apart (line_cells (c ∷ cs)) p
    go true e =
        let line : line_cells (c ∷ cs) ≡ c ∷ line_cells cs = line-white c cs e in
        let opened : F apart (line_cells (c ∷ cs)) p ≡ enter SpaceOrTab p ∷ F white (line_cells (c ∷ cs)) p =
        ap (λ (l : List Cell). F apart l p) line
        ∙ are.opens c (line_cells cs) p e
        ∙ ap (λ (l : List Cell). enter SpaceOrTab p ∷ F white l p) (sym line) in
        ap
        (λ (t : Bool).
        cond t (pair SpaceOrTab p q) [] ++ F apart (line_cells (white_rest (suc room) (c ∷ cs))) q) e
        ∙ sym
        (opened
        ∙ ap (λ (es : List Event). enter SpaceOrTab p ∷ es) (white-run R white apart F are (suc room) (c ∷ cs) p h))
    go false e = rw e refl
