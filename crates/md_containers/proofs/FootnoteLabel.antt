-- The label of a footnote definition, by the cells of a line and by its bytes.
use Rattle.std.proofs.Common.{◌≡◌, ℕ, ◌+◌, Bool, true, false, cond, not, ◌&&◌, ◌||◌, nat_eq, List, [], ◌∷◌, ◌++◌}
use Rattle.std.proofs.Common.{length, Option, Some, None, refl, sym, ap, ◌∙◌, subst, arith, add-zero}
use Rattle.std.specs.List.{list_all}
use Rattle.std.proofs.lemmas.Bool.{eqb-true, or_parts}
use Rattle.std.proofs.lemmas.Bool.Decides.{nat_tests}
use Rattle.md_engine.specs.declared.event.Point.{Point}
use Rattle.md_engine.specs.declared.tokenizer.Line.{Line}
use Rattle.md_engine.specs.Meaning.{Cell}
use Rattle.md_containers.specs.Footnote.{breaks_label}
use Rattle.md_containers.specs.FootnoteRule.{LabelCells, label_cells, with_cell}
use Rattle.md_containers.proofs.ItemDigits.{byte-following, spread-one, starts, starts-spread}
use Rattle.md_meaning.specs.Containers.{Labelled, footnote_label, is_label_mark, with_label_byte}
use Rattle.md_meaning.specs.Rest.{Rest, is_white}
use Rattle.md_meaning.proofs.TextsLemmas.{NoEnding}
use Rattle.md_events.specs.Events.Places.{past_byte, past_text}
use Rattle.md_events.proofs.FeedLines.{Stops, cell, spread}
use Rattle.md_events.proofs.RestCells.{RestAt}

abbrev pub rest : ℕ → List ℕ → Rest
rest column bytes = record { column = column; spaces = 0; bytes = bytes }

-- no whitespace is there
abbrev pub has_no_white : List ℕ → Bool
has_no_white bytes = list_all (λ (b : ℕ). not (is_white b)) bytes

-- a label is in front, with its `]` after it
pub record HasLabel (line : Line) (text past : List ℕ) (column : ℕ) (bytes : List ℕ) (p : Point) (stop : List Cell)
    (l : LabelCells) (m : Labelled) : Type 0 where
  pub label : l.label ≡ m.label
  pub bytes_are : bytes ≡ m.label ++ (93 ∷ m.after)
  pub dark : has_no_white m.label ≡ true
  pub end : l.end ≡ past_text m.label p
  pub closer : l.closer ≡ cell 93 (past_byte 93 (past_text m.label p)) line
  pub left : l.rest ≡ spread line m.after (past_byte 93 (past_text m.label p)) ++ stop
  pub valid : RestAt text past (rest (column + length m.label + 1) m.after) (past_byte 93 (past_text m.label p))
  pub no_ending : NoEnding m.after

-- a label is read of the cells where it is of the bytes
abbrev pub LabelIs : Line → (text past : List ℕ) → ℕ → List ℕ → Point → List Cell → Option LabelCells →
    Option Labelled →
    Type 0
LabelIs line text past column bytes p stop None None = Unit {0}
LabelIs line text past column bytes p stop (Some l) (Some m) = HasLabel line text past column bytes p stop l m
LabelIs line text past column bytes p stop o t = ⊥

-- Where there is none.

label-white : (escaped : Bool) (cells : List Cell) (p : Point) → starts is_white cells ≡ true →
    label_cells escaped cells p ≡ None
label-white escaped [] p e = refl
label-white escaped (c ∷ cs) p e =
    let mark : is_label_mark c.byte ≡ false = grind (arith, nat_tests) in
    let closes : nat_eq c.byte 93 ≡ false = grind (arith, nat_tests) in
    rw (mark, closes, e) (go escaped)
  where
    go : (x : Bool) → cond (x && false) (with_cell c.byte (label_cells false cs c.after)) None ≡ None
    go true = refl
    go false = refl

label-stops : (escaped : Bool) (stop : List Cell) (p : Point) → Stops stop → label_cells escaped stop p ≡ None
label-stops escaped [] p k = refl
label-stops escaped (c ∷ cs) p k =
    let ten : c.byte ≡ 10 = eqb-true c.byte 10 k in
    let mark : is_label_mark c.byte ≡ false = ap is_label_mark ten in
    let closes : nat_eq c.byte 93 ≡ false = ap (λ (b : ℕ). nat_eq b 93) ten in
    let breaks : breaks_label c.byte ≡ true = ap breaks_label ten in
    rw (mark, closes, breaks) (go escaped)
  where
    go : (x : Bool) → cond (x && false) (with_cell c.byte (label_cells false cs c.after)) None ≡ None
    go true = refl
    go false = refl

white-label : (escaped : Bool) (b : ℕ) (bs : List ℕ) → is_white b ≡ true → footnote_label escaped (b ∷ bs) ≡ None
white-label escaped b bs e =
    let mark : is_label_mark b ≡ false = grind (arith, nat_tests) in
    let closes : nat_eq b 93 ≡ false = grind (arith, nat_tests) in
    rw (mark, closes, e) (go escaped)
  where
    go : (x : Bool) → cond (x && false) (with_label_byte b (footnote_label false bs)) None ≡ None
    go true = refl
    go false = refl

-- A byte more.

one-more : (line : Line) (text past : List ℕ) (column b : ℕ) (bs : List ℕ) (p : Point) (stop : List Cell)
    (o : Option LabelCells) (t : Option Labelled) →
    is_white b ≡ false → LabelIs line text past (column + 1) bs (past_byte b p) stop o t →
    LabelIs line text past column (b ∷ bs) p stop (with_cell b o) (with_label_byte b t)
one-more line text past column b bs p stop None None dark has = tt
one-more line text past column b bs p stop None (Some m) dark has = absurd has
one-more line text past column b bs p stop (Some l) None dark has = absurd has
one-more line text past column b bs p stop (Some l) (Some m) dark has = record {
  label = ap (λ (bytes : List ℕ). b ∷ bytes) has.label;
  bytes_are = ap (λ (bytes : List ℕ). b ∷ bytes) has.bytes_are;
  dark = ap (λ (x : Bool). not x && has_no_white m.label) dark ∙ has.dark;
  end = has.end;
  closer = has.closer;
  left = has.left;
  valid =
      subst
      (λ (k : ℕ). RestAt text past (rest k m.after) (past_byte 93 (past_text m.label (past_byte b p))))
      (omega arith) has.valid;
  no_ending = has.no_ending;
}

-- the `]` after it
closed : (line : Line) (text past : List ℕ) (column b : ℕ) (bs : List ℕ) (p : Point) (stop : List Cell) →
    nat_eq b 93 ≡ true → RestAt text past (rest column (b ∷ bs)) p → NoEnding bs →
    HasLabel line text past column (b ∷ bs) p stop
    (record {
      label = [];
      end = p;
      closer = cell b (past_byte b p) line;
      rest = spread line bs (past_byte b p) ++ stop;
    })
    (record { label = []; after = bs })
closed line text past column b bs p stop e is h =
    let same : b ≡ 93 = eqb-true b 93 e in
    let dark : is_white b ≡ false = ap is_white same in
    record {
      label = refl;
      bytes_are = ap (λ (c : ℕ). c ∷ bs) same;
      dark = refl;
      end = refl;
      closer = ap (λ (c : ℕ). cell c (past_byte c p) line) same;
      left = ap (λ (c : ℕ). spread line bs (past_byte c p) ++ stop) same;
      valid =
          subst (λ (c : ℕ). RestAt text past (rest (column + 0 + 1) bs) (past_byte c p)) same
          (subst (λ (k : ℕ). RestAt text past (rest (k + 1) bs) (past_byte b p)) (sym (add-zero column))
          (byte-following text past column b bs p dark is));
      no_ending = h;
    }

pub label-walk : (line : Line) (text past : List ℕ) (column : ℕ) (escaped : Bool) (bytes : List ℕ) (p : Point)
    (stop : List Cell) →
    RestAt text past (rest column bytes) p → NoEnding bytes → Stops stop →
    LabelIs line text past column bytes p stop (label_cells escaped (spread line bytes p ++ stop) p)
    (footnote_label escaped bytes)
label-walk line text past column escaped [] p stop is h k =
    subst (λ (o : Option LabelCells). LabelIs line text past column [] p stop o None)
    (sym (label-stops escaped stop p k)) tt
label-walk line text past column escaped (b ∷ bs) p stop is h k =
    go (is_white b) refl
    (λ further valid. label-walk line text past (column + 1) further bs (past_byte b p) stop valid h.1 k)
  where
    q : Point
    q = past_byte b p

    left : List Cell
    left = spread line bs q ++ stop

    Agrees : Option LabelCells → Option Labelled → Type 0
    Agrees o t = LabelIs line text past column (b ∷ bs) p stop o t

    Next : Type 0
    Next = (further : Bool) → RestAt text past (rest (column + 1) bs) q →
        LabelIs line text past (column + 1) bs q stop (label_cells further left q) (footnote_label further bs)

    ended : LabelCells
    ended = record { label = []; end = p; closer = cell b q line; rest = left }

    dark-walk : is_white b ≡ false → Next →
        Agrees (label_cells escaped (cell b q line ∷ left) p) (footnote_label escaped (b ∷ bs))
    dark-walk dark next = by (escaped && is_label_mark b) (nat_eq b 93) (nat_eq b 91) refl refl
      where
        more : (further : Bool) →
            Agrees (with_cell b (label_cells further left q)) (with_label_byte b (footnote_label further bs))
        more further =
            one-more line text past column b bs p stop (label_cells further left q) (footnote_label further bs) dark
            (next further (byte-following text past column b bs p dark is))

        no_end : nat_eq b 10 ≡ false
        no_end = (or_parts (nat_eq b 10) (nat_eq b 13) h.0).0

        by : (x y z : Bool) → nat_eq b 93 ≡ y → nat_eq b 91 ≡ z →
            Agrees
            (cond x (with_cell b (label_cells false left q))
            (cond y (Some ended)
            (cond ((is_white b || nat_eq b 10) || z) None (with_cell b (label_cells (nat_eq b 92) left q)))))
            (cond x (with_label_byte b (footnote_label false bs))
            (cond y (Some (record { label = []; after = bs }))
            (cond (is_white b || z) None (with_label_byte b (footnote_label (nat_eq b 92) bs)))))
        by true y z e f = more false
        by false true z e f = closed line text past column b bs p stop e is h.1
        by false false true e f = rw (dark, no_end) tt
        by false false false e f = rw (dark, no_end) (more (nat_eq b 92))

    go : (x : Bool) → is_white b ≡ x → Next →
        Agrees (label_cells escaped (spread line (b ∷ bs) p ++ stop) p) (footnote_label escaped (b ∷ bs))
    go true e next =
        subst (λ (o : Option LabelCells). Agrees o (footnote_label escaped (b ∷ bs)))
        (sym (label-white escaped _ p (starts-spread is_white line b bs p stop ∙ e)))
        (subst (Agrees None) (sym (white-label escaped b bs e)) tt)
    go false e next =
        subst (λ (l : List Cell). Agrees (label_cells escaped l p) (footnote_label escaped (b ∷ bs)))
        (sym (spread-one line b bs p stop e)) (dark-walk e next)
