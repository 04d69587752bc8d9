-- A text over lines is a strand: its chunks in the places of its lines, and its lines.
use Rattle.std.proofs.Common.{◌≡◌, ◌≢◌, ℕ, zero, suc, ◌≤◌, true, false, nat_eq, List, [], ◌∷◌}
use Rattle.std.proofs.Common.{◌++◌, length, refl, sym, ap, ◌∙◌, subst, arith, append_assoc, append-nil}
use Rattle.std.specs.List.{list_all}
use Rattle.std.proofs.lemmas.List.{length-append}
use Rattle.md_engine.specs.declared.event.Event.{Event}
use Rattle.md_engine.specs.declared.event.Name.TheVariants as n
use Rattle.md_engine.specs.declared.event.Point.{Point}
use Rattle.md_engine.specs.Meaning.{Cell}
use Rattle.md_meaning.specs.Rest.{Rest, cut_tab, is_blank, is_white, trim_start}
use Rattle.md_meaning.specs.Texts.{trim_each, trim_further}
use Rattle.md_link_definitions.specs.CellLines.{cell_lines}
use Rattle.md_link_definitions.specs.Chunks.{chunks, string_link}
use Rattle.md_link_definitions.specs.WholeCells.{whole_cells}
use Rattle.md_link_definitions.proofs.LineCells.{line-no_feed, line-split, line-stops}
use Rattle.md_link_definitions.proofs.SpreadLines.{rest-last, rest-next, spread-last, spread-next}
use Rattle.md_events.specs.Ahead.{from_ending, line_cells, point_after}
use Rattle.md_events.specs.Events.Nested.{enter_link, exit}
use Rattle.md_events.proofs.FeedLines.{NoFeed, Stops, bytes_of, point_after-append, spread}
use Rattle.md_events.proofs.RestCells.{Cut, cells_by}
use Rattle.md_events.proofs.RestLines.{trim-white}
use Rattle.proof_content_laws.proofs.Defined.Along.{IsContinued, Turn, cells-white, no_line}
use Rattle.proof_content_laws.proofs.Defined.Form.{IsBreak, IsFilled, IsRun, IsStrand, LastLine, NoLine, OneLine}
use Rattle.proof_content_laws.proofs.Defined.Form.{Strand, strand_lines, strand_unread}
use Rattle.proof_content_laws.proofs.Defined.Runs.{RunOf, is-run, run-of, run_text}
use Rattle.proof_content_laws.proofs.Defined.Takes.{Takes, Walk, on-line, over-end, takes-end, takes-none}
use Rattle.proof_content_laws.proofs.Defined.Takes.{takes-quiet, takes-then}

-- The lines of a run.

-- what is left of a cut tab is whitespace
trim-cut : (spaces : ℕ) (text : List ℕ) → trim_start (cut_tab spaces ++ text) ≡ trim_start text
trim-cut zero text = refl
trim-cut (suc spaces) text = trim-white 9 text refl

abbrev rest_of : (bytes : List ℕ) (p q : Point) (cells : List Cell) → RunOf bytes p q cells → Rest
rest_of bytes p q cells run = record { column = 0; spaces = run.spaces; bytes = run.text }

-- the last one
last-led : (bytes : List ℕ) (p q : Point) (cells : List Cell) (run : RunOf bytes p q cells) → 1 ≤ p.column →
    cell_lines true (whole_cells p cells) ≡ trim_start (run_text bytes p q cells run) ∷ []
last-led bytes p q cells run one =
    ap (λ (l : List Cell). cell_lines true (whole_cells p l)) run.cells_are
    ∙ rest-last no_line (rest_of bytes p q cells run) p run.no_ending run.cut one
    ∙ ap (λ (l : List ℕ). l ∷ []) (sym (trim-cut run.spaces run.text))

-- and one that others follow
next-led : (bytes : List ℕ) (p q : Point) (cells : List Cell) (run : RunOf bytes p q cells) (c : Cell)
    (cs : List Cell) → 1 ≤ p.column → nat_eq c.byte 10 ≡ true →
    cell_lines true (whole_cells p (cells ++ c ∷ cs)) ≡
    trim_start (run_text bytes p q cells run) ∷ cell_lines true (whole_cells c.after cs)
next-led bytes p q cells run c cs one ten =
    ap (λ (l : List Cell). cell_lines true (whole_cells p (l ++ c ∷ cs))) run.cells_are
    ∙ rest-next no_line (rest_of bytes p q cells run) p c cs run.no_ending run.cut one ten
    ∙ ap (λ (l : List ℕ). l ∷ cell_lines true (whole_cells c.after cs)) (sym (trim-cut run.spaces run.text))

-- where a byte begins no tab is cut
pub uncut : (bytes : List ℕ) (p q : Point) (cells : List Cell) (run : RunOf bytes p q cells) → p.vs ≡ 0 →
    (cells ≡ spread no_line run.text p) × (run_text bytes p q cells run ≡ run.text)
uncut bytes p q cells run whole = go run.spaces run.cells_are run.cut
  where
    go : (spaces : ℕ) → cells ≡ cells_by no_line spaces run.text p → Cut spaces p →
        (cells ≡ spread no_line run.text p) × (cut_tab spaces ++ run.text ≡ run.text)
    go zero e cut = (e, refl)
    go (suc n) e cut = let within = cut.0 in absurd (omega (arith, within, whole))

pub last-lines : (bytes : List ℕ) (p q : Point) (cells : List Cell) (run : RunOf bytes p q cells) → 1 ≤ p.column →
    p.vs ≡ 0 → cell_lines false (whole_cells p cells) ≡ run_text bytes p q cells run ∷ []
last-lines bytes p q cells run one whole =
    let same = uncut bytes p q cells run whole in
    ap (λ (l : List Cell). cell_lines false (whole_cells p l)) same.0
    ∙ spread-last no_line run.text p run.no_ending whole one ∙ ap (λ (l : List ℕ). l ∷ []) (sym same.1)

next-lines : (bytes : List ℕ) (p q : Point) (cells : List Cell) (run : RunOf bytes p q cells) (c : Cell)
    (cs : List Cell) → 1 ≤ p.column → p.vs ≡ 0 → nat_eq c.byte 10 ≡ true →
    cell_lines false (whole_cells p (cells ++ c ∷ cs)) ≡
    run_text bytes p q cells run ∷ cell_lines true (whole_cells c.after cs)
next-lines bytes p q cells run c cs one whole ten =
    let same = uncut bytes p q cells run whole in
    ap (λ (l : List Cell). cell_lines false (whole_cells p (l ++ c ∷ cs))) same.0
    ∙ spread-next no_line run.text p c cs run.no_ending whole one ten
    ∙ ap (λ (l : List ℕ). l ∷ cell_lines true (whole_cells c.after cs)) (sym same.1)

-- Its chunks.

-- in a line
chunks-on : (cells rest : List Cell) (p : Point) → NoFeed cells →
    chunks true (cells ++ rest) p ≡ chunks true rest (point_after cells p)
chunks-on [] rest p none = refl
chunks-on (c ∷ cs) rest p none = rw none.0 (chunks-on cs rest c.after none.1)

-- from where it begins
chunks-last : (c : Cell) (cs : List Cell) (p : Point) → NoFeed (c ∷ cs) →
    chunks false (c ∷ cs) p ≡ enter_link n.Data p string_link ∷ exit n.Data (point_after (c ∷ cs) p) ∷ []
chunks-last c cs p none =
    rw none.0
    (ap (λ (l : List Event). enter_link n.Data p string_link ∷ l)
    (ap (λ (l : List Cell). chunks true l c.after) (sym (append-nil cs)) ∙ chunks-on cs [] c.after none.1))

chunks-next : (cells : List Cell) (d : Cell) (ds : List Cell) (p : Point) → NoFeed cells → nat_eq d.byte 10 ≡ true →
    chunks false (cells ++ d ∷ ds) p ≡
    enter_link n.Data p string_link ∷ exit n.Data d.after ∷ chunks false ds d.after
chunks-next [] d ds p none ten = rw ten refl
chunks-next (c ∷ cs) d ds p none ten =
    rw none.0
    (ap (λ (l : List Event). enter_link n.Data p string_link ∷ l) (chunks-on cs (d ∷ ds) c.after none.1 ∙ rw ten refl))

-- What it is.

pub record StrandOf (bytes : List ℕ) (last p : Point) (cells : List Cell) (turns : List Turn) (rest : List Cell) :
    Type 0 where
  pub strand : Strand
  pub left : List Turn
  pub takes : Takes bytes last p turns (point_after cells p) rest left (chunks false cells p) (strand_unread strand)
  pub none : cells ≡ [] → strand ≡ NoLine
  pub is : cells ≢ [] → IsStrand bytes p (point_after cells p) strand
  pub filled : IsContinued cells → IsFilled strand
  pub lines : p.vs ≡ 0 → cell_lines false (whole_cells p cells) ≡ trim_further (strand_lines strand)
  pub led : cell_lines true (whole_cells p cells) ≡ trim_each (strand_lines strand)

-- nothing
strand-none : (bytes : List ℕ) (last p : Point) (turns : List Turn) (rest : List Cell) →
    Walk bytes last p rest turns → StrandOf bytes last p [] turns rest
unfolding cell_lines
strand-none bytes last p turns rest walk = record {
  strand = NoLine;
  left = turns;
  takes = takes-none bytes last p rest turns walk;
  none = λ e. refl;
  is = λ some. absurd (some refl);
  filled = λ proceeds. tt;
  lines = λ whole. refl;
  led = refl;
}

-- some cells are some bytes
pub run-some : (c : Cell) (cs : List Cell) (p : Point) (spaces : ℕ) (text : List ℕ) →
    c ∷ cs ≡ cells_by no_line spaces text p → cut_tab spaces ++ text ≢ []
run-some c cs p zero [] e k = cc
run-some c cs p zero (b ∷ bs) e k = cc
run-some c cs p (suc spaces) text e k = cc

-- a last line
strand-last : (bytes : List ℕ) (last p : Point) (c : Cell) (cs : List Cell) (turns : List Turn) (rest : List Cell) →
    NoFeed (c ∷ cs) → Walk bytes last p ((c ∷ cs) ++ rest) turns → (point_after (c ∷ cs) p).vs ≡ 0 →
    StrandOf bytes last p (c ∷ cs) turns rest
strand-last bytes last p c cs turns rest none walk whole =
    let cells = c ∷ cs in
    let q = point_after cells p in
    let line = on-line bytes last p cells rest turns none walk in
    let run = run-of bytes p cells walk.valid line.steps whole in
    let text = run_text bytes p q cells run in
    let begin = takes-quiet bytes last p turns p (cells ++ rest) turns (enter_link n.Data p string_link ∷ []) (refl, tt)
    (takes-none bytes last p (cells ++ rest) turns walk) refl (omega arith) (omega arith, tt) in
    let end = takes-end bytes last p turns q rest turns [] [] n.Data line.takes whole in
    let both = takes-then bytes last p turns p (cells ++ rest) turns (enter_link n.Data p string_link ∷ [])
    (enter_link n.Data p string_link ∷ []) q rest turns (exit n.Data q ∷ []) (exit n.Data q ∷ []) begin end in
    record {
      strand = LastLine p q text;
      left = turns;
      takes =
          subst
          (λ (es : List Event). Takes bytes last p turns q rest turns es (strand_unread (LastLine p q text)))
          (sym (chunks-last c cs p none)) both;
      none = λ e. cc;
      is = λ some.
          (refl, refl, run-some c cs p run.spaces run.text run.cells_are, is-run bytes p q cells walk.valid run);
      filled = λ proceeds. tt;
      lines = λ at. last-lines bytes p q cells run walk.valid.column at;
      led = last-led bytes p q cells run walk.valid.column;
    }

-- a strand after a line
one-is : (bytes : List ℕ) (a e b r q : Point) (text : List ℕ) (front : List Event) (s : Strand) (cells : List Cell) →
    IsRun bytes text a e → IsBreak bytes e b r front → (cells ≡ [] → (s ≡ NoLine) × (r ≡ q) × (q.vs ≡ 0)) →
    (cells ≢ [] → IsStrand bytes r q s) → IsFilled s → IsStrand bytes a q (OneLine a e b r text front s)
one-is bytes a e b r q text front NoLine [] run break none some filled =
    let end = none refl in (refl, run, break, end.1, end.2)
one-is bytes a e b r q text front NoLine (c ∷ cs) run break none some filled = absurd (some (λ k. cc))
one-is bytes a e b r q text front (LastLine x y t) [] run break none some filled =
    let end = none refl in let no = end.0 in cc
one-is bytes a e b r q text front (LastLine x y t) (c ∷ cs) run break none some filled =
    (refl, run, break, tt, some (λ k. cc))
one-is bytes a e b r q text front (OneLine x y z w t f s) [] run break none some filled =
    let end = none refl in let no = end.0 in cc
one-is bytes a e b r q text front (OneLine x y z w t f s) (c ∷ cs) run break none some filled =
    (refl, run, break, filled, some (λ k. cc))

-- a line, and a strand after its ending
strand-next : (bytes : List ℕ) (last p : Point) (line : List Cell) (d : Cell) (ds : List Cell) (turns : List Turn)
    (rest : List Cell) →
    NoFeed line → nat_eq d.byte 10 ≡ true → Walk bytes last p ((line ++ d ∷ ds) ++ rest) turns →
    (point_after (line ++ d ∷ ds) p).vs ≡ 0 →
    ((left : List Turn) → Walk bytes last d.after (ds ++ rest) left → (point_after ds d.after).vs ≡ 0 →
    StrandOf bytes last d.after ds left rest) → StrandOf bytes last p (line ++ d ∷ ds) turns rest
strand-next bytes last p line d ds turns rest none ten walk whole further =
    let cells = line ++ d ∷ ds in
    let e = point_after line p in
    let all : (line ++ d ∷ ds) ++ rest ≡ line ++ (d ∷ ds ++ rest) = append_assoc line (d ∷ ds) rest in
    let on = on-line bytes last p line (d ∷ ds ++ rest) turns none
    (subst (λ (l : List Cell). Walk bytes last p l turns) all walk) in
    let over = over-end bytes last e d (ds ++ rest) turns n.Data refl ten on.takes.walk in
    let turn = over.turn in
    let b = turn.turn.break in
    let ends : point_after cells p ≡ point_after ds d.after = point_after-append line (d ∷ ds) p in
    let end : (point_after ds d.after).vs ≡ 0 = sym (ap (λ (q : Point). q.vs) ends) ∙ whole in
    let more = further over.left over.takes.walk end in
    let run = run-of bytes p line walk.valid on.steps turn.break.whole in
    let text = run_text bytes p e line run in
    let begin = takes-quiet bytes last p turns p (line ++ (d ∷ ds ++ rest)) turns (enter_link n.Data p string_link ∷ [])
    (refl, tt)
    (takes-none bytes last p (line ++ (d ∷ ds ++ rest)) turns
    (subst (λ (l : List Cell). Walk bytes last p l turns) all walk)) refl (omega arith) (omega arith, tt) in
    let here =
    takes-then bytes last p turns e (d ∷ ds ++ rest) turns [] [] d.after (ds ++ rest) over.left
    (exit n.Data d.after ∷ [])
    (exit n.Data b.after ∷ b.front) on.takes over.takes in
    let both = takes-then bytes last p turns d.after (ds ++ rest) over.left (exit n.Data d.after ∷ [])
    (exit n.Data b.after ∷ b.front) (point_after ds d.after) rest more.left (chunks false ds d.after)
    (strand_unread more.strand) here more.takes in
    let strand = OneLine p e b.after d.after text b.front more.strand in
    let taken = takes-then bytes last p turns p (line ++ (d ∷ ds ++ rest)) turns (enter_link n.Data p string_link ∷ [])
    (enter_link n.Data p string_link ∷ []) (point_after ds d.after) rest more.left
    (exit n.Data d.after ∷ chunks false ds d.after) (exit n.Data b.after ∷ b.front ++ strand_unread more.strand)
    begin both in
    let broken : IsBreak bytes e b.after d.after b.front =
    subst (λ (q : Point). IsBreak bytes e b.after q b.front) (sym turn.after) turn.break in
    record {
      strand = strand;
      left = more.left;
      takes =
          subst
          (λ (es : List Event). Takes bytes last p turns (point_after cells p) rest more.left es (strand_unread strand))
          (sym (chunks-next line d ds p none ten))
          (subst
          (λ (q : Point).
          Takes bytes last p turns q rest more.left
          (enter_link n.Data p string_link ∷ exit n.Data d.after ∷ chunks false ds d.after) (strand_unread strand))
          (sym ends) taken);
      none = λ e. absurd (some line e);
      is = λ some.
          subst (λ (q : Point). IsStrand bytes p q strand) (sym ends)
          (one-is bytes p e b.after d.after (point_after ds d.after) text b.front more.strand ds
          (is-run bytes p e line walk.valid run) broken
          (λ k. (more.none k, sym (ap (λ (l : List Cell). point_after l d.after) k), end)) more.is
          (more.filled (λ l x xs k.
          turn.filled l x (xs ++ rest) (ap (λ (cs : List Cell). cs ++ rest) k ∙ append_assoc l (x ∷ xs) rest))));
      filled = λ proceeds. line-some run.spaces run.text run.cells_are proceeds;
      lines = λ at.
          next-lines bytes p e line run d ds walk.valid.column at ten ∙ ap (λ (l : List (List ℕ)). text ∷ l) more.led;
      led =
          next-led bytes p e line run d ds walk.valid.column ten
          ∙ ap (λ (l : List (List ℕ)). trim_start text ∷ l) more.led;
    }
  where
    line-some : (spaces : ℕ) (text : List ℕ) → line ≡ cells_by no_line spaces text p → IsContinued (line ++ d ∷ ds) →
        is_blank (cut_tab spaces ++ text) ≡ false
    line-some spaces text e proceeds =
        sym (cells-white spaces text p) ∙ ap (λ (l : List Cell). list_all is_white (bytes_of l)) (sym e)
        ∙ proceeds line d ds refl ten

    some : (l : List Cell) → l ++ d ∷ ds ≡ [] → ⊥
    some [] e = cc
    some (x ∷ xs) e = cc

-- Any text is a strand.
strand-by : (bytes : List ℕ) (last : Point) (rest : List Cell) (size : ℕ) (p : Point) (cells : List Cell)
    (turns : List Turn) → length cells ≤ size → Walk bytes last p (cells ++ rest) turns → (point_after cells p).vs ≡ 0 →
    StrandOf bytes last p cells turns rest
strand-by bytes last rest size p [] turns le walk whole = strand-none bytes last p turns rest walk
strand-by bytes last rest zero p (c ∷ cs) turns le walk whole = absurd (omega (arith, le))
strand-by bytes last rest (suc size) p (c ∷ cs) turns le walk whole =
    by (line_cells (c ∷ cs)) (from_ending (c ∷ cs)) (line-split (c ∷ cs)) (line-no_feed (c ∷ cs)) (line-stops (c ∷ cs))
    (λ q l left small w e. strand-by bytes last rest size q l left small w e)
  where
    Of : List Cell → Type 0
    Of l = StrandOf bytes last p l turns rest

    by : (line tail : List Cell) → line ++ tail ≡ c ∷ cs → NoFeed line → Stops tail →
        ((q : Point) (l : List Cell) (left : List Turn) → length l ≤ size → Walk bytes last q (l ++ rest) left →
        (point_after l q).vs ≡ 0 → StrandOf bytes last q l left rest) →
        Of (c ∷ cs)
    by [] [] e none stops more = cc
    by (x ∷ xs) [] e none stops more =
        let same : x ∷ xs ≡ c ∷ cs = sym (append-nil (x ∷ xs)) ∙ e in
        strand-last bytes last p c cs turns rest (subst NoFeed same none) walk whole
    by line (d ∷ ds) e none stops more =
        let size = ap (λ (l : List Cell). length l) e in
        let parts = length-append line (d ∷ ds) in
        subst Of e
        (strand-next bytes last p line d ds turns rest none stops
        (subst (λ (l : List Cell). Walk bytes last p (l ++ rest) turns) (sym e) walk)
        (ap (λ (l : List Cell). (point_after l p).vs) e ∙ whole)
        (λ left w k. more d.after ds left (omega (arith, size, parts, le)) w k))

pub strand-of : (bytes : List ℕ) (last p : Point) (cells rest : List Cell) (turns : List Turn) →
    Walk bytes last p (cells ++ rest) turns → (point_after cells p).vs ≡ 0 → StrandOf bytes last p cells turns rest
strand-of bytes last p cells rest turns walk whole =
    strand-by bytes last rest (length cells) p cells turns (omega arith) walk whole
