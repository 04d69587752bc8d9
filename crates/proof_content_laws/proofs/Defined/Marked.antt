-- Texts between marks in the cells of lines: labels and titles.
use Rattle.std.proofs.Common.{◌≡◌, ◌≢◌, inl, inr, ℕ, Bool, true, false, cond, nat_eq, List, [], ◌∷◌, ◌++◌, refl, sym}
use Rattle.std.proofs.Common.{ap, ◌∙◌, subst, arith, append_assoc, Option, Some, None}
use Rattle.std.specs.Prelude.{◌&&◌, option_map}
use Rattle.std.proofs.lemmas.Bool.{eqb-true}
use Rattle.std.proofs.lemmas.Bool.Decides.{nat_tests}
use Rattle.md_meaning.specs.Definition.{title_closer}
use Rattle.md_meaning.specs.Rest.{is_white}
use Rattle.md_meaning.specs.Texts.{trim_further}
use Rattle.md_engine.specs.declared.event.Event.{Event}
use Rattle.md_engine.specs.declared.event.Name.TheVariants as n
use Rattle.md_engine.specs.declared.event.Point.{Point}
use Rattle.md_engine.specs.Meaning.{Cell}
use Rattle.md_link_definitions.specs.CellLines.{cell_lines}
use Rattle.md_link_definitions.specs.Chunks.{before_mark, chunks, from_mark}
use Rattle.md_link_definitions.specs.DefinitionRule.{ends_after, lone, title_following}
use Rattle.md_link_definitions.specs.DefinitionRule.{titled_end, titled_part, titled_rest}
use Rattle.md_link_definitions.specs.GapRule.{begins_gap, gap_end, gap_part, gap_rest}
use Rattle.md_link_definitions.specs.Label.{is_bracket}
use Rattle.md_link_definitions.specs.LabelRule.{LabelParts, has_text, label_events, label_from, label_parts}
use Rattle.md_link_definitions.specs.Title.{is_mark}
use Rattle.md_link_definitions.specs.TitleRule.{TitleParts, parts_closed, parts_from, title_events, title_parts}
use Rattle.md_link_definitions.specs.WholeCells.{whole_cells}
use Rattle.md_link_definitions.proofs.CellLineLemmas.{is_other}
use Rattle.md_link_definitions.proofs.LineCells.{mark-split}
use Rattle.md_link_definitions.proofs.TitleLemmas.{title-marks}
use Rattle.md_events.specs.Ahead.{point_after}
use Rattle.md_events.specs.Events.Nested.{around, enter, exit, pair}
use Rattle.proof_content_laws.proofs.Defined.Along.{IsCell, Valid, Turn}
use Rattle.proof_content_laws.proofs.Defined.Form.{IsByte, IsStrand, IsText, IsTitle, NoLine, Strand, Titled}
use Rattle.proof_content_laws.proofs.Defined.Form.{gap_events, strand_lines, strand_unread, string_of, text_lines}
use Rattle.proof_content_laws.proofs.Defined.Form.{title_by}
use Rattle.proof_content_laws.proofs.Defined.Gaps.{gap-of}
use Rattle.proof_content_laws.proofs.Defined.Runs.{step-valid}
use Rattle.proof_content_laws.proofs.Defined.Strands.{StrandOf, strand-of}
use Rattle.proof_content_laws.proofs.Defined.Takes.{Takes, Walk, takes-none, takes-quiet, takes-then, walk-whole}
use Rattle.proof_content_laws.proofs.Defined.Targets.{byte-of}

-- Cells between marks.

-- after some cells
walk-over : (bytes : List ℕ) (last p : Point) (cells rest : List Cell) (turns : List Turn) →
    Walk bytes last p (cells ++ rest) turns → (left : List Turn) × Walk bytes last (point_after cells p) rest left
walk-over bytes last p [] rest turns walk = (turns, walk)
walk-over bytes last p (c ∷ cs) rest turns walk =
    walk-over bytes last c.after cs rest walk.walks.0 (next walk.walks.1)
  where
    next : IsCell bytes p c (cs ++ rest) turns walk.walks.0 → Walk bytes last c.after (cs ++ rest) walk.walks.0
    next (inl (step, same)) =
        let small = walk.small in
        record {
          valid = step-valid bytes p c walk.valid step;
          walks = walk.walks.2;
          small = omega (arith, small);
          whole = walk.whole;
        }
    next (inr turn) =
        let small = walk.small in
        record {
          valid = subst (Valid bytes) (sym turn.after) turn.valid;
          walks = walk.walks.2;
          small = omega (arith, small);
          whole = walk.whole;
        }

-- a mark, a text, and a mark
pub record MarkedOf (bytes : List ℕ) (last p : Point) (o : Cell) (text : List Cell) (k : Cell) (rest : List Cell)
    (turns : List Turn) : Type 0 where
  pub strand : StrandOf bytes last o.after text turns (k ∷ rest)
  pub whole : o.after.vs ≡ 0
  pub opens : IsByte bytes o.byte p o.after
  pub closes : IsByte bytes k.byte (point_after text o.after) k.after
  pub opener : Takes bytes last p turns o.after (text ++ (k ∷ rest)) turns [] []
  pub closer : Takes bytes last (point_after text o.after) strand.left k.after rest strand.left [] []

pub marked-of : (bytes : List ℕ) (last p : Point) (o : Cell) (text : List Cell) (k : Cell) (rest : List Cell)
    (turns : List Turn) →
    is_white o.byte ≡ false → nat_eq o.byte 10 ≡ false → is_white k.byte ≡ false → nat_eq k.byte 10 ≡ false →
    Walk bytes last p (o ∷ (text ++ (k ∷ rest))) turns → MarkedOf bytes last p o text k rest turns
marked-of bytes last p o text k rest turns dark plain shut flat walk =
    let opener = byte-of bytes last p o (text ++ (k ∷ rest)) turns dark plain walk in
    let b = point_after text o.after in
    let over = walk-over bytes last o.after text (k ∷ rest) turns opener.takes.walk in
    let whole = walk-whole bytes last b (k ∷ rest) over.0 over.1 shut in
    let strand = strand-of bytes last o.after text (k ∷ rest) turns opener.takes.walk whole in
    let closer = byte-of bytes last b k rest strand.left shut flat strand.takes.walk in
    record {
      strand = strand;
      whole = opener.is.1.whole;
      opens = opener.is;
      closes = closer.is;
      opener = opener.takes;
      closer = closer.takes;
    }

-- events around a text
order : (x a b c : List Event) → ((x ++ a) ++ b) ++ c ≡ x ++ (a ++ b ++ c)
order x a b c = simp append_assoc

-- Labels.

pub record LabelAre (cells : List Cell) (t : LabelParts) : Type 0 where
  pub cells_are : cells ≡ t.opener ∷ (t.text ++ (t.closer ∷ t.rest))
  pub opens : t.opener.byte ≡ 91
  pub closes : t.closer.byte ≡ 93
  pub some : t.text ≢ []

pub label-are : (cells : List Cell) (t : LabelParts) → label_parts cells ≡ Some t → LabelAre cells t
unfolding label_parts
label-are [] t e = cc
label-are (c ∷ cs) t e = go (nat_eq c.byte 91) refl e
  where
    text : List Cell
    text = before_mark is_bracket false cs

    nonempty : (l : List Cell) → has_text l ≡ true → l ≢ []
    nonempty [] e k = cc
    nonempty (x ∷ xs) e k = cc

    closed : (d : Cell) (ds : List Cell) → nat_eq c.byte 91 ≡ true → from_mark is_bracket false cs ≡ d ∷ ds →
        (x y z : Bool) → has_text text ≡ x → nat_eq d.byte 93 ≡ z →
        cond ((x && y) && z) (Some (record { opener = c; text = text; closer = d; rest = ds })) None ≡ Some t →
        LabelAre (c ∷ cs) t
    closed d ds i k true true true f g e =
        let u : LabelParts = record { opener = c; text = text; closer = d; rest = ds } in
        let same : u ≡ t = cc in
        subst (LabelAre (c ∷ cs)) same
        (record {
          cells_are =
              ap (λ (l : List Cell). c ∷ l)
              (sym (mark-split is_bracket false cs) ∙ ap (λ (l : List Cell). text ++ l) k);
          opens = eqb-true c.byte 91 i;
          closes = eqb-true d.byte 93 g;
          some = nonempty text f;
        })
    closed d ds i k true true false f g e = let bad : (let o : Option LabelParts = None in o) ≡ Some t = e in cc
    closed d ds i k true false z f g e = let bad : (let o : Option LabelParts = None in o) ≡ Some t = e in cc
    closed d ds i k false y z f g e = let bad : (let o : Option LabelParts = None in o) ≡ Some t = e in cc

    by : nat_eq c.byte 91 ≡ true → (l : List Cell) → from_mark is_bracket false cs ≡ l →
        label_from c text l ≡ Some t → LabelAre (c ∷ cs) t
    by i [] k e = let bad : (let o : Option LabelParts = None in o) ≡ Some t = e in cc
    by i (d ∷ ds) k e = closed d ds i k (has_text text) _ (nat_eq d.byte 93) refl refl e

    go : (x : Bool) → nat_eq c.byte 91 ≡ x →
        cond x (label_from c text (from_mark is_bracket false cs)) None ≡ Some t → LabelAre (c ∷ cs) t
    go true i e = by i (from_mark is_bracket false cs) refl e
    go false i e = let bad : (let o : Option LabelParts = None in o) ≡ Some t = e in cc

-- the events of a label with this text
abbrev pub labelled : Strand → Point → Point → Point → Point → List Event
labelled s p a b c =
    around n.DefinitionLabel p c
    (pair n.DefinitionLabelMarker p a ++ around n.DefinitionLabelString a b (strand_unread s)
    ++ pair n.DefinitionLabelMarker b c)

pub record LabelOf (bytes : List ℕ) (last p : Point) (t : LabelParts) (turns : List Turn) : Type 0 where
  pub strand : Strand
  pub left : List Turn
  pub takes : Takes bytes last p turns t.closer.after t.rest left (label_events t p)
      (labelled strand p t.opener.after (point_after t.text t.opener.after) t.closer.after)
  pub opens : IsByte bytes 91 p t.opener.after
  pub is : IsStrand bytes t.opener.after (point_after t.text t.opener.after) strand
  pub closes : IsByte bytes 93 (point_after t.text t.opener.after) t.closer.after
  pub lines : cell_lines false (whole_cells t.opener.after t.text) ≡ trim_further (strand_lines strand)

pub label-of : (bytes : List ℕ) (last p : Point) (cells : List Cell) (t : LabelParts) (turns : List Turn) →
    LabelAre cells t → Walk bytes last p cells turns → LabelOf bytes last p t turns
label-of bytes last p cells t turns are walk =
    let opens = are.opens in
    let closes = are.closes in
    let a = t.opener.after in
    let b = point_after t.text a in
    let c = t.closer.after in
    let marked = marked-of bytes last p t.opener t.text t.closer t.rest turns (rw opens refl) (rw opens refl)
    (rw closes refl) (rw closes refl)
    (subst (λ (l : List Cell). Walk bytes last p l turns) are.cells_are walk) in
    let s = marked.strand.strand in
    let left = marked.strand.left in
    let es = chunks false t.text a in
    let fs = strand_unread s in
    let front : List Event = enter n.DefinitionLabel p ∷ enter n.DefinitionLabelMarker p
    ∷ exit n.DefinitionLabelMarker a ∷ enter n.DefinitionLabelString a ∷ [] in
    let one : List Event = exit n.DefinitionLabelString b ∷ [] in
    let two = pair n.DefinitionLabelMarker b c in
    let three : List Event = exit n.DefinitionLabel c ∷ [] in
    let back : List Event = one ++ two ++ three in
    let taken = takes-then bytes last p turns a (t.text ++ (t.closer ∷ t.rest)) turns front front c t.rest left
    (es ++ back) (fs ++ back)
    (takes-quiet bytes last p turns a (t.text ++ (t.closer ∷ t.rest)) turns front (refl, (refl, (refl, (refl, tt))))
    marked.opener refl (omega arith)
    (marked.opener.index, (marked.opener.index, (omega arith, (omega arith, tt)))))
    (takes-then bytes last a turns b (t.closer ∷ t.rest) left es fs c t.rest left back back marked.strand.takes
    (takes-quiet bytes last b left c t.rest left back (refl, (refl, (refl, (refl, tt)))) marked.closer refl
    (omega arith, λ same. marked.closes.0)
    (marked.closer.index, (marked.closer.index, (omega arith, (omega arith, tt)))))) in
    record {
      strand = s;
      left = left;
      takes =
          subst (λ (l : List Event). Takes bytes last p turns c t.rest left l (labelled s p a b c))
          (sym (ap (λ (l : List Event). front ++ l) (order es one two three)))
          (subst
          (λ (l : List Event). Takes bytes last p turns c t.rest left (front ++ es ++ (one ++ two ++ three)) l)
          (sym (ap (λ (l : List Event). front ++ l) (order fs one two three))) taken);
      opens = subst (λ (x : ℕ). IsByte bytes x p a) opens marked.opens;
      is = marked.strand.is are.some;
      closes = subst (λ (x : ℕ). IsByte bytes x b c) closes marked.closes;
      lines = marked.strand.lines marked.whole;
    }

-- Titles.

pub record TitleAre (cells : List Cell) (t : TitleParts) : Type 0 where
  pub cells_are : cells ≡ t.opener ∷ (t.text ++ (t.closer ∷ t.rest))
  pub closer_is : title_closer t.opener.byte ≡ Some t.closer.byte

pub title-are : (cells : List Cell) (t : TitleParts) → title_parts cells ≡ Some t → TitleAre cells t
unfolding title_parts
title-are [] t e = cc
title-are (c ∷ cs) t e = go (title_closer c.byte) refl e
  where
    closed : (closer : ℕ) (d : Cell) (ds : List Cell) (x : Bool) →
        title_closer c.byte ≡ Some closer → from_mark (is_mark c.byte closer) false cs ≡ d ∷ ds →
        nat_eq d.byte closer ≡ x →
        cond x
        (Some
        (record { opener = c; text = before_mark (is_mark c.byte closer) false cs; closer = d; rest = ds }))
        None ≡
        Some t →
        TitleAre (c ∷ cs) t
    closed closer d ds true i k f e =
        let text = before_mark (is_mark c.byte closer) false cs in
        let u : TitleParts = record { opener = c; text = text; closer = d; rest = ds } in
        let same : u ≡ t = cc in
        subst (TitleAre (c ∷ cs)) same
        (record {
          cells_are =
              ap (λ (l : List Cell). c ∷ l)
              (sym (mark-split (is_mark c.byte closer) false cs) ∙ ap (λ (l : List Cell). text ++ l) k);
          closer_is = i ∙ ap Some (sym (eqb-true d.byte closer f));
        })
    closed closer d ds false i k f e = let bad : (let o : Option TitleParts = None in o) ≡ Some t = e in cc

    by : (closer : ℕ) → title_closer c.byte ≡ Some closer → (l : List Cell) →
        from_mark (is_mark c.byte closer) false cs ≡ l →
        parts_closed closer c (before_mark (is_mark c.byte closer) false cs) l ≡ Some t → TitleAre (c ∷ cs) t
    by closer i [] k e = let bad : (let o : Option TitleParts = None in o) ≡ Some t = e in cc
    by closer i (d ∷ ds) k e = closed closer d ds (nat_eq d.byte closer) i k refl e

    go : (o : Option ℕ) → title_closer c.byte ≡ o → parts_from o c cs ≡ Some t → TitleAre (c ∷ cs) t
    go None i e = let bad : (let o : Option TitleParts = None in o) ≡ Some t = e in cc
    go (Some closer) i e = by closer i (from_mark (is_mark c.byte closer) false cs) refl e

-- a mark is no whitespace, and ends no line
other-dark : (b : ℕ) → is_other b ≡ false → (is_white b ≡ false) × (nat_eq b 10 ≡ false)
other-dark b e = (grind (arith, nat_tests), grind (arith, nat_tests))

-- the events of a title with this text
abbrev titled_events : Option Strand → Point → Point → Point → Point → List Event
titled_events text p a b q =
    around n.DefinitionTitle p q
    (pair n.DefinitionTitleMarker p a ++ string_of strand_unread a b text ++ pair n.DefinitionTitleMarker b q)

record TitleOf (bytes : List ℕ) (last p : Point) (t : TitleParts) (turns : List Turn) : Type 0 where
  text : Option Strand
  left : List Turn
  takes : Takes bytes last p turns t.closer.after t.rest left (title_events t p)
      (titled_events text p t.opener.after (point_after t.text t.opener.after) t.closer.after)
  opens : IsByte bytes t.opener.byte p t.opener.after
  is : IsText bytes t.opener.after (point_after t.text t.opener.after) text
  closes : IsByte bytes t.closer.byte (point_after t.text t.opener.after) t.closer.after
  lines : text_lines text ≡ cell_lines false (whole_cells t.opener.after t.text)

title-by : (bytes : List ℕ) (last p : Point) (o : Cell) (text : List Cell) (k : Cell) (rest : List Cell)
    (turns : List Turn) → MarkedOf bytes last p o text k rest turns →
    TitleOf bytes last p (record { opener = o; text = text; closer = k; rest = rest }) turns
unfolding cell_lines
title-by bytes last p o [] k rest turns marked =
    let a = o.after in
    let c = k.after in
    let none : marked.strand.strand ≡ NoLine = marked.strand.none refl in
    let left = marked.strand.left in
    let front : List Event = enter n.DefinitionTitle p ∷ enter n.DefinitionTitleMarker p
    ∷ exit n.DefinitionTitleMarker a ∷ [] in
    let back : List Event = enter n.DefinitionTitleMarker a ∷ exit n.DefinitionTitleMarker c
    ∷ exit n.DefinitionTitle c ∷ [] in
    record {
      text = None;
      left = left;
      takes =
          takes-then bytes last p turns a (k ∷ rest) turns front front c rest left back back
          (takes-quiet bytes last p turns a (k ∷ rest) turns front (refl, (refl, (refl, tt))) marked.opener refl
          (omega arith) (marked.opener.index, (marked.opener.index, (omega arith, tt))))
          (takes-then bytes last a turns a (k ∷ rest) left [] [] c rest left back back
          (subst
          (λ (s : Strand). Takes bytes last a turns a (k ∷ rest) left [] (strand_unread s)) none marked.strand.takes)
          (takes-quiet bytes last a left c rest left back (refl, (refl, (refl, tt))) marked.closer refl (omega arith)
          (marked.closer.index, (omega arith, (omega arith, tt)))));
      opens = marked.opens;
      is = refl;
      closes = marked.closes;
      lines = refl;
    }
title-by bytes last p o (x ∷ xs) k rest turns marked =
    let text = x ∷ xs in
    let a = o.after in
    let b = point_after text a in
    let c = k.after in
    let s = marked.strand.strand in
    let left = marked.strand.left in
    let es = chunks false text a in
    let fs = strand_unread s in
    let front : List Event = enter n.DefinitionTitle p ∷ enter n.DefinitionTitleMarker p
    ∷ exit n.DefinitionTitleMarker a ∷ enter n.DefinitionTitleString a ∷ [] in
    let one : List Event = exit n.DefinitionTitleString b ∷ [] in
    let two = pair n.DefinitionTitleMarker b c in
    let three : List Event = exit n.DefinitionTitle c ∷ [] in
    let back : List Event = one ++ two ++ three in
    let taken = takes-then bytes last p turns a (text ++ (k ∷ rest)) turns front front c rest left
    (es ++ back) (fs ++ back)
    (takes-quiet bytes last p turns a (text ++ (k ∷ rest)) turns front (refl, (refl, (refl, (refl, tt))))
    marked.opener refl (omega arith)
    (marked.opener.index, (marked.opener.index, (omega arith, (omega arith, tt)))))
    (takes-then bytes last a turns b (k ∷ rest) left es fs c rest left back back marked.strand.takes
    (takes-quiet bytes last b left c rest left back (refl, (refl, (refl, (refl, tt)))) marked.closer refl
    (omega arith, λ same. marked.closes.0)
    (marked.closer.index, (marked.closer.index, (omega arith, (omega arith, tt)))))) in
    record {
      text = Some s;
      left = left;
      takes =
          subst (λ (l : List Event). Takes bytes last p turns c rest left l (titled_events (Some s) p a b c))
          (sym (ap (λ (l : List Event). front ++ l) (order es one two three)))
          (subst
          (λ (l : List Event). Takes bytes last p turns c rest left (front ++ es ++ (one ++ two ++ three)) l)
          (sym (ap (λ (l : List Event). front ++ l) (order fs one two three))) taken);
      opens = marked.opens;
      is = marked.strand.is (λ e. cc);
      closes = marked.closes;
      lines = sym (marked.strand.lines marked.whole);
    }

title-of : (bytes : List ℕ) (last p : Point) (cells : List Cell) (t : TitleParts) (turns : List Turn) →
    TitleAre cells t → Walk bytes last p cells turns → TitleOf bytes last p t turns
title-of bytes last p cells t turns are walk =
    let marks = title-marks t.opener.byte t.closer.byte are.closer_is in
    let opens = other-dark t.opener.byte marks.opens in
    let closes = other-dark t.closer.byte marks.closes in
    title-by bytes last p t.opener t.text t.closer t.rest turns
    (marked-of bytes last p t.opener t.text t.closer t.rest turns opens.0 opens.1 closes.0 closes.1
    (subst (λ (l : List Cell). Walk bytes last p l turns) are.cells_are walk))

-- The title after a destination, with the gap before it, or none.

-- what is said of it
abbrev pub recorded_title : Option TitleParts → Option (List (List ℕ))
recorded_title o = option_map (λ (t : TitleParts). cell_lines false (whole_cells t.opener.after t.text)) o

pub record TailOf (bytes : List ℕ) (last p : Point) (cells : List Cell) (turns : List Turn) (o : Option TitleParts) :
    Type 0 where
  pub title : Option Titled
  pub left : List Turn
  pub takes : Takes bytes last p turns (titled_end o p) (titled_rest o cells) left (titled_part o cells p)
      (title_by strand_unread title)
  pub is : IsTitle bytes p (titled_end o p) title
  pub lines : option_map (λ (t : Titled). text_lines t.text) title ≡ recorded_title o

-- where one is found it is after a gap
pub following-gap : (cells : List Cell) (t : TitleParts) → title_following cells ≡ Some t →
    title_parts (gap_rest cells) ≡ Some t
following-gap cells t e = go (begins_gap cells) (title_parts (gap_rest cells)) refl e
  where
    by : (u : TitleParts) (x : Bool) → title_parts (gap_rest cells) ≡ Some u → cond x (Some u) None ≡ Some t →
        title_parts (gap_rest cells) ≡ Some t
    by u true k e = k ∙ e
    by u false k e = let bad : (let o : Option TitleParts = None in o) ≡ Some t = e in cc

    go : (x : Bool) (o : Option TitleParts) → title_parts (gap_rest cells) ≡ o → cond x (lone o) None ≡ Some t →
        title_parts (gap_rest cells) ≡ Some t
    go true None k e = let bad : (let o : Option TitleParts = None in o) ≡ Some t = e in cc
    go true (Some u) k e = by u (ends_after u.rest) k e
    go false o k e = let bad : (let o : Option TitleParts = None in o) ≡ Some t = e in cc

pub tail-of : (bytes : List ℕ) (last p : Point) (cells : List Cell) (turns : List Turn) (o : Option TitleParts) →
    title_following cells ≡ o → Walk bytes last p cells turns → TailOf bytes last p cells turns o
tail-of bytes last p cells turns None e walk = record {
  title = None;
  left = turns;
  takes = takes-none bytes last p cells turns walk;
  is = refl;
  lines = refl;
}
tail-of bytes last p cells turns (Some t) e walk =
    let gap = gap-of bytes last p cells turns walk in
    let q = gap_end cells p in
    let are = title-are (gap_rest cells) t (following-gap cells t e) in
    let title = title-of bytes last q (gap_rest cells) t gap.left are gap.takes.walk in
    let a = t.opener.after in
    let b = point_after t.text a in
    let c = t.closer.after in
    let titled : Titled = record {
      gap = gap.gap;
      p = q;
      a = a;
      b = b;
      q = c;
      opener = t.opener.byte;
      closer = t.closer.byte;
      text = title.text;
    } in
    record {
      title = Some titled;
      left = title.left;
      takes =
          takes-then bytes last p turns q (gap_rest cells) gap.left (gap_part cells p) (gap_events gap.gap) c t.rest
          title.left (title_events t q) (titled_events title.text q a b c) gap.takes title.takes;
      is = record {
        gap = gap.is;
        opens = title.opens;
        closer_is = are.closer_is;
        inside = title.is;
        closes = title.closes;
        last = refl;
      };
      lines = ap Some title.lines;
    }
