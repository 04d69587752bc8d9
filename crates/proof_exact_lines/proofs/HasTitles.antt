-- What follows a destination, by the rows that it is in: a title after a gap, or none.
use Rattle.std.proofs.Common.{◌≡◌, ◌≤◌, ℕ, Bool, true, false, cond, List, [], ◌∷◌, ◌++◌, length, refl, sym, ap, ap₂}
use Rattle.std.proofs.Common.{◌∙◌, subst, arith}
use Rattle.std.specs.Prelude.{◌==◌, Option, Some, None}
use Rattle.std.specs.Option.{is_some}
use Rattle.md_engine.specs.declared.event.Event.{Event}
use Rattle.md_engine.specs.declared.event.Name.TheVariants as n
use Rattle.md_engine.specs.declared.event.Point.{Point}
use Rattle.md_engine.specs.Meaning.{Cell}
use Rattle.md_meaning.specs.Definition as found
use Rattle.md_meaning.specs.Definition.{after_gap, alone, title_after}
use Rattle.md_meaning.specs.Enclosed.{Lines}
use Rattle.md_meaning.specs.Rest.{is_blank, is_parted, is_white}
use Rattle.md_link_definitions.specs.CellLines.{cell_lines}
use Rattle.md_link_definitions.specs.DefinitionRule.{ends_after, lone, title_following, titled_end, titled_part}
use Rattle.md_link_definitions.specs.DefinitionRule.{titled_rest}
use Rattle.md_link_definitions.specs.GapRule.{begins_gap, gap_end, gap_part, gap_rest}
use Rattle.md_link_definitions.specs.TitleRule.{TitleParts, title_events, title_parts}
use Rattle.md_link_definitions.specs.WholeCells.{AreWhole, whole_cells}
use Rattle.md_link_definitions.proofs.CellLineLemmas.{AreMarks}
use Rattle.md_link_definitions.proofs.DefinitionLemmas.{blank-ends, gap-length, title-following}
use Rattle.md_link_definitions.proofs.GapLines.{AreAt, gap-lines, gap-parted, gap-valid}
use Rattle.md_link_definitions.proofs.LineCells.{further, lines-first}
use Rattle.md_link_definitions.proofs.TitleLemmas.{title-marks}
use Rattle.md_link_definitions.proofs.TitleTexts.{title-texts, title_texts}
use Rattle.md_events.specs.Ahead.{from_ending, line_cells}
use Rattle.md_events.specs.Spaces.{any_size}
use Rattle.md_events.proofs.FeedLines.{bytes_of}
use Rattle.md_events.specs.Exact.Rows.{Row}
use Rattle.md_events.specs.Exact.Texts.{following_gap, after_title, enclosed_part, gap, has_title}
use Rattle.proof_content_laws.proofs.Defined.Along.{Turn}
use Rattle.proof_content_laws.proofs.Defined.Marked.{TitleAre, following-gap, title-are}
use Rattle.proof_content_laws.proofs.Defined.Takes.{Takes, Walk, takes-none, takes-then}
use Rattle.proof_exact_lines.proofs.Ahead.{Ahead, Onward, ahead-onward, onward-here, onward-then}
use Rattle.proof_exact_lines.proofs.Along.{Along, rows-lines}
use Rattle.proof_exact_lines.proofs.Gaps.{GapOn, gap-found, gap-on}
use Rattle.proof_exact_lines.proofs.Titles.{TitleOn, mark-dark, mark-plain, title-on}

-- Whether one is found on lines.

-- a title of these parts ends its line, or is none
lone-some : (t : TitleParts) → AreWhole t.closer.after t.rest → length t.rest ≤ any_size →
    is_some (alone (title_texts (Some t))) ≡ is_some (lone (Some t))
lone-some t are small =
    ap (λ (l : List (List ℕ)). is_some (alone (Some (record { text = text; rest = l }))))
    (lines-first t.closer.after t.rest are)
    ∙ go (is_blank line) ∙ blank-ends any_size t.closer.after t.rest small are ∙ sym (by (ends_after t.rest))
  where
    text : List (List ℕ)
    text = cell_lines false (whole_cells t.opener.after t.text)

    line : List ℕ
    line = bytes_of (whole_cells t.closer.after (line_cells t.rest))

    go : (x : Bool) →
        is_some
        (cond x (Some (let r : Lines = record { text = text; rest = further (from_ending t.rest) } in r)) None) ≡ x
    go true = refl
    go false = refl

    by : (x : Bool) → is_some (cond x (Some t) None) ≡ x
    by true = refl
    by false = refl

-- before cells
title-lone : (p : Point) (cells : List Cell) → AreAt p cells → length cells ≤ any_size →
    is_some (found.title_at (cell_lines false (whole_cells p cells))) ≡ is_some (lone (title_parts cells))
title-lone p cells at small = ap is_some (texts p cells at) ∙ go (title_parts cells) refl
  where
    texts : (q : Point) (l : List Cell) → AreAt q l →
        found.title_at (cell_lines false (whole_cells q l)) ≡ alone (title_texts (title_parts l))
    texts q [] at = title-texts (record q { vs = 0 }) [] refl tt
    texts q (c ∷ cs) at = title-texts q (c ∷ cs) (at.begins c cs refl) at.are

    go : (o : Option TitleParts) → title_parts cells ≡ o → is_some (alone (title_texts o)) ≡ is_some (lone o)
    go None e = refl
    go (Some t) e =
        let following = title-following p cells t at.are e in
        let fewer = following.fewer in
        lone-some t following.at.are (omega (arith, fewer))

-- and after a gap
title-some : (p : Point) (cells : List Cell) (line : List ℕ) (lines : List (List ℕ)) → AreAt p cells →
    length cells ≤ any_size → cell_lines false (whole_cells p cells) ≡ line ∷ lines →
    is_some (title_after line lines) ≡ is_some (title_following cells)
unfolding found.title_at cell_lines
title-some p [] line lines at small e =
    let first : [] ≡ line = cc in
    let none : [] ≡ lines = cc in
    ap₂ (λ (l : List ℕ) (m : List (List ℕ)). is_some (title_after l m)) (sym first) (sym none)
title-some p (c ∷ cs) line lines at small e = go (begins_gap (c ∷ cs)) refl
  where
    go : (x : Bool) → begins_gap (c ∷ cs) ≡ x → is_some (title_after line lines) ≡ is_some (title_following (c ∷ cs))
    go true k =
        let parted : is_parted line ≡ true = gap-parted p c cs line lines (at.begins c cs refl) e ∙ k in
        let left = gap-length (c ∷ cs) in
        rw (parted, k)
        (ap (λ (l : List (List ℕ)). is_some (found.title_at (after_gap l))) (sym e)
        ∙ gap-lines (λ (l : List (List ℕ)). is_some (found.title_at l)) p (c ∷ cs) refl small at.are
        ∙ title-lone (gap_end (c ∷ cs) p) (gap_rest (c ∷ cs)) (gap-valid p (c ∷ cs) small at.are)
        (omega (arith, left)))
    go false k =
        let parted : is_parted line ≡ false = gap-parted p c cs line lines (at.begins c cs refl) e ∙ k in
        rw (parted, k) refl

-- So by rows.
has-title : (text : List ℕ) (rows : List Row) (p : Point) (cells : List Cell) (turns : List Turn) →
    Along text rows p cells turns → p.vs ≡ 0 → AreAt p cells → length cells ≤ any_size →
    has_title rows ≡ is_some (title_following cells)
has-title text [] p cells turns along whole at small = absurd along
has-title text (row ∷ rows) p cells turns along whole at small =
    title-some p cells _ _ at small (rows-lines text (row ∷ rows) p cells turns along whole)

-- A gap, up to where it is found.
pub record GapAt (text : List ℕ) (last p : Point) (cells : List Cell) (turns : List Turn) (rows : List Row) :
    Type 0 where
  pub left : List Turn
  pub takes : Takes text last p turns (gap_end cells p) (gap_rest cells) left (gap_part cells p)
      (gap rows (following_gap rows))
  pub along : Along text (following_gap rows) (gap_end cells p) (gap_rest cells) left
  pub ahead : Ahead rows (following_gap rows)

pub gap-at : (text : List ℕ) (last p : Point) (cells : List Cell) (turns : List Turn) (rows : List Row) →
    Walk text last p cells turns → Along text rows p cells turns → p.vs ≡ 0 → (c : Cell) (cs : List Cell) →
    gap_rest cells ≡ c ∷ cs → is_white c.byte ≡ false → (c.byte == 10) ≡ false → GapAt text last p cells turns rows
gap-at text last p cells turns rows walk along whole c cs e dark plain = record {
  left = on.left;
  takes =
      subst
      (λ (l : List Row). Takes text last p turns (gap_end cells p) (gap_rest cells) on.left (gap_part cells p)
      (gap rows l))
      (sym is) on.takes;
  along = subst (λ (l : List Row). Along text l (gap_end cells p) (gap_rest cells) on.left) (sym is) on.along;
  ahead = subst (Ahead rows) (sym is) on.ahead;
}
  where
    on : GapOn text last p cells turns rows
    on = gap-on text last p cells turns rows walk along

    is : following_gap rows ≡ on.ends
    is = gap-found text last p cells turns rows walk along whole c cs e dark plain on

-- A title with the gap before it, or nothing.

-- where a title that follows a destination ends, and what it has, by whether there is one
abbrev end_by : Bool → List Row → List Row
end_by x rows = cond x (after_title (following_gap rows)) rows

abbrev tail_by : Bool → List Row → List Event
tail_by x rows =
    cond x
    (gap rows (following_gap rows)
    ++ enclosed_part n.DefinitionTitle n.DefinitionTitleMarker n.DefinitionTitleString (following_gap rows)
    (end_by x rows))
    []

abbrev pub title_end : List Row → List Row
title_end rows = end_by (has_title rows) rows

abbrev pub title_tail : List Row → List Event
title_tail rows = tail_by (has_title rows) rows

pub record TitledOn (text : List ℕ) (last p : Point) (cells : List Cell) (o : Option TitleParts) (turns : List Turn)
    (rows : List Row) : Type 0 where
  pub left : List Turn
  pub takes : Takes text last p turns (titled_end o p) (titled_rest o cells) left (titled_part o cells p)
      (title_tail rows)
  pub along : Along text (title_end rows) (titled_end o p) (titled_rest o cells) left
  pub onward : Onward rows (title_end rows)

-- by whether there is one
abbrev TitledBy : List ℕ → Point → Point → List Cell → Option TitleParts → List Turn → List Row → Bool → Type 0
TitledBy text last p cells o turns rows x =
    (left : List Turn)
    × (Takes text last p turns (titled_end o p) (titled_rest o cells) left (titled_part o cells p) (tail_by x rows))
    × (Along text (end_by x rows) (titled_end o p) (titled_rest o cells) left) × Onward rows (end_by x rows)

-- where there is one
titled-some : (text : List ℕ) (last p : Point) (cells : List Cell) (t : TitleParts) (turns : List Turn)
    (rows : List Row) → title_parts (gap_rest cells) ≡ Some t → Walk text last p cells turns →
    Along text rows p cells turns → p.vs ≡ 0 → TitledBy text last p cells (Some t) turns rows true
titled-some text last p cells t turns rows e walk along whole = (
  title.left,
  takes-then text last p turns q (gap_rest cells) g.left (gap_part cells p) (gap rows mid) t.closer.after t.rest
      title.left (title_events t q)
      (enclosed_part n.DefinitionTitle n.DefinitionTitleMarker n.DefinitionTitleString mid (after_title mid)) g.takes
      title.takes,
  title.along,
  onward-then rows mid (after_title mid) (ahead-onward rows mid g.ahead)
      (ahead-onward mid (after_title mid) title.ahead),
)
  where
    q : Point
    q = gap_end cells p

    mid : List Row
    mid = following_gap rows

    are : TitleAre (gap_rest cells) t
    are = title-are (gap_rest cells) t e

    marks : AreMarks t.opener.byte t.closer.byte
    marks = title-marks t.opener.byte t.closer.byte are.closer_is

    g : GapAt text last p cells turns rows
    g =
        gap-at text last p cells turns rows walk along whole t.opener (t.text ++ (t.closer ∷ t.rest)) are.cells_are
        (mark-dark t.opener.byte marks.opens) (mark-plain t.opener.byte marks.opens)

    title : TitleOn text last q t g.left mid
    title = title-on text last q (gap_rest cells) t g.left mid e g.takes.walk g.along

pub titled-on : (text : List ℕ) (last p : Point) (cells : List Cell) (o : Option TitleParts) (turns : List Turn)
    (rows : List Row) →
    title_following cells ≡ o → Walk text last p cells turns → Along text rows p cells turns → p.vs ≡ 0 →
    AreAt p cells → TitledOn text last p cells o turns rows
titled-on text last p cells o turns rows e walk along whole at =
    all (subst (TitledBy text last p cells o turns rows) (sym same) (go o e))
  where
    same : has_title rows ≡ is_some o
    same = has-title text rows p cells turns along whole at walk.small ∙ ap is_some e

    go : (o : Option TitleParts) → title_following cells ≡ o → TitledBy text last p cells o turns rows (is_some o)
    go None e = (turns, takes-none text last p cells turns walk, along, onward-here rows)
    go (Some t) e = titled-some text last p cells t turns rows (following-gap cells t e) walk along whole

    all : TitledBy text last p cells o turns rows (has_title rows) → TitledOn text last p cells o turns rows
    all h = record { left = h.0; takes = h.1; along = h.2; onward = h.3 }
