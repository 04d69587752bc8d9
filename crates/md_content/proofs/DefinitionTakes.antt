-- A definition takes the cells before what follows it, and at least one.
use Rattle.std.proofs.Common.{◌≡◌, ℕ, zero, suc, ◌<◌, ◌≤◌, Bool, true, false, cond, nat_eq, List, [], ◌∷◌, ◌++◌, length}
use Rattle.std.proofs.Common.{take, drop, Option, Some, None, refl, sym, ◌∙◌, ap, arith, subst, append_assoc}
use Rattle.std.proofs.lemmas.List.{length-append, take-append-drop}
use Rattle.md_meaning.specs.Ascii.{colon}
use Rattle.md_meaning.specs.Definition as found
use Rattle.md_meaning.specs.Definition.{Destination, title_closer}
use Rattle.md_meaning.specs.Rest.{is_white}
use Rattle.md_engine.specs.declared.event.Point.{Point}
use Rattle.md_engine.specs.Meaning.{Cell}
use Rattle.md_link_definitions.specs.Chunks.{before_mark, from_mark}
use Rattle.md_link_definitions.specs.DefinitionRule.{DefinitionParts, definition_end, definition_parts, definition_rest}
use Rattle.md_link_definitions.specs.DefinitionRule.{destination_begin, destination_end, destination_rest, ends_after}
use Rattle.md_link_definitions.specs.DefinitionRule.{lone, parts_after, parts_end, parts_labelled, parts_rest}
use Rattle.md_link_definitions.specs.DefinitionRule.{parts_with, title_following, titled_end, titled_rest}
use Rattle.md_link_definitions.specs.DestinationRule.{begins_literal, destination_size}
use Rattle.md_link_definitions.specs.GapRule.{begins_gap, ending_end, ending_rest, gap_end, gap_rest}
use Rattle.md_link_definitions.specs.Label.{is_bracket}
use Rattle.md_link_definitions.specs.LabelRule.{LabelParts, label_from, label_parts}
use Rattle.md_link_definitions.specs.Title.{is_mark}
use Rattle.md_link_definitions.specs.TitleRule.{TitleParts, parts_closed, parts_from, title_parts}
use Rattle.md_link_definitions.proofs.LineCells.{mark-split}
use Rattle.md_events.specs.Ahead.{line_bytes, point_after, white_end, white_rest}
use Rattle.md_events.specs.Look.{first_seen}
use Rattle.md_events.specs.Spaces.{any_size, ends_line}
use Rattle.md_events.proofs.FeedLines.{point_after-append}

-- the cells before what is left were taken, from one point to another
pub record Takes (cells : List Cell) (p : Point) (rest : List Cell) (q : Point) : Type 0 where
  pub front : List Cell
  pub split : cells ≡ front ++ rest
  pub last : q ≡ point_after front p

takes-none : (cells : List Cell) (p : Point) → Takes cells p cells p
takes-none cells p = record { front = []; split = refl; last = refl }

takes-more : (c : Cell) (cs : List Cell) (p : Point) (rest : List Cell) (q : Point) → Takes cs c.after rest q →
    Takes (c ∷ cs) p rest q
takes-more c cs p rest q t = record {
  front = c ∷ t.front;
  split = ap (λ (l : List Cell). c ∷ l) t.split;
  last = t.last;
}

takes-cell : (c : Cell) (cs : List Cell) (p : Point) → Takes (c ∷ cs) p cs c.after
takes-cell c cs p = takes-more c cs p cs c.after (takes-none cs c.after)

-- one part after another
takes-then : (cells : List Cell) (p : Point) (some : List Cell) (q : Point) (rest : List Cell) (r : Point) →
    Takes cells p some q → Takes some q rest r → Takes cells p rest r
takes-then cells p some q rest r a b = record {
  front = a.front ++ b.front;
  split = a.split ∙ ap (λ (l : List Cell). a.front ++ l) b.split ∙ sym (append_assoc a.front b.front rest);
  last =
      b.last ∙ ap (point_after b.front) a.last ∙ sym (point_after-append a.front b.front p);
}

-- no more is left, and at the same point where all ends
pub takes-fewer : (cells : List Cell) (p : Point) (rest : List Cell) (q : Point) → Takes cells p rest q →
    length rest ≤ length cells
takes-fewer cells p rest q t =
    let all : length cells ≡ length (t.front ++ rest) = ap (λ (l : List Cell). length l) t.split in
    let parts = length-append t.front rest in
    omega (arith, all, parts)

pub takes-end : (cells : List Cell) (p : Point) (rest : List Cell) (q : Point) → Takes cells p rest q →
    point_after cells p ≡ point_after rest q
takes-end cells p rest q t =
    ap (λ (l : List Cell). point_after l p) t.split ∙ point_after-append t.front rest p
    ∙ ap (point_after rest) (sym t.last)

-- Each part.

-- whitespace
white-takes : (room : ℕ) (cells : List Cell) (p : Point) →
    Takes cells p (white_rest room cells) (white_end room cells p)
white-takes room [] p = takes-none [] p
white-takes zero (c ∷ cs) p = takes-none (c ∷ cs) p
white-takes (suc room) (c ∷ cs) p = go (is_white c.byte) (white-takes room cs c.after)
  where
    go : (x : Bool) → Takes cs c.after (white_rest room cs) (white_end room cs c.after) →
        Takes (c ∷ cs) p (cond x (white_rest room cs) (c ∷ cs)) (cond x (white_end room cs c.after) p)
    go true t = takes-more c cs p _ _ t
    go false t = takes-none (c ∷ cs) p

-- a text, and the mark after it
mark-takes : (is : ℕ → Bool) (cells : List Cell) (p : Point) (d : Cell) (ds : List Cell) →
    from_mark is false cells ≡ d ∷ ds → Takes cells p ds d.after
mark-takes is cells p d ds e =
    let text : List Cell = before_mark is false cells in
    record {
      front = text ++ d ∷ [];
      split =
          sym (mark-split is false cells) ∙ ap (λ (l : List Cell). text ++ l) e
          ∙ sym (append_assoc text (d ∷ []) ds);
      last = sym (point_after-append text (d ∷ []) p);
    }

-- a label
label-takes : (p : Point) (cells : List Cell) (t : LabelParts) → label_parts cells ≡ Some t →
    Takes cells p t.rest t.closer.after
unfolding label_parts
label-takes p [] t e = let none : (let o : Option LabelParts = None in o) ≡ Some t = e in cc
label-takes p (c ∷ cs) t e = go (nat_eq c.byte 91) e
  where
    text : List Cell
    text = before_mark is_bracket false cs

    closed : (d : Cell) (ds : List Cell) (x : Bool) → from_mark is_bracket false cs ≡ d ∷ ds →
        cond x (Some (record { opener = c; text = text; closer = d; rest = ds })) None ≡ Some t →
        Takes (c ∷ cs) p t.rest t.closer.after
    closed d ds true k e =
        let u : LabelParts = record { opener = c; text = text; closer = d; rest = ds } in
        let same : u ≡ t = cc in
        subst (λ (v : LabelParts). Takes (c ∷ cs) p v.rest v.closer.after) same
        (takes-more c cs p ds d.after (mark-takes is_bracket cs c.after d ds k))
    closed d ds false k e = let none : (let o : Option LabelParts = None in o) ≡ Some t = e in cc

    by : (l : List Cell) → from_mark is_bracket false cs ≡ l → label_from c text l ≡ Some t →
        Takes (c ∷ cs) p t.rest t.closer.after
    by [] k e = let none : (let o : Option LabelParts = None in o) ≡ Some t = e in cc
    by (d ∷ ds) k e = closed d ds _ k e

    go : (x : Bool) → cond x (label_from c text (from_mark is_bracket false cs)) None ≡ Some t →
        Takes (c ∷ cs) p t.rest t.closer.after
    go true e = by (from_mark is_bracket false cs) refl e
    go false e = let none : (let o : Option LabelParts = None in o) ≡ Some t = e in cc

-- a title
title-takes : (p : Point) (cells : List Cell) (t : TitleParts) → title_parts cells ≡ Some t →
    Takes cells p t.rest t.closer.after
unfolding title_parts
title-takes p [] t e = let none : (let o : Option TitleParts = None in o) ≡ Some t = e in cc
title-takes p (c ∷ cs) t e = go (title_closer c.byte) e
  where
    closed : (closer : ℕ) (text : List Cell) (d : Cell) (ds : List Cell) (x : Bool) →
        from_mark (is_mark c.byte closer) false cs ≡ d ∷ ds →
        cond x (Some (record { opener = c; text = text; closer = d; rest = ds })) None ≡ Some t →
        Takes (c ∷ cs) p t.rest t.closer.after
    closed closer text d ds true k e =
        let u : TitleParts = record { opener = c; text = text; closer = d; rest = ds } in
        let same : u ≡ t = cc in
        subst (λ (v : TitleParts). Takes (c ∷ cs) p v.rest v.closer.after) same
        (takes-more c cs p ds d.after (mark-takes (is_mark c.byte closer) cs c.after d ds k))
    closed closer text d ds false k e = let none : (let o : Option TitleParts = None in o) ≡ Some t = e in cc

    by : (closer : ℕ) (text l : List Cell) → from_mark (is_mark c.byte closer) false cs ≡ l →
        parts_closed closer c text l ≡ Some t → Takes (c ∷ cs) p t.rest t.closer.after
    by closer text [] k e = let none : (let o : Option TitleParts = None in o) ≡ Some t = e in cc
    by closer text (d ∷ ds) k e = closed closer text d ds _ k e

    go : (o : Option ℕ) → parts_from o c cs ≡ Some t → Takes (c ∷ cs) p t.rest t.closer.after
    go None e = let none : (let o : Option TitleParts = None in o) ≡ Some t = e in cc
    go (Some closer) e =
        by closer (before_mark (is_mark c.byte closer) false cs) (from_mark (is_mark c.byte closer) false cs) refl e

-- a gap
ending-takes : (cells : List Cell) (p : Point) → Takes cells p (ending_rest cells) (ending_end cells p)
ending-takes [] p = takes-none [] p
ending-takes (c ∷ cs) p = go (nat_eq c.byte 10)
  where
    go : (x : Bool) →
        Takes (c ∷ cs) p (cond x (white_rest any_size cs) (c ∷ cs)) (cond x (white_end any_size cs c.after) p)
    go true = takes-more c cs p _ _ (white-takes any_size cs c.after)
    go false = takes-none (c ∷ cs) p

gap-takes : (cells : List Cell) (p : Point) → Takes cells p (gap_rest cells) (gap_end cells p)
gap-takes cells p =
    takes-then cells p _ _ _ _ (white-takes any_size cells p)
    (ending-takes (white_rest any_size cells) (white_end any_size cells p))

-- so many cells
some-takes : (size : ℕ) (cells : List Cell) (p : Point) →
    Takes cells p (drop size cells) (point_after (take size cells) p)
some-takes size cells p =
    record { front = take size cells; split = sym (take-append-drop size cells); last = refl }

-- a title after a gap, if there is one
titled-takes : (cells : List Cell) (p : Point) (title : Option TitleParts) → title_following cells ≡ title →
    Takes cells p (titled_rest title cells) (titled_end title p)
titled-takes cells p None e = takes-none cells p
titled-takes cells p (Some t) e = go (begins_gap cells) (title_parts (gap_rest cells)) refl e
  where
    There : TitleParts → Type 0
    There u = Takes cells p u.rest u.closer.after

    there : (u : TitleParts) → title_parts (gap_rest cells) ≡ Some u → There u
    there u k =
        takes-then cells p _ _ _ _ (gap-takes cells p) (title-takes (gap_end cells p) (gap_rest cells) u k)

    by : (u : TitleParts) (x : Bool) → title_parts (gap_rest cells) ≡ Some u → cond x (Some u) None ≡ Some t → There t
    by u true k e = let same : u ≡ t = cc in subst There same (there u k)
    by u false k e = let none : (let o : Option TitleParts = None in o) ≡ Some t = e in cc

    go : (x : Bool) (o : Option TitleParts) → title_parts (gap_rest cells) ≡ o → cond x (lone o) None ≡ Some t → There t
    go true None k e = let none : (let o : Option TitleParts = None in o) ≡ Some t = e in cc
    go true (Some u) k e = by u (ends_after u.rest) k e
    go false o k e = let none : (let o : Option TitleParts = None in o) ≡ Some t = e in cc

-- The whole.

-- a definition takes some cells, and the line ends after it
pub record DefinitionTakes (d : DefinitionParts) (cells : List Cell) (p : Point) : Type 0 where
  pub takes : Takes cells p (definition_rest d) (definition_end d)
  pub fewer : length (definition_rest d) < length cells
  pub ends : ends_line (first_seen (definition_rest d)) ≡ true

-- by the destination
with-takes : (cells front : List Cell) (p : Point) (label : LabelParts) (c : Cell) (cs : List Cell)
    (o : Option Destination) (d : DefinitionParts) →
    Takes cells p cs c.after → length cs < length cells → parts_with front label c cs o ≡ Some d →
    DefinitionTakes d cells p
with-takes cells front p label c cs None d t fewer e =
    let none : (let o : Option DefinitionParts = None in o) ≡ Some d = e in cc
with-takes cells front p label c cs (Some destination) d t fewer e = go (ends_after (parts_rest all)) refl e
  where
    all : DefinitionParts
    all = record {
      cells = front;
      label = label;
      colon = c;
      more = cs;
      destination = destination;
      title = title_following (drop (destination_size (begins_literal (gap_rest cs)) destination.text) (gap_rest cs));
    }

    takes : Takes cs c.after (definition_rest all) (definition_end all)
    takes =
        takes-then cs c.after (gap_rest cs) (destination_begin all) _ _ (gap-takes cs c.after)
        (takes-then (gap_rest cs) (destination_begin all) (destination_rest all) (destination_end all) _ _
        (some-takes (destination_size (begins_literal (gap_rest cs)) destination.text) (gap_rest cs)
        (destination_begin all))
        (takes-then (destination_rest all) (destination_end all) (parts_rest all) (parts_end all) _ _
        (titled-takes (destination_rest all) (destination_end all) all.title refl)
        (white-takes any_size (parts_rest all) (parts_end all))))

    ends : ends_after (parts_rest all) ≡ true → DefinitionTakes all cells p
    ends is =
        let few = takes-fewer cs c.after (definition_rest all) (definition_end all) takes in
        record {
          takes = takes-then cells p cs c.after (definition_rest all) (definition_end all) t takes;
          fewer = omega (arith, fewer, few);
          ends = is;
        }

    go : (x : Bool) → ends_after (parts_rest all) ≡ x → cond x (Some all) None ≡ Some d → DefinitionTakes d cells p
    go true is e =
        let same : all ≡ d = cc in subst (λ (x : DefinitionParts). DefinitionTakes x cells p) same (ends is)
    go false is e = let none : (let o : Option DefinitionParts = None in o) ≡ Some d = e in cc

-- by what follows the label
following-takes : (cells front : List Cell) (p : Point) (label : LabelParts) (left : List Cell) (q : Point)
    (d : DefinitionParts) →
    Takes cells p left q → parts_after front label left ≡ Some d → DefinitionTakes d cells p
following-takes cells front p label [] q d t e =
    let none : (let o : Option DefinitionParts = None in o) ≡ Some d = e in cc
following-takes cells front p label (c ∷ cs) q d t e = go (nat_eq c.byte colon) e
  where
    go : (x : Bool) →
        cond x (parts_with front label c cs (found.destination_at (line_bytes (gap_rest cs)))) None ≡ Some d →
        DefinitionTakes d cells p
    go true e =
        let few = takes-fewer cells p (c ∷ cs) q t in
        with-takes cells front p label c cs (found.destination_at (line_bytes (gap_rest cs))) d
        (takes-then cells p (c ∷ cs) q cs c.after t (takes-cell c cs q)) (omega (arith, few)) e
    go false e = let none : (let o : Option DefinitionParts = None in o) ≡ Some d = e in cc

-- A definition that some cells begin with takes some of them.
pub definition-takes : (cells : List Cell) (p : Point) (d : DefinitionParts) → definition_parts cells ≡ Some d →
    DefinitionTakes d cells p
unfolding definition_parts
definition-takes cells p d e = go (label_parts (white_rest any_size cells)) refl e
  where
    go : (o : Option LabelParts) → label_parts (white_rest any_size cells) ≡ o → parts_labelled cells o ≡ Some d →
        DefinitionTakes d cells p
    go None k e = let none : (let o : Option DefinitionParts = None in o) ≡ Some d = e in cc
    go (Some label) k e =
        following-takes cells cells p label label.rest label.closer.after d
        (takes-then cells p _ _ _ _ (white-takes any_size cells p)
        (label-takes (white_end any_size cells p) (white_rest any_size cells) label k))
        e
