-- A definition in the cells of lines has a form.
use Rattle.std.proofs.Common.{◌≡◌, ℕ, Bool, true, false, cond, nat_eq, List, [], ◌∷◌, ◌++◌, refl, sym}
use Rattle.std.proofs.Common.{Option, Some, None, subst, arith}
use Rattle.std.specs.Prelude.{option_map}
use Rattle.std.proofs.lemmas.Bool.{eqb-true}
use Rattle.md_meaning.specs.Ascii.{colon}
use Rattle.md_meaning.specs.Definition as found
use Rattle.md_meaning.specs.Definition.{Destination}
use Rattle.md_meaning.specs.Texts.{trim_further}
use Rattle.md_engine.specs.declared.event.Name.TheVariants as n
use Rattle.md_engine.specs.declared.event.Point.{Point}
use Rattle.md_engine.specs.Meaning.{Cell}
use Rattle.md_link_definitions.specs.CellLines.{cell_lines}
use Rattle.md_link_definitions.specs.DefinitionRule.{DefinitionParts, definition_end, definition_events}
use Rattle.md_link_definitions.specs.DefinitionRule.{definition_parts, definition_rest, destination_begin}
use Rattle.md_link_definitions.specs.DefinitionRule.{destination_end, destination_rest, ends_after, is_literal}
use Rattle.md_link_definitions.specs.DefinitionRule.{label_begin, parts_after, parts_end, parts_labelled}
use Rattle.md_link_definitions.specs.DefinitionRule.{parts_rest, parts_with, title_following, titled_part}
use Rattle.md_link_definitions.specs.DestinationRule.{destination_left, destination_part}
use Rattle.md_link_definitions.specs.GapRule.{gap_part, gap_rest, white_part}
use Rattle.md_link_definitions.specs.LabelRule.{LabelParts, label_events, label_parts}
use Rattle.md_link_definitions.specs.WholeCells.{whole_cells}
use Rattle.md_link_definitions.proofs.DefinitionLines.{text_bytes}
use Rattle.md_events.specs.Ahead.{line_bytes, point_after, white_rest}
use Rattle.md_events.specs.Events.Inline.{pair_unless_empty}
use Rattle.md_events.specs.Events.Nested.{enter, exit, pair}
use Rattle.md_events.specs.Spaces.{any_size}
use Rattle.proof_content_laws.proofs.Defined.Along.{Turn}
use Rattle.proof_content_laws.proofs.Defined.Form.{Form, IsByte, IsForm, Titled, form_unread, gap_events}
use Rattle.proof_content_laws.proofs.Defined.Form.{string_unread, strand_lines, strand_unread, target_by, target_text}
use Rattle.proof_content_laws.proofs.Defined.Form.{text_lines, title_by}
use Rattle.proof_content_laws.proofs.Defined.Gaps.{gap-of, white-of}
use Rattle.proof_content_laws.proofs.Defined.Marked.{LabelAre, label-are, label-of, labelled, tail-of, recorded_title}
use Rattle.proof_content_laws.proofs.Defined.Takes.{Takes, Walk, takes-around, takes-quiet, takes-then, walk-whole}
use Rattle.proof_content_laws.proofs.Defined.Targets.{byte-of, target-of}

-- What its parts are.
pub record DefinitionAre (cells : List Cell) (d : DefinitionParts) : Type 0 where
  pub cells_are : d.cells ≡ cells
  pub label : LabelAre (white_rest any_size d.cells) d.label
  pub rest : d.label.rest ≡ d.colon ∷ d.more
  pub colon_is : d.colon.byte ≡ colon
  pub destination : found.destination_at (line_bytes (gap_rest d.more)) ≡ Some d.destination
  pub title : title_following (destination_rest d) ≡ d.title
  pub ends : ends_after (parts_rest d) ≡ true

-- by the destination
are-with : (cells : List Cell) (label : LabelParts) (c : Cell) (cs : List Cell) (o : Option Destination)
    (d : DefinitionParts) → LabelAre (white_rest any_size cells) label → label.rest ≡ c ∷ cs → c.byte ≡ colon →
    found.destination_at (line_bytes (gap_rest cs)) ≡ o → parts_with cells label c cs o ≡ Some d →
    DefinitionAre cells d
are-with cells label c cs None d l r i k e = let bad : (let o : Option DefinitionParts = None in o) ≡ Some d = e in cc
are-with cells label c cs (Some destination) d l r i k e = go (ends_after (parts_rest all)) refl e
  where
    all : DefinitionParts
    all = record {
      cells = cells;
      label = label;
      colon = c;
      more = cs;
      destination = destination;
      title = title_following (destination_left destination (gap_rest cs));
    }

    go : (x : Bool) → ends_after (parts_rest all) ≡ x → cond x (Some all) None ≡ Some d → DefinitionAre cells d
    go true is e =
        let same : all ≡ d = cc in
        subst (DefinitionAre cells) same
        (record { cells_are = refl; label = l; rest = r; colon_is = i; destination = k; title = refl; ends = is })
    go false is e = let bad : (let o : Option DefinitionParts = None in o) ≡ Some d = e in cc

-- by what follows the label
are-following : (cells : List Cell) (label : LabelParts) (left : List Cell) (d : DefinitionParts) →
    LabelAre (white_rest any_size cells) label → label.rest ≡ left → parts_after cells label left ≡ Some d →
    DefinitionAre cells d
are-following cells label [] d l r e = let bad : (let o : Option DefinitionParts = None in o) ≡ Some d = e in cc
are-following cells label (c ∷ cs) d l r e = go (nat_eq c.byte colon) refl e
  where
    go : (x : Bool) → nat_eq c.byte colon ≡ x →
        cond x (parts_with cells label c cs (found.destination_at (line_bytes (gap_rest cs)))) None ≡ Some d →
        DefinitionAre cells d
    go true i e =
        are-with cells label c cs (found.destination_at (line_bytes (gap_rest cs))) d l r (eqb-true c.byte colon i)
        refl e
    go false i e = let bad : (let o : Option DefinitionParts = None in o) ≡ Some d = e in cc

pub definition-are : (cells : List Cell) (d : DefinitionParts) → definition_parts cells ≡ Some d →
    DefinitionAre cells d
unfolding definition_parts
definition-are cells d e = go (label_parts (white_rest any_size cells)) refl e
  where
    go : (o : Option LabelParts) → label_parts (white_rest any_size cells) ≡ o → parts_labelled cells o ≡ Some d →
        DefinitionAre cells d
    go None k e = let bad : (let o : Option DefinitionParts = None in o) ≡ Some d = e in cc
    go (Some label) k e =
        are-following cells label label.rest d (label-are (white_rest any_size cells) label k) refl e

-- Its form.
pub record DefinitionOf (bytes : List ℕ) (last p : Point) (turns : List Turn) (d : DefinitionParts) : Type 0 where
  pub form : Form
  pub left : List Turn
  pub takes : Takes bytes last p turns (definition_end d) (definition_rest d) left (definition_events d p)
      (form_unread form)
  pub is : IsForm bytes form (destination_begin d) (destination_end d)
  pub first : form.first ≡ p
  pub end : form.last ≡ definition_end d
  pub label_lines : cell_lines false (whole_cells d.label.opener.after d.label.text) ≡
      trim_further (strand_lines form.label)
  pub target_is : target_text form.target ≡ text_bytes d.destination (gap_rest d.more) (destination_begin d)
  pub title_lines : option_map (λ (t : Titled). text_lines t.text) form.title ≡ recorded_title d.title

definition-by : (bytes : List ℕ) (last p : Point) (turns : List Turn) (d : DefinitionParts) →
    DefinitionAre d.cells d → Walk bytes last p d.cells turns → DefinitionOf bytes last p turns d
definition-by bytes last p turns d are walk =
    let white = white-of bytes last p d.cells turns walk in
    let x = label_begin d p in
    let label = label-of bytes last x (white_rest any_size d.cells) d.label turns are.label white.takes.walk in
    let a = d.label.opener.after in
    let b = point_after d.label.text a in
    let c = d.label.closer.after in
    let colon_is = are.colon_is in
    let labels = subst
    (λ (l : List Cell).
    Takes bytes last x turns c l label.left (label_events d.label x) (labelled label.strand x a b c)) are.rest
    label.takes in
    let mark = byte-of bytes last c d.colon d.more label.left (rw colon_is refl) (rw colon_is refl) labels.walk in
    let marker = pair n.DefinitionMarker c d.colon.after in
    let marks = takes-quiet bytes last c label.left d.colon.after d.more label.left marker (refl, (refl, tt))
    mark.takes refl (omega arith) (mark.takes.index, (omega arith, tt)) in
    let gap = gap-of bytes last d.colon.after d.more label.left mark.takes.walk in
    let q = destination_begin d in
    let target = target-of bytes last q (gap_rest d.more) gap.left d.destination are.destination gap.takes.walk in
    let r = destination_end d in
    let tail = tail-of bytes last r (destination_rest d) gap.left d.title are.title target.takes.walk in
    let e = parts_end d in
    let space = white-of bytes last e (parts_rest d) tail.left tail.takes.walk in
    let z = definition_end d in
    let whole = walk-whole bytes last z (definition_rest d) tail.left space.takes.walk space.dark in
    let es1 = label_events d.label x in
    let fs1 = labelled label.strand x a b c in
    let es2 = gap_part d.more d.colon.after in
    let fs2 = gap_events gap.gap in
    let es3 = destination_part (is_literal d) d.destination.text (gap_rest d.more) q in
    let fs3 = target_by string_unread target.target in
    let es4 = titled_part d.title (destination_rest d) r in
    let fs4 = title_by strand_unread tail.title in
    let es5 = white_part (parts_rest d) e in
    let fs5 = pair_unless_empty n.SpaceOrTab e z in
    let one = takes-then bytes last x turns c (d.colon ∷ d.more) label.left es1 fs1 d.colon.after d.more label.left
    marker marker labels marks in
    let two = takes-then bytes last x turns d.colon.after d.more label.left (es1 ++ marker) (fs1 ++ marker) q
    (gap_rest d.more) gap.left es2 fs2 one gap.takes in
    let three = takes-then bytes last x turns q (gap_rest d.more) gap.left (es1 ++ marker ++ es2)
    (fs1 ++ marker ++ fs2) r (destination_rest d) gap.left es3 fs3 two target.takes in
    let four = takes-then bytes last x turns r (destination_rest d) gap.left (es1 ++ marker ++ es2 ++ es3)
    (fs1 ++ marker ++ fs2 ++ fs3) e (parts_rest d) tail.left es4 fs4 three tail.takes in
    let five = takes-then bytes last x turns e (parts_rest d) tail.left (es1 ++ marker ++ es2 ++ es3 ++ es4)
    (fs1 ++ marker ++ fs2 ++ fs3 ++ fs4) z (definition_rest d) tail.left es5 fs5 four space.takes in
    let taken = takes-around bytes last x turns z (definition_rest d) tail.left
    (es1 ++ marker ++ es2 ++ es3 ++ es4 ++ es5) (fs1 ++ marker ++ fs2 ++ fs3 ++ fs4 ++ fs5)
    (enter n.Definition x ∷ []) (exit n.Definition z ∷ []) (refl, tt) (refl, tt) five (omega arith) (omega arith, tt)
    (omega arith, λ same. whole) (omega arith, tt) in
    let form : Form = record {
      first = p;
      p = x;
      a = a;
      b = b;
      c = c;
      d = d.colon.after;
      e = e;
      last = z;
      label = label.strand;
      gap = gap.gap;
      target = target.target;
      title = tail.title;
    } in
    record {
      form = form;
      left = tail.left;
      takes =
          takes-then bytes last p turns x (white_rest any_size d.cells) turns (white_part d.cells p)
          (pair_unless_empty n.SpaceOrTab p x) z (definition_rest d) tail.left
          (enter n.Definition x ∷ (es1 ++ marker ++ es2 ++ es3 ++ es4 ++ es5) ++ exit n.Definition z ∷ [])
          (enter n.Definition x ∷ (fs1 ++ marker ++ fs2 ++ fs3 ++ fs4 ++ fs5) ++ exit n.Definition z ∷ [])
          white.takes taken;
      is = record {
        column = walk.valid.column;
        indent = white.is;
        opens = label.opens;
        label = label.is;
        closes = label.closes;
        colon = subst (λ (x : ℕ). IsByte bytes x c d.colon.after) colon_is mark.is;
        gap = gap.is;
        target = target.is;
        title = tail.is;
        white = space.is;
      };
      first = refl;
      end = refl;
      label_lines = label.lines;
      target_is = target.text;
      title_lines = tail.lines;
    }

pub definition-of : (bytes : List ℕ) (last p : Point) (cells : List Cell) (turns : List Turn) (d : DefinitionParts) →
    DefinitionAre cells d → Walk bytes last p cells turns → DefinitionOf bytes last p turns d
definition-of bytes last p cells turns d are walk =
    definition-by bytes last p turns d
    (subst (λ (l : List Cell). DefinitionAre l d) (sym are.cells_are) are)
    (subst (λ (l : List Cell). Walk bytes last p l turns) (sym are.cells_are) walk)
