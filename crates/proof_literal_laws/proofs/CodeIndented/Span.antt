-- The laws of indented code with all its lines, joined.
use Rattle.std.proofs.Common.{◌≡◌, ◌⊎◌, inl, inr, ℕ, Bool, true, false, cond, ◌||◌, ◌&&◌, not, List, [], ◌∷◌, ◌++◌}
use Rattle.std.proofs.Common.{refl, sym, ◌∙◌, ap, subst, subst₂}
use Rattle.std.specs.Prelude.{◌==◌, Some}
use Rattle.md_engine.specs.declared.configuration.ParseOptions.{ParseOptions}
use Rattle.md_engine.specs.declared.event.Event.{Event}
use Rattle.md_engine.specs.declared.event.Name.TheVariants as n
use Rattle.md_engine.specs.declared.event.Point.{Point}
use Rattle.md_meaning.specs.Leaves.{code_line}
use Rattle.md_meaning.specs.Rest.{Rest, is_blank}
use Rattle.md_meaning.specs.Tree.{Block, Code}
use Rattle.md_leaves.specs.declared.spans.Place.TheVariants.{Between}
use Rattle.md_leaves.proofs.SpannedLines.{IsBegin, IsFurther}
use Rattle.md_leaves.specs.Further.{further_link}
use Rattle.md_events.specs.Events.Nested.{enter, enter_link}
use Rattle.proof_literal_laws.specs.Leaf.CodeIndented.{code_further, code_leaf, code_parts, line_parts}
use Rattle.proof_frame.specs.Row.{Row, any_framed, is_blank_row, last_row, span_after, span_by}
use Rattle.proof_literal_laws.proofs.CodeIndented.Blank.{blank-blocks, blank-placed}
use Rattle.proof_literal_laws.proofs.CodeIndented.Cells.{code-rest}
use Rattle.proof_literal_laws.proofs.CodeIndented.Parts.{code-inside, code-is}
use Rattle.proof_literal_laws.proofs.CodeIndented.Rows.{InCode, as_line, begins, ends, last-in, line_in, lines_after}
use Rattle.proof_literal_laws.proofs.CodeIndented.Rows.{row-in, text-some}
use Rattle.proof_literal_laws.proofs.CodeIndented.Lines.{first-framed, lines-facts}
use Rattle.proof_literal_laws.proofs.CodeIndented.Split.{AreSplit, rows-split, split-shuts}
use Rattle.proof_frame.proofs.LeafLines.Rest.{row_unread}
use Rattle.proof_literal_laws.proofs.LeafRead.{facts-read}
use Rattle.proof_frame.proofs.LeafFacts.{LeafFacts}
use Rattle.proof_literal_laws.proofs.IndentRemoved.Parts.{inside-lines}
use Rattle.proof_frame.proofs.IndentRemoved.Places.{further-at}
use Rattle.proof_frame.proofs.LeafLines.Bare.{inner, outer, outer-last, span-split}
use Rattle.proof_frame.proofs.LeafLines.Following.{rows-following}
use Rattle.proof_frame.proofs.LeafLines.Framed.{framed_by, line-spanned}
use Rattle.proof_frame.proofs.SpanLaws.{AreAfter, IsBare, IsLineOf, IsNone, IsSpanned, SpanLaws}
use Rattle.proof_frame.proofs.SpannedFacts.{AreUnspanned}

-- Each line of code is a block by itself at first, from this begin to its end.

code-spanned : (Lead : List Event → Type 0) (Begins : Event → Type 0) (begin : Event) (r : Rest) (p q : Point)
    (es : List Event) →
    Lead [] → Begins begin → es ≡ line_parts begin r p q → IsSpanned Lead Begins es
code-spanned Lead Begins begin r p q es none is same =
    line-spanned Lead Begins n.CodeIndented begin q (code_parts r p q) es none is refl
    (inside-lines (code_parts r p q) (code-inside r p q)) same

first-spanned : (options : ParseOptions) (bytes : List ℕ) (row : Row) → IsLineOf options bytes code_leaf row →
    IsSpanned AreUnspanned IsBegin row.inside
first-spanned options bytes row is =
    let r = is.rest in
    code-spanned AreUnspanned IsBegin (enter n.CodeIndented row.first) r row.first row.end row.inside tt
    (record { kind = refl; lines = refl; link = refl })
    (is.inside ∙ code-is bytes r row.first row.end (further-at options bytes code_leaf row is))

-- a further one says that it continues the one before, and a blank one is bare
further-spanned : (bytes : List ℕ) (row : Row) → InCode bytes row →
    IsSpanned IsNone IsFurther row.inside ⊎ IsBare row.inside
further-spanned bytes row is =
    subst (λ (es : List Event). IsSpanned IsNone IsFurther es ⊎ IsBare es) (sym is.inside) (go (is_blank is.rest.bytes))
  where
    Either : List Event → Type 0
    Either es = IsSpanned IsNone IsFurther es ⊎ IsBare es

    go : (blank : Bool) →
        Either (cond blank (code_parts is.rest row.first row.end) (line_in is.rest row.first row.end))
    go true =
        inr
        (record {
          no_blocks = blank-blocks is.rest row.first row.end;
          between = blank-placed Between is.rest row.first row.end;
        })
    go false =
        inl
        (code-spanned IsNone IsFurther (enter_link n.CodeIndented row.first further_link) is.rest row.first row.end
        (line_in is.rest row.first row.end) refl (record { kind = refl; lines = refl; link = refl }) refl)

-- All lines.

abbrev ins : List Row → List Row
ins rows = inner row_unread rows

abbrev outs : List Row → List Row
outs rows = outer row_unread rows

-- the first has text, so they are in the code and after it
abbrev all-split : (options : ParseOptions) (bytes : List ℕ) (row : Row) (rows : List Row) →
    (is : IsLineOf options bytes code_leaf row) → (are : AreAfter options bytes code_further row rows) →
    AreSplit options bytes is.rest row rows (ins rows) (outs rows) are
all-split options bytes row rows is are =
    rows-split options bytes is.rest row rows are
    (ap (λ (x : Bool). not x || any_framed row_unread rows) (code-rest options row.on is.rest is.starts).dark)

abbrev all-block : (options : ParseOptions) (bytes : List ℕ) (row : Row) (rows : List Row) →
    IsLineOf options bytes code_leaf row → AreAfter options bytes code_further row rows → Block
all-block options bytes row rows is are =
    Code
    (code_line is.rest ∷ lines_after bytes is.rest row (ins rows) (all-split options bytes row rows is are).within)

-- the ending of the first is that of a line with text
first-ending : (options : ParseOptions) (bytes : List ℕ) (row : Row) → (is : IsLineOf options bytes code_leaf row) →
    is_blank_row row ≡ is_blank is.rest.bytes
first-ending options bytes row is =
    let dark = (code-rest options row.on is.rest is.starts).dark in
    is.ending ∙ is.empty
    ∙ ap (λ (x : Bool). x && (row.first.column == 1))
    (text-some bytes is.rest row (further-at options bytes code_leaf row is) dark)
    ∙ sym dark

-- the ending of the last has the name that it shows
last-ending : (options : ParseOptions) (bytes : List ℕ) (row : Row) (rows : List Row) →
    is_blank_row row ≡ row.empty → AreAfter options bytes code_further row rows →
    is_blank_row (last_row row rows) ≡ (last_row row rows).empty
last-ending options bytes row [] is are = is
last-ending options bytes row (next ∷ rows) is are = last-ending options bytes next rows are.6.ending are.7

-- their events: those of the lines in the code, and whitespace after it
all-joined : (options : ParseOptions) (bytes : List ℕ) (row : Row) (rows : List Row) →
    IsLineOf options bytes code_leaf row →
    span_by row_unread row rows ≡
    framed_by as_line row (ins rows) ++ span_after row_unread (last_row row (ins rows)) (outs rows)
all-joined options bytes row rows is =
    span-split begins ends row_unread row rows (first-framed options bytes row is)

all-facts : (options : ParseOptions) (bytes : List ℕ) (row : Row) (rows : List Row) →
    (is : IsLineOf options bytes code_leaf row) → (are : AreAfter options bytes code_further row rows) →
    LeafFacts bytes (Some (all-block options bytes row rows is are)) (not (last_row row rows).empty) row.first
    (last_row row rows).end (span_by row_unread row rows) (span_by row_unread row rows)
all-facts options bytes row rows is are =
    subst (λ (es : List Event). Facts (not (last_row row rows).empty) (last_row row rows).end es)
    (sym (all-joined options bytes row rows is))
    (subst₂ (λ (blank : Bool) (end : Point). Facts (not blank) end both)
    (ap is_blank_row last ∙ last-ending options bytes row rows is.ending are) (ap (λ (r : Row). r.end) last)
    (rows-following bytes (Some (all-block options bytes row rows is are)) row_unread row.first last_in
    (outs rows) lines
    lines at.0
    (subst (λ (blank : Bool). Facts (not blank) last_in.end lines) (sym at.1)
    (lines-facts options bytes row (ins rows) is split.within)) split.outside))
  where
    Facts : Bool → Point → List Event → Type 0
    Facts full end es = LeafFacts bytes (Some (all-block options bytes row rows is are)) full row.first end es es

    split : AreSplit options bytes is.rest row rows (ins rows) (outs rows) are
    split = all-split options bytes row rows is are

    last_in : Row
    last_in = last_row row (ins rows)

    lines : List Event
    lines = framed_by as_line row (ins rows)

    both : List Event
    both = framed_by as_line row (ins rows) ++ span_after row_unread (last_row row (ins rows)) (outs rows)

    last : last_row (last_row row (ins rows)) (outs rows) ≡ last_row row rows
    last = outer-last row_unread row rows

    at : ((last_row row (ins rows)).end.vs ≡ 0) × (is_blank_row (last_row row (ins rows)) ≡ false)
    at =
        last-in bytes is.rest row (ins rows) (further-at options bytes code_leaf row is)
        (first-ending options bytes row is) (all-split options bytes row rows is are).within

-- The laws.
pub code-span : SpanLaws code_leaf code_further
code-span = record {
  first_spanned = λ options bytes row is first. first-spanned options bytes row is;
  further_spanned = λ options bytes row is further. further-spanned bytes row (row-in options bytes row is);
  block = all-block;
  facts = λ options bytes row rows is first are. facts-read (all-facts options bytes row rows is are);
  shuts = λ options bytes row rows is first are bs.
      split-shuts options bytes is.rest row rows (ins rows) (outs rows) are
      (all-split options bytes row rows is are) bs;
}
