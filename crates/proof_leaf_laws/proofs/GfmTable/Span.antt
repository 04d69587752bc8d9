-- A line of a table as a line of a leaf of several: it continues the text or the table that it meets, and so begins
-- none.
use Rattle.std.proofs.Common.{◌≡◌, ℕ, true, false, List, [], ◌∷◌, ◌++◌, refl, sym, ap, subst, inl, append_assoc}
use Rattle.md_engine.specs.declared.configuration.ParseOptions.{ParseOptions}
use Rattle.md_engine.specs.declared.event.Event.{Event}
use Rattle.md_engine.specs.declared.event.Name.TheVariants as n
use Rattle.md_engine.specs.declared.event.Point.{Point}
use Rattle.md_engine.specs.declared.tokenizer.held_leaf.HeldLeaf.{HeldLeaf}
use Rattle.md_engine.specs.declared.tokenizer.held_leaf.HeldLeaf.TheVariants as held_leaf
use Rattle.md_meaning.specs.Rest.{Rest}
use Rattle.md_meaning.specs.Tree.{Paragraph}
use Rattle.md_leaves.specs.Further.{further_link}
use Rattle.md_leaves.specs.Spanned.{has_lines}
use Rattle.md_leaves.proofs.SpannedLines.{IsFurther, NoLines}
use Rattle.md_events.specs.Events.Nested.{enter, enter_link, exit}
use Rattle.md_events.specs.Events.Places.{past_text}
use Rattle.md_events.specs.Events.Spelled.{role}
use Rattle.md_tables.specs.DelimiterRule as delimiter
use Rattle.md_tables.specs.GfmTableLine.{delimiter_runs, row_runs}
use Rattle.md_tables.specs.RowRule as row
use Rattle.proof_frame.specs.RestLine.{rest_line}
use Rattle.proof_leaf_laws.specs.Leaf.GfmTable.{table_leaf}
use Rattle.proof_frame.proofs.EachEvent.{Each, each-append}
use Rattle.proof_leaf_laws.proofs.GfmTable.Each.{OfRow, delimiter-bytes, row-bytes}
use Rattle.proof_frame.proofs.SpanLaws.{IsNone, IsSpanned, SpanLaws}

-- It continues what it meets wherever it starts.
pub table-begins : (options : ParseOptions) (on : HeldLeaf) (r : Rest) → table_leaf.starts options on r ≡ true →
    table_leaf.further on ≡ false → ⊥
table-begins options (held_leaf.Text text) r starts begins = cc
table-begins options held_leaf.Table r starts begins = cc
table-begins options _ r starts begins = cc

-- No line of a leaf of several begins inside of it.

abbrev pub IsNoLine : Event → Type 0
IsNoLine e = has_lines (role e.name) ≡ false

pub of-no_line : OfRow IsNoLine
of-no_line = record {
  word = λ q. refl;
  word_ends = λ q. refl;
  row = (λ q. refl, λ q. refl);
  delimiter_row = (λ q. refl, λ q. refl);
  divider = (λ q. refl, λ q. refl);
  marker = (λ q. refl, λ q. refl);
  filler = (λ q. refl, λ q. refl);
  space = (λ q. refl, λ q. refl);
}

pub each-no_lines : (es : List Event) → Each IsNoLine es → NoLines es
each-no_lines [] h = tt
each-no_lines (e ∷ es) h = (h.0, each-no_lines es h.1)

-- The line begins a further line, and ends it.
further-begins : (p : Point) → IsFurther (enter_link n.GfmTable p further_link)
further-begins p = record { kind = refl; lines = refl; link = refl }

by-row : (open_row close_row : Event) (runs : List Event) (p q : Point) → IsNoLine open_row → IsNoLine close_row →
    Each IsNoLine runs →
    IsSpanned IsNone IsFurther
    (enter_link n.GfmTable p further_link ∷ open_row ∷ runs ++ close_row ∷ exit n.GfmTable q ∷ [])
by-row open_row close_row runs p q o c h = record {
  lead = [];
  begin = enter_link n.GfmTable p further_link;
  inside = open_row ∷ runs ++ close_row ∷ [];
  end = exit n.GfmTable q;
  is =
      ap (λ (l : List Event). enter_link n.GfmTable p further_link ∷ open_row ∷ l)
      (sym (append_assoc runs (close_row ∷ []) (exit n.GfmTable q ∷ [])));
  lead_plain = refl;
  begins = further-begins p;
  inside_plain = (o, each-no_lines (runs ++ close_row ∷ []) (each-append IsNoLine runs (close_row ∷ []) h (c, tt)));
  ends = record { kind = refl; lines = refl };
}

pub line-spanned : (on : HeldLeaf) (options : ParseOptions) (line : List ℕ) (p : Point) →
    IsSpanned IsNone IsFurther (table_leaf.added options on line p)
line-spanned held_leaf.Table options line p =
    by-row (enter n.GfmTableRow p) (exit n.GfmTableRow (past_text line p)) (row_runs row.Apart line p) p
    (past_text line p) refl refl (row-bytes IsNoLine of-no_line row.Apart line p)
line-spanned _ options line p =
    by-row (enter n.GfmTableDelimiterRow p) (exit n.GfmTableDelimiterRow (past_text line p))
    (delimiter_runs delimiter.Apart line p) p (past_text line p) refl refl
    (delimiter-bytes IsNoLine of-no_line delimiter.Apart line p)

-- So of its lines there is nothing to say but that.
pub table-span : SpanLaws table_leaf table_leaf
table-span = record {
  first_spanned =
      λ options bytes row is begins. absurd (table-begins options row.on is.rest is.starts begins);
  further_spanned =
      λ options bytes row is further.
      inl (subst (IsSpanned IsNone IsFurther) (sym is.inside)
      (line-spanned row.on options (rest_line is.rest) row.first));
  block = λ options bytes row rows is are. Paragraph [];
  facts = λ options bytes row rows is begins are. absurd (table-begins options row.on is.rest is.starts begins);
  shuts = λ options bytes row rows is begins are bs. absurd (table-begins options row.on is.rest is.starts begins);
}
