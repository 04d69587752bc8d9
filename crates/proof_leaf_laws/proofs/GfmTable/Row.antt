-- A row of a table: what is known of its events, as they are read and once its texts are.
use Rattle.std.proofs.Common.{◌≡◌, ℕ, List, [], ◌∷◌, ◌++◌, refl, sym, ap, ◌∙◌, subst}
use Rattle.std.specs.Prelude.{Option, Some}
use Rattle.md_engine.specs.declared.event.Event.{Event}
use Rattle.md_engine.specs.declared.event.Name.TheVariants as n
use Rattle.md_engine.specs.declared.event.Point.{Point}
use Rattle.md_meaning.specs.Rest.{trim_start}
use Rattle.md_meaning.specs.Table.{row_cells}
use Rattle.md_outline.specs.LinesAllowed.{InTable}
use Rattle.md_outline.specs.TablePlaces.{AtHead, AfterRow, BodyRow, HeadRow, Row, TablePlace, after_row}
use Rattle.md_outline.proofs.TablesPass.{PassesIn, passes-body_row, passes-head}
use Rattle.md_events.specs.Events.Grammar.{Expression, following, plain_text, unread_text}
use Rattle.md_events.specs.Events.Nested.{around}
use Rattle.md_events.specs.Events.Places.{past_text}
use Rattle.md_events.specs.Events.Spelled.{OpenLeaf, TableLeaf, Text as OpenText}
use Rattle.md_events.proofs.EndingsLemmas.{AreOthers, stays-others}
use Rattle.md_events.proofs.GrammarLemmas.{leads-around}
use Rattle.md_tables.specs.RowCells.{Cells, Divides, Ends, Shut, line_cells, read_text, row_events, text_part}
use Rattle.md_tables.specs.RowCells as cells
use Rattle.md_tables.proofs.RowRead.{row-read}
use Rattle.proof_frame.proofs.LineWalk.{At}
use Rattle.proof_leaf_laws.proofs.GfmTable.RowAt.{RowAt, row-later, row-whole}
use Rattle.proof_leaf_laws.proofs.GfmTable.RowCells.{EachFits, IsCellKind, row-facts}
use Rattle.proof_leaf_laws.proofs.GfmTable.RowParts.{RowFacts, row-around, row-none, row-text}
use Rattle.proof_leaf_laws.proofs.GfmTable.RowSites.{row-passes}
use Rattle.proof_leaf_laws.proofs.GfmTable.RowWords.{cell-name, read-says, row-word, text-word, unread-says}
use Rattle.proof_frame.proofs.LeafLines.Inside.{InsideFacts}
use Rattle.proof_frame.proofs.PartsFacts.{ReadsLeaf}

-- where in a table its head row may begin, and where a further row
abbrev pub front_of : Row → TablePlace
front_of HeadRow = AtHead
front_of BodyRow = AfterRow

-- What is asked of the bytes of a cell: nothing.
abbrev AnyText : List ℕ → Type 0
AnyText xs = Unit {0}

any-fits : (cells : Cells) → EachFits AnyText cells
any-fits (Ends cell) = tt
any-fits (Shut cell white) = tt
any-fits (Divides cell cells) = (tt, any-fits cells)

text-kind : (bytes : List ℕ) →
    IsCellKind bytes n.GfmTableCell (text_part cells.unread_text) (text_part (read_text bytes)) AnyText
text-kind bytes = record {
  group = record { part = tt; other = refl; no_part = refl; still = tt; known = refl; untold = refl };
  held = held;
}
  where
    held : (xs rest : List ℕ) (p : Point) → At bytes xs p rest → AnyText xs →
        RowFacts bytes p (past_text xs p) (text_part cells.unread_text xs p) (text_part (read_text bytes) xs p)
    held [] rest p at fits = row-none bytes p
    held (b ∷ bs) rest p at fits = row-text bytes b bs rest p at

-- A row.
whole-row : (bytes line rest : List ℕ) (p : Point) → RowAt bytes line rest p →
    RowFacts bytes p (past_text line p)
    (around n.GfmTableRow p (past_text line p) (row_events cells.unread_text line p))
    (around n.GfmTableRow p (past_text line p) (row_events (read_text bytes) line p))
whole-row bytes line rest p at =
    row-around n.GfmTableRow
    (record { part = tt; other = refl; no_part = refl; still = tt; known = refl; untold = refl })
    (row-later line p at.some)
    (row-facts bytes n.GfmTableCell (text_part cells.unread_text) (text_part (read_text bytes)) AnyText
    (text-kind bytes)
    line rest p at (any-fits (line_cells (trim_start line))))

row-lines : (bytes line rest : List ℕ) (p q : Point) (row : Row) → RowAt bytes line rest p →
    PassesIn bytes (front_of row) (after_row row) (around n.GfmTableRow p q (row_events (read_text bytes) line p))
row-lines bytes line rest p q HeadRow at =
    passes-head bytes n.GfmTableRow p q (row_events (read_text bytes) line p) refl
    (row-passes bytes line rest p HeadRow at)
row-lines bytes line rest p q BodyRow at =
    passes-body_row bytes n.GfmTableRow p q (row_events (read_text bytes) line p) refl
    (row-passes bytes line rest p BodyRow at)

-- It gives the open table its cells.
pub row-inside : (bytes line rest : List ℕ) (p q : Point) (row : Row) (x : Expression) (delimiter : List ℕ)
    (rows : List (List (List ℕ))) →
    RowAt bytes line rest p → q ≡ past_text line p →
    InsideFacts bytes p q x (following n.GfmTableRow x) (TableLeaf (record { delimiter = delimiter; rows = rows }))
    (TableLeaf (record { delimiter = delimiter; rows = rows ++ row_cells line ∷ [] })) (InTable (front_of row))
    (InTable (after_row row)) (around n.GfmTableRow p q (row_events cells.unread_text line p))
    (around n.GfmTableRow p q (row_events (read_text bytes) line p))
row-inside bytes line rest p q row x delimiter rows at end =
    subst
    (λ (e : Point).
    InsideFacts bytes p e x (following n.GfmTableRow x) from to (InTable (front_of row)) (InTable (after_row row))
    (around n.GfmTableRow p e unread) (around n.GfmTableRow p e done)) (sym end)
    (record {
      parts = record {
        stretch = facts.stretch;
        unread_word =
            leads-around unread_text x n.GfmTableRow p (past_text line p) unread
            (row-word unread_text n.GfmTableCell (text_part cells.unread_text) AnyText cell-name
            (text-word unread_text cells.unread_text unread-says) line p (any-fits (line_cells (trim_start line))));
        word =
            leads-around plain_text x n.GfmTableRow p (past_text line p) done
            (row-word plain_text n.GfmTableCell (text_part (read_text bytes)) AnyText cell-name
            (text-word plain_text (read_text bytes) (read-says bytes)) line p
            (any-fits (line_cells (trim_start line))));
        unread_stays = stays-others (around n.GfmTableRow p (past_text line p) unread) facts.unread_others;
        stays = stays-others (around n.GfmTableRow p (past_text line p) done) facts.others;
        reads = reads;
      };
      plain =
          λ first. record { known = facts.known; lines = row-lines bytes line rest p (past_text line p) row at };
    })
  where
    unread : List Event
    unread = row_events cells.unread_text line p

    done : List Event
    done = row_events (read_text bytes) line p

    from : OpenLeaf
    from = TableLeaf (record { delimiter = delimiter; rows = rows })

    to : OpenLeaf
    to = TableLeaf (record { delimiter = delimiter; rows = rows ++ row_cells line ∷ [] })

    facts : RowFacts bytes p (past_text line p)
        (around n.GfmTableRow p (past_text line p) (row_events cells.unread_text line p))
        (around n.GfmTableRow p (past_text line p) (row_events (read_text bytes) line p))
    facts = whole-row bytes line rest p at

    reads : ReadsLeaf bytes from to (around n.GfmTableRow p (past_text line p) done)
    reads s none opened =
        row-read bytes s delimiter rows line rest p (past_text line p) at.valid (row-whole line p at.cut at.some) none
        opened
        ∙ ap (λ (t : Option OpenText). record s { leaf = Some to; text = t }) (sym none)

-- no ending is in it, and no begin or end of a leaf
pub row-others : (bytes line rest : List ℕ) (p q : Point) → RowAt bytes line rest p → q ≡ past_text line p →
    AreOthers (around n.GfmTableRow p q (row_events cells.unread_text line p)) ×
    AreOthers (around n.GfmTableRow p q (row_events (read_text bytes) line p))
row-others bytes line rest p q at end =
    let facts = whole-row bytes line rest p at in
    subst
    (λ (e : Point).
    AreOthers (around n.GfmTableRow p e (row_events cells.unread_text line p)) ×
    AreOthers (around n.GfmTableRow p e (row_events (read_text bytes) line p))) (sym end)
    (facts.unread_others, facts.others)
