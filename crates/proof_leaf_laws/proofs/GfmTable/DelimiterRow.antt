-- The delimiter row of a table: what is known of its events.
use Rattle.std.proofs.Common.{◌≡◌, ℕ, false, List, [], ◌∷◌, refl, sym, ap, ◌∙◌, subst, append_assoc}
use Rattle.std.specs.Prelude.{Option, Some}
use Rattle.md_engine.specs.declared.event.Event.{Event}
use Rattle.md_engine.specs.declared.event.Name.TheVariants as n
use Rattle.md_engine.specs.declared.event.Point.{Point}
use Rattle.md_meaning.specs.Rest.{trim}
use Rattle.md_outline.specs.LinesAllowed.{InTable}
use Rattle.md_outline.specs.Outlined.{OpenTextSpan, are_parted}
use Rattle.md_outline.specs.TablePlaces.{AfterHead, AfterRow}
use Rattle.md_outline.proofs.TablesPass.{passes-delimiter}
use Rattle.md_events.specs.Events.Grammar.{Expression, following, plain_text, unread_text}
use Rattle.md_events.specs.Events.Nested.{around, exit}
use Rattle.md_events.specs.Events.Places.{past_text}
use Rattle.md_events.specs.Events.Spelled.{IsQuiet, OpenLeaf, Role, TableLeaf, Text as OpenText, byte_at, role}
use Rattle.md_events.proofs.EndingsLemmas.{AreOthers, stays-others}
use Rattle.md_events.proofs.GrammarLemmas.{Leads, leads-around}
use Rattle.md_events.proofs.SpelledLemmas.{Quiet, QuietOrEnding, Roles}
use Rattle.md_tables.specs.DelimiterCells.{delimiter_events, value_part}
use Rattle.md_tables.proofs.DelimiterRead.{delimiter-quiet, delimiter-read}
use Rattle.proof_frame.proofs.ChunkFacts.{starts-tiled}
use Rattle.proof_frame.proofs.OtherNames.{others-around}
use Rattle.proof_leaf_laws.proofs.GfmTable.RowAt.{RowAt, row-later, row-whole}
use Rattle.proof_leaf_laws.proofs.GfmTable.RowCells.{row-facts}
use Rattle.proof_leaf_laws.proofs.GfmTable.RowParts.{RowFacts}
use Rattle.proof_leaf_laws.proofs.GfmTable.RowWords.{row-word}
use Rattle.proof_frame.proofs.PartedFacts.{PrefixesAtLineStart, passes}
use Rattle.proof_frame.proofs.PieceFacts.{Starts}
use Rattle.proof_frame.proofs.PlainFacts.{known-around, past-clear}
use Rattle.proof_frame.proofs.LeafLines.Inside.{InsideFacts}
use Rattle.proof_frame.proofs.PartsFacts.{ReadsLeaf}
use Rattle.proof_leaf_laws.proofs.GfmTable.DelimiterRowCells.{IsValue, delimiter-name, delimiter-words, value-kind}
use Rattle.proof_leaf_laws.proofs.GfmTable.DelimiterRowCells.{values-fit, AreDelimiters}
use Rattle.proof_frame.proofs.Stretch.{stretch-by}

-- what is in it
inner-facts : (bytes line rest : List ℕ) (p : Point) → RowAt bytes line rest p → AreDelimiters line →
    RowFacts bytes p (past_text line p) (delimiter_events line p) (delimiter_events line p)
inner-facts bytes line rest p at are =
    row-facts bytes n.GfmTableDelimiterCell value_part value_part IsValue (value-kind bytes) line rest p at
    (values-fit line are)

-- its text is not parted
delimiter-sits : (bytes : List ℕ) (p q : Point) (es : List Event) → Roles Quiet es →
    PrefixesAtLineStart bytes (around n.GfmTableDelimiterRow p q es)
delimiter-sits bytes p q es quiet ys h =
    let span : Option OpenTextSpan = Some (record { from = byte_at p; is_parted = false }) in
    ap (are_parted bytes span) (append_assoc es (exit n.GfmTableDelimiterRow q ∷ []) ys)
    ∙ passes bytes span es (exit n.GfmTableDelimiterRow q ∷ ys) (unended es quiet) ∙ h
  where
    one : (x : Role) → Quiet x → QuietOrEnding x
    one IsQuiet h = tt
    one _ h = absurd h

    unended : (es : List Event) → Roles Quiet es → Roles QuietOrEnding es
    unended [] h = tt
    unended (e ∷ es) h = (one (role e.name) h.0, unended es h.1)

delimiter-leads : (text x : Expression) (line : List ℕ) (p q : Point) → AreDelimiters line →
    Leads text (x ∷ []) (following n.GfmTableDelimiterRow x ∷ [])
    (around n.GfmTableDelimiterRow p q (delimiter_events line p))
delimiter-leads text x line p q are =
    leads-around text x n.GfmTableDelimiterRow p q (delimiter_events line p)
    (row-word text n.GfmTableDelimiterCell value_part IsValue delimiter-name (delimiter-words text) line p
    (values-fit line are))

-- It shows the open table its line, and nothing in it is read later.
pub delimiter-inside : (bytes line rest : List ℕ) (p q : Point) (x : Expression) (rows : List (List (List ℕ))) →
    RowAt bytes line rest p → AreDelimiters line → q ≡ past_text line p →
    InsideFacts bytes p q x (following n.GfmTableDelimiterRow x) (TableLeaf (record { delimiter = []; rows = rows }))
    (TableLeaf (record { delimiter = trim line; rows = rows })) (InTable AfterHead) (InTable AfterRow)
    (around n.GfmTableDelimiterRow p q (delimiter_events line p))
    (around n.GfmTableDelimiterRow p q (delimiter_events line p))
delimiter-inside bytes line rest p q x rows at are end =
    subst
    (λ (e : Point).
    InsideFacts bytes p e x (following n.GfmTableDelimiterRow x) from to (InTable AfterHead) (InTable AfterRow)
    (around n.GfmTableDelimiterRow p e es) (around n.GfmTableDelimiterRow p e es)) (sym end)
    (record {
      parts = record {
        stretch =
            stretch-by n.GfmTableDelimiterRow tt refl starts starts
            (delimiter-sits bytes p r es (delimiter-quiet line p)) facts.stretch;
        unread_word = delimiter-leads unread_text x line p r are;
        word = delimiter-leads plain_text x line p r are;
        unread_stays = stays-others (around n.GfmTableDelimiterRow p r es) others;
        stays = stays-others (around n.GfmTableDelimiterRow p r es) others;
        reads = reads;
      };
      plain = λ first. record {
        known =
            known-around bytes n.GfmTableDelimiterRow p r es refl first (past-clear bytes line p first) facts.known;
        lines = passes-delimiter bytes n.GfmTableDelimiterRow p r es refl (delimiter-quiet line p);
      };
    })
  where
    r : Point
    r = past_text line p

    es : List Event
    es = delimiter_events line p

    from : OpenLeaf
    from = TableLeaf (record { delimiter = []; rows = rows })

    to : OpenLeaf
    to = TableLeaf (record { delimiter = trim line; rows = rows })

    facts : RowFacts bytes p (past_text line p) (delimiter_events line p) (delimiter_events line p)
    facts = inner-facts bytes line rest p at are

    starts : Starts (delimiter_events line p)
    starts = starts-tiled p r es facts.covers (row-later line p at.some)

    others : AreOthers (around n.GfmTableDelimiterRow p (past_text line p) (delimiter_events line p))
    others = others-around n.GfmTableDelimiterRow p r es refl facts.others

    reads : ReadsLeaf bytes from to (around n.GfmTableDelimiterRow p (past_text line p) es)
    reads s none opened =
        delimiter-read bytes s rows line rest p at.valid (row-whole line p at.cut at.some) opened
        ∙ ap (λ (t : Option OpenText). record s { leaf = Some to; text = t }) (sym none)

-- no ending is in it, and no begin or end of a leaf
pub delimiter-others : (bytes line rest : List ℕ) (p q : Point) → RowAt bytes line rest p → AreDelimiters line →
    AreOthers (around n.GfmTableDelimiterRow p q (delimiter_events line p))
delimiter-others bytes line rest p q at are =
    others-around n.GfmTableDelimiterRow p q (delimiter_events line p) refl
    (inner-facts bytes line rest p at are).others
