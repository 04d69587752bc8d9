-- What is known of what is on a line of code, and on a blank line where code is open, inside of the code.
use Rattle.std.proofs.Common.{◌≡◌, ℕ, true, false, List, [], ◌∷◌, ◌++◌, refl, sym, subst}
use Rattle.std.specs.Prelude.{nat_le}
use Rattle.md_engine.specs.declared.event.Event.{Event}
use Rattle.md_engine.specs.declared.event.Name.TheVariants as n
use Rattle.md_engine.specs.declared.event.Point.{Point}
use Rattle.md_meaning.specs.Leaves.{code_line}
use Rattle.md_meaning.specs.Rest.{Rest, indent, is_blank, lose}
use Rattle.md_meaning.specs.Tree.{Line}
use Rattle.md_outline.specs.LinesAllowed.{AtLine, Site}
use Rattle.md_events.specs.Events.Grammar.{Expression}
use Rattle.md_events.specs.Events.Nested.{pair}
use Rattle.md_events.specs.Events.Spelled.{CodeLeaf, OfCode, OpenLeaf, empty_line, fresh}
use Rattle.md_events.proofs.GrammarLemmas.{Leads}
use Rattle.proof_frame.specs.RestLine.{rest_line}
use Rattle.proof_literal_laws.specs.Leaf.CodeIndented.{code_parts}
use Rattle.proof_frame.specs.LineColumns.{past_columns}
use Rattle.proof_literal_laws.proofs.CodeIndented.Cells.{code-parts}
use Rattle.proof_literal_laws.proofs.CodeIndented.Grammar.{following_line, code_begun, first-leads, in_line, line-leads}
use Rattle.proof_literal_laws.proofs.CodeIndented.Grammar.{line_left}
use Rattle.proof_literal_laws.proofs.CodeIndented.Reads.{parts-read}
use Rattle.proof_literal_laws.proofs.IndentRemoved.Sites.{records_rest, line_site}
use Rattle.proof_literal_laws.proofs.IndentRemoved.Facts.{IsLineName, line-stretch, lost-facts}
use Rattle.proof_frame.proofs.IndentRemoved.Places.{FurtherAt}
use Rattle.proof_frame.proofs.LeafLines.Inside.{InsideFacts}
use Rattle.proof_frame.proofs.PartsFacts.{ReadsLeaf}
use Rattle.md_containers.specs.ItemsAllowed.{IsPart}
use Rattle.proof_frame.proofs.Stretch.{Stretch}
use Rattle.proof_frame.proofs.ChunkFacts.{in-line}

-- The name of its chunk.
abbrev pub code_chunk : IsLineName n.CodeFlowChunk
code_chunk = record { inside = refl; recorded = refl; cut = refl; over = in-line; sits = λ bytes p q ys h. h }

-- It is a stretch.
pub parts-stretch : (bytes : List ℕ) (r : Rest) (p q : Point) → FurtherAt bytes r p q →
    Stretch IsPart bytes p q (code_parts r p q) (code_parts r p q)
parts-stretch bytes r p q is = line-stretch bytes n.CodeFlowChunk 4 r p q code_chunk is

-- An outline is here in the code after it.
abbrev pub code_site : Rest → Site
code_site r = line_site OfCode (records_rest (rest_line (lose 4 r)))

-- All of it, before which this is left of the grammar, and that after it; it is read from this leaf to that.
parts-facts : (bytes : List ℕ) (r : Rest) (p q : Point) (x left : Expression) (from to : OpenLeaf) →
    FurtherAt bytes r p q → ((text : Expression) → Leads text (x ∷ []) (left ∷ []) (code_parts r p q)) →
    ReadsLeaf bytes from to (code_parts r p q) →
    InsideFacts bytes p q x left from to (AtLine OfCode) (code_site r) (code_parts r p q) (code_parts r p q)
parts-facts bytes r p q x left from to is leads reads =
    lost-facts bytes n.CodeFlowChunk OfCode 4 r p q x left from to code_chunk is leads reads

-- A further line, or a blank one: it is one line more.
pub line-facts : (bytes : List ℕ) (r : Rest) (p q : Point) (before : List Line) → FurtherAt bytes r p q →
    InsideFacts bytes p q in_line (line_left r) (CodeLeaf (before ++ empty_line ∷ []))
    (CodeLeaf (before ++ code_line r ∷ [])) (AtLine OfCode) (code_site r) (code_parts r p q) (code_parts r p q)
line-facts bytes r p q before is =
    parts-facts bytes r p q in_line (line_left r) (CodeLeaf (before ++ empty_line ∷ []))
    (CodeLeaf (before ++ code_line r ∷ [])) is (λ text. line-leads text r p q) (parts-read bytes r p q before is)

-- The first line has its four columns, and a chunk after them.
abbrev pub first_parts : Rest → Point → Point → List Event
first_parts r p q = pair n.SpaceOrTab p (past_columns 4 r p) ++ pair n.CodeFlowChunk (past_columns 4 r p) q

pub first-facts : (bytes : List ℕ) (r : Rest) (p q : Point) → FurtherAt bytes r p q →
    nat_le 4 (indent r) ≡ true → is_blank r.bytes ≡ false →
    InsideFacts bytes p q code_begun following_line (fresh OfCode) (CodeLeaf (code_line r ∷ [])) (AtLine OfCode)
    (code_site r) (first_parts r p q) (first_parts r p q)
first-facts bytes r p q is indented dark =
    let same = code-parts r p q indented dark in
    subst
    (λ (es : List Event).
    InsideFacts bytes p q code_begun following_line (fresh OfCode) (CodeLeaf (code_line r ∷ [])) (AtLine OfCode)
    (code_site r) es es)
    same
    (parts-facts bytes r p q code_begun following_line (fresh OfCode) (CodeLeaf (code_line r ∷ [])) is
    (λ text.
    subst (λ (es : List Event). Leads text (code_begun ∷ []) (following_line ∷ []) es) (sym same)
    (first-leads text p (past_columns 4 r p) q))
    (parts-read bytes r p q [] is))
