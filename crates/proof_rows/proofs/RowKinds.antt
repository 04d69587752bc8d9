-- What a line is by its cells, it is by its rest, whichever leaves there are; and what flow adds for it is said by its
-- bytes.
use Rattle.std.proofs.Common.{◌≡◌, ℕ, ◌^◌, ◌<◌, Bool, cond, List, ◌++◌, length, Option, sym, ap, ap₂, ◌∙◌, arith, refl}
use Rattle.md_engine.specs.declared.configuration.ParseOptions.{ParseOptions}
use Rattle.md_engine.specs.declared.event.Point.{Point}
use Rattle.md_engine.specs.declared.tokenizer.held_leaf.HeldLeaf.{HeldLeaf}
use Rattle.md_engine.specs.declared.tokenizer.Line.{Line}
use Rattle.md_engine.specs.Meaning.{Cell}
use Rattle.md_meaning.specs.Rest.{Rest}
use Rattle.md_link_definitions.specs.OpenText.{text_following}
use Rattle.md_events.proofs.FeedLines.{Stops}
use Rattle.md_events.proofs.RestCells.{RestAt, rest_cells}
use Rattle.md_meaning.proofs.TextsLemmas.{NoEnding}
use Rattle.proof_frame.specs.RestLine.{rest_line}
use Rattle.proof_frame.specs.LeafName.{LeafName}
use Rattle.md_registry.specs.Registry.{asked_first, leaf, trials}
use Rattle.proof_frame.specs.Row.{BlankRow, LeafRow, RowKind, TextRow, blank_line}
use Rattle.proof_rows.specs.Rows.{inside_of, kind_of, leaf_following, line_following, line_kind, row_kind}
use Rattle.proof_rows.proofs.KindLemmas.{first-agrees, inside-agrees, kind-blank, kind-starts}
use Rattle.md_registry.proofs.Registry.{laws}
use Rattle.proof_frame.proofs.RestRows.{rest-blank, rest-blank_events}
use Rattle.proof_frame.proofs.TextAfter.{whole-rest}

-- what a line is by its cells, it is by its rest
pub kind-rest : (options : ParseOptions) (on : HeldLeaf) (said : Line) (text following : List ℕ) (r : Rest) (p : Point)
    (stop : List Cell) →
    RestAt text following r p →
    NoEnding r.bytes → Stops stop → length (rest_cells said r p ++ stop) < 2 ^ 63 →
    row_kind options on (rest_cells said r p ++ stop) ≡ line_kind options on r
kind-rest options on said text following r p stop is none k short =
    let cells : List Cell = rest_cells said r p ++ stop in
    inside-agrees (λ (l : LeafName). (leaf l).takes options on cells) (λ (l : LeafName). (leaf l).starts options on r)
    (λ l. (laws l).fits options on said text following r p stop is none k short) (asked_first on) _ _
    (ap₂ (λ (t : Bool) (found : Option LeafName). cond t BlankRow (kind_of found))
    (rest-blank said r p stop none k (let column = is.column in omega (arith, column)) is.cut)
    (first-agrees (λ (l : LeafName). (leaf l).takes options on cells) (λ (l : LeafName). (leaf l).starts options on r)
    (λ l. (laws l).fits options on said text following r p stop is none k short) trials))

-- what flow adds for a blank line
pub blank-inside : (options : ParseOptions) (on : HeldLeaf) (said : Line) (text following : List ℕ)
    (r : Rest) (p : Point)
    (stop : List Cell) (kind : RowKind) →
    RestAt text following r p → NoEnding r.bytes → Stops stop → kind ≡ line_kind options on r → kind ≡ BlankRow →
    inside_of options on (rest_cells said r p ++ stop) p kind ≡ blank_line (rest_line r) p
blank-inside options on said text following r p stop kind is none k same e =
    ap (inside_of options on (rest_cells said r p ++ stop) p) e
    ∙ rest-blank_events said r p stop (kind-blank options on r (sym same ∙ e)) none k
    (let column = is.column in omega (arith, column)) is.cut

-- and for a leaf
pub leaf-inside : (options : ParseOptions) (on : HeldLeaf) (said : Line) (text following : List ℕ)
    (r : Rest) (p : Point)
    (stop : List Cell) (kind : RowKind) →
    RestAt text following r p → NoEnding r.bytes → Stops stop → length (rest_cells said r p ++ stop) < 2 ^ 63 →
    kind ≡ line_kind options on r →
    (l : LeafName) → kind ≡ LeafRow l →
    inside_of options on (rest_cells said r p ++ stop) p kind ≡ (leaf l).added options on (rest_line r) p
leaf-inside options on said text following r p stop kind is none k short same l e =
    ap (inside_of options on (rest_cells said r p ++ stop) p) e
    ∙ (laws l).adds_is options on said text following r p stop is none k short
    (kind-starts options on r l (sym same ∙ e))

-- what is open after a line
pub following-rest : (options : ParseOptions) (on : HeldLeaf) (said : Line) (text following : List ℕ)
    (r : Rest) (p : Point)
    (stop : List Cell) (kind : RowKind) →
    RestAt text following r p → NoEnding r.bytes → Stops stop → length (rest_cells said r p ++ stop) < 2 ^ 63 →
    kind ≡ line_kind options on r →
    leaf_following options on (rest_cells said r p ++ stop) p kind ≡ line_following options on r kind
following-rest options on said text following r p stop BlankRow is none k short same = refl
following-rest options on said text following r p stop (LeafRow l) is none k short same =
    (laws l).keeps_is options on said text following r p stop is none k short (kind-starts options on r l (sym same))
following-rest options on said text following r p stop TextRow is none k short same =
    ap (text_following on) (whole-rest said r p stop none is.cut is.column k)
