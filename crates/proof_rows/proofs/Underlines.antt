-- A line that continues text, and takes no line of it as a head, is an underline: no content is in it, and something is
-- on it.
use Rattle.std.proofs.Common.{◌≡◌, ℕ, Bool, true, false, List, refl, ap, sym, ◌∙◌, subst}
use Rattle.std.specs.Prelude.{Some, None}
use Rattle.md_engine.specs.declared.configuration.ParseOptions.{ParseOptions}
use Rattle.md_engine.specs.declared.event.Content.{Content}
use Rattle.md_engine.specs.declared.event.Point.{Point}
use Rattle.md_engine.specs.declared.tokenizer.held_leaf.HeldLeaf.TheVariants as held_leaf
use Rattle.md_engine.specs.declared.tokenizer.held_leaf.OpenText.{OpenText}
use Rattle.proof_frame.specs.RestLine.{rest_line}
use Rattle.proof_frame.specs.HeldLeaf.{has_lines}
use Rattle.proof_leaf_laws.specs.Leaf.HeadingSetext.{setext_leaf, underline_line}
use Rattle.proof_frame.specs.LeafName.{HeadingSetext, LeafName}
use Rattle.md_registry.specs.Registry.{leaf}
use Rattle.proof_frame.specs.Row.{LeafRow, Row, RowKind, is_blank_by, last_row}
use Rattle.proof_rows.specs.Rows.{is_further, takes_head}
use Rattle.proof_frame.proofs.ContentFacts.{NoContent}
use Rattle.proof_rows.proofs.GroupLines.{AreLines, IsUnder}
use Rattle.proof_leaf_laws.proofs.HeadingSetext.Line.{underline-each}
use Rattle.proof_rows.proofs.JoinedLemmas.{HasNoContent}
use Rattle.md_engine.specs.declared.event.Event.{Event}
use Rattle.proof_frame.proofs.MarkRuns.Each.{IsNoContent, each-no_content}
use Rattle.md_registry.proofs.Registry.{insider-none}
use Rattle.proof_rows.proofs.RowFacts.{IsRow}
use Rattle.proof_rows.proofs.RowLeaf.{leaf-filled}
use Rattle.proof_frame.proofs.SpanLaws.{IsLineOf}
use Rattle.proof_rows.proofs.Turned.Under.{text-open, under-turns}
use Rattle.md_registry.proofs.UnderNames.{further-text}

-- no content is in an underline
underline-no_content : (wants : Content → Bool) (line : List ℕ) (p : Point) → NoContent wants (underline_line line p)
underline-no_content wants line p =
    each-no_content wants (underline_line line p)
    (underline-each (IsNoContent wants) (λ q. (refl, refl), λ q. (refl, refl)) (λ q. (refl, refl), λ q. (refl, refl))
    (λ q. (refl, refl), λ q. (refl, refl)) line p)

-- so none is in a line that continues text, and takes no line of it as a head
pub further-quiet : (options : ParseOptions) (bytes line : List ℕ) (row : Row) (l : LeafName) (at : OpenText) →
    IsRow options bytes line row → row.kind ≡ LeafRow l → row.on ≡ held_leaf.Text at →
    is_further row.kind row.on ≡ true → takes_head row.kind ≡ false → HasNoContent row
further-quiet options bytes line row l at is kind on further heads wants w =
    let name : l ≡ HeadingSetext = further-text at l
    (ap (leaf l).further (sym on) ∙ ap (λ (k : RowKind). is_further k row.on) (sym kind) ∙ further)
    (ap takes_head (sym kind) ∙ heads) in
    subst (NoContent wants) (sym (is.leaf_is HeadingSetext (kind ∙ ap LeafRow name)))
    (underline-no_content wants line row.first)

-- what holds of an underline holds of the line that turns a text
pub under-holds : (L : List Event → Type 0) → ((line : List ℕ) (p : Point) → L (underline_line line p)) →
    (options : ParseOptions) (bytes : List ℕ) (row : Row) (rows : List Row) (under : Row) →
    AreLines options bytes row rows → IsUnder options bytes (last_row row rows) under → L under.inside
under-holds L holds options bytes row rows under are is =
    let line : IsLineOf options bytes setext_leaf under = (under-turns options bytes row rows under are is).is in
    subst L (sym line.inside) (holds (rest_line line.rest) under.first)

-- something is on it: no leaf is asked first where text is met
pub under-filled : (options : ParseOptions) (bytes : List ℕ) (row : Row) (rows : List Row) (under : Row) →
    AreLines options bytes row rows → IsUnder options bytes (last_row row rows) under →
    is_blank_by under.kind under ≡ false
under-filled options bytes row rows under are is =
    let open_text = text-open options bytes row rows are in
    let text : under.on ≡ held_leaf.Text open_text.0 = is.on ∙ open_text.1 in
    ap (λ (kind : RowKind). is_blank_by kind under) is.kind
    ∙ leaf-filled options bytes is.line under is.name is.is is.kind
    (λ i. let bad : None ≡ Some is.name = sym (insider-none under.on (ap has_lines text)) ∙ i in cc)
