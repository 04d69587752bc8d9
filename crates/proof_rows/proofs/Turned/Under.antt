-- The line that turns a text is an underline, and where it is.
use Rattle.std.proofs.Common.{◌≡◌, ℕ, true, false, List, [], ◌∷◌, sym, ap, ◌∙◌}
use Rattle.md_engine.specs.declared.configuration.ParseOptions.{ParseOptions}
use Rattle.md_engine.specs.declared.tokenizer.held_leaf.HeldLeaf.TheVariants as held_leaf
use Rattle.md_engine.specs.declared.tokenizer.held_leaf.OpenText.{OpenText}
use Rattle.md_meaning.specs.Rest.{trim_start}
use Rattle.md_meaning.specs.State.{kept}
use Rattle.md_link_definitions.specs.OpenText.{open_text}
use Rattle.md_link_definitions.specs.Progress.{progress_of, step}
use Rattle.proof_frame.specs.LeafName.{HeadingSetext}
use Rattle.md_registry.specs.Registry.{leaf}
use Rattle.proof_frame.specs.Row.{LeafRow, Row, RowKind, last_row}
use Rattle.proof_rows.specs.Rows.{is_further, line_following, takes_head}
use Rattle.proof_rows.proofs.GroupLines.{AreLines, IsUnder}
use Rattle.proof_rows.proofs.RowLeaf.{row-as}
use Rattle.md_registry.proofs.UnderNames.{further-text}
use Rattle.proof_rows.proofs.Turned.Turns.{Turns}

-- after a line of text, text is open
pub text-open : (options : ParseOptions) (bytes : List ℕ) (row : Row) (rows : List Row) →
    AreLines options bytes row rows → (at : OpenText) × ((last_row row rows).following ≡ held_leaf.Text at)
text-open options bytes row [] h = (
  open_text (step (progress_of row.on) (trim_start h.1.rest.bytes)) (kept h.1.rest),
  h.1.following ∙ ap (line_following options row.on h.1.rest) h.2,
)
text-open options bytes row (next ∷ rows) h = text-open options bytes next rows h.7

-- so a line that continues it continues text, and is one
pub under-text : (options : ParseOptions) (bytes : List ℕ) (row : Row) (rows : List Row) (under : Row) →
    AreLines options bytes row rows → (is : IsUnder options bytes (last_row row rows) under) →
    (at : OpenText) × (further : (leaf is.name).further (held_leaf.Text at) ≡ true) × ((leaf is.name).heads ≡ false)
under-text options bytes row rows under h is =
    let text = text-open options bytes row rows h in (
      text.0,
      ap (leaf is.name).further (sym (is.on ∙ text.1)) ∙ ap (λ (kind : RowKind). is_further kind under.on) (sym is.kind)
          ∙ is.further,
      ap takes_head (sym is.kind) ∙ is.heads,
    )

pub under-is : (options : ParseOptions) (bytes : List ℕ) (row : Row) (rows : List Row) (under : Row) →
    AreLines options bytes row rows → (is : IsUnder options bytes (last_row row rows) under) → is.name ≡ HeadingSetext
under-is options bytes row rows under h is =
    let text = under-text options bytes row rows under h is in further-text text.0 is.name text.1 text.2

-- and it turns the text
abbrev pub under-turns : (options : ParseOptions) (bytes : List ℕ) (row : Row) (rows : List Row) (under : Row) →
    AreLines options bytes row rows → (is : IsUnder options bytes (last_row row rows) under) →
    Turns options bytes (last_row row rows) under
under-turns options bytes row rows under h is = record {
  after = is.after;
  after_is = is.after_is;
  ending = is.ending;
  front = is.front;
  is =
      row-as options bytes is.line under is.is HeadingSetext
      (is.kind ∙ ap LeafRow (under-is options bytes row rows under h is));
}

-- no tab is cut where the text ends
pub text-whole : (options : ParseOptions) (bytes : List ℕ) (row : Row) (rows : List Row) →
    AreLines options bytes row rows → (last_row row rows).end.vs ≡ 0
text-whole options bytes row [] h = h.1.end_whole
text-whole options bytes row (next ∷ rows) h = text-whole options bytes next rows h.7
