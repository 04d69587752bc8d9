-- A definition over lines of a text: its form, and what it shows.
use Rattle.std.proofs.Common.{◌≡◌, ℕ, List, false}
use Rattle.std.specs.Prelude.{option_map}
use Rattle.md_engine.specs.declared.event.Point.{Point}
use Rattle.md_meaning.specs.Texts.{trim_further}
use Rattle.md_link_definitions.specs.CellLines.{cell_lines}
use Rattle.md_link_definitions.specs.DefinitionRule.{DefinitionParts, destination_begin}
use Rattle.md_link_definitions.specs.GapRule.{gap_rest}
use Rattle.md_link_definitions.specs.TitleRule.{TitleParts}
use Rattle.md_link_definitions.specs.WholeCells.{whole_cells}
use Rattle.md_link_definitions.proofs.DefinitionLines.{text_bytes}
use Rattle.proof_frame.specs.Row.{Row, last_row}
use Rattle.proof_content_laws.specs.Defined.{defined_unread}
use Rattle.proof_content_laws.proofs.Defined.Form.{Form, IsForm, Titled, form_unread, strand_lines, target_text}
use Rattle.proof_content_laws.proofs.Defined.Form.{text_lines}

pub record IsDefined (bytes : List ℕ) (d : DefinitionParts) (row : Row) (rows : List Row) : Type 0 where
  pub form : Form
  pub following_gap : Point
  pub after_target : Point
  pub is : IsForm bytes form following_gap after_target
  pub first : form.first ≡ row.first
  pub last : form.last ≡ (last_row row rows).end
  pub unread : defined_unread d row rows ≡ form_unread form
  -- what it shows
  pub label_lines : cell_lines false (whole_cells d.label.opener.after d.label.text) ≡
      trim_further (strand_lines form.label)
  pub target_is : target_text form.target ≡ text_bytes d.destination (gap_rest d.more) (destination_begin d)
  pub title_lines : option_map (λ (t : Titled). text_lines t.text) form.title ≡
      option_map (λ (t : TitleParts). cell_lines false (whole_cells t.opener.after t.text)) d.title
