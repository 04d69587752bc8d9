-- What a line of the exact list and its row agree in.
use Rattle.std.proofs.Common.{◌≡◌, ◌⊎◌, ℕ, true, false, List}
use Rattle.md_engine.specs.declared.configuration.ParseOptions.{ParseOptions}
use Rattle.md_engine.specs.declared.event.Name.{Name}
use Rattle.md_meaning.specs.Rest.{is_blank}
use Rattle.md_meaning.specs.State.{Leaf}
use Rattle.proof_frame.specs.Change.{ends_of}
use Rattle.proof_frame.specs.HeldLeaf.{kind_of_leaf, may_continue}
use Rattle.proof_frame.specs.LeafName.{CodeFurther}
use Rattle.proof_frame.specs.Row.{LeafRow, Row as FrameRow, after_row, ending_events, ending_of}
use Rattle.proof_rows.proofs.RowFacts.{IsRow}
use Rattle.md_events.specs.Exact.Blocks.{is_continued}
use Rattle.md_events.specs.Exact.Places.{ending, next_line}
use Rattle.md_events.specs.Exact.Rows.{AfterCode, Row}
use Rattle.proof_exact_pieces.proofs.OnLine.{LineIn, OnLine}
use Rattle.proof_exact.proofs.Tails.{last_ending}
use Rattle.proof_exact_lines.specs.Unlisted.{without_lists}
use Rattle.proof_exact.proofs.RowRoles.{row_role}

pub record Fit (options : ParseOptions) (bytes : List ℕ) (x : Row) (r : FrameRow) : Type 0 where
  -- what the row is, and that its rest is that of the line
  pub own : List ℕ
  pub is : IsRow options bytes own r
  pub rest : is.rest ≡ x.rest
  -- the line is one of the text, and its rest is where the row begins
  pub following : List ℕ
  pub within : LineIn bytes following x.line
  pub on : OnLine bytes following x.line x.rest r.first
  -- its ending, and where the next line begins
  pub ending : (name : Name) → ending name x.line ≡ ending_events name r
  pub next : next_line x.line ≡ after_row r
  -- what is before it, but for begins of lists; a line that continues a leaf opens no container
  pub front : without_lists x.front ≡ r.front
  pub further : is_continued x.role ≡ true → x.front ≡ r.front
  -- what ends after it, but for ends of lists, and the name of its ending where it may be the last line of a leaf: a
  -- blank line within code is not
  pub ends : without_lists x.ends ≡ ends_of r.closed_after r.end
  pub name : (r.kind ≡ LeafRow CodeFurther → (is_blank x.rest.bytes ≡ false) ⊎ (x.role ≡ AfterCode)) →
      last_ending x ≡ ending_of r.kind r
  -- what it is, where this leaf is open before it and these rows are after it
  pub open_leaf : Leaf
  pub below : List FrameRow
  pub role : x.role ≡ row_role options open_leaf x.rest r below
  pub met : may_continue r.on ≡ true → r.on ≡ kind_of_leaf open_leaf
