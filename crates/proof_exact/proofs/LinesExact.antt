-- The lines of a text from where one of them begins have the events of their rows: they are what the rows meet, are put
-- together as they are, and each fits its row.
use Rattle.std.proofs.Common.{◌≡◌, inr, ℕ, suc, ◌+◌, ◌-◌, ◌^◌, ◌<◌, List, [], length, drop, refl, subst}
use Rattle.std.proofs.Common.{arith}
use Rattle.md_engine.specs.declared.configuration.ParseOptions.{ParseOptions}
use Rattle.md_engine.specs.declared.tokenizer.held_leaf.HeldLeaf.TheVariants as held_leaf
use Rattle.md_meaning.specs.State.{At, Path}
use Rattle.md_meaning.specs.Step.{spot_of}
use Rattle.md_meaning.specs.Texts.{split_lines}
use Rattle.md_meaning.specs.Tree.{End}
use Rattle.md_events.proofs.PlacesLemmas.{Placed}
use Rattle.md_events.specs.Exact.Blocks.{grouped}
use Rattle.md_events.specs.Exact.Places.{lines_from}
use Rattle.md_events.specs.Exact.Rows.{rows_of as exact_rows}
use Rattle.proof_leaf_laws.proofs.FullLines.{IsLines}
use Rattle.proof_exact_lines.proofs.Front.{begin}
use Rattle.proof_exact_lines.specs.Unlisted.{unlisted_groups}
use Rattle.proof_rows.specs.BlockList.{tabled_groups}
use Rattle.proof_rows.specs.Rows.{groups}
use Rattle.proof_rows.specs.TextRows.{text_cells, text_rows, text_setting}
use Rattle.proof_rows.specs.WithoutMdx.{IsWithoutMdx}
use Rattle.proof_rows.proofs.GroupsAre.{groups-are}
use Rattle.proof_rows.proofs.JoinedLemmas.{EachNoContent, rows_at-no_content}
use Rattle.proof_rows.proofs.RowFacts.{AreRows}
use Rattle.proof_rows.proofs.RowLemmas.{fresh-rows}
use Rattle.proof_rows.proofs.StepAfter.{containers-step, plain-step, still-step}
use Rattle.proof_exact.proofs.Aligned.{aligned}
use Rattle.proof_exact.proofs.BlocksSame.{groups-same}
use Rattle.proof_exact.proofs.ExactRoles.{AreMet}
use Rattle.proof_exact.proofs.Fed.{AreFed, lines-fit}
use Rattle.proof_exact.proofs.FedRows.{rows-fed}
use Rattle.proof_exact.proofs.Fit.{Fit}
use Rattle.proof_exact.proofs.GroupsMatch.{GroupsMatch, groups-match}
use Rattle.proof_exact.proofs.Put.{rows-put}
use Rattle.proof_exact.proofs.RowsMet.{HaveBytes, KnowsStep, rows-met}
use Rattle.proof_exact.proofs.TextLines.{have-bytes}

-- what is open before them
abbrev pub nothing : Path
nothing = At (spot_of End)

knows-step : (options : ParseOptions) → IsWithoutMdx options → KnowsStep options
knows-step options built = record {
  plain = λ p r plain. plain-step options p r built plain;
  containers = λ p r plain. containers-step options p r built plain;
  still = λ p r plain. still-step options p r built plain;
}

-- A line of a text begins at this byte, and these are its lines from there on.
pub record BeginsLine (text : List ℕ) (number index column : ℕ) (fulls : List (List ℕ)) : Type 0 where
  pub are : IsLines (drop index text) fulls
  pub placed : Placed text (begin number index column)

module _ (options : ParseOptions) (text : List ℕ) (built : IsWithoutMdx options) (small : length text < 2 ^ 61)
    (number index column : ℕ) (fulls : List (List ℕ)) (is : BeginsLine text number index column fulls) where
  pub are-rows : AreRows options text [] held_leaf.None (begin number index column) (split_lines (drop index text))
      (text_rows options text (begin number index column))
  are-rows =
      fresh-rows options text (begin number index column) built small is.placed.index refl (omega arith)

  pub quiet : EachNoContent (text_rows options text (begin number index column))
  quiet =
      let cells = text_cells text options (begin number index column) in
      rows_at-no_content options (suc (length cells)) [] held_leaf.None cells (begin number index column)

  have : HaveBytes (column + 1 - 1) (lines_from number index column fulls) (split_lines (drop index text))
  have =
      let same : column ≡ column + 1 - 1 = omega arith in
      subst
      (λ (c : ℕ). HaveBytes c (lines_from number index column fulls) (split_lines (drop index text))) same
      (have-bytes number index column (drop index text) fulls is.are)

  met : AreMet options text nothing (lines_from number index column fulls)
      (text_rows options text (begin number index column))
  met =
      rows-met options text nothing (begin number index column) (lines_from number index column fulls)
      (split_lines (drop index text)) (text_rows options text (begin number index column)) (knows-step options built) tt
      have are-rows

  are-fed : AreFed options text [] held_leaf.None (lines_from number index column fulls)
      (text_rows options text (begin number index column))
  are-fed =
      rows-fed options (suc (length (text_cells text options (begin number index column))))
      (text_setting text options (begin number index column)) [] held_leaf.None number index column (drop index text)
      fulls built (record { small = small; limit = refl; skips = refl }) tt is.placed (inr refl) refl is.are
      (omega arith)

  -- They are put together as their rows are grouped, and each fits its row.
  pub lines-match :
      GroupsMatch (Fit options text) (groups (text_rows options text (begin number index column)))
      (grouped (exact_rows options nothing (lines_from number index column fulls)))
  lines-match =
      groups-match options text (Fit options text)
      (exact_rows options nothing (lines_from number index column fulls))
      (text_rows options text (begin number index column))
      (aligned options text (Fit options text) nothing (lines_from number index column fulls)
      (text_rows options text (begin number index column)) met
      (lines-fit options text nothing (lines_from number index column fulls)
      (text_rows options text (begin number index column)) (knows-step options built) met are-fed))

  pub lines-same :
      tabled_groups options text (groups (text_rows options text (begin number index column)))
      ≡ unlisted_groups options (grouped (exact_rows options nothing (lines_from number index column fulls)))
  lines-same =
      groups-same options text small (groups (text_rows options text (begin number index column)))
      (grouped (exact_rows options nothing (lines_from number index column fulls)))
      (groups-are options text [] held_leaf.None (begin number index column) (split_lines (drop index text))
      (text_rows options text (begin number index column)) (refl, refl) are-rows quiet)
      lines-match
      (rows-put options nothing (lines_from number index column fulls))
