-- The lines of a text from where one of them begins, as after its front, and that its rows are those of these lines.
use Rattle.md_engine.specs.declared.tokenizer.held_leaf.HeldLeaf.TheVariants as held_leaf
use Rattle.std.proofs.Common.{◌≡◌, ◌^◌, ◌<◌, ◌≤◌, ℕ, List, [], length, drop}
use Rattle.md_engine.specs.declared.configuration.ParseOptions.{ParseOptions}
use Rattle.md_engine.specs.declared.event.Point.{Point}
use Rattle.md_meaning.specs.Texts.{split_lines}
use Rattle.proof_leaf_laws.specs.Front.{body_point}
use Rattle.proof_frame.specs.Row.{Row}
use Rattle.proof_rows.specs.TextRows.{text_rows}
use Rattle.proof_rows.proofs.Begun.{begun}
use Rattle.proof_rows.proofs.RowFacts.{AreRows}
use Rattle.proof_rows.specs.WithoutMdx.{IsWithoutMdx}
use Rattle.proof_rows.proofs.RowLemmas.{fresh-rows}

-- flow may begin to read a text at this point
pub record MayBegin (bytes : List ℕ) (p : Point) : Type 0 where
  pub index : p.index ≤ length bytes
  pub vs : p.vs ≡ 0
  pub column : 1 ≤ p.column

pub from-are : (options : ParseOptions) (bytes : List ℕ) (p : Point) → IsWithoutMdx options → length bytes < 2 ^ 61 →
    MayBegin bytes p →
    AreRows options bytes [] held_leaf.None p (split_lines (drop p.index bytes)) (text_rows options bytes p)
from-are options bytes p built small begins =
    fresh-rows options bytes p built small begins.index begins.vs begins.column

-- So it may after the front.
pub body-begins : (options : ParseOptions) (bytes : List ℕ) → MayBegin bytes (body_point options bytes)
body-begins options bytes =
    let begins = begun options bytes in
    record { index = begins.index; vs = begins.vs; column = begins.column }

abbrev pub lines_of : ParseOptions → List ℕ → List (List ℕ)
lines_of options bytes = split_lines (drop (body_point options bytes).index bytes)

abbrev pub rows_of : ParseOptions → List ℕ → List Row
rows_of options bytes = text_rows options bytes (body_point options bytes)

pub text-are : (options : ParseOptions) (bytes : List ℕ) → IsWithoutMdx options → length bytes < 2 ^ 61 →
    AreRows options bytes [] held_leaf.None (body_point options bytes) (lines_of options bytes) (rows_of options bytes)
text-are options bytes built small =
    from-are options bytes (body_point options bytes) built small (body-begins options bytes)
