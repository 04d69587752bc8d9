-- The exact list of a text is its block list.
use Rattle.std.proofs.Common.{◌≡◌, ◌⊎◌, inl, inr, ℕ, ◌^◌, ◌<◌, List, [], ◌++◌, drop, length, map, take}
use Rattle.std.proofs.Common.{sym, ap, ap₂, ◌∙◌, append_assoc}
use Rattle.md_engine.specs.declared.configuration.ParseOptions.{ParseOptions}
use Rattle.md_engine.specs.declared.event.Event.{Event}
use Rattle.md_engine.specs.declared.event.Point.{Point}
use Rattle.md_engine.specs.declared.event.Name.TheVariants as n
use Rattle.md_containers.specs.Listed.{listed}
use Rattle.md_meaning.specs.Preamble.{without_mark}
use Rattle.md_meaning.specs.Texts.{first_byte}
use Rattle.md_events.specs.Exact.Blocks.{exact, front_line, front_row, front_size, grouped, mark_events}
use Rattle.md_events.specs.Exact.Blocks.{tail, text_lines}
use Rattle.md_events.specs.Exact.Leaves.{leaf}
use Rattle.md_events.specs.Exact.Places.{TextLine}
use Rattle.md_events.specs.Exact.Rows.{Row, rows_of as exact_rows}
use Rattle.proof_exact_lines.proofs.Front.{front-same}
use Rattle.proof_exact_lines.specs.Unlisted.{unlisted, unlisted_groups}
use Rattle.proof_exact_lines.proofs.ExactText.{exact-listed}
use Rattle.proof_exact.proofs.NoLines.{none-events}
use Rattle.proof_leaf_laws.specs.Front.{front_events}
use Rattle.proof_rows.specs.BlockList.{block_list, tabled_groups}
use Rattle.proof_rows.specs.Rows.{groups}
use Rattle.proof_rows.specs.TextRows.{text_rows}
use Rattle.proof_rows.specs.WithoutMdx.{IsWithoutMdx}
use Rattle.proof_rows.proofs.TextAre.{rows_of}
use Rattle.proof_exact.proofs.LinesExact.{lines-same, nothing}
use Rattle.proof_exact.proofs.TextLines.{BodyLines, body-lines}

-- the lines of its body, as the exact list has them
abbrev pub body_lines : ParseOptions → List ℕ → List TextLine
body_lines options text = drop (front_size options text) (text_lines text)

abbrev body_rows : ParseOptions → List ℕ → List Row
body_rows options text = exact_rows options nothing (body_lines options text)

-- The lines of its body have the events of its rows.
body-same : (options : ParseOptions) (text : List ℕ) → IsWithoutMdx options → length text < 2 ^ 61 →
    tabled_groups options text (groups (rows_of options text)) ≡
    unlisted_groups options (grouped (body_rows options text))
body-same options text built small = go (body-lines options text)
  where
    go : (body_lines options text ≡ []) ⊎ BodyLines options text →
        tabled_groups options text (groups (rows_of options text))
        ≡ unlisted_groups options (grouped (body_rows options text))
    go (inl none) =
        none-events options text small none
        ∙ sym
        (ap (λ (lines : List TextLine). unlisted_groups options (grouped (exact_rows options nothing lines))) none)
    go (inr is) =
        let left = is.left in
        ap (λ (p : Point). tabled_groups options text (groups (text_rows options text p))) is.point
        ∙ lines-same options text built small left.number left.index left.column left.fulls
        (record { are = left.are; placed = left.placed })
        ∙ ap (λ (lines : List TextLine). unlisted_groups options (grouped (exact_rows options nothing lines)))
        (sym left.is)

-- So does all of it, without lists,
unlisted-is : (options : ParseOptions) (text : List ℕ) → IsWithoutMdx options → length text < 2 ^ 61 →
    front_events options text ++ tabled_groups options text (groups (rows_of options text)) ≡ unlisted options text
unlisted-is options text built small =
    ap₂ (λ (es fs : List Event). es ++ fs)
    (front-same options text
    ∙ sym
    (append_assoc (mark_events text) (leaf n.Frontmatter (front_line (first_byte (without_mark text))) front)
    (tail front)))
    (body-same options text built small)
  where
    front : List Row
    front = map front_row (take (front_size options text) (text_lines text))

-- and with them.
pub exact-is : (options : ParseOptions) (text : List ℕ) → IsWithoutMdx options → length text < 2 ^ 61 →
    block_list options text ≡ exact options text
unfolding block_list
exact-is options text built small =
    ap (listed text) (unlisted-is options text built small) ∙ exact-listed options text
