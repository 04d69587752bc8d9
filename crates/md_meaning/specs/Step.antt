-- The step of one line: what is open after it (CommonMark, appendix).
use Rattle.std.specs.Prelude.{ℕ, zero, suc, Bool, true, false, ◌||◌, if◌then◌else◌, List, [], ◌∷◌, ◌++◌, length, Option}
use Rattle.std.specs.Prelude.{Some, None}
use Rattle.std.specs.Option.{is_some}
use Rattle.md_engine.specs.declared.configuration.ParseOptions.{ParseOptions}
use Rattle.md_meaning.specs.Tree.{Blocks, End}
use Rattle.md_meaning.specs.Rest.{Rest, is_blank}
use Rattle.md_meaning.specs.State.{Container, ParagraphLine, Leaf, NoLeaf, OpenParagraph, OpenFence, OpenHtml}
use Rattle.md_meaning.specs.State.{Innermost, Path, At, Within, spot, at_spot, then_block}
use Rattle.md_meaning.specs.State.{then_leaf, shut, container_block, closed, kept}
use Rattle.md_meaning.specs.Containers.{Taken, continues, opens}
use Rattle.md_meaning.specs.Leaves.{LeafResult, Opened, Finished, NoText, Text, LazyText, starts, is_continued}
use Rattle.md_meaning.specs.Leaves.{underline_depth, underlined, table_at, with_line}

abbrev pub spot_of : Blocks → Innermost
spot_of bs = record { here = bs; leaf = NoLeaf }

-- what a leaf became, after these blocks
abbrev pub became : Blocks → LeafResult → Innermost
became bs (Opened leaf) = record { here = bs; leaf = leaf }
became bs (Finished block) = spot_of (then_block bs block)

abbrev pub fresh_by : Blocks → Rest → Option LeafResult → Innermost
fresh_by bs r (Some c) = became bs c
fresh_by bs r None = with_line bs [] r

-- a rest where no leaf is open: a blank one does nothing, and what starts no other leaf is a paragraph
unfoldable pub fresh_line : ParseOptions → Blocks → Rest → Innermost
fresh_line options bs r = if is_blank r.bytes then spot_of bs else fresh_by bs r (starts options NoText r)

abbrev pub row_or_text : Blocks → List ParagraphLine → Rest → Option Innermost → Innermost
row_or_text bs lines r (Some s) = s
row_or_text bs lines r None = with_line bs lines r

-- a rest that is no underline: another leaf, a delimiter row, or a line of the paragraph
abbrev pub text_by : ParseOptions → Blocks → List ParagraphLine → Rest → Option LeafResult → Innermost
text_by options bs lines r (Some c) = became (then_leaf options bs (OpenParagraph lines)) c
text_by options bs lines r None = row_or_text bs lines r (table_at options bs lines r)

-- An underline is none of the leaves that are tried before it; a break may look like one, and is tried after it.
abbrev pub underline_or_text : ParseOptions → Blocks → List ParagraphLine → Rest → Option ℕ → Innermost
underline_or_text options bs lines r (Some depth) = underlined options bs lines r depth
underline_or_text options bs lines r None = text_by options bs lines r (starts options Text r)

-- a rest where a paragraph is open: a blank one closes it
unfoldable pub text_line : ParseOptions → Blocks → List ParagraphLine → Rest → Innermost
text_line options bs lines r =
    if is_blank r.bytes then spot_of (then_leaf options bs (OpenParagraph lines))
    else underline_or_text options bs lines r (underline_depth options r)

-- a leaf that ends before the line is closed, and the line is read after it
abbrev pub on_or_fresh : ParseOptions → Innermost → Rest → Option LeafResult → Innermost
on_or_fresh options s r (Some c) = became s.here c
on_or_fresh options s r None = fresh_line options (shut options s) r

abbrev pub leaf_line_by : ParseOptions → Innermost → Rest → Leaf → Innermost
leaf_line_by options s r NoLeaf = fresh_line options s.here r
leaf_line_by options s r (OpenParagraph lines) = text_line options s.here lines r
leaf_line_by options s r leaf = on_or_fresh options s r (is_continued options leaf r)

-- a rest in the innermost container, where all containers continued and none opened
abbrev pub leaf_line : ParseOptions → Innermost → Rest → Innermost
leaf_line options s r = leaf_line_by options s r s.leaf

-- containers open as often as they do, each in the one before, and then a leaf; each takes a byte, so there are no more
-- than bytes
abbrev pub opened : ParseOptions → ℕ → Rest → Path
opened options zero r = At (fresh_line options End r)
opened options (suc n) r = elim (opens options false r) [
  | Some t ↦ Within End t.container (opened options n t.rest)
  | None ↦ At (fresh_line options End r)
]

-- a container, after these blocks, that a line opens
abbrev pub entered : ParseOptions → Blocks → Taken → Path
entered options bs t = Within bs t.container (opened options (length t.rest.bytes) t.rest)

abbrev pub is_open_text : Leaf → Bool
is_open_text (OpenParagraph lines) = true
is_open_text _ = false

-- fenced code, math and HTML: no container opens in them
abbrev pub is_concrete : Leaf → Bool
is_concrete (OpenFence o lines) = true
is_concrete (OpenHtml kind lines) = true
is_concrete _ = false

abbrev pub all_continued_by : ParseOptions → Innermost → Rest → Option Taken → Path
all_continued_by options s r (Some t) = entered options (shut options s) t
all_continued_by options s r None = At (leaf_line options s r)

-- all containers continued
unfoldable pub all_continued : ParseOptions → Innermost → Rest → Path
all_continued options s r =
    all_continued_by options s r (if is_concrete s.leaf then None else opens options (is_open_text s.leaf) r)

-- the open paragraph with a lazy line; none if the line does not continue it (CommonMark 5.1, "laziness")
abbrev pub with_lazy : ParseOptions → Leaf → Rest → Option Leaf
with_lazy options (OpenParagraph lines) r =
    if is_blank r.bytes || is_some (starts options LazyText r) then None
    else Some (OpenParagraph (lines ++ kept r ∷ []))
with_lazy options _ r = None

-- a line that the paragraph does not take is read where the containers that did not continue are closed
abbrev pub lazy_by : ParseOptions → Blocks → Container → Path → Rest → Option Leaf → Path
lazy_by options before container p r (Some leaf) =
    Within before container (at_spot p (record { here = (spot p).here; leaf = leaf }))
lazy_by options before container p r None =
    At (fresh_line options (then_block before (container_block container (closed options p))) r)

abbrev pub stopped_by : ParseOptions → Blocks → Container → Path → Rest → Option Taken → Path
stopped_by options before container p r (Some t) =
    entered options (then_block before (container_block container (closed options p))) t
stopped_by options before container p r None = lazy_by options before container p r (with_lazy options (spot p).leaf r)

-- this container does not continue
unfoldable pub stopped : ParseOptions → Blocks → Container → Path → Rest → Path
stopped options before container p r = stopped_by options before container p r (opens options false r)

-- what is open after a line: each container is asked, from the outermost in, whether it continues
abbrev pub step : ParseOptions → Path → Rest → Path
step options (At s) r = all_continued options s r
step options (Within before container p) r = elim (continues options container r) [
  | Some t ↦ Within before t.container (step options p t.rest)
  | None ↦ stopped options before container p r
]

abbrev pub steps : ParseOptions → Path → List Rest → Path
steps options p [] = p
steps options p (r ∷ rs) = steps options (step options p r) rs
