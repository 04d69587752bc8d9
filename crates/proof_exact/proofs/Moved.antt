-- What is open, with other blocks before all: a line changes it as it does without them, and its row is the same
-- where none of these blocks is an item that could be the last in a list.
use Rattle.std.proofs.Common.{◌≡◌, ℕ, Bool, true, false, cond, List, [], ◌∷◌, reverse}
use Rattle.std.proofs.Common.{Option, Some, None, refl, ap, ◌∙◌}
use Rattle.std.specs.Prelude.{◌&&◌}
use Rattle.md_engine.specs.declared.configuration.ParseOptions.{ParseOptions}
use Rattle.md_meaning.specs.Containers.{Taken, continues, opens}
use Rattle.md_meaning.specs.Definition.{Defined}
use Rattle.md_meaning.specs.Leaves.{Finished, LeafResult, NoText, Opened, Text, is_continued}
use Rattle.md_meaning.specs.Leaves.{is_head_of, starts, table_at, table_by}
use Rattle.md_meaning.specs.Leaves.{underline_depth, underlined, underlined_by}
use Rattle.md_meaning.specs.Rest.{Rest, has_small_indent, is_blank, trim}
use Rattle.md_meaning.specs.Table.{delimiter_columns, row_cells}
use Rattle.md_meaning.specs.State.{At, Container, Innermost, Leaf, NoLeaf, OpenCode}
use Rattle.md_meaning.specs.State.{OpenFence, OpenHtml, OpenParagraph, OpenTable, ParagraphLine, Path, Within}
use Rattle.md_meaning.specs.State.{closed, container_block, cut, shut, shut_paragraph, spot, texts, then_block}
use Rattle.md_meaning.specs.State.{then_definitions, then_leaf, then_paragraph}
use Rattle.md_meaning.specs.Step.{all_continued, all_continued_by, became, entered, fresh_by, fresh_line, is_concrete}
use Rattle.md_meaning.specs.Step.{is_open_text, lazy_by, leaf_line_by, on_or_fresh, row_or_text, step}
use Rattle.md_meaning.specs.Step.{steps, stopped, stopped_by, text_by, text_line, underline_or_text, with_lazy}
use Rattle.md_meaning.specs.Tree.{Block, Blocks, End, Heading, More}
use Rattle.proof_exact.specs.Parts.{joined}

abbrev pub moved_in : Blocks → Innermost → Innermost
moved_in before s = record { here = joined before s.here; leaf = s.leaf }

abbrev pub moved : Blocks → Path → Path
moved before (At s) = At (moved_in before s)
moved before (Within bs c p) = Within (joined before bs) c p

-- Blocks.

block-moved : (before bs : Blocks) (b : Block) → then_block (joined before bs) b ≡ joined before (then_block bs b)
block-moved End bs b = refl
block-moved (More a before) bs b = ap (More a) (block-moved before bs b)

definitions-moved : (before bs : Blocks) (ds : List Defined) →
    then_definitions (joined before bs) ds ≡ joined before (then_definitions bs ds)
definitions-moved before bs [] = refl
definitions-moved before bs (d ∷ ds) =
    ap (λ (x : Blocks). then_definitions x ds) (block-moved before bs _) ∙ definitions-moved before (then_block bs _) ds

paragraph-moved : (before bs : Blocks) (lines : List (List ℕ)) →
    then_paragraph (joined before bs) lines ≡ joined before (then_paragraph bs lines)
paragraph-moved before bs [] = refl
paragraph-moved before bs (line ∷ lines) = block-moved before bs _

shut-moved : (options : ParseOptions) (before bs : Blocks) (lines : List (List ℕ)) →
    shut_paragraph options (joined before bs) lines ≡ joined before (shut_paragraph options bs lines)
unfolding shut_paragraph
shut-moved options before bs lines =
    let c : List Defined × List (List ℕ) = cut options lines in
    ap (λ (x : Blocks). then_paragraph x c.1) (definitions-moved before bs c.0)
    ∙ paragraph-moved before (then_definitions bs c.0) c.1

leaf-moved : (options : ParseOptions) (before bs : Blocks) (leaf : Leaf) →
    then_leaf options (joined before bs) leaf ≡ joined before (then_leaf options bs leaf)
leaf-moved options before bs NoLeaf = refl
leaf-moved options before bs (OpenParagraph lines) = shut-moved options before bs (texts lines)
leaf-moved options before bs (OpenCode lines) = block-moved before bs _
leaf-moved options before bs (OpenFence o lines) = block-moved before bs _
leaf-moved options before bs (OpenHtml kind lines) = block-moved before bs _
leaf-moved options before bs (OpenTable delimiter rows) = block-moved before bs _

-- Innermost.

abbrev inner : Blocks → Leaf → Innermost
inner bs leaf = record { here = bs; leaf = leaf }

became-moved : (before bs : Blocks) (c : LeafResult) → became (joined before bs) c ≡ moved_in before (became bs c)
became-moved before bs (Opened leaf) = refl
became-moved before bs (Finished block) = ap (λ (x : Blocks). inner x NoLeaf) (block-moved before bs block)

fresh-by-moved : (before bs : Blocks) (r : Rest) (c : Option LeafResult) →
    fresh_by (joined before bs) r c ≡ moved_in before (fresh_by bs r c)
fresh-by-moved before bs r None = refl
fresh-by-moved before bs r (Some c) = became-moved before bs c

fresh-moved : (options : ParseOptions) (before bs : Blocks) (r : Rest) →
    fresh_line options (joined before bs) r ≡ moved_in before (fresh_line options bs r)
unfolding fresh_line
fresh-moved options before bs r = go (is_blank r.bytes)
  where
    c : Option LeafResult
    c = starts options NoText r

    go : (x : Bool) →
        cond x (inner (joined before bs) NoLeaf) (fresh_by (joined before bs) r c)
        ≡ moved_in before (cond x (inner bs NoLeaf) (fresh_by bs r c))
    go true = refl
    go false = fresh-by-moved before bs r c

-- a table, if one begins
abbrev moved_some : Blocks → Option Innermost → Option Innermost
moved_some before None = None
moved_some before (Some s) = Some (moved_in before s)

table-by-moved : (options : ParseOptions) (before bs : Blocks) (lines : List ParagraphLine) (delimiter : List ℕ)
    (columns : Option ℕ) →
    table_by options (joined before bs) lines delimiter columns
    ≡ moved_some before (table_by options bs lines delimiter columns)
table-by-moved options before bs [] delimiter columns = refl
table-by-moved options before bs (k ∷ ks) delimiter None = refl
table-by-moved options before bs (k ∷ ks) delimiter (Some columns) = go (is_head_of options k columns)
  where
    leaf : Leaf
    leaf = OpenTable delimiter (row_cells k.text ∷ [])

    go : (x : Bool) →
        cond x (Some (inner (shut_paragraph options (joined before bs) (texts (reverse ks))) leaf)) None
        ≡ moved_some before (cond x (Some (inner (shut_paragraph options bs (texts (reverse ks))) leaf)) None)
    go true = ap (λ (x : Blocks). Some (inner x leaf)) (shut-moved options before bs (texts (reverse ks)))
    go false = refl

table-moved : (options : ParseOptions) (before bs : Blocks) (lines : List ParagraphLine) (r : Rest) →
    table_at options (joined before bs) lines r ≡ moved_some before (table_at options bs lines r)
unfolding table_at
table-moved options before bs lines r = go (options.constructs.gfm_table && has_small_indent options r)
  where
    of : Blocks → Option Innermost
    of x = table_by options x (reverse lines) (trim r.bytes) (delimiter_columns (trim r.bytes))

    go : (x : Bool) → cond x (of (joined before bs)) None ≡ moved_some before (cond x (of bs) None)
    go true = table-by-moved options before bs (reverse lines) (trim r.bytes) (delimiter_columns (trim r.bytes))
    go false = refl

row-moved : (before bs : Blocks) (lines : List ParagraphLine) (r : Rest) (o : Option Innermost) →
    row_or_text (joined before bs) lines r (moved_some before o) ≡ moved_in before (row_or_text bs lines r o)
row-moved before bs lines r None = refl
row-moved before bs lines r (Some s) = refl

text-by-moved : (options : ParseOptions) (before bs : Blocks) (lines : List ParagraphLine) (r : Rest)
    (c : Option LeafResult) →
    text_by options (joined before bs) lines r c ≡ moved_in before (text_by options bs lines r c)
text-by-moved options before bs lines r (Some c) =
    ap (λ (x : Blocks). became x c) (leaf-moved options before bs (OpenParagraph lines))
    ∙ became-moved before (then_leaf options bs (OpenParagraph lines)) c
text-by-moved options before bs lines r None =
    ap (row_or_text (joined before bs) lines r) (table-moved options before bs lines r)
    ∙ row-moved before bs lines r (table_at options bs lines r)

underlined-moved : (options : ParseOptions) (before bs : Blocks) (lines : List ParagraphLine) (r : Rest) (depth : ℕ) →
    underlined options (joined before bs) lines r depth ≡ moved_in before (underlined options bs lines r depth)
unfolding underlined
underlined-moved options before bs lines r depth = go (cut options (texts lines)).1
  where
    ds : List Defined
    ds = (cut options (texts lines)).0

    go : (left : List (List ℕ)) →
        underlined_by (joined before bs) lines r depth (then_definitions (joined before bs) ds) left
        ≡ moved_in before (underlined_by bs lines r depth (then_definitions bs ds) left)
    go [] = refl
    go (line ∷ left) =
        ap (λ (x : Blocks). inner x NoLeaf)
        (ap (λ (x : Blocks). then_block x (Heading depth (line ∷ left))) (definitions-moved before bs ds)
        ∙ block-moved before (then_definitions bs ds) (Heading depth (line ∷ left)))

underline-moved : (options : ParseOptions) (before bs : Blocks) (lines : List ParagraphLine) (r : Rest)
    (depth : Option ℕ) →
    underline_or_text options (joined before bs) lines r depth
    ≡ moved_in before (underline_or_text options bs lines r depth)
underline-moved options before bs lines r (Some depth) = underlined-moved options before bs lines r depth
underline-moved options before bs lines r None = text-by-moved options before bs lines r (starts options Text r)

text-moved : (options : ParseOptions) (before bs : Blocks) (lines : List ParagraphLine) (r : Rest) →
    text_line options (joined before bs) lines r ≡ moved_in before (text_line options bs lines r)
unfolding text_line
text-moved options before bs lines r = go (is_blank r.bytes)
  where
    of : Blocks → Bool → Innermost
    of bs x =
        cond x (inner (then_leaf options bs (OpenParagraph lines)) NoLeaf)
        (underline_or_text options bs lines r (underline_depth options r))

    go : (x : Bool) → of (joined before bs) x ≡ moved_in before (of bs x)
    go true = ap (λ (x : Blocks). inner x NoLeaf) (leaf-moved options before bs (OpenParagraph lines))
    go false = underline-moved options before bs lines r (underline_depth options r)

on-moved : (options : ParseOptions) (before : Blocks) (s : Innermost) (r : Rest) (c : Option LeafResult) →
    on_or_fresh options (moved_in before s) r c ≡ moved_in before (on_or_fresh options s r c)
on-moved options before s r (Some c) = became-moved before s.here c
on-moved options before s r None =
    ap (λ (x : Blocks). fresh_line options x r) (leaf-moved options before s.here s.leaf)
    ∙ fresh-moved options before (shut options s) r

line-moved : (options : ParseOptions) (before : Blocks) (s : Innermost) (r : Rest) (leaf : Leaf) →
    leaf_line_by options (moved_in before s) r leaf ≡ moved_in before (leaf_line_by options s r leaf)
line-moved options before s r NoLeaf = fresh-moved options before s.here r
line-moved options before s r (OpenParagraph lines) = text-moved options before s.here lines r
line-moved options before s r (OpenCode lines) = on-moved options before s r (is_continued options (OpenCode lines) r)
line-moved options before s r (OpenFence o lines) =
    on-moved options before s r (is_continued options (OpenFence o lines) r)
line-moved options before s r (OpenHtml kind lines) =
    on-moved options before s r (is_continued options (OpenHtml kind lines) r)
line-moved options before s r (OpenTable delimiter rows) =
    on-moved options before s r (is_continued options (OpenTable delimiter rows) r)

-- Paths.

all-moved : (options : ParseOptions) (before : Blocks) (s : Innermost) (r : Rest) (o : Option Taken) →
    all_continued_by options (moved_in before s) r o ≡ moved before (all_continued_by options s r o)
all-moved options before s r (Some t) =
    ap (λ (x : Blocks). entered options x t) (leaf-moved options before s.here s.leaf)
all-moved options before s r None = ap At (line-moved options before s r s.leaf)

stopped-moved : (options : ParseOptions) (before bs : Blocks) (c : Container) (p : Path) (r : Rest)
    (o : Option Taken) →
    stopped_by options (joined before bs) c p r o ≡ moved before (stopped_by options bs c p r o)
stopped-moved options before bs c p r (Some t) =
    ap (λ (x : Blocks). entered options x t) (block-moved before bs (container_block c (closed options p)))
stopped-moved options before bs c p r None = go (with_lazy options (spot p).leaf r)
  where
    go : (o : Option Leaf) →
        lazy_by options (joined before bs) c p r o ≡ moved before (lazy_by options bs c p r o)
    go (Some leaf) = refl
    go None =
        ap At
        (ap (λ (x : Blocks). fresh_line options x r)
        (block-moved before bs (container_block c (closed options p)))
        ∙ fresh-moved options before (then_block bs (container_block c (closed options p))) r)

pub step-moved : (options : ParseOptions) (before : Blocks) (p : Path) (r : Rest) →
    step options (moved before p) r ≡ moved before (step options p r)
unfolding all_continued stopped
step-moved options before (At s) r =
    all-moved options before s r (cond (is_concrete s.leaf) None (opens options (is_open_text s.leaf) r))
step-moved options before (Within bs c p) r = go (continues options c r)
  where
    go : (o : Option Taken) →
        let of : Blocks → Path =
        λ x. elim o [
          | Some t ↦ Within x t.container (step options p t.rest)
          | None ↦ stopped options x c p r
        ] in
        of (joined before bs) ≡ moved before (of bs)
    go (Some t) = refl
    go None = stopped-moved options before bs c p r (opens options false r)

pub steps-moved : (options : ParseOptions) (before : Blocks) (p : Path) (rs : List Rest) →
    steps options (moved before p) rs ≡ moved before (steps options p rs)
steps-moved options before p [] = refl
steps-moved options before p (r ∷ rs) =
    ap (λ (q : Path). steps options q rs) (step-moved options before p r)
    ∙ steps-moved options before (step options p r) rs

-- All that is open is closed.
pub closed-moved : (options : ParseOptions) (before : Blocks) (p : Path) →
    closed options (moved before p) ≡ joined before (closed options p)
closed-moved options before (At s) = leaf-moved options before s.here s.leaf
closed-moved options before (Within bs c p) = block-moved before bs (container_block c (closed options p))
