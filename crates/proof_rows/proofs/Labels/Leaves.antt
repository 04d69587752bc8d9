-- No leaf but a definition has a label: what a line becomes, and the block that a leaf shows.
use Rattle.std.proofs.Common.{◌≡◌, ℕ, Bool, true, false, cond, List, [], ◌∷◌, ◌++◌, refl, ap, ◌∙◌, append-nil}
use Rattle.std.specs.Prelude.{◌==◌, nat_lt, length, Option, Some, None}
use Rattle.md_engine.specs.declared.configuration.ParseOptions.{ParseOptions}
use Rattle.md_meaning.specs.Html.{HtmlKind, html_ends}
use Rattle.md_meaning.specs.Ascii.{dollar}
use Rattle.md_meaning.specs.Leaves.{LeafResult, Finished, Opened, closes, fence_continued, html_line}
use Rattle.md_meaning.specs.Rest.{Rest, line_of, lose}
use Rattle.md_meaning.specs.State.{Leaf, NoLeaf, OpenCode, OpenFence, OpenHtml, OpenParagraph, OpenTable, Opening}
use Rattle.md_meaning.specs.State.{fence_block, shut, without_trailing_blank}
use Rattle.md_meaning.specs.Step.{became}
use Rattle.md_meaning.specs.Tree.{Blocks, Code, Fence, Html, Line, Math, Table}
use Rattle.proof_frame.specs.HeldLeaf.{left_by}
use Rattle.md_engine.specs.declared.tokenizer.held_leaf.HeldLeaf.TheVariants as held_leaf
use Rattle.proof_literal_laws.specs.Leaf.Fence.{opening_at}
use Rattle.proof_literal_laws.specs.Leaf.FenceFurther.{opening_of}
use Rattle.proof_literal_laws.specs.Leaf.HtmlFlow.{begins_as, kind_begun}
use Rattle.proof_frame.specs.LeafName as registry
use Rattle.proof_frame.specs.LeafName.{LeafName}
use Rattle.md_registry.specs.Registry.{leaf}
use Rattle.proof_frame.specs.Row.{BlankRow, LeafRow, Row, RowKind, TextRow}
use Rattle.proof_content_laws.proofs.Labels.Reading.{shown_labels}
use Rattle.proof_content_laws.proofs.Labels.Trees.{defined-then, defined_by, defined_in}
use Rattle.proof_rows.proofs.RowLeaf.{block_of}
use Rattle.proof_frame.proofs.SpanLaws.{AreAfter, becomes_after}

-- an open leaf that is no text
abbrev pub IsNoText : Leaf → Type 0
IsNoText (OpenParagraph lines) = ⊥
IsNoText _ = Unit {0}

-- what a line became is no text, and has no label
abbrev pub IsUnlabelled : LeafResult → Type 0
IsUnlabelled (Opened open_leaf) = IsNoText open_leaf
IsUnlabelled (Finished block) = defined_by block ≡ []

fence-unlabelled : (o : Opening) (lines : List Line) (closed : Bool) → defined_by (fence_block o lines closed) ≡ []
fence-unlabelled o lines closed = go (o.marker == dollar)
  where
    go : (x : Bool) →
        defined_by (cond x (Math o.meta lines closed) (Fence o.marker o.info o.meta lines closed)) ≡ []
    go true = refl
    go false = refl

-- so it shows none
pub shut-unlabelled : (options : ParseOptions) (bs : Blocks) (c : LeafResult) → IsUnlabelled c →
    defined_in (shut options (became bs c)) ≡ defined_in bs
shut-unlabelled options bs (Finished block) h =
    defined-then bs block ∙ ap (λ (l : List (List ℕ)). defined_in bs ++ l) h ∙ append-nil (defined_in bs)
shut-unlabelled options bs (Opened NoLeaf) h = refl
shut-unlabelled options bs (Opened (OpenParagraph lines)) h = absurd h
shut-unlabelled options bs (Opened (OpenCode lines)) h =
    defined-then bs (Code (without_trailing_blank lines)) ∙ append-nil (defined_in bs)
shut-unlabelled options bs (Opened (OpenFence o lines)) h =
    defined-then bs (fence_block o lines false)
    ∙ ap (λ (l : List (List ℕ)). defined_in bs ++ l) (fence-unlabelled o lines false) ∙ append-nil (defined_in bs)
shut-unlabelled options bs (Opened (OpenHtml kind lines)) h =
    defined-then bs (Html lines) ∙ append-nil (defined_in bs)
shut-unlabelled options bs (Opened (OpenTable delimiter rows)) h =
    defined-then bs (Table delimiter rows) ∙ append-nil (defined_in bs)

-- Each leaf that is built.

html-line-unlabelled : (kind : HtmlKind) (lines : List Line) (r : Rest) → IsUnlabelled (html_line kind lines r)
html-line-unlabelled kind lines r = go (html_ends kind r.bytes)
  where
    all : List Line
    all = lines ++ line_of r ∷ []

    go : (x : Bool) → IsUnlabelled (cond x (Finished (Html all)) (Opened (OpenHtml kind all)))
    go true = refl
    go false = tt

html-begun-unlabelled : (o : Option HtmlKind) (r : Rest) → IsUnlabelled (begins_as o r)
html-begun-unlabelled None r = refl
html-begun-unlabelled (Some kind) r = html-line-unlabelled kind [] r

fence-proceeds-unlabelled : (options : ParseOptions) (o : Opening) (lines : List Line) (r : Rest) →
    IsUnlabelled (fence_continued options o lines r)
unfolding fence_continued
fence-proceeds-unlabelled options o lines r = go (closes options o r)
  where
    go : (x : Bool) →
        IsUnlabelled
        (cond x (Finished (fence_block o lines true)) (Opened (OpenFence o (lines ++ line_of (lose o.indent r) ∷ []))))
    go true = fence-unlabelled o lines true
    go false = tt

becomes-unlabelled : (l : LeafName) (options : ParseOptions) (open_leaf : Leaf) (r : Rest) → IsNoText open_leaf →
    IsUnlabelled ((leaf l).becomes options open_leaf r)
becomes-unlabelled registry.FenceFurther options (OpenFence o lines) r h = fence-proceeds-unlabelled options o lines r
becomes-unlabelled registry.FenceFurther options open_leaf r h = h
becomes-unlabelled registry.HtmlFlow options open_leaf r h = html-begun-unlabelled (kind_begun r) r
becomes-unlabelled registry.HtmlFurther options (OpenHtml kind lines) r h = html-line-unlabelled kind lines r
becomes-unlabelled registry.CodeIndented options open_leaf r h = tt
becomes-unlabelled registry.CodeFurther options open_leaf r h = tt
becomes-unlabelled registry.Fence options open_leaf r h = tt
becomes-unlabelled registry.GfmTable options (OpenParagraph lines) r h = tt
becomes-unlabelled registry.GfmTable options (OpenTable delimiter rows) r h = tt
becomes-unlabelled _ options open_leaf r h = refl

left-no-text : (c : LeafResult) → IsUnlabelled c → IsNoText (left_by c)
left-no-text (Opened open_leaf) h = h
left-no-text (Finished block) h = tt

following-unlabelled : (options : ParseOptions) (bytes : List ℕ) (l : LeafName) (row : Row) (rows : List Row)
    (are : AreAfter options bytes (leaf l) row rows) (c : LeafResult) →
    IsUnlabelled c → IsUnlabelled (becomes_after options bytes (leaf l) row rows are c)
following-unlabelled options bytes l row [] are c h = h
following-unlabelled options bytes l row (next ∷ rows) are c h =
    following-unlabelled options bytes l next rows are.7
    (cond (nat_lt are.0.index (length bytes)) ((leaf l).becomes options (left_by c) are.6.rest) c)
    (go (nat_lt are.0.index (length bytes)))
  where
    go : (x : Bool) → IsUnlabelled (cond x ((leaf l).becomes options (left_by c) are.6.rest) c)
    go true = becomes-unlabelled l options (left_by c) are.6.rest (left-no-text c h)
    go false = h

-- the lines of a leaf of several, from the first on
pub lines-unlabelled : (options : ParseOptions) (bytes : List ℕ) (first further : LeafName) (row : Row)
    (rows : List Row) (are : AreAfter options bytes (leaf further) row rows) (r : Rest) →
    IsUnlabelled (becomes_after options bytes (leaf further) row rows are ((leaf first).becomes options NoLeaf r))
lines-unlabelled options bytes first further row rows are r =
    following-unlabelled options bytes further row rows are ((leaf first).becomes options NoLeaf r)
    (becomes-unlabelled first options NoLeaf r tt)

-- a line that is no text
leaf-unlabelled : (l : LeafName) (r : Rest) → defined_by ((leaf l).block r) ≡ []
leaf-unlabelled registry.Fence r = fence-unlabelled (opening_at r) [] false
leaf-unlabelled registry.FenceFurther r = fence-unlabelled (opening_of held_leaf.None) [] false
leaf-unlabelled _ r = refl

pub line-unlabelled : (kind : RowKind) (r : Rest) → shown_labels (block_of kind r) ≡ []
line-unlabelled BlankRow r = refl
line-unlabelled (LeafRow l) r = leaf-unlabelled l r
line-unlabelled TextRow r = refl
