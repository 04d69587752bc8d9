-- The lines of the exact list that are put together: a line, and those after it that continue the leaf before them.
use Rattle.std.proofs.Common.{◌≡◌, Bool, true, false, cond, List, [], ◌∷◌, refl, ap, sym, ◌∙◌}
use Rattle.std.specs.Prelude.{◌&&◌, ◌||◌, not, if◌then◌else◌}
use Rattle.md_engine.specs.declared.configuration.ParseOptions.{ParseOptions}
use Rattle.md_meaning.specs.Rest.{Rest}
use Rattle.md_meaning.specs.State.{Leaf, NoLeaf, OpenCode, OpenFence, OpenHtml, OpenParagraph, OpenTable}
use Rattle.md_events.specs.Exact.Blocks.{is_continued, grouped, onto}
use Rattle.md_events.specs.Exact.Rows as exact
use Rattle.md_events.specs.Exact.Rows.{AfterCode, First, FirstText, Further, FurtherText, Head}
use Rattle.proof_frame.specs.HeldLeaf.{takes_lazy}
use Rattle.proof_frame.specs.LeafName.{LeafName}
use Rattle.proof_frame.specs.Row.{BlankRow, LeafRow, Row, RowKind, TextRow}
use Rattle.md_registry.specs.Registry.{leaf}
use Rattle.proof_rows.proofs.KindRoles.{further_role}
use Rattle.proof_exact.proofs.RowRoles.{following_code, in_code, is_headed, row_role, row_role_by}

-- Those after a line that are put together with it, and the others.
abbrev pub run : List exact.Row → List exact.Row
run [] = []
run (row ∷ rows) = if is_continued row.role then row ∷ run rows else []

abbrev pub after_run : List exact.Row → List exact.Row
after_run [] = []
after_run (row ∷ rows) = if is_continued row.role then after_run rows else row ∷ rows

pub grouped-run : (row : exact.Row) (rows : List exact.Row) →
    grouped (row ∷ rows) ≡ (row ∷ run rows) ∷ grouped (after_run rows)
grouped-run row [] = refl
grouped-run row (next ∷ rows) =
    ap (onto row) (grouped-run next rows) ∙ go (is_continued next.role) (sym (grouped-run next rows))
  where
    go : (x : Bool) → (next ∷ run rows) ∷ grouped (after_run rows) ≡ grouped (next ∷ rows) →
        cond x ((row ∷ next ∷ run rows) ∷ grouped (after_run rows))
        ((row ∷ []) ∷ (next ∷ run rows) ∷ grouped (after_run rows)) ≡
        (row ∷ cond x (next ∷ run rows) []) ∷ grouped (cond x (after_run rows) (next ∷ rows))
    go true below = refl
    go false below = ap (λ (gs : List (List exact.Row)). (row ∷ []) ∷ gs) below

-- Whether a line continues the leaf before it, by its row and those after it, where this leaf is open before it: a
-- further line of code does if it belongs to the code, and text if it is no head.
abbrev pub is_open_code : Leaf → Bool
is_open_code (OpenCode lines) = true
is_open_code open_leaf = false

abbrev pub continues_by : Leaf → Row → List Row → RowKind → Bool
continues_by open_leaf row rows BlankRow = false
continues_by open_leaf row rows (LeafRow l) =
    (leaf l).further row.on && (not (is_open_code open_leaf) || in_code row rows)
continues_by open_leaf row rows TextRow = not (is_headed rows) && takes_lazy row.on

proceeds-leaf : (open_leaf : Leaf) (heads : Bool) (row : Row) (rows : List Row) →
    is_continued (following_code (further_role open_leaf heads) row rows) ≡
    (not (is_open_code open_leaf) || in_code row rows)
proceeds-leaf (OpenCode lines) heads row rows = go (in_code row rows)
  where
    go : (x : Bool) → is_continued (cond x (Further (OpenCode lines)) AfterCode) ≡ x
    go true = refl
    go false = refl
proceeds-leaf (OpenParagraph lines) true row rows = refl
proceeds-leaf (OpenParagraph lines) false row rows = refl
proceeds-leaf NoLeaf heads row rows = refl
proceeds-leaf (OpenFence o lines) heads row rows = refl
proceeds-leaf (OpenHtml kind lines) heads row rows = refl
proceeds-leaf (OpenTable delimiter cells) heads row rows = refl

pub proceeds-role : (options : ParseOptions) (open_leaf : Leaf) (r : Rest) (row : Row) (rows : List Row) →
    is_continued (row_role options open_leaf r row rows) ≡ continues_by open_leaf row rows row.kind
proceeds-role options open_leaf r row rows = go row.kind
  where
    line : (l : LeafName) (x : Bool) →
        is_continued
        (following_code (cond x (further_role open_leaf (leaf l).heads) (First ((leaf l).becomes options NoLeaf r))) row
        rows) ≡
        (x && (not (is_open_code open_leaf) || in_code row rows))
    line l true = proceeds-leaf open_leaf (leaf l).heads row rows
    line l false = refl

    text : (x y : Bool) → is_continued (cond x Head (cond y FurtherText FirstText)) ≡ (not x && y)
    text true y = refl
    text false true = refl
    text false false = refl

    go : (kind : RowKind) → is_continued (row_role_by options open_leaf r row rows kind) ≡
        continues_by open_leaf row rows kind
    go BlankRow = refl
    go (LeafRow l) = line l ((leaf l).further row.on)
    go TextRow = text (is_headed rows) (takes_lazy row.on)
