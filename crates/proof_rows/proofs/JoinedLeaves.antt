-- What holds of lists of events of a leaf of several lines, of endings, and of such lists one after the other holds of
-- its lines once they are joined: of one that is no table, and of the line of text that heads a table with its lines.
use Rattle.std.proofs.Common.{◌≡◌, ℕ, Bool, true, false, List, [], ◌∷◌, refl, ap, sym, ◌∙◌, subst}
use Rattle.md_engine.specs.declared.configuration.ParseOptions.{ParseOptions}
use Rattle.md_engine.specs.declared.event.Event.{Event}
use Rattle.md_engine.specs.declared.event.Name.TheVariants as n
use Rattle.md_engine.specs.declared.event.Point.{Point}
use Rattle.md_engine.specs.declared.tokenizer.held_leaf.HeldLeaf.{HeldLeaf}
use Rattle.md_engine.specs.declared.tokenizer.held_leaf.HeldLeaf.TheVariants as held_leaf
use Rattle.md_events.specs.Events.Nested.{enter}
use Rattle.md_events.specs.Events.Prefix.{is_prefix}
use Rattle.proof_frame.specs.RestLine.{rest_line}
use Rattle.proof_frame.specs.HeldLeaf.{has_lines, may_continue, takes_lazy}
use Rattle.proof_frame.specs.LeafName as registry
use Rattle.proof_frame.specs.LeafName.{LeafName}
use Rattle.proof_leaf_laws.specs.Leaf.GfmTable.{table_leaf}
use Rattle.md_registry.specs.Registry.{further_of, leaf}
use Rattle.proof_frame.specs.Row.{Row, row_line, span_by}
use Rattle.proof_leaf_laws.specs.Headed.{headed_row}
use Rattle.proof_frame.proofs.EachEvent.{Each, each-as}
use Rattle.proof_frame.proofs.FrontNames.{fronts-prefixes}
use Rattle.proof_frame.proofs.LinedFacts.{AreLined, IsLined, prefixes-lined}
use Rattle.proof_frame.proofs.PrefixNames.{IsNamed}
use Rattle.proof_frame.proofs.LeafLines.Each.{AreEach, OfGaps, span-each}
use Rattle.proof_frame.proofs.SpanLaws.{AreAfter, IsLineOf}
use Rattle.proof_leaf_laws.proofs.GfmTable.Each.{OfTable, table-added_each}
use Rattle.proof_leaf_laws.proofs.GfmTable.Head.{head-each}
use Rattle.proof_leaf_laws.proofs.GfmTable.Span.{table-begins}
use Rattle.md_registry.proofs.Registry.{laws}
use Rattle.md_registry.proofs.UnderNames.{heads-table}
use Rattle.proof_rows.proofs.GroupLines.{AreSpan, Begins, IsSpanLine, following-first, line-further, line-of}
use Rattle.proof_rows.proofs.GroupLines.{span-begins}

-- Which leaf these lines are of, as the laws of such a leaf ask for them.
pub record AreOfLeaf (options : ParseOptions) (bytes : List ℕ) (row : Row) (rows : List Row) : Type 0 where
  pub name : LeafName
  pub open_leaf : (leaf name).ends ≡ false
  pub is : IsLineOf options bytes (leaf name) row
  pub first : (leaf name).further row.on ≡ false
  pub following : AreAfter options bytes (leaf (further_of name)) row rows

pub span-leaf : (options : ParseOptions) (bytes : List ℕ) (row : Row) (rows : List Row) →
    AreSpan options bytes row rows →
    Begins row → AreOfLeaf options bytes row rows
span-leaf options bytes row rows are begins =
    let is : IsSpanLine options bytes row = span-begins options bytes row rows are in
    record {
      name = is.name;
      open_leaf = is.open_leaf;
      is = line-of options bytes row is;
      first = line-further options bytes row is false begins;
      following = following-first options bytes row rows are;
    }

-- It is no table: that begins with its head.
begins-plain : (options : ParseOptions) (bytes : List ℕ) (l : LeafName) (row : Row) →
    IsLineOf options bytes (leaf l) row → (leaf l).further row.on ≡ false → (leaf l).heads ≡ false
begins-plain options bytes l row is begins = go (leaf l).heads refl
  where
    go : (x : Bool) → (leaf l).heads ≡ x → x ≡ false
    go true heads =
        let table : l ≡ registry.GfmTable = heads-table l heads in
        absurd
        (table-begins options row.on is.rest
        (subst (λ (m : LeafName). (leaf m).starts options row.on is.rest ≡ true) table is.starts)
        (subst (λ (m : LeafName). (leaf m).further row.on ≡ false) table begins))
    go false heads = refl

-- the one that takes its further lines is no table either
further-plain : (l : LeafName) → (leaf l).ends ≡ false → (leaf l).heads ≡ false →
    (ends : (leaf (further_of l)).ends ≡ false) × ((leaf (further_of l)).heads ≡ false)
further-plain registry.CodeIndented e h = (refl, refl)
further-plain registry.Fence e h = (refl, refl)
further-plain registry.HtmlFlow e h = (refl, refl)
further-plain _ e h = (e, h)

-- a leaf that a line may continue, and that takes no lazy lines, has several
lines-of : (on : HeldLeaf) → may_continue on ≡ true → takes_lazy on ≡ false → has_lines on ≡ true
lines-of held_leaf.Code may lazy = refl
lines-of _ may lazy = cc

-- its further lines continue no text
following-lined : (options : ParseOptions) (bytes : List ℕ) (l : LeafName) (row : Row) (rows : List Row) →
    (leaf l).ends ≡ false → (leaf l).heads ≡ false → takes_lazy row.following ≡ false →
    AreAfter options bytes (leaf l) row rows → AreEach IsLined rows
following-lined options bytes l row [] e h unlazy are = tt
following-lined options bytes l row (next ∷ rows) e h unlazy are =
    let is : IsLineOf options bytes (leaf l) next = are.6 in (
      prefixes-lined next.front (fronts-prefixes bytes [] are.0 next.first next.front refl are.3),
      subst AreLined (sym is.inside)
          ((laws l).lined e h options next.on is.rest next.first is.starts
          (λ f. lines-of next.on ((laws l).meets options next.on is.rest is.starts f) (ap takes_lazy are.4 ∙ unlazy))),
      following-lined options bytes l next rows e h
          (ap takes_lazy is.following ∙ ((laws l).not_lazy options next.on).1 is.rest) are.7,
    )

pub lines-hold : (L : List Event → Type 0) → OfGaps IsLined L → (options : ParseOptions) (bytes : List ℕ) (row : Row)
    (rows : List Row) → AreSpan options bytes row rows → Begins row → L (span_by (λ (r : Row). r.inside) row rows)
lines-hold L of options bytes row rows are begins =
    let leaf_is : AreOfLeaf options bytes row rows = span-leaf options bytes row rows are begins in
    let l : LeafName = leaf_is.name in
    let is : IsLineOf options bytes (leaf l) row = leaf_is.is in
    let plain : (leaf l).heads ≡ false = begins-plain options bytes l row is leaf_is.first in
    let more = further-plain l leaf_is.open_leaf plain in
    span-each IsLined L of row rows
    (subst AreLined (sym is.inside)
    ((laws l).lined leaf_is.open_leaf plain options row.on is.rest row.first is.starts
    (λ f. let bad : true ≡ false = sym f ∙ leaf_is.first in cc)))
    (following-lined options bytes (further_of l) row rows more.0 more.1
    (ap takes_lazy is.following ∙ ((laws l).not_lazy options row.on).1 is.rest) leaf_is.following)

-- Of tables: what holds of each event of a line, and of each prefix.

rows-each : (P : Event → Type 0) → OfTable P → ((e : Event) → IsNamed is_prefix e → P e) → (options : ParseOptions)
    (bytes : List ℕ) (row : Row) (rows : List Row) → AreAfter options bytes table_leaf row rows → AreEach P rows
rows-each P of prefix options bytes row [] are = tt
rows-each P of prefix options bytes row (next ∷ rows) are = (
  each-as (IsNamed is_prefix) P prefix next.front
      (fronts-prefixes bytes [] are.0 next.first next.front refl are.3),
  subst (Each P) (sym are.6.inside) (table-added_each P of options next.on (rest_line are.6.rest) next.first),
  rows-each P of prefix options bytes next rows are.7,
)

pub headed-each : (P : Event → Type 0) → OfTable P → ((p : Point) → P (enter n.GfmTable p)) →
    ((e : Event) → IsNamed is_prefix e → P e) → OfGaps P (Each P) → (options : ParseOptions) (bytes : List ℕ)
    (row next : Row) (rows : List Row) → AreAfter options bytes table_leaf row (next ∷ rows) →
    Each P (span_by (λ (r : Row). r.inside) (headed_row bytes row) (next ∷ rows))
headed-each P of begins prefix gaps options bytes row next rows are =
    span-each P (Each P) gaps (headed_row bytes row) (next ∷ rows)
    (head-each P of.of begins of.ends (row_line bytes row) row.first)
    (rows-each P of prefix options bytes row (next ∷ rows) are)
