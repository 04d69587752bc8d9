-- What the lines of a leaf of several are read as, with what follows them.
use Rattle.std.proofs.Common.{append_assoc, ◌≡◌, ℕ, Bool, true, false, cond, List, [], ◌∷◌, ◌++◌, length, refl, ap, sym}
use Rattle.std.proofs.Common.{◌∙◌, subst, inl, inr}
use Rattle.std.specs.Prelude.{nat_lt, None}
use Rattle.md_meaning.specs.Leaves.{Finished, Opened, LeafResult}
use Rattle.markdown_blocks.proofs.SpelledHeads.{heads-dark, span_tail}
use Rattle.proof_rows.proofs.TextFound.{front_before}
use Rattle.proof_frame.specs.HeldLeaf.{kind_of_leaf, left_by, may_continue, takes_lazy}
use Rattle.md_registry.specs.Registry.{further_of, leaf}
use Rattle.proof_frame.specs.Row.{is_blank_row, span_done, Row, ending_of}
use Rattle.proof_rows.specs.Rows.{front_done, onto_span, LeafLines, Group, groups_events, is_text}
use Rattle.proof_rows.proofs.LineSteps.{front-unlazy, with_result}
use Rattle.md_registry.proofs.SpanLeaves.{further-is, span-laws}
use Rattle.proof_rows.proofs.RowLeaf.{row-as}
use Rattle.proof_frame.proofs.SpanLaws.{IsLineOf, SpanLaws, becomes_after}
use Rattle.proof_rows.proofs.StepAfter.{became-spot}
use Rattle.proof_frame.specs.LeafName.{LeafName}
use Rattle.md_meaning.specs.Step.{became}
use Rattle.md_engine.specs.declared.configuration.ParseOptions.{ParseOptions}
use Rattle.md_engine.specs.declared.event.Event.{Event}
use Rattle.md_engine.specs.declared.event.Point.{Point}
use Rattle.md_events.specs.Events.Spelled.{Reading, read}
use Rattle.md_meaning.specs.State.{At, Leaf, NoLeaf, Path, Within, spot}
use Rattle.md_meaning.specs.Tree.{Block, Blocks}
use Rattle.md_events.proofs.SpelledLemmas.{read-from}
use Rattle.proof_frame.specs.Closed.{close_containers}
use Rattle.proof_rows.specs.Valid.{still_of, reading}
use Rattle.proof_frame.proofs.FrontFacts.{LinePrefix}
use Rattle.md_registry.proofs.Registry.{laws}
use Rattle.proof_frame.proofs.PrefixFacts.{begins}
use Rattle.proof_frame.proofs.Enters.{enters}
use Rattle.markdown_blocks.proofs.SpelledPaths.{reading-with, with_spot}
use Rattle.markdown_blocks.proofs.SpelledLines.{ending-role, read-fronts, read-tail}
use Rattle.markdown_blocks.proofs.SpelledGroups.{Follows, JoinsSpan, ReadsSpan, StartsSpan, first_becomes}

pub became-with : (options : ParseOptions) (heads : Bool) (p : Path) (c : LeafResult) →
    with_result options heads p c ≡ with_spot p (λ bs. became (front_before heads options bs (spot p).leaf) c)
became-with options heads (At s) c = refl
became-with options heads (Within before container p) c = ap (Within before container) (became-with options heads p c)

-- where no leaf is open
pub became-none : (options : ParseOptions) (heads : Bool) (p : Path) (c : LeafResult) → (spot p).leaf ≡ NoLeaf →
    with_result options heads p c ≡ with_spot p (λ bs. became bs c)
became-none options heads p c none =
    became-with options heads p c
    ∙ ap (λ (x : Leaf). with_spot p (λ bs. became (front_before heads options bs x) c)) none ∙ go heads
  where
    go : (x : Bool) → with_spot p (λ bs. became (front_before x options bs NoLeaf) c) ≡ with_spot p (λ bs. became bs c)
    go true = refl
    go false = refl

-- where one is open that is no text, and where it was opened
pub became-open : (options : ParseOptions) (heads : Bool) (p : Path) → takes_lazy (still_of p) ≡ false →
    with_result options heads p (Opened (spot p).leaf) ≡ p
became-open options heads (At s) unlazy =
    ap (λ (bs : Blocks). At (record { here = bs; leaf = s.leaf })) (front-unlazy heads options s.here s.leaf unlazy)
became-open options heads (Within before container p) unlazy =
    ap (Within before container) (became-open options heads p unlazy)

pub became-became : (options : ParseOptions) (heads : Bool) (p : Path) (open_leaf : Leaf) (c : LeafResult) →
    takes_lazy (kind_of_leaf open_leaf) ≡ false →
    with_result options heads (with_result options heads p (Opened open_leaf)) c ≡ with_result options heads p c
became-became options heads (At s) open_leaf c unlazy =
    ap (λ (bs : Blocks). At (became bs c))
    (front-unlazy heads options (front_before heads options s.here s.leaf) open_leaf unlazy)
became-became options heads (Within before container p) open_leaf c unlazy =
    ap (Within before container) (became-became options heads p open_leaf c unlazy)

-- what may be continued is open
pub may-opened : (c : LeafResult) → may_continue (kind_of_leaf (left_by c)) ≡ true → c ≡ Opened (left_by c)
may-opened (Opened open_leaf) e = refl
may-opened (Finished block) e = cc

pub span-alike : (options : ParseOptions) (bytes : List ℕ) (l : LeafName) (p q : Path) (become : LeafResult) (row : Row)
    (gs : List Group) (last : Reading) →
    ((c : LeafResult) →
    reading options (with_result options (leaf l).heads p c) ≡
    reading options (with_result options (leaf l).heads q c)) →
    ReadsSpan options bytes l p become row gs last → ReadsSpan options bytes l q become row gs last
span-alike options bytes l p q become row gs last alike is = record {
  rows = is.rows;
  below = is.below;
  groups_are = is.groups_are;
  are = is.are;
  dark = is.dark;
  following =
      ap (λ (r : Reading). read bytes r (span_tail row is.rows ++ groups_events options bytes is.below))
      (sym (alike (becomes_after options bytes (leaf l) row is.rows is.are become)))
      ∙ is.following;
}

-- a line of a leaf, where another continues it
span-joined : (options : ParseOptions) (bytes : List ℕ) (l : LeafName) (p : Path) (become : LeafResult) (row : Row)
    (gs : List Group) (last : Reading) →
    (joins : JoinsSpan options bytes (with_result options (leaf l).heads p become) row gs last) →
    (next : StartsSpan options bytes l (with_result options (leaf l).heads p become) joins.after joins.next gs last) →
    become ≡ Opened (left_by become) → takes_lazy (kind_of_leaf (left_by become)) ≡ false →
    ReadsSpan options bytes l p become row (onto_span row gs) last
span-joined options bytes l p become row gs last joins next opened unlazy = record {
  rows = joins.next ∷ rows;
  below = below;
  groups_are =
      ap (onto_span row) next.reads.groups_are
      ∙ ap
      (λ (x : Bool).
      cond x (LeafLines row (joins.next ∷ rows) ∷ below) (LeafLines row [] ∷ LeafLines joins.next rows ∷ below))
      joins.further;
  are = (
    joins.after,
    joins.after_is,
    joins.ending,
    joins.fronts,
    joins.on,
    next.further,
    row-as options bytes next.line joins.next next.is l next.kind,
    next.reads.are,
  );
  dark = (heads-dark options bytes next.line joins.next l next.is next.kind next.further, next.reads.dark);
  following =
      ap (λ (r : Reading). read bytes r (span_tail joins.next rows ++ groups_events options bytes below))
      (sym (ap (to (with_result options heads p become)) first ∙ ap (reading options) (twice (becomes_to other))))
      ∙ next.reads.following;
}
  where
    rows : List Row
    rows = next.reads.rows

    below : List Group
    below = next.reads.below

    becomes_to : LeafResult → LeafResult
    becomes_to c = becomes_after options bytes (leaf l) joins.next rows next.reads.are c

    heads : Bool
    heads = (leaf l).heads

    to : Path → LeafResult → Reading
    to x c = reading options (with_result options heads x (becomes_to c))

    in_text : Bool
    in_text = nat_lt joins.after.index (length bytes)

    other : LeafResult
    other = cond in_text ((leaf l).becomes options (left_by become) next.is.rest) become

    first : first_becomes options bytes l (with_result options heads p become) joins.after next.is.rest ≡ other
    first =
        ap (λ (x : Leaf). cond in_text ((leaf l).becomes options x next.is.rest) (Opened x))
        (became-spot options heads p become)
        ∙ ap (λ (c : LeafResult). cond in_text ((leaf l).becomes options (left_by become) next.is.rest) c) (sym opened)

    twice : (c : LeafResult) → with_result options heads (with_result options heads p become) c ≡
        with_result options heads p c
    twice c =
        ap (λ (d : LeafResult). with_result options heads (with_result options heads p d) c) opened
        ∙ became-became options heads p (left_by become) c unlazy

-- a line of a leaf, and what follows
pub span-rows : (options : ParseOptions) (bytes : List ℕ) (l m : LeafName) (p : Path) (become : LeafResult) (row : Row)
    (gs : List Group) (last : Reading) →
    is_text row.kind ≡ false → further_of m ≡ l → IsLineOf options bytes (leaf m) row →
    Follows options bytes (with_result options (leaf l).heads p become) row gs last →
    ReadsSpan options bytes l p become row (onto_span row gs) last
span-rows options bytes l m p become row gs last other same is (inl parts) = record {
  rows = [];
  below = gs;
  groups_are = parts.alone;
  are = tt;
  dark = tt;
  following =
      let s : Reading = reading options (with_result options (leaf l).heads p become) in
      read-from bytes s (close_containers (length row.closed_after) s) (span_tail row [])
      (groups_events options bytes gs)
      (read-tail bytes (ending_of row.kind row) row s (ending-role (is_blank_row row)) refl refl)
      ∙ parts.reads;
}
span-rows options bytes l m p become row gs last other same is (inr (inl joins)) = let text = joins.text in cc
span-rows options bytes l m p become row gs last other same is (inr (inr (inr joins))) = let text = joins.text in cc
span-rows options bytes l m p become row gs last other same is (inr (inr (inl joins))) =
    let left : kind_of_leaf (left_by become) ≡ row.following =
    ap kind_of_leaf (sym (became-spot options (leaf l).heads p become)) ∙ joins.still in
    let name : joins.name ≡ l = further-is m joins.name options row.on is.rest
    (ap (leaf joins.name).further (sym (joins.on ∙ is.following)) ∙ joins.starts.further)
    ∙ same in
    span-joined options bytes l p become row gs last joins
    (subst
    (λ (k : LeafName).
    StartsSpan options bytes k (with_result options (leaf l).heads p become) joins.after joins.next gs last) name
    joins.starts)
    (may-opened become (ap may_continue left ∙ joins.may))
    (ap takes_lazy (left ∙ is.following) ∙ ((laws m).not_lazy options row.on).1 is.rest)

-- a line that begins a leaf is read with those that continue it
pub begun-reads : (options : ParseOptions) (bytes : List ℕ) (l : LeafName) (o : Path) (row : Row) (gs : List Group)
    (last : Reading) →
    (leaf l).ends ≡ false → (is : IsLineOf options bytes (leaf l) row) → (leaf l).further row.on ≡ false →
    (spot o).leaf ≡ NoLeaf → (begin : Reading) → begin ≡ reading options o →
    (spans : ReadsSpan options bytes (further_of l) o ((leaf l).becomes options NoLeaf is.rest) row gs last) →
    read bytes begin
    (span_done bytes row spans.rows ++ (span_tail row spans.rows ++ groups_events options bytes spans.below)) ≡
    last
begun-reads options bytes l o row gs last ends is begins none begin same spans =
    let laws : SpanLaws (leaf l) (leaf (further_of l)) = span-laws l ends in
    let become : LeafResult = becomes_after options bytes (leaf (further_of l)) row spans.rows spans.are
    ((leaf l).becomes options NoLeaf is.rest) in
    let block : Block = laws.block options bytes row spans.rows is spans.are in
    let whole : List Event = span_done bytes row spans.rows in
    let heads : Bool = (leaf (further_of l)).heads in
    let new : Reading = reading options (with_result options heads o become) in
    read-from bytes begin new whole (span_tail row spans.rows ++ groups_events options bytes spans.below)
    (ap (λ (x : Reading). read bytes x whole) same
    ∙ (laws.facts options bytes row spans.rows is begins spans.are).reads (reading options o) refl refl
    ∙ ap (λ (bs : Blocks). record (reading options o) { here = bs })
    (sym (laws.shuts options bytes row spans.rows is begins spans.are (reading options o).here))
    ∙ sym (reading-with options o (λ bs. became bs become) none)
    ∙ ap (reading options) (sym (became-none options heads o become none)))
    ∙ spans.following

-- and with what is before it
pub starts-read : (options : ParseOptions) (bytes : List ℕ) (l : LeafName) (o : Path) (row : Row) (gs : List Group)
    (last : Reading) →
    (leaf l).ends ≡ false → (is : IsLineOf options bytes (leaf l) row) → (leaf l).further row.on ≡ false →
    (spot o).leaf ≡ NoLeaf → (a : Point) → LinePrefix bytes row.change.opens a row.first (front_done bytes row) →
    (start : Reading) → start.text ≡ None → start.leaf ≡ None → enters row.change.opens start ≡ reading options o →
    ReadsSpan options bytes (further_of l) o ((leaf l).becomes options NoLeaf is.rest) row gs last →
    read bytes start (groups_events options bytes gs) ≡ last
starts-read options bytes l o row gs last ends is begins none a front start text shut same spans =
    let whole : List Event = span_done bytes row spans.rows in
    let tail : List Event = span_tail row spans.rows in
    ap (λ (gs : List Group). read bytes start (groups_events options bytes gs)) spans.groups_are
    ∙ ap (read bytes start)
    (append_assoc (front_done bytes row ++ whole) tail (groups_events options bytes spans.below)
    ∙ append_assoc (front_done bytes row) whole (tail ++ groups_events options bytes spans.below))
    ∙ read-from bytes start (enters row.change.opens start) (front_done bytes row)
    (whole ++ (tail ++ groups_events options bytes spans.below))
    (read-fronts bytes row.change.opens a row.first (front_done bytes row) start front text shut)
    ∙ begun-reads options bytes l o row gs last ends is begins none (enters row.change.opens start) same spans
