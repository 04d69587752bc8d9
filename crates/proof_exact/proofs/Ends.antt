-- Which containers end after a line: those that do not continue in the next one, unless that is lazy.
use Rattle.std.proofs.Common.{◌≡◌, ℕ, Bool, true, false, cond, ◌&&◌, List, [], ◌∷◌, ◌++◌, length, drop, refl, sym, ap}
use Rattle.std.proofs.Common.{ap₂, ◌∙◌}
use Rattle.std.specs.Prelude.{◌==◌, not, Option, Some, None}
use Rattle.std.specs.Option.{is_some}
use Rattle.std.proofs.Math.Seq.{drop-length}
use Rattle.std.proofs.lemmas.Bool.{and_right}
use Rattle.std.proofs.lemmas.List.{length-map}
use Rattle.md_engine.specs.declared.configuration.ParseOptions.{ParseOptions}
use Rattle.md_engine.specs.declared.event.Event.{Event}
use Rattle.md_engine.specs.declared.event.Name.{Name}
use Rattle.md_engine.specs.declared.event.Point.{Point}
use Rattle.md_engine.specs.declared.tokenizer.held_leaf.HeldLeaf.{HeldLeaf}
use Rattle.md_engine.specs.declared.tokenizer.held_leaf.HeldLeaf.TheVariants as held_leaf
use Rattle.md_meaning.specs.Containers.{Taken}
use Rattle.md_meaning.specs.Leaves.{LeafResult, NoText, is_continued, starts}
use Rattle.md_meaning.specs.Rest.{Rest, is_blank}
use Rattle.md_meaning.specs.State.{Container, InFootnote, InItem, InQuote, Leaf, NoLeaf, OpenCode, OpenFence, OpenHtml}
use Rattle.md_meaning.specs.State.{OpenParagraph, OpenTable, Path, spot}
use Rattle.md_meaning.specs.Step.{step, with_lazy}
use Rattle.md_events.specs.Events.Nested.{exit}
use Rattle.md_events.specs.Exact.Places.{TextLine, line_end, place, whole}
use Rattle.md_events.specs.Exact.Prefixes.{following_all, containers, taken_prefixes, new_containers}
use Rattle.md_events.specs.Exact.Rows as exact
use Rattle.md_events.specs.Exact.Rows.{Blank, First, FirstText, Further, FurtherText, Role, first_or, next_stays, role_on}
use Rattle.md_events.specs.Exact.Rows.{row_of, rows_of}
use Rattle.proof_frame.specs.Change.{Change, change_by, ends_of, is_none, open_following, others_of}
use Rattle.proof_frame.specs.ContainerNames.{container_name}
use Rattle.proof_frame.specs.HeldLeaf.{kind_of_leaf, lazy_of, met_by, takes_lazy}
use Rattle.proof_frame.specs.Row.{BlankRow, LeafRow, Row, RowKind, TextRow}
use Rattle.md_registry.specs.OpenSpan.{IsBuiltLeaf}
use Rattle.md_registry.specs.Registry.{leaf}
use Rattle.proof_rows.specs.Fronted.{Contained}
use Rattle.proof_rows.specs.Rows.{closes_before, is_text, line_kind}
use Rattle.proof_rows.specs.Valid.{IsPlain, containers_of, still_of}
use Rattle.proof_exact_lines.specs.Unlisted.{plain_ends, without_lists}
use Rattle.proof_exact_lines.proofs.RowEvents.{ends-plain}
use Rattle.proof_exact.proofs.ExactRoles.{AreMet, contained-by, contained_at, none-new}
use Rattle.proof_rows.proofs.KindRoles.{further_role, kind_role, lazy-role, lazy_role}
use Rattle.proof_exact.proofs.Opened.{all-same, containers-same, held_in}
use Rattle.proof_exact.proofs.RowsMet.{KnowsStep}
use Rattle.proof_rows.proofs.ContainedLemmas.{none-nil}

-- A line continues the open text although not all containers continue, just if it is text.

abbrev is_further_text : Role → Bool
is_further_text FurtherText = true
is_further_text role = false

further-none : (open_leaf : Leaf) (heads : Bool) → is_further_text (further_role open_leaf heads) ≡ false
further-none (OpenParagraph lines) true = refl
further-none (OpenParagraph lines) false = refl
further-none NoLeaf heads = refl
further-none (OpenCode lines) heads = refl
further-none (OpenFence o lines) heads = refl
further-none (OpenHtml kind lines) heads = refl
further-none (OpenTable delimiter rows) heads = refl

and-all : (x : Bool) → x ≡ (x && true)
and-all true = refl
and-all false = refl

kind-text : (options : ParseOptions) (open_leaf : Leaf) (on : HeldLeaf) (r : Rest) (kind : RowKind) →
    is_further_text (kind_role options open_leaf on r kind) ≡ (takes_lazy on && is_text kind)
kind-text options open_leaf on r BlankRow = sym (and_right (takes_lazy on) false refl)
kind-text options open_leaf on r (LeafRow l) = go ((leaf l).further on) ∙ sym (and_right (takes_lazy on) false refl)
  where
    go : (x : Bool) →
        is_further_text (cond x (further_role open_leaf (leaf l).heads) (First ((leaf l).becomes options NoLeaf r))) ≡
        false
    go true = further-none open_leaf (leaf l).heads
    go false = refl
kind-text options open_leaf on r TextRow = go (takes_lazy on) ∙ and-all (takes_lazy on)
  where
    go : (x : Bool) → is_further_text (cond x FurtherText FirstText) ≡ x
    go true = refl
    go false = refl

-- by the line definition
lazy-text : (options : ParseOptions) (open_leaf : Leaf) (r : Rest) →
    is_further_text (lazy_role options open_leaf r) ≡ is_some (with_lazy options open_leaf r)
lazy-text options open_leaf r = go (is_some (with_lazy options open_leaf r))
  where
    plain : (x y : Bool) (o : Option LeafResult) →
        is_further_text (cond x (Further NoLeaf) (cond y Blank (first_or FirstText o))) ≡ false
    plain true y o = refl
    plain false true o = refl
    plain false false None = refl
    plain false false (Some c) = refl

    go : (x : Bool) → is_further_text (cond x FurtherText (role_on options NoLeaf r)) ≡ x
    go true = refl
    go false = plain (is_some (is_continued options NoLeaf r)) (is_blank r.bytes) (starts options NoText r)

lazy-takes : (held : HeldLeaf) → takes_lazy (lazy_of held) ≡ takes_lazy held
lazy-takes (held_leaf.Text at) = refl
lazy-takes (held_leaf.LazyText at) = refl
lazy-takes held_leaf.None = refl
lazy-takes held_leaf.Code = refl
lazy-takes (held_leaf.Fence marker size indent) = refl
lazy-takes (held_leaf.Html kind) = refl
lazy-takes held_leaf.Table = refl

lazy-same : (options : ParseOptions) (open_leaf : Leaf) (r : Rest) → IsBuiltLeaf open_leaf →
    is_some (with_lazy options open_leaf r) ≡
    (takes_lazy (kind_of_leaf open_leaf) && is_text (line_kind options (met_by false (kind_of_leaf open_leaf)) r))
lazy-same options open_leaf r built =
    let on : HeldLeaf = met_by false (kind_of_leaf open_leaf) in
    sym (lazy-text options open_leaf r)
    ∙ ap is_further_text (lazy-role options r open_leaf built)
    ∙ kind-text options open_leaf on r (line_kind options on r)
    ∙ ap (λ (x : Bool). x && is_text (line_kind options on r)) (lazy-takes (kind_of_leaf open_leaf))

-- Those that do not stay on a line are those that the line ends.

pub stays-same : (options : ParseOptions) (p : Path) (line : TextLine) (below : List exact.Row) → IsPlain p →
    drop (row_of options p line below).stays (containers p) ≡
    (contained_at options p (whole line)).change.closes
stays-same options p line below plain =
    ap (λ (cs : List Container). drop (stays all none (length cs)) cs) (containers-same p)
    ∙ go all none (sym (all-same options p (whole line)))
    ∙ ap
    (λ (x : Bool). (change_by (takes_lazy still && x && is_text (kind_at x)) (held_in on) others (held_in new)).closes)
    (sym (none-new new))
    ∙ sym (ap (λ (c : Contained). c.change.closes) (contained-by options p line plain))
  where
    on : List Taken
    on = taken_prefixes options p (whole line)

    all : Bool
    all = length on == length (containers p)

    inner : Rest
    inner = following_all (whole line) on

    new : List Taken
    new = new_containers options p all inner

    none : Bool
    none = length new == 0

    rest : Rest
    rest = following_all inner new

    still : HeldLeaf
    still = still_of p

    others : List Container
    others = others_of (containers_of p) (held_in on)

    -- how many stay of so many
    stays : Bool → Bool → ℕ → ℕ
    stays a n size = cond (not a && n && is_some (with_lazy options (spot p).leaf rest)) size (length on)

    -- what the line is, where none opens and where one does
    kind_at : Bool → RowKind
    kind_at x = line_kind options (cond x (met_by (is_none others) still) held_leaf.None) rest

    left : drop (length on) (containers_of p) ≡ others
    left =
        ap (λ (n : ℕ). drop n (containers_of p)) (sym (length-map on (λ (t : Taken). t.container)))

    closes : (x : Bool) → List Container
    closes x = (change_by x (held_in on) others (held_in new)).closes

    no_others : (x : Bool) → others ≡ [] → others ≡ closes x
    no_others true e = e
    no_others false e = refl

    opens : (t k : Bool) → others ≡ closes (t && false && k)
    opens true k = refl
    opens false k = refl

    lazy : (x : Bool) → drop (cond x (length (containers_of p)) (length on)) (containers_of p) ≡ closes x
    lazy true = drop-length (containers_of p)
    lazy false = left

    meets : (t k : Bool) → (t && k) ≡ (t && true && k)
    meets true k = refl
    meets false k = refl

    go : (a n : Bool) → is_none others ≡ a →
        drop (stays a n (length (containers_of p))) (containers_of p) ≡
        closes (takes_lazy still && n && is_text (kind_at n))
    go true n e = left ∙ no_others (takes_lazy still && n && is_text (kind_at n)) (none-nil others e)
    go false false e = left ∙ opens (takes_lazy still) (is_text (kind_at false))
    go false true e =
        lazy (is_some (with_lazy options (spot p).leaf rest))
        ∙ ap closes
        (lazy-same options (spot p).leaf rest plain
        ∙ ap
        (λ (x : Bool). takes_lazy still && is_text (line_kind options (met_by x still) rest)) (sym e)
        ∙ meets (takes_lazy still) (is_text (kind_at true)))

-- Their ends.

name-same : (c : Container) → exact.container_name c ≡ container_name c
name-same (InQuote kind) = refl
name-same (InItem digits marker width starts_blank) = refl
name-same (InFootnote label) = refl

plain-same : (cs : List Container) (p : Point) → plain_ends cs p ≡ ends_of cs p
plain-same [] p = refl
plain-same (c ∷ cs) p =
    ap₂ (λ (es : List Event) (name : Name). es ++ exit name p ∷ []) (plain-same cs p) (name-same c)

-- those that end after a line, by the lines after it
closed-same : (options : ParseOptions) (bytes : List ℕ) (p : Path) (lines : List TextLine) (rows : List Row)
    (open_now : List Container) →
    containers_of p ≡ open_now → AreMet options bytes p lines rows →
    drop (next_stays (rows_of options p lines)) (containers p) ≡ closes_before open_now rows
closed-same options bytes p [] [] open_now is are = containers-same p ∙ is
closed-same options bytes p [] (row ∷ rows) open_now is are = absurd are
closed-same options bytes p (line ∷ lines) [] open_now is are = absurd are
closed-same options bytes p (line ∷ lines) (row ∷ rows) open_now is are =
    stays-same options p line (rows_of options (step options p (whole line)) lines) are.0.plain
    ∙ sym (ap (λ (c : Change). c.closes) are.0.change)

pub line-ends : (options : ParseOptions) (bytes : List ℕ) (p : Path) (line : TextLine) (row : Row)
    (lines : List TextLine) (rows : List Row) →
    KnowsStep options → AreMet options bytes p (line ∷ lines) (row ∷ rows) →
    row.closed_after ≡ closes_before (open_following row.change) rows → place line (line_end line) ≡ row.end →
    without_lists (row_of options p line (rows_of options (step options p (whole line)) lines)).ends ≡
    ends_of row.closed_after row.end
line-ends options bytes p line row lines rows knows are closed end =
    let after : Path = step options p (whole line) in
    ends-plain options p line (rows_of options after lines)
    ∙ ap₂ plain_ends
    (closed-same options bytes after lines rows (open_following row.change)
    (knows.containers p (whole line) are.0.plain ∙ sym (ap open_following are.0.change)) are.2
    ∙ sym closed) end
    ∙ plain-same row.closed_after row.end
