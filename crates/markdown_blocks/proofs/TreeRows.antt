-- The tree of a text where only constructs that are built may be on is what the events of its lines are read as, with
-- lists around their items.
use Rattle.md_engine.specs.declared.tokenizer.held_leaf.HeldLeaf.TheVariants as held_leaf
use Rattle.md_engine.specs.declared.tokenizer.held_leaf.HeldLeaf.{HeldLeaf}
use Rattle.std.proofs.Common.{◌≡◌, ℕ, zero, suc, ◌-◌, Bool, true, false, cond, not, ◌==◌, ◌&&◌, ◌||◌, List, [], ◌∷◌}
use Rattle.md_meaning.specs.Leaves.{LeafResult}
use Rattle.md_meaning.specs.State.{OpenParagraph, spot, At, Container, ParagraphLine, Leaf, Path, Innermost, Within}
use Rattle.md_meaning.specs.State.{closed, container_block, kept, shut, texts, then_block, then_leaf}
use Rattle.md_registry.proofs.Registry.{insider-none, text-laws}
use Rattle.proof_rows.specs.Rows.{is_further, is_inside, takes_head, groups, groups_events, is_lazy, line_kind}
use Rattle.proof_rows.specs.Fronted.{prefixes_after, Contained, Prefixed, contained, no_prefix, one_more, prefixes_new}
use Rattle.proof_rows.specs.Fronted.{prefixes_on, contained_after, contained_of}
use Rattle.proof_frame.specs.Change.{against, change_by, interrupts, others_of, Change}
use Rattle.std.proofs.Common.{◌++◌, map, length, drop, take, refl, ap, sym, ◌∙◌, subst, inl, inr, ◌⊎◌}
use Rattle.std.specs.Prelude.{Option, Some, None}
use Rattle.std.specs.List.{onto_first}
use Rattle.std.proofs.lemmas.List.{map-append}
use Rattle.std.proofs.lemmas.List.Sums.{take_while-cons}
use Rattle.md_engine.specs.declared.configuration.ParseOptions.{ParseOptions}
use Rattle.md_engine.specs.declared.event.Point.{Point}
use Rattle.md_meaning.specs.Containers.{Taken, continues, opens}
use Rattle.md_meaning.specs.Grouped.{grouped}
use Rattle.md_meaning.specs.Lines.{begins_with, ends_line, full_lines_of, is_ending, lines_of, without_ending}
use Rattle.md_meaning.specs.Meaning.{tree, with_frontmatter}
use Rattle.md_meaning.specs.Preamble.{Preamble, rest_at, rests_at}
use Rattle.md_meaning.specs.Rest.{Rest}
use Rattle.md_events.specs.Events.Spelled.{spelled, without_last}
use Rattle.md_meaning.specs.Step.{spot_of, step, steps}
use Rattle.md_meaning.specs.Texts.{split_lines}
use Rattle.md_meaning.specs.Tree.{Blocks, End}
use Rattle.md_meaning.proofs.LinesLemmas.{without_ending-onto}
use Rattle.markdown_blocks.specs.Fed.{rests_from}
use Rattle.proof_rows.specs.WithoutMdx.{IsWithoutMdx}
use Rattle.proof_frame.specs.TextLines.{text_leaf}
use Rattle.proof_frame.specs.Row.{BlankRow, LeafRow, Row, RowKind, TextRow}
use Rattle.md_registry.specs.OpenSpan.{IsBuiltLeaf, IsOpenSpan}
use Rattle.proof_rows.specs.Valid.{IsPlain, containers_of, still_of}
use Rattle.proof_rows.proofs.ContainedLemmas.{contained-kinds, contained-still, lines-open}
use Rattle.proof_rows.proofs.KindLemmas.{kind-plain}
use Rattle.proof_rows.proofs.LineSteps.{after_path, becomes_by, contained_at, further_path, continues_further}
use Rattle.proof_rows.proofs.LineSteps.{continues_lazy, kept_to, longer, new_line, path_by, renewed, spot_by}
use Rattle.proof_rows.proofs.LineSteps.{step-contained, with_result}
use Rattle.proof_rows.proofs.FurtherSpan.{FurtherSpan, further-span, other_kind}
use Rattle.md_registry.proofs.OpenSpan.{BecomesShallow}
use Rattle.markdown_blocks.proofs.LastLine.{no_bytes, no_rests, step_over, steps_over, recorded}
use Rattle.proof_rows.proofs.StepAfter.{IsContinued, begun-leaf, further-unlazy, proceeds-on, plain-step, span-open}
use Rattle.proof_frame.specs.HeldLeaf.{has_lines, takes_lazy}
use Rattle.proof_rows.proofs.RowFacts as f
use Rattle.markdown_blocks.proofs.SpelledRows.{spelled-rows}
use Rattle.proof_rows.proofs.TextFound.{front_before}
use Rattle.proof_frame.proofs.ShallowBlocks.{shallow-then}
use Rattle.proof_content_laws.proofs.Paragraph.Laws.{shallow-front}
use Rattle.proof_frame.proofs.RegistryRead.{AreRead, IsRead, IsReadTaken, kinds-read, read-front}
use Rattle.md_registry.proofs.RegistryContainers.{opens-read, over-empty, read-shallow}
use Rattle.md_outline.specs.HeadingDepths.{are_shallow}
use Rattle.proof_rows.proofs.Begun.{IsBegun}
use Rattle.md_engine.specs.declared.event.Event.{Event}

-- Containers that flow reads alone are open: those that stay on a line,
read-stay : (options : ParseOptions) (p : Path) (r : Rest) → AreRead (containers_of p) →
    AreRead (contained_at options p r).change.stays
read-stay options p r h =
    let change = (contained_at options p r).change in
    read-front change.stays change.closes
    (kinds-read (change.stays ++ change.closes) (containers_of p)
    (contained-kinds options (containers_of p) (still_of p) r) h)

read-new : (options : ParseOptions) (interrupting : Bool) (n : ℕ) (r : Rest) → IsWithoutMdx options →
    AreRead (prefixes_new options interrupting n r).containers
read-new options interrupting zero r built = tt
read-new options interrupting (suc n) r built =
    go (λ s. read-new options false n s built) (opens options interrupting r) (opens-read options interrupting r)
  where
    by : Option Taken → Prefixed
    by o = elim o [ None ↦ no_prefix r | Some t ↦ one_more t.container (prefixes_new options false n t.rest) ]

    go : ((s : Rest) → AreRead (prefixes_new options false n s).containers) → (o : Option Taken) → IsReadTaken o →
        AreRead (by o).containers
    go below None read = tt
    go below (Some t) read = (read, below t.rest)

-- and those that open on it
read-open : (options : ParseOptions) (cs : List Container) (still : HeldLeaf) (r : Rest) → IsWithoutMdx options →
    AreRead (contained options cs still r).change.opens
unfolding contained
read-open options cs still r built =
    go (is_lazy still new.containers (line_kind options
    (against still (others_of cs on.containers) new.containers) new.rest))
  where
    on : Prefixed
    on = prefixes_on options cs r

    interrupting : Bool
    interrupting = interrupts still (others_of cs on.containers)

    new : Prefixed
    new = prefixes_after options still (others_of cs on.containers) on

    read : (x : Bool) →
        AreRead
        (cond x (no_prefix on.rest) (prefixes_new options interrupting (length on.rest.bytes) on.rest)).containers
    read true = tt
    read false = read-new options interrupting (length on.rest.bytes) on.rest built

    go : (x : Bool) → AreRead (change_by x on.containers (others_of cs on.containers) new.containers).opens
    go true = read (is_inside still (others_of cs on.containers))
    go false = read (is_inside still (others_of cs on.containers))

-- Paths.

-- of containers that flow reads, and blocks in them that an outline can show
abbrev HoldsShallow : Path → Type 0
HoldsShallow (At s) = are_shallow s.here ≡ true
HoldsShallow (Within before container p) = (are_shallow before ≡ true) × IsRead container × HoldsShallow p

shallow-read : (p : Path) → HoldsShallow p → AreRead (containers_of p)
shallow-read (At s) h = tt
shallow-read (Within before container p) h = (h.1, shallow-read p h.2)

shallow-shut : (options : ParseOptions) (s : Innermost) → IsWithoutMdx options → IsBuiltLeaf s.leaf →
    are_shallow s.here ≡ true →
    are_shallow (shut options s) ≡ true
shallow-shut options s built plain h =
    text-laws.cases IsOpenSpan (λ (leaf : Leaf). are_shallow (then_leaf options s.here leaf) ≡ true) h text
    (λ l is. (further-span l is).closed options s.here h) s.leaf plain
  where
    text : (k : ParagraphLine) (ks : List ParagraphLine) →
        are_shallow (then_leaf options s.here (text_leaf.held (k ∷ ks))) ≡ true
    text k ks =
        subst (λ (bs : Blocks). are_shallow bs ≡ true) (sym (text-laws.shut options s.here (k ∷ ks)))
        (text-laws.shallow options s.here (texts (k ∷ ks)) h)

shallow-closed : (options : ParseOptions) (p : Path) → IsWithoutMdx options → IsPlain p → HoldsShallow p →
    are_shallow (closed options p) ≡ true
shallow-closed options (At s) built plain h = shallow-shut options s built plain h
shallow-closed options (Within before container p) built plain h =
    let below : are_shallow (closed options p) ≡ true = shallow-closed options p built plain h.2 in
    shallow-then before (container_block container (closed options p)) h.0
    (read-shallow container (closed options p) h.1 below)

shallow-kept : (options : ParseOptions) (cs : List Container) (p : Path) → IsWithoutMdx options → IsPlain p →
    AreRead cs →
    HoldsShallow p → HoldsShallow (kept_to options cs p)
shallow-kept options [] p built plain read h = shallow-closed options p built plain h
shallow-kept options (c ∷ cs) (At s) built plain read h = shallow-shut options s built plain h
shallow-kept options (c ∷ cs) (Within before container p) built plain read h =
    (h.0, read.0, shallow-kept options cs p built plain read.1 h.2)

shallow-renewed : (cs : List Container) (p : Path) → AreRead cs → HoldsShallow p → HoldsShallow (renewed cs p)
shallow-renewed [] p read h = h
shallow-renewed (c ∷ cs) (At s) read h = h
shallow-renewed (c ∷ cs) (Within before container p) read h = (h.0, read.0, shallow-renewed cs p read.1 h.2)

shallow-longer : (p : Path) (lines : List ParagraphLine) → HoldsShallow p → HoldsShallow (longer p lines)
shallow-longer (At s) lines h = h
shallow-longer (Within before container p) lines h = (h.0, h.1, shallow-longer p lines h.2)

shallow-following : (p : Path) (f : Blocks → Path) → HoldsShallow p →
    ((bs : Blocks) → are_shallow bs ≡ true → HoldsShallow (f bs)) → HoldsShallow (after_path p f)
shallow-following (At s) f h each = each s.here h
shallow-following (Within before container p) f h each = (h.0, h.1, shallow-following p f h.2 each)

shallow-before : (heads : Bool) (options : ParseOptions) (bs : Blocks) (open_leaf : Leaf) → are_shallow bs ≡ true →
    are_shallow (front_before heads options bs open_leaf) ≡ true
shallow-before true options bs (OpenParagraph lines) h = text-laws.shallow options bs (texts (without_last lines)) h
shallow-before true options bs _ h = h
shallow-before false options bs open_leaf h = shallow-front options bs open_leaf h

shallow-became : (options : ParseOptions) (heads : Bool) (p : Path) (c : LeafResult) → BecomesShallow c →
    HoldsShallow p →
    HoldsShallow (with_result options heads p c)
shallow-became options heads (At s) c shallow h =
    shallow (front_before heads options s.here s.leaf) (shallow-before heads options s.here s.leaf h)
shallow-became options heads (Within before container p) c shallow h =
    (h.0, h.1, shallow-became options heads p c shallow h.2)

shallow-line : (options : ParseOptions) (on : HeldLeaf) (bs : Blocks) (r : Rest) →
    is_further (line_kind options on r) on ≡ false → are_shallow bs ≡ true →
    are_shallow (spot_by options bs [] r (line_kind options on r)).here ≡ true
shallow-line options on bs r begins h = go (line_kind options on r) refl
  where
    go : (kind : RowKind) → line_kind options on r ≡ kind → are_shallow (spot_by options bs [] r kind).here ≡ true
    go BlankRow e = h
    go (LeafRow l) e = (begun-leaf options on r begins l e).shallow bs h
    go TextRow e = h

shallow-new_line : (options : ParseOptions) (on : HeldLeaf) (cs : List Container) (r : Rest) (bs : Blocks) →
    is_further (line_kind options on r) on ≡ false → AreRead cs → are_shallow bs ≡ true →
    HoldsShallow (new_line options on cs r bs)
shallow-new_line options on [] r bs begins read h = shallow-line options on bs r begins h
shallow-new_line options on (c ∷ cs) r bs begins read h =
    (h, read.0, shallow-new_line options on cs r End begins read.1 refl)

shallow-further : (options : ParseOptions) (p : Path) (c : Contained) → IsContinued options p c →
    AreRead c.change.stays →
    HoldsShallow p → HoldsShallow (further_path options p c)
shallow-further options p c proceeds stay h =
    shallow-became options (takes_head (line_kind options c.on c.rest)) (renewed c.change.stays p)
    (becomes_by options (spot p).leaf c.rest (line_kind options c.on c.rest))
    (subst (λ (kind : RowKind). BecomesShallow (becomes_by options (spot p).leaf c.rest kind)) (sym proceeds.kind)
    proceeds.is.shallow) (shallow-renewed c.change.stays p stay h)

shallow-step : (options : ParseOptions) (p : Path) (r : Rest) → IsWithoutMdx options → IsPlain p → HoldsShallow p →
    HoldsShallow (step options p r)
shallow-step options p r built plain h =
    subst HoldsShallow (sym (step-contained options p r built plain))
    (go (continues_lazy options p c) (continues_further options c) refl)
  where
    c : Contained
    c = contained_at options p r

    stay : AreRead c.change.stays
    stay = read-stay options p r (shallow-read p h)

    open_new : AreRead c.change.opens
    open_new = read-open options (containers_of p) (still_of p) r built

    go : (x y : Bool) → continues_further options c ≡ y → HoldsShallow (path_by options p c x y)
    go true y e =
        shallow-longer (renewed c.change.stays p) (kept c.rest ∷ []) (shallow-renewed c.change.stays p stay h)
    go false true e = shallow-further options p c (proceeds-on options p r plain e) stay h
    go false false e =
        shallow-following (kept_to options c.change.stays p) (new_line options c.on c.change.opens c.rest)
        (shallow-kept options c.change.stays p built plain stay h)
        (λ bs k. shallow-new_line options c.on c.change.opens c.rest bs e open_new k)

plain-steps : (options : ParseOptions) (p : Path) (rs : List Rest) → IsWithoutMdx options → IsPlain p →
    IsPlain (steps options p rs)
plain-steps options p [] built plain = plain
plain-steps options p (r ∷ rs) built plain =
    plain-steps options (step options p r) rs built (plain-step options p r built plain)

shallow-steps : (options : ParseOptions) (p : Path) (rs : List Rest) → IsWithoutMdx options → IsPlain p →
    HoldsShallow p →
    HoldsShallow (steps options p rs)
shallow-steps options p [] built plain h = h
shallow-steps options p (r ∷ rs) built plain h =
    shallow-steps options (step options p r) rs built (plain-step options p r built plain)
    (shallow-step options p r built plain h)

-- what the lines of a text become
abbrev become : ParseOptions → List Rest → Blocks
become options rs = closed options (steps options (At (spot_of End)) rs)

shallow-become : (options : ParseOptions) (rs : List Rest) → IsWithoutMdx options →
    are_shallow (become options rs) ≡ true
shallow-become options rs built =
    shallow-closed options (steps options (At (spot_of End)) rs) built
    (plain-steps options (At (spot_of End)) rs built tt) (shallow-steps options (At (spot_of End)) rs built tt refl)

-- An empty line at the end adds nothing.

-- some of the outermost containers continue over it, and the others end
on-empty : (options : ParseOptions) (cs : List Container) (column : ℕ) → AreRead cs →
    (n : ℕ)
    × (prefixes_on options cs (rest_at column []) ≡ record { containers = take n cs; rest = rest_at column [] })
on-empty options [] column read = (0, refl)
on-empty options (c ∷ cs) column read =
    let over = over-empty options c column read.0 in go over.0 over.1 (on-empty options cs column read.1)
  where
    by : Option Taken → Prefixed
    by o = elim o [
      | None ↦ no_prefix (rest_at column [])
      | Some t ↦ one_more t.container (prefixes_on options cs t.rest)
    ]

    go : (x : Bool) →
        continues options c (rest_at column []) ≡
        cond x (Some (record { container = c; rest = rest_at column [] })) None →
        (n : ℕ)
        × (prefixes_on options cs (rest_at column []) ≡ record { containers = take n cs; rest = rest_at column [] }) →
        (n : ℕ)
        × (prefixes_on options (c ∷ cs) (rest_at column []) ≡
        record { containers = take n (c ∷ cs); rest = rest_at column [] })
    go true e more = (suc more.0, ap by e ∙ ap (one_more c) more.1)
    go false e more = (0, ap by e)

-- after such a line all is as it was, once it is closed
closed-empty : (options : ParseOptions) (n : ℕ) (p : Path) (column : ℕ) →
    closed options
    (after_path (kept_to options (take n (containers_of p)) p)
    (λ (bs : Blocks). At (spot_by options bs [] (rest_at column []) BlankRow))) ≡
    closed options p
closed-empty options zero p column = refl
closed-empty options (suc n) (At s) column = refl
closed-empty options (suc n) (Within before c p) column =
    ap (λ (bs : Blocks). then_block before (container_block c bs)) (closed-empty options n p column)

-- what an empty line does, where so many containers continue
abbrev empty_contained : ParseOptions → Path → ℕ → ℕ → Contained
empty_contained options p n column =
    let proceeded : Prefixed = record { containers = take n (containers_of p); rest = rest_at column [] } in
    contained_of options (containers_of p) (still_of p) proceeded (no_prefix (rest_at column []))

empty-line : (options : ParseOptions) (p : Path) (column : ℕ) → AreRead (containers_of p) →
    (n : ℕ) × (contained_at options p (rest_at column []) ≡ empty_contained options p n column)
unfolding contained
empty-line options p column read =
    let on = on-empty options (containers_of p) column read in
    let proceeded : Prefixed = record { containers = take on.0 (containers_of p); rest = rest_at column [] } in
    let others : List Container = others_of (containers_of p) proceeded.containers in (
      on.0,
      ap (contained_after options (containers_of p) (still_of p)) on.1
          ∙ ap (contained_of options (containers_of p) (still_of p) proceeded)
          (none (interrupts (still_of p) others) (is_inside (still_of p) others)),
    )
  where
    -- none opens
    none : (interrupting x : Bool) →
        cond x (no_prefix (rest_at column [])) (prefixes_new options interrupting 0 (rest_at column [])) ≡
        no_prefix (rest_at column [])
    none interrupting true = refl
    none interrupting false = refl

-- where it continues no leaf of several lines, it is blank
empty-blank : (options : ParseOptions) (p : Path) (column : ℕ) → IsPlain p →
    let on = (contained_at options p (rest_at column [])).on in
    is_further (line_kind options on (rest_at column [])) on ≡ false →
    line_kind options on (rest_at column []) ≡ BlankRow
empty-blank options p column plain e = go (has_lines on) refl
  where
    r : Rest
    r = rest_at column []

    on : HeldLeaf
    on = (contained_at options p r).on

    by : (is : FurtherSpan (spot p).leaf) (x : Bool) →
        is_further (cond x (LeafRow is.name) (other_kind options (still_of p) r)) (still_of p) ≡ false →
        cond x (LeafRow is.name) (other_kind options (still_of p) r) ≡ BlankRow
    by is true f = let further = is.further in cc
    by is false f = refl

    go : (x : Bool) → has_lines on ≡ x → line_kind options on r ≡ BlankRow
    go true lines =
        let same : on ≡ still_of p = contained-still options (containers_of p) (still_of p) r (lines-open on lines) in
        let is : FurtherSpan (spot p).leaf = span-open (spot p).leaf plain (ap has_lines (sym same) ∙ lines) in
        let kind = is.kind options r in
        ap (λ (x : HeldLeaf). line_kind options x r) same ∙ kind
        ∙ by is (is.takes options r)
        (ap (λ (k : RowKind). is_further k (still_of p)) (sym kind)
        ∙ ap (λ (x : HeldLeaf). is_further (line_kind options x r) x) (sym same) ∙ e)
    go false lines = kind-plain options on r (insider-none on lines)

renewed-some : (n : ℕ) (p : Path) → renewed (take n (containers_of p)) p ≡ p
renewed-some zero p = refl
renewed-some (suc n) (At s) = refl
renewed-some (suc n) (Within before c p) = ap (Within before c) (renewed-some n p)

step-empty : (options : ParseOptions) (p : Path) (column : ℕ) → IsWithoutMdx options → IsPlain p →
    AreRead (containers_of p) → closed options (step_over options true p (rest_at column [])) ≡ closed options p
step-empty options p column built plain read = go (continues_further options c) refl
  where
    r : Rest
    r = rest_at column []

    c : Contained
    c = contained_at options p r

    line : (n : ℕ) × (c ≡ empty_contained options p n column)
    line = empty-line options p column read

    n : ℕ
    n = line.0

    proceeded : List Container
    proceeded = take n (containers_of p)

    others : List Container
    others = others_of (containers_of p) proceeded

    on : HeldLeaf
    on = against (still_of p) others []

    kind : RowKind
    kind = line_kind options on r

    -- a line that continues a leaf leaves all as it was
    stays : Bool → Path
    stays lazy = renewed (change_by lazy proceeded others []).stays p

    -- any other is blank, and ends some containers
    by : Bool → Path
    by lazy =
        let change : Change = change_by lazy proceeded others [] in
        cond (is_lazy (still_of p) change.opens kind) (longer (renewed change.stays p) (kept r ∷ []))
        (after_path (kept_to options change.stays p) (new_line options on change.opens r))

    ended : RowKind → Path
    ended k =
        cond (is_lazy (still_of p) [] k) (longer (renewed proceeded p) (kept r ∷ []))
        (after_path (kept_to options proceeded p) (λ (bs : Blocks). At (spot_by options bs [] r k)))

    go : (x : Bool) → continues_further options c ≡ x →
        closed options (cond x (renewed c.change.stays p) (step options p r)) ≡ closed options p
    go true e =
        ap (λ (x : Contained). closed options (renewed x.change.stays p)) line.1
        ∙ ap (λ (x : Bool). closed options (stays x))
        (further-unlazy (still_of p) on [] kind (ap (continues_further options) (sym line.1) ∙ e))
        ∙ ap (closed options) (renewed-some n p)
    go false e =
        let is_blank : kind ≡ BlankRow = empty-kind e in
        ap (closed options) (step-contained options p r built plain)
        ∙ ap (λ (x : Bool). closed options (path_by options p c (continues_lazy options p c) x)) e
        ∙ ap (λ (x : Contained). closed options (path_by options p x (continues_lazy options p x) false)) line.1
        ∙ ap (λ (x : Bool). closed options (by x))
        (ap (is_lazy (still_of p) []) is_blank ∙ none (takes_lazy (still_of p)))
        ∙ ap (λ (k : RowKind). closed options (ended k)) is_blank
        ∙ ap (closed options) (last (takes_lazy (still_of p)))
        ∙ closed-empty options n p column
      where
        rest-same : continues_further options c ≡ false → is_further (line_kind options c.on r) c.on ≡ false
        rest-same e =
            subst (λ (x : Rest). is_further (line_kind options c.on x) c.on ≡ false)
            (ap (λ (x : Contained). x.rest) line.1) e

        empty-kind : continues_further options c ≡ false → kind ≡ BlankRow
        empty-kind e =
            subst (λ (x : Contained). line_kind options x.on r ≡ BlankRow) line.1
            (empty-blank options p column plain (rest-same e))

        none : (x : Bool) → (x && true && false) ≡ false
        none true = refl
        none false = refl

        last : (x : Bool) →
            cond (x && true && false) (longer (renewed proceeded p) (kept r ∷ []))
            (after_path (kept_to options proceeded p) (λ (bs : Blocks). At (spot_by options bs [] r BlankRow))) ≡
            after_path (kept_to options proceeded p) (λ (bs : Blocks). At (spot_by options bs [] r BlankRow))
        last true = refl
        last false = refl

-- The lines of a text, with the empty one after its last ending.

abbrev becomes_over : ParseOptions → List Rest → Blocks
becomes_over options rs = closed options (steps_over options (At (spot_of End)) (recorded rs))

following-empty : (options : ParseOptions) (column : ℕ) (p : Path) (rs : List Rest) → IsWithoutMdx options → IsPlain p →
    HoldsShallow p →
    closed options (steps_over options p (recorded (rs ++ rest_at column [] ∷ []))) ≡
    closed options (steps options p rs)
following-empty options column p [] built plain h = step-empty options p column built plain (shallow-read p h)
following-empty options column p (r ∷ rs) built plain h =
    ap
    (λ (x : Bool).
    closed options
    (steps_over options (step_over options (x && no_bytes r.bytes) p r) (recorded (rs ++ rest_at column [] ∷ []))))
    (some rs)
    ∙ following-empty options column (step options p r) rs built (plain-step options p r built plain)
    (shallow-step options p r built plain h)
  where
    some : (xs : List Rest) → no_rests (xs ++ rest_at column [] ∷ []) ≡ false
    some [] = refl
    some (x ∷ xs) = refl

become-empty : (options : ParseOptions) (column : ℕ) (lines : List (List ℕ)) → IsWithoutMdx options →
    becomes_over options (rests_at column (lines ++ [] ∷ [])) ≡ become options (rests_at column lines)
become-empty options column [] built = following-empty options column (At (spot_of End)) [] built tt refl
become-empty options column (line ∷ lines) built =
    ap (λ (l : List Rest). becomes_over options (rest_at column line ∷ l)) (map-append (rest_at 0) lines ([] ∷ []))
    ∙ following-empty options 0 (At (spot_of End)) (rest_at column line ∷ map (rest_at 0) lines) built tt refl

-- the last of these lines is not empty
abbrev FullLast : List (List ℕ) → Type 0
FullLast [] = ⊥
FullLast (line ∷ []) = no_bytes line ≡ false
FullLast (line ∷ next ∷ lines) = FullLast (next ∷ lines)

steps-full : (options : ParseOptions) (column : ℕ) (p : Path) (lines : List (List ℕ)) → FullLast lines →
    steps_over options p (recorded (rests_at column lines)) ≡ steps options p (rests_at column lines)
steps-full options column p [] full = absurd full
steps-full options column p (line ∷ []) full =
    ap (λ (x : Bool). step_over options x p (rest_at column line)) full
steps-full options column p (line ∷ next ∷ lines) full =
    steps-full options 0 (step options p (rest_at column line)) (next ∷ lines) full

full-line : (line : List ℕ) (lines : List (List ℕ)) → FullLast lines → FullLast (line ∷ lines)
full-line line [] full = absurd full
full-line line (next ∷ lines) full = full

full-byte : (b : ℕ) (lines : List (List ℕ)) → FullLast lines → FullLast (onto_first b lines)
full-byte b [] full = absurd full
full-byte b (line ∷ []) full = refl
full-byte b (line ∷ next ∷ lines) full = full

-- these lines, or these and an empty one
abbrev IsOrEmpty : List (List ℕ) → List (List ℕ) → Type 0
IsOrEmpty split lines = ((split ≡ lines) × FullLast split) ⊎ (split ≡ lines ++ [] ∷ [])

or_empty-line : (line : List ℕ) (split lines : List (List ℕ)) → IsOrEmpty split lines →
    IsOrEmpty (line ∷ split) (line ∷ lines)
or_empty-line line split lines (inl e) = inl (ap (λ (x : List (List ℕ)). line ∷ x) e.0, full-line line split e.1)
or_empty-line line split lines (inr e) = inr (ap (λ (x : List (List ℕ)). line ∷ x) e)

or_empty-byte : (b : ℕ) (split lines : List (List ℕ)) → IsOrEmpty split lines →
    IsOrEmpty (onto_first b split) (onto_first b lines)
or_empty-byte b split lines (inl e) = inl (ap (onto_first b) e.0, full-byte b split e.1)
or_empty-byte b split [] (inr e) =
    inl (ap (onto_first b) e, subst (λ (l : List (List ℕ)). FullLast (onto_first b l)) (sym e) refl)
or_empty-byte b split (line ∷ lines) (inr e) = inr (ap (onto_first b) e)

without_ending-end : (b : ℕ) (line : List ℕ) → is_ending b ≡ true → without_ending (b ∷ line) ≡ []
without_ending-end b line e =
    take_while-cons (λ (c : ℕ). not (is_ending c)) b line
    ∙ ap (λ (t : Bool). cond (not t) (b ∷ without_ending line) []) e

-- a CR goes with the LF after it
return-feed : (b : ℕ) (bytes : List ℕ) → is_ending b ≡ true → begins_with 10 bytes ≡ true →
    map without_ending (onto_first b (full_lines_of bytes)) ≡ lines_of bytes
return-feed b [] e h = absurd (cc)
return-feed b (c ∷ bytes) e h =
    rw h
    (ap (λ (l : List ℕ). l ∷ lines_of bytes)
    (without_ending-end b (c ∷ []) e ∙ sym (without_ending-end c [] (ap (λ (t : Bool). t || (c == 13)) h))))

-- an ending is the last of one, or a CR before its LF
ending-cases : (x y z : Bool) → (x || y) ≡ true → (x || (y && not z)) ≡ false → z ≡ true
ending-cases true y z h k = cc
ending-cases false true true h k = refl
ending-cases false true false h k = sym k
ending-cases false false z h k = cc

-- what ends a line is an ending
ends-ending : (x y z : Bool) → (x || (y && z)) ≡ true → (x || y) ≡ true
ends-ending true y z h = refl
ends-ending false true z h = refl
ends-ending false false z h = h

split-or_empty : (text : List ℕ) → IsOrEmpty (split_lines text) (lines_of text)
split-or_empty [] = inr refl
split-or_empty (b ∷ bs) = go (ends_line b bs) (is_ending b) refl refl (split-or_empty bs)
  where
    go : (x y : Bool) → ends_line b bs ≡ x → is_ending b ≡ y → IsOrEmpty (split_lines bs) (lines_of bs) →
        IsOrEmpty (cond x ([] ∷ split_lines bs) (cond y (split_lines bs) (onto_first b (split_lines bs))))
        (map without_ending (cond x ((b ∷ []) ∷ full_lines_of bs) (onto_first b (full_lines_of bs))))
    go true y e f s =
        subst (λ (l : List ℕ). IsOrEmpty ([] ∷ split_lines bs) (l ∷ lines_of bs))
        (sym (without_ending-end b [] (ends-ending (b == 10) (b == 13) (not (begins_with 10 bs)) e)))
        (or_empty-line [] (split_lines bs) (lines_of bs) s)
    go false true e f s =
        subst (IsOrEmpty (split_lines bs))
        (sym (return-feed b bs f (ending-cases (b == 10) (b == 13) (begins_with 10 bs) f e))) s
    go false false e f s =
        subst (IsOrEmpty (onto_first b (split_lines bs))) (sym (without_ending-onto b (full_lines_of bs) f))
        (or_empty-byte b (split_lines bs) (lines_of bs) s)

become-split : (options : ParseOptions) (column : ℕ) (split lines : List (List ℕ)) → IsWithoutMdx options →
    IsOrEmpty split lines → becomes_over options (rests_at column split) ≡ become options (rests_at column lines)
become-split options column split lines built (inl e) =
    ap (closed options) (steps-full options column (At (spot_of End)) split e.1)
    ∙ ap (λ (l : List (List ℕ)). become options (rests_at column l)) e.0
become-split options column split lines built (inr e) =
    ap (λ (l : List (List ℕ)). becomes_over options (rests_at column l)) e ∙ become-empty options column lines built

-- The tree of a text.

-- what the lines of a body that begins at this point become; its tree has lists around their items
abbrev pub body_of : ParseOptions → List ℕ → Point → Blocks
body_of options bytes p = become options (rests_at (p.column - 1) (lines_of (drop p.index bytes)))

-- the tree of a text has its frontmatter in front
pub tree-body : (options : ParseOptions) (bytes : List ℕ) (p : Point) (front : List Event) →
    (begun : IsBegun options bytes p front) →
    tree options bytes ≡ with_frontmatter begun.block (grouped (body_of options bytes p))
tree-body options bytes p front begun =
    ap
    (λ (b : Preamble). with_frontmatter b.front (grouped (closed options (steps options (At (spot_of End)) b.body))))
    begun.preamble_is

-- They are not too deep for an outline.
pub body-shallow : (options : ParseOptions) (bytes : List ℕ) (p : Point) → IsWithoutMdx options →
    are_shallow (body_of options bytes p) ≡ true
body-shallow options bytes p built =
    shallow-become options (rests_at (p.column - 1) (lines_of (drop p.index bytes))) built

rests-at : (p : Point) (lines : List (List ℕ)) → rests_from p lines ≡ rests_at (p.column - 1) lines
rests-at p [] = refl
rests-at p (line ∷ lines) = refl

-- The events of the lines of a text are read as what the lines become.
pub body-rows : (options : ParseOptions) → IsWithoutMdx options → (bytes : List ℕ) (p : Point) (rows : List Row) →
    f.AreRows options bytes [] held_leaf.None p (split_lines (drop p.index bytes)) rows →
    spelled (groups_events options bytes (groups rows)) bytes ≡ body_of options bytes p
body-rows options built bytes p rows are =
    let text : List ℕ = drop p.index bytes in
    spelled-rows options bytes p (split_lines text) rows built are
    ∙ ap (becomes_over options) (rests-at p (split_lines text))
    ∙ become-split options (p.column - 1) (split_lines text) (lines_of text) built (split-or_empty text)
