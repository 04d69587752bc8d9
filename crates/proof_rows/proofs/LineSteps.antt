-- What one line does to the containers and the leaf that are open, where only leaves that are built may be on.
use Rattle.proof_frame.specs.HeldLeaf.{has_lines, takes_lazy, kind_of_leaf, met_by}
use Rattle.md_engine.specs.declared.tokenizer.held_leaf.HeldLeaf.TheVariants as held_leaf
use Rattle.md_engine.specs.declared.tokenizer.held_leaf.HeldLeaf.{HeldLeaf}
use Rattle.std.proofs.Common.{◌≡◌, ℕ, zero, suc, ◌≤◌, Bool, true, false, cond, ◌&&◌, ◌||◌, List, [], ◌∷◌, ◌++◌}
use Rattle.std.proofs.Common.{length, refl, ap, ap₂, sym, ◌∙◌, arith}
use Rattle.std.specs.Prelude.{Option, Some, None}
use Rattle.std.specs.Option.{is_some}
use Rattle.md_engine.specs.declared.configuration.ParseOptions.{ParseOptions}
use Rattle.md_containers.specs.Interrupts.{is_interrupted}
use Rattle.md_meaning.specs.Containers.{Taken, continues, opens}
use Rattle.md_meaning.specs.Leaves.{LeafResult, LazyText, NoText, Opened, is_continued, starts, underline_depth}
use Rattle.md_meaning.specs.Leaves.{with_line}
use Rattle.md_meaning.specs.Rest.{Rest, is_blank}
use Rattle.md_meaning.specs.State.{At, Container, ParagraphLine, Leaf, NoLeaf, OpenParagraph, Path, Innermost, Within}
use Rattle.md_meaning.specs.State.{at_spot, closed, container_block, kept, shut, spot, texts, then_block, then_leaf}
use Rattle.md_meaning.specs.Step.{all_continued, all_continued_by, became, entered, fresh_by, fresh_line}
use Rattle.md_meaning.specs.Step.{is_open_text, lazy_by, leaf_line, leaf_line_by, on_or_fresh, opened, spot_of, step}
use Rattle.md_meaning.specs.Step.{stopped, stopped_by, text_line, underline_or_text, with_lazy}
use Rattle.md_meaning.specs.Tree.{Blocks, End}
use Rattle.md_meaning.proofs.ColumnLemmas.{opened_by, step_by}
use Rattle.md_meaning.proofs.ContainerLemmas.{opens-leaves}
use Rattle.md_meaning.proofs.TakenLemmas.{LeavesFewer}
use Rattle.proof_frame.specs.Change.{Change, change_by, interrupts, is_none, against, others_of}
use Rattle.proof_rows.specs.Fronted.{Contained, Prefixed, contained, no_prefix, one_more, prefixes_new}
use Rattle.proof_rows.specs.Fronted.{prefixes_after, prefixes_on}
use Rattle.proof_rows.specs.WithoutMdx.{IsWithoutMdx}
use Rattle.proof_frame.specs.LeafName.{LeafName}
use Rattle.proof_frame.specs.TextLines.{text_leaf}
use Rattle.md_registry.specs.Registry.{leaf, bars_containers}
use Rattle.proof_frame.specs.Row.{BlankRow, LeafRow, RowKind, TextRow}
use Rattle.proof_rows.specs.Rows.{is_further, is_lazy, is_text, takes_head, kind_of, line_kind}
use Rattle.md_registry.specs.OpenSpan.{IsBuiltLeaf, IsOpenSpan}
use Rattle.proof_rows.specs.Valid.{IsPlain, containers_of, still_of}
use Rattle.proof_frame.specs.Leaf.Paragraph.{held_of, open_lines}
use Rattle.proof_rows.proofs.ContainedLemmas.{change-opens, ended-open, lazy-some, lines-unlazy}
use Rattle.proof_rows.proofs.KindLemmas.{kind-plain}
use Rattle.proof_rows.proofs.FurtherSpan.{FurtherSpan, built-concrete, context-none, further-span, met-none}
use Rattle.proof_rows.proofs.FurtherSpan.{none-further, other-begins, other_kind, span-lazy}
use Rattle.md_registry.proofs.Dispatch.{result_of, leaf_at, text-starts, other_at}
use Rattle.md_registry.proofs.Registry.{insider-none, text-laws}
use Rattle.proof_rows.proofs.RegistryFound.{untabled-at, untext-found}
use Rattle.proof_rows.proofs.TextFound.{front_before, lazy_on, text-becomes, text_result, text_on}

-- Leaves of several lines.

-- no line continues one lazily
lazy-none : (still : HeldLeaf) (opens : List Container) (kind : RowKind) → takes_lazy still ≡ false →
    is_lazy still opens kind ≡ false
lazy-none still opens kind unlazy = ap (λ (x : Bool). x && is_none opens && is_text kind) unlazy

-- nothing is before what is no text
pub front-unlazy : (heads : Bool) (options : ParseOptions) (bs : Blocks) (open_leaf : Leaf) →
    takes_lazy (kind_of_leaf open_leaf) ≡ false → front_before heads options bs open_leaf ≡ bs
front-unlazy true options bs (OpenParagraph lines) unlazy = cc
front-unlazy true options bs _ unlazy = refl
front-unlazy false options bs (OpenParagraph lines) unlazy = cc
front-unlazy false options bs _ unlazy = refl

-- by the line definition one continues or ends
span-line : (options : ParseOptions) (s : Innermost) (r : Rest) (open_leaf : Leaf) →
    has_lines (kind_of_leaf open_leaf) ≡ true →
    leaf_line_by options s r open_leaf ≡ on_or_fresh options s r (is_continued options open_leaf r)
span-line options s r NoLeaf e = cc
span-line options s r (OpenParagraph lines) e = cc
span-line options s r _ e = refl

-- the first container that opens interrupts what is open if that is text
text-interrupted : (open_leaf : Leaf) → is_open_text open_leaf ≡ interrupts (kind_of_leaf open_leaf) []
text-interrupted (OpenParagraph lines) = refl
text-interrupted _ = refl

-- Lines, one after another.

-- blocks, with what an open text becomes after them, if one is open
abbrev after_text : ParseOptions → Blocks → List ParagraphLine → Blocks
after_text options bs [] = bs
after_text options bs (k ∷ ks) = text_leaf.following options bs (texts (k ∷ ks))

-- what is open after a line of this kind, where nothing was but this text
abbrev pub spot_by : ParseOptions → Blocks → List ParagraphLine → Rest → RowKind → Innermost
spot_by options bs held r BlankRow = spot_of (after_text options bs held)
spot_by options bs held r (LeafRow l) = became (after_text options bs held) ((leaf l).becomes options NoLeaf r)
spot_by options bs held r TextRow = with_line bs held r

-- a line where nothing is open, or what was open has ended and is no text
fresh-plain : (options : ParseOptions) (on : HeldLeaf) (bs : Blocks) (r : Rest) → takes_lazy on ≡ false →
    fresh_line options bs r ≡ spot_by options bs [] r (other_kind options on r)
unfolding fresh_line
fresh-plain options on bs r unlazy =
    go (is_blank r.bytes) refl
  where
    by : (o : Option LeafName) → fresh_by bs r (result_of options r o) ≡ spot_by options bs [] r (kind_of o)
    by (Some l) = refl
    by None = refl

    go : (x : Bool) → is_blank r.bytes ≡ x →
        cond x (spot_of bs) (fresh_by bs r (starts options NoText r)) ≡
        spot_by options bs [] r (cond x BlankRow (kind_of (other_at options on r)))
    go true e = refl
    go false e =
        ap (fresh_by bs r) (untext-found options on NoText r (context-none on unlazy) refl e)
        ∙ by (other_at options on r)

pub fresh-found : (options : ParseOptions) (bs : Blocks) (r : Rest) → IsWithoutMdx options →
    fresh_line options bs r ≡ spot_by options bs [] r (line_kind options held_leaf.None r)
fresh-found options bs r built =
    fresh-plain options held_leaf.None bs r refl
    ∙ ap (spot_by options bs [] r)
    (sym
    (kind-plain options held_leaf.None r (insider-none held_leaf.None refl)
    ∙ ap (λ (o : Option LeafName). cond (is_blank r.bytes) BlankRow (kind_of o))
    (untabled-at options held_leaf.None r refl)))

-- what an open leaf becomes with a line of this kind
abbrev pub becomes_by : ParseOptions → Leaf → Rest → RowKind → LeafResult
becomes_by options open_leaf r (LeafRow l) = (leaf l).becomes options open_leaf r
becomes_by options open_leaf r kind = Opened open_leaf

-- a line where text is open: it turns the text, or is after it, or is one more line of it
abbrev text_spot : ParseOptions → Blocks → List ParagraphLine → Rest → RowKind → Innermost
text_spot options bs lines r kind =
    cond (is_further kind (text_on lines))
    (became (front_before (takes_head kind) options bs (text_leaf.held lines))
    (becomes_by options (text_leaf.held lines) r kind))
    (spot_by options bs lines r kind)

text-found : (options : ParseOptions) (bs : Blocks) (k : ParagraphLine) (ks : List ParagraphLine) (r : Rest) →
    IsWithoutMdx options →
    text_line options bs (k ∷ ks) r ≡ text_spot options bs (k ∷ ks) r (line_kind options (text_on (k ∷ ks)) r)
unfolding text_line
text-found options bs k ks r built =
    go (is_blank r.bytes) refl
    ∙ ap (text_spot options bs (k ∷ ks) r)
    (sym (kind-plain options (text_on (k ∷ ks)) r (insider-none (text_on (k ∷ ks)) refl)))
  where
    by : (o : Option LeafName) →
        text_result options bs (k ∷ ks) r o ≡ text_spot options bs (k ∷ ks) r (kind_of o)
    by (Some l) = refl
    by None = refl

    go : (x : Bool) → is_blank r.bytes ≡ x →
        cond x (spot_of (then_leaf options bs (text_leaf.held (k ∷ ks))))
        (underline_or_text options bs (k ∷ ks) r (underline_depth options r)) ≡
        text_spot options bs (k ∷ ks) r (cond x BlankRow (kind_of (leaf_at options (text_on (k ∷ ks)) r)))
    go true e = ap spot_of (text-laws.shut options bs (k ∷ ks))
    go false e = text-becomes options bs k ks r e ∙ by (leaf_at options (text_on (k ∷ ks)) r)

-- The containers that open.

-- at most so many after one that may open
abbrev new_by : ParseOptions → ℕ → Rest → Option Taken → Prefixed
new_by options n r o = elim o [
  | None ↦ no_prefix r
  | Some t ↦ one_more t.container (prefixes_new options false n t.rest)
]

-- a bound on them that is not below the bytes does not matter
new-enough : (options : ParseOptions) (interrupting : Bool) (n m : ℕ) (r : Rest) → length r.bytes ≤ n →
    length r.bytes ≤ m → prefixes_new options interrupting n r ≡ prefixes_new options interrupting m r
new-enough options interrupting zero zero r h k = refl
new-enough options interrupting zero (suc m) r h k =
    go (opens options interrupting r) (opens-leaves options interrupting r)
  where
    go : (o : Option Taken) → LeavesFewer o (length r.bytes) → no_prefix r ≡ new_by options m r o
    go None less = refl
    go (Some t) less = absurd (omega (arith, less t refl))
new-enough options interrupting (suc n) zero r h k =
    go (opens options interrupting r) (opens-leaves options interrupting r)
  where
    go : (o : Option Taken) → LeavesFewer o (length r.bytes) → new_by options n r o ≡ no_prefix r
    go None less = refl
    go (Some t) less = absurd (omega (arith, less t refl))
new-enough options interrupting (suc n) (suc m) r h k =
    go (new-enough options false n m) (opens options interrupting r) (opens-leaves options interrupting r)
  where
    go : ((s : Rest) → length s.bytes ≤ n → length s.bytes ≤ m →
        prefixes_new options false n s ≡ prefixes_new options false m s) →
        (o : Option Taken) → LeavesFewer o (length r.bytes) →
        new_by options n r o ≡ new_by options m r o
    go below None less = refl
    go below (Some t) less =
        let fewer = less t refl in ap (one_more t.container) (below t.rest (omega arith) (omega arith))

-- all containers that open on a line; the first may interrupt text
abbrev pub all_new : ParseOptions → Bool → Rest → Prefixed
all_new options interrupting r = prefixes_new options interrupting (length r.bytes) r

-- where none opens, and where one does
abbrev found_by : ParseOptions → Rest → Option Taken → Prefixed
found_by options r o = elim o [ None ↦ no_prefix r | Some t ↦ one_more t.container (all_new options false t.rest) ]

new-found : (options : ParseOptions) (interrupting : Bool) (n : ℕ) (r : Rest) → length r.bytes ≤ n →
    prefixes_new options interrupting n r ≡ found_by options r (opens options interrupting r)
new-found options interrupting zero r h = go (opens options interrupting r) (opens-leaves options interrupting r)
  where
    go : (o : Option Taken) → LeavesFewer o (length r.bytes) → no_prefix r ≡ found_by options r o
    go None less = refl
    go (Some t) less = absurd (omega (arith, less t refl))
new-found options interrupting (suc n) r h = go (opens options interrupting r) (opens-leaves options interrupting r)
  where
    go : (o : Option Taken) → LeavesFewer o (length r.bytes) → new_by options n r o ≡ found_by options r o
    go None less = refl
    go (Some t) less =
        let fewer = less t refl in
        ap (one_more t.container) (new-enough options false n (length t.rest.bytes) t.rest (omega arith) (omega arith))

-- Paths.

-- with these lines more in the open text, or in a new one
abbrev pub longer : Path → List ParagraphLine → Path
longer (At s) lines = At (record { here = s.here; leaf = text_leaf.held (held_of s.leaf ++ lines) })
longer (Within before container p) lines = Within before container (longer p lines)

-- with these in the place of the outermost containers
abbrev pub renewed : List Container → Path → Path
renewed [] p = p
renewed (c ∷ cs) (At s) = At s
renewed (c ∷ cs) (Within before container p) = Within before c (renewed cs p)

-- with these in the place of the outermost containers, and all others closed, and the leaf too
abbrev pub kept_to : ParseOptions → List Container → Path → Path
kept_to options [] p = At (spot_of (closed options p))
kept_to options (c ∷ cs) (At s) = At (spot_of (shut options s))
kept_to options (c ∷ cs) (Within before container p) = Within before c (kept_to options cs p)

-- what follows the blocks of the innermost container
abbrev pub after_path : Path → (Blocks → Path) → Path
after_path (At s) f = f s.here
after_path (Within before container p) f = Within before container (after_path p f)

-- these new containers, and in the innermost a line of its kind, where it meets this leaf
abbrev pub new_line : ParseOptions → HeldLeaf → List Container → Rest → Blocks → Path
new_line options on [] r bs = At (spot_by options bs [] r (line_kind options on r))
new_line options on (c ∷ cs) r bs = Within bs c (new_line options on cs r End)

-- with the innermost leaf as it is then; of a text, after the definitions at its front, or, where a line takes the last
-- line of it as its head, after what is read of the others
abbrev pub with_result : ParseOptions → Bool → Path → LeafResult → Path
with_result options heads (At s) c = At (became (front_before heads options s.here s.leaf) c)
with_result options heads (Within before container p) c = Within before container (with_result options heads p c)

-- What a line does where these containers continued, and these open on it: it continues the open text, and all
-- containers stay; or it continues the open leaf of several lines, or turns the open text; or all else is closed, and
-- it begins in the new containers.
abbrev pub stepped : ParseOptions → Path → List Container → Prefixed → Path
stepped options p proceeded new =
    let on = against (still_of p) (others_of (containers_of p) proceeded) new.containers in
    let kind = line_kind options on new.rest in
    cond (is_lazy (still_of p) new.containers kind)
    (longer (renewed (proceeded ++ others_of (containers_of p) proceeded) p) (kept new.rest ∷ []))
    (cond (is_further kind on)
    (with_result options (takes_head kind) (renewed proceeded p) (becomes_by options (spot p).leaf new.rest kind))
    (after_path (kept_to options proceeded p) (new_line options on new.containers new.rest)))

renewed-same : (p : Path) → renewed (containers_of p) p ≡ p
renewed-same (At s) = refl
renewed-same (Within before container p) = ap (Within before container) (renewed-same p)

pub renewed-spot : (cs : List Container) (p : Path) → spot (renewed cs p) ≡ spot p
renewed-spot [] p = refl
renewed-spot (c ∷ cs) (At s) = refl
renewed-spot (c ∷ cs) (Within before container p) = renewed-spot cs p

stepped-more : (options : ParseOptions) (p : Path) (proceeded : List Container) (c : Container) (new : Prefixed) →
    stepped options p proceeded (one_more c new) ≡
    after_path (kept_to options proceeded p) (new_line options held_leaf.None (c ∷ new.containers) new.rest)
stepped-more options p proceeded c new =
    ap (λ (x : Bool). cond x lazy (cond (is_further kind held_leaf.None) further other))
    (lazy-some (still_of p) c new.containers kind)
    ∙ ap (λ (x : Bool). cond x further other) (none-further options held_leaf.None new.rest refl)
  where
    kind : RowKind
    kind = line_kind options held_leaf.None new.rest

    lazy : Path
    lazy = longer (renewed (proceeded ++ others_of (containers_of p) proceeded) p) (kept new.rest ∷ [])

    further : Path
    further = with_result options (takes_head kind) (renewed proceeded p)
        (becomes_by options (spot p).leaf new.rest kind)

    other : Path
    other = after_path (kept_to options proceeded p) (new_line options held_leaf.None (c ∷ new.containers) new.rest)

-- the containers that open in a new one
opened-new : (options : ParseOptions) (n : ℕ) (r : Rest) → IsWithoutMdx options →
    opened options n r ≡
    new_line options held_leaf.None (prefixes_new options false n r).containers
    (prefixes_new options false n r).rest End
opened-new options zero r built = ap At (fresh-found options End r built)
opened-new options (suc n) r built = go (λ s. opened-new options n s built) (opens options false r)
  where
    go : ((s : Rest) →
        opened options n s ≡
        new_line options held_leaf.None (prefixes_new options false n s).containers
        (prefixes_new options false n s).rest End) →
        (o : Option Taken) →
        opened_by options n r o ≡
        new_line options held_leaf.None (new_by options n r o).containers (new_by options n r o).rest End
    go below None = ap At (fresh-found options End r built)
    go below (Some t) = ap (Within End t.container) (below t.rest)

entered-new : (options : ParseOptions) (bs : Blocks) (t : Taken) → IsWithoutMdx options →
    entered options bs t ≡
    new_line options held_leaf.None (t.container ∷ (all_new options false t.rest).containers)
    (all_new options false t.rest).rest bs
entered-new options bs t built = ap (Within bs t.container) (opened-new options (length t.rest.bytes) t.rest built)

-- One line.

-- where all containers continue, and none opens
abbrev IsStepped : ParseOptions → Blocks → Rest → Leaf → Type 0
IsStepped options bs r open_leaf =
    At (leaf_line options (record { here = bs; leaf = open_leaf }) r) ≡
    stepped options (At (record { here = bs; leaf = open_leaf })) [] (no_prefix r)

text-stepped : (options : ParseOptions) (bs : Blocks) (r : Rest) → IsWithoutMdx options →
    (k : ParagraphLine) (ks : List ParagraphLine) →
    IsStepped options bs r (text_leaf.held (k ∷ ks))
text-stepped options bs r built k ks =
    ap At (text-found options bs k ks r built) ∙ go (line_kind options (text_on (k ∷ ks)) r)
    ∙ ap (λ (x : Blocks). by (line_kind options (text_on (k ∷ ks)) r) x)
    (sym (text-laws.shut options bs (k ∷ ks)))
  where
    -- where the text is shut with these blocks
    by : RowKind → Blocks → Path
    by kind shut_to =
        cond (is_lazy (text_on (k ∷ ks)) [] kind) (At (with_line bs (k ∷ ks) r))
        (cond (is_further kind (text_on (k ∷ ks)))
        (At
        (became (front_before (takes_head kind) options bs (text_leaf.held (k ∷ ks)))
        (becomes_by options (text_leaf.held (k ∷ ks)) r kind)))
        (At (spot_by options shut_to [] r kind)))

    go : (kind : RowKind) →
        At (text_spot options bs (k ∷ ks) r kind) ≡ by kind (text_leaf.following options bs (texts (k ∷ ks)))
    go BlankRow = refl
    go TextRow = refl
    go (LeafRow l) = to ((leaf l).further (text_on (k ∷ ks)))
      where
        turned : Innermost
        turned =
            became (front_before (leaf l).heads options bs (text_leaf.held (k ∷ ks)))
            ((leaf l).becomes options (text_leaf.held (k ∷ ks)) r)

        following : Innermost
        following = became (text_leaf.following options bs (texts (k ∷ ks))) ((leaf l).becomes options NoLeaf r)

        to : (x : Bool) → At (cond x turned following) ≡ cond x (At turned) (At following)
        to true = refl
        to false = refl

span-stepped : (options : ParseOptions) (bs : Blocks) (r : Rest) → IsWithoutMdx options → (open_leaf : Leaf) →
    FurtherSpan open_leaf → IsStepped options bs r open_leaf
span-stepped options bs r built open_leaf is =
    ap At (span-line options s r open_leaf is.lines)
    ∙ ap (λ (o : Option LeafResult). At (on_or_fresh options s r o)) (is.proceeds options r)
    ∙ go (is.takes options r)
    ∙ ap (by bs) (sym (is.kind options r))
    ∙ ap (λ (x : Blocks). by x (line_kind options still r))
    (sym (front-unlazy (takes_head (line_kind options still r)) options bs open_leaf unlazy_leaf))
  where
    s : Innermost
    s = record { here = bs; leaf = open_leaf }

    still : HeldLeaf
    still = kind_of_leaf open_leaf

    unlazy_leaf : takes_lazy still ≡ false
    unlazy_leaf = lines-unlazy still is.lines

    further : Blocks → RowKind → Path
    further x kind = At (became x (becomes_by options open_leaf r kind))

    other : RowKind → Path
    other kind = At (spot_by options (shut options s) [] r kind)

    -- where it continues the leaf after these blocks
    by : Blocks → RowKind → Path
    by x kind =
        cond (is_lazy still [] kind) (longer (At s) (kept r ∷ []))
        (cond (is_further kind still) (further x kind) (other kind))

    unlazy : (kind : RowKind) (x : Bool) → is_further kind still ≡ x →
        cond x (further bs kind) (other kind) ≡ by bs kind
    unlazy kind x e =
        ap (λ (t : Bool). cond t (further bs kind) (other kind)) (sym e)
        ∙ sym
        (ap
        (λ (t : Bool).
        cond t (longer (At s) (kept r ∷ [])) (cond (is_further kind still) (further bs kind) (other kind)))
        (lazy-none still [] kind unlazy_leaf))

    go : (x : Bool) →
        At (on_or_fresh options s r (cond x (Some ((leaf is.name).becomes options open_leaf r)) None)) ≡
        by bs (cond x (LeafRow is.name) (other_kind options still r))
    go true = unlazy (LeafRow is.name) true is.further
    go false =
        ap At (fresh-plain options still (shut options s) r unlazy_leaf)
        ∙ unlazy (other_kind options still r) false (other-begins options still r is.lines)

leaf-stepped : (options : ParseOptions) (bs : Blocks) (open_leaf : Leaf) (r : Rest) → IsWithoutMdx options →
    IsBuiltLeaf open_leaf → IsStepped options bs r open_leaf
leaf-stepped options bs open_leaf r built plain =
    text-laws.cases IsOpenSpan (IsStepped options bs r) none (text-stepped options bs r built)
    (λ l is. span-stepped options bs r built l (further-span l is)) open_leaf plain
  where
    none : IsStepped options bs r NoLeaf
    none =
        ap At (fresh-found options bs r built)
        ∙ sym
        (ap
        (λ (x : Bool).
        cond x
        (At
        (became (front_before (takes_head (line_kind options held_leaf.None r)) options bs NoLeaf)
        (becomes_by options NoLeaf r (line_kind options held_leaf.None r))))
        (At (spot_by options bs [] r (line_kind options held_leaf.None r))))
        (none-further options held_leaf.None r refl))

-- where one did not continue, none is shut out
new-others : (options : ParseOptions) (still : HeldLeaf) (c : Container) (cs : List Container) (proceeded : Prefixed) →
    prefixes_after options still (c ∷ cs) proceeded ≡ all_new options (interrupts still (c ∷ cs)) proceeded.rest
new-others options still c cs proceeded = go (bars_containers still)
  where
    go : (x : Bool) →
        cond (x && false) (no_prefix proceeded.rest) (all_new options (interrupts still (c ∷ cs)) proceeded.rest) ≡
        all_new options (interrupts still (c ∷ cs)) proceeded.rest
    go true = refl
    go false = refl

-- where all containers continue
step-at : (options : ParseOptions) (s : Innermost) (r : Rest) → IsWithoutMdx options → IsBuiltLeaf s.leaf →
    all_continued options s r ≡
    stepped options (At s) [] (prefixes_after options (kind_of_leaf s.leaf) [] (no_prefix r))
unfolding all_continued
step-at options s r built plain =
    ap₂ (λ (x y : Bool). all_continued_by options s r (cond x None (opens options y r))) (built-concrete s.leaf plain)
    (text-interrupted s.leaf)
    ∙ go (bars_containers still)
  where
    still : HeldLeaf
    still = kind_of_leaf s.leaf

    interrupting : Bool
    interrupting = interrupts still []

    none : At (leaf_line options s r) ≡ stepped options (At s) [] (no_prefix r)
    none = leaf-stepped options s.here s.leaf r built plain

    -- by the one that opens, if one does
    by : (o : Option Taken) → all_continued_by options s r o ≡ stepped options (At s) [] (found_by options r o)
    by None = none
    by (Some t) =
        entered-new options (shut options s) t built
        ∙ sym (stepped-more options (At s) [] t.container (all_new options false t.rest))

    -- by whether all are shut out
    go : (x : Bool) →
        all_continued_by options s r (cond x None (opens options interrupting r)) ≡
        stepped options (At s) [] (cond (x && true) (no_prefix r) (all_new options interrupting r))
    go true = none
    go false =
        by (opens options interrupting r)
        ∙ ap (stepped options (At s) [])
        (sym (new-found options interrupting (length r.bytes) r (omega arith)))

at_spot-longer : (p : Path) (lines more : List ParagraphLine) → (spot p).leaf ≡ text_leaf.held lines →
    at_spot p (record { here = (spot p).here; leaf = text_leaf.held (lines ++ more) }) ≡ longer p more
at_spot-longer (At s) lines more e =
    ap (λ (x : Leaf). At (record { here = s.here; leaf = text_leaf.held (held_of x ++ more) })) (sym e)
at_spot-longer (Within before container p) lines more e = ap (Within before container) (at_spot-longer p lines more e)

-- where this container does not continue, and none opens
lazy-stepped : (options : ParseOptions) (before : Blocks) (c : Container) (p : Path) (r : Rest) → IsWithoutMdx options →
    (leaf : Leaf) → (spot p).leaf ≡ leaf → IsBuiltLeaf leaf →
    lazy_by options before c p r (with_lazy options leaf r) ≡
    cond (is_lazy (kind_of_leaf leaf) [] (line_kind options (met_by false (kind_of_leaf leaf)) r))
    (Within before c (longer (renewed (containers_of p) p) (kept r ∷ [])))
    (At
    (spot_by options (then_block before (container_block c (closed options p))) [] r
    (line_kind options (met_by false (kind_of_leaf leaf)) r)))
lazy-stepped options before c p r built leaf e plain =
    text-laws.cases IsOpenSpan By (λ e. fresh) text (λ l is. span l (further-span l is)) leaf plain e
  where
    bs : Blocks
    bs = then_block before (container_block c (closed options p))

    other : RowKind → Path
    other kind = At (spot_by options bs [] r kind)

    fresh : At (fresh_line options bs r) ≡ other (line_kind options held_leaf.None r)
    fresh = ap At (fresh-found options bs r built)

    longer_by : HeldLeaf → RowKind → Path
    longer_by still kind =
        cond (is_lazy still [] kind) (Within before c (longer (renewed (containers_of p) p) (kept r ∷ []))) (other kind)

    By : Leaf → Type 0
    By leaf =
        (spot p).leaf ≡ leaf →
        lazy_by options before c p r (with_lazy options leaf r) ≡
        longer_by (kind_of_leaf leaf) (line_kind options (met_by false (kind_of_leaf leaf)) r)

    -- a line that is blank, or not, by the leaf that starts on it where this one is open
    kind_by : HeldLeaf → Bool → RowKind
    kind_by on x = cond x BlankRow (kind_of (leaf_at options on r))

    plain_line : At (fresh_line options bs r) ≡ other (kind_by held_leaf.None (is_blank r.bytes))
    plain_line = fresh ∙ ap other (kind-plain options held_leaf.None r (insider-none held_leaf.None refl))

    text : (k : ParagraphLine) (ks : List ParagraphLine) → By (text_leaf.held (k ∷ ks))
    text k ks e =
        go (is_blank r.bytes) refl
        ∙ ap (longer_by (text_on (k ∷ ks)))
        (sym (kind-plain options (lazy_on (k ∷ ks)) r (insider-none (lazy_on (k ∷ ks)) refl)))
      where
        to : Bool → Option LeafResult → Path
        to x o =
            lazy_by options before c p r
            (cond (x || is_some o) None (Some (text_leaf.held (k ∷ ks ++ kept r ∷ []))))

        by : is_blank r.bytes ≡ false → (o : Option LeafName) → leaf_at options (lazy_on (k ∷ ks)) r ≡ o →
            to false (result_of options r o) ≡ longer_by (text_on (k ∷ ks)) (kind_of o)
        by dark (Some l) found =
            plain_line ∙ ap (λ (x : Bool). other (kind_by held_leaf.None x)) dark
            ∙ ap (λ (o : Option LeafName). other (kind_of o)) (text-starts options (open_lines (k ∷ ks)) r l found)
        by dark None found =
            ap (Within before c)
            (at_spot-longer p (k ∷ ks) (kept r ∷ []) e
            ∙ ap (λ (q : Path). longer q (kept r ∷ [])) (sym (renewed-same p)))

        go : (x : Bool) → is_blank r.bytes ≡ x →
            to (is_blank r.bytes) (starts options LazyText r) ≡
            longer_by (text_on (k ∷ ks)) (kind_by (lazy_on (k ∷ ks)) (is_blank r.bytes))
        go true b =
            ap (λ (x : Bool). to x (starts options LazyText r)) b
            ∙ plain_line
            ∙ ap (λ (x : Bool). other (kind_by held_leaf.None x)) b
            ∙ sym (ap (λ (x : Bool). longer_by (text_on (k ∷ ks)) (kind_by (lazy_on (k ∷ ks)) x)) b)
        go false b =
            ap (λ (x : Bool). to x (starts options LazyText r)) b
            ∙ ap (to false)
            (untext-found options (lazy_on (k ∷ ks)) LazyText r refl refl b
            ∙ ap (result_of options r) (sym (untabled-at options (lazy_on (k ∷ ks)) r refl)))
            ∙ by b (leaf_at options (lazy_on (k ∷ ks)) r) refl
            ∙ sym (ap (λ (x : Bool). longer_by (text_on (k ∷ ks)) (kind_by (lazy_on (k ∷ ks)) x)) b)

    span : (l : Leaf) → FurtherSpan l → By l
    span l is e =
        let still : HeldLeaf = kind_of_leaf l in
        let kind : RowKind = line_kind options (met_by false still) r in
        let unlazy = lines-unlazy still is.lines in
        ap (lazy_by options before c p r) (span-lazy options r l is.lines) ∙ fresh
        ∙ ap (λ (on : HeldLeaf). other (line_kind options on r)) (sym (met-none still unlazy))
        ∙ sym
        (ap
        (λ (x : Bool).
        cond x (Within before c (longer (renewed (containers_of p) p) (kept r ∷ []))) (other kind))
        (lazy-none still [] kind unlazy))

step-stopped : (options : ParseOptions) (before : Blocks) (c : Container) (p : Path) (r : Rest) → IsWithoutMdx options →
    IsPlain p →
    stopped options before c p r ≡
    stepped options (Within before c p) []
    (prefixes_after options (still_of p) (c ∷ containers_of p) (no_prefix r))
unfolding stopped
step-stopped options before c p r built plain =
    go (opens options false r)
    ∙ ap (stepped options (Within before c p) [])
    (sym (new-found options false (length r.bytes) r (omega arith))
    ∙ ap (λ (x : Bool). all_new options x r) (never (is_interrupted (still_of p)))
    ∙ sym (new-others options (still_of p) c (containers_of p) (no_prefix r)))
  where
    on : HeldLeaf
    on = met_by false (still_of p)

    kind : RowKind
    kind = line_kind options on r

    never : (x : Bool) → false ≡ (x && false)
    never true = refl
    never false = refl

    go : (o : Option Taken) →
        stopped_by options before c p r o ≡ stepped options (Within before c p) [] (found_by options r o)
    go None =
        lazy-stepped options before c p r built (spot p).leaf refl plain
        ∙ ap
        (cond (is_lazy (still_of p) [] kind)
        (Within before c (longer (renewed (containers_of p) p) (kept r ∷ []))))
        (sym
        (ap
        (λ (x : Bool).
        cond x (with_result options (takes_head kind) (Within before c p) (becomes_by options (spot p).leaf r kind))
        (At (spot_by options (then_block before (container_block c (closed options p))) [] r kind)))
        (none-further options on r (ended-open (still_of p)))))
    go (Some t) =
        entered-new options (then_block before (container_block c (closed options p))) t built
        ∙ sym (stepped-more options (Within before c p) [] t.container (all_new options false t.rest))

stepped-within : (options : ParseOptions) (before : Blocks) (c d : Container) (p : Path) (proceeded : List Container)
    (new : Prefixed) →
    Within before d (stepped options p proceeded new) ≡ stepped options (Within before c p) (d ∷ proceeded) new
stepped-within options before c d p proceeded new = go (is_lazy (still_of p) new.containers kind) (is_further kind on)
  where
    on : HeldLeaf
    on = against (still_of p) (others_of (containers_of p) proceeded) new.containers

    kind : RowKind
    kind = line_kind options on new.rest

    lazy : Path
    lazy = longer (renewed (proceeded ++ others_of (containers_of p) proceeded) p) (kept new.rest ∷ [])

    further : Path
    further = with_result options (takes_head kind) (renewed proceeded p)
        (becomes_by options (spot p).leaf new.rest kind)

    other : Path
    other = after_path (kept_to options proceeded p) (new_line options on new.containers new.rest)

    go : (x y : Bool) →
        Within before d (cond x lazy (cond y further other)) ≡
        cond x (Within before d lazy) (cond y (Within before d further) (Within before d other))
    go true y = refl
    go false true = refl
    go false false = refl

-- by the containers that continue, and those that open after them
abbrev on_by : ParseOptions → List Container → Rest → Option Taken → Prefixed
on_by options cs r o = elim o [ None ↦ no_prefix r | Some t ↦ one_more t.container (prefixes_on options cs t.rest) ]

abbrev pub stepped_on : ParseOptions → Path → Prefixed → Path
stepped_on options p on =
    stepped options p on.containers
    (prefixes_after options (still_of p) (others_of (containers_of p) on.containers) on)

pub step-new : (options : ParseOptions) (p : Path) (r : Rest) → IsWithoutMdx options → IsPlain p →
    step options p r ≡ stepped_on options p (prefixes_on options (containers_of p) r)
step-new options (At s) r built plain = step-at options s r built plain
step-new options (Within before c p) r built plain = go (λ s. step-new options p s built plain) (continues options c r)
  where
    go : ((s : Rest) → step options p s ≡ stepped_on options p (prefixes_on options (containers_of p) s)) →
        (o : Option Taken) →
        step_by options before c p r o ≡ stepped_on options (Within before c p) (on_by options (containers_of p) r o)
    go below None = step-stopped options before c p r built plain
    go below (Some t) =
        let on = prefixes_on options (containers_of p) t.rest in
        ap (Within before t.container) (below t.rest)
        ∙ stepped-within options before c t.container p on.containers
        (prefixes_after options (still_of p) (others_of (containers_of p) on.containers) on)

-- what a line does to the containers, where a path is open
abbrev pub contained_at : ParseOptions → Path → Rest → Contained
contained_at options p r = contained options (containers_of p) (still_of p) r

-- whether a line continues the open text
abbrev pub continues_lazy : ParseOptions → Path → Contained → Bool
continues_lazy options p c = is_lazy (still_of p) c.change.opens (line_kind options c.on c.rest)

-- whether it continues the leaf that it meets, one of several lines or text, and what is open after it then
abbrev pub continues_further : ParseOptions → Contained → Bool
continues_further options c = is_further (line_kind options c.on c.rest) c.on

abbrev pub further_path : ParseOptions → Path → Contained → Path
further_path options p c =
    with_result options (takes_head (line_kind options c.on c.rest)) (renewed c.change.stays p)
    (becomes_by options (spot p).leaf c.rest (line_kind options c.on c.rest))

-- where it does neither: some containers stay, and after them it opens others, and begins in the innermost
abbrev pub new_path : ParseOptions → Path → Contained → Path
new_path options p c = after_path (kept_to options c.change.stays p) (new_line options c.on c.change.opens c.rest)

-- by which of these it does
abbrev pub path_by : ParseOptions → Path → Contained → Bool → Bool → Path
path_by options p c lazy further =
    cond lazy (longer (renewed c.change.stays p) (kept c.rest ∷ []))
    (cond further (further_path options p c) (new_path options p c))

-- What a line does to the containers and the leaf that are open, by its containers.
pub step-contained : (options : ParseOptions) (p : Path) (r : Rest) → IsWithoutMdx options → IsPlain p →
    let c = contained_at options p r in
    step options p r ≡ path_by options p c (continues_lazy options p c) (continues_further options c)
unfolding contained
step-contained options p r built plain =
    step-new options p r built plain ∙ go lazy
    ∙ sym
    (ap (λ (opens : List Container). by (is_lazy (still_of p) opens kind) lazy)
    (change-opens lazy on.containers others new.containers))
  where
    on : Prefixed
    on = prefixes_on options (containers_of p) r

    others : List Container
    others = others_of (containers_of p) on.containers

    new : Prefixed
    new = prefixes_after options (still_of p) others on

    leaf : HeldLeaf
    leaf = against (still_of p) others new.containers

    kind : RowKind
    kind = line_kind options leaf new.rest

    lazy : Bool
    lazy = is_lazy (still_of p) new.containers kind

    become : LeafResult
    become = becomes_by options (spot p).leaf new.rest kind

    by : Bool → Bool → Path
    by x y =
        let change : Change = change_by y on.containers others new.containers in
        cond x (longer (renewed change.stays p) (kept new.rest ∷ []))
        (cond (is_further kind leaf) (with_result options (takes_head kind) (renewed change.stays p) become)
        (after_path (kept_to options change.stays p) (new_line options leaf change.opens new.rest)))

    go : (x : Bool) →
        cond x (longer (renewed (on.containers ++ others) p) (kept new.rest ∷ []))
        (cond (is_further kind leaf) (with_result options (takes_head kind) (renewed on.containers p) become)
        (after_path (kept_to options on.containers p) (new_line options leaf new.containers new.rest))) ≡
        by x x
    go true = refl
    go false = refl

-- a line that continues the open text closes nothing
pub contained-lazy : (options : ParseOptions) (p : Path) (r : Rest) →
    continues_lazy options p (contained_at options p r) ≡ true → (contained_at options p r).change.closes ≡ []
unfolding contained
contained-lazy options p r h =
    go lazy
    (sym
    (ap (λ (opens : List Container). is_lazy (still_of p) opens (line_kind options leaf new.rest))
    (change-opens lazy on.containers others new.containers))
    ∙ h)
  where
    on : Prefixed
    on = prefixes_on options (containers_of p) r

    others : List Container
    others = others_of (containers_of p) on.containers

    new : Prefixed
    new = prefixes_after options (still_of p) others on

    leaf : HeldLeaf
    leaf = against (still_of p) others new.containers

    lazy : Bool
    lazy = is_lazy (still_of p) new.containers (line_kind options leaf new.rest)

    go : (x : Bool) → x ≡ true → (change_by x on.containers others new.containers).closes ≡ []
    go true e = refl
    go false e = cc
