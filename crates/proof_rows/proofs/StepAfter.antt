-- What is open after one line: its containers, the kind of the leaf, and that it is such as may be open.
use Rattle.std.proofs.Common.{◌≡◌, ℕ, ◌+◌, ◌≤◌, Bool, true, false, cond, ◌&&◌, List, [], ◌∷◌, ◌++◌}
use Rattle.std.proofs.Common.{length, refl, ap, ap₂, sym, ◌∙◌, subst, append-nil, arith}
use Rattle.std.proofs.lemmas.Bool.{and_parts}
use Rattle.std.proofs.lemmas.List.{map-append}
use Rattle.md_engine.specs.declared.configuration.ParseOptions.{ParseOptions}
use Rattle.md_engine.specs.declared.tokenizer.held_leaf.HeldLeaf.{HeldLeaf}
use Rattle.md_engine.specs.declared.tokenizer.held_leaf.HeldLeaf.TheVariants as held_leaf
use Rattle.md_engine.specs.declared.tokenizer.held_leaf.Progress.TheVariants.{Fresh}
use Rattle.md_engine.specs.declared.tokenizer.held_leaf.Progress.{Progress}
use Rattle.md_meaning.specs.Leaves.{LeafResult, Finished, Opened}
use Rattle.md_meaning.specs.Rest.{Rest, trim_start}
use Rattle.md_meaning.specs.State.{At, Container, ParagraphLine, Leaf, NoLeaf, OpenParagraph, Path, Innermost, Within}
use Rattle.md_meaning.specs.State.{cut, kept, spot, texts}
use Rattle.md_meaning.specs.Step.{became, step}
use Rattle.md_meaning.specs.Tree.{Blocks, End}
use Rattle.proof_rows.proofs.TextProgress.{IsFresh, contained-progress, unlazy-fresh}
use Rattle.proof_frame.specs.Change.{is_none, open_following}
use Rattle.proof_rows.specs.Fronted.{Contained}
use Rattle.proof_frame.specs.HeldLeaf.{has_lines, kind_of_leaf, left_by, may_continue, takes_lazy}
use Rattle.md_registry.specs.OpenSpan.{IsBuiltLeaf, IsOpenSpan}
use Rattle.proof_frame.specs.Leaf.Paragraph.{held_of, open_lines}
use Rattle.proof_rows.specs.WithoutMdx.{IsWithoutMdx}
use Rattle.proof_frame.specs.LeafName.{GfmTable, LeafName}
use Rattle.proof_frame.specs.TextLines.{text_leaf}
use Rattle.md_registry.specs.Registry.{turn_leaf, further_of, leaf}
use Rattle.proof_frame.specs.Row.{BlankRow, LeafRow, RowKind, TextRow}
use Rattle.proof_rows.specs.Rows.{is_further, is_lazy, is_text, line_following, line_kind, takes_head}
use Rattle.proof_rows.specs.Valid.{IsPlain, containers_of, still_of}
use Rattle.proof_rows.proofs.ContainedLemmas.{contained-met, contained-size, contained-still, lazy-opens, lines-open}
use Rattle.proof_rows.proofs.KindLemmas.{kind-starts}
use Rattle.proof_rows.proofs.FurtherSpan.{FurtherSpan, further-span, none-further, other-begins, other_kind}
use Rattle.proof_frame.proofs.LastKept.{last-is}
use Rattle.proof_rows.proofs.LineSteps.{after_path, becomes_by, contained-lazy, contained_at, further_path}
use Rattle.proof_rows.proofs.LineSteps.{continues_further, continues_lazy, kept_to, longer, new_line, path_by, renewed}
use Rattle.proof_rows.proofs.LineSteps.{renewed-spot, spot_by, step-contained, with_result}
use Rattle.md_registry.proofs.OpenSpan.{Begun, BecomesShallow, TurnsText}
use Rattle.md_registry.proofs.Dispatch.{text-turns}
use Rattle.md_registry.proofs.SpanLeaves.{leaf-begun}
use Rattle.md_registry.proofs.Registry.{laws, text-laws}
use Rattle.proof_frame.proofs.ShallowBlocks.{shallow-then}
use Rattle.md_registry.proofs.UnderNames.{heads-table}
use Rattle.proof_rows.proofs.TextFound.{front_before, text_on}
use Rattle.md_link_definitions.proofs.ProgressLemmas.{progress-snoc}
use Rattle.md_link_definitions.specs.Head.{head_columns}
use Rattle.md_link_definitions.specs.OpenText.{open_text, text_following}
use Rattle.md_link_definitions.specs.Progress.{progress, progress_of, steps}
use Rattle.md_link_definitions.specs.Progress as stepped

-- Where a line continues the leaf that is open: it is one of several lines, or text that the line turns.

-- the leaf that takes such a line, where it meets this one
pub record Takes (options : ParseOptions) (open_leaf : Leaf) (r : Rest) : Type 0 where
  pub name : LeafName
  pub ends : (leaf name).ends ≡ false
  pub same : further_of name ≡ name
  pub may : may_continue (kind_of_leaf open_leaf) ≡ true
  pub further : (leaf name).further (kind_of_leaf open_leaf) ≡ true
  pub kind : line_kind options (kind_of_leaf open_leaf) r ≡ LeafRow name
  pub starts : (leaf name).starts options (kind_of_leaf open_leaf) r ≡ true
  -- what the open leaf becomes with it may be open, and an outline can show it
  pub built : IsBuiltLeaf (left_by ((leaf name).becomes options open_leaf r))
  pub shallow : BecomesShallow ((leaf name).becomes options open_leaf r)

-- the line meets that leaf, and no container ends before it or opens on it
pub record IsContinued (options : ParseOptions) (p : Path) (c : Contained) : Type 0 where
  pub is : Takes options (spot p).leaf c.rest
  pub on : c.on ≡ still_of p
  pub kind : line_kind options c.on c.rest ≡ LeafRow is.name
  pub opens : c.change.opens ≡ []
  pub closes : c.change.closes ≡ []

-- a path in which a leaf of several lines is open
pub span-open : (open_leaf : Leaf) → IsBuiltLeaf open_leaf → has_lines (kind_of_leaf open_leaf) ≡ true →
    FurtherSpan open_leaf
span-open open_leaf plain =
    text-laws.cases IsOpenSpan (λ (l : Leaf). has_lines (kind_of_leaf l) ≡ true → FurtherSpan l)
    (λ e. cc) (λ k ks e. cc)
    (λ l is e. further-span l is) open_leaf plain

-- a line that continues a leaf of several lines is one of the leaf that takes its further lines
span-takes : (options : ParseOptions) (r : Rest) (open_leaf : Leaf) → FurtherSpan open_leaf →
    is_further (line_kind options (kind_of_leaf open_leaf) r) (kind_of_leaf open_leaf) ≡ true →
    Takes options open_leaf r
span-takes options r open_leaf is proceeds = record {
  name = is.name;
  ends = is.ends;
  same = is.same;
  may = lines-open on is.lines;
  further = is.further;
  kind = kind;
  starts = starts;
  built = is.built options r starts;
  shallow = is.shallow options r;
}
  where
    on : HeldLeaf
    on = kind_of_leaf open_leaf

    by : (x : Bool) → is_further (cond x (LeafRow is.name) (other_kind options on r)) on ≡ true → x ≡ true
    by true e = refl
    by false e = let begins = other-begins options on r is.lines in cc

    kind : line_kind options on r ≡ LeafRow is.name
    kind =
        is.kind options r
        ∙ ap (λ (x : Bool). cond x (LeafRow is.name) (other_kind options on r))
        (by (is.takes options r) (ap (λ (k : RowKind). is_further k on) (sym (is.kind options r)) ∙ proceeds))

    starts : (leaf is.name).starts options on r ≡ true
    starts = kind-starts options on r is.name kind

-- one that continues text turns it, or makes its last line the head of a table
turn-takes : (options : ParseOptions) (r : Rest) (lines : List ParagraphLine) (l : LeafName) →
    line_kind options (text_on lines) r ≡ LeafRow l → (leaf l).further (text_on lines) ≡ true →
    (leaf l).heads ≡ false → Takes options (text_leaf.held lines) r
turn-takes options r lines l e further heads =
    let turns : TurnsText l = text-turns (open_lines lines) l further heads in
    let left : List (List ℕ) = (cut options (texts lines)).1 in
    let becomes : (leaf l).becomes options (text_leaf.held lines) r ≡
    Finished (turn_leaf.block left r) = turns.becomes options lines r in
    record {
      name = l;
      ends = turns.ends;
      same = turns.same;
      may = refl;
      further = further;
      kind = e;
      starts = kind-starts options (text_on lines) r l e;
      built = subst (λ (c : LeafResult). IsBuiltLeaf (left_by c)) (sym becomes) tt;
      shallow =
          subst BecomesShallow (sym becomes)
          (λ bs h. shallow-then bs (turn_leaf.block left r) h (turns.shallow left r));
    }

head-takes : (options : ParseOptions) (r : Rest) (lines : List ParagraphLine) (l : LeafName) →
    line_kind options (text_on lines) r ≡ LeafRow l → l ≡ GfmTable → Takes options (text_leaf.held lines) r
unfolding IsOpenSpan
head-takes options r lines l e name =
    let kind : line_kind options (text_on lines) r ≡ LeafRow GfmTable = e ∙ ap LeafRow name in
    record {
      name = GfmTable;
      ends = refl;
      same = refl;
      may = refl;
      further = refl;
      kind = kind;
      starts = kind-starts options (text_on lines) r GfmTable kind;
      built = tt;
      shallow = λ bs h. h;
    }

text-takes : (options : ParseOptions) (r : Rest) (lines : List ParagraphLine) →
    is_further (line_kind options (text_on lines) r) (text_on lines) ≡ true → Takes options (text_leaf.held lines) r
text-takes options r lines proceeds = go (line_kind options (text_on lines) r) refl proceeds
  where
    by : (l : LeafName) → line_kind options (text_on lines) r ≡ LeafRow l → (leaf l).further (text_on lines) ≡ true →
        (x : Bool) → (leaf l).heads ≡ x → Takes options (text_leaf.held lines) r
    by l e f true heads = head-takes options r lines l e (heads-table l heads)
    by l e f false heads = turn-takes options r lines l e f heads

    go : (kind : RowKind) → line_kind options (text_on lines) r ≡ kind → is_further kind (text_on lines) ≡ true →
        Takes options (text_leaf.held lines) r
    go BlankRow e f = absurd (cc)
    go TextRow e f = absurd (cc)
    go (LeafRow l) e f = by l e f (leaf l).heads refl

takes : (options : ParseOptions) (r : Rest) (open_leaf : Leaf) → IsBuiltLeaf open_leaf →
    is_further (line_kind options (kind_of_leaf open_leaf) r) (kind_of_leaf open_leaf) ≡ true →
    Takes options open_leaf r
takes options r open_leaf plain =
    text-laws.cases IsOpenSpan
    (λ (l : Leaf). is_further (line_kind options (kind_of_leaf l) r) (kind_of_leaf l) ≡ true → Takes options l r)
    (λ e. let none = none-further options held_leaf.None r refl in absurd (cc))
    (λ k ks e. text-takes options r (k ∷ ks) e) (λ l is e. span-takes options r l (further-span l is) e) open_leaf plain

pub proceeds-on : (options : ParseOptions) (p : Path) (r : Rest) → IsPlain p →
    continues_further options (contained_at options p r) ≡ true → IsContinued options p (contained_at options p r)
proceeds-on options p r plain proceeds =
    let met = contained-met options (containers_of p) (still_of p) r may in
    let is : Takes options (spot p).leaf c.rest = takes options c.rest (spot p).leaf plain
    (ap (λ (on : HeldLeaf). is_further (line_kind options on c.rest) on) (sym on) ∙ proceeds) in
    record {
      is = is;
      on = on;
      kind = ap (λ (on : HeldLeaf). line_kind options on c.rest) on ∙ is.kind;
      opens = met.0;
      closes = met.1;
    }
  where
    c : Contained
    c = contained_at options p r

    some : (x : Bool) → may_continue c.on ≡ x → x ≡ true
    some true e = refl
    some false e = let none = none-further options c.on c.rest e in cc

    may : may_continue c.on ≡ true
    may = some (may_continue c.on) refl

    on : c.on ≡ still_of p
    on = contained-still options (containers_of p) (still_of p) r may

-- Plain paths stay such.

pub plain-renewed : (cs : List Container) (p : Path) → IsPlain p → IsPlain (renewed cs p)
plain-renewed cs p plain = subst (λ (s : Innermost). IsBuiltLeaf s.leaf) (sym (renewed-spot cs p)) plain

pub plain-longer : (p : Path) (k : ParagraphLine) (ks : List ParagraphLine) → IsPlain p → IsPlain (longer p (k ∷ ks))
plain-longer (At s) k ks plain = some (held_of s.leaf)
  where
    some : (lines : List ParagraphLine) → IsBuiltLeaf (text_leaf.held (lines ++ k ∷ ks))
    some [] = tt
    some (j ∷ js) = tt
plain-longer (Within before container p) k ks plain = plain-longer p k ks plain

plain-following : (p : Path) (f : Blocks → Path) → ((bs : Blocks) → IsPlain (f bs)) → IsPlain (after_path p f)
plain-following (At s) f each = each s.here
plain-following (Within before container p) f each = plain-following p f each

became-leaf : (bs : Blocks) (c : LeafResult) → (became bs c).leaf ≡ left_by c
became-leaf bs (Opened open_leaf) = refl
became-leaf bs (Finished block) = refl

pub became-spot : (options : ParseOptions) (heads : Bool) (p : Path) (c : LeafResult) →
    (spot (with_result options heads p c)).leaf ≡ left_by c
became-spot options heads (At s) c = became-leaf (front_before heads options s.here s.leaf) c
became-spot options heads (Within before container p) c = became-spot options heads p c

-- a line that begins a leaf, where it continues none
pub begun-leaf : (options : ParseOptions) (on : HeldLeaf) (r : Rest) → is_further (line_kind options on r) on ≡ false →
    (l : LeafName) → line_kind options on r ≡ LeafRow l → Begun l options on r
begun-leaf options on r begins l e =
    leaf-begun l options on r (kind-starts options on r l e)
    (sym (ap (λ (kind : RowKind). is_further kind on) e) ∙ begins)

plain-line : (options : ParseOptions) (on : HeldLeaf) (r : Rest) (bs : Blocks) →
    is_further (line_kind options on r) on ≡ false →
    IsBuiltLeaf (spot_by options bs [] r (line_kind options on r)).leaf
plain-line options on r bs begins = go (line_kind options on r) refl
  where
    go : (kind : RowKind) → line_kind options on r ≡ kind → IsBuiltLeaf (spot_by options bs [] r kind).leaf
    go BlankRow e = tt
    go (LeafRow l) e =
        subst IsBuiltLeaf (sym (became-leaf bs ((leaf l).becomes options NoLeaf r)))
        (begun-leaf options on r begins l e).built
    go TextRow e = tt

plain-new_line : (options : ParseOptions) (on : HeldLeaf) (cs : List Container) (r : Rest) (bs : Blocks) →
    is_further (line_kind options on r) on ≡ false → IsPlain (new_line options on cs r bs)
plain-new_line options on [] r bs begins = plain-line options on r bs begins
plain-new_line options on (c ∷ cs) r bs begins = plain-new_line options on cs r End begins

plain-further : (options : ParseOptions) (p : Path) (c : Contained) → IsContinued options p c →
    IsPlain (further_path options p c)
plain-further options p c proceeds =
    subst IsBuiltLeaf
    (sym
    (became-spot options (takes_head (line_kind options c.on c.rest)) (renewed c.change.stays p)
    (becomes_by options (spot p).leaf c.rest (line_kind options c.on c.rest))))
    (subst (λ (kind : RowKind). IsBuiltLeaf (left_by (becomes_by options (spot p).leaf c.rest kind)))
    (sym proceeds.kind)
    proceeds.is.built)

pub plain-step : (options : ParseOptions) (p : Path) (r : Rest) → IsWithoutMdx options → IsPlain p →
    IsPlain (step options p r)
plain-step options p r built plain =
    subst IsPlain (sym (step-contained options p r built plain))
    (go (continues_lazy options p c) (continues_further options c) refl)
  where
    c : Contained
    c = contained_at options p r

    go : (x y : Bool) → continues_further options c ≡ y → IsPlain (path_by options p c x y)
    go true y e = plain-longer (renewed c.change.stays p) (kept c.rest) [] (plain-renewed c.change.stays p plain)
    go false true e = plain-further options p c (proceeds-on options p r plain e)
    go false false e =
        plain-following (kept_to options c.change.stays p) (new_line options c.on c.change.opens c.rest)
        (λ bs. plain-new_line options c.on c.change.opens c.rest bs e)

-- a line that continues the open text is text
pub lazy-text : (still : HeldLeaf) (opens : List Container) (kind : RowKind) → is_lazy still opens kind ≡ true →
    is_text kind ≡ true
lazy-text still opens kind e = (and_parts (takes_lazy still && is_none opens) (is_text kind) e).1

-- a line that continues a leaf, or turns text, is no further line of text
pub further-unlazy : (still on : HeldLeaf) (opens : List Container) (kind : RowKind) → is_further kind on ≡ true →
    is_lazy still opens kind ≡ false
further-unlazy still on opens BlankRow e = cc
further-unlazy still on opens (LeafRow l) e = go (takes_lazy still) (is_none opens)
  where
    go : (x y : Bool) → (x && y && false) ≡ false
    go true true = refl
    go true false = refl
    go false y = refl
further-unlazy still on opens TextRow e = cc

-- Which containers are open after a line.

pub containers-longer : (p : Path) (ks : List ParagraphLine) → containers_of (longer p ks) ≡ containers_of p
containers-longer (At s) ks = refl
containers-longer (Within before container p) ks = ap (λ (cs : List Container). container ∷ cs) (containers-longer p ks)

containers-following : (p : Path) (f : Blocks → Path) (cs : List Container) →
    ((bs : Blocks) → containers_of (f bs) ≡ cs) →
    containers_of (after_path p f) ≡ containers_of p ++ cs
containers-following (At s) f cs each = each s.here
containers-following (Within before container p) f cs each =
    ap (λ (l : List Container). container ∷ l) (containers-following p f cs each)

containers-kept : (options : ParseOptions) (cs : List Container) (p : Path) → length cs ≤ length (containers_of p) →
    containers_of (kept_to options cs p) ≡ cs
containers-kept options [] p le = refl
containers-kept options (c ∷ cs) (At s) le = absurd (omega arith)
containers-kept options (c ∷ cs) (Within before container p) le =
    ap (λ (l : List Container). c ∷ l) (containers-kept options cs p (omega arith))

-- where all of them are said
containers-renewed : (cs : List Container) (p : Path) → length cs ≡ length (containers_of p) →
    containers_of (renewed cs p) ≡ cs
containers-renewed [] (At s) e = refl
containers-renewed [] (Within before container p) e = absurd (omega arith)
containers-renewed (c ∷ cs) (At s) e = absurd (omega arith)
containers-renewed (c ∷ cs) (Within before container p) e =
    ap (λ (l : List Container). c ∷ l) (containers-renewed cs p (omega arith))

containers-new_line : (options : ParseOptions) (on : HeldLeaf) (cs : List Container) (r : Rest) (bs : Blocks) →
    containers_of (new_line options on cs r bs) ≡ cs
containers-new_line options on [] r bs = refl
containers-new_line options on (c ∷ cs) r bs =
    ap (λ (l : List Container). c ∷ l) (containers-new_line options on cs r End)

containers-became : (options : ParseOptions) (heads : Bool) (p : Path) (c : LeafResult) →
    containers_of (with_result options heads p c) ≡ containers_of p
containers-became options heads (At s) c = refl
containers-became options heads (Within before container p) c =
    ap (λ (cs : List Container). container ∷ cs) (containers-became options heads p c)

-- where none ends, those that stay are all
pub containers-all : (options : ParseOptions) (p : Path) (r : Rest) →
    (contained_at options p r).change.closes ≡ [] →
    containers_of (renewed (contained_at options p r).change.stays p) ≡ (contained_at options p r).change.stays
containers-all options p r e =
    let change = (contained_at options p r).change in
    let sizes : length change.stays + length change.closes ≡ length (containers_of p) = contained-size options
    (containers_of p) (still_of p) r in
    let none : length change.closes ≡ 0 = ap length e in
    containers-renewed change.stays p (omega (arith, sizes))

pub containers-step : (options : ParseOptions) (p : Path) (r : Rest) → IsWithoutMdx options → IsPlain p →
    containers_of (step options p r) ≡ open_following (contained_at options p r).change
containers-step options p r built plain =
    ap containers_of (step-contained options p r built plain)
    ∙ go (continues_lazy options p c) (continues_further options c) refl refl
  where
    c : Contained
    c = contained_at options p r

    sizes : length c.change.stays + length c.change.closes ≡ length (containers_of p)
    sizes = contained-size options (containers_of p) (still_of p) r

    all : c.change.closes ≡ [] → containers_of (renewed c.change.stays p) ≡ c.change.stays
    all e = containers-all options p r e

    go : (x y : Bool) → continues_lazy options p c ≡ x → continues_further options c ≡ y →
        containers_of (path_by options p c x y) ≡ c.change.stays ++ c.change.opens
    go true y e f =
        containers-longer (renewed c.change.stays p) (kept c.rest ∷ [])
        ∙ all (contained-lazy options p r e) ∙ sym (append-nil c.change.stays)
        ∙ ap (λ (l : List Container). c.change.stays ++ l)
        (sym (lazy-opens (still_of p) c.change.opens (line_kind options c.on c.rest) e))
    go false true e f =
        let proceeds = proceeds-on options p r plain f in
        containers-became options (takes_head (line_kind options c.on c.rest)) (renewed c.change.stays p)
        (becomes_by options (spot p).leaf c.rest (line_kind options c.on c.rest))
        ∙ all proceeds.closes ∙ sym (append-nil c.change.stays)
        ∙ ap (λ (l : List Container). c.change.stays ++ l) (sym proceeds.opens)
    go false false e f =
        containers-following (kept_to options c.change.stays p)
        (new_line options c.on c.change.opens c.rest) c.change.opens
        (λ bs. containers-new_line options c.on c.change.opens c.rest bs)
        ∙ ap (λ (l : List Container). l ++ c.change.opens)
        (containers-kept options c.change.stays p (omega (arith, sizes)))

-- The leaf that is open after a line.

text-left : (options : ParseOptions) (on : HeldLeaf) (r : Rest) (kind : RowKind) → is_text kind ≡ true →
    line_following options on r kind ≡ text_following on r
text-left options on r BlankRow e = cc
text-left options on r (LeafRow l) e = cc
text-left options on r TextRow e = refl

-- what is held of a leaf shows how far the definitions of its lines have come
held-progress : (open_leaf : Leaf) → progress_of (kind_of_leaf open_leaf) ≡ progress (texts (held_of open_leaf))
unfolding steps
held-progress (OpenParagraph lines) = refl
held-progress _ = refl

-- with one line more
one-longer : (open_leaf : Leaf) (r : Rest) →
    held_leaf.Text (open_lines (held_of open_leaf ++ kept r ∷ [])) ≡ text_following (kind_of_leaf open_leaf) r
one-longer open_leaf r =
    ap₂ (λ (columns indent : ℕ). held_leaf.Text
    (record { progress = progress (texts longer_lines); columns = columns; indent = indent }))
    (last-is (λ k. head_columns k.text) (held_of open_leaf) (kept r))
    (last-is (λ k. k.indent) (held_of open_leaf) (kept r))
    ∙ ap (λ (at : Progress). held_leaf.Text (open_text at (kept r)))
    (ap progress (map-append (λ k. k.text) (held_of open_leaf) (kept r ∷ []))
    ∙ progress-snoc (texts (held_of open_leaf)) (trim_start r.bytes)
    ∙ ap (λ (at : Progress). stepped.step at (trim_start r.bytes)) (sym (held-progress open_leaf)))
  where
    longer_lines : List ParagraphLine
    longer_lines = held_of open_leaf ++ kept r ∷ []

still-longer : (p : Path) (r : Rest) → still_of (longer p (kept r ∷ [])) ≡ text_following (still_of p) r
still-longer (At s) r = one-longer s.leaf r
still-longer (Within before container p) r = still-longer p r

still-following : (p : Path) (f : Blocks → Path) (x : HeldLeaf) → ((bs : Blocks) → still_of (f bs) ≡ x) →
    still_of (after_path p f) ≡ x
still-following (At s) f x each = each s.here
still-following (Within before container p) f x each = still-following p f x each

still-line : (options : ParseOptions) (on : HeldLeaf) (bs : Blocks) (r : Rest) →
    is_further (line_kind options on r) on ≡ false → (line_kind options on r ≡ TextRow → IsFresh on) →
    kind_of_leaf (spot_by options bs [] r (line_kind options on r)).leaf ≡
    line_following options on r (line_kind options on r)
still-line options on bs r begins fresh = go (line_kind options on r) refl
  where
    go : (kind : RowKind) → line_kind options on r ≡ kind →
        kind_of_leaf (spot_by options bs [] r kind).leaf ≡ line_following options on r kind
    go BlankRow e = refl
    go (LeafRow l) e =
        ap kind_of_leaf (became-leaf bs ((leaf l).becomes options NoLeaf r))
        ∙ (begun-leaf options on r begins l e).holds
    go TextRow e =
        one-longer NoLeaf r
        ∙ ap (λ (at : Progress). held_leaf.Text (open_text (stepped.step at (trim_start r.bytes))
        (kept r))) (sym (fresh e))

still-new_line : (options : ParseOptions) (on : HeldLeaf) (cs : List Container) (r : Rest) (bs : Blocks) →
    is_further (line_kind options on r) on ≡ false → (line_kind options on r ≡ TextRow → IsFresh on) →
    still_of (new_line options on cs r bs) ≡ line_following options on r (line_kind options on r)
still-new_line options on [] r bs begins fresh = still-line options on bs r begins fresh
still-new_line options on (c ∷ cs) r bs begins fresh = still-new_line options on cs r End begins fresh

still-further : (options : ParseOptions) (p : Path) (c : Contained) → IsContinued options p c →
    still_of (further_path options p c) ≡ line_following options c.on c.rest (line_kind options c.on c.rest)
still-further options p c proceeds =
    ap kind_of_leaf
    (became-spot options (takes_head (line_kind options c.on c.rest)) (renewed c.change.stays p)
    (becomes_by options (spot p).leaf c.rest (line_kind options c.on c.rest)))
    ∙ ap (λ (kind : RowKind). kind_of_leaf (left_by (becomes_by options (spot p).leaf c.rest kind))) proceeds.kind
    ∙ (laws proceeds.is.name).holds_is options (spot p).leaf c.rest proceeds.is.starts
    ∙ ap (λ (on : HeldLeaf). (leaf proceeds.is.name).holds options on c.rest) (sym proceeds.on)
    ∙ ap (line_following options c.on c.rest) (sym proceeds.kind)

pub still-step : (options : ParseOptions) (p : Path) (r : Rest) → IsWithoutMdx options → IsPlain p →
    let c = contained_at options p r in
    still_of (step options p r) ≡ line_following options c.on c.rest (line_kind options c.on c.rest)
still-step options p r built plain =
    ap still_of (step-contained options p r built plain)
    ∙ go (continues_lazy options p c) (continues_further options c) refl refl
  where
    c : Contained
    c = contained_at options p r

    kind : RowKind
    kind = line_kind options c.on c.rest

    on-progress : progress_of c.on ≡ cond (is_none c.change.opens) (progress_of (still_of p)) Fresh
    on-progress = contained-progress options (containers_of p) (still_of p) r

    -- a line that continues the open text meets it
    lazy-on : continues_lazy options p c ≡ true → progress_of c.on ≡ progress_of (still_of p)
    lazy-on e =
        on-progress
        ∙ ap (λ (l : List Container). cond (is_none l) (progress_of (still_of p)) Fresh)
        (lazy-opens (still_of p) c.change.opens kind e)

    -- and where text does not, none is open
    unlazy-on : kind ≡ TextRow → continues_lazy options p c ≡ false → IsFresh c.on
    unlazy-on text e =
        on-progress
        ∙ shut (is_none c.change.opens) (takes_lazy (still_of p)) refl
        (ap (λ (k : RowKind). is_lazy (still_of p) c.change.opens k) (sym text) ∙ e)
      where
        shut : (x y : Bool) → takes_lazy (still_of p) ≡ y → (takes_lazy (still_of p) && x && true) ≡ false →
            cond x (progress_of (still_of p)) Fresh ≡ Fresh
        shut false y k e = refl
        shut true true k e = let bad : true ≡ false = sym (ap (λ (t : Bool). t && true && true) k) ∙ e in cc
        shut true false k e = unlazy-fresh (still_of p) k

    go : (x y : Bool) → continues_lazy options p c ≡ x → continues_further options c ≡ y →
        still_of (path_by options p c x y) ≡ line_following options c.on c.rest kind
    go true y e f =
        still-longer (renewed c.change.stays p) c.rest
        ∙ ap (λ (s : Innermost). text_following (kind_of_leaf s.leaf) c.rest) (renewed-spot c.change.stays p)
        ∙ ap (λ (at : Progress). held_leaf.Text (open_text (stepped.step at (trim_start c.rest.bytes))
        (kept c.rest))) (sym (lazy-on e))
        ∙ sym (text-left options c.on c.rest kind (lazy-text (still_of p) c.change.opens kind e))
    go false true e f = still-further options p c (proceeds-on options p r plain f)
    go false false e f =
        still-following (kept_to options c.change.stays p) (new_line options c.on c.change.opens c.rest)
        (line_following options c.on c.rest kind) (λ bs. still-new_line options c.on c.change.opens c.rest bs f
        (λ text. unlazy-on text e))
