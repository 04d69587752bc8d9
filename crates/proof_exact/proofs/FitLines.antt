-- What follows of a line and its row, if they fit: how it was read, what flow has added for it, and what it is.
use Rattle.std.proofs.Common.{◌≡◌, ◌⊎◌, ℕ, Bool, true, false, cond, List, [], ◌∷◌, ◌++◌, refl, sym, ap, ap₂}
use Rattle.std.proofs.Common.{◌∙◌, subst}
use Rattle.md_engine.specs.declared.configuration.ParseOptions.{ParseOptions}
use Rattle.md_engine.specs.declared.event.Event.{Event}
use Rattle.md_engine.specs.declared.event.Name.{Name}
use Rattle.md_engine.specs.declared.tokenizer.held_leaf.HeldLeaf.{HeldLeaf}
use Rattle.md_engine.specs.declared.tokenizer.held_leaf.HeldLeaf.TheVariants as held_leaf
use Rattle.md_engine.specs.declared.tokenizer.held_leaf.OpenText.{OpenText}
use Rattle.md_meaning.specs.Rest.{Rest, is_blank}
use Rattle.md_meaning.specs.State.{Leaf, NoLeaf, OpenCode, OpenFence, OpenHtml, OpenParagraph, OpenTable}
use Rattle.md_events.specs.Events.Places.{past_text}
use Rattle.md_events.specs.Exact.Blocks.{is_continued, tail}
use Rattle.md_events.specs.Exact.Places.{ending}
use Rattle.md_events.specs.Exact.Rows.{AfterCode, Blank, Delimiter, First, FirstText, Further, FurtherText, Head, Role, Row}
use Rattle.md_events.specs.Exact.Rows.{Underline}
use Rattle.proof_frame.specs.HeldLeaf.{kind_of_leaf, may_continue, takes_lazy}
use Rattle.proof_frame.specs.LeafName.{CodeFurther, LeafName}
use Rattle.proof_frame.specs.RestLine.{rest_line}
use Rattle.proof_frame.specs.Row.{BlankRow, LeafRow, Row as FrameRow, RowKind, TextRow, ending_events, ending_of}
use Rattle.proof_frame.specs.Row.{row_line}
use Rattle.md_registry.specs.Registry.{leaf}
use Rattle.proof_rows.specs.Rows.{line_following, tail_events}
use Rattle.proof_rows.proofs.KindLemmas.{kind-starts}
use Rattle.proof_exact.proofs.Tails.{last_ending}
use Rattle.proof_exact_lines.proofs.BeginsAt.{rest_bytes}
use Rattle.proof_exact_lines.proofs.OnLine.{on-begins}
use Rattle.proof_exact_lines.proofs.FlowLines.{ReadAs, same-line}
use Rattle.proof_exact_lines.proofs.Spans.{SameLine}
use Rattle.proof_exact_lines.specs.Unlisted.{without_lists}
use Rattle.proof_exact_lines.proofs.GroupEvents.{ending-none, without-append, without-none}
use Rattle.proof_rows.proofs.KindRoles.{further_role}
use Rattle.proof_exact.proofs.RowRoles.{following_code, in_code, is_headed, row_role_by}
use Rattle.proof_exact.proofs.Fit.{Fit}
use Rattle.proof_exact_lines.proofs.Tables.{IsTableLine, table-line}

-- with other events before it
abbrev pub with_front : List Event → Row → Row
with_front front x = record x { front = front }

-- How it was read.

own-is : (options : ParseOptions) (bytes : List ℕ) (x : Row) (r : FrameRow) → (fit : Fit options bytes x r) →
    fit.own ≡ rest_bytes x.rest
own-is options bytes x r fit = fit.is.line_is ∙ ap rest_line fit.rest

pub read-as : (options : ParseOptions) (bytes : List ℕ) (x : Row) (r : FrameRow) → Fit options bytes x r → ReadAs x r
read-as options bytes x r fit = record {
  at = on-begins bytes fit.following x.line x.rest r.first fit.within fit.on;
  end = fit.is.end ∙ ap (λ (l : List ℕ). past_text l r.first) (own-is options bytes x r fit);
}

pub line-is : (options : ParseOptions) (bytes : List ℕ) (x : Row) (r : FrameRow) → Fit options bytes x r →
    row_line bytes r ≡ rest_bytes x.rest
line-is options bytes x r fit = fit.is.text ∙ own-is options bytes x r fit

-- a line that continues a leaf, and a first line, if before it is what the row has there
pub further-same : (options : ParseOptions) (bytes : List ℕ) (x : Row) (r : FrameRow) → Fit options bytes x r →
    is_continued x.role ≡ true → SameLine x r
further-same options bytes x r fit proceeds =
    same-line x r (read-as options bytes x r fit) fit.ending (fit.further proceeds)

pub first-same : (options : ParseOptions) (bytes : List ℕ) (x : Row) (r : FrameRow) → Fit options bytes x r →
    SameLine (with_front r.front x) r
first-same options bytes x r fit =
    let read : ReadAs x r = read-as options bytes x r fit in
    same-line (with_front r.front x) r (record { at = read.at; end = read.end }) fit.ending refl

pub first-table : (options : ParseOptions) (bytes : List ℕ) (x : Row) (r : FrameRow) → Fit options bytes x r →
    IsTableLine bytes (with_front r.front x) r
first-table options bytes x r fit =
    table-line bytes fit.following (with_front r.front x) r fit.within fit.on (read-as options bytes x r fit).end
    fit.ending refl

pub further-table : (options : ParseOptions) (bytes : List ℕ) (x : Row) (r : FrameRow) → Fit options bytes x r →
    is_continued x.role ≡ true → IsTableLine bytes x r
further-table options bytes x r fit proceeds =
    table-line bytes fit.following x r fit.within fit.on (read-as options bytes x r fit).end fit.ending
    (fit.further proceeds)

-- Its leaf.

pub leaf-starts : (options : ParseOptions) (bytes : List ℕ) (x : Row) (r : FrameRow) → Fit options bytes x r →
    (l : LeafName) → r.kind ≡ LeafRow l → (leaf l).starts options r.on x.rest ≡ true
leaf-starts options bytes x r fit l e =
    subst (λ (rest : Rest). (leaf l).starts options r.on rest ≡ true) fit.rest
    (kind-starts options r.on fit.is.rest l (sym fit.is.kind ∙ e))

pub leaf-following : (options : ParseOptions) (bytes : List ℕ) (x : Row) (r : FrameRow) → Fit options bytes x r →
    (l : LeafName) → r.kind ≡ LeafRow l → r.following ≡ (leaf l).holds options r.on x.rest
leaf-following options bytes x r fit l e =
    fit.is.following ∙ ap (line_following options r.on fit.is.rest) e ∙ ap ((leaf l).holds options r.on) fit.rest

pub leaf-added : (options : ParseOptions) (bytes : List ℕ) (x : Row) (r : FrameRow) → Fit options bytes x r →
    (l : LeafName) → r.kind ≡ LeafRow l → r.inside ≡ (leaf l).added options r.on (rest_bytes x.rest) r.first
leaf-added options bytes x r fit l e =
    fit.is.leaf_is l e
    ∙ ap (λ (line : List ℕ). (leaf l).added options r.on line r.first) (own-is options bytes x r fit)

-- What it is.

role-by : (options : ParseOptions) (bytes : List ℕ) (x : Row) (r : FrameRow) → (fit : Fit options bytes x r) →
    (kind : RowKind) → r.kind ≡ kind → x.role ≡ row_role_by options fit.open_leaf x.rest r fit.below kind
role-by options bytes x r fit kind e = fit.role ∙ ap (row_role_by options fit.open_leaf x.rest r fit.below) e

pub blank-role : (options : ParseOptions) (bytes : List ℕ) (x : Row) (r : FrameRow) → Fit options bytes x r →
    r.kind ≡ BlankRow → x.role ≡ Blank
blank-role options bytes x r fit e = role-by options bytes x r fit BlankRow e

-- the first line of a leaf
pub first-role : (options : ParseOptions) (bytes : List ℕ) (x : Row) (r : FrameRow) → Fit options bytes x r →
    (l : LeafName) → r.kind ≡ LeafRow l → (leaf l).further r.on ≡ false →
    x.role ≡ First ((leaf l).becomes options NoLeaf x.rest)
first-role options bytes x r fit l e begins =
    role-by options bytes x r fit (LeafRow l) e
    ∙ ap
    (λ (t : Bool).
    following_code
    (cond t (further_role fit.open_leaf (leaf l).heads) (First ((leaf l).becomes options NoLeaf x.rest))) r fit.below)
    begins

-- a further one
further-by : (options : ParseOptions) (bytes : List ℕ) (x : Row) (r : FrameRow) → (fit : Fit options bytes x r) →
    (l : LeafName) → r.kind ≡ LeafRow l → (leaf l).further r.on ≡ true →
    x.role ≡ following_code (further_role fit.open_leaf (leaf l).heads) r fit.below
further-by options bytes x r fit l e proceeds =
    role-by options bytes x r fit (LeafRow l) e
    ∙ ap
    (λ (t : Bool).
    following_code
    (cond t (further_role fit.open_leaf (leaf l).heads) (First ((leaf l).becomes options NoLeaf x.rest))) r fit.below)
    proceeds

on-text : (open_leaf : Leaf) (heads : Bool) (r : FrameRow) (below : List FrameRow) →
    takes_lazy (kind_of_leaf open_leaf) ≡ true →
    following_code (further_role open_leaf heads) r below ≡ cond heads Delimiter Underline
on-text (OpenParagraph lines) true r below e = refl
on-text (OpenParagraph lines) false r below e = refl
on-text NoLeaf heads r below e = cc
on-text (OpenCode lines) heads r below e = cc
on-text (OpenFence o lines) heads r below e = cc
on-text (OpenHtml kind lines) heads r below e = cc
on-text (OpenTable delimiter cells) heads r below e = cc

-- on text it is an underline or a delimiter row
pub text-further : (options : ParseOptions) (bytes : List ℕ) (x : Row) (r : FrameRow) → Fit options bytes x r →
    (l : LeafName) → r.kind ≡ LeafRow l → (leaf l).further r.on ≡ true → (at : OpenText) → r.on ≡ held_leaf.Text at →
    x.role ≡ cond (leaf l).heads Delimiter Underline
text-further options bytes x r fit l e proceeds at on =
    further-by options bytes x r fit l e proceeds
    ∙ on-text fit.open_leaf (leaf l).heads r fit.below
    (ap takes_lazy (sym (fit.met (ap may_continue on)) ∙ on))

-- a line of code that does not continue it is after it
alone-code : (open_leaf : Leaf) (r : FrameRow) (below : List FrameRow) → kind_of_leaf open_leaf ≡ held_leaf.Code →
    is_continued (following_code (further_role open_leaf false) r below) ≡ false →
    following_code (further_role open_leaf false) r below ≡ AfterCode
alone-code (OpenCode lines) r below e alone = go (in_code r below) alone
  where
    go : (x : Bool) → is_continued (cond x (Further (OpenCode lines)) AfterCode) ≡ false →
        cond x (Further (OpenCode lines)) AfterCode ≡ AfterCode
    go true h = cc
    go false h = refl
alone-code (OpenParagraph lines) r below e alone = cc
alone-code NoLeaf r below e alone = cc
alone-code (OpenFence o lines) r below e alone = cc
alone-code (OpenHtml kind lines) r below e alone = cc
alone-code (OpenTable delimiter cells) r below e alone = cc

code-on : (on : HeldLeaf) → (leaf CodeFurther).further on ≡ true → on ≡ held_leaf.Code
code-on held_leaf.Code e = refl
code-on held_leaf.None e = cc
code-on (held_leaf.Text at) e = cc
code-on (held_leaf.LazyText at) e = cc
code-on (held_leaf.Fence marker size indent) e = cc
code-on (held_leaf.Html kind) e = cc
code-on held_leaf.Table e = cc

pub code-alone : (options : ParseOptions) (bytes : List ℕ) (x : Row) (r : FrameRow) → Fit options bytes x r →
    r.kind ≡ LeafRow CodeFurther → (leaf CodeFurther).further r.on ≡ true → is_continued x.role ≡ false →
    x.role ≡ AfterCode
code-alone options bytes x r fit e proceeds alone =
    let role = further-by options bytes x r fit CodeFurther e proceeds in
    let on : r.on ≡ held_leaf.Code = code-on r.on proceeds in
    role
    ∙ alone-code fit.open_leaf r fit.below (sym (fit.met (ap may_continue on)) ∙ on)
    (sym (ap is_continued role) ∙ alone)

-- text
abbrev pub IsTextRole : Role → Type 0
IsTextRole Head = Unit {0}
IsTextRole FirstText = Unit {0}
IsTextRole FurtherText = Unit {0}
IsTextRole role = ⊥

pub text-role : (options : ParseOptions) (bytes : List ℕ) (x : Row) (r : FrameRow) → Fit options bytes x r →
    r.kind ≡ TextRow → IsTextRole x.role
text-role options bytes x r fit e =
    subst IsTextRole (sym (role-by options bytes x r fit TextRow e)) (go (is_headed fit.below) (takes_lazy r.on))
  where
    go : (x y : Bool) → IsTextRole (cond x Head (cond y FurtherText FirstText))
    go true y = tt
    go false true = tt
    go false false = tt

-- What follows it.

-- it may be the last line of a leaf: it is no blank line within code
abbrev pub MayEnd : Row → FrameRow → Type 0
MayEnd x r = r.kind ≡ LeafRow CodeFurther → (is_blank x.rest.bytes ≡ false) ⊎ (x.role ≡ AfterCode)

pub tail-same : (options : ParseOptions) (bytes : List ℕ) (x : Row) (r : FrameRow) → Fit options bytes x r →
    MayEnd x r → without_lists (tail (x ∷ [])) ≡ tail_events (ending_of r.kind r) r
tail-same options bytes x r fit may =
    without-append x.ends (ending (last_ending x) x.line)
    ∙ ap₂ (λ (es fs : List Event). es ++ fs) fit.ends
    (without-none (ending (last_ending x) x.line) (ending-none x)
    ∙ fit.ending (last_ending x) ∙ ap (λ (name : Name). ending_events name r) (fit.name may))
