-- Where the line definition has HTML, how it continues, and what is open after a line of it.
use Rattle.std.proofs.Common.{◌≡◌, ℕ, Bool, true, false, cond, ◌&&◌, List, [], ◌∷◌, ◌++◌, Option, Some, None, refl}
use Rattle.std.specs.Prelude.{◌==◌, not}
use Rattle.std.specs.Option.{is_some}
use Rattle.std.proofs.lemmas.Bool.{eqb-true}
use Rattle.md_engine.specs.declared.configuration.ParseOptions.{ParseOptions}
use Rattle.md_engine.specs.declared.event.Point.{Point}
use Rattle.md_engine.specs.declared.tokenizer.held_leaf.HeldLeaf.{HeldLeaf}
use Rattle.md_engine.specs.declared.tokenizer.held_leaf.HeldLeaf.TheVariants as held_leaf
use Rattle.md_engine.specs.declared.tokenizer.held_leaf.OpenText.{OpenText}
use Rattle.md_engine.specs.Meaning.{Cell}
use Rattle.md_meaning.specs.Html.{HtmlKind, Basic, Cdata, Comment, Complete, Declaration, Instruction, Raw}
use Rattle.md_meaning.specs.Html.{html_ends, html_kind, kind_after}
use Rattle.md_meaning.specs.Leaves.{LeafResult, Finished, LazyText, NoText, Opened, ParagraphContext, ends_at_blank}
use Rattle.md_meaning.specs.Leaves.{is_continued, html_at, html_by, html_continued, html_line, may_start}
use Rattle.md_meaning.specs.Rest.{Rest, has_small_indent, is_blank, line_of, trim_start}
use Rattle.md_meaning.specs.State.{Leaf, NoLeaf, OpenCode, OpenFence, OpenHtml, OpenParagraph, OpenTable}
use Rattle.md_meaning.specs.Texts.{first_byte}
use Rattle.md_meaning.specs.Tree.{Html, Line}
use Rattle.md_literal.specs.Html.{is_html}
use Rattle.md_literal.specs.HtmlLine as rule
use Rattle.md_literal.specs.HtmlRule.{left}
use Rattle.proof_frame.specs.Context.{context_of}
use Rattle.proof_frame.specs.HeldLeaf.{kind_of_leaf, left_by, may_continue, takes_lazy}
use Rattle.proof_literal_laws.specs.Leaf.HtmlFlow.{begins_as, html_further, html_leaf, kind_begun}

-- It begins where its leaf says, and becomes what that says: where this leaf is open, by what the line is against.
pub html-found : (options : ParseOptions) (on : HeldLeaf) (against : ParagraphContext) (r : Rest) →
    against ≡ context_of on →
    html_at options against r ≡
    cond (html_leaf.starts options on r) (Some (html_leaf.becomes options NoLeaf r)) None
unfolding html_at
html-found options on against r same =
    rw same (go (options.constructs.html_flow && has_small_indent options r) (kind_begun r))
  where
    become : Option HtmlKind → Option LeafResult → Option LeafResult
    become kind o = cond (is_some o) (Some (begins_as kind r)) None

    go : (x : Bool) (kind : Option HtmlKind) →
        cond x (html_by (context_of on) r kind) None ≡ become kind (cond x (html_by (context_of on) r kind) None)
    go false kind = refl
    go true None = refl
    go true (Some kind) = by (may_start (context_of on) kind)
      where
        by : (x : Bool) →
            cond x (Some (html_line kind [] r)) None ≡ become (Some kind) (cond x (Some (html_line kind [] r)) None)
        by true = refl
        by false = refl

-- HTML that is open continues where a further line of it does.
pub html-proceeds : (options : ParseOptions) (kind : HtmlKind) (lines : List Line) (r : Rest) →
    is_continued options (OpenHtml kind lines) r ≡
    cond (html_further.starts options (held_leaf.Html kind) r)
    (Some (html_further.becomes options (OpenHtml kind lines) r)) None
unfolding html_continued
html-proceeds options kind lines r = go (ends_at_blank kind && is_blank r.bytes)
  where
    go : (x : Bool) →
        cond x None (Some (html_line kind lines r)) ≡ cond (not x) (Some (html_line kind lines r)) None
    go true = refl
    go false = refl

-- What is known of a line that begins it.

-- its indent is small
pub html-indented : (options : ParseOptions) (on : HeldLeaf) (r : Rest) → has_small_indent options r ≡ false →
    html_leaf.starts options on r ≡ false
unfolding html_at
html-indented options on r e = rw e (go options.constructs.html_flow)
  where
    go : (x : Bool) → is_some (cond (x && false) (html_by (context_of on) r (kind_begun r)) None) ≡ false
    go true = refl
    go false = refl

-- Where a line is lazy for text it starts as where none is open.
pub html-lazy : (options : ParseOptions) (at : OpenText) (r : Rest) →
    html_leaf.starts options (held_leaf.LazyText at) r ≡ html_leaf.starts options held_leaf.None r
unfolding html_at
html-lazy options at r = go (options.constructs.html_flow && has_small_indent options r) (kind_begun r)
  where
    go : (x : Bool) (kind : Option HtmlKind) →
        is_some (cond x (html_by LazyText r kind) None) ≡ is_some (cond x (html_by NoText r kind) None)
    go false kind = refl
    go true None = refl
    go true (Some Raw) = refl
    go true (Some Comment) = refl
    go true (Some Instruction) = refl
    go true (Some Declaration) = refl
    go true (Some Cdata) = refl
    go true (Some Basic) = refl
    go true (Some Complete) = refl

-- It starts only where it is on.
pub html-enabled : (options : ParseOptions) (on : HeldLeaf) (r : Rest) → html_leaf.starts options on r ≡ true →
    options.constructs.html_flow ≡ true
unfolding html_at
html-enabled options on r e = go options.constructs.html_flow (has_small_indent options r) e
  where
    go : (x y : Bool) → is_some (cond (x && y) (html_by (context_of on) r (kind_begun r)) None) ≡ true → x ≡ true
    go true y e = refl
    go false y e = cc

-- and `<` is first after its indent
pub html-first : (options : ParseOptions) (on : HeldLeaf) (r : Rest) → html_leaf.starts options on r ≡ true →
    first_byte (trim_start r.bytes) ≡ 60
unfolding html_at html_kind
html-first options on r e =
    go (options.constructs.html_flow && has_small_indent options r) (trim_start r.bytes) e
  where
    by : (b : ℕ) (bytes : List ℕ) (x : Bool) → (b == 60) ≡ x →
        is_some (html_by (context_of on) r (cond x (kind_after bytes) None)) ≡ true → b ≡ 60
    by b bytes true same e = eqb-true b 60 same
    by b bytes false same e = cc

    go : (x : Bool) (line : List ℕ) →
        is_some (cond x (html_by (context_of on) r (html_kind line)) None) ≡ true → first_byte line ≡ 60
    go false line e = cc
    go true [] e = cc
    go true (b ∷ bytes) e = by b bytes (b == 60) refl e

-- a line may continue open HTML
pub html-lines : (on : HeldLeaf) → is_html on ≡ true → may_continue on ≡ true
html-lines (held_leaf.Html kind) e = refl
html-lines _ e = cc

-- What is held after a line is the leaf that it becomes.

line-held : (kind : HtmlKind) (lines : List Line) (r : Rest) →
    kind_of_leaf (left_by (html_line kind lines r)) ≡ left kind r.bytes
line-held kind lines r = go (html_ends kind r.bytes)
  where
    all : List Line
    all = lines ++ line_of r ∷ []

    go : (x : Bool) →
        kind_of_leaf (left_by (cond x (Finished (Html all)) (Opened (OpenHtml kind all)))) ≡
        cond x held_leaf.None (held_leaf.Html kind)
    go true = refl
    go false = refl

pub html-held : (options : ParseOptions) (on : HeldLeaf) (leaf : Leaf) (r : Rest) →
    kind_of_leaf (left_by (html_leaf.becomes options leaf r)) ≡ html_leaf.holds options on r
html-held options on leaf r = go (kind_begun r)
  where
    go : (kind : Option HtmlKind) → kind_of_leaf (left_by (begins_as kind r)) ≡ rule.left_by kind r.bytes
    go None = refl
    go (Some kind) = line-held kind [] r

pub further-held : (options : ParseOptions) (leaf : Leaf) (r : Rest) →
    kind_of_leaf (left_by (html_further.becomes options leaf r)) ≡ html_further.holds options (kind_of_leaf leaf) r
further-held options (OpenHtml kind lines) r = line-held kind lines r
further-held options NoLeaf r = refl
further-held options (OpenParagraph lines) r = refl
further-held options (OpenCode lines) r = refl
further-held options (OpenFence o lines) r = refl
further-held options (OpenTable delimiter rows) r = refl

-- No line continues it lazily.

left-not_lazy : (kind : HtmlKind) (line : List ℕ) → takes_lazy (left kind line) ≡ false
left-not_lazy kind line = go (html_ends kind line)
  where
    go : (x : Bool) → takes_lazy (cond x held_leaf.None (held_leaf.Html kind)) ≡ false
    go true = refl
    go false = refl

by-not_lazy : (kind : Option HtmlKind) (line : List ℕ) → takes_lazy (rule.left_by kind line) ≡ false
by-not_lazy None line = refl
by-not_lazy (Some kind) line = left-not_lazy kind line

of-not_lazy : (on : HeldLeaf) (line : List ℕ) → takes_lazy (rule.left_of on line) ≡ false
of-not_lazy (held_leaf.Html kind) line = left-not_lazy kind line
of-not_lazy _ line = refl

pub html-not_lazy : (options : ParseOptions) (on : HeldLeaf) →
    ((cells : List Cell) (p : Point) → takes_lazy (html_leaf.keeps options on cells p) ≡ false)
    × ((r : Rest) → takes_lazy (html_leaf.holds options on r) ≡ false)
html-not_lazy options on = (λ cells p. by-not_lazy _ _, λ r. by-not_lazy (kind_begun r) r.bytes)

pub further-not_lazy : (options : ParseOptions) (on : HeldLeaf) →
    ((cells : List Cell) (p : Point) → takes_lazy (html_further.keeps options on cells p) ≡ false)
    × ((r : Rest) → takes_lazy (html_further.holds options on r) ≡ false)
further-not_lazy options on = (λ cells p. of-not_lazy on _, λ r. of-not_lazy on r.bytes)
