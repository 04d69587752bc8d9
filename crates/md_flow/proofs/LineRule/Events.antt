-- What the value of a leaf adds for a line is what the exact list has in it.
use Rattle.std.proofs.Common.{◌≡◌, ℕ, zero, suc, Bool, true, false, cond, ◌&&◌, List, [], ◌∷◌, ◌++◌, refl, sym, ap}
use Rattle.std.proofs.Common.{ap₂, ◌∙◌, append-nil, subst}
use Rattle.std.specs.Prelude.{Option, Some, None}
use Rattle.std.proofs.lemmas.Bool.{and_parts}
use Rattle.md_engine.specs.declared.configuration.ParseOptions.{ParseOptions}
use Rattle.md_engine.specs.declared.event.Event.{Event}
use Rattle.md_engine.specs.declared.event.Name.{Name}
use Rattle.md_engine.specs.declared.event.Name.TheVariants as n
use Rattle.md_engine.specs.declared.event.Point.{Point}
use Rattle.md_literal.specs.Fence.{block_name, may_begin as is_begun}
use Rattle.md_events.specs.Events.Nested.{around}
use Rattle.md_events.specs.Exact.Leaves.{content_line, fence_part, fenced_line, info_parts, leaf}
use Rattle.md_events.specs.Exact.Places.{TextLine, line_end, place, white}
use Rattle.md_events.specs.Exact.Blocks.{bare_events}
use Rattle.md_events.specs.Exact.Rows.{First, FirstText, Further, Role, Row}
use Rattle.md_leaves.specs.HeadingSetext.{may_turn}
use Rattle.md_leaves.specs.HeadingSetext as setext
use Rattle.md_leaves.specs.HeadingSetextRule.{is_underline}
use Rattle.md_leaves.specs.HeadingText.{headings_resolved}
use Rattle.md_meaning.specs.Bytes.{is_end}
use Rattle.md_meaning.specs.Html.{HtmlKind, html_ends}
use Rattle.md_meaning.specs.Leaves.{Finished}
use Rattle.md_meaning.specs.Tree.{Bare}
use Rattle.md_meaning.specs.Rest.{Rest, after_indent, cut_tab, has_small_indent, is_blank, trim_start}
use Rattle.md_meaning.specs.State.{Leaf, NoLeaf, OpenCode, OpenFence, OpenHtml, OpenParagraph, OpenTable, Opening}
use Rattle.md_meaning.specs.Texts.{first_byte}
use Rattle.md_registry.specs.OpenSpan.{IsBuiltLeaf, IsOpenSpan}
use Rattle.md_registry.specs.Registry.{leaf as value}
use Rattle.md_registry.proofs.Registry.{EndsOnLine, IsBare, IsHeading, ends-on_line, laws}
use Rattle.proof_rows.proofs.KindRoles.{further_role, leaf_role}
use Rattle.proof_literal_laws.proofs.Fence.Opened.{opening-some, some-least}
use Rattle.proof_exact_lines.proofs.BeginsAt.{BeginsAt, begins-place, rest_bytes}
use Rattle.proof_exact_lines.proofs.BareLine.{bare-one}
use Rattle.proof_exact_lines.proofs.LeafLines.{code-first, code-further, end_at, ends-at, fence-first}
use Rattle.proof_exact_lines.proofs.LeafLines.{fence-further, heading-one, html-first, html-further, leaf-one}
use Rattle.proof_exact_lines.proofs.LeafLines.{linked_around, underline-one}
use Rattle.proof_exact_lines.proofs.Parts.{white-front}
use Rattle.proof_frame.proofs.BareLine.{BareLine}
use Rattle.proof_frame.specs.LeafName.{CodeFurther, CodeIndented, Fence, FenceFurther, GfmTable, HeadingAtx}
use Rattle.proof_frame.specs.LeafName.{HeadingSetext, HtmlFlow, HtmlFurther, LeafName}
use Rattle.proof_frame.specs.RestLine.{rest_line}
use Rattle.proof_leaf_laws.specs.Leaf.HeadingAtx.{heading_leaf}
use Rattle.proof_literal_laws.proofs.HtmlFlow.Found as html
use Rattle.proof_literal_laws.specs.Leaf.Fence.{opening_at}
use Rattle.proof_literal_laws.specs.Leaf.FenceFurther.{fence_further}
use Rattle.proof_literal_laws.specs.Leaf.HtmlFlow.{begins_as, html_events, kind_begun}
use Rattle.md_flow.proofs.LineRule.Role.{met}
use Rattle.md_flow.specs.LineRule.{AreFirst, AreOf, alone, linked_line}

-- The line by itself.
abbrev row : TextLine → Rest → Row
row line r = record { line = line; stays = 0; held = []; front = []; rest = r; role = FirstText; ends = [] }

-- what the leaf of this name adds on a line that meets this
abbrev added : ParseOptions → LeafName → Bool → Leaf → Rest → Point → List Event
added options l all open_leaf r p = (value l).added options (met all open_leaf) (rest_line r) p

-- is what the exact list has for what the line is
abbrev pub IsAdded : ParseOptions → LeafName → Bool → Leaf → TextLine → Rest → Point → Type 0
IsAdded options l all open_leaf line r p =
    (value l).starts options (met all open_leaf) r ≡ true →
    AreOf options (leaf_role options open_leaf (met all open_leaf) r l) line r (added options l all open_leaf r p)

-- a line that is linked to the one before
linked-is : (name : Name) (line : TextLine) (r : Rest) (p : Point) (inside : List Event) → BeginsAt line r p →
    linked_around name p (end_at r p) inside ≡ linked_line name line r inside
linked-is name line r p inside at =
    ap₂ (λ (a b : Point). linked_around name a b inside) (sym (begins-place line r p at)) (sym (ends-at line r p at))

-- Leaves on one line.

heading-added : (options : ParseOptions) (all : Bool) (open_leaf : Leaf) (line : TextLine) (r : Rest) (p : Point) →
    BeginsAt line r p → IsAdded options HeadingAtx all open_leaf line r p
heading-added options all open_leaf line r p at starts =
    ap headings_resolved (sym (append-nil (added options HeadingAtx all open_leaf r p)))
    ∙ (laws HeadingAtx).set refl options (met all open_leaf) r p [] starts
    ∙ append-nil (heading_leaf.unread (rest_bytes r) p)
    ∙ sym (heading-one (row line r) p at)

-- one of which nothing is known but its word
bare-added : (options : ParseOptions) (l : LeafName) → BareLine (value l) → (all : Bool) (open_leaf : Leaf)
    (line : TextLine) (r : Rest) (p : Point) → BeginsAt line r p → IsAdded options l all open_leaf line r p
bare-added options l bare all open_leaf line r p at starts =
    subst (λ (role : Role). AreOf options role line r es) (sym is_first)
    (bare.added options (met all open_leaf) (rest_line r) p
    ∙ sym (bare-one (value l) bare (row line r) p at (bare.marked options (met all open_leaf) r starts))
    ∙ sym (ap (bare_events (alone line r)) bare.names))
  where
    es : List Event
    es = added options l all open_leaf r p

    is_first : leaf_role options open_leaf (met all open_leaf) r l ≡ First (Finished (Bare bare.word))
    is_first =
        ap
        (λ (x : Bool).
        cond x (further_role open_leaf (value l).heads) (First ((value l).becomes options NoLeaf r)))
        (bare.begins (met all open_leaf))
        ∙ ap First (bare.finishes options NoLeaf r)

ended-added : (options : ParseOptions) (l : LeafName) → EndsOnLine l → (all : Bool) (open_leaf : Leaf)
    (line : TextLine) (r : Rest) (p : Point) → BeginsAt line r p → IsAdded options l all open_leaf line r p
ended-added options _ IsHeading all open_leaf line r p at = heading-added options all open_leaf line r p at
ended-added options _ (IsBare l bare) all open_leaf line r p at = bare-added options l bare all open_leaf line r p at

underline-added : (options : ParseOptions) (all : Bool) (open_leaf : Leaf) (line : TextLine) (r : Rest) (p : Point) →
    BeginsAt line r p → IsAdded options HeadingSetext all open_leaf line r p
underline-added options true (OpenParagraph lines) line r p at starts =
    sym
    (underline-one (row line r) p at
    (and_parts
    (may_turn options (met true (OpenParagraph lines)) && options.constructs.heading_setext
    && has_small_indent options r) (is_underline (trim_start r.bytes)) starts).1)
underline-added options true NoLeaf line r p at starts = absurd (cc)
underline-added options true (OpenCode lines) line r p at starts = absurd (cc)
underline-added options true (OpenFence o lines) line r p at starts = absurd (cc)
underline-added options true (OpenHtml kind lines) line r p at starts = absurd (cc)
underline-added options true (OpenTable delimiter rows) line r p at starts = absurd (cc)
underline-added options false NoLeaf line r p at starts = absurd (cc)
underline-added options false (OpenParagraph lines) line r p at starts = absurd (cc)
underline-added options false (OpenCode lines) line r p at starts = absurd (cc)
underline-added options false (OpenFence o lines) line r p at starts = absurd (cc)
underline-added options false (OpenHtml kind lines) line r p at starts = absurd (cc)
underline-added options false (OpenTable delimiter rows) line r p at starts = absurd (cc)

-- Tables: of rows nothing is said.
table-added : (options : ParseOptions) (all : Bool) (open_leaf : Leaf) (line : TextLine) (r : Rest) (p : Point) →
    IsAdded options GfmTable all open_leaf line r p
table-added options true (OpenParagraph lines) line r p starts = tt
table-added options true (OpenTable delimiter rows) line r p starts = tt
table-added options true NoLeaf line r p starts = absurd (cc)
table-added options true (OpenCode lines) line r p starts = absurd (cc)
table-added options true (OpenFence o lines) line r p starts = absurd (cc)
table-added options true (OpenHtml kind lines) line r p starts = absurd (cc)
table-added options false NoLeaf line r p starts = absurd (cc)
table-added options false (OpenParagraph lines) line r p starts = absurd (cc)
table-added options false (OpenCode lines) line r p starts = absurd (cc)
table-added options false (OpenFence o lines) line r p starts = absurd (cc)
table-added options false (OpenHtml kind lines) line r p starts = absurd (cc)
table-added options false (OpenTable delimiter rows) line r p starts = absurd (cc)

-- Leaves of several lines, their first line.

code-added : (options : ParseOptions) (all : Bool) (open_leaf : Leaf) (line : TextLine) (r : Rest) (p : Point) →
    BeginsAt line r p → IsAdded options CodeIndented all open_leaf line r p
code-added options all open_leaf line r p at starts =
    code-first (row line r) p at ∙ sym (leaf-one n.CodeIndented (content_line n.CodeFlowChunk 4) (row line r) p at)

fence-added : (options : ParseOptions) (all : Bool) (open_leaf : Leaf) (line : TextLine) (r : Rest) (p : Point) →
    BeginsAt line r p → IsAdded options Fence all open_leaf line r p
fence-added options all open_leaf line r p at starts =
    fence-first o (row line r) p at refl (opening-some options r starts)
    ∙ ap₂ (λ (a b : Point). white line r opening ++ around (block_name o.marker) a b inside)
    (sym (begins-place line opening _ (white-front line r p (rest_bytes r) at refl).valid.at))
    (sym (ends-at line r p at))
    ∙ ap
    (λ (es : List Event).
    white line r opening ++ around (block_name o.marker) (place line opening) (place line (line_end line)) es)
    (sym (append-nil (inside ++ []) ∙ append-nil inside))
  where
    o : Opening
    o = opening_at r

    opening : Rest
    opening = after_indent r

    inside : List Event
    inside = fence_part o.marker line opening (info_parts o.marker line)

-- something is on a line that begins HTML
html-some : (r : Rest) → first_byte (trim_start r.bytes) ≡ 60 → is_end (rest_bytes r) ≡ false
html-some r e = go r.spaces r.bytes e
  where
    go : (spaces : ℕ) (bytes : List ℕ) → first_byte (trim_start bytes) ≡ 60 → is_end (cut_tab spaces ++ bytes) ≡ false
    go spaces [] h = cc
    go zero (b ∷ bytes) h = refl
    go (suc k) (b ∷ bytes) h = refl

html-line : (options : ParseOptions) (kind : Option HtmlKind) (line : TextLine) (r : Rest) (es : List Event) →
    es ≡ leaf n.HtmlFlow (content_line n.HtmlFlowData 0) (alone line r) →
    AreFirst options (begins_as kind r) line r es
html-line options None line r es e = e
html-line options (Some kind) line r es e = go (html_ends kind r.bytes) refl
  where
    go : (x : Bool) → html_ends kind r.bytes ≡ x → AreFirst options (begins_as (Some kind) r) line r es
    go true h = rw h e
    go false h = rw h e

html-added : (options : ParseOptions) (all : Bool) (open_leaf : Leaf) (line : TextLine) (r : Rest) (p : Point) →
    BeginsAt line r p → IsAdded options HtmlFlow all open_leaf line r p
html-added options all open_leaf line r p at starts =
    html-line options (kind_begun r) line r (html_events (rest_bytes r) p)
    (html-first (row line r) p at (html-some r (html.html-first options (met all open_leaf) r starts))
    ∙ sym (leaf-one n.HtmlFlow (content_line n.HtmlFlowData 0) (row line r) p at))

-- And a further line.

further-code : (options : ParseOptions) (all : Bool) (open_leaf : Leaf) (line : TextLine) (r : Rest) (p : Point) →
    BeginsAt line r p → IsAdded options CodeFurther all open_leaf line r p
further-code options true (OpenCode lines) line r p at starts =
    code-further (row line r) p at
    ∙ ap (λ (es : List Event). cond (is_blank r.bytes) inside es) (linked-is n.CodeIndented line r p inside at)
  where
    inside : List Event
    inside = content_line n.CodeFlowChunk 4 line r
further-code options true NoLeaf line r p at starts = absurd (cc)
further-code options true (OpenParagraph lines) line r p at starts = absurd (cc)
further-code options true (OpenFence o lines) line r p at starts = absurd (cc)
further-code options true (OpenHtml kind lines) line r p at starts = absurd (cc)
further-code options true (OpenTable delimiter rows) line r p at starts = absurd (cc)
further-code options false NoLeaf line r p at starts = absurd (cc)
further-code options false (OpenParagraph lines) line r p at starts = absurd (cc)
further-code options false (OpenCode lines) line r p at starts = absurd (cc)
further-code options false (OpenFence o lines) line r p at starts = absurd (cc)
further-code options false (OpenHtml kind lines) line r p at starts = absurd (cc)
further-code options false (OpenTable delimiter rows) line r p at starts = absurd (cc)

further-html : (options : ParseOptions) (all : Bool) (open_leaf : Leaf) (line : TextLine) (r : Rest) (p : Point) →
    BeginsAt line r p → IsAdded options HtmlFurther all open_leaf line r p
further-html options true (OpenHtml kind lines) line r p at starts =
    html-further (row line r) p at ∙ linked-is n.HtmlFlow line r p (content_line n.HtmlFlowData 0 line r) at
further-html options true NoLeaf line r p at starts = absurd (cc)
further-html options true (OpenParagraph lines) line r p at starts = absurd (cc)
further-html options true (OpenCode lines) line r p at starts = absurd (cc)
further-html options true (OpenFence o lines) line r p at starts = absurd (cc)
further-html options true (OpenTable delimiter rows) line r p at starts = absurd (cc)
further-html options false NoLeaf line r p at starts = absurd (cc)
further-html options false (OpenParagraph lines) line r p at starts = absurd (cc)
further-html options false (OpenCode lines) line r p at starts = absurd (cc)
further-html options false (OpenFence o lines) line r p at starts = absurd (cc)
further-html options false (OpenHtml kind lines) line r p at starts = absurd (cc)
further-html options false (OpenTable delimiter rows) line r p at starts = absurd (cc)

further-fence : (options : ParseOptions) (all : Bool) (open_leaf : Leaf) (line : TextLine) (r : Rest) (p : Point) →
    IsBuiltLeaf open_leaf → BeginsAt line r p → IsAdded options FenceFurther all open_leaf line r p
unfolding IsOpenSpan
further-fence options true (OpenFence o lines) line r p built at starts =
    subst
    (λ (x : Bool).
    AreOf options (cond x (Further (OpenFence o lines)) (First (fence_further.becomes options NoLeaf r))) line r
    (added options FenceFurther true (OpenFence o lines) r p)) (sym starts)
    (fence-further options o (row line r) p at (some-least o.marker o.size (and_parts (is_begun o.marker) _ built).1)
    ∙ linked-is (block_name o.marker) line r p (fenced_line options o line r) at)
further-fence options true NoLeaf line r p built at starts = absurd (cc)
further-fence options true (OpenParagraph lines) line r p built at starts = absurd (cc)
further-fence options true (OpenCode lines) line r p built at starts = absurd (cc)
further-fence options true (OpenHtml kind lines) line r p built at starts = absurd (cc)
further-fence options true (OpenTable delimiter rows) line r p built at starts = absurd (cc)
further-fence options false NoLeaf line r p built at starts = absurd (cc)
further-fence options false (OpenParagraph lines) line r p built at starts = absurd (cc)
further-fence options false (OpenCode lines) line r p built at starts = absurd (cc)
further-fence options false (OpenFence o lines) line r p built at starts = absurd (cc)
further-fence options false (OpenHtml kind lines) line r p built at starts = absurd (cc)
further-fence options false (OpenTable delimiter rows) line r p built at starts = absurd (cc)

pub leaf-added : (options : ParseOptions) (l : LeafName) (all : Bool) (open_leaf : Leaf) (line : TextLine) (r : Rest)
    (p : Point) → IsBuiltLeaf open_leaf → BeginsAt line r p → IsAdded options l all open_leaf line r p
leaf-added options CodeIndented all open_leaf line r p built at = code-added options all open_leaf line r p at
leaf-added options CodeFurther all open_leaf line r p built at = further-code options all open_leaf line r p at
leaf-added options Fence all open_leaf line r p built at = fence-added options all open_leaf line r p at
leaf-added options FenceFurther all open_leaf line r p built at =
    further-fence options all open_leaf line r p built at
leaf-added options HtmlFlow all open_leaf line r p built at = html-added options all open_leaf line r p at
leaf-added options HtmlFurther all open_leaf line r p built at = further-html options all open_leaf line r p at
leaf-added options HeadingSetext all open_leaf line r p built at = underline-added options all open_leaf line r p at
leaf-added options GfmTable all open_leaf line r p built at = table-added options all open_leaf line r p
leaf-added options l all open_leaf line r p built at =
    ended-added options l (ends-on_line l refl) all open_leaf line r p at
