-- Leaves of several lines: what the first line of one leaves open, which leaf takes its further lines, that its lines
-- are joined, and what is known of one that is open between two lines.
use Rattle.std.proofs.Common.{◌≡◌, Bool, true, false, cond, ◌&&◌, ◌||◌, List, [], ◌∷◌, ◌++◌, refl, sym, ◌∙◌, ap, ℕ}
use Rattle.std.proofs.Common.{subst}
use Rattle.std.specs.Option.{is_some}
use Rattle.md_engine.specs.declared.tokenizer.held_leaf.HeldLeaf.TheVariants as held_leaf
use Rattle.md_literal.specs.Fence.{is_open as is_fence}
use Rattle.md_registry.specs.OpenSpan.{IsOpenSpan, IsBuiltLeaf}
use Rattle.md_registry.specs.Registry.{asked_first, bars_containers, further_of, leaf}
use Rattle.md_engine.specs.declared.tokenizer.held_leaf.HeldLeaf.{HeldLeaf}
use Rattle.std.specs.Prelude.{Option, Some, None, nat_le, not}
use Rattle.std.proofs.lemmas.Bool.{and_parts}
use Rattle.md_engine.specs.declared.configuration.ParseOptions.{ParseOptions}
use Rattle.md_meaning.specs.Leaves.{LeafResult, Finished, Opened, closes, fence_continued, html_line}
use Rattle.md_meaning.specs.Rest.{Rest, indent, is_blank, line_of, lose}
use Rattle.md_meaning.specs.State.{NoLeaf, OpenCode, OpenFence, OpenHtml, Opening, fence_block, without_trailing_blank}
use Rattle.md_meaning.specs.Tree.{Code, Html, Line, Paragraph}
use Rattle.md_leaves.specs.HeadingSetext.{is_text}
use Rattle.proof_frame.specs.HeldLeaf.{kind_of_leaf, left_by, takes_lazy}
use Rattle.proof_frame.specs.LineLeaf.{LineLeaf}
use Rattle.proof_literal_laws.specs.Leaf.CodeIndented.{code_further, code_leaf, is_code}
use Rattle.proof_literal_laws.specs.Leaf.Fence.{fence_leaf, opening_at}
use Rattle.proof_literal_laws.specs.Leaf.FenceFurther.{fence_further}
use Rattle.proof_leaf_laws.specs.Leaf.GfmTable.{may_be_table}
use Rattle.proof_frame.specs.LeafName.{CodeFurther, CodeIndented, Fence, FenceFurther, HeadingSetext, GfmTable}
use Rattle.proof_frame.specs.LeafName.{HtmlFlow, HtmlFurther, LeafName}
use Rattle.md_registry.specs.Resolving.{joins_lines}
use Rattle.proof_literal_laws.proofs.CodeIndented.Cells.{code-rest}
use Rattle.proof_literal_laws.proofs.CodeIndented.Found.{code-proceeds}
use Rattle.proof_literal_laws.proofs.CodeIndented.Span.{code-span}
use Rattle.proof_literal_laws.proofs.Fence.Found.{fence-off, fence-shallow}
use Rattle.proof_literal_laws.proofs.Fence.Opened.{fence-starts}
use Rattle.proof_literal_laws.proofs.FenceFurther.Definition.{opening-fence}
use Rattle.proof_literal_laws.proofs.FenceSpan.Laws.{fence-span}
use Rattle.proof_leaf_laws.proofs.GfmTable.Span.{table-begins, table-span}
use Rattle.proof_literal_laws.proofs.HtmlFlow.Found.{html-enabled, html-proceeds, html-held}
use Rattle.proof_literal_laws.proofs.HtmlSpan.Laws.{html-span}
use Rattle.md_meaning.specs.Html.{HtmlKind, html_ends}
use Rattle.md_literal.specs.Html.{ends_in_front, is_html}
use Rattle.md_literal.specs.HtmlLine as rule
use Rattle.proof_literal_laws.specs.Leaf.HtmlFlow.{begins_as, html_further, html_leaf, kind_begun}
use Rattle.proof_leaf_laws.proofs.HeadingSetext.Span.{setext-begins, setext-span}
use Rattle.md_registry.proofs.OpenSpan.{Begun, BecomesShallow, OpenSpan}
use Rattle.proof_frame.proofs.ShallowBlocks.{shallow-then}
use Rattle.proof_frame.proofs.SpanLaws.{SpanLaws}
use Rattle.md_registry.proofs.Registry.{laws, block-shallow}

-- a line of HTML leaves open what may be open, and an outline can show it
html-built : (kind : HtmlKind) (lines : List Line) (r : Rest) → IsBuiltLeaf (left_by (html_line kind lines r))
unfolding IsOpenSpan
html-built kind lines r = go (html_ends kind r.bytes)
  where
    all : List Line
    all = lines ++ line_of r ∷ []

    go : (x : Bool) → IsBuiltLeaf (left_by (cond x (Finished (Html all)) (Opened (OpenHtml kind all))))
    go true = tt
    go false = tt

html-shallow : (kind : HtmlKind) (lines : List Line) (r : Rest) → BecomesShallow (html_line kind lines r)
html-shallow kind lines r = go (html_ends kind r.bytes)
  where
    all : List Line
    all = lines ++ line_of r ∷ []

    go : (x : Bool) → BecomesShallow (cond x (Finished (Html all)) (Opened (OpenHtml kind all)))
    go true bs h = shallow-then bs (Html all) h refl
    go false bs h = h

-- and so does a line that begins HTML
begun-built : (kind : Option HtmlKind) (r : Rest) → IsBuiltLeaf (left_by (begins_as kind r))
begun-built None r = tt
begun-built (Some kind) r = html-built kind [] r

begun-shallow : (kind : Option HtmlKind) (r : Rest) → BecomesShallow (begins_as kind r)
begun-shallow None r bs h = shallow-then bs (Html []) h refl
begun-shallow (Some kind) r bs h = html-shallow kind [] r bs h

-- a further line of HTML begins no HTML
html-begins : (options : ParseOptions) (on : HeldLeaf) (r : Rest) → html_further.starts options on r ≡ true →
    html_further.further on ≡ false → ⊥
html-begins options on r starts begins =
    let open_html = (and_parts (is_html on) (not (ends_in_front on && is_blank r.bytes)) starts).0 in
    let bad : true ≡ false = sym open_html ∙ begins in cc

-- a leaf that always ends on its line becomes its block
single-begun : (l : LeafName) → (leaf l).ends ≡ true → (options : ParseOptions) (on : HeldLeaf) (r : Rest) →
    (leaf l).starts options on r ≡ true → Begun l options on r
unfolding IsOpenSpan
single-begun l ends options on r starts = record {
  holds = ap (λ (c : LeafResult). kind_of_leaf (left_by c)) is ∙ sym (((laws l).shut ends options on).1 r);
  built = subst (λ (c : LeafResult). IsBuiltLeaf (left_by c)) (sym is) tt;
  shallow =
      subst BecomesShallow (sym is)
      (λ bs shallow. shallow-then bs ((leaf l).block r) shallow (block-shallow l ends options on r starts));
}
  where
    is : (leaf l).becomes options NoLeaf r ≡ Finished ((leaf l).block r)
    is = (laws l).finishes ends options NoLeaf r

-- what a line that begins a leaf makes of it
pub leaf-begun : (l : LeafName) (options : ParseOptions) (on : HeldLeaf) (r : Rest) →
    (leaf l).starts options on r ≡ true → (leaf l).further on ≡ false → Begun l options on r
unfolding IsOpenSpan
leaf-begun CodeIndented options on r h begins = record { holds = refl; built = tt; shallow = λ bs shallow. shallow }
leaf-begun CodeFurther options on r h begins =
    let bad = (and_parts (is_code on) (is_blank r.bytes || nat_le 4 (indent r)) h).0 in absurd (cc)
leaf-begun Fence options on r h begins = record {
  holds = refl;
  built = opening-fence options r (opening_at r) [] (fence-starts options r h).opens;
  shallow = λ bs shallow. shallow;
}
leaf-begun FenceFurther options on r h begins = let bad : true ≡ false = sym h ∙ begins in absurd (cc)
leaf-begun HtmlFlow options on r h begins = record {
  holds = html-held options on NoLeaf r;
  built = begun-built (kind_begun r) r;
  shallow = begun-shallow (kind_begun r) r;
}
leaf-begun HtmlFurther options on r h begins = absurd (html-begins options on r h begins)
leaf-begun HeadingSetext options on r h begins = absurd (setext-begins options on r h begins)
leaf-begun GfmTable options on r h begins = absurd (table-begins options on r h begins)
leaf-begun _ options on r h begins = single-begun _ refl options on r h

-- after a line of fenced code or of HTML no other leaf of several lines is open,
none-left : (t : HeldLeaf → Bool) (x y : Bool) (on : HeldLeaf) → t held_leaf.None ≡ false → t on ≡ false →
    t (cond x (cond y held_leaf.None on) held_leaf.None) ≡ true → ⊥
none-left t true false on none other e = let bad : true ≡ false = sym e ∙ other in cc
none-left t true true on none other e = let bad : true ≡ false = sym e ∙ none in cc
none-left t false y on none other e = let bad : true ≡ false = sym e ∙ none in cc

html-left : (t : HeldLeaf → Bool) (kind : Option HtmlKind) (line : List ℕ) → t held_leaf.None ≡ false →
    ((kind : HtmlKind) → t (held_leaf.Html kind) ≡ false) → t (rule.left_by kind line) ≡ true → ⊥
html-left t None line none other e = let bad : true ≡ false = sym e ∙ none in cc
html-left t (Some kind) line none other e =
    none-left t true (html_ends kind line) (held_leaf.Html kind) none (other kind) e

-- and no line of a leaf leaves text open, for a line might continue that lazily
text-lazy : (on : HeldLeaf) → is_text on ≡ true → takes_lazy on ≡ true
text-lazy (held_leaf.Text at) e = refl
text-lazy _ e = cc

-- a line that continues what a leaf has left open is one of the leaf that takes its further lines,
pub further-is : (l m : LeafName) (options : ParseOptions) (on : HeldLeaf) (r : Rest) →
    (leaf m).further ((leaf l).holds options on r) ≡ true → m ≡ further_of l
further-is FenceFurther CodeFurther options (held_leaf.Fence m size indent) r e =
    absurd (none-left is_code _ _ (held_leaf.Fence m size indent) refl refl e)
further-is FenceFurther HtmlFurther options (held_leaf.Fence m size indent) r e =
    absurd (none-left is_html _ _ (held_leaf.Fence m size indent) refl refl e)
further-is FenceFurther GfmTable options (held_leaf.Fence m size indent) r e =
    absurd (none-left may_be_table _ _ (held_leaf.Fence m size indent) refl refl e)
further-is HtmlFlow CodeFurther options on r e =
    absurd (html-left is_code (kind_begun r) r.bytes refl (λ kind. refl) e)
further-is HtmlFlow FenceFurther options on r e =
    absurd (html-left is_fence (kind_begun r) r.bytes refl (λ kind. refl) e)
further-is HtmlFlow GfmTable options on r e =
    absurd (html-left may_be_table (kind_begun r) r.bytes refl (λ kind. refl) e)
further-is HtmlFurther CodeFurther options (held_leaf.Html kind) r e =
    absurd (none-left is_code true (html_ends kind r.bytes) (held_leaf.Html kind) refl refl e)
further-is HtmlFurther FenceFurther options (held_leaf.Html kind) r e =
    absurd (none-left is_fence true (html_ends kind r.bytes) (held_leaf.Html kind) refl refl e)
further-is HtmlFurther GfmTable options (held_leaf.Html kind) r e =
    absurd (none-left may_be_table true (html_ends kind r.bytes) (held_leaf.Html kind) refl refl e)
further-is l HeadingSetext options on r e =
    let lazy = text-lazy ((leaf l).holds options on r) e in let none = ((laws l).not_lazy options on).1 r in cc
further-is _ _ options on r e = cc

-- which also takes the lines after its own
pub further-further : (l : LeafName) → further_of (further_of l) ≡ further_of l
further-further CodeIndented = refl
further-further _ = refl

-- a further line begins no block, so there is nothing to say of lines that one begins
further-span : (first l : LineLeaf) → SpanLaws first l →
    ((options : ParseOptions) (on : HeldLeaf) (r : Rest) → l.starts options on r ≡ true → l.further on ≡ false → ⊥) →
    SpanLaws l l
further-span first l laws none = record {
  first_spanned = λ options bytes row is begins. absurd (none options row.on is.rest is.starts begins);
  further_spanned = laws.further_spanned;
  block = λ options bytes row rows is are. Paragraph [];
  facts = λ options bytes row rows is begins are. absurd (none options row.on is.rest is.starts begins);
  shuts = λ options bytes row rows is begins are bs. absurd (none options row.on is.rest is.starts begins);
}

fence-begins : (options : ParseOptions) (on : HeldLeaf) (r : Rest) → fence_further.starts options on r ≡ true →
    fence_further.further on ≡ false → ⊥
fence-begins options on r starts begins = let bad : true ≡ false = sym starts ∙ begins in cc

code-begins : (options : ParseOptions) (on : HeldLeaf) (r : Rest) → code_further.starts options on r ≡ true →
    code_further.further on ≡ false → ⊥
code-begins options on r starts begins =
    let open_code = (and_parts (is_code on) (is_blank r.bytes || nat_le 4 (indent r)) starts).0 in
    let bad : true ≡ false = sym open_code ∙ begins in cc

-- the laws of the lines of a leaf that may have several
pub span-laws : (l : LeafName) → (leaf l).ends ≡ false → SpanLaws (leaf l) (leaf (further_of l))
span-laws CodeIndented e = code-span
span-laws CodeFurther e = further-span code_leaf code_further code-span code-begins
span-laws Fence e = fence-span
span-laws FenceFurther e = further-span fence_leaf fence_further fence-span fence-begins
span-laws HtmlFlow e = html-span
span-laws HtmlFurther e = further-span html_leaf html_further html-span html-begins
span-laws HeadingSetext e = setext-span
span-laws GfmTable e = table-span
span-laws _ e = absurd (cc)

-- where a leaf of several lines begins, lines are joined
pub lines-join : (l : LeafName) → (leaf l).ends ≡ false → (options : ParseOptions) (on : HeldLeaf) (r : Rest) →
    (leaf l).starts options on r ≡ true → (leaf l).further on ≡ false → joins_lines options ≡ true
unfolding joins_lines
lines-join CodeIndented e options on r starts begins =
    rw (code-rest options on r starts).enabled (third options.constructs.code_fenced options.constructs.math_flow)
  where
    third : (x y : Bool) → (x || y || true || options.constructs.html_flow || options.constructs.gfm_table) ≡ true
    third false false = refl
    third _ _ = refl
lines-join CodeFurther e options on r starts begins = absurd (code-begins options on r starts begins)
lines-join Fence e options on r starts begins = go options.constructs.code_fenced refl options.constructs.math_flow refl
  where
    go : (x : Bool) → options.constructs.code_fenced ≡ x → (y : Bool) → options.constructs.math_flow ≡ y →
        (x || y || options.constructs.code_indented || options.constructs.html_flow || options.constructs.gfm_table) ≡
        true
    go false f false g = let none = ap is_some (fence-off options r f g) in absurd (cc)
    go _ f _ g = refl
lines-join FenceFurther e options on r starts begins = let bad : true ≡ false = sym starts ∙ begins in absurd (cc)
lines-join HtmlFlow e options on r starts begins =
    rw (html-enabled options on r starts)
    (last options.constructs.code_fenced options.constructs.math_flow options.constructs.code_indented)
  where
    last : (x y z : Bool) → (x || y || z || true || options.constructs.gfm_table) ≡ true
    last false false false = refl
    last _ _ _ = refl
lines-join HtmlFurther e options on r starts begins = absurd (html-begins options on r starts begins)
lines-join HeadingSetext e options on r starts begins = absurd (setext-begins options on r starts begins)
lines-join GfmTable e options on r starts begins = absurd (table-begins options on r starts begins)
lines-join _ e options on r starts begins = absurd (cc)

-- fenced code or math that is open
pub fence-open : (o : Opening) (lines : List Line) → is_fence (kind_of_leaf (OpenFence o lines)) ≡ true →
    OpenSpan (OpenFence o lines)
unfolding asked_first bars_containers IsOpenSpan fence_continued
fence-open o lines is = record {
  name = FenceFurther;
  asked = rw is refl;
  same = refl;
  further = is;
  lines = refl;
  concrete = sym (ap (λ (x : Bool). x || false) is);
  proceeds = λ options r. rw is refl;
  built = λ options r starts. built (closes options o r) (lines ++ line_of (lose o.indent r) ∷ []);
  shallow = λ options r. shallow (closes options o r) (lines ++ line_of (lose o.indent r) ∷ []);
  closed = λ options bs h. shallow-then bs (fence_block o lines false) h (fence-shallow o lines false);
}
  where
    becomes : Bool → List Line → LeafResult
    becomes x more = cond x (Finished (fence_block o lines true)) (Opened (OpenFence o more))

    built : (x : Bool) (more : List Line) → IsBuiltLeaf (left_by (becomes x more))
    built true more = tt
    built false more = is

    shallow : (x : Bool) (more : List Line) → BecomesShallow (becomes x more)
    shallow true more bs h = shallow-then bs (fence_block o lines true) h (fence-shallow o lines true)
    shallow false more bs h = h

-- indented code that is open
pub code-open : (lines : List Line) → OpenSpan (OpenCode lines)
unfolding asked_first bars_containers IsOpenSpan
code-open lines = record {
  name = CodeFurther;
  asked = refl;
  same = refl;
  further = refl;
  lines = refl;
  concrete = refl;
  proceeds = λ options r. code-proceeds options lines r;
  built = λ options r starts. tt;
  shallow = λ options r bs h. h;
  closed = λ options bs h. shallow-then bs (Code (without_trailing_blank lines)) h refl;
}

-- HTML that is open
pub html-open : (kind : HtmlKind) (lines : List Line) → OpenSpan (OpenHtml kind lines)
unfolding asked_first bars_containers
html-open kind lines = record {
  name = HtmlFurther;
  asked = refl;
  same = refl;
  further = refl;
  lines = refl;
  concrete = refl;
  proceeds = λ options r. html-proceeds options kind lines r;
  built = λ options r starts. html-built kind lines r;
  shallow = λ options r. html-shallow kind lines r;
  closed = λ options bs h. shallow-then bs (Html lines) h refl;
}
