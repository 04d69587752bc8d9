-- What a line is to a leaf by the line definition is what the value of the leaf says: a line of it where it starts.
use Rattle.std.proofs.Common.{◌≡◌, ℕ, Bool, true, false, cond, ◌&&◌, List, [], ◌∷◌, refl, sym, ap, ◌∙◌}
use Rattle.std.specs.Prelude.{not, nat_le, Option, Some, None}
use Rattle.std.specs.Option.{is_some}
use Rattle.md_engine.specs.Progress.{is_whole}
use Rattle.md_engine.specs.declared.configuration.ParseOptions.{ParseOptions}
use Rattle.md_engine.specs.declared.tokenizer.held_leaf.HeldLeaf.{HeldLeaf}
use Rattle.md_engine.specs.declared.tokenizer.held_leaf.HeldLeaf.TheVariants as held_leaf
use Rattle.md_literal.specs.Code.{may_open}
use Rattle.md_events.specs.Exact.Rows.{Delimiter, First, Further, Role, Underline}
use Rattle.md_leaves.specs.HeadingSetext.{may_turn}
use Rattle.md_leaves.specs.HeadingSetext as setext
use Rattle.md_leaves.specs.HeadingSetextRule.{is_underline}
use Rattle.md_meaning.specs.Leaves.{LeafResult, Finished, break_at, code_at, fence_at}
use Rattle.md_meaning.specs.Leaves.{is_free, underline_depth}
use Rattle.md_meaning.specs.Rest.{Rest, has_small_indent, indent, is_blank, trim_start}
use Rattle.md_meaning.specs.State.{Leaf, NoLeaf, OpenCode, OpenFence, OpenHtml, OpenParagraph, OpenTable, ParagraphLine}
use Rattle.md_meaning.specs.State.{cut, texts}
use Rattle.md_meaning.specs.Tree.{Bare, End}
use Rattle.md_meaning.specs.declared.outline.Word.TheVariants.{Break}
use Rattle.md_registry.specs.OpenSpan.{IsBuiltLeaf, IsOpenSpan}
use Rattle.md_registry.specs.Registry.{leaf}
use Rattle.md_registry.proofs.HeadingSetext.Found.{is_underlined, none-underlined, some-underlined, starts-by}
use Rattle.proof_rows.proofs.KindRoles.{delimiter-starts, leaf_role, left-size}
use Rattle.proof_frame.specs.Context.{context_of}
use Rattle.proof_frame.specs.HeldLeaf.{kind_of_leaf, met_by}
use Rattle.proof_frame.specs.Leaf.Paragraph.{open_lines}
use Rattle.proof_frame.specs.LeafName.{CodeFurther, CodeIndented, Fence, FenceFurther, GfmTable, HeadingAtx}
use Rattle.proof_frame.specs.LeafName.{HeadingSetext, HtmlFlow, HtmlFurther, LeafName, ThematicBreak}
use Rattle.proof_leaf_laws.proofs.HeadingAtx.Found.{heading-found}
use Rattle.proof_leaf_laws.proofs.ThematicBreak.Found.{break-found}
use Rattle.proof_leaf_laws.specs.Leaf.HeadingAtx.{heading_leaf}
use Rattle.proof_leaf_laws.specs.Leaf.ThematicBreak.{break_leaf, is_ruled}
use Rattle.proof_literal_laws.proofs.CodeIndented.Found.{code-found, code-proceeds}
use Rattle.proof_literal_laws.proofs.Fence.Found.{fence-found}
use Rattle.proof_literal_laws.proofs.HtmlFlow.Found.{html-found, html-proceeds}
use Rattle.proof_literal_laws.specs.Leaf.CodeIndented.{code_further, code_leaf}
use Rattle.proof_literal_laws.specs.Leaf.Fence.{fence_leaf}
use Rattle.proof_literal_laws.specs.Leaf.FenceFurther.{fence_further}
use Rattle.proof_literal_laws.specs.Leaf.HtmlFlow.{html_further, html_leaf}
use Rattle.proof_rows.proofs.TextFound.{may-left, text_on}
use Rattle.md_flow.specs.LineRule.{IsAsked, as_first, context, leaves_text, role_at, turns_nothing}

-- what a line meets
abbrev pub met : Bool → Leaf → HeldLeaf
met all open_leaf = met_by all (kind_of_leaf open_leaf)

-- a line that a leaf takes is one of it
abbrev pub role_if : ParseOptions → LeafName → Bool → Leaf → Rest → Bool → Option Role
role_if options l all open_leaf r x = cond x (Some (leaf_role options open_leaf (met all open_leaf) r l)) None

-- so it is by the line definition
abbrev pub IsRole : ParseOptions → LeafName → Bool → Leaf → Rest → Type 0
IsRole options l all open_leaf r =
    role_at options l all open_leaf r
    ≡ role_if options l all open_leaf r ((leaf l).starts options (met all open_leaf) r)

-- What a line is against.

context-met : (all : Bool) (open_leaf : Leaf) → context all open_leaf ≡ context_of (met all open_leaf)
context-met true NoLeaf = refl
context-met true (OpenParagraph lines) = refl
context-met true (OpenCode lines) = refl
context-met true (OpenFence o lines) = refl
context-met true (OpenHtml kind lines) = refl
context-met true (OpenTable delimiter rows) = refl
context-met false NoLeaf = refl
context-met false (OpenParagraph lines) = refl
context-met false (OpenCode lines) = refl
context-met false (OpenFence o lines) = refl
context-met false (OpenHtml kind lines) = refl
context-met false (OpenTable delimiter rows) = refl

free-met : (all : Bool) (open_leaf : Leaf) → may_open (met all open_leaf) ≡ is_free (context all open_leaf)
free-met true NoLeaf = refl
free-met true (OpenParagraph lines) = refl
free-met true (OpenCode lines) = refl
free-met true (OpenFence o lines) = refl
free-met true (OpenHtml kind lines) = refl
free-met true (OpenTable delimiter rows) = refl
free-met false NoLeaf = refl
free-met false (OpenParagraph lines) = refl
free-met false (OpenCode lines) = refl
free-met false (OpenFence o lines) = refl
free-met false (OpenHtml kind lines) = refl
free-met false (OpenTable delimiter rows) = refl

-- Leaves that begin.

first-if : (x : Bool) (became : LeafResult) →
    as_first (cond x (Some became) None) ≡ cond x (Some (First became)) None
first-if true became = refl
first-if false became = refl

code-role : (options : ParseOptions) (all : Bool) (open_leaf : Leaf) (r : Rest) →
    IsRole options CodeIndented all open_leaf r
code-role options all open_leaf r = go (is_blank r.bytes) refl
  where
    on : HeldLeaf
    on = met all open_leaf

    off : (x : Bool) → (x && not true) ≡ false
    off true = refl
    off false = refl

    go : (x : Bool) → is_blank r.bytes ≡ x →
        cond (is_blank r.bytes) None (as_first (code_at options (context all open_leaf) r)) ≡
        role_if options CodeIndented all open_leaf r (code_leaf.starts options on r)
    go true e =
        ap (λ (x : Bool). cond x None (as_first (code_at options (context all open_leaf) r))) e
        ∙ ap (role_if options CodeIndented all open_leaf r)
        (sym
        (ap (λ (x : Bool). (options.constructs.code_indented && may_open on && nat_le 4 (indent r)) && not x) e
        ∙ off (options.constructs.code_indented && may_open on && nat_le 4 (indent r))))
    go false e =
        ap (λ (x : Bool). cond x None (as_first (code_at options (context all open_leaf) r))) e
        ∙ ap as_first (code-found options on (context all open_leaf) r (free-met all open_leaf) e)
        ∙ first-if (code_leaf.starts options on r) (code_leaf.becomes options NoLeaf r)

fence-role : (options : ParseOptions) (all : Bool) (open_leaf : Leaf) (r : Rest) → IsRole options Fence all open_leaf r
fence-role options all open_leaf r =
    ap as_first (fence-found options r)
    ∙ first-if (is_some (fence_at options r)) (fence_leaf.becomes options NoLeaf r)

html-role : (options : ParseOptions) (all : Bool) (open_leaf : Leaf) (r : Rest) →
    IsRole options HtmlFlow all open_leaf r
html-role options all open_leaf r =
    ap as_first (html-found options (met all open_leaf) (context all open_leaf) r (context-met all open_leaf))
    ∙ first-if (html_leaf.starts options (met all open_leaf) r) (html_leaf.becomes options NoLeaf r)

heading-role : (options : ParseOptions) (all : Bool) (open_leaf : Leaf) (r : Rest) →
    IsRole options HeadingAtx all open_leaf r
heading-role options all open_leaf r =
    ap as_first (heading-found options r)
    ∙ first-if (heading_leaf.starts options (met all open_leaf) r) (heading_leaf.becomes options NoLeaf r)

-- Underlines.

depth-some : (options : ParseOptions) (r : Rest) → is_some (underline_depth options r) ≡ is_underlined options r
depth-some options r = go (underline_depth options r) refl
  where
    go : (o : Option ℕ) → underline_depth options r ≡ o → is_some (underline_depth options r) ≡ is_underlined options r
    go None e = ap is_some e ∙ sym (none-underlined options r e)
    go (Some depth) e = ap is_some e ∙ sym (some-underlined options r depth e)

-- something is left of a text where an underline may turn it
text-left : (options : ParseOptions) (k : ParagraphLine) (ks : List ParagraphLine) →
    leaves_text options (k ∷ ks) ≡ may_turn options (text_on (k ∷ ks))
text-left options k ks = left-size (cut options (texts (k ∷ ks))).1 ∙ sym (may-left options k ks)

and-swap : (x y : Bool) → (x && y) ≡ (y && x)
and-swap true true = refl
and-swap true false = refl
and-swap false true = refl
and-swap false false = refl

under-text : (options : ParseOptions) (r : Rest) (k : ParagraphLine) (ks : List ParagraphLine) →
    (is_some (underline_depth options r) && leaves_text options (k ∷ ks)) ≡
    (leaf HeadingSetext).starts options (text_on (k ∷ ks)) r
under-text options r k ks =
    ap (λ (x : Bool). x && leaves_text options (k ∷ ks)) (depth-some options r)
    ∙ ap (λ (x : Bool). is_underlined options r && x) (text-left options k ks)
    ∙ and-swap (is_underlined options r) (may_turn options (text_on (k ∷ ks)))
    ∙ sym (starts-by options (text_on (k ∷ ks)) r (may_turn options (text_on (k ∷ ks))) refl)

underline-role : (options : ParseOptions) (all : Bool) (open_leaf : Leaf) (r : Rest) → IsBuiltLeaf open_leaf →
    IsRole options HeadingSetext all open_leaf r
underline-role options true (OpenParagraph []) r built = absurd built
underline-role options true (OpenParagraph (k ∷ ks)) r built =
    ap (λ (x : Bool). cond x (Some Underline) None) (under-text options r k ks)
underline-role options true NoLeaf r built = refl
underline-role options true (OpenCode lines) r built = refl
underline-role options true (OpenFence o lines) r built = refl
underline-role options true (OpenHtml kind lines) r built = refl
underline-role options true (OpenTable delimiter rows) r built = refl
underline-role options false NoLeaf r built = refl
underline-role options false (OpenParagraph lines) r built = refl
underline-role options false (OpenCode lines) r built = refl
underline-role options false (OpenFence o lines) r built = refl
underline-role options false (OpenHtml kind lines) r built = refl
underline-role options false (OpenTable delimiter rows) r built = refl

-- Breaks.

-- a line is a break, unless it underlines nothing
broken : (options : ParseOptions) (all : Bool) (open_leaf : Leaf) (r : Rest) →
    (has_small_indent options r && setext.turns_nothing options (met all open_leaf)
    && is_underline (trim_start r.bytes)) ≡
    false →
    as_first (break_at options r) ≡
    role_if options ThematicBreak all open_leaf r (break_leaf.starts options (met all open_leaf) r)
broken options all open_leaf r none =
    ap as_first (break-found options (met all open_leaf) r none)
    ∙ first-if (break_leaf.starts options (met all open_leaf) r) (Finished (Bare Break))

nothing-left : (options : ParseOptions) (r : Rest) (k : ParagraphLine) (ks : List ParagraphLine) →
    turns_nothing options true (OpenParagraph (k ∷ ks)) r ≡
    (is_underlined options r && not (may_turn options (text_on (k ∷ ks))))
nothing-left options r k ks =
    ap (λ (x : Bool). x && not (leaves_text options (k ∷ ks))) (depth-some options r)
    ∙ ap (λ (x : Bool). is_underlined options r && not x) (text-left options k ks)

-- an underline of nothing is none
lost-none : (h s u w b : Bool) → ((h && s && u) && not (not w)) ≡ true → (b && not ((h && w) && u)) ≡ false
lost-none true true true true true e = refl
lost-none true true true true false e = refl
lost-none _ _ _ _ b e = cc

-- and where no line is one, a break is no underline that has nothing to turn
lost-some : (h s u w : Bool) → ((h && s && u) && not (not w)) ≡ false → (s && (h && w) && u) ≡ false
lost-some h false u w e = refl
lost-some false true u w e = refl
lost-some true true u false e = refl
lost-some true true false true e = refl
lost-some true true true true e = cc

break-text : (options : ParseOptions) (r : Rest) (k : ParagraphLine) (ks : List ParagraphLine) →
    IsRole options ThematicBreak true (OpenParagraph (k ∷ ks)) r
break-text options r k ks = go (turns_nothing options true open_leaf r) refl
  where
    on : HeldLeaf
    on = text_on (k ∷ ks)

    open_leaf : Leaf
    open_leaf = OpenParagraph (k ∷ ks)

    -- whether nothing is left after the definitions
    w : Bool
    w = options.constructs.definition && is_whole (open_lines (k ∷ ks)).progress

    by : Bool → Option Role
    by x = role_if options ThematicBreak true open_leaf r x

    same : (x : Bool) → turns_nothing options true open_leaf r ≡ x → (is_underlined options r && not (not w)) ≡ x
    same x e = sym (nothing-left options r k ks) ∙ e

    go : (x : Bool) → turns_nothing options true open_leaf r ≡ x →
        cond (turns_nothing options true open_leaf r) None (as_first (break_at options r)) ≡
        by (break_leaf.starts options on r)
    go true e =
        ap (λ (x : Bool). cond x None (as_first (break_at options r))) e
        ∙ ap by
        (sym
        (lost-none options.constructs.heading_setext (has_small_indent options r) (is_underline (trim_start r.bytes)) w
        (is_ruled options r) (same true e)))
    go false e =
        ap (λ (x : Bool). cond x None (as_first (break_at options r))) e
        ∙ broken options true open_leaf r
        (lost-some options.constructs.heading_setext (has_small_indent options r)
        (is_underline (trim_start r.bytes)) w (same false e))

off : (x y : Bool) → (x && false && y) ≡ false
off true y = refl
off false y = refl

none : (options : ParseOptions) (r : Rest) →
    (has_small_indent options r && false && is_underline (trim_start r.bytes)) ≡ false
none options r = off (has_small_indent options r) (is_underline (trim_start r.bytes))

break-role : (options : ParseOptions) (all : Bool) (open_leaf : Leaf) (r : Rest) → IsBuiltLeaf open_leaf →
    IsRole options ThematicBreak all open_leaf r
break-role options true (OpenParagraph []) r built = absurd built
break-role options true (OpenParagraph (k ∷ ks)) r built = break-text options r k ks
break-role options true NoLeaf r built = broken options true NoLeaf r (none options r)
break-role options true (OpenCode lines) r built = broken options true (OpenCode lines) r (none options r)
break-role options true (OpenFence o lines) r built = broken options true (OpenFence o lines) r (none options r)
break-role options true (OpenHtml kind lines) r built = broken options true (OpenHtml kind lines) r (none options r)
break-role options true (OpenTable delimiter rows) r built =
    broken options true (OpenTable delimiter rows) r (none options r)
break-role options false NoLeaf r built = broken options false NoLeaf r (none options r)
break-role options false (OpenParagraph lines) r built = broken options false (OpenParagraph lines) r (none options r)
break-role options false (OpenCode lines) r built = broken options false (OpenCode lines) r (none options r)
break-role options false (OpenFence o lines) r built = broken options false (OpenFence o lines) r (none options r)
break-role options false (OpenHtml kind lines) r built = broken options false (OpenHtml kind lines) r (none options r)
break-role options false (OpenTable delimiter rows) r built =
    broken options false (OpenTable delimiter rows) r (none options r)

-- Tables.

table-role : (options : ParseOptions) (all : Bool) (open_leaf : Leaf) (r : Rest) → IsBuiltLeaf open_leaf →
    IsRole options GfmTable all open_leaf r
table-role options true (OpenParagraph []) r built = absurd built
table-role options true (OpenParagraph (k ∷ ks)) r built =
    ap (λ (x : Bool). cond x (Some Delimiter) None) (delimiter-starts options End k ks r)
table-role options true NoLeaf r built = refl
table-role options true (OpenCode lines) r built = refl
table-role options true (OpenFence o lines) r built = refl
table-role options true (OpenHtml kind lines) r built = refl
table-role options true (OpenTable delimiter rows) r built = refl
table-role options false NoLeaf r built = refl
table-role options false (OpenParagraph lines) r built = refl
table-role options false (OpenCode lines) r built = refl
table-role options false (OpenFence o lines) r built = refl
table-role options false (OpenHtml kind lines) r built = refl
table-role options false (OpenTable delimiter rows) r built = refl

-- Further lines.

further-if : (x : Bool) (became : LeafResult) (role : Role) →
    cond (is_some (cond x (Some became) None)) (Some role) None ≡ cond x (Some role) None
further-if true became role = refl
further-if false became role = refl

further-code : (options : ParseOptions) (all : Bool) (open_leaf : Leaf) (r : Rest) →
    IsAsked CodeFurther all open_leaf → IsRole options CodeFurther all open_leaf r
further-code options true (OpenCode lines) r asked =
    ap (λ (o : Option LeafResult). cond (is_some o) (Some (Further (OpenCode lines))) None)
    (code-proceeds options lines r)
    ∙ further-if (code_further.starts options held_leaf.Code r) (code_further.becomes options (OpenCode lines) r)
    (Further (OpenCode lines))
further-code options true _ r asked = absurd asked
further-code options false _ r asked = absurd asked

fence-goes : (x : Bool) (f other : Role) → x ≡ true → Some f ≡ cond x (Some (cond x f other)) None
fence-goes true f other e = refl
fence-goes false f other e = cc

further-fence : (options : ParseOptions) (all : Bool) (open_leaf : Leaf) (r : Rest) → IsBuiltLeaf open_leaf →
    IsAsked FenceFurther all open_leaf → IsRole options FenceFurther all open_leaf r
unfolding IsOpenSpan
further-fence options true (OpenFence o lines) r built asked =
    fence-goes (fence_further.starts options (held_leaf.Fence o.marker o.size o.indent) r)
    (Further (OpenFence o lines)) (First (fence_further.becomes options NoLeaf r)) built
further-fence options true _ r built asked = absurd asked
further-fence options false _ r built asked = absurd asked

further-html : (options : ParseOptions) (all : Bool) (open_leaf : Leaf) (r : Rest) →
    IsAsked HtmlFurther all open_leaf → IsRole options HtmlFurther all open_leaf r
further-html options true (OpenHtml kind lines) r asked =
    ap (λ (o : Option LeafResult). cond (is_some o) (Some (Further (OpenHtml kind lines))) None)
    (html-proceeds options kind lines r)
    ∙ further-if (html_further.starts options (held_leaf.Html kind) r)
    (html_further.becomes options (OpenHtml kind lines) r) (Further (OpenHtml kind lines))
further-html options true _ r asked = absurd asked
further-html options false _ r asked = absurd asked

pub role-is : (options : ParseOptions) (l : LeafName) (all : Bool) (open_leaf : Leaf) (r : Rest) →
    IsBuiltLeaf open_leaf → IsAsked l all open_leaf → IsRole options l all open_leaf r
role-is options CodeIndented all open_leaf r built asked = code-role options all open_leaf r
role-is options CodeFurther all open_leaf r built asked = further-code options all open_leaf r asked
role-is options Fence all open_leaf r built asked = fence-role options all open_leaf r
role-is options FenceFurther all open_leaf r built asked = further-fence options all open_leaf r built asked
role-is options HtmlFlow all open_leaf r built asked = html-role options all open_leaf r
role-is options HtmlFurther all open_leaf r built asked = further-html options all open_leaf r asked
role-is options HeadingAtx all open_leaf r built asked = heading-role options all open_leaf r
role-is options HeadingSetext all open_leaf r built asked = underline-role options all open_leaf r built
role-is options ThematicBreak all open_leaf r built asked = break-role options all open_leaf r built
role-is options GfmTable all open_leaf r built asked = table-role options all open_leaf r built

-- A leaf is asked of what the line meets.
pub asked-is : (options : ParseOptions) (l : LeafName) (all : Bool) (open_leaf : Leaf) → IsBuiltLeaf open_leaf →
    IsAsked l all open_leaf → (leaf l).asked (met all open_leaf) ≡ true
unfolding IsOpenSpan
asked-is options CodeFurther true (OpenCode lines) built asked = refl
asked-is options CodeFurther _ _ built asked = absurd asked
asked-is options FenceFurther true (OpenFence o lines) built asked = built
asked-is options FenceFurther _ _ built asked = absurd asked
asked-is options HtmlFurther true (OpenHtml kind lines) built asked = refl
asked-is options HtmlFurther _ _ built asked = absurd asked
asked-is options _ all open_leaf built asked = refl
