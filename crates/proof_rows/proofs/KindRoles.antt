-- What a line is after its containers, by the kind of its row and the leaf that it meets.
use Rattle.std.proofs.Common.{◌≡◌, ℕ, Bool, true, false, cond, List, [], ◌∷◌, ◌++◌, length, refl, ap, sym, ◌∙◌, subst}
use Rattle.std.proofs.Common.{arith}
use Rattle.std.proofs.lemmas.Bool.Decides.{nat_tests}
use Rattle.std.specs.Prelude.{◌&&◌, ◌||◌, not, nat_lt, if◌then◌else◌, Option, Some, None}
use Rattle.std.specs.Option.{is_some}
use Rattle.md_engine.specs.declared.configuration.ParseOptions.{ParseOptions}
use Rattle.md_engine.specs.declared.tokenizer.held_leaf.HeldLeaf.{HeldLeaf}
use Rattle.md_engine.specs.declared.tokenizer.held_leaf.HeldLeaf.TheVariants as held_leaf
use Rattle.md_meaning.specs.Leaves.{LazyText, LeafResult, NoText, Text, starts, table_at, underline_depth}
use Rattle.md_meaning.specs.Rest.{Rest, is_blank}
use Rattle.md_meaning.specs.State.{Innermost, Leaf, NoLeaf, OpenParagraph, ParagraphLine, cut, kept, shut_paragraph}
use Rattle.md_meaning.specs.State.{texts}
use Rattle.md_meaning.specs.Step.{became, with_lazy}
use Rattle.md_meaning.specs.Tree.{Blocks, End}
use Rattle.md_events.specs.Exact.Rows.{Blank, Delimiter, First, FirstText, Further, FurtherText, Role, Underline, first_or}
use Rattle.md_events.specs.Exact.Rows.{fresh_role, role_on}
use Rattle.md_leaves.specs.HeadingSetext.{may_turn}
use Rattle.md_link_definitions.specs.Progress.{is_none_left}
use Rattle.proof_frame.specs.HeldLeaf.{has_lines, kind_of_leaf, may_continue, met_by, takes_lazy}
use Rattle.proof_frame.specs.Leaf.Paragraph.{open_lines}
use Rattle.proof_frame.specs.LeafName.{GfmTable, LeafName}
use Rattle.proof_frame.specs.Row.{BlankRow, LeafRow, RowKind, TextRow}
use Rattle.proof_frame.specs.TextLines.{text_leaf}
use Rattle.proof_leaf_laws.specs.Leaf.HeadingSetext.{depth_of, setext_leaf}
use Rattle.proof_leaf_laws.specs.Leaf.GfmTable.{table_leaf}
use Rattle.proof_leaf_laws.proofs.GfmTable.Found.{table-found}
use Rattle.md_registry.specs.OpenSpan.{IsBuiltLeaf, IsOpenSpan}
use Rattle.md_registry.specs.Registry.{leaf}
use Rattle.md_registry.proofs.HeadingSetext.Found.{setext-found}
use Rattle.md_registry.proofs.Dispatch.{result_of, leaf_at, lost-none, setext-taken, text-starts, or_table, other_at}
use Rattle.md_registry.proofs.Dispatch.{table-last}
use Rattle.md_registry.proofs.Registry.{insider-none, text-laws}
use Rattle.proof_rows.specs.Rows.{is_further, kind_of, line_kind}
use Rattle.proof_rows.proofs.ContainedLemmas.{lines-unlazy}
use Rattle.proof_rows.proofs.FurtherSpan.{FurtherSpan, context-none, further-span, met-none, none-further, other-begins}
use Rattle.proof_rows.proofs.FurtherSpan.{other_kind, span-lazy}
use Rattle.proof_rows.proofs.KindLemmas.{kind-plain}
use Rattle.proof_rows.proofs.RegistryFound.{untabled-at, untext-found}
use Rattle.proof_rows.proofs.TextFound.{Ended, following-text, ended, knows-head, lazy_on, may-left, text-others}
use Rattle.proof_rows.proofs.TextFound.{text_on, underlined-untabled, unturned-setext}

-- a line that continues this open leaf: on text it is an underline, or a delimiter row, which takes a head
abbrev pub further_role : Leaf → Bool → Role
further_role (OpenParagraph lines) heads = if heads then Delimiter else Underline
further_role open_leaf heads = Further open_leaf

-- a line of a leaf that is no text: one that continues the open leaf, or the first of another
abbrev pub leaf_role : ParseOptions → Leaf → HeldLeaf → Rest → LeafName → Role
leaf_role options open_leaf on r l =
    if (leaf l).further on then further_role open_leaf (leaf l).heads else First ((leaf l).becomes options NoLeaf r)

-- a line of any kind, where this leaf is open before it, and the line meets that as this one
abbrev pub kind_role : ParseOptions → Leaf → HeldLeaf → Rest → RowKind → Role
kind_role options open_leaf on r BlankRow = Blank
kind_role options open_leaf on r (LeafRow l) = leaf_role options open_leaf on r l
kind_role options open_leaf on r TextRow = if takes_lazy on then FurtherText else FirstText

-- Where the line meets neither text nor a leaf of several lines on which it goes.

-- a line that is not blank, by the first leaf that starts on it
plain-role : (options : ParseOptions) (open_leaf : Leaf) (on : HeldLeaf) (r : Rest) → takes_lazy on ≡ false →
    is_blank r.bytes ≡ false → is_further (kind_of (other_at options on r)) on ≡ false →
    first_or FirstText (starts options NoText r) ≡ kind_role options open_leaf on r (kind_of (other_at options on r))
plain-role options open_leaf on r unlazy dark begins =
    ap (first_or FirstText) (untext-found options on NoText r (context-none on unlazy) refl dark)
    ∙ go (other_at options on r) begins
  where
    go : (o : Option LeafName) → is_further (kind_of o) on ≡ false →
        first_or FirstText (result_of options r o) ≡ kind_role options open_leaf on r (kind_of o)
    go None begins = ap (λ (x : Bool). cond x FurtherText FirstText) (sym unlazy)
    go (Some l) begins =
        ap
        (λ (x : Bool). cond x (further_role open_leaf (leaf l).heads) (First ((leaf l).becomes options NoLeaf r)))
        (sym begins)

-- where it meets no leaf
none-kind : (options : ParseOptions) (r : Rest) →
    line_kind options held_leaf.None r ≡ other_kind options held_leaf.None r
none-kind options r =
    kind-plain options held_leaf.None r (insider-none held_leaf.None refl)
    ∙ ap (λ (o : Option LeafName). cond (is_blank r.bytes) BlankRow (kind_of o))
    (untabled-at options held_leaf.None r refl)

pub none-role : (options : ParseOptions) (open_leaf : Leaf) (r : Rest) →
    role_on options NoLeaf r ≡
    kind_role options open_leaf held_leaf.None r (line_kind options held_leaf.None r)
none-role options open_leaf r =
    go (is_blank r.bytes) refl ∙ ap (kind_role options open_leaf held_leaf.None r) (sym (none-kind options r))
  where
    other : RowKind
    other = kind_of (other_at options held_leaf.None r)

    go : (x : Bool) → is_blank r.bytes ≡ x →
        cond (is_blank r.bytes) Blank (first_or FirstText (starts options NoText r)) ≡
        kind_role options open_leaf held_leaf.None r (cond (is_blank r.bytes) BlankRow other)
    go true e =
        ap (λ (x : Bool). cond x Blank (first_or FirstText (starts options NoText r))) e
        ∙ ap (λ (x : Bool). kind_role options open_leaf held_leaf.None r (cond x BlankRow other)) (sym e)
    go false e =
        ap (λ (x : Bool). cond x Blank (first_or FirstText (starts options NoText r))) e
        ∙ plain-role options open_leaf held_leaf.None r refl e
        (ap (λ (x : Bool). is_further (cond x BlankRow other) held_leaf.None) (sym e)
        ∙ ap (λ (kind : RowKind). is_further kind held_leaf.None) (sym (none-kind options r))
        ∙ none-further options held_leaf.None r refl)
        ∙ ap (λ (x : Bool). kind_role options open_leaf held_leaf.None r (cond x BlankRow other)) (sym e)

-- Where a leaf of several lines is open that is no text.

fresh-span : (options : ParseOptions) (r : Rest) (open_leaf : Leaf) → has_lines (kind_of_leaf open_leaf) ≡ true →
    fresh_role options open_leaf r ≡ first_or FirstText (starts options NoText r)
fresh-span options r (OpenParagraph lines) e = cc
fresh-span options r _ e = refl

pub further-span_role : (open_leaf : Leaf) (heads : Bool) → has_lines (kind_of_leaf open_leaf) ≡ true →
    further_role open_leaf heads ≡ Further open_leaf
further-span_role (OpenParagraph lines) heads e = cc
further-span_role _ heads e = refl

span-role : (options : ParseOptions) (r : Rest) (open_leaf : Leaf) → FurtherSpan open_leaf →
    role_on options open_leaf r ≡
    kind_role options open_leaf (kind_of_leaf open_leaf) r (line_kind options (kind_of_leaf open_leaf) r)
span-role options r open_leaf is =
    ap (λ (o : Option LeafResult). cond (is_some o) (Further open_leaf) fresh) (is.proceeds options r)
    ∙ go (is.takes options r)
    ∙ ap (kind_role options open_leaf on r) (sym (is.kind options r))
  where
    on : HeldLeaf
    on = kind_of_leaf open_leaf

    fresh : Role
    fresh = cond (is_blank r.bytes) Blank (fresh_role options open_leaf r)

    other : RowKind
    other = kind_of (other_at options on r)

    by : (x : Bool) → is_blank r.bytes ≡ x →
        cond x Blank (fresh_role options open_leaf r) ≡ kind_role options open_leaf on r (cond x BlankRow other)
    by true e = refl
    by false e =
        fresh-span options r open_leaf is.lines
        ∙ plain-role options open_leaf on r (lines-unlazy on is.lines) e
        (ap (λ (x : Bool). is_further (cond x BlankRow other) on) (sym e) ∙ other-begins options on r is.lines)

    go : (x : Bool) →
        cond (is_some (cond x (Some ((leaf is.name).becomes options open_leaf r)) None)) (Further open_leaf) fresh ≡
        kind_role options open_leaf on r (cond x (LeafRow is.name) (other_kind options on r))
    go true =
        sym
        (ap
        (λ (x : Bool).
        cond x (further_role open_leaf (leaf is.name).heads) (First ((leaf is.name).becomes options NoLeaf r)))
        is.further
        ∙ further-span_role open_leaf (leaf is.name).heads is.lines)
    go false = by (is_blank r.bytes) refl

-- Where text is open.

pub left-size : (left : List (List ℕ)) → nat_lt 0 (length left) ≡ not (is_none_left left)
left-size [] = refl
left-size (line ∷ left) =
    let some : nat_lt 0 (length (line ∷ left)) ≡ true = grind (arith, nat_tests) in some

-- a delimiter row is where the leaf of tables starts
pub delimiter-starts : (options : ParseOptions) (bs : Blocks) (k : ParagraphLine) (ks : List ParagraphLine) (r : Rest) →
    is_some (table_at options bs (k ∷ ks) r) ≡ table_leaf.starts options (text_on (k ∷ ks)) r
delimiter-starts options bs k ks r = subst Done (sym is.is) (at_end is.front is.last)
  where
    is : Ended (k ∷ ks)
    is = ended k ks

    Done : List ParagraphLine → Type 0
    Done lines = is_some (table_at options bs lines r) ≡ table_leaf.starts options (text_on lines) r

    at_end : (front : List ParagraphLine) (last : ParagraphLine) → Done (front ++ last ∷ [])
    at_end front last =
        ap is_some (table-found options bs front last (open_lines lines) r (knows-head front last))
        ∙ go (table_leaf.starts options (text_on lines) r)
      where
        lines : List ParagraphLine
        lines = front ++ last ∷ []

        become : Innermost
        become =
            became (shut_paragraph options bs (texts front)) (table_leaf.becomes options (text_leaf.held lines) r)

        go : (x : Bool) → is_some (cond x (Some become) None) ≡ x
        go true = refl
        go false = refl

text-dark : (options : ParseOptions) (k : ParagraphLine) (ks : List ParagraphLine) (r : Rest) →
    is_blank r.bytes ≡ false →
    fresh_role options (text_leaf.held (k ∷ ks)) r ≡
    kind_role options (text_leaf.held (k ∷ ks)) (text_on (k ∷ ks)) r (kind_of (leaf_at options (text_on (k ∷ ks)) r))
text-dark options k ks r dark = go (may_turn options on) refl
  where
    lines : List ParagraphLine
    lines = k ∷ ks

    on : HeldLeaf
    on = text_on lines

    to : Option LeafName → Role
    to o = kind_role options (text_leaf.held lines) on r (kind_of o)

    -- an underline, by whether something is left that it may turn
    under : Bool → Role
    under x = cond x Underline FurtherText

    -- what is none, by whether it is a delimiter row
    row : Bool → Role
    row x = cond x Delimiter FurtherText

    by_depth : Option ℕ → Role
    by_depth o =
        cond (is_some o) (under (nat_lt 0 (length (cut options (texts lines)).1)))
        (first_or (row (is_some (table_at options End lines r))) (starts options Text r))

    Done : Option ℕ → Type 0
    Done o = by_depth o ≡ to (leaf_at options on r)

    turns : (x : Bool) → may_turn options on ≡ x →
        under (nat_lt 0 (length (cut options (texts lines)).1)) ≡ under x
    turns x e = ap under (left-size (cut options (texts lines)).1 ∙ sym (may-left options k ks) ∙ e)

    last : (x : Bool) → row x ≡ to (cond x (Some GfmTable) None)
    last true = refl
    last false = refl

    by : setext_leaf.starts options on r ≡ false → (o : Option LeafName) → other_at options on r ≡ o →
        first_or (row (is_some (table_at options End lines r))) (result_of options r o) ≡
        to (or_table (table_leaf.starts options on r) o)
    by e None found = ap row (delimiter-starts options End k ks r) ∙ last (table_leaf.starts options on r)
    by e (Some l) found =
        sym
        (ap
        (λ (x : Bool).
        cond x (further_role (text_leaf.held lines) (leaf l).heads) (First ((leaf l).becomes options NoLeaf r)))
        (following-text options (open_lines lines) r l e found))

    other : underline_depth options r ≡ None → setext_leaf.starts options on r ≡ false → Done None
    other none e =
        ap (first_or (row (is_some (table_at options End lines r))))
        (text-others options (open_lines lines) r none e dark)
        ∙ by e (other_at options on r) refl ∙ ap to (sym (table-last options on r))

    may_turn-role : may_turn options on ≡ true → (x : Bool) → setext_leaf.starts options on r ≡ x →
        Done (underline_depth options r)
    may_turn-role may true e =
        ap by_depth (setext-found options on r may ∙ ap (λ (t : Bool). cond t (Some (depth_of r)) None) e)
        ∙ turns true may ∙ ap to (sym (setext-taken options on r e))
    may_turn-role may false e =
        let none : underline_depth options r ≡ None =
        setext-found options on r may ∙ ap (λ (t : Bool). cond t (Some (depth_of r)) None) e in
        ap by_depth none ∙ other none e

    none_left-role : may_turn options on ≡ false → (o : Option ℕ) → underline_depth options r ≡ o →
        Done (underline_depth options r)
    none_left-role may None none = ap by_depth none ∙ other none (unturned-setext options on r may)
    none_left-role may (Some depth) found =
        ap by_depth found ∙ turns false may
        ∙ ap to
        (sym
        (lost-none options (open_lines lines) r depth may found
        (underlined-untabled options (open_lines lines) r depth found)))

    go : (x : Bool) → may_turn options on ≡ x → Done (underline_depth options r)
    go true may = may_turn-role may (setext_leaf.starts options on r) refl
    go false may = none_left-role may (underline_depth options r) refl

text-role : (options : ParseOptions) (r : Rest) (k : ParagraphLine) (ks : List ParagraphLine) →
    role_on options (text_leaf.held (k ∷ ks)) r ≡
    kind_role options (text_leaf.held (k ∷ ks)) (text_on (k ∷ ks)) r (line_kind options (text_on (k ∷ ks)) r)
text-role options r k ks =
    go (is_blank r.bytes) refl
    ∙ ap (kind_role options (text_leaf.held (k ∷ ks)) on r) (sym (kind-plain options on r (insider-none on refl)))
  where
    on : HeldLeaf
    on = text_on (k ∷ ks)

    fresh : Role
    fresh = fresh_role options (text_leaf.held (k ∷ ks)) r

    to : Bool → Role
    to x = kind_role options (text_leaf.held (k ∷ ks)) on r (cond x BlankRow (kind_of (leaf_at options on r)))

    go : (x : Bool) → is_blank r.bytes ≡ x → cond (is_blank r.bytes) Blank fresh ≡ to (is_blank r.bytes)
    go true e = ap (λ (x : Bool). cond x Blank fresh) e ∙ ap to (sym e)
    go false e = ap (λ (x : Bool). cond x Blank fresh) e ∙ text-dark options k ks r e ∙ ap to (sym e)

-- So it is with each leaf that may be open, where the line meets it.
pub met-role : (options : ParseOptions) (r : Rest) (open_leaf : Leaf) → IsBuiltLeaf open_leaf →
    role_on options open_leaf r ≡
    kind_role options open_leaf (kind_of_leaf open_leaf) r (line_kind options (kind_of_leaf open_leaf) r)
met-role options r open_leaf built =
    text-laws.cases IsOpenSpan
    (λ (l : Leaf). role_on options l r ≡ kind_role options l (kind_of_leaf l) r (line_kind options (kind_of_leaf l) r))
    (none-role options NoLeaf r) (text-role options r) (λ l is. span-role options r l (further-span l is)) open_leaf
    built

-- Where not all containers continue and none opens: a line of text continues the open text.

abbrev pub lazy_role : ParseOptions → Leaf → Rest → Role
lazy_role options open_leaf r =
    if is_some (with_lazy options open_leaf r) then FurtherText else role_on options NoLeaf r

text-lazy_role : (options : ParseOptions) (r : Rest) (k : ParagraphLine) (ks : List ParagraphLine) →
    lazy_role options (text_leaf.held (k ∷ ks)) r ≡
    kind_role options (text_leaf.held (k ∷ ks)) (lazy_on (k ∷ ks)) r (line_kind options (lazy_on (k ∷ ks)) r)
text-lazy_role options r k ks =
    go (is_blank r.bytes) refl ∙ ap to (sym (kind-plain options on r (insider-none on refl)))
  where
    on : HeldLeaf
    on = lazy_on (k ∷ ks)

    to : RowKind → Role
    to kind = kind_role options (text_leaf.held (k ∷ ks)) on r kind

    shut : RowKind → Role
    shut kind = kind_role options (text_leaf.held (k ∷ ks)) held_leaf.None r kind

    kind_by : HeldLeaf → Bool → RowKind
    kind_by met x = cond x BlankRow (kind_of (leaf_at options met r))

    plain_line : role_on options NoLeaf r ≡ shut (kind_by held_leaf.None (is_blank r.bytes))
    plain_line =
        none-role options (text_leaf.held (k ∷ ks)) r
        ∙ ap shut (kind-plain options held_leaf.None r (insider-none held_leaf.None refl))

    lazy : Bool → Option LeafResult → Role
    lazy x o =
        cond (is_some (cond (x || is_some o) None (Some (text_leaf.held (k ∷ ks ++ kept r ∷ []))))) FurtherText
        (role_on options NoLeaf r)

    -- the first leaf that starts goes neither on text that the line is lazy for nor on none
    apart : (met : HeldLeaf) → may_continue met ≡ false → is_blank r.bytes ≡ false → (l : LeafName) →
        leaf_at options met r ≡ Some l → has_lines met ≡ false →
        kind_role options (text_leaf.held (k ∷ ks)) met r (LeafRow l) ≡ First ((leaf l).becomes options NoLeaf r)
    apart met none dark l found other =
        ap
        (λ (x : Bool).
        cond x (further_role (text_leaf.held (k ∷ ks)) (leaf l).heads) (First ((leaf l).becomes options NoLeaf r)))
        (ap (λ (kind : RowKind). is_further kind met)
        (sym
        (kind-plain options met r (insider-none met other) ∙ ap (kind_by met) dark
        ∙ ap kind_of found))
        ∙ none-further options met r none)

    by : is_blank r.bytes ≡ false → (o : Option LeafName) → leaf_at options on r ≡ o →
        lazy false (result_of options r o) ≡ to (kind_of o)
    by dark None found = refl
    by dark (Some l) found =
        let first = text-starts options (open_lines (k ∷ ks)) r l found in
        plain_line ∙ ap (λ (x : Bool). shut (kind_by held_leaf.None x)) dark
        ∙ ap (λ (o : Option LeafName). shut (kind_of o)) first
        ∙ apart held_leaf.None refl dark l first refl ∙ sym (apart on refl dark l found refl)

    go : (x : Bool) → is_blank r.bytes ≡ x →
        lazy (is_blank r.bytes) (starts options LazyText r) ≡ to (kind_by on (is_blank r.bytes))
    go true e =
        ap (λ (x : Bool). lazy x (starts options LazyText r)) e ∙ plain_line
        ∙ ap (λ (x : Bool). shut (kind_by held_leaf.None x)) e ∙ ap (λ (x : Bool). to (kind_by on x)) (sym e)
    go false e =
        ap (λ (x : Bool). lazy x (starts options LazyText r)) e
        ∙ ap (lazy false)
        (untext-found options on LazyText r refl refl e
        ∙ ap (result_of options r) (sym (untabled-at options on r refl)))
        ∙ by e (leaf_at options on r) refl ∙ ap (λ (x : Bool). to (kind_by on x)) (sym e)

pub lazy-role : (options : ParseOptions) (r : Rest) (open_leaf : Leaf) → IsBuiltLeaf open_leaf →
    let on = met_by false (kind_of_leaf open_leaf) in
    lazy_role options open_leaf r ≡ kind_role options open_leaf on r (line_kind options on r)
lazy-role options r open_leaf built =
    text-laws.cases IsOpenSpan
    (λ (l : Leaf).
    lazy_role options l r ≡
    kind_role options l (met_by false (kind_of_leaf l)) r (line_kind options (met_by false (kind_of_leaf l)) r))
    (none-role options NoLeaf r) (text-lazy_role options r) (λ l is. span l (further-span l is)) open_leaf built
  where
    span : (l : Leaf) → FurtherSpan l →
        lazy_role options l r ≡
        kind_role options l (met_by false (kind_of_leaf l)) r (line_kind options (met_by false (kind_of_leaf l)) r)
    span l is =
        ap (λ (o : Option Leaf). cond (is_some o) FurtherText (role_on options NoLeaf r))
        (span-lazy options r l is.lines)
        ∙ none-role options l r
        ∙ ap (λ (on : HeldLeaf). kind_role options l on r (line_kind options on r))
        (sym (met-none (kind_of_leaf l) (lines-unlazy (kind_of_leaf l) is.lines)))

-- What a line is, by whether all containers continue and whether none opens.
pub line-role : (options : ParseOptions) (r : Rest) (open_leaf : Leaf) (all none : Bool) → IsBuiltLeaf open_leaf →
    let on = if none then met_by all (kind_of_leaf open_leaf) else held_leaf.None in
    (if not all && none && is_some (with_lazy options open_leaf r) then FurtherText
    else role_on options (if all && none then open_leaf else NoLeaf) r) ≡
    kind_role options open_leaf on r (line_kind options on r)
line-role options r open_leaf true true built = met-role options r open_leaf built
line-role options r open_leaf true false built = none-role options open_leaf r
line-role options r open_leaf false true built = lazy-role options r open_leaf built
line-role options r open_leaf false false built = none-role options open_leaf r
