-- Groups of lines of a leaf of several lines, and of a table.
use Rattle.std.proofs.Common.{◌≡◌, ℕ, Bool, true, false, cond, ◌||◌, List, [], ◌∷◌, ◌++◌, refl, sym, ap, ap₂, ◌∙◌}
use Rattle.std.proofs.Common.{subst, append_assoc}
use Rattle.std.specs.Prelude.{◌&&◌, nat_le, not, Option, Some, None}
use Rattle.std.proofs.lemmas.Bool.{and_parts}
use Rattle.md_engine.specs.declared.configuration.ParseOptions.{ParseOptions}
use Rattle.md_engine.specs.declared.event.Event.{Event}
use Rattle.md_engine.specs.declared.tokenizer.held_leaf.HeldLeaf.TheVariants as held_leaf
use Rattle.md_engine.specs.declared.tokenizer.held_leaf.OpenText.{OpenText}
use Rattle.md_literal.specs.Html.{ends_in_front, is_html}
use Rattle.md_literal.specs.HtmlLine.{left_by}
use Rattle.proof_leaf_laws.proofs.HeadingSetext.Span.{setext-begins}
use Rattle.md_link_definitions.specs.OpenText.{open_text}
use Rattle.md_link_definitions.specs.Progress.{progress_of, step}
use Rattle.proof_literal_laws.specs.Leaf.CodeIndented.{is_code}
use Rattle.proof_literal_laws.specs.Leaf.HtmlFlow.{kind_begun}
use Rattle.md_meaning.specs.Html.{HtmlKind, html_ends}
use Rattle.md_meaning.specs.Rest.{indent, is_blank, trim_start}
use Rattle.md_meaning.specs.State.{kept}
use Rattle.proof_leaf_laws.proofs.GfmTable.Span.{table-begins}
use Rattle.md_events.specs.Exact.Blocks.{events_by, tail}
use Rattle.md_events.specs.Exact.Rows.{Delimiter, Role, Row}
use Rattle.proof_frame.specs.LeafName.{CodeFurther, CodeIndented, Fence, FenceFurther, GfmTable, HeadingSetext}
use Rattle.proof_frame.specs.LeafName.{HtmlFlow, HtmlFurther, LeafName}
use Rattle.proof_frame.specs.Row.{LeafRow, Row as FrameRow, any_framed, ending_of, last_row, span_after, span_by}
use Rattle.proof_frame.proofs.LeafLines.Bare.{inner, outer}
use Rattle.md_registry.specs.Registry.{further_of, leaf}
use Rattle.md_registry.proofs.UnderNames.{heads-table}
use Rattle.proof_rows.specs.BlockList.{tabled_group}
use Rattle.proof_rows.specs.Rows.{Headed, LeafLines, line_following, tail_events}
use Rattle.proof_rows.proofs.GroupLines.{AreSpan, Begins, IsHead, IsSpanLine, line-further, span-begins}
use Rattle.proof_rows.proofs.HeadedTable.{headed-is, headed-table}
use Rattle.proof_rows.proofs.KindLemmas.{kind-starts}
use Rattle.proof_rows.proofs.LineAfter.{line-heads}
use Rattle.proof_exact.proofs.Tails.{tail-last}
use Rattle.proof_exact_lines.proofs.Spans.{own}
use Rattle.proof_exact_lines.proofs.TextLines.{last_of}
use Rattle.proof_exact_lines.specs.Unlisted.{unlisted_group, unlisted_groups, without_lists}
use Rattle.proof_exact.proofs.GroupsMatch.{Pairs, TakesEach, TakesLines, following_leaf, within_leaf}
use Rattle.proof_exact.proofs.Fit.{Fit}
use Rattle.proof_exact_lines.proofs.Tables.{AreTableLines, table-walked}
use Rattle.proof_exact.proofs.Following.{AllContinue, following-proceeds, front-proceeds, inner-ends, inner-outer}
use Rattle.proof_exact.proofs.Following.{outer-none, span-proceeds}
use Rattle.proof_exact.proofs.FitLines.{MayEnd, first-table, further-table, text-further, with_front}
use Rattle.proof_exact.proofs.Groups.{group-same}
use Rattle.proof_exact.proofs.Put.{AllGo, AllPut, ArePut, IsPut}
use Rattle.proof_exact.proofs.Several.{following-same, code-ends, code-lines, fence-group, html-group, other-ends}
use Rattle.proof_exact.proofs.Several.{tails-same}

-- The first lines that are put together.
pub record Taken (Fit : Row → FrameRow → Type 0) (r : FrameRow) (rs : List FrameRow)
    (More : List (List Row) → Type 0) (ess : List (List Row)) : Type 0 where
  pub x : Row
  pub xs : List Row
  pub following : List (List Row)
  pub same : ess ≡ (x ∷ xs) ∷ following
  pub fit : Fit x r
  pub pairs : Pairs Fit xs rs
  pub more : More following

pub lines-taken : (Fit : Row → FrameRow → Type 0) (r : FrameRow) (rs : List FrameRow)
    (More : List (List Row) → Type 0) (ess : List (List Row)) → TakesLines Fit (r ∷ rs) More ess →
    Taken Fit r rs More ess
lines-taken Fit r rs More [] takes = absurd takes
lines-taken Fit r rs More ([] ∷ ess) takes = absurd takes.0
lines-taken Fit r rs More ((x ∷ xs) ∷ ess) takes = record {
  x = x;
  xs = xs;
  following = ess;
  same = refl;
  fit = takes.0.0;
  pairs = takes.0.1;
  more = takes.1;
}

-- A leaf that is no code.

lone-same : (options : ParseOptions) (bytes : List ℕ) (l : LeafName) (x : Row) (r : FrameRow) (xs : List Row)
    (rs : List FrameRow) →
    Fit options bytes x r → Pairs (Fit options bytes) xs rs → AllContinue l r rs → (l ≡ CodeFurther → ⊥) →
    (r.kind ≡ LeafRow CodeFurther → ⊥) → events_by options x.role (x ∷ xs) ≡ span_by own r rs →
    unlisted_group options (x ∷ xs) ≡ tabled_group options bytes (LeafLines r rs)
lone-same options bytes l x r xs rs fit pairs are other first events =
    group-same options bytes x xs (LeafLines r rs) fit
    (tails-same options bytes x r xs rs fit pairs (λ e. absurd (other-ends l r rs other first are e))) events

-- Code, with the blank lines after it.

last-row : (r : FrameRow) (rs more : List FrameRow) → last_row r (rs ++ more) ≡ last_row (last_row r rs) more
last-row r [] more = refl
last-row r (next ∷ rs) more = last-row next rs more

code-same : (options : ParseOptions) (bytes : List ℕ) (x : Row) (r : FrameRow) (xs : List Row)
    (rs more : List FrameRow) (More : List (List Row) → Type 0) (events : List Event) →
    ((ess : List (List Row)) → More ess → AllPut ess → events ≡ unlisted_groups options ess) →
    (ess : List (List Row)) → Fit options bytes x r → r.kind ≡ LeafRow CodeIndented →
    Pairs (Fit options bytes) xs rs → AllGo xs → AllContinue CodeFurther r (rs ++ more) → any_framed own more ≡ false →
    (span_by own r (rs ++ more) ≡ events_by options x.role (x ∷ xs) ++ span_after own (last_row r rs) more) →
    Fit options bytes (last_of x xs) (last_row r rs) → MayEnd (last_of x xs) (last_row r rs) →
    TakesEach (Fit options bytes) more More ess → AllPut ess →
    tabled_group options bytes (LeafLines r (rs ++ more)) ++ events ≡
    unlisted_group options (x ∷ xs) ++ unlisted_groups options ess
code-same options bytes x r xs rs more More events same ess fit kind pairs proceeds are none joined last may takes put =
    ap (λ (l : FrameRow). ((r.front ++ span_by own r (rs ++ more)) ++ ending l) ++ events) (last-row r rs more)
    ∙ ap₂ (λ (es fs : List Event). ((es ++ fs) ++ ending (last_row (last_row r rs) more)) ++ events) (sym fit.front)
    joined
    ∙ regroup (without_lists x.front) leaf_events (span_after own (last_row r rs) more)
    (ending (last_row (last_row r rs) more)) events
    ∙ ap (λ (es : List Event). (without_lists x.front ++ leaf_events) ++ es)
    (following-same options bytes (last_of x xs) (last_row r rs) more More events same ess last may
    (following-proceeds CodeFurther r rs more are) none takes put)
    ∙ again (without_lists x.front) leaf_events (without_lists (tail (last_of x xs ∷ []))) (unlisted_groups options ess)
    ∙ ap
    (λ (es : List Event).
    ((without_lists x.front ++ leaf_events) ++ without_lists es) ++ unlisted_groups options ess)
    (sym (tail-last x xs))
  where
    leaf_events : List Event
    leaf_events = events_by options x.role (x ∷ xs)

    ending : FrameRow → List Event
    ending l = tail_events (ending_of l.kind l) l

    regroup : (a b c d e : List Event) → ((a ++ (b ++ c)) ++ d) ++ e ≡ (a ++ b) ++ ((c ++ d) ++ e)
    regroup a b c d e = simp append_assoc

    again : (a b c d : List Event) → (a ++ b) ++ (c ++ d) ≡ ((a ++ b) ++ c) ++ d
    again a b c d = simp append_assoc

last-fit : (options : ParseOptions) (bytes : List ℕ) (x : Row) (r : FrameRow) (xs : List Row) (rs : List FrameRow) →
    Fit options bytes x r → Pairs (Fit options bytes) xs rs → Fit options bytes (last_of x xs) (last_row r rs)
last-fit options bytes x r [] [] fit pairs = fit
last-fit options bytes x r (y ∷ ys) (next ∷ rs) fit pairs = last-fit options bytes y next ys rs pairs.0 pairs.1
last-fit options bytes x r [] (next ∷ rs) fit pairs = absurd pairs
last-fit options bytes x r (y ∷ ys) [] fit pairs = absurd pairs

-- where it is among the groups
within-false : (rows : List FrameRow) → within_leaf false rows ≡ rows
within-false [] = refl
within-false (row ∷ rows) = refl

following-false : (rows : List FrameRow) → following_leaf false rows ≡ []
following-false [] = refl
following-false (row ∷ rows) = refl

within-true : (rows : List FrameRow) → within_leaf true rows ≡ inner own rows
within-true [] = refl
within-true (row ∷ rows) = refl

following-true : (rows : List FrameRow) → following_leaf true rows ≡ outer own rows
following-true [] = refl
following-true (row ∷ rows) = refl

abbrev Takes : (options : ParseOptions) (bytes : List ℕ) → FrameRow → List FrameRow →
    (List (List Row) → Type 0) → Bool → List (List Row) → Type 0
Takes options bytes r rs More code ess =
    TakesLines (Fit options bytes) (r ∷ within_leaf code rs)
    (TakesEach (Fit options bytes) (following_leaf code rs) More) ess

html-kinds : (kind : Option HtmlKind) (line : List ℕ) → is_code (left_by kind line) ≡ false
html-kinds None line = refl
html-kinds (Some kind) line = go (html_ends kind line)
  where
    go : (x : Bool) → is_code (cond x held_leaf.None (held_leaf.Html kind)) ≡ false
    go true = refl
    go false = refl

pub leaf-same : (options : ParseOptions) (bytes : List ℕ) (r : FrameRow) (rs : List FrameRow)
    (More : List (List Row) → Type 0) (events : List Event) →
    ((ess : List (List Row)) → More ess → AllPut ess → events ≡ unlisted_groups options ess) →
    (ess : List (List Row)) → AreSpan options bytes r rs → Begins r →
    Takes options bytes r rs More (is_code r.following) ess → ArePut ess →
    tabled_group options bytes (LeafLines r rs) ++ events ≡ unlisted_groups options ess
leaf-same options bytes r rs More events same ess are begins takes put =
    by line.name line.kind line.open_leaf first are_on
  where
    line : IsSpanLine options bytes r
    line = span-begins options bytes r rs are

    first : (leaf line.name).further r.on ≡ false
    first = line-further options bytes r line false begins

    are_on : (l : LeafName) → further_of l ≡ l → further_of line.name ≡ l → AllContinue l r rs
    are_on l same_name e = span-proceeds options bytes l r rs same_name are e

    -- of a leaf that is no code
    lone : (l : LeafName) → is_code r.following ≡ false → (l ≡ CodeFurther → ⊥) →
        (r.kind ≡ LeafRow CodeFurther → ⊥) → AllContinue l r rs →
        ((x : Row) (xs : List Row) → Fit options bytes x r → Pairs (Fit options bytes) xs rs → AllGo xs →
        events_by options x.role (x ∷ xs) ≡ span_by own r rs) →
        tabled_group options bytes (LeafLines r rs) ++ events ≡ unlisted_groups options ess
    lone l code other not_code proceeds group =
        ap₂ (λ (es fs : List Event). es ++ fs)
        (sym (lone-same options bytes l t.x r t.xs rs t.fit pairs proceeds other not_code
        (group t.x t.xs t.fit pairs puts.0.1)))
        (same t.following (subst (λ (l : List FrameRow). TakesEach (Fit options bytes) l More t.following)
        (following-false rs) t.more) puts.1)
        ∙ sym (ap (unlisted_groups options) t.same)
      where
        t : Taken (Fit options bytes) r (within_leaf false rs)
            (TakesEach (Fit options bytes) (following_leaf false rs) More) ess
        t =
            lines-taken (Fit options bytes) r (within_leaf false rs)
            (TakesEach (Fit options bytes) (following_leaf false rs) More) ess
            (subst (λ (c : Bool). Takes options bytes r rs More c ess) code takes)

        pairs : Pairs (Fit options bytes) t.xs rs
        pairs = subst (Pairs (Fit options bytes) t.xs) (within-false rs) t.pairs

        puts : ArePut ((t.x ∷ t.xs) ∷ t.following)
        puts = subst ArePut t.same put

    -- of code
    code : r.kind ≡ LeafRow CodeIndented → is_code r.following ≡ true → AllContinue CodeFurther r rs →
        tabled_group options bytes (LeafLines r rs) ++ events ≡ unlisted_groups options ess
    code kind held proceeds =
        ap (λ (l : List FrameRow). tabled_group options bytes (LeafLines r l) ++ events) (sym (inner-outer rs))
        ∙ code-same options bytes t.x r t.xs (inner own rs) (outer own rs) More events same t.following t.fit kind pairs
        puts.0.1 on (outer-none rs)
        (code-lines options bytes t.x r t.xs (inner own rs) (outer own rs) t.fit kind pairs puts.0.1
        (front-proceeds CodeFurther r (inner own rs) (outer own rs) on) (inner-ends rs) (outer-none rs))
        (last-fit options bytes t.x r t.xs (inner own rs) t.fit pairs)
        (code-ends options bytes t.x r t.xs (inner own rs) kind pairs (inner-ends rs))
        (subst (λ (l : List FrameRow). TakesEach (Fit options bytes) l More t.following)
        (following-true rs) t.more) puts.1
        ∙ sym (ap (unlisted_groups options) t.same)
      where
        t : Taken (Fit options bytes) r (within_leaf true rs)
            (TakesEach (Fit options bytes) (following_leaf true rs) More) ess
        t =
            lines-taken (Fit options bytes) r (within_leaf true rs)
            (TakesEach (Fit options bytes) (following_leaf true rs) More) ess
            (subst (λ (c : Bool). Takes options bytes r rs More c ess) held takes)

        pairs : Pairs (Fit options bytes) t.xs (inner own rs)
        pairs = subst (Pairs (Fit options bytes) t.xs) (within-true rs) t.pairs

        puts : ArePut ((t.x ∷ t.xs) ∷ t.following)
        puts = subst ArePut t.same put

        on : AllContinue CodeFurther r (inner own rs ++ outer own rs)
        on = subst (AllContinue CodeFurther r) (sym (inner-outer rs)) proceeds

    starts : (l : LeafName) → r.kind ≡ LeafRow l → (leaf l).starts options r.on line.is.rest ≡ true
    starts l kind = kind-starts options r.on line.is.rest l (sym line.is.kind ∙ kind)

    held : (l : LeafName) → r.kind ≡ LeafRow l → r.following ≡ (leaf l).holds options r.on line.is.rest
    held l kind = line.is.following ∙ ap (line_following options r.on line.is.rest) kind

    by : (l : LeafName) → r.kind ≡ LeafRow l → (leaf l).ends ≡ false → (leaf l).further r.on ≡ false →
        ((m : LeafName) → further_of m ≡ m → further_of l ≡ m → AllContinue m r rs) →
        tabled_group options bytes (LeafLines r rs) ++ events ≡ unlisted_groups options ess
    by CodeIndented kind several first proceeds =
        code kind (ap is_code (held CodeIndented kind)) (proceeds CodeFurther refl refl)
    by Fence kind several first proceeds =
        lone FenceFurther (ap is_code (held Fence kind)) (λ e. cc)
        (λ e. let bad : LeafRow Fence ≡ LeafRow CodeFurther = sym kind ∙ e in cc) (proceeds FenceFurther refl refl)
        (λ x xs fit pairs go. fence-group options bytes x r xs rs fit kind pairs go (proceeds FenceFurther refl refl))
    by HtmlFlow kind several first proceeds =
        lone HtmlFurther
        (ap is_code (held HtmlFlow kind) ∙ html-kinds (kind_begun line.is.rest) line.is.rest.bytes) (λ e. cc)
        (λ e. let bad : LeafRow HtmlFlow ≡ LeafRow CodeFurther = sym kind ∙ e in cc) (proceeds HtmlFurther refl refl)
        (λ x xs fit pairs go. html-group options bytes x r xs rs fit kind pairs go (proceeds HtmlFurther refl refl))
    by CodeFurther kind several first proceeds =
        let met = (and_parts (is_code r.on) (is_blank line.is.rest.bytes || nat_le 4 (indent line.is.rest))
        (starts CodeFurther kind)).0 in
        let bad : true ≡ false = sym met ∙ first in absurd (cc)
    by FenceFurther kind several first proceeds =
        let bad : true ≡ false = sym (starts FenceFurther kind) ∙ first in absurd (cc)
    by HtmlFurther kind several first proceeds =
        let met = (and_parts (is_html r.on) (not (ends_in_front r.on && is_blank line.is.rest.bytes))
        (starts HtmlFurther kind)).0 in
        let bad : true ≡ false = sym met ∙ first in absurd (cc)
    by HeadingSetext kind several first proceeds =
        absurd (setext-begins options r.on line.is.rest (starts HeadingSetext kind) first)
    by GfmTable kind several first proceeds =
        absurd (table-begins options r.on line.is.rest (starts GfmTable kind) first)
    by _ kind several first proceeds = absurd (cc)

-- A table.

tables-are : (options : ParseOptions) (bytes : List ℕ) (xs : List Row) (rs : List FrameRow) →
    Pairs (Fit options bytes) xs rs → AllGo xs → AreTableLines bytes xs rs
tables-are options bytes [] [] pairs proceeds = tt
tables-are options bytes (x ∷ xs) (r ∷ rs) pairs proceeds =
    (further-table options bytes x r pairs.0 proceeds.0, tables-are options bytes xs rs pairs.1 proceeds.1)
tables-are options bytes [] (r ∷ rs) pairs proceeds = absurd pairs
tables-are options bytes (x ∷ xs) [] pairs proceeds = absurd pairs

pub headed-same : (options : ParseOptions) (bytes : List ℕ) (x y : Row) (r next : FrameRow) (xs : List Row)
    (rs : List FrameRow) →
    Fit options bytes x r → Fit options bytes y next → Pairs (Fit options bytes) xs rs → IsPut (x ∷ y ∷ xs) →
    IsHead options bytes r next → AreSpan options bytes next rs →
    unlisted_group options (x ∷ y ∷ xs) ≡ tabled_group options bytes (Headed r next rs)
headed-same options bytes x y r next xs rs fit fits pairs put head are =
    group-same options bytes x (y ∷ xs) (Headed r next rs) fit
    (tails-same options bytes y next xs rs fits pairs
    (λ e. absurd
    (other-ends GfmTable next rs (λ k. cc)
    (λ k. let bad : LeafRow GfmTable ≡ LeafRow CodeFurther = sym kind ∙ k in cc) proceeds e)))
    (ap (λ (role : Role). events_by options role (x ∷ y ∷ xs)) (put.0.delimiter role)
    ∙ sym
    (table-walked bytes (with_front r.front x) y xs r next rs
    (headed-table options bytes r next rs (headed-is options bytes r next rs head are))
    (first-table options bytes x r fit, tables-are options bytes (y ∷ xs) (next ∷ rs) (fits, pairs) put.1)))
  where
    line : IsSpanLine options bytes next
    line = span-begins options bytes next rs are

    name : line.name ≡ GfmTable
    name = heads-table line.name (line-heads options bytes next line true head.heads)

    kind : next.kind ≡ LeafRow GfmTable
    kind = line.kind ∙ ap LeafRow name

    proceeds : AllContinue GfmTable next rs
    proceeds = span-proceeds options bytes GfmTable next rs refl are (ap further_of name)

    at : OpenText
    at = open_text (step (progress_of r.on) (trim_start head.is.rest.bytes)) (kept head.is.rest)

    role : y.role ≡ Delimiter
    role =
        text-further options bytes y next fits GfmTable kind
        (subst (λ (l : LeafName). (leaf l).further next.on ≡ true) name
        (line-further options bytes next line true head.further)) at
        (head.on ∙ head.is.following ∙ ap (line_following options r.on head.is.rest) head.text)
