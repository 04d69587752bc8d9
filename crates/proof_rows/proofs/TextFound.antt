-- What a line does where text is open: it may turn what is left of the text after its definitions, make its last line
-- the head of a table, continue it, or begin a leaf after it.
use Rattle.std.proofs.Common.{◌≡◌, ℕ, Bool, true, false, cond, ◌&&◌, ◌||◌, List, [], ◌∷◌, ◌++◌, length, refl, ap}
use Rattle.std.proofs.Common.{ap₂, sym, ◌∙◌, subst}
use Rattle.std.specs.Prelude.{◌==◌, not, if◌then◌else◌, Option, Some, None}
use Rattle.std.specs.List.{list_all, list_any}
use Rattle.std.proofs.lemmas.Bool.{and_parts, eqb-true}
use Rattle.md_engine.specs.Progress.{is_whole}
use Rattle.md_engine.specs.declared.configuration.ParseOptions.{ParseOptions}
use Rattle.md_engine.specs.declared.tokenizer.held_leaf.HeldLeaf.{HeldLeaf}
use Rattle.md_engine.specs.declared.tokenizer.held_leaf.HeldLeaf.TheVariants as held_leaf
use Rattle.md_engine.specs.declared.tokenizer.held_leaf.OpenText.{OpenText}
use Rattle.md_meaning.specs.Ascii.{colon, equals_sign, hyphen, pipe}
use Rattle.md_meaning.specs.Definition.{cut_definitions}
use Rattle.md_meaning.specs.Leaves as definition
use Rattle.md_meaning.specs.Leaves.{LeafResult, Text, starts, table_at, underline_depth, underlined, underlined_by}
use Rattle.md_meaning.specs.Leaves.{with_line}
use Rattle.md_meaning.specs.Rest.{Rest, has_small_indent, is_blank, trim, trim_start}
use Rattle.md_meaning.specs.State.{ParagraphLine, Leaf, NoLeaf, OpenParagraph, Innermost, cut, shut_paragraph, texts}
use Rattle.md_meaning.specs.State.{then_block}
use Rattle.md_meaning.specs.Step.{became, row_or_text, spot_of, text_by, underline_or_text}
use Rattle.md_meaning.specs.Table.{delimiter_columns, is_delimiter, row_cells}
use Rattle.md_meaning.specs.Tree.{Blocks, Heading}
use Rattle.md_leaves.specs.HeadingSetext.{may_turn}
use Rattle.md_leaves.specs.HeadingSetextRule.{is_underline}
use Rattle.md_link_definitions.specs.Head.{head_columns}
use Rattle.md_link_definitions.specs.Progress.{is_none_left, progress}
use Rattle.md_link_definitions.proofs.ProgressLemmas.{progress-cut}
use Rattle.md_events.specs.Events.Spelled.{without_last}
use Rattle.md_tables.specs.GfmTable.{may_head}
use Rattle.md_tables.specs.GfmTableLine.{are_columns}
use Rattle.proof_leaf_laws.specs.Leaf.GfmTable.{table_leaf}
use Rattle.proof_leaf_laws.specs.Leaf.HeadingSetext.{depth_of, setext_leaf}
use Rattle.proof_frame.specs.Leaf.Paragraph.{open_lines}
use Rattle.proof_content_laws.specs.Defined.{then_front}
use Rattle.proof_frame.specs.LeafName.{GfmTable, HeadingSetext, LeafName}
use Rattle.proof_frame.specs.TextLines.{text_leaf}
use Rattle.md_registry.specs.Registry.{leaf}
use Rattle.proof_leaf_laws.proofs.GfmTable.Found.{KnowsHead, table-found}
use Rattle.md_registry.proofs.HeadingSetext.Found.{none-underlined, setext-found}
use Rattle.proof_rows.proofs.KindLemmas.{first-passes}
use Rattle.proof_frame.proofs.LastKept.{last-is}
use Rattle.md_registry.proofs.Dispatch.{result_of, leaf_at, lost-none, setext-taken, or_table, other-headless, other_at}
use Rattle.md_registry.proofs.Dispatch.{other_trials, others-found, table-last}
use Rattle.md_registry.proofs.Registry.{text-laws}
use Rattle.md_registry.proofs.UnderNames.{further-text}

-- what is held of these lines, and as what a lazy line meets it
abbrev pub text_on : List ParagraphLine → HeldLeaf
text_on lines = held_leaf.Text (open_lines lines)

abbrev pub lazy_on : List ParagraphLine → HeldLeaf
lazy_on lines = held_leaf.LazyText (open_lines lines)

-- The first leaf that starts where a line meets text and is no underline.
pub text-others : (options : ParseOptions) (at : OpenText) (r : Rest) → underline_depth options r ≡ None →
    setext_leaf.starts options (held_leaf.Text at) r ≡ false → is_blank r.bytes ≡ false →
    starts options Text r ≡ result_of options r (other_at options (held_leaf.Text at) r)
text-others options at r none unturned dark =
    others-found options (held_leaf.Text at) Text r refl unturned
    (go options.constructs.heading_setext (has_small_indent options r) (is_underline (trim_start r.bytes))
    (options.constructs.definition && is_whole at.progress) (none-underlined options r none)) dark
  where
    go : (x s u w : Bool) → (x && s && u) ≡ false → (s && (x && w) && u) ≡ false
    go true true true true e = cc
    go true true false true e = refl
    go false true u w e = refl
    go _ _ _ _ e = refl

-- where it may turn nothing no underline starts
pub unturned-setext : (options : ParseOptions) (on : HeldLeaf) (r : Rest) → may_turn options on ≡ false →
    setext_leaf.starts options on r ≡ false
unturned-setext options on r may =
    ap
    (λ (x : Bool).
    x && options.constructs.heading_setext && has_small_indent options r && is_underline (trim_start r.bytes)) may

-- An underline turns what is left of the text after the definitions at its front, where something is.
turned-all : (options : ParseOptions) (bs : Blocks) (lines : List ParagraphLine) (r : Rest) (depth : ℕ) →
    is_none_left (cut options (texts lines)).1 ≡ false →
    underlined options bs lines r depth ≡
    spot_of (then_block (then_front options bs (text_leaf.held lines)) (Heading depth (cut options (texts lines)).1))
unfolding underlined
turned-all options bs lines r depth = go (cut options (texts lines)).1
  where
    defined : Blocks
    defined = then_front options bs (text_leaf.held lines)

    go : (left : List (List ℕ)) → is_none_left left ≡ false →
        underlined_by bs lines r depth defined left ≡ spot_of (then_block defined (Heading depth left))
    go [] some = cc
    go (line ∷ left) some = refl

-- Whether something is, how far the definitions have come shows.
pub may-left : (options : ParseOptions) (k : ParagraphLine) (ks : List ParagraphLine) →
    may_turn options (text_on (k ∷ ks)) ≡ not (is_none_left (cut options (texts (k ∷ ks))).1)
may-left options k ks = go options.constructs.definition
  where
    lines : List (List ℕ)
    lines = texts (k ∷ ks)

    go : (x : Bool) →
        not (x && is_whole (progress lines)) ≡
        not (is_none_left (if x then cut_definitions lines else ([], lines)).1)
    go true = ap not (progress-cut lines)
    go false = refl

not-not : (x y : Bool) → x ≡ not y → (z : Bool) → x ≡ z → y ≡ not z
not-not x true e true k = cc
not-not x _ e _ k = cc

-- An underline with nothing to turn is one more line of the text.
turned-none : (options : ParseOptions) (bs : Blocks) (lines : List ParagraphLine) (r : Rest) (depth : ℕ) →
    is_none_left (cut options (texts lines)).1 ≡ true → underlined options bs lines r depth ≡ with_line bs lines r
unfolding underlined
turned-none options bs lines r depth = go (cut options (texts lines)).1
  where
    go : (left : List (List ℕ)) → is_none_left left ≡ true →
        underlined_by bs lines r depth (then_front options bs (text_leaf.held lines)) left ≡ with_line bs lines r
    go [] none = refl
    go (line ∷ left) none = cc

-- An underline is no delimiter row: neither a colon nor a pipe is in it.

abbrev divides : ℕ → Bool
divides b = (b == colon) || (b == pipe)

all-undivided : (m : ℕ) (bytes : List ℕ) → divides m ≡ false → list_all (λ c. c == m) bytes ≡ true →
    list_any divides bytes ≡ false
all-undivided m [] other all = refl
all-undivided m (b ∷ bytes) other all =
    let both = and_parts (b == m) (list_all (λ c. c == m) bytes) all in
    ap₂ (λ (x y : Bool). x || y) (ap divides (eqb-true b m both.0) ∙ other) (all-undivided m bytes other both.1)

run-undivided : (m : ℕ) (bytes : List ℕ) → divides m ≡ false → definition.is_run m bytes ≡ true →
    list_any divides bytes ≡ false
run-undivided m [] other is = cc
run-undivided m (b ∷ bytes) other is = all-undivided m (b ∷ bytes) other is

underlined-columns : (options : ParseOptions) (r : Rest) (depth : ℕ) → underline_depth options r ≡ Some depth →
    delimiter_columns (trim r.bytes) ≡ None
unfolding underline_depth delimiter_columns
underlined-columns options r depth e =
    go (options.constructs.heading_setext && has_small_indent options r) (definition.is_run equals_sign text) refl
    (definition.is_run hyphen text) refl e
  where
    text : List ℕ
    text = trim r.bytes

    none : list_any divides text ≡ false → delimiter_columns text ≡ None
    none k =
        ap
        (λ (x : Bool). cond (x && list_all is_delimiter (row_cells text)) (Some (length (row_cells text))) None) k

    go : (x y : Bool) → definition.is_run equals_sign text ≡ y → (z : Bool) → definition.is_run hyphen text ≡ z →
        cond x (cond y (Some 1) (cond z (Some 2) None)) None ≡ Some depth → delimiter_columns text ≡ None
    go true true p z q e = none (run-undivided equals_sign text refl p)
    go true false p true q e = none (run-undivided hyphen text refl q)
    go true false p false q e = cc
    go false y p z q e = cc

pub underlined-untabled : (options : ParseOptions) (at : OpenText) (r : Rest) (depth : ℕ) →
    underline_depth options r ≡ Some depth → table_leaf.starts options (held_leaf.Text at) r ≡ false
underlined-untabled options at r depth e =
    ap (λ (o : Option ℕ). may_head options at && has_small_indent options r && are_columns o at.columns)
    (underlined-columns options r depth e)
    ∙ none (may_head options at) (has_small_indent options r)
  where
    none : (x y : Bool) → (x && y && false) ≡ false
    none true true = refl
    none _ _ = refl

-- Where no underline starts, a leaf that starts and takes no head begins after the text.
pub following-text : (options : ParseOptions) (at : OpenText) (r : Rest) (l : LeafName) →
    setext_leaf.starts options (held_leaf.Text at) r ≡ false → other_at options (held_leaf.Text at) r ≡ Some l →
    (leaf l).further (held_leaf.Text at) ≡ false
following-text options at r l e found = go ((leaf l).further on) refl
  where
    on : HeldLeaf
    on = held_leaf.Text at

    go : (x : Bool) → (leaf l).further on ≡ x → x ≡ false
    go false proceeds = refl
    go true proceeds =
        let starts = first-passes (λ m. (leaf m).starts options on r) other_trials l found in
        let name : l ≡ HeadingSetext = further-text at l proceeds (other-headless options on r l found) in
        let bad : true ≡ false = sym starts ∙ ap (λ (m : LeafName). (leaf m).starts options on r) name ∙ e in
        cc

-- Of lines of text, the last, and those before it.

pub record Ended (lines : List ParagraphLine) : Type 0 where
  pub front : List ParagraphLine
  pub last : ParagraphLine
  pub is : lines ≡ front ++ last ∷ []

pub ended : (k : ParagraphLine) (ks : List ParagraphLine) → Ended (k ∷ ks)
ended k [] = record { front = []; last = k; is = refl }
ended k (next ∷ ks) =
    let more : Ended (next ∷ ks) = ended next ks in
    record { front = k ∷ more.front; last = more.last; is = ap (λ (l : List ParagraphLine). k ∷ l) more.is }

pub front-is : (lines : List ParagraphLine) (k : ParagraphLine) → without_last (lines ++ k ∷ []) ≡ lines
front-is [] k = refl
front-is (first ∷ []) k = refl
front-is (first ∷ next ∷ lines) k = ap (λ (l : List ParagraphLine). first ∷ l) (front-is (next ∷ lines) k)

-- what is held of them is right of the last
pub knows-head : (lines : List ParagraphLine) (k : ParagraphLine) → KnowsHead (open_lines (lines ++ k ∷ [])) k
knows-head lines k = record {
  columns = last-is (λ k. head_columns k.text) lines k;
  indent = last-is (λ k. k.indent) lines k;
}

-- What a line that is not blank does where text is open, by the leaf that takes it: it turns what is left of the text
-- after its definitions, or makes its last line a head, after what is read of the lines before that, or it begins a
-- leaf after the text.

abbrev pub front_before : Bool → ParseOptions → Blocks → Leaf → Blocks
front_before true options bs (OpenParagraph lines) = text_leaf.following options bs (texts (without_last lines))
front_before true options bs open_leaf = bs
front_before false options bs open_leaf = then_front options bs open_leaf

abbrev pub text_result : ParseOptions → Blocks → List ParagraphLine → Rest → Option LeafName → Innermost
text_result options bs lines r None = with_line bs lines r
text_result options bs lines r (Some l) =
    if (leaf l).further (text_on lines) then became (front_before (leaf l).heads options bs (text_leaf.held lines))
    ((leaf l).becomes options (text_leaf.held lines) r)
    else became (text_leaf.following options bs (texts lines)) ((leaf l).becomes options NoLeaf r)

-- where no other leaf starts, it is a delimiter row, or one more line of the text
table-became : (options : ParseOptions) (bs : Blocks) (k : ParagraphLine) (ks : List ParagraphLine) (r : Rest) →
    row_or_text bs (k ∷ ks) r (table_at options bs (k ∷ ks) r) ≡
    text_result options bs (k ∷ ks) r
    (cond (table_leaf.starts options (text_on (k ∷ ks)) r) (Some GfmTable) None)
table-became options bs k ks r = subst Done (sym is.is) (at_end is.front is.last)
  where
    is : Ended (k ∷ ks)
    is = ended k ks

    Done : List ParagraphLine → Type 0
    Done lines =
        row_or_text bs lines r (table_at options bs lines r) ≡
        text_result options bs lines r (cond (table_leaf.starts options (text_on lines) r) (Some GfmTable) None)

    at_end : (front : List ParagraphLine) (last : ParagraphLine) → Done (front ++ last ∷ [])
    at_end front last =
        ap (row_or_text bs lines r)
        (table-found options bs front last (open_lines lines) r (knows-head front last))
        ∙ go (table_leaf.starts options (text_on lines) r)
      where
        lines : List ParagraphLine
        lines = front ++ last ∷ []

        become : LeafResult
        become = table_leaf.becomes options (OpenParagraph lines) r

        go : (x : Bool) →
            row_or_text bs lines r (cond x (Some (became (shut_paragraph options bs (texts front)) become)) None) ≡
            text_result options bs lines r (cond x (Some GfmTable) None)
        go true =
            ap (λ (l : List ParagraphLine). became (shut_paragraph options bs (texts l)) become)
            (sym (front-is front last))
        go false = refl

pub text-becomes : (options : ParseOptions) (bs : Blocks) (k : ParagraphLine) (ks : List ParagraphLine) (r : Rest) →
    is_blank r.bytes ≡ false →
    underline_or_text options bs (k ∷ ks) r (underline_depth options r) ≡
    text_result options bs (k ∷ ks) r (leaf_at options (text_on (k ∷ ks)) r)
text-becomes options bs k ks r dark = go (may_turn options on) refl
  where
    lines : List ParagraphLine
    lines = k ∷ ks

    on : HeldLeaf
    on = text_on lines

    Done : Option ℕ → Type 0
    Done o = underline_or_text options bs lines r o ≡ text_result options bs lines r (leaf_at options on r)

    -- whether something is left
    left : (x : Bool) → may_turn options on ≡ x → is_none_left (cut options (texts lines)).1 ≡ not x
    left x e = not-not (may_turn options on) (is_none_left (cut options (texts lines)).1) (may-left options k ks) x e

    by : setext_leaf.starts options on r ≡ false → (o : Option LeafName) → other_at options on r ≡ o →
        text_by options bs lines r (result_of options r o) ≡
        text_result options bs lines r (or_table (table_leaf.starts options on r) o)
    by e None found = table-became options bs k ks r
    by e (Some l) found =
        ap (λ (x : Blocks). became x ((leaf l).becomes options NoLeaf r)) (text-laws.shut options bs lines)
        ∙ sym
        (ap
        (λ (x : Bool).
        cond x
        (became (front_before (leaf l).heads options bs (text_leaf.held lines))
        ((leaf l).becomes options (text_leaf.held lines) r))
        (became (text_leaf.following options bs (texts lines)) ((leaf l).becomes options NoLeaf r)))
        (following-text options (open_lines lines) r l e found))

    -- no underline is here
    other : underline_depth options r ≡ None → setext_leaf.starts options on r ≡ false → Done None
    other none e =
        ap (text_by options bs lines r) (text-others options (open_lines lines) r none e dark)
        ∙ by e (other_at options on r) refl
        ∙ ap (text_result options bs lines r) (sym (table-last options on r))

    -- one may turn the text
    turns : may_turn options on ≡ true → (x : Bool) → setext_leaf.starts options on r ≡ x →
        Done (underline_depth options r)
    turns may true e =
        ap (underline_or_text options bs lines r)
        (setext-found options on r may ∙ ap (λ (t : Bool). cond t (Some (depth_of r)) None) e)
        ∙ turned-all options bs lines r (depth_of r) (left true may)
        ∙ ap (text_result options bs lines r) (sym (setext-taken options on r e))
    turns may false e =
        let none : underline_depth options r ≡ None =
        setext-found options on r may ∙ ap (λ (t : Bool). cond t (Some (depth_of r)) None) e in
        ap (underline_or_text options bs lines r) none ∙ other none e

    -- nothing is left to turn
    turns_none : may_turn options on ≡ false → (o : Option ℕ) → underline_depth options r ≡ o →
        Done (underline_depth options r)
    turns_none may None none =
        ap (underline_or_text options bs lines r) none ∙ other none (unturned-setext options on r may)
    turns_none may (Some depth) found =
        ap (underline_or_text options bs lines r) found ∙ turned-none options bs lines r depth (left false may)
        ∙ ap (text_result options bs lines r)
        (sym
        (lost-none options (open_lines lines) r depth may found
        (underlined-untabled options (open_lines lines) r depth found)))

    go : (x : Bool) → may_turn options on ≡ x → Done (underline_depth options r)
    go true may = turns may (setext_leaf.starts options on r) refl
    go false may = turns_none may (underline_depth options r) refl
