-- After a line that opens no container: what is the last block of the innermost container.
use Rattle.std.proofs.Common.{◌≡◌, ℕ, Bool, true, false, cond, ◌&&◌, List, [], ◌∷◌, ◌++◌, length, refl, ap, ap₂, sym}
use Rattle.std.proofs.Common.{subst, ◌∙◌}
use Rattle.std.specs.Prelude.{◌||◌, ◌==◌, nat_le, nat_lt, reverse, Option, Some, None}
use Rattle.std.specs.Option.{is_some}
use Rattle.md_engine.specs.declared.configuration.ParseOptions.{ParseOptions}
use Rattle.md_meaning.specs.Ascii.{dollar}
use Rattle.md_meaning.specs.Definition.{Cut, Defined, cut_definitions, definition_at}
use Rattle.md_meaning.specs.Html.{HtmlKind}
use Rattle.md_meaning.specs.Leaves.{Finished, LeafResult, NoText, Opened, ParagraphContext, Text, closes}
use Rattle.md_meaning.specs.Leaves.{code_continued, code_line, ends_at_blank, fence_continued, is_continued}
use Rattle.md_meaning.specs.Leaves.{html_continued, html_line, is_head_of, starts, table_at, table_by, table_continued}
use Rattle.md_meaning.specs.Leaves.{underline_depth, underlined, underlined_by, with_line}
use Rattle.md_meaning.specs.Rest.{Rest, has_small_indent, indent, is_blank, line_of, lose, trim}
use Rattle.md_meaning.specs.State.{Innermost, Leaf, NoLeaf, OpenCode, OpenFence, OpenHtml, OpenParagraph, OpenTable}
use Rattle.md_meaning.specs.State.{Opening, ParagraphLine, cut, fence_block, shut_paragraph, texts, then_block}
use Rattle.md_meaning.specs.State.{then_definitions, then_leaf, then_paragraph}
use Rattle.md_meaning.specs.Step.{became, fresh_by, fresh_line, leaf_line, leaf_line_by, on_or_fresh, row_or_text}
use Rattle.md_meaning.specs.Step.{spot_of, text_by, text_line, underline_or_text}
use Rattle.md_meaning.specs.Table.{delimiter_columns, row_cells}
use Rattle.md_meaning.specs.Tree.{Block, Blocks, Definition, End, Fence, Line, Math, More, Paragraph, Item}
use Rattle.md_meaning.proofs.DefinitionLemmas.{cut_definitions-none, cut_definitions-some}
use Rattle.md_meaning.proofs.FindsLemmas.{Finds, none-found, some-found, unless-found, when-found}
use Rattle.md_events.specs.Exact.Rows.{AfterCode, Blank, Delimiter, First, FirstText, Further, FurtherText, Role, Underline}
use Rattle.md_events.specs.Exact.Rows.{first_or, fresh_role, is_blank_role, role_on}
use Rattle.proof_exact_lines.specs.Last.{HasLine, item_of, last_after, last_in, last_of}
use Rattle.md_events.proofs.LeafBecomes.{Starts, html_line-starts, leaf-starts}

-- What a line brings.

-- no paragraph, and no item
abbrev pub IsBuilt : Leaf → Type 0
IsBuilt NoLeaf = ⊥
IsBuilt (OpenParagraph lines) = ⊥
IsBuilt leaf = Unit {0}

abbrev pub Becomes : LeafResult → Type 0
Becomes (Opened leaf) = IsBuilt leaf
Becomes (Finished block) = item_of block ≡ None

-- where a test passes, what is open
opened-when : (x : Bool) (leaf : Leaf) → IsBuilt leaf → Finds (cond x (Some (Opened leaf)) None) Becomes
opened-when x leaf h = when-found Becomes x (Some (Opened leaf)) (λ e. some-found Becomes (Opened leaf) h)

starts-become : (c : LeafResult) → Starts c → Becomes c
starts-become (Opened (OpenCode lines)) h = tt
starts-become (Opened (OpenFence o lines)) h = tt
starts-become (Opened (OpenHtml kind lines)) h = tt
starts-become (Opened _) h = absurd h
starts-become (Finished (Item marker digits bs)) h = absurd h
starts-become (Finished _) h = refl

pub starts-becomes : (options : ParseOptions) (against : ParagraphContext) (r : Rest) →
    Finds (starts options against r) Becomes
starts-becomes options against r = λ c e. starts-become c (leaf-starts options against r c e)

fence_block-becomes : (o : Opening) (lines : List Line) (closed : Bool) → item_of (fence_block o lines closed) ≡ None
fence_block-becomes o lines closed = go (o.marker == dollar)
  where
    go : (x : Bool) → item_of (cond x (Math o.meta lines closed) (Fence o.marker o.info o.meta lines closed)) ≡ None
    go true = refl
    go false = refl

fence_on-becomes : (options : ParseOptions) (o : Opening) (lines : List Line) (r : Rest) →
    Becomes (fence_continued options o lines r)
unfolding fence_continued
fence_on-becomes options o lines r = go (closes options o r)
  where
    go : (x : Bool) →
        Becomes
        (cond x (Finished (fence_block o lines true))
        (Opened (OpenFence o (lines ++ line_of (lose o.indent r) ∷ []))))
    go true = fence_block-becomes o lines true
    go false = tt

code_on-becomes : (lines : List Line) (r : Rest) → Finds (code_continued lines r) Becomes
unfolding code_continued
code_on-becomes lines r =
    opened-when (is_blank r.bytes || nat_le 4 (indent r)) (OpenCode (lines ++ code_line r ∷ [])) tt

html_on-becomes : (kind : HtmlKind) (lines : List Line) (r : Rest) → Finds (html_continued kind lines r) Becomes
unfolding html_continued
html_on-becomes kind lines r =
    unless-found Becomes (ends_at_blank kind && is_blank r.bytes) (Some (html_line kind lines r))
    (some-found Becomes (html_line kind lines r)
    (starts-become (html_line kind lines r) (html_line-starts kind lines r)))

table_on-becomes : (options : ParseOptions) (delimiter : List ℕ) (rows : List (List (List ℕ))) (r : Rest) →
    Finds (table_continued options delimiter rows r) Becomes
unfolding table_continued
table_on-becomes options delimiter rows r =
    let become : LeafResult = Opened (OpenTable delimiter (rows ++ row_cells r.bytes ∷ [])) in
    unless-found Becomes (is_blank r.bytes || is_some (starts options NoText r)) (Some become)
    (some-found Becomes become tt)

pub is_continued-becomes : (options : ParseOptions) (leaf : Leaf) (r : Rest) →
    Finds (is_continued options leaf r) Becomes
is_continued-becomes options NoLeaf r = none-found Becomes
is_continued-becomes options (OpenParagraph lines) r = none-found Becomes
is_continued-becomes options (OpenCode lines) r = code_on-becomes lines r
is_continued-becomes options (OpenFence o lines) r =
    some-found Becomes (fence_continued options o lines r) (fence_on-becomes options o lines r)
is_continued-becomes options (OpenHtml kind lines) r = html_on-becomes kind lines r
is_continued-becomes options (OpenTable delimiter rows) r = table_on-becomes options delimiter rows r

-- Blocks.

pub last-then : (bs : Blocks) (b : Block) → last_of (then_block bs b) ≡ item_of b
last-then End b = refl
last-then (More a End) b = refl
last-then (More a (More next bs)) b = last-then (More next bs) b

-- a leaf that ends leaves a block, which is no item
definitions-last : (bs : Blocks) (ds : List Defined) → last_of bs ≡ None → last_of (then_definitions bs ds) ≡ None
definitions-last bs [] e = e
definitions-last bs (d ∷ ds) e = definitions-last (then_block bs _) ds (last-then bs _)

text-last : (bs : Blocks) (d : List Defined) (remaining : List (List ℕ)) → (last_of (then_definitions bs d) ≡ None) →
    last_of (then_paragraph (then_definitions bs d) remaining) ≡ None
text-last bs d [] e = e
text-last bs d (line ∷ lines) e = last-then (then_definitions bs d) _

cut-last : (options : ParseOptions) (bs : Blocks) (line : List ℕ) (lines : List (List ℕ)) →
    let c = cut options (line ∷ lines) in last_of (then_paragraph (then_definitions bs c.0) c.1) ≡ None
cut-last options bs line lines = go options.constructs.definition
  where
    Of : List Defined × List (List ℕ) → Type 0
    Of c = last_of (then_paragraph (then_definitions bs c.0) c.1) ≡ None

    defined : (first : Option Cut) → definition_at (line ∷ lines) ≡ first → Of (cut_definitions (line ∷ lines))
    defined None e = subst Of (sym (cut_definitions-none (line ∷ lines) e)) (last-then bs (Paragraph (line ∷ lines)))
    defined (Some first) e =
        let d = first.defined in
        let b : Block = Definition d.label d.destination d.title in
        subst Of (sym (cut_definitions-some (line ∷ lines) first e))
        (text-last (then_block bs b) (cut_definitions first.rest).0 (cut_definitions first.rest).1
        (definitions-last (then_block bs b) (cut_definitions first.rest).0 (last-then bs b)))

    go : (x : Bool) → Of (cond x (cut_definitions (line ∷ lines)) ([], line ∷ lines))
    go true = defined (definition_at (line ∷ lines)) refl
    go false = last-then bs (Paragraph (line ∷ lines))

pub paragraph-last : (options : ParseOptions) (bs : Blocks) (lines : List ParagraphLine) →
    HasLine (OpenParagraph lines) → last_of (then_leaf options bs (OpenParagraph lines)) ≡ None
unfolding shut_paragraph
paragraph-last options bs [] h = absurd h
paragraph-last options bs (line ∷ lines) h = cut-last options bs line.text (texts lines)

-- and so does any other
pub leaf-last : (options : ParseOptions) (bs : Blocks) (leaf : Leaf) → HasLine leaf →
    last_of (then_leaf options bs leaf) ≡ last_after leaf bs
leaf-last options bs NoLeaf h = refl
leaf-last options bs (OpenParagraph lines) h = paragraph-last options bs lines h
leaf-last options bs (OpenCode lines) h = last-then bs _
leaf-last options bs (OpenFence o lines) h = last-then bs _ ∙ fence_block-becomes o lines false
leaf-last options bs (OpenHtml kind lines) h = last-then bs _
leaf-last options bs (OpenTable delimiter rows) h = last-then bs _

-- What is innermost after a line.

-- the last block there is no item, and an open paragraph has a line
pub record Ends (s : Innermost) : Type 0 where
  pub last : last_in s ≡ None
  pub text : HasLine s.leaf

pub became-ends : (bs : Blocks) (c : LeafResult) → Becomes c → Ends (became bs c)
became-ends bs (Opened NoLeaf) h = absurd h
became-ends bs (Opened (OpenParagraph lines)) h = absurd h
became-ends bs (Opened leaf) h = record { last = refl; text = tt }
became-ends bs (Finished block) h = record { last = last-then bs block ∙ h; text = tt }

line-ends : (bs : Blocks) (lines : List ParagraphLine) (r : Rest) → Ends (with_line bs lines r)
line-ends bs [] r = record { last = refl; text = tt }
line-ends bs (line ∷ lines) r = record { last = refl; text = tt }

fresh-by : (options : ParseOptions) (bs : Blocks) (r : Rest) (c : Option LeafResult) → Finds c Becomes →
    Ends (fresh_by bs r c)
fresh-by options bs r None h = line-ends bs [] r
fresh-by options bs r (Some c) h = became-ends bs c (h c refl)

-- of a line after these blocks
pub fresh-ends : (options : ParseOptions) (bs : Blocks) (r : Rest) → is_blank r.bytes ≡ false →
    Ends (fresh_line options bs r)
unfolding fresh_line
fresh-ends options bs r e =
    subst (λ (x : Bool). Ends (cond x (spot_of bs) (fresh_by bs r (starts options NoText r)))) (sym e)
    (fresh-by options bs r (starts options NoText r) (starts-becomes options NoText r))

pub fresh-blank : (options : ParseOptions) (bs : Blocks) (r : Rest) → is_blank r.bytes ≡ true →
    fresh_line options bs r ≡ spot_of bs
unfolding fresh_line
fresh-blank options bs r e = ap (λ (x : Bool). cond x (spot_of bs) (fresh_by bs r (starts options NoText r))) e

-- Where text is open.

underlined-by : (bs : Blocks) (lines : List ParagraphLine) (r : Rest) (depth : ℕ) (c : List Defined × List (List ℕ)) →
    Ends (underlined_by bs lines r depth (then_definitions bs c.0) c.1)
underlined-by bs lines r depth (ds, []) = line-ends bs lines r
underlined-by bs lines r depth (ds, line ∷ remaining) =
    record { last = last-then (then_definitions bs ds) _; text = tt }

table-ends : (options : ParseOptions) (bs : Blocks) (lines : List ParagraphLine) (r : Rest) →
    Finds (table_at options bs lines r) Ends
unfolding table_at
table-ends options bs lines r =
    when-found Ends (options.constructs.gfm_table && has_small_indent options r)
    (table_by options bs (reverse lines) (trim r.bytes) (delimiter_columns (trim r.bytes)))
    (λ e. by (reverse lines) (delimiter_columns (trim r.bytes)))
  where
    by : (before : List ParagraphLine) (columns : Option ℕ) →
        Finds (table_by options bs before (trim r.bytes) columns) Ends
    by [] columns = none-found Ends
    by (k ∷ before) None = none-found Ends
    by (k ∷ before) (Some columns) =
        let s : Innermost = record {
          here = shut_paragraph options bs (texts (reverse before));
          leaf = OpenTable (trim r.bytes) (row_cells k.text ∷ []);
        } in
        when-found Ends (is_head_of options k columns) (Some s)
        (λ e. some-found Ends s (record { last = refl; text = tt }))

row-ends : (bs : Blocks) (lines : List ParagraphLine) (r : Rest) (o : Option Innermost) → Finds o Ends →
    Ends (row_or_text bs lines r o)
row-ends bs lines r None h = line-ends bs lines r
row-ends bs lines r (Some s) h = h s refl

text-by : (options : ParseOptions) (bs : Blocks) (lines : List ParagraphLine) (r : Rest) (c : Option LeafResult) →
    Finds c Becomes → Ends (text_by options bs lines r c)
text-by options bs lines r None h = row-ends bs lines r (table_at options bs lines r) (table-ends options bs lines r)
text-by options bs lines r (Some c) h = became-ends (then_leaf options bs (OpenParagraph lines)) c (h c refl)

depth-ends : (options : ParseOptions) (bs : Blocks) (lines : List ParagraphLine) (r : Rest) (depth : Option ℕ) →
    Ends (underline_or_text options bs lines r depth)
unfolding underlined
depth-ends options bs lines r None =
    text-by options bs lines r (starts options Text r) (starts-becomes options Text r)
depth-ends options bs lines r (Some depth) = underlined-by bs lines r depth (cut options (texts lines))

text-blank : (options : ParseOptions) (bs : Blocks) (lines : List ParagraphLine) (r : Rest) → is_blank r.bytes ≡ true →
    text_line options bs lines r ≡ spot_of (then_leaf options bs (OpenParagraph lines))
unfolding text_line
text-blank options bs lines r e =
    ap
    (λ (x : Bool).
    cond x (spot_of (then_leaf options bs (OpenParagraph lines)))
    (underline_or_text options bs lines r (underline_depth options r)))
    e

text-ends : (options : ParseOptions) (bs : Blocks) (lines : List ParagraphLine) (r : Rest) → is_blank r.bytes ≡ false →
    Ends (text_line options bs lines r)
unfolding text_line
text-ends options bs lines r e =
    subst
    (λ (x : Bool).
    Ends
    (cond x (spot_of (then_leaf options bs (OpenParagraph lines)))
    (underline_or_text options bs lines r (underline_depth options r))))
    (sym e) (depth-ends options bs lines r (underline_depth options r))

-- Any line.

-- one that continues the leaf that is open
on-ends : (options : ParseOptions) (s : Innermost) (r : Rest) (o : Option LeafResult) → Finds o Becomes →
    is_some o ≡ true → Ends (on_or_fresh options s r o)
on-ends options s r None h e = absurd (cc)
on-ends options s r (Some c) h e = became-ends s.here c (h c refl)

pub further-ends : (options : ParseOptions) (s : Innermost) (r : Rest) →
    is_some (is_continued options s.leaf r) ≡ true →
    Ends (leaf_line options s r)
further-ends options s r e = go s.leaf refl
  where
    proceeds : Leaf → Bool
    proceeds leaf = is_some (is_continued options leaf r)

    on : (leaf : Leaf) → s.leaf ≡ leaf → Ends (on_or_fresh options s r (is_continued options leaf r))
    on leaf l = on-ends options s r (is_continued options leaf r) (is_continued-becomes options leaf r)
        (ap proceeds (sym l) ∙ e)

    go : (leaf : Leaf) → s.leaf ≡ leaf → Ends (leaf_line_by options s r leaf)
    go NoLeaf l = let none : proceeds NoLeaf ≡ true = ap proceeds (sym l) ∙ e in absurd (cc)
    go (OpenParagraph lines) l = let none : proceeds (OpenParagraph lines) ≡ true = ap proceeds (sym l)
        ∙ e in absurd (cc)
    go (OpenCode lines) l = on (OpenCode lines) l
    go (OpenFence o lines) l = on (OpenFence o lines) l
    go (OpenHtml kind lines) l = on (OpenHtml kind lines) l
    go (OpenTable delimiter rows) l = on (OpenTable delimiter rows) l

-- one that does not: blank, or any other
record Unmet (options : ParseOptions) (s : Innermost) (r : Rest) (after : Innermost) : Type 0 where
  blank : is_blank r.bytes ≡ true → after ≡ spot_of (then_leaf options s.here s.leaf)
  other : is_blank r.bytes ≡ false → Ends after

unmet-closed : (options : ParseOptions) (s : Innermost) (r : Rest) (o : Option LeafResult) → is_some o ≡ false →
    Unmet options s r (on_or_fresh options s r o)
unmet-closed options s r (Some c) e = absurd (cc)
unmet-closed options s r None e = record {
  blank = λ b. fresh-blank options (then_leaf options s.here s.leaf) r b;
  other = λ b. fresh-ends options (then_leaf options s.here s.leaf) r b;
}

unmet-line : (options : ParseOptions) (s : Innermost) (r : Rest) (leaf : Leaf) → HasLine leaf →
    is_some (is_continued options leaf r) ≡ false → s.leaf ≡ leaf → Unmet options s r (leaf_line_by options s r leaf)
unmet-line options s r NoLeaf h e l = record {
  blank = λ b. fresh-blank options s.here r b ∙ ap (λ (x : Leaf). spot_of (then_leaf options s.here x)) (sym l);
  other = λ b. fresh-ends options s.here r b;
}
unmet-line options s r (OpenParagraph lines) h e l = record {
  blank = λ b. text-blank options s.here lines r b ∙ ap (λ (x : Leaf). spot_of (then_leaf options s.here x)) (sym l);
  other = λ b. text-ends options s.here lines r b;
}
unmet-line options s r (OpenCode lines) h e l = unmet-closed options s r (is_continued options (OpenCode lines) r) e
unmet-line options s r (OpenFence o lines) h e l = unmet-closed options s r
    (is_continued options (OpenFence o lines) r) e
unmet-line options s r (OpenHtml kind lines) h e l =
    unmet-closed options s r (is_continued options (OpenHtml kind lines) r) e
unmet-line options s r (OpenTable delimiter rows) h e l =
    unmet-closed options s r (is_continued options (OpenTable delimiter rows) r) e

-- What a line is.

first-cases : (P : Role → Type 0) (o : Option LeafResult) → Finds o (λ (c : LeafResult). P (First c)) → (role : Role) →
    P role → P (first_or role o)
first-cases P None first role h = h
first-cases P (Some c) first role h = first c refl

-- one that continues no leaf and is not blank
pub fresh-cases : (P : Role → Type 0) (options : ParseOptions) (leaf : Leaf) (r : Rest) →
    ((against : ParagraphContext) → Finds (starts options against r) (λ (c : LeafResult). P (First c))) →
    P FirstText → P FurtherText → P Underline → P Delimiter → P (fresh_role options leaf r)
fresh-cases P options (OpenParagraph lines) r first text further under row =
    go (is_some (underline_depth options r)) (nat_lt 0 (length (cut options (texts lines)).1))
    (is_some (table_at options End lines r))
  where
    last : (z : Bool) → P (cond z Delimiter FurtherText)
    last true = row
    last false = further

    go : (x y z : Bool) →
        P
        (cond x (cond y Underline FurtherText) (first_or (cond z Delimiter FurtherText) (starts options Text r)))
    go true true z = under
    go true false z = further
    go false y z = first-cases P (starts options Text r) (first Text) (cond z Delimiter FurtherText) (last z)
fresh-cases P options NoLeaf r first text further under row =
    first-cases P (starts options NoText r) (first NoText) FirstText text
fresh-cases P options (OpenCode lines) r first text further under row =
    first-cases P (starts options NoText r) (first NoText) FirstText text
fresh-cases P options (OpenFence o lines) r first text further under row =
    first-cases P (starts options NoText r) (first NoText) FirstText text
fresh-cases P options (OpenHtml kind lines) r first text further under row =
    first-cases P (starts options NoText r) (first NoText) FirstText text
fresh-cases P options (OpenTable delimiter rows) r first text further under row =
    first-cases P (starts options NoText r) (first NoText) FirstText text

-- what is open after a line that is this: no leaf after a blank one, and code after one of code
abbrev pub IsCode : Leaf → Type 0
IsCode (OpenCode lines) = Unit {0}
IsCode leaf = ⊥

abbrev pub Leaves : Role → Leaf → Type 0
Leaves Blank leaf = leaf ≡ NoLeaf
Leaves AfterCode leaf = leaf ≡ NoLeaf
Leaves (Further (OpenCode lines)) leaf = IsCode leaf
Leaves role leaf = Unit {0}

further-leaves : (options : ParseOptions) (s : Innermost) (r : Rest) (leaf : Leaf) →
    is_some (is_continued options leaf r) ≡ true → Leaves (Further leaf) (leaf_line_by options s r leaf).leaf
unfolding code_continued
further-leaves options s r (OpenCode lines) e = go (is_blank r.bytes || nat_le 4 (indent r)) e
  where
    go : (x : Bool) →
        is_some (cond x (Some (Opened (OpenCode (lines ++ code_line r ∷ [])))) None) ≡ true →
        IsCode (on_or_fresh options s r (cond x (Some (Opened (OpenCode (lines ++ code_line r ∷ [])))) None)).leaf
    go true e = tt
    go false e = absurd (cc)
further-leaves options s r NoLeaf e = tt
further-leaves options s r (OpenParagraph lines) e = tt
further-leaves options s r (OpenFence o lines) e = tt
further-leaves options s r (OpenHtml kind lines) e = tt
further-leaves options s r (OpenTable delimiter rows) e = tt

-- what is innermost after a line that meets this: a blank line leaves the last block as it is
pub record Met (options : ParseOptions) (s : Innermost) (r : Rest) : Type 0 where
  pub last : last_in (leaf_line options s r)
      ≡ cond (is_blank_role (role_on options s.leaf r)) (last_in s) None
  pub text : HasLine (leaf_line options s r).leaf
  pub leaves : Leaves (role_on options s.leaf r) (leaf_line options s r).leaf

pub meets : (options : ParseOptions) (s : Innermost) (r : Rest) → HasLine s.leaf → Met options s r
meets options s r h = go (is_some (is_continued options s.leaf r)) refl (is_blank r.bytes) refl
  where
    role : Bool → Bool → Role
    role x y = cond x (Further s.leaf) (cond y Blank (fresh_role options s.leaf r))

    by : (x y : Bool) → is_some (is_continued options s.leaf r) ≡ x → is_blank r.bytes ≡ y →
        role_on options s.leaf r ≡ role x y
    by x y e b = ap₂ role e b

    ends : (x y : Bool) → is_some (is_continued options s.leaf r) ≡ x → is_blank r.bytes ≡ y →
        is_blank_role (role x y) ≡ false → Leaves (role x y) (leaf_line options s r).leaf →
        Ends (leaf_line options s r) → Met options s r
    ends x y e b filled leaves is = record {
      last = is.last ∙ sym (ap (λ (z : Bool). cond z (last_in s) None) (ap is_blank_role (by x y e b) ∙ filled));
      text = is.text;
      leaves = subst (λ (a : Role). Leaves a (leaf_line options s r).leaf) (sym (by x y e b)) leaves;
    }

    go : (x : Bool) → is_some (is_continued options s.leaf r) ≡ x → (y : Bool) → is_blank r.bytes ≡ y → Met options s r
    go true e y b =
        ends true y e b refl (further-leaves options s r s.leaf e) (further-ends options s r e)
    go false e true b =
        let is : leaf_line options s r ≡ spot_of (then_leaf options s.here s.leaf) =
        (unmet-line options s r s.leaf h e refl).blank b in
        record {
          last =
              ap last_in is ∙ leaf-last options s.here s.leaf h
              ∙ sym (ap (λ (z : Bool). cond z (last_in s) None) (ap is_blank_role (by false true e b)));
          text = subst (λ (t : Innermost). HasLine t.leaf) (sym is) tt;
          leaves =
              subst (λ (a : Role). Leaves a (leaf_line options s r).leaf) (sym (by false true e b))
              (ap (λ (t : Innermost). t.leaf) is);
        }
    go false e false b =
        ends false false e b
        (fresh-cases (λ (a : Role). is_blank_role a ≡ false) options s.leaf r (λ against c e. refl) refl refl refl refl)
        (fresh-cases (λ (a : Role). Leaves a (leaf_line options s r).leaf) options s.leaf r (λ against c e. tt) tt tt
        tt tt)
        ((unmet-line options s r s.leaf h e refl).other b)
