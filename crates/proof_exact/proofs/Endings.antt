-- The name of the ending of a line after which a leaf ends: that of a blank line, or that of any other.
use Rattle.std.proofs.Common.{◌≡◌, ◌⊎◌, inl, inr, ℕ, zero, suc, ◌+◌, ◌-◌, ◌%◌, ◌≤◌, Bool, true, false, cond, ◌&&◌, ◌||◌}
use Rattle.std.proofs.Common.{List, [], ◌∷◌, ◌++◌, length, refl, sym, ap, ap₂, ◌∙◌, arith}
use Rattle.std.specs.Prelude.{◌==◌, not, Some, None}
use Rattle.std.proofs.lemmas.Bool.Decides.{nat_tests}
use Rattle.md_engine.specs.declared.configuration.ParseOptions.{ParseOptions}
use Rattle.md_engine.specs.declared.event.Name.TheVariants as n
use Rattle.md_engine.specs.declared.event.Point.{Point}
use Rattle.md_engine.specs.declared.tokenizer.held_leaf.HeldLeaf.TheVariants as held_leaf
use Rattle.proof_literal_laws.specs.Leaf.CodeIndented.{is_code}
use Rattle.proof_literal_laws.proofs.CodeIndented.Rows.{in-framed, row-in}
use Rattle.md_meaning.specs.Bytes.{is_end}
use Rattle.md_meaning.specs.Rest.{Rest, cut_tab, is_blank}
use Rattle.md_meaning.specs.State.{Leaf, NoLeaf, OpenCode, OpenFence, OpenHtml, OpenParagraph, OpenTable}
use Rattle.md_events.specs.Events.Places.{column_past, columns_from}
use Rattle.md_events.proofs.RestCells.{Cut}
use Rattle.md_events.specs.Exact.Places.{TextLine}
use Rattle.md_events.specs.Exact.Rows.{AfterCode, First, FirstText, Further, FurtherText, Head, Role, is_blank_role}
use Rattle.md_events.specs.Exact.Rows as exact
use Rattle.proof_exact.proofs.Tails.{last_ending}
use Rattle.proof_exact_lines.proofs.BeginsAt.{BeginsAt}
use Rattle.proof_frame.specs.EndingName.{ending_name}
use Rattle.proof_frame.specs.HeldLeaf.{has_lines, kind_of_leaf, may_continue, takes_lazy}
use Rattle.proof_frame.specs.LeafName.{CodeFurther, LeafName}
use Rattle.proof_frame.specs.Row.{BlankRow, LeafRow, Row, RowKind, TextRow, any_framed, ending_of, is_blank_by}
use Rattle.proof_frame.specs.Row.{is_empty_row, is_framed}
use Rattle.proof_frame.proofs.LeafLines.Rest.{row_unread}
use Rattle.md_registry.specs.Registry.{asked_first, leaf}
use Rattle.md_registry.proofs.Registry.{insider-none, laws}
use Rattle.proof_rows.specs.Rows.{stays_blank}
use Rattle.proof_rows.proofs.KindLemmas.{kind-filled, kind-starts}
use Rattle.proof_rows.proofs.RowFacts.{IsRow}
use Rattle.proof_rows.proofs.RowLeaf.{row-as}
use Rattle.proof_rows.proofs.Text.Parted.{text-nonblank}
use Rattle.proof_rows.proofs.ContainedLemmas.{lines-open}
use Rattle.proof_exact.proofs.GroupsMatch.{code-held}
use Rattle.proof_rows.proofs.KindRoles.{further_role, leaf_role}
use Rattle.proof_exact.proofs.RowRoles.{IsCode, following_code, code-further, code-is, further_rows, is_headed}
use Rattle.proof_exact.proofs.RowRoles.{row_role, row_role_by}

-- Whether nothing at all is on a line: each byte is a column at least.

column-more : (b c : ℕ) → c + 1 ≤ column_past b c
column-more b c = go (b == 9)
  where
    go : (t : Bool) → c + 1 ≤ cond t (c + (4 - c % 4)) (c + 1)
    go true = omega arith
    go false = omega arith

columns-more : (bytes : List ℕ) (c : ℕ) → c ≤ columns_from c bytes
columns-more [] c = omega arith
columns-more (b ∷ bs) c =
    let more = columns-more bs (column_past b c) in let some = column-more b c in omega (arith, more, some)

-- something is on a line if its rest is not blank
rest-filled : (r : Rest) → is_blank r.bytes ≡ false → is_end (cut_tab r.spaces ++ r.bytes) ≡ false
rest-filled r dark = go r.spaces r.bytes dark
  where
    go : (spaces : ℕ) (bytes : List ℕ) → is_blank bytes ≡ false → is_end (cut_tab spaces ++ bytes) ≡ false
    go (suc k) bytes e = refl
    go zero (b ∷ bytes) e = refl
    go zero [] e = cc

filled-line : (line : TextLine) (r : Rest) (p : Point) → BeginsAt line r p → is_blank r.bytes ≡ false →
    is_end line.bytes ≡ false
filled-line line r p at dark = ap is_end at.bytes_are ∙ go at.front
  where
    go : (front : List ℕ) → is_end (front ++ (cut_tab r.spaces ++ r.bytes)) ≡ false
    go (b ∷ front) = refl
    go [] = rest-filled r dark

-- a line that begins in the first column is empty just if its rest is, and begins there too
empty-line : (line : TextLine) (r : Rest) (p : Point) → BeginsAt line r p → line.column ≡ 0 →
    is_end line.bytes ≡ (is_end (cut_tab r.spaces ++ r.bytes) && (p.column == 1))
empty-line line r p at first =
    ap is_end at.bytes_are ∙ go at.front r.spaces r.bytes at.columns at.cut
  where
    go : (front : List ℕ) (spaces : ℕ) (bytes : List ℕ) → p.column ≡ columns_from line.column front + p.vs + 1 →
        Cut spaces p →
        is_end (front ++ (cut_tab spaces ++ bytes)) ≡ (is_end (cut_tab spaces ++ bytes) && (p.column == 1))
    go [] (suc k) bytes e cut = refl
    go [] zero (b ∷ bytes) e cut = refl
    go [] zero [] e cut = let one : (p.column == 1) ≡ true = grind (arith, nat_tests, e, cut, first) in sym one
    go (b ∷ front) (suc k) bytes e cut = refl
    go (b ∷ front) zero (c ∷ bytes) e cut = refl
    go (b ∷ front) zero [] e cut =
        let some = column-more b line.column in
        let more = columns-more front (column_past b line.column) in
        let far : (p.column == 1) ≡ false = grind (arith, nat_tests, e, some, more) in sym far

-- What a row has of it.

-- an empty row
row-empty : (options : ParseOptions) (bytes own : List ℕ) (row : Row) → (is : IsRow options bytes own row) →
    is_empty_row row ≡ is_end (cut_tab is.rest.spaces ++ is.rest.bytes)
row-empty options bytes own row is = go own is.size ∙ ap is_end is.line_is
  where
    go : (line : List ℕ) → row.end.index ≡ row.first.index + length line → is_empty_row row ≡ is_end line
    go [] size = grind (arith, nat_tests)
    go (b ∷ line) size = grind (arith, nat_tests)

filled-row : (options : ParseOptions) (bytes own : List ℕ) (row : Row) → (is : IsRow options bytes own row) →
    is_blank is.rest.bytes ≡ false → is_empty_row row ≡ false
filled-row options bytes own row is dark =
    row-empty options bytes own row is ∙ rest-filled is.rest dark

-- What is known of a line of the exact list, which begins where its row does.
pub record IsNamed (options : ParseOptions) (bytes : List ℕ) (x : exact.Row) (r : Row) : Type 0 where
  pub own : List ℕ
  pub is : IsRow options bytes own r
  pub rest : is.rest ≡ x.rest
  pub at : BeginsAt x.line is.rest r.first
  pub open_leaf : Leaf
  pub below : List Row
  pub role : x.role ≡ row_role options open_leaf is.rest r below
  pub met : may_continue r.on ≡ true → r.on ≡ kind_of_leaf open_leaf
  -- only the first line of a text may begin in another column than the first, and that continues no leaf
  pub first : may_continue r.on ≡ true → x.line.column ≡ 0

-- nothing is on a line of a leaf just if its row says so
nothing-valid : (options : ParseOptions) (bytes : List ℕ) (x : exact.Row) (r : Row) → IsNamed options bytes x r →
    (l : LeafName) → r.kind ≡ LeafRow l →
    is_end x.line.bytes ≡ (is_empty_row r && (r.first.column == 1))
nothing-valid options bytes x r is l kind = go (has_lines r.on) refl
  where
    go : (t : Bool) → has_lines r.on ≡ t → is_end x.line.bytes ≡ (is_empty_row r && (r.first.column == 1))
    go false e =
        let dark = kind-filled options r.on is.is.rest l (sym is.is.kind ∙ kind) (λ asked. none asked) in
        filled-line x.line is.is.rest r.first is.at dark
        ∙ ap (λ (t : Bool). t && (r.first.column == 1)) (sym (filled-row options bytes is.own r is.is dark))
      where
        none : asked_first r.on ≡ Some l → ⊥
        none asked = let bad : None ≡ Some l = sym (insider-none r.on e) ∙ asked in cc
    go true e =
        empty-line x.line is.is.rest r.first is.at (is.first (lines-open r.on e))
        ∙ ap (λ (t : Bool). t && (r.first.column == 1)) (sym (row-empty options bytes is.own r is.is))

-- Which lines are blank, though a leaf takes them: those after code.

stays-code : (l : LeafName) → (leaf l).stays_blank ≡ true → l ≡ CodeFurther
stays-code CodeFurther e = refl
stays-code _ e = cc

-- whether it is one after code that does not belong to it, or is not known to belong to it
abbrev pub IsLast : Role → Rest → RowKind → Type 0
IsLast role r kind = kind ≡ LeafRow CodeFurther → (is_blank r.bytes ≡ false) ⊎ (role ≡ AfterCode)

blank-leaf : (options : ParseOptions) (bytes : List ℕ) (x : exact.Row) (r : Row) → (is : IsNamed options bytes x r) →
    (l : LeafName) → r.kind ≡ LeafRow l → IsLast x.role is.is.rest r.kind →
    is_blank_role x.role ≡ ((leaf l).stays_blank && is_blank is.is.rest.bytes)
blank-leaf options bytes x r is l kind last = go (leaf l).stays_blank refl
  where
    rest : Rest
    rest = is.is.rest

    role : x.role ≡ following_code (leaf_role options is.open_leaf r.on rest l) r is.below
    role = is.role ∙ ap (row_role_by options is.open_leaf rest r is.below) kind

    starts : (leaf l).starts options r.on rest ≡ true
    starts = kind-starts options r.on rest l (sym is.is.kind ∙ kind)

    may : (leaf l).further r.on ≡ true → r.on ≡ kind_of_leaf is.open_leaf
    may further = is.met ((laws l).meets options r.on rest starts further)

    -- a line of code
    code : l ≡ CodeFurther → is_blank_role x.role ≡ is_blank rest.bytes
    code same = by (is_blank rest.bytes) refl
      where
        named : r.kind ≡ LeafRow CodeFurther
        named = kind ∙ ap LeafRow same

        is_on : is_code r.on ≡ true
        is_on =
            and-first (is_code r.on) _ (ap (λ (k : LeafName). (leaf k).starts options r.on rest) (sym same) ∙ starts)
          where
            and-first : (a b : Bool) → (a && b) ≡ true → a ≡ true
            and-first true b e = refl
            and-first false b e = cc

        on : r.on ≡ held_leaf.Code
        on = code-held r.on is_on

        opened : IsCode is.open_leaf
        opened = code-is is.open_leaf (sym (may (ap (λ (k : LeafName). (leaf k).further r.on) same ∙ is_on)) ∙ on)

        framed : is_framed r.inside ≡ not (is_blank rest.bytes)
        framed =
            in-framed bytes r (row-in options bytes r (row-as options bytes is.own r is.is CodeFurther named))

        by : (t : Bool) → is_blank rest.bytes ≡ t → is_blank_role x.role ≡ is_blank rest.bytes
        by true e = blank (last named)
          where
            blank : (is_blank rest.bytes ≡ false) ⊎ (x.role ≡ AfterCode) → is_blank_role x.role ≡ is_blank rest.bytes
            blank (inl dark) = let bad : true ≡ false = sym e ∙ dark in cc
            blank (inr following) = ap is_blank_role following ∙ sym e
        by false e =
            ap is_blank_role
            (role
            ∙ ap₂
            (λ (k : LeafName) (open_leaf : Leaf). following_code (leaf_role options open_leaf r.on rest k) r is.below)
            same opened.is
            ∙ ap
            (λ (t : Bool).
            following_code
            (cond t (Further (OpenCode opened.lines)) (First ((leaf CodeFurther).becomes options NoLeaf rest))) r
            is.below)
            is_on
            ∙ ap
            (λ (t : Bool).
            cond (t || any_framed row_unread (further_rows is.below)) (Further (OpenCode opened.lines)) AfterCode)
            (framed ∙ ap not e))
            ∙ sym e

    -- any other
    other : (leaf l).stays_blank ≡ false → (t : Bool) → (leaf l).further r.on ≡ t → (opened : Leaf) →
        is.open_leaf ≡ opened →
        is_blank_role
        (following_code (cond t (further_role opened (leaf l).heads) (First ((leaf l).becomes options NoLeaf rest))) r
        is.below) ≡
        false
    other none false e opened f = refl
    other none true e (OpenCode lines) f =
        let same = code-further l (ap (leaf l).further (sym (may e ∙ ap kind_of_leaf f)) ∙ e) in
        let bad : true ≡ false = sym (ap (λ (k : LeafName). (leaf k).stays_blank) same) ∙ none in
        cc
    other none true e (OpenParagraph lines) f = by (leaf l).heads
      where
        by : (h : Bool) → is_blank_role (following_code (further_role (OpenParagraph lines) h) r is.below) ≡ false
        by true = refl
        by false = refl
    other none true e NoLeaf f = refl
    other none true e (OpenFence o lines) f = refl
    other none true e (OpenHtml k lines) f = refl
    other none true e (OpenTable delimiter rows) f = refl

    go : (t : Bool) → (leaf l).stays_blank ≡ t → is_blank_role x.role ≡ (t && is_blank rest.bytes)
    go true e = code (stays-code l e)
    go false e = ap is_blank_role role ∙ other e ((leaf l).further r.on) refl is.open_leaf refl

-- So the ending after a leaf has the same name.
pub name-same : (options : ParseOptions) (bytes : List ℕ) (x : exact.Row) (r : Row) → (is : IsNamed options bytes x r) →
    IsLast x.role is.is.rest r.kind → last_ending x ≡ ending_of r.kind r
name-same options bytes x r is last = to (go r.kind refl)
  where
    rest : Rest
    rest = is.is.rest

    here : Bool
    here = is_blank_role x.role || is_end x.line.bytes

    to : here ≡ is_blank_by r.kind r → last_ending x ≡ ending_of r.kind r
    to e = ap (λ (t : Bool). cond t n.BlankLineEnding n.LineEnding) e ∙ by (is_blank_by r.kind r)
      where
        by : (t : Bool) → cond t n.BlankLineEnding n.LineEnding ≡ ending_name t
        by true = refl
        by false = refl

    role_by : (kind : RowKind) → r.kind ≡ kind → x.role ≡ row_role_by options is.open_leaf rest r is.below kind
    role_by kind e = is.role ∙ ap (row_role_by options is.open_leaf rest r is.below) e

    text : (h t : Bool) → is_blank_role (cond h Head (cond t FurtherText FirstText)) ≡ false
    text true t = refl
    text false true = refl
    text false false = refl

    go : (kind : RowKind) → r.kind ≡ kind → here ≡ is_blank_by r.kind r
    go BlankRow e =
        ap (λ (role : Role). is_blank_role role || is_end x.line.bytes) (role_by BlankRow e)
        ∙ sym (ap (λ (kind : RowKind). is_blank_by kind r) e)
    go (LeafRow l) e =
        ap₂ (λ (a b : Bool). a || b) (blank-leaf options bytes x r is l e last)
        (nothing-valid options bytes x r is l e)
        ∙ sym
        (ap (λ (kind : RowKind). is_blank_by kind r) e ∙ is.is.empty
        ∙ ap
        (λ (kind : RowKind).
        (stays_blank kind && is_blank rest.bytes) || (is_empty_row r && (r.first.column == 1))) e)
    go TextRow e =
        ap₂ (λ (a b : Bool). a || b)
        (ap is_blank_role (role_by TextRow e) ∙ text (is_headed is.below) (takes_lazy r.on))
        (filled-line x.line rest r.first is.at (text-nonblank options r.on rest (sym is.is.kind ∙ e)))
        ∙ sym (ap (λ (kind : RowKind). is_blank_by kind r) e)
