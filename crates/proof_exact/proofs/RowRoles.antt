-- What the lines of a text are after their containers, where the line after each is known: text before a delimiter row
-- is the head of a table, and a blank line in code belongs to it only where a further line does.
use Rattle.std.proofs.Common.{◌≡◌, ℕ, Bool, true, false, cond, List, [], ◌∷◌, refl, ap, sym, ◌∙◌}
use Rattle.std.specs.Prelude.{◌&&◌, ◌||◌, not, if◌then◌else◌}
use Rattle.md_engine.specs.declared.configuration.ParseOptions.{ParseOptions}
use Rattle.md_engine.specs.declared.tokenizer.held_leaf.HeldLeaf.{HeldLeaf}
use Rattle.md_engine.specs.declared.tokenizer.held_leaf.HeldLeaf.TheVariants as held_leaf
use Rattle.md_meaning.specs.Rest.{Rest, is_blank}
use Rattle.md_meaning.specs.State.{Leaf, NoLeaf, OpenCode, OpenFence, OpenHtml, OpenParagraph, OpenTable}
use Rattle.md_meaning.specs.Step.{is_open_text}
use Rattle.md_meaning.specs.Tree.{Line}
use Rattle.md_events.specs.Exact.Rows.{AfterCode, Blank, Delimiter, First, FirstText, Further, FurtherText, Head, Role}
use Rattle.md_events.specs.Exact.Rows.{Underline, role_before}
use Rattle.proof_frame.specs.HeldLeaf.{kind_of_leaf, may_continue, takes_lazy}
use Rattle.proof_frame.specs.LeafName.{CodeFurther, LeafName}
use Rattle.proof_frame.specs.Row.{BlankRow, LeafRow, Row, RowKind, TextRow, any_framed, is_framed}
use Rattle.proof_frame.proofs.LeafLines.Rest.{row_unread}
use Rattle.proof_literal_laws.proofs.CodeIndented.Rows.{in-framed, row-in}
use Rattle.md_registry.specs.Registry.{leaf}
use Rattle.md_registry.proofs.Registry.{laws}
use Rattle.proof_rows.specs.Rows.{is_further, is_text, line_following, takes_head}
use Rattle.proof_rows.proofs.KindLemmas.{kind-starts}
use Rattle.proof_rows.proofs.RowFacts.{IsRow}
use Rattle.proof_rows.proofs.RowLeaf.{row-as}
use Rattle.proof_rows.proofs.KindRoles.{further_role, kind_role, leaf_role}

-- whether the first of these lines takes the line before it as its head
abbrev pub is_headed : List Row → Bool
is_headed [] = false
is_headed (next ∷ rows) = is_further next.kind next.on && takes_head next.kind

-- those of them that come first and continue a leaf
abbrev pub further_rows : List Row → List Row
further_rows [] = []
further_rows (row ∷ rows) = if is_further row.kind row.on then row ∷ further_rows rows else []

-- a line of code belongs to it if it or a further one is a pair of its own, as a line with text is
abbrev pub in_code : Row → List Row → Bool
in_code row rows = any_framed row_unread (row ∷ further_rows rows)

abbrev pub following_code : Role → Row → List Row → Role
following_code (Further (OpenCode lines)) row rows = if in_code row rows then Further (OpenCode lines) else AfterCode
following_code role row rows = role

-- what a line of any kind is before these, where this leaf is open before it
abbrev pub row_role_by : ParseOptions → Leaf → Rest → Row → List Row → RowKind → Role
row_role_by options open_leaf r row rows BlankRow = Blank
row_role_by options open_leaf r row rows (LeafRow l) =
    following_code (leaf_role options open_leaf row.on r l) row rows
row_role_by options open_leaf r row rows TextRow =
    if is_headed rows then Head else if takes_lazy row.on then FurtherText else FirstText

abbrev pub row_role : ParseOptions → Leaf → Rest → Row → List Row → Role
row_role options open_leaf r row rows = row_role_by options open_leaf r row rows row.kind

-- Roles by which what is before a line changes.

abbrev is_delimiter : Role → Bool
is_delimiter Delimiter = true
is_delimiter role = false

abbrev is_code_role : Role → Bool
is_code_role (Further (OpenCode lines)) = true
is_code_role role = false

-- a line that is no further line of code is a head, or what it is by itself
before-by : (next : Role) (r : Rest) (role : Role) → is_code_role role ≡ false →
    role_before next r role ≡ cond (is_delimiter next) Head role
before-by Delimiter r role e = refl
before-by (Further open_leaf) r role e = refl
before-by next r (Further (OpenCode lines)) e = cc
before-by _ r _ e = refl

following-other : (role : Role) (row : Row) (rows : List Row) → is_code_role role ≡ false →
    following_code role row rows ≡ role
following-other (Further (OpenCode lines)) row rows e = cc
following-other _ row rows e = refl

-- A line is a delimiter row only where text is open, and it takes a head.

no-heads : (x : Bool) → false ≡ (x && false)
no-heads true = refl
no-heads false = refl

delimiter-leaf : (open_leaf : Leaf) (further heads : Bool) (first : Role) (row : Row) (rows : List Row) →
    is_delimiter first ≡ false → is_code_role first ≡ false →
    is_delimiter (following_code (cond further (further_role open_leaf heads) first) row rows) ≡
    (is_open_text open_leaf && (further && heads))
delimiter-leaf open_leaf false heads first row rows other plain =
    ap is_delimiter (following-other first row rows plain) ∙ other ∙ no-heads (is_open_text open_leaf)
delimiter-leaf (OpenParagraph lines) true true first row rows other plain = refl
delimiter-leaf (OpenParagraph lines) true false first row rows other plain = refl
delimiter-leaf (OpenCode lines) true heads first row rows other plain = go (in_code row rows)
  where
    go : (x : Bool) → is_delimiter (cond x (Further (OpenCode lines)) AfterCode) ≡ false
    go true = refl
    go false = refl
delimiter-leaf NoLeaf true heads first row rows other plain = refl
delimiter-leaf (OpenFence o lines) true heads first row rows other plain = refl
delimiter-leaf (OpenHtml kind lines) true heads first row rows other plain = refl
delimiter-leaf (OpenTable delimiter cells) true heads first row rows other plain = refl

delimiter-by : (options : ParseOptions) (open_leaf : Leaf) (r : Rest) (row : Row) (rows : List Row) (kind : RowKind) →
    is_delimiter (row_role_by options open_leaf r row rows kind) ≡
    (is_open_text open_leaf && (is_further kind row.on && takes_head kind))
delimiter-by options open_leaf r row rows BlankRow = no-heads (is_open_text open_leaf)
delimiter-by options open_leaf r row rows (LeafRow l) =
    delimiter-leaf open_leaf ((leaf l).further row.on) (leaf l).heads
    (First ((leaf l).becomes options NoLeaf r)) row rows
    refl refl
delimiter-by options open_leaf r row rows TextRow =
    go (is_headed rows) (takes_lazy row.on) ∙ no-heads (is_open_text open_leaf)
  where
    go : (x y : Bool) → is_delimiter (cond x Head (cond y FurtherText FirstText)) ≡ false
    go true y = refl
    go false true = refl
    go false false = refl

-- What a further line of code is before a line, where code is open after it.
code-before : (options : ParseOptions) (lines : List Line) (r : Rest) (next : Row) (rows : List Row) (kind : RowKind)
    (s : Rest) (before : List Line) →
    role_before (row_role_by options (OpenCode lines) r next rows kind) s (Further (OpenCode before)) ≡
    cond (is_further kind next.on && in_code next rows) (Further (OpenCode before))
    (cond (is_blank s.bytes) AfterCode (Further (OpenCode before)))
code-before options lines r next rows BlankRow s before = refl
code-before options lines r next rows (LeafRow l) s before = go ((leaf l).further next.on)
  where
    within : (x : Bool) →
        role_before (cond x (Further (OpenCode lines)) AfterCode) s (Further (OpenCode before)) ≡
        cond x (Further (OpenCode before)) (cond (is_blank s.bytes) AfterCode (Further (OpenCode before)))
    within true = refl
    within false = refl

    go : (x : Bool) →
        role_before
        (following_code
        (cond x (further_role (OpenCode lines) (leaf l).heads) (First ((leaf l).becomes options NoLeaf r))) next rows) s
        (Further (OpenCode before)) ≡
        cond (x && in_code next rows) (Further (OpenCode before))
        (cond (is_blank s.bytes) AfterCode (Further (OpenCode before)))
    go true = within (in_code next rows)
    go false = refl
code-before options lines r next rows TextRow s before = go (is_headed rows) (takes_lazy next.on)
  where
    go : (x y : Bool) →
        role_before (cond x Head (cond y FurtherText FirstText)) s (Further (OpenCode before)) ≡
        cond (is_blank s.bytes) AfterCode (Further (OpenCode before))
    go true y = refl
    go false true = refl
    go false false = refl

-- What is known of the line after one that leaves this leaf open; these lines begin with it.
pub record IsNext (next : Role) (following : HeldLeaf) (rows : List Row) : Type 0 where
  pub delimiter : is_delimiter next ≡ (takes_lazy following && is_headed rows)
  pub code : following ≡ held_leaf.Code → (r : Rest) (lines : List Line) →
      role_before next r (Further (OpenCode lines)) ≡
      cond (any_framed row_unread (further_rows rows)) (Further (OpenCode lines))
      (cond (is_blank r.bytes) AfterCode (Further (OpenCode lines)))

-- none is
pub next-none : (following : HeldLeaf) → IsNext Blank following []
next-none following = record { delimiter = no-heads (takes_lazy following); code = λ e r lines. refl }

-- or this is one
text-open : (open_leaf : Leaf) → is_open_text open_leaf ≡ takes_lazy (kind_of_leaf open_leaf)
text-open (OpenParagraph lines) = refl
text-open NoLeaf = refl
text-open (OpenCode lines) = refl
text-open (OpenFence o lines) = refl
text-open (OpenHtml kind lines) = refl
text-open (OpenTable delimiter cells) = refl

pub record IsCode (open_leaf : Leaf) : Type 0 where
  pub lines : List Line
  pub is : open_leaf ≡ OpenCode lines

pub code-is : (open_leaf : Leaf) → kind_of_leaf open_leaf ≡ held_leaf.Code → IsCode open_leaf
code-is (OpenCode lines) e = record { lines = lines; is = refl }
code-is NoLeaf e = absurd (cc)
code-is (OpenParagraph lines) e = absurd (cc)
code-is (OpenFence o lines) e = absurd (cc)
code-is (OpenHtml kind lines) e = absurd (cc)
code-is (OpenTable delimiter cells) e = absurd (cc)

pub next-line : (options : ParseOptions) (open_leaf : Leaf) (r : Rest) (next : Row) (rows : List Row) →
    IsNext (row_role options open_leaf r next rows) (kind_of_leaf open_leaf) (next ∷ rows)
next-line options open_leaf r next rows = record {
  delimiter =
      delimiter-by options open_leaf r next rows next.kind
      ∙ ap (λ (x : Bool). x && (is_further next.kind next.on && takes_head next.kind)) (text-open open_leaf);
  code = code;
}
  where
    by : (x : Bool) → (x && in_code next rows) ≡ any_framed row_unread (cond x (next ∷ further_rows rows) [])
    by true = refl
    by false = refl

    code : kind_of_leaf open_leaf ≡ held_leaf.Code → (s : Rest) (lines : List Line) →
        role_before (row_role options open_leaf r next rows) s (Further (OpenCode lines)) ≡
        cond (any_framed row_unread (further_rows (next ∷ rows))) (Further (OpenCode lines))
        (cond (is_blank s.bytes) AfterCode (Further (OpenCode lines)))
    code e s lines =
        let is : IsCode open_leaf = code-is open_leaf e in
        ap (λ (l : Leaf). role_before (row_role options l r next rows) s (Further (OpenCode lines))) is.is
        ∙ code-before options is.lines r next rows next.kind s lines
        ∙ ap
        (λ (x : Bool).
        cond x (Further (OpenCode lines)) (cond (is_blank s.bytes) AfterCode (Further (OpenCode lines))))
        (by (is_further next.kind next.on))

-- What is known of a line that meets a leaf, where this one is open before it.
pub record MeetsLeaf (options : ParseOptions) (bytes : List ℕ) (open_leaf : Leaf) (row : Row) : Type 0 where
  pub line : List ℕ
  pub is : IsRow options bytes line row
  -- if it may continue what it meets, that is the open leaf
  pub met : may_continue row.on ≡ true → row.on ≡ kind_of_leaf open_leaf

-- text is open after it if it is text
pub following-lazy : (options : ParseOptions) (bytes line : List ℕ) (row : Row) → IsRow options bytes line row →
    takes_lazy row.following ≡ is_text row.kind
following-lazy options bytes line row is = ap takes_lazy is.following ∙ go row.kind
  where
    go : (kind : RowKind) → takes_lazy (line_following options row.on is.rest kind) ≡ is_text kind
    go BlankRow = refl
    go (LeafRow l) = ((laws l).not_lazy options row.on).1 is.rest
    go TextRow = refl

pub code-further : (l : LeafName) → (leaf l).further held_leaf.Code ≡ true → l ≡ CodeFurther
code-further CodeFurther e = refl
code-further _ e = cc

-- So it is before these lines what its kind says.
pub role-before : (options : ParseOptions) (bytes : List ℕ) (open_leaf : Leaf) (row : Row) (next : Role)
    (rows : List Row) → (meets : MeetsLeaf options bytes open_leaf row) → IsNext next row.following rows →
    role_before next meets.is.rest (kind_role options open_leaf row.on meets.is.rest row.kind) ≡
    row_role options open_leaf meets.is.rest row rows
role-before options bytes open_leaf row next rows meets known = go row.kind refl
  where
    is : IsRow options bytes meets.line row
    is = meets.is

    r : Rest
    r = is.rest

    -- whether a head ends here
    headed : (kind : RowKind) → row.kind ≡ kind → is_delimiter next ≡ (is_text kind && is_headed rows)
    headed kind e =
        known.delimiter
        ∙ ap (λ (x : Bool). x && is_headed rows)
        (following-lazy options bytes meets.line row is ∙ ap is_text e)

    -- a line of a leaf that is no further line of code
    other : (l : LeafName) → row.kind ≡ LeafRow l → (role : Role) → is_code_role role ≡ false →
        role_before next r role ≡ following_code role row rows
    other l e role plain =
        before-by next r role plain ∙ ap (λ (x : Bool). cond x Head role) (headed (LeafRow l) e)
        ∙ sym (following-other role row rows plain)

    -- one that is
    blank : (x y : Bool) (lines : List Line) →
        cond y (Further (OpenCode lines)) (cond x AfterCode (Further (OpenCode lines))) ≡
        cond (not x || y) (Further (OpenCode lines)) AfterCode
    blank true y lines = refl
    blank false true lines = refl
    blank false false lines = refl

    code : (l : LeafName) → row.kind ≡ LeafRow l → (leaf l).further row.on ≡ true → (lines : List Line) →
        open_leaf ≡ OpenCode lines →
        role_before next r (Further (OpenCode lines)) ≡ following_code (Further (OpenCode lines)) row rows
    code l e further lines same =
        let may = (laws l).meets options row.on r (kind-starts options row.on r l (sym is.kind ∙ e)) further in
        let on : row.on ≡ held_leaf.Code = meets.met may ∙ ap kind_of_leaf same in
        let name : l ≡ CodeFurther = code-further l (ap (leaf l).further (sym on) ∙ further) in
        let kind : row.kind ≡ LeafRow CodeFurther = e ∙ ap LeafRow name in
        let left : row.following ≡ held_leaf.Code = is.following ∙ ap (line_following options row.on r) kind in
        let framed : is_framed row.inside ≡ not (is_blank r.bytes) =
        in-framed bytes row (row-in options bytes row (row-as options bytes meets.line row is CodeFurther kind)) in
        known.code left r lines
        ∙ blank (is_blank r.bytes) (any_framed row_unread (further_rows rows)) lines
        ∙ ap
        (λ (x : Bool).
        cond (x || any_framed row_unread (further_rows rows)) (Further (OpenCode lines)) AfterCode)
        (sym framed)

    by_leaf : (l : LeafName) → row.kind ≡ LeafRow l → (leaf l).further row.on ≡ true → (opened : Leaf) →
        open_leaf ≡ opened → (heads : Bool) →
        role_before next r (further_role opened heads) ≡ following_code (further_role opened heads) row rows
    by_leaf l e further (OpenCode lines) same heads = code l e further lines same
    by_leaf l e further (OpenParagraph lines) same true = other l e Delimiter refl
    by_leaf l e further (OpenParagraph lines) same false = other l e Underline refl
    by_leaf l e further NoLeaf same heads = other l e (Further NoLeaf) refl
    by_leaf l e further (OpenFence o lines) same heads = other l e (Further (OpenFence o lines)) refl
    by_leaf l e further (OpenHtml kind lines) same heads = other l e (Further (OpenHtml kind lines)) refl
    by_leaf l e further (OpenTable delimiter cells) same heads = other l e (Further (OpenTable delimiter cells)) refl

    by_line : (l : LeafName) → row.kind ≡ LeafRow l → (x : Bool) → (leaf l).further row.on ≡ x →
        let role = cond x (further_role open_leaf (leaf l).heads) (First ((leaf l).becomes options NoLeaf r)) in
        role_before next r role ≡ following_code role row rows
    by_line l e true further = by_leaf l e further open_leaf refl (leaf l).heads
    by_line l e false further = other l e (First ((leaf l).becomes options NoLeaf r)) refl

    text : row.kind ≡ TextRow → (x : Bool) →
        role_before next r (cond x FurtherText FirstText) ≡ cond (is_headed rows) Head (cond x FurtherText FirstText)
    text e true =
        before-by next r FurtherText refl ∙ ap (λ (x : Bool). cond x Head FurtherText) (headed TextRow e)
    text e false = before-by next r FirstText refl ∙ ap (λ (x : Bool). cond x Head FirstText) (headed TextRow e)

    go : (kind : RowKind) → row.kind ≡ kind →
        role_before next r (kind_role options open_leaf row.on r kind) ≡ row_role_by options open_leaf r row rows kind
    go BlankRow e = before-by next r Blank refl ∙ ap (λ (x : Bool). cond x Head Blank) (headed BlankRow e)
    go (LeafRow l) e = by_line l e ((leaf l).further row.on) refl
    go TextRow e = text e (takes_lazy row.on)
