-- A quote that a marker gives a kind: its line is the last that is shown as long as nothing in the quote is, since the
-- lines of its blocks are deeper.
use Rattle.std.proofs.Common.{◌≡◌, ℕ, ◌+◌, ◌≤◌, Bool, true, false, cond, ◌==◌, List, [], ◌∷◌, ◌++◌, refl, sym, ◌∙◌, ap}
use Rattle.std.proofs.Common.{append-nil, arith}
use Rattle.std.specs.Prelude.{Option, Some, None}
use Rattle.std.proofs.lemmas.Bool.{eq-eqb, eqb-true}
use Rattle.md_meaning.specs.declared.alert.AlertKind.{AlertKind}
use Rattle.md_meaning.specs.declared.outline.Word.{Word}
use Rattle.md_meaning.specs.declared.outline.Word.TheVariants as word
use Rattle.md_meaning.specs.Outline.{Entry, block_entries, entries, entry, entry_with, line_entries, outline}
use Rattle.md_meaning.specs.Outline.{part_entry, row_entries, rows_entries, table_entries, title_entries}
use Rattle.md_meaning.specs.State.{then_block}
use Rattle.md_meaning.specs.Tree.{Block, Blocks, Code, Definition, End, Fence, Footnote, Frontmatter, Heading}
use Rattle.md_meaning.specs.Tree.{Html, Item, Line, ListOf, Math, More, Paragraph, Quote, Table}
use Rattle.md_events.specs.Events.Spelled.{FootnoteShape, ItemShape, OpenContainer, OrderedShape, QuoteShape, Shape}
use Rattle.md_events.specs.Events.Spelled.{UnorderedShape, block_around, list_marker, on_last, on_shape, with_kind}
use Rattle.md_outline.specs.AlertState.{alert_word, kind_given, line_given}
use Rattle.md_outline.proofs.ClosedTrees.{HasWord, HaveWords, SameWord, depth_of, first-word, fronts, fronts-same}
use Rattle.md_outline.proofs.ClosedTrees.{list_word, opening, shown, shown-fronts, words-renamed}
use Rattle.md_outline.proofs.LinedLines.{on-last}

-- Lines of a depth, or deeper ones.

abbrev Deep : ℕ → List Entry → Type 0
Deep depth [] = Unit {0}
Deep depth (line ∷ lines) = (depth ≤ line.depth) × Deep depth lines

deep-append : (depth : ℕ) (xs ys : List Entry) → Deep depth xs → Deep depth ys → Deep depth (xs ++ ys)
deep-append depth [] ys h k = k
deep-append depth (x ∷ xs) ys h k = (h.0, deep-append depth xs ys h.1 k)

deep-entries : (depth d : ℕ) (w : Word) (texts : List (List ℕ)) → depth ≤ d → Deep depth (entries d w texts)
deep-entries depth d w [] le = tt
deep-entries depth d w (text ∷ texts) le = (le, deep-entries depth d w texts le)

deep-lines : (depth d : ℕ) (lines : List Line) → depth ≤ d → Deep depth (line_entries d lines)
deep-lines depth d [] le = tt
deep-lines depth d (line ∷ lines) le = (le, deep-lines depth d lines le)

deep-part : (depth d : ℕ) (w : Word) (text : Option (List ℕ)) → depth ≤ d → Deep depth (part_entry d w text)
deep-part depth d w None le = tt
deep-part depth d w (Some text) le = (le, tt)

deep-title : (depth d : ℕ) (title : Option (List (List ℕ))) → depth ≤ d → Deep depth (title_entries d title)
deep-title depth d None le = tt
deep-title depth d (Some lines) le = deep-entries depth d word.Title lines le

deep-row : (depth d : ℕ) (cells : List (List ℕ)) → depth ≤ d → Deep depth (row_entries d cells)
deep-row depth d cells le = (le, deep-entries depth (d + 1) word.Cell cells (omega arith))

deep-rows : (depth d : ℕ) (rows : List (List (List ℕ))) → depth ≤ d → Deep depth (rows_entries d rows)
deep-rows depth d [] le = tt
deep-rows depth d (cells ∷ rows) le =
    deep-append depth (row_entries d cells) (rows_entries d rows) (deep-row depth d cells le)
    (deep-rows depth d rows le)

deep-table : (depth d : ℕ) (delimiter : List ℕ) (rows : List (List (List ℕ))) → depth ≤ d →
    Deep depth (table_entries d delimiter rows)
deep-table depth d delimiter [] le = (le, (omega arith, tt))
deep-table depth d delimiter (head ∷ rows) le =
    let more : depth ≤ d + 1 = omega arith in (
      le,
      deep-append depth (row_entries (d + 1) head)
          (entry_with (d + 1) word.Delimiter delimiter ∷ rows_entries (d + 1) rows) (deep-row depth (d + 1) head more)
          (more, deep-rows depth (d + 1) rows more),
    )

mutual
  deep-block : (depth d : ℕ) (b : Block) → depth ≤ d → Deep depth (block_entries d b)
  deep-block depth d (Frontmatter marker lines) le = (le, deep-entries depth (d + 1) word.Line lines (omega arith))
  deep-block depth d (Quote kind bs) le = (le, deep-all depth (d + 1) bs (omega arith))
  deep-block depth d (ListOf marker items) le = (le, deep-all depth (d + 1) items (omega arith))
  deep-block depth d (Item marker digits bs) le = (le, deep-all depth (d + 1) bs (omega arith))
  deep-block depth d (Footnote label bs) le = (le, (omega arith, deep-all depth (d + 1) bs (omega arith)))
  deep-block depth d (Heading n lines) le = (le, deep-entries depth (d + 1) word.Line lines (omega arith))
  deep-block depth d (Code lines) le = (le, deep-lines depth (d + 1) lines (omega arith))
  deep-block depth d (Html lines) le = (le, deep-lines depth (d + 1) lines (omega arith))
  deep-block depth d (Fence marker info meta lines closed) le =
      let more : depth ≤ d + 1 = omega arith in (
        le,
        deep-append depth (part_entry (d + 1) word.Info info ++ part_entry (d + 1) word.Meta meta)
            (line_entries (d + 1) lines)
            (deep-append depth (part_entry (d + 1) word.Info info) (part_entry (d + 1) word.Meta meta)
            (deep-part depth (d + 1) word.Info info more) (deep-part depth (d + 1) word.Meta meta more))
            (deep-lines depth (d + 1) lines more),
      )
  deep-block depth d (Math meta lines closed) le =
      let more : depth ≤ d + 1 = omega arith in (
        le,
        deep-append depth (part_entry (d + 1) word.Meta meta) (line_entries (d + 1) lines)
            (deep-part depth (d + 1) word.Meta meta more) (deep-lines depth (d + 1) lines more),
      )
  deep-block depth d (Definition label destination title) le =
      let more : depth ≤ d + 1 = omega arith in (
        le,
        deep-append depth (entries (d + 1) word.Label label)
            (entry_with (d + 1) word.Destination destination ∷ title_entries (d + 1) title)
            (deep-entries depth (d + 1) word.Label label more) (more, deep-title depth (d + 1) title more),
      )
  deep-block depth d (Paragraph lines) le = (le, deep-entries depth (d + 1) word.Line lines (omega arith))
  deep-block depth d (Table delimiter rows) le = deep-table depth d delimiter rows le
  deep-block depth d _ le = (le, tt)

  deep-all : (depth d : ℕ) (bs : Blocks) → depth ≤ d → Deep depth (outline d bs)
  deep-all depth d End le = tt
  deep-all depth d (More b bs) le =
      deep-append depth (block_entries d b) (outline d bs) (deep-block depth d b le) (deep-all depth d bs le)

-- Each block has a line.

abbrev Some_lines : List Entry → Type 0
Some_lines [] = ⊥
Some_lines (line ∷ lines) = Unit {0}

some-block : (depth : ℕ) (b : Block) → Some_lines (block_entries depth b)
some-block depth (Table delimiter []) = tt
some-block depth (Table delimiter (head ∷ rows)) = tt
some-block depth _ = tt

some-more : (xs ys : List Entry) → Some_lines xs → Some_lines (xs ++ ys)
some-more [] ys some = absurd some
some-more (x ∷ xs) ys some = tt

-- None of these gets a kind.

line-kept : (kind : Option AlertKind) (depth : ℕ) (line : Entry) → depth ≤ line.depth →
    line_given kind depth line ≡ line
line-kept kind depth line le = go (line.depth + 1 == depth) refl
  where
    go : (x : Bool) → (line.depth + 1 == depth) ≡ x →
        cond x (record line { word = alert_word kind line.word }) line ≡ line
    go true e =
        let same : line.depth + 1 ≡ depth = eqb-true (line.depth + 1) depth e in
        absurd (omega (arith, le, same))
    go false e = refl

lines-kept : (kind : Option AlertKind) (depth : ℕ) (lines : List Entry) → Deep depth lines →
    kind_given kind depth lines ≡ lines
lines-kept kind depth [] h = refl
lines-kept kind depth (x ∷ []) h = ap (λ line. line ∷ []) (line-kept kind depth x h.0)
lines-kept kind depth (x ∷ y ∷ lines) h = ap (λ all. x ∷ all) (lines-kept kind depth (y ∷ lines) h.1)

last-following : (f : Entry → Entry) (xs : List Entry) (y : Entry) (ys : List Entry) →
    on_last f (xs ++ y ∷ ys) ≡ xs ++ on_last f (y ∷ ys)
last-following f [] y ys = refl
last-following f (x ∷ []) y ys = refl
last-following f (x ∷ z ∷ xs) y ys = ap (λ all. x ∷ all) (last-following f (z ∷ xs) y ys)

kept-following : (kind : Option AlertKind) (depth : ℕ) (xs ys : List Entry) → Some_lines ys → Deep depth ys →
    kind_given kind depth (xs ++ ys) ≡ xs ++ ys
kept-following kind depth xs [] some deep = absurd some
kept-following kind depth xs (y ∷ ys) some deep =
    last-following (line_given kind depth) xs y ys ∙ ap (λ l. xs ++ l) (lines-kept kind depth (y ∷ ys) deep)

-- So a kind changes nothing where there are blocks in the quote,
pub kept-shown : (kind : Option AlertKind) (outer : List OpenContainer) (b : Block) (bs : Blocks) →
    kind_given kind (depth_of outer) (shown outer (More b bs)) ≡ shown outer (More b bs)
kept-shown kind outer b bs =
    let depth : ℕ = depth_of outer in
    ap (kind_given kind depth) (shown-fronts outer (More b bs))
    ∙ kept-following kind depth (fronts outer (More b bs)) (outline depth (More b bs))
    (some-more (block_entries depth b) (outline depth bs) (some-block depth b))
    (deep-all depth depth (More b bs) (omega arith))
    ∙ sym (shown-fronts outer (More b bs))

-- and no kind changes nothing.
line-same : (kind : Option AlertKind) (depth : ℕ) (line : Entry) → alert_word kind line.word ≡ line.word →
    line_given kind depth line ≡ line
line-same kind depth line same = go (line.depth + 1 == depth)
  where
    go : (x : Bool) → cond x (record line { word = alert_word kind line.word }) line ≡ line
    go true = ap (λ w. record line { word = w }) same
    go false = refl

pub none-given : (depth : ℕ) (lines : List Entry) → kind_given None depth lines ≡ lines
none-given depth [] = refl
none-given depth (x ∷ []) = ap (λ line. line ∷ []) (line-same None depth x refl)
none-given depth (x ∷ y ∷ lines) = ap (λ all. x ∷ all) (none-given depth (y ∷ lines))

-- A quote with no blocks in it has its line last.

last-alert : (kind : Option AlertKind) (depth : ℕ) (w : Word) (front : List Entry) →
    kind_given kind (depth + 1) (front ++ entry depth w ∷ []) ≡ front ++ entry depth (alert_word kind w) ∷ []
last-alert kind depth w front =
    on-last (line_given kind (depth + 1)) front (entry depth w)
    ∙ ap (λ x. front ++ cond x (entry depth (alert_word kind w)) (entry depth w) ∷ [])
    (eq-eqb (depth + 1) (depth + 1) refl)

opening-given : (kind : Option AlertKind) (depth : ℕ) (shape : Shape) (marker : ℕ) (front : List Entry) →
    kind_given kind (depth + 1) (front ++ opening depth shape marker)
    ≡ front ++ opening depth (with_kind kind shape) marker
opening-given None depth shape marker front = none-given (depth + 1) (front ++ opening depth shape marker)
opening-given (Some k) depth (QuoteShape None) marker front = last-alert (Some k) depth word.Quote front
opening-given (Some k) depth (QuoteShape (Some j)) marker front = last-alert (Some k) depth (word.Alert j) front
opening-given (Some k) depth OrderedShape marker front = last-alert (Some k) depth (word.List marker) front
opening-given (Some k) depth UnorderedShape marker front = last-alert (Some k) depth (word.List marker) front
opening-given (Some k) depth (ItemShape m digits) marker front = last-alert (Some k) depth word.Item front
opening-given (Some k) depth (FootnoteShape label) marker front =
    last-following (line_given (Some k) (depth + 1)) front (entry depth word.Footnote)
    (entry_with (depth + 1) word.Label label ∷ [])
    ∙ ap (λ line. front ++ entry depth word.Footnote ∷ line ∷ [])
    (line-same (Some k) (depth + 1) (entry_with (depth + 1) word.Label label) refl)

-- no list is shown with another marker
kind-word : (f : ℕ → Bool) (kind : Option AlertKind) (shape : Shape) (here : Blocks) →
    list_marker f (More (block_around (with_kind kind shape) here) End)
    ≡ list_marker f (More (block_around shape here) End)
kind-word f None shape here = refl
kind-word f (Some k) (QuoteShape None) here = refl
kind-word f (Some k) _ here = refl

kind-list : (kind : Option AlertKind) (shape : Shape) (here : Blocks) →
    list_word (with_kind kind shape) here ≡ list_word shape here
kind-list None shape here = refl
kind-list (Some k) (QuoteShape None) here = refl
kind-list (Some k) _ here = refl

kind-has : (kind : Option AlertKind) (shape : Shape) (here : Blocks) → HasWord shape here →
    HasWord (with_kind kind shape) here
kind-has None shape here h = h
kind-has (Some k) (QuoteShape None) here h = tt
kind-has (Some k) _ here h = h

kind-same : (kind : Option AlertKind) (outer : List OpenContainer) (around : OpenContainer) (here : Blocks) →
    SameWord outer (then_block around.before (block_around around.shape here))
    (then_block around.before (block_around (with_kind kind around.shape) here))
kind-same kind [] around here = tt
kind-same kind (list ∷ outer) around here =
    first-word list.shape around.before (block_around around.shape here)
    (block_around (with_kind kind around.shape) here) (λ f. kind-word f kind around.shape here)

pub kind-words : (kind : Option AlertKind) (outer : List OpenContainer) (here : Blocks) → HaveWords outer here →
    HaveWords (on_shape (with_kind kind) outer) here
kind-words kind outer here h =
    words-renamed (with_kind kind) outer here (λ shape w. kind-has kind shape here w)
    (λ list before shape w.
    first-word list before (block_around shape here) (block_around (with_kind kind shape) here)
    (λ f. kind-word f kind shape here))
    h

-- so it gets the kind
pub given-shown : (kind : Option AlertKind) (outer : List OpenContainer) →
    shown (on_shape (with_kind kind) outer) End ≡ kind_given kind (depth_of outer) (shown outer End)
given-shown kind [] = refl
given-shown kind (around ∷ outer) =
    let depth : ℕ = depth_of outer in
    let shape : Shape = with_kind kind around.shape in
    let now : List OpenContainer = record around { shape = shape } ∷ outer in
    let old : Blocks = then_block around.before (block_around around.shape End) in
    let before : List Entry = outline depth around.before in
    let marker : ℕ = list_word around.shape End in
    shown-fronts now End
    ∙ append-nil (fronts now End)
    ∙ ap (λ l. (l ++ before) ++ opening depth shape (list_word shape End))
    (fronts-same outer old (then_block around.before (block_around shape End)) (kind-same kind outer around End))
    ∙ ap (λ m. (fronts outer old ++ before) ++ opening depth shape m) (kind-list kind around.shape End)
    ∙ sym (opening-given kind depth around.shape marker (fronts outer old ++ before))
    ∙ ap (kind_given kind (depth + 1)) (sym (append-nil (fronts (around ∷ outer) End)))
    ∙ ap (kind_given kind (depth + 1)) (sym (shown-fronts (around ∷ outer) End))
