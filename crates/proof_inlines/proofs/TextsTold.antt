-- Each text that is told is in the tree that events spell, in order: it is added there where its text part ends.
use Rattle.std.proofs.Common.{◌≡◌, ℕ, Bool, true, false, cond, List, [], ◌∷◌, ◌++◌, length, nat_lt, refl, ap, sym, ◌∙◌}
use Rattle.std.proofs.Common.{append_assoc, append-nil, subst}
use Rattle.std.specs.Prelude.{Option, Some, None, option_map}
use Rattle.md_engine.specs.declared.event.Event.{Event}
use Rattle.md_engine.specs.declared.event.Kind.{Kind}
use Rattle.md_engine.specs.declared.event.Kind.TheVariants.{Enter, Exit}
use Rattle.md_engine.specs.declared.event.Name.{Name}
use Rattle.md_engine.specs.declared.event.Point.{Point}
use Rattle.md_meaning.specs.State.{then_block}
use Rattle.md_meaning.specs.Texts.{split_lines, trim_each}
use Rattle.md_meaning.specs.Tree.{Block, Blocks, End, Line, More, Paragraph}
use Rattle.md_events.specs.Events.Spelled.{AsCell, AsDelimiter, AsDestination, AsDigits, AsFootnoteLabel, AsHeading}
use Rattle.md_events.specs.Events.Spelled.{AsInfo, AsItemMarker, AsLabel, AsLine, AsMarkers, AsMeta, AsParagraph}
use Rattle.md_events.specs.Events.Spelled.{AsTitle, ContainerRole, HeadingAtxLeaf, HeadingSetextLeaf}
use Rattle.md_events.specs.Events.Spelled.{IsCell, IsEnding, IsFence, IsPrefix, IsQuiet, IsQuoteMarker, IsRow, IsTitle}
use Rattle.md_events.specs.Events.Spelled.{LeafKind, LeafRole, OfHeadingAtx, OfHeadingSetext, OfTable, OpenContainer}
use Rattle.md_events.specs.Events.Spelled.{OpenLeaf, Purpose, Reading, Role, Shape, TableLeaf, Text, TextRole}
use Rattle.md_events.specs.Events.Spelled.{after_title, at_cell, at_ending, at_fence, at_row, at_title, block_around}
use Rattle.md_events.specs.Events.Spelled.{block_of, finished, first_recorded, fresh, is_before_blocks, kind_at, left}
use Rattle.md_events.specs.Events.Spelled.{named, next_line, noted, on_last, on_leaf, on_shape, read, read_by, recorded}
use Rattle.md_events.specs.Events.Spelled.{QuoteShape, recorded_at, role, text_to, with_kind}
use Rattle.md_events.specs.Events.Grammar.{Expression, is_whole, keeps_grammar, left_of, unread_text}
use Rattle.md_events.specs.Events.Spelled.{spelled, unread}
use Rattle.md_events.specs.Events.Tiles.{IsBlockList}
use Rattle.md_inline_events.specs.TreeTexts.{block_texts, cell_text, lines_text, row_texts, rows_texts, tree_texts}
use Rattle.proof_inlines.proofs.GrammarWalk.{Runs, following_state, runs}
use Rattle.proof_inlines.proofs.OpenContainers.{outer-none}
use Rattle.proof_inlines.proofs.Spots as spot
use Rattle.proof_inlines.proofs.Spots.{Around, EmptyCell, FullCell, InRow, InTable, Inside, Rests, Sort, Spot, Titled}
use Rattle.proof_inlines.proofs.Spots.{Untitled, entered_by, exited_by, is_at, may_step, sort_of, spots, spots-keep}
use Rattle.proof_inlines.proofs.Spots.{texts-inside}
use Rattle.proof_inlines.proofs.Told.{text-step, text_following, text_told, told, told_at, told_by}

-- Texts of blocks.

then-texts : (blocks : Blocks) (block : Block) →
    tree_texts (then_block blocks block) ≡ tree_texts blocks ++ block_texts block
then-texts End block = append-nil (block_texts block)
then-texts (More first blocks) block =
    ap (λ (l : List (List ℕ)). block_texts first ++ l) (then-texts blocks block)
    ∙ sym (append_assoc (block_texts first) (tree_texts blocks) (block_texts block))

around-texts : (shape : Shape) (blocks : Blocks) → block_texts (block_around shape blocks) ≡ tree_texts blocks
around-texts (QuoteShape kind) blocks = refl
around-texts _ blocks = refl

-- What an open leaf holds of texts.
data Held : Type 0 where
  Bare : Held
  Title : List (List ℕ) → Held
  Rows : List (List (List ℕ)) → Held

abbrev held_of : OpenLeaf → Held
held_of (HeadingAtxLeaf heading) = Title heading.text
held_of (HeadingSetextLeaf heading) = Title heading.text
held_of (TableLeaf table) = Rows table.rows
held_of leaf = Bare

abbrev held : Option OpenLeaf → Held
held None = Bare
held (Some leaf) = held_of leaf

abbrev held_texts : Held → List (List ℕ)
held_texts Bare = []
held_texts (Title lines) = lines_text lines
held_texts (Rows rows) = rows_texts rows

leaf-texts : (leaf : OpenLeaf) → block_texts (block_of leaf) ≡ held_texts (held_of leaf)
leaf-texts (HeadingAtxLeaf heading) = refl
leaf-texts _ = refl

-- What the parts of a leaf change of it.

abbrev noted_held : Purpose → List ℕ → Held → Held
noted_held AsHeading text (Title lines) = Title (first_recorded lines (trim_each (split_lines text)))
noted_held AsCell text (Rows rows) =
    Rows (on_last (on_last (λ (cell : List ℕ). first_recorded cell text)) rows)
noted_held purpose text h = h

abbrev row_held : Held → Held
row_held (Rows rows) = Rows (rows ++ [] ∷ [])
row_held h = h

abbrev cell_held : Held → Held
cell_held (Rows rows) = Rows (on_last (λ (row : List (List ℕ)). row ++ [] ∷ []) rows)
cell_held h = h

held-noted : (x : Purpose) (line : Line) (leaf : Option OpenLeaf) →
    held (option_map (noted x line) leaf) ≡ noted_held x line.text (held leaf)
held-noted AsHeading line None = refl
held-noted AsHeading line (Some (HeadingAtxLeaf heading)) = refl
held-noted AsHeading line (Some leaf) = refl
held-noted AsMarkers line (Some (HeadingAtxLeaf heading)) = refl
held-noted AsMarkers line (Some leaf) = refl
held-noted AsLine line (Some (HeadingAtxLeaf heading)) = refl
held-noted AsLine line (Some leaf) = refl
held-noted AsInfo line (Some (HeadingAtxLeaf heading)) = refl
held-noted AsInfo line (Some leaf) = refl
held-noted AsMeta line (Some (HeadingAtxLeaf heading)) = refl
held-noted AsMeta line (Some leaf) = refl
held-noted AsLabel line (Some (HeadingAtxLeaf heading)) = refl
held-noted AsLabel line (Some leaf) = refl
held-noted AsDestination line (Some (HeadingAtxLeaf heading)) = refl
held-noted AsDestination line (Some leaf) = refl
held-noted AsTitle line (Some (HeadingAtxLeaf heading)) = refl
held-noted AsTitle line (Some leaf) = refl
held-noted AsCell line (Some (HeadingAtxLeaf heading)) = refl
held-noted AsCell line (Some leaf) = refl
held-noted AsDelimiter line (Some (HeadingAtxLeaf heading)) = refl
held-noted AsDelimiter line (Some leaf) = refl
held-noted _ line None = refl
held-noted _ line (Some leaf) = refl

held-row : (leaf : Option OpenLeaf) → held (option_map at_row leaf) ≡ row_held (held leaf)
held-row None = refl
held-row (Some (HeadingAtxLeaf heading)) = refl
held-row (Some leaf) = refl

held-cell : (leaf : Option OpenLeaf) → held (option_map at_cell leaf) ≡ cell_held (held leaf)
held-cell None = refl
held-cell (Some (HeadingAtxLeaf heading)) = refl
held-cell (Some leaf) = refl

held-fence : (leaf : Option OpenLeaf) → held (option_map at_fence leaf) ≡ held leaf
held-fence None = refl
held-fence (Some (HeadingAtxLeaf heading)) = refl
held-fence (Some leaf) = refl

held-title : (leaf : Option OpenLeaf) → held (option_map at_title leaf) ≡ held leaf
held-title None = refl
held-title (Some (HeadingAtxLeaf heading)) = refl
held-title (Some leaf) = refl

held-titled : (leaf : Option OpenLeaf) → held (option_map after_title leaf) ≡ held leaf
held-titled None = refl
held-titled (Some (HeadingAtxLeaf heading)) = refl
held-titled (Some leaf) = refl

held-line : (leaf : Option OpenLeaf) → held (option_map next_line leaf) ≡ held leaf
held-line None = refl
held-line (Some (HeadingAtxLeaf heading)) = refl
held-line (Some leaf) = refl

-- Lists whose last item is changed.

on_last-append : {A : Type 0} (f : A → A) (xs : List A) (x : A) → on_last f (xs ++ x ∷ []) ≡ xs ++ f x ∷ []
on_last-append f [] x = refl
on_last-append f (y ∷ []) x = refl
on_last-append {A} f (y ∷ z ∷ xs) x = ap (λ (l : List A). y ∷ l) (on_last-append f (z ∷ xs) x)

row-append : (row cells : List (List ℕ)) → row_texts (row ++ cells) ≡ row_texts row ++ row_texts cells
row-append [] cells = refl
row-append (cell ∷ row) cells =
    ap (λ (l : List (List ℕ)). cell_text cell ++ l) (row-append row cells)
    ∙ sym (append_assoc (cell_text cell) (row_texts row) (row_texts cells))

rows-append : (rows more : List (List (List ℕ))) → rows_texts (rows ++ more) ≡ rows_texts rows ++ rows_texts more
rows-append [] more = refl
rows-append (row ∷ rows) more =
    ap (λ (l : List (List ℕ)). row_texts row ++ l) (rows-append rows more)
    ∙ sym (append_assoc (row_texts row) (rows_texts rows) (rows_texts more))

-- with a cell more in the last row
cell-more : (front : List (List (List ℕ))) (row : List (List ℕ)) (cell : List ℕ) →
    rows_texts (front ++ (row ++ cell ∷ []) ∷ []) ≡ rows_texts (front ++ row ∷ []) ++ cell_text cell
cell-more front row cell =
    rows-append front ((row ++ cell ∷ []) ∷ [])
    ∙ ap (λ (l : List (List ℕ)). rows_texts front ++ l)
    (append-nil (row_texts (row ++ cell ∷ [])) ∙ row-append row (cell ∷ [])
    ∙ ap (λ (l : List (List ℕ)). row_texts row ++ l) (append-nil (cell_text cell)))
    ∙ sym (append_assoc (rows_texts front) (row_texts row) (cell_text cell))
    ∙ ap (λ (l : List (List ℕ)). l ++ cell_text cell)
    (ap (λ (l : List (List ℕ)). rows_texts front ++ l) (sym (append-nil (row_texts row)))
    ∙ sym (rows-append front (row ∷ [])))

-- What a spot says of what the open leaf holds.

abbrev HasRow : Held → Type 0
HasRow h = (front : List (List (List ℕ))) × (row : List (List ℕ)) × (h ≡ Rows (front ++ row ∷ []))

abbrev HasCell : Held → Type 0
HasCell h = (front : List (List (List ℕ))) × (row : List (List ℕ)) × (h ≡ Rows (front ++ (row ++ [] ∷ []) ∷ []))

abbrev Shows : Spot → Held → Type 0
Shows Rests h = held_texts h ≡ []
Shows Untitled h = h ≡ Title []
Shows Titled h = Unit {0}
Shows InTable h = (rows : List (List (List ℕ))) × (h ≡ Rows rows)
Shows InRow h = HasRow h
Shows EmptyCell h = HasCell h
Shows FullCell h = HasRow h

cell-row : (h : Held) → HasCell h → HasRow h
cell-row h c = (c.0, c.1 ++ [] ∷ [], c.2)

row-table : (h : Held) → HasRow h → Shows InTable h
row-table h c = (c.0 ++ c.1 ∷ [], c.2)

rests-none : (s : Spot) (h : Held) → is_at Around s ≡ true → Shows s h → held_texts h ≡ []
rests-none Rests h at shows = shows
rests-none _ h at shows = cc

-- What a reading has of texts.

abbrev outer_texts : List OpenContainer → List (List ℕ)
outer_texts [] = []
outer_texts (around ∷ outer) = outer_texts outer ++ tree_texts around.before

abbrev done : Reading → List (List ℕ)
done r = outer_texts r.outer ++ tree_texts r.here

abbrev reading_texts : Reading → List (List ℕ)
reading_texts r = done r ++ held_texts (held r.leaf)

shape-texts : (f : Shape → Shape) (outer : List OpenContainer) → outer_texts (on_shape f outer) ≡ outer_texts outer
shape-texts f [] = refl
shape-texts f (around ∷ outer) = refl

-- One event.

abbrev spot_by : Kind → Sort → Spot → Spot
spot_by Enter sort s = entered_by sort s
spot_by Exit sort s = exited_by sort s

record Step (bytes : List ℕ) (kind : Kind) (x : Role) (p : Point) (r : Reading) (s : Spot) : Type 0 where
  tells : reading_texts (read_by bytes kind x p r) ≡ reading_texts r ++ told_by bytes kind x p r.text
  shows : Shows (spot_by kind (sort_of x) s) (held (read_by bytes kind x p r).leaf)

-- nothing is told, and the leaf holds what it held
none-told : (a b : List (List ℕ)) → a ≡ b → a ≡ b ++ []
none-told a b e = e ∙ sym (append-nil b)

texts-same : (a b : List (List ℕ)) (h k : Held) → a ≡ b → held_texts h ≡ held_texts k →
    a ++ held_texts h ≡ (b ++ held_texts k) ++ []
texts-same a b h k e f =
    ap (λ (l : List (List ℕ)). l ++ held_texts h) e ∙ ap (λ (l : List (List ℕ)). b ++ l) f
    ∙ sym (append-nil (b ++ held_texts k))

entered-text : (purpose : Purpose) (s : Spot) → entered_by (sort_of (TextRole purpose)) s ≡ s
entered-text AsParagraph s = refl
entered-text _ s = refl

exited-leaf : (kind : LeafKind) (s : Spot) → exited_by (sort_of (LeafRole kind)) s ≡ Rests
exited-leaf OfHeadingAtx s = refl
exited-leaf _ s = refl

cond-texts : (b : Bool) (r q : Reading) → reading_texts r ≡ reading_texts q →
    reading_texts (cond b r q) ≡ reading_texts q
cond-texts true r q e = e
cond-texts false r q e = refl

cond-held : (b : Bool) (r q : Reading) → held r.leaf ≡ held q.leaf → held (cond b r q).leaf ≡ held q.leaf
cond-held true r q e = e
cond-held false r q e = refl

-- a leaf begins, where none is open
leaf-begins : (r : Reading) (leaf : OpenLeaf) (s : Spot) → is_at Around s ≡ true → Shows s (held r.leaf) →
    held_texts (held_of leaf) ≡ [] →
    done r ++ held_texts (held_of leaf) ≡ (done r ++ held_texts (held r.leaf)) ++ []
leaf-begins r leaf s at shows e =
    texts-same (done r) (done r) (held_of leaf) (held r.leaf) refl
    (e ∙ sym (rests-none s (held r.leaf) at shows))

row-begins : (h : Held) → held_texts (row_held h) ≡ held_texts h
row-begins (Rows rows) = rows-append rows ([] ∷ []) ∙ append-nil (rows_texts rows)
row-begins Bare = refl
row-begins (Title lines) = refl

row-shows : (h : Held) (s : Spot) → is_at spot.TableLeaf s ≡ true → Shows s h → HasRow (row_held h)
row-shows h InTable at shows = (shows.0, [], ap row_held shows.1)
row-shows h _ at shows = cc

cell-shows : (h : Held) (s : Spot) → is_at spot.Row s ≡ true → Shows s h →
    (held_texts (cell_held h) ≡ held_texts h) × HasCell (cell_held h)
cell-shows h InRow at shows =
    let front : List (List (List ℕ)) = shows.0 in
    let row : List (List ℕ) = shows.1 in
    let now : cell_held h ≡ Rows (front ++ (row ++ [] ∷ []) ∷ []) =
    ap cell_held shows.2 ∙ ap Rows (on_last-append (λ (row : List (List ℕ)). row ++ [] ∷ []) front row) in (
      ap held_texts now ∙ cell-more front row [] ∙ append-nil (rows_texts (front ++ row ∷ []))
          ∙ sym (ap held_texts shows.2),
      (front, row, now),
    )
cell-shows h _ at shows = cc

step-enter : (bytes : List ℕ) (x : Role) (p : Point) (r : Reading) (s : Spot) → may_step Enter (sort_of x) s ≡ true →
    Shows s (held r.leaf) → Step bytes Enter x p r s
step-enter bytes (ContainerRole shape) p r s may shows = record {
  tells = texts-same ((outer_texts r.outer ++ tree_texts r.here) ++ []) (done r) (held r.leaf) (held r.leaf)
      (append-nil (done r)) refl;
  shows = shows;
}
step-enter bytes (LeafRole OfHeadingAtx) p r s may shows = record {
  tells = leaf-begins r (fresh OfHeadingAtx) s may shows refl;
  shows = refl;
}
step-enter bytes (LeafRole OfHeadingSetext) p r s may shows = record {
  tells = leaf-begins r (fresh OfHeadingSetext) s may shows refl;
  shows = refl;
}
step-enter bytes (LeafRole OfTable) p r s may shows = record {
  tells = leaf-begins r (fresh OfTable) s may shows refl;
  shows = ([], refl);
}
step-enter bytes (LeafRole kind) p r s may shows = record {
  tells = leaf-begins r (fresh kind) s may shows refl;
  shows = refl;
}
step-enter bytes (TextRole purpose) p r s may shows = record {
  tells = none-told (reading_texts r) (reading_texts r) refl;
  shows = subst (λ (t : Spot). Shows t (held r.leaf)) (sym (entered-text purpose s)) shows;
}
step-enter bytes IsFence p r s may shows = record {
  tells = texts-same (done r) (done r) (held (option_map at_fence r.leaf)) (held r.leaf) refl
      (ap held_texts (held-fence r.leaf));
  shows = subst (Shows s) (sym (held-fence r.leaf)) shows;
}
step-enter bytes IsTitle p r s may shows = record {
  tells = texts-same (done r) (done r) (held (option_map at_title r.leaf)) (held r.leaf) refl
      (ap held_texts (held-title r.leaf));
  shows = subst (Shows s) (sym (held-title r.leaf)) shows;
}
step-enter bytes IsRow p r s may shows = record {
  tells = texts-same (done r) (done r) (held (option_map at_row r.leaf)) (held r.leaf) refl
      (ap held_texts (held-row r.leaf) ∙ row-begins (held r.leaf));
  shows = subst (Shows InRow) (sym (held-row r.leaf)) (row-shows (held r.leaf) s may shows);
}
step-enter bytes IsCell p r s may shows =
    let next : (held_texts (cell_held (held r.leaf)) ≡ held_texts (held r.leaf)) × HasCell (cell_held (held r.leaf)) =
    cell-shows (held r.leaf) s may shows in
    record {
      tells = texts-same (done r) (done r) (held (option_map at_cell r.leaf)) (held r.leaf) refl
          (ap held_texts (held-cell r.leaf) ∙ next.0);
      shows = subst (Shows EmptyCell) (sym (held-cell r.leaf)) next.1;
    }
step-enter bytes IsQuoteMarker p r s may shows =
    let test : Bool = is_before_blocks r.text r.leaf r.here in
    let marked : Reading = record r { outer = on_shape (with_kind (kind_at bytes p.index)) r.outer } in
    let same : reading_texts marked ≡ reading_texts r =
    ap (λ (l : List (List ℕ)). (l ++ tree_texts r.here) ++ held_texts (held r.leaf))
    (shape-texts (with_kind (kind_at bytes p.index)) r.outer) in
    record {
      tells = none-told (reading_texts (cond test marked r)) (reading_texts r) (cond-texts test marked r same);
      shows = subst (Shows s) (sym (cond-held test marked r refl)) shows;
    }
step-enter bytes IsPrefix p r s may shows =
    record { tells = none-told (reading_texts r) (reading_texts r) refl; shows = shows }
step-enter bytes IsEnding p r s may shows =
    record { tells = none-told (reading_texts r) (reading_texts r) refl; shows = shows }
step-enter bytes IsQuiet p r s may shows =
    record { tells = none-told (reading_texts r) (reading_texts r) refl; shows = shows }

-- The exits.

left-done : (outer : List OpenContainer) (r : Reading) → outer ≡ r.outer → done (left outer r) ≡ done r
left-done [] r e = refl
left-done (around ∷ outer) r e =
    ap (λ (l : List (List ℕ)). outer_texts outer ++ l)
    (then-texts around.before (block_around around.shape r.here)
    ∙ ap (λ (l : List (List ℕ)). tree_texts around.before ++ l) (around-texts around.shape r.here))
    ∙ sym (append_assoc (outer_texts outer) (tree_texts around.before) (tree_texts r.here))
    ∙ ap (λ (l : List OpenContainer). outer_texts l ++ tree_texts r.here) e

left-held : (outer : List OpenContainer) (r : Reading) → held (left outer r).leaf ≡ held r.leaf
left-held [] r = refl
left-held (around ∷ outer) r = refl

block-added : (r : Reading) (block : Block) →
    outer_texts r.outer ++ tree_texts (then_block r.here block) ≡ done r ++ block_texts block
block-added r block =
    ap (λ (l : List (List ℕ)). outer_texts r.outer ++ l) (then-texts r.here block)
    ∙ sym (append_assoc (outer_texts r.outer) (tree_texts r.here) (block_texts block))

leaf-ends : (leaf : Option OpenLeaf) (r : Reading) → r.leaf ≡ leaf →
    (reading_texts (finished leaf r) ≡ reading_texts r ++ []) × (held_texts (held (finished leaf r).leaf) ≡ [])
leaf-ends None r e = (none-told (reading_texts r) (reading_texts r) refl, ap (λ (o : Option OpenLeaf). held_texts (held o)) e)
leaf-ends (Some leaf) r e = (
  ap (λ (l : List (List ℕ)). l ++ [])
      (block-added r (block_of leaf)
      ∙ ap (λ (l : List (List ℕ)). done r ++ l)
      (leaf-texts leaf ∙ ap (λ (o : Option OpenLeaf). held_texts (held o)) (sym e))),
  refl,
)

-- A text ends.

abbrev Ends : List ℕ → Purpose → Point → Option Text → Reading → Spot → Type 0
Ends bytes purpose p text r s =
    (reading_texts (recorded_at bytes purpose p text r) ≡ reading_texts r ++ told_at bytes purpose p text)
    × Shows (exited_by (sort_of (TextRole purpose)) s) (held (recorded_at bytes purpose p text r).leaf)

paragraph-ends : (now : List ℕ) (spaces : ℕ) (r : Reading) (s : Spot) → is_at spot.ParagraphText s ≡ true →
    Shows s (held r.leaf) →
    reading_texts (recorded AsParagraph (record { spaces = spaces; text = now }) r) ≡
    reading_texts r ++ text_told AsParagraph now
paragraph-ends now spaces r Rests at shows =
    let told : List (List ℕ) = text_told AsParagraph now in
    ap (λ (l : List (List ℕ)). l ++ held_texts (held r.leaf)) (block-added r (Paragraph (trim_each (split_lines now))))
    ∙ ap (λ (l : List (List ℕ)). (done r ++ told) ++ l) shows
    ∙ append-nil (done r ++ told)
    ∙ ap (λ (l : List (List ℕ)). l ++ told) (sym (append-nil (done r)) ∙ ap (λ (l : List (List ℕ)). done r ++ l)
    (sym shows))
paragraph-ends now spaces r _ at shows = cc

heading-ends : (now : List ℕ) (h : Held) (s : Spot) → is_at spot.HeadingText s ≡ true → Shows s h →
    held_texts (noted_held AsHeading now h) ≡ held_texts h ++ text_told AsHeading now
heading-ends now h Untitled at shows =
    ap (λ (k : Held). held_texts (noted_held AsHeading now k)) shows
    ∙ ap (λ (k : Held). held_texts k ++ text_told AsHeading now) (sym shows)
heading-ends now h _ at shows = cc

cell-ends : (now : List ℕ) (h : Held) (s : Spot) → is_at spot.CellText s ≡ true → Shows s h →
    (held_texts (noted_held AsCell now h) ≡ held_texts h ++ text_told AsCell now) × HasRow (noted_held AsCell now h)
cell-ends now h EmptyCell at shows =
    let front : List (List (List ℕ)) = shows.0 in
    let row : List (List ℕ) = shows.1 in
    let first : List ℕ → List ℕ = λ (cell : List ℕ). first_recorded cell now in
    let noted : noted_held AsCell now h ≡ Rows (front ++ (row ++ now ∷ []) ∷ []) =
    ap (noted_held AsCell now) shows.2
    ∙ ap Rows (on_last-append (on_last first) front (row ++ [] ∷ [])
    ∙ ap (λ (l : List (List ℕ)). front ++ l ∷ []) (on_last-append first row [])) in (
      ap held_texts noted ∙ cell-more front row now
          ∙ ap (λ (l : List (List ℕ)). l ++ cell_text now)
          (sym (cell-more front row [] ∙ append-nil (rows_texts (front ++ row ∷ []))) ∙ sym (ap held_texts shows.2)),
      (front, row ++ now ∷ [], noted),
    )
cell-ends now h _ at shows = cc

-- where no text was being read
none-ends : (bytes : List ℕ) (purpose : Purpose) (p : Point) (r : Reading) (s : Spot) →
    is_at (sort_of (TextRole purpose)) s ≡ true → Shows s (held r.leaf) →
    Shows (exited_by (sort_of (TextRole purpose)) s) (held r.leaf)
none-ends bytes AsHeading p r s at shows = tt
none-ends bytes AsCell p r s at shows = go s at shows
  where
    go : (s : Spot) → is_at spot.CellText s ≡ true → Shows s (held r.leaf) → HasRow (held r.leaf)
    go EmptyCell at shows = cell-row (held r.leaf) shows
    go _ at shows = cc
none-ends bytes _ p r s at shows = shows

-- one that shapes a container
shape-ends : (f : Shape → Shape) (r : Reading) →
    (outer_texts (on_shape f r.outer) ++ tree_texts r.here) ++ held_texts (held r.leaf) ≡ reading_texts r ++ []
shape-ends f r =
    none-told ((outer_texts (on_shape f r.outer) ++ tree_texts r.here) ++ held_texts (held r.leaf)) (reading_texts r)
    (ap (λ (l : List (List ℕ)). (l ++ tree_texts r.here) ++ held_texts (held r.leaf)) (shape-texts f r.outer))

text-ends : (bytes : List ℕ) (purpose : Purpose) (p : Point) (text : Option Text) (r : Reading) (s : Spot) →
    is_at (sort_of (TextRole purpose)) s ≡ true → Shows s (held r.leaf) → Ends bytes purpose p text r s
text-ends bytes purpose p None r s at shows =
    (none-told (reading_texts r) (reading_texts r) refl, none-ends bytes purpose p r s at shows)
text-ends bytes AsParagraph p (Some text) r s at shows =
    (paragraph-ends (text_to bytes p.index text) text.spaces (record r { text = None }) s at shows, shows)
text-ends bytes AsHeading p (Some text) r s at shows =
    let now : List ℕ = text_to bytes p.index text in
    let line : Line = record { spaces = text.spaces; text = now } in (
      ap (λ (l : List (List ℕ)). done r ++ l)
          (ap held_texts (held-noted AsHeading line r.leaf) ∙ heading-ends now (held r.leaf) s at shows)
          ∙ sym (append_assoc (done r) (held_texts (held r.leaf)) (text_told AsHeading now)),
      tt,
    )
text-ends bytes AsCell p (Some text) r s at shows =
    let now : List ℕ = text_to bytes p.index text in
    let line : Line = record { spaces = text.spaces; text = now } in
    let both : (held_texts (noted_held AsCell now (held r.leaf)) ≡
    held_texts (held r.leaf) ++ text_told AsCell now) × HasRow (noted_held AsCell now (held r.leaf)) =
    cell-ends now (held r.leaf) s at shows in (
      ap (λ (l : List (List ℕ)). done r ++ l) (ap held_texts (held-noted AsCell line r.leaf) ∙ both.0)
          ∙ sym (append_assoc (done r) (held_texts (held r.leaf)) (text_told AsCell now)),
      subst HasRow (sym (held-noted AsCell line r.leaf)) both.1,
    )
text-ends bytes AsDigits p (Some text) r s at shows =
    (shape-ends (named AsDigits (text_to bytes p.index text)) r, shows)
text-ends bytes AsItemMarker p (Some text) r s at shows =
    (shape-ends (named AsItemMarker (text_to bytes p.index text)) r, shows)
text-ends bytes AsFootnoteLabel p (Some text) r s at shows =
    (shape-ends (named AsFootnoteLabel (text_to bytes p.index text)) r, shows)
text-ends bytes purpose p (Some text) r s at shows =
    let line : Line = record { spaces = text.spaces; text = text_to bytes p.index text } in (
      texts-same (done r) (done r) (held (option_map (noted purpose line) r.leaf)) (held r.leaf) refl
          (ap held_texts (held-noted purpose line r.leaf)),
      subst (Shows s) (sym (held-noted purpose line r.leaf)) shows,
    )

ending-texts : (bytes : List ℕ) (p : Point) (text : Option Text) (r : Reading) →
    reading_texts (at_ending bytes p text r) ≡ reading_texts r
ending-texts bytes p (Some text) r = refl
ending-texts bytes p None r =
    cond-texts (nat_lt p.index (length bytes)) (on_leaf next_line r) r
    (ap (λ (l : List (List ℕ)). done r ++ l) (ap held_texts (held-line r.leaf)))

ending-held : (bytes : List ℕ) (p : Point) (text : Option Text) (r : Reading) →
    held (at_ending bytes p text r).leaf ≡ held r.leaf
ending-held bytes p (Some text) r = refl
ending-held bytes p None r =
    cond-held (nat_lt p.index (length bytes)) (on_leaf next_line r) r (held-line r.leaf)

row-leaves : (h : Held) (s : Spot) → is_at spot.Row s ≡ true → Shows s h → Shows InTable h
row-leaves h InRow at shows = row-table h shows
row-leaves h _ at shows = cc

cell-leaves : (h : Held) (s : Spot) → is_at spot.Cell s ≡ true → Shows s h → HasRow h
cell-leaves h EmptyCell at shows = cell-row h shows
cell-leaves h FullCell at shows = shows
cell-leaves h _ at shows = cc

step-exit : (bytes : List ℕ) (x : Role) (p : Point) (r : Reading) (s : Spot) → may_step Exit (sort_of x) s ≡ true →
    Shows s (held r.leaf) → Step bytes Exit x p r s
step-exit bytes (ContainerRole shape) p r s may shows = record {
  tells = texts-same (done (left r.outer r)) (done r) (held (left r.outer r).leaf) (held r.leaf)
      (left-done r.outer r refl) (ap held_texts (left-held r.outer r));
  shows = subst (Shows s) (sym (left-held r.outer r)) shows;
}
step-exit bytes (LeafRole kind) p r s may shows =
    let both : (reading_texts (finished r.leaf r) ≡ reading_texts r ++ [])
    × (held_texts (held (finished r.leaf r).leaf) ≡ []) = leaf-ends r.leaf r refl in
    record {
      tells = both.0;
      shows = subst (λ (t : Spot). Shows t (held (finished r.leaf r).leaf)) (sym (exited-leaf kind s)) both.1;
    }
step-exit bytes (TextRole purpose) p r s may shows =
    let both : Ends bytes purpose p r.text r s = text-ends bytes purpose p r.text r s may shows in
    record { tells = both.0; shows = both.1 }
step-exit bytes IsTitle p r s may shows = record {
  tells = texts-same (done r) (done r) (held (option_map after_title r.leaf)) (held r.leaf) refl
      (ap held_texts (held-titled r.leaf));
  shows = subst (Shows s) (sym (held-titled r.leaf)) shows;
}
step-exit bytes IsEnding p r s may shows = record {
  tells = none-told (reading_texts (at_ending bytes p r.text r)) (reading_texts r) (ending-texts bytes p r.text r);
  shows = subst (Shows s) (sym (ending-held bytes p r.text r)) shows;
}
step-exit bytes IsRow p r s may shows =
    record { tells = none-told (reading_texts r) (reading_texts r) refl; shows = row-leaves (held r.leaf) s may shows }
step-exit bytes IsCell p r s may shows =
    record { tells = none-told (reading_texts r) (reading_texts r) refl; shows = cell-leaves (held r.leaf) s may shows }
step-exit bytes IsPrefix p r s may shows =
    record { tells = none-told (reading_texts r) (reading_texts r) refl; shows = shows }
step-exit bytes _ p r s may shows =
    record { tells = none-told (reading_texts r) (reading_texts r) refl; shows = shows }

step : (bytes : List ℕ) (kind : Kind) (x : Role) (p : Point) (r : Reading) (s : Spot) →
    may_step kind (sort_of x) s ≡ true → Shows s (held r.leaf) → Step bytes kind x p r s
step bytes Enter x p r s may shows = step-enter bytes x p r s may shows
step bytes Exit x p r s may shows = step-exit bytes x p r s may shows

-- All events.

spot-following : (kind : Kind) (name : Name) (s : Spot) →
    following_state spots kind name s ≡ spot_by kind (sort_of (role name)) s
spot-following Enter name s = refl
spot-following Exit name s = refl

-- what a reading has after events are the texts that it had, and those that the events tell
texts-read : (bytes : List ℕ) (r : Reading) (s : Spot) (es : List Event) → Runs spots s es → Shows s (held r.leaf) →
    (reading_texts (read bytes r es) ≡ reading_texts r ++ told bytes r.text es)
    × (held_texts (held (read bytes r es).leaf) ≡ [])
texts-read bytes r s [] runs shows =
    let is : Inside Around runs.0 s = runs.1 in (
      sym (append-nil (reading_texts r)),
      rests-none s (held r.leaf) is.at shows,
    )
texts-read bytes r s (e ∷ es) runs shows =
    let next : Reading = read_by bytes e.kind (role e.name) e.point r in
    let one : Step bytes e.kind (role e.name) e.point r s = step bytes e.kind (role e.name) e.point r s runs.0 shows in
    let more : (reading_texts (read bytes next es) ≡ reading_texts next ++ told bytes next.text es)
    × (held_texts (held (read bytes next es).leaf) ≡ []) =
    texts-read bytes next (following_state spots e.kind e.name s) es runs.1
    (subst (λ (t : Spot). Shows t (held next.leaf)) (sym (spot-following e.kind e.name s)) one.shows) in
    let now : List (List ℕ) = told_by bytes e.kind (role e.name) e.point r.text in
    let later : List (List ℕ) = told bytes (text_following bytes e.kind (role e.name) e.point r.text) es in (
      more.0
          ∙ ap (λ (t : Option Text). reading_texts next ++ told bytes t es)
          (text-step bytes e.kind (role e.name) e.point r)
          ∙ ap (λ (l : List (List ℕ)). l ++ later) one.tells
          ∙ append_assoc (reading_texts r) now later,
      more.1,
    )

-- The texts that the events of a block list tell are those of the tree that it spells.
pub told-tree : (bytes : List ℕ) (blocks : List Event) → IsBlockList bytes blocks →
    told bytes None blocks ≡ tree_texts (spelled blocks bytes)
unfolding spelled keeps_grammar
told-tree bytes blocks list =
    let start : (x : Expression) × (is_whole (left_of unread_text (x ∷ []) blocks) ≡ true) × Inside Around x Rests =
    texts-inside (λ (x : Expression). is_whole (left_of unread_text (x ∷ []) blocks)) list.grammar in
    let all : Runs spots Rests blocks =
    runs spots spots-keep [] (start.0 ∷ []) Rests blocks list.nested.balanced.matches start.1 start.2 in
    let both : (reading_texts (read bytes unread blocks) ≡ [] ++ told bytes None blocks)
    × (held_texts (held (read bytes unread blocks).leaf) ≡ []) = texts-read bytes unread Rests blocks all refl in
    let outer : (read bytes unread blocks).outer ≡ [] =
    outer-none bytes unread blocks refl list.nested.balanced.matches list.nested.balanced.closed in
    sym both.0
    ∙ ap (λ (l : List (List ℕ)). done (read bytes unread blocks) ++ l) both.1
    ∙ append-nil (done (read bytes unread blocks))
    ∙ ap (λ (l : List OpenContainer). outer_texts l ++ tree_texts (read bytes unread blocks).here) outer
