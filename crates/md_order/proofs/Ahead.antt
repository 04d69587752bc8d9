-- A look ahead from an item, for its marker and for the next block, sees the same with headings and tables set as
-- without.
use Rattle.std.proofs.Common.{◌≡◌, ℕ, Bool, true, false, cond, ◌&&◌, List, [], ◌∷◌, ◌++◌, get_or, refl, ap, sym, ◌∙◌}
use Rattle.std.specs.Prelude.{Some, None}
use Rattle.std.proofs.lemmas.Bool.{and_right}
use Rattle.md_engine.specs.declared.event.Event.{Event}
use Rattle.md_engine.specs.declared.event.Kind.{Kind}
use Rattle.md_engine.specs.declared.event.Kind.TheVariants.{Enter, Exit}
use Rattle.md_engine.specs.declared.event.Name.{Name}
use Rattle.md_engine.specs.declared.event.Name.TheVariants as n
use Rattle.md_containers.specs.Listed.{marker_ahead, marker_by, next_by, next_item}
use Rattle.md_leaves.specs.HeadingText.{Before, Outside, begins, is_heading, resolved}
use Rattle.md_leaves.specs.Turned.{BeginsText, EndsText, EndsUnderline, Stays, Turn, given_by, is_paragraph, is_turned}
use Rattle.md_leaves.specs.Turned.{on_by, turn, turn_by, turned_from}
use Rattle.md_events.specs.Events.Blocks.{is_block}
use Rattle.md_events.specs.Events.Nested.{enter, is_enter}
use Rattle.md_events.specs.Events.Spelled.{role}
use Rattle.md_tables.specs.Heads.{is_table}
use Rattle.md_tables.specs.Tabled.{following, bound_of, in_front, next, tabled, tabled_from}
use Rattle.md_tables.specs.declared.cells.Stage.TheVariants as row
use Rattle.md_tables.specs.declared.tables.Bound.{Bound}
use Rattle.md_tables.specs.declared.tables.Bound.TheVariants.{BeginsRow, BeginsTable, EndsDelimiter, EndsTable, Other}
use Rattle.md_tables.specs.declared.tables.Section.TheVariants as in_table
use Rattle.md_order.proofs.Names.{item-bare, tableless}
use Rattle.md_order.proofs.Passed.{tables-pass}
use Rattle.md_order.proofs.Plain.{of_item}

-- The events with headings and tables set, where no setext heading is open.
abbrev pub leaves_set : List Event → List Event
leaves_set es = tabled (turned_from false (resolved Outside es))

-- what an item sees ahead of it: its marker, and what the next block is
pub record SameAhead (bytes : List ℕ) (xs ys : List Event) : Type 0 where
  pub marker : marker_ahead bytes xs ≡ marker_ahead bytes ys
  pub next : next_item bytes xs ≡ next_item bytes ys

-- and so after one more event
ahead-on : (bytes : List ℕ) (e : Event) (xs ys : List Event) → SameAhead bytes xs ys →
    SameAhead bytes (e ∷ xs) (e ∷ ys)
ahead-on bytes e xs ys h = record {
  marker = ap (marker_by e.kind (role e.name) (get_or bytes e.point.index 0)) h.marker;
  next =
      ap (λ (m : ℕ). next_by e.kind (role e.name) m (next_item bytes xs)) h.marker
      ∙ ap (next_by e.kind (role e.name) (marker_ahead bytes ys)) h.next;
}

-- Items, and what is of no block, are given as they are.

-- a name of no heading, paragraph and table
record IsNoLeaf (name : Name) : Type 0 where
  heading : is_heading name ≡ false
  paragraph : is_paragraph name ≡ false
  table : is_table name ≡ false

other-no_leaf : (name : Name) → is_block (role name) ≡ false → IsNoLeaf name
other-no_leaf n.HeadingAtx h = absurd (let no : true ≡ false = h in cc)
other-no_leaf n.Paragraph h = absurd (let no : true ≡ false = h in cc)
other-no_leaf n.GfmTable h = absurd (let no : true ≡ false = h in cc)
other-no_leaf _ h = record { heading = refl; paragraph = refl; table = refl }

item-no_leaf : (e : Event) → of_item e ≡ true → IsNoLeaf e.name
item-no_leaf e h =
    let bare = item-bare e.name h in
    record { heading = bare.heading; paragraph = bare.paragraph; table = bare.table }

-- where no setext heading is open, underlines are too
off-given : (e : Event) (es : List Event) → is_paragraph e.name ≡ false →
    turned_from false (e ∷ es) ≡ e ∷ turned_from false es
off-given e es h = go e.kind e.name h
  where
    go : (kind : Kind) (name : Name) → is_paragraph name ≡ false →
        given_by (turn_by kind name) false (is_turned es) e
        ++ turned_from (on_by (turn_by kind name) false (is_turned es)) es
        ≡ e ∷ turned_from false es
    go Enter n.Paragraph h = absurd (let no : true ≡ false = h in cc)
    go Exit n.Paragraph h = refl
    go Exit n.HeadingSetextUnderline h = refl
    go Enter _ h = refl
    go Exit _ h = refl

leaf-past : (e : Event) (es : List Event) → IsNoLeaf e.name → leaves_set (e ∷ es) ≡ e ∷ leaves_set es
leaf-past e es h =
    ap (λ (x : Bool). tabled (turned_from false (e ∷ resolved (cond x Before Outside) es)))
    (and_right (is_enter e.kind) (is_heading e.name) h.heading)
    ∙ ap tabled (off-given e (resolved Outside es) h.paragraph)
    ∙ tables-pass true e (turned_from false (resolved Outside es)) (λ k. tableless e.kind e.name h.table)

-- Any other block hides what is after it, and what is given for it begins with such a block.

record IsHidden (bytes : List ℕ) (es : List Event) : Type 0 where
  marker : marker_ahead bytes es ≡ 0
  next : next_item bytes es ≡ None

block-hides : (bytes : List ℕ) (e : Event) (es : List Event) → is_block (role e.name) ≡ true → of_item e ≡ false →
    IsHidden bytes (e ∷ es)
block-hides bytes e es block item = record { marker = rw block refl; next = rw (block, item) (go e.kind) }
  where
    go : (kind : Kind) → cond (is_enter kind && false) (Some (marker_ahead bytes es)) None ≡ None
    go Enter = refl
    go Exit = refl

table-hides : (bytes : List ℕ) (e : Event) (es : List Event) → is_block (role e.name) ≡ true → of_item e ≡ false →
    IsHidden bytes (tabled (e ∷ es))
table-hides bytes e es block item = go (bound_of e)
  where
    go : (b : Bound) →
        IsHidden bytes
        ((in_front in_table.Outside b e.point ++ (e ∷ []) ++ following in_table.Outside b e.point)
        ++ tabled_from (next in_table.Outside b) row.Outside es)
    go BeginsTable = block-hides bytes e _ block item
    go EndsTable = block-hides bytes e _ block item
    go BeginsRow = block-hides bytes e _ block item
    go EndsDelimiter = block-hides bytes e _ block item
    go Other = block-hides bytes e _ block item

leaf-hides : (bytes : List ℕ) (e : Event) (es : List Event) → is_block (role e.name) ≡ true → of_item e ≡ false →
    IsHidden bytes (tabled (turned_from false (e ∷ es)))
leaf-hides bytes e es block item = go (turn e) (is_turned es)
  where
    go : (t : Turn) (begins : Bool) →
        IsHidden bytes (tabled (given_by t false begins e ++ turned_from (on_by t false begins) es))
    go BeginsText true =
        table-hides bytes (enter n.HeadingSetext e.point)
        (enter n.HeadingSetextText e.point ∷ turned_from true es) refl refl
    go BeginsText false = table-hides bytes e (turned_from false es) block item
    go EndsText begins = table-hides bytes e (turned_from false es) block item
    go EndsUnderline begins = table-hides bytes e (turned_from false es) block item
    go Stays begins = table-hides bytes e (turned_from false es) block item

-- So an item sees the same.
pub same-ahead : (bytes : List ℕ) (es : List Event) → SameAhead bytes (leaves_set es) es
same-ahead bytes [] = record { marker = refl; next = refl }
same-ahead bytes (e ∷ es) = go (of_item e) refl (is_block (role e.name)) refl (same-ahead bytes es)
  where
    past : IsNoLeaf e.name → SameAhead bytes (leaves_set es) es → SameAhead bytes (leaves_set (e ∷ es)) (e ∷ es)
    past none more =
        let same = leaf-past e es none in
        let on : SameAhead bytes (e ∷ leaves_set es) (e ∷ es) = ahead-on bytes e (leaves_set es) es more in
        record { marker = ap (marker_ahead bytes) same ∙ on.marker; next = ap (next_item bytes) same ∙ on.next }

    go : (x : Bool) → of_item e ≡ x → (y : Bool) → is_block (role e.name) ≡ y →
        SameAhead bytes (leaves_set es) es → SameAhead bytes (leaves_set (e ∷ es)) (e ∷ es)
    go true item y block more = past (item-no_leaf e item) more
    go false item false block more = past (other-no_leaf e.name block) more
    go false item true block more =
        let set = leaf-hides bytes e (resolved (cond (begins is_heading e) Before Outside) es) block item in
        let own = block-hides bytes e es block item in
        record { marker = set.marker ∙ sym own.marker; next = set.next ∙ sym own.next }
