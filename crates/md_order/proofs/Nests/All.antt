-- What the resolvers that are wanted give nests.
use Rattle.std.proofs.Common.{◌≡◌, ℕ, Bool, true, false, List, ◌++◌, refl}
use Rattle.md_engine.specs.declared.event.Event.{Event}
use Rattle.md_engine.specs.declared.event.Name.TheVariants as n
use Rattle.md_engine.specs.declared.event.Point.{Point}
use Rattle.md_containers.specs.Listed.{listed}
use Rattle.md_containers.proofs.ListedNests.{listed-nested}
use Rattle.md_leaves.specs.HeadingText.{headings_resolved}
use Rattle.md_leaves.specs.Turned.{turned}
use Rattle.md_events.specs.Events.Nested.{Nested, around, pair}
use Rattle.md_tables.specs.Tabled.{tabled}
use Rattle.md_order.specs.declared.wanted.Wanted.{Wanted}
use Rattle.md_order.specs.HeadingsNest.{HeadingsNest}
use Rattle.md_order.specs.InOrder.{every, in_order, set_if}
use Rattle.md_order.specs.Nests.{ListsNest, MayNest}
use Rattle.md_order.specs.TablesNest.{TablesNest}
use Rattle.md_order.specs.TurnsNest.{TurnsNest}
use Rattle.md_order.proofs.Nests.Headings.{headings-nested}
use Rattle.md_order.proofs.Nests.Tables.{tables-nested}
use Rattle.md_order.proofs.Nests.Turns.{turned-nested}

pub lists-nested : (bytes : List ℕ) (events : List Event) → ListsNest events → Nested events →
    Nested (listed bytes events)
lists-nested bytes events may nested = listed-nested bytes events nested may

-- a function that nests what fits it, if it is wanted
set-nested : (May : List Event → Type 0) (f : List Event → List Event) →
    ((es : List Event) → May es → Nested es → Nested (f es)) → (x : Bool) (es : List Event) → (x ≡ true → May es) →
    Nested es → Nested (set_if x f es)
set-nested May f keeps true es may nested = keeps es (may refl) nested
set-nested May f keeps false es may nested = nested

pub in_order-nested : (w : Wanted) (bytes : List ℕ) (events : List Event) → MayNest w bytes events → Nested events →
    Nested (in_order w bytes events)
in_order-nested w bytes events may nested =
    set-nested TablesNest tabled tables-nested w.tables
    (set_if w.setext turned (set_if w.atx headings_resolved (set_if w.items (listed bytes) events))) may.tables
    (set-nested TurnsNest turned turned-nested w.setext
    (set_if w.atx headings_resolved (set_if w.items (listed bytes) events)) may.turns
    (set-nested HeadingsNest headings_resolved headings-nested w.atx (set_if w.items (listed bytes) events) may.headings
    (set-nested ListsNest (listed bytes) (lists-nested bytes) w.items events may.lists nested)))

-- An item that holds a paragraph and its underline, as states give them, fits all four.
sample : (bytes : List ℕ) (p q r s : Point) →
    MayNest (every) bytes
    (around n.ListItem p s
    (around n.Paragraph p q (pair n.Data p q) ++ pair n.LineEnding q r
    ++ around n.HeadingSetextUnderline r s (pair n.HeadingSetextUnderlineSequence r s)))
sample bytes p q r s = record {
  lists = λ on. (tt, (tt, (tt, (tt, (tt, (tt, (tt, (tt, (tt, (tt, (tt, (tt, tt))))))))))));
  headings = λ on. tt;
  turns =
      λ on. (
        tt,
        (tt, (tt, ((refl, refl), (tt, (tt, (refl, (tt, (refl, ((refl, refl), (tt, (tt, (tt, (tt, refl))))))))))))),
      );
  tables =
      λ on. (tt, (tt, (tt, (tt, (tt, (tt, (tt, (tt, (tt, (tt, (tt, (tt, (tt, (tt, (tt, (tt, tt))))))))))))))));
}
