-- What a look ahead in a row sees ends where a table does.
use Rattle.std.proofs.Common.{◌≡◌, Bool, true, false, cond, ◌&&◌, List, [], ◌∷◌, drop, refl, ap, sym, ◌∙◌}
use Rattle.std.proofs.lemmas.Bool.{and_parts, and_right}
use Rattle.md_engine.specs.declared.event.Event.{Event}
use Rattle.md_engine.specs.declared.event.Name.{Name}
use Rattle.md_engine.specs.declared.event.Name.TheVariants as n
use Rattle.md_events.specs.Events.Nested.{is_exit}
use Rattle.md_tables.specs.Cells.{begins_inner, ends_divider, ends_row, first_is, is_continued, has_white, is_divider}
use Rattle.md_tables.specs.Cells.{is_inner, is_last, is_row, is_white, row_ends}
use Rattle.md_tables.specs.Heads.{is_table}
use Rattle.md_tables.specs.declared.cells.RowKind.{RowKind}
use Rattle.md_tables.specs.declared.cells.RowKind.TheVariants.{Delimiter, Text}
use Rattle.md_tables.proofs.CellsLemmas.{Looks}

-- What no look passes.
pub record IsDark (name : Name) : Type 0 where
  pub white : is_white name ≡ false
  pub row : is_row name ≡ false
  pub divider : is_divider name ≡ false
  pub inner : (k : RowKind) → is_inner k name ≡ false

pub table-dark : (name : Name) → is_table name ≡ true → IsDark name
table-dark n.GfmTable h = record { white = refl; row = refl; divider = refl; inner = λ k. dark k }
  where
    dark : (k : RowKind) → is_inner k n.GfmTable ≡ false
    dark Text = refl
    dark Delimiter = refl
table-dark _ h = absurd (let no : false ≡ true = h in cc)

-- Two lists that are the same up to such an event in each, or throughout.
pub data Like : List Event → List Event → Type 0 where
  AtEnd : Like [] []
  Same : (e : Event) (xs ys : List Event) → Like xs ys → Like (e ∷ xs) (e ∷ ys)
  Dark : (e : Event) (xs ys : List Event) → IsDark e.name → Like (e ∷ xs) (e ∷ ys)

first-like : (test : Event → Bool) (xs ys : List Event) → Like xs ys → first_is test xs ≡ first_is test ys
first-like test _ _ AtEnd = refl
first-like test _ _ (Same e xs ys h) = refl
first-like test _ _ (Dark e xs ys h) = refl

white-first : (e : Event) (es : List Event) →
    has_white (e ∷ es) ≡ (is_white e.name && first_is (λ f. is_white f.name) es)
white-first e [] = sym (and_right (is_white e.name) false refl)
white-first e (f ∷ es) = refl

dark-white : (e : Event) (es : List Event) → IsDark e.name → has_white (e ∷ es) ≡ false
dark-white e es h = white-first e es ∙ ap (λ (x : Bool). x && first_is (λ f. is_white f.name) es) h.white

white-like : (xs ys : List Event) → Like xs ys → has_white xs ≡ has_white ys
white-like _ _ AtEnd = refl
white-like _ _ (Same e xs ys h) =
    white-first e xs ∙ ap (λ (x : Bool). is_white e.name && x) (first-like (λ f. is_white f.name) xs ys h)
    ∙ sym (white-first e ys)
white-like _ _ (Dark e xs ys h) = dark-white e xs h ∙ sym (dark-white e ys h)

-- what comes after whitespace
second-like : (test : Event → Bool) (xs ys : List Event) → Like xs ys → first_is (λ f. is_white f.name) ys ≡ true →
    first_is test (drop 1 xs) ≡ first_is test (drop 1 ys)
second-like test _ _ AtEnd w = refl
second-like test _ _ (Same e xs ys h) w = first-like test xs ys h
second-like test _ _ (Dark e xs ys h) w = absurd (let no : false ≡ true = sym h.white ∙ w in cc)

following-like : (test : Event → Bool) (xs ys : List Event) → Like xs ys → has_white ys ≡ true →
    first_is test (drop 2 xs) ≡ first_is test (drop 2 ys)
following-like test _ _ AtEnd w = refl
following-like test _ _ (Same e xs ys h) w =
    second-like test xs ys h
    (and_parts (is_white e.name) (first_is (λ f. is_white f.name) ys) (sym (white-first e ys) ∙ w)).1
following-like test _ _ (Dark e xs ys h) w = absurd (let no : false ≡ true = sym (dark-white e ys h) ∙ w in cc)

row-like : (xs ys : List Event) → Like xs ys → row_ends xs ≡ row_ends ys
row-like xs ys h = rw (white-like xs ys h) (go (has_white ys) refl)
  where
    go : (x : Bool) → has_white ys ≡ x →
        first_is ends_row (cond x (drop 2 xs) xs) ≡ first_is ends_row (cond x (drop 2 ys) ys)
    go true w = following-like ends_row xs ys h w
    go false w = first-like ends_row xs ys h

-- an event of no pipe is not the last pipe
no-pipe : (e : Event) (es : List Event) → IsDark e.name → is_last (e ∷ es) ≡ false
no-pipe e es h = ap (λ (x : Bool). x && row_ends es) (and_right (is_exit e.kind) (is_divider e.name) h.divider)

last-like : (xs ys : List Event) → Like xs ys → is_last xs ≡ is_last ys
last-like _ _ AtEnd = refl
last-like _ _ (Same e xs ys h) = ap (λ (x : Bool). ends_divider e && x) (row-like xs ys h)
last-like _ _ (Dark e xs ys h) = no-pipe e xs h ∙ sym (no-pipe e ys h)

on-like : (k : RowKind) (xs ys : List Event) → Like xs ys → is_continued k xs ≡ is_continued k ys
on-like Text xs ys h = rw (white-like xs ys h) (go (has_white ys) refl)
  where
    go : (x : Bool) → has_white ys ≡ x →
        (x && first_is (begins_inner Text) (drop 2 xs)) ≡ (x && first_is (begins_inner Text) (drop 2 ys))
    go true w = following-like (begins_inner Text) xs ys h w
    go false w = refl
on-like Delimiter xs ys h = first-like (begins_inner Delimiter) xs ys h

-- So a look sees the same.
pub looks-like : (xs ys : List Event) → Like xs ys → Looks xs ys
looks-like xs ys h = record { last = last-like xs ys h; on = λ k. on-like k xs ys h }
