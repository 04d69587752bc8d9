-- What lists around items keep of the events: their points, their innermost pairs, and the names of endings.
use Rattle.std.proofs.Common.{◌≡◌, ℕ, Bool, true, false, cond, ◌&&◌, ◌||◌, List, [], ◌∷◌, ◌++◌}
use Rattle.std.proofs.Common.{refl, ap, sym, ◌∙◌, subst, append_assoc}
use Rattle.std.specs.Prelude.{Option, if◌then◌else◌}
use Rattle.std.specs.List.{list_all}
use Rattle.md_engine.specs.declared.event.Event.{Event}
use Rattle.md_engine.specs.declared.event.Kind.{Kind}
use Rattle.md_engine.specs.declared.event.Kind.TheVariants.{Enter, Exit}
use Rattle.md_engine.specs.declared.event.Name.{Name}
use Rattle.md_engine.specs.declared.event.Name.TheVariants as n
use Rattle.md_engine.specs.declared.event.Point.{Point}
use Rattle.md_containers.specs.Listed.{Place, is_continued, is_item, list_begin, list_end, list_name, listed}
use Rattle.md_containers.specs.Listed.{listed_from, marker_ahead, next_item, outside, place_following}
use Rattle.md_containers.proofs.ListedLemmas.{passes-given}
use Rattle.md_events.specs.Events.Endings.{EndingPlace, endings_are_right, endings_are_right_from, ends_as_begun}
use Rattle.md_events.specs.Events.Endings.{line_start, on_line, IsOther, spot_after}
use Rattle.md_events.specs.Events.Inline.{Piece, piece_of, pieces, pieces_from}
use Rattle.md_events.specs.Events.Nested.{enter, exit}
use Rattle.md_events.specs.Events.Places.{are_placed, first_point, is_placed}
use Rattle.md_events.specs.Events.Spelled.{is_ordered, role}

pub item-name : (name : Name) → is_item (role name) ≡ true → name ≡ n.ListItem
item-name n.ListItem h = refl
item-name _ h = absurd (cc)

-- An event begins an item, ends one, or passes.
pub by-turn : (P : Kind → Name → Type 0) → P Enter n.ListItem → P Exit n.ListItem →
    ((kind : Kind) (name : Name) → is_item (role name) ≡ false → P kind name) → (kind : Kind) (name : Name) →
    P kind name
by-turn P begins ends passes kind name = go (is_item (role name)) refl kind
  where
    go : (x : Bool) → is_item (role name) ≡ x → (kind : Kind) → P kind name
    go true h Enter = subst (P Enter) (sym (item-name name h)) begins
    go true h Exit = subst (P Exit) (sym (item-name name h)) ends
    go false h kind = passes kind name h

-- what holds of both names of lists
pub by-list : (P : Name → Type 0) → P n.ListOrdered → P n.ListUnordered → (m : ℕ) → P (list_name m)
by-list P ordered unordered m = go (is_ordered m)
  where
    go : (x : Bool) → P (if x then n.ListOrdered else n.ListUnordered)
    go true = ordered
    go false = unordered

-- what holds of nothing, and of the begin or the end of any list, holds of the begin, or the end, that an item gets
pub with-begin : (P : List Event → Type 0) (within : Bool) (m : ℕ) (p : Point) → P [] →
    P (enter n.ListOrdered p ∷ []) → P (enter n.ListUnordered p ∷ []) → P (list_begin within m p)
with-begin P true m p none ordered unordered = none
with-begin P false m p none ordered unordered = by-list (λ (name : Name). P (enter name p ∷ [])) ordered unordered m

pub with-end : (P : List Event → Type 0) (markers : List ℕ) (next : Option ℕ) (p : Point) → P [] →
    P (exit n.ListOrdered p ∷ []) → P (exit n.ListUnordered p ∷ []) → P (list_end markers next p)
with-end P [] next p none ordered unordered = none
with-end P (m ∷ markers) next p none ordered unordered = go (is_continued m next)
  where
    go : (x : Bool) → P (cond x [] (exit (list_name m) p ∷ []))
    go true = none
    go false = by-list (λ (name : Name). P (exit name p ∷ [])) ordered unordered m

-- What lists around items leave as it is: what is read of events from any state on, event by event.
pub record Unmoved (S A : Type 0) (F : S → List Event → A) : Type 0 where
  pub begins : (s : S) (e : Event) (within : Bool) (m : ℕ) (es lists : List Event) →
      ((t : S) → F t lists ≡ F t es) →
      F s (list_begin within m e.point ++ record e { kind = Enter; name = n.ListItem } ∷ lists)
      ≡ F s (record e { kind = Enter; name = n.ListItem } ∷ es)
  pub ends : (s : S) (e : Event) (markers : List ℕ) (next : Option ℕ) (es lists : List Event) →
      ((t : S) → F t lists ≡ F t es) →
      F s (record e { kind = Exit; name = n.ListItem } ∷ list_end markers next e.point ++ lists)
      ≡ F s (record e { kind = Exit; name = n.ListItem } ∷ es)
  pub passes : (s : S) (bytes : List ℕ) (place : Place) (e : Event) (es : List Event) →
      ((t : S) → F t (listed_from bytes place es) ≡ F t es) → F s (e ∷ listed_from bytes place es) ≡ F s (e ∷ es)

pub unmoved : {S A : Type 0} {F : S → List Event → A} → Unmoved S A F → (bytes : List ℕ) (place : Place)
    (es : List Event) (s : S) → F s (listed_from bytes place es) ≡ F s es
unmoved walk bytes place [] s = refl
unmoved {F = F} walk bytes place (e ∷ es) s =
    by-turn
    (λ (kind : Kind) (name : Name).
    F s (listed_from bytes place (record e { kind = kind; name = name } ∷ es))
    ≡ F s (record e { kind = kind; name = name } ∷ es))
    (ap (F s)
    (append_assoc (list_begin place.within (marker_ahead bytes es) e.point)
    (record e { kind = Enter; name = n.ListItem } ∷ []) (listed_from bytes inner es))
    ∙ walk.begins s e place.within (marker_ahead bytes es) es (listed_from bytes inner es)
    (λ t. unmoved walk bytes inner es t))
    (walk.ends s e place.markers (next_item bytes es) es (listed_from bytes following es)
    (λ t. unmoved walk bytes following es t))
    (passed (λ t. unmoved walk bytes place es t))
    e.kind e.name
  where
    inner : Place
    inner = record { within = false; markers = marker_ahead bytes es ∷ place.markers }

    following : Place
    following = place_following place (next_item bytes es)

    passed : ((t : _) → F t (listed_from bytes place es) ≡ F t es) → (kind : Kind) (name : Name) →
        is_item (role name) ≡ false →
        F s (listed_from bytes place (record e { kind = kind; name = name } ∷ es))
        ≡ F s (record e { kind = kind; name = name } ∷ es)
    passed h kind name i =
        ap (F s) (passes-given bytes place (record e { kind = kind; name = name }) es i)
        ∙ walk.passes s bytes place (record e { kind = kind; name = name }) es h

-- Points.

and-twice : (a b : Bool) → (a && (a && b)) ≡ (a && b)
and-twice true b = refl
and-twice false b = refl

points-unmoved : (p : Point → Bool) →
    Unmoved (Unit {0}) Bool (λ s es. list_all (λ (e : Event). p e.point) es)
points-unmoved p = record {
  begins = λ s e within m es lists h.
      let once = ap (λ (b : Bool). p e.point && b) (h tt) in
      let twice = and-twice (p e.point) (list_all (λ (e : Event). p e.point) lists) ∙ once in
      with-begin
      (λ (xs : List Event).
      list_all (λ (e : Event). p e.point) (xs ++ record e { kind = Enter; name = n.ListItem } ∷ lists)
      ≡ (p e.point && list_all (λ (e : Event). p e.point) es))
      within m e.point once twice twice;
  ends = λ s e markers next es lists h.
      let once = ap (λ (b : Bool). p e.point && b) (h tt) in
      let twice = and-twice (p e.point) (list_all (λ (e : Event). p e.point) lists) ∙ once in
      with-end
      (λ (xs : List Event).
      (p e.point && list_all (λ (e : Event). p e.point) (xs ++ lists))
      ≡ (p e.point && list_all (λ (e : Event). p e.point) es))
      markers next e.point once twice twice;
  passes = λ s bytes place e es h. ap (λ (b : Bool). p e.point && b) (h tt);
}

-- events are at points of the text if they did
pub listed-placed : (text bytes : List ℕ) (events : List Event) →
    are_placed text (listed bytes events) ≡ are_placed text events
listed-placed text bytes events = unmoved (points-unmoved (is_placed text)) bytes outside events tt

-- Endings.

-- the begin of a list says of its line what the begin of its first item says
filled-twice : (a b : Bool) → (a || (a || b)) ≡ (a || b)
filled-twice true b = refl
filled-twice false b = refl

endings-unmoved : Unmoved EndingPlace Bool endings_are_right_from
endings-unmoved = record {
  begins = λ s e within m es lists h.
      let twice =
      ap (λ (b : Bool). endings_are_right_from (record s { after_leaf = b }) lists)
      (filled-twice s.in_leaf s.after_leaf) in
      with-begin
      (λ (xs : List Event).
      endings_are_right_from s (xs ++ record e { kind = Enter; name = n.ListItem } ∷ lists)
      ≡ endings_are_right_from (spot_after Enter IsOther s) lists)
      within m e.point refl twice twice
      ∙ h (spot_after Enter IsOther s);
  ends = λ s e markers next es lists h.
      with-end (λ (xs : List Event). endings_are_right_from s (xs ++ lists) ≡ endings_are_right_from s es)
      markers next e.point
      (h s) (h s) (h s);
  passes = λ s bytes place e es h.
      ap (λ (b : Bool). ends_as_begun e.kind (on_line e.name) s && b) (h (spot_after e.kind (on_line e.name) s));
}

-- endings have the right names if they had
pub listed-endings : (bytes : List ℕ) (events : List Event) →
    endings_are_right (listed bytes events) ≡ endings_are_right events
listed-endings bytes events = unmoved endings-unmoved bytes outside events line_start

-- Pieces.

-- no pair ends where a part begins
no-piece : (f e : Event) (kind : Kind) → piece_of f e kind Enter ≡ []
no-piece f e Enter = refl
no-piece f e Exit = refl

-- an end begins no pair
exit-pieces : (f g : Event) (es : List Event) →
    pieces_from (record f { kind = Exit }) es ≡ pieces_from (record g { kind = Exit }) es
exit-pieces f g [] = refl
exit-pieces f g (e ∷ es) = refl

-- so the begin and the end of a list make none, and part none
pub begin-pieces : (f e : Event) (within : Bool) (m : ℕ) (p : Point) (es : List Event) →
    pieces_from f (list_begin within m p ++ record e { kind = Enter } ∷ es)
    ≡ pieces_from f (record e { kind = Enter } ∷ es)
begin-pieces f e true m p es = refl
begin-pieces f e false m p es =
    ap (λ (l : List Piece). l ++ pieces_from (record e { kind = Enter }) es)
    (no-piece f (enter (list_name m) p) f.kind ∙ sym (no-piece f (record e { kind = Enter }) f.kind))

pub end-pieces : (f e : Event) (markers : List ℕ) (next : Option ℕ) (p : Point) (es : List Event) →
    pieces_from f (record e { kind = Exit } ∷ list_end markers next p ++ es)
    ≡ pieces_from f (record e { kind = Exit } ∷ es)
end-pieces f e [] next p es = refl
end-pieces f e (m ∷ markers) next p es = go (is_continued m next)
  where
    go : (x : Bool) →
        pieces_from f (record e { kind = Exit } ∷ cond x [] (exit (list_name m) p ∷ []) ++ es)
        ≡ pieces_from f (record e { kind = Exit } ∷ es)
    go true = refl
    go false =
        ap (λ (l : List Piece). piece_of f (record e { kind = Exit }) f.kind Exit ++ l)
        (exit-pieces (exit (list_name m) p) e es)

-- what an event adds, before such pieces
pub more-pieces : (f e : Event) (xs ys : List Event) → pieces_from e xs ≡ pieces_from e ys →
    pieces_from f (e ∷ xs) ≡ pieces_from f (e ∷ ys)
more-pieces f e xs ys h = ap (λ (l : List Piece). piece_of f e f.kind e.kind ++ l) h

pieces-unmoved : Unmoved Event (List Piece) pieces_from
pieces-unmoved = record {
  begins = λ f e within m es lists h.
      let item : Event = record e { kind = Enter; name = n.ListItem } in
      begin-pieces f item within m e.point lists ∙ more-pieces f item lists es (h item);
  ends = λ f e markers next es lists h.
      let item : Event = record e { kind = Exit; name = n.ListItem } in
      end-pieces f item markers next e.point lists ∙ more-pieces f item lists es (h item);
  passes = λ f bytes place e es h. more-pieces f e (listed_from bytes place es) es (h e);
}

-- any event that ends a part could be before the first
pub first-pieces : (f : Event) (es : List Event) → pieces es ≡ pieces_from (record f { kind = Exit }) es
first-pieces f [] = refl
first-pieces f (e ∷ es) = refl

-- lists are no pieces, and part none
pub listed-pieces : (bytes : List ℕ) (events : List Event) → pieces (listed bytes events) ≡ pieces events
listed-pieces bytes events =
    first-pieces some (listed bytes events) ∙ unmoved pieces-unmoved bytes outside events some
    ∙ sym (first-pieces some events)
  where
    some : Event
    some = exit n.ListItem first_point
