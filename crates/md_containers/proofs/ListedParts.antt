-- Lists around items, and text parts: the parts of events stay as they were, and lists may be put around items before
-- text parts are read or after.
use Rattle.std.proofs.Common.{◌≡◌, ℕ, Bool, true, false, cond, ◌&&◌, List, [], ◌∷◌, ◌++◌, refl, ap, sym, ◌∙◌}
use Rattle.std.specs.Prelude.{Option, Some, None}
use Rattle.std.specs.List.{list_all}
use Rattle.md_engine.specs.declared.event.Event.{Event}
use Rattle.md_engine.specs.declared.event.Kind.{Kind}
use Rattle.md_engine.specs.declared.event.Kind.TheVariants.{Enter, Exit}
use Rattle.md_engine.specs.declared.event.Name.TheVariants as n
use Rattle.md_engine.specs.declared.event.Point.{Point}
use Rattle.md_containers.specs.Listed.{Place, list_begin, list_end, listed, listed_from, outside}
use Rattle.md_containers.proofs.ListedKept.{begin-pieces, end-pieces, first-pieces, more-pieces, Unmoved, unmoved}
use Rattle.md_containers.proofs.ListedKept.{with-begin, with-end}
use Rattle.md_events.specs.declared.inline.PartKind.{PartKind}
use Rattle.md_events.specs.Events.Inline.{Part, Piece, pieces, pieces_from}
use Rattle.md_events.specs.Events.Nested.{exit, is_exit}
use Rattle.md_events.specs.Events.Places.{first_point}
use Rattle.md_events.specs.Events.Tiles.{chunks, inside_part, is_part, links_kind, part_at, part_end, part_kind}
use Rattle.md_events.specs.Events.Tiles.{part_of, is_whole_part, parts, are_whole_parts}

-- What is in a text part that is open.

inside-begin : (within : Bool) (m : ℕ) (p : Point) (es : List Event) →
    inside_part (list_begin within m p ++ es) ≡ list_begin within m p ++ inside_part es
inside-begin within m p es =
    with-begin (λ (xs : List Event). inside_part (xs ++ es) ≡ xs ++ inside_part es) within m p refl refl refl

inside-end : (markers : List ℕ) (next : Option ℕ) (p : Point) (es : List Event) →
    inside_part (list_end markers next p ++ es) ≡ list_end markers next p ++ inside_part es
inside-end markers next p es =
    with-end (λ (xs : List Event). inside_part (xs ++ es) ≡ xs ++ inside_part es) markers next p refl refl refl

-- its innermost pairs
inside-unmoved : Unmoved Event (List Piece) (λ f es. pieces_from f (inside_part es))
inside-unmoved = record {
  begins = λ f e within m es lists h.
      let item : Event = record e { kind = Enter; name = n.ListItem } in
      ap (pieces_from f) (inside-begin within m e.point (item ∷ lists))
      ∙ begin-pieces f item within m e.point (inside_part lists)
      ∙ more-pieces f item (inside_part lists) (inside_part es) (h item);
  ends = λ f e markers next es lists h.
      let item : Event = record e { kind = Exit; name = n.ListItem } in
      ap (λ (l : List Event). pieces_from f (item ∷ l)) (inside-end markers next e.point lists)
      ∙ end-pieces f item markers next e.point (inside_part lists)
      ∙ more-pieces f item (inside_part lists) (inside_part es) (h item);
  passes = λ f bytes place e es h. passed f e (listed_from bytes place es) es (h e);
}
  where
    passed : (f e : Event) (xs ys : List Event) → pieces_from e (inside_part xs) ≡ pieces_from e (inside_part ys) →
        pieces_from f (inside_part (e ∷ xs)) ≡ pieces_from f (inside_part (e ∷ ys))
    passed f e xs ys h = go (is_part e.name && is_exit e.kind)
      where
        go : (x : Bool) →
            pieces_from f (cond x [] (e ∷ inside_part xs)) ≡ pieces_from f (cond x [] (e ∷ inside_part ys))
        go true = refl
        go false = more-pieces f e (inside_part xs) (inside_part ys) h

inside-pieces : (bytes : List ℕ) (place : Place) (es : List Event) →
    pieces (inside_part (listed_from bytes place es)) ≡ pieces (inside_part es)
inside-pieces bytes place es =
    first-pieces some (inside_part (listed_from bytes place es)) ∙ unmoved inside-unmoved bytes place es some
    ∙ sym (first-pieces some (inside_part es))
  where
    some : Event
    some = exit n.ListItem first_point

-- Where it ends.

end-unmoved : Unmoved (Unit {0}) Point (λ s es. part_end es)
end-unmoved = record {
  begins = λ s e within m es lists h.
      with-begin
      (λ (xs : List Event). part_end (xs ++ record e { kind = Enter; name = n.ListItem } ∷ lists) ≡ part_end es)
      within m e.point (h tt) (h tt) (h tt);
  ends = λ s e markers next es lists h.
      with-end (λ (xs : List Event). part_end (xs ++ lists) ≡ part_end es) markers next e.point (h tt) (h tt) (h tt);
  passes = λ s bytes place e es h. ap (cond (is_part e.name && is_exit e.kind) e.point) (h tt);
}

-- What its events are linked by.

links-unmoved : (part : PartKind) →
    Unmoved (Unit {0}) Bool (λ s es. list_all (links_kind part) (inside_part es))
links-unmoved part = record {
  begins = λ s e within m es lists h.
      let item : Event = record e { kind = Enter; name = n.ListItem } in
      let more = ap (λ (b : Bool). links_kind part item && b) (h tt) in
      with-begin
      (λ (xs : List Event).
      list_all (links_kind part) (inside_part (xs ++ item ∷ lists))
      ≡ (links_kind part item && list_all (links_kind part) (inside_part es)))
      within m e.point more more more;
  ends = λ s e markers next es lists h.
      ap (λ (b : Bool). links_kind part (record e { kind = Exit; name = n.ListItem }) && b)
      (with-end
      (λ (xs : List Event).
      list_all (links_kind part) (inside_part (xs ++ lists)) ≡ list_all (links_kind part) (inside_part es))
      markers next e.point (h tt) (h tt) (h tt));
  passes = λ s bytes place e es h. passed e (listed_from bytes place es) es (h tt);
}
  where
    passed : (e : Event) (xs ys : List Event) →
        list_all (links_kind part) (inside_part xs) ≡ list_all (links_kind part) (inside_part ys) →
        list_all (links_kind part) (inside_part (e ∷ xs)) ≡ list_all (links_kind part) (inside_part (e ∷ ys))
    passed e xs ys h = go (is_part e.name && is_exit e.kind)
      where
        go : (x : Bool) →
            list_all (links_kind part) (cond x [] (e ∷ inside_part xs))
            ≡ list_all (links_kind part) (cond x [] (e ∷ inside_part ys))
        go true = refl
        go false = ap (λ (b : Bool). links_kind part e && b) h

-- All text parts: no list and no item is one.

part-same : (bytes : List ℕ) (place : Place) (kind : Kind) (part : Option PartKind) (es : List Event) →
    part_at kind part (listed_from bytes place es) ≡ part_at kind part es
part-same bytes place Enter (Some kind) es =
    ap (λ (l : List Piece). part_of kind (chunks l)) (inside-pieces bytes place es)
part-same bytes place Enter None es = refl
part-same bytes place Exit part es = refl

parts-unmoved : Unmoved (Unit {0}) (List Part) (λ s es. parts es)
parts-unmoved = record {
  begins = λ s e within m es lists h.
      with-begin
      (λ (xs : List Event). parts (xs ++ record e { kind = Enter; name = n.ListItem } ∷ lists) ≡ parts es)
      within m e.point (h tt) (h tt) (h tt);
  ends = λ s e markers next es lists h.
      with-end (λ (xs : List Event). parts (xs ++ lists) ≡ parts es) markers next e.point (h tt) (h tt) (h tt);
  passes = λ s bytes place e es h.
      ap (λ (l : List Part). part_at e.kind (part_kind e.name) (listed_from bytes place es) ++ l) (h tt)
      ∙ ap (λ (l : List Part). l ++ parts es) (part-same bytes place e.kind (part_kind e.name) es);
}

-- the text parts stay
pub listed-parts : (bytes : List ℕ) (events : List Event) → parts (listed bytes events) ≡ parts events
listed-parts bytes events = unmoved parts-unmoved bytes outside events tt

are_valid-same : (text bytes : List ℕ) (place : Place) (kind : Kind) (part : Option PartKind) (p : Point)
    (es : List Event) →
    is_whole_part text kind part p (listed_from bytes place es) ≡ is_whole_part text kind part p es
are_valid-same text bytes place Enter (Some kind) p es =
    rw (
      inside-pieces bytes place es,
      unmoved end-unmoved bytes place es tt,
      unmoved (links-unmoved kind) bytes place es tt,
    )
    refl
are_valid-same text bytes place Enter None p es = refl
are_valid-same text bytes place Exit part p es = refl

are_valid-unmoved : (text : List ℕ) → Unmoved (Unit {0}) Bool (λ s es. are_whole_parts text es)
are_valid-unmoved text = record {
  begins = λ s e within m es lists h.
      with-begin
      (λ (xs : List Event).
      are_whole_parts text (xs ++ record e { kind = Enter; name = n.ListItem } ∷ lists) ≡ are_whole_parts text es)
      within m e.point (h tt) (h tt) (h tt);
  ends = λ s e markers next es lists h.
      with-end (λ (xs : List Event). are_whole_parts text (xs ++ lists) ≡ are_whole_parts text es) markers next e.point
      (h tt) (h tt) (h tt);
  passes = λ s bytes place e es h.
      ap (λ (b : Bool). is_whole_part text e.kind (part_kind e.name) e.point (listed_from bytes place es) && b) (h tt)
      ∙ ap (λ (b : Bool). b && are_whole_parts text es)
      (are_valid-same text bytes place e.kind (part_kind e.name) e.point es);
}

-- and are as they did
pub listed-valid : (text bytes : List ℕ) (events : List Event) →
    are_whole_parts text (listed bytes events) ≡ are_whole_parts text events
listed-valid text bytes events = unmoved (are_valid-unmoved text) bytes outside events tt
