-- With lists around items, chunks are where they did.
use Rattle.std.proofs.Common.{◌≡◌, ℕ, zero, suc, Bool, true, false, cond, ◌&&◌, List, [], ◌∷◌, ◌++◌, refl, ap, sym, ◌∙◌}
use Rattle.std.specs.Prelude.{Option, ◌==◌, not}
use Rattle.md_engine.specs.declared.event.Event.{Event}
use Rattle.md_engine.specs.declared.event.Kind.{Kind}
use Rattle.md_engine.specs.declared.event.Kind.TheVariants.{Enter, Exit}
use Rattle.md_engine.specs.declared.event.Name.TheVariants as n
use Rattle.md_engine.specs.declared.event.Point.{Point}
use Rattle.md_containers.specs.Listed.{Place, list_begin, list_end, listed, listed_from, outside}
use Rattle.md_containers.proofs.ListedKept.{Unmoved, unmoved, with-begin, with-end}
use Rattle.md_events.specs.Events.Inline.{is_linked}
use Rattle.md_events.specs.Events.Nested.{is_exit}
use Rattle.md_events.specs.Events.Tiles.{chunks_in_parts, depth_following, is_chunk, is_part, may_be_in_part}

and-false : (a : Bool) → (a && false) ≡ false
and-false true = refl
and-false false = refl

-- In a text part neither an item nor a list is.

item-chunk : (e : Event) (kind : Kind) (es : List Event) →
    is_chunk (record e { kind = kind; name = n.ListItem }) es ≡ false
item-chunk e kind [] = refl
item-chunk e Enter (f ∷ es) = refl
item-chunk e Exit (f ∷ es) = refl

item-inside : (e : Event) (kind : Kind) (depth : ℕ) (es : List Event) →
    chunks_in_parts (suc depth) (record e { kind = kind; name = n.ListItem } ∷ es) ≡ false
item-inside e kind depth es = go (is_linked e)
  where
    item : Event
    item = record e { kind = kind; name = n.ListItem }

    valid : may_be_in_part kind n.ListItem ≡ false
    valid = by kind
      where
        by : (kind : Kind) → may_be_in_part kind n.ListItem ≡ false
        by Enter = refl
        by Exit = refl

    go : (x : Bool) →
        (cond x ((depth == 0) && is_chunk item es) (may_be_in_part kind n.ListItem)
        && chunks_in_parts (depth_following kind (suc depth)) es) ≡ false
    go true =
        ap (λ (b : Bool). ((depth == 0) && b) && chunks_in_parts (depth_following kind (suc depth)) es)
        (item-chunk e kind es)
        ∙ ap (λ (b : Bool). b && chunks_in_parts (depth_following kind (suc depth)) es) (and-false (depth == 0))
    go false = ap (λ (b : Bool). b && chunks_in_parts (depth_following kind (suc depth)) es) valid

begin-inside : (e : Event) (within : Bool) (m : ℕ) (p : Point) (depth : ℕ) (es : List Event) →
    chunks_in_parts (suc depth) (list_begin within m p ++ record e { kind = Enter; name = n.ListItem } ∷ es) ≡ false
begin-inside e within m p depth es =
    with-begin
    (λ (xs : List Event). chunks_in_parts (suc depth) (xs ++ record e { kind = Enter; name = n.ListItem } ∷ es) ≡ false)
    within m p (item-inside e Enter depth es) refl refl

-- A chunk ends with the next event, and stays one.

chunk-unmoved : Unmoved Event Bool is_chunk
chunk-unmoved = record {
  begins = λ e f within m es lists h.
      let item : Event = record f { kind = Enter; name = n.ListItem } in
      with-begin (λ (xs : List Event). is_chunk e (xs ++ item ∷ lists) ≡ is_chunk e (item ∷ es)) within m
      f.point refl refl
      refl;
  ends = λ e f markers next es lists h. refl;
  passes = λ e bytes place f es h. refl;
}

-- All events.
chunks-unmoved : Unmoved ℕ Bool chunks_in_parts
chunks-unmoved = record { begins = begins; ends = ends; passes = passes }
  where
    item : Kind → Event → Event
    item kind e = record e { kind = kind; name = n.ListItem }

    begins : (depth : ℕ) (e : Event) (within : Bool) (m : ℕ) (es lists : List Event) →
        ((k : ℕ) → chunks_in_parts k lists ≡ chunks_in_parts k es) →
        chunks_in_parts depth (list_begin within m e.point ++ item Enter e ∷ lists) ≡
        chunks_in_parts depth (item Enter e ∷ es)
    begins zero e within m es lists h =
        let more = ap (λ (b : Bool). not (is_linked e) && b) (h 0) in
        with-begin
        (λ (xs : List Event). chunks_in_parts 0 (xs ++ item Enter e ∷ lists) ≡
        chunks_in_parts 0 (item Enter e ∷ es)) within m
        e.point more more more
    begins (suc depth) e within m es lists h =
        begin-inside e within m e.point depth lists ∙ sym (item-inside e Enter depth es)

    ends : (depth : ℕ) (e : Event) (markers : List ℕ) (next : Option ℕ) (es lists : List Event) →
        ((k : ℕ) → chunks_in_parts k lists ≡ chunks_in_parts k es) →
        chunks_in_parts depth (item Exit e ∷ list_end markers next e.point ++ lists) ≡
        chunks_in_parts depth (item Exit e ∷ es)
    ends zero e markers next es lists h =
        ap (λ (b : Bool). not (is_linked e) && b)
        (with-end (λ (xs : List Event). chunks_in_parts 0 (xs ++ lists) ≡ chunks_in_parts 0 es) markers next
        e.point (h 0) (h 0)
        (h 0))
    ends (suc depth) e markers next es lists h =
        item-inside e Exit depth (list_end markers next e.point ++ lists) ∙ sym (item-inside e Exit depth es)

    passes : (depth : ℕ) (bytes : List ℕ) (place : Place) (e : Event) (es : List Event) →
        ((k : ℕ) → chunks_in_parts k (listed_from bytes place es) ≡ chunks_in_parts k es) →
        chunks_in_parts depth (e ∷ listed_from bytes place es) ≡ chunks_in_parts depth (e ∷ es)
    passes zero bytes place e es h =
        ap (λ (b : Bool). not (is_linked e) && b) (h (cond (is_part e.name && not (is_exit e.kind)) 1 0))
    passes (suc depth) bytes place e es h =
        let lists : List Event = listed_from bytes place es in
        ap
        (λ (b : Bool).
        cond (is_part e.name) (is_exit e.kind && (depth == 0) && not (is_linked e) && b)
        (cond (is_linked e) ((depth == 0) && is_chunk e lists) (may_be_in_part e.kind e.name)
        && chunks_in_parts (depth_following e.kind (suc depth)) lists))
        (h 0)
        ∙ ap
        (λ (b : Bool).
        cond (is_part e.name) (is_exit e.kind && (depth == 0) && not (is_linked e) && chunks_in_parts 0 es)
        (cond (is_linked e) ((depth == 0) && b) (may_be_in_part e.kind e.name)
        && chunks_in_parts (depth_following e.kind (suc depth)) lists))
        (unmoved chunk-unmoved bytes place es e)
        ∙ ap
        (λ (b : Bool).
        cond (is_part e.name) (is_exit e.kind && (depth == 0) && not (is_linked e) && chunks_in_parts 0 es)
        (cond (is_linked e) ((depth == 0) && is_chunk e es) (may_be_in_part e.kind e.name) && b))
        (h (depth_following e.kind (suc depth)))

-- chunks are in text parts alone, directly inside of them, if they did
pub listed-chunks : (bytes : List ℕ) (events : List Event) →
    chunks_in_parts 0 (listed bytes events) ≡ chunks_in_parts 0 events
listed-chunks bytes events = unmoved chunks-unmoved bytes outside events 0
