-- Where the texts of headings are set, events that are at places of the text still do.
use Rattle.std.proofs.Common.{◌≡◌, ℕ, Bool, true, false, cond, List, [], ◌∷◌, ◌++◌, Option, Some, None, refl}
use Rattle.std.specs.Prelude.{IfSome}
use Rattle.std.proofs.lemmas.List.Elements.{All-append, All-cons, All-head, All-nil, All-push, All-tail}
use Rattle.md_engine.specs.declared.event.Event.{Event}
use Rattle.md_engine.specs.declared.event.Name.TheVariants as n
use Rattle.md_engine.specs.declared.event.Point.{Point}
use Rattle.md_engine.specs.Place.{IsPlaced}
use Rattle.md_leaves.specs.HeadingText.{Before, Opened, Outside, Place, Within, begins, ends, headings_resolved}
use Rattle.md_leaves.specs.HeadingText.{is_heading, is_run, is_sequence, linked_text, resolved, text_between}
use Rattle.md_leaves.specs.HeadingRuns.{heading_link}
use Rattle.md_events.specs.Events.Nested.{enter, enter_link, exit}
use Rattle.md_events.specs.Parts.{ArePlaced}
use Rattle.md_events.specs.Events.Tiles.{is_data}

abbrev Valid : List ℕ → Event → Type 0
Valid bytes e = IsPlaced bytes e.point

linked-placed : (bytes : List ℕ) (first after : Point) → IsPlaced bytes first → IsPlaced bytes after →
    ArePlaced bytes (linked_text (Some (record { first = first; after = after })))
linked-placed bytes first after a b =
    let begin = enter_link n.Data first heading_link in
    let last = exit n.Data after in
    let end = exit n.HeadingAtxText after in
    All-cons (Valid bytes) (enter n.HeadingAtxText first) (begin ∷ last ∷ end ∷ []) a
    (All-cons (Valid bytes) begin (last ∷ end ∷ []) a
    (All-cons (Valid bytes) last (end ∷ []) b (All-cons (Valid bytes) end [] b (All-nil (Valid bytes)))))

text-placed : (bytes : List ℕ) (first : Point) (after : Option Point) → IsPlaced bytes first →
    IfSome after (IsPlaced bytes) → ArePlaced bytes (text_between first after)
text-placed bytes first None a b = All-nil (Valid bytes)
text-placed bytes first (Some after) a b = linked-placed bytes first after a b

record IsHeld (bytes : List ℕ) (first : Point) (after last : Option Point) (closing since : List Event) : Type 0 where
  first_is : IsPlaced bytes first
  after_is : IfSome after (IsPlaced bytes)
  last_is : IfSome last (IsPlaced bytes)
  closing_is : ArePlaced bytes closing
  since_is : ArePlaced bytes since

abbrev HoldsPlaced : List ℕ → Place → Type 0
HoldsPlaced bytes (Within first after last closing since) = IsHeld bytes first after last closing since
HoldsPlaced bytes Outside = Unit {0}
HoldsPlaced bytes Before = Unit {0}
HoldsPlaced bytes Opened = Unit {0}

either : (bytes : List ℕ) (x : Bool) (p q : Place) → HoldsPlaced bytes p → HoldsPlaced bytes q →
    HoldsPlaced bytes (cond x p q)
either bytes true p q h k = h
either bytes false p q h k = k

given : (bytes : List ℕ) (first : Point) (after last : Option Point) (closing since : List Event) →
    IsHeld bytes first after last closing since → ArePlaced bytes (text_between first after ++ closing ++ since)
given bytes first after last closing since h =
    All-append (Valid bytes) (text_between first after ++ closing) since
    (All-append (Valid bytes) (text_between first after) closing
    (text-placed bytes first after h.first_is h.after_is) h.closing_is) h.since_is

resolved-placed : (bytes : List ℕ) (p : Place) (es : List Event) → HoldsPlaced bytes p → ArePlaced bytes es →
    ArePlaced bytes (resolved p es)
resolved-placed bytes Outside [] h k = k
resolved-placed bytes Before [] h k = k
resolved-placed bytes Opened [] h k = k
resolved-placed bytes (Within first after last closing since) [] h k = given bytes first after last closing since h
resolved-placed bytes Outside (e ∷ es) h k =
    let p : Place = cond (begins is_heading e) Before Outside in
    All-cons (Valid bytes) e (resolved p es) (All-head (Valid bytes) e es k)
    (resolved-placed bytes p es (either bytes (begins is_heading e) Before Outside tt tt)
    (All-tail (Valid bytes) e es k))
resolved-placed bytes Before (e ∷ es) h k =
    let q : Place = cond (ends is_heading e) Outside Before in
    let p : Place = cond (ends is_sequence e) Opened q in
    All-cons (Valid bytes) e (resolved p es) (All-head (Valid bytes) e es k)
    (resolved-placed bytes p es
    (either bytes (ends is_sequence e) Opened q tt (either bytes (ends is_heading e) Outside Before tt tt))
    (All-tail (Valid bytes) e es k))
resolved-placed bytes Opened (e ∷ es) h k =
    let here = All-head (Valid bytes) e es k in
    let rest = All-tail (Valid bytes) e es k in
    let q : Place = cond (ends is_heading e) Outside Opened in
    go (begins is_run e) refl here
    (resolved-placed bytes (Within e.point None None [] (e ∷ [])) es
    (record {
      first_is = here;
      after_is = tt;
      last_is = tt;
      closing_is = All-nil (Valid bytes);
      since_is = All-cons (Valid bytes) e [] here (All-nil (Valid bytes));
    }) rest)
    (resolved-placed bytes q es (either bytes (ends is_heading e) Outside Opened tt tt) rest)
  where
    go : (x : Bool) → begins is_run e ≡ x → Valid bytes e →
        ArePlaced bytes (resolved (Within e.point None None [] (e ∷ [])) es) →
        ArePlaced bytes (resolved (cond (ends is_heading e) Outside Opened) es) →
        ArePlaced bytes (resolved Opened (e ∷ es))
    go true is here a b = rw is a
    go false is here a b =
        rw is (All-cons (Valid bytes) e (resolved (cond (ends is_heading e) Outside Opened) es) here b)
resolved-placed bytes (Within first after last closing since) (e ∷ es) h k =
    let here = All-head (Valid bytes) e es k in
    let rest = All-tail (Valid bytes) e es k in
    let more = All-push (Valid bytes) since e h.since_is here in
    let nil = All-nil (Valid bytes) in
    go (ends is_data e) (ends is_sequence e) (ends is_heading e) refl refl refl here
    (resolved-placed bytes (Within first (Some e.point) (Some e.point) [] []) es
    (record { first_is = h.first_is; after_is = here; last_is = here; closing_is = nil; since_is = nil }) rest)
    (resolved-placed bytes (Within first last (Some e.point) (since ++ e ∷ []) []) es
    (record { first_is = h.first_is; after_is = h.last_is; last_is = here; closing_is = more; since_is = nil }) rest)
    (resolved-placed bytes Outside es tt rest)
    (resolved-placed bytes (Within first after last closing (since ++ e ∷ [])) es
    (record {
      first_is = h.first_is;
      after_is = h.after_is;
      last_is = h.last_is;
      closing_is = h.closing_is;
      since_is = more;
    }) rest)
  where
    place : Place
    place = Within first after last closing since

    go : (x y z : Bool) → ends is_data e ≡ x → ends is_sequence e ≡ y → ends is_heading e ≡ z → Valid bytes e →
        ArePlaced bytes (resolved (Within first (Some e.point) (Some e.point) [] []) es) →
        ArePlaced bytes (resolved (Within first last (Some e.point) (since ++ e ∷ []) []) es) →
        ArePlaced bytes (resolved Outside es) →
        ArePlaced bytes (resolved (Within first after last closing (since ++ e ∷ [])) es) →
        ArePlaced bytes (resolved place (e ∷ es))
    go true y z is run has here a b c d = rw is a
    go false true z is run has here a b c d = rw (is, run) b
    go false false true is run has here a b c d = rw (is, run, has)
        (All-append (Valid bytes) (text_between first after ++ closing ++ since) (e ∷ resolved Outside es)
        (given bytes first after last closing since h) (All-cons (Valid bytes) e (resolved Outside es) here c))
    go false false false is run has here a b c d = rw (is, run, has) d

pub headings-placed : (bytes : List ℕ) (events : List Event) → ArePlaced bytes events →
    ArePlaced bytes (headings_resolved events)
headings-placed bytes events h = resolved-placed bytes Outside events tt h
