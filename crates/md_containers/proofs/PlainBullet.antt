-- The begin of an item that is taken at once is what its states take.
use Rattle.std.proofs.Common.{◌≡◌, ℕ, ◌+◌, ◌<◌, Bool, true, false, ◌&&◌, ◌||◌, not, nat_eq, nat_lt, List, ◌∷◌, []}
use Rattle.std.proofs.Common.{cond, length, Option, Some, refl, ◌∙◌, ap, ap₂, arith}
use Rattle.std.specs.Prelude.{slice_index, slice_range}
use Rattle.std.proofs.lemmas.Bool.{eq-eqb, eqb-true, or_parts}
use Rattle.std.proofs.lemmas.Bool.Decides.{nat_tests}
use Rattle.md_engine.specs.declared.class.Class.TheVariants as class
use Rattle.md_engine.specs.declared.event.Name.TheVariants.{ListItem, ListItemMarker, ListItemPrefix, SpaceOrTab}
use Rattle.md_engine.specs.declared.event.Point.{Point}
use Rattle.md_engine.specs.declared.state.Name.{Name as StateName}
use Rattle.md_engine.specs.declared.state.Name.TheVariants as n
use Rattle.md_engine.specs.declared.state.list_item.State.TheVariants as its
use Rattle.md_engine.specs.declared.state.space_or_tab.State.TheVariants as white
use Rattle.md_engine.specs.declared.state.State.{State}
use Rattle.md_engine.specs.declared.state.State.TheVariants.{Next, Nok, Ok, Retry}
use Rattle.md_engine.specs.declared.tokenizer.Frame.{Frame}
use Rattle.md_engine.specs.Classes.{has}
use Rattle.md_engine.specs.Place.{IsPlaced}
use Rattle.md_engine.specs.Run.{Step, reading}
use Rattle.md_engine.specs.World.{World, after, looks, looks_at}
use Rattle.md_engine.proofs.ClassLemmas.{seen-here}
use Rattle.md_engine.proofs.Loops.{ArrivedAt}
use Rattle.md_engine.proofs.Walks.{Within, then-holds, then-stays, then-takes, within-more, within-one}
use Rattle.md_meaning.specs.Containers.{is_bullet, is_digit}
use Rattle.md_containers.specs.Interrupts.{interrupts}
use Rattle.md_meaning.specs.Rest.{is_white}
use Rattle.md_containers.specs.Item as item
use Rattle.md_containers.specs.PlainBullet.{IsPlainBullet, bulleted, byte_at}
use Rattle.md_containers.proofs.Ahead.{TwoAhead, valid-ahead, text-after}
use Rattle.md_containers.proofs.ItemBeginMeaning.{bullet-dark}
use Rattle.md_containers.proofs.PlainItem.{HasItem}
use Rattle.md_leaves.specs.LeafStart as leaf
use Rattle.md_events.specs.Events.Nested.{enter, exit}
use Rattle.md_events.specs.Look.{following_code, first_following, first_other, is_other, looks_after, sees_other}
use Rattle.md_events.specs.Spaces.{after_code, inside_code, sees_white, start_code, white_then}
use Rattle.md_events.specs.Transition.{Transition, entered, exited, taken, tried}
use Rattle.md_events.proofs.OneSpace.{HasWhite}
use Rattle.md_events.proofs.PlainSteps.{range-next}

-- a bullet is text
bullet-text : (b : ℕ) → is_bullet b ≡ true → has class.Text b ≡ true
bullet-text b h = go (nat_eq b 42) (nat_eq b 43) (nat_eq b 45) refl refl refl
  where
    go : (x y z : Bool) → nat_eq b 42 ≡ x → nat_eq b 43 ≡ y → nat_eq b 45 ≡ z → has class.Text b ≡ true
    go true y z e k l = let is : b ≡ 42 = eqb-true b 42 e in rw is refl
    go false true z e k l = let is : b ≡ 43 = eqb-true b 43 k in rw is refl
    go false false true e k l = let is : b ≡ 45 = eqb-true b 45 l in rw is refl
    go false false false e k l = let no : false ≡ true = rw (e, k, l) at h in cc

or-true : (x : Bool) → x || true ≡ true
or-true true = refl
or-true false = refl

-- What the bytes that are here say of what the states see.
record SeesBullet (w : World) : Type 0 where
  here : looks w ≡ Some (slice_index w.setting.bytes w.point.index)
  inside : (after w.setting w.point).index < w.setting.limit
  space : looks_at w.setting (after w.setting w.point) ≡ Some 32
  next : (after w.setting (after w.setting w.point)).index < w.setting.limit
  dark : sees_white (looks_at w.setting (after w.setting (after w.setting w.point))) ≡ false
  -- the rest of the line is not blank
  first : first_following (slice_range w.setting.bytes (after w.setting w.point).index w.setting.limit) ≡
      Some (byte_at w 2)
  not_end : nat_eq (byte_at w 2) 10 ≡ false
  -- and has another byte than the bullet
  another : sees_other w (slice_index w.setting.bytes w.point.index) ≡ true

sees-bullet : (w : World) → IsPlainBullet w → SeesBullet w
unfolding sees_other
sees-bullet w plain = record {
  here = seen-here w.setting class.Text w.point (omega (arith, low)) text;
  inside = rw one (omega (arith, low));
  space = rw one seen;
  next = rw (one, two) (omega (arith, low));
  dark = rw (one, two) (ap sees_white (seen-here w.setting class.Text q low last) ∙ plain.dark);
  first =
      rw one
      (ap first_following second
      ∙ ap first_following rest
      ∙ ap₂ (λ (x y : Bool). cond x (first_following after_two) (Some (cond y 10 (byte_at w 2)))) plain.dark
      plain.filled);
  not_end = ending.0;
  another =
      ap (λ (l : List ℕ). is_other (first_other marker l))
      (range-next w.setting.bytes w.point.index w.setting.limit (omega (arith, low)) (omega (arith, there)))
      ∙ ap (λ (b : Bool). is_other (cond (b || is_white marker) (first_other marker following) (Some marker)))
      (eq-eqb marker marker refl)
      ∙ ap (λ (l : List ℕ). is_other (first_other marker l)) second
      ∙ ap (λ (b : Bool). is_other
      (cond b (first_other marker (slice_range w.setting.bytes (w.point.index + 1 + 1) w.setting.limit)) (Some 32)))
      (or-true (nat_eq 32 marker))
      ∙ ap (λ (l : List ℕ). is_other (first_other marker l)) rest
      ∙ ap₂ (λ (x y : Bool). is_other (cond (x || y) (first_other marker after_two) (Some (byte_at w 2)))) plain.other
      plain.dark
      ∙ ap not plain.filled;
}
  where
    low : w.point.index + 2 < w.setting.limit
    low = plain.inside

    there : w.point.index + 2 < length w.setting.bytes
    there = plain.there

    text : has class.Text (slice_index w.setting.bytes w.point.index) ≡ true
    text = bullet-text (slice_index w.setting.bytes w.point.index) plain.bullet

    p : Point
    p = record w.point { column = w.point.column + 1; index = w.point.index + 1; vs = 0 }

    q : Point
    q = record w.point { column = w.point.column + 2; index = w.point.index + 2; vs = 0 }

    one : after w.setting w.point ≡ p
    one = text-after w.setting w.point text

    seen : looks_at w.setting p ≡ Some 32
    seen =
        let inner : nat_lt (w.point.index + 1) w.setting.limit ≡ true = grind (arith, nat_tests) in
        let is : slice_index w.setting.bytes (w.point.index + 1) ≡ 32 = plain.space in
        rw (inner, is) refl

    two : after w.setting p ≡ q
    two =
        let is : slice_index w.setting.bytes (w.point.index + 1) ≡ 32 = plain.space in
        let text_here : has class.Text (slice_index w.setting.bytes p.index) ≡ true = rw is refl in
        let more : (m : ℕ) → m + 1 + 1 ≡ m + 2 = λ m. omega arith in
        text-after w.setting p text_here
        ∙ ap₂ (λ (i c : ℕ). record w.point { column = c; index = i; vs = 0 }) (more w.point.index)
        (more w.point.column)

    pale : (nat_eq (byte_at w 2) 32 ≡ false) × (nat_eq (byte_at w 2) 9 ≡ false)
    pale = or_parts (nat_eq (byte_at w 2) 32) (nat_eq (byte_at w 2) 9) plain.dark

    ending : (nat_eq (byte_at w 2) 10 ≡ false) × (nat_eq (byte_at w 2) 13 ≡ false)
    ending = or_parts (nat_eq (byte_at w 2) 10) (nat_eq (byte_at w 2) 13) plain.filled

    last : has class.Text (byte_at w 2) ≡ true
    last = rw (plain.filled, pale.1) refl

    marker : ℕ
    marker = slice_index w.setting.bytes w.point.index

    -- the bytes after the marker, and those after the byte that follows the space
    following : List ℕ
    following = slice_range w.setting.bytes (w.point.index + 1) w.setting.limit

    after_two : List ℕ
    after_two = slice_range w.setting.bytes (w.point.index + 2 + 1) w.setting.limit

    second : following ≡ 32 ∷ slice_range w.setting.bytes (w.point.index + 1 + 1) w.setting.limit
    second =
        range-next w.setting.bytes (w.point.index + 1) w.setting.limit (omega (arith, low)) (omega (arith, there))
        ∙ ap (λ (b : ℕ). b ∷ slice_range w.setting.bytes (w.point.index + 1 + 1) w.setting.limit) plain.space

    rest : slice_range w.setting.bytes (w.point.index + 1 + 1) w.setting.limit ≡ byte_at w 2 ∷ after_two
    rest =
        let more : w.point.index + 1 + 1 ≡ w.point.index + 2 = omega arith in
        ap (λ (i : ℕ). slice_range w.setting.bytes i w.setting.limit) more
        ∙ range-next w.setting.bytes (w.point.index + 2) w.setting.limit low there

-- The bullet is first after whitespace.
pub bullet-seen : (w : World) → w.current ≡ looks w → IsPlainBullet w →
    looks_after w ≡ Some (slice_index w.setting.bytes w.point.index)
unfolding looks_after
bullet-seen w seen plain =
    let found : Option ℕ = first_following (slice_range w.setting.bytes w.point.index w.setting.limit) in
    let marker : ℕ = slice_index w.setting.bytes w.point.index in
    ap (λ (o : Option ℕ). following_code o found) (seen ∙ (sees-bullet w plain).here)
    ∙ ap (λ (x : Bool). cond x found (Some marker)) (bullet-dark marker plain.bullet)

-- After its space something may be read.
pub bullet-next : (w : World) → IsPlainBullet w → (after w.setting (after w.setting w.point)).index < w.setting.limit
bullet-next w plain = (sees-bullet w plain).next

-- An attempt at an item with such a bullet: what the tokenizer is from state to state.
module _ (next : StateName) (nok : State) (w : World) where
  abbrev item_frame : Frame
  item_frame = record { ok = Next next; nok = nok; is_check = false; events_len = length w.events; point = w.point }

  abbrev trying_item : World
  trying_item = tried w (Next next) nok

  abbrev in_item : World
  in_item = entered trying_item ListItem

  abbrev in_prefix : World
  in_prefix = entered in_item ListItemPrefix

  -- the marker is taken
  abbrev after_marker : World
  after_marker = exited (taken (entered in_prefix ListItemMarker)) ListItemMarker

  abbrev padding_frame : Frame
  padding_frame = record {
    ok = Next (n.ListItem its.After);
    nok = Next (n.ListItem its.PrefixOther);
    is_check = false;
    events_len = length after_marker.events;
    point = after_marker.point;
  }

  -- the padding is tried,
  abbrev trying_padding : World
  trying_padding =
      record (tried (reading after_marker) (Next (n.ListItem its.After)) (Next (n.ListItem its.PrefixOther))) {
        scratch = record w.scratch { seen = true };
      }

  abbrev white_frame : Frame
  white_frame = record {
    ok = Next (n.ListItem its.WhitespaceAfter);
    nok = Nok;
    is_check = false;
    events_len = length after_marker.events;
    point = after_marker.point;
  }

  -- and in it whitespace
  abbrev trying_white : World
  trying_white = (white_then trying_padding 1 4 (Next (n.ListItem its.WhitespaceAfter)) Nok).world

  abbrev in_white : World
  in_white = entered trying_white SpaceOrTab

  -- the space is taken
  abbrev after_space : World
  after_space = (inside_code in_white true).world

  abbrev following_white : World
  following_white = exited (reading after_space) SpaceOrTab

  abbrev white_held : World
  white_held = (after_code following_white true).world

  -- the padding is known to end there
  abbrev padded : World
  padded = reading (record white_held { frames = padding_frame ∷ item_frame ∷ w.frames })

  abbrev filled : World
  filled = reading (record padded { frames = item_frame ∷ w.frames })

  -- No attempt that is left has more events than there are, at each of these.
  within-in_item : Within w → Within in_item
  within-in_item within =
      within-more (item_frame ∷ w.frames) trying_item.events (enter ListItem w.point ∷ [])
      (within-one item_frame w.frames (length w.events) (omega arith) within)

  within-in_prefix : Within w → Within in_prefix
  within-in_prefix within =
      within-more (item_frame ∷ w.frames) in_item.events (enter ListItemPrefix w.point ∷ []) (within-in_item within)

  within-after_marker : Within w → Within after_marker
  within-after_marker within =
      within-more (item_frame ∷ w.frames) _ (exit ListItemMarker after_marker.point ∷ [])
      (within-more (item_frame ∷ w.frames) in_prefix.events (enter ListItemMarker w.point ∷ [])
      (within-in_prefix within))

  within-trying_padding : Within w → Within trying_padding
  within-trying_padding within =
      within-one padding_frame (item_frame ∷ w.frames) (length after_marker.events) (omega arith)
      (within-after_marker within)

  within-trying_white : Within w → Within trying_white
  within-trying_white within =
      within-one white_frame (padding_frame ∷ item_frame ∷ w.frames) (length after_marker.events) (omega arith)
      (within-trying_padding within)

  within-in_white : Within w → Within in_white
  within-in_white within =
      within-more (white_frame ∷ padding_frame ∷ item_frame ∷ w.frames) trying_white.events
      (enter SpaceOrTab after_marker.point ∷ []) (within-trying_white within)

  within-following_white : Within w → Within following_white
  within-following_white within =
      within-more (white_frame ∷ padding_frame ∷ item_frame ∷ w.frames) in_white.events
      (exit SpaceOrTab after_space.point ∷ []) (within-in_white within)

  within-padded : Within w → Within padded
  within-padded within =
      within-more (padding_frame ∷ item_frame ∷ w.frames) in_white.events (exit SpaceOrTab after_space.point ∷ [])
      (within-more (padding_frame ∷ item_frame ∷ w.frames) after_marker.events
      (enter SpaceOrTab after_marker.point ∷ []) (within-trying_padding within))

  within-filled : Within w → Within filled
  within-filled within =
      within-more (item_frame ∷ w.frames) in_white.events (exit SpaceOrTab after_space.point ∷ [])
      (within-more (item_frame ∷ w.frames) after_marker.events (enter SpaceOrTab after_marker.point ∷ [])
      (within-after_marker within))

-- No break begins at the bullet: another byte is on the line.
no-break : (w : World) → IsPlainBullet w → item.may_break w (slice_index w.setting.bytes w.point.index) ≡ false
no-break w plain =
    ap (λ (x : Bool). w.setting.options.constructs.thematic_break && not (nat_eq marker 43 || x))
    (sees-bullet w plain).another
    ∙ none (nat_eq marker 43) w.setting.options.constructs.thematic_break
  where
    marker : ℕ
    marker = slice_index w.setting.bytes w.point.index

    none : (x y : Bool) → y && not (x || true) ≡ false
    none true true = refl
    none false true = refl
    none _ _ = refl

-- The states up to the marker of a bullet take it.
marker-run : (T : Step) (is_end : Bool) (s : State) (v : World) (next : StateName) (nok : State) (w : World) →
    HasItem T → ArrivedAt T is_end s v (n.ListItem its.Start) (trying_item next nok w) → w.current ≡
    looks w → Within w →
    IsPlainBullet w → ArrivedAt T is_end s v (n.ListItem its.MarkerAfter) (reading (after_marker next nok w))
unfolding sees_other
marker-run T is_end s v next nok w has_item arrived seen within plain =
    then-takes T is_end s v (n.ListItem its.Marker) (n.ListItem its.MarkerAfter) prefix (after_marker next nok w)
    at_marker
    (has_item its.Marker prefix (Next (n.ListItem its.MarkerAfter)) (after_marker next nok w)
    (ap (λ (o : Option ℕ). item.marker_code prefix (item.sees item.is_item_marker o)) is
    ∙ ap (λ (x : Bool). item.marker_code prefix (x || item.ends_value marker)) plain.bullet)) refl
    (within-in_prefix next nok w within) (sees-bullet w plain).inside
  where
    start : World
    start = trying_item next nok w

    begun : World
    begun = in_item next nok w

    prefix : World
    prefix = in_prefix next nok w

    marker : ℕ
    marker = slice_index w.setting.bytes w.point.index

    is : w.current ≡ Some marker
    is = seen ∙ (sees-bullet w plain).here

    dark : sees_white w.current ≡ false
    dark = ap sees_white is ∙ bullet-dark marker plain.bullet

    -- what the state does at a byte that is no bullet
    ordered : Transition
    ordered =
        cond (is_digit marker && (not (interrupts w.flags) || nat_eq marker 49))
        (item.proceeds_to its.BeforeOrdered begun)
        (item.refused begun)

    at_before : ArrivedAt T is_end s v (n.ListItem its.Before) begun
    at_before =
        then-stays T is_end s v (n.ListItem its.Start) (n.ListItem its.Before) start begun arrived
        (has_item its.Start start (Retry (n.ListItem its.Before)) begun
        (ap₂ (λ (x y : Bool). leaf.start_code ListItem (n.ListItem its.Before) start x y) plain.on dark)) refl
        (within-one (item_frame next nok w) w.frames (length w.events) (omega arith) within) refl seen

    at_unordered : ArrivedAt T is_end s v (n.ListItem its.BeforeUnordered) begun
    at_unordered =
        then-stays T is_end s v (n.ListItem its.Before) (n.ListItem its.BeforeUnordered) begun begun at_before
        (has_item its.Before begun (Retry (n.ListItem its.BeforeUnordered)) begun
        (ap (item.before_code begun) is
        ∙ ap₂ (λ (x y : Bool). cond x (item.bullet_code begun y) ordered) plain.bullet (no-break w plain))) refl
        (within-in_item next nok w within) refl seen

    at_marker : ArrivedAt T is_end s v (n.ListItem its.Marker) prefix
    at_marker =
        then-stays T is_end s v (n.ListItem its.BeforeUnordered) (n.ListItem its.Marker) begun prefix at_unordered
        (has_item its.BeforeUnordered begun (Retry (n.ListItem its.Marker)) prefix refl) refl
        (within-in_item next nok w within) refl seen

-- After the marker the padding is tried, and in it whitespace.
padding-run : (T : Step) (is_end : Bool) (s : State) (v : World) (next : StateName) (nok : State) (w : World) →
    HasItem T → ArrivedAt T is_end s v (n.ListItem its.MarkerAfter) (reading (after_marker next nok w)) → Within w →
    IsPlainBullet w → ArrivedAt T is_end s v (n.SpaceOrTab white.Start) (trying_white next nok w)
unfolding looks_after
padding-run T is_end s v next nok w has_item arrived within plain =
    then-stays T is_end s v (n.ListItem its.Whitespace) (n.SpaceOrTab white.Start) padding (trying_white next nok w)
    at_whitespace
    (has_item its.Whitespace padding (Retry (n.SpaceOrTab white.Start)) (trying_white next nok w) refl) refl
    (within-trying_padding next nok w within) refl refl
  where
    sees : SeesBullet w
    sees = sees-bullet w plain

    marked : World
    marked = reading (after_marker next nok w)

    padding : World
    padding = trying_padding next nok w

    following : looks_after marked ≡ Some (byte_at w 2)
    following =
        ap (λ (o : Option ℕ).
        following_code o
        (first_following (slice_range w.setting.bytes (after w.setting w.point).index w.setting.limit))) sees.space
        ∙ sees.first

    at_filled : ArrivedAt T is_end s v (n.ListItem its.MarkerAfterFilled) marked
    at_filled =
        then-stays T is_end s v (n.ListItem its.MarkerAfter) (n.ListItem its.MarkerAfterFilled) marked marked arrived
        (has_item its.MarkerAfter marked (Retry (n.ListItem its.MarkerAfterFilled)) marked
        (ap (item.blank_code its.After its.MarkerAfterFilled marked) following
        ∙ ap (λ (x : Bool). cond x (item.proceeds_to its.After marked) (item.proceeds_to its.MarkerAfterFilled marked))
        sees.not_end)) refl (within-after_marker next nok w within) refl refl

    at_whitespace : ArrivedAt T is_end s v (n.ListItem its.Whitespace) padding
    at_whitespace =
        then-stays T is_end s v (n.ListItem its.MarkerAfterFilled) (n.ListItem its.Whitespace) marked padding at_filled
        (has_item its.MarkerAfterFilled marked (Retry (n.ListItem its.Whitespace)) padding refl) refl
        (within-after_marker next nok w within) refl refl

-- One space is taken, and the attempt at whitespace holds.
space-run : (T : Step) (is_end : Bool) (s : State) (v : World) (next : StateName) (nok : State) (w : World) →
    HasWhite T → ArrivedAt T is_end s v (n.SpaceOrTab white.Start) (trying_white next nok w) → Within w →
    IsPlainBullet w →
    ArrivedAt T is_end s v (n.ListItem its.WhitespaceAfter) (padded next nok w)
space-run T is_end s v next nok w has_white arrived within plain =
    then-holds T is_end s v (n.SpaceOrTab white.After) (n.ListItem its.WhitespaceAfter) ended (white_held next nok w)
    (white_frame next nok w) (padding_frame next nok w ∷ item_frame next nok w ∷ w.frames) at_end
    (has_white white.After ended Ok (white_held next nok w) refl) refl
    (within-following_white next nok w within) refl refl
    refl (within-trying_padding next nok w within) sees.next
  where
    sees : SeesBullet w
    sees = sees-bullet w plain

    begun : World
    begun = trying_white next nok w

    inside : World
    inside = in_white next nok w

    took : World
    took = after_space next nok w

    ended : World
    ended = following_white next nok w

    at_inside : ArrivedAt T is_end s v (n.SpaceOrTab white.Inside) inside
    at_inside =
        then-stays T is_end s v (n.SpaceOrTab white.Start) (n.SpaceOrTab white.Inside) begun inside arrived
        (has_white white.Start begun (Retry (n.SpaceOrTab white.Inside)) inside
        (ap (λ (o : Option ℕ). start_code begun (sees_white o && nat_lt 0 4)) sees.space)) refl
        (within-trying_white next nok w within) refl refl

    at_space : ArrivedAt T is_end s v (n.SpaceOrTab white.Inside) (reading took)
    at_space =
        then-takes T is_end s v (n.SpaceOrTab white.Inside) (n.SpaceOrTab white.Inside) inside took at_inside
        (has_white white.Inside inside (Next (n.SpaceOrTab white.Inside)) took
        (ap (λ (o : Option ℕ). inside_code inside (sees_white o && nat_lt 0 4)) sees.space)) refl
        (within-in_white next nok w within) sees.next

    at_end : ArrivedAt T is_end s v (n.SpaceOrTab white.After) ended
    at_end =
        then-stays T is_end s v (n.SpaceOrTab white.Inside) (n.SpaceOrTab white.After) (reading took) ended at_space
        (has_white white.Inside (reading took) (Retry (n.SpaceOrTab white.After)) ended
        (ap (λ (x : Bool). inside_code (reading took) (x && nat_lt 1 4)) sees.dark)) refl
        (within-in_white next nok w within) refl refl

-- An attempt at an item takes it, and sees what is after it.
pub bullet-run : (T : Step) (is_end : Bool) (s : State) (v : World) (next : StateName) (nok : State) (w : World) →
    HasItem T → HasWhite T → ArrivedAt T is_end s v (n.ListItem its.Start) (tried w (Next next) nok) →
    w.current ≡ looks w → Within w → IsPlainBullet w → ArrivedAt T is_end s v next (bulleted w)
bullet-run T is_end s v next nok w has_item has_white arrived seen within plain =
    then-holds T is_end s v (n.ListItem its.After) next after_padding done (item_frame next nok w) w.frames at_after
    (has_item its.After after_padding Ok done refl) refl (within-filled next nok w within) refl refl refl
    within sees.next
  where
    sees : SeesBullet w
    sees = sees-bullet w plain

    following_padding : World
    following_padding = padded next nok w

    after_padding : World
    after_padding = filled next nok w

    done : World
    done = (item.after_code after_padding false false).world

    at_padding : ArrivedAt T is_end s v (n.ListItem its.WhitespaceAfter) following_padding
    at_padding =
        space-run T is_end s v next nok w has_white
        (padding-run T is_end s v next nok w has_item
        (marker-run T is_end s v next nok w has_item arrived seen within plain) within plain) within plain

    at_after : ArrivedAt T is_end s v (n.ListItem its.After) after_padding
    at_after =
        then-holds T is_end s v (n.ListItem its.WhitespaceAfter) (n.ListItem its.After) following_padding
        following_padding
        (padding_frame next nok w) (item_frame next nok w ∷ w.frames) at_padding
        (has_item its.WhitespaceAfter following_padding Ok following_padding
        (ap (item.whitespace_after_code following_padding) sees.dark)) refl (within-padded next nok w within)
        refl refl refl
        (within-after_marker next nok w within) sees.next

-- The bullet and the space are text.
pub bullet-ahead : (w : World) → IsPlainBullet w → IsPlaced w.setting.bytes w.point → TwoAhead w.setting w.point
bullet-ahead w plain placed =
    valid-ahead w.setting w.point placed (let there = plain.there in omega (arith, there))
    (bullet-text (slice_index w.setting.bytes w.point.index) plain.bullet) (ap (has class.Text) plain.space)
