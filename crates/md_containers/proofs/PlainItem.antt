-- The indent of a further line that is taken at once is what the states of an item take.
use Rattle.std.proofs.Common.{◌≡◌, ℕ, zero, suc, ◌+◌, ◌<◌, ◌≤◌, Bool, true, false, ◌&&◌, nat_eq, nat_lt, nat_le, []}
use Rattle.std.proofs.Common.{◌∷◌, cond, length, Option, Some, refl, sym, ◌∙◌, ap, ap₂, arith, subst}
use Rattle.std.specs.Prelude.{slice_index}
use Rattle.std.proofs.lemmas.Bool.Decides.{nat_tests}
use Rattle.md_engine.specs.declared.class.Class.TheVariants as class
use Rattle.md_engine.specs.declared.event.Name.TheVariants.{SpaceOrTab}
use Rattle.md_engine.specs.declared.event.Point.{Point}
use Rattle.md_engine.specs.declared.state.Name.{Name as StateName}
use Rattle.md_engine.specs.declared.state.Name.TheVariants as n
use Rattle.md_engine.specs.declared.state.list_item.State.{State as ItemState}
use Rattle.md_engine.specs.declared.state.list_item.State.TheVariants as its
use Rattle.md_engine.specs.declared.state.State.{State}
use Rattle.md_engine.specs.declared.state.State.TheVariants.{Next, Ok, Retry}
use Rattle.md_engine.specs.declared.tokenizer.Frame.{Frame}
use Rattle.md_engine.specs.Classes.{has}
use Rattle.md_engine.specs.Place.{IsPlaced}
use Rattle.md_engine.specs.Run.{Step, reading}
use Rattle.md_engine.specs.Scheme.{cells_left}
use Rattle.md_engine.specs.Staying.{along}
use Rattle.md_engine.specs.World.{Setting, World, after, looks, looks_at}
use Rattle.md_engine.proofs.Loops.{ArrivedAt}
use Rattle.md_engine.proofs.Points.{cells-fall}
use Rattle.md_engine.proofs.Walks.{Within, then-holds, then-stays, then-takes, within-more, within-one}
use Rattle.md_containers.specs.Item.{blank_code, cont_filled_code, cont_start_code, proceeds_to, indent_code}
use Rattle.md_containers.specs.Item.{inside_code, at_least_one, item_transition, least_width}
use Rattle.md_containers.specs.Ahead.{ahead}
use Rattle.md_containers.proofs.Ahead.{IsText, ahead-more, placed-text, text-after}
use Rattle.md_containers.specs.PlainItem.{IsPlainIndent, SpacesHere, indented, moved}
use Rattle.md_events.specs.Events.Nested.{enter}
use Rattle.md_events.specs.Look.{looks_after}
use Rattle.md_events.specs.Spaces.{asking, ends_line, sees_white}
use Rattle.md_events.specs.Transition.{entered, taken, tried}

-- a table has the states of an item
abbrev pub HasItem : Step → Type 0
HasItem T =
    (state : ItemState) (w : World) (to : State) (new : World) →
    item_transition state w ≡ record { to = to; world = new } → T (n.ListItem state) w to new

-- after a space the line continues
space-after : (x : Setting) (p : Point) → slice_index x.bytes p.index ≡ 32 →
    after x p ≡ record p { column = p.column + 1; index = p.index + 1; vs = 0 }
space-after x p e = rw e refl

-- spaces are one index further each,
pub spaces-index : (w : World) (n : ℕ) → SpacesHere n w →
    (along w.setting n w.point).index ≡ w.point.index + n
unfolding along
spaces-index w zero h = omega arith
spaces-index w (suc n) h =
    let q : Point = along w.setting n w.point in
    let before : q.index ≡ w.point.index + n = spaces-index w n (λ k from to. h k from (omega (arith, to))) in
    let here : slice_index w.setting.bytes q.index ≡ 32 = h q.index (omega (arith, before)) (omega (arith, before)) in
    let next : (after w.setting q).index ≡ q.index + 1 = ap (λ (p : Point). p.index) (space-after w.setting q here) in
    omega (arith, before, next)

-- one is taken after others
pub moved-more : (w : World) (n : ℕ) → taken (moved n w) ≡ moved (suc n) w
unfolding along
moved-more w n = refl

-- and are seen
pub space-seen : (w : World) (n k : ℕ) → SpacesHere n w → w.point.index + n < w.setting.limit → k < n →
    looks_at w.setting (along w.setting k w.point) ≡ Some 32
space-seen w n k h inside lt =
    let q : Point = along w.setting k w.point in
    let at : q.index ≡ w.point.index + k = spaces-index w k (λ i from to. h i from (omega (arith, to, lt))) in
    let here : slice_index w.setting.bytes q.index ≡ 32 = h q.index (omega (arith, at)) (omega (arith, at, lt)) in
    let low : q.index < w.setting.limit = omega (arith, at, lt, inside) in
    let inner : nat_lt q.index w.setting.limit ≡ true = grind (arith, nat_tests) in
    rw (inner, here) refl

-- so one comes nearer to the end
pub spaces-fall : (w : World) (n : ℕ) → SpacesHere n w → w.point.index + n < w.setting.limit →
    cells_left w.setting.limit (along w.setting n w.point) + n ≤ cells_left w.setting.limit w.point
unfolding along
spaces-fall w zero h inside = omega arith
spaces-fall w (suc n) h inside =
    let q : Point = along w.setting n w.point in
    let less : SpacesHere n w = λ k from to. h k from (omega (arith, to)) in
    let at : q.index ≡ w.point.index + n = spaces-index w n less in
    let before = spaces-fall w n less (omega (arith, inside)) in
    let one = cells-fall w.setting q (omega (arith, at, inside)) in
    omega (arith, before, one)

and-false : (x : Bool) → x && false ≡ false
and-false true = refl
and-false false = refl

-- An attempt at the indent of a further line takes it, and what follows it is seen.
pub indent-run : (T : Step) (is_end : Bool) (s : State) (v : World) (next : StateName) (nok : State) (w : World)
    (m : ℕ) →
    HasItem T → ArrivedAt T is_end s v (n.ListItem its.ContStart) (tried w (Next next) nok) →
    w.current ≡ looks w → Within w → least_width w.flags.asked ≡ suc m → IsPlainIndent (suc m) w →
    ArrivedAt T is_end s v next (indented (suc m) w)
unfolding along looks_after
indent-run T is_end s v next nok w m item arrived seen within width plain =
    then-holds T is_end s v (n.ListItem its.ContFilled) next (part m) done f w.frames (parts m (omega arith))
    (item its.ContFilled (part m) Ok done
    (ap₂ (λ (x y : Bool). inside_code its.ContFilled (part m) x y)
    (ap (λ (b : Bool). sees_white (part m).current && b) full ∙ and-false (sees_white (part m).current)) enough)) refl
    (in-part m) refl refl refl within following
  where
    x : World
    x = w

    spaces : (k : ℕ) → k < suc m → looks_at w.setting (along w.setting k w.point) ≡ Some 32
    spaces k lt = space-seen w (suc m) k plain.spaces plain.inside lt

    index : (k : ℕ) → k ≤ suc m → (along w.setting k w.point).index ≡ w.point.index + k
    index k le = spaces-index w k (λ i from to. plain.spaces i from (omega (arith, to, le)))

    inside : (k : ℕ) → k ≤ suc m → (along w.setting k w.point).index < w.setting.limit
    inside k le = let at = index k le in let last = plain.inside in omega (arith, at, le, last)

    following : (along w.setting (suc m) w.point).index < w.setting.limit
    following = inside (suc m) (omega arith)

    is : w.current ≡ Some 32
    is = seen ∙ spaces 0 (omega arith)

    f : Frame
    f = record { ok = Next next; nok = nok; is_check = false; events_len = length w.events; point = w.point }

    wa : World
    wa = tried w (Next next) nok

    in-wa : Within wa
    in-wa = within-one f w.frames (length w.events) (omega arith) within

    -- so many columns after the first were taken
    part : ℕ → World
    part k =
        reading
        (record (moved (suc k) (entered wa SpaceOrTab)) { scratch = asking (suc m) (suc m) (suc k) wa.scratch })

    in-part : (k : ℕ) → Within (part k)
    in-part k = within-more (f ∷ w.frames) w.events (enter SpaceOrTab w.point ∷ []) in-wa

    full : nat_lt (suc m) (suc m) ≡ false
    full = grind (arith, nat_tests)

    enough : nat_le (suc m) (suc m) ≡ true
    enough = grind (arith, nat_tests)

    done : World
    done = (inside_code its.ContFilled (part m) false true).world

    at_filled : ArrivedAt T is_end s v (n.ListItem its.ContFilled) wa
    at_filled =
        then-stays T is_end s v (n.ListItem its.ContStart) (n.ListItem its.ContFilled) wa wa arrived
        (item its.ContStart wa (Retry (n.ListItem its.ContFilled)) wa
        (ap (λ (o : Option ℕ). cont_start_code wa (ends_line o) wa.flags.asked.starts_blank) is
        ∙ ap (blank_code its.ContBlank its.ContFilled wa) plain.following
        ∙ ap (λ (b : Bool). cond b (proceeds_to its.ContBlank wa) (proceeds_to its.ContFilled wa)) plain.filled)) refl
        in-wa
        refl seen

    -- the first one was taken, of an indent of so many
    column : ℕ → World
    column c = record (taken (entered wa SpaceOrTab)) { scratch = asking c c 1 wa.scratch }

    -- one more is
    more : ℕ → ℕ → World
    more k size = record (taken (part k)) { scratch = asking (suc m) (suc m) size wa.scratch }

    first : ArrivedAt T is_end s v (n.ListItem its.ContFilled) (part 0)
    first =
        then-takes T is_end s v (n.ListItem its.ContFilled) (n.ListItem its.ContFilled) wa (column (suc m)) at_filled
        (item its.ContFilled wa (Next (n.ListItem its.ContFilled)) (column (suc m))
        (ap (cont_filled_code wa) plain.rest
        ∙ ap (λ (o : Option ℕ). indent_code its.ContFilled (least_width w.flags.asked) wa (sees_white o)) is
        ∙ ap (λ (c : ℕ). record { to = Next (n.ListItem its.ContFilled); world = column c }) width)) refl in-wa
        (inside 1 (omega arith))

    parts : (k : ℕ) → k < suc m → ArrivedAt T is_end s v (n.ListItem its.ContFilled) (part k)
    parts zero lt = first
    parts (suc k) lt =
        let left : nat_lt (suc k) (suc m) ≡ true = grind (arith, nat_tests) in
        let one : suc k + 1 ≡ suc (suc k) = omega arith in
        then-takes T is_end s v (n.ListItem its.ContFilled) (n.ListItem its.ContFilled) (part k)
        (more k (suc (suc k))) (parts k (omega (arith, lt)))
        (item its.ContFilled (part k) (Next (n.ListItem its.ContFilled)) (more k (suc (suc k)))
        (ap₂ (λ (x y : Bool). inside_code its.ContFilled (part k) (x && y) (nat_le (suc m) (suc k)))
        (ap sees_white (spaces (suc k) lt)) left
        ∙ ap (λ (size : ℕ). record { to = Next (n.ListItem its.ContFilled); world = more k size }) one))
        refl (in-part k)
        (inside (suc (suc k)) (omega (arith, lt)))

-- The indent ends so many bytes further on, at a place of the text.
pub spaces-ahead : (w : World) (n : ℕ) → SpacesHere (suc n) w → w.point.index + suc n < w.setting.limit →
    w.setting.limit ≤ length w.setting.bytes → IsPlaced w.setting.bytes w.point →
    (along w.setting (suc n) w.point ≡ ahead (suc n) w.point) × IsPlaced w.setting.bytes (ahead (suc n) w.point)
unfolding along
spaces-ahead w zero h inside readable placed =
    let text : IsText w.setting.bytes w.point.index =
    ap (has class.Text) (h w.point.index (omega arith) (omega arith)) in (
      text-after w.setting w.point text,
      placed-text w.setting.bytes w.point placed (omega (arith, inside, readable)) text,
    )
spaces-ahead w (suc n) h inside readable placed =
    let before = spaces-ahead w n (λ k from to. h k from (omega (arith, to))) (omega (arith, inside)) readable placed in
    let text : IsText w.setting.bytes (w.point.index + suc n) =
    ap (has class.Text) (h (w.point.index + suc n) (omega arith) (omega arith)) in
    let one : suc n + 1 ≡ suc (suc n) = omega arith in
    let more : ahead 1 (ahead (suc n) w.point) ≡ ahead (suc (suc n)) w.point =
    ahead-more (suc n) w.point ∙ ap (λ (m : ℕ). ahead m w.point) one in (
      ap (after w.setting) before.0 ∙ text-after w.setting (ahead (suc n) w.point) text ∙ more,
      subst (λ (p : Point). IsPlaced w.setting.bytes p) more
          (placed-text w.setting.bytes (ahead (suc n) w.point) before.1 (omega (arith, inside, readable)) text),
    )

-- It has one column at least.
pub indent-ahead : (w : World) → IsPlainIndent (least_width w.flags.asked) w →
    w.setting.limit ≤ length w.setting.bytes → IsPlaced w.setting.bytes w.point →
    (along w.setting (least_width w.flags.asked) w.point ≡ ahead (least_width w.flags.asked) w.point) ×
    IsPlaced w.setting.bytes (ahead (least_width w.flags.asked) w.point)
indent-ahead w plain readable placed = go w.flags.asked.width refl
  where
    P : ℕ → Type 0
    P n = (along w.setting n w.point ≡ ahead n w.point) × IsPlaced w.setting.bytes (ahead n w.point)

    go : (m : ℕ) → w.flags.asked.width ≡ m → P (least_width w.flags.asked)
    go zero e =
        let is : least_width w.flags.asked ≡ 1 = ap at_least_one e in
        subst P (sym is)
        (let one = subst (λ (n : ℕ). IsPlainIndent n w) is plain in
        spaces-ahead w 0 one.spaces one.inside readable placed)
    go (suc m) e =
        let some : nat_eq (suc m) 0 ≡ false = grind (arith, nat_tests) in
        let is : least_width w.flags.asked ≡ suc m =
        ap at_least_one e ∙ ap (λ (b : Bool). cond b 1 (suc m)) some in
        subst P (sym is)
        (let some = subst (λ (n : ℕ). IsPlainIndent n w) is plain in
        spaces-ahead w m some.spaces some.inside readable placed)
