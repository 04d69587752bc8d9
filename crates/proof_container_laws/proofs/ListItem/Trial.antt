-- What is tried for a list item: its prefix is taken where its cells say so, and takes a cell at least.
use Rattle.std.proofs.Common.{◌≡◌, ℕ, zero, suc, ◌≤◌, Bool, true, false, cond, not, List, [], ◌∷◌, ◌++◌, length, Option}
use Rattle.std.proofs.Common.{Some, None, refl, ◌∙◌, sym, subst, ap, ap₂, arith}
use Rattle.std.specs.Prelude.{nat_le}
use Rattle.std.proofs.lemmas.Bool.{eqb-true}
use Rattle.md_engine.specs.declared.configuration.ParseOptions.{ParseOptions}
use Rattle.md_engine.specs.declared.event.Event.{Event}
use Rattle.md_engine.specs.declared.event.Name.TheVariants.{ListItem}
use Rattle.md_engine.specs.declared.event.Point.{Point}
use Rattle.md_engine.specs.declared.tokenizer.container.Container.{Container as Held}
use Rattle.md_engine.specs.declared.tokenizer.container.name.ContainerKind.{ContainerKind}
use Rattle.md_engine.specs.declared.tokenizer.container.name.ContainerKind.TheVariants as kind
use Rattle.md_engine.specs.Meaning.{Accepts, Cell, Here}
use Rattle.md_engine.specs.World.{container_of}
use Rattle.md_containers.specs.Interrupts.{interrupts}
use Rattle.md_containers.specs.ItemPrefix.{ItemPassed, held_as, item_after, item_by, item_further, item_holds}
use Rattle.md_containers.specs.ItemPrefix.{item_indented, item_new, item_same}
use Rattle.md_containers.specs.ItemRule.{item_at, item_on}
use Rattle.md_containers.specs.QuoteRule.{indent_events}
use Rattle.md_containers.proofs.FootnoteHeld.{IsWithin}
use Rattle.md_containers.proofs.ItemCells.{item-is}
use Rattle.md_containers.proofs.ItemFurther.{further-is}
use Rattle.md_containers.proofs.ItemHeld.{IsHeld, further-held, new-held}
use Rattle.md_containers.proofs.ItemShorter.{IsShorter, further-shorter, new-shorter}
use Rattle.md_meaning.specs.Containers.{is_bullet, is_digit}
use Rattle.md_meaning.specs.Rest.{is_blank, is_white}
use Rattle.md_meaning.specs.State.{Container, InItem}
use Rattle.md_events.specs.Ahead.{line_bytes, white_end, white_rest, white_size}
use Rattle.md_events.specs.Events.Nested.{enter}
use Rattle.md_events.specs.Look.{first_seen}
use Rattle.md_events.specs.Spaces.{IsRest, ends_line, small_indent}
use Rattle.md_events.proofs.AheadLemmas.{none-rest}
use Rattle.md_events.proofs.RestCells.{white-length}
use Rattle.proof_container_laws.specs.Containers.ListItem.{item_proceeds, item_passed, item_passes, item_rules}
use Rattle.proof_frame.specs.Passed.{Passed, passed_by, passed_over}
use Rattle.proof_frame.specs.ContainerNames.{IsOf}
use Rattle.proof_frame.proofs.ContainerLaws.{IsPassed}
use Rattle.proof_container_laws.proofs.ListItem.Cells.{HasFront, further-front, new-front}

-- an item is of its kind where it is a column wide at least
pub wide-one : (digits : List ℕ) (marker width : ℕ) (blank : Bool) → 1 ≤ width →
    IsOf kind.ListItem (InItem digits marker width blank)
wide-one digits marker zero blank some = absurd (omega (arith, some))
wide-one digits marker (suc w) blank some = refl

-- what holds of all these holds of each container of this kind
pub each-item : (P : Container → Type 0) →
    ((digits : List ℕ) (marker width : ℕ) (blank : Bool) → 1 ≤ width → P (InItem digits marker width blank)) →
    (c : Container) → IsOf kind.ListItem c → P c
each-item P h (InItem digits marker zero blank) is = cc
each-item P h (InItem digits marker (suc w) blank) is = h digits marker (suc w) blank (omega arith)
each-item P h _ is = cc

-- and of each that is held
pub each-held : (held : Held) (P : Container → Type 0) →
    ((digits : List ℕ) (marker width : ℕ) (blank : Bool) → held.width ≡ width → held.starts_blank ≡ blank →
    1 ≤ width → P (InItem digits marker width blank)) →
    (c : Container) → item_holds held c → P c
each-held held P h (InItem digits marker width blank) holds = h digits marker width blank holds.0 holds.1 holds.2
each-held held P h _ holds = absurd holds

-- What is held of one shows no more of it than the container does.

held-same : (held : Held) (c : Container) → held.kind ≡ kind.ListItem → item_holds (held_as held c) c →
    held_as held c ≡ held_as (container_of kind.ListItem) c
held-same held c is =
    each-held (held_as held c) (λ d. held_as held d ≡ held_as (container_of kind.ListItem) d)
    (λ digits marker width blank e f some.
    ap (λ (k : ContainerKind). let h : Held = record { width = width; kind = k; starts_blank = blank } in h) is)
    c

-- so what is left of one is what it takes
passes-by : (o : Option ItemPassed) (h : Here) → h.flags.asked.kind ≡ kind.ListItem → IsHeld h.flags.asked o →
    item_by o h ≡ passed_by (item_passes o) h
passes-by None h is held = refl
passes-by (Some t) h is held =
    ap
    (λ (held : Held).
    Accepts
    (record h {
      events = h.events ++ t.events;
      point = t.point;
      flags = record h.flags { asked = held };
    }) t.cells)
    (held-same h.flags.asked t.container is held)

-- where one opens,
pub new-tried : (options : ParseOptions) (interrupting : Bool) (cells : List Cell) (h : Here) → IsRest h.scratch →
    h.flags.asked ≡ container_of kind.ListItem → h.flags.asked_column ≡ h.point.column →
    interrupting ≡ interrupts h.flags →
    item_at options cells h ≡ passed_by (item_passes (item_new options interrupting cells h.point)) h
new-tried options interrupting cells h is asked column by_flags =
    item-is options cells h is column
    ∙ passes-by (item_new options (interrupts h.flags) cells h.point) h (ap (λ (held : Held). held.kind) asked)
    (new-held h.flags.asked options (interrupts h.flags) cells h.point)
    ∙ ap (λ (x : Bool). passed_by (item_passes (item_new options x cells h.point)) h) (sym by_flags)

-- and on a further line
pub further-tried : (held : Held) (c : Container) (cells : List Cell) (h : Here) → IsRest h.scratch →
    h.flags.asked ≡ held → held.kind ≡ kind.ListItem → item_holds held c →
    item_on cells h ≡ passed_by (item_proceeds c cells h.point) h
further-tried held c cells h is asked of =
    each-held held (λ d. item_on cells h ≡ passed_by (item_proceeds d cells h.point) h)
    (λ digits marker width blank e f some.
    further-is width blank digits marker cells h is some (ap (λ (x : Held). x.width) asked ∙ e)
    (ap (λ (x : Held). x.starts_blank) asked ∙ f)
    ∙ passes-by (item_further digits marker width blank cells h.point) h (ap (λ (x : Held). x.kind) asked ∙ of)
    (further-held h.flags.asked digits marker width blank cells h.point some))
    c

-- What is taken.

-- no more is left than there was
within-if : (n : ℕ) (x : Bool) (a b : Option ItemPassed) → IsWithin n a → IsWithin n b → IsWithin n (cond x a b)
within-if n true a b h k = h
within-if n false a b h k = k

pub shorter-within : (n : ℕ) (o : Option ItemPassed) → IsShorter n o → IsWithin n o
shorter-within n None lt = tt
shorter-within n (Some t) lt = omega (arith, lt)

further-within : (digits : List ℕ) (marker width : ℕ) (blank : Bool) (cells : List Cell) (p : Point) →
    IsWithin (length cells) (item_further digits marker width blank cells p)
further-within digits marker width blank cells p =
    within-if _ (ends_line (first_seen cells)) _ _ (within-if _ blank _ _ tt (omega arith))
    (within-if _ (cond (is_blank (line_bytes cells)) (not blank) (nat_le width (white_size width cells))) _ _
    (white-length width cells) tt)

-- one that is held is of its kind
held-one : (held : Held) (c : Container) → item_holds held c → IsOf kind.ListItem c
held-one held c =
    each-held held (IsOf kind.ListItem)
    (λ digits marker width blank e f some. wide-one digits marker width blank some) c

held-kind : (held : Held) (c : Container) → (held_as held c).kind ≡ held.kind
held-kind held (InItem digits marker width blank) = refl
held-kind held _ = refl

-- so what passes is known
passed-is : (cells : List Cell) (o : Option ItemPassed) (t : Passed) → IsHeld (container_of kind.ListItem) o →
    (ends_line (first_seen cells) ≡ false → IsShorter (length cells) o) → IsWithin (length cells) o → HasFront o →
    item_passes o ≡ Some t → IsPassed kind.ListItem cells t
passed-is cells None t held shorter within front e = cc
passed-is cells (Some u) t held shorter within front e =
    let same : item_passed u ≡ t = cc in
    subst (IsPassed kind.ListItem cells) same
    (record {
      one = held-one (held_as (container_of kind.ListItem) u.container) u.container held;
      kind = held-kind (container_of kind.ListItem) u.container;
      shorter = shorter;
      within = within;
      front = front;
    })

-- and it is held as it is
passed-held : (o : Option ItemPassed) (t : Passed) → IsHeld (container_of kind.ListItem) o → item_passes o ≡ Some t →
    (t.held.kind ≡ kind.ListItem) × item_holds t.held t.container
passed-held None t held e = cc
passed-held (Some u) t held e =
    let same : item_passed u ≡ t = cc in
    subst (λ (v : Passed). (v.held.kind ≡ kind.ListItem) × item_holds v.held v.container) same
    (held-kind (container_of kind.ListItem) u.container, held)

-- where one opens,
pub new-passed : (options : ParseOptions) (interrupting : Bool) (cells : List Cell) (p : Point) (t : Passed) →
    item_rules.opens options interrupting cells p ≡ Some t → IsPassed kind.ListItem cells t
new-passed options interrupting cells p t =
    let shorter = new-shorter options interrupting cells p in
    passed-is cells (item_new options interrupting cells p) t
    (new-held (container_of kind.ListItem) options interrupting cells p) (λ ends. shorter)
    (shorter-within (length cells) (item_new options interrupting cells p) shorter)
    (new-front options interrupting cells p)

pub new-holds : (options : ParseOptions) (interrupting : Bool) (cells : List Cell) (p : Point) (t : Passed) →
    item_rules.opens options interrupting cells p ≡ Some t → item_rules.holds t.held t.container
new-holds options interrupting cells p t =
    passed-held (item_new options interrupting cells p) t
    (new-held (container_of kind.ListItem) options interrupting cells p)

-- and on a further line
pub further-passed : (c : Container) (cells : List Cell) (p : Point) (t : Passed) → IsOf kind.ListItem c →
    item_proceeds c cells p ≡ Some t → IsPassed kind.ListItem cells t
further-passed c cells p t is =
    each-item (λ d. item_proceeds d cells p ≡ Some t → IsPassed kind.ListItem cells t)
    (λ digits marker width blank some.
    passed-is cells (item_further digits marker width blank cells p) t
    (further-held (container_of kind.ListItem) digits marker width blank cells p some)
    (further-shorter digits marker width blank cells p some) (further-within digits marker width blank cells p)
    (further-front digits marker width blank cells p))
    c is

pub further-holds : (held : Held) (c : Container) (cells : List Cell) (p : Point) (t : Passed) → item_holds held c →
    item_proceeds c cells p ≡ Some t → item_rules.holds t.held t.container
further-holds held c cells p t =
    each-held held (λ d. item_proceeds d cells p ≡ Some t → item_rules.holds t.held t.container)
    (λ digits marker width blank e f some.
    passed-held (item_further digits marker width blank cells p) t
    (further-held (container_of kind.ListItem) digits marker width blank cells p some))
    c

-- Where the line ends none opens,

ended-following : (options : ParseOptions) (interrupting : Bool) (from : Point) (front : List Event) (c : Cell)
    (cs : List Cell) (p : Point) →
    c.byte ≡ 10 → item_after options interrupting from front (c ∷ cs) p ≡ None
ended-following options interrupting from front c cs p e =
    let bullet : is_bullet c.byte ≡ false = ap is_bullet e in
    let digit : is_digit c.byte ≡ false = ap is_digit e in
    rw (bullet, digit) refl

ended-rest : (options : ParseOptions) (interrupting : Bool) (from : Point) (front : List Event) (room : ℕ)
    (cells : List Cell) (p : Point) →
    ends_line (first_seen cells) ≡ true →
    item_after options interrupting from front (white_rest room cells) p ≡ None
ended-rest options interrupting from front room [] p ends = refl
ended-rest options interrupting from front room (c ∷ cs) p ends =
    let ten : c.byte ≡ 10 = eqb-true c.byte 10 ends in
    ap (λ (l : List Cell). item_after options interrupting from front l p) (none-rest room (c ∷ cs) (ap is_white ten))
    ∙ ended-following options interrupting from front c cs p ten

pub new-ended : (options : ParseOptions) (interrupting : Bool) (cells : List Cell) (p : Point) →
    ends_line (first_seen cells) ≡ true → item_rules.opens options interrupting cells p ≡ None
new-ended options interrupting cells p ends = ap item_passes (go options.constructs.list_item)
  where
    new : Option ItemPassed
    new =
        item_after options interrupting p (enter ListItem p ∷ indent_events options cells p)
        (white_rest (small_indent options) cells) (white_end (small_indent options) cells p)

    go : (x : Bool) → cond x new None ≡ None
    go true =
        ended-rest options interrupting p (enter ListItem p ∷ indent_events options cells p) (small_indent options)
        cells (white_end (small_indent options) cells p) ends
    go false = refl

-- and an open one continues as it is, unless it started blank
pub further-ended : (held : Held) (c : Container) (cells : List Cell) (p : Point) → held.kind ≡ kind.ListItem →
    item_holds held c → ends_line (first_seen cells) ≡ true →
    item_proceeds c cells p ≡ cond (not held.starts_blank) (Some (passed_over held c cells p)) None
further-ended held c cells p is holds ends =
    each-held held
    (λ d. item_proceeds d cells p ≡ cond (not held.starts_blank) (Some (passed_over held d cells p)) None) ended c holds
  where
    over : (digits : List ℕ) (marker width : ℕ) → Held → Passed
    over digits marker width held = passed_over held (InItem digits marker width false) cells p

    as-held : (width : ℕ) → held.width ≡ width → held.starts_blank ≡ false →
        held_as (container_of kind.ListItem) (InItem [] 0 width false) ≡ held
    as-held width e f =
        sym (ap (λ (k : ContainerKind). let h : Held = record held { kind = k } in h) is
        ∙ ap₂ (λ (w : ℕ) (b : Bool). let h : Held = record { width = w; kind = kind.ListItem; starts_blank = b } in h)
        e f)

    by : (digits : List ℕ) (marker width : ℕ) (blank : Bool) → held.width ≡ width → held.starts_blank ≡ blank →
        item_passes (cond blank None (Some (item_same digits marker width cells p))) ≡
        cond (not held.starts_blank) (Some (passed_over held (InItem digits marker width blank) cells p)) None
    by digits marker width true e f =
        sym
        (ap
        (λ (x : Bool). cond (not x) (Some (passed_over held (InItem digits marker width true) cells p)) None) f)
    by digits marker width false e f =
        ap (λ (h : Held). Some (over digits marker width h)) (as-held width e f)
        ∙ sym (ap (λ (x : Bool). cond (not x) (Some (over digits marker width held)) None) f)

    ended : (digits : List ℕ) (marker width : ℕ) (blank : Bool) → held.width ≡ width → held.starts_blank ≡ blank →
        1 ≤ width →
        item_passes (item_further digits marker width blank cells p) ≡
        cond (not held.starts_blank) (Some (passed_over held (InItem digits marker width blank) cells p)) None
    ended digits marker width blank e f some =
        ap
        (λ (x : Bool).
        item_passes
        (cond x (cond blank None (Some (item_same digits marker width cells p)))
        (cond (cond (is_blank (line_bytes cells)) (not blank) (nat_le width (white_size width cells)))
        (Some (item_indented digits marker width cells p)) None)))
        ends
        ∙ by digits marker width blank e f
