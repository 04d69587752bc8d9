-- Where a setext heading is open, its underline follows, and no item, ATX heading or table is before the end of that:
-- the text of the heading is a paragraph, which holds no block, and after it are only a line ending and the prefixes of
-- containers (CommonMark 4.3).
use Rattle.std.proofs.Common.{◌≡◌, inr, Bool, true, false, cond, ◌&&◌, List, [], ◌∷◌, refl, ap, sym, ◌∙◌, subst}
use Rattle.std.proofs.lemmas.Bool.{and_parts, and_right}
use Rattle.md_engine.specs.declared.event.Event.{Event}
use Rattle.md_engine.specs.declared.event.Kind.{Kind}
use Rattle.md_engine.specs.declared.event.Kind.TheVariants.{Enter, Exit}
use Rattle.md_engine.specs.declared.event.Name.{Name}
use Rattle.md_engine.specs.declared.event.Name.TheVariants as n
use Rattle.md_leaves.specs.HeadingText.{begins, is_heading}
use Rattle.md_leaves.specs.Turned.{BeginsText, EndsText, EndsUnderline, Stays, Turn, has_underline, is_paragraph}
use Rattle.md_leaves.specs.Turned.{is_turned, is_underline, on_by, passes as is_unturned, turn, turn_by}
use Rattle.md_leaves.specs.Turned.{underline_after}
use Rattle.md_events.specs.Events.Inline.{is_line_ending}
use Rattle.md_events.specs.Events.Nested.{is_enter, is_exit}
use Rattle.md_events.specs.Events.Prefix.{is_prefix}
use Rattle.md_tables.specs.Tabled.{begins_table, bound_of}
use Rattle.md_order.specs.Alone.{HoldNoBlock, InEnding, InParagraph, InUnderline, MayBeHere, Nothing, Open, closed_by}
use Rattle.md_order.specs.Alone.{closes, is_set, open_following, opened_by}
use Rattle.md_order.specs.Left.{MayBeLeft, MayStay}
use Rattle.md_order.proofs.Names.{bare-unturned, tableless, unset-bare, unset-item}
use Rattle.md_order.proofs.Stay.{closed-ending, stay-drop, stay-opens}
use Rattle.md_order.proofs.SetextLook.{ending-opens}
use Rattle.md_order.proofs.Plain.{left-holds, of_item, with_items}

-- an event of no item, with which no ATX heading and no table begins
pub record IsFree (e : Event) : Type 0 where
  pub item : of_item e ≡ false
  pub heading : begins is_heading e ≡ false
  pub table : begins_table (bound_of e) ≡ false

-- All events are such up to the end of an underline, or to the begin of a paragraph, where one looks again.

abbrev Until : Turn → Type 0 → Type 0
Until BeginsText following = Unit {0}
Until EndsUnderline following = Unit {0}
Until EndsText following = following
Until Stays following = following

abbrev pub Awaited : List Event → Type 0
Awaited [] = Unit {0}
Awaited (e ∷ es) = IsFree e × Until (turn e) (Awaited es)

-- which is asked only where a setext heading is open
abbrev pub Awaits : Bool → List Event → Type 0
Awaits true es = Awaited es
Awaits false es = Unit {0}

-- So none is open at an event that is no such one.
pub none-open : (on : Bool) (e : Event) (es : List Event) → Awaits on (e ∷ es) → (IsFree e → ⊥) → on ≡ false
none-open true e es h other = absurd (other h.0)
none-open false e es h other = refl

-- Events of none of the blocks that are set are such.

unturned-stays : (kind : Kind) (name : Name) →
    cond (is_paragraph name) false (cond (is_underline name) false true) ≡ true → turn_by kind name ≡ Stays
unturned-stays kind n.Paragraph h = absurd (let no : false ≡ true = h in cc)
unturned-stays kind n.HeadingSetextUnderline h = absurd (let no : false ≡ true = h in cc)
unturned-stays Enter _ h = refl
unturned-stays Exit _ h = refl

awaited-on : (e : Event) (es : List Event) → is_set e.name ≡ false → Awaited es → Awaited (e ∷ es)
awaited-on e es h more =
    let bare = unset-bare e.name h in (
      record {
        item = unset-item e.name h;
        heading = and_right (is_enter e.kind) (is_heading e.name) bare.heading;
        table = tableless e.kind e.name bare.table;
      },
      subst (λ (t : Turn). Until t (Awaited es)) (sym (unturned-stays e.kind e.name (bare-unturned e bare))) more,
    )

prefix-unset : (name : Name) → is_prefix name ≡ true → is_set name ≡ false
prefix-unset n.SpaceOrTab h = refl
prefix-unset n.BlockQuotePrefix h = refl
prefix-unset n.BlockQuoteMarker h = refl
prefix-unset _ h = absurd (let no : false ≡ true = h in cc)

ending-unset : (name : Name) → is_line_ending name ≡ true → is_set name ≡ false
ending-unset n.LineEnding h = refl
ending-unset _ h = absurd (let no : false ≡ true = h in cc)

-- Within an underline.
underline-awaited : (es : List Event) → HoldNoBlock InUnderline es → Awaited es
underline-awaited [] h = tt
underline-awaited (e ∷ es) h = go (closes InUnderline e) refl (λ k. underline-awaited es k)
  where
    ended : (kind : Kind) (name : Name) → (is_exit kind && closed_by InUnderline name) ≡ true →
        Awaited (record e { kind = kind; name = name } ∷ es)
    ended Exit n.HeadingSetextUnderline is = (record { item = refl; heading = refl; table = refl }, tt)
    ended Exit _ is = absurd (let no : false ≡ true = is in cc)
    ended Enter name is = absurd (let no : false ≡ true = is in cc)

    go : (x : Bool) → closes InUnderline e ≡ x → (HoldNoBlock InUnderline es → Awaited es) → Awaited (e ∷ es)
    go true is more = ended e.kind e.name is
    go false is more =
        awaited-on e es (h.0 is)
        (more (subst (λ (x : Bool). HoldNoBlock (cond x Nothing InUnderline) es) is h.1))

-- Between the line ending after the text and the underline.
following-awaited : (es : List Event) → MayStay (with_items true) es → underline_after es ≡ true → Awaited es
following-awaited [] stay h = absurd (let no : false ≡ true = h in cc)
following-awaited (e ∷ es) stay h =
    go (is_prefix e.name) refl h (λ k. following-awaited es (stay-drop (with_items true) (e ∷ es) stay 1) k)
  where
    begun : (kind : Kind) (name : Name) → (is_enter kind && is_underline name) ≡ true →
        (is_enter kind ≡ true → is_set name ≡ true → MayBeLeft (with_items true) (opened_by name) es) →
        Awaited (record e { kind = kind; name = name } ∷ es)
    begun Enter n.HeadingSetextUnderline is opens = (
      record { item = refl; heading = refl; table = refl },
      underline-awaited es (left-holds InUnderline es (opens refl refl)),
    )
    begun Enter _ is opens = absurd (let no : false ≡ true = is in cc)
    begun Exit name is opens = absurd (let no : false ≡ true = is in cc)

    go : (x : Bool) → is_prefix e.name ≡ x →
        cond x (underline_after es) (is_enter e.kind && is_underline e.name) ≡ true →
        (underline_after es ≡ true → Awaited es) → Awaited (e ∷ es)
    go true is here more = awaited-on e es (prefix-unset e.name is) (more here)
    go false is here more =
        begun e.kind e.name here (λ a b. stay-opens (with_items true) e es stay a b)

-- Before that line ending.

in-ending : (f : Event) → MayBeHere InEnding f → is_set f.name ≡ false
in-ending f valid = go (closes InEnding f) refl
  where
    go : (x : Bool) → closes InEnding f ≡ x → is_set f.name ≡ false
    go true is =
        ending-unset f.name
        (sym (closed-ending f.name) ∙ (and_parts (is_exit f.kind) (closed_by InEnding f.name) is).1)
    go false is = valid is

has-awaited : (es : List Event) → HoldNoBlock Nothing es → has_underline es ≡ true → Awaited es
has-awaited [] h has = absurd (let no : false ≡ true = has in cc)
has-awaited (e ∷ []) h has = absurd (let no : false ≡ true = has in cc)
has-awaited (e ∷ f ∷ es) h has =
    awaited-on e (f ∷ es) (ending-unset e.name parts.0)
    (awaited-on f es (in-ending f inside.0)
    (following-awaited es (open_following InEnding f, inr inside.1) parts.1))
  where
    parts : (is_line_ending e.name ≡ true) × (underline_after es ≡ true)
    parts = and_parts (is_line_ending e.name) (underline_after es) has

    inside : HoldNoBlock InEnding (f ∷ es)
    inside = subst (λ (o : Open). HoldNoBlock o (f ∷ es)) (ending-opens e.kind e.name parts.0 h.0) h.1

-- Within the paragraph that is the text.
text-awaited : (es : List Event) → HoldNoBlock InParagraph es → is_turned es ≡ true → Awaited es
text-awaited [] h turned = absurd (let no : false ≡ true = turned in cc)
text-awaited (e ∷ es) h turned = go (closes InParagraph e) refl (λ k l. text-awaited es k l)
  where
    on : (x : Bool) → closes InParagraph e ≡ x → HoldNoBlock (cond x Nothing InParagraph) es
    on x is = subst (λ (y : Bool). HoldNoBlock (cond y Nothing InParagraph) es) is h.1

    ended : (kind : Kind) (name : Name) → (is_exit kind && closed_by InParagraph name) ≡ true →
        cond (is_exit kind && is_paragraph name) (has_underline es) (is_turned es) ≡ true → HoldNoBlock Nothing es →
        Awaited (record e { kind = kind; name = name } ∷ es)
    ended Exit n.Paragraph is has hold = (record { item = refl; heading = refl; table = refl }, has-awaited es hold has)
    ended Exit _ is has hold = absurd (let no : false ≡ true = is in cc)
    ended Enter name is has hold = absurd (let no : false ≡ true = is in cc)

    go : (x : Bool) → closes InParagraph e ≡ x →
        (HoldNoBlock InParagraph es → is_turned es ≡ true → Awaited es) → Awaited (e ∷ es)
    go true is more = ended e.kind e.name is turned (on true is)
    go false is more =
        awaited-on e es (h.0 is)
        (more (on false is)
        (ap (λ (x : Bool). cond x (has_underline es) (is_turned es))
        (sym (and_right (is_exit e.kind) (is_paragraph e.name) (unset-bare e.name (h.0 is)).paragraph))
        ∙ turned))

-- So what is asked holds after each event.
pub turn-awaits : (on : Bool) (e : Event) (es : List Event) → MayStay (with_items true) (e ∷ es) → Awaits on (e ∷ es) →
    Awaits (on_by (turn e) on (is_turned es)) es
turn-awaits on e es stay h = go (turn e) refl on (is_turned es) refl h
  where
    begun : (kind : Kind) (name : Name) → turn_by kind name ≡ BeginsText →
        (is_enter kind ≡ true → is_set name ≡ true → MayBeLeft (with_items true) (opened_by name) es) →
        HoldNoBlock InParagraph es
    begun Enter n.Paragraph is opens = left-holds InParagraph es (opens refl refl)
    begun Exit n.Paragraph is opens = absurd (let no : EndsText ≡ BeginsText = is in cc)
    begun Exit n.HeadingSetextUnderline is opens = absurd (let no : EndsUnderline ≡ BeginsText = is in cc)
    begun kind _ is opens = absurd (let no : Stays ≡ BeginsText = is in cc)

    go : (t : Turn) → turn e ≡ t → (on begins : Bool) → is_turned es ≡ begins → Awaits on (e ∷ es) →
        Awaits (on_by t on begins) es
    go BeginsText is on true turned h =
        text-awaited es (begun e.kind e.name is (λ a b. stay-opens (with_items true) e es stay a b)) turned
    go BeginsText is on false turned h = tt
    go EndsText is true begins turned h = subst (λ (t : Turn). Until t (Awaited es)) is h.1
    go EndsText is false begins turned h = tt
    go EndsUnderline is on begins turned h = tt
    go Stays is true begins turned h = subst (λ (t : Turn). Until t (Awaited es)) is h.1
    go Stays is false begins turned h = tt

pub passed-awaits : (on : Bool) (e : Event) (es : List Event) → is_unturned e ≡ true →
    MayStay (with_items true) (e ∷ es) → Awaits on (e ∷ es) → Awaits on es
passed-awaits on e es passed stay h =
    subst (λ (t : Turn). Awaits (on_by t on (is_turned es)) es) (unturned-stays e.kind e.name passed)
    (turn-awaits on e es stay h)
