-- What is ahead of a paragraph is seen through lists and the texts of ATX headings.
use Rattle.std.proofs.Common.{◌≡◌, ℕ, Bool, true, false, cond, ◌&&◌, List, [], ◌∷◌, ◌++◌, refl, ap, sym, ◌∙◌, subst}
use Rattle.std.proofs.lemmas.Bool.{and_parts, and_right}
use Rattle.md_engine.specs.declared.event.Event.{Event}
use Rattle.md_engine.specs.declared.event.Kind.{Kind}
use Rattle.md_engine.specs.declared.event.Kind.TheVariants.{Enter, Exit}
use Rattle.md_engine.specs.declared.event.Name.{Name}
use Rattle.md_engine.specs.declared.event.Name.TheVariants as n
use Rattle.md_containers.specs.Listed.{Begins, Ends, Place, Stays, Turn, given, given_by, is_item, list_begin, list_end}
use Rattle.md_containers.specs.Listed.{list_name, listed_from, marker_ahead, next_item, place_after, turn}
use Rattle.md_leaves.specs.HeadingText.{Before, Outside, begins, is_heading, resolved}
use Rattle.md_leaves.specs.Turned.{has_underline, is_paragraph, is_turned, is_underline, underline_after}
use Rattle.md_leaves.proofs.TurnedLemmas.{no-ending}
use Rattle.md_events.specs.Events.Inline.{is_line_ending}
use Rattle.md_events.specs.Events.Nested.{enter, is_enter, is_exit}
use Rattle.md_events.specs.Events.Prefix.{is_prefix}
use Rattle.md_events.specs.Events.Spelled.{is_ordered, role}
use Rattle.md_order.specs.Alone.{HoldNoBlock, InEnding, InParagraph, MayBeHere, Nothing, Open, closed_by, closes}
use Rattle.md_order.specs.Alone.{opened_by}
use Rattle.md_order.specs.InOrder.{set_if}
use Rattle.md_order.proofs.Names.{prefix-heading, prefix-item, unset-bare, unset-item}
use Rattle.md_order.proofs.Passed.{heads-none, heads-pass, items-none, items-pass}
use Rattle.md_order.proofs.Stay.{closed-ending, closed-paragraph}

-- The events as the two in front leave them, each if it is wanted.
abbrev pub ahead : Bool → Bool → List ℕ → Place → List Event → List Event
ahead a i bytes place es = set_if a (resolved Outside) (set_if i (listed_from bytes place) es)

pub ahead-none : (a i : Bool) (bytes : List ℕ) (place : Place) → ahead a i bytes place [] ≡ []
ahead-none a i bytes place = ap (set_if a (resolved Outside)) (items-none i bytes place) ∙ heads-none a

-- an event of no item and no heading passes
pub ahead-pass : (a i : Bool) (bytes : List ℕ) (place : Place) (e : Event) (es : List Event) →
    is_item (role e.name) ≡ false → is_heading e.name ≡ false →
    ahead a i bytes place (e ∷ es) ≡ e ∷ ahead a i bytes place es
ahead-pass a i bytes place e es item heading =
    ap (set_if a (resolved Outside)) (items-pass i bytes place e es (λ k. item))
    ∙ heads-pass a e (set_if i (listed_from bytes place) es)
    (λ k. and_right (is_enter e.kind) (is_heading e.name) heading)

-- headings leave the first event as it is
abbrev heads_rest : Bool → Event → List Event → List Event
heads_rest true e es = resolved (cond (begins is_heading e) Before Outside) es
heads_rest false e es = es

heads-first : (a : Bool) (e : Event) (es : List Event) →
    set_if a (resolved Outside) (e ∷ es) ≡ e ∷ heads_rest a e es
heads-first true e es = refl
heads-first false e es = refl

-- What an item gives.

-- a name of no prefix, no underline and no line ending
record IsPlain (name : Name) : Type 0 where
  prefix : is_prefix name ≡ false
  underline : is_underline name ≡ false
  ending : is_line_ending name ≡ false

item-plain : (name : Name) → is_item (role name) ≡ true → IsPlain name
item-plain n.ListItem h = record { prefix = refl; underline = refl; ending = refl }
item-plain _ h = absurd (cc)

list-plain : (marker : ℕ) → IsPlain (list_name marker)
list-plain marker = go (is_ordered marker)
  where
    go : (x : Bool) → IsPlain (cond x n.ListOrdered n.ListUnordered)
    go true = record { prefix = refl; underline = refl; ending = refl }
    go false = record { prefix = refl; underline = refl; ending = refl }

-- events that begin with one of such a name
record StartsPlain (es : List Event) : Type 0 where
  first : Event
  rest : List Event
  is : es ≡ first ∷ rest
  plain : IsPlain first.name

-- an item or the begin of its list is such
item-starts : (bytes : List ℕ) (place : Place) (e : Event) (es more : List Event) → is_item (role e.name) ≡ true →
    StartsPlain (given bytes place e es ++ more)
item-starts bytes place e es more h = go (turn e.kind (role e.name))
  where
    itself : IsPlain e.name
    itself = item-plain e.name h

    begun : (within : Bool) → StartsPlain ((list_begin within (marker_ahead bytes es) e.point ++ e ∷ []) ++ more)
    begun true = record { first = e; rest = more; is = refl; plain = itself }
    begun false = record {
      first = enter (list_name (marker_ahead bytes es)) e.point;
      rest = e ∷ more;
      is = refl;
      plain = list-plain (marker_ahead bytes es);
    }

    go : (t : Turn) → StartsPlain (given_by t place (marker_ahead bytes es) (next_item bytes es) e ++ more)
    go Begins = begun place.within
    go Ends = record {
      first = e;
      rest = list_end place.markers (next_item bytes es) e.point ++ more;
      is = refl;
      plain = itself;
    }
    go Stays = record { first = e; rest = more; is = refl; plain = itself }

-- What is seen after an event that is no prefix is known from that event.

plain-unlined : (e : Event) (es : List Event) → IsPlain e.name → underline_after (e ∷ es) ≡ false
plain-unlined e es h = rw h.prefix (and_right (is_enter e.kind) (is_underline e.name) h.underline)

starts-unlined : (a : Bool) (es : List Event) → StartsPlain es →
    (underline_after (set_if a (resolved Outside) es) ≡ false)
    × (has_underline (set_if a (resolved Outside) es) ≡ false)
starts-unlined a es h =
    let same : set_if a (resolved Outside) es ≡ h.first ∷ heads_rest a h.first h.rest =
    ap (set_if a (resolved Outside)) h.is ∙ heads-first a h.first h.rest in (
      ap underline_after same ∙ plain-unlined h.first (heads_rest a h.first h.rest) h.plain,
      ap has_underline same ∙ no-ending h.first (heads_rest a h.first h.rest) h.plain.ending,
    )

-- So an item hides what follows it,
item-hides : (a i : Bool) (bytes : List ℕ) (place : Place) (e : Event) (es : List Event) →
    is_item (role e.name) ≡ true →
    (underline_after (ahead a i bytes place (e ∷ es)) ≡ false)
    × (has_underline (ahead a i bytes place (e ∷ es)) ≡ false)
item-hides a true bytes place e es h =
    starts-unlined a (listed_from bytes place (e ∷ es))
    (item-starts bytes place e es (listed_from bytes (place_after bytes place e es) es) h)
item-hides a false bytes place e es h =
    starts-unlined a (e ∷ es) (record { first = e; rest = es; is = refl; plain = item-plain e.name h })

-- and any other event is first.
other-first : (a i : Bool) (bytes : List ℕ) (place : Place) (e : Event) (es : List Event) →
    is_item (role e.name) ≡ false →
    ahead a i bytes place (e ∷ es) ≡ e ∷ heads_rest a e (set_if i (listed_from bytes place) es)
other-first a i bytes place e es h =
    ap (set_if a (resolved Outside)) (items-pass i bytes place e es (λ k. h))
    ∙ heads-first a e (set_if i (listed_from bytes place) es)

-- Looks for an underline.

underline-ahead : (a i : Bool) (bytes : List ℕ) (place : Place) (es : List Event) →
    underline_after (ahead a i bytes place es) ≡ underline_after es
underline-ahead a i bytes place [] = ap underline_after (ahead-none a i bytes place)
underline-ahead a i bytes place (e ∷ es) =
    go (is_prefix e.name) refl (is_item (role e.name)) refl (underline-ahead a i bytes place es)
  where
    other : is_prefix e.name ≡ false → (zs : List Event) →
        underline_after (e ∷ zs) ≡ (is_enter e.kind && is_underline e.name)
    other is zs = rw is refl

    go : (x : Bool) → is_prefix e.name ≡ x → (y : Bool) → is_item (role e.name) ≡ y →
        underline_after (ahead a i bytes place es) ≡ underline_after es →
        underline_after (ahead a i bytes place (e ∷ es)) ≡ underline_after (e ∷ es)
    go true is y item more =
        ap underline_after
        (ahead-pass a i bytes place e es (prefix-item e.name is) (prefix-heading e.name is))
        ∙ ap (λ (x : Bool). cond (is_prefix e.name) x (is_enter e.kind && is_underline e.name)) more
    go false is true item more =
        (item-hides a i bytes place e es item).0 ∙ sym (plain-unlined e es (item-plain e.name item))
    go false is false item more =
        ap underline_after (other-first a i bytes place e es item)
        ∙ other is (heads_rest a e (set_if i (listed_from bytes place) es)) ∙ sym (other is es)

-- after the end of a paragraph
ending-item : (name : Name) → is_line_ending name ≡ true → is_item (role name) ≡ false
ending-item n.LineEnding h = refl
ending-item _ h = absurd (let no : false ≡ true = h in cc)

ending-heading : (name : Name) → is_line_ending name ≡ true → is_heading name ≡ false
ending-heading n.LineEnding h = refl
ending-heading _ h = absurd (let no : false ≡ true = h in cc)

-- a line ending that is where nothing is open begins there
pub ending-opens : (kind : Kind) (name : Name) → is_line_ending name ≡ true →
    (is_exit kind ≡ true → opened_by name ≡ Nothing) → cond (is_enter kind) (opened_by name) Nothing ≡ InEnding
ending-opens Enter n.LineEnding h valid = refl
ending-opens Exit n.LineEnding h valid = sym (valid refl)
ending-opens kind _ h valid = absurd (let no : false ≡ true = h in cc)

in-ending : (f : Event) → MayBeHere InEnding f → (is_item (role f.name) ≡ false) × (is_heading f.name ≡ false)
in-ending f valid = go (closes InEnding f) refl
  where
    go : (x : Bool) → closes InEnding f ≡ x → (is_item (role f.name) ≡ false) × (is_heading f.name ≡ false)
    go true is =
        let ending : is_line_ending f.name ≡ true =
        sym (closed-ending f.name) ∙ (and_parts (is_exit f.kind) (closed_by InEnding f.name) is).1 in
        (ending-item f.name ending, ending-heading f.name ending)
    go false is = (unset-item f.name (valid is), (unset-bare f.name (valid is)).heading)

pub has-ahead : (a i : Bool) (bytes : List ℕ) (place : Place) (es : List Event) → HoldNoBlock Nothing es →
    has_underline (ahead a i bytes place es) ≡ has_underline es
has-ahead a i bytes place [] h = ap has_underline (ahead-none a i bytes place)
has-ahead a i bytes place (e ∷ es) h = go (is_line_ending e.name) refl (is_item (role e.name)) refl
  where
    following : (es : List Event) → HoldNoBlock InEnding es → is_line_ending e.name ≡ true →
        has_underline (e ∷ ahead a i bytes place es) ≡ has_underline (e ∷ es)
    following [] k is = ap (λ (l : List Event). has_underline (e ∷ l)) (ahead-none a i bytes place)
    following (f ∷ es) k is =
        ap (λ (l : List Event). has_underline (e ∷ l))
        (ahead-pass a i bytes place f es (in-ending f k.0).0 (in-ending f k.0).1)
        ∙ ap (λ (x : Bool). is_line_ending e.name && x) (underline-ahead a i bytes place es)

    go : (x : Bool) → is_line_ending e.name ≡ x → (y : Bool) → is_item (role e.name) ≡ y →
        has_underline (ahead a i bytes place (e ∷ es)) ≡ has_underline (e ∷ es)
    go true is y item =
        ap has_underline
        (ahead-pass a i bytes place e es (ending-item e.name is) (ending-heading e.name is))
        ∙ following es
        (subst (λ (o : Open). HoldNoBlock o es) (ending-opens e.kind e.name is h.0) h.1) is
    go false is true item = (item-hides a i bytes place e es item).1 ∙ sym (no-ending e es is)
    go false is false item =
        ap has_underline (other-first a i bytes place e es item)
        ∙ no-ending e (heads_rest a e (set_if i (listed_from bytes place) es)) is ∙ sym (no-ending e es is)

-- A look for the end of the paragraph that is open passes what is in it.

-- an event of no paragraph
pub past-one : (e : Event) (es : List Event) → is_paragraph e.name ≡ false → is_turned (e ∷ es) ≡ is_turned es
past-one e es h =
    ap (λ (x : Bool). cond x (has_underline es) (is_turned es)) (and_right (is_exit e.kind) (is_paragraph e.name) h)

paragraph-plain : (name : Name) → is_paragraph name ≡ true →
    (is_item (role name) ≡ false) × (is_heading name ≡ false)
paragraph-plain n.Paragraph h = (refl, refl)
paragraph-plain _ h = absurd (let no : false ≡ true = h in cc)

pub turned-ahead : (a i : Bool) (bytes : List ℕ) (place : Place) (es : List Event) → HoldNoBlock InParagraph es →
    is_turned (ahead a i bytes place es) ≡ is_turned es
turned-ahead a i bytes place [] h = ap is_turned (ahead-none a i bytes place)
turned-ahead a i bytes place (e ∷ es) h =
    go (closes InParagraph e) refl (λ k. turned-ahead a i bytes place es k)
  where
    on : (x : Bool) → closes InParagraph e ≡ x → HoldNoBlock (cond x Nothing InParagraph) es
    on x is = subst (λ (y : Bool). HoldNoBlock (cond y Nothing InParagraph) es) is h.1

    ended : closes InParagraph e ≡ true → (is_exit e.kind && is_paragraph e.name) ≡ true
    ended is = ap (λ (x : Bool). is_exit e.kind && x) (sym (closed-paragraph e.name)) ∙ is

    go : (x : Bool) → closes InParagraph e ≡ x →
        (HoldNoBlock InParagraph es → is_turned (ahead a i bytes place es) ≡ is_turned es) →
        is_turned (ahead a i bytes place (e ∷ es)) ≡ is_turned (e ∷ es)
    go true is more =
        let plain = paragraph-plain e.name (and_parts (is_exit e.kind) (is_paragraph e.name) (ended is)).1 in
        ap is_turned (ahead-pass a i bytes place e es plain.0 plain.1)
        ∙ rw (ended is) (has-ahead a i bytes place es (on true is))
    go false is more =
        let bare = unset-bare e.name (h.0 is) in
        ap is_turned (ahead-pass a i bytes place e es (unset-item e.name (h.0 is)) bare.heading)
        ∙ past-one e (ahead a i bytes place es) bare.paragraph
        ∙ more (on false is) ∙ sym (past-one e es bare.paragraph)
