-- A definition takes its parts to the end of a line, or refuses.
use Rattle.std.proofs.Common.{◌≡◌, Bool, true, false, cond, nat_eq, List, [], ◌∷◌, ◌++◌, Option, Some, None, refl, sym}
use Rattle.std.proofs.Common.{◌∙◌, ap, append_assoc, append-nil, subst}
use Rattle.std.proofs.lemmas.Bool.{eqb-true, or_parts}
use Rattle.md_meaning.specs.Ascii.{colon}
use Rattle.md_meaning.specs.Definition as found
use Rattle.md_meaning.specs.Definition.{Destination}
use Rattle.md_engine.specs.declared.configuration.ParseOptions.{ParseOptions}
use Rattle.md_engine.specs.declared.event.Event.{Event}
use Rattle.md_engine.specs.declared.event.Name.TheVariants.{Definition, DefinitionMarker}
use Rattle.md_engine.specs.declared.event.Point.{Point}
use Rattle.md_engine.specs.declared.tokenizer.Scratch.{Scratch}
use Rattle.md_engine.specs.Meaning.{Accepts, Cell, Here, Outcome, Refuses}
use Rattle.md_engine.specs.World.{Flags}
use Rattle.md_link_definitions.specs.DefinitionRule.{DefinitionParts, at_end, at_title, at_title_end}
use Rattle.md_link_definitions.specs.DefinitionRule.{before_destination, before_label, before_title, after_destination}
use Rattle.md_link_definitions.specs.DefinitionRule.{after_label, after_marker, after_parts, after_title, definition_at}
use Rattle.md_link_definitions.specs.DefinitionRule.{definition_end, definition_events, definition_parts}
use Rattle.md_link_definitions.specs.DefinitionRule.{definition_rest, destination_begin, destination_end}
use Rattle.md_link_definitions.specs.DefinitionRule.{destination_rest, ends_after, is_literal, label_begin, lone}
use Rattle.md_link_definitions.specs.DefinitionRule.{parts_after, parts_end, parts_labelled, parts_rest, parts_with}
use Rattle.md_link_definitions.specs.DefinitionRule.{title_following, titled_end, titled_part, titled_rest, tried}
use Rattle.md_link_definitions.specs.DestinationRule.{begins_literal, destination_by, destination_last}
use Rattle.md_link_definitions.specs.DestinationRule.{destination_left, destination_part}
use Rattle.md_link_definitions.specs.GapRule.{begins_ending, begins_gap, ending_end, ending_part, ending_rest, gap_end}
use Rattle.md_link_definitions.specs.GapRule.{gap_part, gap_rest, past_white, white_part}
use Rattle.md_link_definitions.specs.LabelRule.{LabelParts, label_events, label_parts}
use Rattle.md_link_definitions.specs.TitleRule.{TitleParts, title_events, title_parts}
use Rattle.md_link_definitions.proofs.DestinationWhole.{destination-is}
use Rattle.md_link_definitions.proofs.GapWhole.{gap-refused, gap-took}
use Rattle.md_link_definitions.proofs.LabelWhole.{label-whole, taken_label}
use Rattle.md_link_definitions.proofs.TitleWhole.{taken_title, title-whole}
use Rattle.md_events.specs.Ahead.{begins_white, line_bytes, white_end, white_rest}
use Rattle.md_events.specs.Events.Nested.{enter, exit, pair}
use Rattle.md_events.specs.Look.{first_seen}
use Rattle.md_events.specs.Spaces.{IsRest, any_size, ends_line}
use Rattle.md_events.proofs.AheadLemmas.{none-end, none-rest}

-- after what has these events, and ends here
abbrev pub moved : Here → List Event → Point → Here
moved h es p = record h { events = h.events ++ es; point = p }

-- what a definition that was found becomes
abbrev pub taken_definition : Option DefinitionParts → Here → Outcome
taken_definition None h = Refuses h.scratch h.flags
taken_definition (Some d) h = Accepts (moved h (definition_events d h.point) (definition_end d)) (definition_rest d)

-- Where all parts end.

-- by whether the line ends after whitespace
abbrev ended_here : Bool → List Cell → Here → Outcome
ended_here true cells h =
    let p = white_end any_size cells h.point in
    Accepts (moved (moved h (white_part cells h.point) p) (exit Definition p ∷ []) p) (white_rest any_size cells)
ended_here false cells h = Refuses h.scratch h.flags

parts-is : (cells : List Cell) (h : Here) → after_parts cells h ≡ ended_here (ends_after cells) cells h
unfolding after_parts at_end past_white
parts-is cells h = go (ends_after cells)
  where
    p : Point
    p = white_end any_size cells h.point

    go : (x : Bool) →
        cond x
        (Accepts
        (moved (moved h (white_part cells h.point) p) (exit Definition p ∷ []) p)
        (white_rest any_size cells))
        (Refuses h.scratch h.flags) ≡
        ended_here x cells h
    go true = refl
    go false = refl

-- where the line ends no whitespace is
ends-dark : (cells : List Cell) → ends_line (first_seen cells) ≡ true → begins_white cells ≡ false
ends-dark [] e = refl
ends-dark (c ∷ cs) e = let ten : c.byte ≡ 10 = eqb-true c.byte 10 e in rw ten refl

-- and the definition ends there
parts-here : (cells : List Cell) (h : Here) → ends_line (first_seen cells) ≡ true →
    after_parts cells h ≡ Accepts (moved h (exit Definition h.point ∷ []) h.point) cells
parts-here cells h e =
    let dark = ends-dark cells e in
    let same = none-rest any_size cells dark in
    let stays = none-end any_size cells h.point dark in
    parts-is cells h
    ∙ ap (λ (x : Bool). ended_here x cells h) (ap (λ (x : List Cell). ends_line (first_seen x)) same ∙ e)
    ∙ rw (same, stays, dark, append-nil) refl

-- The title.

-- one that ends its line, with the whitespace after it
abbrev lone_taken : Option TitleParts → Here → Outcome
lone_taken None h = Refuses h.scratch h.flags
lone_taken (Some t) h =
    let p = white_end any_size t.rest t.closer.after in
    Accepts
    (moved (moved h (title_events t h.point) t.closer.after) (white_part t.rest t.closer.after) p)
    (white_rest any_size t.rest)

lone-is : (t : TitleParts) (h : Here) →
    after_title t.rest (moved h (title_events t h.point) t.closer.after) ≡ lone_taken (lone (Some t)) h
unfolding after_title at_title_end past_white
lone-is t h = go (ends_after t.rest)
  where
    p : Point
    p = white_end any_size t.rest t.closer.after

    go : (x : Bool) →
        cond x
        (Accepts
        (moved (moved h (title_events t h.point) t.closer.after) (white_part t.rest t.closer.after) p)
        (white_rest any_size t.rest))
        (Refuses h.scratch h.flags) ≡
        lone_taken (cond x (Some t) None) h
    go true = refl
    go false = refl

title-is : (cells : List Cell) (h : Here) → IsRest h.scratch →
    at_title cells h ≡ lone_taken (lone (title_parts cells)) h
unfolding at_title
title-is cells h is =
    ap (λ (o : Outcome). tried o after_title Refuses) (title-whole cells h is)
    ∙ go (title_parts cells)
  where
    go : (o : Option TitleParts) → tried (taken_title o h) after_title Refuses ≡ lone_taken (lone o) h
    go None = refl
    go (Some t) = lone-is t h

-- and the gap before it
abbrev title_taken : Option TitleParts → List Cell → Here → Outcome
title_taken None cells h = Refuses h.scratch h.flags
title_taken (Some t) cells h = lone_taken (Some t) (moved h (gap_part cells h.point) (gap_end cells h.point))

gap-title : (cells : List Cell) (h : Here) (o : Option TitleParts) →
    lone_taken o (moved h (gap_part cells h.point) (gap_end cells h.point)) ≡ title_taken o cells h
gap-title cells h None = refl
gap-title cells h (Some t) = refl

before-is : (cells : List Cell) (h : Here) → IsRest h.scratch →
    before_title cells h ≡ title_taken (title_following cells) cells h
unfolding before_title
before-is cells h is = go (begins_gap cells) refl
  where
    go : (x : Bool) → begins_gap cells ≡ x → before_title cells h ≡ title_taken (title_following cells) cells h
    go true e =
        ap (λ (o : Outcome). tried o at_title Refuses) (gap-took cells h is e)
        ∙ title-is (gap_rest cells) (moved h (gap_part cells h.point) (gap_end cells h.point)) is
        ∙ rw e (gap-title cells h (lone (title_parts (gap_rest cells))))
    go false e = ap (λ (o : Outcome). tried o at_title Refuses) (gap-refused cells h is e) ∙ rw e refl

-- it ends its line
pub title-ends : (cells : List Cell) (t : TitleParts) → title_following cells ≡ Some t → ends_after t.rest ≡ true
title-ends cells t e = go (begins_gap cells) (title_parts (gap_rest cells)) refl e
  where
    by : (u : TitleParts) (x : Bool) → ends_after u.rest ≡ x → cond x (Some u) None ≡ Some t →
        ends_after t.rest ≡ true
    by u true k e = let same : u ≡ t = cc in subst (λ (v : TitleParts). ends_after v.rest ≡ true) same k
    by u false k e = let none : (let o : Option TitleParts = None in o) ≡ Some t = e in cc

    go : (x : Bool) (o : Option TitleParts) → begins_gap cells ≡ x → cond x (lone o) None ≡ Some t →
        ends_after t.rest ≡ true
    go true (Some u) k e = by u (ends_after u.rest) refl e
    go true None k e = let none : (let o : Option TitleParts = None in o) ≡ Some t = e in cc
    go false o k e = let none : (let o : Option TitleParts = None in o) ≡ Some t = e in cc

-- What follows the destination.

-- a title, or none, and the end of the line
abbrev tail_events : Option TitleParts → List Cell → Point → List Event
tail_events title cells p =
    let rest = titled_rest title cells in
    let q = titled_end title p in
    titled_part title cells p ++ white_part rest q ++ exit Definition (white_end any_size rest q) ∷ []

abbrev tail_taken : Option TitleParts → List Cell → Here → Outcome
tail_taken title cells h =
    let rest = titled_rest title cells in
    cond (ends_after rest)
    (Accepts
    (moved h (tail_events title cells h.point) (white_end any_size rest (titled_end title h.point)))
    (white_rest any_size rest))
    (Refuses h.scratch h.flags)

four : (a g t w x : List Event) → a ++ g ++ t ++ w ++ x ≡ a ++ (g ++ t ++ w ++ x)
four a g t w x = simp append_assoc

tail-none : (cells : List Cell) (h : Here) → after_parts cells h ≡ tail_taken None cells h
tail-none cells h = parts-is cells h ∙ go (ends_after cells)
  where
    p : Point
    p = white_end any_size cells h.point

    go : (x : Bool) →
        ended_here x cells h ≡
        cond x (Accepts (moved h (tail_events None cells h.point) p) (white_rest any_size cells))
        (Refuses h.scratch h.flags)
    go true =
        ap (λ (es : List Event). Accepts (record h { events = es; point = p }) (white_rest any_size cells))
        (append_assoc h.events (white_part cells h.point) (exit Definition p ∷ []))
    go false = refl

tail-some : (t : TitleParts) (cells : List Cell) (h : Here) → ends_after t.rest ≡ true →
    tried (title_taken (Some t) cells h) after_parts
    (λ s g. after_parts cells (record h { scratch = s; flags = g })) ≡
    tail_taken (Some t) cells h
tail-some t cells h e =
    let p = white_end any_size t.rest t.closer.after in
    let found = moved
    (moved (moved h (gap_part cells h.point) (gap_end cells h.point)) (title_events t (gap_end cells h.point))
    t.closer.after) (white_part t.rest t.closer.after) p in
    let last : List Event = exit Definition p ∷ [] in
    parts-here (white_rest any_size t.rest) found e
    ∙ ap (λ (es : List Event). Accepts (record h { events = es; point = p }) (white_rest any_size t.rest))
    (four h.events (gap_part cells h.point) (title_events t (gap_end cells h.point))
    (white_part t.rest t.closer.after) last)
    ∙ ap
    (λ (x : Bool).
    cond x (Accepts (moved h (tail_events (Some t) cells h.point) p) (white_rest any_size t.rest))
    (Refuses h.scratch h.flags))
    (sym e)

tail-is : (cells : List Cell) (h : Here) → IsRest h.scratch →
    after_destination cells h ≡ tail_taken (title_following cells) cells h
unfolding after_destination
tail-is cells h is =
    ap
    (λ (o : Outcome). tried o after_parts (λ s g. after_parts cells (record h { scratch = s; flags = g })))
    (before-is cells h is)
    ∙ go (title_following cells) refl
  where
    go : (o : Option TitleParts) → title_following cells ≡ o →
        tried (title_taken o cells h) after_parts
        (λ s g. after_parts cells (record h { scratch = s; flags = g })) ≡
        tail_taken o cells h
    go None e = tail-none cells h
    go (Some t) e = tail-some t cells h (title-ends cells t e)

-- The destination, and what follows it.

abbrev destination_taken : List Cell → Here → Option Destination → Outcome
destination_taken cells h None = Refuses h.scratch h.flags
destination_taken cells h (Some d) =
    let left = destination_left d cells in
    tail_taken (title_following left) left
    (moved h (destination_part (begins_literal cells) d.text cells h.point) (destination_last d cells h.point))

whole-destination : (cells : List Cell) (h : Here) → IsRest h.scratch →
    before_destination cells h ≡ destination_taken cells h (found.destination_at (line_bytes cells))
unfolding before_destination
whole-destination cells h is =
    ap (λ (o : Outcome). tried o after_destination Refuses) (destination-is cells h is)
    ∙ go (found.destination_at (line_bytes cells))
  where
    go : (o : Option Destination) →
        tried (destination_by cells h o) after_destination Refuses ≡ destination_taken cells h o
    go None = refl
    go (Some d) = tail-is (destination_left d cells) _ is

-- Where no gap is, none is taken.
no-ending : (cells : List Cell) (p : Point) → begins_ending cells ≡ false →
    (ending_part cells p ≡ []) × (ending_end cells p ≡ p) × (ending_rest cells ≡ cells)
no-ending [] p e = (refl, refl, refl)
no-ending (c ∷ cs) p e = (rw e refl, rw e refl, rw e refl)

-- A gap that may be left out.
whole-gap : (cells : List Cell) (h : Here) → IsRest h.scratch →
    after_marker cells h ≡
    before_destination (gap_rest cells) (moved h (gap_part cells h.point) (gap_end cells h.point))
unfolding after_marker
whole-gap cells h is = go (begins_gap cells) refl
  where
    otherwise : Scratch → Flags → Outcome
    otherwise s g = before_destination cells (record h { scratch = s; flags = g })

    go : (x : Bool) → begins_gap cells ≡ x →
        after_marker cells h ≡
        before_destination (gap_rest cells) (moved h (gap_part cells h.point) (gap_end cells h.point))
    go true e = ap (λ (o : Outcome). tried o before_destination otherwise) (gap-took cells h is e)
    go false e =
        let parts = or_parts (begins_white cells) (begins_ending cells) e in
        let none = no-ending cells h.point parts.1 in
        let rest = none-rest any_size cells parts.0 in
        let end = none-end any_size cells h.point parts.0 in
        ap (λ (o : Outcome). tried o before_destination otherwise) (gap-refused cells h is e)
        ∙ rw (parts.0, rest, end, none.0, none.1, none.2, append-nil) refl

-- The whole rule.

-- all events, in their order
joined : (a w l m g d t v : List Event) (e x : Event) →
    a ++ w ++ e ∷ [] ++ l ++ m ++ g ++ d ++ (t ++ v ++ x ∷ []) ≡
    a ++ (w ++ e ∷ (l ++ m ++ g ++ d ++ t ++ v ++ x ∷ []))
joined a w l m g d t v e x = simp append_assoc

-- at the destination, after the label and the colon
abbrev at_destination : List Cell → LabelParts → Cell → List Cell → Here → Here
at_destination cells label c cs h =
    let a = white_end any_size cells h.point in
    let following = moved (moved h (white_part cells h.point) a) (enter Definition a ∷ []) a in
    let named = moved following (label_events label a) label.closer.after in
    let marked = moved named (pair DefinitionMarker label.closer.after c.after) c.after in
    moved marked (gap_part cs c.after) (gap_end cs c.after)

-- from there on
from-destination : (cells : List Cell) (label : LabelParts) (c : Cell) (cs : List Cell) (h : Here)
    (o : Option Destination) →
    destination_taken (gap_rest cs) (at_destination cells label c cs h) o ≡
    taken_definition (parts_with cells label c cs o) h
from-destination cells label c cs h None = refl
from-destination cells label c cs h (Some d) = go (ends_after (parts_rest all))
  where
    all : DefinitionParts
    all = record {
      cells = cells;
      label = label;
      colon = c;
      more = cs;
      destination = d;
      title = title_following (destination_left d (gap_rest cs));
    }

    found : Here
    found =
        moved (at_destination cells label c cs h)
        (destination_part (is_literal all) d.text (gap_rest cs) (destination_begin all)) (destination_end all)

    go : (x : Bool) →
        cond x
        (Accepts
        (moved found (tail_events all.title (destination_rest all) (destination_end all)) (definition_end all))
        (definition_rest all))
        (Refuses h.scratch h.flags) ≡
        taken_definition (cond x (Some all) None) h
    go true =
        ap
        (λ (es : List Event). Accepts (record h { events = es; point = definition_end all }) (definition_rest all))
        (joined h.events (white_part cells h.point) (label_events label (label_begin all h.point))
        (pair DefinitionMarker label.closer.after c.after) (gap_part cs c.after)
        (destination_part (is_literal all) d.text (gap_rest cs) (destination_begin all))
        (titled_part all.title (destination_rest all) (destination_end all))
        (white_part (parts_rest all) (parts_end all)) (enter Definition (label_begin all h.point))
        (exit Definition (definition_end all)))
    go false = refl

-- after the label
from-label : (cells : List Cell) (label : LabelParts) (left : List Cell) (h : Here) → IsRest h.scratch →
    (let a = white_end any_size cells h.point in
    after_label left
    (moved (moved (moved h (white_part cells h.point) a) (enter Definition a ∷ []) a) (label_events label a)
    label.closer.after)) ≡
    taken_definition (parts_after cells label left) h
unfolding after_label
from-label cells label [] h is = refl
from-label cells label (c ∷ cs) h is = go (nat_eq c.byte colon) refl
  where
    a : Point
    a = white_end any_size cells h.point

    named : Here
    named =
        moved (moved (moved h (white_part cells h.point) a) (enter Definition a ∷ []) a) (label_events label a)
        label.closer.after

    go : (x : Bool) → nat_eq c.byte colon ≡ x →
        after_label (c ∷ cs) named ≡ taken_definition (parts_after cells label (c ∷ cs)) h
    go true e =
        rw e
        (whole-gap cs (moved named (pair DefinitionMarker label.closer.after c.after) c.after) is
        ∙ whole-destination (gap_rest cs) (at_destination cells label c cs h) is
        ∙ from-destination cells label c cs h (found.destination_at (line_bytes (gap_rest cs))))
    go false e = rw e refl

-- from the `[` on
from-white : (cells : List Cell) (h : Here) → IsRest h.scratch →
    before_label (white_rest any_size cells) (past_white cells h) ≡ taken_definition (definition_parts cells) h
unfolding before_label past_white definition_parts
from-white cells h is =
    let a = white_end any_size cells h.point in
    let there = moved (moved h (white_part cells h.point) a) (enter Definition a ∷ []) a in
    ap (λ (o : Outcome). tried o after_label Refuses) (label-whole (white_rest any_size cells) there is)
    ∙ go (label_parts (white_rest any_size cells))
  where
    go : (o : Option LabelParts) →
        (let a = white_end any_size cells h.point in
        tried (taken_label o (moved (moved h (white_part cells h.point) a) (enter Definition a ∷ []) a)) after_label
        Refuses) ≡
        taken_definition (parts_labelled cells o) h
    go None = refl
    go (Some label) = from-label cells label label.rest h is

-- A definition is taken where one is, if definitions are on, and else nothing.
pub definition-whole : (options : ParseOptions) (cells : List Cell) (h : Here) → IsRest h.scratch →
    definition_at options cells h ≡
    taken_definition (cond options.constructs.definition (definition_parts cells) None) h
unfolding definition_at
definition-whole options cells h is = go options.constructs.definition
  where
    go : (x : Bool) →
        cond x (before_label (white_rest any_size cells) (past_white cells h)) (Refuses h.scratch h.flags) ≡
        taken_definition (cond x (definition_parts cells) None) h
    go true = from-white cells h is
    go false = refl
