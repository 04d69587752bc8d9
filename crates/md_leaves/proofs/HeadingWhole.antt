-- A heading takes a whole line, or refuses it.
use Rattle.std.proofs.Common.{◌≡◌, ℕ, ◌≤◌, Bool, true, false, List, [], ◌∷◌, ◌++◌, length, refl, sym, ◌∙◌, ap, arith}
use Rattle.std.proofs.Common.{append_assoc}
use Rattle.std.specs.Prelude.{◌==◌}
use Rattle.std.proofs.lemmas.Bool.{and_parts, eqb-true}
use Rattle.md_engine.specs.declared.configuration.ParseOptions.{ParseOptions}
use Rattle.md_engine.specs.declared.event.Event.{Event}
use Rattle.md_engine.specs.declared.event.Name.TheVariants.{HeadingAtx, HeadingAtxSequence, SpaceOrTab}
use Rattle.md_engine.specs.declared.event.Point.{Point}
use Rattle.md_engine.specs.declared.tokenizer.Scratch.{Scratch}
use Rattle.md_engine.specs.Meaning.{Accepts, Cell, Here, Outcome, Refuses}
use Rattle.md_engine.specs.Place.{first_point}
use Rattle.md_leaves.specs.HeadingRule.{at_break, before_opening, after_opening, gap_inside, hashes_inside, heading_at}
use Rattle.md_leaves.specs.HeadingRule.{heading_inside, in_hashes, in_text, is_heading, is_heading_line, text_inside}
use Rattle.md_leaves.proofs.HeadingLemmas.{before-is, before-no, break-text, opening-gap, opening-no_gap, rest-ended}
use Rattle.md_leaves.proofs.HeadingLemmas.{sequence_begun}
use Rattle.md_leaves.specs.LeafStart.{entered_here}
use Rattle.md_leaves.proofs.LeafStart.{at-none, at-off, at-white, indented-none, indented-white}
use Rattle.md_events.specs.Ahead.{begins_white, from_ending, line_bytes, line_end, white_end, white_rest}
use Rattle.md_events.specs.Events.Nested.{around, enter, exit, last_point, pair}
use Rattle.md_events.specs.Spaces.{IsRest, any_size, calmed, small_indent}
use Rattle.md_events.proofs.AheadLemmas.{none-rest, white-all, white-ending, white-line_end}
use Rattle.md_events.proofs.NestedLemmas.{last_point-append}
use Rattle.md_events.proofs.RestCells.{white-length}
use Rattle.md_events.proofs.SpacesTermination.{rest-calm}
use Rattle.md_events.proofs.WhiteMeaning.{following_white}

-- a heading that was begun here

-- the whole line is a part, with this inside
abbrev pub taken_line : List Event → List Cell → Here → Outcome
taken_line inside cells h =
    let p = line_end cells h.point in
    Accepts
    (record h {
      events = h.events ++ around HeadingAtx h.point p inside;
      point = p;
    })
    (from_ending cells)

-- what is in it after its indent
abbrev after_indent : List Cell → Point → List Event
after_indent cells p = enter HeadingAtxSequence p ∷ hashes_inside cells p

-- the rest of the line is taken, with these events and the end
abbrev ended_line : List Event → List Cell → Here → Outcome
ended_line inside cells h =
    let p = line_end cells h.point in
    Accepts
    (record h {
      events = h.events ++ inside ++ exit HeadingAtx p ∷ [];
      point = p;
    })
    (from_ending cells)

-- at rest, at the last event
record IsAtLast (h : Here) : Type 0 where
  rest : IsRest h.scratch
  last : last_point first_point h.events ≡ h.point

text-taken : (cells : List Cell) (h : Here) → IsAtLast h → begins_white cells ≡ false →
    at_break cells h ≡ ended_line (text_inside cells h.point) cells h
unfolding in_text
text-taken cells h at e = break-text cells h e ∙ rw (at.last, rest-ended h.scratch at.rest) refl

gap-taken : (cells : List Cell) (h : Here) → IsAtLast h → length cells ≤ any_size →
    after_opening cells h ≡ ended_line (gap_inside cells h.point) cells h
gap-taken cells h at le = go (begins_white cells) refl
  where
    q : Point
    q = white_end any_size cells h.point

    following : IsAtLast (following_white any_size cells h)
    following = record {
      rest = rest-calm h.scratch at.rest;
      last = last_point-append first_point h.events (enter SpaceOrTab h.point ∷ exit SpaceOrTab q ∷ []);
    }

    go : (x : Bool) → begins_white cells ≡ x → after_opening cells h ≡ ended_line (gap_inside cells h.point) cells h
    go true s =
        opening-gap cells h s
        ∙ text-taken (white_rest any_size cells) (following_white any_size cells h) following
        (white-all any_size cells le)
        ∙ rw (
          white-ending any_size cells,
          white-line_end any_size cells h.point,
          rest-calm h.scratch at.rest ∙ sym at.rest,
          s,
        )
        (simp append_assoc)
    go false s = opening-no_gap cells h s ∙ text-taken cells h at s ∙ rw s refl

-- after its sequence
sequence-taken : (cells : List Cell) (h : Here) → IsRest h.scratch → length cells ≤ any_size →
    after_opening cells (record h { events = h.events ++ exit HeadingAtxSequence h.point ∷ [] }) ≡
    ended_line (exit HeadingAtxSequence h.point ∷ gap_inside cells h.point) cells h
sequence-taken cells h is le =
    gap-taken cells (record h { events = h.events ++ exit HeadingAtxSequence h.point ∷ [] })
    (record { rest = is; last = last_point-append first_point h.events (exit HeadingAtxSequence h.point ∷ []) }) le
    ∙ (simp append_assoc)

hashes-taken : (cells : List Cell) (h : Here) → IsRest h.scratch → length cells ≤ any_size →
    in_hashes cells h ≡ ended_line (hashes_inside cells h.point) cells h
hashes-taken [] h is le = sequence-taken [] h is le
hashes-taken (c ∷ cs) h is le =
    go (c.byte == 35) refl (hashes-taken cs (record h { point = c.after }) is (omega (arith, le)))
  where
    go : (x : Bool) → (c.byte == 35) ≡ x →
        in_hashes cs (record h { point = c.after }) ≡
        ended_line (hashes_inside cs c.after) cs (record h { point = c.after }) →
        in_hashes (c ∷ cs) h ≡ ended_line (hashes_inside (c ∷ cs) h.point) (c ∷ cs) h
    go true k more =
        let line : (c.byte == 10) ≡ false = rw (eqb-true c.byte 35 k) refl in
        rw (k, line) more
    go false k more = rw k (sequence-taken (c ∷ cs) h is le)

opening-taken : (cells : List Cell) (h : Here) → IsRest h.scratch → length cells ≤ any_size →
    is_heading (line_bytes cells) ≡ true →
    before_opening cells h ≡ ended_line (after_indent cells h.point) cells h
opening-taken cells h is le e =
    before-is cells h e ∙ hashes-taken cells (sequence_begun h) is le ∙ (simp append_assoc)

taken-none : (cells : List Cell) (h : Here) →
    ended_line (after_indent cells h.point) cells (entered_here HeadingAtx h) ≡
    taken_line (after_indent cells h.point) cells h
taken-none cells h = simp append_assoc

taken-white : (room : ℕ) (cells : List Cell) (h : Here) → calmed h.scratch ≡ h.scratch →
    let rest = white_rest room cells in
    let q = white_end room cells h.point in
    ended_line (after_indent rest q) rest (following_white room cells (entered_here HeadingAtx h)) ≡
    taken_line (pair SpaceOrTab h.point q ++ after_indent rest q) cells h
taken-white room cells h calm =
    rw (white-ending room cells, white-line_end room cells h.point, calm) (simp append_assoc)

-- a line that holds a heading is taken, with its indent and what follows that
pub heading-taken : (options : ParseOptions) (cells : List Cell) (h : Here) → IsRest h.scratch →
    length cells ≤ any_size → is_heading_line options cells ≡ true →
    heading_at options cells h ≡ taken_line (heading_inside options cells h.point) cells h
heading-taken options cells h is le e = go (begins_white cells) refl
  where
    parts : (options.constructs.heading_atx ≡ true) ×
        (is_heading (line_bytes (white_rest (small_indent options) cells)) ≡ true)
    parts =
        and_parts options.constructs.heading_atx (is_heading (line_bytes (white_rest (small_indent options) cells))) e

    go : (x : Bool) → begins_white cells ≡ x →
        heading_at options cells h ≡ taken_line (heading_inside options cells h.point) cells h
    go true s =
        at-white HeadingAtx _ before_opening options cells h parts.0 s
        ∙ opening-taken (white_rest (small_indent options) cells)
        (following_white (small_indent options) cells (entered_here HeadingAtx h)) (rest-calm h.scratch is)
        (omega (arith, le, white-length (small_indent options) cells)) parts.1
        ∙ taken-white (small_indent options) cells h (rest-calm h.scratch is ∙ sym is)
        ∙ ap (λ (es : List Event). taken_line es cells h)
        (sym (indented-white after_indent (small_indent options) cells h.point s))
    go false s =
        at-none HeadingAtx _ before_opening options cells h parts.0 s
        ∙ opening-taken cells (entered_here HeadingAtx h) is le
        (sym (ap (λ (r : List Cell). is_heading (line_bytes r)) (none-rest (small_indent options) cells s))
        ∙ parts.1)
        ∙ taken-none cells h
        ∙ ap (λ (es : List Event). taken_line es cells h)
        (sym (indented-none after_indent (small_indent options) cells h.point s))

-- any other line is refused
pub heading-refused : (options : ParseOptions) (cells : List Cell) (h : Here) → calmed h.scratch ≡ h.scratch →
    is_heading_line options cells ≡ false → heading_at options cells h ≡ Refuses h.scratch h.flags
heading-refused options cells h calm e = by options.constructs.heading_atx refl
  where
    go : options.constructs.heading_atx ≡ true →
        is_heading (line_bytes (white_rest (small_indent options) cells)) ≡ false → (x : Bool) →
        begins_white cells ≡ x → heading_at options cells h ≡ Refuses h.scratch h.flags
    go on none true s =
        at-white HeadingAtx _ before_opening options cells h on s
        ∙ before-no (white_rest (small_indent options) cells)
        (following_white (small_indent options) cells (entered_here HeadingAtx h)) none
        ∙ ap (λ (t : Scratch). Refuses t h.flags) calm
    go on none false s =
        at-none HeadingAtx _ before_opening options cells h on s
        ∙ before-no cells (entered_here HeadingAtx h)
        (sym (ap (λ (r : List Cell). is_heading (line_bytes r)) (none-rest (small_indent options) cells s)) ∙ none)

    by : (x : Bool) → options.constructs.heading_atx ≡ x → heading_at options cells h ≡ Refuses h.scratch h.flags
    by true on = go on (rw on at e) (begins_white cells) refl
    by false off = at-off HeadingAtx _ before_opening options cells h off

-- The definition of headings, on a line.
