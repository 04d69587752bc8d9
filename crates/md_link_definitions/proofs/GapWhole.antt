-- Whitespace with at most one line ending is where one of these comes first, and nowhere else.
use Rattle.std.proofs.Common.{◌≡◌, Bool, true, false, ◌||◌, nat_eq, List, [], ◌∷◌, ◌++◌, refl, sym, ◌∙◌, ap, ap₂}
use Rattle.std.proofs.Common.{append_assoc, append-nil}
use Rattle.std.proofs.lemmas.Bool.{or_parts}
use Rattle.md_engine.specs.declared.event.Event.{Event}
use Rattle.md_engine.specs.declared.event.Point.{Point}
use Rattle.md_engine.specs.declared.tokenizer.Scratch.{Scratch}
use Rattle.md_engine.specs.Meaning.{Accepts, Cell, Here, Refuses}
use Rattle.md_link_definitions.specs.Gap.{with_seen, without_seen}
use Rattle.md_link_definitions.specs.GapRule.{at_eol, at_line, begins_ending, begins_gap, ending_end, ending_part}
use Rattle.md_link_definitions.specs.GapRule.{ending_rest, after_first, gap_at, gap_end, gap_part, gap_rest, past_white}
use Rattle.md_link_definitions.specs.GapRule.{white_part}
use Rattle.md_link_definitions.proofs.GapMeaning.{at-none, at-some}
use Rattle.md_events.specs.Ahead.{begins_white, white_end, white_rest}
use Rattle.md_events.specs.Spaces.{IsRest, any_size}
use Rattle.md_events.proofs.AheadLemmas.{none-end, none-rest}

-- After the first whitespace.

-- after the ending that comes first, if one does
abbrev following_ending : List Cell → Here → Here
following_ending cells h = record h {
  events = h.events ++ ending_part cells h.point;
  point = ending_end cells h.point;
  scratch = without_seen h.scratch;
}

-- it holds where an ending comes first, or something was taken,
eol-took : (cells : List Cell) (h : Here) → h.scratch.seen || begins_ending cells ≡ true →
    at_eol cells h ≡ Accepts (following_ending cells h) (ending_rest cells)
unfolding at_eol at_line past_white
eol-took [] h e = go h.scratch.seen refl e
  where
    go : (x : Bool) → h.scratch.seen ≡ x → x || false ≡ true →
        at_eol [] h ≡ Accepts (following_ending [] h) (ending_rest [])
    go true k e = rw (k, append-nil) refl
    go false k e = cc
eol-took (c ∷ cs) h e = go (nat_eq c.byte 10) h.scratch.seen refl refl e
  where
    go : (x y : Bool) → nat_eq c.byte 10 ≡ x → h.scratch.seen ≡ y → y || x ≡ true →
        at_eol (c ∷ cs) h ≡ Accepts (following_ending (c ∷ cs) h) (ending_rest (c ∷ cs))
    go true y i k e = rw i (simp append_assoc)
    go false true i k e = rw (i, k, append-nil) refl
    go false false i k e = cc

-- and nowhere else
eol-refused : (cells : List Cell) (h : Here) → h.scratch.seen ≡ false → begins_ending cells ≡ false →
    at_eol cells h ≡ Refuses (without_seen h.scratch) h.flags
unfolding at_eol
eol-refused [] h k e = rw k refl
eol-refused (c ∷ cs) h k e = rw (e, k) refl

-- After whitespace, of which some was taken.
white-took : (cells : List Cell) (h : Here) →
    after_first (white_rest any_size cells) (past_white cells h) ≡
    Accepts
    (record h {
      events = h.events ++ gap_part cells h.point;
      point = gap_end cells h.point;
      scratch = without_seen h.scratch;
    })
    (gap_rest cells)
unfolding past_white
white-took cells h =
    let left = white_rest any_size cells in
    let p = white_end any_size cells h.point in
    let some : Here = record (past_white cells h) { scratch = with_seen h.scratch } in
    eol-took left some refl
    ∙ ap
    (λ (es : List Event).
    let r : Here = record h { events = es; point = ending_end left p; scratch = without_seen h.scratch } in
    Accepts r (ending_rest left))
    (append_assoc h.events (white_part cells h.point) (ending_part left p))

-- Where there is none.
white-none : (cells : List Cell) (p : Point) → begins_white cells ≡ false →
    (gap_part cells p ≡ ending_part cells p) × (gap_end cells p ≡ ending_end cells p) ×
    (gap_rest cells ≡ ending_rest cells)
white-none cells p e =
    let rest = none-rest any_size cells e in
    let end = none-end any_size cells p e in (
      rw e (ap₂ ending_part rest end),
      ap₂ ending_end rest end,
      ap ending_rest rest,
    )

-- at rest nothing was taken
rest-seen : (s : Scratch) → IsRest s → (s.seen ≡ false) × (without_seen s ≡ s)
rest-seen s is = (ap (λ (t : Scratch). t.seen) is, ap without_seen is ∙ sym is)

-- The whole rule: what it takes,
pub gap-took : (cells : List Cell) (h : Here) → IsRest h.scratch → begins_gap cells ≡ true →
    gap_at cells h ≡
    Accepts (record h { events = h.events ++ gap_part cells h.point; point = gap_end cells h.point }) (gap_rest cells)
gap-took cells h is e = go (begins_white cells) refl e
  where
    go : (x : Bool) → begins_white cells ≡ x → x || begins_ending cells ≡ true →
        gap_at cells h ≡
        Accepts
        (record h { events = h.events ++ gap_part cells h.point; point = gap_end cells h.point })
        (gap_rest cells)
    go true k e =
        at-some cells h k ∙ white-took cells h
        ∙ ap
        (λ (t : Scratch).
        let r : Here = record h {
          events = h.events ++ gap_part cells h.point;
          point = gap_end cells h.point;
          scratch = t;
        } in Accepts r (gap_rest cells))
        (rest-seen h.scratch is).1
    go false k e =
        let same = white-none cells h.point k in
        at-none cells h k ∙ eol-took cells h (rw (rest-seen h.scratch is).0 e)
        ∙ ap₂
        (λ (g : Here) (rest : List Cell). Accepts g rest)
        (ap₂
        (λ (es : List Event) (t : Scratch).
        let r : Here = record h { events = h.events ++ es; point = ending_end cells h.point; scratch = t } in r)
        (sym same.0) (rest-seen h.scratch is).1
        ∙ ap
        (λ (p : Point).
        let r : Here = record h { events = h.events ++ gap_part cells h.point; point = p } in r)
        (sym same.1))
        (sym same.2)

-- and that it takes nothing else
pub gap-refused : (cells : List Cell) (h : Here) → IsRest h.scratch → begins_gap cells ≡ false →
    gap_at cells h ≡ Refuses h.scratch h.flags
gap-refused cells h is e =
    let parts = or_parts (begins_white cells) (begins_ending cells) e in
    at-none cells h parts.0 ∙ eol-refused cells h (rest-seen h.scratch is).0 parts.1
    ∙ ap (λ (t : Scratch). Refuses t h.flags) (rest-seen h.scratch is).1
