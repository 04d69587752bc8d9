-- A row is and ends in any table that has it.
use Rattle.std.proofs.Common.{◌≡◌, ℕ, ◌<◌, Bool, true, false, cond, Option, Some, None, List, refl, arith, ap, sym, ◌∙◌}
use Rattle.std.proofs.Common.{nat_eq}
use Rattle.std.proofs.lemmas.Bool.{eqb-true}
use Rattle.md_engine.specs.declared.state.State.TheVariants.{Next}
use Rattle.md_engine.specs.declared.event.Event.{Event}
use Rattle.md_engine.specs.declared.event.Name.TheVariants as parts
use Rattle.md_engine.specs.Scheme.{Ends, Fits, Grown, Scheme, Position, after_all, ranked, seen, position, spot_at}
use Rattle.md_engine.specs.World.{Setting, World, looks}
use Rattle.md_engine.specs.declared.tokenizer.Scratch.{Scratch}
use Rattle.md_engine.proofs.Falls.{later, later_at, seen_grows}
use Rattle.md_engine.proofs.Local.{accepts, consumes, refuses, turns}
use Rattle.md_engine.proofs.Points.{stays, takes}
use Rattle.md_meaning.specs.Rest.{is_white}
use Rattle.md_events.specs.Spaces.{IsRest, any_size, calmed, rest_ready, sees_white}
use Rattle.md_events.specs.Transition.{entered_link, exited, taken}
use Rattle.md_events.proofs.SpacesTermination.{Does, WhiteFits, rest-calm, rest-none, seen-in, white_try}
use Rattle.md_tables.specs.Row.{Divides, Ends as AtEnd, Escapes, Other, Piece, White, at_break_code, begun, after_part}
use Rattle.md_tables.specs.Row.{data_code, escape_code, is_escaped, is_text, name_at, piece, row_scheme, row_transition}
use Rattle.md_tables.specs.Row.{shut, text_link}
use Rattle.md_tables.specs.declared.row.Place.{Place}
use Rattle.md_tables.specs.declared.row.Place.TheVariants as place
use Rattle.md_tables.specs.declared.row.Row.{Row}
use Rattle.md_tables.specs.declared.row.Row.TheVariants.{Head, Body}

pub record RowFits (T : Scheme) (r : Row) : Type 1 where
  pub white : WhiteFits T
  pub each : (p : Place) → Fits T row_scheme (name_at r p)

-- how far each state is from the next byte
break-rank : (r : Row) (x : Position) →
    (row_scheme.rank (name_at r place.Break) x).number ≡
    (cond (is_text (piece (seen x))) (ranked 2 refl) (ranked 0 refl)).number
break-rank Head x = refl
break-rank Body x = refl

data-rank : (r : Row) (x : Position) →
    (row_scheme.rank (name_at r place.Data) x).number ≡
    (cond (is_text (piece (seen x))) (ranked 1 refl) (ranked 2 refl)).number
data-rank Head x = refl
data-rank Body x = refl

pub low : (x : Bool) → (cond x (ranked 2 refl) (ranked 0 refl)).number < 3
low true = omega arith
low false = omega arith

below : (x : Bool) → (cond x (ranked 1 refl) (ranked 2 refl)).number < 3
below true = omega arith
below false = omega arith

-- whitespace is no text, and what is here still does when more may be read
white-no_text : (o : Option ℕ) → sees_white o ≡ true → is_text (piece o) ≡ false
white-no_text None e = cc
white-no_text (Some b) e = go (nat_eq b 10) refl
  where
    go : (x : Bool) → nat_eq b 10 ≡ x → is_text (piece (Some b)) ≡ false
    go true k = rw k refl
    go false k = rw (k, e) refl

still-white : (w : World) (t : Setting) (s : Scratch) → Grown w.setting t → sees_white (seen (position w)) ≡ true →
    is_text (piece (seen (spot_at t w.point s))) ≡ false
still-white w t s up e = go (seen (position w)) refl e
  where
    go : (o : Option ℕ) → seen (position w) ≡ o → sees_white o ≡ true →
        is_text (piece (seen (spot_at t w.point s))) ≡ false
    go None is e = cc
    go (Some b) is e =
        ap (λ (o : Option ℕ). is_text (piece o)) (seen_grows (position w) t s b up is) ∙ white-no_text (Some b) e

-- after a part of the row, from a state whose rank is above that of what follows
good-following : (T : Scheme) (r : Row) (p : Place) (w : World) (events : List Event) (x : Bool) → RowFits T r →
    IsRest w.scratch → Ends IsRest IsRest (position w) (after_all T w.frames) →
    sees_white (seen (position w)) ≡ x → 1 < (row_scheme.rank (name_at r p) (position w)).number →
    (cond (is_text (piece (seen (position w)))) (ranked 2 refl) (ranked 0 refl)).number <
    (row_scheme.rank (name_at r p) (position w)).number →
    Does T (name_at r p) w (after_part r (record w { events = events }) x)
good-following T r p w events true has rest ends e lt less =
    white_try T row_scheme (name_at r p) (name_at r place.Break) w events w.scratch 1 any_size IsRest IsRest has.white
    (has.each p) (has.each place.Break) (rest-none w.scratch rest) (λ some. rest-calm w.scratch rest) ends
    (λ q t up way. (rest-calm w.scratch rest, later_at _ _ (position w) _ q t _ up way ends))
    (omega arith) (omega arith)
    (λ t up. rw (break-rank r (spot_at t w.point (calmed w.scratch)), still-white w t (calmed w.scratch) up e)
    (omega arith))
    lt
good-following T r p w events false has rest ends e lt less = (
  turns T row_scheme (name_at r p) (name_at r place.Break) w events w.scratch (has.each p) (has.each place.Break) (
    rest,
    later IsRest IsRest (position w) (after_all T w.frames) w.point w.scratch (stays w.setting.limit w.point) ends,
  )
      (omega arith) (rw (break-rank r (position w)) less),
  refl,
)

escape-rank : (r : Row) (x : Position) → (row_scheme.rank (name_at r place.Escape) x).number ≡ 3
escape-rank Head x = refl
escape-rank Body x = refl

before-rank : (r : Row) (x : Position) → (row_scheme.rank (name_at r place.CellBefore) x).number ≡ 3
before-rank Head x = refl
before-rank Body x = refl

start_ends : (T : Scheme) (r : Row) (w : World) (x : Bool) → RowFits T r →
    rest_ready (position w) (after_all T w.frames) →
    sees_white (seen (position w)) ≡ x → Does T (name_at r place.Start) w (after_part r (begun r w) x)
start_ends T Head w x has r e =
    good-following T Head place.Start w (begun Head w).events x has r.0 r.1 e (omega arith)
    (low (is_text (piece (seen (position w)))))
start_ends T Body w x has r e =
    good-following T Body place.Start w (begun Body w).events x has r.0 r.1 e (omega arith)
    (low (is_text (piece (seen (position w)))))

-- the end of the row, and the begin of a word
ends_ends : (T : Scheme) (r : Row) (w : World) → rest_ready (position w) (after_all T w.frames) →
    Does T (name_at r place.Break) w (at_break_code r w AtEnd)
ends_ends T Head w r = (accepts T _ w _ _ (shut Head w).events w.scratch r.1 r.0, refl)
ends_ends T Body w r = (accepts T _ w _ _ (shut Body w).events w.scratch r.1 r.0, refl)

word_ends : (T : Scheme) (r : Row) (w : World) → RowFits T r → rest_ready (position w) (after_all T w.frames) →
    is_text (piece (seen (position w))) ≡ true →
    Does T (name_at r place.Break) w
    (record { to = (at_break_code r w Other).to; world = entered_link w parts.Data text_link })
word_ends T r w has rest e = (
  turns T row_scheme (name_at r place.Break) (name_at r place.Data) w
      (entered_link w parts.Data text_link).events w.scratch
      (has.each place.Break) (has.each place.Data) rest (omega arith)
      (rw (break-rank r (position w), data-rank r (position w), e) (omega arith)),
  refl,
)

-- a pipe is where the text may be read
pipe_ends : (T : Scheme) (r : Row) (w : World) → RowFits T r → rest_ready (position w) (after_all T w.frames) →
    w.point.index < w.setting.limit → Does T (name_at r place.Break) w (at_break_code r w Divides)
pipe_ends T r w has rest inside = (
  consumes T row_scheme _ _ w (at_break_code r w Divides).world.events w.scratch (has.each place.Break)
      (has.each place.CellBefore) inside (rest.0, later _ _ (position w) _ _ _ (takes w.setting w.point inside) rest.1)
      (omega arith),
  refl,
)

abbrev is_there : Piece → Bool
is_there AtEnd = false
is_there White = false
is_there Divides = true
is_there Escapes = true
is_there Other = true

at_break_ends : (T : Scheme) (r : Row) (w : World) (x : Piece) → RowFits T r →
    rest_ready (position w) (after_all T w.frames) → piece (seen (position w)) ≡ x →
    Does T (name_at r place.Break) w (at_break_code r w x)
at_break_ends T r w AtEnd has rest e = ends_ends T r w rest
at_break_ends T r w White has rest e = (refuses T _ w _ _ w.events w.scratch rest.1 rest.0, refl)
at_break_ends T r w Divides has rest e =
    pipe_ends T r w has rest (seen-in (position w) (λ (o : Option ℕ). is_there (piece o)) refl (ap is_there e))
at_break_ends T r w Escapes has rest e = word_ends T r w has rest (rw e refl)
at_break_ends T r w Other has rest e = word_ends T r w has rest (rw e refl)

-- a byte of a word is taken
taken_ends : (T : Scheme) (r : Row) (p q : Place) (w : World) → RowFits T r →
    rest_ready (position w) (after_all T w.frames) → w.point.index < w.setting.limit →
    Does T (name_at r p) w (record { to = Next (name_at r q); world = taken w })
taken_ends T r p q w has rest inside = (
  consumes T row_scheme _ _ w w.events w.scratch (has.each p) (has.each q) inside
      (rest.0, later _ _ (position w) _ _ _ (takes w.setting w.point inside) rest.1) (omega arith),
  refl,
)

abbrev sees_text : Option ℕ → Bool
sees_text o = is_text (piece o)

-- after a word
word_end_ends : (T : Scheme) (r : Row) (w : World) (x : Bool) → RowFits T r →
    rest_ready (position w) (after_all T w.frames) → is_text (piece (seen (position w))) ≡ false →
    sees_white (seen (position w)) ≡ x →
    Does T (name_at r place.Data) w (after_part r (exited w parts.Data) x)
word_end_ends T r w x has rest none e =
    good-following T r place.Data w (exited w parts.Data).events x has rest.0 rest.1 e
    (rw (data-rank r (position w), none) (omega arith)) (rw (data-rank r (position w), none) (omega arith))

-- whether a piece is whitespace
abbrev pub is_space : Piece → Bool
is_space White = true
is_space _ = false

-- whitespace is seen just if the piece is
pub piece-white : (o : Option ℕ) → sees_white o ≡ is_space (piece o)
piece-white None = refl
piece-white (Some b) = go (nat_eq b 10) (is_white b) (nat_eq b 124) (nat_eq b 92) refl refl refl refl
  where
    go : (x y z v : Bool) → nat_eq b 10 ≡ x → is_white b ≡ y → nat_eq b 124 ≡ z → nat_eq b 92 ≡ v →
        is_white b ≡ is_space (piece (Some b))
    go true y z v h k l m = rw (eqb-true b 10 h) refl
    go false true z v h k l m = rw (h, k) refl
    go false false true v h k l m = rw (h, k, l) refl
    go false false false true h k l m = rw (h, k, l, m) refl
    go false false false false h k l m = rw (h, k, l, m) refl

data_ends : (T : Scheme) (r : Row) (w : World) (x : Piece) → RowFits T r →
    rest_ready (position w) (after_all T w.frames) →
    piece (seen (position w)) ≡ x → Does T (name_at r place.Data) w (data_code r w x)
data_ends T r w AtEnd has rest e =
    word_end_ends T r w false has rest (rw e refl) (piece-white (seen (position w)) ∙ ap is_space e)
data_ends T r w White has rest e =
    word_end_ends T r w true has rest (rw e refl) (piece-white (seen (position w)) ∙ ap is_space e)
data_ends T r w Divides has rest e =
    word_end_ends T r w false has rest (rw e refl) (piece-white (seen (position w)) ∙ ap is_space e)
data_ends T r w Escapes has rest e =
    taken_ends T r place.Data place.Escape w has rest (seen-in (position w) sees_text refl (ap is_text e))
data_ends T r w Other has rest e =
    taken_ends T r place.Data place.Data w has rest (seen-in (position w) sees_text refl (ap is_text e))

escape_ends : (T : Scheme) (r : Row) (w : World) (x : Bool) → RowFits T r →
    rest_ready (position w) (after_all T w.frames) →
    is_escaped (seen (position w)) ≡ x → Does T (name_at r place.Escape) w (escape_code r w x)
escape_ends T r w true has rest e =
    taken_ends T r place.Escape place.Data w has rest (seen-in (position w) is_escaped refl e)
escape_ends T r w false has rest e = (
  turns T row_scheme (name_at r place.Escape) (name_at r place.Data) w w.events w.scratch (has.each place.Escape)
      (has.each place.Data) rest (omega arith)
      (rw (escape-rank r (position w), data-rank r (position w)) (below (is_text (piece (seen (position w)))))),
  refl,
)

cell_before_ends : (T : Scheme) (r : Row) (w : World) (x : Bool) → RowFits T r →
    rest_ready (position w) (after_all T w.frames) → sees_white (seen (position w)) ≡ x →
    Does T (name_at r place.CellBefore) w (after_part r w x)
cell_before_ends T r w x has rest e =
    good-following T r place.CellBefore w w.events x has rest.0 rest.1 e
    (rw (before-rank r (position w)) (omega arith))
    (rw (before-rank r (position w)) (low (is_text (piece (seen (position w))))))

-- each state of a row
pub row_terminates : (T : Scheme) (r : Row) (p : Place) (w : World) → RowFits T r → w.current ≡ looks w →
    rest_ready (position w) (after_all T w.frames) → Does T (name_at r p) w (row_transition r p w)
row_terminates T r place.Start w has c rest = start_ends T r w _ has rest (ap sees_white (sym c))
row_terminates T r place.Break w has c rest = at_break_ends T r w _ has rest (ap piece (sym c))
row_terminates T r place.Data w has c rest = data_ends T r w _ has rest (ap piece (sym c))
row_terminates T r place.Escape w has c rest = escape_ends T r w _ has rest (ap is_escaped (sym c))
row_terminates T r place.CellBefore w has c rest = cell_before_ends T r w _ has rest (ap sees_white (sym c))
