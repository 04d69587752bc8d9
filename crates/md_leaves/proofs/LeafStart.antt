-- The start of a leaf after a small indent takes one step of its rule, and is in any table that has its states.
use Rattle.std.proofs.Common.{◌≡◌, ℕ, ◌<◌, ◌≤◌, ◌&&◌, ◌==◌, Bool, true, false, cond, List, [], ◌∷◌, map, Some}
use Rattle.std.proofs.Common.{◌++◌, refl, sym, ◌∙◌, ap, ap₂, arith, ◌⊎◌, inl, inr}
use Rattle.md_engine.specs.declared.configuration.ParseOptions.{ParseOptions}
use Rattle.md_engine.specs.declared.event.Event.{Event}
use Rattle.md_engine.specs.declared.event.Name.{Name}
use Rattle.md_engine.specs.declared.event.Name.TheVariants.{SpaceOrTab}
use Rattle.md_engine.specs.declared.event.Point.{Point}
use Rattle.md_engine.specs.declared.state.Name.{Name as StateName}
use Rattle.md_engine.specs.declared.state.State.TheVariants.{Next}
use Rattle.md_engine.specs.declared.tokenizer.Frame.{Frame}
use Rattle.md_engine.specs.Meaning.{Behaviour, Cell, Feed, Here, Outcome, Refuses, Steps, here}
use Rattle.md_engine.specs.Scheme.{After, Fits, Scheme, Position, after_all, position}
use Rattle.md_engine.specs.World.{World}
use Rattle.md_engine.proofs.Falls.{later_at}
use Rattle.md_engine.proofs.Local.{refuses, turns}
use Rattle.md_engine.specs.Sees.{Sees}
use Rattle.md_engine.proofs.StepOf.{begins, moves, passes}
use Rattle.md_leaves.specs.LeafStart.{entered_here, start_at, start_code}
use Rattle.md_leaves.proofs.LeafSteps.{white_frame}
use Rattle.md_meaning.specs.Rest.{is_white}
use Rattle.md_events.specs.Ahead.{HasWhite, begins_white, line_bytes, line_cells, white_end, white_rest}
use Rattle.md_events.specs.Events.Nested.{enter, pair}
use Rattle.md_events.specs.Look.{first_seen, seen_after}
use Rattle.md_events.specs.Spaces.{IsRest, rest_ready, sees_white, small_indent}
use Rattle.md_events.specs.Transition.{entered}
use Rattle.md_events.proofs.AheadLemmas.{none-end, none-rest, small-some}
use Rattle.md_events.proofs.LookLemmas.{rest-begins}
use Rattle.md_events.proofs.SpacesTermination.{Does, WhiteFits, rest-calm, rest-none, white_try}
use Rattle.md_events.proofs.WhiteMeaning.{begins-seen, following_white, white-tried}

-- What is left of it: where it is off,
pub at-off : (name : Name) (on : Bool) (following : List Cell → Here → Outcome) (options : ParseOptions)
    (cells : List Cell) (h : Here) →
    on ≡ false → start_at name on following options cells h ≡ Refuses h.scratch h.flags
unfolding start_at
at-off name on following options cells h off = rw off refl

-- after whitespace,
pub at-white : (name : Name) (on : Bool) (following : List Cell → Here → Outcome) (options : ParseOptions)
    (cells : List Cell) (h : Here) →
    on ≡ true → begins_white cells ≡ true →
    start_at name on following options cells h ≡
    following (white_rest (small_indent options) cells)
    (following_white (small_indent options) cells (entered_here name h))
unfolding start_at
at-white name on following options cells h is s = rw (is, s) refl

-- and where there is none.
pub at-none : (name : Name) (on : Bool) (following : List Cell → Here → Outcome) (options : ParseOptions)
    (cells : List Cell) (h : Here) →
    on ≡ true → begins_white cells ≡ false →
    start_at name on following options cells h ≡ following cells (entered_here name h)
unfolding start_at
at-none name on following options cells h is s = rw (is, s) refl

-- What is in one that takes its line: with no indent,
pub indented-none : (inside : List Cell → Point → List Event) (room : ℕ) (cells : List Cell) (p : Point) →
    begins_white cells ≡ false →
    cond (begins_white cells) (pair SpaceOrTab p (white_end room cells p)) []
    ++ inside (white_rest room cells) (white_end room cells p) ≡
    inside cells p
indented-none inside room cells p e =
    ap
    (λ (x : Bool).
    cond x (pair SpaceOrTab p (white_end room cells p)) []
    ++ inside (white_rest room cells) (white_end room cells p)) e
    ∙ ap₂ inside (none-rest room cells e) (none-end room cells p e)

-- and with one.
pub indented-white : (inside : List Cell → Point → List Event) (room : ℕ) (cells : List Cell) (p : Point) →
    begins_white cells ≡ true →
    cond (begins_white cells) (pair SpaceOrTab p (white_end room cells p)) []
    ++ inside (white_rest room cells) (white_end room cells p) ≡
    pair SpaceOrTab p (white_end room cells p) ++ inside (white_rest room cells) (white_end room cells p)
indented-white inside room cells p e =
    ap
    (λ (x : Bool).
    cond x (pair SpaceOrTab p (white_end room cells p)) []
    ++ inside (white_rest room cells) (white_end room cells p)) e

-- Where another byte than it may begin with is first after whitespace, no line is taken: such a rule holds of no line
-- that begins with such a byte, or with whitespace.
pub rule-refused : (may : ℕ → Bool) (on : Bool) (rule : List ℕ → Bool) (room : ℕ) (cells : List Cell) (b : ℕ) →
    rule [] ≡ false → ((c : ℕ) (bytes : List ℕ) → may c ≡ false → rule (c ∷ bytes) ≡ false) →
    ((c : ℕ) → is_white c ≡ true → may c ≡ false) → seen_after cells ≡ Some b → may b ≡ false →
    on && rule (line_bytes (white_rest room cells)) ≡ false
rule-refused may on rule room cells b none other white seen e = by on
  where
    first : (c : ℕ) × (first_seen (white_rest room cells) ≡ Some c) × ((is_white c ≡ true) ⊎ (c ≡ b))
    first = rest-begins room cells b seen

    refused : (c : ℕ) → (is_white c ≡ true) ⊎ (c ≡ b) → may c ≡ false
    refused c (inl is) = white c is
    refused c (inr same) = rw same e

    ends : (cells : List Cell) (c : ℕ) → first_seen cells ≡ Some c → may c ≡ false → rule (line_bytes cells) ≡ false
    ends [] c is refused_byte = none
    ends (d ∷ ds) c is refused_byte = let same : d.byte ≡ c = cc in go same (d.byte == 10)
      where
        go : d.byte ≡ c → (x : Bool) → rule (map (λ (k : Cell). k.byte) (cond x [] (d ∷ line_cells ds))) ≡ false
        go same true = none
        go same false = other d.byte (line_bytes ds) (rw same refused_byte)

    by : (x : Bool) → x && rule (line_bytes (white_rest room cells)) ≡ false
    by true = ends (white_rest room cells) first.0 first.1 (refused first.0 first.2)
    by false = refl

-- The rule has it at its first state, and what is left of it after the indent at the next.
pub record HasStart (B : Behaviour) (options : ParseOptions) (name : Name) (on : Bool)
    (following : List Cell → Here → Outcome) (start next : StateName) : Type 0 where
  pub white : HasWhite B
  pub start_is : (cells : List Cell) (h : Here) → B start cells h ≡ start_at name on following options cells h
  pub next_is : (cells : List Cell) (h : Here) → B next cells h ≡ following cells h

-- Its first state takes one step of it, if it has it there.
pub start-steps_here : (B : Behaviour) (feed : Feed) (name : Name) (on : Bool) (following : List Cell → Here → Outcome)
    (start next : StateName) (w : World) (x y : Bool) →
    HasWhite B → B start (feed w.point) (here w) ≡ start_at name on following w.setting.options
    (feed w.point) (here w) →
    ((cells : List Cell) (h : Here) → B next cells h ≡ following cells h) →
    Sees feed w → on ≡ x → sees_white w.current ≡ y →
    Steps B feed (Next start) w (start_code name next w x y).to (start_code name next w x y).world
start-steps_here B feed name on following start next w false y has_white start_is next_is s e f =
    passes B feed _ _ w w refl refl (start_is ∙ at-off name on following _ (feed w.point) (here w) e)
start-steps_here B feed name on following start next w true true has_white start_is next_is s e f =
    let h : Here = entered_here name (here w) in
    let frame : Frame = white_frame (Next next) w h.events in
    let white : begins_white (feed w.point) ≡ true = begins-seen feed w s ∙ f in
    begins B feed _ _ w (start_code name next w true true).world (enter name w.point ∷ []) frame refl refl
    (start_is ∙ at-white name on following _ (feed w.point) (here w) e white ∙ sym (next_is _ _)
    ∙ white-tried B feed frame h.events (feed w.point) h 0 (small_indent w.setting.options) has_white white
    (small-some w.setting.options) (omega arith) refl)
start-steps_here B feed name on following start next w true false has_white start_is next_is s e f =
    moves B feed _ _ w (start_code name next w true false).world (enter name w.point ∷ []) refl refl
    (start_is ∙ at-none name on following _ (feed w.point) (here w) e (begins-seen feed w s ∙ f) ∙ sym (next_is _ _))

-- The same of one that has it everywhere.
pub start-steps : (B : Behaviour) (feed : Feed) (name : Name) (on : Bool) (following : List Cell → Here → Outcome)
    (start next : StateName) (w : World) (x y : Bool) →
    HasStart B w.setting.options name on following start next → Sees feed w → on ≡ x → sees_white w.current ≡ y →
    Steps B feed (Next start) w (start_code name next w x y).to (start_code name next w x y).world
start-steps B feed name on following start next w x y has s e f =
    start-steps_here B feed name on following start next w x y has.white (has.start_is _ _) has.next_is s e f

-- A table has both states: the next one asks no more than the first, and ranks below it.
pub record FitsStart (T own : Scheme) (start next : StateName) : Type 1 where
  pub white : WhiteFits T
  pub start_fits : Fits T own start
  pub next_fits : Fits T own next
  pub ready : (x : Position) (K : After) → rest_ready x K → own.ready next x K
  pub level : own.level next ≤ own.level start
  pub some : 0 < own.level start
  pub falls : (x : Position) → (own.rank next x).number < (own.tries next).number
  pub tries : (x : Position) → (own.tries next).number < (own.rank start x).number

pub good-start : (T own : Scheme) (name : Name) (start next : StateName) (w : World) (x y : Bool) →
    FitsStart T own start next →
    rest_ready (position w) (after_all T w.frames) → Does T start w (start_code name next w x y)
good-start T own name start next w false y has r = (refuses T _ w _ _ w.events w.scratch r.1 r.0, refl)
good-start T own name start next w true true has r =
    white_try T own start next w (entered w name).events w.scratch 0 (small_indent w.setting.options) IsRest IsRest
    has.white has.start_fits has.next_fits (rest-none w.scratch r.0) (λ some. rest-calm w.scratch r.0) r.1
    (λ q t up way. has.ready _ _ (rest-calm w.scratch r.0, later_at _ _ (position w) _ q t _ up way r.1))
    has.level has.some
    (λ t up. has.falls _) (has.tries _)
good-start T own name start next w true false has r = (
  turns T own start next w (entered w name).events w.scratch has.start_fits has.next_fits (has.ready _ _ r) has.level
      (let a = has.falls (position w) in let b = has.tries (position w) in omega (arith, a, b)),
  refl,
)
