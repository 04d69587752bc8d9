-- The rule of an ATX heading, as what is left of it at each state (CommonMark 4.2).
use Rattle.std.specs.Prelude.{◌≡◌, ℕ, ◌+◌, Bool, ◌&&◌, ◌==◌, nat_le, if◌then◌else◌, List, [], ◌∷◌, ◌++◌, drop}
use Rattle.md_engine.specs.Scheme.{position}
use Rattle.md_engine.specs.World.{World}
use Rattle.md_engine.specs.Sees.{IsStep}
use Rattle.md_engine.specs.declared.state.State.{State}
use Rattle.md_engine.specs.declared.configuration.ParseOptions.{ParseOptions}
use Rattle.md_engine.specs.declared.event.Event.{Event}
use Rattle.md_engine.specs.declared.event.Name.TheVariants.{HeadingAtx, HeadingAtxSequence, SpaceOrTab}
use Rattle.md_engine.specs.declared.event.Point.{Point}
use Rattle.md_engine.specs.declared.state.Name.TheVariants as n
use Rattle.md_engine.specs.declared.state.heading_atx.State.{State as HeadingState}
use Rattle.md_engine.specs.declared.state.heading_atx.State.TheVariants as its
use Rattle.md_engine.specs.declared.tokenizer.TheConstants.Scratch.{REST}
use Rattle.md_engine.specs.Meaning.{Accepts, Behaviour, Cell, Here, Outcome, Refuses}
use Rattle.md_leaves.specs.LeafStart.{start_at}
use Rattle.md_leaves.specs.Heading.{HeadingInvariant, text_begun, text_following, text_ended, text_from, without_size}
use Rattle.md_leaves.specs.Heading.{heading_transition}
use Rattle.md_events.specs.Ahead.{HasWhite, begins_white, from_ending, line_bytes, line_end, white_end, white_rest}
use Rattle.md_events.specs.Events.Nested.{enter, exit, pair}
use Rattle.md_meaning.specs.Rest.{is_parted, run_len}
use Rattle.md_events.specs.Spaces.{any_size, calmed, small_indent}
use Rattle.md_events.specs.WholeLine.{line_taken, whole_line}
use Rattle.md_events.specs.States.{IsState}
use Rattle.md_engine.specs.declared.tokenizer.Tokenizer.{Tokenizer}
use Rattle.md_engine.specs.Full.{IsFull}

-- the rest of a line from its text on, after these bytes of that
unfoldable pub in_text : List ℕ → List Cell → Here → Outcome
in_text taken cells h =
    let p = line_end cells h.point in
    Accepts
    (record h {
      events = h.events ++ text_following h.events h.scratch (taken ++ whole_line h.point cells)
          ++ exit HeadingAtx p ∷ [];
      point = p;
      scratch = text_ended h.scratch;
    })
    (from_ending cells)

-- after the opening sequence and the whitespace that follows it
unfoldable pub at_break : List Cell → Here → Outcome
at_break cells h =
    if begins_white cells then Refuses h.scratch h.flags
    else in_text [] cells (record h { scratch = text_begun h.point h.scratch })

-- after the opening sequence
unfoldable pub after_opening : List Cell → Here → Outcome
after_opening cells h =
    let p = white_end any_size cells h.point in
    if begins_white cells
    then at_break (white_rest any_size cells) (record h {
      events = h.events ++ enter SpaceOrTab h.point ∷ exit SpaceOrTab p ∷ [];
      point = p;
      scratch = calmed h.scratch;
    })
    else at_break cells h

-- in the opening sequence, which ends with the last `#`
abbrev pub in_hashes : List Cell → Here → Outcome
in_hashes [] h = after_opening [] (record h { events = h.events ++ exit HeadingAtxSequence h.point ∷ [] })
in_hashes (c ∷ cs) h =
    if c.byte == 35 then in_hashes cs (record h { point = c.after })
    else after_opening (c ∷ cs) (record h { events = h.events ++ exit HeadingAtxSequence h.point ∷ [] })

-- whether a line continues with `#`, at most six with those before it, and then whitespace or the line's end
abbrev pub is_opening : ℕ → List ℕ → Bool
is_opening size bytes = let depth = run_len 35 bytes in nat_le (size + depth) 6 && is_parted (drop depth bytes)

-- in the opening sequence
unfoldable pub in_opening : List Cell → Here → Outcome
in_opening cells h =
    if is_opening h.scratch.size (line_bytes cells)
    then in_hashes cells (record h { scratch = without_size h.scratch })
    else Refuses (without_size h.scratch) h.flags

-- 1 to 6 `#`, and then whitespace or the line's end
abbrev pub is_heading : List ℕ → Bool
is_heading bytes = nat_le 1 (run_len 35 bytes) && is_opening 0 bytes

-- after the indent
unfoldable pub before_opening : List Cell → Here → Outcome
before_opening cells h =
    if is_heading (line_bytes cells)
    then in_hashes cells (record h { events = h.events ++ enter HeadingAtxSequence h.point ∷ [] })
    else Refuses h.scratch h.flags

-- the whole rule, if headings are on: a small indent, and a heading after it
abbrev pub heading_at : ParseOptions → List Cell → Here → Outcome
heading_at options cells h = start_at HeadingAtx options.constructs.heading_atx before_opening options cells h

-- what is left at each state, by the text of which the line is a part
abbrev pub heading_behaves : List ℕ → ParseOptions → HeadingState → List Cell → Here → Outcome
heading_behaves bytes options its.Start cells h = heading_at options cells h
heading_behaves bytes options its.Before cells h = before_opening cells h
heading_behaves bytes options its.SequenceOpen cells h = in_opening cells h
heading_behaves bytes options its.AtBreak cells h = at_break cells h
heading_behaves bytes options _ cells h = in_text (line_taken bytes h.scratch h.point) cells h

pub record HasHeading (B : Behaviour) (options : ParseOptions) (bytes : List ℕ) : Type 0 where
  pub white : HasWhite B
  pub each : (state : HeadingState) (cells : List Cell) (h : Here) →
      B (n.HeadingAtx state) cells h ≡ heading_behaves bytes options state cells h

-- what a state of a heading means: where what it needs holds, its call is one step of the rule
unfoldable pub HeadingMeans : HeadingState → World → State → World → Type 0
HeadingMeans state old to new =
    HeadingInvariant (n.HeadingAtx state) (position old) →
    IsStep (λ B. HasHeading B old.setting.options old.setting.bytes) (n.HeadingAtx state) to old new

-- A line as a whole.

-- whether a heading is on a line of these cells, with as much whitespace before it as there may be
abbrev pub is_heading_line : ParseOptions → List Cell → Bool
is_heading_line options cells =
    options.constructs.heading_atx && is_heading (line_bytes (white_rest (small_indent options) cells))

-- what is in it: its indent, its opening sequence and the whitespace after that, its text, and what follows
abbrev pub text_inside : List Cell → Point → List Event
text_inside cells p = text_from p (text_begun p REST) (whole_line p cells)

abbrev pub gap_inside : List Cell → Point → List Event
gap_inside cells p =
    let q = white_end any_size cells p in
    if begins_white cells then pair SpaceOrTab p q ++ text_inside (white_rest any_size cells) q
    else text_inside cells p

abbrev pub hashes_inside : List Cell → Point → List Event
hashes_inside [] p = exit HeadingAtxSequence p ∷ gap_inside [] p
hashes_inside (c ∷ cs) p =
    if c.byte == 35 then hashes_inside cs c.after else exit HeadingAtxSequence p ∷ gap_inside (c ∷ cs) p

abbrev pub heading_inside : ParseOptions → List Cell → Point → List Event
heading_inside options cells p =
    let room = small_indent options in
    let rest = white_rest room cells in
    let q = white_end room cells p in
    (if begins_white cells then pair SpaceOrTab p q else []) ++ enter HeadingAtxSequence q ∷ hashes_inside rest q

-- what a state of an ATX heading promises
abbrev pub IsHeadingState : HeadingState → World → State → Tokenizer → Type 0
IsHeadingState state old answer new =
    IsState (heading_transition state old) (HeadingMeans state old) (IsFull new) answer new
