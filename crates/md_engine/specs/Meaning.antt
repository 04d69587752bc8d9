-- What the states of a construct mean: what is left of its rule, as a function of what is still to come.
use Rattle.std.specs.Prelude.{◌≡◌, ◌⊎◌, ◌^◌, ◌<◌, ◌≤◌, ℕ, Bool, true, List, [], ◌∷◌, ◌++◌, length, take, if◌then◌else◌}
use Rattle.md_engine.specs.declared.event.Event.{Event}
use Rattle.md_engine.specs.declared.event.Point.{Point}
use Rattle.md_engine.specs.declared.state.Name.{Name as StateName}
use Rattle.md_engine.specs.declared.state.State.{State}
use Rattle.md_engine.specs.declared.state.State.TheVariants.{Error, Ok, Nok, Next, Retry}
use Rattle.md_engine.specs.declared.tokenizer.Frame.{Frame}
use Rattle.md_engine.specs.declared.tokenizer.Line.{Line}
use Rattle.md_engine.specs.declared.tokenizer.Scratch.{Scratch}
use Rattle.md_engine.specs.Place.{seen_at}
use Rattle.md_engine.specs.World.{Flags, Setting, World, after}

-- what a state is fed: a byte, `\n` for each line ending, or a column of a tab; the point after it; and what the parent
-- says of its line
pub record Cell : Type 0 where
  pub byte : ℕ
  pub after : Point
  pub line : Line

-- what comes from each point on; no cell is the end
abbrev pub Feed : Type 0
Feed = Point → List Cell

-- the part of a tokenizer that a construct works on
pub record Here : Type 0 where
  pub events : List Event
  pub point : Point
  pub scratch : Scratch
  pub flags : Flags

abbrev pub here : World → Here
here w = record { events = w.events; point = w.point; scratch = w.scratch; flags = w.flags }

-- how the rest of a construct ends; one that refuses leaves its scratch and flags
pub data Outcome : Type 0 where
  Accepts : Here → List Cell → Outcome
  Refuses : Scratch → Flags → Outcome
  Fails : Outcome

-- what is left of a construct at each state
abbrev pub Behaviour : Type 0
Behaviour = StateName → List Cell → Here → Outcome

-- what a state becomes
abbrev pub proceeds : Behaviour → State → List Cell → Here → Outcome
proceeds B Ok cells h = Accepts h cells
proceeds B Nok cells h = Refuses h.scratch h.flags
proceeds B Error cells h = Fails
proceeds B (Next name) cells h = B name cells h
proceeds B (Retry name) cells h = B name cells h

-- back at what a frame saved
abbrev pub restored : List Event → Frame → Scratch → Flags → Here
restored events f s g = record { events = take f.events_len events; point = f.point; scratch = s; flags = g }

-- what an attempt becomes, once what it tried has ended
abbrev pub resume : Behaviour → Feed → List Event → Frame → Outcome → Outcome
resume B feed events f (Accepts h rest) =
    if f.is_check then proceeds B f.ok (feed f.point) (restored events f h.scratch h.flags) else proceeds B f.ok rest h
resume B feed events f (Refuses s g) = proceeds B f.nok (feed f.point) (restored events f s g)
resume B feed events f Fails = Fails

-- the same for all attempts, the innermost first
abbrev pub resume_all : Behaviour → Feed → List Event → List Frame → Outcome → Outcome
resume_all B feed events [] o = o
resume_all B feed events (f ∷ fs) o = resume_all B feed events fs (resume B feed events f o)

-- what the whole tokenizer becomes from a state
abbrev pub whole_outcome : Behaviour → Feed → State → World → Outcome
whole_outcome B feed state w = resume_all B feed w.events w.frames (proceeds B state (feed w.point) (here w))

-- the line of the next cell, which only a feed that continues has
abbrev pub line_of : Line → List Cell → Line
line_of none [] = none
line_of none (c ∷ cs) = c.line

-- the feed is the text up to the limit of the setting, and ends there if this is the end; what the parent says of the
-- line holds of the cells from the line's start on
pub record Follows (feed : Feed) (x : Setting) (is_end : Bool) : Type 0 where
  pub cell : (p : Point) → p.index < x.limit →
      feed p ≡
      (record { byte = seen_at x.bytes p; after = after x p; line = line_of x.line (feed p) } ∷ feed (after x p))
  pub short : (p : Point) → length (feed p) < 2 ^ 63
  pub said : (p : Point) → x.line.start ≤ p.index → p.index < x.limit → line_of x.line (feed p) ≡ x.line
  pub none : is_end ≡ true → (p : Point) → x.limit ≤ p.index → feed p ≡ []

-- one step of a construct: what it begins and adds, and that what is left is what there was; where an attempt may go
-- back, events are only added
pub record Steps (B : Behaviour) (feed : Feed) (from : State) (old : World) (to : State) (new : World) : Type 0 where
  pub begun : List Frame
  pub added : List Event
  pub frames : new.frames ≡ begun ++ old.frames
  pub events : (old.frames ≡ []) ⊎ (new.events ≡ old.events ++ added)
  pub same : proceeds B from (feed old.point) (here old) ≡
      resume_all B feed new.events begun (proceeds B to (feed new.point) (here new))
