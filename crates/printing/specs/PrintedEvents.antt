-- The printed form of events: a line for each, after two spaces for each part that is open around it.
use Rattle.std.specs.Prelude.{ℕ, ◌+◌, ◌-◌, List, [], ◌∷◌, ◌++◌, codes}
use Rattle.std.specs.List.{repeat}
use Rattle.std.specs.Fmt.{decimal}
use Rattle.md_engine.specs.declared.event.Event.{Event}
use Rattle.md_engine.specs.declared.event.Kind.{Kind}
use Rattle.md_engine.specs.declared.event.Kind.TheVariants.{Enter, Exit}
use Rattle.md_engine.specs.declared.event.Point.{Point}
use Rattle.md_events.specs.Events.Names.{name_text}
use Rattle.md_program.specs.Printed.{line_end}

-- `+` for an enter, `-` for an exit
abbrev pub sign : Kind → List ℕ
sign Enter = codes "+ "
sign Exit = codes "- "

-- line, column, byte, and the columns of a tab, each after a space
unfoldable pub printed_point : Point → List ℕ
printed_point p =
    (codes " " ++ decimal p.line) ++ (codes " " ++ decimal p.column) ++ (codes " " ++ decimal p.index) ++ codes " "
    ++ decimal p.vs

-- two spaces for each part around the event, its sign, its name and its point
unfoldable pub printed_event : ℕ → Event → List ℕ
printed_event depth event =
    repeat depth (codes "  ") ++ sign event.kind ++ name_text event.name ++ printed_point event.point ++ line_end

-- how many parts are around an event, where so many are open before it: an exit is as deep as its enter
abbrev pub depth_at : ℕ → Kind → ℕ
depth_at around Enter = around
depth_at around Exit = around - 1

-- how many parts are open after an event
abbrev pub open_following : ℕ → Kind → ℕ
open_following around Enter = around + 1
open_following around Exit = around - 1

-- the lines of events, where so many parts are open before the first
abbrev pub printed_within : ℕ → List Event → List ℕ
printed_within around [] = []
printed_within around (e ∷ es) =
    printed_event (depth_at around e.kind) e ++ printed_within (open_following around e.kind) es

-- the lines of all events of a text
abbrev pub printed_events : List Event → List ℕ
printed_events events = printed_within 0 events
