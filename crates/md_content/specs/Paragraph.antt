-- The paragraph.
use Rattle.std.specs.Prelude.{refl, ℕ, ◌==◌, false, if◌then◌else◌, Option, Some, None}
use Rattle.md_engine.specs.declared.event.Link.{Link}
use Rattle.md_engine.specs.declared.event.Content.TheVariants as content
use Rattle.md_engine.specs.declared.event.Name.TheVariants as parts
use Rattle.md_engine.specs.declared.state.Name.{Name as StateName}
use Rattle.md_engine.specs.declared.state.Name.TheVariants as n
use Rattle.md_engine.specs.declared.state.paragraph.State.{State as ParagraphState}
use Rattle.md_engine.specs.declared.state.paragraph.State.TheVariants as its
use Rattle.md_engine.specs.declared.state.State.TheVariants.{Ok, Next, Retry}
use Rattle.md_engine.specs.Scheme.{Rank, Scheme, Position, ranked}
use Rattle.md_engine.specs.World.{World}
use Rattle.md_events.specs.Spaces.{rest_ready}
use Rattle.md_events.specs.Transition.{Transition, entered, entered_link, exited, taken}

abbrev pub text_link : Link
text_link = record { previous = false; next = false; content = content.Text }

abbrev pub start_transition : World → Transition
start_transition w = record { to = Retry (n.Paragraph its.LineStart); world = entered w parts.Paragraph }

abbrev pub line_start_transition : World → Transition
line_start_transition w = record { to = Retry (n.Paragraph its.Inside); world = entered_link w parts.Data text_link }

-- by what is here: the end, a line ending, or a byte of the line
abbrev pub inside_code : World → Option ℕ → Transition
inside_code w None = record { to = Ok; world = exited (exited w parts.Data) parts.Paragraph }
inside_code w (Some b) =
    if b == 10 then record { to = Next (n.Paragraph its.LineStart); world = exited (taken w) parts.Data }
    else record { to = Next (n.Paragraph its.Inside); world = taken w }

abbrev pub inside_transition : World → Transition
inside_transition w = inside_code w w.current

-- each state with what it does, where there is memory
abbrev pub paragraph_transition : ParagraphState → World → Transition
paragraph_transition its.Start w = start_transition w
paragraph_transition its.LineStart w = line_start_transition w
paragraph_transition its.Inside w = inside_transition w

abbrev pub paragraph_rank : StateName → Position → Rank
paragraph_rank (n.Paragraph its.Start) x = ranked 2 refl
paragraph_rank (n.Paragraph its.LineStart) x = ranked 1 refl
paragraph_rank _ x = ranked 0 refl

-- an attempt at a definition may continue with it, and definitions are below
abbrev pub paragraph_scheme : Scheme
paragraph_scheme =
    record { ready = λ n x K. rest_ready x K; level = λ n. 4; rank = paragraph_rank; tries = λ n. ranked 3 refl }
