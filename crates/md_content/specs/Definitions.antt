-- The definitions before the paragraph of a text: where one is tried, and what follows it (CommonMark 4.7).
use Rattle.std.specs.Prelude.{refl, ℕ, ◌==◌, Bool, true, false, ◌||◌, if◌then◌else◌, Option, Some, None}
use Rattle.md_meaning.specs.Ascii.{left_bracket, line_feed}
use Rattle.md_engine.specs.declared.event.Name.TheVariants.{LineEnding}
use Rattle.md_engine.specs.declared.state.Name.{Name as StateName}
use Rattle.md_engine.specs.declared.state.Name.TheVariants as n
use Rattle.md_engine.specs.declared.state.content.State.{State as ContentState}
use Rattle.md_engine.specs.declared.state.content.State.TheVariants as its
use Rattle.md_engine.specs.declared.state.definition.State.TheVariants as definition
use Rattle.md_engine.specs.declared.state.paragraph.State.TheVariants as paragraph
use Rattle.md_engine.specs.declared.state.State.TheVariants.{Ok, Nok, Next, Retry}
use Rattle.md_engine.specs.Scheme.{After, Rank, Scheme, Position, ranked}
use Rattle.md_engine.specs.World.{World}
use Rattle.md_content.specs.Paragraph.{paragraph_rank}
use Rattle.md_events.specs.Spaces.{is_current, rest_ready, sees_white}
use Rattle.md_events.specs.Transition.{Transition, entered, exited, taken, tried}

-- whether a definition may begin with what is here: with whitespace before it, or with its `[`
abbrev pub may_define : Option ℕ → Bool
may_define o = sees_white o || is_current left_bracket o

-- by that
abbrev pub definition_before_code : World → Bool → Transition
definition_before_code w true = record {
  to = Retry (n.Definition definition.Start);
  world = tried w (Next (n.Content its.DefinitionAfter)) (Next (n.Paragraph paragraph.Start));
}
definition_before_code w false = record { to = Retry (n.Paragraph paragraph.Start); world = w }

-- by what is here: the end, or a line ending
abbrev pub definition_after_code : World → Option ℕ → Transition
definition_after_code w None = record { to = Ok; world = w }
definition_after_code w (Some b) =
    if b == line_feed
    then record { to = Next (n.Content its.DefinitionBefore); world = exited (taken (entered w LineEnding)) LineEnding }
    else record { to = Nok; world = w }

-- each state with what it does, where there is memory; a line of content is not read here
abbrev pub definition_before_transition : World → Transition
definition_before_transition w = definition_before_code w (may_define w.current)

abbrev pub definition_after_transition : World → Transition
definition_after_transition w = definition_after_code w w.current

abbrev pub definitions_transition : ContentState → World → Transition
definitions_transition its.DefinitionBefore w = definition_before_transition w
definitions_transition its.DefinitionAfter w = definition_after_transition w
definitions_transition _ w = record { to = Nok; world = w }

-- no tokenizer is at a state of a line that is not read
abbrev pub definitions_ready : StateName → Position → After → Type 0
definitions_ready (n.Content its.ChunkStart) x K = ⊥
definitions_ready (n.Content its.ChunkInside) x K = ⊥
definitions_ready _ x K = rest_ready x K

-- Where no definition is, the paragraph is next.
abbrev pub definitions_rank : StateName → Position → Rank
definitions_rank (n.Content its.DefinitionBefore) x = ranked 4 refl
definitions_rank (n.Content _) x = ranked 0 refl
definitions_rank name x = paragraph_rank name x

abbrev pub definitions_scheme : Scheme
definitions_scheme =
    record { ready = definitions_ready; level = λ n. 4; rank = definitions_rank; tries = λ n. ranked 3 refl }
