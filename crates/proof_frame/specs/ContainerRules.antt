-- The interface of a container: what the frame knows of it.
--
-- A value says the same line three times: by what is left at its states, by the cells of the line, and by the rest of
-- the line, as the line definition has it. Its laws (`ContainerLaws`) say that these fit.
use Rattle.std.specs.Prelude.{ℕ, Bool, List, Option}
use Rattle.md_engine.specs.declared.configuration.ParseOptions.{ParseOptions}
use Rattle.md_engine.specs.declared.event.Point.{Point}
use Rattle.md_engine.specs.declared.state.Name.{Name as StateName}
use Rattle.md_engine.specs.declared.state.document.State.{State as DocumentState}
use Rattle.md_engine.specs.declared.tokenizer.container.Container.{Container as Held}
use Rattle.md_engine.specs.Meaning.{Cell, Here, Outcome}
use Rattle.md_engine.specs.World.{World}
use Rattle.md_meaning.specs.Containers.{Taken}
use Rattle.md_meaning.specs.Rest.{Rest}
use Rattle.md_meaning.specs.State.{Container}
use Rattle.proof_frame.specs.Passed.{Passed}

pub record ContainerRules : Type 1 where
  -- The state of the document before it, where it may open; its own first state there, and the one before its prefix on
  -- a further line, each with what is left there.
  pub before : DocumentState
  pub start : StateName
  pub begins : ParseOptions → List Cell → Here → Outcome
  pub further : StateName
  pub continues : ParseOptions → List Cell → Here → Outcome
  -- What may be first after whitespace where it opens, and where its prefix on a further line begins: elsewhere it is
  -- refused at once.
  pub may_open : ℕ → Bool
  pub may_continue : ℕ → Bool
  -- Whether the prefix of one that is held so is here on a further line, where it can be taken at once; and what
  -- follows it.
  pub plain : Held → World → Type 0
  pub taken : Held → World → World
  -- By the cells of a line: the one that opens, if one does, where it would interrupt text or not; and an open one, if
  -- it continues.
  pub opens : ParseOptions → Bool → List Cell → Point → Option Passed
  pub proceeds : ParseOptions → Container → List Cell → Point → Option Passed
  -- By the rest of a line: the one that opens. Which open one continues, the line definition says of all containers at
  -- once.
  pub found : ParseOptions → Bool → Rest → Option Taken
  -- Whether one that is held so continues where the line ends, and takes nothing: then it is not asked.
  pub over_empty : Held → Bool
  -- What the tokenizer holds of an open one: beside its kind what the events do not show.
  pub holds : Held → Container → Type 0
