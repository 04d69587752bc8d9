-- What is left at a state of flow where the next state is said, and how a trial continues.
use Rattle.std.specs.Prelude.{List}
use Rattle.md_engine.specs.declared.tokenizer.Scratch.{Scratch}
use Rattle.md_engine.specs.Meaning.{Accepts, Cell, Fails, Here, Outcome, Refuses}
use Rattle.md_engine.specs.World.{Flags}

-- how the rest of a text ends from a place
abbrev pub Rule : Type 0
Rule = List Cell → Here → Outcome

-- continues by what a trial became
abbrev pub tried : Outcome → Rule → (Scratch → Flags → Outcome) → Outcome
tried (Accepts h rest) onward otherwise = onward rest h
tried (Refuses s g) onward otherwise = otherwise s g
tried Fails onward otherwise = Fails
