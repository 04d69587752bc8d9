-- The interface of a leaf that takes the rest of one line and is no text: what the frame knows of it.
--
-- A value says what its trial takes by the cells of a line, as its states do; what the line definition has of it, by
-- the rest of the line; and which events it has, from its begin to its end, at three stages. The first two, and the
-- events as its states leave them, are said where the line meets a leaf (`met`), or none. Its laws (`LeafLaws`) say
-- that these fit.
use Rattle.std.specs.Prelude.{ℕ, Bool, List}
use Rattle.md_engine.specs.declared.configuration.ParseOptions.{ParseOptions}
use Rattle.md_engine.specs.declared.event.Event.{Event}
use Rattle.md_engine.specs.declared.event.Point.{Point}
use Rattle.md_engine.specs.declared.state.Name.{Name as StateName}
use Rattle.md_engine.specs.declared.tokenizer.held_leaf.HeldLeaf.{HeldLeaf}
use Rattle.md_engine.specs.declared.state.flow.State.{State as FlowState}
use Rattle.md_engine.specs.Meaning.{Cell, Here, Outcome}
use Rattle.md_meaning.specs.Leaves.{LeafResult}
use Rattle.md_meaning.specs.Rest.{Rest}
use Rattle.md_meaning.specs.State.{Leaf}
use Rattle.md_meaning.specs.Tree.{Block}

pub record LineLeaf : Type 0 where
  -- Its first state, and the state of flow before it; whether it always ends on its line, where flow shuts it.
  pub start : StateName
  pub before : FlowState
  pub ends : Bool
  -- Whether a blank line that it takes stays blank, so that its ending is that of a blank line; else an ending is so
  -- where nothing at all is on the line.
  pub stays_blank : Bool
  -- Whether a line of it, where it meets a leaf, continues that leaf.
  pub further : HeldLeaf → Bool
  -- Which leaf a line meets where this one is tried.
  pub asked : HeldLeaf → Bool
  -- Whether a line of it that continues text takes the last line of that as its head; else it turns all of the text.
  pub heads : Bool
  -- Whether it may begin, by the leaf that the line meets, by whether whitespace is here, and by what is first after
  -- that: elsewhere it is refused at once.
  pub may_begin : HeldLeaf → Bool → ℕ → Bool
  -- By the cells of the rest of a line: what is left of it at its first state, whether it takes the line, and then
  -- which events it adds, and what is held after it.
  pub trial : ParseOptions → List Cell → Here → Outcome
  pub takes : ParseOptions → HeldLeaf → List Cell → Bool
  pub adds : ParseOptions → HeldLeaf → List Cell → Point → List Event
  pub keeps : ParseOptions → HeldLeaf → List Cell → Point → HeldLeaf
  -- By the rest of a line, as the line definition has it: whether it starts there, what is held after it, what the open
  -- leaf is with it, and its block, if it always ends on its line.
  pub starts : ParseOptions → HeldLeaf → Rest → Bool
  pub holds : ParseOptions → HeldLeaf → Rest → HeldLeaf
  pub becomes : ParseOptions → Leaf → Rest → LeafResult
  pub block : Rest → Block
  -- Its events, by the bytes of the line and the point where it begins: as its states leave them, once its resolver has
  -- run, and once the plain layer has read its text parts in this text.
  pub added : ParseOptions → HeldLeaf → List ℕ → Point → List Event
  pub unread : List ℕ → Point → List Event
  pub done : List ℕ → List ℕ → Point → List Event
