-- What reading linked parts has found.
use Rattle.std.specs.Prelude.{ℕ, Bool, false, List, [], ◌++◌, map, Option, Some, None}
use Rattle.std.specs.String.{string_bytes}
use Rattle.md_engine.specs.declared.subtokenize.Subresult.{Subresult}

pub record Found : Type 0 where
  -- whether no linked part is left unread
  pub done : Bool
  -- the normal forms of the labels, in order
  pub definitions : List (List ℕ)
  pub footnotes : List (List ℕ)

abbrev pub nothing : Found
nothing = record { done = false; definitions = []; footnotes = [] }

abbrev pub found_in : Subresult → Found
found_in s = record {
  done = s.done;
  definitions = map string_bytes s.definitions.items;
  footnotes = map string_bytes s.gfm_footnote_definitions.items;
}

-- the labels of both, and whether the later one was the last; a resolver that answers nothing changes nothing
abbrev pub with_found : Found → Option Found → Found
with_found f None = f
with_found f (Some g) = record {
  done = g.done;
  definitions = f.definitions ++ g.definitions;
  footnotes = f.footnotes ++ g.footnotes;
}
