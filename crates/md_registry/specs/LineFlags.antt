-- What the document knows of its containers, and how each step of a line changes it.
use Rattle.proof_frame.specs.HeldLeaf.{met_by, takes_lazy}
use Rattle.std.specs.Prelude.{ℕ, suc, ◌+◌, Bool, true, false, ◌&&◌, ◌==◌, not, nat_lt, if◌then◌else◌, List, [], ◌∷◌}
use Rattle.std.specs.Prelude.{◌++◌, drop, length, slice_get, slice_set, Option}
use Rattle.md_engine.specs.declared.event.Point.{Point}
use Rattle.md_engine.specs.declared.tokenizer.container.Container.{Container}
use Rattle.md_engine.specs.declared.tokenizer.held_leaf.HeldLeaf.TheVariants as held_leaf
use Rattle.md_engine.specs.World.{Flags, World}
use Rattle.md_events.specs.Spaces.{ends_line}
use Rattle.md_registry.specs.Registry.{continues_over}

-- the outermost container that was not asked yet whether it continues
abbrev pub next_container : Flags → Option Container
next_container g = slice_get g.containers g.continued

-- this container is asked whether it continues, or tried, where this column is
abbrev pub asks : Container → ℕ → Flags → Flags
asks c column g = record g { asked = c; asked_column = column }

abbrev pub asking : Container → World → World
asking c w = record w { flags = asks c w.point.column w.flags }

-- the one that was asked continues, and is held as it is after its prefix
abbrev pub was_continued : Flags → Flags
was_continued g = record g {
  containers = slice_set g.containers g.continued g.asked;
  continued = if nat_lt g.continued (length g.containers) then suc g.continued else g.continued;
}

-- how many of these continue where the line ends, up to the first that does not
abbrev pub over_end : List Container → ℕ
over_end [] = 0
over_end (c ∷ cs) = if continues_over c then suc (over_end cs) else 0

-- where the line ends none is asked
abbrev pub ended_on : Flags → Flags
ended_on g = record g { continued = g.continued + over_end (drop g.continued g.containers) }

-- the one that was tried opens, where those that did not continue have ended: no paragraph is open in it
abbrev pub with_container : Flags → Flags
with_container g = record g {
  containers = g.containers ++ g.asked ∷ [];
  continued = length (g.containers ++ g.asked ∷ []);
  leaf = held_leaf.None;
}

-- after the containers of a line: the leaf is what the line meets, so one that has ended with its containers is open no
-- more
abbrev pub begun_line : Flags → Flags
begun_line g =
    record g { leaf_before = g.leaf; leaf = met_by (not (nat_lt g.continued (length g.containers))) g.leaf }

-- whether nothing at all is on a line, by what follows its containers and where: it ends there, in the column where
-- lines begin, so that no prefix is in front
abbrev pub nothing_is_here : Option ℕ → Point → Bool
nothing_is_here o p = ends_line o && (p.column == 1)

-- before the leaf that is asked first, by whether nothing is on the line: its ending is then that of a blank line
abbrev pub blank_here : Bool → Flags → Flags
blank_here nothing g = record g { blank = nothing }

-- after a leaf on one line none is open
abbrev pub shut_leaf : Flags → Flags
shut_leaf g = record g { leaf = held_leaf.None }

-- nor after a blank line
abbrev pub blanked : Flags → Flags
blanked g = record g { leaf = held_leaf.None; blank = true }

-- how many containers are still open after a line: all of them after a line of the paragraph that is open (CommonMark
-- 5.1, "laziness"), and else those that continued
abbrev pub kept_containers : Flags → ℕ
kept_containers g = if takes_lazy g.leaf_before && takes_lazy g.leaf then length g.containers else g.continued

-- the next line begins, and so many events was before the ending of this one
abbrev pub next_line : ℕ → Flags → Flags
next_line len g = record g { blank = false; continued = 0; line_end = len }
