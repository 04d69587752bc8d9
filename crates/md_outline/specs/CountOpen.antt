-- How many parts have begun.
use Rattle.std.specs.Prelude.{ℕ, ◌+◌}
use Rattle.md_engine.specs.declared.event.Kind.{Kind}
use Rattle.md_engine.specs.declared.event.Kind.TheVariants.{Enter, Exit}

-- how many have begun after an event, by how many before it
abbrev pub begun : Kind → ℕ → ℕ
begun Enter enters = enters + 1
begun Exit enters = enters
