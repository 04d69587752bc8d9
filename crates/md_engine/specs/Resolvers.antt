-- The names of resolvers: when two are the same.
use Rattle.std.specs.Prelude.{Bool}
use Rattle.md_engine.specs.contracts.resolve.name.NamePartialEq.TheImpl as names
use Rattle.md_engine.specs.declared.resolve.name.Name.{Name}

-- whether two names are the same, as the derived test of the names has it
abbrev pub same_name : Name → Name → Bool
same_name a b = names.ghosts.eq a b
