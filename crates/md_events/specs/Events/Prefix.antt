-- The names of a container prefix.
use Rattle.std.specs.Prelude.{Bool}
use Rattle.md_engine.specs.declared.event.Name.{Name}
use Rattle.md_events.specs.Events.Names.{facts}

-- whether a name belongs to a container prefix, which may be between two chunks of a part
abbrev pub is_prefix : Name → Bool
is_prefix name = (facts name).is_prefix
