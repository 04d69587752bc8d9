-- Containers that end where the line before did.
use Rattle.std.specs.Prelude.{ℕ, zero, suc}
use Rattle.md_events.specs.Events.Spelled.{Reading, left}

-- what is read where so many containers end
abbrev pub close_containers : ℕ → Reading → Reading
close_containers zero r = r
close_containers (suc size) r = close_containers size (left r.outer r)
