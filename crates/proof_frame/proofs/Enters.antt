-- Begins of containers, one after another.
use Rattle.std.proofs.Common.{List, [], ◌∷◌}
use Rattle.md_events.specs.Events.Spelled.{Reading}
use Rattle.md_meaning.specs.State.{Container}
use Rattle.proof_frame.proofs.PrefixFacts.{begins}

-- containers begin, each in the one before
abbrev pub enters : List Container → Reading → Reading
enters [] r = r
enters (c ∷ cs) r = enters cs (begins c r)
