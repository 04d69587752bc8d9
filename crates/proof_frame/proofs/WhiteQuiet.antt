-- Whitespace is read as nothing.
use Rattle.std.proofs.Common.{ℕ, List, [], ◌∷◌}
use Rattle.md_engine.specs.declared.event.Name.TheVariants as n
use Rattle.md_engine.specs.declared.event.Point.{Point}
use Rattle.md_events.proofs.SpelledLemmas.{Quiet, Roles}
use Rattle.proof_frame.specs.LineColumns.{part_over}

pub white-quiet : (text : List ℕ) (p q : Point) → Roles Quiet (part_over n.SpaceOrTab text p q)
white-quiet [] p q = tt
white-quiet (b ∷ bs) p q = (tt, (tt, tt))
