-- Text before its reading.
use Rattle.std.proofs.Common.{◌<◌, ℕ, List, arith}
use Rattle.md_engine.specs.declared.event.Name.TheVariants as n
use Rattle.md_engine.specs.declared.event.Point.{Point}
use Rattle.md_events.specs.Events.Grammar.{Expression, following, unread_text}
use Rattle.md_events.proofs.FeedLines.{ending-some, IsEnding}

-- what is left of a text after its first line
abbrev pub unread_rest : Expression
unread_rest = following n.Data unread_text

-- an ending has a byte at least
pub ending-grows : (bytes : List ℕ) (p q : Point) → IsEnding bytes p q → p.index < q.index
ending-grows bytes p q is = let some = ending-some is.ending in omega (arith, some, is.size)
