-- The events of a thematic break are read as a break.
use Rattle.std.proofs.Common.{◌≡◌, ℕ, List, refl}
use Rattle.std.specs.Prelude.{Some, None}
use Rattle.md_engine.specs.declared.event.Point.{Point}
use Rattle.md_engine.specs.declared.event.Event.{Event}
use Rattle.md_engine.specs.declared.event.Name.TheVariants as n
use Rattle.md_meaning.specs.Tree as t
use Rattle.md_meaning.specs.declared.outline.Word.TheVariants.{Break}
use Rattle.md_events.proofs.BlocksLemmas.{read-leaf}
use Rattle.md_events.specs.Events.Nested.{around}
use Rattle.md_events.specs.Events.Spelled.{Reading, OfBare, add_block, fresh, read}
use Rattle.md_events.proofs.SpelledLemmas.{Roles, Quiet, read-quiet}

-- The events of a thematic break are read as a break.
pub read-break : (bytes : List ℕ) (r : Reading) (p q : Point) (inside : List Event) → r.leaf ≡ None →
    Roles Quiet inside → read bytes r (around n.ThematicBreak p q inside) ≡ add_block (t.Bare Break) r
read-break bytes r p q inside none quiet =
    read-leaf bytes r n.ThematicBreak (OfBare Break) p q inside (fresh (OfBare Break)) refl none
    (read-quiet bytes (record r { leaf = Some (fresh (OfBare Break)) }) inside quiet)
