-- How a text changes a half-read tree, by what it shows.
use Rattle.std.proofs.Common.{◌≡◌, true, refl}
use Rattle.md_meaning.specs.Tree.{Line}
use Rattle.md_events.specs.Events.Spelled.{AsLine, Purpose, Reading, Role, TextRole, add_block, named, noted, on_leaf}
use Rattle.md_events.specs.Events.Spelled.{on_shape, recorded}
use Rattle.md_events.specs.Events.Recorded.{OfContainer, OfItself, OfLeaf, block_recorded, is_recorded, recorded_in}

-- one of its own is a block more
pub recorded-block : (x : Purpose) → recorded_in x ≡ OfItself → (line : Line) (r : Reading) →
    recorded x line r ≡ add_block (block_recorded line.text) r
recorded-block AsLine e line r = absurd (cc)
recorded-block _ e line r = cc

-- one of a container names the innermost
pub recorded-named : (x : Purpose) → recorded_in x ≡ OfContainer → (line : Line) (r : Reading) →
    recorded x line r ≡ record r { outer = on_shape (named x line.text) r.outer }
recorded-named AsLine e line r = absurd (cc)
recorded-named _ e line r = cc

-- one of a leaf block is noted there
pub recorded-noted : (x : Purpose) → recorded_in x ≡ OfLeaf → (line : Line) (r : Reading) →
    recorded x line r ≡ on_leaf (noted x line) r
recorded-noted AsLine e line r = refl
recorded-noted _ e line r = cc

-- what is read from a role that shows
pub recorded-role : (x : Role) → is_recorded x ≡ true → (purpose : Purpose) × (x ≡ TextRole purpose)
recorded-role (TextRole purpose) h = (purpose, refl)
recorded-role _ h = absurd (cc)
