-- What is on a line that loses columns of whitespace, and in a fence, by its names: parts of a leaf, no block, no text
-- part, and none that ends a line.
use Rattle.std.proofs.Common.{◌≡◌, true, false, List, refl}
use Rattle.std.specs.Prelude.{None}
use Rattle.std.proofs.lemmas.Bool.{and_from}
use Rattle.md_engine.specs.declared.event.Event.{Event}
use Rattle.md_engine.specs.declared.event.Name.{Name}
use Rattle.md_containers.specs.ItemsAllowed.{IsPart}
use Rattle.md_leaves.proofs.SpannedLines.{NoBlocks, NoLines, blocks-lines}
use Rattle.md_events.specs.Events.Blocks.{is_block}
use Rattle.md_events.specs.Events.Endings.{on_line}
use Rattle.md_events.specs.Events.Spelled.{role}
use Rattle.md_events.specs.Events.Tiles.{part_kind}
use Rattle.md_events.proofs.EndingsLemmas.{AreOthers, is_other}
use Rattle.proof_literal_laws.proofs.IndentRemoved.Names.{AreInside, inside-name, is_inside}

-- Names.

-- each is the name of a part of a leaf
pub inside-part : (name : Name) → is_inside name ≡ true → IsPart (role name)
inside-part = inside-name (λ name. IsPart (role name)) tt tt tt tt tt tt tt tt

inside-block : (name : Name) → is_inside name ≡ true → is_block (role name) ≡ false
inside-block = inside-name (λ name. is_block (role name) ≡ false) refl refl refl refl refl refl refl refl

pub inside-kind : (name : Name) → is_inside name ≡ true → part_kind name ≡ None
inside-kind = inside-name (λ name. part_kind name ≡ None) refl refl refl refl refl refl refl refl

inside-other : (name : Name) → is_inside name ≡ true → is_other (on_line name) ≡ true
inside-other = inside-name (λ name. is_other (on_line name) ≡ true) refl refl refl refl refl refl refl refl

-- Events.

-- they are of no block, so of no line of a leaf either,
pub inside-blocks : (es : List Event) → AreInside es → NoBlocks es
inside-blocks es all = all NoBlocks tt (λ kind name x es e h. (inside-block name e, h))

pub inside-lines : (es : List Event) → AreInside es → NoLines es
inside-lines es all = blocks-lines es (inside-blocks es all)

-- and none ends a line
pub inside-others : (es : List Event) → AreInside es → AreOthers es
inside-others es all = all AreOthers refl (λ kind name x es e h. and_from _ _ (inside-other name e) h)
