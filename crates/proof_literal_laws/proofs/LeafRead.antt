-- What is known of a leaf is known of it as it is read.
use Rattle.std.proofs.Common.{ℕ, Bool, List, subst, sym}
use Rattle.std.specs.Prelude.{Option}
use Rattle.md_engine.specs.declared.event.Event.{Event}
use Rattle.md_engine.specs.declared.event.Point.{Point}
use Rattle.md_meaning.specs.Tree.{Block}
use Rattle.md_events.specs.Events.Tiles.{plain_read}
use Rattle.proof_frame.proofs.FillFacts.{filled-read}
use Rattle.proof_frame.proofs.LeafFacts.{LeafFacts}

pub facts-read : {bytes : List ℕ} {block : Option Block} {full : Bool} {p q : Point} {us es : List Event} →
    LeafFacts bytes block full p q us es → LeafFacts bytes block full p q us (plain_read bytes us)
facts-read {bytes = bytes} {block = block} {full = full} {p = p} {q = q} {us = us} {es = es} h =
    subst (LeafFacts bytes block full p q us) (sym (filled-read bytes us es h.are_valid.stretch.filled)) h
