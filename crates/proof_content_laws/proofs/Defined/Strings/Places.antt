-- The first line of a text of a definition.
use Rattle.std.proofs.Common.{ℕ, List, ◌++◌, refl}
use Rattle.md_engine.specs.declared.event.Event.{Event}
use Rattle.md_engine.specs.declared.event.Point.{Point}
use Rattle.md_events.specs.Events.Inline.{plain_chunk}
use Rattle.proof_content_laws.proofs.Defined.Form.{IsStrand, LastLine, NoLine, OneLine, Strand, strand_done}
use Rattle.proof_content_laws.proofs.Defined.Form.{strand_unread}
use Rattle.proof_content_laws.proofs.Defined.Strings.Lines.{AreLines, Last, More, NoneLeft, run-alone, run-ended}
use Rattle.proof_frame.proofs.PieceFacts.{Starts, starts-append}

-- a text that has a line
abbrev pub HasLine : Strand → Type 0
HasLine NoLine = ⊥
HasLine s = Unit {0}

pub strand-some : (bytes : List ℕ) (p q : Point) (s : Strand) → IsStrand bytes p q s → HasLine s
strand-some bytes p q NoLine is = is
strand-some bytes p q (LastLine a b text) is = tt
strand-some bytes p q (OneLine a e b r text front s) is = tt

-- the first line comes first
pub unread-starts : (s : Strand) → HasLine s → Starts (strand_unread s)
unread-starts NoLine h = absurd h
unread-starts (LastLine p q text) h = refl
unread-starts (OneLine p e q r text front s) h = refl

pub done-starts : (bytes : List ℕ) (p q : Point) (s : Strand) → HasLine s → AreLines bytes p q s →
    Starts (strand_done bytes s)
done-starts bytes q _ _ has (NoneLeft _ whole) = absurd has
done-starts bytes p q _ has (Last _ _ text some run) = (run-alone bytes text p q some run).starts
done-starts bytes p q _ has (More _ e b r _ text front s run break more) =
    let chunk : List Event = plain_chunk bytes (record { first = p; after = b }) in
    starts-append (chunk ++ front) (strand_done bytes s)
    (starts-append chunk front (run-ended bytes text p e b r front run break).starts)
