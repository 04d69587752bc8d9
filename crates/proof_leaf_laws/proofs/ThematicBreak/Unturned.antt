-- A break is no text and no underline, and it holds no other block: so it fits the resolvers.
use Rattle.std.proofs.Common.{ℕ, List, refl}
use Rattle.md_engine.specs.declared.event.Name.TheVariants as n
use Rattle.md_engine.specs.declared.event.Point.{Point}
use Rattle.md_events.specs.Events.Places.{past_text}
use Rattle.md_meaning.specs.Rest.{trim_start}
use Rattle.proof_leaf_laws.specs.Leaf.ThematicBreak.{break_line}
use Rattle.md_meaning.specs.Texts.{first_byte}
use Rattle.proof_frame.proofs.ClosedFacts.{IsClosed, OpensNothing, closed-each}
use Rattle.proof_frame.proofs.MarkRuns.Each.{line-holds}
use Rattle.proof_frame.proofs.MarkRuns.Items.{line-items}
use Rattle.proof_frame.proofs.NestFacts.{NestFacts, outside-runs}
use Rattle.proof_frame.proofs.OutsideFacts.{IsOutside}
use Rattle.proof_frame.proofs.UnturnedFacts.{AreUnturned, IsUnturned}

pub break-unturned : (line : List ℕ) (p : Point) → AreUnturned (break_line line p)
break-unturned line p =
    line-holds IsUnturned n.ThematicBreak n.ThematicBreakSequence (λ p. refl, λ p. refl) (λ p. refl, λ p. refl)
    (λ p. refl, λ p. refl) (first_byte (trim_start line)) line p (past_text line p)

pub break-alone : (line : List ℕ) (p : Point) → IsClosed (break_line line p)
break-alone line p =
    closed-each (break_line line p)
    (line-holds OpensNothing n.ThematicBreak n.ThematicBreakSequence (λ p. refl, λ p. refl) (λ p. refl, λ p. refl)
    (λ p. refl, λ p. refl) (first_byte (trim_start line)) line p (past_text line p))

pub break-nests : (line : List ℕ) (p : Point) → NestFacts (break_line line p)
break-nests line p = record {
  items =
      line-items n.ThematicBreak n.ThematicBreakSequence refl refl (first_byte (trim_start line)) line p
      (past_text line p);
  runs =
      outside-runs (break_line line p)
      (line-holds IsOutside n.ThematicBreak n.ThematicBreakSequence (λ p. refl, λ p. refl) (λ p. refl, λ p. refl)
      (λ p. refl, λ p. refl) (first_byte (trim_start line)) line p (past_text line p));
  turns = break-unturned line p;
}
