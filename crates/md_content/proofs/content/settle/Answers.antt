use Rattle.std.proofs.Common.{◌∙◌, sym, arith}
use Rattle.std.proofs.lemmas.List.{set-get_or}
use Rattle.md_content.proofs.SettledLemmas.{settle-end, settle-none, settle-other, settle-within}
use Rattle.md_content.proofs.content.settle.Goals as goal
use Rattle.md_content.proofs.content.settle.Goals.{then-line-chunks-via-then-line-chunks}
use Rattle.md_content.proofs.content.settle.Goals.{then-line-chunks-via-else-line-chunks+then-not-ends_piece}
use Rattle.md_content.proofs.content.settle.Goals.{then-after-event, else-after-event}

pub loop-event-preserved-then-line-chunks : goal.loop-event-preserved-then-line-chunks
loop-event-preserved-then-line-chunks c =
    elim c.then-line-chunks.branch [
      | then-line-chunks-via-then-line-chunks w ↦ rw (w.events-is, set-get_or)
          (settle-none _ _ c.loop-event.events _ _ (omega arith) w.if-line-chunks.true c.loop-event.invariant)
      | then-line-chunks-via-else-line-chunks+then-not-ends_piece w ↦ rw (w.events-is, set-get_or)
          (settle-other _ _ _ _ _ _ (omega arith)
          (sym w.ends_piece.ensures ∙ w.if-not-ends_piece.true) c.loop-event.invariant)
    ]

pub loop-event-preserved : goal.loop-event-preserved
loop-event-preserved c =
    elim c.if-after-event.branch [
      | then-after-event w ↦ rw (w.events-is, w.line-is)
          (settle-end _ _ _ _ _ _ _ (omega arith) (omega arith)
          (sym c.ends_piece.ensures ∙ c.if-not-ends_piece.false) w.if-after-event.true c.loop-event.invariant)
      | else-after-event w ↦ rw (w.events-is, w.line-is, set-get_or)
          (settle-within _ _ _ _ _ _ _ (omega arith) (omega arith) w.if-after-event.false c.loop-event.invariant)
    ]
