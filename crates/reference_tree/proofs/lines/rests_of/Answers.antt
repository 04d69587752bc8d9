use Rattle.std.proofs.Common.{◌∙◌, sym, refl, arith}
use Rattle.reference_tree.proofs.LinesLemmas.{rests_of-next}
use Rattle.reference_tree.proofs.lines.rests_of.Goals as goal

pub loop-left-preserved : goal.loop-left-preserved
loop-left-preserved c = record {
  value =
      c.loop-left.invariant.value
      ∙ rests_of-next _ _ _ _ _ _ _ _ _
      (sym c.is_empty.ensures ∙ c.loop-left-test.true) c.line_len.ensures.value c.split_at.ensures.front
      c.split_at.ensures.back c.following_ending-left.ensures.value refl c.in_ok-push.ensures;
  room = omega (arith, c.loop-left.invariant.room, c.following_ending-left.ensures.bound, c.split_at.ensures.back_len);
}
