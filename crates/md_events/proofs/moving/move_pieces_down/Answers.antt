use Rattle.std.proofs.Common.{◌≡◌, ◌+◌, ◌-◌, ◌≤◌, arith, length, length-append, ◌∙◌, refl}
use Rattle.md_events.proofs.MovingLemmas.{piece-following, piece-down}
use Rattle.md_events.proofs.moving.move_pieces_down.Goals as goal

pub loop-at-preserved : goal.loop-at-preserved
loop-at-preserved c =
    let parts = c.split_at_mut-front in
    let small : c.piece-many.result ≤ c.args.from - c.args.to =
    omega (arith, c.piece-many.ensures.most, c.min.ensures) in
    let within : c.loop-at.at + c.piece-many.result ≤ c.args.end =
    omega (arith, c.piece-many.ensures.most, c.min.ensures, c.loop-at-test.true) in
    let long : length c.copy_piece.new.events ≡ c.loop-at.at = c.copy_piece.ensures.many ∙ parts.ensures.front_len in
    record {
      moved = piece-down c.args.events.now c.loop-at.events c.copy_piece.new.events parts.result.1.now
          c.args.to c.args.from
          c.loop-at.at (c.args.from - c.args.to) c.piece-many.result refl (omega arith) c.loop-at.invariant.within.0
          (omega (arith, within, c.loop-at.invariant.many)) small long parts.ensures.back
          (rw parts.ensures.front at c.copy_piece.ensures.copied) c.loop-at.invariant.moved
          c.loop-at.invariant.following;
      following = piece-following c.args.events.now c.loop-at.events c.copy_piece.new.events
          parts.result.1.now c.loop-at.at
          c.piece-many.result long parts.ensures.back c.loop-at.invariant.following;
      many = length-append c.copy_piece.new.events parts.result.1.now
          ∙ omega (arith, long, parts.ensures.back_len, c.loop-at.invariant.many, within);
      within = omega (arith, within, c.loop-at.invariant.within);
    }
