use Rattle.std.proofs.Common.{◌≡◌, ◌+◌, ◌-◌, ◌≤◌, ℕ, arith, ap, length, length-append, ◌∙◌, take, sym}
use Rattle.std.proofs.lemmas.List.{take-take, take_rest}
use Rattle.md_events.proofs.MovingLemmas.{piece-before, piece-up}
use Rattle.md_events.proofs.moving.move_up.Goals as goal

pub loop-end-preserved : goal.loop-end-preserved
loop-end-preserved c =
    let parts = c.split_at_mut-front in
    let old = c.args.events.now in
    let now = c.loop-end.events in
    let many : ℕ = c.piece-many.result in
    let end : ℕ = c.loop-end.end - many in
    let inv = c.loop-end.invariant in
    let small : many ≤ c.args.gap = omega (arith, c.piece-many.ensures.most, c.min.ensures) in
    let within : c.args.from + many ≤ c.loop-end.end =
    omega (arith, c.piece-many.ensures.most, c.min.ensures, c.loop-end-test.true) in
    let back : end + many ≡ c.loop-end.end = omega (arith, within) in
    let long : length parts.result.0.now ≡ end + c.args.gap = parts.ensures.front_len in
    let before : take (end + many + c.args.gap) now ≡ take (end + many + c.args.gap) old =
    rw back inv.before in
    record {
      moved = piece-up old now parts.result.0.now parts.result.1.now c.copy_piece.new.events end c.args.gap many
          parts.ensures.front parts.ensures.back small (omega (arith, back, inv.within)) long (sym inv.many)
          (rw (take_rest parts.result.0.now end) at c.copy_piece.ensures.copied)
          (rw (take_rest parts.result.0.now end) at c.copy_piece.ensures.following) before (rw back inv.moved);
      before = piece-before old now parts.result.0.now c.copy_piece.new.events end c.args.gap many
          parts.ensures.front long
          before;
      many = length-append parts.result.0.now c.copy_piece.new.events
          ∙ omega (arith, long, parts.ensures.back_len, c.copy_piece.ensures.many, inv.many, inv.within, back);
      within = omega (arith, within, back, inv.within);
    }

pub returns-clause-before : goal.returns-clause-before
returns-clause-before c =
    let end : ℕ = c.loop-end.end + c.args.gap in
    let within : c.args.from ≤ end = omega (arith, c.loop-end.invariant.within) in
    sym (take-take c.args.from end c.loop-end.events within)
    ∙ ap (take c.args.from) c.loop-end.invariant.before
    ∙ take-take c.args.from end c.args.events.now within
