use Rattle.std.proofs.lemmas.List.{take_rest}
use Rattle.md_events.proofs.MovingLemmas.{piece-appended}
use Rattle.md_events.proofs.moving.append.Goals as goal

pub loop-at-preserved : goal.loop-at-preserved
loop-at-preserved c =
    let more = c.args.more.now in
    piece-appended more c.loop-at.events.items c.append_piece.new.events.items _ c.loop-at.at
    c.piece-many.result (rw (take_rest more c.loop-at.at) at c.in_ok-append_piece.ensures) c.loop-at.invariant
