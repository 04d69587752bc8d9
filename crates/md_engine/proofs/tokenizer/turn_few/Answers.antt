use Rattle.md_engine.proofs.Closing.{turned-few}
use Rattle.md_engine.proofs.tokenizer.turn_few.Goals as goal

pub returns : goal.returns
returns c =
    turned-few _ _ _ _ _ _ _ c.requires c.reverse.ensures.after c.split_at_mut-front.ensures.front
    c.split_at_mut-front.ensures.back c.reverse-2.ensures.after c.reverse-3.ensures.after
