use Rattle.std.specs.Option.{option_map}
use Rattle.md_engine.specs.Found.{found_in}
use Rattle.md_engine.specs.World.{world}
use Rattle.md_flow.proofs.TextsNest.{texts-nested}
use Rattle.md_flow.proofs.resolve.call.Goals as goal

pub returns-in_ok-read_heads-in-Content-clause-nested : goal.returns-in_ok-read_heads-in-Content-clause-nested
returns-in_ok-read_heads-in-Content-clause-nested c =
    rw c.in-Content.is
    (texts-nested c.resolve.result (option_map found_in) (world c.args.tokenizer.now)
    (world c.read_heads.new.tokenizer) (world c.resolve.new.tokenizer) c.in_ok-read_heads-in-Content.ensures
    c.resolve.ensures.resolves)
