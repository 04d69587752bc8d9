use Rattle.std.proofs.Common.{◌∙◌, ap, sym}
use Rattle.md_engine.specs.declared.tokenizer.container.Container.{Container}
use Rattle.md_engine.specs.World.{World, world}
use Rattle.md_registry.specs.LineFlags.{asking, begun_line}
use Rattle.md_at_once.proofs.at_once.pass_openers.Goals as goal

pub returns : goal.returns
returns c =
    let w = world c.args.tokenizer.now in
    c.begin_line.ensures
    ∙ ap (λ (x : World). record x { flags = begun_line x.flags })
    (c.ask.ensures ∙ ap (λ (k : Container). asking k w) c.new.ensures ∙ sym (c.last_opener.ensures w))
