use Rattle.std.proofs.Common.{ℕ, ◌∙◌, ap}
use Rattle.md_engine.specs.World.{World, world}
use Rattle.md_registry.proofs.OverEnd.{over-ends}
use Rattle.md_flow.proofs.document.pass_over.Goals as goal

pub returns-then-continued-len : goal.returns-then-continued-len
returns-then-continued-len c =
    let w : World = world c.args.tokenizer.now in
    let counted : World → ℕ → World = λ v n. record v { flags = record v.flags { continued = n } } in
    ap (λ (v : World). counted v c.over_end-tokenizer.result) c.over_end-tokenizer.ensures.same
    ∙ ap (counted w)
    (over-ends w.flags.containers w.flags.continued c.over_end-tokenizer.result c.over_end-tokenizer.ensures.ends)
