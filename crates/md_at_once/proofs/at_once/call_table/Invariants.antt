use Rattle.md_engine.specs.declared.state.Name.TheVariants as n
use Rattle.md_engine.specs.declared.state.State.TheVariants.{Next}
use Rattle.md_engine.specs.Scheme.{work}
use Rattle.md_engine.specs.World.{world}
use Rattle.md_registry.specs.States.{flow_table_scheme}
use Rattle.md_registry.proofs.GfmTable.Calls.{IsValid}
use Rattle.md_at_once.proofs.at_once.call_table.Given as goal

abbrev pub invariant-loop-to : goal.invariant-loop-to
invariant-loop-to l =
    IsValid (n.GfmTable l.fn.first) (world l.initial.tokenizer)
    (n.GfmTable l.state) (world l.tokenizer)

abbrev pub decreases-loop-to : goal.decreases-loop-to
decreases-loop-to l = work flow_table_scheme (world l.tokenizer) (Next (n.GfmTable l.state))
