use Rattle.md_engine.specs.declared.state.Name.TheVariants as n
use Rattle.md_engine.specs.declared.state.State.TheVariants.{Next}
use Rattle.md_engine.specs.Scheme.{work}
use Rattle.md_engine.specs.World.{world}
use Rattle.md_registry.specs.States.{flow_table_scheme}
use Rattle.md_registry.proofs.GfmTable.Calls.{IsValid}
use Rattle.md_at_once.proofs.html_lines.call.Given as goal

abbrev pub invariant-loop-next : goal.invariant-loop-next
invariant-loop-next l =
    IsValid (n.HtmlFlow l.fn.first) (world l.initial.tokenizer)
    (n.HtmlFlow l.state) (world l.tokenizer)

abbrev pub decreases-loop-next : goal.decreases-loop-next
decreases-loop-next l = work flow_table_scheme (world l.tokenizer) (Next (n.HtmlFlow l.state))
