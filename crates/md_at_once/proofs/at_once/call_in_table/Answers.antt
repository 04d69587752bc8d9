use Rattle.std.proofs.Common.{◌≢◌, subst, sym}
use Rattle.md_engine.specs.declared.state.gfm_table.State.{State as TableState}
use Rattle.md_engine.specs.declared.state.Name.TheVariants as n
use Rattle.md_engine.specs.declared.state.State.TheVariants.{Error}
use Rattle.md_engine.specs.Run.{RunsHere}
use Rattle.md_engine.specs.World.{world}
use Rattle.md_engine.proofs.StayLemmas.{within-world}
use Rattle.md_engine.proofs.Walks.{runs-in}
use Rattle.md_tables.specs.declared.row.Row.TheVariants.{Body}
use Rattle.md_tables.proofs.RowWords.{place-named}
use Rattle.md_tables.specs.RowWords.{RowStep}
use Rattle.md_registry.specs.States.{FlowStep}
use Rattle.md_registry.proofs.FlowCalls.{called-once}
use Rattle.md_registry.proofs.GfmTable.Calls.{row-flows}
use Rattle.md_at_once.proofs.at_once.call_in_table.Goals as goal

pub returns-in-Some : goal.returns-in-Some
returns-in-Some c =
    let w = world c.args.tokenizer.now in
    let w' = world c.call.new.tokenizer in
    record {
      runs = λ fine.
          subst (λ (x : TableState). RunsHere FlowStep (n.GfmTable x) w c.call.result w')
          (sym (place-named Body c.args.state c.in-Some.place (sym c.in-Some.ensures)))
          (λ is_end s v named sees may.
          runs-in (RowStep Body) FlowStep is_end s v c.call.result w' (row-flows)
          (c.call.ensures.runs fine is_end s v named sees may));
      sees = c.call.ensures.sees;
      full = c.call.ensures.full;
    }

pub returns-in-None : goal.returns-in-None
returns-in-None c =
    let once = λ (fine : c.call-in-None.result ≢ Error).
    called-once (n.GfmTable c.args.state) (world c.args.tokenizer.now) c.call-in-None.result
    (world c.call-in-None.new.tokenizer) c.requires.current c.requires.valid (within-world c.args.tokenizer.now) fine
    (c.call-in-None.ensures.to fine) (c.call-in-None.ensures.world fine) in
    record { runs = λ fine. (once fine).0; sees = λ fine. (once fine).1; full = c.call-in-None.ensures.full }
