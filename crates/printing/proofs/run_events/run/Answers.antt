use Rattle.printing.proofs.run_events.run.Goals as goal

pub returns : goal.returns
returns g c = c.run.ensures
