use Rattle.md_engine.specs.World.{world}
use Rattle.md_engine.proofs.Walks.{here-keeps}
use Rattle.md_tables.specs.HeadStates.{HeadStep, head_scheme}
use Rattle.md_tables.proofs.HeadStates.{head-keeps}
use Rattle.md_tables.proofs.heads.HeadTableTable.call.Goals as goal

pub returns-clause-valid : goal.returns-clause-valid
returns-clause-valid c = λ fine.
    (here-keeps HeadStep head_scheme c.args.name (world c.args.tokenizer.now) _ _ head-keeps c.requires.current
    c.requires.valid (c.call_state.ensures.runs fine)).0

pub returns-clause-falls : goal.returns-clause-falls
returns-clause-falls c = λ fine.
    (here-keeps HeadStep head_scheme c.args.name (world c.args.tokenizer.now) _ _ head-keeps c.requires.current
    c.requires.valid (c.call_state.ensures.runs fine)).1

pub returns-clause-setting : goal.returns-clause-setting
returns-clause-setting c = λ fine.
    (here-keeps HeadStep head_scheme c.args.name (world c.args.tokenizer.now) _ _ head-keeps c.requires.current
    c.requires.valid (c.call_state.ensures.runs fine)).2
