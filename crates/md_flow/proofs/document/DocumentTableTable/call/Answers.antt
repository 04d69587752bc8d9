use Rattle.md_engine.specs.World.{world}
use Rattle.md_engine.proofs.Loops.{call-runs, call-sees}
use Rattle.md_engine.proofs.StayLemmas.{within-world}
use Rattle.md_registry.specs.Document.{DocumentStep, document_table_scheme}
use Rattle.md_registry.proofs.DocumentStates.{document_terminates}
use Rattle.md_events.proofs.SpacesTermination.{does-fall, does-remain, does-setting, does-valid}
use Rattle.md_flow.proofs.document.DocumentTableTable.call.Goals as goal

pub returns-clause-valid : goal.returns-clause-valid
returns-clause-valid c = λ fine.
    let w = world c.args.tokenizer.now in
    does-valid document_table_scheme c.args.name w _ _ _ (c.call_state.ensures.to fine)
    (c.call_state.ensures.world fine) (document_terminates c.args.name w c.requires.current c.requires.valid)

pub returns-clause-falls : goal.returns-clause-falls
returns-clause-falls c = λ fine.
    let w = world c.args.tokenizer.now in
    does-fall document_table_scheme c.args.name w _ _ _ (c.call_state.ensures.to fine) (c.call_state.ensures.world fine)
    (document_terminates c.args.name w c.requires.current c.requires.valid)

pub returns-clause-setting : goal.returns-clause-setting
returns-clause-setting c = λ fine.
    let w = world c.args.tokenizer.now in
    does-setting document_table_scheme c.args.name w _ _ (c.call_state.ensures.world fine)
    (document_terminates c.args.name w c.requires.current c.requires.valid)

pub returns-clause-runs : goal.returns-clause-runs
returns-clause-runs c = λ fine.
    let w = world c.args.tokenizer.now in
    call-runs DocumentStep c.args.name w _ _
    (record { to_is = c.call_state.ensures.to fine; new_is = c.call_state.ensures.world fine }) fine
    (does-setting document_table_scheme c.args.name w _ _ (c.call_state.ensures.world fine)
    (document_terminates c.args.name w c.requires.current c.requires.valid))
    (within-world c.args.tokenizer.now)

pub returns-clause-sees : goal.returns-clause-sees
returns-clause-sees c = λ fine.
    let w = world c.args.tokenizer.now in
    call-sees _ w _
    (does-remain document_table_scheme c.args.name w _ _ _ (c.call_state.ensures.to fine)
    (c.call_state.ensures.world fine) (document_terminates c.args.name w c.requires.current c.requires.valid))
    (does-setting document_table_scheme c.args.name w _ _ (c.call_state.ensures.world fine)
    (document_terminates c.args.name w c.requires.current c.requires.valid))
    c.requires.current
