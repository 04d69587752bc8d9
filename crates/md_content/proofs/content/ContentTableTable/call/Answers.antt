use Rattle.std.proofs.Common.{◌≢◌, ap, subst, sym}
use Rattle.md_engine.specs.declared.state.Name.{Name as StateName}
use Rattle.md_engine.specs.declared.state.Name.TheVariants as n
use Rattle.md_engine.specs.declared.state.State.{State}
use Rattle.md_engine.specs.declared.state.State.TheVariants.{Error}
use Rattle.md_engine.specs.Run.{RunsHere}
use Rattle.md_engine.specs.World.{World, world}
use Rattle.md_engine.proofs.Loops.{call-runs, call-sees}
use Rattle.md_engine.proofs.StayLemmas.{within-world}
use Rattle.md_engine.proofs.Walks.{here-keeps, runs-in}
use Rattle.md_content.specs.States.{ContentStep, content_scheme, content_transition}
use Rattle.md_content.proofs.States.{content-keeps, content_terminates}
use Rattle.md_events.specs.Spaces.{WhiteStep}
use Rattle.md_events.specs.Transition.{Transition}
use Rattle.md_events.proofs.SpacesTermination.{does-remain, does-setting}
use Rattle.md_content.proofs.content.ContentTableTable.call.Goals as goal

-- what whitespace does, it does in the table
white-steps : (name : StateName) (w : World) (to : State) (new : World) → WhiteStep name w to new →
    ContentStep name w to new
white-steps (n.SpaceOrTab state) w to new e = record {
  to_is = sym (ap (λ (a : Transition). a.to) e);
  new_is = sym (ap (λ (a : Transition). a.world) e);
}
white-steps name w to new e = absurd e

pub returns-in-SpaceOrTab : goal.returns-in-SpaceOrTab
returns-in-SpaceOrTab c =
    let w = world c.args.tokenizer.now in
    let w' = world c.call_at_once.new.tokenizer in
    let runs : c.call_at_once.result ≢ Error → RunsHere ContentStep c.args.name w c.call_at_once.result w' =
    λ fine. subst (λ (x : StateName). RunsHere ContentStep x w c.call_at_once.result w') (sym c.in-SpaceOrTab.is)
    (λ is_end s v named sees may.
    runs-in WhiteStep ContentStep is_end s v c.call_at_once.result w' white-steps
    (c.call_at_once.ensures.runs fine is_end s v named sees may)) in
    let kept = λ (fine : c.call_at_once.result ≢ Error).
    here-keeps ContentStep content_scheme c.args.name w c.call_at_once.result w' content-keeps c.requires.current
    c.requires.valid (runs fine) in
    record {
      runs = runs;
      valid = λ fine. (kept fine).0;
      falls = λ fine. (kept fine).1;
      setting = λ fine. (kept fine).2;
      sees = c.call_at_once.ensures.sees;
    }

pub returns-in_default : goal.returns-in_default
returns-in_default c =
    let w = world c.args.tokenizer.now in
    let w' = world c.call_state.new.tokenizer in
    let same = λ (fine : c.call_state.result ≢ Error).
    does-setting content_scheme c.args.name w (content_transition c.args.name w) w' (c.call_state.ensures.world fine)
    (content_terminates c.args.name w c.requires.current c.requires.valid) in
    let step : c.call_state.result ≢ Error → ContentStep c.args.name w c.call_state.result w' = λ fine.
    record { to_is = c.call_state.ensures.to fine; new_is = c.call_state.ensures.world fine } in
    record {
      runs = λ fine.
          call-runs ContentStep c.args.name w c.call_state.result w' (step fine) fine (same fine)
          (within-world c.args.tokenizer.now);
      valid = λ fine.
          (content-keeps c.args.name w c.call_state.result w' c.requires.current c.requires.valid (step fine)).0;
      falls = λ fine.
          (content-keeps c.args.name w c.call_state.result w' c.requires.current c.requires.valid (step fine)).1;
      setting = same;
      sees = λ fine.
          call-sees c.call_state.result w w'
          (does-remain content_scheme c.args.name w (content_transition c.args.name w) c.call_state.result w'
          (c.call_state.ensures.to fine) (c.call_state.ensures.world fine)
          (content_terminates c.args.name w c.requires.current c.requires.valid)) (same fine) c.requires.current;
    }
