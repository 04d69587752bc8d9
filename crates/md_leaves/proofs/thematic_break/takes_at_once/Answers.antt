use Rattle.std.proofs.Common.{◌≡◌, ◌-◌, ◌^◌, Bool, true, false, ◌&&◌, nat_eq, nat_lt, refl, ap, ◌∙◌}
use Rattle.md_engine.specs.declared.state.Name.TheVariants as n
use Rattle.md_engine.specs.declared.state.thematic_break.State.TheVariants as its
use Rattle.md_engine.specs.declared.stay.Stay.TheVariants.{Markers}
use Rattle.md_leaves.specs.Break.{break_transition, one_run_code, sequence_code}
use Rattle.md_events.specs.Spaces.{is_current, sees_white}
use Rattle.md_events.specs.Stays.{TakesEach}
use Rattle.md_leaves.proofs.thematic_break.takes_at_once.Goals as goal

-- what is taken is the marker
is-marker : (x y : Bool) → x && y ≡ true → x ≡ true
is-marker true y k = refl
is-marker false y k = cc

-- a run of markers is taken and counted
sequence-takes : TakesEach Markers (n.ThematicBreak its.Sequence) (break_transition its.Sequence)
sequence-takes w b e h =
    ap (λ (x : Bool). sequence_code w x (sees_white w.current))
    (ap (is_current w.scratch.marker) e ∙ is-marker (nat_eq b w.scratch.marker) (nat_lt w.scratch.size (2 ^ 64 - 1)) h)

-- the first run too
one_run-takes : TakesEach Markers (n.ThematicBreak its.OneRun) (break_transition its.OneRun)
one_run-takes w b e h =
    ap (λ (x : Bool). one_run_code w x (sees_white w.current))
    (ap (is_current w.scratch.marker) e ∙ is-marker (nat_eq b w.scratch.marker) (nat_lt w.scratch.size (2 ^ 64 - 1)) h)

pub returns-in-Sequence : goal.returns-in-Sequence
returns-in-Sequence c = rw c.in-Sequence.is sequence-takes

pub returns-in-OneRun : goal.returns-in-OneRun
returns-in-OneRun c = rw c.in-OneRun.is one_run-takes
