use Rattle.std.proofs.Common.{◌≡◌, ◌≢◌, ◌<◌, ◌∙◌, inr, refl, subst, sym}
use Rattle.md_engine.specs.Run.{RunsHere}
use Rattle.md_engine.specs.World.{World, looks, world}
use Rattle.md_engine.specs.declared.state.html_flow.State.TheVariants as its
use Rattle.md_engine.specs.declared.state.Name.TheVariants as n
use Rattle.md_engine.specs.declared.state.State.TheVariants.{Error, Next}
use Rattle.md_engine.proofs.Loops.{ArrivedHere}
use Rattle.md_engine.proofs.StayLemmas.{within-world}
use Rattle.md_events.specs.Spaces.{ends_line}
use Rattle.md_registry.specs.States.{FlowStep}
use Rattle.md_registry.proofs.LinesAtOnce.{ends-following, leaves-once}
use Rattle.md_at_once.proofs.HtmlLines.{close-leaves, close-takes}
use Rattle.md_at_once.proofs.LineEnds.{line-taken, line-waits}
use Rattle.md_events.proofs.SpacesTermination.{inside-line}
use Rattle.md_leaves.proofs.HeadingCalls.{ahead}
use Rattle.md_at_once.proofs.html_lines.rest.Goals as goal

pub returns-then-ends_line : goal.returns-then-ends_line
returns-then-ends_line c =
    let w = world c.args.tokenizer.now in
    let all = λ (fine : c.continuation_close.result ≢ Error).
    leaves-once (n.HtmlFlow its.ContinuationClose) w c.continuation_close.result
    (world c.continuation_close.new.tokenizer)
    (close-leaves w (ends_line w.current)) (c.continuation_close.ensures.state.to fine)
    (c.continuation_close.ensures.state.world fine) fine
    c.requires.current (within-world c.args.tokenizer.now) in
    record { runs = λ fine. (all fine).0; sees = λ fine. (all fine).1; full = c.continuation_close.ensures.state.full }

pub returns-then-see_or_wait : goal.returns-then-see_or_wait
returns-then-see_or_wait c =
    let name = n.HtmlFlow its.ContinuationClose in
    let w = world c.args.tokenizer.now in
    record {
      runs = λ fine.
          subst (λ (x : World). RunsHere FlowStep name w (Next name) x) (sym (c.if-see_or_wait.ensures.same refl))
          (line-waits name w (world c.see_line.new.self) close-takes c.requires.current
          (within-world c.args.tokenizer.now)
          c.see_line.ensures (inside-line w c.requires.current (sym c.ends_line.ensures ∙ c.if-ends_line.false))
          (c.if-see_or_wait.ensures.waits refl).1);
      sees = λ fine. tt;
      full = tt;
    }

pub returns : goal.returns
returns c =
    let name = n.HtmlFlow its.ContinuationClose in
    let w = world c.args.tokenizer.now in
    let v = world c.see_or_wait.new.self in
    let sees = c.if-see_or_wait.ensures.sees refl in
    let lt = ahead (c.if-see_or_wait.ensures.is_continued refl) in
    let arrived : ArrivedHere FlowStep name w name v =
    subst (λ (x : World). ArrivedHere FlowStep name w name x) (sym sees)
    (line-taken name w (world c.see_line.new.self) close-takes c.requires.current (within-world c.args.tokenizer.now)
    c.see_line.ensures lt) in
    let all = λ (fine : c.continuation_close-2.result ≢ Error).
    ends-following name name w v c.continuation_close-2.result
    (world c.continuation_close-2.new.tokenizer) arrived (close-leaves v (ends_line v.current))
    (c.continuation_close-2.ensures.state.to fine) (c.continuation_close-2.ensures.state.world fine) fine
    (subst (λ (x : World). x.current ≡ looks x) (sym sees) refl) (within-world c.see_or_wait.new.self)
    (inr (subst (λ (x : World). x.point.index < x.setting.limit) (sym sees) lt)) in
    record {
      runs = λ fine. (all fine).0;
      sees = λ fine. (all fine).1;
      full = c.continuation_close-2.ensures.state.full;
    }
