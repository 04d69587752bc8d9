use Rattle.std.proofs.Common.{◌≡◌, ◌∙◌, inr, subst, sym}
use Rattle.md_engine.specs.World.{world}
use Rattle.md_engine.specs.declared.state.State.{State}
use Rattle.md_engine.specs.declared.state.State.TheVariants.{Error, Ok}
use Rattle.md_at_once.specs.AtOnce.{EndFull, IsContinued, LineFull}
use Rattle.md_at_once.proofs.LineEnds.{accepts-on}
use Rattle.md_at_once.proofs.WantOfMemory.{end-kept, weaker}
use Rattle.md_at_once.proofs.line_ends.end.Goals as goal

pub returns-in_default : goal.returns-in_default
returns-in_default c = record {
  fine = λ fine. fine;
  is_continued = λ fine first old seen proceeds. proceeds;
  full = end-kept c.args.to c.args.tokenizer.now;
}

pub returns-in-None : goal.returns-in-None
returns-in-None c = record {
  fine = λ fine. fine;
  is_continued = λ fine first old seen proceeds. proceeds;
  full = end-kept c.args.to c.args.tokenizer.now;
}

pub returns-in-Some : goal.returns-in-Some
returns-in-Some c =
    let w = world c.args.tokenizer.now in
    let new = world c.accepted.new.tokenizer in
    record {
      fine = λ fine e. let k : Ok ≡ Error = sym c.in-Ok.is ∙ e in cc;
      is_continued = λ fine.
          subst (λ (s : State). IsContinued s w c.accepted.result new) (sym c.in-Ok.is)
          (accepts-on w c.accepted.result new (c.accepted.ensures.runs fine) (c.accepted.ensures.sees fine));
      full =
          weaker c.accepted.result (LineFull w c.accepted.new.tokenizer)
          (EndFull c.args.to c.args.tokenizer.now c.accepted.new.tokenizer) (λ full. inr (c.in-Ok.is, full))
          c.accepted.ensures.full;
    }
