use Rattle.std.proofs.Common.{◌≢◌}
use Rattle.md_engine.specs.Full.{IsFull}
use Rattle.md_engine.specs.World.{world}
use Rattle.md_engine.specs.declared.state.html_flow.State.TheVariants as its
use Rattle.md_engine.specs.declared.state.Name.TheVariants as n
use Rattle.md_engine.specs.declared.state.State.TheVariants.{Error}
use Rattle.md_engine.proofs.StayLemmas.{within-world}
use Rattle.md_registry.proofs.LinesAtOnce.{Proceeds, proceeds-through}
use Rattle.md_at_once.proofs.FenceLines.{still-seen}
use Rattle.md_at_once.proofs.HtmlLines.{blanks, blanks-want}
use Rattle.md_at_once.proofs.html_lines.further_inside.Goals as goal

pub rest_done-requires : goal.rest_done-requires
rest_done-requires c =
    let w = world c.args.tokenizer.now in
    let u = world c.blank_line_before-to.new.tokenizer in
    let proceeds : c.blank_line_before-to.result ≢ Error →
    Proceeds (n.HtmlFlow its.BlankLineBefore) w c.blank_line_before-to.result u =
    blanks w c.blank_line_before-to.result u c.requires.current (within-world c.args.tokenizer.now)
    c.blank_line_before-to.ensures.to
    c.blank_line_before-to.ensures.world in
    record {
      current =
          still-seen (n.HtmlFlow its.BlankLineBefore) (n.HtmlFlow its.ContinuationClose) w u
          c.blank_line_before-to.result
          (c.is_rest.ensures c.if-is_rest.true) proceeds;
      has = tt;
    }

pub returns-then-is_rest : goal.returns-then-is_rest
returns-then-is_rest c =
    let w = world c.args.tokenizer.now in
    let u = world c.blank_line_before-to.new.tokenizer in
    let proceeds : c.blank_line_before-to.result ≢ Error →
    Proceeds (n.HtmlFlow its.BlankLineBefore) w c.blank_line_before-to.result u =
    blanks w c.blank_line_before-to.result u c.requires.current (within-world c.args.tokenizer.now)
    c.blank_line_before-to.ensures.to
    c.blank_line_before-to.ensures.world in
    let all = λ (fine : c.rest_done.result ≢ Error).
    proceeds-through (n.HtmlFlow its.BlankLineBefore) (n.HtmlFlow its.ContinuationClose) w u
    c.blank_line_before-to.result c.rest_done.result
    (world c.rest_done.new.tokenizer) c.requires.current (c.is_rest.ensures c.if-is_rest.true) proceeds
    (λ saw. (c.rest_done.ensures.runs fine, c.rest_done.ensures.sees fine)) in
    record { runs = λ fine. (all fine).0; sees = λ fine. (all fine).1; full = c.rest_done.ensures.full }

pub returns : goal.returns
returns c =
    let w = world c.args.tokenizer.now in
    let u = world c.blank_line_before-to.new.tokenizer in
    let proceeds : c.blank_line_before-to.result ≢ Error →
    Proceeds (n.HtmlFlow its.BlankLineBefore) w c.blank_line_before-to.result u =
    blanks w c.blank_line_before-to.result u c.requires.current (within-world c.args.tokenizer.now)
    c.blank_line_before-to.ensures.to
    c.blank_line_before-to.ensures.world in
    record {
      runs = λ fine. (proceeds fine).0;
      sees = λ fine. (proceeds fine).1;
      full =
          blanks-want w c.blank_line_before-to.result (IsFull c.blank_line_before-to.new.tokenizer)
          c.blank_line_before-to.ensures.to;
    }
