use Rattle.std.proofs.Common.{◌≢◌}
use Rattle.md_engine.specs.World.{world}
use Rattle.md_engine.specs.declared.state.raw_flow.State.TheVariants as its
use Rattle.md_engine.specs.declared.state.Name.TheVariants as n
use Rattle.md_engine.specs.declared.state.State.TheVariants.{Error}
use Rattle.md_engine.proofs.StayLemmas.{within-world}
use Rattle.md_registry.proofs.LinesAtOnce.{Proceeds, proceeds-through}
use Rattle.md_at_once.proofs.FenceLines.{starts, still-seen}
use Rattle.md_at_once.proofs.fences.taken.Goals as goal

pub rest-requires : goal.rest-requires
rest-requires c =
    let w = world c.args.tokenizer.now in
    let u = world c.content_start-to.new.tokenizer in
    let proceeds : c.content_start-to.result ≢ Error → Proceeds (n.RawFlow its.ContentStart) w
    c.content_start-to.result u =
    starts w c.content_start-to.result u c.requires.current (within-world c.args.tokenizer.now)
    c.content_start-to.ensures.to c.content_start-to.ensures.world in
    record {
      current =
          still-seen (n.RawFlow its.ContentStart) (n.RawFlow its.BeforeContentChunk) w u c.content_start-to.result
          (c.is_rest.ensures c.if-is_rest.true) proceeds;
      has = tt;
    }

pub returns-then-is_rest : goal.returns-then-is_rest
returns-then-is_rest c =
    let w = world c.args.tokenizer.now in
    let u = world c.content_start-to.new.tokenizer in
    let proceeds : c.content_start-to.result ≢ Error → Proceeds (n.RawFlow its.ContentStart) w
    c.content_start-to.result u =
    starts w c.content_start-to.result u c.requires.current (within-world c.args.tokenizer.now)
    c.content_start-to.ensures.to c.content_start-to.ensures.world in
    let all = λ (fine : c.rest.result ≢ Error).
    proceeds-through (n.RawFlow its.ContentStart) (n.RawFlow its.BeforeContentChunk) w u c.content_start-to.result
    c.rest.result (world c.rest.new.tokenizer)
    c.requires.current (c.is_rest.ensures c.if-is_rest.true) proceeds
    (λ saw. (c.rest.ensures.runs fine, c.rest.ensures.sees fine)) in
    record { runs = λ fine. (all fine).0; sees = λ fine. (all fine).1; full = c.rest.ensures.full }

pub returns : goal.returns
returns c =
    let w = world c.args.tokenizer.now in
    let u = world c.content_start-to.new.tokenizer in
    let proceeds : c.content_start-to.result ≢ Error → Proceeds (n.RawFlow its.ContentStart) w
    c.content_start-to.result u =
    starts w c.content_start-to.result u c.requires.current (within-world c.args.tokenizer.now)
    c.content_start-to.ensures.to c.content_start-to.ensures.world in
    record {
      runs = λ fine. (proceeds fine).0;
      sees = λ fine. (proceeds fine).1;
      full = c.content_start-to.ensures.full;
    }
