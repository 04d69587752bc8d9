use Rattle.std.proofs.Common.{◌≢◌}
use Rattle.md_engine.specs.World.{world}
use Rattle.md_engine.specs.declared.state.raw_flow.State.TheVariants as its
use Rattle.md_engine.specs.declared.state.Name.TheVariants as n
use Rattle.md_engine.specs.declared.state.State.TheVariants.{Error}
use Rattle.md_engine.proofs.StayLemmas.{within-world}
use Rattle.md_registry.proofs.LinesAtOnce.{Proceeds, proceeds-through}
use Rattle.md_at_once.proofs.FenceLines.{befores, still-seen}
use Rattle.md_at_once.proofs.fences.rest.Goals as goal

pub chunk_done-requires : goal.chunk_done-requires
chunk_done-requires c =
    let w = world c.args.tokenizer.now in
    let u = world c.before_content_chunk-to.new.tokenizer in
    let proceeds : c.before_content_chunk-to.result ≢ Error → Proceeds (n.RawFlow its.BeforeContentChunk) w
    c.before_content_chunk-to.result u =
    befores w c.before_content_chunk-to.result u c.requires.current (within-world c.args.tokenizer.now)
    c.before_content_chunk-to.ensures.to c.before_content_chunk-to.ensures.world in
    record {
      current =
          still-seen (n.RawFlow its.BeforeContentChunk) (n.RawFlow its.ContentChunk) w u
          c.before_content_chunk-to.result (c.is_chunk.ensures c.if-is_chunk.true) proceeds;
      has = tt;
    }

pub returns-then-is_chunk : goal.returns-then-is_chunk
returns-then-is_chunk c =
    let w = world c.args.tokenizer.now in
    let u = world c.before_content_chunk-to.new.tokenizer in
    let proceeds : c.before_content_chunk-to.result ≢ Error → Proceeds (n.RawFlow its.BeforeContentChunk) w
    c.before_content_chunk-to.result u =
    befores w c.before_content_chunk-to.result u c.requires.current (within-world c.args.tokenizer.now)
    c.before_content_chunk-to.ensures.to c.before_content_chunk-to.ensures.world in
    let all = λ (fine : c.chunk_done.result ≢ Error).
    proceeds-through (n.RawFlow its.BeforeContentChunk) (n.RawFlow its.ContentChunk) w u
    c.before_content_chunk-to.result
    c.chunk_done.result (world c.chunk_done.new.tokenizer)
    c.requires.current (c.is_chunk.ensures c.if-is_chunk.true) proceeds
    (λ saw. (c.chunk_done.ensures.runs fine, c.chunk_done.ensures.sees fine)) in
    record { runs = λ fine. (all fine).0; sees = λ fine. (all fine).1; full = c.chunk_done.ensures.full }

pub returns : goal.returns
returns c =
    let w = world c.args.tokenizer.now in
    let u = world c.before_content_chunk-to.new.tokenizer in
    let proceeds : c.before_content_chunk-to.result ≢ Error → Proceeds (n.RawFlow its.BeforeContentChunk) w
    c.before_content_chunk-to.result u =
    befores w c.before_content_chunk-to.result u c.requires.current (within-world c.args.tokenizer.now)
    c.before_content_chunk-to.ensures.to c.before_content_chunk-to.ensures.world in
    record {
      runs = λ fine. (proceeds fine).0;
      sees = λ fine. (proceeds fine).1;
      full = c.before_content_chunk-to.ensures.full;
    }
