use Rattle.std.proofs.Common.{◌≢◌}
use Rattle.md_engine.specs.World.{world}
use Rattle.md_engine.specs.declared.state.raw_flow.State.TheVariants as its
use Rattle.md_engine.specs.declared.state.Name.TheVariants as n
use Rattle.md_engine.specs.declared.state.State.TheVariants.{Error}
use Rattle.md_engine.proofs.StayLemmas.{within-world}
use Rattle.md_registry.proofs.LinesAtOnce.{Proceeds, proceeds-through}
use Rattle.md_at_once.proofs.FenceLines.{befores, still-seen}
use Rattle.md_at_once.proofs.fences.chunk_done.Goals as goal

pub before_content_chunk-requires : goal.before_content_chunk-requires
before_content_chunk-requires c =
    let w = world c.args.tokenizer.now in
    let u = world c.chunk-to.new.tokenizer in
    let proceeds : c.chunk-to.result ≢ Error → Proceeds (n.RawFlow its.ContentChunk) w c.chunk-to.result u =
    λ fine. (c.chunk-to.ensures.runs fine, c.chunk-to.ensures.sees fine) in
    record {
      current =
          still-seen (n.RawFlow its.ContentChunk) (n.RawFlow its.BeforeContentChunk) w u c.chunk-to.result
          (c.is_rest.ensures c.if-is_rest.true) proceeds;
      has = tt;
    }

pub returns-then-is_rest : goal.returns-then-is_rest
returns-then-is_rest c =
    let w = world c.args.tokenizer.now in
    let u = world c.chunk-to.new.tokenizer in
    let proceeds : c.chunk-to.result ≢ Error → Proceeds (n.RawFlow its.ContentChunk) w c.chunk-to.result u =
    λ fine. (c.chunk-to.ensures.runs fine, c.chunk-to.ensures.sees fine) in
    let all = λ (fine : c.before_content_chunk.result ≢ Error).
    proceeds-through (n.RawFlow its.ContentChunk) (n.RawFlow its.BeforeContentChunk) w u c.chunk-to.result
    c.before_content_chunk.result (world c.before_content_chunk.new.tokenizer)
    c.requires.current (c.is_rest.ensures c.if-is_rest.true) proceeds
    (λ saw. befores u c.before_content_chunk.result (world c.before_content_chunk.new.tokenizer) saw (within-world
    c.chunk-to.new.tokenizer)
    c.before_content_chunk.ensures.to c.before_content_chunk.ensures.world fine) in
    record { runs = λ fine. (all fine).0; sees = λ fine. (all fine).1; full = c.before_content_chunk.ensures.full }

pub returns : goal.returns
returns c =
    let w = world c.args.tokenizer.now in
    let u = world c.chunk-to.new.tokenizer in
    let proceeds : c.chunk-to.result ≢ Error → Proceeds (n.RawFlow its.ContentChunk) w c.chunk-to.result u =
    λ fine. (c.chunk-to.ensures.runs fine, c.chunk-to.ensures.sees fine) in
    record { runs = λ fine. (proceeds fine).0; sees = λ fine. (proceeds fine).1; full = c.chunk-to.ensures.full }
