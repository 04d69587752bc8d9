use Rattle.std.proofs.Common.{◌≡◌, [], drop}
use Rattle.md_engine.specs.World.{fresh, world}
use Rattle.md_content.specs.ContentReads.{first_of, skipping_all}
use Rattle.md_events.specs.Spaces.{IsRest}
use Rattle.md_content.proofs.content.ContentReader.read_by_states.Given as goal

abbrev pub invariant-loop-chunk : goal.invariant-loop-chunk
invariant-loop-chunk l = record {
  bytes : (world l.tokenizer).setting.bytes ≡ l.self.bytes.now;
  scratch : IsRest (world l.tokenizer).scratch;
  frames : (world l.tokenizer).frames ≡ [];
  skips : skipping_all (world l.tokenizer) (drop l.chunk-index l.chunks) ≡
      skipping_all (fresh l.self.bytes.now l.self.options.now (first_of l.chunks)) l.chunks;
}
