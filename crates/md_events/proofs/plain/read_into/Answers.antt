use Rattle.std.proofs.Common.{arith}
use Rattle.md_events.specs.declared.inline.Chunk.{Chunk}
use Rattle.md_events.proofs.PlainSteps.{chunks-more}
use Rattle.md_events.proofs.plain.read_into.Goals as goal

-- what indexing gives past the end of a list
abbrev unset : Chunk
unset = record {
  first = record { line = 0; column = 0; index = 0; vs = 0 };
  after = record { line = 0; column = 0; index = 0; vs = 0 };
}

pub loop-chunk-preserved : goal.loop-chunk-preserved
loop-chunk-preserved c =
    let inside = c.loop-chunk-test.true in
    let wrote = c.write_chunk.ensures in
    record {
      room = omega (arith, c.loop-chunk.invariant.room, inside, wrote.len, wrote.capacity);
      events =
          chunks-more c.args.state.now.bytes.now c.args.chunks.now c.loop-chunk.chunk-index unset
          c.loop-chunk.events.items c.write_chunk.new.events.items inside c.loop-chunk.invariant.events wrote.items;
    }
