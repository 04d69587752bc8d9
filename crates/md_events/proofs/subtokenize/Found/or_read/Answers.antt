use Rattle.std.proofs.Common.{arith}
use Rattle.md_events.proofs.SubstitutedLemmas.{chunks-placed}
use Rattle.md_events.proofs.subtokenize.Found.or_read.Goals as goal

pub read-requires-clause-chunks : goal.read-requires-clause-chunks
read-requires-clause-chunks g c =
    rw (c.deref.ensures.value, c.in_ok-list_chunks.ensures)
    (chunks-placed (g.R.Reader.text c.args.reader.now)
    (g.R.Reader.wants c.args.reader.now) c.args.events.now c.requires.placed c.requires.within)

pub read-requires-clause-asked : goal.read-requires-clause-asked
read-requires-clause-asked g c = rw (c.deref.ensures.value, c.in_ok-list_chunks.ensures)
    (c.requires.asked (omega arith))
