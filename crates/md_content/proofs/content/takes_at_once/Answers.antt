use Rattle.md_content.proofs.StaysLemmas.{chunk-takes}
use Rattle.md_content.proofs.content.takes_at_once.Goals as goal

pub returns-in-ChunkInside : goal.returns-in-ChunkInside
returns-in-ChunkInside c = rw c.in-ChunkInside.is chunk-takes
