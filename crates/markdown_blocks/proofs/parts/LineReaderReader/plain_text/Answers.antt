use Rattle.std.proofs.Common.{refl}
use Rattle.markdown_blocks.proofs.parts.LineReaderReader.plain_text.Goals as goal

pub returns-clause-lines : goal.returns-clause-lines
returns-clause-lines c = λ content chunks is. (is, refl)
