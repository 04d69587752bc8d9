use Rattle.proof_inlines.proofs.Promise.{content-of}
use Rattle.reference_inlines.proofs.content_is_over_its_text.Goals as goal

pub returns : goal.returns
returns c = content-of
