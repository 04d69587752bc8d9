use Rattle.reference_inlines.proofs.LayerLemmas.{defined-keep}
use Rattle.reference_inlines.proofs.defined_events_keep_the_promise.Goals as goal

pub returns : goal.returns
returns c = defined-keep
