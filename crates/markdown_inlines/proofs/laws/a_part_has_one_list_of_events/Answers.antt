use Rattle.markdown_inlines.proofs.LayerLemmas.{events-once}
use Rattle.markdown_inlines.proofs.laws.a_part_has_one_list_of_events.Goals as goal

pub returns : goal.returns
returns c = events-once
