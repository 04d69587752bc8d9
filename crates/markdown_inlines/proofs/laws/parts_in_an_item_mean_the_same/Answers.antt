use Rattle.markdown_inlines.proofs.ContentLaws.{itemised-content}
use Rattle.markdown_inlines.proofs.laws.parts_in_an_item_mean_the_same.Goals as goal

pub returns : goal.returns
returns c = itemised-content
