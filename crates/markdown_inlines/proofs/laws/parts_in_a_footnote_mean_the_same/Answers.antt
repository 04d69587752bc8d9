use Rattle.markdown_inlines.proofs.ContentLaws.{footnoted-content}
use Rattle.markdown_inlines.proofs.laws.parts_in_a_footnote_mean_the_same.Goals as goal

pub returns : goal.returns
returns c = footnoted-content
