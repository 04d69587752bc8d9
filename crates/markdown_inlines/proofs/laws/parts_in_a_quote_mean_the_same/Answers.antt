use Rattle.markdown_inlines.proofs.ContentLaws.{quoted-content}
use Rattle.markdown_inlines.proofs.laws.parts_in_a_quote_mean_the_same.Goals as goal

pub returns : goal.returns
returns c = quoted-content
