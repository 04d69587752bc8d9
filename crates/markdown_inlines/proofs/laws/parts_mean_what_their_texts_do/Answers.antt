use Rattle.markdown_inlines.proofs.AlikeLemmas.{mean-alike}
use Rattle.markdown_inlines.proofs.laws.parts_mean_what_their_texts_do.Goals as goal

pub returns : goal.returns
returns c = mean-alike
