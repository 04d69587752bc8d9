use Rattle.markdown_inlines.proofs.ContentLaws.{own-texts}
use Rattle.markdown_inlines.proofs.laws.parts_have_the_texts_of_their_leaves.Goals as goal

pub returns : goal.returns
returns c = own-texts
