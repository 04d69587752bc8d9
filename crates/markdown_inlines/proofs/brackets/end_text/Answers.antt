use Rattle.std.proofs.Common.{refl}
use Rattle.markdown_inlines.proofs.ClosedLemmas.{text-closed}
use Rattle.markdown_inlines.proofs.brackets.end_text.Goals as goal

pub returns : goal.returns
returns c start k =
    text-closed start c.args.bracket c.args.reading.now _ k refl refl refl c.in_ok-reading.ensures
    c.either-reading.ensures
