use Rattle.examples_marks.specs.References.{forms_of}
use Rattle.examples_marks.proofs.ReferenceLemmas.{listed_first}
use Rattle.examples_marks.proofs.label.is_listed.Goals as goal

pub returns : goal.returns
returns c =
    let first = listed_first (forms_of c.args.labels.now) c.args.form.now in
    cc
