use Rattle.std.proofs.Common.{◌≡◌, false, take, drop}
use Rattle.md_meaning.specs.Containers.{footnote_label}
use Rattle.reference_tree.proofs.LabelLemmas.{label_following}
use Rattle.reference_tree.proofs.containers.label_len.Given as goal

abbrev pub invariant-loop-index : goal.invariant-loop-index
invariant-loop-index l =
    footnote_label false l.bytes ≡ label_following (take l.index l.bytes)
    (footnote_label l.escaped (drop l.index l.bytes))
