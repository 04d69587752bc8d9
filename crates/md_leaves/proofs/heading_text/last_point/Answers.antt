use Rattle.std.proofs.Common.{◌≡◌, ◌-◌, Some, length, sym}
use Rattle.std.specs.Prelude.{slice_get}
use Rattle.md_engine.specs.Place.{first_point}
use Rattle.md_leaves.proofs.TextBegun.{last-got}
use Rattle.md_leaves.proofs.heading_text.last_point.Goals as goal

pub returns-in-Some : goal.returns-in-Some
returns-in-Some c =
    let es = c.args.tokenizer.now.events.items in
    let got : slice_get es (length es - 1) ≡ Some c.in-Some.event.now =
    rw c.deref.ensures.value at (sym c.in-Some.ensures.value) in
    sym (last-got es first_point c.in-Some.event.now got)
