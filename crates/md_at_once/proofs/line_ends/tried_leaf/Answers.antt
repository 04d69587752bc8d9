use Rattle.std.proofs.Common.{◌≡◌, ◌-◌, Some, length, slice_get, sym}
use Rattle.md_at_once.proofs.LineEnds.{innermost-tried}
use Rattle.md_at_once.proofs.line_ends.tried_leaf.Goals as goal

pub returns-else-frame : goal.returns-else-frame
returns-else-frame c =
    let fs = c.args.tokenizer.now.frames.items in
    let got : slice_get fs (length fs - 1) ≡ Some c.in-Some.frame.now =
    rw c.deref.ensures.value at (sym c.in-Some.ensures.value) in
    innermost-tried c.args.tokenizer.now c.in-Some.frame.now c.following_leaf.result got c.if-frame.false
    c.following_leaf.ensures
