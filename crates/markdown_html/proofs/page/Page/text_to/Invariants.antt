use Rattle.std.proofs.Common.{◌≤◌, ◌-◌, length}
use Rattle.markdown_html.proofs.page.Page.text_to.Given as goal

abbrev pub invariant-loop-end : goal.invariant-loop-end
invariant-loop-end l = record {
  after : l.fn.exit ≤ l.end;
  within : l.end ≤ length l.fn.list;
}

abbrev pub decreases-loop-end : goal.decreases-loop-end
decreases-loop-end l = length l.fn.list - l.end
