use Rattle.std.proofs.Common.{◌++◌, drop, ap, ◌∙◌, rules}
use Rattle.plain_inlines.specs.PrintedNodes.{printed_nodes}
use Rattle.plain_inlines.proofs.PrintedLemmas.{nodes-go}
use Rattle.plain_inlines.proofs.printed.push_nodes.Goals as goal

pub loop-node-preserved : goal.loop-node-preserved
loop-node-preserved c =
    nodes-go c.loop-node.depth c.loop-node.left.now c.in-Some.node.now c.loop-node.rest.now c.in-Some.following.now
    c.in_ok-depth.depth c.after-left.result.now c.loop-node.made.items c.push_node.new.made.items
    (c.args.made.now.items ++ printed_nodes 0 c.args.text.now c.args.list.now) (search rules)
    c.in_ok-push_node.ensures c.in_ok-depth.ensures
    (c.after-left.ensures ∙ ap (λ k. drop k c.loop-node.left.now) c.len_of.ensures) c.loop-node.invariant
