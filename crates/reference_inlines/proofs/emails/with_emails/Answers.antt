use Rattle.std.proofs.Common.{rules}
use Rattle.reference_inlines.specs.Searched.{searched}
use Rattle.reference_inlines.proofs.SearchedLemmas.{search-goes}
use Rattle.reference_inlines.proofs.emails.with_emails.Goals as goal

pub loop-node-preserved : goal.loop-node-preserved
loop-node-preserved c =
    search-goes c.args.text.now c.loop-node.hidden c.loop-node.at c.in-Some.node.now c.loop-node.rest.now
    c.in-Some.following.now c.in_ok-hidden.hidden c.in_ok-at.at c.loop-node.made.items c.push_searched.new.nodes.items
    (searched c.args.text.now 0 c.args.start c.args.nodes.now) (search rules) c.in_ok-push_searched.ensures
    c.in_ok-at.ensures c.in_ok-hidden.ensures c.loop-node.invariant
