use Rattle.std.proofs.Common.{◌++◌, refl, rules}
use Rattle.reference_inlines.proofs.SearchedLemmas.{email-further, email-goes, emails_from, plain-email}
use Rattle.reference_inlines.proofs.emails.push_emails.Goals as goal

pub loop-byte-smaller-in-Some-email_at : goal.loop-byte-smaller-in-Some-email_at
loop-byte-smaller-in-Some-email_at c =
    email-further c.args.text.now c.loop-byte.at c.in-Some._byte.now c.in-Some._following.now c.front.result.now
    c.after-in-Some.result.now c.in-Some-email_at.found c.in-Some-email_at.found.len c.in_ok-at-in-Some-email_at.at
    (search rules) c.after-in-Some.ensures c.in-Some-email_at.ensures refl c.in_ok-at-in-Some-email_at.ensures

pub loop-byte-preserved-in-Some-email_at : goal.loop-byte-preserved-in-Some-email_at
loop-byte-preserved-in-Some-email_at c =
    email-goes c.args.text.now c.loop-byte.at c.in-Some._byte.now c.in-Some._following.now c.front.result.now
    c.after-in-Some.result.now c.in-Some-email_at.found c.literal_name.result c.in-Some-email_at.found.len
    c.in_ok-at-in-Some-email_at.at c.loop-byte.nodes.items c.push_piece.new.nodes.items
    (c.args.nodes.now.items ++ emails_from c.args.text.now c.args.start)
    (search rules) c.front.ensures c.after-in-Some.ensures c.in-Some-email_at.ensures c.literal_name.ensures refl
    c.in_ok-at-in-Some-email_at.ensures c.in_ok-push_piece-in-Some-email_at.ensures c.loop-byte.invariant

pub loop-byte-preserved : goal.loop-byte-preserved
loop-byte-preserved c =
    plain-email c.args.text.now c.loop-byte.at c.in-Some._byte.now c.in-Some._following.now c.front.result.now
    c.after-in-Some.result.now c.in_ok-at-in-None.at c.loop-byte.nodes.items c.push.new.items.items
    (c.args.nodes.now.items ++ emails_from c.args.text.now c.args.start)
    (search rules) c.front.ensures c.after-in-Some.ensures c.in-None.ensures c.in_ok-at-in-None.ensures
    c.in_ok-push-in-None.ensures c.loop-byte.invariant
