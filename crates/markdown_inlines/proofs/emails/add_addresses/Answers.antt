use Rattle.std.proofs.Common.{rules, sym, ◌∙◌, take, drop}
use Rattle.std.proofs.lemmas.Result.{on_ok_weaker}
use Rattle.markdown_inlines.proofs.AddedLemmas.{address-further, address-goes}
use Rattle.markdown_inlines.proofs.AtSignLemmas.{plain-added}
use Rattle.markdown_inlines.proofs.emails.add_addresses.Goals as goal

pub loop-byte-smaller : goal.loop-byte-smaller
loop-byte-smaller c =
    address-further c.args.text.now c.loop-byte.at c.in-Some._byte.now c.in-Some._following.now c.front.result.now
    c.after-in-Some.result.now c.first_token-token.result c.in_ok-at.at (search rules) c.front.ensures
    c.after-in-Some.ensures c.first_token-token.ensures c.in_ok-at.ensures

pub loop-byte-preserved : goal.loop-byte-preserved
loop-byte-preserved c =
    address-goes c.args.text.now c.loop-byte.at c.in-Some._byte.now c.in-Some._following.now c.front.result.now
    c.after-in-Some.result.now c.first_token-token.result c.in_ok-at.at c.args.joined.now c.loop-byte.joined
    c.add-in-Some.new.joined c.args.start (search rules) c.front.ensures c.after-in-Some.ensures c.first_token-token.ensures
    c.in_ok-at.ensures c.in_ok-add.ensures c.loop-byte.invariant

pub returns-then-not-has_at_sign : goal.returns-then-not-has_at_sign
returns-then-not-has_at_sign c =
    on_ok_weaker c.add.result
    (plain-added (take c.args.start c.args.text.now) (drop c.args.start c.args.text.now) c.after-rest.result.now
    c.args.joined.now c.add.new.joined c.after-rest.ensures
    (sym c.has_at_sign.ensures ∙ c.if-not-has_at_sign.true))
    c.add.ensures
