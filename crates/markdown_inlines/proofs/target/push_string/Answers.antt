use Rattle.std.proofs.Common.{rules}
use Rattle.markdown_inlines.proofs.LeadingLemmas.{string-done, string-goes, string-shorter}
use Rattle.markdown_inlines.proofs.target.push_string.Goals as goal

pub loop-byte-smaller-in-Some-string_atom : goal.loop-byte-smaller-in-Some-string_atom
loop-byte-smaller-in-Some-string_atom c =
    string-shorter c.args.options.now c.loop-byte.rest.now c.after-rest.result.now c.in-Some._byte.now
    c.in-Some.following.now c.in-Some-string_atom.atom c.loop-byte.here c.in_ok-end-in-Some-string_atom.end
    c.saturating_sub.result
    (search rules) c.in-Some-string_atom.ensures c.in_ok-end-in-Some-string_atom.ensures.end (search rules)
    c.after-rest.ensures

pub loop-byte-preserved-in-Some-string_atom : goal.loop-byte-preserved-in-Some-string_atom
loop-byte-preserved-in-Some-string_atom c =
    string-goes c.args.options.now c.args.at c.args.spans.now.items c.args.text.now c.loop-byte.here
    c.in_ok-end-in-Some-string_atom.end
    c.saturating_sub.result c.loop-byte.spans.items c.push_atom.new.spans.items c.loop-byte.rest.now
    c.after-rest.result.now c.in-Some._byte.now c.in-Some.following.now c.in-Some-string_atom.atom (search rules)
    c.in-Some-string_atom.ensures c.in_ok-end-in-Some-string_atom.ensures.spans
    c.in_ok-end-in-Some-string_atom.ensures.end (search rules)
    c.after-rest.ensures c.loop-byte.invariant

pub returns : goal.returns
returns c =
    string-done c.args.options.now c.args.at c.args.spans.now.items c.args.text.now c.loop-byte.here
    c.loop-byte.spans.items c.loop-byte.rest.now c.in_default.ensures.cases c.loop-byte.invariant
