use Rattle.std.proofs.Common.{rules}
use Rattle.markdown_inlines.specs.Found.{atom_forest}
use Rattle.markdown_inlines.proofs.StringTokens.{found-shorter, listed-all, listed-found, listed-plain}
use Rattle.markdown_inlines.proofs.strings.string_tokens.Goals as goal

pub loop-byte-smaller-in-Some-string_atom : goal.loop-byte-smaller-in-Some-string_atom
loop-byte-smaller-in-Some-string_atom c =
    found-shorter c.args.options.now c.loop-byte.rest.now c.after-rest.result.now c.in-Some._byte.now
    c.in-Some.following.now (atom_forest c.in-Some-string_atom.atom) c.in_ok-len-in-Some-string_atom.len
    (search rules) c.in-Some-string_atom.ensures c.in_ok-len-in-Some-string_atom.ensures.len c.after-rest.ensures

pub loop-byte-preserved-in-Some-string_atom : goal.loop-byte-preserved-in-Some-string_atom
loop-byte-preserved-in-Some-string_atom c =
    listed-found c.args.options.now c.args.text.now c.loop-byte.made.items c.push.new.items.items
    c.push_string_atom.new.tokens.items c.loop-byte.plain c.in_ok-len-in-Some-string_atom.len c.loop-byte.rest.now
    c.after-rest.result.now c.in-Some._byte.now c.in-Some.following.now (atom_forest c.in-Some-string_atom.atom)
    (search rules) c.in-Some-string_atom.ensures c.in_ok-push-in-Some-string_atom.ensures
    c.in_ok-len-in-Some-string_atom.ensures.tokens c.in_ok-len-in-Some-string_atom.ensures.len c.after-rest.ensures
    c.loop-byte.invariant

pub loop-byte-preserved : goal.loop-byte-preserved
loop-byte-preserved c =
    listed-plain c.args.options.now c.args.text.now c.loop-byte.made.items c.loop-byte.plain c.in_ok-plain-in-None.plain
    c.loop-byte.rest.now c.in-Some._byte.now c.in-Some.following.now (search rules) c.in-None.ensures
    (search rules) c.loop-byte.invariant

pub returns : goal.returns
returns c =
    listed-all c.args.options.now c.args.text.now c.loop-byte.made.items c.push-2.new.items.items c.loop-byte.plain
    c.loop-byte.rest.now c.in_default.ensures.cases (search rules) c.loop-byte.invariant
