use Rattle.std.proofs.Common.{◌++◌, ap, ◌∙◌, rules}
use Rattle.reference_inlines.specs.Found.{atom_forest}
use Rattle.reference_inlines.specs.Nodes.{len_of_all}
use Rattle.reference_inlines.proofs.ContentLemmas.{found-shorter, plain-goes, string-goes}
use Rattle.reference_inlines.proofs.target.string_parts.Goals as goal

pub loop-byte-smaller-in-Some-string_atom : goal.loop-byte-smaller-in-Some-string_atom
loop-byte-smaller-in-Some-string_atom c =
    found-shorter c.args.options.now c.loop-byte.rest.now c.after-rest.result.now c.in-Some._byte.now
    c.in-Some.following.now (atom_forest c.in-Some-string_atom.atom)
    c.in_ok-found-in-Some-string_atom.found.items c.in_ok-len-in-Some-string_atom.len (search rules)
    c.in-Some-string_atom.ensures c.in_ok-found-in-Some-string_atom.ensures
    (c.in_ok-len-in-Some-string_atom.ensures ∙ ap len_of_all c.deref.ensures.value) c.after-rest.ensures

pub loop-byte-preserved-in-Some-string_atom : goal.loop-byte-preserved-in-Some-string_atom
loop-byte-preserved-in-Some-string_atom c =
    string-goes c.args.options.now c.args.text.now c.loop-byte.rest.now c.after-rest.result.now c.loop-byte.made.items
    c.in_ok-found-in-Some-string_atom.found.items c.push_nodes.new.nodes.items c.in-Some._byte.now
    c.in-Some.following.now (atom_forest c.in-Some-string_atom.atom) c.in_ok-len-in-Some-string_atom.len
    (search rules) c.in-Some-string_atom.ensures c.in_ok-found-in-Some-string_atom.ensures
    (c.in_ok-len-in-Some-string_atom.ensures ∙ ap len_of_all c.deref.ensures.value) c.after-rest.ensures
    (c.in_ok-push_nodes-in-Some-string_atom.ensures
    ∙ ap (λ l. c.loop-byte.made.items ++ l) c.deref-in-Some-string_atom.ensures.value)
    c.loop-byte.invariant

pub loop-byte-preserved : goal.loop-byte-preserved
loop-byte-preserved c =
    plain-goes c.args.options.now c.args.text.now c.loop-byte.rest.now c.loop-byte.made.items c.push.new.items.items
    c.in-Some._byte.now c.in-Some.following.now (search rules) c.in-None.ensures c.in_ok-push-in-None.ensures
    c.loop-byte.invariant
