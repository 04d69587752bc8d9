use Rattle.std.proofs.Common.{sym, ◌∙◌, ap}
use Rattle.md_meaning.specs.Rest as r
use Rattle.reference_tree.specs.Rests.{rest_meaning}
use Rattle.reference_tree.proofs.LineLemmas.{quote_taken-some}
use Rattle.reference_tree.proofs.containers.quote_taken.Goals as goal

pub returns : goal.returns
returns c =
    quote_taken-some c.args.options.now c.args.kind (rest_meaning c.args.rest.now)
    (rest_meaning c.after_indent-marker.result) (rest_meaning c.lose.result)
    (sym c.has_small_indent.ensures ∙ c.if-not-has_small_indent.false) c.after_indent-marker.ensures
    (sym c.begins_with.ensures ∙ c.if-not-begins_with.false)
    (c.lose.ensures ∙ ap (r.lose 1) c.following.ensures)
