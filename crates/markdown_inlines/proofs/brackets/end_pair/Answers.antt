use Rattle.std.proofs.Common.{◌-◌, Some, length, sym, subst}
use Rattle.std.proofs.lemmas.Result.{on_ok_weaker}
use Rattle.markdown_inlines.specs.Closed.{IsKind, pair_made}
use Rattle.markdown_inlines.specs.Reads.{ClosedAs}
use Rattle.markdown_inlines.specs.declared.brackets.Pair.{Pair}
use Rattle.markdown_inlines.proofs.ClosedLemmas.{call-at, first-is}
use Rattle.markdown_inlines.proofs.brackets.end_pair.Goals as goal

pub returns-in-Call : goal.returns-in-Call
returns-in-Call c =
    on_ok_weaker c.end_call.result
    (λ all k.
    subst
    (λ (x : Pair). ClosedAs c.args.source.start c.args.bracket c.args.reading.now k
    (Some (pair_made c.args.source.options.now k.items c.args.inside.now c.args.following.now x))
    c.end_call.new.reading) (sym c.in-Call.is)
    (all k (length c.args.inside.now - 1)
    (call-at c.args.source.start c.args.bracket c.args.reading.now c.args.inside.now k
    (subst (IsKind c.args.bracket.len c.args.inside.now) c.in-Call.is c.requires.kind) c.requires.inside)))
    c.end_call.ensures

pub end_leading-requires-clause-len : goal.end_leading-requires-clause-len
end_leading-requires-clause-len c =
    first-is c.args.bracket.len c.args.inside.now c.in-Leading.is_link c.in-Leading.target
    c.requires.closing.len.0 c.requires.closing.len.1
    (subst (IsKind c.args.bracket.len c.args.inside.now) c.in-Leading.is c.requires.kind)

pub returns-in-Leading : goal.returns-in-Leading
returns-in-Leading c =
    on_ok_weaker c.end_leading.result
    (λ all k.
    subst
    (λ (x : Pair). ClosedAs c.args.source.start c.args.bracket c.args.reading.now k
    (Some (pair_made c.args.source.options.now k.items c.args.inside.now c.args.following.now x))
    c.end_leading.new.reading) (sym c.in-Leading.is) (all k))
    c.end_leading.ensures
