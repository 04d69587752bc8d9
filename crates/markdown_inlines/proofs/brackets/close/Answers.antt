use Rattle.std.proofs.Common.{Option, ap, sym, subst, ◌∙◌}
use Rattle.std.specs.Prelude.{IfSome, option_map}
use Rattle.std.proofs.lemmas.Result.{on_ok_weaker}
use Rattle.md_inlines.specs.Brackets as inlines
use Rattle.markdown_inlines.specs.Closed.{IsKind, pair_made}
use Rattle.markdown_inlines.specs.Reads.{ClosedAs}
use Rattle.markdown_inlines.specs.declared.brackets.Pair.{Pair}
use Rattle.markdown_inlines.proofs.brackets.close.Goals as goal

pub returns-in-None : goal.returns-in-None
returns-in-None c =
    on_ok_weaker c.end_text.result
    (λ all k.
    subst
    (λ (o : Option inlines.Pair). ClosedAs c.args.source.start c.args.bracket c.args.reading.now k o
    c.end_text.new.reading)
    (ap (option_map (pair_made c.args.source.options.now k.items c.args.inside.now c.args.following.now))
    (sym c.in-None.is)
    ∙ c.in_ok-found.ensures.value k.items) (all c.args.source.start k))
    c.end_text.ensures

pub end_pair-requires-clause-kind : goal.end_pair-requires-clause-kind
end_pair-requires-clause-kind c =
    subst (λ (o : Option Pair). IfSome o (IsKind c.args.bracket.len c.args.inside.now)) c.in-Some.is
    c.in_ok-found.ensures.kind

pub returns-in-Some : goal.returns-in-Some
returns-in-Some c =
    on_ok_weaker c.end_pair.result
    (λ all k.
    subst
    (λ (o : Option inlines.Pair). ClosedAs c.args.source.start c.args.bracket c.args.reading.now k o
    c.end_pair.new.reading)
    (ap (option_map (pair_made c.args.source.options.now k.items c.args.inside.now c.args.following.now))
    (sym c.in-Some.is)
    ∙ c.in_ok-found.ensures.value k.items) (all k))
    c.end_pair.ensures
