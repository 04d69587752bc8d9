use Rattle.std.proofs.Common.{List, [], length, sym, subst, ◌∙◌, arith}
use Rattle.std.proofs.lemmas.List.{with_items_is}
use Rattle.markdown_inlines.specs.declared.attention.PlacedRun.{PlacedRun}
use Rattle.markdown_inlines.specs.declared.span.Span.{Span}
use Rattle.markdown_inlines.specs.Closed.{level_forest}
use Rattle.markdown_inlines.specs.Filled.{Filled, Placed, Shows}
use Rattle.markdown_inlines.proofs.ReadLemmas.{read-placed, read-shows}
use Rattle.markdown_inlines.proofs.brackets.match_last.Goals as goal

pub match_runs-requires : goal.match_runs-requires
match_runs-requires c =
    subst (λ (l : List PlacedRun). Placed (length c.deref_mut-2.result.now) l) (sym c.deref_mut.ensures.value)
    (subst (λ (l : List Span). Placed (length l) c.args.reading.now.runs.items) (sym c.deref_mut-2.ensures.value)
    (read-placed c.args.source c.args.reading.now c.requires.reads (omega arith)))

pub returns : goal.returns
returns c =
    subst (λ (l : List Span). Shows c.args.source.start [] (level_forest c.args.source) l)
    (sym
    (with_items_is c.args.reading.now.spans c.match_runs.new.spans
    (c.match_runs.auto.spans ∙ c.deref_mut-2.ensures.len)))
    (read-shows c.args.source c.args.reading.now c.match_runs.new.spans c.requires.reads c.requires.end
    (λ at others own items e f.
    c.match_runs.ensures at others own items (c.deref_mut-2.ensures.value ∙ e)
    (subst (λ (l : List PlacedRun). Filled at (length others) items own l) (sym c.deref_mut.ensures.value) f)))
