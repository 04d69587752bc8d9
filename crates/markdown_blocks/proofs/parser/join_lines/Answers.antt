use Rattle.std.proofs.Common.{◌≡◌, Bool, List, ap, cond, subst, sym, true, ◌∙◌}
use Rattle.md_engine.specs.World.{world}
use Rattle.md_engine.specs.declared.event.Event.{Event}
use Rattle.md_registry.specs.Resolving.{joins_lines}
use Rattle.md_leaves.specs.Spanned.{spanned}
use Rattle.md_leaves.specs.Turned.{HoldNoUnderline}
use Rattle.markdown_blocks.proofs.parser.join_lines.Goals as goal

pub returns-then-joins_lines-clause-underlines : goal.returns-then-joins_lines-clause-underlines
returns-then-joins_lines-clause-underlines c = λ none.
    let es : List Event = (world c.args.tokenizer.now).events in
    let on : joins_lines c.args.options.now ≡ true = sym c.joins_lines.ensures ∙ c.if-joins_lines.true in
    subst HoldNoUnderline (ap (λ (x : Bool). cond x (spanned es) es) (sym on))
    (c.in_ok-underlines.ensures.underlines none)
