use Rattle.std.proofs.Common.{◌∙◌, refl, sym}
use Rattle.md_registry.specs.Registry.{asked_first}
use Rattle.md_registry.proofs.choices.inside_start.Goals as goal

pub returns-then-is_open : goal.returns-then-is_open
unfolding asked_first
returns-then-is_open c = rw (sym c.is_open.ensures ∙ c.if-is_open.true) refl

pub returns-then-is_html : goal.returns-then-is_html
unfolding asked_first
returns-then-is_html c =
    rw (sym c.is_open.ensures ∙ c.if-is_open.false, sym c.is_html.ensures ∙ c.if-is_html.true) refl

pub returns-then-is_code : goal.returns-then-is_code
unfolding asked_first
returns-then-is_code c =
    rw (
      sym c.is_open.ensures ∙ c.if-is_open.false,
      sym c.is_html.ensures ∙ c.if-is_html.false,
      sym c.is_code.ensures ∙ c.if-is_code.true,
    ) refl

pub returns-else-is_code : goal.returns-else-is_code
unfolding asked_first
returns-else-is_code c =
    rw (
      sym c.is_open.ensures ∙ c.if-is_open.false,
      sym c.is_html.ensures ∙ c.if-is_html.false,
      sym c.is_code.ensures ∙ c.if-is_code.false,
    ) refl
