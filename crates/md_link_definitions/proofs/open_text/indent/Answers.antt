use Rattle.std.proofs.Common.{ℕ, ◌+◌, Bool, ap, ap₂, sym, ◌∙◌}
use Rattle.md_meaning.specs.Rest.{indent}
use Rattle.md_link_definitions.specs.OpenText.{begun_rest}
use Rattle.md_link_definitions.proofs.OpenTextLemmas.{indent-cut, indent-whole}
use Rattle.md_link_definitions.proofs.open_text.indent.Goals as goal

pub returns-then-cut : goal.returns-then-cut
returns-then-cut c =
    ap₂ (λ (a b : ℕ). a + b) c.tab_columns.ensures.value c.white_columns.ensures.value
    ∙ indent-cut c.args.column c.args.line.now
    ∙ ap (λ (cut : Bool). indent (begun_rest c.args.column cut c.args.line.now)) (sym c.if-cut.true)

pub returns-else-cut : goal.returns-else-cut
returns-else-cut c =
    c.white_columns-else-cut.ensures.value ∙ indent-whole c.args.column c.args.line.now
    ∙ ap (λ (cut : Bool). indent (begun_rest c.args.column cut c.args.line.now)) (sym c.if-cut.false)
