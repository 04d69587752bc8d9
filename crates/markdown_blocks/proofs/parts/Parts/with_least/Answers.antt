use Rattle.std.proofs.Common.{ℕ, List, ap, arith, subst, sym, ◌∙◌}
use Rattle.md_events.specs.Events.Spelled.{spelled}
use Rattle.md_events.specs.Lined.{lined}
use Rattle.md_events.specs.TextPart.{wants_text}
use Rattle.md_events.specs.Exact.Blocks.{exact}
use Rattle.md_outline.specs.Outlined.{IsOutlined}
use Rattle.markdown_blocks.proofs.BlocksShown.{blocks-outlined, blocks-spelled}
use Rattle.markdown_blocks.proofs.PartFront.{parsed-lined}
use Rattle.markdown_blocks.proofs.parts.Parts.with_least.Goals as goal

pub returns-clause-blocks : goal.returns-clause-blocks
returns-clause-blocks c = ap (exact c.args.options.now) c.as_bytes.ensures.value

pub returns-clause-outlined : goal.returns-clause-outlined
returns-clause-outlined c =
    subst (λ (l : List ℕ). IsOutlined (exact c.args.options.now l) c.args.value.now) (sym c.as_bytes.ensures.value)
    (blocks-outlined c.args.options.now c.args.value.now c.requires.built
    (omega (arith, c.requires.size)) c.utf8.value)

pub returns-clause-tree : goal.returns-clause-tree
returns-clause-tree c =
    ap (λ (l : List ℕ). spelled (exact c.args.options.now l) c.args.value.now) c.as_bytes.ensures.value
    ∙ blocks-spelled c.args.options.now c.args.value.now c.requires.built (omega (arith, c.requires.size))

pub returns-clause-events : goal.returns-clause-events
returns-clause-events c =
    ap (λ (l : List ℕ). lined wants_text l (exact c.args.options.now l)) c.as_bytes.ensures.value

pub returns-clause-parsed : goal.returns-clause-parsed
returns-clause-parsed c =
    λ events state parsed.
    ap (λ (l : List ℕ). lined wants_text l (exact c.args.options.now l)) c.as_bytes.ensures.value
    ∙ parsed-lined c.args.value.now c.args.options.now events state c.requires.size parsed
