use Rattle.std.proofs.Common.{◌≡◌, ◌∙◌, Option, Some, None, ap, refl}
use Rattle.std.specs.Option.{is_some, option_map}
use Rattle.md_engine.specs.declared.state.Name.{Name as StateName}
use Rattle.proof_frame.specs.LeafName.{LeafName}
use Rattle.md_registry.specs.Registry.{asked_first, leaf}
use Rattle.md_registry.proofs.choices.continues_inside.Goals as goal

mapped : (o : Option LeafName) → is_some (option_map (λ l. (leaf l).start) o) ≡ is_some o
mapped None = refl
mapped (Some l) = refl

pub returns : goal.returns
returns c =
    c.is_some.ensures ∙ ap (λ (o : Option StateName). is_some o) c.inside_start.ensures
    ∙ mapped (asked_first c.args.leaf)
