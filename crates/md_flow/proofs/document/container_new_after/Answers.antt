use Rattle.std.proofs.Common.{◌≡◌, ◌++◌, ◌∷◌, [], ◌∙◌, ap, arith, is_ok, length, true, ℕ, rules}
use Rattle.md_engine.specs.declared.tokenizer.held_leaf.HeldLeaf.TheVariants as held_leaf
use Rattle.md_engine.specs.World.{World, closed, world}
use Rattle.md_engine.specs.declared.state.document.State.TheVariants as document
use Rattle.md_events.proofs.StatesLemmas.{state-is}
use Rattle.md_registry.proofs.FlowSteps.{document_rule}
use Rattle.md_flow.proofs.document.container_new_after.Goals as goal

pub returns-3 : goal.returns-3
returns-3 c =
    state-is _ _ _ _ _ (document_rule document.ContainerNewAfter (world c.args.tokenizer.now) _ _) (search rules)
    (λ _.
    let w = world c.args.tokenizer.now in
    let with_asked : World → World = λ v. record v {
      flags = record v.flags { containers = v.flags.containers ++ w.flags.asked ∷ [] };
    } in
    let begun : ℕ → World → World = λ len v. record v {
      flags = record v.flags { leaf = held_leaf.None; continued = len };
    } in
    let has_closed : is_ok c.close.result ≡ true = c.if-or_error.ensures.negation in
    let has_opened : is_ok c.open.result ≡ true = c.if-or_error-2.ensures.negation in
    let following = with_asked (closed w w.flags.continued w.flags.line_end) in
    let opened : world c.open.new.self ≡ following =
    (rw has_opened at c.open.ensures.world) ∙ ap with_asked (rw has_closed at c.close.ensures.world) in
    let len_is : c.len-tokenizer.result ≡ length (world c.open.new.self).flags.containers =
    omega (arith, c.len-tokenizer.ensures) in
    ap (begun c.len-tokenizer.result) opened
    ∙ ap (λ len. begun len following) (len_is ∙ ap (λ (v : World). length v.flags.containers) opened))
    (search rules)
