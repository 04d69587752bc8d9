use Rattle.std.proofs.Common.{◌≡◌, [], ◌∷◌, ◌++◌, length, IfOk, sym, ◌∙◌, ap, subst}
use Rattle.std.proofs.lemmas.List.{map-append, length-map}
use Rattle.std.specs.Option.{option_map}
use Rattle.md_meaning.specs.State as state
use Rattle.md_meaning.specs.Step as definition
use Rattle.reference_tree.specs.Rests.{rest_meaning}
use Rattle.reference_tree.specs.Trees.{slices}
use Rattle.reference_tree.specs.Held.{blocks_meaning}
use Rattle.reference_tree.specs.States.{kept_meaning, kept_meanings, spot_meaning}
use Rattle.reference_tree.proofs.HeadLemmas.{spot_with, table_at-head, table_at-empty}
use Rattle.reference_tree.proofs.step.table_or_text.Goals as goal

pub returns-in_default : goal.returns-in_default
returns-in_default c =
    let empty : 0 ≡
    length (kept_meanings c.args.lines.items) = sym
    (length-map c.args.lines.items kept_meaning ∙ ap length (sym c.deref.ensures.value) ∙ c.in_default.ensures.cases) in
    let turned = ap
    (definition.row_or_text (blocks_meaning c.args.here) (kept_meanings c.args.lines.items)
    (rest_meaning c.args.rest.now))
    (table_at-empty c.args.options.now (blocks_meaning c.args.here) (kept_meanings c.args.lines.items)
    (rest_meaning c.args.rest.now) empty) in
    subst (λ (x : state.Innermost). IfOk c.with_line.result (λ s. spot_meaning s ≡ x)) (sym turned) c.with_line.ensures

pub returns-in-Some-2 : goal.returns-in-Some-2
returns-in-Some-2 c =
    let split : kept_meanings c.args.lines.items ≡
    kept_meanings c.in-Some.earlier.now ++ kept_meaning c.in-Some.head.now ∷ [] =
    ap kept_meanings (sym c.deref.ensures.value ∙ c.in-Some.ensures.cases.0)
    ∙ map-append kept_meaning c.in-Some.earlier.now (c.in-Some.head.now ∷ []) in
    let headed = sym c.in_ok-cells.ensures ∙ ap (option_map (λ v. slices v.items)) c.in-Some-2.is in
    let turned = ap
    (definition.row_or_text (blocks_meaning c.args.here) (kept_meanings c.args.lines.items)
    (rest_meaning c.args.rest.now))
    (table_at-head c.args.options.now (blocks_meaning c.args.here) (kept_meanings c.args.lines.items)
    (kept_meanings c.in-Some.earlier.now) (kept_meaning c.in-Some.head.now) (rest_meaning c.args.rest.now) split
    ∙ ap (spot_with c.args.options.now (blocks_meaning c.args.here) (kept_meanings c.in-Some.earlier.now)
    (rest_meaning c.args.rest.now)) headed) in
    subst (λ (x : state.Innermost). IfOk c.with_table.result (λ s. spot_meaning s ≡ x)) (sym turned)
    c.with_table.ensures

pub returns : goal.returns
returns c =
    let split : kept_meanings c.args.lines.items ≡
    kept_meanings c.in-Some.earlier.now ++ kept_meaning c.in-Some.head.now ∷ [] =
    ap kept_meanings (sym c.deref.ensures.value ∙ c.in-Some.ensures.cases.0)
    ∙ map-append kept_meaning c.in-Some.earlier.now (c.in-Some.head.now ∷ []) in
    let headed = sym c.in_ok-cells.ensures ∙ ap (option_map (λ v. slices v.items)) c.in-None.is in
    let turned = ap
    (definition.row_or_text (blocks_meaning c.args.here) (kept_meanings c.args.lines.items)
    (rest_meaning c.args.rest.now))
    (table_at-head c.args.options.now (blocks_meaning c.args.here) (kept_meanings c.args.lines.items)
    (kept_meanings c.in-Some.earlier.now) (kept_meaning c.in-Some.head.now) (rest_meaning c.args.rest.now) split
    ∙ ap (spot_with c.args.options.now (blocks_meaning c.args.here) (kept_meanings c.in-Some.earlier.now)
    (rest_meaning c.args.rest.now)) headed) in
    subst (λ (x : state.Innermost). IfOk c.with_line-in-None.result (λ s. spot_meaning s ≡ x))
    (sym turned) c.with_line-in-None.ensures
