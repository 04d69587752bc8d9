use Rattle.std.proofs.Common.{◌≡◌, ◌∙◌, ◌++◌, List, [], ◌∷◌, Some, ap, append_assoc, arith, is_ok, length, rules}
use Rattle.std.proofs.Common.{subst, sym, true, ℕ}
use Rattle.md_engine.specs.declared.event.Event.{Event}
use Rattle.md_engine.specs.declared.event.Name.{Name}
use Rattle.md_engine.specs.declared.state.document.State.TheVariants as document
use Rattle.md_engine.specs.Place.{IsPlaced}
use Rattle.md_engine.specs.World.{Setting, World, closed, world}
use Rattle.md_events.specs.Events.Nested.{enter, exit}
use Rattle.md_events.specs.Transition.{entered, exited, taken}
use Rattle.md_registry.specs.Flow.{flow_end_code}
use Rattle.proof_frame.specs.EndingName.{ending_name}
use Rattle.md_registry.specs.LineFlags.{next_line}
use Rattle.md_registry.proofs.FlowSteps.{document_rule}
use Rattle.md_tables.proofs.RowWords.{on-ok}
use Rattle.md_flow.proofs.document.flow_end.Goals as goal
use Rattle.md_events.proofs.StatesLemmas.{state-is}

pub add_part-requires-clause-from : goal.add_part-requires-clause-from
add_part-requires-clause-from c =
    let same : (world c.take_ending.new.tokenizer).setting ≡ (world c.close.new.self).setting =
    ap (λ (x : World). x.setting) c.take_ending.ensures in
    subst (λ (x : Setting). IsPlaced x.bytes c.close.new.self.point) (sym same) c.close.new.self.sound.placed

pub returns-in-Some-eq10-2 : goal.returns-in-Some-eq10-2
returns-in-Some-eq10-2 c =
    state-is _ _ _ _ _ (document_rule document.FlowEnd (world c.args.tokenizer.now) _ _) (search rules)
    (λ _.
    let w = world c.args.tokenizer.now in
    let v = world c.close.new.self in
    let u = world c.take_ending.new.tokenizer in
    let name = c.ending_name-name.result in
    let first = enter name v.point in
    let both : World → World = λ x. record x { events = x.events ++ first ∷ exit name x.point ∷ [] } in
    let has_closed : is_ok c.close.result ≡ true = c.if-or_error.ensures.negation in
    let has_added : is_ok c.add_part.result ≡ true = c.if-or_error-3.ensures.negation in
    let here : c.close.new.self.current ≡ Some c.in-Some-eq10.field-0 = c.in-Some-eq10.is in
    let ten : c.in-Some-eq10.field-0 ≡ 10 = omega (arith, c.in-Some-eq10.field-0-test) in
    let len_is : c.len-len.result ≡ length v.events = omega (arith, c.len-len.ensures) in
    let ended : world c.add_part.new.tokenizer ≡ exited (taken (entered v name)) name =
    on-ok c.add_part.result (world c.add_part.new.tokenizer ≡ both u) has_added c.add_part.ensures.world
    ∙ ap both c.take_ending.ensures
    ∙ ap (λ (es : List Event). record (taken v) { events = es })
    (sym (append_assoc v.events (first ∷ []) (exit name (taken v).point ∷ []))) in
    let next : Name → ℕ → World = λ n len. record (exited (taken (entered v n)) n) {
      flags = next_line len v.flags;
    } in
    ap (λ (x : World). record x { flags = next_line c.len-len.result x.flags }) ended
    ∙ ap (λ n. next n c.len-len.result) c.ending_name-name.ensures
    ∙ ap (next (ending_name v.flags.blank)) len_is
    ∙ ap (λ o. (flow_end_code v o).world) (sym (here ∙ ap Some ten))
    ∙ ap (λ (x : World). (flow_end_code x x.current).world)
    ((rw has_closed at c.close.ensures.world) ∙ ap (λ n. closed w n w.flags.line_end) c.kept_containers-keep.ensures))
    (search rules)

pub returns-in-None-2 : goal.returns-in-None-2
returns-in-None-2 c =
    state-is _ _ _ _ _ (document_rule document.FlowEnd (world c.args.tokenizer.now) _ _) (search rules)
    (search rules) (search rules)

pub returns-in_default : goal.returns-in_default
returns-in_default c =
    state-is _ _ _ _ _ (document_rule document.FlowEnd (world c.args.tokenizer.now) _ _) (search rules)
    (search rules) (search rules)
