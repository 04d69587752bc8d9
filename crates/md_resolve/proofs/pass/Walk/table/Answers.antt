use Rattle.std.proofs.Common.{◌≡◌, ◌≤◌, inl, inr, ◌++◌, ℕ, List, [], ap, ap₂, arith, drop, length, subst, ◌∙◌}
use Rattle.std.proofs.Common.{append-nil, take}
use Rattle.std.specs.List.{prefix_len}
use Rattle.std.proofs.lemmas.List.{drop_all, length-take}
use Rattle.md_engine.specs.declared.event.Event.{Event}
use Rattle.md_order.specs.Left.{table_len}
use Rattle.md_tables.specs.Tabled.{tabled}
use Rattle.md_events.specs.Rewritten.{held_of, left_of, written_of}
use Rattle.md_resolve.proofs.PassLaws.{Now, now_of, rest_of, slice-many}
use Rattle.md_resolve.proofs.pass.Walk.table.Goals as goal
use Rattle.md_resolve.proofs.pass.Walk.table.Goals.{else-end-left, then-end-left}

many-is : (c : goal.After-drop-self) →
    (take c.if-end-left.many (rest_of (now_of c.args.self.now))
    ≡ take (table_len (rest_of (now_of c.args.self.now))) (rest_of (now_of c.args.self.now)))
    × (drop c.if-end-left.many (rest_of (now_of c.args.self.now))
    ≡ drop (table_len (rest_of (now_of c.args.self.now))) (rest_of (now_of c.args.self.now)))
many-is c =
    let left : c.left-left.result.now ≡ rest_of (now_of c.args.self.now) =
    c.left-left.ensures ∙ c.give.ensures.left in
    slice-many (rest_of (now_of c.args.self.now)) c.until_end-end.result c.if-end-left.many
    (c.until_end-end.ensures.value ∙ ap (prefix_len _) left)
    (elim c.if-end-left.branch [
      | then-end-left w ↦ inl w.many-is
      | else-end-left w ↦ inr (
        subst (λ (l : List Event). length l ≤ c.until_end-end.result) left (omega (arith, w.if-end-left.false)),
        w.many-is,
      )
    ])

pub returns-clause-given : goal.returns-clause-given
returns-clause-given c =
    let old : Now = now_of c.args.self.now in
    let new : Now = record old { all = c.push_all.new.self } in
    let r : List Event = rest_of old in
    let cells : c.in_ok-cells.cells.items ≡ tabled (take (table_len r) r) =
    c.in_ok-cells.ensures.events
    ∙ ap (λ (l : List Event). tabled (take c.if-end-left.many l)) (c.left-left.ensures ∙ c.give.ensures.left)
    ∙ ap tabled (many-is c).0 in
    let written : written_of c.push_all.new.self
    ≡ (written_of old.all ++ held_of old.all) ++ tabled (take (table_len r) r) =
    c.in_ok-push_all.ensures.written
    ∙ ap₂ (λ (a b : List Event). a ++ b)
    (c.leave_out.ensures.written ∙ c.hold_many.ensures.written ∙ c.give.ensures.written)
    (c.deref.ensures.value ∙ cells) in
    ap₂ (λ (a b : List Event). a ++ b) written (none c)
    ∙ append-nil ((written_of old.all ++ held_of old.all) ++ tabled (take (table_len r) r))
  where
    none : (c : goal.After-drop-self) → held_of c.push_all.new.self ≡ []
    none c =
        let many : ℕ = c.if-end-left.many in
        let l : List Event = left_of c.give.new.self in
        let held : held_of c.hold_many.new.self ≡ take many l = c.hold_many.ensures.held
        ∙ ap (λ (x : List Event). x ++ take many l) c.give.ensures.held in
        c.in_ok-push_all.ensures.held ∙ c.leave_out.ensures.held ∙ ap (drop many) held
        ∙ drop_all many (take many l) (omega (arith, length-take many l))

pub returns-clause-rest : goal.returns-clause-rest
returns-clause-rest c =
    c.in_ok-push_all.ensures.left ∙ c.leave_out.ensures.left ∙ c.hold_many.ensures.left
    ∙ ap (drop c.if-end-left.many) c.give.ensures.left ∙ (many-is c).1
