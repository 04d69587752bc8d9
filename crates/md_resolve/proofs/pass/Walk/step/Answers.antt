use Rattle.std.proofs.Common.{◌≡◌, ◌<◌, arith, length, List, false, true, not}
use Rattle.std.proofs.Common.{refl, sym, subst, ap, ◌∙◌, ◌∷◌, []}
use Rattle.std.proofs.lemmas.Bool.{and_left, and_right}
use Rattle.md_engine.specs.declared.event.Event.{Event}
use Rattle.md_order.specs.Left.{MayStay, heading_len, is_passed, table_len}
use Rattle.md_order.proofs.Stay.{stay-drop}
use Rattle.md_resolve.proofs.Unset.{passed-by}
use Rattle.md_resolve.proofs.PassLaws.{Now, held-given, item-whole, now_of, one-whole, rest_of, table-whole, text-whole}
use Rattle.md_resolve.proofs.PassLaws.{heading-fewer, heading-whole}
use Rattle.md_resolve.proofs.pass.Walk.step.Goals as goal
use Rattle.md_resolve.proofs.pass.Walk.step.Goals.{else-wanted-2-via-else-wanted-2}
use Rattle.md_resolve.proofs.pass.Walk.step.Goals.{else-wanted-2-via-then-wanted-2+else-begins_heading}
use Rattle.md_resolve.proofs.pass.Walk.step.Goals.{else-wanted-3-via-else-wanted-3}
use Rattle.md_resolve.proofs.pass.Walk.step.Goals.{else-wanted-3-via-then-wanted-3+else-not-passes}
use Rattle.md_resolve.proofs.pass.Walk.step.Goals.{else-wanted-4-via-else-wanted-4}
use Rattle.md_resolve.proofs.pass.Walk.step.Goals.{else-wanted-4-via-then-wanted-4+else-begins_table}
use Rattle.md_resolve.proofs.pass.Walk.step.Goals.{else-wanted-via-else-wanted}
use Rattle.md_resolve.proofs.pass.Walk.step.Goals.{else-wanted-via-then-wanted+else-is_item}

pub returns-then-is_item-clause-whole : goal.returns-then-is_item-clause-whole
returns-then-is_item-clause-whole c =
    item-whole c.args.wanted c.args.bytes.now (now_of c.args.self.now) (now_of c.item.new.self) c.args.event
    c.if-wanted.true (sym c.is_item.ensures ∙ c.if-is_item.true)
    c.requires.first c.in_ok-item.ensures.given c.in_ok-item.ensures.items c.in_ok-item.ensures.on
    c.in_ok-item.ensures.rest

pub end_heading-requires : goal.end_heading-requires
end_heading-requires c =
    let left = rest_of (now_of c.args.self.now) in
    record {
      stay = subst (MayStay c.args.wanted) (sym c.in_ok-set.ensures.left)
          (stay-drop c.args.wanted left c.requires.stay (heading_len left));
    }

pub returns-then-begins_heading-clause-whole : goal.returns-then-begins_heading-clause-whole
returns-then-begins_heading-clause-whole c =
    let old : Now = now_of c.args.self.now in
    c.end_heading.ensures.whole
    ∙ heading-whole c.args.wanted c.args.bytes.now old (record old { all = c.set.new.all }) c.args.event
    c.if-wanted-2.true (sym c.begins_heading.ensures ∙ c.if-begins_heading.true) c.requires.stay c.requires.first
    c.in_ok-set.ensures.given refl refl c.in_ok-set.ensures.left

pub returns-then-begins_heading-clause-fewer : goal.returns-then-begins_heading-clause-fewer
returns-then-begins_heading-clause-fewer c =
    let left = rest_of (now_of c.args.self.now) in
    let less = subst (λ (l : List Event). length l < length left) (sym c.in_ok-set.ensures.left)
    (heading-fewer c.args.event left c.requires.first (sym c.begins_heading.ensures ∙ c.if-begins_heading.true)) in
    omega (arith, less, c.end_heading.ensures.fewer)

pub returns-then-not-passes-clause-whole : goal.returns-then-not-passes-clause-whole
returns-then-not-passes-clause-whole c =
    text-whole c.args.wanted c.args.bytes.now (now_of c.args.self.now) (now_of c.text.new.self) c.args.event
    c.if-wanted-3.true (sym c.passes.ensures ∙ c.if-not-passes.true)
    c.requires.stay c.requires.first c.in_ok-text.ensures.given c.in_ok-text.ensures.items c.in_ok-text.ensures.on
    c.in_ok-text.ensures.rest

pub returns-then-begins_table-clause-whole : goal.returns-then-begins_table-clause-whole
returns-then-begins_table-clause-whole c =
    table-whole c.args.wanted c.args.bytes.now (now_of c.args.self.now) (now_of c.table.new.self) c.args.event
    c.if-wanted-4.true
    (sym c.begins_table.ensures ∙ c.if-begins_table.true) c.requires.stay c.requires.first c.in_ok-table.ensures.given
    c.in_ok-table.ensures.items c.in_ok-table.ensures.on c.in_ok-table.ensures.rest

pub returns-then-begins_table-clause-stay : goal.returns-then-begins_table-clause-stay
returns-then-begins_table-clause-stay c =
    subst (MayStay c.args.wanted) (sym c.in_ok-table.ensures.rest)
    (stay-drop c.args.wanted (rest_of (now_of c.args.self.now)) c.requires.stay
    (table_len (rest_of (now_of c.args.self.now))))

is-passed : (c : goal.After-hold) → is_passed c.args.wanted c.args.event ≡ true
is-passed c =
    passed-by c.args.wanted c.args.event
    (elim c.else-wanted.branch [
      | else-wanted-via-then-wanted+else-is_item w ↦ and_right c.args.wanted.items _
          (sym w.is_item.ensures ∙ w.if-is_item.false)
      | else-wanted-via-else-wanted w ↦ and_left c.args.wanted.items _ w.if-wanted.false
    ])
    (elim c.else-wanted-2.branch [
      | else-wanted-2-via-then-wanted-2+else-begins_heading w ↦ and_right c.args.wanted.atx _
          (sym w.begins_heading.ensures ∙ w.if-begins_heading.false)
      | else-wanted-2-via-else-wanted-2 w ↦ and_left c.args.wanted.atx _ w.if-wanted-2.false
    ])
    (elim c.else-wanted-3.branch [
      | else-wanted-3-via-then-wanted-3+else-not-passes w ↦ and_right c.args.wanted.setext _
          (ap not (sym w.passes.ensures ∙ w.if-not-passes.false))
      | else-wanted-3-via-else-wanted-3 w ↦ and_left c.args.wanted.setext _ w.if-wanted-3.false
    ])
    (elim c.else-wanted-4.branch [
      | else-wanted-4-via-then-wanted-4+else-begins_table w ↦ and_right c.args.wanted.tables _
          (sym w.begins_table.ensures ∙ w.if-begins_table.false)
      | else-wanted-4-via-else-wanted-4 w ↦ and_left c.args.wanted.tables _ w.if-wanted-4.false
    ])

pub returns-clause-whole : goal.returns-clause-whole
returns-clause-whole c =
    let old : Now = now_of c.args.self.now in
    let new : Now = record old { all = c.hold.new.self } in
    one-whole c.args.wanted c.args.bytes.now old new c.args.event (is-passed c)
    c.requires.first
    (held-given old new (c.args.event ∷ []) c.hold.ensures.written
    c.hold.ensures.held) refl refl c.hold.ensures.left

pub returns-clause-stay : goal.returns-clause-stay
returns-clause-stay c =
    subst (MayStay c.args.wanted) (sym c.hold.ensures.left)
    (stay-drop c.args.wanted (rest_of (now_of c.args.self.now)) c.requires.stay 1)
