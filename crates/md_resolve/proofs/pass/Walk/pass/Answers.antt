use Rattle.std.proofs.Common.{ap, refl, sym, subst, ◌∙◌}
use Rattle.std.specs.List.{prefix_len}
use Rattle.md_order.specs.Left.{MayStay, is_passed}
use Rattle.md_order.proofs.Stay.{stay-drop}
use Rattle.md_resolve.proofs.PassLaws.{Now, held-given, now_of, passed-whole, rest_of}
use Rattle.md_resolve.proofs.pass.Walk.pass.Goals as goal

pub returns-clause-whole : goal.returns-clause-whole
returns-clause-whole c =
    let old : Now = now_of c.args.self.now in
    let new : Now = record old { all = c.hold_many.new.self } in
    passed-whole c.args.wanted c.args.bytes.now old new c.until_set-many.result
    (c.until_set-many.ensures.value ∙ ap (prefix_len (is_passed c.args.wanted)) c.left.ensures)
    (held-given old new _ c.hold_many.ensures.written c.hold_many.ensures.held) refl
    refl c.hold_many.ensures.left

pub returns-clause-stay : goal.returns-clause-stay
returns-clause-stay c =
    subst (MayStay c.args.wanted) (sym c.hold_many.ensures.left)
    (stay-drop c.args.wanted (rest_of (now_of c.args.self.now)) c.requires.stay c.until_set-many.result)
