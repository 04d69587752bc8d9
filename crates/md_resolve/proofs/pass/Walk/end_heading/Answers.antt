use Rattle.std.proofs.Common.{[], ◌∷◌, refl, subst, sym, ◌∙◌}
use Rattle.md_order.specs.Left.{MayStay}
use Rattle.md_order.proofs.Stay.{stay-drop}
use Rattle.md_resolve.proofs.PassLaws.{Now, held-given, now_of, one-whole, rest_of}
use Rattle.md_resolve.proofs.Unset.{end-passed}
use Rattle.md_resolve.proofs.pass.Walk.end_heading.Goals as goal

pub returns-then-ends_heading-clause-whole : goal.returns-then-ends_heading-clause-whole
returns-then-ends_heading-clause-whole c =
    let old : Now = now_of c.args.self.now in
    let new : Now = record old { all = c.hold.new.self } in
    one-whole c.args.wanted c.args.bytes.now old new c.in-Some.event
    (end-passed c.args.wanted c.in-Some.event (sym c.ends_heading.ensures ∙ c.if-ends_heading.true))
    c.in-Some.ensures.some
    (held-given old new (c.in-Some.event ∷ []) c.hold.ensures.written c.hold.ensures.held) refl refl
    c.hold.ensures.left

pub returns-then-ends_heading-clause-stay : goal.returns-then-ends_heading-clause-stay
returns-then-ends_heading-clause-stay c =
    subst (MayStay c.args.wanted) (sym c.hold.ensures.left)
    (stay-drop c.args.wanted (rest_of (now_of c.args.self.now)) c.requires.stay 1)
