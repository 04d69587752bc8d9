use Rattle.std.proofs.Common.{◌≡◌, refl, subst, take, length}
use Rattle.std.specs.Prelude.{IfOk}
use Rattle.md_engine.specs.declared.event.Name.{Name}
use Rattle.md_inline_events.specs.Marks.{last_name}
use Rattle.md_inline_events.specs.SidesOf.{cursor_marks, sides_of}
use Rattle.md_inline_events.specs.Woven.{as_feed}
use Rattle.md_inline_events.proofs.LineSteps.{side_name}
use Rattle.md_inline_events.proofs.writer.push_side.Goals as goal

pub returns-clause-name : goal.returns-clause-name
returns-clause-name c =
    subst (λ (name : Name). IfOk c.push_ending.result (λ next. next.name ≡ name))
    (side_name (sides_of c.args.side.now) (cursor_marks c.args.cursor) (cursor_marks c.in_ok-left.left)
    c.args.cursor.name c.in_ok-left.left.name
    (last_name c.in_ok-left.left.name
    (take (length (as_feed c.args.side.now.ending.now)) (cursor_marks c.in_ok-left.left)))
    c.in_ok-left.ensures.marks c.in_ok-left.ensures.name refl)
    c.push_ending.ensures.name
