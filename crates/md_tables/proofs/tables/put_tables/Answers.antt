use Rattle.std.proofs.Common.{sym, subst}
use Rattle.std.proofs.lemmas.List.{take_rest}
use Rattle.md_events.specs.Parts.{ArePlaced}
use Rattle.md_tables.specs.Tabled.{tabled}
use Rattle.md_tables.proofs.TabledWalk.{tabled-placed, walk-done, walk-proceeds}
use Rattle.md_tables.proofs.tables.put_tables.Goals as goal
use Rattle.md_tables.proofs.tables.put_tables.Goals.{then-in_table+in_ok-many, else-in_table+in_ok-many-2}

pub loop-at-preserved : goal.loop-at-preserved
loop-at-preserved c =
    let events = c.args.events.now in
    let at = c.loop-at.at in
    let old = c.loop-at.walk in
    elim c.if-in_table.branch [
      | then-in_table+in_ok-many w ↦
          rw (w.walk-is, w.many-is)
          (walk-proceeds old w.inside.new.self events (tabled events) at w.in_ok-many.many
          (rw (take_rest events at) at w.in_ok-many.ensures.in_all) c.loop-at.invariant)
      | else-in_table+in_ok-many-2 w ↦
          rw (w.walk-is, w.many-is)
          (walk-proceeds old w.outside.new.self events (tabled events) at w.in_ok-many-2.many
          (rw (take_rest events at) at w.in_ok-many-2.ensures.in_all) c.loop-at.invariant)
    ]

pub returns-clause-events : goal.returns-clause-events
returns-clause-events c =
    walk-done c.loop-at.walk.section c.loop-at.walk.rows.stage c.args.events.now c.loop-at.walk.rows.given.items
    (tabled c.args.events.now) c.loop-at.at c.loop-at-test.false c.loop-at.invariant

pub returns-clause-placed : goal.returns-clause-placed
returns-clause-placed c = λ text h.
    subst (ArePlaced text)
    (sym
    (walk-done c.loop-at.walk.section c.loop-at.walk.rows.stage c.args.events.now c.loop-at.walk.rows.given.items
    (tabled c.args.events.now) c.loop-at.at c.loop-at-test.false c.loop-at.invariant))
    (tabled-placed text c.args.events.now h)
