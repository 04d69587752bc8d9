use Rattle.std.proofs.Common.{◌<◌, ◌+◌, length, arith}
use Rattle.std.proofs.lemmas.List.{take_rest}
use Rattle.md_tables.proofs.Unset.{unset}
use Rattle.md_tables.proofs.TabledWalk.{walk-stepped}
use Rattle.md_tables.specs.Proceeds.{in_all}
use Rattle.md_tables.proofs.tables.Walk.inside.Goals as goal

pub returns-clause-in_all : goal.returns-clause-in_all
returns-clause-in_all c =
    let old = c.parts.new.self in
    let new = c.step.new.self in
    let events = c.args.events.now in
    let many = c.in_ok-many.many in
    let within : many < length events = omega (arith, c.in_ok-many.ensures.within, c.if-many-events.false) in
    walk-stepped old.section new.section old.rows.stage new.rows.stage events old.rows.given.items
    new.rows.given.items (in_all c.args.self.now events) many unset within
    (rw (take_rest events (many + 1)) at c.in_ok-step.ensures.given) c.in_ok-step.ensures.section
    (rw (take_rest events (many + 1)) at c.in_ok-step.ensures.stage)
    c.in_ok-many.ensures.in_all
