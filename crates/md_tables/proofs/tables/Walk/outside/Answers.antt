use Rattle.std.proofs.Common.{◌+◌, ◌<◌, length, arith}
use Rattle.std.proofs.lemmas.List.{take_rest}
use Rattle.md_tables.proofs.Unset.{unset}
use Rattle.md_tables.proofs.TabledWalk.{walk-copied, walk-stepped}
use Rattle.md_tables.specs.Proceeds.{in_all}
use Rattle.md_tables.proofs.tables.Walk.outside.Goals as goal

pub returns-then-many-events-clause-in_all : goal.returns-then-many-events-clause-in_all
returns-then-many-events-clause-in_all c =
    let old = c.args.self.now in
    let new = c.copy.new.self in
    walk-copied old.section new.section old.rows.stage new.rows.stage c.args.events.now old.rows.given.items
    new.rows.given.items c.until_other-many.result c.in_ok-copy.ensures.given c.in_ok-copy.ensures.section
    c.in_ok-copy.ensures.stage c.until_other-many.ensures.value

pub returns-clause-in_all : goal.returns-clause-in_all
returns-clause-in_all c =
    let events = c.args.events.now in
    let many = c.until_other-many.result in
    let old = c.args.self.now in
    let new = c.copy.new.self in
    let past = c.step.new.self in
    let within : many < length events = omega arith in
    walk-stepped new.section past.section new.rows.stage past.rows.stage events new.rows.given.items
    past.rows.given.items (in_all old events) many unset within
    (rw (take_rest events (many + 1)) at c.in_ok-step.ensures.given) c.in_ok-step.ensures.section
    (rw (take_rest events (many + 1)) at c.in_ok-step.ensures.stage)
    (walk-copied old.section new.section old.rows.stage new.rows.stage events old.rows.given.items
    new.rows.given.items many c.in_ok-copy.ensures.given c.in_ok-copy.ensures.section c.in_ok-copy.ensures.stage
    c.until_other-many.ensures.value)
