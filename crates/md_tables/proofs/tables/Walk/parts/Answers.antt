use Rattle.std.proofs.Common.{◌≡◌, ◌≤◌, ◌-◌, drop, length, ◌∙◌, arith, length-drop}
use Rattle.std.proofs.lemmas.List.{take_rest}
use Rattle.md_tables.specs.Proceeds.{in_all}
use Rattle.md_tables.proofs.TabledWalk.{walk-proceeds}
use Rattle.md_tables.proofs.tables.Walk.parts.Goals as goal

pub loop-at-preserved : goal.loop-at-preserved
loop-at-preserved c =
    let events = c.args.events.now in
    let at = c.loop-at.at in (
      c.in_ok-many.ensures.section,
      (let fits : c.in_ok-many.many ≤ length (drop at events) =
          rw (take_rest events at) at c.in_ok-many.ensures.within in
          let left : length (drop at events) ≡ length events - at = length-drop at events in
          omega arith),
      walk-proceeds c.loop-at.self c.part.new.self events (in_all c.args.self.now events) at c.in_ok-many.many
          (rw (take_rest events at) at c.in_ok-many.ensures.in_all) c.loop-at.invariant.2,
    )

pub returns-then-many-eq0-clause-in_all : goal.returns-then-many-eq0-clause-in_all
returns-then-many-eq0-clause-in_all c =
    let events = c.args.events.now in
    let at = c.loop-at.at in
    let none : c.in_ok-many.many ≡ 0 = omega arith in
    (rw none at (rw (take_rest events at) at c.in_ok-many.ensures.in_all)) ∙ c.loop-at.invariant.2
