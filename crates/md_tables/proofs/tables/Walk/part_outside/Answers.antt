use Rattle.std.proofs.Common.{◌≤◌, [], ◌∷◌, drop, length, arith, get_or, sym, ◌∙◌, ap}
use Rattle.std.proofs.lemmas.List.{drop-drop, take_rest}
use Rattle.md_tables.specs.Proceeds.{in_all}
use Rattle.md_tables.specs.Tabled.{tabled_from}
use Rattle.md_tables.specs.declared.cells.Stage.TheVariants.{Front}
use Rattle.md_engine.specs.declared.event.Name.TheVariants as n
use Rattle.md_events.specs.Events.Nested.{enter}
use Rattle.md_tables.specs.declared.cells.RowKind.TheVariants.{Text}
use Rattle.md_tables.specs.declared.tables.Section.TheVariants.{Body}
use Rattle.md_tables.proofs.PartsWalk.{body-begins, ending-proceeds, gives, one-first, row-proceeds, two-first}
use Rattle.md_tables.proofs.Unset.{unset}
use Rattle.md_tables.proofs.tables.Walk.part_outside.Goals as goal

pub returns-then-is_ending-clause-in_all : goal.returns-then-is_ending-clause-in_all
returns-then-is_ending-clause-in_all c =
    let now = c.args.self.now in
    let events = c.args.events.now in
    let begin = get_or events 0 unset in
    let end = get_or events 1 unset in
    let rest = drop 2 events in
    gives now.rows.given.items c.give_two.new.given.items (begin ∷ end ∷ [])
    (tabled_from now.section now.rows.stage events) (tabled_from now.section now.rows.stage rest)
    c.in_ok-give_two.ensures
    (ap (tabled_from now.section now.rows.stage) (sym (two-first events unset c.in-len2-up.len_at_least))
    ∙ rw c.requires.stage
    (ending-proceeds now.section begin end rest c.requires.section (sym c.is_ending.ensures ∙ c.if-is_ending.true)))

pub returns-then-begins_body-clause-in_all : goal.returns-then-begins_body-clause-in_all
returns-then-begins_body-clause-in_all c =
    let now = c.args.self.now in
    let events = c.args.events.now in
    let begin = get_or events 0 unset in
    let rest = drop 1 events in
    let long : 1 ≤ length events = omega arith in
    ap (in_all c.part_front.new.self) (sym (drop-drop c.in_ok-many.many 1 events))
    ∙ (rw (take_rest events 1) at c.in_ok-many.ensures.in_all)
    ∙ gives now.rows.given.items c.give_first.new.given.items (enter n.GfmTableBody begin.point ∷ begin ∷ [])
    (tabled_from now.section now.rows.stage events) (tabled_from Body (Front Text) rest) c.in_ok-give_first.ensures
    (ap (tabled_from now.section now.rows.stage) (sym (one-first events unset long))
    ∙ rw c.requires.stage
    (body-begins now.section begin rest (sym c.begins_body.ensures ∙ c.if-begins_body.true)))

pub returns-clause-in_all : goal.returns-clause-in_all
returns-clause-in_all c =
    let now = c.args.self.now in
    let events = c.args.events.now in
    let begin = get_or events 0 unset in
    let rest = drop 1 events in
    let long : 1 ≤ length events = omega arith in
    ap (in_all c.part_front-2.new.self) (sym (drop-drop c.in_ok-many-2.many 1 events))
    ∙ (rw (take_rest events 1) at c.in_ok-many-2.ensures.in_all)
    ∙ gives now.rows.given.items c.give.new.given.items (begin ∷ []) (tabled_from now.section now.rows.stage events)
    (tabled_from now.section (Front c.in-Some.kind) rest) c.in_ok-give.ensures
    (ap (tabled_from now.section now.rows.stage) (sym (one-first events unset long))
    ∙ rw c.requires.stage
    (row-proceeds now.section c.in-Some.kind begin rest c.requires.section
    (sym c.is_between.ensures ∙ c.if-is_between.false) (sym c.in-Some.ensures)))
