use Rattle.std.proofs.Common.{◌≡◌, ◌<◌, ◌∙◌, ap, arith, is_ok, refl, sym, subst, true}
use Rattle.md_engine.specs.declared.state.Name.{Name as StateName}
use Rattle.md_engine.specs.declared.state.State.TheVariants.{Next}
use Rattle.md_engine.specs.Run.{RunsHere, reading}
use Rattle.md_engine.specs.Scheme.{cells_left}
use Rattle.md_engine.specs.World.{World, world}
use Rattle.md_engine.proofs.Points.{cells-fall}
use Rattle.md_engine.proofs.StayLemmas.{seen-inside, within-world}
use Rattle.md_tables.specs.Row.{name_at}
use Rattle.md_tables.specs.RowWords.{RowStep, divided}
use Rattle.md_tables.specs.RowWords.RowStep.{OfRow}
use Rattle.md_tables.specs.declared.row.Place.TheVariants as place
use Rattle.md_tables.proofs.RowWords.{IsValid, gap-falls, gap-proceeds, on-ok, pipe-taken, pipe-waits, is_valid-first}
use Rattle.md_leaves.proofs.HeadingCalls.{ahead}
use Rattle.md_tables.proofs.row_words.pass_pipe.Goals as goal

pub returns-then-see_or_wait-clause-proceeds : goal.returns-then-see_or_wait-clause-proceeds
returns-then-see_or_wait-clause-proceeds c = λ fine.
    let r = c.args.row in
    let first = name_at r place.Break in
    let w = world c.args.tokenizer.now in
    let u = world c.take_pipe.new.tokenizer in
    let has_taken : is_ok c.take_pipe.result ≡ true = c.if-is_err.ensures.negation in
    let is : u ≡ divided w = on-ok c.take_pipe.result (u ≡ divided w) has_taken c.take_pipe.ensures.world in (
      subst (λ (name : StateName). RunsHere (RowStep r) first w (Next name) (world c.see_or_wait.new.self))
          (sym c.name_at.ensures)
          (subst (RunsHere (RowStep r) first w (Next (name_at r place.CellBefore)))
          (sym (c.if-see_or_wait.ensures.same refl ∙ is))
          (pipe-waits r first w w (is_valid-first r first w c.requires.at.current) (within-world c.args.tokenizer.now)
          c.requires.pipe)),
      tt,
    )

pub returns-clause-proceeds : goal.returns-clause-proceeds
returns-clause-proceeds c =
    let r = c.args.row in
    let first = name_at r place.Break in
    let cell = name_at r place.CellBefore in
    let w = world c.args.tokenizer.now in
    let u = world c.take_pipe.new.tokenizer in
    let v = world c.see_or_wait.new.self in
    let has_taken : is_ok c.take_pipe.result ≡ true = c.if-is_err.ensures.negation in
    let is : u ≡ divided w = on-ok c.take_pipe.result (u ≡ divided w) has_taken c.take_pipe.ensures.world in
    let following : (divided w).point.index < (divided w).setting.limit =
    subst (λ (y : World). y.point.index < y.setting.limit) is (ahead (c.if-see_or_wait.ensures.is_continued refl)) in
    let sees : v ≡ reading (divided w) = c.if-see_or_wait.ensures.sees refl ∙ ap (λ (y : World). reading y) is in
    let is_valid : IsValid r first w cell v =
    subst (IsValid r first w cell) (sym sees)
    (pipe-taken r first w w (is_valid-first r first w c.requires.at.current) (within-world c.args.tokenizer.now)
    c.requires.pipe following) in
    let within = within-world c.see_or_wait.new.self in
    gap-proceeds r first cell w v v (world c.gap.new.tokenizer) c.gap.result is_valid within within refl refl refl
    (OfRow place.CellBefore refl refl refl) c.gap.ensures.none c.gap.ensures.to c.gap.ensures.world

pub returns-clause-falls : goal.returns-clause-falls
returns-clause-falls c = λ none.
    let w = world c.args.tokenizer.now in
    let u = world c.take_pipe.new.tokenizer in
    let v = world c.see_or_wait.new.self in
    let has_taken : is_ok c.take_pipe.result ≡ true = c.if-is_err.ensures.negation in
    let is : u ≡ divided w = on-ok c.take_pipe.result (u ≡ divided w) has_taken c.take_pipe.ensures.world in
    let sees : v ≡ reading (divided w) = c.if-see_or_wait.ensures.sees refl ∙ ap (λ (y : World). reading y) is in
    let same : cells_left v.setting.limit v.point ≡ cells_left (divided w).setting.limit (divided w).point =
    ap (λ (y : World). cells_left y.setting.limit y.point) sees in
    let here = seen-inside w.setting w.point 124 (sym c.requires.at.current ∙ c.requires.pipe) in
    let less = cells-fall w.setting w.point here in
    let falls = gap-falls v (world c.gap.new.tokenizer) (c.gap.ensures.none none) in
    omega (arith, same, less, falls)
