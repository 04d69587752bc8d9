use Rattle.std.proofs.Common.{not, ap, ◌∙◌, arith}
use Rattle.std.specs.Prelude.{slice_index}
use Rattle.std.proofs.lemmas.Bool.Decides.{nat_tests}
use Rattle.md_engine.specs.Place.{is_ending}
use Rattle.md_engine.specs.World.{World, world}
use Rattle.md_events.proofs.SpreadLemmas.{other-seen, other-unknown}
use Rattle.md_events.proofs.space_or_tab.sees_other.Goals as goal

pub returns-then-end-tokenizer-clause-sees : goal.returns-then-end-tokenizer-clause-sees
returns-then-end-tokenizer-clause-sees c =
    let limit = ap (λ (w : World). w.setting.limit) c.spread_end-end.ensures.same in
    other-seen (world c.args.tokenizer.now) c.args.marker c.spread_end-end.result (not c.is_ending.result)
    c.args.tokenizer.now.sound.readable c.spread_end-end.ensures.ends (omega (arith, limit, c.if-end-tokenizer.true))
    (ap not c.is_ending.ensures
    ∙ ap (λ (w : World). not (is_ending (slice_index w.setting.bytes c.spread_end-end.result)))
    c.spread_end-end.ensures.same)

pub returns-else-end-tokenizer-clause-sees : goal.returns-else-end-tokenizer-clause-sees
returns-else-end-tokenizer-clause-sees c =
    let limit = ap (λ (w : World). w.setting.limit) c.spread_end-end.ensures.same in
    let past = c.if-end-tokenizer.false in
    other-unknown (world c.args.tokenizer.now) c.args.marker c.spread_end-end.result _
    c.args.tokenizer.now.sound.readable c.spread_end-end.ensures.ends (omega (arith, limit, past))
    (grind (arith, nat_tests, past))
