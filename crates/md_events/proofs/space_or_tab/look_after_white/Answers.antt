use Rattle.std.proofs.Common.{ap, sym, ◌∙◌, arith}
use Rattle.std.specs.Prelude.{slice_index}
use Rattle.md_engine.specs.World.{World, world}
use Rattle.md_events.specs.Look.{as_seen}
use Rattle.md_events.proofs.SpreadLemmas.{following-seen, following-unknown}
use Rattle.md_events.proofs.space_or_tab.look_after_white.Goals as goal

pub returns-then-end-tokenizer-clause-following : goal.returns-then-end-tokenizer-clause-following
returns-then-end-tokenizer-clause-following c =
    let limit = ap (λ (w : World). w.setting.limit) c.spread_end-end.ensures.same in
    following-seen (world c.args.tokenizer.now) c.spread_end-end.result c.as_seen.result
    c.args.tokenizer.now.sound.readable c.spread_end-end.ensures.ends (sym c.is_space_or_tab.ensures ∙ cc)
    (omega (arith, limit, c.if-end-tokenizer.true))
    (c.as_seen.ensures
    ∙ ap (λ (w : World). as_seen (slice_index w.setting.bytes c.spread_end-end.result)) c.spread_end-end.ensures.same)

pub returns-else-end-tokenizer-clause-following : goal.returns-else-end-tokenizer-clause-following
returns-else-end-tokenizer-clause-following c =
    let limit = ap (λ (w : World). w.setting.limit) c.spread_end-end.ensures.same in
    following-unknown (world c.args.tokenizer.now) c.spread_end-end.result
    c.args.tokenizer.now.sound.readable c.spread_end-end.ensures.ends (sym c.is_space_or_tab.ensures ∙ cc)
    (omega (arith, limit, c.if-end-tokenizer.false))
