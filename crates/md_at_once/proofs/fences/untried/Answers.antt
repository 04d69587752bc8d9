use Rattle.std.proofs.Common.{◌≡◌, ap, inl, is_ok, rules, subst, sym, true}
use Rattle.md_engine.specs.World.{World, looks, world}
use Rattle.md_engine.specs.declared.state.raw_flow.State.TheVariants as its
use Rattle.md_engine.specs.declared.state.Name.TheVariants as n
use Rattle.md_engine.proofs.Loops.{ArrivedHere, ArrivedAt, arrived-first}
use Rattle.md_engine.proofs.StayLemmas.{within-world}
use Rattle.md_registry.specs.States.{FlowStep}
use Rattle.md_at_once.specs.AtOnce.{unclosed}
use Rattle.md_at_once.proofs.NoClose.{closes-none}
use Rattle.md_tables.proofs.RowWords.{on-ok}
use Rattle.md_at_once.proofs.FlowRuns.{run-on, run-short}
use Rattle.md_at_once.proofs.WantOfMemory.{events-short}
use Rattle.md_at_once.proofs.fences.untried.Goals as goal

pub returns : goal.returns
returns c =
    run-short (n.RawFlow its.AtNonLazyBreak) (world c.args.tokenizer.now) c.begin_unclosed.new.tokenizer
    (events-short c.begin_unclosed.new.tokenizer (c.begin_unclosed.ensures.full (search rules)))

pub returns-2 : goal.returns-2
returns-2 c =
    let first = n.RawFlow its.AtNonLazyBreak in
    let next = n.RawFlow its.ContentStart in
    let w = world c.args.tokenizer.now in
    let u = world c.begin_unclosed.new.tokenizer in
    let has_begun : is_ok c.begin_unclosed.result ≡ true = c.if-or_error.ensures.negation in
    let begun : u ≡ unclosed w =
    on-ok c.begin_unclosed.result (u ≡ unclosed w) has_begun c.begin_unclosed.ensures.world in
    let arrived : ArrivedHere FlowStep first w next u = λ is_end s v named sees may.
    subst (λ (x : World). ArrivedAt FlowStep is_end s v next x) (sym begun)
    (closes-none is_end s v w c.requires.none c.requires.at.current (within-world c.args.tokenizer.now)
    (arrived-first FlowStep first w is_end s v named sees may)) in
    run-on first next w u c.line.result c.line.new.tokenizer arrived
    (subst (λ (x : World). x.current ≡ looks x) (sym begun) c.requires.at.current)
    (inl (ap (λ (x : World). x.point) begun)) c.line.ensures
