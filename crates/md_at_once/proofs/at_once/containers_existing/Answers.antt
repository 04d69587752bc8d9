use Rattle.std.proofs.Common.{◌≡◌, ◌≢◌, ◌⊎◌, ◌<◌, ◌∙◌, Some, false, true, ap, arith, inl, inr, is_ok, refl, rules, subst, sym}
use Rattle.std.specs.Prelude.{OnOk}
use Rattle.std.specs.declared.result.Result.{Result}
use Rattle.md_engine.specs.declared.state.document.State.{State as DocumentState}
use Rattle.md_engine.specs.declared.state.document.State.TheVariants as document
use Rattle.md_engine.specs.declared.state.Name.TheVariants as n
use Rattle.md_engine.specs.declared.state.State.TheVariants.{Error, Next}
use Rattle.md_engine.specs.Run.{Runs, RunsHere, plain}
use Rattle.md_engine.specs.Scheme.{cells_left}
use Rattle.md_engine.specs.World.{World, looks, world}
use Rattle.md_engine.proofs.Loops.{ArrivedHere, ArrivedAt, call-sees, arrived-calls, arrived-first, not_error}
use Rattle.md_engine.proofs.StayLemmas.{within-world}
use Rattle.md_leaves.proofs.HeadingCalls.{remains-of, sees-from}
use Rattle.md_registry.specs.AtOnce.{ContinuesAtOnce, asking_next}
use Rattle.md_registry.specs.Flow.{existing_after_transition, existing_before_transition}
use Rattle.md_registry.specs.States.{FlowStep}
use Rattle.md_registry.proofs.AtOnce.{AskedHas, asked-prefix, asked_taken, existing-remains, proceeds-on, took-prefix}
use Rattle.md_registry.specs.LineFlags.{next_container}
use Rattle.md_registry.specs.Registry.{opener_front, openers}
use Rattle.md_at_once.specs.AtOnce.{EndsAtOnce, SeesAhead}
use Rattle.md_at_once.proofs.NoIndent.{container-ends, ends-ahead, existing-stays, taken-held}
use Rattle.md_tables.proofs.RowWords.{on-ok}
use Rattle.md_at_once.proofs.FlowRuns.{run-short}
use Rattle.md_at_once.proofs.WantOfMemory.{events-short, state-wants}
use Rattle.md_at_once.proofs.at_once.containers_existing.Goals as goal

-- the next container was asked, and its prefix was taken
taken : {T E : Type 0} → (x : Result T E) (w w0 w1 : World) → is_ok x ≡ true → w0 ≡ asking_next w →
    OnOk x (w1 ≡ asked_taken w0) → w1 ≡ asked_taken (asking_next w)
taken x w w0 w1 fine is h = on-ok x (w1 ≡ asked_taken w0) fine h ∙ ap asked_taken is

pub take_plain_prefix-requires : goal.take_plain_prefix-requires
take_plain_prefix-requires c =
    let w = world c.loop-tokenizer.tokenizer in
    let is = c.ask_next.ensures ∙ ap asking_next c.continues_at_once.ensures.same in
    subst AskedHas (sym is) (asked-prefix w (c.continues_at_once.ensures.proceeds c.loop-tokenizer-test.true))

-- one that does not change is held as it was
pub was_continued-requires : goal.was_continued-requires
was_continued-requires c =
    let w = world c.loop-tokenizer.tokenizer in
    let w0 = world c.ask_next.new.tokenizer in
    let w1 = world c.take_plain_prefix.new.tokenizer in
    let at_once : ContinuesAtOnce w = c.continues_at_once.ensures.proceeds c.loop-tokenizer-test.true in
    let has_taken : is_ok c.take_plain_prefix.result ≡ true = c.if-or_error.ensures.negation in
    let asks : w0 ≡ asking_next w = c.ask_next.ensures ∙ ap asking_next c.continues_at_once.ensures.same in
    let e : w1 ≡ asked_taken (asking_next w) = taken c.take_plain_prefix.result w w0 w1 has_taken asks
    c.take_plain_prefix.ensures.world in
    record {
      current = (took-prefix w w1 at_once e).seen;
      kept = λ changes.
          let filled : (asking_next w).flags.asked.starts_blank ≡ false =
          subst (λ (x : World). x.flags.asked.starts_blank ≡ false) asks changes in
          subst (λ (x : World). next_container x.flags ≡ Some x.flags.asked) (sym e) (taken-held w at_once filled);
    }

pub loop-tokenizer-init : goal.loop-tokenizer-init
loop-tokenizer-init c = record {
  current = c.requires.current;
  arrived = arrived-first FlowStep (n.Document document.ContainerExistingBefore) (world c.args.tokenizer.now);
  may = inl refl;
}

pub loop-tokenizer-smaller : goal.loop-tokenizer-smaller
loop-tokenizer-smaller c =
    let w = world c.loop-tokenizer.tokenizer in
    let w0 = world c.ask_next.new.tokenizer in
    let w1 = world c.take_plain_prefix.new.tokenizer in
    let w2 = world c.was_continued.new.tokenizer in
    let at_once : ContinuesAtOnce w = c.continues_at_once.ensures.proceeds c.loop-tokenizer-test.true in
    let has_taken : is_ok c.take_plain_prefix.result ≡ true = c.if-or_error.ensures.negation in
    let e : w1 ≡ asked_taken (asking_next w) = taken c.take_plain_prefix.result w w0 w1 has_taken
    (c.ask_next.ensures ∙ ap asking_next c.continues_at_once.ensures.same) c.take_plain_prefix.ensures.world in
    let k : w2 ≡ (existing_after_transition w1).world = c.was_continued.ensures in
    let less = (took-prefix w w1 at_once e).less in
    let same : cells_left w2.setting.limit w2.point ≡ cells_left w1.setting.limit w1.point =
    ap (λ (y : World). cells_left y.setting.limit y.point) k in
    omega (arith, less, same)

pub loop-tokenizer-preserved : goal.loop-tokenizer-preserved
loop-tokenizer-preserved c =
    let w = world c.loop-tokenizer.tokenizer in
    let w0 = world c.ask_next.new.tokenizer in
    let w1 = world c.take_plain_prefix.new.tokenizer in
    let w2 = world c.was_continued.new.tokenizer in
    let at_once : ContinuesAtOnce w = c.continues_at_once.ensures.proceeds c.loop-tokenizer-test.true in
    let has_taken : is_ok c.take_plain_prefix.result ≡ true = c.if-or_error.ensures.negation in
    let e : w1 ≡ asked_taken (asking_next w) = taken c.take_plain_prefix.result w w0 w1 has_taken
    (c.ask_next.ensures ∙ ap asking_next c.continues_at_once.ensures.same) c.take_plain_prefix.ensures.world in
    let k : w2 ≡ (existing_after_transition w1).world = c.was_continued.ensures in
    let took = took-prefix w w1 at_once e in
    record {
      current = subst (λ (y : World). y.current ≡ looks y) (sym k) took.seen;
      arrived = λ is_end s v named from may.
          subst
          (λ (y : World). ArrivedAt FlowStep is_end s v (n.Document document.ContainerExistingBefore) y) (sym k)
          (proceeds-on is_end s v w w1 (c.loop-tokenizer.invariant.arrived is_end s v named from may)
          c.loop-tokenizer.invariant.current (within-world c.loop-tokenizer.tokenizer) at_once e
          (within-world c.take_plain_prefix.new.tokenizer));
      may = inr (subst (λ (y : World). y.point.index < y.setting.limit) (sym k) took.inside);
    }

pub container_existing_before-requires : goal.container_existing_before-requires
container_existing_before-requires c = record {
  current = subst (λ (y : World). y.current ≡ looks y) (sym c.continues_at_once.ensures.same)
      c.loop-tokenizer.invariant.current;
  has = tt;
}

pub returns-in-loop-tokenizer-clause-run : goal.returns-in-loop-tokenizer-clause-run
returns-in-loop-tokenizer-clause-run c =
    run-short (n.Document document.ContainerExistingBefore) (world c.args.tokenizer.now)
    c.take_plain_prefix.new.tokenizer
    (events-short c.take_plain_prefix.new.tokenizer (c.take_plain_prefix.ensures.full (search rules)))

pub returns-then-has_no_indent-clause-run : goal.returns-then-has_no_indent-clause-run
returns-then-has_no_indent-clause-run c =
    let old = world c.args.tokenizer.now in
    let w = world c.continues_at_once.new.tokenizer in
    let first = n.Document document.ContainerExistingBefore in
    let is = sym c.continues_at_once.ensures.same in
    let ends : EndsAtOnce w = c.if-has_no_indent.ensures refl in
    let seen : w.current ≡ looks w = subst (λ (y : World). y.current ≡ looks y) is c.loop-tokenizer.invariant.current in
    let arrived : ArrivedHere FlowStep first old first w =
    subst (λ (y : World). ArrivedHere FlowStep first old first y) is c.loop-tokenizer.invariant.arrived in
    let runs : RunsHere FlowStep first old (Next (n.Document c.first_opener.result))
    (world c.ask_next-then-has_no_indent.new.tokenizer) =
    λ is_end s v named from may.
    let run = container-ends is_end s v w ends seen (within-world c.continues_at_once.new.tokenizer)
    (arrived is_end s v named from may) in
    let at : Runs FlowStep is_end s v (Next (n.Document (opener_front openers)))
    (world c.ask_next-then-has_no_indent.new.tokenizer) =
    subst (λ (y : World). Runs FlowStep is_end s v (Next (n.Document (opener_front openers))) y)
    (sym c.ask_next-then-has_no_indent.ensures) run in
    subst (λ (x : DocumentState). Runs FlowStep is_end s v (Next (n.Document x))
    (world c.ask_next-then-has_no_indent.new.tokenizer))
    (sym c.first_opener.ensures) at in
    record { runs = λ fine. runs; sees = λ fine. tt; full = tt }

pub returns-then-has_no_indent-clause-opens : goal.returns-then-has_no_indent-clause-opens
returns-then-has_no_indent-clause-opens c = λ name e.
    let w = world c.continues_at_once.new.tokenizer in
    let is = sym c.continues_at_once.ensures.same in
    let ends : EndsAtOnce w = c.if-has_no_indent.ensures refl in
    let seen : w.current ≡ looks w = subst (λ (y : World). y.current ≡ looks y) is c.loop-tokenizer.invariant.current in
    subst SeesAhead (sym c.ask_next-then-has_no_indent.ensures) (ends-ahead w ends seen)

pub returns-clause-opens : goal.returns-clause-opens
returns-clause-opens c = λ name e.
    let w = world c.continues_at_once.new.tokenizer in
    let fine = not_error c.container_existing_before.result name (ap plain e) in
    absurd (existing-stays w name (sym (c.container_existing_before.ensures.to fine) ∙ e))

pub returns-clause-run : goal.returns-clause-run
returns-clause-run c =
    let old = world c.args.tokenizer.now in
    let w = world c.continues_at_once.new.tokenizer in
    let first = n.Document document.ContainerExistingBefore in
    let arrived : ArrivedHere FlowStep first (world c.args.tokenizer.now) first w =
    subst (λ (y : World). ArrivedHere FlowStep first (world c.args.tokenizer.now) first y)
    (sym c.continues_at_once.ensures.same) c.loop-tokenizer.invariant.arrived in
    let to = c.container_existing_before.result in
    let w' = world c.container_existing_before.new.tokenizer in
    let is = sym c.continues_at_once.ensures.same in
    let seen : w.current ≡ looks w = subst (λ (y : World). y.current ≡ looks y) is c.loop-tokenizer.invariant.current in
    let may : (w.point ≡ old.point) ⊎ (w.point.index < w.setting.limit) =
    subst (λ (y : World). (y.point ≡ old.point) ⊎ (y.point.index < y.setting.limit)) is
    c.loop-tokenizer.invariant.may in
    let kept = λ (fine : to ≢ Error).
    ap (λ (x : World). x.setting) (c.container_existing_before.ensures.world fine) ∙ (existing-remains w).1 in
    record {
      runs = λ fine.
          arrived-calls FlowStep first first old w to w' arrived
          (record {
            to_is = c.container_existing_before.ensures.to fine;
            new_is = c.container_existing_before.ensures.world fine;
          }) fine (kept fine) (within-world c.continues_at_once.new.tokenizer);
      sees = λ fine.
          sees-from to old w w'
          (call-sees to w w'
          (remains-of (existing_before_transition w) to w w'
          (c.container_existing_before.ensures.to fine) (c.container_existing_before.ensures.world fine)
          (existing-remains w).0) (kept fine) seen) (kept fine) may;
      full =
          state-wants first old to c.container_existing_before.new.tokenizer
          c.container_existing_before.ensures.full;
    }
