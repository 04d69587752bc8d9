use Rattle.std.proofs.Common.{length, refl, ap, sym, ◌∙◌, arith, rules}
use Rattle.markdown_inlines.proofs.ReadLemmas.{begins, read-smaller}
use Rattle.markdown_inlines.proofs.brackets.read.Goals as goal

pub pass_text-requires : goal.pass_text-requires
pass_text-requires c =
    begins c.args.source _ c.new.ensures.items c.new-2.ensures.items c.new-3.ensures.items refl refl

pub loop-byte-init : goal.loop-byte-init
loop-byte-init c = record {
  reads = c.in_ok-pass_text.ensures.reads;
  places = λ at from to dots. absurd (omega (arith, to));
  ends = c.in_ok-ends.ensures;
}

pub pass_text-requires-in-Some : goal.pass_text-requires-in-Some
pass_text-requires-in-Some c = c.in_ok-step.ensures.reads

pub loop-byte-preserved : goal.loop-byte-preserved
loop-byte-preserved c = record {
  reads = c.in_ok-pass_text-2.ensures.reads;
  places = c.in_ok-places.ensures;
  ends = c.in_ok-tried.ensures;
}

pub loop-byte-smaller : goal.loop-byte-smaller
loop-byte-smaller c =
    read-smaller c.args.source c.loop-byte.reading c.pass_text-in-Some.new.reading c.in-Some.byte.now
    c.in-Some.following.now
    (record {
      further =
          omega (arith, c.in_ok-step.ensures.further, c.in_ok-pass_text-2.ensures.further);
      reads = c.in_ok-pass_text-2.ensures.reads;
    }) (search rules)

pub match_last-requires-clause-end : goal.match_last-requires-clause-end
match_last-requires-clause-end c = ap length (sym c.after.ensures) ∙ c.in_default.ensures.cases
