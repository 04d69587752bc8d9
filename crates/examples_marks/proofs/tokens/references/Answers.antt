use Rattle.std.proofs.Common.{◌<◌, length, sym, ◌∙◌, arith}
use Rattle.examples_marks.specs.References.{forms_of}
use Rattle.examples_marks.proofs.ReferenceLemmas.{last_step, reference_fits, reference_step}
use Rattle.examples_marks.proofs.tokens.references.Goals as goal

pub overflow_add-len : goal.overflow_add-len
overflow_add-len c =
    let fits : c.in-Reference.len < length c.in-Some.following.now =
    reference_fits (forms_of c.args.labels.now) c.in-Some.byte.now c.in-Some.following.now c.in-Reference.len
    (sym c.in-Reference.is ∙ c.in_ok-len.ensures) in
    grind (arith, fits)

pub split_at-requires-in-Reference : goal.split_at-requires-in-Reference
split_at-requires-in-Reference c =
    omega (
      arith,
      reference_fits (forms_of c.args.labels.now) c.in-Some.byte.now c.in-Some.following.now c.in-Reference.len
          (sym c.in-Reference.is ∙ c.in_ok-len.ensures),
    )

pub loop-byte-preserved : goal.loop-byte-preserved
loop-byte-preserved c = record {
  tokens =
      reference_step (forms_of c.args.labels.now) c.loop-byte.plain c.in-Reference.len c.in-Some.byte.now
      c.in-Some.following.now c.loop-byte.rest.now c.split_at-in-Reference.result.1.now c.loop-byte.list.items _ _ _
      c.in-Some.ensures.cases.0 (sym c.in-Reference.is ∙ c.in_ok-len.ensures) c.split_at-in-Reference.ensures.back
      c.in_ok-push-in-Reference.ensures c.in_ok-push_reference-in-Reference.ensures c.loop-byte.invariant.tokens;
  sized = grind arith;
}

pub returns : goal.returns
returns c =
    last_step (forms_of c.args.labels.now) c.loop-byte.plain c.loop-byte.rest.now c.loop-byte.list.items _ _
    c.in_default.ensures.cases c.in_ok-push.ensures c.loop-byte.invariant.tokens
