use Rattle.std.proofs.Common.{◌∙◌}
use Rattle.markdown_inlines.proofs.TokensLemmas.{ended_open, ended_tokens}
use Rattle.markdown_inlines.proofs.tokens.push_ends.Goals as goal

pub loop-part-preserved : goal.loop-part-preserved
loop-part-preserved c = record {
  tokens =
      ended_tokens _ _ _ _ _ c.in-Some.part _ c.args.to c.in-Some.ensures.some.1 c.in-Some.ensures.some.0
      c.in_ok-push_text.ensures c.in_ok-push.ensures
      ∙ c.loop-part.invariant.tokens;
  open_parts =
      ended_open _ _ c.in-Some.part c.args.to c.in-Some.ensures.some.1 c.in-Some.ensures.some.0
      ∙ c.loop-part.invariant.open_parts;
}
