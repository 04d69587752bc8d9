use Rattle.std.proofs.Common.{◌≡◌, ℕ, ◌+◌, take, drop, ap, sym, ◌∙◌}
use Rattle.std.proofs.lemmas.Result.{IfOk-weaker}
use Rattle.md_inline_events.specs.Forest.{size}
use Rattle.markdown_inlines.specs.Leading.{leads}
use Rattle.markdown_inlines.specs.declared.target.Target.{Target}
use Rattle.markdown_inlines.proofs.LeadingLemmas.{reference-size}
use Rattle.markdown_inlines.proofs.target.push_target.Goals as goal

pub returns-in-Full-clause-end : goal.returns-in-Full-clause-end
returns-in-Full-clause-end c =
    IfOk-weaker c.push_quoted.result _
    (λ (end : ℕ). end ≡ c.args.at + size (leads c.args.options.now c.args.following.now c.args.target))
    (λ end e.
    reference-size c.args.options.now (take c.in-Full.len (drop 1 c.args.following.now)) c.front.result.now c.args.at
    end (c.front.ensures ∙ ap (take c.in-Full.len) c.after.ensures) e
    ∙ ap (λ (t : Target). c.args.at + size (leads c.args.options.now c.args.following.now t)) (sym c.in-Full.is))
    c.push_quoted.ensures.end
