use Rattle.std.proofs.Common.{◌≡◌, ◌∙◌, Option, Some, None, IfSome, ap, refl, subst, sym}
use Rattle.md_engine.specs.declared.state.html_flow.State.{State as HtmlState}
use Rattle.md_engine.specs.declared.state.Name.{Name as StateName}
use Rattle.md_engine.specs.declared.state.Name.TheVariants as n
use Rattle.md_engine.specs.declared.state.State.{State}
use Rattle.md_engine.specs.declared.state.State.TheVariants.{Next, Retry}
use Rattle.md_engine.specs.World.{World, world}
use Rattle.md_tables.specs.GfmTable.{AnswersWith}
use Rattle.md_tables.specs.GfmTable.AnswersWith.{ThatStays, ThatTook}
use Rattle.md_leaves.proofs.HeadingCalls.{ahead}
use Rattle.md_at_once.proofs.html_lines.next.Goals as goal

stays : (to : State) (name : StateName) (w : World) (o : Option HtmlState) → to ≡ Retry name →
    IfSome o (λ s. name ≡ n.HtmlFlow s) → IfSome o (λ next. AnswersWith to (n.HtmlFlow next) w w)
stays to name w None e h = tt
stays to name w (Some s) e h = ThatStays (e ∙ ap (λ (x : StateName). Retry x) h)

pub returns-in-Retry-clause-some : goal.returns-in-Retry-clause-some
returns-in-Retry-clause-some c =
    stays c.args.to c.in-Retry.name (world c.args.tokenizer.now) c.html_state.result c.in-Retry.is
    c.html_state.ensures

pub returns-else-see_or_wait-clause-some : goal.returns-else-see_or_wait-clause-some
returns-else-see_or_wait-clause-some c =
    subst (AnswersWith c.args.to (n.HtmlFlow c.in-Some.next) (world c.args.tokenizer.now))
    (sym (c.if-see_or_wait.ensures.sees refl))
    (ThatTook (c.in-Next.is ∙ ap (λ (x : StateName). Next x) c.in-Some.ensures)
    (ahead (c.if-see_or_wait.ensures.is_continued refl)))
