-- Each state of HTML takes one step of its rule.
use Rattle.std.proofs.Common.{◌≡◌}
use Rattle.md_engine.specs.declared.state.Name.TheVariants as n
use Rattle.md_engine.specs.declared.state.State.{State}
use Rattle.md_engine.specs.declared.state.State.TheVariants.{Next}
use Rattle.md_engine.specs.declared.state.html_flow.State.{State as HtmlState}
use Rattle.md_engine.specs.declared.state.html_flow.State.TheVariants as its
use Rattle.md_engine.specs.Meaning.{Behaviour, Feed, Steps}
use Rattle.md_engine.specs.Scheme.{After, Position, position}
use Rattle.md_engine.specs.World.{World, looks}
use Rattle.md_engine.specs.Sees.{Sees}
use Rattle.md_engine.proofs.StepOf.{steps-as}
use Rattle.md_literal.specs.Html.{HtmlInvariant, html_ready, html_transition}
use Rattle.md_literal.specs.HtmlRule.{HasHtml, HtmlMeans}
use Rattle.md_literal.proofs.HtmlContinuation as line
use Rattle.md_literal.proofs.HtmlOpening as opening
use Rattle.md_literal.proofs.HtmlTag as tag
use Rattle.md_literal.proofs.HtmlTagName.{tag_name_means}

-- each state of HTML takes one step of its rule
html_steps : (B : Behaviour) (feed : Feed) (state : HtmlState) (w : World) →
    HasHtml B w.setting.bytes w.setting.options → Sees feed w → w.current ≡ looks w →
    HtmlInvariant (n.HtmlFlow state) (position w) →
    Steps B feed (Next (n.HtmlFlow state)) w (html_transition state w).to (html_transition state w).world
html_steps B feed its.Start w has s c at = opening.start_means B feed w has
html_steps B feed its.Indent w has s c at = opening.indent_means B feed w has s
html_steps B feed its.Before w has s c at = opening.before_means B feed w has s
html_steps B feed its.Open w has s c at = opening.open_means B feed w has s
html_steps B feed its.DeclarationOpen w has s c at = opening.declaration_means B feed w has s
html_steps B feed its.CommentOpenInside w has s c at = opening.comment_means B feed w has s
html_steps B feed its.CdataOpenInside w has s c at = opening.cdata_means B feed w has s at.0
html_steps B feed its.TagCloseStart w has s c at = opening.close_start_means B feed w has s
html_steps B feed its.TagName w has s c at = tag_name_means B feed w has s c at.0 at.1 at.2
html_steps B feed its.BasicSelfClosing w has s c at = opening.self_closing_means B feed w has s
html_steps B feed its.CompleteClosingTagAfter w has s c at = tag.closing_means B feed w has s
html_steps B feed its.CompleteAttributeNameBefore w has s c at = tag.name_before_means B feed w has s
html_steps B feed its.CompleteAttributeName w has s c at = tag.name_means B feed w has s
html_steps B feed its.CompleteAttributeNameAfter w has s c at = tag.name_after_means B feed w has s
html_steps B feed its.CompleteAttributeValueBefore w has s c at = tag.value_before_means B feed w has s
html_steps B feed its.CompleteAttributeValueQuoted w has s c at = tag.quoted_means B feed w has s
html_steps B feed its.CompleteAttributeValueUnquoted w has s c at = tag.unquoted_means B feed w has s
html_steps B feed its.CompleteAttributeValueQuotedAfter w has s c at = tag.quoted_after_means B feed w has s
html_steps B feed its.CompleteEnd w has s c at = tag.end_means B feed w has s
html_steps B feed its.CompleteAfter w has s c at = tag.after_means B feed w has s
html_steps B feed its.Continuation w has s c at = line.continuation_means B feed w has s
html_steps B feed its.ContinuationStart w has s c at = line.continuation_start_means B feed w has
html_steps B feed its.ContinuationStartNonLazy w has s c at = line.continuation_start_non_lazy_means B feed w has
html_steps B feed its.ContinuationBefore w has s c at = line.continuation_before_means B feed w has s
html_steps B feed its.ContinuationCommentInside w has s c at =
    line.continuation_comment_inside_means B feed w has s at.0
html_steps B feed its.ContinuationRawTagOpen w has s c at = line.continuation_raw_tag_open_means B feed w has s at.0
html_steps B feed its.ContinuationRawEndTag w has s c at =
    line.continuation_raw_end_tag_means B feed w has s c at.0 at.1
html_steps B feed its.ContinuationCdataInside w has s c at = line.continuation_cdata_inside_means B feed w has s at.0
html_steps B feed its.ContinuationDeclarationInside w has s c at =
    line.continuation_declaration_inside_means B feed w has s at.0
html_steps B feed its.ContinuationClose w has s c at = line.continuation_close_means B feed w has s
html_steps B feed its.ContinuationAfter w has s c at = line.continuation_after_means B feed w has
html_steps B feed its.BlankLineBefore w has s c at = line.blank_line_before_means B feed w has s

-- what holds at each state is a part of what its attempts need
holds-at : (state : HtmlState) (x : Position) (K : After) → html_ready (n.HtmlFlow state) x K →
    HtmlInvariant (n.HtmlFlow state) x
holds-at its.CdataOpenInside x K at = (at.0, at.1.0)
holds-at its.TagName x K at = (at.0, at.1, at.2, at.3.0)
holds-at its.ContinuationCommentInside x K at = (at.0, at.1.0)
holds-at its.ContinuationRawTagOpen x K at = (at.0, at.1.0)
holds-at its.ContinuationRawEndTag x K at = (at.0, at.1.0, at.1.1.0)
holds-at its.ContinuationCdataInside x K at = (at.0, at.1.0)
holds-at its.ContinuationDeclarationInside x K at = (at.0, at.1.0)
holds-at _ x K at = at.0

pub html_means : (B : Behaviour) (feed : Feed) (state : HtmlState) (w : World) (K : After) →
    HasHtml B w.setting.bytes w.setting.options → Sees feed w → w.current ≡ looks w →
    html_ready (n.HtmlFlow state) (position w) K →
    Steps B feed (Next (n.HtmlFlow state)) w (html_transition state w).to (html_transition state w).world
html_means B feed state w K has s c at = html_steps B feed state w has s c (holds-at state (position w) K at)

-- what answers as the transition of a state does means what the state means
pub html_rule : (state : HtmlState) (w new : World) (to : State) → to ≡ (html_transition state w).to →
    new ≡ (html_transition state w).world → HtmlMeans state w to new
unfolding HtmlMeans
html_rule state w new to e k at c B feed has s =
    steps-as B feed _ _ to w _ new e k (html_steps B feed state w has s c at)
