-- What the resolvers are given of a text, and its lines where they are read: all of it as they ask.
use Rattle.md_engine.specs.declared.tokenizer.held_leaf.HeldLeaf.TheVariants as held_leaf
use Rattle.std.proofs.Common.{◌^◌, ◌<◌, ℕ, List, [], inr, length, drop, refl, sym, ◌∙◌, subst}
use Rattle.md_engine.specs.declared.configuration.ParseOptions.{ParseOptions}
use Rattle.md_engine.specs.declared.event.Event.{Event}
use Rattle.md_engine.specs.declared.event.Point.{Point}
use Rattle.md_engine.specs.Found.{Found}
use Rattle.md_engine.specs.World.{World}
use Rattle.md_meaning.specs.Texts.{split_lines}
use Rattle.md_registry.specs.Resolving.{lines_joined}
use Rattle.proof_rows.specs.TextRows.{text_rows}
use Rattle.proof_rows.specs.WithoutMdx.{IsWithoutMdx}
use Rattle.proof_rows.specs.Rows.{rows_events}
use Rattle.proof_rows.proofs.TextAre.{MayBegin, from-are}
use Rattle.proof_rows.proofs.AloneGroups.{leaves-alone}
use Rattle.proof_leaf_laws.specs.Headed.{heads_read}
use Rattle.proof_rows.proofs.NestGroups.{leaves-nest}
use Rattle.proof_rows.proofs.TextsNest.{lines-given, texts-given}
use Rattle.md_content.specs.ContentNests.{ContentNests, IsGiven}
use Rattle.md_flow.specs.Nests.{TextsNest}
use Rattle.md_order.specs.Alone.{HoldNoBlock, Nothing}
use Rattle.md_order.specs.InOrder.{every}
use Rattle.md_order.specs.Nests.{MayNest}
use Rattle.markdown_blocks.proofs.FlowReads.{FlowFlushed, MaySet, text-quiet}
use Rattle.markdown_blocks.proofs.ContentGroups.{content-are}
use Rattle.markdown_blocks.proofs.TextRule.Met.{texts-met}

-- What is read of lines of text nests, heads of tables first.
texts-nest : (options : ParseOptions) (bytes : List ℕ) (p : Point) → IsWithoutMdx options → length bytes < 2 ^ 61 →
    MayBegin bytes p → TextsNest bytes options (rows_events (text_rows options bytes p))
texts-nest options bytes p built small begins = λ out read.
    subst (IsGiven (rows_events (text_rows options bytes p)))
    (sym (content-are options bytes p built small begins out read))
    (texts-given options bytes p (split_lines (drop p.index bytes)) (text_rows options bytes p)
    (from-are options bytes p built small begins) (text-quiet options bytes p))

content-nests : (options : ParseOptions) (bytes : List ℕ) (p : Point) → IsWithoutMdx options → length bytes < 2 ^ 61 →
    MayBegin bytes p → ContentNests bytes options (heads_read options bytes (rows_events (text_rows options bytes p)))
content-nests options bytes p built small begins = λ out read.
    subst (IsGiven (heads_read options bytes (rows_events (text_rows options bytes p))))
    (sym (content-are options bytes p built small begins out read))
    (lines-given options bytes p (split_lines (drop p.index bytes)) (text_rows options bytes p)
    (from-are options bytes p built small begins) (text-quiet options bytes p))

-- Once the lines of each leaf of several are joined, leaf blocks hold no block: so the resolvers may run in one pass.
joined-alone : (options : ParseOptions) (bytes : List ℕ) (p : Point) → IsWithoutMdx options →
    length bytes < 2 ^ 61 → MayBegin bytes p → (found : Found) (new : World) →
    FlowFlushed bytes options p found new → HoldNoBlock Nothing (lines_joined options new.events)
joined-alone options bytes p built small begins found new flow =
    subst (λ (l : List Event). HoldNoBlock Nothing (lines_joined options l))
    (sym (flow.events_are ∙ content-are options bytes p built small begins flow.content flow.content_read))
    (leaves-alone options bytes [] held_leaf.None p (split_lines (drop p.index bytes)) (text_rows options bytes p)
    (refl, refl) (from-are options bytes p built small begins) (text-quiet options bytes p))

-- And each resolver gets what fits it.
joined-nests : (options : ParseOptions) (bytes : List ℕ) (p : Point) → IsWithoutMdx options →
    length bytes < 2 ^ 61 → MayBegin bytes p → (found : Found) (new : World) →
    FlowFlushed bytes options p found new → MayNest every bytes (lines_joined options new.events)
joined-nests options bytes p built small begins found new flow =
    subst (λ (l : List Event). MayNest every bytes (lines_joined options l))
    (sym (flow.events_are ∙ content-are options bytes p built small begins flow.content flow.content_read))
    (leaves-nest options bytes p (split_lines (drop p.index bytes)) (text_rows options bytes p)
    (from-are options bytes p built small begins) (text-quiet options bytes p))

pub joined-set : (options : ParseOptions) (bytes : List ℕ) (p : Point) → IsWithoutMdx options →
    length bytes < 2 ^ 61 → (found : Found) (new : World) → MayBegin bytes p → FlowFlushed bytes options p found new →
    MaySet bytes options p new.events
joined-set options bytes p built small found new begins flow = record {
  texts_nest = texts-nest options bytes p built small begins;
  content_nests = content-nests options bytes p built small begins;
  may_pass = inr (joined-alone options bytes p built small begins found new flow);
  may_nest = joined-nests options bytes p built small begins found new flow;
  texts_met = texts-met options bytes built small;
}
