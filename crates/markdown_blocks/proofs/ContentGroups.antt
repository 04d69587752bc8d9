-- What is in a text once its lines and its content are read: texts that are not read yet.
use Rattle.md_engine.specs.declared.tokenizer.held_leaf.HeldLeaf.TheVariants as held_leaf
use Rattle.std.proofs.Common.{◌≡◌, ◌^◌, ◌<◌, ℕ, List, [], length, drop, refl, subst}
use Rattle.md_engine.specs.declared.configuration.ParseOptions.{ParseOptions}
use Rattle.md_engine.specs.declared.event.Event.{Event}
use Rattle.md_engine.specs.declared.event.Point.{Point}
use Rattle.md_engine.specs.Place.{first_point}
use Rattle.md_meaning.specs.Texts.{split_lines}
use Rattle.md_content.specs.ContentReads.{content_readings, wants_content}
use Rattle.md_events.specs.Substituted.{Substituted}
use Rattle.proof_leaf_laws.specs.Front.{body_point, front_events}
use Rattle.proof_rows.specs.TextRows.{text_rows}
use Rattle.proof_rows.specs.WithoutMdx.{IsWithoutMdx}
use Rattle.proof_rows.specs.Rows.{groups, rows_events}
use Rattle.proof_rows.specs.Unread.{unread_groups}
use Rattle.proof_frame.proofs.ContentFacts.{content-alone}
use Rattle.proof_rows.proofs.ContentCut.{content-reads}
use Rattle.proof_rows.proofs.GroupLemmas.{content-read}
use Rattle.proof_rows.proofs.HeadJoined.{heads-joined}
use Rattle.proof_rows.proofs.Begun.{begun}
use Rattle.proof_leaf_laws.proofs.Frontmatter.Whole.{FrontPart}
use Rattle.proof_rows.proofs.TextAre.{MayBegin, from-are}
use Rattle.md_content.specs.Joined.{joined}
use Rattle.proof_leaf_laws.specs.Headed.{heads_read}
use Rattle.markdown_blocks.proofs.FlowReads.{text-quiet}

pub part-of : (options : ParseOptions) (bytes : List ℕ) →
    FrontPart bytes first_point (body_point options bytes) (front_events options bytes)
part-of options bytes = (begun options bytes).fronted.part

-- The events of a text, once flow and content were read, and heads of tables before content.
pub content-are : (options : ParseOptions) (bytes : List ℕ) (p : Point) → IsWithoutMdx options →
    length bytes < 2 ^ 61 → MayBegin bytes p → (content : List Event) →
    Substituted wants_content (content_readings bytes options) [] 0
    (joined (heads_read options bytes (rows_events (text_rows options bytes p)))) content →
    content ≡ unread_groups options bytes (groups (text_rows options bytes p))
content-are options bytes p built small begins content read =
    content-read options bytes [] held_leaf.None p (split_lines (drop p.index bytes)) (text_rows options bytes p)
    (refl, refl) (from-are options bytes p built small begins) (text-quiet options bytes p)
    wants_content (content_readings bytes options) refl content-alone
    (content-reads options bytes) content
    (subst (λ (l : List Event). Substituted wants_content (content_readings bytes options) [] 0 l content)
    (heads-joined options bytes [] held_leaf.None p (split_lines (drop p.index bytes)) (text_rows options bytes p)
    (from-are options bytes p built small begins) (text-quiet options bytes p)) read)
