-- The events of an underline, after the text of a heading.
use Rattle.std.proofs.Common.{◌≡◌, ℕ, true, List, [], ◌∷◌, ◌++◌, refl, ap, sym, ◌∙◌, subst}
use Rattle.std.specs.Prelude.{Option, option_map}
use Rattle.md_engine.specs.declared.configuration.ParseOptions.{ParseOptions}
use Rattle.md_engine.specs.declared.event.Event.{Event}
use Rattle.md_engine.specs.declared.event.Name.TheVariants as n
use Rattle.md_engine.specs.declared.event.Point.{Point}
use Rattle.md_meaning.specs.Rest.{Rest, trim_start}
use Rattle.md_meaning.specs.Texts.{first_byte}
use Rattle.md_leaves.specs.HeadingSetextRule.{is_underline}
use Rattle.md_outline.specs.LinesAllowed.{AfterTitle, AfterUnderline}
use Rattle.md_events.specs.Events.Grammar.{Expression, Nothing, plain_text, unread_text}
use Rattle.md_events.specs.Events.Nested.{exit}
use Rattle.md_events.specs.Events.Places.{past_text}
use Rattle.md_events.specs.Events.Spelled.{AsMarkers, OpenLeaf, noted}
use Rattle.md_events.proofs.EndingsLemmas.{Filling, in_leaf, others-lead}
use Rattle.md_events.proofs.GrammarLemmas.{Leads, leads-around}
use Rattle.proof_frame.specs.RestLine.{rest_line}
use Rattle.proof_leaf_laws.specs.Leaf.HeadingSetext.{setext_leaf, underline_line}
use Rattle.proof_frame.specs.Row.{Row}
use Rattle.proof_leaf_laws.proofs.HeadingSetext.Line.{underline-begins, underline-first_mark, underline-others}
use Rattle.proof_leaf_laws.proofs.HeadingSetext.Line.{underline-plain, underline-reads, underline-stretch}
use Rattle.proof_leaf_laws.proofs.HeadingSetext.Line.{underline-word, underline_marks, underline_parts}
use Rattle.proof_frame.proofs.PartedFacts.{clear}
use Rattle.proof_frame.proofs.RestFacts.{rest-trim}
use Rattle.proof_frame.proofs.LeafLines.Inside.{InsideFacts}
use Rattle.proof_frame.proofs.SpanLaws.{IsLineOf}
use Rattle.proof_content_laws.proofs.Text.MayPart as text
use Rattle.proof_rows.proofs.Turned.Events.{line_left, so_far}

-- Events from a point to a point that show the markers of an underline.
pub record LineInside (bytes : List ℕ) (p q : Point) (r : Rest) (es : List Event) : Type 0 where
  pub markers : List ℕ
  pub marker : first_byte markers ≡ first_byte (trim_start r.bytes)
  pub facts : (lines : List (List ℕ)) →
      InsideFacts bytes p q line_left Nothing (so_far [] lines) (so_far markers lines) AfterTitle AfterUnderline es es
  -- something is on their line
  pub fills : Filling es

-- where it begins no tab of a character is cut
pub line-clear : (options : ParseOptions) (bytes : List ℕ) (under : Row) → IsLineOf options bytes setext_leaf under →
    clear bytes under.first ≡ true
line-clear options bytes under is =
    text.line-clear bytes under is.rest.spaces is.rest.bytes is.at.cut is.at.text is.at.size

-- its begin fills the line
line-fills : (line : List ℕ) (p : Point) → Filling (underline_line line p)
line-fills line p from ys =
    others-lead (in_leaf true) (underline_parts line p ++ exit n.HeadingSetextUnderline (past_text line p) ∷ []) refl
    (underline-others line p) ys

pub line-inside : (options : ParseOptions) (bytes : List ℕ) (under : Row) →
    (is : IsLineOf options bytes setext_leaf under) → LineInside bytes under.first under.end is.rest under.inside
line-inside options bytes under is = record {
  markers = marks;
  marker = underline-first_mark line begins ∙ ap first_byte (rest-trim is.rest);
  facts = λ lines.
      subst
      (λ (es : List Event).
      InsideFacts bytes p q line_left Nothing (so_far [] lines) (so_far marks lines) AfterTitle AfterUnderline es es)
      (sym is.inside) (facts lines);
  fills = subst Filling (sym is.inside) (line-fills line p);
}
  where
    line : List ℕ
    line = rest_line is.rest

    p : Point
    p = under.first

    q : Point
    q = under.end

    events : List Event
    events = underline_line (rest_line is.rest) under.first

    begins : is_underline (trim_start (rest_line is.rest)) ≡ true
    begins = underline-begins options under.on is.rest is.starts

    marks : List ℕ
    marks = underline_marks line begins

    word : (text : Expression) → Leads text (line_left ∷ []) (Nothing ∷ []) events
    word text =
        leads-around text line_left n.HeadingSetextUnderline p (past_text line p) (underline_parts line p)
        (underline-word text line p begins)

    facts : (lines : List (List ℕ)) →
        InsideFacts bytes p q line_left Nothing (so_far [] lines) (so_far marks lines) AfterTitle AfterUnderline
        events events
    facts lines = record {
      parts = record {
        stretch = underline-stretch bytes is.rest line p q is.at begins;
        unread_word = word unread_text;
        word = word plain_text;
        unread_stays = λ from. (true, line-fills line p from);
        stays = λ from. (true, line-fills line p from);
        reads =
            λ r none opened. underline-reads bytes is.rest line p q r is.at begins none
            ∙ ap
            (λ (o : Option OpenLeaf).
            record r { leaf = option_map (noted AsMarkers (record { spaces = 0; text = marks })) o }) opened;
      };
      plain = λ whole. underline-plain bytes line p begins whole;
    }
