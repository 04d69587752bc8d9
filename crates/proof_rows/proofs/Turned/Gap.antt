-- What is between the text of a heading and its underline.
use Rattle.std.proofs.Common.{◌≡◌, ℕ, false, List, [], ◌∷◌, refl, ap, ◌∙◌}
use Rattle.std.specs.Prelude.{Option}
use Rattle.md_engine.specs.declared.event.Event.{Event}
use Rattle.md_engine.specs.declared.event.Name.TheVariants as n
use Rattle.md_engine.specs.declared.event.Point.{Point}
use Rattle.md_events.specs.Events.Grammar.{Expression, plain_text, unread_text}
use Rattle.md_events.specs.Events.Nested.{pair}
use Rattle.md_events.specs.Events.Spelled.{OpenLeaf}
use Rattle.md_events.proofs.EndingsLemmas.{Stays, stays-append, stays-others}
use Rattle.md_events.proofs.GrammarLemmas.{Leads, leads-append, leads-pair}
use Rattle.md_events.proofs.SetextReads.{read-setext_gap}
use Rattle.md_events.proofs.SpelledLemmas.{QuietOrPrefix, Roles}
use Rattle.md_outline.specs.LinesAllowed.{AfterTitle}
use Rattle.md_outline.proofs.LinesPass.{passes-gap}
use Rattle.proof_frame.proofs.FrontFacts.{LinePrefix}
use Rattle.proof_frame.proofs.FrontNames.{fronts-prefixes}
use Rattle.proof_frame.proofs.FrontValid.{fronts-others}
use Rattle.proof_frame.proofs.GrammarFronts.{front-stays}
use Rattle.proof_frame.proofs.LeafAllowed.{between-part}
use Rattle.proof_frame.proofs.Stretch.{stretch-as}
use Rattle.proof_frame.proofs.PrefixNames.{prefixes-roles}
use Rattle.md_events.proofs.FeedLines.{IsEnding}
use Rattle.proof_frame.proofs.LeafLines.Following.{GapFacts, gap-facts, gap-plain}
use Rattle.proof_frame.proofs.LeafLines.Inside.{InsideFacts}
use Rattle.proof_rows.proofs.Turned.Events.{gap_events, line_left, so_far, under_left}

-- prefixes are quiet, or prefixes
pub front-quiet : (bytes : List ℕ) (p q : Point) (front : List Event) → LinePrefix bytes [] p q front →
    Roles QuietOrPrefix front
front-quiet bytes p q front is =
    prefixes-roles QuietOrPrefix front tt tt tt (fronts-prefixes bytes [] p q front refl is)

pub gap-inside : (bytes : List ℕ) (p at q : Point) (front : List Event) (markers : List ℕ) (text : List (List ℕ)) →
    p.vs ≡ 0 → IsEnding bytes p at → LinePrefix bytes [] at q front →
    InsideFacts bytes p q under_left line_left (so_far markers text) (so_far markers text) AfterTitle
    AfterTitle (gap_events p at front) (gap_events p at front)
gap-inside bytes p at q front markers text whole is fronts = record {
  parts = record {
    stretch = stretch-as between-part gap.stretch;
    unread_word = word unread_text;
    word = word plain_text;
    unread_stays = stays;
    stays = stays;
    reads =
        λ r none opened. read-setext_gap bytes r p at front (record { markers = markers; text = text }) none opened
        (front-quiet bytes at q front fronts)
        ∙ ap (λ (o : Option OpenLeaf). record r { leaf = o }) opened;
  };
  plain = λ first. record {
    known = (gap-plain bytes (gap_events p at front) gap.stretch.roles).known;
    lines = passes-gap bytes (gap_events p at front) gap.stretch.roles;
  };
}
  where
    gap : GapFacts bytes false p q (gap_events p at front)
    gap = gap-facts bytes false p at q front whole is fronts

    word : (text : Expression) → Leads text (under_left ∷ []) (line_left ∷ []) (gap_events p at front)
    word text =
        leads-append text (under_left ∷ []) (line_left ∷ []) (line_left ∷ []) (pair n.LineEnding p at) front
        (leads-pair text under_left n.LineEnding p at refl)
        (front-stays text line_left bytes [] at q front (refl, refl) fronts refl)

    stays : Stays (gap_events p at front)
    stays =
        stays-append (pair n.LineEnding p at) front (λ from. (false, λ ys. refl))
        (stays-others front (fronts-others bytes [] at q front fronts))
