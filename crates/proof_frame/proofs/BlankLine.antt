-- Blank lines: what is known of their whitespace.
use Rattle.std.proofs.Common.{◌≡◌, ℕ, true, List, [], ◌∷◌, ◌++◌, drop, refl, sym, ap, ◌∙◌, subst, arith, false}
use Rattle.std.specs.Prelude.{None}
use Rattle.md_engine.specs.declared.event.Event.{Event}
use Rattle.md_engine.specs.declared.event.Name.TheVariants as n
use Rattle.md_engine.specs.declared.event.Point.{Point}
use Rattle.md_events.specs.Events.Endings.{line_start}
use Rattle.md_events.specs.Events.Grammar.{Expression, blocks, plain_text, unread_text}
use Rattle.md_events.specs.Events.Nested.{pair}
use Rattle.md_events.specs.Events.Places.{past_text}
use Rattle.md_meaning.specs.Rest.{Rest, is_blank}
use Rattle.md_events.proofs.EndingsLemmas.{AreOthers, others-lead}
use Rattle.md_events.proofs.GrammarLemmas.{Leads}
use Rattle.md_events.proofs.InlineLemmas.{before-text}
use Rattle.md_events.proofs.SpelledLemmas.{Quiet, read-quiet}
use Rattle.proof_frame.specs.Row.{blank_line}
use Rattle.proof_frame.proofs.EventNames.{part-no_container}
use Rattle.proof_frame.proofs.LeafFacts.{LeafFacts, LineAt}
use Rattle.proof_frame.proofs.LeafAllowed.{between-are_valid, quiet-part, quiets-between}
use Rattle.proof_frame.proofs.LineTexts.{line-valid}
use Rattle.proof_frame.proofs.PartFacts.{NoLinks}
use Rattle.proof_frame.proofs.PieceFacts.{begins-cut, over-front, over-valid}
use Rattle.proof_frame.proofs.PlainFacts.{plain-quiet}
use Rattle.proof_frame.proofs.RestRows.{line-blank}
use Rattle.proof_frame.proofs.Stretch.{Stretch, stretch-as, stretch-none, stretch-pair, white-piece}

-- events that the tree does not show, and of which none is of a line's ending or a leaf
pub quiet-facts : (bytes : List ℕ) (p q : Point) (es : List Event) → Stretch Quiet bytes p q es es → AreOthers es →
    ((text : Expression) → Leads text (blocks ∷ []) (blocks ∷ []) es) → LeafFacts bytes None false p q es es
quiet-facts bytes p q es h others word = record {
  are_valid = record {
    stretch = stretch-as (λ x quiet. part-no_container x (quiet-part x quiet)) h;
    following = false;
    unread_word = word unread_text;
    word = word plain_text;
    unread_ending = others-lead line_start es refl others;
    ending = others-lead line_start es refl others;
    valid = λ held. between-are_valid bytes held es (quiets-between es h.roles);
    plain = λ whole. plain-quiet bytes es h.roles;
  };
  reads = λ r none shut. read-quiet bytes r es h.roles;
}

-- A blank line shows no block.
pub blank-facts : (bytes line : List ℕ) (r : Rest) (p q : Point) → is_blank r.bytes ≡ true → LineAt bytes r line p q →
    LeafFacts bytes None false p q (blank_line line p) (blank_line line p)
blank-facts bytes line r p q blank at =
    subst (λ (x : Point). LeafFacts bytes None false p x (blank_line line p) (blank_line line p)) (sym at.end)
    (go line (ap is_blank at.line_is ∙ line-blank r ∙ blank) text)
  where
    text : drop p.index bytes ≡ line ++ drop q.index bytes
    text = line-valid bytes r line p q at

    go : (line : List ℕ) → is_blank line ≡ true → drop p.index bytes ≡ line ++ drop q.index bytes →
        LeafFacts bytes None false p (past_text line p) (blank_line line p) (blank_line line p)
    go [] blank text = quiet-facts bytes p p [] (stretch-none Quiet bytes p) refl (λ t outer. refl)
    go (b ∷ line) blank text =
        let e = past_text (b ∷ line) p in
        quiet-facts bytes p e (pair n.SpaceOrTab p e)
        (stretch-pair Quiet bytes n.SpaceOrTab p e
        (white-piece Quiet bytes tt) (before-text (b ∷ line) p)
        (over-valid bytes n.SpaceOrTab p e (b ∷ line)
        (over-front bytes p e (b ∷ line) (drop q.index bytes) text (omega arith) refl)
        (begins-cut n.SpaceOrTab p refl) blank)) refl (λ t outer. refl)

-- nothing is read of it later
pub blank-unlinked : (line : List ℕ) (p : Point) → NoLinks (blank_line line p)
blank-unlinked [] p = tt
blank-unlinked (b ∷ line) p = (refl, (refl, tt))
