-- The whitespace before an opening fence.
use Rattle.std.proofs.Common.{◌≡◌, ℕ, Bool, true, false, cond, List, [], ◌∷◌, ◌++◌, drop, take}
use Rattle.std.proofs.Common.{refl, sym, ap, ◌∙◌, subst, append_assoc, arith}
use Rattle.std.specs.List.{prefix_len}
use Rattle.std.proofs.lemmas.Bool.{and_from}
use Rattle.std.proofs.lemmas.List.{take-append-drop}
use Rattle.md_engine.specs.declared.event.Name.TheVariants as n
use Rattle.md_engine.specs.declared.event.Point.{Point}
use Rattle.md_meaning.specs.Rest.{is_blank, is_white}
use Rattle.md_events.proofs.RestLines.{count-none, count-one}
use Rattle.md_events.specs.Events.Nested.{pair}
use Rattle.md_events.specs.Events.Places.{past_text}
use Rattle.md_events.proofs.InlineLemmas.{before-text}
use Rattle.proof_literal_laws.specs.Leaf.Fence.{past_white, white_part}
use Rattle.proof_frame.proofs.BetweenFacts.{blank-low}
use Rattle.proof_frame.proofs.PlaceBetween.{low-following}
use Rattle.proof_literal_laws.proofs.Fence.Walk.{front-blank}
use Rattle.proof_frame.proofs.IndentRemoved.Shown.{whole-clear}
use Rattle.proof_frame.proofs.LineTexts.{past-whole}
use Rattle.proof_frame.proofs.PieceFacts.{CutsFirst, begins-cut, over-front, over-valid}
use Rattle.proof_frame.proofs.LeafLines.Lead.{LeadFacts, lead-none, lead-white}

-- it is spaces and tabs,
some-lead : (bytes : List ℕ) (b : ℕ) (bs rest : List ℕ) (p : Point) → drop p.index bytes ≡ (b ∷ bs) ++ rest →
    CutsFirst p (b ∷ bs) → is_blank (b ∷ bs) ≡ true →
    LeadFacts bytes p (past_text (b ∷ bs) p) (pair n.SpaceOrTab p (past_text (b ∷ bs) p))
some-lead bytes b bs rest p is cut blank =
    let q = past_text (b ∷ bs) p in
    lead-white bytes p q (before-text (b ∷ bs) p)
    (over-valid bytes n.SpaceOrTab p q (b ∷ bs) (over-front bytes p q (b ∷ bs) rest is (omega arith) refl)
    (begins-cut n.SpaceOrTab p refl) blank)
    (λ first. low-following bytes b bs rest p is (blank-low (b ∷ bs) blank))
    (λ first. whole-clear bytes q (past-whole (b ∷ bs) p (omega arith)))

-- or nothing
pub white-lead : (bytes line rest : List ℕ) (p : Point) → drop p.index bytes ≡ line ++ rest → CutsFirst p line →
    LeadFacts bytes p (past_white line p) (white_part line p)
white-lead bytes [] rest p is cut = lead-none bytes p
white-lead bytes (b ∷ bs) rest p is cut = go (is_white b) refl
  where
    left : List ℕ
    left = take (prefix_len is_white bs) bs

    following : List ℕ
    following = drop (prefix_len is_white bs) bs ++ rest

    valid : drop p.index bytes ≡ (b ∷ left) ++ following
    valid =
        is
        ∙ ap (λ (l : List ℕ). b ∷ (l ++ rest)) (sym (take-append-drop (prefix_len is_white bs) bs))
        ∙ ap (λ (l : List ℕ). b ∷ l) (append_assoc left (drop (prefix_len is_white bs) bs) rest)

    go : (x : Bool) → is_white b ≡ x →
        LeadFacts bytes p (past_white (b ∷ bs) p) (cond x (pair n.SpaceOrTab p (past_white (b ∷ bs) p)) [])
    go true e =
        subst
        (λ (k : ℕ). let q = past_text (take k (b ∷ bs)) p in LeadFacts bytes p q (pair n.SpaceOrTab p q))
        (sym (count-one is_white b bs e))
        (some-lead bytes b left following p valid cut (and_from (is_white b) (is_blank left) e (front-blank bs)))
    go false e =
        subst (λ (k : ℕ). LeadFacts bytes p (past_text (take k (b ∷ bs)) p) []) (sym (count-none is_white b bs e))
        (lead-none bytes p)
