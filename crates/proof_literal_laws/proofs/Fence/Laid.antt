-- How a fence lies on its line in a text.
use Rattle.std.proofs.Common.{◌≡◌, ℕ, Bool, true, false, ◌||◌, List, [], ◌∷◌, ◌++◌, take, drop, refl, sym, ap, ◌∙◌}
use Rattle.std.proofs.Common.{subst, append_assoc, arith}
use Rattle.std.specs.Prelude.{◌==◌}
use Rattle.std.specs.List.{prefix_len}
use Rattle.std.specs.Option.{is_some}
use Rattle.std.proofs.lemmas.Bool.Decides.{nat_tests}
use Rattle.std.proofs.lemmas.List.{take-append-drop}
use Rattle.md_engine.specs.declared.configuration.ParseOptions.{ParseOptions}
use Rattle.md_engine.specs.declared.event.Point.{Point}
use Rattle.md_meaning.specs.Leaves.{fence_at}
use Rattle.md_meaning.specs.Rest.{Rest, is_white, trim_start}
use Rattle.md_meaning.specs.Texts.{first_byte}
use Rattle.md_meaning.proofs.TextsLemmas.{no_ending-drop}
use Rattle.md_literal.specs.Fence.{may_begin}
use Rattle.md_events.proofs.RestLines.{count-none, count-one}
use Rattle.md_literal.proofs.FenceOpened.{marker-may}
use Rattle.md_events.specs.Events.Places.{past_byte, past_text}
use Rattle.md_events.proofs.FeedLines.{past_text-whole}
use Rattle.md_events.proofs.InlineLemmas.{past_text-append}
use Rattle.proof_frame.specs.RestLine.{rest_line}
use Rattle.proof_literal_laws.specs.Leaf.Fence.{past_white}
use Rattle.proof_literal_laws.proofs.Fence.Opened.{IsFence, fence-starts}
use Rattle.proof_frame.proofs.LineWalk.{At, past-valid}
use Rattle.proof_frame.proofs.LeafFacts.{LineAt}
use Rattle.proof_frame.proofs.LineTexts.{line-valid}
use Rattle.proof_frame.proofs.PieceFacts.{CutsFirst}
use Rattle.proof_frame.proofs.RestFacts.{rest-trim}

-- a line in a text, and the fence after its whitespace
pub record Laid (options : ParseOptions) (bytes line : List ℕ) (p : Point) (rest : List ℕ) : Type 0 where
  pub valid : drop p.index bytes ≡ line ++ rest
  pub cut : CutsFirst p line
  pub fence : IsFence options (trim_start line)
  pub at : At bytes (trim_start line) (past_white line p) rest
  pub ends : past_text (trim_start line) (past_white line p) ≡ past_text line p

-- a tab that is cut lies in the whitespace
white-whole : (line : List ℕ) (p : Point) → CutsFirst p line → may_begin (first_byte (trim_start line)) ≡ true →
    (past_white line p).vs ≡ 0
white-whole [] p cut may = cc
white-whole (b ∷ bs) p cut may = go (is_white b) refl cut may
  where
    dark : ((p.vs == 0) || (b == 9)) ≡ true → may_begin b ≡ true → p.vs ≡ 0
    dark cut may = grind (arith, nat_tests)

    go : (x : Bool) → is_white b ≡ x → ((p.vs == 0) || (b == 9)) ≡ true →
        may_begin (first_byte (trim_start (b ∷ bs))) ≡ true → (past_white (b ∷ bs) p).vs ≡ 0
    go true e cut may =
        ap (λ (k : ℕ). (past_text (take k (b ∷ bs)) p).vs) (count-one is_white b bs e)
        ∙ past_text-whole (take (prefix_len is_white bs) bs) (past_byte b p) refl
    go false e cut may =
        let none = count-none is_white b bs e in
        ap (λ (k : ℕ). (past_text (take k (b ∷ bs)) p).vs) none
        ∙ dark cut (sym (ap (λ (k : ℕ). may_begin (first_byte (drop k (b ∷ bs)))) none) ∙ may)

pub laid : (options : ParseOptions) (bytes : List ℕ) (r : Rest) (p q : Point) →
    is_some (fence_at options r) ≡ true → LineAt bytes r (rest_line r) p q →
    Laid options bytes (rest_line r) p (drop q.index bytes)
laid options bytes r p q starts is = record {
  valid = valid;
  cut = is.cut_first;
  fence = fence;
  at = record {
    valid =
        past-valid bytes (take size line) (drop size line ++ drop q.index bytes) p
        (valid ∙ ap (λ (l : List ℕ). l ++ drop q.index bytes) (sym (take-append-drop size line))
        ∙ append_assoc (take size line) (drop size line) (drop q.index bytes));
    none = no_ending-drop size line is.no_ending;
    whole = white-whole line p is.cut_first (marker-may options (first_byte (trim_start line)) fence.marker);
  };
  ends =
      sym (past_text-append (take size line) (drop size line) p)
      ∙ ap (λ (l : List ℕ). past_text l p) (take-append-drop size line);
}
  where
    line : List ℕ
    line = rest_line r

    size : ℕ
    size = prefix_len is_white (rest_line r)

    valid : drop p.index bytes ≡ line ++ drop q.index bytes
    valid = line-valid bytes r line p q is

    fence : IsFence options (trim_start (rest_line r))
    fence = subst (IsFence options) (sym (rest-trim r)) (fence-starts options r starts).fence
