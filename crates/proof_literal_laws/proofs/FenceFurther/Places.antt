-- Where the parts of a further line of fenced code or math are: from the point where it begins to its end.
use Rattle.std.proofs.Common.{◌≡◌, ℕ, zero, suc, ◌≤◌, Bool, true, false, ◌&&◌, List, [], ◌∷◌}
use Rattle.std.proofs.Common.{◌++◌, length, drop, take, refl, sym, ◌∙◌, ap, arith, subst}
use Rattle.std.specs.Prelude.{◌==◌, nat_le}
use Rattle.std.specs.List.{list_all, prefix_len}
use Rattle.std.proofs.lemmas.Bool.{and_from, and_parts}
use Rattle.std.proofs.lemmas.Bool.Decides.{nat_tests}
use Rattle.std.proofs.lemmas.List.{take-append-drop}
use Rattle.md_engine.specs.declared.configuration.ParseOptions.{ParseOptions}
use Rattle.md_engine.specs.declared.event.Point.{Point}
use Rattle.md_engine.specs.declared.tokenizer.held_leaf.HeldLeaf.{HeldLeaf}
use Rattle.md_meaning.specs.Leaves.{closes}
use Rattle.md_meaning.specs.Rest.{Rest, after_indent, cut_tab, has_small_indent, indent, is_blank, run_len, trim_start}
use Rattle.md_literal.specs.Fence.{held_marker, held_size}
use Rattle.md_events.proofs.RestLines.{count-none, count-one, indent-trims}
use Rattle.md_events.specs.Events.Places.{past_text}
use Rattle.md_events.proofs.RestCells.{Bare, Cut, HasIndent, bare, indent-taken}
use Rattle.proof_literal_laws.specs.Leaf.FenceFurther.{opening_of}
use Rattle.proof_frame.specs.LineColumns.{past_columns}
use Rattle.proof_frame.proofs.IndentRemoved.Places.{FurtherAt, HasLeft, further-rest, has-left, unsaid}

-- A closing fence.

-- bytes that come first
take-run : (t : ℕ → Bool) (bytes : List ℕ) →
    (length (take (prefix_len t bytes) bytes) ≡ prefix_len t bytes)
    × (list_all t (take (prefix_len t bytes) bytes) ≡ true)
take-run t [] = (refl, refl)
take-run t (b ∷ bs) = go (t b) refl (take-run t bs)
  where
    Run : ℕ → Type 0
    Run k = (length (take k (b ∷ bs)) ≡ k) × (list_all t (take k (b ∷ bs)) ≡ true)

    go : (x : Bool) → t b ≡ x →
        (length (take (prefix_len t bs) bs) ≡ prefix_len t bs) × (list_all t (take (prefix_len t bs) bs) ≡ true) →
        Run (prefix_len t (b ∷ bs))
    go true e next =
        subst Run (sym (count-one t b bs e)) (ap suc next.0, and_from (t b) _ e next.1)
    go false e next = subst Run (sym (count-none t b bs e)) (refl, refl)

-- it is after its indent: enough markers, and whitespace alone
pub record HasClosing (bytes : List ℕ) (on : HeldLeaf) (r : Rest) (p q : Point) : Type 0 where
  -- what is there
  pub whole : (past_columns (indent r) r p).vs ≡ 0
  pub text : drop (past_columns (indent r) r p).index bytes ≡ trim_start r.bytes ++ drop q.index bytes
  pub ends : q ≡ past_text (trim_start r.bytes) (past_columns (indent r) r p)
  -- its sequence, and the whitespace after it
  pub cut : trim_start r.bytes ≡
      take (run_len (held_marker on) (trim_start r.bytes)) (trim_start r.bytes)
      ++ drop (run_len (held_marker on) (trim_start r.bytes)) (trim_start r.bytes)
  pub size : length (take (run_len (held_marker on) (trim_start r.bytes)) (trim_start r.bytes)) ≡
      run_len (held_marker on) (trim_start r.bytes)
  pub all : list_all (λ b. b == held_marker on)
      (take (run_len (held_marker on) (trim_start r.bytes)) (trim_start r.bytes)) ≡ true
  pub least : held_size on ≤ run_len (held_marker on) (trim_start r.bytes)
  pub blank : is_blank (drop (run_len (held_marker on) (trim_start r.bytes)) (trim_start r.bytes)) ≡ true

pub has-closing : (options : ParseOptions) (bytes : List ℕ) (on : HeldLeaf) (r : Rest) (p q : Point) →
    FurtherAt bytes r p q → closes options (opening_of on) r ≡ true → HasClosing bytes on r p q
has-closing options bytes on r p q is e =
    record {
      whole = vs left.spaces (bare left taken.none) valid.valid.cut;
      text = valid.valid.text_is ∙ lines left.spaces (bare left taken.none)
          ∙ ap (λ (l : List ℕ). l ++ drop q.index bytes) trims;
      ends = valid.ends
          ∙ ap (λ (l : List ℕ). past_text l (past_columns (indent r) r p))
          (line left.spaces (bare left taken.none) ∙ trims);
      cut = sym (take-append-drop (run_len m text) text);
      size = run.0;
      all = run.1;
      least = let le = inner.1 in grind (arith, nat_tests);
      blank = outer.1;
    }
  where
    m : ℕ
    m = held_marker on

    text : List ℕ
    text = trim_start r.bytes

    outer : (has_small_indent options r && nat_le (held_size on) (run_len m text) ≡ true)
        × (is_blank (drop (run_len m text) text) ≡ true)
    outer =
        and_parts (has_small_indent options r && nat_le (held_size on) (run_len m text))
        (is_blank (drop (run_len m text) text)) e

    inner : (has_small_indent options r ≡ true) × (nat_le (held_size on) (run_len m text) ≡ true)
    inner = and_parts (has_small_indent options r) (nat_le (held_size on) (run_len m text)) outer.0

    valid : HasLeft bytes (indent r) r p q
    valid = has-left bytes (indent r) r p q is

    left : Rest
    left = after_indent r

    taken : HasIndent unsaid bytes (drop q.index bytes) (indent r) r p [] (after_indent r)
    taken =
        indent-taken unsaid bytes (drop q.index bytes) (indent r) r p [] (further-rest bytes r p q is) tt
        (omega arith)

    trims : (after_indent r).bytes ≡ trim_start r.bytes
    trims = indent-trims r taken.none

    run : (length (take (run_len m text) text) ≡ run_len m text)
        × (list_all (λ b. b == m) (take (run_len m text) text) ≡ true)
    run = take-run (λ b. b == m) text

    vs : (k : ℕ) → Bare k left.bytes → Cut k (past_columns (indent r) r p) → (past_columns (indent r) r p).vs ≡ 0
    vs zero h c = c
    vs (suc k) h c = absurd h

    lines : (k : ℕ) → Bare k left.bytes →
        (cut_tab k ++ left.bytes ++ drop q.index bytes) ≡ (left.bytes ++ drop q.index bytes)
    lines zero h = refl
    lines (suc k) h = absurd h

    line : (k : ℕ) → Bare k left.bytes → (cut_tab k ++ left.bytes) ≡ left.bytes
    line zero h = refl
    line (suc k) h = absurd h
