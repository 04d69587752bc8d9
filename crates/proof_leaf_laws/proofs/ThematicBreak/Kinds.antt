-- Which lines are breaks: by their cells those that are by their bytes.
use Rattle.std.specs.Prelude.{not, ◌==◌, nat_le, count_by}
use Rattle.std.proofs.Common.{◌≡◌, ℕ, zero, suc, ◌+◌, Bool, true, false, cond, ◌&&◌, ◌||◌, List, [], ◌∷◌, ◌++◌, length}
use Rattle.std.proofs.Common.{drop, ◌<◌, ◌^◌, refl, sym, ap, ap₂, ◌∙◌, subst, arith}
use Rattle.std.specs.List.{list_all, prefix_len}
use Rattle.std.proofs.lemmas.Bool.{and_parts, eq-eqb, eqb-true}
use Rattle.std.proofs.lemmas.Bool.Decides.{nat_tests}
use Rattle.md_engine.specs.declared.event.Point.{Point}
use Rattle.md_engine.specs.declared.tokenizer.Line.{Line}
use Rattle.md_engine.specs.Meaning.{Cell}
use Rattle.md_meaning.specs.Leaves.{is_rule, is_rule_marker}
use Rattle.md_events.specs.Events.Places.{past_byte}
use Rattle.md_meaning.specs.Rest.{Rest, has_small_indent, is_white, trim_start}
use Rattle.md_events.proofs.FeedLines.{Stops, all-spread, bytes_of, cell, columns_more, count-spread, spread, tab_cells}
use Rattle.md_events.proofs.RestCells.{RestAt, rest_cells}
use Rattle.md_meaning.proofs.TextsLemmas.{NoEnding}
use Rattle.md_engine.specs.declared.configuration.ParseOptions.{ParseOptions}
use Rattle.md_engine.specs.declared.tokenizer.held_leaf.HeldLeaf.{HeldLeaf}
use Rattle.proof_leaf_laws.proofs.HeadingSetext.Kinds.{underline-records}
use Rattle.proof_leaf_laws.specs.Leaf.ThematicBreak.{break_leaf}
use Rattle.md_meaning.specs.Texts.{first_byte}
use Rattle.proof_leaf_laws.proofs.MarkRuns.Cells.{IsMark}
use Rattle.proof_frame.proofs.MarkRuns.Fits.{Reports, line-fits}
use Rattle.md_leaves.specs.HeadingSetext.{turns_nothing}
use Rattle.md_leaves.specs.HeadingSetextRule.{is_underline}

-- The marker.

-- it may mark runs
pub break-mark : (m : ℕ) → is_rule_marker m ≡ true → IsMark m
break-mark m e = record {
  dark = grind (arith, nat_tests);
  no_ending = grind (arith, nat_tests);
  some = grind (arith, nat_tests);
}

-- a rule begins with it
pub rule-first : (bytes : List ℕ) → is_rule bytes ≡ true → is_rule_marker (first_byte bytes) ≡ true
rule-first [] e = cc
rule-first (m ∷ bytes) e =
    let both = (and_parts (is_rule_marker m && list_all (λ b. (b == m) || is_white b) bytes)
    (nat_le 2 (count_by (λ b. b == m) bytes)) e).0 in
    (and_parts (is_rule_marker m) (list_all (λ b. (b == m) || is_white b) bytes) both).0

-- before it is whitespace
pub first-following : (b : ℕ) (bs : List ℕ) (m : ℕ) → first_byte (trim_start (b ∷ bs)) ≡ m → (b == m) ≡ false →
    first_byte (trim_start bs) ≡ m
first-following b bs m first other = go (is_white b) first
  where
    go : (x : Bool) → first_byte (drop (cond x (1 + prefix_len is_white bs) 0) (b ∷ bs)) ≡ m →
        first_byte (trim_start bs) ≡ m
    go true first =
        let next : 1 + prefix_len is_white bs ≡ suc (prefix_len is_white bs) = omega arith in
        ap (λ (i : ℕ). first_byte (drop i (b ∷ bs))) (sym next) ∙ first
    go false first = let same : (b == m) ≡ true = eq-eqb b m first in absurd (cc)

-- A rule.

-- with true on the right a test is the same
or_true : (x y : Bool) → (x || true) ≡ (y || true)
or_true true true = refl
or_true true false = refl
or_true false true = refl
or_true false false = refl

-- a space is no marker
marker-apart : (b : ℕ) → is_rule_marker b ≡ true → (32 == b) ≡ false
marker-apart b e = grind (arith, nat_tests)

-- what begins with a tab is no rule
rule-tab : (line : Line) (n : ℕ) (p : Point) (cs : List Cell) → is_rule (bytes_of (tab_cells line n 9 p ++ cs)) ≡ false
rule-tab line zero p cs = refl
rule-tab line (suc n) p cs = refl

-- nor is what begins with another byte
rule-none : (b : ℕ) (bs : List ℕ) → is_rule_marker b ≡ false → is_rule (b ∷ bs) ≡ false
rule-none b bs e = rw e refl

-- a line is a rule by its cells if it is by its bytes
rule-spread : (line : Line) (bytes : List ℕ) (p : Point) → is_rule (bytes_of (spread line bytes p)) ≡ is_rule bytes
rule-spread line [] p = refl
rule-spread line (b ∷ bs) p = go (b == 9) refl (is_rule_marker b) refl
  where
    go : (t : Bool) → (b == 9) ≡ t → (m : Bool) → is_rule_marker b ≡ m →
        is_rule (bytes_of (spread line (b ∷ bs) p)) ≡ is_rule (b ∷ bs)
    go true e m k =
        let tab : b ≡ 9 = eqb-true b 9 e in
        subst (λ (c : ℕ). is_rule (bytes_of (spread line (c ∷ bs) p)) ≡ is_rule (c ∷ bs)) (sym tab)
        (rule-tab line (columns_more p) p (spread line bs (past_byte 9 p)))
    go false e false k =
        ap
        (λ (t : Bool).
        is_rule
        (bytes_of
        (cond t (tab_cells line (columns_more p) 9 p) (cell b (past_byte b p) line ∷ [])
        ++ spread line bs (past_byte b p)))) e
        ∙ rule-none b (bytes_of (spread line bs (past_byte b p))) k
        ∙ sym (rule-none b bs k)
    go false e true k =
        ap
        (λ (t : Bool).
        is_rule
        (bytes_of
        (cond t (tab_cells line (columns_more p) 9 p) (cell b (past_byte b p) line ∷ [])
        ++ spread line bs (past_byte b p)))) e
        ∙ ap
        (λ (t : Bool).
        is_rule_marker b && t && nat_le 2 (count_by (λ c. c == b) (bytes_of (spread line bs (past_byte b p)))))
        (all-spread (λ c. (c == b) || is_white c) (or_true (32 == b) (9 == b)) line bs (past_byte b p))
        ∙ ap (λ (n : ℕ). is_rule_marker b && list_all (λ c. (c == b) || is_white c) bs && nat_le 2 n)
        (count-spread (λ c. c == b) (marker-apart b k) line bs (past_byte b p))

-- whitespace begins none
pub rule-records : Reports is_rule
rule-records = record {
  spread_same = rule-spread;
  dark = λ b bs white. rule-none b bs (unmarked b white);
}
  where
    unmarked : (b : ℕ) → is_white b ≡ true → is_rule_marker b ≡ false
    unmarked b e = grind (arith, nat_tests)

-- A break is on a line by its cells if it does by its rest.
pub break-fits : (options : ParseOptions) (on : HeldLeaf) (said : Line) (text following : List ℕ) (r : Rest) (p : Point)
    (stop : List Cell) →
    RestAt text following r p → NoEnding r.bytes → Stops stop → length (rest_cells said r p ++ stop) < 2 ^ 63 →
    break_leaf.takes options on (rest_cells said r p ++ stop) ≡ break_leaf.starts options on r
break-fits options on said text following r p stop is h k short =
    ap₂ (λ (x y : Bool). x && not y)
    (line-fits is_rule rule-records options.constructs.thematic_break options said text following r p stop is h k short)
    (line-fits is_underline underline-records (turns_nothing options on) options said text following r p
    stop is h k short)
    ∙ go options.constructs.thematic_break (has_small_indent options r) (is_rule (trim_start r.bytes))
    (turns_nothing options on) (is_underline (trim_start r.bytes))
  where
    -- without a small indent neither is
    go : (a s b t u : Bool) → ((a && s && b) && not (t && s && u)) ≡ ((a && s && b) && not (t && u))
    go false s b t u = refl
    go true false b t u = refl
    go true true b false u = refl
    go true true b true u = refl
