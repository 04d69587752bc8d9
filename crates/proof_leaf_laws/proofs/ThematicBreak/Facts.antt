-- What is known of the events of a thematic break, by the bytes of its line.
use Rattle.std.proofs.Common.{◌≡◌, ℕ, suc, ◌+◌, Bool, true, false, cond, ◌&&◌, ◌||◌, List, [], ◌∷◌, ◌++◌, drop}
use Rattle.std.proofs.Common.{refl, ap, sym, ◌∙◌, subst, arith}
use Rattle.std.specs.Prelude.{◌==◌, nat_le, count_by, Some}
use Rattle.std.specs.List.{list_all, prefix_len}
use Rattle.std.proofs.lemmas.Bool.{and_parts, eq-eqb, or_left, or_right}
use Rattle.std.proofs.lemmas.Bool.Decides.{nat_tests}
use Rattle.md_engine.specs.declared.configuration.ParseOptions.{ParseOptions}
use Rattle.md_engine.specs.declared.event.Event.{Event}
use Rattle.md_engine.specs.declared.event.Name.TheVariants as n
use Rattle.md_engine.specs.declared.event.Point.{Point}
use Rattle.md_containers.specs.ItemsAllowed.{IsPart}
use Rattle.md_events.specs.Events.Endings.{on_line}
use Rattle.md_events.specs.Events.Grammar.{Expression, Nothing, following, inside, plain_text, unread_text}
use Rattle.md_events.specs.Events.Pieces.{is_run, may_cover}
use Rattle.md_events.specs.Events.Places.{past_byte, past_text}
use Rattle.md_events.specs.Events.Spelled.{OfBare, role}
use Rattle.md_meaning.specs.Leaves.{is_rule, is_rule_marker}
use Rattle.md_meaning.specs.Rest.{Rest, is_white, trim_start}
use Rattle.md_meaning.specs.declared.outline.Word.TheVariants.{Break}
use Rattle.md_meaning.specs.Tree.{Bare}
use Rattle.md_events.proofs.EndingsLemmas.{AreOthers, Leads, in_leaf, is_other, others-lead}
use Rattle.md_events.proofs.GrammarLemmas.{IsWord}
use Rattle.md_events.proofs.SpelledLemmas.{Quiet, Roles}
use Rattle.proof_frame.proofs.EachEvent.{Each}
use Rattle.proof_frame.specs.RestLine.{rest_line}
use Rattle.proof_leaf_laws.specs.Leaf.ThematicBreak.{break_line, is_ruled}
use Rattle.md_meaning.specs.Texts.{first_byte}
use Rattle.proof_frame.specs.MarkRuns.{Apart, Marks, Run, White, mark_runs}
use Rattle.proof_frame.proofs.BetweenFacts.{is_low}
use Rattle.proof_frame.proofs.LeafFacts.{LeafFacts, LineAt}
use Rattle.proof_frame.proofs.LeafLines.Leaf.{leaf-around}
use Rattle.proof_frame.proofs.LineTexts.{line-valid}
use Rattle.proof_frame.proofs.MarkRuns.Each.{Holds, each-others, each-roles, line-holds, runs-hold}
use Rattle.proof_frame.proofs.OutsideFacts.{IsOutside, LineResolver}
use Rattle.proof_frame.proofs.PieceFacts.{Starts}
use Rattle.proof_frame.proofs.PieceRuns.{AreMarks, AreRuns, IsMarker, marker-run, runs-start, runs-stretch}
use Rattle.proof_frame.proofs.PlainFacts.{plain-around, plain-quiet}
use Rattle.proof_frame.proofs.RestFacts.{rest-trim}
use Rattle.proof_frame.proofs.SpanLemmas.{either}
use Rattle.proof_frame.proofs.SpannedFacts.{AreUnspanned, IsUnspanned}
use Rattle.proof_leaf_laws.proofs.ThematicBreak.Kinds.{break-mark, first-following, rule-first}
use Rattle.md_events.proofs.BreakReads.{read-break}

-- its runs
abbrev marks_of : Run → ℕ → List ℕ → Point → List Event
marks_of run m bs p = mark_runs n.ThematicBreakSequence run m bs p

-- Each event.

-- what holds of its names holds of each event in it
parts-hold : (P : Event → Type 0) → Holds P n.SpaceOrTab → Holds P n.ThematicBreakSequence → (m : ℕ) (bs : List ℕ)
    (p : Point) → Each P (marks_of Apart m bs p)
parts-hold P space mark m bs p = runs-hold P n.ThematicBreakSequence space mark Apart m bs p

-- of each event of the whole break
break-holds : (P : Event → Type 0) → Holds P n.ThematicBreak → Holds P n.SpaceOrTab → Holds P n.ThematicBreakSequence →
    (line : List ℕ) (p : Point) → Each P (break_line line p)
break-holds P around_it space mark line p =
    line-holds P n.ThematicBreak n.ThematicBreakSequence around_it space mark (first_byte (trim_start line)) line p
    (past_text line p)

-- the tree shows none in it
runs-quiet : (m : ℕ) (bs : List ℕ) (p : Point) → Roles Quiet (marks_of Apart m bs p)
runs-quiet m bs p =
    each-roles Quiet (marks_of Apart m bs p)
    (parts-hold (λ (e : Event). Quiet (role e.name)) (λ q. tt, λ q. tt) (λ q. tt, λ q. tt) m bs p)

-- none ends a line
runs-others : (m : ℕ) (bs : List ℕ) (p : Point) → AreOthers (marks_of Apart m bs p)
runs-others m bs p =
    each-others (marks_of Apart m bs p)
    (parts-hold (λ (e : Event). is_other (on_line e.name) ≡ true) (λ q. refl, λ q. refl) (λ q. refl, λ q. refl) m bs p)

-- none is a resolver's, so the resolver passes the break,
pub break-set : (resolver : LineResolver) (line : List ℕ) (p : Point) (es : List Event) →
    resolver.resolved (break_line line p ++ es) ≡ break_line line p ++ resolver.resolved es
break-set resolver line p es =
    resolver.passes (break_line line p) es
    (break-holds IsOutside (λ q. refl, λ q. refl) (λ q. refl, λ q. refl) (λ q. refl, λ q. refl) line p)

-- and so does the walk that joins the lines of leaves of several
pub break-unspanned : (line : List ℕ) (p : Point) → AreUnspanned (break_line line p)
break-unspanned line p =
    break-holds IsUnspanned (λ q. refl, λ q. refl) (λ q. refl, λ q. refl) (λ q. refl, λ q. refl) line p

-- What it is over.

-- a marker of breaks
rule-marker : (m : ℕ) → is_rule_marker m ≡ true → IsMarker n.ThematicBreakSequence m
rule-marker m e ys some all = go (m == 42) refl (m == 45) refl (m == 95) refl e
  where
    run : (c : ℕ) → (m == c) ≡ true → is_run 1 c ys ≡ true
    run c f = marker-run m c ys some all f

    go : (x : Bool) → (m == 42) ≡ x → (y : Bool) → (m == 45) ≡ y → (z : Bool) → (m == 95) ≡ z → (x || y || z) ≡ true →
        may_cover n.ThematicBreakSequence ys ≡ true
    go true f y g z h e =
        or_left (is_run 1 42 ys || is_run 1 45 ys) (is_run 1 95 ys)
        (or_left (is_run 1 42 ys) (is_run 1 45 ys) (run 42 f))
    go false f true g z h e =
        or_left (is_run 1 42 ys || is_run 1 45 ys) (is_run 1 95 ys)
        (or_right (is_run 1 42 ys) (is_run 1 45 ys) (run 45 g))
    go false f false g true h e = or_right (is_run 1 42 ys || is_run 1 45 ys) (is_run 1 95 ys) (run 95 h)
    go false f false g false h e = cc

-- the bytes of a rule
marks-are : (m : ℕ) (bs : List ℕ) → list_all (λ b. (b == m) || is_white b) bs ≡ true → AreMarks m bs
marks-are m [] h = tt
marks-are m (b ∷ bs) h =
    let both = and_parts ((b == m) || is_white b) (list_all (λ b. (b == m) || is_white b) bs) h in
    (both.0, marks-are m bs both.1)

rule-marks : (bs : List ℕ) → is_rule bs ≡ true → AreMarks (first_byte bs) bs
rule-marks [] e = tt
rule-marks (m ∷ bs) e =
    let both = (and_parts (is_rule_marker m && list_all (λ b. (b == m) || is_white b) bs)
    (nat_le 2 (count_by (λ b. b == m) bs)) e).0 in
    let all = (and_parts (is_rule_marker m) (list_all (λ b. (b == m) || is_white b) bs) both).1 in
    (ap (λ (x : Bool). x || is_white m) (eq-eqb m m refl), marks-are m bs all)

-- with an indent
indent-marks : (m : ℕ) (line : List ℕ) → AreMarks m (trim_start line) → AreMarks m line
indent-marks m [] h = tt
indent-marks m (b ∷ line) h = go (is_white b) refl (indent-marks m line) h
  where
    go : (x : Bool) → is_white b ≡ x → (AreMarks m (trim_start line) → AreMarks m line) →
        AreMarks m (drop (cond x (1 + prefix_len is_white line) 0) (b ∷ line)) → AreMarks m (b ∷ line)
    go false e rest h = h
    go true e rest h =
        let next : 1 + prefix_len is_white line ≡ suc (prefix_len is_white line) = omega arith in
        (or_right (b == m) (is_white b) e, rest (subst (λ (i : ℕ). AreMarks m (drop i (b ∷ line))) next h))

-- a marker is a byte of ASCII
marker-low : (b : ℕ) → is_rule_marker b ≡ true → is_low b ≡ true
marker-low b h = grind (arith, nat_tests)

-- its runs may be in a text
rule-runs : (bytes : List ℕ) (m : ℕ) → is_rule_marker m ≡ true → AreRuns IsPart bytes n.ThematicBreakSequence m
rule-runs bytes m mark = record {
  marker = rule-marker m mark;
  dark = (break-mark m mark).dark;
  low = marker-low m mark;
  marks = record { role_is = tt; no_part = refl; parted = λ p q ys h. h };
  white = tt;
}

-- The grammar.

-- a run that has begun, and what is left of a break after it
abbrev run_of : Bool → Run
run_of true = Marks
run_of false = White

abbrev after_run : Bool → Expression
after_run true = following n.ThematicBreakSequence (inside Nothing n.ThematicBreak)
after_run false = following n.SpaceOrTab (following n.ThematicBreakSequence (inside Nothing n.ThematicBreak))

runs-word : (text : Expression) (m : ℕ) (marks : Bool) (bs : List ℕ) (p : Point) →
    IsWord text (Nothing ∷ after_run marks ∷ []) (marks_of (run_of marks) m bs p)
runs-word text m true [] p = record { left = after_run true; leads = λ outer. refl; ends = refl }
runs-word text m false [] p = record { left = after_run false; leads = λ outer. refl; ends = refl }
runs-word text m true (b ∷ bs) p =
    let on = runs-word text m false bs (past_byte b p) in
    either (IsWord text (Nothing ∷ after_run true ∷ [])) (b == m) _ _ (runs-word text m true bs (past_byte b p))
    (record { left = on.left; leads = on.leads; ends = on.ends })
runs-word text m false (b ∷ bs) p =
    let on = runs-word text m true bs (past_byte b p) in
    either (IsWord text (Nothing ∷ after_run false ∷ [])) (b == m) _ _
    (record { left = on.left; leads = on.leads; ends = on.ends }) (runs-word text m false bs (past_byte b p))

-- in its indent
indent-word : (text : Expression) (m : ℕ) (bs : List ℕ) (p : Point) → is_rule_marker m ≡ true →
    first_byte (trim_start bs) ≡ m →
    IsWord text (Nothing ∷ following n.SpaceOrTab (inside text n.ThematicBreak) ∷ []) (marks_of White m bs p)
indent-word text m [] p mark first = absurd (none m mark first)
  where
    none : (m : ℕ) → is_rule_marker m ≡ true → 0 ≡ m → ⊥
    none m mark first = grind (arith, nat_tests)
indent-word text m (b ∷ bs) p mark first = go (b == m) refl (indent-word text m bs (past_byte b p) mark)
  where
    stack : List Expression
    stack = Nothing ∷ following n.SpaceOrTab (inside text n.ThematicBreak) ∷ []

    go : (x : Bool) → (b == m) ≡ x →
        (first_byte (trim_start bs) ≡ m → IsWord text stack (marks_of White m bs (past_byte b p))) →
        IsWord text stack (marks_of White m (b ∷ bs) p)
    go true e more =
        let on = runs-word text m true bs (past_byte b p) in
        rw e (record { left = on.left; leads = on.leads; ends = on.ends })
    go false e more = rw e (more (first-following b bs m first e))

-- all of it
break-word : (text : Expression) (m : ℕ) (bs : List ℕ) (p : Point) → is_rule_marker m ≡ true →
    first_byte (trim_start bs) ≡ m → IsWord text (inside text n.ThematicBreak ∷ []) (marks_of Apart m bs p)
break-word text m [] p mark first = absurd (none m mark first)
  where
    none : (m : ℕ) → is_rule_marker m ≡ true → 0 ≡ m → ⊥
    none m mark first = grind (arith, nat_tests)
break-word text m (b ∷ bs) p mark first = go (b == m) refl
  where
    go : (x : Bool) → (b == m) ≡ x → IsWord text (inside text n.ThematicBreak ∷ []) (marks_of Apart m (b ∷ bs) p)
    go true e =
        let on = runs-word text m true bs (past_byte b p) in
        rw e (record { left = on.left; leads = on.leads; ends = on.ends })
    go false e =
        let on = indent-word text m bs (past_byte b p) mark (first-following b bs m first e) in
        rw e (record { left = on.left; leads = on.leads; ends = on.ends })

-- The whole break.
pub break-facts : (options : ParseOptions) (bytes : List ℕ) (r : Rest) (p q : Point) →
    is_ruled options r ≡ true → LineAt bytes r (rest_line r) p q →
    LeafFacts bytes (Some (Bare Break)) true p q (break_line (rest_line r) p) (break_line (rest_line r) p)
break-facts options bytes r p q starts at =
    subst
    (λ (x : Point).
    LeafFacts bytes (Some (Bare Break)) true p x (break_line (rest_line r) p) (break_line (rest_line r) p)) (sym at.end)
    (leaf-around n.ThematicBreak (OfBare Break)
    (record { is = refl; leaf = refl; no_part = refl; block = refl }) (record {
      unread_starts = first line rule m;
      starts = first line rule m;
      stretch =
          runs-stretch IsPart bytes n.ThematicBreakSequence m line (drop q.index bytes) p (rule-runs bytes m mark)
          (indent-marks m line (rule-marks (trim_start line) rule)) (line-valid bytes r line p q at) at.cut_first;
      unread_word = word unread_text;
      word = word plain_text;
      unread_ending = ends;
      ending = ends;
      plain =
          λ whole. plain-around bytes n.ThematicBreak p end inside_of refl refl refl
          (plain-quiet bytes inside_of quiet);
      reads = λ r none shut. read-break bytes r p end inside_of shut quiet;
    }))
  where
    line : List ℕ
    line = rest_line r

    m : ℕ
    m = first_byte (trim_start (rest_line r))

    end : Point
    end = past_text (rest_line r) p

    inside_of : List Event
    inside_of = marks_of Apart (first_byte (trim_start (rest_line r))) (rest_line r) p

    rule : is_rule (trim_start (rest_line r)) ≡ true
    rule = ap is_rule (rest-trim r) ∙ (and_parts _ (is_rule (trim_start r.bytes)) starts).1

    mark : is_rule_marker m ≡ true
    mark = rule-first (trim_start (rest_line r)) rule

    quiet : Roles Quiet inside_of
    quiet = runs-quiet m line p

    first : (line : List ℕ) → is_rule (trim_start line) ≡ true → (m : ℕ) → Starts (marks_of Apart m line p)
    first [] e m = cc
    first (b ∷ bs) e m = runs-start n.ThematicBreakSequence m b bs p

    word : (text : Expression) → IsWord text (inside text n.ThematicBreak ∷ []) inside_of
    word text = break-word text m line p mark refl

    ends : Leads (in_leaf true) (in_leaf true) inside_of
    ends = others-lead (in_leaf true) inside_of refl (runs-others m line p)
