-- The runs around the text of a heading are over their bytes.
use Rattle.std.proofs.Common.{◌≡◌, ℕ, Bool, true, false, ◌||◌, List, [], ◌∷◌, ◌++◌, length, drop, refl, ap, sym, subst}
use Rattle.std.proofs.Common.{arith}
use Rattle.std.specs.Prelude.{◌==◌, nat_le}
use Rattle.std.specs.List.{AllPass, list_all}
use Rattle.std.proofs.lemmas.Bool.{and_from}
use Rattle.std.proofs.lemmas.Bool.Decides.{nat_tests}
use Rattle.md_engine.specs.declared.event.Event.{Event}
use Rattle.md_engine.specs.declared.event.Name.TheVariants as n
use Rattle.md_engine.specs.declared.event.Point.{Point}
use Rattle.md_containers.specs.ItemsAllowed.{IsPart}
use Rattle.md_leaves.specs.HeadingRuns as heading
use Rattle.md_leaves.specs.HeadingRuns.{line_runs}
use Rattle.md_leaves.proofs.TitleLemmas.{is_mark}
use Rattle.md_leaves.proofs.TitleRuns.{pass-first, pass-rest}
use Rattle.md_events.specs.Events.Nested.{enter, exit}
use Rattle.md_events.specs.Events.Places.{past_byte, past_text}
use Rattle.md_meaning.specs.Rest.{is_white}
use Rattle.proof_frame.proofs.PieceFacts.{CutsFirst}
use Rattle.proof_frame.specs.MarkRuns.{Apart, Marks, Run, White, mark_runs}
use Rattle.proof_frame.proofs.PieceRuns.{AreMarks, AreRuns, IsMarker, other-run, runs-stretch}
use Rattle.proof_frame.proofs.Stretch.{Stretch}

-- the runs of a heading, where the marker is `#`
abbrev heading_run : Run → heading.Run
heading_run Apart = heading.Apart
heading_run Marks = heading.Hashes
heading_run White = heading.White

-- where no text is, the runs of a heading are of `#` and whitespace
hashes-are : (run : Run) (xs : List ℕ) (p : Point) → AreMarks 35 xs →
    line_runs (heading_run run) xs p ≡ mark_runs n.HeadingAtxSequence run 35 xs p
hashes-are Apart [] p h = refl
hashes-are Marks [] p h = refl
hashes-are White [] p h = refl
hashes-are run (b ∷ xs) p h =
    go (b == 35) refl (hashes-are Marks xs (past_byte b p) h.1) (hashes-are White xs (past_byte b p) h.1)
  where
    q : Point
    q = past_byte b p

    hash : (b == 35) ≡ true → is_white b ≡ false
    hash e = grind (arith, nat_tests)

    go : (x : Bool) → (b == 35) ≡ x → line_runs heading.Hashes xs q ≡ mark_runs n.HeadingAtxSequence Marks 35 xs q →
        line_runs heading.White xs q ≡ mark_runs n.HeadingAtxSequence White 35 xs q →
        line_runs (heading_run run) (b ∷ xs) p ≡ mark_runs n.HeadingAtxSequence run 35 (b ∷ xs) p
    go true e marks white = by run
      where
        black : is_white b ≡ false
        black = hash e

        by : (run : Run) → line_runs (heading_run run) (b ∷ xs) p ≡ mark_runs n.HeadingAtxSequence run 35 (b ∷ xs) p
        by Apart = rw (e, black) (ap (λ (es : List Event). enter n.HeadingAtxSequence p ∷ es) marks)
        by Marks = rw (e, black) marks
        by White =
            rw (e, black) (ap (λ (es : List Event). exit n.SpaceOrTab p ∷ enter n.HeadingAtxSequence p ∷ es) marks)
    go false e marks white = by run
      where
        here : is_white b ≡ true
        here = other-run 35 b h.0 e

        by : (run : Run) → line_runs (heading_run run) (b ∷ xs) p ≡ mark_runs n.HeadingAtxSequence run 35 (b ∷ xs) p
        by Apart = rw (e, here) (ap (λ (es : List Event). enter n.SpaceOrTab p ∷ es) white)
        by Marks =
            rw (e, here) (ap (λ (es : List Event). exit n.HeadingAtxSequence p ∷ enter n.SpaceOrTab p ∷ es) white)
        by White = rw (e, here) white

-- the bytes around the text of a heading
marks-are : (bytes : List ℕ) → AllPass is_mark bytes → AreMarks 35 bytes
marks-are [] h = tt
marks-are (b ∷ bs) h =
    (turned (is_white b) (b == 35) (pass-first is_mark b bs h), marks-are bs (pass-rest is_mark b bs h))
  where
    turned : (x y : Bool) → (x || y) ≡ true → (y || x) ≡ true
    turned true true e = refl
    turned true false e = refl
    turned false true e = refl
    turned false false e = cc

-- a run of `#`
hash-marker : IsMarker n.HeadingAtxSequence 35
hash-marker ys some all = and_from (nat_le 1 (length ys)) (list_all (λ b. b == 35) ys) (grind (arith, nat_tests)) all

hash-runs : (bytes : List ℕ) → AreRuns IsPart bytes n.HeadingAtxSequence 35
hash-runs bytes = record {
  marker = hash-marker;
  dark = refl;
  low = refl;
  marks = record { role_is = tt; no_part = refl; parted = λ p q ys h. h };
  white = tt;
}

-- The runs around the text of a heading are a stretch.
pub hashes-stretch : (bytes xs rest : List ℕ) (p : Point) → AllPass is_mark xs → drop p.index bytes ≡ xs ++ rest →
    CutsFirst p xs →
    Stretch IsPart bytes p (past_text xs p) (line_runs heading.Apart xs p) (line_runs heading.Apart xs p)
hashes-stretch bytes xs rest p marks e cut =
    subst (λ (es : List Event). Stretch IsPart bytes p (past_text xs p) es es)
    (sym (hashes-are Apart xs p (marks-are xs marks)))
    (runs-stretch IsPart bytes n.HeadingAtxSequence 35 xs rest p (hash-runs bytes) (marks-are xs marks) e cut)
