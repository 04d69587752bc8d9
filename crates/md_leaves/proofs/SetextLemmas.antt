-- What is left of the underline of a setext heading, cell by cell.
use Rattle.std.proofs.Common.{◌≡◌, ℕ, ◌+◌, Bool, true, false, cond, nat_eq, List, [], ◌∷◌, ◌++◌}
use Rattle.std.proofs.Common.{drop, refl, sym, ◌∙◌, ap, arith, append_assoc}
use Rattle.std.specs.Prelude.{⊤}
use Rattle.std.proofs.lemmas.Bool.Decides.{nat_tests}
use Rattle.md_engine.specs.declared.event.Name.TheVariants.{HeadingSetextUnderline, HeadingSetextUnderlineSequence}
use Rattle.md_engine.specs.declared.event.Name.TheVariants.{SpaceOrTab}
use Rattle.md_engine.specs.declared.tokenizer.held_leaf.HeldLeaf.TheVariants as held_leaf
use Rattle.md_engine.specs.declared.tokenizer.Scratch.{Scratch}
use Rattle.md_engine.specs.Meaning.{Accepts, Cell, Here, Outcome, Refuses}
use Rattle.md_leaves.specs.HeadingSetext.{is_marker, without_marker}
use Rattle.md_leaves.specs.HeadingSetextRule.{before_run, after_run, in_run, is_run, runs}
use Rattle.md_leaves.specs.MarkRuns.{White}
use Rattle.md_leaves.proofs.BreakLemmas.{white-apart}
use Rattle.md_leaves.proofs.HeadingLemmas.{run_len-one, run_len-other}
use Rattle.md_leaves.proofs.LeafSteps.{TakesWhite}
use Rattle.md_events.specs.Ahead.{from_ending, line_bytes, line_cells, line_end}
use Rattle.md_events.specs.Events.Nested.{enter, exit}
use Rattle.md_meaning.specs.Rest.{is_blank, is_white}
use Rattle.md_events.proofs.AheadLemmas.{white-no_ending}

-- a marker ends no line,
pub marker-no_ending : (m : ℕ) → is_marker m ≡ true → nat_eq m 10 ≡ false
marker-no_ending m h = grind (arith, nat_tests)

-- and is no whitespace
pub marker-no_white : (m : ℕ) → is_marker m ≡ true → is_white m ≡ false
marker-no_white m h = grind (arith, nat_tests)

-- the run continues with its marker,
pub is_run-one : (m b : ℕ) (bs : List ℕ) → nat_eq b m ≡ true → is_run m (b ∷ bs) ≡ is_run m bs
is_run-one m b bs e = ap (λ (k : ℕ). is_blank (drop k (b ∷ bs))) (run_len-one m b bs e)

-- and after it is whitespace
pub is_run-other : (m b : ℕ) (bs : List ℕ) → nat_eq b m ≡ false → is_run m (b ∷ bs) ≡ is_blank (b ∷ bs)
is_run-other m b bs e = ap (λ (k : ℕ). is_blank (drop k (b ∷ bs))) (run_len-other m b bs e)

-- one marker more
pub in_run-mark : (c : Cell) (cs : List Cell) (h : Here) → nat_eq c.byte h.scratch.marker ≡ true →
    nat_eq c.byte 10 ≡ false →
    in_run (c ∷ cs) h ≡
    in_run cs (record h { point = c.after; scratch = record h.scratch { size = h.scratch.size + 1 } })
unfolding in_run
in_run-mark c cs h is ending =
    rw (ending, is_run-one h.scratch.marker c.byte (line_bytes cs) is, is) refl

-- In the whitespace after the run of this marker.
unfoldable pub in_white : ℕ → List Cell → Here → Outcome
in_white m cells h =
    let p = line_end cells h.point in
    cond (is_blank (line_bytes cells))
    (Accepts
    (record h {
      events = h.events ++ runs White m (line_cells cells) h.point ++ exit HeadingSetextUnderline p ∷ [];
      point = p;
      flags = record h.flags { leaf = held_leaf.None };
    })
    (from_ending cells))
    (Refuses h.scratch h.flags)

-- one column of whitespace more
in_white-more : (m : ℕ) (c : Cell) (cs : List Cell) (h : Here) → is_white m ≡ false → is_white c.byte ≡ true →
    in_white m (c ∷ cs) h ≡ in_white m cs (record h { point = c.after })
unfolding in_white
in_white-more m c cs h apart white = rw (white-no_ending c.byte white, white-apart c.byte m white apart, white) refl

-- where it ends, the line ends, or something else is
in_white-ends : (m : ℕ) (c : Cell) (cs : List Cell) (h : Here) → is_white c.byte ≡ false →
    in_white m (c ∷ cs) h ≡ after_run (c ∷ cs) (record h { events = h.events ++ exit SpaceOrTab h.point ∷ [] })
unfolding in_white after_run
in_white-ends m c cs h white = go (nat_eq c.byte 10) refl
  where
    go : (x : Bool) → nat_eq c.byte 10 ≡ x →
        in_white m (c ∷ cs) h ≡ after_run (c ∷ cs) (record h { events = h.events ++ exit SpaceOrTab h.point ∷ [] })
    go true e = rw e refl
    go false e = rw (e, white) refl

-- and where the text ends
in_white-none : (m : ℕ) (h : Here) →
    in_white m [] h ≡ after_run [] (record h { events = h.events ++ exit SpaceOrTab h.point ∷ [] })
unfolding in_white after_run
in_white-none m h = refl

-- it is taken byte by byte
pub takes-white : (m : ℕ) → is_white m ≡ false → TakesWhite (λ s. ⊤) (in_white m) after_run
takes-white m apart = record {
  more = λ c cs h is white. in_white-more m c cs h apart white;
  stop = λ c cs h is white. in_white-ends m c cs h white;
  none = λ h is. in_white-none m h;
}

-- after the run
abbrev pub after_sequence : Here → Here
after_sequence h = record h {
  events = h.events ++ exit HeadingSetextUnderlineSequence h.point ∷ [];
  scratch = without_marker h.scratch;
}

-- from the run to whitespace
pub in_run-white : (c : Cell) (cs : List Cell) (h : Here) → is_white c.byte ≡ true →
    nat_eq c.byte h.scratch.marker ≡ false →
    in_run (c ∷ cs) h ≡
    in_white h.scratch.marker (c ∷ cs)
    (record (after_sequence h) { events = (after_sequence h).events ++ enter SpaceOrTab h.point ∷ [] })
unfolding in_run in_white
in_run-white c cs h white other =
    rw (white-no_ending c.byte white, is_run-other h.scratch.marker c.byte (line_bytes cs) other, other)
    (simp append_assoc)

-- where the run ends and no whitespace is
pub in_run-ends : (c : Cell) (cs : List Cell) (h : Here) → is_white c.byte ≡ false →
    nat_eq c.byte h.scratch.marker ≡ false → in_run (c ∷ cs) h ≡ after_run (c ∷ cs) (after_sequence h)
unfolding in_run after_run
in_run-ends c cs h white other = go (nat_eq c.byte 10) refl
  where
    go : (x : Bool) → nat_eq c.byte 10 ≡ x → in_run (c ∷ cs) h ≡ after_run (c ∷ cs) (after_sequence h)
    go true e = rw e refl
    go false e = rw (e, is_run-other h.scratch.marker c.byte (line_bytes cs) other, white) refl

-- and where the text ends
pub in_run-none : (h : Here) → in_run [] h ≡ after_run [] (after_sequence h)
unfolding in_run after_run
in_run-none h = refl

-- After the indent.

-- the first marker begins the run, with no marker taken
pub before-mark : (c : Cell) (cs : List Cell) (h : Here) → is_marker c.byte ≡ true →
    without_marker h.scratch ≡ h.scratch →
    before_run (c ∷ cs) h ≡
    in_run (c ∷ cs)
    (record h {
      events = h.events ++ enter HeadingSetextUnderlineSequence h.point ∷ [];
      scratch = record h.scratch { marker = c.byte };
    })
unfolding before_run in_run
before-mark c cs h mark rest = go (is_run c.byte (line_bytes cs)) refl
  where
    same : nat_eq c.byte c.byte ≡ true
    same = grind (arith, nat_tests)

    one : is_run c.byte (c.byte ∷ line_bytes cs) ≡ is_run c.byte (line_bytes cs)
    one = is_run-one c.byte c.byte (line_bytes cs) same

    go : (x : Bool) → is_run c.byte (line_bytes cs) ≡ x →
        before_run (c ∷ cs) h ≡
        in_run (c ∷ cs)
        (record h {
          events = h.events ++ enter HeadingSetextUnderlineSequence h.point ∷ [];
          scratch = record h.scratch { marker = c.byte };
        })
    go true e = rw (marker-no_ending c.byte mark, mark, one ∙ e, same) (simp append_assoc)
    go false e =
        rw (marker-no_ending c.byte mark, mark, one ∙ e) (ap (λ (t : Scratch). Refuses t h.flags) (sym rest))

-- where something else is there is no underline,
pub before-other : (c : Cell) (cs : List Cell) (h : Here) → is_marker c.byte ≡ false →
    before_run (c ∷ cs) h ≡ Refuses h.scratch h.flags
unfolding before_run
before-other c cs h mark = go (nat_eq c.byte 10) refl
  where
    go : (x : Bool) → nat_eq c.byte 10 ≡ x → before_run (c ∷ cs) h ≡ Refuses h.scratch h.flags
    go true e = rw e refl
    go false e = rw (e, mark) refl

-- and none where the text ends
pub before-none : (h : Here) → before_run [] h ≡ Refuses h.scratch h.flags
unfolding before_run
before-none h = refl
