-- What is left of a break in its first run, where it may be an underline with nothing to turn, cell by cell.
use Rattle.std.proofs.Common.{◌≡◌, ℕ, ◌+◌, Bool, true, false, cond, nat_eq, List, [], ◌∷◌, ◌++◌, refl, sym, ◌∙◌, ap}
use Rattle.std.proofs.Common.{ap₂, arith}
use Rattle.std.specs.Prelude.{◌&&◌, ◌==◌}
use Rattle.std.proofs.lemmas.Bool.{and_from, and_right}
use Rattle.std.proofs.lemmas.Bool.Decides.{nat_tests}
use Rattle.md_engine.specs.declared.configuration.ParseOptions.{ParseOptions}
use Rattle.md_engine.specs.declared.event.Name.TheVariants.{SpaceOrTab, ThematicBreakSequence}
use Rattle.md_engine.specs.Meaning.{Cell, Here, Outcome, Refuses}
use Rattle.md_leaves.specs.Break.{is_marker, without_marker}
use Rattle.md_leaves.specs.BreakRule.{Apart, Marks, White, at_break, before_marker, after_one_run, in_break}
use Rattle.md_leaves.specs.BreakRule.{in_one_run}
use Rattle.md_leaves.specs.HeadingSetext.{turns_nothing}
use Rattle.md_leaves.specs.HeadingSetext as setext
use Rattle.md_leaves.specs.HeadingSetextRule.{is_run, is_underline}
use Rattle.md_leaves.proofs.BreakLemmas.{apart-mark, before-mark, before-underline, in_break-mark, marker-no_ending}
use Rattle.md_leaves.proofs.BreakLemmas.{marks-end, marks-white, takes-white}
use Rattle.md_leaves.proofs.LeafSteps.{TakesWhite}
use Rattle.md_leaves.proofs.SetextLemmas.{is_run-one, is_run-other}
use Rattle.md_events.specs.Ahead.{line_bytes}
use Rattle.md_events.specs.Events.Nested.{enter, exit}
use Rattle.md_events.specs.Look.{first_seen}
use Rattle.md_events.specs.Spaces.{ends_line}
use Rattle.md_meaning.specs.Rest.{is_blank, is_white}
use Rattle.md_events.proofs.AheadLemmas.{white-no_ending}

-- The bytes of a line from here.

-- where it continues
line-on : (c : Cell) (cs : List Cell) → nat_eq c.byte 10 ≡ false → line_bytes (c ∷ cs) ≡ c.byte ∷ line_bytes cs
line-on c cs e = rw e refl

-- its whitespace continues,
blank-more : (c : Cell) (cs : List Cell) → is_white c.byte ≡ true →
    is_blank (line_bytes (c ∷ cs)) ≡ is_blank (line_bytes cs)
blank-more c cs white =
    ap is_blank (line-on c cs (white-no_ending c.byte white))
    ∙ ap (λ (x : Bool). x && is_blank (line_bytes cs)) white

-- or ends where something else is,
blank-none : (c : Cell) (cs : List Cell) → is_white c.byte ≡ false → nat_eq c.byte 10 ≡ false →
    is_blank (line_bytes (c ∷ cs)) ≡ false
blank-none c cs white on =
    ap is_blank (line-on c cs on) ∙ ap (λ (x : Bool). x && is_blank (line_bytes cs)) white

-- the run continues with its marker,
run-more : (m : ℕ) (c : Cell) (cs : List Cell) → nat_eq c.byte m ≡ true → nat_eq c.byte 10 ≡ false →
    is_run m (line_bytes (c ∷ cs)) ≡ is_run m (line_bytes cs)
run-more m c cs is on = ap (is_run m) (line-on c cs on) ∙ is_run-one m c.byte (line_bytes cs) is

-- and after it whitespace alone is
run-blank : (m : ℕ) (c : Cell) (cs : List Cell) → nat_eq c.byte m ≡ false →
    is_run m (line_bytes (c ∷ cs)) ≡ is_blank (line_bytes (c ∷ cs))
run-blank m c cs other = go (nat_eq c.byte 10) refl
  where
    go : (x : Bool) → nat_eq c.byte 10 ≡ x → is_run m (line_bytes (c ∷ cs)) ≡ is_blank (line_bytes (c ∷ cs))
    go true e = rw e refl
    go false e =
        ap (is_run m) (line-on c cs e) ∙ is_run-other m c.byte (line_bytes cs) other
        ∙ sym (ap is_blank (line-on c cs e))

-- In the first run.

-- by whether nothing else is left of the line
run-by : (cells : List Cell) (h : Here) (x : Bool) → is_run h.scratch.marker (line_bytes cells) ≡ x →
    in_one_run cells h ≡ cond x (Refuses (without_marker h.scratch) h.flags) (in_break Marks cells h)
unfolding in_one_run
run-by cells h x e = ap (λ (y : Bool). cond y (Refuses (without_marker h.scratch) h.flags) (in_break Marks cells h)) e

-- one marker more
pub one_run-mark : (c : Cell) (cs : List Cell) (h : Here) → nat_eq c.byte h.scratch.marker ≡ true →
    nat_eq c.byte 10 ≡ false →
    in_one_run (c ∷ cs) h ≡
    in_one_run cs (record h { point = c.after; scratch = record h.scratch { size = h.scratch.size + 1 } })
unfolding in_one_run
one_run-mark c cs h is on =
    ap₂ (λ (x : Bool) (o : Outcome). cond x (Refuses (without_marker h.scratch) h.flags) o)
    (run-more h.scratch.marker c cs is on) (in_break-mark c cs h is on)

-- In the whitespace after it.
unfoldable pub in_one_white : List Cell → Here → Outcome
in_one_white cells h =
    cond (is_blank (line_bytes cells)) (Refuses (without_marker h.scratch) h.flags) (in_break White cells h)

-- after it, by whether the line ends here
pub following-by : (cells : List Cell) (h : Here) (x : Bool) → ends_line (first_seen cells) ≡ x →
    after_one_run cells h ≡ cond x (Refuses (without_marker h.scratch) h.flags) (at_break cells h)
unfolding after_one_run
following-by cells h x e = ap (λ (y : Bool). cond y (Refuses (without_marker h.scratch) h.flags) (at_break cells h)) e

-- where something else follows whitespace
one_white-ends : (c : Cell) (cs : List Cell) (h : Here) → is_white h.scratch.marker ≡ false →
    is_white c.byte ≡ false →
    in_one_white (c ∷ cs) h ≡
    after_one_run (c ∷ cs) (record h { events = h.events ++ exit SpaceOrTab h.point ∷ [] })
unfolding in_one_white
one_white-ends c cs h apart white = go (nat_eq c.byte 10) refl
  where
    new : Here
    new = record h { events = h.events ++ exit SpaceOrTab h.point ∷ [] }

    go : (x : Bool) → nat_eq c.byte 10 ≡ x → in_one_white (c ∷ cs) h ≡ after_one_run (c ∷ cs) new
    go true e =
        let blank : is_blank (line_bytes (c ∷ cs)) ≡ true = rw e refl in
        ap (λ (y : Bool). cond y (Refuses (without_marker h.scratch) h.flags) (in_break White (c ∷ cs) h)) blank
        ∙ sym (following-by (c ∷ cs) new true e)
    go false e =
        ap (λ (y : Bool). cond y (Refuses (without_marker h.scratch) h.flags) (in_break White (c ∷ cs) h))
        (blank-none c cs white e)
        ∙ takes-white.stop c cs h apart white
        ∙ sym (following-by (c ∷ cs) new false e)

-- and where nothing does
one_white-none : (h : Here) →
    in_one_white [] h ≡ after_one_run [] (record h { events = h.events ++ exit SpaceOrTab h.point ∷ [] })
unfolding in_one_white after_one_run
one_white-none h = refl

-- one column of whitespace more
one_white-more : (c : Cell) (cs : List Cell) (h : Here) → is_white h.scratch.marker ≡ false → is_white c.byte ≡ true →
    in_one_white (c ∷ cs) h ≡ in_one_white cs (record h { point = c.after })
unfolding in_one_white
one_white-more c cs h apart white =
    ap₂ (λ (x : Bool) (o : Outcome). cond x (Refuses (without_marker h.scratch) h.flags) o) (blank-more c cs white)
    (takes-white.more c cs h apart white)

-- it is taken byte by byte, where the marker is none
pub takes-one_white : TakesWhite (λ s. is_white s.marker ≡ false) in_one_white after_one_run
takes-one_white = record {
  more = λ c cs h apart white. one_white-more c cs h apart white;
  stop = λ c cs h apart white. one_white-ends c cs h apart white;
  none = λ h apart. one_white-none h;
}

-- from the run to whitespace
pub one_run-white : (c : Cell) (cs : List Cell) (h : Here) → is_white c.byte ≡ true →
    nat_eq c.byte h.scratch.marker ≡ false →
    in_one_run (c ∷ cs) h ≡
    in_one_white (c ∷ cs)
    (record h { events = h.events ++ exit ThematicBreakSequence h.point ∷ [] ++ enter SpaceOrTab h.point ∷ [] })
unfolding in_one_run in_one_white
one_run-white c cs h white other =
    ap₂ (λ (x : Bool) (o : Outcome). cond x (Refuses (without_marker h.scratch) h.flags) o)
    (run-blank h.scratch.marker c cs other) (marks-white c cs h white other)

-- where the run ends and no whitespace is
pub one_run-end : (c : Cell) (cs : List Cell) (h : Here) → is_white c.byte ≡ false →
    nat_eq c.byte h.scratch.marker ≡ false →
    in_one_run (c ∷ cs) h ≡
    after_one_run (c ∷ cs) (record h { events = h.events ++ exit ThematicBreakSequence h.point ∷ [] })
unfolding at_break
one_run-end c cs h white other = go (nat_eq c.byte 10) refl
  where
    new : Here
    new = record h { events = h.events ++ exit ThematicBreakSequence h.point ∷ [] }

    go : (x : Bool) → nat_eq c.byte 10 ≡ x → in_one_run (c ∷ cs) h ≡ after_one_run (c ∷ cs) new
    go true e =
        let blank : is_blank (line_bytes (c ∷ cs)) ≡ true = rw e refl in
        run-by (c ∷ cs) h true (run-blank h.scratch.marker c cs other ∙ blank)
        ∙ sym (following-by (c ∷ cs) new true e)
    go false e =
        run-by (c ∷ cs) h false (run-blank h.scratch.marker c cs other ∙ blank-none c cs white e)
        ∙ marks-end c cs h white other
        ∙ sym
        (ap (λ (x : Bool). cond x (Refuses (without_marker h.scratch) h.flags) (in_break Apart (c ∷ cs) new)) white)
        ∙ sym (following-by (c ∷ cs) new false e)

-- and where the text ends
pub one_run-none : (h : Here) →
    in_one_run [] h ≡ after_one_run [] (record h { events = h.events ++ exit ThematicBreakSequence h.point ∷ [] })
unfolding in_one_run after_one_run
one_run-none h = refl

-- After the indent, at a marker.

-- a line that begins with another marker than a hyphen is no underline
other-no_underline : (c : Cell) (cs : List Cell) → is_marker c.byte ≡ true → (c.byte == 45) ≡ false →
    is_underline (line_bytes (c ∷ cs)) ≡ false
other-no_underline c cs mark other =
    ap is_underline (line-on c cs (marker-no_ending c.byte mark))
    ∙ ap (λ (x : Bool). x && is_run c.byte (c.byte ∷ line_bytes cs)) none
  where
    none : setext.is_marker c.byte ≡ false
    none = grind (arith, nat_tests)

-- so it is no underline with nothing to turn where the run is not to be distinguished from one
pub no-underline : (options : ParseOptions) (c : Cell) (cs : List Cell) (h : Here) (y x : Bool) →
    is_marker c.byte ≡ true → (c.byte == 45) ≡ y → turns_nothing options h.flags.leaf ≡ x → y && x ≡ false →
    turns_nothing options h.flags.leaf && is_underline (line_bytes (c ∷ cs)) ≡ false
no-underline options c cs h true true mark e f none = cc
no-underline options c cs h true false mark e f none =
    ap (λ (x : Bool). x && is_underline (line_bytes (c ∷ cs))) f
no-underline options c cs h false x mark e f none =
    and_right (turns_nothing options h.flags.leaf) (is_underline (line_bytes (c ∷ cs)))
    (other-no_underline c cs mark e)

-- and where it is, the first run begins
pub one-mark : (options : ParseOptions) (c : Cell) (cs : List Cell) (h : Here) → is_marker c.byte ≡ true →
    (c.byte == 45) ≡ true → h.scratch.size ≡ 0 → turns_nothing options h.flags.leaf ≡ true →
    before_marker options (c ∷ cs) h ≡
    in_one_run (c ∷ cs)
    (record h {
      events = h.events ++ enter ThematicBreakSequence h.point ∷ [];
      scratch = record h.scratch { marker = c.byte };
    })
one-mark options c cs h mark hyphen none nothing = go (is_run c.byte (line_bytes (c ∷ cs))) refl
  where
    new : Here
    new = record h {
      events = h.events ++ enter ThematicBreakSequence h.point ∷ [];
      scratch = record h.scratch { marker = c.byte };
    }

    on : nat_eq c.byte 10 ≡ false
    on = marker-no_ending c.byte mark

    marks : setext.is_marker c.byte ≡ true
    marks = grind (arith, nat_tests)

    same : nat_eq c.byte c.byte ≡ true
    same = grind (arith, nat_tests)

    runs : is_underline (line_bytes (c ∷ cs)) ≡ is_run c.byte (line_bytes (c ∷ cs))
    runs =
        ap is_underline (line-on c cs (marker-no_ending c.byte mark))
        ∙ ap (λ (x : Bool). x && is_run c.byte (c.byte ∷ line_bytes cs)) marks
        ∙ sym (ap (is_run c.byte) (line-on c cs (marker-no_ending c.byte mark)))

    go : (x : Bool) → is_run c.byte (line_bytes (c ∷ cs)) ≡ x →
        before_marker options (c ∷ cs) h ≡ in_one_run (c ∷ cs) new
    go true e =
        before-underline options c cs h
        (and_from (turns_nothing options h.flags.leaf) (is_underline (line_bytes (c ∷ cs))) nothing (runs ∙ e))
        ∙ sym (run-by (c ∷ cs) new true e)
    go false e =
        before-mark options c cs h mark none
        (and_right (turns_nothing options h.flags.leaf) (is_underline (line_bytes (c ∷ cs))) (runs ∙ e))
        ∙ apart-mark c cs (record h { scratch = record h.scratch { marker = c.byte } }) same on
        ∙ sym (run-by (c ∷ cs) new false e)
