-- What is known of the events of an underline, by the bytes of its line.
--
-- It is the last line of a heading: so these are the pieces that what is known of the whole heading is built from.
use Rattle.std.proofs.Common.{◌≡◌, ℕ, ◌+◌, ◌-◌, Bool, true, false, cond, ◌||◌, List, [], ◌∷◌, ◌++◌}
use Rattle.std.proofs.Common.{drop, slice_range, refl, ap, ap₂, sym, ◌∙◌, subst, arith}
use Rattle.std.specs.Prelude.{◌==◌, None}
use Rattle.std.proofs.lemmas.Bool.{or_left, or_right}
use Rattle.std.proofs.lemmas.Bool.Decides.{nat_tests}
use Rattle.md_engine.specs.declared.configuration.ParseOptions.{ParseOptions}
use Rattle.md_engine.specs.declared.event.Event.{Event}
use Rattle.md_engine.specs.declared.event.Name.{Name}
use Rattle.md_engine.specs.declared.event.Name.TheVariants as n
use Rattle.md_engine.specs.declared.event.Point.{Point}
use Rattle.md_engine.specs.declared.tokenizer.held_leaf.HeldLeaf.{HeldLeaf}
use Rattle.md_meaning.specs.Rest.{Rest, tab_columns, trim_start}
use Rattle.md_meaning.specs.Texts.{first_byte}
use Rattle.md_leaves.specs.HeadingSetext.{is_marker}
use Rattle.md_leaves.specs.HeadingSetextRule.{is_underline}
use Rattle.md_leaves.specs.Turned.{passes}
use Rattle.md_leaves.proofs.TurnedLemmas.{AreUnturned}
use Rattle.md_events.specs.Events.Endings.{on_line}
use Rattle.md_events.specs.Events.Grammar.{Expression, inside}
use Rattle.md_events.specs.Events.Nested.{enter, exit, pair}
use Rattle.md_events.specs.Events.Pieces.{is_run, may_cover}
use Rattle.md_events.specs.Events.Places.{past_text}
use Rattle.md_events.specs.Events.Spelled.{AsMarkers, Reading, byte_at, columns_left, read, recorded}
use Rattle.md_events.proofs.BlocksLemmas.{read-around, read-recorded}
use Rattle.md_events.proofs.EndingsLemmas.{AreOthers, is_other}
use Rattle.md_events.proofs.GrammarLemmas.{IsWord}
use Rattle.md_events.proofs.SpelledLemmas.{Quiet, Roles, read-append, read-quiet}
use Rattle.md_outline.specs.LinesAllowed.{AfterTitle, AfterUnderline}
use Rattle.md_outline.proofs.LinesPass.{passes-underline}
use Rattle.proof_frame.specs.RestLine.{rest_line}
use Rattle.proof_leaf_laws.specs.Leaf.HeadingSetext.{setext_leaf, underline_line}
use Rattle.proof_frame.specs.MarkRuns.{Apart, mark_runs}
use Rattle.proof_frame.specs.Row.{blank_line}
use Rattle.proof_frame.proofs.BetweenFacts.{is_low}
use Rattle.md_order.specs.Alone.{InUnderline, closed_by, is_set}
use Rattle.proof_frame.proofs.ClosedFacts.{IsBlock, IsClosed, IsUnset, closed-around, stays-open}
use Rattle.proof_frame.proofs.EachEvent.{Each}
use Rattle.proof_leaf_laws.proofs.HeadingSetext.Bytes.{underline-dark, underline-run}
use Rattle.proof_leaf_laws.proofs.HeadingSetext.Kinds.{setext-starts, underline-first}
use Rattle.proof_frame.proofs.LeafFacts.{LineAt}
use Rattle.proof_frame.proofs.LineTexts.{line-valid}
use Rattle.proof_frame.proofs.MarkRuns.Items.{line-items}
use Rattle.proof_frame.proofs.NestFacts.{KeepsItems}
use Rattle.proof_frame.proofs.MarkRuns.Each.{Holds, each-others, line-holds, runs-hold}
use Rattle.proof_leaf_laws.proofs.MarkRuns.Line.{HasRun, run-first, run-marks, run-text, run-whole, run_parts, runs-are}
use Rattle.proof_frame.proofs.OutsideFacts.{AreOutside, IsOutside}
use Rattle.proof_frame.proofs.PartedFacts.{clear}
use Rattle.proof_frame.proofs.PieceFacts.{Starts}
use Rattle.proof_frame.proofs.PieceRuns.{IsMarker, marker-run, runs-start, runs-stretch}
use Rattle.proof_frame.proofs.Stretch.{Stretch, stretch-around}
use Rattle.md_containers.specs.ItemsAllowed.{IsPart}
use Rattle.proof_frame.proofs.PlainFacts.{ArePlainFrom, known-around, known-none, past-clear, plain-through, quiet-from}
use Rattle.proof_frame.proofs.RestFacts.{rest-trim}
use Rattle.proof_frame.proofs.SpannedFacts.{AreUnspanned, IsUnspanned}

-- what is in it
abbrev pub underline_parts : List ℕ → Point → List Event
underline_parts line p = mark_runs n.HeadingSetextUnderlineSequence Apart (first_byte (trim_start line)) line p

-- Where its leaf starts, it is an underline by the bytes of its line.
pub underline-begins : (options : ParseOptions) (on : HeldLeaf) (r : Rest) → setext_leaf.starts options on r ≡ true →
    is_underline (trim_start (rest_line r)) ≡ true
underline-begins options on r starts = ap is_underline (rest-trim r) ∙ (setext-starts options on r starts).underline

-- After its indent its run is, and whitespace after that.
parts-are : (line : List ℕ) (p : Point) → (is : is_underline (trim_start line) ≡ true) →
    underline_parts line p ≡
    run_parts n.HeadingSetextUnderlineSequence (underline-run line is).front (underline-run line is).marks
    (underline-run line is).back p
parts-are line p is =
    runs-are n.HeadingSetextUnderlineSequence (first_byte (trim_start line)) line p (underline-dark line is)
    (underline-run line is)

-- Each of its events.

-- what holds of its three names
pub underline-each : (P : Event → Type 0) → Holds P n.HeadingSetextUnderline → Holds P n.SpaceOrTab →
    Holds P n.HeadingSetextUnderlineSequence → (line : List ℕ) (p : Point) → Each P (underline_line line p)
underline-each P around_it space mark line p =
    line-holds P n.HeadingSetextUnderline n.HeadingSetextUnderlineSequence around_it space mark
    (first_byte (trim_start line)) line p (past_text line p)

-- none ends a line, or begins or ends a leaf
pub underline-others : (line : List ℕ) (p : Point) → AreOthers (underline_line line p)
underline-others line p =
    each-others (underline_line line p)
    (underline-each (λ (e : Event). is_other (on_line e.name) ≡ true) (λ q. refl, λ q. refl) (λ q. refl, λ q. refl)
    (λ q. refl, λ q. refl) line p)

-- the resolver of the registry changes none
pub underline-outside : (line : List ℕ) (p : Point) → AreOutside (underline_line line p)
underline-outside line p =
    underline-each IsOutside (λ q. refl, λ q. refl) (λ q. refl, λ q. refl) (λ q. refl, λ q. refl) line p

-- nor does the one that joins the lines of leaves change any
pub underline-unspanned : (line : List ℕ) (p : Point) → AreUnspanned (underline_line line p)
underline-unspanned line p =
    underline-each IsUnspanned (λ q. refl, λ q. refl) (λ q. refl, λ q. refl) (λ q. refl, λ q. refl) line p

-- It holds no other block, and no other ends it,

unset-underline : (name : Name) → is_set name ≡ false → closed_by InUnderline name ≡ false
unset-underline n.HeadingSetextUnderline h = cc
unset-underline _ h = refl

underline-block : IsBlock n.HeadingSetextUnderline
underline-block = record {
  inside = InUnderline;
  opens = refl;
  valid = λ e h proceeds. h;
  stays = λ e h. stays-open InUnderline e (unset-underline e.name h);
  ends = λ q proceeds. cc;
  shuts = λ q. refl;
}

pub underline-unset : (line : List ℕ) (p : Point) → Each IsUnset (underline_parts line p)
underline-unset line p =
    runs-hold IsUnset n.HeadingSetextUnderlineSequence (λ q. refl, λ q. refl) (λ q. refl, λ q. refl) Apart
    (first_byte (trim_start line)) line p

pub underline-alone : (line : List ℕ) (p : Point) → IsClosed (underline_line line p)
underline-alone line p =
    closed-around n.HeadingSetextUnderline underline-block p (past_text line p) (underline_parts line p)
    (underline-unset line p)

-- no item is in it,
pub underline-items : (line : List ℕ) (p : Point) → KeepsItems (underline_line line p)
underline-items line p =
    line-items n.HeadingSetextUnderline n.HeadingSetextUnderlineSequence refl refl (first_byte (trim_start line)) line p
    (past_text line p)

-- and inside of it the one that sets headings changes none
pub underline-unturned : (line : List ℕ) (p : Point) → AreUnturned (underline_parts line p)
underline-unturned line p =
    each-unturned (underline_parts line p)
    (runs-hold (λ (e : Event). passes e ≡ true) n.HeadingSetextUnderlineSequence (λ q. refl, λ q. refl)
    (λ q. refl, λ q. refl) Apart (first_byte (trim_start line)) line p)
  where
    each-unturned : (es : List Event) → Each (λ (e : Event). passes e ≡ true) es → AreUnturned es
    each-unturned [] h = tt
    each-unturned (e ∷ es) h = (h.0, each-unturned es h.1)

-- It is a stretch.

-- a marker of underlines
run-marker : (m : ℕ) → is_marker m ≡ true → IsMarker n.HeadingSetextUnderlineSequence m
run-marker m e ys some all = go (m == 61) refl (m == 45) refl e
  where
    run : (c : ℕ) → (m == c) ≡ true → is_run 1 c ys ≡ true
    run c f = marker-run m c ys some all f

    go : (x : Bool) → (m == 61) ≡ x → (y : Bool) → (m == 45) ≡ y → (x || y) ≡ true →
        may_cover n.HeadingSetextUnderlineSequence ys ≡ true
    go true f y g e = or_left (is_run 1 61 ys) (is_run 1 45 ys) (run 61 f)
    go false f true g e = or_right (is_run 1 61 ys) (is_run 1 45 ys) (run 45 g)
    go false f false g e = cc

-- of ASCII
marker-low : (m : ℕ) → is_marker m ≡ true → is_low m ≡ true
marker-low m e = grind (arith, nat_tests)

-- all of it, on its line
pub underline-stretch : (bytes : List ℕ) (r : Rest) (line : List ℕ) (p q : Point) → LineAt bytes r line p q →
    is_underline (trim_start line) ≡ true →
    Stretch IsPart bytes p q (underline_line line p) (underline_line line p)
underline-stretch bytes r line p q at is =
    subst (λ (e : Point). Stretch IsPart bytes p e (underline_line line p) (underline_line line p)) (sym at.end)
    (stretch-around n.HeadingSetextUnderline (record { role_is = tt; no_part = refl; still = tt }) (first line is m)
    (first line is m)
    (runs-stretch IsPart bytes n.HeadingSetextUnderlineSequence m line (drop q.index bytes) p
    (record {
      marker = run-marker m mark;
      dark = underline-dark line is;
      low = marker-low m mark;
      marks = record { role_is = tt; no_part = refl; parted = λ a b ys h. h };
      white = tt;
    }) (run-marks m line (underline-run line is)) (line-valid bytes r line p q at) at.cut_first))
  where
    m : ℕ
    m = first_byte (trim_start line)

    mark : is_marker m ≡ true
    mark = underline-first (trim_start line) is

    first : (line : List ℕ) → is_underline (trim_start line) ≡ true → (m : ℕ) →
        Starts (mark_runs n.HeadingSetextUnderlineSequence Apart m line p)
    first [] e m = absurd (cc)
    first (b ∷ bs) e m = runs-start n.HeadingSetextUnderlineSequence m b bs p

-- The grammar.

-- by whether whitespace is in front and after
parts-word : (text : Expression) (front marks back : List ℕ) (p : Point) →
    IsWord text (inside text n.HeadingSetextUnderline ∷ [])
    (run_parts n.HeadingSetextUnderlineSequence front marks back p)
parts-word text [] marks [] p = record { left = _; leads = λ outer. refl; ends = refl }
parts-word text [] marks (b ∷ back) p = record { left = _; leads = λ outer. refl; ends = refl }
parts-word text (b ∷ front) marks [] p = record { left = _; leads = λ outer. refl; ends = refl }
parts-word text (b ∷ front) marks (c ∷ back) p = record { left = _; leads = λ outer. refl; ends = refl }

-- what is in it is a word of its name
pub underline-word : (text : Expression) (line : List ℕ) (p : Point) → is_underline (trim_start line) ≡ true →
    IsWord text (inside text n.HeadingSetextUnderline ∷ []) (underline_parts line p)
underline-word text line p is =
    let run : HasRun (first_byte (trim_start line)) line = underline-run line is in
    subst (IsWord text (inside text n.HeadingSetextUnderline ∷ [])) (sym (parts-are line p is))
    (parts-word text run.front run.marks run.back p)

-- What an outline asks: it shows the markers of a heading after its text.

-- whitespace is not shown
blank-quiet : (bs : List ℕ) (p : Point) → Roles Quiet (blank_line bs p)
blank-quiet [] p = tt
blank-quiet (b ∷ bs) p = (tt, (tt, tt))

-- all of it may be outlined
pub underline-plain : (bytes line : List ℕ) (p : Point) → is_underline (trim_start line) ≡ true →
    clear bytes p ≡ true → ArePlainFrom bytes AfterTitle AfterUnderline (underline_line line p)
underline-plain bytes line p is whole =
    plain-through bytes AfterTitle AfterTitle AfterUnderline (enter n.HeadingSetextUnderline p ∷ [])
    (underline_parts line p ++ end) (quiet-from bytes AfterTitle (enter n.HeadingSetextUnderline p ∷ []) (tt, tt))
    (plain-through bytes AfterTitle AfterUnderline AfterUnderline (underline_parts line p) end
    (subst (ArePlainFrom bytes AfterTitle AfterUnderline) (sym (parts-are line p is))
    (plain-through bytes AfterTitle AfterTitle AfterUnderline (blank_line run.front p)
    (marks ++ blank_line run.back b) (quiet-from bytes AfterTitle (blank_line run.front p) (blank-quiet run.front p))
    (plain-through bytes AfterTitle AfterUnderline AfterUnderline marks (blank_line run.back b) marks-recorded
    (quiet-from bytes AfterUnderline (blank_line run.back b) (blank-quiet run.back b)))))
    (quiet-from bytes AfterUnderline end (tt, tt)))
  where
    end : List Event
    end = exit n.HeadingSetextUnderline (past_text line p) ∷ []

    run : HasRun (first_byte (trim_start line)) line
    run = underline-run line is

    a : Point
    a = past_text run.front p

    b : Point
    b = past_text run.marks (past_text run.front p)

    marks : List Event
    marks = pair n.HeadingSetextUnderlineSequence a b

    begins : clear bytes (past_text run.front p) ≡ true
    begins = past-clear bytes run.front p whole

    marks-recorded : ArePlainFrom bytes AfterTitle AfterUnderline (pair n.HeadingSetextUnderlineSequence a b)
    marks-recorded = record {
      known =
          known-around bytes n.HeadingSetextUnderlineSequence a b [] refl begins (past-clear bytes run.marks a begins)
          (known-none bytes);
      lines = passes-underline bytes n.HeadingSetextUnderlineSequence a b [] refl tt;
    }

-- What it is read as: its markers are said, of which the first shows the depth.

-- the markers
abbrev pub underline_marks : (line : List ℕ) → is_underline (trim_start line) ≡ true → List ℕ
underline_marks line is = (underline-run line is).marks

-- the first of them
pub underline-first_mark : (line : List ℕ) → (is : is_underline (trim_start line) ≡ true) →
    first_byte (underline_marks line is) ≡ first_byte (trim_start line)
underline-first_mark line is = run-first (first_byte (trim_start line)) line (underline-run line is)

-- all of it
pub underline-reads : (bytes : List ℕ) (r : Rest) (line : List ℕ) (p q : Point) (o : Reading) →
    LineAt bytes r line p q → (is : is_underline (trim_start line) ≡ true) → o.text ≡ None →
    read bytes o (underline_line line p) ≡ recorded AsMarkers (record { spaces = 0; text = underline_marks line is }) o
underline-reads bytes r line p q o at is none =
    read-around bytes o n.HeadingSetextUnderline p (past_text line p) (underline_parts line p)
    ∙ ap (read bytes o) (parts-are line p is)
    ∙ read-append bytes o (blank_line run.front p) (marks ++ blank_line run.back b)
    ∙ ap (λ (x : Reading). read bytes x (marks ++ blank_line run.back b))
    (read-quiet bytes o (blank_line run.front p) (blank-quiet run.front p))
    ∙ read-append bytes o marks (blank_line run.back b)
    ∙ read-quiet bytes (read bytes o marks) (blank_line run.back b) (blank-quiet run.back b)
    ∙ read-recorded bytes o n.HeadingSetextUnderlineSequence AsMarkers a b [] refl none tt
    ∙ ap₂ (λ (k i : ℕ). recorded AsMarkers (record { spaces = k; text = slice_range bytes i b.index }) o) spaces from
    ∙ ap (λ (text : List ℕ). recorded AsMarkers (record { spaces = 0; text = text }) o)
    (run-text bytes m line p (drop q.index bytes) run (line-valid bytes r line p q at))
  where
    m : ℕ
    m = first_byte (trim_start line)

    run : HasRun m line
    run = underline-run line is

    a : Point
    a = past_text run.front p

    b : Point
    b = past_text run.marks (past_text run.front p)

    marks : List Event
    marks = pair n.HeadingSetextUnderlineSequence a b

    whole : a.vs ≡ 0
    whole = run-whole m line p (underline-dark line is) at.cut_first run

    spaces : columns_left a ≡ 0
    spaces = ap (λ (k : ℕ). cond (k == 0) 0 (tab_columns (a.column - 1))) whole

    from : byte_at a ≡ a.index
    from = ap (λ (k : ℕ). cond (k == 0) a.index (a.index + 1)) whole
