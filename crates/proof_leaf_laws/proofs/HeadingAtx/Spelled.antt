-- What the events of a heading are read as: its markers, and its text.
use Rattle.std.proofs.Common.{◌≡◌, ℕ, zero, suc, ◌+◌, ◌≤◌, Bool, true, false, cond, ◌&&◌, List, [], ◌∷◌, ◌++◌, length}
use Rattle.std.proofs.Common.{take, drop, reverse, slice_range, refl, ap, sym, ◌∙◌, subst, drop-drop, inl, inr, ◌⊎◌}
use Rattle.std.proofs.Common.{◌||◌, ◌<◌, arith}
use Rattle.std.specs.Prelude.{◌==◌, nat_le, not, Option, Some, None, option_map}
use Rattle.std.specs.List.{prefix_len}
use Rattle.std.proofs.lemmas.Bool.{and_parts, eqb-true}
use Rattle.std.proofs.lemmas.Bool.Decides.{nat_tests}
use Rattle.std.proofs.lemmas.List.Folds.{length-prefix_len}
use Rattle.md_engine.specs.declared.event.Event.{Event}
use Rattle.md_engine.specs.declared.event.Name.TheVariants as n
use Rattle.md_engine.specs.declared.event.Point.{Point}
use Rattle.md_leaves.specs.HeadingRule.{is_heading}
use Rattle.md_leaves.specs.HeadingRuns as runs
use Rattle.md_leaves.specs.HeadingRuns.{Apart, Hashes, Run, White, chunk_unless_empty, closes, is_continued, line_runs}
use Rattle.md_leaves.specs.HeadingRuns.{opens}
use Rattle.md_leaves.specs.HeadingTitle.{Title, front_len, text_of, title_of}
use Rattle.md_leaves.proofs.TitleLemmas.{title-fits}
use Rattle.md_leaves.proofs.TitleRuns.{begun-hash, begun-white}
use Rattle.md_events.specs.declared.inline.Chunk.{Chunk}
use Rattle.md_events.specs.Events.Inline.{plain_chunks, together}
use Rattle.md_events.specs.Events.Nested.{around}
use Rattle.md_events.specs.Events.Places.{past_byte, past_text}
use Rattle.md_events.specs.Events.Spelled.{AsHeading, AsMarkers, HeadingAtxLeaf, HeadingSoFar, OfHeadingAtx, OpenLeaf}
use Rattle.md_events.specs.Events.Spelled.{Reading, TextRole, Text, add_block, begun, byte_at, columns_left}
use Rattle.md_events.specs.Events.Spelled.{first_recorded, fresh, noted, read, read_exit, text_to, recorded_at}
use Rattle.md_meaning.specs.Leaves.{heading_lines, heading_text, without_closing}
use Rattle.md_meaning.specs.Rest.{Rest, is_parted, is_white, run_len, trim, trim_end, trim_start}
use Rattle.md_meaning.specs.Texts.{split_lines, trim_each}
use Rattle.md_meaning.specs.Tree.{Block, Heading}
use Rattle.md_events.proofs.BlocksLemmas.{read-leaf, read-recorded}
use Rattle.md_events.proofs.FeedLines.{past_text-whole, slice-inside}
use Rattle.md_events.proofs.InlineLemmas.{past-index}
use Rattle.md_events.proofs.SpelledLemmas.{Between, Quiet, QuietOrEnding, Roles, read-from, read-quiet, text-inline}
use Rattle.md_events.proofs.SpelledLemmas.{text_after}
use Rattle.md_events.proofs.RestLines.{count-none, count-one}
use Rattle.md_meaning.proofs.TextsLemmas.{NoEnding, split-line}
use Rattle.proof_leaf_laws.specs.Leaf.HeadingAtx.{heading_around, heading_block, read_text, read_title}
use Rattle.proof_leaf_laws.proofs.HeadingAtx.Places.{IsTitle, title-is}
use Rattle.proof_frame.proofs.LeafFacts.{LineAt}
use Rattle.proof_frame.proofs.PieceFacts.{CutsFirst}
use Rattle.proof_frame.proofs.PlainRoles.{plain-roles}
use Rattle.proof_frame.proofs.RestFacts.{rest-trim}

-- how many bytes a run of `#` has, and the whitespace after it
abbrev opening_by : ℕ → List ℕ → ℕ
opening_by depth bs = depth + prefix_len is_white (drop depth bs)

abbrev opening_len : List ℕ → ℕ
opening_len bs = opening_by (run_len 35 bs) bs

-- with one byte more in front
opening-more : (depth b : ℕ) (bs : List ℕ) → opening_by (suc depth) (b ∷ bs) ≡ suc (opening_by depth bs)
opening-more depth b bs = omega arith

-- it continues after `#`, and is whitespace from another byte on
opening-hash : (b : ℕ) (bs : List ℕ) → (b == 35) ≡ true → opening_len (b ∷ bs) ≡ suc (opening_len bs)
opening-hash b bs e =
    ap (λ (k : ℕ). opening_by k (b ∷ bs)) (count-one (λ (c : ℕ). c == 35) b bs e)
    ∙ opening-more (run_len 35 bs) b bs

opening-other : (b : ℕ) (bs : List ℕ) → (b == 35) ≡ false → opening_len (b ∷ bs) ≡ prefix_len is_white (b ∷ bs)
opening-other b bs e = ap (λ (k : ℕ). opening_by k (b ∷ bs)) (count-none (λ (c : ℕ). c == 35) b bs e) ∙ omega arith

-- the same after an indent
abbrev front_by : ℕ → List ℕ → ℕ
front_by indent line = let depth = run_len 35 (drop indent line) in opening_by (indent + depth) line

-- it continues after whitespace, and begins at another byte
front-white : (b : ℕ) (bs : List ℕ) → is_white b ≡ true → front_len (b ∷ bs) ≡ suc (front_len bs)
front-white b bs e =
    let indent = prefix_len is_white bs in
    let depth = run_len 35 (drop indent bs) in
    let sum : suc indent + depth ≡ suc (indent + depth) = omega arith in
    ap (λ (k : ℕ). front_by k (b ∷ bs)) (count-one is_white b bs e)
    ∙ ap (λ (k : ℕ). opening_by k (b ∷ bs)) sum
    ∙ opening-more (indent + depth) b bs

front-other : (b : ℕ) (bs : List ℕ) → is_white b ≡ false → front_len (b ∷ bs) ≡ opening_len (b ∷ bs)
front-other b bs e =
    let sum : 0 + run_len 35 (b ∷ bs) ≡ run_len 35 (b ∷ bs) = omega arith in
    ap (λ (k : ℕ). front_by k (b ∷ bs)) (count-none is_white b bs e) ∙ ap (λ (k : ℕ). opening_by k (b ∷ bs)) sum

-- Runs.

-- a run continues with a byte, or another one begins with it
run-proceeds : (run : Run) (b : ℕ) (bs : List ℕ) (p : Point) → is_continued run b ≡ true →
    line_runs run (b ∷ bs) p ≡ line_runs run bs (past_byte b p)
run-proceeds run b bs p e =
    ap
    (λ (t : Bool).
    cond t (line_runs run bs (past_byte b p))
    (closes run p ++ opens (runs.begun b) p ++ line_runs (runs.begun b) bs (past_byte b p))) e

run-turns : (run into : Run) (b : ℕ) (bs : List ℕ) (p : Point) → is_continued run b ≡ false → runs.begun b ≡ into →
    line_runs run (b ∷ bs) p ≡ closes run p ++ opens into p ++ line_runs into bs (past_byte b p)
run-turns run into b bs p e f =
    ap
    (λ (t : Bool).
    cond t (line_runs run bs (past_byte b p))
    (closes run p ++ opens (runs.begun b) p ++ line_runs (runs.begun b) bs (past_byte b p))) e
    ∙ ap (λ (x : Run). closes run p ++ opens x p ++ line_runs x bs (past_byte b p)) f

-- a run of `#` continues with `#`
hash-proceeds : (b : ℕ) → (b == 35) ≡ true → is_continued Hashes b ≡ true
hash-proceeds b e = ap (is_continued Hashes) (eqb-true b 35 e)

-- The opening sequence.

-- whitespace is not shown
white-quiet : (bs : List ℕ) (p : Point) → Roles Quiet (line_runs White (take (prefix_len is_white bs) bs) p)
white-quiet [] p = (tt, tt)
white-quiet (b ∷ bs) p = go (is_white b) refl (white-quiet bs (past_byte b p))
  where
    go : (x : Bool) → is_white b ≡ x →
        Roles Quiet (line_runs White (take (prefix_len is_white bs) bs) (past_byte b p)) →
        Roles Quiet (line_runs White (take (prefix_len is_white (b ∷ bs)) (b ∷ bs)) p)
    go true e more =
        subst (λ (k : ℕ). Roles Quiet (line_runs White (take k (b ∷ bs)) p)) (sym (count-one is_white b bs e))
        (subst (Roles Quiet) (sym (run-proceeds White b (take (prefix_len is_white bs) bs) p e)) more)
    go false e more =
        subst (λ (k : ℕ). Roles Quiet (line_runs White (take k (b ∷ bs)) p)) (sym (count-none is_white b bs e)) (tt, tt)

-- a heading is open, with these markers
abbrev marked : Reading → List ℕ → Reading
marked r markers = record r { text = None; leaf = Some (HeadingAtxLeaf (record { markers = markers; text = [] })) }

-- the first run of markers ends
read-markers : (bytes : List ℕ) (r : Reading) (first p : Point) → r.text ≡ Some (begun first) →
    r.leaf ≡ Some (fresh OfHeadingAtx) →
    read_exit bytes (TextRole AsMarkers) p r ≡ marked r (slice_range bytes (byte_at first) p.index)
read-markers bytes r first p t l =
    ap (λ (x : Option Text). recorded_at bytes AsMarkers p x r) t
    ∙ ap
    (λ (x : Option OpenLeaf).
    record r {
      text = None;
      leaf =
          option_map
          (noted AsMarkers
          (record { spaces = columns_left first; text = slice_range bytes (byte_at first) p.index })) x;
    }) l

-- from inside the run on
read-opening : (bytes : List ℕ) (r : Reading) (first : Point) (bs : List ℕ) (p : Point) → r.text ≡ Some (begun first) →
    r.leaf ≡ Some (fresh OfHeadingAtx) →
    read bytes r (line_runs Hashes (take (opening_len bs) bs) p) ≡
    marked r (slice_range bytes (byte_at first) (p.index + run_len 35 bs))
read-opening bytes r first [] p t l =
    let end : p.index ≡ p.index + run_len 35 [] = omega arith in
    read-markers bytes r first p t l ∙ ap (λ (i : ℕ). marked r (slice_range bytes (byte_at first) i)) end
read-opening bytes r first (b ∷ bs) p t l =
    go (b == 35) refl (is_white b) refl (read-opening bytes r first bs (past_byte b p) t l)
  where
    by : ℕ → Reading
    by k = read bytes r (line_runs Hashes (take k (b ∷ bs)) p)

    to : ℕ → Reading
    to k = marked r (slice_range bytes (byte_at first) k)

    none : (b == 35) ≡ false → p.index ≡ p.index + run_len 35 (b ∷ bs)
    none e = let size = count-none (λ (c : ℕ). c == 35) b bs e in omega (arith, size)

    go : (x : Bool) → (b == 35) ≡ x → (y : Bool) → is_white b ≡ y →
        read bytes r (line_runs Hashes (take (opening_len bs) bs) (past_byte b p)) ≡ to (p.index + 1 + run_len 35 bs) →
        by (opening_len (b ∷ bs)) ≡ to (p.index + run_len 35 (b ∷ bs))
    go true e y f more =
        let size = count-one (λ (c : ℕ). c == 35) b bs e in
        let end : p.index + 1 + run_len 35 bs ≡ p.index + run_len 35 (b ∷ bs) = omega (arith, size) in
        ap by (opening-hash b bs e) ∙ ap (read bytes r)
        (run-proceeds Hashes b (take (opening_len bs) bs) p (hash-proceeds b e)) ∙ more
        ∙ ap to end
    go false e true f more =
        let left = take (prefix_len is_white bs) bs in
        ap by (opening-other b bs e ∙ count-one is_white b bs f)
        ∙ ap (read bytes r) (run-turns Hashes White b left p (ap not f) (begun-white b f))
        ∙ read-quiet bytes (read_exit bytes (TextRole AsMarkers) p r) (line_runs White left (past_byte b p))
        (white-quiet bs (past_byte b p))
        ∙ read-markers bytes r first p t l
        ∙ ap to (none e)
    go false e false f more =
        ap by (opening-other b bs e ∙ count-none is_white b bs f)
        ∙ read-markers bytes r first p t l
        ∙ ap to (none e)

-- before the first marker
abbrev Gap : Run → Type 0
Gap Apart = Unit {0}
Gap White = Unit {0}
Gap _ = ⊥

-- it continues with whitespace, and ends at the first marker
gap-white : (bytes : List ℕ) (r : Reading) (run : Run) (b : ℕ) (bs : List ℕ) (p : Point) → Gap run → is_white b ≡ true →
    read bytes r (line_runs run (b ∷ bs) p) ≡ read bytes r (line_runs White bs (past_byte b p))
gap-white bytes r Apart b bs p gap e = ap (read bytes r) (run-turns Apart White b bs p refl (begun-white b e))
gap-white bytes r White b bs p gap e = ap (read bytes r) (run-proceeds White b bs p e)
gap-white bytes r run b bs p gap e = absurd gap

gap-hash : (bytes : List ℕ) (r : Reading) (run : Run) (b : ℕ) (bs : List ℕ) (p : Point) → Gap run → is_white b ≡ false →
    (b == 35) ≡ true →
    read bytes r (line_runs run (b ∷ bs) p) ≡
    read bytes (record r { text = Some (begun p) }) (line_runs Hashes bs (past_byte b p))
gap-hash bytes r Apart b bs p gap e f = ap (read bytes r) (run-turns Apart Hashes b bs p refl (begun-hash b f))
gap-hash bytes r White b bs p gap e f = ap (read bytes r) (run-turns White Hashes b bs p e (begun-hash b f))
gap-hash bytes r run b bs p gap e f = absurd gap

-- the first byte of a heading
heading-first : (b : ℕ) (bs : List ℕ) → is_heading (b ∷ bs) ≡ true → (b == 35) ≡ true
heading-first b bs h = go (b == 35) refl
  where
    go : (x : Bool) → (b == 35) ≡ x → x ≡ true
    go true e = refl
    go false e =
        let bad : false ≡
        true = sym
        (ap (λ (k : ℕ). nat_le 1 k && (nat_le (0 + k) 6 && is_parted (drop k (b ∷ bs))))
        (count-none (λ (c : ℕ). c == 35) b bs e))
        ∙ h in
        cc

-- where a line has no whitespace any more
abbrev following_white : List ℕ → Point → Point
following_white line p = past_text (take (prefix_len is_white line) line) p

-- the markers of a heading, and what is around them
read-front : (bytes : List ℕ) (r : Reading) (run : Run) (line : List ℕ) (p : Point) → Gap run →
    is_heading (trim_start line) ≡ true → r.leaf ≡ Some (fresh OfHeadingAtx) →
    read bytes r (line_runs run (take (front_len line) line) p) ≡
    marked r
    (slice_range bytes (byte_at (following_white line p))
    ((following_white line p).index + run_len 35 (trim_start line)))
read-front bytes r run [] p gap h l = cc
read-front bytes r run (b ∷ bs) p gap h l = go (is_white b) refl (read-front bytes r White bs (past_byte b p) tt)
  where
    by : ℕ → Reading
    by k = read bytes r (line_runs run (take k (b ∷ bs)) p)

    -- with so much whitespace in front
    to : ℕ → Reading
    to k =
        let q = past_text (take k (b ∷ bs)) p in
        marked r (slice_range bytes (byte_at q) (q.index + run_len 35 (drop k (b ∷ bs))))

    go : (x : Bool) → is_white b ≡ x →
        (is_heading (trim_start bs) ≡ true → r.leaf ≡ Some (fresh OfHeadingAtx) →
        read bytes r (line_runs White (take (front_len bs) bs) (past_byte b p)) ≡ to (suc (prefix_len is_white bs)))
        →
        by (front_len (b ∷ bs)) ≡ to (prefix_len is_white (b ∷ bs))
    go true e more =
        let size = count-one is_white b bs e in
        ap by (front-white b bs e)
        ∙ gap-white bytes r run b (take (front_len bs) bs) p gap e
        ∙ more (sym (ap (λ (k : ℕ). is_heading (drop k (b ∷ bs))) size) ∙ h) l
        ∙ ap to (sym size)
    go false e more =
        let none = count-none is_white b bs e in
        let first = heading-first b bs (sym (ap (λ (k : ℕ). is_heading (drop k (b ∷ bs))) none) ∙ h) in
        let size = count-one (λ (c : ℕ). c == 35) b bs first in
        let end : p.index + 1 + run_len 35 bs ≡ p.index + run_len 35 (b ∷ bs) = omega (arith, size) in
        ap by (front-other b bs e ∙ opening-hash b bs first)
        ∙ gap-hash bytes r run b (take (opening_len bs) bs) p gap e first
        ∙ read-opening bytes (record r { text = Some (begun p) }) p bs (past_byte b p) refl l
        ∙ ap (λ (k : ℕ). marked r (slice_range bytes (byte_at p) k)) end
        ∙ ap to (sym none)

-- After the text.

-- a further run of markers is a text
abbrev text_in : Run → Point → Option Text
text_in Hashes p = Some (begun p)
text_in _ p = None

abbrev InRun : Run → Option Text → Type 0
InRun Hashes text = (first : Point) × (text ≡ Some (begun first))
InRun _ text = text ≡ None

-- so it is after the begin of a run
in-run : (run : Run) (p : Point) → InRun run (text_in run p)
in-run Hashes p = (p, refl)
in-run Apart p = refl
in-run White p = refl

-- a run begins
read-opens : (bytes : List ℕ) (r : Reading) (run : Run) (p : Point) → r.text ≡ None →
    read bytes r (opens run p) ≡ record r { text = text_in run p }
read-opens bytes r Hashes p t = refl
read-opens bytes r Apart p t = ap (λ (x : Option Text). record r { text = x }) t
read-opens bytes r White p t = ap (λ (x : Option Text). record r { text = x }) t

-- a run after the first one of markers says nothing
read-closes : (bytes : List ℕ) (r : Reading) (heading : HeadingSoFar) (m : ℕ) (ms : List ℕ) (run : Run) (p : Point) →
    r.leaf ≡ Some (HeadingAtxLeaf heading) → heading.markers ≡ m ∷ ms → InRun run r.text →
    read bytes r (closes run p) ≡ record r { text = None }
read-closes bytes r heading m ms Hashes p l e t =
    let further : List ℕ = slice_range bytes (byte_at t.0) p.index in
    let with_markers : List ℕ →
    Reading = λ markers. record r {
      text = None;
      leaf = Some (HeadingAtxLeaf (record heading { markers = markers }));
    } in
    ap (λ (x : Option Text). recorded_at bytes AsMarkers p x r) t.1
    ∙ ap
    (λ (x : Option OpenLeaf).
    record r {
      text = None;
      leaf = option_map (noted AsMarkers (record { spaces = columns_left t.0; text = further })) x;
    }) l
    ∙ ap (λ (x : List ℕ). with_markers (first_recorded x further)) e
    ∙ ap with_markers (sym e)
    ∙ ap (λ (x : Option OpenLeaf). record r { text = None; leaf = x }) (sym l)
read-closes bytes r heading m ms Apart p l e t = ap (λ (x : Option Text). record r { text = x }) t
read-closes bytes r heading m ms White p l e t = ap (λ (x : Option Text). record r { text = x }) t

-- so what is left of runs says nothing
read-runs : (bytes : List ℕ) (r : Reading) (heading : HeadingSoFar) (m : ℕ) (ms : List ℕ) (run : Run) (line : List ℕ)
    (p : Point) →
    r.leaf ≡ Some (HeadingAtxLeaf heading) → heading.markers ≡ m ∷ ms → InRun run r.text →
    read bytes r (line_runs run line p) ≡ record r { text = None }
read-runs bytes r heading m ms run [] p l e t = read-closes bytes r heading m ms run p l e t
read-runs bytes r heading m ms run (b ∷ bs) p l e t =
    go (is_continued run b) refl (read-runs bytes r heading m ms run bs (past_byte b p) l e t)
    (read-runs bytes (record r { text = text_in (runs.begun b) p }) heading m ms (runs.begun b) bs
    (past_byte b p) l e (in-run (runs.begun b) p))
  where
    into : Run
    into = runs.begun b

    mid : Reading
    mid = record r { text = text_in into p }

    go : (x : Bool) → is_continued run b ≡ x → read bytes r (line_runs run bs (past_byte b p)) ≡
        record r { text = None } →
        read bytes mid (line_runs into bs (past_byte b p)) ≡ record r { text = None } →
        read bytes r (line_runs run (b ∷ bs) p) ≡ record r { text = None }
    go true k same turned = ap (read bytes r) (run-proceeds run b bs p k) ∙ same
    go false k same turned =
        ap (read bytes r) (run-turns run into b bs p k refl)
        ∙ read-from bytes r mid (closes run p ++ opens into p) (line_runs into bs (past_byte b p))
        (read-from bytes r (record r { text = None }) (closes run p) (opens into p)
        (read-closes bytes r heading m ms run p l e t)
        ∙ read-opens bytes (record r { text = None }) into p refl)
        ∙ turned

-- The text.

-- whether no whitespace comes first
abbrev Bare : List ℕ → Type 0
Bare bytes = prefix_len is_white bytes ≡ 0

-- none does where it was dropped, nor in what is taken of such bytes
bare-trim : (bytes : List ℕ) → Bare (trim_start bytes)
bare-trim [] = refl
bare-trim (b ∷ bs) = go (is_white b) refl (bare-trim bs)
  where
    go : (x : Bool) → is_white b ≡ x → Bare (trim_start bs) → Bare (trim_start (b ∷ bs))
    go true e more = subst (λ (k : ℕ). Bare (drop k (b ∷ bs))) (sym (count-one is_white b bs e)) more
    go false e more =
        subst (λ (k : ℕ). Bare (drop k (b ∷ bs))) (sym (count-none is_white b bs e)) (count-none is_white b bs e)

bare-take : (n : ℕ) (bytes : List ℕ) → Bare bytes → Bare (take n bytes)
bare-take zero bytes h = refl
bare-take (suc n) [] h = refl
bare-take (suc n) (b ∷ bs) h = go (is_white b) refl
  where
    go : (x : Bool) → is_white b ≡ x → Bare (take (suc n) (b ∷ bs))
    go true e =
        let bad : suc (prefix_len is_white bs) ≡ 0 = sym (count-one is_white b bs e) ∙ h in absurd (omega (arith, bad))
    go false e = count-none is_white b (take n bs) e

-- the text of a heading begins with no whitespace
bare-text : (after : List ℕ) → Bare (heading_text after)
bare-text after = go (is_parted (reverse (without_closing (trim after))))
  where
    text : Bare (trim after)
    text = bare-take _ (trim_start after) (bare-trim after)

    front : Bare (without_closing (trim after))
    front = bare-take _ (trim after) text

    go : (x : Bool) → Bare (cond x (trim_end (without_closing (trim after))) (trim after))
    go true = bare-take _ (without_closing (trim after)) front
    go false = text

-- a text on one line is that line
text-lines : (text : List ℕ) → NoEnding text → Bare text → trim_each (split_lines text) ≡ text ∷ []
text-lines text none bare = ap trim_each (split-line text none) ∙ ap (λ (k : ℕ). drop k text ∷ []) bare

-- a heading is open, with its markers and its text
abbrev titled : Reading → List ℕ → List (List ℕ) → Reading
titled r markers lines =
    record r { text = None; leaf = Some (HeadingAtxLeaf (record { markers = markers; text = lines })) }

-- the text of a heading is read as that line
read-part : (bytes : List ℕ) (r : Reading) (markers : List ℕ) (begin end : Point) (text : List ℕ) → begin.vs ≡ 0 →
    slice_range bytes begin.index end.index ≡ text → NoEnding text → Bare text →
    read bytes (marked r markers) (read_text bytes (chunk_unless_empty (length text) begin end)) ≡
    titled r markers (heading_lines text)
read-part bytes r markers begin end [] whole is none bare = refl
read-part bytes r markers begin end (b ∷ bs) whole is none bare =
    let chunk : Chunk = record { first = begin; after = end } in
    let inside : List Event = together (plain_chunks bytes (chunk ∷ [])) in
    let some : length (b ∷ bs) == 0 ≡ false = grind (arith, nat_tests) in
    let text : text_to bytes end.index (text_after bytes (begun begin) inside) ≡ b ∷ bs =
    ap (text_to bytes end.index)
    (text-inline bytes (begun begin) inside (plain-roles QuietOrEnding bytes (chunk ∷ []) tt tt))
    ∙ ap (λ (vs : ℕ). slice_range bytes (cond (vs == 0) begin.index (begin.index + 1)) end.index) whole
    ∙ is in
    ap (λ (x : Bool). read bytes (marked r markers) (read_text bytes (cond x None (Some chunk)))) some
    ∙ read-recorded bytes (marked r markers) n.HeadingAtxText AsHeading begin end inside refl refl
    (plain-roles Between bytes (chunk ∷ []) tt tt)
    ∙ ap (λ (x : List ℕ). titled r markers (trim_each (split_lines x))) text
    ∙ ap (titled r markers) (text-lines (b ∷ bs) none bare)

-- Headings.

-- a heading has a marker
heading-depth : (bytes : List ℕ) → is_heading bytes ≡ true → 1 ≤ run_len 35 bytes
heading-depth bytes h =
    let some : nat_le 1 (run_len 35 bytes) ≡
    true = (and_parts (nat_le 1 (run_len 35 bytes))
    (nat_le (0 + run_len 35 bytes) 6 && is_parted (drop (run_len 35 bytes) bytes)) h).0 in
    grind (arith, nat_tests)

-- what has a byte has a first one
not-empty : (bytes : List ℕ) → 1 ≤ length bytes → (b : ℕ) × (bs : List ℕ) × (bytes ≡ b ∷ bs)
not-empty [] h = absurd (omega (arith, h))
not-empty (b ∷ bs) h = (b, bs, refl)

-- a line in a text
record IsAt (bytes line : List ℕ) (p : Point) (end : ℕ) : Type 0 where
  text : slice_range bytes p.index end ≡ line
  size : end ≡ p.index + length line
  -- no tab is cut where its markers and where its text begin
  whole : (following_white line p).vs ≡ 0
  text_whole : (past_text (take (front_len line) line) p).vs ≡ 0
  no_ending : NoEnding line
  heading : is_heading (trim_start line) ≡ true
  -- where the text of the heading is in it
  title : IsTitle bytes line p
  fits : front_len line + length (text_of line) ≤ length line

abbrev markers_of : List ℕ → List ℕ → Point → List ℕ
markers_of bytes line p =
    let q = following_white line p in slice_range bytes (byte_at q) (q.index + run_len 35 (trim_start line))

-- they are as many as the run of `#`
markers-are : (bytes line : List ℕ) (p : Point) (end : ℕ) → IsAt bytes line p end →
    length (markers_of bytes line p) ≡ run_len 35 (trim_start line)
markers-are bytes line p end is =
    let indent = prefix_len is_white line in
    let depth = run_len 35 (trim_start line) in
    let q = following_white line p in
    let fits = is.fits in
    let place : q.index ≡ p.index + indent = past-index (take indent line) p
    ∙ ap (λ (k : ℕ). p.index + k) (length-prefix_len is_white line) in
    ap (λ (vs : ℕ). length (slice_range bytes (cond (vs == 0) q.index (q.index + 1)) (q.index + depth))) is.whole
    ∙ ap (λ (k : ℕ). length (slice_range bytes k (k + depth))) place
    ∙ ap length (slice-inside bytes line p.index end indent depth is.text is.size (omega (arith, fits)))
    ∙ length-prefix_len (λ (c : ℕ). c == 35) (trim_start line)

-- what is in a heading is read as its markers and its text
read-inside : (bytes line : List ℕ) (p : Point) (end : ℕ) (r : Reading) → IsAt bytes line p end → r.text ≡ None →
    read bytes (record r { leaf = Some (fresh OfHeadingAtx) }) (read_title bytes (title_of line p)) ≡
    record r {
      leaf = Some
          (HeadingAtxLeaf (record { markers = markers_of bytes line p; text = heading_lines (text_of line) }));
    }
read-inside bytes line p end r is t =
    let opened : Reading = record r { leaf = Some (fresh OfHeadingAtx) } in
    let markers : List ℕ = markers_of bytes line p in
    let lines : List (List ℕ) = heading_lines (text_of line) in
    let heading : HeadingSoFar = record { markers = markers; text = lines } in
    let first = front_len line in
    let size = length (text_of line) in
    let from = past_text (take first line) p in
    let to = past_text (take (first + size) line) p in
    let title : Title = title_of line p in
    let depth = heading-depth (trim_start line) is.heading in
    let some = not-empty markers (omega (arith, depth, markers-are bytes line p end is)) in
    read-from bytes opened (titled r markers lines) (title.front ++ read_text bytes title.text) title.back
    (read-from bytes opened (marked r markers) title.front (read_text bytes title.text)
    (read-front bytes opened Apart line p tt is.heading refl)
    ∙ read-part bytes r markers from to (text_of line) is.text_whole is.title.slice is.title.no_ending
    (bare-text (drop (prefix_len is_white line + run_len 35 (trim_start line)) line)))
    ∙ read-runs bytes (titled r markers lines) heading some.0 some.1 Apart
    (drop (first + size) line) to refl some.2 refl
    ∙ ap (λ (x : Option Text). record r { text = x; leaf = Some (HeadingAtxLeaf heading) }) (sym t)

-- the heading of a text that begins with its markers
abbrev heading_of : List ℕ → Block
heading_of text = let depth = run_len 35 text in Heading depth (heading_lines (heading_text (drop depth text)))

-- The heading is read as its block.
read-at : (bytes line : List ℕ) (p q : Point) (end : ℕ) (r : Reading) → IsAt bytes line p end → r.text ≡ None →
    r.leaf ≡ None →
    read bytes r (around n.HeadingAtx p q (read_title bytes (title_of line p))) ≡
    add_block (heading_of (trim_start line)) r
read-at bytes line p q end r is t l =
    let indent = prefix_len is_white line in
    let depth = run_len 35 (trim_start line) in
    let leaf : OpenLeaf = HeadingAtxLeaf
    (record { markers = markers_of bytes line p; text = heading_lines (text_of line) }) in
    read-leaf bytes r n.HeadingAtx OfHeadingAtx p q (read_title bytes (title_of line p)) leaf refl l
    (read-inside bytes line p end r is t)
    ∙ ap (λ (k : ℕ). add_block (Heading k (heading_lines (text_of line))) r) (markers-are bytes line p end is)
    ∙ ap (λ (x : List ℕ). add_block (Heading depth (heading_lines (heading_text x))) r)
    (sym (drop-drop depth indent line))

-- after a byte no tab is cut
taken-whole : (n : ℕ) (line : List ℕ) (p : Point) → (p.vs ≡ 0) ⊎ ((0 < n) × (0 < length line)) →
    (past_text (take n line) p).vs ≡ 0
taken-whole n line p (inl whole) = past_text-whole (take n line) p whole
taken-whole zero line p (inr some) = absurd (omega arith)
taken-whole (suc n) [] p (inr some) = absurd (omega arith)
taken-whole (suc n) (b ∷ bs) p (inr some) = past_text-whole (take n bs) (past_byte b p) refl

-- a heading has a byte, and its markers
heading-some : (line : List ℕ) → is_heading (trim_start line) ≡ true → (0 < front_len line) × (0 < length line)
heading-some line h =
    let depth = heading-depth (trim_start line) h in
    let fits = title-fits line in
    let front : 1 ≤ front_len line = omega (arith, depth) in
    (omega arith, omega arith)

-- where the markers begin no tab is cut: one that is cut is whitespace in front
markers-whole : (line : List ℕ) (p : Point) → CutsFirst p line → is_heading (trim_start line) ≡ true →
    (following_white line p).vs ≡ 0
markers-whole [] p cut h = cc
markers-whole (b ∷ bs) p cut h = go (p.vs == 0) refl (b == 9) refl cut
  where
    whole : (p.vs == 0) ≡ true → p.vs ≡ 0
    whole e = eqb-true p.vs 0 e

    tab : (b == 9) ≡ true → is_white b ≡ true
    tab e = grind (arith, nat_tests)

    go : (x : Bool) → (p.vs == 0) ≡ x → (y : Bool) → (b == 9) ≡ y → (x || y) ≡ true →
        (following_white (b ∷ bs) p).vs ≡ 0
    go true e y f k = past_text-whole (take (prefix_len is_white (b ∷ bs)) (b ∷ bs)) p (whole e)
    go false e true f k =
        let size = count-one is_white b bs (tab f) in
        taken-whole (prefix_len is_white (b ∷ bs)) (b ∷ bs) p (inr (omega arith, omega arith))
    go false e false f k = cc

-- The events of a line that is a heading are read as its heading.
pub heading-reads : (bytes : List ℕ) (r : Rest) (line : List ℕ) (p q : Point) (o : Reading) → LineAt bytes r line p q →
    is_heading (trim_start line) ≡ true → o.text ≡ None → o.leaf ≡ None →
    read bytes o (heading_around line p (read_title bytes (title_of line p))) ≡ add_block (heading_block r) o
heading-reads bytes r line p q o is h t l =
    read-at bytes line p (past_text line p) q.index o
    (record {
      text = is.text;
      size = is.size;
      whole = markers-whole line p is.cut_first h;
      text_whole = taken-whole (front_len line) line p (inr (heading-some line h));
      no_ending = is.no_ending;
      heading = h;
      title = title-is bytes r line p q is;
      fits = title-fits line;
    }) t l
    ∙ ap (λ (text : List ℕ). add_block (heading_of text) o) (ap trim_start is.line_is ∙ rest-trim r)
