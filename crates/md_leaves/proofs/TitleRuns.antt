-- The runs of a heading's line, piece by piece, and what the walk that sets its text makes of them.
use Rattle.std.proofs.Common.{◌≡◌, ℕ, Bool, true, false, List, [], ◌∷◌, ◌++◌, get_or, Option, Some, refl, sym, ◌∙◌}
use Rattle.std.proofs.Common.{ap, append_assoc, append-nil}
use Rattle.std.specs.Prelude.{◌==◌, not}
use Rattle.std.specs.List.{AllPass}
use Rattle.std.proofs.lemmas.Bool.{eqb-true, false≢true}
use Rattle.std.proofs.lemmas.List.Elements.{All-head, All-tail}
use Rattle.md_engine.specs.declared.event.Event.{Event}
use Rattle.md_engine.specs.declared.event.Name.TheVariants as n
use Rattle.md_engine.specs.declared.event.Point.{Point}
use Rattle.md_leaves.specs.HeadingRuns.{Apart, Hashes, Run, White, begun, closes, is_continued, line_runs, opens}
use Rattle.md_leaves.specs.HeadingText.{Before, Opened, Within, resolved}
use Rattle.md_meaning.specs.Bytes.{begins}
use Rattle.md_meaning.specs.Rest.{is_white}
use Rattle.md_events.specs.Events.Nested.{pair}
use Rattle.md_events.specs.Events.Places.{past_byte, past_text}

abbrev pub is_hash : ℕ → Bool
is_hash b = b == 35

-- bytes that all pass a test

pub pass-first : (f : ℕ → Bool) (b : ℕ) (bs : List ℕ) → AllPass f (b ∷ bs) → f b ≡ true
pass-first f b bs h = All-head (λ (x : ℕ). f x ≡ true) b bs h

pub pass-rest : (f : ℕ → Bool) (b : ℕ) (bs : List ℕ) → AllPass f (b ∷ bs) → AllPass f bs
pass-rest f b bs h = All-tail (λ (x : ℕ). f x ≡ true) b bs h

-- which run a byte begins

pub begun-white : (b : ℕ) → is_white b ≡ true → begun b ≡ White
begun-white b e = rw e refl

pub begun-hash : (b : ℕ) → (b == 35) ≡ true → begun b ≡ Hashes
begun-hash b e = ap begun (eqb-true b 35 e)

begun-is : (run : Run) (b : ℕ) → is_continued run b ≡ true → begun b ≡ run
begun-is Apart b e = absurd (false≢true e)
begun-is White b e = begun-white b e
begun-is Hashes b e = go (is_white b) refl
  where
    go : (x : Bool) → is_white b ≡ x → begun b ≡ Hashes
    go true k = absurd (false≢true (sym (ap not k) ∙ e))
    go false k = rw k refl

-- a run that ends before other bytes
run-left : (run : Run) (xs ys : List ℕ) (p : Point) → AllPass (is_continued run) xs →
    begins (is_continued run) ys ≡ false →
    line_runs run (xs ++ ys) p ≡ closes run (past_text xs p) ++ line_runs Apart ys (past_text xs p)
run-left run [] [] p h e = sym (append-nil (closes run p))
run-left run [] (y ∷ ys) p h e =
    rw e (append_assoc (closes run p) (opens (begun y) p) (line_runs (begun y) ys (past_byte y p)))
run-left run (b ∷ bs) ys p h e =
    let here : is_continued run b ≡ true = pass-first (is_continued run) b bs h in
    rw here (run-left run bs ys (past_byte b p) (pass-rest (is_continued run) b bs h) e)

run-whole : (run : Run) (b : ℕ) (bs ys : List ℕ) (p : Point) → AllPass (is_continued run) (b ∷ bs) →
    begins (is_continued run) ys ≡ false →
    line_runs Apart (b ∷ (bs ++ ys)) p ≡
    (opens run p ++ closes run (past_text (b ∷ bs) p)) ++ line_runs Apart ys (past_text (b ∷ bs) p)
run-whole run b bs ys p h e =
    rw (begun-is run b (pass-first (is_continued run) b bs h))
    (ap (λ (es : List Event). opens run p ++ es)
    (run-left run bs ys (past_byte b p) (pass-rest (is_continued run) b bs h) e)
    ∙ sym (append_assoc (opens run p) (closes run (past_text (b ∷ bs) p)) _))

run-alone : (run : Run) (b : ℕ) (bs : List ℕ) (p : Point) → AllPass (is_continued run) (b ∷ bs) →
    line_runs Apart (b ∷ bs) p ≡ opens run p ++ closes run (past_text (b ∷ bs) p)
run-alone run b bs p h =
    ap (λ (l : List ℕ). line_runs Apart (b ∷ l) p) (sym (append-nil bs)) ∙ run-whole run b bs [] p h refl
    ∙ append-nil (opens run p ++ closes run (past_text (b ∷ bs) p))

-- the runs after it are those of what follows
pub runs-cut : (run : Run) (xs ys : List ℕ) (p : Point) → AllPass (is_continued run) xs →
    begins (is_continued run) ys ≡ false →
    line_runs Apart (xs ++ ys) p ≡ line_runs Apart xs p ++ line_runs Apart ys (past_text xs p)
runs-cut run [] ys p h e = refl
runs-cut run (b ∷ bs) ys p h e =
    run-whole run b bs ys p h e
    ∙ ap (λ (es : List Event). es ++ line_runs Apart ys (past_text (b ∷ bs) p)) (sym (run-alone run b bs p h))

-- whitespace is one run, and so are `#`

pub white-runs : (b : ℕ) (bs : List ℕ) (p : Point) → AllPass is_white (b ∷ bs) →
    line_runs Apart (b ∷ bs) p ≡ pair n.SpaceOrTab p (past_text (b ∷ bs) p)
white-runs b bs p h = run-alone White b bs p h

hashes-on : (bs : List ℕ) → AllPass is_hash bs → AllPass (is_continued Hashes) bs
hashes-on bs h k d lt = ap (is_continued Hashes) (eqb-true (get_or bs k d) 35 (h k d lt))

pub hash-runs : (b : ℕ) (bs : List ℕ) (p : Point) → AllPass is_hash (b ∷ bs) →
    line_runs Apart (b ∷ bs) p ≡ pair n.HeadingAtxSequence p (past_text (b ∷ bs) p)
hash-runs b bs p h = run-alone Hashes b bs p (hashes-on (b ∷ bs) h)

-- `#`, and the whitespace after them
pub hashes-cut : (hashes white : List ℕ) (p : Point) → AllPass is_hash hashes → AllPass is_white white →
    line_runs Apart (hashes ++ white) p ≡ line_runs Apart hashes p ++ line_runs Apart white (past_text hashes p)
hashes-cut hashes [] p h w = runs-cut Hashes hashes [] p (hashes-on hashes h) refl
hashes-cut hashes (b ∷ bs) p h w =
    runs-cut Hashes hashes (b ∷ bs) p (hashes-on hashes h) (ap not (pass-first is_white b bs w))

-- whitespace, `#` and whitespace again, each of which may be there or not
abbrev pub three_runs : List ℕ → List ℕ → List ℕ → Point → List Event
three_runs white hashes more p =
    let q = past_text white p in
    line_runs Apart white p ++ (line_runs Apart hashes q ++ line_runs Apart more (past_text hashes q))

pub three-runs : (white hashes more : List ℕ) (p : Point) → AllPass is_white white → AllPass is_hash hashes →
    AllPass is_white more → begins is_white (hashes ++ more) ≡ false →
    line_runs Apart (white ++ (hashes ++ more)) p ≡ three_runs white hashes more p
three-runs white hashes more p w h m apart =
    runs-cut White white (hashes ++ more) p w apart
    ∙ ap (λ (es : List Event). line_runs Apart white p ++ es) (hashes-cut hashes more (past_text white p) h m)

-- The walk, before the text.

pub before-white : (bs : List ℕ) (p : Point) (es : List Event) → AllPass is_white bs →
    resolved Before (line_runs Apart bs p ++ es) ≡ line_runs Apart bs p ++ resolved Before es
before-white [] p es h = refl
before-white (b ∷ bs) p es h = rw (white-runs b bs p h) refl

pub before-hashes : (b : ℕ) (bs : List ℕ) (p : Point) (es : List Event) → AllPass is_hash (b ∷ bs) →
    resolved Before (line_runs Apart (b ∷ bs) p ++ es) ≡ line_runs Apart (b ∷ bs) p ++ resolved Opened es
before-hashes b bs p es h = rw (hash-runs b bs p h) refl

pub opened-white : (bs : List ℕ) (p : Point) (es : List Event) → AllPass is_white bs →
    resolved Opened (line_runs Apart bs p ++ es) ≡ line_runs Apart bs p ++ resolved Opened es
opened-white [] p es h = refl
opened-white (b ∷ bs) p es h = rw (white-runs b bs p h) refl

-- and after it: whitespace stays where it is
pub within-white : (bs : List ℕ) (p first : Point) (after last : Option Point) (closing since es : List Event) →
    AllPass is_white bs →
    resolved (Within first after last closing since) (line_runs Apart bs p ++ es) ≡
    resolved (Within first after last closing (since ++ line_runs Apart bs p)) es
within-white [] p first after last closing since es h = rw (append-nil since) refl
within-white (b ∷ bs) p first after last closing since es h =
    rw (white-runs b bs p h)
    (ap (λ (s : List Event). resolved (Within first after last closing s) es) (append_assoc since _ _))

-- a further run of `#` ends the text before it
pub within-hashes : (b : ℕ) (bs : List ℕ) (p first : Point) (after last : Option Point)
    (closing since es : List Event) →
    AllPass is_hash (b ∷ bs) →
    resolved (Within first after last closing since) (line_runs Apart (b ∷ bs) p ++ es) ≡
    resolved (Within first last (Some (past_text (b ∷ bs) p)) (since ++ line_runs Apart (b ∷ bs) p) []) es
within-hashes b bs p first after last closing since es h =
    rw (hash-runs b bs p h)
    (ap (λ (s : List Event). resolved (Within first last (Some (past_text (b ∷ bs) p)) s []) es)
    (append_assoc since _ _))
