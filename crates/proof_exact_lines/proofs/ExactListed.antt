-- The exact list of lines is the one without lists, with the lists put around its items.
use Rattle.std.proofs.Common.{◌≡◌, ℕ, Bool, true, false, cond, List, [], ◌∷◌, ◌++◌, length, take, refl, ap, ap₂, sym}
use Rattle.std.proofs.Common.{◌∙◌, subst, arith}
use Rattle.std.specs.Prelude.{Option, None}
use Rattle.std.proofs.lemmas.List.{take_all}
use Rattle.md_engine.specs.declared.configuration.ParseOptions.{ParseOptions}
use Rattle.md_engine.specs.declared.event.Event.{Event}
use Rattle.md_meaning.specs.Containers.{Taken}
use Rattle.md_meaning.specs.State.{At, Leaf, Path, spot}
use Rattle.md_meaning.specs.Step.{spot_of}
use Rattle.md_meaning.specs.Tree.{End}
use Rattle.md_containers.specs.Listed.{Place, is_item, listed, listed_from, next_item, outside}
use Rattle.md_events.specs.Exact.Blocks as blocks
use Rattle.md_events.specs.Exact.Blocks.{grouped, tail}
use Rattle.md_events.specs.Exact.Places.{TextLine, whole}
use Rattle.md_events.specs.Exact.Prefixes.{following_all, containers}
use Rattle.md_events.specs.Exact.Rows.{AfterCode, Blank, Role, Row, is_blank_role, next_role, next_stays, row_of, rows_of}
use Rattle.proof_exact_lines.specs.Last.{HasLine, continues_between, last_at, last_in}
use Rattle.proof_exact_lines.specs.Unlisted.{LeavesAllowed, LinesAllowed, MarkersAllowed, NoneIs, without_lists}
use Rattle.proof_exact_lines.proofs.GroupEvents.{all_events, all_unlisted, following_leaf, first_group, first_leaf}
use Rattle.proof_exact_lines.proofs.GroupEvents.{leaves-first, rest_groups, unlisted_after}
use Rattle.proof_exact_lines.proofs.LineWalk.{AfterListed, FrontListed, NextRecorded, Valid, after, at, begins-listed}
use Rattle.proof_exact_lines.proofs.LineWalk.{begins-recorded, after_place, ended-walk, leaf-valid}
use Rattle.proof_exact_lines.proofs.LineWalk.{remains-listed, remains-recorded, stays-fewer}
use Rattle.proof_exact_lines.proofs.ListWalk.{markers_from, walk-passes}
use Rattle.proof_exact_lines.proofs.RowLast.{Follows, Remains, begins-facts, follows-last, new_on, on_of, remains-facts}

-- Any line.

-- by whether containers open on it
pub by-new : {X : Type 0} (options : ParseOptions) (p : Path) (line : TextLine) →
    ((t : Taken) (ts : List Taken) → new_on options p line ≡ t ∷ ts → X) → (new_on options p line ≡ [] → X) → X
by-new {X} options p line some none = go (new_on options p line) refl
  where
    go : (new : List Taken) → new_on options p line ≡ new → X
    go [] e = none e
    go (t ∷ ts) e = some t ts e

pub line-text : (options : ParseOptions) (p : Path) (line : TextLine) → HasLine (spot p).leaf →
    HasLine (spot (after options p line)).leaf
line-text options p line h =
    by-new options p line (λ t ts e. (begins-facts options p line [] h t ts e).opens.ends.text)
    (λ e. (remains-facts options p line [] h e).text)

-- a line that continues a leaf meets one that is open
pub open-follows : (options : ParseOptions) (p : Path) (lines : List TextLine) → HasLine (spot p).leaf →
    blocks.is_continued (next_role (rows_of options p lines)) ≡ true →
    Follows (spot p).leaf (next_role (rows_of options p lines))
open-follows options p [] h proceeds = absurd (cc)
open-follows options p (line ∷ lines) h proceeds =
    let below : List Row = rows_of options (after options p line) lines in
    by-new options p line
    (λ t ts e. let first = (begins-facts options p line below h t ts e).first in absurd (cc))
    (λ e. (remains-facts options p line below h e).met proceeds)

pub opened-last : (options : ParseOptions) (p : Path) (lines : List TextLine) → HasLine (spot p).leaf →
    blocks.is_continued (next_role (rows_of options p lines)) ≡ true → last_in (spot p) ≡ None
opened-last options p lines h proceeds =
    follows-last (spot p).leaf (spot p).here (next_role (rows_of options p lines))
    (open-follows options p lines h proceeds)

-- no line continues a blank line
blank-alone : (options : ParseOptions) (p : Path) (line : TextLine) (lines : List TextLine) → HasLine (spot p).leaf →
    let below = rows_of options (after options p line) lines in
    is_blank_role (row_of options p line below).role ≡ true → blocks.is_continued (next_role below) ≡ false
blank-alone options p line lines h e = go (blocks.is_continued (next_role below)) refl
  where
    below : List Row
    below = rows_of options (after options p line) lines

    follows : blocks.is_continued (next_role below) ≡ true → Follows (spot (after options p line)).leaf
        (next_role below)
    follows proceeds = open-follows options (after options p line) lines (line-text options p line h) proceeds

    none : blocks.is_continued (next_role below) ≡ true → ⊥
    none proceeds =
        by-new options p line
        (λ t ts new.
        subst (λ (l : Leaf). Follows l (next_role below)) ((begins-facts options p line below h t ts new).blank e)
        (follows proceeds))
        (λ new. (remains-facts options p line below h new).shut e proceeds (follows proceeds))

    go : (x : Bool) → blocks.is_continued (next_role below) ≡ x → x ≡ false
    go true proceeds = absurd (none proceeds)
    go false proceeds = refl

-- A line that continues a leaf.

proceeds-filled : (role : Role) → blocks.is_continued role ≡ true → is_blank_role role ≡ false
proceeds-filled Blank e = absurd (cc)
proceeds-filled AfterCode e = absurd (cc)
proceeds-filled _ e = refl

-- it leaves the place of the walk after it as it was
further-place : (options : ParseOptions) (bytes : List ℕ) (p : Path) (line : TextLine) (lines : List TextLine) →
    HasLine (spot p).leaf →
    let below = rows_of options (after options p line) lines in
    blocks.is_continued (row_of options p line below).role ≡ true → (es : List Event) →
    after_place bytes p es ≡ after_place bytes (after options p line) es
further-place options bytes p line lines h proceeds es =
    by-new options p line
    (λ t ts e. let first = (begins-facts options p line below h t ts e).first in absurd (cc))
    (λ e. by (remains-facts options p line below h e))
  where
    below : List Row
    below = rows_of options (after options p line) lines

    row : Row
    row = row_of options p line below

    by : Remains options p line below row → after_place bytes p es ≡ after_place bytes (after options p line) es
    by is =
        ap₂ (λ (x : Option ℕ) (ms : List ℕ). at (continues_between x (next_item bytes es)) ms)
        (follows-last (spot p).leaf (spot p).here row.role (is.met proceeds)
        ∙ sym (none (blocks.is_continued (next_role below)) refl))
        (ap (markers_from [])
        (sym (take_all (length (containers p)) (containers p) (omega arith))
        ∙ ap (λ (n : ℕ). take n (containers p)) (sym (is.all_stay proceeds)))
        ∙ sym is.markers)
      where
        none : (x : Bool) → blocks.is_continued (next_role below) ≡ x → last_in (spot (after options p line)) ≡ None
        none true e = opened-last options (after options p line) lines (line-text options p line h) e
        none false e =
            is.last e ∙ ap (λ (x : Bool). cond x (last_at row.stays p) None) (proceeds-filled row.role proceeds)

-- All lines.

abbrev FollowingFirst : ParseOptions → List ℕ → Path → List TextLine → Type 0
FollowingFirst options bytes p [] = Unit {0}
FollowingFirst options bytes p (line ∷ lines) =
    AfterListed options bytes (after options p line) (rows_of options p (line ∷ lines))

record AreListed (options : ParseOptions) (bytes : List ℕ) (p : Path) (lines : List TextLine) : Type 0 where
  front : blocks.is_continued (next_role (rows_of options p lines)) ≡ false →
      LeavesAllowed options bytes (grouped (rows_of options p lines)) →
      FrontListed options bytes p (rows_of options p lines)
  recorded : blocks.is_continued (next_role (rows_of options p lines)) ≡ false →
      LeavesAllowed options bytes (grouped (rows_of options p lines)) →
      NextRecorded options bytes (rows_of options p lines)
  following : LeavesAllowed options bytes (rest_groups (rows_of options p lines)) → FollowingFirst options bytes p lines

-- after the leaf that the first of these lines continues
joined-following : (options : ParseOptions) (bytes : List ℕ) (p : Path) (lines : List TextLine) →
    HasLine (spot p).leaf →
    blocks.is_continued (next_role (rows_of options p lines)) ≡ true → FollowingFirst options bytes p lines →
    AfterListed options bytes p (rows_of options p lines)
joined-following options bytes p [] h proceeds is = absurd (cc)
joined-following options bytes p (line ∷ lines) h proceeds is =
    ap
    (λ (place : Place). listed_from bytes place (unlisted_after options (rows_of options p (line ∷ lines))))
    (further-place options bytes p line lines h proceeds (unlisted_after options (rows_of options p (line ∷ lines))))
    ∙ is

-- after the leaf of a line
line-following : (options : ParseOptions) (bytes : List ℕ) (p : Path) (line : TextLine) (lines : List TextLine) →
    HasLine (spot p).leaf → AreListed options bytes (after options p line) lines →
    LeavesAllowed options bytes (rest_groups (rows_of options p (line ∷ lines))) →
    FollowingFirst options bytes p (line ∷ lines)
line-following options bytes p line lines h more valid = go (blocks.is_continued (next_role below)) refl
  where
    below : List Row
    below = rows_of options (after options p line) lines

    row : Row
    row = row_of options p line below

    left : (x : Bool) → blocks.is_continued (next_role below) ≡ x →
        LeavesAllowed options bytes (cond x (rest_groups below) (grouped below))
    left x e =
        subst (λ (y : Bool). LeavesAllowed options bytes (cond y (rest_groups below) (grouped below))) e valid

    Of : Bool → Type 0
    Of x =
        let plain : List Event =
        cond x (unlisted_after options below)
        (without_lists (tail (row ∷ [])) ++ all_unlisted options below) in
        listed_from bytes (after_place bytes (after options p line) plain) plain
        ≡ cond x (following_leaf options below) (tail (row ∷ []) ++ all_events options below)

    go : (x : Bool) → blocks.is_continued (next_role below) ≡ x → FollowingFirst options bytes p (line ∷ lines)
    go true e =
        subst Of (sym e)
        (joined-following options bytes (after options p line) lines (line-text options p line h) e
        (more.following (left true e)))
    go false e =
        ended-walk options bytes (after options p line) line below row
        (record { ends = refl; fewer = stays-fewer options (after options p line) lines; last = e })
        (more.recorded e (left false e)) (more.front e (left false e))

-- The leaf of a line that begins one.
line-valid : (options : ParseOptions) (bytes : List ℕ) (p : Path) (line : TextLine) (lines : List TextLine) →
    HasLine (spot p).leaf →
    let below = rows_of options (after options p line) lines in
    let row = row_of options p line below in
    LeavesAllowed options bytes (grouped (row ∷ below)) → Valid bytes row.role (first_leaf options row below)
line-valid options bytes p line lines h valid =
    leaf-valid options bytes row.role row (cond (blocks.is_continued (next_role below)) (first_group below) [])
    (λ e. ap (λ (x : Bool). cond x (first_group below) []) (blank-alone options p line lines h e))
    (leaves-first options bytes row below valid).0
  where
    below : List Row
    below = rows_of options (after options p line) lines

    row : Row
    row = row_of options p line below

-- before a line
line-front : (options : ParseOptions) (bytes : List ℕ) (p : Path) (line : TextLine) (lines : List TextLine) →
    HasLine (spot p).leaf → LinesAllowed options bytes p (line ∷ lines) →
    AreListed options bytes (after options p line) lines →
    LeavesAllowed options bytes (grouped (rows_of options p (line ∷ lines))) →
    FrontListed options bytes p (rows_of options p (line ∷ lines))
line-front options bytes p line lines h markers more valid =
    by-new options p line
    (λ t ts e.
    begins-listed options bytes p line below row t ts (begins-facts options p line below h t ts e)
    (subst (MarkersAllowed bytes line (following_all (whole line) (on_of options p line))) e markers.0) leaf following)
    (λ e.
    remains-listed options bytes p line below row (remains-facts options p line below h e) refl leaf
    (blank-alone options p line lines h)
    (opened-last options (after options p line) lines (line-text options p line h)) following)
  where
    below : List Row
    below = rows_of options (after options p line) lines

    row : Row
    row = row_of options p line below

    leaf : Valid bytes row.role (first_leaf options row below)
    leaf = line-valid options bytes p line lines h valid

    following : AfterListed options bytes (after options p line) (row ∷ below)
    following = line-following options bytes p line lines h more (leaves-first options bytes row below valid).1

-- what the next block is
line-recorded : (options : ParseOptions) (bytes : List ℕ) (p : Path) (line : TextLine) (lines : List TextLine) →
    HasLine (spot p).leaf → LinesAllowed options bytes p (line ∷ lines) →
    AreListed options bytes (after options p line) lines →
    LeavesAllowed options bytes (grouped (rows_of options p (line ∷ lines))) →
    NextRecorded options bytes (rows_of options p (line ∷ lines))
line-recorded options bytes p line lines h markers more valid =
    by-new options p line
    (λ t ts e.
    begins-recorded options bytes p line below row t ts (begins-facts options p line below h t ts e) refl
    (subst (MarkersAllowed bytes line (following_all (whole line) (on_of options p line))) e markers.0))
    (λ e.
    remains-recorded options bytes p line below row (remains-facts options p line below h e) refl
    (line-valid options bytes p line lines h valid)
    (λ b.
    record {
      ends = refl;
      fewer = stays-fewer options (after options p line) lines;
      last = blank-alone options p line lines h b;
    })
    (λ b. more.recorded (blank-alone options p line lines h b) (left (blank-alone options p line lines h b))))
  where
    below : List Row
    below = rows_of options (after options p line) lines

    row : Row
    row = row_of options p line below

    left : blocks.is_continued (next_role below) ≡ false → LeavesAllowed options bytes (grouped below)
    left e =
        subst (λ (y : Bool). LeavesAllowed options bytes (cond y (rest_groups below) (grouped below))) e
        (leaves-first options bytes row below valid).1

are-listed : (options : ParseOptions) (bytes : List ℕ) (p : Path) (lines : List TextLine) → HasLine (spot p).leaf →
    LinesAllowed options bytes p lines → AreListed options bytes p lines
are-listed options bytes p [] h markers =
    record { front = λ e valid. refl; recorded = λ e valid m. refl; following = λ valid. tt }
are-listed options bytes p (line ∷ lines) h markers =
    let more : AreListed options bytes (after options p line) lines =
    are-listed options bytes (after options p line) lines (line-text options p line h) markers.1 in
    record {
      front = λ e valid. line-front options bytes p line lines h markers more valid;
      recorded = λ e valid. line-recorded options bytes p line lines h markers more valid;
      following = λ valid. line-following options bytes p line lines h more valid;
    }

-- The lines of a body.

-- what is open before the first of them
abbrev pub begun : Path
begun = At (spot_of End)

abbrev pub body_rows : ParseOptions → List TextLine → List Row
body_rows options lines = rows_of options begun lines

-- the walk over what is before them and over their events without lists gives their exact list
pub body-listed : (options : ParseOptions) (bytes : List ℕ) (front : List Event) (lines : List TextLine) →
    NoneIs is_item front → LinesAllowed options bytes begun lines →
    LeavesAllowed options bytes (grouped (body_rows options lines)) →
    listed bytes (front ++ all_unlisted options (body_rows options lines))
    ≡ front ++ all_events options (body_rows options lines)
body-listed options bytes front lines passes markers valid =
    walk-passes bytes outside front (all_unlisted options rows) passes
    ∙ ap (λ (l : List Event). front ++ l)
    (ap (λ (ms : List ℕ). listed_from bytes (at false ms) (all_unlisted options rows)) none
    ∙ (are-listed options bytes begun lines tt markers).front (first (blocks.is_continued (next_role rows)) refl) valid)
  where
    rows : List Row
    rows = body_rows options lines

    first : (x : Bool) → blocks.is_continued (next_role rows) ≡ x → x ≡ false
    first true proceeds = absurd (open-follows options begun lines tt proceeds)
    first false proceeds = refl

    none : [] ≡ markers_from [] (take (next_stays rows) [])
    none = sym (ap (markers_from []) (take_all (next_stays rows) [] (omega arith)))
