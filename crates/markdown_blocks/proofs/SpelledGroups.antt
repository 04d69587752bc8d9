-- What the reading of groups of lines is, where some of the containers and a leaf are open: of lines of text, with
-- the line that turns them if one does, and of the lines of a leaf of several. A line changes nothing that the events
-- do not say.
use Rattle.md_engine.specs.Progress.{is_whole}
use Rattle.std.proofs.Common.{map, ◌≡◌, ℕ, Bool, true, false, cond, ◌&&◌, List, [], ◌∷◌, ◌++◌, length, refl, ap, ap₂}
use Rattle.std.proofs.Common.{sym, ◌∙◌, inl, inr, ◌⊎◌}
use Rattle.std.specs.Prelude.{nat_lt, None, Option, Some}
use Rattle.md_meaning.specs.Leaves.{Opened, LeafResult}
use Rattle.markdown_blocks.proofs.SpelledHeads.{AreDark, StartsHead, head_becomes, head_path, span_tail}
use Rattle.proof_frame.specs.HeldLeaf.{kind_of_leaf, may_continue}
use Rattle.proof_frame.specs.EndingName.{ending_name}
use Rattle.proof_frame.specs.Row.{is_blank_row, LeafRow, Row, TextRow, last_row}
use Rattle.proof_rows.specs.Rows.{is_further, onto_span, LeafLines, Group, Lines, groups_events, is_text, onto_groups}
use Rattle.proof_rows.specs.Rows.{tail_events}
use Rattle.proof_rows.proofs.GroupLines.{AreLines, IsUnder, kept-of}
use Rattle.proof_rows.proofs.LineSteps.{with_result, longer, renewed, renewed-spot}
use Rattle.proof_frame.proofs.SpanLaws.{AreAfter, becomes_after}
use Rattle.proof_rows.proofs.StepAfter.{containers-longer}
use Rattle.proof_frame.specs.LeafName.{LeafName}
use Rattle.md_registry.specs.Registry.{leaf}
use Rattle.md_engine.specs.declared.configuration.ParseOptions.{ParseOptions}
use Rattle.md_engine.specs.declared.event.Event.{Event}
use Rattle.md_engine.specs.declared.event.Name.TheVariants as n
use Rattle.md_engine.specs.declared.event.Point.{Point}
use Rattle.md_meaning.specs.Rest.{Rest}
use Rattle.md_events.specs.Events.Spelled.{OpenContainer, Reading, read}
use Rattle.md_meaning.specs.State.{At, Container, ParagraphLine, Leaf, Path, Innermost, Within, kept, spot}
use Rattle.proof_frame.specs.ContainerNames.{shape_of}
use Rattle.proof_frame.specs.Change.{is_none}
use Rattle.proof_frame.specs.Closed.{close_containers}
use Rattle.proof_frame.specs.Around.{around_of}
use Rattle.proof_rows.specs.Valid.{still_of, reading, reading_on}
use Rattle.proof_frame.proofs.FrontFacts.{LinePrefix}
use Rattle.proof_rows.proofs.TextGroups.{text-onto, text_group}
use Rattle.proof_rows.proofs.RowFacts as f
use Rattle.markdown_blocks.proofs.SpelledPaths.{AreShapes, around-same, reading-renewed}
use Rattle.md_link_definitions.specs.Progress.{progress_of, step as further}

-- Groups.

-- these groups, where a path is open of whose containers so many end first, are read as this
abbrev pub Reads : ParseOptions → List ℕ → Path → List Container → List Group → Reading → Type 0
Reads options bytes p closes gs last =
    read bytes (close_containers (length closes) (reading options p)) (groups_events options bytes gs) ≡ last

-- the line after those of a text, if one turns them
abbrev pub IsTurned : ParseOptions → List ℕ → Row → Option Row → Type 0
IsTurned options bytes last None = Unit {0}
IsTurned options bytes last (Some under) = IsUnder options bytes last under

-- what is open after them
abbrev pub text_path : (options : ParseOptions) (bytes : List ℕ) (last : Row) (turn : Option Row) →
    IsTurned options bytes last turn → Path → Path
text_path options bytes last None is p = p
text_path options bytes last (Some under) is p =
    with_result options (leaf is.name).heads p ((leaf is.name).becomes options (spot p).leaf is.is.rest)

-- where one turns them, definitions leave something of the text that is open with them
abbrev pub IsTurnLeft : ParseOptions → Option Row → Path → Type 0
IsTurnLeft options None p = Unit {0}
IsTurnLeft options (Some under) p = options.constructs.definition ≡ true → is_whole (progress_of (still_of p)) ≡ false

-- and the events after the text
abbrev pub text_tail : Row → Option Row → List Event
text_tail last None = tail_events n.LineEnding last
text_tail last (Some under) = tail_events (ending_name (is_blank_row under)) under

-- the lines of a text continue an open one or begin one, and with what follows are read as this
pub record ReadsLines (options : ParseOptions) (bytes : List ℕ) (p : Path) (row : Row) (rows : List Row)
    (turn : Option Row) (gs : List Group) (last : Reading) : Type 0 where
  pub are : AreLines options bytes row rows
  pub turned : IsTurned options bytes (last_row row rows) turn
  pub left : IsTurnLeft options turn (longer p (kept-of options bytes row rows are))
  pub following : read bytes
      (reading options
      (text_path options bytes (last_row row rows) turn turned (longer p (kept-of options bytes row rows are))))
      (text_tail (last_row row rows) turn ++ groups_events options bytes gs) ≡
      last

pub record StartsLines (options : ParseOptions) (bytes : List ℕ) (p : Path) (row : Row) (gs : List Group)
    (last : Reading) : Type 0 where
  pub rows : List Row
  pub turn : Option Row
  pub below : List Group
  pub groups_are : gs ≡ text_group turn row rows ∷ below
  pub reads : ReadsLines options bytes p row rows turn below last

-- What an open leaf of several lines becomes by a further line that begins at this point; one after the last ending
-- of the text is no line of the definition.
abbrev pub first_becomes : ParseOptions → List ℕ → LeafName → Path → Point → Rest → LeafResult
first_becomes options bytes l p a r =
    cond (nat_lt a.index (length bytes)) ((leaf l).becomes options (spot p).leaf r) (Opened (spot p).leaf)

-- A line of it and those that continue it are read with what follows as this, where this leaf takes the lines after
-- it, and the open leaf became this by it.
pub record ReadsSpan (options : ParseOptions) (bytes : List ℕ) (l : LeafName) (p : Path)
    (become : LeafResult) (row : Row)
    (gs : List Group) (last : Reading) : Type 0 where
  pub rows : List Row
  pub below : List Group
  pub groups_are : gs ≡ LeafLines row rows ∷ below
  pub are : AreAfter options bytes (leaf l) row rows
  pub dark : AreDark options bytes l row rows are
  pub following : read bytes
      (reading options (with_result options (leaf l).heads p
      (becomes_after options bytes (leaf l) row rows are become)))
      (span_tail row rows ++ groups_events options bytes below) ≡
      last

-- the lines from this point on continue the leaf that is open on a path
pub record StartsSpan (options : ParseOptions) (bytes : List ℕ) (l : LeafName) (p : Path) (a : Point) (row : Row)
    (gs : List Group) (last : Reading) : Type 0 where
  pub line : List ℕ
  pub is : f.IsRow options bytes line row
  pub kind : row.kind ≡ LeafRow l
  pub further : (leaf l).further row.on ≡ true
  pub reads : ReadsSpan options bytes l p (first_becomes options bytes l p a is.rest) row gs last

-- a line of text is one of a text, or the head of a table
abbrev pub StartsText : ParseOptions → List ℕ → Path → Row → List Group → Reading → Type 0
StartsText options bytes p row gs last =
    StartsLines options bytes p row gs last ⊎ StartsHead options bytes p row gs last

-- by whether the first line continues the open text, or an open leaf of several lines
abbrev pub Means : ParseOptions → List ℕ → Path → Point → Bool → Bool → Row → List Group → Reading → Type 0
Means options bytes p a true further row gs last = StartsText options bytes p row gs last
Means options bytes p a false true row gs last = (l : LeafName) × StartsSpan options bytes l p a row gs last
Means options bytes p a false false row gs last = Reads options bytes p row.change.closes gs last

-- After a line: what follows continues neither a text nor another leaf,
pub record Parts (options : ParseOptions) (bytes : List ℕ) (p : Path) (row : Row) (gs : List Group)
    (last : Reading) : Type 0 where
  pub apart : row.kind ≡ TextRow → onto_groups row TextRow gs ≡ Lines row [] ∷ gs
  pub alone : onto_span row gs ≡ LeafLines row [] ∷ gs
  pub reads : Reads options bytes p row.closed_after gs last

-- or a text,
pub record Joins (options : ParseOptions) (bytes : List ℕ) (p : Path) (row : Row) (gs : List Group)
    (last : Reading) : Type 0 where
  pub text : is_text row.kind ≡ true
  pub next : Row
  pub starts : StartsLines options bytes p next gs last
  pub closed_after : row.closed_after ≡ []
  pub opens : next.change.opens ≡ []
  pub after : Point
  pub after_is : row.after ≡ Some after
  pub ending : f.IsEnding bytes row.end after
  pub fronts : LinePrefix bytes [] after next.first next.front

-- where it is the head of a table,
pub record JoinsHead (options : ParseOptions) (bytes : List ℕ) (p : Path) (row : Row) (gs : List Group)
    (last : Reading) : Type 0 where
  pub text : is_text row.kind ≡ true
  pub next : Row
  pub starts : StartsHead options bytes p next gs last
  pub closed_after : row.closed_after ≡ []
  pub after : Point
  pub fronts : LinePrefix bytes [] after next.first next.front

-- or a leaf of several lines, or it turns a text, or takes the last line of one as its head
pub record JoinsSpan (options : ParseOptions) (bytes : List ℕ) (p : Path) (row : Row) (gs : List Group)
    (last : Reading) : Type 0 where
  pub name : LeafName
  pub next : Row
  pub closed_after : row.closed_after ≡ []
  pub after : Point
  pub after_is : row.after ≡ Some after
  pub ending : f.IsEnding bytes row.end after
  pub fronts : LinePrefix bytes [] after next.first next.front
  pub on : next.on ≡ row.following
  pub further : is_further next.kind next.on ≡ true
  pub still : still_of p ≡ row.following
  pub may : may_continue row.following ≡ true
  pub starts : StartsSpan options bytes name p after next gs last

abbrev pub Follows : ParseOptions → List ℕ → Path → Row → List Group → Reading → Type 0
Follows options bytes p row gs last =
    Parts options bytes p row gs last
    ⊎ (Joins options bytes p row gs last ⊎ (JoinsSpan options bytes p row gs last
    ⊎ JoinsHead options bytes p row gs last))

pub onto-joined : (row next : Row) (rows : List Row) (turn : Option Row) (gs : List Group) → row.closed_after ≡ [] →
    next.change.opens ≡ [] →
    onto_groups row TextRow (text_group turn next rows ∷ gs) ≡ text_group turn row (next ∷ rows) ∷ gs
onto-joined row next rows turn gs e h =
    text-onto turn row next rows gs
    ∙ ap₂
    (λ (xs ys : List Container).
    cond (is_none xs && is_none ys) (text_group turn row (next ∷ rows) ∷ gs)
    (Lines row [] ∷ text_group turn next rows ∷ gs)) e h

-- The events do not say what a line changes of the containers that stay: not after what the innermost leaf became,
pub reading-became : (options : ParseOptions) (heads : Bool) (stays closes : List Container)
    (outer : List OpenContainer) (p : Path)
    (c : LeafResult) →
    AreShapes stays closes p →
    reading_on options outer (with_result options heads (renewed stays p) c) ≡
    reading_on options outer (with_result options heads p c)
reading-became options heads [] closes outer p c e = refl
reading-became options heads (d ∷ stays) closes outer (At s) c e = refl
reading-became options heads (d ∷ stays) closes outer (Within before container p) c e =
    let same : shape_of d ≡ shape_of container = cc in
    let more : AreShapes stays closes p = cc in
    ap (λ (around : OpenContainer). reading_on options (around ∷ outer) (with_result options heads (renewed stays p) c))
    (around-same d container before same)
    ∙ reading-became options heads stays closes (around_of container before ∷ outer) p c more

longer-renewed : (stays : List Container) (p : Path) (lines : List ParagraphLine) →
    longer (renewed stays p) lines ≡ renewed stays (longer p lines)
longer-renewed [] p lines = refl
longer-renewed (c ∷ stays) (At s) lines = refl
longer-renewed (c ∷ stays) (Within before container p) lines = ap (Within before c) (longer-renewed stays p lines)

-- nor after lines of text, whether one turns them or none,
reading-text : (options : ParseOptions) (bytes : List ℕ) (stays closes : List Container) (p : Path)
    (lines : List ParagraphLine)
    (last : Row) (turn : Option Row) (is : IsTurned options bytes last turn) →
    AreShapes stays closes p →
    reading options (text_path options bytes last turn is (longer (renewed stays p) lines)) ≡
    reading options (text_path options bytes last turn is (longer p lines))
reading-text options bytes stays closes p lines last None is shapes =
    reading-renewed options stays closes [] p lines shapes
reading-text options bytes stays closes p lines last (Some under) is shapes =
    let q : Path = longer p lines in
    let becomes : Leaf → LeafResult = λ open_leaf. (leaf is.name).becomes options open_leaf is.is.rest in
    let heads : Bool = (leaf is.name).heads in
    ap (λ (x : Path). reading options (with_result options heads x (becomes (spot x).leaf)))
    (longer-renewed stays p lines)
    ∙ ap (λ (s : Innermost). reading options (with_result options heads (renewed stays q) (becomes s.leaf)))
    (renewed-spot stays q)
    ∙ reading-became options heads stays closes [] q (becomes (spot q).leaf)
    (shapes ∙ ap (map shape_of) (sym (containers-longer p lines)))

-- what is held of a text does not change with them either
left-alike : (options : ParseOptions) (turn : Option Row) (stays : List Container) (p : Path)
    (lines : List ParagraphLine) →
    IsTurnLeft options turn (longer (renewed stays p) lines) → IsTurnLeft options turn (longer p lines)
left-alike options None stays p lines left = tt
left-alike options (Some under) stays p lines left =
    λ on.
    ap (λ (s : Innermost). is_whole (progress_of (kind_of_leaf s.leaf)))
    (sym (ap spot (longer-renewed stays p lines) ∙ renewed-spot stays (longer p lines)))
    ∙ left on

-- so a line of text continues a text there as well, or is a head.
head-alike : (options : ParseOptions) (bytes : List ℕ) (stays closes : List Container) (p : Path) (row : Row)
    (gs : List Group) (last : Reading) →
    AreShapes stays closes p → StartsHead options bytes (renewed stays p) row gs last →
    StartsHead options bytes p row gs last
head-alike options bytes stays closes p row gs last shapes starts = record {
  line = starts.line;
  is = starts.is;
  text = starts.text;
  next = starts.next;
  rows = starts.rows;
  below = starts.below;
  groups_are = starts.groups_are;
  are = starts.are;
  filled = starts.filled;
  at = starts.at;
  on = starts.on;
  following =
      ap
      (λ (r : Reading). read bytes r (span_tail starts.next starts.rows ++ groups_events options bytes starts.below))
      (sym alike)
      ∙ starts.following;
}
  where
    lines : List ParagraphLine
    lines = kept starts.is.rest ∷ []

    q : Path
    q = longer p lines

    becomes : Leaf → LeafResult
    becomes = head_becomes options bytes row starts.next starts.rows starts.are

    alike : reading options (head_path options bytes row starts.next starts.rows starts.are
        (longer (renewed stays p) lines)) ≡
        reading options (head_path options bytes row starts.next starts.rows starts.are q)
    alike =
        ap (λ (x : Path). reading options (with_result options true x (becomes (spot x).leaf)))
        (longer-renewed stays p lines)
        ∙ ap (λ (s : Innermost). reading options (with_result options true (renewed stays q) (becomes s.leaf)))
        (renewed-spot stays q)
        ∙ reading-became options true stays closes [] q (becomes (spot q).leaf)
        (shapes ∙ ap (map shape_of) (sym (containers-longer p lines)))

lines-alike : (options : ParseOptions) (bytes : List ℕ) (stays closes : List Container) (p : Path) (row : Row)
    (gs : List Group) (last : Reading) →
    AreShapes stays closes p → StartsLines options bytes (renewed stays p) row gs last →
    StartsLines options bytes p row gs last
lines-alike options bytes stays closes p row gs last shapes starts =
    let reads = starts.reads in
    let final : Row = last_row row starts.rows in
    record {
      rows = starts.rows;
      turn = starts.turn;
      below = starts.below;
      groups_are = starts.groups_are;
      reads = record {
        are = reads.are;
        turned = reads.turned;
        left =
            left-alike options starts.turn stays p (kept-of options bytes row starts.rows reads.are) reads.left;
        following =
            ap
            (λ (r : Reading).
            read bytes r (text_tail final starts.turn ++ groups_events options bytes starts.below))
            (sym
            (reading-text options bytes stays closes p (kept-of options bytes row starts.rows reads.are) final
            starts.turn reads.turned shapes))
            ∙ reads.following;
      };
    }

pub starts-alike : (options : ParseOptions) (bytes : List ℕ) (stays closes : List Container) (p : Path) (row : Row)
    (gs : List Group) (last : Reading) →
    AreShapes stays closes p → StartsText options bytes (renewed stays p) row gs last →
    StartsText options bytes p row gs last
starts-alike options bytes stays closes p row gs last shapes (inl starts) =
    inl (lines-alike options bytes stays closes p row gs last shapes starts)
starts-alike options bytes stays closes p row gs last shapes (inr starts) =
    inr (head-alike options bytes stays closes p row gs last shapes starts)
