-- Setext headings: an outline shows the lines of their text as they come, and their depth once their underline is read.
use Rattle.std.proofs.Common.{◌≡◌, ℕ, ◌+◌, Bool, true, false, ◌||◌, List, [], ◌∷◌, ◌++◌, length, slice_range, refl, sym}
use Rattle.std.proofs.Common.{◌∙◌, ap, subst, append_assoc, append-nil}
use Rattle.std.specs.Prelude.{Option, Some, None, option_map}
use Rattle.std.proofs.lemmas.Bool.{and_parts}
use Rattle.md_engine.specs.declared.event.Kind.TheVariants.{Enter, Exit}
use Rattle.md_engine.specs.declared.event.Point.{Point}
use Rattle.md_meaning.specs.declared.outline.Word.TheVariants as word
use Rattle.md_meaning.specs.Outline.{Entry, block_entries, entries, entry}
use Rattle.md_meaning.specs.Rest.{is_blank}
use Rattle.md_meaning.specs.Texts.{first_byte, split_lines, trim_each}
use Rattle.md_meaning.specs.Tree.{Heading, Line}
use Rattle.md_events.specs.Events.Places.{last_line}
use Rattle.md_events.specs.Events.Spelled.{AsHeading, AsMarkers, HeadingSetextLeaf, HeadingSoFar, IsPrefix, Reading}
use Rattle.md_events.specs.Events.Spelled.{TextRole, Text, after_prefix, at_ending, before_prefix, begun, byte_at}
use Rattle.md_events.specs.Events.Spelled.{columns_left, no_heading, text_to, underline_depth}
use Rattle.md_events.specs.Events.Spelled as spelled
use Rattle.md_outline.specs.DefinitionState.{part_word}
use Rattle.md_outline.specs.LinedState.{marked_word, with_head}
use Rattle.md_outline.specs.Outlined.{begins_line, parts_by}
use Rattle.md_outline.specs.OutlineSteps.{OutlineState, head_marked, is_titled, line_ended, parted_at, piece_shown}
use Rattle.md_outline.specs.OutlineSteps.{title_recorded, recorded, recorded_at, recorded_leaf}
use Rattle.md_outline.specs.TextLines.{full_entries, text_entries}
use Rattle.md_outline.specs.declared.outline.TextSpan.{TextSpan}
use Rattle.md_outline.specs.declared.outline.lined.Form.TheVariants as form
use Rattle.md_outline.specs.declared.outline.lined.Lined.{Lined}
use Rattle.md_outline.specs.declared.outline.role.Note.TheVariants as note
use Rattle.md_outline.specs.declared.outline.role.Purpose.TheVariants as purpose
use Rattle.md_outline.proofs.ClosedTrees.{shown}
use Rattle.md_outline.proofs.LeavesOpen.{Known, Shows, known-next, known-recorded}
use Rattle.md_outline.proofs.LinedLines.{head-recorded}
use Rattle.md_outline.proofs.SiteTexts.{NoText, TextFrom, text-ends}
use Rattle.md_outline.proofs.TextPieces.{Pieces, begun_by, pieces-last, pieces-next}

-- What is known of one that is open, which has said its markers or not.
abbrev pub Titled : HeadingSoFar → Bool → OutlineState → Reading → Type 0
Titled heading marked s r = Known (HeadingSetextLeaf heading) form.Heading marked s r

-- and of what was shown of it: its lines, as if it ended here, with this depth
abbrev pub Headed : ℕ → HeadingSoFar → Bool → OutlineState → Reading → Type 0
Headed level heading marked s r =
    Shows (HeadingSetextLeaf heading) form.Heading marked
    (λ depth. block_entries depth (Heading level heading.text)) s r

-- with these lines, before its markers
abbrev pub some_lines : List (List ℕ) → HeadingSoFar
some_lines text = record { markers = []; text = text }

abbrev pub Unmarked : OutlineState → Reading → Type 0
Unmarked s r = (text : List (List ℕ)) × Headed 0 (some_lines text) false s r

-- and with its markers
abbrev pub IsMarked : OutlineState → Reading → Type 0
IsMarked s r =
    (heading : HeadingSoFar) × Headed (underline_depth (first_byte heading.markers)) heading true s r

-- Its text.

-- where it began, or continues after a prefix
abbrev pub TitleIs : List Entry → ℕ → List Entry → Option TextSpan → Option Text → Type 0
TitleIs before depth lines (Some span) (Some text) =
    (text.from ≡ span.from) × Pieces before [] (depth + 1) lines span.is_parted text.front
TitleIs before depth lines _ _ = ⊥

-- the lines before it
abbrev pub head_lines : OutlineState → Reading → List Entry
head_lines s r = shown r.outer r.here ++ entry s.depth (word.Heading 0) ∷ []

abbrev pub InText : OutlineState → Reading → Type 0
InText s r = Titled no_heading false s r × TitleIs (head_lines s r) s.depth s.lines s.text r.text

none-begun : (x : Bool) → begun_by [] x ≡ []
none-begun true = refl
none-begun false = refl

-- a prefix begins in it
prefix-begins : (bytes : List ℕ) (p : Point) (s : OutlineState) (r : Reading) (span : Option TextSpan)
    (text : Option Text) → parts_by bytes Enter IsPrefix p span ≡ true → Titled no_heading false s r →
    TitleIs (head_lines s r) s.depth s.lines span text →
    InText (parted_at bytes p.index span s) (record r { text = option_map (before_prefix bytes p) text })
prefix-begins bytes p s r (Some span) (Some text) k is h =
    let before : List Entry = head_lines s r in
    let piece : List ℕ = slice_range bytes span.from p.index in
    let full : List Entry = full_entries (s.depth + 1) piece in
    let lines : Option Lined → List Entry = λ l.
    piece_shown (part_word l) (is_titled l || span.is_parted) span.is_parted s.depth piece s.lines in
    let parts = and_parts (begins_line span piece) (is_blank (last_line (split_lines piece))) k in
    let begun : (s.lines ++ begun_by [] span.is_parted) ++ full ≡ lines s.lined =
    ap (λ es. (s.lines ++ es) ++ full) (none-begun span.is_parted) ∙ sym (ap lines is.lined) in (
      is,
      (
        h.0,
        subst
            (λ i.
            Pieces before [] (s.depth + 1) (lines s.lined) true (text.front ++ slice_range bytes i p.index)) (sym h.0)
            (subst (λ es. Pieces before [] (s.depth + 1) es true (text.front ++ piece)) begun
            (pieces-next before [] (s.depth + 1) s.lines span.is_parted text.front piece parts.0 parts.1 h.1)),
      ),
    )
prefix-begins bytes p s r _ _ k is h = absurd h

pub title-prefix : (bytes : List ℕ) (p : Point) (s : OutlineState) (r : Reading) →
    parts_by bytes Enter IsPrefix p s.text ≡ true → InText s r →
    InText (parted_at bytes p.index s.text s) (record r { text = option_map (before_prefix bytes p) r.text })
title-prefix bytes p s r k h = prefix-begins bytes p s r s.text r.text k h.0 h.1

-- and ends
pub title-from : (p : Point) (before : List Entry) (depth : ℕ) (lines : List Entry) (span : Option TextSpan)
    (text : Option Text) → TitleIs before depth lines span text →
    TitleIs before depth lines (option_map (λ (t : TextSpan). record t { from = byte_at p }) span)
    (option_map (after_prefix p) text)
title-from p before depth lines (Some span) (Some text) h = (refl, h.1)
title-from p before depth lines _ _ h = absurd h

-- a line ending is a part of it
line-stays : (bytes : List ℕ) (p : Point) (s : OutlineState) (r : Reading) (before : List Entry)
    (span : Option TextSpan)
    (text : Option Text) → TitleIs before s.depth s.lines span text → InText s r →
    InText (line_ended bytes p.index s.lined span s) (at_ending bytes p text r)
line-stays bytes p s r before (Some span) (Some text) h is =
    subst (λ (l : Option Lined). InText (line_ended bytes p.index l (Some span) s) r) (sym is.0.lined) is
line-stays bytes p s r before _ _ h is = absurd h

pub title-line : (bytes : List ℕ) (p : Point) (s : OutlineState) (r : Reading) → InText s r →
    InText (line_ended bytes p.index s.lined s.text s) (at_ending bytes p r.text r)
title-line bytes p s r is = line-stays bytes p s r (head_lines s r) s.text r.text is.1 is

-- it ends
all-shown : (bytes : List ℕ) (p : Point) (s : OutlineState) (r : Reading) (span : TextSpan) (text : Text) →
    begins_line span (slice_range bytes span.from p.index) ≡ true →
    TitleIs (head_lines s r) s.depth s.lines (Some span) (Some text) →
    s.lines ++ text_entries (s.depth + 1) (slice_range bytes span.from p.index)
    ≡ shown r.outer r.here
    ++ block_entries s.depth (Heading 0 (trim_each (split_lines (text_to bytes p.index text))))
all-shown bytes p s r span text k h =
    let before : List Entry = head_lines s r in
    let piece : List ℕ = slice_range bytes span.from p.index in
    let last : List Entry = text_entries (s.depth + 1) piece in
    let whole : List Entry = text_entries (s.depth + 1) (text.front ++ piece) in
    ap (λ es. es ++ last)
    (sym (ap (λ es. s.lines ++ es) (none-begun span.is_parted) ∙ append-nil s.lines))
    ∙ pieces-last before [] (s.depth + 1) s.lines span.is_parted text.front piece k h.1
    ∙ ap (λ es. es ++ whole) (append-nil before)
    ∙ append_assoc (shown r.outer r.here) (entry s.depth (word.Heading 0) ∷ []) whole
    ∙ ap
    (λ i.
    shown r.outer r.here
    ++ block_entries s.depth (Heading 0 (trim_each (split_lines (text.front ++ slice_range bytes i p.index)))))
    (sym h.0)

text-recorded : (bytes : List ℕ) (p : Point) (s : OutlineState) (r : Reading) (span : Option TextSpan)
    (text : Option Text) → parts_by bytes Exit (TextRole AsHeading) p span ≡ true → Titled no_heading false s r →
    TitleIs (head_lines s r) s.depth s.lines span text →
    Unmarked (recorded_at bytes purpose.Title p.index span s) (spelled.recorded_at bytes AsHeading p text r)
    × NoText (recorded_at bytes purpose.Title p.index span s) (spelled.recorded_at bytes AsHeading p text r)
text-recorded bytes p s r (Some span) (Some text) k is h =
    let piece : List ℕ = slice_range bytes span.from p.index in
    let line : Line = record { spaces = text.spaces; text = text_to bytes p.index text } in
    subst
    (λ (l : Option Lined).
    Unmarked (title_recorded (is_titled l) piece (record s { text = None }))
    (spelled.recorded_at bytes AsHeading p (Some text) r)
    × NoText (title_recorded (is_titled l) piece (record s { text = None }))
    (spelled.recorded_at bytes AsHeading p (Some text) r))
    (sym is.lined) (
      (
        trim_each (split_lines line.text),
        (known-next (spelled.noted AsHeading line) is refl, all-shown bytes p s r span text k h),
      ),
      (refl, refl),
    )
text-recorded bytes p s r _ _ k is h = absurd h

pub title-ends : (bytes : List ℕ) (p : Point) (s : OutlineState) (r : Reading) →
    parts_by bytes Exit (TextRole AsHeading) p s.text ≡ true → InText s r →
    Unmarked (recorded_at bytes purpose.Title p.index s.text s) (spelled.recorded_at bytes AsHeading p r.text r)
    × NoText (recorded_at bytes purpose.Title p.index s.text s) (spelled.recorded_at bytes AsHeading p r.text r)
title-ends bytes p s r k h = text-recorded bytes p s r s.text r.text k h.0 h.1

-- After its text its underline shows its depth.
marks-recorded : (text : List (List ℕ)) (line : Line) (s : OutlineState) (r : Reading) →
    Headed 0 (some_lines text) false s r →
    IsMarked (recorded purpose.Markers false line.text (record s { text = None }))
    (spelled.recorded AsMarkers line (record r { text = None }))
    × NoText (recorded purpose.Markers false line.text (record s { text = None }))
    (spelled.recorded AsMarkers line (record r { text = None }))
marks-recorded text line s r h =
    let before : List Entry = shown r.outer r.here in
    let b : ℕ = first_byte line.text in
    subst
    (λ (l : Option Lined).
    IsMarked (head_marked l line.text (recorded_leaf note.Markers line.text (record s { text = None })))
    (spelled.recorded AsMarkers line (record r { text = None }))
    × NoText (head_marked l line.text (recorded_leaf note.Markers line.text (record s { text = None })))
    (spelled.recorded AsMarkers line (record r { text = None })))
    (sym h.0.lined) (
      (
        record { markers = line.text; text = text },
        (
          known-recorded (spelled.noted AsMarkers line) h.0 refl
              (ap (option_map (spelled.noted AsMarkers (record { spaces = 0; text = line.text }))) h.0.leaf) refl,
          ap (with_head (marked_word b) (length before)) h.1
              ∙ head-recorded (marked_word b) before (entries (s.depth + 1) word.Line text)
              (entry s.depth (word.Heading 0)),
        ),
      ),
      (refl, refl),
    )

pub underline-ends : (bytes : List ℕ) (q p : Point) (s : OutlineState) (r : Reading) → Unmarked s r →
    TextFrom q s r →
    IsMarked (recorded_at bytes purpose.Markers p.index s.text s) (spelled.recorded_at bytes AsMarkers p r.text r)
    × NoText (recorded_at bytes purpose.Markers p.index s.text s) (spelled.recorded_at bytes AsMarkers p r.text r)
underline-ends bytes q p s r h from =
    text-ends (λ s r. IsMarked s r × NoText s r) bytes q p AsMarkers purpose.Markers s r from
    (marks-recorded h.0 (record { spaces = columns_left q; text = slice_range bytes (byte_at q) p.index }) s r h.1)
