-- Definitions: lines of labels and titles are shown as they come; each part begins with an empty line, which is filled.
use Rattle.std.proofs.Common.{◌≡◌, ℕ, ◌+◌, Bool, true, false, cond, not, List, [], ◌∷◌, ◌++◌, length}
use Rattle.std.proofs.Common.{slice_range, refl, sym, ◌∙◌, ap, subst, append_assoc}
use Rattle.std.specs.Prelude.{Option, Some, None, option_map, ◌||◌}
use Rattle.std.specs.List.{list_any}
use Rattle.std.proofs.lemmas.Bool.{and_parts, true≢false}
use Rattle.md_engine.specs.declared.event.Kind.TheVariants.{Enter, Exit}
use Rattle.md_engine.specs.declared.event.Point.{Point}
use Rattle.md_meaning.specs.declared.outline.Word.{Word}
use Rattle.md_meaning.specs.declared.outline.Word.TheVariants as word
use Rattle.md_meaning.specs.Lines.{begins_with, is_ending}
use Rattle.md_meaning.specs.Outline.{Entry, block_entries, entries, entry, entry_with}
use Rattle.md_meaning.specs.Rest.{is_blank}
use Rattle.md_meaning.specs.Texts.{split_lines, trim_further}
use Rattle.md_meaning.specs.Tree.{Definition, Line}
use Rattle.md_events.specs.Events.Places.{last_line}
use Rattle.md_events.specs.Events.Spelled.{AsDestination, AsLabel, AsTitle, DefinitionLeaf, DefinitionSoFar, IsPrefix}
use Rattle.md_events.specs.Events.Spelled.{IsTitle, Reading, TextRole, Text, after_prefix, at_ending, at_title}
use Rattle.md_events.specs.Events.Spelled.{before_prefix, begun, after_title, byte_at, columns_left, first_recorded}
use Rattle.md_events.specs.Events.Spelled.{read_enter, read_exit, text_to}
use Rattle.md_events.specs.Events.Spelled as spelled
use Rattle.md_events.proofs.PlacesLemmas.{Some_line, some-split}
use Rattle.md_outline.specs.DefinitionState.{part_ended, part_parted, part_word}
use Rattle.md_outline.specs.LinedState.{now_recorded, without_end}
use Rattle.md_outline.specs.LinesAllowed.{DestinationLeft, LabelPart, Left, MayHaveDestination}
use Rattle.md_outline.specs.LinesAllowed.{MayHaveTitle, NoneLeft, Part, TitleLeft, TitlePart}
use Rattle.md_outline.specs.Outlined.{begins_line, parts_by}
use Rattle.md_outline.specs.OutlineSteps.{OutlineState, line_ended, parted_at, piece_shown, state_enter}
use Rattle.md_outline.specs.OutlineSteps.{is_titled, state_exit, recorded, recorded_at}
use Rattle.md_outline.specs.TextLines.{first_as, first_full_as, full_as, lines_as}
use Rattle.md_outline.specs.declared.outline.TextSpan.{TextSpan}
use Rattle.md_outline.specs.declared.outline.lined.Form.TheVariants as form
use Rattle.md_outline.specs.declared.outline.lined.Lined.{Lined}
use Rattle.md_outline.specs.declared.outline.role.Purpose.TheVariants as purpose
use Rattle.md_outline.specs.declared.outline.role.Role.TheVariants as role
use Rattle.md_outline.proofs.ClosedTrees.{shown}
use Rattle.md_outline.proofs.LeavesOpen.{Known, Shows, known-next, known-recorded}
use Rattle.md_outline.proofs.LinedLines.{end-taken}
use Rattle.md_outline.proofs.SiteTexts.{NoText, TextFrom, from-here, text-ends, text-line}
use Rattle.md_outline.proofs.TextCuts.{first-piece, piece-entries}
use Rattle.md_outline.proofs.TextPieces.{begins-following}

-- What is known of one that is open, which has said its label or not.
abbrev pub Defined : DefinitionSoFar → Bool → OutlineState → Reading → Type 0
Defined definition is_recorded s r = Known (DefinitionLeaf definition) form.Definition is_recorded s r

-- A part of several lines: whether the label is said, what is known by then, what is shown before it, and the word of
-- its lines.

abbrev label_known : Part → Bool
label_known LabelPart = false
label_known TitlePart = true

abbrev part_known : Part → List (List ℕ) → List ℕ → DefinitionSoFar
part_known LabelPart label destination = record { label = []; destination = []; title = None }
part_known TitlePart label destination = record { label = label; destination = destination; title = Some [] }

abbrev part_front : Part → List (List ℕ) → List ℕ → ℕ → List Entry
part_front LabelPart label destination depth = entry depth word.Definition ∷ []
part_front TitlePart label destination depth = block_entries depth (Definition label destination None)

abbrev shown_by : Part → Word
shown_by part = cond (label_known part) word.Title word.Label

-- before its text: an empty line is shown
abbrev empty_part : Part → List (List ℕ) → List ℕ → ℕ → List Entry
empty_part part label destination depth =
    part_front part label destination depth ++ entry (depth + 1) (shown_by part) ∷ []

abbrev pub AtText : Part → OutlineState → Reading → Type 0
AtText part s r =
    (label : List (List ℕ)) × (destination : List ℕ) ×
    Shows (DefinitionLeaf (part_known part label destination)) form.Definition (label_known part)
    (empty_part part label destination) s r

-- in its text, after a prefix: the lines in front are shown, and what follows will be shown by its own lines
abbrev PartIs : Word → List Entry → ℕ → List Entry → Option TextSpan → Option Text → Type 0
PartIs w before depth lines (Some span) (Some text) =
    (span.is_parted ≡ true) × (text.from ≡ span.from) × (full : List Entry) × (lines ≡ before ++ full) ×
    ((rest : List ℕ) → begins_with 10 rest ≡ false →
    first_as w (depth + 1) (text.front ++ rest) ≡ full ++ lines_as w (depth + 1) rest)
PartIs w before depth lines _ _ = ⊥

abbrev front_lines : Part → List (List ℕ) → List ℕ → OutlineState → Reading → List Entry
front_lines part label destination s r = shown r.outer r.here ++ part_front part label destination s.depth

abbrev pub InText : Part → OutlineState → Reading → Type 0
InText part s r =
    (label : List (List ℕ)) × (destination : List ℕ) ×
    Defined (part_known part label destination) (label_known part) s r ×
    PartIs (shown_by part) (front_lines part label destination s r) s.depth s.lines s.text r.text

-- after its label, with what may come
abbrev HasLeft : Left → List ℕ → Option (List (List ℕ)) → Type 0
HasLeft DestinationLeft destination title = (destination ≡ []) × (title ≡ None)
HasLeft TitleLeft destination title = title ≡ None
HasLeft NoneLeft destination title = Unit {0}

abbrev known_all : List (List ℕ) → List ℕ → Option (List (List ℕ)) → DefinitionSoFar
known_all label destination title = record { label = label; destination = destination; title = title }

abbrev all_lines : List (List ℕ) → List ℕ → Option (List (List ℕ)) → ℕ → List Entry
all_lines label destination title depth = block_entries depth (Definition label destination title)

-- with these parts, all of which are shown
abbrev Whole : List (List ℕ) → List ℕ → Option (List (List ℕ)) → OutlineState → Reading → Type 0
Whole label destination title s r =
    Shows (DefinitionLeaf (known_all label destination title)) form.Definition true (all_lines label destination title)
    s r

abbrev pub Following : Left → OutlineState → Reading → Type 0
Following left s r =
    (label : List (List ℕ)) × (destination : List ℕ) × (title : Option (List (List ℕ))) ×
    HasLeft left destination title × Whole label destination title s r

-- in its destination
abbrev pub InDestinationText : OutlineState → Reading → Type 0
InDestinationText s r = (label : List (List ℕ)) × Whole label [] None s r

-- and in its title, after its text
abbrev pub AfterText : OutlineState → Reading → Type 0
AfterText s r =
    (label : List (List ℕ)) × (destination : List ℕ) × (title : List (List ℕ)) × Some_line title ×
    Whole label destination (Some title) s r

-- Its texts.

-- the empty line is taken away
front-left : (part : Part) (label : List (List ℕ)) (destination : List ℕ) (s : OutlineState) (r : Reading) →
    s.lines ≡ shown r.outer r.here ++ empty_part part label destination s.depth →
    without_end s.lines ≡ front_lines part label destination s r
front-left part label destination s r all =
    let e : Entry = entry (s.depth + 1) (shown_by part) in
    ap without_end
    (all ∙ sym (append_assoc (shown r.outer r.here) (part_front part label destination s.depth) (e ∷ [])))
    ∙ end-taken (front_lines part label destination s r) e

-- what a prefix shows of it
piece-of : (part : Part) (is_begun is_parted : Bool) (depth : ℕ) (piece : List ℕ) (lines : List Entry) (place : ℕ)
    (lined : Option Lined) →
    lined ≡ Some (record { place = place; is_fenced = label_known part; form = form.Definition }) →
    piece_shown (part_word lined) is_begun is_parted depth piece lines
    ≡ part_parted (shown_by part) is_parted (depth + 1) piece lines
piece-of part is_begun is_parted depth piece lines place lined is =
    ap (λ (l : Option Lined). piece_shown (part_word l) is_begun is_parted depth piece lines) is

-- the first prefix begins in it
pub part-parts : (bytes : List ℕ) (part : Part) (q p : Point) (s : OutlineState) (r : Reading) →
    list_any is_ending (slice_range bytes (byte_at q) p.index) ≡ true →
    parts_by bytes Enter IsPrefix p s.text ≡ true → AtText part s r × TextFrom q s r →
    InText part (parted_at bytes p.index s.text s) (record r { text = option_map (before_prefix bytes p) r.text })
part-parts bytes part q p s r some k h =
    let before : List Entry = front_lines part h.0.0 h.0.1 s r in
    let piece : List ℕ = slice_range bytes (byte_at q) p.index in
    let w : Word = shown_by part in
    let span : TextSpan = record { from = byte_at q; is_parted = false } in
    let lines : List Entry =
    piece_shown (part_word s.lined) (is_titled s.lined || false) false s.depth piece s.lines in
    let blank : is_blank (last_line (split_lines piece)) ≡ true =
    (and_parts (begins_line span piece) (is_blank (last_line (split_lines piece)))
    (sym (ap (λ x. parts_by bytes Enter IsPrefix p x) h.1.span) ∙ k)).1 in
    let shows : lines ≡ before ++ first_full_as w (s.depth + 1) piece =
    piece-of part (is_titled s.lined || false) false s.depth piece s.lines (length (shown r.outer r.here)) s.lined
    h.0.2.0.lined
    ∙ ap (λ es. es ++ first_full_as w (s.depth + 1) piece) (front-left part h.0.0 h.0.1 s r h.0.2.1) in
    subst
    (λ (x : Option TextSpan).
    InText part (parted_at bytes p.index x s) (record r { text = option_map (before_prefix bytes p) r.text }))
    (sym h.1.span)
    (subst
    (λ (x : Option Text).
    InText part (parted_at bytes p.index (Some span) s) (record r { text = option_map (before_prefix bytes p) x }))
    (sym h.1.text) (
      h.0.0,
      h.0.1,
      h.0.2.0,
      (
        refl,
        refl,
        first_full_as w (s.depth + 1) piece,
        shows,
        λ rest no. first-piece w (s.depth + 1) piece rest some no blank,
      ),
    ))

other-than : (x : Bool) → not x ≡ true → x ≡ false
other-than true h = absurd (true≢false (sym h))
other-than false h = refl

-- after a prefix no piece begins with a line feed
no-feed : (span : TextSpan) (piece : List ℕ) → span.is_parted ≡ true → begins_line span piece ≡ true →
    begins_with 10 piece ≡ false
no-feed span piece parted h =
    other-than (begins_with 10 piece) (sym (ap (λ x. not x || not (begins_with 10 piece)) parted) ∙ h)

-- a further prefix begins
further-parts : (bytes : List ℕ) (part : Part) (label : List (List ℕ)) (destination : List ℕ) (p : Point)
    (s : OutlineState) (r : Reading) (span : Option TextSpan) (text : Option Text) →
    parts_by bytes Enter IsPrefix p span ≡ true →
    Defined (part_known part label destination) (label_known part) s r →
    PartIs (shown_by part) (front_lines part label destination s r) s.depth s.lines span text →
    InText part (parted_at bytes p.index span s) (record r { text = option_map (before_prefix bytes p) text })
further-parts bytes part label destination p s r (Some span) (Some text) k is h =
    let before : List Entry = front_lines part label destination s r in
    let piece : List ℕ = slice_range bytes span.from p.index in
    let w : Word = shown_by part in
    let begun : Bool = is_titled s.lined || span.is_parted in
    let parts = and_parts (begins_line span piece) (is_blank (last_line (split_lines piece))) k in
    let no_feed : begins_with 10 piece ≡ false = no-feed span piece h.0 parts.0 in
    let front : text_to bytes p.index text ≡ text.front ++ piece =
    ap (λ i. text.front ++ slice_range bytes i p.index) h.1 in
    let full : List Entry = full_as w (s.depth + 1) piece in (
      label,
      destination,
      is,
      (
        refl,
        h.1,
        h.2 ++ full,
        piece-of part begun span.is_parted s.depth piece s.lines (length (shown r.outer r.here)) s.lined is.lined
            ∙ ap (λ x. part_parted w x (s.depth + 1) piece s.lines) h.0
            ∙ ap (λ es. es ++ full) h.3
            ∙ append_assoc before h.2 full,
        λ rest no.
            ap (λ t. first_as w (s.depth + 1) (t ++ rest)) front
            ∙ ap (first_as w (s.depth + 1)) (append_assoc text.front piece rest)
            ∙ h.4 (piece ++ rest) (begins-following piece rest no_feed no)
            ∙ ap (λ es. h.2 ++ es) (piece-entries w (s.depth + 1) piece rest no parts.1)
            ∙ sym (append_assoc h.2 full (lines_as w (s.depth + 1) rest)),
      ),
    )
further-parts bytes part label destination p s r _ _ k is h = absurd h

pub part-prefix : (bytes : List ℕ) (part : Part) (p : Point) (s : OutlineState) (r : Reading) →
    parts_by bytes Enter IsPrefix p s.text ≡ true → InText part s r →
    InText part (parted_at bytes p.index s.text s) (record r { text = option_map (before_prefix bytes p) r.text })
part-prefix bytes part p s r k h = further-parts bytes part h.0 h.1 p s r s.text r.text k h.2 h.3

-- and ends
part-from : (w : Word) (p : Point) (before : List Entry) (depth : ℕ) (lines : List Entry) (span : Option TextSpan)
    (text : Option Text) → PartIs w before depth lines span text →
    PartIs w before depth lines (option_map (λ (t : TextSpan). record t { from = byte_at p }) span)
    (option_map (after_prefix p) text)
part-from w p before depth lines (Some span) (Some text) h = (h.0, refl, h.2, h.3, h.4)
part-from w p before depth lines _ _ h = absurd h

pub part-on : (part : Part) (p : Point) (s : OutlineState) (r : Reading) → InText part s r →
    InText part (record s { text = option_map (λ (t : TextSpan). record t { from = byte_at p }) s.text })
    (record r { text = option_map (after_prefix p) r.text })
part-on part p s r h =
    (h.0, h.1, h.2, part-from (shown_by part) p (front_lines part h.0 h.1 s r) s.depth s.lines s.text r.text h.3)

-- a line ending is a part of it
line-stays : (bytes : List ℕ) (part : Part) (p : Point) (s : OutlineState) (r : Reading) (w : Word)
    (before : List Entry) (span : Option TextSpan) (text : Option Text) → PartIs w before s.depth s.lines span text →
    InText part s r → InText part (line_ended bytes p.index s.lined span s) (at_ending bytes p text r)
line-stays bytes part p s r w before (Some span) (Some text) h is =
    subst (λ (x : OutlineState). InText part x r) (sym (text-line bytes p.index s.lined span s)) is
line-stays bytes part p s r w before _ _ h is = absurd h

pub part-line : (bytes : List ℕ) (part : Part) (p : Point) (s : OutlineState) (r : Reading) → InText part s r →
    InText part (line_ended bytes p.index s.lined s.text s) (at_ending bytes p r.text r)
part-line bytes part p s r is =
    line-stays bytes part p s r (shown_by part) (front_lines part is.0 is.1 s r) s.text r.text is.3 is

-- it ends: its last lines are shown
further-ends : (bytes : List ℕ) (part : Part) (label : List (List ℕ)) (destination : List ℕ) (p : Point)
    (s : OutlineState) (r : Reading) (span : TextSpan) (text : Text) →
    begins_line span (slice_range bytes span.from p.index) ≡ true →
    PartIs (shown_by part) (front_lines part label destination s r) s.depth s.lines (Some span) (Some text) →
    part_ended (shown_by part) span.is_parted (s.depth + 1) (slice_range bytes span.from p.index) s.lines
    ≡ front_lines part label destination s r
    ++ first_as (shown_by part) (s.depth + 1) (text_to bytes p.index text)
further-ends bytes part label destination p s r span text k h =
    let before : List Entry = front_lines part label destination s r in
    let piece : List ℕ = slice_range bytes span.from p.index in
    let w : Word = shown_by part in
    ap (λ x. part_ended w x (s.depth + 1) piece s.lines) h.0
    ∙ ap (λ es. es ++ lines_as w (s.depth + 1) piece) h.3
    ∙ append_assoc before h.2 (lines_as w (s.depth + 1) piece)
    ∙ ap (λ es. before ++ es) (sym (h.4 piece (no-feed span piece h.0 k)))
    ∙ ap (λ i. before ++ first_as w (s.depth + 1) (text.front ++ slice_range bytes i p.index)) (sym h.1)

first-ends : (part : Part) (label : List (List ℕ)) (destination piece : List ℕ) (s : OutlineState) (r : Reading) →
    s.lines ≡ shown r.outer r.here ++ empty_part part label destination s.depth →
    part_ended (shown_by part) false (s.depth + 1) piece s.lines
    ≡ front_lines part label destination s r ++ first_as (shown_by part) (s.depth + 1) piece
first-ends part label destination piece s r all =
    ap (λ es. es ++ first_as (shown_by part) (s.depth + 1) piece) (front-left part label destination s r all)

-- that of its label
label-recorded : (is_parted : Bool) (piece destination : List ℕ) (label : List (List ℕ)) (line : Line)
    (s : OutlineState)
    (r : Reading) → Defined (part_known LabelPart label destination) false s r →
    part_ended word.Label is_parted (s.depth + 1) piece s.lines
    ≡ front_lines LabelPart label destination s r ++ first_as word.Label (s.depth + 1) line.text →
    Following DestinationLeft (recorded purpose.Label is_parted piece (record s { text = None }))
    (spelled.recorded AsLabel line (record r { text = None }))
    × NoText (recorded purpose.Label is_parted piece (record s { text = None }))
    (spelled.recorded AsLabel line (record r { text = None }))
label-recorded is_parted piece destination label line s r is lines =
    let before : List Entry = shown r.outer r.here in
    let head : List Entry = entry s.depth word.Definition ∷ [] in
    let labels : List Entry = first_as word.Label (s.depth + 1) line.text in
    let end : List Entry = entry (s.depth + 1) word.Destination ∷ [] in (
      (
        trim_further (split_lines line.text),
        [],
        None,
        (refl, refl),
        (
          known-recorded (spelled.noted AsLabel line) is refl is.leaf (ap now_recorded is.lined),
          ap (λ es. es ++ end) lines
              ∙ append_assoc (before ++ head) labels end
              ∙ append_assoc before head (labels ++ end),
        ),
      ),
      (refl, refl),
    )

label-all : (bytes : List ℕ) (label : List (List ℕ)) (destination : List ℕ) (p : Point) (s : OutlineState)
    (r : Reading) (span : Option TextSpan) (text : Option Text) → parts_by bytes Exit (TextRole AsLabel) p span ≡ true →
    Defined (part_known LabelPart label destination) false s r →
    PartIs word.Label (front_lines LabelPart label destination s r) s.depth s.lines span text →
    Following DestinationLeft (recorded_at bytes purpose.Label p.index span s)
    (spelled.recorded_at bytes AsLabel p text r)
    × NoText (recorded_at bytes purpose.Label p.index span s) (spelled.recorded_at bytes AsLabel p text r)
label-all bytes label destination p s r (Some span) (Some text) k is h =
    label-recorded span.is_parted (slice_range bytes span.from p.index) destination label
    (record { spaces = text.spaces; text = text_to bytes p.index text }) s r is
    (further-ends bytes LabelPart label destination p s r span text k h)
label-all bytes label destination p s r _ _ k is h = absurd h

pub label-ends : (bytes : List ℕ) (p : Point) (s : OutlineState) (r : Reading) →
    parts_by bytes Exit (TextRole AsLabel) p s.text ≡ true → InText LabelPart s r →
    Following DestinationLeft (recorded_at bytes purpose.Label p.index s.text s)
    (spelled.recorded_at bytes AsLabel p r.text r)
    × NoText (recorded_at bytes purpose.Label p.index s.text s) (spelled.recorded_at bytes AsLabel p r.text r)
label-ends bytes p s r k h = label-all bytes h.0 h.1 p s r s.text r.text k h.2 h.3

pub label-first : (bytes : List ℕ) (q p : Point) (s : OutlineState) (r : Reading) →
    AtText LabelPart s r × TextFrom q s r →
    Following DestinationLeft (recorded_at bytes purpose.Label p.index s.text s)
    (spelled.recorded_at bytes AsLabel p r.text r)
    × NoText (recorded_at bytes purpose.Label p.index s.text s) (spelled.recorded_at bytes AsLabel p r.text r)
label-first bytes q p s r h =
    let piece : List ℕ = slice_range bytes (byte_at q) p.index in
    text-ends (λ s r. Following DestinationLeft s r × NoText s r) bytes q p AsLabel purpose.Label s r h.1
    (label-recorded false piece h.0.1 h.0.0 (record { spaces = columns_left q; text = piece }) s r h.0.2.0
    (first-ends LabelPart h.0.0 h.0.1 piece s r h.0.2.1))

-- and that of its title
titled-lines : (label : List (List ℕ)) (destination : List ℕ) (title : List (List ℕ)) (depth : ℕ) →
    all_lines label destination None depth ++ entries (depth + 1) word.Title title
    ≡ all_lines label destination (Some title) depth
titled-lines label destination title depth =
    ap (λ es. entry depth word.Definition ∷ es)
    (append_assoc (entries (depth + 1) word.Label label) (entry_with (depth + 1) word.Destination destination ∷ [])
    (entries (depth + 1) word.Title title))

some-further : (lines : List (List ℕ)) → Some_line lines → Some_line (trim_further lines)
some-further [] h = absurd h
some-further (line ∷ lines) h = tt

title-recorded : (is_parted : Bool) (piece destination : List ℕ) (label : List (List ℕ)) (line : Line)
    (s : OutlineState)
    (r : Reading) → Defined (part_known TitlePart label destination) true s r →
    part_ended word.Title is_parted (s.depth + 1) piece s.lines
    ≡ front_lines TitlePart label destination s r ++ first_as word.Title (s.depth + 1) line.text →
    AfterText (recorded purpose.DefinitionTitle is_parted piece (record s { text = None }))
    (spelled.recorded AsTitle line (record r { text = None }))
    × NoText (recorded purpose.DefinitionTitle is_parted piece (record s { text = None }))
    (spelled.recorded AsTitle line (record r { text = None }))
title-recorded is_parted piece destination label line s r is lines =
    let before : List Entry = shown r.outer r.here in
    let title : List (List ℕ) = trim_further (split_lines line.text) in (
      (
        label,
        destination,
        title,
        some-further (split_lines line.text) (some-split line.text),
        (
          known-next (spelled.noted AsTitle line) is refl,
          lines
              ∙ append_assoc before (all_lines label destination None s.depth)
              (entries (s.depth + 1) word.Title title)
              ∙ ap (λ es. before ++ es) (titled-lines label destination title s.depth),
        ),
      ),
      (refl, refl),
    )

title-all : (bytes : List ℕ) (label : List (List ℕ)) (destination : List ℕ) (p : Point) (s : OutlineState)
    (r : Reading) (span : Option TextSpan) (text : Option Text) → parts_by bytes Exit (TextRole AsTitle) p span ≡ true →
    Defined (part_known TitlePart label destination) true s r →
    PartIs word.Title (front_lines TitlePart label destination s r) s.depth s.lines span text →
    AfterText (recorded_at bytes purpose.DefinitionTitle p.index span s) (spelled.recorded_at bytes AsTitle p text r)
    × NoText (recorded_at bytes purpose.DefinitionTitle p.index span s) (spelled.recorded_at bytes AsTitle p text r)
title-all bytes label destination p s r (Some span) (Some text) k is h =
    title-recorded span.is_parted (slice_range bytes span.from p.index) destination label
    (record { spaces = text.spaces; text = text_to bytes p.index text }) s r is
    (further-ends bytes TitlePart label destination p s r span text k h)
title-all bytes label destination p s r _ _ k is h = absurd h

pub title-ends : (bytes : List ℕ) (p : Point) (s : OutlineState) (r : Reading) →
    parts_by bytes Exit (TextRole AsTitle) p s.text ≡ true → InText TitlePart s r →
    AfterText (recorded_at bytes purpose.DefinitionTitle p.index s.text s)
    (spelled.recorded_at bytes AsTitle p r.text r)
    × NoText (recorded_at bytes purpose.DefinitionTitle p.index s.text s) (spelled.recorded_at bytes AsTitle p r.text r)
title-ends bytes p s r k h = title-all bytes h.0 h.1 p s r s.text r.text k h.2 h.3

pub title-first : (bytes : List ℕ) (q p : Point) (s : OutlineState) (r : Reading) →
    AtText TitlePart s r × TextFrom q s r →
    AfterText (recorded_at bytes purpose.DefinitionTitle p.index s.text s)
    (spelled.recorded_at bytes AsTitle p r.text r)
    × NoText (recorded_at bytes purpose.DefinitionTitle p.index s.text s) (spelled.recorded_at bytes AsTitle p r.text r)
title-first bytes q p s r h =
    let piece : List ℕ = slice_range bytes (byte_at q) p.index in
    text-ends (λ s r. AfterText s r × NoText s r) bytes q p AsTitle purpose.DefinitionTitle s r h.1
    (title-recorded false piece h.0.1 h.0.0 (record { spaces = columns_left q; text = piece }) s r h.0.2.0
    (first-ends TitlePart h.0.0 h.0.1 piece s r h.0.2.1))

-- After its label.

-- with what is known to be there
shows-known : (label : List (List ℕ)) (destination known : List ℕ) (title known_title : Option (List (List ℕ)))
    (s : OutlineState) (r : Reading) → destination ≡ known → title ≡ known_title →
    Whole label destination title s r → Whole label known known_title s r
shows-known label destination known title known_title s r same same_title h =
    subst (λ t. Whole label known t s r) same_title (subst (λ d. Whole label d title s r) same h)

-- its destination begins
nothing-recorded : (left : Left) (destination : List ℕ) (title : Option (List (List ℕ))) → MayHaveDestination left →
    HasLeft left destination title → (destination ≡ []) × (title ≡ None)
nothing-recorded DestinationLeft destination title may h = h
nothing-recorded TitleLeft destination title may h = absurd may
nothing-recorded NoneLeft destination title may h = absurd may

pub destination-begins : (left : Left) (p : Point) (s : OutlineState) (r : Reading) → MayHaveDestination left →
    Following left s r →
    InDestinationText
    (record s { text = Some (record { from = byte_at p; is_parted = false }); spaces = columns_left p })
    (record r { text = Some (begun p) })
    × ((q : Point) ×
    TextFrom q (record s { text = Some (record { from = byte_at p; is_parted = false }); spaces = columns_left p })
    (record r { text = Some (begun p) }))
destination-begins left p s r may h =
    let none = nothing-recorded left h.1 h.2 may h.3 in
    ((h.0, shows-known h.0 h.1 [] h.2 None s r none.0 none.1 h.4), (p, from-here p s r))

-- and ends
destination-filled : (label : List (List ℕ)) (line : Line) (s : OutlineState) (r : Reading) →
    Whole label [] None s r →
    Following TitleLeft (recorded purpose.Destination false line.text (record s { text = None }))
    (spelled.recorded AsDestination line (record r { text = None }))
    × NoText (recorded purpose.Destination false line.text (record s { text = None }))
    (spelled.recorded AsDestination line (record r { text = None }))
destination-filled label line s r h =
    let before : List Entry = shown r.outer r.here in
    let front : List Entry = entry s.depth word.Definition ∷ entries (s.depth + 1) word.Label label in
    let none : Entry = entry (s.depth + 1) word.Destination in
    let end : List Entry = entry_with (s.depth + 1) word.Destination line.text ∷ [] in (
      (
        label,
        line.text,
        None,
        refl,
        (
          known-next (spelled.noted AsDestination line) h.0 refl,
          ap (λ es. without_end es ++ end) (h.1 ∙ sym (append_assoc before front (none ∷ [])))
              ∙ ap (λ es. es ++ end) (end-taken (before ++ front) none)
              ∙ append_assoc before front end,
        ),
      ),
      (refl, refl),
    )

pub destination-ends : (bytes : List ℕ) (q p : Point) (s : OutlineState) (r : Reading) → InDestinationText s r →
    TextFrom q s r →
    Following TitleLeft (recorded_at bytes purpose.Destination p.index s.text s)
    (spelled.recorded_at bytes AsDestination p r.text r)
    × NoText (recorded_at bytes purpose.Destination p.index s.text s)
    (spelled.recorded_at bytes AsDestination p r.text r)
destination-ends bytes q p s r h from =
    text-ends (λ s r. Following TitleLeft s r × NoText s r) bytes q p AsDestination purpose.Destination s r from
    (destination-filled h.0 (record { spaces = columns_left q; text = slice_range bytes (byte_at q) p.index }) s r h.1)

-- its title begins
no-title : (left : Left) (destination : List ℕ) (title : Option (List (List ℕ))) → MayHaveTitle left →
    HasLeft left destination title → title ≡ None
no-title DestinationLeft destination title may h = h.1
no-title TitleLeft destination title may h = h
no-title NoneLeft destination title may h = absurd may

pub title-begins : (bytes : List ℕ) (left : Left) (p : Point) (s : OutlineState) (r : Reading) → MayHaveTitle left →
    Following left s r × NoText s r →
    AtText TitlePart (state_enter bytes role.Title p s) (read_enter bytes IsTitle p r)
    × NoText (state_enter bytes role.Title p s) (read_enter bytes IsTitle p r)
title-begins bytes left p s r may h =
    let known = shows-known h.0.0 h.0.1 h.0.1 h.0.2 None s r refl (no-title left h.0.1 h.0.2 may h.0.3) h.0.4 in
    let line : List Entry = entry (s.depth + 1) word.Title ∷ [] in (
      (
        h.0.0,
        h.0.1,
        (
          known-next at_title known.0 refl,
          ap (λ es. es ++ line) known.1
              ∙ append_assoc (shown r.outer r.here) (all_lines h.0.0 h.0.1 None s.depth) line,
        ),
      ),
      h.1,
    )

-- and ends without a text
pub title-empty : (bytes : List ℕ) (p : Point) (s : OutlineState) (r : Reading) → AtText TitlePart s r × NoText s r →
    Following NoneLeft (state_exit bytes role.Title p s) (read_exit bytes IsTitle p r)
    × NoText (state_exit bytes role.Title p s) (read_exit bytes IsTitle p r)
title-empty bytes p s r h = (
  (
    h.0.0,
    h.0.1,
    Some ([] ∷ []),
    tt,
    (
      known-next after_title h.0.2.0 refl,
      h.0.2.1 ∙ ap (λ es. shown r.outer r.here ++ es) (titled-lines h.0.0 h.0.1 ([] ∷ []) s.depth),
    ),
  ),
  h.1,
)

-- or after one
stays-recorded : (title now : List (List ℕ)) → Some_line title → first_recorded title now ≡ title
stays-recorded [] now h = absurd h
stays-recorded (line ∷ title) now h = refl

pub title-full : (bytes : List ℕ) (p : Point) (s : OutlineState) (r : Reading) → AfterText s r × NoText s r →
    Following NoneLeft (state_exit bytes role.Title p s) (read_exit bytes IsTitle p r)
    × NoText (state_exit bytes role.Title p s) (read_exit bytes IsTitle p r)
title-full bytes p s r h = (
  (
    h.0.0,
    h.0.1,
    Some h.0.2,
    tt,
    (
      known-next after_title h.0.4.0
          (ap (λ t. DefinitionLeaf (known_all h.0.0 h.0.1 (Some t))) (stays-recorded h.0.2 ([] ∷ []) h.0.3)),
      h.0.4.1,
    ),
  ),
  h.1,
)
