-- What an outline has read of some events agrees with what was read of the tree that they spell out.
use Rattle.std.proofs.Common.{◌≡◌, ℕ, ◌+◌, ◌-◌, true, false, cond, ◌||◌, not, List, [], ◌∷◌, ◌++◌, append_assoc}
use Rattle.std.proofs.Common.{slice_range, refl, sym, ◌∙◌, ap, subst, arith}
use Rattle.std.specs.Prelude.{Option, Some, None, option_map}
use Rattle.std.proofs.lemmas.Bool.{and_parts}
use Rattle.md_engine.specs.declared.event.Kind.{Kind}
use Rattle.md_engine.specs.declared.event.Kind.TheVariants.{Enter, Exit}
use Rattle.md_engine.specs.declared.event.Point.{Point}
use Rattle.md_meaning.specs.declared.alert.AlertKind.{AlertKind}
use Rattle.md_meaning.specs.declared.outline.Word.{Word}
use Rattle.md_meaning.specs.declared.outline.Word.TheVariants as word
use Rattle.md_meaning.specs.Outline.{Entry, block_entries}
use Rattle.md_events.specs.Events.Places.{last_line}
use Rattle.md_meaning.specs.Rest.{is_blank}
use Rattle.md_events.specs.Events.Spelled.{OpenContainer, AsDigits, AsFootnoteLabel, AsHeading, AsItemMarker, AsMarkers}
use Rattle.md_events.specs.Events.Spelled.{FootnoteShape, ContainerRole, IsPrefix, IsQuoteMarker, OpenLeaf, LeafRole}
use Rattle.md_events.specs.Events.Spelled.{Reading, Shape, TextRole, Text, after_prefix, at_ending, before_prefix}
use Rattle.md_events.specs.Events.Spelled.{begun, block_around, block_of, byte_at, columns_left, finished, left}
use Rattle.md_events.specs.Events.Spelled.{next_line, on_leaf, read_by, read_enter, read_exit, is_before_blocks}
use Rattle.md_events.specs.Events.Spelled.{kind_at, named, on_shape, text_to, with_kind}
use Rattle.md_events.specs.Events.Spelled as spelled
use Rattle.md_meaning.specs.State.{then_block}
use Rattle.md_meaning.specs.Texts.{split_lines}
use Rattle.md_meaning.specs.Tree.{Block, Blocks, End, Line, More}
use Rattle.md_events.proofs.ThroughoutLemmas.{all-then}
use Rattle.md_outline.specs.AlertState.{kind_given}
use Rattle.md_outline.specs.FootnoteState.{container_lines}
use Rattle.md_outline.specs.HeadingDepths.{are_shallow, fits}
use Rattle.md_outline.specs.ListsBegin.{AllRecorded, MayFollow}
use Rattle.md_outline.specs.Outlined.{begins_line, is_unparted, parts_by}
use Rattle.md_outline.specs.OutlineSteps.{OutlineState, head_marked, is_titled, leaf_ended, line_ended, parted_at}
use Rattle.md_outline.specs.OutlineSteps.{state_by, state_enter, state_exit, title_recorded, recorded_at, recorded_leaf}
use Rattle.md_outline.specs.DefinitionState.{part_word}
use Rattle.md_outline.specs.OutlineSteps.{marked_at, marker_begun, piece_shown}
use Rattle.md_outline.specs.ParagraphState.{begin_entries}
use Rattle.md_events.specs.Events.Recorded.{block_recorded}
use Rattle.md_outline.specs.Roles.{is_plain, leaf_entries, noted, shown_as, recorded_as}
use Rattle.md_outline.specs.TextLines.{text_entries}
use Rattle.md_outline.specs.declared.outline.lined.Lined.{Lined}
use Rattle.md_outline.specs.declared.outline.role.Note.{Note}
use Rattle.md_outline.specs.declared.outline.role.Note.TheVariants as note
use Rattle.md_outline.specs.declared.outline.role.Purpose.TheVariants as purpose
use Rattle.md_outline.specs.declared.outline.role.Role.{Role}
use Rattle.md_outline.specs.declared.outline.role.Role.TheVariants as role
use Rattle.md_outline.specs.declared.outline.TextSpan.{TextSpan}
use Rattle.md_outline.proofs.AlertLemmas.{given-shown, kept-shown, kind-words}
use Rattle.md_outline.proofs.HeadingLemmas.{fitted-same}
use Rattle.md_outline.proofs.ClosedTrees.{HaveWords, StaysShown, depth-renamed, depth_of, digits-stay, marker-stays}
use Rattle.md_outline.proofs.ClosedTrees.{shown, shown-then, words-then}
use Rattle.md_outline.proofs.RoleLemmas.{ByRole, IsBlock, IsFresh, IsShownBy, Knows, by-ending, by-role, knows-line}
use Rattle.md_outline.proofs.RoleLemmas.{knows-noted, note-recorded}
use Rattle.md_outline.proofs.TextPieces.{Pieces, pieces-from, pieces-last, pieces-next, pieces-none}

-- The leaf and the text.

abbrev pub KnowsOpen : Option OpenLeaf → Type 0
KnowsOpen None = Unit {0}
KnowsOpen (Some leaf) = Knows leaf

-- the text that is read, by where it begins or continues, where it is a block of its own if it is parted
abbrev pub TextIs : List Entry → ℕ → List Entry → Option TextSpan → Option Text → Type 0
TextIs before depth lines None None = lines ≡ before
TextIs before depth lines (Some span) (Some text) =
    (text.from ≡ span.from)
    × Pieces before (begin_entries depth false) (depth + 1) lines span.is_parted text.front
TextIs before depth lines None (Some text) = ⊥
TextIs before depth lines (Some span) None = ⊥

-- what was read of some events is what is known of the half-read tree, where no list is to be said its marker
pub record Agrees (s : OutlineState) (r : Reading) : Type 0 where
  pub depth : s.depth ≡ depth_of r.outer
  pub words : HaveWords r.outer r.here
  pub untold : s.untold ≡ None
  pub lined : s.lined ≡ None
  pub leaf : s.leaf ≡ r.leaf
  pub known : KnowsOpen r.leaf
  pub text : TextIs (shown r.outer r.here) s.depth s.lines s.text r.text

-- where no text is parted, the lines are those of the tree
pub text-lines : (before : List Entry) (depth : ℕ) (lines : List Entry) (span : Option TextSpan) (text : Option Text) →
    is_unparted span ≡ true → TextIs before depth lines span text → lines ≡ before
text-lines before depth lines None None h k = k
text-lines before depth lines (Some span) (Some text) h k =
    (pieces-none before (begin_entries depth false) (depth + 1) lines span.is_parted text.front h k.1).0
text-lines before depth lines _ _ h k = absurd k

-- and the text stays when lines and blocks are added
pub text-stays : (before before' : List Entry) (depth depth' : ℕ) (lines lines' : List Entry) (span : Option TextSpan)
    (text : Option Text) →
    is_unparted span ≡ true → (lines ≡ before → lines' ≡ before') → TextIs before depth lines span text →
    TextIs before' depth' lines' span text
text-stays before before' depth depth' lines lines' None None h f k = f k
text-stays before before' depth depth' lines lines' (Some span) (Some text) h f k =
    let pieces = pieces-none before (begin_entries depth false) (depth + 1) lines span.is_parted text.front h k.1 in (
      k.0,
      pieces-from before' (begin_entries depth' false) (depth' + 1) lines' span.is_parted text.front h
          (f pieces.0, pieces.1),
    )
text-stays before before' depth depth' lines lines' _ _ h f k = absurd k

-- a leaf ends
agrees-leaf : (s : OutlineState) (r : Reading) (leaf : Option OpenLeaf) → is_unparted s.text ≡ true →
    are_shallow (finished leaf r).here ≡ true → Agrees s r →
    Agrees (leaf_ended leaf s) (finished leaf r)
agrees-leaf s r None k d is = is
agrees-leaf s r (Some leaf) k d is =
    let b : Block = block_of leaf in
    let fit = fitted-same b (all-then fits r.here b d).1 in
    record {
      depth = is.depth;
      words = words-then r.outer r.here b is.words;
      untold = is.untold;
      leaf = refl;
      lined = is.lined;
      known = tt;
      text =
          text-stays (shown r.outer r.here) (shown r.outer (then_block r.here b)) s.depth s.depth s.lines
          (s.lines ++ leaf_entries s.depth leaf) s.text r.text k
          (λ same.
          ap (λ all. all ++ leaf_entries s.depth leaf) same
          ∙ ap (λ x. shown r.outer r.here ++ x) (ap (block_entries s.depth) fit ∙ ap (λ d. block_entries d b) is.depth)
          ∙ sym (shown-then r.outer r.here b is.words))
          is.text;
    }

-- a leaf that an outline knows is said of a text, and meets a line ending
known-noted : (y : Note) (text : List ℕ) (leaf : Option OpenLeaf) → KnowsOpen leaf →
    KnowsOpen (option_map (noted y text) leaf)
known-noted y text None k = tt
known-noted y text (Some leaf) k = knows-noted y text leaf k

known-line : (leaf : Option OpenLeaf) → KnowsOpen leaf → option_map next_line leaf ≡ leaf
known-line None k = refl
known-line (Some leaf) k = ap Some (knows-line leaf k)

-- a text that has no prefix in it is one piece
pub whole-piece : (bytes : List ℕ) (p : Point) (before : List Entry) (depth : ℕ) (lines : List Entry) (span : TextSpan)
    (text : Text) →
    not span.is_parted ≡ true → TextIs before depth lines (Some span) (Some text) →
    text_to bytes p.index text ≡ slice_range bytes span.from p.index
whole-piece bytes p before depth lines span text h k =
    ap (λ f. f ++ slice_range bytes text.from p.index)
    (pieces-none before (begin_entries depth false) (depth + 1) lines span.is_parted text.front h k.1).1
    ∙ ap (λ i. slice_range bytes i p.index) k.0

-- a text that is a block of its own
agrees-block : (bytes : List ℕ) (x : spelled.Purpose) (p : Point) (s : OutlineState) (r : Reading)
    (span : Option TextSpan)
    (text : Option Text) → IsBlock x → TextIs (shown r.outer r.here) s.depth s.lines span text →
    parts_by bytes Exit (TextRole x) p span ≡ true → Agrees s r →
    Agrees (recorded_at bytes purpose.Block p.index span s) (spelled.recorded_at bytes x p text r)
agrees-block bytes x p s r None None by h k is = is
agrees-block bytes x p s r (Some span) (Some text) by h k is =
    let piece : List ℕ = slice_range bytes span.from p.index in
    let line : Line = record { spaces = text.spaces; text = text_to bytes p.index text } in
    subst (Agrees (recorded_at bytes purpose.Block p.index (Some span) s))
    (sym (by.tree line (record r { text = None })))
    (record {
      depth = is.depth;
      words = words-then r.outer r.here (block_recorded line.text) is.words;
      untold = is.untold;
      leaf = is.leaf;
      lined = is.lined;
      known = is.known;
      text =
          pieces-last (shown r.outer r.here) (begin_entries s.depth false) (s.depth + 1) s.lines span.is_parted
          text.front piece (sym (by.parted bytes p span) ∙ k) h.1
          ∙ append_assoc (shown r.outer r.here) (begin_entries s.depth false)
          (text_entries (s.depth + 1) (text.front ++ piece))
          ∙ ap
          (λ i. shown r.outer r.here ++ block_entries s.depth
          (block_recorded (text.front ++ slice_range bytes i p.index)))
          (sym h.0)
          ∙ ap (λ d. shown r.outer r.here ++ block_entries d (block_recorded line.text)) is.depth
          ∙ sym (shown-then r.outer r.here (block_recorded line.text) is.words);
    })
agrees-block bytes x p s r _ _ by h k is = absurd h

-- a text that says something of a leaf
abbrev noted_at : List ℕ → Note → ℕ → Option TextSpan → OutlineState → OutlineState
noted_at bytes y end None s = s
noted_at bytes y end (Some span) s = recorded_leaf y (slice_range bytes span.from end) (record s { text = None })

agrees-note : (bytes : List ℕ) (y : Note) (p : Point) (s : OutlineState) (r : Reading) (span : Option TextSpan)
    (text : Option Text) → TextIs (shown r.outer r.here) s.depth s.lines span text → is_unparted span ≡ true →
    Agrees s r → Agrees (noted_at bytes y p.index span s) (spelled.recorded_at bytes (recorded_as y) p text r)
agrees-note bytes y p s r None None h k is = is
agrees-note bytes y p s r (Some span) (Some text) h k is =
    let piece : List ℕ = slice_range bytes span.from p.index in
    let line : Line = record { spaces = text.spaces; text = text_to bytes p.index text } in
    let whole : line.text ≡ piece = whole-piece bytes p (shown r.outer r.here) s.depth s.lines span text k h in
    subst (Agrees (recorded_leaf y piece (record s { text = None })))
    (sym (note-recorded y line (record r { text = None })))
    (record {
      depth = is.depth;
      words = is.words;
      untold = is.untold;
      leaf = ap (option_map (noted y piece)) is.leaf ∙ ap (λ t. option_map (noted y t) r.leaf) (sym whole);
      lined = is.lined;
      known = known-noted y line.text r.leaf is.known;
      text = text-lines (shown r.outer r.here) s.depth s.lines (Some span) (Some text) k h;
    })
agrees-note bytes y p s r _ _ h k is = absurd h

-- as the markers of a heading
agrees-markers : (bytes : List ℕ) (p : Point) (s : OutlineState) (r : Reading) (span : Option TextSpan)
    (text : Option Text) → TextIs (shown r.outer r.here) s.depth s.lines span text → is_unparted span ≡ true →
    Agrees s r → Agrees (recorded_at bytes purpose.Markers p.index span s)
    (spelled.recorded_at bytes AsMarkers p text r)
agrees-markers bytes p s r None text h k is = agrees-note bytes note.Markers p s r None text h k is
agrees-markers bytes p s r (Some span) text h k is =
    let piece : List ℕ = slice_range bytes span.from p.index in
    subst
    (λ lined.
    Agrees (head_marked lined piece (recorded_leaf note.Markers piece (record s { text = None })))
    (spelled.recorded_at bytes AsMarkers p text r))
    (sym is.lined) (agrees-note bytes note.Markers p s r (Some span) text h k is)

-- and as its text, if it is an ATX heading
pub agrees-title : (bytes : List ℕ) (p : Point) (s : OutlineState) (r : Reading) (span : Option TextSpan)
    (text : Option Text) → TextIs (shown r.outer r.here) s.depth s.lines span text → is_unparted span ≡ true →
    Agrees s r → Agrees (recorded_at bytes purpose.Title p.index span s) (spelled.recorded_at bytes AsHeading p text r)
agrees-title bytes p s r None text h k is = agrees-note bytes note.Title p s r None text h k is
agrees-title bytes p s r (Some span) text h k is =
    let piece : List ℕ = slice_range bytes span.from p.index in
    subst
    (λ lined.
    Agrees (title_recorded (is_titled lined) piece (record s { text = None }))
    (spelled.recorded_at bytes AsHeading p text r))
    (sym is.lined) (agrees-note bytes note.Title p s r (Some span) text h k is)

-- a text that says something of a container
agrees-named : (f : Shape → Shape) (s : OutlineState) (r : Reading) (span : TextSpan) (text : Text) →
    StaysShown f r.outer r.here → TextIs (shown r.outer r.here) s.depth s.lines (Some span) (Some text) →
    not span.is_parted ≡ true → Agrees s r →
    Agrees (record s { text = None }) (record r { text = None; outer = on_shape f r.outer })
agrees-named f s r span text stays h k is = record {
  depth = is.depth ∙ sym stays.depth;
  words = stays.words;
  untold = is.untold;
  leaf = is.leaf;
  lined = is.lined;
  known = is.known;
  text = text-lines (shown r.outer r.here) s.depth s.lines (Some span) (Some text) k h ∙ sym stays.lines;
}

agrees-digits : (bytes : List ℕ) (p : Point) (s : OutlineState) (r : Reading) (span : Option TextSpan)
    (text : Option Text) →
    TextIs (shown r.outer r.here) s.depth s.lines span text → is_unparted span ≡ true → Agrees s r →
    Agrees (recorded_at bytes purpose.Digits p.index span s) (spelled.recorded_at bytes AsDigits p text r)
agrees-digits bytes p s r None None h k is = is
agrees-digits bytes p s r (Some span) (Some text) h k is =
    agrees-named (named AsDigits (text_to bytes p.index text)) s r span text
    (digits-stay (text_to bytes p.index text) r.outer r.here is.words) h k is
agrees-digits bytes p s r _ _ h k is = absurd h

-- a marker of a further item
agrees-marker : (bytes : List ℕ) (p : Point) (s : OutlineState) (r : Reading) (span : Option TextSpan)
    (text : Option Text) →
    TextIs (shown r.outer r.here) s.depth s.lines span text → is_unparted span ≡ true → Agrees s r →
    Agrees (recorded_at bytes purpose.Marker p.index span s) (spelled.recorded_at bytes AsItemMarker p text r)
agrees-marker bytes p s r None None h k is = is
agrees-marker bytes p s r (Some span) (Some text) h k is =
    subst
    (λ untold.
    Agrees (marked_at untold (slice_range bytes span.from p.index) (record s { text = None }))
    (spelled.recorded_at bytes AsItemMarker p (Some text) r))
    (sym is.untold)
    (agrees-named (named AsItemMarker (text_to bytes p.index text)) s r span text
    (marker-stays (text_to bytes p.index text) r.outer r.here is.words) h k is)
agrees-marker bytes p s r _ _ h k is = absurd h

-- a prefix begins
agrees-prefix : (bytes : List ℕ) (p : Point) (s : OutlineState) (r : Reading) (span : Option TextSpan)
    (text : Option Text) →
    s.text ≡ span → TextIs (shown r.outer r.here) s.depth s.lines span text →
    parts_by bytes Enter IsPrefix p span ≡ true → Agrees s r →
    Agrees (parted_at bytes p.index span s) (record r { text = option_map (before_prefix bytes p) text })
agrees-prefix bytes p s r None None e h k is = record {
  depth = is.depth;
  words = is.words;
  untold = is.untold;
  leaf = is.leaf;
  lined = is.lined;
  known = is.known;
  text = subst (λ x. TextIs (shown r.outer r.here) s.depth s.lines x None) (sym e) h;
}
agrees-prefix bytes p s r (Some span) (Some text) e h k is =
    let piece : List ℕ = slice_range bytes span.from p.index in
    let before : List Entry = shown r.outer r.here in
    let parts = and_parts (begins_line span piece) (is_blank (last_line (split_lines piece))) k in
    let lines : Option Lined → List Entry = λ l.
    piece_shown (part_word l) (is_titled l || span.is_parted) span.is_parted s.depth piece s.lines in
    record {
      depth = is.depth;
      words = is.words;
      untold = is.untold;
      leaf = is.leaf;
      lined = is.lined;
      known = is.known;
      text = (
        h.0,
        subst
            (λ i.
            Pieces before (begin_entries s.depth false) (s.depth + 1) (lines s.lined) true
            (text.front ++ slice_range bytes i p.index))
            (sym h.0)
            (subst
            (λ l. Pieces before (begin_entries s.depth false) (s.depth + 1) (lines l) true (text.front ++ piece))
            (sym is.lined)
            (pieces-next before (begin_entries s.depth false) (s.depth + 1) s.lines span.is_parted text.front piece
            parts.0 parts.1 h.1)),
      );
    }
agrees-prefix bytes p s r _ _ e h k is = absurd h

-- a prefix ends
agrees-taken_prefixes : (p : Point) (before : List Entry) (depth : ℕ) (lines : List Entry) (span : Option TextSpan)
    (text : Option Text) →
    TextIs before depth lines span text →
    TextIs before depth lines (option_map (λ (t : TextSpan). record t { from = byte_at p }) span)
    (option_map (after_prefix p) text)
agrees-taken_prefixes p before depth lines None None h = h
agrees-taken_prefixes p before depth lines (Some span) (Some text) h = (refl, h.1)
agrees-taken_prefixes p before depth lines _ _ h = absurd h

-- a container ends
pub agrees-left : (s : OutlineState) (r : Reading) (outer : List OpenContainer) → r.outer ≡ outer →
    is_unparted s.text ≡ true → Agrees s r → Agrees (record s { depth = s.depth - 1 }) (left outer r)
agrees-left s r [] e h is =
    let none : depth_of r.outer ≡ 0 = ap depth_of e in
    record {
      depth = ap (λ d. d - 1) (is.depth ∙ none) ∙ sym none;
      words = is.words;
      untold = is.untold;
      leaf = is.leaf;
      lined = is.lined;
      known = is.known;
      text =
          text-stays (shown r.outer r.here) (shown r.outer r.here) s.depth (s.depth - 1) s.lines s.lines s.text r.text h
          (λ same. same) is.text;
    }
agrees-left s r (around ∷ outer) e h is =
    let depth : s.depth ≡ depth_of outer + 1 = is.depth ∙ ap depth_of e in
    record {
      depth = omega (arith, depth);
      words = (subst (λ o. HaveWords o r.here) e is.words).1;
      untold = is.untold;
      leaf = is.leaf;
      lined = is.lined;
      known = is.known;
      text =
          text-stays (shown r.outer r.here)
          (shown outer (then_block around.before (block_around around.shape r.here))) s.depth
          (s.depth - 1) s.lines s.lines s.text r.text h
          (λ same. same ∙ ap (λ o. shown o r.here) e)
          is.text;
    }

-- a line ending opens no line of a leaf that an outline knows
agrees-line : (s : OutlineState) (r : Reading) → Agrees s r → Agrees s (on_leaf next_line r)
agrees-line s r is =
    let same = known-line r.leaf is.known in
    record {
      depth = is.depth;
      words = is.words;
      untold = is.untold;
      leaf = is.leaf ∙ sym same;
      lined = is.lined;
      known = subst KnowsOpen (sym same) is.known;
      text = is.text;
    }

pub agrees-ending : (bytes : List ℕ) (p : Point) (s : OutlineState) (r : Reading) → Agrees s r →
    Agrees (line_ended bytes p.index s.lined s.text s) (at_ending bytes p r.text r)
agrees-ending bytes p s r is =
    subst (λ lined. Agrees (line_ended bytes p.index lined s.text s) (at_ending bytes p r.text r)) (sym is.lined)
    (by-ending (Agrees s) bytes p r.text r is (agrees-line s r is))

-- a marker of a quote begins: where nothing in the innermost container is read yet, it may give a quote its kind
agrees-given : (bytes : List ℕ) (p : Point) (s : OutlineState) (r : Reading) (span : Option TextSpan)
    (text : Option Text) (leaf : Option OpenLeaf) (here : Blocks) → s.text ≡ span → r.text ≡ text → r.here ≡ here →
    TextIs (shown r.outer r.here) s.depth s.lines span text → Agrees s r →
    Agrees (marker_begun bytes p.index span leaf None s)
    (cond (is_before_blocks text leaf here)
    (record r { outer = on_shape (with_kind (kind_at bytes p.index)) r.outer }) r)
agrees-given bytes p s r None None None End span text here h is =
    let kind : Option AlertKind = kind_at bytes p.index in
    let outer : List OpenContainer = on_shape (with_kind kind) r.outer in
    let lines : kind_given kind s.depth s.lines ≡ shown outer r.here =
    ap (kind_given kind s.depth) h
    ∙ ap (λ d. kind_given kind d (shown r.outer r.here)) is.depth
    ∙ ap (λ b. kind_given kind (depth_of r.outer) (shown r.outer b)) here
    ∙ sym (given-shown kind r.outer)
    ∙ ap (shown outer) (sym here) in
    record {
      depth = is.depth ∙ sym (depth-renamed (with_kind kind) r.outer);
      words = kind-words kind r.outer r.here is.words;
      untold = is.untold;
      lined = is.lined;
      leaf = is.leaf;
      known = is.known;
      text =
          subst (λ x. TextIs (shown outer r.here) s.depth (kind_given kind s.depth s.lines) x r.text) (sym span)
          (subst (λ x. TextIs (shown outer r.here) s.depth (kind_given kind s.depth s.lines) None x) (sym text) lines);
    }
agrees-given bytes p s r None None None (More b bs) span text here h is =
    let kind : Option AlertKind = kind_at bytes p.index in
    let same : s.lines ≡ shown r.outer (More b bs) = h ∙ ap (shown r.outer) here in
    let lines : kind_given kind s.depth s.lines ≡ s.lines =
    ap (kind_given kind s.depth) same
    ∙ ap (λ d. kind_given kind d (shown r.outer (More b bs))) is.depth
    ∙ kept-shown kind r.outer b bs
    ∙ sym same in
    subst (λ all. Agrees (record s { lines = all }) r) (sym lines) is
agrees-given bytes p s r None None (Some leaf) here span text e h is = is
agrees-given bytes p s r (Some x) (Some y) leaf here span text e h is = is
agrees-given bytes p s r _ _ leaf here span text e h is = absurd h

pub agrees-quote_marker : (bytes : List ℕ) (p : Point) (s : OutlineState) (r : Reading) → Agrees s r →
    Agrees (state_enter bytes role.QuoteMarker p s) (read_enter bytes IsQuoteMarker p r)
agrees-quote_marker bytes p s r is =
    subst (λ lined. Agrees (marker_begun bytes p.index s.text s.leaf lined s) (read_enter bytes IsQuoteMarker p r))
    (sym is.lined)
    (subst (λ leaf. Agrees (marker_begun bytes p.index s.text leaf None s) (read_enter bytes IsQuoteMarker p r))
    (sym is.leaf)
    (agrees-given bytes p s r s.text r.text r.leaf r.here refl refl refl is.text is))

-- What is in no text that is parted.
pub apart : (bytes : List ℕ) (kind : Kind) (x : spelled.Role) (p : Point) (span : Option TextSpan) →
    ((t : TextSpan) → parts_by bytes kind x p (Some t) ≡ not t.is_parted) → parts_by bytes kind x p span ≡ true →
    is_unparted span ≡ true
apart bytes kind x p None by h = refl
apart bytes kind x p (Some span) by h = sym (by span) ∙ h

-- the step of one event, by what it means
pub agrees-begun : (p : Point) (s : OutlineState) (r : Reading) → is_unparted s.text ≡ true → Agrees s r →
    Agrees (record s { text = Some (record { from = byte_at p; is_parted = false }); spaces = columns_left p })
    (record r { text = Some (begun p) })
agrees-begun p s r k is = record {
  depth = is.depth;
  words = is.words;
  untold = is.untold;
  leaf = is.leaf;
  lined = is.lined;
  known = is.known;
  text = (refl, (text-lines (shown r.outer r.here) s.depth s.lines s.text r.text k is.text, refl));
}

-- a container begins
agrees-container : (bytes : List ℕ) (shape : Shape) (w : Word) (p : Point) (s : OutlineState) (r : Reading) →
    IsShownBy shape w → is_unparted s.text ≡ true → Agrees s r →
    Agrees (state_enter bytes (role.Container w) p s) (read_enter bytes (ContainerRole shape) p r)
agrees-container bytes shape w p s r by k is = record {
  depth = ap (λ d. d + 1) is.depth;
  words = (by.none, words-then r.outer r.here (block_around shape End) is.words);
  untold = is.untold;
  leaf = is.leaf;
  lined = is.lined;
  known = is.known;
  text =
      text-stays (shown r.outer r.here) (shown r.outer (then_block r.here (block_around shape End))) s.depth
      (s.depth + 1) s.lines (s.lines ++ container_lines s.depth w) s.text r.text
      k
      (λ same.
      ap (λ es. es ++ container_lines s.depth w) same
      ∙ ap (λ d. shown r.outer r.here ++ container_lines d w) is.depth
      ∙ ap (λ es. shown r.outer r.here ++ es) (sym (by.line (depth_of r.outer)))
      ∙ sym (shown-then r.outer r.here (block_around shape End) is.words))
      is.text;
}

-- a footnote definition without a label is shown as one begins
fresh-shown : (label : List ℕ) → label ≡ [] → IsShownBy (FootnoteShape label) word.Footnote
fresh-shown label fresh = record {
  line = λ depth. ap (λ l. block_entries depth (block_around (FootnoteShape l) End)) fresh;
  none = tt;
}

-- what an event that begins a part leaves, and one that ends a part but the label of a footnote definition
abbrev AgreesAfter : List ℕ → Point → spelled.Role → Role → Type 0
AgreesAfter bytes p x y =
    IsFresh x → (s : OutlineState) (r : Reading) → parts_by bytes Enter x p s.text ≡ true → Agrees s r →
    Agrees (state_enter bytes y p s) (read_enter bytes x p r)

agrees-enter : (bytes : List ℕ) (p : Point) → ByRole (AgreesAfter bytes p)
agrees-enter bytes p = record {
  container = λ shape w by fresh s r k is.
      agrees-container bytes shape w p s r by (apart bytes Enter (ContainerRole shape) p s.text (λ t. refl) k) is;
  footnote = λ label fresh s r k is.
      agrees-container bytes (FootnoteShape label) word.Footnote p s r (fresh-shown label fresh)
      (apart bytes Enter (ContainerRole (FootnoteShape label)) p s.text (λ t. refl) k) is;
  prefix = λ fresh s r k is. agrees-prefix bytes p s r s.text r.text refl is.text k is;
  begins = λ kind l by fresh s r k is.
      record {
        depth = is.depth;
        words = is.words;
        untold = is.untold;
        leaf = ap Some by.same;
        lined = is.lined;
        known = by.known;
        text = is.text;
      };
  block = λ x by fresh s r k is. agrees-begun p s r (apart bytes Enter (TextRole x) p s.text (λ t. refl) k) is;
  markers = λ fresh s r k is. agrees-begun p s r (apart bytes Enter (TextRole AsMarkers) p s.text (λ t. refl) k) is;
  digits = λ fresh s r k is. agrees-begun p s r (apart bytes Enter (TextRole AsDigits) p s.text (λ t. refl) k) is;
  marker = λ fresh s r k is. agrees-begun p s r (apart bytes Enter (TextRole AsItemMarker) p s.text (λ t. refl) k) is;
  label = λ fresh s r k is. agrees-begun p s r (apart bytes Enter (TextRole AsFootnoteLabel) p s.text (λ t. refl) k) is;
  ending = λ fresh s r k is. is;
  quote_marker = λ fresh s r k is. agrees-quote_marker bytes p s r is;
  quiet = λ fresh s r k is. is;
}

abbrev AgreesEnded : List ℕ → Point → spelled.Role → Role → Type 0
AgreesEnded bytes p x y =
    MayFollow bytes AllRecorded Exit x p → (s : OutlineState) (r : Reading) → parts_by bytes Exit x p s.text ≡ true →
    are_shallow (read_exit bytes x p r).here ≡ true → Agrees s r →
    Agrees (state_exit bytes y p s) (read_exit bytes x p r)

agrees-exit : (bytes : List ℕ) (p : Point) → ByRole (AgreesEnded bytes p)
agrees-exit bytes p = record {
  container = λ shape w by may s r k d is.
      agrees-left s r r.outer refl (apart bytes Exit (ContainerRole shape) p s.text (λ t. refl) k) is;
  footnote = λ label may s r k d is.
      agrees-left s r r.outer refl (apart bytes Exit (ContainerRole (FootnoteShape label)) p s.text (λ t. refl) k) is;
  prefix = λ may s r k d is. record {
    depth = is.depth;
    words = is.words;
    untold = is.untold;
    leaf = is.leaf;
    lined = is.lined;
    known = is.known;
    text = agrees-taken_prefixes p (shown r.outer r.here) s.depth s.lines s.text r.text is.text;
  };
  begins = λ kind l by may s r k d is.
      subst (λ leaf. Agrees (leaf_ended leaf s) (finished r.leaf r)) (sym is.leaf)
      (agrees-leaf s r r.leaf (apart bytes Exit (LeafRole kind) p s.text (λ t. refl) k) d is);
  block = λ x by may s r k d is. agrees-block bytes x p s r s.text r.text by is.text k is;
  markers = λ may s r k d is.
      agrees-markers bytes p s r s.text r.text is.text
      (apart bytes Exit (TextRole AsMarkers) p s.text (λ t. refl) k) is;
  digits = λ may s r k d is.
      agrees-digits bytes p s r s.text r.text is.text (apart bytes Exit (TextRole AsDigits) p s.text (λ t. refl) k) is;
  marker = λ may s r k d is.
      agrees-marker bytes p s r s.text r.text is.text
      (apart bytes Exit (TextRole AsItemMarker) p s.text (λ t. refl) k) is;
  label = λ may. absurd may;
  ending = λ may s r k d is. agrees-ending bytes p s r is;
  quote_marker = λ may s r k d is. is;
  quiet = λ may s r k d is. is;
}

-- one event
pub agrees-step : (bytes : List ℕ) (kind : Kind) (x : spelled.Role) (p : Point) (s : OutlineState) (r : Reading) →
    is_plain x ≡ true → IsFresh x → parts_by bytes kind x p s.text ≡ true →
    are_shallow (read_by bytes kind x p r).here ≡ true → MayFollow bytes AllRecorded kind x p → Agrees s r →
    Agrees (state_by bytes kind (shown_as x) p s) (read_by bytes kind x p r)
agrees-step bytes Enter x p s r h fresh k d may is =
    by-role (AgreesAfter bytes p) x (agrees-enter bytes p) h fresh s r k is
agrees-step bytes Exit x p s r h fresh k d may is =
    by-role (AgreesEnded bytes p) x (agrees-exit bytes p) h may s r k d is
