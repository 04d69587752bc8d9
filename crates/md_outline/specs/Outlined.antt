-- What an outline shows: the blocks that events of the roles that it knows (`is_shown`) spell out.
use Rattle.std.specs.Prelude.{◌≡◌, ℕ, Bool, true, false, ◌||◌, ◌&&◌, not, if◌then◌else◌, List, [], ◌∷◌, slice_range}
use Rattle.std.specs.Prelude.{Option, Some, None, option_map}
use Rattle.std.specs.List.{list_all}
use Rattle.std.specs.Str.{IsUtf8}
use Rattle.md_engine.specs.declared.event.Event.{Event}
use Rattle.md_engine.specs.declared.event.Kind.{Kind}
use Rattle.md_engine.specs.declared.event.Kind.TheVariants.{Enter, Exit}
use Rattle.md_engine.specs.declared.event.Point.{Point}
use Rattle.md_meaning.specs.declared.outline.OutlineLine.{OutlineLine}
use Rattle.md_meaning.specs.Lines.{begins_with}
use Rattle.md_events.specs.Events.Nested.{Balanced}
use Rattle.md_meaning.specs.Outline.{entries_of, outline}
use Rattle.md_events.specs.Events.Places.{last_line}
use Rattle.md_meaning.specs.Rest.{is_blank}
use Rattle.md_events.specs.Events.Spelled.{IsEnding, IsPrefix, IsQuiet, IsQuoteMarker, LeafRole, Role, TextRole}
use Rattle.md_events.specs.Events.Spelled.{byte_at, role, spelled}
use Rattle.md_meaning.specs.Texts.{split_lines}
use Rattle.md_outline.specs.Between.{is_between}
use Rattle.md_outline.specs.HeadingDepths.{are_shallow}
use Rattle.md_outline.specs.ListsBegin.{AllRecorded, ListsBegin}
use Rattle.md_outline.specs.LinesAllowed.{LinesAllowed, Outside}
use Rattle.md_outline.specs.Roles.{has_lines, is_seen, is_shown, is_recorded, is_unlisted, may_part, shown_as}
use Rattle.md_outline.specs.declared.outline.TextSpan.{TextSpan}

-- whether an event is of such a block, or of what the tree does not show
abbrev pub has_shown_name : Event → Bool
has_shown_name e = is_shown (role e.name)

-- and of no list (`is_unlisted`)
abbrev pub has_unlisted_name : Event → Bool
has_unlisted_name e = is_unlisted (role e.name)

-- Whether an event is between characters if the tree reads where (`is_seen`). The others may be anywhere: an inline
-- layer may cut a text as it likes.
abbrev pub is_between_characters : List ℕ → Event → Bool
is_between_characters bytes e = not (is_seen (shown_as (role e.name))) || is_between bytes e.point.index

-- whether a text begins between characters here, after a tab that is cut
abbrev pub text_begins_between : List ℕ → Event → Bool
text_begins_between bytes e = not (is_recorded (role e.name)) || is_between bytes (byte_at e.point)

-- Container prefixes in a text: they part it into pieces, which an outline shows one by one. So each line of the text
-- has to lie in one piece.

-- a text that is read, as other crates can name it
abbrev pub OpenTextSpan : Type 0
OpenTextSpan = TextSpan

-- the text that is read after an event: where it begins, or continues after the last prefix in it, and whether there is
-- one
abbrev pub span_enter : Role → Point → Option TextSpan → Option TextSpan
span_enter (TextRole purpose) p text = Some (record { from = byte_at p; is_parted = false })
span_enter IsPrefix p text = option_map (λ (t : TextSpan). record t { is_parted = true }) text
span_enter _ p text = text

abbrev pub span_exit : Role → Point → Option TextSpan → Option TextSpan
span_exit (TextRole purpose) p text = None
span_exit IsPrefix p text = option_map (λ (t : TextSpan). record t { from = byte_at p }) text
span_exit _ p text = text

abbrev pub span_by : Kind → Role → Point → Option TextSpan → Option TextSpan
span_by Enter x p text = span_enter x p text
span_by Exit x p text = span_exit x p text

-- the piece of a text that ends at a point
abbrev pub piece_to : List ℕ → Point → TextSpan → List ℕ
piece_to bytes p text = slice_range bytes text.from p.index

-- whether a piece is the first, or begins with no line feed: one after a carriage return would end the same line
abbrev pub begins_line : TextSpan → List ℕ → Bool
begins_line text piece = not text.is_parted || not (begins_with 10 piece)

-- whether no text is read that has a prefix in it
abbrev pub is_unparted : Option TextSpan → Bool
is_unparted None = true
is_unparted (Some text) = not text.is_parted

-- whether an event may be in a text: a prefix begins where a line does, with nothing but spaces and tabs before it, and
-- ends between characters; no text is parted but one that is a block, the text of a heading, or the label or title of a
-- definition, and from its first prefix to its end nothing else begins or ends that the tree shows; and no leaf block
-- of several lines begins in a text
abbrev pub parts_enter : List ℕ → Role → Point → TextSpan → Bool
parts_enter bytes IsPrefix p text =
    begins_line text (piece_to bytes p text) && is_blank (last_line (split_lines (piece_to bytes p text)))
parts_enter bytes IsEnding p text = true
parts_enter bytes IsQuoteMarker p text = true
parts_enter bytes IsQuiet p text = true
parts_enter bytes (LeafRole kind) p text = not (has_lines kind) && not text.is_parted
parts_enter bytes _ p text = not text.is_parted

abbrev pub parts_exit : List ℕ → Role → Point → TextSpan → Bool
parts_exit bytes IsPrefix p text = is_between bytes (byte_at p)
parts_exit bytes (TextRole x) p text =
    if may_part x then begins_line text (piece_to bytes p text) else not text.is_parted
parts_exit bytes IsEnding p text = true
parts_exit bytes IsQuoteMarker p text = true
parts_exit bytes IsQuiet p text = true
parts_exit bytes _ p text = not text.is_parted

abbrev pub parts_by : List ℕ → Kind → Role → Point → Option TextSpan → Bool
parts_by bytes kind x p None = true
parts_by bytes Enter x p (Some text) = parts_enter bytes x p text
parts_by bytes Exit x p (Some text) = parts_exit bytes x p text

-- whether all these events do, with this text read before them, and each text that is parted ends
abbrev pub are_parted : List ℕ → Option TextSpan → List Event → Bool
are_parted bytes text [] = is_unparted text
are_parted bytes text (e ∷ es) =
    parts_by bytes e.kind (role e.name) e.point text && are_parted bytes (span_by e.kind (role e.name) e.point text) es

-- events of such roles but lists, between characters of a text
pub record IsUnlisted (events : List Event) (bytes : List ℕ) : Type 0 where
  pub names : list_all has_unlisted_name events ≡ true
  pub text : IsUtf8 bytes
  pub between : list_all (λ (e : Event). is_between bytes e.point.index) events ≡ true
  pub texts : list_all (text_begins_between bytes) events ≡ true
  -- each container prefix in a text is where a line begins
  pub parted : are_parted bytes None events ≡ true
  -- each leaf block of several lines has its parts in the order of the grammar
  pub lines : LinesAllowed bytes Outside events

-- events of all such roles, whatever an inline layer has made of the text parts
pub record IsOutlined (events : List Event) (bytes : List ℕ) : Type 0 where
  -- so each container that begins ends
  pub balanced : Balanced events
  pub names : list_all has_shown_name events ≡ true
  pub text : IsUtf8 bytes
  pub between : list_all (is_between_characters bytes) events ≡ true
  pub texts : list_all (text_begins_between bytes) events ≡ true
  -- each container prefix in a text is where a line begins
  pub parted : are_parted bytes None events ≡ true
  -- each list begins with an item that begins with its marker
  pub lists : ListsBegin bytes AllRecorded events
  -- each leaf block of several lines has its parts in the order of the grammar
  pub lines : LinesAllowed bytes Outside events
  pub depths : are_shallow (spelled events bytes) ≡ true

-- the lines are those of the tree that the events spell out
abbrev pub Outlines : List Event → List ℕ → List OutlineLine → Type 0
Outlines events bytes lines = IsOutlined events bytes → entries_of lines ≡ outline 0 (spelled events bytes)
