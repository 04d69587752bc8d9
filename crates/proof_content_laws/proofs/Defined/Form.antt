-- A definition over its lines, part by part: its events, and where its parts are in the text.
use Rattle.std.proofs.Common.{◌≡◌, ◌≢◌, ℕ, ◌+◌, ◌≤◌, ◌⊎◌, List, [], ◌∷◌, ◌++◌, length, slice_range, true, false}
use Rattle.std.specs.Prelude.{Option, Some, None, option_map}
use Rattle.md_engine.specs.declared.event.Event.{Event}
use Rattle.md_engine.specs.declared.event.Name.TheVariants as n
use Rattle.md_engine.specs.declared.event.Point.{Point}
use Rattle.md_meaning.specs.Definition.{title_closer}
use Rattle.md_meaning.specs.Rest.{is_blank}
use Rattle.md_meaning.specs.Texts.{trim_further}
use Rattle.md_meaning.specs.Tree.{Block, Definition}
use Rattle.md_meaning.proofs.TextsLemmas.{NoEnding}
use Rattle.md_link_definitions.specs.Chunks.{string_link}
use Rattle.md_events.specs.declared.inline.Chunk.{Chunk}
use Rattle.md_events.specs.Events.Inline.{pair_unless_empty, plain_chunk}
use Rattle.md_events.specs.Events.Nested.{around, enter_link, exit, pair}
use Rattle.md_events.specs.Events.Places.{past_text}
use Rattle.proof_frame.proofs.FrontFacts.{LinePrefix}
use Rattle.proof_frame.proofs.PieceFacts.{CutsFirst}
use Rattle.md_events.proofs.FeedLines.{IsEnding}

-- A text over lines. Each line has its text, which a tab that a prefix has cut may begin, and its ending; after the
-- ending of one line are the prefixes of the containers, and then the next line begins.

pub data Strand : Type 0 where
  -- nothing is on the last line
  NoLine : Strand
  -- the last line, from a point to a point, with this text
  LastLine : (p q : Point) (text : List ℕ) → Strand
  -- a line from a point to its ending and after that, with this text, and prefixes up to where the next begins
  OneLine : (p e q r : Point) (text : List ℕ) (front : List Event) → Strand → Strand

-- before it is read: each line is a chunk with its ending
abbrev pub strand_unread : Strand → List Event
strand_unread NoLine = []
strand_unread (LastLine p q text) = enter_link n.Data p string_link ∷ exit n.Data q ∷ []
strand_unread (OneLine p e q r text front s) =
    enter_link n.Data p string_link ∷ exit n.Data q ∷ front ++ strand_unread s

-- once it is read
abbrev pub strand_done : List ℕ → Strand → List Event
strand_done bytes NoLine = []
strand_done bytes (LastLine p q text) = plain_chunk bytes (record { first = p; after = q })
strand_done bytes (OneLine p e q r text front s) =
    plain_chunk bytes (record { first = p; after = q }) ++ front ++ strand_done bytes s

-- its chunks
abbrev pub strand_chunks : Strand → List Chunk
strand_chunks NoLine = []
strand_chunks (LastLine p q text) = (record { first = p; after = q }) ∷ []
strand_chunks (OneLine p e q r text front s) = (record { first = p; after = q }) ∷ strand_chunks s

-- its lines, as they are
abbrev pub strand_lines : Strand → List (List ℕ)
strand_lines NoLine = [] ∷ []
strand_lines (LastLine p q text) = text ∷ []
strand_lines (OneLine p e q r text front s) = text ∷ strand_lines s

-- What is between two parts: whitespace, or whitespace with one line ending in it.
pub data Gap : Type 0 where
  OnLine : (p q : Point) → Gap
  -- whitespace up to the ending, the ending, prefixes, and whitespace after them
  OverLine : (p e q r s : Point) (front : List Event) → Gap

abbrev pub gap_events : Gap → List Event
gap_events (OnLine p q) = pair_unless_empty n.SpaceOrTab p q
gap_events (OverLine p e q r s front) =
    pair_unless_empty n.SpaceOrTab p e ++ pair n.LineEnding e q ++ front ++ pair_unless_empty n.SpaceOrTab r s

-- A destination.
pub data Target : Type 0 where
  -- from a point to a point, with this text
  Raw : (p q : Point) (text : List ℕ) → Target
  -- between angle brackets: where they are, and the text between them
  Literal : (p a b q : Point) (text : List ℕ) → Target

abbrev pub target_text : Target → List ℕ
target_text (Raw p q text) = text
target_text (Literal p a b q text) = text

-- a string part on one line
abbrev pub string_unread : Point → Point → List Event
string_unread p q =
    around n.DefinitionDestinationString p q (enter_link n.Data p string_link ∷ exit n.Data q ∷ [])

abbrev pub string_done : List ℕ → Point → Point → List Event
string_done bytes p q =
    around n.DefinitionDestinationString p q (plain_chunk bytes (record { first = p; after = q }))

-- left out if it is empty
abbrev pub unless_empty : List ℕ → List Event → List Event
unless_empty [] es = []
unless_empty (b ∷ bs) es = es

abbrev pub target_by : (Point → Point → List Event) → Target → List Event
target_by string (Raw p q text) =
    around n.DefinitionDestination p q (around n.DefinitionDestinationRaw p q (string p q))
target_by string (Literal p a b q text) =
    around n.DefinitionDestination p q
    (around n.DefinitionDestinationLiteral p q
    (pair n.DefinitionDestinationLiteralMarker p a ++ unless_empty text (string a b)
    ++ pair n.DefinitionDestinationLiteralMarker b q))

-- A title, with the gap before it: its marks, and the text between them, if there is one.
pub record Titled : Type 0 where
  pub gap : Gap
  pub p : Point
  pub a : Point
  pub b : Point
  pub q : Point
  pub opener : ℕ
  pub closer : ℕ
  pub text : Option Strand

abbrev pub string_of : (Strand → List Event) → Point → Point → Option Strand → List Event
string_of f p q None = []
string_of f p q (Some s) = around n.DefinitionTitleString p q (f s)

abbrev pub titled_by : (Strand → List Event) → Titled → List Event
titled_by f t =
    gap_events t.gap
    ++ around n.DefinitionTitle t.p t.q
    (pair n.DefinitionTitleMarker t.p t.a ++ string_of f t.a t.b t.text ++ pair n.DefinitionTitleMarker t.b t.q)

abbrev pub title_by : (Strand → List Event) → Option Titled → List Event
title_by f None = []
title_by f (Some t) = titled_by f t

abbrev pub text_lines : Option Strand → List (List ℕ)
text_lines None = [] ∷ []
text_lines (Some s) = trim_further (strand_lines s)

-- All of it: the indent from `first` to `p`, the label with its marks (from `p` to `a`, from `b` to `c`), the colon up
-- to `d`, a gap, a destination, perhaps a title, and whitespace from `e` to `last`.
pub record Form : Type 0 where
  pub first : Point
  pub p : Point
  pub a : Point
  pub b : Point
  pub c : Point
  pub d : Point
  pub e : Point
  pub last : Point
  pub label : Strand
  pub gap : Gap
  pub target : Target
  pub title : Option Titled

abbrev pub label_by : (Strand → List Event) → Form → List Event
label_by f x =
    around n.DefinitionLabel x.p x.c
    (pair n.DefinitionLabelMarker x.p x.a ++ around n.DefinitionLabelString x.a x.b (f x.label)
    ++ pair n.DefinitionLabelMarker x.b x.c)

-- what is in the definition
abbrev pub inside_by : (Strand → List Event) → (Point → Point → List Event) → Form → List Event
inside_by f string x =
    label_by f x ++ pair n.DefinitionMarker x.c x.d ++ gap_events x.gap ++ target_by string x.target
    ++ title_by f x.title
    ++ pair_unless_empty n.SpaceOrTab x.e x.last

abbrev pub form_by : (Strand → List Event) → (Point → Point → List Event) → Form → List Event
form_by f string x =
    pair_unless_empty n.SpaceOrTab x.first x.p ++ around n.Definition x.p x.last (inside_by f string x)

-- before its texts are read, and once they are
abbrev pub form_unread : Form → List Event
form_unread x = form_by strand_unread string_unread x

abbrev pub form_done : List ℕ → Form → List Event
form_done bytes x = form_by (strand_done bytes) (string_done bytes) x

-- its block
abbrev pub form_block : Form → Block
form_block x =
    Definition (trim_further (strand_lines x.label)) (target_text x.target)
    (option_map (λ (t : Titled). text_lines t.text) x.title)

-- Where it is.

-- a run of a line: this text from a point to a point
pub record IsRun (bytes text : List ℕ) (p q : Point) : Type 0 where
  pub no_ending : NoEnding text
  pub slice : slice_range bytes p.index q.index ≡ text
  pub size : q.index ≡ p.index + length text
  pub within : q.index ≤ length bytes
  pub end : q ≡ past_text text p
  pub column : 1 ≤ p.column
  pub whole : q.vs ≡ 0
  -- a tab that a prefix has cut is the first byte
  pub cut_first : CutsFirst p text

-- whitespace, or none
abbrev pub IsWhite : List ℕ → Point → Point → Type 0
IsWhite bytes p q = (p ≡ q) ⊎ ((text : List ℕ) × (some : text ≢ []) × (is_blank text ≡ true) × IsRun bytes text p q)

-- one byte that is no tab
abbrev pub IsByte : List ℕ → ℕ → Point → Point → Type 0
IsByte bytes b p q = (p.vs ≡ 0) × IsRun bytes (b ∷ []) p q

-- the ending of a line, and the prefixes of the next
pub record IsBreak (bytes : List ℕ) (e q r : Point) (front : List Event) : Type 0 where
  pub whole : e.vs ≡ 0
  pub ending : IsEnding bytes e q
  pub front_is : LinePrefix bytes [] q r front
  pub column : 1 ≤ r.column

-- a further line before an ending is not blank
abbrev pub IsFilled : Strand → Type 0
IsFilled (OneLine p e q r text front s) = is_blank text ≡ false
IsFilled s = Unit {0}

-- A text from a point to a point. Nothing may be on its last line, unless that is its only one; its first line may be
-- blank before its ending, and no further one.
abbrev pub IsStrand : List ℕ → Point → Point → Strand → Type 0
IsStrand bytes p q NoLine = ⊥
IsStrand bytes p q (LastLine a b text) = (first : a ≡ p) × (last : b ≡ q) × (some : text ≢ []) × IsRun bytes text p q
IsStrand bytes p q (OneLine a e b r text front NoLine) =
    (first : a ≡ p) × (line : IsRun bytes text p e) × (break : IsBreak bytes e b r front) × (r ≡ q) × (q.vs ≡ 0)
IsStrand bytes p q (OneLine a e b r text front s) =
    (first : a ≡ p) × (line : IsRun bytes text p e) × (break : IsBreak bytes e b r front) × (filled : IsFilled s)
    × IsStrand bytes r q s

abbrev pub IsGap : List ℕ → Point → Point → Gap → Type 0
IsGap bytes p q (OnLine a b) = (first : a ≡ p) × (last : b ≡ q) × IsWhite bytes p q
IsGap bytes p q (OverLine a e b r s front) =
    (first : a ≡ p) × (white : IsWhite bytes p e) × (break : IsBreak bytes e b r front) × (more : IsWhite bytes r s)
    × (s ≡ q) × (q.vs ≡ 0)

abbrev pub IsTarget : List ℕ → Point → Point → Target → Type 0
IsTarget bytes p q (Raw a b text) =
    (first : a ≡ p) × (last : b ≡ q) × (p.vs ≡ 0) × (some : text ≢ []) × IsRun bytes text p q
IsTarget bytes p q (Literal x a b y text) =
    (first : x ≡ p) × (last : y ≡ q) × (opener : IsByte bytes 60 p a) × (inside : IsRun bytes text a b)
    × IsByte bytes 62 b q

abbrev pub IsText : List ℕ → Point → Point → Option Strand → Type 0
IsText bytes p q None = p ≡ q
IsText bytes p q (Some s) = IsStrand bytes p q s

pub record IsTitled (bytes : List ℕ) (p q : Point) (t : Titled) : Type 0 where
  pub gap : IsGap bytes p t.p t.gap
  pub opens : IsByte bytes t.opener t.p t.a
  pub closer_is : title_closer t.opener ≡ Some t.closer
  pub inside : IsText bytes t.a t.b t.text
  pub closes : IsByte bytes t.closer t.b t.q
  pub last : t.q ≡ q

abbrev pub IsTitle : List ℕ → Point → Point → Option Titled → Type 0
IsTitle bytes p q None = p ≡ q
IsTitle bytes p q (Some t) = IsTitled bytes p q t

-- A definition from a point to a point, with the places where its gap and its title begin.
pub record IsForm (bytes : List ℕ) (x : Form) (following_gap after_target : Point) : Type 0 where
  pub column : 1 ≤ x.first.column
  pub indent : IsWhite bytes x.first x.p
  pub opens : IsByte bytes 91 x.p x.a
  pub label : IsStrand bytes x.a x.b x.label
  pub closes : IsByte bytes 93 x.b x.c
  pub colon : IsByte bytes 58 x.c x.d
  pub gap : IsGap bytes x.d following_gap x.gap
  pub target : IsTarget bytes following_gap after_target x.target
  pub title : IsTitle bytes after_target x.e x.title
  pub white : IsWhite bytes x.e x.last
