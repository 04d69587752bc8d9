-- Leaf blocks of several lines as an outline can show them: each has its parts in the order of the grammar, and one
-- piece of text a line at the most. Frontmatter is such a leaf block, with the parts of fenced code but `info` and
-- `meta`. So are setext headings and definitions, of whose texts each line is one piece, and tables (`TableSpots`);
-- what is asked of an ATX heading is that container prefixes are before its text or after it. A line ending in a text
-- that an inline layer reads is a part of it, and may be anywhere there. A marker of a quote may be anywhere; in a leaf
-- block it changes nothing.
--
-- A walk over the events by their roles, which knows where in such a leaf block it is.
use Rattle.std.specs.Prelude.{◌≡◌, ◌==◌, ℕ, true, false, if◌then◌else◌, nat_lt, List, [], ◌∷◌, length, slice_range}
use Rattle.std.specs.Prelude.{Option, Some, None}
use Rattle.std.specs.List.{list_any}
use Rattle.md_engine.specs.declared.event.Event.{Event}
use Rattle.md_engine.specs.declared.event.Kind.{Kind}
use Rattle.md_engine.specs.declared.event.Kind.TheVariants.{Enter, Exit}
use Rattle.md_engine.specs.declared.event.Point.{Point}
use Rattle.md_meaning.specs.Lines.{is_ending}
use Rattle.md_meaning.specs.Texts.{first_byte}
use Rattle.md_events.specs.Events.Spelled.{AsCell, AsDelimiter, AsDestination, AsHeading, AsInfo, AsLabel, AsLine}
use Rattle.md_events.specs.Events.Spelled.{AsMarkers, AsMeta, AsTitle, IsCell, IsEnding, IsFence, IsPrefix, IsQuiet}
use Rattle.md_events.specs.Events.Spelled.{IsQuoteMarker, IsRow, IsTitle, LeafKind, OfCode, OfDefinition, OfFence}
use Rattle.md_events.specs.Events.Spelled.{OfFrontmatter, OfHeadingSetext, OfHtml, OfMath, OfTable, LeafRole, Purpose}
use Rattle.md_events.specs.Events.Spelled.{Role, TextRole, byte_at, role}
use Rattle.md_outline.specs.TablePlaces.{AtHead, MayBe, TablePlace, spot_by}

-- The parts of a definition that may have several lines.
pub data Part : Type 0 where
  LabelPart : Part
  TitlePart : Part

-- Which parts of a definition may come after its label: its destination, and its title.
pub data Left : Type 0 where
  DestinationLeft : Left
  TitleLeft : Left
  NoneLeft : Left

-- Where in a leaf block of several lines one is, with its kind.
pub data Site : Type 0 where
  -- in none
  Outside : Site
  -- before its markers, and in them, from this point on
  AtMarkers : LeafKind → Site
  InMarkers : LeafKind → Point → Site
  -- after them, in its first fence: before `info`, or after that, before `meta`
  AtInfo : LeafKind → Site
  AtMeta : LeafKind → Site
  -- in a text of this purpose
  InText : LeafKind → Purpose → Site
  -- on a line that has all it may have
  AtEnding : LeafKind → Site
  -- on a line that is empty yet
  AtLine : LeafKind → Site
  -- in a further fence, or after it, and in its markers
  AtEnd : LeafKind → Site
  InEnd : LeafKind → Site
  -- in a setext heading: before its text, in it, and after it
  AtTitle : Site
  InTitle : Site
  AfterTitle : Site
  -- in the markers of its underline, and after them
  InUnderline : Site
  AfterUnderline : Site
  -- in the text of an ATX heading
  InAtxText : Site
  -- in a definition, before its label
  AtLabel : Site
  -- in the text of such a part, which begins at this point: before the first prefix in it, and after that
  InPart : Part → Point → Site
  InParted : Part → Site
  -- after its label, its destination or its title
  AfterPart : Left → Site
  -- in its destination
  InDestination : Site
  -- in its title, before its text and after that
  AtTitleText : Site
  AfterTitleText : Site
  -- in a table
  InTable : TablePlace → Site

-- where a leaf block begins: indented code and HTML with a line
abbrev pub begun_site : LeafKind → Site
begun_site OfCode = AtLine OfCode
begun_site OfFence = AtMarkers OfFence
begun_site OfMath = AtMarkers OfMath
begun_site OfHtml = AtLine OfHtml
begun_site OfHeadingSetext = AtTitle
begun_site OfDefinition = AtLabel
begun_site OfTable = InTable AtHead
begun_site OfFrontmatter = AtMarkers OfFrontmatter
begun_site kind = Outside

-- after a line ending, which opens a line if the text continues
abbrev pub ending_site : List ℕ → Point → LeafKind → Site → Site
ending_site bytes p kind site = if nat_lt p.index (length bytes) then AtLine kind else site

abbrev pub text_site : LeafKind → Purpose → Site
text_site kind AsInfo = AtMeta kind
text_site kind _ = AtEnding kind

-- after the text of a part of a definition
abbrev pub part_site : Part → Site
part_site LabelPart = AfterPart DestinationLeft
part_site TitlePart = AfterTitleText

-- after an event in a table
abbrev pub table_site : Option TablePlace → Site
table_site None = Outside
table_site (Some spot) = InTable spot

-- where one is after an event
abbrev pub site_by : List ℕ → Site → Kind → Role → Point → Site
site_by bytes Outside Enter (LeafRole kind) p = begun_site kind
site_by bytes Outside Enter (TextRole AsHeading) p = InAtxText
site_by bytes (AtMarkers kind) Enter (TextRole AsMarkers) p = InMarkers kind p
site_by bytes (InMarkers kind q) Exit (TextRole AsMarkers) p = AtInfo kind
site_by bytes (AtInfo kind) Enter (TextRole purpose) p = InText kind purpose
site_by bytes (AtInfo kind) Exit IsFence p = AtEnding kind
site_by bytes (AtMeta kind) Enter (TextRole purpose) p = InText kind purpose
site_by bytes (AtMeta kind) Exit IsFence p = AtEnding kind
site_by bytes (InText kind purpose) Exit (TextRole x) p = text_site kind purpose
site_by bytes (AtEnding kind) Exit IsEnding p = ending_site bytes p kind (AtEnding kind)
site_by bytes (AtEnding kind) Exit (LeafRole x) p = Outside
site_by bytes (AtLine kind) Enter (TextRole AsLine) p = InText kind AsLine
site_by bytes (AtLine kind) Enter IsFence p = AtEnd kind
site_by bytes (AtLine kind) Exit (LeafRole x) p = Outside
site_by bytes (AtEnd kind) Enter (TextRole AsMarkers) p = InEnd kind
site_by bytes (AtEnd kind) Exit (LeafRole x) p = Outside
site_by bytes (InEnd kind) Exit (TextRole AsMarkers) p = AtEnd kind
site_by bytes AtTitle Enter (TextRole x) p = InTitle
site_by bytes InTitle Exit (TextRole x) p = AfterTitle
site_by bytes AfterTitle Enter (TextRole x) p = InUnderline
site_by bytes InUnderline Exit (TextRole x) p = AfterUnderline
site_by bytes AfterUnderline Exit (LeafRole x) p = Outside
site_by bytes InAtxText Exit (TextRole x) p = Outside
site_by bytes AtLabel Enter (TextRole x) p = InPart LabelPart p
site_by bytes (InPart part q) Enter IsPrefix p = InParted part
site_by bytes (InPart part q) Exit (TextRole x) p = part_site part
site_by bytes (InParted part) Exit (TextRole x) p = part_site part
site_by bytes (AfterPart left) Enter (TextRole x) p = InDestination
site_by bytes (AfterPart left) Enter IsTitle p = AtTitleText
site_by bytes (AfterPart left) Exit (LeafRole x) p = Outside
site_by bytes InDestination Exit (TextRole x) p = AfterPart TitleLeft
site_by bytes AtTitleText Enter (TextRole x) p = InPart TitlePart p
site_by bytes AtTitleText Exit IsTitle p = AfterPart NoneLeft
site_by bytes AfterTitleText Exit IsTitle p = AfterPart NoneLeft
site_by bytes (InTable spot) kind x p = table_site (spot_by spot kind x)
site_by bytes site kind x p = site

-- which leaf blocks have fences, and which an `info` and a `meta`
abbrev pub HasFences : LeafKind → Type 0
HasFences OfFence = Unit {0}
HasFences OfMath = Unit {0}
HasFences OfFrontmatter = Unit {0}
HasFences _ = ⊥

abbrev pub HasInfo : LeafKind → Type 0
HasInfo OfFence = Unit {0}
HasInfo _ = ⊥

abbrev pub HasMeta : LeafKind → Type 0
HasMeta OfFence = Unit {0}
HasMeta OfMath = Unit {0}
HasMeta _ = ⊥

-- a leaf block that is open ends as one of several lines
abbrev pub HasLines : LeafKind → Type 0
HasLines OfCode = Unit {0}
HasLines OfFence = Unit {0}
HasLines OfMath = Unit {0}
HasLines OfHtml = Unit {0}
HasLines OfFrontmatter = Unit {0}
HasLines _ = ⊥

-- a text ends as what it begins as
abbrev pub SameText : Purpose → Purpose → Type 0
SameText AsInfo AsInfo = Unit {0}
SameText AsMeta AsMeta = Unit {0}
SameText AsLine AsLine = Unit {0}
SameText _ _ = ⊥

-- such a text of a definition ends as what it begins as
abbrev pub IsOfPart : Part → Purpose → Type 0
IsOfPart LabelPart AsLabel = Unit {0}
IsOfPart TitlePart AsTitle = Unit {0}
IsOfPart _ _ = ⊥

-- what may come
abbrev pub MayHaveDestination : Left → Type 0
MayHaveDestination DestinationLeft = Unit {0}
MayHaveDestination _ = ⊥

abbrev pub MayHaveTitle : Left → Type 0
MayHaveTitle NoneLeft = ⊥
MayHaveTitle _ = Unit {0}

-- what may be there; no prefix is in the first line of a text of a definition
abbrev pub MayBeHere : List ℕ → Site → Kind → Role → Point → Type 0
MayBeHere bytes Outside Enter (LeafRole x) p = Unit {0}
MayBeHere bytes Outside Exit (LeafRole OfCode) p = ⊥
MayBeHere bytes Outside Exit (LeafRole OfFence) p = ⊥
MayBeHere bytes Outside Exit (LeafRole OfMath) p = ⊥
MayBeHere bytes Outside Exit (LeafRole OfHtml) p = ⊥
MayBeHere bytes Outside Exit (LeafRole OfHeadingSetext) p = ⊥
MayBeHere bytes Outside Exit (LeafRole OfDefinition) p = ⊥
MayBeHere bytes Outside Exit (LeafRole OfTable) p = ⊥
MayBeHere bytes Outside Exit (LeafRole OfFrontmatter) p = ⊥
MayBeHere bytes Outside Exit (TextRole AsHeading) p = ⊥
MayBeHere bytes Outside kind IsFence p = ⊥
MayBeHere bytes Outside kind IsTitle p = ⊥
MayBeHere bytes Outside kind IsRow p = ⊥
MayBeHere bytes Outside kind IsCell p = ⊥
MayBeHere bytes Outside kind (TextRole AsLine) p = ⊥
MayBeHere bytes Outside kind (TextRole AsInfo) p = ⊥
MayBeHere bytes Outside kind (TextRole AsMeta) p = ⊥
MayBeHere bytes Outside kind (TextRole AsLabel) p = ⊥
MayBeHere bytes Outside kind (TextRole AsDestination) p = ⊥
MayBeHere bytes Outside kind (TextRole AsTitle) p = ⊥
MayBeHere bytes Outside kind (TextRole AsCell) p = ⊥
MayBeHere bytes Outside kind (TextRole AsDelimiter) p = ⊥
MayBeHere bytes Outside kind x p = Unit {0}
MayBeHere bytes (InTable spot) kind x p = MayBe spot kind x
MayBeHere bytes site kind IsQuiet p = Unit {0}
MayBeHere bytes site kind IsQuoteMarker p = Unit {0}
MayBeHere bytes (AtMarkers kind) Enter IsFence p = Unit {0}
MayBeHere bytes (AtMarkers kind) Enter (TextRole AsMarkers) p = Unit {0}
MayBeHere bytes (InMarkers kind q) Exit (TextRole AsMarkers) p =
    (first_byte (slice_range bytes (byte_at q) p.index) == 0) ≡ false
MayBeHere bytes (AtInfo kind) Enter (TextRole AsInfo) p = HasInfo kind
MayBeHere bytes (AtInfo kind) Enter (TextRole AsMeta) p = HasMeta kind
MayBeHere bytes (AtInfo kind) Exit IsFence p = Unit {0}
MayBeHere bytes (AtMeta kind) Enter (TextRole AsMeta) p = Unit {0}
MayBeHere bytes (AtMeta kind) Exit IsFence p = Unit {0}
MayBeHere bytes (InText kind purpose) x IsEnding p = Unit {0}
MayBeHere bytes (InText kind purpose) Exit (TextRole x) p = SameText purpose x
MayBeHere bytes (AtEnding kind) x IsPrefix p = Unit {0}
MayBeHere bytes (AtEnding kind) x IsEnding p = Unit {0}
MayBeHere bytes (AtEnding kind) Exit IsFence p = Unit {0}
MayBeHere bytes (AtEnding kind) Exit (LeafRole x) p = HasLines x
MayBeHere bytes (AtLine kind) x IsPrefix p = Unit {0}
MayBeHere bytes (AtLine kind) x IsEnding p = Unit {0}
MayBeHere bytes (AtLine kind) Enter (TextRole AsLine) p = Unit {0}
MayBeHere bytes (AtLine kind) Enter IsFence p = HasFences kind
MayBeHere bytes (AtLine kind) Exit (LeafRole x) p = HasLines x
MayBeHere bytes (AtEnd kind) Enter (TextRole AsMarkers) p = Unit {0}
MayBeHere bytes (AtEnd kind) Exit IsFence p = Unit {0}
MayBeHere bytes (AtEnd kind) Exit (LeafRole x) p = HasLines x
MayBeHere bytes (InEnd kind) Exit (TextRole AsMarkers) p = Unit {0}
MayBeHere bytes AtTitle Enter (TextRole AsHeading) p = Unit {0}
MayBeHere bytes InTitle x IsPrefix p = Unit {0}
MayBeHere bytes InTitle x IsEnding p = Unit {0}
MayBeHere bytes InTitle Exit (TextRole AsHeading) p = Unit {0}
MayBeHere bytes AfterTitle x IsPrefix p = Unit {0}
MayBeHere bytes AfterTitle x IsEnding p = Unit {0}
MayBeHere bytes AfterTitle Enter (TextRole AsMarkers) p = Unit {0}
MayBeHere bytes InUnderline Exit (TextRole AsMarkers) p = Unit {0}
MayBeHere bytes AfterUnderline Exit (LeafRole OfHeadingSetext) p = Unit {0}
MayBeHere bytes InAtxText x IsEnding p = Unit {0}
MayBeHere bytes InAtxText Exit (TextRole AsHeading) p = Unit {0}
MayBeHere bytes AtLabel Enter (TextRole AsLabel) p = Unit {0}
MayBeHere bytes (InPart part q) Enter IsPrefix p = list_any is_ending (slice_range bytes (byte_at q) p.index) ≡ true
MayBeHere bytes (InPart part q) x IsEnding p = Unit {0}
MayBeHere bytes (InPart part q) Exit (TextRole x) p = IsOfPart part x
MayBeHere bytes (InParted part) x IsPrefix p = Unit {0}
MayBeHere bytes (InParted part) x IsEnding p = Unit {0}
MayBeHere bytes (InParted part) Exit (TextRole x) p = IsOfPart part x
MayBeHere bytes (AfterPart left) x IsPrefix p = Unit {0}
MayBeHere bytes (AfterPart left) x IsEnding p = Unit {0}
MayBeHere bytes (AfterPart left) Enter (TextRole AsDestination) p = MayHaveDestination left
MayBeHere bytes (AfterPart left) Enter IsTitle p = MayHaveTitle left
MayBeHere bytes (AfterPart left) Exit (LeafRole OfDefinition) p = Unit {0}
MayBeHere bytes InDestination x IsEnding p = Unit {0}
MayBeHere bytes InDestination Exit (TextRole AsDestination) p = Unit {0}
MayBeHere bytes AtTitleText Enter (TextRole AsTitle) p = Unit {0}
MayBeHere bytes AtTitleText Exit IsTitle p = Unit {0}
MayBeHere bytes AfterTitleText Exit IsTitle p = Unit {0}
MayBeHere bytes site kind x p = ⊥

-- whether leaf blocks of several lines have their parts so from here on, and end
abbrev pub LinesAllowed : List ℕ → Site → List Event → Type 0
LinesAllowed bytes Outside [] = Unit {0}
LinesAllowed bytes site [] = ⊥
LinesAllowed bytes site (e ∷ es) =
    MayBeHere bytes site e.kind (role e.name) e.point
    × LinesAllowed bytes (site_by bytes site e.kind (role e.name) e.point) es
