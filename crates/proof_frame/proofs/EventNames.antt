-- Tables of names of events, and of the roles that they have: which are before a line, which in a leaf of several
-- lines, which in neither, and that names of one table are in another, or in none of those by which resolvers ask.
--
-- Here, where containers are listed (`ContainerNames`), and where leaves are (`LeafName`, `HeldNames`), the frame names
-- constructs, and nowhere else. Of what a construct does these tables say nothing.
use Rattle.std.proofs.Common.{◌≡◌, Bool, true, false, cond, ◌&&◌, not, refl}
use Rattle.md_engine.specs.declared.event.Name.{Name}
use Rattle.md_engine.specs.declared.event.Name.TheVariants as n
use Rattle.md_containers.specs.ItemsAllowed.{IsPart}
use Rattle.md_containers.specs.Unlisted.{in_place}
use Rattle.md_content.specs.Joined.{is_content}
use Rattle.md_content.specs.Labels.{is_label}
use Rattle.md_leaves.specs.HeadingText.{is_heading}
use Rattle.md_leaves.specs.declared.spans.Place.TheVariants.{Outside}
use Rattle.md_leaves.specs.Spanned.{has_lines, is_renamed}
use Rattle.md_leaves.specs.Turned.{is_paragraph, is_underline}
use Rattle.md_order.specs.Alone.{Nothing, opened_by}
use Rattle.md_outline.specs.LinesAllowed.{HasLines}
use Rattle.md_outline.specs.Roles.{is_plain, is_unlisted}
use Rattle.md_events.specs.Events.Prefix.{is_prefix}
use Rattle.md_events.specs.Events.Spelled.{AsCell, AsDelimiter, AsDestination, AsHeading, AsInfo, AsLabel, AsLine}
use Rattle.md_events.specs.Events.Spelled.{AsMeta, AsTitle, ContainerRole, IsCell, IsFence, IsRow, IsTitle, LeafKind}
use Rattle.md_events.specs.Events.Spelled.{LeafRole, OfCode, OfDefinition, OfFence, OfFrontmatter, OfHeadingSetext}
use Rattle.md_events.specs.Events.Spelled.{OfHtml, OfMath, OfTable, Role, TextRole, role}

-- Content, and what is said of it.

abbrev pub is_recorded : Name → Bool
is_recorded n.Content = true
is_recorded n.DefinitionLabelString = true
is_recorded _ = false

pub recorded-content : (name : Name) → is_recorded name ≡ false → is_content name ≡ false
recorded-content n.Content h = cc
recorded-content _ h = refl

pub recorded-label : (name : Name) → is_recorded name ≡ false → is_label name ≡ false
recorded-label n.DefinitionLabelString h = cc
recorded-label _ h = refl

-- Parts that a resolver rewrites where they begin.

abbrev pub is_own : Name → Bool
is_own name = is_heading name

-- Before a line: prefixes and containers, and what they show where they open.

abbrev pub is_front : Name → Bool
is_front n.BlockQuote = true
is_front n.ListItem = true
is_front n.ListItemPrefix = true
is_front n.ListItemValue = true
is_front n.ListItemMarker = true
is_front n.GfmFootnoteDefinition = true
is_front n.GfmFootnoteDefinitionPrefix = true
is_front n.GfmFootnoteDefinitionLabel = true
is_front n.GfmFootnoteDefinitionLabelMarker = true
is_front n.GfmFootnoteDefinitionMarker = true
is_front n.GfmFootnoteDefinitionLabelString = true
is_front n.DefinitionMarker = true
is_front n.Data = true
is_front name = is_prefix name

pub front-name : (name : Name) → is_prefix name ≡ true → is_front name ≡ true
front-name n.Data h = cc
front-name _ h = cc

pub front-content : (name : Name) → is_front name ≡ true → is_recorded name ≡ false
front-content n.Content h = cc
front-content n.DefinitionLabelString h = cc
front-content _ h = refl

pub front-opens : (name : Name) → is_front name ≡ true → opened_by name ≡ Nothing
front-opens n.HeadingAtx h = cc
front-opens n.Paragraph h = cc
front-opens n.HeadingSetextUnderline h = cc
front-opens n.GfmTable h = cc
front-opens n.LineEnding h = cc
front-opens _ h = refl

pub front-unspanned : (name : Name) → is_front name ≡ true →
    (not (has_lines (role name)) && not (is_renamed Outside name)) ≡ true
front-unspanned n.CodeIndented h = cc
front-unspanned n.CodeFenced h = cc
front-unspanned n.MathFlow h = cc
front-unspanned n.HtmlFlow h = cc
front-unspanned n.GfmTable h = cc
front-unspanned n.CodeFlowChunk h = cc
front-unspanned _ h = refl

pub front-unturned : (name : Name) → is_front name ≡ true →
    cond (is_paragraph name) false (cond (is_underline name) false true) ≡ true
front-unturned n.Paragraph h = cc
front-unturned n.HeadingSetextUnderline h = cc
front-unturned _ h = refl

-- In a leaf of several lines: none of a leaf of another kind, none of lines that are set into cells, and no ending.

abbrev pub is_lined : Name → Bool
is_lined n.HeadingAtx = false
is_lined n.Paragraph = false
is_lined n.HeadingSetextUnderline = false
is_lined n.GfmTable = false
is_lined n.GfmTableRow = false
is_lined n.GfmTableDelimiterRow = false
is_lined n.LineEnding = false
is_lined _ = true

pub prefix-named : (name : Name) → is_prefix name ≡ true → is_lined name ≡ true
prefix-named n.SpaceOrTab h = refl
prefix-named _ h = cc

pub lined-own : (name : Name) → is_lined name ≡ true → is_own name ≡ false
lined-own n.HeadingAtx h = cc
lined-own _ h = refl

pub lined-passes : (name : Name) → is_lined name ≡ true →
    cond (is_paragraph name) false (cond (is_underline name) false true) ≡ true
lined-passes n.Paragraph h = cc
lined-passes n.HeadingSetextUnderline h = cc
lined-passes _ h = refl

pub lined-opened : (name : Name) → is_lined name ≡ true → opened_by name ≡ Nothing
lined-opened n.HeadingAtx h = cc
lined-opened n.Paragraph h = cc
lined-opened n.HeadingSetextUnderline h = cc
lined-opened n.GfmTable h = cc
lined-opened n.LineEnding h = cc
lined-opened _ h = refl

-- Names of no container: none is one around which, or in whose place, another is put.

abbrev pub NoContainer : Role → Type 0
NoContainer (ContainerRole shape) = ⊥
NoContainer _ = Unit {0}

pub name-unlisted : (name : Name) → NoContainer (role name) → in_place name ≡ name
name-unlisted n.ListItem h = absurd h
name-unlisted n.ListOrdered h = absurd h
name-unlisted n.ListUnordered h = absurd h
name-unlisted _ h = refl

-- so it is with each part of a leaf
pub part-no_container : (x : Role) → IsPart x → NoContainer x
part-no_container (ContainerRole shape) h = absurd h
part-no_container _ h = tt

-- Roles: one that is plain is shown, and of nothing that is put around others,

pub unlisted-plain : (x : Role) → is_plain x ≡ true → is_unlisted x ≡ true
unlisted-plain (LeafRole OfCode) h = refl
unlisted-plain (LeafRole OfFence) h = refl
unlisted-plain (LeafRole OfMath) h = refl
unlisted-plain (LeafRole OfHtml) h = refl
unlisted-plain (LeafRole OfHeadingSetext) h = refl
unlisted-plain (LeafRole OfDefinition) h = refl
unlisted-plain (LeafRole OfTable) h = refl
unlisted-plain (LeafRole OfFrontmatter) h = refl
unlisted-plain IsFence h = refl
unlisted-plain IsTitle h = refl
unlisted-plain IsRow h = refl
unlisted-plain IsCell h = refl
unlisted-plain (TextRole AsLine) h = refl
unlisted-plain (TextRole AsInfo) h = refl
unlisted-plain (TextRole AsMeta) h = refl
unlisted-plain (TextRole AsHeading) h = refl
unlisted-plain (TextRole AsLabel) h = refl
unlisted-plain (TextRole AsDestination) h = refl
unlisted-plain (TextRole AsTitle) h = refl
unlisted-plain (TextRole AsCell) h = refl
unlisted-plain (TextRole AsDelimiter) h = refl
unlisted-plain x h = h

-- and so is that of a leaf that is shown by its lines.

pub lined-known : (kind : LeafKind) → HasLines kind → is_unlisted (LeafRole kind) ≡ true
lined-known OfCode lined = refl
lined-known OfFence lined = refl
lined-known OfMath lined = refl
lined-known OfHtml lined = refl
lined-known OfFrontmatter lined = refl
lined-known _ lined = absurd lined
