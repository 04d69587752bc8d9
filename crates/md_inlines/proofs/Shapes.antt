-- Forests as rows write them: each with what follows it.
use Rattle.std.specs.Prelude.{ℕ, Bool, true, false, if◌then◌else◌, ◌==◌}
use Rattle.md_engine.specs.declared.event.Name.{Name}
use Rattle.md_engine.specs.declared.event.Name.TheVariants as n
use Rattle.md_inline_events.specs.Forest.{Forest, nothing, over, part, piece}

abbrev pub end : Forest
end = nothing

abbrev pub text : ℕ → Forest → Forest
text len following = over n.Data len following

-- marks of so many bytes around a part
abbrev marks_around : Name → Name → Name → ℕ → Forest → Forest → Forest
marks_around whole mark inner len inside following =
    part whole (over mark len (part inner inside (over mark len nothing))) following

abbrev pub em : Forest → Forest → Forest
em inside following = marks_around n.Emphasis n.EmphasisSequence n.EmphasisText 1 inside following

abbrev pub strong : Forest → Forest → Forest
strong inside following = marks_around n.Strong n.StrongSequence n.StrongText 2 inside following

abbrev pub strike : ℕ → Forest → Forest → Forest
strike len inside following =
    marks_around n.GfmStrikethrough n.GfmStrikethroughSequence n.GfmStrikethroughText len inside following

abbrev pub escaped : Forest → Forest
escaped following =
    part n.CharacterEscape (piece n.CharacterEscapeMarker 0 (piece n.CharacterEscapeValue 0 nothing)) following

-- marks of so many bytes, and so many bytes between them
abbrev pub code_span : ℕ → ℕ → Forest → Forest
code_span size len following =
    part n.CodeText
    (over n.CodeTextSequence size (over n.CodeTextData len (over n.CodeTextSequence size nothing))) following

abbrev pub math_span : ℕ → ℕ → Forest → Forest
math_span size len following =
    part n.MathText
    (over n.MathTextSequence size (over n.MathTextData len (over n.MathTextSequence size nothing))) following

abbrev between_angles : Name → ℕ → Forest → Forest
between_angles name len following =
    part n.Autolink (piece n.AutolinkMarker 0 (over name len (piece n.AutolinkMarker 0 nothing))) following

abbrev pub uri : ℕ → Forest → Forest
uri len following = between_angles n.AutolinkProtocol len following

abbrev pub mail : ℕ → Forest → Forest
mail len following = between_angles n.AutolinkEmail len following

abbrev pub raw_html : ℕ → Forest → Forest
raw_html len following = part n.HtmlText (over n.HtmlTextData len nothing) following

abbrev pub literal : Name → ℕ → Forest → Forest
literal name len following = over name len following

abbrev pub backslash_break : Forest → Forest
backslash_break following = piece n.HardBreakEscape 0 following

abbrev pub trailing : ℕ → Forest → Forest
trailing len following = over n.SpaceOrTab len following

abbrev pub spaces_break : ℕ → Forest → Forest
spaces_break len following = over n.HardBreakTrailing len following

-- so many bytes of markers, and of the name or the number
abbrev pub char_ref : ℕ → ℕ → Forest → Forest
char_ref markers len following =
    part n.CharacterReference
    (piece n.CharacterReferenceMarker 0
    (over n.CharacterReferenceMarkerNumeric (if markers == 0 then 0 else 1)
    (over n.CharacterReferenceMarkerHexadecimal (if markers == 2 then 1 else 0)
    (over n.CharacterReferenceValue len (piece n.CharacterReferenceMarkerSemi 0 nothing)))))
    following

abbrev closing : Forest
closing = part n.LabelEnd (piece n.LabelMarker 0 nothing) nothing

-- the text of a link, and what it leads to
abbrev pub link_of : Forest → Forest → Forest → Forest
link_of inside leads following =
    part n.Link
    (part n.Label (part n.LabelLink (piece n.LabelMarker 0 nothing) (part n.LabelText inside closing)) leads) following

abbrev pub image_of : Forest → Forest → Forest → Forest
image_of inside leads following =
    part n.Image
    (part n.Label
    (part n.LabelImage (piece n.LabelImageMarker 0 (piece n.LabelMarker 0 nothing)) (part n.LabelText inside closing))
    leads)
    following

abbrev pub call_of : ℕ → Forest → Forest
call_of len following =
    part n.GfmFootnoteCall
    (part n.Label
    (part n.GfmFootnoteCallLabel (piece n.LabelMarker 0 (piece n.GfmFootnoteCallMarker 0 nothing))
    (part n.LabelText (over n.Data len nothing) closing))
    nothing)
    following

-- a title, and so much whitespace after it
abbrev pub titled : Forest → ℕ → Forest
titled inside after =
    part n.ResourceTitle
    (piece n.ResourceTitleMarker 0 (part n.ResourceTitleString inside (piece n.ResourceTitleMarker 0 nothing)))
    (over n.SpaceOrTab after nothing)

abbrev followed : Forest → Forest → Forest
followed nothing other = other
followed (piece name more following) other = piece name more (followed following other)
followed (part name inside following) other = part name inside (followed following other)

abbrev with_angles : Bool → Forest → Forest
with_angles false inside =
    part n.ResourceDestinationRaw (part n.ResourceDestinationString inside nothing) nothing
with_angles true inside =
    part n.ResourceDestinationLiteral
    (piece n.ResourceDestinationLiteralMarker 0
    (part n.ResourceDestinationString inside (piece n.ResourceDestinationLiteralMarker 0 nothing)))
    nothing

-- whitespace, a destination, whitespace, and perhaps a title
abbrev pub leads : ℕ → Bool → Forest → ℕ → Forest → Forest
leads before angles destination between title =
    part n.Resource
    (piece n.ResourceMarker 0
    (over n.SpaceOrTab before
    (part n.ResourceDestination (with_angles angles destination)
    (over n.SpaceOrTab between (followed title (piece n.ResourceMarker 0 nothing))))))
    nothing

-- a label in brackets of its own
abbrev pub refers : Forest → Forest
refers label =
    part n.Reference
    (piece n.ReferenceMarker 0 (part n.ReferenceString label (piece n.ReferenceMarker 0 nothing))) nothing

abbrev pub task : Name → Forest → Forest
task value following =
    part n.GfmTaskListItemCheck
    (piece n.GfmTaskListItemMarker 0 (piece value 0 (piece n.GfmTaskListItemMarker 0 nothing))) following
