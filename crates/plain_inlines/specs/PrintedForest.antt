-- The printed form of a forest: a line for each part and each piece, after two spaces for each part around it.
use Rattle.std.specs.Prelude.{◌≡◌, ℕ, suc, ◌+◌, ◌==◌, if◌then◌else◌, List, [], ◌∷◌, ◌++◌, take, drop, codes}
use Rattle.std.specs.List.{flat_map, repeat}
use Rattle.std.specs.Str.Lossy.{utf8_lossy}
use Rattle.md_engine.specs.declared.configuration.ParseOptions.{ParseOptions}
use Rattle.md_engine.specs.declared.event.Name.{Name}
use Rattle.md_events.specs.Events.Names.{name_text}
use Rattle.md_meaning.specs.Ascii.{line_feed}
use Rattle.md_inline_events.specs.Forest.{Forest, nothing, part, piece, size}
use Rattle.md_inlines.specs.Content.{content}
use Rattle.md_inlines.specs.Target.{lines}
use Rattle.md_inlines.specs.declared.InlineOptions.{InlineOptions}
use Rattle.md_program.specs.Printed.{line_end}
use Rattle.plain_inlines.specs.Given.{further_in, inline_options, is_first, labels_of, text_in}

-- a byte of a piece: after a line ending the piece continues on a line of its own
abbrev pub shown_byte : ℕ → ℕ → List ℕ
shown_byte depth b = if b == line_feed then line_end ++ repeat depth (codes "  ") ++ codes "| " else b ∷ []

-- a part: its name
abbrev pub part_line : ℕ → Name → List ℕ
part_line depth name = repeat depth (codes "  ") ++ name_text name ++ line_end

-- a piece: its name, and the bytes that it is over
abbrev pub piece_line : ℕ → Name → List ℕ → List ℕ
piece_line depth name text =
    repeat depth (codes "  ") ++ name_text name ++ codes " | " ++ flat_map (shown_byte depth) text ++ line_end

-- a forest at the front of a text, in so many parts
abbrev pub printed : ℕ → List ℕ → Forest → List ℕ
printed depth text nothing = []
printed depth text (piece name more following) =
    piece_line depth name (take (suc more) text) ++ printed depth (drop (suc more) text) following
printed depth text (part name inside following) =
    part_line depth name ++ printed (depth + 1) text inside ++ printed depth (drop (size inside) text) following

-- as text: where it is no UTF-8, replacement characters are in the place of what is not
abbrev pub shown : List ℕ → Forest → List ℕ
shown text forest = utf8_lossy (printed 0 text forest)

-- the inline content of a text that is in what these lines say
abbrev pub content_of : InlineOptions → List (List ℕ) → List ℕ → Forest
content_of options more text = content options (labels_of more) (is_first more) text

-- What is printed of an input: the inline content of its text, by the definition.
abbrev pub PrintsInlines : List ℕ → ParseOptions → List ℕ → Type 0
PrintsInlines input options bytes =
    let more : List (List ℕ) = lines (further_in input) in
    let text : List ℕ = text_in input in
    bytes ≡ shown text (content_of (inline_options options more) more text)
