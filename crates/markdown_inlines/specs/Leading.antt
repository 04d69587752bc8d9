-- What a link or an image leads to, as a reader has it.
use Rattle.std.specs.Prelude.{◌≡◌, ℕ, ◌+◌, ◌-◌, ◌==◌, Bool, true, false}
use Rattle.std.specs.Prelude.{if◌then◌else◌, List, [], length, take, drop, Option, None}
use Rattle.md_engine.specs.declared.event.Name.TheVariants as n
use Rattle.md_meaning.specs.Ascii.{left_bracket}
use Rattle.md_meaning.specs.Lines.{begins_with}
use Rattle.md_inline_events.specs.Forest.{Forest, nothing, part}
use Rattle.md_inlines.specs.Atoms.{byte, is_data}
use Rattle.md_inlines.specs.Target.{label_len}
use Rattle.md_inlines.specs.Targets.{reference, resource, string, title_part}
use Rattle.md_inlines.specs.declared.InlineOptions.{InlineOptions}
use Rattle.md_inlines.specs.declared.Resource.{Resource}
use Rattle.markdown_inlines.specs.declared.target.Quotes.{Quotes}
use Rattle.markdown_inlines.specs.declared.target.Target.{Target}
use Rattle.markdown_inlines.specs.declared.target.Target.TheVariants as t

-- the forest of what follows a pair of brackets
abbrev pub leads : InlineOptions → List ℕ → Target → Forest
leads options after (t.Resource r) = resource options after r
leads options after (t.Full len) = reference options (take len (drop 1 after))
leads options after t.Collapsed = reference options []
leads options after t.Shortcut = nothing

-- how many bytes the label has whose `[` is first in a text
abbrev pub label_after : List ℕ → Option ℕ
label_after text = if begins_with left_bracket text then label_len (drop 1 text) else None

-- without the first and the last byte
abbrev pub inner : List ℕ → List ℕ
inner text = take (length text - 2) (drop 1 text)

-- a string between two marks
abbrev pub within_quotes : InlineOptions → Quotes → List ℕ → Forest
within_quotes options names inside =
    byte names.mark (part names.string (string options inside) (byte names.mark nothing))

abbrev pub quoted : InlineOptions → Quotes → List ℕ → Forest
quoted options names inside = part names.whole (within_quotes options names inside) nothing

-- marks are no text
abbrev pub is_named : Quotes → Type 0
is_named names = is_data names.mark ≡ false

-- how many bytes a destination is over
abbrev pub destination_len : Bool → List ℕ → ℕ
destination_len true text = length (inner text) + 2
destination_len false text = length text

-- the title of a resource, where there is one, whitespace, and the `)`
abbrev pub ending : InlineOptions → Resource → List ℕ → Forest
ending options r text = title_part options r text (byte n.ResourceMarker nothing)

abbrev pub ending_len : Resource → List ℕ → ℕ
ending_len r text = if r.title == 0 then 1 else length (inner (take r.title text)) + 2 + r.after + 1
