-- The inline content of a text (CommonMark 6): the forest of all of it.
use Rattle.std.specs.Prelude.{ℕ, Bool, false, ◌&&◌, if◌then◌else◌, List, [], length, take, drop, slice_index}
use Rattle.std.specs.List.{list_any}
use Rattle.std.specs.Str.{bytes_eq}
use Rattle.md_engine.specs.declared.event.Name.TheVariants as n
use Rattle.md_meaning.specs.Label.{Labels, normal_form}
use Rattle.md_inline_events.specs.Forest.{Forest, nothing, part}
use Rattle.md_inlines.specs.Target.{lines}
use Rattle.md_inlines.specs.Task.{is_checked, is_task}
use Rattle.md_inlines.specs.declared.InlineOptions.{InlineOptions}
use Rattle.md_inlines.specs.Atoms.{byte, merged}
use Rattle.md_inlines.specs.Brackets as brackets
use Rattle.md_inlines.specs.Emails.{with_emails}
use Rattle.md_inlines.specs.Emphasis.{emphasis}

-- the check of a task item, with this byte between its brackets (GFM 5.3)
abbrev pub check : ℕ → Forest → Forest
check b following =
    part n.GfmTaskListItemCheck
    (byte n.GfmTaskListItemMarker
    (byte (if is_checked b then n.GfmTaskListItemValueChecked else n.GfmTaskListItemValueUnchecked)
    (byte n.GfmTaskListItemMarker nothing)))
    following

-- `is_definition` and `is_footnote` say which labels the document defines.
module _ (options : InlineOptions) (is_definition is_footnote : List ℕ → Bool) where
  -- the forest of a text after another
  abbrev pub forest_after : List ℕ → List ℕ → Forest
  forest_after before text =
      let read : Forest =
      merged
      (emphasis options.gfm_strikethrough_single_tilde
      (brackets.content options is_definition is_footnote (length text) false before text).items) in
      if options.constructs.gfm_autolink_literal then merged (with_emails before text read) else read

  -- the forest of a text; `first` says that it is that of the first paragraph of an item
  abbrev pub forest : Bool → List ℕ → Forest
  forest first text =
      if options.constructs.gfm_task_list_item && first && is_task text
      then check (slice_index text 1) (forest_after (take 3 text) (drop 3 text)) else forest_after [] text

-- whether a label has one of these normal forms
abbrev pub has_form : List (List ℕ) → List ℕ → Bool
has_form forms label = list_any (λ form. bytes_eq form (normal_form (lines label))) forms

-- The inline content of a text, in a document with these labels.
abbrev pub content : InlineOptions → Labels → Bool → List ℕ → Forest
content options labels first text =
    forest options (has_form labels.definitions) (has_form labels.footnotes) first text
