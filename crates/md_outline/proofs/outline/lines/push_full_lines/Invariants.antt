use Rattle.std.proofs.Common.{◌≡◌, ◌++◌, length}
use Rattle.std.specs.Str.{IsUtf8}
use Rattle.md_meaning.specs.Outline.{entries_of}
use Rattle.md_events.specs.Events.Places.{last_line}
use Rattle.md_meaning.specs.Texts.{split_lines}
use Rattle.md_outline.specs.TextLines.{full_as}
use Rattle.md_outline.proofs.outline.lines.push_full_lines.Given as goal

abbrev pub invariant-rest : goal.invariant-rest
invariant-rest l =
    IsUtf8 l.text → IsUtf8 l.left ×
    ((entries_of l.lines.items ++ full_as l.word l.depth l.left ≡
    entries_of l.initial.lines.items ++ full_as l.word l.depth l.text) ×
    (last_line (split_lines l.left) ≡ last_line (split_lines l.text)))

abbrev pub decreases-rest : goal.decreases-rest
decreases-rest l = length l.left
