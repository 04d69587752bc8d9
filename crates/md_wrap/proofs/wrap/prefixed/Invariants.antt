use Rattle.std.proofs.Common.{◌≡◌, ◌++◌, length, string_bytes}
use denote.Text.{Utf8}
use denote.Shadow.{shadow}
use Rattle.std.specs.List.{concat}
use Rattle.md_meaning.specs.Lines.{full_lines_of}
use Rattle.md_meaning.specs.Wrapped.{prefixed}
use Rattle.md_wrap.proofs.wrap.prefixed.Given as goal

-- what is written, and the rest with its prefixes, are what is wanted
abbrev pub invariant-lines : goal.invariant-lines
invariant-lines l =
    shadow (Utf8 l.prefix) × shadow (Utf8 l.left)
    × (string_bytes l.wrapped ++ concat (prefixed l.prefix l.further (full_lines_of l.left)) ≡
    concat (prefixed l.first l.further (full_lines_of l.text)))

abbrev pub decreases-lines : goal.decreases-lines
decreases-lines l = length l.left
