-- A page of bytes.
use Rattle.std.specs.Prelude.{ℕ, List, take}
use Rattle.md_program.specs.declared.output.Page.{Page}

-- what is written on it
abbrev pub written_on : Page → List ℕ
written_on page = take page.written page.bytes.items
