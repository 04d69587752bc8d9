-- The rest of a line: what no prefix has taken (CommonMark 2.2).
use Rattle.std.specs.Prelude.{ℕ, zero, suc, ◌+◌, ◌-◌, ◌%◌, Bool, true, ◌||◌, ◌==◌, not, nat_le, if◌then◌else◌, List, []}
use Rattle.std.specs.Prelude.{◌∷◌, length, take, drop}
use Rattle.std.specs.List.{list_all, prefix_len, suffix_len}
use Rattle.md_engine.specs.declared.configuration.ParseOptions.{ParseOptions}
use Rattle.md_meaning.specs.Tree.{Line}
use Rattle.md_meaning.specs.Ascii.{space, tab}

-- the column from 0 at which it begins, the virtual spaces there (columns left of a cut tab), and the bytes after them
pub record Rest : Type 0 where
  pub column : ℕ
  pub spaces : ℕ
  pub bytes : List ℕ

-- a space or a tab
abbrev pub is_white : ℕ → Bool
is_white b = (b == space) || (b == tab)

-- only spaces and tabs
abbrev pub is_blank : List ℕ → Bool
is_blank bytes = list_all is_white bytes

-- nothing, or a space or a tab comes first
abbrev pub is_parted : List ℕ → Bool
is_parted [] = true
is_parted (b ∷ bytes) = is_white b

-- how many of this byte are at the front
abbrev pub run_len : ℕ → List ℕ → ℕ
run_len m bytes = prefix_len (λ b. b == m) bytes

abbrev pub trim_start : List ℕ → List ℕ
trim_start bytes = drop (prefix_len is_white bytes) bytes

abbrev pub trim_end : List ℕ → List ℕ
trim_end bytes = take (length bytes - suffix_len is_white bytes) bytes

-- without outer spaces and tabs
abbrev pub trim : List ℕ → List ℕ
trim bytes = trim_end (trim_start bytes)

-- the columns of a tab: it reaches to the next multiple of 4 (CommonMark 2.2)
abbrev pub tab_columns : ℕ → ℕ
tab_columns column = 4 - column % 4

-- the columns of the spaces and tabs at the front, from this column on
abbrev pub white_columns : ℕ → List ℕ → ℕ
white_columns column [] = 0
white_columns column (b ∷ bytes) =
    if b == tab then tab_columns column + white_columns (column + tab_columns column) bytes
    else if b == space then 1 + white_columns (column + 1) bytes
    else 0

-- the columns of its leading spaces and tabs
abbrev pub indent : Rest → ℕ
indent r = r.spaces + white_columns (r.column + r.spaces) r.bytes

-- an indent of at most 3 columns; of any size where indented code is off (own choice)
abbrev pub is_small : ParseOptions → ℕ → Bool
is_small options columns = not options.constructs.code_indented || nat_le columns 3

abbrev pub has_small_indent : ParseOptions → Rest → Bool
has_small_indent options r = is_small options (indent r)

-- the byte of a tab of which so many columns are left, if any
abbrev pub cut_tab : ℕ → List ℕ
cut_tab zero = []
cut_tab (suc columns) = tab ∷ []

-- without one column of a space, of a tab or of what is left of a tab
abbrev pub without_column : ℕ → ℕ → List ℕ → Rest
without_column column (suc spaces) bytes = record { column = column + 1; spaces = spaces; bytes = bytes }
without_column column zero [] = record { column = column; spaces = 0; bytes = [] }
without_column column zero (b ∷ bytes) =
    if b == tab then record { column = column + 1; spaces = tab_columns column - 1; bytes = bytes }
    else if b == space then record { column = column + 1; spaces = 0; bytes = bytes }
    else record { column = column; spaces = 0; bytes = b ∷ bytes }

-- without so many columns of whitespace, or as many as there are
abbrev pub lose : ℕ → Rest → Rest
lose zero r = r
lose (suc n) r = lose n (without_column r.column r.spaces r.bytes)

-- without all of its indent
abbrev pub after_indent : Rest → Rest
after_indent r = lose (indent r) r

-- after so many bytes that are neither spaces nor tabs
abbrev pub following : ℕ → Rest → Rest
following n r = record { column = r.column + n; spaces = 0; bytes = drop n r.bytes }

-- as a line of code, HTML or math
abbrev pub line_of : Rest → Line
line_of r = record { spaces = r.spaces; text = r.bytes }
