-- Whole texts in a container: a prefix before each line, all other bytes kept; and the laws of nesting, by which such a
-- text means the container, with the tree of the text in it.
use Rattle.std.specs.Prelude.{◌≡◌, ◌≢◌, ℕ, ◌-◌, ◌/◌, ◌^◌, ◌≤◌, ◌==◌, ◌||◌, true, false, not, List, [], ◌∷◌, ◌++◌, None}
use Rattle.std.specs.Prelude.{length, map}
use Rattle.std.specs.List.{concat, list_all}
use Rattle.md_engine.specs.declared.configuration.ParseOptions.{ParseOptions}
use Rattle.md_meaning.specs.Alert.{first_alert}
use Rattle.md_meaning.specs.Ascii.{greater_than, plus, space, tab}
use Rattle.md_meaning.specs.Bytes.{begins}
use Rattle.md_meaning.specs.Label.{labels}
use Rattle.md_meaning.specs.Lines.{full_lines_of, is_ending, lines_of}
use Rattle.md_meaning.specs.Meaning.{tree}
use Rattle.md_meaning.specs.Preamble.{front_of, has_mark}
use Rattle.md_meaning.specs.Rest.{is_white}
use Rattle.md_meaning.specs.Tree.{Blocks, End, Item, ListOf, More, Quote}

-- the first prefix before the first line, the second before each other
abbrev pub prefixed : List ℕ → List ℕ → List (List ℕ) → List (List ℕ)
prefixed first further [] = []
prefixed first further (line ∷ lines) = (first ++ line) ∷ map (λ l. further ++ l) lines

-- `> ` before each line
abbrev pub quoted : List ℕ → List ℕ
quoted text = concat (prefixed (greater_than ∷ space ∷ []) (greater_than ∷ space ∷ []) (full_lines_of text))

-- `+ ` before the first line, and two spaces before each other
abbrev pub itemised : List ℕ → List ℕ
itemised text = concat (prefixed (plus ∷ space ∷ []) (space ∷ space ∷ []) (full_lines_of text))

-- a text that points have room for: at most an eighth of the greatest `usize`
abbrev pub IsSmall : List ℕ → Type 0
IsSmall text = length text ≤ (2 ^ 64 - 1) / 8

-- a text that the quote law is about: it is not empty, and has neither a tab nor a byte order mark nor frontmatter; and
-- where alerts are on, its first line is no marker of a kind
pub record IsQuotable (options : ParseOptions) (text : List ℕ) : Type 0 where
  pub some : text ≢ []
  pub no_tab : list_all (λ b. not (b == tab)) text ≡ true
  pub no_mark : has_mark text ≡ false
  pub no_front : front_of options (lines_of text) ≡ None
  pub no_alert : options.constructs.alerts ≡ true → first_alert options (lines_of text) ≡ None

-- a text that the list law is about: its first line is not empty and does not begin with whitespace, and it has neither
-- a tab nor a byte order mark nor frontmatter
pub record IsItemable (options : ParseOptions) (text : List ℕ) : Type 0 where
  pub first : begins (λ b. not (is_white b || is_ending b)) text ≡ true
  pub no_tab : list_all (λ b. not (b == tab)) text ≡ true
  pub no_mark : has_mark text ≡ false
  pub no_front : front_of options (lines_of text) ≡ None

-- The quote law, of a text whose tree has these blocks, and of that text with `> ` before each line: it means one block
-- quote with them in it, unchanged, and has the same labels.
abbrev pub NestsInQuote : ParseOptions → List ℕ → List ℕ → Blocks → Type 0
NestsInQuote options text quote bs =
    options.constructs.block_quote ≡ true → IsQuotable options text →
    (wraps : tree options quote ≡ More (Quote None bs) End) × (labels (tree options quote) ≡ labels bs)

-- The list law, of such a text, and of it with `+ ` before its first line and two spaces before each other: it means
-- one list, whose one item has them in it, unchanged, and has the same labels.
abbrev pub NestsInItem : ParseOptions → List ℕ → List ℕ → Blocks → Type 0
NestsInItem options text item bs =
    options.constructs.list_item ≡ true → IsItemable options text →
    (wraps : tree options item ≡ More (ListOf plus (More (Item plus [] bs) End)) End)
    × (labels (tree options item) ≡ labels bs)

-- the second text is the first with `> ` before each line, and nests as the quote law says
pub record IsQuoteOf (options : ParseOptions) (text quote : List ℕ) : Type 0 where
  pub bytes : quote ≡ quoted text
  pub nests : NestsInQuote options text quote (tree options text)

-- the second text is the first with `+ ` before its first line and two spaces before each other, and nests as the list
-- law says
pub record IsItemOf (options : ParseOptions) (text item : List ℕ) : Type 0 where
  pub bytes : item ≡ itemised text
  pub nests : NestsInItem options text item (tree options text)
