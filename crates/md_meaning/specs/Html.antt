-- HTML blocks: how each of the seven kinds begins and ends (CommonMark 4.6).
use Rattle.std.specs.Prelude.{ℕ, zero, suc, Bool, false, ◌&&◌, ◌||◌, not, ◌==◌, if◌then◌else◌, List, [], ◌∷◌, length}
use Rattle.std.specs.Prelude.{take, Option, Some, None, codes, nat_eq}
use Rattle.std.specs.List.{list_any, starts_with, take_while}
use Rattle.std.specs.Char.{is_ascii_alphabetic, is_ascii_alphanumeric}
use Rattle.std.specs.Str.{str_eq_ignore_ascii_case}
use Rattle.md_meaning.specs.Lines.{begins_with}
use Rattle.md_meaning.specs.Rest.{is_white, is_blank, is_parted, trim_start}
use Rattle.md_meaning.specs.Bytes.{after, begins, after_optional}
use Rattle.md_meaning.specs.Ascii.{backtick, colon, dot, double_quote, equals_sign, exclamation_mark, greater_than}
use Rattle.md_meaning.specs.Ascii.{hyphen, less_than, single_quote, slash, underscore}
-- The kinds 1 to 7 of the standard, in its order: Raw is kind 1 (of `pre`, `script`, `style` and `textarea`), then come
-- Comment, Instruction, Declaration and Cdata, Basic is kind 6 (of a name of the standard's long list), and Complete is
-- kind 7 (of any complete tag). A tokenizer holds the kind of an open block, so its engine has their names.
pub use Rattle.md_engine.specs.declared.tokenizer.held_leaf.HtmlKind.{HtmlKind}
pub use Rattle.md_engine.specs.declared.tokenizer.held_leaf.HtmlKind.TheVariants.{Raw, Comment, Instruction}
pub use Rattle.md_engine.specs.declared.tokenizer.held_leaf.HtmlKind.TheVariants.{Declaration, Cdata, Basic, Complete}

-- the names of kind 1
abbrev pub raw_names : List (List ℕ)
raw_names = codes "pre" ∷ codes "script" ∷ codes "style" ∷ codes "textarea" ∷ []

-- the names of kind 6
abbrev pub basic_names : List (List ℕ)
basic_names =
    codes "address" ∷ codes "article" ∷ codes "aside" ∷ codes "base" ∷ codes "basefont" ∷ codes "blockquote"
    ∷ codes "body"
    ∷ codes "caption" ∷ codes "center" ∷ codes "col" ∷ codes "colgroup" ∷ codes "dd" ∷ codes "details" ∷ codes "dialog"
    ∷ codes "dir" ∷ codes "div" ∷ codes "dl" ∷ codes "dt" ∷ codes "fieldset" ∷ codes "figcaption" ∷ codes "figure"
    ∷ codes "footer" ∷ codes "form" ∷ codes "frame" ∷ codes "frameset" ∷ codes "h1" ∷ codes "h2" ∷ codes "h3"
    ∷ codes "h4"
    ∷ codes "h5" ∷ codes "h6" ∷ codes "head" ∷ codes "header" ∷ codes "hr" ∷ codes "html" ∷ codes "iframe"
    ∷ codes "legend"
    ∷ codes "li" ∷ codes "link" ∷ codes "main" ∷ codes "menu" ∷ codes "menuitem" ∷ codes "nav" ∷ codes "noframes"
    ∷ codes "ol"
    ∷ codes "optgroup" ∷ codes "option" ∷ codes "p" ∷ codes "param" ∷ codes "search" ∷ codes "section" ∷ codes "summary"
    ∷ codes "table" ∷ codes "tbody" ∷ codes "td" ∷ codes "tfoot" ∷ codes "th" ∷ codes "thead" ∷ codes "title"
    ∷ codes "tr"
    ∷ codes "track" ∷ codes "ul" ∷ []

-- whether this is one of the names, in any ASCII case
abbrev pub is_name_of : List (List ℕ) → List ℕ → Bool
is_name_of names name = list_any (λ known. str_eq_ignore_ascii_case known name) names

-- whether this is a name of kind 1, and one of kind 6
unfoldable pub is_raw_name : List ℕ → Bool
is_raw_name name = is_name_of raw_names name

unfoldable pub is_basic_name : List ℕ → Bool
is_basic_name name = is_name_of basic_names name

-- the bytes of a tag name (CommonMark 6.6)
abbrev pub is_tag_byte : ℕ → Bool
is_tag_byte b = is_ascii_alphanumeric b || (b == hyphen)

-- what may follow a name of kind 1: the end of the line, a space, a tab or `>`
abbrev pub ends_name : List ℕ → Bool
ends_name rest = is_parted rest || begins_with greater_than rest

-- whether kind 1 begins, after `<`
unfoldable pub begins_raw : List ℕ → Bool
begins_raw rest = is_raw_name (take_while is_tag_byte rest) && ends_name (after is_tag_byte rest)

-- whether kind 6 begins, after `<` or `</`: its name may also be followed by `/>`
unfoldable pub begins_basic : List ℕ → Bool
begins_basic rest =
    is_basic_name (take_while is_tag_byte rest)
    && (ends_name (after is_tag_byte rest) || starts_with nat_eq (after is_tag_byte rest) (codes "/>"))

-- the first byte of an attribute's name, and the others (CommonMark 6.6)
abbrev pub begins_attribute : ℕ → Bool
begins_attribute b = is_ascii_alphabetic b || (b == underscore) || (b == colon)

abbrev pub is_attribute_byte : ℕ → Bool
is_attribute_byte b = is_ascii_alphanumeric b || (b == underscore) || (b == dot) || (b == colon) || (b == hyphen)

-- the bytes of a value without quotes: no space, tab, `"`, `'`, `=`, `<`, `>` or backtick (CommonMark 6.6)
abbrev pub is_value_byte : ℕ → Bool
is_value_byte b =
    not
    (is_white b || (b == double_quote) || (b == single_quote) || (b == equals_sign) || (b == less_than)
    || (b == greater_than) || (b == backtick))

-- what follows the next such byte, if there is one
abbrev pub after_next : ℕ → List ℕ → Option (List ℕ)
after_next byte [] = None
after_next byte (b ∷ bs) = if b == byte then Some bs else after_next byte bs

-- what follows a value: one in quotes, or a run of bytes that is not empty
unfoldable pub after_value : List ℕ → Option (List ℕ)
after_value [] = None
after_value (b ∷ bs) =
    if (b == double_quote) || (b == single_quote) then after_next b bs
    else if is_value_byte b then Some (after is_value_byte bs)
    else None

-- what follows the value of an attribute that may have one, after its name
unfoldable pub after_assignment : List ℕ → Option (List ℕ)
after_assignment rest =
    if begins_with equals_sign (trim_start rest)
    then after_value (trim_start (after_optional equals_sign (trim_start rest))) else Some rest

-- what follows an attribute: whitespace, a name, and perhaps `=` and a value
unfoldable pub after_attribute : List ℕ → Option (List ℕ)
after_attribute rest =
    if begins is_white rest && begins begins_attribute (trim_start rest)
    then after_assignment (after is_attribute_byte (trim_start rest)) else None

-- what follows at most so many attributes
abbrev pub after_attributes : ℕ → List ℕ → List ℕ
after_attributes zero rest = rest
after_attributes (suc n) rest = elim (after_attribute rest) [ Some more ↦ after_attributes n more | None ↦ rest ]

-- whether `>` is next and then spaces and tabs to the end of the line
abbrev pub closes_tag : List ℕ → Bool
closes_tag rest = begins_with greater_than rest && is_blank (after_optional greater_than rest)

-- whether this is the rest of an opening tag after its name, with spaces and tabs to the end of the line
unfoldable pub ends_opening : List ℕ → Bool
ends_opening rest = closes_tag (after_optional slash (trim_start (after_attributes (length rest) rest)))

-- whether kind 7 begins, after `<`: a closing tag or an opening tag, and then spaces and tabs
unfoldable pub begins_complete : List ℕ → Bool
begins_complete [] = false
begins_complete (b ∷ rest) =
    if b == slash then begins is_ascii_alphabetic rest && closes_tag (trim_start (after is_tag_byte rest))
    else is_ascii_alphabetic b && ends_opening (after is_tag_byte rest)

-- the kind that begins here, after `<`
unfoldable pub kind_after : List ℕ → Option HtmlKind
kind_after rest =
    if begins_raw rest then Some Raw
    else if starts_with nat_eq rest (codes "!--") then Some Comment
    else if starts_with nat_eq rest (codes "?") then Some Instruction
    else if starts_with nat_eq rest (codes "!") && begins is_ascii_alphabetic (after_optional exclamation_mark rest)
    then Some Declaration
    else if starts_with nat_eq rest (codes "![CDATA[") then Some Cdata
    else if begins_basic (after_optional slash rest) then Some Basic
    else if begins_complete rest then Some Complete
    else None

-- the kind that a line begins, given from its `<` on
unfoldable pub html_kind : List ℕ → Option HtmlKind
html_kind [] = None
html_kind (b ∷ rest) = if b == less_than then kind_after rest else None

-- whether these bytes come first, in any ASCII case
abbrev pub starts_in_any_case : List ℕ → List ℕ → Bool
starts_in_any_case rest word = str_eq_ignore_ascii_case word (take (length word) rest)

-- the ends of kind 1
abbrev pub raw_ends : List (List ℕ)
raw_ends = codes "</pre>" ∷ codes "</script>" ∷ codes "</style>" ∷ codes "</textarea>" ∷ []

-- whether one of them comes first
unfoldable pub is_raw_end : List ℕ → Bool
is_raw_end rest = list_any (λ word. starts_in_any_case rest word) raw_ends

-- whether this passes from some byte of the line on
abbrev pub holds : (List ℕ → Bool) → List ℕ → Bool
holds test [] = false
holds test (b ∷ bytes) = test (b ∷ bytes) || holds test bytes

-- whether these bytes are somewhere in the line
abbrev pub holds_word : List ℕ → List ℕ → Bool
holds_word word line = holds (λ rest. starts_with nat_eq rest word) line

-- whether the line holds the end of this kind; kinds 6 and 7 end before a blank line
unfoldable pub html_ends : HtmlKind → List ℕ → Bool
html_ends Raw line = holds is_raw_end line
html_ends Comment line = holds_word (codes "-->") line
html_ends Instruction line = holds_word (codes "?>") line
html_ends Declaration line = holds_word (codes ">") line
html_ends Cdata line = holds_word (codes "]]>") line
html_ends Basic line = false
html_ends Complete line = false
