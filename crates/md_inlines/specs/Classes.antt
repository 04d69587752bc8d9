-- What the classes of bytes are, in the words of the grammars.
use Rattle.std.specs.Prelude.{ℕ, Bool, ◌&&◌, ◌||◌, ◌==◌, not, codes}
use Rattle.std.specs.List.{list_any}
use Rattle.std.specs.Char.{is_ascii_alphanumeric, is_ascii_digit, is_ascii_hexdigit, is_ascii_whitespace}
use Rattle.md_meaning.specs.Ascii.{dot, less_than, space}
use Rattle.md_meaning.specs.Html.{is_attribute_byte, is_tag_byte}
use Rattle.md_inlines.specs.Autolink.{at_sign, is_host_byte, is_local_byte, is_scheme_byte, is_uri_byte}
use Rattle.md_inlines.specs.Characters.{is_within}
use Rattle.md_inlines.specs.Literal as literal
use Rattle.md_inlines.specs.RawHtml.{is_value_byte}
use Rattle.md_inlines.specs.declared.class.Class.{Class}
use Rattle.md_inlines.specs.declared.class.Class.TheVariants as c

abbrev pub is_in : Class → ℕ → Bool
is_in c.Alphanumeric = is_ascii_alphanumeric
is_in c.Digit = is_ascii_digit
is_in c.HexDigit = is_ascii_hexdigit
is_in c.Scheme = is_scheme_byte
is_in c.Uri = is_uri_byte
is_in c.Local = is_local_byte
is_in c.Host = λ b. is_host_byte b || (b == dot)
is_in c.Tag = is_tag_byte
is_in c.Attribute = is_attribute_byte
is_in c.Value = is_value_byte
is_in c.Space = λ b. b == space
is_in c.Dot = λ b. b == dot
is_in c.Within = is_within
is_in c.Path = λ b. not (is_ascii_whitespace b) && not (b == less_than)
is_in c.BareLocal = literal.is_local_byte
is_in c.BareHost = λ b. literal.is_host_byte b || (b == dot)
is_in c.XmppResource = λ b. is_ascii_alphanumeric b || (b == at_sign) || (b == dot)

-- a byte of an e-mail address before its `@` that is neither a letter nor a digit
abbrev pub is_local_mark : ℕ → Bool
is_local_mark b = list_any (λ mark. mark == b) (codes ".!#$%&'*+/=?^_`{|}~-")
