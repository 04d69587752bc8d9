-- Autolink literals (GFM 6.9).
use Rattle.std.specs.Prelude.{ℕ, zero, suc, ◌+◌, ◌-◌, Bool, true, ◌&&◌, ◌||◌, ◌==◌, not, nat_le, nat_lt}
use Rattle.std.specs.Prelude.{if◌then◌else◌, List, [], ◌∷◌, length, take, drop, reverse, Option, Some, None, option_map}
use Rattle.std.specs.Prelude.{codes, count_by}
use Rattle.std.specs.List.{list_any, prefix_len, slice_split, suffix_len, take_while}
use Rattle.std.specs.Char.{is_ascii_alphanumeric, is_ascii_whitespace}
use Rattle.md_meaning.specs.Ascii.{dot, hyphen, left_parenthesis, less_than, right_parenthesis, slash, underscore}
use Rattle.md_meaning.specs.Bytes.{after, begins, is_end}
use Rattle.md_meaning.specs.Html.{starts_in_any_case}
use Rattle.md_meaning.specs.Lines.{begins_with}
use Rattle.md_inlines.specs.Autolink.{at_sign}
use Rattle.md_inlines.specs.Characters.{character, first_bytes, is_punctuation, is_whitespace, is_within}
use Rattle.md_inlines.specs.Escape.{ampersand, semicolon}
use Rattle.md_inlines.specs.RawHtml.{repeated}
use Rattle.md_inlines.specs.declared.Literal.{Literal}
use Rattle.md_inlines.specs.declared.LiteralKind.{LiteralKind}
use Rattle.md_inlines.specs.declared.LiteralKind.TheVariants as literal

-- where one may begin: first on a line, after whitespace, or after `*`, `_`, `~` or `(`
abbrev pub may_follow : List ℕ → Bool
may_follow before = elim (reverse before) [
  | [] ↦ true
  | b ∷ others ↦ is_ascii_whitespace b || list_any (λ c. c == b) (codes "*_~(")
]

-- Domains: segments of letters, digits, `_` and `-`, with a `.` between each two, of which there are two at least.
-- Neither of the last two has a `_`. Beyond ASCII each character counts as a letter that is neither whitespace nor
-- punctuation (own choice).
abbrev pub is_domain_byte : ℕ → Bool
is_domain_byte b = is_ascii_alphanumeric b || (b == underscore) || (b == hyphen) || (b == dot)

-- what follows the first character, if a domain may have it
unfoldable pub after_domain_character : List ℕ → Option (List ℕ)
after_domain_character [] = None
after_domain_character (b ∷ text) =
    if nat_lt b 128 then (if is_domain_byte b then Some text else None)
    else elim (character (first_bytes (b ∷ text))) [
      | Some c ↦ (if is_whitespace c || is_punctuation c then None else Some (after is_within text))
      | None ↦ None
    ]

-- the bytes of such characters that come first
abbrev pub domain_front : List ℕ → List ℕ
domain_front text = take (length text - length (repeated after_domain_character (length text) text)) text

abbrev pub has_underscore : List ℕ → Bool
has_underscore segment = list_any (λ c. c == underscore) segment

abbrev pub are_segments : List (List ℕ) → Bool
are_segments segments =
    nat_le 2 (length segments) && not (list_any is_end segments)
    && not (list_any has_underscore (drop (length segments - 2) segments))

-- without this byte at the end, as often as it is there
abbrev pub without_last : ℕ → List ℕ → List ℕ
without_last byte text = take (length text - suffix_len (λ b. b == byte) text) text

-- how many bytes of a domain come first
unfoldable pub domain_len : List ℕ → Option ℕ
domain_len text =
    let domain : List ℕ = without_last dot (domain_front text) in
    if are_segments (slice_split (λ b. b == dot) domain) then Some (length domain) else None

-- the bytes up to whitespace or a `<`
abbrev pub path : List ℕ → List ℕ
path text = take_while (λ b. not (is_ascii_whitespace b) && not (b == less_than)) text

-- How many bytes at the end of a path belong to the sentence around it: punctuation, a `)` that the path does not open,
-- and what looks like a character reference.
abbrev pub is_sentence_byte : ℕ → Bool
is_sentence_byte b = list_any (λ c. c == b) (codes "?!.,:*_~")

abbrev pub is_unopened : List ℕ → Bool
is_unopened text =
    nat_lt (count_by (λ b. b == left_parenthesis) text) (count_by (λ b. b == right_parenthesis) text)

-- after a last `;`, from the end on: letters and digits, and then `&`
abbrev pub reference_end : List ℕ → ℕ
reference_end back =
    let len : ℕ = prefix_len is_ascii_alphanumeric back in
    if nat_le 1 len && begins_with ampersand (drop len back) then len + 2 else 0

abbrev pub extra_len : List ℕ → ℕ
extra_len text = elim (reverse text) [
  | [] ↦ 0
  | b ∷ back ↦
      (if is_sentence_byte b then 1
      else if b == right_parenthesis then (if is_unopened text then 1 else 0)
      else if b == semicolon then reference_end back
      else 0)
]

abbrev pub without_extra : List ℕ → Option (List ℕ)
without_extra text = elim (extra_len text) [
  | zero ↦ None
  | suc more ↦ Some (take (length text - suc more) text)
]

-- a path without these, taken off again and again
unfoldable pub trimmed : List ℕ → List ℕ
trimmed text = repeated without_extra (length text) text

-- an address: a front of so many bytes, a domain, and a path
abbrev pub address : LiteralKind → ℕ → List ℕ → Option Literal
address kind front text = option_map
    (λ (domain : ℕ).
    record { kind = kind; len = front + domain + length (trimmed (path (drop (front + domain) text))) })
    (domain_len (drop front text))

-- the address that comes first in a text, after another: `www.`, `http://` or `https://`, each in any case
unfoldable pub literal_at : List ℕ → List ℕ → Option Literal
literal_at before text =
    if not (may_follow before) then None
    else if starts_in_any_case text (codes "www.") then address literal.Www 4 text
    else if starts_in_any_case text (codes "http://") then address literal.Protocol 7 text
    else if starts_in_any_case text (codes "https://") then address literal.Protocol 8 text
    else None

-- E-mail addresses, which are found in what is text.

abbrev pub is_local_byte : ℕ → Bool
is_local_byte b = is_ascii_alphanumeric b || list_any (λ c. c == b) (codes ".-_+")

abbrev pub is_host_byte : ℕ → Bool
is_host_byte b = is_ascii_alphanumeric b || (b == hyphen) || (b == underscore)

-- segments of letters, digits, `-` and `_` with a `.` between each two, of which there are two at least; neither `-`
-- nor `_` is last
abbrev pub is_host : List ℕ → Bool
is_host host =
    nat_le 2 (length (slice_split (λ b. b == dot) host)) && not (list_any is_end (slice_split (λ b. b == dot) host))
    && not (begins (λ b. (b == hyphen) || (b == underscore)) (reverse host))

unfoldable pub email_len : List ℕ → Option ℕ
email_len text =
    let local : ℕ = prefix_len is_local_byte text in
    let host : List ℕ = without_last dot (take_while (λ b. is_host_byte b || (b == dot)) (drop (local + 1) text)) in
    if nat_le 1 local && begins_with at_sign (drop local text) && is_host host then Some (local + 1 + length host)
    else None

-- `/` and letters, digits, `@` and `.`, which may follow in an address of XMPP
abbrev pub resource_len : List ℕ → ℕ
resource_len text =
    let len : ℕ = prefix_len (λ b. is_ascii_alphanumeric b || (b == at_sign) || (b == dot)) (drop 1 text) in
    if begins_with slash text && nat_le 1 len then len + 1 else 0

abbrev pub xmpp_len : List ℕ → ℕ → ℕ
xmpp_len text len = len + resource_len (drop len text)

-- the e-mail address that comes first in a text, after another, perhaps with `mailto:` or `xmpp:`
unfoldable pub email_at : List ℕ → List ℕ → Option Literal
email_at before text =
    if not (may_follow before) then None
    else if starts_in_any_case text (codes "mailto:")
    then option_map (λ (len : ℕ). record { kind = literal.Mailto; len = len + 7 }) (email_len (drop 7 text))
    else if starts_in_any_case text (codes "xmpp:")
    then option_map (λ (len : ℕ). record { kind = literal.Xmpp; len = xmpp_len (drop 5 text) len + 5 })
    (email_len (drop 5 text))
    else option_map (λ (len : ℕ). record { kind = literal.Email; len = len }) (email_len text)
