-- Autolinks between angle brackets (CommonMark 6.5). Each is given after its `<`, and is so many bytes before its `>`.
use Rattle.std.specs.Prelude.{ℕ, ◌+◌, Bool, ◌&&◌, ◌||◌, ◌==◌, not, nat_le, nat_lt, if◌then◌else◌, List}
use Rattle.std.specs.Prelude.{length, reverse, take, drop, Option, Some, None, option_map, codes}
use Rattle.std.specs.List.{list_all, list_any, prefix_len, slice_split}
use Rattle.std.specs.Char.{is_ascii_alphabetic, is_ascii_alphanumeric}
use Rattle.md_meaning.specs.Ascii.{colon, dot, greater_than, hyphen, less_than, space}
use Rattle.md_meaning.specs.Bytes.{begins}
use Rattle.md_meaning.specs.Lines.{begins_with}

abbrev pub at_sign : ℕ
at_sign = 64

-- an ASCII letter, a digit, `+`, `.` or `-`
abbrev pub is_scheme_byte : ℕ → Bool
is_scheme_byte b = is_ascii_alphanumeric b || list_any (λ c. c == b) (codes "+.-")

-- no control character of ASCII, no space, and no angle bracket
abbrev pub is_uri_byte : ℕ → Bool
is_uri_byte b = nat_lt space b && not ((b == 127) || (b == less_than) || (b == greater_than))

-- an absolute URI: a scheme of 2 to 32 bytes that begins with a letter, `:`, and any of the bytes above
unfoldable pub uri_len : List ℕ → Option ℕ
uri_len text =
    let scheme : ℕ = prefix_len is_scheme_byte text in
    let len : ℕ = prefix_len is_uri_byte text in
    if begins is_ascii_alphabetic text && nat_le 2 scheme && nat_le scheme 32
    && begins_with colon (drop scheme text) && begins_with greater_than (drop len text)
    then Some len else None

-- the bytes of an e-mail address before its `@`
abbrev pub is_local_byte : ℕ → Bool
is_local_byte b = is_ascii_alphanumeric b || list_any (λ c. c == b) (codes ".!#$%&'*+/=?^_`{|}~-")

abbrev pub is_host_byte : ℕ → Bool
is_host_byte b = is_ascii_alphanumeric b || (b == hyphen)

abbrev pub are_host_bytes : List ℕ → Bool
are_host_bytes bytes = list_all is_host_byte bytes

-- a label of a host: 1 to 63 letters, digits and hyphens, with no hyphen at its ends
abbrev pub is_host_label : List ℕ → Bool
is_host_label label =
    nat_le 1 (length label) && nat_le (length label) 63 && are_host_bytes label
    && not (begins_with hyphen label) && not (begins_with hyphen (reverse label))

-- labels with a `.` between each two
abbrev pub is_host : List ℕ → Bool
is_host bytes = list_all is_host_label (slice_split (λ b. b == dot) bytes)

-- how many bytes of a host come first, if a `>` follows it
abbrev pub host_len : List ℕ → Option ℕ
host_len text =
    let len : ℕ = prefix_len (λ b. is_host_byte b || (b == dot)) text in
    if is_host (take len text) && begins_with greater_than (drop len text) then Some len else None

-- an e-mail address, by the expression of HTML 5
unfoldable pub email_len : List ℕ → Option ℕ
email_len text =
    let local : ℕ = prefix_len is_local_byte text in
    if nat_le 1 local && begins_with at_sign (drop local text)
    then option_map (λ (host : ℕ). local + 1 + host) (host_len (drop 1 (drop local text))) else None
