-- E-mail addresses in the text of tokens, and text beside text as one token. What is open is counted, so that nothing
-- is as deep as the text is.
use Rattle.std.specs.Prelude.{ℕ, zero, suc, ◌+◌, ◌-◌, Bool, false, ◌&&◌, ◌==◌, nat_le, if◌then◌else◌, List, [], ◌∷◌, ◌++◌}
use Rattle.std.specs.Prelude.{◌||◌, take, drop, length, not, Option, Some, None}
use Rattle.std.specs.List.{list_any, prefix_len}
use Rattle.md_engine.specs.declared.event.Name.{Name}
use Rattle.md_engine.specs.declared.event.Name.TheVariants as n
use Rattle.md_inline_events.specs.Tokens.{tokens}
use Rattle.md_inline_events.specs.declared.token.Token.{Token}
use Rattle.md_inline_events.specs.declared.token.Token.TheVariants as t
use Rattle.md_inlines.specs.Addresses.{is_before}
use Rattle.md_inlines.specs.Atoms.{is_data, literal_name}
use Rattle.md_inlines.specs.Autolink.{at_sign}
use Rattle.md_inlines.specs.Emails.{emails_in, holds_text}
use Rattle.md_inlines.specs.Literal.{email_at, is_local_byte, may_follow}
use Rattle.md_inlines.specs.declared.Literal.{Literal}

-- whether an `@` is among these bytes
abbrev pub has_at_sign : List ℕ → Bool
has_at_sign text = list_any (λ (b : ℕ). b == at_sign) text

-- how many bytes of text a token is; none of another
abbrev pub data_len_of : Name → ℕ → Option ℕ
data_len_of n.Data len = Some len
data_len_of _ len = None

abbrev pub data_len : Token → Option ℕ
data_len (t.Over name len) = data_len_of name len
data_len (t.Enters name) = None
data_len (t.Leaves name) = None

-- where a text is read after a token
abbrev pub at_after : ℕ → Token → ℕ
at_after at (t.Over name len) = at + len
at_after at _ = at

-- how many parts are open of which the text is not searched, or that are in one: after one more begins, and after one
-- ends
abbrev pub begun : ℕ → Name → ℕ
begun zero name = if holds_text name then 0 else 1
begun (suc hidden) name = suc (suc hidden)

abbrev pub ended : ℕ → ℕ
ended zero = zero
ended (suc hidden) = hidden

abbrev pub hidden_after : ℕ → Token → ℕ
hidden_after hidden (t.Enters name) = begun hidden name
hidden_after hidden (t.Leaves name) = ended hidden
hidden_after hidden (t.Over name len) = hidden

-- whether a piece of this name is searched where so many such parts are open
abbrev pub is_searched : ℕ → Name → Bool
is_searched zero name = is_data name
is_searched (suc hidden) name = false

-- a token at a place of a text, with the addresses in it if it is searched
abbrev pub token_searched : List ℕ → ℕ → ℕ → Token → List Token
token_searched text hidden at (t.Over name len) =
    if is_searched hidden name
    then tokens (emails_in (take at (take (at + len) text)) (drop at (take (at + len) text))) else t.Over name len ∷ []
token_searched text hidden at token = token ∷ []

-- tokens from a place of a text on, where so many such parts are open
abbrev pub searched : List ℕ → ℕ → ℕ → List Token → List Token
searched text hidden at [] = []
searched text hidden at (token ∷ list) =
    token_searched text hidden at token ++ searched text (hidden_after hidden token) (at_after at token) list

-- Whether a token at a place of a text is searched, and an `@` is in it. One that is longer than the text counts too.
abbrev pub has_sign_at : List ℕ → ℕ → Option ℕ → Bool
has_sign_at text at None = false
has_sign_at text at (Some len) =
    let piece : List ℕ = drop at (take (at + len) text) in not (length piece == len) || has_at_sign piece

abbrev pub is_with_sign : List ℕ → ℕ → ℕ → Token → Bool
is_with_sign text hidden at token = (hidden == 0) && has_sign_at text at (data_len token)

-- whether one of these is, from a place of a text on
abbrev pub are_with_sign : List ℕ → ℕ → ℕ → List Token → Bool
are_with_sign text hidden at [] = false
are_with_sign text hidden at (token ∷ list) =
    is_with_sign text hidden at token || are_with_sign text (hidden_after hidden token) (at_after at token) list

-- text of so many bytes
abbrev pub texts : ℕ → List Token
texts zero = []
texts (suc more) = t.Over n.Data (suc more) ∷ []

-- tokens after so many bytes of text, with text beside text as one token
abbrev pub joined_after : ℕ → List Token → List Token
joined_after len [] = texts len
joined_after len (t.Over name more ∷ list) =
    if is_data name then joined_after (len + more) list else texts len ++ t.Over name more ∷ joined_after 0 list
joined_after len (token ∷ list) = texts len ++ token ∷ joined_after 0 list

-- how many bytes come first after which no address may begin
abbrev pub closed_len : List ℕ → ℕ
closed_len text = prefix_len (λ b. not (is_before b)) text

-- How many bytes come first at which no address begins, if none does at the first: those after which none may begin,
-- where none may at the first; else those of what may be before an `@`, but for the last six, which may be `mailto`.
abbrev pub quiet_len : List ℕ → List ℕ → ℕ
quiet_len before text =
    let local : ℕ = prefix_len is_local_byte text in
    let closed : ℕ = closed_len text in
    if not (may_follow before) then if nat_le 1 closed then closed else 1 else if nat_le 7 local then local - 6 else 1

-- what is first in a text after another: an address, or so many bytes of text
abbrev pub token_of : Option Literal → ℕ → Token
token_of (Some found) len = t.Over (literal_name found.kind) found.len
token_of None len = t.Over n.Data len

abbrev pub first_token : List ℕ → List ℕ → Token
first_token before text = token_of (email_at before text) (quiet_len before text)
