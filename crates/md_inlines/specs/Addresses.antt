-- Words on addresses without angle brackets, as functions ask for them.
use Rattle.std.specs.Prelude.{◌≡◌, ℕ, ◌+◌, ◌-◌, ◌<◌, Bool, true, false, ◌&&◌, ◌||◌, ◌==◌, not, if◌then◌else◌}
use Rattle.std.specs.Prelude.{List, [], ◌∷◌, length, drop, Option, None, option_map, codes}
use Rattle.std.specs.List.{list_any}
use Rattle.std.specs.Char.{is_ascii_whitespace}
use Rattle.md_meaning.specs.Ascii.{dot, underscore}
use Rattle.md_meaning.specs.Lines.{begins_with}
use Rattle.md_inlines.specs.Literal.{domain_len, email_len, has_underscore, xmpp_len}
use Rattle.md_inlines.specs.declared.Literal.{Literal}
use Rattle.md_inlines.specs.declared.LiteralKind.{LiteralKind}
use Rattle.md_inlines.specs.declared.LiteralKind.TheVariants as literal

-- whether an address may begin after this byte
abbrev pub is_before : ℕ → Bool
is_before b = is_ascii_whitespace b || list_any (λ c. c == b) (codes "*_~(")

-- whether one of the last two segments has a `_`
abbrev pub has_last_underscore : List (List ℕ) → Bool
has_last_underscore segments = list_any has_underscore (drop (length segments - 2) segments)

-- whether the segment before this one has a `_`, and whether this one has one so far, after a further byte
abbrev pub earlier_after : Bool → Bool → ℕ → Bool
earlier_after earlier now b = if b == dot then now else earlier

abbrev pub now_after : Bool → ℕ → Bool
now_after now b = not (b == dot) && (now || (b == underscore))

-- whether an empty segment begins after the first byte
abbrev pub begins_with_dots : List ℕ → Bool
begins_with_dots [] = false
begins_with_dots (b ∷ []) = false
begins_with_dots (b ∷ c ∷ text) = (b == dot) && (c == dot)

-- after a dot at one of so many first places no domain begins
abbrev pub HasNoDomain : List ℕ → ℕ → Type 0
HasNoDomain text len =
    (k : ℕ) → k < len → begins_with dot (drop k text) ≡ true → domain_len (drop (k + 1) text) ≡ None

-- an e-mail address of so many bytes after so many
abbrev pub after_front : LiteralKind → ℕ → Option ℕ → Option Literal
after_front kind front found = option_map (λ (len : ℕ). record { kind = kind; len = len + front }) found

-- an address of XMPP, after its `xmpp:`, with what follows it
abbrev pub xmpp_at : List ℕ → Option Literal
xmpp_at text =
    option_map (λ (len : ℕ). record { kind = literal.Xmpp; len = xmpp_len (drop 5 text) len + 5 })
    (email_len (drop 5 text))
