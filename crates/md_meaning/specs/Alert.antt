-- Alerts: block quotes with the marker of a kind on their first line (own choice, as on GitHub).
use Rattle.std.specs.Prelude.{ℕ, Bool, ◌&&◌, if◌then◌else◌, List, [], ◌∷◌, length, take, drop, Option, Some, None}
use Rattle.std.specs.Prelude.{codes}
use Rattle.std.specs.Option.{is_some}
use Rattle.std.specs.Str.{str_eq_ignore_ascii_case}
use Rattle.md_engine.specs.declared.configuration.ParseOptions.{ParseOptions}
use Rattle.md_meaning.specs.declared.alert.AlertKind.{AlertKind}
use Rattle.md_meaning.specs.declared.alert.AlertKind.TheVariants as kind
use Rattle.md_meaning.specs.Preamble.{rest_at}
use Rattle.md_meaning.specs.Rest.{Rest, after_indent, has_small_indent, is_blank}

abbrev pub kinds : List AlertKind
kinds = kind.Note ∷ kind.Tip ∷ kind.Important ∷ kind.Warning ∷ kind.Caution ∷ []

abbrev pub marker_of : AlertKind → List ℕ
marker_of kind.Note = codes "[!NOTE]"
marker_of kind.Tip = codes "[!TIP]"
marker_of kind.Important = codes "[!IMPORTANT]"
marker_of kind.Warning = codes "[!WARNING]"
marker_of kind.Caution = codes "[!CAUTION]"

-- whether bytes begin with the marker of a kind, ASCII case ignored
abbrev pub has_marker : AlertKind → List ℕ → Bool
has_marker kind bytes = str_eq_ignore_ascii_case (marker_of kind) (take (length (marker_of kind)) bytes)

-- and nothing but whitespace is after it
abbrev pub is_marked : AlertKind → List ℕ → Bool
is_marked kind bytes = has_marker kind bytes && is_blank (drop (length (marker_of kind)) bytes)

-- the first of some kinds that passes a test
abbrev pub first_kind : (AlertKind → Bool) → List AlertKind → Option AlertKind
first_kind test [] = None
first_kind test (kind ∷ kinds) = if test kind then Some kind else first_kind test kinds

-- whether bytes are the marker of a kind, ASCII case ignored
abbrev pub is_marker : List ℕ → Bool
is_marker bytes = is_some (first_kind (λ kind. str_eq_ignore_ascii_case (marker_of kind) bytes) kinds)

-- the kind of the alert whose marker is the rest of a line: a small indent, the marker, and spaces and tabs up to the
-- end
unfoldable pub alert_at : ParseOptions → Rest → Option AlertKind
alert_at options r =
    if options.constructs.alerts && has_small_indent options r
    then first_kind (λ kind. is_marked kind (after_indent r).bytes) kinds
    else None

-- the kind of the first line of a text, if it is such a marker
abbrev pub first_alert : ParseOptions → List (List ℕ) → Option AlertKind
first_alert options [] = None
first_alert options (line ∷ lines) = alert_at options (rest_at 0 line)
