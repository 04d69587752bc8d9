-- Block quotes by the line definition: what opens as one is one, and they do not continue over an empty line.
use Rattle.std.proofs.Common.{◌≡◌, ◌+◌, Bool, true, false, cond, ◌&&◌, [], refl, subst, ℕ}
use Rattle.std.specs.Prelude.{Option, Some, None}
use Rattle.md_engine.specs.declared.configuration.ParseOptions.{ParseOptions}
use Rattle.md_meaning.specs.declared.alert.AlertKind.{AlertKind}
use Rattle.md_meaning.specs.Alert.{alert_at}
use Rattle.md_meaning.specs.Containers.{Taken, opens_quote, quote_taken, taken_as, with_kind}
use Rattle.md_containers.proofs.QuoteLines.{quote-container}
use Rattle.md_meaning.specs.Rest.{Rest, has_small_indent, lose}
use Rattle.md_meaning.specs.State.{InQuote}
use Rattle.md_meaning.specs.Preamble.{rest_at}

-- a quote that opens is one, of some kind or none
pub opens-quote : (options : ParseOptions) (r : Rest) (t : Taken) → opens_quote options r ≡ Some t →
    (alert : Option AlertKind) × (t.container ≡ InQuote alert)
unfolding opens_quote
opens-quote options r t e = go options.constructs.block_quote e
  where
    IsQuote : Taken → Type 0
    IsQuote s = (alert : Option AlertKind) × (s.container ≡ InQuote alert)

    of-kind : (s : Taken) → s.container ≡ InQuote None → (alert : Option AlertKind) → IsQuote (taken_as s alert)
    of-kind s is None = (None, is)
    of-kind s is (Some kind) = (Some kind, refl)

    kinds : (o : Option Taken) → quote_taken options None r ≡ o → with_kind options o ≡ Some t → IsQuote t
    kinds None f e = cc
    kinds (Some s) f e =
        let same : taken_as s (alert_at options s.rest) ≡ t = cc in
        subst IsQuote same (of-kind s (quote-container options None r s f) (alert_at options s.rest))

    go : (x : Bool) → cond x (with_kind options (quote_taken options None r)) None ≡ Some t → IsQuote t
    go true e = kinds (quote_taken options None r) refl e
    go false e = cc

-- it does not continue over an empty line
pub no_quote-empty : (options : ParseOptions) (alert : Option AlertKind) (column : ℕ) →
    quote_taken options alert (rest_at column []) ≡ None
unfolding quote_taken
no_quote-empty options alert column = go (has_small_indent options (rest_at column []))
  where
    found : Bool → Option Taken
    found x =
        cond (x && false) (Some (record { container = InQuote alert; rest = lose 1 (rest_at (column + 1) []) })) None

    go : (x : Bool) → found x ≡ None
    go true = refl
    go false = refl
