-- No line is an alert where alerts are off.
use Rattle.std.proofs.Common.{◌≡◌, ℕ, ◌⊎◌, inl, inr, true, false, List, [], ◌∷◌, None, refl}
use Rattle.std.proofs.lemmas.Bool.{cases_Bool}
use Rattle.md_engine.specs.declared.configuration.ParseOptions.{ParseOptions}
use Rattle.md_meaning.specs.Alert.{alert_at, first_alert}
use Rattle.md_meaning.specs.Rest.{Rest}

pub alert-off : (options : ParseOptions) (r : Rest) → options.constructs.alerts ≡ false → alert_at options r ≡ None
unfolding alert_at
alert-off options r off = rw off refl

pub alerts-off : (options : ParseOptions) (lines : List (List ℕ)) → options.constructs.alerts ≡ false →
    first_alert options lines ≡ None
alerts-off options [] off = refl
alerts-off options (line ∷ lines) off = alert-off options _ off

-- so what is known where they are on is known
pub no-alert : (options : ParseOptions) (lines : List (List ℕ)) →
    (options.constructs.alerts ≡ true → first_alert options lines ≡ None) → first_alert options lines ≡ None
no-alert options lines h = go (cases_Bool options.constructs.alerts)
  where
    go : (options.constructs.alerts ≡ true) ⊎ (options.constructs.alerts ≡ false) → first_alert options lines ≡ None
    go (inl on) = h on
    go (inr off) = alerts-off options lines off
