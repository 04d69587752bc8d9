-- The empty line after the last ending of a text: it is a row, but no line of the line definition.
--
-- Where it continues a leaf of several lines, it adds nothing to that leaf; elsewhere it does what any empty line does,
-- and that adds nothing either.
use Rattle.std.proofs.Common.{◌≡◌, ℕ, zero, suc, ◌<◌, Bool, true, false, cond, ◌&&◌, List, [], ◌∷◌, ◌++◌, length, take}
use Rattle.std.proofs.Common.{refl, ap, sym, ◌∙◌, append-nil, arith}
use Rattle.md_engine.specs.declared.configuration.ParseOptions.{ParseOptions}
use Rattle.md_meaning.specs.Rest.{Rest}
use Rattle.md_meaning.specs.State.{Container, Path}
use Rattle.md_meaning.specs.Step.{step, steps}
use Rattle.proof_frame.specs.Change.{open_following}
use Rattle.proof_rows.specs.Fronted.{Contained}
use Rattle.proof_rows.specs.WithoutMdx.{IsWithoutMdx}
use Rattle.proof_rows.specs.Valid.{IsPlain, containers_of}
use Rattle.proof_rows.proofs.LineSteps.{contained_at, continues_further, renewed}
use Rattle.proof_rows.proofs.StepAfter.{IsContinued, containers-all, containers-step, proceeds-on}

-- what a line does, of which it is said whether it is over the end of the text
abbrev pub step_over : ParseOptions → Bool → Path → Rest → Path
step_over options over p r =
    let c = contained_at options p r in
    cond (over && continues_further options c) (renewed c.change.stays p) (step options p r)

pub record Recorded : Type 0 where
  pub rest : Rest
  pub over : Bool

abbrev pub no_bytes : List ℕ → Bool
no_bytes [] = true
no_bytes (b ∷ bytes) = false

abbrev pub no_rests : List Rest → Bool
no_rests [] = true
no_rests (r ∷ rs) = false

-- the lines of a text: the last of them is over its end if it is empty
abbrev pub recorded : List Rest → List Recorded
recorded [] = []
recorded (r ∷ rs) = record { rest = r; over = no_rests rs && no_bytes r.bytes } ∷ recorded rs

abbrev pub steps_over : ParseOptions → Path → List Recorded → Path
steps_over options p [] = p
steps_over options p (t ∷ ts) = steps_over options (step_over options t.over p t.rest) ts

-- all but the last are lines of the line definition
pub recorded-some : (options : ParseOptions) (p : Path) (n : ℕ) (rs : List Rest) → n < length rs →
    steps_over options p (take n (recorded rs)) ≡ steps options p (take n rs)
recorded-some options p zero rs less = refl
recorded-some options p (suc n) [] less = absurd (omega arith)
recorded-some options p (suc n) (r ∷ []) less = absurd (omega arith)
recorded-some options p (suc n) (r ∷ s ∷ rs) less = recorded-some options (step options p r) n (s ∷ rs) (omega arith)

-- What is open after such a line.

pub containers-over : (options : ParseOptions) (over : Bool) (p : Path) (r : Rest) → IsWithoutMdx options → IsPlain p →
    containers_of (step_over options over p r) ≡ open_following (contained_at options p r).change
containers-over options over p r built plain = go over (continues_further options c) refl
  where
    c : Contained
    c = contained_at options p r

    go : (x y : Bool) → continues_further options c ≡ y →
        containers_of (cond (x && y) (renewed c.change.stays p) (step options p r)) ≡ open_following c.change
    go true true e =
        let proceeds : IsContinued options p c = proceeds-on options p r plain e in
        containers-all options p r proceeds.closes ∙ sym (append-nil c.change.stays)
        ∙ ap (λ (l : List Container). c.change.stays ++ l) (sym proceeds.opens)
    go true false e = containers-step options p r built plain
    go false y e = containers-step options p r built plain
