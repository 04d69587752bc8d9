-- Lemmas on texts that grow piece by piece.
use Rattle.std.proofs.Common.{◌≡◌, ℕ, zero, suc, ◌+◌, ◌*◌, List, ◌++◌, Result, Ok, Err, codes, sym, ◌∙◌, ap, arith}
use Rattle.std.proofs.Common.{append_assoc, add-one, cond}
use Rattle.std.specs.Prelude.{OnOk}
use Rattle.std.specs.Result.{is_ok}
use Rattle.std.proofs.lemmas.List.{append-nil}
use Rattle.std.specs.List.{repeat}

-- one piece more, at the end
repeat_last : (n : ℕ) (piece : List ℕ) → repeat n piece ++ piece ≡ repeat (suc n) piece
repeat_last zero piece = sym (append-nil piece)
repeat_last (suc n) piece = append_assoc piece (repeat n piece) piece ∙ ap (λ rest. piece ++ rest) (repeat_last n piece)

-- the same after another text
pub repeat_more : (front : List ℕ) (n : ℕ) (piece : List ℕ) →
    (front ++ repeat n piece) ++ piece ≡ front ++ repeat (n + 1) piece
repeat_more front n piece =
    rw add-one (append_assoc front (repeat n piece) piece ∙ ap (λ rest. front ++ rest) (repeat_last n piece))

-- two spaces so many times: four times at once, and the rest
pub repeat_four : (n rest : ℕ) →
    repeat n (codes "        ") ++ repeat rest (codes "  ") ≡ repeat (4 * n + rest) (codes "  ")
repeat_four zero rest = ap (λ k. repeat k (codes "  ")) (omega arith)
repeat_four (suc n) rest =
    let four : List ℕ = codes "        " in
    let more : suc (suc (suc (suc (4 * n + rest)))) ≡ 4 * suc n + rest = omega arith in
    append_assoc four (repeat n four) (repeat rest (codes "  "))
    ∙ ap (λ l. four ++ l) (repeat_four n rest)
    ∙ ap (λ k. repeat k (codes "  ")) more

-- what follows from what holds where something was answered
pub on_ok-map : {A E P Q : Type 0} (r : Result A E) → (P → Q) → OnOk r P → OnOk r Q
on_ok-map (Ok a) f h = f h
on_ok-map (Err e) f h = h

-- what follows the text once a piece was put there
pub pushed : {A E : Type 0} (r : Result A E) (new old piece text : List ℕ) → new ≡ cond (is_ok r) (old ++ piece) old →
    piece ≡ text → OnOk r (new ≡ old ++ text)
pushed (Ok a) new old piece text is same = is ∙ ap (λ l. old ++ l) same
pushed (Err e) new old piece text is same = tt
