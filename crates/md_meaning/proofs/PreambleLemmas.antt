-- The bytes of a byte order mark before a text.
use Rattle.std.proofs.Common.{◌≡◌, ℕ, ◌≤◌, true, List, [], ◌∷◌, length, drop, refl, ap, arith}
use Rattle.std.proofs.lemmas.Bool.Decides.{Decides-eqb}
use Rattle.std.proofs.lemmas.Slice.Eq.{starts_is}
use Rattle.md_meaning.specs.Preamble.{has_mark}

-- a text with a mark begins with its bytes
pub mark-bytes : (bytes : List ℕ) → has_mark bytes ≡ true → bytes ≡ 239 ∷ 187 ∷ 191 ∷ drop 3 bytes
mark-bytes bytes h = (starts_is Decides-eqb bytes (239 ∷ 187 ∷ 191 ∷ []) (has_mark bytes) refl).0 h

pub mark-length : (bytes : List ℕ) → has_mark bytes ≡ true → 3 ≤ length bytes
mark-length bytes h =
    let size : length bytes ≡
    length (239 ∷ 187 ∷ 191 ∷ drop 3 bytes) = ap (λ (l : List ℕ). length l) (mark-bytes bytes h) in
    omega (arith, size)
