use Rattle.std.proofs.Common.{◌≡◌, ℕ, List, Bool, refl, bit_and, bit_or}
use Rattle.std.specs.Prelude.{◌==◌, ◌&&◌, ◌||◌, codes, not, true, false}
use Rattle.std.specs.List.{list_any}
use Rattle.markdown_inlines.specs.Plain.{is_plain}
use Rattle.markdown_inlines.proofs.LaneLemmas.{each, either, every, hit, hits-first, hits-second, lane, masked-pairs, pairs}
use Rattle.markdown_inlines.proofs.LaneLemmas.{same}
use Rattle.markdown_inlines.proofs.plain.stops_or_addresses.Goals as goal
use lib.Lanes.{top}

-- what is computed of a byte, and of what is computed of the next one
abbrev lanes : ℕ → ℕ → ℕ → ℕ
lanes x m n =
    bit_or
    (bit_or
    (bit_or (bit_or (bit_or (bit_or (bit_or (bit_or (bit_or (bit_or (bit_or (bit_or (bit_or (hit x 10) (hit x 33)) (hit x 36)) (hit x 38)) (hit x 42)) (hit x 60)) (hit x 91)) (hit x 92)) (hit x 93)) (hit x 95)) (hit x 96)) (hit x 126))
    (bit_and (bit_or (hit x 72) (hit x 104)) m)) (bit_and (bit_or (hit x 87) (hit x 119)) n)

-- whether text ends at a byte, where the next may be the second of `http`, or of `www`
abbrev stop : ℕ → Bool → Bool → Bool
stop x t u =
    not
    (not (x == 10)
    && ((true
    && ((list_any (λ c. c == x) (codes "Hh") && not t) || (list_any (λ c. c == x) (codes "Ww") && not u)))
    || is_plain true x))

all : (t u : Bool) → every (λ x. same (top 7 (lanes x (lane t) (lane u))) (stop x t u)) 256 ≡ true
all true true = refl
all true false = refl
all false true = refl
all false false = refl

pub returns : goal.returns
returns c =
    let v : List ℕ = c.args.bytes in
    let w : List ℕ = c.args.nexts in
    let qs = pairs v w in
    let long = c.fits-bytes.0 in
    let wide = c.fits-nexts.0 in
    masked-pairs lanes (λ y. bit_or (hit y 84) (hit y 116)) (λ y. bit_or (hit y 87) (hit y 119)) stop
    (λ y. list_any (λ c. c == y) (codes "Tt")) (λ y. list_any (λ c. c == y) (codes "Ww")) refl refl all v w _ long wide
    c.fits-bytes.1 c.fits-nexts.1
    (either _ _ qs
    (either _ _ qs
    (either _ _ qs (either _ _ qs (either _ _ qs (either _ _ qs (either _ _ qs (either _ _ qs (either _ _ qs (either _ _ qs (either _ _ qs (either _ _ qs (either _ _ qs (hits-first v w 16 10 long wide) (hits-first v w 16 33 long wide)) (hits-first v w 16 36 long wide)) (hits-first v w 16 38 long wide)) (hits-first v w 16 42 long wide)) (hits-first v w 16 60 long wide)) (hits-first v w 16 91 long wide)) (hits-first v w 16 92 long wide)) (hits-first v w 16 93 long wide)) (hits-first v w 16 95 long wide)) (hits-first v w 16 96 long wide)) (hits-first v w 16 126 long wide))
    (each _ _ qs (either _ _ qs (hits-first v w 16 72 long wide) (hits-first v w 16 104 long wide)) (either _ _ qs (hits-second v w 16 84 long wide) (hits-second v w 16 116 long wide))))
    (each _ _ qs (either _ _ qs (hits-first v w 16 87 long wide) (hits-first v w 16 119 long wide)) (either _ _ qs (hits-second v w 16 87 long wide) (hits-second v w 16 119 long wide))))
