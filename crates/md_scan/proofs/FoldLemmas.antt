-- Case folding of ASCII text is that to lower case.
use Rattle.std.proofs.Common.{◌≡◌, ℕ, ◌<◌, List, IsAscii, chars, encode_utf8_all, get_or, map, ap, sym, ◌∙◌, subst}
use Rattle.std.proofs.Common.{arith}
use Rattle.std.specs.Char.{to_ascii_lowercase}
use Rattle.std.proofs.lemmas.Bool.Decides.{nat_tests}
use Rattle.std.proofs.lemmas.Str.{chars-IsAscii, encodes-IsAscii}
use Rattle.std.proofs.lemmas.Str.Ascii.{All-from_ascii}
use Rattle.std.proofs.Math.ListN.{get_or-map}
use Rattle.caseless.specs.Caseless.{default_case_fold}
use Rattle.caseless.proofs.CaselessLemmas.{default_case_fold-ascii}

lower-ascii : (c : ℕ) → c < 128 → to_ascii_lowercase c < 128
lower-ascii c h = grind (arith, nat_tests)

pub ascii-fold : (text : List ℕ) → IsAscii text →
    map to_ascii_lowercase text ≡ encode_utf8_all (default_case_fold (chars text))
ascii-fold text h =
    sym
    (ap (λ (l : List ℕ). encode_utf8_all (default_case_fold l)) (chars-IsAscii text h)
    ∙ ap encode_utf8_all (default_case_fold-ascii text (All-from_ascii text h))
    ∙ encodes-IsAscii (map to_ascii_lowercase text) small)
  where
    small : IsAscii (map to_ascii_lowercase text)
    small i =
        subst (λ (c : ℕ). c < 128) (sym (get_or-map to_ascii_lowercase text i 0))
        (lower-ascii (get_or text i 0) (h i))
