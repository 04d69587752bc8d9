-- Bytes that begin with the marker of an alert are at least as long as it is.
use Rattle.std.proofs.Common.{◌≡◌, ℕ, ◌≤◌, true, List, length, map, take, sym, ◌∙◌, ap, arith}
use Rattle.std.specs.Char.{to_ascii_lowercase}
use Rattle.std.specs.Str.{str_eq_ignore_ascii_case}
use Rattle.std.proofs.lemmas.List.{length-map, length-take}
use Rattle.std.proofs.lemmas.Slice.Eq.{bytes_eq-Decides}

pub marker_fits : (marker bytes : List ℕ) → str_eq_ignore_ascii_case marker (take (length marker) bytes) ≡ true →
    length marker ≤ length bytes
marker_fits marker bytes h =
    let front : List ℕ = take (length marker) bytes in
    let same : map to_ascii_lowercase marker ≡ map to_ascii_lowercase front =
    (bytes_eq-Decides (map to_ascii_lowercase marker) (map to_ascii_lowercase front)).0 h in
    let long : length marker ≡ length front =
    sym (length-map marker to_ascii_lowercase) ∙ ap length same ∙ length-map front to_ascii_lowercase in
    omega (arith, long, length-take (length marker) bytes)
