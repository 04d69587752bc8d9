-- A line whose bytes are all plain is one destination.
use Rattle.std.proofs.Common.{◌≡◌, ℕ, suc, ◌+◌, Bool, true, false, cond, ◌&&◌, List, [], ◌∷◌, Some, refl, ◌∙◌, ap}
use Rattle.std.proofs.Common.{arith, drop}
use Rattle.std.specs.Prelude.{◌==◌, ◌||◌, not, nat_lt}
use Rattle.std.specs.List.{list_all, prefix_len, take_while}
use Rattle.std.proofs.lemmas.Bool.{and_parts, not-true, or_parts}
use Rattle.std.proofs.lemmas.List.Sums.{take_while-cons}
use Rattle.md_meaning.specs.Ascii.{backslash, left_parenthesis, less_than, right_parenthesis}
use Rattle.md_meaning.specs.Bytes.{after}
use Rattle.md_meaning.specs.Definition.{balanced, destination_at, is_raw_byte}
use Rattle.md_link_definitions.specs.PlainDestination.{is_plain_byte, is_plain_destination}
use Rattle.md_link_definitions.proofs.DestinationWhole.{found-raw, raw_found}

-- what a plain byte is, and is not
record Plain (b : ℕ) : Type 0 where
  raw : is_raw_byte b ≡ true
  opener : (b == left_parenthesis) ≡ false
  closer : (b == right_parenthesis) ≡ false
  escape : (b == backslash) ≡ false

-- a byte that a destination may have, and that means something in it
abbrev is_mark : ℕ → Bool
is_mark b = (b == left_parenthesis) || (b == right_parenthesis) || (b == backslash)

plain : (b : ℕ) → is_plain_byte b ≡ true → Plain b
plain b h =
    let both = and_parts (nat_lt 32 b) (not (is_mark b || (b == 127))) h in
    let last = or_parts (is_mark b) (b == 127) (not-true (is_mark b || (b == 127)) both.1) in
    let more = or_parts ((b == left_parenthesis) || (b == right_parenthesis)) (b == backslash) last.0 in
    let both_sides = or_parts (b == left_parenthesis) (b == right_parenthesis) more.0 in
    record {
      raw = raw (b == 0) both.0 last.1;
      opener = both_sides.0;
      closer = both_sides.1;
      escape = more.1;
    }
  where
    raw : (zero : Bool) → nat_lt 32 b ≡ true → (b == 127) ≡ false → (zero || (nat_lt 32 b && not (b == 127))) ≡ true
    raw true above other = refl
    raw false above other = rw (above, other) refl

-- they are all of a text without angle brackets,
plain-taken : (bytes : List ℕ) → list_all is_plain_byte bytes ≡ true → take_while is_raw_byte bytes ≡ bytes
plain-taken [] h = refl
plain-taken (b ∷ bytes) h =
    let both = and_parts (is_plain_byte b) (list_all is_plain_byte bytes) h in
    take_while-cons is_raw_byte b bytes
    ∙ ap (λ (t : Bool). cond t (b ∷ take_while is_raw_byte bytes) []) (plain b both.0).raw
    ∙ ap (λ (l : List ℕ). b ∷ l) (plain-taken bytes both.1)

-- after which nothing is left,
plain-after : (bytes : List ℕ) → list_all is_plain_byte bytes ≡ true → after is_raw_byte bytes ≡ []
plain-after [] h = refl
plain-after (b ∷ bytes) h =
    let both = and_parts (is_plain_byte b) (list_all is_plain_byte bytes) h in
    let n = prefix_len is_raw_byte bytes in
    let more : 1 + n ≡ suc n = omega arith in
    rw (plain b both.0).raw (ap (λ (k : ℕ). drop k (b ∷ bytes)) more ∙ plain-after bytes both.1)

-- and no parenthesis is among them
plain-balanced : (bytes : List ℕ) → list_all is_plain_byte bytes ≡ true → balanced 0 false bytes ≡ true
unfolding balanced
plain-balanced [] h = refl
plain-balanced (b ∷ bytes) h =
    let both = and_parts (is_plain_byte b) (list_all is_plain_byte bytes) h in
    let p = plain b both.0 in
    rw (p.opener, p.closer, p.escape) (plain-balanced bytes both.1)

-- So the line is the text of a destination.
pub plain-found : (line : List ℕ) → is_plain_destination line ≡ true →
    destination_at line ≡ Some (record { text = line; rest = [] })
plain-found [] h = let no : false ≡ true = h in cc
plain-found (b ∷ bytes) h =
    let both = and_parts (not (b == less_than)) (list_all is_plain_byte (b ∷ bytes)) h in
    let each = and_parts (is_plain_byte b) (list_all is_plain_byte bytes) both.1 in
    found-raw b bytes (not-true _ both.0) (plain b each.0).raw
    ∙ whole (b ∷ bytes) both.1
  where
    whole : (all : List ℕ) → list_all is_plain_byte all ≡ true →
        raw_found all ≡ Some (record { text = all; rest = [] })
    whole all plain =
        rw (plain-taken all plain, plain-balanced all plain, plain-after all plain) refl
