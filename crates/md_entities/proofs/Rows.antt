-- Rows that the check computes: names and characters of HTML 5, section 13.5.
use Rattle.std.proofs.Common.{◌≡◌, false, true, [], Some, None, refl}
use Rattle.std.specs.Prelude.{codes}
use Rattle.md_entities.specs.Names.{characters_of, is_name, names, place_of}

-- `&amp;`, the last name, and one of two characters
row_amp : characters_of (codes "amp") ≡ Some (record { first = 0x26; second = None })
unfolding characters_of names place_of
row_amp = refl

row_zwnj : characters_of (codes "zwnj") ≡ Some (record { first = 0x200c; second = None })
unfolding characters_of names place_of
row_zwnj = refl

row_bnequiv : characters_of (codes "bnequiv") ≡ Some (record { first = 0x2261; second = Some 0x20e5 })
unfolding characters_of names place_of
row_bnequiv = refl

-- case counts; a name is whole
row_case : is_name (codes "AMP") ≡ true
unfolding is_name names place_of
row_case = refl

row_other_case : is_name (codes "Amp") ≡ false
unfolding is_name names place_of
row_other_case = refl

row_front : is_name (codes "bnequi") ≡ false
unfolding is_name names place_of
row_front = refl

row_none : is_name [] ≡ false
unfolding is_name names place_of
row_none = refl
