-- Bytes that are no UTF-8 spell no character.
use Rattle.std.proofs.Common.{◌≡◌, ℕ, Bool, true, false, List, None, refl}
use Rattle.std.specs.Str.{IsUtf8, is_utf8}
use Rattle.std.proofs.lemmas.Str.{IsUtf8-from_is_utf8}
use Rattle.md_inlines.specs.Characters.{character}

pub character-none : (bytes : List ℕ) → ¬ (IsUtf8 bytes) → None ≡ character bytes
character-none bytes h = go (is_utf8 bytes) refl
  where
    go : (b : Bool) → is_utf8 bytes ≡ b → None ≡ character bytes
    go true e = absurd (h (IsUtf8-from_is_utf8 bytes e))
    go false e = rw e refl
