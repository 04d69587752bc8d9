-- Rows that the check computes: what is read of a part (2.2, 4.8, 5.1, 6.8), of which each line is from one byte to
-- another, without the prefixes of containers.
use Rattle.std.proofs.Common.{◌≡◌, ℕ, List, [], ◌∷◌, ◌++◌, refl}
use Rattle.std.specs.Prelude.{codes}
use Rattle.md_engine.specs.declared.event.Point.{Point}
use Rattle.md_events.specs.declared.inline.Chunk.{Chunk}
use Rattle.md_events.specs.declared.inline.PartKind.TheVariants as kind
use Rattle.md_inline_events.specs.Woven.{read_text}

-- lines and columns are not asked for
abbrev at : ℕ → Point
at index = record { line = 1; column = 1; index = index; vs = 0 }

abbrev chunk : ℕ → ℕ → Chunk
chunk first after = record { first = at first; after = at after }

abbrev text_of : List ℕ → List Chunk → List ℕ
text_of bytes chunks = read_text bytes (record { kind = kind.Text; chunks = chunks })

abbrev string_of : List ℕ → List Chunk → List ℕ
string_of bytes chunks = read_text bytes (record { kind = kind.String; chunks = chunks })

row_quote : text_of (codes "> a " ++ 10 ∷ codes ">  b ") (chunk 2 5 ∷ chunk 6 10 ∷ []) ≡ codes "a " ++ 10 ∷ codes "b"
row_quote = refl

row_lazy : text_of (codes "> a" ++ 10 ∷ codes "  b") (chunk 2 4 ∷ chunk 4 7 ∷ []) ≡ codes "a" ++ 10 ∷ codes "b"
row_lazy = refl

row_tabs : text_of (9 ∷ codes "a" ++ 9 ∷ 10 ∷ 9 ∷ codes "b" ++ 9 ∷ []) (chunk 0 4 ∷ chunk 4 7 ∷ []) ≡
    codes "a" ++ 9 ∷ 10 ∷ codes "b"
row_tabs = refl

row_return : text_of (codes "a" ++ 13 ∷ codes "b") (chunk 0 2 ∷ chunk 2 3 ∷ []) ≡ codes "a" ++ 10 ∷ codes "b"
row_return = refl

row_return_feed : text_of (codes "a" ++ 13 ∷ 10 ∷ codes "b") (chunk 0 3 ∷ chunk 3 4 ∷ []) ≡
    codes "a" ++ 10 ∷ codes "b"
row_return_feed = refl

-- a title over two lines
row_string : string_of (codes " a " ++ 10 ∷ codes "  b ") (chunk 0 4 ∷ chunk 4 8 ∷ []) ≡
    codes " a " ++ 10 ∷ codes "b "
row_string = refl
