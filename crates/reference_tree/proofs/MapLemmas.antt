-- A list that is made of another, one after another.
use Rattle.std.proofs.Common.{◌≡◌, ℕ, ◌+◌, ◌<◌, List, [], ◌∷◌, ◌++◌, map, take, length, get_or, sym, ◌∙◌, ap}
use Rattle.std.proofs.lemmas.List.{map_push, take_more}

-- one more
pub map-next : {A B C : Type 0} (f : A → C) (g : B → C) (now next : List A) (y : A) (xs : List B) (x : B) (i : ℕ) →
    i < length xs → x ≡ get_or xs i x → next ≡ now ++ y ∷ [] → f y ≡ g x → map f now ≡ map g (take i xs) →
    map f next ≡ map g (take (i + 1) xs)
map-next f g now next y xs x i below reads added same before =
    ap (map f) added
    ∙ map_push f now y
    ∙ ap (λ zs. zs ++ f y ∷ []) before
    ∙ ap (λ z. map g (take i xs) ++ z ∷ []) same
    ∙ sym
    (ap (map g) (take_more xs i x below ∙ ap (λ z. take i xs ++ z ∷ []) (sym reads)) ∙ map_push g (take i xs) x)
