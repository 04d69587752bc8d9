-- The leaves of lines one after the other: those of the first lines, and then those of the others, where the first of
-- these continues no leaf.
use Rattle.std.proofs.Common.{◌≡◌, Bool, true, false, cond, List, [], ◌∷◌, ◌++◌, refl, ap, ◌∙◌}
use Rattle.md_events.specs.Exact.Blocks.{is_continued, grouped, onto}
use Rattle.md_events.specs.Exact.Rows.{Row, next_role}

-- a line before a leaf that it is not one with
onto-group : (x y : Row) (ys : List Row) (gs : List (List Row)) → is_continued y.role ≡ false →
    onto x ((y ∷ ys) ∷ gs) ≡ (x ∷ []) ∷ (y ∷ ys) ∷ gs
onto-group x y ys gs e =
    ap (λ (t : Bool). cond t ((x ∷ y ∷ ys) ∷ gs) ((x ∷ []) ∷ (y ∷ ys) ∷ gs)) e

onto-apart : (x : Row) (rows : List Row) → is_continued (next_role rows) ≡ false →
    onto x (grouped rows) ≡ (x ∷ []) ∷ grouped rows
onto-apart x [] e = refl
onto-apart x (y ∷ rows) e = go (grouped rows)
  where
    go : (gs : List (List Row)) → onto x (onto y gs) ≡ (x ∷ []) ∷ onto y gs
    go [] = onto-group x y [] [] e
    go ([] ∷ gs) = onto-group x y [] ([] ∷ gs) e
    go ((z ∷ zs) ∷ gs) = by (is_continued z.role)
      where
        by : (t : Bool) →
            onto x (cond t ((y ∷ z ∷ zs) ∷ gs) ((y ∷ []) ∷ (z ∷ zs) ∷ gs))
            ≡ (x ∷ []) ∷ cond t ((y ∷ z ∷ zs) ∷ gs) ((y ∷ []) ∷ (z ∷ zs) ∷ gs)
        by true = onto-group x y (z ∷ zs) gs e
        by false = onto-group x y [] ((z ∷ zs) ∷ gs) e

onto-append : (x : Row) (g : List Row) (gs hs : List (List Row)) → onto x ((g ∷ gs) ++ hs) ≡ onto x (g ∷ gs) ++ hs
onto-append x [] gs hs = refl
onto-append x (y ∷ ys) gs hs = go (is_continued y.role)
  where
    go : (t : Bool) →
        cond t ((x ∷ y ∷ ys) ∷ gs ++ hs) ((x ∷ []) ∷ (y ∷ ys) ∷ gs ++ hs)
        ≡ cond t ((x ∷ y ∷ ys) ∷ gs) ((x ∷ []) ∷ (y ∷ ys) ∷ gs) ++ hs
    go true = refl
    go false = refl

onto-some : (x y : Row) (gs hs : List (List Row)) → onto x (onto y gs ++ hs) ≡ onto x (onto y gs) ++ hs
onto-some x y [] hs = onto-append x (y ∷ []) [] hs
onto-some x y ([] ∷ gs) hs = onto-append x (y ∷ []) ([] ∷ gs) hs
onto-some x y ((z ∷ zs) ∷ gs) hs = by (is_continued z.role)
  where
    by : (t : Bool) →
        onto x (cond t ((y ∷ z ∷ zs) ∷ gs) ((y ∷ []) ∷ (z ∷ zs) ∷ gs) ++ hs)
        ≡ onto x (cond t ((y ∷ z ∷ zs) ∷ gs) ((y ∷ []) ∷ (z ∷ zs) ∷ gs)) ++ hs
    by true = onto-append x (y ∷ z ∷ zs) gs hs
    by false = onto-append x (y ∷ []) ((z ∷ zs) ∷ gs) hs

pub grouped-append : (xs ys : List Row) → is_continued (next_role ys) ≡ false →
    grouped (xs ++ ys) ≡ grouped xs ++ grouped ys
grouped-append [] ys e = refl
grouped-append (x ∷ []) ys e = onto-apart x ys e
grouped-append (x ∷ y ∷ xs) ys e =
    ap (onto x) (grouped-append (y ∷ xs) ys e) ∙ onto-some x y (grouped xs) (grouped ys)
