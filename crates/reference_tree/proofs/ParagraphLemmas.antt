-- Definitions and lines that are added one by one.
use Rattle.std.proofs.Common.{◌≡◌, ℕ, ◌-◌, ◌+◌, ◌<◌, cond, Bool, Bor, List, [], ◌∷◌, ◌++◌, map, take, length, get_or}
use Rattle.std.proofs.Common.{reverse, refl, sym, ◌∙◌, ap}
use Rattle.std.specs.List.{prefix_len, suffix_len}
use Rattle.std.proofs.lemmas.List.{take-map, length-map, map-append, map_push, reverse-append, take_more}
use Rattle.md_meaning.specs.Definition as d
use Rattle.md_meaning.specs.Tree as t
use Rattle.md_meaning.specs.State as s
use Rattle.md_meaning.specs.State.{texts, then_block, then_definitions}
use Rattle.reference_tree.specs.declared.definition.Defined.{Defined}
use Rattle.reference_tree.specs.Definitions.{defined_meaning}
use Rattle.reference_tree.specs.Trees.{slices}
use Rattle.reference_tree.specs.declared.state.ParagraphLine.{ParagraphLine}
use Rattle.reference_tree.specs.States.{kept_meaning, kept_meanings}
use Rattle.reference_tree.specs.Paragraphs.{definitions_of}

pub then_definitions_push : (bs : t.Blocks) (ds : List d.Defined) (x : d.Defined) →
    then_definitions bs (ds ++ x ∷ []) ≡
    then_block (then_definitions bs ds) (t.Definition x.label x.destination x.title)
then_definitions_push bs [] x = refl
then_definitions_push bs (y ∷ ds) x =
    then_definitions_push (then_block bs (t.Definition y.label y.destination y.title)) ds x

prefix_len-map : {A B : Type 0} (p : B → Bool) (f : A → B) (xs : List A) →
    prefix_len p (map f xs) ≡ prefix_len (λ x. p (f x)) xs
prefix_len-map p f [] = refl
prefix_len-map p f (x ∷ xs) = ap (λ n. cond (p (f x)) (1 + n) 0) (prefix_len-map p f xs)

reverse-map : {A B : Type 0} (f : A → B) (xs : List A) → reverse (map f xs) ≡ map f (reverse xs)
reverse-map f [] = refl
reverse-map f (x ∷ xs) =
    reverse-append (f x ∷ []) (map f xs) ∙ ap (λ ys. ys ++ f x ∷ []) (reverse-map f xs)
    ∙ sym (ap (map f) (reverse-append (x ∷ []) xs) ∙ map-append f (reverse xs) (x ∷ []))

-- so many pass at the end, also once each has been changed
pub suffix_len-map : {A B : Type 0} (p : B → Bool) (f : A → B) (xs : List A) →
    suffix_len p (map f xs) ≡ suffix_len (λ x. p (f x)) xs
suffix_len-map p f xs = ap (prefix_len p) (reverse-map f xs) ∙ prefix_len-map p f (reverse xs)

-- without those at the end that pass
pub without_suffix-map : {A B : Type 0} (p : B → Bool) (f : A → B) (xs : List A) →
    map f (take (length xs - suffix_len (λ x. p (f x)) xs) xs) ≡
    take (length (map f xs) - suffix_len p (map f xs)) (map f xs)
without_suffix-map p f xs =
    sym (take-map f (length xs - suffix_len (λ x. p (f x)) xs) xs)
    ∙ ap (λ n. take n (map f xs))
    (sym (ap (λ n. n - suffix_len p (map f xs)) (length-map xs f) ∙ ap (λ n. length xs - n) (suffix_len-map p f xs)))

-- one definition more
pub definitions-next : (bs now next : t.Blocks) (ds : List Defined) (x : Defined) →
    now ≡ then_definitions bs (definitions_of ds) →
    next ≡
    then_block now
    (t.Definition (defined_meaning x).label (defined_meaning x).destination (defined_meaning x).title) →
    next ≡ then_definitions bs (definitions_of (ds ++ x ∷ []))
definitions-next bs now next ds x before added =
    added
    ∙ ap
    (λ b.
    then_block b (t.Definition (defined_meaning x).label (defined_meaning x).destination (defined_meaning x).title))
    before
    ∙ sym
    (ap (then_definitions bs) (map-append defined_meaning ds (x ∷ []))
    ∙ then_definitions_push bs (definitions_of ds) (defined_meaning x))

-- the text of one line more
pub texts-next : (now next : List (Bor (List ℕ))) (lines : List ParagraphLine) (d : ParagraphLine) (i : ℕ) →
    i < length lines → next ≡ now ++ (get_or lines i d).text ∷ [] →
    slices now ≡ texts (kept_meanings (take i lines)) → slices next ≡ texts (kept_meanings (take (i + 1) lines))
texts-next now next lines d i below added before =
    ap (λ xs. slices xs) added
    ∙ map_push (λ (b : Bor (List ℕ)). b.now) now (get_or lines i d).text
    ∙ ap (λ ts. ts ++ (get_or lines i d).text.now ∷ []) before
    ∙ sym
    (ap (λ ks. texts (kept_meanings ks)) (take_more lines i d below)
    ∙ ap texts (map_push kept_meaning (take i lines) (get_or lines i d))
    ∙ map_push (λ (k : s.ParagraphLine). k.text) (kept_meanings (take i lines)) (kept_meaning (get_or lines i d)))
