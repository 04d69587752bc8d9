-- Lines of an outline that are said something, or taken away, and the last of a list.
use Rattle.std.proofs.Common.{◌≡◌, ℕ, ◌+◌, ◌-◌, ◌<◌, List, [], ◌∷◌, ◌++◌, length, map, take, get_or, refl, sym, ◌∙◌, ap}
use Rattle.std.proofs.Common.{arith}
use Rattle.std.specs.Prelude.{set}
use Rattle.std.proofs.lemmas.List.{get_or-map, get_or_at, length-append, length-map, map-set, set_at, take-map, take_at}
use Rattle.md_meaning.specs.declared.outline.OutlineLine.{OutlineLine}
use Rattle.md_meaning.specs.declared.outline.Word.{Word}
use Rattle.md_meaning.specs.declared.outline.Word.TheVariants as word
use Rattle.md_meaning.specs.Outline.{Entry, entry, entry_of}
use Rattle.md_events.specs.Events.Spelled.{on_last}
use Rattle.md_outline.specs.LinedState.{with_head, without_end}

-- the line of a word is said more
pub line-headed : (lines : List OutlineLine) (place : ℕ) (f : Word → Word) (from to : OutlineLine) (w : Word) →
    place < length lines → w ≡ f from.word → from ≡ get_or lines place from → to ≡ get_or lines place to →
    map entry_of (set lines place (record to { word = w })) ≡ with_head f place (map entry_of lines)
line-headed lines place f from to w within is efrom eto =
    let es : List Entry = map entry_of lines in
    let old : Entry = get_or es place (entry 0 word.Item) in
    let at : Entry → List Entry = λ e. set es place e in
    let same : (line : OutlineLine) → line ≡ get_or lines place line → entry_of line ≡ old = λ line e.
    ap entry_of e ∙ sym (get_or-map entry_of lines place line (entry 0 word.Item) within) in
    map-set entry_of lines place (record to { word = w })
    ∙ ap (λ k. at (record (entry_of to) { word = k })) (is ∙ ap (λ (e : Entry). f e.word) (same from efrom))
    ∙ ap (λ (e : Entry). at (record e { word = f old.word })) (same to eto)

-- the last line is taken away
pub end-dropped : (lines new : List OutlineLine) (n len : ℕ) → new ≡ take n lines → n ≡ len - 1 → len ≡ length lines →
    map entry_of new ≡ without_end (map entry_of lines)
end-dropped lines new n len is en elen =
    let same : length (map entry_of lines) ≡ length lines = length-map lines entry_of in
    ap (map entry_of) is ∙ sym (take-map entry_of n lines)
    ∙ ap (λ k. take k (map entry_of lines)) (omega (arith, en, elen, same))

-- after other lines, and before others
pub head-recorded : (f : Word → Word) (before following : List Entry) (e : Entry) →
    with_head f (length before) (before ++ e ∷ following) ≡ before ++ record e { word = f e.word } ∷ following
head-recorded f before following e =
    ap (λ (x : Entry). set (before ++ e ∷ following) (length before) (record x { word = f x.word }))
    (get_or_at before e following (entry 0 word.Item) (length before) refl)
    ∙ set_at before e following (record e { word = f e.word }) (length before) refl

pub end-taken : (lines : List Entry) (e : Entry) → without_end (lines ++ e ∷ []) ≡ lines
end-taken lines e =
    let long : length (lines ++ e ∷ []) ≡ length lines + 1 = length-append lines (e ∷ []) in
    take_at lines (e ∷ []) (length (lines ++ e ∷ []) - 1) (omega (arith, long))

-- the last item of a list is changed
pub on-last : {A : Type 0} (f : A → A) (xs : List A) (x : A) → on_last f (xs ++ x ∷ []) ≡ xs ++ f x ∷ []
on-last f [] x = refl
on-last f (y ∷ []) x = refl
on-last f (y ∷ z ∷ xs) x = ap (λ ys. y ∷ ys) (on-last f (z ∷ xs) x)
