-- The labels that a text has from a point on are those of a part, and then those from the next part on.
use Rattle.std.proofs.Common.{◌≡◌, ℕ, ◌+◌, ◌<◌, Bool, true, false, cond, not, List, [], ◌∷◌, ◌++◌, length, map}
use Rattle.std.proofs.Common.{refl, ap, ap₂, sym, ◌∙◌, arith}
use Rattle.std.specs.List.{onto_first}
use Rattle.std.proofs.lemmas.List.{length-map, map-append}
use Rattle.std.proofs.lemmas.List.Sums.{take_while-cons}
use Rattle.md_engine.specs.declared.configuration.ParseOptions.{ParseOptions}
use Rattle.md_meaning.specs.Grouped.{grouped}
use Rattle.md_meaning.specs.Label.{Labels, both, labels}
use Rattle.md_meaning.specs.Lines.{ends_line, full_lines_of, is_ending, lines_of, without_ending}
use Rattle.md_meaning.specs.Preamble.{rest_at, rests_at}
use Rattle.md_meaning.specs.Rest.{Rest}
use Rattle.md_meaning.specs.State.{closed}
use Rattle.md_meaning.specs.Step.{steps}
use Rattle.md_meaning.specs.Tree.{Blocks}
use Rattle.md_events.specs.Exact.Places.{TextLine, whole}
use Rattle.proof_content_laws.proofs.Labels.Trees.{grouped-defined, grouped-noted}
use Rattle.proof_exact.specs.Parts.{AreTwoTrees, BeginsEmpty, EndsLine, IsCut, IsTextCut, empty_line, lines_blocks}
use Rattle.proof_exact.specs.Parts.{nothing_open, placed_lines}
use Rattle.proof_exact.proofs.TextCut.{tree-text}
use Rattle.proof_exact.proofs.TextParts.{ends-alone, lines-append}
use Rattle.proof_exact.proofs.TreeParts.{labels-joined, tree-parts}
use Rattle.markdown_blocks.specs.PartRead.{labels_listed}
use Rattle.markdown_blocks.proofs.LineWaits.{some-lines}

-- Lines at their places, and what is left of each.

placed-further : (number index : ℕ) (fulls : List (List ℕ)) →
    map whole (placed_lines number index 0 fulls) ≡ map (rest_at 0) (map without_ending fulls)
placed-further number index [] = refl
placed-further number index (full ∷ more) =
    ap (λ (rs : List Rest). rest_at 0 (without_ending full) ∷ rs)
    (placed-further (number + 1) (index + length full) more)

placed-whole : (number index column : ℕ) (fulls : List (List ℕ)) →
    map whole (placed_lines number index column fulls) ≡ rests_at column (map without_ending fulls)
placed-whole number index column [] = refl
placed-whole number index column (full ∷ more) =
    ap (λ (rs : List Rest). rest_at column (without_ending full) ∷ rs)
    (placed-further (number + 1) (index + length full) more)

-- lines before others
rests-append : (column : ℕ) (ls ms : List (List ℕ)) → 0 < length ls →
    rests_at column (ls ++ ms) ≡ rests_at column ls ++ map (rest_at 0) ms
rests-append column [] ms some = absurd (omega (arith, some))
rests-append column (l ∷ ls) ms some =
    ap (λ (rs : List Rest). rest_at column l ∷ rs) (map-append (rest_at 0) ls ms)

-- a line of these bytes, and no ending
abbrev line_of : List ℕ → TextLine
line_of own = record { number = 0; index = 0; column = 0; bytes = own; ending = [] }

line-rests : (owns : List (List ℕ)) → map whole (map line_of owns) ≡ map (rest_at 0) owns
line-rests [] = refl
line-rests (own ∷ owns) = ap (λ (rs : List Rest). rest_at 0 own ∷ rs) (line-rests owns)

-- An empty line is first.

without-first : (b : ℕ) (line : List ℕ) → is_ending b ≡ true → without_ending (b ∷ line) ≡ []
without-first b line e =
    take_while-cons (λ (c : ℕ). not (is_ending c)) b line
    ∙ ap (λ (t : Bool). cond (not t) (b ∷ without_ending line) []) e

record EmptyFirst (lines : List (List ℕ)) : Type 0 where
  owns : List (List ℕ)
  are : lines ≡ [] ∷ owns

empty-first : (b : ℕ) (bytes : List ℕ) → is_ending b ≡ true → EmptyFirst (lines_of (b ∷ bytes))
empty-first b bytes e = go (ends_line b bytes) (full_lines_of bytes)
  where
    go : (x : Bool) (ls : List (List ℕ)) →
        EmptyFirst (map without_ending (cond x ((b ∷ []) ∷ ls) (onto_first b ls)))
    go true ls = record {
      owns = map without_ending ls;
      are = ap (λ (l : List ℕ). l ∷ map without_ending ls) (without-first b [] e);
    }
    go false [] = record { owns = []; are = ap (λ (l : List ℕ). l ∷ []) (without-first b [] e) }
    go false (l ∷ ls) = record {
      owns = map without_ending ls;
      are = ap (λ (l : List ℕ). l ∷ map without_ending ls) (without-first b l e);
    }

begins-empty : (bytes : List ℕ) → BeginsEmpty bytes → EmptyFirst (lines_of bytes)
begins-empty [] begins = absurd begins
begins-empty (b ∷ bytes) begins = empty-first b bytes begins

-- Labels.

-- lists change none
grouped-same : (bs : Blocks) → labels (grouped bs) ≡ labels bs
grouped-same bs =
    ap₂ (λ (d f : List (List ℕ)). let l : Labels = record { definitions = d; footnotes = f } in l) (grouped-defined bs)
    (grouped-noted bs)

-- those of the blocks of these lines, of which the first begins in this column
abbrev labels_by : ParseOptions → ℕ → List (List ℕ) → Labels
labels_by options column lines = labels (closed options (steps options nothing_open (rests_at column lines)))

rests-further : (lines : List (List ℕ)) → map (rest_at 0) lines ≡ rests_at 0 lines
rests-further [] = refl
rests-further (line ∷ lines) = refl

-- where the tree of all lines is that of the first ones and then of the others
labels-two : (options : ParseOptions) (number index column : ℕ) (bytes following : List ℕ) →
    EndsLine bytes following → (more : List TextLine) → map whole more ≡ map (rest_at 0) (lines_of following) →
    AreTwoTrees options (placed_lines number index column (full_lines_of bytes)) more →
    labels_by options column (lines_of (bytes ++ following))
    ≡ both (labels_by options column (lines_of bytes)) (labels_by options 0 (lines_of following))
labels-two options number index column bytes following ends more are two =
    ap (λ (rs : List Rest). labels (closed options (steps options nothing_open rs))) (sym all)
    ∙ sym (grouped-same (lines_blocks options (lines ++ more)))
    ∙ ap labels two
    ∙ labels-joined (grouped (lines_blocks options lines)) (grouped (lines_blocks options more))
    ∙ ap₂ both (grouped-same (lines_blocks options lines)) (grouped-same (lines_blocks options more))
    ∙ ap₂ both
    (ap (λ (rs : List Rest). labels (closed options (steps options nothing_open rs)))
    (placed-whole number index column (full_lines_of bytes)))
    (ap (λ (rs : List Rest). labels (closed options (steps options nothing_open rs)))
    (are ∙ rests-further (lines_of following)))
  where
    lines : List TextLine
    lines = placed_lines number index column (full_lines_of bytes)

    some : 0 < length (lines_of bytes)
    some =
        let size = length-map (full_lines_of bytes) without_ending in
        let one = some-lines bytes (ends-alone bytes following ends) in
        omega (arith, size, one)

    all : map whole (lines ++ more) ≡ rests_at column (lines_of (bytes ++ following))
    all =
        map-append whole lines more
        ∙ ap₂ (λ (rs ss : List Rest). rs ++ ss) (placed-whole number index column (full_lines_of bytes)) are
        ∙ sym (rests-append column (lines_of bytes) (lines_of following) some)
        ∙ ap (rests_at column)
        (sym (map-append without_ending (full_lines_of bytes) (full_lines_of following))
        ∙ ap (map without_ending) (sym (lines-append bytes following ends)))

-- before an empty line that ends a paragraph,
pub labels-cut : (options : ParseOptions) (number index column : ℕ) (bytes following : List ℕ) →
    EndsLine bytes following → BeginsEmpty following →
    IsTextCut options (placed_lines number index column (full_lines_of bytes)) →
    labels_by options column (lines_of (bytes ++ following))
    ≡ both (labels_by options column (lines_of bytes)) (labels_by options 0 (lines_of following))
labels-cut options number index column bytes following ends begins cut =
    let first : EmptyFirst (lines_of following) = begins-empty following begins in
    labels-two options number index column bytes following ends (empty_line 0 0 0 [] ∷ map line_of first.owns)
    (ap (λ (rs : List Rest). rest_at 0 [] ∷ rs) (line-rests first.owns) ∙ ap (map (rest_at 0)) (sym first.are))
    (tree-text options (placed_lines number index column (full_lines_of bytes)) 0 0 0 [] (map line_of first.owns)
    cut)

-- and where nothing is open, and no item is last
pub labels-after : (options : ParseOptions) (number index column : ℕ) (bytes following : List ℕ) →
    EndsLine bytes following → IsCut options (placed_lines number index column (full_lines_of bytes)) →
    labels_by options column (lines_of (bytes ++ following))
    ≡ both (labels_by options column (lines_of bytes)) (labels_by options 0 (lines_of following))
labels-after options number index column bytes following ends cut =
    labels-two options number index column bytes following ends (map line_of (lines_of following))
    (line-rests (lines_of following))
    (tree-parts options (placed_lines number index column (full_lines_of bytes)) (map line_of (lines_of following))
    cut)

-- those that are listed are all, where there are none of footnotes that are off
pub listed-all : (options : ParseOptions) (all : Labels) →
    (options.constructs.gfm_footnote_definition ≡ false → all.footnotes ≡ []) → labels_listed options all ≡ all
listed-all options all none = go options.constructs.gfm_footnote_definition refl
  where
    go : (x : Bool) → options.constructs.gfm_footnote_definition ≡ x →
        (let l : Labels = record { definitions = all.definitions; footnotes = cond x all.footnotes [] } in l) ≡ all
    go true e = refl
    go false e =
        ap
        (λ (f : List (List ℕ)). let l : Labels = record { definitions = all.definitions; footnotes = f } in l)
        (sym (none e))

-- where there are none of two, there are none of each
pub none-first : (xs ys : List (List ℕ)) → xs ++ ys ≡ [] → xs ≡ []
none-first [] ys e = refl
none-first (x ∷ xs) ys e = cc

pub none-second : (xs ys : List (List ℕ)) → xs ++ ys ≡ [] → ys ≡ []
none-second [] ys e = e
none-second (x ∷ xs) ys e = cc
