-- The lines of a text that is cut after a line, and its events, part by part.
use Rattle.std.proofs.Common.{◌≡◌, ℕ, suc, ◌+◌, Bool, true, false, cond, not, List, [], ◌∷◌, ◌++◌, length, drop}
use Rattle.std.proofs.Common.{refl, ap, ap₂, sym, ◌∙◌, subst, arith, append-nil}
use Rattle.std.specs.Prelude.{◌==◌, ◌&&◌, ◌||◌}
use Rattle.std.specs.List.{onto_first}
use Rattle.md_engine.specs.declared.configuration.ParseOptions.{ParseOptions}
use Rattle.md_engine.specs.declared.event.Event.{Event}
use Rattle.md_meaning.specs.Bytes.{is_end}
use Rattle.md_meaning.specs.Lines.{begins_with, ends_line, full_lines_of, is_ending, without_ending}
use Rattle.md_meaning.proofs.LinesLemmas.{without_ending-cons}
use Rattle.std.proofs.lemmas.List.Sums.{take_while-cons}
use Rattle.md_events.specs.Exact.Places.{TextLine, line_at, lines_from}
use Rattle.std.specs.Prelude.{Option, Some, None}
use Rattle.md_meaning.specs.Containers.{Taken, opens}
use Rattle.md_meaning.specs.Rest.{Rest}
use Rattle.md_meaning.specs.State.{At, Innermost, Leaf, NoLeaf, Path, Within, spot}
use Rattle.proof_exact_lines.specs.Last.{continues_between, last_of}
use Rattle.proof_exact_lines.proofs.ListWalk.{last-item}
use Rattle.md_meaning.specs.Step.{all_continued, all_continued_by, fresh_line, spot_of, step}
use Rattle.md_meaning.specs.Tree.{Blocks, End}
use Rattle.md_meaning.proofs.ContainerLemmas.{opens-leaves}
use Rattle.md_meaning.proofs.TakenLemmas.{LeavesFewer}
use Rattle.md_events.specs.Exact.Places.{line_end, place}
use Rattle.md_events.specs.Exact.Prefixes.{containers}
use Rattle.md_events.specs.Exact.Rows.{ends_from}
use Rattle.proof_exact.specs.Parts.{EndsLine, IsCut, NoItemLast, PartsOneByOne, ReadsOn, open_after, lines_events}
use Rattle.proof_exact.specs.Parts.{nothing_open, part_events, placed_lines}
use Rattle.proof_exact.proofs.LinesParts.{lines-parts}

-- lines, of which there is one
abbrev IsSome : List (List ℕ) → Type 0
IsSome [] = ⊥
IsSome (l ∷ ls) = Unit {0}

onto-some : (b : ℕ) (ls more : List (List ℕ)) → IsSome ls → onto_first b (ls ++ more) ≡ onto_first b ls ++ more
onto-some b [] more h = absurd h
onto-some b (l ∷ ls) more h = refl

some-line : (b : ℕ) (bytes : List ℕ) → IsSome (full_lines_of (b ∷ bytes))
some-line b bytes = go (ends_line b bytes) (full_lines_of bytes)
  where
    go : (x : Bool) (ls : List (List ℕ)) → IsSome (cond x ((b ∷ []) ∷ ls) (onto_first b ls))
    go true ls = tt
    go false [] = tt
    go false (l ∷ ls) = tt

-- an ending that is last ends a line
pub last-ends : (b : ℕ) → is_ending b ≡ true → ends_line b [] ≡ true
last-ends b h = go (b == 10) (b == 13) h
  where
    go : (x y : Bool) → (x || y) ≡ true → (x || (y && true)) ≡ true
    go true y h = refl
    go false true h = refl
    go false false h = h

-- the lines of both, one after the other
pub lines-append : (bytes following : List ℕ) → EndsLine bytes following →
    full_lines_of (bytes ++ following) ≡ full_lines_of bytes ++ full_lines_of following
lines-append [] following h = absurd h
lines-append (b ∷ []) following h =
    ap (λ (x : Bool). cond x ((b ∷ []) ∷ full_lines_of following) (onto_first b (full_lines_of following))) h.0
    ∙ ap (λ (x : Bool). cond x ((b ∷ []) ∷ []) (onto_first b []) ++ full_lines_of following) (sym (last-ends b h.1))
lines-append (b ∷ c ∷ bytes) following h =
    go (ends_line b (c ∷ bytes)) (lines-append (c ∷ bytes) following h)
  where
    go : (x : Bool) → full_lines_of (c ∷ bytes ++ following) ≡ full_lines_of (c ∷ bytes) ++ full_lines_of following →
        cond x ((b ∷ []) ∷ full_lines_of (c ∷ bytes ++ following))
        (onto_first b (full_lines_of (c ∷ bytes ++ following)))
        ≡ cond x ((b ∷ []) ∷ full_lines_of (c ∷ bytes)) (onto_first b (full_lines_of (c ∷ bytes)))
        ++ full_lines_of following
    go true e = ap (λ (ls : List (List ℕ)). (b ∷ []) ∷ ls) e
    go false e =
        ap (onto_first b) e ∙ onto-some b (full_lines_of (c ∷ bytes)) (full_lines_of following) (some-line c bytes)

-- each line has an ending
abbrev HasEnding : List ℕ → Type 0
HasEnding full = is_end (drop (length (without_ending full)) full) ≡ false

abbrev HaveEndings : List (List ℕ) → Type 0
HaveEndings [] = Unit {0}
HaveEndings (l ∷ ls) = HasEnding l × HaveEndings ls

ends-itself : (b : ℕ) (line : List ℕ) → is_ending b ≡ true → HasEnding (b ∷ line)
ends-itself b line e =
    ap (λ (l : List ℕ). is_end (drop (length l) (b ∷ line)))
    (take_while-cons (λ (c : ℕ). not (is_ending c)) b line
    ∙ ap (λ (t : Bool). cond (not t) (b ∷ without_ending line) []) e)

ends-after : (b : ℕ) (line : List ℕ) → is_ending b ≡ false → HasEnding line → HasEnding (b ∷ line)
ends-after b line e h =
    ap (λ (l : List ℕ). is_end (drop (length l) (b ∷ line))) (without_ending-cons b line e) ∙ h

ends-first : (b : ℕ) (ls : List (List ℕ)) → IsSome ls → HaveEndings ls → HaveEndings (onto_first b ls)
ends-first b [] some h = absurd some
ends-first b (l ∷ ls) some h = (go (is_ending b) refl, h.1)
  where
    go : (x : Bool) → is_ending b ≡ x → HasEnding (b ∷ l)
    go true e = ends-itself b l e
    go false e = ends-after b l e h.0

ends-ending : (b : ℕ) (bytes : List ℕ) → ends_line b bytes ≡ true → is_ending b ≡ true
ends-ending b bytes h = go (b == 10) (b == 13) (not (begins_with 10 bytes)) h
  where
    go : (x y z : Bool) → (x || (y && z)) ≡ true → (x || y) ≡ true
    go true y z h = refl
    go false true z h = refl
    go false false z h = h

have-endings : (bytes following : List ℕ) → EndsLine bytes following → HaveEndings (full_lines_of bytes)
have-endings [] following h = absurd h
have-endings (b ∷ []) following h =
    subst (λ (x : Bool). HaveEndings (cond x ((b ∷ []) ∷ []) (onto_first b []))) (sym (last-ends b h.1))
    (ends-itself b [] h.1, tt)
have-endings (b ∷ c ∷ bytes) following h =
    go (ends_line b (c ∷ bytes)) refl (have-endings (c ∷ bytes) following h)
  where
    go : (x : Bool) → ends_line b (c ∷ bytes) ≡ x → HaveEndings (full_lines_of (c ∷ bytes)) →
        HaveEndings (cond x ((b ∷ []) ∷ full_lines_of (c ∷ bytes)) (onto_first b (full_lines_of (c ∷ bytes))))
    go true e more = (ends-itself b [] (ends-ending b (c ∷ bytes) e), more)
    go false e more = ends-first b (full_lines_of (c ∷ bytes)) (some-line c bytes) more

-- Places.

-- how many bytes these lines have
abbrev total : List (List ℕ) → ℕ
total [] = 0
total (l ∷ ls) = length l + total ls

total-first : (b : ℕ) (ls : List (List ℕ)) → total (onto_first b ls) ≡ suc (total ls)
total-first b [] = omega arith
total-first b (l ∷ ls) = omega arith

total-lines : (bytes : List ℕ) → total (full_lines_of bytes) ≡ length bytes
total-lines [] = refl
total-lines (b ∷ bytes) = go (ends_line b bytes) (total-lines bytes)
  where
    go : (x : Bool) → total (full_lines_of bytes) ≡ length bytes →
        total (cond x ((b ∷ []) ∷ full_lines_of bytes) (onto_first b (full_lines_of bytes))) ≡ suc (length bytes)
    go true e = omega (arith, e)
    go false e = total-first b (full_lines_of bytes) ∙ ap (λ (n : ℕ). suc n) e

-- lines, each with its ending, and others after them
placed-append : (number index column : ℕ) (l : List ℕ) (ls more : List (List ℕ)) → HaveEndings (l ∷ ls) →
    lines_from number index column ((l ∷ ls) ++ more)
    ≡ placed_lines number index column (l ∷ ls)
    ++ lines_from (number + length (l ∷ ls)) (index + total (l ∷ ls)) 0 more
placed-append number index column l [] more h =
    ap (λ (x : Bool). line ∷ cond x [] (lines_from (number + 1) (index + length l) 0 more)) h.0
    ∙ ap₂ (λ (n i : ℕ). line ∷ lines_from n i 0 more) (omega arith) (omega arith)
  where
    line : TextLine
    line = line_at number index column l
placed-append number index column l (k ∷ ls) more h =
    ap (λ (x : Bool). line ∷ cond x [] (lines_from (number + 1) (index + length l) 0 ((k ∷ ls) ++ more))) h.0
    ∙ ap (λ (rest : List TextLine). line ∷ rest)
    (placed-append (number + 1) (index + length l) 0 k ls more h.1
    ∙ ap₂ (λ (n i : ℕ). placed_lines (number + 1) (index + length l) 0 (k ∷ ls) ++ lines_from n i 0 more)
    (omega arith) (omega arith))
  where
    line : TextLine
    line = line_at number index column l

pub text-lines : (number index column : ℕ) (bytes following : List ℕ) → EndsLine bytes following →
    lines_from number index column (full_lines_of (bytes ++ following))
    ≡ placed_lines number index column (full_lines_of bytes)
    ++ lines_from (number + length (full_lines_of bytes)) (index + length bytes) 0 (full_lines_of following)
text-lines number index column bytes following h =
    ap (lines_from number index column) (lines-append bytes following h)
    ∙ go (full_lines_of bytes) (some bytes h) (have-endings bytes following h)
    ∙ ap (λ (n : ℕ). placed_lines number index column (full_lines_of bytes)
    ++ lines_from (number + length (full_lines_of bytes)) (index + n) 0 (full_lines_of following)) (total-lines bytes)
  where
    some : (bytes : List ℕ) → EndsLine bytes following → IsSome (full_lines_of bytes)
    some [] h = absurd h
    some (b ∷ bytes) h = some-line b bytes

    go : (ls : List (List ℕ)) → IsSome ls → HaveEndings ls →
        lines_from number index column (ls ++ full_lines_of following)
        ≡ placed_lines number index column ls
        ++ lines_from (number + length ls) (index + total ls) 0 (full_lines_of following)
    go [] some h = absurd some
    go (l ∷ ls) some h = placed-append number index column l ls (full_lines_of following) h

-- After the last ending is one more line, which is empty: it has no events.

abbrev pub empty_rest : ℕ → Rest
empty_rest column = record { column = column; spaces = 0; bytes = [] }

pub none-opens : (options : ParseOptions) (interrupting : Bool) (column : ℕ) →
    opens options interrupting (empty_rest column) ≡ None
none-opens options interrupting column =
    go (opens options interrupting (empty_rest column)) (opens-leaves options interrupting (empty_rest column))
  where
    go : (o : Option Taken) → LeavesFewer o 0 → o ≡ None
    go None h = refl
    go (Some t) h = absurd (omega (arith, h t refl))

-- nothing is open after it
pub empty-step : (options : ParseOptions) (column : ℕ) →
    step options nothing_open (empty_rest column) ≡ nothing_open
unfolding all_continued fresh_line
empty-step options column =
    ap (all_continued_by options (spot_of End) (empty_rest column)) (none-opens options false column)

pub empty-events : (options : ParseOptions) (number index column : ℕ) →
    lines_events options (line_at number index column [] ∷ []) ≡ []
empty-events options number index column =
    ap (λ (p : Path). (ends_from 0 (containers p) (place line (line_end line)) [] ++ []) ++ [])
    (empty-step options column)
  where
    line : TextLine
    line = line_at number index column []

-- Texts.

-- A text after whose lines it may be cut has the events of its lines,
pub part-is : (options : ParseOptions) (number index column : ℕ) (bytes : List ℕ) → EndsLine bytes [] →
    IsCut options (placed_lines number index column (full_lines_of bytes)) →
    part_events options number index column bytes
    ≡ lines_events options (placed_lines number index column (full_lines_of bytes))
part-is options number index column bytes ends cut =
    let lines : List TextLine = placed_lines number index column (full_lines_of bytes) in
    let n : ℕ = number + length (full_lines_of bytes) in
    let i : ℕ = index + length bytes in
    ap (λ (text : List ℕ). lines_events options (lines_from number index column (full_lines_of text)))
    (sym (append-nil bytes))
    ∙ ap (lines_events options) (text-lines number index column bytes [] ends)
    ∙ lines-parts options lines (line_at n i 0 [] ∷ []) cut
    ∙ ap (λ (es : List Event). lines_events options lines ++ es) (empty-events options n i 0)
    ∙ append-nil (lines_events options lines)

pub ends-alone : (bytes following : List ℕ) → EndsLine bytes following → EndsLine bytes []
ends-alone [] following h = h
ends-alone (b ∷ []) following h = (last-ends b h.1, h.1)
ends-alone (b ∷ c ∷ bytes) following h = ends-alone (c ∷ bytes) following h

-- and the whole has those of both, at the places that the second has in the whole.
pub text-parts : (options : ParseOptions) (bytes following : List ℕ) → PartsOneByOne options bytes following
text-parts options bytes following number index column apart cut =
    let lines : List TextLine = placed_lines number index column (full_lines_of bytes) in
    let n : ℕ = number + length (full_lines_of bytes) in
    let i : ℕ = index + length bytes in
    ap (lines_events options) (text-lines number index column bytes following apart)
    ∙ lines-parts options lines (lines_from n i 0 (full_lines_of following)) cut
    ∙ ap (λ (es : List Event). es ++ part_events options n i 0 following)
    (sym (part-is options number index column bytes (ends-alone bytes following apart) cut))

-- So it is with a text that is read on from a place.
pub reads-on : (options : ParseOptions) (text bytes : List ℕ) → ReadsOn options text bytes
reads-on options text bytes number index column apart is cut =
    ap (part_events options number index column) is
    ∙ text-parts options bytes (drop (index + length bytes) text) number index column apart cut

-- Where a text may be cut, by what is open: no container, no leaf, and no item that is last.

pub no-item : (bs : Blocks) → last_of bs ≡ None → NoItemLast bs
no-item bs e m = sym (last-item m bs) ∙ ap (λ (x : Option ℕ). continues_between x (Some m)) e

pub cut-by : (options : ParseOptions) (lines : List TextLine) →
    containers (open_after options nothing_open lines) ≡ [] →
    (spot (open_after options nothing_open lines)).leaf ≡ NoLeaf →
    last_of (spot (open_after options nothing_open lines)).here ≡ None → IsCut options lines
cut-by options lines none leaf last = go (open_after options nothing_open lines) refl none leaf last
  where
    go : (p : Path) → open_after options nothing_open lines ≡ p → containers p ≡ [] → (spot p).leaf ≡ NoLeaf →
        last_of (spot p).here ≡ None → IsCut options lines
    go (Within before c p) e none leaf last = absurd (cc)
    go (At s) e none leaf last = record {
      blocks = s.here;
      shut =
          e ∙ ap (λ (l : Leaf). let t : Innermost = record { here = s.here; leaf = l } in At t) leaf;
      last = no-item s.here last;
    }
