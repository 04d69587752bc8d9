-- Lists of spans side by side, and what is written into them.
use Rattle.std.proofs.Common.{◌≡◌, ℕ, zero, suc, ◌+◌, ◌-◌, ◌*◌, ◌<◌, ◌≤◌, Bool, true, false, cond, List, [], ◌∷◌, ◌++◌}
use Rattle.std.proofs.Common.{length, refl, ap, sym, ◌∙◌, subst, append_assoc, arith}
use Rattle.std.specs.Prelude.{nat_lt, set}
use Rattle.std.proofs.lemmas.Bool.Decides.{nat_tests}
use Rattle.std.proofs.lemmas.List.{append-nil, length-append}
use Rattle.std.proofs.Math.Seq.{set-append_seam}
use Rattle.md_engine.specs.declared.event.Name.{Name}
use Rattle.md_engine.specs.declared.event.Name.TheVariants as n
use Rattle.md_inline_events.specs.Forest.{Forest, nothing, over, part, piece, size}
use Rattle.md_inlines.specs.Atoms.{beside, is_data}
use Rattle.md_inlines.specs.Emphasis.{Item, enclosed, level, read, run}
use Rattle.proof_inlines.specs.Sized.{items_size}
use Rattle.proof_inlines.proofs.SizeLemmas.{over-size, part-size, piece-size}
use Rattle.markdown_inlines.specs.declared.attention.Names.{Names}
use Rattle.markdown_inlines.specs.declared.attention.PlacedRun.{PlacedRun}
use Rattle.markdown_inlines.specs.declared.span.Span.{Span}
use Rattle.markdown_inlines.specs.Filled.{Filled, end_spans, pair_spans, room, width}
use Rattle.markdown_inlines.specs.Spans.{hole, holes, live, shown, span_of, spans_forest, unless_data, write}

-- Over how many bytes forests are.

pub beside-size : (a b : Forest) → size (beside a b) ≡ size a + size b
beside-size nothing b = omega arith
beside-size (piece name more following) b =
    omega (
      arith,
      piece-size name more (beside following b),
      piece-size name more following,
      beside-size following b,
    )
beside-size (part name inside following) b =
    omega (
      arith,
      part-size name inside (beside following b),
      part-size name inside following,
      beside-size following b,
    )

pub level-size : (items : List Item) → size (level items) ≡ items_size items
level-size [] = refl
level-size (read forest ∷ items) = omega (arith, beside-size forest (level items), level-size items)
level-size (run r ∷ items) = omega (arith, over-size n.Data r.left (level items), level-size items)

pub enclosed-size : (whole sequence text : Name) (count : ℕ) (inside : Forest) →
    size (enclosed whole sequence text count inside) ≡ count + (size inside + count)
enclosed-size whole sequence text count inside =
    omega (
      arith,
      part-size whole (over sequence count (part text inside (over sequence count nothing))) nothing,
      over-size sequence count (part text inside (over sequence count nothing)),
      part-size text inside (over sequence count nothing),
      over-size sequence count nothing,
    )

-- Spans that are over a byte, and places that are kept.

pub live-append : (xs ys : List Span) → live (xs ++ ys) ≡ live xs ++ live ys
live-append [] ys = refl
live-append (span ∷ xs) ys =
    ap (λ (l : List Span). shown span ++ l) (live-append xs ys) ∙ sym (append_assoc (shown span) (live xs) (live ys))

pub live-holes : (count : ℕ) → live (holes count) ≡ []
live-holes zero = refl
live-holes (suc count) = live-holes count

pub length-holes : (count : ℕ) → length (holes count) ≡ count
length-holes zero = refl
length-holes (suc count) = ap suc (length-holes count)

pub holes-append : (a b c : ℕ) → c ≡ a + b → holes c ≡ holes a ++ holes b
holes-append zero b c h = ap holes (omega (arith, h))
holes-append (suc a) b zero h = absurd (omega (arith, h))
holes-append (suc a) b (suc c) h = ap (λ (l : List Span). hole ∷ l) (holes-append a b c (omega (arith, h)))

-- three at once
pub three-more : (spans : List Span) (left : ℕ) → 3 ≤ left →
    (spans ++ (hole ∷ hole ∷ hole ∷ [])) ++ holes (left - 3) ≡ spans ++ holes left
three-more spans left h =
    append_assoc spans (hole ∷ hole ∷ hole ∷ []) (holes (left - 3))
    ∙ ap (λ (l : List Span). spans ++ l) (sym (holes-append 3 (left - 3) left (omega (arith, h))))

-- those of a run, three for each byte if it may open
pub run-places : (left : ℕ) (spans : List Span) (x : Bool) → x ≡ true →
    ((spans ++ holes left) ++ holes left) ++ holes left ≡ spans ++ holes (left * width x)
run-places left spans true h =
    three spans (holes left)
    ∙ ap (λ (l : List Span). spans ++ l)
    (ap (λ (l : List Span). holes left ++ l) (sym (holes-append left left (left + left) refl))
    ∙ sym (holes-append left (left + left) (left * 3) (omega arith)))
  where
    three : (a b : List Span) → ((a ++ b) ++ b) ++ b ≡ a ++ (b ++ (b ++ b))
    three a b = grind (arith, append_assoc)
run-places left spans false h = cc

pub run-place : (left : ℕ) (spans : List Span) (x : Bool) → x ≡ false →
    spans ++ holes left ≡ spans ++ holes (left * width x)
run-place left spans true h = cc
run-place left spans false h =
    let one : left ≡ left * 1 = omega arith in ap (λ (k : ℕ). spans ++ holes k) one

-- The spans of a forest.

pub both : (xs ys s t : List Span) → xs ≡ s → ys ≡ t → xs ++ ys ≡ s ++ t
both xs ys s t h k = ap (λ (l : List Span). l ++ ys) h ∙ ap (λ (l : List Span). s ++ l) k

pub spans-at : (forest : Forest) (a b : ℕ) → a ≡ b → spans_forest a forest ≡ spans_forest b forest
spans-at forest a b h = ap (λ (at : ℕ). spans_forest at forest) h

pub shown-at : (name : Name) (a b c d : ℕ) → a ≡ c → b ≡ d → shown (span_of name a b) ≡ shown (span_of name c d)
shown-at name a b c d h k =
    ap (λ (at : ℕ). shown (span_of name at b)) h ∙ ap (λ (at : ℕ). shown (span_of name c at)) k

shown-none : (name : Name) (a b : ℕ) → b ≤ a → shown (span_of name a b) ≡ []
shown-none name a b h = go (nat_lt a b) refl
  where
    go : (x : Bool) → nat_lt a b ≡ x → cond x (span_of name a b ∷ []) [] ≡ []
    go true is = let less : a < b = grind (arith, nat_tests) in absurd (omega (arith, h, less))
    go false is = refl

pub spans-beside : (at : ℕ) (a b : Forest) →
    spans_forest at (beside a b) ≡ spans_forest at a ++ spans_forest (at + size a) b
spans-beside at nothing b = spans-at b at (at + 0) (omega arith)
spans-beside at (piece name more following) b =
    ap (λ (l : List Span). first ++ l)
    (spans-beside (at + suc more) following b
    ∙ ap (λ (l : List Span). spans_forest (at + suc more) following ++ l)
    (spans-at b ((at + suc more) + size following) (at + size (piece name more following))
    (omega (arith, piece-size name more following))))
    ∙ sym
    (append_assoc first (spans_forest (at + suc more) following)
    (spans_forest (at + size (piece name more following)) b))
  where
    first : List Span
    first = unless_data (is_data name) (shown (span_of name at (at + suc more)))
spans-beside at (part name inside following) b =
    ap (λ (l : List Span). first ++ (spans_forest at inside ++ l))
    (spans-beside (at + size inside) following b
    ∙ ap (λ (l : List Span). spans_forest (at + size inside) following ++ l)
    (spans-at b ((at + size inside) + size following) (at + size (part name inside following))
    (omega (arith, part-size name inside following))))
    ∙ ap (λ (l : List Span). first ++ l)
    (sym (append_assoc (spans_forest at inside) (spans_forest (at + size inside) following) rest))
    ∙ sym (append_assoc first (spans_forest at inside ++ spans_forest (at + size inside) following) rest)
  where
    first : List Span
    first = shown (span_of name at (at + size inside))

    rest : List Span
    rest = spans_forest (at + size (part name inside following)) b

pub spans-over : (at : ℕ) (name : Name) (count : ℕ) (following : Forest) →
    spans_forest at (over name count following) ≡
    unless_data (is_data name) (shown (span_of name at (at + count))) ++ spans_forest (at + count) following
spans-over at name zero following =
    spans-at following at (at + 0) (omega arith)
    ∙ ap (λ (l : List Span). l ++ spans_forest (at + 0) following)
    (sym (none (is_data name)) ∙ ap (unless_data (is_data name)) (sym (shown-none name at (at + 0) (omega arith))))
  where
    none : (x : Bool) → unless_data x [] ≡ []
    none true = refl
    none false = refl
spans-over at name (suc more) following = refl

-- a pair's part, whose text ends at `close`
spans-enclosed : (at : ℕ) (names : Names) (count : ℕ) (inside : Forest) (close : ℕ) → is_data names.sequence ≡ false →
    close ≡ (at + count) + size inside →
    spans_forest at (enclosed names.whole names.sequence names.text count inside) ≡
    shown (span_of names.whole at (close + count))
    ++ (shown (span_of names.sequence at (at + count))
    ++ (shown (span_of names.text (at + count) close)
    ++ (spans_forest (at + count) inside ++ shown (span_of names.sequence close (close + count)))))
spans-enclosed at names count inside close marked h =
    ap (λ (l : List Span). shown (span_of names.whole at (at + size all)) ++ l) (append-nil (spans_forest at all))
    ∙ both (shown (span_of names.whole at (at + size all))) (spans_forest at all)
    (shown (span_of names.whole at (close + count))) _
    (shown-at names.whole at (at + size all) at (close + count) refl
    (omega (
      arith,
      h,
      over-size names.sequence count text,
      part-size names.text inside tail,
      over-size names.sequence count nothing,
    )))
    (over-named at text
    ∙ ap (λ (l : List Span). shown (span_of names.sequence at (at + count)) ++ l)
    (both (shown (span_of names.text (at + count) ((at + count) + size inside))) _
    (shown (span_of names.text (at + count) close)) _
    (shown-at names.text (at + count) ((at + count) + size inside) (at + count) close refl (sym h))
    (ap (λ (l : List Span). spans_forest (at + count) inside ++ l)
    (spans-at tail ((at + count) + size inside) close (sym h)
    ∙ over-named close nothing
    ∙ append-nil (shown (span_of names.sequence close (close + count)))))))
  where
    tail : Forest
    tail = over names.sequence count nothing

    text : Forest
    text = part names.text inside tail

    all : Forest
    all = over names.sequence count text

    over-named : (at : ℕ) (following : Forest) →
        spans_forest at (over names.sequence count following) ≡
        shown (span_of names.sequence at (at + count)) ++ spans_forest (at + count) following
    over-named at following =
        spans-over at names.sequence count following
        ∙ ap (λ (x : Bool). unless_data x (shown (span_of names.sequence at (at + count)))
        ++ spans_forest (at + count) following) marked

-- The spans of a pair are written into the places that were kept for it: what is final inside stays as it is.
pub live-enclosed : (at : ℕ) (names : Names) (count : ℕ) (inside : Forest) (close spare other : ℕ)
    (inner : List Span) → is_data names.sequence ≡ false → close ≡ (at + count) + size inside →
    live inner ≡ spans_forest (at + count) inside →
    live ((pair_spans names count at close ++ holes spare) ++ (inner ++ (end_spans names count close ++ holes other))) ≡
    spans_forest at (enclosed names.whole names.sequence names.text count inside)
live-enclosed at names count inside close spare other inner marked h i =
    ap (λ (l : List Span). shown (span_of names.whole at (close + count))
    ++ (shown (span_of names.sequence at (at + count)) ++ (shown (span_of names.text (at + count) close) ++ l)))
    (live-append (holes spare) (inner ++ ends)
    ∙ ap (λ (l : List Span). l ++ live (inner ++ ends)) (live-holes spare)
    ∙ live-append inner ends
    ∙ both (live inner) (live ends) (spans_forest (at + count) inside)
    (shown (span_of names.sequence close (close + count))) i
    (ap (λ (l : List Span). shown (span_of names.sequence close (close + count)) ++ l) (live-holes other)
    ∙ append-nil (shown (span_of names.sequence close (close + count)))))
    ∙ sym (spans-enclosed at names count inside close marked h)
  where
    ends : List Span
    ends = end_spans names count close ++ holes other

-- Equal places, spans and runs.
refilled : (a b p q : ℕ) (items : List Item) (xs ys : List Span) (es fs : List PlacedRun) → a ≡ b → p ≡ q →
    xs ≡ ys → es ≡ fs → Filled a p items xs es → Filled b q items ys fs
refilled a b p q items xs ys es fs h k l m f =
    subst (λ (at : ℕ). Filled at q items ys fs) h
    (subst (λ (place : ℕ). Filled a place items ys fs) k
    (subst (λ (spans : List Span). Filled a p items spans fs) l
    (subst (λ (runs : List PlacedRun). Filled a p items xs runs) m f)))

pub moved : (a b p q : ℕ) (items : List Item) (spans : List Span) (runs : List PlacedRun) → a ≡ b → p ≡ q →
    Filled a p items spans runs → Filled b q items spans runs
moved a b p q items spans runs h k f = refilled a b p q items spans spans runs runs h k refl refl f

-- Items side by side have their spans and runs side by side.
pub filled-append : (at place : ℕ) (xs ys : List Item) (s t : List Span) (es fs : List PlacedRun) →
    Filled at place xs s es → Filled (at + items_size xs) (place + length s) ys t fs →
    Filled at place (xs ++ ys) (s ++ t) (es ++ fs)
filled-append at place [] ys s t es fs h k =
    refilled (at + 0) at (place + length s) place ys t (s ++ t) fs (es ++ fs) (omega arith)
    (let none : length s ≡ 0 = ap length h.0 in omega (arith, none)) (sym (ap (λ (l : List Span). l ++ t) h.0))
    (sym (ap (λ (l : List PlacedRun). l ++ fs) h.1)) k
filled-append at place (read forest ∷ xs) ys s t es fs h k = (
  h.0,
  h.1 ++ t,
  ap (λ (l : List Span). l ++ t) h.2 ∙ append_assoc h.0 h.1 t,
  h.3,
  filled-append (at + size forest) (place + length h.0) xs ys h.1 t es fs h.4
      (moved (at + (size forest + items_size xs)) ((at + size forest) + items_size xs) (place + length s)
      ((place + length h.0) + length h.1) ys t fs (omega arith)
      (let long : length s ≡ length (h.0 ++ h.1) = ap length h.2 in omega (arith, long, length-append h.0 h.1)) k),
)
filled-append at place (run r ∷ xs) ys s t es fs h k = (
  h.0 ++ t,
  h.1 ++ fs,
  h.2,
  ap (λ (l : List Span). l ++ t) h.3 ∙ append_assoc (holes (room r)) h.0 t,
  ap (λ (l : List PlacedRun). l ++ fs) h.4,
  filled-append (at + r.left) (place + room r) xs ys h.0 t h.1 fs h.5
      (moved (at + (r.left + items_size xs)) ((at + r.left) + items_size xs) (place + length s)
      ((place + room r) + length h.0) ys t fs (omega arith)
      (let long : length s ≡ length (holes (room r) ++ h.0) = ap length h.3 in
      omega (arith, long, length-append (holes (room r)) h.0, length-holes (room r))) k),
)

-- What is left of runs is text: their places are nothing.
pub filled-level : (at place : ℕ) (items : List Item) (spans : List Span) (runs : List PlacedRun) →
    Filled at place items spans runs → live spans ≡ spans_forest at (level items)
filled-level at place [] spans runs h = ap live h.0
filled-level at place (read forest ∷ items) spans runs h =
    ap live h.2
    ∙ live-append h.0 h.1
    ∙ ap (λ (l : List Span). l ++ live h.1) h.3
    ∙ ap (λ (l : List Span). spans_forest at forest ++ l)
    (filled-level (at + size forest) (place + length h.0) items h.1 runs h.4)
    ∙ sym (spans-beside at forest (level items))
filled-level at place (run r ∷ items) spans runs h =
    ap live h.3
    ∙ live-append (holes (room r)) h.0
    ∙ ap (λ (l : List Span). l ++ live h.0) (live-holes (room r))
    ∙ filled-level (at + r.left) (place + room r) items h.0 h.1 h.5
    ∙ sym (spans-over at n.Data r.left (level items))

-- What is written over as many places.
pub write-over : (xs olds news ys : List Span) (place : ℕ) → length olds ≡ length news → place ≡ length xs →
    write place news (xs ++ (olds ++ ys)) ≡ xs ++ (news ++ ys)
write-over xs [] [] ys place h k = refl
write-over xs [] (new ∷ news) ys place h k = absurd (omega (arith, h))
write-over xs (old ∷ olds) [] ys place h k = absurd (omega (arith, h))
write-over xs (old ∷ olds) (new ∷ news) ys place h k =
    ap (write (suc place) news)
    (ap (λ (i : ℕ). set (xs ++ old ∷ (olds ++ ys)) i new) k ∙ set-append_seam xs old (olds ++ ys) new
    ∙ sym (append_assoc xs (new ∷ []) (olds ++ ys)))
    ∙ write-over (xs ++ new ∷ []) olds news ys (suc place) (omega (arith, h))
    (omega (arith, k, length-append xs (new ∷ [])))
    ∙ append_assoc xs (new ∷ []) (news ++ ys)

-- Equal lists of spans.

pub two-spans : (a b c d : Span) → a ≡ c → b ≡ d → a ∷ b ∷ [] ≡ c ∷ d ∷ []
two-spans a b c d h k = ap (λ (x : Span). x ∷ b ∷ []) h ∙ ap (λ (x : Span). c ∷ x ∷ []) k

pub three-spans : (a b c d e f : Span) → a ≡ d → b ≡ e → c ≡ f → a ∷ b ∷ c ∷ [] ≡ d ∷ e ∷ f ∷ []
three-spans a b c d e f h k l =
    ap (λ (x : Span). x ∷ b ∷ c ∷ []) h ∙ ap (λ (x : List Span). d ∷ x) (two-spans b c e f k l)

pub four-spans : (a b c d e f g h : Span) → a ≡ e → b ≡ f → c ≡ g → d ≡ h →
    a ∷ b ∷ c ∷ d ∷ [] ≡ e ∷ f ∷ g ∷ h ∷ []
four-spans a b c d e f g h k l m o =
    ap (λ (x : Span). x ∷ b ∷ c ∷ d ∷ []) k ∙ ap (λ (x : List Span). e ∷ x) (three-spans b c d f g h l m o)
