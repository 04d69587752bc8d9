-- The containers of a line, one after another.
use Rattle.std.proofs.Common.{◌≡◌, ℕ, ◌+◌, ◌-◌, ◌<◌, ◌≤◌, Bool, true, false, cond, ◌||◌, List, [], ◌∷◌, ◌++◌, length}
use Rattle.std.proofs.Common.{take, drop, set, get_or, is_some, Option, Some, None, refl, sym, ◌∙◌, ap, arith}
use Rattle.std.proofs.lemmas.Bool.{true≢false, false≢true}
use Rattle.std.proofs.lemmas.List.{take-append-drop, take_more, take_more_set, drop_more, drop-set-lt, get_or_read}
use Rattle.std.proofs.lemmas.List.{length-drop, map-append, take_all, drop_all}
use Rattle.md_engine.specs.declared.configuration.ParseOptions.{ParseOptions}
use Rattle.md_meaning.specs.Tree.{Blocks}
use Rattle.md_meaning.specs.Rest as r
use Rattle.md_meaning.specs.State as s
use Rattle.md_meaning.specs.Containers.{Taken, opens, continues}
use Rattle.md_meaning.specs.Leaves.{LazyText, starts}
use Rattle.md_meaning.specs.Step.{all_continued, fresh_line, entered, with_lazy, lazy_by, stopped_by, stopped, step}
use Rattle.md_meaning.specs.Step.{steps}
use Rattle.reference_tree.specs.Held.{blocks_meaning}
use Rattle.reference_tree.specs.declared.rest.Rest.{Rest}
use Rattle.reference_tree.specs.Rests.{rest_meaning, rest_meanings}
use Rattle.reference_tree.specs.declared.state.Container.{Container}
use Rattle.reference_tree.specs.declared.state.Frame.{Frame}
use Rattle.reference_tree.specs.States.{container_meaning, within}
use Rattle.reference_tree.specs.Stops.{with_more, more_text, stopped_in}
use Rattle.reference_tree.proofs.PathLemmas.{inside}

pub within-append : (fs gs : List Frame) (p : s.Path) → within (fs ++ gs) p ≡ within fs (within gs p)
within-append [] gs p = refl
within-append (f ∷ fs) gs p = ap (inside f) (within-append fs gs p)

-- the containers before one, and then that one and those in it
pub within-split : (n : ℕ) (fs : List Frame) (p : s.Path) → within fs p ≡ within (take n fs) (within (drop n fs) p)
within-split n fs p = sym (ap (λ gs. within gs p) (take-append-drop n fs)) ∙ within-append (take n fs) (drop n fs) p

-- the innermost container is that of the path
spot-within : (fs : List Frame) (p : s.Path) → s.spot (within fs p) ≡ s.spot p
spot-within [] p = refl
spot-within (f ∷ fs) p = spot-within fs p

at_spot-within : (fs : List Frame) (x y : s.Innermost) → s.at_spot (within fs (s.At x)) y ≡ within fs (s.At y)
at_spot-within [] x y = refl
at_spot-within (f ∷ fs) x y = ap (inside f) (at_spot-within fs x y)

-- a leaf that takes a lazy line has it after its own lines
with_lazy-more : (options : ParseOptions) (l : s.Leaf) (x : r.Rest) → true ≡ is_some (with_lazy options l x) →
    with_lazy options l x ≡ Some (with_more l x)
with_lazy-more options (s.OpenParagraph lines) x e = by (r.is_blank x.bytes || is_some (starts options LazyText x)) e
  where
    by : (v : Bool) → true ≡ is_some (cond v None (Some (s.OpenParagraph (lines ++ s.kept x ∷ [])))) →
        cond v None (Some (s.OpenParagraph (lines ++ s.kept x ∷ []))) ≡ Some (s.OpenParagraph (lines ++ s.kept x ∷ []))
    by false e = refl
    by true e = absurd (true≢false e)
with_lazy-more options s.NoLeaf x e = absurd (true≢false e)
with_lazy-more options (s.OpenCode lines) x e = absurd (true≢false e)
with_lazy-more options (s.OpenFence o lines) x e = absurd (true≢false e)
with_lazy-more options (s.OpenHtml k lines) x e = absurd (true≢false e)
with_lazy-more options (s.OpenTable d rows) x e = absurd (true≢false e)

none-of : {A : Type 0} (o : Option A) → false ≡ is_some o → o ≡ None
none-of None e = refl
none-of (Some x) e = absurd (false≢true e)

-- a line opens a container where the others stopped
pub stopped-opened : (options : ParseOptions) (fs : List Frame) (p : s.Path) (x : r.Rest) (t : Taken) → 0 < length fs →
    opens options false x ≡ Some t →
    stopped_in options fs p x ≡ entered options (s.closed options (within fs p)) t
unfolding stopped
stopped-opened options [] p x t some e = absurd (omega (arith, some))
stopped-opened options (f ∷ fs) p x t some e =
    ap (stopped_by options (blocks_meaning f.before) (container_meaning f.container) (within fs p) x) e

-- no container opens there: the line is lazy, or the others are closed
stopped-none : (options : ParseOptions) (f : Frame) (fs : List Frame) (y : s.Innermost) (x : r.Rest) →
    opens options false x ≡ None →
    stopped_in options (f ∷ fs) (s.At y) x ≡
    lazy_by options (blocks_meaning f.before) (container_meaning f.container) (within fs (s.At y)) x
    (with_lazy options y.leaf x)
unfolding stopped
stopped-none options f fs y x e =
    ap (stopped_by options (blocks_meaning f.before) (container_meaning f.container) (within fs (s.At y)) x) e
    ∙ ap
    (λ (z : s.Innermost).
    lazy_by options (blocks_meaning f.before) (container_meaning f.container) (within fs (s.At y)) x
    (with_lazy options z.leaf x))
    (spot-within fs (s.At y))

-- the open paragraph takes a lazy line
pub stopped-lazy : (options : ParseOptions) (fs : List Frame) (y : s.Innermost) (x : r.Rest) → 0 < length fs →
    opens options false x ≡ None → true ≡ is_some (with_lazy options y.leaf x) →
    stopped_in options fs (s.At y) x ≡ within fs (s.At (more_text y x))
unfolding stopped
stopped-lazy options [] y x some e takes = absurd (omega (arith, some))
stopped-lazy options (f ∷ fs) y x some e takes =
    stopped-none options f fs y x e
    ∙ ap (lazy_by options (blocks_meaning f.before) (container_meaning f.container) (within fs (s.At y)) x)
    (with_lazy-more options y.leaf x takes)
    ∙ ap
    (λ (z : s.Innermost).
    inside f (s.at_spot (within fs (s.At y)) (record { here = z.here; leaf = with_more y.leaf x })))
    (spot-within fs (s.At y))
    ∙ ap (inside f) (at_spot-within fs y (more_text y x))

-- the line is read where the others stopped
pub stopped-fresh : (options : ParseOptions) (fs : List Frame) (y : s.Innermost) (x : r.Rest) → 0 < length fs →
    opens options false x ≡ None → false ≡ is_some (with_lazy options y.leaf x) →
    stopped_in options fs (s.At y) x ≡ s.At (fresh_line options (s.closed options (within fs (s.At y))) x)
unfolding stopped
stopped-fresh options [] y x some e takes = absurd (omega (arith, some))
stopped-fresh options (f ∷ fs) y x some e takes =
    stopped-none options f fs y x e
    ∙ ap (lazy_by options (blocks_meaning f.before) (container_meaning f.container) (within fs (s.At y)) x)
    (none-of (with_lazy options y.leaf x) takes)

some-left : (n : ℕ) (fs : List Frame) → n < length fs → 0 < length (drop n fs)
some-left n fs below = let left : length (drop n fs) ≡ length fs - n = length-drop n fs in omega (arith, left, below)

-- the containers after so many others are closed, and the line opens one there
pub stops-opened : (options : ParseOptions) (n : ℕ) (fs : List Frame) (y : s.Innermost) (x : r.Rest) (t : Taken) →
    n < length fs → opens options false x ≡ Some t →
    within (take n fs) (entered options (s.closed options (within (drop n fs) (s.At y))) t) ≡
    within (take n fs) (stopped_in options (drop n fs) (s.At y) x)
stops-opened options n fs y x t below e =
    sym (ap (within (take n fs)) (stopped-opened options (drop n fs) (s.At y) x t (some-left n fs below) e))

-- all containers stay open, and the paragraph takes the line
pub stops-lazy : (options : ParseOptions) (n : ℕ) (fs : List Frame) (y : s.Innermost) (x : r.Rest) → n < length fs →
    opens options false x ≡ None → true ≡ is_some (with_lazy options y.leaf x) →
    within fs (s.At (more_text y x)) ≡ within (take n fs) (stopped_in options (drop n fs) (s.At y) x)
stops-lazy options n fs y x below e takes =
    within-split n fs (s.At (more_text y x))
    ∙ sym (ap (within (take n fs)) (stopped-lazy options (drop n fs) y x (some-left n fs below) e takes))

-- the containers after so many others are closed, and the line is read there
pub stops-fresh : (options : ParseOptions) (n : ℕ) (fs : List Frame) (y : s.Innermost) (x : r.Rest) →
    n < length fs → opens options false x ≡ None → false ≡ is_some (with_lazy options y.leaf x) →
    within (take n fs) (s.At (fresh_line options (s.closed options (within (drop n fs) (s.At y))) x)) ≡
    within (take n fs) (stopped_in options (drop n fs) (s.At y) x)
stops-fresh options n fs y x below e takes =
    sym (ap (within (take n fs)) (stopped-fresh options (drop n fs) y x (some-left n fs below) e takes))

abbrev by_continued : ParseOptions → Blocks → s.Container → s.Path → r.Rest → Option Taken → s.Path
by_continued options before container p x o = elim o as
    (λ _. s.Path) [
      | Some t ↦ s.Within before t.container (step options p t.rest)
      | None ↦ stopped options before container p x
    ]

-- the container at an index, with those in it
here-at : (fs : List Frame) (f : Frame) (i : ℕ) → i < length fs → f ≡ get_or fs i f → drop i fs ≡ f ∷ drop (i + 1) fs
here-at fs f i below e = drop_more fs i f below ∙ ap (λ g. g ∷ drop (i + 1) fs) (sym e)

-- one container more has continued
pub continued-next : (options : ParseOptions) (fs : List Frame) (f g : Frame) (c : Container) (p : s.Path)
    (x y : r.Rest) (i : ℕ) →
    i < length fs → f ≡ get_or fs i f → g ≡ get_or fs i g →
    continues options (container_meaning f.container) x ≡
    Some (record { container = container_meaning c; rest = y }) →
    within (take i fs) (step options (within (drop i fs) p) x)
    ≡ within (take (i + 1) (set fs i (record { before = g.before; container = c })))
    (step options (within (drop (i + 1) (set fs i (record { before = g.before; container = c }))) p) y)
continued-next options fs f g c p x y i below reads_f reads_g took =
    let h : Frame = record { before = g.before; container = c } in
    let same : f ≡ g = get_or_read fs i f below reads_f g ∙ sym reads_g in
    let inner : s.Path = within (drop (i + 1) fs) p in
    ap (λ gs. within (take i fs) (step options (within gs p) x)) (here-at fs f i below reads_f)
    ∙ ap
    (λ o.
    within (take i fs) (by_continued options (blocks_meaning f.before) (container_meaning f.container) inner x o)) took
    ∙ ap
    (λ (k : Frame).
    within (take i fs) (s.Within (blocks_meaning k.before) (container_meaning c) (step options inner y))) same
    ∙ sym (ap (λ gs. within gs (step options (within (drop (i + 1) (set fs i h)) p) y)) (take_more_set fs i h below)
    ∙ within-append (take i fs) (h ∷ []) (step options (within (drop (i + 1) (set fs i h)) p) y)
    ∙ ap (λ gs. within (take i fs) (inside h (step options (within gs p) y)))
    (drop-set-lt (i + 1) fs i h (omega arith)))

-- the line is read where this container does not continue
pub continued-not : (options : ParseOptions) (fs : List Frame) (f : Frame) (p : s.Path) (x : r.Rest) (i : ℕ) →
    i < length fs → f ≡ get_or fs i f → continues options (container_meaning f.container) x ≡ None →
    step options (within (drop i fs) p) x ≡ stopped_in options (drop i fs) p x
continued-not options fs f p x i below reads ends =
    let inner : s.Path = within (drop (i + 1) fs) p in
    ap (λ gs. step options (within gs p) x) (here-at fs f i below reads)
    ∙ ap (by_continued options (blocks_meaning f.before) (container_meaning f.container) inner x) ends
    ∙ sym (ap (λ gs. stopped_in options gs p x) (here-at fs f i below reads))

-- all containers have continued
pub continued-all : (options : ParseOptions) (fs : List Frame) (y : s.Innermost) (x : r.Rest) (i : ℕ) → length fs ≤ i →
    within (take i fs) (step options (within (drop i fs) (s.At y)) x) ≡ within fs (all_continued options y x)
continued-all options fs y x i all =
    ap (λ gs. within gs (step options (within (drop i fs) (s.At y)) x)) (take_all i fs all)
    ∙ ap (λ gs. within fs (step options (within gs (s.At y)) x)) (drop_all i fs all)

steps-push : (options : ParseOptions) (p : s.Path) (xs : List r.Rest) (x : r.Rest) →
    steps options p (xs ++ x ∷ []) ≡ step options (steps options p xs) x
steps-push options p [] x = refl
steps-push options p (y ∷ xs) x = steps-push options (step options p y) xs x

-- one line more
pub steps-next : (options : ParseOptions) (first now next : s.Path) (xs : List Rest) (x : Rest) (i : ℕ) →
    i < length xs → x ≡ get_or xs i x →
    now ≡ steps options first (rest_meanings (take i xs)) → next ≡ step options now (rest_meaning x) →
    next ≡ steps options first (rest_meanings (take (i + 1) xs))
steps-next options first now next xs x i below reads before made =
    made
    ∙ ap (λ p. step options p (rest_meaning x)) before
    ∙ sym (ap (λ ys. steps options first (rest_meanings ys)) (take_more xs i x below)
    ∙ ap (λ y. steps options first (rest_meanings (take i xs ++ y ∷ []))) (sym reads)
    ∙ ap (steps options first) (map-append rest_meaning (take i xs) (x ∷ []))
    ∙ steps-push options first (rest_meanings (take i xs)) (rest_meaning x))
