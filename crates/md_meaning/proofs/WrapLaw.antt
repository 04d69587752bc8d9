-- A text in a container: where one prefix opens it before the first line, and it continues with another before each
-- further line, the tree of the text is in it.
use Rattle.std.proofs.Common.{◌≡◌, ℕ, zero, suc, ◌≤◌, Bool, true, false, cond, not, ◌==◌, List, [], ◌∷◌, ◌++◌, map}
use Rattle.std.proofs.Common.{length, Option, Some, None, refl, sym, ap, ◌∙◌, subst, arith}
use Rattle.std.specs.List.{concat, list_all}
use Rattle.std.proofs.lemmas.List.{append-nil, append_assoc}
use Rattle.md_engine.specs.declared.configuration.ParseOptions.{ParseOptions}
use Rattle.md_meaning.specs.Containers.{Taken, continues, opens}
use Rattle.md_meaning.specs.Grouped.{grouped}
use Rattle.md_meaning.specs.Label.{Labels, block_labels, both, labels, no_labels}
use Rattle.md_meaning.specs.Lines.{full_lines_of, lines_of}
use Rattle.md_meaning.specs.Meaning.{tree}
use Rattle.md_meaning.specs.Preamble.{front_by, front_marker, front_of, has_mark, rest_at}
use Rattle.md_meaning.specs.Rest.{Rest}
use Rattle.md_meaning.specs.State.{At, Container, Path, Within, closed, container_block}
use Rattle.md_meaning.specs.Step.{all_continued, all_continued_by, opened, spot_of, step, steps}
use Rattle.md_meaning.specs.Tree.{Block, Blocks, End, More}
use Rattle.md_meaning.specs.Wrapped.{prefixed}
use Rattle.md_meaning.proofs.ColumnLemmas.{NoTab, opened_by, step-any, step_by}
use Rattle.md_meaning.proofs.ContainerLemmas.{opens-leaves}
use Rattle.md_meaning.proofs.PrefixedLines.{IsLinePrefix, NoEnding, NoTabs, lines_of-prefixed, no_tab-lines}
use Rattle.md_meaning.proofs.TakenLemmas.{LeavesFewer}
use Rattle.md_meaning.proofs.TreeLemmas.{after_lines, tree-lines}

-- a bound on the containers that is not below the bytes does not matter
opened-enough : (options : ParseOptions) (n m : ℕ) (r : Rest) → length r.bytes ≤ n → length r.bytes ≤ m →
    opened options n r ≡ opened options m r
opened-enough options zero zero r h k = refl
opened-enough options zero (suc m) r h k = go (opens options false r) (opens-leaves options false r)
  where
    go : (o : Option Taken) → LeavesFewer o (length r.bytes) → opened options zero r ≡ opened_by options m r o
    go None less = refl
    go (Some t) less = absurd (omega (arith, h, less t refl))
opened-enough options (suc n) zero r h k = go (opens options false r) (opens-leaves options false r)
  where
    go : (o : Option Taken) → LeavesFewer o (length r.bytes) → opened_by options n r o ≡ opened options zero r
    go None less = refl
    go (Some t) less = absurd (omega (arith, k, less t refl))
opened-enough options (suc n) (suc m) r h k =
    go (opened-enough options n m) (opens options false r) (opens-leaves options false r)
  where
    go : ((s : Rest) → length s.bytes ≤ n → length s.bytes ≤ m → opened options n s ≡ opened options m s) →
        (o : Option Taken) → LeavesFewer o (length r.bytes) → opened_by options n r o ≡ opened_by options m r o
    go below None less = refl
    go below (Some t) less =
        ap (Within End t.container) (below t.rest (omega (arith, h, less t refl)) (omega (arith, k, less t refl)))

-- what opens in a new container is what the line opens at the start of a text
opened-step : (options : ParseOptions) (n : ℕ) (r : Rest) → length r.bytes ≤ n →
    opened options n r ≡ step options (At (spot_of End)) r
unfolding all_continued
opened-step options zero r h = go (opens options false r) (opens-leaves options false r)
  where
    go : (o : Option Taken) → LeavesFewer o (length r.bytes) →
        opened options zero r ≡ all_continued_by options (spot_of End) r o
    go None less = refl
    go (Some t) less = absurd (omega (arith, h, less t refl))
opened-step options (suc n) r h = go (opens options false r) (opens-leaves options false r)
  where
    go : (o : Option Taken) → LeavesFewer o (length r.bytes) →
        opened_by options n r o ≡ all_continued_by options (spot_of End) r o
    go None less = refl
    go (Some t) less =
        ap (Within End t.container)
        (opened-enough options n (length t.rest.bytes) t.rest (omega (arith, h, less t refl)) (omega arith))

-- A container around a text, with what is before the first line and before each other.
pub record Wrap : Type 0 where
  pub container : Container
  pub first : List ℕ
  pub further : List ℕ

abbrev pub wrapped : Wrap → List ℕ → List ℕ
wrapped w text = concat (prefixed w.first w.further (full_lines_of text))

-- the container takes just the prefix before a line
abbrev takes : Wrap → List ℕ → List ℕ → Option Taken
takes w prefix line = Some (record { container = w.container; rest = rest_at (length prefix) line })

-- it opens before this line
abbrev pub Opens : ParseOptions → Wrap → List ℕ → Type 0
Opens options w line = opens options false (rest_at 0 (w.first ++ line)) ≡ takes w w.first line

-- it continues before this line
abbrev pub IsContinued : ParseOptions → Wrap → List ℕ → Type 0
IsContinued options w line = continues options w.container (rest_at 0 (w.further ++ line)) ≡ takes w w.further line

-- The first prefix begins neither a mark nor frontmatter, and opens the container before this line; with the further
-- one it continues before every line.
pub record Wraps (options : ParseOptions) (w : Wrap) (line : List ℕ) : Type 0 where
  pub no_ending : NoEnding w.first
  pub no_mark : (bytes : List ℕ) → has_mark (w.first ++ bytes) ≡ false
  pub no_front : (bytes : List ℕ) → front_marker (w.first ++ bytes) ≡ None
  pub is_prefix : IsLinePrefix w.further
  pub opens : Opens options w line
  pub is_continued : (other : List ℕ) → IsContinued options w other

-- The lines in the container.

step-first : (options : ParseOptions) (w : Wrap) (line : List ℕ) → Opens options w line → NoTab line →
    step options (At (spot_of End)) (rest_at 0 (w.first ++ line)) ≡
    Within End w.container (step options (At (spot_of End)) (rest_at 0 line))
unfolding all_continued
step-first options w line it_opens h =
    ap (all_continued_by options (spot_of End) (rest_at 0 (w.first ++ line))) it_opens
    ∙ ap (Within End w.container)
    (opened-step options (length line) (rest_at (length w.first) line) (omega arith)
    ∙ step-any options (At (spot_of End)) (length w.first) 0 line h)

step-inside : (options : ParseOptions) (w : Wrap) (p : Path) (line : List ℕ) → IsContinued options w line → NoTab line →
    step options (Within End w.container p) (rest_at 0 (w.further ++ line)) ≡
    Within End w.container (step options p (rest_at 0 line))
step-inside options w p line proceeds h =
    ap (step_by options End w.container p (rest_at 0 (w.further ++ line))) proceeds
    ∙ ap (Within End w.container) (step-any options p (length w.further) 0 line h)

steps-inside : (options : ParseOptions) (w : Wrap) (p : Path) (lines : List (List ℕ)) →
    ((line : List ℕ) → IsContinued options w line) → NoTabs lines →
    steps options (Within End w.container p) (map (rest_at 0) (map (λ l. w.further ++ l) lines)) ≡
    Within End w.container (steps options p (map (rest_at 0) lines))
steps-inside options w p [] proceeds h = refl
steps-inside options w p (line ∷ lines) proceeds h =
    ap (λ (q : Path). steps options q (map (rest_at 0) (map (λ l. w.further ++ l) lines)))
    (step-inside options w p line (proceeds line) h.0)
    ∙ steps-inside options w (step options p (rest_at 0 line)) lines proceeds h.1

after_lines-prefixed : (options : ParseOptions) (w : Wrap) (line : List ℕ) (lines : List (List ℕ)) →
    Wraps options w line → NoTabs (line ∷ lines) →
    after_lines options (prefixed w.first w.further (line ∷ lines)) ≡
    Within End w.container (after_lines options (line ∷ lines))
after_lines-prefixed options w line lines wraps h =
    ap (λ (q : Path). steps options q (map (rest_at 0) (map (λ l. w.further ++ l) lines)))
    (step-first options w line wraps.opens h.0)
    ∙ steps-inside options w (step options (At (spot_of End)) (rest_at 0 line)) lines wraps.is_continued h.1

-- Whole texts.

has_mark-prefixed : (first further : List ℕ) (lines : List (List ℕ)) →
    ((bytes : List ℕ) → has_mark (first ++ bytes) ≡ false) → has_mark (concat (prefixed first further lines)) ≡ false
has_mark-prefixed first further [] no_mark = refl
has_mark-prefixed first further (line ∷ lines) no_mark =
    let following : List ℕ = concat (map (λ l. further ++ l) lines) in
    ap has_mark (append_assoc first line following) ∙ no_mark (line ++ following)

front_of-prefixed : (options : ParseOptions) (first further : List ℕ) (lines : List (List ℕ)) →
    ((bytes : List ℕ) → front_marker (first ++ bytes) ≡ None) →
    front_of options (prefixed first further lines) ≡ None
unfolding front_of
front_of-prefixed options first further [] no_front = refl
front_of-prefixed options first further (line ∷ lines) no_front =
    ap (λ o. cond options.constructs.frontmatter (front_by o (map (λ l. further ++ l) lines)) None) (no_front line)
    ∙ go options.constructs.frontmatter
  where
    go : (x : Bool) → cond x (front_by None (map (λ l. further ++ l) lines)) None ≡ None
    go true = refl
    go false = refl

-- A text without tabs, mark and frontmatter has its tree in the container, and `around` it is what grouping makes of
-- that.
pub wrap-law : (options : ParseOptions) (w : Wrap) (around : Blocks → Blocks) (text line : List ℕ)
    (lines : List (List ℕ)) →
    ((bs : Blocks) → grouped (More (container_block w.container bs) End) ≡ around (grouped bs)) →
    Wraps options w line → lines_of text ≡ line ∷ lines → list_all (λ b. not (b == 9)) text ≡ true →
    has_mark text ≡ false → front_of options (lines_of text) ≡ None →
    tree options (wrapped w text) ≡ around (tree options text)
wrap-law options w around text line lines makes wraps is plain mark front =
    let same : lines_of (wrapped w text) ≡ prefixed w.first w.further (lines_of text) =
    lines_of-prefixed w.first w.further text wraps.no_ending wraps.is_prefix in
    tree-lines options (wrapped w text) (w.first ++ line) (map (λ l. w.further ++ l) lines)
    (has_mark-prefixed w.first w.further (full_lines_of text) wraps.no_mark)
    (ap (front_of options) same ∙ front_of-prefixed options w.first w.further (lines_of text) wraps.no_front)
    (same ∙ ap (prefixed w.first w.further) is)
    ∙ ap (λ (p : Path). grouped (closed options p))
    (after_lines-prefixed options w line lines wraps (subst NoTabs is (no_tab-lines text plain)))
    ∙ makes (closed options (after_lines options (line ∷ lines)))
    ∙ ap around (sym (tree-lines options text line lines mark front is))

both-none : (a : Labels) → both a no_labels ≡ a
both-none a =
    ap (λ (d : List (List ℕ)). record { definitions = d; footnotes = a.footnotes ++ [] }) (append-nil a.definitions)
    ∙ ap (λ (f : List (List ℕ)). record { definitions = a.definitions; footnotes = f }) (append-nil a.footnotes)

-- the labels of a block that is alone
pub labels-alone : (b : Block) → labels (More b End) ≡ block_labels b
labels-alone b = both-none (block_labels b)
