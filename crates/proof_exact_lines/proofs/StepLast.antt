-- After a line: the containers that are open, and the last block where the next one may come.
use Rattle.std.proofs.Common.{◌≡◌, ℕ, zero, suc, ◌≤◌, Bool, true, false, cond, ◌&&◌, not, List, [], ◌∷◌, ◌++◌}
use Rattle.std.proofs.Common.{length, map, drop, refl, ap, sym, ◌∙◌, subst, arith, rules}
use Rattle.std.specs.Prelude.{◌==◌, ◌||◌, Option, Some, None}
use Rattle.std.specs.Option.{is_some}
use Rattle.md_engine.specs.declared.configuration.ParseOptions.{ParseOptions}
use Rattle.md_meaning.specs.Containers.{Taken, continues, opens}
use Rattle.md_meaning.specs.Leaves.{LazyText, starts}
use Rattle.md_meaning.specs.Rest.{Rest, is_blank}
use Rattle.md_meaning.specs.State.{At, Container, InFootnote, InItem, InQuote, Innermost, Leaf, NoLeaf, OpenCode}
use Rattle.md_meaning.specs.State.{OpenFence, OpenHtml, OpenParagraph, OpenTable, ParagraphLine, Path, Within, at_spot}
use Rattle.md_meaning.specs.State.{closed, container_block, kept, shut, spot, then_block}
use Rattle.md_meaning.specs.Step.{all_continued, all_continued_by, entered, fresh_line, is_concrete, is_open_text}
use Rattle.md_meaning.specs.Step.{lazy_by, leaf_line, spot_of, step, stopped, stopped_by, with_lazy}
use Rattle.md_meaning.specs.Step as step
use Rattle.md_meaning.specs.Tree.{Blocks, End}
use Rattle.md_meaning.proofs.ContainerLemmas.{opens-leaves}
use Rattle.md_events.specs.Exact.Prefixes.{following_all, blocks_before, containers, taken_prefixes, new_containers, opened}
use Rattle.proof_exact_lines.specs.Last.{HasLine, item_of, last_at, last_in, last_of, marker_in}
use Rattle.proof_exact_lines.proofs.LeafLast.{Ends, fresh-blank, fresh-ends, last-then, leaf-last}

-- the containers of what was taken
abbrev pub held_in : List Taken → List Container
held_in ts = map (λ (t : Taken). t.container) ts

-- Containers that open one in the other.

-- as many trials as there are bytes are enough
pub opened-enough : (options : ParseOptions) (interrupting : Bool) (n m : ℕ) (r : Rest) → length r.bytes ≤ n →
    length r.bytes ≤ m → opened options interrupting n r ≡ opened options interrupting m r
opened-enough options interrupting zero zero r h k = refl
opened-enough options interrupting zero (suc m) r h k =
    sym (go (opens options interrupting r) (opens-leaves options interrupting r))
  where
    Of : List Taken → Type 0
    Of ts = ts ≡ []

    go : (o : Option Taken) → ((t : Taken) → o ≡ Some t → suc (length t.rest.bytes) ≤ length r.bytes) →
        Of (elim o [ Some t ↦ t ∷ opened options false m t.rest | None ↦ [] ])
    go None f = refl
    go (Some t) f = absurd (omega (arith, f t refl))
opened-enough options interrupting (suc n) zero r h k =
    go (opens options interrupting r) (opens-leaves options interrupting r)
  where
    Of : List Taken → Type 0
    Of ts = ts ≡ []

    go : (o : Option Taken) → ((t : Taken) → o ≡ Some t → suc (length t.rest.bytes) ≤ length r.bytes) →
        Of (elim o [ Some t ↦ t ∷ opened options false n t.rest | None ↦ [] ])
    go None f = refl
    go (Some t) f = absurd (omega (arith, f t refl))
opened-enough options interrupting (suc n) (suc m) r h k =
    go (opened-enough options false n m) (opens options interrupting r) (opens-leaves options interrupting r)
  where
    go : ((s : Rest) → length s.bytes ≤ n → length s.bytes ≤ m →
        opened options false n s ≡ opened options false m s) →
        (o : Option Taken) → ((t : Taken) → o ≡ Some t → suc (length t.rest.bytes) ≤ length r.bytes) →
        let with : ℕ → List Taken =
        λ k. elim o [ Some t ↦ t ∷ opened options false k t.rest | None ↦ [] ] in with n ≡ with m
    go below None f = refl
    go below (Some t) f =
        ap (λ (ts : List Taken). t ∷ ts) (below t.rest (omega (arith, f t refl)) (omega (arith, f t refl)))

-- the first, if one opens, and those in it
abbrev first_new : ParseOptions → Option Taken → List Taken
first_new options None = []
first_new options (Some t) = t ∷ opened options false (length t.rest.bytes) t.rest

opened-first : (options : ParseOptions) (interrupting : Bool) (r : Rest) →
    opened options interrupting (length r.bytes) r ≡ first_new options (opens options interrupting r)
opened-first options interrupting r = go (length r.bytes) refl
  where
    none : (o : Option Taken) → ((t : Taken) → o ≡ Some t → suc (length t.rest.bytes) ≤ length r.bytes) →
        length r.bytes ≡ 0 → [] ≡ first_new options o
    none None f e = refl
    none (Some t) f e = absurd (omega (arith, f t refl, e))

    some : (n : ℕ) (o : Option Taken) → ((t : Taken) → o ≡ Some t → suc (length t.rest.bytes) ≤ length r.bytes) →
        length r.bytes ≡ suc n →
        (elim o [ Some t ↦ t ∷ opened options false n t.rest | None ↦ [] ]) ≡ first_new options o
    some n None f e = refl
    some n (Some t) f e =
        ap (λ (ts : List Taken). t ∷ ts)
        (opened-enough options false n (length t.rest.bytes) t.rest (omega (arith, f t refl, e)) (omega arith))

    go : (n : ℕ) → length r.bytes ≡ n →
        opened options interrupting n r ≡ first_new options (opens options interrupting r)
    go zero e = none (opens options interrupting r) (opens-leaves options interrupting r) e
    go (suc n) e = some n (opens options interrupting r) (opens-leaves options interrupting r) e

-- what is open in the innermost container that continued: these containers, with no block before any of them
record Inside (r : Rest) (p : Path) (ts : List Taken) : Type 0 where
  held : containers p ≡ held_in ts
  blank : is_blank (following_all r ts).bytes ≡ true → (spot p).leaf ≡ NoLeaf
  ends : Ends (spot p)
  before : (depth : ℕ) → blocks_before depth p ≡ End

fresh-inside : (options : ParseOptions) (r : Rest) → Inside r (At (fresh_line options End r)) []
fresh-inside options r = record {
  held = refl;
  blank = λ e. ap (λ (s : Innermost). s.leaf) (fresh-blank options End r e);
  ends = go (is_blank r.bytes) refl;
  before = λ depth. refl;
}
  where
    go : (x : Bool) → is_blank r.bytes ≡ x → Ends (fresh_line options End r)
    go true e = subst Ends (sym (fresh-blank options End r e)) (record { last = refl; text = tt })
    go false e = fresh-ends options End r e

before-within : (c : Container) (p : Path) → ((depth : ℕ) → blocks_before depth p ≡ End) → (depth : ℕ) →
    blocks_before depth (Within End c p) ≡ End
before-within c p h zero = refl
before-within c p h (suc depth) = h depth

opened-inside : (options : ParseOptions) (n : ℕ) (r : Rest) →
    Inside r (step.opened options n r) (opened options false n r)
opened-inside options zero r = fresh-inside options r
opened-inside options (suc n) r = go (opened-inside options n) (opens options false r)
  where
    go : ((s : Rest) → Inside s (step.opened options n s) (opened options false n s)) → (o : Option Taken) →
        Inside r
        (elim o [
          | Some t ↦ Within End t.container (step.opened options n t.rest)
          | None ↦ At (fresh_line options End r)
        ])
        (elim o [ Some t ↦ t ∷ opened options false n t.rest | None ↦ [] ])
    go below None = fresh-inside options r
    go below (Some t) =
        let inside = below t.rest in
        record {
          held = ap (λ (cs : List Container). t.container ∷ cs) inside.held;
          blank = inside.blank;
          ends = inside.ends;
          before = before-within t.container (step.opened options n t.rest) inside.before;
        }

-- What is open after a line.

-- whether all of the open containers continue
abbrev all_continue : ParseOptions → Path → Rest → Bool
all_continue options (At s) r = true
all_continue options (Within before c p) r = elim (continues options c r) [
  | Some t ↦ all_continue options p t.rest
  | None ↦ false
]

-- the containers that open after those that continue, and the rest of the line after all
abbrev pub new_of : ParseOptions → Path → Bool → Rest → List Taken → List Taken
new_of options p all r on = new_containers options p all (following_all r on)

abbrev pub rest_of : Rest → List Taken → List Taken → Rest
rest_of r on new = following_all (following_all r on) new

-- whether the line is lazy, where none opens
abbrev pub lazy_of : ParseOptions → Path → Bool → Rest → Bool
lazy_of options p all rest = not all && is_some (with_lazy options (spot p).leaf rest)

-- containers open
pub record Opens (p : Path) (on new : List Taken) (rest : Rest) (after : Path) : Type 0 where
  pub held : containers after ≡ held_in on ++ held_in new
  pub blank : is_blank rest.bytes ≡ true → (spot after).leaf ≡ NoLeaf
  pub ends : Ends (spot after)
  pub before : last_of (blocks_before (length on) after) ≡ last_at (length on) p
  pub inside : (depth : ℕ) → suc (length on) ≤ depth → blocks_before depth after ≡ End

-- none opens, and the line is not lazy: after the containers that continue it meets a leaf
pub record Keeps (options : ParseOptions) (p : Path) (all : Bool) (on : List Taken) (rest : Rest)
    (after : Path) : Type 0 where
  pub met : Innermost
  pub leaf : met.leaf ≡ cond all (spot p).leaf NoLeaf
  pub last : last_in met ≡ last_at (length on) p
  pub held : containers after ≡ held_in on
  pub is : spot after ≡ leaf_line options met rest

-- it is lazy: all stay open
pub record Stays (p : Path) (on : List Taken) (after : Path) : Type 0 where
  pub held : containers after ≡ held_in on ++ drop (length on) (containers p)
  pub ends : Ends (spot after)

pub record Facts (options : ParseOptions) (p : Path) (all : Bool) (r : Rest) (on new : List Taken)
    (after : Path) : Type 0
  where
    pub opens : (t : Taken) (ts : List Taken) → new ≡ t ∷ ts → Opens p on (t ∷ ts) (rest_of r on (t ∷ ts)) after
    pub keeps : new ≡ [] → lazy_of options p all (rest_of r on new) ≡ false →
        Keeps options p all on (rest_of r on new) after
    pub stays : new ≡ [] → lazy_of options p all (rest_of r on new) ≡ true → Stays p on after

some-new : (t : Taken) (ts : List Taken) {X : Type 0} → t ∷ ts ≡ [] → X
some-new t ts e = absurd (cc)

deeper : (bs : Blocks) (c : Container) (p : Path) → ((depth : ℕ) → blocks_before depth p ≡ End) → (depth : ℕ) →
    1 ≤ depth → blocks_before depth (Within bs c p) ≡ End
deeper bs c p h zero le = absurd (omega arith)
deeper bs c p h (suc depth) le = h depth

-- where a container opens after these blocks
enter-facts : (options : ParseOptions) (p : Path) (all : Bool) (r : Rest) (bs : Blocks) (t : Taken) →
    last_of bs ≡ last_at 0 p →
    Facts options p all r [] (first_new options (Some t)) (entered options bs t)
enter-facts options p all r bs t e =
    let inside = opened-inside options (length t.rest.bytes) t.rest in
    record {
      opens = λ u us same. subst (λ (ts : List Taken). Opens p [] ts (rest_of r [] ts)
          (entered options bs t)) same (record {
            held = ap (λ (cs : List Container). t.container ∷ cs) inside.held;
            blank = inside.blank;
            ends = inside.ends;
            before = e;
            inside = deeper bs t.container (step.opened options (length t.rest.bytes) t.rest) inside.before;
          });
      keeps = λ none. some-new t (opened options false (length t.rest.bytes) t.rest) none;
      stays = λ none. some-new t (opened options false (length t.rest.bytes) t.rest) none;
    }

-- all containers continue
all-facts : (options : ParseOptions) (s : Innermost) (r : Rest) → HasLine s.leaf → (o : Option Taken) →
    Facts options (At s) true r [] (first_new options o) (all_continued_by options s r o)
all-facts options s r h (Some t) =
    enter-facts options (At s) true r (shut options s) t (leaf-last options s.here s.leaf h)
all-facts options s r h None = record {
  opens = λ u us none. some-new u us (sym none);
  keeps = λ none lazy. record { met = s; leaf = refl; last = refl; held = refl; is = refl };
  stays = λ none lazy. absurd (cc);
}

-- a container does not continue

spot-at : (p : Path) (s : Innermost) → spot (at_spot p s) ≡ s
spot-at (At t) s = refl
spot-at (Within before c p) s = spot-at p s

held-at : (p : Path) (s : Innermost) → containers (at_spot p s) ≡ containers p
held-at (At t) s = refl
held-at (Within before c p) s = ap (λ (cs : List Container). c ∷ cs) (held-at p s)

lazy-line : (options : ParseOptions) (leaf : Leaf) (r : Rest) (to : Leaf) → with_lazy options leaf r ≡ Some to →
    (bs : Blocks) → Ends (record { here = bs; leaf = to })
lazy-line options (OpenParagraph lines) r to e bs = go (is_blank r.bytes || is_some (starts options LazyText r)) e
  where
    line : (lines : List ParagraphLine) → Ends (record { here = bs; leaf = OpenParagraph (lines ++ kept r ∷ []) })
    line [] = record { last = refl; text = tt }
    line (k ∷ ks) = record { last = refl; text = tt }

    go : (x : Bool) → cond x None (Some (OpenParagraph (lines ++ kept r ∷ []))) ≡ Some to →
        Ends (record { here = bs; leaf = to })
    go true f = absurd (cc)
    go false f =
        let same : OpenParagraph (lines ++ kept r ∷ []) ≡ to = cc in
        subst (λ (l : Leaf). Ends (record { here = bs; leaf = l })) same (line lines)
lazy-line options NoLeaf r to e bs = absurd (cc)
lazy-line options (OpenCode lines) r to e bs = absurd (cc)
lazy-line options (OpenFence o lines) r to e bs = absurd (cc)
lazy-line options (OpenHtml kind lines) r to e bs = absurd (cc)
lazy-line options (OpenTable delimiter rows) r to e bs = absurd (cc)

container-last : (c : Container) (bs : Blocks) → item_of (container_block c bs) ≡ marker_in c
container-last (InQuote kind) bs = refl
container-last (InItem digits marker width starts_blank) bs = refl
container-last (InFootnote label) bs = refl

stopped-facts : (options : ParseOptions) (before : Blocks) (c : Container) (p : Path) (r : Rest) (o : Option Taken) →
    Facts options (Within before c p) false r [] (first_new options o) (stopped_by options before c p r o)
stopped-facts options before c p r o = by o
  where
    bs : Blocks
    bs = then_block before (container_block c (closed options p))

    last : last_of bs ≡ marker_in c
    last = last-then before (container_block c (closed options p)) ∙ container-last c (closed options p)

    is_some_leaf : Option Leaf → Bool
    is_some_leaf l = is_some l

    lazy : (l : Option Leaf) → with_lazy options (spot p).leaf r ≡ l →
        Facts options (Within before c p) false r [] [] (lazy_by options before c p r l)
    lazy None e = record {
      opens = λ u us none. some-new u us (sym none);
      keeps = λ none is. record { met = spot_of bs; leaf = refl; last = last; held = refl; is = refl };
      stays = λ none is. let no : is_some_leaf None ≡ true = ap is_some_leaf (sym e) ∙ is in absurd (cc);
    }
    lazy (Some leaf) e = record {
      opens = λ u us none. some-new u us (sym none);
      keeps = λ none is. let no : is_some_leaf (Some leaf) ≡ false = ap is_some_leaf (sym e) ∙ is in absurd (cc);
      stays = λ none is. record {
        held = ap (λ (cs : List Container). c ∷ cs) (held-at p (record { here = (spot p).here; leaf = leaf }));
        ends =
            subst Ends (sym (spot-at p (record { here = (spot p).here; leaf = leaf })))
            (lazy-line options (spot p).leaf r leaf e (spot p).here);
      };
    }

    by : (o : Option Taken) →
        Facts options (Within before c p) false r [] (first_new options o) (stopped_by options before c p r o)
    by (Some t) = enter-facts options (Within before c p) false r bs t last
    by None = lazy (with_lazy options (spot p).leaf r) refl

-- one continues

further : (bs : Blocks) (c : Container) (p : Path) (n : ℕ) → ((depth : ℕ) → suc n ≤ depth →
    blocks_before depth p ≡ End) →
    (depth : ℕ) → suc (suc n) ≤ depth → blocks_before depth (Within bs c p) ≡ End
further bs c p n h zero le = absurd (omega arith)
further bs c p n h (suc depth) le = h depth (omega arith)

within-facts : (options : ParseOptions) (before : Blocks) (c : Container) (p : Path) (r : Rest) (t : Taken)
    (all : Bool) (on new : List Taken) (after : Path) → Facts options p all t.rest on new after →
    Facts options (Within before c p) all r (t ∷ on) new (Within before t.container after)
within-facts options before c p r t all on new after facts = record {
  opens = λ u us e.
      let is = facts.opens u us e in
      record {
        held = ap (λ (cs : List Container). t.container ∷ cs) is.held;
        blank = is.blank;
        ends = is.ends;
        before = is.before;
        inside = further before t.container after (length on) is.inside;
      };
  keeps = λ none lazy.
      let is = facts.keeps none lazy in
      record {
        met = is.met;
        leaf = is.leaf;
        last = is.last;
        held = ap (λ (cs : List Container). t.container ∷ cs) is.held;
        is = is.is;
      };
  stays = λ none lazy.
      let is = facts.stays none lazy in
      record { held = ap (λ (cs : List Container). t.container ∷ cs) is.held; ends = is.ends };
}

-- What is open after any line.

no-size : (n : ℕ) → false ≡ (0 == suc n)
no-size n = search rules

more-size : (n m : ℕ) → (n == m) ≡ (suc n == suc m)
more-size n m = search rules

facts-by : (options : ParseOptions) (p : Path) (r : Rest) → HasLine (spot p).leaf →
    let on = taken_prefixes options p r in
    let all = all_continue options p r in
    Facts options p all r on (new_of options p all r on) (step options p r)
unfolding all_continued stopped
facts-by options (At s) r h =
    subst (λ (new : List Taken). Facts options (At s) true r [] new (all_continued options s r)) (sym new)
    (all-facts options s r h found)
  where
    found : Option Taken
    found = cond (is_concrete s.leaf) None (opens options (is_open_text s.leaf) r)

    by : (x : Bool) →
        cond x [] (opened options (is_open_text s.leaf) (length r.bytes) r)
        ≡ first_new options (cond x None (opens options (is_open_text s.leaf) r))
    by true = refl
    by false = opened-first options (is_open_text s.leaf) r

    new : new_of options (At s) true r [] ≡ first_new options found
    new = by (is_concrete s.leaf)
facts-by options (Within before c p) r h = go (λ s. facts-by options p s h) (continues options c r)
  where
    go : ((s : Rest) →
        let on = taken_prefixes options p s in
        let all = all_continue options p s in Facts options p all s on (new_of options p all s on) (step options p s)) →
        (o : Option Taken) →
        let on : List Taken = elim o [ Some t ↦ t ∷ taken_prefixes options p t.rest | None ↦ [] ] in
        let all : Bool = elim o [ Some t ↦ all_continue options p t.rest | None ↦ false ] in
        Facts options (Within before c p) all r on (new_of options (Within before c p) all r on)
        (elim o [
          | Some t ↦ Within before t.container (step options p t.rest)
          | None ↦ stopped options before c p r
        ])
    go below None =
        subst
        (λ (new : List Taken). Facts options (Within before c p) false r [] new (stopped options before c p r))
        (sym (opened-first options false r)) (stopped-facts options before c p r (opens options false r))
    go below (Some t) =
        let on : List Taken = taken_prefixes options p t.rest in
        let all : Bool = all_continue options p t.rest in
        within-facts options before c p r t all on (new_of options p all t.rest on) (step options p t.rest)
        (below t.rest)

-- all continue if they are as many as were open
all-proceeded : (options : ParseOptions) (p : Path) (r : Rest) →
    all_continue options p r ≡ (length (taken_prefixes options p r) == length (containers p))
all-proceeded options (At s) r = refl
all-proceeded options (Within before c p) r = go (all-proceeded options p) (continues options c r)
  where
    go : ((s : Rest) → all_continue options p s ≡ (length (taken_prefixes options p s) == length (containers p))) →
        (o : Option Taken) →
        let on : List Taken = elim o [ Some t ↦ t ∷ taken_prefixes options p t.rest | None ↦ [] ] in
        let all : Bool = elim o [ Some t ↦ all_continue options p t.rest | None ↦ false ] in
        all ≡ (length on == suc (length (containers p)))
    go below None = no-size (length (containers p))
    go below (Some t) = below t.rest ∙ more-size (length (taken_prefixes options p t.rest)) (length (containers p))

pub step-facts : (options : ParseOptions) (p : Path) (r : Rest) → HasLine (spot p).leaf →
    let on = taken_prefixes options p r in
    let all = length on == length (containers p) in
    Facts options p all r on (new_of options p all r on) (step options p r)
step-facts options p r h =
    let on : List Taken = taken_prefixes options p r in
    subst (λ (all : Bool). Facts options p all r on (new_of options p all r on) (step options p r))
    (all-proceeded options p r) (facts-by options p r h)
