-- After a line of text a paragraph is open, also after a lazy one, so the next line continues no other leaf; and no line
-- of text is blank.
use Rattle.std.proofs.Common.{◌≡◌, ℕ, zero, suc, ◌≤◌, Bool, true, false, cond, ◌&&◌, List, [], ◌∷◌, ◌++◌, length}
use Rattle.std.proofs.Common.{refl, ap, sym, ◌∙◌, subst, arith, rules, reverse}
use Rattle.std.specs.Prelude.{◌==◌, ◌||◌, nat_lt, Option, Some, None}
use Rattle.std.specs.Option.{is_some}
use Rattle.std.proofs.lemmas.Bool.Decides.{nat_tests}
use Rattle.md_engine.specs.declared.configuration.ParseOptions.{ParseOptions}
use Rattle.md_meaning.specs.Containers.{Taken, continues, opens}
use Rattle.md_meaning.specs.Definition.{Defined}
use Rattle.md_meaning.specs.Leaves.{LazyText, LeafResult, NoText, Text, is_continued, is_head_of}
use Rattle.md_meaning.specs.Leaves.{starts, table_at, table_by, underline_depth, underlined, underlined_by}
use Rattle.md_meaning.specs.Table.{delimiter_columns, row_cells}
use Rattle.md_meaning.specs.Rest.{Rest, has_small_indent, is_blank, trim}
use Rattle.md_meaning.specs.State.{At, Container, Innermost, Leaf, NoLeaf, OpenCode, OpenFence, OpenHtml, OpenParagraph}
use Rattle.md_meaning.specs.State.{OpenTable, ParagraphLine, Path, Within, at_spot, closed, container_block, cut, kept}
use Rattle.md_meaning.specs.State.{shut, shut_paragraph, spot, texts, then_block, then_definitions, then_leaf}
use Rattle.md_meaning.specs.Step as step
use Rattle.md_meaning.specs.Step.{all_continued, all_continued_by, entered, fresh_by, fresh_line, is_concrete}
use Rattle.md_meaning.specs.Step.{is_open_text, lazy_by, leaf_line, leaf_line_by, on_or_fresh, row_or_text, spot_of, stopped}
use Rattle.md_meaning.specs.Step.{stopped_by, text_by, text_line, underline_or_text, with_lazy}
use Rattle.md_meaning.specs.Tree.{Blocks, End}
use Rattle.md_meaning.proofs.ContainerLemmas.{opens-leaves}
use Rattle.md_events.specs.Exact.Prefixes.{containers, following_all, opened, taken_prefixes}
use Rattle.md_events.specs.Exact.Rows.{Blank, Delimiter, FirstText, Further, FurtherText, Role}
use Rattle.md_events.specs.Exact.Rows.{Underline, first_or, fresh_role, role_on}
use Rattle.proof_exact_lines.proofs.StepLast.{lazy_of, new_of, opened-enough, rest_of}

-- A line of text that is no head of a table.
abbrev pub IsPlainText : Role → Type 0
IsPlainText FirstText = Unit {0}
IsPlainText FurtherText = Unit {0}
IsPlainText role = ⊥

-- What a paragraph becomes with it.

pub fresh-text : (options : ParseOptions) (bs : Blocks) (r : Rest) → is_blank r.bytes ≡ false →
    IsPlainText (first_or FirstText (starts options NoText r)) → is_open_text (fresh_line options bs r).leaf ≡ true
unfolding fresh_line
fresh-text options bs r dark h = go (is_blank r.bytes) (starts options NoText r) dark h
  where
    go : (x : Bool) (o : Option LeafResult) → x ≡ false → IsPlainText (first_or FirstText o) →
        is_open_text (cond x (spot_of bs) (fresh_by bs r o)).leaf ≡ true
    go true o e h = absurd (cc)
    go false None e h = refl
    go false (Some c) e h = absurd h

-- whether a line is a delimiter row does not depend on what is before the paragraph
table-same : (options : ParseOptions) (bs cs : Blocks) (lines : List ParagraphLine) (r : Rest) →
    is_some (table_at options bs lines r) ≡ is_some (table_at options cs lines r)
unfolding table_at
table-same options bs cs lines r =
    go (options.constructs.gfm_table && has_small_indent options r) (reverse lines) (delimiter_columns (trim r.bytes))
  where
    go : (x : Bool) (before : List ParagraphLine) (columns : Option ℕ) →
        is_some (cond x (table_by options bs before (trim r.bytes) columns) None)
        ≡ is_some (cond x (table_by options cs before (trim r.bytes) columns) None)
    go false before columns = refl
    go true [] columns = refl
    go true (k ∷ before) None = refl
    go true (k ∷ before) (Some columns) = by (is_head_of options k columns)
      where
        table : Blocks → Innermost
        table ds = record {
          here = shut_paragraph options ds (texts (reverse before));
          leaf = OpenTable (trim r.bytes) (row_cells k.text ∷ []);
        }

        by : (y : Bool) → is_some (cond y (Some (table bs)) None) ≡ is_some (cond y (Some (table cs)) None)
        by true = refl
        by false = refl

-- an underline with nothing to underline is one more line
under-text : (bs : Blocks) (lines : List ParagraphLine) (r : Rest) (depth : ℕ) (c : List Defined × List (List ℕ)) →
    IsPlainText (cond (nat_lt 0 (length c.1)) Underline FurtherText) →
    is_open_text (underlined_by bs lines r depth (then_definitions bs c.0) c.1).leaf ≡ true
under-text bs lines r depth (ds, []) h = refl
under-text bs lines r depth (ds, line ∷ remaining) h =
    absurd (subst (λ (x : Bool). IsPlainText (cond x Underline FurtherText)) (some (length remaining)) h)
  where
    some : (n : ℕ) → nat_lt 0 (suc n) ≡ true
    some n = grind (arith, nat_tests)

row-text : (bs : Blocks) (lines : List ParagraphLine) (r : Rest) (o : Option Innermost) (x : Bool) → is_some o ≡ x →
    IsPlainText (cond x Delimiter FurtherText) → is_open_text (row_or_text bs lines r o).leaf ≡ true
row-text bs lines r None x e h = refl
row-text bs lines r (Some s) true e h = absurd h
row-text bs lines r (Some s) false e h = absurd (cc)

text-by : (options : ParseOptions) (bs : Blocks) (lines : List ParagraphLine) (r : Rest) (c : Option LeafResult) →
    IsPlainText (first_or (cond (is_some (table_at options End lines r)) Delimiter FurtherText) c) →
    is_open_text (text_by options bs lines r c).leaf ≡ true
text-by options bs lines r (Some c) h = absurd h
text-by options bs lines r None h =
    row-text bs lines r (table_at options bs lines r) (is_some (table_at options End lines r))
    (table-same options bs End lines r) h

depth-text : (options : ParseOptions) (bs : Blocks) (lines : List ParagraphLine) (r : Rest) (depth : Option ℕ) →
    IsPlainText
    (cond (is_some depth) (cond (nat_lt 0 (length (cut options (texts lines)).1)) Underline FurtherText)
    (first_or (cond (is_some (table_at options End lines r)) Delimiter FurtherText) (starts options Text r))) →
    is_open_text (underline_or_text options bs lines r depth).leaf ≡ true
unfolding underlined
depth-text options bs lines r (Some depth) h = under-text bs lines r depth (cut options (texts lines)) h
depth-text options bs lines r None h = text-by options bs lines r (starts options Text r) h

paragraph-text : (options : ParseOptions) (bs : Blocks) (lines : List ParagraphLine) (r : Rest) →
    is_blank r.bytes ≡ false → IsPlainText (fresh_role options (OpenParagraph lines) r) →
    is_open_text (text_line options bs lines r).leaf ≡ true
unfolding text_line
paragraph-text options bs lines r dark h =
    ap
    (λ (x : Bool).
    is_open_text
    (cond x (spot_of (then_leaf options bs (OpenParagraph lines)))
    (underline_or_text options bs lines r (underline_depth options r))).leaf) dark
    ∙ depth-text options bs lines r (underline_depth options r) h

-- a line that continues no leaf, and is not blank
pub record IsFresh (options : ParseOptions) (leaf : Leaf) (r : Rest) : Type 0 where
  pub ends : is_some (is_continued options leaf r) ≡ false
  pub dark : is_blank r.bytes ≡ false
  pub fresh : IsPlainText (fresh_role options leaf r)

pub text-fresh : (options : ParseOptions) (leaf : Leaf) (r : Rest) → IsPlainText (role_on options leaf r) →
    IsFresh options leaf r
text-fresh options leaf r h = go (is_some (is_continued options leaf r)) (is_blank r.bytes) refl refl h
  where
    go : (x y : Bool) → is_some (is_continued options leaf r) ≡ x → is_blank r.bytes ≡ y →
        IsPlainText (cond x (Further leaf) (cond y Blank (fresh_role options leaf r))) → IsFresh options leaf r
    go true y e f h = absurd h
    go false true e f h = absurd h
    go false false e f h = record { ends = e; dark = f; fresh = h }

closed-text : (options : ParseOptions) (s : Innermost) (r : Rest) (o : Option LeafResult) → is_some o ≡ false →
    is_blank r.bytes ≡ false → IsPlainText (first_or FirstText (starts options NoText r)) →
    is_open_text (on_or_fresh options s r o).leaf ≡ true
closed-text options s r (Some c) e dark h = absurd (cc)
closed-text options s r None e dark h = fresh-text options (shut options s) r dark h

leaf-text : (options : ParseOptions) (s : Innermost) (leaf : Leaf) (r : Rest) → IsFresh options leaf r →
    is_open_text (leaf_line_by options s r leaf).leaf ≡ true
leaf-text options s NoLeaf r is = fresh-text options s.here r is.dark is.fresh
leaf-text options s (OpenParagraph lines) r is = paragraph-text options s.here lines r is.dark is.fresh
leaf-text options s (OpenCode lines) r is =
    closed-text options s r (is_continued options (OpenCode lines) r) is.ends is.dark is.fresh
leaf-text options s (OpenFence o lines) r is =
    closed-text options s r (is_continued options (OpenFence o lines) r) is.ends is.dark is.fresh
leaf-text options s (OpenHtml kind lines) r is =
    closed-text options s r (is_continued options (OpenHtml kind lines) r) is.ends is.dark is.fresh
leaf-text options s (OpenTable delimiter rows) r is =
    closed-text options s r (is_continued options (OpenTable delimiter rows) r) is.ends is.dark is.fresh

-- where it meets this
pub met-text : (options : ParseOptions) (s : Innermost) (leaf : Leaf) (r : Rest) → s.leaf ≡ leaf →
    IsPlainText (role_on options leaf r) → is_open_text (leaf_line options s r).leaf ≡ true
met-text options s leaf r e h =
    leaf-text options s s.leaf r
    (text-fresh options s.leaf r (subst (λ (l : Leaf). IsPlainText (role_on options l r)) (sym e) h))

-- a lazy line
lazy-text : (options : ParseOptions) (leaf to : Leaf) (r : Rest) → with_lazy options leaf r ≡ Some to →
    is_open_text to ≡ true
lazy-text options (OpenParagraph lines) to r e = go (is_blank r.bytes || is_some (starts options LazyText r)) e
  where
    go : (x : Bool) → cond x None (Some (OpenParagraph (lines ++ kept r ∷ []))) ≡ Some to → is_open_text to ≡ true
    go true f = absurd (cc)
    go false f =
        let same : OpenParagraph (lines ++ kept r ∷ []) ≡ to = cc in sym (ap is_open_text same)
lazy-text options NoLeaf to r e = absurd (cc)
lazy-text options (OpenCode lines) to r e = absurd (cc)
lazy-text options (OpenFence o lines) to r e = absurd (cc)
lazy-text options (OpenHtml kind lines) to r e = absurd (cc)
lazy-text options (OpenTable delimiter rows) to r e = absurd (cc)

pub lazy-dark : (options : ParseOptions) (leaf : Leaf) (r : Rest) → is_some (with_lazy options leaf r) ≡ true →
    is_blank r.bytes ≡ false
lazy-dark options (OpenParagraph lines) r e = go (is_blank r.bytes) (is_some (starts options LazyText r)) e
  where
    go : (x y : Bool) → is_some (cond (x || y) None (Some (OpenParagraph (lines ++ kept r ∷ [])))) ≡ true → x ≡ false
    go true y f = absurd (cc)
    go false y f = refl
lazy-dark options NoLeaf r e = absurd (cc)
lazy-dark options (OpenCode lines) r e = absurd (cc)
lazy-dark options (OpenFence o lines) r e = absurd (cc)
lazy-dark options (OpenHtml kind lines) r e = absurd (cc)
lazy-dark options (OpenTable delimiter rows) r e = absurd (cc)

-- What is open after any line.

pub record Leaves (options : ParseOptions) (p : Path) (all : Bool) (r : Rest) (on new : List Taken) (after : Path) : Type 0
  where
    pub opens : (t : Taken) (ts : List Taken) → new ≡ t ∷ ts → spot after ≡ fresh_line options End (rest_of r on (t ∷ ts))
    pub met : new ≡ [] → lazy_of options p all (rest_of r on []) ≡ false → Innermost
    pub leaf : (none : new ≡ []) (lazy : lazy_of options p all (rest_of r on []) ≡ false) →
        (met none lazy).leaf ≡ cond all (spot p).leaf NoLeaf
    pub is : (none : new ≡ []) (lazy : lazy_of options p all (rest_of r on []) ≡ false) →
        spot after ≡ leaf_line options (met none lazy) (rest_of r on [])
    pub stays : new ≡ [] → lazy_of options p all (rest_of r on []) ≡ true → is_open_text (spot after).leaf ≡ true

-- the first container that opens, if one does, and those in it
abbrev first_new : ParseOptions → Option Taken → List Taken
first_new options None = []
first_new options (Some t) = t ∷ opened options false (length t.rest.bytes) t.rest

opened-first : (options : ParseOptions) (interrupting : Bool) (r : Rest) →
    opened options interrupting (length r.bytes) r ≡ first_new options (opens options interrupting r)
opened-first options interrupting r = go (length r.bytes) refl
  where
    none : (o : Option Taken) → ((t : Taken) → o ≡ Some t → suc (length t.rest.bytes) ≤ length r.bytes) →
        length r.bytes ≡ 0 → [] ≡ first_new options o
    none None f e = refl
    none (Some t) f e = absurd (omega (arith, f t refl, e))

    some : (n : ℕ) (o : Option Taken) → ((t : Taken) → o ≡ Some t → suc (length t.rest.bytes) ≤ length r.bytes) →
        length r.bytes ≡ suc n →
        (elim o [ Some t ↦ t ∷ opened options false n t.rest | None ↦ [] ]) ≡ first_new options o
    some n None f e = refl
    some n (Some t) f e =
        ap (λ (ts : List Taken). t ∷ ts)
        (opened-enough options false n (length t.rest.bytes) t.rest (omega (arith, f t refl, e)) (omega arith))

    go : (n : ℕ) → length r.bytes ≡ n →
        opened options interrupting n r ≡ first_new options (opens options interrupting r)
    go zero e = none (opens options interrupting r) (opens-leaves options interrupting r) e
    go (suc n) e = some n (opens options interrupting r) (opens-leaves options interrupting r) e

opened-spot : (options : ParseOptions) (n : ℕ) (r : Rest) →
    spot (step.opened options n r) ≡ fresh_line options End (following_all r (opened options false n r))
opened-spot options zero r = refl
opened-spot options (suc n) r = go (opened-spot options n) (opens options false r)
  where
    go : ((s : Rest) → spot (step.opened options n s) ≡
        fresh_line options End (following_all s (opened options false n s))) → (o : Option Taken) →
        spot
        (elim o [
          | Some t ↦ Within End t.container (step.opened options n t.rest)
          | None ↦ At (fresh_line options End r)
        ])
        ≡ fresh_line options End
        (following_all r (elim o [ Some t ↦ t ∷ opened options false n t.rest | None ↦ [] ]))
    go below None = refl
    go below (Some t) = below t.rest

spot-at : (p : Path) (s : Innermost) → spot (at_spot p s) ≡ s
spot-at (At t) s = refl
spot-at (Within before c p) s = spot-at p s

-- where a container opens
enter-leaves : (options : ParseOptions) (p : Path) (all : Bool) (r : Rest) (bs : Blocks) (t : Taken) →
    Leaves options p all r [] (first_new options (Some t)) (entered options bs t)
enter-leaves options p all r bs t = record {
  opens =
      λ u us e.
      opened-spot options (length t.rest.bytes) t.rest
      ∙ ap (λ (ts : List Taken). fresh_line options End (following_all r ts)) e;
  met = λ none. absurd (cc);
  leaf = λ none. absurd (cc);
  is = λ none. absurd (cc);
  stays = λ none. absurd (cc);
}

all-leaves : (options : ParseOptions) (s : Innermost) (r : Rest) (o : Option Taken) →
    Leaves options (At s) true r [] (first_new options o) (all_continued_by options s r o)
all-leaves options s r (Some t) = enter-leaves options (At s) true r (shut options s) t
all-leaves options s r None = record {
  opens = λ u us e. absurd (cc);
  met = λ none lazy. s;
  leaf = λ none lazy. refl;
  is = λ none lazy. refl;
  stays = λ none lazy. absurd (cc);
}

stopped-leaves : (options : ParseOptions) (before : Blocks) (c : Container) (p : Path) (r : Rest) (o : Option Taken) →
    Leaves options (Within before c p) false r [] (first_new options o) (stopped_by options before c p r o)
stopped-leaves options before c p r o = by o
  where
    bs : Blocks
    bs = then_block before (container_block c (closed options p))

    is_some_leaf : Option Leaf → Bool
    is_some_leaf l = is_some l

    lazy : (l : Option Leaf) → with_lazy options (spot p).leaf r ≡ l →
        Leaves options (Within before c p) false r [] [] (lazy_by options before c p r l)
    lazy None e = record {
      opens = λ u us none. absurd (cc);
      met = λ none is. spot_of bs;
      leaf = λ none is. refl;
      is = λ none is. refl;
      stays = λ none is. let no : is_some_leaf None ≡ true = ap is_some_leaf (sym e) ∙ is in absurd (cc);
    }
    lazy (Some leaf) e = record {
      opens = λ u us none. absurd (cc);
      met = λ none is. let no : is_some_leaf (Some leaf) ≡ false = ap is_some_leaf (sym e) ∙ is in absurd (cc);
      leaf = λ none is. let no : is_some_leaf (Some leaf) ≡ false = ap is_some_leaf (sym e) ∙ is in absurd (cc);
      is = λ none is. let no : is_some_leaf (Some leaf) ≡ false = ap is_some_leaf (sym e) ∙ is in absurd (cc);
      stays =
          λ none is.
          ap (λ (s : Innermost). is_open_text s.leaf) (spot-at p (record { here = (spot p).here; leaf = leaf }))
          ∙ lazy-text options (spot p).leaf leaf r e;
    }

    by : (o : Option Taken) →
        Leaves options (Within before c p) false r [] (first_new options o) (stopped_by options before c p r o)
    by (Some t) = enter-leaves options (Within before c p) false r bs t
    by None = lazy (with_lazy options (spot p).leaf r) refl

within-leaves : (options : ParseOptions) (before : Blocks) (c : Container) (p : Path) (r : Rest) (t : Taken)
    (all : Bool) (on new : List Taken) (after : Path) → Leaves options p all t.rest on new after →
    Leaves options (Within before c p) all r (t ∷ on) new (Within before t.container after)
within-leaves options before c p r t all on new after is = record {
  opens = is.opens;
  met = is.met;
  leaf = is.leaf;
  is = is.is;
  stays = is.stays;
}

-- whether all of the open containers continue
abbrev all_continue : ParseOptions → Path → Rest → Bool
all_continue options (At s) r = true
all_continue options (Within before c p) r = elim (continues options c r) [
  | Some t ↦ all_continue options p t.rest
  | None ↦ false
]

leaves-by : (options : ParseOptions) (p : Path) (r : Rest) →
    let on = taken_prefixes options p r in
    let all = all_continue options p r in
    Leaves options p all r on (new_of options p all r on) (step.step options p r)
unfolding all_continued stopped
leaves-by options (At s) r =
    subst (λ (new : List Taken). Leaves options (At s) true r [] new (all_continued options s r)) (sym new)
    (all-leaves options s r found)
  where
    found : Option Taken
    found = cond (is_concrete s.leaf) None (opens options (is_open_text s.leaf) r)

    by : (x : Bool) →
        cond x [] (opened options (is_open_text s.leaf) (length r.bytes) r)
        ≡ first_new options (cond x None (opens options (is_open_text s.leaf) r))
    by true = refl
    by false = opened-first options (is_open_text s.leaf) r

    new : new_of options (At s) true r [] ≡ first_new options found
    new = by (is_concrete s.leaf)
leaves-by options (Within before c p) r = go (λ s. leaves-by options p s) (continues options c r)
  where
    go : ((s : Rest) →
        let on = taken_prefixes options p s in
        let all = all_continue options p s in
        Leaves options p all s on (new_of options p all s on) (step.step options p s)) →
        (o : Option Taken) →
        let on : List Taken = elim o [ Some t ↦ t ∷ taken_prefixes options p t.rest | None ↦ [] ] in
        let all : Bool = elim o [ Some t ↦ all_continue options p t.rest | None ↦ false ] in
        Leaves options (Within before c p) all r on (new_of options (Within before c p) all r on)
        (elim o [
          | Some t ↦ Within before t.container (step.step options p t.rest)
          | None ↦ stopped options before c p r
        ])
    go below None =
        subst
        (λ (new : List Taken). Leaves options (Within before c p) false r [] new (stopped options before c p r))
        (sym (opened-first options false r)) (stopped-leaves options before c p r (opens options false r))
    go below (Some t) =
        let on : List Taken = taken_prefixes options p t.rest in
        let all : Bool = all_continue options p t.rest in
        within-leaves options before c p r t all on (new_of options p all t.rest on) (step.step options p t.rest)
        (below t.rest)

no-size : (n : ℕ) → false ≡ (0 == suc n)
no-size n = search rules

more-size : (n m : ℕ) → (n == m) ≡ (suc n == suc m)
more-size n m = search rules

all-proceeded : (options : ParseOptions) (p : Path) (r : Rest) →
    all_continue options p r ≡ (length (taken_prefixes options p r) == length (containers p))
all-proceeded options (At s) r = refl
all-proceeded options (Within before c p) r = go (all-proceeded options p) (continues options c r)
  where
    go : ((s : Rest) → all_continue options p s ≡ (length (taken_prefixes options p s) == length (containers p))) →
        (o : Option Taken) →
        let on : List Taken = elim o [ Some t ↦ t ∷ taken_prefixes options p t.rest | None ↦ [] ] in
        let all : Bool = elim o [ Some t ↦ all_continue options p t.rest | None ↦ false ] in
        all ≡ (length on == suc (length (containers p)))
    go below None = no-size (length (containers p))
    go below (Some t) = below t.rest ∙ more-size (length (taken_prefixes options p t.rest)) (length (containers p))

pub step-leaves : (options : ParseOptions) (p : Path) (r : Rest) →
    let on = taken_prefixes options p r in
    let all = length on == length (containers p) in
    Leaves options p all r on (new_of options p all r on) (step.step options p r)
step-leaves options p r =
    let on : List Taken = taken_prefixes options p r in
    subst (λ (all : Bool). Leaves options p all r on (new_of options p all r on) (step.step options p r))
    (all-proceeded options p r) (leaves-by options p r)
