-- A row, by whether containers open on it: how many stay open, which items are open after it, and what is last there.
use Rattle.std.proofs.Common.{◌≡◌, ℕ, zero, suc, ◌≤◌, Bool, true, false, cond, ◌&&◌, not, List, [], ◌∷◌, ◌++◌}
use Rattle.std.proofs.Common.{length, take, drop, refl, ap, ap₂, sym, ◌∙◌, subst, arith, rules}
use Rattle.std.specs.Prelude.{◌==◌, Option, Some, None}
use Rattle.std.specs.Option.{is_some}
use Rattle.std.proofs.lemmas.Bool.{eqb-true}
use Rattle.std.proofs.lemmas.List.{length-append, length-drop, length-map, take-append-drop, take_all}
use Rattle.md_engine.specs.declared.configuration.ParseOptions.{ParseOptions}
use Rattle.md_meaning.specs.declared.alert.AlertKind.{AlertKind}
use Rattle.md_meaning.specs.Containers.{Taken, continues, footnote_continues, item_continues, quote_taken}
use Rattle.md_meaning.specs.Leaves.{LeafResult, NoText, is_continued, starts}
use Rattle.md_meaning.specs.Rest.{Rest, is_blank}
use Rattle.md_meaning.specs.State.{At, Container, InFootnote, InItem, InQuote, Innermost, Leaf, NoLeaf, OpenCode}
use Rattle.md_meaning.specs.State.{OpenFence, OpenHtml, OpenParagraph, OpenTable, Path, Within, spot}
use Rattle.md_meaning.specs.Step.{leaf_line, step, with_lazy}
use Rattle.md_meaning.specs.Tree.{Blocks}
use Rattle.md_meaning.proofs.FindsLemmas.{Finds, some-found, when-found}
use Rattle.md_events.specs.Exact.Blocks as blocks
use Rattle.md_events.specs.Exact.Places.{TextLine, line_end, place, whole}
use Rattle.md_events.specs.Exact.Prefixes.{begins, following_all, containers, further_prefixes, taken_prefixes}
use Rattle.md_events.specs.Exact.Rows.{AfterCode, Blank, Delimiter, First, FirstText, Further, FurtherText, Head, Role, Row}
use Rattle.md_events.specs.Exact.Rows.{Underline, ends_from, first_or, is_blank_role, next_role, next_stays, role_before}
use Rattle.md_events.specs.Exact.Rows.{role_on, row_of}
use Rattle.proof_exact_lines.specs.Last.{HasLine, last_at, last_after, last_in, marker_in}
use Rattle.proof_exact_lines.specs.Unlisted.{pushed}
use Rattle.proof_exact_lines.proofs.LeafLast.{IsCode, Leaves, Met, meets}
use Rattle.proof_exact_lines.proofs.ListWalk.{markers-append, markers_from}
use Rattle.proof_exact_lines.proofs.StepLast.{Facts, Keeps, Opens, Stays, held_in, lazy_of, new_of, rest_of, step-facts}

-- The last block where so many containers are left.

pub last-whole : (p : Path) → last_at (length (containers p)) p ≡ last_in (spot p)
last-whole (At s) = refl
last-whole (Within before c p) = last-whole p

pub last-drop : (depth : ℕ) (p : Path) (c : Container) (cs : List Container) → drop depth (containers p) ≡ c ∷ cs →
    last_at depth p ≡ marker_in c
last-drop zero (At s) c cs e = absurd (cc)
last-drop (suc depth) (At s) c cs e = absurd (cc)
last-drop zero (Within before d p) c cs e = let same : d ≡ c = cc in ap marker_in same
last-drop (suc depth) (Within before d p) c cs e = last-drop depth p c cs e

-- Containers that continue.

abbrev HasMarker : Option ℕ → Taken → Type 0
HasMarker marker t = marker_in t.container ≡ marker

-- an item keeps its marker
quote-marker : (options : ParseOptions) (kind : Option AlertKind) (r : Rest) →
    Finds (quote_taken options kind r) (HasMarker None)
unfolding quote_taken
quote-marker options kind r = go _ _
  where
    go : (x : Bool) (s : Rest) →
        Finds (cond x (Some (record { container = InQuote kind; rest = s })) None) (HasMarker None)
    go x s =
        when-found (HasMarker None) x (Some (record { container = InQuote kind; rest = s }))
        (λ e. some-found (HasMarker None) (record { container = InQuote kind; rest = s }) refl)

item-keeps : (digits : List ℕ) (marker width : ℕ) (starts_blank : Bool) (r : Rest) →
    Finds (item_continues digits marker width starts_blank r) (HasMarker (Some marker))
unfolding item_continues
item-keeps digits marker width starts_blank r = go _ _
  where
    item : Rest → Taken
    item s = record { container = InItem digits marker width false; rest = s }

    go : (x : Bool) (s : Rest) → Finds (cond x (Some (item s)) None) (HasMarker (Some marker))
    go x s =
        when-found (HasMarker (Some marker)) x (Some (item s))
        (λ e. some-found (HasMarker (Some marker)) (item s) refl)

footnote-keeps : (label : List ℕ) (r : Rest) → Finds (footnote_continues label r) (HasMarker None)
unfolding footnote_continues
footnote-keeps label r = go _ _
  where
    go : (x : Bool) (s : Rest) →
        Finds (cond x (Some (record { container = InFootnote label; rest = s })) None) (HasMarker None)
    go x s =
        when-found (HasMarker None) x (Some (record { container = InFootnote label; rest = s }))
        (λ e. some-found (HasMarker None) (record { container = InFootnote label; rest = s }) refl)

continues-marker : (options : ParseOptions) (c : Container) (r : Rest) →
    Finds (continues options c r) (HasMarker (marker_in c))
continues-marker options (InQuote kind) r = quote-marker options kind r
continues-marker options (InItem digits marker width starts_blank) r = item-keeps digits marker width starts_blank r
continues-marker options (InFootnote label) r = footnote-keeps label r

pub gone-markers : (options : ParseOptions) (p : Path) (r : Rest) (ms : List ℕ) →
    markers_from ms (held_in (taken_prefixes options p r))
    ≡ markers_from ms (take (length (taken_prefixes options p r)) (containers p))
gone-markers options (At s) r ms = refl
gone-markers options (Within before c p) r ms =
    go (gone-markers options p) (continues options c r) (continues-marker options c r)
  where
    go : ((s : Rest) (ns : List ℕ) →
        markers_from ns (held_in (taken_prefixes options p s))
        ≡ markers_from ns (take (length (taken_prefixes options p s)) (containers p))) →
        (o : Option Taken) → Finds o (HasMarker (marker_in c)) →
        let on : List Taken = elim o [ Some t ↦ t ∷ taken_prefixes options p t.rest | None ↦ [] ] in
        markers_from ms (held_in on) ≡ markers_from ms (take (length on) (c ∷ containers p))
    go below None h = refl
    go below (Some t) h =
        ap (λ (m : Option ℕ). markers_from (pushed ms m) (held_in (taken_prefixes options p t.rest))) (h t refl)
        ∙ below t.rest (pushed ms (marker_in c))

pub gone-fewer : (options : ParseOptions) (p : Path) (r : Rest) → length (taken_prefixes options p r) ≤
    length (containers p)
gone-fewer options (At s) r = omega arith
gone-fewer options (Within before c p) r = go (gone-fewer options p) (continues options c r)
  where
    go : ((s : Rest) → length (taken_prefixes options p s) ≤ length (containers p)) → (o : Option Taken) →
        let on : List Taken = elim o [ Some t ↦ t ∷ taken_prefixes options p t.rest | None ↦ [] ] in
        length on ≤ suc (length (containers p))
    go below None = omega arith
    go below (Some t) = let more = below t.rest in omega arith

-- Roles.

-- a leaf is open
abbrev pub IsOpen : Leaf → Type 0
IsOpen NoLeaf = ⊥
IsOpen leaf = Unit {0}

pub open-last : (leaf : Leaf) (bs : Blocks) → IsOpen leaf → last_after leaf bs ≡ None
open-last NoLeaf bs h = absurd h
open-last (OpenParagraph lines) bs h = refl
open-last (OpenCode lines) bs h = refl
open-last (OpenFence o lines) bs h = refl
open-last (OpenHtml kind lines) bs h = refl
open-last (OpenTable delimiter rows) bs h = refl

first-proceeds : (o : Option LeafResult) → blocks.is_continued (first_or FirstText o) ≡ false
first-proceeds None = refl
first-proceeds (Some c) = refl

-- what continues a leaf meets one that is open
role-open : (options : ParseOptions) (leaf : Leaf) (r : Rest) → blocks.is_continued (role_on options leaf r) ≡ true →
    IsOpen leaf
role-open options NoLeaf r e = go (is_blank r.bytes) e
  where
    go : (x : Bool) → blocks.is_continued (cond x Blank (first_or FirstText (starts options NoText r))) ≡ true → ⊥
    go true e = absurd (cc)
    go false e = let none = first-proceeds (starts options NoText r) in absurd (cc)
role-open options (OpenParagraph lines) r e = tt
role-open options (OpenCode lines) r e = tt
role-open options (OpenFence o lines) r e = tt
role-open options (OpenHtml kind lines) r e = tt
role-open options (OpenTable delimiter rows) r e = tt

lazy-open : (options : ParseOptions) (leaf : Leaf) (r : Rest) → is_some (with_lazy options leaf r) ≡ true → IsOpen leaf
lazy-open options NoLeaf r e = absurd (cc)
lazy-open options (OpenParagraph lines) r e = tt
lazy-open options (OpenCode lines) r e = absurd (cc)
lazy-open options (OpenFence o lines) r e = absurd (cc)
lazy-open options (OpenHtml kind lines) r e = absurd (cc)
lazy-open options (OpenTable delimiter rows) r e = absurd (cc)

-- before a line that continues none: a blank line of code is after it
abbrev following_code : Rest → Role → Role
following_code r (Further (OpenCode lines)) = cond (is_blank r.bytes) AfterCode (Further (OpenCode lines))
following_code r role = role

-- what the next line is says no more
abbrev PassesBack : Role → Type 0
PassesBack Delimiter = ⊥
PassesBack (Further leaf) = ⊥
PassesBack role = Unit {0}

none-back : (next : Role) → blocks.is_continued next ≡ false → PassesBack next
none-back (Further leaf) e = absurd (cc)
none-back Delimiter e = absurd (cc)
none-back _ e = tt

code-before : (next : Role) (r : Rest) (role : Role) → PassesBack next → role_before next r role ≡ following_code r role
code-before Blank r (Further (OpenCode lines)) h = refl
code-before Blank r _ h = refl
code-before (First c) r (Further (OpenCode lines)) h = refl
code-before (First c) r _ h = refl
code-before FirstText r (Further (OpenCode lines)) h = refl
code-before FirstText r _ h = refl
code-before Head r (Further (OpenCode lines)) h = refl
code-before Head r _ h = refl
code-before AfterCode r (Further (OpenCode lines)) h = refl
code-before AfterCode r _ h = refl
code-before FurtherText r (Further (OpenCode lines)) h = refl
code-before FurtherText r _ h = refl
code-before Underline r (Further (OpenCode lines)) h = refl
code-before Underline r _ h = refl
code-before (Further leaf) r role h = absurd h
code-before Delimiter r role h = absurd h

-- whether a line is between two blocks: it is then a blank line, and the last block stays the same
following-last : (r : Rest) (role : Role) (x : Option ℕ) → (blocks.is_continued role ≡ true → x ≡ None) →
    cond (is_blank_role role) x None ≡ cond (is_blank_role (following_code r role)) x None
following-last r (Further (OpenCode lines)) x h = go (is_blank r.bytes)
  where
    go : (b : Bool) → None ≡ cond (is_blank_role (cond b AfterCode (Further (OpenCode lines)))) x None
    go true = sym (h refl)
    go false = refl
following-last r _ x h = refl

pub before-last : (next : Role) (r : Rest) (role : Role) (x : Option ℕ) → blocks.is_continued next ≡ false →
    (blocks.is_continued role ≡ true → x ≡ None) →
    cond (is_blank_role role) x None ≡ cond (is_blank_role (role_before next r role)) x None
before-last next r role x e h =
    following-last r role x h
    ∙ ap (λ (a : Role). cond (is_blank_role a) x None) (sym (code-before next r role (none-back next e)))

-- a line continues a leaf by what it meets alone
before-proceeds : (next : Role) (r : Rest) (role : Role) → blocks.is_continued (role_before next r role) ≡ true →
    blocks.is_continued role ≡ true
before-proceeds next r role e = go next e
  where
    code : (role : Role) → blocks.is_continued (following_code r role) ≡ true → blocks.is_continued role ≡ true
    code (Further (OpenCode lines)) e = refl
    code (Further _) e = refl
    code Blank e = e
    code (First c) e = e
    code FirstText e = e
    code FurtherText e = e
    code Underline e = e
    code Head e = e
    code Delimiter e = e
    code AfterCode e = e

    go : (next : Role) → blocks.is_continued (role_before next r role) ≡ true → blocks.is_continued role ≡ true
    go Delimiter e = absurd (cc)
    go (Further leaf) e = e
    go Blank e = code role (ap blocks.is_continued (sym (code-before Blank r role tt)) ∙ e)
    go (First c) e = code role (ap blocks.is_continued (sym (code-before (First c) r role tt)) ∙ e)
    go FirstText e = code role (ap blocks.is_continued (sym (code-before FirstText r role tt)) ∙ e)
    go Head e = code role (ap blocks.is_continued (sym (code-before Head r role tt)) ∙ e)
    go AfterCode e = code role (ap blocks.is_continued (sym (code-before AfterCode r role tt)) ∙ e)
    go FurtherText e = code role (ap blocks.is_continued (sym (code-before FurtherText r role tt)) ∙ e)
    go Underline e = code role (ap blocks.is_continued (sym (code-before Underline r role tt)) ∙ e)

-- a leaf that is open may continue in a line that is this
abbrev IsFurther : Role → Type 0
IsFurther (Further leaf) = Unit {0}
IsFurther role = ⊥

abbrev pub Follows : Leaf → Role → Type 0
Follows NoLeaf role = ⊥
Follows (OpenCode lines) role = IsFurther role
Follows leaf role = Unit {0}

pub follows-last : (leaf : Leaf) (bs : Blocks) (role : Role) → Follows leaf role → last_after leaf bs ≡ None
follows-last NoLeaf bs role h = absurd h
follows-last (OpenParagraph lines) bs role h = refl
follows-last (OpenCode lines) bs role h = refl
follows-last (OpenFence o lines) bs role h = refl
follows-last (OpenHtml kind lines) bs role h = refl
follows-last (OpenTable delimiter rows) bs role h = refl

role-follows : (options : ParseOptions) (leaf : Leaf) (r : Rest) → blocks.is_continued (role_on options leaf r) ≡ true →
    Follows leaf (role_on options leaf r)
role-follows options NoLeaf r e = role-open options NoLeaf r e
role-follows options (OpenParagraph lines) r e = tt
role-follows options (OpenCode lines) r e =
    go (is_some (is_continued options (OpenCode lines) r)) (is_blank r.bytes) e
  where
    go : (x y : Bool) →
        blocks.is_continued
        (cond x (Further (OpenCode lines)) (cond y Blank (first_or FirstText (starts options NoText r))))
        ≡ true →
        IsFurther (cond x (Further (OpenCode lines)) (cond y Blank (first_or FirstText (starts options NoText r))))
    go true y e = tt
    go false true e = absurd (cc)
    go false false e = let none = first-proceeds (starts options NoText r) in absurd (cc)
role-follows options (OpenFence o lines) r e = tt
role-follows options (OpenHtml kind lines) r e = tt
role-follows options (OpenTable delimiter rows) r e = tt

lazy-follows : (options : ParseOptions) (leaf : Leaf) (r : Rest) (role : Role) →
    is_some (with_lazy options leaf r) ≡ true → Follows leaf role
lazy-follows options NoLeaf r role e = absurd (cc)
lazy-follows options (OpenParagraph lines) r role e = tt
lazy-follows options (OpenCode lines) r role e = absurd (cc)
lazy-follows options (OpenFence o lines) r role e = tt
lazy-follows options (OpenHtml kind lines) r role e = tt
lazy-follows options (OpenTable delimiter rows) r role e = tt

-- it does so whatever the next line is
before-follows : (next : Role) (r : Rest) (leaf : Leaf) (role : Role) → Follows leaf role →
    blocks.is_continued (role_before next r role) ≡ true → Follows leaf (role_before next r role)
before-follows next r NoLeaf role h e = h
before-follows next r (OpenParagraph lines) role h e = tt
before-follows next r (OpenFence o lines) role h e = tt
before-follows next r (OpenHtml kind lines) role h e = tt
before-follows next r (OpenTable delimiter rows) role h e = tt
before-follows next r (OpenCode lines) role h e = go next e
  where
    code : (role : Role) → IsFurther role → blocks.is_continued (following_code r role) ≡ true →
        IsFurther (following_code r role)
    code (Further (OpenCode ks)) h e = by (is_blank r.bytes) e
      where
        by : (x : Bool) → blocks.is_continued (cond x AfterCode (Further (OpenCode ks))) ≡ true →
            IsFurther (cond x AfterCode (Further (OpenCode ks)))
        by true e = absurd (cc)
        by false e = tt
    code (Further _) h e = tt
    code _ h e = absurd h

    go : (next : Role) → blocks.is_continued (role_before next r role) ≡ true → IsFurther (role_before next r role)
    go Delimiter e = absurd (cc)
    go (Further leaf) e = h
    go Blank e =
        subst IsFurther (sym (code-before Blank r role tt))
        (code role h (ap blocks.is_continued (sym (code-before Blank r role tt)) ∙ e))
    go (First c) e =
        subst IsFurther (sym (code-before (First c) r role tt))
        (code role h (ap blocks.is_continued (sym (code-before (First c) r role tt)) ∙ e))
    go FirstText e =
        subst IsFurther (sym (code-before FirstText r role tt))
        (code role h (ap blocks.is_continued (sym (code-before FirstText r role tt)) ∙ e))
    go Head e =
        subst IsFurther (sym (code-before Head r role tt))
        (code role h (ap blocks.is_continued (sym (code-before Head r role tt)) ∙ e))
    go AfterCode e =
        subst IsFurther (sym (code-before AfterCode r role tt))
        (code role h (ap blocks.is_continued (sym (code-before AfterCode r role tt)) ∙ e))
    go FurtherText e =
        subst IsFurther (sym (code-before FurtherText r role tt))
        (code role h (ap blocks.is_continued (sym (code-before FurtherText r role tt)) ∙ e))
    go Underline e =
        subst IsFurther (sym (code-before Underline r role tt))
        (code role h (ap blocks.is_continued (sym (code-before Underline r role tt)) ∙ e))

-- a line that is not blank
before-filled : (next : Role) (r : Rest) (role : Role) → is_blank_role role ≡ false →
    is_blank_role (following_code r role) ≡ false → is_blank_role (role_before next r role) ≡ false
before-filled Delimiter r role e f = refl
before-filled (Further leaf) r role e f = e
before-filled Blank r role e f = ap is_blank_role (code-before Blank r role tt) ∙ f
before-filled (First c) r role e f = ap is_blank_role (code-before (First c) r role tt) ∙ f
before-filled FirstText r role e f = ap is_blank_role (code-before FirstText r role tt) ∙ f
before-filled Head r role e f = ap is_blank_role (code-before Head r role tt) ∙ f
before-filled AfterCode r role e f = ap is_blank_role (code-before AfterCode r role tt) ∙ f
before-filled FurtherText r role e f = ap is_blank_role (code-before FurtherText r role tt) ∙ f
before-filled Underline r role e f = ap is_blank_role (code-before Underline r role tt) ∙ f

-- A line where nothing continues is blank or is text, or a leaf begins there.
first-blank : (next : Role) (r : Rest) (x : Bool) (o : Option LeafResult) →
    is_blank_role (role_before next r (cond x Blank (first_or FirstText o))) ≡ true → x ≡ true
first-blank next r true o e = refl
first-blank next r false None e = let filled = before-filled next r FirstText refl refl in absurd (cc)
first-blank next r false (Some c) e = let filled = before-filled next r (First c) refl refl in absurd (cc)

-- and none continues a blank line
blank-follows : (next : Role) (r : Rest) (role : Role) (leaf : Leaf) → Leaves role leaf →
    is_blank_role (role_before next r role) ≡ true → blocks.is_continued next ≡ true → Follows leaf next → ⊥
blank-follows next r role leaf left e proceeds h = go next e proceeds h
  where
    none : (next : Role) → leaf ≡ NoLeaf → Follows leaf next → ⊥
    none next l h = subst (λ (x : Leaf). Follows x next) l h

    blank : (role : Role) → Leaves role leaf → is_blank_role role ≡ true → leaf ≡ NoLeaf
    blank Blank l e = l
    blank AfterCode l e = l
    blank _ l e = absurd (cc)

    code-follows : (leaf : Leaf) (next : Role) → IsCode leaf → (IsFurther next → ⊥) → Follows leaf next → ⊥
    code-follows (OpenCode lines) next l f h = f h
    code-follows _ next l f h = absurd l

    code : (next role : Role) → Leaves role leaf → is_blank_role (following_code r role) ≡ true → (IsFurther next → ⊥) →
        Follows leaf next → ⊥
    code next (Further (OpenCode lines)) l e f h = code-follows leaf next l f h
    code next Blank l e f h = none next l h
    code next AfterCode l e f h = none next l h
    code next _ l e f h = absurd (cc)

    go : (next : Role) → is_blank_role (role_before next r role) ≡ true → blocks.is_continued next ≡ true →
        Follows leaf next → ⊥
    go Delimiter e proceeds h = absurd (cc)
    go (Further k) e proceeds h = none (Further k) (blank role left e) h
    go FurtherText e proceeds h =
        code FurtherText role left (ap is_blank_role (sym (code-before FurtherText r role tt)) ∙ e) (λ f. f) h
    go Underline e proceeds h =
        code Underline role left (ap is_blank_role (sym (code-before Underline r role tt)) ∙ e) (λ f. f) h
    go Blank e proceeds h = absurd (cc)
    go (First c) e proceeds h = absurd (cc)
    go FirstText e proceeds h = absurd (cc)
    go Head e proceeds h = absurd (cc)
    go AfterCode e proceeds h = absurd (cc)

-- Rows.

abbrev pub on_of : ParseOptions → Path → TextLine → List Taken
on_of options p line = taken_prefixes options p (whole line)

abbrev all_of : ParseOptions → Path → TextLine → Bool
all_of options p line = length (on_of options p line) == length (containers p)

abbrev pub new_on : ParseOptions → Path → TextLine → List Taken
new_on options p line = new_of options p (all_of options p line) (whole line) (on_of options p line)

-- a row by what opens on it, whether nothing does, and whether it is lazy
abbrev row_by : ParseOptions → Path → TextLine → List Row → List Taken → Bool → Bool → Row
row_by options p line below new none lazy =
    let on = on_of options p line in
    let inner = following_all (whole line) on in
    let rest = following_all inner new in
    let after = step options p (whole line) in
    record {
      line = line;
      stays = cond lazy (length (containers p)) (length on);
      held = containers after;
      front = further_prefixes line (whole line) on ++ begins line after (length on) inner new;
      rest = rest;
      role =
          role_before (next_role below) rest
          (cond lazy FurtherText (role_on options (cond (all_of options p line && none) (spot p).leaf NoLeaf) rest));
      ends =
          ends_from (next_stays below) (drop (next_stays below) (containers after)) (place line (line_end line)) below;
    }

some-size : (n : ℕ) → (suc n == 0) ≡ false
some-size n = search rules

-- where containers open
begins-row : (options : ParseOptions) (p : Path) (line : TextLine) (below : List Row) (t : Taken) (ts : List Taken) →
    new_on options p line ≡ t ∷ ts →
    row_of options p line below ≡ row_by options p line below (t ∷ ts) false false
begins-row options p line below t ts e =
    ap (λ (new : List Taken). by new (length new == 0)) e
    ∙ ap (by (t ∷ ts)) (some-size (length ts))
    ∙ ap (row_by options p line below (t ∷ ts) false)
    (never (all_of options p line) (is_some (with_lazy options (spot p).leaf (rest_of (whole line)
    (on_of options p line) (t ∷ ts)))))
  where
    by : List Taken → Bool → Row
    by new none =
        row_by options p line below new none
        (not (all_of options p line) && none
        && is_some (with_lazy options (spot p).leaf (rest_of (whole line) (on_of options p line) new)))

    never : (x y : Bool) → (not x && false && y) ≡ false
    never true y = refl
    never false y = refl

-- and where none does
abbrev lazy_on : ParseOptions → Path → TextLine → Bool
lazy_on options p line =
    lazy_of options p (all_of options p line) (rest_of (whole line) (on_of options p line) [])

keeps-row : (options : ParseOptions) (p : Path) (line : TextLine) (below : List Row) → new_on options p line ≡ [] →
    row_of options p line below ≡ row_by options p line below [] true (lazy_on options p line)
keeps-row options p line below e =
    ap by e
    ∙ ap (row_by options p line below [] true)
    (always (all_of options p line) (is_some (with_lazy options (spot p).leaf (rest_of (whole line)
    (on_of options p line) []))))
  where
    by : List Taken → Row
    by new =
        row_by options p line below new (length new == 0)
        (not (all_of options p line) && (length new == 0)
        && is_some (with_lazy options (spot p).leaf (rest_of (whole line) (on_of options p line) new)))

    always : (x y : Bool) → (not x && true && y) ≡ (not x && y)
    always true y = refl
    always false y = refl

-- Where containers open.
pub record Begins (options : ParseOptions) (p : Path) (line : TextLine) (row : Row) (t : Taken) (ts : List Taken) :
    Type 0 where
  pub stays : row.stays ≡ length (on_of options p line)
  pub markers :
      markers_from [] (take row.stays (containers p)) ≡ markers_from [] (held_in (on_of options p line))
  pub front : row.front
      ≡ further_prefixes line (whole line) (on_of options p line)
      ++ begins line (step options p (whole line)) (length (on_of options p line))
      (following_all (whole line) (on_of options p line)) (t ∷ ts)
  pub opens : Opens p (on_of options p line) (t ∷ ts) (rest_of (whole line) (on_of options p line) (t ∷ ts))
      (step options p (whole line))
  pub first : blocks.is_continued row.role ≡ false
  pub blank : is_blank_role row.role ≡ true → (spot (step options p (whole line))).leaf ≡ NoLeaf

pub begins-facts : (options : ParseOptions) (p : Path) (line : TextLine) (below : List Row) → HasLine (spot p).leaf →
    (t : Taken) (ts : List Taken) → new_on options p line ≡ t ∷ ts →
    Begins options p line (row_of options p line below) t ts
begins-facts options p line below h t ts is_new =
    subst (λ (row : Row). Begins options p line row t ts) (sym (begins-row options p line below t ts is_new)) (record {
      stays = refl;
      markers = sym (gone-markers options p (whole line) []);
      front = refl;
      opens = (step-facts options p (whole line) h).opens t ts is_new;
      first = first (blocks.is_continued role) refl;
      blank = blank;
    })
  where
    role : Role
    role = (row_by options p line below (t ∷ ts) false false).role

    leaf : (x : Bool) → IsOpen (cond (x && false) (spot p).leaf NoLeaf) → ⊥
    leaf true h = h
    leaf false h = h

    rest : Rest
    rest = rest_of (whole line) (on_of options p line) (t ∷ ts)

    none : (x : Bool) →
        role_on options (cond (x && false) (spot p).leaf NoLeaf) rest
        ≡ cond (is_blank rest.bytes) Blank (first_or FirstText (starts options NoText rest))
    none true = refl
    none false = refl

    blank : is_blank_role role ≡ true → (spot (step options p (whole line))).leaf ≡ NoLeaf
    blank e =
        ((step-facts options p (whole line) h).opens t ts is_new).blank
        (first-blank (next_role below) rest (is_blank rest.bytes) (starts options NoText rest)
        (ap (λ (a : Role). is_blank_role (role_before (next_role below) rest a))
        (sym (none (all_of options p line))) ∙ e))

    first : (x : Bool) → blocks.is_continued role ≡ x → x ≡ false
    first true proceeds =
        absurd
        (leaf (all_of options p line)
        (role-open options (cond (all_of options p line && false) (spot p).leaf NoLeaf) rest
        (before-proceeds (next_role below) rest
        (role_on options (cond (all_of options p line && false) (spot p).leaf NoLeaf) rest) proceeds)))
    first false proceeds = refl

-- Where none opens.
pub record Remains (options : ParseOptions) (p : Path) (line : TextLine) (below : List Row) (row : Row) : Type 0 where
  pub front : row.front ≡ further_prefixes line (whole line) (on_of options p line) ++ []
  pub markers : markers_from [] row.held ≡ markers_from [] (take row.stays (containers p))
  pub size : length row.held ≡ row.stays
  pub text : HasLine (spot (step options p (whole line))).leaf
  pub last : blocks.is_continued (next_role below) ≡ false →
      last_in (spot (step options p (whole line))) ≡ cond (is_blank_role row.role) (last_at row.stays p) None
  -- a line that continues a leaf meets the innermost container
  pub all_stay : blocks.is_continued row.role ≡ true → row.stays ≡ length (containers p)
  pub met : blocks.is_continued row.role ≡ true → Follows (spot p).leaf row.role
  -- no line continues a blank line
  pub shut : is_blank_role row.role ≡ true → blocks.is_continued (next_role below) ≡ true →
      Follows (spot (step options p (whole line))).leaf (next_role below) → ⊥

lazy-facts : (options : ParseOptions) (p : Path) (line : TextLine) (below : List Row) →
    is_some (with_lazy options (spot p).leaf (rest_of (whole line) (on_of options p line) [])) ≡ true →
    Stays p (on_of options p line) (step options p (whole line)) →
    Remains options p line below (row_by options p line below [] true true)
lazy-facts options p line below lazy is =
    let on : List Taken = on_of options p line in
    let rest : Rest = rest_of (whole line) on [] in
    let cs : List Container = containers p in
    let none : last_in (spot p) ≡ None =
    open-last (spot p).leaf (spot p).here
    (lazy-open options (spot p).leaf rest lazy) in
    record {
      front = refl;
      markers =
          ap (markers_from []) is.held ∙ markers-append [] (held_in on) (drop (length on) cs)
          ∙ ap (λ (ms : List ℕ). markers_from ms (drop (length on) cs)) (gone-markers options p (whole line) [])
          ∙ sym (markers-append [] (take (length on) cs) (drop (length on) cs))
          ∙ ap (markers_from []) (take-append-drop (length on) cs ∙ sym (take_all (length cs) cs (omega arith)));
      size =
          ap (λ (ds : List Container). length ds) is.held
          ∙ omega (
            arith,
            length-append (held_in on) (drop (length on) cs),
            length-map on (λ (t : Taken). t.container),
            length-drop (length on) cs,
            gone-fewer options p (whole line),
          );
      text = is.ends.text;
      last =
          λ e.
          is.ends.last
          ∙ before-last (next_role below) rest FurtherText (last_at (length cs) p) e
          (λ proceeds. last-whole p ∙ none);
      all_stay = λ proceeds. refl;
      met = λ proceeds. lazy-follows options (spot p).leaf rest (role_before (next_role below) rest FurtherText) lazy;
      shut =
          λ e proceeds follows.
          let filled = before-filled (next_role below) rest FurtherText refl refl in absurd (cc);
    }

kept-facts : (options : ParseOptions) (p : Path) (line : TextLine) (below : List Row) → HasLine (spot p).leaf →
    Keeps options p (all_of options p line) (on_of options p line) (rest_of (whole line) (on_of options p line) [])
    (step options p (whole line)) →
    Remains options p line below (row_by options p line below [] true false)
kept-facts options p line below h is = record {
  front = refl;
  markers = ap (markers_from []) is.held ∙ gone-markers options p (whole line) [];
  size = ap (λ (ds : List Container). length ds) is.held ∙ length-map on (λ (t : Taken). t.container);
  text = subst (λ (s : Innermost). HasLine s.leaf) (sym is.is) met.text;
  last =
      λ e.
      ap last_in is.is ∙ met.last
      ∙ ap₂ (λ (l : Leaf) (x : Option ℕ). cond (is_blank_role (role_on options l rest)) x None) leaf is.last
      ∙ before-last (next_role below) rest base (last_at (length on) p) e
      (λ proceeds. sym is.last ∙ met-last (role-open options (met_leaf all) rest proceeds));
  all_stay = λ proceeds. eqb-true (length on) (length (containers p))
      (proceeded (before-proceeds (next_role below) rest base proceeds));
  met =
      λ proceeds.
      before-follows (next_role below) rest (spot p).leaf base
      (leaf-open all (proceeded (before-proceeds (next_role below) rest base proceeds))
      (role-follows options (met_leaf all) rest (before-proceeds (next_role below) rest base proceeds)))
      proceeds;
  shut =
      λ e proceeds follows.
      blank-follows (next_role below) rest base (spot (step options p (whole line))).leaf leaves e proceeds follows;
}
  where
    on : List Taken
    on = on_of options p line

    all : Bool
    all = all_of options p line

    rest : Rest
    rest = rest_of (whole line) on []

    met_leaf : Bool → Leaf
    met_leaf x = cond (x && true) (spot p).leaf NoLeaf

    base : Role
    base = role_on options (met_leaf all) rest

    same : (x : Bool) → cond x (spot p).leaf NoLeaf ≡ met_leaf x
    same true = refl
    same false = refl

    leaf : is.met.leaf ≡ met_leaf all
    leaf = is.leaf ∙ same all

    text : (x : Bool) → HasLine (met_leaf x)
    text true = h
    text false = tt

    met : Met options is.met rest
    met = meets options is.met rest (subst HasLine (sym leaf) (text all))

    met-last : IsOpen (met_leaf all) → last_in is.met ≡ None
    met-last o = open-last is.met.leaf is.met.here (subst IsOpen (sym leaf) o)

    proceeded-by : (x : Bool) → IsOpen (met_leaf x) → x ≡ true
    proceeded-by true o = refl
    proceeded-by false o = absurd o

    proceeded : blocks.is_continued base ≡ true → all ≡ true
    proceeded proceeds = proceeded-by all (role-open options (met_leaf all) rest proceeds)

    leaf-open : (x : Bool) → x ≡ true → Follows (met_leaf x) base → Follows (spot p).leaf base
    leaf-open true e o = o
    leaf-open false e o = absurd o

    leaves : Leaves base (spot (step options p (whole line))).leaf
    leaves =
        subst (λ (s : Innermost). Leaves base s.leaf) (sym is.is)
        (subst (λ (l : Leaf). Leaves (role_on options l rest) (leaf_line options is.met rest).leaf) leaf met.leaves)

pub remains-facts : (options : ParseOptions) (p : Path) (line : TextLine) (below : List Row) → HasLine (spot p).leaf →
    new_on options p line ≡ [] → Remains options p line below (row_of options p line below)
remains-facts options p line below h e =
    subst (Remains options p line below) (sym (keeps-row options p line below e)) (go (lazy_on options p line) refl)
  where
    facts : Facts options p (all_of options p line) (whole line) (on_of options p line) [] (step options p (whole line))
    facts =
        subst
        (λ (new : List Taken).
        Facts options p (all_of options p line) (whole line) (on_of options p line) new (step options p (whole line)))
        e (step-facts options p (whole line) h)

    some : (x y : Bool) → (not x && y) ≡ true → y ≡ true
    some true y e = absurd (cc)
    some false y e = e

    go : (x : Bool) → lazy_on options p line ≡ x →
        Remains options p line below (row_by options p line below [] true x)
    go true l =
        lazy-facts options p line below
        (some (all_of options p line)
        (is_some (with_lazy options (spot p).leaf (rest_of (whole line) (on_of options p line) []))) l)
        (facts.stays refl l)
    go false l = kept-facts options p line below h (facts.keeps refl l)
