-- A line of text by its role: it is not blank, and the next line continues no leaf other than it.
use Rattle.std.proofs.Common.{◌≡◌, ℕ, suc, Bool, true, false, cond, ◌&&◌, not, List, [], ◌∷◌, length, refl, ap}
use Rattle.std.proofs.Common.{◌∙◌, subst, rules}
use Rattle.std.specs.Prelude.{◌==◌}
use Rattle.std.specs.Option.{is_some}
use Rattle.md_engine.specs.declared.configuration.ParseOptions.{ParseOptions}
use Rattle.md_meaning.specs.Containers.{Taken}
use Rattle.md_meaning.specs.Rest.{Rest, is_blank}
use Rattle.md_meaning.specs.State.{Innermost, Leaf, NoLeaf, OpenCode, OpenFence, OpenHtml, OpenParagraph, OpenTable}
use Rattle.md_meaning.specs.State.{Path, spot}
use Rattle.md_meaning.specs.Step.{is_open_text, step, with_lazy}
use Rattle.md_meaning.specs.Tree.{End}
use Rattle.md_events.specs.Exact.Places.{TextLine, whole}
use Rattle.md_events.specs.Exact.Prefixes.{containers, taken_prefixes}
use Rattle.md_events.specs.Exact.Rows.{AfterCode, Blank, Delimiter, First, FirstText, Further, FurtherText, Head, Role, Row}
use Rattle.md_events.specs.Exact.Rows.{Underline, fresh_role, next_role, role_before, role_on, row_of, rows_of}
use Rattle.proof_exact_lines.proofs.LeafLast.{fresh-cases}
use Rattle.proof_exact_lines.proofs.StepLast.{new_of, rest_of}
use Rattle.proof_exact.proofs.Filled.OpenText.{IsFresh, IsPlainText, Leaves, fresh-text, lazy-dark, met-text, step-leaves}
use Rattle.proof_exact.proofs.Filled.OpenText.{text-fresh}

-- what a line is before the next one is looked at
abbrev base : ParseOptions → Leaf → Bool → Rest → Bool → Role
base options leaf all rest none =
    cond (not all && none && is_some (with_lazy options leaf rest)) FurtherText
    (role_on options (cond (all && none) leaf NoLeaf) rest)

-- whether all open containers continue, and whether none opens
abbrev all_of : ParseOptions → Path → TextLine → Bool
all_of options p line = length (taken_prefixes options p (whole line)) == length (containers p)

abbrev none_of : ParseOptions → Path → TextLine → Bool
none_of options p line =
    length (new_of options p (all_of options p line) (whole line) (taken_prefixes options p (whole line))) == 0

-- the next line makes no text of what is none
before-text : (next : Role) (r : Rest) (role : Role) → IsPlainText (role_before next r role) → IsPlainText role
before-text Delimiter r role h = absurd h
before-text (Further leaf) r role h = h
before-text next r (Further (OpenCode lines)) h = go (is_blank r.bytes) next h
  where
    code : Bool → Role
    code x = cond x AfterCode (Further (OpenCode lines))

    none : (x : Bool) → IsPlainText (code x) → ⊥
    none true h = h
    none false h = h

    go : (x : Bool) (next : Role) → IsPlainText (role_before next r (Further (OpenCode lines))) → ⊥
    go x Delimiter h = h
    go x (Further leaf) h = h
    go x Blank h = none (is_blank r.bytes) h
    go x (First c) h = none (is_blank r.bytes) h
    go x FirstText h = none (is_blank r.bytes) h
    go x FurtherText h = none (is_blank r.bytes) h
    go x Underline h = none (is_blank r.bytes) h
    go x Head h = none (is_blank r.bytes) h
    go x AfterCode h = none (is_blank r.bytes) h
before-text _ r _ h = h

-- It is not blank.

base-dark : (options : ParseOptions) (leaf : Leaf) (all : Bool) (rest : Rest) (none : Bool) →
    IsPlainText (base options leaf all rest none) → is_blank rest.bytes ≡ false
base-dark options leaf true rest none h =
    (text-fresh options (cond none leaf NoLeaf) rest h).dark
base-dark options leaf false rest false h = (text-fresh options NoLeaf rest h).dark
base-dark options leaf false rest true h = go (is_some (with_lazy options leaf rest)) refl h
  where
    go : (y : Bool) → is_some (with_lazy options leaf rest) ≡ y →
        IsPlainText (cond y FurtherText (role_on options NoLeaf rest)) → is_blank rest.bytes ≡ false
    go true e h = lazy-dark options leaf rest e
    go false e h = (text-fresh options NoLeaf rest h).dark

pub row-dark : (options : ParseOptions) (p : Path) (line : TextLine) (below : List Row) →
    IsPlainText (row_of options p line below).role → is_blank (row_of options p line below).rest.bytes ≡ false
row-dark options p line below h =
    base-dark options (spot p).leaf (all_of options p line) (row_of options p line below).rest (none_of options p line)
    (before-text (next_role below) (row_of options p line below).rest _ h)

-- After it text is open.

none-open : (options : ParseOptions) (p : Path) (all : Bool) (r : Rest) (on : List Taken) (after : Path) →
    Leaves options p all r on [] after → IsPlainText (base options (spot p).leaf all (rest_of r on []) true) →
    is_open_text (spot after).leaf ≡ true
none-open options p true r on after is h =
    ap (λ (s : Innermost). is_open_text s.leaf) (is.is refl refl)
    ∙ met-text options (is.met refl refl) (spot p).leaf (rest_of r on []) (is.leaf refl refl) h
none-open options p false r on after is h = go (is_some (with_lazy options (spot p).leaf (rest_of r on []))) refl h
  where
    go : (y : Bool) → is_some (with_lazy options (spot p).leaf (rest_of r on [])) ≡ y →
        IsPlainText (cond y FurtherText (role_on options NoLeaf (rest_of r on []))) →
        is_open_text (spot after).leaf ≡ true
    go true e h = is.stays refl e
    go false e h =
        ap (λ (s : Innermost). is_open_text s.leaf) (is.is refl e)
        ∙ met-text options (is.met refl e) NoLeaf (rest_of r on []) (is.leaf refl e) h

some-open : (options : ParseOptions) (p : Path) (all : Bool) (r : Rest) (on : List Taken) (t : Taken)
    (ts : List Taken) (after : Path) →
    Leaves options p all r on (t ∷ ts) after →
    IsPlainText (base options (spot p).leaf all (rest_of r on (t ∷ ts)) false) →
    is_open_text (spot after).leaf ≡ true
some-open options p all r on t ts after is h =
    ap (λ (s : Innermost). is_open_text s.leaf) (is.opens t ts refl)
    ∙ fresh-text options End (rest_of r on (t ∷ ts)) fresh.dark fresh.fresh
  where
    by : (x : Bool) → IsPlainText (base options (spot p).leaf x (rest_of r on (t ∷ ts)) false) →
        IsPlainText (role_on options NoLeaf (rest_of r on (t ∷ ts)))
    by true h = h
    by false h = h

    fresh : IsFresh options NoLeaf (rest_of r on (t ∷ ts))
    fresh = text-fresh options NoLeaf (rest_of r on (t ∷ ts)) (by all h)

row-open : (options : ParseOptions) (p : Path) (line : TextLine) (below : List Row) →
    IsPlainText (row_of options p line below).role → is_open_text (spot (step options p (whole line))).leaf ≡ true
row-open options p line below h =
    go (new_of options p all (whole line) on) (step-leaves options p (whole line))
    (before-text (next_role below) (row_of options p line below).rest _ h)
  where
    on : List Taken
    on = taken_prefixes options p (whole line)

    all : Bool
    all = length on == length (containers p)

    some : (n : ℕ) → (suc n == 0) ≡ false
    some n = search rules

    go : (new : List Taken) → Leaves options p all (whole line) on new (step options p (whole line)) →
        IsPlainText (base options (spot p).leaf all (rest_of (whole line) on new) (length new == 0)) →
        is_open_text (spot (step options p (whole line))).leaf ≡ true
    go [] is h = none-open options p all (whole line) on (step options p (whole line)) is h
    go (t ∷ ts) is h =
        some-open options p all (whole line) on t ts (step options p (whole line)) is
        (subst
        (λ (x : Bool). IsPlainText (base options (spot p).leaf all (rest_of (whole line) on (t ∷ ts)) x))
        (some (length ts)) h)

-- The next line.

abbrev NoFurther : Role → Type 0
NoFurther (Further leaf) = ⊥
NoFurther role = Unit {0}

before-further : (next : Role) (r : Rest) (role : Role) → NoFurther role → NoFurther (role_before next r role)
before-further Delimiter r role h = tt
before-further (Further leaf) r role h = h
before-further _ r (Further leaf) h = absurd h
before-further _ r _ h = h

blank-further : (options : ParseOptions) (leaf : Leaf) (r : Rest) →
    NoFurther (cond (is_blank r.bytes) Blank (fresh_role options leaf r))
blank-further options leaf r = go (is_blank r.bytes)
  where
    go : (x : Bool) → NoFurther (cond x Blank (fresh_role options leaf r))
    go true = tt
    go false = fresh-cases NoFurther options leaf r (λ against c e. tt) tt tt tt tt

-- where text is open, or no leaf
text-further : (options : ParseOptions) (leaf : Leaf) (r : Rest) (x : Bool) → is_open_text leaf ≡ true →
    NoFurther (role_on options (cond x leaf NoLeaf) r)
text-further options leaf r false e = blank-further options NoLeaf r
text-further options (OpenParagraph lines) r true e = blank-further options (OpenParagraph lines) r
text-further options NoLeaf r true e = absurd (cc)
text-further options (OpenCode lines) r true e = absurd (cc)
text-further options (OpenFence o lines) r true e = absurd (cc)
text-further options (OpenHtml kind lines) r true e = absurd (cc)
text-further options (OpenTable delimiter rows) r true e = absurd (cc)

base-further : (options : ParseOptions) (leaf : Leaf) (all : Bool) (rest : Rest) (none : Bool) →
    is_open_text leaf ≡ true → NoFurther (base options leaf all rest none)
base-further options leaf all rest none e = go (not all && none && is_some (with_lazy options leaf rest))
  where
    go : (x : Bool) → NoFurther (cond x FurtherText (role_on options (cond (all && none) leaf NoLeaf) rest))
    go true = tt
    go false = text-further options leaf rest (all && none) e

next-further : (options : ParseOptions) (p : Path) (lines : List TextLine) → is_open_text (spot p).leaf ≡ true →
    NoFurther (next_role (rows_of options p lines))
next-further options p [] e = tt
next-further options p (line ∷ lines) e =
    let below : List Row = rows_of options (step options p (whole line)) lines in
    before-further (next_role below) (row_of options p line below).rest _
    (base-further options (spot p).leaf (all_of options p line) (row_of options p line below).rest
    (none_of options p line) e)

-- one that may come after a line of text that is no head
abbrev pub AfterText : Role → Type 0
AfterText (Further leaf) = ⊥
AfterText Delimiter = ⊥
AfterText role = Unit {0}

pub text-next : (options : ParseOptions) (p : Path) (line : TextLine) (lines : List TextLine) →
    let below = rows_of options (step options p (whole line)) lines in
    IsPlainText (row_of options p line below).role → AfterText (next_role below)
text-next options p line lines h =
    go (next_role below) (row_of options p line below).rest _ h
    (next-further options (step options p (whole line)) lines (row-open options p line below h))
  where
    below : List Row
    below = rows_of options (step options p (whole line)) lines

    go : (next : Role) (r : Rest) (role : Role) → IsPlainText (role_before next r role) → NoFurther next →
        AfterText next
    go Delimiter r role h k = absurd h
    go (Further leaf) r role h k = absurd k
    go _ r role h k = tt
