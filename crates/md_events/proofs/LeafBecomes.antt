-- The leaves of the line definition that start on a line: the construct of each is on, and each is one that is begun
-- where no leaf is met.
use Rattle.std.proofs.Common.{◌≡◌, ℕ, Bool, true, false, cond, arith, ◌==◌, ◌&&◌, ◌||◌, List, [], ◌∷◌, ◌++◌, Option}
use Rattle.std.proofs.Common.{Some, None, refl, drop}
use Rattle.std.proofs.lemmas.Bool.{and_parts}
use Rattle.md_engine.specs.declared.configuration.ParseOptions.{ParseOptions}
use Rattle.md_engine.specs.declared.event.Name.{Name}
use Rattle.md_engine.specs.declared.event.Name.TheVariants as n
use Rattle.md_meaning.specs.declared.outline.Word.{Word}
use Rattle.md_meaning.specs.declared.outline.Word.TheVariants.{Break}
use Rattle.md_meaning.specs.Html.{HtmlKind, html_ends, html_kind}
use Rattle.md_meaning.specs.Leaves.{ParagraphContext, LeafResult, Finished, Opened, break_at, code_at, fence_at}
use Rattle.md_meaning.specs.Leaves.{fence_from, heading_at, html_at, html_by, html_line, is_fence_marker, starts}
use Rattle.md_meaning.specs.Leaves.{is_rule, allows, code_line, heading_lines, heading_text, is_free, least_size}
use Rattle.md_meaning.specs.Leaves.{may_start, opening}
use Rattle.md_events.specs.Events.Names.{bare_names}
use Rattle.md_events.specs.Events.On.{is_on}
use Rattle.md_events.specs.Events.Spelled.{IsQuiet, LeafRole, OfBare, role}
use Rattle.md_meaning.specs.Rest.{Rest, has_small_indent, line_of, indent, run_len, trim_start, is_parted}
use Rattle.md_meaning.specs.State.{Leaf, NoLeaf, OpenCode, OpenFence, OpenHtml, OpenParagraph, OpenTable, Opening}
use Rattle.md_meaning.specs.State.{fence_block}
use Rattle.md_meaning.specs.Tree.{Fence, Heading, Html, Line, Math, Bare}
use Rattle.md_meaning.proofs.FindsLemmas.{Finds, first-found, none-found, some-found, when-found}
use Rattle.std.specs.Prelude.{nat_le}
use Rattle.std.specs.Option.{option_or}
use Rattle.md_meaning.specs.Ascii.{hash}

-- Its construct is on.

-- the first of two or three tests that pass
pub first_of_two : (x y : Bool) → (x && y) ≡ true → x ≡ true
first_of_two x y h = (and_parts x y h).0

pub first_of_three : (x y z : Bool) → (x && y && z) ≡ true → x ≡ true
first_of_three x y z h = first_of_two x y (first_of_two (x && y) z h)

-- a marker of 36 fences math, and every other code
abbrev pub is_marker_on : ParseOptions → ℕ → Bool
is_marker_on options m = cond (m == 36) options.constructs.math_flow options.constructs.code_fenced

-- whether the construct of an open leaf is on
abbrev pub is_leaf_on : ParseOptions → Leaf → Bool
is_leaf_on options NoLeaf = true
is_leaf_on options (OpenParagraph lines) = true
is_leaf_on options (OpenCode lines) = options.constructs.code_indented
is_leaf_on options (OpenFence o lines) = is_marker_on options o.marker
is_leaf_on options (OpenHtml kind lines) = options.constructs.html_flow
is_leaf_on options (OpenTable delimiter rows) = options.constructs.gfm_table

-- fenced code and math are on as their marker is
pub fence_block-on : (options : ParseOptions) (o : Opening) (lines : List Line) (closed : Bool) →
    is_on options (fence_block o lines closed) ≡ is_marker_on options o.marker
fence_block-on options o lines closed = go (o.marker == 36)
  where
    go : (x : Bool) →
        is_on options (cond x (Math o.meta lines closed) (Fence o.marker o.info o.meta lines closed)) ≡
        cond x options.constructs.math_flow options.constructs.code_fenced
    go true = refl
    go false = refl

-- what a leaf became with a line: on, open or finished
abbrev pub BecameOn : ParseOptions → LeafResult → Type 0
BecameOn options (Opened leaf) = is_leaf_on options leaf ≡ true
BecameOn options (Finished block) = is_on options block ≡ true

-- a thematic break
break-on : (options : ParseOptions) (r : Rest) → Finds (break_at options r) (BecameOn options)
unfolding break_at
break-on options r = λ c e. grind (arith)

-- an ATX heading
heading-on : (options : ParseOptions) (r : Rest) → Finds (heading_at options r) (BecameOn options)
unfolding heading_at
heading-on options r = λ c e. grind (arith)

-- indented code
code-on : (options : ParseOptions) (against : ParagraphContext) (r : Rest) →
    Finds (code_at options against r) (BecameOn options)
unfolding code_at
code-on options against r = search (when-found, some-found, first_of_three)

-- a marker that may fence
marker-on : (options : ParseOptions) (m : ℕ) → is_fence_marker options m ≡ true → is_marker_on options m ≡ true
marker-on options m h = go (m == 36) h
  where
    go : (x : Bool) →
        cond x options.constructs.math_flow (options.constructs.code_fenced && ((m == 96) || (m == 126))) ≡ true →
        cond x options.constructs.math_flow options.constructs.code_fenced ≡ true
    go true h = h
    go false h = (and_parts options.constructs.code_fenced ((m == 96) || (m == 126)) h).0

-- an opening fence
fence_from-on : (options : ParseOptions) (columns : ℕ) (bytes : List ℕ) →
    Finds (fence_from options columns bytes) (BecameOn options)
fence_from-on options columns [] = none-found (BecameOn options)
fence_from-on options columns (m ∷ bytes) = search (when-found, some-found, first_of_three, marker-on)

-- an opening fence after an indent
fence-on : (options : ParseOptions) (r : Rest) → Finds (fence_at options r) (BecameOn options)
unfolding fence_at
fence-on options r = search (when-found, fence_from-on)

-- a line of HTML
pub html_line-on : (options : ParseOptions) (kind : HtmlKind) (lines : List Line) (r : Rest) →
    options.constructs.html_flow ≡ true → BecameOn options (html_line kind lines r)
html_line-on options kind lines r h = go (html_ends kind r.bytes)
  where
    go : (x : Bool) →
        BecameOn options
        (cond x (Finished (Html (lines ++ line_of r ∷ []))) (Opened (OpenHtml kind (lines ++ line_of r ∷ []))))
    go true = h
    go false = h

-- HTML of a kind
html_by-on : (options : ParseOptions) (against : ParagraphContext) (r : Rest) (kind : Option HtmlKind) →
    options.constructs.html_flow ≡ true → Finds (html_by against r kind) (BecameOn options)
html_by-on options against r None h = none-found (BecameOn options)
html_by-on options against r (Some kind) h = search (when-found, some-found, html_line-on)

-- HTML
html-on : (options : ParseOptions) (against : ParagraphContext) (r : Rest) →
    Finds (html_at options against r) (BecameOn options)
unfolding html_at
html-on options against r = search (when-found, html_by-on, first_of_two)

-- the first leaf that starts at a rest
pub starts-on : (options : ParseOptions) (against : ParagraphContext) (r : Rest) →
    Finds (starts options against r) (BecameOn options)
unfolding starts
starts-on options against r = search (first-found, code-on, fence-on, html-on, heading-on, break-on)

-- It is one that a line begins which no leaf meets.

-- of a leaf of which nothing is known but its word, the name is that of a leaf block, and that of a run of its markers is
-- of no block
pub record IsBare (w : Word) : Type 0 where
  pub block : Name
  pub run : Name
  pub names : bare_names w ≡ Some (block, run)
  pub is : role block ≡ LeafRole (OfBare w)
  pub quiet : role run ≡ IsQuiet

-- what begins: code, a fence, HTML, a heading, or such a leaf
abbrev pub Starts : LeafResult → Type 0
Starts (Opened (OpenCode lines)) = Unit {0}
Starts (Opened (OpenFence o lines)) = Unit {0}
Starts (Opened (OpenHtml kind lines)) = Unit {0}
Starts (Opened leaf) = ⊥
Starts (Finished (Bare word)) = IsBare word
Starts (Finished (Heading depth lines)) = Unit {0}
Starts (Finished (Html lines)) = Unit {0}
Starts (Finished block) = ⊥

-- where a test passes
when-starts : (x : Bool) (c : LeafResult) → Starts c → Finds (cond x (Some c) None) Starts
when-starts x c h = when-found Starts x (Some c) (λ e. some-found Starts c h)

fence-starts : (options : ParseOptions) (columns : ℕ) (bytes : List ℕ) → Finds (fence_from options columns bytes) Starts
fence-starts options columns [] = none-found Starts
fence-starts options columns (m ∷ bytes) =
    let size = run_len m (m ∷ bytes) in
    let after = drop size (m ∷ bytes) in
    when-starts (is_fence_marker options m && nat_le (least_size m) size && allows m after)
    (Opened (OpenFence (opening m size columns (trim_start after)) [])) tt

pub html_line-starts : (kind : HtmlKind) (lines : List Line) (r : Rest) → Starts (html_line kind lines r)
html_line-starts kind lines r = go (html_ends kind r.bytes)
  where
    go : (x : Bool) → Starts (cond x (Finished (Html (lines ++ line_of r ∷ [])))
        (Opened (OpenHtml kind (lines ++ line_of r ∷ []))))
    go true = tt
    go false = tt

html-starts : (against : ParagraphContext) (r : Rest) (kind : Option HtmlKind) → Finds (html_by against r kind) Starts
html-starts against r None = none-found Starts
html-starts against r (Some kind) =
    when-found Starts (may_start against kind) (Some (html_line kind [] r))
    (λ e. some-found Starts (html_line kind [] r) (html_line-starts kind [] r))

code_at-starts : (options : ParseOptions) (against : ParagraphContext) (r : Rest) →
    Finds (code_at options against r) Starts
unfolding code_at
code_at-starts options against r =
    when-starts (options.constructs.code_indented && is_free against && nat_le 4 (indent r))
    (Opened (OpenCode (code_line r ∷ []))) tt

fence_at-starts : (options : ParseOptions) (r : Rest) → Finds (fence_at options r) Starts
unfolding fence_at
fence_at-starts options r =
    when-found Starts (has_small_indent options r) (fence_from options (indent r) (trim_start r.bytes))
    (λ e. fence-starts options (indent r) (trim_start r.bytes))

html_at-starts : (options : ParseOptions) (against : ParagraphContext) (r : Rest) →
    Finds (html_at options against r) Starts
unfolding html_at
html_at-starts options against r =
    when-found Starts (options.constructs.html_flow && has_small_indent options r)
    (html_by against r (html_kind (trim_start r.bytes))) (λ e. html-starts against r (html_kind (trim_start r.bytes)))

heading_at-starts : (options : ParseOptions) (r : Rest) → Finds (heading_at options r) Starts
unfolding heading_at
heading_at-starts options r =
    let text = trim_start r.bytes in
    let depth = run_len hash text in
    when-starts
    (options.constructs.heading_atx && has_small_indent options r && nat_le 1 depth && nat_le depth 6
    && is_parted (drop depth text))
    (Finished (Heading depth (heading_lines (heading_text (drop depth text))))) tt

bare-break : IsBare Break
bare-break = record {
  block = n.ThematicBreak;
  run = n.ThematicBreakSequence;
  names = refl;
  is = refl;
  quiet = refl;
}

break_at-starts : (options : ParseOptions) (r : Rest) → Finds (break_at options r) Starts
unfolding break_at
break_at-starts options r =
    when-starts
    (options.constructs.thematic_break && has_small_indent options r && is_rule (trim_start r.bytes))
    (Finished (Bare Break)) bare-break

pub leaf-starts : (options : ParseOptions) (against : ParagraphContext) (r : Rest) →
    Finds (starts options against r) Starts
unfolding starts
leaf-starts options against r =
    let heading = option_or (heading_at options r) (break_at options r) in
    let html = option_or (html_at options against r) heading in
    first-found Starts (code_at options against r) (option_or (fence_at options r) html)
    (code_at-starts options against r)
    (first-found Starts (fence_at options r) html (fence_at-starts options r)
    (first-found Starts (html_at options against r) heading (html_at-starts options against r)
    (first-found Starts (heading_at options r) (break_at options r) (heading_at-starts options r)
    (break_at-starts options r))))
