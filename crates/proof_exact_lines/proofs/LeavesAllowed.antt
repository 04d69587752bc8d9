-- Each leaf of the lines of a body holds no item, and is the next block for what is before it.
use Rattle.std.proofs.Common.{◌≡◌, ℕ, Bool, true, false, cond, List, [], ◌∷◌, ◌++◌, refl, ap, sym, ◌∙◌, subst}
use Rattle.std.proofs.Common.{append-nil}
use Rattle.std.specs.Prelude.{◌==◌, Option, None}
use Rattle.std.specs.Option.{is_some}
use Rattle.md_engine.specs.declared.configuration.ParseOptions.{ParseOptions}
use Rattle.md_engine.specs.declared.event.Event.{Event}
use Rattle.md_engine.specs.declared.event.Kind.TheVariants.{Enter}
use Rattle.md_engine.specs.declared.event.Name.{Name}
use Rattle.md_engine.specs.declared.event.Name.TheVariants as n
use Rattle.md_engine.specs.declared.event.Point.{Point}
use Rattle.md_meaning.specs.Ascii.{dollar}
use Rattle.md_meaning.specs.Leaves.{Finished, LeafResult, Opened, is_continued}
use Rattle.md_meaning.specs.Rest.{Rest, after_indent, is_blank}
use Rattle.md_meaning.specs.State.{Leaf, OpenCode, OpenFence, OpenHtml, Path, spot}
use Rattle.md_meaning.specs.declared.outline.Word.{Word}
use Rattle.md_meaning.specs.Tree.{Bare, Heading, Html}
use Rattle.md_events.specs.Events.Blocks.{is_block}
use Rattle.md_events.specs.Events.Nested.{enter, exit}
use Rattle.md_events.specs.Events.Spelled as spelled
use Rattle.md_events.specs.Events.Spelled.{LeafRole, OfBare, role}
use Rattle.md_events.proofs.LeafBecomes.{IsBare, Starts, leaf-starts}
use Rattle.md_containers.specs.Listed.{is_item, marker_ahead, next_by, next_item}
use Rattle.md_events.specs.Exact.Blocks as blocks
use Rattle.md_events.specs.Exact.Blocks.{bare_events, grouped, leaf_events}
use Rattle.md_events.specs.Exact.Leaves.{content_line, fence_part, fenced_line, for_marker, heading_line, info_parts, joined}
use Rattle.md_events.specs.Exact.Leaves.{last_end, leaf, onto_next, runs_line, span, start}
use Rattle.md_events.specs.Exact.Places.{TextLine, white, whole}
use Rattle.md_events.specs.Exact.Prefixes.{further_prefixes}
use Rattle.md_events.specs.Exact.Rows.{AfterCode, Blank, Delimiter, First, FirstText, Further, FurtherText, Head, Role, Row}
use Rattle.md_events.specs.Exact.Rows.{Underline, fresh_role, is_blank_role, next_role, role_before, role_on, row_of, rows_of}
use Rattle.md_events.specs.Exact.Texts.{is_underline}
use Rattle.proof_exact_lines.specs.Last.{HasLine}
use Rattle.proof_exact_lines.specs.Unlisted.{IsLeaf, LeavesAllowed, NoneIs}
use Rattle.proof_exact_lines.proofs.ExactListed.{line-text, by-new, begun, body_rows, open-follows}
use Rattle.proof_exact_lines.proofs.GroupEvents.{first_group, grouped-first, rest_groups}
use Rattle.proof_exact_lines.proofs.LeafEvents.{Plain, content-items, fence-items, heading-items, leaf-items}
use Rattle.proof_exact_lines.proofs.LeafEvents.{runs_line-items, table-items}
use Rattle.proof_exact_lines.proofs.LeafLast.{fresh-cases}
use Rattle.proof_exact_lines.proofs.LineWalk.{after}
use Rattle.proof_exact_lines.proofs.ListWalk.{further-none, none-piece}
use Rattle.proof_exact_lines.proofs.RowLast.{begins-facts, on_of, remains-facts}
use Rattle.proof_exact_lines.proofs.TextEvents.{Leads, leads-following, text-is}

-- What is known of a line by what it is.

-- before the next line is looked at: a leaf begins, or text on a line that is not blank; no line is a head
abbrev IsMet : Rest → Role → Type 0
IsMet r (First c) = Starts c
IsMet r FirstText = is_blank r.bytes ≡ false
IsMet r Head = ⊥
IsMet r role = Unit {0}

role-met : (options : ParseOptions) (leaf : Leaf) (r : Rest) → IsMet r (role_on options leaf r)
role-met options leaf r = go (is_some (is_continued options leaf r)) (is_blank r.bytes) refl
  where
    go : (x y : Bool) → is_blank r.bytes ≡ y →
        IsMet r (cond x (Further leaf) (cond y Blank (fresh_role options leaf r)))
    go true y e = tt
    go false true e = tt
    go false false e =
        fresh-cases (IsMet r) options leaf r (λ against. leaf-starts options against r) e tt tt tt

-- and after: a head has a delimiter row after it
abbrev Needs : Role → Rest → Role → Type 0
Needs next r (First c) = Starts c
Needs next r FirstText = is_blank r.bytes ≡ false
Needs next r Head = blocks.is_continued next ≡ true
Needs next r role = Unit {0}

code-needs : (next : Role) (r : Rest) (role : Role) → IsMet r role →
    (x : Bool) → Needs next r (cond x AfterCode role)
code-needs next r role h true = tt
code-needs next r (First c) h false = h
code-needs next r FirstText h false = h
code-needs next r Head h false = absurd h
code-needs next r _ h false = tt

met-needs : (next : Role) (r : Rest) (role : Role) → IsMet r role → Needs next r role
met-needs next r (First c) h = h
met-needs next r FirstText h = h
met-needs next r Head h = absurd h
met-needs next r _ h = tt

before-needs : (next : Role) (r : Rest) (role : Role) → IsMet r role → Needs next r (role_before next r role)
before-needs Delimiter r role h = refl
before-needs (Further leaf) r role h = met-needs (Further leaf) r role h
before-needs Blank r (Further (OpenCode lines)) h =
    code-needs Blank r (Further (OpenCode lines)) h (is_blank r.bytes)
before-needs Blank r (First k) h = h
before-needs Blank r FirstText h = h
before-needs Blank r Head h = absurd h
before-needs Blank r _ h = tt
before-needs (First c) r (Further (OpenCode lines)) h =
    code-needs (First c) r (Further (OpenCode lines)) h (is_blank r.bytes)
before-needs (First c) r (First k) h = h
before-needs (First c) r FirstText h = h
before-needs (First c) r Head h = absurd h
before-needs (First c) r _ h = tt
before-needs FirstText r (Further (OpenCode lines)) h =
    code-needs FirstText r (Further (OpenCode lines)) h (is_blank r.bytes)
before-needs FirstText r (First k) h = h
before-needs FirstText r FirstText h = h
before-needs FirstText r Head h = absurd h
before-needs FirstText r _ h = tt
before-needs Head r (Further (OpenCode lines)) h =
    code-needs Head r (Further (OpenCode lines)) h (is_blank r.bytes)
before-needs Head r (First k) h = h
before-needs Head r FirstText h = h
before-needs Head r Head h = absurd h
before-needs Head r _ h = tt
before-needs AfterCode r (Further (OpenCode lines)) h =
    code-needs AfterCode r (Further (OpenCode lines)) h (is_blank r.bytes)
before-needs AfterCode r (First k) h = h
before-needs AfterCode r FirstText h = h
before-needs AfterCode r Head h = absurd h
before-needs AfterCode r _ h = tt
before-needs FurtherText r (Further (OpenCode lines)) h =
    code-needs FurtherText r (Further (OpenCode lines)) h (is_blank r.bytes)
before-needs FurtherText r (First k) h = h
before-needs FurtherText r FirstText h = h
before-needs FurtherText r Head h = absurd h
before-needs FurtherText r _ h = tt
before-needs Underline r (Further (OpenCode lines)) h =
    code-needs Underline r (Further (OpenCode lines)) h (is_blank r.bytes)
before-needs Underline r (First k) h = h
before-needs Underline r FirstText h = h
before-needs Underline r Head h = absurd h
before-needs Underline r _ h = tt

row-needs : (options : ParseOptions) (p : Path) (line : TextLine) (below : List Row) →
    let row = row_of options p line below in Needs (next_role below) row.rest row.role
row-needs options p line below = before-needs (next_role below) row.rest _ (by _ _)
  where
    row : Row
    row = row_of options p line below

    by : (x : Bool) (leaf : Leaf) → IsMet row.rest (cond x FurtherText (role_on options leaf row.rest))
    by true leaf = tt
    by false leaf = role-met options leaf row.rest

-- Leaves.

name-leads : (bytes : List ℕ) (m : ℕ) (es : List Event) (p : Point) →
    Leads bytes (enter (for_marker m n.CodeFenced n.MathFlow) p ∷ es)
name-leads bytes m es p rest = go (m == dollar)
  where
    go : (x : Bool) → next_item bytes (enter (cond x n.MathFlow n.CodeFenced) p ∷ (es ++ rest)) ≡ None
    go true = refl
    go false = refl

bare-leads : (bytes : List ℕ) (name : Name) (w : Word) (p : Point) (es : List Event) → role name ≡ LeafRole (OfBare w) →
    next_item bytes (enter name p ∷ es) ≡ None
bare-leads bytes name w p es is =
    ap (λ (x : spelled.Role). next_by Enter x (marker_ahead bytes es) (next_item bytes es)) is

bare-is : (bytes : List ℕ) (w : Word) (bare : IsBare w) (row : Row) (rows : List Row) → Plain rows →
    IsLeaf bytes (leaf bare.block (runs_line bare.run) (row ∷ rows))
bare-is bytes w bare row rows k = record {
  items =
      leaf-items bare.block (runs_line bare.run) (ap is_item bare.is) (runs_line-items bare.run (ap is_item bare.quiet))
      row rows k;
  next = λ rest.
      bare-leads bytes bare.block w (start (row ∷ rows))
      ((joined (runs_line bare.run) (row ∷ rows) ++ exit bare.block (start (last_end (row ∷ rows))) ∷ []) ++ rest)
      bare.is;
}

first-is : (options : ParseOptions) (bytes : List ℕ) (c : LeafResult) (row : Row) (rows : List Row) → Starts c →
    Plain rows → IsLeaf bytes (leaf_events options c (row ∷ rows))
first-is options bytes (Opened (OpenCode lines)) row rows h k = record {
  items =
      leaf-items n.CodeIndented (content_line n.CodeFlowChunk 4) refl (content-items n.CodeFlowChunk 4 refl) row rows k;
  next = λ rest. refl;
}
first-is options bytes (Opened (OpenFence o lines)) row rows h k = record {
  items = fence-items options o row rows k;
  next =
      let first : Row = record row { rest = after_indent row.rest } in
      let inside =
      fence_part o.marker row.line first.rest (info_parts o.marker row.line) ++ onto_next (row ∷ rows)
      ++ joined (fenced_line options o) rows in
      let end = exit (for_marker o.marker n.CodeFenced n.MathFlow) (start (last_end (first ∷ rows))) in
      leads-following bytes (white row.line row.rest first.rest)
      (span (for_marker o.marker n.CodeFenced n.MathFlow) (first ∷ rows) (last_end (first ∷ rows)) inside)
      (none-piece is_block row.line n.SpaceOrTab row.rest first.rest refl)
      (name-leads bytes o.marker (inside ++ end ∷ []) (start (first ∷ rows)));
}
first-is options bytes (Opened (OpenHtml kind lines)) row rows h k = record {
  items = leaf-items n.HtmlFlow (content_line n.HtmlFlowData 0) refl (content-items n.HtmlFlowData 0 refl) row rows k;
  next = λ rest. refl;
}
first-is options bytes (Opened _) row rows h k = absurd h
first-is options bytes (Finished (Bare word)) row rows h k =
    subst (λ (names : Option (Name × Name)). IsLeaf bytes (bare_events (row ∷ rows) names)) (sym h.names)
    (bare-is bytes word h row rows k)
first-is options bytes (Finished (Heading depth lines)) row rows h k = record {
  items = leaf-items n.HeadingAtx heading_line refl heading-items row rows k;
  next = λ rest. refl;
}
first-is options bytes (Finished (Html lines)) row rows h k = record {
  items = leaf-items n.HtmlFlow (content_line n.HtmlFlowData 0) refl (content-items n.HtmlFlowData 0 refl) row rows k;
  next = λ rest. refl;
}
first-is options bytes (Finished _) row rows h k = absurd h

-- the leaf of a line and of those that continue it
leaf-is : (options : ParseOptions) (bytes : List ℕ) (next role : Role) (row : Row) (rows : List Row) →
    row.role ≡ role → Needs next row.rest role → blocks.is_continued role ≡ false → is_blank_role role ≡ false →
    (blocks.is_continued next ≡ true → (rows ≡ [] → ⊥)) → Plain rows →
    IsLeaf bytes (blocks.events_by options role (row ∷ rows))
leaf-is options bytes next (First c) row rows same needs first filled some plain =
    first-is options bytes c row rows needs plain
leaf-is options bytes next FirstText row rows same needs first filled some plain =
    let is = text-is options bytes row rows (ap is_underline same) needs plain in
    record { items = is.items; next = is.leads }
leaf-is options bytes next Head row [] same needs first filled some plain = absurd (some needs refl)
leaf-is options bytes next Head row (under ∷ body) same needs first filled some plain =
    record { items = table-items row under body plain; next = λ rest. refl }
leaf-is options bytes next Blank row rows same needs first filled some plain = absurd (cc)
leaf-is options bytes next AfterCode row rows same needs first filled some plain = absurd (cc)
leaf-is options bytes next (Further leaf) row rows same needs first filled some plain = absurd (cc)
leaf-is options bytes next FurtherText row rows same needs first filled some plain = absurd (cc)
leaf-is options bytes next Underline row rows same needs first filled some plain = absurd (cc)
leaf-is options bytes next Delimiter row rows same needs first filled some plain = absurd (cc)

-- Lines.

-- what is before lines that continue a leaf
group-plain : (options : ParseOptions) (p : Path) (lines : List TextLine) → HasLine (spot p).leaf →
    blocks.is_continued (next_role (rows_of options p lines)) ≡ true → Plain (first_group (rows_of options p lines))
group-plain options p [] h proceeds = tt
group-plain options p (line ∷ lines) h proceeds = (
  front,
  go (blocks.is_continued (next_role below)) refl
      (group-plain options after_line lines (line-text options p line h)),
)
  where
    after_line : Path
    after_line = after options p line

    below : List Row
    below = rows_of options (after options p line) lines

    row : Row
    row = row_of options p line below

    front : NoneIs is_block row.front
    front =
        by-new options p line
        (λ t ts e. let first = (begins-facts options p line below h t ts e).first in absurd (cc))
        (λ e.
        subst (NoneIs is_block)
        (sym
        ((remains-facts options p line below h e).front
        ∙ append-nil (further_prefixes line (whole line) (on_of options p line))))
        (further-none line (whole line) (on_of options p line)))

    go : (x : Bool) → blocks.is_continued (next_role below) ≡ x →
        (blocks.is_continued (next_role below) ≡ true → Plain (first_group below)) →
        Plain (cond x (first_group below) [])
    go true e more = more e
    go false e more = tt

further-plain : (options : ParseOptions) (p : Path) (line : TextLine) (lines : List TextLine) → HasLine (spot p).leaf →
    let below = rows_of options (after options p line) lines in
    Plain (cond (blocks.is_continued (next_role below)) (first_group below) [])
further-plain options p line lines h = go (blocks.is_continued (next_role below)) refl
  where
    below : List Row
    below = rows_of options (after options p line) lines

    go : (x : Bool) → blocks.is_continued (next_role below) ≡ x → Plain (cond x (first_group below) [])
    go true e = group-plain options (after options p line) lines (line-text options p line h) e
    go false e = tt

some-first : (rows : List Row) (x : Bool) → x ≡ true → blocks.is_continued (next_role rows) ≡ true →
    cond x (first_group rows) [] ≡ [] → ⊥
some-first [] x e proceeds f = absurd (cc)
some-first (row ∷ rows) true e proceeds f = absurd (cc)
some-first (row ∷ rows) false e proceeds f = absurd (cc)

record AllValid (options : ParseOptions) (bytes : List ℕ) (rows : List Row) : Type 0 where
  all : blocks.is_continued (next_role rows) ≡ false → LeavesAllowed options bytes (grouped rows)
  rest : LeavesAllowed options bytes (rest_groups rows)

line-leaves : (options : ParseOptions) (bytes : List ℕ) (p : Path) (line : TextLine) (lines : List TextLine) →
    HasLine (spot p).leaf → AllValid options bytes (rows_of options (after options p line) lines) →
    AllValid options bytes (rows_of options p (line ∷ lines))
line-leaves options bytes p line lines h more = record {
  all =
      λ first.
      subst (LeavesAllowed options bytes) (sym (grouped-first row below)) (
        (λ filled.
            leaf-is options bytes (next_role below) row.role row further refl (row-needs options p line below) first
            filled
            (λ proceeds. some-first below (blocks.is_continued (next_role below)) proceeds proceeds)
            (further-plain options p line lines h)),
        rest,
      );
  rest = rest;
}
  where
    below : List Row
    below = rows_of options (after options p line) lines

    row : Row
    row = row_of options p line below

    further : List Row
    further = cond (blocks.is_continued (next_role below)) (first_group below) []

    go : (x : Bool) → blocks.is_continued (next_role below) ≡ x →
        LeavesAllowed options bytes (cond x (rest_groups below) (grouped below))
    go true e = more.rest
    go false e = more.all e

    rest : LeavesAllowed options bytes (rest_groups (row ∷ below))
    rest = go (blocks.is_continued (next_role below)) refl

all-are_valid : (options : ParseOptions) (bytes : List ℕ) (p : Path) (lines : List TextLine) → HasLine (spot p).leaf →
    AllValid options bytes (rows_of options p lines)
all-are_valid options bytes p [] h = record { all = λ first. tt; rest = tt }
all-are_valid options bytes p (line ∷ lines) h =
    line-leaves options bytes p line lines h
    (all-are_valid options bytes (after options p line) lines (line-text options p line h))

-- So those of a body do.
pub leaves-are_valid : (options : ParseOptions) (bytes : List ℕ) (lines : List TextLine) →
    LeavesAllowed options bytes (grouped (body_rows options lines))
leaves-are_valid options bytes lines =
    (all-are_valid options bytes begun lines tt).all (first (blocks.is_continued (next_role rows)) refl)
  where
    rows : List Row
    rows = body_rows options lines

    first : (x : Bool) → blocks.is_continued (next_role rows) ≡ x → x ≡ false
    first true proceeds = absurd (open-follows options begun lines tt proceeds)
    first false proceeds = refl
