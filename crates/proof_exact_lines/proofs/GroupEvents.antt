-- The events of lines from the first on: before its leaf, the leaf, and all after it, with lists and without.
use Rattle.std.proofs.Common.{◌≡◌, ℕ, suc, Bool, true, false, cond, List, [], ◌∷◌, ◌++◌, refl, ap, ap₂, sym}
use Rattle.std.proofs.Common.{◌∙◌, subst, append_assoc, flat_map}
use Rattle.std.specs.Prelude.{◌||◌}
use Rattle.md_engine.specs.declared.configuration.ParseOptions.{ParseOptions}
use Rattle.md_engine.specs.declared.event.Event.{Event}
use Rattle.md_engine.specs.declared.event.Name.{Name}
use Rattle.md_engine.specs.declared.event.Name.TheVariants as n
use Rattle.md_engine.specs.declared.event.Point.{Point}
use Rattle.md_meaning.specs.Bytes.{is_end}
use Rattle.md_meaning.specs.Containers.{Taken}
use Rattle.md_meaning.specs.Rest.{Rest}
use Rattle.md_meaning.specs.State.{Container, InFootnote, InItem, InQuote, Path}
use Rattle.md_events.specs.Events.Blocks.{is_block}
use Rattle.md_events.specs.Events.Nested.{enter, exit, pair}
use Rattle.md_events.specs.Events.Spelled.{role}
use Rattle.md_events.specs.Exact.Blocks.{events_by, is_continued, group_events, grouped, onto, tail}
use Rattle.md_events.specs.Exact.Places.{TextLine, ending, line_end, next_line, place}
use Rattle.md_events.specs.Exact.Prefixes.{begin, begins, blocks_before, end_in_item, list_name}
use Rattle.md_events.specs.Exact.Rows.{Row, container_name, ends_from, is_blank_role, list_ends, list_continued, next_role}
use Rattle.proof_exact_lines.specs.Unlisted.{LeafAllowed, LeavesAllowed, NoneIs, is_list, opening_prefix, plain_begin}
use Rattle.proof_exact_lines.specs.Unlisted.{plain_begins, plain_ends, unlisted_groups, without_lists}
use Rattle.proof_exact_lines.proofs.ListWalk.{opening-none}

-- Without lists.

block-list : (name : Name) → is_block (role name) ≡ false → is_list name ≡ false
block-list n.ListOrdered h = absurd (cc)
block-list n.ListUnordered h = absurd (cc)
block-list _ h = refl

pub without-none : (es : List Event) → NoneIs is_block es → without_lists es ≡ es
without-none [] h = refl
without-none (e ∷ es) h =
    ap (λ (x : Bool). cond x (without_lists es) (e ∷ without_lists es)) (block-list e.name h.0)
    ∙ ap (λ (l : List Event). e ∷ l) (without-none es h.1)

pub without-append : (es fs : List Event) → without_lists (es ++ fs) ≡ without_lists es ++ without_lists fs
without-append [] fs = refl
without-append (e ∷ es) fs = go (without-append es fs) (is_list e.name)
  where
    go : without_lists (es ++ fs) ≡ without_lists es ++ without_lists fs → (x : Bool) →
        cond x (without_lists (es ++ fs)) (e ∷ without_lists (es ++ fs))
        ≡ cond x (without_lists es) (e ∷ without_lists es) ++ without_lists fs
    go more true = more
    go more false = ap (λ (l : List Event). e ∷ l) more

-- the name of a list is one
without-list : (m : ℕ) (x : Bool) (e : Name → Event) → ((name : Name) → (e name).name ≡ name) →
    without_lists (cond x [] (e (list_name m) ∷ [])) ≡ []
without-list m true e h = refl
without-list m false e h =
    ap (λ (y : Bool). cond y [] (e (list_name m) ∷ [])) (ap is_list (h (list_name m)) ∙ go _)
  where
    go : (x : Bool) → is_list (cond x n.ListOrdered n.ListUnordered) ≡ true
    go true = refl
    go false = refl

begin-without : (line : TextLine) (after : Path) (depth : ℕ) (c : Container) (r s : Rest) →
    without_lists (begin line after depth c r s) ≡ plain_begin line c r s
begin-without line after depth (InQuote kind) r s =
    ap (λ (l : List Event). enter n.BlockQuote (place line r) ∷ l)
    (without-none (opening_prefix line (InQuote kind) r s) (opening-none line (InQuote kind) r s))
begin-without line after depth (InItem digits marker width starts_blank) r s =
    let c : Container = InItem digits marker width starts_blank in
    let prefix : List Event = opening_prefix line c r s in
    let has : Bool = end_in_item marker (blocks_before depth after) in
    let list : List Event = cond has [] (enter (list_name marker) (place line r) ∷ []) in
    without-append list (enter n.ListItem (place line r) ∷ prefix)
    ∙ ap (λ (l : List Event). l ++ enter n.ListItem (place line r) ∷ without_lists prefix)
    (without-list marker has (λ name. enter name (place line r)) (λ name. refl))
    ∙ ap (λ (l : List Event). enter n.ListItem (place line r) ∷ l) (without-none prefix (opening-none line c r s))
begin-without line after depth (InFootnote label) r s =
    ap (λ (l : List Event). enter n.GfmFootnoteDefinition (place line r) ∷ l)
    (without-none (opening_prefix line (InFootnote label) r s) (opening-none line (InFootnote label) r s))

-- containers that open
pub begins-without : (line : TextLine) (after : Path) (depth : ℕ) (r : Rest) (ts : List Taken) →
    without_lists (begins line after depth r ts) ≡ plain_begins line r ts
begins-without line after depth r [] = refl
begins-without line after depth r (t ∷ ts) =
    without-append (begin line after depth t.container r t.rest) (begins line after (suc depth) t.rest ts)
    ∙ ap₂ (λ (a b : List Event). a ++ b) (begin-without line after depth t.container r t.rest)
    (begins-without line after (suc depth) t.rest ts)

end-without : (depth : ℕ) (c : Container) (p : Point) (below : List Row) →
    without_lists (exit (container_name c) p ∷ list_ends depth c p below) ≡ exit (container_name c) p ∷ []
end-without depth (InQuote kind) p below = refl
end-without depth (InItem digits marker width starts_blank) p below =
    ap (λ (l : List Event). exit n.ListItem p ∷ l)
    (without-list marker (list_continued depth marker below) (λ name. exit name p) (λ name. refl))
end-without depth (InFootnote label) p below = refl

-- and such that end
pub ends-without : (depth : ℕ) (cs : List Container) (p : Point) (below : List Row) →
    without_lists (ends_from depth cs p below) ≡ plain_ends cs p
ends-without depth [] p below = refl
ends-without depth (c ∷ cs) p below =
    without-append (ends_from (suc depth) cs p below) (exit (container_name c) p ∷ list_ends depth c p below)
    ∙ ap₂ (λ (a b : List Event). a ++ b) (ends-without (suc depth) cs p below) (end-without depth c p below)

-- The ending after the lines of a leaf.

abbrev pub tail_name : Row → Name
tail_name row =
    cond (is_blank_role row.role || is_end row.line.bytes) n.BlankLineEnding n.LineEnding

pub ending-none : (row : Row) → NoneIs is_block (ending (tail_name row) row.line)
ending-none row = go (is_end row.line.ending) (is_blank_role row.role || is_end row.line.bytes)
  where
    go : (x y : Bool) →
        NoneIs is_block
        (cond x []
        (pair (cond y n.BlankLineEnding n.LineEnding) (place row.line (line_end row.line)) (next_line row.line)))
    go true y = tt
    go false true = (refl, (refl, tt))
    go false false = (refl, (refl, tt))

-- Groups.

-- the lines of the first leaf, and the leaves after it
abbrev pub first_group : List Row → List Row
first_group [] = []
first_group (row ∷ below) = row ∷ cond (is_continued (next_role below)) (first_group below) []

abbrev pub rest_groups : List Row → List (List Row)
rest_groups [] = []
rest_groups (row ∷ below) = cond (is_continued (next_role below)) (rest_groups below) (grouped below)

pub grouped-first : (row : Row) (below : List Row) →
    grouped (row ∷ below) ≡ first_group (row ∷ below) ∷ rest_groups (row ∷ below)
grouped-first row [] = refl
grouped-first row (next ∷ below) =
    let inner : List Row = cond (is_continued (next_role below)) (first_group below) [] in
    let more : List (List Row) = rest_groups (next ∷ below) in
    ap (onto row) (grouped-first next below)
    ∙ ap (λ (gs : List (List Row)). cond (is_continued next.role) ((row ∷ next ∷ inner) ∷ more) ((row ∷ []) ∷ gs))
    (sym (grouped-first next below))
    ∙ go (is_continued next.role) (next ∷ inner) more
  where
    go : (x : Bool) (group : List Row) (more : List (List Row)) →
        cond x ((row ∷ group) ∷ more) ((row ∷ []) ∷ grouped (next ∷ below))
        ≡ (row ∷ cond x group []) ∷ cond x more (grouped (next ∷ below))
    go true group more = refl
    go false group more = refl

-- all groups, with their lists
abbrev pub all_events : ParseOptions → List Row → List Event
all_events options rows = flat_map (group_events options) (grouped rows)

abbrev pub all_unlisted : ParseOptions → List Row → List Event
all_unlisted options rows = unlisted_groups options (grouped rows)

-- after the leaf of the first line
abbrev pub following_leaf : ParseOptions → List Row → List Event
following_leaf options [] = []
following_leaf options (row ∷ below) =
    cond (is_continued (next_role below)) (following_leaf options below) (tail (row ∷ []) ++ all_events options below)

abbrev pub unlisted_after : ParseOptions → List Row → List Event
unlisted_after options [] = []
unlisted_after options (row ∷ below) =
    cond (is_continued (next_role below)) (unlisted_after options below)
    (without_lists (tail (row ∷ [])) ++ all_unlisted options below)

following-first : (options : ParseOptions) (row : Row) (below : List Row) →
    tail (first_group (row ∷ below)) ++ flat_map (group_events options) (rest_groups (row ∷ below))
    ≡ following_leaf options (row ∷ below)
following-first options row [] = refl
following-first options row (next ∷ below) = go (is_continued next.role) (following-first options next below)
  where
    go : (x : Bool) →
        tail (first_group (next ∷ below)) ++ flat_map (group_events options) (rest_groups (next ∷ below))
        ≡ following_leaf options (next ∷ below) →
        tail (row ∷ cond x (first_group (next ∷ below)) [])
        ++ flat_map (group_events options) (cond x (rest_groups (next ∷ below)) (grouped (next ∷ below)))
        ≡ cond x (following_leaf options (next ∷ below)) (tail (row ∷ []) ++ all_events options (next ∷ below))
    go true more = more
    go false more = refl

unlisted-first : (options : ParseOptions) (row : Row) (below : List Row) →
    without_lists (tail (first_group (row ∷ below))) ++ unlisted_groups options (rest_groups (row ∷ below))
    ≡ unlisted_after options (row ∷ below)
unlisted-first options row [] = refl
unlisted-first options row (next ∷ below) = go (is_continued next.role) (unlisted-first options next below)
  where
    go : (x : Bool) →
        without_lists (tail (first_group (next ∷ below))) ++ unlisted_groups options (rest_groups (next ∷ below))
        ≡ unlisted_after options (next ∷ below) →
        without_lists (tail (row ∷ cond x (first_group (next ∷ below)) []))
        ++ unlisted_groups options (cond x (rest_groups (next ∷ below)) (grouped (next ∷ below)))
        ≡ cond x (unlisted_after options (next ∷ below))
        (without_lists (tail (row ∷ [])) ++ all_unlisted options (next ∷ below))
    go true more = more
    go false more = refl

-- the leaf of the first line
abbrev pub first_leaf : ParseOptions → Row → List Row → List Event
first_leaf options row below = events_by options row.role (first_group (row ∷ below))

pub all-first : (options : ParseOptions) (row : Row) (below : List Row) →
    all_events options (row ∷ below)
    ≡ row.front ++ (first_leaf options row below ++ following_leaf options (row ∷ below))
all-first options row below =
    let group : List Row = first_group (row ∷ below) in
    let leaf : List Event = first_leaf options row below in
    let more : List Event = flat_map (group_events options) (rest_groups (row ∷ below)) in
    ap (flat_map (group_events options)) (grouped-first row below)
    ∙ append_assoc (row.front ++ leaf) (tail group) more
    ∙ append_assoc row.front leaf (tail group ++ more)
    ∙ ap (λ (l : List Event). row.front ++ (leaf ++ l)) (following-first options row below)

pub unlisted-all : (options : ParseOptions) (row : Row) (below : List Row) →
    all_unlisted options (row ∷ below)
    ≡ without_lists row.front ++ (first_leaf options row below ++ unlisted_after options (row ∷ below))
unlisted-all options row below =
    let group : List Row = first_group (row ∷ below) in
    let leaf : List Event = first_leaf options row below in
    let more : List Event = unlisted_groups options (rest_groups (row ∷ below)) in
    ap (unlisted_groups options) (grouped-first row below)
    ∙ append_assoc (without_lists row.front ++ leaf) (without_lists (tail group)) more
    ∙ append_assoc (without_lists row.front) leaf (without_lists (tail group) ++ more)
    ∙ ap (λ (l : List Event). without_lists row.front ++ (leaf ++ l)) (unlisted-first options row below)

-- after a line on which the leaf ends: what ends there, and its ending
pub following-last : (options : ParseOptions) (row : Row) (below : List Row) → is_continued (next_role below) ≡ false →
    following_leaf options (row ∷ below)
    ≡ row.ends ++ (ending (tail_name row) row.line ++ all_events options below)
following-last options row below e =
    ap (λ (x : Bool). cond x (following_leaf options below) (tail (row ∷ []) ++ all_events options below)) e
    ∙ append_assoc row.ends (ending (tail_name row) row.line) (all_events options below)

pub unlisted-last : (options : ParseOptions) (row : Row) (below : List Row) → is_continued (next_role below) ≡ false →
    unlisted_after options (row ∷ below)
    ≡ without_lists row.ends ++ (ending (tail_name row) row.line ++ all_unlisted options below)
unlisted-last options row below e =
    ap
    (λ (x : Bool).
    cond x (unlisted_after options below) (without_lists (tail (row ∷ [])) ++ all_unlisted options below))
    e
    ∙ ap (λ (l : List Event). l ++ all_unlisted options below)
    (without-append row.ends (ending (tail_name row) row.line)
    ∙ ap (λ (l : List Event). without_lists row.ends ++ l)
    (without-none (ending (tail_name row) row.line) (ending-none row)))
    ∙ append_assoc (without_lists row.ends) (ending (tail_name row) row.line) (all_unlisted options below)

-- what each group owes
pub leaves-first : (options : ParseOptions) (bytes : List ℕ) (row : Row) (below : List Row) →
    LeavesAllowed options bytes (grouped (row ∷ below)) →
    LeafAllowed options bytes (first_group (row ∷ below)) × LeavesAllowed options bytes (rest_groups (row ∷ below))
leaves-first options bytes row below h = subst (LeavesAllowed options bytes) (grouped-first row below) h
