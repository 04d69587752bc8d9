-- The rows of lines, and of others after them where nothing is open.
use Rattle.std.proofs.Common.{◌≡◌, ℕ, zero, suc, ◌≤◌, ◌<◌, Bool, true, false, cond, List, [], ◌∷◌, ◌++◌}
use Rattle.std.proofs.Common.{length, drop, Option, Some, None, refl, ap, ap₂, sym, ◌∙◌, arith, rules}
use Rattle.std.specs.Prelude.{◌==◌, ◌&&◌, nat_lt, not, if◌then◌else◌}
use Rattle.std.proofs.lemmas.Bool.{eqb-true, false_from_ne_true}
use Rattle.std.proofs.lemmas.List.{length-append}
use Rattle.md_engine.specs.declared.configuration.ParseOptions.{ParseOptions}
use Rattle.md_engine.specs.declared.event.Event.{Event}
use Rattle.md_engine.specs.declared.event.Point.{Point}
use Rattle.md_events.specs.Events.Nested.{exit}
use Rattle.md_meaning.specs.Containers.{Taken}
use Rattle.md_meaning.specs.Rest.{Rest}
use Rattle.md_meaning.specs.State.{At, Container, InFootnote, InItem, InQuote, Innermost, NoLeaf, OpenCode, Path, spot}
use Rattle.md_meaning.specs.Step.{spot_of, with_lazy}
use Rattle.std.specs.Option.{is_some}
use Rattle.md_meaning.specs.Tree.{Blocks, End, Item, More}
use Rattle.md_events.specs.Exact.Blocks as blocks
use Rattle.md_events.specs.Exact.Places.{TextLine, line_end, place, whole}
use Rattle.md_events.specs.Exact.Prefixes.{following_all, containers, end_in_item, taken_prefixes, new_containers}
use Rattle.md_events.specs.Exact.Rows.{AfterCode, Blank, Delimiter, First, FirstText, Further, FurtherText, Head, Role, Row}
use Rattle.md_events.specs.Exact.Rows.{Underline, begin_with_item, container_name, ends_from, is_blank_role, list_ends}
use Rattle.md_events.specs.Exact.Rows.{list_continued}
use Rattle.md_events.specs.Exact.Rows.{next_role, next_stays, role_before, role_on, row_of, rows_of}
use Rattle.proof_exact_lines.specs.Last.{HasLine, last_at, last_in, last_of, marker_in}
use Rattle.proof_exact_lines.proofs.ExactListed.{by-new, line-text, open-follows}
use Rattle.proof_exact_lines.proofs.LineWalk.{after, stays-fewer}
use Rattle.proof_exact_lines.proofs.RowLast.{Remains, begins-facts, last-drop, last-whole, new_on, on_of}
use Rattle.proof_exact_lines.proofs.RowLast.{remains-facts}
use Rattle.proof_exact_lines.proofs.StepLast.{held_in}
use Rattle.md_events.specs.Exact.Prefixes.{list_name}
use Rattle.proof_exact.specs.Parts.{NoItemLast, open_after}

-- Rows where nothing is open: none of the lines before them continues there.
pub record Apart (rows : List Row) : Type 0 where
  pub stays : next_stays rows ≡ 0
  pub role : blocks.is_continued (next_role rows) ≡ false

pub rows-apart : (options : ParseOptions) (bs : Blocks) (lines : List TextLine) →
    Apart (rows_of options (At (spot_of bs)) lines)
rows-apart options bs lines = record {
  stays = let few = stays-fewer options (At (spot_of bs)) lines in omega (arith, few);
  role = go (blocks.is_continued (next_role (rows_of options (At (spot_of bs)) lines))) refl;
}
  where
    go : (x : Bool) → blocks.is_continued (next_role (rows_of options (At (spot_of bs)) lines)) ≡ x → x ≡ false
    go true e = absurd (open-follows options (At (spot_of bs)) lines tt e)
    go false e = refl

stays-append : (rows following : List Row) → Apart following → next_stays (rows ++ following) ≡ next_stays rows
stays-append [] following h = h.stays
stays-append (row ∷ rows) following h = refl

-- Roles.

-- what continues no line says as much as a blank line
as-blank : (next : Role) (r : Rest) (role : Role) → blocks.is_continued next ≡ false →
    role_before next r role ≡ role_before Blank r role
as-blank Delimiter r role e = absurd (cc)
as-blank (Further leaf) r role e = absurd (cc)
as-blank FurtherText r role e = absurd (cc)
as-blank Underline r role e = absurd (cc)
as-blank Blank r role e = refl
as-blank (First c) r (Further (OpenCode lines)) e = refl
as-blank (First c) r _ e = refl
as-blank FirstText r (Further (OpenCode lines)) e = refl
as-blank FirstText r _ e = refl
as-blank Head r (Further (OpenCode lines)) e = refl
as-blank Head r _ e = refl
as-blank AfterCode r (Further (OpenCode lines)) e = refl
as-blank AfterCode r _ e = refl

role-append : (rows following : List Row) (r : Rest) (role : Role) → Apart following →
    role_before (next_role (rows ++ following)) r role ≡ role_before (next_role rows) r role
role-append [] following r role h = as-blank (next_role following) r role h.role
role-append (row ∷ rows) following r role h = refl

-- Lists.

-- whether a list continues, by the first row
abbrev continued_by : ℕ → ℕ → Row → Bool → Bool
continued_by depth m row more =
    (row.stays == depth)
    && (if nat_lt depth (length row.held) then begin_with_item m (drop depth row.held)
    else is_blank_role row.role && more)

fewer-not : (n m : ℕ) → suc n ≤ m → (n == m) ≡ false
fewer-not n m h = false_from_ne_true (n == m) (λ e. absurd (omega (arith, h, eqb-true n m e)))

-- a list within something ends there
deep-not : (depth m : ℕ) (following : List Row) → Apart following → 1 ≤ depth → list_continued depth m following ≡ false
deep-not depth m [] h le = refl
deep-not depth m (row ∷ rows) h le =
    ap (λ (x : Bool). x && (if nat_lt depth (length row.held) then begin_with_item m (drop depth row.held)
    else is_blank_role row.role && list_continued depth m rows))
    (fewer-not row.stays depth (omega (arith, h.stays, le)))

deep-append : (depth m : ℕ) (rows following : List Row) → Apart following → 1 ≤ depth →
    list_continued depth m (rows ++ following) ≡ list_continued depth m rows
deep-append depth m [] following h le = deep-not depth m following h le
deep-append depth m (row ∷ rows) following h le =
    ap (continued_by depth m row) (deep-append depth m rows following h le)

-- no last block is an item
last-none : (m : ℕ) (bs : Blocks) → last_of bs ≡ Some m → NoItemLast bs → ⊥
last-none m bs e h = go bs e (h m)
  where
    open_same : (n : ℕ) → (n == n) ≡ true
    open_same n = search rules

    go : (bs : Blocks) → last_of bs ≡ Some m → end_in_item m bs ≡ false → ⊥
    go End e f = cc
    go (More (Item k d x) End) e f =
        let same : k ≡ m = cc in
        let is : (k == m) ≡ true = ap (λ (j : ℕ). j == m) same ∙ open_same m in
        cc
    go (More b End) e f = cc
    go (More b (More next bs)) e f =
        go (More next bs) e f

-- Where an item is last before these lines and none after them, another block is in them, which ends its list.
list-append : (options : ParseOptions) (p : Path) (lines : List TextLine) (s : Innermost) (m : ℕ)
    (following : List Row) → HasLine (spot p).leaf → open_after options p lines ≡ At s → last_in s ≡ None →
    last_at 0 p ≡ Some m →
    list_continued 0 m (rows_of options p lines ++ following) ≡ list_continued 0 m (rows_of options p lines)
list-append options p [] s m following h shut none last =
    let is : last_in s ≡ Some m = sym (ap (last_at 0) shut) ∙ last in absurd (cc)
list-append options p (line ∷ lines) s m following h shut none last =
    by-new options p line
    (λ t ts e. same (begun t ts e))
    (λ e. same (remained e (λ ends. list-append options (after options p line) lines s m following
    (line-text options p line h) shut none ends)))
  where
    below : List Row
    below = rows_of options (after options p line) lines

    row : Row
    row = row_of options p line below

    Same : Type 0
    Same = (row.stays == 0) ≡ true → nat_lt 0 (length row.held) ≡ false → is_blank_role row.role ≡ true →
        list_continued 0 m (below ++ following) ≡ list_continued 0 m below

    same : Same →
        continued_by 0 m row (list_continued 0 m (below ++ following))
        ≡ continued_by 0 m row (list_continued 0 m below)
    same f = go (row.stays == 0) refl (nat_lt 0 (length row.held)) refl (is_blank_role row.role) refl
      where
        of : Bool → Bool → Bool → Bool → Bool
        of x y z more = x && (if y then begin_with_item m (drop 0 row.held) else z && more)

        go : (x : Bool) → (row.stays == 0) ≡ x → (y : Bool) → nat_lt 0 (length row.held) ≡ y → (z : Bool) →
            is_blank_role row.role ≡ z →
            of x y z (list_continued 0 m (below ++ following)) ≡ of x y z (list_continued 0 m below)
        go false a y b z c = refl
        go true a true b z c = refl
        go true a false b false c = refl
        go true a false b true c = f a b c

    -- where a container opens, something is open after the line
    begun : (t : Taken) (ts : List Taken) → new_on options p line ≡ t ∷ ts → Same
    begun t ts e stays held blank =
        let is = (begins-facts options p line below h t ts e).opens.held in
        let on : List Taken = on_of options p line in
        let some : 0 < length row.held = omega (
          arith,
          ap (λ (cs : List Container). length cs) is,
          length-append (held_in on) (held_in (t ∷ ts)),
        ) in
        let is_less : nat_lt 0 (length row.held) ≡ true = search (rules, some) in
        absurd (cc)

    remained : new_on options p line ≡ [] →
        (last_at 0 (after options p line) ≡ Some m →
        list_continued 0 m (below ++ following) ≡ list_continued 0 m below) →
        Same
    remained e more stays held blank = more (at_none ∙ is.last alone ∙ at_blank ∙ last)
      where
        is : Remains options p line below row
        is = remains-facts options p line below h e

        zero_stays : row.stays ≡ 0
        zero_stays = eqb-true row.stays 0 stays

        none_open : length (containers (after options p line)) ≡ 0
        none_open = is.size ∙ zero_stays

        at_none : last_at 0 (after options p line) ≡ last_in (spot (after options p line))
        at_none =
            ap (λ (k : ℕ). last_at k (after options p line)) (sym none_open) ∙ last-whole (after options p line)

        at_blank : cond (is_blank_role row.role) (last_at row.stays p) None ≡ last_at 0 p
        at_blank =
            ap (λ (x : Bool). cond x (last_at row.stays p) None) blank ∙ ap (λ (k : ℕ). last_at k p) zero_stays

        alone : blocks.is_continued (next_role below) ≡ false
        alone = go (blocks.is_continued (next_role below)) refl
          where
            go : (x : Bool) → blocks.is_continued (next_role below) ≡ x → x ≡ false
            go false f = refl
            go true f =
                absurd
                (is.shut blank f (open-follows options (after options p line) lines (line-text options p line h) f))

-- The ends of containers.

-- those that end after a line, where the rows after it say the same of their lists
ends-same : (depth : ℕ) (cs : List Container) (q : Point) (rows more : List Row) →
    ((deep m : ℕ) → depth ≤ deep → list_continued deep m more ≡ list_continued deep m rows) →
    ends_from depth cs q more ≡ ends_from depth cs q rows
ends-same depth [] q rows more h = refl
ends-same depth (c ∷ cs) q rows more h =
    ap₂ (λ (a b : List Event). a ++ exit (container_name c) q ∷ b)
    (ends-same (suc depth) cs q rows more (λ deep m le. h deep m (omega arith))) (by c)
  where
    by : (c : Container) → list_ends depth c q more ≡ list_ends depth c q rows
    by (InQuote kind) = refl
    by (InFootnote label) = refl
    by (InItem digits marker width starts_blank) =
        ap (λ (x : Bool). cond x [] (exit (list_name marker) q ∷ [])) (h depth marker (omega arith))

-- and where only that of the outermost is in question
ends-apart : (depth : ℕ) (cs : List Container) (q : Point) (rows following : List Row) → Apart following →
    ((c : Container) (ds : List Container) (m : ℕ) → depth ≡ 0 → cs ≡ c ∷ ds → marker_in c ≡ Some m →
    list_continued 0 m (rows ++ following) ≡ list_continued 0 m rows) →
    ends_from depth cs q (rows ++ following) ≡ ends_from depth cs q rows
ends-apart depth [] q rows following h first = refl
ends-apart (suc depth) (c ∷ cs) q rows following h first =
    ends-same (suc depth) (c ∷ cs) q rows (rows ++ following)
    (λ deep m le. deep-append deep m rows following h (omega (arith, le)))
ends-apart zero (c ∷ cs) q rows following h first =
    ap₂ (λ (a b : List Event). a ++ exit (container_name c) q ∷ b)
    (ends-same 1 cs q rows (rows ++ following) (λ deep m le. deep-append deep m rows following h le))
    (by c (λ m e. first c cs m refl refl e))
  where
    by : (c : Container) →
        ((m : ℕ) → marker_in c ≡ Some m → list_continued 0 m (rows ++ following) ≡ list_continued 0 m rows) →
        list_ends 0 c q (rows ++ following) ≡ list_ends 0 c q rows
    by (InQuote kind) f = refl
    by (InFootnote label) f = refl
    by (InItem digits marker width starts_blank) f =
        ap (λ (x : Bool). cond x [] (exit (list_name marker) q ∷ [])) (f marker refl)

-- Rows.

-- a row, with this role and these ends
abbrev row_with : ParseOptions → Path → TextLine → Role → List Event → Row
row_with options p line role ends = record (row_of options p line []) { role = role; ends = ends }

-- what a line is by what is open alone
abbrev role_at : ParseOptions → Path → TextLine → Role
role_at options p line =
    let on = taken_prefixes options p (whole line) in
    let all = length on == length (containers p) in
    let inner = following_all (whole line) on in
    let new = new_containers options p all inner in
    let rest = following_all inner new in
    let none_opens = length new == 0 in
    let lazy = not all && none_opens && is_some (with_lazy options (spot p).leaf rest) in
    let leaf = if all && none_opens then (spot p).leaf else NoLeaf in
    if lazy then FurtherText else role_on options leaf rest

row-is : (options : ParseOptions) (p : Path) (line : TextLine) (below : List Row) →
    row_of options p line below
    ≡ row_with options p line (role_before (next_role below) (row_of options p line []).rest (role_at options p line))
    (ends_from (next_stays below) (drop (next_stays below) (containers (after options p line)))
    (place line (line_end line)) below)
row-is options p line below = refl

-- a row before others, and of more after them
row-append : (options : ParseOptions) (p : Path) (line : TextLine) (lines : List TextLine) (s : Innermost)
    (following : List Row) → HasLine (spot p).leaf → open_after options p (line ∷ lines) ≡ At s →
    last_in s ≡ None → Apart following →
    let below = rows_of options (after options p line) lines in
    row_of options p line (below ++ following) ≡ row_of options p line below
row-append options p line lines s following h shut none apart =
    ap₂ (row_with options p line)
    (role-append below following (row_of options p line []).rest (role_at options p line) apart)
    (ap (λ (k : ℕ). ends_from k (drop k cs) q (below ++ following)) (stays-append below following apart)
    ∙ ends-apart size (drop size cs) q below following apart
    (λ c ds m zero_size e marker.
    list-append options (after options p line) lines s m following (line-text options p line h) shut none
    (last-drop 0 (after options p line) c ds (ap (λ (k : ℕ). drop k cs) (sym zero_size) ∙ e) ∙ marker)))
  where
    below : List Row
    below = rows_of options (after options p line) lines

    size : ℕ
    size = next_stays below

    cs : List Container
    cs = containers (after options p line)

    q : Point
    q = place line (line_end line)

-- no item is last where the last block is none
last-is : (bs : Blocks) → NoItemLast bs → last_of bs ≡ None
last-is bs h = go (last_of bs) refl
  where
    go : (o : Option ℕ) → last_of bs ≡ o → last_of bs ≡ None
    go None e = e
    go (Some m) e = absurd (last-none m bs e h)

-- Lines one after the other, where no container is open between them, and the second continue nothing.
pub rows-apart-append : (options : ParseOptions) (p : Path) (lines more : List TextLine) (s : Innermost) →
    HasLine (spot p).leaf → open_after options p lines ≡ At s → last_in s ≡ None →
    Apart (rows_of options (At s) more) →
    rows_of options p (lines ++ more) ≡ rows_of options p lines ++ rows_of options (At s) more
rows-apart-append options p [] more s h shut none apart = ap (λ (q : Path). rows_of options q more) shut
rows-apart-append options p (line ∷ lines) more s h shut none apart =
    let following : List Row = rows_of options (At s) more in
    let below : List Row = rows_of options (after options p line) lines in
    ap (λ (rows : List Row). row_of options p line rows ∷ rows)
    (rows-apart-append options (after options p line) lines more s (line-text options p line h) shut none apart)
    ∙ ap (λ (row : Row). row ∷ below ++ following)
    (row-append options p line lines s following h shut none apart)

-- So it is where nothing is open between them.
pub rows-append : (options : ParseOptions) (p : Path) (lines more : List TextLine) (bs : Blocks) →
    HasLine (spot p).leaf → open_after options p lines ≡ At (spot_of bs) → NoItemLast bs →
    rows_of options p (lines ++ more) ≡ rows_of options p lines ++ rows_of options (At (spot_of bs)) more
rows-append options p lines more bs h shut none =
    rows-apart-append options p lines more (spot_of bs) h shut (last-is bs none) (rows-apart options bs more)
