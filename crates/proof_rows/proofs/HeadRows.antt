-- The lines of a text, with each line of text that is the head of a table read again: it is the first line of that
-- table, and those that continue it are further ones. So the groups are as before, but each head and its lines are
-- those of one leaf.
use Rattle.std.proofs.Common.{◌≡◌, ℕ, Bool, true, false, cond, ◌&&◌, List, [], ◌∷◌, ◌++◌, refl, ap, sym, ◌∙◌}
use Rattle.std.specs.Prelude.{Some}
use Rattle.std.proofs.lemmas.Bool.{and_parts}
use Rattle.md_engine.specs.declared.event.Event.{Event}
use Rattle.md_engine.specs.declared.tokenizer.held_leaf.HeldLeaf.TheVariants as held_leaf
use Rattle.md_content.specs.Joined.{joined}
use Rattle.proof_frame.specs.LeafName.{GfmTable, LeafName}
use Rattle.md_registry.specs.Registry.{leaf}
use Rattle.proof_frame.specs.Row.{BlankRow, LeafRow, Row, RowKind, TextRow, row_line}
use Rattle.proof_rows.specs.Rows.{Group, Headed, Lines, Single, LeafLines, Turned, is_continued, groups, is_further}
use Rattle.proof_rows.specs.Rows.{is_last, is_text, onto_groups, onto_leaf, onto_span, onto_underline, takes_head}
use Rattle.proof_rows.specs.Rows.{rows_events}
use Rattle.proof_leaf_laws.specs.Headed.{headed_row}
use Rattle.proof_rows.specs.Unread.{joined_group, joined_groups}
use Rattle.proof_frame.proofs.FrontNames.{HasFront}
use Rattle.proof_leaf_laws.proofs.GfmTable.Head.{head-no_content}
use Rattle.proof_rows.proofs.JoinedLemmas.{EachEnds, EachFront, EachNoContent, HasNoContent, joined-rows}
use Rattle.proof_rows.proofs.TextGroups.{HeadsNone, NoHead, NoHeads, onto-unheaded}
use Rattle.md_registry.proofs.UnderNames.{heads-table}

-- a head, as the first line of its table
abbrev pub as_table : List ℕ → Row → Row
as_table bytes row =
    record (headed_row bytes row) { kind = LeafRow GfmTable; on = held_leaf.None; empty = false }

-- whether a line takes another as its head
abbrev pub takes : Row → Row → Bool
takes next row = is_text row.kind && (is_further next.kind next.on && takes_head next.kind)

-- a line before others: one that they take as their head is the first line of a table
abbrev pub read_again : List ℕ → Row → List Row → Row
read_again bytes row [] = row
read_again bytes row (next ∷ rows) = cond (takes next row) (as_table bytes row) row

abbrev pub head_rows : List ℕ → List Row → List Row
head_rows bytes [] = []
head_rows bytes (row ∷ rows) = read_again bytes row rows ∷ head_rows bytes rows

-- What holds of a line, and of a head, holds of it.
pub again-is : (P : Row → Type 0) (bytes : List ℕ) (row : Row) (rows : List Row) → P row → P (as_table bytes row) →
    P (read_again bytes row rows)
again-is P bytes row [] h k = h
again-is P bytes row (next ∷ rows) h k = go (takes next row)
  where
    go : (x : Bool) → P (cond x (as_table bytes row) row)
    go true = k
    go false = h

-- What is around it stays,
again-front : (bytes : List ℕ) (rows : List Row) → EachFront bytes rows → EachFront bytes (head_rows bytes rows)
again-front bytes [] h = tt
again-front bytes (row ∷ rows) h = (again-is (HasFront bytes) bytes row rows h.0 h.0, again-front bytes rows h.1)

again-ends : (bytes : List ℕ) (rows : List Row) → EachEnds rows → EachEnds (head_rows bytes rows)
again-ends bytes [] h = tt
again-ends bytes (row ∷ []) h = tt
again-ends bytes (row ∷ below ∷ rows) h = (
  h.0,
  again-is (λ (r : Row). r.after ≡ Some h.0) bytes row (below ∷ rows) h.1 h.1,
  again-ends bytes (below ∷ rows) h.2,
)

-- and no content is in a head.
again-quiet : (bytes : List ℕ) (rows : List Row) → EachNoContent rows → EachNoContent (head_rows bytes rows)
again-quiet bytes [] h = tt
again-quiet bytes (row ∷ rows) h = (
  again-is HasNoContent bytes row rows h.0 (λ wants w. head-no_content wants w (row_line bytes row) row.first),
  again-quiet bytes rows h.1,
)

-- Then no line of text is one.
text-is : (kind : RowKind) → kind ≡ TextRow → is_text kind ≡ true
text-is TextRow e = refl
text-is BlankRow e = cc
text-is (LeafRow l) e = cc

again-unheaded : (bytes : List ℕ) (rows : List Row) → NoHeads (head_rows bytes rows)
again-unheaded bytes [] = tt
again-unheaded bytes (row ∷ []) = tt
again-unheaded bytes (row ∷ below ∷ rows) =
    (go (takes below row) refl, again-unheaded bytes (below ∷ rows))
  where
    go : (x : Bool) → takes below row ≡ x → NoHead (cond x (as_table bytes row) row) (read_again bytes below rows)
    go true e = λ text. cc
    go false e = λ text.
        again-is (λ (r : Row). (is_further r.kind r.on && takes_head r.kind) ≡ false) bytes below rows
        (ap (λ (x : Bool). x && (is_further below.kind below.on && takes_head below.kind)) (sym (text-is row.kind text))
        ∙ e) refl

-- Their groups.

-- a head and its lines, as those of one leaf
abbrev pub as_span : List ℕ → Group → Group
as_span bytes (Headed row next rows) = LeafLines (as_table bytes row) (next ∷ rows)
as_span bytes group = group

abbrev pub as_spans : List ℕ → List Group → List Group
as_spans bytes [] = []
as_spans bytes (group ∷ gs) = as_span bytes group ∷ as_spans bytes gs

-- a line of a leaf goes before them as before the others
leaf-spans : (bytes : List ℕ) (ends : Bool) (row : Row) (gs : List Group) →
    onto_leaf ends row (as_spans bytes gs) ≡ as_spans bytes (onto_leaf ends row gs)
leaf-spans bytes true row gs = refl
leaf-spans bytes false row (LeafLines below rows ∷ gs) = go (is_further below.kind below.on)
  where
    go : (x : Bool) →
        cond x (LeafLines row (below ∷ rows) ∷ as_spans bytes gs)
        (LeafLines row [] ∷ LeafLines below rows ∷ as_spans bytes gs) ≡
        as_spans bytes (cond x (LeafLines row (below ∷ rows) ∷ gs) (LeafLines row [] ∷ LeafLines below rows ∷ gs))
    go true = refl
    go false = refl
leaf-spans bytes false row _ = refl

-- so does a line of text that is no head
text-spans : (bytes : List ℕ) (row : Row) (gs : List Group) → HeadsNone gs →
    onto_groups row TextRow (as_spans bytes gs) ≡ as_spans bytes (onto_groups row TextRow gs)
text-spans bytes row (Lines below rows ∷ gs) none = go (is_continued row below)
  where
    go : (x : Bool) →
        cond x (Lines row (below ∷ rows) ∷ as_spans bytes gs) (Lines row [] ∷ Lines below rows ∷ as_spans bytes gs) ≡
        as_spans bytes (cond x (Lines row (below ∷ rows) ∷ gs) (Lines row [] ∷ Lines below rows ∷ gs))
    go true = refl
    go false = refl
text-spans bytes row (Turned below rows under ∷ gs) none = go (is_continued row below)
  where
    go : (x : Bool) →
        cond x (Turned row (below ∷ rows) under ∷ as_spans bytes gs)
        (Lines row [] ∷ Turned below rows under ∷ as_spans bytes gs) ≡
        as_spans bytes (cond x (Turned row (below ∷ rows) under ∷ gs) (Lines row [] ∷ Turned below rows under ∷ gs))
    go true = refl
    go false = refl
text-spans bytes row (LeafLines below rows ∷ gs) none =
    ap (λ (x : Bool). to x (is_further below.kind below.on && is_last rows) (as_spans bytes gs)) none
    ∙ go (is_further below.kind below.on && is_last rows)
    ∙ ap (λ (x : Bool). as_spans bytes (to x (is_further below.kind below.on && is_last rows) gs)) (sym none)
  where
    to : Bool → Bool → List Group → List Group
    to x y gs =
        cond x (Headed row below rows ∷ gs) (cond y (Turned row [] below ∷ gs)
        (Lines row [] ∷ LeafLines below rows ∷ gs))

    go : (y : Bool) → to false y (as_spans bytes gs) ≡ as_spans bytes (to false y gs)
    go true = refl
    go false = refl
text-spans bytes row _ none = refl

-- a head goes before the lines that take it
head-spans : (bytes : List ℕ) (row below : Row) (gs : List Group) →
    (is_further below.kind below.on && takes_head below.kind) ≡ true →
    onto_span (as_table bytes row) (as_spans bytes (onto_span below gs)) ≡
    as_spans bytes (onto_groups row TextRow (onto_span below gs))
head-spans bytes row below gs heads = go gs
  where
    further : is_further below.kind below.on ≡ true
    further = (and_parts (is_further below.kind below.on) (takes_head below.kind) heads).0

    one : (more : List Row) (gs : List Group) →
        onto_span (as_table bytes row) (LeafLines below more ∷ as_spans bytes gs) ≡
        as_spans bytes (onto_underline row below more gs)
    one more gs =
        ap
        (λ (x : Bool).
        cond x (LeafLines (as_table bytes row) (below ∷ more) ∷ as_spans bytes gs)
        (LeafLines (as_table bytes row) [] ∷ LeafLines below more ∷ as_spans bytes gs)) further
        ∙ ap
        (λ (x : Bool).
        as_spans bytes
        (cond x (Headed row below more ∷ gs)
        (cond (is_further below.kind below.on && is_last more) (Turned row [] below ∷ gs)
        (Lines row [] ∷ LeafLines below more ∷ gs)))) (sym heads)

    go : (gs : List Group) →
        onto_span (as_table bytes row) (as_spans bytes (onto_span below gs)) ≡
        as_spans bytes (onto_groups row TextRow (onto_span below gs))
    go (LeafLines first rows ∷ gs) = by (is_further first.kind first.on)
      where
        by : (x : Bool) →
            let all : List Group = cond x (LeafLines below (first ∷ rows) ∷ gs)
            (LeafLines below [] ∷ LeafLines first rows ∷ gs) in
            onto_span (as_table bytes row) (as_spans bytes all) ≡ as_spans bytes (onto_groups row TextRow all)
        by true = one (first ∷ rows) gs
        by false = one [] (LeafLines first rows ∷ gs)
    go gs = one [] gs

-- a line that takes another as its head goes before others as a line of a leaf of several
head-onto : (row : Row) (gs : List Group) → takes_head row.kind ≡ true → onto_groups row row.kind gs ≡ onto_span row gs
head-onto row gs heads = go row.kind heads
  where
    go : (kind : RowKind) → takes_head kind ≡ true → onto_groups row kind gs ≡ onto_span row gs
    go BlankRow h = cc
    go TextRow h = cc
    go (LeafRow l) h = ap (λ (m : LeafName). onto_leaf (leaf m).ends row gs) (heads-table l h)

-- The groups of the lines are these.
pub again-groups : (bytes : List ℕ) (rows : List Row) → groups (head_rows bytes rows) ≡ as_spans bytes (groups rows)
again-groups bytes [] = refl
again-groups bytes (row ∷ rows) =
    ap (onto_groups (read_again bytes row rows) (read_again bytes row rows).kind) (again-groups bytes rows)
    ∙ by rows
  where
    -- where it is not read again
    plain : (gs : List Group) → (row.kind ≡ TextRow → HeadsNone gs) →
        onto_groups row row.kind (as_spans bytes gs) ≡ as_spans bytes (onto_groups row row.kind gs)
    plain gs none = go row.kind refl
      where
        go : (kind : RowKind) → row.kind ≡ kind →
            onto_groups row kind (as_spans bytes gs) ≡ as_spans bytes (onto_groups row kind gs)
        go BlankRow e = refl
        go (LeafRow l) e = leaf-spans bytes (leaf l).ends row gs
        go TextRow e = text-spans bytes row gs (none e)

    -- where it is
    head : (below : Row) (gs : List Group) → takes below row ≡ true →
        onto_span (as_table bytes row) (as_spans bytes (onto_groups below below.kind gs)) ≡
        as_spans bytes (onto_groups row row.kind (onto_groups below below.kind gs))
    head below gs e =
        go row.kind (and_parts (is_text row.kind) (is_further below.kind below.on && takes_head below.kind) e)
      where
        go : (kind : RowKind) →
            (text : is_text kind ≡ true) × ((is_further below.kind below.on && takes_head below.kind) ≡ true) →
            onto_span (as_table bytes row) (as_spans bytes (onto_groups below below.kind gs)) ≡
            as_spans bytes (onto_groups row kind (onto_groups below below.kind gs))
        go BlankRow h = let none = h.0 in cc
        go (LeafRow l) h = let none = h.0 in cc
        go TextRow h =
            let onto = head-onto below gs (and_parts (is_further below.kind below.on) (takes_head below.kind) h.1).1 in
            ap (λ (l : List Group). onto_span (as_table bytes row) (as_spans bytes l)) onto
            ∙ head-spans bytes row below gs h.1
            ∙ ap (λ (l : List Group). as_spans bytes (onto_groups row TextRow l)) (sym onto)

    by : (rows : List Row) →
        onto_groups (read_again bytes row rows) (read_again bytes row rows).kind (as_spans bytes (groups rows)) ≡
        as_spans bytes (onto_groups row row.kind (groups rows))
    by [] = plain [] (λ e. tt)
    by (below ∷ rows) = go (takes below row) refl
      where
        go : (x : Bool) → takes below row ≡ x →
            (let r : Row = cond x (as_table bytes row) row in
            onto_groups r r.kind (as_spans bytes (groups (below ∷ rows))) ≡
            as_spans bytes (onto_groups row row.kind (groups (below ∷ rows))))
        go true e = head below (groups rows) e
        go false e =
            plain (groups (below ∷ rows))
            (λ text.
            onto-unheaded below below.kind (groups rows)
            (ap (λ (x : Bool). x && (is_further below.kind below.on && takes_head below.kind))
            (sym (text-is row.kind text)) ∙ e))

-- and so are their events
spans-joined : (bytes : List ℕ) (gs : List Group) → joined_groups bytes (as_spans bytes gs) ≡ joined_groups bytes gs
spans-joined bytes [] = refl
spans-joined bytes (group ∷ gs) =
    ap (λ (l : List Event). l ++ joined_groups bytes (as_spans bytes gs)) (one group)
    ∙ ap (λ (l : List Event). joined_group bytes group ++ l) (spans-joined bytes gs)
  where
    one : (group : Group) → joined_group bytes (as_span bytes group) ≡ joined_group bytes group
    one (Single row) = refl
    one _ = refl

-- The events of the lines, joined, are those of the groups.
pub again-joined : (bytes : List ℕ) (rows : List Row) → EachFront bytes rows → EachEnds rows → EachNoContent rows →
    joined (rows_events (head_rows bytes rows)) ≡ joined_groups bytes (groups rows)
again-joined bytes rows front ends quiet =
    joined-rows bytes (head_rows bytes rows) (again-front bytes rows front) (again-ends bytes rows ends)
    (again-quiet bytes rows quiet) (again-unheaded bytes rows)
    ∙ ap (joined_groups bytes) (again-groups bytes rows)
    ∙ spans-joined bytes (groups rows)

-- Where no line is a head, they stay.
pub again-none : (bytes : List ℕ) (rows : List Row) → NoHeads rows → head_rows bytes rows ≡ rows
again-none bytes [] none = refl
again-none bytes (row ∷ []) none = refl
again-none bytes (row ∷ below ∷ rows) none =
    ap (λ (r : Row). r ∷ head_rows bytes (below ∷ rows))
    (ap (λ (x : Bool). cond x (as_table bytes row) row) (go row.kind refl))
    ∙ ap (λ (l : List Row). row ∷ l) (again-none bytes (below ∷ rows) none.1)
  where
    go : (kind : RowKind) → row.kind ≡ kind →
        (is_text kind && (is_further below.kind below.on && takes_head below.kind)) ≡ false
    go BlankRow e = refl
    go (LeafRow l) e = refl
    go TextRow e = none.0 e
