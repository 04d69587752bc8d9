-- What the groups of the lines of a text are: lines that are no text, lines of text that belong together, with the
-- line that turns them if one does, a line of text that is the head of a table, with the other lines of that, and the
-- lines of a leaf of several.
use Rattle.std.proofs.Common.{◌≡◌, ◌≢◌, ℕ, Bool, true, false, cond, ◌&&◌, List, [], ◌∷◌, refl, ap, sym, ◌∙◌, subst}
use Rattle.std.specs.Prelude.{Some}
use Rattle.md_engine.specs.declared.configuration.ParseOptions.{ParseOptions}
use Rattle.md_engine.specs.declared.event.Point.{Point}
use Rattle.md_engine.specs.declared.tokenizer.held_leaf.HeldLeaf.{HeldLeaf}
use Rattle.md_engine.specs.declared.tokenizer.held_leaf.HeldLeaf.TheVariants as held_leaf
use Rattle.md_engine.specs.declared.tokenizer.held_leaf.OpenText.{OpenText}
use Rattle.md_engine.specs.declared.tokenizer.held_leaf.Progress.TheVariants.{Fresh}
use Rattle.md_meaning.specs.Rest.{trim_start}
use Rattle.md_meaning.specs.State.{Container, kept}
use Rattle.md_leaves.specs.HeadingSetext.{may_turn}
use Rattle.md_link_definitions.specs.OpenText.{open_text}
use Rattle.md_link_definitions.specs.Progress.{progress_of, step, steps}
use Rattle.proof_frame.specs.Change as change
use Rattle.proof_frame.specs.Change.{is_none}
use Rattle.proof_rows.specs.Fronted.{contained, rest_from}
use Rattle.proof_frame.specs.RestLine.{rest_line}
use Rattle.proof_frame.specs.LeafName.{HeadingSetext, LeafName}
use Rattle.md_registry.specs.Registry.{leaf}
use Rattle.proof_frame.specs.Row.{BlankRow, LeafRow, Row, RowKind, TextRow, last_row}
use Rattle.proof_rows.specs.Rows.{Group, Headed, Lines, LeafLines, Turned, takes_head, groups, is_further}
use Rattle.proof_rows.specs.Rows.{line_following, is_last, onto_groups, onto_leaf, onto_underline}
use Rattle.proof_frame.proofs.FrontFacts.{LinePrefix, ReadFront}
use Rattle.proof_frame.proofs.FrontNames.{HasFront}
use Rattle.proof_rows.proofs.JoinedLemmas.{EachNoContent, HasNoContent}
use Rattle.proof_rows.proofs.RowFacts.{AreRows, IsLine, IsRow, following_line}
use Rattle.md_events.proofs.FeedLines.{IsEnding}
use Rattle.proof_rows.proofs.RowLeaf.{EndsOnLine}
use Rattle.proof_frame.proofs.SpanLaws.{IsLineOf}
use Rattle.proof_rows.proofs.TextProgress.{IsFresh, IsShut, setext-may, turn-left}
use Rattle.md_registry.proofs.UnderNames.{further-text}
use Rattle.proof_rows.proofs.GroupLines.{first-text, AreGroups, AreLines, AreSpan, EndsBeforeGroups, FirstIs, IsHead}
use Rattle.proof_rows.proofs.GroupLines.{IsSingle}
use Rattle.proof_rows.proofs.GroupLines.{IsSpanLine, IsUnder, Leaves, line-as, line-further}
use Rattle.proof_rows.proofs.LineAfter.{FirstBegins, IsAfter, begins-following, following-fresh, following-on}
use Rattle.proof_rows.proofs.LineAfter.{blank-ends, first-begins, first-following, leaf-fresh, leaf-other}
use Rattle.proof_rows.proofs.LineAfter.{leaf-row-ends, leaves-left, leaves-longer, line-heads, shut-following}
use Rattle.proof_rows.proofs.LineAfter.{turned-alone}

-- Groups.

-- groups that may continue a leaf before them
abbrev AreBelow : ParseOptions → List ℕ → List Group → Type 0
AreBelow options bytes (LeafLines row rows ∷ gs) =
    AreSpan options bytes row rows × EndsBeforeGroups (last_row row rows) gs × AreGroups options bytes gs ×
    EachNoContent (row ∷ rows)
AreBelow options bytes (Turned row rows under ∷ gs) =
    (are : AreLines options bytes row rows) × (is : IsUnder options bytes (last_row row rows) under)
    × (ends : EndsBeforeGroups under gs) × (front : HasFront bytes row) × (more : AreGroups options bytes gs)
    × Leaves options bytes row rows are
AreBelow options bytes gs = AreGroups options bytes gs

below-are : (options : ParseOptions) (bytes : List ℕ) (gs : List Group) → FirstBegins gs → AreBelow options bytes gs →
    AreGroups options bytes gs
below-are options bytes (Turned row rows under ∷ gs) begins are = (
  are.0,
  are.1,
  are.2,
  are.3,
  are.4,
  leaves-left options bytes row rows are.0 are.5 begins,
)
below-are options bytes (LeafLines row rows ∷ gs) begins are = (are.0, are.1, are.2, are.3, begins)
below-are options bytes gs begins are = are

-- a line, with what is before it
record IsBegun (options : ParseOptions) (bytes line : List ℕ) (p : Point) (row : Row) : Type 0 where
  is : IsRow options bytes line row
  front : LinePrefix bytes row.change.opens p row.first row.front
  front_read : ReadFront bytes row.change.opens p row.first row.front
  quiet : HasNoContent row

alone-is : (options : ParseOptions) (bytes line : List ℕ) (p : Point) (row : Row) → IsBegun options bytes line p row →
    row.kind ≢ TextRow → EndsOnLine row.kind → IsSingle options bytes row
alone-is options bytes line p row is other ends = record {
  line = line;
  is = is.is;
  other = other;
  ends = ends;
  quiet = is.quiet;
  front = (p, is.front, is.front_read);
}

span-line : (options : ParseOptions) (bytes line : List ℕ) (p : Point) (row : Row) (l : LeafName) →
    IsBegun options bytes line p row → row.kind ≡ LeafRow l → (leaf l).ends ≡ false → IsSpanLine options bytes row
span-line options bytes line p row l is e ends = record {
  line = line;
  is = is.is;
  name = l;
  kind = e;
  open_leaf = ends;
  front = (p, is.front, is.front_read);
}

-- a line of a leaf goes before groups
leaf-are : (options : ParseOptions) (bytes line : List ℕ) (p : Point) (row : Row) (l : LeafName) (q : Point)
    (gs : List Group) →
    IsBegun options bytes line p row → row.kind ≡ LeafRow l → row.after ≡ Some q → IsEnding bytes row.end q →
    FirstIs (IsAfter bytes q row) gs → AreBelow options bytes gs → (ends : Bool) → (leaf l).ends ≡ ends →
    AreBelow options bytes (onto_leaf ends row gs)
leaf-are options bytes line p row l q gs is e after ending first are true k =
    let ends : EndsOnLine row.kind = leaf-row-ends row.kind l e k in
    let other : row.kind ≢ TextRow = leaf-other row.kind l e in (
      alone-is options bytes line p row is other ends,
      below-are options bytes gs
          (begins-following bytes q row gs first (shut-following options bytes line row is.is ends other)) are,
    )
leaf-are options bytes line p row l q [] is e after ending first are false k =
    (span-line options bytes line p row l is e k, tt, tt, (is.quiet, tt))
leaf-are options bytes line p row l q (Turned below rows under ∷ gs) is e after ending first are false k = (
  span-line options bytes line p row l is e k,
  (q, after),
  below-are options bytes (Turned below rows under ∷ gs)
      (following-fresh bytes q row below first (leaf-fresh options bytes line row l is.is e)) are,
  (is.quiet, tt),
)
leaf-are options bytes line p row l q (LeafLines below rows ∷ gs) is e after ending first are false k =
    go (is_further below.kind below.on) refl
  where
    go : (x : Bool) → is_further below.kind below.on ≡ x →
        AreBelow options bytes
        (cond x (LeafLines row (below ∷ rows) ∷ gs) (LeafLines row [] ∷ LeafLines below rows ∷ gs))
    go true f =
        let met = first.met f in (
          (
            span-line options bytes line p row l is e k,
            q,
            after,
            ending,
            subst (λ (cs : List Container). LinePrefix bytes cs q below.first below.front) met.1 first.front,
            met.0,
            met.2,
            f,
            are.0,
          ),
          are.1,
          are.2,
          (is.quiet, are.3),
        )
    go false f = (
      span-line options bytes line p row l is e k,
      (q, after),
      (are.0, are.1, are.2, are.3, f),
      (is.quiet, tt),
    )
leaf-are options bytes line p row l q gs is e after ending first are false k =
    (span-line options bytes line p row l is e k, (q, after), are, (is.quiet, tt))

-- a text goes before a line that continues none
text-begins : (options : ParseOptions) (bytes line : List ℕ) (p : Point) (row : Row) (q : Point) (gs : List Group) →
    IsBegun options bytes line p row → row.kind ≡ TextRow → EndsBeforeGroups row gs → AreGroups options bytes gs →
    AreGroups options bytes (Lines row [] ∷ gs)
text-begins options bytes line p row q gs is e ends are = ((line, is.is, e), ends, (p, is.front, is.front_read), are)

-- the line that turns a text
pub text-under : (options : ParseOptions) (bytes line : List ℕ) (row : Row) (q : Point) (below : Row) →
    row.after ≡ Some q → IsEnding bytes row.end q → IsAfter bytes q row below →
    is_further below.kind below.on ≡ true → takes_head below.kind ≡ false → IsSpanLine options bytes below →
    HasNoContent below → IsUnder options bytes row below
text-under options bytes line row q below after ending first f h is quiet =
    let met = first.met f in
    record {
      line = is.line;
      is = is.is;
      name = is.name;
      kind = is.kind;
      open_leaf = is.open_leaf;
      after = q;
      after_is = after;
      ending = ending;
      front = subst (λ (cs : List Container). LinePrefix bytes cs q below.first below.front) met.1 first.front;
      closed_after = met.0;
      on = met.2;
      further = f;
      heads = h;
      quiet = quiet;
    }

-- or the one that takes a line of text as its head
pub text-head : (options : ParseOptions) (bytes line : List ℕ) (row : Row) (q : Point) (below : Row) →
    IsRow options bytes line row → row.kind ≡ TextRow → row.after ≡ Some q → IsEnding bytes row.end q →
    IsAfter bytes q row below → is_further below.kind below.on ≡ true → takes_head below.kind ≡ true →
    IsHead options bytes row below
text-head options bytes line row q below is e after ending first f h =
    let met = first.met f in
    record {
      line = line;
      is = is;
      text = e;
      after = q;
      after_is = after;
      ending = ending;
      front = subst (λ (cs : List Container). LinePrefix bytes cs q below.first below.front) met.1 first.front;
      closed_after = met.0;
      on = met.2;
      further = f;
      heads = h;
    }

-- definitions leave something of the line that an underline turns
pub under-leaves : (options : ParseOptions) (bytes line : List ℕ) (row under : Row) →
    (is : IsRow options bytes line row) → (e : row.kind ≡ TextRow) → IsSpanLine options bytes under →
    under.on ≡ row.following → is_further under.kind under.on ≡ true → takes_head under.kind ≡ false →
    Leaves options bytes row [] (line, is, e)
unfolding steps
under-leaves options bytes line row under is e below on f h =
    let at : OpenText = open_text (step (progress_of row.on) (trim_start is.rest.bytes)) (kept is.rest) in
    let text : under.on ≡ held_leaf.Text at = on ∙ is.following ∙ ap (line_following options row.on is.rest) e in
    let further : (leaf below.name).further (held_leaf.Text at) ≡ true =
    ap (leaf below.name).further (sym text) ∙ line-further options bytes under below true f in
    let name : below.name ≡ HeadingSetext =
    further-text at below.name further (line-heads options bytes under below false h) in
    let of : IsLineOf options bytes (leaf HeadingSetext) under =
    line-as options bytes under below HeadingSetext (below.kind ∙ ap LeafRow name) in
    turn-left options at (ap (may_turn options) (sym text) ∙ setext-may options under.on of.rest of.starts)

-- text goes before a leaf of several lines: where its first line continues text, it takes that as its head, or is one
-- alone
text-span : (options : ParseOptions) (bytes line : List ℕ) (p : Point) (row : Row) (q : Point) (below : Row)
    (rows : List Row) (gs : List Group) →
    IsBegun options bytes line p row → row.kind ≡ TextRow → row.after ≡ Some q → IsEnding bytes row.end q →
    IsAfter bytes q row below → AreBelow options bytes (LeafLines below rows ∷ gs) →
    AreBelow options bytes (onto_underline row below rows gs)
text-span options bytes line p row q below rows gs is e after ending first are =
    go (is_further below.kind below.on) refl (takes_head below.kind) refl rows are
  where
    at : OpenText
    at = open_text (step (progress_of row.on) (trim_start is.is.rest.bytes)) (kept is.is.rest)

    text : row.following ≡ held_leaf.Text at
    text = is.is.following ∙ ap (line_following options row.on is.is.rest) e

    go : (x : Bool) → is_further below.kind below.on ≡ x → (y : Bool) → takes_head below.kind ≡ y → (rows : List Row) →
        AreBelow options bytes (LeafLines below rows ∷ gs) →
        AreBelow options bytes
        (cond (x && y) (Headed row below rows ∷ gs)
        (cond (x && is_last rows) (Turned row [] below ∷ gs) (Lines row [] ∷ LeafLines below rows ∷ gs)))
    go true f true h rows are = (
      text-head options bytes line row q below is.is e after ending first f h,
      are.0,
      are.1,
      (p, is.front, is.front_read),
      are.2,
      are.3,
    )
    go true f false h [] are = (
      (line, is.is, e),
      text-under options bytes line row q below after ending first f h are.0 are.3.0,
      are.1,
      (p, is.front, is.front_read),
      are.2,
      under-leaves options bytes line row below is.is e are.0 (first.met f).2 f h,
    )
    go true f false h (next ∷ rows) are =
        absurd (turned-alone options bytes at below next rows ((first.met f).2 ∙ text) f h are.0)
    go false f y h rows are =
        text-begins options bytes line p row q (LeafLines below rows ∷ gs) is e (q, after)
        (are.0, are.1, are.2, are.3, f)

-- text goes before groups
text-are : (options : ParseOptions) (bytes line : List ℕ) (p : Point) (row : Row) (q : Point) (gs : List Group) →
    IsBegun options bytes line p row → row.kind ≡ TextRow → row.after ≡ Some q → IsEnding bytes row.end q →
    FirstIs (IsAfter bytes q row) gs → AreBelow options bytes gs →
    AreBelow options bytes (onto_groups row TextRow gs)
text-are options bytes line p row q [] is e after ending first are =
    text-begins options bytes line p row q [] is e tt are
text-are options bytes line p row q (LeafLines below rows ∷ gs) is e after ending first are =
    text-span options bytes line p row q below rows gs is e after ending first are
text-are options bytes line p row q (Turned below rows under ∷ gs) is e after ending first are =
    go (change.is_none row.closed_after) refl below.change.opens refl
  where
    -- no definitions have begun before the text that is turned
    apart : IsFresh below.on → AreBelow options bytes (Lines row [] ∷ Turned below rows under ∷ gs)
    apart fresh =
        text-begins options bytes line p row q (Turned below rows under ∷ gs) is e (q, after)
        (below-are options bytes (Turned below rows under ∷ gs) fresh are)

    go : (x : Bool) → change.is_none row.closed_after ≡ x → (opens : List Container) → below.change.opens ≡ opens →
        AreBelow options bytes
        (cond (x && change.is_none opens) (Turned row (below ∷ rows) under ∷ gs)
        (Lines row [] ∷ Turned below rows under ∷ gs))
    go true ends [] none = (
      (
        line,
        is.is,
        e,
        q,
        after,
        ending,
        subst (λ (l : List Container). LinePrefix bytes l q below.first below.front) none first.front,
        are.0,
      ),
      are.1,
      are.2,
      (p, is.front, is.front_read),
      are.4,
      leaves-longer options bytes line row below rows are.0 is.is e (following-on bytes q row below first none) are.5,
    )
    go true ends (c ∷ opens) k =
        apart (first.on ∙ ap (λ (l : List Container). cond (is_none l) (progress_of row.following) Fresh) k)
    go false ends opens k = apart (first.closed (first-text options bytes below rows are.0).2 ends)
text-are options bytes line p row q (Lines below rows ∷ gs) is e after ending first are =
    go (change.is_none row.closed_after) below.change.opens refl
  where
    go : (x : Bool) (opens : List Container) → below.change.opens ≡ opens →
        AreBelow options bytes
        (cond (x && change.is_none opens) (Lines row (below ∷ rows) ∷ gs) (Lines row [] ∷ Lines below rows ∷ gs))
    go true [] none = (
      (
        line,
        is.is,
        e,
        q,
        after,
        ending,
        subst (λ (l : List Container). LinePrefix bytes l q below.first below.front) none first.front,
        are.0,
      ),
      are.1,
      (p, is.front, is.front_read),
      are.3,
    )
    go _ _ k = text-begins options bytes line p row q (Lines below rows ∷ gs) is e (q, after) are
text-are options bytes line p row q gs is e after ending first are =
    text-begins options bytes line p row q gs is e (q, after) are

-- a line goes before groups
onto-are : (options : ParseOptions) (bytes line : List ℕ) (p : Point) (row : Row) (q : Point) (gs : List Group) →
    IsBegun options bytes line p row → row.after ≡ Some q → IsEnding bytes row.end q →
    FirstIs (IsAfter bytes q row) gs → AreBelow options bytes gs → (kind : RowKind) → row.kind ≡ kind →
    AreBelow options bytes (onto_groups row kind gs)
onto-are options bytes line p row q gs is after ending first are BlankRow e =
    let ends : EndsOnLine row.kind = blank-ends row.kind e in
    let other : row.kind ≢ TextRow = λ k. cc in (
      alone-is options bytes line p row is other ends,
      below-are options bytes gs
          (begins-following bytes q row gs first (shut-following options bytes line row is.is ends other)) are,
    )
onto-are options bytes line p row q gs is after ending first are (LeafRow l) e =
    leaf-are options bytes line p row l q gs is e after ending first are (leaf l).ends refl
onto-are options bytes line p row q gs is after ending first are TextRow e =
    text-are options bytes line p row q gs is e after ending first are

last-are : (options : ParseOptions) (bytes line : List ℕ) (p : Point) (row : Row) → IsBegun options bytes line p row →
    (kind : RowKind) → row.kind ≡ kind → AreBelow options bytes (onto_groups row kind [])
last-are options bytes line p row is BlankRow e =
    (alone-is options bytes line p row is (λ k. cc) (blank-ends row.kind e), tt)
last-are options bytes line p row is (LeafRow l) e = go (leaf l).ends refl
  where
    go : (ends : Bool) → (leaf l).ends ≡ ends → AreBelow options bytes (onto_leaf ends row [])
    go true k = (
      alone-is options bytes line p row is (leaf-other row.kind l e) (leaf-row-ends row.kind l e k),
      tt,
    )
    go false k = (span-line options bytes line p row l is e k, tt, tt, (is.quiet, tt))
last-are options bytes line p row is TextRow e = ((line, is.is, e), tt, (p, is.front, is.front_read), tt)

line-begun : (options : ParseOptions) (bytes : List ℕ) (open_before : List Container) (still : HeldLeaf) (p : Point)
    (line : List ℕ) (row : Row) →
    IsLine options bytes open_before still p line row → HasNoContent row →
    IsBegun options bytes (rest_line (contained options open_before still (rest_from p line)).rest) p row
line-begun options bytes open_before still p line row is quiet = record {
  is = is.is;
  front = is.front;
  front_read = is.front_read;
  quiet = quiet;
}

groups-below : (options : ParseOptions) (bytes : List ℕ) (open_before : List Container) (still : HeldLeaf) (p : Point)
    (lines : List (List ℕ)) (rows : List Row) →
    AreRows options bytes open_before still p lines rows → EachNoContent rows → AreBelow options bytes (groups rows)
groups-below options bytes open_before still p (line ∷ []) (row ∷ []) h k =
    last-are options bytes (rest_line (contained options open_before still (rest_from p line)).rest) p row
    (line-begun options bytes open_before still p line row h.0 k.0) row.kind refl
groups-below options bytes open_before still p (line ∷ next ∷ lines) (row ∷ below ∷ rows) h k =
    let open_next = following_line options open_before still p line in
    onto-are options bytes (rest_line (contained options open_before still (rest_from p line)).rest) p row h.2
    (groups (below ∷ rows)) (line-begun options bytes open_before still p line row h.0 k.0) h.3 h.4
    (first-following options bytes open_next h.2 (next ∷ lines) row below rows h.5 h.1)
    (groups-below options bytes open_next row.following h.2 (next ∷ lines) (below ∷ rows) h.5 k.1) row.kind refl
groups-below options bytes open_before still p lines rows h k = absurd h

-- The groups of the lines of a text are lines of text that belong together, with the line that turns them if one does,
-- lines of a leaf of several, and others.
pub groups-are : (options : ParseOptions) (bytes : List ℕ) (open_before : List Container) (still : HeldLeaf) (p : Point)
    (lines : List (List ℕ)) (rows : List Row) →
    IsShut still → AreRows options bytes open_before still p lines rows → EachNoContent rows →
    AreGroups options bytes (groups rows)
groups-are options bytes open_before still p lines rows shut h k =
    below-are options bytes (groups rows) (first-begins options bytes open_before still p lines rows shut h)
    (groups-below options bytes open_before still p lines rows h k)
