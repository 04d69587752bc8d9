-- The events of a text nest.
use Rattle.md_engine.specs.declared.tokenizer.held_leaf.HeldLeaf.TheVariants as held_leaf
use Rattle.md_engine.specs.declared.tokenizer.held_leaf.HeldLeaf.{HeldLeaf}
use Rattle.proof_frame.specs.LeafName.{LeafName}
use Rattle.md_registry.specs.Registry.{leaf}
use Rattle.proof_rows.proofs.GroupLines.{first-text, AreSpan, Begins, FirstIs, IsHead, IsSpanLine, IsUnder, Leaves}
use Rattle.proof_rows.proofs.GroupLines.{AreLines}
use Rattle.proof_rows.proofs.LineAfter.{FirstBegins, IsAfter, following-fresh, following-on, leaf-fresh, leaves-left}
use Rattle.proof_rows.proofs.LineAfter.{leaves-longer, unjoined-fresh, begins-following, blank-ends, first-begins}
use Rattle.proof_rows.proofs.LineAfter.{first-following, leaf-other, leaf-row-ends, shut-following, turned-alone}
use Rattle.proof_rows.proofs.GroupsAre.{under-leaves, text-head, text-under}
use Rattle.std.proofs.Common.{◌≡◌, ◌≢◌, ℕ, Bool, true, false, cond, ◌&&◌, List, [], ◌∷◌, ◌++◌, refl, ap, sym, ◌∙◌}
use Rattle.std.proofs.Common.{append_assoc, append-nil, subst}
use Rattle.std.specs.Prelude.{IsTrue, Some}
use Rattle.std.proofs.lemmas.Bool.{and_parts}
use Rattle.md_engine.specs.declared.configuration.ParseOptions.{ParseOptions}
use Rattle.md_engine.specs.declared.event.Event.{Event}
use Rattle.md_engine.specs.declared.event.Name.{Name}
use Rattle.md_engine.specs.declared.event.Point.{Point}
use Rattle.md_events.specs.Events.Places.{at_or_before}
use Rattle.md_meaning.specs.State.{Container}
use Rattle.md_events.proofs.NestedLemmas.{at_or_before-refl}
use Rattle.proof_frame.specs.Change.{Change, ends_of, is_none, open_following}
use Rattle.proof_rows.specs.Fronted.{contained, rest_from}
use Rattle.proof_frame.specs.RestLine.{rest_line}
use Rattle.proof_rows.specs.Rows.{Headed, LeafLines, Turned, is_further, is_last, onto_leaf, final_row, first_row}
use Rattle.proof_rows.specs.Rows.{Group, Lines, Single, closes_before, front_done, is_continued, groups, groups_events}
use Rattle.proof_rows.specs.Rows.{group_done, onto_groups, tail_events, takes_head, group_ending}
use Rattle.proof_frame.specs.Row.{LeafRow, BlankRow, Row, RowKind, TextRow, after_row, ending_events, last_row}
use Rattle.proof_rows.proofs.ContainedLemmas.{contained-shapes, none-nil}
use Rattle.proof_frame.proofs.FrontFacts.{LinePrefix, ReadFront}
use Rattle.proof_frame.proofs.FrontLemmas.{Turns, ends-spans, ends-turn, fronts-spans, fronts-turn, names-append}
use Rattle.proof_frame.proofs.FrontLemmas.{shapes-names}
use Rattle.proof_rows.proofs.JoinedLemmas.{following-is, following-none}
use Rattle.proof_rows.proofs.GroupFacts.{IsGroupLeaf, headed-leaf, single-leaf, span-group, text-leaf, turned-leaf}
use Rattle.proof_rows.proofs.RowLeaf.{EndsOnLine}
use Rattle.proof_frame.proofs.ChunkFacts.{ending-order}
use Rattle.proof_rows.proofs.RowFacts.{AreRows, IsLine, IsRow, following_line}
use Rattle.md_events.proofs.FeedLines.{IsEnding}
use Rattle.proof_frame.proofs.NestedEvents.{Onward, ending-nested, under-before, under-none, under-turn}
use Rattle.md_order.proofs.Nests.Leads.{Under}
use Rattle.proof_frame.proofs.SpanLemmas.{Nested_in}
use Rattle.proof_frame.proofs.ContainerNames.{open_names}
use Rattle.proof_rows.proofs.Turned.Under.{text-open}
use Rattle.proof_rows.proofs.Underlines.{further-quiet}

-- Groups.

-- What is in a group whose first line begins at a point, and its ending: the points never go back.
pub record Ordered (options : ParseOptions) (bytes : List ℕ) (p : Point) (group : Group) : Type 0 where
  pub front : LinePrefix bytes (first_row group).change.opens p (first_row group).first (first_row group).front
  pub front_read : ReadFront bytes (first_row group).change.opens p (first_row group).first (first_row group).front
  pub leaf : IsGroupLeaf options bytes group
  pub ends : IsTrue (at_or_before (final_row group).end (after_row (final_row group)))

-- what is open in a group, if these are open before it, is what ends after it and what is kept
abbrev pub Keeps : List Name → Group → List Name → Type 0
Keeps names group kept =
    open_names (first_row group).change.opens ++ names ≡ open_names (final_row group).closed_after ++ kept

-- a group before events that end what it keeps open, with what is in its place, and before it
pub under-group : (options : ParseOptions) (bytes : List ℕ) (names kept : List Name) (p : Point) (group : Group)
    (front inside events : List Event) →
    LinePrefix bytes (first_row group).change.opens p (first_row group).first front →
    IsTrue (at_or_before (final_row group).end (after_row (final_row group))) →
    Keeps names group kept → Nested_in (first_row group).first (final_row group).end inside →
    Under kept (after_row (final_row group)) events →
    Under names p
    ((front ++ inside ++ tail_events (group_ending group) (final_row group)) ++ events)
under-group options bytes names kept p group front inside events is order keeps h on =
    let row : Row = first_row group in
    let last : Row = final_row group in
    let all : List Name = open_names row.change.opens ++ names in
    let ends : List Event = ends_of last.closed_after last.end in
    let ending : List Event = ending_events (group_ending group) last in
    let apart : (front ++ inside ++ (ends ++ ending)) ++ events ≡
    front ++ (inside ++ (ends ++ (ending ++ events))) = simp append_assoc in
    subst (Under names p) (sym apart)
    (under-turn names all p row.first front (inside ++ (ends ++ (ending ++ events)))
    (fronts-turn bytes row.change.opens names p row.first front is)
    (fronts-spans bytes row.change.opens p row.first front is)
    (under-before all row.first last.end inside (ends ++ (ending ++ events)) h
    (under-turn all kept last.end last.end ends (ending ++ events)
    (subst (λ (l : List Name). Turns l kept ends) (sym keeps) (ends-turn last.closed_after kept last.end))
    (ends-spans last.closed_after last.end)
    (under-before kept last.end (after_row last) ending events
    (ending-nested (group_ending group) last order) on))))

-- What holds of no groups where nothing is open, and group by group, of the names that are open where they begin (after
-- the ends of the containers that end before the line), and of the point where they begin.
pub record ByGroups (options : ParseOptions) (bytes : List ℕ) (P : List Name → Point → List Group → Type 0) : Type 0
  where
    pub none : (p : Point) → P [] p []
    pub group : (names kept : List Name) (p : Point) (group : Group) (gs : List Group) → Ordered options bytes p group →
        Keeps names group kept →
        P kept (after_row (final_row group)) gs → P names p (group ∷ gs)

-- A group before others, as far as it is known: what its lines are, by the first and the last.
record Known (bytes : List ℕ) (P : List Name → Point → List Group → Type 0) (names : List Name) (p : Point)
    (first last : Row) (Lines_are : Type 0) (gs : List Group) : Type 0 where
  front : LinePrefix bytes first.change.opens p first.first first.front
  front_read : ReadFront bytes first.change.opens p first.first first.front
  are : Lines_are
  ends : IsTrue (at_or_before last.end (after_row last))
  kept : List Name
  keeps : open_names first.change.opens ++ names ≡ open_names last.closed_after ++ kept
  more : P kept (after_row last) gs

-- lines of text and the one that turns them
record AreTurned (options : ParseOptions) (bytes : List ℕ) (row : Row) (rows : List Row) (under : Row) : Type 0 where
  are : AreLines options bytes row rows
  is : IsUnder options bytes (last_row row rows) under
  closed_after : Leaves options bytes row rows are

-- lines with which groups begin
abbrev Begun : ParseOptions → List ℕ → (List Name → Point → List Group → Type 0) → List Name → Point → List Group →
    Type 0
Begun options bytes P names p (Lines row rows ∷ gs) =
    Known bytes P names p row (last_row row rows) (AreLines options bytes row rows) gs
Begun options bytes P names p (Turned row rows under ∷ gs) =
    Known bytes P names p row under (AreTurned options bytes row rows under) gs
Begun options bytes P names p (LeafLines row rows ∷ gs) =
    Known bytes P names p row (last_row row rows) (AreSpan options bytes row rows) gs
Begun options bytes P names p _ = Unit {0}

-- a line has an ending if more follows
abbrev Ended : List ℕ → Row → List Group → Type 0
Ended bytes row [] = Unit {0}
Ended bytes row (group ∷ gs) = (q : Point) × (row.after ≡ Some q) × IsEnding bytes row.end q

-- a line, with what is before it and after it
record IsBegun (options : ParseOptions) (bytes line : List ℕ) (names kept : List Name) (p : Point)
    (row : Row) : Type 0 where
  is : IsRow options bytes line row
  front : LinePrefix bytes row.change.opens p row.first row.front
  front_read : ReadFront bytes row.change.opens p row.first row.front
  ends : IsTrue (at_or_before row.end (after_row row))
  keeps : Keeps names (Single row) kept

-- A line before others: what holds of the groups that begin with it, by what holds of those after it.
module _ (options : ParseOptions) (bytes line : List ℕ) (P : List Name → Point → List Group → Type 0)
    (by : ByGroups options bytes P) (names kept : List Name) (p q : Point) (row : Row)
    (begun : IsBegun options bytes line names kept p row) where
  -- it holds of these groups if they begin a leaf, and what is known of the lines of their first
  abbrev Both_of : List Group → Type 0
  Both_of groups = (FirstBegins groups → P names p groups) × Begun options bytes P names p groups

  -- it holds of a group that is known, if its lines are its leaf
  known-holds : (group : Group) (gs : List Group) (A : Type 0) →
      Known bytes P names p (first_row group) (final_row group) A gs → IsGroupLeaf options bytes group →
      P names p (group ∷ gs)
  known-holds group gs A known leaf =
      by.group names known.kept p group gs
      (record { front = known.front; front_read = known.front_read; leaf = leaf; ends = known.ends }) known.keeps
      known.more

  -- a line that no line continues
  alone : (A : Type 0) → A → (gs : List Group) → P kept (after_row row) gs → Known bytes P names p row row A gs
  alone A are gs h = record {
    front = begun.front;
    front_read = begun.front_read;
    are = are;
    ends = begun.ends;
    kept = kept;
    keeps = begun.keeps;
    more = h;
  }

  -- a line that is a group of its own
  single-holds : row.kind ≢ TextRow → EndsOnLine row.kind → (gs : List Group) → P kept (after_row row) gs →
      Both_of (Single row ∷ gs)
  single-holds other ends gs h = (
    λ begins. known-holds (Single row) gs (Unit {0}) (alone (Unit {0}) tt gs h)
        (single-leaf options bytes line row begun.is other ends),
    tt,
  )

  -- lines of text
  text-holds : (rows : List Row) (gs : List Group) → Begun options bytes P names p (Lines row rows ∷ gs) →
      Both_of (Lines row rows ∷ gs)
  text-holds rows gs lined =
      (λ begins. known-holds (Lines row rows) gs _ lined (text-leaf options bytes row rows lined.are), lined)

  -- lines of text with the one that turns them
  turned-holds : (rows : List Row) (under : Row) (gs : List Group) →
      Begun options bytes P names p (Turned row rows under ∷ gs) → Both_of (Turned row rows under ∷ gs)
  turned-holds rows under gs lined = (
    λ begins. known-holds (Turned row rows under) gs _ lined
        (turned-leaf options bytes row rows under lined.are.are lined.are.is
        (leaves-left options bytes row rows lined.are.are lined.are.closed_after begins)),
    lined,
  )

  -- lines of a leaf of several
  span-holds : (rows : List Row) (gs : List Group) → Begun options bytes P names p (LeafLines row rows ∷ gs) →
      Both_of (LeafLines row rows ∷ gs)
  span-holds rows gs spanned = (
    λ begins. known-holds (LeafLines row rows) gs _ spanned (span-group options bytes row rows spanned.are begins),
    spanned,
  )

  -- where no leaf is open after the line, the next line begins one, so it holds of the groups below
  fresh-holds : (gs : List Group) → EndsOnLine row.kind → row.kind ≢ TextRow → FirstIs (IsAfter bytes q row) gs →
      (FirstBegins gs → P kept (after_row row) gs) → P kept (after_row row) gs
  fresh-holds gs ends other first h =
      h (begins-following bytes q row gs first (shut-following options bytes line row begun.is ends other))

  -- a line of text that no line continues
  alone-holds : row.kind ≡ TextRow → (gs : List Group) → P kept (after_row row) gs → Both_of (Lines row [] ∷ gs)
  alone-holds e gs h =
      text-holds [] gs (alone (AreLines options bytes row []) (line, begun.is, e) gs h)

  -- the prefixes of a line that continues this one, from the point after the ending of this one
  further-prefixes : (next : Row) (to : Point) → row.after ≡ Some to → next.change.opens ≡ [] →
      LinePrefix bytes next.change.opens (after_row row) next.first next.front →
      LinePrefix bytes [] to next.first next.front
  further-prefixes next to after opens front =
      subst (λ (r : Point). LinePrefix bytes [] r next.first next.front) (following-is row to after)
      (subst (λ (cs : List Container). LinePrefix bytes cs (after_row row) next.first next.front) opens front)

  -- what ends after the two, and what is kept, is what was open before this one
  keeps-both : (next last : Row) (more : List Name) → row.closed_after ≡ [] → next.change.opens ≡ [] →
      open_names next.change.opens ++ kept ≡ open_names last.closed_after ++ more →
      open_names row.change.opens ++ names ≡ open_names last.closed_after ++ more
  keeps-both next last more leaves opens keeps =
      begun.keeps
      ∙ ap (λ (cs : List Container). open_names cs ++ kept) leaves
      ∙ ap (λ (cs : List Container). open_names cs ++ kept) (sym opens)
      ∙ keeps

  -- a group that begins with the line after this one begins with this one
  longer : (A B : Type 0) → A → (next last : Row) (gs : List Group) → row.closed_after ≡ [] → next.change.opens ≡ [] →
      Known bytes P kept (after_row row) next last B gs → Known bytes P names p row last A gs
  longer A B are next last gs leaves opens below = record {
    front = begun.front;
    front_read = begun.front_read;
    are = are;
    ends = below.ends;
    kept = below.kept;
    keeps = keeps-both next last below.kept leaves opens below.keeps;
    more = below.more;
  }

  -- a line of a leaf of several
  span_row-holds : (l : LeafName) → row.kind ≡ LeafRow l → (leaf l).ends ≡ false → (gs : List Group) →
      Ended bytes row gs → FirstIs (IsAfter bytes q row) gs → Begun options bytes P kept (after_row row) gs →
      (FirstBegins gs → P kept (after_row row) gs) → Both_of (onto_leaf false row gs)
  span_row-holds l e k gs ended first below h = go gs ended first below h
    where
      is : IsSpanLine options bytes row
      is = record {
        line = line;
        is = begun.is;
        name = l;
        kind = e;
        open_leaf = k;
        front = (p, begun.front, begun.front_read);
      }

      one : (gs : List Group) → P kept (after_row row) gs → Both_of (LeafLines row [] ∷ gs)
      one gs h = span-holds [] gs (alone (AreSpan options bytes row []) is gs h)

      go : (gs : List Group) → Ended bytes row gs → FirstIs (IsAfter bytes q row) gs →
          Begun options bytes P kept (after_row row) gs → (FirstBegins gs → P kept (after_row row) gs) →
          Both_of (onto_leaf false row gs)
      go (Turned next rows under ∷ gs) ended first below h =
          one (Turned next rows under ∷ gs)
          (h (following-fresh bytes q row next first (leaf-fresh options bytes line row l begun.is e)))
      go (LeafLines next rows ∷ gs) ended first below h = joins (is_further next.kind next.on) refl
        where
          joins : (x : Bool) → is_further next.kind next.on ≡ x →
              Both_of (cond x (LeafLines row (next ∷ rows) ∷ gs) (LeafLines row [] ∷ LeafLines next rows ∷ gs))
          joins false f = one (LeafLines next rows ∷ gs) (h f)
          joins true f =
              let met = first.met f in
              span-holds (next ∷ rows) gs
              (longer (AreSpan options bytes row (next ∷ rows)) _ (
                is,
                ended.0,
                ended.1,
                ended.2,
                further-prefixes next ended.0 ended.1 met.1 below.front,
                met.0,
                met.2,
                f,
                below.are,
              ) next (last_row next rows) gs met.0 met.1 below)
      go gs ended first below h = one gs (h tt)

  -- lines of text that continue this one are lines of text with it
  abbrev text-longer : row.kind ≡ TextRow → (next : Row) (rows : List Row) (gs : List Group) →
      Ended bytes row (Lines next rows ∷ gs) → next.change.opens ≡ [] →
      LinePrefix bytes next.change.opens (after_row row) next.first next.front →
      AreLines options bytes next rows → AreLines options bytes row (next ∷ rows)
  text-longer e next rows gs ended opens front are =
      (line, begun.is, e, ended.0, ended.1, ended.2, further-prefixes next ended.0 ended.1 opens front, are)

  -- what is known of a line that continues this one, from the point after the ending of this one
  following-ending : (next : Row) (to : Point) → row.after ≡ Some to →
      LinePrefix bytes next.change.opens (after_row row) next.first next.front → IsAfter bytes q row next →
      IsAfter bytes to row next
  following-ending next to after front first = record {
    front =
        subst (λ (r : Point). LinePrefix bytes next.change.opens r next.first next.front) (following-is row to after)
        front;
    met = first.met;
    begins = first.begins;
    on = first.on;
    closed = first.closed;
  }

  -- a line of text before the line that turns it
  underline-holds : row.kind ≡ TextRow → (next : Row) (gs : List Group) → Ended bytes row (LeafLines next [] ∷ gs) →
      IsAfter bytes q row next → Begun options bytes P kept (after_row row) (LeafLines next [] ∷ gs) →
      is_further next.kind next.on ≡ true → takes_head next.kind ≡ false → Both_of (Turned row [] next ∷ gs)
  underline-holds e next gs ended first below f headless =
      let met = first.met f in
      let is : IsSpanLine options bytes next = below.are in
      let text = text-open options bytes row [] (line, begun.is, e) in
      let following : IsAfter bytes ended.0 row next = following-ending next ended.0 ended.1 below.front first in
      turned-holds [] next gs
      (longer (AreTurned options bytes row [] next) _
      (record {
        are = (line, begun.is, e);
        is =
            text-under options bytes line row ended.0 next ended.1 ended.2 following f headless is
            (further-quiet options bytes is.line next is.name text.0 is.is is.kind (met.2 ∙ text.1) f headless);
        closed_after = under-leaves options bytes line row next begun.is e is met.2 f headless;
      }) next next gs met.0 met.1 below)

  -- a line of text before the lines of a table that take it as their head
  headed-holds : row.kind ≡ TextRow → (next : Row) (rows : List Row) (gs : List Group) →
      Ended bytes row (LeafLines next rows ∷ gs) → IsAfter bytes q row next →
      Begun options bytes P kept (after_row row) (LeafLines next rows ∷ gs) → is_further next.kind next.on ≡ true →
      takes_head next.kind ≡ true → Both_of (Headed row next rows ∷ gs)
  headed-holds e next rows gs ended first below f heads =
      let met = first.met f in
      let following : IsAfter bytes ended.0 row next = following-ending next ended.0 ended.1 below.front first in
      let head : IsHead options bytes row next =
      text-head options bytes line row ended.0 next begun.is e ended.1 ended.2 following f heads in (
        λ begins. known-holds (Headed row next rows) gs (Unit {0})
            (longer (Unit {0}) _ tt next (last_row next rows) gs met.0 met.1 below)
            (headed-leaf options bytes row next rows head below.are),
        tt,
      )

  -- a line of text
  text_row-holds : row.kind ≡ TextRow → (gs : List Group) → Ended bytes row gs → FirstIs (IsAfter bytes q row) gs →
      Begun options bytes P kept (after_row row) gs → (FirstBegins gs → P kept (after_row row) gs) →
      Both_of (onto_groups row TextRow gs)
  text_row-holds e (Turned next rows under ∷ gs) ended first below h = joins (is_continued row next) refl
    where
      joins : (x : Bool) → is_continued row next ≡ x →
          Both_of (cond x (Turned row (next ∷ rows) under ∷ gs) (Lines row [] ∷ Turned next rows under ∷ gs))
      joins false k =
          alone-holds e (Turned next rows under ∷ gs)
          (h (unjoined-fresh bytes q row next first (first-text options bytes next rows below.are.are).2 k))
      joins true k =
          let parts = and_parts (is_none row.closed_after) (is_none next.change.opens) k in
          let leaves : row.closed_after ≡ [] = none-nil row.closed_after parts.0 in
          let opens : next.change.opens ≡ [] = none-nil next.change.opens parts.1 in
          turned-holds (next ∷ rows) under gs
          (longer (AreTurned options bytes row (next ∷ rows) under) _
          (record {
            are = text-longer e next rows gs ended opens below.front below.are.are;
            is = below.are.is;
            closed_after =
                leaves-longer options bytes line row next rows below.are.are begun.is e
                (following-on bytes q row next first opens) below.are.closed_after;
          }) next under gs leaves opens below)
  text_row-holds e (LeafLines next rows ∷ gs) ended first below h =
      joins rows (is_further next.kind next.on) refl (takes_head next.kind) refl below h
    where
      joins : (rows : List Row) (x : Bool) → is_further next.kind next.on ≡ x → (y : Bool) →
          takes_head next.kind ≡ y → Begun options bytes P kept (after_row row) (LeafLines next rows ∷ gs) →
          (Begins next → P kept (after_row row) (LeafLines next rows ∷ gs)) →
          Both_of
          (cond (x && y) (Headed row next rows ∷ gs)
          (cond (x && is_last rows) (Turned row [] next ∷ gs) (Lines row [] ∷ LeafLines next rows ∷ gs)))
      joins rows false f y head below h = alone-holds e (LeafLines next rows ∷ gs) (h f)
      joins rows true f true head below h = headed-holds e next rows gs ended first below f head
      joins [] true f false head below h = underline-holds e next gs ended first below f head
      joins (more ∷ rows) true f false head below h =
          absurd
          (let text = text-open options bytes row [] (line, begun.is, e) in
          turned-alone options bytes text.0 next more rows ((first.met f).2 ∙ text.1) f head below.are)
  text_row-holds e (Lines next rows ∷ gs) ended first below h = joins (is_continued row next) refl
    where
      joins : (x : Bool) → is_continued row next ≡ x →
          Both_of (cond x (Lines row (next ∷ rows) ∷ gs) (Lines row [] ∷ Lines next rows ∷ gs))
      joins false k = alone-holds e (Lines next rows ∷ gs) (h tt)
      joins true k =
          let parts = and_parts (is_none row.closed_after) (is_none next.change.opens) k in
          let leaves : row.closed_after ≡ [] = none-nil row.closed_after parts.0 in
          let opens : next.change.opens ≡ [] = none-nil next.change.opens parts.1 in
          text-holds (next ∷ rows) gs
          (longer (AreLines options bytes row (next ∷ rows)) _
          (text-longer e next rows gs ended opens below.front below.are) next (last_row next rows) gs leaves opens
          below)
  text_row-holds e gs ended first below h = alone-holds e gs (h tt)

  -- a line of a leaf, by whether the leaf always ends on it
  leaf_row-holds : (l : LeafName) → row.kind ≡ LeafRow l → (ends : Bool) → (leaf l).ends ≡ ends → (gs : List Group) →
      Ended bytes row gs → FirstIs (IsAfter bytes q row) gs → Begun options bytes P kept (after_row row) gs →
      (FirstBegins gs → P kept (after_row row) gs) → Both_of (onto_leaf ends row gs)
  leaf_row-holds l e false k gs ended first below h = span_row-holds l e k gs ended first below h
  leaf_row-holds l e true k gs ended first below h =
      let ends : EndsOnLine row.kind = leaf-row-ends row.kind l e k in
      let other : row.kind ≢ TextRow = leaf-other row.kind l e in
      single-holds other ends gs (fresh-holds gs ends other first h)

  -- any line
  onto-holds : (gs : List Group) → Ended bytes row gs → FirstIs (IsAfter bytes q row) gs →
      Begun options bytes P kept (after_row row) gs → (FirstBegins gs → P kept (after_row row) gs) →
      (kind : RowKind) → row.kind ≡ kind → Both_of (onto_groups row kind gs)
  onto-holds gs ended first below h BlankRow e =
      let ends : EndsOnLine row.kind = blank-ends row.kind e in
      let other : row.kind ≢ TextRow = λ k. cc in single-holds other ends gs (fresh-holds gs ends other first h)
  onto-holds gs ended first below h (LeafRow l) e = leaf_row-holds l e (leaf l).ends refl gs ended first below h
  onto-holds gs ended first below h TextRow e = text_row-holds e gs ended first below h

-- What is known of the lines of a text from a point on, where these containers are open: some of them end before the
-- first line, and where the others are left, it holds of the groups of the lines.
record Hold (options : ParseOptions) (bytes : List ℕ) (P : List Name → Point → List Group → Type 0)
    (cs : List Container) (p : Point) (rows : List Row) : Type 0 where
  names : List Name
  left : open_names cs ≡ open_names (closes_before cs rows) ++ names
  begun : Begun options bytes P names p (groups rows)
  holds : FirstBegins (groups rows) → P names p (groups rows)

-- what was open before a line ends there or stays
change-names : (options : ParseOptions) (bytes line : List ℕ) (cs : List Container) (still : HeldLeaf) (p : Point)
    (row : Row) →
    IsLine options bytes cs still p line row →
    open_names cs ≡ open_names row.change.closes ++ open_names row.change.stays
change-names options bytes line cs still p row is =
    subst (λ (change : Change). open_names cs ≡ open_names change.closes ++ open_names change.stays) (sym is.change)
    (sym (shapes-names (change.stays ++ change.closes) cs (contained-shapes options cs still (rest_from p line)))
    ∙ names-append change.stays change.closes)
  where
    change : Change
    change = (contained options cs still (rest_from p line)).change

-- what is open after a line, without what ends there, is what the line leaves
change-keeps : (options : ParseOptions) (bytes line : List ℕ) (cs : List Container) (still : HeldLeaf) (p : Point)
    (row : Row) (kept : List Name) →
    IsLine options bytes cs still p line row →
    open_names (following_line options cs still p line) ≡ open_names row.closed_after ++ kept →
    Keeps (open_names row.change.stays) (Single row) kept
change-keeps options bytes line cs still p row kept is h =
    sym (names-append row.change.stays row.change.opens)
    ∙ ap (λ (change : Change). open_names (open_following change)) is.change ∙ h

line-holds : (options : ParseOptions) (bytes : List ℕ) (P : List Name → Point → List Group → Type 0) →
    ByGroups options bytes P →
    (cs : List Container) (still : HeldLeaf) (p q : Point) (line : List ℕ) (row : Row) (rows : List Row)
    (kept : List Name) →
    IsLine options bytes cs still p line row →
    IsTrue (at_or_before row.end (after_row row)) →
    open_names (following_line options cs still p line) ≡ open_names row.closed_after ++ kept →
    Ended bytes row (groups rows) → FirstIs (IsAfter bytes q row) (groups rows) →
    Begun options bytes P kept (after_row row) (groups rows) →
    (FirstBegins (groups rows) → P kept (after_row row) (groups rows)) → Hold options bytes P cs p (row ∷ rows)
line-holds options bytes P by cs still p q line row rows kept is ends left ended first begun h =
    let rest : List ℕ = rest_line (contained options cs still (rest_from p line)).rest in
    let here : IsBegun options bytes rest
    (open_names row.change.stays) kept p row = record {
      is = is.is;
      front = is.front;
      front_read = is.front_read;
      ends = ends;
      keeps = change-keeps options bytes line cs still p row kept is left;
    } in
    let both = onto-holds options bytes rest P by (open_names row.change.stays) kept p q row here
    (groups rows) ended first begun h row.kind refl in
    record {
      names = open_names row.change.stays;
      left = change-names options bytes line cs still p row is;
      begun = both.1;
      holds = both.0;
    }

-- It holds of the groups of a text.
lines-hold : (options : ParseOptions) (bytes : List ℕ) (P : List Name → Point → List Group → Type 0) →
    ByGroups options bytes P → (cs : List Container) (still : HeldLeaf) (p : Point) (lines : List (List ℕ))
    (rows : List Row) →
    AreRows options bytes cs still p lines rows → Hold options bytes P cs p rows
lines-hold options bytes P by cs still p (line ∷ []) (row ∷ []) are =
    let following : List Container = following_line options cs still p line in
    let ends : IsTrue (at_or_before row.end (after_row row)) = subst (λ (q : Point). IsTrue (at_or_before row.end q))
    (sym (following-none row are.2)) (at_or_before-refl row.end) in
    let left : open_names following ≡
    open_names row.closed_after ++ [] = sym (append-nil (open_names row.closed_after) ∙ ap open_names are.1) in
    line-holds options bytes P by cs still p p line row [] [] are.0 ends left tt tt tt
    (λ begins. by.none (after_row row))
lines-hold options bytes P by cs still p (line ∷ next ∷ lines) (row ∷ below ∷ rows) are =
    let many : List Container = following_line options cs still p line in
    let following : after_row row ≡ are.2 = following-is row are.2 are.3 in
    let ends : IsTrue (at_or_before row.end (after_row row)) = subst (λ (q : Point). IsTrue (at_or_before row.end q))
    (sym following) (ending-order bytes row.end are.2 are.4) in
    let more : Hold options bytes P many are.2 (below ∷ rows) = lines-hold options bytes P by many
    row.following are.2 (next ∷ lines) (below ∷ rows) are.5 in
    line-holds options bytes P by cs still p are.2 line row (below ∷ rows) more.names are.0 ends
    (more.left ∙ ap (λ (l : List Container). open_names l ++ more.names) (sym are.1))
    (ended (groups (below ∷ rows)))
    (first-following options bytes many are.2 (next ∷ lines) row below rows are.5 are.1)
    (subst (λ (q : Point). Begun options bytes P more.names q (groups (below ∷ rows))) (sym following) more.begun)
    (λ begins. subst (λ (q : Point). P more.names q (groups (below ∷ rows))) (sym following) (more.holds begins))
  where
    ended : (gs : List Group) → Ended bytes row gs
    ended [] = tt
    ended (group ∷ gs) = (are.2, are.3, are.4)
lines-hold options bytes P by cs still p lines rows are = absurd are

-- nothing is left of nothing
none-left : (ended names : List Name) → [] ≡ ended ++ names → names ≡ []
none-left [] names e = sym e
none-left (name ∷ ended) names e = cc

-- It holds of those of a whole text.
pub rows-hold : (options : ParseOptions) (bytes : List ℕ) (P : List Name → Point → List Group → Type 0) →
    ByGroups options bytes P → (p : Point) (lines : List (List ℕ)) (rows : List Row) →
    AreRows options bytes [] held_leaf.None p lines rows → P [] p (groups rows)
rows-hold options bytes P by p lines rows are =
    let hold : Hold options bytes P [] p rows = lines-hold options bytes P by [] held_leaf.None p lines rows are in
    subst (λ (l : List Name). P l p (groups rows))
    (none-left (open_names (closes_before [] rows)) hold.names hold.left)
    (hold.holds (first-begins options bytes [] held_leaf.None p lines rows (refl, refl) are))

-- The events of a text.

-- the events of groups nest, and go forward from a point
abbrev pub Nests : ParseOptions → List ℕ → Point → List Group → Type 0
Nests options bytes p gs = Onward p (groups_events options bytes gs)

abbrev NestsUnder : ParseOptions → List ℕ → List Name → Point → List Group → Type 0
NestsUnder options bytes names p gs = Under names p (groups_events options bytes gs)

nests-by_groups : (options : ParseOptions) (bytes : List ℕ) → ByGroups options bytes (NestsUnder options bytes)
nests-by_groups options bytes = record {
  none = λ p. record { matches = tt; closed = refl; forward = tt };
  group =
      λ names kept p group gs o keeps on. under-group options bytes names kept p group
      (front_done bytes (first_row group)) (group_done options bytes group)
      (groups_events options bytes gs) o.front_read.is o.ends keeps o.leaf.1.stretch.nested on;
}

-- The groups of the lines of a text nest.
pub rows-nest : (options : ParseOptions) (bytes : List ℕ) (p : Point) (lines : List (List ℕ)) (rows : List Row) →
    AreRows options bytes [] held_leaf.None p lines rows → Nests options bytes p (groups rows)
rows-nest options bytes p lines rows are =
    under-none p (groups_events options bytes (groups rows))
    (rows-hold options bytes (NestsUnder options bytes) (nests-by_groups options bytes) p lines rows are)
