-- What holds of what a line adds, of what is around it, and of such events one after the other holds of all events of
-- the line, and of its group, before its texts are read.
use Rattle.std.proofs.Common.{◌≡◌, ℕ, Bool, true, false, cond, List, [], ◌∷◌, ◌++◌, refl, ap, sym, ◌∙◌, subst}
use Rattle.std.specs.Prelude.{Option, Some, None}
use Rattle.md_engine.specs.declared.configuration.ParseOptions.{ParseOptions}
use Rattle.md_engine.specs.declared.event.Event.{Event}
use Rattle.md_engine.specs.declared.event.Link.{Link}
use Rattle.md_engine.specs.declared.event.Name.TheVariants as n
use Rattle.md_engine.specs.declared.event.Point.{Point}
use Rattle.md_engine.specs.declared.tokenizer.held_leaf.HeldLeaf.{HeldLeaf}
use Rattle.md_meaning.specs.Rest.{Rest}
use Rattle.md_events.specs.Events.Nested.{enter, enter_link, exit, pair}
use Rattle.md_events.specs.Events.Prefix.{is_prefix}
use Rattle.md_leaves.specs.Spanned.{is_code_line}
use Rattle.proof_frame.specs.Change.{ends_of}
use Rattle.proof_frame.specs.EndingName.{ending_name}
use Rattle.proof_frame.specs.LeafName.{LeafName}
use Rattle.proof_frame.specs.RestLine.{rest_line}
use Rattle.proof_frame.specs.Row.{BlankRow, LeafRow, Row, RowKind, TextRow, blank_line, ending_events, is_blank_by}
use Rattle.proof_frame.specs.Row.{last_row}
use Rattle.proof_frame.specs.Row.{span_by}
use Rattle.proof_frame.specs.UnreadText.{linked_lines}
use Rattle.md_registry.specs.Registry.{leaf}
use Rattle.proof_leaf_laws.specs.Headed.{headed_row}
use Rattle.proof_rows.specs.BlockList.{lines_unread, tabled_row_by, text_unread}
use Rattle.proof_rows.specs.Rows.{Headed, LeafLines, Lines, Turned, leaf_events, leaf_unread, row_events, tail_events}
use Rattle.proof_rows.specs.Rows.{text_done}
use Rattle.proof_rows.specs.Unread.{spanned_group, unread_group}
use Rattle.proof_frame.proofs.EachEvent.{Each, each-append}
use Rattle.proof_frame.proofs.FrontNames.{HasFront, ends-are, fronts-are}
use Rattle.proof_frame.proofs.LeafLines.Each.{OfGaps}
use Rattle.proof_frame.proofs.LinedFacts.{AreLined, lined-gaps}
use Rattle.proof_frame.proofs.PrefixNames.{AreFront, ArePrefixes, IsNamed, prefixes-front}
use Rattle.proof_frame.proofs.SubstitutedLemmas.{EachPrefixed}
use Rattle.proof_leaf_laws.proofs.GfmTable.Each.{OfTable}
use Rattle.proof_rows.proofs.GroupLemmas.{under-prefixed}
use Rattle.proof_rows.proofs.GroupLines.{AreLines, AreSpan, Begins, IsHead, IsSingle, IsUnder, span-begins}
use Rattle.proof_rows.proofs.HeadedTable.{headed-is}
use Rattle.proof_rows.proofs.JoinedLeaves.{headed-each, lines-hold}
use Rattle.proof_rows.proofs.KindLemmas.{kind-starts}
use Rattle.proof_rows.proofs.Text.Cuts.{cut-is}
use Rattle.proof_rows.proofs.Text.Names.{OfDefinitions, cut-of}

-- it holds of what is around a line, and of such events one after the other
pub record OfRows (L : List Event → Type 0) : Type 0 where
  pub append : (xs ys : List Event) → L xs → L ys → L (xs ++ ys)
  pub fronts : (es : List Event) → AreFront es → L es
  pub ending : (p q : Point) → L (pair n.LineEnding p q)
  pub blank_ending : (p q : Point) → L (pair n.BlankLineEnding p q)
  pub white : (p q : Point) → L (pair n.SpaceOrTab p q)

-- Around the leaf of a line.

pub front-holds : (L : List Event → Type 0) → OfRows L → (bytes : List ℕ) (row : Row) → HasFront bytes row → L row.front
front-holds L of bytes row h = of.fronts row.front (fronts-are bytes row.change.opens h.0 row.first row.front h.1)

pub tail-holds : (L : List Event → Type 0) → OfRows L → (blank : Bool) (row : Row) →
    L (tail_events (ending_name blank) row)
tail-holds L of blank row =
    of.append (ends_of row.closed_after row.end) (ending_events (ending_name blank) row)
    (of.fronts (ends_of row.closed_after row.end) (ends-are row.closed_after row.end)) (ending blank row.after)
  where
    ending : (blank : Bool) (after : Option Point) →
        L (elim after [ None ↦ [] | Some q ↦ pair (ending_name blank) row.end q ])
    ending blank None = of.fronts [] tt
    ending true (Some q) = of.blank_ending row.end q
    ending false (Some q) = of.ending row.end q

-- with what is between the front of a line and the tail of another
pub around-holds : (L : List Event → Type 0) → OfRows L → (bytes : List ℕ) (row last : Row) (blank : Bool)
    (inside : List Event) →
    HasFront bytes row → L inside → L (row.front ++ inside ++ tail_events (ending_name blank) last)
around-holds L of bytes row last blank inside front h =
    of.append (row.front ++ inside) (tail_events (ending_name blank) last)
    (of.append row.front inside (front-holds L of bytes row front) h) (tail-holds L of blank last)

-- A line that is blank, or of a leaf that always ends on its line.

pub blank-holds : (L : List Event → Type 0) → OfRows L → (line : List ℕ) (p : Point) → L (blank_line line p)
blank-holds L of [] p = of.fronts [] tt
blank-holds L of (b ∷ line) p = of.white p _

-- as its states leave it: what is in it,
pub single-inside : (L : List Event → Type 0) → ((line : List ℕ) (p : Point) → L (blank_line line p)) →
    ((l : LeafName) → (leaf l).ends ≡ true → (options : ParseOptions) (on : HeldLeaf) (r : Rest) (p : Point) →
    (leaf l).starts options on r ≡ true → L ((leaf l).added options on (rest_line r) p)) →
    (options : ParseOptions) (bytes : List ℕ) (row : Row) → IsSingle options bytes row →
    L (leaf_events row.kind row)
single-inside L blank adds options bytes row is = added row.kind refl
  where
    added : (kind : RowKind) → row.kind ≡ kind → L (leaf_events kind row)
    added BlankRow e = subst L (sym (is.is.blank e)) (blank is.line row.first)
    added (LeafRow l) e =
        subst L
        (sym
        (is.is.leaf_is l e ∙ ap (λ (line : List ℕ). (leaf l).added options row.on line row.first) is.is.line_is))
        (adds l (is.ends l e) options row.on is.is.rest row.first
        (kind-starts options row.on is.is.rest l (sym is.is.kind ∙ e)))
    added TextRow e = absurd (is.other e)

-- and all of it
pub single-holds : (L : List Event → Type 0) → OfRows L →
    ((l : LeafName) → (leaf l).ends ≡ true → (options : ParseOptions) (on : HeldLeaf) (r : Rest) (p : Point) →
    (leaf l).starts options on r ≡ true → L ((leaf l).added options on (rest_line r) p)) →
    (options : ParseOptions) (bytes : List ℕ) (row : Row) → IsSingle options bytes row → L (row_events row)
single-holds L of adds options bytes row is =
    around-holds L of bytes row row (is_blank_by row.kind row) (leaf_events row.kind row) is.front
    (single-inside L (blank-holds L of) adds options bytes row is)

-- and once it is set
pub set-holds : (L : List Event → Type 0) → OfRows L →
    ((l : LeafName) → (leaf l).ends ≡ true → (options : ParseOptions) (on : HeldLeaf) (r : Rest) (p : Point) →
    (leaf l).starts options on r ≡ true → L ((leaf l).unread (rest_line r) p)) →
    (options : ParseOptions) (bytes : List ℕ) (row : Row) → IsSingle options bytes row →
    L (tabled_row_by bytes row.kind row)
set-holds L of sets options bytes row is =
    around-holds L of bytes row row (is_blank_by row.kind row) (leaf_unread bytes row.kind row) is.front
    (unread row.kind refl)
  where
    unread : (kind : RowKind) → row.kind ≡ kind → L (leaf_unread bytes kind row)
    unread BlankRow e = subst L (sym (is.is.blank e)) (blank-holds L of is.line row.first)
    unread (LeafRow l) e =
        subst (λ (line : List ℕ). L ((leaf l).unread line row.first)) (sym (is.is.text ∙ is.is.line_is))
        (sets l (is.ends l e) options row.on is.is.rest row.first
        (kind-starts options row.on is.is.rest l (sym is.is.kind ∙ e)))
    unread TextRow e = absurd (is.other e)

-- A text.

-- the lines of a part
pub each-linked : (P : Event → Type 0) → ((p : Point) (link : Link) → P (enter_link n.Data p link)) →
    ((q : Point) → P (exit n.Data q)) → ((es : List Event) → ArePrefixes es → Each P es) → (link : Link) (row : Row)
    (rows : List Row) → EachPrefixed rows → Each P (linked_lines n.Data link row rows)
each-linked P begin end prefix link row [] h = (begin _ _, (end _, tt))
each-linked P begin end prefix link row (next ∷ rows) h = (
  begin _ _,
  (
    end _,
    each-append P next.front (linked_lines n.Data link next rows) (prefix next.front h.0)
        (each-linked P begin end prefix link next rows h.1),
  ),
)

-- one from which definitions are cut
pub text-holds : (L : List Event → Type 0) → OfRows L → OfDefinitions L → (options : ParseOptions) (bytes : List ℕ) →
    ((row : Row) (rows : List Row) → AreLines options bytes row rows → L (lines_unread row rows)) → (row : Row)
    (rows : List Row) → AreLines options bytes row rows → HasFront bytes row → L
    (unread_group options bytes (Lines row rows))
text-holds L of defined options bytes lines row rows are front =
    around-holds L of bytes row (last_row row rows) false (text_unread options bytes row rows) front
    (cut-of L defined options bytes lines row rows (text_unread options bytes row rows)
    (text_done options bytes row rows)
    (cut-is options bytes row rows are))

-- with the line that turns it
pub turned-holds : (L : List Event → Type 0) → OfRows L → (options : ParseOptions) (bytes : List ℕ) (row : Row)
    (rows : List Row) (under : Row) →
    IsUnder options bytes (last_row row rows) under → L (unread_group options bytes (Lines row rows)) →
    L under.inside → L (unread_group options bytes (Turned row rows under))
turned-holds L of options bytes row rows under is text inside =
    of.append (unread_group options bytes (Lines row rows)) (row_events under) text
    (of.append (under.front ++ leaf_events under.kind under)
    (tail_events (ending_name (is_blank_by under.kind under)) under)
    (of.append under.front (leaf_events under.kind under)
    (of.fronts under.front
    (prefixes-front under.front (under-prefixed options bytes (last_row row rows) under is)))
    (subst (λ (k : RowKind). L (leaf_events k under)) (sym is.kind) inside))
    (tail-holds L of (is_blank_by under.kind under) under))

-- The lines of a leaf of several, joined.

pub span-holds : (L : List Event → Type 0) → OfRows L → ((es : List Event) → AreLined es → L es) →
    (options : ParseOptions) (bytes : List ℕ) (row : Row) (rows : List Row) → AreSpan options bytes row rows →
    Begins row → L (spanned_group options bytes (LeafLines row rows))
span-holds L of lined options bytes row rows are begins =
    let last : Row = last_row row rows in
    around-holds L of bytes row last (is_blank_by last.kind last) (span_by (λ (r : Row). r.inside) row rows)
    (span-begins options bytes row rows are).front
    (lines-hold L (lined-gaps L lined of.append of.ending) options bytes row rows are begins)

-- and those of a table with its head
pub headed-holds : (P : Event → Type 0) → OfRows (Each P) → OfTable P → ((p : Point) → P (enter n.GfmTable p)) →
    ((e : Event) → IsNamed is_prefix e → P e) → ((e : Event) → P (record e { name = n.SpaceOrTab })) →
    (options : ParseOptions) (bytes : List ℕ) (row next : Row) (rows : List Row) → IsHead options bytes row next →
    AreSpan options bytes next rows → HasFront bytes row → Each P (spanned_group options bytes (Headed row next rows))
headed-holds P of table begins prefix white options bytes row next rows head are front =
    around-holds (Each P) of bytes row (last_row next rows) false
    (span_by (λ (r : Row). r.inside) (headed_row bytes row) (next ∷ rows)) front
    (headed-each P table begins prefix gaps options bytes row next rows
    (headed-is options bytes row next rows head are).are)
  where
    whitened : (x : Bool) (e : Event) → P e → P (record e { name = cond x n.SpaceOrTab e.name })
    whitened true e h = white e
    whitened false e h = h

    gaps : OfGaps P (Each P)
    gaps = record {
      all = λ es h. h;
      append = of.append;
      ending = of.ending;
      blank = of.blank_ending;
      white = λ e h. whitened (is_code_line e.name) e h;
    }
