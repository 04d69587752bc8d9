-- What the lines of a text are read as, with what follows them: where a line turns them, and where the last one is
-- the head of a table.
use Rattle.md_engine.specs.Progress.{is_whole}
use Rattle.md_engine.specs.declared.tokenizer.held_leaf.HeldLeaf.{HeldLeaf}
use Rattle.md_engine.specs.declared.tokenizer.held_leaf.HeldLeaf.TheVariants as held_leaf
use Rattle.std.proofs.Common.{append_assoc, arith, ◌≡◌, ℕ, ◌<◌, Bool, true, false, cond, ◌&&◌, List, [], ◌∷◌, ◌++◌}
use Rattle.std.proofs.Common.{length, refl, ap, ap₂, sym, ◌∙◌, subst, inl, inr}
use Rattle.std.proofs.lemmas.Bool.Decides.{nat_tests}
use Rattle.std.specs.Prelude.{nat_lt, None, Some}
use Rattle.md_meaning.specs.Leaves.{Opened, LeafResult}
use Rattle.markdown_blocks.proofs.SpelledHeads.{IsOfText, StartsHead, dark-filled, head-read, head_path, heads-dark}
use Rattle.markdown_blocks.proofs.SpelledHeads.{longer-spot, met-dark, span_tail, text-of_text}
use Rattle.proof_rows.proofs.TextProgress.{setext-may, turn-left}
use Rattle.md_registry.proofs.UnderNames.{further-text, heads-table, under-shuts}
use Rattle.proof_frame.specs.HeldLeaf.{may_continue}
use Rattle.proof_rows.specs.Rows.{front_done, Headed, is_further, is_last, takes_head, LeafLines, Turned}
use Rattle.proof_rows.specs.Rows.{line_following, Group, Lines, groups_events, onto_groups, tail_events}
use Rattle.proof_frame.specs.Row.{Row, TextRow, last_row}
use Rattle.proof_leaf_laws.specs.Headed.{headed_done}
use Rattle.proof_leaf_laws.specs.Leaf.GfmTable.{table_leaf}
use Rattle.proof_frame.specs.Leaf.Paragraph.{held_of}
use Rattle.proof_rows.proofs.GroupLines.{kept-of}
use Rattle.proof_rows.proofs.LineSteps.{with_result, longer}
use Rattle.md_registry.proofs.Dispatch.{text-turns}
use Rattle.proof_rows.proofs.RowLeaf.{row-as}
use Rattle.proof_frame.proofs.SpanLaws.{AreAfter, IsLineOf, becomes_after}
use Rattle.proof_frame.specs.LeafName.{GfmTable, LeafName}
use Rattle.md_registry.specs.Registry.{leaf}
use Rattle.md_meaning.specs.Rest.{trim_start, Rest, is_blank}
use Rattle.md_engine.specs.declared.configuration.ParseOptions.{ParseOptions}
use Rattle.md_engine.specs.declared.event.Event.{Event}
use Rattle.md_engine.specs.declared.event.Name.TheVariants as n
use Rattle.md_engine.specs.declared.event.Point.{Point}
use Rattle.md_engine.specs.declared.tokenizer.held_leaf.OpenText.{OpenText}
use Rattle.md_events.specs.Events.Spelled.{Reading, read}
use Rattle.md_meaning.specs.State.{Container, Path, kept, spot}
use Rattle.md_events.proofs.SpelledLemmas.{read-from}
use Rattle.proof_frame.specs.Closed.{close_containers}
use Rattle.proof_rows.specs.Valid.{still_of, reading}
use Rattle.proof_frame.proofs.FrontFacts.{LinePrefix}
use Rattle.proof_frame.proofs.FrontNames.{fronts-done}
use Rattle.proof_frame.proofs.FrontPlaces.{fronts-grow}
use Rattle.proof_frame.proofs.LineTexts.{some-text, text-following}
use Rattle.proof_rows.proofs.Underlines.{further-quiet}
use Rattle.md_registry.proofs.Registry.{laws}
use Rattle.proof_rows.proofs.RowFacts as f
use Rattle.proof_frame.proofs.Enters.{enters}
use Rattle.markdown_blocks.proofs.SpelledPaths.{longer-longer}
use Rattle.md_link_definitions.specs.OpenText.{open_text}
use Rattle.md_link_definitions.specs.Progress.{progress_of, step as further}
use Rattle.md_leaves.specs.HeadingSetext.{may_turn}
use Rattle.markdown_blocks.proofs.SpelledLines.{read-fronts, read-tail}
use Rattle.markdown_blocks.proofs.SpelledGroups.{Follows, IsTurnLeft, JoinsSpan, ReadsSpan, StartsLines, StartsSpan}
use Rattle.markdown_blocks.proofs.SpelledGroups.{StartsText, first_becomes, onto-joined, text_path, text_tail}

-- after what turns a text no leaf is open, so no line continues it
turn-alone : (options : ParseOptions) (bytes : List ℕ) (at : OpenText) (l : LeafName) (under : Row) (rows : List Row) →
    (leaf l).further (held_leaf.Text at) ≡ true → (leaf l).heads ≡ false → IsLineOf options bytes (leaf l) under →
    AreAfter options bytes (leaf l) under rows → rows ≡ []
turn-alone options bytes at l under [] further heads is are = refl
turn-alone options bytes at l under (next ∷ rows) further heads is are =
    let left : next.on ≡ held_leaf.None = are.4 ∙ is.following
    ∙ under-shuts at l further heads options under.on is.rest in
    let may = (laws l).meets options next.on are.6.rest are.6.starts are.5 in
    let bad : true ≡ false = sym may ∙ ap may_continue left in
    absurd (cc)

-- a line that is not empty is one of the text, not one after its end
pub line-inside : (options : ParseOptions) (bytes : List ℕ) (l : LeafName) (p : Point) (row : Row) →
    (is : IsLineOf options bytes (leaf l) row) → is_blank is.rest.bytes ≡ false →
    LinePrefix bytes [] p row.first row.front → nat_lt p.index (length bytes) ≡ true
line-inside options bytes l p row is dark front =
    let inside = text-following bytes is.rest row.first row.end is.at (some-text is.rest dark) in
    let grow = fronts-grow bytes [] p row.first row.front front in
    let less : p.index < length bytes = omega (arith, inside, grow) in grind (arith, nat_tests)

-- a line of text with the one that turns it
turn-lines : (options : ParseOptions) (bytes line : List ℕ) (p : Path) (row : Row) (gs : List Group) (last : Reading) →
    (is : f.IsRow options bytes line row) → row.kind ≡ TextRow →
    (joins : JoinsSpan options bytes (longer p (kept is.rest ∷ [])) row gs last) → (leaf joins.name).heads ≡ false →
    StartsLines options bytes p row (onto_groups row TextRow gs) last
turn-lines options bytes line p row gs last is text joins heads =
    go reads.rows (turn-alone options bytes at joins.name under reads.rows further heads of reads.are) reads.groups_are
    reads.are reads.following
  where
    under : Row
    under = joins.next

    q : Path
    q = longer p (kept is.rest ∷ [])

    rest : Rest
    rest = joins.starts.is.rest

    of : IsLineOf options bytes (leaf joins.name) under
    of = row-as options bytes joins.starts.line under joins.starts.is joins.name joins.starts.kind

    first : LeafResult
    first = first_becomes options bytes joins.name q joins.after rest

    reads : ReadsSpan options bytes joins.name q first under gs last
    reads = joins.starts.reads

    at : OpenText
    at = open_text (further (progress_of row.on) (trim_start is.rest.bytes)) (kept is.rest)

    on : under.on ≡ held_leaf.Text at
    on = joins.on ∙ is.following ∙ ap (line_following options row.on is.rest) text

    further : (leaf joins.name).further (held_leaf.Text at) ≡ true
    further = ap (leaf joins.name).further (sym on) ∙ joins.starts.further

    become : first ≡ (leaf joins.name).becomes options (spot q).leaf rest
    become =
        ap (λ (x : Bool). cond x ((leaf joins.name).becomes options (spot q).leaf rest) (Opened (spot q).leaf))
        (line-inside options bytes joins.name joins.after under of
        (met-dark options bytes joins.starts.line under joins.name at joins.starts.is
        joins.starts.kind on) joins.fronts)

    may : may_turn options under.on ≡ true
    may =
        setext-may options under.on of.rest
        (subst (λ (l : LeafName). (leaf l).starts options under.on of.rest ≡ true)
        (further-text at joins.name further heads) of.starts)

    left : options.constructs.definition ≡ true → is_whole (progress_of (still_of q)) ≡ false
    left defines =
        ap (λ (h : HeldLeaf). is_whole (progress_of h)) (joins.still ∙ sym joins.on ∙ on)
        ∙ turn-left options at (ap (may_turn options) (sym on) ∙ may) defines

    go : (rows : List Row) → rows ≡ [] → gs ≡ LeafLines under rows ∷ reads.below →
        (are : AreAfter options bytes (leaf joins.name) under rows) →
        read bytes
        (reading options
        (with_result options (leaf joins.name).heads q
        (becomes_after options bytes (leaf joins.name) under rows are first)))
        (span_tail under rows ++ groups_events options bytes reads.below) ≡
        last →
        StartsLines options bytes p row (onto_groups row TextRow gs) last
    go (next ∷ rows) none e are following = absurd (cc)
    go [] none e are following = record {
      rows = [];
      turn = Some under;
      below = reads.below;
      groups_are =
          ap (onto_groups row TextRow) e
          ∙ ap₂
          (λ (x y : Bool).
          cond (x && y) (Headed row under [] ∷ reads.below)
          (cond (x && true) (Turned row [] under ∷ reads.below) (Lines row [] ∷ LeafLines under [] ∷ reads.below)))
          joins.further (ap takes_head joins.starts.kind ∙ heads);
      reads = record {
        are = (line, is, text);
        turned = record {
          line = joins.starts.line;
          is = joins.starts.is;
          name = joins.name;
          kind = joins.starts.kind;
          open_leaf = (text-turns at joins.name further heads).ends;
          after = joins.after;
          after_is = joins.after_is;
          ending = joins.ending;
          front = joins.fronts;
          closed_after = joins.closed_after;
          on = joins.on;
          further = joins.further;
          heads = ap takes_head joins.starts.kind ∙ heads;
          quiet =
              further-quiet options bytes joins.starts.line under joins.name at joins.starts.is joins.starts.kind on
              joins.further (ap takes_head joins.starts.kind ∙ heads);
        };
        left = left;
        following =
            ap
            (λ (c : LeafResult).
            read bytes (reading options (with_result options (leaf joins.name).heads q c))
            (span_tail under [] ++ groups_events options bytes reads.below))
            (sym become)
            ∙ following;
      };
    }

-- a line of text that is the head of a table
head-lines : (options : ParseOptions) (bytes line : List ℕ) (p : Path) (row : Row) (gs : List Group) (last : Reading) →
    (is : f.IsRow options bytes line row) → row.kind ≡ TextRow →
    (joins : JoinsSpan options bytes (longer p (kept is.rest ∷ [])) row gs last) → joins.name ≡ GfmTable →
    StartsHead options bytes p row (onto_groups row TextRow gs) last
head-lines options bytes line p row gs last is text joins name = record {
  line = line;
  is = is;
  text = text;
  next = next;
  rows = reads.rows;
  below = reads.below;
  groups_are =
      ap (onto_groups row TextRow) reads.groups_are
      ∙ ap₂
      (λ (x y : Bool).
      cond (x && y) (Headed row next reads.rows ∷ reads.below)
      (cond (is_further next.kind next.on && is_last reads.rows) (Turned row [] next ∷ reads.below)
      (Lines row [] ∷ LeafLines next reads.rows ∷ reads.below)))
      joins.further (ap takes_head starts.kind);
  are = (
    joins.after,
    joins.after_is,
    joins.ending,
    joins.fronts,
    joins.on,
    starts.further,
    of,
    reads.are,
  );
  filled = (dark, dark-filled options bytes next reads.rows reads.are reads.dark);
  at = open_text (further (progress_of row.on) (trim_start is.rest.bytes)) (kept is.rest);
  on = joins.on ∙ is.following ∙ ap (line_following options row.on is.rest) text;
  following =
      ap
      (λ (c : LeafResult).
      read bytes
      (reading options (with_result options true q
      (becomes_after options bytes table_leaf next reads.rows reads.are c)))
      (span_tail next reads.rows ++ groups_events options bytes reads.below))
      (sym become)
      ∙ reads.following;
}
  where
    next : Row
    next = joins.next

    q : Path
    q = longer p (kept is.rest ∷ [])

    starts : StartsSpan options bytes GfmTable q joins.after next gs last
    starts = subst (λ (l : LeafName). StartsSpan options bytes l q joins.after next gs last) name joins.starts

    reads : ReadsSpan options bytes GfmTable q
        (first_becomes options bytes GfmTable q joins.after starts.is.rest) next gs last
    reads = starts.reads

    of : IsLineOf options bytes table_leaf next
    of = row-as options bytes starts.line next starts.is GfmTable starts.kind

    dark : is_blank starts.is.rest.bytes ≡ false
    dark = heads-dark options bytes starts.line next GfmTable starts.is starts.kind starts.further refl

    become : first_becomes options bytes GfmTable q joins.after starts.is.rest ≡
        table_leaf.becomes options (spot q).leaf starts.is.rest
    become =
        ap (λ (x : Bool). cond x (table_leaf.becomes options (spot q).leaf starts.is.rest) (Opened (spot q).leaf))
        (line-inside options bytes GfmTable joins.after next of dark joins.fronts)

-- before a table another text ends
apart-head : (options : ParseOptions) (bytes : List ℕ) (p : Path) (row next : Row) (gs : List Group) (last : Reading) →
    StartsHead options bytes p next gs last → onto_groups row TextRow gs ≡ Lines row [] ∷ gs
apart-head options bytes p row next gs last starts =
    ap (onto_groups row TextRow) starts.groups_are
    ∙ ap (λ (l : List Group). Lines row [] ∷ l) (sym starts.groups_are)

-- a table is read, with what is before it
pub heads-read : (options : ParseOptions) (bytes : List ℕ) (o : Path) (row : Row) (gs : List Group) (last : Reading) →
    StartsHead options bytes o row gs last → IsOfText options (spot o).leaf →
    (opens : List Container) (a : Point) → LinePrefix bytes opens a row.first (front_done bytes row) →
    (start : Reading) → start.text ≡ None → start.leaf ≡ None → enters opens start ≡ reading options o →
    read bytes start (groups_events options bytes gs) ≡ last
heads-read options bytes o row gs last starts of_text opens a front start text shut same =
    let whole : List Event = headed_done bytes row starts.next starts.rows in
    let tail : List Event = span_tail starts.next starts.rows in
    let more : List Event = groups_events options bytes starts.below in
    let new : Reading = reading options
    (head_path options bytes row starts.next starts.rows starts.are (longer o (kept starts.is.rest ∷ []))) in
    ap (λ (gs : List Group). read bytes start (groups_events options bytes gs)) starts.groups_are
    ∙ ap (read bytes start)
    (append_assoc (front_done bytes row ++ whole) tail more ∙ append_assoc (front_done bytes row) whole (tail ++ more))
    ∙ read-from bytes start (enters opens start) (front_done bytes row) (whole ++ (tail ++ more))
    (read-fronts bytes opens a row.first (front_done bytes row) start front text shut)
    ∙ ap (λ (r : Reading). read bytes r (whole ++ (tail ++ more))) same
    ∙ read-from bytes (reading options o) new whole (tail ++ more)
    (head-read options bytes starts.line o row starts.next starts.rows starts.at starts.is starts.text starts.are
    starts.filled starts.on of_text)
    ∙ starts.following

-- a line of text, and what follows
pub starts-lines : (options : ParseOptions) (bytes line : List ℕ) (p : Path) (row : Row) (gs : List Group)
    (last : Reading) →
    (is : f.IsRow options bytes line row) → row.kind ≡ TextRow →
    Follows options bytes (longer p (kept is.rest ∷ [])) row gs last →
    StartsText options bytes p row (onto_groups row TextRow gs) last
starts-lines options bytes line p row gs last is text (inl parts) = inl (record {
  rows = [];
  turn = None;
  below = gs;
  groups_are = parts.apart text;
  reads = record {
    are = (line, is, text);
    turned = tt;
    left = tt;
    following =
        let s : Reading = reading options (longer p (kept is.rest ∷ [])) in
        read-from bytes s (close_containers (length row.closed_after) s) (tail_events n.LineEnding row)
        (groups_events options bytes gs) (read-tail bytes n.LineEnding row s tt refl refl)
        ∙ parts.reads;
  };
})
starts-lines options bytes line p row gs last is text (inr (inr (inl joins))) = go (leaf joins.name).heads refl
  where
    go : (x : Bool) → (leaf joins.name).heads ≡ x → StartsText options bytes p row (onto_groups row TextRow gs) last
    go true heads = inr (head-lines options bytes line p row gs last is text joins (heads-table joins.name heads))
    go false heads = inl (turn-lines options bytes line p row gs last is text joins heads)
starts-lines options bytes line p row gs last is text (inr (inr (inr joins))) = inl (record {
  rows = [];
  turn = None;
  below = gs;
  groups_are = apart-head options bytes (longer p (kept is.rest ∷ [])) row joins.next gs last joins.starts;
  reads = record {
    are = (line, is, text);
    turned = tt;
    left = tt;
    following =
        let q : Path = longer p (kept is.rest ∷ []) in
        let s : Reading = reading options q in
        read-from bytes s s (tail_events n.LineEnding row) (groups_events options bytes gs)
        (read-tail bytes n.LineEnding row s tt refl refl
        ∙ ap (λ (cs : List Container). close_containers (length cs) s) joins.closed_after)
        ∙ heads-read options bytes q joins.next gs last joins.starts
        (subst (IsOfText options) (sym (longer-spot p (kept is.rest ∷ [])))
        (text-of_text options (held_of (spot p).leaf ++ kept is.rest ∷ []))) [] joins.after
        (fronts-done bytes joins.after joins.next.first joins.next.front joins.fronts) s refl refl refl;
  };
})
starts-lines options bytes line p row gs last is text (inr (inl joins)) =
    let below = joins.starts in
    let reads = below.reads in
    let final : Row = last_row joins.next below.rows in
    inl (record {
      rows = joins.next ∷ below.rows;
      turn = below.turn;
      below = below.below;
      groups_are =
          ap (onto_groups row TextRow) below.groups_are
          ∙ onto-joined row joins.next below.rows below.turn below.below joins.closed_after joins.opens;
      reads = record {
        are = (line, is, text, joins.after, joins.after_is, joins.ending, joins.fronts, reads.are);
        turned = reads.turned;
        left =
            subst (IsTurnLeft options below.turn)
            (longer-longer p (kept is.rest ∷ []) (kept-of options bytes joins.next below.rows reads.are)) reads.left;
        following =
            subst
            (λ (x : Path).
            read bytes (reading options (text_path options bytes final below.turn reads.turned x))
            (text_tail final below.turn ++ groups_events options bytes below.below) ≡
            last)
            (longer-longer p (kept is.rest ∷ []) (kept-of options bytes joins.next below.rows reads.are))
            reads.following;
      };
    })
