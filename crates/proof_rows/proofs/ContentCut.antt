-- What content reads of the lines of a text is in the places of these lines: its definitions, and the leaf of the lines
-- that remain.
use Rattle.std.proofs.Common.{◌≡◌, inl, inr, ℕ, zero, suc, ◌^◌, ◌<◌, ◌⊎◌, Bool, true, false, ◌&&◌, cond, List}
use Rattle.std.proofs.Common.{[], ◌∷◌, ◌++◌, length, take, drop, refl, ap, sym, ◌∙◌, subst, append-nil}
use Rattle.std.proofs.Common.{Option, Some, None, arith, length-drop}
use Rattle.std.specs.Prelude.{nat_le, nat_lt}
use Rattle.std.proofs.lemmas.Bool.Decides.{nat_tests}
use Rattle.std.proofs.lemmas.List.{take-append-drop}
use Rattle.md_engine.specs.declared.configuration.ParseOptions.{ParseOptions}
use Rattle.md_engine.specs.declared.event.Event.{Event}
use Rattle.md_engine.specs.declared.event.Name.TheVariants as n
use Rattle.md_engine.specs.declared.event.Point.{Point}
use Rattle.md_engine.specs.Meaning.{Cell}
use Rattle.md_content.specs.ContentReads.{content_events, is_piece_end, settled}
use Rattle.md_content.specs.ContentRule.{following_definition, content_by, content_over, definition_in}
use Rattle.md_content.specs.Paragraph.{text_link}
use Rattle.md_content.specs.ParagraphRule.{paragraph_over}
use Rattle.md_content.proofs.ContentRuleLemmas.{content-unfolds}
use Rattle.md_link_definitions.specs.DefinitionRule.{DefinitionParts, definition_end, definition_events}
use Rattle.md_link_definitions.specs.DefinitionRule.{definition_parts}
use Rattle.md_events.specs.declared.inline.Chunk.{Chunk}
use Rattle.md_events.specs.Events.Nested.{around, enter, exit, pair}
use Rattle.md_events.specs.Substituted.{belongs}
use Rattle.proof_rows.specs.BlockList.{lines_unread, text_unread}
use Rattle.proof_frame.specs.Laid.{LineBreak, laid}
use Rattle.proof_frame.specs.Row.{Row, after_row, breaks_of, chunks_of, ending_events, last_row}
use Rattle.proof_rows.specs.Rows.{after_cut, cut_at_most, cut_by, further_lines, lines_cells}
use Rattle.proof_content_laws.specs.Defined.{defined_unread}
use Rattle.proof_frame.specs.Linked.{linked}
use Rattle.proof_rows.proofs.Defined.Cells.{world-first}
use Rattle.proof_rows.proofs.Defined.Cut.{IsAfter, IsSet, lines-cut}
use Rattle.proof_content_laws.proofs.Defined.Placed.{Before, Fits, bare-front, bared, placed, placed-break, placed-here}
use Rattle.proof_content_laws.proofs.Defined.Takes.{EndIn, end_in-append}
use Rattle.proof_rows.proofs.GroupLines.{first-text, AreLines}
use Rattle.proof_rows.proofs.GroupLemmas.{ReadsContent, are-apart, line-grows, unread-cut}
use Rattle.proof_rows.proofs.JoinedLemmas.{following-is}
use Rattle.proof_frame.proofs.LeafLines.Cuts.{ending-is}
use Rattle.proof_rows.proofs.ParagraphReads.{paragraph-reads}
use Rattle.proof_frame.proofs.SubstitutedLemmas.{AllBelong, CutAt, NextBelongs}

-- Cuts.

-- events that belong to the lines of a break, and others after it
placed-all : (b : LineBreak) (bs : List LineBreak) (mine more : List Event) → AllBelong b.after.index mine →
    placed (b ∷ bs) (mine ++ more) ≡ mine ++ placed (b ∷ bs) more
placed-all b bs [] more h = refl
placed-all b bs (e ∷ mine) more h =
    placed-here b bs e (mine ++ more) h.0 ∙ ap (λ (l : List Event). e ∷ l) (placed-all b bs mine more h.1)

placed-next : (b : LineBreak) (bs : List LineBreak) (more : List Event) → NextBelongs b.after.index more →
    placed (b ∷ bs) more ≡ b.front ++ placed bs more
placed-next b bs [] h = refl
placed-next b bs (e ∷ more) h =
    ap (λ (x : Bool). cond x (e ∷ placed (b ∷ bs) more) (b.front ++ placed bs (e ∷ more))) h

-- events that are cut at the ends of lines are put there by their bytes,
cut-placed : (row : Row) (rows : List Row) (left done : List Event) → CutAt row rows left done →
    placed (breaks_of row rows) left ≡ done
cut-placed row [] left done cut = sym cut
cut-placed row (next ∷ rows) left done cut =
    let b : LineBreak = record { after = after_row row; front = next.front } in
    let bs = breaks_of next rows in
    ap (placed (b ∷ bs)) cut.3
    ∙ placed-all b bs cut.0 cut.1 cut.4
    ∙ ap (λ (l : List Event). cut.0 ++ l)
    (placed-next b bs cut.1 cut.5 ∙ ap (λ (l : List Event). next.front ++ l) (cut-placed next rows cut.1 cut.2 cut.7))
    ∙ sym cut.6

-- and the other way round
record Split (end : ℕ) (es : List Event) : Type 0 where
  mine : List Event
  more : List Event
  is : es ≡ mine ++ more
  here : AllBelong end mine
  following : NextBelongs end more

split : (end : ℕ) (es : List Event) → Split end es
split end [] = record { mine = []; more = []; is = refl; here = tt; following = tt }
split end (e ∷ es) = go (belongs end e) refl (split end es)
  where
    go : (x : Bool) → belongs end e ≡ x → Split end es → Split end (e ∷ es)
    go true h s = record {
      mine = e ∷ s.mine;
      more = s.more;
      is = ap (λ (l : List Event). e ∷ l) s.is;
      here = (h, s.here);
      following = s.following;
    }
    go false h s = record { mine = []; more = e ∷ es; is = refl; here = tt; following = h }

placed-cut : (row : Row) (rows : List Row) (left : List Event) → CutAt row rows left (placed (breaks_of row rows) left)
placed-cut row [] left = refl
placed-cut row (next ∷ rows) left =
    let b : LineBreak = record { after = after_row row; front = next.front } in
    let bs = breaks_of next rows in
    let s = split (after_row row).index left in (
      s.mine,
      s.more,
      placed bs s.more,
      s.is,
      s.here,
      s.following,
      ap (placed (b ∷ bs)) s.is ∙ placed-all b bs s.mine s.more s.here
          ∙ ap (λ (l : List Event). s.mine ++ l) (placed-next b bs s.more s.following),
      placed-cut next rows s.more,
    )

-- Ends of pieces.

-- an event at its own point
same-event : (e : Event) (p : Point) → e.point ≡ p → record e { point = p } ≡ e
same-event e p h = ap (λ (q : Point). record e { point = q }) (sym h)

-- at the end of the last line pieces end in any case
settled-last : (last : Point) (first : Point) (es : List Event) → EndIn last es →
    settled ((record { first = first; after = last }) ∷ []) es ≡ es
settled-last last first [] ends = refl
settled-last last first (e ∷ es) ends =
    go (is_piece_end e) (nat_le last.index e.point.index) refl refl
    (settled-last last first es ends.1)
  where
    chunks : List Chunk
    chunks = (record { first = first; after = last }) ∷ []

    none : (l : List Event) → settled [] l ≡ l
    none [] = refl
    none (x ∷ xs) = refl

    at : (e.point ≡ last) ⊎ (e.point.index < last.index) → nat_le last.index e.point.index ≡ true → e.point ≡ last
    at (inl same) k = same
    at (inr lt) k = absurd (grind (arith, nat_tests))

    go : (x y : Bool) → is_piece_end e ≡ x → nat_le last.index e.point.index ≡ y → settled chunks es ≡ es →
        cond (x && y) (record e { point = last } ∷ settled [] es) (e ∷ settled chunks es) ≡ e ∷ es
    go true true h k more =
        ap (λ (f : Event). f ∷ settled [] es) (same-event e last (at (ends.0 h) k))
        ∙ ap (λ (l : List Event). e ∷ l) (none es)
    go true false h k more = ap (λ (l : List Event). e ∷ l) more
    go false y h k more = ap (λ (l : List Event). e ∷ l) more

-- the ends of other lines are put where their chunks end
settled-laid : (row : Row) (rows : List Row) (es : List Event) → EndIn (last_row row rows).end es →
    settled (chunks_of row rows) es ≡ laid (bared (breaks_of row rows)) es
settled-laid row [] es ends = settled-last row.end row.first es ends
settled-laid row (next ∷ rows) [] ends = refl
settled-laid row (next ∷ rows) (e ∷ es) ends =
    go (is_piece_end e && nat_le (after_row row).index e.point.index) (settled-laid row (next ∷ rows) es ends.1)
    (settled-laid next rows es ends.1)
  where
    f : Event
    f = record e { point = after_row row }

    go : (x : Bool) →
        settled (chunks_of row (next ∷ rows)) es ≡ laid (bared (breaks_of row (next ∷ rows))) es →
        settled (chunks_of next rows) es ≡ laid (bared (breaks_of next rows)) es →
        cond x (f ∷ settled (chunks_of next rows) es) (e ∷ settled (chunks_of row (next ∷ rows)) es) ≡
        cond x (f ∷ laid (bared (breaks_of next rows)) es) (e ∷ laid (bared (breaks_of row (next ∷ rows))) es)
    go true here below = ap (λ (l : List Event). f ∷ l) below
    go false here below = ap (λ (l : List Event). e ∷ l) here

-- Lines after others: what is between them, the last of all, and those from the last of the first ones on.

pub breaks-split : (row : Row) (own : List Row) (next : Row) (more : List Row) →
    breaks_of row (own ++ next ∷ more) ≡
    breaks_of row own ++ ((record { after = after_row (last_row row own); front = next.front }) ∷ breaks_of next more)
breaks-split row [] next more = refl
breaks-split row (x ∷ own) next more =
    ap (λ (l : List LineBreak). (record { after = after_row row; front = x.front }) ∷ l) (breaks-split x own next more)

pub last-split : (row : Row) (own : List Row) (next : Row) (more : List Row) →
    last_row row (own ++ next ∷ more) ≡ last_row next more
last-split row [] next more = refl
last-split row (x ∷ own) next more = last-split x own next more

pub lines-split : (options : ParseOptions) (bytes : List ℕ) (row : Row) (own : List Row) (next : Row)
    (more : List Row) →
    AreLines options bytes row (own ++ next ∷ more) → AreLines options bytes (last_row row own) (next ∷ more)
lines-split options bytes row [] next more h = h
lines-split options bytes row (x ∷ own) next more h = lines-split options bytes x own next more h.7

bared-split : (bs cs : List LineBreak) → bared (bs ++ cs) ≡ bared bs ++ bared cs
bared-split [] cs = refl
bared-split (b ∷ bs) cs = ap (λ (l : List LineBreak). (record { after = b.after; front = [] }) ∷ l) (bared-split bs cs)

-- a line begins before its break, and before the end of all
first-before : (options : ParseOptions) (bytes : List ℕ) (row : Row) (rows : List Row) →
    AreLines options bytes row rows →
    Before row.first (breaks_of row rows) × (row.first.index < (last_row row rows).end.index)
first-before options bytes row [] h = (tt, line-grows options bytes h.0 row h.1 h.2)
first-before options bytes row (next ∷ rows) h =
    let apart = are-apart options bytes row next rows h in
    let more = (first-before options bytes next rows h.7).1 in
    let line = apart.line in
    let ending = apart.ending in
    let front = apart.front in (omega (arith, line, ending), omega (arith, line, ending, front, more))

-- Reading.

-- what content reads of lines, and what is in their places
record Reads (row : Row) (rows : List Row) (es done : List Event) : Type 0 where
  ends : EndIn (last_row row rows).end es
  fits : Fits row.first (laid (bared (breaks_of row rows)) es)
  cut : placed (breaks_of row rows) (laid (bared (breaks_of row rows)) es) ≡ done

-- a paragraph of them
paragraph-cut : (options : ParseOptions) (bytes : List ℕ) (row : Row) (rows : List Row) →
    AreLines options bytes row rows → length bytes < 2 ^ 61 →
    Reads row rows (paragraph_over (lines_cells options bytes row rows) row.first)
    (lines_unread row rows)
paragraph-cut options bytes row rows h small =
    let read = paragraph-reads options bytes small row rows h in
    let bs = breaks_of row rows in
    let all = around n.Paragraph row.first (last_row row rows).end (linked n.Data text_link (chunks_of row rows)) in
    record {
      ends = read.ends;
      fits = subst (Fits row.first) (sym read.laid_are) (omega arith);
      cut = ap (placed bs) read.laid_are
          ∙ cut-placed row rows all (lines_unread row rows) (unread-cut options bytes row rows h);
    }

-- a definition over all of them
defines : (row : Row) (own : List Row) (d : DefinitionParts) →
    IsSet (last_row row own).end d row own →
    Reads row own (definition_events d row.first ++ []) (defined_unread d row own ++ [])
defines row own d set =
    let bs = breaks_of row own in
    let laid_are : laid (bared bs) (definition_events d row.first ++ []) ≡ set.settled ++ [] =
    ap (λ (l : List LineBreak). laid l (definition_events d row.first ++ [])) (sym (append-nil (bared bs)))
    ∙ set.settles [] tt [] in
    record {
      ends = end_in-append (last_row row own).end (definition_events d row.first) [] set.ends tt;
      fits = subst (Fits row.first) (sym laid_are) (set.begins [] tt);
      cut =
          ap (placed bs) laid_are
          ∙ ap (λ (l : List LineBreak). placed l (set.settled ++ [])) (sym (append-nil bs))
          ∙ set.cuts [] tt [] tt;
    }

-- a definition over the first of them, and what is read of the others
follows : (options : ParseOptions) (bytes : List ℕ) (row : Row) (own : List Row) (next : Row) (more : List Row)
    (d : DefinitionParts) (es done : List Event) → AreLines options bytes row (own ++ next ∷ more) →
    definition_end d ≡ (last_row row own).end → IsSet (last_row row (own ++ next ∷ more)).end d row own →
    Reads next more es done →
    Reads row (own ++ next ∷ more)
    (definition_events d row.first ++ (pair n.LineEnding (definition_end d) next.first ++ es))
    (defined_unread d row own ++ (ending_events n.LineEnding (last_row row own) ++ next.front ++ done))
follows options bytes row own next more d es done h end set read =
    let last = last_row row own in
    let two = lines-split options bytes row own next more h in
    let apart = are-apart options bytes last next more two in
    let b : LineBreak = record { after = after_row last; front = next.front } in
    let bs = breaks_of next more in
    let e = definition_end d in
    let at = ap (λ (p : Point). p.index) end in
    let ending = apart.ending in
    let front = apart.front in
    let before : e.index < b.after.index = omega (arith, ending, at) in
    let events = definition_events d row.first in
    let inside = laid (bared bs) es in
    let following : List Event = enter n.LineEnding e ∷ exit n.LineEnding b.after ∷ inside in
    let all = breaks-split row own next more in
    let met : nat_le b.after.index next.first.index ≡ true = grind (arith, nat_tests) in
    let laid_are : laid (bared (breaks_of row (own ++ next ∷ more)))
    (events ++ (pair n.LineEnding e next.first ++ es)) ≡ set.settled ++ following =
    ap (λ (l : List LineBreak). laid l (events ++ (pair n.LineEnding e next.first ++ es)))
    (ap bared all ∙ bared-split (breaks_of row own) (b ∷ bs))
    ∙ set.settles (bared (b ∷ bs)) before (pair n.LineEnding e next.first ++ es)
    ∙ ap
    (λ (x : Bool).
    set.settled ++ (enter n.LineEnding e
    ∷ cond x (exit n.LineEnding b.after ∷ inside) (exit n.LineEnding next.first ∷ laid (bared (b ∷ bs)) es))) met in
    let opens : belongs b.after.index (enter n.LineEnding e) ≡ true = lt-test e.index b.after.index before in
    let shuts : belongs b.after.index (exit n.LineEnding b.after) ≡ true = le-test b.after.index in
    let known = following-is last two.3 two.4 in
    let bare : next.first.index ≡ b.after.index → next.first.vs ≡ 0 → next.front ≡ [] = λ same whole.
    bare-front bytes [] two.3 next.first next.front two.6 refl two.5.whole whole
    (same ∙ ap (λ (p : Point). p.index) known) in
    let ends = ap (λ (r : Row). r.end) (last-split row own next more) in
    let begin = (first-before options bytes next more two.7) in
    record {
      ends =
          end_in-append (last_row row (own ++ next ∷ more)).end events (pair n.LineEnding e next.first ++ es) set.ends
          (subst (λ (p : Point). EndIn p (pair n.LineEnding e next.first ++ es)) (sym ends)
          (λ no. cc, (λ yes. inr begin.1, read.ends)));
      fits = subst (Fits row.first) (sym laid_are) (set.begins following (omega arith));
      cut =
          ap (placed (breaks_of row (own ++ next ∷ more))) laid_are
          ∙ ap (λ (l : List LineBreak). placed l (set.settled ++ following)) all
          ∙ set.cuts (b ∷ bs) before following (omega arith)
          ∙ ap (λ (l : List Event). defined_unread d row own ++ l)
          (placed-here b bs (enter n.LineEnding e) (exit n.LineEnding b.after ∷ inside) opens
          ∙ ap (λ (l : List Event). enter n.LineEnding e ∷ l)
          (placed-here b bs (exit n.LineEnding b.after) inside shuts
          ∙ ap (λ (l : List Event). exit n.LineEnding b.after ∷ l)
          (placed-break b bs next.first inside read.fits front begin.0 bare
          ∙ ap (λ (l : List Event). next.front ++ l) read.cut))
          ∙ ap (λ (p : Point). enter n.LineEnding p ∷ exit n.LineEnding b.after ∷ next.front ++ done) end
          ∙ ap (λ (p : Point). enter n.LineEnding last.end ∷ exit n.LineEnding p ∷ next.front ++ done) known
          ∙ ap (λ (l : List Event). (l ++ next.front) ++ done) (sym (ending-is n.LineEnding last two.3 two.4)));
    }
  where
    lt-test : (i j : ℕ) → i < j → nat_lt i j ≡ true
    lt-test i j lt = grind (arith, nat_tests)

    le-test : (i : ℕ) → nat_le i i ≡ true
    le-test i = grind (arith, nat_tests)

-- by what follows a definition
following : (options : ParseOptions) (bytes : List ℕ) (more : Row → List Row → List Event) (row : Row)
    (own rest : List Row) (d : DefinitionParts) → AreLines options bytes row (own ++ rest) →
    IsAfter options bytes d rest → definition_end d ≡ (last_row row own).end →
    IsSet (last_row row (own ++ rest)).end d row own →
    ((next : Row) (below : List Row) → length below < length rest → AreLines options bytes next below →
    Reads next below (content_over options (lines_cells options bytes next below) next.first) (more next below)) →
    Reads row (own ++ rest) (content_by (Some d) (content_over options)
    (lines_cells options bytes row (own ++ rest)) row.first)
    (defined_unread d row own ++ after_cut more (last_row row own) rest)
following options bytes more row own [] d h rest end set further =
    let all : own ++ [] ≡ own = append-nil own in
    subst (λ (l : List Row). Reads row l (content_by (Some d) (content_over options) [] row.first)
    (defined_unread d row own ++ [])) (sym all)
    (subst
    (λ (l : List Cell).
    Reads row own (definition_events d row.first ++ following_definition (content_over options) l (definition_end d))
    (defined_unread d row own ++ [])) (sym rest)
    (defines row own d (subst (λ (l : List Row). IsSet (last_row row l).end d row own) all set)))
following options bytes more row own (next ∷ below) d h rest end set further =
    let two = lines-split options bytes row own next below h in
    let es = content_over options (lines_cells options bytes next below) next.first in
    subst
    (λ (l : List Cell).
    Reads row (own ++ next ∷ below)
    (definition_events d row.first ++ following_definition (content_over options) l (definition_end d))
    (defined_unread d row own ++ (ending_events n.LineEnding (last_row row own) ++ next.front ++ more next below)))
    (sym rest.1)
    (follows options bytes row own next below d es (more next below) h end set
    (further next below (omega arith) two.7))

-- Content reads lines as definitions, and a paragraph of what remains.
content-is : (options : ParseOptions) (bytes : List ℕ) → length bytes < 2 ^ 61 → (n : ℕ) (row : Row) (rows : List Row) →
    AreLines options bytes row rows → length rows < n →
    Reads row rows (content_over options (lines_cells options bytes row rows) row.first)
    (cut_at_most defined_unread lines_unread options bytes n row rows)
content-is options bytes small zero row rows h lt = absurd (omega (arith, lt))
content-is options bytes small (suc most) row rows h lt =
    subst (λ (l : List Event). Reads row rows l
    (cut_at_most defined_unread lines_unread options bytes (suc most) row rows))
    (sym (content-unfolds options cells row.first))
    (go (definition_in options cells) refl
    (λ next below shorter lines. content-is options bytes small most next below lines shorter))
  where
    cells : List Cell
    cells = lines_cells options bytes row rows

    more : Row → List Row → List Event
    more = cut_at_most defined_unread lines_unread options bytes most

    Of : Option DefinitionParts → Type 0
    Of o =
        Reads row rows (content_by o (content_over options) cells row.first)
        (cut_by defined_unread lines_unread more o row rows)

    in-parts : (d : DefinitionParts) → definition_in options cells ≡ Some d → definition_parts cells ≡ Some d
    in-parts d e = on options.constructs.definition e
      where
        on : (x : Bool) → cond x (definition_parts cells) None ≡ Some d → definition_parts cells ≡ Some d
        on true e = e
        on false e = let bad : (let o : Option DefinitionParts = None in o) ≡ Some d = e in cc

    go : (o : Option DefinitionParts) → definition_in options cells ≡ o →
        ((next : Row) (below : List Row) → length below < most → AreLines options bytes next below →
        Reads next below (content_over options (lines_cells options bytes next below) next.first) (more next below)) →
        Of o
    go None e further = paragraph-cut options bytes row rows h small
    go (Some d) e further =
        let cut = lines-cut options bytes small row rows h d (in-parts d e) in
        let k = further_lines d row in
        let all : take k rows ++ drop k rows ≡ rows = take-append-drop k rows in
        subst
        (λ (l : List Row).
        Reads row l (content_by (Some d) (content_over options) (lines_cells options bytes row l) row.first)
        (defined_unread d row (take k rows) ++ after_cut more (last_row row (take k rows)) (drop k rows)))
        all
        (following options bytes more row (take k rows) (drop k rows) d
        (subst (AreLines options bytes row) (sym all) h) cut.rest cut.end
        (subst (λ (l : List Row). IsSet (last_row row l).end d row (take k rows)) (sym all) cut.set)
        (λ next below shorter lines.
        further next below
        (let size = length-drop k rows in omega (arith, size, lt, shorter)) lines))

-- What content reads of the lines of a text, cut at the ends of these lines, is in their places.
pub content-cut : (options : ParseOptions) (bytes : List ℕ) (row : Row) (rows : List Row) →
    AreLines options bytes row rows →
    CutAt row rows (content_events bytes options (chunks_of row rows)) (text_unread options bytes row rows)
unfolding content_events
content-cut options bytes row rows h =
    let chunks = chunks_of row rows in
    let cells = lines_cells options bytes row rows in
    let small = (first-text options bytes row rows h).1.small in
    let read = content-is options bytes small (suc (length rows)) row rows h (omega arith) in
    let events : content_events bytes options chunks ≡
    laid (bared (breaks_of row rows)) (content_over options cells row.first) =
    ap (λ (p : Point). settled chunks (content_over options cells p)) (world-first options bytes row rows h)
    ∙ settled-laid row rows (content_over options cells row.first) read.ends in
    subst (λ (l : List Event). CutAt row rows l (text_unread options bytes row rows)) (sym events)
    (subst (CutAt row rows (laid (bared (breaks_of row rows)) (content_over options cells row.first))) read.cut
    (placed-cut row rows (laid (bared (breaks_of row rows)) (content_over options cells row.first))))

-- So the reader of content gives it.
pub content-reads : (options : ParseOptions) (bytes : List ℕ) →
    ReadsContent options bytes (λ content chunks events. events ≡ content_events bytes options chunks)
content-reads options bytes row rows h answer is =
    subst (λ (l : List Event). CutAt row rows l (text_unread options bytes row rows)) (sym is)
    (content-cut options bytes row rows h)
