-- What the events of one line are read as, with what follows it: what the line does to the containers and the leaf
-- that are open.
use Rattle.md_engine.specs.Progress.{is_whole}
use Rattle.md_engine.specs.declared.tokenizer.held_leaf.HeldLeaf.TheVariants as held_leaf
use Rattle.std.proofs.Common.{◌≡◌, ◌≢◌, ℕ, Bool, true, false, cond, ◌&&◌, List, [], ◌∷◌, ◌++◌, not, length}
use Rattle.std.proofs.Common.{refl, ap, ap₂, sym, ◌∙◌, subst, append_assoc, inl, inr}
use Rattle.std.specs.Prelude.{nat_lt, None, Option, Some}
use Rattle.md_meaning.specs.Leaves.{Finished, Opened, LeafResult}
use Rattle.markdown_blocks.proofs.SpelledGroups.{IsTurnLeft, Follows, IsTurned, Means, Reads, ReadsSpan, StartsSpan}
use Rattle.markdown_blocks.proofs.SpelledGroups.{text_path, text_tail, first_becomes, reading-became, StartsText}
use Rattle.markdown_blocks.proofs.SpelledGroups.{starts-alike}
use Rattle.proof_frame.specs.HeldLeaf.{kind_of_leaf, takes_lazy}
use Rattle.proof_frame.specs.Leaf.Paragraph.{open_lines}
use Rattle.proof_content_laws.specs.Defined.{then_front}
use Rattle.md_registry.specs.Registry.{further_of, leaf, turn_leaf}
use Rattle.proof_rows.specs.Rows.{front_done, group_done, is_further, onto_span, onto_leaf, takes_head, Group, Single}
use Rattle.proof_rows.specs.Rows.{groups, groups_events, is_lazy, is_text, leaf_done, line_kind, onto_groups}
use Rattle.proof_rows.proofs.GroupLines.{AreLines, kept-of, line-of}
use Rattle.proof_rows.proofs.LineSteps.{becomes_by, renewed-spot, with_result, contained_at, continues_further}
use Rattle.proof_rows.proofs.LineSteps.{continues_lazy, longer, path_by, renewed, spot_by, step-contained}
use Rattle.md_registry.proofs.OpenSpan.{TurnsText}
use Rattle.md_registry.proofs.Dispatch.{text-turns}
use Rattle.proof_rows.proofs.RowLeaf.{EndsOnLine, block_of, row-facts}
use Rattle.proof_frame.proofs.SpanLaws.{IsLineOf}
use Rattle.proof_rows.proofs.StepAfter.{IsContinued, further-unlazy, proceeds-on, lazy-text}
use Rattle.markdown_blocks.proofs.SpelledHeads.{IsOfText, met-dark, none-of_text}
use Rattle.proof_frame.specs.LeafName.{LeafName}
use Rattle.proof_rows.proofs.TextGroups.{text_group}
use Rattle.md_engine.specs.declared.configuration.ParseOptions.{ParseOptions}
use Rattle.md_engine.specs.declared.event.Event.{Event}
use Rattle.md_engine.specs.declared.event.Point.{Point}
use Rattle.md_engine.specs.declared.tokenizer.held_leaf.OpenText.{OpenText}
use Rattle.md_meaning.specs.Rest.{Rest}
use Rattle.md_events.specs.Events.Spelled.{Reading, read}
use Rattle.md_meaning.specs.State.{At, Container, ParagraphLine, Leaf, NoLeaf, OpenParagraph, Path, Innermost, cut}
use Rattle.md_meaning.specs.State.{kept, spot, texts}
use Rattle.md_meaning.specs.Step.{became, step}
use Rattle.md_meaning.specs.Tree.{Block}
use Rattle.md_events.proofs.SpelledLemmas.{read-from}
use Rattle.proof_frame.specs.TextLines.{text_leaf}
use Rattle.proof_frame.specs.Change.{Change}
use Rattle.proof_frame.specs.Closed.{close_containers}
use Rattle.proof_rows.specs.Fronted.{Contained, rest_from}
use Rattle.proof_frame.specs.RestLine.{rest_line}
use Rattle.proof_rows.specs.WithoutMdx.{IsWithoutMdx}
use Rattle.proof_frame.specs.Row.{BlankRow, LeafRow, Row, RowKind, TextRow, ending_of, last_row, is_blank_row}
use Rattle.proof_rows.specs.Valid.{IsPlain, containers_of, still_of, reading}
use Rattle.proof_rows.proofs.ContainedLemmas.{contained-shapes}
use Rattle.proof_frame.proofs.FrontFacts.{LinePrefix}
use Rattle.markdown_blocks.proofs.LastLine.{step_over}
use Rattle.proof_rows.proofs.RowFacts as f
use Rattle.proof_frame.proofs.LeafFacts.{shown}
use Rattle.proof_rows.proofs.Text.Reads.{text-read}
use Rattle.proof_frame.proofs.PrefixFacts.{begins}
use Rattle.proof_rows.proofs.Turned.CutReads.{then_turned, turned-read}
use Rattle.proof_rows.proofs.Turned.Under.{under-text}
use Rattle.proof_frame.proofs.Enters.{enters}
use Rattle.markdown_blocks.proofs.SpelledPaths.{AreShapes, close_containers-between, following-following, longer-with}
use Rattle.markdown_blocks.proofs.SpelledPaths.{new-path, open-none, open_path, reading-longer, reading-with, spot-with}
use Rattle.markdown_blocks.proofs.SpelledPaths.{with_spot}
use Rattle.markdown_blocks.proofs.SpelledLines.{ending-role, kind-name, line-is, no-joins, other-kind, read-fronts}
use Rattle.markdown_blocks.proofs.SpelledLines.{read-open, shown-leaf, single-reads, text-kind}
use Rattle.markdown_blocks.proofs.SpelledSpans.{starts-read, became-none, became-open, became-with, span-alike}
use Rattle.markdown_blocks.proofs.SpelledSpans.{span-rows}
use Rattle.markdown_blocks.proofs.SpelledTexts.{heads-read, line-inside, starts-lines}
use Rattle.md_link_definitions.specs.Progress.{progress_of}

-- The lines of a text, with the one that turns it if one does.

-- their events
text-parts : (options : ParseOptions) (bytes : List ℕ) (row : Row) (rows : List Row) (turn : Option Row)
    (gs : List Group) →
    groups_events options bytes (text_group turn row rows ∷ gs) ≡
    (front_done bytes row ++ group_done options bytes (text_group turn row rows) ++ text_tail (last_row row rows) turn)
    ++ groups_events options bytes gs
text-parts options bytes row rows None gs = refl
text-parts options bytes row rows (Some under) gs = refl

-- Where no leaf was open, a text that is turned is the definitions at its front and the block of the lines after
-- them.
reading-turned : (options : ParseOptions) (o : Path) (lines : List ParagraphLine) (r : Rest) (l : LeafName) →
    TurnsText l →
    (leaf l).heads ≡ false → (spot o).leaf ≡ NoLeaf →
    reading options
    (with_result options (leaf l).heads (longer o lines) ((leaf l).becomes options (spot (longer o lines)).leaf r)) ≡
    record (reading options o) { here = then_turned options (reading options o).here (texts lines) r }
reading-turned options o lines r l turns heads none =
    ap
    (λ (x : Bool).
    reading options (with_result options x (longer o lines)
    ((leaf l).becomes options (spot (longer o lines)).leaf r))) heads
    ∙ ap (λ (x : Path). reading options (with_result options false x ((leaf l).becomes options (spot x).leaf r)))
    (longer-with o lines none)
    ∙ ap (λ (s : Innermost). reading options (with_result options false held ((leaf l).becomes options s.leaf r)))
    open_text
    ∙ ap (λ (become : LeafResult). reading options (with_result options false held become))
    (turns.becomes options lines r)
    ∙ ap (reading options)
    (became-with options false held (Finished block)
    ∙ ap (λ (s : Innermost). with_spot held (λ bs. became (then_front options bs s.leaf) (Finished block))) open_text
    ∙ following-following o (λ bs. At (record { here = bs; leaf = text_leaf.held lines }))
    (λ bs. became (then_front options bs (text_leaf.held lines)) (Finished block)))
    ∙ reading-with options o (λ bs. became (then_front options bs (text_leaf.held lines)) (Finished block)) none
  where
    held : Path
    held = with_spot o (λ bs. record { here = bs; leaf = text_leaf.held lines })

    open_text : spot held ≡ record { here = (spot o).here; leaf = text_leaf.held lines }
    open_text = spot-with o (λ bs. record { here = bs; leaf = text_leaf.held lines })

    block : Block
    block = turn_leaf.block (cut options (texts lines)).1 r

-- so all of it is read as this
text-whole : (options : ParseOptions) (bytes : List ℕ) (o : Path) (row : Row) (rows : List Row) (turn : Option Row) →
    (spot o).leaf ≡ NoLeaf → (are : AreLines options bytes row rows) →
    (turned : IsTurned options bytes (last_row row rows) turn) →
    IsTurnLeft options turn (longer o (kept-of options bytes row rows are)) →
    read bytes (reading options o) (group_done options bytes (text_group turn row rows)) ≡
    reading options
    (text_path options bytes (last_row row rows) turn turned (longer o (kept-of options bytes row rows are)))
text-whole options bytes o row rows None none are turned left =
    text-read options bytes row rows are (reading options o) refl refl
    ∙ sym (reading-longer options o (kept-of options bytes row rows are) none)
text-whole options bytes o row rows (Some under) none are turned left =
    let text = under-text options bytes row rows under are turned in
    turned-read options bytes row rows under are turned
    (λ on.
    sym
    (ap (λ (p : Path). is_whole (progress_of (still_of p))) (longer-with o (kept-of options bytes row rows are) none)
    ∙ ap (λ (s : Innermost). is_whole (progress_of (kind_of_leaf s.leaf)))
    (spot-with o (λ bs. record { here = bs; leaf = text_leaf.held (kept-of options bytes row rows are) })))
    ∙ left on)
    (reading options o) refl refl
    ∙ sym
    (reading-turned options o (kept-of options bytes row rows are) turned.is.rest turned.name
    (text-turns text.0 turned.name text.1 text.2) text.2 none)

-- One line, and what follows.

-- a leaf that takes lazy lines is text
lazy-open : (open_leaf : Leaf) → takes_lazy (kind_of_leaf open_leaf) ≡ true →
    (at : OpenText) × (kind_of_leaf open_leaf ≡ held_leaf.Text at)
lazy-open (OpenParagraph lines) lazy = (open_lines lines, refl)
lazy-open _ lazy = cc

abbrev pub MeansLine : ParseOptions → List ℕ → Path → Point → Row → List Group → Reading → Type 0
MeansLine options bytes p a row gs last =
    Means options bytes p a (is_lazy (still_of p) row.change.opens row.kind) (is_further row.kind row.on) row gs last

-- A line of the text, by what it does to what is open before it.
module _ (options : ParseOptions) (bytes : List ℕ) (p : Path) (a : Point) (line : List ℕ) (row : Row)
    (is : f.IsLine options bytes (containers_of p) (still_of p) a line row) where
  -- what it does to the containers, and what is left of it
  abbrev here : Contained
  here = contained_at options p (rest_from a line)

  -- its kind, and whether it continues a leaf of several lines or lazily the text, are those of the line definition
  kind-is : row.kind ≡ line_kind options here.on here.rest
  kind-is = line-is options bytes (containers_of p) (still_of p) a line row is

  further-same : is_further row.kind row.on ≡ continues_further options here
  further-same = ap₂ is_further kind-is is.on

  lazy-same : is_lazy (still_of p) row.change.opens row.kind ≡ continues_lazy options p here
  lazy-same =
      ap (λ (x : Change). is_lazy (still_of p) x.opens row.kind) is.change
      ∙ ap (is_lazy (still_of p) here.change.opens) kind-is

  -- the containers that stay and those that end are those that are open
  shapes-are : AreShapes here.change.stays here.change.closes p
  shapes-are = contained-shapes options (containers_of p) (still_of p) (rest_from a line)

  -- what is open after the containers of the line, where it continues no leaf
  abbrev opened : Path
  opened = open_path options p here

  -- and what the line makes of it, by its kind
  abbrev leads_to : RowKind → Path
  leads_to kind = with_spot opened (λ bs. spot_by options bs [] here.rest kind)

  -- no leaf is open there
  opened-none : (spot opened).leaf ≡ NoLeaf
  opened-none = open-none options p here

  -- a line of a leaf of several
  abbrev leaf-line : (l : LeafName) → row.kind ≡ LeafRow l → (leaf l).ends ≡ false → IsLineOf options bytes (leaf l) row
  leaf-line l e ends =
      line-of options bytes row
      (record {
        line = rest_line here.rest;
        is = is.is;
        name = l;
        kind = e;
        open_leaf = ends;
        front = (a, is.front, is.front_read);
      })

  -- where it continues no leaf of several lines, it is a line like any other, also after the end of the text
  step-same : (over : Bool) → continues_further options here ≡ false →
      step_over options over p (rest_from a line) ≡ step options p (rest_from a line)
  step-same over e =
      ap
      (λ (t : Bool).
      cond (over && t) (renewed here.change.stays p) (step options p (rest_from a line))) e
      ∙ by over
    where
      by : (x : Bool) →
          cond (x && false) (renewed here.change.stays p) (step options p (rest_from a line)) ≡
          step options p (rest_from a line)
      by true = refl
      by false = refl

  -- one that is no text, and no line of a leaf of several, is read as its block
  single-means : (gs : List Group) (last : Reading) → row.kind ≢ TextRow → EndsOnLine row.kind →
      Follows options bytes (leads_to row.kind) row gs last →
      Reads options bytes p row.change.closes (Single row ∷ gs) last
  single-means gs last other ends further =
      single-reads options bytes p here row gs last (leads_to row.kind) (ending_of row.kind row)
      (leaf_done bytes row.kind row) shapes-are is.change a is.front_read.is
      (λ s same.
      ap (λ (x : Reading). read bytes x (leaf_done bytes row.kind row)) same
      ∙ (row-facts options bytes (rest_line here.rest) row is.is other ends).reads (reading options opened)
      refl refl
      ∙ ap (λ (r : Rest). shown (block_of row.kind r) (reading options opened)) is.rest_is
      ∙ shown-leaf options opened here.rest row.kind other
      (subst EndsOnLine refl ends)
      ∙ sym (reading-with options opened (λ bs. spot_by options bs [] here.rest row.kind) opened-none))
      (ending-role (is_blank_row row)) (no-joins options bytes (rest_line here.rest)
      (leads_to row.kind) row gs last is.is
      (other-kind row.kind other) ends further)

  -- one of text is read with the lines that continue it, and with the one that turns it
  text-means : (gs : List Group) (last : Reading) →
      StartsText options bytes opened row (onto_groups row TextRow gs) last →
      Reads options bytes p row.change.closes (onto_groups row TextRow gs) last
  text-means gs last (inr starts) =
      let start : Reading = close_containers (length row.change.closes) (reading options p) in
      heads-read options bytes opened row (onto_groups row TextRow gs) last starts
      (subst (IsOfText options) (sym opened-none) (none-of_text options)) row.change.opens a is.front_read.is start
      (close_containers-between (length row.change.closes) (reading options p) refl refl).0
      (close_containers-between (length row.change.closes) (reading options p) refl refl).1
      (read-open options p here row shapes-are is.change)
  text-means gs last (inl starts) =
      let start : Reading = close_containers (length row.change.closes) (reading options p) in
      let begin : Reading = enters row.change.opens start in
      let text = close_containers-between (length row.change.closes) (reading options p) refl refl in
      let reads = starts.reads in
      let final : Row = last_row row starts.rows in
      let whole : List Event = group_done options bytes (text_group starts.turn row starts.rows) in
      let tail : List Event = text_tail final starts.turn in
      let new : Reading = reading options
      (text_path options bytes final starts.turn reads.turned
      (longer opened (kept-of options bytes row starts.rows reads.are))) in
      ap (λ (l : List Group). read bytes start (groups_events options bytes l)) starts.groups_are
      ∙ ap (read bytes start)
      (text-parts options bytes row starts.rows starts.turn starts.below
      ∙ append_assoc (front_done bytes row ++ whole) tail (groups_events options bytes starts.below))
      ∙ read-from bytes start new (front_done bytes row ++ whole) (tail ++ groups_events options bytes starts.below)
      (read-from bytes start begin (front_done bytes row) whole
      (read-fronts bytes row.change.opens a row.first (front_done bytes row) start is.front_read.is text.0 text.1)
      ∙ ap (λ (x : Reading). read bytes x whole) (read-open options p here row shapes-are is.change)
      ∙ text-whole options bytes opened row starts.rows starts.turn opened-none reads.are reads.turned reads.left)
      ∙ reads.following

  -- one of a leaf of several is read with the lines that continue that
  span-means : (gs : List Group) (last : Reading) (l : LeafName) → row.kind ≡ LeafRow l → (leaf l).ends ≡ false →
      continues_further options here ≡ false →
      Follows options bytes (leads_to row.kind) row gs last →
      Reads options bytes p row.change.closes (onto_span row gs) last
  span-means gs last l e ends begins further =
      let become : LeafResult = (leaf l).becomes options NoLeaf is.is.rest in
      let heads : Bool = (leaf (further_of l)).heads in
      let on : leads_to row.kind ≡ with_result options heads opened become =
      ap leads_to e ∙ sym (became-none options heads opened ((leaf l).becomes options NoLeaf here.rest) opened-none)
      ∙ ap (λ (r : Rest). with_result options heads opened ((leaf l).becomes options NoLeaf r)) (sym is.rest_is) in
      starts-read options bytes l opened row (onto_span row gs) last ends (leaf-line l e ends)
      (sym (ap (λ (k : RowKind). is_further k row.on) e) ∙ further-same ∙ begins) opened-none a is.front_read.is
      (close_containers (length row.change.closes) (reading options p))
      (close_containers-between (length row.change.closes) (reading options p) refl refl).0
      (close_containers-between (length row.change.closes) (reading options p) refl refl).1
      (read-open options p here row shapes-are is.change)
      (span-rows options bytes (further_of l) l opened become row gs last (ap is_text e) refl (leaf-line l e ends)
      (subst (λ (x : Path). Follows options bytes x row gs last) on further))

  -- so a line of any kind that continues no leaf is read with what follows
  begun-means : (gs : List Group) (last : Reading) (kind : RowKind) → row.kind ≡ kind →
      continues_further options here ≡ false →
      Follows options bytes (leads_to row.kind) row gs last →
      Reads options bytes p row.change.closes (onto_groups row kind gs) last
  begun-means gs last BlankRow e begins further =
      single-means gs last (λ h. let bad : BlankRow ≡ TextRow = sym e ∙ h in cc)
      (λ l h. let bad : BlankRow ≡ LeafRow l = sym e ∙ h in cc) further
  begun-means gs last (LeafRow l) e begins further = leaf_by (leaf l).ends refl
    where
      leaf_by : (x : Bool) → (leaf l).ends ≡ x → Reads options bytes p row.change.closes (onto_leaf x row gs) last
      leaf_by true ends =
          single-means gs last (λ h. let bad : LeafRow l ≡ TextRow = sym e ∙ h in cc)
          (λ m h.
          let same : l ≡ m = kind-name l m (sym e ∙ h) in
          subst (λ (k : LeafName). (leaf k).ends ≡ true) same ends)
          further
      leaf_by false ends = span-means gs last l e ends begins further
  begun-means gs last TextRow e begins further =
      let on : leads_to row.kind ≡ longer opened (kept is.is.rest ∷ []) =
      ap leads_to e ∙ sym (longer-with opened (kept here.rest ∷ []) opened-none)
      ∙ ap (λ (r : Rest). longer opened (kept r ∷ [])) (sym is.rest_is) in
      text-means gs last
      (starts-lines options bytes (rest_line here.rest) opened row gs last is.is e
      (subst (λ (x : Path). Follows options bytes x row gs last) on further))

  -- after the end of the text no line turns one
  still-over : nat_lt a.index (length bytes) ≡ false → (proceeds : IsContinued options p here) → (x : Bool) →
      takes_lazy (still_of p) ≡ x → x ≡ false
  still-over past proceeds false lazy = refl
  still-over past proceeds true lazy =
      let text = lazy-open (spot p).leaf lazy in
      let further : (leaf proceeds.is.name).further (held_leaf.Text text.0) ≡ true =
      ap (leaf proceeds.is.name).further (sym text.1) ∙ proceeds.is.further in
      let front : LinePrefix bytes [] a row.first row.front =
      subst (λ (cs : List Container). LinePrefix bytes cs a row.first row.front)
      (ap (λ (x : Change). x.opens) is.change ∙ proceeds.opens) is.front in
      let inside : nat_lt a.index (length bytes) ≡ true = line-inside options bytes proceeds.is.name a row
      (leaf-line proceeds.is.name (kind-is ∙ proceeds.kind) proceeds.is.ends)
      (met-dark options bytes (rest_line here.rest) row proceeds.is.name text.0 is.is (kind-is ∙ proceeds.kind)
      (is.on ∙ proceeds.on ∙ text.1)) front in
      let bad : true ≡ false = sym inside ∙ past in
      cc

  -- so none takes a lazy line there
  open-over : nat_lt a.index (length bytes) ≡ false → (proceeds : IsContinued options p here) →
      takes_lazy (still_of (renewed here.change.stays p)) ≡ false
  open-over past proceeds =
      ap (λ (s : Innermost). takes_lazy (kind_of_leaf s.leaf)) (renewed-spot here.change.stays p)
      ∙ still-over past proceeds (takes_lazy (still_of p)) refl

  -- what a line makes of the leaf of several lines that it continues
  further-step : (over : Bool) → IsWithoutMdx options → IsPlain p → nat_lt a.index (length bytes) ≡ not over →
      continues_further options here ≡ true → (proceeds : IsContinued options p here) →
      step_over options over p (rest_from a line) ≡
      with_result options (leaf proceeds.is.name).heads (renewed here.change.stays p)
      (first_becomes options bytes proceeds.is.name p a is.is.rest)
  further-step true built plain in_text f proceeds =
      ap (λ (x : Bool). cond x (renewed here.change.stays p) (step options p (rest_from a line))) f
      ∙ sym (became-open options (leaf proceeds.is.name).heads (renewed here.change.stays p)
      (open-over in_text proceeds))
      ∙ ap (λ (s : Innermost). with_result options (leaf proceeds.is.name).heads
      (renewed here.change.stays p) (Opened s.leaf))
      (renewed-spot here.change.stays p)
      ∙ ap
      (λ (x : Bool).
      with_result options (leaf proceeds.is.name).heads (renewed here.change.stays p)
      (cond x ((leaf proceeds.is.name).becomes options (spot p).leaf is.is.rest) (Opened (spot p).leaf)))
      (sym in_text)
  further-step false built plain in_text f proceeds =
      step-contained options p (rest_from a line) built plain
      ∙ ap₂ (path_by options p here)
      (further-unlazy (still_of p) here.on here.change.opens (line_kind options here.on here.rest) f) f
      ∙ ap
      (λ (k : RowKind).
      with_result options (takes_head k) (renewed here.change.stays p) (becomes_by options (spot p).leaf here.rest k))
      proceeds.kind
      ∙ ap
      (λ (r : Rest).
      with_result options (leaf proceeds.is.name).heads (renewed here.change.stays p)
      ((leaf proceeds.is.name).becomes options (spot p).leaf r))
      (sym is.rest_is)
      ∙ ap
      (λ (x : Bool).
      with_result options (leaf proceeds.is.name).heads (renewed here.change.stays p)
      (cond x ((leaf proceeds.is.name).becomes options (spot p).leaf is.is.rest) (Opened (spot p).leaf)))
      (sym in_text)

  -- one that continues the leaf of several lines that is open is read with what follows
  further-means : (gs : List Group) (last : Reading) (over : Bool) → IsWithoutMdx options → IsPlain p →
      nat_lt a.index (length bytes) ≡ not over →
      Follows options bytes (step_over options over p (rest_from a line)) row gs last →
      continues_further options here ≡ true →
      (l : LeafName) × StartsSpan options bytes l p a row (onto_groups row row.kind gs) last
  further-means gs last over built plain in_text follows f =
      let proceeds : IsContinued options p here = proceeds-on options p (rest_from a line) plain f in
      let l : LeafName = proceeds.is.name in
      let e : row.kind ≡ LeafRow l = kind-is ∙ proceeds.kind in
      let ends : (leaf l).ends ≡ false = proceeds.is.ends in
      let of : IsLineOf options bytes (leaf l) row = leaf-line l e ends in
      let become : LeafResult = first_becomes options bytes l p a of.rest in
      let base : Path = renewed here.change.stays p in
      let stepped_to : step_over options over p (rest_from a line) ≡ with_result options (leaf l).heads base become =
      further-step over built plain in_text f proceeds in
      let spans : ReadsSpan options bytes l base become row (onto_span row gs) last =
      span-rows options bytes l l base become
      row gs last (ap is_text e) proceeds.is.same of
      (subst (λ (x : Path). Follows options bytes x row gs last) stepped_to follows) in
      let whole : ReadsSpan options bytes l p become row (onto_span row gs) last =
      span-alike options bytes l base p become
      row (onto_span row gs) last
      (λ d. reading-became options (leaf l).heads here.change.stays here.change.closes [] p d shapes-are) spans in (
        l,
        subst (λ (k : RowKind). StartsSpan options bytes l p a row (onto_groups row k gs) last) (sym e)
            (subst (λ (x : Bool). StartsSpan options bytes l p a row (onto_leaf x row gs) last) (sym ends)
            (record {
              line = rest_line here.rest;
              is = is.is;
              kind = e;
              further = ap (leaf l).further (is.on ∙ proceeds.on) ∙ proceeds.is.further;
              reads = whole;
            })),
      )

  -- one that continues the text continues no other leaf
  begins-text : continues_lazy options p here ≡ true → (y : Bool) → continues_further options here ≡ y → y ≡ false
  begins-text e true f =
      let none = further-unlazy (still_of p) here.on here.change.opens (line_kind options here.on here.rest) f in cc
  begins-text e false f = refl

  -- what it means, by whether it continues the text or another leaf
  means-by : (gs : List Group) (last : Reading) (x y : Bool) → continues_lazy options p here ≡ x →
      continues_further options here ≡ y →
      Means options bytes p a x y row (onto_groups row row.kind gs) last →
      MeansLine options bytes p a row (onto_groups row row.kind gs) last
  means-by gs last x y e f h =
      subst
      (λ (t : Bool). Means options bytes p a t (is_further row.kind row.on) row (onto_groups row row.kind gs) last)
      (sym (lazy-same ∙ e))
      (subst (λ (t : Bool). Means options bytes p a x t row (onto_groups row row.kind gs) last)
      (sym (further-same ∙ f)) h)

  -- one that continues the text
  text_line-means : (gs : List Group) (last : Reading) (over : Bool) → IsWithoutMdx options → IsPlain p →
      Follows options bytes (step_over options over p (rest_from a line)) row gs last →
      continues_lazy options p here ≡ true → continues_further options here ≡ false →
      StartsText options bytes p row (onto_groups row row.kind gs) last
  text_line-means gs last over built plain follows e begins =
      let text : is_text row.kind ≡ true = ap is_text kind-is
      ∙ lazy-text (still_of p) here.change.opens (line_kind options here.on here.rest) e in
      let is_row : row.kind ≡ TextRow = text-kind row.kind text in
      subst (λ (k : RowKind). StartsText options bytes p row (onto_groups row k gs) last) (sym is_row)
      (starts-alike options bytes here.change.stays here.change.closes p row (onto_groups row TextRow gs) last
      shapes-are
      (starts-lines options bytes (rest_line here.rest) (renewed here.change.stays p) row gs last is.is is_row
      (subst (λ (x : Path). Follows options bytes x row gs last)
      (step-same over begins ∙ step-contained options p (rest_from a line) built plain
      ∙ ap₂ (path_by options p here) e begins
      ∙ ap (λ (r : Rest). longer (renewed here.change.stays p) (kept r ∷ [])) (sym is.rest_is)) follows)))

  -- any line
  pub row-means : (gs : List Group) (last : Reading) (over : Bool) → IsWithoutMdx options → IsPlain p →
      nat_lt a.index (length bytes) ≡ not over →
      Follows options bytes (step_over options over p (rest_from a line)) row gs last →
      MeansLine options bytes p a row (onto_groups row row.kind gs) last
  row-means gs last over built plain in_text follows =
      go (continues_lazy options p here) (continues_further options here) refl refl
    where
      go : (x y : Bool) → continues_lazy options p here ≡ x → continues_further options here ≡ y →
          MeansLine options bytes p a row (onto_groups row row.kind gs) last
      go true y e f =
          means-by gs last true y e f (text_line-means gs last over built plain follows e (f ∙ begins-text e y f))
      go false true e f = means-by gs last false true e f (further-means gs last over built plain in_text follows f)
      go false false e f =
          means-by gs last false false e f
          (begun-means gs last row.kind refl f
          (subst (λ (x : Path). Follows options bytes x row gs last)
          (step-same over f ∙ step-contained options p (rest_from a line) built plain
          ∙ ap₂ (path_by options p here) e f ∙ new-path options p here row.kind (sym kind-is)) follows))

-- any line after which nothing follows
pub row-ends : (options : ParseOptions) (bytes : List ℕ) (p : Path) (a : Point) (line : List ℕ)
    (row : Row) (over : Bool) →
    IsWithoutMdx options → IsPlain p → f.IsLine options bytes (containers_of p) (still_of p) a line row →
    nat_lt a.index (length bytes) ≡ not over →
    MeansLine options bytes p a row (groups (row ∷ []))
    (close_containers (length row.closed_after) (reading options (step_over options over p (rest_from a line))))
row-ends options bytes p a line row over built plain is in_text =
    row-means options bytes p a line row is []
    (close_containers (length row.closed_after)
    (reading options (step_over options over p (rest_from a line)))) over built
    plain in_text
    (inl (record { apart = λ text. refl; alone = refl; reads = refl }))
