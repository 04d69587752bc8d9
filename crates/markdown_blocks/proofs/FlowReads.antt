-- What flow has read of a text, by what pushing it, flushing it and reading its content do.
use Rattle.md_engine.specs.declared.tokenizer.held_leaf.HeldLeaf.TheVariants as held_leaf
use Rattle.std.proofs.Common.{◌≡◌, ◌≢◌, ◌⊎◌, inl, inr, ◌^◌, ◌<◌, ℕ, suc, Bool, true, false, List, [], ◌∷◌, ◌++◌, length}
use Rattle.std.proofs.Common.{◌≤◌, refl, sym, ◌∙◌, ap, subst, arith, append_assoc}
use Rattle.std.proofs.lemmas.Bool.{or_from}
use Rattle.md_engine.specs.declared.configuration.ParseOptions.{ParseOptions}
use Rattle.md_engine.specs.declared.event.Event.{Event}
use Rattle.md_engine.specs.declared.event.Name.TheVariants as n
use Rattle.md_engine.specs.declared.event.Point.{Point}
use Rattle.md_engine.specs.declared.state.Name.TheVariants as s
use Rattle.md_engine.specs.declared.state.document.State.TheVariants as document
use Rattle.md_engine.specs.declared.state.State.{State}
use Rattle.md_engine.specs.declared.state.State.TheVariants.{Error, Ok, Nok, Next, Retry}
use Rattle.md_engine.specs.Found.{Found, nothing}
use Rattle.md_engine.specs.Meaning.{Accepts, whole_outcome, proceeds, here}
use Rattle.md_engine.specs.Run.{Flushes, IsEnd, Runs, plain}
use Rattle.md_engine.specs.Scheme.{valid}
use Rattle.md_engine.specs.TextFeed.{text_feed}
use Rattle.md_engine.specs.World.{Setting, World, fresh, reads_to}
use Rattle.md_engine.proofs.Keeps.{runs-append, runs-at_end, runs-setting}
use Rattle.md_containers.specs.Listed.{listed}
use Rattle.md_content.specs.ContentNests.{ContentNests}
use Rattle.md_content.specs.ContentReads.{content_readings, wants_content}
use Rattle.md_content.specs.Joined.{joined}
use Rattle.md_content.specs.Labels.{labels_in}
use Rattle.md_content.proofs.LabelsLemmas.{labels-none}
use Rattle.md_content.specs.Resolves.{found_in_content}
use Rattle.md_leaves.specs.HeadingText.{headings_resolved}
use Rattle.md_leaves.specs.Turned.{turned}
use Rattle.md_order.specs.Alone.{MayPass}
use Rattle.md_order.specs.InOrder.{every}
use Rattle.md_order.specs.Nests.{MayNest}
use Rattle.md_tables.specs.Tabled.{tabled}
use Rattle.md_registry.specs.Resolving.{lines_joined, resolved_as}
use Rattle.md_events.specs.Substituted.{Substituted}
use Rattle.markdown_blocks.specs.ContentRead.{AreSideBySide, ReadIf, holds_content, side_by_side}
use Rattle.markdown_blocks.proofs.HoldsContent.{held-parts, quiet-side}
use Rattle.md_flow.specs.Nests.{TextsNest}
use Rattle.markdown_blocks.specs.Fed.{FlowRan}
use Rattle.markdown_blocks.specs.FlowReads.{FlowReads, has_text}
use Rattle.markdown_blocks.specs.TextMet.{TextsMet}
use Rattle.proof_rows.specs.TextRows.{text_cells, text_rows, text_setting}
use Rattle.md_registry.specs.FlowRule.{flow_at}
use Rattle.proof_leaf_laws.specs.Headed.{heads_read}
use Rattle.proof_frame.specs.Row.{BlankRow, LeafRow, Row, RowKind, TextRow}
use Rattle.proof_rows.specs.Rows.{is_text, leaf_events, row_events, row_events_by, rows_events, tail_events}
use Rattle.md_registry.specs.States.{FlowStep, flow_behaves, flow_table_scheme}
use Rattle.proof_rows.proofs.EachRow.{EachRow}
use Rattle.md_registry.proofs.FlowLemmas.{flow_by_line}
use Rattle.proof_rows.proofs.FlowRows.{flow_at-rows}
use Rattle.markdown_blocks.proofs.FlowRuns.{flow_flush, flow_outcome, flow_push}
use Rattle.proof_frame.proofs.ContentFacts.{NoContent, content-alone, no_content-label, nothing as nothing_wanted}
use Rattle.proof_frame.proofs.ContentFacts.{nothing-wanted}
use Rattle.markdown_blocks.proofs.FlowSteps.{IsFramed, content-same, rows-no_content, rows_at-framed}
use Rattle.proof_leaf_laws.proofs.HeadsRead.{heads-none}
use Rattle.proof_rows.proofs.JoinedLemmas.{EachNoContent, HasNoContent, events-no_content, front-no_content}
use Rattle.proof_rows.proofs.JoinedLemmas.{rows_at-no_content, tail-no_content}
use Rattle.markdown_blocks.proofs.ValidLemmas.{flow-ran}
use Rattle.markdown_blocks.proofs.LinesFed.{text-follows_it}
use Rattle.md_events.specs.Spaces.{any_size}

-- Lines among whose events no line of text is found.

-- a line of text would be found
none-text : (k : RowKind) (row : Row) → holds_content (row_events_by k row) ≡ false → k ≢ TextRow
none-text k row h e =
    let leaf : List Event = leaf_events TextRow row in
    let whole : holds_content ((row.front ++ leaf) ++ tail_events n.LineEnding row) ≡ false =
    subst (λ (x : RowKind). holds_content (row_events_by x row) ≡ false) e h in
    let bad : true ≡ false =
    (held-parts row.front leaf (held-parts (row.front ++ leaf) (tail_events n.LineEnding row) whole).0).1 in
    cc

no-text : (rows : List Row) → holds_content (rows_events rows) ≡ false → has_text rows ≡ false
no-text [] h = refl
no-text (row ∷ rows) h =
    let parts = held-parts (row_events row) (rows_events rows) h in
    or_from (is_text row.kind) (has_text rows) (other row.kind (none-text row.kind row parts.0)) (no-text rows parts.1)
  where
    other : (kind : RowKind) → kind ≢ TextRow → is_text kind ≡ false
    other BlankRow h = refl
    other (LeafRow l) h = refl
    other TextRow h = absurd (h refl)

-- The begin and the end of each line of text lie side by side.
row-side : (row : Row) (es : List Event) → IsFramed row → HasNoContent row →
    side_by_side false (row_events row ++ es) ≡ side_by_side false es
row-side row es framed quiet = go row.kind refl
  where
    front : NoContent nothing_wanted row.front
    front = front-no_content nothing_wanted nothing-wanted row.front framed.front

    other : row.kind ≢ TextRow → side_by_side false (row_events row ++ es) ≡ side_by_side false es
    other h =
        quiet-side nothing_wanted (row_events row) es
        (events-no_content nothing_wanted row row.kind refl h front (quiet nothing_wanted nothing-wanted))

    text : List Event
    text = leaf_events TextRow row

    tail : List Event
    tail = tail_events n.LineEnding row

    go : (kind : RowKind) → row.kind ≡ kind → side_by_side false (row_events row ++ es) ≡ side_by_side false es
    go BlankRow is = other (λ h. cc)
    go (LeafRow l) is = other (λ h. cc)
    go TextRow is =
        ap (λ (k : RowKind). side_by_side false (row_events_by k row ++ es)) is
        ∙ ap (side_by_side false) (append_assoc (row.front ++ text) tail es ∙ append_assoc row.front text (tail ++ es))
        ∙ quiet-side nothing_wanted row.front (text ++ (tail ++ es)) front
        ∙ quiet-side nothing_wanted tail es (tail-no_content nothing_wanted n.LineEnding row refl)

rows-side : (rows : List Row) → EachRow IsFramed rows → EachNoContent rows →
    side_by_side false (rows_events rows) ≡ true
rows-side [] framed quiet = refl
rows-side (row ∷ rows) framed quiet =
    row-side row (rows_events rows) framed.0 quiet.0 ∙ rows-side rows framed.1 quiet.1

-- The step after the states, whether content is read or not.

-- lines of text that are heads are read again, and then content is read
pub record ContentRead (bytes : List ℕ) (options : ParseOptions) (rows : List Row) (at : World) (found : Found)
    (new : World) : Type 0 where
  pub rest : new ≡ record at { events = new.events }
  pub read : Substituted wants_content (content_readings bytes options) [] 0
      (joined (heads_read options bytes (rows_events rows))) new.events
  pub found_is : ((has_text rows ≡ false) × (found ≡ nothing)) ⊎ (found ≡ found_in_content bytes new.events)
  pub definitions : found.definitions ≡ labels_in bytes new.events
  pub footnotes : found.footnotes ≡ []

pub content-step : (bytes : List ℕ) (options : ParseOptions) (rows : List Row) (at : World) (found : Found)
    (new : World) →
    EachRow IsFramed rows → EachNoContent rows →
    at.events ≡ rows_events rows → at.setting.bytes ≡ bytes → at.setting.options ≡ options →
    (b : Bool) → holds_content at.events ≡ b → ReadIf b at found new →
    ContentRead bytes options rows at found new
content-step bytes options rows at found new framed quiet events text set true holds h =
    let A : List ℕ →
    Type 0 = λ l. Substituted wants_content (content_readings l at.setting.options) [] 0
    (joined (heads_read at.setting.options l at.events)) new.events in
    let B : ParseOptions →
    Type 0 = λ o. Substituted wants_content (content_readings bytes o) [] 0
    (joined (heads_read o bytes at.events)) new.events in
    let C : List Event →
    Type 0 = λ l. Substituted wants_content (content_readings bytes options) [] 0
    (joined (heads_read options bytes l)) new.events in
    let same : found ≡ found_in_content at.setting.bytes new.events = let is = h.found_is in cc in
    let found_so : found ≡ found_in_content bytes new.events =
    same ∙ ap (λ (l : List ℕ). found_in_content l new.events) text in
    record {
      rest = h.rest;
      read = subst C events (subst B set (subst A text h.events));
      found_is = inr found_so;
      definitions = ap (λ (x : Found). x.definitions) found_so;
      footnotes = ap (λ (x : Found). x.footnotes) found_so;
    }
content-step bytes options rows at found new framed quiet events text set false holds h =
    let none : has_text rows ≡ false =
    no-text rows (ap holds_content (sym events) ∙ holds) in
    let same : new.events ≡ rows_events rows = ap (λ (w : World). w.events) h.1 ∙ events in
    let P : List Event →
    Type 0 = λ l. Substituted wants_content (content_readings bytes options) [] 0
    (joined (heads_read options bytes (rows_events rows))) l in
    let Q : List Event →
    Type 0 = λ l. Substituted wants_content (content_readings bytes options) [] 0 (joined l) (rows_events rows) in
    let headless : heads_read options bytes (rows_events rows) ≡ rows_events rows =
    heads-none options bytes (rows_events rows)
    (rows-no_content nothing_wanted nothing-wanted rows framed quiet none) in
    record {
      rest = h.1 ∙ ap (λ (l : List Event). record at { events = l }) (sym (ap (λ (w : World). w.events) h.1));
      read =
          subst P (sym same)
          (subst Q (sym headless) (content-same (content_readings bytes options) rows framed quiet none));
      found_is = inl (none, h.0);
      definitions =
          ap (λ (x : Found). x.definitions) h.0
          ∙ sym
          (labels-none bytes (rows_events rows)
          (no_content-label wants_content (rows_events rows)
          (rows-no_content wants_content content-alone rows framed quiet none)))
          ∙ ap (labels_in bytes) (sym same);
      footnotes = ap (λ (x : Found). x.footnotes) h.0;
    }

-- What flow has added once a text from a point on was pushed and flushed, before its content is read: the events of its
-- rows.
record IsPushed (bytes : List ℕ) (options : ParseOptions) (p : Point) (end : State) (at : World) : Type 0 where
  ran : FlowRan bytes options p end at
  events : at.events ≡ rows_events (text_rows options bytes p)
  setting : at.setting ≡ text_setting bytes options p

-- A push and a flush that run to their ends add just these.
flow-pushed : (bytes : List ℕ) (options : ParseOptions) (p : Point) (end : State) (at : World) (found : Found)
    (items : World) →
    length bytes < 2 ^ 61 →
    Runs FlowStep false (Next (s.Document document.ContainerExistingBefore))
    (reads_to (fresh bytes options p) (length bytes)) end at →
    (f : Flushes FlowStep resolved_as end at false found items) → IsPushed bytes options p f.end f.at
flow-pushed bytes options p end at found items small run f =
    record { ran = ran; events = events; setting = setting }
  where
    begun : valid flow_table_scheme (reads_to (fresh bytes options p) (length bytes))
        (Next (s.Document document.ContainerExistingBefore))
    begun = ((refl, record { ok = λ s q t is up way. tt; nok = λ s q t is up. tt }), tt)

    pushed : (whole_outcome (flow_behaves bytes options) (text_feed (text_setting bytes options p))
        (Next (s.Document document.ContainerExistingBefore)) (fresh bytes options p) ≡
        whole_outcome (flow_behaves bytes options) (text_feed (text_setting bytes options p)) end at) ×
        valid flow_table_scheme at (plain end)
    pushed =
        flow_push (Next (s.Document document.ContainerExistingBefore)) end (fresh bytes options p) at
        (length bytes) (length bytes) small (omega arith) begun run

    kept : at.setting ≡ text_setting bytes options p
    kept =
        runs-setting FlowStep false (Next (s.Document document.ContainerExistingBefore))
        (reads_to (fresh bytes options p) (length bytes)) end at run

    limit : at.setting.limit < 2 ^ 61
    limit = let P : Setting → Type 0 = λ y. y.limit < 2 ^ 61 in subst P (sym kept) small

    means : whole_outcome (flow_behaves at.setting.bytes at.setting.options) (text_feed at.setting) end at ≡
        flow_at at.setting.options (text_cells bytes options p) (here (fresh bytes options p))
    means =
        let P : Setting →
        Type 0 = λ y. whole_outcome (flow_behaves y.bytes y.options) (text_feed y) end at ≡
        flow_at y.options (text_cells bytes options p) (here (fresh bytes options p)) in
        subst P (sym kept)
        (sym pushed.0 ∙ sym (flow_by_line options (text_cells bytes options p) (here (fresh bytes options p))))

    out : flow_at options (text_cells bytes options p) (here (fresh bytes options p)) ≡ Accepts (here f.at) []
    out =
        let P : Setting →
        Type 0 = λ y. flow_at y.options (text_cells bytes options p) (here (fresh bytes options p)) ≡
        Accepts (here f.at) [] in
        subst P kept
        (flow_outcome resolved_as end at false found items (text_cells bytes options p)
        (here (fresh bytes options p)) limit pushed.1 means f)

    -- the run of a push and a flush, which ends with the text
    ends : (e : State) → IsEnd e →
        proceeds (flow_behaves at.setting.bytes at.setting.options) e (text_feed at.setting f.at.point) (here f.at) ≡
        Accepts (here f.at) [] →
        (e ≡ Ok) × (text_feed at.setting f.at.point ≡ [])
    ends Ok t e = (refl, cc)
    ends Nok t e = cc
    ends Error t e = absurd t
    ends (Next name) t e = absurd t
    ends (Retry name) t e = absurd t

    ran : FlowRan bytes options p f.end f.at
    ran =
        let same : flow_at at.setting.options (text_cells bytes options p) (here (fresh bytes options p)) ≡
        proceeds (flow_behaves at.setting.bytes at.setting.options) f.end
        (text_feed at.setting f.at.point) (here f.at) =
        sym means ∙ flow_flush resolved_as end at false found items limit pushed.1 f in
        let becomes : proceeds (flow_behaves at.setting.bytes at.setting.options) f.end
        (text_feed at.setting f.at.point)
        (here f.at) ≡ Accepts (here f.at) [] =
        sym same
        ∙ flow_outcome resolved_as end at false found items (text_cells bytes options p)
        (here (fresh bytes options p)) limit pushed.1 means f in
        let done = ends f.end f.ends becomes in
        flow-ran bytes options p f.end f.at small
        (runs-append FlowStep true (Next (s.Document document.ContainerExistingBefore))
        (reads_to (fresh bytes options p) (length bytes)) end at f.end f.at
        (runs-at_end FlowStep (Next (s.Document document.ContainerExistingBefore))
        (reads_to (fresh bytes options p) (length bytes)) end at run) f.runs)
        done.0 f.none_left (ap (λ (x : Setting). text_feed x f.at.point) (sym kept) ∙ done.1)

    few : length (text_cells bytes options p) ≤ any_size
    few = let short = (text-follows_it bytes options p small).short p in omega (arith, short)

    events : f.at.events ≡ rows_events (text_rows options bytes p)
    events =
        flow_at-rows options (text_cells bytes options p) (here (fresh bytes options p))
        (here f.at) [] few refl refl refl refl refl refl refl out

    setting : f.at.setting ≡ text_setting bytes options p
    setting = runs-setting FlowStep true end at f.end f.at f.runs ∙ kept

-- What flow has read of a text from a point on, once all of it was pushed and flushed and its content was read: nothing
-- else is set yet.
pub record FlowFlushed (bytes : List ℕ) (options : ParseOptions) (p : Point) (found : Found)
    (new : World) : Type 0 where
  pub end : State
  pub ended : World
  pub ran : FlowRan bytes options p end ended
  pub events : ended.events ≡ rows_events (text_rows options bytes p)
  pub content : List Event
  pub content_read : Substituted wants_content (content_readings bytes options) [] 0
      (joined (heads_read options bytes (rows_events (text_rows options bytes p)))) content
  pub events_are : new.events ≡ content
  pub rest : new ≡ record ended { events = content }
  pub setting : new.setting ≡ text_setting bytes options p
  pub frames : new.frames ≡ []
  pub found_is : ((has_text (text_rows options bytes p) ≡ false) × (found ≡ nothing)) ⊎
      (found ≡ found_in_content bytes content)
  pub definitions : found.definitions ≡ labels_in bytes content
  pub footnotes : found.footnotes ≡ []

-- Of the rows of a text: no content is in a line that is no text, and prefixes are before each.
pub text-quiet : (options : ParseOptions) (bytes : List ℕ) (p : Point) → EachNoContent (text_rows options bytes p)
text-quiet options bytes p =
    rows_at-no_content options (suc (length (text_cells bytes options p))) [] held_leaf.None
    (text_cells bytes options p) p

pub text-framed : (options : ParseOptions) (bytes : List ℕ) (p : Point) → EachRow IsFramed (text_rows options bytes p)
text-framed options bytes p =
    rows_at-framed options (suc (length (text_cells bytes options p))) [] held_leaf.None
    (text_cells bytes options p) p

pub flow-flushed : (bytes : List ℕ) (options : ParseOptions) (p : Point) (end : State) (at : World) (none : Found)
    (flushed : World) (found : Found) (new : World) →
    length bytes < 2 ^ 61 →
    Runs FlowStep false (Next (s.Document document.ContainerExistingBefore))
    (reads_to (fresh bytes options p) (length bytes)) end at →
    Flushes FlowStep resolved_as end at false none flushed →
    ReadIf (holds_content flushed.events) flushed found new →
    FlowFlushed bytes options p found new
flow-flushed bytes options p end at none flushed found new small run f h =
    record {
      end = f.end;
      ended = f.at;
      ran = pushed.ran;
      events = pushed.events;
      content = new.events;
      content_read = read.read;
      events_are = refl;
      rest = read.rest;
      setting = ap (λ (x : World). x.setting) read.rest ∙ pushed.setting;
      frames = ap (λ (x : World). x.frames) read.rest ∙ f.none_left;
      found_is = read.found_is;
      definitions = read.definitions;
      footnotes = read.footnotes;
    }
  where
    pushed : IsPushed bytes options p f.end f.at
    pushed = flow-pushed bytes options p end at none flushed small run f

    rows : List Row
    rows = text_rows options bytes p

    read : ContentRead bytes options rows f.at found new
    read =
        content-step bytes options rows f.at found new (text-framed options bytes p) (text-quiet options bytes p)
        pushed.events (ap (λ (x : Setting). x.bytes) pushed.setting) (ap (λ (x : Setting). x.options) pushed.setting)
        (holds_content f.at.events) refl
        (subst (λ (w : World). ReadIf (holds_content w.events) w found new) f.resolved.0 h)

-- The begin and the end of each line of text lie side by side in what flow has added.
pub flushed-side : (bytes : List ℕ) (options : ParseOptions) (p : Point)
    (start : World) (to : ℕ) (end : State) (at : World) (none : Found) (flushed : World) →
    start ≡ fresh bytes options p → to ≡ length bytes →
    length bytes < 2 ^ 61 →
    Runs FlowStep false (Next (s.Document document.ContainerExistingBefore)) (reads_to start to) end at →
    Flushes FlowStep resolved_as end at false none flushed → AreSideBySide flushed.events
flushed-side bytes options p start to end at none flushed same all small run f =
    let P : World →
    Type 0 = λ w. Runs FlowStep false (Next (s.Document document.ContainerExistingBefore))
    (reads_to w (length bytes)) end at in
    let Q : ℕ →
    Type 0 = λ n. Runs FlowStep false (Next (s.Document document.ContainerExistingBefore))
    (reads_to start n) end at in
    let pushed : IsPushed bytes options p f.end f.at =
    flow-pushed bytes options p end at none flushed small (subst P same (subst Q all run)) f in
    inl
    (ap (λ (w : World). side_by_side false w.events) f.resolved.0 ∙ ap (side_by_side false) pushed.events
    ∙ rows-side (text_rows options bytes p) (text-framed options bytes p) (text-quiet options bytes p))

-- What flow has added is the events of its rows, over this text.
pub record AreFlushed (bytes : List ℕ) (options : ParseOptions) (p : Point) (flushed : World) : Type 0 where
  pub events : flushed.events ≡ rows_events (text_rows options bytes p)
  pub bytes_are : flushed.setting.bytes ≡ bytes
  pub options_are : flushed.setting.options ≡ options

pub flushed-events : (bytes : List ℕ) (options : ParseOptions) (p : Point)
    (start : World) (to : ℕ) (end : State) (at : World) (none : Found) (flushed : World) →
    start ≡ fresh bytes options p → to ≡ length bytes →
    length bytes < 2 ^ 61 →
    Runs FlowStep false (Next (s.Document document.ContainerExistingBefore)) (reads_to start to) end at →
    Flushes FlowStep resolved_as end at false none flushed → AreFlushed bytes options p flushed
flushed-events bytes options p start to end at none flushed same all small run f =
    let P : World →
    Type 0 = λ w. Runs FlowStep false (Next (s.Document document.ContainerExistingBefore))
    (reads_to w (length bytes)) end at in
    let Q : ℕ →
    Type 0 = λ n. Runs FlowStep false (Next (s.Document document.ContainerExistingBefore))
    (reads_to start n) end at in
    let pushed : IsPushed bytes options p f.end f.at =
    flow-pushed bytes options p end at none flushed small (subst P same (subst Q all run)) f in
    record {
      events = ap (λ (w : World). w.events) f.resolved.0 ∙ pushed.events;
      bytes_are =
          ap (λ (w : World). w.setting.bytes) f.resolved.0 ∙ ap (λ (x : Setting). x.bytes) pushed.setting;
      options_are =
          ap (λ (w : World). w.setting.options) f.resolved.0 ∙ ap (λ (x : Setting). x.options) pushed.setting;
    }

-- the same for a tokenizer that is known to be fresh
pub flow-flushed-from : (bytes : List ℕ) (options : ParseOptions) (p : Point)
    (start : World) (to : ℕ) (end : State) (at : World) (none : Found) (flushed : World) (found : Found) (new : World) →
    start ≡ fresh bytes options p → to ≡ length bytes →
    length bytes < 2 ^ 61 →
    Runs FlowStep false (Next (s.Document document.ContainerExistingBefore)) (reads_to start to) end at →
    Flushes FlowStep resolved_as end at false none flushed →
    ReadIf (holds_content flushed.events) flushed found new →
    FlowFlushed bytes options p found new
flow-flushed-from bytes options p start to end at none flushed found new same all small run f h =
    let P : World →
    Type 0 = λ w. Runs FlowStep false (Next (s.Document document.ContainerExistingBefore))
    (reads_to w (length bytes)) end at in
    let Q : ℕ →
    Type 0 = λ n. Runs FlowStep false (Next (s.Document document.ContainerExistingBefore))
    (reads_to start n) end at in
    flow-flushed bytes options p end at none flushed found new small (subst P same (subst Q all run)) f h

-- what the resolvers ask of the events that they get: that of content of the events of the lines, the others of what it
-- leaves; and where the first states of texts are called
pub record MaySet (bytes : List ℕ) (options : ParseOptions) (p : Point) (events : List Event) : Type 0 where
  pub texts_nest : TextsNest bytes options (rows_events (text_rows options bytes p))
  pub content_nests : ContentNests bytes options (heads_read options bytes (rows_events (text_rows options bytes p)))
  pub may_pass : MayPass every (lines_joined options events)
  pub may_nest : MayNest every bytes (lines_joined options events)
  pub texts_met : TextsMet options bytes

-- and once the lines of leaves are joined, and lists, headings and tables are set
pub flow-reads : (bytes : List ℕ) (options : ParseOptions) (p : Point) (found : Found) (items new : World) →
    FlowFlushed bytes options p found items → MaySet bytes options p items.events →
    new ≡
    record items {
      events = tabled (turned (headings_resolved (listed items.setting.bytes (lines_joined options items.events))));
    } →
    FlowReads bytes options p found new
flow-reads bytes options p found items new h may set =
    let put : List ℕ → List Event → List Event =
    λ text es. tabled (turned (headings_resolved (listed text (lines_joined options es)))) in
    let text : items.setting.bytes ≡ bytes = ap (λ (x : Setting). x.bytes) h.setting in
    let all : new ≡
    record h.ended { events = put bytes h.content } = set
    ∙ ap (λ (l : List ℕ). record items { events = put l items.events }) text
    ∙ ap (λ (x : World). record x { events = put bytes x.events }) h.rest in
    let is : new.events ≡ put bytes h.content = ap (λ (x : World). x.events) all in
    record {
      end = h.end;
      ended = h.ended;
      ran = h.ran;
      events = h.events;
      content = h.content;
      content_read = h.content_read;
      texts_nest = may.texts_nest;
      content_nests = may.content_nests;
      texts_met = may.texts_met;
      may_pass = subst (λ (l : List Event). MayPass every (lines_joined options l)) h.events_are may.may_pass;
      may_nest = subst (λ (l : List Event). MayNest every bytes (lines_joined options l)) h.events_are may.may_nest;
      events_are = is;
      rest = all ∙ ap (λ (l : List Event). record h.ended { events = l }) (sym is);
      setting = ap (λ (x : World). x.setting) set ∙ h.setting;
      frames = ap (λ (x : World). x.frames) set ∙ h.frames;
      found_is = h.found_is;
      definitions = h.definitions;
      footnotes = h.footnotes;
    }
