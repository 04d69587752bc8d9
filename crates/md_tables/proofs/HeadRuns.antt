-- What a line becomes that is read as the head of a table, as a function of the text.
use Rattle.std.proofs.Common.{◌≡◌, ◌^◌, ◌<◌, ℕ, false, true, List, [], ◌∷◌, ◌++◌, refl, sym, ◌∙◌, ap, arith}
use Rattle.std.proofs.Common.{subst, append_assoc}
use Rattle.md_engine.specs.declared.configuration.ParseOptions.{ParseOptions}
use Rattle.md_engine.specs.declared.event.Event.{Event}
use Rattle.md_engine.specs.declared.event.Name.TheVariants.{GfmTable}
use Rattle.md_engine.specs.declared.event.Point.{Point}
use Rattle.md_engine.specs.declared.state.State.{State}
use Rattle.md_engine.specs.declared.state.State.TheVariants.{Error, Ok, Nok, Next, Retry}
use Rattle.md_engine.specs.Found.{Found}
use Rattle.md_engine.specs.Meaning.{Accepts, Cell, Feed, Here, whole_outcome, proceeds, here}
use Rattle.md_engine.specs.Run.{Flushes, IsEnd, Resolution, Runs, plain}
use Rattle.md_engine.specs.Scheme.{valid}
use Rattle.md_engine.specs.TextFeed.{text_feed}
use Rattle.md_engine.specs.World.{Setting, World, fresh, reads_to}
use Rattle.md_engine.proofs.Situation.{runs-mean}
use Rattle.md_engine.proofs.TextFeed.{flush-means, text-follows}
use Rattle.md_events.specs.Ahead.{from_ending, line_end}
use Rattle.md_events.specs.Events.Nested.{enter, exit}
use Rattle.md_events.specs.Spaces.{IsRest}
use Rattle.md_tables.specs.HeadStates.{HeadStep, head_behaves, head_scheme, head_start}
use Rattle.md_tables.specs.Heads.{cells_between, head_line, head_row}
use Rattle.md_tables.specs.RowRule.{in_row}
use Rattle.md_tables.proofs.HeadStates.{head_table_means, head_keeps_valid}

-- where it begins the head is
begins : (w : World) → IsRest w.scratch → w.frames ≡ [] → valid head_scheme w (Next head_start)
begins w rest none = (rest, rw none (record { ok = λ s q t is g r. tt; nok = λ s q t is g. tt }))

-- what follows it
abbrev following : List Cell → World → Here
following cells w = record (here w) { events = w.events ++ head_row cells w.point; point = line_end cells w.point }

-- a head row over its cells is all that the states become
head-becomes : (feed : Feed) (w : World) → w.frames ≡ [] →
    whole_outcome head_behaves feed (Next head_start) w ≡
    Accepts (following (feed w.point) w) (from_ending (feed w.point))
unfolding in_row
head-becomes feed w none = rw none (simp append_assoc)

-- a push keeps what a tokenizer becomes, and is
head-push : (s s' : State) (w w' : World) (limit : ℕ) → limit < 2 ^ 61 →
    valid head_scheme (reads_to w limit) (plain s) → Runs HeadStep false s (reads_to w limit) s' w' →
    (let feed = text_feed (reads_to w limit).setting in
    (whole_outcome head_behaves feed s w ≡ whole_outcome head_behaves feed s' w') × valid head_scheme w' (plain s'))
head-push s s' w w' limit small at run =
    runs-mean HeadStep head_scheme head_behaves false (text_feed (reads_to w limit).setting) s (reads_to w limit)
    (head_table_means (reads_to w limit).setting false) head_keeps_valid
    (text-follows (reads_to w limit).setting limit false small (omega arith) (λ e. cc)) at s' w' run

-- a flush reaches where the tokenizer ends
head-flush : (R : Resolution) (s : State) (w : World) (found : Found) (new : World) (h : Here) (rest : List Cell) →
    w.setting.limit < 2 ^ 61 → valid head_scheme w (plain s) →
    whole_outcome head_behaves (text_feed w.setting) s w ≡ Accepts h rest →
    Flushes HeadStep R s w false found new → h ≡ here new
head-flush R s w found new h rest small at is f =
    go f.end f.ends
    (sym is
    ∙ flush-means HeadStep R head_scheme head_behaves (text_feed w.setting) s w false found new
    (head_table_means w.setting true) head_keeps_valid
    (text-follows w.setting w.setting.limit true small (omega arith) (λ e. refl)) at f)
    ∙ ap here (sym f.resolved.0)
  where
    go : (e : State) → IsEnd e →
        Accepts h rest ≡ proceeds head_behaves e (text_feed w.setting f.at.point) (here f.at) → h ≡ here f.at
    go Ok t k = cc
    go Nok t k = cc
    go Error t k = absurd t
    go (Next name) t k = absurd t
    go (Retry name) t k = absurd t

-- what is read of a line, after these events
head-read : (bytes : List ℕ) (options : ParseOptions) (p q : Point) (events : List Event) (s : State) (w' : World)
    (R : Resolution) (found : Found) (new : World) → q.index < 2 ^ 61 →
    (let w : World = record (fresh bytes options p) { events = events } in
    Runs HeadStep false (Next head_start) (reads_to w q.index) s w' →
    w'.setting ≡ (reads_to w q.index).setting → Flushes HeadStep R s w' false found new →
    following (cells_between bytes options p q) w ≡ here new)
head-read bytes options p q events s w' R found new small run kept f =
    let w : World = record (fresh bytes options p) { events = events } in
    let pushed = head-push (Next head_start) s w w' q.index small (begins (reads_to w q.index) refl refl) run in
    let at_end : whole_outcome head_behaves (text_feed w'.setting) s w' ≡
    Accepts (following (cells_between bytes options p q) w) (from_ending (cells_between bytes options p q)) =
    ap (λ (x : Setting). whole_outcome head_behaves (text_feed x) s w') kept ∙ sym pushed.0
    ∙ head-becomes (text_feed (reads_to w q.index).setting) w refl in
    head-flush R s w' found new _ _ (rw kept small) pushed.1 at_end f

-- what is read as a head: its begin, what is read of its line, and its end
pub head-whole : (bytes : List ℕ) (options : ParseOptions) (p q : Point) (w w' : World) (s : State) (R : Resolution)
    (found : Found) (new last : World) → q.index < 2 ^ 61 →
    w ≡ record (fresh bytes options p) { events = enter GfmTable p ∷ [] } →
    Runs HeadStep false (Next head_start) (reads_to w q.index) s w' →
    w'.setting ≡ (reads_to w q.index).setting → Flushes HeadStep R s w' false found new →
    last ≡ record new { events = new.events ++ exit GfmTable new.point ∷ [] } →
    last.events ≡ head_line bytes options p q
unfolding head_line
head-whole bytes options p q w w' s R found new last small is run kept f ends =
    let read = head-read bytes options p q (enter GfmTable p ∷ []) s w' R found new small
    (subst (λ (x : World). Runs HeadStep false (Next head_start) (reads_to x q.index) s w') is run)
    (kept ∙ ap (λ (x : World). (reads_to x q.index).setting) is) f in
    ap (λ (x : World). x.events) ends
    ∙ ap (λ (h : Here). h.events ++ exit GfmTable h.point ∷ []) (sym read)
