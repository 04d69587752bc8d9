-- The walk that gives tables their heads, bodies and cells. What holds of events continues to hold.
use Rattle.std.proofs.Common.{◌≡◌, ℕ, suc, ◌+◌, ◌<◌, ◌≤◌, Bool, true, false, cond, not, List, [], ◌∷◌, ◌++◌}
use Rattle.std.proofs.Common.{take, drop, get_or, length, refl, sym, ◌∙◌, ap, append-nil, append_assoc, arith}
use Rattle.std.specs.List.{All, prefix_len}
use Rattle.std.proofs.lemmas.List.{drop-drop, drop_all, drop_more, take_all}
use Rattle.std.proofs.lemmas.List.Elements.{All-append, All-head, All-nil, All-tail}
use Rattle.md_engine.specs.declared.event.Event.{Event}
use Rattle.md_engine.specs.declared.event.Kind.TheVariants.{Enter, Exit}
use Rattle.md_engine.specs.declared.event.Name.TheVariants as n
use Rattle.md_engine.specs.Place.{IsPlaced}
use Rattle.md_leaves.proofs.SpannedLemmas.{AtPoint}
use Rattle.md_events.specs.Events.Nested.{enter, exit}
use Rattle.md_events.specs.Parts.{ArePlaced}
use Rattle.md_tables.specs.Proceeds.{in_all}
use Rattle.md_tables.specs.Tabled.{begins_table, following, given, in_front, bound_of, next, passes, tabled}
use Rattle.md_tables.specs.Tabled.{tabled_from, with_cells}
use Rattle.md_tables.specs.declared.cells.Stage.{Stage}
use Rattle.md_tables.specs.declared.cells.Stage.TheVariants as row
use Rattle.md_tables.specs.declared.tables.Bound.{Bound}
use Rattle.md_tables.specs.declared.tables.Bound.TheVariants.{BeginsRow, BeginsTable, EndsDelimiter, EndsTable, Other}
use Rattle.md_tables.specs.declared.tables.Section.{Section}
use Rattle.md_tables.specs.declared.tables.Section.TheVariants.{Between, Body, Head, Outside}
use Rattle.md_tables.specs.declared.tables.Walk.{Walk}
use Rattle.md_tables.proofs.CellsLemmas.{KeptOver, one-kept, step-kept}

-- Events that pass.

-- outside of tables it does not matter where in a row one is
pub outside-stage : (stage : Stage) (es : List Event) → tabled_from Outside stage es ≡ tabled es
outside-stage stage [] = refl
outside-stage stage (e ∷ es) = refl

-- there an event that does not begin a table is given as it is
pub passes-given : (e : Event) (es : List Event) → passes Outside e ≡ true → tabled (e ∷ es) ≡ e ∷ tabled es
passes-given e es h = go (bound_of e) h
  where
    go : (m : Bound) → not (begins_table m) ≡ true →
        (in_front Outside m e.point ++ (e ∷ []) ++ following Outside m e.point)
        ++ tabled_from (next Outside m) row.Outside es
        ≡ e ∷ tabled es
    go BeginsTable k = absurd (let no : false ≡ true = k in cc)
    go EndsTable k = refl
    go BeginsRow k = refl
    go EndsDelimiter k = refl
    go Other k = refl

-- and so are all before the next table
outside-run : (es : List Event) →
    tabled es ≡ take (prefix_len (passes Outside) es) es ++ tabled (drop (prefix_len (passes Outside) es) es)
outside-run [] = refl
outside-run (e ∷ es) = go (passes Outside e) refl (outside-run es)
  where
    go : (x : Bool) → passes Outside e ≡ x →
        tabled es ≡ take (prefix_len (passes Outside) es) es ++ tabled (drop (prefix_len (passes Outside) es) es) →
        tabled (e ∷ es)
        ≡ take (cond x (1 + prefix_len (passes Outside) es) 0) (e ∷ es)
        ++ tabled (drop (cond x (1 + prefix_len (passes Outside) es) 0) (e ∷ es))
    go false h k = refl
    go true h k =
        passes-given e es h ∙ ap (λ (l : List Event). e ∷ l) k
        ∙ ap (λ (n : ℕ). take n (e ∷ es) ++ tabled (drop n (e ∷ es)))
        (let one : suc (prefix_len (passes Outside) es) ≡ 1 + prefix_len (passes Outside) es = omega arith in one)

-- in a table none passes so
none-pass : (section : Section) (es : List Event) → ((e : Event) → passes section e ≡ false) →
    prefix_len (passes section) es ≡ 0
none-pass section [] h = refl
none-pass section (e ∷ es) h = rw (h e) refl

passed-run : (section : Section) (stage : Stage) (es : List Event) →
    tabled_from section stage es
    ≡ take (prefix_len (passes section) es) es
    ++ tabled_from section stage (drop (prefix_len (passes section) es) es)
passed-run Outside stage es =
    outside-stage stage es ∙ outside-run es
    ∙ ap (λ (l : List Event). take (prefix_len (passes Outside) es) es ++ l)
    (sym (outside-stage stage (drop (prefix_len (passes Outside) es) es)))
passed-run Head stage es = rw (none-pass Head es (λ e. refl)) refl
passed-run Between stage es = rw (none-pass Between es (λ e. refl)) refl
passed-run Body stage es = rw (none-pass Body es (λ e. refl)) refl

-- where no table is, events stay as they are
pub tabled-none : (events : List Event) → prefix_len (passes Outside) events ≡ length events → tabled events ≡ events
tabled-none events all =
    outside-run events
    ∙ ap (λ (n : ℕ). take n events ++ tabled (drop n events)) all
    ∙ ap (λ (l : List Event). take (length events) events ++ tabled l)
    (drop_all (length events) events (let le : length events ≤ length events = omega arith in le))
    ∙ append-nil (take (length events) events) ∙ take_all (length events) events (omega arith)

-- The walk continues with events that pass,
pub walk-copied : (section now : Section) (stage after : Stage) (events old new : List Event) (many : ℕ) →
    new ≡ old ++ take many events → now ≡ section → after ≡ stage → many ≡ prefix_len (passes section) events →
    new ++ tabled_from now after (drop many events) ≡ old ++ tabled_from section stage events
walk-copied section now stage after events old new many is same there count =
    rw (is, same, there)
    (append_assoc old (take many events) (tabled_from section stage (drop many events))
    ∙ ap (λ (n : ℕ). old ++ (take n events ++ tabled_from section stage (drop n events))) count
    ∙ ap (λ (l : List Event). old ++ l) (sym (passed-run section stage events)))

-- and with the event after them.
pub walk-stepped : (section now : Section) (stage after : Stage) (events old new all : List Event) (at : ℕ)
    (d : Event) → at < length events →
    new ≡ old ++ given section stage (get_or events at d) (drop (at + 1) events) →
    now ≡ next section (bound_of (get_or events at d)) →
    after ≡ (with_cells section stage (get_or events at d) (drop (at + 1) events)).stage →
    old ++ tabled_from section stage (drop at events) ≡ all → new ++ tabled_from now after (drop (at + 1) events) ≡ all
walk-stepped section now stage after events old new all at d within is same there so_far =
    rw (is, same, there)
    (append_assoc old (given section stage (get_or events at d) (drop (at + 1) events))
    (tabled_from (next section (bound_of (get_or events at d)))
    (with_cells section stage (get_or events at d) (drop (at + 1) events)).stage (drop (at + 1) events))
    ∙ ap (λ (l : List Event). old ++ tabled_from section stage l) (sym (drop_more events at d within)) ∙ so_far)

-- A step from some place on is one of the whole walk.
pub walk-proceeds : (old new : Walk) (events all : List Event) (at many : ℕ) →
    in_all new (drop many (drop at events)) ≡ in_all old (drop at events) → in_all old (drop at events) ≡ all →
    in_all new (drop (at + many) events) ≡ all
walk-proceeds old new events all at many step so_far = ap (in_all new) (sym (drop-drop many at events)) ∙ step ∙ so_far

-- At the end all is given.
pub walk-done : (section : Section) (stage : Stage) (events given all : List Event) (at : ℕ) → length events ≤ at →
    given ++ tabled_from section stage (drop at events) ≡ all → given ≡ all
walk-done section stage events given all at end so_far =
    sym (append-nil given)
    ∙ ap (λ (l : List Event). given ++ tabled_from section stage l) (sym (drop_all at events end)) ∙ so_far

-- What holds of events continues to hold.

front-kept : (P : Event → Type 0) → KeptOver P → (section : Section) (b : Bound) (e : Event) → P e →
    All P (in_front section b e.point)
front-kept P over Between BeginsRow e h =
    one-kept P (enter n.GfmTableBody e.point) (over Enter n.GfmTableBody e refl h)
front-kept P over Body EndsTable e h =
    one-kept P (exit n.GfmTableBody e.point) (over Exit n.GfmTableBody e refl h)
front-kept P over _ _ e h = All-nil P

following-kept : (P : Event → Type 0) → KeptOver P → (section : Section) (b : Bound) (e : Event) → P e →
    All P (following section b e.point)
following-kept P over Outside BeginsTable e h =
    one-kept P (enter n.GfmTableHead e.point) (over Enter n.GfmTableHead e refl h)
following-kept P over Head EndsDelimiter e h =
    one-kept P (exit n.GfmTableHead e.point) (over Exit n.GfmTableHead e refl h)
following-kept P over _ _ e h = All-nil P

cells-kept : (P : Event → Type 0) → KeptOver P → (section : Section) (stage : Stage) (e : Event) (es : List Event) →
    P e → All P (with_cells section stage e es).given
cells-kept P over Outside stage e es h = one-kept P e h
cells-kept P over Head stage e es h = step-kept P over stage e es h
cells-kept P over Between stage e es h = step-kept P over stage e es h
cells-kept P over Body stage e es h = step-kept P over stage e es h

-- of all that is given for an event, if it does of that,
pub given-kept : (P : Event → Type 0) → KeptOver P → (section : Section) (stage : Stage) (e : Event) (es : List Event) →
    P e → All P (given section stage e es)
given-kept P over section stage e es h =
    let front = in_front section (bound_of e) e.point in
    let itself = (with_cells section stage e es).given in
    All-append P (front ++ itself) (following section (bound_of e) e.point)
    (All-append P front itself (front-kept P over section (bound_of e) e h) (cells-kept P over section stage e es h))
    (following-kept P over section (bound_of e) e h)

tabled_from-kept : (P : Event → Type 0) → KeptOver P → (section : Section) (stage : Stage) (es : List Event) →
    All P es → All P (tabled_from section stage es)
tabled_from-kept P over section stage [] h = All-nil P
tabled_from-kept P over section stage (e ∷ es) h =
    let now = next section (bound_of e) in
    let after = (with_cells section stage e es).stage in
    All-append P (given section stage e es) (tabled_from now after es)
    (given-kept P over section stage e es (All-head P e es h))
    (tabled_from-kept P over now after es (All-tail P e es h))

-- and of all events
pub tabled-kept : (P : Event → Type 0) → KeptOver P → (es : List Event) → All P es → All P (tabled es)
tabled-kept P over es h = tabled_from-kept P over Outside row.Outside es h

-- placed events stay placed
pub tabled-placed : (text : List ℕ) (events : List Event) → ArePlaced text events → ArePlaced text (tabled events)
tabled-placed text events h = tabled-kept (AtPoint (IsPlaced text)) (λ kind name e put k. k) events h
