-- Where cells are put into a row, its events nest as before: one event of a row.
use Rattle.std.proofs.Common.{◌≡◌, ◌⊎◌, inl, inr, ℕ, zero, suc, Bool, true, false, cond, ◌&&◌, List, [], ◌∷◌}
use Rattle.std.proofs.Common.{◌++◌, refl, ap, sym, ◌∙◌, subst}
use Rattle.std.proofs.lemmas.Bool.{and_parts, and_right, or_left, or_right}
use Rattle.md_engine.specs.declared.event.Event.{Event}
use Rattle.md_engine.specs.declared.event.Kind.{Kind}
use Rattle.md_engine.specs.declared.event.Kind.TheVariants.{Enter, Exit}
use Rattle.md_engine.specs.declared.event.Name.{Name}
use Rattle.md_engine.specs.declared.event.Name.TheVariants as n
use Rattle.md_engine.specs.declared.event.Point.{Point}
use Rattle.md_events.specs.Events.Nested.{Fits, enter, exit, is_enter, is_exit, open_following}
use Rattle.md_events.proofs.NestedLemmas.{at_or_before-refl}
use Rattle.md_tables.specs.Cells.{Step, begins_divider, begins_inner, cell_name, divider_step, ends_divider, ends_inner}
use Rattle.md_tables.specs.Cells.{ends_with, first_is, front_step, gap_step, is_continued, inner_name, inner_step}
use Rattle.md_tables.specs.Cells.{inside_step, is_divider, is_inner, is_last, is_white, last_step, passed, piece_step}
use Rattle.md_tables.specs.Cells.{row_ends, within_step}
use Rattle.md_tables.specs.TableLines.{row_name}
use Rattle.md_tables.specs.declared.cells.RowKind.{RowKind}
use Rattle.md_tables.specs.declared.cells.RowKind.TheVariants.{Delimiter, Text}
use Rattle.md_tables.specs.declared.cells.Stage.{Stage}
use Rattle.md_tables.specs.declared.cells.Stage.TheVariants.{Following, Front, Gap, Inner, Last, Outside, Within}
use Rattle.md_order.specs.HeadingsNest.{IsByItself}
use Rattle.md_order.specs.TablesNest.{is_cell_part}
use Rattle.md_order.proofs.Nests.Leads.{Before, Leads, alone-begun, alone-ended, leads-append, leads-event, leads-none}
use Rattle.md_order.proofs.Nests.Leads.{leads-under}

-- What is open.

-- what a stage has open
abbrev pub added : Stage → List Name
added Outside = []
added (Front k) = []
added (Within k) = cell_name k ∷ []
added (Inner k) = inner_name k ∷ cell_name k ∷ []
added Gap = inner_name Text ∷ cell_name Text ∷ []
added (Last k) = cell_name k ∷ []
added Following = []

-- with what is open of the row itself: in a gap that is a word
abbrev pub opened : Stage → List Name → List Name
opened Gap names = n.Data ∷ added Gap
opened stage names = names ++ added stage

-- the outermost of them is a part of what a cell holds
abbrev HoldsPart : RowKind → List Name → Type 0
HoldsPart k [] = ⊥
HoldsPart k (name ∷ []) = is_inner k name ≡ true
HoldsPart k (name ∷ outer ∷ names) = HoldsPart k (outer ∷ names)

-- in what a cell holds: in a part of it, or before a further one
abbrev InPart : RowKind → List Name → List Event → Type 0
InPart k names es = HoldsPart k names ⊎ ((names ≡ []) × (first_is (begins_inner k) es ≡ true))

-- so many events of whitespace before a word
abbrev WhiteAhead : ℕ → List Event → Type 0
WhiteAhead zero es = first_is (begins_inner Text) es ≡ true
WhiteAhead (suc m) [] = ⊥
WhiteAhead (suc m) (e ∷ es) = (is_white e.name ≡ true) × WhiteAhead m es

-- a stage in a row of a kind, where these names are open in the row, before these events
abbrev pub IsIn : RowKind → Stage → List Name → List Event → Type 0
IsIn k Outside names es = ⊥
IsIn k (Front j) names es = j ≡ k
IsIn k (Within j) names es = j ≡ k
IsIn k (Inner j) names es = (j ≡ k) × InPart k names es
IsIn k Gap names es = (k ≡ Text) × ((m : ℕ) × WhiteAhead m es)
IsIn k (Last j) names es = (j ≡ k) × (first_is ends_divider es ≡ true)
IsIn k Following names es = Unit {0}

-- what is known of an event
pub record Becomes (k : RowKind) (names : List Name) (p : Point) (e : Event) : Type 0 where
  pub fits : Fits names e.kind e.name
  pub on : Before p e.point
  pub alone : is_cell_part k e.name ≡ true → IsByItself names e.kind e.name

-- and is shown of what is given for it
pub record Proceeds (k : RowKind) (stage : Stage) (names : List Name) (p : Point) (e : Event) (es : List Event)
    (s : Step) : Type 0 where
  pub leads : Leads (opened stage names) (opened s.stage (open_following names e.kind e.name)) p e.point s.given
  pub is_in : IsIn k s.stage (open_following names e.kind e.name) es

-- Which event it is.

record Begun (k : RowKind) (e : Event) : Type 0 where
  enters : e.kind ≡ Enter
  part : is_cell_part k e.name ≡ true

record Ended (k : RowKind) (e : Event) : Type 0 where
  exits : e.kind ≡ Exit
  part : is_cell_part k e.name ≡ true

entered : (kind : Kind) → is_enter kind ≡ true → kind ≡ Enter
entered Enter h = refl
entered Exit h = absurd (let no : false ≡ true = h in cc)

left : (kind : Kind) → is_exit kind ≡ true → kind ≡ Exit
left Exit h = refl
left Enter h = absurd (let no : false ≡ true = h in cc)

divider-begun : (k : RowKind) (e : Event) → begins_divider e ≡ true → Begun k e
divider-begun k e h =
    let parts = and_parts (is_enter e.kind) (is_divider e.name) h in
    record { enters = entered e.kind parts.0; part = or_left (is_divider e.name) (is_inner k e.name) parts.1 }

divider-ended : (k : RowKind) (e : Event) → ends_divider e ≡ true → Ended k e
divider-ended k e h =
    let parts = and_parts (is_exit e.kind) (is_divider e.name) h in
    record { exits = left e.kind parts.0; part = or_left (is_divider e.name) (is_inner k e.name) parts.1 }

inner-begun : (k : RowKind) (e : Event) → begins_inner k e ≡ true → Begun k e
inner-begun k e h =
    let parts = and_parts (is_enter e.kind) (is_inner k e.name) h in
    record { enters = entered e.kind parts.0; part = or_right (is_divider e.name) (is_inner k e.name) parts.1 }

inner-ended : (k : RowKind) (e : Event) → ends_inner k e ≡ true → Ended k e
inner-ended k e h =
    let parts = and_parts (is_exit e.kind) (is_inner k e.name) h in
    record { exits = left e.kind parts.0; part = or_right (is_divider e.name) (is_inner k e.name) parts.1 }

-- a word
word-name : (name : Name) → is_inner Text name ≡ true → name ≡ n.Data
word-name n.Data h = refl
word-name _ h = absurd (let no : false ≡ true = h in cc)

white-word : (name : Name) → is_white name ≡ true → is_inner Text name ≡ false
white-word n.SpaceOrTab h = refl
white-word _ h = absurd (let no : false ≡ true = h in cc)

-- What leads from open names to others.

enters : (names : List Name) (name : Name) {p : Point} (q : Point) → Before p q →
    Leads names (name ∷ names) p q (enter name q ∷ [])
enters names name {p = p} q on = leads-event names p (enter name q) tt on

exits : (names : List Name) (name : Name) {p : Point} (q : Point) → Before p q →
    Leads (name ∷ names) names p q (exit name q ∷ [])
exits names name {p = p} q on = leads-event (name ∷ names) p (exit name q) refl on

-- the event itself, from a point on, among names that are open around it
itself : {k : RowKind} {names : List Name} {p : Point} {e : Event} → Becomes k names p e → (outer : List Name)
    (q : Point) → Before q e.point →
    Leads (names ++ outer) (open_following names e.kind e.name ++ outer) q e.point (e ∷ [])
itself {names = names} {e = e} c outer q on = leads-under outer (e ∷ []) (leads-event names q e c.fits on)

-- names of which none is
starts : {names outer to : List Name} {p q : Point} (xs : List Event) → names ≡ [] → Leads outer to p q xs →
    Leads (names ++ outer) to p q xs
starts {outer = outer} {to = to} {p = p} {q = q} xs none h =
    subst (λ (l : List Name). Leads (l ++ outer) to p q xs) (sym none) h

stops : {names outer start : List Name} {p q : Point} (xs : List Event) → names ≡ [] → Leads start outer p q xs →
    Leads start (names ++ outer) p q xs
stops {outer = outer} {start = start} {p = p} {q = q} xs none h =
    subst (λ (l : List Name). Leads start (l ++ outer) p q xs) (sym none) h

-- the begin of a part that is by itself
begins-part : {k : RowKind} {names : List Name} {p : Point} {e : Event} → Becomes k names p e → Begun k e →
    (outer : List Name) → Leads outer (open_following names e.kind e.name ++ outer) e.point e.point (e ∷ [])
begins-part {names = names} {e = e} c begun outer =
    subst (λ (l : List Name). Leads (l ++ outer) (open_following names e.kind e.name ++ outer) e.point e.point (e ∷ []))
    (alone-begun names e begun.enters (c.alone begun.part)) (itself c outer e.point (at_or_before-refl e.point))

-- and its end
ends-part : {k : RowKind} {names : List Name} {p : Point} {e : Event} → Becomes k names p e → Ended k e →
    (outer : List Name) → Leads (names ++ outer) outer p e.point (e ∷ [])
ends-part {names = names} {p = p} {e = e} c ended outer =
    subst (λ (l : List Name). Leads (names ++ outer) (l ++ outer) p e.point (e ∷ []))
    (alone-ended names e ended.exits (c.alone ended.part)) (itself c outer p c.on)

none-following : {k : RowKind} {names : List Name} {p : Point} {e : Event} → Becomes k names p e → Ended k e →
    open_following names e.kind e.name ≡ []
none-following {names = names} {e = e} c ended = alone-ended names e ended.exits (c.alone ended.part)

-- A part begins in what a cell holds.
holds-begun : {k : RowKind} {names : List Name} {p : Point} {e : Event} → Becomes k names p e → Begun k e →
    is_inner k e.name ≡ true → HoldsPart k (open_following names e.kind e.name)
holds-begun {k = k} {names = names} {e = e} c begun part =
    subst (HoldsPart k)
    (sym
    (ap (λ (kind : Kind). open_following names kind e.name) begun.enters
    ∙ ap (λ (l : List Name). e.name ∷ l) (alone-begun names e begun.enters (c.alone begun.part)))) part

-- One event, stage by stage.

front-proceeds : (k : RowKind) (names : List Name) (p : Point) (e : Event) (es : List Event) → Becomes k names p e →
    Proceeds k (Front k) names p e es (front_step k e)
front-proceeds k names p e es c = go (begins_divider e) (begins_inner k e) refl refl
  where
    cell : Event
    cell = enter (cell_name k) e.point

    inner : Event
    inner = enter (inner_name k) e.point

    here : Before e.point e.point
    here = at_or_before-refl e.point

    go : (x y : Bool) → begins_divider e ≡ x → begins_inner k e ≡ y →
        Proceeds k (Front k) names p e es
        (cond x (record { given = cell ∷ e ∷ []; stage = Within k })
        (cond y (record { given = cell ∷ inner ∷ e ∷ []; stage = Inner k }) (passed e (Front k))))
    go true y is part =
        let begun = divider-begun k e is in
        record {
          leads =
              starts (cell ∷ e ∷ []) (alone-begun names e begun.enters (c.alone begun.part))
              (leads-append (cell ∷ []) (e ∷ []) (enters [] (cell_name k) e.point c.on)
              (begins-part c begun (cell_name k ∷ [])));
          is_in = refl;
        }
    go false true is part =
        let begun = inner-begun k e part in
        record {
          leads =
              starts (cell ∷ inner ∷ e ∷ []) (alone-begun names e begun.enters (c.alone begun.part))
              (leads-append (cell ∷ []) (inner ∷ e ∷ []) (enters [] (cell_name k) e.point c.on)
              (leads-append (inner ∷ []) (e ∷ []) (enters (cell_name k ∷ []) (inner_name k) e.point here)
              (begins-part c begun (inner_name k ∷ cell_name k ∷ []))));
          is_in = (refl, inl (holds-begun c begun (and_parts (is_enter e.kind) (is_inner k e.name) part).1));
        }
    go false false is part = record { leads = itself c [] p c.on; is_in = refl }

last-ends : (es : List Event) → is_last es ≡ true → first_is ends_divider es ≡ true
last-ends [] h = absurd (let no : false ≡ true = h in cc)
last-ends (e ∷ es) h = (and_parts (ends_divider e) (row_ends es) h).0

within-proceeds : (k : RowKind) (names : List Name) (p : Point) (e : Event) (es : List Event) → Becomes k names p e →
    Proceeds k (Within k) names p e es (within_step k e es)
within-proceeds k names p e es c = go (begins_divider e) (begins_inner k e) (is_last es) refl refl refl
  where
    cell : List Name
    cell = cell_name k ∷ []

    here : Before e.point e.point
    here = at_or_before-refl e.point

    inner : Event
    inner = enter (inner_name k) e.point

    go : (x y z : Bool) → begins_divider e ≡ x → begins_inner k e ≡ y → is_last es ≡ z →
        Proceeds k (Within k) names p e es
        (cond x (divider_step k e z)
        (cond y (record { given = inner ∷ e ∷ []; stage = Inner k }) (passed e (Within k))))
    go true y true is part last = record { leads = itself c cell p c.on; is_in = (refl, last-ends es last) }
    go true y false is part last =
        let begun = divider-begun k e is in
        let old : Event = exit (cell_name k) e.point in
        let new : Event = enter (cell_name k) e.point in
        record {
          leads =
              starts (old ∷ new ∷ e ∷ []) (alone-begun names e begun.enters (c.alone begun.part))
              (leads-append (old ∷ []) (new ∷ e ∷ []) (exits [] (cell_name k) e.point c.on)
              (leads-append (new ∷ []) (e ∷ []) (enters [] (cell_name k) e.point here) (begins-part c begun cell)));
          is_in = refl;
        }
    go false true z is part last =
        let begun = inner-begun k e part in
        record {
          leads =
              starts (inner ∷ e ∷ []) (alone-begun names e begun.enters (c.alone begun.part))
              (leads-append (inner ∷ []) (e ∷ []) (enters cell (inner_name k) e.point c.on)
              (begins-part c begun (inner_name k ∷ cell)));
          is_in = (refl, inl (holds-begun c begun (and_parts (is_enter e.kind) (is_inner k e.name) part).1));
        }
    go false false z is part last = record { leads = itself c cell p c.on; is_in = refl }

-- At the end of a part of what a cell holds.

piece-ends : (k : RowKind) (names : List Name) (p : Point) (e : Event) (es : List Event) → Becomes k names p e →
    Ended k e →
    Proceeds k (Inner k) names p e es (record { given = e ∷ exit (inner_name k) e.point ∷ []; stage = Within k })
piece-ends k names p e es c ended =
    let cell : List Name = cell_name k ∷ [] in
    let end : Event = exit (inner_name k) e.point in
    record {
      leads =
          stops (e ∷ end ∷ []) (none-following c ended)
          (leads-append (e ∷ []) (end ∷ []) (ends-part c ended (inner_name k ∷ cell))
          (exits cell (inner_name k) e.point (at_or_before-refl e.point)));
      is_in = refl;
    }

-- what ends was open alone
one-open : (names : List Name) (e : Event) → e.kind ≡ Exit → Fits names e.kind e.name →
    open_following names e.kind e.name ≡ [] → names ≡ e.name ∷ []
one-open names e exited fits none = go names e.kind exited fits none
  where
    go : (names : List Name) (kind : Kind) → kind ≡ Exit → Fits names kind e.name →
        open_following names kind e.name ≡ [] → names ≡ e.name ∷ []
    go names Enter h fits none = absurd (let no : Enter ≡ Exit = h in cc)
    go [] Exit h fits none = absurd fits
    go (name ∷ names) Exit h fits none =
        ap (λ (m : Name). m ∷ names) fits ∙ ap (λ (l : List Name). e.name ∷ l) none

white-ahead : (es : List Event) → is_continued Text es ≡ true → WhiteAhead (suc (suc zero)) es
white-ahead [] h = absurd (let no : false ≡ true = h in cc)
white-ahead (a ∷ []) h = absurd (let no : false ≡ true = h in cc)
white-ahead (a ∷ b ∷ es) h =
    let parts = and_parts (is_white a.name && is_white b.name) (first_is (begins_inner Text) es) h in
    let whites = and_parts (is_white a.name) (is_white b.name) parts.0 in
    (whites.0, (whites.1, parts.1))

piece-proceeds : (k : RowKind) (names : List Name) (p : Point) (e : Event) (es : List Event) → Becomes k names p e →
    ends_inner k e ≡ true → (x : Bool) → is_continued k es ≡ x → Proceeds k (Inner k) names p e es (piece_step k e x)
piece-proceeds Text names p e es c ends true on =
    let ended = inner-ended Text e ends in
    let word : names ≡ n.Data ∷ [] =
    one-open names e ended.exits c.fits (none-following c ended)
    ∙ ap (λ (m : Name). m ∷ []) (word-name e.name (and_parts (is_exit e.kind) (is_inner Text e.name) ends).1) in
    record {
      leads =
          subst (λ (l : List Name). Leads (l ++ added (Inner Text)) (opened Gap []) p e.point []) (sym word)
          (leads-none (opened Gap []) p e.point c.on);
      is_in = (refl, (suc (suc zero), white-ahead es on));
    }
piece-proceeds Delimiter names p e es c ends true on =
    record {
      leads = itself c (added (Inner Delimiter)) p c.on;
      is_in = (refl, inr (none-following c (inner-ended Delimiter e ends), on));
    }
piece-proceeds Text names p e es c ends false on = piece-ends Text names p e es c (inner-ended Text e ends)
piece-proceeds Delimiter names p e es c ends false on = piece-ends Delimiter names p e es c
    (inner-ended Delimiter e ends)

-- in it the part that is open stays so
holds-on : (k : RowKind) (names : List Name) (e : Event) → Fits names e.kind e.name → ends_inner k e ≡ false →
    HoldsPart k names → HoldsPart k (open_following names e.kind e.name)
holds-on k names e fits inside holds = go names e.kind fits inside holds
  where
    go : (names : List Name) (kind : Kind) → Fits names kind e.name → (is_exit kind && is_inner k e.name) ≡ false →
        HoldsPart k names → HoldsPart k (open_following names kind e.name)
    go [] kind fits inside holds = absurd holds
    go (name ∷ names) Enter fits inside holds = holds
    go (name ∷ []) Exit fits inside holds =
        absurd (let no : true ≡ false = sym holds ∙ ap (is_inner k) fits ∙ inside in cc)
    go (name ∷ outer ∷ names) Exit fits inside holds = holds

inner-proceeds : (k : RowKind) (names : List Name) (p : Point) (e : Event) (es : List Event) → Becomes k names p e →
    InPart k names (e ∷ es) → Proceeds k (Inner k) names p e es (inner_step k e es)
inner-proceeds k names p e es c part = go (ends_inner k e) refl
  where
    on : ends_inner k e ≡ false → InPart k names (e ∷ es) → HoldsPart k (open_following names e.kind e.name)
    on inside (inl holds) = holds-on k names e c.fits inside holds
    on inside (inr begins) =
        holds-begun c (inner-begun k e begins.1) (and_parts (is_enter e.kind) (is_inner k e.name) begins.1).1

    go : (x : Bool) → ends_inner k e ≡ x →
        Proceeds k (Inner k) names p e es (cond x (piece_step k e (is_continued k es)) (passed e (Inner k)))
    go true is = piece-proceeds k names p e es c is (is_continued k es) refl
    go false is = record { leads = itself c (added (Inner k)) p c.on; is_in = (refl, inl (on is part)) }

-- Between two words.
gap-proceeds : (names : List Name) (p : Point) (e : Event) (es : List Event) → Becomes Text names p e → (m : ℕ) →
    WhiteAhead m (e ∷ es) → Proceeds Text Gap names p e es (gap_step e)
gap-proceeds names p e es c zero begins = go (begins_inner Text e) begins
  where
    begun : Begun Text e
    begun = inner-begun Text e begins

    part : is_inner Text e.name ≡ true
    part = (and_parts (is_enter e.kind) (is_inner Text e.name) begins).1

    word : open_following names e.kind e.name ≡ n.Data ∷ []
    word =
        ap (λ (kind : Kind). open_following names kind e.name) begun.enters
        ∙ ap (λ (l : List Name). e.name ∷ l) (alone-begun names e begun.enters (c.alone begun.part))
        ∙ ap (λ (m : Name). m ∷ []) (word-name e.name part)

    go : (x : Bool) → x ≡ true → Proceeds Text Gap names p e es (record { given = []; stage = cond x (Inner Text) Gap })
    go true is = record {
      leads =
          subst (λ (l : List Name). Leads (opened Gap []) (l ++ added (Inner Text)) p e.point []) (sym word)
          (leads-none (opened Gap []) p e.point c.on);
      is_in = (refl, inl (holds-begun c begun part));
    }
    go false is = absurd (let no : false ≡ true = is in cc)
gap-proceeds names p e es c (suc m) white =
    go (begins_inner Text e) (and_right (is_enter e.kind) (is_inner Text e.name) (white-word e.name white.0))
  where
    go : (x : Bool) → x ≡ false → Proceeds Text Gap names p e es
        (record { given = []; stage = cond x (Inner Text) Gap })
    go true is = absurd (let no : true ≡ false = is in cc)
    go false is = record { leads = leads-none (opened Gap []) p e.point c.on; is_in = (refl, (m, white.1)) }

-- In the last pipe.
last-proceeds : (k : RowKind) (names : List Name) (p : Point) (e : Event) (es : List Event) → Becomes k names p e →
    ends_divider e ≡ true → Proceeds k (Last k) names p e es (last_step k e)
last-proceeds k names p e es c ends = go (ends_divider e) ends
  where
    end : Event
    end = exit (cell_name k) e.point

    go : (x : Bool) → x ≡ true →
        Proceeds k (Last k) names p e es
        (cond x (record { given = e ∷ end ∷ []; stage = Following }) (passed e (Last k)))
    go true is =
        let ended = divider-ended k e ends in
        record {
          leads =
              stops (e ∷ end ∷ []) (none-following c ended)
              (leads-append (e ∷ []) (end ∷ []) (ends-part c ended (cell_name k ∷ []))
              (exits [] (cell_name k) e.point (at_or_before-refl e.point)));
          is_in = tt;
        }
    go false is = absurd (let no : false ≡ true = is in cc)

-- Any stage.
pub cell-proceeds : (k : RowKind) (stage : Stage) (names : List Name) (p : Point) (e : Event) (es : List Event) →
    Becomes k names p e → IsIn k stage names (e ∷ es) → Proceeds k stage names p e es (inside_step stage e es)
cell-proceeds k Outside names p e es c h = absurd h
cell-proceeds k (Front j) names p e es c h =
    subst (λ (i : RowKind). Proceeds k (Front i) names p e es (front_step i e)) (sym h)
    (front-proceeds k names p e es c)
cell-proceeds k (Within j) names p e es c h =
    subst (λ (i : RowKind). Proceeds k (Within i) names p e es (within_step i e es)) (sym h)
    (within-proceeds k names p e es c)
cell-proceeds k (Inner j) names p e es c h =
    subst (λ (i : RowKind). Proceeds k (Inner i) names p e es (inner_step i e es)) (sym h.0)
    (inner-proceeds k names p e es c h.1)
cell-proceeds k Gap names p e es c h =
    subst (λ (i : RowKind). Becomes i names p e → Proceeds i Gap names p e es (gap_step e)) (sym h.0)
    (λ d. gap-proceeds names p e es d h.1.0 h.1.1) c
cell-proceeds k (Last j) names p e es c h =
    subst (λ (i : RowKind). Proceeds k (Last i) names p e es (last_step i e)) (sym h.0)
    (last-proceeds k names p e es c h.1)
cell-proceeds k Following names p e es c h = record { leads = itself c [] p c.on; is_in = tt }

-- At the end of a row nothing is open in it.

row-white : (k : RowKind) → is_white (row_name k) ≡ false
row-white Text = refl
row-white Delimiter = refl

row-divider : (k : RowKind) → is_divider (row_name k) ≡ false
row-divider Text = refl
row-divider Delimiter = refl

no-begin : (k : RowKind) (e : Event) → e.kind ≡ Exit → begins_inner k e ≡ true → ⊥
no-begin k e ends begins =
    let both : Enter ≡ Exit = sym (inner-begun k e begins).enters ∙ ends in
    absurd (let no : Enter ≡ Exit = both in cc)

row-itself : (k : RowKind) (outer : List Name) (p : Point) (e : Event) → e.kind ≡ Exit → row_name k ≡ e.name →
    Before p e.point → Leads (row_name k ∷ outer) outer p e.point (e ∷ [])
row-itself k outer p e ends named on = go e.kind ends
  where
    go : (kind : Kind) → kind ≡ Exit → Leads (row_name k ∷ outer) outer p e.point (record e { kind = kind } ∷ [])
    go Exit h = leads-event (row_name k ∷ outer) p (record e { kind = Exit }) named on
    go Enter h = absurd (let no : Enter ≡ Exit = h in cc)

pub row-ends : (k : RowKind) (stage : Stage) (outer : List Name) (p : Point) (e : Event) (es : List Event) →
    e.kind ≡ Exit → row_name k ≡ e.name → IsIn k stage [] (e ∷ es) → Before p e.point →
    Leads (opened stage [] ++ row_name k ∷ outer) outer p e.point (ends_with stage e)
row-ends k Outside outer p e es ends named h on = absurd h
row-ends k (Front j) outer p e es ends named h on = row-itself k outer p e ends named on
row-ends k (Within j) outer p e es ends named h on =
    leads-append (exit (cell_name j) e.point ∷ []) (e ∷ []) (exits (row_name k ∷ outer) (cell_name j) e.point on)
    (row-itself k outer e.point e ends named (at_or_before-refl e.point))
row-ends k (Inner j) outer p e es ends named h on = go h.1
  where
    go : InPart k [] (e ∷ es) → Leads (opened (Inner j) [] ++ row_name k ∷ outer) outer p e.point (e ∷ [])
    go (inl none) = absurd none
    go (inr begins) = absurd (no-begin k e ends begins.1)
row-ends k Gap outer p e es ends named h on = go h.1.0 h.1.1
  where
    go : (m : ℕ) → WhiteAhead m (e ∷ es) → Leads (opened Gap [] ++ row_name k ∷ outer) outer p e.point (e ∷ [])
    go zero begins = absurd (no-begin Text e ends begins)
    go (suc m) white =
        absurd (let no : false ≡ true = sym (row-white k) ∙ ap is_white named ∙ white.0 in cc)
row-ends k (Last j) outer p e es ends named h on =
    let ended : is_divider e.name ≡ true = (and_parts (is_exit e.kind) (is_divider e.name) h.1).1 in
    absurd (let no : false ≡ true = sym (row-divider k) ∙ ap is_divider named ∙ ended in cc)
row-ends k Following outer p e es ends named h on = row-itself k outer p e ends named on
