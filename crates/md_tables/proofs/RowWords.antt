-- Parts of a row that are taken at once are what its states take.
use Rattle.std.proofs.Common.{◌≡◌, ◌≢◌, ℕ, ◌<◌, ◌≤◌, ◌⊎◌, Bool, true, false, nat_eq, Option, Some, None}
use Rattle.std.proofs.Common.{IfSome, refl, sym, ◌∙◌, ap, ap₂, arith, inl, inr, is_ok, rules, subst}
use Rattle.std.specs.Prelude.{OnOk, if◌then◌else◌}
use Rattle.std.proofs.lemmas.Bool.Decides.{nat_tests}
use Rattle.std.proofs.lemmas.Option.{same_Some}
use Rattle.std.specs.declared.result.Result.{Result}
use Rattle.std.specs.declared.result.Result.TheVariants as result
use Rattle.md_engine.specs.declared.event.Name.TheVariants.{Data}
use Rattle.md_engine.specs.declared.event.Point.{Point}
use Rattle.md_engine.specs.declared.state.Name.{Name as StateName}
use Rattle.md_engine.specs.declared.state.Name.TheVariants as n
use Rattle.md_engine.specs.declared.state.gfm_table.State.{State as TableState}
use Rattle.md_engine.specs.declared.state.gfm_table.State.TheVariants as its
use Rattle.md_engine.specs.declared.state.space_or_tab.State.TheVariants as white
use Rattle.md_engine.specs.declared.state.State.{State}
use Rattle.md_engine.specs.declared.state.State.TheVariants.{Error, Nok, Next, Retry}
use Rattle.md_engine.specs.declared.stay.Stay.TheVariants.{Plain}
use Rattle.md_engine.specs.Going.{SeesOn}
use Rattle.md_engine.specs.Run.{Remains, RunsHere, reading}
use Rattle.md_engine.specs.Scheme.{cells_left}
use Rattle.md_engine.specs.Staying.{SeesSome, stayed}
use Rattle.md_engine.specs.Staying.SeesSome.{Nothing, OneMore}
use Rattle.md_engine.specs.World.{Setting, World, after, looks, looks_at}
use Rattle.md_engine.proofs.Keeps.{runs-setting}
use Rattle.md_engine.proofs.Loops.{ArrivedHere, call-sees, arrived-calls, arrived-first, arrived-runs, not_error}
use Rattle.md_engine.proofs.Loops.{reading-same}
use Rattle.md_engine.proofs.Points.{cells-fall}
use Rattle.md_engine.proofs.StayLemmas.{seen-inside, some-falls, some-setting}
use Rattle.md_engine.proofs.Walks.{TakesSo, Within, then-seen, then-stays, then-takes, then-waits}
use Rattle.md_meaning.specs.Ascii.{pipe}
use Rattle.md_meaning.specs.Rest.{is_white}
use Rattle.md_leaves.proofs.HeadingCalls.{sees-from}
use Rattle.md_events.specs.OneSpace.{spaced}
use Rattle.md_events.specs.Spaces.{any_size, sees_white, white_then}
use Rattle.md_events.specs.Stays.{TakesEach}
use Rattle.md_events.specs.Transition.{Transition, entered_link, exited, taken}
use Rattle.md_events.proofs.OneSpace.{HasWhite, space-run}
use Rattle.md_tables.specs.Row.{Piece, at_break_code, begun, after_part, data_code, escape_code, is_escaped, is_text}
use Rattle.md_tables.specs.Row.{name_at, piece, piece_of, place_of, row_transition, shut, state_at, text_link}
use Rattle.md_tables.specs.Row.Piece.{Ends, White, Divides, Escapes, Other}
use Rattle.md_tables.specs.RowWords.{Proceeds, ProceedsTo, IsGap, Passes, RowStep, TakesTo, divided, is_backslash}
use Rattle.md_tables.specs.RowWords.IsGap.{NoSpace, OneSpace}
use Rattle.md_tables.specs.RowWords.RowStep.{OfRow, OfWhite}
use Rattle.md_tables.specs.declared.row.Place.{Place}
use Rattle.md_tables.specs.declared.row.Place.TheVariants as place
use Rattle.md_tables.specs.declared.row.Row.{Row}
use Rattle.md_tables.specs.declared.row.Row.TheVariants.{Head, Body}

-- From a state of a row one has reached another, which sees what is here.
pub record IsValid (r : Row) (first : StateName) (old : World) (name : StateName) (w : World) : Type 0 where
  pub arrived : ArrivedHere (RowStep r) first old name w
  pub current : w.current ≡ looks w
  pub may : (w.point ≡ old.point) ⊎ (w.point.index < w.setting.limit)
  pub setting : w.setting ≡ old.setting

pub is_valid-first : (r : Row) (first : StateName) (w : World) → w.current ≡ looks w → IsValid r first w first w
is_valid-first r first w seen = record {
  arrived = arrived-first (RowStep r) first w;
  current = seen;
  may = inl refl;
  setting = refl;
}

-- a transition, as a step
stepped : (r : Row) (p : Place) (w : World) (to : State) (new : World) →
    row_transition r p w ≡ record { to = to; world = new } → RowStep r (name_at r p) w to new
stepped r p w to new e =
    OfRow p refl (sym (ap (λ (x : Transition). x.to) e)) (sym (ap (λ (x : Transition). x.world) e))

has-white : (r : Row) → HasWhite (RowStep r)
has-white r state y to new e =
    OfWhite state refl (sym (ap (λ (x : Transition). x.to) e)) (sym (ap (λ (x : Transition). x.world) e))

-- It is passed, or left by one more call.

pub is_valid-passes : (r : Row) (first : StateName) (old : World) (name : StateName) (w : World) →
    IsValid r first old name w → Passes (RowStep r) first old name w
is_valid-passes r first old name w h = record {
  leads =
      λ to new runs is_end. arrived-runs (RowStep r) is_end first name old w to new (h.arrived is_end) (runs is_end);
  current = h.current;
  may = h.may;
  setting = h.setting;
}

sees-on : (to : State) (old w new : World) → SeesOn to w new → new.setting ≡ w.setting →
    (w.point ≡ old.point) ⊎ (w.point.index < w.setting.limit) → SeesOn to old new
sees-on to old w new h same may = sees-from to old w new h same may

-- what a run keeps of the setting
kept : (r : Row) (name : StateName) (w : World) (to : State) (new : World) → w.current ≡ looks w →
    RunsHere (RowStep r) name w to new → new.setting ≡ w.setting
kept r name w to new seen runs =
    runs-setting (RowStep r) true (Next name) w to new (runs true (Next name) w refl (reading-same w seen) (inl refl))

-- what is passed and then run is run
pub passes-runs : (r : Row) (first : StateName) (old : World) (name : StateName) (w : World) (to : State)
    (new : World) →
    Passes (RowStep r) first old name w → RunsHere (RowStep r) name w to new → SeesOn to w new →
    RunsHere (RowStep r) first old to new × SeesOn to old new
passes-runs r first old name w to new h runs sees = (
  h.leads to new runs,
  sees-on to old w new sees (kept r name w to new h.current runs) h.may,
)

may-on : (old w new : World) → new.setting ≡ w.setting → (w.point ≡ old.point) ⊎ (w.point.index < w.setting.limit) →
    (new.point ≡ w.point) ⊎ (new.point.index < new.setting.limit) →
    (new.point ≡ old.point) ⊎ (new.point.index < new.setting.limit)
may-on old w new same m (inr lt) = inr lt
may-on old w new same (inl k) (inl e) = inl (e ∙ k)
may-on old w new same (inr lt) (inl e) = inr (rw (e, same) lt)

pub passes-on : (r : Row) (first : StateName) (old : World) (name : StateName) (w : World) (next : StateName)
    (new : World) →
    Passes (RowStep r) first old name w → Passes (RowStep r) name w next new → Passes (RowStep r) first old next new
passes-on r first old name w next new h k = record {
  leads = λ to x runs. h.leads to x (k.leads to x runs);
  current = k.current;
  may = may-on old w new k.setting h.may k.may;
  setting = k.setting ∙ h.setting;
}

-- what continues from where one has come continues from the first
pub proceeds-on : (r : Row) (first : StateName) (old : World) (name : StateName) (w : World) (next : StateName)
    (result : Option State) (new : World) →
    Passes (RowStep r) first old name w → ProceedsTo r name w next result new → ProceedsTo r first old next result new
proceeds-on r first old name w next None new h k = passes-on r first old name w next new h k
proceeds-on r first old name w next (Some to) new h k = λ fine.
    passes-runs r first old name w to new h (k fine).0 (k fine).1

pub one-proceeds : (r : Row) (first : StateName) (old : World) (name : StateName) (w : World) (to : State)
    (new : World) →
    IsValid r first old name w → Within w → RowStep r name w to new → Remains to w new → new.setting ≡ w.setting →
    to ≢ Error → RunsHere (RowStep r) first old to new × SeesOn to old new
one-proceeds r first old name w to new h within step rest same fine = (
  arrived-calls (RowStep r) first name old w to new h.arrived step fine same within,
  sees-on to old w new (call-sees to w new rest same h.current) same h.may,
)

-- the end of a row changes no setting
shut-setting : (r : Row) (w : World) → (shut r w).setting ≡ w.setting
shut-setting Head w = refl
shut-setting Body w = refl

-- What a single call leaves.
part-remains : (r : Row) (w x : World) (y : Bool) → x.point ≡ w.point → x.current ≡ w.current → x.setting ≡ w.setting →
    Remains (after_part r x y).to w (after_part r x y).world × ((after_part r x y).world.setting ≡ w.setting)
part-remains r w x true there same text = ((there, same), text)
part-remains r w x false there same text = ((there, same), text)

pub at_break-remains : (r : Row) (w : World) (p : Piece) →
    Remains (at_break_code r w p).to w (at_break_code r w p).world × ((at_break_code r w p).world.setting ≡ w.setting)
at_break-remains r w Ends = (tt, shut-setting r w)
at_break-remains r w White = (tt, refl)
at_break-remains r w Divides = (tt, refl)
at_break-remains r w Escapes = ((refl, refl), refl)
at_break-remains r w Other = ((refl, refl), refl)

-- what is said of the state and the world that a transition has, of those that are the same
pub same-step : (P : State → World → Type 0) (a : Transition) (to : State) (new : World) → to ≡ a.to → new ≡ a.world →
    P a.to a.world → P to new
same-step P a to new e k h = subst (λ (x : State). P x new) (sym e) (subst (λ (x : World). P a.to x) (sym k) h)

-- After a part of a row one space is or none, and the next part begins.
gap-arrived : (r : Row) (first name : StateName) (old w x new : World) → IsValid r first old name w →
    Within w → Within x →
    x.setting ≡ w.setting → x.point ≡ w.point → x.current ≡ looks x →
    RowStep r name w (after_part r x (sees_white x.current)).to (after_part r x (sees_white x.current)).world →
    IsGap x new → ArrivedHere (RowStep r) first old (name_at r place.Break) new
gap-arrived r first name old w x _ h within inside same there look step (OneSpace one) is_end s v named saw may =
    let P : Bool → Type 0 = λ b. RowStep r name w (after_part r x b).to (after_part r x b).world in
    let is : sees_white x.current ≡ true = ap sees_white (look ∙ one.here) in
    let u : World = (white_then x 1 any_size (Next (name_at r place.Break)) Nok).world in
    space-run (RowStep r) is_end s v (name_at r place.Break) x (has-white r)
    (then-stays (RowStep r) is_end s v name (n.SpaceOrTab white.Start) w u (h.arrived is_end s v named saw may)
    (subst P is step) same within there look) look inside one
gap-arrived r first name old w x _ h within inside same there look step (NoSpace none) is_end s v named saw may =
    let P : Bool → Type 0 = λ b. RowStep r name w (after_part r x b).to (after_part r x b).world in
    then-stays (RowStep r) is_end s v name (name_at r place.Break) w x (h.arrived is_end s v named saw may)
    (subst P none step) same within there look

gap-is_valid : (r : Row) (first name : StateName) (old w x new : World) → IsValid r first old name w →
    Within w → Within x →
    x.setting ≡ w.setting → x.point ≡ w.point → x.current ≡ looks x →
    RowStep r name w (after_part r x (sees_white x.current)).to (after_part r x (sees_white x.current)).world →
    IsGap x new → IsValid r first old (name_at r place.Break) new
gap-is_valid r first name old w x _ h within inside same there look step (OneSpace one) = record {
  arrived = gap-arrived r first name old w x (spaced x) h within inside same there look step (OneSpace one);
  current = refl;
  may = inr one.next;
  setting = same ∙ h.setting;
}
gap-is_valid r first name old w x _ h within inside same there look step (NoSpace none) = record {
  arrived = gap-arrived r first name old w x x h within inside same there look step (NoSpace none);
  current = look;
  may = may-on old w x same h.may (inl there);
  setting = same ∙ h.setting;
}

pub gap-proceeds : (r : Row) (first name : StateName) (old w x new : World) (result : Option State) →
    IsValid r first old name w → Within w → Within x → x.setting ≡ w.setting → x.point ≡ w.point →
    x.current ≡ w.current →
    RowStep r name w (after_part r x (sees_white x.current)).to (after_part r x (sees_white x.current)).world →
    (result ≡ None → IsGap x new) →
    IfSome result (λ to. to ≢ Error → to ≡ (after_part r x (sees_white x.current)).to) →
    IfSome result (λ to. to ≢ Error → new ≡ (after_part r x (sees_white x.current)).world) →
    Proceeds r first old result new
gap-proceeds r first name old w x new None h within inside same there cur step none to_is new_is =
    let look : x.current ≡ looks x =
    cur ∙ h.current ∙ ap₂ (λ (y : Setting) (p : Point). looks_at y p) (sym same) (sym there) in
    is_valid-passes r first old (name_at r place.Break) new
    (gap-is_valid r first name old w x new h within inside same there look step (none refl))
gap-proceeds r first name old w x new (Some to) h within inside same there cur step none to_is new_is = λ fine.
    let a : Transition = after_part r x (sees_white x.current) in
    let left = part-remains r w x (sees_white x.current) there cur same in
    one-proceeds r first old name w to new h within
    (same-step (RowStep r name w) a to new (to_is fine) (new_is fine) step)
    (same-step (λ s y. Remains s w y) a to new (to_is fine) (new_is fine) left.0)
    (ap (λ (y : World). y.setting) (new_is fine) ∙ left.1) fine

pub gap-falls : (x new : World) → IsGap x new →
    cells_left new.setting.limit new.point ≤ cells_left x.setting.limit x.point
gap-falls x _ (OneSpace one) =
    let less = cells-fall x.setting x.point (seen-inside x.setting x.point 32 one.here) in omega (arith, less)
gap-falls x _ (NoSpace none) = omega arith

-- What follows what a state takes is seen,
then-sees : (r : Row) (first : StateName) (old : World) (name next : StateName) (w u : World) →
    IsValid r first old name w → Within w → RowStep r name w (Next next) u → u.setting ≡ w.setting →
    u.point.index < w.setting.limit → IsValid r first old next (reading u)
then-sees r first old name next w u h within step same lt =
    let inside : u.point.index < u.setting.limit = rw same lt in
    record {
      arrived =
          λ is_end s v named saw may.
          then-takes (RowStep r) is_end s v name next w u (h.arrived is_end s v named saw may) step same within inside;
      current = refl;
      may = inr inside;
      setting = same ∙ h.setting;
    }

-- or waited for
then-awaits : (r : Row) (first : StateName) (old : World) (name next : StateName) (w u : World) →
    IsValid r first old name w → Within w → RowStep r name w (Next next) u → u.setting ≡ w.setting →
    RunsHere (RowStep r) first old (Next next) u
then-awaits r first old name next w u h within step same =
    arrived-calls (RowStep r) first name old w (Next next) u h.arrived step
    (not_error (Next next) next refl) same within

-- and so a state continues that takes what is here.
pub takes-proceeds : (r : Row) (name : StateName) (p : Place) (w : World) (result : Option State) (new : World) →
    w.current ≡ looks w → Within w → RowStep r name w (Next (name_at r p)) (taken w) → TakesTo r p w result new →
    ProceedsTo r name w (name_at r p) result new
takes-proceeds r name p w None new seen within step h =
    let is_valid = then-sees r name w name (name_at r p) w (taken w) (is_valid-first r name w seen) within
    step refl h.1 in
    subst (Passes (RowStep r) name w (name_at r p)) (sym h.0)
    (is_valid-passes r name w (name_at r p) (reading (taken w)) is_valid)
takes-proceeds r name p w (Some to) new seen within step h = λ fine.
    let runs = then-awaits r name w name (name_at r p) w (taken w) (is_valid-first r name w seen) within step refl in
    subst (λ (s : State). RunsHere (RowStep r) name w s new × SeesOn s w new) (sym h.0)
    (subst (RunsHere (RowStep r) name w (Next (name_at r p))) (sym h.1) runs, tt)

-- A pipe is taken, and what follows it is seen,
pipe-step : (r : Row) (w : World) → w.current ≡ Some pipe →
    RowStep r (name_at r place.Break) w (Next (name_at r place.CellBefore)) (divided w)
pipe-step r w is =
    stepped r place.Break w (Next (name_at r place.CellBefore)) (divided w)
    (ap (λ (o : Option ℕ). at_break_code r w (piece o)) is)

pub pipe-taken : (r : Row) (first : StateName) (old w : World) → IsValid r first old (name_at r place.Break) w →
    Within w → w.current ≡ Some pipe → (divided w).point.index < w.setting.limit →
    IsValid r first old (name_at r place.CellBefore) (reading (divided w))
pipe-taken r first old w h within is lt =
    then-sees r first old (name_at r place.Break) (name_at r place.CellBefore) w (divided w) h within
    (pipe-step r w is) refl lt

-- or waited for
pub pipe-waits : (r : Row) (first : StateName) (old w : World) → IsValid r first old (name_at r place.Break) w →
    Within w → w.current ≡ Some pipe →
    RunsHere (RowStep r) first old (Next (name_at r place.CellBefore)) (divided w)
pipe-waits r first old w h within is =
    then-awaits r first old (name_at r place.Break) (name_at r place.CellBefore) w (divided w) h within
    (pipe-step r w is) refl

-- A word begins,
begins-code : (r : Row) (w : World) (p : Piece) → is_text p ≡ true →
    at_break_code r w p
    ≡ record { to = Retry (name_at r place.Data); world = entered_link w Data text_link }
begins-code r w Ends e = cc
begins-code r w White e = cc
begins-code r w Divides e = cc
begins-code r w Escapes e = refl
begins-code r w Other e = refl

pub word-begins : (r : Row) (w x : World) → w.current ≡ looks w → Within w → is_text (piece w.current) ≡ true →
    x ≡ entered_link w Data text_link →
    Passes (RowStep r) (name_at r place.Break) w (name_at r place.Data) x
word-begins r w x seen within text is =
    let first = name_at r place.Break in
    let inner = name_at r place.Data in
    let u : World = entered_link w Data text_link in
    subst (Passes (RowStep r) first w inner) (sym is)
    (is_valid-passes r first w inner u
    (record {
      arrived =
          λ is_end s v named saw may.
          then-stays (RowStep r) is_end s v first inner w u (arrived-first (RowStep r) first w is_end s v named saw may)
          (stepped r place.Break w (Retry inner) u (begins-code r w (piece w.current) text)) refl within refl seen;
      current = seen;
      may = inl refl;
      setting = refl;
    }))

-- is taken,
data-takes : (r : Row) → TakesEach Plain (name_at r place.Data) (row_transition r place.Data)
data-takes r w b e h = ap (data_code r w) (ap piece e ∙ other)
  where
    other : piece_of b ≡ Other
    other = search rules

takes-so : (r : Row) → TakesSo (RowStep r) (name_at r place.Data) Plain
takes-so r w b e h =
    stepped r place.Data (reading w) (Next (name_at r place.Data)) (stayed Plain w) (data-takes r (reading w) b e h)

pub word-taken : (r : Row) (first : StateName) (old w u : World) → IsValid r first old (name_at r place.Data) w →
    Within w → SeesSome Plain w u → u.point.index < u.setting.limit →
    IsValid r first old (name_at r place.Data) (reading u)
word-taken r first old w u h within some lt = record {
  arrived =
      λ is_end s v named saw may.
      then-seen (RowStep r) is_end s v (name_at r place.Data) Plain w u (takes-so r)
      (h.arrived is_end s v named saw may) h.current within some lt;
  current = refl;
  may = inr lt;
  setting = some-setting Plain w u some ∙ h.setting;
}

-- and waits for more
pub word-waits : (r : Row) (first : StateName) (old w u : World) → IsValid r first old (name_at r place.Data) w →
    Within w → SeesSome Plain w u → w.point.index < w.setting.limit → u.setting.limit ≤ u.point.index →
    RunsHere (RowStep r) first old (Next (name_at r place.Data)) u
word-waits r first old w u h within some lt le = λ is_end s v named saw may.
    then-waits (RowStep r) is_end s v (name_at r place.Data) Plain w u (takes-so r) (h.arrived is_end s v named saw may)
    h.current within some lt le

-- No less is left where it began,
pub word-rests : (w u v : World) → SeesSome Plain w u → v ≡ reading u →
    cells_left v.setting.limit v.point ≤ cells_left w.setting.limit w.point
word-rests w u v some sees =
    let before = some-falls Plain w u some in
    let same : cells_left v.setting.limit v.point ≡ cells_left u.setting.limit u.point =
    ap (λ (x : World). cells_left x.setting.limit x.point) sees in
    omega (arith, before, same)

-- and more if it ends here.
pub word-falls : (w u v : World) → w.current ≡ looks w → is_text (piece w.current) ≡ true → SeesSome Plain w u →
    v ≡ reading u → is_text (piece v.current) ≡ false →
    cells_left v.setting.limit v.point < cells_left w.setting.limit w.point
word-falls w _ v seen text Nothing sees none =
    let same : w.current ≡ v.current = seen ∙ sym (ap (λ (x : World). x.current) sees) in
    let no : is_text (piece w.current) ≡ false = ap (λ (o : Option ℕ). is_text (piece o)) same ∙ none in
    let not_both : true ≡ false = sym text ∙ no in
    cc
word-falls w _ v seen text (OneMore u some here) sees none =
    let before = some-falls Plain w u some in
    let less = cells-fall u.setting u.point (seen-inside u.setting u.point here.0 here.1) in
    let same : cells_left v.setting.limit v.point ≡ cells_left u.setting.limit (after u.setting u.point) =
    ap (λ (x : World). cells_left x.setting.limit x.point) sees in
    omega (arith, before, less, same)

-- A byte of a word is taken, which may be a backslash,
text-code : (r : Row) (w : World) (o : Option ℕ) (b : Bool) → is_text (piece o) ≡ true → is_backslash o ≡ b →
    data_code r w (piece o)
    ≡ record { to = Next (name_at r (if b then place.Escape else place.Data)); world = taken w }
text-code r w None b text is = cc
text-code r w (Some c) b text is = go (nat_eq c 10) (is_white c) (nat_eq c 124) refl refl refl
  where
    go : (x y z : Bool) → nat_eq c 10 ≡ x → is_white c ≡ y → nat_eq c 124 ≡ z →
        data_code r w (piece_of c)
        ≡ record { to = Next (name_at r (if b then place.Escape else place.Data)); world = taken w }
    go true y z a k m = let no : false ≡ true = rw a at text in cc
    go false true z a k m = let no : false ≡ true = rw (a, k) at text in cc
    go false false true a k m = let no : false ≡ true = rw (a, k, m) at text in cc
    go false false false a k m = by b is
      where
        by : (t : Bool) → nat_eq c 92 ≡ t →
            data_code r w (piece_of c)
            ≡ record { to = Next (name_at r (if t then place.Escape else place.Data)); world = taken w }
        by true t = rw (a, k, m, t) refl
        by false t = rw (a, k, m, t) refl

pub text-step : (r : Row) (w : World) (b : Bool) → is_text (piece w.current) ≡ true → is_backslash w.current ≡ b →
    RowStep r (name_at r place.Data) w (Next (name_at r (if b then place.Escape else place.Data))) (taken w)
text-step r w b text is =
    stepped r place.Data w (Next (name_at r (if b then place.Escape else place.Data))) (taken w)
    (text-code r w w.current b text is)

-- with what the backslash takes, if it takes any
pub escaped-step : (r : Row) (w : World) → is_escaped w.current ≡ true →
    RowStep r (name_at r place.Escape) w (Next (name_at r place.Data)) (taken w)
escaped-step r w is = stepped r place.Escape w (Next (name_at r place.Data)) (taken w) (ap (escape_code r w) is)

pub escapes-none : (r : Row) (w : World) → w.current ≡ looks w → Within w → is_escaped w.current ≡ false →
    Passes (RowStep r) (name_at r place.Escape) w (name_at r place.Data) w
escapes-none r w seen within none =
    let name = name_at r place.Escape in
    is_valid-passes r name w (name_at r place.Data) w
    (record {
      arrived =
          λ is_end s v named saw may.
          then-stays (RowStep r) is_end s v name (name_at r place.Data) w w
          (arrived-first (RowStep r) name w is_end s v named saw may)
          (stepped r place.Escape w (Retry (name_at r place.Data)) w (ap (escape_code r w) none)) refl within refl seen;
      current = seen;
      may = inl refl;
      setting = refl;
    })

-- What is left falls in a word from where it had begun, or from where one has reached in it;
pub become-down : (old w new : World) →
    (w ≡ old) ⊎ (cells_left w.setting.limit w.point < cells_left old.setting.limit old.point) →
    cells_left new.setting.limit new.point < cells_left w.setting.limit w.point →
    cells_left new.setting.limit new.point < cells_left old.setting.limit old.point
become-down old w new (inl e) less =
    subst (λ (y : World). cells_left new.setting.limit new.point < cells_left y.setting.limit y.point) e less
become-down old w new (inr lt) less = omega (arith, lt, less)

-- and so it has at its end, if text was where it had begun.
pub end-rests : (old w : World) →
    (w ≡ old) ⊎ (cells_left w.setting.limit w.point < cells_left old.setting.limit old.point) →
    cells_left w.setting.limit w.point ≤ cells_left old.setting.limit old.point
end-rests old w (inl e) =
    subst (λ (y : World). cells_left w.setting.limit w.point ≤ cells_left y.setting.limit y.point) e (omega arith)
end-rests old w (inr lt) = omega (arith, lt)

pub end-falls : (old w : World) →
    (w ≡ old) ⊎ (cells_left w.setting.limit w.point < cells_left old.setting.limit old.point) →
    is_text (piece old.current) ≡ true → is_text (piece w.current) ≡ false →
    cells_left w.setting.limit w.point < cells_left old.setting.limit old.point
end-falls old w (inl e) text none =
    let no : false ≡ true = sym none ∙ ap (λ (y : World). is_text (piece y.current)) e ∙ text in cc
end-falls old w (inr lt) text none = lt

-- Where a word ends, it is after a part of the row.
ends-code : (r : Row) (w : World) (o : Option ℕ) → is_text (piece o) ≡ false →
    data_code r w (piece o) ≡ after_part r (exited w Data) (sees_white o)
ends-code r w None e = refl
ends-code r w (Some b) e = go (nat_eq b 10) (is_white b) (nat_eq b 124) (nat_eq b 92) refl refl refl refl
  where
    go : (x y z v : Bool) → nat_eq b 10 ≡ x → is_white b ≡ y → nat_eq b 124 ≡ z → nat_eq b 92 ≡ v →
        data_code r w (piece_of b) ≡ after_part r (exited w Data) (is_white b)
    go true y z v a k m t =
        let is : b ≡ 10 = grind (arith, nat_tests) in
        subst (λ (i : ℕ). data_code r w (piece_of i) ≡ after_part r (exited w Data) (is_white i)) (sym is) refl
    go false true z v a k m t = rw (a, k) refl
    go false false true v a k m t = rw (a, k, m) refl
    go false false false true a k m t = let no : true ≡ false = rw (a, k, m, t) at e in cc
    go false false false false a k m t = let no : true ≡ false = rw (a, k, m, t) at e in cc

pub ended-step : (r : Row) (w x : World) → x ≡ exited w Data → is_text (piece w.current) ≡ false →
    RowStep r (name_at r place.Data) w (after_part r x (sees_white x.current)).to
    (after_part r x (sees_white x.current)).world
ended-step r w x is none =
    let P : World → Type 0 = λ y.
    RowStep r (name_at r place.Data) w (after_part r y (sees_white y.current)).to
    (after_part r y (sees_white y.current)).world in
    subst P (sym is)
    (stepped r place.Data w (after_part r (exited w Data) (sees_white w.current)).to
    (after_part r (exited w Data) (sees_white w.current)).world (ends-code r w w.current none))

-- Where a row begins, it is after a part of it, too.
pub begun-stays : (r : Row) (w x : World) → x ≡ begun r w →
    (x.setting ≡ w.setting) × (x.point ≡ w.point) × (x.current ≡ w.current)
begun-stays Head w x is =
    (ap (λ (y : World). y.setting) is, ap (λ (y : World). y.point) is, ap (λ (y : World). y.current) is)
begun-stays Body w x is =
    (ap (λ (y : World). y.setting) is, ap (λ (y : World). y.point) is, ap (λ (y : World). y.current) is)

pub begun-step : (r : Row) (w x : World) → x ≡ begun r w →
    RowStep r (name_at r place.Start) w (after_part r x (sees_white x.current)).to
    (after_part r x (sees_white x.current)).world
begun-step r w x is =
    let P : World → Type 0 = λ y.
    RowStep r (name_at r place.Start) w (after_part r y (sees_white w.current)).to
    (after_part r y (sees_white w.current)).world in
    let Q : Option ℕ → Type 0 = λ o.
    RowStep r (name_at r place.Start) w (after_part r x (sees_white o)).to (after_part r x (sees_white o)).world in
    subst Q (sym (begun-stays r w x is).2) (subst P (sym is) (OfRow place.Start refl refl refl))

pub on-ok : {T E : Type 0} → (x : Result T E) (P : Type 0) → is_ok x ≡ true → OnOk x P → P
on-ok (result.Ok v) P e h = h
on-ok (result.Err v) P e h = cc

-- the state at the place of a state is that state
pub place-named : (r : Row) (state : TableState) (p : Place) → place_of r state ≡ Some p → state ≡ state_at r p
place-named Head its.HeadRowBefore p e = ap (state_at Head) (same_Some place.Start p e)
place-named Head its.HeadRowBreak p e = ap (state_at Head) (same_Some place.Break p e)
place-named Head its.HeadRowData p e = ap (state_at Head) (same_Some place.Data p e)
place-named Head its.HeadRowEscape p e = ap (state_at Head) (same_Some place.Escape p e)
place-named Head its.HeadRowCellBefore p e = ap (state_at Head) (same_Some place.CellBefore p e)
place-named Body its.BodyRowStart p e = ap (state_at Body) (same_Some place.Start p e)
place-named Body its.BodyRowBreak p e = ap (state_at Body) (same_Some place.Break p e)
place-named Body its.BodyRowData p e = ap (state_at Body) (same_Some place.Data p e)
place-named Body its.BodyRowEscape p e = ap (state_at Body) (same_Some place.Escape p e)
place-named Body its.BodyRowCellBefore p e = ap (state_at Body) (same_Some place.CellBefore p e)
place-named r state p e = cc
