-- All containers of a line: those that continue, and those that open, have the events of its cells.
use Rattle.std.proofs.Common.{◌≡◌, ℕ, zero, suc, ◌^◌, ◌<◌, Bool, false, List, [], ◌∷◌, ◌++◌, length, map, refl, sym, ap}
use Rattle.std.proofs.Common.{ap₂, subst, arith}
use Rattle.std.specs.Prelude.{Option, Some, None}
use Rattle.md_engine.specs.declared.configuration.ParseOptions.{ParseOptions}
use Rattle.md_engine.specs.declared.event.Event.{Event}
use Rattle.md_engine.specs.declared.event.Point.{Point}
use Rattle.md_engine.specs.declared.tokenizer.Line.{Line}
use Rattle.md_engine.specs.Meaning.{Cell}
use Rattle.md_meaning.specs.Containers.{Taken, continues, opens}
use Rattle.md_meaning.specs.Rest.{Rest}
use Rattle.md_meaning.specs.State.{At, Container, Path, Within}
use Rattle.md_meaning.proofs.TextsLemmas.{NoEnding}
use Rattle.md_events.proofs.FeedLines.{Stops}
use Rattle.md_events.proofs.RestCells.{past_rest, rest_cells}
use Rattle.proof_frame.specs.Passed.{Passed}
use Rattle.proof_frame.proofs.PassedFacts.{Agree, HasFurther, HasOpening}
use Rattle.proof_frame.proofs.RegistryRead.{AreRead}
use Rattle.md_registry.specs.Registry.{proceeds_at, opens_at}
use Rattle.md_registry.proofs.RegistryContainers.{proceeds-agrees, opens-agrees}
use Rattle.proof_rows.specs.Rows.{Front, continued_prefixes, in_front, no_front, opened_prefixes}
use Rattle.proof_rows.specs.Valid.{containers_of}
use Rattle.md_events.specs.Exact.Places.{TextLine}
use Rattle.md_events.specs.Exact.Prefixes.{following_all, further_prefix, further_prefixes, taken_prefixes, opened}
use Rattle.proof_exact_pieces.proofs.OnLine.{LineIn, OnLine}
use Rattle.proof_exact_lines.specs.Unlisted.{plain_begin, plain_begins}
use Rattle.proof_rows.proofs.ContainersSame.{proceeds-same, opens-same}

-- the containers of these
abbrev pub held_in : List Taken → List Container
held_in ts = map (λ (t : Taken). t.container) ts

-- these containers of a line have these events, and this rest is left of it
pub record IsFront (cell_line : Line) (text following : List ℕ) (line : TextLine) (stop : List Cell) (ts : List Taken)
    (es : List Event) (left : Rest) (f : Front) : Type 0 where
  pub containers : held_in ts ≡ f.containers
  pub events : es ≡ f.events
  pub on : OnLine text following line left f.point
  pub cells : f.cells ≡ rest_cells cell_line left f.point ++ stop
  pub plain : NoEnding left.bytes
  pub short : length f.cells < 2 ^ 63

none-front : (cell_line : Line) (text following : List ℕ) (line : TextLine) (stop : List Cell) (r : Rest) (p : Point) →
    OnLine text following line r p → NoEnding r.bytes → length (rest_cells cell_line r p ++ stop) < 2 ^ 63 →
    IsFront cell_line text following line stop [] [] r (no_front (rest_cells cell_line r p ++ stop) p)
none-front cell_line text following line stop r p on plain short =
    record { containers = refl; events = refl; on = on; cells = refl; plain = plain; short = short }

-- one more in front
more-front : (cell_line : Line) (text following : List ℕ) (line : TextLine) (stop : List Cell) (t : Taken)
    (ts : List Taken) (es fs : List Event) (left : Rest) (u : Passed) (f : Front) →
    u.container ≡ t.container → es ≡ u.events → IsFront cell_line text following line stop ts fs left f →
    IsFront cell_line text following line stop (t ∷ ts) (es ++ fs) left (in_front u f)
more-front cell_line text following line stop t ts es fs left u f c e has = record {
  containers = ap₂ (λ (d : Container) (cs : List Container). d ∷ cs) (sym c) has.containers;
  events = ap₂ (λ (xs ys : List Event). xs ++ ys) e has.events;
  on = has.on;
  cells = has.cells;
  plain = has.plain;
  short = has.short;
}

-- Those that continue have the events of the cells.
pub continued-same : (options : ParseOptions) (cell_line : Line) (text following : List ℕ) (line : TextLine) (q : Path)
    (r : Rest) (p : Point) (stop : List Cell) →
    AreRead (containers_of q) → LineIn text following line → OnLine text following line r p →
    NoEnding r.bytes → Stops stop →
    length (rest_cells cell_line r p ++ stop) < 2 ^ 63 →
    IsFront cell_line text following line stop (taken_prefixes options q r)
    (further_prefixes line r (taken_prefixes options q r))
    (following_all r (taken_prefixes options q r))
    (continued_prefixes options (containers_of q) (rest_cells cell_line r p ++ stop) p)
continued-same options cell_line text following line (At s) r p stop read is on plain k short =
    none-front cell_line text following line stop r p on plain short
continued-same options cell_line text following line (Within before c q) r p stop read is on plain k short =
    go (λ s x there bare fits. continued-same options cell_line text following line q s x stop read.1 is
    there bare k fits)
    (proceeds_at options c cells p) (continues options c r) refl refl
    (proceeds-agrees options c read.0 cell_line text following r stop p on.valid plain k short)
  where
    cells : List Cell
    cells = rest_cells cell_line r p ++ stop

    Below : Type 0
    Below =
        (s : Rest) (x : Point) → OnLine text following line s x → NoEnding s.bytes →
        length (rest_cells cell_line s x ++ stop) < 2 ^ 63 →
        IsFront cell_line text following line stop (taken_prefixes options q s)
        (further_prefixes line s (taken_prefixes options q s))
        (following_all s (taken_prefixes options q s))
        (continued_prefixes options (containers_of q) (rest_cells cell_line s x ++ stop) x)

    taken_by : Option Taken → List Taken
    taken_by o = elim o [ Some t ↦ t ∷ taken_prefixes options q t.rest | None ↦ [] ]

    front_by : Option Passed → Front
    front_by o = elim o [
      | None ↦ no_front cells p
      | Some u ↦ in_front u (continued_prefixes options (containers_of q) u.cells u.point)
    ]

    go : Below → (a : Option Passed) (b : Option Taken) → proceeds_at options c cells p ≡ a →
        continues options c r ≡ b →
        Agree (HasFurther cell_line text following p (past_rest r p) stop cells) a b →
        IsFront cell_line text following line stop (taken_by b) (further_prefixes line r (taken_by b))
        (following_all r (taken_by b))
        (front_by a)
    go below None None e f agree = none-front cell_line text following line stop r p on plain short
    go below None (Some t) e f agree = absurd agree
    go below (Some u) None e f agree = absurd agree
    go below (Some u) (Some t) e f agree =
        let has = proceeds-same options c cell_line text following line r p stop u t read.0 is on plain k short e f in
        let fed = agree.passes.fed in
        let size = ap length fed in
        let less = agree.passes.shorter in
        more-front cell_line text following line stop t (taken_prefixes options q t.rest)
        (further_prefix line t.container r t.rest)
        (further_prefixes line t.rest (taken_prefixes options q t.rest))
        (following_all t.rest (taken_prefixes options q t.rest)) u
        (continued_prefixes options (containers_of q) u.cells u.point) agree.passes.container has.events
        (subst
        (λ (l : List Cell).
        IsFront cell_line text following line stop (taken_prefixes options q t.rest)
        (further_prefixes line t.rest (taken_prefixes options q t.rest))
        (following_all t.rest (taken_prefixes options q t.rest))
        (continued_prefixes options (containers_of q) l u.point))
        (sym fed)
        (below t.rest u.point has.on agree.passes.no_ending (omega (arith, size, less, short))))

-- Those that open, without the lists around items, have the events of the cells too.
pub opened-same : (options : ParseOptions) (cell_line : Line) (text following : List ℕ) (line : TextLine)
    (interrupting : Bool) (size : ℕ) (r : Rest) (p : Point) (stop : List Cell) →
    LineIn text following line → OnLine text following line r p → NoEnding r.bytes → Stops stop →
    length (rest_cells cell_line r p ++ stop) < 2 ^ 63 →
    IsFront cell_line text following line stop (opened options interrupting size r)
    (plain_begins line r (opened options interrupting size r))
    (following_all r (opened options interrupting size r))
    (opened_prefixes options interrupting size (rest_cells cell_line r p ++ stop) p)
opened-same options cell_line text following line interrupting zero r p stop is on plain k short =
    none-front cell_line text following line stop r p on plain short
opened-same options cell_line text following line interrupting (suc size) r p stop is on plain k short =
    go (λ s x there bare fits. opened-same options cell_line text following line false size s x stop is
    there bare k fits)
    (opens_at options interrupting cells p) (opens options interrupting r) refl refl
    (opens-agrees options interrupting cell_line text following r stop p on.valid plain k short)
  where
    cells : List Cell
    cells = rest_cells cell_line r p ++ stop

    Below : Type 0
    Below =
        (s : Rest) (x : Point) → OnLine text following line s x → NoEnding s.bytes →
        length (rest_cells cell_line s x ++ stop) < 2 ^ 63 →
        IsFront cell_line text following line stop (opened options false size s)
        (plain_begins line s (opened options false size s))
        (following_all s (opened options false size s))
        (opened_prefixes options false size (rest_cells cell_line s x ++ stop) x)

    taken_by : Option Taken → List Taken
    taken_by o = elim o [ Some t ↦ t ∷ opened options false size t.rest | None ↦ [] ]

    front_by : Option Passed → Front
    front_by o = elim o [
      | None ↦ no_front cells p
      | Some u ↦ in_front u (opened_prefixes options false size u.cells u.point)
    ]

    go : Below → (a : Option Passed) (b : Option Taken) → opens_at options interrupting cells p ≡ a →
        opens options interrupting r ≡ b →
        Agree (HasOpening cell_line text following p (past_rest r p) stop cells) a b →
        IsFront cell_line text following line stop (taken_by b) (plain_begins line r (taken_by b))
        (following_all r (taken_by b))
        (front_by a)
    go below None None e f agree = none-front cell_line text following line stop r p on plain short
    go below None (Some t) e f agree = absurd agree
    go below (Some u) None e f agree = absurd agree
    go below (Some u) (Some t) e f agree =
        let has = opens-same options interrupting cell_line text following line r p stop u t is on plain k short e f in
        let fed = agree.passes.fed in
        let size_is = ap length fed in
        let less = agree.passes.shorter in
        more-front cell_line text following line stop t (opened options false size t.rest)
        (plain_begin line t.container r t.rest)
        (plain_begins line t.rest (opened options false size t.rest))
        (following_all t.rest (opened options false size t.rest)) u (opened_prefixes options false size u.cells u.point)
        agree.passes.container has.events
        (subst
        (λ (l : List Cell).
        IsFront cell_line text following line stop (opened options false size t.rest)
        (plain_begins line t.rest (opened options false size t.rest))
        (following_all t.rest (opened options false size t.rest)) (opened_prefixes options false size l u.point))
        (sym fed)
        (below t.rest u.point has.on agree.passes.no_ending (omega (arith, size_is, less, short))))
