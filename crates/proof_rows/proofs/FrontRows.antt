-- The containers of a line that flow reads are those of its bytes: which continue and open, what is before the line,
-- and what is left of it.
use Rattle.md_engine.specs.declared.tokenizer.held_leaf.HeldLeaf.{HeldLeaf}
use Rattle.std.proofs.Common.{◌≡◌, ℕ, zero, suc, ◌^◌, ◌<◌, ◌≤◌, Bool, true, false, List}
use Rattle.std.proofs.Common.{[], ◌∷◌, ◌++◌, length, Option, cond}
use Rattle.proof_rows.specs.Rows.{is_inside, new_after, Front, Held, held_at, held_after, held_by, in_front, is_lazy}
use Rattle.proof_rows.specs.Rows.{line_kind, opened_prefixes, no_front, row_kind, continued_prefixes}
use Rattle.proof_rows.specs.Fronted.{prefixes_after, Contained, Prefixed, contained, contained_after, contained_by}
use Rattle.proof_rows.specs.Fronted.{contained_of, no_prefix, one_more, prefixes_new, prefixes_on}
use Rattle.proof_frame.specs.Change.{against, change_by, interrupts, open_following, others_of}
use Rattle.std.proofs.Common.{Some, None, refl, sym, ap, ap₂, ◌∙◌, subst, arith, append_assoc}
use Rattle.md_engine.specs.declared.configuration.ParseOptions.{ParseOptions}
use Rattle.md_engine.specs.declared.event.Event.{Event}
use Rattle.md_engine.specs.declared.event.Point.{Point}
use Rattle.md_engine.specs.declared.tokenizer.Line.{Line}
use Rattle.md_engine.specs.Meaning.{Cell}
use Rattle.md_meaning.specs.Containers.{Taken, continues, opens}
use Rattle.md_meaning.specs.Rest.{Rest}
use Rattle.md_meaning.specs.State.{Container}
use Rattle.md_meaning.proofs.ContainerLemmas.{opens-leaves}
use Rattle.md_events.proofs.FeedLines.{Stops}
use Rattle.md_events.proofs.RestCells.{RestAt, past_rest, rest_cells}
use Rattle.md_meaning.proofs.TextsLemmas.{NoEnding}
use Rattle.proof_rows.specs.WithoutMdx.{IsWithoutMdx}
use Rattle.proof_frame.specs.Passed.{Passed}
use Rattle.md_registry.specs.Registry.{proceeds_at, opens_at}
use Rattle.proof_rows.proofs.ContainedLemmas.{change-opens}
use Rattle.proof_frame.proofs.FrontFacts.{Following, Begins, Proceeds, LinePrefix, ReadFront, front_read-begins}
use Rattle.proof_frame.proofs.FrontFacts.{front_read-proceeds, front_read-none}
use Rattle.proof_rows.proofs.RowKinds.{kind-rest}
use Rattle.proof_frame.proofs.RegistryRead.{AreRead, read-append, read-drop}
use Rattle.proof_frame.proofs.PassedFacts.{Agree, HasFurther, HasOpening, HasPassed}
use Rattle.md_registry.proofs.RegistryContainers.{proceeds-agrees, opens-agrees}

-- What is before a line.

-- containers by the cells of a line and by its bytes
record HasFront (line : Line) (text past : List ℕ) (end : Point) (stop cells : List Cell) (f : Front)
    (q : Prefixed) : Type 0 where
  containers : f.containers ≡ q.containers
  read : AreRead f.containers
  fed : f.cells ≡ rest_cells line q.rest f.point ++ stop
  valid : RestAt text past q.rest f.point
  ends : past_rest q.rest f.point ≡ end
  no_ending : NoEnding q.rest.bytes
  shorter : length f.cells ≤ length cells

front-none : (line : Line) (text past : List ℕ) (r : Rest) (stop : List Cell) (p : Point) → RestAt text past r p →
    NoEnding r.bytes →
    HasFront line text past (past_rest r p) stop (rest_cells line r p ++ stop)
    (no_front (rest_cells line r p ++ stop) p) (no_prefix r)
front-none line text past r stop p is h = record {
  containers = refl;
  read = tt;
  fed = refl;
  valid = is;
  ends = refl;
  no_ending = h;
  shorter = omega arith;
}

front-more : (line : Line) (text past : List ℕ) (end : Point) (stop cells : List Cell) (a : Passed) (t : Taken)
    (f : Front) (q : Prefixed) →
    HasPassed line text past end stop cells a t → HasFront line text past (past_rest t.rest a.point) stop a.cells f q →
    HasFront line text past end stop cells (in_front a f) (one_more t.container q)
front-more line text past end stop cells a t f q one is = record {
  containers = ap₂ (λ (c : Container) (cs : List Container). c ∷ cs) one.container is.containers;
  read = (one.read, is.read);
  fed = is.fed;
  valid = is.valid;
  ends = is.ends ∙ one.ends;
  no_ending = is.no_ending;
  shorter = let le = is.shorter in let ge = one.shorter in omega arith;
}

-- those that continue: more may be after them
record HasProceeded (line : Line) (text past : List ℕ) (p end : Point) (stop cells : List Cell) (f : Front)
    (q : Prefixed) : Type 0 where
  front : HasFront line text past end stop cells f q
  fronts : (opens : List Container) (r : Point) (es : List Event) → LinePrefix text opens f.point r es →
      LinePrefix text opens p r (f.events ++ es)
  fronts_read : (opens : List Container) (r : Point) (es : List Event) → ReadFront text opens f.point r es →
      ReadFront text opens p r (f.events ++ es)

proceeded-none : (line : Line) (text past : List ℕ) (r : Rest) (stop : List Cell) (p : Point) → RestAt text past r p →
    NoEnding r.bytes →
    HasProceeded line text past p (past_rest r p) stop (rest_cells line r p ++ stop)
    (no_front (rest_cells line r p ++ stop) p) (no_prefix r)
proceeded-none line text past r stop p is h = record {
  front = front-none line text past r stop p is h;
  fronts = λ opens q es fs. fs;
  fronts_read = λ opens q es fs. fs;
}

proceeded-more : (line : Line) (text past : List ℕ) (p end : Point) (stop cells : List Cell) (a : Passed) (t : Taken)
    (f : Front) (q : Prefixed) →
    HasFurther line text past p end stop cells a t →
    HasProceeded line text past a.point (past_rest t.rest a.point) stop a.cells f q →
    HasProceeded line text past p end stop cells (in_front a f) (one_more t.container q)
proceeded-more line text past p end stop cells a t f q one is = record {
  front = front-more line text past end stop cells a t f q one.passes is.front;
  fronts =
      λ opens r es fs. subst (LinePrefix text opens p r) (sym (append_assoc a.events f.events es))
      (Proceeds opens p a.point r a.events (f.events ++ es) one.further (is.fronts opens r es fs));
  fronts_read =
      λ opens r es fs. subst (ReadFront text opens p r) (sym (append_assoc a.events f.events es))
      (front_read-proceeds text opens p a.point r a.events (f.events ++ es) one.further (is.fronts_read opens r es fs));
}

proceeded-is : (options : ParseOptions) (line : Line) (text past : List ℕ) (cs : List Container) (r : Rest)
    (stop : List Cell) (p : Point) →
    AreRead cs → RestAt text past r p → NoEnding r.bytes → Stops stop → length (rest_cells line r p ++ stop) < 2 ^ 63 →
    HasProceeded line text past p (past_rest r p) stop (rest_cells line r p ++ stop)
    (continued_prefixes options cs (rest_cells line r p ++ stop) p) (prefixes_on options cs r)
proceeded-is options line text past [] r stop p read is h k short = proceeded-none line text past r stop p is h
proceeded-is options line text past (c ∷ cs) r stop p read is h k short =
    go (proceeds_at options c cells p) (continues options c r)
    (proceeds-agrees options c read.0 line text past r stop p is h k short)
    (λ (s : Rest) (u : Point) (at : RestAt text past s u) (none : NoEnding s.bytes)
    (few : length (rest_cells line s u ++ stop) < 2 ^ 63). proceeded-is options line text past cs s stop u read.1
    at none k few)
  where
    cells : List Cell
    cells = rest_cells line r p ++ stop

    -- the same of any rest, with one container less
    Further : Type 0
    Further =
        (s : Rest) (u : Point) → RestAt text past s u → NoEnding s.bytes →
        length (rest_cells line s u ++ stop) < 2 ^ 63 →
        HasProceeded line text past u (past_rest s u) stop (rest_cells line s u ++ stop)
        (continued_prefixes options cs (rest_cells line s u ++ stop) u) (prefixes_on options cs s)

    go : (passed : Option Passed) (taken : Option Taken) →
        Agree (HasFurther line text past p (past_rest r p) stop cells) passed taken → Further →
        HasProceeded line text past p (past_rest r p) stop cells
        (elim passed [ None ↦ no_front cells p | Some a ↦ in_front a (continued_prefixes options cs a.cells a.point) ])
        (elim taken [ None ↦ no_prefix r | Some t ↦ one_more t.container (prefixes_on options cs t.rest) ])
    go None None has more = proceeded-none line text past r stop p is h
    go None (Some t) has more = absurd has
    go (Some a) None has more = absurd has
    go (Some a) (Some t) has more =
        let one = has.passes in
        let size = ap length one.fed in
        let le = one.shorter in
        proceeded-more line text past p (past_rest r p) stop cells a t (continued_prefixes options cs a.cells a.point)
        (prefixes_on options cs t.rest) has
        (subst
        (λ (l : List Cell).
        HasProceeded line text past a.point (past_rest t.rest a.point) stop l (continued_prefixes options cs l a.point)
        (prefixes_on options cs t.rest))
        (sym one.fed) (more t.rest a.point one.valid one.no_ending (omega (arith, size, le, short))))

-- those that open
record HasNew (line : Line) (text past : List ℕ) (p end : Point) (stop cells : List Cell) (f : Front)
    (q : Prefixed) : Type 0 where
  front : HasFront line text past end stop cells f q
  fronts : LinePrefix text f.containers p f.point f.events
  fronts_read : ReadFront text f.containers p f.point f.events

new-none : (line : Line) (text past : List ℕ) (r : Rest) (stop : List Cell) (p : Point) → RestAt text past r p →
    NoEnding r.bytes →
    HasNew line text past p (past_rest r p) stop (rest_cells line r p ++ stop)
    (no_front (rest_cells line r p ++ stop) p) (no_prefix r)
new-none line text past r stop p is h = record {
  front = front-none line text past r stop p is h;
  fronts = Following p;
  fronts_read = front_read-none text p;
}

new-more : (line : Line) (text past : List ℕ) (p end : Point) (stop cells : List Cell) (a : Passed) (t : Taken)
    (f : Front) (q : Prefixed) →
    HasOpening line text past p end stop cells a t →
    HasNew line text past a.point (past_rest t.rest a.point) stop a.cells f q →
    HasNew line text past p end stop cells (in_front a f) (one_more t.container q)
new-more line text past p end stop cells a t f q one is = record {
  front = front-more line text past end stop cells a t f q one.passes is.front;
  fronts =
      subst (λ (es : List Event). LinePrefix text (a.container ∷ f.containers) p f.point (es ++ f.events))
      (sym one.events)
      (Begins a.container f.containers p a.point f.point one.inside f.events one.opening.unread is.fronts);
  fronts_read =
      subst (λ (es : List Event). ReadFront text (a.container ∷ f.containers) p f.point (es ++ f.events))
      (sym one.events)
      (front_read-begins text a.container f.containers p a.point f.point one.inside f.events one.opening
      is.fronts_read);
}

-- one more, if one opens
abbrev new_by : ParseOptions → ℕ → List Cell → Point → Option Passed → Front
new_by options size cells p passed = elim passed [
  | None ↦ no_front cells p
  | Some a ↦ in_front a (opened_prefixes options false size a.cells a.point)
]

abbrev prefixes_by : ParseOptions → ℕ → Rest → Option Taken → Prefixed
prefixes_by options size r taken = elim taken [
  | None ↦ no_prefix r
  | Some t ↦ one_more t.container (prefixes_new options false size t.rest)
]

-- with as much room as there is, and with more
new-is : (options : ParseOptions) (interrupting : Bool) (line : Line) (text past : List ℕ) (room size : ℕ) (r : Rest)
    (stop : List Cell) (p : Point) →
    IsWithoutMdx options → RestAt text past r p → NoEnding r.bytes → Stops stop →
    length (rest_cells line r p ++ stop) < 2 ^ 63 →
    length (rest_cells line r p ++ stop) ≤ room → length r.bytes ≤ size →
    HasNew line text past p (past_rest r p) stop (rest_cells line r p ++ stop)
    (opened_prefixes options interrupting room (rest_cells line r p ++ stop) p)
    (prefixes_new options interrupting size r)
new-is options interrupting line text past zero zero r stop p built is h k short some few =
    new-none line text past r stop p is h
new-is options interrupting line text past zero (suc size) r stop p built is h k short some few =
    go (opens_at options interrupting cells p) (opens options interrupting r)
    (opens-agrees options interrupting line text past r stop p is h k short)
  where
    cells : List Cell
    cells = rest_cells line r p ++ stop

    go : (passed : Option Passed) (taken : Option Taken) →
        Agree (HasOpening line text past p (past_rest r p) stop cells) passed taken →
        HasNew line text past p (past_rest r p) stop cells (no_front cells p) (prefixes_by options size r taken)
    go None None has = new-none line text past r stop p is h
    go None (Some t) has = absurd has
    go (Some a) None has = absurd has
    go (Some a) (Some t) has = let lt = has.fewer in absurd (omega (arith, lt, some))
new-is options interrupting line text past (suc room) zero r stop p built is h k short some few =
    go (opens_at options interrupting cells p) (opens options interrupting r) refl
    (opens-agrees options interrupting line text past r stop p is h k short)
  where
    cells : List Cell
    cells = rest_cells line r p ++ stop

    go : (passed : Option Passed) (taken : Option Taken) → opens options interrupting r ≡ taken →
        Agree (HasOpening line text past p (past_rest r p) stop cells) passed taken →
        HasNew line text past p (past_rest r p) stop cells (new_by options room cells p passed) (no_prefix r)
    go None None e has = new-none line text past r stop p is h
    go None (Some t) e has = absurd has
    go (Some a) None e has = absurd has
    go (Some a) (Some t) e has = let lt = opens-leaves options interrupting r t e in absurd (omega (arith, lt, few))
new-is options interrupting line text past (suc room) (suc size) r stop p built is h k short some few =
    go (opens_at options interrupting cells p) (opens options interrupting r) refl
    (opens-agrees options interrupting line text past r stop p is h k short)
    (λ (s : Rest) (u : Point) (at : RestAt text past s u) (none : NoEnding s.bytes)
    (fits : length (rest_cells line s u ++ stop) < 2 ^ 63) (le : length (rest_cells line s u ++ stop) ≤ room)
    (ge : length s.bytes ≤ size).
    new-is options false line text past room size s stop u built at none k fits le ge)
  where
    cells : List Cell
    cells = rest_cells line r p ++ stop

    -- the same of any rest that is shorter
    Further : Type 0
    Further =
        (s : Rest) (u : Point) → RestAt text past s u → NoEnding s.bytes →
        length (rest_cells line s u ++ stop) < 2 ^ 63 → length (rest_cells line s u ++ stop) ≤ room →
        length s.bytes ≤ size →
        HasNew line text past u (past_rest s u) stop (rest_cells line s u ++ stop)
        (opened_prefixes options false room (rest_cells line s u ++ stop) u) (prefixes_new options false size s)

    go : (passed : Option Passed) (taken : Option Taken) → opens options interrupting r ≡ taken →
        Agree (HasOpening line text past p (past_rest r p) stop cells) passed taken → Further →
        HasNew line text past p (past_rest r p) stop cells (new_by options room cells p passed)
        (prefixes_by options size r taken)
    go None None e has more = new-none line text past r stop p is h
    go None (Some t) e has more = absurd has
    go (Some a) None e has more = absurd has
    go (Some a) (Some t) e has more =
        let one = has.passes in
        let long = ap length one.fed in
        let lt = has.fewer in
        let fewer = opens-leaves options interrupting r t e in
        new-more line text past p (past_rest r p) stop cells a t (opened_prefixes options false room a.cells a.point)
        (prefixes_new options false size t.rest) has
        (subst (λ (l : List Cell). HasNew line text past a.point (past_rest t.rest a.point) stop l
        (opened_prefixes options false room l a.point) (prefixes_new options false size t.rest)) (sym one.fed)
        (more t.rest a.point one.valid one.no_ending (omega (arith, long, lt, short)) (omega (arith, long, lt, some))
        (omega (arith, fewer, few))))

-- The containers of a line.

-- by its cells and by its bytes; flow reads all that are open after it
pub record HasHeld (line : Line) (text past : List ℕ) (p end : Point) (stop cells : List Cell) (h : Held)
    (c : Contained) : Type 0 where
  pub change : h.change ≡ c.change
  pub on : h.on ≡ c.on
  pub read : AreRead (open_following h.change)
  pub fed : h.cells ≡ rest_cells line c.rest h.point ++ stop
  pub valid : RestAt text past c.rest h.point
  pub ends : past_rest c.rest h.point ≡ end
  pub no_ending : NoEnding c.rest.bytes
  pub front : LinePrefix text h.change.opens p h.point h.front
  pub front_read : ReadFront text h.change.opens p h.point h.front
  pub shorter : length h.cells ≤ length cells

read-following : (lazy : Bool) (proceeded others opens : List Container) → AreRead proceeded → AreRead others →
    AreRead opens →
    AreRead (open_following (change_by lazy proceeded others opens))
read-following true proceeded others opens a b c = read-append (proceeded ++ others) opens
    (read-append proceeded others a b) c
read-following false proceeded others opens a b c = read-append proceeded opens a c

held-by : (line : Line) (text past : List ℕ) (p end : Point) (stop cells : List Cell) (cs : List Container)
    (lazy : Bool) (leaf kept : HeldLeaf) (proceeded new : Front) (on more : Prefixed) →
    AreRead cs → leaf ≡ kept → HasProceeded line text past p end stop cells proceeded on →
    HasNew line text past proceeded.point (past_rest on.rest proceeded.point) stop proceeded.cells new more →
    HasHeld line text past p end stop cells (held_by cs lazy leaf proceeded new) (contained_by cs lazy kept on more)
held-by line text past p end stop cells cs lazy leaf kept proceeded new on more read same a b = record {
  on = same;
  change = ap₂ (λ (w o : List Container). change_by lazy w (others_of cs w) o) a.front.containers b.front.containers;
  read =
      read-following lazy proceeded.containers (others_of cs proceeded.containers) new.containers a.front.read
      (read-drop (length proceeded.containers) cs read) b.front.read;
  fed = b.front.fed;
  valid = b.front.valid;
  ends = b.front.ends ∙ a.front.ends;
  no_ending = b.front.no_ending;
  front =
      subst (λ (opens : List Container). LinePrefix text opens p new.point (proceeded.events ++ new.events))
      (sym (change-opens lazy proceeded.containers (others_of cs proceeded.containers) new.containers))
      (a.fronts new.containers new.point new.events b.fronts);
  front_read =
      subst (λ (opens : List Container). ReadFront text opens p new.point (proceeded.events ++ new.events))
      (sym (change-opens lazy proceeded.containers (others_of cs proceeded.containers) new.containers))
      (a.fronts_read new.containers new.point new.events b.fronts_read);
  shorter = let le = a.front.shorter in let ge = b.front.shorter in omega arith;
}

-- where none may open
new-inside : (line : Line) (text past : List ℕ) (proceeded : Front) (on : Prefixed) (stop : List Cell) (new : Front)
    (more : Prefixed) →
    proceeded.cells ≡ rest_cells line on.rest proceeded.point ++ stop → RestAt text past on.rest proceeded.point →
    NoEnding on.rest.bytes → (inside : Bool) →
    HasNew line text past proceeded.point (past_rest on.rest proceeded.point) stop proceeded.cells new more →
    HasNew line text past proceeded.point (past_rest on.rest proceeded.point) stop proceeded.cells
    (cond inside (no_front proceeded.cells proceeded.point) new) (cond inside (no_prefix on.rest) more)
new-inside line text past proceeded on stop new more fed at none true has =
    subst
    (λ (l : List Cell).
    HasNew line text past proceeded.point (past_rest on.rest proceeded.point) stop l (no_front l proceeded.point)
    (no_prefix on.rest))
    (sym fed) (new-none line text past on.rest stop proceeded.point at none)
new-inside line text past proceeded on stop new more fed at none false has = has

held-following : (options : ParseOptions) (line : Line) (text past : List ℕ) (p end : Point) (stop cells : List Cell)
    (cs : List Container) (still : HeldLeaf) (proceeded : Front) (on : Prefixed) →
    IsWithoutMdx options → AreRead cs → Stops stop → length cells < 2 ^ 63 →
    HasProceeded line text past p end stop cells proceeded on →
    HasHeld line text past p end stop cells (held_after options cs still proceeded)
    (contained_after options cs still on)
held-following options line text past p end stop cells cs still proceeded on built read k short is =
    let le = is.front.shorter in
    let size = ap length is.front.fed in
    let interrupting : Bool = interrupts still (others_of cs proceeded.containers) in
    let inside : Bool = is_inside still (others_of cs proceeded.containers) in
    let new : Front = new_after options still (others_of cs proceeded.containers) proceeded in
    let more : Prefixed =
    cond inside (no_prefix on.rest) (prefixes_new options interrupting (length on.rest.bytes) on.rest) in
    let opened : HasNew line text past proceeded.point (past_rest on.rest proceeded.point) stop
    proceeded.cells new more =
    new-inside line text past proceeded on stop
    (opened_prefixes options interrupting (length proceeded.cells) proceeded.cells proceeded.point)
    (prefixes_new options interrupting (length on.rest.bytes) on.rest) is.front.fed is.front.valid is.front.no_ending
    inside
    (subst
    (λ (l : List Cell).
    HasNew line text past proceeded.point (past_rest on.rest proceeded.point) stop l
    (opened_prefixes options interrupting (length l) l proceeded.point)
    (prefixes_new options interrupting (length on.rest.bytes) on.rest))
    (sym is.front.fed)
    (new-is options interrupting line text past (length (rest_cells line on.rest proceeded.point ++ stop))
    (length on.rest.bytes) on.rest stop proceeded.point built is.front.valid is.front.no_ending k
    (omega (arith, le, size, short)) (omega arith) (omega arith))) in
    let shorter = opened.front.shorter in
    let few = ap length opened.front.fed in
    let leaf : HeldLeaf = against still (others_of cs proceeded.containers) new.containers in
    let kept : HeldLeaf = against still (others_of cs on.containers) more.containers in
    let meets : leaf ≡ kept =
    ap₂ (λ (w o : List Container). against still (others_of cs w) o) is.front.containers opened.front.containers in
    let kind : row_kind options leaf new.cells ≡ line_kind options kept more.rest =
    ap₂ (row_kind options) meets opened.front.fed
    ∙ kind-rest options kept line text past more.rest new.point stop opened.front.valid opened.front.no_ending k
    (omega (arith, le, shorter, few, short)) in
    let lazy : is_lazy still new.containers (row_kind options leaf new.cells) ≡
    is_lazy still more.containers (line_kind options kept more.rest) = ap₂
    (is_lazy still) opened.front.containers kind in
    let following : contained_of options cs still on more ≡ contained_after options cs still on =
    ap
    (λ (w : List Container).
    contained_of options cs still on (prefixes_after options still (others_of cs w) on)) is.front.containers in
    subst (HasHeld line text past p end stop cells (held_after options cs still proceeded)) following
    (subst (λ (x : Bool). HasHeld line text past p end stop cells (held_after options cs still proceeded)
    (contained_by cs x kept on more)) lazy
    (held-by line text past p end stop cells cs
    (is_lazy still new.containers (row_kind options leaf new.cells)) leaf kept proceeded new on more read
    meets is opened))

-- which containers continue and open on a line, what is before it, and what is left of it
pub held-is : (options : ParseOptions) (line : Line) (text past : List ℕ) (cs : List Container) (still : HeldLeaf)
    (r : Rest) (stop : List Cell) (p : Point) →
    IsWithoutMdx options → AreRead cs → RestAt text past r p → NoEnding r.bytes → Stops stop →
    length (rest_cells line r p ++ stop) < 2 ^ 63 →
    HasHeld line text past p (past_rest r p) stop (rest_cells line r p ++ stop)
    (held_at options cs still (rest_cells line r p ++ stop) p) (contained options cs still r)
unfolding held_at contained
held-is options line text past cs still r stop p built read is h k short =
    held-following options line text past p (past_rest r p) stop (rest_cells line r p ++ stop) cs still
    (continued_prefixes options cs (rest_cells line r p ++ stop) p) (prefixes_on options cs r) built read k short
    (proceeded-is options line text past cs r stop p read is h k short)
