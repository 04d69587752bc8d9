-- Which of the open containers continue on a line, as flow asks them one after another.
use Rattle.md_engine.specs.declared.tokenizer.held_leaf.HeldLeaf.{HeldLeaf}
use Rattle.std.proofs.Common.{◌≡◌, ℕ, zero, suc, ◌+◌, ◌<◌, ◌≤◌, Bool, true, false, cond, ◌&&◌, List, [], ◌∷◌, ◌++◌}
use Rattle.std.proofs.Common.{length, take, drop, Option, Some, None, refl, sym, ◌∙◌, ap, ap₂, subst, arith}
use Rattle.std.proofs.Common.{append_assoc, append-nil, length-append}
use Rattle.proof_rows.specs.Rows.{is_inside, Front, in_front, no_front, continued_prefixes}
use Rattle.md_registry.specs.Registry.{bars_containers, proceeds_at, continues_over}
use Rattle.md_registry.specs.FlowRule.{all_on, asking_here, after_containers, existing_by, existing_at, existing_from}
use Rattle.md_registry.specs.FlowRule.{new_of}
use Rattle.std.specs.Prelude.{nat_lt, slice_get, slice_set}
use Rattle.std.proofs.Math.ListN.{length-set}
use Rattle.std.proofs.lemmas.Bool.{lt-ltb}
use Rattle.std.proofs.lemmas.List.{take-append-drop}
use Rattle.std.proofs.lemmas.Option.{slice_get_past}
use Rattle.md_engine.specs.declared.configuration.ParseOptions.{ParseOptions}
use Rattle.md_engine.specs.declared.event.Event.{Event}
use Rattle.md_engine.specs.declared.event.Point.{Point}
use Rattle.md_engine.specs.declared.tokenizer.container.Container.{Container as Known}
use Rattle.md_engine.specs.Meaning.{Cell, Here, Outcome}
use Rattle.md_events.specs.Look.{first_seen}
use Rattle.md_events.specs.Spaces.{IsRest, ends_line}
use Rattle.md_meaning.specs.State.{Container}
use Rattle.proof_frame.specs.Change.{others_of}
use Rattle.proof_frame.specs.Rule.{Rule, tried}
use Rattle.md_registry.specs.LineFlags.{asks, ended_on, next_container, over_end, was_continued}
use Rattle.proof_frame.specs.Passed.{Passed, passed_by, passed_here, passed_over}
use Rattle.proof_rows.specs.Valid.{AreOpen}
use Rattle.md_registry.proofs.RegistryContainers.{further-is, proceeds-over, proceeds-same, proceeds-shorter}
use Rattle.md_registry.proofs.RegistryContainers.{proceeds-within}
use Rattle.proof_rows.proofs.FlowHeld.{IsNext, open-append, open-length, open-next, open-parts}

pub proceeded-shorter : (options : ParseOptions) (cs : List Container) (cells : List Cell) (p : Point) →
    length (continued_prefixes options cs cells p).cells ≤ length cells
proceeded-shorter options [] cells p = omega arith
proceeded-shorter options (c ∷ cs) cells p =
    go (proceeds_at options c cells p) refl (λ t. proceeded-shorter options cs t.cells t.point)
  where
    Shorter : Front → Type 0
    Shorter f = length f.cells ≤ length cells

    go : (x : Option Passed) → proceeds_at options c cells p ≡ x →
        ((t : Passed) → length (continued_prefixes options cs t.cells t.point).cells ≤ length t.cells) →
        Shorter
        (elim x [ None ↦ no_front cells p | Some t ↦ in_front t (continued_prefixes options cs t.cells t.point) ])
    go None e more = omega arith
    go (Some t) e more = omega (arith, more t, proceeds-within options c cells p t e)

-- where this container is asked, or tried, at this column
abbrev pub asked_at : Known → ℕ → Here → Here
asked_at c column h = record h { flags = asks c column h.flags }

-- what is left after the containers: no container opens where the line ends here, nor where all have continued and a
-- leaf is open that bars containers
abbrev pub left_of : ParseOptions → Rule → Bool → Bool → Rule
left_of options next true inside cells h = after_containers options next cells h
left_of options next false inside cells h = all_on options next inside cells h

-- whether such a leaf is open
inside-all : (still : HeldLeaf) → is_inside still [] ≡ bars_containers still
inside-all still = go (bars_containers still)
  where
    go : (x : Bool) → (x && true) ≡ x
    go true = refl
    go false = refl

inside-some : (still : HeldLeaf) (c : Container) (cs : List Container) → is_inside still (c ∷ cs) ≡ false
inside-some still c cs = go (bars_containers still)
  where
    go : (x : Bool) → (x && false) ≡ false
    go true = refl
    go false = refl

-- What is left after the containers that continue, of those after some that do: the tokenizer holds them, and the
-- others that are open.
pub record Gone (options : ParseOptions) (next : Rule) (done cs : List Container) (w : Front) (h : Here)
    (o : Outcome) : Type 0 where
  pub new : Here
  pub is : o ≡
      left_of options next (ends_line (first_seen w.cells))
      (is_inside h.flags.leaf (others_of cs w.containers)) w.cells new
  pub rest : IsRest new.scratch
  pub events : new.events ≡ h.events ++ w.events
  pub point : new.point ≡ w.point
  pub containers : AreOpen new.flags.containers (done ++ (w.containers ++ others_of cs w.containers))
  pub size : length new.flags.containers ≡ length h.flags.containers
  pub continued : new.flags.continued ≡ length done + length w.containers
  pub leaf : new.flags.leaf ≡ h.flags.leaf
  pub blank : new.flags.blank ≡ h.flags.blank
  pub line_end : new.flags.line_end ≡ h.flags.line_end

-- where none continues
gone-none : (options : ParseOptions) (next : Rule) (done cs : List Container) (cells : List Cell) (h : Here)
    (o : Outcome) (c : Known) (column : ℕ) →
    ends_line (first_seen cells) ≡ false →
    o ≡ all_on options next (is_inside h.flags.leaf cs) cells (asked_at c column h) →
    IsRest h.scratch → h.flags.continued ≡ length done →
    AreOpen h.flags.containers (done ++ cs) →
    Gone options next done cs (no_front cells h.point) h o
gone-none options next done cs cells h o c column going is rest at are = record {
  new = asked_at c column h;
  is =
      is
      ∙ sym (ap (λ (x : Bool). left_of options next x (is_inside h.flags.leaf cs) cells (asked_at c column h)) going);
  rest = rest;
  events = sym (append-nil h.events);
  point = refl;
  containers = are;
  size = refl;
  continued = omega (arith, at);
  leaf = refl;
  blank = refl;
  line_end = refl;
}

-- where the line ends, those continue of which what is held says so
record OverEnd (ks : List Known) (cs : List Container) (cells : List Cell) (p : Point) (f : Front) : Type 0 where
  events : f.events ≡ []
  cells_are : f.cells ≡ cells
  point : f.point ≡ p
  size : length f.containers ≡ over_end ks
  containers : AreOpen ks (f.containers ++ others_of cs f.containers)

over-end : (options : ParseOptions) (ks : List Known) (cs : List Container) (cells : List Cell) (p : Point) →
    AreOpen ks cs → ends_line (first_seen cells) ≡ true →
    OverEnd ks cs cells p (continued_prefixes options cs cells p)
over-end options [] [] cells p are ends =
    record { events = refl; cells_are = refl; point = refl; size = refl; containers = tt }
over-end options [] (c ∷ cs) cells p are ends = absurd are
over-end options (k ∷ ks) [] cells p are ends = absurd are
over-end options (k ∷ ks) (c ∷ cs) cells p are ends =
    subst Result (sym (proceeds-over options k c cells p are.0 ends))
    (go (continues_over k) refl (over-end options ks cs cells p are.1 ends))
  where
    by : Option Passed → Front
    by o = elim o [ None ↦ no_front cells p | Some t ↦ in_front t (continued_prefixes options cs t.cells t.point) ]

    Result : Option Passed → Type 0
    Result o =
        OverEnd (k ∷ ks) (c ∷ cs) cells p
        (elim o [ None ↦ no_front cells p | Some t ↦ in_front t (continued_prefixes options cs t.cells t.point) ])

    go : (x : Bool) → continues_over k ≡ x → OverEnd ks cs cells p (continued_prefixes options cs cells p) →
        Result (cond x (Some (passed_over k c cells p)) None)
    go true e more = record {
      events = more.events;
      cells_are = more.cells_are;
      point = more.point;
      size = ap suc more.size ∙ sym (ap (λ (x : Bool). cond x (suc (over_end ks)) 0) e);
      containers = (are.0, more.containers);
    }
    go false e more = record {
      events = refl;
      cells_are = refl;
      point = refl;
      size = sym (ap (λ (x : Bool). cond x (suc (over_end ks)) 0) e);
      containers = are;
    }

gone-ended : (options : ParseOptions) (next : Rule) (done cs : List Container) (cells : List Cell) (h : Here)
    (o : Outcome) →
    ends_line (first_seen cells) ≡ true →
    o ≡ after_containers options next cells (record h { flags = ended_on h.flags }) → IsRest h.scratch →
    h.flags.continued ≡ length done → AreOpen h.flags.containers (done ++ cs) →
    Gone options next done cs (continued_prefixes options cs cells h.point) h o
gone-ended options next done cs cells h o ends is rest at are = record {
  new = new;
  is =
      is ∙ sym (ap (λ (x : Bool). left_of options next x inside cells new) ends)
      ∙ sym (ap (λ (l : List Cell). left_of options next (ends_line (first_seen l)) inside l new) over.cells_are);
  rest = rest;
  events = sym (append-nil h.events) ∙ sym (ap (λ (es : List Event). h.events ++ es) over.events);
  point = sym over.point;
  containers =
      let P : List Known → Type 0 = λ l. AreOpen l (done ++ (f.containers ++ others_of cs f.containers)) in
      subst P (take-append-drop (length done) h.flags.containers)
      (open-append (take (length done) h.flags.containers) (drop (length done) h.flags.containers) done
      (f.containers ++ others_of cs f.containers) parts.0 over.containers);
  size = refl;
  continued =
      ap₂ (λ (x y : ℕ). x + y) at
      (ap (λ (n : ℕ). over_end (drop n h.flags.containers)) at ∙ sym over.size);
  leaf = refl;
  blank = refl;
  line_end = refl;
}
  where
    f : Front
    f = continued_prefixes options cs cells h.point

    new : Here
    new = record h { flags = ended_on h.flags }

    inside : Bool
    inside = is_inside h.flags.leaf (others_of cs f.containers)

    parts : AreOpen (take (length done) h.flags.containers) done × AreOpen (drop (length done) h.flags.containers) cs
    parts = open-parts h.flags.containers done cs are

    over : OverEnd (drop (length done) h.flags.containers) cs cells h.point
        (continued_prefixes options cs cells h.point)
    over =
        over-end options (drop (length done) h.flags.containers) cs cells h.point
        (open-parts h.flags.containers done cs are).1 ends

-- after the prefix of one that continues
abbrev further_here : Passed → Known → Here → Here
further_here t k h =
    let x = passed_here t (asking_here k h) in record x { flags = was_continued x.flags }

-- the same of the rule that reads the containers after the first
abbrev Reads : ParseOptions → Rule → ℕ → Rule → Type 0
Reads options next m further =
    (done cs : List Container) (cells : List Cell) (h : Here) →
    IsRest h.scratch → length cells < m → h.flags.continued ≡ length done →
    AreOpen h.flags.containers (done ++ cs) →
    Gone options next done cs (continued_prefixes options cs cells h.point) h (further cells h)

-- where the line does not end here, the next container is asked
asked-is : (options : ParseOptions) (next : Rule) (m : ℕ) (further : Rule) → Reads options next m further →
    (done cs : List Container) (cells : List Cell) (h : Here) → ends_line (first_seen cells) ≡ false →
    IsRest h.scratch → length cells < suc m → h.flags.continued ≡ length done →
    AreOpen h.flags.containers (done ++ cs) →
    Gone options next done cs (continued_prefixes options cs cells h.point) h
    (existing_by options next further (next_container h.flags) cells h)
asked-is options next m further reads done [] cells h going is some at are =
    let all = open-length h.flags.containers (done ++ []) are in
    let same : length (done ++ []) ≡ length done = ap length (append-nil done) in
    let past : slice_get h.flags.containers h.flags.continued ≡
    None = slice_get_past h.flags.containers h.flags.continued (omega (arith, all, same, at)) in
    gone-none options next done [] cells h _ h.flags.asked h.flags.asked_column going
    (ap (λ (o : Option Known). existing_by options next further o cells h) past
    ∙ ap (λ (x : Bool). all_on options next x cells h) (sym (inside-all h.flags.leaf))) is at are
asked-is options next m further reads done (c ∷ cs) cells h going is some at are =
    go
    (λ t lt e.
    reads (done ++ t.container ∷ []) cs t.cells (further_here t first.held h) is lt (counted t)
    (again t e))
    (proceeds_at options c cells h.point) refl
  where
    first : IsNext h.flags.containers done c cs
    first = open-next h.flags.containers done c cs are

    asked : Here
    asked = asking_here first.held h

    onward : Outcome → Outcome
    onward o =
        tried o (λ rest x. further rest (record x { flags = was_continued x.flags }))
        (λ s g. new_of options next cells (record h { scratch = s; flags = g }))

    found : slice_get h.flags.containers h.flags.continued ≡ Some first.held
    found = ap (λ (n : ℕ). slice_get h.flags.containers n) at ∙ first.found

    begins : existing_by options next further (next_container h.flags) cells h ≡
        onward (passed_by (proceeds_at options c cells h.point) asked)
    begins =
        ap (λ (o : Option Known). existing_by options next further o cells h) found
        ∙ ap onward (further-is options first.held c cells asked is refl refl first.is)

    fits : nat_lt h.flags.continued (length h.flags.containers) ≡ true
    fits = let lt = first.inside in lt-ltb h.flags.continued (length h.flags.containers) (omega (arith, at, lt))

    one_more : (t : Passed) → length (done ++ t.container ∷ []) ≡ suc (length done)
    one_more t = length-append done (t.container ∷ []) ∙ omega arith

    counted : (t : Passed) → (further_here t first.held h).flags.continued ≡ length (done ++ t.container ∷ [])
    counted t =
        ap (λ (x : Bool). cond x (suc h.flags.continued) h.flags.continued) fits ∙ ap suc at ∙ sym (one_more t)

    again : (t : Passed) → proceeds_at options c cells h.point ≡ Some t →
        AreOpen (further_here t first.held h).flags.containers ((done ++ t.container ∷ []) ++ cs)
    again t e =
        let P : List Container → Type 0 = λ l. AreOpen (slice_set h.flags.containers h.flags.continued t.held) l in
        let Q : ℕ → Type 0 = λ n. AreOpen (slice_set h.flags.containers n t.held) (done ++ (t.container ∷ cs)) in
        subst P (sym (append_assoc done (t.container ∷ []) cs))
        (subst Q (sym at)
        (first.put_back t.held t.container
        (proceeds-same options first.held c cells h.point t first.is e)))

    Result : Front → Type 0
    Result x = Gone options next done (c ∷ cs) x h (existing_by options next further (next_container h.flags) cells h)

    Further : Type 0
    Further = (t : Passed) → length t.cells < m → proceeds_at options c cells h.point ≡ Some t →
        Gone options next (done ++ t.container ∷ []) cs (continued_prefixes options cs t.cells t.point)
        (further_here t first.held h) (further t.cells (further_here t first.held h))

    go : Further → (x : Option Passed) → proceeds_at options c cells h.point ≡ x →
        Result (elim x
        [ None ↦ no_front cells h.point | Some t ↦ in_front t (continued_prefixes options cs t.cells t.point) ])
    go more None e =
        gone-none options next done (c ∷ cs) cells h
        (existing_by options next further (next_container h.flags) cells h) first.held
        h.point.column going
        (begins ∙ ap (λ (x : Option Passed). onward (passed_by x asked)) e
        ∙ ap (λ (x : Bool). all_on options next x cells (asked_at first.held h.point.column h))
        (sym (inside-some h.flags.leaf c cs))) is at are
    go more (Some t) e =
        let f : Front = continued_prefixes options cs t.cells t.point in
        let g = more t (omega (arith, proceeds-shorter options c cells h.point t e going)) e in
        let P : List Container → Type 0 = λ l. AreOpen g.new.flags.containers l in
        let longer = one_more t in
        record {
          new = g.new;
          is = begins ∙ ap (λ (x : Option Passed). onward (passed_by x asked)) e ∙ g.is;
          rest = g.rest;
          events = g.events ∙ append_assoc h.events t.events f.events;
          point = g.point;
          containers =
              subst P (append_assoc done (t.container ∷ []) (f.containers ++ others_of cs f.containers)) g.containers;
          size = g.size ∙ length-set h.flags.containers h.flags.continued t.held;
          continued = omega (arith, g.continued, longer);
          leaf = g.leaf;
          blank = g.blank;
          line_end = g.line_end;
        }

-- so it is after all containers that continue
pub existing-is : (options : ParseOptions) (next : Rule) (m : ℕ) (done cs : List Container) (cells : List Cell)
    (h : Here) → IsRest h.scratch → length cells < m → h.flags.continued ≡ length done →
    AreOpen h.flags.containers (done ++ cs) →
    Gone options next done cs (continued_prefixes options cs cells h.point) h (existing_from options next m cells h)
unfolding existing_from
existing-is options next zero done cs cells h is some at are = absurd (omega arith)
existing-is options next (suc m) done cs cells h is some at are =
    by
    (λ more others rest k it lt same they. existing-is options next m more others rest k it lt same they)
    (ends_line (first_seen cells)) refl
  where
    Result : Outcome → Type 0
    Result o = Gone options next done cs (continued_prefixes options cs cells h.point) h o

    by : Reads options next m (existing_from options next m) → (x : Bool) → ends_line (first_seen cells) ≡ x →
        Result (existing_at options next (existing_from options next m) x cells h)
    by reads true ends = gone-ended options next done cs cells h _ ends refl is at are
    by reads false going =
        asked-is options next m (existing_from options next m) reads done cs cells h going is some at are
