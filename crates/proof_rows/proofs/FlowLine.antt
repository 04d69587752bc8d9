-- What flow adds for one line up to its ending: the prefixes of its containers and its leaf.
use Rattle.proof_frame.specs.HeldLeaf.{takes_lazy, met_by}
use Rattle.md_engine.specs.declared.tokenizer.held_leaf.HeldLeaf.TheVariants as held_leaf
use Rattle.md_engine.specs.declared.tokenizer.held_leaf.HeldLeaf.{HeldLeaf}
use Rattle.std.proofs.Common.{◌≡◌, ℕ, zero, suc, ◌+◌, ◌≤◌, Bool, true, false, cond, ◌&&◌, nat_eq, List, [], ◌∷◌, ◌++◌}
use Rattle.std.proofs.Common.{length, take, drop, Option, Some, None, refl, sym, ◌∙◌, ap, ap₂, subst, arith}
use Rattle.std.proofs.Common.{append_assoc, append-nil, length-append}
use Rattle.proof_rows.specs.Rows.{is_inside, after_held, leaf_following, Front, Held, held_at, held_by, held_of}
use Rattle.proof_rows.specs.Rows.{in_front, is_lazy, is_text, opened_prefixes, no_front, row_kind, continued_prefixes}
use Rattle.md_registry.specs.FlowRule.{inside_of as asked_inside, after_containers, ended, ended_to, existing_from}
use Rattle.md_registry.specs.FlowRule.{line_ended, line_then, new_from, new_of}
use Rattle.std.specs.Prelude.{not, nat_lt}
use Rattle.proof_frame.specs.Change.{against, Change, change_by, ends_of, interrupts, is_none, open_following}
use Rattle.proof_frame.specs.Change.{others_of}
use Rattle.std.proofs.lemmas.Bool.Decides.{nat_tests}
use Rattle.md_engine.specs.declared.configuration.ParseOptions.{ParseOptions}
use Rattle.md_engine.specs.declared.event.Event.{Event}
use Rattle.md_engine.specs.declared.event.Point.{Point}
use Rattle.md_engine.specs.declared.tokenizer.container.Container.{Container as Known}
use Rattle.md_engine.specs.Meaning.{Cell, Here, Outcome}
use Rattle.md_engine.specs.World.{Flags}
use Rattle.md_containers.specs.Interrupts.{is_interrupted, interrupts as by_flags}
use Rattle.md_events.specs.Ahead.{from_ending, line_end}
use Rattle.md_events.specs.Look.{first_seen}
use Rattle.md_events.specs.Spaces.{IsRest, any_size, ends_line}
use Rattle.md_meaning.specs.State.{Container}
use Rattle.proof_frame.specs.Rule.{Rule}
use Rattle.md_registry.specs.LineFlags.{begun_line, kept_containers}
use Rattle.proof_frame.specs.Passed.{Passed}
use Rattle.md_registry.specs.Registry.{leaf, openers, opens_at}
use Rattle.proof_frame.specs.Row.{BlankRow, LeafRow, RowKind, TextRow}
use Rattle.proof_rows.specs.Valid.{AreOpen}
use Rattle.proof_rows.proofs.ContainedLemmas.{lazy-some}
use Rattle.md_registry.proofs.Registry.{laws}
use Rattle.md_registry.proofs.RegistryContainers.{opens-ended, opens-same, opens-shorter}
use Rattle.proof_rows.proofs.FlowLeaf.{added_by, blank_by, inside-is, leaf_here}
use Rattle.proof_rows.proofs.FlowHeld.{Ends, closed-ends, closed-none, open-all, open-append, open-length, open-parts}
use Rattle.proof_rows.proofs.FlowContinues.{Gone, asked_at, existing-is, left_of, proceeded-shorter}
use Rattle.proof_rows.proofs.FlowOpens.{Opened, new-more, new-none, new-one, new-shorter, opened_by, opens-none}

-- a line that was read up to its ending: what is after the line before, and what the line adds
pub record Done (next : Rule) (options : ParseOptions) (front tail : List Event) (p : Point) (x : Held)
    (o : Outcome) : Type 0 where
  pub new : Here
  pub is : o ≡ ended next (from_ending x.cells) new
  pub rest : IsRest new.scratch
  pub events : new.events ≡
      front
      ++ (ends_of x.change.closes p
      ++ (tail ++ (x.front ++ added_by options x.on x.cells x.point (row_kind options x.on x.cells))))
  pub point : new.point ≡ line_end x.cells x.point
  pub containers : AreOpen new.flags.containers (open_following x.change)
  pub leaf : new.flags.leaf ≡ after_held options x
  pub blank : new.flags.blank ≡ blank_by (row_kind options x.on x.cells) x.cells x.point

-- after the containers that continue
record Between (front tail : List Event) (p : Point) (cs : List Container) (still : HeldLeaf) (w : Front)
    (h : Here) : Type 0 where
  rest : IsRest h.scratch
  events : h.events ≡ front ++ (tail ++ w.events)
  containers : AreOpen h.flags.containers (w.containers ++ others_of cs w.containers)
  continued : h.flags.continued ≡ length w.containers
  leaf : h.flags.leaf ≡ still
  blank : h.flags.blank ≡ false
  line_end : h.flags.line_end ≡ length front
  ends : Ends (length h.flags.containers) tail p

-- the same where others have been asked, or tried
between-asked : (front tail : List Event) (p : Point) (cs : List Container) (still : HeldLeaf) (w : Front) (h : Here)
    (c : Known) (column : ℕ) →
    Between front tail p cs still w h → Between front tail p cs still w (asked_at c column h)
between-asked front tail p cs still w h c column b = record {
  rest = b.rest;
  events = b.events;
  containers = b.containers;
  continued = b.continued;
  leaf = b.leaf;
  blank = b.blank;
  line_end = b.line_end;
  ends = b.ends;
}

-- where no container opens, a line of text continues the open paragraph
lazy-none : (still : HeldLeaf) (k : RowKind) → is_lazy still [] k ≡ (takes_lazy still && is_text k)
lazy-none still k = go (takes_lazy still)
  where
    go : (x : Bool) → (x && true && is_text k) ≡ (x && is_text k)
    go true = refl
    go false = refl

-- and such a line leaves open a leaf that takes lazy lines
lazy-following : (options : ParseOptions) (on : HeldLeaf) (cells : List Cell) (p : Point) (k : RowKind) →
    takes_lazy (leaf_following options on cells p k) ≡ is_text k
lazy-following options on cells p BlankRow = refl
lazy-following options on cells p (LeafRow l) = ((laws l).not_lazy options on).0 cells p
lazy-following options on cells p TextRow = refl

-- where no leaf is open, the line meets none
met-none : (all : Bool) → met_by all held_leaf.None ≡ held_leaf.None
met-none true = refl
met-none false = refl

-- the leaf that a line meets after its containers by the flags, where none opens
meets-is : (still : HeldLeaf) (proceeded others : List Container) (g : Flags) → g.leaf ≡ still →
    AreOpen g.containers (proceeded ++ others) → g.continued ≡ length proceeded →
    (begun_line g).leaf ≡ against still others []
meets-is still proceeded others g leaf are continued =
    ap₂ met_by (go others (open-length g.containers (proceeded ++ others) are ∙ length-append proceeded others)) leaf
  where
    go : (others : List Container) → length g.containers ≡ length proceeded + length others →
        not (nat_lt g.continued (length g.containers)) ≡ is_none others
    go [] size =
        let low : nat_lt g.continued (length g.containers) ≡ false = grind (arith, nat_tests) in ap not low
    go (c ∷ cs) size =
        let low : nat_lt g.continued (length g.containers) ≡ true = grind (arith, nat_tests) in ap not low

-- after the containers of a line that meets this leaf
abbrev met_here : HeldLeaf → Here → Here
met_here on h = record h { flags = record h.flags { leaf_before = h.flags.leaf; leaf = on } }

begun-is : (options : ParseOptions) (next : Rule) (cells : List Cell) (h : Here) (on : HeldLeaf) →
    length cells ≤ any_size → IsRest h.scratch → h.flags.blank ≡ false → (begun_line h.flags).leaf ≡ on →
    after_containers options next cells h ≡
    line_ended next (from_ending cells) (leaf_here options cells (met_here on h) (row_kind options on cells))
begun-is options next cells h on few is flag meets =
    ap (λ (x : HeldLeaf). asked_inside options next cells (met_here x h)) meets
    ∙ inside-is options next cells (met_here on h) few is flag

-- the containers that stay and those that end are all that were open
change-parts : (x : Bool) (proceeded others : List Container) → let c =
    change_by x proceeded others [] in c.stays ++ c.closes ≡ proceeded ++ others
change-parts true proceeded others = append-nil (proceeded ++ others)
change-parts false proceeded others = refl

change-stays : (x : Bool) (proceeded others : List Container) →
    length (change_by x proceeded others []).stays ≡ cond x (length (proceeded ++ others)) (length proceeded)
change-stays true proceeded others = refl
change-stays false proceeded others = refl

change-none : (x : Bool) (proceeded others : List Container) → let c = change_by x proceeded others [] in
    open_following c ≡ c.stays
change-none true proceeded others = append-nil (proceeded ++ others)
change-none false proceeded others = append-nil proceeded

regroup-ends : (front tail w added : List Event) → (front ++ (tail ++ w)) ++ added ≡ front ++ (tail ++ (w ++ added))
regroup-ends front tail w added = simp append_assoc

regroup-line : (front ends tail w begin more added : List Event) →
    ((front ++ (ends ++ (tail ++ (w ++ begin)))) ++ more) ++ added ≡
    front ++ (ends ++ (tail ++ ((w ++ (begin ++ more)) ++ added)))
regroup-line front ends tail w begin more added = simp append_assoc

-- a line on which no container opens
done-none : (options : ParseOptions) (next : Rule) (front tail : List Event) (p : Point) (cs : List Container)
    (still : HeldLeaf) (w : Front) (cells : List Cell) (h : Here) →
    length cells ≤ any_size → Between front tail p cs still w h →
    Done next options front tail p (held_of options cs still w (no_front cells h.point))
    (after_containers options next cells h)
done-none options next front tail p cs still w cells h few b = record {
  new = ended_to keep leaf.flags.line_end leaf;
  is =
      begun-is options next cells h on few b.rest b.blank
      (meets-is still w.containers (others_of cs w.containers) h.flags b.leaf b.containers b.continued);
  rest = b.rest;
  events =
      closed-ends front tail
      (w.events ++ added) leaf.events p leaf.point keep leaf.flags.line_end h.flags.containers c.closes b.ends
      parts.1 b.line_end
      (ap (λ (es : List Event). es ++ added) b.events ∙ regroup-ends front tail w.events added)
      ∙ ap (λ (es : List Event). front ++ (ends_of c.closes p ++ (tail ++ (es ++ added)))) (sym (append-nil w.events));
  point = refl;
  containers =
      let P : List Container → Type 0 = λ l. AreOpen (take keep h.flags.containers) l in
      subst P (sym (change-none (is_lazy still [] k) w.containers (others_of cs w.containers))) parts.0;
  leaf = refl;
  blank = refl;
}
  where
    on : HeldLeaf
    on = against still (others_of cs w.containers) []

    k : RowKind
    k = row_kind options on cells

    added : List Event
    added = added_by options on cells h.point (row_kind options on cells)

    leaf : Here
    leaf = leaf_here options cells (met_here on h) (row_kind options on cells)

    keep : ℕ
    keep = kept_containers leaf.flags

    c : Change
    c = change_by (is_lazy still [] (row_kind options on cells)) w.containers (others_of cs w.containers) []

    kept : keep ≡ length c.stays
    kept =
        ap₂ (λ (x : HeldLeaf) (y : Bool). cond (takes_lazy x && y) (length h.flags.containers) h.flags.continued) b.leaf
        (lazy-following options on cells h.point k)
        ∙ ap₂ (λ (x y : ℕ). cond (takes_lazy still && is_text k) x y)
        (open-length h.flags.containers (w.containers ++ others_of cs w.containers) b.containers) b.continued
        ∙ ap (λ (x : Bool). cond x (length (w.containers ++ others_of cs w.containers)) (length w.containers))
        (sym (lazy-none still k))
        ∙ sym (change-stays (is_lazy still [] k) w.containers (others_of cs w.containers))

    parts : AreOpen (take keep h.flags.containers) c.stays × AreOpen (drop keep h.flags.containers) c.closes
    parts =
        let P : ℕ →
        Type 0 = λ n. AreOpen (take n h.flags.containers) c.stays × AreOpen (drop n h.flags.containers) c.closes in
        let Q : List Container → Type 0 = λ l. AreOpen h.flags.containers l in
        subst P (sym kept)
        (open-parts h.flags.containers c.stays c.closes
        (subst Q (sym (change-parts (is_lazy still [] k) w.containers (others_of cs w.containers))) b.containers))

-- a line on which containers open
done-some : (options : ParseOptions) (next : Rule) (front tail : List Event) (p : Point) (cs : List Container)
    (still : HeldLeaf) (w f : Front) (t : Passed) (h : Here) (o : Outcome) →
    length f.cells ≤ any_size → Between front tail p cs still w h →
    Opened options next (w.containers ++ t.container ∷ []) (opened_by t h) f o →
    Done next options front tail p (held_of options cs still w (in_front t f)) o
done-some options next front tail p cs still w f t h out few b o =
    subst P (sym (lazy-some still t.container f.containers k)) (record {
      new = ended_to keep leaf.flags.line_end leaf;
      is =
          o.is
          ∙ begun-is options next f.cells o.new held_leaf.None few o.rest (o.blank ∙ b.blank)
          (ap (met_by (not (nat_lt o.new.flags.continued (length o.new.flags.containers)))) o.leaf
          ∙ met-none (not (nat_lt o.new.flags.continued (length o.new.flags.containers))));
      rest = o.rest;
      events = closed-none keep leaf.flags.line_end o.new.flags.containers leaf.events leaf.point (omega (arith, kept))
          ∙ ap₂ (λ (es : List Event) (q : Point). es ++ added_by options held_leaf.None f.cells q k)
          (o.events ∙ ap (λ (es : List Event). es ++ f.events) first) o.point
          ∙ regroup-line front (ends_of (others_of cs w.containers) p) tail w.events t.events f.events
          (added_by options held_leaf.None f.cells f.point k);
      point = ap (λ (q : Point). line_end f.cells q) o.point;
      containers =
          open-all keep o.new.flags.containers (w.containers ++ t.container ∷ f.containers) kept
          (subst Q (append_assoc w.containers (t.container ∷ []) f.containers) o.containers);
      leaf = ap (λ (q : Point). leaf_following options held_leaf.None f.cells q k) o.point;
      blank = ap (λ (q : Point). blank_by k f.cells q) o.point;
    })
  where
    k : RowKind
    k = row_kind options held_leaf.None f.cells

    P : Bool → Type 0
    P lazy = Done next options front tail p (held_by cs lazy held_leaf.None w (in_front t f)) out

    Q : List Container → Type 0
    Q l = AreOpen o.new.flags.containers l

    leaf : Here
    leaf = leaf_here options f.cells (met_here held_leaf.None o.new) (row_kind options held_leaf.None f.cells)

    keep : ℕ
    keep = kept_containers leaf.flags

    kept : keep ≡ length o.new.flags.containers
    kept =
        ap
        (λ (x : HeldLeaf).
        cond (takes_lazy x && takes_lazy (leaf_following options held_leaf.None f.cells o.new.point k))
        (length o.new.flags.containers) o.new.flags.continued) o.leaf
        ∙ o.all

    ended : AreOpen (drop h.flags.continued h.flags.containers) (others_of cs w.containers)
    ended =
        let R : ℕ → Type 0 = λ n. AreOpen (drop n h.flags.containers) (others_of cs w.containers) in
        subst R (sym b.continued)
        (open-parts h.flags.containers w.containers (others_of cs w.containers) b.containers).1

    first : (opened_by t h).events ≡
        front ++ (ends_of (others_of cs w.containers) p ++ (tail ++ (w.events ++ t.events)))
    first =
        closed-ends front tail (w.events ++ t.events)
        (h.events ++ t.events) p t.point h.flags.continued h.flags.line_end h.flags.containers
        (others_of cs w.containers) b.ends ended b.line_end
        (ap (λ (es : List Event). es ++ t.events) b.events ∙ regroup-ends front tail w.events t.events)

-- the same for an outcome that is equal
done-same : (options : ParseOptions) (next : Rule) (front tail : List Event) (p : Point) (x : Held) (a b : Outcome) →
    a ≡ b → Done next options front tail p x b → Done next options front tail p x a
done-same options next front tail p x a b e d =
    let P : Outcome → Type 0 = λ o. Done next options front tail p x o in subst P (sym e) d

-- where no container has ended, what opens interrupts what the flags say
interrupts-is : (still : HeldLeaf) (proceeded others : List Container) (g : Flags) → g.leaf ≡ still →
    AreOpen g.containers (proceeded ++ others) → g.continued ≡ length proceeded → interrupts still others ≡ by_flags g
interrupts-is still proceeded others g leaf are continued =
    ap₂ (λ (x : HeldLeaf) (y : Bool). is_interrupted x && y) (sym leaf)
    (go others (open-length g.containers (proceeded ++ others) are ∙ length-append proceeded others))
  where
    go : (others : List Container) → length g.containers ≡ length proceeded + length others →
        is_none others ≡ nat_eq g.continued (length g.containers)
    go [] size = let same : nat_eq g.continued (length g.containers) ≡ true = grind (arith, nat_tests) in sym same
    go (c ∷ cs) size =
        let other : nat_eq g.continued (length g.containers) ≡ false = grind (arith, nat_tests) in sym other

new-done : (options : ParseOptions) (next : Rule) (front tail : List Event) (p : Point) (cs : List Container)
    (still : HeldLeaf) (interrupting : Bool) (w : Front) (m size : ℕ) (cells : List Cell) (h : Here) →
    length cells ≤ any_size → Between front tail p cs still w h → interrupting ≡ by_flags h.flags →
    length cells ≤ m → length cells ≤ size →
    Done next options front tail p
    (held_of options cs still w (opened_prefixes options interrupting size cells h.point))
    (new_from options next (suc m) cells h)
new-done options next front tail p cs still interrupting w m zero cells h few b by some most =
    let r =
    new-none options next interrupting m cells h b.rest by (opens-none options interrupting cells h.point most) in
    done-same options next front tail p _ _ _ r.is
    (done-none options next front tail p cs still w cells (asked_at r.asked r.column h) few
    (between-asked front tail p cs still w h r.asked r.column b))
new-done options next front tail p cs still interrupting w m (suc size) cells h few b by some most =
    go (opens_at options interrupting cells h.point) refl
  where
    go : (x : Option Passed) → opens_at options interrupting cells h.point ≡ x →
        Done next options front tail p
        (held_of options cs still w
        (elim x [
          | None ↦ no_front cells h.point
          | Some t ↦ in_front t (opened_prefixes options false size t.cells t.point)
        ]))
        (new_from options next (suc m) cells h)
    go None e =
        let r = new-none options next interrupting m cells h b.rest by e in
        done-same options next front tail p _ _ _ r.is
        (done-none options next front tail p cs still w cells (asked_at r.asked r.column h) few
        (between-asked front tail p cs still w h r.asked r.column b))
    go (Some t) e =
        let shorter = opens-shorter options interrupting cells h.point t e in
        let R : ℕ → Type 0 = λ n. AreOpen (take n h.flags.containers) w.containers in
        let stayed : AreOpen (take h.flags.continued h.flags.containers) w.containers = subst R (sym b.continued)
        (open-parts h.flags.containers w.containers (others_of cs w.containers) b.containers).0 in
        let begun : AreOpen (opened_by t h).flags.containers (w.containers ++ t.container ∷ []) =
        open-append (take h.flags.continued h.flags.containers) (t.held ∷ []) w.containers (t.container ∷ []) stayed
        (opens-same options interrupting cells h.point t e, tt) in
        done-same options next front tail p _ _ _ (new-one options next interrupting m cells h t b.rest by e)
        (done-some options next front tail p cs still w (opened_prefixes options false size t.cells t.point) t h _
        (let less = new-shorter options false size t.cells t.point in omega (arith, few, less, shorter)) b
        (new-more options next m size (w.containers ++ t.container ∷ []) t.cells (opened_by t h) b.rest
        (omega (arith, shorter)) (omega (arith, shorter)) begun refl refl))

-- where the line ends no container opens
front-ended : (options : ParseOptions) (interrupting : Bool) (size : ℕ) (cells : List Cell) (p : Point) →
    ends_line (first_seen cells) ≡ true → opened_prefixes options interrupting size cells p ≡ no_front cells p
front-ended options interrupting zero cells p ends = refl
front-ended options interrupting (suc size) cells p ends =
    ap
    (λ (o : Option Passed).
    elim o [
      | None ↦ no_front cells p
      | Some t ↦ in_front t (opened_prefixes options false size t.cells t.point)
    ]) (opens-ended options interrupting cells p openers ends)

-- at the begin of a line
pub record Begins (front tail : List Event) (p : Point) (cs : List Container) (still : HeldLeaf)
    (h : Here) : Type 0 where
  pub rest : IsRest h.scratch
  pub events : h.events ≡ front ++ tail
  pub containers : AreOpen h.flags.containers cs
  pub continued : h.flags.continued ≡ 0
  pub leaf : h.flags.leaf ≡ still
  pub blank : h.flags.blank ≡ false
  pub line_end : h.flags.line_end ≡ length front
  pub ends : Ends (length h.flags.containers) tail p

pub line-done : (options : ParseOptions) (next : Rule) (front tail : List Event) (p : Point) (cs : List Container)
    (still : HeldLeaf) (cells : List Cell) (h : Here) →
    length cells ≤ any_size → Begins front tail p cs still h →
    Done next options front tail p (held_at options cs still cells h.point) (line_then options next cells h)
unfolding line_then new_of held_at
line-done options next front tail p cs still cells h few b =
    done-same options next front tail p _ _ _
    (g.is
    ∙ ap
    (λ (x : HeldLeaf).
    left_of options next (ends_line (first_seen w.cells)) (is_inside x (others_of cs w.containers)) w.cells g.new)
    b.leaf)
    (subst P g.point
    (by (ends_line (first_seen w.cells)) refl (is_inside still (others_of cs w.containers))))
  where
    w : Front
    w = continued_prefixes options cs cells h.point

    g : Gone options next [] cs (continued_prefixes options cs cells h.point) h
        (existing_from options next (suc (length cells)) cells h)
    g = existing-is options next (suc (length cells)) [] cs cells h b.rest (omega arith) b.continued b.containers

    between : Between front tail p cs still w g.new
    between = record {
      rest = g.rest;
      events = g.events ∙ ap (λ (es : List Event). es ++ w.events) b.events ∙ append_assoc front tail w.events;
      containers = g.containers;
      continued = let n = g.continued in omega (arith, n);
      leaf = g.leaf ∙ b.leaf;
      blank = g.blank ∙ b.blank;
      line_end = g.line_end ∙ b.line_end;
      ends = let E : ℕ → Type 0 = λ n. Ends n tail p in subst E (sym g.size) b.ends;
    }

    fewer : length w.cells ≤ any_size
    fewer = let less = proceeded-shorter options cs cells h.point in omega (arith, few, less)

    interrupting : Bool
    interrupting = interrupts still (others_of cs w.containers)

    opening : Point → Front
    opening q = opened_prefixes options interrupting (length w.cells) w.cells q

    P : Point → Type 0
    P q =
        Done next options front tail p
        (held_of options cs still w
        (cond (is_inside still (others_of cs w.containers)) (no_front w.cells q) (opening q)))
        (left_of options next (ends_line (first_seen w.cells)) (is_inside still (others_of cs w.containers))
        w.cells g.new)

    none : Done next options front tail p (held_of options cs still w (no_front w.cells g.new.point))
        (after_containers options next w.cells g.new)
    none = done-none options next front tail p cs still w w.cells g.new fewer between

    by : (x : Bool) → ends_line (first_seen w.cells) ≡ x → (y : Bool) →
        Done next options front tail p
        (held_of options cs still w (cond y (no_front w.cells g.new.point) (opening g.new.point)))
        (left_of options next x y w.cells g.new)
    by true ends true = none
    by true ends false =
        let D : Front → Type 0 = λ f.
        Done next options front tail p (held_of options cs still w f) (after_containers options next w.cells g.new) in
        subst D (sym (front-ended options interrupting (length w.cells) w.cells g.new.point ends)) none
    by false going true = none
    by false going false =
        new-done options next front tail p cs still interrupting w (length w.cells) (length w.cells) w.cells g.new
        fewer between
        (interrupts-is still w.containers (others_of cs w.containers) g.new.flags between.leaf between.containers
        between.continued) (omega arith) (omega arith)
