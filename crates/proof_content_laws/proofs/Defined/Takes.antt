-- Parts that are taken from the cells of lines, and their events in the places of these lines.
use Rattle.std.proofs.Common.{◌≡◌, inl, inr, ℕ, ◌+◌, ◌<◌, ◌≤◌, Bool, true, false, cond, nat_eq, List, []}
use Rattle.std.proofs.Common.{◌∷◌, ◌++◌, ◌⊎◌, length, refl, sym, ap, ◌∙◌, subst, arith, append_assoc}
use Rattle.std.specs.Prelude.{◌&&◌, ◌||◌, nat_le, nat_lt}
use Rattle.std.proofs.lemmas.Bool.{or_parts}
use Rattle.std.proofs.lemmas.Bool.Decides.{nat_tests}
use Rattle.std.proofs.lemmas.List.{length-append}
use Rattle.md_engine.specs.declared.event.Event.{Event}
use Rattle.md_engine.specs.declared.event.Name.{Name}
use Rattle.md_engine.specs.declared.event.Point.{Point}
use Rattle.md_engine.specs.Meaning.{Cell}
use Rattle.md_engine.specs.Place.{is_ending}
use Rattle.md_content.specs.ContentReads.{is_piece_end}
use Rattle.md_meaning.specs.Rest.{is_white}
use Rattle.md_events.specs.Ahead.{begins_white, point_after}
use Rattle.md_events.specs.Events.Inline.{is_line_ending}
use Rattle.md_events.specs.Events.Nested.{exit}
use Rattle.md_events.specs.Events.Places.{past_byte}
use Rattle.md_events.specs.Events.Tiles.{is_data}
use Rattle.md_events.specs.Spaces.{any_size}
use Rattle.md_events.proofs.FeedLines.{NoFeed, after_last, ending-some, next_column}
use Rattle.proof_frame.specs.Laid.{LineBreak, laid}
use Rattle.proof_content_laws.proofs.Defined.Along.{IsCell, IsStep, IsTurn, Kind, OfByte, OfColumn, OfLast, Valid}
use Rattle.proof_content_laws.proofs.Defined.Along.{Steps, Turn, Walks, breaks, column_byte, kind}
use Rattle.proof_content_laws.proofs.Defined.Placed.{Before, Fits, Upto, bare-front, bared, fits-append, fits-from}
use Rattle.proof_content_laws.proofs.Defined.Placed.{placed, placed-break, placed-here, placed-upto}
use Rattle.proof_content_laws.proofs.Defined.Runs.{step-line, step-valid}
use Rattle.proof_frame.proofs.FrontPlaces.{fronts-grow, fronts-line}

-- What a cell is.

-- a column of a tab is whitespace
pub column-is-white : (x : Bool) → (is_white (cond x 32 9) ≡ true) × (nat_eq (cond x 32 9) 10 ≡ false)
column-is-white true = (refl, refl)
column-is-white false = (refl, refl)

-- one of a line is no ending,
pub step-plain : (bytes : List ℕ) (p : Point) (c : Cell) → Valid bytes p → IsStep bytes p c → nat_eq c.byte 10 ≡ false
step-plain bytes p c valid is = go (kind bytes p c valid is)
  where
    go : Kind bytes p c → nat_eq c.byte 10 ≡ false
    go (OfByte k) =
        let plain : is_ending k.byte ≡ false = ap is_ending (sym k.at) ∙ is.plain in
        ap (λ (d : Cell). nat_eq d.byte 10) k.cell_is ∙ (or_parts (nat_eq k.byte 10) (nat_eq k.byte 13) plain).0
    go (OfColumn k) = ap (λ (d : Cell). nat_eq d.byte 10) k.cell_is ∙ (column-is-white (nat_lt 0 p.vs)).1
    go (OfLast k) = ap (λ (d : Cell). nat_eq d.byte 10) k.cell_is ∙ (column-is-white (nat_lt 0 p.vs)).1

-- and a byte begins at one that is no whitespace
pub step-whole : (bytes : List ℕ) (p : Point) (c : Cell) → Valid bytes p → IsStep bytes p c →
    is_white c.byte ≡ false → p.vs ≡ 0
step-whole bytes p c valid is other = go (kind bytes p c valid is)
  where
    white : (q : Point) → c.byte ≡ column_byte p → p.vs ≡ 0
    white q e =
        let yes : is_white c.byte ≡ true = ap is_white e ∙ (column-is-white (nat_lt 0 p.vs)).0 in cc

    go : Kind bytes p c → p.vs ≡ 0
    go (OfByte k) = k.whole
    go (OfColumn k) = white p (ap (λ (d : Cell). d.byte) k.cell_is)
    go (OfLast k) = white p (ap (λ (d : Cell). d.byte) k.cell_is)

-- Where cells are.

pub before-from : (p q : Point) (bs : List LineBreak) → p.index ≤ q.index → Before q bs → Before p bs
before-from p q [] le h = tt
before-from p q (b ∷ bs) le h = omega (arith, le, h)

pub record Walk (bytes : List ℕ) (last p : Point) (cells : List Cell) (turns : List Turn) : Type 0 where
  pub valid : Valid bytes p
  pub walks : Walks bytes last p cells turns
  pub small : length cells ≤ any_size
  pub whole : last.vs ≡ 0

-- it ends after where it begins, and each break is still to come
pub turn-grows : (bytes : List ℕ) (p : Point) (c : Cell) (cs : List Cell) (turns left : List Turn) →
    (is : IsTurn bytes p c cs turns left) →
    (p.index < is.turn.break.after.index) × (is.turn.break.after.index ≤ c.after.index) × (c.after.line ≡ p.line + 1)
turn-grows bytes p c cs turns left is =
    let break = is.break in
    let ending = break.ending in
    let some = ending-some ending.ending in
    let size = ending.size in
    let line = ending.line in
    let grow = fronts-grow bytes [] is.turn.break.after is.turn.first is.turn.break.front break.front_is in
    let same = fronts-line bytes [] is.turn.break.after is.turn.first is.turn.break.front break.front_is in
    let index = ap (λ (q : Point). q.index) is.after in
    let number = ap (λ (q : Point). q.line) is.after in (
      omega (arith, some, size),
      omega (arith, grow, index),
      omega (arith, line, same, number),
    )

-- where no whitespace comes a byte begins, or all ends
pub walk-whole : (bytes : List ℕ) (last p : Point) (cells : List Cell) (turns : List Turn) →
    Walk bytes last p cells turns → begins_white cells ≡ false → p.vs ≡ 0
walk-whole bytes last p [] turns walk other = ap (λ (q : Point). q.vs) walk.walks.0 ∙ walk.whole
walk-whole bytes last p (c ∷ cs) turns walk other = go walk.walks.1
  where
    go : IsCell bytes p c cs turns walk.walks.0 → p.vs ≡ 0
    go (inl (step, same)) = step-whole bytes p c walk.valid step other
    go (inr turn) = turn.break.whole

-- What is taken.

-- events that no break moves
abbrev pub Quiet : List Event → Type 0
Quiet [] = Unit {0}
Quiet (e ∷ es) = (is_piece_end e ≡ false) × Quiet es

pub laid-quiet : (bs : List LineBreak) (es more : List Event) → Quiet es → laid bs (es ++ more) ≡ es ++ laid bs more
laid-quiet [] es more quiet = refl
laid-quiet (b ∷ bs) [] more quiet = refl
laid-quiet (b ∷ bs) (e ∷ es) more quiet =
    ap
    (λ (x : Bool).
    cond (x && nat_le b.after.index e.point.index)
    (record e { point = b.after } ∷ b.front ++ laid bs (es ++ more)) (e ∷ laid (b ∷ bs) (es ++ more)))
    quiet.0
    ∙ ap (λ (l : List Event). e ∷ l) (laid-quiet (b ∷ bs) es more quiet.1)

-- and one before the next
pub laid-before : (bs : List LineBreak) (e : Event) (more : List Event) → Before e.point bs →
    laid bs (e ∷ more) ≡ e ∷ laid bs more
laid-before [] e more before = refl
laid-before (b ∷ bs) e more before =
    let no : nat_le b.after.index e.point.index ≡ false = grind (arith, nat_tests) in
    ap
    (λ (x : Bool).
    cond (is_piece_end e && x) (record e { point = b.after } ∷ b.front ++ laid bs more) (e ∷ laid (b ∷ bs) more)) no
    ∙ go (is_piece_end e)
  where
    go : (x : Bool) →
        cond (x && false) (record e { point = b.after } ∷ b.front ++ laid bs more) (e ∷ laid (b ∷ bs) more) ≡
        e ∷ laid (b ∷ bs) more
    go true = refl
    go false = refl

-- Each piece of some events ends before a point, or there.
abbrev pub EndIn : Point → List Event → Type 0
EndIn last [] = Unit {0}
EndIn last (e ∷ es) =
    (is_piece_end e ≡ true → (e.point ≡ last) ⊎ (e.point.index < last.index)) × EndIn last es

pub end_in-append : (last : Point) (xs ys : List Event) → EndIn last xs → EndIn last ys → EndIn last (xs ++ ys)
end_in-append last [] ys h k = k
end_in-append last (x ∷ xs) ys h k = (h.0, end_in-append last xs ys h.1 k)

pub quiet-end_in : (last : Point) (es : List Event) → Quiet es → EndIn last es
quiet-end_in last [] quiet = tt
quiet-end_in last (e ∷ es) quiet =
    (λ ends. let no : true ≡ false = sym ends ∙ quiet.0 in cc, quiet-end_in last es quiet.1)

-- Cells that end at a point begin there or before it.
step-apart : (bytes : List ℕ) (p last : Point) (c : Cell) → Valid bytes p → IsStep bytes p c → last.vs ≡ 0 →
    (c.after ≡ last) ⊎ (c.after.index < last.index) → p.index < last.index
step-apart bytes p last c valid is whole h = go (kind bytes p c valid is)
  where
    At : Cell → Type 0
    At d = (d.after ≡ last) ⊎ (d.after.index < last.index)

    further : (q : Point) → q.index ≡ p.index + 1 → (q ≡ last) ⊎ (q.index < last.index) → p.index < last.index
    further q e (inl same) = let at = ap (λ (r : Point). r.index) same in omega (arith, e, at)
    further q e (inr lt) = omega (arith, e, lt)

    column : (q : Point) → q.index ≡ p.index → q.vs ≡ p.vs + 1 → (q ≡ last) ⊎ (q.index < last.index) →
        p.index < last.index
    column q e k (inl same) = let at = ap (λ (r : Point). r.vs) same in absurd (omega (arith, at, whole, k))
    column q e k (inr lt) = omega (arith, e, lt)

    go : Kind bytes p c → p.index < last.index
    go (OfByte k) = further (past_byte k.byte p) refl (subst At k.cell_is h)
    go (OfColumn k) = column (next_column p) refl refl (subst At k.cell_is h)
    go (OfLast k) = further (after_last p) refl (subst At k.cell_is h)

walks-last : (bytes : List ℕ) (last p : Point) (cells : List Cell) (turns : List Turn) → Valid bytes p →
    Walks bytes last p cells turns → last.vs ≡ 0 → (p ≡ last) ⊎ (p.index < last.index)
walks-last bytes last p [] turns valid walks whole = inl walks.0
walks-last bytes last p (c ∷ cs) turns valid walks whole =
    go walks.1 (λ after. walks-last bytes last c.after cs walks.0 after walks.2 whole)
  where
    over : (q : Point) → p.index < q.index → (q ≡ last) ⊎ (q.index < last.index) → p.index < last.index
    over q lt (inl same) = let at = ap (λ (r : Point). r.index) same in omega (arith, lt, at)
    over q lt (inr further) = omega (arith, lt, further)

    go : IsCell bytes p c cs turns walks.0 → (Valid bytes c.after → (c.after ≡ last) ⊎ (c.after.index < last.index)) →
        (p ≡ last) ⊎ (p.index < last.index)
    go (inl (step, same)) on =
        inr (step-apart bytes p last c valid step whole (on (step-valid bytes p c valid step)))
    go (inr turn) on =
        let grows = turn-grows bytes p c cs turns walks.0 turn in
        let first = grows.0 in
        let more = grows.1 in
        inr (over c.after (omega (arith, first, more)) (on (subst (Valid bytes) (sym turn.after) turn.valid)))

pub walk-last : (bytes : List ℕ) (last p : Point) (cells : List Cell) (turns : List Turn) →
    Walk bytes last p cells turns → (p ≡ last) ⊎ (p.index < last.index)
walk-last bytes last p cells turns walk = walks-last bytes last p cells turns walk.valid walk.walks walk.whole

-- a cell at whose end no tab is cut, of no byte, begins where none is
step-kept : (bytes : List ℕ) (p : Point) (c : Cell) → Valid bytes p → IsStep bytes p c → p.index ≡ c.after.index →
    c.after.vs ≡ 0 → p.vs ≡ 0
step-kept bytes p c valid is = go (kind bytes p c valid is)
  where
    At : Cell → Type 0
    At d = p.index ≡ d.after.index → d.after.vs ≡ 0 → p.vs ≡ 0

    go : Kind bytes p c → At c
    go (OfByte k) = subst At (sym k.cell_is) (λ same whole. absurd (omega (arith, same)))
    go (OfColumn k) = subst At (sym k.cell_is) (λ same whole. absurd (omega (arith, whole)))
    go (OfLast k) = subst At (sym k.cell_is) (λ same whole. absurd (omega (arith, same)))

-- Events of cells from a point to a point are these in their places, and so many lines are passed.
pub record Takes (bytes : List ℕ) (last p : Point) (turns : List Turn) (q : Point) (rest : List Cell)
    (left : List Turn) (es fs : List Event) : Type 0 where
  pub walk : Walk bytes last q rest left
  pub took : List Turn
  pub turns_are : turns ≡ took ++ left
  pub line : q.line ≡ p.line + length took
  pub index : p.index ≤ q.index
  pub before : (bs : List LineBreak) → Before q bs → Before p (breaks took ++ bs)
  pub lays : (bs : List LineBreak) → Before q bs → (more : List Event) →
      laid (breaks took ++ bs) (es ++ more) ≡ fs ++ laid bs more
  -- where they end in no tab they begin in none, if no byte is between
  pub kept : p.index ≡ q.index → q.vs ≡ 0 → p.vs ≡ 0
  -- without what is before lines they are these, to whose lines the events belong by their bytes
  pub settled : List Event
  pub settles : (bs : List LineBreak) → Before q bs → (more : List Event) →
      laid (bared (breaks took) ++ bs) (es ++ more) ≡ settled ++ laid bs more
  pub begins : (more : List Event) → Fits q more → Fits p (settled ++ more)
  pub cuts : (bs : List LineBreak) → Before q bs → (more : List Event) → Fits q more →
      placed (breaks took ++ bs) (settled ++ more) ≡ fs ++ placed bs more
  -- each piece ends before where all ends, or there
  pub ends : EndIn last es

-- none
pub takes-none : (bytes : List ℕ) (last p : Point) (cells : List Cell) (turns : List Turn) →
    Walk bytes last p cells turns → Takes bytes last p turns p cells turns [] []
takes-none bytes last p cells turns walk = record {
  walk = walk;
  took = [];
  turns_are = refl;
  line = omega arith;
  index = omega arith;
  before = λ bs h. h;
  lays = λ bs h more. refl;
  kept = λ same whole. whole;
  settled = [];
  settles = λ bs h more. refl;
  begins = λ more fits. fits;
  cuts = λ bs h more fits. refl;
  ends = tt;
}

bared-append : (ts us : List Turn) (bs : List LineBreak) →
    bared (breaks (ts ++ us)) ++ bs ≡ bared (breaks ts) ++ (bared (breaks us) ++ bs)
bared-append [] us bs = refl
bared-append (t ∷ ts) us bs =
    ap (λ (l : List LineBreak). (record { after = t.break.after; front = [] }) ∷ l) (bared-append ts us bs)

-- before breaks with nothing before their lines
pub before-bared : (p : Point) (bs cs : List LineBreak) → Before p (bs ++ cs) → Before p (bared bs ++ cs)
before-bared p [] cs h = h
before-bared p (b ∷ bs) cs h = h

breaks-append : (ts us : List Turn) (bs : List LineBreak) → breaks (ts ++ us) ++ bs ≡ breaks ts ++ (breaks us ++ bs)
breaks-append [] us bs = refl
breaks-append (t ∷ ts) us bs = ap (λ (l : List LineBreak). t.break ∷ l) (breaks-append ts us bs)

-- one after another
pub takes-then : (bytes : List ℕ) (last p : Point) (turns : List Turn) (q : Point) (rest : List Cell)
    (left : List Turn) (es fs : List Event) (r : Point) (following : List Cell) (end : List Turn) (gs hs : List Event) →
    Takes bytes last p turns q rest left es fs → Takes bytes last q left r following end gs hs →
    Takes bytes last p turns r following end (es ++ gs) (fs ++ hs)
takes-then bytes last p turns q rest left es fs r following end gs hs one two = record {
  walk = two.walk;
  took = one.took ++ two.took;
  turns_are =
      one.turns_are ∙ ap (λ (l : List Turn). one.took ++ l) two.turns_are
      ∙ sym (append_assoc one.took two.took end);
  line =
      let size = length-append one.took two.took in
      let first = one.line in
      let second = two.line in
      omega (arith, size, first, second);
  index = let first = one.index in let second = two.index in omega (arith, first, second);
  before = λ bs h.
      subst (Before p) (sym (breaks-append one.took two.took bs))
      (one.before (breaks two.took ++ bs) (two.before bs h));
  lays = λ bs h more.
      ap (λ (l : List LineBreak). laid l ((es ++ gs) ++ more)) (breaks-append one.took two.took bs)
      ∙ ap (laid (breaks one.took ++ (breaks two.took ++ bs))) (append_assoc es gs more)
      ∙ one.lays (breaks two.took ++ bs) (two.before bs h) (gs ++ more)
      ∙ ap (λ (l : List Event). fs ++ l) (two.lays bs h more)
      ∙ sym (append_assoc fs hs (laid bs more));
  kept = λ same whole.
      let first = one.index in
      let second = two.index in
      one.kept (omega (arith, first, second, same)) (two.kept (omega (arith, first, second, same)) whole);
  settled = one.settled ++ two.settled;
  settles = λ bs h more.
      ap (λ (l : List LineBreak). laid l ((es ++ gs) ++ more)) (bared-append one.took two.took bs)
      ∙ ap (laid (bared (breaks one.took) ++ (bared (breaks two.took) ++ bs))) (append_assoc es gs more)
      ∙ one.settles (bared (breaks two.took) ++ bs) (before-bared q (breaks two.took) bs (two.before bs h)) (gs ++ more)
      ∙ ap (λ (l : List Event). one.settled ++ l) (two.settles bs h more)
      ∙ sym (append_assoc one.settled two.settled (laid bs more));
  begins = λ more fits.
      subst (Fits p) (sym (append_assoc one.settled two.settled more))
      (one.begins (two.settled ++ more) (two.begins more fits));
  cuts = λ bs h more fits.
      ap (λ (l : List LineBreak). placed l ((one.settled ++ two.settled) ++ more)) (breaks-append one.took two.took bs)
      ∙ ap (placed (breaks one.took ++ (breaks two.took ++ bs))) (append_assoc one.settled two.settled more)
      ∙ one.cuts (breaks two.took ++ bs) (two.before bs h) (two.settled ++ more) (two.begins more fits)
      ∙ ap (λ (l : List Event). fs ++ l) (two.cuts bs h more fits)
      ∙ sym (append_assoc fs hs (placed bs more));
  ends = end_in-append last es gs one.ends two.ends;
}

-- with quiet events around
pub takes-around : (bytes : List ℕ) (last p : Point) (turns : List Turn) (q : Point) (rest : List Cell)
    (left : List Turn) (es fs front back : List Event) → Quiet front → Quiet back →
    Takes bytes last p turns q rest left es fs → Fits p front → Upto p front → Fits q back → Upto q back →
    Takes bytes last p turns q rest left (front ++ es ++ back) (front ++ fs ++ back)
takes-around bytes last p turns q rest left es fs front back quiet still one front_fits front_upto back_fits back_upto =
    record {
      walk = one.walk;
      took = one.took;
      turns_are = one.turns_are;
      line = one.line;
      index = one.index;
      before = one.before;
      lays = λ bs h more.
          ap (laid (breaks one.took ++ bs)) (simp append_assoc)
          ∙ laid-quiet (breaks one.took ++ bs) front (es ++ (back ++ more)) quiet
          ∙ ap (λ (l : List Event). front ++ l)
          (one.lays bs h (back ++ more) ∙ ap (λ (l : List Event). fs ++ l) (laid-quiet bs back more still))
          ∙ simp append_assoc;
      kept = one.kept;
      settled = front ++ one.settled ++ back;
      settles = λ bs h more.
          ap (laid (bared (breaks one.took) ++ bs)) (simp append_assoc)
          ∙ laid-quiet (bared (breaks one.took) ++ bs) front (es ++ (back ++ more)) quiet
          ∙ ap (λ (l : List Event). front ++ l)
          (one.settles bs h (back ++ more) ∙ ap (λ (l : List Event). one.settled ++ l) (laid-quiet bs back more still))
          ∙ simp append_assoc;
      begins = λ more fits.
          subst (Fits p) (sym (all front one.settled back more))
          (fits-append p front (one.settled ++ (back ++ more)) front_fits
          (one.begins (back ++ more) (fits-append q back more back_fits fits)));
      cuts = λ bs h more fits.
          ap (placed (breaks one.took ++ bs)) (all front one.settled back more)
          ∙ placed-upto (breaks one.took ++ bs) p front (one.settled ++ (back ++ more)) front_upto (one.before bs h)
          ∙ ap (λ (l : List Event). front ++ l)
          (one.cuts bs h (back ++ more) (fits-append q back more back_fits fits)
          ∙ ap (λ (l : List Event). fs ++ l) (placed-upto bs q back more back_upto h))
          ∙ sym (all front fs back (placed bs more));
      ends =
          end_in-append last (front ++ es) back
          (end_in-append last front es (quiet-end_in last front quiet) one.ends) (quiet-end_in last back still);
    }
  where
    all : (x y z w : List Event) → (x ++ y ++ z) ++ w ≡ x ++ (y ++ (z ++ w))
    all x y z w = simp append_assoc

-- no line ends in what leaves all turns
took-none : (took left : List Turn) → left ≡ took ++ left → took ≡ []
took-none [] left e = refl
took-none (t ∷ ts) left e =
    let size = ap length e in
    let parts = length-append ts left in
    absurd (omega (arith, size, parts))

-- quiet events alone
pub takes-quiet : (bytes : List ℕ) (last p : Point) (turns : List Turn) (q : Point) (rest : List Cell)
    (left : List Turn) (es : List Event) → Quiet es → Takes bytes last p turns q rest left [] [] → turns ≡ left →
    Fits p es → Upto q es → Takes bytes last p turns q rest left es es
takes-quiet bytes last p turns q rest left es quiet one same fit upto = record {
  walk = one.walk;
  took = one.took;
  turns_are = one.turns_are;
  line = one.line;
  index = one.index;
  before = one.before;
  lays = λ bs h more.
      laid-quiet (breaks one.took ++ bs) es more quiet ∙ ap (λ (l : List Event). es ++ l) (one.lays bs h more);
  kept = one.kept;
  settled = es ++ one.settled;
  settles = λ bs h more.
      ap (laid (bared (breaks one.took) ++ bs)) (refl {a = es ++ more})
      ∙ laid-quiet (bared (breaks one.took) ++ bs) es more quiet
      ∙ ap (λ (l : List Event). es ++ l) (one.settles bs h more)
      ∙ sym (append_assoc es one.settled (laid bs more));
  begins = λ more fits.
      subst (Fits p) (sym (append_assoc es one.settled more))
      (fits-append p es (one.settled ++ more) fit (one.begins more fits));
  cuts = λ bs h more fits.
      let none : one.took ≡ [] = took-none one.took left (sym same ∙ one.turns_are) in
      let before : Before q (breaks one.took ++ bs) =
      subst (λ (l : List Turn). Before q (breaks l ++ bs)) (sym none) h in
      ap (placed (breaks one.took ++ bs)) (append_assoc es one.settled more)
      ∙ placed-upto (breaks one.took ++ bs) q es (one.settled ++ more) upto before
      ∙ ap (λ (l : List Event). es ++ l) (one.cuts bs h more fits);
  ends = quiet-end_in last es quiet;
}

-- with the end of a piece of a line
pub takes-end : (bytes : List ℕ) (last p : Point) (turns : List Turn) (q : Point) (rest : List Cell)
    (left : List Turn) (es fs : List Event) (name : Name) → Takes bytes last p turns q rest left es fs → q.vs ≡ 0 →
    Takes bytes last p turns q rest left (es ++ exit name q ∷ []) (fs ++ exit name q ∷ [])
takes-end bytes last p turns q rest left es fs name one whole = record {
  walk = one.walk;
  took = one.took;
  turns_are = one.turns_are;
  line = one.line;
  index = one.index;
  before = one.before;
  lays = λ bs h more.
      ap (laid (breaks one.took ++ bs)) (append_assoc es (exit name q ∷ []) more)
      ∙ one.lays bs h (exit name q ∷ more)
      ∙ ap (λ (l : List Event). fs ++ l) (laid-before bs (exit name q) more h)
      ∙ sym (append_assoc fs (exit name q ∷ []) (laid bs more));
  kept = one.kept;
  settled = one.settled ++ exit name q ∷ [];
  settles = λ bs h more.
      ap (laid (bared (breaks one.took) ++ bs)) (append_assoc es (exit name q ∷ []) more)
      ∙ one.settles bs h (exit name q ∷ more)
      ∙ ap (λ (l : List Event). one.settled ++ l) (laid-before bs (exit name q) more h)
      ∙ sym (append_assoc one.settled (exit name q ∷ []) (laid bs more));
  begins = λ more fits.
      subst (Fits p) (sym (append_assoc one.settled (exit name q ∷ []) more))
      (one.begins (exit name q ∷ more) (omega arith, λ same. whole));
  cuts = λ bs h more fits.
      ap (placed (breaks one.took ++ bs)) (append_assoc one.settled (exit name q ∷ []) more)
      ∙ one.cuts bs h (exit name q ∷ more) (omega arith, λ same. whole)
      ∙ ap (λ (l : List Event). fs ++ l) (placed-upto bs q (exit name q ∷ []) more (omega arith, tt) h)
      ∙ sym (append_assoc fs (exit name q ∷ []) (placed bs more));
  ends =
      end_in-append last es (exit name q ∷ []) one.ends (λ ends. walk-last bytes last q rest left one.walk, tt);
}

-- Cells of a line.

pub record OnLine (bytes : List ℕ) (last p : Point) (cells : List Cell) (turns : List Turn) (rest : List Cell) :
    Type 0 where
  pub steps : Steps bytes p cells
  pub takes : Takes bytes last p turns (point_after cells p) rest turns [] []

pub on-line : (bytes : List ℕ) (last p : Point) (cells rest : List Cell) (turns : List Turn) → NoFeed cells →
    Walk bytes last p (cells ++ rest) turns → OnLine bytes last p cells turns rest
on-line bytes last p [] rest turns none walk = record { steps = tt; takes = takes-none bytes last p rest turns walk }
on-line bytes last p (c ∷ cs) rest turns none walk =
    go walk.walks.1 (λ next. on-line bytes last c.after cs rest walk.walks.0 none.1 next)
  where
    go : IsCell bytes p c (cs ++ rest) turns walk.walks.0 →
        (Walk bytes last c.after (cs ++ rest) walk.walks.0 → OnLine bytes last c.after cs walk.walks.0 rest) →
        OnLine bytes last p (c ∷ cs) turns rest
    go (inl (step, same)) on =
        let small = walk.small in
        let line = step-line bytes p c walk.valid step in
        let more = on
        (record {
          valid = step-valid bytes p c walk.valid step;
          walks = walk.walks.2;
          small = omega (arith, small);
          whole = walk.whole;
        }) in
        let takes = more.takes in
        record {
          steps = (step, more.steps);
          takes = record {
            walk = subst (λ (t : List Turn). Walk bytes last (point_after cs c.after) rest t) (sym same) takes.walk;
            took = takes.took;
            turns_are =
                subst (λ (t : List Turn). t ≡ takes.took ++ t) (sym same) takes.turns_are;
            line = takes.line ∙ ap (λ (x : ℕ). x + length takes.took) line.0;
            index = let further = takes.index in let first = line.1 in omega (arith, further, first);
            before = λ bs h. before-from p c.after (breaks takes.took ++ bs) line.1 (takes.before bs h);
            lays = takes.lays;
            kept = λ at whole.
                let further = takes.index in
                let first = line.1 in
                step-kept bytes p c walk.valid step (omega (arith, further, first, at))
                (takes.kept (omega (arith, further, first, at)) whole);
            settled = takes.settled;
            settles = takes.settles;
            begins = λ more fits.
                fits-from p c.after (takes.settled ++ more) line.1
                (λ at whole. step-kept bytes p c walk.valid step at whole) (takes.begins more fits);
            cuts = takes.cuts;
            ends = takes.ends;
          };
        }
    go (inr turn) on = let no : true ≡ false = rw turn.byte at none.0 in cc

-- The ending of a line.

-- whether a piece of this name may reach over it
abbrev pub reaches : Name → Bool
reaches name = is_data name || is_line_ending name

pub record OverEnd (bytes : List ℕ) (last p : Point) (c : Cell) (cs : List Cell) (turns : List Turn) (name : Name) :
    Type 0 where
  pub left : List Turn
  pub turn : IsTurn bytes p c cs turns left
  pub takes : Takes bytes last p turns c.after cs left (exit name c.after ∷ [])
      (exit name turn.turn.break.after ∷ turn.turn.break.front)

pub over-end : (bytes : List ℕ) (last p : Point) (c : Cell) (cs : List Cell) (turns : List Turn) (name : Name) →
    reaches name ≡ true → nat_eq c.byte 10 ≡ true → Walk bytes last p (c ∷ cs) turns →
    OverEnd bytes last p c cs turns name
over-end bytes last p c cs turns name may ten walk = go walk.walks.1
  where
    here : (i : ℕ) → nat_le i i ≡ true
    here i = grind (arith, nat_tests)

    go : IsCell bytes p c cs turns walk.walks.0 → OverEnd bytes last p c cs turns name
    go (inl (step, same)) = let no : nat_eq c.byte 10 ≡ false = step-plain bytes p c walk.valid step in cc
    go (inr is) =
        let small = walk.small in
        let grows = turn-grows bytes p c cs turns walk.walks.0 is in
        let b = is.turn.break in
        let following : nat_le b.after.index c.after.index ≡ true = let le = grows.1 in grind (arith, nat_tests) in
        let after_walk : Walk bytes last c.after cs walk.walks.0 = record {
          valid = subst (Valid bytes) (sym is.after) is.valid;
          walks = walk.walks.2;
          small = omega (arith, small);
          whole = walk.whole;
        } in
        record {
          left = walk.walks.0;
          turn = is;
          takes = record {
            walk = after_walk;
            took = is.turn ∷ [];
            turns_are = is.turns_are;
            line = grows.2;
            index = let first = grows.0 in let more = grows.1 in omega (arith, first, more);
            before = λ bs h. grows.0;
            lays = λ bs h more.
                ap
                (λ (x : Bool).
                cond (x && nat_le b.after.index c.after.index) (exit name b.after ∷ b.front ++ laid bs more)
                (exit name c.after ∷ laid (b ∷ bs) more)) may
                ∙ ap
                (λ (x : Bool).
                cond x (exit name b.after ∷ b.front ++ laid bs more)
                (exit name c.after ∷ laid (b ∷ bs) more)) following;
            kept = λ at whole.
                let first = grows.0 in let more = grows.1 in absurd (omega (arith, first, more, at));
            settled = exit name b.after ∷ [];
            settles = λ bs h more.
                let d : LineBreak = record { after = b.after; front = [] } in
                ap
                (λ (x : Bool).
                cond (x && nat_le b.after.index c.after.index) (exit name b.after ∷ laid bs more)
                (exit name c.after ∷ laid (d ∷ bs) more)) may
                ∙ ap
                (λ (x : Bool).
                cond x (exit name b.after ∷ laid bs more) (exit name c.after ∷ laid (d ∷ bs) more)) following;
            begins = λ more fits.
                let first = grows.0 in (omega (arith, first), λ same. absurd (omega (arith, first, same)));
            cuts = λ bs h more fits.
                placed-here b bs (exit name b.after) more (here b.after.index)
                ∙ ap (λ (l : List Event). exit name b.after ∷ l)
                (placed-break b bs c.after more fits grows.1 h
                (λ at whole.
                let first = ap (λ (r : Point). r.index) is.after in
                let same = ap (λ (r : Point). r.vs) is.after in
                bare-front bytes [] b.after is.turn.first b.front is.break.front_is refl is.break.ending.whole
                (omega (arith, same, whole)) (omega (arith, first, at))));
            ends = (λ ends. walk-last bytes last c.after cs walk.walks.0 after_walk, tt);
          };
        }
