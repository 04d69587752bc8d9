-- Whitespace of cells of lines, and gaps.
use Rattle.std.proofs.Common.{◌≡◌, ◌≢◌, inl, inr, ℕ, zero, suc, ◌<◌, ◌≤◌, Bool, true, false, cond, nat_eq, List, []}
use Rattle.std.proofs.Common.{◌∷◌, ◌++◌, length, refl, sym, ap, ◌∙◌, subst, arith, append_assoc, append-nil}
use Rattle.std.specs.Prelude.{◌&&◌}
use Rattle.std.specs.List.{list_all}
use Rattle.md_engine.specs.declared.event.Event.{Event}
use Rattle.md_engine.specs.declared.event.Name.TheVariants as n
use Rattle.md_engine.specs.declared.event.Point.{Point}
use Rattle.md_engine.specs.Meaning.{Cell}
use Rattle.md_meaning.specs.Rest.{cut_tab, is_blank, is_white}
use Rattle.md_link_definitions.specs.GapRule.{ending_end, ending_part, ending_rest, gap_end}
use Rattle.md_link_definitions.specs.GapRule.{gap_part, gap_rest, white_part}
use Rattle.md_events.specs.Ahead.{begins_white, point_after, white_end, white_rest}
use Rattle.md_events.specs.Events.Inline.{pair_unless_empty}
use Rattle.md_events.specs.Events.Nested.{enter, exit, pair}
use Rattle.md_events.specs.Events.Places.{same_place}
use Rattle.md_events.specs.Spaces.{any_size}
use Rattle.md_events.proofs.AheadLemmas.{none-end, white-all, white-no_ending}
use Rattle.md_events.proofs.FeedLines.{NoFeed, all-spread, bytes_of, spread, tab_cells, tab_end}
use Rattle.md_events.proofs.PlacesLemmas.{apart-later}
use Rattle.md_events.proofs.RestCells.{cells_by}
use Rattle.md_events.proofs.InlineLemmas.{same-refl}
use Rattle.proof_content_laws.proofs.Defined.Along.{Turn, no_line}
use Rattle.proof_content_laws.proofs.Defined.Form.{Gap, IsBreak, IsGap, IsRun, IsWhite, OnLine, OverLine, gap_events}
use Rattle.proof_content_laws.proofs.Defined.Runs.{RunOf, is-run, run-of, run_text}
use Rattle.proof_content_laws.proofs.Defined.Strands.{run-some}
use Rattle.proof_content_laws.proofs.Defined.Takes.{Takes, Walk, on-line, over-end, takes-none, takes-quiet, takes-then}
use Rattle.proof_content_laws.proofs.Defined.Takes.{walk-whole}

-- Whitespace.

-- the cells of whitespace that comes first
record WhiteFront (room : ℕ) (p : Point) (cells : List Cell) : Type 0 where
  front : List Cell
  split : front ++ white_rest room cells ≡ cells
  none : NoFeed front
  white : list_all is_white (bytes_of front) ≡ true
  end : point_after front p ≡ white_end room cells p
  some : begins_white cells ≡ true → front ≢ []

white-front : (room : ℕ) (p : Point) (cells : List Cell) → length cells ≤ room → WhiteFront room p cells
white-front room p [] le =
    record { front = []; split = refl; none = tt; white = refl; end = refl; some = λ no k. cc }
white-front zero p (c ∷ cs) le = absurd (omega (arith, le))
white-front (suc room) p (c ∷ cs) le =
    go (is_white c.byte) refl (white-front room c.after cs (omega (arith, le)))
  where
    go : (x : Bool) → is_white c.byte ≡ x → WhiteFront room c.after cs → WhiteFront (suc room) p (c ∷ cs)
    go true e more = record {
      front = c ∷ more.front;
      split = rw e (ap (λ (l : List Cell). c ∷ l) more.split);
      none = (white-no_ending c.byte e, more.none);
      white = rw e more.white;
      end = rw e more.end;
      some = λ yes k. cc;
    }
    go false e more = record {
      front = [];
      split = rw e refl;
      none = tt;
      white = refl;
      end = rw e refl;
      some = λ yes k. cc;
    }

-- the bytes of whitespace are that
and-right : (x y : Bool) → (x && y) ≡ true → y ≡ true
and-right true y e = e
and-right false y e = cc

all-following : (f : ℕ → Bool) (xs ys : List Cell) → list_all f (bytes_of (xs ++ ys)) ≡ true →
    list_all f (bytes_of ys) ≡ true
all-following f [] ys e = e
all-following f (x ∷ xs) ys e = all-following f xs ys (and-right (f x.byte) (list_all f (bytes_of (xs ++ ys))) e)

run-white : (bytes : List ℕ) (p q : Point) (cells : List Cell) (run : RunOf bytes p q cells) →
    list_all is_white (bytes_of cells) ≡ true → is_blank (run_text bytes p q cells run) ≡ true
run-white bytes p q cells run white = go run.spaces run.cells_are
  where
    go : (spaces : ℕ) → cells ≡ cells_by no_line spaces run.text p → is_blank (cut_tab spaces ++ run.text) ≡ true
    go zero e =
        sym (all-spread is_white refl no_line run.text p)
        ∙ ap (λ (l : List Cell). list_all is_white (bytes_of l)) (sym e) ∙ white
    go (suc k) e =
        sym (all-spread is_white refl no_line run.text (tab_end k p))
        ∙ all-following is_white (tab_cells no_line k 32 p) (spread no_line run.text (tab_end k p))
        (ap (λ (l : List Cell). list_all is_white (bytes_of l)) (sym e) ∙ white)

-- All whitespace that comes first.
pub record WhiteOf (bytes : List ℕ) (last p : Point) (cells : List Cell) (turns : List Turn) : Type 0 where
  pub takes : Takes bytes last p turns (white_end any_size cells p) (white_rest any_size cells) turns
      (white_part cells p) (pair_unless_empty n.SpaceOrTab p (white_end any_size cells p))
  pub is : IsWhite bytes p (white_end any_size cells p)
  pub dark : begins_white (white_rest any_size cells) ≡ false

pub white-of : (bytes : List ℕ) (last p : Point) (cells : List Cell) (turns : List Turn) →
    Walk bytes last p cells turns → WhiteOf bytes last p cells turns
white-of bytes last p cells turns walk = by (begins_white cells) refl
  where
    q : Point
    q = white_end any_size cells p

    rest : List Cell
    rest = white_rest any_size cells

    known : WhiteFront any_size p cells
    known = white-front any_size p cells walk.small

    dark : begins_white rest ≡ false
    dark = white-all any_size cells walk.small

    front-walk : Walk bytes last p (known.front ++ rest) turns
    front-walk = subst (λ (l : List Cell). Walk bytes last p l turns) (sym known.split) walk

    bare : Takes bytes last p turns q rest turns [] []
    bare =
        subst (λ (r : Point). Takes bytes last p turns r rest turns [] []) known.end
        (on-line bytes last p known.front rest turns known.none front-walk).takes

    some : (front : List Cell) → known.front ≡ front → front ≢ [] →
        (text : List ℕ) × (some : text ≢ []) × (is_blank text ≡ true) × IsRun bytes text p q
    some [] e nonempty = absurd (nonempty refl)
    some (c ∷ cs) e nonempty =
        let steps = (on-line bytes last p known.front rest turns known.none front-walk).steps in
        let whole : (point_after known.front p).vs ≡ 0 =
        ap (λ (r : Point). r.vs) known.end ∙ walk-whole bytes last q rest turns bare.walk dark in
        let run = run-of bytes p known.front walk.valid steps whole in
        let text = run_text bytes p (point_after known.front p) known.front run in (
          text,
          run-some c cs p run.spaces run.text (sym e ∙ run.cells_are),
          run-white bytes p (point_after known.front p) known.front run known.white,
          subst (λ (r : Point). IsRun bytes text p r) known.end
              (is-run bytes p (point_after known.front p) known.front walk.valid run),
        )

    by : (x : Bool) → begins_white cells ≡ x → WhiteOf bytes last p cells turns
    by false e =
        let same : q ≡ p = none-end any_size cells p e in
        record {
          takes =
              subst (λ (es : List Event). Takes bytes last p turns q rest turns es
              (pair_unless_empty n.SpaceOrTab p q)) (sym (ap (λ (x : Bool). cond x (pair n.SpaceOrTab p q) []) e))
              (subst (λ (fs : List Event). Takes bytes last p turns q rest turns [] fs)
              (sym
              (ap (λ (x : Bool). cond x [] (pair n.SpaceOrTab p q))
              (ap (λ (r : Point). same_place p r) same ∙ same-refl p)))
              bare);
          is = inl (sym same);
          dark = dark;
        }
    by true e =
        let known = some known.front refl (known.some e) in
        let run = known.3 in
        let more : 0 < length known.0 = long known.0 known.1 in
        let apart : same_place p q ≡ false = apart-later p q (let size = run.size in omega (arith, size, more)) in
        record {
          takes =
              subst (λ (es : List Event). Takes bytes last p turns q rest turns es
              (pair_unless_empty n.SpaceOrTab p q)) (sym (ap (λ (x : Bool). cond x (pair n.SpaceOrTab p q) []) e))
              (subst (λ (fs : List Event). Takes bytes last p turns q rest turns (pair n.SpaceOrTab p q) fs)
              (sym (ap (λ (x : Bool). cond x [] (pair n.SpaceOrTab p q)) apart))
              (takes-quiet bytes last p turns q rest turns (pair n.SpaceOrTab p q) (refl, (refl, tt)) bare refl
              (omega arith) (bare.index, (omega arith, tt))));
          is = inr known;
          dark = dark;
        }
      where
        long : (text : List ℕ) → text ≢ [] → 0 < length text
        long [] nonempty = absurd (nonempty refl)
        long (b ∷ bs) nonempty = omega arith

-- A gap.
pub record GapOf (bytes : List ℕ) (last p : Point) (cells : List Cell) (turns : List Turn) : Type 0 where
  pub gap : Gap
  pub left : List Turn
  pub takes : Takes bytes last p turns (gap_end cells p) (gap_rest cells) left (gap_part cells p) (gap_events gap)
  pub is : IsGap bytes p (gap_end cells p) gap

-- after the first whitespace, by what follows
gap-by : (bytes : List ℕ) (last p : Point) (cells left : List Cell) (turns : List Turn) →
    white_rest any_size cells ≡ left → (white : WhiteOf bytes last p cells turns) →
    GapOf bytes last p cells turns
gap-by bytes last p cells [] turns e white = record {
  gap = OnLine p q;
  left = turns;
  takes =
      subst
      (λ (l : List Cell).
      Takes bytes last p turns (ending_end l q) (ending_rest l) turns (white_part cells p ++ ending_part l q)
      (gap_events (OnLine p q)))
      (sym e)
      (subst
      (λ (es : List Event). Takes bytes last p turns q [] turns es (gap_events (OnLine p q)))
      (sym (append-nil (white_part cells p)))
      (subst
      (λ (l : List Cell). Takes bytes last p turns q l turns (white_part cells p) (gap_events (OnLine p q))) e
      white.takes));
  is = subst (λ (l : List Cell). IsGap bytes p (ending_end l q) (OnLine p q)) (sym e) (refl, refl, white.is);
}
  where
    q : Point
    q = white_end any_size cells p
gap-by bytes last p cells (c ∷ cs) turns e white = go (nat_eq c.byte 10) refl
  where
    q : Point
    q = white_end any_size cells p

    first : List Event
    first = white_part cells p

    Of : List Cell → Type 0
    Of l =
        (gap : Gap) × (left : List Turn)
        × (Takes bytes last p turns (ending_end l q) (ending_rest l) left (first ++ ending_part l q) (gap_events gap))
        × IsGap bytes p (ending_end l q) gap

    here : Takes bytes last p turns q (c ∷ cs) turns first (pair_unless_empty n.SpaceOrTab p q)
    here =
        subst (λ (l : List Cell). Takes bytes last p turns q l turns first (pair_unless_empty n.SpaceOrTab p q)) e
        white.takes

    done : Of (c ∷ cs) → GapOf bytes last p cells turns
    done known =
        let of : Of (white_rest any_size cells) = subst Of (sym e) known in
        record { gap = of.0; left = of.1; takes = of.2; is = of.3 }

    go : (x : Bool) → nat_eq c.byte 10 ≡ x → GapOf bytes last p cells turns
    go false k =
        done
        (rw k (
          OnLine p q,
          turns,
          subst
              (λ (es : List Event). Takes bytes last p turns q (c ∷ cs) turns es (gap_events (OnLine p q)))
              (sym (append-nil first)) here,
          (refl, refl, white.is),
        ))
    go true k =
        let over = over-end bytes last q c cs turns n.LineEnding refl k here.walk in
        let turn = over.turn in
        let b = turn.turn.break in
        let more = white-of bytes last c.after cs over.left over.takes.walk in
        let r = c.after in
        let s = white_end any_size cs r in
        let rest = white_rest any_size cs in
        let begin = takes-quiet bytes last q turns q (c ∷ cs) turns (enter n.LineEnding q ∷ []) (refl, tt)
        (takes-none bytes last q (c ∷ cs) turns here.walk) refl (omega arith) (omega arith, tt) in
        let ending = takes-then bytes last q turns q (c ∷ cs) turns (enter n.LineEnding q ∷ [])
        (enter n.LineEnding q ∷ []) r cs over.left (exit n.LineEnding r ∷ [])
        (exit n.LineEnding b.after ∷ b.front) begin over.takes in
        let following = takes-then bytes last q turns r cs over.left (pair n.LineEnding q r)
        (pair n.LineEnding q b.after ++ b.front) s rest over.left (white_part cs r)
        (pair_unless_empty n.SpaceOrTab r s) ending more.takes in
        let all = takes-then bytes last p turns q (c ∷ cs) turns first (pair_unless_empty n.SpaceOrTab p q) s rest
        over.left (pair n.LineEnding q r ++ white_part cs r)
        ((pair n.LineEnding q b.after ++ b.front) ++ pair_unless_empty n.SpaceOrTab r s) here following in
        let broken : IsBreak bytes q b.after r b.front =
        subst (λ (x : Point). IsBreak bytes q b.after x b.front) (sym turn.after) turn.break in
        let gap = OverLine p q b.after r s b.front in
        done
        (rw k (
          gap,
          over.left,
          subst
              (λ (fs : List Event).
              Takes bytes last p turns s rest over.left (first ++ (pair n.LineEnding q r ++ white_part cs r)) fs)
              (order (pair_unless_empty n.SpaceOrTab p q) (pair n.LineEnding q b.after) b.front
              (pair_unless_empty n.SpaceOrTab r s)) all,
          (refl, white.is, broken, more.is, refl, walk-whole bytes last s rest over.left more.takes.walk more.dark),
        ))
      where
        order : (w x y z : List Event) → w ++ ((x ++ y) ++ z) ≡ w ++ x ++ y ++ z
        order w x y z = simp append_assoc

pub gap-of : (bytes : List ℕ) (last p : Point) (cells : List Cell) (turns : List Turn) →
    Walk bytes last p cells turns → GapOf bytes last p cells turns
gap-of bytes last p cells turns walk =
    gap-by bytes last p cells (white_rest any_size cells) turns refl (white-of bytes last p cells turns walk)
