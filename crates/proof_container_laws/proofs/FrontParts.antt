-- Parts of what is before the content of a container, alone, one after the other, and around others: with all that is
-- asked of such events, each container shows it of its own by one walk.
use Rattle.std.proofs.Common.{◌≡◌, ℕ, ◌-◌, Bool, true, false, cond, not, ◌||◌, List, [], ◌∷◌, ◌++◌, slice_range, refl}
use Rattle.std.proofs.Common.{sym, ap, subst}
use Rattle.std.specs.Prelude.{◌==◌, IsTrue, slice_index}
use Rattle.std.proofs.lemmas.Bool.{or_right}
use Rattle.md_engine.specs.declared.event.Event.{Event}
use Rattle.md_engine.specs.declared.event.Name.{Name}
use Rattle.md_engine.specs.declared.event.Name.TheVariants as n
use Rattle.md_engine.specs.declared.event.Point.{Point}
use Rattle.md_containers.proofs.UnlistedLemmas.{NoListing}
use Rattle.md_containers.specs.Unlisted.{in_place}
use Rattle.md_meaning.specs.Rest.{is_blank}
use Rattle.md_outline.specs.Between.{is_between}
use Rattle.md_outline.specs.Roles.{is_plain, is_recorded}
use Rattle.md_events.specs.Events.Inline.{pair_unless_empty}
use Rattle.md_events.specs.Events.Nested.{around, exit, pair}
use Rattle.md_events.specs.Events.Pieces.{is_valid_piece, may_cover}
use Rattle.md_events.specs.Events.Places.{at_or_before, same_place}
use Rattle.md_events.specs.Events.Spelled.{role}
use Rattle.md_events.proofs.EndingsLemmas.{AreOthers, others-append}
use Rattle.md_events.proofs.NestedLemmas.{balanced-none}
use Rattle.proof_frame.proofs.BetweenFacts.{AreBetween, around-between, between-append, between-following, between-pair}
use Rattle.proof_frame.proofs.BetweenFacts.{is_low, white-between}
use Rattle.proof_frame.proofs.EachEvent.{each-append}
use Rattle.proof_frame.proofs.EventNames.{is_front}
use Rattle.proof_frame.proofs.LeafAllowed.{unlisted-both}
use Rattle.proof_frame.proofs.OtherNames.{Other, others-around}
use Rattle.proof_frame.proofs.PartedFacts.{PrefixesAtLineStart, Still, around-sits, clear, sits-append}
use Rattle.proof_frame.proofs.PieceFacts.{PiecesValid, Starts, begins-cut, piece-valid, span, is_valid-append}
use Rattle.proof_frame.proofs.PieceFacts.{is_valid-around, is_valid-none, is_valid-pair}
use Rattle.proof_frame.proofs.PiecesLemmas.{Covered, tiled-append, tiled-around, tiled-none, tiled-pair}
use Rattle.proof_frame.proofs.PlainFacts.{ArePlain, plain-append, plain-around, plain-nil}
use Rattle.proof_frame.proofs.PrefixFacts.{PrefixFacts}
use Rattle.proof_frame.proofs.PrefixNames.{AreFront, IsFrontEvent}
use Rattle.proof_frame.proofs.SpanLemmas.{Nested_in, around-nested, nested_in-append, order-grows}
use Rattle.proof_frame.proofs.Stretch.{pair-nested}

-- Events before the content of a container, from a point to a point.
pub record FrontPart (bytes : List ℕ) (p q : Point) (es : List Event) : Type 0 where
  -- they nest and go forward, and cover what is there
  pub nested : Nested_in p q es
  pub tiled : Covered p q es
  -- their pieces are over what their names say, and none ends a line
  pub is_valid : PiecesValid bytes es
  pub others : AreOthers es
  -- they are between characters, if they begin so
  pub between : is_between bytes p.index ≡ true → AreBetween bytes es × (is_between bytes q.index ≡ true)
  -- they have names of prefixes and containers, an outline knows them, and a text that begins in them ends in them
  pub names : AreFront es
  pub plain : ArePlain bytes es
  pub sits : PrefixesAtLineStart bytes es
  -- nothing is put around any of them
  pub unlisted : NoListing es

-- with this the frame has what it asks of all of them
pub part-facts : {bytes : List ℕ} {p q : Point} {es : List Event} → FrontPart bytes p q es → q.line ≡ p.line →
    (clear bytes q ≡ true → clear bytes p ≡ true) → PrefixFacts bytes p q es
part-facts h line clear = record {
  nested = h.nested;
  line = line;
  tiled = h.tiled;
  is_valid = h.is_valid;
  others = h.others;
  clear = clear;
  between = h.between;
}

-- none
pub part-none : {bytes : List ℕ} (p q : Point) → IsTrue (at_or_before p q) → same_place p q ≡ true →
    (is_between bytes p.index ≡ true → is_between bytes q.index ≡ true) → FrontPart bytes p q []
part-none {bytes = bytes} p q onward same ends = record {
  nested = (balanced-none, (tt, onward));
  tiled = tiled-none p q same;
  is_valid = is_valid-none bytes;
  others = refl;
  between = λ from. (refl, ends from);
  names = tt;
  plain = plain-nil bytes;
  sits = λ ys h. h;
  unlisted = tt;
}

-- one after the other
pub part-append : {bytes : List ℕ} {p q r : Point} {xs ys : List Event} → FrontPart bytes p q xs →
    FrontPart bytes q r ys → FrontPart bytes p r (xs ++ ys)
part-append {bytes = bytes} {p = p} {q = q} {r = r} {xs = xs} {ys = ys} h k = record {
  nested = nested_in-append p q r xs ys h.nested k.nested;
  tiled = tiled-append p q r xs ys h.tiled k.tiled;
  is_valid = is_valid-append bytes xs ys h.is_valid k.is_valid;
  others = others-append xs ys h.others k.others;
  between = λ from.
      let first = h.between from in
      let last = k.between first.1 in (between-append bytes xs ys first.0 last.0, last.1);
  names = each-append IsFrontEvent xs ys h.names k.names;
  plain = plain-append bytes xs ys h.plain k.plain;
  sits = sits-append bytes xs ys h.sits k.sits;
  unlisted = unlisted-both xs ys h.unlisted k.unlisted;
}

-- what is asked of the name of a part
abbrev pub IsFrontName : Name → Type 0
IsFrontName name = Other name × (is_front name ≡ true) × (is_plain (role name) ≡ true) × (in_place name ≡ name)

-- a point that cuts no tab is clear, be the text there said or not
pub recorded-whole : (bytes : List ℕ) (name : Name) (p : Point) → p.vs ≡ 0 →
    (not (is_recorded (role name)) || clear bytes p) ≡ true
recorded-whole bytes name p e = or_right (not (is_recorded (role name))) (clear bytes p) (rw e refl)

-- a pair
pub part-pair : {bytes : List ℕ} (name : Name) (p q : Point) → IsFrontName name →
    PrefixesAtLineStart bytes (pair name p q) → (not (is_recorded (role name)) || clear bytes p) ≡ true →
    (not (is_recorded (role name)) || clear bytes q) ≡ true → IsTrue (at_or_before p q) →
    is_valid_piece bytes (span name p q) ≡ true →
    (is_between bytes p.index ≡ true → is_between bytes q.index ≡ true) → FrontPart bytes p q (pair name p q)
part-pair {bytes = bytes} name p q is sits begin end onward valid ends = record {
  nested = pair-nested name p q onward;
  tiled = tiled-pair name p q;
  is_valid = is_valid-pair bytes name p q valid;
  others = others-around name p q [] is.0 refl;
  between = λ from. (between-pair bytes name p q from (ends from), ends from);
  names = ((is.1, refl), ((is.1, refl), tt));
  plain = plain-around bytes name p q [] is.2 begin end (plain-nil bytes);
  sits = sits;
  unlisted = (is.3, (is.3, tt));
}

-- whitespace, which may begin and end within a tab, if there is any
white-valid : (bytes : List ℕ) (p q : Point) → same_place p q ≡ false →
    may_cover n.SpaceOrTab (slice_range bytes p.index q.index) ≡ true →
    is_valid_piece bytes (span n.SpaceOrTab p q) ≡ true
white-valid bytes p q apart blank =
    piece-valid bytes n.SpaceOrTab p q apart (begins-cut n.SpaceOrTab p refl) (or_right (q.vs == 0) true refl) blank

pub part-white : {bytes : List ℕ} (p q : Point) → IsTrue (at_or_before p q) →
    is_blank (slice_range bytes p.index q.index) ≡ true → FrontPart bytes p q (pair_unless_empty n.SpaceOrTab p q)
part-white {bytes = bytes} p q onward blank = go (same_place p q) refl
  where
    ends : is_between bytes p.index ≡ true → is_between bytes q.index ≡ true
    ends from = white-between bytes p.index q.index blank (order-grows p q onward) from

    go : (x : Bool) → same_place p q ≡ x → FrontPart bytes p q (cond x [] (pair n.SpaceOrTab p q))
    go true e = part-none p q onward e ends
    go false e =
        part-pair n.SpaceOrTab p q (refl, refl, refl, refl) (λ ys h. h) refl refl onward
        (white-valid bytes p q e blank)
        ends

-- a pair around others, which is no text
pub part-around : {bytes : List ℕ} (name : Name) (p q : Point) (es : List Event) → IsFrontName name →
    Still (role name) → is_recorded (role name) ≡ false → Starts es → FrontPart bytes p q es →
    FrontPart bytes p q (around name p q es)
part-around {bytes = bytes} name p q es is still untold starts h = record {
  nested = around-nested name p q es h.nested;
  tiled = tiled-around name p q es h.tiled;
  is_valid = is_valid-around bytes name p q es starts h.is_valid;
  others = others-around name p q es is.0 h.others;
  between = λ from. let inside = h.between from in (around-between bytes name p q es from inside.1 inside.0, inside.1);
  names = ((is.1, refl), each-append IsFrontEvent es (exit name q ∷ []) h.names ((is.1, refl), tt));
  plain = plain-around bytes name p q es is.2 (whole p) (whole q) h.plain;
  sits = around-sits bytes name p q es still h.sits;
  unlisted = (is.3, unlisted-both es (exit name q ∷ []) h.unlisted (is.3, tt));
}
  where
    whole : (r : Point) → (not (is_recorded (role name)) || clear bytes r) ≡ true
    whole r = ap (λ x. not x || clear bytes r) untold

-- after a byte of ASCII is between characters
pub low-past : (bytes : List ℕ) (p q : Point) → is_low (slice_index bytes p.index) ≡ true → q.index - 1 ≡ p.index →
    is_between bytes q.index ≡ true
low-past bytes p q low back =
    between-following bytes q.index (subst (λ (i : ℕ). is_low (slice_index bytes i) ≡ true) (sym back) low)
