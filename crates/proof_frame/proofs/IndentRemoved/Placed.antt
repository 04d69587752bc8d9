-- What is on a line that loses columns of whitespace is a stretch.
use Rattle.std.proofs.Common.{◌≡◌, ℕ, ◌+◌, ◌<◌, Bool, true, false, cond, ◌&&◌, ◌||◌, List, [], ◌∷◌}
use Rattle.std.proofs.Common.{◌++◌, length, drop, refl, sym, ◌∙◌, ap, arith, subst}
use Rattle.std.specs.Prelude.{◌==◌, nat_lt, IsTrue}
use Rattle.std.proofs.lemmas.Bool.{or_right}
use Rattle.md_engine.specs.declared.event.Name.{Name}
use Rattle.md_engine.specs.declared.event.Name.TheVariants as n
use Rattle.md_engine.specs.declared.event.Point.{Point}
use Rattle.md_meaning.specs.Rest.{Rest, indent, lose}
use Rattle.md_meaning.proofs.TextsLemmas.{NoEnding}
use Rattle.md_events.specs.Events.Nested.{pair}
use Rattle.md_events.specs.Events.Pieces.{begins_in_tab, may_cover}
use Rattle.md_events.specs.Events.Places.{at_or_before, past_text}
use Rattle.md_events.proofs.FeedLines.{before-byte}
use Rattle.md_events.proofs.InlineLemmas.{past-index}
use Rattle.md_events.proofs.RestCells.{lose-no_ending}
use Rattle.proof_frame.specs.RestLine.{rest_line}
use Rattle.proof_frame.specs.LineColumns.{columns_part, lost_line, part_over, past_columns}
use Rattle.proof_frame.proofs.IndentRemoved.Places.{FurtherAt, HasLeft, further-no_ending, has-left}
use Rattle.proof_frame.proofs.PieceFacts.{begins-cut, over-front, over-valid, piece-valid}
use Rattle.proof_frame.proofs.RestFacts.{rest-no_ending}
use Rattle.md_events.specs.Events.Spelled.{IsQuiet, Role}
use Rattle.proof_frame.proofs.BetweenFacts.{white-between}
use Rattle.proof_frame.proofs.Stretch.{IsPiece, Stretch, stretch-append, stretch-none, stretch-pair, white-piece}

-- Whitespace.

pub columns-stretch : (R : Role → Type 0) (bytes : List ℕ) (room : ℕ) (r : Rest) (p q : Point) → R IsQuiet →
    HasLeft bytes room r p q →
    Stretch R bytes p (past_columns room r p) (columns_part room r p) (columns_part room r p)
columns-stretch R bytes room r p q quiet left = go (nat_lt 0 room && nat_lt 0 (indent r)) refl
  where
    at : Point
    at = past_columns room r p

    go : (x : Bool) → (nat_lt 0 room && nat_lt 0 (indent r)) ≡ x →
        Stretch R bytes p (past_columns room r p) (cond x (pair n.SpaceOrTab p (past_columns room r p)) [])
        (cond x (pair n.SpaceOrTab p (past_columns room r p)) [])
    go true e =
        stretch-pair R bytes n.SpaceOrTab p at (white-piece R bytes quiet) left.white.onward
        (piece-valid bytes n.SpaceOrTab p at (left.apart e) (begins-cut n.SpaceOrTab p refl)
        (or_right (at.vs == 0) true refl) left.white.blank)
    go false e = subst (λ (x : Point). Stretch R bytes p x [] []) (sym (left.none e)) (stretch-none R bytes p)

-- A part over bytes, from a point on.

pub over-onward : (text : List ℕ) (p q : Point) → 0 < length text → q ≡ past_text text p → IsTrue (at_or_before p q)
over-onward text p q some end =
    let index : q.index ≡ p.index + length text = ap (λ (x : Point). x.index) end ∙ past-index text p in
    before-byte p q (omega (arith, some, index))

pub over-stretch : (R : Role → Type 0) (bytes : List ℕ) (name : Name) (text following : List ℕ) (p q : Point) →
    IsPiece R bytes name → drop p.index bytes ≡ text ++ following → q ≡ past_text text p →
    ((p.vs == 0) || begins_in_tab name) ≡ true → may_cover name text ≡ true →
    Stretch R bytes p q (part_over name text p q) (part_over name text p q)
over-stretch R bytes name [] following p q is text end begins over =
    subst (λ (x : Point). Stretch R bytes p x [] []) (sym end) (stretch-none R bytes p)
over-stretch R bytes name (b ∷ bs) following p q is text end begins over =
    let some : 0 < length (b ∷ bs) = omega arith in
    stretch-pair R bytes name p q is (over-onward (b ∷ bs) p q some end)
    (over-valid bytes name p q (b ∷ bs) (over-front bytes p q (b ∷ bs) following text some end) begins over)

-- What is left of a line.

-- A line that loses so many columns, with a part of this name over what is left.
pub lost-stretch : (R : Role → Type 0) (bytes : List ℕ) (name : Name) (lost : ℕ) (r : Rest) (p q : Point) → R IsQuiet →
    IsPiece R bytes name → begins_in_tab name ≡ true →
    (NoEnding (rest_line (lose lost r)) → may_cover name (rest_line (lose lost r)) ≡ true) → FurtherAt bytes r p q →
    Stretch R bytes p q (lost_line name lost r p q) (lost_line name lost r p q)
lost-stretch R bytes name lost r p q quiet piece begins over is =
    let left = has-left bytes lost r p q is in
    let line = rest_line (lose lost r) in
    let at = past_columns lost r p in
    let none = rest-no_ending (lose lost r) (lose-no_ending lost r (further-no_ending bytes r p q is)) in
    stretch-append (columns-stretch R bytes lost r p q quiet left)
    (over-stretch R bytes name line (drop q.index bytes) at q piece left.valid.text_is left.ends
    (begins-cut name at begins) (over none))
    (λ first last. white-between bytes p.index at.index left.white.blank left.white.index first)
