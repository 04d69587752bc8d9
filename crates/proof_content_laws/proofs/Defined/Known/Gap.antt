-- What is known of the whitespace between two parts of a definition, with at most one line ending in it.
use Rattle.std.proofs.Common.{◌≡◌, ℕ, Bool, true, false, cond, List, [], length, refl, sym, subst, subst₂}
use Rattle.std.specs.Prelude.{nat_lt}
use Rattle.md_engine.specs.declared.event.Event.{Event}
use Rattle.md_engine.specs.declared.event.Name.TheVariants as n
use Rattle.md_engine.specs.declared.event.Point.{Point}
use Rattle.md_outline.specs.Between.{is_between}
use Rattle.md_events.specs.Events.Grammar.{Expression, following}
use Rattle.md_events.specs.Events.Inline.{pair_unless_empty}
use Rattle.md_events.specs.Events.Nested.{pair}
use Rattle.md_events.specs.Events.Places.{same_place}
use Rattle.md_events.specs.Events.Spelled.{DefinitionLeaf, DefinitionSoFar, OpenLeaf}
use Rattle.proof_frame.proofs.BetweenFacts.{ending-before, ending-following}
use Rattle.proof_frame.proofs.ContainerNames.{TakesPrefixes}
use Rattle.proof_content_laws.proofs.Defined.Form.{Gap, IsBreak, IsGap, IsWhite, OnLine, OverLine, gap_events}
use Rattle.proof_content_laws.proofs.Defined.Known.Marks.{white-back, white-between, white-parts}
use Rattle.proof_frame.proofs.PartsFacts.{PartsFacts, parts-append, following_ending, parts-ended, parts-front}
use Rattle.proof_frame.proofs.FrontValid.{fronts-between}

-- Places between characters.

-- after the ending of a line and prefixes,
break-between : (bytes : List ℕ) (e q r : Point) (front : List Event) → IsBreak bytes e q r front →
    is_between bytes r.index ≡ true
break-between bytes e q r front is =
    (fronts-between bytes [] q r front (ending-following bytes e q is.ending) is.front_is).1

-- from the begin of a gap, and from its end
pub gap-between : (bytes : List ℕ) (p q : Point) (g : Gap) → IsGap bytes p q g → is_between bytes p.index ≡ true →
    is_between bytes q.index ≡ true
gap-between bytes p q (OnLine a b) is h = white-between bytes p q is.2 h
gap-between bytes p q (OverLine a e b r s front) is h =
    subst (λ (x : Point). is_between bytes x.index ≡ true) is.4
    (white-between bytes r s is.3 (break-between bytes e b r front is.2))

pub gap-back : (bytes : List ℕ) (p q : Point) (g : Gap) → IsGap bytes p q g → is_between bytes q.index ≡ true →
    is_between bytes p.index ≡ true
gap-back bytes p q (OnLine a b) is h = white-back bytes p q is.2 h
gap-back bytes p q (OverLine a e b r s front) is h = white-back bytes p e is.1 (ending-before bytes e b is.2.ending)

-- What is left of the grammar.

-- Whitespace may be there, or a line ending with prefixes; after whitespace this is left, and that after the ending.
pub record MayGap (x y w : Expression) : Type 0 where
  pub white : following n.SpaceOrTab x ≡ y
  pub ended : following n.LineEnding x ≡ w
  pub white_ended : following n.LineEnding y ≡ w
  pub takes : TakesPrefixes w

abbrev pub gap_left : Expression → Expression → Expression → Gap → Expression
gap_left x y w (OnLine p q) = cond (same_place p q) x y
gap_left x y w (OverLine p e q r s front) = w

-- The gap.

-- after the ending of a line a definition has no line more
ended-leaf : (bytes : List ℕ) (q : Point) (d : DefinitionSoFar) →
    following_ending bytes q (DefinitionLeaf d) ≡ DefinitionLeaf d
ended-leaf bytes q d = go (nat_lt q.index (length bytes))
  where
    go : (x : Bool) → cond x (DefinitionLeaf d) (DefinitionLeaf d) ≡ DefinitionLeaf d
    go true = refl
    go false = refl

-- whitespace, by what is left after it
white-to : (bytes : List ℕ) (p q : Point) (x y : Expression) (leaf : OpenLeaf) → following n.SpaceOrTab x ≡ y →
    IsWhite bytes p q →
    PartsFacts bytes p q x (cond (same_place p q) x y) leaf leaf (pair_unless_empty n.SpaceOrTab p q)
    (pair_unless_empty n.SpaceOrTab p q)
white-to bytes p q x y leaf left is =
    subst
    (λ (z : Expression).
    PartsFacts bytes p q x (cond (same_place p q) x z) leaf leaf (pair_unless_empty n.SpaceOrTab p q)
    (pair_unless_empty n.SpaceOrTab p q)) left (white-parts bytes p q x leaf is)

-- where prefixes may be, so may whitespace
white-same : (bytes : List ℕ) (p q : Point) (w : Expression) (leaf : OpenLeaf) → following n.SpaceOrTab w ≡ w →
    IsWhite bytes p q →
    PartsFacts bytes p q w w leaf leaf (pair_unless_empty n.SpaceOrTab p q) (pair_unless_empty n.SpaceOrTab p q)
white-same bytes p q w leaf left is =
    subst
    (λ (z : Expression).
    PartsFacts bytes p q w z leaf leaf (pair_unless_empty n.SpaceOrTab p q) (pair_unless_empty n.SpaceOrTab p q))
    (go (same_place p q)) (white-to bytes p q w w leaf left is)
  where
    go : (b : Bool) → cond b w w ≡ w
    go true = refl
    go false = refl

-- the ending of a line, wherever it may be
ending-parts : (bytes : List ℕ) (e q r : Point) (front : List Event) (x w : Expression) (d : DefinitionSoFar) →
    following n.LineEnding x ≡ w → IsBreak bytes e q r front →
    PartsFacts bytes e q x w (DefinitionLeaf d) (DefinitionLeaf d) (pair n.LineEnding e q) (pair n.LineEnding e q)
ending-parts bytes e q r front x w d left is =
    subst₂
    (λ (z : Expression) (leaf : OpenLeaf).
    PartsFacts bytes e q x z (DefinitionLeaf d) leaf (pair n.LineEnding e q) (pair n.LineEnding e q)) left
    (ended-leaf bytes q d)
    (parts-ended bytes e q x (DefinitionLeaf d) is.whole is.ending)

pub gap-parts : (bytes : List ℕ) (p q : Point) (x y w : Expression) (d : DefinitionSoFar) (g : Gap) → MayGap x y w →
    IsGap bytes p q g →
    PartsFacts bytes p q x (gap_left x y w g) (DefinitionLeaf d) (DefinitionLeaf d) (gap_events g) (gap_events g)
gap-parts bytes p q x y w d (OnLine a b) may is =
    subst₂
    (λ (u v : Point).
    PartsFacts bytes p q x (cond (same_place u v) x y) (DefinitionLeaf d) (DefinitionLeaf d)
    (pair_unless_empty n.SpaceOrTab u v) (pair_unless_empty n.SpaceOrTab u v)) (sym is.0) (sym is.1)
    (white-to bytes p q x y (DefinitionLeaf d) may.white is.2)
gap-parts bytes p q x y w d (OverLine a e b r s front) may is =
    subst₂
    (λ (u v : Point).
    PartsFacts bytes p v x w leaf leaf (gap_events (OverLine u e b r s front))
    (gap_events (OverLine u e b r s front))) (sym is.0) is.4
    (parts-append
    (parts-append
    (parts-append (white-to bytes p e x y leaf may.white is.1)
    (ending-parts bytes e b r front z w d (go (same_place p e)) is.2)
    (λ begin end. ending-before bytes e b is.2.ending))
    (parts-front bytes b r w leaf front may.takes is.2.front_is)
    (λ begin end. ending-following bytes e b is.2.ending)) (white-same bytes r s w leaf may.takes.0 is.3)
    (λ begin end. break-between bytes e b r front is.2))
  where
    leaf : OpenLeaf
    leaf = DefinitionLeaf d

    z : Expression
    z = cond (same_place p e) x y

    go : (t : Bool) → following n.LineEnding (cond t x y) ≡ w
    go true = may.ended
    go false = may.white_ended
