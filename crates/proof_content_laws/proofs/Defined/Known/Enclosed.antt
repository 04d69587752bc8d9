-- What is known of a part between two marks, and of parts that fill their last line.
use Rattle.std.proofs.Common.{◌≡◌, ℕ, Bool, true, false, cond, List, [], ◌∷◌, ◌++◌, refl}
use Rattle.md_engine.specs.declared.event.Event.{Event}
use Rattle.md_engine.specs.declared.event.Name.{Name}
use Rattle.md_engine.specs.declared.event.Name.TheVariants as n
use Rattle.md_engine.specs.declared.event.Point.{Point}
use Rattle.md_events.specs.Events.Grammar.{Expression, following, inside, may_end}
use Rattle.md_events.specs.Events.Inline.{pair_unless_empty}
use Rattle.md_events.specs.Events.Nested.{pair}
use Rattle.md_events.specs.Events.Pieces.{may_cover}
use Rattle.md_events.specs.Events.Places.{same_place}
use Rattle.md_events.specs.Events.Spelled.{OpenLeaf, role}
use Rattle.md_events.proofs.EndingsLemmas.{AreOthers}
use Rattle.md_events.proofs.SpelledLemmas.{Quiet}
use Rattle.proof_frame.proofs.BetweenFacts.{is_low}
use Rattle.proof_content_laws.proofs.Defined.Form.{IsByte}
use Rattle.proof_content_laws.proofs.Defined.Known.Marks.{mark-before, mark-following, mark-parts}
use Rattle.proof_frame.proofs.PartsFacts.{PartsFacts, parts-append}

-- what is asked of the name of a mark, each of which `refl` or `tt` proves
pub record IsMarkName (name : Name) : Type 0 where
  pub quiet : Quiet (role name)
  pub others : (p q : Point) → AreOthers (pair name p q)
  pub ends : (text : Expression) → may_end (inside text name) ≡ true

-- and of a byte that is such a mark
pub record IsMarkByte (name : Name) (b : ℕ) : Type 0 where
  pub over : may_cover name (b ∷ []) ≡ true
  pub low : is_low b ≡ true

-- Between two marks.
pub parts-enclosed : (bytes : List ℕ) (name : Name) (o c : ℕ) (p a b q : Point) (x y : Expression)
    (from to : OpenLeaf) (unread done : List Event) →
    IsMarkName name → IsMarkByte name o → IsMarkByte name c → IsByte bytes o p a → IsByte bytes c b q →
    PartsFacts bytes a b (following name x) y from to unread done →
    PartsFacts bytes p q x (following name y) from to (pair name p a ++ unread ++ pair name b q)
    (pair name p a ++ done ++ pair name b q)
parts-enclosed bytes name o c p a b q x y from to unread done named first last opens closes h =
    parts-append
    (parts-append (mark-parts bytes name o p a x from opens named.quiet (named.others p a) named.ends first.over) h
    (λ begin end. mark-following bytes o p a opens first.low))
    (mark-parts bytes name c b q y to closes named.quiet (named.others b q) named.ends last.over)
    (λ begin end. mark-before bytes c b q closes last.low)

-- Events that fill their last line.

-- whitespace is of others
pub white-others : (p q : Point) → AreOthers (pair_unless_empty n.SpaceOrTab p q)
white-others p q = go (same_place p q)
  where
    go : (b : Bool) → AreOthers (cond b [] (pair n.SpaceOrTab p q))
    go true = refl
    go false = refl
