-- Prefixes of quotes keep the grammar of events.
use Rattle.std.proofs.Common.{◌≡◌, Bool, true, false, cond, List, [], ◌∷◌, ◌++◌, refl, sym, subst, append_assoc}
use Rattle.md_engine.specs.declared.event.Event.{Event}
use Rattle.md_engine.specs.declared.event.Name.TheVariants as n
use Rattle.md_engine.specs.declared.event.Point.{Point}
use Rattle.md_events.specs.Events.Grammar.{Expression, following, left_of}
use Rattle.md_events.proofs.GrammarLemmas.{Leads, leads-append, leads-unless, maybe}
use Rattle.md_events.specs.Events.Inline.{pair_unless_empty}
use Rattle.md_events.specs.Events.Nested.{enter, exit, pair}
use Rattle.md_events.specs.Events.Places.{same_place}

-- Prefixes of quotes.

-- the events of a prefix, from a point to a point
abbrev prefix_part : Point → Point → Point → List Event
prefix_part marker past q =
    enter n.BlockQuotePrefix marker ∷ enter n.BlockQuoteMarker marker ∷ exit n.BlockQuoteMarker past
    ∷ pair_unless_empty n.SpaceOrTab past q ++ exit n.BlockQuotePrefix q ∷ []

-- it may be where that is left after it
leads-part : (text x : Expression) (marker past q : Point) →
    Leads text (x ∷ []) (following n.BlockQuotePrefix x ∷ []) (prefix_part marker past q)
leads-part text x marker past q outer = go (same_place past q)
  where
    go : (empty : Bool) →
        left_of text (x ∷ outer)
        (enter n.BlockQuotePrefix marker ∷ enter n.BlockQuoteMarker marker ∷ exit n.BlockQuoteMarker past
        ∷ cond empty [] (pair n.SpaceOrTab past q) ++ exit n.BlockQuotePrefix q ∷ []) ≡
        following n.BlockQuotePrefix x ∷ outer
    go true = refl
    go false = refl

-- a prefix may be where that is left after it, with whitespace before it or not
pub leads-prefix : (text x y : Expression) (p marker past q : Point) → following n.BlockQuotePrefix x ≡ y →
    following n.BlockQuotePrefix (following n.SpaceOrTab x) ≡ y →
    Leads text (x ∷ []) (y ∷ [])
    (pair_unless_empty n.SpaceOrTab p marker ++ enter n.BlockQuotePrefix marker ∷ enter n.BlockQuoteMarker marker
    ∷ exit n.BlockQuoteMarker past ∷ pair_unless_empty n.SpaceOrTab past q ++ exit n.BlockQuotePrefix q ∷ [])
leads-prefix text x y p marker past q h k = go (leads-unless text x n.SpaceOrTab p marker refl)
  where
    indent : List Event
    indent = pair_unless_empty n.SpaceOrTab p marker

    inner : List Event
    inner =
        enter n.BlockQuotePrefix marker ∷ enter n.BlockQuoteMarker marker ∷ exit n.BlockQuoteMarker past
        ∷ pair_unless_empty n.SpaceOrTab past q

    end : List Event
    end = exit n.BlockQuotePrefix q ∷ []

    same : (some : Bool) → following n.BlockQuotePrefix (maybe some n.SpaceOrTab x) ≡ y
    same true = k
    same false = h

    go : (some : Bool) × Leads text (x ∷ []) (maybe some n.SpaceOrTab x ∷ []) indent →
        Leads text (x ∷ []) (y ∷ []) (indent ++ inner ++ end)
    go w =
        let room : Expression = maybe w.0 n.SpaceOrTab x in
        let all : Leads text (x ∷ []) (following n.BlockQuotePrefix room ∷ []) (indent ++ (inner ++ end)) =
        leads-append text (x ∷ []) (room ∷ []) (following n.BlockQuotePrefix room ∷ []) indent (inner ++ end) w.1
        (leads-part text room marker past q) in
        subst (λ (z : Expression). Leads text (x ∷ []) (z ∷ []) (indent ++ inner ++ end)) (same w.0)
        (subst (Leads text (x ∷ []) (following n.BlockQuotePrefix room ∷ [])) (sym (append_assoc indent inner end)) all)
