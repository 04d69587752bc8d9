-- A definition as it is between its parts: what is left of its grammar there, and what was read of it.
use Rattle.std.proofs.Common.{◌≡◌, ℕ, Bool, true, false, cond, List, refl}
use Rattle.std.specs.Prelude.{Option, Some, None}
use Rattle.md_engine.specs.declared.event.Name.{Name}
use Rattle.md_engine.specs.declared.event.Name.TheVariants as n
use Rattle.md_events.specs.Events.Grammar.{Expression, following, inside, may_end, plain_text}
use Rattle.md_events.specs.Events.Places.{same_place}
use Rattle.md_events.specs.Events.Spelled.{DefinitionLeaf, OpenLeaf}
use Rattle.proof_content_laws.proofs.Defined.Form.{Gap, OnLine, OverLine, Titled}
use Rattle.proof_content_laws.proofs.Defined.Known.Gap.{MayGap, gap_left}
use Rattle.proof_content_laws.proofs.Defined.Known.Marks.{white_left}

-- As it is read: a definition with this label, destination and title.
abbrev pub so_far : List (List ℕ) → List ℕ → Option (List (List ℕ)) → OpenLeaf
so_far label destination title =
    DefinitionLeaf (record { label = label; destination = destination; title = title })

-- Of the grammar: what is in a definition, what is left of it after its label, after its colon, after its destination,
-- and after its title.
abbrev pub form_left : Expression
form_left = inside plain_text n.Definition

abbrev pub colon_left : Expression
colon_left = following n.DefinitionLabel form_left

abbrev pub target_left : Expression
target_left = following n.DefinitionMarker colon_left

abbrev pub title_left : Expression
title_left = following n.DefinitionDestination target_left

abbrev pub last_left : Expression
last_left = following n.DefinitionTitle title_left

-- A gap may be before the destination, and of the title.
abbrev pub following_gap : Expression → Gap → Expression
following_gap x g = gap_left x (following n.SpaceOrTab x) (following n.LineEnding x) g

pub target-gap : MayGap target_left (following n.SpaceOrTab target_left) (following n.LineEnding target_left)
target-gap = record { white = refl; ended = refl; white_ended = refl; takes = (refl, refl) }

pub title-gap : MayGap title_left (following n.SpaceOrTab title_left) (following n.LineEnding title_left)
title-gap = record { white = refl; ended = refl; white_ended = refl; takes = (refl, refl) }

-- a name of which the same is left after each of these, so that it is after the gap
by-gap : (name : Name) (x y w z : Expression) (g : Gap) → following name x ≡ z → following name y ≡ z →
    following name w ≡ z →
    following name (gap_left x y w g) ≡ z
by-gap name x y w z (OnLine p q) h i j = go (same_place p q)
  where
    go : (b : Bool) → following name (cond b x y) ≡ z
    go true = h
    go false = i
by-gap name x y w z (OverLine p e q r s front) h i j = j

pub target-left : (g : Gap) → following n.DefinitionDestination (following_gap target_left g) ≡ title_left
target-left g =
    by-gap n.DefinitionDestination target_left (following n.SpaceOrTab target_left) (following n.LineEnding target_left)
    title_left g refl refl refl

pub title-left : (g : Gap) → following n.DefinitionTitle (following_gap title_left g) ≡ last_left
title-left g =
    by-gap n.DefinitionTitle title_left (following n.SpaceOrTab title_left)
    (following n.LineEnding title_left) last_left g
    refl refl refl

-- After a title or none whitespace may be, and the definition may end.
abbrev pub end_left : Option Titled → Expression
end_left None = title_left
end_left (Some t) = last_left

pub end-left : (empty : Bool) (title : Option Titled) → may_end (white_left empty (end_left title)) ≡ true
end-left true None = refl
end-left false None = refl
end-left true (Some t) = refl
end-left false (Some t) = refl
