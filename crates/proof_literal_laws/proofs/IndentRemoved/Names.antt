-- The names of what is on a line of a leaf, which may lose columns of whitespace, and in a fence.
use Rattle.std.proofs.Common.{◌≡◌, ℕ, Bool, true, false, cond, ◌&&◌, List, [], ◌∷◌, ◌++◌, refl}
use Rattle.std.specs.Prelude.{nat_lt, None}
use Rattle.md_engine.specs.declared.event.Content.{Content}
use Rattle.md_engine.specs.declared.event.Event.{Event}
use Rattle.md_engine.specs.declared.event.Kind.{Kind}
use Rattle.md_engine.specs.declared.event.Kind.TheVariants.{Enter, Exit}
use Rattle.md_engine.specs.declared.event.Name.{Name}
use Rattle.md_engine.specs.declared.event.Name.TheVariants as n
use Rattle.md_engine.specs.declared.event.Point.{Point}
use Rattle.md_meaning.specs.Rest.{Rest, indent, lose}
use Rattle.md_events.specs.Events.Nested.{pair}
use Rattle.md_events.specs.Substituted.{wanted}
use Rattle.proof_frame.specs.RestLine.{rest_line}
use Rattle.proof_frame.specs.LineColumns.{lost_line, part_over, past_columns}
use Rattle.proof_frame.proofs.ContentFacts.{NoContent}
use Rattle.proof_frame.proofs.EventNames.{is_recorded, is_lined}
use Rattle.proof_frame.proofs.LinedFacts.{AreLined}

-- An event of a part.

abbrev pub part_event : Kind → Name → Point → Event
part_event kind name p = record { kind = kind; name = name; point = p; link = None }

-- what may be in the line
abbrev pub is_inside : Name → Bool
is_inside n.SpaceOrTab = true
is_inside n.CodeFencedFence = true
is_inside n.CodeFencedFenceSequence = true
is_inside n.CodeFlowChunk = true
is_inside n.MathFlowFence = true
is_inside n.MathFlowFenceSequence = true
is_inside n.MathFlowChunk = true
is_inside n.HtmlFlowData = true
is_inside _ = false

-- what holds of each of them
pub inside-name : (P : Name → Type 0) → P n.SpaceOrTab → P n.CodeFencedFence → P n.CodeFencedFenceSequence →
    P n.CodeFlowChunk → P n.MathFlowFence → P n.MathFlowFenceSequence → P n.MathFlowChunk → P n.HtmlFlowData →
    (name : Name) → is_inside name ≡ true → P name
inside-name P white fence sequence chunk math math_sequence math_chunk html n.SpaceOrTab e = white
inside-name P white fence sequence chunk math math_sequence math_chunk html n.CodeFencedFence e = fence
inside-name P white fence sequence chunk math math_sequence math_chunk html n.CodeFencedFenceSequence e = sequence
inside-name P white fence sequence chunk math math_sequence math_chunk html n.CodeFlowChunk e = chunk
inside-name P white fence sequence chunk math math_sequence math_chunk html n.MathFlowFence e = math
inside-name P white fence sequence chunk math math_sequence math_chunk html n.MathFlowFenceSequence e = math_sequence
inside-name P white fence sequence chunk math math_sequence math_chunk html n.MathFlowChunk e = math_chunk
inside-name P white fence sequence chunk math math_sequence math_chunk html n.HtmlFlowData e = html
inside-name P white fence sequence chunk math math_sequence math_chunk html _ e = absurd (cc)

-- Each event.

-- one more of them
abbrev pub More : (List Event → Type 0) → Type 0
More P = (kind : Kind) (name : Name) (p : Point) (es : List Event) → is_inside name ≡ true → P es →
    P (part_event kind name p ∷ es)

pub either-part : (P : List Event → Type 0) → More P → (x : Bool) (name : Name) (p q : Point) (es : List Event) →
    is_inside name ≡ true → P es → P (cond x (pair name p q) [] ++ es)
either-part P more true name p q es e h = more Enter name p _ e (more Exit name q es e h)
either-part P more false name p q es e h = h

pub over-each : (P : List Event → Type 0) → More P → (name : Name) (bytes : List ℕ) (p q : Point) (es : List Event) →
    is_inside name ≡ true → P es → P (part_over name bytes p q ++ es)
over-each P more name [] p q es e h = h
over-each P more name (b ∷ bs) p q es e h = more Enter name p _ e (more Exit name q es e h)

-- what is on a line that loses columns
pub lost-each : (P : List Event → Type 0) → P [] → More P → (name : Name) (lost : ℕ) (r : Rest) (p q : Point) →
    is_inside name ≡ true → P (lost_line name lost r p q)
lost-each P none more name lost r p q e =
    either-part P more (nat_lt 0 lost && nat_lt 0 (indent r)) n.SpaceOrTab p (past_columns lost r p) _ refl
    (chunk (rest_line (lose lost r)))
  where
    chunk : (bytes : List ℕ) → P (part_over name bytes (past_columns lost r p) q)
    chunk [] = none
    chunk (b ∷ bs) = more Enter name (past_columns lost r p) _ e (more Exit name q [] e none)

-- Events that are all of these names, and begin nothing that is read later: what holds of no events, and of one more
-- such, holds of them.
abbrev pub AreInside : List Event → Type 1
AreInside es = (P : List Event → Type 0) → P [] → More P → P es

pub lost-inside : (name : Name) (lost : ℕ) (r : Rest) (p q : Point) → is_inside name ≡ true →
    AreInside (lost_line name lost r p q)
lost-inside name lost r p q e = λ P none more. lost-each P none more name lost r p q e

-- They may be in a leaf of several lines.

name-lined : (name : Name) → is_inside name ≡ true → is_lined name ≡ true
name-lined n.SpaceOrTab e = refl
name-lined _ e = cc

pub inside-lined : (es : List Event) → AreInside es → AreLined es
inside-lined es all = all AreLined tt (λ kind name x es e k. (name-lined name e, k))

-- No content is among them.

inside-content : (name : Name) → is_inside name ≡ true → is_recorded name ≡ false
inside-content n.Content e = absurd (cc)
inside-content n.DefinitionLabelString e = absurd (cc)
inside-content _ e = refl

pub more-no_content : (wants : Content → Bool) → More (NoContent wants)
more-no_content wants kind name x es e k = (unlinked kind, inside-content name e, k)
  where
    unlinked : (kind : Kind) → wanted wants (part_event kind name x) ≡ None
    unlinked Enter = refl
    unlinked Exit = refl

pub inside-no_content : (wants : Content → Bool) (es : List Event) → AreInside es → NoContent wants es
inside-no_content wants es all = all (NoContent wants) tt (more-no_content wants)
