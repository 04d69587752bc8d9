-- A blank line where code was open, as the resolver that joins lines gives it: between two lines of code as it is, and
-- after the code as whitespace, which shows no block.
use Rattle.std.proofs.Common.{◌≡◌, ℕ, Bool, true, false, cond, List, [], ◌∷◌, ◌++◌, refl, ◌∙◌, ap}
use Rattle.std.specs.Prelude.{map, nat_lt, None}
use Rattle.md_engine.specs.declared.event.Event.{Event}
use Rattle.md_engine.specs.declared.event.Name.{Name}
use Rattle.md_engine.specs.declared.event.Name.TheVariants as n
use Rattle.md_engine.specs.declared.event.Point.{Point}
use Rattle.md_meaning.specs.Rest.{Rest, indent, is_blank, lose}
use Rattle.md_leaves.specs.declared.spans.Place.{Place}
use Rattle.md_leaves.specs.declared.spans.Place.TheVariants.{Between, Inside, Outside}
use Rattle.md_leaves.specs.Spanned.{name_at, renamed}
use Rattle.md_leaves.proofs.SpannedLines.{NoBlocks}
use Rattle.md_literal.proofs.CodeLines.{blank-line}
use Rattle.md_events.specs.Events.Grammar.{blocks}
use Rattle.md_events.specs.Events.Nested.{pair}
use Rattle.md_events.proofs.GrammarLemmas as grammar
use Rattle.md_events.proofs.SpelledLemmas.{Quiet}
use Rattle.proof_frame.specs.RestLine.{rest_line}
use Rattle.proof_literal_laws.specs.Leaf.CodeIndented.{code_parts}
use Rattle.proof_frame.specs.LineColumns.{lost_line, part_over, past_columns}
use Rattle.proof_literal_laws.proofs.CodeIndented.Parts.{code-inside}
use Rattle.proof_frame.proofs.LeafFacts.{LeafFacts}
use Rattle.proof_literal_laws.proofs.IndentRemoved.Names.{AreInside, lost-inside}
use Rattle.proof_literal_laws.proofs.IndentRemoved.Parts.{inside-blocks, inside-others}
use Rattle.proof_frame.proofs.IndentRemoved.Placed.{lost-stretch}
use Rattle.proof_frame.proofs.IndentRemoved.Places.{FurtherAt}
use Rattle.proof_frame.proofs.RestRows.{line-blank}
use Rattle.proof_frame.proofs.BlankLine.{quiet-facts}
use Rattle.proof_frame.proofs.Stretch.{white-piece}

-- No block begins or ends on it.
pub blank-blocks : (r : Rest) (p q : Point) → NoBlocks (code_parts r p q)
blank-blocks r p q = inside-blocks (code_parts r p q) (code-inside r p q)

-- What is on a line with a part of this name, by whether whitespace comes first, and whether anything is left.
abbrev line_by : Name → Bool → List ℕ → Point → Point → Point → List Event
line_by name white line p at q = cond white (pair n.SpaceOrTab p at) [] ++ part_over name line at q

-- After the code this is whitespace.
abbrev pub blank_after : Rest → Point → Point → List Event
blank_after r p q = lost_line n.SpaceOrTab 4 r p q

-- It has the name that its place gives it: between two lines of code it stays as it is, and after them it is
-- whitespace.
pub blank-placed : (place : Place) (r : Rest) (p q : Point) →
    map (renamed place) (code_parts r p q) ≡ lost_line (name_at place n.CodeFlowChunk) 4 r p q
blank-placed place r p q =
    go (nat_lt 0 (indent r)) (rest_line (lose 4 r))
    ∙ ap
    (λ (name : Name).
    cond (nat_lt 0 (indent r)) (pair name p at) []
    ++ part_over (name_at place n.CodeFlowChunk) (rest_line (lose 4 r)) at q)
    (white place)
  where
    at : Point
    at = past_columns 4 r p

    white : (place : Place) → name_at place n.SpaceOrTab ≡ n.SpaceOrTab
    white Inside = refl
    white Between = refl
    white Outside = refl

    go : (some : Bool) (line : List ℕ) →
        map (renamed place) (line_by n.CodeFlowChunk some line p (past_columns 4 r p) q) ≡
        (cond some (pair (name_at place n.SpaceOrTab) p (past_columns 4 r p)) []
        ++ part_over (name_at place n.CodeFlowChunk) line (past_columns 4 r p) q)
    go true [] = refl
    go true (b ∷ bs) = refl
    go false [] = refl
    go false (b ∷ bs) = refl

-- nothing, a piece of it, or two
white-shape : (P : List Event → Type 0) → P [] → ((p q : Point) → P (pair n.SpaceOrTab p q)) →
    ((p q r s : Point) → P (pair n.SpaceOrTab p q ++ pair n.SpaceOrTab r s)) → (r : Rest) (p q : Point) →
    P (blank_after r p q)
white-shape P none one two r p q = go (nat_lt 0 (indent r)) (rest_line (lose 4 r))
  where
    go : (white : Bool) (line : List ℕ) → P (line_by n.SpaceOrTab white line p (past_columns 4 r p) q)
    go true [] = one p (past_columns 4 r p)
    go true (b ∷ bs) = two p (past_columns 4 r p) (past_columns 4 r p) q
    go false [] = none
    go false (b ∷ bs) = one (past_columns 4 r p) q

-- All that the frame asks of it there.
pub following-facts : (bytes : List ℕ) (r : Rest) (p q : Point) → is_blank r.bytes ≡ true → FurtherAt bytes r p q →
    LeafFacts bytes None false p q (blank_after r p q) (blank_after r p q)
following-facts bytes r p q blank is =
    quiet-facts bytes p q white
    (lost-stretch Quiet bytes n.SpaceOrTab 4 r p q tt (white-piece Quiet bytes tt) refl
    (λ none. line-blank (lose 4 r) ∙ blank-line r ∙ blank) is)
    (inside-others white all)
    (λ text.
    white-shape (λ es. grammar.Leads text (blocks ∷ []) (blocks ∷ []) es) (λ outer. refl) (λ a b outer. refl)
    (λ a b c d outer. refl) r p q)
  where
    white : List Event
    white = blank_after r p q

    all : AreInside (blank_after r p q)
    all = lost-inside n.SpaceOrTab 4 r p q refl
