-- A line that loses columns of whitespace in the grammar of its leaf.
use Rattle.std.proofs.Common.{◌≡◌, ℕ, Bool, true, false, cond, ◌&&◌, List, [], ◌∷◌, refl, subst}
use Rattle.std.specs.Prelude.{nat_lt}
use Rattle.md_engine.specs.declared.event.Name.{Name}
use Rattle.md_engine.specs.declared.event.Name.TheVariants as n
use Rattle.md_engine.specs.declared.event.Point.{Point}
use Rattle.md_meaning.specs.Rest.{Rest, indent, lose}
use Rattle.md_events.specs.Events.Grammar.{Expression, following, inside, may_end}
use Rattle.md_events.specs.Events.Nested.{pair}
use Rattle.md_events.proofs.GrammarLemmas.{Leads, leads-append, leads-pair}
use Rattle.proof_frame.specs.RestLine.{rest_line}
use Rattle.proof_frame.specs.LineColumns.{columns_part, lost_line, part_over, past_columns}

-- What is left after a part over these bytes: the same as before it, if there are none.
abbrev pub left_over : Expression → Expression → List ℕ → Expression
left_over x after [] = x
left_over x after (b ∷ bs) = after

-- whitespace may be before it
pub columns-lead : (text x : Expression) (room : ℕ) (r : Rest) (p : Point) → following n.SpaceOrTab x ≡ x →
    Leads text (x ∷ []) (x ∷ []) (columns_part room r p)
columns-lead text x room r p white = go (nat_lt 0 room && nat_lt 0 (indent r))
  where
    go : (y : Bool) → Leads text (x ∷ []) (x ∷ []) (cond y (pair n.SpaceOrTab p (past_columns room r p)) [])
    go true =
        subst (λ (e : Expression). Leads text (x ∷ []) (e ∷ []) (pair n.SpaceOrTab p (past_columns room r p))) white
        (leads-pair text x n.SpaceOrTab p (past_columns room r p) refl)
    go false = λ outer. refl

over-leads : (text x after : Expression) (name : Name) (line : List ℕ) (p q : Point) → following name x ≡ after →
    may_end (inside text name) ≡ true → Leads text (x ∷ []) (left_over x after line ∷ []) (part_over name line p q)
over-leads text x after name [] p q next ends = λ outer. refl
over-leads text x after name (b ∷ bs) p q next ends =
    subst (λ (e : Expression). Leads text (x ∷ []) (e ∷ []) (pair name p q)) next (leads-pair text x name p q ends)

-- the line
pub lost-leads : (text x after : Expression) (name : Name) (lost : ℕ) (r : Rest) (p q : Point) →
    following n.SpaceOrTab x ≡ x → following name x ≡ after → may_end (inside text name) ≡ true →
    Leads text (x ∷ []) (left_over x after (rest_line (lose lost r)) ∷ []) (lost_line name lost r p q)
lost-leads text x after name lost r p q white next ends =
    let line = rest_line (lose lost r) in
    leads-append text (x ∷ []) (x ∷ []) (left_over x after line ∷ []) (columns_part lost r p)
    (part_over name line (past_columns lost r p) q) (columns-lead text x lost r p white)
    (over-leads text x after name line (past_columns lost r p) q next ends)
