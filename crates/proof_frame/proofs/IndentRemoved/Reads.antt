-- How a line of a leaf of several is read: the last of its lines, and whitespace that it loses.
use Rattle.std.proofs.Common.{◌≡◌, ℕ, Bool, true, false, cond, ◌&&◌, List, [], ◌∷◌, ◌++◌, refl, sym, ap, ap₂, arith}
use Rattle.std.specs.Prelude.{nat_lt, Option, Some, None, option_map}
use Rattle.md_engine.specs.declared.event.Name.TheVariants as n
use Rattle.md_engine.specs.declared.event.Point.{Point}
use Rattle.md_meaning.specs.Rest.{Rest, indent}
use Rattle.md_meaning.specs.Tree.{Line}
use Rattle.md_events.specs.Events.Nested.{pair}
use Rattle.md_events.specs.Events.Spelled.{OpenLeaf, Reading, Text, empty_line, joined, on_last, on_leaf}
use Rattle.md_events.proofs.SpelledLemmas.{Quiet, Roles}
use Rattle.proof_frame.specs.LineColumns.{columns_part, past_columns}

-- The last of some lines.

pub on-last : (f : Line → Line) (before : List Line) (x : Line) → on_last f (before ++ x ∷ []) ≡ before ++ f x ∷ []
on-last f [] x = refl
on-last f (y ∷ []) x = refl
on-last f (y ∷ z ∷ ys) x = ap (λ (l : List Line). y ∷ l) (on-last f (z ∷ ys) x)

-- an empty one becomes what is said of it
pub empty-joined : (line : Line) → joined empty_line line ≡ line
empty-joined line =
    ap (λ (s : ℕ). let l : Line = record { spaces = s; text = line.text } in l) (omega arith)

-- Events.

pub columns-quiet : (room : ℕ) (r : Rest) (p : Point) → Roles Quiet (columns_part room r p)
columns-quiet room r p = go (nat_lt 0 room && nat_lt 0 (indent r))
  where
    go : (x : Bool) → Roles Quiet (cond x (pair n.SpaceOrTab p (past_columns room r p)) [])
    go true = (tt, (tt, tt))
    go false = tt

-- a text of an open leaf
pub leaf-recorded : (rd : Reading) (f : OpenLeaf → OpenLeaf) (leaf : OpenLeaf) → rd.text ≡ None → rd.leaf ≡ Some leaf →
    on_leaf f (record rd { text = None }) ≡ record rd { leaf = Some (f leaf) }
leaf-recorded rd f leaf none is =
    ap₂
    (λ (t : Option Text) (l : Option OpenLeaf).
    let x : Reading = record rd { text = t; leaf = option_map f l } in x)
    (sym none) is
