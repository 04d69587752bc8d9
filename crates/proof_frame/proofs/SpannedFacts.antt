-- Events of no leaf of several lines: the walk that joins the lines of such leaves gives them as they are.
use Rattle.std.proofs.Common.{◌≡◌, Bool, true, false, not, ◌&&◌, List, [], ◌∷◌, refl}
use Rattle.md_engine.specs.declared.event.Event.{Event}
use Rattle.md_leaves.specs.declared.spans.Place.TheVariants.{Outside}
use Rattle.md_leaves.specs.Spanned.{has_lines, is_renamed, passes}
use Rattle.md_leaves.proofs.SpannedLines.{NoLines, Pass}
use Rattle.md_events.specs.Events.Spelled.{role}
use Rattle.proof_frame.proofs.EventNames.{front-unspanned}
use Rattle.proof_frame.proofs.EachEvent.{Each, each-as}
use Rattle.proof_frame.proofs.PrefixNames.{AreFront, IsFrontEvent}

-- an event that no line of such a leaf begins or ends with, and that has the same name after one
abbrev pub IsUnspanned : Event → Type 0
IsUnspanned e = passes Outside e ≡ true

abbrev pub AreUnspanned : List Event → Type 0
AreUnspanned es = Each IsUnspanned es

pub unspanned-pass : (es : List Event) → AreUnspanned es → Pass Outside es
unspanned-pass [] h = tt
unspanned-pass (e ∷ es) h = (h.0, unspanned-pass es h.1)

pub unspanned-lines : (es : List Event) → AreUnspanned es → NoLines es
unspanned-lines [] h = tt
unspanned-lines (e ∷ es) h = (go (has_lines (role e.name)) (is_renamed Outside e.name) h.0, unspanned-lines es h.1)
  where
    go : (x y : Bool) → (not x && not y) ≡ true → x ≡ false
    go true y k = absurd (let no : false ≡ true = k in cc)
    go false y k = refl

-- prefixes and containers are none
pub fronts-unspanned : (es : List Event) → AreFront es → AreUnspanned es
fronts-unspanned es h = each-as IsFrontEvent IsUnspanned (λ e is. front-unspanned e.name is.0) es h
