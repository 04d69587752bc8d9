-- The containers that flow reads: those that are built.
use Rattle.std.proofs.Common.{◌≡◌, ℕ, zero, suc, List, [], ◌∷◌, ◌++◌, drop, map, sym, subst}
use Rattle.std.specs.Prelude.{Option, Some, None}
use Rattle.md_engine.specs.declared.tokenizer.container.name.ContainerKind.{ContainerKind}
use Rattle.md_meaning.specs.Containers.{Taken}
use Rattle.md_meaning.specs.State.{Container}
use Rattle.proof_frame.specs.ContainerNames.{IsOf, container_kind}

-- one of them has a kind
abbrev pub HasKind : Option ContainerKind → Type 0
HasKind None = ⊥
HasKind (Some k) = Unit {0}

abbrev pub IsRead : Container → Type 0
IsRead c = HasKind (container_kind c)

pub of-read : (k : ContainerKind) (c : Container) → IsOf k c → IsRead c
of-read k c is = subst HasKind (sym is) tt

-- all of these are
abbrev pub AreRead : List Container → Type 0
AreRead [] = Unit {0}
AreRead (c ∷ cs) = IsRead c × AreRead cs

-- they and more
pub read-append : (cs ds : List Container) → AreRead cs → AreRead ds → AreRead (cs ++ ds)
read-append [] ds h k = k
read-append (c ∷ cs) ds h k = (h.0, read-append cs ds h.1 k)

-- those after so many
pub read-drop : (n : ℕ) (cs : List Container) → AreRead cs → AreRead (drop n cs)
read-drop zero cs h = h
read-drop (suc n) [] h = tt
read-drop (suc n) (c ∷ cs) h = read-drop n cs h.1

-- those before others
pub read-front : (cs ds : List Container) → AreRead (cs ++ ds) → AreRead cs
read-front [] ds h = tt
read-front (c ∷ cs) ds h = (h.0, read-front cs ds h.1)

-- containers of the same kinds
pub kinds-read : (cs ds : List Container) → map container_kind cs ≡ map container_kind ds → AreRead ds → AreRead cs
kinds-read [] ds e h = tt
kinds-read (c ∷ cs) [] e h = cc
kinds-read (c ∷ cs) (d ∷ ds) e h =
    let first : container_kind c ≡ container_kind d = cc in
    let rest : map container_kind cs ≡ map container_kind ds = cc in
    (subst HasKind (sym first) h.0, kinds-read cs ds rest h.1)

-- what a container takes of a line, if it does, is of one of them
abbrev pub IsReadTaken : Option Taken → Type 0
IsReadTaken None = Unit {0}
IsReadTaken (Some t) = IsRead t.container
