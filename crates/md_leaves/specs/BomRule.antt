-- The rule of the byte order mark, as what is left of it at each state.
use Rattle.std.specs.Prelude.{◌≡◌, ℕ, Bool, true, false, ◌&&◌, ◌==◌, if◌then◌else◌, List, [], ◌∷◌, ◌++◌, length, take}
use Rattle.std.specs.Prelude.{drop}
use Rattle.md_engine.specs.Scheme.{position}
use Rattle.md_engine.specs.World.{World}
use Rattle.md_engine.specs.Sees.{IsStep}
use Rattle.md_engine.specs.declared.state.State.{State}
use Rattle.md_engine.specs.declared.event.Name.TheVariants.{ByteOrderMark}
use Rattle.md_engine.specs.declared.state.Name.TheVariants as n
use Rattle.md_engine.specs.declared.state.bom.State.{State as BomState}
use Rattle.md_engine.specs.declared.state.bom.State.TheVariants as its
use Rattle.md_engine.specs.Meaning.{Accepts, Behaviour, Cell, Here, Outcome, Refuses}
use Rattle.md_leaves.specs.Bom.{BomInvariant, mark, bom_transition}
use Rattle.md_leaves.specs.Heading.{without_size}
use Rattle.md_events.specs.Ahead.{point_after}
use Rattle.md_events.specs.Events.Nested.{exit, pair}
use Rattle.md_events.specs.States.{IsState}
use Rattle.md_engine.specs.declared.tokenizer.Tokenizer.{Tokenizer}
use Rattle.md_engine.specs.Full.{IsFull}

-- whether the first cells are these bytes
abbrev pub are_next : List ℕ → List Cell → Bool
are_next [] cells = true
are_next (b ∷ bytes) [] = false
are_next (b ∷ bytes) (c ∷ cells) = (c.byte == b) && are_next bytes cells

-- inside a mark: the rest of it
unfoldable pub inside_mark : List Cell → Here → Outcome
inside_mark cells h =
    let left = drop h.scratch.size mark in
    let p = point_after (take (length left) cells) h.point in
    if are_next left cells
    then Accepts
    (record h { events = h.events ++ exit ByteOrderMark p ∷ []; point = p; scratch = without_size h.scratch })
    (drop (length left) cells)
    else Refuses (without_size h.scratch) h.flags

-- the whole rule: the first three cells are the mark
unfoldable pub bom_at : List Cell → Here → Outcome
bom_at cells h =
    let p = point_after (take 3 cells) h.point in
    if are_next mark cells
    then Accepts (record h { events = h.events ++ pair ByteOrderMark h.point p; point = p }) (drop 3 cells)
    else Refuses h.scratch h.flags

-- what is left at each state
abbrev pub bom_behaves : BomState → List Cell → Here → Outcome
bom_behaves its.Start cells h = bom_at cells h
bom_behaves its.Inside cells h = inside_mark cells h

pub record HasBom (B : Behaviour) : Type 0 where
  pub each : (state : BomState) (cells : List Cell) (h : Here) → B (n.Bom state) cells h ≡ bom_behaves state cells h

-- what a state of a mark means: where what it needs holds, its call is one step of the rule
unfoldable pub BomMeans : BomState → World → State → World → Type 0
BomMeans state old to new =
    BomInvariant (n.Bom state) (position old) →
    IsStep HasBom (n.Bom state) to old new

-- what a state of a byte order mark promises
abbrev pub IsBomState : BomState → World → State → Tokenizer → Type 0
IsBomState state old answer new = IsState (bom_transition state old) (BomMeans state old) (IsFull new) answer new
