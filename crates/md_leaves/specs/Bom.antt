-- The byte order mark.
use Rattle.std.specs.Prelude.{refl, ℕ, ◌+◌, ◌<◌, Bool, true, false, nat_lt, List, [], ◌∷◌, get_or}
use Rattle.md_engine.specs.declared.event.Name.TheVariants.{ByteOrderMark}
use Rattle.md_engine.specs.declared.state.Name.{Name as StateName}
use Rattle.md_engine.specs.declared.state.Name.TheVariants as n
use Rattle.md_engine.specs.declared.state.bom.State.{State as BomState}
use Rattle.md_engine.specs.declared.state.bom.State.TheVariants as its
use Rattle.md_engine.specs.declared.state.State.TheVariants.{Ok, Nok, Next, Retry}
use Rattle.md_engine.specs.Scheme.{After, Ends, Rank, Scheme, Position, ranked}
use Rattle.md_engine.specs.World.{World}
use Rattle.md_leaves.specs.Heading.{without_size}
use Rattle.md_events.specs.Spaces.{IsRest, is_current}
use Rattle.md_events.specs.Transition.{Transition, entered, exited, taken}

-- U+FEFF
abbrev pub mark : List ℕ
mark = 239 ∷ 187 ∷ 191 ∷ []

-- the byte of the mark after so many of its bytes
abbrev pub mark_at : ℕ → ℕ
mark_at size = get_or mark size 0

-- by whether the first byte of the mark is here
abbrev pub start_code : World → Bool → Transition
start_code w true = record { to = Retry (n.Bom its.Inside); world = entered w ByteOrderMark }
start_code w false = record { to = Nok; world = w }

-- by whether the next byte of the mark is here, and whether more of the mark follows
abbrev pub inside_code : World → Bool → Bool → Transition
inside_code w true true =
    record {
      to = Next (n.Bom its.Inside);
      world = record (taken w) { scratch = record w.scratch { size = w.scratch.size + 1 } };
    }
inside_code w true false = record {
  to = Ok;
  world = record (exited (taken w) ByteOrderMark) { scratch = without_size w.scratch };
}
inside_code w false more = record { to = Nok; world = record w { scratch = without_size w.scratch } }

-- each state with what it does, where there is memory
abbrev pub start_transition : World → Transition
start_transition w = start_code w (is_current 239 w.current)

abbrev pub inside_transition : World → Transition
inside_transition w = inside_code w (is_current (mark_at w.scratch.size) w.current) (nat_lt w.scratch.size 2)

-- all of them
abbrev pub bom_transition : BomState → World → Transition
bom_transition its.Start w = start_transition w
bom_transition its.Inside w = inside_transition w

abbrev pub BomNeeds : StateName → World → Type 0
BomNeeds (n.Bom its.Inside) w = w.scratch.size < 3
BomNeeds _ w = Unit {0}

-- Inside, not all of the mark is taken.
pub record IsMarking (x : Position) : Type 0 where
  pub size : x.scratch.size < 3
  pub rest : IsRest (without_size x.scratch)

-- what holds at each state of a mark
abbrev pub BomInvariant : StateName → Position → Type 0
BomInvariant (n.Bom its.Inside) x = IsMarking x
BomInvariant _ x = IsRest x.scratch

abbrev pub bom_ready : StateName → Position → After → Type 0
bom_ready name x K = BomInvariant name x × Ends IsRest IsRest x K

abbrev pub bom_rank : StateName → Position → Rank
bom_rank (n.Bom its.Start) x = ranked 1 refl
bom_rank _ x = ranked 0 refl

abbrev pub bom_scheme : Scheme
bom_scheme = record { ready = bom_ready; level = λ n. 1; rank = bom_rank; tries = λ n. ranked 0 refl }
