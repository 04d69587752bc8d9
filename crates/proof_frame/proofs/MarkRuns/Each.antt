-- What holds of each event of runs, and of a line that they fill.
use Rattle.std.proofs.Common.{◌≡◌, ℕ, Bool, true, false, cond, List, [], ◌∷◌, ◌++◌, refl}
use Rattle.std.specs.Prelude.{◌==◌, None}
use Rattle.std.specs.List.{list_all}
use Rattle.std.proofs.lemmas.Bool.{and_from}
use Rattle.md_engine.specs.declared.event.Content.{Content}
use Rattle.md_engine.specs.declared.event.Event.{Event}
use Rattle.md_engine.specs.declared.event.Name.{Name}
use Rattle.md_engine.specs.declared.event.Name.TheVariants as n
use Rattle.md_engine.specs.declared.event.Point.{Point}
use Rattle.md_engine.specs.Meaning.{Cell}
use Rattle.md_leaves.specs.MarkRuns as celled
use Rattle.md_events.specs.Events.Endings.{on_line}
use Rattle.md_events.specs.Events.Nested.{around, enter, exit, pair}
use Rattle.md_events.specs.Events.Places.{past_byte}
use Rattle.md_events.specs.Events.Spelled.{Role, role}
use Rattle.md_events.specs.Substituted.{wanted}
use Rattle.md_events.proofs.EndingsLemmas.{AreOthers, is_other}
use Rattle.md_events.proofs.SpelledLemmas.{Roles}
use Rattle.proof_frame.specs.MarkRuns.{Apart, Marks, Run, White, mark_runs}
use Rattle.proof_frame.proofs.ContentFacts.{NoContent}
use Rattle.proof_frame.proofs.EventNames.{is_recorded}
use Rattle.proof_frame.proofs.EachEvent.{Each, each-append}
use Rattle.proof_frame.proofs.SpanLemmas.{either}

-- It holds of the begins and the ends of a name, where they have no link.
abbrev pub Holds : (Event → Type 0) → Name → Type 0
Holds P name = ((p : Point) → P (enter name p)) × ((p : Point) → P (exit name p))

-- of runs by bytes
pub runs-hold : (P : Event → Type 0) (name : Name) → Holds P n.SpaceOrTab → Holds P name → (run : Run) (m : ℕ)
    (bs : List ℕ) (p : Point) →
    Each P (mark_runs name run m bs p)
runs-hold P name space mark Apart m [] p = tt
runs-hold P name space mark Marks m [] p = (mark.1 p, tt)
runs-hold P name space mark White m [] p = (space.1 p, tt)
runs-hold P name space mark Apart m (b ∷ bs) p =
    either (Each P) (b == m) _ _ (mark.0 p, runs-hold P name space mark Marks m bs (past_byte b p))
    (space.0 p, runs-hold P name space mark White m bs (past_byte b p))
runs-hold P name space mark Marks m (b ∷ bs) p =
    either (Each P) (b == m) _ _ (runs-hold P name space mark Marks m bs (past_byte b p))
    (mark.1 p, (space.0 p, runs-hold P name space mark White m bs (past_byte b p)))
runs-hold P name space mark White m (b ∷ bs) p =
    either (Each P) (b == m) _ _ (space.1 p, (mark.0 p, runs-hold P name space mark Marks m bs (past_byte b p)))
    (runs-hold P name space mark White m bs (past_byte b p))

-- and by cells
pub cells-hold : (P : Event → Type 0) (name : Name) → Holds P n.SpaceOrTab → Holds P name → (run : celled.Run) (m : ℕ)
    (cells : List Cell) (p : Point) →
    Each P (celled.mark_runs name run m cells p)
cells-hold P name space mark celled.Apart m [] p = tt
cells-hold P name space mark celled.Marks m [] p = (mark.1 p, tt)
cells-hold P name space mark celled.White m [] p = (space.1 p, tt)
cells-hold P name space mark celled.Apart m (c ∷ cs) p =
    either (Each P) (c.byte == m) _ _ (mark.0 p, cells-hold P name space mark celled.Marks m cs c.after)
    (space.0 p, cells-hold P name space mark celled.White m cs c.after)
cells-hold P name space mark celled.Marks m (c ∷ cs) p =
    either (Each P) (c.byte == m) _ _ (cells-hold P name space mark celled.Marks m cs c.after)
    (mark.1 p, (space.0 p, cells-hold P name space mark celled.White m cs c.after))
cells-hold P name space mark celled.White m (c ∷ cs) p =
    either (Each P) (c.byte == m) _ _
    (space.1 p, (mark.0 p, cells-hold P name space mark celled.Marks m cs c.after))
    (cells-hold P name space mark celled.White m cs c.after)

-- A line that they fill, by its bytes,
pub line-holds : (P : Event → Type 0) (name marks : Name) → Holds P name → Holds P n.SpaceOrTab → Holds P marks →
    (m : ℕ) (bs : List ℕ) (p q : Point) → Each P (around name p q (mark_runs marks Apart m bs p))
line-holds P name marks around_it space mark m bs p q = (
  around_it.0 p,
  each-append P (mark_runs marks Apart m bs p) (exit name q ∷ []) (runs-hold P marks space mark Apart m bs p)
      (around_it.1 q, tt),
)

-- and by its cells, with an indent or none.
pub cell_line-holds : (P : Event → Type 0) (name marks : Name) → Holds P name → Holds P n.SpaceOrTab →
    Holds P marks → (white : Bool) (m : ℕ) (cells : List Cell) (p q r : Point) →
    Each P (around name p r (cond white (pair n.SpaceOrTab p q) [] ++ celled.mark_runs marks celled.Apart m cells q))
cell_line-holds P name marks around_it space mark white m cells p q r =
    let indent : List Event = cond white (pair n.SpaceOrTab p q) [] in
    let runs : List Event = celled.mark_runs marks celled.Apart m cells q in (
      around_it.0 p,
      each-append P (indent ++ runs) (exit name r ∷ [])
          (each-append P indent runs (either (Each P) white _ _ (space.0 p, (space.1 q, tt)) tt)
          (cells-hold P marks space mark celled.Apart m cells q)) (around_it.1 r, tt),
    )

-- In the words of others.

-- no ending, and no begin or end of a leaf
pub each-others : (es : List Event) → Each (λ (e : Event). is_other (on_line e.name) ≡ true) es → AreOthers es
each-others [] h = refl
each-others (e ∷ es) h =
    and_from (is_other (on_line e.name)) (list_all (λ (e : Event). is_other (on_line e.name)) es) h.0
    (each-others es h.1)

-- what holds of the role of each
pub each-roles : (P : Role → Type 0) (es : List Event) → Each (λ (e : Event). P (role e.name)) es → Roles P es
each-roles P [] h = tt
each-roles P (e ∷ es) h = (h.0, each-roles P es h.1)

-- no content
abbrev pub IsNoContent : (Content → Bool) → Event → Type 0
IsNoContent wants e = (wanted wants e ≡ None) × (is_recorded e.name ≡ false)

-- of each event
pub each-no_content : (wants : Content → Bool) (es : List Event) → Each (IsNoContent wants) es → NoContent wants es
each-no_content wants [] h = tt
each-no_content wants (e ∷ es) h = (h.0.0, h.0.1, each-no_content wants es h.1)
