-- What is before a line: the prefixes of its containers, and the begins of those that open on it.
use Rattle.std.proofs.Common.{◌≡◌, ℕ, List, [], ◌∷◌, ◌++◌, refl, sym, subst}
use Rattle.md_engine.specs.declared.event.Event.{Event}
use Rattle.md_engine.specs.declared.event.Point.{Point}
use Rattle.md_events.specs.Events.Nested.{enter}
use Rattle.md_meaning.specs.State.{Container}
use Rattle.proof_frame.specs.ContainerNames.{container_name}
use Rattle.md_events.specs.Events.Tiles.{plain_read}
use Rattle.proof_frame.proofs.ContainerNames.{container-facts}
use Rattle.proof_frame.proofs.FillFacts.{filled-read}
use Rattle.proof_frame.proofs.PrefixFacts.{Continues, Opens, OpensRead}
use Rattle.proof_frame.proofs.PrefixNames.{names-no_parts, names-unlinked}
use Rattle.proof_frame.proofs.ReadAs.{Both, ReadAs, Same, read_as-fill}

-- all of it, from a point to a point, with the begins of these containers, the outermost first, be its text parts read
-- or not
pub data LinePrefix (bytes : List ℕ) : List Container → Point → Point → List Event → Type 0 where
  Following : (p : Point) → LinePrefix bytes [] p p []
  Proceeds : (opens : List Container) (p q r : Point) (es fs : List Event) → Continues bytes p q es →
      LinePrefix bytes opens q r fs → LinePrefix bytes opens p r (es ++ fs)
  Begins : (c : Container) (opens : List Container) (p q r : Point) (es fs : List Event) → Opens bytes c p q es →
      LinePrefix bytes opens q r fs →
      LinePrefix bytes (c ∷ opens) p r (enter (container_name c) p ∷ es ++ fs)

-- What is there once text parts are read.
pub record ReadFront (bytes : List ℕ) (opens : List Container) (p q : Point) (front : List Event) : Type 0 where
  pub is : LinePrefix bytes opens p q (plain_read bytes front)
  pub reads : ReadAs bytes front (plain_read bytes front)

-- these events do
pub front_read-is : (bytes : List ℕ) (opens : List Container) (p q : Point) (front done : List Event) →
    LinePrefix bytes opens p q done → ReadAs bytes front done → ReadFront bytes opens p q front
front_read-is bytes opens p q front done is reads =
    let same : done ≡ plain_read bytes front =
    sym (filled-read bytes front done (read_as-fill bytes front done reads)) in
    record { is = subst (LinePrefix bytes opens p q) same is; reads = subst (ReadAs bytes front) same reads }

pub front_read-none : (bytes : List ℕ) (p : Point) → ReadFront bytes [] p p []
front_read-none bytes p = front_read-is bytes [] p p [] [] (Following p) (Same [] tt tt)

pub front_read-proceeds : (bytes : List ℕ) (opens : List Container) (p q r : Point) (es fs : List Event) →
    Continues bytes p q es → ReadFront bytes opens q r fs → ReadFront bytes opens p r (es ++ fs)
front_read-proceeds bytes opens p q r es fs is more =
    front_read-is bytes opens p r (es ++ fs) (es ++ plain_read bytes fs)
    (Proceeds opens p q r es (plain_read bytes fs) is more.is)
    (Both es es fs (plain_read bytes fs)
    (Same es (names-unlinked es is.names) (names-no_parts es is.names)) more.reads)

pub front_read-begins : (bytes : List ℕ) (c : Container) (opens : List Container) (p q r : Point) (es fs : List Event) →
    OpensRead bytes c p q es → ReadFront bytes opens q r fs →
    ReadFront bytes (c ∷ opens) p r (enter (container_name c) p ∷ es ++ fs)
front_read-begins bytes c opens p q r es fs is more =
    let begin : List Event = enter (container_name c) p ∷ [] in
    front_read-is bytes (c ∷ opens) p r (enter (container_name c) p ∷ es ++ fs)
    (enter (container_name c) p ∷ is.done ++ plain_read bytes fs)
    (Begins c opens p q r is.done (plain_read bytes fs) is.read more.is)
    (Both begin begin (es ++ fs) (is.done ++ plain_read bytes fs)
    (Same begin (refl, tt) ((container-facts c).no_part, tt))
    (Both es is.done fs (plain_read bytes fs) is.reads more.reads))
