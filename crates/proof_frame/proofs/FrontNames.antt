-- What holds of the events before a line: they are prefixes and begins of containers. So it is with the ends of
-- containers, of which nothing is read later, and with prefixes where no container begins.
use Rattle.std.proofs.Common.{◌≡◌, ℕ, Bool, false, cond, ◌&&◌, List, [], ◌∷◌, ◌++◌, refl, ap, sym, ◌∙◌, subst}
use Rattle.std.proofs.Common.{append_assoc}
use Rattle.md_engine.specs.declared.event.Event.{Event}
use Rattle.md_engine.specs.declared.event.Point.{Point}
use Rattle.md_content.specs.Joined.{content_after, is_content}
use Rattle.md_events.specs.Events.Nested.{exit, is_enter}
use Rattle.md_meaning.specs.State.{Container}
use Rattle.md_events.specs.Events.Prefix.{is_prefix}
use Rattle.md_events.specs.Events.Tiles.{plain_read}
use Rattle.md_events.proofs.SpelledLemmas.{Unmarked, unmarked-append}
use Rattle.proof_frame.proofs.EachEvent.{each-append}
use Rattle.proof_frame.proofs.FillFacts.{fill-same, filled-read}
use Rattle.proof_frame.specs.Change.{ends_of, is_none}
use Rattle.proof_frame.specs.Row.{Row}
use Rattle.proof_frame.proofs.FrontFacts.{LinePrefix, ReadFront}
use Rattle.proof_frame.proofs.FrontFacts.LinePrefix.{Begins, Following, Proceeds}
use Rattle.proof_frame.proofs.ContainerNames.{container-facts}
use Rattle.proof_frame.proofs.PrefixNames.{names-no_parts, names-unlinked, AreFront, ArePrefixes, prefixes-front}
use Rattle.proof_frame.proofs.PrefixNames.{IsFrontEvent, IsNamed}
use Rattle.proof_frame.proofs.PartFacts.{IsNoPart, IsUnlinked, NoLinks, NoParts}
use Rattle.proof_frame.specs.ContainerNames.{container_name}

-- what is before a line are prefixes and begins of containers, and so it is once text parts are read
abbrev pub HasFront : List ℕ → Row → Type 0
HasFront bytes row =
    (p : Point) × (is : LinePrefix bytes row.change.opens p row.first row.front)
    × ReadFront bytes row.change.opens p row.first row.front

-- What they are.

-- where no container begins there are prefixes alone
pub fronts-prefixes : (bytes : List ℕ) (opens : List Container) (p q : Point) (es : List Event) → opens ≡ [] →
    LinePrefix bytes opens p q es → ArePrefixes es
fronts-prefixes bytes opens p q es none (Following r) = tt
fronts-prefixes bytes opens p q es none (Proceeds same first mid last xs ys is more) =
    each-append (IsNamed is_prefix) xs ys is.names (fronts-prefixes bytes same mid last ys none more)
fronts-prefixes bytes opens p q es none (Begins c below first mid last xs ys is more) = cc

-- and none of them gives a quote a kind
fronts-unmarked_in : (bytes : List ℕ) (opens : List Container) (p q : Point) (es : List Event) → opens ≡ [] →
    LinePrefix bytes opens p q es → Unmarked bytes es
fronts-unmarked_in bytes opens p q es none (Following r) = tt
fronts-unmarked_in bytes opens p q es none (Proceeds same first mid last xs ys is more) =
    unmarked-append bytes xs ys is.unmarked (fronts-unmarked_in bytes same mid last ys none more)
fronts-unmarked_in bytes opens p q es none (Begins c below first mid last xs ys is more) = cc

pub fronts-unmarked : (bytes : List ℕ) (p q : Point) (es : List Event) → LinePrefix bytes [] p q es → Unmarked bytes es
fronts-unmarked bytes p q es is = fronts-unmarked_in bytes [] p q es refl is

pub fronts-are : (bytes : List ℕ) (opens : List Container) (p q : Point) (es : List Event) →
    LinePrefix bytes opens p q es → AreFront es
fronts-are bytes opens p q es (Following r) = tt
fronts-are bytes opens p q es (Proceeds same first mid last xs ys is more) =
    each-append IsFrontEvent xs ys (prefixes-front xs is.names) (fronts-are bytes same mid last ys more)
fronts-are bytes opens p q es (Begins c below first mid last xs ys is more) = (
  ((container-facts c).front, refl),
  each-append IsFrontEvent xs ys is.names (fronts-are bytes below mid last ys more),
)

-- so are the ends of containers
pub ends-are : (cs : List Container) (p : Point) → AreFront (ends_of cs p)
ends-are [] p = tt
ends-are (c ∷ cs) p =
    each-append IsFrontEvent (ends_of cs p) (exit (container_name c) p ∷ []) (ends-are cs p)
    (((container-facts c).front, refl), tt)

-- the first of some ends is that of a container
pub ends-first : (P : List Event → Type 0) (c : Container) (cs : List Container) (p : Point) (es : List Event) →
    ((d : Container) (fs : List Event) → P (exit (container_name d) p ∷ fs)) → P (ends_of (c ∷ cs) p ++ es)
ends-first P c [] p es h = h c es
ends-first P c (d ∷ cs) p es h =
    subst P (sym (append_assoc (ends_of (d ∷ cs) p) (exit (container_name c) p ∷ []) es))
    (ends-first P d cs p (exit (container_name c) p ∷ es) h)

-- What continues after them.

-- a line of content continues over prefixes
pub prefixes-content : (xs ys : List Event) → ArePrefixes xs → content_after (xs ++ ys) ≡ content_after ys
prefixes-content [] ys h = refl
prefixes-content (e ∷ xs) ys h =
    ap (λ (x : Bool). cond x (content_after (xs ++ ys)) (is_enter e.kind && is_content e.name)) h.0.0
    ∙ prefixes-content xs ys h.1

pub fronts-stop : (bytes : List ℕ) (opens : List Container) (p q : Point) (es : List Event) → (ys : List Event) →
    is_none opens ≡ false → LinePrefix bytes opens p q es → content_after (es ++ ys) ≡ false
fronts-stop bytes opens p q es ys some (Following r) = cc
fronts-stop bytes opens p q es ys some (Proceeds same first mid last xs fs is more) =
    ap content_after (append_assoc xs fs ys) ∙ prefixes-content xs (fs ++ ys) is.names
    ∙ fronts-stop bytes same mid last fs ys some more
fronts-stop bytes opens p q es ys some (Begins c below first mid last xs fs is more) =
    (container-facts c).begin_stops first ((xs ++ fs) ++ ys)

-- Where no container begins nothing of them is read later, and none begins or ends a text part.

pub fronts-unlinked : (bytes : List ℕ) (p q : Point) (es : List Event) → LinePrefix bytes [] p q es → NoLinks es
fronts-unlinked bytes p q es is = names-unlinked es (fronts-prefixes bytes [] p q es refl is)

pub ends-unlinked : (cs : List Container) (p : Point) → NoLinks (ends_of cs p)
ends-unlinked [] p = tt
ends-unlinked (c ∷ cs) p =
    each-append IsUnlinked (ends_of cs p) (exit (container_name c) p ∷ []) (ends-unlinked cs p) (refl, tt)

pub fronts-no_parts : (bytes : List ℕ) (p q : Point) (es : List Event) → LinePrefix bytes [] p q es → NoParts es
fronts-no_parts bytes p q es is = names-no_parts es (fronts-prefixes bytes [] p q es refl is)

pub ends-no_parts : (cs : List Container) (p : Point) → NoParts (ends_of cs p)
ends-no_parts [] p = tt
ends-no_parts (c ∷ cs) p =
    each-append IsNoPart (ends_of cs p) (exit (container_name c) p ∷ []) (ends-no_parts cs p)
    ((container-facts c).no_part, tt)

-- So it is the same once text parts are read.
pub fronts-done : (bytes : List ℕ) (p q : Point) (es : List Event) → LinePrefix bytes [] p q es →
    LinePrefix bytes [] p q (plain_read bytes es)
fronts-done bytes p q es is =
    subst (LinePrefix bytes [] p q)
    (sym
    (filled-read bytes es es
    (fill-same bytes es (fronts-unlinked bytes p q es is) (fronts-no_parts bytes p q es is)))) is
