-- What is before a line goes forward, and opens the containers that begin in it.
use Rattle.std.proofs.Common.{◌≡◌, ℕ, List, [], ◌∷◌, ◌++◌, map, refl, ap, sym, ◌∙◌, subst, append_assoc, append-nil}
use Rattle.std.specs.Prelude.{IsTrue}
use Rattle.md_engine.specs.declared.event.Event.{Event}
use Rattle.md_engine.specs.declared.event.Name.{Name}
use Rattle.md_engine.specs.declared.event.Point.{Point}
use Rattle.md_events.specs.Events.Nested.{Balanced, Matches, enter, exit, last_point, open_after}
use Rattle.md_events.specs.Events.Places.{at_or_before}
use Rattle.md_events.specs.Events.Spelled.{Role, role}
use Rattle.md_meaning.specs.State.{Container}
use Rattle.md_events.proofs.NestedLemmas.{at_or_before-refl, at_or_before-trans, balanced-append, balanced-matches}
use Rattle.md_events.proofs.NestedLemmas.{balanced-none, balanced-open, forward-last, matches-append, open_after-append}
use Rattle.md_events.proofs.SpelledLemmas.{Roles, roles-append}
use Rattle.proof_frame.specs.Change.{ends_of}
use Rattle.proof_frame.proofs.FrontFacts.{Begins, Following, LinePrefix, Proceeds}
use Rattle.proof_frame.proofs.SpanLemmas.{Spans, spans-append}
use Rattle.proof_frame.proofs.ContainerNames.{names-shapes, open_names, shape_names}
use Rattle.proof_frame.specs.ContainerNames.{container_name, shape_of}

-- Prefixes.

-- What is before the content of a container.

-- LinePrefix.

-- they go forward, from the begin of the line to its rest
pub fronts-spans : (bytes : List ℕ) (opens : List Container) (p q : Point) (front : List Event) →
    LinePrefix bytes opens p q front → Spans p q front
fronts-spans bytes _ p _ _ (Following _) = (tt, at_or_before-refl p)
fronts-spans bytes opens p r _ (Proceeds _ _ q _ es fs is more) =
    spans-append p q r es fs is.common.nested.1 (fronts-spans bytes opens q r fs more)
fronts-spans bytes _ p r _ (Begins c opens _ q _ es fs is more) =
    let spans : Spans p r (es ++ fs) = spans-append p q r es fs is.common.nested.1
    (fronts-spans bytes opens q r fs more) in
    ((at_or_before-refl p, spans.0), spans.1)

pub fronts-order : (bytes : List ℕ) (opens : List Container) (p q : Point) (front : List Event) →
    LinePrefix bytes opens p q front → IsTrue (at_or_before p q)
fronts-order bytes opens p q front is =
    let spans : Spans p q front = fronts-spans bytes opens p q front is in
    at_or_before-trans p (last_point p front) q (forward-last p front spans.0) spans.1

-- where no container begins, they nest
pub fronts-balanced : (bytes : List ℕ) (opens : List Container) (p q : Point) (front : List Event) →
    LinePrefix bytes opens p q front → opens ≡ [] → Balanced front
fronts-balanced bytes _ p _ _ (Following _) e = balanced-none
fronts-balanced bytes opens p r _ (Proceeds _ _ q _ es fs is more) e =
    balanced-append es fs is.common.nested.0 (fronts-balanced bytes opens q r fs more e)
fronts-balanced bytes _ p r _ (Begins c opens _ q _ es fs is more) e = cc

-- The ends of containers are read as containers.
pub ends-roles : (P : Role → Type 0) (cs : List Container) (p : Point) →
    ((c : Container) → P (role (container_name c))) → Roles P (ends_of cs p)
ends-roles P [] p holds = tt
ends-roles P (c ∷ cs) p holds =
    roles-append P (ends_of cs p) (exit (container_name c) p ∷ []) (ends-roles P cs p holds) (holds c, tt)

-- Open containers.

pub names-append : (a b : List Container) → open_names (a ++ b) ≡ open_names b ++ open_names a
names-append [] b = sym (append-nil (open_names b))
names-append (c ∷ a) b =
    ap (λ (l : List Name). l ++ container_name c ∷ []) (names-append a b)
    ∙ append_assoc (open_names b) (open_names a) (container_name c ∷ [])

-- containers of the same shapes have the same names
pub shapes-names : (a b : List Container) → map shape_of a ≡ map shape_of b → open_names a ≡ open_names b
shapes-names a b h = names-shapes a ∙ ap shape_names h ∙ sym (names-shapes b)

-- events that lead from these open names to those
pub record Turns (from to : List Name) (es : List Event) : Type 0 where
  pub matches : Matches from es
  pub opened : open_after from es ≡ to

pub turns-balanced : (names : List Name) (es : List Event) → Balanced es → Turns names names es
turns-balanced names es h = record { matches = balanced-matches names es h; opened = balanced-open names es h }

pub turns-append : (a b c : List Name) (xs ys : List Event) → Turns a b xs → Turns b c ys → Turns a c (xs ++ ys)
turns-append a b c xs ys h k = record {
  matches = matches-append a xs ys h.matches (subst (λ (l : List Name). Matches l ys) (sym h.opened) k.matches);
  opened = open_after-append a xs ys ∙ ap (λ (l : List Name). open_after l ys) h.opened ∙ k.opened;
}

-- what is before a line opens the containers that begin in it
pub fronts-turn : (bytes : List ℕ) (opens : List Container) (names : List Name) (p q : Point) (front : List Event) →
    LinePrefix bytes opens p q front → Turns names (open_names opens ++ names) front
fronts-turn bytes _ names p _ _ (Following _) = turns-balanced names [] balanced-none
fronts-turn bytes opens names p r _ (Proceeds _ _ q _ es fs is more) =
    turns-append names names (open_names opens ++ names) es fs (turns-balanced names es is.common.nested.0)
    (fronts-turn bytes opens names q r fs more)
fronts-turn bytes _ names p r _ (Begins c opens _ q _ es fs is more) =
    let name : Name = container_name c in
    subst (λ (l : List Name). Turns names l (enter name p ∷ es ++ fs))
    (sym (append_assoc (open_names opens) (name ∷ []) names))
    (turns-append names (name ∷ names) (open_names opens ++ name ∷ names) (enter name p ∷ []) (es ++ fs)
    (record { matches = (tt, tt); opened = refl })
    (turns-append (name ∷ names) (name ∷ names) (open_names opens ++ name ∷ names) es fs
    (turns-balanced (name ∷ names) es is.common.nested.0) (fronts-turn bytes opens (name ∷ names) q r fs more)))

-- containers end
pub ends-turn : (cs : List Container) (names : List Name) (p : Point) →
    Turns (open_names cs ++ names) names (ends_of cs p)
ends-turn [] names p = turns-balanced names [] balanced-none
ends-turn (c ∷ cs) names p =
    let name : Name = container_name c in
    subst (λ (l : List Name). Turns l names (ends_of cs p ++ exit name p ∷ []))
    (sym (append_assoc (open_names cs) (name ∷ []) names))
    (turns-append (open_names cs ++ name ∷ names) (name ∷ names) names (ends_of cs p) (exit name p ∷ [])
    (ends-turn cs (name ∷ names) p) (record { matches = (refl, tt); opened = refl }))

pub ends-spans : (cs : List Container) (p : Point) → Spans p p (ends_of cs p)
ends-spans [] p = (tt, at_or_before-refl p)
ends-spans (c ∷ cs) p =
    spans-append p p p (ends_of cs p) (exit (container_name c) p ∷ []) (ends-spans cs p)
    ((at_or_before-refl p, tt), at_or_before-refl p)
