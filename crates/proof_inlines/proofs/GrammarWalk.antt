-- Events that keep the grammar take each step of a machine, if each name that the grammar lets in a part does.
--
-- A machine has a state after each event. It is known of the names that are open, the innermost first, and of what may
-- still come in each: what is in a part leads from its state to one that its exit brings back.
use Rattle.std.proofs.Common.{◌≡◌, Bool, true, false, cond, List, [], ◌∷◌, refl, sym, subst}
use Rattle.std.specs.Prelude.{Option, Some, None}
use Rattle.md_engine.specs.declared.event.Event.{Event}
use Rattle.md_engine.specs.declared.event.Kind.{Kind}
use Rattle.md_engine.specs.declared.event.Kind.TheVariants.{Enter, Exit}
use Rattle.md_engine.specs.declared.event.Name.{Name}
use Rattle.md_events.specs.Events.Grammar.{Expression, following, inside, is_whole, left_after, left_of, may_end}
use Rattle.md_events.specs.Events.Grammar.{unread_text, Never}
use Rattle.md_events.specs.Events.Nested.{Fits, Matches, open_following}
use Rattle.proof_inlines.proofs.WordLemmas.{is_never}

-- What is left never ends, where a word of it is none.

abbrev pub Live : List Expression → Type 0
Live [] = ⊥
Live (x ∷ []) = is_never x ≡ false
Live (x ∷ y ∷ ys) = (is_never x ≡ false) × Live (y ∷ ys)

live-first : (x : Expression) (xs : List Expression) → Live (x ∷ xs) → is_never x ≡ false
live-first x [] h = h
live-first x (y ∷ ys) h = h.0

live-put : (x : Expression) (xs : List Expression) → is_never x ≡ false → Live xs → Live (x ∷ xs)
live-put x [] h k = absurd k
live-put x (y ∷ ys) h k = (h, k)

ends-live : (x : Expression) → may_end x ≡ true → is_never x ≡ false
ends-live Never h = cc
ends-live _ h = refl

comes-live : (name : Name) (x : Expression) → is_never (following name x) ≡ false → is_never x ≡ false
comes-live name Never h = h
comes-live name _ h = refl

live-other : (name : Name) (x : Expression) (xs : List Expression) → Live (following name x ∷ xs) → Live (x ∷ xs)
live-other name x [] h = comes-live name x h
live-other name x (y ∷ ys) h = (comes-live name x h.0, h.1)

live-before : (kind : Kind) (name : Name) (xs : List Expression) → Live (left_after unread_text xs kind name) → Live xs
live-before kind name [] h = h
live-before Enter name (x ∷ xs) h = live-other name x xs h.1
live-before Exit name (x ∷ xs) h = go (may_end x) refl h
  where
    go : (b : Bool) → may_end x ≡ b → Live (cond b xs []) → Live (x ∷ xs)
    go true e k = live-put x xs (ends-live x e) k
    go false e k = absurd k

whole-ends : (xs : List Expression) → is_whole xs ≡ true → Live xs
whole-ends [] h = cc
whole-ends (x ∷ []) h = ends-live x h
whole-ends (x ∷ y ∷ ys) h = cc

pub whole-live : (xs : List Expression) (es : List Event) → is_whole (left_of unread_text xs es) ≡ true → Live xs
whole-live xs [] h = whole-ends xs h
whole-live xs (e ∷ es) h =
    live-before e.kind e.name xs (whole-live (left_after unread_text xs e.kind e.name) es h)

-- an exit needs that nothing must come
whole-exit : (name : Name) (x : Expression) (xs : List Expression) (es : List Event) →
    is_whole (left_of unread_text (left_after unread_text (x ∷ xs) Exit name) es) ≡ true →
    is_whole (left_of unread_text xs es) ≡ true
whole-exit name x xs es h = go (may_end x) h
  where
    gone : (es : List Event) → is_whole (left_of unread_text [] es) ≡ true → ⊥
    gone es h = whole-live [] es h

    go : (b : Bool) → is_whole (left_of unread_text (cond b xs []) es) ≡ true →
        is_whole (left_of unread_text xs es) ≡ true
    go true h = h
    go false h = absurd (gone es h)

-- The machine: a state after an enter and after an exit, and what is asked of each.
pub record Machine : Type 1 where
  pub State : Type 0
  pub entered : Name → State → State
  pub exited : Name → State → State
  pub may : Kind → Name → State → Bool
  -- what is known of the state directly in a part of this name, or in none, before what may come
  pub Has : Option Name → Expression → State → Type 0

abbrev pub following_state : (m : Machine) → Kind → Name → m.State → m.State
following_state m Enter name s = m.entered name s
following_state m Exit name s = m.exited name s

-- the exit of a part in a part matters only to the part
abbrev pub SameOutside : (m : Machine) → Option Name → m.State → m.State → Type 0
SameOutside m None s t = Unit {0}
SameOutside m (Some name) s t = m.exited name s ≡ m.exited name t

-- what a machine does where a name comes in a part
pub record Comes (m : Machine) (outer : Option Name) (name : Name) (x : Expression) (s : m.State) : Type 0 where
  pub may : m.may Enter name s ≡ true
  pub inner : m.Has (Some name) (inside unread_text name) (m.entered name s)
  pub after : m.Has outer (following name x) (m.exited name (m.entered name s))
  pub outside : SameOutside m outer (m.exited name (m.entered name s)) s

pub record Keeps (m : Machine) : Type 0 where
  pub comes : (outer : Option Name) (name : Name) (x : Expression) (s : m.State) → m.Has outer x s →
      is_never (following name x) ≡ false → Comes m outer name x s
  pub ends : (name : Name) (x : Expression) (s : m.State) → m.Has (Some name) x s → m.may Exit name s ≡ true

-- each step of the machine may be taken, and after them its state is that of a text
abbrev pub Runs : (m : Machine) → m.State → List Event → Type 0
Runs m s [] = (x : Expression) × m.Has None x s
Runs m s (e ∷ es) = (m.may e.kind e.name s ≡ true) × Runs m (following_state m e.kind e.name s) es

-- what is open fits what may come there
abbrev pub Good : (m : Machine) → List Name → List Expression → m.State → Type 0
Good m names [] s = ⊥
Good m [] (x ∷ []) s = m.Has None x s
Good m [] (x ∷ y ∷ ys) s = ⊥
Good m (name ∷ names) (x ∷ xs) s = m.Has (Some name) x s × Good m names xs (m.exited name s)

-- of the innermost
good-first : (m : Machine) (names : List Name) (x : Expression) (xs : List Expression) (s : m.State) →
    Good m names (x ∷ xs) s →
    (outer : Option Name) × m.Has outer x s
    × ((y : Expression) (t : m.State) → m.Has outer y t → SameOutside m outer t s → Good m names (y ∷ xs) t)
good-first m [] x [] s g = (None, g, λ y t h k. h)
good-first m [] x (y ∷ ys) s g = absurd g
good-first m (name ∷ names) x xs s g = (Some name, g.0, λ y t h k. (h, subst (Good m names xs) (sym k) g.1))

pub runs : (m : Machine) → Keeps m → (names : List Name) (xs : List Expression) (s : m.State) (es : List Event) →
    Matches names es → is_whole (left_of unread_text xs es) ≡ true → Good m names xs s → Runs m s es
runs m keeps names [] s [] fits whole g = absurd g
runs m keeps [] (x ∷ []) s [] fits whole g = (x, g)
runs m keeps [] (x ∷ y ∷ ys) s [] fits whole g = absurd g
runs m keeps (name ∷ names) (x ∷ []) s [] fits whole g = absurd g.1
runs m keeps (name ∷ names) (x ∷ y ∷ ys) s [] fits whole g = cc
runs m keeps names [] s (e ∷ es) fits whole g = absurd g
runs m keeps names (x ∷ xs) s (e ∷ es) fits whole g =
    go e.kind names fits.0 whole g (λ ns ys t f w h. runs m keeps ns ys t es f w h) fits.1
  where
    go : (kind : Kind) (names : List Name) → Fits names kind e.name →
        is_whole (left_of unread_text (left_after unread_text (x ∷ xs) kind e.name) es) ≡ true →
        Good m names (x ∷ xs) s →
        ((ns : List Name) (ys : List Expression) (t : m.State) → Matches ns es →
        is_whole (left_of unread_text ys es) ≡ true → Good m ns ys t → Runs m t es) →
        Matches (open_following names kind e.name) es →
        (m.may kind e.name s ≡ true) × Runs m (following_state m kind e.name s) es
    go Enter names fits whole g later rest =
        let first : (outer : Option Name) × m.Has outer x s
        × ((y : Expression) (t : m.State) → m.Has outer y t → SameOutside m outer t s → Good m names (y ∷ xs) t) =
        good-first m names x xs s g in
        let live : is_never (following e.name x) ≡ false =
        live-first (following e.name x) xs
        (whole-live (inside unread_text e.name ∷ following e.name x ∷ xs) es whole).1 in
        let c : Comes m first.0 e.name x s = keeps.comes first.0 e.name x s first.1 live in (
          c.may,
          later (e.name ∷ names) (inside unread_text e.name ∷ following e.name x ∷ xs) (m.entered e.name s) rest whole
              (c.inner, first.2 (following e.name x) (m.exited e.name (m.entered e.name s)) c.after c.outside),
        )
    go Exit [] fits whole g later rest = absurd fits
    go Exit (name ∷ names) fits whole g later rest =
        let good : Good m (e.name ∷ names) (x ∷ xs) s = subst (λ (n : Name). Good m (n ∷ names) (x ∷ xs) s) fits g in (
          keeps.ends e.name x s good.0,
          later names xs (m.exited e.name s) rest (whole-exit e.name x xs es whole) good.1,
        )
