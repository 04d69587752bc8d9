-- Events whose innermost pairs lie side by side, from one point to another.
use Rattle.std.proofs.Common.{◌≡◌, true, List, [], ◌∷◌, ◌++◌, refl, ap, sym, ◌∙◌, subst}
use Rattle.std.proofs.Common.{append_assoc}
use Rattle.md_engine.specs.declared.event.Event.{Event}
use Rattle.md_engine.specs.declared.event.Kind.{Kind}
use Rattle.md_engine.specs.declared.event.Kind.TheVariants.{Enter, Exit}
use Rattle.md_engine.specs.declared.event.Name.{Name}
use Rattle.md_engine.specs.declared.event.Point.{Point}
use Rattle.md_events.specs.Events.Inline.{Covers, Piece, piece_of, pieces, pieces_from}
use Rattle.md_events.specs.Events.Nested.{around, enter, exit, pair}
use Rattle.md_events.specs.Events.Places.{same_place}
use Rattle.md_events.proofs.InlineLemmas.{same-refl, same-trans}

-- events that begin with an enter, if there are any
abbrev pub Begins : List Event → Type 0
Begins [] = Unit {0}
Begins (e ∷ es) = e.kind ≡ Enter

-- events after one of a kind, so that the last of all is an exit
abbrev pub Ends : Kind → List Event → Type 0
Ends kind [] = kind ≡ Exit
Ends kind (e ∷ es) = Ends e.kind es

-- Events that cover what is between two points, and make no pair with an event before or after them.
pub record Covered (p q : Point) (es : List Event) : Type 0 where
  pub begins : Begins es
  pub ends : Ends Exit es
  pub covers : Covers p (pieces es) q

-- The same of events that are after an exit, if anything is before them: they may begin with exits of their own.
pub record Follows (p q : Point) (es : List Event) : Type 0 where
  pub ends : Ends Exit es
  pub covers : Covers p (pieces es) q

-- Events after an enter, which with it cover what is between its point and another.
pub record Shut (e : Event) (q : Point) (es : List Event) : Type 0 where
  pub ends : Ends e.kind es
  pub covers : Covers e.point (pieces_from e es) q

-- Covering.

covers-from : (p q r : Point) (xs : List Piece) → same_place p q ≡ true → Covers q xs r → Covers p xs r
covers-from p q r [] h k = same-trans p q r h k
covers-from p q r (x ∷ xs) h k = (same-trans p q x.first h k.0, k.1)

covers-append : (p q r : Point) (xs ys : List Piece) → Covers p xs q → Covers q ys r → Covers p (xs ++ ys) r
covers-append p q r [] ys h k = covers-from p q r ys h k
covers-append p q r (x ∷ xs) ys h k = (h.0, covers-append x.after q r xs ys h.1 k)

-- no pair arises before an enter
pub pieces-before : (e : Event) (es : List Event) → Begins es → pieces_from e es ≡ pieces es
pieces-before e [] h = refl
pieces-before e (f ∷ es) h = go e.kind f.kind h
  where
    go : (k l : Kind) → l ≡ Enter → piece_of e f k l ++ pieces_from f es ≡ pieces_from f es
    go Enter Enter h = refl
    go Enter Exit h = absurd (cc)
    go Exit Enter h = refl
    go Exit Exit h = refl

pieces_from-append : (e : Event) (xs ys : List Event) → Begins ys →
    pieces_from e (xs ++ ys) ≡ pieces_from e xs ++ pieces ys
pieces_from-append e [] ys h = pieces-before e ys h
pieces_from-append e (f ∷ xs) ys h =
    ap (λ (l : List Piece). piece_of e f e.kind f.kind ++ l) (pieces_from-append f xs ys h)
    ∙ sym (append_assoc (piece_of e f e.kind f.kind) (pieces_from f xs) (pieces ys))

pieces-append : (xs ys : List Event) → Begins ys → pieces (xs ++ ys) ≡ pieces xs ++ pieces ys
pieces-append [] ys h = refl
pieces-append (e ∷ xs) ys h = pieces_from-append e xs ys h

-- nor after an exit
pieces-left : (e : Event) (es : List Event) → e.kind ≡ Exit → pieces_from e es ≡ pieces es
pieces-left e [] h = refl
pieces-left e (f ∷ es) h = go e.kind f.kind h
  where
    go : (k l : Kind) → k ≡ Exit → piece_of e f k l ++ pieces_from f es ≡ pieces_from f es
    go Enter l h = absurd (cc)
    go Exit Enter h = refl
    go Exit Exit h = refl

pieces_from-ended : (e : Event) (xs ys : List Event) → Ends e.kind xs →
    pieces_from e (xs ++ ys) ≡ pieces_from e xs ++ pieces ys
pieces_from-ended e [] ys h = pieces-left e ys h
pieces_from-ended e (f ∷ xs) ys h =
    ap (λ (l : List Piece). piece_of e f e.kind f.kind ++ l) (pieces_from-ended f xs ys h)
    ∙ sym (append_assoc (piece_of e f e.kind f.kind) (pieces_from f xs) (pieces ys))

-- the pieces of events that end with an exit, and of others after them
pub pieces-ended : (xs ys : List Event) → Ends Exit xs → pieces (xs ++ ys) ≡ pieces xs ++ pieces ys
pieces-ended [] ys h = refl
pieces-ended (e ∷ xs) ys h = pieces_from-ended e xs ys h

-- an exit more after an exit
pieces-following : (e : Event) (xs : List Event) (f : Event) → Ends e.kind xs →
    pieces_from e (xs ++ f ∷ []) ≡ pieces_from e xs
pieces-following e [] f h = go e.kind f.kind h
  where
    go : (k l : Kind) → k ≡ Exit → piece_of e f k l ++ [] ≡ []
    go Enter l h = absurd (cc)
    go Exit Enter h = refl
    go Exit Exit h = refl
pieces-following e (g ∷ xs) f h = ap (λ (l : List Piece). piece_of e g e.kind g.kind ++ l) (pieces-following g xs f h)

begins-append : (xs ys : List Event) → Begins xs → Begins ys → Begins (xs ++ ys)
begins-append [] ys h k = k
begins-append (e ∷ xs) ys h k = h

pub ends-append : (kind : Kind) (xs ys : List Event) → Ends kind xs → Ends Exit ys → Ends kind (xs ++ ys)
ends-append kind [] ys h k = subst (λ (l : Kind). Ends l ys) (sym h) k
ends-append kind (e ∷ xs) ys h k = ends-append e.kind xs ys h k

pub ends-exit : (kind : Kind) (xs : List Event) (f : Event) → f.kind ≡ Exit → Ends kind (xs ++ f ∷ [])
ends-exit kind [] f h = h
ends-exit kind (e ∷ xs) f h = ends-exit e.kind xs f h

-- Ways to build such events.

pub tiled-none : (p q : Point) → same_place p q ≡ true → Covered p q []
tiled-none p q h = record { begins = tt; ends = refl; covers = h }

pub tiled-append : (p q r : Point) (xs ys : List Event) → Covered p q xs → Covered q r ys → Covered p r (xs ++ ys)
tiled-append p q r xs ys h k = record {
  begins = begins-append xs ys h.begins k.begins;
  ends = ends-append Exit xs ys h.ends k.ends;
  covers =
      subst (λ (l : List Piece). Covers p l r) (sym (pieces-append xs ys k.begins))
      (covers-append p q r (pieces xs) (pieces ys) h.covers k.covers);
}

pub follows-append : (p q r : Point) (xs ys : List Event) → Follows p q xs → Follows q r ys → Follows p r (xs ++ ys)
follows-append p q r xs ys h k = record {
  ends = ends-append Exit xs ys h.ends k.ends;
  covers =
      subst (λ (l : List Piece). Covers p l r) (sym (pieces-ended xs ys h.ends))
      (covers-append p q r (pieces xs) (pieces ys) h.covers k.covers);
}

pub follows-tiled : (p q : Point) (es : List Event) → Covered p q es → Follows p q es
follows-tiled p q es h = record { ends = h.ends; covers = h.covers }

-- an enter, and what shuts it
pub tiled-enter : (e : Event) (q : Point) (es : List Event) → e.kind ≡ Enter → Shut e q es → Covered e.point q (e ∷ es)
tiled-enter e q es h k = record { begins = h; ends = k.ends; covers = k.covers }

-- an exit shuts an enter, and others may follow
pub shut-exit : (e f : Event) (q : Point) (es : List Event) → e.kind ≡ Enter → f.kind ≡ Exit → Covered f.point q es →
    Shut e q (f ∷ es)
shut-exit e f q es h k t = record {
  ends = subst (λ (l : Kind). Ends l es) (sym k) t.ends;
  covers = go e.kind f.kind h k;
}
  where
    more : Covers f.point (pieces_from f es) q
    more = subst (λ (l : List Piece). Covers f.point l q) (sym (pieces-before f es t.begins)) t.covers

    go : (k l : Kind) → k ≡ Enter → l ≡ Exit → Covers e.point (piece_of e f k l ++ pieces_from f es) q
    go Enter Exit h k = (same-refl e.point, more)
    go Enter Enter h k = absurd (cc)
    go Exit l h k = absurd (cc)

-- an enter with its exit
pub tiled-two : (e f : Event) → e.kind ≡ Enter → f.kind ≡ Exit → Covered e.point f.point (e ∷ f ∷ [])
tiled-two e f h k =
    tiled-enter e f.point (f ∷ []) h (shut-exit e f f.point [] h k (tiled-none f.point f.point (same-refl f.point)))

pub tiled-pair : (name : Name) (p q : Point) → Covered p q (pair name p q)
tiled-pair name p q = tiled-two (enter name p) (exit name q) refl refl

-- the pieces of a part are those of what it is around, if anything
pub pieces-around : (name : Name) (p q : Point) (e : Event) (es : List Event) → e.kind ≡ Enter → Ends e.kind es →
    pieces (around name p q (e ∷ es)) ≡ pieces (e ∷ es)
pieces-around name p q e es h k =
    pieces-before (enter name p) ((e ∷ es) ++ exit name q ∷ []) h ∙ pieces-following e es (exit name q) k

-- a part covers what it is around, also if that is empty
pub tiled-around : (name : Name) (p q : Point) (es : List Event) → Covered p q es → Covered p q (around name p q es)
tiled-around name p q [] h = tiled-pair name p q
tiled-around name p q (e ∷ es) h = record {
  begins = refl;
  ends = ends-exit Enter (e ∷ es) (exit name q) refl;
  covers = subst (λ (l : List Piece). Covers p l q) (sym (pieces-around name p q e es h.begins h.ends)) h.covers;
}

-- an enter before events that begin with one
pub tiled-within : (e f : Event) (q : Point) (es : List Event) → e.kind ≡ Enter → Covered e.point q (f ∷ es) →
    Covered e.point q (e ∷ f ∷ es)
tiled-within e f q es h t = record {
  begins = h;
  ends = t.ends;
  covers = subst (λ (l : List Piece). Covers e.point l q) (sym (pieces-before e (f ∷ es) t.begins)) t.covers;
}
