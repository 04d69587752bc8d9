-- Events in which leaf blocks hold no block, and after which none of these is open.
use Rattle.std.proofs.Common.{◌≡◌, Bool, true, false, cond, ◌&&◌, List, [], ◌∷◌, ◌++◌, refl, ap, sym, subst}
use Rattle.std.proofs.Common.{append_assoc, append-nil, subst₂}
use Rattle.std.proofs.lemmas.Bool.{and_right}
use Rattle.md_engine.specs.declared.event.Event.{Event}
use Rattle.md_engine.specs.declared.event.Name.{Name}
use Rattle.md_engine.specs.declared.event.Name.TheVariants as n
use Rattle.md_engine.specs.declared.event.Point.{Point}
use Rattle.md_events.specs.Events.Nested.{around, exit, is_enter, is_exit, pair}
use Rattle.md_events.specs.Events.Prefix.{is_prefix}
use Rattle.md_order.specs.Alone.{HoldNoBlock, InParagraph, MayBeHere, Nothing, Open}
use Rattle.md_order.specs.Alone.{closed_by, is_set, open_following, opened_by}
use Rattle.proof_frame.proofs.EventNames.{front-opens}
use Rattle.proof_frame.proofs.EachEvent.{Each, each-as}
use Rattle.proof_frame.proofs.PrefixNames.{AreFront, ArePrefixes, IsFrontEvent, IsNamed}

-- what follows them may be there
abbrev pub IsClosed : List Event → Type 0
IsClosed es = (following : List Event) → HoldNoBlock Nothing following → HoldNoBlock Nothing (es ++ following)

pub closed-append : (xs ys : List Event) → IsClosed xs → IsClosed ys → IsClosed (xs ++ ys)
closed-append xs ys h k = λ zs l.
    subst (HoldNoBlock Nothing) (sym (append_assoc xs ys zs)) (h (ys ++ zs) (k zs l))

-- so nothing need are there
pub closed-holds : (es : List Event) → IsClosed es → HoldNoBlock Nothing es
closed-holds es h = subst (HoldNoBlock Nothing) (append-nil es) (h [] tt)

-- Events of no such block.

abbrev pub OpensNothing : Event → Type 0
OpensNothing e = opened_by e.name ≡ Nothing

pub closed-each : (es : List Event) → Each OpensNothing es → IsClosed es
closed-each [] h = λ ys k. k
closed-each (e ∷ es) h = λ ys k. (
  λ exits. h.0,
  subst (λ (x : Open). HoldNoBlock x (es ++ ys)) (sym (nothing e h.0)) (closed-each es h.1 ys k),
)
  where
    nothing : (e : Event) → OpensNothing e → open_following Nothing e ≡ Nothing
    nothing e h = go (is_enter e.kind)
      where
        go : (x : Bool) → cond x (opened_by e.name) Nothing ≡ Nothing
        go true = h
        go false = refl

-- prefixes and containers
pub closed-front : (es : List Event) → AreFront es → IsClosed es
closed-front es h =
    closed-each es (each-as IsFrontEvent OpensNothing (λ e is. front-opens e.name is.0) es h)

-- an ending
pub closed-ending : (p q : Point) → IsClosed (pair n.LineEnding p q)
closed-ending p q = λ ys k. (λ exits. cc, (λ proceeds. cc, k))

-- Blocks.

-- an event of no container and no block that resolvers set
abbrev pub IsUnset : Event → Type 0
IsUnset e = is_set e.name ≡ false

prefix-unset : (name : Name) → is_prefix name ≡ true → is_set name ≡ false
prefix-unset n.SpaceOrTab h = refl
prefix-unset _ h = cc

pub prefixes-unset : (es : List Event) → ArePrefixes es → Each IsUnset es
prefixes-unset es h = each-as (IsNamed is_prefix) IsUnset (λ e is. prefix-unset e.name is.0) es h

-- A block with this name: such events may be in it, and it continues after them; after its end none is open.
pub record IsBlock (name : Name) : Type 0 where
  pub inside : Open
  pub opens : opened_by name ≡ inside
  pub valid : (e : Event) → IsUnset e → MayBeHere inside e
  pub stays : (e : Event) → IsUnset e → open_following inside e ≡ inside
  pub ends : (q : Point) → MayBeHere inside (exit name q)
  pub shuts : (q : Point) → open_following inside (exit name q) ≡ Nothing

inside-holds : (name : Name) (is : IsBlock name) (es rest : List Event) → Each IsUnset es →
    HoldNoBlock is.inside rest → HoldNoBlock is.inside (es ++ rest)
inside-holds name is [] rest h k = k
inside-holds name is (e ∷ es) rest h k = (
  is.valid e h.0,
  subst (λ (x : Open). HoldNoBlock x (es ++ rest)) (sym (is.stays e h.0)) (inside-holds name is es rest h.1 k),
)

-- so it is closed
pub closed-around : (name : Name) → IsBlock name → (p q : Point) (inside : List Event) → Each IsUnset inside →
    IsClosed (around name p q inside)
closed-around name is p q inside h = λ ys k. (
  λ exits. cc,
  subst₂ HoldNoBlock (sym is.opens) (sym (append_assoc inside (exit name q ∷ []) ys))
      (inside-holds name is inside (exit name q ∷ ys) h
      (is.ends q, subst (λ (x : Open). HoldNoBlock x ys) (sym (is.shuts q)) k)),
)

-- no other ends it
pub stays-open : (x : Open) (e : Event) → closed_by x e.name ≡ false →
    cond (is_exit e.kind && closed_by x e.name) Nothing x ≡ x
stays-open x e h = ap (λ (closes : Bool). cond closes Nothing x) (and_right (is_exit e.kind) (closed_by x e.name) h)

-- Text is such a block.

unset-paragraph : (name : Name) → is_set name ≡ false → closed_by InParagraph name ≡ false
unset-paragraph n.Paragraph h = cc
unset-paragraph _ h = refl

pub paragraph-block : IsBlock n.Paragraph
paragraph-block = record {
  inside = InParagraph;
  opens = refl;
  valid = λ e h proceeds. h;
  stays = λ e h. stays-open InParagraph e (unset-paragraph e.name h);
  ends = λ q proceeds. cc;
  shuts = λ q. refl;
}
