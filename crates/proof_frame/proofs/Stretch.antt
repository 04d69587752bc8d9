-- A stretch of events: what is known of the events from a point of a text to a point, before text parts are read, and
-- of those once they are.
--
-- A leaf, a line of it, a part of a line, and what is between two lines are such stretches; beside it is what else is
-- known of each. So whatever holds of all events is said here, and shown once of events one after the other, of a pair,
-- and of what has a pair around it.
use Rattle.std.proofs.Common.{◌≡◌, ℕ, true, List, [], ◌∷◌, ◌++◌, refl}
use Rattle.std.specs.Prelude.{IsTrue, None}
use Rattle.md_engine.specs.declared.event.Event.{Event}
use Rattle.md_engine.specs.declared.event.Name.{Name}
use Rattle.md_engine.specs.declared.event.Name.TheVariants as n
use Rattle.md_engine.specs.declared.event.Point.{Point}
use Rattle.md_outline.specs.Between.{is_between}
use Rattle.md_events.specs.Events.Nested.{around, exit, pair}
use Rattle.md_events.specs.Events.Pieces.{is_valid_piece}
use Rattle.md_events.specs.Events.Places.{at_or_before}
use Rattle.md_events.specs.Events.Spelled.{IsQuiet, Role, role}
use Rattle.md_events.specs.Events.Tiles.{part_kind}
use Rattle.md_events.proofs.InlineLemmas.{same-refl}
use Rattle.md_events.proofs.NestedLemmas.{at_or_before-refl, balanced-none}
use Rattle.md_events.proofs.SpelledLemmas.{Roles, roles-append}
use Rattle.proof_frame.proofs.BetweenFacts.{AreBetween, around-between, between-append, between-pair}
use Rattle.proof_frame.proofs.FillFacts.{PartsRead, fill-append, fill-around, fill-same}
use Rattle.proof_frame.proofs.PartFacts.{NoLinks, NoParts}
use Rattle.proof_frame.proofs.PartedFacts.{PrefixesAtLineStart, Still, around-sits, sits-append}
use Rattle.proof_frame.proofs.PartsValid.{PartsWhole, valid-append, valid-around, valid-outside}
use Rattle.proof_frame.proofs.PieceFacts.{PiecesValid, Starts, span, is_valid-append, is_valid-around, is_valid-none}
use Rattle.proof_frame.proofs.PieceFacts.{is_valid-pair}
use Rattle.proof_frame.proofs.PiecesLemmas.{Covered, tiled-append, tiled-around, tiled-none, tiled-pair}
use Rattle.proof_frame.proofs.SpanLemmas.{Nested_in, around-nested, nested_in-append}

-- These events are from a point to a point before text parts are read, and those once they are; the role of each is of
-- this kind.
pub record Stretch (R : Role → Type 0) (bytes : List ℕ) (p q : Point) (unread done : List Event) : Type 0 where
  pub unread_roles : Roles R unread
  pub roles : Roles R done
  -- they nest, and go forward
  pub unread_nested : Nested_in p q unread
  pub nested : Nested_in p q done
  -- they cover what is there
  pub tiled : Covered p q unread
  -- their pieces are over what their names say
  pub unread_valid : PiecesValid bytes unread
  pub is_valid : PiecesValid bytes done
  -- their text parts are whole, and are read in the places of their chunks
  pub parts : PartsWhole bytes unread
  pub filled : PartsRead bytes unread done
  -- they are between characters, and prefixes among them at the begin of a line
  pub between : is_between bytes p.index ≡ true → is_between bytes q.index ≡ true → AreBetween bytes done
  pub parted : PrefixesAtLineStart bytes done

-- the same of roles of which this follows
pub roles-as : {R S : Role → Type 0} → ((x : Role) → R x → S x) → (es : List Event) → Roles R es → Roles S es
roles-as so [] h = tt
roles-as so (e ∷ es) h = (so (role e.name) h.0, roles-as so es h.1)

pub stretch-as : {R S : Role → Type 0} {bytes : List ℕ} {p q : Point} {us es : List Event} →
    ((x : Role) → R x → S x) → Stretch R bytes p q us es → Stretch S bytes p q us es
stretch-as {us = us} {es = es} so h = record {
  unread_roles = roles-as so us h.unread_roles;
  roles = roles-as so es h.roles;
  unread_nested = h.unread_nested;
  nested = h.nested;
  tiled = h.tiled;
  unread_valid = h.unread_valid;
  is_valid = h.is_valid;
  parts = h.parts;
  filled = h.filled;
  between = h.between;
  parted = h.parted;
}

-- Events that stay as they are when text parts are read: nothing is read of them.
pub stretch-same : (R : Role → Type 0) (bytes : List ℕ) (p q : Point) (es : List Event) → Roles R es →
    Nested_in p q es → Covered p q es → PiecesValid bytes es → NoParts es → NoLinks es →
    (is_between bytes p.index ≡ true → is_between bytes q.index ≡ true → AreBetween bytes es) →
    PrefixesAtLineStart bytes es → Stretch R bytes p q es es
stretch-same R bytes p q es roles nested tiled is_valid outside unlinked between parted = record {
  unread_roles = roles;
  roles = roles;
  unread_nested = nested;
  nested = nested;
  tiled = tiled;
  unread_valid = is_valid;
  is_valid = is_valid;
  parts = valid-outside bytes es outside unlinked;
  filled = fill-same bytes es unlinked outside;
  between = between;
  parted = parted;
}

-- none
pub stretch-none : (R : Role → Type 0) (bytes : List ℕ) (p : Point) → Stretch R bytes p p [] []
stretch-none R bytes p =
    stretch-same R bytes p p [] tt (balanced-none, (tt, at_or_before-refl p)) (tiled-none p p (same-refl p))
    (is_valid-none bytes) tt tt (λ first last. refl) (λ ys h. h)

-- where some end and others begin is between characters, if so are the ends of both
abbrev pub IsMiddle : List ℕ → Point → Point → Point → Type 0
IsMiddle bytes p q r =
    is_between bytes p.index ≡ true → is_between bytes r.index ≡ true → is_between bytes q.index ≡ true

-- one after the other
pub stretch-append : {R : Role → Type 0} {bytes : List ℕ} {p q r : Point} {us es vs fs : List Event} →
    Stretch R bytes p q us es → Stretch R bytes q r vs fs → IsMiddle bytes p q r →
    Stretch R bytes p r (us ++ vs) (es ++ fs)
stretch-append {R = R} {bytes = bytes} {p = p} {q = q} {r = r} {us = us} {es = es} {vs = vs} {fs = fs} h k middle =
    record {
      unread_roles = roles-append R us vs h.unread_roles k.unread_roles;
      roles = roles-append R es fs h.roles k.roles;
      unread_nested = nested_in-append p q r us vs h.unread_nested k.unread_nested;
      nested = nested_in-append p q r es fs h.nested k.nested;
      tiled = tiled-append p q r us vs h.tiled k.tiled;
      unread_valid = is_valid-append bytes us vs h.unread_valid k.unread_valid;
      is_valid = is_valid-append bytes es fs h.is_valid k.is_valid;
      parts = valid-append bytes us vs h.parts k.parts;
      filled = fill-append bytes us es vs fs h.filled k.filled;
      between =
          λ first last. between-append bytes es fs (h.between first (middle first last))
          (k.between (middle first last) last);
      parted = sits-append bytes es fs h.parted k.parted;
    }

-- A pair, of which nothing is read.

-- what is asked of its name
pub record IsPiece (R : Role → Type 0) (bytes : List ℕ) (name : Name) : Type 0 where
  pub role_is : R (role name)
  pub no_part : part_kind name ≡ None
  pub parted : (p q : Point) → PrefixesAtLineStart bytes (pair name p q)

-- that of whitespace has it, where it may be
pub white-piece : (R : Role → Type 0) (bytes : List ℕ) → R IsQuiet → IsPiece R bytes n.SpaceOrTab
white-piece R bytes quiet = record { role_is = quiet; no_part = refl; parted = λ p q ys h. h }

pub pair-nested : (name : Name) (p q : Point) → IsTrue (at_or_before p q) → Nested_in p q (pair name p q)
pair-nested name p q order = (
  record { matches = (tt, (refl, tt)); closed = refl },
  ((at_or_before-refl p, (order, tt)), at_or_before-refl q),
)

pub stretch-pair : (R : Role → Type 0) (bytes : List ℕ) (name : Name) (p q : Point) → IsPiece R bytes name →
    IsTrue (at_or_before p q) → is_valid_piece bytes (span name p q) ≡ true →
    Stretch R bytes p q (pair name p q) (pair name p q)
stretch-pair R bytes name p q is order valid =
    stretch-same R bytes p q (pair name p q) (is.role_is, (is.role_is, tt)) (pair-nested name p q order)
    (tiled-pair name p q) (is_valid-pair bytes name p q valid) (is.no_part, (is.no_part, tt)) (refl, (refl, tt))
    (λ first last. between-pair bytes name p q first last) (is.parted p q)

-- A pair around others.

pub stretch-by : {R : Role → Type 0} {bytes : List ℕ} {p q : Point} {us es : List Event} (name : Name) →
    R (role name) → part_kind name ≡ None → Starts us → Starts es → PrefixesAtLineStart bytes (around name p q es) →
    Stretch R bytes p q us es → Stretch R bytes p q (around name p q us) (around name p q es)
stretch-by {R = R} {bytes = bytes} {p = p} {q = q} {us = us} {es = es} name named no_part us_start start parted h =
    record {
      unread_roles = (named, roles-append R us (exit name q ∷ []) h.unread_roles (named, tt));
      roles = (named, roles-append R es (exit name q ∷ []) h.roles (named, tt));
      unread_nested = around-nested name p q us h.unread_nested;
      nested = around-nested name p q es h.nested;
      tiled = tiled-around name p q us h.tiled;
      unread_valid = is_valid-around bytes name p q us us_start h.unread_valid;
      is_valid = is_valid-around bytes name p q es start h.is_valid;
      parts = valid-around bytes name p q us no_part h.parts;
      filled = fill-around bytes name p q us es no_part h.filled;
      between = λ first last. around-between bytes name p q es first last (h.between first last);
      parted = parted;
    }

-- what is asked of the name of one that is no text
pub record IsGroup (R : Role → Type 0) (name : Name) : Type 0 where
  pub role_is : R (role name)
  pub no_part : part_kind name ≡ None
  pub still : Still (role name)

pub stretch-around : {R : Role → Type 0} {bytes : List ℕ} {p q : Point} {us es : List Event} (name : Name) →
    IsGroup R name → Starts us → Starts es → Stretch R bytes p q us es →
    Stretch R bytes p q (around name p q us) (around name p q es)
stretch-around {bytes = bytes} {p = p} {q = q} {es = es} name is us_start start h =
    stretch-by name is.role_is is.no_part us_start start (around-sits bytes name p q es is.still h.parted) h
