-- What is known of the parts of a row of a table: whitespace, pipes, the texts of its cells, and the cells around them.
--
-- It is what is asked of the events of a leaf, but for their grammar, how they are read and where an outline goes,
-- which are said of whole cells.
use Rattle.std.proofs.Common.{◌≡◌, ℕ, ◌<◌, Bool, true, false, ◌||◌, not, List, [], ◌∷◌, ◌++◌, drop, refl, sym}
use Rattle.std.proofs.Common.{ap, subst, arith}
use Rattle.std.specs.Prelude.{IsTrue, None}
use Rattle.md_engine.specs.declared.event.Event.{Event}
use Rattle.md_engine.specs.declared.event.Name.{Name}
use Rattle.md_engine.specs.declared.event.Name.TheVariants as n
use Rattle.md_engine.specs.declared.event.Point.{Point}
use Rattle.md_containers.specs.ItemsAllowed.{IsPart}
use Rattle.md_meaning.specs.Rest.{is_blank}
use Rattle.md_outline.specs.Roles.{is_recorded, is_unlisted}
use Rattle.md_events.specs.declared.inline.PartKind.TheVariants.{Text}
use Rattle.md_events.specs.Events.Endings.{on_line}
use Rattle.md_events.specs.Events.Nested.{around, pair}
use Rattle.md_events.specs.Events.Pieces.{is_valid_piece}
use Rattle.md_events.specs.Events.Places.{at_or_before, past_byte, past_text}
use Rattle.md_events.specs.Events.Spelled.{role}
use Rattle.md_events.specs.Events.Tiles.{part_kind}
use Rattle.md_events.proofs.EndingsLemmas.{AreOthers, is_other, others-append}
use Rattle.md_events.proofs.InlineLemmas.{before-text, same-refl}
use Rattle.md_events.proofs.SpelledLemmas.{Quiet}
use Rattle.md_tables.specs.Row.{text_link}
use Rattle.md_tables.specs.RowCells.{pipe_part, read_text, text_part, unread_text, white_part}
use Rattle.proof_frame.proofs.ChunkFacts.{starts-tiled}
use Rattle.proof_frame.proofs.OtherNames.{others-around}
use Rattle.proof_frame.proofs.OneText.{chunk-is, stretch-text}
use Rattle.proof_frame.proofs.LineTexts.{past-whole}
use Rattle.proof_frame.proofs.LineWalk.{At}
use Rattle.proof_frame.proofs.IndentRemoved.Shown.{whole-clear}
use Rattle.proof_frame.proofs.PartedFacts.{Still, clear, quiets-still, sits-still}
use Rattle.proof_frame.proofs.PieceFacts.{CutsFirst, begins-cut, begins-whole, over-front, over-valid, span}
use Rattle.proof_frame.proofs.PiecesLemmas.{Covered, tiled-append, tiled-around, tiled-none, tiled-pair}
use Rattle.proof_frame.proofs.PlainFacts.{AreKnown, known-append, known-around, known-none, plain-quiet}
use Rattle.proof_frame.proofs.Stretch.{IsMiddle, Stretch, stretch-append, stretch-around, stretch-none, stretch-pair}

-- These events are in a row from a point to a point, before texts are read, and those once they are.
pub record RowFacts (bytes : List ℕ) (p q : Point) (unread done : List Event) : Type 0 where
  pub stretch : Stretch IsPart bytes p q unread done
  -- once they are read they cover what is there
  pub covers : Covered p q done
  -- none ends a line, or begins or ends a leaf
  pub unread_others : AreOthers unread
  pub others : AreOthers done
  -- an outline knows their names
  pub known : AreKnown bytes done

-- One after the other.

pub row-none : (bytes : List ℕ) (p : Point) → RowFacts bytes p p [] []
row-none bytes p = record {
  stretch = stretch-none IsPart bytes p;
  covers = tiled-none p p (same-refl p);
  unread_others = refl;
  others = refl;
  known = known-none bytes;
}

pub row-append : {bytes : List ℕ} {p q r : Point} {us es vs fs : List Event} → RowFacts bytes p q us es →
    RowFacts bytes q r vs fs → IsMiddle bytes p q r → RowFacts bytes p r (us ++ vs) (es ++ fs)
row-append {bytes = bytes} {p = p} {q = q} {r = r} {us = us} {es = es} {vs = vs} {fs = fs} h k middle = record {
  stretch = stretch-append h.stretch k.stretch middle;
  covers = tiled-append p q r es fs h.covers k.covers;
  unread_others = others-append us vs h.unread_others k.unread_others;
  others = others-append es fs h.others k.others;
  known = known-append bytes es fs h.known k.known;
}

-- A piece that the tree does not show.

-- what is asked of its name
pub record IsRowPiece (name : Name) : Type 0 where
  pub quiet : Quiet (role name)
  pub part : IsPart (role name)
  pub other : is_other (on_line name) ≡ true
  pub no_part : part_kind name ≡ None

pub row-piece : (bytes : List ℕ) (name : Name) (p q : Point) → IsRowPiece name → IsTrue (at_or_before p q) →
    is_valid_piece bytes (span name p q) ≡ true → RowFacts bytes p q (pair name p q) (pair name p q)
row-piece bytes name p q is order valid = record {
  stretch =
      stretch-pair IsPart bytes name p q
      (record {
        role_is = is.part;
        no_part = is.no_part;
        parted = λ a b. sits-still bytes (pair name a b) (quiets-still (pair name a b) (is.quiet, (is.quiet, tt)));
      }) order valid;
  covers = tiled-pair name p q;
  unread_others = others-around name p q [] is.other refl;
  others = others-around name p q [] is.other refl;
  known = (plain-quiet bytes (pair name p q) (is.quiet, (is.quiet, tt))).known;
}

-- whitespace, if there is some
pub row-white : (bytes w rest : List ℕ) (p : Point) → drop p.index bytes ≡ w ++ rest → CutsFirst p w →
    is_blank w ≡ true → RowFacts bytes p (past_text w p) (white_part w p) (white_part w p)
row-white bytes [] rest p is cut blank = row-none bytes p
row-white bytes (b ∷ w) rest p is cut blank =
    let q = past_text (b ∷ w) p in
    row-piece bytes n.SpaceOrTab p q (record { quiet = tt; part = tt; other = refl; no_part = refl })
    (before-text (b ∷ w) p)
    (over-valid bytes n.SpaceOrTab p q (b ∷ w) (over-front bytes p q (b ∷ w) rest is (omega arith) refl)
    (begins-cut n.SpaceOrTab p refl) blank)

-- a pipe
pub row-pipe : (bytes rest : List ℕ) (p : Point) → drop p.index bytes ≡ 124 ∷ rest → p.vs ≡ 0 →
    RowFacts bytes p (past_byte 124 p) (pipe_part p) (pipe_part p)
row-pipe bytes rest p is whole =
    let q = past_byte 124 p in
    row-piece bytes n.GfmTableCellDivider p q (record { quiet = tt; part = tt; other = refl; no_part = refl })
    (before-text (124 ∷ []) p)
    (over-valid bytes n.GfmTableCellDivider p q (124 ∷ [])
    (over-front bytes p q (124 ∷ []) rest is (omega arith) refl) (begins-whole n.GfmTableCellDivider p whole) refl)

-- What is around others, and is no text.

-- what is asked of its name
pub record IsRowGroup (name : Name) : Type 0 where
  pub part : IsPart (role name)
  pub other : is_other (on_line name) ≡ true
  pub no_part : part_kind name ≡ None
  pub still : Still (role name)
  pub known : is_unlisted (role name) ≡ true
  pub untold : is_recorded (role name) ≡ false

pub row-around : {bytes : List ℕ} {p q : Point} {us es : List Event} (name : Name) → IsRowGroup name →
    p.index < q.index → RowFacts bytes p q us es → RowFacts bytes p q (around name p q us) (around name p q es)
row-around {bytes = bytes} {p = p} {q = q} {us = us} {es = es} name is some h = record {
  stretch =
      stretch-around name (record { role_is = is.part; no_part = is.no_part; still = is.still })
      (starts-tiled p q us h.stretch.tiled some) (starts-tiled p q es h.covers some) h.stretch;
  covers = tiled-around name p q es h.covers;
  unread_others = others-around name p q us is.other h.unread_others;
  others = others-around name p q es is.other h.others;
  known = known-around bytes name p q es is.known (untold p) (untold q) h.known;
}
  where
    untold : (x : Point) → (not (is_recorded (role name)) || clear bytes x) ≡ true
    untold x = ap (λ (t : Bool). not t || clear bytes x) is.untold

-- The text of a cell.
pub row-text : (bytes : List ℕ) (b : ℕ) (bs rest : List ℕ) (p : Point) → At bytes (b ∷ bs) p rest →
    RowFacts bytes p (past_text (b ∷ bs) p) (text_part unread_text (b ∷ bs) p)
    (text_part (read_text bytes) (b ∷ bs) p)
row-text bytes b bs rest p at = record {
  stretch =
      stretch-text IsPart bytes n.GfmTableCellText Text text_link b bs rest p
      (record { role_is = tt; piece = tt; kind_is = refl; parted = λ x y ys h. h }) refl at;
  covers =
      by_piece (λ (xs : List Event). Covered p q xs)
      (tiled-around n.GfmTableCellText p q piece (tiled-pair n.Data p q));
  unread_others = refl;
  others = by_piece AreOthers refl;
  known =
      by_piece (AreKnown bytes)
      (known-around bytes n.GfmTableCellText p q piece refl (whole-clear bytes p at.whole)
      (whole-clear bytes q (past-whole (b ∷ bs) p (omega arith)))
      (plain-quiet bytes piece (tt, (tt, tt))).known);
}
  where
    q : Point
    q = past_text (b ∷ bs) p

    piece : List Event
    piece = pair n.Data p (past_text (b ∷ bs) p)

    -- what the plain layer reads is one piece
    by_piece : (P : List Event → Type 0) → P (around n.GfmTableCellText p q piece) →
        P (text_part (read_text bytes) (b ∷ bs) p)
    by_piece P h =
        subst (λ (xs : List Event). P (around n.GfmTableCellText p q (xs ++ [])))
        (sym (chunk-is bytes b bs rest p at)) h
