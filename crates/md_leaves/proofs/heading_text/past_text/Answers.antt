use Rattle.std.proofs.Common.{◌≡◌, ◌+◌, ◌∷◌, ◌∙◌, ℕ, List, ap, drop, get_or, refl, subst, sym}
use Rattle.std.proofs.lemmas.List.{at_drop_all, at_drop_more}
use Rattle.md_leaves.specs.OnLine.{IsOnLine}
use Rattle.md_leaves.proofs.OneLine.{past-plain}
use Rattle.md_leaves.proofs.OnLine.{column-some, on-next, on-room}
use Rattle.md_events.specs.Events.Places.{past_text}
use Rattle.md_leaves.proofs.heading_text.past_text.Goals as goal

pub returns-then-not-has_tab : goal.returns-then-not-has_tab
returns-then-not-has_tab c =
    sym
    (past-plain c.args.piece.now c.args.from c.if-from-eq0.true
    (column-some c.args.bytes.now c.args.from c.requires.placed) (sym c.has_tab.ensures ∙ c.if-not-has_tab.true))

pub loop-byte-init : goal.loop-byte-init
loop-byte-init c = record { on = c.requires; same = refl }

pub past_byte-point-requires : goal.past_byte-point-requires
past_byte-point-requires c =
    let i = c.loop-byte.byte-index in
    let piece = c.args.piece.now in
    let room = on-room c.args.bytes.now (drop (i + 1) piece) (get_or piece i 0) c.loop-byte.point
    (subst (λ (l : List ℕ). IsOnLine c.args.bytes.now l c.loop-byte.point)
    (at_drop_more (λ (l : List ℕ). l) piece i 0 c.loop-byte-test.true)
    c.loop-byte.invariant.on) in
    (room.index, room.column)

pub loop-byte-preserved : goal.loop-byte-preserved
loop-byte-preserved c =
    let i = c.loop-byte.byte-index in
    let piece = c.args.piece.now in
    let first : drop i piece ≡ get_or piece i 0 ∷ drop (i + 1) piece =
    at_drop_more (λ (l : List ℕ). l) piece i 0 c.loop-byte-test.true in
    let on : IsOnLine c.args.bytes.now (get_or piece i 0 ∷ drop (i + 1) piece) c.loop-byte.point =
    subst (λ (l : List ℕ). IsOnLine c.args.bytes.now l c.loop-byte.point) first c.loop-byte.invariant.on in
    record {
      on =
          subst (IsOnLine c.args.bytes.now (drop (i + 1) piece)) (sym c.past_byte-point.ensures)
          (on-next c.args.bytes.now (get_or piece i 0) (drop (i + 1) piece) c.loop-byte.point on);
      same =
          ap (past_text (drop (i + 1) piece)) c.past_byte-point.ensures
          ∙ sym (ap (λ (l : List ℕ). past_text l c.loop-byte.point) first)
          ∙ c.loop-byte.invariant.same;
    }

pub returns : goal.returns
returns c =
    sym (at_drop_all (λ (l : List ℕ). past_text l c.loop-byte.point) c.args.piece.now c.loop-byte.byte-index
    c.loop-byte-test.false)
    ∙ c.loop-byte.invariant.same
