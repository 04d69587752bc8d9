-- What is in a further line of fenced code or math begins and ends clear, and an outline knows its names.
use Rattle.std.proofs.Common.{◌≡◌, ℕ, Bool, true, false, cond, List, [], ◌∷◌, drop, refl}
use Rattle.std.specs.List.{list_all}
use Rattle.std.proofs.lemmas.Bool.{and_from}
use Rattle.md_engine.specs.declared.configuration.ParseOptions.{ParseOptions}
use Rattle.md_engine.specs.declared.event.Event.{Event}
use Rattle.md_engine.specs.declared.event.Name.{Name}
use Rattle.md_engine.specs.declared.event.Name.TheVariants as n
use Rattle.md_engine.specs.declared.event.Point.{Point}
use Rattle.md_engine.specs.declared.tokenizer.held_leaf.HeldLeaf.{HeldLeaf}
use Rattle.md_meaning.specs.Leaves.{closes}
use Rattle.md_meaning.specs.Rest.{Rest, indent, lose, run_len, trim_start}
use Rattle.md_literal.specs.Fence.{chunk_name, fence_name, held_indent, held_marker, is_open as is_fence}
use Rattle.md_outline.specs.Outlined.{has_unlisted_name}
use Rattle.md_outline.specs.Roles.{is_unlisted}
use Rattle.md_events.specs.Events.Nested.{exit}
use Rattle.md_events.specs.Events.Spelled.{role}
use Rattle.proof_literal_laws.specs.Leaf.FenceFurther.{chunk_line, closing_line, closing_part, further_parts}
use Rattle.proof_literal_laws.specs.Leaf.FenceFurther.{opening_of}
use Rattle.proof_frame.specs.LineColumns.{columns_part, part_over, past_columns}
use Rattle.proof_frame.proofs.EachEvent.{each-append}
use Rattle.proof_frame.proofs.IndentRemoved.Shown.{left-clear, whole-clear, OfPoints, columns-points, lost-points}
use Rattle.proof_frame.proofs.IndentRemoved.Shown.{over-points, points-clear}
use Rattle.proof_literal_laws.proofs.FenceFurther.Inside.{has-sequence, sequence_end}
use Rattle.proof_literal_laws.proofs.FenceFurther.Names.{parts-each}
use Rattle.proof_literal_laws.proofs.IndentRemoved.Names.{inside-name, is_inside}
use Rattle.proof_frame.proofs.IndentRemoved.Places.{FurtherAt, has-left}
use Rattle.proof_literal_laws.proofs.FenceFurther.Places.{has-closing}
use Rattle.proof_frame.proofs.PartedFacts.{clear}
use Rattle.proof_frame.proofs.PlainFacts.{AreKnown, is_clear}

-- Points.

points-each : (P : Point → Type 0) (options : ParseOptions) (on : HeldLeaf) (r : Rest) (p q : Point) → P p → P q →
    ((room : ℕ) → P (past_columns room r p)) →
    (closes options (opening_of on) r ≡ true → P (sequence_end on r p)) → OfPoints P (further_parts options on r p q)
points-each P options on r p q first last inner closing = go (closes options (opening_of on) r) refl
  where
    go : (x : Bool) → closes options (opening_of on) r ≡ x →
        OfPoints P (cond x (closing_line (held_marker on) r p q) (chunk_line (held_marker on) (held_indent on) r p q))
    go true f =
        let m = held_marker on in
        let text = trim_start r.bytes in
        let at = past_columns (indent r) r p in
        let end = sequence_end on r p in
        let left = drop (run_len m text) text in
        let white = part_over n.SpaceOrTab left end q in
        let Of : Event → Type 0 = λ e. P e.point in
        each-append Of (columns_part (indent r) r p) (closing_part m text at q)
        (columns-points P (indent r) r p first (inner (indent r))) (
          inner (indent r),
          (
            inner (indent r),
            (
              closing f,
              each-append Of white (exit (fence_name m) q ∷ [])
                  (over-points P n.SpaceOrTab left end q (closing f) last) (last, tt),
            ),
          ),
        )
    go false f =
        lost-points P (chunk_name (held_marker on)) (held_indent on) r p q first last (inner (held_indent on))

-- Each begins and ends clear.

further-clear : (options : ParseOptions) (bytes : List ℕ) (on : HeldLeaf) (r : Rest) (p q : Point) →
    is_fence on ≡ true → FurtherAt bytes r p q → clear bytes p ≡ true →
    list_all (is_clear bytes) (further_parts options on r p q) ≡ true
further-clear options bytes on r p q e is begin =
    points-clear bytes (further_parts options on r p q)
    (points-each (λ x. clear bytes x ≡ true) options on r p q begin (whole-clear bytes q is.at.end_whole)
    (λ room.
    left-clear bytes (drop q.index bytes) (lose room r) (past_columns room r p)
    (has-left bytes room r p q is).valid)
    (λ f.
    whole-clear bytes (sequence_end on r p)
    (has-sequence bytes on r p q e (has-closing options bytes on r p q is f)).over.whole))

-- An outline knows their names.
pub further-known : (options : ParseOptions) (bytes : List ℕ) (on : HeldLeaf) (r : Rest) (p q : Point) →
    is_fence on ≡ true → FurtherAt bytes r p q → clear bytes p ≡ true →
    AreKnown bytes (further_parts options on r p q)
further-known options bytes on r p q e is begin = record {
  names =
      parts-each (λ es. list_all has_unlisted_name es ≡ true) refl
      (λ kind name x es e h. and_from (is_unlisted (role name)) (list_all has_unlisted_name es) (known name e) h)
      options on r p q;
  texts = further-clear options bytes on r p q e is begin;
}
  where
    known : (name : Name) → is_inside name ≡ true → is_unlisted (role name) ≡ true
    known = inside-name (λ name. is_unlisted (role name) ≡ true) refl refl refl refl refl refl refl refl
