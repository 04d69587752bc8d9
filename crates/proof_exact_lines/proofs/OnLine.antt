-- A rest that is at a point of the text begins there by the bytes of its line, and is what is read there.
use Rattle.std.proofs.Common.{◌≡◌, ℕ, ◌+◌, ◌-◌, ◌<◌, ◌≤◌, Bool, true, false, ◌&&◌, ◌||◌, List, [], ◌++◌, length, take}
use Rattle.std.proofs.Common.{drop, refl, sym, ap, ◌∙◌, append-nil, arith}
use Rattle.std.specs.Prelude.{◌==◌, nat_lt, replicate}
use Rattle.std.proofs.lemmas.Bool.{eqb-true}
use Rattle.std.proofs.lemmas.Bool.Decides.{nat_tests}
use Rattle.std.proofs.lemmas.List.{append_cancel_right, drop-append-le, drop-drop, drop_at, length-replicate}
use Rattle.std.proofs.lemmas.List.{length-take-le, take-append-drop}
use Rattle.md_engine.specs.declared.event.Point.{Point}
use Rattle.md_meaning.specs.Rest.{Rest, cut_tab, tab_columns}
use Rattle.md_meaning.specs.Texts.{first_byte}
use Rattle.md_events.specs.Events.Places.{columns_before, columns_from}
use Rattle.md_events.proofs.PlacesLemmas.{Placed}
use Rattle.proof_frame.specs.LineColumns.{rest_of}
use Rattle.proof_frame.proofs.IndentRemoved.Columns.{rest-again}
use Rattle.md_events.specs.Exact.Places.{TextLine}
use Rattle.proof_exact_pieces.proofs.OnLine.{LineIn, OnLine}
use Rattle.proof_exact_pieces.proofs.PlaceLemmas.{before, before-is, columns-in, cut_len}
use Rattle.proof_exact_lines.proofs.BeginsAt.{BeginsAt, rest_bytes}

-- so many columns of a tab are fewer than it has
few : (text : List ℕ) (p : Point) → Placed text p → p.vs < tab_columns (columns_before text p.index)
few text p placed = go (p.vs == 0) (first_byte (drop p.index text) == 9) refl placed.within
  where
    go : (x y : Bool) → (p.vs == 0) ≡ x → (x || (y && nat_lt p.vs (tab_columns (columns_before text p.index)))) ≡ true →
        p.vs < tab_columns (columns_before text p.index)
    go true y e h = let none : p.vs ≡ 0 = eqb-true p.vs 0 e in omega (arith, none)
    go false true e h = grind (arith, nat_tests)
    go false false e h = cc

pub on-begins : (text following : List ℕ) (line : TextLine) (r : Rest) (p : Point) → LineIn text following line →
    OnLine text following line r p → BeginsAt line r p
on-begins text following line r p is on = record {
  front = take size line.bytes;
  bytes_are = sym (take-append-drop size line.bytes) ∙ ap (λ (l : List ℕ). take size line.bytes ++ l) left;
  number = on.number;
  index = let long : length (take size line.bytes) ≡ size = length-take-le size line.bytes fits in
      let onward = on.onward in omega (arith, long, onward);
  column = on.valid.column;
  columns = on.placed.column ∙ ap (λ (c : ℕ). c + p.vs + 1) columns;
  cut = on.valid.cut;
  within = let few = few text p on.placed in omega (arith, few, columns);
}
  where
    size : ℕ
    size = p.index - line.index

    index : p.index ≡ line.index + before line r
    index = before-is text following line r p is.valid on.valid on.onward on.placed.index

    fits : size ≤ length line.bytes
    fits = less (cut_len r.spaces) index
      where
        less : (c : ℕ) → p.index ≡ line.index + (length line.bytes - length r.bytes - c) → size ≤ length line.bytes
        less c e = omega (arith, e)

    there : line.index + size ≡ p.index
    there = let onward = on.onward in omega (arith, onward)

    left : drop size line.bytes ≡ cut_tab r.spaces ++ r.bytes
    left =
        append_cancel_right (drop size line.bytes) (cut_tab r.spaces ++ r.bytes) following
        (sym (drop-append-le size line.bytes following fits)
        ∙ ap (drop size) (sym is.valid.text_is)
        ∙ drop-drop size line.index text
        ∙ ap (λ (n : ℕ). drop n text) there
        ∙ on.valid.text_is)

    columns : columns_before text p.index ≡ columns_from line.column (take size line.bytes)
    columns =
        ap (columns_before text) (sym there)
        ∙ columns-in text following line size is.valid is.plain is.begins fits

-- The rest is known by its bytes and the point.
pub begins-again : (line : TextLine) (r : Rest) (p : Point) → BeginsAt line r p → rest_of p (rest_bytes r) ≡ r
begins-again line r p at =
    rest-again (replicate p.index 0 ++ rest_bytes r) [] r p
    (record {
      column = at.column;
      cut = at.cut;
      text_is =
          drop_at (replicate p.index 0) (rest_bytes r) p.index (length-replicate p.index 0)
          ∙ sym (append-nil (rest_bytes r));
    })
