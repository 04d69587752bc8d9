-- The steps of a reader that keeps places: each keeps the relation between its lists and the items that it read.
use Rattle.std.proofs.Common.{◌≡◌, ℕ, ◌+◌, ◌^◌, ◌<◌, ◌≤◌, List, [], ◌∷◌, ◌++◌}
use Rattle.std.proofs.Common.{length, take, drop, refl, ap, sym, ◌∙◌, subst, append_assoc, arith}
use Rattle.std.proofs.lemmas.List.{append-nil, drop_at, length-append, take_at}
use Rattle.md_engine.specs.declared.event.Name.TheVariants as n
use Rattle.md_inline_events.specs.Forest.{Forest, nothing, over, size}
use Rattle.md_inlines.specs.declared.Run.{Run}
use Rattle.md_inlines.specs.Brackets.{text_item}
use Rattle.md_inlines.specs.Emphasis.{Item, read, run}
use Rattle.proof_inlines.specs.Sized.{items_size}
use Rattle.proof_inlines.proofs.EmphasisLemmas.{items-append}
use Rattle.proof_inlines.proofs.SizeLemmas.{over-size}
use Rattle.markdown_inlines.specs.declared.attention.PlacedRun.{PlacedRun}
use Rattle.markdown_inlines.specs.declared.brackets.Bracket.{Bracket}
use Rattle.markdown_inlines.specs.declared.span.Span.{Span}
use Rattle.markdown_inlines.specs.Filled.{Filled, Placed, placed, room}
use Rattle.markdown_inlines.specs.Opened.{Opened, bracket_of, bracket_room, reached}
use Rattle.markdown_inlines.specs.Reading.{Frame, unwound}
use Rattle.markdown_inlines.specs.Spans.{holes, live, spans_forest, write}
use Rattle.markdown_inlines.proofs.SpanLemmas.{filled-append, length-holes, live-holes, moved, spans-over}
use Rattle.markdown_inlines.proofs.SpanLemmas.{write-over}

-- text has no span
pub text-spans : (at len : ℕ) → spans_forest at (over n.Data len nothing) ≡ []
text-spans at len = spans-over at n.Data len nothing

text-size : (len : ℕ) → size (over n.Data len nothing) ≡ len
text-size len = omega (arith, over-size n.Data len nothing)

-- More items are read.
pub push-items : (start : ℕ) (frames : List Frame) (items more : List Item) (brackets : List Bracket)
    (spans own : List Span) (runs new : List PlacedRun) → Opened start frames items brackets spans runs →
    Filled (reached start frames items) (length spans) more own new →
    Opened start frames (items ++ more) brackets (spans ++ own) (runs ++ new)
push-items start [] items more brackets spans own runs new h k = (
  h.0,
  filled-append start 0 items more spans own runs new h.1
      (moved (start + items_size items) (start + items_size items) (length spans) (0 + length spans) more own new refl
      (omega arith) k),
)
push-items start (frame ∷ frames) items more brackets spans own runs new h k = (
  h.0,
  h.1 ++ own,
  h.2,
  h.3 ++ new,
  h.4,
  ap (λ (l : List Span). l ++ own) h.5 ∙ append_assoc h.0 (holes bracket_room ++ h.1) own
      ∙ ap (λ (l : List Span). h.0 ++ l) (append_assoc (holes bracket_room) h.1 own),
  ap (λ (l : List PlacedRun). l ++ new) h.6 ∙ append_assoc h.2 h.3 new,
  h.7,
  h.8,
  h.9,
  filled-append (frame.at + frame.len) (length h.0 + bracket_room) items more h.1 own h.3 new h.10
      (moved (reached start (frame ∷ frames) items) ((frame.at + frame.len) + items_size items)
      (length spans) ((length h.0 + bracket_room) + length h.1) more own new refl
      (let long : length spans ≡ length (h.0 ++ (holes bracket_room ++ h.1)) = ap length h.5 in
      omega (
        arith,
        long,
        length-append h.0 (holes bracket_room ++ h.1),
        length-append (holes bracket_room) h.1,
        length-holes bracket_room,
      )) k),
)

-- what is read has its spans
pub push-read : (start : ℕ) (frames : List Frame) (items : List Item) (forest : Forest) (brackets : List Bracket)
    (spans own : List Span) (runs : List PlacedRun) → Opened start frames items brackets spans runs →
    live own ≡ spans_forest (reached start frames items) forest →
    Opened start frames (items ++ read forest ∷ []) brackets (spans ++ own) runs
push-read start frames items forest brackets spans own runs h k =
    subst (λ (l : List PlacedRun). Opened start frames (items ++ read forest ∷ []) brackets (spans ++ own) l)
    (append-nil runs)
    (push-items start frames items (read forest ∷ []) brackets spans own runs [] h
    (own, [], sym (append-nil own), k, (refl, refl)))

-- a run has its places
pub push-run : (start : ℕ) (frames : List Frame) (items : List Item) (r : Run) (brackets : List Bracket)
    (spans : List Span) (runs : List PlacedRun) → 0 < r.left → Opened start frames items brackets spans runs →
    Opened start frames (items ++ run r ∷ []) brackets (spans ++ holes (room r))
    (runs ++ placed r (reached start frames items) (length spans) ∷ [])
push-run start frames items r brackets spans runs some h =
    push-items start frames items (run r ∷ []) brackets spans (holes (room r)) runs
    (placed r (reached start frames items) (length spans) ∷ []) h
    ([], [], some, sym (append-nil (holes (room r))), refl, (refl, refl))

-- text has none
pub push-text : (start : ℕ) (frames : List Frame) (items : List Item) (len : ℕ) (brackets : List Bracket)
    (spans : List Span) (runs : List PlacedRun) → Opened start frames items brackets spans runs →
    Opened start frames (items ++ text_item len ∷ []) brackets spans runs
push-text start frames items len brackets spans runs h =
    subst (λ (l : List Span). Opened start frames (items ++ text_item len ∷ []) brackets l runs) (append-nil spans)
    (push-read start frames items (over n.Data len nothing) brackets spans [] runs h
    (sym (text-spans (reached start frames items) len)))

-- a bracket keeps places
pub push-bracket : (start : ℕ) (frames : List Frame) (frame : Frame) (brackets : List Bracket) (spans : List Span)
    (runs : List PlacedRun) → frame.at ≡ reached start frames frame.items →
    Opened start frames frame.items brackets spans runs →
    Opened start (frame ∷ frames) [] (bracket_of frame spans runs ∷ brackets) (spans ++ holes bracket_room) runs
push-bracket start frames frame brackets spans runs at h = (
  spans,
  [],
  runs,
  [],
  brackets,
  ap (λ (l : List Span). spans ++ l) (sym (append-nil (holes bracket_room))),
  sym (append-nil runs),
  refl,
  at,
  h,
  (refl, refl),
)

-- a bracket that is text, and what follows it
text-before : (at place len : ℕ) (items : List Item) (kept : ℕ) (spans : List Span) (runs : List PlacedRun) →
    Filled (at + len) (place + kept) items spans runs →
    Filled at place (text_item len ∷ items) (holes kept ++ spans) runs
text-before at place len items kept spans runs h = (
  holes kept,
  spans,
  refl,
  live-holes kept ∙ sym (text-spans at len),
  moved (at + len) (at + size (over n.Data len nothing)) (place + kept) (place + length (holes kept)) items spans runs
      (omega (arith, text-size len)) (omega (arith, length-holes kept)) h,
)

-- the innermost bracket is text
pub unwound-one : (start : ℕ) (frames : List Frame) (frame : Frame) (items : List Item) (brackets : List Bracket)
    (spans : List Span) (runs : List PlacedRun) (h : Opened start (frame ∷ frames) items brackets spans runs) →
    Opened start frames (frame.items ++ text_item frame.len ∷ items) h.4 spans runs
unwound-one start frames frame items brackets spans runs h =
    subst (λ (l : List PlacedRun). Opened start frames (frame.items ++ text_item frame.len ∷ items) h.4 spans l)
    (sym h.6)
    (subst
    (λ (l : List Span). Opened start frames (frame.items ++ text_item frame.len ∷ items) h.4 l (h.2 ++ h.3))
    (sym h.5)
    (push-items start frames frame.items (text_item frame.len ∷ items) h.4 h.0 (holes bracket_room ++ h.1) h.2 h.3
    h.9
    (moved frame.at (reached start frames frame.items) (length h.0) (length h.0) (text_item frame.len ∷ items)
    (holes bracket_room ++ h.1) h.3 h.8 refl
    (text-before frame.at (length h.0) frame.len items bracket_room h.1 h.3 h.10))))

-- all that are open are
pub unwound-filled : (start : ℕ) (frames : List Frame) (items : List Item) (brackets : List Bracket)
    (spans : List Span) (runs : List PlacedRun) → Opened start frames items brackets spans runs →
    Filled start 0 (unwound frames items) spans runs
unwound-filled start [] items brackets spans runs h = h.1
unwound-filled start (frame ∷ frames) items brackets spans runs h =
    unwound-filled start frames (frame.items ++ text_item frame.len ∷ items) h.4 spans runs
    (unwound-one start frames frame items brackets spans runs h)

-- Equal first brackets, and equal others.

pub first-bracket : (a b : Bracket) (xs ys : List Bracket) → a ∷ xs ≡ b ∷ ys → a ≡ b
first-bracket a b xs ys h = cc

pub other-brackets : (a b : Bracket) (xs ys : List Bracket) → a ∷ xs ≡ b ∷ ys → xs ≡ ys
other-brackets a b xs ys h = cc

-- A bracket is closed, and is text: nothing is written.
pub close-text : (start : ℕ) (frames : List Frame) (frame : Frame) (items : List Item) (bracket : Bracket)
    (others : List Bracket) (spans : List Span) (runs : List PlacedRun) →
    Opened start (frame ∷ frames) items (bracket ∷ others) spans runs →
    Opened start frames (frame.items ++ (text_item frame.len ∷ items ++ text_item 1 ∷ [])) others spans runs
close-text start frames frame items bracket others spans runs h =
    subst (λ (l : List Bracket). Opened start frames all l spans runs)
    (sym (other-brackets bracket (bracket_of frame h.0 h.2) others h.4 h.7))
    (subst (λ (l : List Item). Opened start frames l h.4 spans runs)
    (append_assoc frame.items (text_item frame.len ∷ items) (text_item 1 ∷ []))
    (push-text start frames (frame.items ++ text_item frame.len ∷ items) 1 h.4 spans runs
    (unwound-one start frames frame items (bracket ∷ others) spans runs h)))
  where
    all : List Item
    all = frame.items ++ (text_item frame.len ∷ items ++ text_item 1 ∷ [])

-- A bracket is closed, and is no text: what is between is final, its places are written, and what ends it is added.
pub close-pair : (start : ℕ) (frames : List Frame) (frame : Frame) (items : List Item) (bracket : Bracket)
    (others : List Bracket) (spans : List Span) (runs : List PlacedRun) (forest : Forest) (own tail news : List Span)
    (h : Opened start (frame ∷ frames) items (bracket ∷ others) spans runs) → length news ≡ bracket_room →
    live (news ++ (own ++ tail)) ≡ spans_forest frame.at forest → (all : List Span) →
    all ≡ ((h.0 ++ holes bracket_room) ++ own) ++ tail →
    Opened start frames (frame.items ++ read forest ∷ []) others (write bracket.place news all)
    (take bracket.runs runs)
close-pair start frames frame items bracket others spans runs forest own tail news h few shown all all-is =
    subst
    (λ (l : List Bracket). Opened start frames (frame.items ++ read forest ∷ []) l (write bracket.place news all)
    (take bracket.runs runs))
    (sym (other-brackets bracket (bracket_of frame h.0 h.2) others h.4 h.7))
    (subst
    (λ (l : List PlacedRun). Opened start frames (frame.items ++ read forest ∷ []) h.4
    (write bracket.place news all) l)
    (sym runs-is)
    (subst (λ (l : List Span). Opened start frames (frame.items ++ read forest ∷ []) h.4 l h.2) (sym written)
    (push-read start frames frame.items forest h.4 h.0 (news ++ (own ++ tail)) h.2 h.9
    (shown ∙ ap (λ (at : ℕ). spans_forest at forest) h.8))))
  where
    is : bracket ≡ bracket_of frame h.0 h.2
    is = first-bracket bracket (bracket_of frame h.0 h.2) others h.4 h.7

    place-is : bracket.place ≡ length h.0
    place-is = ap (λ (b : Bracket). b.place) is

    runs-is : take bracket.runs runs ≡ h.2
    runs-is =
        ap (λ (b : Bracket). take b.runs runs) is ∙ ap (take (length h.2)) h.6
        ∙ take_at h.2 h.3 (length h.2) refl

    apart : (f a o t : List Span) → ((f ++ a) ++ o) ++ t ≡ f ++ (a ++ (o ++ t))
    apart f a o t = grind (arith, append_assoc)

    written : write bracket.place news all ≡ h.0 ++ (news ++ (own ++ tail))
    written =
        ap (write bracket.place news) (all-is ∙ apart h.0 (holes bracket_room) own tail)
        ∙ write-over h.0 (holes bracket_room) news (own ++ tail) bracket.place
        (length-holes bracket_room ∙ sym few) place-is

-- Where listed runs are.

pub filled-placed : (count at place : ℕ) (items : List Item) (spans : List Span) (runs : List PlacedRun) →
    Filled at place items spans runs → at + items_size items < 2 ^ 64 → place + length spans ≤ count →
    Placed count runs
filled-placed count at place [] spans runs h k l = subst (Placed count) (sym h.1) tt
filled-placed count at place (read forest ∷ items) spans runs h k l =
    filled-placed count (at + size forest) (place + length h.0) items h.1 runs h.4 (omega (arith, k))
    (let long : length spans ≡ length (h.0 ++ h.1) = ap length h.2 in omega (arith, long, length-append h.0 h.1, l))
filled-placed count at place (run r ∷ items) spans runs h k l =
    let long : length spans ≡ length (holes (room r) ++ h.0) = ap length h.3 in
    subst (Placed count) (sym h.4) (
      h.2,
      omega (arith, long, length-append (holes (room r)) h.0, length-holes (room r), l),
      omega (arith, k),
      filled-placed count (at + r.left) (place + room r) items h.0 h.1 h.5 (omega (arith, k))
          (omega (arith, long, length-append (holes (room r)) h.0, length-holes (room r), l)),
    )

-- those in a bracket
pub opened-placed : (start : ℕ) (frames : List Frame) (frame : Frame) (items : List Item) (bracket : Bracket)
    (others : List Bracket) (spans : List Span) (runs : List PlacedRun) →
    Opened start (frame ∷ frames) items (bracket ∷ others) spans runs →
    reached start (frame ∷ frames) items < 2 ^ 64 →
    (bracket.runs ≤ length runs) × Placed (length spans) (drop bracket.runs runs)
opened-placed start frames frame items bracket others spans runs h k = (
  let all : length runs ≡ length (h.2 ++ h.3) = ap length h.6 in
      omega (arith, before, all, length-append h.2 h.3),
  subst (Placed (length spans))
      (sym
      (ap (λ (i : ℕ). drop i runs) before ∙ ap (drop (length h.2)) h.6 ∙ drop_at h.2 h.3 (length h.2) refl))
      (filled-placed (length spans) (frame.at + frame.len) (length h.0 + bracket_room) items h.1 h.3 h.10 k
      (let long : length spans ≡ length (h.0 ++ (holes bracket_room ++ h.1)) = ap length h.5 in
      omega (
        arith,
        long,
        length-append h.0 (holes bracket_room ++ h.1),
        length-append (holes bracket_room) h.1,
        length-holes bracket_room,
      ))),
)
  where
    before : bracket.runs ≡ length h.2
    before =
        ap (λ (b : Bracket). b.runs) (first-bracket bracket (bracket_of frame h.0 h.2) others h.4 h.7)

-- where the reader is after more items
pub reached-append : (start : ℕ) (frames : List Frame) (xs ys : List Item) →
    reached start frames (xs ++ ys) ≡ reached start frames xs + items_size ys
reached-append start [] xs ys = omega (arith, items-append xs ys)
reached-append start (frame ∷ frames) xs ys = omega (arith, items-append xs ys)

pub text-long : (len : ℕ) → items_size (text_item len ∷ []) ≡ len
text-long len = omega (arith, text-size len)
