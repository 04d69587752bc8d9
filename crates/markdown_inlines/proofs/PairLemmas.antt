-- What is written where two runs pair makes the spans of the pair's part.
use Rattle.std.proofs.Common.{◌≡◌, ℕ, ◌+◌, ◌-◌, ◌*◌, ◌<◌, ◌≤◌, Bool, true, false, cond, List, [], ◌∷◌, ◌++◌}
use Rattle.std.proofs.Common.{length, refl, ap, sym, ◌∙◌, append_assoc, arith}
use Rattle.std.specs.Prelude.{nat_lt}
use Rattle.std.proofs.lemmas.Bool.Decides.{nat_tests}
use Rattle.std.proofs.lemmas.List.{append-nil, length-append}
use Rattle.md_inline_events.specs.Forest.{Forest, size}
use Rattle.md_inlines.specs.declared.Run.{Run}
use Rattle.md_inlines.specs.Atoms.{is_data}
use Rattle.md_inlines.specs.Emphasis.{Item, enclosed, level, run, shorter}
use Rattle.proof_inlines.specs.Sized.{items_size}
use Rattle.markdown_inlines.specs.declared.attention.Names.{Names}
use Rattle.markdown_inlines.specs.declared.attention.PlacedRun.{PlacedRun}
use Rattle.markdown_inlines.specs.declared.span.Span.{Span}
use Rattle.markdown_inlines.specs.Filled.{Filled, end_spans, fill_pair, pair_spans, placed, room, shorter_run, width}
use Rattle.markdown_inlines.specs.Spans.{holes, live, spans_forest, write}
use Rattle.markdown_inlines.proofs.SpanLemmas.{enclosed-size, filled-level, holes-append, length-holes, level-size}
use Rattle.markdown_inlines.proofs.SpanLemmas.{live-enclosed, spans-at, write-over}

none-left : (left : ℕ) (x : Bool) → left ≡ 0 → holes (left * width x) ≡ []
none-left left true h = let none : left * 3 ≡ 0 = omega (arith, h) in ap holes none
none-left left false h = let none : left * 1 ≡ 0 = omega (arith, h) in ap holes none

-- what is left of a run keeps the places of its bytes
pub shorter-filled : (at place : ℕ) (r : Run) (count : ℕ) → count ≤ r.left →
    Filled at place (shorter count r) (holes ((r.left - count) * width r.opens)) (shorter_run r count at place)
    × (items_size (shorter count r) + count ≡ r.left)
shorter-filled at place r count h = go (nat_lt count r.left) refl
  where
    rest : Run
    rest =
        record { mark = r.mark; size = r.size; left = r.left - count; opens = r.opens; closes = r.closes }

    go : (x : Bool) → nat_lt count r.left ≡ x →
        Filled at place (cond x (run rest ∷ []) []) (holes ((r.left - count) * width r.opens))
        (cond x (placed rest at place ∷ []) [])
        × (items_size (cond x (run rest ∷ []) []) + count ≡ r.left)
    go true is =
        let some : count < r.left = grind (arith, nat_tests) in (
          (
            [],
            [],
            omega (arith, some),
            sym (append-nil (holes ((r.left - count) * width r.opens))),
            refl,
            (refl, refl),
          ),
          omega (arith, some),
        )
    go false is =
        let same : r.left ≤ count = grind (arith, nat_tests) in
        let zero_left : r.left - count ≡ 0 = omega (arith, same) in
        ((none-left (r.left - count) r.opens zero_left, refl), omega (arith, h, same))

-- the places of the bytes that are left, and of those that a pair takes
opener-room : (left count : ℕ) (x : Bool) → x ≡ true → count ≤ left → 0 < count →
    left * width x ≡ (left - count) * width x + (3 + (count * 3 - 3))
opener-room left count true is h k = omega (arith, h, k)
opener-room left count false is h k = cc

closer-room : (left count : ℕ) (x : Bool) → count ≤ left → 0 < count →
    left * width x ≡ 1 + ((count * width x - 1) + (left - count) * width x)
closer-room left count true h k = omega (arith, h, k)
closer-room left count false h k = omega (arith, h, k)

taken-room : (count : ℕ) (x : Bool) → 0 < count → count * width x ≡ 1 + (count * width x - 1)
taken-room count true h = omega (arith, h)
taken-room count false h = omega (arith, h)

before-first : (f a t k m o j b r : List Span) →
    f ++ ((a ++ (t ++ k)) ++ (m ++ ((o ++ (j ++ b)) ++ r))) ≡
    (f ++ a) ++ (t ++ (k ++ (m ++ (o ++ (j ++ (b ++ r))))))
before-first f a t k m o j b r = grind (arith, append_assoc)

before-last : (f a p k m r : List Span) →
    (f ++ a) ++ (p ++ (k ++ (m ++ r))) ≡ ((((f ++ a) ++ p) ++ k) ++ m) ++ r
before-last f a p k m r = grind (arith, append_assoc)

after-last : (f a p k m e j b r : List Span) →
    ((((f ++ a) ++ p) ++ k) ++ m) ++ (e ++ (j ++ (b ++ r))) ≡
    f ++ (a ++ (((p ++ k) ++ (m ++ (e ++ j))) ++ (b ++ r)))
after-last f a p k m e j b r = grind (arith, append_assoc)

-- What is written for a pair whose opener begins at a byte, after some spans: a list of its own, which shows the pair.
pub record Filling (b : ℕ) (names : Names) (count : ℕ) (opener closer : Run) (between : List Item) (f m r : List Span) :
    Type 0 where
  pub own : List Span
  pub same : fill_pair names count (b + (opener.left - count)) ((b + opener.left) + items_size between)
      (length f + (opener.left - count) * width opener.opens) ((length f + room opener) + length m)
      (f ++ (holes (room opener) ++ (m ++ (holes (room closer) ++ r)))) ≡
      f
      ++ (holes ((opener.left - count) * width opener.opens)
      ++ (own ++ (holes ((closer.left - count) * width closer.opens) ++ r)))
  pub shows : live own ≡
      spans_forest (b + (opener.left - count)) (enclosed names.whole names.sequence names.text count (level between))
  pub sized : size (enclosed names.whole names.sequence names.text count (level between)) ≡
      count + (items_size between + count)
  pub long : (opener.left - count) * width opener.opens + length own ≡
      (room opener + length m) + count * width closer.opens
  pub room_same : room closer ≡ count * width closer.opens + (closer.left - count) * width closer.opens

pub pair-core : (b place : ℕ) (names : Names) (c : ℕ) (opener closer : Run) (between : List Item) (f m r : List Span)
    (runs : List PlacedRun) → is_data names.sequence ≡ false → 0 < c → opener.opens ≡ true → c ≤ opener.left →
    c ≤ closer.left → Filled (b + opener.left) place between m runs → Filling b names c opener closer between f m r
pair-core b place names c opener closer between f m r runs marked some opens long longer mids =
    record {
      own = own;
      same = all-written;
      shows = own-live;
      sized = marks-size;
      long = omega (arith, own-long, opener-long, closer-long);
      room_same = omega (arith, closer-long);
    }
  where
    start : ℕ
    start = b + (opener.left - c)

    close_at : ℕ
    close_at = (b + opener.left) + items_size between

    inside : Forest
    inside = level between

    marks : Forest
    marks = enclosed names.whole names.sequence names.text c inside

    -- the places
    ka : ℕ
    ka = (opener.left - c) * width opener.opens

    k : ℕ
    k = c * 3 - 3

    j : ℕ
    j = c * width closer.opens - 1

    kb : ℕ
    kb = (closer.left - c) * width closer.opens

    opener-holes : holes (room opener) ≡ holes ka ++ (holes 3 ++ holes k)
    opener-holes =
        holes-append ka (3 + k) (room opener) (opener-room opener.left c opener.opens opens long some)
        ∙ ap (λ (l : List Span). holes ka ++ l) (holes-append 3 k (3 + k) refl)

    closer-holes : holes (room closer) ≡ holes 1 ++ (holes j ++ holes kb)
    closer-holes =
        holes-append 1 (j + kb) (room closer) (closer-room closer.left c closer.opens longer some)
        ∙ ap (λ (l : List Span). holes 1 ++ l) (holes-append j kb (j + kb) refl)

    opener-long : room opener ≡ ka + (3 + k)
    opener-long = opener-room opener.left c opener.opens opens long some

    closer-long : (room closer ≡ 1 + (j + kb)) × (c * width closer.opens ≡ 1 + j)
    closer-long = (closer-room closer.left c closer.opens longer some, taken-room c closer.opens some)

    -- what is written
    p : List Span
    p = pair_spans names c start close_at

    e : List Span
    e = end_spans names c close_at

    own : List Span
    own = (p ++ holes k) ++ (m ++ (e ++ holes j))

    own-long : length own ≡ (3 + k) + (length m + (1 + j))
    own-long =
        omega (
          arith,
          length-append (p ++ holes k) (m ++ (e ++ holes j)),
          length-append p (holes k),
          length-append m (e ++ holes j),
          length-append e (holes j),
          length-holes k,
          length-holes j,
        )

    marks-size : size marks ≡ c + (items_size between + c)
    marks-size =
        omega (arith, enclosed-size names.whole names.sequence names.text c inside, level-size between)

    own-live : live own ≡ spans_forest start marks
    own-live =
        live-enclosed start names c inside close_at k j m marked (omega (arith, level-size between, long))
        (filled-level (b + opener.left) place between m runs mids
        ∙ spans-at inside (b + opener.left) (start + c) (omega (arith, long)))

    open_place : ℕ
    open_place = length f + ka

    end_place : ℕ
    end_place = (length f + room opener) + length m

    spans : List Span
    spans = f ++ (holes (room opener) ++ (m ++ (holes (room closer) ++ r)))

    written : List Span
    written = fill_pair names c start close_at open_place end_place spans

    rest : List Span
    rest = holes j ++ (holes kb ++ r)

    front-written : write open_place p spans ≡ ((((f ++ holes ka) ++ p) ++ holes k) ++ m) ++ (holes 1 ++ rest)
    front-written =
        ap (write open_place p)
        (ap (λ (l : List Span). f ++ (l ++ (m ++ (holes (room closer) ++ r)))) opener-holes
        ∙ ap (λ (l : List Span). f ++ ((holes ka ++ (holes 3 ++ holes k)) ++ (m ++ (l ++ r)))) closer-holes
        ∙ before-first f (holes ka) (holes 3) (holes k) m (holes 1) (holes j) (holes kb) r)
        ∙ write-over (f ++ holes ka) (holes 3) p (holes k ++ (m ++ (holes 1 ++ rest))) open_place (length-holes 3)
        (omega (arith, length-append f (holes ka), length-holes ka))
        ∙ before-last f (holes ka) p (holes k) m (holes 1 ++ rest)

    all-written : written ≡ f ++ (holes ka ++ (own ++ (holes kb ++ r)))
    all-written =
        ap (write end_place e) front-written
        ∙ write-over ((((f ++ holes ka) ++ p) ++ holes k) ++ m) (holes 1) e rest end_place (length-holes 1)
        (omega (
          arith,
          length-append (((f ++ holes ka) ++ p) ++ holes k) m,
          length-append ((f ++ holes ka) ++ p) (holes k),
          length-append (f ++ holes ka) p,
          length-append f (holes ka),
          length-holes ka,
          length-holes k,
          opener-long,
        ))
        ∙ after-last f (holes ka) p (holes k) m e (holes j) (holes kb) r
