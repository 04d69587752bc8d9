-- The cells of a text follow it, and what a whole run becomes.
use Rattle.std.proofs.Common.{◌≡◌, ℕ, zero, suc, ◌^◌, ◌<◌, ◌≤◌, Bool, true, false, cond, nat_lt, List, [], ◌∷◌, length}
use Rattle.std.proofs.Common.{refl, sym, ◌∙◌, ap, arith}
use Rattle.std.proofs.lemmas.Bool.Decides.{nat_tests}
use Rattle.md_engine.specs.declared.event.Point.{Point}
use Rattle.md_engine.specs.declared.state.State.{State}
use Rattle.md_engine.specs.declared.tokenizer.Frame.{Frame}
use Rattle.md_engine.specs.Found.{Found}
use Rattle.md_engine.specs.Meaning.{Behaviour, Cell, Feed, Follows, whole_outcome, proceeds, here, line_of, resume_all}
use Rattle.md_engine.specs.Place.{seen_at}
use Rattle.md_engine.specs.Run.{Flushes, Resolution, Step, plain}
use Rattle.md_engine.specs.Scheme.{Scheme, cells_left, valid}
use Rattle.md_engine.specs.Situation.{MeansAt, KeepsValid}
use Rattle.md_engine.specs.TextFeed.{cells_from, text_feed}
use Rattle.md_engine.specs.World.{Setting, World, after}
use Rattle.md_engine.proofs.Points.{cells-fall}
use Rattle.md_engine.proofs.Situation.{runs-mean}

abbrev cell_at : Setting → Point → Cell
cell_at x p = record { byte = seen_at x.bytes p; after = after x p; line = x.line }

none-left : (x : Setting) (p : Point) → cells_left x.limit p ≤ 0 → nat_lt p.index x.limit ≡ false
none-left x p le = let past : x.limit ≤ p.index = omega arith in grind (arith, nat_tests, past)

-- more than there are change nothing
enough : (x : Setting) (n m : ℕ) (p : Point) → cells_left x.limit p ≤ n → cells_left x.limit p ≤ m →
    cells_from x n p ≡ cells_from x m p
enough x zero zero p a b = refl
enough x zero (suc m) p a b = rw (none-left x p a) refl
enough x (suc n) zero p a b = rw (none-left x p b) refl
enough x (suc n) (suc m) p a b =
    go (nat_lt p.index x.limit) refl
    (λ lt. let fall = cells-fall x p lt in enough x n m (after x p) (omega (arith, fall)) (omega (arith, fall)))
  where
    go : (t : Bool) → nat_lt p.index x.limit ≡ t →
        (p.index < x.limit → cells_from x n (after x p) ≡ cells_from x m (after x p)) →
        cells_from x (suc n) p ≡ cells_from x (suc m) p
    go false e same = rw e refl
    go true e same =
        let lt : p.index < x.limit = grind (arith, nat_tests) in
        rw e (ap (λ (l : List Cell). cell_at x p ∷ l) (same lt))

one-more : (x : Setting) (n : ℕ) (p : Point) → p.index < x.limit →
    cells_from x (suc n) p ≡ cell_at x p ∷ cells_from x n (after x p)
one-more x n p lt = let here' : nat_lt p.index x.limit ≡ true = grind (arith, nat_tests) in rw here' refl

cells-next : (x : Setting) (p : Point) → p.index < x.limit → text_feed x p ≡ cell_at x p ∷ text_feed x (after x p)
unfolding text_feed
cells-next x p lt =
    let fall = cells-fall x p lt in
    enough x (cells_left x.limit p) (suc (cells_left x.limit p)) p (omega arith) (omega arith)
    ∙ one-more x (cells_left x.limit p) p lt
    ∙ ap (λ (l : List Cell). cell_at x p ∷ l)
    (enough x (cells_left x.limit p) (cells_left x.limit (after x p)) (after x p) (omega (arith, fall))
    (omega arith))

cells-none : (x : Setting) (p : Point) → x.limit ≤ p.index → text_feed x p ≡ []
unfolding text_feed
cells-none x p le = go (cells_left x.limit p)
  where
    past : nat_lt p.index x.limit ≡ false
    past = grind (arith, nat_tests)

    go : (n : ℕ) → cells_from x n p ≡ []
    go zero = refl
    go (suc n) = rw past refl

cells-most : (x : Setting) (n : ℕ) (p : Point) → length (cells_from x n p) ≤ n
cells-most x zero p = omega arith
cells-most x (suc n) p = go (nat_lt p.index x.limit) (cells-most x n (after x p))
  where
    go : (t : Bool) → length (cells_from x n (after x p)) ≤ n →
        length
        (cond t
        (record { byte = seen_at x.bytes p; after = after x p; line = x.line } ∷ cells_from x n (after x p)) []) ≤
        suc n
    go true h = omega arith
    go false h = omega arith

cells-short : (x : Setting) (p : Point) → x.limit < 2 ^ 61 → length (text_feed x p) < 2 ^ 63
unfolding text_feed
cells-short x p lt = let most = cells-most x (cells_left x.limit p) p in omega (arith, most)

-- the cells of a text follow it while less of it may be read, and at its end
pub text-follows : (x : Setting) (limit : ℕ) (is_end : Bool) → x.limit < 2 ^ 61 → limit ≤ x.limit →
    (is_end ≡ true → limit ≡ x.limit) → Follows (text_feed x) (record x { limit = limit }) is_end
text-follows x limit is_end small le end = record {
  cell =
      λ p lt. let next = cells-next x p (omega arith) in
      next
      ∙ ap (λ (c : Cell). c ∷ text_feed x (after x p))
      (ap
      (λ (l : List Cell).
      let c : Cell = record { byte = seen_at x.bytes p; after = after x p; line = line_of x.line l } in c)
      (sym next));
  short = λ p. cells-short x p small;
  said = λ p start lt. ap (line_of x.line) (cells-next x p (omega arith));
  none = λ e p past. cells-none x p (let same = end e in omega arith);
}

-- what a tokenizer becomes is where it has become at the end
pub flush-means : (T : Step) (R : Resolution) (S : Scheme) (B : Behaviour) (feed : Feed) (s : State) (w : World)
    (resolve : Bool) (found : Found) (new : World) →
    MeansAt T S w.setting B true → KeepsValid T S → Follows feed w.setting true → valid S w (plain s) →
    (f : Flushes T R s w resolve found new) → whole_outcome B feed s w ≡ proceeds B f.end (feed f.at.point) (here f.at)
flush-means T R S B feed s w resolve found new m on follows at f =
    (runs-mean T S B true feed s w m on follows at f.end f.at f.runs).0
    ∙ ap (λ (x : List Frame). resume_all B feed f.at.events x
    (proceeds B f.end (feed f.at.point) (here f.at))) f.none_left
