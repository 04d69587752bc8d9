-- What is read of a part is what the table of content has, over the text of its chunks.
use Rattle.std.proofs.Common.{◌≡◌, ◌^◌, ◌+◌, ◌<◌, ◌≤◌, ℕ, zero, suc, false, true, List, [], ◌∷◌, length, get_or, drop}
use Rattle.std.proofs.Common.{Option, refl, sym, ◌∙◌, ap, add-one, drop-cons, arith}
use Rattle.std.proofs.lemmas.List.{drop_all}
use Rattle.md_engine.specs.declared.configuration.ParseOptions.{ParseOptions}
use Rattle.md_engine.specs.declared.resolve.name.Name.{Name as ResolveName}
use Rattle.md_engine.specs.declared.state.State.{State}
use Rattle.md_engine.specs.declared.state.State.TheVariants.{Next}
use Rattle.md_engine.specs.Found.{Found}
use Rattle.md_engine.specs.Meaning.{Accepts, Here, whole_outcome, here}
use Rattle.md_engine.specs.Run.{Flushes, Resolution, Resolved, Runs}
use Rattle.md_engine.specs.Run.Resolved.{More, NoneYet}
use Rattle.md_engine.specs.Scheme.{valid}
use Rattle.md_engine.specs.TextFeed.{text_feed}
use Rattle.md_engine.specs.World.{Setting, World, fresh, reads_to, skipping}
use Rattle.md_content.specs.ContentReads.{content_events, end_of, first_of, settled, skipping_all}
use Rattle.md_content.specs.ContentRule.{content_over}
use Rattle.md_content.specs.States.{ContentStep, content_behaves, content_scheme, content_start}
use Rattle.md_content.proofs.ContentRuns.{content_outcome, content_push}
use Rattle.md_content.proofs.ContentWhole.{over, part-becomes-to}
use Rattle.md_events.specs.declared.inline.Chunk.{Chunk}
use Rattle.md_events.specs.Parts.{AreChunks}
use Rattle.md_events.specs.Spaces.{IsRest}

-- Where a part is read.

pub first-at : (chunks : List Chunk) (d : Chunk) → 0 < length chunks → (get_or chunks 0 d).first ≡ first_of chunks
first-at [] d lt = absurd (omega arith)
first-at (chunk ∷ chunks) d lt = refl

pub end-at : (chunks : List Chunk) (i : ℕ) (d : Chunk) → length chunks ≡ suc i →
    (get_or chunks i d).after.index ≡ end_of chunks
end-at [] i d is = absurd (omega arith)
end-at (chunk ∷ []) zero d is = refl
end-at (chunk ∷ []) (suc i) d is = absurd (omega arith)
end-at (chunk ∷ next ∷ chunks) zero d is = absurd (omega arith)
end-at (chunk ∷ next ∷ chunks) (suc i) d is = end-at (next ∷ chunks) i d (omega arith)

-- a text has so many bytes at most
pub small-at : (bytes : List ℕ) (chunks : List Chunk) (i : ℕ) (d : Chunk) → AreChunks bytes chunks → i < length chunks →
    (get_or chunks i d).after.index < 2 ^ 61
small-at bytes chunks i d are lt = let h = (are.each i d lt).after in omega (arith, h.index, h.sized)

-- skips move the point, and nothing else but themselves
pub skipping-same : (w : World) (chunks : List Chunk) →
    skipping_all w chunks ≡
    record w {
      setting = record w.setting { skips = (skipping_all w chunks).setting.skips };
      point = (skipping_all w chunks).point;
    }
skipping-same w [] = refl
skipping-same w (chunk ∷ chunks) = skipping-same (skipping w chunk.first) chunks

-- one more line is begun
pub skipping-more : (chunks : List Chunk) (i : ℕ) (d : Chunk) (w w' w0 : World) → i < length chunks →
    w' ≡ skipping w (get_or chunks i d).first → skipping_all w (drop i chunks) ≡ w0 →
    skipping_all w' (drop (i + 1) chunks) ≡ w0
skipping-more chunks i d w w' w0 lt is so_far =
    let here : drop i chunks ≡ get_or chunks i d ∷ drop (suc i) chunks = drop-cons chunks i d lt in
    rw (is, add-one i) (ap (skipping_all w) (sym here) ∙ so_far)

-- all lines are begun
skipping-all : (chunks : List Chunk) (i : ℕ) (w w0 : World) → length chunks ≤ i → skipping_all w (drop i chunks) ≡ w0 →
    w ≡ w0
skipping-all chunks i w w0 le is = ap (skipping_all w) (sym (drop_all i chunks le)) ∙ is

-- What is read.

resolved-same : (R : Resolution) (w : World) (names : List ResolveName) (found : Found) (v : World) →
    ((n : ResolveName) (old : World) (m : Option Found) (new : World) → R n old m new → new ≡ old) →
    Resolved R w names found v → v ≡ w
resolved-same R w names found v same NoneYet = refl
resolved-same R w names found v same (More ns n f m v' v'' r step) =
    same n v' m v'' step ∙ resolved-same R w ns f v' same r

-- a part is where it begins
part-valid : (w : World) → IsRest w.scratch → w.frames ≡ [] → valid content_scheme w (Next content_start)
part-valid w rest none = (rest, rw none (record { ok = λ s q t is g r. tt; nok = λ s q t is g. tt }))

-- what is read of a part
pub part-read : (bytes : List ℕ) (options : ParseOptions) (chunks : List Chunk) (i : ℕ) (w w' : World) (end : ℕ)
    (s : State) (R : Resolution) (found : Found) (new : World) →
    length chunks ≤ i → skipping_all w (drop i chunks) ≡ skipping_all (fresh bytes options (first_of chunks)) chunks →
    end ≡ end_of chunks → end < 2 ^ 61 →
    Runs ContentStep false (Next content_start) (reads_to w end) s w' →
    w'.setting ≡ (reads_to w end).setting →
    ((n : ResolveName) (old : World) (m : Option Found) (v : World) → R n old m v → v ≡ old) →
    Flushes ContentStep R s w' true found new →
    settled chunks new.events ≡ content_events bytes options chunks
unfolding content_events
part-read bytes options chunks i w w' end s R found new le skips last small run kept same f =
    let first = fresh bytes options (first_of chunks) in
    let begun : w ≡ skipping_all first chunks = skipping-all chunks i w _ le skips in
    let shape = begun ∙ skipping-same first chunks in
    let frames : w.frames ≡ [] = ap (λ (x : World). x.frames) shape in
    let events : w.events ≡ [] = ap (λ (x : World). x.events) shape in
    let rest : IsRest w.scratch = ap (λ (x : World). x.scratch) shape in
    let on : w.setting.options ≡ options = ap (λ (x : World). x.setting.options) shape in
    let after : w'.setting.options ≡ w.setting.options = ap (λ (x : Setting). x.options) kept in
    let feed = text_feed (reads_to w end).setting in
    let following : Here = over w.setting.options (feed w.point) w in
    let pushed = content_push (Next content_start) s w w' end end small (omega arith)
    (part-valid (reads_to w end) rest frames) run in
    let at_end : whole_outcome (content_behaves w'.setting.options) (text_feed w'.setting) s w' ≡ Accepts following [] =
    ap (λ (o : ParseOptions). whole_outcome (content_behaves o) (text_feed w'.setting) s w') after
    ∙ ap (λ (x : Setting). whole_outcome (content_behaves w.setting.options) (text_feed x) s w') kept ∙ sym pushed.0
    ∙ part-becomes-to w.setting.options feed w frames events in
    let h : following ≡
    here f.at = content_outcome R s w' true found new following (rw kept small) pushed.1 at_end f in
    let resolved : new ≡ record f.at { resolvers = [] } = resolved-same R _ _ _ _ same f.resolved in
    let is : settled chunks (content_over w.setting.options (feed w.point) w.point) ≡
    content_events bytes options chunks =
    ap (λ (o : ParseOptions). settled chunks (content_over o (feed w.point) w.point)) on
    ∙ ap (settled chunks) (place _ _ begun last) in
    ap (λ (x : World). settled chunks x.events) resolved ∙ sym (ap (λ (x : Here). settled chunks x.events) h) ∙ is
  where
    place : (v : World) (m : ℕ) → w ≡ v → end ≡ m →
        content_over options (text_feed (reads_to w end).setting w.point) w.point ≡
        content_over options (text_feed (reads_to v m).setting v.point) v.point
    place v m e f = rw (e, f) refl
