-- The items of a text are over each of its bytes once, whatever atoms and targets are, if these are at its front.
use Rattle.std.proofs.Common.{◌≡◌, ℕ, zero, suc, ◌+◌, ◌-◌, ◌<◌, ◌≤◌, Bool, true, false, cond, ◌&&◌, List, [], ◌∷◌, ◌++◌}
use Rattle.std.proofs.Common.{length, take, drop, refl, ap, sym, ◌∙◌, subst, arith}
use Rattle.std.specs.Prelude.{◌==◌, ◌||◌, not, Option, Some, None, option_map}
use Rattle.std.proofs.lemmas.Bool.{and_parts}
use Rattle.std.proofs.lemmas.Bool.Decides.{nat_tests}
use Rattle.std.proofs.lemmas.List.{length-drop, length-take-le}
use Rattle.std.proofs.lemmas.List.Sums.{prefix_len-le-length}
use Rattle.md_engine.specs.declared.event.Name.TheVariants as n
use Rattle.md_meaning.specs.Ascii.{caret, left_bracket, right_bracket}
use Rattle.md_meaning.specs.Lines.{begins_with}
use Rattle.md_meaning.specs.Rest.{run_len}
use Rattle.md_inline_events.specs.Forest.{Forest, has_names, nothing, over, part, size}
use Rattle.md_inlines.specs.Flanking.{run_at}
use Rattle.md_inlines.specs.declared.InlineOptions.{InlineOptions}
use Rattle.md_inlines.specs.Atoms.{atom, byte}
use Rattle.md_inlines.specs.Brackets.{Front, Level, Pair, bracket_level, closes, content, front, front_level, is_atom}
use Rattle.md_inlines.specs.Brackets.{is_mark, is_run, is_text, leading, opening, opens, pair, text_item, with_items}
use Rattle.md_inlines.specs.Emphasis.{Item, emphasis, read, run}
use Rattle.md_inlines.specs.Targets.{call, image, is_call, label_end, link, target}
use Rattle.proof_inlines.specs.Sized.{Good, IsFront, Over, items_size}
use Rattle.proof_inlines.proofs.EmphasisLemmas.{emphasis-over, good-append, items-append}
use Rattle.proof_inlines.proofs.ContentForests.{nothing-over, over-over, own, part-over, same-over}

-- Links, images and calls.

end-over : Over label_end 1
end-over = record { sized = refl; names = refl }

link-over : (inside leads : Forest) (k m : ℕ) → Over inside k → Over leads m →
    Over (link inside leads) (1 + (k + 1) + m)
link-over inside leads k m i l =
    let text : Over (part n.LabelText inside label_end) (k + 1) =
    part-over n.LabelText inside label_end k 1 refl i end-over in
    let mark : Over (byte n.LabelMarker nothing) 1 = record { sized = refl; names = refl } in
    let label : Over (part n.LabelLink (byte n.LabelMarker nothing) (part n.LabelText inside label_end)) (1 + (k + 1)) =
    part-over n.LabelLink (byte n.LabelMarker nothing) (part n.LabelText inside label_end) 1 (k + 1) refl mark text in
    let both = part-over n.Label (part n.LabelLink (byte n.LabelMarker nothing) (part n.LabelText inside label_end))
    leads
    (1 + (k + 1)) m refl label l in
    same-over (link inside leads) (1 + (k + 1) + m + 0) (1 + (k + 1) + m) (omega arith)
    (part-over n.Link
    (part n.Label (part n.LabelLink (byte n.LabelMarker nothing) (part n.LabelText inside label_end)) leads) nothing
    (1 + (k + 1) + m) 0 refl both nothing-over)

image-over : (inside leads : Forest) (k m : ℕ) → Over inside k → Over leads m →
    Over (image inside leads) (2 + (k + 1) + m)
image-over inside leads k m i l =
    let text : Over (part n.LabelText inside label_end) (k + 1) =
    part-over n.LabelText inside label_end k 1 refl i end-over in
    let marks : Forest = byte n.LabelImageMarker (byte n.LabelMarker nothing) in
    let mark : Over marks 2 = record { sized = refl; names = refl } in
    let label : Over (part n.LabelImage marks (part n.LabelText inside label_end)) (2 + (k + 1)) =
    part-over n.LabelImage marks (part n.LabelText inside label_end) 2 (k + 1) refl mark text in
    let both = part-over n.Label (part n.LabelImage marks (part n.LabelText inside label_end)) leads (2 + (k + 1)) m
    refl
    label l in
    same-over (image inside leads) (2 + (k + 1) + m + 0) (2 + (k + 1) + m) (omega arith)
    (part-over n.Image (part n.Label (part n.LabelImage marks (part n.LabelText inside label_end)) leads) nothing
    (2 + (k + 1) + m) 0 refl both nothing-over)

call-over : (len : ℕ) → Over (call len) (len + 3)
call-over len =
    let plain : Over (over n.Data len nothing) (len + 0) = over-over n.Data len nothing 0 refl nothing-over in
    let text : Over (part n.LabelText (over n.Data len nothing) label_end) (len + 0 + 1) =
    part-over n.LabelText (over n.Data len nothing) label_end (len + 0) 1 refl plain end-over in
    let marks : Forest = byte n.LabelMarker (byte n.GfmFootnoteCallMarker nothing) in
    let mark : Over marks 2 = record { sized = refl; names = refl } in
    let label = part-over n.GfmFootnoteCallLabel marks (part n.LabelText (over n.Data len nothing) label_end) 2
    (len + 0 + 1) refl mark text in
    let held : Forest = part n.GfmFootnoteCallLabel marks (part n.LabelText (over n.Data len nothing) label_end) in
    let both = part-over n.Label held nothing (2 + (len + 0 + 1)) 0 refl label nothing-over in
    same-over (call len) (2 + (len + 0 + 1) + 0 + 0) (len + 3) (omega arith)
    (part-over n.GfmFootnoteCall (part n.Label held nothing) nothing (2 + (len + 0 + 1) + 0) 0 refl both nothing-over)

-- A level over a text: its items are over what is before its rest. Outside of brackets nothing is left.
pub record Fine (inside : Bool) (count : ℕ) (level : Level) : Type 0 where
  pub sized : items_size level.items + length level.rest ≡ count
  pub good : Good level.items
  pub ended : inside ≡ false → level.rest ≡ []

with-fine : (inside : Bool) (items : List Item) (links : Bool) (level : Level) (count total : ℕ) → Good items →
    items_size items + count ≡ total → Fine inside count level → Fine inside total (with_items items links level)
with-fine inside items links level count total g h f = record {
  sized = omega (arith, h, f.sized, items-append items level.items);
  good = good-append items level.items g f.good;
  ended = f.ended;
}

same-fine : (inside : Bool) (n m : ℕ) (level : Level) → n ≡ m → Fine inside n level → Fine inside m level
same-fine inside n m level same f = record { sized = f.sized ∙ same; good = f.good; ended = f.ended }

text-good : (len : ℕ) → has_names (over n.Data len nothing) ≡ true
text-good len = (over-over n.Data len nothing 0 refl nothing-over).names

text-size : (len : ℕ) → size (over n.Data len nothing) ≡ len
text-size len =
    let is = (over-over n.Data len nothing 0 refl nothing-over).sized in omega (arith, is)

-- What is known of a front.
abbrev FrontIs : Bool → List ℕ → Front → Type 0
FrontIs inside text (is_atom found) = IsFront text found
FrontIs inside text (is_run r) = (0 < r.left) × (r.left ≤ length text)
FrontIs inside text is_text = Unit {0}
FrontIs inside text closes = inside ≡ true
FrontIs inside text (opens len) = (0 < len) × (len ≤ 2) × (len ≤ length text)

run-left : (mark : ℕ) (before text : List ℕ) → (run_at mark before text).left ≡ run_len mark text
unfolding run_at
run-left mark before text = refl

run-some : (b : ℕ) (text : List ℕ) → 0 < run_len b (b ∷ text)
run-some b text = go (b == b) (grind (arith, nat_tests))
  where
    go : (t : Bool) → t ≡ true → 0 < cond t (1 + run_len b text) 0
    go true e = omega arith
    go false e = cc

module _ (options : InlineOptions) (is_definition is_footnote : List ℕ → Bool)
    (atoms : (outside : Bool) (before text : List ℕ) (found : Forest) → atom options outside before text ≡ Some found →
    IsFront text found)
    (targets : (inside after : List ℕ) (leads : Forest) → target options is_definition inside after ≡ Some leads →
    (size leads ≤ length after) × (has_names leads ≡ true)) where
  opening-is : (text : List ℕ) →
      (opening options is_definition is_footnote text ≤ 2) ×
      (opening options is_definition is_footnote text ≤ length text)
  opening-is [] = (omega arith, omega arith)
  opening-is (b ∷ []) =
      go (b == left_bracket) (options.constructs.label_start_link || options.constructs.gfm_footnote_call) (b == 33)
      options.constructs.label_start_image
      (not (options.constructs.gfm_footnote_call && begins_with caret (drop 2 (b ∷ []))))
    where
      go : (x y z u v : Bool) →
          (cond x (cond y 1 0) (cond (((z && false) && u) && v) 2 0) ≤ 2) ×
          (cond x (cond y 1 0) (cond (((z && false) && u) && v) 2 0) ≤ 1)
      go true true z u v = (omega arith, omega arith)
      go true false z u v = (omega arith, omega arith)
      go false y true u v = (omega arith, omega arith)
      go false y false u v = (omega arith, omega arith)
  opening-is (b ∷ c ∷ text) =
      go (b == left_bracket) (options.constructs.label_start_link || options.constructs.gfm_footnote_call)
      ((b == 33) && begins_with left_bracket (c ∷ text) && options.constructs.label_start_image
      && not (options.constructs.gfm_footnote_call && begins_with caret text))
    where
      go : (x y z : Bool) →
          (cond x (cond y 1 0) (cond z 2 0) ≤ 2) × (cond x (cond y 1 0) (cond z 2 0) ≤ suc (suc (length text)))
      go true true z = (omega arith, omega arith)
      go true false z = (omega arith, omega arith)
      go false y true = (omega arith, omega arith)
      go false y false = (omega arith, omega arith)

  front-is : (inside : Bool) (before : List ℕ) (b : ℕ) (text : List ℕ) →
      FrontIs inside (b ∷ text) (front options is_definition is_footnote inside before b text)
  front-is inside before b text = go (atom options (not inside) before (b ∷ text)) refl
    where
      ended : (c : Bool) → (inside && (b == right_bracket)) ≡ c → FrontIs inside (b ∷ text) (cond c closes is_text)
      ended true p = (and_parts inside (b == right_bracket) p).0
      ended false p = tt

      other : (m : Bool) (k : ℕ) → k ≤ 2 → k ≤ length (b ∷ text) →
          FrontIs inside (b ∷ text)
          (cond m (is_run (run_at b before (b ∷ text)))
          (cond (not (k == 0)) (opens k) (cond (inside && (b == right_bracket)) closes is_text)))
      other true k few within = (
        omega (arith, run-left b before (b ∷ text), run-some b text),
        omega (arith, run-left b before (b ∷ text), prefix_len-le-length (λ c. c == b) (b ∷ text)),
      )
      other false zero few within = ended (inside && (b == right_bracket)) refl
      other false (suc zero) few within = (omega arith, few, within)
      other false (suc (suc zero)) few within = (omega arith, few, within)
      other false (suc (suc (suc k))) few within = absurd (omega (arith, few))

      go : (o : Option Forest) → atom options (not inside) before (b ∷ text) ≡ o →
          FrontIs inside (b ∷ text)
          (elim o as (λ (_ : Option Forest). Front) [
            | Some found ↦ is_atom found
            | None ↦ cond (is_mark options is_definition is_footnote b) (is_run (run_at b before (b ∷ text)))
                (cond (not (opening options is_definition is_footnote (b ∷ text) == 0))
                (opens (opening options is_definition is_footnote (b ∷ text)))
                (cond (inside && (b == right_bracket)) closes is_text))
          ])
      go (Some found) is = atoms (not inside) before (b ∷ text) found is
      go None is =
          let bound = opening-is (b ∷ text) in
          other (is_mark options is_definition is_footnote b) (opening options is_definition is_footnote (b ∷ text))
          bound.0 bound.1

  -- What is known of a pair whose first bracket has so many bytes, and whose text has so many.
  record PairIs (len count : ℕ) (after : List ℕ) (found : Pair) : Type 0 where
    forest : Over found.forest (len + (count + 1) + found.taken)
    within : found.taken ≤ length after

  same-pair : (len count : ℕ) (after : List ℕ) (p q : Pair) → Some p ≡ Some q → PairIs len count after p →
      PairIs len count after q
  same-pair len count after p q h is =
      let same : p ≡ q = cc in
      subst (λ (r : Pair). PairIs len count after r) same is

  -- a link or an image
  leading-is : (len : ℕ) (whole : Forest → Forest → Forest) (is_link : Bool) (inner : Level) (held after : List ℕ)
      (found : Pair) → Good inner.items →
      ((inside leads : Forest) (k m : ℕ) → Over inside k → Over leads m →
      Over (whole inside leads) (len + (k + 1) + m)) →
      option_map (leading options is_definition is_footnote whole is_link inner.items)
      (target options is_definition held after) ≡
      Some found → PairIs len (items_size inner.items) after found
  leading-is len whole is_link inner held after found g wholes is =
      go (target options is_definition held after) refl is
    where
      go : (o : Option Forest) → target options is_definition held after ≡ o →
          option_map (leading options is_definition is_footnote whole is_link inner.items) o ≡ Some found →
          PairIs len (items_size inner.items) after found
      go None e is = cc
      go (Some leads) e is =
          let fact = targets held after leads e in
          same-pair len (items_size inner.items) after
          (leading options is_definition is_footnote whole is_link inner.items leads) found is
          (record {
            forest =
                wholes (emphasis options.gfm_strikethrough_single_tilde inner.items) leads (items_size inner.items)
                (size leads) (emphasis-over options.gfm_strikethrough_single_tilde inner.items g) (own leads fact.1);
            within = fact.0;
          })

  call-some : (held : List ℕ) → is_call is_footnote held ≡ true → 0 < length held
  call-some [] h = cc
  call-some (b ∷ held) h = omega arith

  pair-is : (len : ℕ) (inner : Level) (held after : List ℕ) (found : Pair) → 0 < len → len ≤ 2 → Good inner.items →
      length held ≡ items_size inner.items → pair options is_definition is_footnote len inner held after ≡ Some found →
      PairIs len (items_size inner.items) after found
  pair-is zero inner held after found some few g same is = absurd (omega (arith, some))
  pair-is (suc (suc zero)) inner held after found some few g same is =
      leading-is 2 image false inner held after found g image-over is
  pair-is (suc (suc (suc k))) inner held after found some few g same is = absurd (omega (arith, few))
  pair-is (suc zero) inner held after found some few g same is =
      go options.constructs.gfm_footnote_call (is_call is_footnote held) refl
      (inner.links || not options.constructs.label_start_link) is
    where
      called : Pair
      called = record { forest = call (length held - 1); taken = 0; is_link = false }

      go : (f c : Bool) → is_call is_footnote held ≡ c → (l : Bool) →
          cond (f && c) (Some called)
          (cond l None
          (option_map (leading options is_definition is_footnote link true inner.items)
          (target options is_definition held after))) ≡
          Some found → PairIs 1 (items_size inner.items) after found
      go true true e l is =
          let held_some : 0 < length held = call-some held e in
          same-pair 1 (items_size inner.items) after called found is
          (record {
            forest =
                same-over (call (length held - 1)) (length held - 1 + 3) (1 + (items_size inner.items + 1) + 0)
                (omega (arith, same, held_some)) (call-over (length held - 1));
            within = omega arith;
          })
      go true false e true is = cc
      go true false e false is = leading-is 1 link true inner held after found g link-over is
      go false c e true is = cc
      go false c e false is = leading-is 1 link true inner held after found g link-over is

  -- A bracket whose inner level is read: no `]` ends it, or one does.
  bracket-fine : (inside : Bool) (next : ℕ → Level) (text : List ℕ) (len : ℕ) (inner : Level) (rest : List ℕ) →
      ((k : ℕ) → 0 < k → k ≤ length text → Fine inside (length text - k) (next k)) → 0 < len → len ≤ 2 →
      len ≤ length text → Fine true (length text - len) inner → inner.rest ≡ rest →
      Fine inside (length text) (bracket_level options is_definition is_footnote next text len inner rest)
  bracket-fine inside next text len inner [] nexts some few within fine is =
      let none : length inner.rest ≡ 0 = ap length is in
      record {
        sized = omega (arith, fine.sized, none, text-size len, within);
        good = (text-good len, fine.good);
        ended = λ e. refl;
      }
  bracket-fine inside next text len inner (close ∷ after) nexts some few within fine is =
      go (pair options is_definition is_footnote len inner held after) refl
    where
      whole : ℕ
      whole = length text - length after

      held : List ℕ
      held = drop len (take (length text - length after - 1) text)

      left : length inner.rest ≡ suc (length after)
      left = ap length is

      total : items_size inner.items + suc (length after) ≡ length text - len
      total = omega (arith, fine.sized, left)

      held-is : length held ≡ items_size inner.items
      held-is =
          let cut : length (take (length text - length after - 1) text) ≡ length text - length after - 1 =
          length-take-le (length text - length after - 1) text (omega arith) in
          omega (
            arith,
            cut,
            length-drop len (take (length text - length after - 1) text),
            total,
            within,
          )

      go : (o : Option Pair) → pair options is_definition is_footnote len inner held after ≡ o →
          Fine inside (length text)
          (elim o as (λ (_ : Option Pair). Level) [
            | None ↦
                with_items (text_item len ∷ inner.items ++ text_item 1 ∷ []) inner.links
                (next (length text - length after))
            | Some found ↦
                with_items (read found.forest ∷ []) (inner.links || found.is_link)
                (next (length text - length after + found.taken))
          ])
      go None e =
          with-fine inside (text_item len ∷ inner.items ++ text_item 1 ∷ []) inner.links
          (next (length text - length after)) (length text - (length text - length after)) (length text)
          (text-good len, good-append inner.items (text_item 1 ∷ []) fine.good (text-good 1, tt))
          (omega (arith, items-append inner.items (text_item 1 ∷ []), text-size len, text-size 1, total, within, some))
          (nexts (length text - length after) (omega (arith, total, within, some)) (omega arith))
      go (Some found) e =
          let fact : PairIs len (items_size inner.items) after found =
          pair-is len inner held after found some few fine.good held-is e in
          with-fine inside (read found.forest ∷ []) (inner.links || found.is_link)
          (next (length text - length after + found.taken))
          (length text - (length text - length after + found.taken)) (length text) (fact.forest.names, tt)
          (omega (arith, fact.forest.sized, fact.within, total, within, some))
          (nexts (length text - length after + found.taken) (omega (arith, total, within, some))
          (omega (arith, fact.within, total, within)))

  front-fine : (inside : Bool) (next inner : ℕ → Level) (text : List ℕ) (f : Front) → 0 < length text →
      ((k : ℕ) → 0 < k → k ≤ length text → Fine inside (length text - k) (next k)) →
      ((k : ℕ) → 0 < k → k ≤ length text → Fine true (length text - k) (inner k)) → FrontIs inside text f →
      Fine inside (length text) (front_level options is_definition is_footnote next inner text f)
  front-fine inside next inner text (is_atom found) some nexts inners is =
      with-fine inside (read found ∷ []) false (next (size found)) (length text - size found) (length text)
      (is.names, tt) (omega (arith, is.within)) (nexts (size found) is.some is.within)
  front-fine inside next inner text (is_run r) some nexts inners is =
      with-fine inside (run r ∷ []) false (next r.left) (length text - r.left) (length text) (is.0, tt)
      (omega (arith, is.1)) (nexts r.left is.0 is.1)
  front-fine inside next inner text is_text some nexts inners is =
      with-fine inside (text_item 1 ∷ []) false (next 1) (length text - 1) (length text) (text-good 1, tt)
      (omega (arith, text-size 1, some)) (nexts 1 (omega arith) (omega (arith, some)))
  front-fine inside next inner text closes some nexts inners is = record {
    sized = omega arith;
    good = tt;
    ended = λ e. let both : true ≡ false = sym is ∙ e in cc;
  }
  front-fine inside next inner text (opens len) some nexts inners is =
      bracket-fine inside next text len (inner len) (inner len).rest nexts is.0 is.1 is.2 (inners len is.0 is.2) refl

  pub content-fine : (more : ℕ) (inside : Bool) (before text : List ℕ) → length text ≤ more →
      Fine inside (length text) (content options is_definition is_footnote more inside before text)
  content-fine zero inside before [] h = record { sized = refl; good = tt; ended = λ e. refl }
  content-fine zero inside before (b ∷ text) h = absurd (omega (arith, h))
  content-fine (suc more) inside before [] h = record { sized = refl; good = tt; ended = λ e. refl }
  content-fine (suc more) inside before (b ∷ text) h =
      front-fine inside
      (λ len. content options is_definition is_footnote more inside (before ++ take len (b ∷ text))
      (drop len (b ∷ text)))
      (λ len. content options is_definition is_footnote more true (before ++ take len (b ∷ text)) (drop len (b ∷ text)))
      (b ∷ text) (front options is_definition is_footnote inside before b text) (omega arith)
      (λ k some within.
      let left : length (drop k (b ∷ text)) ≡ suc (length text) - k = length-drop k (b ∷ text) in
      let fine = content-fine more inside (before ++ take k (b ∷ text)) (drop k (b ∷ text))
      (omega (arith, left, h, some)) in
      same-fine inside _ _ _ left fine)
      (λ k some within.
      let left : length (drop k (b ∷ text)) ≡ suc (length text) - k = length-drop k (b ∷ text) in
      let fine = content-fine more true (before ++ take k (b ∷ text)) (drop k (b ∷ text))
      (omega (arith, left, h, some)) in
      same-fine true _ _ _ left fine)
      (front-is inside before b text)

  -- the emphasis of a whole text
  pub text-over : (before text : List ℕ) →
      Over
      (emphasis options.gfm_strikethrough_single_tilde
      (content options is_definition is_footnote (length text) false before text).items)
      (length text)
  text-over before text =
      let fine : Fine false (length text) (content options is_definition is_footnote (length text) false before text) =
      content-fine (length text) false before text (omega arith) in
      let none : length (content options is_definition is_footnote (length text) false before text).rest ≡ 0 =
      ap length (fine.ended refl) in
      same-over
      (emphasis options.gfm_strikethrough_single_tilde
      (content options is_definition is_footnote (length text) false before text).items)
      (items_size (content options is_definition is_footnote (length text) false before text).items) (length text)
      (omega (arith, fine.sized, none))
      (emphasis-over options.gfm_strikethrough_single_tilde
      (content options is_definition is_footnote (length text) false before text).items fine.good)
