-- The items of a level are solid, so their emphasis is readable once its text is joined.
use Rattle.std.proofs.Common.{◌≡◌, ℕ, zero, suc, ◌+◌, ◌-◌, ◌<◌, Bool, true, false, cond, ◌&&◌, List, [], ◌∷◌, ◌++◌}
use Rattle.std.proofs.Common.{length, take, drop, refl, arith}
use Rattle.std.specs.Prelude.{◌==◌, ◌||◌, not, Option, Some, None, option_map}
use Rattle.std.proofs.lemmas.Bool.Decides.{nat_tests}
use Rattle.md_engine.specs.declared.event.Name.{Name}
use Rattle.md_engine.specs.declared.event.Name.TheVariants as n
use Rattle.md_events.specs.Events.Pieces.{is_piece_name}
use Rattle.md_meaning.specs.Ascii.{right_bracket}
use Rattle.md_meaning.specs.Rest.{run_len}
use Rattle.md_inline_events.specs.Forest.{Forest, nothing, over, part, size}
use Rattle.md_inlines.specs.Flanking.{run_at}
use Rattle.md_inlines.specs.declared.InlineOptions.{InlineOptions}
use Rattle.md_inlines.specs.Atoms.{atom, byte, merged}
use Rattle.md_inlines.specs.Brackets.{Front, Level, Pair, bracket_level, closes, content, front, front_level, is_atom}
use Rattle.md_inlines.specs.Brackets.{is_mark, is_run, is_text, leading, opening, opens, pair, text_item, with_items}
use Rattle.md_inlines.specs.Emphasis.{Item, emphasis, read}
use Rattle.md_inlines.specs.Targets.{call, image, is_call, label_end, link, target}
use Rattle.proof_inlines.proofs.SizeLemmas.{part-size}
use Rattle.markdown_inlines.specs.Readable.{is_readable}
use Rattle.markdown_inlines.proofs.ReadableLemmas.{Readable, Solid, over-readable, over-solid, part-readable}
use Rattle.markdown_inlines.proofs.ReadableLemmas.{piece-some, readable-is, readable-merged, solid-readable}
use Rattle.markdown_inlines.proofs.ReadableLemmas.{some-readable}
use Rattle.markdown_inlines.proofs.ReadableEmphasis.{Each, Holds, cond-holds, each-append, emphasis-solid}
use Rattle.markdown_inlines.proofs.ReadableAtoms.{atom-solid, target-solid}

-- Links, images and calls.

-- the text between brackets, and the bracket that ends it
text-readable : (inside : Forest) → Readable inside → Readable (part n.LabelText inside label_end)
text-readable inside h =
    part-readable n.LabelText inside label_end refl refl h
    (part-readable n.LabelEnd (byte n.LabelMarker nothing) nothing refl refl (refl, tt) tt)

-- A whole of this name: a label, whose first bracket has a part of its own, and what it leads to.
abbrev whole : Name → Name → Forest → Forest → Forest → Forest
whole name first marks inside leads =
    part name (part n.Label (part first marks (part n.LabelText inside label_end)) leads) nothing

whole-solid : (name first : Name) (marks inside leads : Forest) → is_piece_name name ≡ false →
    is_piece_name first ≡ false → 0 < size marks → Solid marks → Readable inside → Solid leads →
    Solid (whole name first marks inside leads)
whole-solid name first marks inside leads named opener some m i l =
    let text : Forest = part n.LabelText inside label_end in
    let label : Forest = part first marks text in
    let long : 0 < size label = omega (arith, part-size first marks text, some) in
    let inner : Readable label = some-readable first marks text opener some (solid-readable marks m)
    (text-readable inside i) in (
      named,
      omega (arith, part-size n.Label label leads, long),
      some-readable n.Label label leads refl long inner (solid-readable leads l),
      tt,
    )

link-solid : (inside leads : Forest) → Solid inside → Solid leads → Solid (link inside leads)
link-solid inside leads i l =
    whole-solid n.Link n.LabelLink (byte n.LabelMarker nothing) inside leads refl refl
    (piece-some n.LabelMarker 0 nothing) (refl, tt) (solid-readable inside i) l

image-solid : (inside leads : Forest) → Solid inside → Solid leads → Solid (image inside leads)
image-solid inside leads i l =
    whole-solid n.Image n.LabelImage (byte n.LabelImageMarker (byte n.LabelMarker nothing)) inside leads refl refl
    (piece-some n.LabelImageMarker 0 (byte n.LabelMarker nothing)) (refl, (refl, tt)) (solid-readable inside i) l

call-solid : (len : ℕ) → Solid (call len)
call-solid len =
    whole-solid n.GfmFootnoteCall n.GfmFootnoteCallLabel (byte n.LabelMarker (byte n.GfmFootnoteCallMarker nothing))
    (over n.Data len nothing) nothing refl refl
    (piece-some n.LabelMarker 0 (byte n.GfmFootnoteCallMarker nothing)) (refl, (refl, tt))
    (over-readable n.Data len nothing refl tt) tt

-- Levels.

text-each : (len : ℕ) (items : List Item) → Each Solid items → Each Solid (text_item len ∷ items)
text-each len items h = (over-solid n.Data len nothing refl tt, h)

-- What is known of a front.
abbrev FrontIs : Front → Type 0
FrontIs (is_atom found) = Solid found
FrontIs (is_run r) = 0 < r.left
FrontIs (opens len) = Unit {0}
FrontIs closes = Unit {0}
FrontIs is_text = Unit {0}

run-some : (b : ℕ) (before text : List ℕ) → 0 < (run_at b before (b ∷ text)).left
unfolding run_at
run-some b before text = go (b == b) (grind (arith, nat_tests))
  where
    go : (t : Bool) → t ≡ true → 0 < cond t (1 + run_len b text) 0
    go true e = omega arith
    go false e = cc

-- what is said of a pair of brackets that is no text
abbrev PairIs : Pair → Type 0
PairIs found = Solid found.forest

module _ (options : InlineOptions) (is_definition is_footnote : List ℕ → Bool) where
  front-is : (inside : Bool) (before : List ℕ) (b : ℕ) (text : List ℕ) →
      FrontIs (front options is_definition is_footnote inside before b text)
  front-is inside before b text =
      go (atom options (not inside) before (b ∷ text)) (atom-solid options (not inside) before (b ∷ text))
    where
      other : (x y z : Bool) →
          FrontIs
          (cond x (is_run (run_at b before (b ∷ text)))
          (cond y (opens (opening options is_definition is_footnote (b ∷ text))) (cond z closes is_text)))
      other true y z = run-some b before text
      other false true z = tt
      other false false true = tt
      other false false false = tt

      go : (o : Option Forest) → Holds Solid o →
          FrontIs
          (elim o as (λ (_ : Option Forest). Front) [
            | Some found ↦ is_atom found
            | None ↦ cond (is_mark options is_definition is_footnote b) (is_run (run_at b before (b ∷ text)))
                (cond (not (opening options is_definition is_footnote (b ∷ text) == 0))
                (opens (opening options is_definition is_footnote (b ∷ text)))
                (cond (inside && (b == right_bracket)) closes is_text))
          ])
      go (Some found) h = h
      go None h =
          other (is_mark options is_definition is_footnote b)
          (not (opening options is_definition is_footnote (b ∷ text) == 0)) (inside && (b == right_bracket))

  -- a link or an image
  leading-is : (whole : Forest → Forest → Forest) (is_link : Bool) (items : List Item) (held after : List ℕ) →
      ((inside leads : Forest) → Solid inside → Solid leads → Solid (whole inside leads)) → Each Solid items →
      Holds PairIs
      (option_map (leading options is_definition is_footnote whole is_link items)
      (target options is_definition held after))
  leading-is whole is_link items held after wholes g =
      go (target options is_definition held after) (target-solid options is_definition held after)
    where
      go : (o : Option Forest) → Holds Solid o →
          Holds PairIs (option_map (leading options is_definition is_footnote whole is_link items) o)
      go None h = tt
      go (Some leads) h =
          wholes (emphasis options.gfm_strikethrough_single_tilde items) leads
          (emphasis-solid options.gfm_strikethrough_single_tilde items g) h

  pair-is : (len : ℕ) (inner : Level) (held after : List ℕ) → Each Solid inner.items →
      Holds PairIs (pair options is_definition is_footnote len inner held after)
  pair-is len inner held after g =
      cond-holds PairIs (len == 2) images rest (leading-is image false inner.items held after image-solid g)
      (cond-holds PairIs (options.constructs.gfm_footnote_call && is_call is_footnote held) (Some called) others
      (call-solid (length held - 1))
      (cond-holds PairIs (inner.links || not options.constructs.label_start_link) None links tt
      (leading-is link true inner.items held after link-solid g)))
    where
      called : Pair
      called = record { forest = call (length held - 1); taken = 0; is_link = false }

      images : Option Pair
      images = option_map (leading options is_definition is_footnote image false inner.items)
          (target options is_definition held after)

      links : Option Pair
      links = option_map (leading options is_definition is_footnote link true inner.items)
          (target options is_definition held after)

      others : Option Pair
      others = cond (inner.links || not options.constructs.label_start_link) None links

      rest : Option Pair
      rest = cond (options.constructs.gfm_footnote_call && is_call is_footnote held) (Some called) others

  bracket-each : (next : ℕ → Level) (text : List ℕ) (len : ℕ) (inner : Level) (rest : List ℕ) →
      ((k : ℕ) → Each Solid (next k).items) → Each Solid inner.items →
      Each Solid (bracket_level options is_definition is_footnote next text len inner rest).items
  bracket-each next text len inner [] nexts g = text-each len inner.items g
  bracket-each next text len inner (close ∷ after) nexts g =
      go (pair options is_definition is_footnote len inner held after) (pair-is len inner held after g)
    where
      held : List ℕ
      held = drop len (take (length text - length after - 1) text)

      go : (o : Option Pair) → Holds PairIs o →
          Each Solid
          (elim o as (λ (_ : Option Pair). Level) [
            | None ↦
                with_items (text_item len ∷ inner.items ++ text_item 1 ∷ []) inner.links
                (next (length text - length after))
            | Some found ↦
                with_items (read found.forest ∷ []) (inner.links || found.is_link)
                (next (length text - length after + found.taken))
          ]).items
      go None h =
          let end : List Item = text_item 1 ∷ [] in
          each-append Solid (text_item len ∷ inner.items ++ end) (next (length text - length after)).items
          (text-each len (inner.items ++ end) (each-append Solid inner.items end g (text-each 1 [] tt)))
          (nexts (length text - length after))
      go (Some found) h = (h, nexts (length text - length after + found.taken))

  front-each : (next inner : ℕ → Level) (text : List ℕ) (f : Front) → ((k : ℕ) → Each Solid (next k).items) →
      ((k : ℕ) → Each Solid (inner k).items) → FrontIs f →
      Each Solid (front_level options is_definition is_footnote next inner text f).items
  front-each next inner text (is_atom found) nexts inners is = (is, nexts (size found))
  front-each next inner text (is_run r) nexts inners is = (is, nexts r.left)
  front-each next inner text is_text nexts inners is = text-each 1 (next 1).items (nexts 1)
  front-each next inner text closes nexts inners is = tt
  front-each next inner text (opens len) nexts inners is =
      bracket-each next text len (inner len) (inner len).rest nexts (inners len)

  pub content-each : (count : ℕ) (inside : Bool) (before text : List ℕ) →
      Each Solid (content options is_definition is_footnote count inside before text).items
  content-each zero inside before text = tt
  content-each (suc more) inside before [] = tt
  content-each (suc more) inside before (b ∷ text) =
      front-each
      (λ len. content options is_definition is_footnote more inside (before ++ take len (b ∷ text))
      (drop len (b ∷ text)))
      (λ len. content options is_definition is_footnote more true (before ++ take len (b ∷ text)) (drop len (b ∷ text)))
      (b ∷ text) (front options is_definition is_footnote inside before b text)
      (λ k. content-each more inside (before ++ take k (b ∷ text)) (drop k (b ∷ text)))
      (λ k. content-each more true (before ++ take k (b ∷ text)) (drop k (b ∷ text)))
      (front-is inside before b text)

  pub readable-level : (count : ℕ) (inside : Bool) (before text : List ℕ) →
      Readable
      (merged
      (emphasis options.gfm_strikethrough_single_tilde
      (content options is_definition is_footnote count inside before text).items))
  readable-level count inside before text =
      let items : List Item = (content options is_definition is_footnote count inside before text).items in
      let whole : Forest = emphasis options.gfm_strikethrough_single_tilde items in
      readable-merged whole
      (solid-readable whole
      (emphasis-solid options.gfm_strikethrough_single_tilde items (content-each count inside before text)))

  pub level-readable : (count : ℕ) (before text : List ℕ) →
      is_readable
      (merged
      (emphasis options.gfm_strikethrough_single_tilde
      (content options is_definition is_footnote count false before text).items)) ≡
      true
  level-readable count before text =
      readable-is
      (merged
      (emphasis options.gfm_strikethrough_single_tilde
      (content options is_definition is_footnote count false before text).items))
      (readable-level count false before text)
