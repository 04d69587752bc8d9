-- The tree of lines, their outline and their labels, part by part.
use Rattle.std.proofs.Common.{◌≡◌, ℕ, Bool, true, false, cond, List, ◌++◌, map, refl, ap, ap₂, sym}
use Rattle.std.proofs.Common.{◌∙◌, append_assoc, rules}
use Rattle.std.specs.Prelude.{◌==◌}
use Rattle.std.proofs.lemmas.List.{map-append}
use Rattle.md_engine.specs.declared.configuration.ParseOptions.{ParseOptions}
use Rattle.md_meaning.specs.Grouped.{grouped, grouped_block, with_front, with_item}
use Rattle.md_meaning.specs.Label.{Labels, block_labels, both, labels}
use Rattle.md_meaning.specs.Outline.{Entry, block_entries, outline}
use Rattle.md_meaning.specs.State.{At, Path, closed}
use Rattle.md_meaning.specs.Step.{spot_of, steps}
use Rattle.md_meaning.specs.Tree.{Block, Blocks, End}
use Rattle.md_meaning.specs.Tree.{Item, ListOf, More}
use Rattle.md_events.specs.Exact.Places.{TextLine, whole}
use Rattle.proof_exact.specs.Parts.{IsCut, NoItemLast, nothing_open, open_after}
use Rattle.proof_exact.proofs.LinesParts.{joined-end, steps-append}
use Rattle.proof_exact.proofs.Moved.{closed-moved, steps-moved}
use Rattle.proof_exact.specs.Parts.{joined, lines_blocks}

pub blocks-parts : (options : ParseOptions) (lines more : List TextLine) (cut : IsCut options lines) →
    lines_blocks options (lines ++ more) ≡ joined cut.blocks (lines_blocks options more)
blocks-parts options lines more cut =
    ap (closed options)
    (ap (steps options nothing_open) (map-append whole lines more)
    ∙ steps-append options nothing_open (map whole lines) (map whole more)
    ∙ ap (λ (p : Path). steps options p (map whole more)) cut.shut
    ∙ ap (λ (bs : Blocks). steps options (At (spot_of bs)) (map whole more)) (sym (joined-end cut.blocks))
    ∙ steps-moved options cut.blocks nothing_open (map whole more))
    ∙ closed-moved options cut.blocks (open_after options nothing_open more)

pub blocks-first : (options : ParseOptions) (lines : List TextLine) (cut : IsCut options lines) →
    lines_blocks options lines ≡ cut.blocks
blocks-first options lines cut = ap (closed options) cut.shut

-- Lists.

item-some : (m : ℕ) (item f : Block) (r cs : Blocks) →
    with_item m item (joined (More f r) cs) ≡ joined (with_item m item (More f r)) cs
item-some m item (ListOf k items) r cs = go (m == k)
  where
    go : (x : Bool) →
        cond x (More (ListOf k (More item items)) (joined r cs))
        (More (ListOf m (More item End)) (More (ListOf k items) (joined r cs)))
        ≡ joined (cond x (More (ListOf k (More item items)) r)
        (More (ListOf m (More item End)) (More (ListOf k items) r))) cs
    go true = refl
    go false = refl
item-some m item _ r cs = refl

front-some : (b f : Block) (r cs : Blocks) →
    with_front b (joined (More f r) cs) ≡ joined (with_front b (More f r)) cs
front-some (Item m digits x) f r cs = item-some m (Item m digits x) f r cs
front-some _ f r cs = refl

-- blocks, of which there is one
record Some (bs : Blocks) : Type 0 where
  first : Block
  rest : Blocks
  is : bs ≡ More first rest

some-item : (m : ℕ) (item : Block) (bs : Blocks) → Some (with_item m item bs)
some-item m item End = record { first = ListOf m (More item End); rest = End; is = refl }
some-item m item (More (ListOf k items) bs) = go (m == k)
  where
    go : (x : Bool) →
        Some
        (cond x (More (ListOf k (More item items)) bs) (More (ListOf m (More item End)) (More (ListOf k items) bs)))
    go true = record { first = ListOf k (More item items); rest = bs; is = refl }
    go false = record { first = ListOf m (More item End); rest = More (ListOf k items) bs; is = refl }
some-item m item (More b bs) = record { first = ListOf m (More item End); rest = More b bs; is = refl }

some-front : (b : Block) (bs : Blocks) → Some (with_front b bs)
some-front (Item m digits x) bs = some-item m (Item m digits x) bs
some-front b bs = record { first = b; rest = bs; is = refl }

front-joined : (b : Block) (bs cs : Blocks) → Some bs → with_front b (joined bs cs) ≡ joined (with_front b bs) cs
front-joined b bs cs some =
    ap (λ (x : Blocks). with_front b (joined x cs)) some.is
    ∙ front-some b some.first some.rest cs
    ∙ ap (λ (x : Blocks). joined (with_front b x) cs) (sym some.is)

same-number : (n : ℕ) → (n == n) ≡ true
same-number n = search rules

-- what is no item is alone before others
front-alone : (b : Block) (cs : Blocks) → NoItemLast (More b End) →
    with_front (grouped_block b) cs ≡ joined (with_front (grouped_block b) End) cs
front-alone (Item m digits x) cs h = let is = h m in let same = same-number m in absurd (cc)
front-alone _ cs h = refl

pub grouped-joined : (bs cs : Blocks) → NoItemLast bs → grouped (joined bs cs) ≡ joined (grouped bs) (grouped cs)
grouped-joined End cs h = refl
grouped-joined (More b End) cs h = front-alone b (grouped cs) h
grouped-joined (More b (More c bs)) cs h =
    ap (with_front (grouped_block b)) (grouped-joined (More c bs) cs h)
    ∙ front-joined (grouped_block b) (grouped (More c bs)) (grouped cs) (some-front (grouped_block c) (grouped bs))

-- The tree of lines is those of the parts, one after the other.
pub tree-parts : (options : ParseOptions) (lines more : List TextLine) → IsCut options lines →
    grouped (lines_blocks options (lines ++ more))
    ≡ joined (grouped (lines_blocks options lines)) (grouped (lines_blocks options more))
tree-parts options lines more cut =
    ap grouped (blocks-parts options lines more cut)
    ∙ grouped-joined cut.blocks (lines_blocks options more) cut.last
    ∙ ap (λ (bs : Blocks). joined (grouped bs) (grouped (lines_blocks options more)))
    (sym (blocks-first options lines cut))

-- Labels and outlines.

pub labels-joined : (bs cs : Blocks) → labels (joined bs cs) ≡ both (labels bs) (labels cs)
labels-joined End cs = refl
labels-joined (More b bs) cs =
    let x : Labels = block_labels b in
    let y : Labels = labels bs in
    let z : Labels = labels cs in
    ap (both x) (labels-joined bs cs)
    ∙ ap₂ (λ (d f : List (List ℕ)). let l : Labels = record { definitions = d; footnotes = f } in l)
    (sym (append_assoc x.definitions y.definitions z.definitions))
    (sym (append_assoc x.footnotes y.footnotes z.footnotes))

pub outline-joined : (depth : ℕ) (bs cs : Blocks) → outline depth (joined bs cs) ≡ outline depth bs ++ outline depth cs
outline-joined depth End cs = refl
outline-joined depth (More b bs) cs =
    ap (λ (es : List Entry). block_entries depth b ++ es) (outline-joined depth bs cs)
    ∙ sym (append_assoc (block_entries depth b) (outline depth bs) (outline depth cs))
