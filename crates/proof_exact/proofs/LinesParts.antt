-- The events of lines, part by part.
use Rattle.std.proofs.Common.{◌≡◌, List, [], ◌∷◌, ◌++◌, flat_map, map, refl, ap, sym, ◌∙◌}
use Rattle.std.proofs.lemmas.List.{map-append}
use Rattle.std.proofs.lemmas.List.Concat.{flat_map-append}
use Rattle.md_engine.specs.declared.configuration.ParseOptions.{ParseOptions}
use Rattle.md_meaning.specs.Rest.{Rest}
use Rattle.md_meaning.specs.State.{At, Path}
use Rattle.md_meaning.specs.Step.{spot_of, step, steps}
use Rattle.md_meaning.specs.Tree.{Blocks, End, More}
use Rattle.md_events.specs.Exact.Blocks.{group_events, grouped}
use Rattle.md_events.specs.Exact.Places.{TextLine, whole}
use Rattle.md_events.specs.Exact.Rows.{Row, rows_of}
use Rattle.proof_exact.specs.Parts.{IsCut, NoItemLast, lines_events, nothing_open}
use Rattle.proof_exact.proofs.Appended.{rows-apart, rows-append}
use Rattle.proof_exact.proofs.PartGroups.{grouped-append}
use Rattle.proof_exact.proofs.Moved.{moved, steps-moved}
use Rattle.proof_exact.specs.Parts.{joined}
use Rattle.proof_exact.proofs.RowsMoved.{rows-moved, last-moved}

pub joined-end : (bs : Blocks) → joined bs End ≡ bs
joined-end End = refl
joined-end (More b bs) = ap (More b) (joined-end bs)

-- after other blocks, none of which is last and an item
pub rows-after : (options : ParseOptions) (bs : Blocks) (lines : List TextLine) → NoItemLast bs →
    rows_of options (At (spot_of bs)) lines ≡ rows_of options nothing_open lines
rows-after options bs lines none =
    ap (λ (x : Blocks). rows_of options (At (spot_of x)) lines) (sym (joined-end bs))
    ∙ rows-moved options bs nothing_open lines none

-- Lines after which the text may be cut, and others: their events one after the other.
pub lines-parts : (options : ParseOptions) (lines more : List TextLine) → IsCut options lines →
    lines_events options (lines ++ more) ≡ lines_events options lines ++ lines_events options more
lines-parts options lines more cut =
    let first : List Row = rows_of options nothing_open lines in
    let following : List Row = rows_of options (At (spot_of cut.blocks)) more in
    ap (λ (rows : List Row). flat_map (group_events options) (grouped rows))
    (rows-append options nothing_open lines more cut.blocks tt cut.shut cut.last)
    ∙ ap (flat_map (group_events options))
    (grouped-append first following (rows-apart options cut.blocks more).role)
    ∙ flat_map-append (group_events options) (grouped first) (grouped following)
    ∙ ap (λ (rows : List Row). lines_events options lines ++ flat_map (group_events options) (grouped rows))
    (rows-after options cut.blocks more cut.last)

-- Cuts one after the other.

pub steps-append : (options : ParseOptions) (p : Path) (rs ss : List Rest) →
    steps options p (rs ++ ss) ≡ steps options (steps options p rs) ss
steps-append options p [] ss = refl
steps-append options p (r ∷ rs) ss = steps-append options (step options p r) rs ss

joined-last : (cs bs : Blocks) → NoItemLast cs → NoItemLast bs → NoItemLast (joined cs bs)
joined-last cs bs h k m = last-moved m cs bs (h m) ∙ k m

pub cut-append : (options : ParseOptions) (lines more : List TextLine) → IsCut options lines → IsCut options more →
    IsCut options (lines ++ more)
cut-append options lines more first second = record {
  blocks = joined first.blocks second.blocks;
  shut =
      ap (steps options nothing_open) (map-append whole lines more)
      ∙ steps-append options nothing_open (map whole lines) (map whole more)
      ∙ ap (λ (p : Path). steps options p (map whole more)) first.shut
      ∙ ap (λ (bs : Blocks). steps options (At (spot_of bs)) (map whole more)) (sym (joined-end first.blocks))
      ∙ steps-moved options first.blocks nothing_open (map whole more)
      ∙ ap (moved first.blocks) second.shut;
  last = joined-last first.blocks second.blocks first.last second.last;
}

-- one part of many
pub cut-none : (options : ParseOptions) → IsCut options []
cut-none options = record { blocks = End; shut = refl; last = λ m. refl }
