-- The content of some cells, by the definition that they begin with.
use Rattle.std.proofs.Common.{◌≡◌, ℕ, zero, suc, ◌<◌, ◌≤◌, Bool, true, false, cond, List, [], ◌∷◌, ◌++◌}
use Rattle.std.proofs.Common.{length, Option, Some, None, refl, sym, ◌∙◌, ap, arith}
use Rattle.std.proofs.lemmas.Bool.{or_parts}
use Rattle.md_engine.specs.declared.configuration.ParseOptions.{ParseOptions}
use Rattle.md_engine.specs.declared.event.Event.{Event}
use Rattle.md_engine.specs.declared.event.Name.TheVariants.{LineEnding}
use Rattle.md_engine.specs.declared.event.Point.{Point}
use Rattle.md_engine.specs.Meaning.{Cell}
use Rattle.md_content.specs.ContentRule.{following_definition, content_by, content_of, content_over, definition_in}
use Rattle.md_content.specs.Definitions.{may_define}
use Rattle.md_content.specs.ParagraphRule.{paragraph_over}
use Rattle.md_content.proofs.DefinitionTakes.{DefinitionTakes, definition-takes}
use Rattle.md_link_definitions.specs.DefinitionRule.{DefinitionParts, definition_end, definition_events}
use Rattle.md_link_definitions.specs.DefinitionRule.{definition_parts, definition_rest, parts_labelled}
use Rattle.md_link_definitions.specs.LabelRule.{label_parts}
use Rattle.md_events.specs.Events.Nested.{pair}
use Rattle.md_events.specs.Look.{first_seen}
use Rattle.md_events.specs.Spaces.{any_size}
use Rattle.md_events.proofs.AheadLemmas.{none-rest}

-- a definition takes some cells, where definitions are on
pub in-takes : (options : ParseOptions) (cells : List Cell) (p : Point) (d : DefinitionParts) →
    definition_in options cells ≡ Some d → DefinitionTakes d cells p
in-takes options cells p d e = go options.constructs.definition e
  where
    go : (x : Bool) → cond x (definition_parts cells) None ≡ Some d → DefinitionTakes d cells p
    go true e = definition-takes cells p d e
    go false e = let none : (let o : Option DefinitionParts = None in o) ≡ Some d = e in cc

-- none is where neither whitespace nor `[` does
parts-none : (cells : List Cell) → may_define (first_seen cells) ≡ false → definition_parts cells ≡ None
unfolding definition_parts label_parts
parts-none [] e = refl
parts-none (c ∷ cs) e =
    let no = or_parts _ _ e in
    let dark = none-rest any_size (c ∷ cs) no.0 in
    let plain : label_parts (c ∷ cs) ≡ None = rw no.1 refl in
    ap (λ (l : List Cell). parts_labelled (c ∷ cs) (label_parts l)) dark
    ∙ ap (parts_labelled (c ∷ cs)) plain

pub in-none : (options : ParseOptions) (cells : List Cell) → may_define (first_seen cells) ≡ false →
    definition_in options cells ≡ None
in-none options cells e = go options.constructs.definition
  where
    go : (x : Bool) → cond x (definition_parts cells) None ≡ None
    go true = parts-none cells e
    go false = refl

-- of no cells
content-nothing : (options : ParseOptions) (n : ℕ) (p : Point) → content_of options n [] p ≡ paragraph_over [] p
content-nothing options zero p = refl
content-nothing options (suc n) p =
    ap (λ (o : Option DefinitionParts). content_by o (content_of options n) [] p) (in-none options [] refl)

-- two ways to read on that agree on fewer cells
following-same : (f g : List Cell → Point → List Event) (size : ℕ) (rest : List Cell) (q : Point) →
    ((cells : List Cell) (r : Point) → length cells < size → f cells r ≡ g cells r) → length rest ≤ size →
    following_definition f rest q ≡ following_definition g rest q
following-same f g size [] q same le = refl
following-same f g size (c ∷ cs) q same le =
    ap (λ (es : List Event). pair LineEnding q c.after ++ es) (same cs c.after (omega (arith, le)))

by-same : (options : ParseOptions) (f g : List Cell → Point → List Event) (cells : List Cell) (p : Point) →
    ((rest : List Cell) (r : Point) → length rest < length cells → f rest r ≡ g rest r) →
    content_by (definition_in options cells) f cells p ≡ content_by (definition_in options cells) g cells p
by-same options f g cells p same = go (definition_in options cells) refl
  where
    go : (o : Option DefinitionParts) → definition_in options cells ≡ o →
        content_by o f cells p ≡ content_by o g cells p
    go None e = refl
    go (Some d) e =
        let fewer = (in-takes options cells p d e).fewer in
        ap (λ (es : List Event). definition_events d p ++ es)
        (following-same f g (length cells) (definition_rest d) (definition_end d) same (omega (arith, fewer)))

-- as many definitions as there are cells are enough
content-enough : (options : ParseOptions) (n m : ℕ) (cells : List Cell) (p : Point) → length cells ≤ n →
    length cells ≤ m → content_of options n cells p ≡ content_of options m cells p
content-enough options n m [] p a b = content-nothing options n p ∙ sym (content-nothing options m p)
content-enough options zero m (c ∷ cs) p a b = absurd (omega arith)
content-enough options (suc n) zero (c ∷ cs) p a b = absurd (omega arith)
content-enough options (suc n) (suc m) (c ∷ cs) p a b =
    by-same options (content_of options n) (content_of options m) (c ∷ cs) p
    (λ rest r fewer. content-enough options n m rest r (omega (arith, fewer, a)) (omega (arith, fewer, b)))

-- The content of some cells: a definition, and the content after it, or a paragraph.
pub content-unfolds : (options : ParseOptions) (cells : List Cell) (p : Point) →
    content_over options cells p ≡ content_by (definition_in options cells) (content_over options) cells p
unfolding content_over
content-unfolds options [] p =
    ap (λ (o : Option DefinitionParts). content_by o (content_over options) [] p) (sym (in-none options [] refl))
content-unfolds options (c ∷ cs) p =
    by-same options (content_of options (length cs)) (content_over options) (c ∷ cs) p
    (λ rest r fewer. content-enough options (length cs) (length rest) rest r (omega (arith, fewer)) (omega arith))
