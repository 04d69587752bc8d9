-- What is printed of an outline part by part.
use Rattle.std.proofs.Common.{◌≡◌, ℕ, true, List, [], ◌∷◌, ◌++◌, length, map, append-nil, append_assoc, sym}
use Rattle.std.proofs.Common.{◌∙◌, String, string_bytes, Global, ap, arith, subst}
use Rattle.std.specs.Prelude.{◌==◌, IfSome, Option, Some}
use Rattle.std.specs.List.{flat_map}
use Rattle.std.proofs.lemmas.Grind.{flat_map-append}
use Rattle.std.proofs.lemmas.List.{map-append}
use Rattle.md_engine.specs.declared.configuration.ParseOptions.{ParseOptions}
use Rattle.md_engine.specs.declared.event.Event.{Event}
use Rattle.md_events.specs.Events.Nested.{Nested}
use Rattle.md_events.specs.Events.Spelled.{spelled}
use Rattle.md_meaning.specs.Label.{Labels, both, labels}
use Rattle.md_meaning.specs.Meaning.{tree}
use Rattle.md_meaning.specs.Outline.{outline}
use Rattle.md_meaning.specs.Tree.{Blocks}
use Rattle.md_outline.specs.Outlined.{IsOutlined}
use Rattle.md_outline.proofs.FirstBlocks.{IsDivided, divided}
use Rattle.md_program.specs.Printed.{PrintsOutline, printed, printed_end, printed_line}
use Rattle.markdown_blocks.specs.PartRead.{AreLaid, labels_of}
use Rattle.markdown_blocks.specs.PartsLeft.{Left}
use Rattle.markdown_blocks.specs.declared.parts.Part.{Part}
use Rattle.printing.specs.Built.{Outlines, built_from}

-- the printed outline of some events
abbrev pub outline_of : List Event → List ℕ → List ℕ
outline_of events bytes = flat_map printed_line (outline 0 (spelled events bytes))

-- no events are left
pub all-printed : (text whole bytes : List ℕ) (rest : List Event) → rest ≡ [] → text ++ outline_of rest bytes ≡ whole →
    text ≡ whole
unfolding spelled
all-printed text whole bytes [] none is = sym (append-nil text) ∙ is
all-printed text whole bytes (e ∷ rest) none is = cc

pub none-left : (rest : List Event) → (length rest == 0) ≡ true → rest ≡ []
none-left [] left = search
none-left (e ∷ rest) left = absurd (grind (arith, left))

-- A text that is read part by part: its parts so far are printed.
pub record ArePrinted (options : ParseOptions) (text : List ℕ) (left : Left) (front so_far : List ℕ)
    (definitions footnotes : List (String Global)) : Type 0 where
  -- an outline can show what is left,
  pub outlined : IsOutlined left.blocks text
  -- after whose outline all would be printed,
  pub lines : so_far ++ outline_of left.blocks text ≡ front ++ flat_map printed_line (outline 0 (tree options text))
  -- and after whose labels all would be found
  pub definitions_are : map string_bytes definitions ++ left.labels.definitions ≡
      (labels (tree options text)).definitions
  pub footnotes_are : map string_bytes footnotes ++ left.labels.footnotes ≡ (labels (tree options text)).footnotes

-- before the first part
pub first-printed : (options : ParseOptions) (text : List ℕ) (left : Left) (front : List ℕ)
    (definitions footnotes : List (String Global)) → IsOutlined left.blocks text →
    spelled left.blocks text ≡ tree options text → left.labels ≡ labels (tree options text) →
    definitions ≡ [] → footnotes ≡ [] → ArePrinted options text left front front definitions footnotes
first-printed options text left front definitions footnotes outlined spells are no_definitions no_footnotes = record {
  outlined = outlined;
  lines = ap (λ (bs : Blocks). front ++ flat_map printed_line (outline 0 bs)) spells;
  definitions_are =
      ap (λ (l : List (String Global)). map string_bytes l ++ left.labels.definitions) no_definitions
      ∙ ap (λ (l : Labels). l.definitions) are;
  footnotes_are =
      ap (λ (l : List (String Global)). map string_bytes l ++ left.labels.footnotes) no_footnotes
      ∙ ap (λ (l : Labels). l.footnotes) are;
}

-- What is left begins with a part.
pub record IsNext (before after : Left) (part : Part) : Type 0 where
  pub blocks : before.blocks ≡ part.events.items ++ after.blocks
  pub labels_are : before.labels ≡ both (labels_of part) after.labels
  pub nested : Nested part.events.items

pub is-next : (before after : Left) (handed : Option Part) (part : Part) → handed ≡ Some part →
    IfSome handed (λ (p : Part). before.blocks ≡ p.events.items ++ after.blocks) →
    IfSome handed (λ (p : Part). before.labels ≡ both (labels_of p) after.labels) →
    IfSome handed (λ (p : Part). AreLaid before.text before.place p.events.items after.place) →
    IsNext before after part
is-next before after handed part is blocks are laid =
    let laid_out : AreLaid before.text before.place part.events.items after.place =
    subst (λ (o : Option Part).
    IfSome o (λ (p : Part). AreLaid before.text before.place p.events.items after.place)) is laid in
    record {
      blocks =
          subst (λ (o : Option Part). IfSome o (λ (p : Part). before.blocks ≡ p.events.items ++ after.blocks)) is
          blocks;
      labels_are =
          subst (λ (o : Option Part). IfSome o (λ (p : Part). before.labels ≡ both (labels_of p) after.labels)) is are;
      nested = laid_out.nested;
    }

-- An outline can show it, and what is left after it.
pub part-divided : (before after : Left) (part : Part) (text : List ℕ) → IsNext before after part →
    IsOutlined before.blocks text → IsDivided part.events.items after.blocks text
part-divided before after part text next is =
    divided part.events.items after.blocks text next.nested.balanced.closed
    (subst (λ (es : List Event). IsOutlined es text) next.blocks is)

-- labels are moved after others
moved : (found more now : List (String Global)) (left rest all : List (List ℕ)) → now ≡ found ++ more →
    left ≡ map string_bytes more ++ rest → map string_bytes found ++ left ≡ all → map string_bytes now ++ rest ≡ all
moved found more now left rest all is same so_far =
    ap (λ (l : List (String Global)). map string_bytes l ++ rest) is
    ∙ ap (λ (l : List (List ℕ)). l ++ rest) (map-append string_bytes found more)
    ∙ append_assoc (map string_bytes found) (map string_bytes more) rest
    ∙ ap (λ (l : List (List ℕ)). map string_bytes found ++ l) (sym same)
    ∙ so_far

-- Once its outline is printed and its labels are moved, the parts so far are printed again.
pub next-printed : (options : ParseOptions) (text bytes : List ℕ) (before after left : Left) (part : Part)
    (front so_far now : List ℕ) (definitions footnotes definitions_now footnotes_now : List (String Global)) →
    IsNext before after part → left ≡ after → bytes ≡ text → now ≡ so_far ++ outline_of part.events.items bytes →
    definitions_now ≡ definitions ++ part.definitions.items →
    footnotes_now ≡ footnotes ++ part.gfm_footnote_definitions.items →
    ArePrinted options text before front so_far definitions footnotes →
    ArePrinted options text left front now definitions_now footnotes_now
next-printed options text bytes before after left part front so_far now definitions footnotes definitions_now
    footnotes_now next reused same put edefinitions efootnotes are =
    let parts : IsDivided part.events.items after.blocks text =
    part-divided before after part text next are.outlined in
    subst (λ (l : Left). ArePrinted options text l front now definitions_now footnotes_now) (sym reused)
    (record {
      outlined = parts.rest;
      lines =
          ap (λ (l : List ℕ). l ++ outline_of after.blocks text)
          (put ∙ ap (λ (b : List ℕ). so_far ++ outline_of part.events.items b) same)
          ∙ append_assoc so_far (outline_of part.events.items text) (outline_of after.blocks text)
          ∙ ap (λ (l : List ℕ). so_far ++ l)
          (sym
          (flat_map-append printed_line (outline 0 (spelled part.events.items text))
          (outline 0 (spelled after.blocks text)))
          ∙ ap (flat_map printed_line) parts.joined
          ∙ ap (λ (es : List Event). outline_of es text) (sym next.blocks))
          ∙ are.lines;
      definitions_are =
          moved definitions part.definitions.items definitions_now before.labels.definitions after.labels.definitions
          (labels (tree options text)).definitions edefinitions (ap (λ (l : Labels). l.definitions) next.labels_are)
          are.definitions_are;
      footnotes_are =
          moved footnotes part.gfm_footnote_definitions.items footnotes_now before.labels.footnotes
          after.labels.footnotes (labels (tree options text)).footnotes efootnotes
          (ap (λ (l : Labels). l.footnotes) next.labels_are) are.footnotes_are;
    })

-- Where no labels are left, all were found.
pub all-found : (found : List (String Global)) (left all : List (List ℕ)) → left ≡ [] →
    map string_bytes found ++ left ≡ all → map string_bytes found ≡ all
all-found found left all none so_far =
    sym (ap (λ (l : List (List ℕ)). map string_bytes found ++ l) none ∙ append-nil (map string_bytes found)) ∙ so_far

-- The labels of the text were printed after its lines.
pub outline-printed : (text : List ℕ) (asked options : ParseOptions) (front lines all : List ℕ)
    (definitions footnotes : List (String Global)) → options ≡ built_from asked → front ≡ [] →
    lines ≡ front ++ flat_map printed_line (outline 0 (tree options text)) →
    map string_bytes definitions ≡ (labels (tree options text)).definitions →
    map string_bytes footnotes ≡ (labels (tree options text)).footnotes →
    all ≡ lines ++ printed_end (map string_bytes definitions) (map string_bytes footnotes) →
    PrintsOutline Outlines built_from text asked all
unfolding printed
outline-printed text asked options front lines all definitions footnotes built none elines edefinitions efootnotes
    eall =
    let end : List ℕ = printed_end (map string_bytes definitions) (map string_bytes footnotes) in
    record {
      listing = record {
        lines = outline 0 (tree options text);
        definitions = map string_bytes definitions;
        footnotes = map string_bytes footnotes;
      };
      shown = record {
        lines = ap (λ (o : ParseOptions). outline 0 (tree o text)) built;
        definitions = edefinitions ∙ ap (λ (o : ParseOptions). (labels (tree o text)).definitions) built;
        footnotes = efootnotes ∙ ap (λ (o : ParseOptions). (labels (tree o text)).footnotes) built;
      };
      printing =
          eall
          ∙ ap (λ (l : List ℕ). l ++ end)
          (elines ∙ ap (λ (l : List ℕ). l ++ flat_map printed_line (outline 0 (tree options text))) none);
    }
