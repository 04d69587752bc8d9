-- Where a part of a document is: each is at some place, and mostly the place does not matter.
use Rattle.std.proofs.Common.{◌≡◌, ℕ, Bool, true, false, cond, ◌&&◌, List, [], ◌∷◌, ◌++◌, take, drop, refl, ap, ◌∙◌}
use Rattle.std.specs.Prelude.{Option, Some, None, slice_index}
use Rattle.md_engine.specs.declared.event.Event.{Event}
use Rattle.md_engine.specs.declared.event.Kind.{Kind}
use Rattle.md_engine.specs.declared.event.Kind.TheVariants.{Enter, Exit}
use Rattle.md_meaning.specs.Label.{Labels}
use Rattle.md_events.specs.declared.inline.Chunk.{Chunk}
use Rattle.md_events.specs.declared.inline.PartKind.{PartKind}
use Rattle.md_events.specs.declared.inline.PartKind.TheVariants as kind
use Rattle.md_events.specs.declared.inline.PartPlace.{PartPlace}
use Rattle.md_events.specs.Events.Inline.{Part, pieces}
use Rattle.md_events.specs.Events.Tiles.{chunks, inside_part, part_at, part_kind, part_of, parts}
use Rattle.md_events.specs.TextPart.{Document, IsTextPart, IsTextPartAt, place_of}
use Rattle.md_inline_events.specs.Forest.{Forest}
use Rattle.md_inline_events.specs.Woven.{read_text, woven_events}
use Rattle.md_inlines.specs.declared.InlineOptions.{InlineOptions}
use Rattle.md_inlines.specs.Content.{check, content, forest_after, has_form}
use Rattle.md_inlines.specs.Task.{is_task}
use Rattle.markdown_blocks.specs.PartPlaces.{IsPlaceOf}
use Rattle.markdown_inlines.specs.Layer.{MeansAsAt, labels_in, may_have_check, part_forest, place_matters}

-- Each part begins with an event.

one-of : (held : PartKind) (more : List Chunk) (first second : Part) (rest : List Part) →
    part_of held more ≡ first ∷ second ∷ rest → ⊥
one-of held [] first second rest is = cc
one-of held (chunk ∷ more) first second rest is = cc

one-at : (begins : Kind) (held : Option PartKind) (es : List Event) (first second : Part) (rest : List Part) →
    part_at begins held es ≡ first ∷ second ∷ rest → ⊥
one-at Enter (Some held) es first second rest is =
    one-of held (chunks (pieces (inside_part es))) first second rest is
one-at Enter None es first second rest is = cc
one-at Exit held es first second rest is = cc

record Beginning (blocks : List Event) (part : Part) : Type 0 where
  before : List Event
  begin : Event
  following : List Event
  among : blocks ≡ before ++ begin ∷ following
  begins : part_at begin.kind (part_kind begin.name) following ≡ part ∷ []

later : (e : Event) (es : List Event) (part : Part) → Beginning es part → Beginning (e ∷ es) part
later e es part b = record {
  before = e ∷ b.before;
  begin = b.begin;
  following = b.following;
  among = ap (λ (l : List Event). e ∷ l) b.among;
  begins = b.begins;
}

beginning : (blocks : List Event) (front rest : List Part) (part : Part) → parts blocks ≡ front ++ part ∷ rest →
    Beginning blocks part
beginning [] [] rest part is = cc
beginning [] (other ∷ front) rest part is = cc
beginning (e ∷ es) front rest part is =
    go (part_at e.kind (part_kind e.name) es) refl front is (λ (f : List Part). beginning es f rest part)
  where
    go : (own : List Part) → part_at e.kind (part_kind e.name) es ≡ own → (front : List Part) →
        own ++ parts es ≡ front ++ part ∷ rest →
        ((f : List Part) → parts es ≡ f ++ part ∷ rest → Beginning es part) → Beginning (e ∷ es) part
    go [] own front is further = later e es part (further front is)
    go (p ∷ []) own [] is further =
        let same : p ≡ part = cc in record {
          before = [];
          begin = e;
          following = es;
          among = refl;
          begins = own ∙ ap (λ (q : Part). q ∷ []) same;
        }
    go (p ∷ []) own (other ∷ front) is further =
        let tail : parts es ≡ front ++ part ∷ rest = cc in later e es part (further front tail)
    go (p ∷ q ∷ more) own front is further =
        absurd (one-at e.kind (part_kind e.name) es p q more own)

pub placed : (document : Document) (part : Part) → IsTextPart document part →
    (place : PartPlace) × IsTextPartAt document part place
placed document part is =
    let b : Beginning is.blocks part = beginning is.blocks is.before is.following part is.among in (
      place_of b.before b.begin,
      record {
        blocks = is.blocks;
        are = is.are;
        before = b.before;
        begin = b.begin;
        following = b.following;
        among = b.among;
        begins = b.begins;
        place_is = refl;
      },
    )

-- Where no check of a task begins a text, its content is the same in the first paragraph of an item as elsewhere.
pub content-anywhere : (options : InlineOptions) (labels : Labels) (text : List ℕ) (first other : Bool) →
    options.constructs.gfm_task_list_item && is_task text ≡ false →
    content options labels first text ≡ content options labels other text
content-anywhere options labels text first other none =
    go options.constructs.gfm_task_list_item first other (is_task text) none
  where
    checked : Forest
    checked =
        check (slice_index text 1)
        (forest_after options (has_form labels.definitions) (has_form labels.footnotes) (take 3 text) (drop 3 text))

    plain : Forest
    plain = forest_after options (has_form labels.definitions) (has_form labels.footnotes) [] text

    go : (on x y task : Bool) → on && task ≡ false →
        cond (on && x && task) checked plain ≡ cond (on && y && task) checked plain
    go false x y task none = refl
    go true true y true none = cc
    go true false y true none = cc
    go true true true false none = refl
    go true true false false none = refl
    go true false true false none = refl
    go true false false false none = refl

-- So where the place does not matter, a part means the same everywhere.
pub anywhere : (options : InlineOptions) (document : Document) (held : Part) (place : PartPlace) →
    IsTextPart document held → place_matters options held.kind (read_text document.bytes held) ≡ false →
    MeansAsAt options document held place
anywhere options document held place is none =
    let found : (own : PartPlace) × IsTextPartAt document held own = placed document held is in record {
      own = found.0;
      at = found.1;
      same = ap (λ (f : Forest). woven_events document.bytes held f) (same held.kind found.0 none);
    }
  where
    same : (of : PartKind) (own : PartPlace) → place_matters options of (read_text document.bytes held) ≡ false →
        part_forest options (labels_in document) place of (read_text document.bytes held) ≡
        part_forest options (labels_in document) own of (read_text document.bytes held)
    same kind.Text own none =
        content-anywhere options (labels_in document) (read_text document.bytes held) (may_have_check place)
        (may_have_check own) none
    same kind.String own none = refl

-- where it is
pub means-at : (options : InlineOptions) (document : Document) (held : Part) (place : PartPlace) →
    IsPlaceOf document held place → MeansAsAt options document held place
means-at options document held place is = record { own = place; at = is.at; same = refl }
