-- What the steps of a reader do to its lists.
use Rattle.std.specs.Prelude.{◌≡◌, ◌<◌, ℕ, ◌+◌, ◌-◌, Bool, true, false, List, [], ◌∷◌, ◌++◌, length, map}
use Rattle.std.specs.Prelude.{Option, string_bytes}
use Rattle.md_engine.specs.declared.event.Name.TheVariants as n
use Rattle.md_inline_events.specs.Forest.{Forest, size}
use Rattle.md_inlines.specs.Brackets as inlines
use Rattle.md_inlines.specs.Content.{has_form}
use Rattle.md_inlines.specs.Emphasis.{Item, emphasis}
use Rattle.md_inlines.specs.Targets.{call, image, link}
use Rattle.md_inlines.specs.declared.InlineOptions.{InlineOptions}
use Rattle.md_inlines.specs.declared.Run.{Run}
use Rattle.markdown_inlines.specs.Filled.{placed, room}
use Rattle.markdown_inlines.specs.Found.{atom_size, atom_spans}
use Rattle.markdown_inlines.specs.Leading.{leads}
use Rattle.markdown_inlines.specs.Opened.{bracket_room}
use Rattle.markdown_inlines.specs.Reading.{level_at}
use Rattle.markdown_inlines.specs.Spans.{holes, span_of}
use Rattle.markdown_inlines.specs.declared.atom.Atom.{Atom}
use Rattle.markdown_inlines.specs.declared.brackets.Labels.{Labels}
use Rattle.markdown_inlines.specs.declared.brackets.Extent.{Extent}
use Rattle.markdown_inlines.specs.declared.brackets.Pair.{Pair}
use Rattle.markdown_inlines.specs.declared.brackets.Source.{Source}
use Rattle.markdown_inlines.specs.declared.target.Target.{Target}
use Rattle.markdown_inlines.specs.declared.brackets.Pair.TheVariants as p
use Rattle.markdown_inlines.specs.declared.brackets.Reading.{Reading}
use Rattle.markdown_inlines.specs.declared.span.Span.{Span}

-- the lists stay, but for these
pub record IsAtomAdded (atom : Atom) (old new : Reading) : Type 0 where
  pub spans : new.spans.items ≡ old.spans.items ++ atom_spans old.at atom
  pub runs : new.runs.items ≡ old.runs.items
  pub brackets : new.brackets.items ≡ old.brackets.items
  pub links : new.links ≡ old.links
  pub at : new.at ≡ old.at + atom_size atom

pub record IsRunAdded (r : Run) (old new : Reading) : Type 0 where
  pub spans : new.spans.items ≡ old.spans.items ++ holes (room r)
  pub runs : new.runs.items ≡ old.runs.items ++ placed r old.at (length old.spans.items) ∷ []
  pub brackets : new.brackets.items ≡ old.brackets.items
  pub links : new.links ≡ old.links
  pub at : new.at ≡ old.at + r.left

pub record IsTextAdded (old new : Reading) : Type 0 where
  pub spans : new.spans.items ≡ old.spans.items
  pub runs : new.runs.items ≡ old.runs.items
  pub brackets : new.brackets.items ≡ old.brackets.items
  pub links : new.links ≡ old.links
  pub at : new.at ≡ old.at + 1

pub record IsOpened (len : ℕ) (old new : Reading) : Type 0 where
  pub spans : new.spans.items ≡ old.spans.items ++ holes bracket_room
  pub runs : new.runs.items ≡ old.runs.items
  pub brackets : new.brackets.items ≡
      old.brackets.items
      ++ record {
        at = old.at;
        len = len;
        place = length old.spans.items;
        runs = length old.runs.items;
        links = old.links;
      } ∷ []
  pub links : new.links ≡ false
  pub at : new.at ≡ old.at + len

-- Pairs of brackets as a reader has them. The innermost level has these items; these bytes are between the brackets,
-- and these follow.

abbrev pub leading_forest : Bool → Forest → Forest → Forest
leading_forest true inside leads = link inside leads
leading_forest false inside leads = image inside leads

abbrev pub leading_made : InlineOptions → List Item → List ℕ → Bool → Target → inlines.Pair
leading_made options items after is_link t = record {
  forest = leading_forest is_link (emphasis options.gfm_strikethrough_single_tilde items) (leads options after t);
  taken = size (leads options after t);
  is_link = is_link;
}

abbrev pub call_made : ℕ → inlines.Pair
call_made len = record { forest = call len; taken = 0; is_link = false }

abbrev pub pair_made : InlineOptions → List Item → List ℕ → List ℕ → Pair → inlines.Pair
pair_made options items inside after (p.Leading is_link t) = leading_made options items after is_link t
pair_made options items inside after p.Call = call_made (length inside - 1)

-- how many bytes the first bracket of a link and of an image has
abbrev pub first_len : Bool → ℕ
first_len true = 1
first_len false = 2

-- what is so of the bytes of a pair
abbrev pub IsKind : ℕ → List ℕ → Pair → Type 0
IsKind len inside (p.Leading true t) = len ≡ 2 → ⊥
IsKind len inside (p.Leading false t) = len ≡ 2
IsKind len inside p.Call = (len ≡ 2 → ⊥) × (0 < length inside)

abbrev pub pair_at : InlineOptions → (List ℕ → Bool) → (List ℕ → Bool) → ℕ → List Item → Bool → List ℕ → List ℕ →
    Option inlines.Pair
pair_at options is_definition is_footnote len items links inside after =
    inlines.pair options is_definition is_footnote len (record { items = items; links = links; rest = [] }) inside
    after

-- The names of a link, of an image and of a footnote call.

abbrev pub link_names : Labels
link_names =
    record { whole = n.Link; bracket = n.LabelLink; first = n.LabelMarker; second = n.LabelMarker }

abbrev pub image_names : Labels
image_names =
    record { whole = n.Image; bracket = n.LabelImage; first = n.LabelImageMarker; second = n.LabelMarker }

abbrev pub names_of : Bool → Labels
names_of true = link_names
names_of false = image_names

abbrev pub call_names : Labels
call_names = record {
  whole = n.GfmFootnoteCall;
  bracket = n.GfmFootnoteCallLabel;
  first = n.LabelMarker;
  second = n.GfmFootnoteCallMarker;
}

-- The spans of a label: its first bracket and its text, and its end.

abbrev pub label_spans : Labels → Extent → List Span
label_spans names e =
    span_of names.whole e.at e.end ∷ span_of n.Label e.at e.label ∷ span_of names.bracket e.at e.text
    ∷ span_of names.first e.at e.marker ∷ span_of names.second e.marker e.text ∷ span_of n.LabelText e.text e.close ∷ []

abbrev pub end_spans : ℕ → List Span
end_spans close = span_of n.LabelEnd close (close + 1) ∷ span_of n.LabelMarker close (close + 1) ∷ []

-- the forest of a text from a place on
abbrev pub level_forest : Source → Forest
level_forest source =
    emphasis source.options.now.gfm_strikethrough_single_tilde
    (level_at source.options.now (has_form (map string_bytes source.labels.now.definitions.forms.now))
    (has_form (map string_bytes source.labels.now.footnotes.forms.now)) source.text.now false source.start).items
