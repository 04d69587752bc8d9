-- How far a text is read, and what items all of it has: what is open is closed by what follows.
use Rattle.std.specs.Prelude.{ℕ, suc, ◌+◌, ◌-◌, Bool, true, false, ◌&&◌, ◌||◌, ◌==◌, not, if◌then◌else◌, List}
use Rattle.std.specs.Prelude.{[], ◌∷◌, ◌++◌, length, take, drop, Option, Some, None}
use Rattle.md_meaning.specs.Ascii.{right_bracket}
use Rattle.md_inlines.specs.Flanking.{run_at}
use Rattle.md_inlines.specs.declared.InlineOptions.{InlineOptions}
use Rattle.md_inlines.specs.Atoms.{atom}
use Rattle.md_inlines.specs.Brackets as inlines
use Rattle.md_inlines.specs.Brackets.{Level, Pair, closes, content, is_atom, is_run, is_text, opens, pair, text_item}
use Rattle.md_inlines.specs.Emphasis.{Item, read}
use Rattle.markdown_inlines.specs.Found.{atom_forest}
use Rattle.markdown_inlines.specs.declared.brackets.Front.{Front}
use Rattle.markdown_inlines.specs.declared.brackets.Front.TheVariants as f
use Rattle.markdown_inlines.specs.declared.brackets.Opening.{Opening}
use Rattle.markdown_inlines.specs.declared.brackets.Opening.TheVariants as o

-- The front of a text, which depends on no label.

abbrev no_label : List ℕ → Bool
no_label label = false

abbrev pub is_mark : InlineOptions → ℕ → Bool
is_mark options b = inlines.is_mark options no_label no_label b

abbrev pub opening : InlineOptions → List ℕ → ℕ
opening options text = inlines.opening options no_label no_label text

abbrev pub front_at : InlineOptions → Bool → List ℕ → ℕ → List ℕ → inlines.Front
front_at options inside before b text = elim (atom options (not inside) before text) [
  | Some found ↦ is_atom found
  | None ↦
      (if is_mark options b then is_run (run_at b before text)
      else if not (opening options text == 0) then opens (opening options text)
      else if inside && (b == right_bracket) then closes
      else is_text)
]

abbrev pub front_of : Front → inlines.Front
front_of (f.Found found) = is_atom (atom_forest found)
front_of (f.Marks r) = is_run r
front_of f.Link = opens 1
front_of f.Image = opens 2
front_of f.Closes = closes
front_of f.Text = is_text

-- how many bytes of brackets open
abbrev pub opening_len : Opening → ℕ
opening_len o.Nothing = 0
opening_len o.Link = 1
opening_len o.Image = 2

-- A bracket that is open: where it is, how many bytes it has, and the items that are before it in its level. `links`
-- says that a link is among them.
pub record Frame : Type 0 where
  pub at : ℕ
  pub len : ℕ
  pub items : List Item
  pub links : Bool

-- How far a text is read; of the brackets that are open, the innermost is first.
pub record State : Type 0 where
  pub frames : List Frame
  pub items : List Item
  pub links : Bool
  pub at : ℕ

abbrev pub is_open : List Frame → Bool
is_open [] = false
is_open (frame ∷ frames) = true

-- more items, over so many bytes
abbrev pub added : State → Item → ℕ → State
added s item len =
    record { frames = s.frames; items = s.items ++ item ∷ []; links = s.links; at = s.at + len }

-- a bracket of so many bytes opens
abbrev pub opened : State → ℕ → State
opened s len = record {
  frames = record { at = s.at; len = len; items = s.items; links = s.links } ∷ s.frames;
  items = [];
  links = false;
  at = s.at + len;
}

-- The items of a pair, after those before it.
abbrev pub closed_items : Frame → List Item → Option Pair → List Item
closed_items frame items None = frame.items ++ (text_item frame.len ∷ items ++ text_item 1 ∷ [])
closed_items frame items (Some found) = frame.items ++ read found.forest ∷ []

abbrev pub pair_link : Option Pair → Bool
pair_link None = false
pair_link (Some found) = found.is_link

abbrev pub pair_taken : Option Pair → ℕ
pair_taken None = 0
pair_taken (Some found) = found.taken

-- a `]` closes this bracket
abbrev pub closed_by : Frame → List Frame → List Item → Bool → ℕ → Option Pair → State
closed_by frame frames items links at found = record {
  frames = frames;
  items = closed_items frame items found;
  links = frame.links || (links || pair_link found);
  at = at + 1 + pair_taken found;
}

-- brackets that nothing closes are text
abbrev pub unwound : List Frame → List Item → List Item
unwound [] items = items
unwound (frame ∷ frames) items = unwound frames (frame.items ++ text_item frame.len ∷ items)

module _ (options : InlineOptions) (is_definition is_footnote : List ℕ → Bool) (text : List ℕ) where
  -- the level from a place on
  abbrev pub level_at : Bool → ℕ → Level
  level_at inside at =
      content options is_definition is_footnote (length (drop at text)) inside (take at text) (drop at text)

  -- what the pair is whose `]` is at a place
  abbrev pub pair_at : Frame → List Item → Bool → ℕ → List ℕ → Option Pair
  pair_at frame items links at after =
      pair options is_definition is_footnote frame.len (record { items = items; links = links; rest = [] })
      (drop frame.len (drop frame.at (take at text))) after

  -- all items of a text, of which these are read in the innermost level and nothing more is in it but this rest
  abbrev pub whole : List Frame → List Item → Bool → List ℕ → List Item
  whole [] items links rest = items
  whole (frame ∷ frames) items links [] = unwound (frame ∷ frames) items
  whole (frame ∷ frames) items links (close ∷ after) =
      let at : ℕ = length text - suc (length after) in
      let next : State = closed_by frame frames items links at (pair_at frame items links at after) in
      let level : Level = level_at (is_open frames) next.at in
      whole frames (next.items ++ level.items) (next.links || level.links) level.rest

  -- all items of a text that is read so far
  abbrev pub left : State → List Item
  left s =
      let level : Level = level_at (is_open s.frames) s.at in
      whole s.frames (s.items ++ level.items) (s.links || level.links) level.rest
