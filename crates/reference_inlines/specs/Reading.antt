-- How far a text is read, and what that comes to: what is open is closed by what follows.
use Rattle.std.specs.Prelude.{◌≡◌, ◌<◌, ℕ, suc, ◌+◌, ◌-◌, Bool, true, false, ◌&&◌, ◌||◌, ◌==◌, not, if◌then◌else◌, List}
use Rattle.std.specs.Prelude.{[]}
use Rattle.std.specs.Prelude.{◌∷◌}
use Rattle.std.specs.Prelude.{◌++◌, length, take, drop, reverse, Option, Some, None}
use Rattle.md_engine.specs.declared.event.Name.TheVariants as n
use Rattle.md_meaning.specs.Ascii.{right_bracket}
use Rattle.md_inlines.specs.Flanking.{run_at}
use Rattle.md_inlines.specs.declared.InlineOptions.{InlineOptions}
use Rattle.md_inlines.specs.Atoms.{atom}
use Rattle.md_inlines.specs.Brackets as inlines
use Rattle.md_inlines.specs.Brackets.{Level, closes, content, is_atom, is_run, is_text, opens}
use Rattle.reference_inlines.specs.Found.{atom_forest}
use Rattle.reference_inlines.specs.Nodes.{items_nodes}
use Rattle.reference_inlines.specs.Pairs.{MadePair, pair}
use Rattle.reference_inlines.specs.declared.brackets.Front.{Front}
use Rattle.reference_inlines.specs.declared.brackets.Front.TheVariants as f
use Rattle.reference_inlines.specs.declared.brackets.Open.{Open}
use Rattle.reference_inlines.specs.declared.brackets.Reading.{Reading}
use Rattle.reference_inlines.specs.declared.node.Node.{Node}
use Rattle.reference_inlines.specs.declared.node.Node.TheVariants as node

-- The front of a text, which depends on no label.

abbrev no_label : List ℕ → Bool
no_label label = false

abbrev pub is_mark : InlineOptions → ℕ → Bool
is_mark options b = inlines.is_mark options no_label no_label b

abbrev pub opening : InlineOptions → List ℕ → ℕ
opening options text = inlines.opening options no_label no_label text

abbrev pub front_at : InlineOptions → Bool → List ℕ → ℕ → List ℕ → inlines.Front
front_at options inside before b text = elim (atom options (not inside) before text) [
  | Some found ↦ is_atom found
  | None ↦
      (if is_mark options b then is_run (run_at b before text)
      else if not (opening options text == 0) then opens (opening options text)
      else if inside && (b == right_bracket) then closes
      else is_text)
]

abbrev pub front_of : Front → inlines.Front
front_of (f.Atom found) = is_atom (atom_forest found)
front_of (f.Run r) = is_run r
front_of (f.Opens len) = opens len
front_of f.Closes = closes
front_of f.Text = is_text

-- How far a text is read; of the brackets that are open, the innermost is first.
pub record State : Type 0 where
  pub list : List Node
  pub stack : List Open
  pub links : Bool
  pub at : ℕ

abbrev pub state_of : Reading → State
state_of reading = record {
  list = reading.nodes.items;
  stack = reverse reading.stack.items;
  links = reading.links;
  at = reading.at;
}

abbrev pub is_open : List Open → Bool
is_open [] = false
is_open (o ∷ stack) = true

-- more nodes, over so many bytes
abbrev pub added : State → List Node → ℕ → State
added s more len = record { list = s.list ++ more; stack = s.stack; links = s.links; at = s.at + len }

-- a bracket of so many bytes opens
abbrev pub opened : State → ℕ → State
opened s len = record {
  list = s.list ++ node.Piece n.Data len ∷ [];
  stack = record { at = s.at; len = len; nodes = length s.list; links = s.links } ∷ s.stack;
  links = false;
  at = s.at + len;
}

-- The nodes of a pair, after those before it.
abbrev pub with_made : Open → List Node → Option MadePair → List Node
with_made o list None = list ++ node.Piece n.Data 1 ∷ []
with_made o list (Some made) = take o.nodes list ++ made.list

abbrev pub made_link : Option MadePair → Bool
made_link None = false
made_link (Some made) = made.is_link

abbrev pub made_taken : Option MadePair → ℕ
made_taken None = 0
made_taken (Some made) = made.taken

-- a `]` closes this bracket
abbrev pub closed_by : Open → List Open → List Node → Bool → ℕ → Option MadePair → State
closed_by o stack list links at made = record {
  list = with_made o list made;
  stack = stack;
  links = o.links || (links || made_link made);
  at = at + 1 + made_taken made;
}

abbrev pub closed_with : State → Open → Option MadePair → State
closed_with s o made = closed_by o s.stack s.list s.links s.at made

module _ (options : InlineOptions) (is_definition is_footnote : List ℕ → Bool) (text : List ℕ) where
  -- the level from a place on
  abbrev pub level_at : Bool → ℕ → Level
  level_at inside at =
      content options is_definition is_footnote (length (drop at text)) inside (take at text) (drop at text)

  -- what the pair is whose `]` is at a place
  abbrev pub pair_at : Open → List Node → Bool → ℕ → List ℕ → Option MadePair
  pair_at o list links at after =
      pair options is_definition is_footnote o.len (drop 1 (drop o.nodes list)) links
      (drop o.len (drop o.at (take at text))) after

  -- all nodes of a text, of which these are read in the innermost level and nothing more is in it but this rest
  abbrev pub whole : List Open → List Node → Bool → List ℕ → List Node
  whole [] list links rest = list
  whole (o ∷ stack) list links [] = list
  whole (o ∷ stack) list links (close ∷ after) =
      let at : ℕ = length text - suc (length after) in
      let next : State = closed_by o stack list links at (pair_at o list links at after) in
      let level : Level = level_at (is_open stack) next.at in
      whole stack (next.list ++ items_nodes level.items) (next.links || level.links) level.rest

  -- all nodes of a text that is read so far
  abbrev pub left : State → List Node
  left s =
      let level : Level = level_at (is_open s.stack) s.at in
      whole s.stack (s.list ++ items_nodes level.items) (s.links || level.links) level.rest

  -- a step reads more, and what all nodes are stays
  pub record Goes (s next : State) : Type 0 where
    pub further : s.at < next.at
    pub same : left next ≡ left s

  -- the nodes of a text from a place on, with the runs of its outermost level
  abbrev pub level_nodes : ℕ → List Node
  level_nodes start = items_nodes (level_at false start).items
