-- The laws of a leaf on one line: what the frame asks of each (`LineLeaf`), where this resolver sets such leaves.
use Rattle.std.proofs.Common.{◌≡◌, ℕ, ◌^◌, ◌<◌, ◌≤◌, Bool, true, false, cond, List, ◌++◌, length}
use Rattle.proof_frame.specs.HeldLeaf.{kind_of_leaf, left_by, may_continue, takes_lazy, has_lines}
use Rattle.std.specs.Prelude.{◌&&◌, ◌||◌, Some}
use Rattle.md_engine.specs.declared.configuration.ParseOptions.{ParseOptions}
use Rattle.md_engine.specs.declared.event.Content.{Content}
use Rattle.md_engine.specs.declared.event.Event.{Event}
use Rattle.md_engine.specs.declared.event.Point.{Point}
use Rattle.md_engine.specs.declared.tokenizer.Line.{Line}
use Rattle.md_engine.specs.declared.tokenizer.held_leaf.HeldLeaf.{HeldLeaf}
use Rattle.md_engine.specs.declared.tokenizer.held_leaf.HeldLeaf.TheVariants as held_leaf
use Rattle.md_engine.specs.Meaning.{Accepts, Cell, Fails, Here, Outcome, Refuses}
use Rattle.md_events.specs.Ahead.{begins_white, from_ending, line_bytes, line_end}
use Rattle.md_events.specs.Look.{seen_after}
use Rattle.md_events.specs.Spaces.{IsRest, any_size}
use Rattle.md_meaning.specs.Leaves.{Finished}
use Rattle.md_meaning.specs.Rest.{Rest, is_blank}
use Rattle.md_meaning.specs.State.{Leaf}
use Rattle.md_events.proofs.FeedLines.{Stops}
use Rattle.md_events.proofs.RestCells.{RestAt, rest_cells}
use Rattle.md_meaning.proofs.TextsLemmas.{NoEnding}
use Rattle.proof_frame.specs.RestLine.{rest_line}
use Rattle.proof_frame.specs.LineLeaf.{LineLeaf}
use Rattle.proof_frame.proofs.ClosedFacts.{IsClosed}
use Rattle.proof_frame.proofs.LeafFacts.{LeafFacts, LineAt}
use Rattle.proof_frame.proofs.LinedFacts.{AreLined}
use Rattle.proof_frame.proofs.NestFacts.{NestFacts}
use Rattle.proof_frame.proofs.OutsideFacts.{LineResolver}
use Rattle.proof_frame.proofs.SpannedFacts.{AreUnspanned}
use Rattle.proof_frame.proofs.UnturnedFacts.{AreUnturned}
use Rattle.proof_frame.proofs.ContentFacts.{NoContent, WantsContent}

-- what its trial leaves open: one that always ends on its line leaves that to flow, and all as it was
abbrev pub left_open : Bool → HeldLeaf → HeldLeaf → HeldLeaf
left_open true kept leaf = leaf
left_open false kept leaf = kept

-- a line that ends with what was added; its ending is that of a blank line if it stays blank, or was so already
abbrev pub whole_line : List Event → HeldLeaf → Bool → List Cell → Here → Outcome
whole_line added held blank cells h =
    Accepts
    (record h {
      events = h.events ++ added;
      point = line_end cells h.point;
      flags = record h.flags { leaf = held; blank = blank || h.flags.blank };
    })
    (from_ending cells)

-- a line is taken or refused; what is left of one that is taken is no longer than what there was, and begins with an
-- ending
abbrev pub Shrinks : ℕ → Outcome → Type 0
Shrinks n (Accepts h rest) = (length rest ≤ n) × (from_ending rest ≡ rest)
Shrinks n (Refuses s g) = Unit {0}
Shrinks n Fails = ⊥

-- the same of what one of two outcomes becomes
pub cond-shrinks : (n : ℕ) (x : Bool) (a b : Outcome) → Shrinks n a → Shrinks n b → Shrinks n (cond x a b)
cond-shrinks n true a b p q = p
cond-shrinks n false a b p q = q

pub record LeafLaws (resolver : LineResolver) (l : LineLeaf) : Type 1 where
  -- It takes no line where it may not begin, by what is first after whitespace, and whether such is in front.
  pub looked : (options : ParseOptions) (on : HeldLeaf) (cells : List Cell) (b : ℕ) → seen_after cells ≡ Some b →
      l.may_begin on (begins_white cells) b ≡ false → l.takes options on cells ≡ false
  -- A line of it that continues a leaf meets one on which a line may continue.
  pub meets : (options : ParseOptions) (on : HeldLeaf) (r : Rest) → l.starts options on r ≡ true →
      l.further on ≡ true → may_continue on ≡ true
  -- Where it is tried, it takes a line to its end, or refuses it and leaves all as it was.
  pub took : (options : ParseOptions) (cells : List Cell) (h : Here) → IsRest h.scratch → length cells ≤ any_size →
      l.takes options h.flags.leaf cells ≡ true →
      l.trial options cells h ≡
      whole_line (l.adds options h.flags.leaf cells h.point)
      (left_open l.ends (l.keeps options h.flags.leaf cells h.point) h.flags.leaf)
      (l.stays_blank && is_blank (line_bytes cells)) cells h
  pub refused : (options : ParseOptions) (cells : List Cell) (h : Here) → l.asked h.flags.leaf ≡ true →
      IsRest h.scratch → l.takes options h.flags.leaf cells ≡ false →
      l.trial options cells h ≡ Refuses h.scratch h.flags
  pub shrinks : (options : ParseOptions) (cells : List Cell) (h : Here) →
      Shrinks (length cells) (l.trial options cells h)
  -- It takes the lines that the line definition says, and adds what it says of their bytes.
  pub fits : (options : ParseOptions) (on : HeldLeaf) (said : Line) (text following : List ℕ) (r : Rest) (p : Point)
      (stop : List Cell) →
      RestAt text following r p → NoEnding r.bytes → Stops stop → length (rest_cells said r p ++ stop) < 2 ^ 63 →
      l.takes options on (rest_cells said r p ++ stop) ≡ l.starts options on r
  pub adds_is : (options : ParseOptions) (on : HeldLeaf) (said : Line) (text following : List ℕ) (r : Rest) (p : Point)
      (stop : List Cell) →
      RestAt text following r p → NoEnding r.bytes → Stops stop → length (rest_cells said r p ++ stop) < 2 ^ 63 →
      l.starts options on r ≡ true →
      l.adds options on (rest_cells said r p ++ stop) p ≡ l.added options on (rest_line r) p
  -- What is held after it is what the line definition has there; nothing, where it always ends on its line.
  pub keeps_is : (options : ParseOptions) (on : HeldLeaf) (said : Line) (text following : List ℕ) (r : Rest) (p : Point)
      (stop : List Cell) →
      RestAt text following r p → NoEnding r.bytes → Stops stop → length (rest_cells said r p ++ stop) < 2 ^ 63 →
      l.starts options on r ≡ true → l.keeps options on (rest_cells said r p ++ stop) p ≡ l.holds options on r
  pub shut : l.ends ≡ true → (options : ParseOptions) (on : HeldLeaf) →
      ((cells : List Cell) (p : Point) → l.keeps options on cells p ≡ held_leaf.None)
      × ((r : Rest) → l.holds options on r ≡ held_leaf.None)
  -- Where it always ends on its line it becomes its block; else what is held after it is the leaf that it becomes.
  pub finishes : l.ends ≡ true → (options : ParseOptions) (leaf : Leaf) (r : Rest) →
      l.becomes options leaf r ≡ Finished (l.block r)
  pub holds_is : (options : ParseOptions) (leaf : Leaf) (r : Rest) → l.starts options (kind_of_leaf leaf) r ≡ true →
      kind_of_leaf (left_by (l.becomes options leaf r)) ≡ l.holds options (kind_of_leaf leaf) r
  -- No line continues it lazily.
  pub not_lazy : (options : ParseOptions) (on : HeldLeaf) →
      ((cells : List Cell) (p : Point) → takes_lazy (l.keeps options on cells p) ≡ false)
      × ((r : Rest) → takes_lazy (l.holds options on r) ≡ false)
  -- No content is in what it adds: its links are to text, to strings, and to the line in front.
  pub no_content : (wants : Content → Bool) → WantsContent wants →
      (options : ParseOptions) (on : HeldLeaf) (cells : List Cell) (p : Point) →
      NoContent wants (l.adds options on cells p)
  -- If it is open after its line, continues no text and takes no head, it has the events of a leaf of several lines.
  pub lined : l.ends ≡ false → l.heads ≡ false → (options : ParseOptions) (on : HeldLeaf) (r : Rest) (p : Point) →
      l.starts options on r ≡ true → (l.further on ≡ true → has_lines on ≡ true) →
      AreLined (l.added options on (rest_line r) p)
  -- If it always ends on its line, the walk that joins the lines of leaves of several passes it as its states leave it,
  -- and it holds no other block;
  pub unjoined : l.ends ≡ true → (options : ParseOptions) (on : HeldLeaf) (r : Rest) (p : Point) →
      l.starts options on r ≡ true → AreUnspanned (l.added options on (rest_line r) p)
  pub alone : l.ends ≡ true → (options : ParseOptions) (on : HeldLeaf) (r : Rest) (p : Point) →
      l.starts options on r ≡ true → IsClosed (l.added options on (rest_line r) p)
  -- what it adds fits the resolvers,
  pub nests : l.ends ≡ true → (options : ParseOptions) (on : HeldLeaf) (r : Rest) (p : Point) →
      l.starts options on r ≡ true → NestFacts (l.added options on (rest_line r) p)
  -- the resolver sets what is its own,
  pub set : l.ends ≡ true → (options : ParseOptions) (on : HeldLeaf) (r : Rest) (p : Point) (es : List Event) →
      l.starts options on r ≡ true →
      resolver.resolved (l.added options on (rest_line r) p ++ es) ≡ l.unread (rest_line r) p ++ resolver.resolved es
  -- and those after it pass what it has set;
  pub unturned : l.ends ≡ true → (options : ParseOptions) (on : HeldLeaf) (r : Rest) (p : Point) →
      l.starts options on r ≡ true → AreUnturned (l.unread (rest_line r) p)
  pub unspanned : l.ends ≡ true → (options : ParseOptions) (on : HeldLeaf) (r : Rest) (p : Point) →
      l.starts options on r ≡ true → AreUnspanned (l.unread (rest_line r) p)
  -- its events are known, and show its block.
  pub facts : l.ends ≡ true → (options : ParseOptions) (on : HeldLeaf) (bytes : List ℕ) (r : Rest) (p q : Point) →
      l.starts options on r ≡ true →
      LineAt bytes r (rest_line r) p q →
      LeafFacts bytes (Some (l.block r)) true p q (l.unread (rest_line r) p) (l.done bytes (rest_line r) p)
