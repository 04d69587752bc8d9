-- Indented code (CommonMark 4.4), as leaves on one line: the line that begins it, and one more line of open code, which
-- may be blank.
use Rattle.std.specs.Prelude.{ℕ, Bool, true, false, ◌&&◌, ◌||◌, nat_le, not, if◌then◌else◌, List, [], ◌∷◌, ◌++◌}
use Rattle.std.specs.Option.{is_some}
use Rattle.md_engine.specs.declared.configuration.ParseOptions.{ParseOptions}
use Rattle.md_engine.specs.declared.event.Event.{Event}
use Rattle.md_engine.specs.declared.event.Name.TheVariants as n
use Rattle.md_engine.specs.declared.event.Point.{Point}
use Rattle.md_engine.specs.declared.state.Name.TheVariants as s
use Rattle.md_engine.specs.declared.state.code_indented.State.TheVariants as its
use Rattle.md_engine.specs.declared.state.flow.State.TheVariants as flow
use Rattle.md_engine.specs.declared.tokenizer.held_leaf.HeldLeaf.{HeldLeaf}
use Rattle.md_engine.specs.declared.tokenizer.held_leaf.HeldLeaf.TheVariants as held_leaf
use Rattle.md_literal.specs.Code.{may_open}
use Rattle.md_literal.specs.CodeRule as rule
use Rattle.md_leaves.specs.Further.{further_link}
use Rattle.md_events.specs.Events.Nested.{enter, enter_link, exit}
use Rattle.md_events.specs.Events.Places.{past_text}
use Rattle.md_meaning.specs.Leaves.{LeafResult, Opened, code_line}
use Rattle.md_meaning.specs.Rest.{Rest, indent, is_blank}
use Rattle.md_meaning.specs.State.{Leaf, OpenCode}
use Rattle.md_meaning.specs.Tree.{Code, Line}
use Rattle.proof_frame.specs.LineColumns.{lost_line, rest_of}
use Rattle.proof_frame.specs.LineLeaf.{LineLeaf}

-- whether code is open
abbrev pub is_code : HeldLeaf → Bool
is_code held_leaf.Code = true
is_code _ = false

-- By the rest of a line.

-- whether code begins on it: an indent of 4 columns and text after it, where no text is open
abbrev pub starts_code : ParseOptions → HeldLeaf → Rest → Bool
starts_code options on r =
    options.constructs.code_indented && may_open on && nat_le 4 (indent r) && not (is_blank r.bytes)

-- whether it continues open code: it is blank, or has such an indent
abbrev pub continues_code : HeldLeaf → Rest → Bool
continues_code on r = is_code on && (is_blank r.bytes || nat_le 4 (indent r))

-- the lines that code has before it
abbrev pub lines_of : Leaf → List Line
lines_of (OpenCode lines) = lines
lines_of leaf = []

-- what code becomes with one line more
abbrev pub code_becomes : Leaf → Rest → LeafResult
code_becomes leaf r = Opened (OpenCode (lines_of leaf ++ code_line r ∷ []))

-- By the bytes of a line.

-- What is on a line of code: at most four columns of whitespace, and a chunk over the rest, if there is any.
abbrev pub code_parts : Rest → Point → Point → List Event
code_parts r p q = lost_line n.CodeFlowChunk 4 r p q

-- a line with text, which begins so
abbrev pub line_parts : Event → Rest → Point → Point → List Event
line_parts begin r p q = begin ∷ code_parts r p q ++ exit n.CodeIndented q ∷ []

-- a further line is linked to the one in front; a blank one is bare, as it may be after the code
abbrev pub further_parts : Rest → Point → Point → List Event
further_parts r p q =
    if is_blank r.bytes then code_parts r p q else line_parts (enter_link n.CodeIndented p further_link) r p q

-- the whole line, where it is the first one, and where it is a further one
abbrev pub code_events : List ℕ → Point → List Event
code_events line p = line_parts (enter n.CodeIndented p) (rest_of p line) p (past_text line p)

abbrev pub further_events : List ℕ → Point → List Event
further_events line p = further_parts (rest_of p line) p (past_text line p)

-- Code has no text parts, and what it is with all its lines shows when they are joined: so the events of a line after
-- that are not asked, and its block is that of one line.

-- The line that begins it, which is tried before all other leaves.
abbrev pub code_leaf : LineLeaf
code_leaf = record {
  start = s.CodeIndented its.Start;
  before = flow.BeforeCodeIndented;
  ends = false;
  stays_blank = false;
  further = λ on. false;
  asked = λ on. true;
  heads = false;
  may_begin = λ on white b. white;
  trial = rule.code_at;
  takes = λ options on cells. is_some (rule.code_begins options on cells);
  adds = λ options on cells p. rule.code_adds cells p;
  keeps = λ options on cells p. held_leaf.Code;
  starts = starts_code;
  holds = λ options on r. held_leaf.Code;
  becomes = λ options open_leaf r. Opened (OpenCode (code_line r ∷ []));
  block = λ r. Code (code_line r ∷ []);
  added = λ options on line p. code_events line p;
  unread = λ line p. [];
  done = λ bytes line p. [];
}

-- A further line, which is asked where code is open.
abbrev pub code_further : LineLeaf
code_further = record {
  start = s.CodeIndented its.FurtherStart;
  before = flow.Start;
  ends = false;
  stays_blank = true;
  further = is_code;
  asked = is_code;
  heads = false;
  may_begin = λ on white b. true;
  trial = λ options cells h. rule.code_further cells h;
  takes = λ options on cells. is_code on && is_some (rule.code_continues on cells);
  adds = λ options on cells p. rule.code_adds_on cells p;
  keeps = λ options on cells p. held_leaf.Code;
  starts = λ options on r. continues_code on r;
  holds = λ options on r. held_leaf.Code;
  becomes = λ options open_leaf r. code_becomes open_leaf r;
  block = λ r. Code (code_line r ∷ []);
  added = λ options on line p. further_events line p;
  unread = λ line p. [];
  done = λ bytes line p. [];
}
