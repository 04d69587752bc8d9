-- HTML (CommonMark 4.6), as leaves on one line: the line that begins it, which may end it too, and one more line of it.
use Rattle.std.specs.Prelude.{ℕ, Bool, true, false, ◌&&◌, not, if◌then◌else◌, List, [], ◌∷◌, ◌++◌, Option, Some, None}
use Rattle.std.specs.Option.{is_some}
use Rattle.md_engine.specs.declared.configuration.ParseOptions.{ParseOptions}
use Rattle.md_engine.specs.declared.event.Event.{Event}
use Rattle.md_engine.specs.declared.event.Name.TheVariants as n
use Rattle.md_engine.specs.declared.event.Point.{Point}
use Rattle.md_engine.specs.declared.state.Name.TheVariants as s
use Rattle.md_engine.specs.declared.state.flow.State.TheVariants as flow
use Rattle.md_engine.specs.declared.state.html_flow.State.TheVariants as its
use Rattle.md_engine.specs.declared.tokenizer.held_leaf.HeldLeaf.{HeldLeaf}
use Rattle.md_meaning.specs.Bytes.{is_end}
use Rattle.md_meaning.specs.Html.{HtmlKind, html_kind}
use Rattle.md_meaning.specs.Leaves as definition
use Rattle.md_meaning.specs.Leaves.{LeafResult, Finished, html_line}
use Rattle.md_meaning.specs.Rest.{Rest, is_blank, line_of, trim_start}
use Rattle.md_meaning.specs.State.{Leaf, OpenHtml}
use Rattle.md_meaning.specs.Tree.{Html}
use Rattle.md_leaves.specs.Further.{further_link}
use Rattle.md_literal.specs.Html.{ends_in_front, is_html, may_begin}
use Rattle.md_literal.specs.HtmlLine as rule
use Rattle.md_literal.specs.HtmlLine.{left_by, left_of}
use Rattle.md_literal.specs.HtmlRule.{further_at, html_at}
use Rattle.md_events.specs.Events.Nested.{around, enter_link, exit, pair}
use Rattle.md_events.specs.Events.Places.{past_text}
use Rattle.proof_frame.specs.Context.{context_of}
use Rattle.proof_frame.specs.LineLeaf.{LineLeaf}

-- By the rest of a line.

-- the kind that it begins
abbrev pub kind_begun : Rest → Option HtmlKind
kind_begun r = html_kind (trim_start r.bytes)

-- whether it begins HTML
abbrev pub starts_html : ParseOptions → HeldLeaf → Rest → Bool
starts_html options on r = is_some (definition.html_at options (context_of on) r)

-- what HTML of a kind becomes with it
abbrev pub begins_as : Option HtmlKind → Rest → LeafResult
begins_as None r = Finished (Html [])
begins_as (Some kind) r = html_line kind [] r

-- whether it continues open HTML: some kinds end before a blank line
abbrev pub continues_html : HeldLeaf → Rest → Bool
continues_html on r = is_html on && not (ends_in_front on && is_blank r.bytes)

-- what open HTML becomes with it
abbrev pub html_becomes : Leaf → Rest → LeafResult
html_becomes (OpenHtml kind lines) r = html_line kind lines r
html_becomes leaf r = Finished (Html [])

-- By the bytes of a line.

-- the whole line, where it is the first one, with its indent
abbrev pub html_events : List ℕ → Point → List Event
html_events line p = around n.HtmlFlow p (past_text line p) (pair n.HtmlFlowData p (past_text line p))

-- and where it is a further one, linked to the one in front: an empty one has no text
abbrev pub data_of : List ℕ → Point → List Event
data_of line p = if is_end line then [] else pair n.HtmlFlowData p (past_text line p)

abbrev pub further_events : List ℕ → Point → List Event
further_events line p =
    enter_link n.HtmlFlow p further_link ∷ data_of line p ++ exit n.HtmlFlow (past_text line p) ∷ []

-- HTML has no text parts, and what it is with all its lines shows when they are joined: so the events of a line after
-- that are not asked, and its block is that of one line.

-- The line that begins it.
abbrev pub html_leaf : LineLeaf
html_leaf = record {
  start = s.HtmlFlow its.Start;
  before = flow.BeforeHtml;
  ends = false;
  stays_blank = false;
  further = λ on. false;
  asked = λ on. true;
  heads = false;
  may_begin = λ on white. may_begin;
  trial = html_at;
  takes = λ options on cells. is_some (rule.kind_at options on cells);
  adds = λ options on cells p. rule.html_adds cells p;
  keeps = λ options on cells p. rule.html_keeps options on cells;
  starts = starts_html;
  holds = λ options on r. left_by (kind_begun r) r.bytes;
  becomes = λ options open_leaf r. begins_as (kind_begun r) r;
  block = λ r. Html (line_of r ∷ []);
  added = λ options on line p. html_events line p;
  unread = λ line p. [];
  done = λ bytes line p. [];
}

-- A further line, which is asked where HTML is open.
abbrev pub html_further : LineLeaf
html_further = record {
  start = s.HtmlFlow its.ContinuationStart;
  before = flow.Start;
  ends = false;
  stays_blank = false;
  further = is_html;
  asked = is_html;
  heads = false;
  may_begin = λ on white b. true;
  trial = λ options cells h. further_at cells h;
  takes = λ options on cells. is_html on && rule.html_continues on cells;
  adds = λ options on cells p. rule.html_adds_on cells p;
  keeps = λ options on cells p. rule.html_keeps_on on cells;
  starts = λ options on r. continues_html on r;
  holds = λ options on r. left_of on r.bytes;
  becomes = λ options open_leaf r. html_becomes open_leaf r;
  block = λ r. Html (line_of r ∷ []);
  added = λ options on line p. further_events line p;
  unread = λ line p. [];
  done = λ bytes line p. [];
}
