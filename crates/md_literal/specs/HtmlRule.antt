-- The rule of HTML, as what is left of it at each state (CommonMark 4.6).
use Rattle.std.specs.Prelude.{◌≡◌, ℕ, ◌-◌, Bool, true, false, ◌==◌, if◌then◌else◌, List, [], ◌∷◌, ◌++◌, take}
use Rattle.std.specs.Prelude.{Option, Some, None, codes}
use Rattle.md_engine.specs.declared.configuration.ParseOptions.{ParseOptions}
use Rattle.md_engine.specs.declared.event.Name.TheVariants.{HtmlFlow, HtmlFlowData}
use Rattle.md_engine.specs.declared.state.Name.TheVariants as n
use Rattle.md_engine.specs.declared.state.html_flow.State.{State as HtmlState}
use Rattle.md_engine.specs.declared.state.html_flow.State.TheVariants as its
use Rattle.md_engine.specs.declared.tokenizer.held_leaf.HeldLeaf.{HeldLeaf}
use Rattle.md_engine.specs.declared.tokenizer.held_leaf.HeldLeaf.TheVariants as held_leaf
use Rattle.md_engine.specs.declared.state.State.{State}
use Rattle.md_engine.specs.Meaning.{Accepts, Behaviour, Cell, Here, Outcome, Refuses}
use Rattle.md_engine.specs.Scheme.{position}
use Rattle.md_engine.specs.Sees.{IsStep}
use Rattle.md_engine.specs.World.{World, looks}
use Rattle.md_meaning.specs.Bytes.{after, is_end}
use Rattle.md_meaning.specs.Html.{HtmlKind, Raw, Comment, Instruction, Cdata, Basic, Complete}
use Rattle.md_meaning.specs.Html.{after_assignment, after_next, after_value, closes_tag, ends_opening, holds_word}
use Rattle.md_meaning.specs.Html.{html_ends, html_kind, is_attribute_byte, is_value_byte}
use Rattle.md_meaning.specs.Lines.{begins_with}
use Rattle.md_meaning.specs.Rest.{is_blank, trim_start}
use Rattle.md_leaves.specs.Further.{further_link}
use Rattle.md_literal.specs.Html.{HtmlInvariant, cleared, ends_in_front, is_open_text, name_text, stop_of}
use Rattle.md_literal.specs.Html.{html_transition}
use Rattle.md_events.specs.Ahead.{from_ending, line_bytes, line_end, white_rest}
use Rattle.md_events.specs.Events.Nested.{enter, enter_link, exit}
use Rattle.md_events.specs.Spaces.{small_indent}
use Rattle.md_events.specs.States.{IsState, IsSureState}
use Rattle.md_engine.specs.declared.tokenizer.Tokenizer.{Tokenizer}
use Rattle.md_engine.specs.Full.{IsFull}

-- where the text of a line begins
abbrev pub entering : Here → Here
entering h = record h { events = h.events ++ enter HtmlFlowData h.point ∷ [] }

-- a line is taken to its end, and this is open after it
abbrev pub closes : HeldLeaf → List Cell → Here → Outcome
closes leaf cells h =
    let q = line_end cells h.point in
    Accepts
    (record h {
      events = h.events ++ exit HtmlFlowData q ∷ exit HtmlFlow q ∷ [];
      point = q;
      scratch = cleared h.scratch;
      flags = record h.flags { leaf = leaf };
    })
    (from_ending cells)

abbrev pub refuses : Here → Outcome
refuses h = Refuses (cleared h.scratch) h.flags

-- The first line.

-- the kind that may begin where this leaf is open: the last one does not interrupt text
abbrev pub allowed : HeldLeaf → Option HtmlKind → Option HtmlKind
allowed on (Some Complete) = if is_open_text on then None else Some Complete
allowed on kind = kind

-- what is open after a line of a kind, by the line
abbrev pub left : HtmlKind → List ℕ → HeldLeaf
left kind line = if html_ends kind line then held_leaf.None else held_leaf.Html kind

-- by the kind that a line begins, given from its `<` on
abbrev pub opens_by : Option HtmlKind → List ℕ → List Cell → Here → Outcome
opens_by None line cells h = refuses h
opens_by (Some kind) line cells h = closes (left kind line) cells h

unfoldable pub opens : List ℕ → List Cell → Here → Outcome
opens line cells h = opens_by (allowed h.flags.leaf (html_kind line)) line cells h

-- after so much of the line from its `<` on
abbrev pub opens_after : List ℕ → List Cell → Here → Outcome
opens_after front cells h = opens (front ++ line_bytes cells) cells h

-- in the indent: so many columns may be there
abbrev pub in_indent : ParseOptions → List Cell → Here → Outcome
in_indent options cells h = opens (line_bytes (white_rest (small_indent options - h.scratch.size) cells)) cells h

-- where a line begins
abbrev pub line_begun : Here → Here
line_begun h = record h { events = h.events ++ enter HtmlFlow h.point ∷ enter HtmlFlowData h.point ∷ [] }

-- the whole rule of a first line, if HTML is on
unfoldable pub html_at : ParseOptions → List Cell → Here → Outcome
html_at options cells h =
    if options.constructs.html_flow then in_indent options cells (line_begun h) else Refuses h.scratch h.flags

-- The rest of a tag.

abbrev pub tag_begin : Bool → List ℕ
tag_begin true = codes "</"
tag_begin false = codes "<"

-- by whether the tag is one of this kind
abbrev pub tag_by : HtmlKind → Bool → List Cell → Here → Outcome
tag_by kind true cells h = closes (held_leaf.Html kind) cells h
tag_by kind false cells h = refuses h

-- after whitespace, if some was taken
abbrev pub following_white : Bool → List ℕ → List ℕ
following_white true bytes = 32 ∷ bytes
following_white false bytes = bytes

-- whether the rest of an opening tag follows what this becomes
abbrev pub then_opening : Option (List ℕ) → Bool
then_opening None = false
then_opening (Some more) = ends_opening more

-- The text of a line.

-- whether an end that begins with this byte is somewhere in the line
unfoldable pub ends_by : ℕ → List ℕ → Bool
ends_by m line =
    if m == 60 then html_ends Raw line
    else if m == 45 then html_ends Comment line
    else if m == 63 then html_ends Instruction line
    else if m == 93 then html_ends Cdata line
    else holds_word (m ∷ []) line

-- after so much of it
abbrev pub is_continued : List ℕ → List Cell → Here → Outcome
is_continued front cells h =
    closes (if ends_by h.scratch.marker (front ++ line_bytes cells) then held_leaf.None else h.flags.leaf) cells h

-- all of an end but its `>`
abbrev pub stops : ℕ → List ℕ
stops m = if m == 63 then m ∷ [] else m ∷ m ∷ []

-- A further line.

-- at the end of a line
abbrev pub line_done : List Cell → Here → Outcome
line_done cells h =
    Accepts (record h { events = h.events ++ exit HtmlFlow h.point ∷ []; scratch = cleared h.scratch }) cells

-- one of the first five kinds
unfoldable pub line_at : List Cell → Here → Outcome
line_at cells h =
    if is_end (line_bytes cells) then line_done cells h
    else closes (if ends_by (stop_of h.flags.leaf) (line_bytes cells) then held_leaf.None else h.flags.leaf) cells
    (entering h)

-- one of the last two
unfoldable pub nonblank_at : List Cell → Here → Outcome
nonblank_at cells h = if is_blank (line_bytes cells) then refuses h else closes h.flags.leaf cells h

-- it is linked to the line before
abbrev pub further_begun : Here → Here
further_begun h = record h { events = h.events ++ enter_link HtmlFlow h.point further_link ∷ [] }

-- the whole rule of a further line
unfoldable pub further_at : List Cell → Here → Outcome
further_at cells h =
    if ends_in_front h.flags.leaf then nonblank_at cells (entering (further_begun h))
    else line_at cells (further_begun h)

-- what is left at each state, by the text of which names are parts
abbrev pub html_behaves : List ℕ → ParseOptions → HtmlState → List Cell → Here → Outcome
html_behaves text options its.Start cells h = html_at options cells h
html_behaves text options its.Indent cells h = in_indent options cells h
html_behaves text options its.Before cells h = opens_after [] cells h
html_behaves text options its.Open cells h = opens_after (codes "<") cells h
html_behaves text options its.DeclarationOpen cells h = opens_after (codes "<!") cells h
html_behaves text options its.CommentOpenInside cells h = opens_after (codes "<!-") cells h
html_behaves text options its.CdataOpenInside cells h =
    opens_after (codes "<![" ++ take h.scratch.size (codes "CDATA[")) cells h
html_behaves text options its.TagCloseStart cells h = opens_after (codes "</") cells h
html_behaves text options its.TagName cells h =
    opens_after (tag_begin h.scratch.seen ++ name_text text h.scratch h.point.index) cells h
html_behaves text options its.BasicSelfClosing cells h = tag_by Basic (begins_with 62 (line_bytes cells)) cells h
html_behaves text options its.CompleteClosingTagAfter cells h =
    tag_by Complete (closes_tag (trim_start (line_bytes cells))) cells h
html_behaves text options its.CompleteAttributeNameBefore cells h =
    tag_by Complete (ends_opening (following_white h.scratch.seen (line_bytes cells))) cells h
html_behaves text options its.CompleteAttributeName cells h =
    tag_by Complete (then_opening (after_assignment (after is_attribute_byte (line_bytes cells)))) cells h
html_behaves text options its.CompleteAttributeNameAfter cells h =
    tag_by Complete (then_opening (after_assignment (following_white h.scratch.seen (line_bytes cells)))) cells h
html_behaves text options its.CompleteAttributeValueBefore cells h =
    tag_by Complete (then_opening (after_value (trim_start (line_bytes cells)))) cells h
html_behaves text options its.CompleteAttributeValueQuoted cells h =
    tag_by Complete (then_opening (after_next h.scratch.marker (line_bytes cells))) cells h
html_behaves text options its.CompleteAttributeValueUnquoted cells h =
    tag_by Complete (ends_opening (after is_value_byte (line_bytes cells))) cells h
html_behaves text options its.CompleteAttributeValueQuotedAfter cells h =
    tag_by Complete (ends_opening (line_bytes cells)) cells h
html_behaves text options its.CompleteEnd cells h = tag_by Complete (closes_tag (line_bytes cells)) cells h
html_behaves text options its.CompleteAfter cells h = tag_by Complete (is_blank (line_bytes cells)) cells h
html_behaves text options its.Continuation cells h = is_continued [] cells h
html_behaves text options its.ContinuationStart cells h = further_at cells h
html_behaves text options its.ContinuationStartNonLazy cells h = line_at cells h
html_behaves text options its.ContinuationBefore cells h = line_at cells h
html_behaves text options its.ContinuationCommentInside cells h = is_continued (codes "-") cells h
html_behaves text options its.ContinuationRawTagOpen cells h = is_continued (codes "<") cells h
html_behaves text options its.ContinuationRawEndTag cells h =
    is_continued (codes "</" ++ name_text text h.scratch h.point.index) cells h
html_behaves text options its.ContinuationCdataInside cells h = is_continued (codes "]") cells h
html_behaves text options its.ContinuationDeclarationInside cells h = is_continued (stops h.scratch.marker) cells h
html_behaves text options its.ContinuationClose cells h = closes h.flags.leaf cells h
html_behaves text options its.ContinuationAfter cells h = line_done cells h
html_behaves text options its.BlankLineBefore cells h = nonblank_at cells h

pub record HasHtml (B : Behaviour) (text : List ℕ) (options : ParseOptions) : Type 0 where
  pub each : (state : HtmlState) (cells : List Cell) (h : Here) →
      B (n.HtmlFlow state) cells h ≡ html_behaves text options state cells h

-- what a state of HTML means: where what it needs holds, its call is one step of the rule
unfoldable pub HtmlMeans : HtmlState → World → State → World → Type 0
HtmlMeans state old to new =
    HtmlInvariant (n.HtmlFlow state) (position old) → old.current ≡ looks old →
    IsStep (λ B. HasHtml B old.setting.bytes old.setting.options) (n.HtmlFlow state) to old new

-- what a state of HTML promises
abbrev pub IsHtmlState : HtmlState → World → State → Tokenizer → Type 0
IsHtmlState state old answer new = IsState (html_transition state old) (HtmlMeans state old) (IsFull new) answer new

-- the same of a state that wants no memory
abbrev pub IsSureHtmlState : HtmlState → World → State → Tokenizer → Type 0
IsSureHtmlState state old answer new = IsSureState (html_transition state old) (HtmlMeans state old) answer new
