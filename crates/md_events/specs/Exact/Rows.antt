-- The lines of a body, one by one: what each is where it meets what is open, and which containers end after it.
use Rattle.std.specs.Prelude.{ℕ, suc, Bool, true, false, ◌&&◌, ◌==◌, nat_lt, not, if◌then◌else◌, List, [], ◌∷◌, ◌++◌}
use Rattle.std.specs.Prelude.{length, drop, Option, Some, None}
use Rattle.std.specs.Option.{is_some}
use Rattle.md_engine.specs.declared.configuration.ParseOptions.{ParseOptions}
use Rattle.md_engine.specs.declared.event.Event.{Event}
use Rattle.md_engine.specs.declared.event.Name.{Name}
use Rattle.md_engine.specs.declared.event.Name.TheVariants as n
use Rattle.md_engine.specs.declared.event.Point.{Point}
use Rattle.md_meaning.specs.Leaves.{LeafResult, NoText, Text, is_continued, starts, table_at, underline_depth}
use Rattle.md_meaning.specs.Rest.{Rest, is_blank}
use Rattle.md_meaning.specs.State.{Container, InQuote, InItem, InFootnote, Leaf, NoLeaf, OpenParagraph, OpenCode}
use Rattle.md_meaning.specs.State.{Path, cut, spot, texts}
use Rattle.md_meaning.specs.Step.{step, with_lazy}
use Rattle.md_meaning.specs.Tree.{End}
use Rattle.md_events.specs.Events.Nested.{exit}
use Rattle.md_events.specs.Exact.Places.{TextLine, line_end, place, whole}
use Rattle.md_events.specs.Exact.Prefixes.{begins, following_all, containers, further_prefixes, taken_prefixes, list_name}
use Rattle.md_events.specs.Exact.Prefixes.{new_containers}

-- What a line is, after the prefixes of its containers.
pub data Role : Type 0 where
  Blank : Role
  -- the first line of a leaf that is no text, and a further line of such a leaf
  First : LeafResult → Role
  Further : Leaf → Role
  -- the first line of a text, a further one, and one that underlines it
  FirstText : Role
  FurtherText : Role
  Underline : Role
  -- the head of a table, which would be text by itself, and its delimiter row
  Head : Role
  Delimiter : Role
  -- a blank line after indented code, which does not belong to it (CommonMark 4.4)
  AfterCode : Role

-- A line by what is open.

-- the first line of a leaf, if one starts, and else this
abbrev pub first_or : Role → Option LeafResult → Role
first_or other None = other
first_or other (Some c) = First c

-- one that is not blank; an underline with nothing to underline is one more line of the paragraph
abbrev pub fresh_role : ParseOptions → Leaf → Rest → Role
fresh_role options (OpenParagraph lines) r =
    if is_some (underline_depth options r)
    then (if nat_lt 0 (length (cut options (texts lines)).1) then Underline else FurtherText)
    else first_or (if is_some (table_at options End lines r) then Delimiter else FurtherText) (starts options Text r)
fresh_role options leaf r = first_or FirstText (starts options NoText r)

-- any, where it meets this leaf: one more line of it, or blank, or what begins there
abbrev pub role_on : ParseOptions → Leaf → Rest → Role
role_on options leaf r =
    if is_some (is_continued options leaf r) then Further leaf else if is_blank r.bytes then Blank
    else fresh_role options leaf r

-- A line by what the next line is: text is a head before a delimiter row, and a blank line in code belongs to it only
-- where a further line does.
abbrev pub role_before : Role → Rest → Role → Role
role_before Delimiter r role = Head
role_before (Further leaf) r role = role
role_before next r (Further (OpenCode lines)) = if is_blank r.bytes then AfterCode else Further (OpenCode lines)
role_before next r role = role

-- A line that was read.
pub record Row : Type 0 where
  pub line : TextLine
  -- how many of the containers that were open before it are still open after it, and all that are
  pub stays : ℕ
  pub held : List Container
  -- what its containers have before its rest, the rest, and what that is
  pub front : List Event
  pub rest : Rest
  pub role : Role
  -- the ends of the containers that end after it
  pub ends : List Event

-- Containers that end after a line, by the lines after it.

-- how many containers stay open on the next line, and what it is; the text ends as at a blank line that closes all
abbrev pub next_stays : List Row → ℕ
next_stays [] = 0
next_stays (row ∷ rows) = row.stays

abbrev pub next_role : List Row → Role
next_role [] = Blank
next_role (row ∷ rows) = row.role

-- whether it is a blank line that no leaf takes
abbrev pub is_blank_role : Role → Bool
is_blank_role Blank = true
is_blank_role AfterCode = true
is_blank_role _ = false

-- whether the first of some containers is an item with this marker
abbrev pub begin_with_item : ℕ → List Container → Bool
begin_with_item marker (InItem digits m width starts_blank ∷ cs) = m == marker
begin_with_item marker cs = false

-- whether the next block in the container that has so many around it is an item with this marker: blank lines may be
-- before it
abbrev pub list_continued : ℕ → ℕ → List Row → Bool
list_continued depth marker [] = false
list_continued depth marker (row ∷ rows) =
    (row.stays == depth)
    && (if nat_lt depth (length row.held) then begin_with_item marker (drop depth row.held)
    else is_blank_role row.role && list_continued depth marker rows)

-- the name around a container
abbrev pub container_name : Container → Name
container_name (InQuote kind) = n.BlockQuote
container_name (InItem digits marker width starts_blank) = n.ListItem
container_name (InFootnote label) = n.GfmFootnoteDefinition

-- the end of a list after its last item
abbrev pub list_ends : ℕ → Container → Point → List Row → List Event
list_ends depth (InItem digits marker width starts_blank) p below =
    if list_continued depth marker below then [] else exit (list_name marker) p ∷ []
list_ends depth container p below = []

-- the ends of these containers, the innermost first; the outermost has so many around it
abbrev pub ends_from : ℕ → List Container → Point → List Row → List Event
ends_from depth [] p below = []
ends_from depth (c ∷ cs) p below =
    ends_from (suc depth) cs p below ++ exit (container_name c) p ∷ list_ends depth c p below

-- The lines.

-- a line before these, where this is open: a lazy one continues the paragraph although not all containers continue
-- (CommonMark 5.1), and any other meets the leaf where all continue and none opens
abbrev pub row_of : ParseOptions → Path → TextLine → List Row → Row
row_of options p line below =
    let on = taken_prefixes options p (whole line) in
    let all = length on == length (containers p) in
    let inner = following_all (whole line) on in
    let new = new_containers options p all inner in
    let rest = following_all inner new in
    let none_opens = length new == 0 in
    let lazy = not all && none_opens && is_some (with_lazy options (spot p).leaf rest) in
    let leaf = if all && none_opens then (spot p).leaf else NoLeaf in
    let after = step options p (whole line) in
    record {
      line = line;
      stays = if lazy then length (containers p) else length on;
      held = containers after;
      front = further_prefixes line (whole line) on ++ begins line after (length on) inner new;
      rest = rest;
      role = role_before (next_role below) rest (if lazy then FurtherText else role_on options leaf rest);
      ends =
          ends_from (next_stays below) (drop (next_stays below) (containers after)) (place line (line_end line)) below;
    }

-- lines, where this is open before the first: each changes what is open as the line definition says
abbrev pub rows_of : ParseOptions → Path → List TextLine → List Row
rows_of options p [] = []
rows_of options p (line ∷ lines) =
    let below = rows_of options (step options p (whole line)) lines in row_of options p line below ∷ below
