-- HTML, a line at a time: what its states do.
use Rattle.std.specs.Prelude.{[], ◌∷◌, ◌≡◌, refl, ℕ, zero, suc, ◌+◌, ◌≤◌, Bool, true, false, ◌&&◌, ◌||◌, ◌==◌, not}
use Rattle.std.specs.Prelude.{nat_lt, if◌then◌else◌, List, Option, Some, None, ◌⊎◌}
use Rattle.std.specs.Char.{is_ascii_alphabetic}
use Rattle.std.specs.List.{list_all}
use Rattle.md_engine.specs.declared.event.Name.TheVariants.{HtmlFlow, HtmlFlowData}
use Rattle.md_engine.specs.declared.state.Name.{Name as StateName}
use Rattle.md_engine.specs.declared.state.Name.TheVariants as n
use Rattle.md_engine.specs.declared.state.html_flow.State.{State as HtmlState}
use Rattle.md_engine.specs.declared.state.html_flow.State.TheVariants as its
use Rattle.md_engine.specs.declared.state.State.TheVariants.{Ok, Nok, Next, Retry}
use Rattle.md_engine.specs.declared.tokenizer.Scratch.{Scratch}
use Rattle.md_engine.specs.declared.tokenizer.held_leaf.HeldLeaf.{HeldLeaf}
use Rattle.md_engine.specs.declared.tokenizer.held_leaf.HeldLeaf.TheVariants as held_leaf
use Rattle.md_engine.specs.Scheme.{After, Ends, Rank, Scheme, Position, ranked, seen}
use Rattle.md_engine.specs.World.{World}
use Rattle.md_meaning.specs.Html.{HtmlKind, Raw, Comment, Instruction, Declaration, Cdata, Basic, Complete}
use Rattle.md_meaning.specs.Html.{begins_attribute, is_attribute_byte, is_basic_name, is_raw_name, is_tag_byte}
use Rattle.md_meaning.specs.Html.{is_value_byte}
use Rattle.md_meaning.specs.Leaves.{ends_at_blank}
use Rattle.md_meaning.specs.Rest.{is_white}
use Rattle.md_leaves.specs.Further.{further_link}
use Rattle.md_events.specs.Lent.{lent}
use Rattle.md_events.specs.Spaces.{IsRest, ends_line, is_current, rest_ready, sees_white, small_indent}
use Rattle.md_events.specs.Transition.{Transition, entered, entered_link, exited, taken}

-- what may be first after the indent
abbrev pub may_begin : ℕ → Bool
may_begin b = b == 60

-- whether this is open HTML, and which kind it is of
abbrev pub is_html : HeldLeaf → Bool
is_html (held_leaf.Html kind) = true
is_html _ = false

-- whether it ends before a blank line
abbrev pub ends_in_front : HeldLeaf → Bool
ends_in_front (held_leaf.Html kind) = ends_at_blank kind
ends_in_front _ = false

-- whether text is open that no complete tag interrupts
abbrev pub is_open_text : HeldLeaf → Bool
is_open_text (held_leaf.Text at) = true
is_open_text _ = false

-- the byte with which the end of a kind begins; kinds 6 and 7 have none
abbrev pub stop_byte : HtmlKind → ℕ
stop_byte Raw = 60
stop_byte Comment = 45
stop_byte Instruction = 63
stop_byte Declaration = 62
stop_byte Cdata = 93
stop_byte Basic = 0
stop_byte Complete = 0

abbrev pub stop_of : HeldLeaf → ℕ
stop_of (held_leaf.Html kind) = stop_byte kind
stop_of _ = 0

-- a byte of `CDATA[`
abbrev pub cdata_byte : ℕ → ℕ
cdata_byte zero = 67
cdata_byte (suc zero) = 68
cdata_byte (suc (suc zero)) = 65
cdata_byte (suc (suc (suc zero))) = 84
cdata_byte (suc (suc (suc (suc zero)))) = 65
cdata_byte _ = 91

-- without what a part keeps
abbrev pub cleared : Scratch → Scratch
cleared s = record s { marker = 0; size = 0; start = 0; seen = false }

-- What a state does with what is here: it takes it, or continues here, to a state with this scratch; the same where the
-- leaf is known then; or it refuses.
pub data Move : Type 0 where
  Takes : HtmlState → Scratch → Move
  Turns : HtmlState → Scratch → Move
  TakesAs : HeldLeaf → HtmlState → Scratch → Move
  TurnsAs : HeldLeaf → HtmlState → Scratch → Move
  Stops : Move

abbrev pub moved : World → Move → Transition
moved w (Takes state s) = record { to = Next (n.HtmlFlow state); world = record (taken w) { scratch = s } }
moved w (Turns state s) = record { to = Retry (n.HtmlFlow state); world = record w { scratch = s } }
moved w (TakesAs leaf state s) = record {
  to = Next (n.HtmlFlow state);
  world = record (taken w) { scratch = s; flags = record w.flags { leaf = leaf } };
}
moved w (TurnsAs leaf state s) = record {
  to = Retry (n.HtmlFlow state);
  world = record w { scratch = s; flags = record w.flags { leaf = leaf } };
}
moved w Stops = record { to = Nok; world = record w { scratch = cleared w.scratch } }

-- a part begins with this marker
abbrev pub marked : ℕ → Scratch → Scratch
marked m s = record (cleared s) { marker = m }

-- the kind is known: after what is here, or here
abbrev pub takes_as : HtmlKind → HtmlState → Scratch → Move
takes_as kind state s = TakesAs (held_leaf.Html kind) state (marked (stop_byte kind) s)

abbrev pub turns_as : HtmlKind → HtmlState → Scratch → Move
turns_as kind state s = TurnsAs (held_leaf.Html kind) state (marked (stop_byte kind) s)

-- the end is taken: the block ends with its line
abbrev pub shut : Scratch → Move
shut s = TakesAs held_leaf.None its.ContinuationClose (cleared s)

-- by what is here
abbrev pub by_byte : (ℕ → Move) → Move → Option ℕ → Move
by_byte f none None = none
by_byte f none (Some b) = f b

-- The first line.

abbrev pub start_code : World → Bool → Transition
start_code w true =
    record { to = Retry (n.HtmlFlow its.Indent); world = entered (entered w HtmlFlow) HtmlFlowData }
start_code w false = record { to = Nok; world = w }

-- by whether whitespace is here, and there is room for it
abbrev pub indent_move : Scratch → Bool → Move
indent_move s true = Takes its.Indent (record s { size = s.size + 1 })
indent_move s false = Turns its.Before (cleared s)

abbrev pub before_move : Scratch → Bool → Move
before_move s true = Takes its.Open s
before_move s false = Stops

-- after `<`: `!`, `/`, `?`, or a letter
abbrev pub open_byte : Scratch → ℕ → ℕ → Move
open_byte s index b =
    if b == 33 then Takes its.DeclarationOpen s
    else if b == 47 then Takes its.TagCloseStart s
    else if b == 63 then takes_as Instruction its.ContinuationDeclarationInside s
    else if is_ascii_alphabetic b then Turns its.TagName (record (cleared s) { start = index })
    else Stops

-- after `<!`: `-`, `[`, or a letter
abbrev pub declaration_byte : Scratch → ℕ → Move
declaration_byte s b =
    if b == 45 then Takes its.CommentOpenInside s
    else if b == 91 then Takes its.CdataOpenInside (cleared s)
    else if is_ascii_alphabetic b then takes_as Declaration its.Continuation s
    else Stops

-- after `<!-`, by whether `-` is here
abbrev pub comment_move : Scratch → Bool → Move
comment_move s true = takes_as Comment its.ContinuationDeclarationInside s
comment_move s false = Stops

-- after `<![`, by whether the next byte of `CDATA[` is here, and whether it is not the last one
abbrev pub cdata_move : Scratch → Bool → Bool → Move
cdata_move s true true = Takes its.CdataOpenInside (record s { size = s.size + 1 })
cdata_move s true false = takes_as Cdata its.Continuation s
cdata_move s false more = Stops

-- after `</`, by whether a letter is here
abbrev pub close_start_move : Scratch → ℕ → Bool → Move
close_start_move s index true = Turns its.TagName (record (cleared s) { start = index; seen = true })
close_start_move s index false = Stops

-- The name of a tag.

-- what was read of a name
abbrev pub name_text : List ℕ → Scratch → ℕ → List ℕ
name_text text s index = lent text s.start index

abbrev pub name_here : World → List ℕ
name_here w = name_text w.setting.bytes w.scratch w.point.index

-- nothing but letters
abbrev pub are_letters : List ℕ → Bool
are_letters name = list_all is_ascii_alphabetic name

-- what may be after one: a slash, or the end of the line, whitespace or `>`
abbrev pub ends_tag_name : Option ℕ → Bool
ends_tag_name o = ends_line o || sees_white o || is_current 62 o

-- the name of a tag that is no name of kinds 1 and 6, by whether a closing tag has it, and whether text is open that it
-- does not interrupt
abbrev pub complete_name_code : Scratch → Bool → Bool → Move
complete_name_code s closing true = Stops
complete_name_code s true false = Turns its.CompleteClosingTagAfter (cleared s)
complete_name_code s false false = Turns its.CompleteAttributeNameBefore (cleared s)

-- by whether a slash is after the name of kind 6
abbrev pub basic_name_code : Scratch → Bool → Move
basic_name_code s true = Takes its.BasicSelfClosing (cleared s)
basic_name_code s false = turns_as Basic its.ContinuationClose s

-- the whole name is known: by whether it is one of kind 1 that an opening tag has with no slash after it, and whether
-- it is one of kind 6
abbrev pub name_code : Scratch → HeldLeaf → Bool → Bool → Bool → Move
name_code s leaf slash true basic = turns_as Raw its.Continuation s
name_code s leaf slash false true = basic_name_code s slash
name_code s leaf slash false false = complete_name_code s s.seen (is_open_text leaf)

abbrev pub name_move : World → Move
name_move w =
    let slash = is_current 47 w.current in
    name_code w.scratch w.flags.leaf slash (not w.scratch.seen && not slash && is_raw_name (name_here w))
    (is_basic_name (name_here w))

-- by whether a byte of a name is here, and whether it may end here
abbrev pub tag_name_move : World → Bool → Bool → Move
tag_name_move w true ends = Takes its.TagName w.scratch
tag_name_move w false true = name_move w
tag_name_move w false false = Stops

-- whether a byte of a name is here
abbrev pub sees_tag_byte : Option ℕ → Bool
sees_tag_byte None = false
sees_tag_byte (Some b) = is_tag_byte b

-- after `/` of a tag of kind 6, by whether `>` is here
abbrev pub self_closing_move : Scratch → Bool → Move
self_closing_move s true = TakesAs (held_leaf.Html Basic) its.ContinuationClose (cleared s)
self_closing_move s false = Stops

-- The rest of a complete tag.

-- after the name of a closing tag, by whether whitespace is here
abbrev pub closing_move : Scratch → Bool → Move
closing_move s true = Takes its.CompleteClosingTagAfter s
closing_move s false = Turns its.CompleteEnd s

-- before an attribute, of which whitespace has to be in front
abbrev pub name_before_byte : Scratch → ℕ → Move
name_before_byte s b =
    if is_white b then Takes its.CompleteAttributeNameBefore (record s { seen = true })
    else if b == 47 then Takes its.CompleteEnd (cleared s)
    else if begins_attribute b && s.seen then Takes its.CompleteAttributeName (cleared s)
    else Turns its.CompleteEnd (cleared s)

-- in its name
abbrev pub name_byte : Scratch → ℕ → Move
name_byte s b =
    if is_attribute_byte b then Takes its.CompleteAttributeName s else Turns its.CompleteAttributeNameAfter (cleared s)

-- after its name: whitespace, which may be before the next attribute, or `=`
abbrev pub name_after_byte : Scratch → ℕ → Move
name_after_byte s b =
    if is_white b then Takes its.CompleteAttributeNameAfter (record s { seen = true })
    else if b == 61 then Takes its.CompleteAttributeValueBefore (cleared s)
    else Turns its.CompleteAttributeNameBefore s

-- before its value
abbrev pub value_before_byte : Scratch → ℕ → Move
value_before_byte s b =
    if b == 10 then Stops
    else if is_white b then Takes its.CompleteAttributeValueBefore s
    else if (b == 34) || (b == 39) then Takes its.CompleteAttributeValueQuoted (marked b s)
    else if is_value_byte b then Turns its.CompleteAttributeValueUnquoted s
    else Stops

-- in a value in quotes
abbrev pub quoted_byte : Scratch → ℕ → Move
quoted_byte s b =
    if b == 10 then Stops
    else if b == s.marker then Takes its.CompleteAttributeValueQuotedAfter (cleared s)
    else Takes its.CompleteAttributeValueQuoted s

-- in one without
abbrev pub unquoted_byte : Scratch → ℕ → Move
unquoted_byte s b =
    if not (b == 10) && is_value_byte b then Takes its.CompleteAttributeValueUnquoted s
    else Turns its.CompleteAttributeNameBefore (cleared s)

-- at the end of the tag, by whether `>` is here
abbrev pub end_move : Scratch → Bool → Move
end_move s true = Takes its.CompleteAfter s
end_move s false = Stops

-- after it, by whether the line ends here, and whether whitespace is here
abbrev pub complete_after_move : Scratch → Bool → Bool → Move
complete_after_move s true white = turns_as Complete its.ContinuationClose s
complete_after_move s false true = Takes its.CompleteAfter s
complete_after_move s false false = Stops

-- The text of a line.

-- where it ends here
abbrev pub data_ended : World → Transition
data_ended w = record { to = Retry (n.HtmlFlow its.ContinuationAfter); world = exited w HtmlFlowData }

-- after the byte with which an end may begin
abbrev pub stop_move : Scratch → Move
stop_move s =
    if s.marker == 60 then Takes its.ContinuationRawTagOpen s
    else if s.marker == 45 then Takes its.ContinuationCommentInside s
    else if s.marker == 63 then Takes its.ContinuationDeclarationInside s
    else if s.marker == 93 then Takes its.ContinuationCdataInside s
    else shut s

-- by whether this byte is here
abbrev pub text_move : Scratch → Bool → Move
text_move s true = stop_move s
text_move s false = Takes its.Continuation s

-- by whether the line ends here
abbrev pub continuation_code : World → Bool → Transition
continuation_code w true = data_ended w
continuation_code w false = moved w (text_move w.scratch (is_current w.scratch.marker w.current))

-- after one `-`, or one `]`, by whether another is here
abbrev pub twice_move : Scratch → Bool → Move
twice_move s true = Takes its.ContinuationDeclarationInside s
twice_move s false = Turns its.Continuation s

-- after `<`, by whether a slash is here: a name begins after it
abbrev pub raw_open_code : World → Bool → Transition
raw_open_code w true = record {
  to = Next (n.HtmlFlow its.ContinuationRawEndTag);
  world = record (taken w) { scratch = record w.scratch { start = (taken w).point.index } };
}
raw_open_code w false = moved w (Turns its.Continuation w.scratch)

-- in this name, by whether a letter is here, and whether `>` does after a name of kind 1
abbrev pub raw_end_move : Scratch → Bool → Bool → Move
raw_end_move s true ends = Takes its.ContinuationRawEndTag s
raw_end_move s false true = shut s
raw_end_move s false false = Turns its.Continuation (marked s.marker s)

abbrev pub sees_letter : Option ℕ → Bool
sees_letter None = false
sees_letter (Some b) = is_ascii_alphabetic b

-- after all of an end but its last byte, by whether `>` is here, and whether the byte with which it begins does
abbrev pub inside_move : Scratch → Bool → Bool → Move
inside_move s true again = shut s
inside_move s false true = Takes its.ContinuationDeclarationInside s
inside_move s false false = Turns its.Continuation s

-- after an end, or where none may be: by whether the line ends here
abbrev pub close_code : World → Bool → Transition
close_code w true = data_ended w
close_code w false = moved w (Takes its.ContinuationClose w.scratch)

-- A further line.

-- it is linked to the line before
abbrev pub line_entered : World → World
line_entered w = entered_link w HtmlFlow further_link

-- by whether a blank line is none of it
abbrev pub further_code : World → Bool → Transition
further_code w true =
    record { to = Retry (n.HtmlFlow its.BlankLineBefore); world = entered (line_entered w) HtmlFlowData }
further_code w false = record { to = Retry (n.HtmlFlow its.ContinuationBefore); world = line_entered w }

-- by whether the line ends here
abbrev pub line_before_code : World → Bool → Transition
line_before_code w true = record { to = Retry (n.HtmlFlow its.ContinuationAfter); world = w }
line_before_code w false = record {
  to = Retry (n.HtmlFlow its.Continuation);
  world = record (entered w HtmlFlowData) { scratch = marked (stop_of w.flags.leaf) w.scratch };
}

-- in a line of which nothing but whitespace was read yet, by whether it ends here, and whether whitespace is here
abbrev pub blank_move : Scratch → Bool → Bool → Move
blank_move s true white = Stops
blank_move s false true = Takes its.BlankLineBefore s
blank_move s false false = Turns its.ContinuationClose s

-- each state with what it does, where there is memory
abbrev pub start_transition : World → Transition
start_transition w = start_code w w.setting.options.constructs.html_flow

abbrev pub indent_transition : World → Transition
indent_transition w =
    moved w
    (indent_move w.scratch (sees_white w.current && nat_lt w.scratch.size (small_indent w.setting.options)))

abbrev pub before_transition : World → Transition
before_transition w = moved w (before_move w.scratch (is_current 60 w.current))

abbrev pub open_transition : World → Transition
open_transition w = moved w (by_byte (open_byte w.scratch w.point.index) Stops w.current)

abbrev pub declaration_open_transition : World → Transition
declaration_open_transition w = moved w (by_byte (declaration_byte w.scratch) Stops w.current)

abbrev pub comment_open_inside_transition : World → Transition
comment_open_inside_transition w = moved w (comment_move w.scratch (is_current 45 w.current))

abbrev pub cdata_open_inside_transition : World → Transition
cdata_open_inside_transition w =
    moved w
    (cdata_move w.scratch (is_current (cdata_byte w.scratch.size) w.current) (nat_lt w.scratch.size 5))

abbrev pub tag_close_start_transition : World → Transition
tag_close_start_transition w = moved w (close_start_move w.scratch w.point.index (sees_letter w.current))

abbrev pub tag_name_transition : World → Transition
tag_name_transition w =
    moved w
    (tag_name_move w (sees_tag_byte w.current) (ends_tag_name w.current || is_current 47 w.current))

abbrev pub basic_self_closing_transition : World → Transition
basic_self_closing_transition w = moved w (self_closing_move w.scratch (is_current 62 w.current))

abbrev pub complete_closing_tag_after_transition : World → Transition
complete_closing_tag_after_transition w = moved w (closing_move w.scratch (sees_white w.current))

abbrev pub complete_attribute_name_before_transition : World → Transition
complete_attribute_name_before_transition w =
    moved w (by_byte (name_before_byte w.scratch) (Turns its.CompleteEnd (cleared w.scratch)) w.current)

abbrev pub complete_attribute_name_transition : World → Transition
complete_attribute_name_transition w =
    moved w (by_byte (name_byte w.scratch) (Turns its.CompleteAttributeNameAfter (cleared w.scratch)) w.current)

abbrev pub complete_attribute_name_after_transition : World → Transition
complete_attribute_name_after_transition w =
    moved w (by_byte (name_after_byte w.scratch) (Turns its.CompleteAttributeNameBefore w.scratch) w.current)

abbrev pub complete_attribute_value_before_transition : World → Transition
complete_attribute_value_before_transition w = moved w (by_byte (value_before_byte w.scratch) Stops w.current)

abbrev pub complete_attribute_value_quoted_transition : World → Transition
complete_attribute_value_quoted_transition w = moved w (by_byte (quoted_byte w.scratch) Stops w.current)

abbrev pub complete_attribute_value_unquoted_transition : World → Transition
complete_attribute_value_unquoted_transition w =
    moved w (by_byte (unquoted_byte w.scratch) (Turns its.CompleteAttributeNameBefore (cleared w.scratch)) w.current)

abbrev pub complete_attribute_value_quoted_after_transition : World → Transition
complete_attribute_value_quoted_after_transition w = moved w (Turns its.CompleteAttributeNameBefore (cleared w.scratch))

abbrev pub complete_end_transition : World → Transition
complete_end_transition w = moved w (end_move w.scratch (is_current 62 w.current))

abbrev pub complete_after_transition : World → Transition
complete_after_transition w = moved w (complete_after_move w.scratch (ends_line w.current) (sees_white w.current))

abbrev pub continuation_transition : World → Transition
continuation_transition w = continuation_code w (ends_line w.current)

abbrev pub continuation_start_transition : World → Transition
continuation_start_transition w = further_code w (ends_in_front w.flags.leaf)

-- before a further line of the first five kinds, where its ending before it is taken already
abbrev pub continuation_start_non_lazy_transition : World → Transition
continuation_start_non_lazy_transition w = record { to = Retry (n.HtmlFlow its.ContinuationBefore); world = w }

abbrev pub continuation_before_transition : World → Transition
continuation_before_transition w = line_before_code w (ends_line w.current)

abbrev pub continuation_comment_inside_transition : World → Transition
continuation_comment_inside_transition w = moved w (twice_move w.scratch (is_current 45 w.current))

abbrev pub continuation_raw_tag_open_transition : World → Transition
continuation_raw_tag_open_transition w = raw_open_code w (is_current 47 w.current)

abbrev pub continuation_raw_end_tag_transition : World → Transition
continuation_raw_end_tag_transition w =
    moved w
    (raw_end_move w.scratch (sees_letter w.current) (is_current 62 w.current && is_raw_name (name_here w)))

abbrev pub continuation_cdata_inside_transition : World → Transition
continuation_cdata_inside_transition w = moved w (twice_move w.scratch (is_current 93 w.current))

abbrev pub continuation_declaration_inside_transition : World → Transition
continuation_declaration_inside_transition w =
    moved w (inside_move w.scratch (is_current 62 w.current) (is_current w.scratch.marker w.current))

abbrev pub continuation_close_transition : World → Transition
continuation_close_transition w = close_code w (ends_line w.current)

abbrev pub continuation_after_transition : World → Transition
continuation_after_transition w = record { to = Ok; world = record (exited w HtmlFlow) { scratch = cleared w.scratch } }

abbrev pub blank_line_before_transition : World → Transition
blank_line_before_transition w = moved w (blank_move w.scratch (ends_line w.current) (sees_white w.current))

-- all of them
abbrev pub html_transition : HtmlState → World → Transition
html_transition its.Start w = start_transition w
html_transition its.Indent w = indent_transition w
html_transition its.Before w = before_transition w
html_transition its.Open w = open_transition w
html_transition its.DeclarationOpen w = declaration_open_transition w
html_transition its.CommentOpenInside w = comment_open_inside_transition w
html_transition its.CdataOpenInside w = cdata_open_inside_transition w
html_transition its.TagCloseStart w = tag_close_start_transition w
html_transition its.TagName w = tag_name_transition w
html_transition its.BasicSelfClosing w = basic_self_closing_transition w
html_transition its.CompleteClosingTagAfter w = complete_closing_tag_after_transition w
html_transition its.CompleteAttributeNameBefore w = complete_attribute_name_before_transition w
html_transition its.CompleteAttributeName w = complete_attribute_name_transition w
html_transition its.CompleteAttributeNameAfter w = complete_attribute_name_after_transition w
html_transition its.CompleteAttributeValueBefore w = complete_attribute_value_before_transition w
html_transition its.CompleteAttributeValueQuoted w = complete_attribute_value_quoted_transition w
html_transition its.CompleteAttributeValueUnquoted w = complete_attribute_value_unquoted_transition w
html_transition its.CompleteAttributeValueQuotedAfter w = complete_attribute_value_quoted_after_transition w
html_transition its.CompleteEnd w = complete_end_transition w
html_transition its.CompleteAfter w = complete_after_transition w
html_transition its.Continuation w = continuation_transition w
html_transition its.ContinuationStart w = continuation_start_transition w
html_transition its.ContinuationStartNonLazy w = continuation_start_non_lazy_transition w
html_transition its.ContinuationBefore w = continuation_before_transition w
html_transition its.ContinuationCommentInside w = continuation_comment_inside_transition w
html_transition its.ContinuationRawTagOpen w = continuation_raw_tag_open_transition w
html_transition its.ContinuationRawEndTag w = continuation_raw_end_tag_transition w
html_transition its.ContinuationCdataInside w = continuation_cdata_inside_transition w
html_transition its.ContinuationDeclarationInside w = continuation_declaration_inside_transition w
html_transition its.ContinuationClose w = continuation_close_transition w
html_transition its.ContinuationAfter w = continuation_after_transition w
html_transition its.BlankLineBefore w = blank_line_before_transition w

-- each state needs no more than to see what is at its point
abbrev pub HtmlNeeds : StateName → World → Type 0
HtmlNeeds name w = Unit {0}

-- Where its states are.

-- at rest but for what a part keeps
abbrev pub in_html : Position → After → Type 0
in_html x K = IsRest (cleared x.scratch) × Ends IsRest IsRest x K

-- what was read of a name
abbrev pub name_of : Position → List ℕ
name_of x = name_text x.setting.bytes x.scratch x.point.index

-- a letter comes first of it, or is here
abbrev pub has_letter : List ℕ → Option ℕ → Bool
has_letter [] o = sees_letter o
has_letter (b ∷ bs) o = is_ascii_alphabetic b

-- a name began here or before, with a letter
abbrev pub in_name : Position → After → Type 0
in_name x K =
    (x.scratch.start ≤ x.point.index) × (has_letter (name_of x) (seen x) ≡ true) ×
    (list_all is_tag_byte (name_of x) ≡ true) ×
    in_html x K

-- one of nothing but letters did
abbrev pub in_letters : Position → Type 0
in_letters x =
    (x.scratch.start ≤ x.point.index) × (are_letters (name_text x.setting.bytes x.scratch x.point.index) ≡ true)

-- after the byte with which an end begins, or more of it
abbrev pub after_stop : ℕ → Position → After → Type 0
after_stop m x K = (x.scratch.marker ≡ m) × in_html x K

abbrev pub IsStop : ℕ → Type 0
IsStop m = (m ≡ 45) ⊎ ((m ≡ 63) ⊎ (m ≡ 93))

-- what holds at each state of HTML
abbrev pub HtmlInvariant : StateName → Position → Type 0
HtmlInvariant (n.HtmlFlow its.Start) x = IsRest x.scratch
HtmlInvariant (n.HtmlFlow its.TagName) x =
    (x.scratch.start ≤ x.point.index) × (has_letter (name_of x) (seen x) ≡ true) ×
    (list_all is_tag_byte (name_of x) ≡ true) ×
    IsRest (cleared x.scratch)
HtmlInvariant (n.HtmlFlow its.CdataOpenInside) x = (x.scratch.size ≤ 5) × IsRest (cleared x.scratch)
HtmlInvariant (n.HtmlFlow its.ContinuationStart) x = IsRest x.scratch
HtmlInvariant (n.HtmlFlow its.ContinuationCommentInside) x = (x.scratch.marker ≡ 45) × IsRest (cleared x.scratch)
HtmlInvariant (n.HtmlFlow its.ContinuationCdataInside) x = (x.scratch.marker ≡ 93) × IsRest (cleared x.scratch)
HtmlInvariant (n.HtmlFlow its.ContinuationRawTagOpen) x = (x.scratch.marker ≡ 60) × IsRest (cleared x.scratch)
HtmlInvariant (n.HtmlFlow its.ContinuationRawEndTag) x =
    in_letters x × (x.scratch.marker ≡ 60) × IsRest (cleared x.scratch)
HtmlInvariant (n.HtmlFlow its.ContinuationDeclarationInside) x = IsStop x.scratch.marker × IsRest (cleared x.scratch)
HtmlInvariant _ x = IsRest (cleared x.scratch)

-- and that its attempts end as they have to
abbrev pub html_ready : StateName → Position → After → Type 0
html_ready (n.HtmlFlow its.Start) x K = rest_ready x K
html_ready (n.HtmlFlow its.TagName) x K = in_name x K
html_ready (n.HtmlFlow its.CdataOpenInside) x K = (x.scratch.size ≤ 5) × in_html x K
html_ready (n.HtmlFlow its.ContinuationStart) x K = rest_ready x K
html_ready (n.HtmlFlow its.ContinuationCommentInside) x K = after_stop 45 x K
html_ready (n.HtmlFlow its.ContinuationCdataInside) x K = after_stop 93 x K
html_ready (n.HtmlFlow its.ContinuationRawTagOpen) x K = after_stop 60 x K
html_ready (n.HtmlFlow its.ContinuationRawEndTag) x K = in_letters x × after_stop 60 x K
html_ready (n.HtmlFlow its.ContinuationDeclarationInside) x K = IsStop x.scratch.marker × in_html x K
html_ready _ x K = in_html x K

abbrev pub html_rank : StateName → Position → Rank
html_rank (n.HtmlFlow its.Start) x = ranked 10 refl
html_rank (n.HtmlFlow its.ContinuationStart) x = ranked 10 refl
html_rank (n.HtmlFlow its.ContinuationStartNonLazy) x = ranked 9 refl
html_rank (n.HtmlFlow its.Indent) x = ranked 9 refl
html_rank (n.HtmlFlow its.Before) x = ranked 8 refl
html_rank (n.HtmlFlow its.Open) x = ranked 8 refl
html_rank (n.HtmlFlow its.TagCloseStart) x = ranked 8 refl
html_rank (n.HtmlFlow its.TagName) x = ranked 7 refl
html_rank (n.HtmlFlow its.CompleteAttributeName) x = ranked 7 refl
html_rank (n.HtmlFlow its.CompleteAttributeNameAfter) x = ranked 6 refl
html_rank (n.HtmlFlow its.CompleteAttributeValueBefore) x = ranked 7 refl
html_rank (n.HtmlFlow its.CompleteAttributeValueUnquoted) x = ranked 6 refl
html_rank (n.HtmlFlow its.CompleteAttributeValueQuotedAfter) x = ranked 6 refl
html_rank (n.HtmlFlow its.CompleteAttributeNameBefore) x = ranked 5 refl
html_rank (n.HtmlFlow its.CompleteClosingTagAfter) x = ranked 5 refl
html_rank (n.HtmlFlow its.CompleteEnd) x = ranked 4 refl
html_rank (n.HtmlFlow its.CompleteAfter) x = ranked 4 refl
html_rank (n.HtmlFlow its.Continuation) x = ranked 3 refl
html_rank (n.HtmlFlow its.ContinuationClose) x = ranked 2 refl
html_rank (n.HtmlFlow its.ContinuationAfter) x = ranked 1 refl
html_rank _ x = ranked 8 refl

-- none begins an attempt
abbrev pub html_scheme : Scheme
html_scheme = record { ready = html_ready; level = λ n. 1; rank = html_rank; tries = λ n. ranked 0 refl }
