-- What the states of leaves call: no first state of a leaf or of a container, nor the state before a further prefix, and
-- no attempt that they begin continues at one.
use Rattle.std.proofs.Common.{◌≡◌, ◌⊎◌, inl, inr, ℕ, Bool, true, false, cond, List, ◌∷◌, refl, ap, Option, Some, None}
use Rattle.std.specs.Prelude.{length, ◌==◌, ◌&&◌, ◌||◌, not, ◌∷◌, ◌++◌, []}
use Rattle.md_engine.specs.declared.event.Name.{Name}
use Rattle.md_engine.specs.declared.state.Name.{Name as StateName}
use Rattle.md_engine.specs.declared.state.Name.TheVariants as s
use Rattle.md_engine.specs.declared.state.State.{State}
use Rattle.md_engine.specs.declared.state.State.TheVariants.{Next, Retry}
use Rattle.md_engine.specs.declared.state.blank_line.State.{State as BlankState}
use Rattle.md_engine.specs.declared.state.blank_line.State.TheVariants as blank_line
use Rattle.md_engine.specs.declared.state.block_quote.State.TheVariants as quote
use Rattle.md_engine.specs.declared.state.code_indented.State.TheVariants as code
use Rattle.md_engine.specs.declared.state.content.State.{State as ContentState}
use Rattle.md_engine.specs.declared.state.content.State.TheVariants as content
use Rattle.md_engine.specs.declared.state.gfm_footnote_definition.State.TheVariants as footnote
use Rattle.md_engine.specs.declared.state.gfm_table.State.TheVariants as gfm_table
use Rattle.md_engine.specs.declared.state.heading_atx.State.TheVariants as heading_atx
use Rattle.md_engine.specs.declared.state.heading_setext.State.TheVariants as heading_setext
use Rattle.md_engine.specs.declared.state.html_flow.State.TheVariants as html
use Rattle.md_engine.specs.declared.state.list_item.State.TheVariants as item
use Rattle.md_engine.specs.declared.state.raw_flow.State.TheVariants as raw
use Rattle.md_engine.specs.declared.state.space_or_tab.State.{State as WhiteState}
use Rattle.md_engine.specs.declared.state.space_or_tab.State.TheVariants as white
use Rattle.md_engine.specs.declared.state.thematic_break.State.TheVariants as thematic_break
use Rattle.md_engine.specs.declared.tokenizer.Frame.{Frame}
use Rattle.md_engine.specs.declared.tokenizer.Scratch.{Scratch}
use Rattle.md_engine.specs.World.{World}
use Rattle.md_containers.specs.Item as ItemStates
use Rattle.md_content.specs.Chunks as ChunkStates
use Rattle.md_events.specs.Spaces as WhiteStates
use Rattle.md_events.specs.Spaces.{any_size, ends_line, sees_white, small_indent, white_then}
use Rattle.md_events.specs.Transition.{Transition, entered, tried, exited}
use Rattle.md_leaves.specs.Blank as BlankStates
use Rattle.md_leaves.specs.LeafStart as LeafStarts
use Rattle.std.specs.Char.{is_ascii_alphabetic}
use Rattle.md_engine.specs.declared.event.Event.{Event}
use Rattle.md_engine.specs.declared.event.Name.TheVariants.{Data, HeadingSetextUnderlineSequence, ThematicBreakSequence}
use Rattle.md_engine.specs.declared.state.code_indented.State.{State as CodeState}
use Rattle.md_engine.specs.declared.state.gfm_table.State.{State as TableState}
use Rattle.md_engine.specs.declared.state.heading_atx.State.{State as HeadingState}
use Rattle.md_engine.specs.declared.state.heading_setext.State.{State as SetextState}
use Rattle.md_engine.specs.declared.state.html_flow.State.{State as HtmlState}
use Rattle.md_engine.specs.declared.state.raw_flow.State.{State as RawState}
use Rattle.md_engine.specs.declared.state.thematic_break.State.{State as BreakState}
use Rattle.md_engine.specs.declared.tokenizer.held_leaf.HeldLeaf.{HeldLeaf}
use Rattle.md_engine.specs.declared.tokenizer.held_leaf.HeldLeaf.TheVariants as held_leaf
use Rattle.md_engine.specs.declared.tokenizer.held_leaf.OpenText.{OpenText}
use Rattle.md_meaning.specs.Html.{begins_attribute, is_attribute_byte, is_value_byte}
use Rattle.md_meaning.specs.Rest.{is_white}
use Rattle.md_leaves.specs.Break as BreakStates
use Rattle.md_leaves.specs.Heading as HeadingStates
use Rattle.md_leaves.specs.HeadingSetext as SetextStates
use Rattle.md_literal.specs.Code as CodeStates
use Rattle.md_literal.specs.Fence as FenceStates
use Rattle.md_literal.specs.Html as HtmlStates
use Rattle.md_literal.specs.Html.{Move, Stops, Takes, TakesAs, Turns, TurnsAs}
use Rattle.md_tables.specs.Delimiter as DelimiterStates
use Rattle.md_tables.specs.GfmTable as TableStates
use Rattle.md_tables.specs.Row as RowStates
use Rattle.md_tables.specs.declared.row.Place.{Place}
use Rattle.md_tables.specs.declared.row.Place.TheVariants as place
use Rattle.md_tables.specs.declared.row.Row.{Row}
use Rattle.md_tables.specs.declared.row.Row.TheVariants.{Body, Head}

-- Those that are none of these: of constructs, of flow and of the document. That of an item which tests for a break is
-- counted among the first states.
abbrev pub is_free : StateName → Bool
is_free (s.BlockQuote quote.Start) = false
is_free (s.BlockQuote quote.ContStart) = false
is_free (s.CodeIndented code.Start) = false
is_free (s.CodeIndented code.FurtherStart) = false
is_free (s.GfmFootnoteDefinition footnote.Start) = false
is_free (s.GfmTable gfm_table.Start) = false
is_free (s.HeadingAtx heading_atx.Start) = false
is_free (s.HeadingSetext heading_setext.Start) = false
is_free (s.HtmlFlow html.Start) = false
is_free (s.HtmlFlow html.ContinuationStart) = false
is_free (s.ListItem item.Start) = false
is_free (s.ListItem item.Before) = false
is_free (s.ListItem item.ContStart) = false
is_free (s.RawFlow raw.Start) = false
is_free (s.RawFlow raw.AtNonLazyBreak) = false
is_free (s.ThematicBreak thematic_break.Start) = false
is_free name = true

abbrev pub StaysFree : State → Type 0
StaysFree (Next name) = is_free name ≡ true
StaysFree (Retry name) = is_free name ≡ true
StaysFree to = Unit {0}

-- an attempt that continues at such a state
pub record IsFreeFrame (f : Frame) : Type 0 where
  pub ok : StaysFree f.ok
  pub nok : StaysFree f.nok

-- one was begun
pub record Begins (w new : World) : Type 0 where
  pub frame : Frame
  pub frames : new.frames ≡ frame ∷ w.frames
  pub inner : IsFreeFrame frame

-- a call leads to such a state, and begins such an attempt or none
pub record LeadsFree (w : World) (x : Transition) : Type 0 where
  pub to : StaysFree x.to
  pub frames : (x.world.frames ≡ w.frames) ⊎ Begins w x.world

-- One of two, by a test.
pub either : (w : World) (x y : Transition) (t : Bool) → LeadsFree w x → LeadsFree w y → LeadsFree w (cond t x y)
either w x y true h k = h
either w x y false h k = k

-- No attempt begins,
pub turns : (w v : World) (to : State) → v.frames ≡ w.frames → StaysFree to →
    LeadsFree w (record { to = to; world = v })
turns w v to same free = record { to = free; frames = inl same }

-- or one does.
pub tries : (w v : World) (first : StateName) (ok nok : State) (scratch : Scratch) → v.frames ≡ w.frames →
    is_free first ≡ true → StaysFree ok → StaysFree nok →
    LeadsFree w (record { to = Retry first; world = record (tried v ok nok) { scratch = scratch } })
tries w v first ok nok scratch same free on otherwise = record {
  to = free;
  frames = inr (record {
    frame = frame;
    frames = ap (λ (fs : List Frame). frame ∷ fs) same;
    inner = record { ok = on; nok = otherwise };
  });
}
  where
    frame : Frame
    frame = record { ok = ok; nok = nok; is_check = false; events_len = length v.events; point = v.point }

pub checks : (w v : World) (first : StateName) (ok nok : State) → v.frames ≡ w.frames → is_free first ≡ true →
    StaysFree ok → StaysFree nok →
    LeadsFree w (record { to = Retry first; world = ItemStates.checked v ok nok })
checks w v first ok nok same free on otherwise = record {
  to = free;
  frames = inr (record {
    frame = frame;
    frames = ap (λ (fs : List Frame). frame ∷ fs) same;
    inner = record { ok = on; nok = otherwise };
  });
}
  where
    frame : Frame
    frame = record { ok = ok; nok = nok; is_check = true; events_len = length v.events; point = v.point }

pub whites : (w v : World) (min max : ℕ) (ok nok : State) → v.frames ≡ w.frames → StaysFree ok → StaysFree nok →
    LeadsFree w (white_then v min max ok nok)
whites w v min max ok nok same on otherwise =
    tries w v (s.SpaceOrTab white.Start) ok nok (WhiteStates.asking min max 0 v.scratch) same refl on otherwise

-- What constructs share.

pub white-leads : (state : WhiteState) (w : World) → LeadsFree w (WhiteStates.white_transition state w)
white-leads white.Start w = start (WhiteStates.begins_white w)
  where
    start : (t : Bool) → LeadsFree w (WhiteStates.start_code w t)
    start true = turns w _ _ refl refl
    start false = turns w _ _ refl refl
white-leads white.Inside w = inside _
  where
    inside : (t : Bool) → LeadsFree w (WhiteStates.inside_code w t)
    inside true = turns w _ _ refl refl
    inside false = turns w _ _ refl refl
white-leads white.After w = after _
  where
    after : (t : Bool) → LeadsFree w (WhiteStates.after_code w t)
    after true = turns w _ _ refl tt
    after false = turns w _ _ refl tt

blank-start : (w : World) (t : Bool) → LeadsFree w (BlankStates.start_code w t)
blank-start w true = whites w w 1 any_size _ _ refl refl tt
blank-start w false = turns w _ _ refl refl

blank-after : (w : World) (t : Bool) → LeadsFree w (BlankStates.after_code w t)
blank-after w true = turns w _ _ refl tt
blank-after w false = turns w _ _ refl tt

pub blank-leads : (state : BlankState) (w : World) → LeadsFree w (BlankStates.blank_transition state w)
blank-leads blank_line.Start w = blank-start w (sees_white w.current)
blank-leads blank_line.After w = blank-after w (ends_line w.current)

chunk-inside : (w : World) (t : Bool) → LeadsFree w (ChunkStates.chunk_inside_code w t)
chunk-inside w true = turns w _ _ refl tt
chunk-inside w false = turns w _ _ refl refl

pub chunk-leads : (state : ContentState) (w : World) → LeadsFree w (ChunkStates.chunk_transition state w)
chunk-leads content.ChunkStart w = turns w _ _ refl refl
chunk-leads content.ChunkInside w = chunk-inside w (ends_line w.current)
chunk-leads _ w = turns w _ _ refl tt

pub leaf-start : (name : Name) (following : StateName) (w : World) (on t : Bool) → is_free following ≡ true →
    LeadsFree w (LeafStarts.start_code name following w on t)
leaf-start name following w false t free = turns w _ _ refl tt
leaf-start name following w true true free =
    whites w (entered w name) 0 (small_indent w.setting.options) _ _ refl free tt
leaf-start name following w true false free = turns w _ _ refl free

-- ATX headings.

heading-before : (w : World) (t : Bool) → LeadsFree w (HeadingStates.before_code w t)
heading-before w true = turns w _ _ refl refl
heading-before w false = turns w _ _ refl tt

heading-part : (w v : World) (t : Bool) → v.frames ≡ w.frames → LeadsFree w (HeadingStates.after_part v t)
heading-part w v true same = whites w v 1 any_size _ _ same refl tt
heading-part w v false same = turns w _ _ same refl

heading-open : (w : World) (t text blank : Bool) → LeadsFree w (HeadingStates.sequence_open_code w t text blank)
heading-open w true text blank = turns w _ _ refl refl
heading-open w false true blank = turns w _ _ refl tt
heading-open w false false blank = heading-part w _ blank refl

heading-break : (w : World) (text hash ends : Bool) → LeadsFree w (HeadingStates.at_break_code w text hash ends)
heading-break w true true ends = turns w _ _ refl refl
heading-break w true false ends = turns w _ _ refl refl
heading-break w false hash true = turns w _ _ refl tt
heading-break w false hash false = turns w _ _ refl tt

heading-further : (w : World) (t : Bool) → LeadsFree w (HeadingStates.sequence_further_code w t)
heading-further w true = turns w _ _ refl refl
heading-further w false = turns w _ _ refl refl

heading-data : (w : World) (t : Bool) → LeadsFree w (HeadingStates.data_code w t)
heading-data w true = turns w _ _ refl tt
heading-data w false = turns w _ _ refl refl

pub heading-leads : (state : HeadingState) (w : World) → LeadsFree w (HeadingStates.heading_transition state w)
heading-leads heading_atx.Start w = leaf-start _ _ w _ (sees_white w.current) refl
heading-leads heading_atx.Before w = heading-before w _
heading-leads heading_atx.SequenceOpen w = heading-open w _ _ (sees_white w.current)
heading-leads heading_atx.AtBreak w = heading-break w _ _ (ends_line w.current)
heading-leads heading_atx.SequenceFurther w = heading-further w _
heading-leads heading_atx.Data w = heading-data w (ends_line w.current)

-- Underlines.

setext-before : (w : World) (o : Option ℕ) → LeadsFree w (SetextStates.before_code w o)
setext-before w None = turns w _ _ refl tt
setext-before w (Some b) = either w _ _ (SetextStates.is_marker b) (turns w _ _ refl refl) (turns w _ _ refl tt)

setext-inside : (w : World) (t blank : Bool) → LeadsFree w (SetextStates.inside_code w t blank)
setext-inside w true blank = turns w _ _ refl refl
setext-inside w false true =
    whites w (record (exited w HeadingSetextUnderlineSequence) { scratch = SetextStates.without_marker w.scratch }) 0
    any_size _ _ refl refl tt
setext-inside w false false = turns w _ _ refl refl

setext-after : (w : World) (t : Bool) → LeadsFree w (SetextStates.after_code w t)
setext-after w true = turns w _ _ refl tt
setext-after w false = turns w _ _ refl tt

pub setext-leads : (state : SetextState) (w : World) → LeadsFree w (SetextStates.setext_transition state w)
setext-leads heading_setext.Start w = leaf-start _ _ w _ (sees_white w.current) refl
setext-leads heading_setext.Before w = setext-before w w.current
setext-leads heading_setext.Inside w = setext-inside w _ (sees_white w.current)
setext-leads heading_setext.After w = setext-after w (ends_line w.current)

-- Thematic breaks.

break-marked : (w : World) (b : ℕ) (t : Bool) → LeadsFree w (BreakStates.marked_code w b t)
break-marked w b true = turns w _ _ refl refl
break-marked w b false = turns w _ _ refl refl

break-before : (w : World) (nothing : Bool) (o : Option ℕ) → LeadsFree w (BreakStates.before_code w nothing o)
break-before w nothing None = turns w _ _ refl tt
break-before w nothing (Some b) =
    either w _ _ (BreakStates.is_marker b) (break-marked w b ((b == 45) && nothing)) (turns w _ _ refl tt)

break-at : (w : World) (t done : Bool) → LeadsFree w (BreakStates.at_break_code w t done)
break-at w true done = turns w _ _ refl refl
break-at w false true = turns w _ _ refl tt
break-at w false false = turns w _ _ refl tt

break-sequence : (w : World) (t blank : Bool) → LeadsFree w (BreakStates.sequence_code w t blank)
break-sequence w true blank = turns w _ _ refl refl
break-sequence w false true = whites w (exited w ThematicBreakSequence) 0 any_size _ _ refl refl tt
break-sequence w false false = turns w _ _ refl refl

break-run : (w : World) (t blank : Bool) → LeadsFree w (BreakStates.one_run_code w t blank)
break-run w true blank = turns w _ _ refl refl
break-run w false true = whites w (exited w ThematicBreakSequence) 0 any_size _ _ refl refl tt
break-run w false false = turns w _ _ refl refl

break-run_after : (w : World) (t : Bool) → LeadsFree w (BreakStates.one_run_after_code w t)
break-run_after w true = turns w _ _ refl tt
break-run_after w false = turns w _ _ refl refl

pub break-leads : (state : BreakState) (w : World) → LeadsFree w (BreakStates.break_transition state w)
break-leads thematic_break.Start w = leaf-start _ _ w _ (sees_white w.current) refl
break-leads thematic_break.Before w = break-before w _ w.current
break-leads thematic_break.AtBreak w = break-at w _ _
break-leads thematic_break.Sequence w = break-sequence w _ (sees_white w.current)
break-leads thematic_break.OneRun w = break-run w _ (sees_white w.current)
break-leads thematic_break.OneRunAfter w = break-run_after w (ends_line w.current)

-- Indented code.

code-begun : (w : World) (e : Event) (t : Bool) → LeadsFree w (CodeStates.begun_code w e t)
code-begun w e true = whites w (record w { events = w.events ++ e ∷ [] }) 4 4 _ _ refl refl tt
code-begun w e false = turns w _ _ refl tt

code-break : (w : World) (t : Bool) → LeadsFree w (CodeStates.at_break_code w t)
code-break w true = turns w _ _ refl refl
code-break w false = turns w _ _ refl refl

code-blank : (w : World) (t blank : Bool) → LeadsFree w (CodeStates.inside_blank_code w t blank)
code-blank w true blank = turns w _ _ refl tt
code-blank w false true = turns w _ _ refl refl
code-blank w false false = turns w _ _ refl refl

code-inside : (w : World) (t : Bool) → LeadsFree w (CodeStates.inside_code w t)
code-inside w true = turns w _ _ refl refl
code-inside w false = turns w _ _ refl refl

code-further_begin : (w : World) (t : Bool) → LeadsFree w (CodeStates.further_begin_code w t)
code-further_begin w true = whites w w 0 4 _ _ refl refl tt
code-further_begin w false = turns w _ _ refl refl

code-further_after : (w : World) (t blank : Bool) → LeadsFree w (CodeStates.further_after_code w t blank)
code-further_after w true blank = turns w _ _ refl tt
code-further_after w false true = turns w _ _ refl refl
code-further_after w false false = turns w _ _ refl tt

code-further_inside : (w : World) (t blank : Bool) → LeadsFree w (CodeStates.further_inside_code w t blank)
code-further_inside w true blank = turns w _ _ refl tt
code-further_inside w false true = turns w _ _ refl refl
code-further_inside w false false = turns w _ _ refl tt

pub code-leads : (state : CodeState) (w : World) → LeadsFree w (CodeStates.code_transition state w)
code-leads code.Start w = code-begun w _ _
code-leads code.AtBreak w = code-break w w.scratch.seen
code-leads code.InsideBlank w = code-blank w (ends_line w.current) (sees_white w.current)
code-leads code.Inside w = code-inside w (ends_line w.current)
code-leads code.After w = turns w _ _ refl tt
code-leads code.FurtherStart w = tries w w (s.CodeIndented code.FurtherLine) _ _ w.scratch refl refl tt refl
code-leads code.FurtherLine w = code-begun w _ (sees_white w.current)
code-leads code.FurtherBegin w = code-further_begin w (sees_white w.current)
code-leads code.FurtherAfter w = code-further_after w (ends_line w.current) (sees_white w.current)
code-leads code.FurtherInside w = code-further_inside w (ends_line w.current) (sees_white w.current)

-- Fenced code and math.

fence-part : (w v : World) (state : RawState) (t : Bool) → v.frames ≡ w.frames → is_free (s.RawFlow state) ≡ true →
    LeadsFree w (FenceStates.after_part v state t)
fence-part w v state true same free = whites w v 0 any_size _ _ same free tt
fence-part w v state false same free = turns w _ _ same free

fence-start : (w : World) (on t : Bool) → LeadsFree w (FenceStates.start_code w on t)
fence-start w false t = turns w _ _ refl tt
fence-start w true true = whites w (FenceStates.begun w) 0 (small_indent w.setting.options) _ _ refl refl tt
fence-start w true false = turns w _ _ refl refl

fence-before : (w : World) (m : ℕ) (t : Bool) → LeadsFree w (FenceStates.before_open_code w m t)
fence-before w m true = turns w _ _ refl refl
fence-before w m false = turns w _ _ refl tt

fence-opens : (w : World) (o : Option ℕ) → LeadsFree w (FenceStates.before_open w o)
fence-opens w None = turns w _ _ refl tt
fence-opens w (Some b) = fence-before w b _

fence-open : (w : World) (t few blank : Bool) → LeadsFree w (FenceStates.sequence_open_code w t few blank)
fence-open w true few blank = turns w _ _ refl refl
fence-open w false true blank = turns w _ _ refl tt
fence-open w false false blank =
    fence-part w _ (FenceStates.after_opening w.scratch.marker) blank refl (opening (w.scratch.marker == 36))
  where
    opening : (x : Bool) → is_free (s.RawFlow (cond x raw.MetaBefore raw.InfoBefore)) ≡ true
    opening true = refl
    opening false = refl

fence-info_before : (w : World) (t blank : Bool) → LeadsFree w (FenceStates.info_before_code w t blank)
fence-info_before w true blank = turns w _ _ refl tt
fence-info_before w false true = turns w _ _ refl tt
fence-info_before w false false = turns w _ _ refl refl

fence-meta_before : (w : World) (t blank : Bool) → LeadsFree w (FenceStates.meta_before_code w t blank)
fence-meta_before w true blank = turns w _ _ refl refl
fence-meta_before w false true = turns w _ _ refl tt
fence-meta_before w false false = turns w _ _ refl refl

fence-info : (w : World) (t blank bad : Bool) → LeadsFree w (FenceStates.info_code w t blank bad)
fence-info w true blank bad = fence-part w _ raw.MetaBefore blank refl refl
fence-info w false blank true = turns w _ _ refl tt
fence-info w false blank false = turns w _ _ refl refl

fence-meta : (w : World) (t bad : Bool) → LeadsFree w (FenceStates.meta_code w t bad)
fence-meta w true bad = turns w _ _ refl refl
fence-meta w false true = turns w _ _ refl tt
fence-meta w false false = turns w _ _ refl refl

fence-line : (w : World) (t : Bool) → LeadsFree w (FenceStates.at_non_lazy_break_code w t)
fence-line w true = tries w (FenceStates.line_entered w) (s.RawFlow raw.CloseStart) _ _ _ refl refl refl refl
fence-line w false = turns w _ _ refl refl

fence-close_start : (w : World) (t : Bool) → LeadsFree w (FenceStates.close_start_code w t)
fence-close_start w true = whites w w 0 (small_indent w.setting.options) _ _ refl refl tt
fence-close_start w false = turns w _ _ refl refl

fence-closes : (w : World) (t : Bool) → LeadsFree w (FenceStates.before_close_code w t)
fence-closes w true = turns w _ _ refl refl
fence-closes w false = turns w _ _ refl tt

fence-close : (w : World) (t few blank : Bool) → LeadsFree w (FenceStates.sequence_close_code w t few blank)
fence-close w true few blank = turns w _ _ refl refl
fence-close w false true blank = turns w _ _ refl tt
fence-close w false false blank = fence-part w _ raw.SequenceCloseAfter blank refl refl

fence-close_after : (w : World) (t : Bool) → LeadsFree w (FenceStates.close_after_code w t)
fence-close_after w true = turns w _ _ refl tt
fence-close_after w false = turns w _ _ refl tt

fence-content : (w : World) (t : Bool) → LeadsFree w (FenceStates.content_start_code w t)
fence-content w true = whites w w 0 _ _ _ refl refl tt
fence-content w false = turns w _ _ refl refl

fence-before_chunk : (w : World) (t : Bool) → LeadsFree w (FenceStates.before_chunk_code w t)
fence-before_chunk w true = turns w _ _ refl tt
fence-before_chunk w false = turns w _ _ refl refl

fence-chunk : (w : World) (t : Bool) → LeadsFree w (FenceStates.chunk_code w t)
fence-chunk w true = turns w _ _ refl refl
fence-chunk w false = turns w _ _ refl refl

pub fence-leads : (state : RawState) (w : World) → LeadsFree w (FenceStates.fence_transition state w)
fence-leads raw.Start w = fence-start w _ (sees_white w.current)
fence-leads raw.BeforeSequenceOpen w = fence-opens w w.current
fence-leads raw.SequenceOpen w = fence-open w _ _ (sees_white w.current)
fence-leads raw.InfoBefore w = fence-info_before w (ends_line w.current) (sees_white w.current)
fence-leads raw.Info w = fence-info w _ (sees_white w.current) _
fence-leads raw.MetaBefore w = fence-meta_before w (ends_line w.current) (sees_white w.current)
fence-leads raw.Meta w = fence-meta w (ends_line w.current) _
fence-leads raw.AtNonLazyBreak w = fence-line w _
fence-leads raw.CloseStart w = fence-close_start w (sees_white w.current)
fence-leads raw.BeforeSequenceClose w = fence-closes w _
fence-leads raw.SequenceClose w = fence-close w _ _ (sees_white w.current)
fence-leads raw.SequenceCloseAfter w = fence-close_after w (ends_line w.current)
fence-leads raw.ContentBefore w = turns w _ _ refl refl
fence-leads raw.ContentStart w = fence-content w _
fence-leads raw.BeforeContentChunk w = fence-before_chunk w (ends_line w.current)
fence-leads raw.ContentChunk w = fence-chunk w (ends_line w.current)
fence-leads raw.After w = turns w _ _ refl tt

-- HTML: by the move that a state makes.

abbrev IsFreeMove : Move → Type 0
IsFreeMove (Takes state scratch) = is_free (s.HtmlFlow state) ≡ true
IsFreeMove (Turns state scratch) = is_free (s.HtmlFlow state) ≡ true
IsFreeMove (TakesAs leaf state scratch) = is_free (s.HtmlFlow state) ≡ true
IsFreeMove (TurnsAs leaf state scratch) = is_free (s.HtmlFlow state) ≡ true
IsFreeMove Stops = Unit {0}

moves : (w : World) (m : Move) → IsFreeMove m → LeadsFree w (HtmlStates.moved w m)
moves w (Takes state scratch) free = turns w _ _ refl free
moves w (Turns state scratch) free = turns w _ _ refl free
moves w (TakesAs leaf state scratch) free = turns w _ _ refl free
moves w (TurnsAs leaf state scratch) free = turns w _ _ refl free
moves w Stops free = turns w _ _ refl tt

one-of : (m k : Move) (t : Bool) → IsFreeMove m → IsFreeMove k → IsFreeMove (cond t m k)
one-of m k true a b = a
one-of m k false a b = b

html-byte : (f : ℕ → Move) (none : Move) (o : Option ℕ) → ((b : ℕ) → IsFreeMove (f b)) → IsFreeMove none →
    IsFreeMove (HtmlStates.by_byte f none o)
html-byte f none None each other = other
html-byte f none (Some b) each other = each b

html-start : (w : World) (t : Bool) → LeadsFree w (HtmlStates.start_code w t)
html-start w true = turns w _ _ refl refl
html-start w false = turns w _ _ refl tt

html-indent : (x : Scratch) (t : Bool) → IsFreeMove (HtmlStates.indent_move x t)
html-indent x true = refl
html-indent x false = refl

html-before : (x : Scratch) (t : Bool) → IsFreeMove (HtmlStates.before_move x t)
html-before x true = refl
html-before x false = tt

html-open : (x : Scratch) (index b : ℕ) → IsFreeMove (HtmlStates.open_byte x index b)
html-open x index b =
    one-of _ _ (b == 33) refl (one-of _ _ (b == 47) refl (one-of _ _ (b == 63) refl (one-of _ _ (is_ascii_alphabetic b) refl tt)))

html-declaration : (x : Scratch) (b : ℕ) → IsFreeMove (HtmlStates.declaration_byte x b)
html-declaration x b =
    one-of _ _ (b == 45) refl (one-of _ _ (b == 91) refl (one-of _ _ (is_ascii_alphabetic b) refl tt))

html-comment : (x : Scratch) (t : Bool) → IsFreeMove (HtmlStates.comment_move x t)
html-comment x true = refl
html-comment x false = tt

html-cdata : (x : Scratch) (t more : Bool) → IsFreeMove (HtmlStates.cdata_move x t more)
html-cdata x true true = refl
html-cdata x true false = refl
html-cdata x false more = tt

html-close_start : (x : Scratch) (index : ℕ) (t : Bool) → IsFreeMove (HtmlStates.close_start_move x index t)
html-close_start x index true = refl
html-close_start x index false = tt

html-complete : (x : Scratch) (closing on : Bool) → IsFreeMove (HtmlStates.complete_name_code x closing on)
html-complete x closing true = tt
html-complete x true false = refl
html-complete x false false = refl

html-basic : (x : Scratch) (t : Bool) → IsFreeMove (HtmlStates.basic_name_code x t)
html-basic x true = refl
html-basic x false = refl

html-name : (x : Scratch) (leaf : HeldLeaf) (slash is_raw is_basic : Bool) →
    IsFreeMove (HtmlStates.name_code x leaf slash is_raw is_basic)
html-name x leaf slash true is_basic = refl
html-name x leaf slash false true = html-basic x slash
html-name x leaf slash false false = html-complete x x.seen _

html-tag : (w : World) (t ends : Bool) → IsFreeMove (HtmlStates.tag_name_move w t ends)
html-tag w true ends = refl
html-tag w false true = html-name w.scratch w.flags.leaf _ _ _
html-tag w false false = tt

html-self_closing : (x : Scratch) (t : Bool) → IsFreeMove (HtmlStates.self_closing_move x t)
html-self_closing x true = refl
html-self_closing x false = tt

html-closing : (x : Scratch) (t : Bool) → IsFreeMove (HtmlStates.closing_move x t)
html-closing x true = refl
html-closing x false = refl

html-name_before : (x : Scratch) (b : ℕ) → IsFreeMove (HtmlStates.name_before_byte x b)
html-name_before x b =
    one-of _ _ (is_white b) refl
    (one-of _ _ (b == 47) refl (one-of _ _ (begins_attribute b && x.seen) refl refl))

html-name_byte : (x : Scratch) (b : ℕ) → IsFreeMove (HtmlStates.name_byte x b)
html-name_byte x b = one-of _ _ (is_attribute_byte b) refl refl

html-name_after : (x : Scratch) (b : ℕ) → IsFreeMove (HtmlStates.name_after_byte x b)
html-name_after x b = one-of _ _ (is_white b) refl (one-of _ _ (b == 61) refl refl)

html-value_before : (x : Scratch) (b : ℕ) → IsFreeMove (HtmlStates.value_before_byte x b)
html-value_before x b =
    one-of _ _ (b == 10) tt
    (one-of _ _ (is_white b) refl
    (one-of _ _ ((b == 34) || (b == 39)) refl (one-of _ _ (is_value_byte b) refl tt)))

html-quoted : (x : Scratch) (b : ℕ) → IsFreeMove (HtmlStates.quoted_byte x b)
html-quoted x b = one-of _ _ (b == 10) tt (one-of _ _ (b == x.marker) refl refl)

html-unquoted : (x : Scratch) (b : ℕ) → IsFreeMove (HtmlStates.unquoted_byte x b)
html-unquoted x b = one-of _ _ (not (b == 10) && is_value_byte b) refl refl

html-end : (x : Scratch) (t : Bool) → IsFreeMove (HtmlStates.end_move x t)
html-end x true = refl
html-end x false = tt

html-complete_after : (x : Scratch) (t blank : Bool) → IsFreeMove (HtmlStates.complete_after_move x t blank)
html-complete_after x true blank = refl
html-complete_after x false true = refl
html-complete_after x false false = tt

html-stop : (x : Scratch) → IsFreeMove (HtmlStates.stop_move x)
html-stop x =
    one-of _ _ (x.marker == 60) refl
    (one-of _ _ (x.marker == 45) refl (one-of _ _ (x.marker == 63) refl (one-of _ _ (x.marker == 93) refl refl)))

html-text : (x : Scratch) (t : Bool) → IsFreeMove (HtmlStates.text_move x t)
html-text x true = html-stop x
html-text x false = refl

html-continuation : (w : World) (t : Bool) → LeadsFree w (HtmlStates.continuation_code w t)
html-continuation w true = turns w _ _ refl refl
html-continuation w false = moves w _ (html-text w.scratch _)

html-twice : (x : Scratch) (t : Bool) → IsFreeMove (HtmlStates.twice_move x t)
html-twice x true = refl
html-twice x false = refl

html-raw_open : (w : World) (t : Bool) → LeadsFree w (HtmlStates.raw_open_code w t)
html-raw_open w true = turns w _ _ refl refl
html-raw_open w false = turns w _ _ refl refl

html-raw_end : (x : Scratch) (t ends : Bool) → IsFreeMove (HtmlStates.raw_end_move x t ends)
html-raw_end x true ends = refl
html-raw_end x false true = refl
html-raw_end x false false = refl

html-inside : (x : Scratch) (t again : Bool) → IsFreeMove (HtmlStates.inside_move x t again)
html-inside x true again = refl
html-inside x false true = refl
html-inside x false false = refl

html-close : (w : World) (t : Bool) → LeadsFree w (HtmlStates.close_code w t)
html-close w true = turns w _ _ refl refl
html-close w false = turns w _ _ refl refl

html-further : (w : World) (t : Bool) → LeadsFree w (HtmlStates.further_code w t)
html-further w true = turns w _ _ refl refl
html-further w false = turns w _ _ refl refl

html-line : (w : World) (t : Bool) → LeadsFree w (HtmlStates.line_before_code w t)
html-line w true = turns w _ _ refl refl
html-line w false = turns w _ _ refl refl

html-blank : (x : Scratch) (t blank : Bool) → IsFreeMove (HtmlStates.blank_move x t blank)
html-blank x true blank = tt
html-blank x false true = refl
html-blank x false false = refl

pub html-leads : (state : HtmlState) (w : World) → LeadsFree w (HtmlStates.html_transition state w)
html-leads html.Start w = html-start w _
html-leads html.Indent w = moves w _ (html-indent w.scratch _)
html-leads html.Before w = moves w _ (html-before w.scratch _)
html-leads html.Open w = moves w _ (html-byte _ _ w.current (html-open w.scratch w.point.index) tt)
html-leads html.DeclarationOpen w = moves w _ (html-byte _ _ w.current (html-declaration w.scratch) tt)
html-leads html.CommentOpenInside w = moves w _ (html-comment w.scratch _)
html-leads html.CdataOpenInside w = moves w _ (html-cdata w.scratch _ _)
html-leads html.TagCloseStart w = moves w _ (html-close_start w.scratch w.point.index _)
html-leads html.TagName w = moves w _ (html-tag w _ _)
html-leads html.BasicSelfClosing w = moves w _ (html-self_closing w.scratch _)
html-leads html.CompleteClosingTagAfter w = moves w _ (html-closing w.scratch (sees_white w.current))
html-leads html.CompleteAttributeNameBefore w =
    moves w _ (html-byte _ _ w.current (html-name_before w.scratch) refl)
html-leads html.CompleteAttributeName w = moves w _ (html-byte _ _ w.current (html-name_byte w.scratch) refl)
html-leads html.CompleteAttributeNameAfter w = moves w _ (html-byte _ _ w.current (html-name_after w.scratch) refl)
html-leads html.CompleteAttributeValueBefore w = moves w _ (html-byte _ _ w.current (html-value_before w.scratch) tt)
html-leads html.CompleteAttributeValueQuoted w = moves w _ (html-byte _ _ w.current (html-quoted w.scratch) tt)
html-leads html.CompleteAttributeValueUnquoted w =
    moves w _ (html-byte _ _ w.current (html-unquoted w.scratch) refl)
html-leads html.CompleteAttributeValueQuotedAfter w = turns w _ _ refl refl
html-leads html.CompleteEnd w = moves w _ (html-end w.scratch _)
html-leads html.CompleteAfter w = moves w _ (html-complete_after w.scratch (ends_line w.current) (sees_white w.current))
html-leads html.Continuation w = html-continuation w (ends_line w.current)
html-leads html.ContinuationStart w = html-further w _
html-leads html.ContinuationStartNonLazy w = turns w _ _ refl refl
html-leads html.ContinuationBefore w = html-line w (ends_line w.current)
html-leads html.ContinuationCommentInside w = moves w _ (html-twice w.scratch _)
html-leads html.ContinuationRawTagOpen w = html-raw_open w _
html-leads html.ContinuationRawEndTag w = moves w _ (html-raw_end w.scratch _ _)
html-leads html.ContinuationCdataInside w = moves w _ (html-twice w.scratch _)
html-leads html.ContinuationDeclarationInside w = moves w _ (html-inside w.scratch _ _)
html-leads html.ContinuationClose w = html-close w (ends_line w.current)
html-leads html.ContinuationAfter w = turns w _ _ refl tt
html-leads html.BlankLineBefore w = moves w _ (html-blank w.scratch (ends_line w.current) (sees_white w.current))

-- Tables.

table-head : (w : World) (text : OpenText) (t : Bool) → LeadsFree w (TableStates.head_code w text t)
table-head w text true = turns w _ _ refl refl
table-head w text false = turns w _ _ refl tt

table-start : (w : World) (leaf : HeldLeaf) → LeadsFree w (TableStates.start_code w leaf)
table-start w (held_leaf.Text text) = table-head w text _
table-start w held_leaf.Table = turns w _ _ refl refl
table-start w _ = turns w _ _ refl tt

table-begins : (w : World) (t : Bool) → LeadsFree w (TableStates.begins_code w t)
table-begins w true = table-start w w.flags.leaf
table-begins w false = turns w _ _ refl tt

row-free : (r : Row) (p : Place) → is_free (RowStates.name_at r p) ≡ true
row-free Head place.Start = refl
row-free Head place.Break = refl
row-free Head place.Data = refl
row-free Head place.Escape = refl
row-free Head place.CellBefore = refl
row-free Body place.Start = refl
row-free Body place.Break = refl
row-free Body place.Data = refl
row-free Body place.Escape = refl
row-free Body place.CellBefore = refl

row-begun : (r : Row) (w : World) → (RowStates.begun r w).frames ≡ w.frames
row-begun Head w = refl
row-begun Body w = refl

row-shut : (r : Row) (w : World) → (RowStates.shut r w).frames ≡ w.frames
row-shut Head w = refl
row-shut Body w = refl

row-part : (r : Row) (w v : World) (t : Bool) → v.frames ≡ w.frames → LeadsFree w (RowStates.after_part r v t)
row-part r w v true same = whites w v 1 any_size _ _ same (row-free r place.Break) tt
row-part r w v false same = turns w _ _ same (row-free r place.Break)

row-break : (r : Row) (w : World) (p : RowStates.Piece) → LeadsFree w (RowStates.at_break_code r w p)
row-break r w RowStates.Ends = turns w _ _ (row-shut r w) tt
row-break r w RowStates.White = turns w _ _ refl tt
row-break r w RowStates.Divides = turns w _ _ refl (row-free r place.CellBefore)
row-break r w RowStates.Escapes = turns w _ _ refl (row-free r place.Data)
row-break r w RowStates.Other = turns w _ _ refl (row-free r place.Data)

row-data : (r : Row) (w : World) (p : RowStates.Piece) → LeadsFree w (RowStates.data_code r w p)
row-data r w RowStates.Ends = row-part r w (exited w Data) false refl
row-data r w RowStates.White = row-part r w (exited w Data) true refl
row-data r w RowStates.Divides = row-part r w (exited w Data) false refl
row-data r w RowStates.Escapes = turns w _ _ refl (row-free r place.Escape)
row-data r w RowStates.Other = turns w _ _ refl (row-free r place.Data)

row-escape : (r : Row) (w : World) (t : Bool) → LeadsFree w (RowStates.escape_code r w t)
row-escape r w true = turns w _ _ refl (row-free r place.Data)
row-escape r w false = turns w _ _ refl (row-free r place.Data)

row-leads : (r : Row) (p : Place) (w : World) → LeadsFree w (RowStates.row_transition r p w)
row-leads r place.Start w = row-part r w _ (sees_white w.current) (row-begun r w)
row-leads r place.Break w = row-break r w _
row-leads r place.Data w = row-data r w _
row-leads r place.Escape w = row-escape r w _
row-leads r place.CellBefore w = row-part r w w (sees_white w.current) refl

cell-white : (w v : World) (max : ℕ) (state : TableState) (t : Bool) → v.frames ≡ w.frames →
    is_free (s.GfmTable state) ≡ true → LeadsFree w (DelimiterStates.white_on v max state t)
cell-white w v max state true same free = whites w v 0 max _ _ same free tt
cell-white w v max state false same free = turns w _ _ same free

cell-before : (w : World) (m : DelimiterStates.Mark) → LeadsFree w (DelimiterStates.before_code w m)
cell-before w DelimiterStates.Dash = turns w _ _ refl refl
cell-before w DelimiterStates.Aligns = turns w _ _ refl refl
cell-before w DelimiterStates.Divides = turns w _ _ refl refl
cell-before w DelimiterStates.Stops = turns w _ _ refl tt
cell-before w DelimiterStates.White = turns w _ _ refl tt
cell-before w DelimiterStates.Other = turns w _ _ refl tt

cell-value : (w : World) (m : DelimiterStates.Mark) → LeadsFree w (DelimiterStates.value_before_code w m)
cell-value w DelimiterStates.Stops = turns w _ _ refl refl
cell-value w DelimiterStates.Aligns = turns w _ _ refl refl
cell-value w DelimiterStates.Dash = turns w _ _ refl refl
cell-value w DelimiterStates.White = turns w _ _ refl tt
cell-value w DelimiterStates.Divides = turns w _ _ refl tt
cell-value w DelimiterStates.Other = turns w _ _ refl tt

cell-left : (w : World) (m : DelimiterStates.Mark) → LeadsFree w (DelimiterStates.left_after_code w m)
cell-left w DelimiterStates.Dash = turns w _ _ refl refl
cell-left w DelimiterStates.Stops = turns w _ _ refl tt
cell-left w DelimiterStates.White = turns w _ _ refl tt
cell-left w DelimiterStates.Divides = turns w _ _ refl tt
cell-left w DelimiterStates.Aligns = turns w _ _ refl tt
cell-left w DelimiterStates.Other = turns w _ _ refl tt

cell-filler : (w : World) (m : DelimiterStates.Mark) → LeadsFree w (DelimiterStates.filler_code w m)
cell-filler w DelimiterStates.Dash = turns w _ _ refl refl
cell-filler w DelimiterStates.Aligns = turns w _ _ refl refl
cell-filler w DelimiterStates.Stops = turns w _ _ refl refl
cell-filler w DelimiterStates.White = turns w _ _ refl refl
cell-filler w DelimiterStates.Divides = turns w _ _ refl refl
cell-filler w DelimiterStates.Other = turns w _ _ refl refl

cell-ends : (w : World) (t : Bool) → LeadsFree w (DelimiterStates.ends_code w t)
cell-ends w true = turns w _ _ refl tt
cell-ends w false = turns w _ _ refl tt

cell-after : (w : World) (m : DelimiterStates.Mark) → LeadsFree w (DelimiterStates.cell_after_code w m)
cell-after w DelimiterStates.Stops = cell-ends w _
cell-after w DelimiterStates.Divides = turns w _ _ refl refl
cell-after w DelimiterStates.White = turns w _ _ refl tt
cell-after w DelimiterStates.Aligns = turns w _ _ refl tt
cell-after w DelimiterStates.Dash = turns w _ _ refl tt
cell-after w DelimiterStates.Other = turns w _ _ refl tt

delimiter-leads : (state : TableState) (w : World) → LeadsFree w (DelimiterStates.delimiter_transition state w)
delimiter-leads gfm_table.HeadDelimiterStart w =
    cell-white w (DelimiterStates.row_entered w) (small_indent w.setting.options) gfm_table.HeadDelimiterBefore
    (sees_white w.current) refl refl
delimiter-leads gfm_table.HeadDelimiterBefore w = cell-before w _
delimiter-leads gfm_table.HeadDelimiterCellBefore w =
    cell-white w w any_size gfm_table.HeadDelimiterValueBefore (sees_white w.current) refl refl
delimiter-leads gfm_table.HeadDelimiterValueBefore w = cell-value w _
delimiter-leads gfm_table.HeadDelimiterLeftAlignmentAfter w = cell-left w _
delimiter-leads gfm_table.HeadDelimiterFiller w = cell-filler w _
delimiter-leads gfm_table.HeadDelimiterRightAlignmentAfter w =
    cell-white w w any_size gfm_table.HeadDelimiterCellAfter (sees_white w.current) refl refl
delimiter-leads gfm_table.HeadDelimiterCellAfter w = cell-after w _
delimiter-leads _ w = turns w _ _ refl tt

pub table-leads : (state : TableState) (w : World) → LeadsFree w (TableStates.table_transition state w)
table-leads gfm_table.Start w = table-begins w _
table-leads gfm_table.HeadRowBefore w = row-leads Head place.Start w
table-leads gfm_table.HeadRowStart w = turns w _ _ refl refl
table-leads gfm_table.HeadRowBreak w = row-leads Head place.Break w
table-leads gfm_table.HeadRowData w = row-leads Head place.Data w
table-leads gfm_table.HeadRowEscape w = row-leads Head place.Escape w
table-leads gfm_table.HeadRowCellBefore w = row-leads Head place.CellBefore w
table-leads gfm_table.BodyRowStart w = row-leads Body place.Start w
table-leads gfm_table.BodyRowBreak w = row-leads Body place.Break w
table-leads gfm_table.BodyRowData w = row-leads Body place.Data w
table-leads gfm_table.BodyRowEscape w = row-leads Body place.Escape w
table-leads gfm_table.BodyRowCellBefore w = row-leads Body place.CellBefore w
table-leads state w = delimiter-leads state w
