-- What the states of containers call: no first state, and no attempt that they begin continues at one. Two do: an item
-- tests for a thematic break, before its marker, and a quote that opens begins with the state before a further prefix.
use Rattle.std.proofs.Common.{◌≡◌, ℕ, zero, suc, Bool, true, false, cond, Option, Some, None, refl}
use Rattle.std.specs.Prelude.{◌==◌, nat_le}
use Rattle.std.specs.Char.{to_ascii_lowercase}
use Rattle.md_engine.specs.declared.state.Name.{Name as StateName}
use Rattle.md_engine.specs.declared.state.Name.TheVariants as s
use Rattle.md_engine.specs.declared.state.blank_line.State.TheVariants as blank_line
use Rattle.md_engine.specs.declared.state.block_quote.State.{State as QuoteState}
use Rattle.md_engine.specs.declared.state.block_quote.State.TheVariants as quote
use Rattle.md_engine.specs.declared.state.gfm_footnote_definition.State.{State as FootnoteState}
use Rattle.md_engine.specs.declared.state.gfm_footnote_definition.State.TheVariants as footnote
use Rattle.md_engine.specs.declared.state.list_item.State.{State as ItemState}
use Rattle.md_engine.specs.declared.state.list_item.State.TheVariants as item
use Rattle.md_engine.specs.World.{World}
use Rattle.md_containers.specs.Footnote as FootnoteStates
use Rattle.md_containers.specs.Item as ItemStates
use Rattle.md_containers.specs.Quote as QuoteStates
use Rattle.md_meaning.specs.Bytes.{is_end}
use Rattle.md_events.specs.Look.{looks_after}
use Rattle.md_events.specs.Spaces.{any_size, ends_line, sees_white, small_indent}
use Rattle.md_registry.specs.States.{flow_transition}
use Rattle.markdown_blocks.proofs.LeafCalls.{LeadsFree, blank-leads, checks, chunk-leads, either, is_free}
use Rattle.markdown_blocks.proofs.LeafCalls.{leaf-start, tries, turns, white-leads, whites}
use Rattle.markdown_blocks.proofs.LeafCalls.{break-leads, code-leads, fence-leads, heading-leads, html-leads}
use Rattle.markdown_blocks.proofs.LeafCalls.{setext-leads, table-leads}

-- Containers.

-- the states that this file says nothing of: those of flow and of the document, and those that call another first state
abbrev pub is_plain : StateName → Bool
is_plain (s.Document state) = false
is_plain (s.Flow state) = false
is_plain (s.BlockQuote quote.Start) = false
is_plain (s.ListItem item.Start) = false
is_plain (s.ListItem item.Before) = false
is_plain name = true

quote-indent : (state : QuoteState) (w : World) (t : Bool) → is_free (s.BlockQuote state) ≡ true →
    LeadsFree w (QuoteStates.indent_code state w t)
quote-indent state w true free = whites w w 1 (small_indent w.setting.options) _ _ refl free tt
quote-indent state w false free = turns w _ _ refl free

quote-marker : (state : QuoteState) (w : World) (t : Bool) → is_free (s.BlockQuote state) ≡ true →
    LeadsFree w (QuoteStates.marker_code state w t)
quote-marker state w true free = turns w _ _ refl free
quote-marker state w false free = turns w _ _ refl tt

quote-column : (state : QuoteState) (w : World) (t : Bool) → is_free (s.BlockQuote state) ≡ true →
    LeadsFree w (QuoteStates.column_code state w t)
quote-column state w true free = turns w _ _ refl free
quote-column state w false free = turns w _ _ refl free

alert-before : (w : World) (t : Bool) → LeadsFree w (QuoteStates.alert_before_code w t)
alert-before w true = turns w _ _ refl refl
alert-before w false = turns w _ _ refl tt

alert-mark : (w : World) (t : Bool) → LeadsFree w (QuoteStates.alert_mark_code w t)
alert-mark w true = turns w _ _ refl refl
alert-mark w false = turns w _ _ refl tt

alert-letter : (w : World) (o : Option ℕ) → LeadsFree w (QuoteStates.letter_code w o)
alert-letter w None = turns w _ _ refl tt
alert-letter w (Some b) =
    either w _ _ (is_end (QuoteStates.name_of (to_ascii_lowercase b))) (turns w _ _ refl tt) (turns w _ _ refl refl)

alert-name : (w : World) (left o : Option ℕ) → LeadsFree w (QuoteStates.name_code w left o)
alert-name w left None = turns w _ _ refl tt
alert-name w None (Some b) = either w _ _ (b == 93) (turns w _ _ refl refl) (turns w _ _ refl tt)
alert-name w (Some c) (Some b) =
    either w _ _ (to_ascii_lowercase b == c) (turns w _ _ refl refl) (turns w _ _ refl tt)

quote-after : (w : World) (t : Bool) → LeadsFree w (QuoteStates.cont_after_code w t)
quote-after w true = turns w _ _ refl tt
quote-after w false = turns w _ _ refl tt

quote-leads : (state : QuoteState) (w : World) → is_plain (s.BlockQuote state) ≡ true →
    LeadsFree w (QuoteStates.quote_transition state w)
quote-leads quote.Start w plain = cc
quote-leads quote.OpenStart w plain = quote-indent quote.OpenBefore w (sees_white w.current) refl
quote-leads quote.OpenBefore w plain = quote-marker quote.OpenAfter w _ refl
quote-leads quote.OpenAfter w plain = quote-column quote.AlertTry w (sees_white w.current) refl
quote-leads quote.AlertTry w plain = tries w w (s.BlockQuote quote.AlertStart) _ _ w.scratch refl refl refl refl
quote-leads quote.AlertStart w plain = quote-indent quote.AlertBefore w (sees_white w.current) refl
quote-leads quote.AlertBefore w plain = alert-before w _
quote-leads quote.AlertMark w plain = alert-mark w _
quote-leads quote.AlertLetter w plain = alert-letter w w.current
quote-leads quote.AlertName w plain = alert-name w _ w.current
quote-leads quote.PrefixEnd w plain = turns w _ _ refl tt
quote-leads quote.ContStart w plain = quote-indent quote.ContBefore w (sees_white w.current) refl
quote-leads quote.ContBefore w plain = quote-marker quote.ContAfter w _ refl
quote-leads quote.ContAfter w plain = quote-after w (sees_white w.current)

item-ordered : (w : World) (t : Bool) → LeadsFree w (ItemStates.before_ordered_code w t)
item-ordered w true = turns w _ _ refl refl
item-ordered w false = turns w _ _ refl tt

item-value : (w : World) (t ends : Bool) → LeadsFree w (ItemStates.value_code w t ends)
item-value w true ends = turns w _ _ refl refl
item-value w false true = turns w _ _ refl refl
item-value w false false = turns w _ _ refl tt

item-marker : (w : World) (t : Bool) → LeadsFree w (ItemStates.marker_code w t)
item-marker w true = turns w _ _ refl refl
item-marker w false = turns w _ _ refl tt

item-blank : (w : World) (blank filled : ItemState) (o : Option ℕ) → is_free (s.ListItem blank) ≡ true →
    is_free (s.ListItem filled) ≡ true → LeadsFree w (ItemStates.blank_code blank filled w o)
item-blank w blank filled None a b = checks w w (s.BlankLine blank_line.Start) _ _ refl refl a b
item-blank w blank filled (Some c) a b = either w _ _ (c == 10) (turns w _ _ refl a) (turns w _ _ refl b)

item-white : (w : World) (t : Bool) → LeadsFree w (ItemStates.whitespace_after_code w t)
item-white w true = turns w _ _ refl tt
item-white w false = turns w _ _ refl tt

item-other : (w : World) (t : Bool) → LeadsFree w (ItemStates.prefix_other_code w t)
item-other w true = turns w _ _ refl refl
item-other w false = turns w _ _ refl tt

item-after : (w : World) (t blank : Bool) → LeadsFree w (ItemStates.after_code w t blank)
item-after w true blank = turns w _ _ refl tt
item-after w false blank = turns w _ _ refl tt

item-further : (w : World) (t blank : Bool) → LeadsFree w (ItemStates.cont_start_code w t blank)
item-further w true true = turns w _ _ refl tt
item-further w true false = turns w _ _ refl tt
item-further w false blank = item-blank w item.ContBlank item.ContFilled (looks_after w) refl refl

item-indent : (w : World) (state : ItemState) (min : ℕ) (t : Bool) → is_free (s.ListItem state) ≡ true →
    LeadsFree w (ItemStates.indent_code state min w t)
item-indent w state min true free = turns w _ _ refl free
item-indent w state min false free = turns w _ _ refl tt

item-inside : (w : World) (state : ItemState) (t enough : Bool) → is_free (s.ListItem state) ≡ true →
    LeadsFree w (ItemStates.inside_code state w t enough)
item-inside w state true enough free = turns w _ _ refl free
item-inside w state false true free = turns w _ _ refl tt
item-inside w state false false free = turns w _ _ refl tt

item-cont_blank : (w : World) (n : ℕ) → LeadsFree w (ItemStates.cont_blank_code w n)
item-cont_blank w zero =
    either w _ _ w.flags.asked.starts_blank (turns w _ _ refl tt) (item-indent w item.ContBlank 1 _ refl)
item-cont_blank w (suc n) = item-inside w item.ContBlank _ _ refl

item-cont_filled : (w : World) (n : ℕ) → LeadsFree w (ItemStates.cont_filled_code w n)
item-cont_filled w zero = item-indent w item.ContFilled _ _ refl
item-cont_filled w (suc n) = item-inside w item.ContFilled _ _ refl

item-leads : (state : ItemState) (w : World) → is_plain (s.ListItem state) ≡ true →
    LeadsFree w (ItemStates.item_transition state w)
item-leads item.Start w plain = cc
item-leads item.Before w plain = cc
item-leads item.BeforeUnordered w plain = turns w _ _ refl refl
item-leads item.BeforeOrdered w plain = item-ordered w _
item-leads item.Value w plain = item-value w _ _
item-leads item.Marker w plain = item-marker w _
item-leads item.MarkerAfter w plain = item-blank w item.After item.MarkerAfterFilled (looks_after w) refl refl
item-leads item.MarkerAfterFilled w plain = tries w w (s.ListItem item.Whitespace) _ _ _ refl refl refl refl
item-leads item.Whitespace w plain = whites w w 1 4 _ _ refl refl tt
item-leads item.WhitespaceAfter w plain = item-white w (sees_white w.current)
item-leads item.PrefixOther w plain = item-other w (sees_white w.current)
item-leads item.After w plain = item-after w _ _
item-leads item.ContStart w plain = item-further w (ends_line w.current) w.flags.asked.starts_blank
item-leads item.ContBlank w plain = item-cont_blank w w.scratch.whitespace.max
item-leads item.ContFilled w plain = item-cont_filled w w.scratch.whitespace.max

label-before : (w : World) (t : Bool) → LeadsFree w (FootnoteStates.label_before_code w t)
label-before w true = turns w _ _ refl refl
label-before w false = turns w _ _ refl tt

label-marker : (w : World) (t : Bool) → LeadsFree w (FootnoteStates.label_at_marker_code w t)
label-marker w true = turns w _ _ refl refl
label-marker w false = turns w _ _ refl tt

label-taken : (w : World) (state : FootnoteState) → is_free (s.GfmFootnoteDefinition state) ≡ true →
    LeadsFree w (FootnoteStates.taken_as w state)
label-taken w state free =
    either w _ _ (nat_le FootnoteStates.most w.scratch.size) (turns w _ _ refl tt) (turns w _ _ refl free)

label-closed : (w : World) (t : Bool) → LeadsFree w (FootnoteStates.closed_code w t)
label-closed w true = turns w _ _ refl tt
label-closed w false = turns w _ _ refl refl

label-inside : (w : World) (o : Option ℕ) → LeadsFree w (FootnoteStates.label_inside_code w o)
label-inside w None = turns w _ _ refl tt
label-inside w (Some b) =
    either w _ _ (b == 93) (label-closed w (w.scratch.size == 0))
    (either w _ _ (FootnoteStates.breaks_label b) (turns w _ _ refl tt) (label-taken w _ (inside (b == 92))))
  where
    inside : (x : Bool) → is_free (s.GfmFootnoteDefinition (cond x footnote.LabelEscape footnote.LabelInside)) ≡ true
    inside true = refl
    inside false = refl

label-escape : (w : World) (t : Bool) → LeadsFree w (FootnoteStates.label_escape_code w t)
label-escape w true = label-taken w footnote.LabelInside refl
label-escape w false = turns w _ _ refl refl

label-after : (w : World) (t : Bool) → LeadsFree w (FootnoteStates.label_after_code w t)
label-after w true = turns w _ _ refl refl
label-after w false = turns w _ _ refl tt

footnote-marker : (w : World) (t : Bool) → LeadsFree w (FootnoteStates.marker_after_code w t)
footnote-marker w true = whites w w 1 any_size _ _ refl refl tt
footnote-marker w false = turns w _ _ refl refl

footnote-leads : (state : FootnoteState) (w : World) → LeadsFree w (FootnoteStates.footnote_transition state w)
footnote-leads footnote.Start w = leaf-start _ _ w _ (sees_white w.current) refl
footnote-leads footnote.LabelBefore w = label-before w _
footnote-leads footnote.LabelAtMarker w = label-marker w _
footnote-leads footnote.LabelInside w = label-inside w w.current
footnote-leads footnote.LabelEscape w = label-escape w _
footnote-leads footnote.LabelAfter w = label-after w _
footnote-leads footnote.MarkerAfter w = footnote-marker w (sees_white w.current)
footnote-leads footnote.WhitespaceAfter w = turns w _ _ refl tt

-- All of them.
pub free-leads : (name : StateName) (w : World) → is_plain name ≡ true → LeadsFree w (flow_transition name w)
free-leads (s.BlankLine state) w plain = blank-leads state w
free-leads (s.BlockQuote state) w plain = quote-leads state w plain
free-leads (s.CodeIndented state) w plain = code-leads state w
free-leads (s.Content state) w plain = chunk-leads state w
free-leads (s.Document state) w plain = cc
free-leads (s.Flow state) w plain = cc
free-leads (s.GfmFootnoteDefinition state) w plain = footnote-leads state w
free-leads (s.GfmTable state) w plain = table-leads state w
free-leads (s.HeadingAtx state) w plain = heading-leads state w
free-leads (s.HeadingSetext state) w plain = setext-leads state w
free-leads (s.HtmlFlow state) w plain = html-leads state w
free-leads (s.ListItem state) w plain = item-leads state w plain
free-leads (s.RawFlow state) w plain = fence-leads state w
free-leads (s.SpaceOrTab state) w plain = white-leads state w
free-leads (s.ThematicBreak state) w plain = break-leads state w
free-leads name w plain = turns w _ _ refl tt
