-- HTML is and ends in any table that has it.
use Rattle.std.proofs.Common.{◌≡◌, ℕ, ◌<◌, Bool, true, false, cond, ◌&&◌, nat_eq, nat_lt, Option, Some, None, refl}
use Rattle.std.proofs.Common.{arith, ap, sym, ◌∙◌, inl, inr}
use Rattle.std.specs.Prelude.{not, ◌||◌}
use Rattle.std.specs.Char.{is_ascii_alphabetic}
use Rattle.std.proofs.lemmas.Bool.{and_parts, cond_both, eqb-true}
use Rattle.std.proofs.lemmas.Bool.Decides.{nat_tests}
use Rattle.md_engine.specs.declared.event.Name.TheVariants.{HtmlFlow, HtmlFlowData}
use Rattle.md_engine.specs.declared.state.Name.TheVariants as n
use Rattle.md_engine.specs.declared.state.html_flow.State.{State as HtmlState}
use Rattle.md_engine.specs.declared.state.html_flow.State.TheVariants as its
use Rattle.md_engine.specs.declared.tokenizer.Scratch.{Scratch}
use Rattle.md_engine.specs.Scheme.{Fits, Scheme, after_all, moved_to, position}
use Rattle.md_engine.specs.World.{World, after, looks}
use Rattle.md_engine.proofs.Falls.{later}
use Rattle.md_engine.proofs.Local.{accepts, consumes, refuses, turns}
use Rattle.md_engine.proofs.Points.{stays, takes}
use Rattle.md_meaning.specs.Html.{begins_attribute, is_attribute_byte, is_value_byte}
use Rattle.md_meaning.specs.Rest.{is_white}
use Rattle.md_literal.specs.Html.{in_letters, Move, Takes, Turns, TakesAs, TurnsAs, Stops, IsStop, basic_name_code}
use Rattle.md_literal.specs.Html.{before_move, blank_move, by_byte, cdata_move, cleared, close_code, close_start_move}
use Rattle.md_literal.specs.Html.{closing_move, comment_move, complete_after_move, complete_name_code}
use Rattle.md_literal.specs.Html.{continuation_code}
use Rattle.md_literal.specs.Html.{declaration_byte, end_move, further_code, html_rank, html_ready, html_scheme}
use Rattle.md_literal.specs.Html.{html_transition, in_html, in_name, indent_move, inside_move, line_before_code}
use Rattle.md_literal.specs.Html.{line_entered, marked, moved, name_after_byte, name_before_byte, name_byte, name_code}
use Rattle.md_literal.specs.Html.{open_byte, quoted_byte, raw_end_move, raw_open_code, sees_letter, sees_tag_byte}
use Rattle.md_literal.specs.Html.{self_closing_move, start_code, stop_move, stop_of, tag_name_move, text_move}
use Rattle.md_literal.specs.Html.{twice_move}
use Rattle.md_literal.specs.Html.{unquoted_byte, value_before_byte}
use Rattle.md_literal.proofs.HtmlBytes.{letters-more, letters-none}
use Rattle.md_literal.proofs.HtmlNames.{name-kept, name-starts}
use Rattle.md_events.specs.Spaces.{IsRest, ends_line, is_current, rest_ready, sees_white}
use Rattle.md_events.specs.Transition.{entered, exited, taken}
use Rattle.md_events.proofs.SpacesTermination.{Does, inside-line, seen-in, seen-some}

pub record HtmlFits (T : Scheme) : Type 1 where
  pub each : (state : HtmlState) → Fits T html_scheme (n.HtmlFlow state)

-- a tokenizer in a line of HTML
abbrev IsValid : Scheme → World → Type 0
IsValid T w = in_html (position w) (after_all T w.frames)

-- something is here
abbrev Inside : World → Type 0
Inside w = w.point.index < w.setting.limit

-- as a test of what is here shows
valid-here : (w : World) (t : Option ℕ → Bool) → w.current ≡ looks w → t None ≡ false → t w.current ≡ true → Inside w
valid-here w t c end e = seen-in (position w) t end (ap t (sym c) ∙ e)

-- Where the next state is: after what is here, or here.

following : (T : Scheme) (w : World) (s : Scratch) → Inside w → IsValid T w → IsRest (cleared s) →
    in_html (moved_to (position w) (after w.setting w.point) s) (after_all T w.frames)
following T w s inside r is =
    (is, later IsRest IsRest (position w) (after_all T w.frames) _ s (takes w.setting w.point inside) r.1)

here : (T : Scheme) (w : World) (s : Scratch) → IsValid T w → IsRest (cleared s) →
    in_html (moved_to (position w) w.point s) (after_all T w.frames)
here T w s r is =
    (is, later IsRest IsRest (position w) (after_all T w.frames) w.point s (stays w.setting.limit w.point) r.1)

-- a state is ready after what is here; or it is ready here, and nearer to what it takes
abbrev ReadyAfter : Scheme → World → HtmlState → Scratch → Type 0
ReadyAfter T w state s =
    Inside w ×
    html_ready (n.HtmlFlow state) (moved_to (position w) (after w.setting w.point) s) (after_all T w.frames)

abbrev ReadyHere : Scheme → HtmlState → World → HtmlState → Scratch → Type 0
ReadyHere T from w state s =
    html_ready (n.HtmlFlow state) (moved_to (position w) w.point s) (after_all T w.frames) ×
    ((html_rank (n.HtmlFlow state) (moved_to (position w) w.point s)).number <
    (html_rank (n.HtmlFlow from) (position w)).number)

-- what a move asks for,
abbrev Asks : Scheme → HtmlState → World → Move → Type 0
Asks T from w (Takes state s) = ReadyAfter T w state s
Asks T from w (Turns state s) = ReadyHere T from w state s
Asks T from w (TakesAs leaf state s) = ReadyAfter T w state s
Asks T from w (TurnsAs leaf state s) = ReadyHere T from w state s
Asks T from w Stops = Unit {0}

-- and that it does what the table needs then
move_terminates : (T : Scheme) (from : HtmlState) (w : World) (m : Move) → HtmlFits T → IsValid T w → Asks T from w m →
    Does T (n.HtmlFlow from) w (moved w m)
move_terminates T from w (Takes state s) has r a = (
  consumes T html_scheme (n.HtmlFlow from) (n.HtmlFlow state) w w.events s (has.each from) (has.each state) a.0 a.1
      (omega arith),
  refl,
)
move_terminates T from w (Turns state s) has r a = (
  turns T html_scheme (n.HtmlFlow from) (n.HtmlFlow state) w w.events s (has.each from) (has.each state) a.0
      (omega arith) a.1,
  refl,
)
move_terminates T from w (TakesAs leaf state s) has r a = (
  consumes T html_scheme (n.HtmlFlow from) (n.HtmlFlow state) w w.events s (has.each from) (has.each state) a.0 a.1
      (omega arith),
  refl,
)
move_terminates T from w (TurnsAs leaf state s) has r a = (
  turns T html_scheme (n.HtmlFlow from) (n.HtmlFlow state) w w.events s (has.each from) (has.each state) a.0
      (omega arith) a.1,
  refl,
)
move_terminates T from w Stops has r a =
    (refuses T (n.HtmlFlow from) w IsRest IsRest w.events (cleared w.scratch) r.1 r.0, refl)

-- a move by a test asks for what both ask for
either : (T : Scheme) (from : HtmlState) (w : World) (x : Bool) (a b : Move) → (x ≡ true → Asks T from w a) →
    (x ≡ false → Asks T from w b) → Asks T from w (cond x a b)
either T from w x a b = cond_both x a b (Asks T from w)

-- one by what is here
by-current : (T : Scheme) (from : HtmlState) (w : World) (f : ℕ → Move) (none : Move) → w.current ≡ looks w →
    ((b : ℕ) → looks w ≡ Some b → Inside w → Asks T from w (f b)) → Asks T from w none →
    Asks T from w (by_byte f none w.current)
by-current T from w f none c some end = go w.current c
  where
    go : (o : Option ℕ) → o ≡ looks w → Asks T from w (by_byte f none o)
    go None e = end
    go (Some b) e = some b (sym e) (seen-some (position w) b (sym e))

-- The first line.

start_ends : (T : Scheme) (w : World) (x : Bool) → HtmlFits T → rest_ready (position w) (after_all T w.frames) →
    Does T (n.HtmlFlow its.Start) w (start_code w x)
start_ends T w false has r = (refuses T _ w _ _ w.events w.scratch r.1 r.0, refl)
start_ends T w true has r = (
  turns T html_scheme _ (n.HtmlFlow its.Indent) w (start_code w true).world.events w.scratch (has.each its.Start)
      (has.each its.Indent) (here T w w.scratch (ap cleared r.0, r.1) (ap cleared r.0)) (omega arith) (omega arith),
  refl,
)

asks_indent : (T : Scheme) (w : World) (x : Bool) → (x ≡ true → Inside w) → IsValid T w →
    Asks T its.Indent w (indent_move w.scratch x)
asks_indent T w true inside r = (inside refl, following T w _ (inside refl) r r.0)
asks_indent T w false inside r = (here T w _ r r.0, omega arith)

asks_before : (T : Scheme) (w : World) (x : Bool) → (x ≡ true → Inside w) → IsValid T w →
    Asks T its.Before w (before_move w.scratch x)
asks_before T w true inside r = (inside refl, following T w w.scratch (inside refl) r r.0)
asks_before T w false inside r = tt

-- where a letter is here, a name begins
name-here : (T : Scheme) (w : World) (s : Scratch) → IsValid T w → IsRest (cleared s) → s.start ≡ w.point.index →
    sees_letter (looks w) ≡ true → in_name (moved_to (position w) w.point s) (after_all T w.frames)
name-here T w s r is same letter =
    let begun = name-starts (moved_to (position w) w.point s) letter same in
    (begun.0, begun.1, begun.2, here T w s r is)

asks_open : (T : Scheme) (w : World) (b : ℕ) → looks w ≡ Some b → IsValid T w → Inside w →
    Asks T its.Open w (open_byte w.scratch w.point.index b)
asks_open T w b at r inside =
    either T its.Open w (nat_eq b 33) _ _ (λ e. (inside, following T w w.scratch inside r r.0))
    (λ e.
    either T its.Open w (nat_eq b 47) _ _ (λ e. (inside, following T w w.scratch inside r r.0))
    (λ e.
    either T its.Open w (nat_eq b 63) _ _
    (λ e. (inside, (inr (inl refl), following T w (marked 63 w.scratch) inside r r.0)))
    (λ e.
    either T its.Open w (is_ascii_alphabetic b) _ _
    (λ e. (
      name-here T w (record (cleared w.scratch) { start = w.point.index }) r r.0 refl (ap sees_letter at ∙ e),
      omega arith,
    ))
    (λ e. tt))))

asks_declaration : (T : Scheme) (w : World) (b : ℕ) → IsValid T w → Inside w →
    Asks T its.DeclarationOpen w (declaration_byte w.scratch b)
asks_declaration T w b r inside =
    either T its.DeclarationOpen w (nat_eq b 45) _ _ (λ e. (inside, following T w w.scratch inside r r.0))
    (λ e.
    either T its.DeclarationOpen w (nat_eq b 91) _ _
    (λ e. (inside, (omega arith, following T w (cleared w.scratch) inside r r.0)))
    (λ e.
    either T its.DeclarationOpen w (is_ascii_alphabetic b) _ _
    (λ e. (inside, following T w (marked 62 w.scratch) inside r r.0)) (λ e. tt)))

asks_comment : (T : Scheme) (w : World) (x : Bool) → (x ≡ true → Inside w) → IsValid T w →
    Asks T its.CommentOpenInside w (comment_move w.scratch x)
asks_comment T w true inside r =
    (inside refl, (inl refl, following T w (marked 45 w.scratch) (inside refl) r r.0))
asks_comment T w false inside r = tt

asks_cdata : (T : Scheme) (w : World) (x more : Bool) → (x ≡ true → Inside w) → (more ≡ true → w.scratch.size < 5) →
    IsValid T w → Asks T its.CdataOpenInside w (cdata_move w.scratch x more)
asks_cdata T w true true inside few r =
    (inside refl, (omega (arith, few refl), following T w _ (inside refl) r r.0))
asks_cdata T w true false inside few r = (inside refl, following T w (marked 93 w.scratch) (inside refl) r r.0)
asks_cdata T w false more inside few r = tt

few-columns : (size : ℕ) → nat_lt size 5 ≡ true → size < 5
few-columns size e = grind (arith, nat_tests)

asks_close_start : (T : Scheme) (w : World) (x : Bool) → (x ≡ true → sees_letter (looks w) ≡ true) → IsValid T w →
    Asks T its.TagCloseStart w (close_start_move w.scratch w.point.index x)
asks_close_start T w true letter r = (
  name-here T w (record (cleared w.scratch) { start = w.point.index; seen = true }) r r.0 refl (letter refl),
  omega arith,
)
asks_close_start T w false letter r = tt

-- The name of a tag.

asks_basic_name : (T : Scheme) (w : World) (x : Bool) → (x ≡ true → Inside w) → IsValid T w →
    Asks T its.TagName w (basic_name_code w.scratch x)
asks_basic_name T w true inside r = (inside refl, following T w (cleared w.scratch) (inside refl) r r.0)
asks_basic_name T w false inside r = (here T w (marked 0 w.scratch) r r.0, omega arith)

asks_complete_name : (T : Scheme) (w : World) (closing text : Bool) → IsValid T w →
    Asks T its.TagName w (complete_name_code w.scratch closing text)
asks_complete_name T w closing true r = tt
asks_complete_name T w true false r = (here T w (cleared w.scratch) r r.0, omega arith)
asks_complete_name T w false false r = (here T w (cleared w.scratch) r r.0, omega arith)

asks_name : (T : Scheme) (w : World) (slash raw basic : Bool) → (slash ≡ true → Inside w) → IsValid T w →
    Asks T its.TagName w (name_code w.scratch w.flags.leaf slash raw basic)
asks_name T w slash true basic inside r = (here T w (marked 60 w.scratch) r r.0, omega arith)
asks_name T w slash false true inside r = asks_basic_name T w slash inside r
asks_name T w slash false false inside r = asks_complete_name T w w.scratch.seen _ r

asks_tag_name : (T : Scheme) (w : World) (x ends : Bool) → w.current ≡ looks w → sees_tag_byte w.current ≡ x →
    in_name (position w) (after_all T w.frames) → Asks T its.TagName w (tag_name_move w x ends)
asks_tag_name T w true ends c e r = go w.current c e
  where
    go : (o : Option ℕ) → o ≡ looks w → sees_tag_byte o ≡ true →
        ReadyAfter T w its.TagName w.scratch
    go None same tag = cc
    go (Some b) same tag =
        let inside = seen-some (position w) b (sym same) in
        let kept = name-kept (position w) b (sym same) tag (r.0, r.1, r.2) in
        (inside, (kept.0, kept.1, kept.2, following T w w.scratch inside r.3 r.3.0))
asks_tag_name T w false true c e r =
    asks_name T w (is_current 47 w.current) _ _ (valid-here w (is_current 47) c refl) r.3
asks_tag_name T w false false c e r = tt

asks_self_closing : (T : Scheme) (w : World) (x : Bool) → (x ≡ true → Inside w) → IsValid T w →
    Asks T its.BasicSelfClosing w (self_closing_move w.scratch x)
asks_self_closing T w true inside r = (inside refl, following T w (cleared w.scratch) (inside refl) r r.0)
asks_self_closing T w false inside r = tt

-- The rest of a complete tag.

asks_closing : (T : Scheme) (w : World) (x : Bool) → (x ≡ true → Inside w) → IsValid T w →
    Asks T its.CompleteClosingTagAfter w (closing_move w.scratch x)
asks_closing T w true inside r = (inside refl, following T w w.scratch (inside refl) r r.0)
asks_closing T w false inside r = (here T w w.scratch r r.0, omega arith)

asks_name_before : (T : Scheme) (w : World) (b : ℕ) → IsValid T w → Inside w →
    Asks T its.CompleteAttributeNameBefore w (name_before_byte w.scratch b)
asks_name_before T w b r inside =
    either T its.CompleteAttributeNameBefore w (is_white b) _ _
    (λ e. (inside, following T w (record w.scratch { seen = true }) inside r r.0))
    (λ e.
    either T its.CompleteAttributeNameBefore w (nat_eq b 47) _ _
    (λ e. (inside, following T w (cleared w.scratch) inside r r.0))
    (λ e.
    either T its.CompleteAttributeNameBefore w (begins_attribute b && w.scratch.seen) _ _
    (λ e. (inside, following T w (cleared w.scratch) inside r r.0))
    (λ e. (here T w (cleared w.scratch) r r.0, omega arith))))

asks_attribute : (T : Scheme) (w : World) (b : ℕ) → IsValid T w → Inside w →
    Asks T its.CompleteAttributeName w (name_byte w.scratch b)
asks_attribute T w b r inside =
    either T its.CompleteAttributeName w (is_attribute_byte b) _ _
    (λ e. (inside, following T w w.scratch inside r r.0)) (λ e. (here T w (cleared w.scratch) r r.0, omega arith))

asks_name_after : (T : Scheme) (w : World) (b : ℕ) → IsValid T w → Inside w →
    Asks T its.CompleteAttributeNameAfter w (name_after_byte w.scratch b)
asks_name_after T w b r inside =
    either T its.CompleteAttributeNameAfter w (is_white b) _ _
    (λ e. (inside, following T w (record w.scratch { seen = true }) inside r r.0))
    (λ e.
    either T its.CompleteAttributeNameAfter w (nat_eq b 61) _ _
    (λ e. (inside, following T w (cleared w.scratch) inside r r.0)) (λ e. (here T w w.scratch r r.0, omega arith)))

asks_value : (T : Scheme) (w : World) (b : ℕ) → IsValid T w → Inside w →
    Asks T its.CompleteAttributeValueBefore w (value_before_byte w.scratch b)
asks_value T w b r inside =
    either T its.CompleteAttributeValueBefore w (nat_eq b 10) _ _ (λ e. tt)
    (λ e.
    either T its.CompleteAttributeValueBefore w (is_white b) _ _
    (λ e. (inside, following T w w.scratch inside r r.0))
    (λ e.
    either T its.CompleteAttributeValueBefore w (nat_eq b 34 || nat_eq b 39) _ _
    (λ e. (inside, following T w (marked b w.scratch) inside r r.0))
    (λ e.
    either T its.CompleteAttributeValueBefore w (is_value_byte b) _ _
    (λ e. (here T w w.scratch r r.0, omega arith)) (λ e. tt))))

asks_quoted : (T : Scheme) (w : World) (b : ℕ) → IsValid T w → Inside w →
    Asks T its.CompleteAttributeValueQuoted w (quoted_byte w.scratch b)
asks_quoted T w b r inside =
    either T its.CompleteAttributeValueQuoted w (nat_eq b 10) _ _ (λ e. tt)
    (λ e.
    either T its.CompleteAttributeValueQuoted w (nat_eq b w.scratch.marker) _ _
    (λ e. (inside, following T w (cleared w.scratch) inside r r.0))
    (λ e. (inside, following T w w.scratch inside r r.0)))

asks_unquoted : (T : Scheme) (w : World) (b : ℕ) → IsValid T w → Inside w →
    Asks T its.CompleteAttributeValueUnquoted w (unquoted_byte w.scratch b)
asks_unquoted T w b r inside =
    either T its.CompleteAttributeValueUnquoted w (not (nat_eq b 10) && is_value_byte b) _ _
    (λ e. (inside, following T w w.scratch inside r r.0)) (λ e. (here T w (cleared w.scratch) r r.0, omega arith))

asks_end : (T : Scheme) (w : World) (x : Bool) → (x ≡ true → Inside w) → IsValid T w →
    Asks T its.CompleteEnd w (end_move w.scratch x)
asks_end T w true inside r = (inside refl, following T w w.scratch (inside refl) r r.0)
asks_end T w false inside r = tt

asks_after : (T : Scheme) (w : World) (x white : Bool) → (white ≡ true → Inside w) → IsValid T w →
    Asks T its.CompleteAfter w (complete_after_move w.scratch x white)
asks_after T w true white inside r = (here T w (marked 0 w.scratch) r r.0, omega arith)
asks_after T w false true inside r = (inside refl, following T w w.scratch (inside refl) r r.0)
asks_after T w false false inside r = tt

-- The text of a line.

-- where it ends
ended_ends : (T : Scheme) (from : HtmlState) (w : World) → HtmlFits T → IsValid T w →
    1 < (html_rank (n.HtmlFlow from) (position w)).number → Does T (n.HtmlFlow from) w (close_code w true)
ended_ends T from w has r lt = (
  turns T html_scheme (n.HtmlFlow from) (n.HtmlFlow its.ContinuationAfter) w (exited w HtmlFlowData).events w.scratch
      (has.each from) (has.each its.ContinuationAfter) r (omega arith) lt,
  refl,
)

asks_stop : (T : Scheme) (w : World) → IsValid T w → Inside w → Asks T its.Continuation w (stop_move w.scratch)
asks_stop T w r inside =
    either T its.Continuation w (nat_eq w.scratch.marker 60) _ _
    (λ e. (inside, (eqb-true w.scratch.marker 60 e, following T w w.scratch inside r r.0)))
    (λ e.
    either T its.Continuation w (nat_eq w.scratch.marker 45) _ _
    (λ e. (inside, (eqb-true w.scratch.marker 45 e, following T w w.scratch inside r r.0)))
    (λ e.
    either T its.Continuation w (nat_eq w.scratch.marker 63) _ _
    (λ e. (inside, (inr (inl (eqb-true w.scratch.marker 63 e)), following T w w.scratch inside r r.0)))
    (λ e.
    either T its.Continuation w (nat_eq w.scratch.marker 93) _ _
    (λ e. (inside, (eqb-true w.scratch.marker 93 e, following T w w.scratch inside r r.0)))
    (λ e. (inside, following T w (cleared w.scratch) inside r r.0)))))

asks_text : (T : Scheme) (w : World) (x : Bool) → IsValid T w → Inside w →
    Asks T its.Continuation w (text_move w.scratch x)
asks_text T w true r inside = asks_stop T w r inside
asks_text T w false r inside = (inside, following T w w.scratch inside r r.0)

text_ends : (T : Scheme) (w : World) (x : Bool) → HtmlFits T → w.current ≡ looks w → IsValid T w →
    ends_line w.current ≡ x → Does T (n.HtmlFlow its.Continuation) w (continuation_code w x)
text_ends T w true has c r e = ended_ends T its.Continuation w has r (omega arith)
text_ends T w false has c r e =
    move_terminates T its.Continuation w (text_move w.scratch (is_current w.scratch.marker w.current)) has r
    (asks_text T w (is_current w.scratch.marker w.current) r (inside-line w c e))

-- after one `-`, or one `]`
asks_twice : (T : Scheme) (from : HtmlState) (w : World) (x : Bool) →
    3 < (html_rank (n.HtmlFlow from) (position w)).number → (x ≡ true → Inside w) → IsStop w.scratch.marker →
    IsValid T w → Asks T from w (twice_move w.scratch x)
asks_twice T from w true lt inside m r = (inside refl, (m, following T w w.scratch (inside refl) r r.0))
asks_twice T from w false lt inside m r = (here T w w.scratch r r.0, lt)

raw_open_ends : (T : Scheme) (w : World) (x : Bool) → HtmlFits T → w.current ≡ looks w →
    w.scratch.marker ≡ 60 → IsValid T w → is_current 47 w.current ≡ x →
    Does T (n.HtmlFlow its.ContinuationRawTagOpen) w (raw_open_code w x)
raw_open_ends T w true has c m r e =
    let s : Scratch = record w.scratch { start = (taken w).point.index } in
    let inside = valid-here w (is_current 47) c refl e in (
      consumes T html_scheme _ (n.HtmlFlow its.ContinuationRawEndTag) w w.events s (has.each its.ContinuationRawTagOpen)
          (has.each its.ContinuationRawEndTag) inside
          ((omega arith, letters-none w.setting.bytes (taken w).point.index), (m, following T w s inside r r.0))
          (omega arith),
      refl,
    )
raw_open_ends T w false has c m r e =
    move_terminates T its.ContinuationRawTagOpen w (Turns its.Continuation w.scratch) has r
    (here T w w.scratch r r.0, omega arith)

-- a letter continues the name
letter-taken : (w : World) (o : Option ℕ) → w.current ≡ looks w → w.current ≡ o → sees_letter o ≡ true →
    in_letters (position w) → in_letters (position (taken w))
letter-taken w None c here e at = cc
letter-taken w (Some b) c here e at = letters-more w b e c here at

asks_raw_end : (T : Scheme) (w : World) (x ends : Bool) → (x ≡ true → Inside w) → (ends ≡ true → Inside w) →
    (x ≡ true → in_letters (position (taken w))) → w.scratch.marker ≡ 60 → IsValid T w →
    Asks T its.ContinuationRawEndTag w (raw_end_move w.scratch x ends)
asks_raw_end T w true ends inside shut more m r = (
  inside refl,
  (more refl, (m, following T w w.scratch (inside refl) r r.0)),
)
asks_raw_end T w false true inside shut le m r = (shut refl, following T w (cleared w.scratch) (shut refl) r r.0)
asks_raw_end T w false false inside shut le m r =
    (here T w (marked w.scratch.marker w.scratch) r r.0, omega arith)

asks_inside : (T : Scheme) (w : World) (x again : Bool) → (x ≡ true → Inside w) → (again ≡ true → Inside w) →
    IsStop w.scratch.marker → IsValid T w →
    Asks T its.ContinuationDeclarationInside w (inside_move w.scratch x again)
asks_inside T w true again inside more m r = (inside refl, following T w (cleared w.scratch) (inside refl) r r.0)
asks_inside T w false true inside more m r = (more refl, (m, following T w w.scratch (more refl) r r.0))
asks_inside T w false false inside more m r = (here T w w.scratch r r.0, omega arith)

close_ends : (T : Scheme) (w : World) (x : Bool) → HtmlFits T → w.current ≡ looks w → IsValid T w →
    ends_line w.current ≡ x → Does T (n.HtmlFlow its.ContinuationClose) w (close_code w x)
close_ends T w true has c r e = ended_ends T its.ContinuationClose w has r (omega arith)
close_ends T w false has c r e =
    let inside = inside-line w c e in
    move_terminates T its.ContinuationClose w (Takes its.ContinuationClose w.scratch) has r
    (inside, following T w w.scratch inside r r.0)

-- A further line.

further_ends : (T : Scheme) (w : World) (x : Bool) → HtmlFits T → rest_ready (position w) (after_all T w.frames) →
    Does T (n.HtmlFlow its.ContinuationStart) w (further_code w x)
further_ends T w true has r = (
  turns T html_scheme _ (n.HtmlFlow its.BlankLineBefore) w (further_code w true).world.events w.scratch
      (has.each its.ContinuationStart) (has.each its.BlankLineBefore)
      (here T w w.scratch (ap cleared r.0, r.1) (ap cleared r.0)) (omega arith) (omega arith),
  refl,
)
further_ends T w false has r = (
  turns T html_scheme _ (n.HtmlFlow its.ContinuationBefore) w (line_entered w).events w.scratch
      (has.each its.ContinuationStart) (has.each its.ContinuationBefore)
      (here T w w.scratch (ap cleared r.0, r.1) (ap cleared r.0)) (omega arith) (omega arith),
  refl,
)

line_before_ends : (T : Scheme) (w : World) (x : Bool) → HtmlFits T → IsValid T w →
    Does T (n.HtmlFlow its.ContinuationBefore) w (line_before_code w x)
line_before_ends T w true has r = (
  turns T html_scheme _ (n.HtmlFlow its.ContinuationAfter) w w.events w.scratch (has.each its.ContinuationBefore)
      (has.each its.ContinuationAfter) r (omega arith) (omega arith),
  refl,
)
line_before_ends T w false has r = (
  turns T html_scheme _ (n.HtmlFlow its.Continuation) w (entered w HtmlFlowData).events
      (marked (stop_of w.flags.leaf) w.scratch) (has.each its.ContinuationBefore) (has.each its.Continuation)
      (here T w (marked (stop_of w.flags.leaf) w.scratch) r r.0) (omega arith) (omega arith),
  refl,
)

asks_blank : (T : Scheme) (w : World) (x white : Bool) → (white ≡ true → Inside w) → IsValid T w →
    Asks T its.BlankLineBefore w (blank_move w.scratch x white)
asks_blank T w true white inside r = tt
asks_blank T w false true inside r = (inside refl, following T w w.scratch (inside refl) r r.0)
asks_blank T w false false inside r = (here T w w.scratch r r.0, omega arith)

-- each state of HTML
pub html_terminates : (T : Scheme) (state : HtmlState) (w : World) → HtmlFits T → w.current ≡ looks w →
    html_ready (n.HtmlFlow state) (position w) (after_all T w.frames) →
    Does T (n.HtmlFlow state) w (html_transition state w)
html_terminates T its.Start w has c r = start_ends T w _ has r
html_terminates T its.Indent w has c r =
    move_terminates T its.Indent w _ has r
    (asks_indent T w _ (λ e. valid-here w sees_white c refl (and_parts _ _ e).0) r)
html_terminates T its.Before w has c r =
    move_terminates T its.Before w _ has r (asks_before T w _ (valid-here w (is_current 60) c refl) r)
html_terminates T its.Open w has c r =
    move_terminates T its.Open w _ has r (by-current T its.Open w _ Stops c (λ b e. asks_open T w b e r) tt)
html_terminates T its.DeclarationOpen w has c r =
    move_terminates T its.DeclarationOpen w _ has r
    (by-current T its.DeclarationOpen w _ Stops c (λ b e. asks_declaration T w b r) tt)
html_terminates T its.CommentOpenInside w has c r =
    move_terminates T its.CommentOpenInside w _ has r (asks_comment T w _ (valid-here w (is_current 45) c refl) r)
html_terminates T its.CdataOpenInside w has c r =
    move_terminates T its.CdataOpenInside w _ has r.1
    (asks_cdata T w _ _ (valid-here w (is_current _) c refl) (few-columns w.scratch.size) r.1)
html_terminates T its.TagCloseStart w has c r =
    move_terminates T its.TagCloseStart w _ has r (asks_close_start T w _ (λ e. ap sees_letter (sym c) ∙ e) r)
html_terminates T its.TagName w has c r = move_terminates T its.TagName w _ has r.3 (asks_tag_name T w _ _ c refl r)
html_terminates T its.BasicSelfClosing w has c r =
    move_terminates T its.BasicSelfClosing w _ has r (asks_self_closing T w _ (valid-here w (is_current 62) c refl) r)
html_terminates T its.CompleteClosingTagAfter w has c r =
    move_terminates T its.CompleteClosingTagAfter w _ has r (asks_closing T w _ (valid-here w sees_white c refl) r)
html_terminates T its.CompleteAttributeNameBefore w has c r =
    move_terminates T its.CompleteAttributeNameBefore w _ has r
    (by-current T its.CompleteAttributeNameBefore w _ (Turns its.CompleteEnd (cleared w.scratch)) c
    (λ b e. asks_name_before T w b r) (here T w (cleared w.scratch) r r.0, omega arith))
html_terminates T its.CompleteAttributeName w has c r =
    move_terminates T its.CompleteAttributeName w _ has r
    (by-current T its.CompleteAttributeName w _ (Turns its.CompleteAttributeNameAfter (cleared w.scratch)) c
    (λ b e. asks_attribute T w b r) (here T w (cleared w.scratch) r r.0, omega arith))
html_terminates T its.CompleteAttributeNameAfter w has c r =
    move_terminates T its.CompleteAttributeNameAfter w _ has r
    (by-current T its.CompleteAttributeNameAfter w _ (Turns its.CompleteAttributeNameBefore w.scratch) c
    (λ b e. asks_name_after T w b r) (here T w w.scratch r r.0, omega arith))
html_terminates T its.CompleteAttributeValueBefore w has c r =
    move_terminates T its.CompleteAttributeValueBefore w _ has r
    (by-current T its.CompleteAttributeValueBefore w _ Stops c (λ b e. asks_value T w b r) tt)
html_terminates T its.CompleteAttributeValueQuoted w has c r =
    move_terminates T its.CompleteAttributeValueQuoted w _ has r
    (by-current T its.CompleteAttributeValueQuoted w _ Stops c (λ b e. asks_quoted T w b r) tt)
html_terminates T its.CompleteAttributeValueUnquoted w has c r =
    move_terminates T its.CompleteAttributeValueUnquoted w _ has r
    (by-current T its.CompleteAttributeValueUnquoted w _ (Turns its.CompleteAttributeNameBefore (cleared w.scratch)) c
    (λ b e. asks_unquoted T w b r) (here T w (cleared w.scratch) r r.0, omega arith))
html_terminates T its.CompleteAttributeValueQuotedAfter w has c r =
    move_terminates T its.CompleteAttributeValueQuotedAfter w
    (Turns its.CompleteAttributeNameBefore (cleared w.scratch)) has r
    (here T w (cleared w.scratch) r r.0, omega arith)
html_terminates T its.CompleteEnd w has c r =
    move_terminates T its.CompleteEnd w _ has r (asks_end T w _ (valid-here w (is_current 62) c refl) r)
html_terminates T its.CompleteAfter w has c r =
    move_terminates T its.CompleteAfter w _ has r (asks_after T w _ _ (valid-here w sees_white c refl) r)
html_terminates T its.Continuation w has c r = text_ends T w _ has c r refl
html_terminates T its.ContinuationStart w has c r = further_ends T w _ has r
html_terminates T its.ContinuationStartNonLazy w has c r = (
  turns T html_scheme _ (n.HtmlFlow its.ContinuationBefore) w w.events w.scratch
      (has.each its.ContinuationStartNonLazy) (has.each its.ContinuationBefore) r (omega arith) (omega arith),
  refl,
)
html_terminates T its.ContinuationBefore w has c r = line_before_ends T w _ has r
html_terminates T its.ContinuationCommentInside w has c r =
    move_terminates T its.ContinuationCommentInside w _ has r.1
    (asks_twice T its.ContinuationCommentInside w _ (omega arith) (valid-here w (is_current 45) c refl) (inl r.0) r.1)
html_terminates T its.ContinuationRawTagOpen w has c r = raw_open_ends T w _ has c r.0 r.1 refl
html_terminates T its.ContinuationRawEndTag w has c r =
    move_terminates T its.ContinuationRawEndTag w _ has r.1.1
    (asks_raw_end T w _ _ (valid-here w sees_letter c refl)
    (λ e. valid-here w (is_current 62) c refl (and_parts _ _ e).0)
    (λ e. letter-taken w w.current c refl e r.0) r.1.0 r.1.1)
html_terminates T its.ContinuationCdataInside w has c r =
    move_terminates T its.ContinuationCdataInside w _ has r.1
    (asks_twice T its.ContinuationCdataInside w _ (omega arith) (valid-here w (is_current 93) c refl) (inr (inr r.0))
    r.1)
html_terminates T its.ContinuationDeclarationInside w has c r =
    move_terminates T its.ContinuationDeclarationInside w _ has r.1
    (asks_inside T w _ _ (valid-here w (is_current 62) c refl) (valid-here w (is_current w.scratch.marker) c refl) r.0
    r.1)
html_terminates T its.ContinuationClose w has c r = close_ends T w _ has c r refl
html_terminates T its.ContinuationAfter w has c r =
    (accepts T _ w IsRest IsRest (exited w HtmlFlow).events (cleared w.scratch) r.1 r.0, refl)
html_terminates T its.BlankLineBefore w has c r =
    move_terminates T its.BlankLineBefore w _ has r (asks_blank T w _ _ (valid-here w sees_white c refl) r)
