-- Each state of a blank line takes one step of its rule.
use Rattle.std.proofs.Common.{◌≡◌, ℕ, zero, suc, ◌<◌, ◌≤◌, ◌^◌, Bool, true, false, cond, nat_eq, List, [], ◌∷◌, ◌++◌}
use Rattle.std.proofs.Common.{length, Option, Some, None, refl, sym, ◌∙◌, ap, arith, append_assoc, append-nil, ap₂}
use Rattle.md_engine.specs.declared.event.Event.{Event}
use Rattle.md_engine.specs.declared.event.Name.TheVariants.{SpaceOrTab}
use Rattle.md_engine.specs.declared.state.Name.TheVariants as n
use Rattle.md_engine.specs.declared.state.blank_line.State.{State as BlankState}
use Rattle.md_engine.specs.declared.state.blank_line.State.TheVariants as its
use Rattle.md_engine.specs.declared.state.space_or_tab.State.TheVariants as space_or_tab
use Rattle.md_engine.specs.declared.state.State.{State}
use Rattle.md_engine.specs.declared.state.State.TheVariants.{Nok, Next}
use Rattle.md_engine.specs.declared.tokenizer.Frame.{Frame}
use Rattle.md_engine.specs.declared.tokenizer.Scratch.{Scratch}
use Rattle.md_engine.specs.Meaning.{Accepts, Behaviour, Cell, Feed, Here, Outcome, Refuses, Steps, proceeds, here}
use Rattle.md_engine.specs.Meaning.{resume}
use Rattle.md_engine.specs.World.{World}
use Rattle.md_engine.specs.Sees.{Sees, ahead}
use Rattle.md_engine.proofs.StepOf.{steps-as, begins_only, passes}
use Rattle.md_leaves.specs.Blank.{after_code, blank_transition, start_code}
use Rattle.md_leaves.specs.BlankRule.{BlankMeans, HasBlank, after_blank, blank_at}
use Rattle.md_events.specs.Ahead.{begins_white, from_ending, line_bytes, line_end, white_end, white_rest}
use Rattle.md_events.specs.Events.Nested.{enter, exit}
use Rattle.md_meaning.specs.Rest.{is_blank, is_white}
use Rattle.md_events.specs.Spaces.{IsRest, any_size, asking, calmed, ends_line, sees_white}
use Rattle.md_events.proofs.WhiteMeaning.{begins-seen, following_white, white-tried}
use Rattle.md_events.proofs.AheadLemmas.{white-no_ending}

-- after whitespace that began here, with these events before it
abbrev was_continued : List Event → Here → ℕ → List Cell → Here
was_continued events h room cells = record h {
  events = events ++ exit SpaceOrTab (white_end room cells h.point) ∷ [];
  point = white_end room cells h.point;
}

abbrev blank_left : List Event → List Cell → Here → Outcome
blank_left events cells h =
    cond (is_blank (line_bytes cells))
    (Accepts
    (record h { events = events ++ exit SpaceOrTab (line_end cells h.point) ∷ []; point = line_end cells h.point })
    (from_ending cells))
    (Refuses h.scratch h.flags)

-- the rest of a line whose whitespace has begun is blank if the line ends after the whitespace
blank-run : (room : ℕ) (events : List Event) (cells : List Cell) (h : Here) → length cells ≤ room →
    blank_left events cells h ≡ after_blank (white_rest room cells) (was_continued events h room cells)
unfolding after_blank
blank-run room events [] h le = refl
blank-run zero events (c ∷ cs) h le = absurd (omega arith)
blank-run (suc room) events (c ∷ cs) h le =
    go (is_white c.byte) (nat_eq c.byte 10) refl refl
    (blank-run room events cs (record h { point = c.after }) (omega arith))
  where
    go : (x y : Bool) → is_white c.byte ≡ x → nat_eq c.byte 10 ≡ y →
        blank_left events cs (record h { point = c.after }) ≡
        after_blank (white_rest room cs) (was_continued events (record h { point = c.after }) room cs) →
        blank_left events (c ∷ cs) h ≡
        after_blank (white_rest (suc room) (c ∷ cs)) (was_continued events h (suc room) (c ∷ cs))
    go true y s e ih = rw (white-no_ending c.byte s, s) ih
    go false true s e ih = rw (s, e) refl
    go false false s e ih = rw (s, e, s) refl

begun : (cells : List Cell) (h : Here) → begins_white cells ≡ true →
    blank_at cells h ≡ blank_left (h.events ++ enter SpaceOrTab h.point ∷ []) cells h
unfolding blank_at
begun cells h s = rw s (simp append_assoc)

-- what an attempt at whitespace without limit becomes
blank-white : (B : Behaviour) (feed : Feed) (has : HasBlank B) (cells : List Cell) (h : Here) (f : Frame)
    (events : List Event) →
    length cells < 2 ^ 63 → begins_white cells ≡ true → IsRest h.scratch →
    f.is_check ≡ false → f.ok ≡ Next (n.BlankLine its.After) →
    blank_at cells h ≡
    resume B feed events f
    (B (n.SpaceOrTab space_or_tab.Start) cells (record h { scratch = asking 1 any_size 0 h.scratch }))
blank-white B feed has cells h f events short s r k ok =
    let same : calmed h.scratch ≡ h.scratch = ap calmed r ∙ sym r in
    begun cells h s ∙ blank-run any_size (h.events ++ enter SpaceOrTab h.point ∷ []) cells h (omega arith)
    ∙ ap₂
    (λ (es : List Event) (t : Scratch).
    after_blank (white_rest any_size cells)
    (record h { events = es; point = white_end any_size cells h.point; scratch = t }))
    (append_assoc h.events (enter SpaceOrTab h.point ∷ []) _) (sym same)
    ∙ sym (has.each its.After _ _)
    ∙ ap (λ (x : State). proceeds B x (white_rest any_size cells) (following_white any_size cells h)) (sym ok)
    ∙ white-tried B feed f events cells h 1 any_size has.white s (omega arith) (omega arith) k

none-ahead : (feed : Feed) (w : World) (h : Here) (o : Option ℕ) → sees_white o ≡ false →
    blank_at (ahead feed w o) h ≡ after_blank (ahead feed w o) h
unfolding blank_at after_blank
none-ahead feed w h None e = rw append-nil refl
none-ahead feed w h (Some b) e = go (nat_eq b 10) refl
  where
    go : (y : Bool) → nat_eq b 10 ≡ y → blank_at (ahead feed w (Some b)) h ≡ after_blank (ahead feed w (Some b)) h
    go true k = rw (k, e, append-nil) refl
    go false k = rw (k, e) refl

blank_start_means : (B : Behaviour) (feed : Feed) (w : World) (x : Bool) → HasBlank B → Sees feed w → IsRest w.scratch →
    sees_white w.current ≡ x →
    Steps B feed (Next (n.BlankLine its.Start)) w (start_code w x).to (start_code w x).world
blank_start_means B feed w true has s r e =
    let f : Frame = record {
      ok = Next (n.BlankLine its.After);
      nok = Nok;
      is_check = false;
      events_len = length w.events;
      point = w.point;
    } in
    begins_only B feed _ _ w (start_code w true).world f refl refl
    (has.each its.Start _ _
    ∙ blank-white B feed has (feed w.point) (here w) f w.events s.short (begins-seen feed w s ∙ e) r refl refl)
blank_start_means B feed w false has s r e =
    passes B feed _ _ w w refl refl
    (has.each its.Start _ _ ∙ rw s.next (none-ahead feed w (here w) w.current e) ∙ sym (has.each its.After _ _))

ends-ahead : (feed : Feed) (w : World) (h : Here) (o : Option ℕ) (x : Bool) → ends_line o ≡ x →
    after_blank (ahead feed w o) h ≡ cond x (Accepts h (ahead feed w o)) (Refuses h.scratch h.flags)
unfolding after_blank
ends-ahead feed w h None true e = refl
ends-ahead feed w h None false e = cc
ends-ahead feed w h (Some b) true e = rw e refl
ends-ahead feed w h (Some b) false e = rw e refl

blank_after_means : (B : Behaviour) (feed : Feed) (w : World) (x : Bool) → HasBlank B → Sees feed w →
    ends_line w.current ≡ x →
    Steps B feed (Next (n.BlankLine its.After)) w (after_code w x).to (after_code w x).world
blank_after_means B feed w true has s e =
    passes B feed _ _ w w refl refl (has.each its.After _ _ ∙ rw s.next (ends-ahead feed w (here w) w.current true e))
blank_after_means B feed w false has s e =
    passes B feed _ _ w w refl refl (has.each its.After _ _ ∙ rw s.next (ends-ahead feed w (here w) w.current false e))

-- each state of a blank line takes one step of what it means
pub blank_means : (B : Behaviour) (feed : Feed) (state : BlankState) (w : World) → HasBlank B → Sees feed w →
    IsRest w.scratch →
    Steps B feed (Next (n.BlankLine state)) w (blank_transition state w).to (blank_transition state w).world
blank_means B feed its.Start w has s r = blank_start_means B feed w _ has s r refl
blank_means B feed its.After w has s r = blank_after_means B feed w _ has s refl

-- what answers as the transition of a state does means what the state means
pub blank_rule : (state : BlankState) (w new : World) (to : State) → to ≡ (blank_transition state w).to →
    new ≡ (blank_transition state w).world → BlankMeans state w to new
unfolding BlankMeans
blank_rule state w new to e k r B feed has s = steps-as B feed _ _ to w _ new e k (blank_means B feed state w has s r)
