-- A further line of fenced code or math after whitespace: a closing fence refuses it by what is first after that.
use Rattle.std.proofs.Common.{◌≡◌, ◌∙◌, ◌<◌, ◌⊎◌, inl, inr, Bool, true, false, ◌&&◌, ◌||◌, ℕ, List, ◌∷◌}
use Rattle.std.proofs.Common.{[], Option, Some, None, ap, ap₂, append_assoc, arith, length, nat_eq, nat_lt, refl}
use Rattle.std.proofs.Common.{sym}
use Rattle.std.proofs.lemmas.Bool.{eqb-true}
use Rattle.std.proofs.lemmas.Bool.Decides.{nat_tests}
use Rattle.std.specs.Prelude.{nat_le}
use Rattle.md_engine.specs.declared.event.Event.{Event}
use Rattle.md_engine.specs.declared.event.Name.TheVariants.{SpaceOrTab}
use Rattle.md_engine.specs.declared.state.Name.TheVariants as n
use Rattle.md_engine.specs.declared.state.raw_flow.State.TheVariants as its
use Rattle.md_engine.specs.declared.state.space_or_tab.State.TheVariants as white
use Rattle.md_engine.specs.declared.state.State.{State}
use Rattle.md_engine.specs.declared.state.State.TheVariants.{Next, Nok}
use Rattle.md_engine.specs.declared.tokenizer.Frame.{Frame}
use Rattle.md_engine.specs.Run.{reading}
use Rattle.md_engine.specs.Scheme.{cells_left}
use Rattle.md_engine.specs.World.{World, looks}
use Rattle.md_engine.proofs.Loops.{ArrivedAt}
use Rattle.md_engine.proofs.Walks.{Within, then-holds, then-stays, within-more, within-one}
use Rattle.md_literal.specs.Fence.{at_non_lazy_break_code, before_close_code, cleared, close_start_code, held_marker}
use Rattle.md_literal.specs.Fence.{line_entered}
use Rattle.md_meaning.specs.Rest.{is_white}
use Rattle.md_events.specs.Events.Nested.{enter, exit}
use Rattle.md_events.specs.Look.{following_code, first_following, looks_after}
use Rattle.md_events.specs.Spaces.{after_code, is_current, sees_white, small_indent}
use Rattle.md_events.specs.Spaces.{start_code}
use Rattle.md_events.specs.Transition.{exited}
use Rattle.md_events.proofs.AheadLemmas.{small-some}
use Rattle.md_events.proofs.LookLemmas.{left_at}
use Rattle.md_registry.specs.States.{FlowStep}
use Rattle.md_at_once.specs.AtOnce.{IsNoClose, unclosed}
use Rattle.md_at_once.proofs.TakenBack.{stepped-as, taken-back}
use Rattle.md_at_once.proofs.WhiteEnds.{Ended, reached, white-ends}

-- what is first after whitespace that is here
found-following : (w : World) (b : ℕ) → sees_white w.current ≡ true → looks_after w ≡ Some b →
    first_following (left_at w.setting w.point) ≡ Some b
unfolding looks_after
found-following w b white e = go w.current white e
  where
    go : (o : Option ℕ) → sees_white o ≡ true → following_code o
        (first_following (left_at w.setting w.point)) ≡ Some b →
        first_following (left_at w.setting w.point) ≡ Some b
    go None k is = cc
    go (Some c) k is = rw k at is

-- neither that byte nor whitespace is the marker
no-marker : (byte b m : ℕ) → (is_white byte ≡ true) ⊎ (byte ≡ b) → nat_eq b m ≡ false → is_white m ≡ false →
    nat_eq byte m ≡ false
no-marker byte b m (inr same) other dark = ap (λ (c : ℕ). nat_eq c m) same ∙ other
no-marker byte b m (inl white) other dark = go (nat_eq byte m) refl
  where
    go : (y : Bool) → nat_eq byte m ≡ y → nat_eq byte m ≡ false
    go false e = e
    go true e = let no : true ≡ false = sym white ∙ ap is_white (eqb-true byte m e) ∙ dark in cc

-- So a closing fence refuses, and the line begins as one that closes nothing.
pub closes-none : (is_end : Bool) (s : State) (v w : World) → IsNoClose w → w.current ≡ looks w → Within w →
    ArrivedAt FlowStep is_end s v (n.RawFlow its.AtNonLazyBreak) w →
    ArrivedAt FlowStep is_end s v (n.RawFlow its.ContentStart) (unclosed w)
closes-none is_end s v w h seen within arrived =
    taken-back is_end s v (n.RawFlow its.BeforeSequenceClose) (n.RawFlow its.ContentStart) l g x f more at_close
    (stepped-as (n.RawFlow its.BeforeSequenceClose) g (record { to = Nok; world = x }) (ap (before_close_code g) other))
    refl in-g refl (simp append_assoc) refl refl refl refl in-l seen lt
  where
    m : ℕ
    m = held_marker w.flags.leaf

    most : ℕ
    most = small_indent w.setting.options

    l : World
    l = line_entered w

    in-l : Within l
    in-l = within-more w.frames w.events _ within

    f : Frame
    f = record {
      ok = Next (n.RawFlow its.After);
      nok = Next (n.RawFlow its.ContentStart);
      is_check = false;
      events_len = length l.events;
      point = w.point;
    }

    wa : World
    wa = (at_non_lazy_break_code w true).world

    in-wa : Within wa
    in-wa = within-one f w.frames (length l.events) (omega arith) in-l

    f2 : Frame
    f2 = record {
      ok = Next (n.RawFlow its.BeforeSequenceClose);
      nok = Nok;
      is_check = false;
      events_len = length l.events;
      point = w.point;
    }

    wb : World
    wb = (close_start_code wa true).world

    in-wb : Within wb
    in-wb = within-one f2 (f ∷ w.frames) (length l.events) (omega arith) in-wa

    wc : World
    wc = (start_code wb true).world

    in-wc : Within wc
    in-wc = within-more (f2 ∷ f ∷ w.frames) l.events (enter SpaceOrTab w.point ∷ []) in-wb

    at_start : ArrivedAt FlowStep is_end s v (n.RawFlow its.CloseStart) wa
    at_start =
        then-stays FlowStep is_end s v (n.RawFlow its.AtNonLazyBreak) (n.RawFlow its.CloseStart) w wa arrived
        (stepped-as (n.RawFlow its.AtNonLazyBreak) w (at_non_lazy_break_code w true)
        (ap (λ (y : Bool). at_non_lazy_break_code w (y || is_current m w.current)) h.white)) refl within refl seen

    at_white : ArrivedAt FlowStep is_end s v (n.SpaceOrTab white.Start) wb
    at_white =
        then-stays FlowStep is_end s v (n.RawFlow its.CloseStart) (n.SpaceOrTab white.Start) wa wb at_start
        (stepped-as (n.RawFlow its.CloseStart) wa (close_start_code wa true) (ap (close_start_code wa) h.white)) refl
        in-wa refl seen

    some : nat_lt 0 most ≡ true
    some = let one = small-some w.setting.options in grind (arith, nat_tests)

    at_inside : ArrivedAt FlowStep is_end s v (n.SpaceOrTab white.Inside) wc
    at_inside =
        then-stays FlowStep is_end s v (n.SpaceOrTab white.Start) (n.SpaceOrTab white.Inside) wb wc at_white
        (stepped-as (n.SpaceOrTab white.Start) wb (start_code wb true)
        (ap (start_code wb) (ap₂ (λ (y z : Bool). y && z) h.white some))) refl in-wb refl seen

    end : Ended is_end s v wc h.byte
    end =
        white-ends (cells_left w.setting.limit w.point) is_end s v wc h.byte (omega arith)
        (found-following w h.byte h.white h.following) seen in-wc at_inside

    y : World
    y = exited (reached wc end.point end.size) SpaceOrTab

    in-y : Within y
    in-y = within-more (f2 ∷ f ∷ w.frames) wc.events (exit SpaceOrTab end.point ∷ []) in-wc

    enough : nat_le 0 end.size ≡ true
    enough = grind (arith, nat_tests)

    z : World
    z = (after_code y true).world

    g : World
    g = reading (record z { frames = f ∷ w.frames })

    more : List Event
    more = enter SpaceOrTab w.point ∷ exit SpaceOrTab end.point ∷ []

    in-g : Within g
    in-g =
        within-more (f ∷ w.frames) wc.events (exit SpaceOrTab end.point ∷ [])
        (within-more (f ∷ w.frames) l.events (enter SpaceOrTab w.point ∷ []) in-wa)

    at_close : ArrivedAt FlowStep is_end s v (n.RawFlow its.BeforeSequenceClose) g
    at_close =
        then-holds FlowStep is_end s v (n.SpaceOrTab white.After) (n.RawFlow its.BeforeSequenceClose) y z f2
        (f ∷ w.frames)
        end.arrived (stepped-as (n.SpaceOrTab white.After) y (after_code y true) (ap (after_code y) enough)) refl in-y
        refl refl refl in-wa
        end.inside

    other : is_current m g.current ≡ false
    other = ap (is_current m) end.seen ∙ no-marker end.byte h.byte m end.is h.other h.dark

    x : World
    x = record g { scratch = cleared g.scratch }

    lt : w.point.index < w.setting.limit
    lt = go w.current seen h.white
      where
        go : (o : Option ℕ) → o ≡ looks w → sees_white o ≡ true → w.point.index < w.setting.limit
        go None e k = cc
        go (Some b) e k = at (nat_lt w.point.index w.setting.limit) refl e
          where
            at : (t : Bool) → nat_lt w.point.index w.setting.limit ≡ t → Some b ≡ looks w →
                w.point.index < w.setting.limit
            at true q e = grind (arith, nat_tests)
            at false q e = let none : looks w ≡ None = rw q refl in cc
