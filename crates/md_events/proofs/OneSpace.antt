-- One space that is taken at once is what the states of whitespace take.
use Rattle.std.proofs.Common.{◌≡◌, Bool, true, false, ◌&&◌, nat_lt, ◌∷◌, [], length, refl, ◌∙◌, ap, arith}
use Rattle.md_engine.specs.declared.event.Name.TheVariants.{SpaceOrTab}
use Rattle.md_engine.specs.declared.state.Name.{Name as StateName}
use Rattle.md_engine.specs.declared.state.Name.TheVariants as n
use Rattle.md_engine.specs.declared.state.space_or_tab.State.{State as WhiteState}
use Rattle.md_engine.specs.declared.state.space_or_tab.State.TheVariants as its
use Rattle.md_engine.specs.declared.state.State.{State}
use Rattle.md_engine.specs.declared.state.State.TheVariants.{Nok, Next, Ok, Retry}
use Rattle.md_engine.specs.declared.tokenizer.Frame.{Frame}
use Rattle.md_engine.specs.Run.{Step, reading}
use Rattle.md_engine.specs.World.{World, looks}
use Rattle.md_engine.proofs.Loops.{ArrivedAt}
use Rattle.md_engine.proofs.Walks.{Within, then-holds, then-stays, then-takes, within-more, within-one}
use Rattle.md_events.specs.Events.Nested.{enter, exit}
use Rattle.md_events.specs.OneSpace.{IsOneSpace, spaced}
use Rattle.md_events.specs.Spaces.{after_code, any_size, inside_code, sees_white, start_code, white_then}
use Rattle.md_events.specs.Spaces.{white_transition}

-- a table has the states of whitespace
abbrev pub HasWhite : Step → Type 0
HasWhite T =
    (state : WhiteState) (w : World) (to : State) (new : World) →
    white_transition state w ≡ record { to = to; world = new } → T (n.SpaceOrTab state) w to new

-- an attempt at whitespace takes it, and what follows it is seen
pub space-run : (T : Step) (is_end : Bool) (s : State) (v : World) (next : StateName) (w : World) → HasWhite T →
    ArrivedAt T is_end s v (n.SpaceOrTab its.Start) (white_then w 1 any_size (Next next) Nok).world →
    w.current ≡ looks w → Within w → IsOneSpace w → ArrivedAt T is_end s v next (spaced w)
space-run T is_end s v next w white arrived seen within one =
    then-holds T is_end s v (n.SpaceOrTab its.After) next wd we f w.frames at_after
    (white its.After wd Ok we refl) refl in-wd refl refl refl within one.next
  where
    is : sees_white w.current ≡ true
    is = ap sees_white (seen ∙ one.here)

    f : Frame
    f = record { ok = Next next; nok = Nok; is_check = false; events_len = length w.events; point = w.point }

    wa : World
    wa = (white_then w 1 any_size (Next next) Nok).world

    wb : World
    wb = (start_code wa true).world

    wc : World
    wc = (inside_code wb true).world

    wd : World
    wd = (inside_code (reading wc) false).world

    we : World
    we = (after_code wd true).world

    in-wa : Within wa
    in-wa = within-one f w.frames (length w.events) (omega arith) within

    in-wb : Within wb
    in-wb = within-more (f ∷ w.frames) w.events (enter SpaceOrTab w.point ∷ []) in-wa

    in-wd : Within wd
    in-wd = within-more (f ∷ w.frames) wb.events (exit SpaceOrTab wc.point ∷ []) in-wb

    at_inside : ArrivedAt T is_end s v (n.SpaceOrTab its.Inside) wb
    at_inside =
        then-stays T is_end s v (n.SpaceOrTab its.Start) (n.SpaceOrTab its.Inside) wa wb arrived
        (white its.Start wa (Retry (n.SpaceOrTab its.Inside)) wb
        (ap (λ (b : Bool). start_code wa (b && nat_lt 0 any_size)) is)) refl in-wa refl seen

    following : ArrivedAt T is_end s v (n.SpaceOrTab its.Inside) (reading wc)
    following =
        then-takes T is_end s v (n.SpaceOrTab its.Inside) (n.SpaceOrTab its.Inside) wb wc at_inside
        (white its.Inside wb (Next (n.SpaceOrTab its.Inside)) wc
        (ap (λ (b : Bool). inside_code wb (b && nat_lt 0 any_size)) is)) refl in-wb one.next

    at_after : ArrivedAt T is_end s v (n.SpaceOrTab its.After) wd
    at_after =
        then-stays T is_end s v (n.SpaceOrTab its.Inside) (n.SpaceOrTab its.After) (reading wc) wd following
        (white its.Inside (reading wc) (Retry (n.SpaceOrTab its.After)) wd
        (ap (λ (b : Bool). inside_code (reading wc) (b && nat_lt 1 any_size)) one.following)) refl in-wb refl refl
