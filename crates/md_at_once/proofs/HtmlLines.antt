-- Lines of HTML that are taken in one call: each of their states leaves the text as it is, and where it stays, it stays
-- where it was.
use Rattle.std.proofs.Common.{◌≡◌, ◌≢◌, ◌∙◌, Bool, true, false, ap, refl, subst, sym}
use Rattle.md_content.proofs.StaysLemmas.{not-ending}
use Rattle.md_engine.specs.declared.state.html_flow.State.TheVariants as its
use Rattle.md_engine.specs.declared.state.Name.TheVariants as n
use Rattle.md_engine.specs.declared.stay.Stay.TheVariants.{Line}
use Rattle.md_engine.specs.Full.{OnError}
use Rattle.md_engine.specs.World.{World, looks}
use Rattle.md_engine.specs.declared.state.State.{State}
use Rattle.md_engine.specs.declared.state.State.TheVariants.{Error}
use Rattle.md_engine.proofs.Walks.{Within}
use Rattle.md_literal.specs.Html.{blank_move, close_code, ends_in_front, further_code, html_transition, moved}
use Rattle.md_registry.proofs.LinesAtOnce.{Proceeds, Leaves, leaves-once}
use Rattle.md_events.specs.Spaces.{ends_line, sees_white}
use Rattle.md_events.specs.Stays.{TakesEach}

pub close-leaves : (w : World) (x : Bool) → Leaves (close_code w x) w
close-leaves w true = ((refl, refl), refl)
close-leaves w false = (tt, refl)

pub close-takes : TakesEach Line (n.HtmlFlow its.ContinuationClose) (html_transition its.ContinuationClose)
close-takes w b e h = ap (close_code w) (ap ends_line e ∙ not-ending b h)

-- Before a further line, by whether it may be blank,
further-leaves : (w : World) (x : Bool) → Leaves (further_code w x) w
further-leaves w true = ((refl, refl), refl)
further-leaves w false = ((refl, refl), refl)

-- and in one that may be blank, by what is there.
blank-leaves : (w : World) (x y : Bool) → Leaves (moved w (blank_move w.scratch x y)) w
blank-leaves w true y = (tt, refl)
blank-leaves w false true = (tt, refl)
blank-leaves w false false = ((refl, refl), refl)

-- So a call of each is a run.
pub furthers : (w : World) (to : State) (new : World) → w.current ≡ looks w → Within w →
    (to ≢ Error → to ≡ (html_transition its.ContinuationStart w).to) →
    (to ≢ Error → new ≡ (html_transition its.ContinuationStart w).world) → to ≢ Error →
    Proceeds (n.HtmlFlow its.ContinuationStart) w to new
furthers w to new seen within to_is new_is fine =
    leaves-once (n.HtmlFlow its.ContinuationStart) w to new (further-leaves w (ends_in_front w.flags.leaf)) (to_is fine)
    (new_is fine) fine seen within

pub blanks : (w : World) (to : State) (new : World) → w.current ≡ looks w → Within w →
    to ≡ (html_transition its.BlankLineBefore w).to → new ≡ (html_transition its.BlankLineBefore w).world →
    to ≢ Error → Proceeds (n.HtmlFlow its.BlankLineBefore) w to new
blanks w to new seen within to_is new_is fine =
    leaves-once (n.HtmlFlow its.BlankLineBefore) w to new
    (blank-leaves w (ends_line w.current) (sees_white w.current)) to_is new_is fine seen within

-- the state of which wants no memory
pub blanks-want : (w : World) (to : State) (X : Type 0) → to ≡ (html_transition its.BlankLineBefore w).to →
    OnError to X
blanks-want w to X is =
    subst (λ (s : State). OnError s X) (sym is) (by (ends_line w.current) (sees_white w.current))
  where
    by : (x y : Bool) → OnError (moved w (blank_move w.scratch x y)).to X
    by true y = tt
    by false true = tt
    by false false = tt

pub overs : (w : World) (to : State) (new : World) → w.current ≡ looks w → Within w →
    (to ≢ Error → to ≡ (html_transition its.ContinuationAfter w).to) →
    (to ≢ Error → new ≡ (html_transition its.ContinuationAfter w).world) → to ≢ Error →
    Proceeds (n.HtmlFlow its.ContinuationAfter) w to new
overs w to new seen within to_is new_is fine =
    leaves-once (n.HtmlFlow its.ContinuationAfter) w to new (tt, refl) (to_is fine) (new_is fine) fine seen within
