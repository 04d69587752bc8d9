-- The prefix `> ` that is taken at once is what the states of a quote take.
use Rattle.std.proofs.Common.{◌≡◌, ◌+◌, ◌<◌, ◌≤◌, Bool, true, false, ◌∷◌, [], length, Some, refl, ◌∙◌, ap, arith}
use Rattle.std.proofs.Common.{inl, inr, subst}
use Rattle.std.specs.Prelude.{slice_index}
use Rattle.md_engine.specs.declared.class.Class.TheVariants as class
use Rattle.md_engine.specs.declared.event.Point.{Point}
use Rattle.md_engine.specs.Classes.{has}
use Rattle.md_engine.specs.Place.{IsPlaced}
use Rattle.md_engine.specs.declared.event.Name.TheVariants.{BlockQuoteMarker, BlockQuotePrefix}
use Rattle.md_engine.specs.declared.state.Name.{Name as StateName}
use Rattle.md_engine.specs.declared.state.Name.TheVariants as n
use Rattle.md_engine.specs.declared.state.block_quote.State.{State as QuoteState}
use Rattle.md_engine.specs.declared.state.block_quote.State.TheVariants as its
use Rattle.md_engine.specs.declared.state.State.{State}
use Rattle.md_engine.specs.declared.state.State.TheVariants.{Next, Ok, Retry}
use Rattle.md_engine.specs.declared.tokenizer.Frame.{Frame}
use Rattle.md_engine.specs.Run.{Step, reading}
use Rattle.md_engine.specs.World.{World, after, looks, looks_at}
use Rattle.md_engine.proofs.Loops.{ArrivedAt}
use Rattle.md_engine.proofs.Walks.{Within, then-holds, then-stays, then-takes, within-more, within-one}
use Rattle.md_containers.specs.Ahead.{ahead}
use Rattle.md_containers.specs.QuotePrefix.{IsPlainPrefix, prefixed}
use Rattle.md_containers.proofs.Ahead.{TwoAhead, seen-byte, valid-ahead, text-after}
use Rattle.md_containers.specs.Quote.{cont_after_code, cont_before_code, cont_start_code, quote_transition}
use Rattle.md_events.specs.Events.Nested.{enter, exit}
use Rattle.md_events.specs.Spaces.{is_current, sees_white}
use Rattle.md_events.specs.Transition.{tried}

-- a table has the states of a quote
abbrev pub HasQuote : Step → Type 0
HasQuote T =
    (state : QuoteState) (w : World) (to : State) (new : World) →
    quote_transition state w ≡ record { to = to; world = new } → T (n.BlockQuote state) w to new

-- an attempt at the prefix of a further line takes it, and what follows it is seen
pub prefix-run : (T : Step) (is_end : Bool) (s : State) (v : World) (next : StateName) (nok : State) (w : World) →
    HasQuote T → ArrivedAt T is_end s v (n.BlockQuote its.ContStart) (tried w (Next next) nok) →
    w.current ≡ looks w → Within w → IsPlainPrefix w → ArrivedAt T is_end s v next (prefixed w)
prefix-run T is_end s v next nok w quote arrived seen within prefix =
    then-holds T is_end s v (n.BlockQuote its.ContAfter) next (reading wb) wc f w.frames following
    (quote its.ContAfter (reading wb) Ok wc
    (ap (λ (b : Bool). cont_after_code (reading wb) b) (ap sees_white prefix.space))) refl in-wb refl refl refl within
    prefix.next
  where
    is : w.current ≡ Some 62
    is = seen ∙ prefix.here

    f : Frame
    f = record { ok = Next next; nok = nok; is_check = false; events_len = length w.events; point = w.point }

    wa : World
    wa = tried w (Next next) nok

    wb : World
    wb = (cont_before_code wa true).world

    wc : World
    wc = (cont_after_code (reading wb) true).world

    in-wa : Within wa
    in-wa = within-one f w.frames (length w.events) (omega arith) within

    in-wb : Within wb
    in-wb =
        within-more (f ∷ w.frames) _ (exit BlockQuoteMarker wb.point ∷ [])
        (within-more (f ∷ w.frames) _ (enter BlockQuoteMarker w.point ∷ [])
        (within-more (f ∷ w.frames) w.events (enter BlockQuotePrefix w.point ∷ []) in-wa))

    at_marker : ArrivedAt T is_end s v (n.BlockQuote its.ContBefore) wa
    at_marker =
        then-stays T is_end s v (n.BlockQuote its.ContStart) (n.BlockQuote its.ContBefore) wa wa arrived
        (quote its.ContStart wa (Retry (n.BlockQuote its.ContBefore)) wa
        (ap (λ (b : Bool). cont_start_code wa b) (ap sees_white is))) refl in-wa refl seen

    following : ArrivedAt T is_end s v (n.BlockQuote its.ContAfter) (reading wb)
    following =
        then-takes T is_end s v (n.BlockQuote its.ContBefore) (n.BlockQuote its.ContAfter) wa wb at_marker
        (quote its.ContBefore wa (Next (n.BlockQuote its.ContAfter)) wb
        (ap (λ (b : Bool). cont_before_code wa b) (ap (is_current 62) is))) refl in-wa prefix.inside

-- It is two bytes of text.
pub prefix-ahead : (w : World) → IsPlainPrefix w → IsPlaced w.setting.bytes w.point →
    w.setting.limit ≤ length w.setting.bytes → TwoAhead w.setting w.point
prefix-ahead w plain placed readable =
    valid-ahead w.setting w.point placed inside (ap (has class.Text) here.1)
    (ap (has class.Text) space.1)
  where
    here : (w.point.index < w.setting.limit) × (slice_index w.setting.bytes w.point.index ≡ 62)
    here = seen-byte w.setting w.point 62 plain.here refl (inl refl)

    first : after w.setting w.point ≡ ahead 1 w.point
    first = text-after w.setting w.point (ap (has class.Text) here.1)

    space : (w.point.index + 1 < w.setting.limit) × (slice_index w.setting.bytes (w.point.index + 1) ≡ 32)
    space =
        seen-byte w.setting (ahead 1 w.point) 32
        (subst (λ (p : Point). looks_at w.setting p ≡ Some 32) first plain.space) refl (inr refl)

    inside : w.point.index + 1 < length w.setting.bytes
    inside = let lt = space.0 in omega (arith, lt, readable)
