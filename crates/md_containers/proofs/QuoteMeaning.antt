-- Each state of the prefix of a quote takes one step of its rule.
use Rattle.std.proofs.Common.{◌≡◌, ℕ, suc, ◌+◌, Bool, true, false, nat_eq, List, [], ◌∷◌, ◌++◌, drop, slice_get, Option}
use Rattle.std.proofs.Common.{Some, None, refl, sym, ◌∙◌, ap, arith, append_assoc, add-one, drop-cons, inl, inr}
use Rattle.std.proofs.Common.{append-nil, cond}
use Rattle.std.proofs.lemmas.List.{drop_all}
use Rattle.std.proofs.lemmas.Option.{get_or_from_slice_get, slice_get_cases, slice_get_within}
use Rattle.std.specs.Char.{to_ascii_lowercase}
use Rattle.md_engine.specs.declared.configuration.ParseOptions.{ParseOptions}
use Rattle.md_engine.specs.declared.event.Event.{Event}
use Rattle.md_engine.specs.declared.event.Point.{Point}
use Rattle.md_engine.specs.declared.event.Name.TheVariants.{BlockQuote, BlockQuoteMarker, BlockQuotePrefix, SpaceOrTab}
use Rattle.md_engine.specs.declared.state.Name.TheVariants as n
use Rattle.md_engine.specs.declared.state.blank_line.State.TheVariants as blank_line
use Rattle.md_engine.specs.declared.state.block_quote.State.{State as QuoteState}
use Rattle.md_engine.specs.declared.state.block_quote.State.TheVariants as its
use Rattle.md_engine.specs.declared.state.State.{State}
use Rattle.md_engine.specs.declared.state.State.TheVariants.{Nok, Next}
use Rattle.md_engine.specs.declared.tokenizer.Frame.{Frame}
use Rattle.md_engine.specs.Meaning.{Accepts, Behaviour, Cell, Fails, Feed, Here, Outcome, Refuses, Steps, here, resume}
use Rattle.md_engine.specs.World.{World, after}
use Rattle.md_engine.specs.Sees.{Sees, ahead}
use Rattle.md_engine.proofs.StepOf.{begins_only, moves, passes, steps-as}
use Rattle.md_containers.specs.Quote.{alert_before_code, alert_mark_code, column_code, cont_after_code, indent_code}
use Rattle.md_containers.specs.Quote.{letter_code, marker_code, name_code, name_of, naming, quote_transition}
use Rattle.md_containers.specs.Quote.{start_code, try_code, unnamed}
use Rattle.md_containers.specs.QuoteRule.{HasQuote, QuoteMeans, alert_at, alert_letter, alert_mark, alert_marker}
use Rattle.md_containers.specs.QuoteRule.{alert_name, alert_or_end, at_marker, after_marker, ended_by, indent_at}
use Rattle.md_containers.specs.QuoteRule.{no_name, opening_at, prefix_at, prefix_ended, quote_at}
use Rattle.md_containers.proofs.ItemBeginMeaning.{frame_here, proceeded-back}
use Rattle.md_leaves.specs.BlankRule.{blank_at}
use Rattle.md_meaning.specs.Bytes.{is_end}
use Rattle.md_events.specs.Ahead.{HasWhite, begins_white, white_rest}
use Rattle.md_events.specs.Events.Nested.{enter, exit}
use Rattle.md_events.specs.Spaces.{is_current, sees_white, small_indent}
use Rattle.md_events.proofs.AheadLemmas.{small-some}
use Rattle.md_events.proofs.WhiteMeaning.{begins-seen, following_white, white-tried}
use Rattle.md_containers.proofs.ByteMeaning.{AsksFor, asked-some, asked-none}

-- what is left of the rule at some state
abbrev Left : Type 0
Left = List Cell → Here → Outcome

-- this is left at a state
abbrev Leaves : Behaviour → QuoteState → Left → Type 0
Leaves B state left = (cells : List Cell) (h : Here) → B (n.BlockQuote state) cells h ≡ left cells h

-- The start.

abbrev begun_here : Here → Here
begun_here h = record h { events = h.events ++ enter BlockQuote h.point ∷ [] }

pub quote-on : (options : ParseOptions) (cells : List Cell) (h : Here) → options.constructs.block_quote ≡ true →
    options.constructs.alerts ≡ false →
    quote_at options cells h ≡ prefix_at options cells (begun_here h)
unfolding quote_at
quote-on options cells h on plain = rw (on, plain) refl

pub quote-alerts : (options : ParseOptions) (cells : List Cell) (h : Here) → options.constructs.block_quote ≡ true →
    options.constructs.alerts ≡ true →
    quote_at options cells h ≡ opening_at options cells (begun_here h)
unfolding quote_at
quote-alerts options cells h on alerts = rw (on, alerts) refl

pub quote-off : (options : ParseOptions) (cells : List Cell) (h : Here) → options.constructs.block_quote ≡ false →
    quote_at options cells h ≡ Refuses h.scratch h.flags
unfolding quote_at
quote-off options cells h off = rw off refl

quote_start_means : (B : Behaviour) (feed : Feed) (w : World) (x y : Bool) → HasQuote B w.setting.options →
    w.setting.options.constructs.block_quote ≡ x → w.setting.options.constructs.alerts ≡ y →
    Steps B feed (Next (n.BlockQuote its.Start)) w (start_code w x y).to (start_code w x y).world
quote_start_means B feed w true true has e f =
    moves B feed _ _ w (start_code w true true).world (enter BlockQuote w.point ∷ []) refl refl
    (has.each its.Start _ _ ∙ quote-alerts _ (feed w.point) (here w) e f ∙ sym (has.each its.OpenStart _ _))
quote_start_means B feed w true false has e f =
    moves B feed _ _ w (start_code w true false).world (enter BlockQuote w.point ∷ []) refl refl
    (has.each its.Start _ _ ∙ quote-on _ (feed w.point) (here w) e f ∙ sym (has.each its.ContStart _ _))
quote_start_means B feed w false y has e f =
    passes B feed _ _ w w refl refl (has.each its.Start _ _ ∙ quote-off _ (feed w.point) (here w) e)

-- The indent.

indent-white : (next : Left) (options : ParseOptions) (cells : List Cell) (h : Here) → begins_white cells ≡ true →
    indent_at next options cells h ≡
    next (white_rest (small_indent options) cells) (following_white (small_indent options) cells h)
unfolding indent_at
indent-white next options cells h s = rw s refl

indent-none : (next : Left) (options : ParseOptions) (cells : List Cell) (h : Here) → begins_white cells ≡ false →
    indent_at next options cells h ≡ next cells h
unfolding indent_at
indent-none next options cells h s = rw s refl

indent_means : (B : Behaviour) (feed : Feed) (w : World) (x : Bool) (state following : QuoteState) (next : Left) →
    HasWhite B → Leaves B state (indent_at next w.setting.options) → Leaves B following next → Sees feed w →
    sees_white w.current ≡ x →
    Steps B feed (Next (n.BlockQuote state)) w (indent_code following w x).to (indent_code following w x).world
indent_means B feed w true state following next white is then s e =
    let f : Frame = frame_here (Next (n.BlockQuote following)) Nok false w in
    let some : begins_white (feed w.point) ≡ true = begins-seen feed w s ∙ e in
    begins_only B feed _ _ w (indent_code following w true).world f refl refl
    (is _ _ ∙ indent-white next _ (feed w.point) (here w) some ∙ sym (then _ _)
    ∙ white-tried B feed f w.events (feed w.point) (here w) 1 (small_indent w.setting.options) white some
    (small-some w.setting.options) (omega arith) refl)
indent_means B feed w false state following next white is then s e =
    passes B feed _ _ w w refl refl
    (is _ _ ∙ indent-none next _ (feed w.point) (here w) (begins-seen feed w s ∙ e) ∙ sym (then _ _))

-- The marker.

asks-marker : (next : Left) →
    AsksFor 62 (λ p q. enter BlockQuotePrefix p ∷ enter BlockQuoteMarker p ∷ exit BlockQuoteMarker q ∷ [])
    (at_marker next)
    (after_marker next)
unfolding at_marker
asks-marker next = record { none = λ h. refl; some = λ c cs h. refl }

-- three events, one after another
three : (events : List Event) (a b c : Event) → ((events ++ a ∷ []) ++ b ∷ []) ++ c ∷ [] ≡ events ++ a ∷ b ∷ c ∷ []
three events a b c = simp append_assoc

marker_means : (B : Behaviour) (feed : Feed) (w : World) (x : Bool) (state following : QuoteState) (next : Left) →
    Leaves B state (at_marker next) → Leaves B following (after_marker next) → Sees feed w →
    is_current 62 w.current ≡ x →
    Steps B feed (Next (n.BlockQuote state)) w (marker_code following w x).to (marker_code following w x).world
marker_means B feed w true state following next is then s e =
    asked-some B feed _ _ w (marker_code following w true).world (asks-marker next) is then s e refl
    (three w.events (enter BlockQuotePrefix w.point) (enter BlockQuoteMarker w.point)
    (exit BlockQuoteMarker (after w.setting w.point))) refl refl
marker_means B feed w false state following next is then s e = asked-none B feed _ w (asks-marker next) is s e

-- After the marker.

following-white : (next : Left) (feed : Feed) (w : World) (h : Here) (o : Option ℕ) → sees_white o ≡ true →
    after_marker next (ahead feed w o) h ≡
    next (feed (after w.setting w.point))
    (record h {
      events = h.events ++ enter SpaceOrTab h.point ∷ exit SpaceOrTab (after w.setting w.point) ∷ [];
      point = after w.setting w.point;
    })
unfolding after_marker
following-white next feed w h None e = cc
following-white next feed w h (Some b) e = rw e refl

following-none : (next : Left) (feed : Feed) (w : World) (h : Here) (o : Option ℕ) → sees_white o ≡ false →
    after_marker next (ahead feed w o) h ≡ next (ahead feed w o) h
unfolding after_marker
following-none next feed w h None e = refl
following-none next feed w h (Some b) e = rw e refl

column_means : (B : Behaviour) (feed : Feed) (w : World) (x : Bool) (state following : QuoteState) (next : Left) →
    Leaves B state (after_marker next) → Leaves B following next → Sees feed w → sees_white w.current ≡ x →
    Steps B feed (Next (n.BlockQuote state)) w (column_code following w x).to (column_code following w x).world
column_means B feed w true state following next is then s e =
    let q = after w.setting w.point in
    let a = enter SpaceOrTab w.point in
    let b = exit SpaceOrTab q in
    moves B feed _ _ w (column_code following w true).world (a ∷ b ∷ []) refl (append_assoc w.events (a ∷ []) (b ∷ []))
    (is _ _ ∙ ap (λ (x : List Cell). after_marker next x (here w)) s.next
    ∙ following-white next feed w (here w) w.current e
    ∙ ap (λ (es : List Event). next (feed q) (record (here w) { events = es; point = q }))
    (sym (append_assoc w.events (a ∷ []) (b ∷ [])))
    ∙ sym (then _ _))
column_means B feed w false state following next is then s e =
    passes B feed _ _ w w refl refl
    (is _ _ ∙ ap (λ (x : List Cell). after_marker next x (here w)) s.next
    ∙ following-none next feed w (here w) w.current e ∙ ap (λ (x : List Cell). next x (here w)) (sym s.next)
    ∙ sym (then _ _))

cont_after_means : (B : Behaviour) (options : ParseOptions) (feed : Feed) (w : World) (x : Bool) →
    HasQuote B options → Sees feed w → sees_white w.current ≡ x →
    Steps B feed (Next (n.BlockQuote its.ContAfter)) w (cont_after_code w x).to (cont_after_code w x).world
cont_after_means B options feed w true has s e =
    let q = after w.setting w.point in
    let a = enter SpaceOrTab w.point in
    let b = exit SpaceOrTab q in
    let c = exit BlockQuotePrefix q in
    moves B feed _ _ w (cont_after_code w true).world (a ∷ b ∷ c ∷ []) refl (three w.events a b c)
    (has.each its.ContAfter _ _ ∙ ap (λ (x : List Cell). after_marker prefix_ended x (here w)) s.next
    ∙ following-white prefix_ended feed w (here w) w.current e
    ∙ ap (λ (es : List Event). prefix_ended (feed q) (record (here w) { events = es; point = q }))
    (sym (append_assoc w.events (a ∷ []) (b ∷ []))))
cont_after_means B options feed w false has s e =
    moves B feed _ _ w (cont_after_code w false).world (exit BlockQuotePrefix w.point ∷ []) refl refl
    (has.each its.ContAfter _ _ ∙ ap (λ (x : List Cell). after_marker prefix_ended x (here w)) s.next
    ∙ following-none prefix_ended feed w (here w) w.current e
    ∙ ap (λ (x : List Cell). prefix_ended x (here w)) (sym s.next))

-- The marker of an alert.

-- what an attempt at it becomes
ended-resumed : (B : Behaviour) (options : ParseOptions) (feed : Feed) (w : World) (o : Outcome) → HasQuote B options →
    ended_by (feed w.point) (here w) o ≡
    resume B feed w.events
    (frame_here (Next (n.BlockQuote its.PrefixEnd)) (Next (n.BlockQuote its.PrefixEnd)) false w) o
ended-resumed B options feed w (Accepts k rest) has = sym (has.each its.PrefixEnd rest k)
ended-resumed B options feed w (Refuses s g) has =
    sym (proceeded-back B (Next (n.BlockQuote its.PrefixEnd)) feed w s g ∙ has.each its.PrefixEnd _ _)
ended-resumed B options feed w Fails has = refl

try_means : (B : Behaviour) (feed : Feed) (w : World) → HasQuote B w.setting.options →
    Steps B feed (Next (n.BlockQuote its.AlertTry)) w (try_code w).to (try_code w).world
try_means B feed w has =
    let f : Frame = frame_here (Next (n.BlockQuote its.PrefixEnd)) (Next (n.BlockQuote its.PrefixEnd)) false w in
    begins_only B feed _ _ w (try_code w).world f refl refl
    (has.each its.AlertTry _ _
    ∙ ended-resumed B _ feed w (alert_at w.setting.options (feed w.point) (here w)) has
    ∙ ap (resume B feed w.events f) (sym (has.each its.AlertStart _ _)))

asks-bracket : AsksFor 91 (λ p q. enter BlockQuoteMarker p ∷ []) alert_marker alert_mark
unfolding alert_marker
asks-bracket = record { none = λ h. refl; some = λ c cs h. refl }

alert_before_means : (B : Behaviour) (options : ParseOptions) (feed : Feed) (w : World) (x : Bool) →
    HasQuote B options → Sees feed w → is_current 91 w.current ≡ x →
    Steps B feed (Next (n.BlockQuote its.AlertBefore)) w (alert_before_code w x).to (alert_before_code w x).world
alert_before_means B options feed w true has s e =
    asked-some B feed _ _ w (alert_before_code w true).world asks-bracket (has.each its.AlertBefore)
    (has.each its.AlertMark) s e refl refl refl refl
alert_before_means B options feed w false has s e = asked-none B feed _ w asks-bracket (has.each its.AlertBefore) s e

asks-mark : AsksFor 33 (λ p q. []) alert_mark alert_letter
unfolding alert_mark
asks-mark = record {
  none = λ h. refl;
  some = λ c cs h.
      ap
      (λ (es : List Event).
      cond (nat_eq c.byte 33) (alert_letter cs (record h { events = es; point = c.after })) (Refuses h.scratch h.flags))
      (sym (append-nil h.events));
}

alert_mark_means : (B : Behaviour) (options : ParseOptions) (feed : Feed) (w : World) (x : Bool) →
    HasQuote B options → Sees feed w → is_current 33 w.current ≡ x →
    Steps B feed (Next (n.BlockQuote its.AlertMark)) w (alert_mark_code w x).to (alert_mark_code w x).world
alert_mark_means B options feed w true has s e =
    asked-some B feed _ _ w (alert_mark_code w true).world asks-mark (has.each its.AlertMark)
    (has.each its.AlertLetter) s e
    refl (sym (append-nil w.events)) refl refl
alert_mark_means B options feed w false has s e = asked-none B feed _ w asks-mark (has.each its.AlertMark) s e

-- The name of its kind.

letter-none : (h : Here) → alert_letter [] h ≡ Refuses h.scratch h.flags
unfolding alert_letter
letter-none h = refl

letter-other : (c : Cell) (cs : List Cell) (h : Here) → is_end (name_of (to_ascii_lowercase c.byte)) ≡ true →
    alert_letter (c ∷ cs) h ≡ Refuses h.scratch h.flags
unfolding alert_letter
letter-other c cs h e = rw e refl

letter-taken : (c : Cell) (cs : List Cell) (h : Here) → is_end (name_of (to_ascii_lowercase c.byte)) ≡ false →
    alert_letter (c ∷ cs) h ≡
    alert_name (drop 1 (name_of (to_ascii_lowercase c.byte))) cs
    (record h { point = c.after; scratch = naming (to_ascii_lowercase c.byte) 1 h.scratch })
unfolding alert_letter
letter-taken c cs h e = rw e refl

letter_means : (B : Behaviour) (options : ParseOptions) (feed : Feed) (w : World) (o : Option ℕ) →
    HasQuote B options → feed w.point ≡ ahead feed w o →
    Steps B feed (Next (n.BlockQuote its.AlertLetter)) w (letter_code w o).to (letter_code w o).world
letter_means B options feed w None has next =
    passes B feed _ Nok w w refl refl
    (has.each its.AlertLetter _ _ ∙ ap (λ (x : List Cell). alert_letter x (here w)) next ∙ letter-none (here w))
letter_means B options feed w (Some b) has next = go (is_end (name_of (to_ascii_lowercase b))) refl
  where
    go : (x : Bool) → is_end (name_of (to_ascii_lowercase b)) ≡ x →
        Steps B feed (Next (n.BlockQuote its.AlertLetter)) w (letter_code w (Some b)).to (letter_code w (Some b)).world
    go true e =
        rw e
        (passes B feed _ Nok w w refl refl
        (has.each its.AlertLetter _ _ ∙ ap (λ (x : List Cell). alert_letter x (here w)) next
        ∙ letter-other _ _ (here w) e))
    go false e =
        rw e
        (passes B feed _ (Next (n.BlockQuote its.AlertName)) w _ refl refl
        (has.each its.AlertLetter _ _ ∙ ap (λ (x : List Cell). alert_letter x (here w)) next
        ∙ letter-taken _ _ (here w) e ∙ sym (has.each its.AlertName _ _)))

name-none : (left : List ℕ) (h : Here) → alert_name left [] h ≡ no_name h
unfolding alert_name
name-none left h = refl

name-closed : (c : Cell) (cs : List Cell) (h : Here) → nat_eq c.byte 93 ≡ true →
    alert_name [] (c ∷ cs) h ≡
    blank_at cs
    (record h {
      events = h.events ++ exit BlockQuoteMarker c.after ∷ [];
      point = c.after;
      scratch = unnamed h.scratch;
    })
unfolding alert_name
name-closed c cs h e = rw e refl

name-open : (c : Cell) (cs : List Cell) (h : Here) → nat_eq c.byte 93 ≡ false → alert_name [] (c ∷ cs) h ≡ no_name h
unfolding alert_name
name-open c cs h e = rw e refl

name-taken : (b : ℕ) (left : List ℕ) (c : Cell) (cs : List Cell) (h : Here) →
    nat_eq (to_ascii_lowercase c.byte) b ≡ true →
    alert_name (b ∷ left) (c ∷ cs) h ≡
    alert_name left cs
    (record h { point = c.after; scratch = naming h.scratch.marker (h.scratch.size + 1) h.scratch })
unfolding alert_name
name-taken b left c cs h e = rw e refl

name-other : (b : ℕ) (left : List ℕ) (c : Cell) (cs : List Cell) (h : Here) →
    nat_eq (to_ascii_lowercase c.byte) b ≡ false →
    alert_name (b ∷ left) (c ∷ cs) h ≡ no_name h
unfolding alert_name
name-other b left c cs h e = rw e refl

-- what is left of a list, by what it has there
left-none : (xs : List ℕ) (k : ℕ) → slice_get xs k ≡ None → drop k xs ≡ []
left-none xs k e =
    elim (slice_get_cases xs k).1 [
      | inl some ↦ (let bad : Some some.0 ≡ None = sym some.2 ∙ e in cc)
      | inr none ↦ drop_all k xs none.0
    ]

left-some : (xs : List ℕ) (k x : ℕ) → slice_get xs k ≡ Some x → drop k xs ≡ x ∷ drop (k + 1) xs
left-some xs k x e =
    rw add-one
    (drop-cons xs k x (slice_get_within xs k x e)
    ∙ ap (λ (b : ℕ). b ∷ drop (suc k) xs) (get_or_from_slice_get xs k x x e))

name_means : (B : Behaviour) (options : ParseOptions) (feed : Feed) (w : World) (o : Option ℕ) → HasQuote B options →
    feed w.point ≡ ahead feed w o →
    Steps B feed (Next (n.BlockQuote its.AlertName)) w
    (name_code w (slice_get (name_of w.scratch.marker) w.scratch.size) o).to
    (name_code w (slice_get (name_of w.scratch.marker) w.scratch.size) o).world
name_means B options feed w o has next = go (slice_get name w.scratch.size) o next refl
  where
    name : List ℕ
    name = name_of w.scratch.marker

    q : Point
    q = after w.setting w.point

    k : Here
    k = record (here w) { point = q; scratch = naming w.scratch.marker (w.scratch.size + 1) w.scratch }

    at : (left : List ℕ) (o : Option ℕ) → feed w.point ≡ ahead feed w o → drop w.scratch.size name ≡ left →
        B (n.BlockQuote its.AlertName) (feed w.point) (here w) ≡ alert_name left (ahead feed w o) (here w)
    at left o next is = has.each its.AlertName _ _ ∙ rw (next, is) refl

    closes : (b : ℕ) (x : Bool) → feed w.point ≡ ahead feed w (Some b) → drop w.scratch.size name ≡ [] →
        nat_eq b 93 ≡ x →
        Steps B feed (Next (n.BlockQuote its.AlertName)) w (name_code w None (Some b)).to
        (name_code w None (Some b)).world
    closes b true next is e =
        rw e
        (moves B feed _ (Next (n.BlankLine blank_line.Start)) w _ (exit BlockQuoteMarker q ∷ []) refl refl
        (at [] (Some b) next is ∙ name-closed _ _ (here w) e ∙ sym (has.blank.each blank_line.Start _ _)))
    closes b false next is e =
        rw e (passes B feed _ Nok w _ refl refl (at [] (Some b) next is ∙ name-open _ _ (here w) e))

    letter : (b c : ℕ) (left : List ℕ) (x : Bool) → feed w.point ≡ ahead feed w (Some b) →
        drop w.scratch.size name ≡ c ∷ left → drop (w.scratch.size + 1) name ≡ left →
        nat_eq (to_ascii_lowercase b) c ≡ x →
        Steps B feed (Next (n.BlockQuote its.AlertName)) w (name_code w (Some c) (Some b)).to
        (name_code w (Some c) (Some b)).world
    letter b c left true next is more e =
        rw e
        (passes B feed _ (Next (n.BlockQuote its.AlertName)) w _ refl refl
        (at (c ∷ left) (Some b) next is ∙ name-taken c left _ _ (here w) e
        ∙ sym (has.each its.AlertName _ _ ∙ ap (λ (xs : List ℕ). alert_name xs (feed q) k) more)))
    letter b c left false next is more e =
        rw e (passes B feed _ Nok w _ refl refl (at (c ∷ left) (Some b) next is ∙ name-other c left _ _ (here w) e))

    go : (left : Option ℕ) (o : Option ℕ) → feed w.point ≡ ahead feed w o → slice_get name w.scratch.size ≡ left →
        Steps B feed (Next (n.BlockQuote its.AlertName)) w (name_code w left o).to (name_code w left o).world
    go left None next is =
        passes B feed _ Nok w (name_code w left None).world refl refl
        (at (drop w.scratch.size name) None next refl ∙ name-none (drop w.scratch.size name) (here w))
    go None (Some b) next is = closes b (nat_eq b 93) next (left-none name w.scratch.size is) refl
    go (Some c) (Some b) next is =
        letter b c (drop (w.scratch.size + 1) name) (nat_eq (to_ascii_lowercase b) c) next
        (left-some name w.scratch.size c is) refl refl

prefix_end_means : (B : Behaviour) (options : ParseOptions) (feed : Feed) (w : World) → HasQuote B options →
    Steps B feed (Next (n.BlockQuote its.PrefixEnd)) w (quote_transition its.PrefixEnd w).to
    (quote_transition its.PrefixEnd w).world
prefix_end_means B options feed w has =
    moves B feed _ _ w (quote_transition its.PrefixEnd w).world (exit BlockQuotePrefix w.point ∷ []) refl refl
    (has.each its.PrefixEnd _ _)

-- each state of the prefix of a quote takes one step of what it means
pub quote_means : (B : Behaviour) (feed : Feed) (state : QuoteState) (w : World) → HasQuote B w.setting.options →
    Sees feed w →
    Steps B feed (Next (n.BlockQuote state)) w (quote_transition state w).to (quote_transition state w).world
quote_means B feed its.Start w has s = quote_start_means B feed w _ _ has refl refl
quote_means B feed its.OpenStart w has s =
    indent_means B feed w _ its.OpenStart its.OpenBefore (at_marker (alert_or_end w.setting.options)) has.white
    (has.each its.OpenStart) (has.each its.OpenBefore) s refl
quote_means B feed its.OpenBefore w has s =
    marker_means B feed w _ its.OpenBefore its.OpenAfter (alert_or_end w.setting.options) (has.each its.OpenBefore)
    (has.each its.OpenAfter) s refl
quote_means B feed its.OpenAfter w has s =
    column_means B feed w _ its.OpenAfter its.AlertTry (alert_or_end w.setting.options) (has.each its.OpenAfter)
    (has.each its.AlertTry) s refl
quote_means B feed its.AlertTry w has s = try_means B feed w has
quote_means B feed its.AlertStart w has s =
    indent_means B feed w _ its.AlertStart its.AlertBefore alert_marker has.white (has.each its.AlertStart)
    (has.each its.AlertBefore) s refl
quote_means B feed its.AlertBefore w has s = alert_before_means B _ feed w _ has s refl
quote_means B feed its.AlertMark w has s = alert_mark_means B _ feed w _ has s refl
quote_means B feed its.AlertLetter w has s = letter_means B _ feed w w.current has s.next
quote_means B feed its.AlertName w has s = name_means B _ feed w w.current has s.next
quote_means B feed its.PrefixEnd w has s = prefix_end_means B _ feed w has
quote_means B feed its.ContStart w has s =
    indent_means B feed w _ its.ContStart its.ContBefore (at_marker prefix_ended) has.white (has.each its.ContStart)
    (has.each its.ContBefore) s refl
quote_means B feed its.ContBefore w has s =
    marker_means B feed w _ its.ContBefore its.ContAfter prefix_ended (has.each its.ContBefore)
    (has.each its.ContAfter) s
    refl
quote_means B feed its.ContAfter w has s = cont_after_means B _ feed w _ has s refl

-- what answers as the transition of a state does means what the state means
pub quote_rule : (state : QuoteState) (w new : World) (to : State) → to ≡ (quote_transition state w).to →
    new ≡ (quote_transition state w).world → QuoteMeans state w to new
unfolding QuoteMeans
quote_rule state w new to e k B feed has s = steps-as B feed _ _ to w _ new e k (quote_means B feed state w has s)
