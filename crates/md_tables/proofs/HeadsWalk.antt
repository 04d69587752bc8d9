-- The walk that puts heads in the places of their chunks.
use Rattle.std.proofs.Common.{◌≡◌, ℕ, zero, suc, ◌+◌, ◌<◌, ◌≤◌, Bool, true, false, cond, not, List, [], ◌∷◌, ◌++◌}
use Rattle.std.proofs.Common.{take, drop, get_or, length, refl, sym, ◌∙◌, ap, arith, append_assoc, append-nil, subst}
use Rattle.std.specs.List.{prefix_len}
use Rattle.std.proofs.lemmas.Bool.{and_right}
use Rattle.std.proofs.lemmas.List.Elements.{All-append, All-drop, All-nil, All-take}
use Rattle.md_engine.specs.declared.configuration.ParseOptions.{ParseOptions}
use Rattle.md_engine.specs.declared.event.Event.{Event}
use Rattle.md_engine.specs.Place.{IsPlaced}
use Rattle.md_events.specs.Parts.{ArePlaced}
use Rattle.md_events.specs.Rewritten.{given_of, held_of, left_of, written_of}
use Rattle.md_events.specs.declared.rewriting.Rewriting.{Rewriting}
use Rattle.md_tables.specs.Heads.{begins_chunk, begins_further_row, head_line, headed, is_head, meets_table, stops_look}

-- the first event passes where no head begins with it
pub headed-passes : (bytes : List ℕ) (options : ParseOptions) (e : Event) (es : List Event) → is_head (e ∷ es) ≡ false →
    headed bytes options (e ∷ es) ≡ e ∷ headed bytes options es
headed-passes bytes options e [] none = refl
headed-passes bytes options e (x ∷ es) none = rw none refl

-- a head takes the place of the begin and the end of its chunk
pub headed-begins : (bytes : List ℕ) (options : ParseOptions) (e x : Event) (es : List Event) →
    is_head (e ∷ x ∷ es) ≡ true →
    headed bytes options (e ∷ x ∷ es) ≡ head_line bytes options e.point x.point ++ headed bytes options es
headed-begins bytes options e x es is = rw is refl

-- one event more passes
headed-more : (bytes : List ℕ) (options : ParseOptions) (e : Event) (es : List Event) (m n : ℕ) → m ≡ 1 + n →
    is_head (e ∷ es) ≡ false → headed bytes options es ≡ take n es ++ headed bytes options (drop n es) →
    headed bytes options (e ∷ es) ≡ take m (e ∷ es) ++ headed bytes options (drop m (e ∷ es))
headed-more bytes options e es m n size none more =
    let one : suc n ≡ m = omega arith in headed-passes bytes options e es none
    ∙ ap (λ (l : List Event). e ∷ l) more
    ∙ ap (λ (k : ℕ). take k (e ∷ es) ++ headed bytes options (drop k (e ∷ es))) one

-- Up to the next line of text.

-- no head begins with an event that begins no line of text
pub not-head : (e : Event) (es : List Event) → begins_chunk e ≡ false → is_head (e ∷ es) ≡ false
not-head e [] none = refl
not-head e (x ∷ es) none = rw none refl

-- so all events before the next line of text pass
pub headed-run : (bytes : List ℕ) (options : ParseOptions) (es : List Event) →
    (let n = prefix_len (λ e. not (begins_chunk e)) es in
    headed bytes options es ≡ take n es ++ headed bytes options (drop n es))
headed-run bytes options [] = refl
headed-run bytes options (e ∷ es) = go (begins_chunk e) refl (headed-run bytes options es)
  where
    go : (x : Bool) → begins_chunk e ≡ x →
        (let n = prefix_len (λ e. not (begins_chunk e)) es in
        headed bytes options es ≡ take n es ++ headed bytes options (drop n es)) →
        (let n = cond (not x) (1 + prefix_len (λ e. not (begins_chunk e)) es) 0 in
        headed bytes options (e ∷ es) ≡ take n (e ∷ es) ++ headed bytes options (drop n (e ∷ es)))
    go true h k = refl
    go false h k = headed-more bytes options e es _ _ refl (not-head e es h) k

-- and so do events after one with which no head begins
pub headed-next : (bytes : List ℕ) (options : ParseOptions) (es : List Event) (n : ℕ) →
    0 < length es → is_head es ≡ false →
    headed bytes options (drop 1 es) ≡ take n (drop 1 es) ++ headed bytes options (drop n (drop 1 es)) →
    headed bytes options es ≡ take (1 + n) es ++ headed bytes options (drop (1 + n) es)
headed-next bytes options [] n some none more = absurd (omega (arith, some))
headed-next bytes options (e ∷ es) n some none more = headed-more bytes options e es (1 + n) n refl none more

-- Before the first further row.

-- a look stops at an event, or the events end before it, and no further row begins up to there
pub record Stops (es : List Event) (at : ℕ) (d : Event) : Type 0 where
  pub others : (k : ℕ) → k ≤ at → k < length es → begins_further_row (get_or es k d) ≡ false
  pub stop : at < length es → stops_look (get_or es at d) ≡ true

stops-following : (e : Event) (es : List Event) (at : ℕ) (d : Event) → Stops (e ∷ es) (suc at) d → Stops es at d
stops-following e es at d h = record {
  others = λ k le lt. h.others (suc k) (omega arith) (omega arith);
  stop = λ lt. h.stop (omega arith);
}

-- then a look from the first event finds none
meets-none : (es : List Event) (at : ℕ) (d : Event) → Stops es at d → meets_table es ≡ false
meets-none [] at d h = refl
meets-none (e ∷ es) at d h = go (stops_look e) refl at h (meets-none es)
  where
    go : (x : Bool) → stops_look e ≡ x → (at : ℕ) → Stops (e ∷ es) at d →
        ((at : ℕ) (d : Event) → Stops es at d → meets_table es ≡ false) → meets_table (e ∷ es) ≡ false
    go true k at h more = rw k (h.others 0 (omega arith) (omega arith))
    go false k zero h more = let stop : stops_look e ≡ true = h.stop (omega arith) in cc
    go false k (suc at) h more = rw k (more at d (stops-following e es at d h))

-- so a line of text is no head where both its begin and its end are before that event
stops-none : (e : Event) (es : List Event) (at : ℕ) (d : Event) → Stops es (suc at) d → is_head (e ∷ es) ≡ false
stops-none e [] at d h = refl
stops-none e (x ∷ es) at d h =
    and_right (begins_chunk e) (meets_table es) (meets-none es at d (stops-following x es at d h))

-- so all events pass but the one before that event
pub headed-before : (bytes : List ℕ) (options : ParseOptions) (es : List Event) (n : ℕ) (d : Event) →
    (0 < n → Stops es (suc n) d) → headed bytes options es ≡ take n es ++ headed bytes options (drop n es)
headed-before bytes options es zero d h = refl
headed-before bytes options [] (suc n) d h = refl
headed-before bytes options (e ∷ es) (suc n) d h =
    let following : Stops es (suc n) d = stops-following e es (suc n) d (h (omega arith)) in
    headed-more bytes options e es (suc n) n (omega arith) (stops-none e es n d following)
    (headed-before bytes options es n d (λ lt. following))

-- a head has two events
pub head-two : (es : List Event) → is_head es ≡ true → 1 < length es
head-two [] is = cc
head-two (e ∷ []) is = cc
head-two (e ∷ x ∷ es) is = omega arith

-- The walk.

-- what was given, and what is left with its heads put in, are all events with their heads
pub record Leads (bytes : List ℕ) (options : ParseOptions) (events : List Event) (all : Rewriting) : Type 0 where
  pub given : ArePlaced bytes (given_of all)
  pub left : ArePlaced bytes (left_of all)
  pub whole : given_of all ++ headed bytes options (left_of all) ≡ headed bytes options events

pub leads-first : (bytes : List ℕ) (options : ParseOptions) (events : List Event) (all : Rewriting) →
    left_of all ≡ events → held_of all ≡ [] → written_of all ≡ [] → ArePlaced bytes events →
    Leads bytes options events all
leads-first bytes options events all left held written placed =
    let none : given_of all ≡ [] = ap (λ (l : List Event). l ++ held_of all) written ∙ held in
    record {
      given = subst (ArePlaced bytes) (sym none) (All-nil (λ (e : Event). IsPlaced bytes e.point));
      left = subst (ArePlaced bytes) (sym left) placed;
      whole = ap (λ (l : List Event). l ++ headed bytes options (left_of all)) none ∙ ap (headed bytes options) left;
    }

-- after events that pass, and are held
pub leads-held : (bytes : List ℕ) (options : ParseOptions) (events : List Event) (old new : Rewriting) (n : ℕ) →
    left_of new ≡ drop n (left_of old) → held_of new ≡ held_of old ++ take n (left_of old) →
    written_of new ≡ written_of old →
    headed bytes options (left_of old) ≡ take n (left_of old) ++ headed bytes options (drop n (left_of old)) →
    Leads bytes options events old → Leads bytes options events new
leads-held bytes options events old new n left held written passed h =
    let rest : List Event = left_of old in
    let given : given_of new ≡ given_of old ++ take n rest = ap (λ (l : List Event). l ++ held_of new) written
    ∙ ap (λ (l : List Event). written_of old ++ l) held
    ∙ sym (append_assoc (written_of old) (held_of old) (take n rest)) in
    record {
      given = subst (ArePlaced bytes) (sym given)
          (All-append (λ (e : Event). IsPlaced bytes e.point) (given_of old) (take n rest) h.given
          (All-take (λ (e : Event). IsPlaced bytes e.point) n rest h.left));
      left = subst (ArePlaced bytes) (sym left) (All-drop (λ (e : Event). IsPlaced bytes e.point) n rest h.left);
      whole = ap (λ (l : List Event). l ++ headed bytes options (left_of new)) given
          ∙ ap (λ (l : List Event). (given_of old ++ take n rest) ++ headed bytes options l) left
          ∙ append_assoc (given_of old) (take n rest) (headed bytes options (drop n rest))
          ∙ ap (λ (l : List Event). given_of old ++ l) (sym passed) ∙ h.whole;
    }

-- a head takes the place of the first two events
headed-two : (bytes : List ℕ) (options : ParseOptions) (es : List Event) (e d : Event) → es ≡ e ∷ drop 1 es →
    is_head es ≡ true →
    headed bytes options es ≡ head_line bytes options e.point (get_or es 1 d).point ++ headed bytes options (drop 2 es)
headed-two bytes options [] e d first is = cc
headed-two bytes options (y ∷ []) e d first is = cc
headed-two bytes options (y ∷ x ∷ es) e d first is =
    let same : y ≡ e = cc in
    headed-begins bytes options y x es is
    ∙ ap (λ (z : Event). head_line bytes options z.point x.point ++ headed bytes options es) same

-- after a head
pub leads-headed : (bytes : List ℕ) (options : ParseOptions) (events : List Event) (old new : Rewriting)
    (head : List Event) (e d : Event) → left_of old ≡ e ∷ drop 1 (left_of old) → is_head (left_of old) ≡ true →
    left_of new ≡ drop 2 (left_of old) → held_of new ≡ [] → written_of new ≡ given_of old ++ head →
    head ≡ head_line bytes options e.point (get_or (left_of old) 1 d).point → ArePlaced bytes head →
    Leads bytes options events old → Leads bytes options events new
leads-headed bytes options events old new head e d first is left held written read placed h =
    let rest : List Event = left_of old in
    let given : given_of new ≡ given_of old ++ head = ap (λ (l : List Event). written_of new ++ l) held
    ∙ append-nil (written_of new) ∙ written in
    record {
      given = subst (ArePlaced bytes) (sym given)
          (All-append (λ (e : Event). IsPlaced bytes e.point) (given_of old) head h.given placed);
      left = subst (ArePlaced bytes) (sym left) (All-drop (λ (e : Event). IsPlaced bytes e.point) 2 rest h.left);
      whole = ap (λ (l : List Event). l ++ headed bytes options (left_of new)) given
          ∙ ap (λ (l : List Event). (given_of old ++ head) ++ headed bytes options l) left
          ∙ append_assoc (given_of old) head (headed bytes options (drop 2 rest))
          ∙ ap (λ (l : List Event). given_of old ++ (l ++ headed bytes options (drop 2 rest))) read
          ∙ ap (λ (l : List Event). given_of old ++ l) (sym (headed-two bytes options rest e d first is)) ∙ h.whole;
    }

-- where nothing is left
pub leads-all : (bytes : List ℕ) (options : ParseOptions) (events : List Event) (all : Rewriting) → left_of all ≡ [] →
    Leads bytes options events all → given_of all ≡ headed bytes options events
leads-all bytes options events all none h =
    sym (append-nil (given_of all))
    ∙ ap (λ (l : List Event). given_of all ++ headed bytes options l) (sym none) ∙ h.whole
