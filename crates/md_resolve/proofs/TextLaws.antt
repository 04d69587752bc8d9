-- The text of an ATX heading, as the counts of the walks over its events set it.
use Rattle.std.proofs.Common.{◌≡◌, ◌<◌, ◌≤◌, ◌+◌, ◌-◌, ℕ, zero, suc, Bool, true, false, cond, not, ◌&&◌, ◌||◌, List, []}
use Rattle.std.proofs.Common.{◌∷◌, ◌++◌, Option, Some, None, drop, take, length, get_or, refl, ap, ap₂, sym, ◌∙◌, subst}
use Rattle.std.proofs.Common.{arith, add-one, add-zero, length-drop, append_assoc, append-nil, drop-cons, drop-drop}
use Rattle.std.proofs.Common.{get_or-drop, length-take-le, take-add, take-append-drop, take-take}
use Rattle.std.specs.List.{All, prefix_len}
use Rattle.std.proofs.lemmas.List.{drop-take, drop_all, get_or-take, take_all}
use Rattle.std.proofs.lemmas.List.Elements.{All-cons, All-drop, All-head, All-nil, All-tail}
use Rattle.md_engine.specs.declared.event.Event.{Event}
use Rattle.md_engine.specs.declared.event.Kind.{Kind}
use Rattle.md_engine.specs.declared.event.Kind.TheVariants.{Enter, Exit}
use Rattle.md_engine.specs.declared.event.Name.{Name}
use Rattle.md_engine.specs.declared.event.Name.TheVariants.{HeadingAtxSequence}
use Rattle.md_engine.specs.declared.event.Point.{Point}
use Rattle.md_leaves.specs.HeadingText.{Before, Opened, Outside, Place, Within, begins, ends, headings_resolved}
use Rattle.md_leaves.specs.HeadingText.{is_heading, is_run, is_sequence, resolved, text_between}
use Rattle.md_order.specs.Left.{heading_len}
use Rattle.md_order.proofs.HeadStep.{heading-more, one-more}
use Rattle.md_events.specs.Events.Nested.{is_enter, is_exit}
use Rattle.md_events.specs.Events.Tiles.{is_data}
use Rattle.md_events.specs.Rewritten.{IsFirst}
use Rattle.md_resolve.specs.Texted.{IsInside, IsLastRun, begun, last_point, point_at, texted}

-- Names.

run-parts : (kind : Kind) (name : Name) → (is_enter kind && is_run name) ≡ true →
    ((is_exit kind && is_data name) ≡ false) × ((is_exit kind && is_sequence name) ≡ false)
    × ((is_exit kind && is_heading name) ≡ false)
run-parts Enter name h = (refl, refl, refl)
run-parts Exit name h = absurd (let bad : false ≡ true = h in cc)

heading-parts : (kind : Kind) (name : Name) → (is_enter kind && is_heading name) ≡ true →
    ((is_exit kind && is_sequence name) ≡ false) × ((is_exit kind && is_heading name) ≡ false)
heading-parts Enter name h = (refl, refl)
heading-parts Exit name h = absurd (let bad : false ≡ true = h in cc)

end-begins : (kind : Kind) (name : Name) → (is_exit kind && is_sequence name) ≡ true →
    (is_enter kind && is_run name) ≡ false
end-begins Exit name h = refl
end-begins Enter name h = absurd (let bad : false ≡ true = h in cc)

-- Up to the text.

abbrev no_sequence : Event → Bool
no_sequence e = not (ends is_sequence e)

abbrev pub no_run : Event → Bool
no_run e = not (begins is_run e)

opening-set : (es : List Event) → All IsInside es →
    resolved Before es ≡ take (prefix_len no_sequence es) es ++ resolved Opened (drop (prefix_len no_sequence es) es)
opening-set [] h = refl
opening-set (e ∷ es) h = go (ends is_sequence e) refl (opening-set es (All-tail IsInside e es h))
  where
    k : ℕ
    k = prefix_len no_sequence es

    inside : ends is_heading e ≡ false
    inside = All-head IsInside e es h

    go : (x : Bool) → ends is_sequence e ≡ x → resolved Before es ≡ take k es ++ resolved Opened (drop k es) →
        e ∷ resolved (cond x Opened (cond (ends is_heading e) Outside Before)) es
        ≡ take (cond (not x) (1 + k) 0) (e ∷ es) ++ resolved Opened (drop (cond (not x) (1 + k) 0) (e ∷ es))
    go true is more = rw (end-begins e.kind e.name is, inside) refl
    go false is more =
        rw inside
        (ap (λ (l : List Event). e ∷ l) more
        ∙ ap (λ (m : ℕ). take m (e ∷ es) ++ resolved Opened (drop m (e ∷ es))) (one-more k))

run-set : (es : List Event) → All IsInside es →
    resolved Opened es ≡ take (prefix_len no_run es) es ++ begun (drop (prefix_len no_run es) es)
run-set [] h = refl
run-set (e ∷ es) h = go (begins is_run e) refl (run-set es (All-tail IsInside e es h))
  where
    k : ℕ
    k = prefix_len no_run es

    inner : Place
    inner = Within e.point None None [] (e ∷ [])

    go : (x : Bool) → begins is_run e ≡ x → resolved Opened es ≡ take k es ++ begun (drop k es) →
        cond x (resolved inner es) (e ∷ resolved (cond (ends is_heading e) Outside Opened) es)
        ≡ take (cond (not x) (1 + k) 0) (e ∷ es) ++ begun (drop (cond (not x) (1 + k) 0) (e ∷ es))
    go true is more = let parts = run-parts e.kind e.name is in rw (parts.0, parts.1, parts.2) refl
    go false is more =
        ap (λ (x : Bool). e ∷ resolved (cond x Outside Opened) es) (All-head IsInside e es h)
        ∙ ap (λ (l : List Event). e ∷ l) more
        ∙ ap (λ (m : ℕ). take m (e ∷ es) ++ begun (drop m (e ∷ es))) (one-more k)

pub front-set : (es : List Event) (a b : ℕ) → All IsInside es → a ≡ prefix_len no_sequence es →
    b ≡ prefix_len no_run (drop a es) → resolved Before es ≡ take (a + b) es ++ begun (drop (a + b) es)
front-set es a b h a_is b_is =
    opening-set es h ∙ ap (λ (m : ℕ). take m es ++ resolved Opened (drop m es)) (sym a_is)
    ∙ ap (λ (l : List Event). take a es ++ l)
    (run-set (drop a es) (All-drop IsInside a es h)
    ∙ ap (λ (m : ℕ). take m (drop a es) ++ begun (drop m (drop a es))) (sym b_is))
    ∙ sym (append_assoc (take a es) (take b (drop a es)) (begun (drop b (drop a es))))
    ∙ ap₂ (λ (x y : List Event). x ++ begun y) (sym (take-add a b es)) (drop-drop b a es)

-- How long the text is: what is held after it, where a walk has gone over so many events.
pub record IsTexted (at text last : ℕ) (es : List Event) : Type 0 where
  pub closing : List Event
  pub since : List Event
  pub set : (first : Point) →
      resolved (Within first None None [] []) es
      ≡ resolved (Within first (last_point text es) (last_point last es) closing since) (drop at es)
  pub after_text : closing ++ since ++ drop at es ≡ drop text es
  pub after_last : since ++ drop at es ≡ drop last es
  pub within : (text ≤ length es) × (last ≤ length es)

pub texted-none : (es : List Event) → IsTexted 0 0 0 es
texted-none es = record {
  closing = [];
  since = [];
  set = λ first. refl;
  after_text = refl;
  after_last = refl;
  within = (omega arith, omega arith);
}

point-is : (n : ℕ) (es : List Event) (d : Event) → n < length es → point_at n es ≡ Some (get_or es n d).point
point-is n [] d h = absurd (omega (arith, h))
point-is zero (e ∷ es) d h = refl
point-is (suc n) (e ∷ es) d h = point-is n es d (omega (arith, h))

last-is : (n : ℕ) (es : List Event) (d : Event) → n < length es → last_point (n + 1) es ≡ Some (get_or es n d).point
last-is n es d h = ap (λ (m : ℕ). last_point m es) (add-one n) ∙ point-is n es d h

front-of : (es : List Event) (n : ℕ) (d : Event) → n < length es → drop n es ≡ get_or es n d ∷ drop (n + 1) es
front-of es n d inside =
    drop-cons es n d inside ∙ ap (λ (m : ℕ). get_or es n d ∷ drop m es) (sym (add-one n))

-- one event more
pub texted-data : (at text last : ℕ) (es : List Event) (d : Event) → at < length es →
    ends is_data (get_or es at d) ≡ true → IsTexted at text last es → IsTexted (at + 1) (at + 1) (at + 1) es
texted-data at text last es d here is h = record {
  closing = [];
  since = [];
  set = λ first.
      h.set first
      ∙ ap (resolved (Within first (last_point text es) (last_point last es) h.closing h.since)) (front-of es at d here)
      ∙ one first (get_or es at d) (drop (at + 1) es) is
      ∙ ap (λ (o : Option Point). resolved (Within first o o [] []) (drop (at + 1) es)) (sym (last-is at es d here));
  after_text = refl;
  after_last = refl;
  within = (omega (arith, here), omega (arith, here));
}
  where
    one : (first : Point) (e : Event) (rest : List Event) → ends is_data e ≡ true →
        resolved (Within first (last_point text es) (last_point last es) h.closing h.since) (e ∷ rest)
        ≡ resolved (Within first (Some e.point) (Some e.point) [] []) rest
    one first e rest k = rw k refl

-- what is held, with it
held-more : (xs rest zs : List Event) (e : Event) → xs ++ e ∷ rest ≡ zs → (xs ++ e ∷ []) ++ rest ≡ zs
held-more xs rest zs e h = append_assoc xs (e ∷ []) rest ∙ h

pub texted-run : (at text last : ℕ) (es : List Event) (d : Event) → at < length es →
    ends is_data (get_or es at d) ≡ false → ends is_sequence (get_or es at d) ≡ true → IsTexted at text last es →
    IsTexted (at + 1) last (at + 1) es
texted-run at text last es d here no_text is h = record {
  closing = h.since ++ e ∷ [];
  since = [];
  set = λ first.
      h.set first ∙ ap (resolved (Within first (last_point text es) (last_point last es) h.closing h.since)) front
      ∙ one first e rest no_text is
      ∙ ap (λ (o : Option Point). resolved (Within first (last_point last es) o (h.since ++ e ∷ []) []) rest)
      (sym (last-is at es d here));
  after_text =
      ap (λ (l : List Event). l ++ rest) (append-nil (h.since ++ e ∷ []))
      ∙ held-more h.since rest (drop last es) e (ap (λ (l : List Event). h.since ++ l) (sym front) ∙ h.after_last);
  after_last = refl;
  within = (h.within.1, omega (arith, here));
}
  where
    e : Event
    e = get_or es at d

    rest : List Event
    rest = drop (at + 1) es

    front : drop at es ≡ e ∷ rest
    front = front-of es at d here

    one : (first : Point) (e : Event) (rest : List Event) → ends is_data e ≡ false → ends is_sequence e ≡ true →
        resolved (Within first (last_point text es) (last_point last es) h.closing h.since) (e ∷ rest)
        ≡ resolved (Within first (last_point last es) (Some e.point) (h.since ++ e ∷ []) []) rest
    one first e rest j k = rw (j, k) refl

pub texted-other : (at text last : ℕ) (es : List Event) (d : Event) → at < length es →
    ends is_data (get_or es at d) ≡ false → ends is_sequence (get_or es at d) ≡ false → IsInside (get_or es at d) →
    IsTexted at text last es → IsTexted (at + 1) text last es
texted-other at text last es d here no_text no_run inside h = record {
  closing = h.closing;
  since = h.since ++ e ∷ [];
  set = λ first.
      h.set first ∙ ap (resolved (Within first (last_point text es) (last_point last es) h.closing h.since)) front
      ∙ one first e rest no_text no_run inside;
  after_text =
      ap (λ (l : List Event). l ++ rest) (sym (append_assoc h.closing h.since (e ∷ [])))
      ∙ held-more (h.closing ++ h.since) rest (drop text es) e
      (ap (λ (l : List Event). h.closing ++ h.since ++ l) (sym front) ∙ h.after_text);
  after_last =
      held-more h.since rest (drop last es) e (ap (λ (l : List Event). h.since ++ l) (sym front) ∙ h.after_last);
  within = h.within;
}
  where
    e : Event
    e = get_or es at d

    rest : List Event
    rest = drop (at + 1) es

    front : drop at es ≡ e ∷ rest
    front = front-of es at d here

    one : (first : Point) (e : Event) (rest : List Event) → ends is_data e ≡ false → ends is_sequence e ≡ false →
        ends is_heading e ≡ false →
        resolved (Within first (last_point text es) (last_point last es) h.closing h.since) (e ∷ rest)
        ≡ resolved (Within first (last_point text es) (last_point last es) h.closing (h.since ++ e ∷ [])) rest
    one first e rest i j k = rw (i, j, k) refl

-- The text from the end: no run ends after the last.

no-run : (kind : Kind) (name : Name) → (is_exit kind && is_run name) ≡ false →
    ((is_exit kind && is_data name) ≡ false) × ((is_exit kind && is_sequence name) ≡ false)
no-run Enter name h = (refl, refl)
no-run Exit name h = go (is_data name) (is_sequence name) h
  where
    go : (x y : Bool) → (x || y) ≡ false → (x ≡ false) × (y ≡ false)
    go false false e = (refl, refl)
    go false true e = cc
    go true y e = cc

run-data : (kind : Kind) (name : Name) → (is_exit kind && is_run name) ≡ true →
    (is_exit kind && is_sequence name) ≡ false → (is_exit kind && is_data name) ≡ true
run-data Enter name h k = cc
run-data Exit name h k = go (is_data name) (is_sequence name) h k
  where
    go : (x y : Bool) → (x || y) ≡ true → y ≡ false → x ≡ true
    go true y e f = refl
    go false true e f = cc
    go false false e f = cc

-- the name of a run of `#` is not that of text
sequence-only : (name : Name) → is_sequence name ≡ true → is_data name ≡ false
sequence-only HeadingAtxSequence h = refl
sequence-only _ h = cc

run-sequence : (kind : Kind) (name : Name) → (is_exit kind && is_sequence name) ≡ true →
    (is_exit kind && is_data name) ≡ false
run-sequence Enter name h = cc
run-sequence Exit name h = sequence-only name h

run-end : (kind : Kind) (name : Name) → (is_exit kind && is_run name) ≡ true → (is_exit kind && is_data name) ≡ false →
    (is_exit kind && is_sequence name) ≡ true
run-end Enter name h k = cc
run-end Exit name h k = go (is_data name) (is_sequence name) h k
  where
    go : (x y : Bool) → (x || y) ≡ true → x ≡ false → y ≡ true
    go true y e f = cc
    go false true e f = refl
    go false false e f = cc

before-next : (i : ℕ) → suc i - 1 ≡ i
before-next i = omega arith

-- a walk over so many events
abbrev Walked : ℕ → List Event → Type 0
Walked at es = (text : ℕ) × ((last : ℕ) × IsTexted at text last es)

walked : (at : ℕ) (es : List Event) (d : Event) → at ≤ length es → All IsInside es → Walked at es
walked zero es d le inside = (0, (0, texted-none es))
walked (suc at) es d le inside = go (ends is_data e) (ends is_sequence e) refl refl
    (walked at es d (omega (arith, le)) inside)
  where
    e : Event
    e = get_or es at d

    lt : at < length es
    lt = omega (arith, le)

    go : (x y : Bool) → ends is_data e ≡ x → ends is_sequence e ≡ y → Walked at es → Walked (suc at) es
    go true y p q w = (
      at + 1,
      (
        at + 1,
        subst (λ (m : ℕ). IsTexted m (at + 1) (at + 1) es) (add-one at)
            (texted-data at w.0 w.1.0 es d lt p w.1.1),
      ),
    )
    go false true p q w = (
      w.1.0,
      (
        at + 1,
        subst (λ (m : ℕ). IsTexted m w.1.0 (at + 1) es) (add-one at)
            (texted-run at w.0 w.1.0 es d lt p q w.1.1),
      ),
    )
    go false false p q w = (
      w.0,
      (
        w.1.0,
        subst (λ (m : ℕ). IsTexted m w.0 w.1.0 es) (add-one at)
            (texted-other at w.0 w.1.0 es d lt p q (inside at d lt) w.1.1),
      ),
    )

-- and over more, among which no run ends
walked-on : (more at text last : ℕ) (es : List Event) (d : Event) → at + more ≤ length es → All IsInside es →
    ((k : ℕ) → at ≤ k → k < at + more → ends is_run (get_or es k d) ≡ false) → IsTexted at text last es →
    IsTexted (at + more) text last es
walked-on zero at text last es d le inside none h = rw add-zero h
walked-on (suc more) at text last es d le inside none h =
    let before = walked-on more at text last es d (omega (arith, le)) inside
    (λ k low lt. none k low (omega (arith, lt))) h in
    let lt : at + more < length es = omega (arith, le) in
    let no = no-run (get_or es (at + more) d).kind (get_or es (at + more) d).name
    (none (at + more) (omega arith) (omega arith)) in
    let same : at + more + 1 ≡ at + suc more = omega arith in
    subst (λ (m : ℕ). IsTexted m text last es) same
    (texted-other (at + more) text last es d lt no.0 no.1 (inside (at + more) d lt) before)

-- the last run of the first of them
lastly : (j m : ℕ) (es : List Event) (d : Event) → j ≤ length es → All IsInside es → m ≤ j →
    (0 < m → ends is_run (get_or es (m - 1) d) ≡ true) →
    ((k : ℕ) → m ≤ k → k < j → ends is_run (get_or es k d) ≡ false) → (text : ℕ) × IsTexted j text m es
lastly j zero es d le inside low is none =
    let same : 0 + j ≡ j = omega arith in (
      0,
      subst (λ (m : ℕ). IsTexted m 0 0 es) same
          (walked-on j 0 0 0 es d (omega (arith, le)) inside (λ k a b. none k a (omega (arith, b))) (texted-none es)),
    )
lastly j (suc i) es d le inside low is none =
    go (ends is_data e) refl (walked i es d (omega (arith, le, low)) inside)
  where
    e : Event
    e = get_or es i d

    lt : i < length es
    lt = omega (arith, le, low)

    on : (text : ℕ) → IsTexted (i + 1) text (i + 1) es → (text : ℕ) × IsTexted j text (suc i) es
    on text h =
        let same : i + 1 + (j - (i + 1)) ≡ j = omega (arith, low) in (
          text,
          subst (λ (m : ℕ). IsTexted j text m es) (add-one i) (subst (λ (m : ℕ). IsTexted m text (i + 1) es) same
              (walked-on (j - (i + 1)) (i + 1) text (i + 1) es d (omega (arith, le, low)) inside
              (λ k a b. none k (omega (arith, a)) (omega (arith, b, low))) h)),
        )

    ends-at : ends is_run (get_or es (suc i - 1) d) ≡ true → ends is_run e ≡ true
    ends-at h = subst (λ (k : ℕ). ends is_run (get_or es k d) ≡ true) (before-next i) h

    go : (x : Bool) → ends is_data e ≡ x → Walked i es → (text : ℕ) × IsTexted j text (suc i) es
    go true p w = on (i + 1) (texted-data i w.0 w.1.0 es d lt p w.1.1)
    go false p w =
        on w.1.0 (texted-run i w.0 w.1.0 es d lt p (run-end e.kind e.name (ends-at (is (omega arith))) p) w.1.1)

-- all of the events
texted-all : (text last : ℕ) (es : List Event) → IsTexted (length es) text last es → (first : Point) →
    resolved (Within first None None [] []) es ≡ texted first text es
texted-all text last es h first =
    h.set first
    ∙ ap (resolved (Within first (last_point text es) (last_point last es) h.closing h.since)) none
    ∙ append_assoc (text_between first (last_point text es)) h.closing h.since
    ∙ ap (λ (l : List Event). text_between first (last_point text es) ++ l)
    (sym (append-nil (h.closing ++ h.since)) ∙ ap (λ (l : List Event). h.closing ++ h.since ++ l) (sym none)
    ∙ h.after_text)
  where
    none : drop (length es) es ≡ []
    none = drop_all (length es) es (omega arith)

-- what is said of the events after the last run, by their indices
following-last : (n : ℕ) (es : List Event) (d : Event) → IsLastRun n es → (k : ℕ) → n ≤ k → k < length es →
    ends is_run (get_or es k d) ≡ false
following-last n es d h k low lt =
    let size = length-drop n es in
    let here = h.following (k - n) d (omega (arith, size, low, lt)) in
    let same : n + (k - n) ≡ k = omega (arith, low) in
    rw same at (rw (get_or-drop n es (k - n) d) at here)

-- the last run is of text, or there is none
pub text-last : (n : ℕ) (es : List Event) (d : Event) → All IsInside es → IsLastRun n es →
    (0 < n → ends is_sequence (get_or es (n - 1) d) ≡ false) → (first : Point) →
    resolved (Within first None None [] []) es ≡ texted first n es
text-last zero es d inside h is first =
    let same : 0 + length es ≡ length es = omega arith in
    texted-all 0 0 es
    (subst (λ (m : ℕ). IsTexted m 0 0 es) same
    (walked-on (length es) 0 0 0 es d (omega arith) inside
    (λ k a b. following-last 0 es d h k a (omega (arith, b))) (texted-none es))) first
text-last (suc i) es d inside h is first =
    let lt : i < length es = omega (arith, h.within) in
    let e = get_or es i d in
    let run : ends is_run e ≡ true =
    subst (λ (k : ℕ). ends is_run (get_or es k d) ≡ true) (before-next i) (h.is_end (omega arith) d) in
    let other : ends is_sequence e ≡ false =
    subst (λ (k : ℕ). ends is_sequence (get_or es k d) ≡ false) (before-next i) (is (omega arith)) in
    let yes = run-data e.kind e.name run other in
    let w = walked i es d (omega (arith, lt)) inside in
    let one : IsTexted (i + 1) (i + 1) (i + 1) es = texted-data i w.0 w.1.0 es d lt yes w.1.1 in
    let same : i + 1 + (length es - (i + 1)) ≡ length es = omega (arith, lt) in
    subst (λ (m : ℕ). resolved (Within first None None [] []) es ≡ texted first m es) (add-one i)
    (texted-all (i + 1) (i + 1) es
    (subst (λ (m : ℕ). IsTexted m (i + 1) (i + 1) es) same
    (walked-on (length es - (i + 1)) (i + 1) (i + 1) (i + 1) es d (omega (arith, lt)) inside
    (λ k a b. following-last (suc i) es d h k (omega (arith, a)) (omega (arith, b, lt))) one)) first)

-- or it is of `#`, and the text ends with the one before
text-following : (i m : ℕ) (es : List Event) (d : Event) → All IsInside es → IsLastRun (suc i) es →
    ends is_sequence (get_or es i d) ≡ true → IsLastRun m (take i es) → (first : Point) →
    resolved (Within first None None [] []) es ≡ texted first m es
text-following i m es d inside h is before first =
    texted-all m (i + 1) es
    (subst (λ (k : ℕ). IsTexted k m (i + 1) es) same
    (walked-on (length es - (i + 1)) (i + 1) m (i + 1) es d (omega (arith, lt)) inside
    (λ k a b. following-last (suc i) es d h k (omega (arith, a)) (omega (arith, b, lt)))
    (texted-run i w.0 m es d lt (run-sequence e.kind e.name is) is w.1))) first
  where
    e : Event
    e = get_or es i d

    lt : i < length es
    lt = let all = h.within in omega (arith, all)

    same : i + 1 + (length es - (i + 1)) ≡ length es
    same = omega (arith, lt)

    size : length (take i es) ≡ i
    size = length-take-le i es (omega (arith, lt))

    low : m ≤ i
    low = let all = before.within in omega (arith, all, size)

    w : (text : ℕ) × IsTexted i text m es
    w =
        lastly i m es d (omega (arith, lt)) inside low
        (λ pos. rw (get_or-take i es (m - 1) d (omega (arith, low, pos))) at (before.is_end pos d))
        (λ k a b. rw (get_or-take i es k d b) at
        (following-last m (take i es) d before k a (omega (arith, size, b))))

pub text-before : (n m : ℕ) (es : List Event) (d : Event) → All IsInside es → IsLastRun n es → 0 < n →
    ends is_sequence (get_or es (n - 1) d) ≡ true → IsLastRun m (take (n - 1) es) → (first : Point) →
    resolved (Within first None None [] []) es ≡ texted first m es
text-before zero m es d inside h some is before first = absurd (omega (arith, some))
text-before (suc i) m es d inside h some is before first =
    text-following i m es d inside h
    (subst (λ (k : ℕ). ends is_sequence (get_or es k d) ≡ true) (before-next i) is)
    (subst (λ (k : ℕ). IsLastRun m (take k es)) (before-next i) before) first

-- The whole heading.

-- no heading ends before its end
pub heading-inside : (es : List Event) → All IsInside (take (heading_len es) es)
heading-inside [] = All-nil IsInside
heading-inside (e ∷ es) = go (ends is_heading e) refl (heading-inside es)
  where
    go : (x : Bool) → ends is_heading e ≡ x → All IsInside (take (heading_len es) es) →
        All IsInside (take (cond (not x) (1 + heading_len es) 0) (e ∷ es))
    go true is more = All-nil IsInside
    go false is more =
        subst (λ (m : ℕ). All IsInside (take m (e ∷ es))) (one-more (heading_len es))
        (All-cons IsInside e (take (heading_len es) es) is more)

-- it begins with its begin
before-set : (e : Event) (left : List Event) → IsFirst e left → begins is_heading e ≡ true →
    headings_resolved (take (heading_len left) left) ≡ resolved Before (take (heading_len left) left)
before-set e left first h =
    let es : List Event = drop 1 left in
    let parts = heading-parts e.kind e.name h in
    let IsSet : ℕ → Type 0 = λ m. headings_resolved (take m (e ∷ es)) ≡ resolved Before (take m (e ∷ es)) in
    subst (λ (l : List Event). headings_resolved (take (heading_len l) l) ≡ resolved Before (take (heading_len l) l))
    (sym first) (subst IsSet (sym (heading-more e es h)) (rw (h, parts.0, parts.1) refl))

begun-set : (n : ℕ) (es : List Event) (d : Event) →
    ((first : Point) → resolved (Within first None None [] []) es ≡ texted first n es) →
    begun es ≡ texted (get_or es 0 d).point n es
begun-set n [] d h = h (get_or [] 0 d).point
begun-set n (e ∷ es) d h = h e.point

-- a slice from an index on
pub slice-from : (n : ℕ) (es : List Event) → take (length es - n) (drop n es) ≡ drop n es
slice-from n es = take_all (length es - n) (drop n es) (omega (arith, length-drop n es))

-- so many events come before the end, so many of them before the text, and so many are of that
pub record IsFound (e : Event) (left es : List Event) (many a n : ℕ) : Type 0 where
  pub first : IsFirst e left
  pub begins : begins is_heading e ≡ true
  pub many_is : many ≡ heading_len left
  pub events : es ≡ take many left
  pub front : resolved Before es ≡ take a es ++ begun (drop a es)
  pub text : (first : Point) → resolved (Within first None None [] []) (drop a es) ≡ texted first n (drop a es)
  pub fits : a + n ≤ length es
  pub inside : a + n ≤ many

pub found : (e : Event) (left now : List Event) (many a n : ℕ) → IsFirst e left → begins is_heading e ≡ true →
    now ≡ left → many ≡ heading_len now → many ≤ length now →
    resolved Before (take many now) ≡ take a (take many now) ++ begun (drop a (take many now)) →
    a ≤ length (take many now) →
    ((first : Point) →
    resolved (Within first None None [] []) (take (length (take many now) - a) (drop a (take many now)))
    ≡ texted first n (take (length (take many now) - a) (drop a (take many now)))) →
    n ≤ length (take (length (take many now) - a) (drop a (take many now))) → IsFound e left (take many now) many a n
found e left now many a n first begins is many_is all front within text rest =
    let es : List Event = take many now in
    let same : take (length es - a) (drop a es) ≡ drop a es = slice-from a es in
    let size : a + n ≤ length es = omega (arith, within, rest, ap length same, length-drop a es) in
    record {
      first = first;
      begins = begins;
      many_is = many_is ∙ ap heading_len is;
      events = ap (take many) is;
      front = front;
      text = subst
          (λ (l : List Event). (p : Point) → resolved (Within p None None [] []) l ≡ texted p n l) same text;
      fits = size;
      inside = omega (arith, size, length-take-le many now all);
    }

pub heading-set : (e : Event) (left es : List Event) (many a n : ℕ) (d : Event) → IsFound e left es many a n →
    headings_resolved (take (heading_len left) left)
    ≡ take a es ++ (text_between (get_or es a d).point (last_point n (drop a es)) ++ drop (a + n) es)
heading-set e left es many a n d h =
    before-set e left h.first h.begins
    ∙ ap (resolved Before) (sym (h.events ∙ ap (λ (m : ℕ). take m left) h.many_is)) ∙ h.front
    ∙ ap (λ (l : List Event). take a es ++ l)
    (begun-set n (drop a es) d h.text
    ∙ ap₂ (λ (f : Event) (l : List Event). text_between f.point (last_point n (drop a es)) ++ l)
    (get_or-drop a es 0 d ∙ ap (λ (m : ℕ). get_or es m d) (add-zero a)) (drop-drop n a es))

-- where there is no text all stays
pub heading-kept : (e : Event) (left es : List Event) (many a n : ℕ) → IsFound e left es many a n → n ≡ 0 →
    take many left ≡ headings_resolved (take (heading_len left) left)
heading-kept e left es many a n h none =
    sym
    (heading-set e left es many a n e h
    ∙ ap
    (λ (m : ℕ).
    take a es ++ (text_between (get_or es a e).point (last_point m (drop a es)) ++ drop (a + m) es)) none
    ∙ ap (λ (m : ℕ). take a es ++ drop m es) (add-zero a) ∙ take-append-drop a es ∙ h.events)

-- where there is text, what is written, held and read
last-text : (n a : ℕ) (es : List Event) (d : Event) → 0 < n → a + n ≤ length es →
    last_point n (drop a es) ≡ Some (get_or es (a + n - 1) d).point
last-text zero a es d some inside = absurd (omega (arith, some))
last-text (suc m) a es d some inside =
    point-is m (drop a es) d (omega (arith, inside, length-drop a es))
    ∙ ap (λ (e : Event). Some e.point) (get_or-drop a es m d ∙ ap (λ (k : ℕ). get_or es k d) (omega arith))

pub heading-given : (e : Event) (left es : List Event) (many a n : ℕ) (d : Event) (written held : List Event) →
    IsFound e left es many a n → 0 < n →
    ((written ++ (held ++ take a left)) ++ text_between (get_or es a d).point (Some (get_or es (a + n - 1) d).point))
    ++ take (many - a - n) (drop n (drop a left))
    ≡ (written ++ held) ++ headings_resolved (take (heading_len left) left)
heading-given e left es many a n d written held h some =
    ap₂ (λ (x y : List Event). ((written ++ (held ++ x)) ++ text) ++ y) front following
    ∙ joined (take a es) (drop (a + n) es)
    ∙ ap (λ (o : Option Point).
    (written ++ held) ++ (take a es ++ (text_between (get_or es a d).point o ++ drop (a + n) es)))
    (sym (last-text n a es d some h.fits))
    ∙ ap (λ (l : List Event). (written ++ held) ++ l) (sym (heading-set e left es many a n d h))
  where
    text : List Event
    text = text_between (get_or es a d).point (Some (get_or es (a + n - 1) d).point)

    front : take a left ≡ take a es
    front = sym (ap (take a) h.events ∙ take-take a many left (omega (arith, h.inside)))

    following : take (many - a - n) (drop n (drop a left)) ≡ drop (a + n) es
    following =
        ap (take (many - a - n)) (drop-drop n a left) ∙ sym (drop-take (a + n) (many - a - n) left)
        ∙ ap (λ (m : ℕ). drop (a + n) (take m left)) (omega (arith, h.inside)) ∙ ap (drop (a + n)) (sym h.events)

    joined : (x y : List Event) → ((written ++ (held ++ x)) ++ text) ++ y ≡ (written ++ held) ++ (x ++ (text ++ y))
    joined x y = simp append_assoc

pub heading-left : (e : Event) (left es : List Event) (many a n : ℕ) → IsFound e left es many a n →
    drop (many - a - n) (drop n (drop a left)) ≡ drop (heading_len left) left
heading-left e left es many a n h =
    ap (drop (many - a - n)) (drop-drop n a left) ∙ drop-drop (many - a - n) (a + n) left
    ∙ ap (λ (m : ℕ). drop m left) (let all : a + n + (many - a - n) ≡ many = omega (arith, h.inside) in all ∙ h.many_is)
