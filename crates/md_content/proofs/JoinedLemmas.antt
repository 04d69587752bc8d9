-- Lines of content are joined one event after another.
use Rattle.std.proofs.Common.{◌≡◌, ℕ, ◌+◌, ◌<◌, ◌≤◌, Bool, true, false, ◌&&◌, List, [], ◌∷◌, length, length-drop}
use Rattle.std.proofs.Common.{get_or, drop, refl, sym, ◌∙◌, ap, arith, ◌-◌}
use Rattle.std.proofs.Common.{subst, cond, suc}
use Rattle.std.proofs.lemmas.List.{get_or-drop}
use Rattle.std.proofs.lemmas.List.Elements.{All-cons, All-head, All-tail}
use Rattle.md_engine.specs.declared.event.Event.{Event}
use Rattle.md_engine.specs.Place.{IsPlaced}
use Rattle.md_content.specs.Joined.{content_after, is_continued, is_content, is_of_prefix, joined}
use Rattle.md_content.specs.Joined.{joined_with}
use Rattle.md_events.specs.Events.Nested.{is_enter, is_exit}
use Rattle.md_events.specs.Events.Prefix.{is_prefix}
use Rattle.std.specs.List.{position_or_len, prefix_len}
use Rattle.std.proofs.lemmas.List.Sums.{passes_at_first}
use Rattle.md_events.specs.Events.Inline.{is_line_ending}
use Rattle.md_events.specs.Parts.{ArePlaced}

-- the first of some events, and those that are joined with it
pub joined-head : (l : List Event) (j : ℕ) (d d' : Event) → 0 < length l → j ≡ joined_with l →
    joined l ≡ record (get_or l 0 d) { point = (get_or l j d').point } ∷ joined (drop (j + 1) l)
joined-head [] j d d' lt is = absurd (omega arith)
joined-head (e ∷ []) j d d' lt is = rw is refl
joined-head (e ∷ f ∷ []) j d d' lt is = rw is refl
joined-head (e ∷ f ∷ g ∷ es) j d d' lt is = go (is_exit e.kind && is_content e.name && is_continued (f ∷ g ∷ es)) refl
  where
    go : (b : Bool) → (is_exit e.kind && is_content e.name && is_continued (f ∷ g ∷ es)) ≡ b →
        joined (e ∷ f ∷ g ∷ es) ≡
        record e { point = (get_or (e ∷ f ∷ g ∷ es) j d').point } ∷ joined (drop (j + 1) (e ∷ f ∷ g ∷ es))
    go true k = rw (is, k) refl
    go false k = rw (is, k) refl

-- what passes first after a place
pub first-there : (p : Event → Bool) (events : List Event) (at n : ℕ) (d : Event) →
    n ≡ position_or_len p (drop at events) → at + n < length events → p (get_or events (at + n) d) ≡ true
first-there p events at n d is lt =
    let rest : List Event = drop at events in
    let within : position_or_len p rest < length rest =
    subst (λ (k : ℕ). k < length rest) is (simp length-drop (omega arith)) in
    ap p (sym (get_or-drop at events n d))
    ∙ ap (λ (k : ℕ). p (get_or rest k d)) is
    ∙ passes_at_first p rest d within

abbrev begins_line : Event → Bool
begins_line e = is_enter e.kind && is_content e.name

-- a line begins after prefixes if the first other event begins one
following-some : (es : List Event) (d : Event) → prefix_len is_of_prefix es < length es →
    content_after es ≡ begins_line (get_or es (prefix_len is_of_prefix es) d)
following-some [] d lt = absurd (omega arith)
following-some (e ∷ es) d lt = by (is_of_prefix e) refl lt (following-some es d)
  where
    run : ℕ
    run = prefix_len is_of_prefix es

    by : (x : Bool) → is_of_prefix e ≡ x → cond (is_of_prefix e) (1 + run) 0 < length (e ∷ es) →
        (run < length es → content_after es ≡ begins_line (get_or es run d)) →
        cond (is_prefix e.name) (content_after es) (begins_line e) ≡
        begins_line (get_or (e ∷ es) (cond (is_of_prefix e) (1 + run) 0) d)
    by true prefix lt following =
        let more : 1 + run ≡ suc run = omega arith in
        let less : cond true (1 + run) 0 < length (e ∷ es) =
        subst (λ x. cond x (1 + run) 0 < length (e ∷ es)) prefix lt in
        ap (λ x. cond x (content_after es) (begins_line e)) prefix
        ∙ following (omega (arith, less))
        ∙ sym (ap (λ n. begins_line (get_or (e ∷ es) n d)) more)
        ∙ sym (ap (λ x. begins_line (get_or (e ∷ es) (cond x (1 + run) 0) d)) prefix)
    by false last lt following =
        ap (λ x. cond x (content_after es) (begins_line e)) last
        ∙ sym (ap (λ x. begins_line (get_or (e ∷ es) (cond x (1 + run) 0) d)) last)

following-none : (es : List Event) → length es ≤ prefix_len is_of_prefix es → content_after es ≡ false
following-none [] le = refl
following-none (e ∷ es) le = by (is_of_prefix e) refl le (following-none es)
  where
    run : ℕ
    run = prefix_len is_of_prefix es

    by : (x : Bool) → is_of_prefix e ≡ x → length (e ∷ es) ≤ cond (is_of_prefix e) (1 + run) 0 →
        (length es ≤ run → content_after es ≡ false) →
        cond (is_prefix e.name) (content_after es) (begins_line e) ≡ false
    by true prefix le following =
        let less : length (e ∷ es) ≤ cond true (1 + run) 0 =
        subst (λ x. length (e ∷ es) ≤ cond x (1 + run) 0) prefix le in
        ap (λ x. cond x (content_after es) (begins_line e)) prefix ∙ following (omega (arith, less))
    by false last le following =
        let less : length (e ∷ es) ≤ cond false (1 + run) 0 =
        subst (λ x. length (e ∷ es) ≤ cond x (1 + run) 0) last le in
        absurd (omega (arith, less))

-- so a line continues
pub proceeds-some : (events : List Event) (d : Event) (n : ℕ) → 2 ≤ length events →
    is_line_ending (get_or events 0 d).name ≡ true → n ≡ prefix_len is_of_prefix (drop 2 events) →
    2 + n < length events → is_continued events ≡
    (is_enter (get_or events (2 + n) d).kind && is_content (get_or events (2 + n) d).name)
proceeds-some [] d n two ends is lt = absurd (omega arith)
proceeds-some (e ∷ []) d n two ends is lt = absurd (omega arith)
proceeds-some (e ∷ f ∷ es) d n two ends is lt =
    let more : suc (suc n) ≡ 2 + n = omega arith in
    ap (λ x. x && content_after es) ends
    ∙ following-some es d (omega (arith, is))
    ∙ ap (λ k. begins_line (get_or es k d)) (sym is)
    ∙ ap (λ k. begins_line (get_or (e ∷ f ∷ es) k d)) more

pub proceeds-none : (events : List Event) (n : ℕ) → n ≡ prefix_len is_of_prefix (drop 2 events) →
    length events ≤ 2 + n →
    is_continued events ≡ false
proceeds-none [] n is le = refl
proceeds-none (e ∷ []) n is le = refl
proceeds-none (e ∷ f ∷ es) n is le = go (is_line_ending e.name) (following-none es (omega (arith, is)))
  where
    go : (x : Bool) → content_after es ≡ false → (x && content_after es) ≡ false
    go true h = h
    go false h = refl

-- Events that are at places of the text still do.

abbrev Valid : List ℕ → Event → Type 0
Valid bytes e = IsPlaced bytes e.point

pub joined-placed : (bytes : List ℕ) (events : List Event) → ArePlaced bytes events → ArePlaced bytes (joined events)
joined-placed bytes [] h = h
joined-placed bytes (e ∷ []) h = h
joined-placed bytes (e ∷ f ∷ []) h = h
joined-placed bytes (e ∷ f ∷ g ∷ es) h =
    let after = All-tail (Valid bytes) e (f ∷ g ∷ es) h in
    let following = All-tail (Valid bytes) f (g ∷ es) after in
    go (is_exit e.kind && is_content e.name && is_continued (f ∷ g ∷ es)) refl
    (All-head (Valid bytes) e (f ∷ g ∷ es) h) (All-head (Valid bytes) g es following)
    (joined-placed bytes es (All-tail (Valid bytes) g es following)) (joined-placed bytes (f ∷ g ∷ es) after)
  where
    go : (b : Bool) → (is_exit e.kind && is_content e.name && is_continued (f ∷ g ∷ es)) ≡ b → IsPlaced bytes e.point →
        IsPlaced bytes g.point → ArePlaced bytes (joined es) → ArePlaced bytes (joined (f ∷ g ∷ es)) →
        ArePlaced bytes (joined (e ∷ f ∷ g ∷ es))
    go true k here there a b = rw k (All-cons (Valid bytes) (record e { point = g.point }) (joined es) there a)
    go false k here there a b = rw k (All-cons (Valid bytes) e (joined (f ∷ g ∷ es)) here b)
