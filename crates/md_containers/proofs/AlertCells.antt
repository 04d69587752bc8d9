-- The marker of an alert by the cells of a line: the states take it where it is, whichever its kind.
use Rattle.std.proofs.Common.{◌≡◌, ℕ, suc, ◌+◌, Bool, true, false, cond, ◌&&◌, ◌||◌, List, [], ◌∷◌, ◌++◌, length, take}
use Rattle.std.proofs.Common.{drop, Option, Some, None, refl, sym, ap, ap₂, ◌∙◌, subst, arith, append_assoc}
use Rattle.std.specs.Prelude.{◌==◌, nat_le, nat_lt}
use Rattle.std.specs.Char.{to_ascii_lowercase}
use Rattle.std.proofs.lemmas.Bool.{and_parts, eqb-true, eq-eqb}
use Rattle.std.proofs.lemmas.Bool.Decides.{nat_tests}
use Rattle.md_engine.specs.declared.event.Event.{Event}
use Rattle.md_engine.specs.declared.event.Name.TheVariants.{BlockQuoteMarker}
use Rattle.md_engine.specs.declared.event.Point.{Point}
use Rattle.md_engine.specs.declared.tokenizer.Scratch.{Scratch}
use Rattle.md_engine.specs.Meaning.{Accepts, Cell, Here, Outcome, Refuses}
use Rattle.md_containers.specs.Quote.{name_of, naming, unnamed}
use Rattle.md_containers.specs.QuoteRule.{alert_close, alert_letter, alert_mark, alert_marker, alert_name, after_alert}
use Rattle.md_containers.specs.QuoteRule.{marked_events, takes_bytes, takes_marker}
use Rattle.md_containers.proofs.AlertBytes.{cells-parts, first-alone, first-none, letter-kind, letter_of, marker-length}
use Rattle.md_containers.proofs.AlertBytes.{of_letter, one-letter, tail_of}
use Rattle.md_leaves.specs.BlankRule.{blank_at, blank_events}
use Rattle.md_meaning.specs.Alert.{first_kind, kinds, marker_of}
use Rattle.md_meaning.specs.Bytes.{is_end}
use Rattle.md_meaning.specs.declared.alert.AlertKind.{AlertKind}
use Rattle.md_meaning.specs.declared.alert.AlertKind.TheVariants as its
use Rattle.md_meaning.specs.Rest.{is_blank}
use Rattle.md_events.specs.Ahead.{from_ending, line_bytes, line_end, point_after}
use Rattle.md_events.specs.Events.Nested.{enter, exit}
use Rattle.md_events.specs.Spaces.{IsRest}

-- Bytes and letters.

-- a byte that is no letter is itself in lower case, and no letter is
mark-lower : (m b : ℕ) → ((nat_lt m 65 || nat_le 91 m) && nat_lt m 97) ≡ true → (to_ascii_lowercase b == m) ≡ (b == m)
mark-lower m b e = go (nat_lt b 65) (nat_lt b 91) refl refl
  where
    go : (x y : Bool) → nat_lt b 65 ≡ x → nat_lt b 91 ≡ y → (cond x b (cond y (b + 32) b) == m) ≡ (b == m)
    go true y f g = refl
    go false true f g =
        let one : (b + 32 == m) ≡ false = grind (arith, nat_tests) in
        let two : (b == m) ≡ false = grind (arith, nat_tests) in
        one ∙ sym two
    go false false f g = refl

-- the name with this first letter is that of the kind with it
name_by : Option AlertKind → List ℕ
name_by None = []
name_by (Some k) = name_of (letter_of k)

name-letter : (b : ℕ) → name_of b ≡ name_by (of_letter b)
unfolding name_by
name-letter b = go (b == 110) (b == 116) (b == 105) (b == 119) (b == 99)
  where
    go : (x y z u v : Bool) →
        cond x (name_of 110)
        (cond y (name_of 116) (cond z (name_of 105) (cond u (name_of 119) (cond v (name_of 99) [])))) ≡
        name_by
        (cond x (Some its.Note)
        (cond y (Some its.Tip)
        (cond z (Some its.Important) (cond u (Some its.Warning) (cond v (Some its.Caution) None)))))
    go false false false false true = refl
    go _ _ _ _ _ = refl

letter-back : (b : ℕ) (k : AlertKind) → of_letter b ≡ Some k → b ≡ letter_of k
letter-back b k = go (b == 110) refl (b == 116) refl (b == 105) refl (b == 119) refl (b == 99) refl
  where
    is : (m : ℕ) (j : AlertKind) → (b == m) ≡ true → letter_of j ≡ m → Some j ≡ Some k → b ≡ letter_of k
    is m j e f g = let same : j ≡ k = cc in eqb-true b m e ∙ sym f ∙ ap letter_of same

    go : (x : Bool) → (b == 110) ≡ x → (y : Bool) → (b == 116) ≡ y → (z : Bool) → (b == 105) ≡ z → (u : Bool) →
        (b == 119) ≡ u → (v : Bool) → (b == 99) ≡ v →
        cond x (Some its.Note)
        (cond y (Some its.Tip)
        (cond z (Some its.Important) (cond u (Some its.Warning) (cond v (Some its.Caution) None)))) ≡
        Some k →
        b ≡ letter_of k
    go true e y f z g u i v j is-k = is 110 its.Note e refl is-k
    go false e true f z g u i v j is-k = is 116 its.Tip f refl is-k
    go false e false f true g u i v j is-k = is 105 its.Important g refl is-k
    go false e false f false g true i v j is-k = is 119 its.Warning i refl is-k
    go false e false f false g false i true j is-k = is 99 its.Caution j refl is-k
    go false e false f false g false i false j is-k = cc

tail-length : (k : AlertKind) → length (tail_of k) ≡ suc (length (drop 1 (name_of (letter_of k))))
tail-length its.Note = refl
tail-length _ = refl

-- The name.

-- what is left of it is taken in any case, with `]` and whitespace after it
name-is : (left : List ℕ) (cells : List Cell) (h : Here) →
    let n = suc (length left) in
    let rest = drop n cells in
    let q = point_after (take n cells) h.point in
    alert_name left cells h ≡
    cond (takes_bytes (left ++ 93 ∷ []) cells)
    (Accepts
    (record h {
      events = h.events ++ exit BlockQuoteMarker q ∷ blank_events rest q;
      point = line_end rest q;
      scratch = unnamed h.scratch;
    })
    (from_ending rest))
    (Refuses (unnamed h.scratch) h.flags)
unfolding alert_name blank_at
name-is [] [] h = refl
name-is (b ∷ left) [] h = refl
name-is [] (c ∷ cs) h = go (c.byte == 93) refl (is_blank (line_bytes cs)) refl
  where
    go : (x : Bool) → (c.byte == 93) ≡ x → (y : Bool) → is_blank (line_bytes cs) ≡ y →
        alert_name [] (c ∷ cs) h ≡
        cond (to_ascii_lowercase c.byte == 93 && is_blank (line_bytes cs))
        (Accepts
        (record h {
          events = h.events ++ exit BlockQuoteMarker c.after ∷ blank_events cs c.after;
          point = line_end cs c.after;
          scratch = unnamed h.scratch;
        })
        (from_ending cs))
        (Refuses (unnamed h.scratch) h.flags)
    go true e true f =
        rw (mark-lower 93 c.byte refl, e, f)
        (ap
        (λ (es : List Event).
        Accepts (record h { events = es; point = line_end cs c.after; scratch = unnamed h.scratch }) (from_ending cs))
        (append_assoc h.events (exit BlockQuoteMarker c.after ∷ []) (blank_events cs c.after)))
    go true e false f = rw (mark-lower 93 c.byte refl, e, f) refl
    go false e y f = rw (mark-lower 93 c.byte refl, e) refl
name-is (b ∷ left) (c ∷ cs) h =
    go (to_ascii_lowercase c.byte == b) refl
    (name-is left cs
    (record h { point = c.after; scratch = naming h.scratch.marker (h.scratch.size + 1) h.scratch }))
  where
    n : ℕ
    n = suc (length left)

    q : Point
    q = point_after (take n cs) c.after

    Done : Outcome → Bool → Type 0
    Done o t =
        o ≡
        cond t
        (Accepts
        (record h {
          events = h.events ++ exit BlockQuoteMarker q ∷ blank_events (drop n cs) q;
          point = line_end (drop n cs) q;
          scratch = unnamed h.scratch;
        })
        (from_ending (drop n cs)))
        (Refuses (unnamed h.scratch) h.flags)

    go : (x : Bool) → (to_ascii_lowercase c.byte == b) ≡ x →
        Done
        (alert_name left cs
        (record h { point = c.after; scratch = naming h.scratch.marker (h.scratch.size + 1) h.scratch }))
        (takes_bytes (left ++ 93 ∷ []) cs) →
        Done (alert_name (b ∷ left) (c ∷ cs) h) (takes_bytes (b ∷ left ++ 93 ∷ []) (c ∷ cs))
    go true e next = rw e next
    go false e next = rw e refl

-- The marker.

-- what the states make of it, by its kind
abbrev pub marked_by : Option AlertKind → List Cell → Here → Outcome
marked_by None cells h = Refuses h.scratch h.flags
marked_by (Some kind) cells h =
    Accepts
    (record h {
      events = h.events ++ marked_events kind cells h.point;
      point = line_end (after_alert kind cells) (alert_close kind cells h.point);
    })
    (from_ending (after_alert kind cells))

abbrev pub kind_of : List Cell → Option AlertKind
kind_of cells = first_kind (λ kind. takes_marker kind cells) kinds

abbrev takes : AlertKind → List Cell → Bool
takes k cells = takes_bytes (91 ∷ 33 ∷ letter_of k ∷ tail_of k) cells

refused : (cells : List Cell) (h : Here) → ((k : AlertKind) → takes k cells ≡ false) →
    Refuses h.scratch h.flags ≡ marked_by (kind_of cells) cells h
refused cells h none =
    ap (λ (o : Option AlertKind). marked_by o cells h)
    (sym (first-none (λ k. takes_marker k cells) (λ k. cells-parts k cells ∙ none k)))

-- a construct at rest has no name
rest-unnamed : (s : Scratch) → IsRest s → unnamed s ≡ s
rest-unnamed s is = ap unnamed is ∙ sym is

-- the marker of a kind gives the letter
takes-letter : (k : AlertKind) (a b c : Cell) (cs : List Cell) → takes k (a ∷ b ∷ c ∷ cs) ≡ true →
    to_ascii_lowercase c.byte ≡ letter_of k
takes-letter k a b c cs e =
    let letter = to_ascii_lowercase c.byte in
    let one = and_parts (to_ascii_lowercase a.byte == 91)
    (to_ascii_lowercase b.byte == 33 && (letter == letter_of k && takes_bytes (tail_of k) cs)) e in
    let two = and_parts (to_ascii_lowercase b.byte == 33) (letter == letter_of k && takes_bytes (tail_of k) cs) one.1 in
    let three = and_parts (letter == letter_of k) (takes_bytes (tail_of k) cs) two.1 in
    eqb-true letter (letter_of k) three.0

-- from its letter on, by the kind with it
abbrev letter_by : Option AlertKind → Cell → List Cell → Here → Outcome
letter_by None c cs k = Refuses k.scratch k.flags
letter_by (Some j) c cs k =
    alert_name (drop 1 (name_of (letter_of j))) cs
    (record k { point = c.after; scratch = naming (to_ascii_lowercase c.byte) 1 k.scratch })

letter-step : (c : Cell) (cs : List Cell) (k : Here) (o : Option AlertKind) →
    of_letter (to_ascii_lowercase c.byte) ≡ o → alert_letter (c ∷ cs) k ≡ letter_by o c cs k
unfolding alert_letter name_by
letter-step c cs k o e =
    subst By (sym (name-letter letter ∙ ap name_by e)) (by o)
  where
    letter : ℕ
    letter = to_ascii_lowercase c.byte

    next : Here
    next = record k { point = c.after; scratch = naming letter 1 k.scratch }

    By : List ℕ → Type 0
    By l = cond (is_end l) (Refuses k.scratch k.flags) (alert_name (drop 1 l) cs next) ≡ letter_by o c cs k

    by : (o : Option AlertKind) →
        cond (is_end (name_by o)) (Refuses k.scratch k.flags) (alert_name (drop 1 (name_by o)) cs next) ≡
        letter_by o c cs k
    by None = refl
    by (Some its.Note) = refl
    by (Some _) = refl

-- the rest of the name of a kind, whose letter was taken
name-marked : (j : AlertKind) (a b c : Cell) (cs : List Cell) (h : Here) → takes j (a ∷ b ∷ c ∷ cs) ≡
    takes_bytes (tail_of j) cs → to_ascii_lowercase c.byte ≡ letter_of j → IsRest h.scratch →
    alert_name (drop 1 (name_of (letter_of j))) cs
    (record h {
      events = h.events ++ enter BlockQuoteMarker h.point ∷ [];
      point = c.after;
      scratch = naming (to_ascii_lowercase c.byte) 1 h.scratch;
    }) ≡
    marked_by (kind_of (a ∷ b ∷ c ∷ cs)) (a ∷ b ∷ c ∷ cs) h
name-marked j a b c cs h parts same is =
    name-is (drop 1 (name_of (letter_of j))) cs next ∙ go (takes_bytes (tail_of j) cs) refl
  where
    cells : List Cell
    cells = a ∷ b ∷ c ∷ cs

    next : Here
    next = record h {
      events = h.events ++ enter BlockQuoteMarker h.point ∷ [];
      point = c.after;
      scratch = naming (to_ascii_lowercase c.byte) 1 h.scratch;
    }

    n : ℕ
    n = suc (length (drop 1 (name_of (letter_of j))))

    q : Point
    q = point_after (take n cs) c.after

    size : length (marker_of j) ≡ suc (suc (suc n))
    size = marker-length j ∙ ap (λ (x : ℕ). suc (suc (suc x))) (tail-length j)

    -- it is the only kind
    alone : (i : AlertKind) → takes_marker i cells ≡ true → i ≡ j
    alone i e = one-letter i j (sym (takes-letter i a b c cs (sym (cells-parts i cells) ∙ e)) ∙ same)

    ended : Accepts
        (record h {
          events = h.events ++ enter BlockQuoteMarker h.point ∷ exit BlockQuoteMarker q ∷ blank_events (drop n cs) q;
          point = line_end (drop n cs) q;
        })
        (from_ending (drop n cs)) ≡
        marked_by (Some j) cells h
    ended =
        ap
        (λ (m : ℕ).
        let rest = drop m cells in
        let p = point_after (take m cells) h.point in
        Accepts
        (record h {
          events = h.events ++ enter BlockQuoteMarker h.point ∷ exit BlockQuoteMarker p ∷ blank_events rest p;
          point = line_end rest p;
        })
        (from_ending rest)) (sym size)

    go : (t : Bool) → takes_bytes (tail_of j) cs ≡ t →
        cond (takes_bytes (tail_of j) cs)
        (Accepts
        (record next {
          events = next.events ++ exit BlockQuoteMarker q ∷ blank_events (drop n cs) q;
          point = line_end (drop n cs) q;
          scratch = unnamed next.scratch;
        })
        (from_ending (drop n cs)))
        (Refuses (unnamed next.scratch) h.flags) ≡
        marked_by (kind_of cells) cells h
    go true g =
        rw g
        (ap₂
        (λ (es : List Event) (s : Scratch).
        Accepts (record h { events = es; point = line_end (drop n cs) q; scratch = s }) (from_ending (drop n cs)))
        (append_assoc h.events (enter BlockQuoteMarker h.point ∷ [])
        (exit BlockQuoteMarker q ∷ blank_events (drop n cs) q))
        (rest-unnamed h.scratch is)
        ∙ ended
        ∙ ap (λ (o : Option AlertKind). marked_by o cells h)
        (sym (first-alone (λ i. takes_marker i cells) j alone (cells-parts j cells ∙ parts ∙ g))))
    go false g =
        rw g
        (ap (λ (s : Scratch). Refuses s h.flags) (rest-unnamed h.scratch is) ∙ refused cells h none)
      where
        none : (i : AlertKind) → takes i cells ≡ false
        none i = by (takes i cells) refl
          where
            by : (x : Bool) → takes i cells ≡ x → x ≡ false
            by false e = refl
            by true e =
                let one : i ≡ j = alone i (cells-parts i cells ∙ e) in
                let bad : takes j cells ≡ true = subst (λ (k : AlertKind). takes k cells ≡ true) one e in
                let no = parts ∙ g in cc

letter-is : (a b : Cell) (cells : List Cell) (h : Here) → (a.byte == 91) ≡ true → (b.byte == 33) ≡ true →
    IsRest h.scratch →
    alert_letter cells (record h { events = h.events ++ enter BlockQuoteMarker h.point ∷ []; point = b.after }) ≡
    marked_by (kind_of (a ∷ b ∷ cells)) (a ∷ b ∷ cells) h
unfolding alert_letter
letter-is a b [] h e f is =
    refused (a ∷ b ∷ []) h (λ k. rw (mark-lower 91 a.byte refl, e, mark-lower 33 b.byte refl, f) refl)
letter-is a b (c ∷ cs) h e f is = go (of_letter letter) refl
  where
    letter : ℕ
    letter = to_ascii_lowercase c.byte

    cells : List Cell
    cells = a ∷ b ∷ c ∷ cs

    k : Here
    k = record h { events = h.events ++ enter BlockQuoteMarker h.point ∷ []; point = b.after }

    parts : (j : AlertKind) → takes j cells ≡ (letter == letter_of j && takes_bytes (tail_of j) cs)
    parts j =
        ap₂ (λ (x y : Bool). x && (y && (letter == letter_of j && takes_bytes (tail_of j) cs)))
        (mark-lower 91 a.byte refl ∙ e) (mark-lower 33 b.byte refl ∙ f)

    -- no kind has its letter
    none : of_letter letter ≡ None → (j : AlertKind) → takes j cells ≡ false
    none g j = by (takes j cells) refl
      where
        by : (x : Bool) → takes j cells ≡ x → x ≡ false
        by false i = refl
        by true i = let some = sym g ∙ ap of_letter (takes-letter j a b c cs i) ∙ letter-kind j in cc

    Done : Outcome → Type 0
    Done o = o ≡ marked_by (kind_of cells) cells h

    go : (o : Option AlertKind) → of_letter letter ≡ o → Done (alert_letter (c ∷ cs) k)
    go None g = letter-step c cs k None g ∙ refused cells h (none g)
    go (Some j) g =
        let same = letter-back letter j g in
        letter-step c cs k (Some j) g
        ∙ name-marked j a b c cs h
        (parts j ∙ ap (λ (t : Bool). t && takes_bytes (tail_of j) cs) (eq-eqb letter (letter_of j) same)) same is

-- all of it
pub marked-is : (cells : List Cell) (h : Here) → IsRest h.scratch →
    alert_marker cells h ≡ marked_by (kind_of cells) cells h
unfolding alert_marker alert_mark
marked-is [] h is = refused [] h (λ k. refl)
marked-is (a ∷ cells) h is = go (a.byte == 91) refl cells
  where
    go : (x : Bool) → (a.byte == 91) ≡ x → (cells : List Cell) →
        alert_marker (a ∷ cells) h ≡ marked_by (kind_of (a ∷ cells)) (a ∷ cells) h
    go false e cells = rw e (refused (a ∷ cells) h (λ k. rw (mark-lower 91 a.byte refl, e) refl))
    go true e [] = rw e (refused (a ∷ []) h (λ k. rw (mark-lower 91 a.byte refl, e) refl))
    go true e (b ∷ cells) = by (b.byte == 33) refl
      where
        by : (y : Bool) → (b.byte == 33) ≡ y →
            alert_marker (a ∷ b ∷ cells) h ≡ marked_by (kind_of (a ∷ b ∷ cells)) (a ∷ b ∷ cells) h
        by true f = rw (e, f) (letter-is a b cells h e f is)
        by false f =
            rw (e, f)
            (refused (a ∷ b ∷ cells) h (λ k. rw (mark-lower 91 a.byte refl, e, mark-lower 33 b.byte refl, f) refl))
