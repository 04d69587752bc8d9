-- The lines of a leaf, joined, where some are bare: those up to the last that is a pair of its own are inside of the
-- leaf, and the others are after it.
use Rattle.std.proofs.Common.{◌≡◌, Bool, true, false, cond, ◌||◌, List, [], ◌∷◌, ◌++◌, refl, ap, sym, ◌∙◌, append_assoc}
use Rattle.std.proofs.Common.{append-nil}
use Rattle.md_engine.specs.declared.event.Event.{Event}
use Rattle.md_engine.specs.declared.event.Name.TheVariants as n
use Rattle.proof_frame.specs.Row.{Row, any_framed, but_end, but_ends, end_by, end_of, ending_events, inside_leaf}
use Rattle.proof_frame.specs.Row.{is_framed, last_row, span_after, span_by, span_rest}
use Rattle.proof_frame.proofs.LeafLines.Cuts.{but_ends-is}
use Rattle.proof_frame.proofs.LeafLines.Framed.{framed_by, framed_rest}

-- The rows up to the last that is a pair of its own, and those after it.
abbrev pub inner : (Row → List Event) → List Row → List Row
inner f [] = []
inner f (row ∷ rows) = cond (any_framed f (row ∷ rows)) (row ∷ inner f rows) []

abbrev pub outer : (Row → List Event) → List Row → List Row
outer f [] = []
outer f (row ∷ rows) = cond (any_framed f (row ∷ rows)) (outer f rows) (row ∷ rows)

-- the last of those after is the last of all
pub outer-last : (f : Row → List Event) (row : Row) (rows : List Row) →
    last_row (last_row row (inner f rows)) (outer f rows) ≡ last_row row rows
outer-last f row [] = refl
outer-last f row (next ∷ rows) = go (any_framed f (next ∷ rows)) (outer-last f next rows)
  where
    go : (x : Bool) → last_row (last_row next (inner f rows)) (outer f rows) ≡ last_row next rows →
        last_row (last_row row (cond x (next ∷ inner f rows) [])) (cond x (outer f rows) (next ∷ rows)) ≡
        last_row next rows
    go true h = h
    go false h = refl

-- where none is a pair, none is inside
inner-none : (f : Row → List Event) (row : Row) (rows : List Row) → any_framed f rows ≡ false →
    last_row row (inner f rows) ≡ row
inner-none f row [] h = refl
inner-none f row (next ∷ rows) h = ap (λ (x : Bool). last_row row (cond x (next ∷ inner f rows) [])) h

-- and else the last inside is one
one_of : (x : Bool) → (x || false) ≡ true → x ≡ true
one_of true h = refl
one_of false h = cc

inner-framed : (f : Row → List Event) (row : Row) (rows : List Row) → (is_framed (f row) || any_framed f rows) ≡ true →
    is_framed (f (last_row row (inner f rows))) ≡ true
inner-framed f row [] h = one_of (is_framed (f row)) h
inner-framed f row (next ∷ rows) h =
    go (any_framed f (next ∷ rows)) (λ some. inner-framed f next rows some) h refl
  where
    go : (x : Bool) →
        ((is_framed (f next) || any_framed f rows) ≡ true → is_framed (f (last_row next (inner f rows))) ≡ true) →
        (is_framed (f row) || x) ≡ true → any_framed f (next ∷ rows) ≡ x →
        is_framed (f (last_row row (cond x (next ∷ inner f rows) []))) ≡ true
    go true more h e = more e
    go false more h e = one_of (is_framed (f row)) h

-- Each line taken for a pair: a bare one between these events, any other as it is.
abbrev pub paired : (Row → Event) → (Row → Event) → (Row → List Event) → Row → List Event
paired begin end f row = cond (is_framed (f row)) (f row) (begin row ∷ f row ++ end row ∷ [])

paired-inside : (begin end : Row → Event) (f : Row → List Event) (row : Row) →
    inside_leaf (f row) ≡ but_ends (paired begin end f row)
paired-inside begin end f row = go (is_framed (f row))
  where
    go : (x : Bool) → cond x (but_ends (f row)) (f row) ≡ but_ends (cond x (f row) (begin row ∷ f row ++ end row ∷ []))
    go true = refl
    go false = sym (but_ends-is (begin row) (f row) (end row))

pub paired-is : (begin end : Row → Event) (f : Row → List Event) (row : Row) → is_framed (f row) ≡ true →
    paired begin end f row ≡ f row
paired-is begin end f row h = ap (λ (x : Bool). cond x (f row) (begin row ∷ f row ++ end row ∷ [])) h

-- The end of the leaf is that of the last inside.
end-last : (f : Row → List Event) (row : Row) (rows : List Row) (end : List Event) →
    (any_framed f rows ≡ false → end ≡ end_of (f row)) →
    cond (any_framed f rows) (end_of (f (last_row row (inner f rows)))) end ≡ end_of (f (last_row row (inner f rows)))
end-last f row rows end h = go (any_framed f rows) refl
  where
    go : (x : Bool) → any_framed f rows ≡ x →
        cond x (end_of (f (last_row row (inner f rows)))) end ≡ end_of (f (last_row row (inner f rows)))
    go true e = refl
    go false e = h e ∙ sym (ap (λ (r : Row). end_of (f r)) (inner-none f row rows e))

rest-split : (begin end : Row → Event) (f : Row → List Event) (ended : List Event) (row : Row) (rows : List Row) →
    span_rest f ended row rows ≡
    (framed_rest (paired begin end f) row (inner f rows)
    ++ (cond (any_framed f rows) (end_of (f (last_row row (inner f rows)))) ended
    ++ span_after f (last_row row (inner f rows)) (outer f rows)))
rest-split begin end f ended row [] = sym (append-nil ended)
rest-split begin end f ended row (next ∷ rows) =
    go (any_framed f (next ∷ rows)) refl (rest-split begin end f (end_by ended (f next)) next rows)
  where
    front : List Event
    front = ending_events n.LineEnding row ++ next.front

    last : Row
    last = last_row next (inner f rows)

    following : List Event
    following = span_after f (last_row next (inner f rows)) (outer f rows)

    inside : List Event
    inside = framed_rest (paired begin end f) next (inner f rows)

    -- where no further one is a pair this line is
    here : any_framed f (next ∷ rows) ≡ true → any_framed f rows ≡ false → end_by ended (f next) ≡ end_of (f next)
    here some none = go (is_framed (f next)) refl
      where
        go : (x : Bool) → is_framed (f next) ≡ x → cond x (end_of (f next)) ended ≡ end_of (f next)
        go true e = refl
        go false e =
            let bare : any_framed f (next ∷ rows) ≡ false = rw (e, none) refl in
            let bad : true ≡ false = sym some ∙ bare in
            cc

    go : (x : Bool) → any_framed f (next ∷ rows) ≡ x →
        span_rest f (end_by ended (f next)) next rows ≡
        (inside ++ (cond (any_framed f rows) (end_of (f last)) (end_by ended (f next)) ++ following)) →
        cond x (front ++ inside_leaf (f next) ++ span_rest f (end_by ended (f next)) next rows)
        (ended ++ span_after f row (next ∷ rows)) ≡
        (framed_rest (paired begin end f) row (cond x (next ∷ inner f rows) [])
        ++ (cond x (end_of (f (last_row row (cond x (next ∷ inner f rows) [])))) ended
        ++ span_after f (last_row row (cond x (next ∷ inner f rows) [])) (cond x (outer f rows) (next ∷ rows))))
    go false e h = refl
    go true e h =
        ap (λ (l : List Event). front ++ inside_leaf (f next) ++ l) h
        ∙ ap (λ (l : List Event). front ++ l ++ (inside ++ (ends ++ following))) (paired-inside begin end f next)
        ∙ ap (λ (l : List Event). front ++ but_ends (paired begin end f next) ++ (inside ++ (l ++ following)))
        (end-last f next rows (end_by ended (f next)) (here e))
        ∙ sym (append_assoc (front ++ but_ends (paired begin end f next)) inside (end_of (f last) ++ following))
      where
        ends : List Event
        ends = cond (any_framed f rows) (end_of (f last)) (end_by ended (f next))

-- After a line that is a pair.
pub span-split : (begin end : Row → Event) (f : Row → List Event) (row : Row) (rows : List Row) →
    is_framed (f row) ≡ true →
    span_by f row rows ≡
    (framed_by (paired begin end f) row (inner f rows) ++ span_after f (last_row row (inner f rows)) (outer f rows))
span-split begin end f row rows h =
    ap (λ (l : List Event). but_end (f row) ++ l) (rest-split begin end f (end_of (f row)) row rows)
    ∙ ap (λ (l : List Event). but_end (f row) ++ (inside ++ (l ++ following)))
    (end-last f row rows (end_of (f row)) (λ none. refl))
    ∙ ap (λ (l : List Event). but_end l ++ (inside ++ (end_of (f last) ++ following)))
    (sym (paired-is begin end f row h))
    ∙ ap (λ (l : List Event). but_end (paired begin end f row) ++ (inside ++ (end_of l ++ following)))
    (sym (paired-is begin end f last (inner-framed f row rows (rw h refl))))
    ∙ sym (append_assoc (but_end (paired begin end f row)) inside (end_of (paired begin end f last) ++ following))
    ∙ sym
    (append_assoc (but_end (paired begin end f row) ++ inside) (end_of (paired begin end f last)) following)
  where
    last : Row
    last = last_row row (inner f rows)

    following : List Event
    following = span_after f (last_row row (inner f rows)) (outer f rows)

    inside : List Event
    inside = framed_rest (paired begin end f) row (inner f rows)
