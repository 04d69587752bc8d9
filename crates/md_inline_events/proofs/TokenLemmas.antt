-- The marks of the tokens of a forest are those of the forest.
use Rattle.std.proofs.Common.{◌≡◌, ℕ, zero, suc, ◌<◌, List, [], ◌∷◌, ◌++◌, length}
use Rattle.std.proofs.Common.{refl, ap, sym, ◌∙◌, append_assoc, arith}
use Rattle.std.proofs.lemmas.List.{append-nil}
use Rattle.md_engine.specs.declared.event.Name.{Name}
use Rattle.md_inline_events.specs.Cursor.{back_of, begun, left_first, rest_marks, token_marks}
use Rattle.md_inline_events.specs.Forest.{Forest, bare, begin, finish, marks, nothing, part, piece, size}
use Rattle.md_inline_events.specs.Marks.{Back, Mark, begins, ends, passes, stays}
use Rattle.md_inline_events.specs.Tokens.{around, live, tokens}
use Rattle.md_inline_events.specs.declared.token.Token.{Token}
use Rattle.md_inline_events.specs.declared.token.Token.TheVariants as t

-- Marks by the words of forests: parts begin and end around what they hold.

-- parts end after the last of some bytes, the innermost first
abbrev close : List Name → List Mark → List Mark
close [] ms = ms
close (name ∷ names) ms = close names (finish name ms)

abbrev begin_all : List Name → List Mark → List Mark
begin_all [] ms = ms
begin_all (name ∷ names) ms = begin name (begin_all names ms)

abbrev piece_marks : Name → ℕ → List Mark
piece_marks name more = record { front = begins [] name; back = stays } ∷ bare more

abbrev plain_marks : List Token → List Mark
plain_marks [] = []
plain_marks (t.Enters name ∷ ts) = begin name (plain_marks ts)
plain_marks (t.Leaves name ∷ ts) = plain_marks ts
plain_marks (t.Over name zero ∷ ts) = plain_marks ts
plain_marks (t.Over name (suc more) ∷ ts) = close (left_first ts) (piece_marks name more) ++ plain_marks ts

-- They are those that a writer has left.

begin_all-none : (names : List Name) → begin_all names [] ≡ []
begin_all-none [] = refl
begin_all-none (name ∷ names) = ap (λ (l : List Mark). begin name l) (begin_all-none names)

begin_all-append : (xs ys : List Name) (ms : List Mark) → begin_all (xs ++ ys) ms ≡ begin_all xs (begin_all ys ms)
begin_all-append [] ys ms = refl
begin_all-append (x ∷ xs) ys ms = ap (λ (l : List Mark). begin x l) (begin_all-append xs ys ms)

begin_all-mark : (opens : List Name) (name : Name) (back : Back) (ms : List Mark) →
    begin_all opens (record { front = begins [] name; back = back } ∷ ms) ≡
    record { front = begins opens name; back = back } ∷ ms
begin_all-mark [] name back ms = refl
begin_all-mark (first ∷ opens) name back ms = ap (λ (l : List Mark). begin first l) (begin_all-mark opens name back ms)

close-back : (names closes : List Name) (ms : List Mark) (front : Rattle.md_inline_events.specs.Marks.Front) →
    close names (record { front = front; back = ends closes } ∷ []) ≡
    record { front = front; back = ends (closes ++ names) } ∷ []
close-back [] closes ms front =
    ap (λ (l : List Name). (record { front = front; back = ends l }) ∷ []) (sym (append-nil closes))
close-back (name ∷ names) closes ms front =
    close-back names (closes ++ name ∷ []) ms front
    ∙ ap (λ (l : List Name). (record { front = front; back = ends l }) ∷ []) (append_assoc closes (name ∷ []) names)

close-last : (names : List Name) (front : Rattle.md_inline_events.specs.Marks.Front) →
    close names (record { front = front; back = stays } ∷ []) ≡ record { front = front; back = back_of names } ∷ []
close-last [] front = refl
close-last (name ∷ names) front = close-back names (name ∷ []) [] front

pub finish-length : (name : Name) (ms : List Mark) → length (finish name ms) ≡ length ms
finish-length name [] = refl
finish-length name (m ∷ []) = refl
finish-length name (m ∷ k ∷ ms) = ap suc (finish-length name (k ∷ ms))

close-length : (names : List Name) (ms : List Mark) → length (close names ms) ≡ length ms
close-length [] ms = refl
close-length (name ∷ names) ms = close-length names (finish name ms) ∙ finish-length name ms

finish-append : (a : Name) (xs ys : List Mark) → 0 < length ys → finish a (xs ++ ys) ≡ xs ++ finish a ys
finish-append a xs [] h = absurd (omega (arith, h))
finish-append a [] (y ∷ ys) h = refl
finish-append a (x ∷ []) (y ∷ ys) h = refl
finish-append a (x ∷ z ∷ xs) (y ∷ ys) h = ap (λ (l : List Mark). x ∷ l) (finish-append a (z ∷ xs) (y ∷ ys) h)

close-append : (names : List Name) (xs ys : List Mark) → 0 < length ys → close names (xs ++ ys) ≡ xs ++ close names ys
close-append [] xs ys h = refl
close-append (name ∷ names) xs ys h =
    ap (λ (l : List Mark). close names l) (finish-append name xs ys h)
    ∙ close-append names xs (finish name ys) (omega (arith, h, finish-length name ys))

rest-closed : (more : ℕ) (closes : List Name) → rest_marks (suc more) closes ≡ close closes (bare (suc more))
rest-closed zero closes = sym (close-last closes passes)
rest-closed (suc more) closes =
    ap (λ (l : List Mark). (record { front = passes; back = stays }) ∷ l) (rest-closed more closes)
    ∙ sym (close-append closes (record { front = passes; back = stays } ∷ []) (bare (suc more)) (omega arith))

begun-closed : (opens closes : List Name) (name : Name) (more : ℕ) →
    begun opens name (rest_marks (suc more) closes) ≡ begin_all opens (close closes (piece_marks name more))
begun-closed opens closes name zero =
    sym (begin_all-mark opens name (back_of closes) [])
    ∙ ap (λ (l : List Mark). begin_all opens l) (sym (close-last closes (begins [] name)))
begun-closed opens closes name (suc more) =
    sym (begin_all-mark opens name stays (rest_marks (suc more) closes))
    ∙ ap (λ (l : List Mark). begin_all opens (record { front = begins [] name; back = stays } ∷ l))
    (rest-closed more closes)
    ∙ ap (λ (l : List Mark). begin_all opens l)
    (sym (close-append closes (record { front = begins [] name; back = stays } ∷ []) (bare (suc more)) (omega arith)))

begin-append : (a : Name) (xs ys : List Mark) → 0 < length xs → begin a (xs ++ ys) ≡ begin a xs ++ ys
begin-append a [] ys h = absurd (omega (arith, h))
begin-append a (x ∷ xs) ys h = refl

pub begin-length : (name : Name) (ms : List Mark) → length (begin name ms) ≡ length ms
begin-length name [] = refl
begin-length name (m ∷ ms) = refl

begin_all-length : (names : List Name) (ms : List Mark) → length (begin_all names ms) ≡ length ms
begin_all-length [] ms = refl
begin_all-length (name ∷ names) ms = begin-length name (begin_all names ms) ∙ begin_all-length names ms

begin_all-front : (names : List Name) (xs ys : List Mark) → 0 < length xs →
    begin_all names (xs ++ ys) ≡ begin_all names xs ++ ys
begin_all-front [] xs ys h = refl
begin_all-front (name ∷ names) xs ys h =
    ap (λ (l : List Mark). begin name l) (begin_all-front names xs ys h)
    ∙ begin-append name (begin_all names xs) ys (omega (arith, h, begin_all-length names xs))

pub left-marks : (opens : List Name) (ts : List Token) → token_marks opens ts ≡ begin_all opens (plain_marks ts)
left-marks opens [] = sym (begin_all-none opens)
left-marks opens (t.Enters name ∷ ts) =
    left-marks (opens ++ name ∷ []) ts ∙ begin_all-append opens (name ∷ []) (plain_marks ts)
left-marks opens (t.Leaves name ∷ ts) = left-marks opens ts
left-marks opens (t.Over name zero ∷ ts) = left-marks opens ts
left-marks opens (t.Over name (suc more) ∷ ts) =
    let own : List Mark = close (left_first ts) (piece_marks name more) in
    ap (λ (l : List Mark). begun opens name (rest_marks (suc more) (left_first ts)) ++ l) (left-marks [] ts)
    ∙ ap (λ (l : List Mark). l ++ plain_marks ts) (begun-closed opens (left_first ts) name more)
    ∙ sym (begin_all-front opens own (plain_marks ts) (omega (
      arith,
      close-length (left_first ts) (piece_marks name
          more),
    )))

-- Places that are kept free give nothing.

live-first : (ts : List Token) → left_first (live ts) ≡ left_first ts
live-first [] = refl
live-first (t.Enters name ∷ ts) = refl
live-first (t.Leaves name ∷ ts) = ap (λ (l : List Name). name ∷ l) (live-first ts)
live-first (t.Over name zero ∷ ts) = live-first ts
live-first (t.Over name (suc more) ∷ ts) = refl

live-marks : (ts : List Token) → plain_marks (live ts) ≡ plain_marks ts
live-marks [] = refl
live-marks (t.Enters name ∷ ts) = ap (λ (l : List Mark). begin name l) (live-marks ts)
live-marks (t.Leaves name ∷ ts) = live-marks ts
live-marks (t.Over name zero ∷ ts) = live-marks ts
live-marks (t.Over name (suc more) ∷ ts) =
    ap (λ (l : List Name). close l (piece_marks name more) ++ plain_marks (live ts)) (live-first ts)
    ∙ ap (λ (l : List Mark). close (left_first ts) (piece_marks name more) ++ l) (live-marks ts)

-- A forest without tokens is over no byte.

around-some : (name : Name) (token : Token) (ts rest : List Token) → around name (token ∷ ts) ++ rest ≡ [] → ⊥
around-some name token ts rest h = cc

marks-none : (forest : Forest) → tokens forest ≡ [] → marks forest ≡ []
marks-none nothing h = refl
marks-none (piece name more following) h = cc
marks-none (part name inside following) h =
    go (tokens inside) refl h (λ k. marks-none inside k) (λ k. marks-none following k)
  where
    go : (ts : List Token) → tokens inside ≡ ts → around name ts ++ tokens following ≡ [] →
        (tokens inside ≡ [] → marks inside ≡ []) → (tokens following ≡ [] → marks following ≡ []) →
        finish name (begin name (marks inside)) ++ marks following ≡ []
    go [] is none first second =
        ap (λ (l : List Mark). finish name (begin name l) ++ marks following) (first is) ∙ second none
    go (token ∷ ts) is none first second = absurd (around-some name token ts (tokens following) none)

-- the first token of a forest ends nothing
first-opens : (forest : Forest) (rest : List Token) → 0 < length (tokens forest) →
    left_first (tokens forest ++ rest) ≡ []
first-opens nothing rest h = absurd (omega (arith, h))
first-opens (piece name more following) rest h = refl
first-opens (part name inside following) rest h = go (tokens inside) h (λ k. first-opens following rest k)
  where
    go : (ts : List Token) → 0 < length (around name ts ++ tokens following) →
        (0 < length (tokens following) → left_first (tokens following ++ rest) ≡ []) →
        left_first ((around name ts ++ tokens following) ++ rest) ≡ []
    go [] h later = later h
    go (token ∷ ts) h later = refl

longer : (xs ys : List Mark) → 0 < length xs → 0 < length (xs ++ ys)
longer [] ys h = absurd (omega (arith, h))
longer (x ∷ xs) ys h = omega arith

long-rest : (xs ys : List Mark) → 0 < length ys → 0 < length (xs ++ ys)
long-rest [] ys h = h
long-rest (x ∷ xs) ys h = omega arith

part-size : (name : Name) (inside following : Forest) → 0 < size inside → 0 < size (part name inside following)
part-size name inside following h =
    longer (finish name (begin name (marks inside))) (marks following)
    (omega (arith, h, finish-length name (begin name (marks inside)), begin-length name (marks inside)))

some-size : (forest : Forest) → 0 < length (tokens forest) → 0 < size forest
some-size nothing h = absurd (omega (arith, h))
some-size (piece name more following) h = omega arith
some-size (part name inside following) h =
    go (tokens inside) refl h (λ k. some-size inside k) (λ k. some-size following k)
  where
    go : (ts : List Token) → tokens inside ≡ ts → 0 < length (around name ts ++ tokens following) →
        (0 < length (tokens inside) → 0 < size inside) → (0 < length (tokens following) → 0 < size following) →
        0 < size (part name inside following)
    go [] is h first second = long-rest (finish name (begin name (marks inside))) (marks following) (second h)
    go (token ∷ ts) is h first second =
        part-size name inside following (first (omega (arith, ap (λ (l : List Token). length l) is)))

-- The marks of a forest's tokens, before others.

begin-finish : (a b : Name) (ms : List Mark) → begin a (finish b ms) ≡ finish b (begin a ms)
begin-finish a b [] = refl
begin-finish a b (m ∷ []) = refl
begin-finish a b (m ∷ k ∷ ms) = refl

begin-close : (a : Name) (names : List Name) (ms : List Mark) → begin a (close names ms) ≡ close names (begin a ms)
begin-close a [] ms = refl
begin-close a (name ∷ names) ms =
    begin-close a names (finish name ms) ∙ ap (λ (l : List Mark). close names l) (begin-finish a name ms)

-- bytes before a forest
more-after : (names : List Name) (head ms rest all : List Mark) → 0 < length ms → all ≡ close names ms ++ rest →
    head ++ all ≡ close names (head ++ ms) ++ rest
more-after names head ms rest all h e =
    ap (λ (l : List Mark). head ++ l) e
    ∙ sym (append_assoc head (close names ms) rest)
    ∙ ap (λ (l : List Mark). l ++ rest) (sym (close-append names head ms h))

join : (head : List Mark) (forest : Forest) (rest : List Token) →
    (0 < length (tokens forest) →
    plain_marks (tokens forest ++ rest) ≡ close (left_first rest) (marks forest) ++ plain_marks rest) →
    close (left_first (tokens forest ++ rest)) head ++ plain_marks (tokens forest ++ rest) ≡
    close (left_first rest) (head ++ marks forest) ++ plain_marks rest
join head forest rest same = go (tokens forest) refl
  where
    go : (ts : List Token) → tokens forest ≡ ts →
        close (left_first (tokens forest ++ rest)) head ++ plain_marks (tokens forest ++ rest) ≡
        close (left_first rest) (head ++ marks forest) ++ plain_marks rest
    go [] is =
        ap (λ (l : List Token). close (left_first (l ++ rest)) head ++ plain_marks (l ++ rest)) is
        ∙ ap (λ (l : List Mark). close (left_first rest) l ++ plain_marks rest)
        (sym (append-nil head) ∙ ap (λ (l : List Mark). head ++ l) (sym (marks-none forest is)))
    go (token ∷ ts) is =
        let some : 0 < length (tokens forest) = omega (arith, ap (λ (l : List Token). length l) is) in
        ap (λ (l : List Name). close l head ++ plain_marks (tokens forest ++ rest)) (first-opens forest rest some)
        ∙ more-after (left_first rest) head (marks forest) (plain_marks rest) (plain_marks (tokens forest ++ rest))
        (some-size forest some) (same some)

from-here : (forest : Forest) (rest : List Token) → 0 < length (tokens forest) →
    plain_marks (tokens forest ++ rest) ≡ close (left_first rest) (marks forest) ++ plain_marks rest
from-here nothing rest h = absurd (omega (arith, h))
from-here (piece name more following) rest h =
    join (piece_marks name more) following rest (λ k. from-here following rest k)
from-here (part name inside following) rest h =
    go (tokens inside) refl h (λ tail k. from-here inside tail k) (λ k. from-here following rest k)
  where
    ms : List Mark
    ms = marks inside

    later : List Token
    later = tokens following ++ rest

    go : (ts : List Token) → tokens inside ≡ ts → 0 < length (around name ts ++ tokens following) →
        ((tail : List Token) → 0 < length (tokens inside) →
        plain_marks (tokens inside ++ tail) ≡ close (left_first tail) ms ++ plain_marks tail) →
        (0 < length (tokens following) →
        plain_marks later ≡ close (left_first rest) (marks following) ++ plain_marks rest) →
        plain_marks ((around name ts ++ tokens following) ++ rest) ≡
        close (left_first rest) (finish name (begin name ms) ++ marks following) ++ plain_marks rest
    go [] is h first second =
        second h
        ∙ ap (λ (l : List Mark). close (left_first rest) (finish name (begin name l) ++ marks following) ++
        plain_marks rest)
        (sym (marks-none inside is))
    go (token ∷ ts) is h first second =
        let names : List Name = left_first later in
        let some : 0 < length (tokens inside) = omega (arith, ap (λ (l : List Token). length l) is) in
        let sized : 0 < size inside = some-size inside some in
        let long : 0 < length (close names (finish name ms)) =
        omega (arith, sized, close-length names (finish name ms), finish-length name ms) in
        ap (λ (l : List Token). begin name (plain_marks l))
        (append_assoc ((token ∷ ts) ++ t.Leaves name ∷ []) (tokens following) rest
        ∙ append_assoc (token ∷ ts) (t.Leaves name ∷ []) later
        ∙ ap (λ (l : List Token). l ++ t.Leaves name ∷ later) (sym is))
        ∙ ap (λ (l : List Mark). begin name l) (first (t.Leaves name ∷ later) some)
        ∙ begin-append name (close names (finish name ms)) (plain_marks later) long
        ∙ ap (λ (l : List Mark). l ++ plain_marks later)
        (begin-close name names (finish name ms) ∙ ap (λ (l : List Mark). close names l) (begin-finish name name ms))
        ∙ join (finish name (begin name ms)) following rest second

tokens-marks : (forest : Forest) → plain_marks (tokens forest) ≡ marks forest
tokens-marks forest = go (tokens forest) refl
  where
    go : (ts : List Token) → tokens forest ≡ ts → plain_marks (tokens forest) ≡ marks forest
    go [] is = ap plain_marks is ∙ sym (marks-none forest is)
    go (token ∷ ts) is =
        let some : 0 < length (tokens forest) = omega (arith, ap (λ (l : List Token). length l) is) in
        ap plain_marks (sym (append-nil (tokens forest))) ∙ from-here forest [] some ∙ append-nil (marks forest)

-- What a writer makes of a list of which these are the tokens of a forest are the marks of the forest.
pub forest_marks : (ts : List Token) (forest : Forest) → live ts ≡ tokens forest → token_marks [] ts ≡ marks forest
forest_marks ts forest h =
    left-marks [] ts ∙ sym (live-marks ts) ∙ ap plain_marks h ∙ tokens-marks forest
