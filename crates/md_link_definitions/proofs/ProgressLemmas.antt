-- How far definitions have come says whether anything is left after them.
use Rattle.std.proofs.Common.{◌≡◌, ℕ, zero, suc, ◌+◌, ◌≤◌, ◌&&◌, ◌||◌, Bool, true, false, not, nat_le, length, List, []}
use Rattle.std.proofs.Common.{◌∷◌, ◌++◌, Option, Some, None, if◌then◌else◌, refl, sym, ◌∙◌, ap, arith, zero-add}
use Rattle.std.specs.List.{list_all}
use Rattle.std.specs.Prelude.{◌==◌, is_some, sum_by}
use Rattle.std.proofs.lemmas.Bool.{eqb-true, and_parts}
use Rattle.std.proofs.lemmas.Bool.Decides.{nat_tests}
use Rattle.std.proofs.lemmas.List.Sums.{sum_by-cons}
use Rattle.std.proofs.Math.Bool.{and-true}
use Rattle.md_meaning.proofs.DefinitionLemmas.{cut_definitions-none, cut_definitions-some, length-definition_at}
use Rattle.md_meaning.specs.Ascii.{colon, left_bracket, right_bracket}
use Rattle.md_meaning.specs.Bytes.{after_optional}
use Rattle.md_meaning.specs.Definition.{Cut, Defined, Destination, after_colon, after_gap, alone, cut_definitions}
use Rattle.md_meaning.specs.Definition.{definition_at, destination_at, is_label, label_at, title_after, title_at}
use Rattle.md_meaning.specs.Definition.{title_closer, with_destination, with_title}
use Rattle.md_meaning.specs.Enclosed.{Broken, Closed, Enclosed, Lines, Open, enclosed, enclosed_lines, with_line}
use Rattle.md_meaning.specs.Lines.{begins_with}
use Rattle.md_meaning.specs.Rest.{is_blank, is_parted, is_white, trim_start}
use Rattle.md_link_definitions.proofs.CellLineLemmas.{all-enclosed, by_line}
use Rattle.md_link_definitions.proofs.TitleLines as titles
use Rattle.md_engine.specs.declared.tokenizer.held_leaf.Progress.{Progress}
use Rattle.md_engine.specs.declared.tokenizer.held_leaf.Progress.TheVariants.{BeforeDestination, Fresh, InLabel}
use Rattle.md_engine.specs.declared.tokenizer.held_leaf.Progress.TheVariants.{InTitle, Left, Untitled}
use Rattle.md_link_definitions.specs.Progress.{begin, following_colon, after_destination, after_label, destination_by}
use Rattle.md_link_definitions.specs.Progress.{destination_on, has_room, is_filled, is_none_left, is_whole, label_by}
use Rattle.md_link_definitions.specs.Progress.{label_from, progress, step, steps, title_by, title_on, title_with}

-- More lines continue where the first ended.
pub steps-append : (p : Progress) (lines more : List (List ℕ)) → steps p (lines ++ more) ≡ steps (steps p lines) more
unfolding steps
steps-append p [] more = refl
steps-append p (line ∷ lines) more = steps-append (step p line) lines more

-- What is kept of an open text is stepped by each line.
pub progress-snoc : (lines : List (List ℕ)) (line : List ℕ) →
    progress (lines ++ line ∷ []) ≡ step (progress lines) line
unfolding steps
progress-snoc lines line = steps-append Fresh lines (line ∷ [])

-- whether nothing is left after these lines, so far already
abbrev whole_from : Progress → List (List ℕ) → Bool
whole_from p lines = is_whole (steps p lines)

-- What is left stays.
whole-left : (lines : List (List ℕ)) → whole_from Left lines ≡ false
unfolding step steps
whole-left [] = refl
whole-left (line ∷ lines) = whole-left lines

-- Titles.

-- whether nothing is left after a title; where there is none, this
abbrev after_title : Bool → Option Lines → Bool
after_title otherwise None = otherwise
after_title otherwise (Some title) = whole_from Fresh title.rest

-- The lines before its last do not matter.
alone-line : (line : List ℕ) (found : Option Lines) →
    after_title false (alone (with_line line found)) ≡ after_title false (alone found)
alone-line line None = refl
alone-line line (Some t) = go t.rest
  where
    kept : (blank : Bool) (text : List (List ℕ)) (rest : List (List ℕ)) →
        after_title false (if blank then Some (record { text = line ∷ text; rest = rest }) else None) ≡
        after_title false (if blank then Some (record { text = text; rest = rest }) else None)
    kept true text rest = refl
    kept false text rest = refl

    go : (rest : List (List ℕ)) →
        after_title false (alone (Some (record { text = line ∷ t.text; rest = rest }))) ≡
        after_title false (alone (Some (record { text = t.text; rest = rest })))
    go [] = refl
    go (rest ∷ lines) = kept (is_blank rest) t.text lines

-- The lines of a title that is open.
whole-in_title : (opener closer : ℕ) (lines : List (List ℕ)) →
    whole_from (InTitle opener closer) lines ≡ after_title false (alone (enclosed_lines opener closer lines))
unfolding enclosed_lines step steps
whole-in_title opener closer [] = refl
whole-in_title opener closer (line ∷ lines) =
    go (enclosed opener closer false line) (whole-in_title opener closer lines)
    ∙ ap (λ (o : Option Lines). after_title false (alone o)) (sym (all-enclosed opener closer (line ∷ lines)))
  where
    kept : (blank : Bool) (text : List ℕ) →
        whole_from (if blank then Fresh else Left) lines ≡
        after_title false (if blank then Some (record { text = text ∷ []; rest = lines }) else None)
    kept true text = refl
    kept false text = whole-left lines

    go : (e : Enclosed) →
        whole_from (InTitle opener closer) lines ≡ after_title false (alone (enclosed_lines opener closer lines)) →
        whole_from (title_by opener closer e) lines ≡ after_title false (alone (by_line opener closer e line lines))
    go (Closed text rest) further = kept (is_blank rest) text
    go Open further = further ∙ sym (alone-line line (enclosed_lines opener closer lines))
    go Broken further = whole-left lines

-- A line where a title is next.
whole-title_on : (line : List ℕ) (lines : List (List ℕ)) →
    whole_from (title_on line) lines ≡ after_title false (title_at (line ∷ lines))
unfolding title_at step steps
whole-title_on [] lines = whole-left lines
whole-title_on (b ∷ bs) lines =
    go (title_closer b) ∙ ap (after_title false) (sym (titles.title-on b bs lines))
  where
    go : (closer : Option ℕ) →
        whole_from (title_with b bs closer) lines ≡ after_title false (titles.title_on closer b (bs ∷ lines))
    go None = whole-left lines
    go (Some closer) = whole-in_title b closer (bs ∷ lines)

-- No definition begins with the mark of a title,
no-bracket : (b closer : ℕ) → title_closer b ≡ Some closer → (b == left_bracket) ≡ false
no-bracket b closer e = go (b == left_bracket) refl
  where
    go : (x : Bool) → (b == left_bracket) ≡ x → x ≡ false
    go true k = let none : title_closer b ≡ None = ap title_closer (eqb-true b left_bracket k) in cc
    go false k = refl

-- so something is left where it is read as one.
whole-marked : (b : ℕ) (bs : List ℕ) (lines : List (List ℕ)) → (b == left_bracket) ≡ false →
    whole_from (begin (b ∷ bs)) lines ≡ false
whole-marked b bs lines e = rw e (whole-left lines)

-- So where a title on lines of its own fails, something is left, with it or without.
whole-untitled : (lines : List (List ℕ)) →
    whole_from Untitled lines ≡ after_title (whole_from Fresh lines) (title_at lines)
unfolding title_at step steps
whole-untitled [] = refl
whole-untitled ([] ∷ lines) = refl
whole-untitled ((b ∷ bs) ∷ lines) =
    go (title_closer b) refl
    ∙ ap (after_title (whole_from (begin (b ∷ bs)) lines)) (sym (titles.title-on b bs lines))
  where
    go : (closer : Option ℕ) → title_closer b ≡ closer →
        whole_from (if is_some closer then title_with b bs closer else begin (b ∷ bs)) lines ≡
        after_title (whole_from (begin (b ∷ bs)) lines) (titles.title_on closer b (bs ∷ lines))
    go None e = refl
    go (Some closer) e =
        whole-in_title b closer (bs ∷ lines)
        ∙ ap (λ (otherwise : Bool). after_title otherwise (alone (enclosed_lines b closer (bs ∷ lines))))
        (sym (whole-marked b bs lines (no-bracket b closer e)))

-- Destinations.

-- whether nothing is left after a definition, if there is one
abbrev after_cut : Option Cut → Bool
after_cut None = false
after_cut (Some cut) = whole_from Fresh cut.rest

-- Whitespace alone parts.
blank-parted : (line : List ℕ) → is_blank line ≡ true → is_parted line ≡ true
blank-parted [] e = refl
blank-parted (b ∷ bs) e = (and_parts (is_white b) (is_blank bs) e).0

-- What follows a destination: a title on the same line, or one that may follow on the next.
whole-after_destination : (rest : List ℕ) (lines : List (List ℕ)) →
    whole_from (after_destination rest) lines ≡
    after_title (if is_blank rest then whole_from Fresh lines else false) (title_after rest lines)
whole-after_destination rest lines = go (is_blank rest) (is_parted rest) (blank-parted rest)
  where
    go : (blank parted : Bool) → (blank ≡ true → parted ≡ true) →
        whole_from (if blank then Untitled else if parted then title_on (trim_start rest) else Left) lines ≡
        after_title (if blank then whole_from Fresh lines else false)
        (if parted then title_at (if blank then lines else trim_start rest ∷ lines) else None)
    go true true parts = whole-untitled lines
    go true false parts = let never : false ≡ true = parts refl in cc
    go false true parts = whole-title_on (trim_start rest) lines
    go false false parts = whole-left lines

-- The definition ends with its title, or with the line of its destination.
cut-title : (label : List (List ℕ)) (d : Destination) (lines : List (List ℕ)) →
    after_title (if is_blank d.rest then whole_from Fresh lines else false) (title_after d.rest lines) ≡
    after_cut (with_title label d lines)
cut-title label d lines = go (is_blank d.rest) (title_after d.rest lines)
  where
    go : (blank : Bool) (found : Option Lines) →
        after_title (if blank then whole_from Fresh lines else false) found ≡
        after_cut (elim found [
          | Some title ↦ Some
              (record {
                defined = record { label = label; destination = d.text; title = Some title.text };
                rest = title.rest;
              })
          | None ↦ (if blank
              then Some
              (record { defined = record { label = label; destination = d.text; title = None }; rest = lines })
              else None)
        ])
    go blank (Some title) = refl
    go true None = refl
    go false None = refl

-- A line where a destination is next.
whole-destination_on : (label : List (List ℕ)) (line : List ℕ) (lines : List (List ℕ)) →
    whole_from (destination_on line) lines ≡ after_cut (with_destination label (line ∷ lines))
whole-destination_on label line lines = go (destination_at line)
  where
    go : (found : Option Destination) →
        whole_from (destination_by found) lines ≡
        after_cut (elim found [ Some d ↦ with_title label d lines | None ↦ None ])
    go None = whole-left lines
    go (Some d) = whole-after_destination d.rest lines ∙ cut-title label d lines

-- The lines after a `:` that nothing follows on its line.
whole-before_destination : (label : List (List ℕ)) (lines : List (List ℕ)) →
    whole_from BeforeDestination lines ≡ after_cut (with_destination label lines)
unfolding step steps
whole-before_destination label [] = refl
whole-before_destination label (line ∷ lines) = whole-destination_on label line lines

-- What follows a `:`.
whole-following_colon : (label : List (List ℕ)) (rest : List ℕ) (lines : List (List ℕ)) →
    whole_from (following_colon rest) lines ≡ after_cut (with_destination label (after_gap (rest ∷ lines)))
whole-following_colon label rest lines = go (is_blank rest)
  where
    go : (blank : Bool) →
        whole_from (if blank then BeforeDestination else destination_on (trim_start rest)) lines ≡
        after_cut (with_destination label (if blank then lines else trim_start rest ∷ lines))
    go true = whole-before_destination label lines
    go false = whole-destination_on label (trim_start rest) lines

-- Labels.

-- the definition with this label, after its `:`
abbrev cut_from : List (List ℕ) → Option (List (List ℕ)) → Option Cut
cut_from label None = None
cut_from label (Some more) = with_destination label (after_gap more)

-- What follows a `]`.
whole-after_label : (label : List (List ℕ)) (rest : List ℕ) (lines : List (List ℕ)) →
    whole_from (after_label rest) lines ≡ after_cut (cut_from label (after_colon (rest ∷ lines)))
whole-after_label label rest lines = go (begins_with colon rest)
  where
    go : (x : Bool) →
        whole_from (if x then following_colon (after_optional colon rest) else Left) lines ≡
        after_cut (cut_from label (if x then Some (after_optional colon rest ∷ lines) else None))
    go true = whole-following_colon label (after_optional colon rest) lines
    go false = whole-left lines

-- whether nothing is left after a label, by the lines that follow, first the rest of one
abbrev after_close : List (List ℕ) → Bool
after_close [] = false
after_close (rest ∷ lines) = whole_from (after_label rest) lines

-- The same, where the rest of the line may be missing.
close-cut : (label rest : List (List ℕ)) → after_close rest ≡ after_cut (cut_from label (after_colon rest))
close-cut label [] = refl
close-cut label (rest ∷ lines) = whole-after_label label rest lines

-- whether such a text, with what was before it, is a label
abbrev fits : ℕ → Bool → List (List ℕ) → Bool
fits size filled text = (filled || not (list_all is_blank text)) && nat_le (size + sum_by length text) 999

-- whether nothing is left after a label, if there is one
abbrev after_text : ℕ → Bool → Option Lines → Bool
after_text size filled None = false
after_text size filled (Some label) = if fits size filled label.text then after_close label.rest else false

-- The last line of a label.
fits-last : (size : ℕ) (filled : Bool) (text : List ℕ) →
    fits size filled (text ∷ []) ≡ (is_filled filled text && has_room size text)
fits-last size filled text = rw (and-true, zero-add) refl

-- A text is blank if its first line and the others are.
or-not : (filled x y : Bool) → (filled || not (x && y)) ≡ ((filled || not x) || not y)
or-not true x y = refl
or-not false true y = refl
or-not false false y = refl

-- A test that another implies may be before it.
and-part : (x whole part : Bool) → (whole ≡ true → part ≡ true) → (x && whole) ≡ (part && (x && whole))
and-part true true part e = rw (e refl) refl
and-part true false true e = refl
and-part true false false e = refl
and-part false whole true e = refl
and-part false whole false e = refl

-- fewer bytes have room too
room-part : (size more : ℕ) → nat_le (size + more) 999 ≡ true → nat_le size 999 ≡ true
room-part size more e = grind (arith, nat_tests)

-- A further line of a label.
fits-line : (size : ℕ) (filled : Bool) (line : List ℕ) (text : List (List ℕ)) →
    fits size filled (line ∷ text) ≡
    (has_room size line && fits (size + length line) (is_filled filled line) text)
fits-line size filled line text =
    let total : size + sum_by length (line ∷ text) ≡ size + length line + sum_by length text = omega
    (arith, sum_by-cons length line text) in
    ap (λ (x : Bool). x && nat_le (size + sum_by length (line ∷ text)) 999)
    (or-not filled (is_blank line) (list_all is_blank text))
    ∙ ap (λ (n : ℕ). (is_filled filled line || not (list_all is_blank text)) && nat_le n 999) total
    ∙ and-part (is_filled filled line || not (list_all is_blank text))
    (nat_le (size + length line + sum_by length text) 999) (has_room size line)
    (room-part (size + length line) (sum_by length text))

-- A label continues after its first line, with its bytes counted.
text-line : (size : ℕ) (filled : Bool) (line : List ℕ) (found : Option Lines) →
    (if has_room size line then after_text (size + length line) (is_filled filled line) found else false) ≡
    after_text size filled (with_line line found)
text-line size filled line None = go (has_room size line)
  where
    go : (x : Bool) → (if x then false else false) ≡ false
    go true = refl
    go false = refl
text-line size filled line (Some t) =
    go (has_room size line) (fits (size + length line) (is_filled filled line) t.text)
    ∙ ap (λ (x : Bool). if x then after_close t.rest else false) (sym (fits-line size filled line t.text))
  where
    go : (x y : Bool) →
        (if x then (if y then after_close t.rest else false) else false) ≡
        (if x && y then after_close t.rest else false)
    go true y = refl
    go false y = refl

-- The lines of a label that is open.
whole-in_label : (size : ℕ) (filled : Bool) (lines : List (List ℕ)) →
    whole_from (InLabel size filled) lines ≡
    after_text size filled (enclosed_lines left_bracket right_bracket lines)
unfolding enclosed_lines step steps
whole-in_label size filled [] = refl
whole-in_label size filled (line ∷ lines) =
    go (enclosed left_bracket right_bracket false line)
    (whole-in_label (size + length line) (is_filled filled line) lines)
    ∙ ap (after_text size filled) (sym (all-enclosed left_bracket right_bracket (line ∷ lines)))
  where
    closed : (x : Bool) (rest : List ℕ) →
        whole_from (if x then after_label rest else Left) lines ≡
        (if x then whole_from (after_label rest) lines else false)
    closed true rest = refl
    closed false rest = whole-left lines

    open_on : (x : Bool) (rest : Bool) →
        whole_from (InLabel (size + length line) (is_filled filled line)) lines ≡ rest →
        whole_from (if x then InLabel (size + length line) (is_filled filled line) else Left) lines ≡
        (if x then rest else false)
    open_on true rest e = e
    open_on false rest e = whole-left lines

    go : (e : Enclosed) →
        whole_from (InLabel (size + length line) (is_filled filled line)) lines ≡
        after_text (size + length line) (is_filled filled line)
        (enclosed_lines left_bracket right_bracket lines) →
        whole_from (label_by size filled line e) lines ≡
        after_text size filled (by_line left_bracket right_bracket e line lines)
    go (Closed text rest) further =
        closed (is_filled filled text && has_room size text) rest
        ∙ ap (λ (x : Bool). if x then whole_from (after_label rest) lines else false)
        (sym (fits-last size filled text))
    go Open further =
        open_on (has_room size line) _ further
        ∙ text-line size filled line (enclosed_lines left_bracket right_bracket lines)
    go Broken further = whole-left lines

-- Definitions.

-- A whole label.
fits-label : (text : List (List ℕ)) → fits 0 false text ≡ is_label text
fits-label text = rw zero-add refl

-- the definition with this label, if there is one
abbrev cut_at : Option Lines → Option Cut
cut_at None = None
cut_at (Some label) = cut_from label.text (after_colon label.rest)

-- the label, if it may be one
abbrev checked : Option Lines → Option Lines
checked None = None
checked (Some label) = if is_label label.text then Some label else None

-- A label, and what follows it.
whole-label : (found : Option Lines) → after_text 0 false found ≡ after_cut (cut_at (checked found))
whole-label None = refl
whole-label (Some label) =
    ap (λ (x : Bool). if x then after_close label.rest else false) (fits-label label.text) ∙ go (is_label label.text)
  where
    go : (x : Bool) →
        (if x then after_close label.rest else false) ≡ after_cut (cut_at (if x then Some label else None))
    go true = close-cut label.text label.rest
    go false = refl

-- A line where a definition is next.
whole-line : (line : List ℕ) (lines : List (List ℕ)) →
    whole_from Fresh (line ∷ lines) ≡ after_cut (definition_at (line ∷ lines))
unfolding definition_at label_at step steps
whole-line line lines =
    go (begins_with left_bracket line) (whole-in_label 0 false (after_optional left_bracket line ∷ lines))
  where
    found : Option Lines
    found = enclosed_lines left_bracket right_bracket (after_optional left_bracket line ∷ lines)

    go : (x : Bool) →
        whole_from (InLabel 0 false) (after_optional left_bracket line ∷ lines) ≡ after_text 0 false found →
        whole_from (if x then label_from 0 false (after_optional left_bracket line) else Left) lines ≡
        after_cut (cut_at (if x then checked found else None))
    go true further = further ∙ whole-label found
    go false further = whole-left lines

-- After a definition all begins anew.
pub progress-some : (lines : List (List ℕ)) (cut : Cut) → definition_at lines ≡ Some cut →
    is_whole (progress lines) ≡ is_whole (progress cut.rest)
progress-some [] cut e = absurd (omega (arith, length-definition_at [] cut e))
progress-some (line ∷ lines) cut e = whole-line line lines ∙ ap after_cut e

-- Where no definition begins, any line is left.
pub progress-none : (lines : List (List ℕ)) → definition_at lines ≡ None →
    is_whole (progress lines) ≡ is_none_left lines
unfolding steps
progress-none [] e = refl
progress-none (line ∷ lines) e = whole-line line lines ∙ ap after_cut e

-- No definition begins without a line.
none-at : definition_at [] ≡ None
unfolding definition_at label_at
none-at = refl

-- By the number of lines, since a definition takes one at least.
cut-at_most : (n : ℕ) (lines : List (List ℕ)) → length lines ≤ n →
    is_whole (progress lines) ≡ is_none_left (cut_definitions lines).1
cut-at_most n [] h =
    progress-none [] none-at
    ∙ sym (ap (λ (x : List Defined × List (List ℕ)). is_none_left x.1) (cut_definitions-none [] none-at))
cut-at_most zero (line ∷ lines) h = absurd (omega arith)
cut-at_most (suc n) (line ∷ lines) h = go (definition_at (line ∷ lines)) refl (cut-at_most n)
  where
    go : (found : Option Cut) → definition_at (line ∷ lines) ≡ found →
        ((more : List (List ℕ)) → length more ≤ n →
        is_whole (progress more) ≡ is_none_left (cut_definitions more).1) →
        is_whole (progress (line ∷ lines)) ≡ is_none_left (cut_definitions (line ∷ lines)).1
    go None e fewer =
        progress-none (line ∷ lines) e
        ∙ sym
        (ap (λ (x : List Defined × List (List ℕ)). is_none_left x.1) (cut_definitions-none (line ∷ lines) e))
    go (Some cut) e fewer =
        progress-some (line ∷ lines) cut e
        ∙ fewer cut.rest (omega (arith, length-definition_at (line ∷ lines) cut e))
        ∙ sym
        (ap (λ (x : List Defined × List (List ℕ)). is_none_left x.1) (cut_definitions-some (line ∷ lines) cut e))

-- Nothing is left after the definitions of lines where the lines are whole definitions.
pub progress-cut : (lines : List (List ℕ)) → is_whole (progress lines) ≡ is_none_left (cut_definitions lines).1
progress-cut lines = cut-at_most (length lines) lines (omega arith)
