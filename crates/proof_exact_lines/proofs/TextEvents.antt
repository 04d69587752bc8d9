-- The events of texts: they hold no item, and the first block in them is a definition, a paragraph or a heading.
use Rattle.std.proofs.Common.{◌≡◌, ℕ, zero, suc, ◌+◌, ◌-◌, Bool, true, false, cond, ◌&&◌, not, List, [], ◌∷◌, ◌++◌}
use Rattle.std.proofs.Common.{length, take, drop, refl, ap, sym, ◌∙◌, subst, arith, rules, append_assoc}
use Rattle.std.specs.Prelude.{◌==◌, Option, Some, None}
use Rattle.std.specs.List.{before_first, position_or_len}
use Rattle.std.specs.Option.{is_some}
use Rattle.md_engine.specs.declared.configuration.ParseOptions.{ParseOptions}
use Rattle.md_engine.specs.declared.event.Content.{Content}
use Rattle.md_engine.specs.declared.event.Content.TheVariants.{String, Text}
use Rattle.md_engine.specs.declared.event.Event.{Event}
use Rattle.md_engine.specs.declared.event.Name.{Name}
use Rattle.md_engine.specs.declared.event.Name.TheVariants as n
use Rattle.md_meaning.specs.Ascii.{less_than}
use Rattle.md_meaning.specs.Definition.{Destination, after_gap, definition_at, destination_at, label_at, title_closer}
use Rattle.md_meaning.specs.Enclosed.{Lines, enclosed_lines}
use Rattle.md_meaning.specs.Rest.{Rest, after_indent, is_blank}
use Rattle.md_events.specs.Events.Blocks.{is_block}
use Rattle.md_events.specs.Events.Spelled.{role}
use Rattle.md_containers.specs.Listed.{is_item, next_item}
use Rattle.md_events.specs.Exact.Leaves.{first_end, last_end, leaf, onto_next, runs_line, span, start}
use Rattle.md_events.specs.Exact.Places.{TextLine, chunk, is_same, line_end, next_line, past, white}
use Rattle.md_events.specs.Exact.Rows.{Row}
use Rattle.md_events.specs.Exact.Texts.{ahead, back, after_destination, following_gap, after_label, after_title, chunks}
use Rattle.md_events.specs.Exact.Texts.{definition, definition_end, destination_part, enclosed_part, gap, has_title}
use Rattle.md_events.specs.Exact.Texts.{is_underline}
use Rattle.md_events.specs.Exact.Texts.{left, lines_left, mark, next_byte, on_first, remaining, text, text_events, text_span}
use Rattle.proof_exact_lines.specs.Unlisted.{NoneIs}
use Rattle.proof_exact_lines.proofs.LeafEvents.{NoItem, Plain, item-append, item-around, item-chunk, leaf-items}
use Rattle.proof_exact_lines.proofs.LeafEvents.{next-none, runs_line-items}
use Rattle.proof_exact_lines.proofs.ListWalk.{next-passes, none-append, none-items, none-piece}

-- Places in a text.

-- what is before all lines but the first is of no block
abbrev pub Further : List Row → Type 0
Further [] = Unit {0}
Further (row ∷ rows) = Plain rows

plain-further : (rows : List Row) → Plain rows → Further rows
plain-further [] h = tt
plain-further (row ∷ rows) h = h.1

drop-plain : (size : ℕ) (rows : List Row) → Plain rows → Plain (drop size rows)
drop-plain zero rows h = h
drop-plain (suc size) [] h = tt
drop-plain (suc size) (row ∷ rows) h = drop-plain size rows h.1

take-plain : (size : ℕ) (rows : List Row) → Plain rows → Plain (take size rows)
take-plain zero rows h = tt
take-plain (suc size) [] h = tt
take-plain (suc size) (row ∷ rows) h = (h.0, take-plain size rows h.1)

drop-further : (size : ℕ) (rows : List Row) → Further rows → Further (drop size rows)
drop-further zero rows h = h
drop-further (suc size) [] h = tt
drop-further (suc size) (row ∷ rows) h = plain-further (drop size rows) (drop-plain size rows h)

on_first-further : (f : Rest → Rest) (rows : List Row) → Further rows → Further (on_first f rows)
on_first-further f [] h = tt
on_first-further f (row ∷ rows) h = h

ahead-further : (rows : List Row) (others size : ℕ) → Further rows → Further (ahead rows others size)
ahead-further rows others size h =
    on_first-further (λ r. past (length r.bytes - size) r) (drop (length rows - (others + 1)) rows)
    (drop-further (length rows - (others + 1)) rows h)

left-further : (rows : List Row) (lines : List (List ℕ)) → Further rows → Further (left rows lines)
left-further rows [] h = tt
left-further rows (bytes ∷ more) h = ahead-further rows (length more) (length bytes) h

label-further : (rows : List Row) → Further rows → Further (after_label rows)
label-further rows h = go (label_at (lines_left rows))
  where
    go : (o : Option Lines) → Further (elim o [ Some label ↦ left rows label.rest | None ↦ [] ])
    go None = tt
    go (Some label) = left-further rows label.rest h

destination-further : (rows : List Row) → Further rows → Further (after_destination rows)
destination-further [] h = tt
destination-further (row ∷ rows) h = go (destination_at row.rest.bytes)
  where
    go : (o : Option Destination) →
        Further (elim o [ Some d ↦ ahead (row ∷ rows) (length rows) (length d.rest) | None ↦ [] ])
    go None = tt
    go (Some d) = ahead-further (row ∷ rows) (length rows) (length d.rest) h

title-further : (rows : List Row) → Further rows → Further (after_title rows)
title-further rows h = go (title_closer (next_byte rows))
  where
    text-further : (o : Option Lines) → Further (elim o [ Some text ↦ left rows text.rest | None ↦ [] ])
    text-further None = tt
    text-further (Some text) = left-further rows text.rest h

    go : (o : Option ℕ) →
        Further
        (elim o [
          | Some closer ↦ elim (enclosed_lines (next_byte rows) closer (lines_left (on_first (past 1) rows))) [
            | Some text ↦ left rows text.rest
            | None ↦ []
          ]
          | None ↦ []
        ])
    go None = tt
    go (Some closer) = text-further (enclosed_lines (next_byte rows) closer (lines_left (on_first (past 1) rows)))

gap-further : (rows : List Row) → Further rows → Further (following_gap rows)
gap-further rows h = left-further rows (after_gap (lines_left rows)) h

value-further : (rows : List Row) → Further rows → Further (on_first (past 1) (after_label rows))
value-further rows h = on_first-further (past 1) (after_label rows) (label-further rows h)

to-further : (rows : List Row) → Further rows →
    Further (after_destination (following_gap (on_first (past 1) (after_label rows))))
to-further rows h =
    destination-further (following_gap (on_first (past 1) (after_label rows)))
    (gap-further (on_first (past 1) (after_label rows)) (value-further rows h))

end-further : (rows : List Row) → Further rows → Further (definition_end rows)
end-further rows h = go (has_title following)
  where
    following : List Row
    following = after_destination (following_gap (on_first (past 1) (after_label rows)))

    go : (x : Bool) → Further (cond x (after_title (following_gap following)) following)
    go true = title-further (following_gap following) (gap-further following (to-further rows h))
    go false = to-further rows h

-- Parts of a text.

mark-items : (name : Name) → is_item (role name) ≡ false → (rows : List Row) → NoItem (mark name rows)
mark-items name e [] = tt
mark-items name e (row ∷ rows) = none-piece is_item row.line name row.rest (past 1 row.rest) e

white-none : (line : TextLine) (r s : Rest) → NoneIs is_block (white line r s)
white-none line r s = none-piece is_block line n.SpaceOrTab r s refl

gap-none : (rows ends : List Row) → Further rows → NoneIs is_block (gap rows ends)
gap-none [] ends h = tt
gap-none (row ∷ rows) [] h = tt
gap-none (row ∷ rows) (end ∷ ends) h =
    go (gap-none rows (end ∷ ends) (plain-further rows h)) (length rows == length ends)
  where
    go : NoneIs is_block (gap rows (end ∷ ends)) → (x : Bool) →
        NoneIs is_block
        (cond x (white row.line row.rest end.rest)
        (white row.line row.rest (line_end row.line) ++ onto_next (row ∷ rows) ++ gap rows (end ∷ ends)))
    go more true = white-none row.line row.rest end.rest
    go more false =
        none-append is_block (white row.line row.rest (line_end row.line) ++ onto_next (row ∷ rows))
        (gap rows (end ∷ ends))
        (none-append is_block (white row.line row.rest (line_end row.line)) (onto_next (row ∷ rows))
        (white-none row.line row.rest (line_end row.line)) (next-none row rows h))
        more

gap-items : (rows ends : List Row) → Further rows → NoItem (gap rows ends)
gap-items rows ends h = none-items (gap rows ends) (gap-none rows ends h)

chunks-items : (c : Content) (rows ends : List Row) → Further rows → NoItem (chunks c rows ends)
chunks-items c [] ends h = tt
chunks-items c (row ∷ rows) [] h = tt
chunks-items c (row ∷ []) (end ∷ ends) h = go (0 == length ends) (is_same row.rest end.rest)
  where
    go : (x y : Bool) →
        NoItem
        (cond x (cond y [] (chunk c (start (row ∷ [])) (start (end ∷ ends))))
        (chunk c (start (row ∷ [])) (next_line row.line) ++ [] ++ []))
    go true true = tt
    go true false = item-chunk c (start (row ∷ [])) (start (end ∷ ends))
    go false y = item-chunk c (start (row ∷ [])) (next_line row.line)
chunks-items c (row ∷ next ∷ rows) (end ∷ ends) h =
    go (chunks-items c (next ∷ rows) (end ∷ ends) h.1) (length (next ∷ rows) == length ends)
    (is_same row.rest end.rest)
  where
    go : NoItem (chunks c (next ∷ rows) (end ∷ ends)) → (x y : Bool) →
        NoItem
        (cond x (cond y [] (chunk c (start (row ∷ next ∷ rows)) (start (end ∷ ends))))
        (chunk c (start (row ∷ next ∷ rows)) (next_line row.line) ++ next.front ++ chunks c (next ∷ rows) (end ∷ ends)))
    go more true true = tt
    go more true false = item-chunk c (start (row ∷ next ∷ rows)) (start (end ∷ ends))
    go more false y =
        item-append (chunk c (start (row ∷ next ∷ rows)) (next_line row.line) ++ next.front)
        (chunks c (next ∷ rows) (end ∷ ends))
        (item-append (chunk c (start (row ∷ next ∷ rows)) (next_line row.line)) next.front
        (item-chunk c (start (row ∷ next ∷ rows)) (next_line row.line)) (none-items next.front h.0))
        more

-- A text part is what its chunks are, with a begin and an end around them, if there are any.
abbrev spanned : Name → List Row → List Row → List Event → List Event
spanned name rows ends [] = []
spanned name rows ends (e ∷ es) = span name rows ends (e ∷ es)

spanned-items : (name : Name) (rows ends : List Row) (es : List Event) → is_item (role name) ≡ false → NoItem es →
    NoItem (spanned name rows ends es)
spanned-items name rows ends [] h k = tt
spanned-items name rows ends (e ∷ es) h k = item-around name (start rows) (start ends) (e ∷ es) h k

span-items : (c : Content) (name : Name) (rows ends : List Row) → is_item (role name) ≡ false → Further rows →
    NoItem (text_span c name rows ends)
span-items c name rows ends h k = spanned-items name rows ends (chunks c rows ends) h (chunks-items c rows ends k)

-- Definitions.

enclosed-items : (name marker text : Name) (rows ends : List Row) → is_item (role name) ≡ false →
    is_item (role marker) ≡ false → is_item (role text) ≡ false → Further rows →
    NoItem (enclosed_part name marker text rows ends)
enclosed-items name marker text rows ends h k l further =
    let close = back rows ends in
    let inside = text_span String text (on_first (past 1) rows) close in
    item-around name (start rows) (start ends) (mark marker rows ++ inside ++ mark marker close) h
    (item-append (mark marker rows ++ inside) (mark marker close)
    (item-append (mark marker rows) inside (mark-items marker k rows)
    (span-items String text (on_first (past 1) rows) close l (on_first-further (past 1) rows further)))
    (mark-items marker k close))

destination-items : (rows ends : List Row) → Further rows → NoItem (destination_part rows ends)
destination-items rows ends h =
    item-around n.DefinitionDestination (start rows) (start ends) _ refl (go (next_byte rows == less_than))
  where
    string : List Event
    string = text_span String n.DefinitionDestinationString rows ends

    go : (x : Bool) →
        NoItem
        (cond x
        (enclosed_part n.DefinitionDestinationLiteral n.DefinitionDestinationLiteralMarker
        n.DefinitionDestinationString rows ends)
        (span n.DefinitionDestinationRaw rows ends string))
    go true =
        enclosed-items n.DefinitionDestinationLiteral n.DefinitionDestinationLiteralMarker
        n.DefinitionDestinationString rows ends refl refl refl h
    go false =
        item-around n.DefinitionDestinationRaw (start rows) (start ends) string refl
        (span-items String n.DefinitionDestinationString rows ends refl h)

definition-items : (rows : List Row) → Further rows → NoItem (definition rows)
definition-items rows h =
    item-around n.Definition (start rows) (start (first_end end)) (inside (has_title to)) refl (by (has_title to))
  where
    label : List Row
    label = after_label rows

    value : List Row
    value = on_first (past 1) label

    from : List Row
    from = following_gap value

    to : List Row
    to = after_destination from

    title : List Row
    title = following_gap to

    end : List Row
    end = definition_end rows

    first : List Event
    first = enclosed_part n.DefinitionLabel n.DefinitionLabelMarker n.DefinitionLabelString rows label

    front : List Event
    front = first ++ mark n.DefinitionMarker label ++ gap value from ++ destination_part from to

    titled : Bool → List Event
    titled x =
        cond x
        (gap to title ++ enclosed_part n.DefinitionTitle n.DefinitionTitleMarker n.DefinitionTitleString title end)
        []

    inside : Bool → List Event
    inside x = front ++ titled x ++ gap end (first_end end)

    front-items : NoItem front
    front-items =
        item-append (first ++ mark n.DefinitionMarker label ++ gap value from) (destination_part from to)
        (item-append (first ++ mark n.DefinitionMarker label) (gap value from)
        (item-append first (mark n.DefinitionMarker label)
        (enclosed-items n.DefinitionLabel n.DefinitionLabelMarker n.DefinitionLabelString rows label refl refl refl h)
        (mark-items n.DefinitionMarker refl label))
        (gap-items value from (value-further rows h)))
        (destination-items from to (gap-further value (value-further rows h)))

    titled-items : (x : Bool) → NoItem (titled x)
    titled-items true =
        item-append (gap to title)
        (enclosed_part n.DefinitionTitle n.DefinitionTitleMarker n.DefinitionTitleString title end)
        (gap-items to title (to-further rows h))
        (enclosed-items n.DefinitionTitle n.DefinitionTitleMarker n.DefinitionTitleString title end refl refl refl
        (gap-further to (to-further rows h)))
    titled-items false = tt

    by : (x : Bool) → NoItem (inside x)
    by x =
        item-append (front ++ titled x) (gap end (first_end end))
        (item-append front (titled x) front-items (titled-items x))
        (gap-items end (first_end end) (end-further rows h))

-- What remains of a text.

-- the end of the last of some rows is one place
record One (rows : List Row) : Type 0 where
  end : Row
  is : rows ≡ end ∷ []

last-one : (row : Row) (rows : List Row) → One (last_end (row ∷ rows))
last-one row [] = record { end = record row { rest = line_end row.line }; is = refl }
last-one row (next ∷ rows) = last-one next rows

remaining-items : (unders rows : List Row) → Plain unders → Further rows → NoItem (remaining unders rows)
remaining-items [] [] h k = tt
remaining-items (under ∷ unders) [] h k = tt
remaining-items [] (row ∷ rows) h k = span-items Text n.Paragraph (row ∷ rows) (last_end (row ∷ rows)) refl k
remaining-items (under ∷ unders) (row ∷ rows) h k =
    let end = last_end (row ∷ rows) in
    let string = text_span Text n.HeadingSetextText (row ∷ rows) end in
    let line = leaf n.HeadingSetextUnderline (runs_line n.HeadingSetextUnderlineSequence) (under ∷ []) in
    item-around n.HeadingSetext (start (row ∷ rows)) (start (first_end (under ∷ [])))
    (string ++ onto_next (end ++ under ∷ []) ++ line) refl
    (item-append (string ++ onto_next (end ++ under ∷ [])) line
    (item-append string (onto_next (end ++ under ∷ []))
    (span-items Text n.HeadingSetextText (row ∷ rows) end refl k)
    (none-items (onto_next (end ++ under ∷ []))
    (subst (λ (rows : List Row). NoneIs is_block (onto_next (rows ++ under ∷ []))) (sym (last-one row rows).is)
    (next-none (last-one row rows).end (under ∷ []) (h.0, tt)))))
    (leaf-items n.HeadingSetextUnderline (runs_line n.HeadingSetextUnderlineSequence) refl
    (runs_line-items n.HeadingSetextUnderlineSequence refl) under [] tt))

-- Texts.

text_events-items : (remain : List Row → List Event) → ((rows : List Row) → Further rows → NoItem (remain rows)) →
    (size : ℕ) (rows : List Row) → Further rows → NoItem (text_events remain size rows)
text_events-items remain h zero rows k = h rows k
text_events-items remain h (suc size) rows k =
    go
    (text_events-items remain h size (drop 1 end) (drop-further 1 end (end-further first first-further)))
    (is_some (definition_at (lines_left first)))
  where
    first : List Row
    first = on_first after_indent rows

    first-further : Further first
    first-further = on_first-further after_indent rows k

    end : List Row
    end = definition_end first

    way : (rows : List Row) → Further rows → NoItem (onto_next rows)
    way [] f = tt
    way (row ∷ rows) f = none-items (onto_next (row ∷ rows)) (next-none row rows f)

    go : NoItem (text_events remain size (drop 1 end)) → (x : Bool) →
        NoItem
        (cond x (gap rows first ++ definition first ++ onto_next end ++ text_events remain size (drop 1 end))
        (remain rows))
    go more true =
        item-append (gap rows first ++ definition first ++ onto_next end) (text_events remain size (drop 1 end))
        (item-append (gap rows first ++ definition first) (onto_next end)
        (item-append (gap rows first) (definition first) (gap-items rows first k)
        (definition-items first first-further))
        (way end (end-further first first-further)))
        more
    go more false = h rows k

-- The first block.

-- whatever is after these events, the next block before them is in them, and no item
abbrev pub Leads : List ℕ → List Event → Type 0
Leads bytes es = (rest : List Event) → next_item bytes (es ++ rest) ≡ None

pub leads-append : (bytes : List ℕ) (es fs : List Event) → Leads bytes es → Leads bytes (es ++ fs)
leads-append bytes es fs h = λ rest. ap (next_item bytes) (append_assoc es fs rest) ∙ h (fs ++ rest)

pub leads-following : (bytes : List ℕ) (es fs : List Event) → NoneIs is_block es → Leads bytes fs →
    Leads bytes (es ++ fs)
leads-following bytes es fs h k =
    λ rest. ap (next_item bytes) (append_assoc es fs rest) ∙ next-passes bytes es (fs ++ rest) h ∙ k rest

abbrev Filled : List Event → Type 0
Filled [] = ⊥
Filled (e ∷ es) = Unit {0}

spanned-leads : (bytes : List ℕ) (rows ends : List Row) (es : List Event) → Filled es →
    Leads bytes (spanned n.Paragraph rows ends es)
spanned-leads bytes rows ends [] h = absurd h
spanned-leads bytes rows ends (e ∷ es) h = λ rest. refl

-- a line that is not blank, and several lines, have chunks
filled-unlike : (line : TextLine) (r : Rest) → is_blank r.bytes ≡ false → is_same r (line_end line) ≡ false
filled-unlike line r h = go r.bytes h
  where
    some : (n : ℕ) → (suc n == 0) ≡ false
    some n = search rules

    go : (bytes : List ℕ) → is_blank bytes ≡ false → ((length bytes == 0) && (r.spaces == 0)) ≡ false
    go [] e = absurd (cc)
    go (b ∷ bytes) e = ap (λ (x : Bool). x && (r.spaces == 0)) (some (length bytes))

one-filled : (row end : Row) → is_same row.rest end.rest ≡ false → Filled (chunks Text (row ∷ []) (end ∷ []))
one-filled row end h =
    subst (λ (x : Bool). Filled (cond x [] (chunk Text (start (row ∷ [])) (start (end ∷ []))))) (sym h) tt

more-filled : (row next : Row) (rows : List Row) (end : Row) → Filled (chunks Text (row ∷ next ∷ rows) (end ∷ []))
more-filled row next rows end =
    subst
    (λ (x : Bool).
    Filled
    (cond x (cond (is_same row.rest end.rest) [] (chunk Text (start (row ∷ next ∷ rows)) (start (end ∷ []))))
    (chunk Text (start (row ∷ next ∷ rows)) (next_line row.line) ++ next.front
    ++ chunks Text (next ∷ rows) (end ∷ []))))
    (sym (some (length rows))) tt
  where
    some : (n : ℕ) → (suc n == 0) ≡ false
    some n = search rules

remaining-leads : (bytes : List ℕ) (unders : List Row) (row : Row) (rows : List Row) →
    is_blank row.rest.bytes ≡ false → Leads bytes (remaining unders (row ∷ rows))
remaining-leads bytes (under ∷ unders) row rows h = λ rest. refl
remaining-leads bytes [] row [] h =
    let end : Row = record row { rest = line_end row.line } in
    spanned-leads bytes (row ∷ []) (end ∷ []) (chunks Text (row ∷ []) (end ∷ []))
    (one-filled row end (filled-unlike row.line row.rest h))
remaining-leads bytes [] row (next ∷ rows) h =
    let last = last-one next rows in
    subst (λ (ends : List Row). Leads bytes (text_span Text n.Paragraph (row ∷ next ∷ rows) ends)) (sym last.is)
    (spanned-leads bytes (row ∷ next ∷ rows) (last.end ∷ []) (chunks Text (row ∷ next ∷ rows) (last.end ∷ []))
    (more-filled row next rows last.end))

text_events-leads : (bytes : List ℕ) (unders : List Row) (size : ℕ) (row : Row) (rows : List Row) →
    is_blank row.rest.bytes ≡ false → Plain rows →
    Leads bytes (text_events (remaining unders) size (row ∷ rows))
text_events-leads bytes unders zero row rows h k = remaining-leads bytes unders row rows h
text_events-leads bytes unders (suc size) row rows h k = go (is_some (definition_at (lines_left first)))
  where
    first : List Row
    first = on_first after_indent (row ∷ rows)

    end : List Row
    end = definition_end first

    more : List Event
    more = text_events (remaining unders) size (drop 1 end)

    way : List Event
    way = gap (row ∷ rows) first

    go : (x : Bool) →
        Leads bytes (cond x (way ++ definition first ++ onto_next end ++ more) (remaining unders (row ∷ rows)))
    go true =
        leads-append bytes (way ++ definition first ++ onto_next end) more
        (leads-append bytes (way ++ definition first) (onto_next end)
        (leads-following bytes way (definition first) (gap-none (row ∷ rows) first k) (λ rest. refl)))
    go false = remaining-leads bytes unders row rows h

-- A text that begins with a line that is not blank.
pub record IsText (bytes : List ℕ) (events : List Event) : Type 0 where
  pub items : NoItem events
  pub leads : Leads bytes events

pub text-is : (options : ParseOptions) (bytes : List ℕ) (row : Row) (rows : List Row) →
    is_underline row.role ≡ false → is_blank row.rest.bytes ≡ false → Plain rows →
    IsText bytes (text options (row ∷ rows))
text-is options bytes row rows first filled plain = subst Of (sym lines) (by options.constructs.definition)
  where
    size : ℕ
    size = position_or_len (λ (r : Row). is_underline r.role) rows

    Of : List Row → Type 0
    Of lines =
        IsText bytes
        (text_events (remaining (drop (length lines) (row ∷ rows)))
        (cond options.constructs.definition (length lines) 0) lines)

    more : 1 + size ≡ suc size
    more = omega arith

    lines : before_first (λ (r : Row). is_underline r.role) (row ∷ rows) ≡ row ∷ take size rows
    lines =
        ap (λ (x : Bool). take (cond (not x) (1 + size) 0) (row ∷ rows)) first
        ∙ ap (λ (n : ℕ). take n (row ∷ rows)) more

    unders : List Row
    unders = drop (length (take size rows)) rows

    by : (x : Bool) →
        IsText bytes
        (text_events (remaining unders) (cond x (length (row ∷ take size rows)) 0) (row ∷ take size rows))
    by x =
        let n : ℕ = cond x (length (row ∷ take size rows)) 0 in
        record {
          items =
              text_events-items (remaining unders)
              (λ lines h. remaining-items unders lines (drop-plain (length (take size rows)) rows plain) h) n
              (row ∷ take size rows) (take-plain size rows plain);
          leads =
              text_events-leads bytes unders n row (take size rows) filled (take-plain size rows plain);
        }
