-- The names of the events of a definition: what holds of all events with such names holds of all its events.
use Rattle.std.proofs.Common.{◌≡◌, ℕ, Bool, true, false, cond, List, [], ◌∷◌, ◌++◌, refl, zero, suc, length}
use Rattle.std.proofs.lemmas.Bool.{and_right}
use Rattle.std.specs.Prelude.{◌==◌, Option, Some, None}
use Rattle.md_content.specs.ContentRule.{following_definition, content_by, content_of, content_over, definition_in}
use Rattle.md_content.specs.Paragraph.{text_link}
use Rattle.md_content.specs.ParagraphRule.{line_events, paragraph_over}
use Rattle.md_engine.specs.declared.configuration.ParseOptions.{ParseOptions}
use Rattle.md_engine.specs.declared.event.Event.{Event}
use Rattle.md_engine.specs.declared.event.Name.{Name}
use Rattle.md_engine.specs.declared.event.Name.TheVariants as n
use Rattle.md_engine.specs.declared.event.Point.{Point}
use Rattle.md_engine.specs.Meaning.{Cell}
use Rattle.md_link_definitions.specs.Chunks.{chunks}
use Rattle.md_link_definitions.specs.DefinitionRule.{DefinitionParts, definition_end, definition_events}
use Rattle.md_link_definitions.specs.DefinitionRule.{definition_rest, is_literal, destination_begin, destination_end}
use Rattle.md_link_definitions.specs.DefinitionRule.{destination_rest, label_begin, parts_end, parts_rest, titled_part}
use Rattle.md_link_definitions.specs.DestinationRule.{after_cells, destination_part, literal_begin, literal_end}
use Rattle.md_link_definitions.specs.DestinationRule.{text_part}
use Rattle.md_link_definitions.specs.GapRule.{ending_part, gap_end, gap_part, gap_rest, white_part}
use Rattle.md_link_definitions.specs.LabelRule.{LabelParts, label_events}
use Rattle.md_link_definitions.specs.TitleRule.{TitleParts, title_events, title_text}
use Rattle.md_events.specs.Ahead.{begins_white, point_after, white_end, white_rest}
use Rattle.md_events.specs.Events.Nested.{around, enter, enter_link, exit, is_enter, pair}
use Rattle.md_events.specs.Events.Prefix.{is_prefix}
use Rattle.md_events.specs.Spaces.{any_size}
use Rattle.proof_frame.proofs.EventNames.{is_own}
use Rattle.proof_frame.proofs.EachEvent.{Each, each-append, each-as}
use Rattle.proof_frame.proofs.OutsideFacts.{IsOutside}

-- whether an event with this name is in a definition: a part of one, text, an ending, or the prefix of a container
abbrev pub is_of_definition : Name → Bool
is_of_definition n.Definition = true
is_of_definition n.DefinitionDestination = true
is_of_definition n.DefinitionDestinationLiteral = true
is_of_definition n.DefinitionDestinationLiteralMarker = true
is_of_definition n.DefinitionDestinationRaw = true
is_of_definition n.DefinitionDestinationString = true
is_of_definition n.DefinitionLabel = true
is_of_definition n.DefinitionLabelMarker = true
is_of_definition n.DefinitionLabelString = true
is_of_definition n.DefinitionMarker = true
is_of_definition n.DefinitionTitle = true
is_of_definition n.DefinitionTitleMarker = true
is_of_definition n.DefinitionTitleString = true
is_of_definition n.Data = true
is_of_definition n.LineEnding = true
is_of_definition name = is_prefix name

abbrev pub IsOfDefinition : Event → Type 0
IsOfDefinition e = is_of_definition e.name ≡ true

abbrev pub AreOfDefinition : List Event → Type 0
AreOfDefinition es = Each IsOfDefinition es

-- Resolvers pass them: none is of a heading or of a leaf of several lines, and none begins or ends a paragraph.

not-own : (name : Name) → is_of_definition name ≡ true → is_own name ≡ false
not-own n.HeadingAtx h = cc
not-own _ h = refl

pub outside-of : (e : Event) → IsOfDefinition e → IsOutside e
outside-of e is = and_right (is_enter e.kind) (is_own e.name) (not-own e.name is)

-- whether an event with this name is in a paragraph that is not read yet
abbrev pub is_paragraph_part : Name → Bool
is_paragraph_part n.Paragraph = true
is_paragraph_part n.Data = true
is_paragraph_part _ = false

paragraph-own : (name : Name) → is_paragraph_part name ≡ true → is_own name ≡ false
paragraph-own n.HeadingAtx h = cc
paragraph-own _ h = refl

-- Part by part.

both : (xs ys : List Event) → AreOfDefinition xs → AreOfDefinition ys → AreOfDefinition (xs ++ ys)
both xs ys h k = each-append IsOfDefinition xs ys h k

white-names : (cells : List Cell) (p : Point) → AreOfDefinition (white_part cells p)
white-names cells p = go (begins_white cells)
  where
    go : (x : Bool) → AreOfDefinition (cond x (pair n.SpaceOrTab p (white_end any_size cells p)) [])
    go true = (refl, (refl, tt))
    go false = tt

ending-names : (cells : List Cell) (p : Point) → AreOfDefinition (ending_part cells p)
ending-names [] p = tt
ending-names (c ∷ cs) p = go (c.byte == 10)
  where
    go : (x : Bool) → AreOfDefinition (cond x (pair n.LineEnding p c.after ++ white_part cs c.after) [])
    go true = (refl, (refl, white-names cs c.after))
    go false = tt

gap-names : (cells : List Cell) (p : Point) → AreOfDefinition (gap_part cells p)
gap-names cells p =
    let rest : List Cell = white_rest any_size cells in
    let q : Point = white_end any_size cells p in
    both (white_part cells p) (ending_part rest q) (white-names cells p) (ending-names rest q)

chunk-names : (begun : Bool) (cells : List Cell) (p : Point) → AreOfDefinition (chunks begun cells p)
chunk-names false [] p = tt
chunk-names true [] p = (refl, tt)
chunk-names false (c ∷ cs) p =
    (refl, either (c.byte == 10) c cs (chunk-names false cs c.after) (chunk-names true cs c.after))
  where
    either : (x : Bool) (c : Cell) (cs : List Cell) → AreOfDefinition (chunks false cs c.after) →
        AreOfDefinition (chunks true cs c.after) →
        AreOfDefinition (cond x (exit n.Data c.after ∷ chunks false cs c.after) (chunks true cs c.after))
    either true c cs h k = (refl, h)
    either false c cs h k = k
chunk-names true (c ∷ cs) p = either (c.byte == 10) c cs (chunk-names false cs c.after) (chunk-names true cs c.after)
  where
    either : (x : Bool) (c : Cell) (cs : List Cell) → AreOfDefinition (chunks false cs c.after) →
        AreOfDefinition (chunks true cs c.after) →
        AreOfDefinition (cond x (exit n.Data c.after ∷ chunks false cs c.after) (chunks true cs c.after))
    either true c cs h k = (refl, h)
    either false c cs h k = k

-- before others
names-around : (name : Name) (p q : Point) (es : List Event) → is_of_definition name ≡ true → AreOfDefinition es →
    AreOfDefinition (around name p q es)
names-around name p q es is h = (is, both es (exit name q ∷ []) h (is, tt))

label-names : (t : LabelParts) (p : Point) → AreOfDefinition (label_events t p)
label-names t p =
    let q : Point = t.opener.after in
    let r : Point = point_after t.text q in
    let text : List Event = around n.DefinitionLabelString q r (chunks false t.text q) in
    names-around n.DefinitionLabel p t.closer.after
    (pair n.DefinitionLabelMarker p q ++ text ++ pair n.DefinitionLabelMarker r t.closer.after) refl
    (both (pair n.DefinitionLabelMarker p q ++ text) (pair n.DefinitionLabelMarker r t.closer.after)
    (both (pair n.DefinitionLabelMarker p q) text (refl, (refl, tt))
    (names-around n.DefinitionLabelString q r (chunks false t.text q) refl (chunk-names false t.text q)))
    (refl, (refl, tt)))

text-names : (text : List ℕ) (p q : Point) → AreOfDefinition (text_part text p q)
text-names [] p q = tt
text-names (b ∷ bytes) p q = (refl, (refl, (refl, (refl, tt))))

literal-names : (p q r s : Point) (text : List Event) → AreOfDefinition text →
    AreOfDefinition (literal_begin p q ++ text ++ literal_end r s)
literal-names p q r s text h =
    both (literal_begin p q ++ text) (literal_end r s)
    (both (literal_begin p q) text (refl, (refl, (refl, (refl, tt)))) h) (refl, (refl, (refl, (refl, tt))))

destination-names : (literal : Bool) (text : List ℕ) (cells : List Cell) (p : Point) →
    AreOfDefinition (destination_part literal text cells p)
destination-names true text cells p =
    let q : Point = after_cells 1 cells p in
    let r : Point = after_cells (suc (length text)) cells p in
    literal-names p q r (after_cells (suc (suc (length text))) cells p) (text_part text q r) (text-names text q r)
destination-names false text cells p = (refl, (refl, (refl, (refl, (refl, (refl, (refl, (refl, tt))))))))

strung-names : (text : List Cell) (p : Point) → AreOfDefinition (title_text text p)
strung-names [] p = tt
strung-names (c ∷ cs) p = (
  refl,
  both (chunks false (c ∷ cs) p) (exit n.DefinitionTitleString (point_after (c ∷ cs) p) ∷ [])
      (chunk-names false (c ∷ cs) p) (refl, tt),
)

title-names : (t : TitleParts) (p : Point) → AreOfDefinition (title_events t p)
title-names t p =
    let q : Point = t.opener.after in
    let r : Point = point_after t.text q in
    names-around n.DefinitionTitle p t.closer.after
    (pair n.DefinitionTitleMarker p q ++ title_text t.text q ++ pair n.DefinitionTitleMarker r t.closer.after) refl
    (both (pair n.DefinitionTitleMarker p q ++ title_text t.text q) (pair n.DefinitionTitleMarker r t.closer.after)
    (both (pair n.DefinitionTitleMarker p q) (title_text t.text q) (refl, (refl, tt)) (strung-names t.text q))
    (refl, (refl, tt)))

titled-names : (o : Option TitleParts) (cells : List Cell) (p : Point) → AreOfDefinition (titled_part o cells p)
titled-names None cells p = tt
titled-names (Some t) cells p =
    both (gap_part cells p) (title_events t (gap_end cells p)) (gap-names cells p) (title-names t (gap_end cells p))

pub definition-names : (d : DefinitionParts) (p : Point) → AreOfDefinition (definition_events d p)
definition-names d p =
    let label : List Event = label_events d.label (label_begin d p) in
    let mark : List Event = pair n.DefinitionMarker d.label.closer.after d.colon.after in
    let gap : List Event = gap_part d.more d.colon.after in
    let target : List Event =
    destination_part (is_literal d) d.destination.text (gap_rest d.more) (destination_begin d) in
    let title : List Event = titled_part d.title (destination_rest d) (destination_end d) in
    let white : List Event = white_part (parts_rest d) (parts_end d) in
    both (white_part d.cells p)
    (around n.Definition (label_begin d p) (definition_end d) (label ++ mark ++ gap ++ target ++ title ++ white))
    (white-names d.cells p)
    (names-around n.Definition (label_begin d p) (definition_end d) (label ++ mark ++ gap ++ target ++ title ++ white)
    refl
    (both (label ++ mark ++ gap ++ target ++ title) white
    (both (label ++ mark ++ gap ++ target) title
    (both (label ++ mark ++ gap) target
    (both (label ++ mark) gap (both label mark (label-names d.label (label_begin d p)) (refl, (refl, tt)))
    (gap-names d.more d.colon.after))
    (destination-names (is_literal d) d.destination.text (gap_rest d.more) (destination_begin d)))
    (titled-names d.title (destination_rest d) (destination_end d)))
    (white-names (parts_rest d) (parts_end d))))

-- Of content: what holds of all events with such names, and of those of a paragraph, holds of all its events.

line-each : (P : Event → Type 0) (paragraph : (e : Event) → is_paragraph_part e.name ≡ true → P e) (cells : List Cell)
    (p : Point) → Each P (line_events cells p)
line-each P paragraph [] p = (paragraph (exit n.Data p) refl, tt)
line-each P paragraph (c ∷ cs) p = either (c.byte == 10) (line-each P paragraph cs c.after)
  where
    either : (x : Bool) → Each P (line_events cs c.after) →
        Each P
        (cond x (exit n.Data c.after ∷ enter_link n.Data c.after text_link ∷ line_events cs c.after)
        (line_events cs c.after))
    either true h = (paragraph (exit n.Data c.after) refl, (paragraph (enter_link n.Data c.after text_link) refl, h))
    either false h = h

paragraph-each : (P : Event → Type 0) (paragraph : (e : Event) → is_paragraph_part e.name ≡ true → P e)
    (cells : List Cell) (p : Point) → Each P (paragraph_over cells p)
paragraph-each P paragraph cells p = (
  paragraph (enter n.Paragraph p) refl,
  (
    paragraph (enter_link n.Data p text_link) refl,
    each-append P (line_events cells p) (exit n.Paragraph (point_after cells p) ∷ [])
        (line-each P paragraph cells p) (paragraph (exit n.Paragraph (point_after cells p)) refl, tt),
  ),
)

following-each : (P : Event → Type 0) (named : (e : Event) → IsOfDefinition e → P e)
    (more : List Cell → Point → List Event) → ((cells : List Cell) (p : Point) → Each P (more cells p)) →
    (cells : List Cell) (p : Point) → Each P (following_definition more cells p)
following-each P named more h [] p = tt
following-each P named more h (c ∷ cs) p =
    (named (enter n.LineEnding p) refl, (named (exit n.LineEnding c.after) refl, h cs c.after))

of-each : (P : Event → Type 0) (named : (e : Event) → IsOfDefinition e → P e)
    (paragraph : (e : Event) → is_paragraph_part e.name ≡ true → P e) (options : ParseOptions) (n : ℕ)
    (cells : List Cell) (p : Point) → Each P (content_of options n cells p)
of-each P named paragraph options zero cells p = paragraph-each P paragraph cells p
of-each P named paragraph options (suc n) cells p =
    go (definition_in options cells) (λ cs q. of-each P named paragraph options n cs q)
  where
    go : (o : Option DefinitionParts) → ((cs : List Cell) (q : Point) → Each P (content_of options n cs q)) →
        Each P (content_by o (content_of options n) cells p)
    go None below = paragraph-each P paragraph cells p
    go (Some d) below =
        each-append P (definition_events d p)
        (following_definition (content_of options n) (definition_rest d) (definition_end d))
        (each-as IsOfDefinition P named (definition_events d p) (definition-names d p))
        (following-each P named (content_of options n) below (definition_rest d) (definition_end d))

pub content-each : (P : Event → Type 0) → ((e : Event) → IsOfDefinition e → P e) →
    ((e : Event) → is_paragraph_part e.name ≡ true → P e) → (options : ParseOptions) (cells : List Cell) (p : Point) →
    Each P (content_over options cells p)
unfolding content_over
content-each P named paragraph options cells p = of-each P named paragraph options (length cells) cells p

-- resolvers pass content
pub content-passed : (options : ParseOptions) (cells : List Cell) (p : Point) →
    Each IsOutside (content_over options cells p)
content-passed options cells p =
    content-each IsOutside outside-of
    (λ e is. and_right (is_enter e.kind) (is_own e.name) (paragraph-own e.name is)) options cells p
