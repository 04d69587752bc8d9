-- What is left of a text at first is its exact list: its front, and what it has from there on.
use Rattle.std.proofs.Common.{◌≡◌, ◌⊎◌, inl, inr, ◌^◌, ◌<◌, ◌≤◌, ◌+◌, ◌-◌, ℕ, Bool, true, false, cond, not, ◌&&◌, ◌||◌}
use Rattle.std.proofs.Common.{List, [], ◌∷◌, ◌++◌, length, take, drop, map, refl, ap, ap₂, sym, ◌∙◌, subst, arith}
use Rattle.std.proofs.Common.{append-nil, append_assoc, length-drop, nat_lt}
use Rattle.std.specs.Prelude.{◌==◌, Option, Some, None, is_none}
use Rattle.std.specs.List.{list_all, onto_first}
use Rattle.std.proofs.lemmas.Bool.{and_parts}
use Rattle.std.proofs.lemmas.Bool.Decides.{nat_tests}
use Rattle.md_engine.specs.declared.configuration.ParseOptions.{ParseOptions}
use Rattle.md_engine.specs.declared.event.Content.{Content}
use Rattle.md_engine.specs.declared.event.Event.{Event}
use Rattle.md_engine.specs.declared.event.Name.TheVariants as n
use Rattle.md_engine.specs.declared.event.Point.{Point}
use Rattle.md_engine.specs.declared.parse_state.ParseState.{ParseState}
use Rattle.md_engine.specs.Place.{IsPlaced}
use Rattle.md_events.specs.Events.Inline.{Covers, pieces}
use Rattle.md_events.specs.Events.Nested.{Nested}
use Rattle.md_events.specs.Events.Places.{first_point, same_place}
use Rattle.md_events.specs.Events.Tiles.{IsBlockList, end_point}
use Rattle.md_events.specs.Lined.{lined}
use Rattle.md_events.specs.Parts.{ArePlaced}
use Rattle.md_events.specs.Substituted.{stays, wanted}
use Rattle.md_events.specs.TextPart.{wants_text}
use Rattle.md_events.proofs.InlineLemmas.{same-refl}
use Rattle.md_events.proofs.OnLemmas.{tree-on}
use Rattle.md_events.proofs.ReachedLemmas.{events-placed}
use Rattle.md_events.specs.Exact.Blocks.{exact, front_line, front_row, front_size, mark_events, tail, text_lines}
use Rattle.md_events.specs.Exact.Leaves.{leaf}
use Rattle.md_events.specs.Exact.Places.{TextLine, lines_from}
use Rattle.md_meaning.specs.Grouped.{grouped}
use Rattle.md_meaning.specs.Label.{Labels, both, labels, no_labels}
use Rattle.md_meaning.specs.Lines.{begins_with, ends_line, full_lines_of, is_ending, lines_of}
use Rattle.md_meaning.specs.Meaning.{tree, with_frontmatter}
use Rattle.md_meaning.specs.Preamble.{rests_at, without_mark}
use Rattle.md_meaning.specs.State.{closed}
use Rattle.md_meaning.specs.Step.{steps}
use Rattle.md_meaning.specs.Texts.{first_byte}
use Rattle.md_meaning.proofs.TextsLemmas.{Both, Ending, EndsBefore, LineFeed, NoEnding, Return, ending_bytes}
use Rattle.proof_content_laws.proofs.Labels.Off.{off-in}
use Rattle.proof_content_laws.proofs.Labels.Trees.{defined_in, grouped-defined, grouped-noted, noted_in}
use Rattle.proof_exact.proofs.NoLines.{body-none}
use Rattle.proof_exact.proofs.TextLines.{BodyLines, body-lines}
use Rattle.proof_frame.proofs.SpanLemmas.{Nested_in}
use Rattle.proof_leaf_laws.specs.Front.{body_point, front_events}
use Rattle.proof_leaf_laws.proofs.FrontUnlinked.{front-stays}
use Rattle.proof_leaf_laws.proofs.Frontmatter.Whole.{FrontPart}
use Rattle.proof_leaf_laws.proofs.FullLines.{IsLines, LastLine, NextLine, NoLines}
use Rattle.proof_exact.specs.Parts.{events_from, lines_events, nothing_open}
use Rattle.proof_exact.proofs.TextParts.{empty-events}
use Rattle.proof_rows.proofs.Begun.{IsBegun, begun, fronts-defined, fronts-noted}
use Rattle.markdown_blocks.specs.declared.parts.Part.{Part}
use Rattle.markdown_blocks.specs.FrontRead.{exact_front}
use Rattle.markdown_blocks.specs.Parsed.{IsParsed, IsSmall}
use Rattle.markdown_blocks.specs.PartRead.{AreAhead, AreLaid, HasPart, HasUnread, MayRead, before_next}
use Rattle.markdown_blocks.specs.PartRead.{events_after, events_at, events_left}
use Rattle.markdown_blocks.specs.PartRead.{labels_after, labels_at, labels_left, labels_of, place_left, point_after}
use Rattle.markdown_blocks.specs.PartRead.{point_in, unread_after, unread_at}
use Rattle.markdown_blocks.proofs.ContentGroups.{part-of}
use Rattle.markdown_blocks.proofs.PartLaid.{covers-from, covers-to, some-events}
use Rattle.markdown_blocks.proofs.PartLined.{lined-one}
use Rattle.markdown_blocks.proofs.PartWhole.{lined-plain, lines-apart, text-placed}
use Rattle.markdown_blocks.proofs.TreeRows.{body_of, tree-body}

-- The lines of a text are determined.

ends-none : (b : ℕ) (rest : List ℕ) → is_ending b ≡ false → ends_line b rest ≡ false
ends-none b rest h = go (b == 10) (b == 13) (not (begins_with 10 rest)) h
  where
    go : (x y z : Bool) → (x || y) ≡ false → (x || (y && z)) ≡ false
    go true y z h = cc
    go false true z h = cc
    go false false z h = refl

line-onto : (b : ℕ) (rest : List ℕ) → is_ending b ≡ false →
    full_lines_of (b ∷ rest) ≡ onto_first b (full_lines_of rest)
line-onto b rest h =
    ap (λ (x : Bool). cond x ((b ∷ []) ∷ full_lines_of rest) (onto_first b (full_lines_of rest)))
    (ends-none b rest h)

line-first : (line : List ℕ) (ending : Ending) (rest : List ℕ) → NoEnding line → EndsBefore ending rest →
    full_lines_of (line ++ (ending_bytes ending ++ rest)) ≡ (line ++ ending_bytes ending) ∷ full_lines_of rest
line-first [] LineFeed rest h before = refl
line-first [] Return rest h before =
    ap (λ (x : Bool). cond (not x) ((13 ∷ []) ∷ full_lines_of rest) (onto_first 13 (full_lines_of rest))) before
line-first [] Both rest h before = refl
line-first (b ∷ line) ending rest h before =
    line-onto b (line ++ (ending_bytes ending ++ rest)) h.0
    ∙ ap (onto_first b) (line-first line ending rest h.1 before)

line-alone : (b : ℕ) (line : List ℕ) → NoEnding (b ∷ line) → full_lines_of (b ∷ line) ≡ (b ∷ line) ∷ []
line-alone b [] h = line-onto b [] h.0
line-alone b (c ∷ line) h = line-onto b (c ∷ line) h.0 ∙ ap (onto_first b) (line-alone c line h.1)

lines-only : (text : List ℕ) (fulls : List (List ℕ)) → IsLines text fulls → fulls ≡ full_lines_of text
lines-only text fulls NoLines = refl
lines-only text fulls (LastLine b line h) = sym (line-alone b line h)
lines-only text fulls (NextLine line ending rest more h before is same) =
    ap (λ (ls : List (List ℕ)). (line ++ ending_bytes ending) ∷ ls) same ∙ sym (line-first line ending rest h before)

-- From a point on.

-- at the end of a text there is nothing
nothing-left : (text : List ℕ) (p : Point) → length text ≤ p.index → drop p.index text ≡ []
nothing-left text p past = go (drop p.index text) (length-drop p.index text)
  where
    go : (l : List ℕ) → length l ≡ length text - p.index → l ≡ []
    go [] e = refl
    go (b ∷ l) e = absurd (omega (arith, e, past))

end-events : (options : ParseOptions) (text : List ℕ) (p : Point) → length text ≤ p.index →
    events_from options text p.line p.index (p.column - 1) ≡ []
end-events options text p past =
    ap (λ (l : List ℕ). lines_events options (lines_from p.line p.index (p.column - 1) (full_lines_of l)))
    (nothing-left text p past)
    ∙ empty-events options p.line p.index (p.column - 1)

-- the lines after the front
body-events : (options : ParseOptions) (text : List ℕ) →
    lines_events options (drop (front_size options text) (text_lines text))
    ≡ events_from options text (body_point options text).line (body_point options text).index
    ((body_point options text).column - 1)
body-events options text = go (body-lines options text)
  where
    p : Point
    p = body_point options text

    lines : List TextLine
    lines = drop (front_size options text) (text_lines text)

    go : (lines ≡ []) ⊎ BodyLines options text →
        lines_events options lines ≡ events_from options text p.line p.index (p.column - 1)
    go (inl none) =
        ap (lines_events options) none
        ∙ sym
        (ap (λ (l : List ℕ). lines_events options (lines_from p.line p.index (p.column - 1) (full_lines_of l)))
        (body-none options text none)
        ∙ empty-events options p.line p.index (p.column - 1))
    go (inr is) =
        let left = is.left in
        let column : left.column + 1 - 1 ≡ left.column = omega arith in
        ap (lines_events options) left.is
        ∙ ap (λ (ls : List (List ℕ)). lines_events options (lines_from left.number left.index left.column ls))
        (lines-only (drop left.index text) left.fulls left.are)
        ∙ ap (λ (c : ℕ). events_from options text left.number left.index c) (sym column)
        ∙ ap (λ (q : Point). events_from options text q.line q.index (q.column - 1)) (sym is.point)

-- the leaf of frontmatter, and what is after it
abbrev front_leaf : ParseOptions → List ℕ → List Event
front_leaf options text =
    leaf n.Frontmatter (front_line (first_byte (without_mark text)))
    (map front_row (take (front_size options text) (text_lines text)))

abbrev front_tail : ParseOptions → List ℕ → List Event
front_tail options text = tail (map front_row (take (front_size options text) (text_lines text)))

exact-parts : (options : ParseOptions) (text : List ℕ) →
    exact options text
    ≡ exact_front options text
    ++ events_from options text (body_point options text).line (body_point options text).index
    ((body_point options text).column - 1)
exact-parts options text =
    ap (λ (es : List Event). ((mark_events text ++ front_leaf options text) ++ front_tail options text) ++ es)
    (body-events options text)
    ∙ ap
    (λ (es : List Event).
    es
    ++ events_from options text (body_point options text).line (body_point options text).index
    ((body_point options text).column - 1))
    (append_assoc (mark_events text) (front_leaf options text) (front_tail options text))

-- Read as lines.

stays-unwanted : (wants : Content → Bool) (e : Event) → stays wants e ≡ true → wanted wants e ≡ None
stays-unwanted wants e h = go (wanted wants e) h
  where
    go : (o : Option Content) → is_none o ≡ true → o ≡ None
    go None h = refl
    go (Some held) h = cc

lined-front : (wants : Content → Bool) (bytes : List ℕ) (xs ys : List Event) → list_all (stays wants) xs ≡ true →
    lined wants bytes (xs ++ ys) ≡ xs ++ lined wants bytes ys
lined-front wants bytes [] ys h = refl
lined-front wants bytes (e ∷ xs) ys h =
    let both = and_parts (stays wants e) (list_all (stays wants) xs) h in
    lined-one wants bytes e (xs ++ ys) (stays-unwanted wants e both.0)
    ∙ ap (λ (l : List Event). e ∷ l) (lined-front wants bytes xs ys both.1)

-- all of it is left after its front
all-left : (options : ParseOptions) (text : List ℕ) (p : Point) (front : List Event) →
    p ≡ body_point options text → front ≡ front_events options text → front ≡ exact_front options text →
    front ++ events_at options text p ≡ lined wants_text text (exact options text)
all-left options text p front starts is are =
    sym
    (lined-front wants_text text front (events_from options text p.line p.index (p.column - 1))
    (subst (λ (l : List Event). list_all (stays wants_text) l ≡ true) (sym is)
    (front-stays wants_text options text)))
    ∙ ap (λ (es : List Event). lined wants_text text (es ++ events_from options text p.line p.index (p.column - 1))) are
    ∙ ap
    (λ (q : Point).
    lined wants_text text (exact_front options text ++ events_from options text q.line q.index (q.column - 1))) starts
    ∙ ap (lined wants_text text) (sym (exact-parts options text))

front-left : (options : ParseOptions) (text : List ℕ) (p : Point) (front : List Event) →
    p ≡ body_point options text → front ≡ front_events options text → front ≡ exact_front options text →
    length text ≤ p.index → front ++ [] ≡ lined wants_text text (exact options text)
front-left options text p front starts is are past =
    ap (λ (es : List Event). front ++ lined wants_text text es) (sym (end-events options text p past))
    ∙ all-left options text p front starts is are

-- And it is what a parse gives.
pub parsed-lined : (text : List ℕ) (options : ParseOptions) (events : List Event) (state : ParseState) →
    IsSmall text → IsParsed text options events state → lined wants_text text (exact options text) ≡ events
parsed-lined text options events state small parsed =
    lined-plain text (exact options text) (omega (arith, small)) list
    ∙ sym parsed.events_are
  where
    list : IsBlockList text (exact options text)
    list = subst (IsBlockList text) parsed.read.blocks_are parsed.read.tiles.block_list

-- Labels.

-- nothing has labels
none-labels : (options : ParseOptions) (text : List ℕ) (p : Point) → length text ≤ p.index →
    labels_at options text p ≡ no_labels
none-labels options text p past =
    ap
    (λ (l : List ℕ). labels (closed options (steps options nothing_open (rests_at (p.column - 1) (lines_of l)))))
    (nothing-left text p past)

-- those after the front are all
body-labels : (options : ParseOptions) (text : List ℕ) →
    labels_at options text (body_point options text) ≡ labels (tree options text)
body-labels options text =
    ap₂ (λ (d f : List (List ℕ)). let l : Labels = record { definitions = d; footnotes = f } in l)
    (sym (grouped-defined (body_of options text p))
    ∙ sym (fronts-defined begins.block (grouped (body_of options text p)) begins.kind) ∙ ap defined_in (sym tree-is))
    (sym (grouped-noted (body_of options text p))
    ∙ sym (fronts-noted begins.block (grouped (body_of options text p)) begins.kind) ∙ ap noted_in (sym tree-is))
  where
    p : Point
    p = body_point options text

    begins : IsBegun options text p (front_events options text)
    begins = begun options text

    tree-is : tree options text ≡ with_frontmatter begins.block (grouped (body_of options text p))
    tree-is = tree-body options text p (front_events options text) begins

-- What is left of a text whose front was read.

-- no events lie at a point
pub none-laid : (text : List ℕ) (p : Point) → AreLaid text p [] p
none-laid text p = record {
  nested = record { balanced = record { matches = tt; closed = refl }; forward = tt };
  placed = refl;
  covers = same-refl p;
}

some-point : (p q : Point) → Some p ≡ Some q → p ≡ q
some-point p q e = cc

none-point : (q : Point) → None ≡ Some q → ⊥
none-point q e = cc

pub record IsFrontRead (options : ParseOptions) (text : List ℕ) (p : Point) (front : List Event) : Type 0 where
  pub starts : p ≡ body_point options text
  pub is : front ≡ front_events options text
  pub are : front ≡ exact_front options text
  pub point : IsPlaced text p
  pub placed : ArePlaced text front

module _ (options : ParseOptions) (text : List ℕ) (p : Point) (front : List Event)
    (read : IsFrontRead options text p front) where
  past : nat_lt p.index (length text) ≡ false → length text ≤ p.index
  past e = grind (arith, nat_tests)

  -- all its events are left, before their text parts are read,
  pub blocks-left : exact options text ≡ front ++ unread_after options text (point_in text p)
  blocks-left =
      exact-parts options text
      ∙ ap
      (λ (q : Point). exact_front options text ++ unread_at options text q) (sym read.starts)
      ∙ ap (λ (es : List Event). es ++ unread_at options text p) (sym read.are)
      ∙ go (nat_lt p.index (length text)) refl
    where
      go : (x : Bool) → nat_lt p.index (length text) ≡ x →
          front ++ unread_at options text p ≡ front ++ unread_after options text (cond x (Some p) None)
      go true e = refl
      go false e = ap (λ (es : List Event). front ++ es) (end-events options text p (past e))

  -- of which those of the front stay
  front-lines : lined wants_text text front ≡ front
  front-lines =
      ap (lined wants_text text) (sym (append-nil front))
      ∙ lined-front wants_text text front []
      (subst (λ (l : List Event). list_all (stays wants_text) l ≡ true) (sym read.is)
      (front-stays wants_text options text))
      ∙ append-nil front

  -- and read as lines
  pub events-left : front ++ events_after options text (point_in text p) ≡ lined wants_text text (exact options text)
  events-left = go (nat_lt p.index (length text)) refl
    where
      go : (x : Bool) → nat_lt p.index (length text) ≡ x →
          front ++ events_after options text (cond x (Some p) None) ≡ lined wants_text text (exact options text)
      go true e = all-left options text p front read.starts read.is read.are
      go false e = front-left options text p front read.starts read.is read.are (past e)

  all-labels : labels_at options text p ≡ labels (tree options text)
  all-labels = ap (labels_at options text) read.starts ∙ body-labels options text

  pub labels-left : labels_after options text (point_in text p) ≡ labels (tree options text)
  labels-left = go (nat_lt p.index (length text)) refl
    where
      go : (x : Bool) → nat_lt p.index (length text) ≡ x →
          labels_after options text (cond x (Some p) None) ≡ labels (tree options text)
      go true e = all-labels
      go false e = sym (none-labels options text p (past e)) ∙ all-labels

  -- a part may be read there
  whole : p.vs ≡ 0
  whole = ap (λ (q : Point). q.vs) read.starts ∙ (begun options text).vs

  reads : p.index < length text → MayRead options text p
  reads inside = record {
    begins = record {
      placed = read.point;
      inside = inside;
      whole = whole;
      column = subst (λ (q : Point). 1 ≤ q.column) (sym read.starts) (begun options text).column;
    };
    notes = λ off.
        ap (λ (l : Labels). l.footnotes) all-labels
        ∙ off-in options (tree options text) off (tree-on options text);
  }

  pub may-read : (q : Point) → point_in text p ≡ Some q → MayRead options text q
  may-read = go (nat_lt p.index (length text)) refl
    where
      go : (x : Bool) → nat_lt p.index (length text) ≡ x → (q : Point) → cond x (Some p) None ≡ Some q →
          MayRead options text q
      go true e q s =
          let inside : p.index < length text = grind (arith, nat_tests) in
          subst (MayRead options text) (some-point p q s) (reads inside)
      go false e q s = absurd (none-point q s)

  -- the front reaches from the first byte to there
  abbrev after : Point
  after = point_after text (point_in text p)

  reached : same_place p after ≡ true
  reached = go (nat_lt p.index (length text)) refl
    where
      go : (x : Bool) → nat_lt p.index (length text) ≡ x →
          same_place p (point_after text (cond x (Some p) None)) ≡ true
      go true e = same-refl p
      go false e =
          let index : p.index ≡ length text =
          let within = read.point.index in let over = past e in omega (arith, within, over) in
          ap₂ (λ (i v : ℕ). (i == length text) && (v == 0)) index whole ∙ same-refl (end_point text)

  from-first : AreLaid text first_point front after
  from-first = record {
    nested = subst Nested (sym read.is) (record { balanced = nest.0; forward = nest.1.0 });
    placed = events-placed text front read.placed;
    covers =
        covers-to first_point p after (pieces front)
        (subst (λ (q : Point). Covers first_point (pieces front) q) (sym read.starts)
        (subst (λ (l : List Event). Covers first_point (pieces l) (body_point options text)) (sym read.is)
        part.stretch.tiled.covers)) reached;
  }
    where
      part : FrontPart text first_point (body_point options text) (front_events options text)
      part = part-of options text

      nest : Nested_in first_point (body_point options text) (front_events options text)
      nest = part.stretch.nested

  pub front-ahead : (begun : Bool) (start : Option Point) → begun ≡ false →
      AreAhead options text begun start front (point_in text p)
  front-ahead begun start unread =
      subst (λ (x : Bool). AreAhead options text x start front (point_in text p)) (sym unread)
      (record {
        blocks = blocks-left;
        events = sym events-left;
        lines = front-lines;
        labels = sym labels-left;
        laid = from-first;
        may = may-read;
      })

-- Where a part was handed out, nothing is left of the front.
pub begun-ahead : (options : ParseOptions) (text : List ℕ) (begun : Bool) (start : Option Point) → begun ≡ true →
    ((p : Point) → start ≡ Some p → MayRead options text p) → AreAhead options text begun start [] start
begun-ahead options text begun start taken may =
    subst (λ (x : Bool). AreAhead options text x start [] start) (sym taken)
    (record {
      blocks = refl;
      events = refl;
      lines = refl;
      labels = refl;
      laid = none-laid text (point_after text start);
      may = may;
    })

-- From one part to the next, where the front was handed out.

-- there is a next part
module _ (options : ParseOptions) (text : List ℕ) (begun : Bool) (start : Option Point) (front : List Event)
    (following : Option Point) (p : Point) (ahead : AreAhead options text begun start front following)
    (none : front ≡ []) (is : following ≡ Some p) where
  laid-from : (events : List Event) (q : Point) → AreLaid text p events q →
      AreLaid text (place_left text begun start) events q
  laid-from events q laid = record {
    nested = laid.nested;
    placed = laid.placed;
    covers =
        covers-from (place_left text begun start) p q (pieces events)
        (subst (λ (o : Option Point). same_place (place_left text begun start) (point_after text o) ≡ true) is
        (subst (λ (l : List Event). Covers (place_left text begun start) (pieces l) (point_after text following))
        none ahead.laid.covers)) laid.covers;
  }

  module _ (part : Part) (next : Option Point) (has : HasPart options text p part next) where
    pub next-events : events_left options text begun start ≡ part.events.items ++ events_after options text next
    next-events =
        ahead.events ∙ ap₂ (λ (l : List Event) (o : Option Point). l ++ events_after options text o) none is
        ∙ has.events

    pub next-labels : labels_left options text begun start ≡ both (labels_of part) (labels_after options text next)
    next-labels = ahead.labels ∙ ap (labels_after options text) is ∙ has.labels

    pub next-laid : AreLaid text (place_left text begun start) part.events.items (point_after text next)
    next-laid = laid-from part.events.items (point_after text next) has.laid

  -- whose text parts are not read
  module _ (part : Part) (next : Option Point) (small : length text < 2 ^ 61)
      (has : HasUnread options text p part next) where
    pub unread-lines : events_left options text begun start ≡
        lined wants_text text part.events.items ++ events_after options text next
    unread-lines =
        ahead.events ∙ ap₂ (λ (l : List Event) (o : Option Point). l ++ events_after options text o) none is
        ∙ lines-apart options text p part next has

    pub unread-laid : AreLaid text (place_left text begun start) part.events.items (point_after text next)
    unread-laid =
        laid-from part.events.items (point_after text next)
        (record {
          nested = has.list.nested;
          placed =
              events-placed text part.events.items (text-placed options text p part next small has);
          covers =
              covers-to p (end_point (before_next text next)) (point_after text next) (pieces part.events.items)
              has.covers has.place;
        })

    pub unread-some : 0 < length part.events.items
    unread-some = some-events p (end_point (before_next text next)) part.events.items has.covers has.some
