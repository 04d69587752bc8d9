-- Events of marks are what every inline layer promises.
use Rattle.std.proofs.Common.{◌≡◌, ℕ, ◌+◌, ◌≤◌, Bool, true, false, cond, ◌&&◌, List, [], ◌∷◌, ◌++◌, length, take, drop}
use Rattle.std.proofs.Common.{refl, ap, sym, ◌∙◌, subst, append_assoc, arith}
use Rattle.std.specs.Prelude.{nat_lt}
use Rattle.std.specs.List.{list_all, prefix_len}
use Rattle.std.proofs.lemmas.Bool.{and_parts}
use Rattle.std.proofs.lemmas.Bool.Decides.{nat_tests}
use Rattle.std.proofs.lemmas.List.{length-append, length-drop, take-append-drop}
use Rattle.md_engine.specs.declared.event.Event.{Event}
use Rattle.md_engine.specs.declared.event.Name.{Name}
use Rattle.md_engine.specs.declared.event.Name.TheVariants as n
use Rattle.md_engine.specs.declared.event.Point.{Point}
use Rattle.md_meaning.specs.Lines.{without_ending}
use Rattle.md_meaning.specs.Texts.{split_lines}
use Rattle.md_events.specs.declared.inline.Chunk.{Chunk}
use Rattle.md_events.specs.Events.Inline.{Fills, Framed, IsPart, Part, are_lines, chunk_placed, chunk_text}
use Rattle.md_events.specs.Events.Inline.{cut_at, endings_of, ends_whole, in_order, is_line, is_none, is_one_line}
use Rattle.md_events.specs.Events.Inline.{line_end, line_endings, may_be_inside, pair_unless_empty, together}
use Rattle.md_events.specs.Events.Nested.{enter, exit, pair}
use Rattle.md_events.specs.Events.Places.{are_placed, at_or_before, first_point, is_placed, same_place}
use Rattle.md_events.specs.Substituted.{belongs}
use Rattle.md_events.proofs.CutLemmas.{cut-front, cut-last}
use Rattle.md_events.proofs.InlineLemmas.{before-text, endings-append}
use Rattle.md_events.proofs.PlacesLemmas.{all-append}
use Rattle.md_events.proofs.PlainSteps.{lines-each}
use Rattle.md_inline_events.proofs.LineSteps.{drop-both}
use Rattle.md_inline_events.proofs.StretchLemmas.{index-before}
use Rattle.md_inline_events.specs.Marks.{Mark, closes_in, entered, exited, is_part_name, last_name, line_events}
use Rattle.md_inline_events.specs.Marks.{opens_in}
use Rattle.md_inline_events.specs.Woven.{Sides, as_feed, chunks_events, ending_events, indent_len, is_text}
use Rattle.md_inline_events.specs.Woven.{marked_events}
use Rattle.md_inline_events.specs.Woven.{next_side, read_chunks, read_side, read_text, side_events, sides, text_len}
use Rattle.proof_inlines.proofs.Named.{AreMarks, Runs, is_named}
use Rattle.proof_inlines.proofs.BalanceLemmas.{Turns, runs-split, turns-append, turns-side}
use Rattle.proof_inlines.proofs.ChunkLemmas.{Divides, Whole, ending-apart, marks_after, named-drop, named-take}
use Rattle.proof_inlines.proofs.ChunkLemmas.{proceeds-on, side-belongs, side-covers, side-endings, side-inline}
use Rattle.proof_inlines.proofs.ChunkLemmas.{side-placed, side-proceeds, text_after, text_begin, trail_after}
use Rattle.proof_inlines.proofs.FrontLemmas.{front-entered, front-line, front-pair}
use Rattle.proof_inlines.proofs.LineLemmas.{named-last}

-- The chunks of a part.

abbrev Wholes : List ℕ → List Chunk → Type 0
Wholes bytes [] = Unit {0}
Wholes bytes (chunk ∷ chunks) = Whole bytes chunk × Wholes bytes chunks

wholes : (bytes : List ℕ) (p : Point) (chunks : List Chunk) → in_order p chunks ≡ true →
    list_all (chunk_placed bytes) chunks ≡ true → list_all (is_line bytes) chunks ≡ true →
    list_all ends_whole chunks ≡ true → Wholes bytes chunks
wholes bytes p [] order placed lines ends = tt
wholes bytes p (chunk ∷ chunks) order placed lines ends =
    let outer : (at_or_before p chunk.first && at_or_before chunk.first chunk.after ≡ true) ×
    (in_order chunk.after chunks ≡ true) = and_parts
    (at_or_before p chunk.first && at_or_before chunk.first chunk.after) (in_order chunk.after chunks) order in
    let inner : (at_or_before p chunk.first ≡ true) ×
    (at_or_before chunk.first chunk.after ≡ true) = and_parts (at_or_before p chunk.first)
    (at_or_before chunk.first chunk.after) outer.0 in
    let are_valid : (chunk_placed bytes chunk ≡ true) ×
    (list_all (chunk_placed bytes) chunks ≡ true) = and_parts (chunk_placed bytes chunk)
    (list_all (chunk_placed bytes) chunks) placed in
    let both : (is_placed bytes chunk.first ≡ true) ×
    (is_placed bytes chunk.after ≡ true) = and_parts (is_placed bytes chunk.first)
    (is_placed bytes chunk.after) are_valid.0 in
    let line : (is_line bytes chunk ≡ true) ×
    (list_all (is_line bytes) chunks ≡ true) = and_parts (is_line bytes chunk) (list_all (is_line bytes) chunks)
    lines in
    let whole : (ends_whole chunk ≡ true) ×
    (list_all ends_whole chunks ≡ true) = and_parts (ends_whole chunk) (list_all ends_whole chunks) ends in (
      record { forward = inner.1; first = both.0; after = both.1; line = line.0; ends = whole.0 },
      wholes bytes chunk.after chunks outer.1 are_valid.1 line.1 whole.1,
    )

-- Chunk by chunk.

sides-divide : (starts ends : Bool) (text : List ℕ) → Divides text (sides starts ends text)
sides-divide starts ends text =
    let line : List ℕ = without_ending text in
    let rest : List ℕ = drop (indent_len starts line) line in
    record {
      line =
          ap (λ (l : List ℕ). take (indent_len starts line) line ++ l) (take-append-drop (text_len ends rest) rest)
          ∙ take-append-drop (indent_len starts line) line;
      ending = refl;
    }

-- a chunk of a part and those after it
module _ (bytes : List ℕ) (ends : Bool) where
  abbrev here : Bool → Chunk → List Chunk → Sides
  here starts chunk chunks = next_side bytes starts ends chunk chunks

  abbrev here_events : Bool → Chunk → List Chunk → List Mark → Name → List Event
  here_events starts chunk chunks marks piece = side_events chunk (here starts chunk chunks) marks piece

  abbrev left : Bool → Chunk → List Chunk → List Mark → List Mark
  left starts chunk chunks marks = drop (length (read_side (here starts chunk chunks))) marks

  abbrev later : Bool → Chunk → List Chunk → List Mark → Name → Name
  later starts chunk chunks marks piece =
      last_name piece (take (length (read_side (here starts chunk chunks))) marks)

  abbrev all_events : Bool → List Chunk → List Mark → Name → List Event
  all_events starts chunks marks piece = together (chunks_events bytes starts ends chunks marks piece)

  here-divides : (starts : Bool) (chunk : Chunk) (chunks : List Chunk) →
      Divides (chunk_text bytes chunk) (here starts chunk chunks)
  here-divides starts chunk chunks = sides-divide starts (ends && is_none chunks) (chunk_text bytes chunk)

  later-named : (starts : Bool) (chunk : Chunk) (chunks : List Chunk) (marks : List Mark) (piece : Name) →
      list_all is_named marks ≡ true → is_part_name piece ≡ true →
      is_part_name (later starts chunk chunks marks piece) ≡ true
  later-named starts chunk chunks marks piece named part =
      let size : ℕ = length (read_side (here starts chunk chunks)) in
      named-last (take size marks) piece (named-take size marks named) part

  chunks-placed : (starts : Bool) (chunks : List Chunk) (marks : List Mark) (piece : Name) → Wholes bytes chunks →
      list_all is_named marks ≡ true → is_part_name piece ≡ true →
      are_placed bytes (all_events starts chunks marks piece) ≡ true
  chunks-placed starts [] marks piece ws named part = refl
  chunks-placed starts (chunk ∷ chunks) marks piece ws named part =
      let size : ℕ = length (read_side (here starts chunk chunks)) in
      all-append (λ (e : Event). is_placed bytes e.point) (here_events starts chunk chunks marks piece)
      (all_events true chunks (left starts chunk chunks marks) (later starts chunk chunks marks piece))
      (side-placed bytes chunk (here starts chunk chunks) marks piece ws.0 (here-divides starts chunk chunks) named
      part)
      (chunks-placed true chunks (left starts chunk chunks marks) (later starts chunk chunks marks piece) ws.1
      (named-drop size marks named) (later-named starts chunk chunks marks piece named part))

  chunks-inline : (starts : Bool) (chunks : List Chunk) (marks : List Mark) (piece : Name) →
      list_all is_named marks ≡ true → is_part_name piece ≡ true →
      list_all may_be_inside (all_events starts chunks marks piece) ≡ true
  chunks-inline starts [] marks piece named part = refl
  chunks-inline starts (chunk ∷ chunks) marks piece named part =
      let size : ℕ = length (read_side (here starts chunk chunks)) in
      all-append may_be_inside (here_events starts chunk chunks marks piece)
      (all_events true chunks (left starts chunk chunks marks) (later starts chunk chunks marks piece))
      (side-inline bytes chunk (here starts chunk chunks) marks piece (here-divides starts chunk chunks) named part)
      (chunks-inline true chunks (left starts chunk chunks marks) (later starts chunk chunks marks piece)
      (named-drop size marks named) (later-named starts chunk chunks marks piece named part))

  chunks-endings : (starts : Bool) (chunks : List Chunk) (marks : List Mark) (piece : Name) →
      list_all is_named marks ≡ true → is_part_name piece ≡ true →
      line_endings (all_events starts chunks marks piece) ≡ endings_of bytes chunks
  chunks-endings starts [] marks piece named part = refl
  chunks-endings starts (chunk ∷ chunks) marks piece named part =
      let size : ℕ = length (read_side (here starts chunk chunks)) in
      let rest : List Event = all_events true chunks (left starts chunk chunks marks)
      (later starts chunk chunks marks piece) in
      let ending : List Event = pair_unless_empty n.LineEnding (line_end bytes chunk) chunk.after in
      endings-append (here_events starts chunk chunks marks piece) rest
      ∙ ap (λ (l : List Event). l ++ line_endings rest)
      (side-endings bytes chunk (here starts chunk chunks) marks piece (here-divides starts chunk chunks) named part)
      ∙ ap (λ (l : List Event). ending ++ l)
      (chunks-endings true chunks (left starts chunk chunks marks) (later starts chunk chunks marks piece)
      (named-drop size marks named) (later-named starts chunk chunks marks piece named part))

  chunks-fill : (starts : Bool) (chunks : List Chunk) (marks : List Mark) (piece : Name) → Wholes bytes chunks →
      Fills chunks (chunks_events bytes starts ends chunks marks piece)
  chunks-fill starts [] marks piece ws = tt
  chunks-fill starts (chunk ∷ chunks) marks piece ws =
      let proceeds = side-proceeds bytes chunk (here starts chunk chunks) marks piece ws.0
      (here-divides starts chunk chunks) in (
        proceeds.forward,
        proceeds.last,
        side-covers bytes chunk (here starts chunk chunks) marks piece ws.0 (here-divides starts chunk chunks),
        chunks-fill true chunks (left starts chunk chunks marks) (later starts chunk chunks marks piece) ws.1,
      )

  -- Brackets.

  chunks-turn : (starts : Bool) (chunks : List Chunk) (names next : List Name) (marks : List Mark) (piece : Name) →
      length marks ≡ length (read_chunks bytes starts ends chunks) → Runs names marks next →
      Turns names next (all_events starts chunks marks piece)
  chunks-turn starts [] names next [] piece long runs = record { matches = tt; still = runs }
  chunks-turn starts [] names next (mark ∷ marks) piece long runs = absurd (omega (arith, long))
  chunks-turn starts (chunk ∷ chunks) names next marks piece long runs =
      let side : Sides = here starts chunk chunks in
      let text : ℕ = length side.text in
      let feed : ℕ = length (as_feed side.ending) in
      let first = runs-split names next text marks runs in
      let second = runs-split first.0 next feed (drop text marks) first.2 in
      let same : drop feed (drop text marks) ≡ left starts chunk chunks marks = drop-both side.text (as_feed
      side.ending)
      marks in
      turns-append names second.0 next (here_events starts chunk chunks marks piece)
      (all_events true chunks (left starts chunk chunks marks) (later starts chunk chunks marks piece))
      (turns-side names first.0 second.0 chunk side marks piece first.1 second.1)
      (chunks-turn true chunks second.0 next (left starts chunk chunks marks) (later starts chunk chunks marks piece)
      (omega (
        arith,
        long,
        length-drop (length (read_side side)) marks,
        length-append (read_side side) (read_chunks bytes true ends chunks),
      ))
      (subst (λ (l : List Mark). Runs second.0 l next) same second.2))

  -- What is in the place of each chunk.

  -- whether no event in front belongs to a chunk that ends at this byte
  abbrev Late : ℕ → List Event → Type 0
  Late end es = prefix_len (belongs end) es ≡ 0

  late-enter : (end : ℕ) (name : Name) (p : Point) (es : List Event) → end ≤ p.index → Late end (enter name p ∷ es)
  late-enter end name p es h =
      let late : nat_lt p.index end ≡ false = grind (arith, nat_tests) in
      ap (λ (x : Bool). cond x (1 + prefix_len (belongs end) es) 0) late

  late-ending : (end : ℕ) (p q : Point) (ending : List ℕ) (marks : List Mark) (es : List Event) → end ≤ p.index →
      (same_place p q ≡ true → ending ≡ []) → Late end es → Late end (ending_events p q ending marks ++ es)
  late-ending end p q [] marks es h none rest = front-pair (Late end) end (late-enter end) n.LineEnding p q es h rest
  late-ending end p q (b ∷ ending) [] es h none rest =
      front-pair (Late end) end (late-enter end) n.LineEnding p q es h rest
  late-ending end p q (b ∷ ending) (mark ∷ marks) es h none rest =
      let closing : List Event = exited (closes_in mark.back) q in
      subst (Late end)
      (sym
      (append_assoc (entered (opens_in mark.front) p) (pair_unless_empty n.LineEnding p q ++ closing) es))
      (front-entered (Late end) end (late-enter end) (opens_in mark.front) p
      ((pair_unless_empty n.LineEnding p q ++ closing) ++ es) h (go (same_place p q) none))
    where
      go : (x : Bool) → (x ≡ true → b ∷ ending ≡ []) →
          Late end ((cond x [] (pair n.LineEnding p q) ++ exited (closes_in mark.back) q) ++ es)
      go true none = let e = none refl in cc
      go false none =
          late-enter end n.LineEnding p ((exit n.LineEnding q ∷ exited (closes_in mark.back) q) ++ es) h

  late-side : (end : ℕ) (chunk : Chunk) (side : Sides) (marks : List Mark) (piece : Name) (es : List Event) →
      end ≤ chunk.first.index → (same_place (trail_after chunk side) chunk.after ≡ true → side.ending ≡ []) →
      Late end es → Late end (side_events chunk side marks piece ++ es)
  late-side end chunk side marks piece es h none rest =
      let first : Point = text_begin chunk side in
      let after : Point = text_after chunk side in
      let to : Point = trail_after chunk side in
      let ending : List Event = ending_events to chunk.after side.ending (marks_after side marks) in
      let trail : List Event = pair_unless_empty n.SpaceOrTab after to ++ ending in
      let text : List Event = line_events side.text marks piece first first in
      let one : chunk.first.index ≤ first.index = index-before chunk.first first (before-text side.indent chunk.first)
      in
      let two : first.index ≤ after.index = index-before first after (before-text side.text first) in
      let three : after.index ≤ to.index = index-before after to (before-text side.trail after) in
      subst (Late end) (sym (append_assoc (pair_unless_empty n.SpaceOrTab chunk.first first) (text ++ trail) es))
      (front-pair (Late end) end (late-enter end) n.SpaceOrTab chunk.first first ((text ++ trail) ++ es) h
      (subst (Late end) (sym (append_assoc text trail es))
      (front-line (Late end) end (late-enter end) side.text marks piece first first (trail ++ es)
      (omega (arith, h, one)) (omega arith)
      (subst (Late end) (sym (append_assoc (pair_unless_empty n.SpaceOrTab after to) ending es))
      (front-pair (Late end) end (late-enter end) n.SpaceOrTab after to (ending ++ es) (omega (arith, h, one, two))
      (late-ending end to chunk.after side.ending (marks_after side marks) es (omega (arith, h, one, two, three)) none
      rest))))))

  chunks-late : (end : ℕ) (p : Point) (starts : Bool) (chunks : List Chunk) (marks : List Mark) (piece : Name) →
      Wholes bytes chunks → end ≤ p.index → in_order p chunks ≡ true → Late end (all_events starts chunks marks piece)
  chunks-late end p starts [] marks piece ws h order = refl
  chunks-late end p starts (chunk ∷ chunks) marks piece ws h order =
      let outer : (at_or_before p chunk.first && at_or_before chunk.first chunk.after ≡ true) ×
      (in_order chunk.after chunks ≡ true) = and_parts
      (at_or_before p chunk.first && at_or_before chunk.first chunk.after) (in_order chunk.after chunks) order in
      let inner : (at_or_before p chunk.first ≡ true) ×
      (at_or_before chunk.first chunk.after ≡ true) = and_parts (at_or_before p chunk.first)
      (at_or_before chunk.first chunk.after) outer.0 in
      let side : Sides = here starts chunk chunks in
      let first : p.index ≤ chunk.first.index = index-before p chunk.first inner.0 in
      let after : chunk.first.index ≤ chunk.after.index = index-before chunk.first chunk.after inner.1 in
      late-side end chunk side marks piece
      (all_events true chunks (left starts chunk chunks marks) (later starts chunk chunks marks piece))
      (omega (arith, h, first)) (ending-apart bytes chunk side ws.0 (here-divides starts chunk chunks))
      (chunks-late end chunk.after true chunks (left starts chunk chunks marks) (later starts chunk chunks marks piece)
      ws.1 (omega (arith, h, first, after)) outer.1)

  chunks-cut : (p end : Point) (starts : Bool) (chunks : List Chunk) (marks : List Mark) (piece : Name) →
      Wholes bytes chunks → list_all is_named marks ≡ true → is_part_name piece ≡ true → in_order p chunks ≡ true →
      are_lines bytes end chunks ≡ true →
      cut_at chunks (all_events starts chunks marks piece) ≡ chunks_events bytes starts ends chunks marks piece
  chunks-cut p end starts [] marks piece ws named part order lines = refl
  chunks-cut p end starts (chunk ∷ []) marks piece ws named part order lines =
      cut-last chunk (here_events starts chunk [] marks piece)
  chunks-cut p end starts (chunk ∷ next ∷ chunks) marks piece ws named part order lines =
      let outer : (at_or_before p chunk.first && at_or_before chunk.first chunk.after ≡ true) ×
      (in_order chunk.after (next ∷ chunks) ≡ true) = and_parts
      (at_or_before p chunk.first && at_or_before chunk.first chunk.after) (in_order chunk.after (next ∷ chunks))
      order in
      let line : (is_one_line (split_lines (chunk_text bytes chunk)) false ≡ true) ×
      (are_lines bytes end (next ∷ chunks) ≡ true) = and_parts
      (is_one_line (split_lines (chunk_text bytes chunk)) false) (are_lines bytes end (next ∷ chunks)) lines in
      let side : Sides = here starts chunk (next ∷ chunks) in
      let others : List Mark = left starts chunk (next ∷ chunks) marks in
      let name : Name = later starts chunk (next ∷ chunks) marks piece in
      cut-front chunk next chunks (here_events starts chunk (next ∷ chunks) marks piece)
      (all_events true (next ∷ chunks) others name)
      (side-belongs bytes chunk side marks piece ws.0 (here-divides starts chunk (next ∷ chunks)) named part
      (proceeds-on (chunk_text bytes chunk) line.0))
      (chunks-late chunk.after.index chunk.after true (next ∷ chunks) others name ws.1 (omega arith) outer.1)
      ∙ ap (λ (l : List (List Event)). here_events starts chunk (next ∷ chunks) marks piece ∷ l)
      (chunks-cut chunk.after end true (next ∷ chunks) others name ws.1
      (named-drop (length (read_side side)) marks named) (later-named starts chunk (next ∷ chunks) marks piece named
      part)
      outer.1 line.1)

-- The whole part.

pub marks-framed : (bytes : List ℕ) (held : Part) (marks : List Mark) → IsPart bytes held →
    AreMarks (read_text bytes held) marks → Framed bytes held (marked_events bytes held marks)
marks-framed bytes held marks is are =
    let chunks : List Chunk = held.chunks in
    let outer : Bool = is_text held.kind in
    let ws : Wholes bytes chunks = wholes bytes first_point chunks is.order is.placed
    (lines-each bytes is.end chunks is.lines) is.whole in
    let turns : Turns [] [] (marked_events bytes held marks) = chunks-turn bytes outer outer chunks [] [] marks n.Data
    are.long are.runs in
    record {
      balanced = record { matches = turns.matches; closed = turns.still };
      placed = chunks-placed bytes outer outer chunks marks n.Data ws are.named refl;
      inline = chunks-inline bytes outer outer chunks marks n.Data are.named refl;
      endings = chunks-endings bytes outer outer chunks marks n.Data are.named refl;
      fills =
          subst (Fills chunks)
          (sym (chunks-cut bytes outer first_point is.end outer chunks marks n.Data ws are.named refl is.order
          is.lines))
          (chunks-fill bytes outer outer chunks marks n.Data ws);
    }
