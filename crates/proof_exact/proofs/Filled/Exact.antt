-- Each text part of the exact list is filled: no chunk of it is a blank line, and its last chunk has no line ending.
use Rattle.std.proofs.Common.{◌≡◌, ℕ, zero, suc, ◌+◌, Bool, true, false, cond, not, List, [], ◌∷◌, ◌++◌, length, map}
use Rattle.std.proofs.Common.{take, drop, refl, ap, sym, ◌∙◌, subst, append_assoc, append-nil, flat_map}
use Rattle.std.specs.List.{concat, list_all, onto_first, prefix_len}
use Rattle.std.proofs.Math.Seq.{drop-append_seam}
use Rattle.std.proofs.lemmas.List.{drop-drop}
use Rattle.md_engine.specs.declared.configuration.ParseOptions.{ParseOptions}
use Rattle.md_engine.specs.declared.event.Event.{Event}
use Rattle.md_engine.specs.declared.event.Name.TheVariants as n
use Rattle.md_meaning.specs.Bytes.{is_end}
use Rattle.md_meaning.specs.Lines.{ends_line, full_lines_of, is_ending, without_ending}
use Rattle.md_meaning.specs.Preamble.{first_column, has_mark, is_front_fence, without_mark}
use Rattle.md_meaning.specs.Texts.{first_byte}
use Rattle.md_events.proofs.InlineLemmas.{line-no_ending}
use Rattle.md_events.specs.Events.Nested.{pair}
use Rattle.md_events.specs.Events.Places.{first_point}
use Rattle.md_events.specs.Events.Tiles.{parts}
use Rattle.md_events.specs.Exact.Blocks.{exact, front_line, front_row, front_size, group_events, grouped, mark_events}
use Rattle.md_events.specs.Exact.Blocks.{tail, text_lines}
use Rattle.md_events.specs.Exact.Leaves.{leaf}
use Rattle.md_events.specs.Exact.Places.{TextLine, line_at, line_end, lines_from, part, past, piece, white}
use Rattle.md_events.specs.Exact.Rows.{Row}
use Rattle.proof_exact_lines.proofs.ExactListed.{body_rows}
use Rattle.md_inline_events.specs.TreeTexts.{is_filled_part}
use Rattle.proof_exact.proofs.Filled.Body.{AreTextLines, IsTextLine, body-filled}
use Rattle.proof_exact.proofs.Filled.Groups.{tail-filled}
use Rattle.proof_exact.proofs.Filled.Leaves.{AreLines, OfLines, leaf-filled}
use Rattle.proof_exact.proofs.Filled.Parts.{AreFilled, Filled, filled-append, filled-none, filled-pair, filled-part}
use Rattle.proof_exact.proofs.Filled.Parts.{filled-piece, filled-white}

-- The lines of a text are in it.

lines-onto : (b : ℕ) (lines : List (List ℕ)) → concat (onto_first b lines) ≡ b ∷ concat lines
lines-onto b [] = refl
lines-onto b (line ∷ lines) = refl

lines-whole : (bytes : List ℕ) → concat (full_lines_of bytes) ≡ bytes
lines-whole [] = refl
lines-whole (b ∷ bytes) = go (ends_line b bytes) (lines-whole bytes)
  where
    go : (x : Bool) → concat (full_lines_of bytes) ≡ bytes →
        concat (cond x ((b ∷ []) ∷ full_lines_of bytes) (onto_first b (full_lines_of bytes))) ≡ b ∷ bytes
    go true e = ap (λ (l : List ℕ). b ∷ l) e
    go false e = lines-onto b (full_lines_of bytes) ∙ ap (λ (l : List ℕ). b ∷ l) e

front-back : (size : ℕ) (bytes : List ℕ) → bytes ≡ take size bytes ++ drop (length (take size bytes)) bytes
front-back zero bytes = refl
front-back (suc size) [] = refl
front-back (suc size) (b ∷ bytes) = ap (λ (l : List ℕ). b ∷ l) (front-back size bytes)

lines-in : (text : List ℕ) (number index column : ℕ) (fulls : List (List ℕ)) → drop index text ≡ concat fulls →
    AreTextLines text (lines_from number index column fulls)
lines-in text number index column [] e =
    (record { within = record { following = drop index text; is = refl }; plain = tt }, tt)
lines-in text number index column (full ∷ more) e =
    (first, go (is_end line.ending) (lines-in text (number + 1) (index + length full) 0 more next))
  where
    line : TextLine
    line = line_at number index column full

    following : List ℕ
    following = drop (length (without_ending full)) full

    first : IsTextLine text line
    first = record {
      within = record {
        following = following ++ concat more;
        is =
            e
            ∙ ap (λ (l : List ℕ). l ++ concat more) (front-back (prefix_len (λ (b : ℕ). not (is_ending b)) full) full)
            ∙ append_assoc (without_ending full) following (concat more);
      };
      plain = line-no_ending full;
    }

    next : drop (index + length full) text ≡ concat more
    next =
        sym (drop-drop (length full) index text) ∙ ap (drop (length full)) e ∙ drop-append_seam full (concat more)

    go : (x : Bool) → AreTextLines text (lines_from (number + 1) (index + length full) 0 more) →
        AreTextLines text (cond x [] (lines_from (number + 1) (index + length full) 0 more))
    go true h = tt
    go false h = h

drop-in : (text : List ℕ) (size : ℕ) (lines : List TextLine) → AreTextLines text lines →
    AreTextLines text (drop size lines)
drop-in text zero lines h = h
drop-in text (suc size) [] h = tt
drop-in text (suc size) (line ∷ lines) h = drop-in text size lines h.1

take-in : (text : List ℕ) (size : ℕ) (lines : List TextLine) → AreTextLines text lines →
    AreTextLines text (take size lines)
take-in text zero lines h = tt
take-in text (suc size) [] h = tt
take-in text (suc size) (line ∷ lines) h = (h.0, take-in text size lines h.1)

text-in : (text : List ℕ) → AreTextLines text (text_lines text)
text-in text =
    lines-in text 1 (first_column text) (first_column text) (full_lines_of (without_mark text))
    (go (has_mark text) ∙ sym (lines-whole (without_mark text)))
  where
    go : (x : Bool) → drop (cond x 3 0) text ≡ cond x (drop 3 text) text
    go true = refl
    go false = refl

-- The front of a text.

mark-filled : {bytes : List ℕ} (text : List ℕ) → Filled bytes (mark_events text)
mark-filled {bytes} text = go (has_mark text)
  where
    go : (x : Bool) →
        Filled bytes
        (cond x (pair n.ByteOrderMark first_point (record { line = 1; column = 4; index = 3; vs = 0 })) [])
    go true = filled-pair n.ByteOrderMark first_point (record { line = 1; column = 4; index = 3; vs = 0 }) refl
    go false = filled-none

front-line : {bytes : List ℕ} (m : ℕ) → OfLines bytes (front_line m)
front-line {bytes} m line r is = go (is_front_fence m r.bytes)
  where
    mark : List Event
    mark = piece line n.FrontmatterSequence r (past 3 r)

    go : (x : Bool) →
        Filled bytes
        (cond x (part line n.FrontmatterFence r (line_end line) (mark ++ white line (past 3 r) (line_end line)))
        (piece line n.FrontmatterChunk r (line_end line)))
    go true =
        filled-part line n.FrontmatterFence r (line_end line) (mark ++ white line (past 3 r) (line_end line)) refl
        (filled-append mark (white line (past 3 r) (line_end line))
        (filled-piece line n.FrontmatterSequence r (past 3 r) refl) (filled-white line (past 3 r) (line_end line)))
    go false = filled-piece line n.FrontmatterChunk r (line_end line) refl

front-lines : (bytes : List ℕ) (lines : List TextLine) → AreTextLines bytes lines →
    AreLines bytes (map front_row lines)
front-lines bytes [] are = tt
front-lines bytes (line ∷ lines) are = (
  record {
    rest = record { within = are.0.within; plain = are.0.plain; end = record { front = []; is = refl } };
    front = filled-none;
    ends = filled-none;
  },
  front-lines bytes lines are.1,
)

front-filled : (bytes : List ℕ) (m : ℕ) (rows : List Row) → AreLines bytes rows →
    Filled bytes (leaf n.Frontmatter (front_line m) rows)
front-filled bytes m [] are = filled-none
front-filled bytes m (row ∷ rows) are =
    leaf-filled n.Frontmatter (front_line m) refl (front-line m) row rows are.0.rest are.1

-- The whole list.
pub exact-filled : (options : ParseOptions) (bytes : List ℕ) →
    list_all (is_filled_part bytes) (parts (exact options bytes)) ≡ true
exact-filled options bytes =
    subst (AreFilled bytes) (append-nil (exact options bytes)) (all.before [] refl)
  where
    size : ℕ
    size = front_size options bytes

    front : List Row
    front = map front_row (take size (text_lines bytes))

    front-are : AreLines bytes (map front_row (take (front_size options bytes) (text_lines bytes)))
    front-are =
        front-lines bytes (take size (text_lines bytes)) (take-in bytes size (text_lines bytes) (text-in bytes))

    body : List TextLine
    body = drop size (text_lines bytes)

    leaf_events : List Event
    leaf_events = leaf n.Frontmatter (front_line (first_byte (without_mark bytes))) front

    all : Filled bytes (exact options bytes)
    all =
        filled-append (mark_events bytes ++ leaf_events ++ tail front)
        (flat_map (group_events options) (grouped (body_rows options body)))
        (filled-append (mark_events bytes ++ leaf_events) (tail front)
        (filled-append (mark_events bytes) leaf_events (mark-filled bytes)
        (front-filled bytes (first_byte (without_mark bytes)) front front-are))
        (tail-filled bytes options front front-are))
        (body-filled options bytes body (drop-in bytes size (text_lines bytes) (text-in bytes)))
