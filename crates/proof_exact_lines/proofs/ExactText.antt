-- The exact list of a text is the one without lists, with the lists put around its items.
use Rattle.std.proofs.Common.{◌≡◌, ℕ, zero, suc, ◌+◌, Bool, true, false, cond, not, List, [], ◌∷◌, ◌++◌, length, map}
use Rattle.std.proofs.Common.{take, drop, refl, ap, sym, ◌∙◌, append_assoc}
use Rattle.std.specs.List.{concat, onto_first, prefix_len}
use Rattle.std.proofs.Math.Seq.{drop-append_seam}
use Rattle.std.proofs.lemmas.List.{drop-drop}
use Rattle.md_engine.specs.declared.configuration.ParseOptions.{ParseOptions}
use Rattle.md_engine.specs.declared.event.Event.{Event}
use Rattle.md_engine.specs.declared.event.Name.TheVariants as n
use Rattle.md_meaning.specs.Bytes.{is_end}
use Rattle.md_meaning.specs.Lines.{ends_line, full_lines_of, is_ending, without_ending}
use Rattle.md_meaning.specs.Preamble.{first_column, has_mark, is_front_fence, without_mark}
use Rattle.md_meaning.specs.Texts.{first_byte}
use Rattle.md_events.specs.Events.Nested.{pair}
use Rattle.md_events.specs.Events.Places.{first_point}
use Rattle.md_containers.specs.Listed.{is_item, listed}
use Rattle.md_events.specs.Exact.Blocks.{exact, front_line, front_row, front_size, mark_events, tail, text_lines}
use Rattle.md_events.specs.Exact.Leaves.{leaf}
use Rattle.md_events.specs.Exact.Places.{TextLine, ending, line_at, line_end, lines_from, part, past, piece, white}
use Rattle.proof_exact_lines.specs.Unlisted.{unlisted}
use Rattle.proof_exact_lines.proofs.ExactListed.{begun, body-listed}
use Rattle.proof_exact_lines.proofs.GroupEvents.{ending-none, tail_name}
use Rattle.proof_exact_lines.proofs.LeafEvents.{NoItem, OfLines, Plain, item-append, item-white, leaf-items}
use Rattle.proof_exact_lines.proofs.LeavesAllowed.{leaves-are_valid}
use Rattle.proof_exact_lines.proofs.ListWalk.{none-items, none-part, none-piece}
use Rattle.proof_exact_lines.proofs.Markers.{AreIn, IsIn, lines-are_valid}

-- The lines of a text are in it.

lines-onto : (b : ℕ) (lines : List (List ℕ)) → concat (onto_first b lines) ≡ b ∷ concat lines
lines-onto b [] = refl
lines-onto b (line ∷ lines) = refl

lines-whole : (bytes : List ℕ) → concat (full_lines_of bytes) ≡ bytes
lines-whole [] = refl
lines-whole (b ∷ bytes) = go (ends_line b bytes) (lines-whole bytes)
  where
    go : (x : Bool) → concat (full_lines_of bytes) ≡ bytes →
        concat (cond x ((b ∷ []) ∷ full_lines_of bytes) (onto_first b (full_lines_of bytes))) ≡ b ∷ bytes
    go true e = ap (λ (l : List ℕ). b ∷ l) e
    go false e = lines-onto b (full_lines_of bytes) ∙ ap (λ (l : List ℕ). b ∷ l) e

front-back : (size : ℕ) (bytes : List ℕ) → bytes ≡ take size bytes ++ drop (length (take size bytes)) bytes
front-back zero bytes = refl
front-back (suc size) [] = refl
front-back (suc size) (b ∷ bytes) = ap (λ (l : List ℕ). b ∷ l) (front-back size bytes)

lines-in : (text : List ℕ) (number index column : ℕ) (fulls : List (List ℕ)) → drop index text ≡ concat fulls →
    AreIn text (lines_from number index column fulls)
lines-in text number index column [] e = (record { following = drop index text; is = refl }, tt)
lines-in text number index column (full ∷ more) e =
    (first, go (is_end line.ending) (lines-in text (number + 1) (index + length full) 0 more next))
  where
    line : TextLine
    line = line_at number index column full

    bytes : List ℕ
    bytes = without_ending full

    following : List ℕ
    following = drop (length bytes) full

    first : IsIn text line
    first = record {
      following = following ++ concat more;
      is =
          e ∙ ap (λ (l : List ℕ). l ++ concat more) (front-back (prefix_len (λ (b : ℕ). not (is_ending b)) full) full)
          ∙ append_assoc bytes following (concat more);
    }

    next : drop (index + length full) text ≡ concat more
    next =
        sym (drop-drop (length full) index text) ∙ ap (drop (length full)) e ∙ drop-append_seam full (concat more)

    go : (x : Bool) → AreIn text (lines_from (number + 1) (index + length full) 0 more) →
        AreIn text (cond x [] (lines_from (number + 1) (index + length full) 0 more))
    go true h = tt
    go false h = h

drop-in : (text : List ℕ) (size : ℕ) (lines : List TextLine) → AreIn text lines → AreIn text (drop size lines)
drop-in text zero lines h = h
drop-in text (suc size) [] h = tt
drop-in text (suc size) (line ∷ lines) h = drop-in text size lines h.1

text-in : (text : List ℕ) → AreIn text (text_lines text)
text-in text =
    lines-in text 1 (first_column text) (first_column text) (full_lines_of (without_mark text))
    (go (has_mark text) ∙ sym (lines-whole (without_mark text)))
  where
    go : (x : Bool) → drop (cond x 3 0) text ≡ cond x (drop 3 text) text
    go true = refl
    go false = refl

-- The front of a text.

mark-items : (text : List ℕ) → NoItem (mark_events text)
mark-items text = go (has_mark text)
  where
    go : (x : Bool) →
        NoItem
        (cond x (pair n.ByteOrderMark first_point (record { line = 1; column = 4; index = 3; vs = 0 })) [])
    go true = (refl, (refl, tt))
    go false = tt

line-items : (m : ℕ) → OfLines (front_line m)
line-items m line r = go (is_front_fence m r.bytes)
  where
    mark : List Event
    mark = piece line n.FrontmatterSequence r (past 3 r)

    go : (x : Bool) →
        NoItem
        (cond x (part line n.FrontmatterFence r (line_end line) (mark ++ white line (past 3 r) (line_end line)))
        (piece line n.FrontmatterChunk r (line_end line)))
    go true =
        none-part is_item line n.FrontmatterFence r (line_end line) (mark ++ white line (past 3 r) (line_end line)) refl
        (item-append mark (white line (past 3 r) (line_end line))
        (none-piece is_item line n.FrontmatterSequence r (past 3 r) refl) (item-white line (past 3 r) (line_end line)))
    go false = none-piece is_item line n.FrontmatterChunk r (line_end line) refl

rows-plain : (lines : List TextLine) → Plain (map front_row lines)
rows-plain [] = tt
rows-plain (line ∷ lines) = (tt, rows-plain lines)

front-items : (m : ℕ) (lines : List TextLine) → NoItem (leaf n.Frontmatter (front_line m) (map front_row lines))
front-items m [] = tt
front-items m (line ∷ lines) =
    leaf-items n.Frontmatter (front_line m) refl (line-items m) (front_row line) (map front_row lines)
    (rows-plain lines)

tail-items : (lines : List TextLine) → NoItem (tail (map front_row lines))
tail-items [] = tt
tail-items (line ∷ []) =
    none-items (ending (tail_name (front_row line)) line) (ending-none (front_row line))
tail-items (line ∷ next ∷ lines) = tail-items (next ∷ lines)

-- So the exact list is what the walk makes of it without lists.
pub exact-listed : (options : ParseOptions) (text : List ℕ) → listed text (unlisted options text) ≡ exact options text
exact-listed options text =
    body-listed options text (mark_events text ++ leaf_events ++ tail (map front_row front)) body
    (item-append (mark_events text ++ leaf_events) (tail (map front_row front))
    (item-append (mark_events text) leaf_events (mark-items text)
    (front-items (first_byte (without_mark text)) front))
    (tail-items front))
    (lines-are_valid options text begun body (drop-in text size (text_lines text) (text-in text)))
    (leaves-are_valid options text body)
  where
    size : ℕ
    size = front_size options text

    front : List TextLine
    front = take size (text_lines text)

    body : List TextLine
    body = drop size (text_lines text)

    leaf_events : List Event
    leaf_events = leaf n.Frontmatter (front_line (first_byte (without_mark text))) (map front_row front)
