-- How a further line of fenced code or math is read, where the block is open: any line makes the last one what the line
-- definition has of it, and a closing fence takes that away and closes the block.
use Rattle.std.proofs.Common.{◌≡◌, ℕ, Bool, true, false, cond, ◌||◌, List, [], ◌∷◌, ◌++◌, length, drop, take, refl, sym}
use Rattle.std.proofs.Common.{◌∙◌, ap, ap₂}
use Rattle.std.specs.Prelude.{◌==◌, Option, Some, None, option_map}
use Rattle.md_engine.specs.declared.configuration.ParseOptions.{ParseOptions}
use Rattle.md_engine.specs.declared.event.Event.{Event}
use Rattle.md_engine.specs.declared.event.Name.TheVariants as n
use Rattle.md_engine.specs.declared.event.Point.{Point}
use Rattle.md_engine.specs.declared.tokenizer.held_leaf.HeldLeaf.{HeldLeaf}
use Rattle.md_meaning.specs.Leaves.{closes}
use Rattle.md_meaning.specs.Rest.{Rest, indent, line_of, lose, run_len, trim_start}
use Rattle.md_meaning.specs.Tree.{Line}
use Rattle.md_literal.specs.CodeLine as code
use Rattle.md_literal.specs.Fence.{chunk_name, fence_name, held_indent, held_marker, sequence_name}
use Rattle.md_events.specs.Events.Nested.{enter, exit}
use Rattle.md_events.specs.Events.Places.{past_text}
use Rattle.md_events.specs.Events.Spelled.{AsLine, AsMarkers, FenceLeaf, Fenced, MathLeaf, OpenLeaf, Reading, TextRole}
use Rattle.md_events.specs.Events.Spelled.{at_fence, empty_line, first_recorded, joined, noted, on_fences, on_last}
use Rattle.md_events.specs.Events.Spelled.{on_leaf, read, role, with_fence, without_last}
use Rattle.md_events.proofs.SpelledLemmas.{read-from, read-quiet}
use Rattle.proof_literal_laws.specs.Leaf.FenceFurther.{chunk_line, closing_line, closing_part, further_parts}
use Rattle.proof_literal_laws.specs.Leaf.FenceFurther.{opening_of}
use Rattle.proof_frame.specs.LineColumns.{columns_part, part_over, past_columns}
use Rattle.proof_frame.proofs.IndentRemoved.Reads.{columns-quiet, empty-joined, leaf-recorded, on-last}
use Rattle.proof_literal_laws.proofs.IndentRemoved.Reads.{lost-read}
use Rattle.proof_literal_laws.proofs.Fence.Each.{by-math}
use Rattle.proof_frame.proofs.IndentRemoved.Places.{FurtherAt}
use Rattle.proof_frame.proofs.WhiteQuiet.{white-quiet}

-- The block.

-- it has an opening fence and no closing one, and after these lines an empty one, which the ending in front opened
pub record IsFenced (before : List Line) (fences : Fenced) : Type 0 where
  pub lines : fences.lines ≡ before ++ empty_line ∷ []
  pub some : (length fences.markers == 0) ≡ false
  pub unclosed : fences.closed ≡ false

abbrev pub IsOpen : List Line → OpenLeaf → Type 0
IsOpen before (FenceLeaf fences info meta) = IsFenced before fences
IsOpen before (MathLeaf fences meta) = IsFenced before fences
IsOpen before _ = ⊥

-- with these lines
abbrev pub with_lines : List Line → OpenLeaf → OpenLeaf
with_lines lines leaf = on_fences (λ fences. record fences { lines = lines }) leaf

-- and with a closing fence after them
abbrev pub with_closing : List Line → OpenLeaf → OpenLeaf
with_closing lines leaf = on_fences (λ fences. record fences { lines = lines; closed = true }) leaf

-- Its last line.

without-last : (before : List Line) (x : Line) → without_last (before ++ x ∷ []) ≡ before
without-last [] x = refl
without-last (y ∷ []) x = refl
without-last (y ∷ z ∷ ys) x = ap (λ (l : List Line). y ∷ l) (without-last (z ∷ ys) x)

-- it becomes what is said of it
line-recorded : (before : List Line) (line : Line) (fences : Fenced) → IsFenced before fences →
    on_last (λ l. joined l line) fences.lines ≡ before ++ line ∷ []
line-recorded before line fences h =
    ap (on_last (λ l. joined l line)) h.lines ∙ on-last (λ l. joined l line) before empty_line
    ∙ ap (λ (l : Line). before ++ l ∷ []) (empty-joined line)

line-noted : (before : List Line) (line : Line) (leaf : OpenLeaf) → IsOpen before leaf →
    noted AsLine line leaf ≡ with_lines (before ++ line ∷ []) leaf
line-noted before line (FenceLeaf fences info meta) h =
    ap (λ (l : List Line). FenceLeaf (record fences { lines = l }) info meta) (line-recorded before line fences h)
line-noted before line (MathLeaf fences meta) h =
    ap (λ (l : List Line). MathLeaf (record fences { lines = l }) meta) (line-recorded before line fences h)
line-noted before line _ h = absurd h

-- or stays empty
line-empty : (before : List Line) (leaf : OpenLeaf) → IsOpen before leaf →
    leaf ≡ with_lines (before ++ empty_line ∷ []) leaf
line-empty before (FenceLeaf fences info meta) h =
    ap (λ (l : List Line). FenceLeaf (record fences { lines = l }) info meta) h.lines
line-empty before (MathLeaf fences meta) h = ap (λ (l : List Line). MathLeaf (record fences { lines = l }) meta) h.lines
line-empty before _ h = absurd h

-- Its closing fence.

fence-closed : (before : List Line) (fences : Fenced) → IsFenced before fences →
    with_fence fences ≡ record fences { lines = before; closed = true }
fence-closed before fences h =
    ap₂
    (λ (x y : Bool).
    cond (x || y) fences (record fences { lines = without_last fences.lines; closed = true })) h.some h.unclosed
    ∙ ap (λ (l : List Line). let f : Fenced = record fences { lines = l; closed = true } in f)
    (ap without_last h.lines ∙ without-last before empty_line)

markers-are_valid : (markers now : List ℕ) → (length markers == 0) ≡ false → first_recorded markers now ≡ markers
markers-are_valid [] now e = cc
markers-are_valid (b ∷ bs) now e = refl

closing-noted : (before : List Line) (line : Line) (leaf : OpenLeaf) → IsOpen before leaf →
    noted AsMarkers line (at_fence leaf) ≡ with_closing before leaf
closing-noted before line (FenceLeaf fences info meta) h =
    ap (λ (f : Fenced). noted AsMarkers line (FenceLeaf f info meta)) (fence-closed before fences h)
    ∙ ap (λ (ms : List ℕ). FenceLeaf (record fences { markers = ms; lines = before; closed = true }) info meta)
    (markers-are_valid fences.markers line.text h.some)
closing-noted before line (MathLeaf fences meta) h =
    ap (λ (f : Fenced). noted AsMarkers line (MathLeaf f meta)) (fence-closed before fences h)
    ∙ ap (λ (ms : List ℕ). MathLeaf (record fences { markers = ms; lines = before; closed = true }) meta)
    (markers-are_valid fences.markers line.text h.some)
closing-noted before line _ h = absurd h

-- Events.

-- a part over a line is read as one
pub chunk-role : (m : ℕ) → role (chunk_name m) ≡ TextRole AsLine
chunk-role m = by-math (λ name. role name ≡ TextRole AsLine) (m == 36) _ _ refl refl

-- a closing fence
closing-recorded : (bytes : List ℕ) (m : ℕ) (p q end : Point) (rd : Reading) (more : List Event) →
    read bytes rd (enter (fence_name m) p ∷ enter (sequence_name m) p ∷ exit (sequence_name m) end ∷ more) ≡
    read bytes
    (on_leaf (noted AsMarkers (code.chunk_line bytes p end)) (record (on_leaf at_fence rd) { text = None })) more
closing-recorded bytes m p q end rd more =
    by-math
    (λ name.
    read bytes rd (enter name p ∷ enter (sequence_name m) p ∷ exit (sequence_name m) end ∷ more) ≡
    read bytes
    (on_leaf (noted AsMarkers (code.chunk_line bytes p end)) (record (on_leaf at_fence rd) { text = None })) more)
    (m == 36) _ _ sequence sequence
  where
    sequence : read bytes (on_leaf at_fence rd) (enter (sequence_name m) p ∷ exit (sequence_name m) end ∷ more) ≡
        read bytes
        (on_leaf (noted AsMarkers (code.chunk_line bytes p end)) (record (on_leaf at_fence rd) { text = None })) more
    sequence =
        by-math
        (λ name.
        read bytes (on_leaf at_fence rd) (enter name p ∷ exit name end ∷ more) ≡
        read bytes
        (on_leaf (noted AsMarkers (code.chunk_line bytes p end)) (record (on_leaf at_fence rd) { text = None })) more)
        (m == 36) _ _ refl refl

fence-end : (bytes : List ℕ) (m : ℕ) (q : Point) (rd : Reading) → read bytes rd (exit (fence_name m) q ∷ []) ≡ rd
fence-end bytes m q rd =
    by-math (λ name. read bytes rd (exit name q ∷ []) ≡ rd) (m == 36) _ _ refl refl

closing-read : (bytes : List ℕ) (m : ℕ) (text : List ℕ) (at q : Point) (rd : Reading) (leaf : OpenLeaf)
    (before : List Line) →
    rd.text ≡ None → rd.leaf ≡ Some leaf → IsOpen before leaf →
    read bytes rd (closing_part m text at q) ≡ record rd { leaf = Some (with_closing before leaf) }
closing-read bytes m text at q rd leaf before none is shape =
    let end = past_text (take (run_len m text) text) at in
    let white = part_over n.SpaceOrTab (drop (run_len m text) text) end q in
    let line = code.chunk_line bytes at end in
    let opened : Reading = record rd { leaf = Some (at_fence leaf) } in
    let closed : Reading = record rd { leaf = Some (with_closing before leaf) } in
    closing-recorded bytes m at q end rd (white ++ exit (fence_name m) q ∷ [])
    ∙ ap (λ (x : Reading). read bytes x (white ++ exit (fence_name m) q ∷ []))
    (ap (λ (l : Option OpenLeaf).
    on_leaf (noted AsMarkers line) (record rd { leaf = option_map at_fence l; text = None })) is
    ∙ leaf-recorded opened (noted AsMarkers line) (at_fence leaf) none refl
    ∙ ap (λ (l : OpenLeaf). let x : Reading = record rd { leaf = Some l } in x) (closing-noted before line leaf shape))
    ∙ read-from bytes closed closed white (exit (fence_name m) q ∷ [])
    (read-quiet bytes closed white (white-quiet (drop (run_len m text) text) end q))
    ∙ fence-end bytes m q closed

-- The line.

-- One that closes no block makes the last line the one of the line definition.
pub further-line-read : (options : ParseOptions) (bytes : List ℕ) (on : HeldLeaf) (r : Rest) (p q : Point) →
    FurtherAt bytes r p q → closes options (opening_of on) r ≡ false → (rd : Reading) (leaf : OpenLeaf)
    (before : List Line) →
    rd.text ≡ None → rd.leaf ≡ Some leaf → IsOpen before leaf →
    read bytes rd (further_parts options on r p q) ≡
    record rd { leaf = Some (with_lines (before ++ line_of (lose (held_indent on) r) ∷ []) leaf) }
further-line-read options bytes on r p q is other rd leaf before none at shape =
    let m = held_marker on in
    let lost = held_indent on in
    ap (λ (x : Bool). read bytes rd (cond x (closing_line m r p q) (chunk_line m lost r p q))) other
    ∙ lost-read bytes (chunk_name m) lost r p q (chunk-role m) is rd leaf none at
    (line-noted before empty_line leaf shape ∙ sym (line-empty before leaf shape))
    ∙ ap (λ (l : OpenLeaf). let x : Reading = record rd { leaf = Some l } in x)
    (line-noted before (line_of (lose lost r)) leaf shape)

-- A closing fence takes the last line away, and closes the block.
pub further-closing-read : (options : ParseOptions) (bytes : List ℕ) (on : HeldLeaf) (r : Rest) (p q : Point) →
    closes options (opening_of on) r ≡ true → (rd : Reading) (leaf : OpenLeaf) (before : List Line) →
    rd.text ≡ None → rd.leaf ≡ Some leaf → IsOpen before leaf →
    read bytes rd (further_parts options on r p q) ≡ record rd { leaf = Some (with_closing before leaf) }
further-closing-read options bytes on r p q closed rd leaf before none at shape =
    let m = held_marker on in
    let all = indent r in
    let part = closing_part m (trim_start r.bytes) (past_columns all r p) q in
    ap (λ (x : Bool). read bytes rd (cond x (closing_line m r p q) (chunk_line m (held_indent on) r p q))) closed
    ∙ read-from bytes rd rd (columns_part all r p) part
    (read-quiet bytes rd (columns_part all r p) (columns-quiet all r p))
    ∙ closing-read bytes m (trim_start r.bytes) (past_columns all r p) q rd leaf before none at shape
