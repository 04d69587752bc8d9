-- Prefixes part a text at the begins of its lines.
use Rattle.proof_frame.proofs.FrontValid.{fronts-parted}
use Rattle.proof_frame.proofs.Reached.{Fine, Reaches, begins-fine, cut-white, reaches-ended, reaches-fine}
use Rattle.proof_rows.proofs.GroupLines.{first-text}
use Rattle.std.proofs.Common.{◌≡◌, ℕ, zero, suc, ◌+◌, ◌<◌, ◌≤◌, Bool, true, false, cond, ◌&&◌, List, [], ◌∷◌, ◌++◌}
use Rattle.std.proofs.Common.{length, slice_range, refl, ap, sym, ◌∙◌, subst, append_assoc, arith}
use Rattle.proof_rows.proofs.KindLemmas.{kind-text}
use Rattle.md_engine.specs.declared.tokenizer.held_leaf.HeldLeaf.{HeldLeaf}
use Rattle.std.specs.Prelude.{◌==◌, not, slice_index, Some, None}
use Rattle.std.proofs.lemmas.Bool.{and_from, true≢false}
use Rattle.std.proofs.lemmas.Bool.Decides.{nat_tests}
use Rattle.md_engine.specs.declared.configuration.ParseOptions.{ParseOptions}
use Rattle.md_engine.specs.declared.event.Event.{Event}
use Rattle.md_engine.specs.declared.event.Kind.TheVariants.{Enter, Exit}
use Rattle.md_engine.specs.declared.event.Name.{Name}
use Rattle.md_engine.specs.declared.event.Point.{Point}
use Rattle.md_events.specs.declared.inline.Chunk.{Chunk}
use Rattle.md_events.specs.Events.Inline.{plain_chunk}
use Rattle.md_events.specs.Events.Nested.{around, enter, exit}
use Rattle.md_meaning.specs.Rest.{Rest, is_blank, is_white, cut_tab}
use Rattle.md_events.specs.Events.Spelled.{Purpose, Role, TextRole, byte_at, role}
use Rattle.md_events.proofs.RestCells.{Cut}
use Rattle.md_meaning.proofs.TextsLemmas.{NoEnding}
use Rattle.md_outline.specs.Outlined.{OpenTextSpan, are_parted, parts_by, parts_exit, span_by}
use Rattle.proof_frame.specs.Row.{BlankRow, Row, TextRow, after_row, last_row, read_lines}
use Rattle.proof_rows.specs.Rows.{line_kind, kind_of}
use Rattle.proof_frame.specs.LeafName.{first_of}
use Rattle.md_registry.specs.Registry.{leaf, trials}
use Rattle.proof_rows.proofs.RowFacts.{IsRow}
use Rattle.proof_frame.proofs.PartedFacts.{PrefixesAtLineStart, clear, passes-chunk}
use Rattle.proof_frame.proofs.BetweenFacts.{ending-following}
use Rattle.proof_rows.proofs.GroupLines.{AreLines}
use Rattle.proof_content_laws.proofs.Text.MayPart.{MayPart, feed-none, line-at, line-clear, line-tab}

-- where a line of text begins: after a tab that is cut is a byte of it, and no line feed
pub record BeginsText (bytes : List ℕ) (row : Row) : Type 0 where
  fine : not (slice_index bytes (byte_at row.first) == 10) ≡ true
  within : byte_at row.first ≤ row.end.index
  white : is_blank (slice_range bytes row.first.index (byte_at row.first)) ≡ true

-- it is in a text that continues with a line
abbrev pub Core : List ℕ → Row → List Event → Type 0
Core bytes row es =
    (span : OpenTextSpan) → Fine bytes span → span.from ≤ row.end.index → are_parted bytes (Some span) es ≡ true

pub rest-clear : (options : ParseOptions) (bytes line : List ℕ) (row : Row) → IsRow options bytes line row →
    clear bytes row.first ≡ true
rest-clear options bytes line row is =
    line-clear bytes row is.rest.spaces is.rest.bytes is.cut (is.text ∙ is.line_is)
    (is.size ∙ ap (λ (l : List ℕ). row.first.index + length l) is.line_is)

-- a line of text is not blank
pub text-nonblank : (options : ParseOptions) (on : HeldLeaf) (r : Rest) → line_kind options on r ≡ TextRow →
    is_blank r.bytes ≡ false
text-nonblank options on r e = go (is_blank r.bytes) (kind-text options on r e)
  where
    go : (x : Bool) → cond x BlankRow (kind_of (first_of (λ l. (leaf l).starts options on r) trials)) ≡ TextRow →
        x ≡ false
    go true h = cc
    go false h = refl

line-white : (bytes : List ℕ) (row : Row) (spaces : ℕ) (rest : List ℕ) → Cut spaces row.first →
    slice_range bytes row.first.index row.end.index ≡ cut_tab spaces ++ rest →
    row.end.index ≡ row.first.index + length (cut_tab spaces ++ rest) →
    is_blank (slice_range bytes row.first.index (byte_at row.first)) ≡ true
line-white bytes row spaces rest cut text size =
    cut-white bytes row.first
    (λ e. subst (λ (b : ℕ). is_white b ≡ true) (sym (line-tab bytes row spaces rest cut text size e)) refl)

pub line-begins : (bytes : List ℕ) (row : Row) (spaces : ℕ) (rest : List ℕ) → Cut spaces row.first →
    slice_range bytes row.first.index row.end.index ≡ cut_tab spaces ++ rest →
    row.end.index ≡ row.first.index + length (cut_tab spaces ++ rest) → is_blank rest ≡ false →
    NoEnding (cut_tab spaces ++ rest) → BeginsText bytes row
line-begins bytes row zero [] cut text size blank none = absurd (true≢false blank)
line-begins bytes row zero (b ∷ rest) cut text size blank none =
    let at : byte_at row.first ≡
    row.first.index + 0 = ap (λ (v : ℕ). cond (v == 0) row.first.index (row.first.index + 1)) cut
    ∙ omega arith in
    let is : slice_index bytes (byte_at row.first) ≡ b = ap (slice_index bytes) at
    ∙ line-at bytes (b ∷ rest) row.first.index row.end.index 0 b text size (omega arith) refl in
    record {
      fine = ap (λ (c : ℕ). not (c == 10)) is ∙ feed-none b none.0;
      within = omega (arith, at, size);
      white = line-white bytes row zero (b ∷ rest) cut text size;
    }
line-begins bytes row (suc spaces) [] cut text size blank none = absurd (true≢false blank)
line-begins bytes row (suc spaces) (b ∷ rest) cut text size blank none =
    let other : (row.first.vs == 0) ≡ false = positive row.first.vs cut.0 in
    let at : byte_at row.first ≡
    row.first.index + 1 = ap (λ (x : Bool). cond x row.first.index (row.first.index + 1)) other in
    let is : slice_index bytes (byte_at row.first) ≡ b = ap (slice_index bytes) at
    ∙ line-at bytes (9 ∷ b ∷ rest) row.first.index row.end.index 1 b text size (omega arith) refl in
    record {
      fine = ap (λ (c : ℕ). not (c == 10)) is ∙ feed-none b none.1.0;
      within = omega (arith, at, size);
      white = line-white bytes row (suc spaces) (b ∷ rest) cut text size;
    }
  where
    positive : (v : ℕ) → 0 < v → (v == 0) ≡ false
    positive v h = grind (arith, nat_tests)

pub text-begins : (options : ParseOptions) (bytes line : List ℕ) (row : Row) → IsRow options bytes line row →
    row.kind ≡ TextRow → BeginsText bytes row
text-begins options bytes line row is e =
    line-begins bytes row is.rest.spaces is.rest.bytes is.cut (is.text ∙ is.line_is)
    (is.size ∙ ap (λ (l : List ℕ). row.first.index + length l) is.line_is)
    (text-nonblank options row.on is.rest (sym is.kind ∙ e)) (subst NoEnding is.line_is is.no_ending)

-- the last line of a text
core-alone : (bytes : List ℕ) (name : Name) (purpose : Purpose) (row : Row) (ys : List Event) →
    role name ≡ TextRole purpose → MayPart bytes purpose → are_parted bytes None ys ≡ true →
    Core bytes row (read_lines bytes row [] ++ exit name row.end ∷ ys)
core-alone bytes name purpose row ys records may h span fine within =
    passes-chunk bytes (Some span) (record { first = row.first; after = row.end }) (exit name row.end ∷ ys)
    ∙ ap
    (λ (x : Role).
    parts_by bytes Exit x row.end (Some span) && are_parted bytes (span_by Exit x row.end (Some span)) ys) records
    ∙ and_from (parts_exit bytes (TextRole purpose) row.end span) (are_parted bytes None ys)
    (may row.end span ∙ begins-fine bytes span row.end.index fine) h

-- so it is after the first line, and what is before the next
pub read-parted : (options : ParseOptions) (bytes : List ℕ) (name : Name) (purpose : Purpose) (row : Row)
    (rows : List Row) (ys : List Event) →
    role name ≡ TextRole purpose → MayPart bytes purpose → AreLines options bytes row rows →
    are_parted bytes None ys ≡ true →
    Core bytes row (read_lines bytes row rows ++ exit name (last_row row rows).end ∷ ys)
read-parted options bytes name purpose row [] ys records may h more span fine within =
    core-alone bytes name purpose row ys records may more span fine within
read-parted options bytes name purpose row (next ∷ rows) ys records may h more span fine within =
    let q : Point = h.3 in
    let chunk : Chunk = record { first = row.first; after = after_row row } in
    let events : List Event = plain_chunk bytes chunk in
    let apart : ((events ++ next.front) ++ text) ++ rest ≡
    events ++ (next.front ++ (text ++ rest)) = simp append_assoc in
    ap (are_parted bytes (Some span)) apart
    ∙ passes-chunk bytes (Some span) chunk (next.front ++ (text ++ rest))
    ∙ fronts-parted bytes [] q next.first next.front span (text ++ rest) h.6 refl (ending-following bytes row.end q h.5)
    (rest-clear options bytes line.0 next line.1) (reaches-ended bytes row.end q span h.5 fine within)
    (further (read-parted options bytes name purpose next rows ys records may h.7 more))
  where
    line : (line : List ℕ) × IsRow options bytes line next × (next.kind ≡ TextRow)
    line = first-text options bytes next rows h.7

    begins : BeginsText bytes next
    begins = text-begins options bytes line.0 next line.1 line.2

    text : List Event
    text = read_lines bytes next rows

    rest : List Event
    rest = exit name (last_row next rows).end ∷ ys

    further : Core bytes next (text ++ rest) → (after : OpenTextSpan) → Reaches bytes next.first after →
        are_parted bytes (Some after) (text ++ rest) ≡ true
    further core after reaches =
        core after (reaches-fine bytes next.first after reaches begins.fine begins.white)
        (let from = reaches.from in let within = begins.within in omega (arith, from, within))

-- A text that begins ends.
pub text-sits : (options : ParseOptions) (bytes : List ℕ) (name : Name) (purpose : Purpose) (row : Row)
    (rows : List Row) →
    role name ≡ TextRole purpose → MayPart bytes purpose → AreLines options bytes row rows →
    PrefixesAtLineStart bytes (around name row.first (last_row row rows).end (read_lines bytes row rows))
text-sits options bytes name purpose row rows records may h ys more =
    let line : (line : List ℕ) × IsRow options bytes line row ×
    (row.kind ≡ TextRow) = first-text options bytes row rows h in
    let begins : BeginsText bytes row = text-begins options bytes line.0 row line.1 line.2 in
    let events : List Event = read_lines bytes row rows in
    let rest : List Event = events ++ exit name (last_row row rows).end ∷ ys in
    let span : OpenTextSpan = record { from = byte_at row.first; is_parted = false } in
    ap (λ (es : List Event). are_parted bytes None (enter name row.first ∷ es))
    (append_assoc events (exit name (last_row row rows).end ∷ []) ys)
    ∙ ap (λ (x : Role). are_parted bytes (span_by Enter x row.first None) rest) records
    ∙ read-parted options bytes name purpose row rows ys records may h more span refl begins.within
