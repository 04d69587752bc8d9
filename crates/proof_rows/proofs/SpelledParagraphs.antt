-- What the events of a paragraph are read as, where prefixes of containers are before its lines: its lines without
-- them.
use Rattle.std.proofs.Common.{◌≡◌, ℕ, zero, suc, ◌+◌, ◌≤◌, Bool, true, false, cond, List, [], ◌∷◌, ◌++◌, length}
use Rattle.std.proofs.Common.{slice_range, refl, ap, sym, ◌∙◌, subst, append_assoc, append-nil, arith}
use Rattle.proof_rows.proofs.KindLemmas.{kind-text}
use Rattle.std.specs.Prelude.{◌==◌, Option, None}
use Rattle.std.proofs.lemmas.Bool.Decides.{nat_tests}
use Rattle.std.proofs.lemmas.List.{take_all}
use Rattle.md_engine.specs.declared.configuration.ParseOptions.{ParseOptions}
use Rattle.md_engine.specs.declared.event.Event.{Event}
use Rattle.md_engine.specs.declared.event.Name.TheVariants as n
use Rattle.md_engine.specs.declared.event.Point.{Point}
use Rattle.md_events.specs.declared.inline.Chunk.{Chunk}
use Rattle.md_events.specs.Events.Inline.{plain_chunk}
use Rattle.md_meaning.specs.Lines.{begins_with}
use Rattle.md_events.specs.Events.Nested.{around}
use Rattle.md_meaning.specs.Rest.{is_blank, trim_start, cut_tab}
use Rattle.md_events.specs.Events.Spelled.{Reading, add_block, byte_at, read}
use Rattle.md_meaning.specs.State.{ParagraphLine, kept, texts}
use Rattle.md_meaning.specs.Tree.{Paragraph}
use Rattle.md_events.proofs.ParagraphReads.{read-paragraph}
use Rattle.md_events.proofs.FeedLines.{slice-inside}
use Rattle.md_events.proofs.RestCells.{Cut}
use Rattle.md_events.proofs.SpelledLemmas.{Between, QuietOrEnding, roles-append}
use Rattle.md_meaning.proofs.TextsLemmas.{NoEnding, ending_bytes}
use Rattle.proof_frame.specs.LeafName.{LeafName}
use Rattle.proof_frame.specs.Row.{BlankRow, Row, TextRow, after_row, last_row, read_lines}
use Rattle.proof_rows.specs.Rows.{kind_of}
use Rattle.proof_frame.proofs.FrontFacts.{LinePrefix}
use Rattle.proof_frame.proofs.PlainRoles.{chunk-roles}
use Rattle.md_registry.proofs.Dispatch.{leaf_at}
use Rattle.proof_rows.proofs.RowFacts as f
use Rattle.proof_frame.proofs.CollectFacts.{Collects, collects-inline, collects-following, collects-back}
use Rattle.proof_frame.proofs.ParagraphLines.{IsRead, begins-white, collects-fronts, ends-before, fronts-between}
use Rattle.proof_frame.proofs.ParagraphLines.{lines-more, lines-recorded, of-white, onto_line, trim-onto}

-- Roles.

-- Texts.

-- Lines.

-- a line is filled, and has no ending
pub record IsFilled (line : List ℕ) : Type 0 where
  pub no_ending : NoEnding line
  pub filled : is_blank line ≡ false

-- the bytes of a line of text are after the byte at which it begins
line-bytes : (options : ParseOptions) (bytes line : List ℕ) (row : Row) → (is : f.IsRow options bytes line row) →
    (slice_range bytes (byte_at row.first) row.end.index ≡ is.rest.bytes) × (byte_at row.first ≤ row.end.index)
line-bytes options bytes line row is =
    go is.rest.spaces is.cut (is.text ∙ is.line_is)
    (is.size ∙ ap (λ (l : List ℕ). row.first.index + length l) is.line_is)
  where
    all : List ℕ
    all = is.rest.bytes

    go : (n : ℕ) → Cut n row.first → slice_range bytes row.first.index row.end.index ≡ cut_tab n ++ all →
        row.end.index ≡ row.first.index + length (cut_tab n ++ all) →
        (slice_range bytes (byte_at row.first) row.end.index ≡ all) × (byte_at row.first ≤ row.end.index)
    go zero whole text size =
        let here : byte_at row.first ≡
        row.first.index = ap (λ (vs : ℕ). cond (vs == 0) row.first.index (row.first.index + 1)) whole in
        (ap (λ (i : ℕ). slice_range bytes i row.end.index) here ∙ text, omega arith)
    go (suc k) within text size =
        let some : (row.first.vs == 0) ≡ false = let more = within.0 in grind (arith, nat_tests) in
        let here : byte_at row.first ≡
        row.first.index + 1 = ap (λ (x : Bool). cond x row.first.index (row.first.index + 1)) some in
        let end : row.first.index + 1 + length all ≡ row.end.index = omega arith in (
          ap (λ (i : ℕ). slice_range bytes i row.end.index) here
              ∙ ap (slice_range bytes (row.first.index + 1)) (sym end)
              ∙ slice-inside bytes (9 ∷ all) row.first.index row.end.index 1 (length all) text size (omega arith)
              ∙ take_all (length all) all (omega arith),
          omega arith,
        )

pub text-filled : (options : ParseOptions) (bytes line : List ℕ) (row : Row) → (is : f.IsRow options bytes line row) →
    row.kind ≡ TextRow → IsFilled is.rest.bytes
text-filled options bytes line row is text = record {
  no_ending = go is.rest.spaces (subst NoEnding is.line_is is.no_ending);
  filled = by (is_blank is.rest.bytes) (leaf_at options row.on is.rest)
      (kind-text options row.on is.rest (sym is.kind ∙ text));
}
  where
    go : (n : ℕ) → NoEnding (cut_tab n ++ is.rest.bytes) → NoEnding is.rest.bytes
    go zero h = h
    go (suc k) h = h.1

    by : (x : Bool) (o : Option LeafName) → cond x BlankRow (kind_of o) ≡ TextRow → x ≡ false
    by true o h = cc
    by false o h = refl

-- no line feed comes first
begins-line : (line more : List ℕ) → IsFilled line → begins_with 10 (line ++ more) ≡ false
begins-line [] more is = let bad = is.filled in cc
begins-line (b ∷ line) more is = let none = is.no_ending.0 in grind (arith, nat_tests)

-- one line
pub read-one : (options : ParseOptions) (bytes line : List ℕ) (row : Row) → (is : f.IsRow options bytes line row) →
    row.kind ≡ TextRow → IsRead bytes row [] (kept is.rest ∷ [])
read-one options bytes line row is text =
    let all : List ℕ = is.rest.bytes in
    let own = line-bytes options bytes line row is in
    let filled = text-filled options bytes line row is text in
    let chunk : Chunk = record { first = row.first; after = row.end } in
    record {
      own = all ∷ [];
      all = all;
      collects =
          subst (Collects bytes (plain_chunk bytes chunk) (byte_at row.first) row.end.index) own.0
          (collects-inline bytes (plain_chunk bytes chunk) (byte_at row.first) row.end.index
          (chunk-roles QuietOrEnding bytes chunk tt tt) own.1);
      are = (filled.no_ending, refl);
      begins = ap (begins_with 10) (sym (append-nil all)) ∙ begins-line all [] filled;
      texts_are = refl;
      between = chunk-roles Between bytes chunk tt tt;
    }

-- one more in front
pub read-more : (options : ParseOptions) (bytes line : List ℕ) (row next : Row) (rows : List Row) (q : Point)
    (lines : List ParagraphLine) →
    (is : f.IsRow options bytes line row) → row.kind ≡ TextRow → f.IsEnding bytes row.end q →
    LinePrefix bytes [] q next.first next.front → IsRead bytes next rows lines →
    IsRead bytes row (next ∷ rows) (kept is.rest ∷ lines)
read-more options bytes line row next rows q lines is text ending fronts below =
    let here : List ℕ = is.rest.bytes in
    let own = line-bytes options bytes line row is in
    let filled = text-filled options bytes line row is text in
    let chunk : Chunk = record { first = row.first; after = after_row row } in
    let end : ℕ = (last_row next rows).end.index in
    let further : List Event = read_lines bytes next rows in
    let fronted = collects-fronts bytes [] q next.first next.front further end below.all fronts refl below.collects in
    let white : List ℕ = fronted.0 in
    let whole : byte_at q ≡ q.index = ap (λ (vs : ℕ). cond (vs == 0) q.index (q.index + 1)) ending.whole in
    let from : Collects bytes (next.front ++ further) q.index end (white ++ below.all) = subst
    (λ (i : ℕ). Collects bytes (next.front ++ further) i end (white ++ below.all)) whole fronted.2 in
    let size = ending.size in
    let le : byte_at row.first ≤ q.index = let first = own.1 in omega arith in
    let with_ending : slice_range bytes (byte_at row.first) q.index ≡ here ++ ending_bytes ending.ending =
    f.slice-split bytes (byte_at row.first) row.end.index q.index own.1 (omega arith)
    ∙ ap (λ (l : List ℕ). l ++ slice_range bytes row.end.index q.index) own.0
    ∙ ap (λ (l : List ℕ). here ++ l) ending.text in
    let all : List ℕ = (here ++ ending_bytes ending.ending) ++ (white ++ below.all) in
    let found : Collects bytes (plain_chunk bytes chunk ++ (next.front ++ further)) (byte_at row.first) end all =
    subst
    (λ (l : List ℕ).
    Collects bytes (plain_chunk bytes chunk ++ (next.front ++ further)) (byte_at row.first) end
    (l ++ (white ++ below.all))) with_ending
    (collects-back bytes (plain_chunk bytes chunk ++ (next.front ++ further)) (byte_at row.first) q.index end
    (white ++ below.all) le
    (collects-following bytes (plain_chunk bytes chunk) (next.front ++ further) q.index end (white ++ below.all)
    (chunk-roles QuietOrEnding bytes chunk tt tt) from)) in
    record {
      own = here ∷ onto_line white below.own;
      all = all;
      collects =
          subst (λ (l : List Event). Collects bytes l (byte_at row.first) end all)
          (sym (append_assoc (plain_chunk bytes chunk) next.front further)) found;
      are =
          lines-more here (onto_line white below.own) all ending.ending (white ++ below.all) filled.no_ending
          (ends-before ending.ending (white ++ below.all) (begins-white white below.all fronted.1 below.begins)) refl
          (of-white white below.own below.all fronted.1 below.are);
      begins =
          ap (begins_with 10) (append_assoc here (ending_bytes ending.ending) (white ++ below.all))
          ∙ begins-line here (ending_bytes ending.ending ++ (white ++ below.all)) filled;
      texts_are =
          ap (λ (l : List (List ℕ)). trim_start here ∷ l) (below.texts_are ∙ sym (trim-onto white below.own fronted.1));
      between =
          roles-append Between (plain_chunk bytes chunk ++ next.front) further
          (roles-append Between (plain_chunk bytes chunk) next.front (chunk-roles Between bytes chunk tt tt)
          (fronts-between bytes [] q next.first next.front fronts refl)) below.between;
    }

-- The events of a paragraph are read as its lines.
pub read-lines : (bytes : List ℕ) (row : Row) (rows : List Row) (lines : List ParagraphLine) (r : Reading) →
    IsRead bytes row rows lines → r.text ≡ None →
    read bytes r (around n.Paragraph row.first (last_row row rows).end (read_lines bytes row rows)) ≡
    add_block (Paragraph (texts lines)) r
read-lines bytes row rows lines r is none =
    read-paragraph bytes r row.first (last_row row rows).end (read_lines bytes row rows) is.own none is.between
    (lines-recorded bytes row rows lines is)
    ∙ ap (λ (l : List (List ℕ)). add_block (Paragraph l) r) (sym is.texts_are)
