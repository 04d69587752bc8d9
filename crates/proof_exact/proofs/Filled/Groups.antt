-- The lines of one leaf: what is before it, the leaf, and what follows it.
use Rattle.std.proofs.Common.{◌≡◌, ℕ, zero, suc, ◌+◌, Bool, true, false, cond, not, List, [], ◌∷◌, ◌++◌, length, take, drop}
use Rattle.std.proofs.Common.{refl, ap, sym, ◌∙◌, subst, arith}
use Rattle.std.specs.Prelude.{◌||◌, Option, Some, None}
use Rattle.std.specs.List.{before_first, position_or_len}
use Rattle.md_engine.specs.declared.configuration.ParseOptions.{ParseOptions}
use Rattle.md_engine.specs.declared.event.Name.{Name}
use Rattle.md_engine.specs.declared.event.Name.TheVariants as n
use Rattle.md_meaning.specs.declared.outline.Word.{Word}
use Rattle.md_meaning.specs.declared.outline.Word.TheVariants as word
use Rattle.md_meaning.specs.Bytes.{is_end}
use Rattle.md_meaning.specs.Leaves.{Finished, LeafResult, Opened}
use Rattle.md_meaning.specs.Rest.{is_blank}
use Rattle.md_meaning.specs.State.{OpenCode, OpenFence, OpenHtml}
use Rattle.md_meaning.specs.Tree.{Bare, Heading, Html}
use Rattle.md_events.specs.Events.Names.{bare_names}
use Rattle.md_events.specs.Exact.Blocks.{bare_events, events_by, group_events, is_continued, leaf_events, tail}
use Rattle.md_events.specs.Exact.Leaves.{content_line, heading_line, leaf, runs_line}
use Rattle.md_events.specs.Exact.Places.{ending}
use Rattle.md_events.specs.Exact.Rows.{AfterCode, Blank, Delimiter, First, FirstText, Further, FurtherText, Head, Role, Row}
use Rattle.md_events.specs.Exact.Rows.{Underline, is_blank_role, next_role}
use Rattle.md_events.specs.Exact.Texts.{is_underline, remaining, text}
use Rattle.proof_exact.proofs.Filled.Leaves.{AreLines, IsLine, OfLines, content-filled, fence-filled, heading-filled}
use Rattle.proof_exact.proofs.Filled.Leaves.{joined-filled, leaf-filled, line-ending, runs_line-filled, table-filled}
use Rattle.proof_exact.proofs.Filled.OpenText.{IsPlainText}
use Rattle.proof_exact.proofs.Filled.Parts.{Filled, filled-append, filled-none, is_plain}
use Rattle.proof_exact.proofs.Filled.RowTexts.{AfterText}
use Rattle.proof_exact.proofs.Filled.TextSpans as spans
use Rattle.proof_exact.proofs.Filled.TextSpans.{BareFirst, IsText, Texts}
use Rattle.proof_exact.proofs.Filled.Texts.{remaining-filled, text_events-filled}

-- A line of the exact list.
pub record IsRow (bytes : List ℕ) (row : Row) : Type 0 where
  pub line : IsLine bytes row
  -- a line that continues a leaf has no parts before it
  pub further : is_continued row.role ≡ true → spans.Bare row.front
  pub dark : IsPlainText row.role → is_blank row.rest.bytes ≡ false

-- lines, of which each is one that may come after the one before it
abbrev pub AreRows : List ℕ → List Row → Type 0
AreRows bytes [] = Unit {0}
AreRows bytes (row ∷ rows) =
    IsRow bytes row × (IsPlainText row.role → AfterText (next_role rows)) × AreRows bytes rows

-- all of these continue the line before them
abbrev pub AllGo : List Row → Type 0
AllGo [] = Unit {0}
AllGo (row ∷ rows) = (is_continued row.role ≡ true) × AllGo rows

rows-lines : (bytes : List ℕ) (rows : List Row) → AreRows bytes rows → AreLines bytes rows
rows-lines bytes [] are = tt
rows-lines bytes (row ∷ rows) are = (are.0.line, rows-lines bytes rows are.2)

-- Leaves that are no text.

record PlainNames (names : Option (Name × Name)) : Type 0 where
  plain : (found : Name × Name) → names ≡ Some found → (is_plain found.0 ≡ true) × (is_plain found.1 ≡ true)

bare-names : (w : Word) → PlainNames (bare_names w)
bare-names word.Break = record {
  plain = λ found e. let same : (n.ThematicBreak, n.ThematicBreakSequence) ≡ found = cc in
      subst (λ (names : Name × Name). (is_plain names.0 ≡ true) × (is_plain names.1 ≡ true)) same (refl, refl);
}
bare-names _ = record { plain = λ found e. absurd (cc) }

module _ (bytes : List ℕ) (options : ParseOptions) where
  of-lines : (name : Name) (inside : _) → is_plain name ≡ true → OfLines bytes inside → (rows : List Row) →
      AreLines bytes rows → Filled bytes (leaf name inside rows)
  of-lines name inside h of [] are = filled-none
  of-lines name inside h of (row ∷ rows) are = leaf-filled name inside h of row rows are.0.rest are.1

  bare-filled : (rows : List Row) (names : Option (Name × Name)) → AreLines bytes rows → PlainNames names →
      Filled bytes (bare_events rows names)
  bare-filled rows None are plain = filled-none
  bare-filled rows (Some names) are plain =
      let both = plain.plain names refl in
      of-lines names.0 (runs_line names.1) both.0 (runs_line-filled names.1 both.1) rows are

  first-filled : (became : LeafResult) (row : Row) (rows : List Row) → AreLines bytes (row ∷ rows) →
      Filled bytes (leaf_events options became (row ∷ rows))
  first-filled (Finished (Bare w)) row rows are = bare-filled (row ∷ rows) (bare_names w) are (bare-names w)
  first-filled (Finished (Heading depth lines)) row rows are =
      of-lines n.HeadingAtx heading_line refl heading-filled (row ∷ rows) are
  first-filled (Opened (OpenCode lines)) row rows are =
      of-lines n.CodeIndented (content_line n.CodeFlowChunk 4) refl (content-filled n.CodeFlowChunk 4 refl) (row ∷ rows)
      are
  first-filled (Opened (OpenFence o lines)) row rows are = fence-filled options o row rows are.1
  first-filled (Opened (OpenHtml kind lines)) row rows are =
      of-lines n.HtmlFlow (content_line n.HtmlFlowData 0) refl (content-filled n.HtmlFlowData 0 refl) (row ∷ rows) are
  first-filled (Finished (Html lines)) row rows are =
      of-lines n.HtmlFlow (content_line n.HtmlFlowData 0) refl (content-filled n.HtmlFlowData 0 refl) (row ∷ rows) are
  first-filled (Opened _) row rows are = filled-none
  first-filled (Finished _) row rows are = filled-none

  -- Texts.

  -- the lines before the first underline
  abbrev before : List Row → List Row
  before rows = before_first (λ (row : Row). is_underline row.role) rows

  before-more : (row : Row) (rows : List Row) → is_underline row.role ≡ false → before (row ∷ rows) ≡ row ∷ before rows
  before-more row rows e =
      let size : ℕ = position_or_len (λ (r : Row). is_underline r.role) rows in
      let more : 1 + size ≡ suc size = omega arith in
      ap (λ (x : Bool). take (cond (not x) (1 + size) 0) (row ∷ rows)) e ∙ ap (λ (n : ℕ). take n (row ∷ rows)) more

  before-none : (row : Row) (rows : List Row) → is_underline row.role ≡ true → before (row ∷ rows) ≡ []
  before-none row rows e =
      let size : ℕ = position_or_len (λ (r : Row). is_underline r.role) rows in
      ap (λ (x : Bool). take (cond (not x) (1 + size) 0) (row ∷ rows)) e

  plain-under : (role : Role) → IsPlainText role → is_underline role ≡ false
  plain-under Underline h = absurd h
  plain-under _ h = refl

  -- they are lines of the text
  abbrev AreTexts : List Row → Type 0
  AreTexts rows = BareFirst rows × Texts bytes rows

  text-more : (row : Row) (rows : List Row) → IsPlainText row.role → IsRow bytes row → AreTexts (before rows) →
      Texts bytes (before (row ∷ rows))
  text-more row rows plain is more =
      subst (Texts bytes) (sym (before-more row rows (plain-under row.role plain)))
      ((record { line = is.line; dark = is.dark plain }, more.0), more.1)

  further-texts : (rows : List Row) → AfterText (next_role rows) → AreRows bytes rows → AllGo rows →
      AreTexts (before rows)
  further-texts [] h are proceeds = (tt, tt)
  further-texts (next ∷ rows) h are proceeds =
      go next.role refl h proceeds.0 (λ plain. further-texts rows (are.1 plain) are.2 proceeds.1)
    where
      stops : (role : Role) → next.role ≡ role → is_continued role ≡ false → is_continued next.role ≡ true →
          AreTexts (before (next ∷ rows))
      stops role e none c = let bad : false ≡ true = sym none ∙ ap is_continued (sym e) ∙ c in absurd (cc)

      go : (role : Role) → next.role ≡ role → AfterText role → is_continued next.role ≡ true →
          (IsPlainText next.role → AreTexts (before rows)) → AreTexts (before (next ∷ rows))
      go FurtherText e k c more =
          let plain : IsPlainText next.role = subst IsPlainText (sym e) tt in (
            subst BareFirst (sym (before-more next rows (ap is_underline e))) (are.0.further c),
            text-more next rows plain are.0 (more plain),
          )
      go Underline e k c more = subst AreTexts (sym (before-none next rows (ap is_underline e))) (tt, tt)
      go (Further l) e k c more = absurd k
      go Delimiter e k c more = absurd k
      go Blank e k c more = stops Blank e refl c
      go (First b) e k c more = stops (First b) e refl c
      go FirstText e k c more = stops FirstText e refl c
      go Head e k c more = stops Head e refl c
      go AfterCode e k c more = stops AfterCode e refl c

  texts-before : (row : Row) (rows : List Row) → IsPlainText row.role → AreRows bytes (row ∷ rows) → AllGo rows →
      Texts bytes (before (row ∷ rows))
  texts-before row rows plain are proceeds =
      text-more row rows plain are.0 (further-texts rows (are.1 plain) are.2 proceeds)

  drop-lines : (size : ℕ) (rows : List Row) → AreLines bytes rows → AreLines bytes (drop size rows)
  drop-lines zero rows are = are
  drop-lines (suc size) [] are = tt
  drop-lines (suc size) (row ∷ rows) are = drop-lines size rows are.1

  text-filled : (row : Row) (rows : List Row) → IsPlainText row.role → AreRows bytes (row ∷ rows) → AllGo rows →
      Filled bytes (text options (row ∷ rows))
  text-filled row rows plain are proceeds =
      text_events-filled bytes (remaining unders)
      (λ lines texts.
      remaining-filled bytes unders lines
      (drop-lines (length lines_before) (row ∷ rows) (rows-lines bytes (row ∷ rows) are)) texts)
      (cond options.constructs.definition (length lines_before) 0) lines_before
      (texts-before row rows plain are proceeds)
    where
      lines_before : List Row
      lines_before = before (row ∷ rows)

      unders : List Row
      unders = drop (length lines_before) (row ∷ rows)

  -- Any leaf.

  leaf-by : (role : Role) (row : Row) (rows : List Row) → row.role ≡ role → AreRows bytes (row ∷ rows) → AllGo rows →
      is_continued role ≡ false → Filled bytes (events_by options role (row ∷ rows))
  leaf-by Blank row rows e are proceeds first =
      joined-filled (content_line n.SpaceOrTab 0) (content-filled n.SpaceOrTab 0 refl) (row ∷ rows)
      (rows-lines bytes (row ∷ rows) are)
  leaf-by AfterCode row rows e are proceeds first =
      joined-filled (content_line n.SpaceOrTab 4) (content-filled n.SpaceOrTab 4 refl) (row ∷ rows)
      (rows-lines bytes (row ∷ rows) are)
  leaf-by (First became) row rows e are proceeds first =
      first-filled became row rows (rows-lines bytes (row ∷ rows) are)
  leaf-by Head row rows e are proceeds first = table-filled (row ∷ rows) (rows-lines bytes (row ∷ rows) are)
  leaf-by FirstText row rows e are proceeds first =
      text-filled row rows (subst IsPlainText (sym e) tt) are proceeds
  leaf-by (Further leaf) row rows e are proceeds first = absurd (cc)
  leaf-by FurtherText row rows e are proceeds first = absurd (cc)
  leaf-by Underline row rows e are proceeds first = absurd (cc)
  leaf-by Delimiter row rows e are proceeds first = absurd (cc)

  pub tail-filled : (rows : List Row) → AreLines bytes rows → Filled bytes (tail rows)
  tail-filled [] are = filled-none
  tail-filled (row ∷ []) are =
      filled-append row.ends (ending (cond (is_blank_role row.role || is_end row.line.bytes) n.BlankLineEnding
      n.LineEnding) row.line)
      are.0.ends
      (line-ending (cond (is_blank_role row.role || is_end row.line.bytes) n.BlankLineEnding n.LineEnding) row.line
      (go (is_blank_role row.role || is_end row.line.bytes)))
    where
      go : (x : Bool) → is_plain (cond x n.BlankLineEnding n.LineEnding) ≡ true
      go true = refl
      go false = refl
  tail-filled (row ∷ next ∷ rows) are = tail-filled (next ∷ rows) are.1

  pub group-filled : (row : Row) (rows : List Row) → AreRows bytes (row ∷ rows) → AllGo rows →
      is_continued row.role ≡ false → Filled bytes (group_events options (row ∷ rows))
  group-filled row rows are proceeds first =
      filled-append (row.front ++ events_by options row.role (row ∷ rows)) (tail (row ∷ rows))
      (filled-append row.front (events_by options row.role (row ∷ rows)) are.0.line.front
      (leaf-by row.role row rows refl are proceeds first))
      (tail-filled (row ∷ rows) (rows-lines bytes (row ∷ rows) are))
