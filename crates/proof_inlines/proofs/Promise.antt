-- The inline definition gives each text a forest over all of it, whatever the options and labels are.
use Rattle.std.proofs.Common.{◌≡◌, ℕ, ◌+◌, ◌≤◌, Bool, true, false, cond, ◌&&◌, List, [], ◌∷◌, length, take}
use Rattle.std.proofs.Common.{drop, refl, arith}
use Rattle.std.specs.Prelude.{Some, None, option_map, slice_index}
use Rattle.std.proofs.lemmas.List.{length-drop}
use Rattle.md_engine.specs.declared.event.Name.TheVariants as n
use Rattle.md_meaning.specs.Ascii.{backtick, dollar}
use Rattle.md_meaning.specs.Label.{Labels}
use Rattle.md_meaning.specs.Lines.{begins_with}
use Rattle.md_meaning.specs.Rest.{run_len}
use Rattle.std.specs.Prelude.{◌==◌, not}
use Rattle.md_inline_events.specs.Forest.{Forest, IsForestOf, nothing, part, size}
use Rattle.md_inlines.specs.Literal.{literal_at}
use Rattle.md_inlines.specs.Task.{is_checked, is_task}
use Rattle.md_inlines.specs.declared.InlineOptions.{InlineOptions}
use Rattle.md_inlines.specs.Atoms.{address, atom, autolink_at, break_escape_at, byte, code_at, escape_at, html_at}
use Rattle.md_inlines.specs.Atoms.{math_at}
use Rattle.md_inlines.specs.Atoms.{merged, raw, raw_or_text, reference_forest}
use Rattle.md_inlines.specs.Brackets as brackets
use Rattle.md_inlines.specs.Content.{check, content, forest, forest_after, has_form}
use Rattle.md_inlines.specs.Emails.{with_emails}
use Rattle.md_inlines.specs.Emphasis.{emphasis}
use Rattle.proof_inlines.specs.Sized.{IsFront, Over}
use Rattle.proof_inlines.proofs.AngleLemmas.{autolink-front, break-escape-front, html-front, trailing-front}
use Rattle.proof_inlines.proofs.AtomLemmas.{Fronts, begins-some, either-front, escape-front, front, raw-front}
use Rattle.proof_inlines.proofs.AtomLemmas.{reference-front, same-front, when-front}
use Rattle.proof_inlines.proofs.ContentLemmas.{text-over}
use Rattle.proof_inlines.proofs.ContentForests.{merged-over, part-over, same-over}
use Rattle.proof_inlines.proofs.LiteralLemmas.{emails-over, literal-front}
use Rattle.proof_inlines.proofs.TargetLemmas.{target-leads}

code-front : (text : List ℕ) → Fronts text (code_at text)
code-front text found is = go (begins_with backtick text) refl is
  where
    go : (t : Bool) → begins_with backtick text ≡ t →
        cond t (Some (raw_or_text (raw n.CodeText n.CodeTextSequence n.CodeTextData) backtick text)) None ≡ Some found →
        IsFront text found
    go true b is =
        same-front text (raw_or_text (raw n.CodeText n.CodeTextSequence n.CodeTextData) backtick text) found is
        (raw-front n.CodeText n.CodeTextSequence n.CodeTextData backtick text refl refl refl b)
    go false b is = cc

math-front : (single : Bool) (text : List ℕ) → Fronts text (math_at single text)
math-front single text found is =
    go (begins_with dollar text) refl (not single && (run_len dollar text == 1)) is
  where
    go : (t : Bool) → begins_with dollar text ≡ t → (s : Bool) →
        cond (not t) None
        (cond s (Some (byte n.Data nothing))
        (Some (raw_or_text (raw n.MathText n.MathTextSequence n.MathTextData) dollar text))) ≡
        Some found → IsFront text found
    go true b true is =
        same-front text (byte n.Data nothing) found is
        (front text (byte n.Data nothing) 1 (record { sized = refl; names = refl }) (omega arith)
        (omega (arith, begins-some dollar text b)))
    go true b false is =
        same-front text (raw_or_text (raw n.MathText n.MathTextSequence n.MathTextData) dollar text) found is
        (raw-front n.MathText n.MathTextSequence n.MathTextData dollar text refl refl refl b)
    go false b s is = cc

pub atom-front : (options : InlineOptions) (outside : Bool) (before text : List ℕ) (found : Forest) →
    atom options outside before text ≡ Some found → IsFront text found
atom-front options outside before text =
    either-front text _ _ (when-front text options.constructs.character_escape (escape_at text) (escape-front text))
    (either-front text _ _
    (when-front text options.constructs.hard_break_escape (break_escape_at text) (break-escape-front text))
    (either-front text _ _
    (when-front text options.constructs.character_reference (reference_forest text) (reference-front text))
    (either-front text _ _ (when-front text options.constructs.code_text (code_at text) (code-front text))
    (either-front text _ _
    (when-front text options.constructs.math_text (math_at options.math_text_single_dollar text)
    (math-front options.math_text_single_dollar text))
    (either-front text _ _ (when-front text options.constructs.autolink (autolink_at text) (autolink-front text))
    (either-front text _ _ (when-front text options.constructs.html_text (html_at text) (html-front text))
    (either-front text _ _ (trailing-front options.constructs.hard_break_trailing text)
    (when-front text (options.constructs.gfm_autolink_literal && outside) (option_map address (literal_at before text))
    (literal-front before text)))))))))

task-long : (text : List ℕ) → is_task text ≡ true → 3 ≤ length text
task-long [] h = cc
task-long (a ∷ []) h = cc
task-long (a ∷ b ∷ []) h = cc
task-long (a ∷ b ∷ c ∷ text) h = omega arith

module _ (options : InlineOptions) (is_definition is_footnote : List ℕ → Bool) where
  after-over : (before text : List ℕ) →
      Over (forest_after options is_definition is_footnote before text) (length text)
  after-over before text = go options.constructs.gfm_autolink_literal
    where
      read : Forest
      read = merged
          (emphasis options.gfm_strikethrough_single_tilde
          (brackets.content options is_definition is_footnote (length text) false before text).items)

      read-over : Over read (length text)
      read-over =
          merged-over
          (emphasis options.gfm_strikethrough_single_tilde
          (brackets.content options is_definition is_footnote (length text) false before text).items)
          (length text)
          (text-over options is_definition is_footnote (atom-front options) (target-leads options is_definition)
          before text)

      go : (t : Bool) → Over (cond t (merged (with_emails before text read)) read) (length text)
      go true =
          let found : Over (with_emails before text read) (size read) =
          emails-over read before text read-over.names (omega (arith, read-over.sized)) in
          same-over (merged (with_emails before text read)) (size read) (length text) read-over.sized
          (merged-over (with_emails before text read) (size read) found)
      go false = read-over

  check-over : (b : ℕ) (following : Forest) (count : ℕ) → Over following count → Over (check b following) (3 + count)
  check-over b following count f = go (is_checked b)
    where
      inner : (t : Bool) → Forest
      inner t =
          byte n.GfmTaskListItemMarker
          (byte (cond t n.GfmTaskListItemValueChecked n.GfmTaskListItemValueUnchecked)
          (byte n.GfmTaskListItemMarker nothing))

      go : (t : Bool) →
          Over
          (part n.GfmTaskListItemCheck
          (byte n.GfmTaskListItemMarker
          (byte (cond t n.GfmTaskListItemValueChecked n.GfmTaskListItemValueUnchecked)
          (byte n.GfmTaskListItemMarker nothing)))
          following) (3 + count)
      go true =
          part-over n.GfmTaskListItemCheck
          (byte n.GfmTaskListItemMarker (byte n.GfmTaskListItemValueChecked (byte n.GfmTaskListItemMarker nothing)))
          following 3 count refl (record { sized = refl; names = refl }) f
      go false =
          part-over n.GfmTaskListItemCheck
          (byte n.GfmTaskListItemMarker (byte n.GfmTaskListItemValueUnchecked (byte n.GfmTaskListItemMarker nothing)))
          following 3 count refl (record { sized = refl; names = refl }) f

  pub forest-over : (first : Bool) (text : List ℕ) →
      Over (forest options is_definition is_footnote first text) (length text)
  forest-over first text = go (options.constructs.gfm_task_list_item && first) (is_task text) refl
    where
      go : (x y : Bool) → is_task text ≡ y →
          Over
          (cond (x && y)
          (check (slice_index text 1) (forest_after options is_definition is_footnote (take 3 text) (drop 3 text)))
          (forest_after options is_definition is_footnote [] text))
          (length text)
      go true true e =
          let rest : List ℕ = drop 3 text in
          same-over
          (check (slice_index text 1) (forest_after options is_definition is_footnote (take 3 text) (drop 3 text)))
          (3 + length (drop 3 text)) (length text) (omega (arith, task-long text e, length-drop 3 text))
          (check-over (slice_index text 1) (forest_after options is_definition is_footnote (take 3 text) (drop 3 text))
          (length (drop 3 text)) (after-over (take 3 text) (drop 3 text)))
      go true false e = after-over [] text
      go false y e = after-over [] text

  pub forest-of : (first : Bool) (text : List ℕ) →
      IsForestOf text (forest options is_definition is_footnote first text)
  forest-of first text =
      let f = forest-over first text in
      record { long = f.sized; names = f.names }

-- The inline content of a text is a forest over all of it.
pub content-of : (options : InlineOptions) (labels : Labels) (first : Bool) (text : List ℕ) →
    IsForestOf text (content options labels first text)
content-of options labels first text =
    forest-of options (has_form labels.definitions) (has_form labels.footnotes) first text
