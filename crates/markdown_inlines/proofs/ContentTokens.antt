-- The tokens of a text.
use Rattle.std.proofs.Common.{◌≡◌, ℕ, ◌+◌, ◌≤◌, Bool, true, false, cond, ◌&&◌, List, [], length, take, drop}
use Rattle.std.proofs.Common.{refl, ap, sym, ◌∙◌, subst, arith}
use Rattle.std.proofs.lemmas.List.{length-drop}
use Rattle.md_inline_events.specs.Forest.{Forest, has_names, size}
use Rattle.md_inline_events.specs.Tokens.{tokens}
use Rattle.md_inline_events.specs.declared.token.Token.{Token}
use Rattle.md_inlines.specs.declared.InlineOptions.{InlineOptions}
use Rattle.md_inlines.specs.Atoms.{merged}
use Rattle.md_inlines.specs.Content.{forest_after}
use Rattle.md_inlines.specs.Emails.{with_emails}
use Rattle.md_inlines.specs.Emphasis.{emphasis}
use Rattle.proof_inlines.specs.Sized.{Over}
use Rattle.proof_inlines.proofs.ContentForests.{merged-over}
use Rattle.proof_inlines.proofs.ContentLemmas.{text-over}
use Rattle.proof_inlines.proofs.Promise.{atom-front}
use Rattle.proof_inlines.proofs.TargetLemmas.{target-leads}
use Rattle.markdown_inlines.specs.declared.span.Span.{Span}
use Rattle.markdown_inlines.specs.Addressed.{has_at_sign}
use Rattle.markdown_inlines.specs.Filled.{Shows}
use Rattle.markdown_inlines.specs.Readable.{is_readable}
use Rattle.markdown_inlines.specs.Reading.{level_at}
use Rattle.markdown_inlines.proofs.AtSignLemmas.{no-addresses}
use Rattle.markdown_inlines.proofs.ReadableLemmas.{merged-again}
use Rattle.markdown_inlines.proofs.ReadableLevels.{level-readable}
use Rattle.markdown_inlines.proofs.ShapeLemmas.{shows-merged}

module _ (options : InlineOptions) (is_definition is_footnote : List ℕ → Bool) (text : List ℕ) (start : ℕ) where
  -- what is read of a text from a place on
  abbrev pub level_read : Forest
  level_read =
      emphasis options.gfm_strikethrough_single_tilde
      (level_at options is_definition is_footnote text false start).items

  level-over : Over (merged level_read) (length (drop start text))
  level-over =
      merged-over level_read (length (drop start text))
      (text-over options is_definition is_footnote (atom-front options) (target-leads options is_definition)
      (take start text) (drop start text))

  -- with text beside text as one piece, it can be read off its spans, and is over all that is left of the text
  pub record IsWhole : Type 0 where
    pub names : has_names (merged level_read) ≡ true
    pub readable : is_readable (merged level_read) ≡ true
    pub again : merged (merged level_read) ≡ merged level_read
    pub sized : start + size (merged level_read) ≡ length text

  pub level-whole : start ≤ length text → IsWhole
  level-whole h = record {
    names = level-over.names;
    readable =
        level-readable options is_definition is_footnote (length (drop start text)) (take start text)
        (drop start text);
    again = merged-again level_read;
    sized = omega (arith, level-over.sized, length-drop start text, h);
  }

  -- where addresses are searched, and where none is
  pub searched-tokens : options.constructs.gfm_autolink_literal ≡ true → (made : List Token) →
      made ≡ tokens (merged (with_emails (take start text) (drop start text) (merged level_read))) →
      made ≡ tokens (forest_after options is_definition is_footnote (take start text) (drop start text))
  searched-tokens on made h =
      h
      ∙ ap (λ (b : Bool). tokens
      (cond b (merged (with_emails (take start text) (drop start text) (merged level_read))) (merged level_read)))
      (sym on)

  pub plain-tokens : (options.constructs.gfm_autolink_literal && has_at_sign (drop start text)) ≡ false →
      (made : List Token) → made ≡ tokens (merged level_read) →
      made ≡ tokens (forest_after options is_definition is_footnote (take start text) (drop start text))
  plain-tokens off made h = h ∙ ap tokens (go options.constructs.gfm_autolink_literal off)
    where
      go : (on : Bool) → (on && has_at_sign (drop start text)) ≡ false →
          merged level_read ≡
          cond on (merged (with_emails (take start text) (drop start text) (merged level_read))) (merged level_read)
      go false off = refl
      go true off =
          sym
          (no-addresses (merged level_read) (take start text) (drop start text) off (omega (arith, level-over.sized))
          ∙ merged-again level_read)

  -- and its spans, as they are given on
  pub whole-shows : (items given : List Span) → given ≡ items → Shows start [] level_read items →
      Shows start [] (merged level_read) given
  whole-shows items given same s =
      let P : List Span → Type 0 = λ (l : List Span). Shows start [] (merged level_read) l in
      subst P (sym same) (shows-merged start level_read [] items s)
