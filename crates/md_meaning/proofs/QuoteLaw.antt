-- The tree of a quoted text is a quote with the tree of the text in it.
use Rattle.std.proofs.Common.{◌≡◌, ℕ, true, false, not, ◌==◌, List, [], ◌∷◌, None, refl, ap, ◌∙◌, sym, subst}
use Rattle.std.specs.List.{list_all}
use Rattle.std.proofs.Math.Bool.{or-true}
use Rattle.md_engine.specs.declared.configuration.ParseOptions.{ParseOptions}
use Rattle.md_meaning.specs.Alert.{alert_at, first_alert}
use Rattle.md_meaning.specs.Ascii.{greater_than, space}
use Rattle.md_meaning.specs.Containers.{opens_quote, quote_taken}
use Rattle.md_meaning.specs.Label.{labels}
use Rattle.md_meaning.specs.Lines.{lines_of}
use Rattle.md_meaning.specs.Meaning.{tree}
use Rattle.md_meaning.specs.Preamble.{front_of, has_mark, rest_at}
use Rattle.md_meaning.specs.State.{InQuote}
use Rattle.md_meaning.specs.Tree.{Blocks, End, More, Quote}
use Rattle.md_meaning.specs.Wrapped.{IsQuoteOf, NestsInQuote, quoted}
use Rattle.md_meaning.proofs.AlertLemmas.{no-alert}
use Rattle.md_meaning.proofs.PrefixedLines.{NoTabs, no_tab-lines, some-line}
use Rattle.md_meaning.proofs.ColumnLemmas.{NoTab, alert-any}
use Rattle.md_meaning.proofs.WrapLaw.{IsContinued, Opens, Wrap, Wraps, labels-alone, wrap-law}

abbrev quote_wrap : Wrap
quote_wrap = record { container = InQuote None; first = greater_than ∷ space ∷ []; further = greater_than ∷ space ∷ [] }

-- a line without tabs whose first rest is no marker of a kind is none after the prefix either
quote-opens : (options : ParseOptions) (line : List ℕ) → options.constructs.block_quote ≡ true →
    alert_at options (rest_at 2 line) ≡ None → Opens options quote_wrap line
unfolding opens_quote quote_taken alert_at
quote-opens options line on no_alert = rw (on, or-true (not options.constructs.code_indented), no_alert) refl

quote-is_continued : (options : ParseOptions) (line : List ℕ) → IsContinued options quote_wrap line
unfolding quote_taken
quote-is_continued options line = rw (or-true (not options.constructs.code_indented)) refl

quote-wraps : (options : ParseOptions) (line : List ℕ) → options.constructs.block_quote ≡ true →
    alert_at options (rest_at 2 line) ≡ None → Wraps options quote_wrap line
quote-wraps options line on no_alert = record {
  no_ending = (refl, (refl, tt));
  no_mark = λ bytes. refl;
  no_front = λ bytes. refl;
  is_prefix = (refl, (refl, tt));
  opens = quote-opens options line on no_alert;
  is_continued = quote-is_continued options;
}

-- `> ` before each line of a text without tabs, mark and frontmatter, whose first line is no marker of a kind, puts its
-- tree into a quote
pub quote-law : (options : ParseOptions) (text : List ℕ) → options.constructs.block_quote ≡ true → (text ≡ [] → ⊥) →
    list_all (λ b. not (b == 9)) text ≡ true → has_mark text ≡ false → front_of options (lines_of text) ≡ None →
    first_alert options (lines_of text) ≡ None →
    tree options (quoted text) ≡ More (Quote None (tree options text)) End
quote-law options [] on some plain mark front none = absurd (some refl)
quote-law options (b ∷ bytes) on some plain mark front none =
    let found = some-line b bytes in
    let no_tab : NoTab found.0 = (subst NoTabs found.2 (no_tab-lines (b ∷ bytes) plain)).0 in
    let no_alert = alert-any options 2 0 found.0 no_tab ∙ ap (first_alert options) (sym found.2) ∙ none in
    wrap-law options quote_wrap (λ (bs : Blocks). More (Quote None bs) End) (b ∷ bytes) found.0 found.1 (λ bs. refl)
    (quote-wraps options found.0 on no_alert) found.2 plain mark front

-- and keeps its labels
pub quote-labels : (options : ParseOptions) (text : List ℕ) → options.constructs.block_quote ≡ true → (text ≡ [] → ⊥) →
    list_all (λ b. not (b == 9)) text ≡ true → has_mark text ≡ false → front_of options (lines_of text) ≡ None →
    first_alert options (lines_of text) ≡ None →
    labels (tree options (quoted text)) ≡ labels (tree options text)
quote-labels options text on some plain mark front none =
    ap labels (quote-law options text on some plain mark front none) ∙ labels-alone (Quote None (tree options text))

pub quote-nests : (options : ParseOptions) (text : List ℕ) →
    NestsInQuote options text (quoted text) (tree options text)
quote-nests options text =
    λ on may. (
      quote-law options text on may.some may.no_tab may.no_mark may.no_front
          (no-alert options (lines_of text) may.no_alert),
      quote-labels options text on may.some may.no_tab may.no_mark may.no_front
          (no-alert options (lines_of text) may.no_alert),
    )

-- what has these bytes
pub quote-is : (options : ParseOptions) (text quote : List ℕ) → quote ≡ quoted text → IsQuoteOf options text quote
quote-is options text quote is = record {
  bytes = is;
  nests = subst (λ (q : List ℕ). NestsInQuote options text q (tree options text)) (sym is) (quote-nests options text);
}
