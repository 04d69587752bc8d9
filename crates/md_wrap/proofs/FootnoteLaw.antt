-- The tree of a footnoted text is a footnote definition with the tree of the text in it.
use Rattle.std.proofs.Common.{◌≡◌, ℕ, ◌+◌, Bool, true, false, cond, not, ◌==◌, ◌||◌, ◌&&◌, List, [], ◌∷◌, Option, Some}
use Rattle.std.proofs.Common.{None, refl, ap, ◌∙◌, arith, sym, subst}
use Rattle.std.specs.Prelude.{nat_le}
use Rattle.std.specs.Str.{chars}
use Rattle.caseless.specs.Caseless.{default_case_fold}
use Rattle.ucd_case.specs.CaseFolding.{full_folding}
use Rattle.ucd_case.specs.FullFoldingRows.{full_folding_rows}
use Rattle.ucd_table.specs.Rows.{value_in}
use lib.Utf8.{encode}
use Rattle.std.proofs.Math.Bool.{or-true}
use Rattle.std.proofs.lemmas.Bool.{le-leb, not-true, or_parts}
use Rattle.md_engine.specs.declared.configuration.ParseOptions.{ParseOptions}
use Rattle.md_meaning.specs.Ascii.{caret, colon, left_bracket, right_bracket, space, tab}
use Rattle.md_meaning.specs.Containers.{Taken, footnote_continues, opens_footnote, opens_item, opens_quote, quote_taken}
use Rattle.md_meaning.specs.Label.{both, labels, normal_form}
use Rattle.md_meaning.specs.Lines.{is_ending}
use Rattle.md_meaning.specs.Meaning.{tree}
use Rattle.md_meaning.specs.Preamble.{rest_at}
use Rattle.md_meaning.specs.Rest.{is_blank, is_white, white_columns}
use Rattle.md_meaning.specs.State.{InFootnote}
use Rattle.md_meaning.specs.Tree.{Blocks, End, Footnote, More}
use Rattle.md_meaning.specs.Wrapped.{IsItemable}
use Rattle.md_meaning.proofs.PrefixedLines.{first-line}
use Rattle.md_meaning.proofs.WrapLaw.{IsContinued, Opens, Wrap, Wraps, labels-alone, wrap-law}
use Rattle.md_wrap.specs.Footnoted.{IsFootnoteOf, NestsInFootnote, first_prefix, footnoted, further_prefix, x_label}

abbrev footnote_wrap : Wrap
footnote_wrap = record { container = InFootnote x_label; first = first_prefix; further = further_prefix }

-- no quote and no item opens at the bracket
opens_quote-bracket : (options : ParseOptions) (bytes : List ℕ) →
    opens_quote options (rest_at 0 (left_bracket ∷ bytes)) ≡ None
unfolding opens_quote quote_taken
opens_quote-bracket options bytes =
    rw (or-true (not options.constructs.code_indented)) (go options.constructs.block_quote)
  where
    go : (x : Bool) → cond {A = Option Taken} x None None ≡ None
    go true = refl
    go false = refl

opens_item-bracket : (options : ParseOptions) (bytes : List ℕ) →
    opens_item options false (rest_at 0 (left_bracket ∷ bytes)) ≡ None
unfolding opens_item
opens_item-bracket options bytes =
    rw (or-true (not options.constructs.code_indented)) (go options.constructs.list_item)
  where
    go : (x : Bool) → cond {A = Option Taken} (x && true) None None ≡ None
    go true = refl
    go false = refl

footnote-opens : (options : ParseOptions) (b : ℕ) (bytes : List ℕ) →
    options.constructs.gfm_footnote_definition ≡ true → is_white b ≡ false → Opens options footnote_wrap (b ∷ bytes)
unfolding opens_footnote
footnote-opens options b bytes on white =
    let parts = or_parts (b == space) (b == tab) white in
    rw (
      opens_quote-bracket options (caret ∷ 120 ∷ right_bracket ∷ colon ∷ space ∷ b ∷ bytes),
      opens_item-bracket options (caret ∷ 120 ∷ right_bracket ∷ colon ∷ space ∷ b ∷ bytes),
      on,
      or-true (not options.constructs.code_indented),
      parts.0,
      parts.1,
    )
    refl

-- it continues over a further line, blank or not
footnote-is_continued : (options : ParseOptions) (line : List ℕ) → IsContinued options footnote_wrap line
unfolding footnote_continues
footnote-is_continued options line =
    ap (λ (t : Bool). cond t (Some (record { container = InFootnote x_label; rest = rest_at 4 line })) None)
    (go (is_blank line) (white_columns 4 line))
  where
    go : (x : Bool) (k : ℕ) → (x || nat_le 4 (0 + (1 + (1 + (1 + (1 + k)))))) ≡ true
    go true k = refl
    go false k = le-leb 4 (0 + (1 + (1 + (1 + (1 + k))))) (omega arith)

footnote-wraps : (options : ParseOptions) (b : ℕ) (bytes : List ℕ) →
    options.constructs.gfm_footnote_definition ≡ true → is_white b ≡ false → Wraps options footnote_wrap (b ∷ bytes)
footnote-wraps options b bytes on white = record {
  no_ending = (refl, (refl, (refl, (refl, (refl, (refl, tt))))));
  no_mark = λ bytes. refl;
  no_front = λ bytes. refl;
  is_prefix = (refl, (refl, (refl, (refl, tt))));
  opens = footnote-opens options b bytes on white;
  is_continued = footnote-is_continued options;
}

-- the tree of the text is in one footnote definition
footnote-law : (options : ParseOptions) (text : List ℕ) → options.constructs.gfm_footnote_definition ≡ true →
    IsItemable options text → tree options (footnoted text) ≡ More (Footnote x_label (tree options text)) End
footnote-law options [] on may = let begun = may.first in cc
footnote-law options (b ∷ bytes) on may =
    let parts = or_parts (is_white b) (is_ending b) (not-true _ may.first) in
    let found = first-line b bytes parts.1 in
    wrap-law options footnote_wrap (λ (bs : Blocks). More (Footnote x_label bs) End) (b ∷ bytes)
    (b ∷ found.0) found.1 (λ bs. refl) (footnote-wraps options b found.0 on parts.0) found.2 may.no_tab may.no_mark
    may.no_front

-- the label `x` is its own normal form
x-normal : normal_form (x_label ∷ []) ≡ x_label
unfolding normal_form default_case_fold chars full_folding value_in full_folding_rows encode
x-normal = refl

footnote-labels : (options : ParseOptions) (text : List ℕ) → options.constructs.gfm_footnote_definition ≡ true →
    IsItemable options text →
    labels (tree options (footnoted text)) ≡
    both (record { definitions = []; footnotes = x_label ∷ [] }) (labels (tree options text))
footnote-labels options text on may =
    ap labels (footnote-law options text on may)
    ∙ labels-alone (Footnote x_label (tree options text))
    ∙ ap (λ (l : List ℕ). both (record { definitions = []; footnotes = l ∷ [] }) (labels (tree options text))) x-normal

pub footnote-nests : (options : ParseOptions) (text : List ℕ) →
    NestsInFootnote options text (footnoted text) (tree options text)
footnote-nests options text = λ on may. (footnote-law options text on may, footnote-labels options text on may)

-- what has these bytes
pub footnote-is : (options : ParseOptions) (text footnote : List ℕ) → footnote ≡ footnoted text →
    IsFootnoteOf options text footnote
footnote-is options text footnote is = record {
  bytes = is;
  nests =
      subst (λ (f : List ℕ). NestsInFootnote options text f (tree options text)) (sym is) (footnote-nests options text);
}
