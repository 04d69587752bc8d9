-- The tree of an itemised text is a list with one item, and the tree of the text in that.
use Rattle.std.proofs.Common.{◌≡◌, ℕ, ◌+◌, Bool, true, false, cond, not, ◌==◌, ◌||◌, List, [], ◌∷◌, Option, Some}
use Rattle.std.proofs.Common.{None, refl, ap, ◌∙◌, arith, sym, subst}
use Rattle.std.specs.Prelude.{nat_le}
use Rattle.std.specs.List.{list_all}
use Rattle.std.proofs.Math.Bool.{and-false, or-true}
use Rattle.std.proofs.lemmas.Bool.{le-leb, not-true, or_parts}
use Rattle.md_engine.specs.declared.configuration.ParseOptions.{ParseOptions}
use Rattle.md_meaning.specs.Ascii.{plus, space, tab}
use Rattle.md_meaning.specs.Bytes.{begins}
use Rattle.md_meaning.specs.Containers.{Taken, item_continues, opens_item, opens_quote, quote_taken}
use Rattle.md_meaning.specs.Label.{labels}
use Rattle.md_meaning.specs.Lines.{is_ending, lines_of}
use Rattle.md_meaning.specs.Meaning.{tree}
use Rattle.md_meaning.specs.Preamble.{front_of, has_mark, rest_at}
use Rattle.md_meaning.specs.Rest.{is_blank, is_white, white_columns}
use Rattle.md_meaning.specs.State.{InItem}
use Rattle.md_meaning.specs.Tree.{Blocks, End, Item, ListOf, More}
use Rattle.md_meaning.specs.Wrapped.{IsItemOf, NestsInItem, itemised}
use Rattle.md_meaning.proofs.PrefixedLines.{first-line}
use Rattle.md_meaning.proofs.WrapLaw.{IsContinued, Opens, Wrap, Wraps, labels-alone, wrap-law}

-- an item of width 2 whose first line is not blank
abbrev item_wrap : Wrap
item_wrap = record { container = InItem [] plus 2 false; first = plus ∷ space ∷ []; further = space ∷ space ∷ [] }

-- no quote opens at the marker
opens_quote-marker : (options : ParseOptions) (bytes : List ℕ) → opens_quote options (rest_at 0 (plus ∷ bytes)) ≡ None
unfolding opens_quote quote_taken
opens_quote-marker options bytes =
    rw (or-true (not options.constructs.code_indented)) (go options.constructs.block_quote)
  where
    go : (x : Bool) → cond {A = Option Taken} x None None ≡ None
    go true = refl
    go false = refl

item-opens : (options : ParseOptions) (b : ℕ) (bytes : List ℕ) → options.constructs.list_item ≡ true →
    is_white b ≡ false → Opens options item_wrap (b ∷ bytes)
unfolding opens_item
item-opens options b bytes on white =
    let parts = or_parts (b == space) (b == tab) white in
    rw (
      opens_quote-marker options (space ∷ b ∷ bytes),
      on,
      or-true (not options.constructs.code_indented),
      and-false options.constructs.thematic_break,
      parts.0,
      parts.1,
    )
    refl

-- it continues, whether the line is blank or not
item-is_continued : (options : ParseOptions) (line : List ℕ) → IsContinued options item_wrap line
unfolding item_continues
item-is_continued options line =
    ap (λ (t : Bool). cond t (Some (record { container = InItem [] plus 2 false; rest = rest_at 2 line })) None)
    (go (is_blank line) (white_columns 2 line))
  where
    go : (x : Bool) (k : ℕ) → cond x true (nat_le 2 (0 + (1 + (1 + k)))) ≡ true
    go true k = refl
    go false k = le-leb 2 (0 + (1 + (1 + k))) (omega arith)

item-wraps : (options : ParseOptions) (b : ℕ) (bytes : List ℕ) → options.constructs.list_item ≡ true →
    is_white b ≡ false → Wraps options item_wrap (b ∷ bytes)
item-wraps options b bytes on white = record {
  no_ending = (refl, (refl, tt));
  no_mark = λ bytes. refl;
  no_front = λ bytes. refl;
  is_prefix = (refl, (refl, tt));
  opens = item-opens options b bytes on white;
  is_continued = item-is_continued options;
}

-- `+ ` before the first line of a text without tabs, mark and frontmatter, and two spaces before each other, put its
-- tree into an item, where that line is not empty and does not begin with a space
pub list-law : (options : ParseOptions) (text : List ℕ) → options.constructs.list_item ≡ true →
    begins (λ b. not (is_white b || is_ending b)) text ≡ true → list_all (λ b. not (b == 9)) text ≡ true →
    has_mark text ≡ false → front_of options (lines_of text) ≡ None →
    tree options (itemised text) ≡ More (ListOf plus (More (Item plus [] (tree options text)) End)) End
list-law options [] on begun plain mark front = cc
list-law options (b ∷ bytes) on begun plain mark front =
    let parts = or_parts (is_white b) (is_ending b) (not-true _ begun) in
    let found = first-line b bytes parts.1 in
    wrap-law options item_wrap (λ (bs : Blocks). More (ListOf plus (More (Item plus [] bs) End)) End) (b ∷ bytes)
    (b ∷ found.0) found.1 (λ bs. refl) (item-wraps options b found.0 on parts.0) found.2 plain mark front

-- and keep its labels
pub list-labels : (options : ParseOptions) (text : List ℕ) → options.constructs.list_item ≡ true →
    begins (λ b. not (is_white b || is_ending b)) text ≡ true → list_all (λ b. not (b == 9)) text ≡ true →
    has_mark text ≡ false → front_of options (lines_of text) ≡ None →
    labels (tree options (itemised text)) ≡ labels (tree options text)
list-labels options text on begun plain mark front =
    ap labels (list-law options text on begun plain mark front)
    ∙ labels-alone (ListOf plus (More (Item plus [] (tree options text)) End))
    ∙ labels-alone (Item plus [] (tree options text))

pub list-nests : (options : ParseOptions) (text : List ℕ) →
    NestsInItem options text (itemised text) (tree options text)
list-nests options text =
    λ on may. (
      list-law options text on may.first may.no_tab may.no_mark may.no_front,
      list-labels options text on may.first may.no_tab may.no_mark may.no_front,
    )

-- what has these bytes
pub item-is : (options : ParseOptions) (text item : List ℕ) → item ≡ itemised text → IsItemOf options text item
item-is options text item is = record {
  bytes = is;
  nests = subst (λ (i : List ℕ). NestsInItem options text i (tree options text)) (sym is) (list-nests options text);
}
