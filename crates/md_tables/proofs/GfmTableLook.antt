-- A line of a table begins with a few bytes: where another is first after whitespace, none is taken.
use Rattle.std.proofs.Common.{◌≡◌, ℕ, Bool, true, false, cond, ◌&&◌, ◌||◌, List, ◌∷◌, arith, refl, ap, ◌∙◌}
use Rattle.std.specs.Prelude.{◌==◌, nat_lt, Some}
use Rattle.std.proofs.lemmas.Bool.Decides.{nat_tests}
use Rattle.md_engine.specs.declared.configuration.ParseOptions.{ParseOptions}
use Rattle.md_engine.specs.declared.tokenizer.held_leaf.HeldLeaf.{HeldLeaf}
use Rattle.md_engine.specs.declared.tokenizer.held_leaf.HeldLeaf.TheVariants as held_leaf
use Rattle.md_engine.specs.declared.tokenizer.Scratch.{Scratch}
use Rattle.md_engine.specs.declared.tokenizer.TheConstants.Scratch.{REST}
use Rattle.md_engine.specs.Meaning.{Cell}
use Rattle.md_meaning.specs.Ascii.{colon, hyphen, pipe}
use Rattle.md_meaning.specs.Rest.{is_small, is_white}
use Rattle.md_leaves.proofs.LeafStart.{rule-refused}
use Rattle.md_events.specs.Look.{seen_after}
use Rattle.md_events.specs.Spaces.{small_indent}
use Rattle.md_tables.specs.DelimiterRule as delimiter
use Rattle.md_tables.specs.Delimiter.{Aligns, Dash, Divides, Other, Stops, White}
use Rattle.md_tables.specs.GfmTable.{asking_columns, may_begin, may_head}
use Rattle.md_tables.specs.GfmTableLine.{delimiter_fits, is_row_of, table_takes}

-- A line that meets text is no delimiter row where another byte is first after whitespace than one begins with.

-- the bytes that one begins with
abbrev is_mark : ℕ → Bool
is_mark b = b == hyphen || b == colon || b == pipe

none-mark : (s : Scratch) (b : ℕ) (bytes : List ℕ) → is_mark b ≡ false →
    delimiter.fits delimiter.Front s (b ∷ bytes) ≡ false
none-mark s b bytes none = go (b == 10) (is_white b) (b == pipe) (b == colon) (b == hyphen) none
  where
    go : (l w p c h : Bool) → (h || c || p) ≡ false →
        delimiter.led
        (delimiter.move delimiter.Front
        (cond l Stops (cond w White (cond p Divides (cond c Aligns (cond h Dash Other)))))) s
        (λ q t. delimiter.fits q t bytes) ≡ false
    go true w p c h none = refl
    go false true p c h none = refl
    go false false true c true none = cc
    go false false true true false none = cc
    go false false true false false none = cc
    go false false false true true none = cc
    go false false false true false none = cc
    go false false false false true none = cc
    go false false false false false none = refl

pub table-looked : (options : ParseOptions) (on : HeldLeaf) (cells : List Cell) (b : ℕ) → seen_after cells ≡ Some b →
    may_begin on b ≡ false → table_takes options on cells ≡ false
table-looked options (held_leaf.Text text) cells b seen e = go (nat_lt 0 text.columns) refl e
  where
    off : (x y : Bool) → (x && false && y) ≡ false
    off true y = refl
    off false y = refl

    go : (x : Bool) → nat_lt 0 text.columns ≡ x → (x && is_mark b) ≡ false →
        (may_head options text && delimiter_fits options text.columns cells) ≡ false
    go false none e =
        ap
        (λ (x : Bool).
        (options.constructs.gfm_table && x && is_small options text.indent)
        && delimiter_fits options text.columns cells) none
        ∙ ap (λ (x : Bool). x && delimiter_fits options text.columns cells)
        (off options.constructs.gfm_table (is_small options text.indent))
    go true some e =
        rule-refused is_mark (may_head options text) (is_row_of text.columns) (small_indent options) cells b refl
        (λ c bytes k. none-mark (asking_columns text.columns REST) c bytes k)
        (λ c white. grind (arith, nat_tests)) seen e
table-looked options held_leaf.Table cells b seen e = cc
table-looked options _ cells b seen e = refl
