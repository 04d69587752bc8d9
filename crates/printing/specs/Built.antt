-- What the program makes of options and of texts.
use Rattle.std.specs.Prelude.{◌≡◌, ℕ, false, List}
use Rattle.md_engine.specs.declared.configuration.ParseOptions.{ParseOptions}
use Rattle.md_program.specs.Listing.{Listing}
use Rattle.md_meaning.specs.Label.{labels}
use Rattle.md_meaning.specs.Meaning.{tree}
use Rattle.md_meaning.specs.Outline.{outline}

-- what is asked for, as far as it is there: all but the constructs of MDX
abbrev pub built_from : ParseOptions → ParseOptions
built_from options = record {
  constructs = record options.constructs {
    mdx_esm = false;
    mdx_expression_flow = false;
    mdx_expression_text = false;
    mdx_jsx_flow = false;
    mdx_jsx_text = false;
  };
}

-- The listing of a text: the outline of its tree, and the labels of its definitions and of its footnote definitions, in
-- source order, repeats kept.
pub record Outlines (text : List ℕ) (options : ParseOptions) (listing : Listing) : Type 0 where
  pub lines : listing.lines ≡ outline 0 (tree options text)
  pub definitions : listing.definitions ≡ (labels (tree options text)).definitions
  pub footnotes : listing.footnotes ≡ (labels (tree options text)).footnotes
