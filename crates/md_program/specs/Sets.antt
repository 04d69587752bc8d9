-- The sets of constructs that the program's argument names.
use Rattle.std.specs.Prelude.{◌≡◌, ℕ, true, false, List, [], ◌∷◌, Option, Some, None, codes, if◌then◌else◌}
use Rattle.std.specs.Str.{bytes_eq}
use Rattle.md_engine.specs.declared.configuration.ParseOptions.{ParseOptions}
use Rattle.md_engine.specs.declared.configuration.TheConstants.Constructs.{COMMONMARK}
use Rattle.md_program.specs.declared.set.Set.{Set}
use Rattle.md_program.specs.declared.set.Set.TheVariants.{CommonMark, Gfm, All, Alerts}

-- the five flags of MDX are off
pub record IsWithoutMdx (o : ParseOptions) : Type 0 where
  pub esm : o.constructs.mdx_esm ≡ false
  pub expression_flow : o.constructs.mdx_expression_flow ≡ false
  pub expression_text : o.constructs.mdx_expression_text ≡ false
  pub jsx_flow : o.constructs.mdx_jsx_flow ≡ false
  pub jsx_text : o.constructs.mdx_jsx_text ≡ false

-- the set of this name
abbrev pub set_named : List ℕ → Option Set
set_named name =
    if bytes_eq name (codes "commonmark") then Some CommonMark
    else (if bytes_eq name (codes "gfm") then Some Gfm
    else (if bytes_eq name (codes "all") then Some All
    else (if bytes_eq name (codes "alerts") then Some Alerts else None)))

-- the set that the arguments ask for: without one, CommonMark
abbrev pub set_asked_for : List (List ℕ) → Option Set
set_asked_for [] = Some CommonMark
set_asked_for (name ∷ []) = set_named name
set_asked_for (name ∷ second ∷ more) = None

-- the options that a set represents
abbrev pub options_of : Set → ParseOptions
options_of CommonMark = record { constructs = COMMONMARK }
options_of Gfm = record { constructs = record COMMONMARK { gfm_footnote_definition = true; gfm_table = true } }
options_of All =
    record {
      constructs = record COMMONMARK {
        gfm_footnote_definition = true;
        gfm_table = true;
        frontmatter = true;
        math_flow = true;
      };
    }
options_of Alerts =
    record {
      constructs = record COMMONMARK {
        alerts = true;
        gfm_footnote_definition = true;
        gfm_table = true;
        frontmatter = true;
        math_flow = true;
      };
    }
