-- Which options a text is read with.
use Rattle.std.specs.Prelude.{◌≡◌, false}
use Rattle.md_engine.specs.declared.configuration.ParseOptions.{ParseOptions}

-- the constructs of MDX, which are not built, are off
pub record IsWithoutMdx (options : ParseOptions) : Type 0 where
  pub mdx_esm : options.constructs.mdx_esm ≡ false
  pub mdx_expression_flow : options.constructs.mdx_expression_flow ≡ false
  pub mdx_expression_text : options.constructs.mdx_expression_text ≡ false
  pub mdx_jsx_flow : options.constructs.mdx_jsx_flow ≡ false
  pub mdx_jsx_text : options.constructs.mdx_jsx_text ≡ false
