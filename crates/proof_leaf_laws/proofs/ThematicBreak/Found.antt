-- Where the line definition has a thematic break.
use Rattle.std.proofs.Common.{Bool, true, false, ◌≡◌, cond, refl}
use Rattle.std.specs.Prelude.{Some, None, ◌&&◌, not}
use Rattle.md_engine.specs.declared.configuration.ParseOptions.{ParseOptions}
use Rattle.md_engine.specs.declared.tokenizer.held_leaf.HeldLeaf.{HeldLeaf}
use Rattle.md_meaning.specs.Leaves.{Finished, break_at, is_rule}
use Rattle.md_meaning.specs.Rest.{Rest, has_small_indent, trim_start}
use Rattle.md_meaning.specs.declared.outline.Word.TheVariants.{Break}
use Rattle.md_meaning.specs.Tree.{Bare}
use Rattle.proof_leaf_laws.specs.Leaf.ThematicBreak.{break_leaf}
use Rattle.md_leaves.specs.HeadingSetext.{turns_nothing}
use Rattle.md_leaves.specs.HeadingSetextRule.{is_underline}

-- where it meets no underline that has nothing to turn, a break starts where its leaf says, and becomes its block
pub break-found : (options : ParseOptions) (on : HeldLeaf) (r : Rest) →
    (has_small_indent options r && turns_nothing options on && is_underline (trim_start r.bytes)) ≡ false →
    break_at options r ≡ cond (break_leaf.starts options on r) (Some (Finished (Bare Break))) None
unfolding break_at
break-found options on r no_underline =
    go options.constructs.thematic_break (has_small_indent options r) (is_rule (trim_start r.bytes))
    (turns_nothing options on) (is_underline (trim_start r.bytes)) no_underline
  where
    go : (a s b t u : Bool) → (s && t && u) ≡ false →
        cond (a && s && b) (Some (Finished (Bare Break))) None ≡
        cond ((a && s && b) && not (t && u)) (Some (Finished (Bare Break))) None
    go false s b t u e = refl
    go true false b t u e = refl
    go true true false t u e = refl
    go true true true false u e = refl
    go true true true true false e = refl
    go true true true true true e = cc
