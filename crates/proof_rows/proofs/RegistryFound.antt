-- Which leaves of the line definition start on a line: of those that are built the first of the registry, and no other.
use Rattle.std.proofs.Common.{◌≡◌, Bool, true, false, refl, ap, sym, ◌∙◌}
use Rattle.std.specs.Prelude.{◌&&◌, Option, None, Some}
use Rattle.md_engine.specs.declared.configuration.ParseOptions.{ParseOptions}
use Rattle.md_engine.specs.declared.tokenizer.held_leaf.HeldLeaf.{HeldLeaf}
use Rattle.md_engine.specs.declared.tokenizer.held_leaf.HeldLeaf.TheVariants as held_leaf
use Rattle.md_meaning.specs.Leaves.{ParagraphContext, is_text, starts}
use Rattle.md_meaning.specs.Rest.{Rest, has_small_indent, is_blank, trim_start}
use Rattle.md_leaves.specs.HeadingSetext.{turns_nothing}
use Rattle.md_leaves.specs.HeadingSetextRule.{is_underline}
use Rattle.proof_leaf_laws.specs.Leaf.GfmTable.{may_be_table}
use Rattle.proof_leaf_laws.specs.Leaf.HeadingSetext.{setext_leaf}
use Rattle.proof_frame.specs.LeafName.{LeafName}
use Rattle.md_registry.proofs.Dispatch.{IsAgainst, result_of, leaf_at, or_table, other_at, others-found, table-last}
use Rattle.proof_rows.proofs.TableStarts.{untabled}

-- where the line meets neither text nor a table, the leaves that are tried before tables are all that start
pub untabled-at : (options : ParseOptions) (on : HeldLeaf) (r : Rest) → may_be_table on ≡ false →
    leaf_at options on r ≡ other_at options on r
untabled-at options on r none =
    table-last options on r ∙ ap (λ (t : Bool). or_table t (other_at options on r)) (untabled options on r none)
    ∙ go (other_at options on r)
  where
    go : (o : Option LeafName) → or_table false o ≡ o
    go None = refl
    go (Some l) = refl

-- What starts on a line that is not blank.

-- an underline is where text is open that the line is not lazy for
not-text : (options : ParseOptions) (on : HeldLeaf) (against : ParagraphContext) (r : Rest) → IsAgainst against on →
    is_text against ≡ false → setext_leaf.starts options on r ≡ false
not-text options (held_leaf.Text at) against r same free = let bad : true ≡ false = sym (ap is_text same) ∙ free in cc
not-text options _ against r same free = refl

-- so does one that has nothing to turn
not-lost : (options : ParseOptions) (on : HeldLeaf) (against : ParagraphContext) (r : Rest) → IsAgainst against on →
    is_text against ≡ false →
    (has_small_indent options r && turns_nothing options on && is_underline (trim_start r.bytes)) ≡ false
not-lost options on against r same free = go (has_small_indent options r) (turns_nothing options on) (by on same)
  where
    by : (on : HeldLeaf) → IsAgainst against on → turns_nothing options on ≡ false
    by (held_leaf.Text at) same = let bad : true ≡ false = sym (ap is_text same) ∙ free in cc
    by _ same = refl

    go : (x y : Bool) → y ≡ false → (x && y && is_underline (trim_start r.bytes)) ≡ false
    go true false e = refl
    go _ _ e = cc

-- The first leaf that starts where the line meets no text is the first of them that does.
pub untext-found : (options : ParseOptions) (on : HeldLeaf) (against : ParagraphContext) (r : Rest) →
    IsAgainst against on → is_text against ≡ false → is_blank r.bytes ≡ false →
    starts options against r ≡ result_of options r (other_at options on r)
untext-found options on against r same free dark =
    others-found options on against r same (not-text options on against r same free)
    (not-lost options on against r same free) dark
