-- Where the line definition has indented code, and how it continues.
use Rattle.std.proofs.Common.{◌≡◌, Bool, true, false, cond, ◌&&◌, List, Some, None, refl}
use Rattle.std.specs.Prelude.{nat_le}
use Rattle.md_engine.specs.declared.configuration.ParseOptions.{ParseOptions}
use Rattle.md_engine.specs.declared.tokenizer.held_leaf.HeldLeaf.{HeldLeaf}
use Rattle.md_engine.specs.declared.tokenizer.held_leaf.HeldLeaf.TheVariants as held_leaf
use Rattle.md_meaning.specs.Leaves.{LeafResult, ParagraphContext, code_at, code_continued, is_continued, is_free}
use Rattle.md_meaning.specs.Rest.{Rest, indent, is_blank}
use Rattle.md_meaning.specs.State.{NoLeaf, OpenCode}
use Rattle.md_meaning.specs.Tree.{Line}
use Rattle.md_literal.specs.Code.{may_open}
use Rattle.proof_literal_laws.specs.Leaf.CodeIndented.{code_further, code_leaf}

-- a test that no blank line passes
with-text : (x : Bool) (c : LeafResult) → cond x (Some c) None ≡ cond (x && true) (Some c) None
with-text true c = refl
with-text false c = refl

-- On a line that is not blank code begins where its leaf says: where this leaf is open, which lets it begin just if the
-- text of the line definition does.
pub code-found : (options : ParseOptions) (on : HeldLeaf) (against : ParagraphContext) (r : Rest) →
    may_open on ≡ is_free against → is_blank r.bytes ≡ false →
    code_at options against r ≡
    cond (code_leaf.starts options on r) (Some (code_leaf.becomes options NoLeaf r)) None
unfolding code_at
code-found options on against r free dark =
    rw (free, dark)
    (with-text (options.constructs.code_indented && is_free against && nat_le 4 (indent r))
    (code_leaf.becomes options NoLeaf r))

-- Code that is open continues where a further line of it does.
pub code-proceeds : (options : ParseOptions) (lines : List Line) (r : Rest) →
    is_continued options (OpenCode lines) r ≡
    cond (code_further.starts options held_leaf.Code r) (Some (code_further.becomes options (OpenCode lines) r)) None
unfolding code_continued
code-proceeds options lines r = refl
