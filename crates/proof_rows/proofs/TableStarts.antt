-- Where a line of a table may start: it continues a table or on text alone, and on text only where tables are on.
use Rattle.std.proofs.Common.{◌≡◌, ℕ, Bool, true, false, List, refl, sym, ◌∙◌, subst}
use Rattle.std.specs.Prelude.{Some}
use Rattle.md_engine.specs.declared.configuration.ParseOptions.{ParseOptions}
use Rattle.md_engine.specs.declared.tokenizer.held_leaf.HeldLeaf.{HeldLeaf}
use Rattle.md_engine.specs.declared.tokenizer.held_leaf.HeldLeaf.TheVariants as held_leaf
use Rattle.md_engine.specs.declared.tokenizer.held_leaf.OpenText.{OpenText}
use Rattle.md_meaning.specs.Rest.{Rest}
use Rattle.proof_leaf_laws.specs.Leaf.GfmTable.{may_be_table, table_leaf}
use Rattle.proof_frame.specs.LeafName.{LeafName}
use Rattle.md_registry.specs.Registry.{asked_first, leaf}
use Rattle.proof_frame.specs.Row.{LeafRow, Row}
use Rattle.proof_leaf_laws.proofs.GfmTable.Found.{table-enabled}
use Rattle.proof_rows.proofs.KindLemmas.{kind-starts}
use Rattle.proof_rows.proofs.RowFacts.{IsRow}
use Rattle.md_registry.proofs.UnderNames.{heads-table}

-- It starts on no other leaf,
pub untabled : (options : ParseOptions) (on : HeldLeaf) (r : Rest) → may_be_table on ≡ false →
    table_leaf.starts options on r ≡ false
untabled options (held_leaf.Text at) r none = cc
untabled options held_leaf.Table r none = cc
untabled options _ r none = refl

-- so on none of which another leaf is asked first,
pub asked-untabled : (on : HeldLeaf) (l : LeafName) → asked_first on ≡ Some l → may_be_table on ≡ false
unfolding asked_first
asked-untabled (held_leaf.Text at) l e = cc
asked-untabled held_leaf.Table l e = cc
asked-untabled _ l e = refl

-- and where tables are off on no text.
pub text-untabled : (options : ParseOptions) (at : OpenText) (r : Rest) → options.constructs.gfm_table ≡ false →
    table_leaf.starts options (held_leaf.Text at) r ≡ false
text-untabled options at r off = go (table_leaf.starts options (held_leaf.Text at) r) refl
  where
    go : (x : Bool) → table_leaf.starts options (held_leaf.Text at) r ≡ x → x ≡ false
    go true starts = let bad : true ≡ false = sym (table-enabled options at r starts) ∙ off in cc
    go false starts = refl

-- Then a line that continues text takes no line of it as its head.
pub no-head : (options : ParseOptions) (at : OpenText) (r : Rest) (l : LeafName) →
    options.constructs.gfm_table ≡ false → (leaf l).starts options (held_leaf.Text at) r ≡ true → (leaf l).heads ≡ false
no-head options at r l off starts = go (leaf l).heads refl
  where
    go : (x : Bool) → (leaf l).heads ≡ x → x ≡ false
    go true heads =
        let table : table_leaf.starts options (held_leaf.Text at) r ≡ true =
        subst (λ (m : LeafName). (leaf m).starts options (held_leaf.Text at) r ≡ true) (heads-table l heads) starts in
        let bad : true ≡ false = sym table ∙ text-untabled options at r off in
        cc
    go false heads = refl

pub row-no_head : (options : ParseOptions) (bytes line : List ℕ) (row : Row) (l : LeafName) (at : OpenText) →
    options.constructs.gfm_table ≡ false → IsRow options bytes line row → row.kind ≡ LeafRow l →
    row.on ≡ held_leaf.Text at → (leaf l).heads ≡ false
row-no_head options bytes line row l at off is kind on =
    no-head options at is.rest l off
    (subst (λ (met : HeldLeaf). (leaf l).starts options met is.rest ≡ true) on
    (kind-starts options row.on is.rest l (sym is.kind ∙ kind)))
