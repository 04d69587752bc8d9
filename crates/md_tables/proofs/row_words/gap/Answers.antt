use Rattle.std.proofs.Common.{◌≡◌, ◌∙◌, false, true, is_ok, subst, sym}
use Rattle.md_engine.specs.World.{world}
use Rattle.md_events.specs.OneSpace.{spaced}
use Rattle.md_events.specs.Spaces.{sees_white}
use Rattle.md_tables.specs.RowWords.{IsGap}
use Rattle.md_tables.specs.RowWords.IsGap.{NoSpace, OneSpace}
use Rattle.md_tables.proofs.RowWords.{on-ok}
use Rattle.md_tables.proofs.row_words.gap.Goals as goal

pub returns-else-is_err-clause-none : goal.returns-else-is_err-clause-none
returns-else-is_err-clause-none c = λ none.
    let w = world c.args.tokenizer.now in
    let u = world c.take_one_space.new.tokenizer in
    let has_taken : is_ok c.take_one_space.result ≡ true = c.if-is_err.ensures.negation in
    let is : u ≡ spaced w = on-ok c.take_one_space.result (u ≡ spaced w) has_taken c.take_one_space.ensures.world in
    subst (IsGap w) (sym is) (OneSpace (c.is_one_space.ensures c.if-is_one_space.true))

pub returns-else-is_space_or_tab-clause-none : goal.returns-else-is_space_or_tab-clause-none
returns-else-is_space_or_tab-clause-none c = λ none.
    let w = world c.args.tokenizer.now in
    let white : sees_white w.current ≡ false = sym c.is_space_or_tab.ensures ∙ c.if-is_space_or_tab.false in
    NoSpace white
