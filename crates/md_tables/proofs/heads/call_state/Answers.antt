use Rattle.std.proofs.Common.{◌∙◌, ap, subst, sym, rules}
use Rattle.md_engine.specs.declared.state.gfm_table.State.{State as TableState}
use Rattle.md_engine.specs.declared.state.Name.{Name as StateName}
use Rattle.md_engine.specs.declared.state.Name.TheVariants as n
use Rattle.md_engine.specs.Run.{RunsHere}
use Rattle.md_engine.specs.World.{world}
use Rattle.md_engine.proofs.StayLemmas.{within-world}
use Rattle.md_engine.proofs.Walks.{runs-in}
use Rattle.md_tables.specs.HeadStates.{HeadStep, head_transition}
use Rattle.md_tables.specs.RowWords.{RowStep}
use Rattle.md_tables.specs.declared.row.Row.TheVariants.{Head}
use Rattle.md_tables.proofs.HeadStates.{head-called, row-heads}
use Rattle.md_tables.proofs.RowWords.{place-named}
use Rattle.md_tables.proofs.heads.call_state.Goals as goal

pub returns-in-Some : goal.returns-in-Some
returns-in-Some c = record {
  runs = λ fine.
      let w = world c.args.tokenizer.now in
      let w' = world c.call.new.tokenizer in
      subst (λ (x : StateName). RunsHere HeadStep x w c.call.result w')
      (sym
      (c.in-GfmTable.is
      ∙ ap (λ (x : TableState). n.GfmTable x)
      (place-named Head c.in-GfmTable.state c.in-Some.place (sym c.in-Some.ensures))))
      (λ is_end s v named sees may.
      runs-in (RowStep Head) HeadStep is_end s v c.call.result w' row-heads
      (c.call.ensures.runs fine is_end s v named sees may));
  sees = search rules;
  full = search rules;
}

pub returns-in-SpaceOrTab : goal.returns-in-SpaceOrTab
returns-in-SpaceOrTab c = record {
  runs = λ fine.
      let w = world c.args.tokenizer.now in
      let w' = world c.call-in-SpaceOrTab.new.tokenizer in
      (head-called c.args.name w c.call-in-SpaceOrTab.result w' c.requires.current c.requires.valid
      (within-world c.args.tokenizer.now) fine
      (c.call-in-SpaceOrTab.ensures.to fine ∙ ap (λ (x : StateName). (head_transition x w).to) (sym c.in-SpaceOrTab.is))
      (c.call-in-SpaceOrTab.ensures.world fine
      ∙ ap (λ (x : StateName). (head_transition x w).world) (sym c.in-SpaceOrTab.is))).0;
  sees = λ fine.
      let w = world c.args.tokenizer.now in
      let w' = world c.call-in-SpaceOrTab.new.tokenizer in
      (head-called c.args.name w c.call-in-SpaceOrTab.result w' c.requires.current c.requires.valid
      (within-world c.args.tokenizer.now) fine
      (c.call-in-SpaceOrTab.ensures.to fine ∙ ap (λ (x : StateName). (head_transition x w).to) (sym c.in-SpaceOrTab.is))
      (c.call-in-SpaceOrTab.ensures.world fine
      ∙ ap (λ (x : StateName). (head_transition x w).world) (sym c.in-SpaceOrTab.is))).1;
  full = search rules;
}
