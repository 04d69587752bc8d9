use Rattle.std.proofs.Common.{rules}
use Rattle.md_engine.specs.declared.state.heading_atx.State.TheVariants as its
use Rattle.md_engine.specs.World.{world}
use Rattle.md_leaves.proofs.HeadingMeaning.{heading_rule}
use Rattle.md_leaves.proofs.heading_atx.sequence_open.Goals as goal

pub returns-then-tokenizer-lt-OPENING : goal.returns-then-tokenizer-lt-OPENING
returns-then-tokenizer-lt-OPENING c = record {
  to = search rules;
  world = search rules;
  rule = search (rules, heading_rule);
  full = search rules;
}

pub returns-in_default : goal.returns-in_default
returns-in_default c = record {
  to = search rules;
  world = search rules;
  rule =
      λ ok. heading_rule its.SequenceOpen (world c.args.tokenizer.now) _ _ c.requires.current (search rules)
      (search rules);
  full = search rules;
}

pub returns-in_default-2 : goal.returns-in_default-2
returns-in_default-2 c = record {
  to = search rules;
  world = search rules;
  rule =
      λ ok. heading_rule its.SequenceOpen (world c.args.tokenizer.now) _ _ c.requires.current (search rules)
      (search rules);
  full = search rules;
}

pub returns-in-None-2 : goal.returns-in-None-2
returns-in-None-2 c = record {
  to = search rules;
  world = search rules;
  rule =
      λ ok. heading_rule its.SequenceOpen (world c.args.tokenizer.now) _ _ c.requires.current (search rules)
      (search rules);
  full = search rules;
}
