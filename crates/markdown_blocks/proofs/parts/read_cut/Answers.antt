use Rattle.std.proofs.Common.{ℕ, List, ap, arith, subst}
use Rattle.md_engine.specs.Place.{IsPlaced}
use Rattle.md_engine.specs.World.{Setting, world}
use Rattle.markdown_blocks.proofs.PartNext.{part-begins}
use Rattle.markdown_blocks.proofs.PartWhole.{cut-read}
use Rattle.markdown_blocks.proofs.parts.read_cut.Goals as goal

pub push_lines-requires : goal.push_lines-requires
push_lines-requires c =
    (part-begins c.args.text.now c.args.to c.args.start c.requires.within c.requires.begins c.requires.some
    c.requires.may.begins).placed

pub set_lines-requires-clause-begins : goal.set_lines-requires-clause-begins
set_lines-requires-clause-begins c =
    part-begins c.args.text.now c.args.to c.args.start c.requires.within c.requires.begins c.requires.some
    c.requires.may.begins

pub part_of-requires-clause-begins : goal.part_of-requires-clause-begins
part_of-requires-clause-begins c =
    part-begins c.args.text.now c.args.to c.args.start c.requires.within c.requires.begins c.requires.some
    c.requires.may.begins

pub returns-clause-part : goal.returns-clause-part
returns-clause-part c =
    (cut-read c.args.options.now c.args.text.now c.args.to c.args.start c.in_ok-tokenizer.state
    (world c.in_ok-tokenizer.tokenizer) c.requires.built (omega (arith, c.requires.small)) c.requires.may
    c.requires.some c.requires.within c.requires.begins c.in_ok-tokenizer.ensures.runs c.in_ok-tokenizer.ensures.stops
    c.in_ok-tokenizer.ensures.setting (c.may_end.ensures c.if-not-may_end.false)
    (subst (λ (l : List ℕ). IsPlaced l c.in_ok-tokenizer.tokenizer.point)
    (ap (λ (x : Setting). x.bytes) c.in_ok-tokenizer.ensures.setting) c.in_ok-tokenizer.tokenizer.sound.placed)
    c.in_ok-part.part c.in_ok-part.ensures).0

pub returns-clause-next : goal.returns-clause-next
returns-clause-next c =
    (cut-read c.args.options.now c.args.text.now c.args.to c.args.start c.in_ok-tokenizer.state
    (world c.in_ok-tokenizer.tokenizer) c.requires.built (omega (arith, c.requires.small)) c.requires.may
    c.requires.some c.requires.within c.requires.begins c.in_ok-tokenizer.ensures.runs c.in_ok-tokenizer.ensures.stops
    c.in_ok-tokenizer.ensures.setting (c.may_end.ensures c.if-not-may_end.false)
    (subst (λ (l : List ℕ). IsPlaced l c.in_ok-tokenizer.tokenizer.point)
    (ap (λ (x : Setting). x.bytes) c.in_ok-tokenizer.ensures.setting) c.in_ok-tokenizer.tokenizer.sound.placed)
    c.in_ok-part.part c.in_ok-part.ensures).1
