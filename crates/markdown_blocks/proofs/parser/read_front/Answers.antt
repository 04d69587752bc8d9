use Rattle.std.proofs.Common.{arith, refl, ◌∙◌}
use Rattle.proof_exact_lines.proofs.Front.{front-same}
use Rattle.markdown_blocks.proofs.DocumentReads.{document-reads-from}
use Rattle.proof_leaf_laws.proofs.MarkLemmas.{placed-first}
use Rattle.markdown_blocks.proofs.parser.read_front.Goals as goal

pub new-tokenizer-requires : goal.new-tokenizer-requires
new-tokenizer-requires c = placed-first c.args.bytes.now c.requires

pub returns-clause-reads : goal.returns-clause-reads
returns-clause-reads c =
    document-reads-from _ c.args.bytes.now c.args.options.now _ _ _ _ _ _ c.new-tokenizer.ensures refl
    (omega (arith, c.requires)) (c.push.ensures.runs c.in_default.not-Error) c.in_ok-flush.ensures

pub returns-clause-front : goal.returns-clause-front
returns-clause-front c =
    (document-reads-from _ c.args.bytes.now c.args.options.now _ _ _ _ _ _ c.new-tokenizer.ensures refl
    (omega (arith, c.requires)) (c.push.ensures.runs c.in_default.not-Error) c.in_ok-flush.ensures).events
    ∙ front-same c.args.options.now c.args.bytes.now
