use Rattle.std.proofs.Common.{◌≡◌, ap, arith, refl, ◌∙◌}
use Rattle.md_engine.specs.Found.{found_in}
use Rattle.md_engine.specs.World.{Setting, world}
use Rattle.proof_container_laws.specs.Footnotes.{footnotes_listed}
use Rattle.markdown_blocks.proofs.PartWhole.{is-read}
use Rattle.markdown_blocks.proofs.parts.part_of.Goals as goal

pub returns : goal.returns
returns c =
    let same : c.args.tokenizer.bytes.now ≡ c.args.bytes.now = ap (λ (x : Setting). x.bytes) c.requires.reads.setting in
    is-read c.args.options.now c.args.bytes.now c.args.start c.requires.built (omega (arith, c.requires.small))
    c.requires.begins (found_in c.args.found) (world c.args.tokenizer) c.requires.reads
    (rw same at c.args.tokenizer.sound.right)
    (record {
      events = c.args.tokenizer.events;
      definitions = c.args.found.definitions;
      gfm_footnote_definitions = c.in_ok-gfm_footnote_definitions.gfm_footnote_definitions;
    }) refl refl
    (c.in_ok-gfm_footnote_definitions.ensures
    ∙ ap (footnotes_listed c.args.options.now c.args.bytes.now) c.deref.ensures.value)
