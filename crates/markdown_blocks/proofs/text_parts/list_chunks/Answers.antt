use Rattle.std.proofs.Common.{sym, ◌∙◌, arith}
use Rattle.std.specs.Prelude.{None}
use Rattle.std.proofs.lemmas.List.{append-nil}
use Rattle.md_engine.specs.declared.event.Event.{Event}
use Rattle.md_engine.specs.declared.event.Kind.TheVariants.{Enter}
use Rattle.md_engine.specs.declared.event.Name.TheVariants.{Frontmatter}
use Rattle.md_events.specs.TextPart.{wants_text}
use Rattle.md_events.proofs.SubstitutedLemmas.{chunks-end, chunks-stop}
use Rattle.markdown_blocks.proofs.text_parts.list_chunks.Goals as goal

-- what indexing gives past the end of a list
abbrev unset : Event
unset = record {
  kind = Enter;
  name = Frontmatter;
  point = record { line = 0; column = 0; index = 0; vs = 0 };
  link = None;
}

pub returns-after-loop-at : goal.returns-after-loop-at
returns-after-loop-at c =
    let none = chunks-end wants_text c.args.events.now c.loop-at.at (omega arith) in
    sym (append-nil c.loop-at.chunks.items) ∙ (rw none at c.loop-at.invariant.chunks)

pub returns-else-is_prefix : goal.returns-else-is_prefix
returns-else-is_prefix c =
    let none = chunks-stop wants_text c.args.events.now c.loop-at.at unset (omega arith) (cc) (cc) in
    sym (append-nil c.loop-at.chunks.items) ∙ (rw none at c.loop-at.invariant.chunks)
