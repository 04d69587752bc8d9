use Rattle.std.proofs.Common.{sym, ◌∙◌, arith}
use Rattle.std.specs.Prelude.{None}
use Rattle.std.proofs.lemmas.List.{append-nil}
use Rattle.md_engine.specs.declared.event.Event.{Event}
use Rattle.md_engine.specs.declared.event.Kind.TheVariants.{Enter}
use Rattle.md_engine.specs.declared.event.Name.TheVariants.{Frontmatter}
use Rattle.md_events.proofs.SubstitutedLemmas.{chunks-end, chunks-stop, lists-first, lists-more}
use Rattle.md_events.proofs.subtokenize.list_chunks.Goals as goal

-- what indexing gives past the end of a list
abbrev unset : Event
unset = record {
  kind = Enter;
  name = Frontmatter;
  point = record { line = 0; column = 0; index = 0; vs = 0 };
  link = None;
}

pub returns-after-loop-at : goal.returns-after-loop-at
returns-after-loop-at g c =
    let none = chunks-end (g.R.Reader.wants c.args.reader.now) c.args.events.now c.loop-at.at (omega arith) in
    sym (append-nil c.loop-at.chunks.items) ∙ (rw none at c.loop-at.invariant.chunks)

pub returns-else-is_prefix : goal.returns-else-is_prefix
returns-else-is_prefix g c =
    let none = chunks-stop (g.R.Reader.wants c.args.reader.now) c.args.events.now c.loop-at.at unset (omega arith) (cc)
    (cc) in
    sym (append-nil c.loop-at.chunks.items) ∙ (rw none at c.loop-at.invariant.chunks)

pub loop-at-init : goal.loop-at-init
loop-at-init g c = record {
  within = omega (arith, c.plain_prefixes-at.ensures.within);
  chunks =
      lists-first (g.R.Reader.wants c.args.reader.now) c.args.events.now unset c.clear.new.self.items
      c.push_chunk.new.chunks.items c.plain_prefixes-at.result c.requires c.clear.ensures.items
      c.in_ok-push_chunk.ensures c.plain_prefixes-at.ensures.value;
}

pub loop-at-preserved-then-is_some : goal.loop-at-preserved-then-is_some
loop-at-preserved-then-is_some g c = record {
  within = omega (arith, c.plain_prefixes-at-then-is_some.ensures.within);
  chunks =
      lists-more (g.R.Reader.wants c.args.reader.now) c.args.events.now c.loop-at.at unset c.loop-at.chunks.items
      c.push_chunk-then-is_some.new.chunks.items _ c.plain_prefixes-at-then-is_some.result c.loop-at-test.true (cc)
      c.in_ok-push_chunk-2.ensures c.plain_prefixes-at-then-is_some.ensures.value c.loop-at.invariant.chunks;
}
