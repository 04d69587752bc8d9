use Rattle.std.proofs.Common.{refl, inl, inr}
use Rattle.md_inline_events.specs.SidesOf.{cursor_marks, sides_of}
use Rattle.md_inline_events.proofs.ChunkSteps.{events-step, last-of, next-of, next-stretch}
use Rattle.md_inline_events.proofs.writer.push_chunks.Goals as goal

pub loop-chunk-init : goal.loop-chunk-init
loop-chunk-init c = record {
  events = refl;
  each = c.requires.stretches;
  alone = λ chunk one. inr (one, refl);
}

pub side_of-side-requires-clause-stretch : goal.side_of-side-requires-clause-stretch
side_of-side-requires-clause-stretch c =
    (next-stretch c.args.bytes.now c.loop-chunk.rest.now c.in-Some.chunk.now c.in-Some.following.now
    c.in-Some.ensures.cases.0 c.loop-chunk.invariant.each).0

pub side_of-side-requires-clause-text : goal.side_of-side-requires-clause-text
side_of-side-requires-clause-text c =
    next-of c.args.bytes.now c.args.leaves_out c.loop-chunk.starts c.args.chunks.now c.loop-chunk.rest.now
    c.in-Some.chunk.now c.in-Some.following.now c.args.text.now c.requires.text c.loop-chunk.invariant.alone
    c.in-Some.ensures.cases.0

pub loop-chunk-preserved : goal.loop-chunk-preserved
loop-chunk-preserved c = record {
  events =
      events-step c.args.bytes.now c.loop-chunk.starts c.args.leaves_out c.in-Some.chunk.now c.in-Some.following.now
      c.loop-chunk.rest.now (sides_of c.side_of-side.result) (cursor_marks c.loop-chunk.cursor) _
      c.loop-chunk.cursor.name _ c.loop-chunk.events.items _ _ c.in-Some.ensures.cases.0 c.side_of-side.ensures.is
      c.in_ok-cursor.ensures.events c.in_ok-cursor.ensures.marks c.in_ok-cursor.ensures.name
      c.loop-chunk.invariant.events;
  each =
      (next-stretch c.args.bytes.now c.loop-chunk.rest.now c.in-Some.chunk.now c.in-Some.following.now
      c.in-Some.ensures.cases.0 c.loop-chunk.invariant.each).1;
  alone = λ chunk one. inl
      (last-of c.loop-chunk.rest.now chunk c.in-Some.chunk.now c.in-Some.following.now c.loop-chunk.starts
      c.args.leaves_out (c.loop-chunk.invariant.alone chunk one) c.in-Some.ensures.cases.0);
}

pub push_side-requires-clause-column : goal.push_side-requires-clause-column
push_side-requires-clause-column c =
    (next-stretch c.args.bytes.now c.loop-chunk.rest.now c.in-Some.chunk.now c.in-Some.following.now
    c.in-Some.ensures.cases.0 c.loop-chunk.invariant.each).0.column
