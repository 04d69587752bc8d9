use Rattle.std.proofs.Common.{◌∷◌, subst, List}
use Rattle.std.specs.List.{All}
use Rattle.std.proofs.lemmas.List.Elements.{All-tail}
use Rattle.md_events.specs.declared.inline.Chunk.{Chunk}
use Rattle.md_inline_events.specs.Room.{IsStretch}
use Rattle.md_inline_events.proofs.ChunkSteps.{read-step}
use Rattle.md_inline_events.proofs.text.copied.Goals as goal

pub loop-chunk-preserved : goal.loop-chunk-preserved
loop-chunk-preserved c =
    let each : All (IsStretch c.args.bytes.now) (c.in-Some.chunk.now ∷ c.in-Some.following.now) =
    subst (λ (l : List Chunk). All (IsStretch c.args.bytes.now) l) c.in-Some.ensures.cases.0
    c.loop-chunk.invariant.each in
    record {
      text =
          read-step c.args.bytes.now c.loop-chunk.starts c.args.leaves_out c.in-Some.chunk.now c.in-Some.following.now
          c.loop-chunk.rest.now c.next_side.result.text.now c.next_side.result.ending.now c.loop-chunk.text.items _ _
          c.in-Some.ensures.cases.0 c.next_side.ensures.text c.next_side.ensures.ending c.in_ok-push_side.ensures
          c.loop-chunk.invariant.text;
      each = All-tail (IsStretch c.args.bytes.now) c.in-Some.chunk.now c.in-Some.following.now each;
    }
