use Rattle.std.proofs.Common.{◌≤◌, refl, ap, sym, ◌∙◌, arith}
use Rattle.md_engine.specs.declared.event.Point.{Point}
use Rattle.md_events.specs.Events.Places.{past_text}
use Rattle.md_events.proofs.PlacesLemmas.{placed-facts}
use Rattle.md_events.proofs.PlainRuns.{line-run}
use Rattle.md_events.proofs.PlainSteps.{line-end, line-step, line-stop, line_left, range-length}
use Rattle.md_events.proofs.ReachedLemmas.{point-placed}
use Rattle.md_events.proofs.plain.line_end.Goals as goal

pub loop-point-init : goal.loop-point-init
loop-point-init c = record {
  first =
      let placed = placed-facts c.args.bytes.now c.args.chunk.now.first (point-placed _ _ c.requires.first) in
      omega (arith, placed.column);
  columns = omega (arith, c.requires.first.column, c.requires.first.vs);
  line = refl;
}

-- the columns so far leave room for those of the text
pub past_byte-point-requires : goal.past_byte-point-requires
past_byte-point-requires c =
    let inside = c.loop-point-test.true in
    let columns = c.loop-point.invariant.columns in (
      c.loop-point.invariant.first,
      omega (arith, inside, columns, c.requires.after.index, c.requires.after.sized),
      omega (arith, inside, c.requires.after.index, c.requires.after.sized),
    )

pub overflow_add-point : goal.overflow_add-point
overflow_add-point c =
    let end = c.args.chunk.now.after.index in
    let inside = c.loop-point-test.true in
    let columns = c.loop-point.invariant.columns in
    let past = c.past_byte-point.ensures.columns.1 in
    let long = range-length c.args.bytes.now c.past_byte-point.result.index end c.requires.after.index in
    let within = c.span-count.ensures.within in
    omega (arith, inside, columns, past, long, within, c.requires.after.index, c.requires.after.sized)

pub loop-point-preserved : goal.loop-point-preserved
loop-point-preserved c =
    let bytes = c.args.bytes.now in
    let end = c.args.chunk.now.after.index in
    let low = c.requires.after.index in
    let inside = c.loop-point-test.true in
    let columns = c.loop-point.invariant.columns in
    let past = c.past_byte-point.ensures.columns in
    let is = c.past_byte-point.ensures.value in
    let index = ap (λ (q : Point). q.index) is in
    let whole = ap (λ (q : Point). q.vs) is in
    let first : 1 ≤ c.past_byte-point.result.column = omega (arith, past.0) in
    record {
      first = omega (arith, first);
      columns = omega (arith, columns, past.1, index);
      line =
          line-run bytes end c.span-count.result c.past_byte-point.result first whole low
          (omega (arith, index, inside)) c.span-count.ensures
          ∙ ap (λ (q : Point). past_text (line_left bytes q end) q) is
          ∙ line-step bytes c.loop-point.point end inside low (sym c.if-not-ends_line.ensures)
          ∙ c.loop-point.invariant.line;
    }

pub returns-else-not-ends_line : goal.returns-else-not-ends_line
returns-else-not-ends_line c =
    sym (ap (λ t. past_text t c.loop-point.point)
    (line-stop c.args.bytes.now c.loop-point.point c.args.chunk.now.after.index c.loop-point-test.true
    c.requires.after.index (sym c.if-not-ends_line.ensures)))
    ∙ c.loop-point.invariant.line

pub returns-after-loop-point : goal.returns-after-loop-point
returns-after-loop-point c =
    sym (ap (λ t. past_text t c.loop-point.point)
    (line-end c.args.bytes.now c.loop-point.point c.args.chunk.now.after.index c.loop-point-test.false))
    ∙ c.loop-point.invariant.line
