use Rattle.std.proofs.Common.{◌≡◌, ◌++◌, List, ap, append_assoc, arith, length, subst, sym, take, ◌∙◌}
use Rattle.std.proofs.lemmas.List.{take_all}
use Rattle.md_engine.specs.declared.event.Event.{Event}
use Rattle.md_events.specs.Lined.{EachLine}
use Rattle.md_events.specs.Rewritten.{given_of, held_of, left_of, written_of}
use Rattle.md_events.proofs.LinedLemmas.{FirstLine, each-run, first-line, given-line, given-run, lined-short}
use Rattle.md_events.proofs.subtokenize.read_lines.Goals as goal

pub put_chunk-requires-clause-line : goal.put_chunk-requires-clause-line
put_chunk-requires-clause-line g c =
    let wants = g.R.Reader.wants c.args.reader.now in
    let each = subst (EachLine wants c.args.bytes.now) (sym c.in-Some.ensures.left)
    (each-run wants c.args.bytes.now (left_of c.loop-chunk.all) c.loop-chunk.invariant.each) in
    (first-line wants c.args.bytes.now (left_of c.next_chunk.new.all) c.in-Some.chunk c.in-Some.ensures.some each).line

pub loop-chunk-preserved : goal.loop-chunk-preserved
loop-chunk-preserved g c =
    let wants = g.R.Reader.wants c.args.reader.now in
    let before : List Event = left_of c.loop-chunk.all in
    let rest : List Event = left_of c.next_chunk.new.all in
    let left = c.in_ok-put_chunk.ensures.left in
    let each : EachLine wants c.args.bytes.now rest = subst (EachLine wants c.args.bytes.now)
    (sym c.in-Some.ensures.left)
    (each-run wants c.args.bytes.now before c.loop-chunk.invariant.each) in
    let first : FirstLine wants c.args.bytes.now rest c.in-Some.chunk =
    first-line wants c.args.bytes.now rest c.in-Some.chunk c.in-Some.ensures.some each in
    record {
      given =
          given-line wants c.args.bytes.now rest (left_of c.put_chunk.new.all) (given_of c.next_chunk.new.all)
          (given_of c.put_chunk.new.all) _ c.in-Some.chunk first left c.in_ok-put_chunk.ensures.given
          (given-run wants c.args.bytes.now before rest (given_of c.loop-chunk.all) (given_of c.next_chunk.new.all) _
          c.in-Some.ensures.left c.in-Some.ensures.given c.loop-chunk.invariant.given);
      each = subst (EachLine wants c.args.bytes.now) (sym left) first.each;
    }

pub returns : goal.returns
returns g c =
    let wants = g.R.Reader.wants c.args.reader.now in
    let before : List Event = left_of c.loop-chunk.all in
    let rest : List Event = left_of c.next_chunk.new.all in
    let given : List Event = given_of c.next_chunk.new.all in
    let last : List Event = take (length c.left-rest.result.now) rest in
    let all : last ≡ rest = take_all (length c.left-rest.result.now) rest
    (omega (arith, ap length c.left-rest.ensures)) in
    let lines = given-run wants c.args.bytes.now before rest (given_of c.loop-chunk.all) given _
    c.in_default.ensures.left c.in_default.ensures.given c.loop-chunk.invariant.given in
    c.finish.ensures ∙ c.give.ensures.written
    ∙ ap (λ (l : List Event). l ++ held_of c.hold_many.new.self) c.hold_many.ensures.written
    ∙ ap (λ (l : List Event). written_of c.next_chunk.new.all ++ l) c.hold_many.ensures.held
    ∙ sym (append_assoc (written_of c.next_chunk.new.all) (held_of c.next_chunk.new.all) last)
    ∙ ap (λ (l : List Event). given ++ l)
    (all ∙ sym (lined-short wants c.args.bytes.now rest c.in_default.ensures.none))
    ∙ lines
