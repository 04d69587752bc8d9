use Rattle.std.proofs.Common.{List, subst, sym}
use Rattle.std.specs.Prelude.{Option}
use Rattle.md_engine.specs.declared.event.Event.{Event}
use Rattle.md_engine.specs.declared.event.Point.{Point}
use Rattle.markdown_blocks.specs.PartRead.{AreAhead}
use Rattle.markdown_blocks.proofs.PartFront.{begun-ahead, front-ahead}
use Rattle.markdown_blocks.proofs.parts.Parts.ahead.Goals as goal

pub returns-then-self : goal.returns-then-self
returns-then-self c =
    subst
    (λ (l : List Event).
    AreAhead c.args.self.now.options.now c.args.self.now.bytes.now c.args.self.now.begun c.args.self.now.start l
    c.args.self.now.start) (sym c.new.ensures.items)
    (begun-ahead c.args.self.now.options.now c.args.self.now.bytes.now c.args.self.now.begun c.args.self.now.start
    c.if-self.true c.args.self.now.may)

pub returns : goal.returns
returns c =
    subst
    (λ (o : Option Point).
    AreAhead c.args.self.now.options.now c.args.self.now.bytes.now c.args.self.now.begun c.args.self.now.start
    c.in_ok-front.front.events.items o) (sym c.point_in-start.ensures)
    (front-ahead c.args.self.now.options.now c.args.self.now.bytes.now c.in_ok-front.front.point
    c.in_ok-front.front.events.items
    (record {
      starts = c.in_ok-front.ensures.reads.point;
      is = c.in_ok-front.ensures.reads.events;
      are = c.in_ok-front.ensures.front;
      point = rw c.in_ok-front.ensures.reads.bytes_are at c.in_ok-front.front.sound.placed;
      placed = rw c.in_ok-front.ensures.reads.bytes_are at c.in_ok-front.front.sound.right;
    }) c.args.self.now.begun c.args.self.now.start c.if-self.false)
