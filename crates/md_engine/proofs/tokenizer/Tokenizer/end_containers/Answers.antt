use Rattle.std.proofs.Common.{refl, drop, arith}
use Rattle.md_engine.proofs.Closing.{ends-placed, ends-put, ends-turn, sound-put}
use Rattle.md_engine.proofs.tokenizer.Tokenizer.end_containers.Goals as goal

pub turn-requires : goal.turn-requires
turn-requires c =
    ends-turn c.args.keep c.args.at _ _ c.args.self.now.containers.items c.deref.result.now _
    c.args.self.now.events.items _ (omega arith) (omega arith) c.deref.ensures.value c.in_ok-add_ends.ensures

pub invariant_of-self-2 : goal.invariant_of-self-2
invariant_of-self-2 c =
    let new = ends-put c.args.keep c.args.at _ _ c.args.self.now.containers.items c.deref.result.now _
    c.args.self.now.events.items _ c.turn.new.events.items (omega arith) (omega arith) c.deref.ensures.value
    c.in_ok-add_ends.ensures c.turn.ensures in
    let ends = ends-placed c.args.self.now.bytes.now (drop c.args.keep c.args.self.now.containers.items)
    c.end_point-point.result c.end_point-point.ensures.placed in
    record {
      sound = rw new (sound-put _ _ _ c.args.at _ _ _ _ c.args.self.now.sound ends);
      spread = c.args.self.now.spread;
      passed = rw c.truncate.ensures.items (c.cut-self.ensures _ c.args.self.now.passed);
    }

pub returns : goal.returns
returns c =
    let new = ends-put c.args.keep c.args.at _ _ c.args.self.now.containers.items c.deref.result.now _
    c.args.self.now.events.items _ c.turn.new.events.items (omega arith) (omega arith) c.deref.ensures.value
    c.in_ok-add_ends.ensures c.turn.ensures in
    rw (new, c.truncate.ensures.items, c.end_point-point.ensures.value) refl
