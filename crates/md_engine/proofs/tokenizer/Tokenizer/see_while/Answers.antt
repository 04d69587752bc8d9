use Rattle.std.proofs.Common.{Some, sym, ap}
use Rattle.md_engine.specs.declared.tokenizer.Scratch.{Scratch}
use Rattle.md_engine.specs.Staying.SeesSome.{Nothing}
use Rattle.md_engine.specs.World.{World, world}
use Rattle.md_engine.proofs.StayLemmas.{one-more}
use Rattle.md_engine.proofs.tokenizer.Tokenizer.see_while.Goals as goal

pub loop-byte-init : goal.loop-byte-init
loop-byte-init c = Nothing

pub loop-byte-preserved : goal.loop-byte-preserved
loop-byte-preserved c =
    let u : World = record (world c.consume.new.self) { current = Some c.in-Some.byte } in
    one-more c.args.stay (world c.args.self.now) (world c.loop-byte.self) u _ c.in-Some.byte
    c.loop-byte.invariant (sym c.in-Some.ensures) (sym c.if-not-takes.ensures)
    (ap (λ (x : World). record x { current = Some c.in-Some.byte }) c.consume.ensures)
    (ap (λ (s : Scratch). record u { scratch = s }) c.count.ensures)
