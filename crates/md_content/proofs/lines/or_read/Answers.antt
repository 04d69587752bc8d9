use Rattle.std.proofs.Common.{◌≡◌, ◌<◌, arith, length}
use Rattle.std.specs.Prelude.{None, OnOk}
use Rattle.std.specs.declared.result.Result.{Result}
use Rattle.std.specs.declared.result.Result.TheVariants as result
use Rattle.md_engine.specs.declared.event.Event.{Event}
use Rattle.md_engine.specs.declared.event.Kind.TheVariants.{Enter}
use Rattle.md_engine.specs.declared.event.Name.TheVariants.{Frontmatter}
use Rattle.md_content.proofs.LinesLemmas.{lines-placed}
use Rattle.md_content.proofs.lines.or_read.Goals as goal
use Rattle.md_events.specs.Parts.{AreChunks}

-- what indexing gives past the end of a list
abbrev unset : Event
unset = record {
  kind = Enter;
  name = Frontmatter;
  point = record { line = 0; column = 0; index = 0; vs = 0 };
  link = None;
}

pub read-requires-clause-chunks : goal.read-requires-clause-chunks
read-requires-clause-chunks c =
    rw (c.deref.ensures.value, c.in_ok-list_lines.ensures)
    (lines-placed c.args.reader.now.bytes.now c.args.events.now unset c.requires.begins c.requires.placed)

pub returns-clause-chunks : goal.returns-clause-chunks
returns-clause-chunks c =
    let chunks : AreChunks c.args.reader.now.bytes.now c.deref.result.now =
    rw (c.deref.ensures.value, c.in_ok-list_lines.ensures)
    (lines-placed c.args.reader.now.bytes.now c.args.events.now unset c.requires.begins c.requires.placed) in
    let some : 0 < length c.deref.result.now = chunks.some in
    on-ok c.read.result (c.read.new.self.chunks ≡ length c.deref.result.now) (0 < c.read.new.self.chunks)
    (λ (is : c.read.new.self.chunks ≡ length c.deref.result.now). omega (arith, is, some)) c.read.ensures.chunks
  where
    on-ok : {T E : Type 0} → (x : Result T E) (P Q : Type 0) → (P → Q) → OnOk x P → OnOk x Q
    on-ok (result.Ok v) P Q f h = f h
    on-ok (result.Err v) P Q f h = h
