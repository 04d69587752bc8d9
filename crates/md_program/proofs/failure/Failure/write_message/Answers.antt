use Rattle.std.proofs.Common.{◌∙◌}
use Rattle.md_program.proofs.ReportLemmas.{begins-first, begins-second, begins-written}
use Rattle.md_program.proofs.failure.Failure.write_message.Goals as goal

pub returns-in_err-write_whole : goal.returns-in_err-write_whole
returns-in_err-write_whole g c =
    let held = g.E.Write.contents in
    begins-first (held c.args.errors.now)
    (held c.write_whole.new.output) c.as_bytes.result.now _ _ c.as_bytes.ensures.value
    c.in_err-write_whole.ensures.1

pub returns : goal.returns
returns g c =
    let held = g.E.Write.contents in
    let mid = held c.write_whole.new.output in
    let new = held c.write_whole-2.new.output in
    let rest = c.as_bytes-2.result.now in
    begins-second (held c.args.errors.now) mid new c.as_bytes.result.now _ rest _
    c.as_bytes.ensures.value (c.as_bytes-2.ensures.value ∙ c.reason.ensures)
    c.in_ok-write_whole.ensures
    (begins-written mid new rest c.write_whole-2.result c.write_whole-2.ensures)
