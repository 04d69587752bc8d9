use Rattle.std.proofs.Common.{◌∙◌, ap, map, string_bytes}
use Rattle.md_program.specs.Page.{written_on}
use Rattle.printing.proofs.PartsPrinted.{outline-printed}
use Rattle.printing.proofs.printed.PartByPartPrinting.output.Goals as goal

pub returns : goal.returns
returns c =
    outline-printed c.args.text.now c.args.options c.built-options.result (written_on c.in_ok-output.output)
    (written_on c.push_parts.new.output) c.finish.result.items c.as_slice.result.now
    c.as_slice-2.result.now c.built-options.ensures.value c.in_ok-output.ensures c.in_ok-found.ensures.lines
    (ap (map string_bytes) c.as_slice.ensures.value ∙ c.in_ok-found.ensures.definitions)
    (ap (map string_bytes) c.as_slice-2.ensures.value ∙ c.in_ok-found.ensures.footnotes)
    (c.finish.ensures ∙ c.in_ok-push_end.ensures)
