use Rattle.md_meaning.specs.Outline.{entries_of}
use Rattle.md_outline.proofs.OutlineLemmas.{on_ok-map}
use Rattle.md_outline.proofs.TextCuts.{lines-all}
use Rattle.md_outline.proofs.outline.lines.push_lines.Goals as goal

pub returns : goal.returns
returns c =
    on_ok-map c.push.result
    (λ pushed u.
    let rest = c.in_ok-rest.ensures.rest u in
    lines-all c.args.word c.args.depth (entries_of c.args.lines.now.items)
    (entries_of c.push_full_lines.new.lines.items)
    (entries_of c.push.new.lines.items) c.args.text.now c.in_ok-rest.rest.now c.line_text.result.now
    rest.1 (c.in_ok-rest.ensures.lines u) (c.line_text.ensures rest.0) pushed)
    c.push.ensures
