use Rattle.std.proofs.Common.{◌∙◌, sym}
use Rattle.md_meaning.specs.Outline.{entries_of}
use Rattle.md_outline.proofs.TextCuts.{lines-end, lines-next}
use Rattle.md_outline.proofs.outline.lines.push_full_lines.Goals as goal

pub rest-preserved : goal.rest-preserved
rest-preserved c = λ u.
    let before = c.rest.invariant u in
    let next = lines-next c.args.word c.args.depth (entries_of c.rest.lines.items)
    (entries_of c.push.new.lines.items) c.rest.left.now c.split_at.result.0.now c.split_at.result.1.now
    c.following_ending-left.result.now c.line_text.result.now c.first_line_len.result
    c.first_line_len.ensures.value c.split_at.ensures.front c.split_at.ensures.back
    (sym c.is_empty.ensures ∙ c.if-is_empty.false) c.following_ending-left.ensures.value before.0 c.line_text.ensures
    c.in_ok-push.ensures in
    (next.0, (next.1.0 ∙ before.1.0, next.1.1 ∙ before.1.1))

pub returns-then-is_empty-clause-rest : goal.returns-then-is_empty-clause-rest
returns-then-is_empty-clause-rest c = λ u.
    let before = c.rest.invariant u in
    let last = lines-end c.args.word c.args.depth
    (entries_of c.rest.lines.items) c.rest.left.now c.split_at.result.1.now c.first_line_len.result
    c.first_line_len.ensures.value c.split_at.ensures.back
    (sym c.is_empty.ensures ∙ c.if-is_empty.true) in
    (before.0, last.1 ∙ before.1.1)

pub returns-then-is_empty-clause-lines : goal.returns-then-is_empty-clause-lines
returns-then-is_empty-clause-lines c = λ u.
    let before = c.rest.invariant u in
    let last = lines-end c.args.word c.args.depth
    (entries_of c.rest.lines.items) c.rest.left.now c.split_at.result.1.now c.first_line_len.result
    c.first_line_len.ensures.value c.split_at.ensures.back
    (sym c.is_empty.ensures ∙ c.if-is_empty.true) in
    last.0 ∙ before.1.0
