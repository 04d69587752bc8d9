use Rattle.std.proofs.Common.{◌∙◌, sym}
use Rattle.md_meaning.specs.Outline.{entries_of}
use Rattle.md_outline.proofs.OutlineLemmas.{on_ok-map}
use Rattle.md_outline.proofs.TextCuts.{first-all, first-one}
use Rattle.md_outline.proofs.outline.lines.push_first_lines.Goals as goal

pub returns-then-is_empty : goal.returns-then-is_empty
returns-then-is_empty c = λ u.
    first-one c.args.word c.args.depth (entries_of c.args.lines.now.items) (entries_of c.push.new.lines.items)
    c.args.text.now c.split_at.result.0.now c.split_at.result.1.now c.text_of.result.now c.first_line_len.result
    c.first_line_len.ensures.value c.split_at.ensures.front c.split_at.ensures.back u
    c.text_of.ensures c.in_ok-push.ensures (sym c.is_empty.ensures ∙ c.if-is_empty.true)

pub returns : goal.returns
returns c =
    on_ok-map c.push_lines.result
    (λ pushed u.
    first-all c.args.word c.args.depth (entries_of c.args.lines.now.items) (entries_of c.push.new.lines.items)
    (entries_of c.push_lines.new.lines.items) c.args.text.now c.split_at.result.0.now c.split_at.result.1.now
    c.following_ending.result.now c.text_of.result.now c.first_line_len.result
    c.first_line_len.ensures.value c.split_at.ensures.front c.split_at.ensures.back c.following_ending.ensures.value u
    c.text_of.ensures c.in_ok-push.ensures (sym c.is_empty.ensures ∙ c.if-is_empty.false) pushed)
    c.push_lines.ensures
