use Rattle.md_meaning.specs.Outline.{entries_of}
use Rattle.md_outline.proofs.TextCuts.{first-full}
use Rattle.md_outline.proofs.outline.lines.push_first_full.Goals as goal

pub returns : goal.returns
returns c = λ u.
    first-full c.args.word c.args.depth (entries_of c.args.lines.now.items) (entries_of c.push.new.lines.items)
    (entries_of c.push_full_lines.new.lines.items) c.args.text.now c.split_at.result.0.now c.split_at.result.1.now
    c.following_ending.result.now c.text_of.result.now c.first_line_len.result
    c.first_line_len.ensures.value c.split_at.ensures.front c.split_at.ensures.back c.following_ending.ensures.value u
    c.text_of.ensures c.in_ok-push.ensures c.in_ok-push_full_lines.ensures.lines
