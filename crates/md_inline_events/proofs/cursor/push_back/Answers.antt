use Rattle.std.proofs.Common.{◌++◌, ap, sym, ◌∙◌, arith}
use Rattle.std.proofs.lemmas.List.{append-nil}
use Rattle.md_inline_events.specs.Marks.{Back, back_events, back_from}
use Rattle.md_inline_events.proofs.CursorLemmas.{far_back, far_marks, last_back, last_marks}
use Rattle.md_inline_events.proofs.cursor.push_back.Goals as goal

pub returns-then-cursor-count-clause-events : goal.returns-then-cursor-count-clause-events
returns-then-cursor-count-clause-events c =
    sym (append-nil c.args.events.now.items)
    ∙ ap (λ (b : Back). c.args.events.now.items ++ back_events b c.args.cursor.name c.args.from c.args.following)
    (sym (far_back c.args.cursor.left c.args.count c.args.cursor.tokens.now c.requires.some c.requires.within
    c.requires.fits c.if-cursor-count.true))

pub returns-then-cursor-count-clause-marks : goal.returns-then-cursor-count-clause-marks
returns-then-cursor-count-clause-marks c =
    far_marks c.args.cursor.left c.args.count c.saturating_sub.result c.args.cursor.tokens.now c.requires.within
    c.requires.fits c.if-cursor-count.true (grind arith)

pub returns-then-cursor-count-clause-from : goal.returns-then-cursor-count-clause-from
returns-then-cursor-count-clause-from c =
    ap (λ (b : Back). back_from b c.args.from c.args.following)
    (sym (far_back c.args.cursor.left c.args.count c.args.cursor.tokens.now c.requires.some c.requires.within
    c.requires.fits c.if-cursor-count.true))

pub returns-clause-events : goal.returns-clause-events
returns-clause-events c =
    c.in_ok-tokens.ensures.events
    ∙ ap (λ (b : Back). c.args.events.now.items ++ back_events b c.args.cursor.name c.args.from c.args.following)
    (sym (last_back c.args.cursor.left c.args.count c.args.cursor.tokens.now c.requires.some c.if-cursor-count.false))

pub returns-clause-marks : goal.returns-clause-marks
returns-clause-marks c =
    c.in_ok-tokens.ensures.marks
    ∙ sym (last_marks c.args.cursor.left c.args.count c.args.cursor.tokens.now c.requires.some c.if-cursor-count.false)

pub returns-clause-from : goal.returns-clause-from
returns-clause-from c =
    c.in_ok-tokens.ensures.from
    ∙ ap (λ (b : Back). back_from b c.args.from c.args.following)
    (sym (last_back c.args.cursor.left c.args.count c.args.cursor.tokens.now c.requires.some c.if-cursor-count.false))
