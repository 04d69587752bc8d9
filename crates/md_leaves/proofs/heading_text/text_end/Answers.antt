use Rattle.std.proofs.Common.{ℕ, ◌++◌, ◌-◌, ◌∙◌, ap, arith, length, length-append, sym}
use Rattle.md_leaves.proofs.OneLine.{end-back, on-within}
use Rattle.md_leaves.proofs.OnLine.{on-front}
use Rattle.md_leaves.proofs.heading_text.text_end.Goals as goal

pub overflow_add-from-then-to-eq0 : goal.overflow_add-from-then-to-eq0
overflow_add-from-then-to-eq0 c =
    let bytes = c.args.tokenizer.now.bytes.now in
    omega (
      arith,
      c.requires.on.placed.sized,
      on-within bytes (c.args.text.now ++ c.args.rest.now) c.args.from c.requires.on,
      length-append c.args.text.now c.args.rest.now,
    )

pub past_text-requires : goal.past_text-requires
past_text-requires c =
    on-front c.args.tokenizer.now.bytes.now c.args.text.now c.args.rest.now c.args.from c.requires.on

pub returns-then-not-has_tab : goal.returns-then-not-has_tab
returns-then-not-has_tab c =
    let t = c.args.tokenizer.now in
    let to = t.point in
    let n = length c.args.rest.now in
    ap (λ (x : ℕ). record { line = to.line; column = x; index = c.saturating_sub-then-not-has_tab.result; vs = 0 })
    c.saturating_sub.ensures
    ∙ ap (λ (x : ℕ). record { line = to.line; column = to.column - n; index = x; vs = 0 })
    c.saturating_sub-then-not-has_tab.ensures
    ∙ sym
    (end-back t.bytes.now c.args.text.now c.args.rest.now c.args.from to c.requires.on c.requires.whole
    t.sound.placed c.if-to-eq0.true c.if-to-from.true (sym c.has_tab.ensures ∙ c.if-not-has_tab.true))
