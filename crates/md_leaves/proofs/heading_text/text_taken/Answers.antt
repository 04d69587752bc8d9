use Rattle.std.proofs.Common.{◌≡◌, ℕ, ◌∙◌, List, ap, sym, take}
use Rattle.std.specs.Prelude.{slice_range}
use Rattle.md_engine.specs.declared.tokenizer.Tokenizer.{Tokenizer}
use Rattle.md_leaves.proofs.OneLine.{line-whole, one-line}
use Rattle.md_meaning.specs.Lines.{without_ending}
use Rattle.md_events.specs.Lent.{whole_from}
use Rattle.md_events.specs.WholeLine.{line_taken}
use Rattle.md_events.proofs.LineTaken.{taken-slice}
use Rattle.md_leaves.proofs.heading_text.text_taken.Goals as goal

taken-is : (t : Tokenizer) (line : List ℕ) (to : ℕ) → line ≡ slice_range t.bytes.now t.scratch.start to →
    to ≡ whole_from t.point → line ≡ line_taken t.bytes.now t.scratch t.point
taken-is t line to is at =
    is ∙ ap (slice_range t.bytes.now t.scratch.start) at ∙ taken-slice t.bytes.now t.scratch t.point t.sound.placed

pub returns-then-to-from : goal.returns-then-to-from
returns-then-to-from c =
    let t = c.args.tokenizer.now in
    taken-is t c.between-line.result.now c.whole_from.result c.between-line.ensures c.whole_from.ensures
    ∙ sym
    (line-whole (line_taken t.bytes.now t.scratch t.point)
    (one-line t.bytes.now t.scratch c.args.from t.point c.requires.placed t.sound.placed c.requires.at
    c.if-to-eq0.true c.if-to-from.true))

pub returns : goal.returns
returns c =
    let t = c.args.tokenizer.now in
    c.split_at.ensures.front
    ∙ ap (λ (n : ℕ). take n c.between-line.result.now) c.line_len.ensures.value
    ∙ ap without_ending
    (taken-is t c.between-line.result.now c.whole_from.result c.between-line.ensures c.whole_from.ensures)
