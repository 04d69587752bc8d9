use Rattle.std.proofs.Common.{◌≡◌, ◌++◌, [], ◌∷◌, ◌-◌, ◌+◌, take, drop, ap, ◌∙◌, arith}
use Rattle.std.proofs.lemmas.List.{map_push}
use Rattle.md_scan.specs.Definitions.{texts}
use Rattle.reference_inlines.proofs.LineLemmas.{first_len, one-more, tail-is, the-last}
use Rattle.reference_inlines.proofs.labels.lines.Goals as goal

pub loop-end-preserved : goal.loop-end-preserved
loop-end-preserved c =
    let grown : texts c.push.new.items.items ≡ texts c.loop-end.made.items ++ take
    (c.loop-end.end - c.loop-end.start) (drop c.loop-end.start c.args.text.now) ∷ [] =
    ap texts c.in_ok-push.ensures ∙ map_push (λ line. line.now) c.loop-end.made.items _ in (
      rw grown
          (one-more c.args.text.now c.loop-end.start c.loop-end.end (texts c.loop-end.made.items) c.loop-end.invariant.0
          c.loop-end.invariant.1 c.loop-end.invariant.2 (omega (arith, c.loop-end-test.true))),
      ap (λ n. (c.loop-end.end + 1) + n)
          (c.line_len.ensures.value ∙ ap first_len (tail-is (c.loop-end.end + 1) c.args.text.now)),
      omega (arith, c.loop-end-test.true),
    )

pub returns : goal.returns
returns c =
    ap texts c.in_ok-push-2.ensures ∙ map_push (λ line. line.now) c.loop-end.made.items _
    ∙ ap (λ l. texts c.loop-end.made.items ++ l ∷ []) (tail-is c.loop-end.start c.args.text.now)
    ∙ the-last c.args.text.now c.loop-end.start c.loop-end.end (texts c.loop-end.made.items) c.loop-end.invariant.0
    c.loop-end.invariant.1 c.loop-end.invariant.2 (omega (arith, c.loop-end-test.false))
