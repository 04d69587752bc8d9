use Rattle.std.proofs.Common.{◌≡◌, ◌+◌, ◌*◌, ◌/◌, ◌%◌, ◌++◌, ap, append_assoc, arith, codes, ◌∙◌}
use Rattle.std.specs.List.{repeat}
use Rattle.md_program.proofs.Texts.{on_ok-map, repeat_four}
use Rattle.md_program.proofs.print.push_indent.Goals as goal

pub returns : goal.returns
returns g c =
    on_ok-map c.push_few-2.result
    (λ rest.
    let all : 4 * (c.args.depth / 4) + c.args.depth % 4 ≡ c.args.depth = omega arith in
    rest
    ∙ ap (λ l. l ++ repeat (c.args.depth % 4) (codes "  ")) c.in_ok-push_repeated.ensures
    ∙ append_assoc (g.W.Output.bytes c.args.text.now) (repeat (c.args.depth / 4) (codes "        "))
    (repeat (c.args.depth % 4) (codes "  "))
    ∙ ap (λ l. g.W.Output.bytes c.args.text.now ++ l) (repeat_four (c.args.depth / 4) (c.args.depth % 4))
    ∙ ap (λ n. g.W.Output.bytes c.args.text.now ++ repeat n (codes "  ")) all)
    c.push_few-2.ensures
