use Rattle.std.proofs.Common.{◌≡◌, ◌++◌, ◌∙◌, List, ℕ, ap, append_assoc, codes, map, string_bytes}
use Rattle.md_program.specs.Printed.{line_end, printed_end, printed_labels}
use Rattle.md_program.proofs.Texts.{on_ok-map}
use Rattle.md_program.proofs.print.push_end.Goals as goal

-- one piece after the other
all-put : (old first second third : List ℕ) (definitions footnotes : List (List ℕ)) → first ≡ old ++ line_end →
    second ≡ first ++ printed_labels (codes "definitions ") definitions →
    third ≡ second ++ printed_labels (codes "footnotes ") footnotes → third ≡ old ++ printed_end definitions footnotes
unfolding printed_end
all-put old first second third definitions footnotes end before last =
    let a : List ℕ = printed_labels (codes "definitions ") definitions in
    let b : List ℕ = printed_labels (codes "footnotes ") footnotes in
    last
    ∙ ap (λ (l : List ℕ). l ++ b) (before ∙ ap (λ (l : List ℕ). l ++ a) end ∙ append_assoc old line_end a)
    ∙ append_assoc old (line_end ++ a) b
    ∙ ap (λ (l : List ℕ). old ++ l) (append_assoc line_end a b)

pub returns : goal.returns
returns g c =
    on_ok-map c.push_labels-2.result
    (all-put (g.W.Output.bytes c.args.text.now) (g.W.Output.bytes c.put.new.self)
    (g.W.Output.bytes c.push_labels.new.text) (g.W.Output.bytes c.push_labels-2.new.text)
    (map string_bytes c.args.definitions.now) (map string_bytes c.args.footnotes.now) c.in_ok-put.ensures
    c.in_ok-push_labels.ensures)
    c.push_labels-2.ensures
