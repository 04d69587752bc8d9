use Rattle.std.proofs.Common.{◌≡◌, List, ℕ, [], ap, subst, sym, ◌∙◌}
use Rattle.std.proofs.lemmas.Result.{IfOk-weaker}
use Rattle.md_events.specs.Lined.{EachLine, lined}
use Rattle.md_events.specs.Parts.{ArePlaced}
use Rattle.md_events.specs.Substituted.{Substituted}
use Rattle.md_events.proofs.LinedLemmas.{lined-each, lined-placed, lined-substituted}
use Rattle.md_events.proofs.subtokenize.subtokenize.Goals as goal

pub read_lines-requires : goal.read_lines-requires
read_lines-requires g c =
    let reader = c.args.reader.now in
    subst (λ (bytes : List ℕ). EachLine (g.R.Reader.wants reader) bytes c.args.events.items)
    (sym c.in-Some.ensures.text)
    (lined-each (g.R.Reader.wants reader) (g.R.Reader.text reader) (g.R.Reader.may_read reader)
    (g.R.Reader.reads_as reader)
    c.args.events.items c.in-Some.ensures.lines c.requires.asked)

pub returns-in-Some-clause-placed : goal.returns-in-Some-clause-placed
returns-in-Some-clause-placed g c =
    let reader = c.args.reader.now in
    let wants = g.R.Reader.wants reader in
    let text : List ℕ = g.R.Reader.text reader in
    let each : EachLine wants text c.args.events.items =
    lined-each wants text (g.R.Reader.may_read reader) (g.R.Reader.reads_as reader) c.args.events.items
    c.in-Some.ensures.lines c.requires.asked in
    IfOk-weaker c.read_lines.result (λ all. all.items ≡ lined wants c.in-Some.bytes.now c.args.events.items)
    (λ all. ArePlaced text all.items)
    (λ all is. subst (ArePlaced text)
    (sym (is ∙ ap (λ (bytes : List ℕ). lined wants bytes c.args.events.items) c.in-Some.ensures.text))
    (lined-placed wants text c.args.events.items c.requires.placed each))
    c.read_lines.ensures

pub returns-in-Some-clause-substituted : goal.returns-in-Some-clause-substituted
returns-in-Some-clause-substituted g c =
    let reader = c.args.reader.now in
    let wants = g.R.Reader.wants reader in
    let text : List ℕ = g.R.Reader.text reader in
    let reads = g.R.Reader.reads_as reader in
    IfOk-weaker c.read_lines.result (λ all. all.items ≡ lined wants c.in-Some.bytes.now c.args.events.items)
    (λ all. Substituted wants reads [] 0 c.args.events.items all.items)
    (λ all is. subst (Substituted wants reads [] 0 c.args.events.items)
    (sym (is ∙ ap (λ (bytes : List ℕ). lined wants bytes c.args.events.items) c.in-Some.ensures.text))
    (lined-substituted wants text (g.R.Reader.may_read reader) reads c.args.events.items c.in-Some.ensures.lines
    c.requires.asked))
    c.read_lines.ensures
