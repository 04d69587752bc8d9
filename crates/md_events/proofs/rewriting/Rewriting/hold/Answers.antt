use Rattle.std.proofs.Common.{◌∙◌, ℕ, sym, ap, arith, drop}
use Rattle.std.proofs.lemmas.List.{drop-drop}
use Rattle.md_events.proofs.RewrittenLemmas.{held-more}
use Rattle.md_events.proofs.rewriting.Rewriting.hold.Goals as goal

pub returns-clause-left : goal.returns-clause-left
returns-clause-left c =
    sym
    (drop-drop 1 c.args.self.now.read c.args.self.now.events.items
    ∙ ap (λ (n : ℕ). drop n c.args.self.now.events.items) (omega arith))

pub returns-clause-held : goal.returns-clause-held
returns-clause-held c =
    held-more c.args.self.now.events.items c.args.self.now.done c.args.self.now.read c.args._event
    (omega arith) c.requires
