use Rattle.std.proofs.Common.{rules}
use Rattle.md_flow.proofs.document.kept_containers.Goals as goal

pub returns-then-takes_lazy-2 : goal.returns-then-takes_lazy-2
returns-then-takes_lazy-2 c = search rules
