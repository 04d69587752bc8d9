use Rattle.std.proofs.Common.{sym}
use Rattle.md_scan.proofs.DefinitionLemmas.{TextIn-whole, TextIn-closed, TextIn-broken, TextIn-open, TextIn-byte}
use Rattle.md_scan.proofs.definition.up_to_mark.Goals as goal

pub loop-first-init : goal.loop-first-init
loop-first-init c = TextIn-whole _ _ _

pub returns-then-is_bare : goal.returns-then-is_bare
returns-then-is_bare c =
    rw c.split_at.ensures.front
    (TextIn-closed c.loop-first.invariant c.in-Some.ensures.cases.0 (sym c.if-is_bare.ensures))

pub returns-then-is_bare-2 : goal.returns-then-is_bare-2
returns-then-is_bare-2 c =
    TextIn-broken c.loop-first.invariant c.in-Some.ensures.cases.0 (sym c.if-is_bare.ensures)
    (sym c.if-is_bare-2.ensures)

pub returns : goal.returns
returns c = TextIn-open c.loop-first.invariant c.in_default.ensures.cases

pub loop-first-preserved : goal.loop-first-preserved
loop-first-preserved c =
    rw c.is_bare-escaped.ensures
    (TextIn-byte c.loop-first.invariant c.in-Some.ensures.cases.0 (sym c.if-is_bare.ensures)
    (sym c.if-is_bare-2.ensures))
