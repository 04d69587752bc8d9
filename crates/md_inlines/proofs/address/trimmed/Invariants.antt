use Rattle.std.proofs.Common.{◌≡◌, ◌≤◌, ◌==◌, length}
use Rattle.std.specs.Prelude.{count_by}
use Rattle.md_inlines.specs.Literal.{extra_len, trimmed}
use Rattle.md_inlines.proofs.address.trimmed.Given as goal

abbrev pub invariant-loop-len : goal.invariant-loop-len
invariant-loop-len l = record {
  front : length l.rest ≤ length l.fn.text;
  opens : l.opening ≡ count_by (λ b. b == 40) l.rest;
  closes : l.closing ≡ count_by (λ b. b == 41) l.rest;
  extra : l.len ≡ extra_len l.rest;
  within : l.len ≤ length l.rest;
  same : trimmed l.rest ≡ trimmed l.fn.text;
}

abbrev pub decreases-loop-len : goal.decreases-loop-len
decreases-loop-len l = length l.rest
