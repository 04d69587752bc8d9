use Rattle.std.proofs.Common.{◌≡◌, ◌++◌, length, reverse}
use Rattle.markdown_inlines.specs.Tokens.{ends, still_open}
use Rattle.markdown_inlines.proofs.tokens.push_ends.Given as goal

abbrev pub invariant-loop-part : goal.invariant-loop-part
invariant-loop-part l = record {
  tokens :
      l.tokens.items ++ ends (reverse l.parts.items) l.from l.to ≡
      l.initial.tokens.items ++ ends (reverse l.initial.parts.items) l.at l.to;
  open_parts : still_open (reverse l.parts.items) l.to ≡ still_open (reverse l.initial.parts.items) l.to;
}

abbrev pub decreases-loop-part : goal.decreases-loop-part
decreases-loop-part l = length l.parts.items
