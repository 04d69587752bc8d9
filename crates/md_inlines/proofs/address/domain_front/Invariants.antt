use Rattle.std.proofs.Common.{◌≡◌, ◌≤◌, length}
use Rattle.md_inlines.specs.Literal.{after_domain_character}
use Rattle.md_inlines.specs.RawHtml.{repeated}
use Rattle.md_inlines.proofs.address.domain_front.Given as goal

abbrev pub invariant-loop-more : goal.invariant-loop-more
invariant-loop-more l = record {
  front : length l.rest ≤ length l.fn.text;
  same :
      repeated after_domain_character (length l.rest) l.rest ≡
      repeated after_domain_character (length l.fn.text) l.fn.text;
}

abbrev pub decreases-loop-more : goal.decreases-loop-more
decreases-loop-more l = length l.rest
