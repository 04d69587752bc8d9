use Rattle.std.proofs.Common.{◌-◌, length}
use Rattle.markdown_inlines.specs.Ends.{AreDomainless, AreEnds}
use Rattle.markdown_inlines.specs.Reads.{Reads}
use Rattle.markdown_inlines.proofs.brackets.read.Given as goal

abbrev pub invariant-loop-byte : goal.invariant-loop-byte
invariant-loop-byte l = record {
  reads : Reads l.fn.source l.reading;
  places : AreDomainless l.fn.source.text.now l.places;
  ends : AreEnds l.fn.source.text.now l.ends;
}

abbrev pub decreases-loop-byte : goal.decreases-loop-byte
decreases-loop-byte l = length l.fn.source.text.now - l.reading.at
