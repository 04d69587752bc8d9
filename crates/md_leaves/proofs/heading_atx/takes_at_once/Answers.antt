use Rattle.md_leaves.proofs.HeadingCalls.{data-takes, further-takes, open-takes}
use Rattle.md_leaves.proofs.heading_atx.takes_at_once.Goals as goal

pub returns-in-SequenceOpen : goal.returns-in-SequenceOpen
returns-in-SequenceOpen c = rw c.in-SequenceOpen.is open-takes

pub returns-in-SequenceFurther : goal.returns-in-SequenceFurther
returns-in-SequenceFurther c = rw c.in-SequenceFurther.is further-takes

pub returns-in-Data : goal.returns-in-Data
returns-in-Data c = rw c.in-Data.is data-takes
