use Rattle.passing.proofs.WalkRead.{last_none, last_given}
use Rattle.passing.proofs.walks.last_in.Goals as goal

pub returns-then-given-eq0 : goal.returns-then-given-eq0
returns-then-given-eq0 c = last_none _ _ c.if-given-eq0.true

pub returns-else-given-eq0 : goal.returns-else-given-eq0
returns-else-given-eq0 c = last_given _ _ c.if-given-eq0.false
