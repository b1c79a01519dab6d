use Rattle.soundness_laws.proofs.Entering.{arrive_none, arrive_named, arrive_entered}
use Rattle.reaching.proofs.arrive.Goals as goal

pub returns-then-x-eq0 : goal.returns-then-x-eq0
returns-then-x-eq0 c = search arrive_none

pub returns-then-met-count : goal.returns-then-met-count
returns-then-met-count c = search arrive_named

pub returns : goal.returns
returns c = search arrive_entered
