use Rattle.soundness_laws.proofs.Looping.{roots_to_more}
use Rattle.reaching.proofs.arrive_roots.Goals as goal

pub loop-s-preserved : goal.loop-s-preserved
loop-s-preserved c = search (roots_to_more, c.in_ok-tail.ensures)
