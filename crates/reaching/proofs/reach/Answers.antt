use Rattle.soundness_laws.proofs.Rooting.{roots_start}
use Rattle.soundness_laws.proofs.Looping.{heads_to_start, heads_to_more}
use Rattle.reaching.proofs.reach.Goals as goal

pub arrive_roots-requires : goal.arrive_roots-requires
arrive_roots-requires c = search roots_start

pub loop-front-init : goal.loop-front-init
loop-front-init c = search (heads_to_start, c.in_ok-tail.ensures)

pub loop-front-preserved : goal.loop-front-preserved
loop-front-preserved c = search (heads_to_more, c.in_ok-tail-2.ensures)
