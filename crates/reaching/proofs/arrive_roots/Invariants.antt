use Rattle.soundness_laws.proofs.Looping.{RootsTo}
use Rattle.reaching.proofs.arrive_roots.Given as goal

abbrev pub invariant-loop-s : goal.invariant-loop-s
invariant-loop-s l = RootsTo l.ws l.initial.names l.initial.queue l.s-end l.s l.names l.queue l.tail
