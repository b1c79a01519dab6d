use Rattle.trees.specs.Lookup.{get}
use Rattle.std.specs.Prelude.{None}
use Rattle.lookup.proofs.Leading.{Leads}
use Rattle.lookup.proofs.get.Given as goal

abbrev pub invariant-loop-at : goal.invariant-loop-at
invariant-loop-at l = Leads (get l.key) l.ws l.i l.at l.h None

abbrev pub decreases-loop-at : goal.decreases-loop-at
decreases-loop-at l = l.h
