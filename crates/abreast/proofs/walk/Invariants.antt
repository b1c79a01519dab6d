use lib.ListN.{length}
use Rattle.abreast.specs.Sides.{ahead}
use Rattle.abreast.proofs.Parting.{Passes}
use Rattle.abreast.proofs.walk.Given as goal

abbrev pub invariant-loop-heads : goal.invariant-loop-heads
invariant-loop-heads l = Passes (ahead l.ws l.initial.one) (ahead l.ws l.initial.other) l.ws l.one l.other

abbrev pub decreases-loop-heads : goal.decreases-loop-heads
decreases-loop-heads l = length (ahead l.ws l.one)
