use Prim.Native.Nat.{◌-◌}
use Rattle.words.specs.Layout.{nodes}
use Rattle.soundness_laws.proofs.Looping.{HeadsTo}
use Rattle.reaching.proofs.reach.Given as goal

abbrev pub invariant-loop-front : goal.invariant-loop-front
invariant-loop-front l = HeadsTo l.ws l.initial.names l.initial.queue l.front l.names l.queue l.tail

abbrev pub decreases-loop-front : goal.decreases-loop-front
decreases-loop-front l = nodes l.ws - l.front
