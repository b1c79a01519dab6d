use Rattle.lookup.proofs.Leading.{Leads}
use Rattle.ranges.specs.Ranges.{range_of}
use Rattle.ranges.specs.Digging.{dug}
use Rattle.ranges.proofs.dig_towards.Given as goal

abbrev pub invariant-loop-at : goal.invariant-loop-at
invariant-loop-at l = Leads (dug l.end (range_of l.w)) l.ws l.i l.at l.h l.noted

abbrev pub decreases-loop-at : goal.decreases-loop-at
decreases-loop-at l = l.h
