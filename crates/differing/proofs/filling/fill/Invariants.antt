use lib.ListN.{length}
use Rattle.words.specs.Layout.{max_height}
use Rattle.ranges.specs.Ranges.{last_of}
use Rattle.abreast.specs.Sides.{listed}
use Rattle.differing.proofs.Descents.{Filling}
use Rattle.differing.proofs.filling.fill.Given as goal

abbrev pub invariant-loop-side : goal.invariant-loop-side
invariant-loop-side l = Filling l.ws (last_of l.last) l.initial.side.link l.side

abbrev pub decreases-loop-side : goal.decreases-loop-side
decreases-loop-side l = length (listed max_height l.ws l.side.link)
