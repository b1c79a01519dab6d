use Rattle.differing.proofs.Descents.{filling_start, filling_end}
use Rattle.differing.proofs.filling.fill.Goals as goal

pub loop-side-init : goal.loop-side-init
loop-side-init c = search filling_start

pub returns : goal.returns
returns c = search filling_end
