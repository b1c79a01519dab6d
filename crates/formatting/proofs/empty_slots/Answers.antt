use Rattle.formatting.proofs.Emptied.{empty_start, empty_inside, empty_more, empty_end}
use Rattle.formatting.proofs.empty_slots.Goals as goal

pub loop-s-init : goal.loop-s-init
loop-s-init c = search empty_start

pub put_slot-requires : goal.put_slot-requires
put_slot-requires c = search empty_inside

pub loop-s-preserved : goal.loop-s-preserved
loop-s-preserved c = search empty_more

pub returns : goal.returns
returns c = search empty_end
