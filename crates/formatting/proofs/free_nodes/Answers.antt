use Rattle.formatting.proofs.Listed.{free_start, free_inside, free_more, free_end}
use Rattle.formatting.proofs.free_nodes.Goals as goal

pub loop-i-init : goal.loop-i-init
loop-i-init c = search free_start

pub push_free-requires : goal.push_free-requires
push_free-requires c = search free_inside

pub loop-i-preserved : goal.loop-i-preserved
loop-i-preserved c = search free_more

pub returns : goal.returns
returns c = search free_end
