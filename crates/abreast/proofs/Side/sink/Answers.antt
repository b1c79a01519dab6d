use Rattle.abreast.proofs.Stacks.{node_inside, sinks_left}
use Rattle.abreast.proofs.Side.sink.Goals as goal

pub node_at-d-requires : goal.node_at-d-requires
node_at-d-requires c = search node_inside

pub returns-then-i-ne0 : goal.returns-then-i-ne0
returns-then-i-ne0 c = search sinks_left
