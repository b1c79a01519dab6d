use Rattle.differing.proofs.Descents.{turn_inside, turn_right, turn_left}
use Rattle.differing.proofs.filling.turn.Goals as goal

pub node_at-d-requires : goal.node_at-d-requires
node_at-d-requires c = search turn_inside

pub returns-then-not-above : goal.returns-then-not-above
returns-then-not-above c = search turn_right

pub returns : goal.returns
returns c = search turn_left
