use Rattle.lookup.proofs.Chosen.{side_left, side_right}
use Rattle.lookup.proofs.side.Goals as goal

pub returns-then-key-e : goal.returns-then-key-e
returns-then-key-e c = search side_left

pub returns : goal.returns
returns c = search side_right
