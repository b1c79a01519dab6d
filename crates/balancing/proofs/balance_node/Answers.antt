use Rattle.balancing.proofs.Balancing.{red_stays}
use Rattle.balancing.proofs.balance_node.Goals as goal

pub returns-in-Red : goal.returns-in-Red
returns-in-Red c = search red_stays
