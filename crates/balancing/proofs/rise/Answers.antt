use Rattle.balancing.proofs.Balancing.{risen_three}
use Rattle.balancing.proofs.rise.Goals as goal

pub returns : goal.returns
returns c = search risen_three
