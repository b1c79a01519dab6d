use Rattle.removal.proofs.Present.{removed}
use Rattle.removal.proofs.remove.Goals as goal

pub returns : goal.returns
returns c = search removed
