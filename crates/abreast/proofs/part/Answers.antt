use Rattle.abreast.proofs.Starting.{parts_below}
use Rattle.abreast.proofs.part.Goals as goal

pub returns : goal.returns
returns c = search parts_below
