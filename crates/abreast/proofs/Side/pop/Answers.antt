use Rattle.abreast.proofs.Tops.{popped}
use Rattle.abreast.proofs.Side.pop.Goals as goal

pub returns : goal.returns
returns c = search popped
