use Rattle.abreast.proofs.Tops.{head_none, head_top}
use Rattle.abreast.proofs.Side.head.Goals as goal

pub returns-then-self-eq0 : goal.returns-then-self-eq0
returns-then-self-eq0 c = search head_none

pub returns : goal.returns
returns c = search head_top
