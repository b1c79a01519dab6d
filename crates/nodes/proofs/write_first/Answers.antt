use Rattle.nodes.proofs.Raised.{written_is}
use Rattle.nodes.proofs.write_first.Goals as goal

pub returns : goal.returns
returns c = λ x h. written_is _ _ _ _ _ _ _ c.requires.first x h
