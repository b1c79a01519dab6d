use Rattle.insertion.proofs.Inserting.{root_black}
use Rattle.insertion.proofs.insert.Goals as goal

pub returns-clause-turns : goal.returns-clause-turns
returns-clause-turns c = search root_black
