use Rattle.passing.proofs.DifferencesPassed.{differences_read}
use Rattle.passing.proofs.differences.differences_in.Goals as goal

pub returns : goal.returns
returns c = search differences_read
