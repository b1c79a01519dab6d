use Rattle.passing.proofs.WalkRead.{walk_read}
use Rattle.passing.proofs.walks.walk_in.Goals as goal

pub returns : goal.returns
returns c = search walk_read
