use Rattle.heights.proofs.Logs.{zeros_lg}
use Rattle.heights.proofs.lg_floor.Goals as goal

pub returns : goal.returns
returns c = search zeros_lg
