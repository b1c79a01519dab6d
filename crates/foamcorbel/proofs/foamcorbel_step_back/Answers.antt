use Rattle.foamcorbel.proofs.Steps.{step_gives}
use Rattle.foamcorbel.proofs.foamcorbel_step_back.Goals as goal

pub returns : goal.returns
returns c = search step_gives
