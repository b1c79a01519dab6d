use Rattle.foamcorbel.proofs.Steps.{difference_gives}
use Rattle.foamcorbel.proofs.foamcorbel_step_difference.Goals as goal

pub returns : goal.returns
returns c = search difference_gives
