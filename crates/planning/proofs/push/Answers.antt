use Rattle.planning.proofs.Pushing.{pushed_steps}
use Rattle.planning.proofs.push.Goals as goal

pub returns : goal.returns
returns c = search pushed_steps
