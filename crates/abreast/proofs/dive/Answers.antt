use Rattle.abreast.proofs.Diving.{reaches_on, meets}
use Rattle.abreast.proofs.dive.Goals as goal

pub loop-one-preserved : goal.loop-one-preserved
loop-one-preserved c = search reaches_on

pub returns : goal.returns
returns c = search meets
