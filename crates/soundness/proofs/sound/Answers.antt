use Rattle.soundness.proofs.Verdicts.{verdict_some}
use Rattle.soundness.proofs.sound.Goals as goal

pub returns : goal.returns
returns c = verdict_some _ _ c.test.ensures _ c.is_some.ensures
