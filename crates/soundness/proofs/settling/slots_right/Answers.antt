use Rattle.soundness_laws.proofs.Versions.{slots_more}
use Rattle.soundness.proofs.settling.slots_right.Goals as goal

-- The check finds this alone; by its law it refuses an edit of the loop at once.
pub loop-s-preserved : goal.loop-s-preserved
loop-s-preserved c = search slots_more
