use Rattle.soundness_laws.proofs.Versions.{free_right, word_red, word_right}
use Rattle.soundness.proofs.settling.slot_right.Goals as goal

-- The check finds this alone; by its law it refuses an edit of the return at once.
pub returns-then-root : goal.returns-then-root
returns-then-root c = search free_right

pub returns-then-top-ne-RED : goal.returns-then-top-ne-RED
returns-then-top-ne-RED c = search word_right

pub returns-else-top-ne-RED : goal.returns-else-top-ne-RED
returns-else-top-ne-RED c = search word_red
