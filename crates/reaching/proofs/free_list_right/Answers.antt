use Rattle.soundness_laws.proofs.Sparing.{walk_no, walk_more, walk_end}
use Rattle.reaching.proofs.free_list_right.Goals as goal

pub returns-then-not-is_spare : goal.returns-then-not-is_spare
returns-then-not-is_spare c = search walk_no

pub loop-gone-preserved : goal.loop-gone-preserved
loop-gone-preserved c = search walk_more

-- The check finds this alone; by its law it refuses an edit of the end at once.
pub returns : goal.returns
returns c = search walk_end
