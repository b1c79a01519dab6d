use Rattle.abreast.proofs.Parting.{passes_end, both_topped, passes_more}
use Rattle.abreast.proofs.walk.Goals as goal

pub returns-then-not-alike : goal.returns-then-not-alike
returns-then-not-alike c = search passes_end

pub pop-requires : goal.pop-requires
pop-requires c = search both_topped

pub pop-requires-in-loop-heads : goal.pop-requires-in-loop-heads
pop-requires-in-loop-heads c = search both_topped

pub loop-heads-preserved : goal.loop-heads-preserved
loop-heads-preserved c = search passes_more
