use Rattle.plan.proofs.Looking.{look_none, plan_inside, look_arena, look_plan}
use Rattle.plan.proofs.look.Goals as goal

pub returns-then-link-eq0 : goal.returns-then-link-eq0
returns-then-link-eq0 c = search look_none

pub planned-requires : goal.planned-requires
planned-requires c = search plan_inside

pub returns-then-link-n : goal.returns-then-link-n
returns-then-link-n c = search look_arena

pub returns-else-link-n : goal.returns-else-link-n
returns-else-link-n c = search look_plan
