use borrow.Author.Rules.{rules}
use Rattle.plan.specs.Scratch.{plan_entry, plan_left, plan_right, plan_color}
use Rattle.plan.proofs.planned.Goals as goal

pub returns : goal.returns
unfolding plan_entry plan_left plan_right plan_color
returns c = search rules
