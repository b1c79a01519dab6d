use Rattle.ranges.proofs.Limits.{step_yes, step_no}
use Rattle.ranges.proofs.step.Goals as goal

pub returns-then-admits : goal.returns-then-admits
returns-then-admits c = step_yes _ _ c.dig_towards.ensures c.in_ok-e.was c.opposite.ensures c.admits.ensures c.if-admits.true

pub returns-else-admits : goal.returns-else-admits
returns-else-admits c = step_no _ _ c.dig_towards.ensures c.in_ok-e.was c.opposite.ensures c.admits.ensures c.if-admits.false
