use Rattle.std.proofs.Common.{arith}
use Rattle.heights.proofs.Logs.{lg_small, height_none, height_some}
use Rattle.heights.proofs.conservative_height.Goals as goal

pub overflow_mul-result : goal.overflow_mul-result
overflow_mul-result c = omega (arith, lg_small _ _ c.lg_floor.ensures)

pub returns-then-size-gt0 : goal.returns-then-size-gt0
returns-then-size-gt0 c = search height_some

pub returns-else-size-gt0 : goal.returns-else-size-gt0
returns-else-size-gt0 c = search height_none
