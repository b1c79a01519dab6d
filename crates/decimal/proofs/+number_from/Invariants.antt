use lib.ListN.{length}
use Prim.Native.Nat.{◌-◌}
use Rattle.decimal.proofs.+number_from.Given as goal

abbrev pub decreases-number_from : goal.decreases-number_from
decreases-number_from l = length l.line.now - l.at
