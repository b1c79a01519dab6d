use native.Mathlib.Omega.{arith}
use Rattle.soundness_laws.proofs.Saying.{say_equal}
use Rattle.reaching.proofs.is_spare.Goals as goal

pub returns-then-i-nodes_of : goal.returns-then-i-nodes_of
returns-then-i-nodes_of c = say_equal (λ e. record { low = grind arith; high = grind arith; idle = omega arith }) (λ f u. f (omega (arith, u.idle)))
