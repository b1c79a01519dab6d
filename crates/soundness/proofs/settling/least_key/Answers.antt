use mathlib.Core.Path.{refl}
use native.Mathlib.Omega.{arith}
use Rattle.soundness_laws.proofs.Saying.{going}
use Rattle.soundness.proofs.settling.least_key.Goals as goal

-- The check finds this alone; by these parts it refuses an edit of the test at once.
pub returns : goal.returns
returns c = going (record { after = λ _. omega arith; end = record { none = λ e. absurd (omega arith); some = λ _. refl } })
