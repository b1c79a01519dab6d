-- The live nodes are told from the free ones: the ends of the test's first half.
use mathlib.Core.Path.{◌≡◌, ap}
use mathlib.Core.Bool.{Bool, true, false}
use mathlib.Core.List.{List}
use Prim.Native.Nat.{ℕ, ◌-◌, ◌≤◌}
use native.Mathlib.Omega.{arith}
use Rattle.std.specs.Prelude.{Some, None}
use Rattle.words.specs.Layout.{nodes}
use Rattle.soundness_laws.specs.Answer.{Decides}
use Rattle.soundness_laws.specs.Queue.{Reach, Onward}
use Rattle.soundness_laws.specs.Spare.{SpareList}
use Rattle.soundness_laws.specs.Whole.{Whole}
use Rattle.soundness_laws.proofs.Closing.{reach_short, reach_no, reach_whole}
use Rattle.soundness_laws.proofs.Saying.{going, stopping, gone_on}

-- The queue ends at `tail`, and n is the number of nodes as it was read.
module _ (ws names queue : List ℕ) (tail : ℕ) (a : Onward ws (Some tail) (Reach ws names queue)) (n : ℕ) (en : n ≡ nodes ws) where
  pub live_short : tail ≤ n
  live_short = omega (arith, reach_short ws names queue tail (gone_on a))

  module _ (b : Bool) (d : Decides b (SpareList ws (n - tail))) where
    rest : n - tail ≡ nodes ws - tail
    rest = ap (λ (m : ℕ). m - tail) en

    pub live_no : b ≡ false → Onward ws None (Whole ws queue)
    live_no e = stopping (reach_no ws names queue tail (gone_on a) (n - tail) rest b d e)

    pub live_all : b ≡ true → Onward ws (Some tail) (Whole ws queue)
    live_all e = going (reach_whole ws names queue tail (gone_on a) (n - tail) rest b d e)
