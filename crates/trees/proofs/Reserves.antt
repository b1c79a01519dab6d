-- "That these suffice is to be proved": a call makes no more nodes than its reserve.
use Prim.Native.Nat.{ℕ, ◌-◌, ◌^◌, ◌<◌, ◌≤◌}
use mathlib.Core.Path.{◌≡◌}
use mathlib.Core.Bool.{Bool, true, false}
use native.Mathlib.Omega.{arith}
use Rattle.std.specs.Prelude.{if◌then◌else◌}
use Rattle.heights.specs.Height.{insert_reserve, remove_reserve}
use Rattle.trees.specs.Tree.{Entry, Tree, size, made}
use Rattle.trees.specs.Shape.{Fine}
use Rattle.trees.specs.Lookup.{has}
use Rattle.trees.specs.Insert.{insert}
use Rattle.trees.specs.Remove.{remove}
use Rattle.trees.proofs.Lookups.{path_height}
use Rattle.trees.proofs.Low.{height-H}
use Rattle.trees.proofs.InsertMade.{made-insert}
use Rattle.trees.proofs.RemoveMade.{made-remove}

at_most_one : (b : Bool) → (if b then 0 else 1) ≤ 1
at_most_one true = omega arith
at_most_one false = omega arith

-- Of a version of the arena: its nodes are all kept.
module _ (t : Tree) (g : Fine t) (z : made t ≡ 0) (h : size t < 2 ^ 32 - 1) where
  pub reserve_insert : (x : Entry) → made (insert x t) ≤ insert_reserve (size t)
  reserve_insert x =
      omega (arith, made-insert x t g.shape z, path_height x.key t, height-H t g h, at_most_one (has x.key t))

  pub reserve_remove : (k : ℕ) → has k t ≡ true → made (remove k t) ≤ remove_reserve (size t)
  reserve_remove k i = omega (arith, made-remove k t i z, height-H t g h)
