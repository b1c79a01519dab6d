-- Removal makes at most six nodes for each level of the tree, and two more.
use Prim.Native.Nat.{ℕ, suc, ◌+◌, ◌*◌, ◌≤◌}
use mathlib.Core.Path.{◌≡◌}
use mathlib.Core.Bool.{true}
use native.Mathlib.Omega.{arith}
use Rattle.trees.specs.Tree.{Entry, Color, red, black, fresh, Tree, leaf, node, paint, copy, height, made}
use Rattle.trees.specs.Lookup.{has}
use Rattle.trees.specs.Remove.{del, remove}
use Rattle.trees.proofs.InsertCases.{Balance}
use Rattle.trees.proofs.RemoveCases.{RemoveBalance, Left, Right, Fuse, Del, deleted}

made-paint : (c : Color) (t : Tree) → made (paint c t) ≤ suc (made t)
made-paint c leaf = omega arith
made-paint c (node p d l e r) = omega arith

made-copy : (t : Tree) → made (copy t) ≤ suc (made t)
made-copy leaf = omega arith
made-copy (node p d l e r) = omega arith

made-Balance : {c : Color} {l r u : Tree} {e : Entry} → Balance (node fresh c l e r) u → made u ≤ made l + made r + 3
made-Balance Balance.ll = omega arith
made-Balance (Balance.lr h) = omega arith
made-Balance (Balance.rl h) = omega arith
made-Balance (Balance.rr h i) = omega arith
made-Balance (Balance.calm h) = omega arith

made-RemoveBalance : {c : Color} {l r u : Tree} {e : Entry} → RemoveBalance (node fresh c l e r) u → made u ≤ made l + made r + 3
made-RemoveBalance RemoveBalance.both = omega arith
made-RemoveBalance (RemoveBalance.plain g) = made-Balance g

made-Left : {l r u : Tree} {e : Entry} → Left l e r u → made u ≤ made l + made r + 6
made-Left Left.red_left = omega arith
made-Left (Left.black_right h g) = omega (arith, made-RemoveBalance g)
made-Left (Left.red_right {d = d} h g) = omega (arith, made-RemoveBalance g, made-paint red d)
made-Left (Left.stuck h i) = omega arith

made-Right : {l r u : Tree} {e : Entry} → Right l e r u → made u ≤ made l + made r + 6
made-Right Right.red_right = omega arith
made-Right (Right.black_left h g) = omega (arith, made-RemoveBalance g)
made-Right (Right.red_left {d = d} h g) = omega (arith, made-RemoveBalance g, made-paint red d)
made-Right (Right.stuck h i) = omega arith

-- Beside a black node made by this call it is less.
made-Left_black : {l a b u : Tree} {e x : Entry} → Left l e (node fresh black a x b) u → made u ≤ made l + made a + made b + 4
made-Left_black Left.red_left = omega arith
made-Left_black (Left.black_right h g) = omega (arith, made-RemoveBalance g)
made-Left_black (Left.stuck h i) = omega arith

made-Fuse : {l r u : Tree} → Fuse l r u → made u ≤ made l + made r + 2 * (height l + height r) + 1
made-Fuse (Fuse.no_left {r = r}) = omega (arith, made-copy r)
made-Fuse Fuse.no_right = omega arith
made-Fuse (Fuse.black_red g) = omega (arith, made-Fuse g)
made-Fuse (Fuse.red_black g) = omega (arith, made-Fuse g)
made-Fuse (Fuse.middle g) = omega (arith, made-Fuse g)
made-Fuse (Fuse.red_red h g) = omega (arith, made-Fuse g)
made-Fuse (Fuse.black_black h g s) = omega (arith, made-Fuse g, made-Left_black s)

made-Del : {k : ℕ} {t u : Tree} → Del k t u → made u ≤ made t + 6 * height t + 1
made-Del Del.none = omega arith
made-Del (Del.here h g) = omega (arith, made-Fuse g)
made-Del (Del.left h b g) = omega (arith, made-Del g)
made-Del (Del.left_black h g s) = omega (arith, made-Del g, made-Left s)
made-Del (Del.right h b g) = omega (arith, made-Del g)
made-Del (Del.right_black h g s) = omega (arith, made-Del g, made-Right s)

pub made-remove : (k : ℕ) (t : Tree) → has k t ≡ true → made t ≡ 0 → made (remove k t) ≤ 6 * height t + 2
unfolding remove
made-remove k t h z = rw h (omega (arith, made-paint black (del k t), made-Del (deleted k t)))
