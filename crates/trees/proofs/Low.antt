-- Trees stay low: no version of n entries is taller than H(n).
use Prim.Native.Nat.{ℕ, suc, ◌+◌, ◌-◌, ◌*◌, ◌^◌, ◌<◌, ◌≤◌, max}
use mathlib.Core.Path.{◌≡◌}
use mathlib.Core.Bool.{false, true≢false}
use native.Mathlib.Omega.{arith}
use native.Mathlib.Decide.{dec_lt}
use lib.Pow.{pow_mono}
use Rattle.heights.specs.Height.{H}
use Rattle.heights.proofs.Logs.{H-log}
use Rattle.trees.specs.Tree.{Tree, size, height, is_red}
use Rattle.trees.specs.Shape.{Rb, rb_leaf, rb_red, rb_black, Fine}

-- n black levels hold at least 2^n - 1 entries, and at most as many red levels stand between them.
many : {n : ℕ} {t : Tree} → Rb n t → 2 ^ n ≤ suc (size t)
many rb_leaf = omega arith
many (rb_red h i a b) = omega (arith, many a)
many (rb_black a b) = omega (arith, many a, many b)

low : {n : ℕ} {t : Tree} → Rb n t → (height t ≤ suc (2 * n)) × (is_red t ≡ false → height t ≤ 2 * n)
low rb_leaf = (omega arith, λ _. omega arith)
low (rb_red h i a b) = (omega (arith, (low a).1 h, (low b).1 i), λ h. absurd (true≢false h))
low (rb_black {n = n} {l = l} {r = r} a b) =
    let h : suc (max (height l) (height r)) ≤ 2 * suc n = omega (arith, (low a).0, (low b).0) in
    (omega arith, λ _. h)

low_log : (t : Tree) → Fine t → (e : ℕ) → size t + 1 < 2 ^ suc e → height t ≤ 2 * e
low_log t g e h = go (dec_lt e g.blacks)
  where
    go : Dec (e < g.blacks) → height t ≤ 2 * e
    go (yes b) = absurd (omega (arith, pow_mono b, many g.shape))
    go (no b) = omega (arith, (low g.shape).1 g.root)

pub height-H : (t : Tree) → Fine t → size t < 2 ^ 32 - 1 → height t ≤ H (size t)
height-H t g h = let l = H-log (size t) h in omega (arith, l.1, low_log t g l.0 l.2)
