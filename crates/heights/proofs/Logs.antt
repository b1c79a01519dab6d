-- The logarithm: `lg` is the rounded-down one, and so is what the count of leading zeros gives.
use Prim.Native.Nat.{ℕ, zero, suc, ◌+◌, ◌-◌, ◌*◌, ◌^◌, ◌≤◌, ◌<◌}
use mathlib.Core.Path.{◌≡◌, refl, ap, ◌∙◌}
use native.Mathlib.Omega.{arith}
use native.Mathlib.Nat.{le_antisymm}
use native.Mathlib.Decide.{dec_le}
use lib.Count.{count_leading_zeros, leading_top}
use lib.Dec.{leb}
use lib.Pow.{pow_mono}
use borrow.Author.Tests.{leb-true, leb-false}
use mir.Syntax.{w32}
use mir.Val.{Fits}
use Rattle.heights.specs.Height.{IsLog, lg_up_to, lg, H}
use Rattle.heights.proofs.Choices.{fork}

-- A number has one rounded-down logarithm.
log_le : {n d e : ℕ} → IsLog n d → IsLog n e → d ≤ e
log_le {n} {d} {e} a b = go (dec_le d e)
  where
    go : Dec (d ≤ e) → d ≤ e
    go (yes l) = l
    go (no l) = let m : suc e ≤ d = omega arith in absurd (omega (arith, pow_mono m, a.low, b.high))

pub log_unique : {n d e : ℕ} → IsLog n d → IsLog n e → d ≡ e
log_unique a b = le_antisymm (log_le a b) (log_le b a)

up_to_log : (e n : ℕ) → 0 < n → n < 2 ^ suc e → IsLog n (lg_up_to e n)
unfolding lg_up_to
up_to_log zero n p h = record { low = omega arith; high = h }
up_to_log (suc e) n p h =
    fork
    (IsLog n)
    (leb (2 ^ suc e) n)
    (λ t. record { low = leb-true (2 ^ suc e) n t; high = h })
    (λ t. up_to_log e n p (leb-false (2 ^ suc e) n t))

-- `lg` is the rounded-down logarithm of every number that 32 bits hold, but 0.
pub lg_log : (n : ℕ) → 0 < n → n < 2 ^ 32 → IsLog n (lg n)
unfolding lg
lg_log n p h = up_to_log 31 n p h

-- H(n) is twice a number whose next power of two is above n + 1.
pub H-log : (n : ℕ) → n < 2 ^ 32 - 1 → (e : ℕ) × (H n ≡ 2 * e) × (n + 1 < 2 ^ suc e)
unfolding H
H-log zero h = (0, refl, omega arith)
H-log (suc n) h = (lg (suc n + 1), refl, (lg_log (suc n + 1) (omega arith) (omega arith)).high)

-- A size below a power of two has a height below twice its exponent.
pub H-below : (n e : ℕ) → n < 2 ^ 32 - 1 → n + 1 < 2 ^ suc e → H n ≤ 2 * e
unfolding H
H-below zero e h l = omega arith
H-below (suc n) e h l = go (dec_le (lg (suc n + 1)) e)
  where
    go : Dec (lg (suc n + 1) ≤ e) → 2 * lg (suc n + 1) ≤ 2 * e
    go (yes b) = omega arith
    go (no b) =
        let m : suc e ≤ lg (suc n + 1) = omega arith in
        absurd (omega (arith, pow_mono m, (lg_log (suc n + 1) (omega arith) (omega arith)).low))

-- What the two functions of src/ are held to.

pub few_zeros : {n : ℕ} → 0 < n → Fits w32 n → count_leading_zeros 32 n ≤ 31
few_zeros {n} p f = let e = (leading_top 32 n p f.fits).1 in omega arith

pub zeros_lg : {n : ℕ} → 0 < n → Fits w32 n → 31 - count_leading_zeros 32 n ≡ lg n
zeros_lg {n} p f =
    let t = leading_top 32 n p f.fits in
    let e : 31 - count_leading_zeros 32 n ≡ t.0 = (let q = t.1 in omega arith) in
    e ∙ log_unique (record { low = t.2; high = t.3 }) (lg_log n p f.fits)

up_to_le : (e n : ℕ) → lg_up_to e n ≤ e
unfolding lg_up_to
up_to_le zero n = omega arith
up_to_le (suc e) n = fork (λ (d : ℕ). d ≤ suc e) (leb (2 ^ suc e) n) (λ _. omega arith) (λ _. omega (arith, up_to_le e n))

pub lg_small : (n r : ℕ) → r ≡ lg n → r ≤ 31
unfolding lg
lg_small n r e = rw e (up_to_le 31 n)

pub height_none : (n : ℕ) → n ≤ 0 → 0 ≡ H n
unfolding H
height_none zero h = refl
height_none (suc n) h = absurd (omega arith)

pub height_some : (n r : ℕ) → 0 < n → r ≡ lg (n + 1) → 2 * r ≡ H n
unfolding H
height_some zero r p e = absurd (omega arith)
height_some (suc n) r p e = ap (λ (d : ℕ). 2 * d) e
