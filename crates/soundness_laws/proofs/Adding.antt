-- Sums and lists: sums that bound one another, one element more at the end of a list.
use mathlib.Core.Path.{◌≡◌, refl, ap, sym}
use mathlib.Core.List.{List, [], ◌∷◌, ◌++◌, map}
use Prim.Native.Nat.{ℕ, zero, suc, ◌+◌, ◌≤◌, ◌<◌}
use native.Mathlib.Omega.{arith}
use native.Mathlib.Numerals.{add-one}
use native.Mathlib.Decide.{dec_lt}
use Rattle.words.specs.Counting.{same, occ, sum}
use Rattle.words.specs.Owned.{when}
use Rattle.words.proofs.Counts.{same_eq, same_ne, occ_append, sum_change, sum_none}
use Rattle.words.proofs.OwnedLaws.{when_pos, when_zero}

pub occ-last : (y : ℕ) (Q : List ℕ) (x : ℕ) → occ y (Q ++ (x ∷ [])) ≡ occ y Q + same x y
unfolding occ
occ-last y Q x = omega (arith, occ_append y Q (x ∷ []))

pub occ_map_last : (f : ℕ → ℕ) (y : ℕ) (P : List ℕ) (i : ℕ) → occ y (map f (P ++ (i ∷ []))) ≡ occ y (map f P) + same (f i) y
unfolding occ
occ_map_last f y [] i = omega arith
occ_map_last f y (p ∷ P) i = omega (arith, occ_map_last f y P i)

pub sum_below : (f g : ℕ → ℕ) (a n : ℕ) → ((j : ℕ) → a ≤ j → j < a + n → f j ≤ g j) → sum f a n ≤ sum g a n
unfolding sum
sum_below f g a zero h = omega arith
sum_below f g a (suc n) h =
    let x = h a (omega arith) (omega arith) in
    let r = sum_below f g (suc a) n (λ j p q. h j (omega arith) (omega arith)) in
    omega arith

-- A sum that is less has a term that is less.
pub sum_less : (f g : ℕ → ℕ) (a n : ℕ) → sum f a n < sum g a n → (j : ℕ) × (a ≤ j) × (j < a + n) × (f j < g j)
unfolding sum
sum_less f g a zero h = absurd (omega arith)
sum_less f g a (suc n) h = go (dec_lt (f a) (g a)) (sum_less f g (suc a) n)
  where
    go : Dec (f a < g a) → (sum f (suc a) n < sum g (suc a) n → (j : ℕ) × (suc a ≤ j) × (j < suc a + n) × (f j < g j)) →
        (j : ℕ) × (a ≤ j) × (j < a + suc n) × (f j < g j)
    go (yes p) ih = (a, omega arith, omega arith, p)
    go (no p) ih = let r = ih (omega arith) in (r.0, omega arith, omega arith, r.3)

-- The first terms of a sum are no more than all.
pub sum_front : (f : ℕ → ℕ) (a m n : ℕ) → m ≤ n → sum f a m ≤ sum f a n
unfolding sum
sum_front f a zero n h = omega arith
sum_front f a (suc m) zero h = absurd (omega arith)
sum_front f a (suc m) (suc n) h = omega (arith, sum_front f (suc a) m n (omega arith))

-- Two sums that make 1 at each number make n together; where they make 1 at most, and n together,
-- they make 1 at each.
pub sum_ones : (f g : ℕ → ℕ) (a n : ℕ) → ((j : ℕ) → a ≤ j → j < a + n → f j + g j ≡ 1) → sum f a n + sum g a n ≡ n
unfolding sum
sum_ones f g a zero h = omega arith
sum_ones f g a (suc n) h = omega (arith, h a (omega arith) (omega arith), sum_ones f g (suc a) n (λ j p q. h j (omega arith) (omega arith)))

sum_few : (f g : ℕ → ℕ) (a n : ℕ) → ((j : ℕ) → a ≤ j → j < a + n → f j + g j ≤ 1) → sum f a n + sum g a n ≤ n
unfolding sum
sum_few f g a zero h = omega arith
sum_few f g a (suc n) h = omega (arith, h a (omega arith) (omega arith), sum_few f g (suc a) n (λ j p q. h j (omega arith) (omega arith)))

pub sum_each : (f g : ℕ → ℕ) (a n : ℕ) → ((j : ℕ) → a ≤ j → j < a + n → f j + g j ≤ 1) → sum f a n + sum g a n ≡ n → (j : ℕ) → a ≤ j →
    j < a + n → f j + g j ≡ 1
unfolding sum
sum_each f g a zero h e j p q = absurd (omega arith)
sum_each f g a (suc n) h e j p q =
    let x = h a (omega arith) (omega arith) in
    let b = sum_few f g (suc a) n (λ j p q. h j (omega arith) (omega arith)) in
    go (dec_lt a j) (omega arith) (λ l. sum_each f g (suc a) n (λ j p q. h j (omega arith) (omega arith)) (omega arith) j l (omega arith))
  where
    go : Dec (a < j) → f a + g a ≡ 1 → (a < j → f j + g j ≡ 1) → f j + g j ≡ 1
    go (yes l) z ih = ih l
    go (no l) z ih = let e : a ≡ j = omega arith in omega (arith, ap f e, ap g e)

-- One term more.
sum-last : (f : ℕ → ℕ) (a m i : ℕ) → i ≡ a + m → sum f a (suc m) ≡ sum f a m + f i
unfolding sum
sum-last f a zero i e = omega (arith, ap f (let z : i ≡ a = omega arith in z))
sum-last f a (suc m) i e = let r = sum-last f (suc a) m i (omega arith) in omega arith

pub sum_more : (f : ℕ → ℕ) (a m i : ℕ) → i ≡ a + m → sum f a (m + 1) ≡ sum f a m + f i
sum_more f a m i e = rw add-one (sum-last f a m i e)

-- The names of x by two links of the numbers xs, as a sum over all numbers.
unfoldable pub by_list : (ℕ → ℕ) → (ℕ → ℕ) → ℕ → List ℕ → ℕ → ℕ
by_list f g x xs j = when (occ j xs) (same (f j) x + same (g j) x)

pub list_sum : (f g : ℕ → ℕ) (x n : ℕ) (xs : List ℕ) → ((y : ℕ) → 1 ≤ occ y xs → (1 ≤ y) × (y ≤ n)) → ((y : ℕ) → occ y xs ≤ 1) →
    occ x (map f xs) + occ x (map g xs) ≡ sum (by_list f g x xs) 1 n
unfolding occ by_list
list_sum f g x n [] m o = sym (sum_none (by_list f g x []) 1 n (λ j p q. when_zero 0 (same (f j) x + same (g j) x) refl))
list_sum f g x n (y ∷ ys) m o =
    let e = same_eq y y refl in
    let b = m y (omega arith) in
    let z : occ y ys ≡ 0 = omega (arith, o y) in
    let w0 = when_zero (occ y ys) (same (f y) x + same (g y) x) z in
    let w1 = when_pos (same y y + occ y ys) (same (f y) x + same (g y) x) (omega arith) in
    let c = sum_change (by_list f g x (y ∷ ys)) (by_list f g x ys) 1 n y b.0 (omega arith)
    (λ j p q d. ap (λ (k : ℕ). when k (same (f j) x + same (g j) x)) (omega (arith, same_ne y j (λ u. d (sym u))))) in
    let r = list_sum f g x n ys (λ j h. m j (omega arith)) (λ j. omega (arith, o j)) in
    omega arith
