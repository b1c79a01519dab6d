-- Laws of `occ`, `sum` and `run`.
use mathlib.Core.Path.{◌≡◌, refl, ap, sym}
use mathlib.Core.Bool.{Bool, true, false}
use mathlib.Core.List.{List, [], ◌∷◌, ◌++◌, map}
use Prim.Native.Nat.{ℕ, zero, suc, ◌+◌, ◌*◌, ◌≤◌, ◌<◌}
use native.Mathlib.Omega.{arith}
use native.Mathlib.Decide.{dec_le, ℕ_discrete}
use lib.ListN.{length}
use lib.Dec.{eqb}
use borrow.Author.Tests.{eq-eqb, ne_eqb}
use Rattle.words.specs.Counting.{bit, same, occ, sum}

pub same_eq : (a b : ℕ) → a ≡ b → same a b ≡ 1
unfolding same bit
same_eq a b e = ap bit (eq-eqb a b e)

pub same_ne : (a b : ℕ) → (a ≡ b → ⊥) → same a b ≡ 0
unfolding same bit
same_ne a b f = ap bit (ne_eqb a b f)

pub same_le : (a b : ℕ) → same a b ≤ 1
unfolding same bit
same_le a b = go (eqb a b)
  where
    go : (t : Bool) → bit t ≤ 1
    go true = omega arith
    go false = omega arith

-- In a list.

pub occ-first : (i : ℕ) (R : List ℕ) → occ i (i ∷ R) ≡ suc (occ i R)
unfolding occ
occ-first i R = let e = same_eq i i refl in omega arith

pub occ-rest : (i x : ℕ) (R : List ℕ) → (x ≡ i → ⊥) → occ x (i ∷ R) ≡ occ x R
unfolding occ
occ-rest i x R f = let e = same_ne i x (λ e. f (sym e)) in omega arith

pub occ_more : (i x : ℕ) (R : List ℕ) → occ x R ≤ occ x (i ∷ R)
unfolding occ
occ_more i x R = omega arith

pub occ_le : (a : ℕ) (xs : List ℕ) → occ a xs ≤ length xs
unfolding occ
occ_le a [] = omega arith
occ_le a (x ∷ xs) = omega (arith, occ_le a xs, same_le x a)

pub occ_append : (x : ℕ) (xs ys : List ℕ) → occ x (xs ++ ys) ≡ occ x xs + occ x ys
unfolding occ
occ_append x [] ys = omega arith
occ_append x (y ∷ xs) ys = omega (arith, occ_append x xs ys)

pub occ_map : (f : ℕ → ℕ) (j : ℕ) (xs : List ℕ) → 1 ≤ occ j xs → 1 ≤ occ (f j) (map f xs)
unfolding occ
occ_map f j [] h = absurd (omega arith)
occ_map f j (x ∷ xs) h = go (ℕ_discrete x j) (occ_map f j xs)
  where
    go : Dec (x ≡ j) → (1 ≤ occ j xs → 1 ≤ occ (f j) (map f xs)) → 1 ≤ same (f x) (f j) + occ (f j) (map f xs)
    go (yes e) ih = omega (arith, same_eq (f x) (f j) (ap f e))
    go (no d) ih = let a = same_ne x j d in omega (arith, ih (omega arith))

-- Sums.

pub sum_same : (f g : ℕ → ℕ) (a n : ℕ) → ((j : ℕ) → a ≤ j → j < a + n → f j ≡ g j) → sum f a n ≡ sum g a n
unfolding sum
sum_same f g a zero h = refl
sum_same f g a (suc n) h =
    let e : f a ≡ g a = h a (omega arith) (omega arith) in
    let r : sum f (suc a) n ≡ sum g (suc a) n = sum_same f g (suc a) n (λ j p q. h j (omega arith) (omega arith)) in
    omega arith

-- Two functions that differ at i alone.
pub sum_change : (f g : ℕ → ℕ) (a n i : ℕ) → a ≤ i → i < a + n → ((j : ℕ) → a ≤ j → j < a + n → (j ≡ i → ⊥) → f j ≡ g j) →
    sum f a n + g i ≡ sum g a n + f i
unfolding sum
sum_change f g a zero i p q h = absurd (omega arith)
sum_change f g a (suc n) i p q h =
    go (ℕ_discrete a i) (λ l. sum_change f g (suc a) n i l (omega arith) (λ j p q. h j (omega arith) (omega arith)))
  where
    go : Dec (a ≡ i) → (a < i → sum f (suc a) n + g i ≡ sum g (suc a) n + f i) → (f a + sum f (suc a) n) + g i ≡ (g a + sum g (suc a) n) + f i
    go (yes e) ih =
        let r : sum f (suc a) n ≡ sum g (suc a) n = sum_same f g (suc a) n (λ j p q. h j (omega arith) (omega arith) (λ z. omega arith)) in
        let u : f a ≡ f i = ap f e in
        let v : g a ≡ g i = ap g e in
        omega arith
    go (no d) ih =
        let e : f a ≡ g a = h a (omega arith) (omega arith) d in
        let l : a < i = omega arith in
        let r = ih l in
        omega arith

pub sum_at : (f : ℕ → ℕ) (a n i : ℕ) → a ≤ i → i < a + n → f i ≤ sum f a n
unfolding sum
sum_at f a zero i p q = absurd (omega arith)
sum_at f a (suc n) i p q = go (ℕ_discrete a i) (λ l. sum_at f (suc a) n i l (omega arith))
  where
    go : Dec (a ≡ i) → (a < i → f i ≤ sum f (suc a) n) → f i ≤ f a + sum f (suc a) n
    go (yes e) ih = let u : f a ≡ f i = ap f e in omega arith
    go (no d) ih =
        let l : a < i = omega arith in
        let r = ih l in
        omega arith

-- Each term at most m.
pub sum_le : (m : ℕ) (f : ℕ → ℕ) (a n : ℕ) → ((j : ℕ) → f j ≤ m) → sum f a n ≤ n * m
unfolding sum
sum_le m f a zero h = omega arith
sum_le m f a (suc n) h = omega (arith, h a, sum_le m f (suc a) n h)

-- A sum above 0 has a term above 0.
pub sum_some : (f : ℕ → ℕ) (a n : ℕ) → 1 ≤ sum f a n → (j : ℕ) × (a ≤ j) × (j < a + n) × (1 ≤ f j)
unfolding sum
sum_some f a zero h = absurd (omega arith)
sum_some f a (suc n) h = go (dec_le 1 (f a)) (sum_some f (suc a) n)
  where
    go : Dec (1 ≤ f a) → (1 ≤ sum f (suc a) n → (j : ℕ) × (suc a ≤ j) × (j < suc a + n) × (1 ≤ f j)) →
        (j : ℕ) × (a ≤ j) × (j < a + suc n) × (1 ≤ f j)
    go (yes p) ih = (a, omega arith, omega arith, p)
    go (no p) ih = let r = ih (omega arith) in (r.0, omega arith, omega arith, r.3)

pub sum_none : (f : ℕ → ℕ) (a n : ℕ) → ((j : ℕ) → a ≤ j → j < a + n → f j ≡ 0) → sum f a n ≡ 0
unfolding sum
sum_none f a zero h = refl
sum_none f a (suc n) h =
    let e = h a (omega arith) (omega arith) in
    let r = sum_none f (suc a) n (λ j p q. h j (omega arith) (omega arith)) in
    omega arith

-- A list of numbers from a to a + n, counted number by number.
unfoldable pub times : List ℕ → ℕ → ℕ
times xs j = occ j xs

pub length_sum : (a n : ℕ) (xs : List ℕ) → ((x : ℕ) → 1 ≤ occ x xs → (a ≤ x) × (x < a + n)) → sum (times xs) a n ≡ length xs
unfolding occ times
length_sum a n [] m = sum_none (times []) a n (λ j p q. refl)
length_sum a n (x ∷ xs) m =
    let e = same_eq x x refl in
    let b = m x (omega arith) in
    let c = sum_change (times (x ∷ xs)) (times xs) a n x b.0 b.1 (λ j p q f. let s = same_ne x j (λ y. f (sym y)) in omega arith) in
    let r = length_sum a n xs (λ y h. m y (omega arith)) in
    omega arith

-- So a list without repeats is no longer than there are numbers.
pub few : (n : ℕ) (xs : List ℕ) → ((x : ℕ) → 1 ≤ occ x xs → (1 ≤ x) × (x ≤ n)) → ((x : ℕ) → occ x xs ≤ 1) → length xs ≤ n
unfolding times
few n xs m o =
    let e = length_sum 1 n xs (λ x h. let b = m x h in (b.0, omega arith)) in
    let l = sum_le 1 (times xs) 1 n o in
    omega arith
