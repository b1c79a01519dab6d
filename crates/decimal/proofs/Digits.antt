-- Laws of the decimal text: its last digit taken off, one put on, and how long it is.
use Prim.Native.Nat.{ℕ, zero, suc, ◌+◌, ◌*◌, ◌/◌, ◌%◌, ◌^◌, ◌≤◌, ◌<◌}
use mathlib.Core.Path.{◌≡◌, refl, ap, ◌∙◌, sym}
use mathlib.Core.List.{List, [], ◌∷◌, ◌++◌}
use native.Mathlib.Omega.{arith}
use native.Mathlib.Decide.{dec_lt}
use native.Mathlib.Nat.{pow-suc}
use lib.ListN.{length, length-append}
use borrow.Author.Tests.{lt-ltb, le-ltb}
use Rattle.decimal.specs.Decimal.{digit, digits_within, digits}

-- (0028,1053) of RULES 2.2, and the largest number.
example_tag : digits 2625619 ≡ 50 ∷ 54 ∷ 50 ∷ 53 ∷ 54 ∷ 49 ∷ 57 ∷ []
unfolding digits digits_within
example_tag = refl

example_largest : digits 4294967295 ≡ 52 ∷ 50 ∷ 57 ∷ 52 ∷ 57 ∷ 54 ∷ 55 ∷ 50 ∷ 57 ∷ 53 ∷ []
unfolding digits digits_within
example_largest = refl

-- What holds of the digits, and of each longer number if of the number without its last digit, holds of all.
module _ (P : ℕ → Type 0) (one : (n : ℕ) → n < 10 → P n) (more : (n : ℕ) → 10 ≤ n → P (n / 10) → P n) where
  along_below : (k n : ℕ) → n < k → P n
  along_below zero n h = absurd (omega arith)
  along_below (suc k) n h = go (dec_lt n 10) (along_below k (n / 10))
    where
      go : Dec (n < 10) → (n / 10 < k → P (n / 10)) → P n
      go (yes s) f = one n s
      go (no s) f = more n (omega arith) (f (omega arith))

  pub along : (n : ℕ) → P n
  along n = along_below (suc n) n (omega arith)

within-one : (k n : ℕ) → n < 10 → digits_within (suc k) n ≡ digit n ∷ []
unfolding digits_within
within-one k n h = rw (lt-ltb n 10 h)

within_more : (k n : ℕ) → 10 ≤ n → digits_within (suc k) n ≡ digits_within k (n / 10) ++ digit (n % 10) ∷ []
unfolding digits_within
within_more k n h = rw (le-ltb n 10 h)

-- More room than there are digits changes nothing.
within_any : (n k j : ℕ) → n < k → n < j → digits_within k n ≡ digits_within j n
within_any =
    along
    (λ (n : ℕ). (k j : ℕ) → n < k → n < j → digits_within k n ≡ digits_within j n)
    (λ n h k j a b. one n h k j a b)
    (λ n h f k j a b. more n h f k j a b)
  where
    one : (n : ℕ) → n < 10 → (k j : ℕ) → n < k → n < j → digits_within k n ≡ digits_within j n
    one n h zero j a b = absurd (omega arith)
    one n h (suc k) zero a b = absurd (omega arith)
    one n h (suc k) (suc j) a b = within-one k n h ∙ sym (within-one j n h)

    more : (n : ℕ) → 10 ≤ n → ((k j : ℕ) → n / 10 < k → n / 10 < j → digits_within k (n / 10) ≡ digits_within j (n / 10)) →
        (k j : ℕ) → n < k → n < j → digits_within k n ≡ digits_within j n
    more n h f zero j a b = absurd (omega arith)
    more n h f (suc k) zero a b = absurd (omega arith)
    more n h f (suc k) (suc j) a b =
        within_more k n h ∙ ap (λ (ds : List ℕ). ds ++ digit (n % 10) ∷ []) (f k j (omega arith) (omega arith)) ∙ sym (within_more j n h)

pub digits-one : (n : ℕ) → n < 10 → digits n ≡ digit n ∷ []
unfolding digits
digits-one n h = within-one n n h

pub digits_more : (n : ℕ) → 10 ≤ n → digits n ≡ digits (n / 10) ++ digit (n % 10) ∷ []
unfolding digits
digits_more n h =
    within_more n n h ∙ ap (λ (ds : List ℕ). ds ++ digit (n % 10) ∷ []) (within_any (n / 10) n (suc (n / 10)) (omega arith) (omega arith))

-- A digit put on.
pub digits_append : (v d : ℕ) → 0 < v → d < 10 → digits (v * 10 + d) ≡ digits v ++ digit d ∷ []
digits_append v d p h =
    let e : (v * 10 + d) / 10 ≡ v = omega arith in
    let f : (v * 10 + d) % 10 ≡ d = omega arith in
    digits_more (v * 10 + d) (omega arith) ∙ rw (e, f)

-- A number below a power of ten has no more digits than the power's exponent.
pub digits_short : (k n : ℕ) → n < 10 ^ suc k → length (digits n) ≤ suc k
digits_short zero n h = let s : n < 10 = omega (arith, pow-suc 10 0) in rw (digits-one n s) (omega arith)
digits_short (suc k) n h = go (dec_lt n 10) (digits_short k (n / 10))
  where
    go : Dec (n < 10) → (n / 10 < 10 ^ suc k → length (digits (n / 10)) ≤ suc k) → length (digits n) ≤ suc (suc k)
    go (yes s) f = rw (digits-one n s) (omega arith)
    go (no s) f =
        let h' : 10 ≤ n = omega arith in
        rw (digits_more n h') (simp length-append (omega (arith, f (omega (arith, pow-suc 10 (suc k))))))
