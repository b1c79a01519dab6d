-- Numbers read from a text are the numbers whose text it is, both ways.
use Prim.Native.Nat.{ℕ, ◌+◌, ◌-◌, ◌*◌, ◌/◌, ◌%◌, ◌≤◌, ◌<◌}
use mathlib.Core.Path.{◌≡◌, refl, ◌∙◌}
use mathlib.Core.Bool.{Bool, true, false}
use mathlib.Core.List.{List, [], ◌∷◌, ◌++◌, append_assoc}
use native.Mathlib.Omega.{arith}
use native.Mathlib.Decide.{dec_lt}
use Rattle.std.proofs.lemmas.Bool.Decides.{nat_tests}
use borrow.Author.Tests.{lt-ltb, le-ltb, ne_eqb}
use Rattle.std.specs.Prelude.{Option, None, Some, if◌then◌else◌}
use Rattle.decimal.specs.Decimal.{largest, digit, digits}
use Rattle.decimal.specs.Numbers.{is_digit, number_from, number}
use Rattle.decimal.proofs.Digits.{along, digits-one, digits_more, digits_append}

-- The digits are the bytes 48 to 57.
digit_is : (d : ℕ) → d < 10 → is_digit (digit d) ≡ true
digit_is d h = grind (arith, nat_tests)

pub digit_bounds : (b : ℕ) → is_digit b ≡ true → (48 ≤ b) × (b ≤ 57)
digit_bounds b e = (grind (arith, nat_tests), grind (arith, nat_tests))

-- One step of reading a number, by its four cases.

pub from_digit : (v b : ℕ) (rest : List ℕ) → is_digit b ≡ true → 0 < v → v * 10 + (b - 48) ≤ largest →
    number_from v (b ∷ rest) ≡ number_from (v * 10 + (b - 48)) rest
unfolding number_from
from_digit v b rest e p h = rw (e, ne_eqb v 0 (omega arith), le-ltb largest (v * 10 + (b - 48)) h)

pub from_zero : (b : ℕ) (rest : List ℕ) → is_digit b ≡ true → number_from 0 (b ∷ rest) ≡ None
unfolding number_from
from_zero b rest e = rw e

pub from_large : (v b : ℕ) (rest : List ℕ) → is_digit b ≡ true → 0 < v → largest < v * 10 + (b - 48) → number_from v (b ∷ rest) ≡ None
unfolding number_from
from_large v b rest e p h = rw (e, ne_eqb v 0 (omega arith), lt-ltb largest (v * 10 + (b - 48)) h)

pub from_other : (v b : ℕ) (rest : List ℕ) → is_digit b ≡ false → number_from v (b ∷ rest) ≡ Some (v, b ∷ rest)
unfolding number_from
from_other v b rest e = rw e

-- A text is read as its number.

number-one : (n : ℕ) (more : List ℕ) → n < 10 → number (digit n ∷ more) ≡ number_from n more
unfolding number
number-one n more h = let e : 48 + n - 48 ≡ n = omega arith in rw (digit_is n h, e)

pub number-text : (n : ℕ) → n ≤ largest → (more : List ℕ) → number (digits n ++ more) ≡ number_from n more
number-text =
    along
    (λ (n : ℕ). n ≤ largest → (more : List ℕ) → number (digits n ++ more) ≡ number_from n more)
    (λ n h s more. rw (digits-one n h) (number-one n more h))
    (λ n h f s more. longer n h s more (f (omega arith) (digit (n % 10) ∷ more)))
  where
    longer : (n : ℕ) → 10 ≤ n → n ≤ largest → (more : List ℕ) →
        number (digits (n / 10) ++ digit (n % 10) ∷ more) ≡ number_from (n / 10) (digit (n % 10) ∷ more) →
        number (digits n ++ more) ≡ number_from n more
    longer n h s more e =
        let r : n / 10 * 10 + (48 + n % 10 - 48) ≡ n = omega arith in
        rw (digits_more n h, append_assoc)
        (e ∙ from_digit (n / 10) (digit (n % 10)) more (digit_is (n % 10) (omega arith)) (omega arith) (omega arith) ∙ rw r)

-- What follows a number's text is no digit.
abbrev pub Stops : List ℕ → Type 0
Stops [] = Unit {0}
Stops (b ∷ rest) = is_digit b ≡ false

pub from_stops : (n : ℕ) (more : List ℕ) → Stops more → number_from n more ≡ Some (n, more)
unfolding number_from
from_stops n [] h = refl
from_stops n (b ∷ more) h = rw h

-- What is read has that text.

abbrev pub Is : List ℕ → Option (ℕ × List ℕ) → Type 0
Is line None = Unit {0}
Is line (Some p) = (line ≡ digits p.0 ++ p.1) × (p.0 ≤ largest)

from_more : (v b : ℕ) (rest : List ℕ) → is_digit b ≡ true → 0 < v → v * 10 + (b - 48) ≤ largest →
    Is (digits (v * 10 + (b - 48)) ++ rest) (number_from (v * 10 + (b - 48)) rest) → Is (digits v ++ b ∷ rest) (number_from v (b ∷ rest))
from_more v b rest e p h r =
    let q = digit_bounds b e in
    let l : b - 48 < 10 = omega (arith, q.0, q.1) in
    let f : 48 + (b - 48) ≡ b = omega (arith, q.0) in
    rw (from_digit v b rest e p h) (rw (digits_append v (b - 48) p l, append_assoc, f) at r)

from_is : (v : ℕ) (rest : List ℕ) → v ≤ largest → Is (digits v ++ rest) (number_from v rest)
unfolding number_from
from_is v [] h = (refl, h)
from_is v (b ∷ rest) h = go (is_digit b) refl (dec_lt 0 v) (dec_lt largest (v * 10 + (b - 48))) (from_is (v * 10 + (b - 48)) rest)
  where
    go : (d : Bool) → is_digit b ≡ d → Dec (0 < v) → Dec (largest < v * 10 + (b - 48)) →
        (v * 10 + (b - 48) ≤ largest → Is (digits (v * 10 + (b - 48)) ++ rest) (number_from (v * 10 + (b - 48)) rest)) →
        Is (digits v ++ b ∷ rest) (number_from v (b ∷ rest))
    go false e p l f = rw (from_other v b rest e) (refl, h)
    go true e (no p) l f = let z : v ≡ 0 = omega arith in rw (z, from_zero b rest e) tt
    go true e (yes p) (yes l) f = rw (from_large v b rest e p l) tt
    go true e (yes p) (no l) f = from_more v b rest e p (omega arith) (f (omega arith))

pub number_is : (line : List ℕ) → Is line (number line)
unfolding number
number_is [] = tt
number_is (b ∷ rest) = go (is_digit b) refl
  where
    go : (d : Bool) → is_digit b ≡ d → Is (b ∷ rest) (if d then number_from (b - 48) rest else None)
    go false e = tt
    go true e =
        let q = digit_bounds b e in
        let l : b - 48 < 10 = omega (arith, q.0, q.1) in
        let f : 48 + (b - 48) ≡ b = omega (arith, q.0) in
        rw (digits-one (b - 48) l, f) at (from_is (b - 48) rest (omega arith))
