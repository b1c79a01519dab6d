-- How often a number stands in a list, and sums over a run of numbers: what counts of names are made of.
use Rattle.std.specs.Prelude.{Bool, true, false, List, [], ◌∷◌, ℕ, zero, suc, ◌+◌, eqb}

unfoldable pub bit : Bool → ℕ
bit true = 1
bit false = 0

-- 1 where the two are equal, else 0.
unfoldable pub same : ℕ → ℕ → ℕ
same a b = bit (eqb a b)

-- How often a stands in a list.
unfoldable pub occ : ℕ → List ℕ → ℕ
occ a [] = 0
occ a (x ∷ xs) = same x a + occ a xs

-- f a + f (a + 1) + .., n terms.
unfoldable pub sum : (ℕ → ℕ) → ℕ → ℕ → ℕ
sum f a zero = 0
sum f a (suc n) = f a + sum f (suc a) n

-- The numbers a, a + 1, .., n of them.
unfoldable pub run : ℕ → ℕ → List ℕ
run a zero = []
run a (suc n) = a ∷ run (suc a) n
