-- RULES 9.5: the decimal text of a number, as bytes: "no leading zeros, and 0 is `0`".
use Rattle.std.specs.Prelude.{ℕ, zero, suc, ◌+◌, ◌/◌, ◌%◌, List, [], ◌∷◌, ◌++◌, ltb, if◌then◌else◌}

-- RULES 9.5: "at most 4,294,967,295".
abbrev pub largest : ℕ
largest = 4294967295

-- The byte of a digit from 0 to 9.
abbrev pub digit : ℕ → ℕ
digit d = 48 + d

-- The text, where it has at most so many digits.
unfoldable pub digits_within : ℕ → ℕ → List ℕ
digits_within zero n = []
digits_within (suc k) n =
    let longer : List ℕ = digits_within k (n / 10) ++ digit (n % 10) ∷ [] in
    if ltb n 10 then digit n ∷ [] else longer

-- No number has more digits than one more than it counts.
unfoldable pub digits : ℕ → List ℕ
unfolding digits_within
digits n = digits_within (suc n) n
