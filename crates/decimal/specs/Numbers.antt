-- How a number is read from the front of a text: what `number` is held to.
use Rattle.std.specs.Prelude.{ℕ, ◌+◌, ◌-◌, ◌*◌, ◌≡◌, Bool, ◌&&◌, List, [], ◌∷◌, leb, ltb, eqb, drop, if◌then◌else◌, Option, None, Some, option_map}
use Rattle.decimal.specs.Decimal.{largest}

abbrev pub is_digit : ℕ → Bool
is_digit b = leb 48 b && leb b 57

-- The digit that the text begins with, as a number.
unfoldable pub digit_in : List ℕ → Option ℕ
digit_in [] = None
digit_in (b ∷ rest) = if is_digit b then Some (b - 48) else None

-- The number that a value and the digits after it make, and what follows. RULES 9.5: a 0 takes no
-- digit after it, and no number is above the largest.
unfoldable pub number_from : ℕ → List ℕ → Option (ℕ × List ℕ)
number_from v [] = Some (v, [])
number_from v (b ∷ rest) =
    let more : Option (ℕ × List ℕ) = number_from (v * 10 + (b - 48)) rest in
    if is_digit b then (if eqb v 0 then None else (if ltb largest (v * 10 + (b - 48)) then None else more)) else Some (v, b ∷ rest)

unfoldable pub number : List ℕ → Option (ℕ × List ℕ)
number [] = None
number (b ∷ rest) = if is_digit b then number_from (b - 48) rest else None

-- What was found at a place of the line, as the number and what follows it.
abbrev pub found_in : List ℕ → Option (ℕ × ℕ) → Option (ℕ × List ℕ)
found_in line r = option_map (λ p. (p.0, drop p.1 line)) r

pub record Finds (line : List ℕ) (r : Option (ℕ × ℕ)) (o : Option (ℕ × List ℕ)) : Type 0 where
  pub found : found_in line r ≡ o
