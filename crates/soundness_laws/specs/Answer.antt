-- What a test answers.
use Rattle.std.specs.Prelude.{◌≡◌, Bool, true, false}

-- P where the answer is yes, Q where it is no.
pub record Answers (r : Bool) (P Q : Type 0) : Type 0 where
  pub yes : r ≡ true → P
  pub no : r ≡ false → Q

-- Yes exactly when P holds.
abbrev pub Decides : Bool → Type 0 → Type 0
Decides r P = Answers r P (P → ⊥)
