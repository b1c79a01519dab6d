-- What a step answers that goes on with a number, or stops.
use Rattle.std.specs.Prelude.{◌≡◌, ℕ, Option, Some, None}

-- P of the number where it goes on, Q where it stops.
pub record Ways (r : Option ℕ) (P : ℕ → Type 0) (Q : Type 0) : Type 0 where
  pub on : (t : ℕ) → r ≡ Some t → P t
  pub stop : r ≡ None → Q
