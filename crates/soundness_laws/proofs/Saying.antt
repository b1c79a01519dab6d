-- How an answer is made.
use mathlib.Core.Path.{◌≡◌, refl, sym}
use Prim.Native.Nat.{ℕ}
use lib.Dec.{eqb}
use borrow.Author.Tests.{eqb-true, eqb-false}
use mathlib.Core.Bool.{true, false, true≢false}
use Rattle.std.specs.Prelude.{Some, None}
use Rattle.soundness_laws.specs.Answer.{Answers}
use Rattle.soundness_laws.specs.Ways.{Ways}

pub say_yes : {P Q : Type 0} → P → Answers true P Q
say_yes p = record { yes = λ _. p; no = λ e. absurd (true≢false e) }

pub say_no : {P Q : Type 0} → Q → Answers false P Q
say_no q = record { yes = λ e. absurd (true≢false (sym e)); no = λ _. q }

-- An answer that is a test of two numbers.
pub say_equal : {P Q : Type 0} {a b : ℕ} → (a ≡ b → P) → ((a ≡ b → ⊥) → Q) → Answers (eqb a b) P Q
say_equal {a = a} {b = b} f g = record { yes = λ e. f (eqb-true a b e); no = λ e. g (eqb-false a b e) }

-- How a step that goes on or stops is made, and what is known of it.
module _ {P : ℕ → Type 0} {Q : Type 0} where
  pub going : {t : ℕ} → P t → Ways (Some t) P Q
  going {t} p = record { on = λ u e. let s : t ≡ u = cc in rw (← s) p; stop = λ e. absurd cc }

  pub stopping : Q → Ways None P Q
  stopping q = record { on = λ u e. absurd cc; stop = λ _. q }

  pub gone_on : {t : ℕ} → Ways (Some t) P Q → P t
  gone_on {t} w = w.on t refl

  pub stopped : Ways None P Q → Q
  stopped w = w.stop refl
