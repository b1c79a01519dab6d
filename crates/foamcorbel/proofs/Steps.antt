-- A step with what the caller keeps, as it was read from words.
use mathlib.Core.Path.{◌≡◌, subst}
use mathlib.Core.List.{List}
use Prim.Native.Nat.{ℕ}
use Rattle.trees.specs.Range.{End}
use Rattle.calls.specs.Call as call
use Rattle.calls.specs.Outcome.{Outcome}
use Rattle.walking.specs.declared.Walk.{Walk}
use Rattle.walking.specs.Walks.{walk_of}
use Rattle.differing.specs.declared.Differences.{Differences}
use Rattle.differing.specs.Positions.{differences_of}
use Rattle.passing.specs.Results.{PassedOn}
use Rattle.passing.specs.Walks.{walk_in}
use Rattle.passing.specs.Differences.{differences_in}
use Rattle.foamcorbel.specs.Gives.{Gives}

module _ {ws out out' : List ℕ} {a : call.Answer} {r : ℕ} where
  read_gives : {A : Type 0} (c : A → call.Call) {x y : A} → x ≡ y → Outcome (c x) ws a ws → PassedOn a out r out' → Gives (c y) ws out r ws out'
  read_gives c e o p = record { answer = a; outcome = subst (λ z. Outcome (c z) ws a ws) e o; passed = p }

  pub step_gives : (d : End) (w : Walk) (words : List ℕ) → walk_of w ≡ walk_in words → Outcome (call.Call.step d (walk_of w)) ws a ws →
      PassedOn a out r out' → Gives (call.Call.step d (walk_in words)) ws out r ws out'
  step_gives d w words e o p = read_gives (call.Call.step d) e o p

  pub difference_gives : (x : Differences) (words : List ℕ) → differences_of x ≡ differences_in words →
      Outcome (call.Call.difference (differences_of x)) ws a ws → PassedOn a out r out' → Gives (call.Call.difference (differences_in words)) ws out r ws out'
  difference_gives x words e o p = read_gives call.Call.difference e o p
