-- A choice, by its cases: what holds of both branches, each under its test, holds of the choice.
use Prim.Native.Nat.{ℕ, ◌<◌}
use mathlib.Core.Path.{◌≡◌, refl}
use mathlib.Core.Bool.{Bool, true, false, ◌&&◌}
use native.Mathlib.Omega.{arith}
use lib.Dec.{ltb}
use borrow.Author.Tests.{ltb-true, ltb-false}
use Rattle.std.specs.Prelude.{if◌then◌else◌}

pub fork : {A : Type 0} (P : A → Type 0) (b : Bool) {x y : A} → (b ≡ true → P x) → (b ≡ false → P y) → P (if b then x else y)
fork P true f g = f refl
fork P false f g = g refl

pub fork2 : {A : Type 0} (P : A → Type 0) (a b : Bool) {x y : A} → (a ≡ true → b ≡ true → P x) → (a && b ≡ false → P y) →
    P (if a && b then x else y)
fork2 P true true f g = f refl refl
fork2 P true false f g = g refl
fork2 P false b f g = g refl

-- The three ways in which two numbers compare, in two choices at once.
pub compared₂ : {A B : Type 0} (P : A → B → Type 0) (k j : ℕ) {x y z : A} {x' y' z' : B} →
    (k < j → P x x') → (j < k → P y y') → (k ≡ j → P z z') →
    P (if ltb k j then x else (if ltb j k then y else z)) (if ltb k j then x' else (if ltb j k then y' else z'))
compared₂ P k j {x} {y} {z} {x'} {y'} {z'} f g h =
    go (ltb k j) (ltb j k) (λ e. f (ltb-true k j e)) (λ e. g (ltb-true j k e)) λ e e'. h (omega (arith, ltb-false k j e, ltb-false j k e'))
  where
    go : (b c : Bool) → (b ≡ true → P x x') → (c ≡ true → P y y') → (b ≡ false → c ≡ false → P z z') →
        P (if b then x else (if c then y else z)) (if b then x' else (if c then y' else z'))
    go true c f g h = f refl
    go false true f g h = g refl
    go false false f g h = h refl refl

-- The same in one.
pub compared : {A : Type 0} (P : A → Type 0) (k j : ℕ) {x y z : A} →
    (k < j → P x) → (j < k → P y) → (k ≡ j → P z) → P (if ltb k j then x else (if ltb j k then y else z))
compared P k j f g h =
    fork P (ltb k j) (λ e. f (ltb-true k j e)) λ e.
    fork P (ltb j k) (λ e'. g (ltb-true j k e')) λ e'. h (omega (arith, ltb-false k j e, ltb-false j k e'))
