-- What passes a test, of a list whose elements ascend by a number: entries by their keys,
-- differences by their tags.
use Prim.Native.Nat.{ℕ, ◌<◌, ◌≤◌}
use mathlib.Core.Path.{◌≡◌, refl, ap, subst}
use mathlib.Core.Bool.{Bool, true, false}
use mathlib.Core.List.{List, [], ◌∷◌}
use mathlib.Core.Option.{some}
use native.Mathlib.Omega.{arith}
use Rattle.std.specs.Prelude.{if◌then◌else◌}
use Rattle.trees.specs.Listing.{AboveBy, AscendingBy, first_of}
use Rattle.trees.specs.Range.{keep}

-- The first that passes does pass.
pub first_passes : {A : Type 0} (p : A → Bool) (xs : List A) {e : A} → first_of (keep p xs) ≡ some e → p e ≡ true
first_passes p [] h = absurd (let z : ◌≡◌ {A = ℕ} 0 1 = cc in omega arith)
first_passes p (x ∷ xs) {e} h = go (p x) refl h (first_passes p xs)
  where
    go : (b : Bool) → p x ≡ b → first_of (if b then x ∷ keep p xs else keep p xs) ≡ some e → (first_of (keep p xs) ≡ some e → p e ≡ true) →
        p e ≡ true
    go true t h ih = let z : x ≡ e = cc in subst (λ y. p y ≡ true) z t
    go false t h ih = ih h

module _ {A : Type 0} (number : A → ℕ) where
  pub above_keep : (p : A → Bool) (k : ℕ) (xs : List A) → AboveBy number k xs → AboveBy number k (keep p xs)
  above_keep p k [] a = tt
  above_keep p k (x ∷ xs) a = go (p x) (above_keep p k xs a.1)
    where
      go : (b : Bool) → AboveBy number k (keep p xs) → AboveBy number k (if b then x ∷ keep p xs else keep p xs)
      go true r = (a.0, r)
      go false r = r

  first_above : (k : ℕ) (xs : List A) (e : A) → AboveBy number k xs → first_of xs ≡ some e → k < number e
  first_above k [] e a h = absurd (let z : ◌≡◌ {A = ℕ} 0 1 = cc in omega arith)
  first_above k (x ∷ xs) e a h = let z : x ≡ e = cc in subst (λ y. k < number y) z a.0

  -- Where every number is above k, two tests that agree above k keep the same; and one that passes
  -- all there keeps all.
  keep_same : (p p' : A → Bool) (k : ℕ) (xs : List A) → AboveBy number k xs → ((y : A) → k < number y → p' y ≡ p y) → keep p' xs ≡ keep p xs
  keep_same p p' k [] a f = refl
  keep_same p p' k (x ∷ xs) a f = rw (f x a.0, keep_same p p' k xs a.1 f)

  pub keep_all : (p : A → Bool) (k : ℕ) (xs : List A) → AboveBy number k xs → ((y : A) → k < number y → p y ≡ true) → keep p xs ≡ xs
  keep_all p k [] a f = refl
  keep_all p k (x ∷ xs) a f = rw (f x a.0) (ap (λ l. x ∷ l) (keep_all p k xs a.1 f))

  -- The first that passes is taken out by a test that passes what comes after it only.
  pub first_taken : (p p' : A → Bool) (e : A) (xs : List A) → AscendingBy number xs → ((y : A) → number e < number y → p' y ≡ p y) →
      ((y : A) → number y ≤ number e → p' y ≡ false) → first_of (keep p xs) ≡ some e → keep p xs ≡ e ∷ keep p' xs
  first_taken p p' e [] a f g h = absurd (let z : ◌≡◌ {A = ℕ} 0 1 = cc in omega arith)
  first_taken p p' e (x ∷ xs) a f g h = go (p x) h (first_taken p p' e xs a.1 f g)
    where
      go : (b : Bool) → first_of (if b then x ∷ keep p xs else keep p xs) ≡ some e → (first_of (keep p xs) ≡ some e → keep p xs ≡ e ∷ keep p' xs) →
          (if b then x ∷ keep p xs else keep p xs) ≡ e ∷ (if p' x then x ∷ keep p' xs else keep p' xs)
      go true h ih =
          let z : x ≡ e = cc in
          let k = ap number z in
          rw (g x (omega arith), keep_same p p' (number e) xs (subst (λ y. AboveBy number (number y) xs) z a.0) f) (ap (λ y. y ∷ keep p xs) z)
      go false h ih =
          let l = first_above (number x) (keep p xs) e (above_keep p (number x) xs a.0) h in
          rw (g x (omega arith)) (ih h)
