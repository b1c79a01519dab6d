-- Two lists whose numbers stand in pairs have equal sums.
use mathlib.Core.Path.{◌≡◌, refl, ap, sym, subst}
use mathlib.Core.Bool.{Bool, true, false}
use mathlib.Core.List.{List, [], ◌∷◌, map}
use Prim.Native.Nat.{ℕ, zero, suc, ◌+◌, ◌≤◌, ◌<◌}
use native.Mathlib.Omega.{arith}
use lib.Dec.{eqb}
use lib.ListN.{length}
use borrow.Author.Tests.{eqb-true, eqb-false}
use Rattle.std.specs.Prelude.{if◌then◌else◌}
use Rattle.words.specs.Counting.{same, occ, run}
use Rattle.words.proofs.Counts.{same_eq, same_ne}

-- The sum of f over a list.
unfoldable pub over : (ℕ → ℕ) → List ℕ → ℕ
over f [] = 0
over f (x ∷ xs) = f x + over f xs

pub occ_over : (f : ℕ → ℕ) (i : ℕ) (xs : List ℕ) → occ i (map f xs) ≡ over (λ x. same (f x) i) xs
unfolding occ over
occ_over f i [] = refl
occ_over f i (x ∷ xs) = ap (λ (y : ℕ). same (f x) i + y) (occ_over f i xs)

pub over_long : (xs : List ℕ) → over (λ x. 1) xs ≡ length xs
unfolding over
over_long [] = refl
over_long (x ∷ xs) = omega (arith, over_long xs)

pub over_run : (f g : ℕ → ℕ) (a n : ℕ) → ((s : ℕ) → s < a + n → f s ≡ g s) → over f (run a n) ≡ over g (run a n)
unfolding over run
over_run f g a zero e = refl
over_run f g a (suc n) e = omega (arith, e a (omega arith), over_run f g (suc a) n (λ s p. e s (omega arith)))

-- The list without its first y.
without : ℕ → List ℕ → List ℕ
without y [] = []
without y (x ∷ xs) = if eqb x y then xs else x ∷ without y xs

without_occ : (y z : ℕ) (xs : List ℕ) → 1 ≤ occ y xs → same y z + occ z (without y xs) ≡ occ z xs
unfolding occ without
without_occ y z [] h = absurd (omega arith)
without_occ y z (x ∷ xs) h = go (eqb x y) refl (without_occ y z xs)
  where
    go : (b : Bool) → eqb x y ≡ b → (1 ≤ occ y xs → same y z + occ z (without y xs) ≡ occ z xs) →
        same y z + occ z (if b then xs else x ∷ without y xs) ≡ same x z + occ z xs
    go true e f = rw (eqb-true x y e) refl
    go false e f = omega (arith, f (omega (arith, same_ne x y (eqb-false x y e))))

without_over : (f : ℕ → ℕ) (y : ℕ) (xs : List ℕ) → 1 ≤ occ y xs → f y + over f (without y xs) ≡ over f xs
unfolding occ over without
without_over f y [] h = absurd (omega arith)
without_over f y (x ∷ xs) h = go (eqb x y) refl (without_over f y xs)
  where
    go : (b : Bool) → eqb x y ≡ b → (1 ≤ occ y xs → f y + over f (without y xs) ≡ over f xs) →
        f y + over f (if b then xs else x ∷ without y xs) ≡ f x + over f xs
    go true e g = rw (eqb-true x y e) refl
    go false e g = omega (arith, g (omega (arith, same_ne x y (eqb-false x y e))))

-- R pairs the numbers of xs with those of ys.
pub record Paired (R : ℕ → ℕ → Type 0) (xs ys : List ℕ) : Type 0 where
  pub once : (x : ℕ) → occ x xs ≤ 1
  pub once' : (y : ℕ) → occ y ys ≤ 1
  pub to : (x : ℕ) → 1 ≤ occ x xs → (y : ℕ) × (1 ≤ occ y ys) × R x y
  pub from : (y : ℕ) → 1 ≤ occ y ys → (x : ℕ) × (1 ≤ occ x xs) × R x y

-- One to one.
module _ (R : ℕ → ℕ → Type 0) (one : (x y z : ℕ) → R x y → R x z → y ≡ z) (one' : (x y z : ℕ) → R x z → R y z → x ≡ y) where
  rest : (x : ℕ) (xs ys : List ℕ) → Paired R (x ∷ xs) ys → (y : ℕ) → 1 ≤ occ y ys → R x y → Paired R xs (without y ys)
  unfolding occ
  rest x xs ys p y h r =
      record {
        once = λ z. omega (arith, p.once z);
        once' = λ z. omega (arith, p.once' z, without_occ y z ys h);
        to = λ z m.
            let t = p.to z (omega arith) in
            (t.0, omega (arith, without_occ y t.0 ys h, t.1, same_ne y t.0 (λ e. differ z m (one' x z y r (subst (R z) (sym e) t.2)))), t.2);
        from = λ z m.
            let t = p.from z (omega (arith, without_occ y z ys h)) in
            (t.0, omega (arith, t.1, same_ne x t.0 (λ e. differ' z m (one x y z r (subst (λ (v : ℕ). R v z) (sym e) t.2)))), t.2);
      }
    where
      differ : (z : ℕ) → 1 ≤ occ z xs → x ≡ z → ⊥
      differ z m e = omega (arith, p.once z, same_eq x z e)

      differ' : (z : ℕ) → 1 ≤ occ z (without y ys) → y ≡ z → ⊥
      differ' z m e = omega (arith, p.once' z, without_occ y z ys h, same_eq y z e)

  pub paired_sum : (g h : ℕ → ℕ) → ((x y : ℕ) → R x y → g x ≡ h y) → (xs ys : List ℕ) → Paired R xs ys → over g xs ≡ over h ys
  unfolding occ over
  paired_sum g h e [] [] p = refl
  paired_sum g h e [] (y ∷ ys) p = absurd (let t = p.from y (omega (arith, same_eq y y refl)) in omega (arith, t.1))
  paired_sum g h e (x ∷ xs) ys p =
      let t = p.to x (omega (arith, same_eq x x refl)) in
      omega (
        arith,
        paired_sum g h e xs (without t.0 ys) (rest x xs ys p t.0 t.1 t.2),
        without_over h t.0 ys t.1,
        e x t.0 t.2,
      )
