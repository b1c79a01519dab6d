-- One name more for a link, as `Full` sees it.
use mathlib.Core.Path.{◌≡◌, ap, ◌∙◌}
use mathlib.Core.List.{List, [], ◌∷◌, ◌++◌}
use Prim.Native.Nat.{ℕ, ◌+◌, ◌≤◌, ◌<◌}
use native.Mathlib.Omega.{arith}
use native.Mathlib.Decide.{ℕ_discrete}
use Rattle.words.specs.Layout.{nodes, count}
use Rattle.words.specs.Counting.{same, occ}
use Rattle.words.specs.Sound.{Reached}
use Rattle.words.proofs.Counts.{same_eq, same_ne}
use Rattle.soundness_laws.specs.Queue.{Full}
use Rattle.soundness_laws.proofs.Adding.{occ-last}

-- The names met, with one more for x.
abbrev pub plus : (ℕ → ℕ) → ℕ → ℕ → ℕ
plus f x y = f y + same x y

pub full_as : (ws : List ℕ) (f g : ℕ → ℕ) (Q : List ℕ) → ((x : ℕ) → 1 ≤ x → x ≤ nodes ws → f x ≡ g x) → Full ws f Q → Full ws g Q
full_as ws f g Q e F =
    record {
      low = λ x p q. omega (arith, e x p q, F.low x p q);
      inside = F.inside;
      all = λ x p q c z. F.all x p q c (e x p q ∙ z);
      some = λ x p q l. F.some x p q (omega (arith, e x p q));
      idle = F.idle;
      reached = F.reached;
    }

module _ (ws : List ℕ) (f : ℕ → ℕ) (Q : List ℕ) (F : Full ws f Q) (x : ℕ) where
  pub full_none : x ≡ 0 → Full ws (plus f x) Q
  full_none e = full_as ws f (plus f x) Q (λ y p q. omega (arith, same_ne x y (λ z. omega arith))) F

  -- No more than the count, at x and elsewhere.
  low_more : f x + 1 ≤ count ws x → (y : ℕ) → 1 ≤ y → y ≤ nodes ws → Dec (x ≡ y) → f y + same x y ≤ count ws y
  low_more h y p q (yes e) = omega (arith, same_eq x y e, ap f e, ap (count ws) e)
  low_more h y p q (no d) = omega (arith, same_ne x y d, F.low y p q)

  some_more : (y : ℕ) → 1 ≤ y → y ≤ nodes ws → f y + same x y < count ws y → occ y Q ≡ 0
  some_more y p q l = F.some y p q (omega arith)

  pub full_named : f x + 1 < count ws x → Full ws (plus f x) Q
  full_named h =
      record {
        low = λ y p q. low_more (omega arith) y p q (ℕ_discrete x y);
        inside = F.inside;
        all = λ y p q c z. all_more y p q c z (ℕ_discrete x y);
        some = some_more;
        idle = F.idle;
        reached = F.reached;
      }
    where
      all_more : (y : ℕ) → 1 ≤ y → y ≤ nodes ws → 1 ≤ count ws y → f y + same x y ≡ count ws y → Dec (x ≡ y) → occ y Q ≡ 1
      all_more y p q c z (yes e) = absurd (omega (arith, same_eq x y e, ap f e, ap (count ws) e))
      all_more y p q c z (no d) = F.all y p q c (omega (arith, same_ne x y d))

  module _ (low : 1 ≤ x) (high : x ≤ nodes ws) (h : f x + 1 ≡ count ws x) (r : Reached ws x) where
    abbrev Q' : List ℕ
    Q' = Q ++ (x ∷ [])

    all_last : (y : ℕ) → 1 ≤ y → y ≤ nodes ws → 1 ≤ count ws y → f y + same x y ≡ count ws y → Dec (x ≡ y) → occ y Q' ≡ 1
    all_last y p q c z (yes e) = omega (arith, occ-last y Q x, same_eq x y e, F.some y p q (omega (arith, ap f e, ap (count ws) e)))
    all_last y p q c z (no d) = omega (arith, occ-last y Q x, same_ne x y d, F.all y p q c (omega (arith, same_ne x y d)))

    some_last : (y : ℕ) → 1 ≤ y → y ≤ nodes ws → f y + same x y < count ws y → Dec (x ≡ y) → occ y Q' ≡ 0
    some_last y p q l (yes e) = absurd (omega (arith, same_eq x y e, ap f e, ap (count ws) e))
    some_last y p q l (no d) = omega (arith, occ-last y Q x, same_ne x y d, F.some y p q (omega arith))

    idle_last : (y : ℕ) → 1 ≤ y → y ≤ nodes ws → count ws y ≡ 0 → Dec (x ≡ y) → occ y Q' ≡ 0
    idle_last y p q c (yes e) = absurd (omega (arith, ap (count ws) e))
    idle_last y p q c (no d) = omega (arith, occ-last y Q x, same_ne x y d, F.idle y p q c)

    in_last : (y : ℕ) → 1 ≤ occ y Q' → Dec (x ≡ y) → (1 ≤ y) × (y ≤ nodes ws)
    in_last y o (yes e) = (omega arith, omega arith)
    in_last y o (no d) = F.inside y (omega (arith, occ-last y Q x, same_ne x y d))

    reached_last : (y : ℕ) → 1 ≤ occ y Q' → Dec (x ≡ y) → Reached ws y
    reached_last y o (yes e) = rw (← e) r
    reached_last y o (no d) = F.reached y (omega (arith, occ-last y Q x, same_ne x y d))

    pub full_entered : Full ws (plus f x) Q'
    full_entered =
        record {
          low = λ y p q. low_more (omega arith) y p q (ℕ_discrete x y);
          inside = λ y o. in_last y o (ℕ_discrete x y);
          all = λ y p q c z. all_last y p q c z (ℕ_discrete x y);
          some = λ y p q l. some_last y p q l (ℕ_discrete x y);
          idle = λ y p q c. idle_last y p q c (ℕ_discrete x y);
          reached = λ y o. reached_last y o (ℕ_discrete x y);
        }
