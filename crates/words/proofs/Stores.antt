-- Laws of stores: what a word reads after `set` and `storing`.
use mathlib.Core.Path.{◌≡◌, refl, ◌∙◌}
use mathlib.Core.Logic.{◌⊎◌, inl, inr, ⊎_elim}
use mathlib.Core.List.{List, [], ◌∷◌}
use Prim.Native.Nat.{ℕ, zero, suc, ◌+◌, ◌≤◌, ◌<◌}
use native.Mathlib.Omega.{arith}
use lib.ListN.{length, get_or, set, length-set}
use lib.Seq.{get_or-set_same, get_or-set_other}
use Rattle.words.specs.Model.{storing}

pub length_storing : (ws : List ℕ) (a k : ℕ) (xs : List ℕ) → length (storing ws a k xs) ≡ length ws
length_storing ws a k [] = refl
length_storing ws a k (x ∷ xs) = length_storing (set ws (a + k) x) a (suc k) xs ∙ length-set ws (a + k) x

-- Any other word is kept.
pub storing_other : (ws : List ℕ) (a k : ℕ) (xs : List ℕ) (j : ℕ) → (j < a + k) ⊎ (a + k + length xs ≤ j) →
    get_or (storing ws a k xs) j 0 ≡ get_or ws j 0
storing_other ws a k [] j o = refl
storing_other ws a k (x ∷ xs) j o =
    storing_other (set ws (a + k) x) a (suc k) xs j (⊎_elim (λ l. inl (omega arith)) (λ l. inr (omega arith)) o) ∙
    get_or-set_other ws (a + k) j x 0 (λ e. ⊎_elim (λ l. omega arith) (λ l. omega arith) o)

-- A stored word reads as it was stored.
pub storing_here : (ws : List ℕ) (a k : ℕ) (xs : List ℕ) (j : ℕ) → j < length xs → a + k + length xs ≤ length ws →
    get_or (storing ws a k xs) (a + (k + j)) 0 ≡ get_or xs j 0
storing_here ws a k [] j p q = absurd (omega arith)
storing_here ws a k (x ∷ xs) zero p q =
    let e : a + (k + 0) ≡ a + k = omega arith in
    rw e (storing_other (set ws (a + k) x) a (suc k) xs (a + k) (inl (omega arith)) ∙ get_or-set_same ws (a + k) x 0 (omega arith))
storing_here ws a k (x ∷ xs) (suc j) p q =
    let e : a + (k + suc j) ≡ a + (suc k + j) = omega arith in
    let l = length-set ws (a + k) x in
    rw e (storing_here (set ws (a + k) x) a (suc k) xs j (omega arith) (omega arith))
