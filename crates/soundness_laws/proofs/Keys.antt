-- The keys at the two ends of an ascending listing bound all of it.
use mathlib.Core.Path.{◌≡◌, refl}
use mathlib.Core.List.{List, [], ◌∷◌, ◌++◌}
use Prim.Native.Nat.{ℕ, ◌≤◌, ◌<◌}
use native.Mathlib.Omega.{arith}
use lib.ListN.{length}
use Rattle.trees.specs.Tree.{Entry}
use Rattle.trees.specs.Listing.{Above, Below, Ascending}
use Rattle.trees.proofs.Listings.{above_less, Split}
use Rattle.soundness_laws.specs.Summary.{first_key, last_key}

pub first_append : (d : ℕ) (xs : List Entry) (e : Entry) (ys : List Entry) → first_key d (xs ++ (e ∷ ys)) ≡ first_key e.key xs
unfolding first_key
first_append d [] e ys = refl
first_append d (x ∷ xs) e ys = refl

pub last_append : (d : ℕ) (xs : List Entry) (e : Entry) (ys : List Entry) → last_key d (xs ++ (e ∷ ys)) ≡ last_key e.key ys
unfolding last_key
last_append d [] e ys = refl
last_append d (x ∷ xs) e ys = last_append x.key xs e ys

-- The default matters where there is no entry only.
pub first_some : (d k : ℕ) (xs : List Entry) → 1 ≤ length xs → first_key d xs ≡ first_key k xs
unfolding first_key
first_some d k [] h = absurd (omega arith)
first_some d k (x ∷ xs) h = refl

pub last_some : (d k : ℕ) (xs : List Entry) → 1 ≤ length xs → last_key d xs ≡ last_key k xs
unfolding last_key
last_some d k [] h = absurd (omega arith)
last_some d k (x ∷ xs) h = refl

pub first_none : (d : ℕ) (xs : List Entry) → length xs ≡ 0 → first_key d xs ≡ d
unfolding first_key
first_none d [] h = refl
first_none d (x ∷ xs) h = absurd (omega arith)

pub last_none : (d : ℕ) (xs : List Entry) → length xs ≡ 0 → last_key d xs ≡ d
unfolding last_key
last_none d [] h = refl
last_none d (x ∷ xs) h = absurd (omega arith)

-- Above, below: as the ends are.
pub above_first : (k : ℕ) (xs : List Entry) → Ascending xs → (1 ≤ length xs → k < first_key 0 xs) → Above k xs
unfolding first_key
above_first k [] a h = tt
above_first k (x ∷ xs) a h = let l = h (omega arith) in (l, above_less l xs a.0)

pub first_above : (k : ℕ) (xs : List Entry) → Above k xs → 1 ≤ length xs → k < first_key 0 xs
unfolding first_key
first_above k [] a h = absurd (omega arith)
first_above k (x ∷ xs) a h = a.0

pub below_last : (k d : ℕ) (xs : List Entry) → Ascending xs → (1 ≤ length xs → last_key d xs < k) → Below k xs
unfolding last_key
below_last k d [] a h = tt
below_last k d (x ∷ []) a h = (h (omega arith), tt)
below_last k d (x ∷ (y ∷ ys)) a h =
    let r = below_last k x.key (y ∷ ys) a.1 (λ _. h (omega arith)) in
    (omega (arith, a.0.0, r.0), r)

pub last_below : (k d : ℕ) (xs : List Entry) → Below k xs → 1 ≤ length xs → last_key d xs < k
unfolding last_key
last_below k d [] b h = absurd (omega arith)
last_below k d (x ∷ []) b h = b.0
last_below k d (x ∷ (y ∷ ys)) b h = last_below k x.key (y ∷ ys) b.1 (omega arith)

-- Two ascending listings with an entry between them.
pub joined_above : (k : ℕ) (xs : List Entry) (e : Entry) (ys : List Entry) → Above k xs → k < e.key → Above e.key ys →
    Above k (xs ++ (e ∷ ys))
joined_above k [] e ys a l b = (l, above_less l ys b)
joined_above k (x ∷ xs) e ys a l b = (a.0, joined_above k xs e ys a.1 l b)

pub joined_ascending : (xs : List Entry) (e : Entry) (ys : List Entry) → Split xs e ys → Ascending (xs ++ (e ∷ ys))
joined_ascending [] e ys s = (s.above, s.after)
joined_ascending (x ∷ xs) e ys s = (
  joined_above x.key xs e ys s.before.0 s.below.0 s.above,
  joined_ascending xs e ys (record { below = s.below.1; before = s.before.1; above = s.above; after = s.after }),
)
