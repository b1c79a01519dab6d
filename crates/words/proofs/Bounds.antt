-- How large a version of a sound arena can be: at most as many entries as there are nodes, and no taller than 22.
use mathlib.Core.Path.{◌≡◌, refl, ap, ◌∙◌, subst}
use mathlib.Core.List.{List, [], ◌∷◌, ◌++◌, map}
use Prim.Native.Nat.{ℕ, ◌+◌, ◌≤◌}
use native.Mathlib.Omega.{arith}
use native.Mathlib.Decide.{ℕ_discrete, dec_le}
use lib.ListN.{length, length-append}
use Rattle.heights.proofs.Logs.{H-below}
use Rattle.trees.specs.Tree.{Entry, Place, kept, fresh, Tree, leaf, node, listing, size, height}
use Rattle.trees.specs.Listing.{Above, Ascending}
use Rattle.trees.specs.Shape.{Fine}
use Rattle.trees.proofs.Low.{height-H}
use Rattle.words.specs.Layout.{nodes, entry, left, right, max_nodes, max_height}
use Rattle.words.specs.Counting.{same, occ}
use Rattle.words.specs.Reads.{Reads, Held}
use Rattle.words.specs.Sound.{Sound}
use Rattle.words.proofs.Counts.{same_eq, same_ne, occ_append, few}
use Rattle.words.proofs.SoundOwned.{slot_fine}

-- The nodes of a tree in listing order.
number : Place → ℕ
number (kept i) = i
number fresh = 0

pub order : Tree → List ℕ
order leaf = []
order (node p c l e r) = order l ++ (number p ∷ order r)

order_length : (t : Tree) → length (order t) ≡ size t
unfolding order
order_length leaf = refl
order_length (node p c l e r) = simp length-append (omega (arith, order_length l, order_length r))

map_append : (f : ℕ → Entry) (xs ys : List ℕ) → map f (xs ++ ys) ≡ map f xs ++ map f ys
map_append f [] ys = refl
map_append f (x ∷ xs) ys = ap (λ (z : List Entry). f x ∷ z) (map_append f xs ys)

-- Their entries are the listing.
order_entries : (n : ℕ) (ws : List ℕ) (i : ℕ) (t : Tree) → Reads n ws i t → map (entry ws) (order t) ≡ listing t
unfolding order number
order_entries n ws i leaf h = refl
order_entries n ws i (node p c l e r) h =
    let a = order_entries n ws (left ws i) l h.2 in
    let b = order_entries n ws (right ws i) r h.3 in
    let z : entry ws (number p) ≡ e = ap (λ (q : Place). entry ws (number q)) h.0 ∙ h.1.entry_is in
    map_append (entry ws) (order l) (number p ∷ order r) ∙ rw (a, b, z)

pub order_in : (n : ℕ) (ws : List ℕ) (i : ℕ) (t : Tree) (x : ℕ) → Reads n ws i t → 1 ≤ occ x (order t) → (1 ≤ x) × (x ≤ n)
unfolding order number occ
order_in n ws i leaf x h m = absurd (omega arith)
order_in n ws i (node p c l e r) x h m =
    go
    (ap number h.0)
    (occ_append x (order l) (number p ∷ order r))
    (ℕ_discrete (number p) x)
    (dec_le 1 (occ x (order l)))
    (order_in n ws (left ws i) l x h.2)
    (order_in n ws (right ws i) r x h.3)
  where
    go : number p ≡ i → occ x (order l ++ (number p ∷ order r)) ≡ occ x (order l) + (same (number p) x + occ x (order r)) → Dec (number p ≡ x) →
        Dec (1 ≤ occ x (order l)) → (1 ≤ occ x (order l) → (1 ≤ x) × (x ≤ n)) → (1 ≤ occ x (order r) → (1 ≤ x) × (x ≤ n)) → (1 ≤ x) × (x ≤ n)
    go z e (yes d) q a b = (omega (arith, h.1.low), omega (arith, h.1.high))
    go z e (no d) (yes q) a b = a q
    go z e (no d) (no q) a b = b (omega (arith, same_ne (number p) x d))

-- Nodes whose keys ascend are different.
above_once : (ws : List ℕ) (x : ℕ) (xs : List ℕ) → Above (entry ws x).key (map (entry ws) xs) → occ x xs ≡ 0
unfolding occ
above_once ws x [] a = refl
above_once ws x (y ∷ ys) a =
    omega
    (arith, same_ne y x (λ e. let z = ap (λ (q : ℕ). (entry ws q).key) e in omega (arith, a.0)), above_once ws x ys a.1)

ascending_once : (ws : List ℕ) (x : ℕ) (xs : List ℕ) → Ascending (map (entry ws) xs) → occ x xs ≤ 1
unfolding occ
ascending_once ws x [] a = omega arith
ascending_once ws x (y ∷ ys) a = go (ℕ_discrete y x) (ascending_once ws x ys a.1)
  where
    go : Dec (y ≡ x) → occ x ys ≤ 1 → same y x + occ x ys ≤ 1
    go (yes e) ih = omega (arith, same_eq y x e, above_once ws x ys (subst (λ (q : ℕ). Above (entry ws q).key (map (entry ws) ys)) e a.0))
    go (no d) ih = omega (arith, same_ne y x d)

-- A tree in the arena has no more entries than the arena has nodes.
pub size-nodes : (n : ℕ) (ws : List ℕ) (i : ℕ) (t : Tree) → Reads n ws i t → Ascending (listing t) → size t ≤ n
size-nodes n ws i t h a =
    let e = order_entries n ws i t h in
    omega (arith, order_length t, few n (order t) (λ x m. order_in n ws i t x h m) (λ x. ascending_once ws x (order t) (rw e a)))

-- So it is no taller than 22.
pub reads_low : (n : ℕ) (ws : List ℕ) (i : ℕ) (t : Tree) → n ≤ max_nodes → Reads n ws i t → Fine t → height t ≤ max_height
reads_low n ws i t b h g =
    let s = size-nodes n ws i t h g.ordered in
    omega (arith, height-H t g (omega arith), H-below (size t) 11 (omega arith) (omega arith))

module _ (ws : List ℕ) (S : Sound ws) (s : ℕ) (h : Held ws s) where
  pub version_small : size (S.trees.tree s h) ≤ nodes ws
  version_small = size-nodes (nodes ws) ws _ (S.trees.tree s h) (S.trees.links s h) (S.trees.keys s h)

  pub version_low : height (S.trees.tree s h) ≤ max_height
  version_low = reads_low (nodes ws) ws _ (S.trees.tree s h) S.trees.limits.n_high (S.trees.links s h) (slot_fine ws S s h)
