-- The listing of a link is that of the tree it holds.
use mathlib.Core.Path.{◌≡◌, refl, ap}
use mathlib.Core.List.{List, [], ◌∷◌, ◌++◌}
use Prim.Native.Nat.{ℕ, zero, suc, ◌≤◌}
use native.Mathlib.Omega.{arith}
use Rattle.trees.specs.Tree.{Tree, leaf, node, listing, height}
use Rattle.words.specs.Layout.{entry, left, right, max_height}
use Rattle.words.specs.Reads.{Reads}
use Rattle.words.proofs.Holding.{reads_one}
use Rattle.lookup.specs.Finding.{Rooted}
use Rattle.abreast.specs.Sides.{listed}

-- None lists nothing, to any depth.
pub listed_none : (h : ℕ) (ws : List ℕ) → listed h ws 0 ≡ []
unfolding listed
listed_none zero ws = refl
listed_none (suc h) ws = refl

pub listed_is : (n h : ℕ) (ws : List ℕ) (i : ℕ) (t : Tree) → Reads n ws i t → height t ≤ h → listed h ws i ≡ listing t
unfolding listed
listed_is n h ws i leaf q b = rw q (listed_none h ws)
listed_is n zero ws i (node p c l e r) q b = absurd (omega arith)
listed_is n (suc h) ws zero (node p c l e r) q b = absurd (omega (arith, q.1.low))
listed_is n (suc h) ws (suc i) (node p c l e r) q b =
    rw (listed_is n h ws (left ws (suc i)) l q.2 (omega arith), listed_is n h ws (right ws (suc i)) r q.3 (omega arith), q.1.entry_is)

-- Whatever tree the link holds, however many nodes it is read for.
pub listed-held : {ws : List ℕ} {i : ℕ} → Rooted ws i max_height → (n : ℕ) (t : Tree) → Reads n ws i t → listed max_height ws i ≡ listing t
listed-held {ws} {i} k n t q =
    listed_is n max_height ws i t q (omega (arith, k.low, ap height (reads_one n k.n ws i t k.tree q k.reads)))

module _ {ws : List ℕ} {i h : ℕ} (k : Rooted ws i h) where
  -- A node lists its left part, its entry and its right part.
  pub listed_node : (m : ℕ) → h ≤ m → (i ≡ 0 → ⊥) → listed m ws i ≡ listed m ws (left ws i) ++ (entry ws i ∷ listed m ws (right ws i))
  listed_node m b s = go k.tree k.reads k.low
    where
      go : (t : Tree) → Reads k.n ws i t → height t ≤ h → listed m ws i ≡ listed m ws (left ws i) ++ (entry ws i ∷ listed m ws (right ws i))
      go leaf q w = absurd (s q)
      go (node p c l e r) q w =
          rw (
            listed_is k.n m ws i (node p c l e r) q (omega arith),
            listed_is k.n m ws (left ws i) l q.2 (omega arith),
            listed_is k.n m ws (right ws i) r q.3 (omega arith),
            q.1.entry_is,
          )
