-- What `Owned` gives: names are among counts, links of live nodes are none or live, counts are small.
use mathlib.Core.Path.{◌≡◌, refl}
use mathlib.Core.Logic.{◌⊎◌, inl, inr, ⊎_elim}
use mathlib.Core.List.{List, [], ◌∷◌}
use Prim.Native.Nat.{ℕ, zero, suc, ◌+◌, ◌*◌, ◌≤◌, ◌<◌}
use native.Mathlib.Omega.{arith}
use native.Mathlib.Decide.{ℕ_discrete}
use lib.ListN.{length}
use Rattle.trees.specs.Tree.{Tree, leaf, height}
use Rattle.words.specs.Layout.{left, right, count, slot_root}
use Rattle.words.specs.Counting.{same, occ}
use Rattle.words.specs.Reads.{Reads}
use Rattle.words.specs.Sound.{Chain}
use Rattle.words.specs.Owned.{when, idle, kids, held, names, Live, Owned}
use Rattle.words.proofs.Counts.{same_eq, same_ne, same_le, occ_le, occ-first, occ_more, sum_at, sum_le}
use Rattle.words.proofs.Holding.{reads_link, reads_left, reads_right}

pub when_pos : (c x : ℕ) → 1 ≤ c → when c x ≡ x
unfolding when
when_pos zero x h = absurd (omega arith)
when_pos (suc c) x h = refl

pub when_zero : (c x : ℕ) → c ≡ 0 → when c x ≡ 0
unfolding when
when_zero zero x h = refl
when_zero (suc c) x h = absurd (omega arith)

pub when_le : (c x : ℕ) → when c x ≤ x
unfolding when
when_le zero x = omega arith
when_le (suc c) x = omega arith

pub idle_pos : (c : ℕ) → 1 ≤ c → idle c ≡ 0
unfolding idle
idle_pos zero h = absurd (omega arith)
idle_pos (suc c) h = refl

pub idle_zero : (c : ℕ) → c ≡ 0 → idle c ≡ 1
unfolding idle
idle_zero zero h = refl
idle_zero (suc c) h = absurd (omega arith)

-- The free list, where the left words of its nodes are kept.
pub chain_kept : (n : ℕ) (ws ws' : List ℕ) (h : ℕ) (F : List ℕ) → ((f : ℕ) → 1 ≤ f → f ≤ n → 1 ≤ occ f F → left ws' f ≡ left ws f) →
    Chain n ws h F → Chain n ws' h F
chain_kept n ws ws' h [] k c = c
chain_kept n ws ws' h (f ∷ F) k c = (
  c.0,
  c.1,
  c.2,
  rw (k f c.1 c.2 (omega (arith, occ-first f F))) (chain_kept n ws ws' (left ws f) F (λ g p q m. k g p q (omega (arith, occ_more f g F))) c.3),
)

-- Its nodes are among the n.
pub chain_in : (n : ℕ) (ws : List ℕ) (h : ℕ) (F : List ℕ) (i : ℕ) → Chain n ws h F → 1 ≤ occ i F → (1 ≤ i) × (i ≤ n)
unfolding occ
chain_in n ws h [] i c m = absurd (omega arith)
chain_in n ws h (f ∷ F) i c m = go (ℕ_discrete f i) (chain_in n ws (left ws f) F i c.3)
  where
    go : Dec (f ≡ i) → (1 ≤ occ i F → (1 ≤ i) × (i ≤ n)) → (1 ≤ i) × (i ≤ n)
    go (yes e) ih = (omega arith, omega arith)
    go (no g) ih = ih (omega (arith, same_ne f i g))

module _ (Valid : ℕ → Tree → ℕ → Type 0) (n v : ℕ) (ws P : List ℕ) (o : Owned Valid n v ws P) where
  -- The names of x by node j, by slot s and by P are each among its count.
  pub kids_count : (x j : ℕ) → 1 ≤ x → x ≤ n → 1 ≤ j → j ≤ n → kids ws x j + occ x P ≤ count ws x
  unfolding names
  kids_count x j p q p' q' = let s = sum_at (kids ws x) 1 n j p' (omega arith) in omega (arith, o.counts x p q)

  pub held_count : (x s : ℕ) → 1 ≤ x → x ≤ n → s < v → held n ws x s + occ x P ≤ count ws x
  unfolding names
  held_count x s p q h = let r = sum_at (held n ws x) 0 v s (omega arith) (omega arith) in omega (arith, o.counts x p q)

  pub occ_count : (x : ℕ) → 1 ≤ x → x ≤ n → occ x P ≤ count ws x
  unfolding names
  occ_count x p q = omega (arith, o.counts x p q)

  -- At most two names by each node, one by each slot: no count of a sound arena comes near what 32 bits hold.
  pub count_small : (x : ℕ) → 1 ≤ x → x ≤ n → count ws x ≤ n * 2 + v + length P
  unfolding names kids held
  count_small x p q =
      let a = sum_le 2 (kids ws x) 1 n (λ j.
      omega (arith, when_le (count ws j) (same (left ws j) x + same (right ws j) x), same_le (left ws j) x, same_le (right ws j) x)) in
      let b = sum_le 1 (held n ws x) 0 v (λ s. same_le (slot_root n ws s) x) in
      omega (arith, o.counts x p q, occ_le x P)

  -- Names of x by a live node's links, by a slot.
  pub left_kids : (j : ℕ) → 1 ≤ count ws j → 1 ≤ kids ws (left ws j) j
  unfolding kids
  left_kids j l =
      omega (arith, when_pos (count ws j) (same (left ws j) (left ws j) + same (right ws j) (left ws j)) l, same_eq (left ws j) (left ws j) refl)

  pub right_kids : (j : ℕ) → 1 ≤ count ws j → 1 ≤ kids ws (right ws j) j
  unfolding kids
  right_kids j l =
      omega (arith, when_pos (count ws j) (same (left ws j) (right ws j) + same (right ws j) (right ws j)) l, same_eq (right ws j) (right ws j) refl)

  pub root_held : (s : ℕ) → 1 ≤ held n ws (slot_root n ws s) s
  unfolding held
  root_held s = omega (arith, same_eq (slot_root n ws s) (slot_root n ws s) refl)

  -- Links of live nodes, of slots and of P are none or live.
  pub live_left : (j : ℕ) → Live n ws j → (left ws j ≡ 0) ⊎ Live n ws (left ws j)
  live_left j l =
      ⊎_elim
      inl
      (λ b. inr (b.0, b.1, omega (arith, kids_count (left ws j) j b.0 b.1 l.0 l.1, left_kids j l.2)))
      (reads_left n ws j (o.trees j l).0 l.0 (o.trees j l).1)

  pub live_right : (j : ℕ) → Live n ws j → (right ws j ≡ 0) ⊎ Live n ws (right ws j)
  live_right j l =
      ⊎_elim
      inl
      (λ b. inr (b.0, b.1, omega (arith, kids_count (right ws j) j b.0 b.1 l.0 l.1, right_kids j l.2)))
      (reads_right n ws j (o.trees j l).0 l.0 (o.trees j l).1)

  pub live_root : (s : ℕ) (t : Tree) → s < v → Reads n ws (slot_root n ws s) t → (slot_root n ws s ≡ 0) ⊎ Live n ws (slot_root n ws s)
  live_root s t h r =
      ⊎_elim
      inl
      (λ b. inr (b.0, b.1, omega (arith, held_count (slot_root n ws s) s b.0 b.1 h, root_held s)))
      (reads_link n ws (slot_root n ws s) t r)

  pub live_pending : (p : ℕ) → 1 ≤ occ p P → (p ≡ 0) ⊎ Live n ws p
  live_pending zero h = inl refl
  live_pending (suc p) h =
      let b = o.pending (suc p) h in
      inr (omega arith, b, omega (arith, occ_count (suc p) (omega arith) b))

  -- A link that the call holds has a tree.
  pub pending_tree : (p : ℕ) → 1 ≤ occ p P → (t : Tree) × Reads n ws p t × (height t ≤ o.bound)
  pending_tree p h = ⊎_elim (λ e. (leaf, e, omega arith)) (λ a. o.trees p a) (live_pending p h)
