-- A sound arena is owned, with no link pending.
use mathlib.Core.Path.{◌≡◌, refl, ap, sym, ◌∙◌}
use mathlib.Core.Logic.{◌⊎◌, inl, inr, ⊎_elim}
use mathlib.Core.List.{List, [], ◌∷◌, map}
use Prim.Native.Nat.{ℕ, ◌+◌, ◌≤◌, ◌<◌}
use native.Mathlib.Omega.{arith}
use native.Mathlib.Decide.{ℕ_discrete, dec_lt, dec_le}
use Rattle.trees.specs.Tree.{Tree, leaf, node, height}
use Rattle.trees.specs.Shape.{Fine}
use Rattle.words.specs.Layout.{nodes, slots, left, right, count, slot_root, not_held}
use Rattle.words.specs.Counting.{same, occ, sum}
use Rattle.words.specs.Reads.{Reads, Held}
use Rattle.words.specs.Sound.{Reached, from_slot, from_left, from_right, named, Sound}
use Rattle.words.specs.Owned.{when, idle, kids, held, names, Live, Version, Owned, Sized}
use Rattle.words.proofs.Counts.{same_eq, same_ne, occ_map, sum_same, sum_change, sum_at, sum_none}
use Rattle.words.proofs.Holding.{reads_link, reads_same}
use Rattle.words.proofs.OwnedLaws.{when_pos, when_zero, idle_pos, idle_zero}
use Rattle.words.proofs.OwnedSound.{held_roots}

-- The names by two links of the nodes xs, as a sum over all numbers.
by_list : (ws : List ℕ) (i : ℕ) → List ℕ → ℕ → ℕ
by_list ws i xs j = when (occ j xs) (same (left ws j) i + same (right ws j) i)

list_sum : (ws : List ℕ) (i n : ℕ) (xs : List ℕ) → ((x : ℕ) → 1 ≤ occ x xs → (1 ≤ x) × (x ≤ n)) → ((x : ℕ) → occ x xs ≤ 1) →
    occ i (map (left ws) xs) + occ i (map (right ws) xs) ≡ sum (by_list ws i xs) 1 n
unfolding occ by_list
list_sum ws i n [] m o = sym (sum_none (by_list ws i []) 1 n (λ j p q. when_zero 0 (same (left ws j) i + same (right ws j) i) refl))
list_sum ws i n (x ∷ xs) m o =
    let e = same_eq x x refl in
    let b = m x (omega arith) in
    let z = o x in
    let z0 : occ x xs ≡ 0 = omega arith in
    let w0 = when_zero (occ x xs) (same (left ws x) i + same (right ws x) i) z0 in
    let w1 = when_pos (same x x + occ x xs) (same (left ws x) i + same (right ws x) i) (omega arith) in
    let c =
    sum_change
    (by_list ws i (x ∷ xs))
    (by_list ws i xs)
    1
    n
    x
    b.0
    (omega (arith, b.1))
    (λ j p q f. ap (λ (z : ℕ). when z (same (left ws j) i + same (right ws j) i)) (let a = same_ne x j (λ y. f (sym y)) in omega arith)) in
    let r = list_sum ws i n xs (λ y h. m y (omega arith)) (λ y. omega (arith, o y)) in
    omega arith

module _ (ws : List ℕ) (S : Sound ws) where
  abbrev tree : (s : ℕ) → Held ws s → Tree
  tree s h = S.trees.tree s h

  -- The heights of the slots' trees, and a bound on them.
  slot_height : (s : ℕ) → Dec (s < slots ws) → Dec (slot_root (nodes ws) ws s ≡ not_held) → ℕ
  slot_height s (yes p) (no f) = height (tree s (record { inside = p; held = f }))
  slot_height s (yes p) (yes e) = 0
  slot_height s (no p) d = 0

  all_heights : ℕ → ℕ
  all_heights s = slot_height s (dec_lt s (slots ws)) (ℕ_discrete (slot_root (nodes ws) ws s) not_held)

  abbrev top : ℕ
  top = sum all_heights 0 (slots ws)

  slot_low : (s : ℕ) (h : Held ws s) → height (tree s h) ≤ top
  unfolding all_heights slot_height
  slot_low s h =
      go (dec_lt s (slots ws)) (ℕ_discrete (slot_root (nodes ws) ws s) not_held) (sum_at all_heights 0 (slots ws) s (omega arith) (omega (arith, h.inside)))
    where
      go : (d : Dec (s < slots ws)) (e : Dec (slot_root (nodes ws) ws s ≡ not_held)) → slot_height s d e ≤ top → height (tree s h) ≤ top
      go (yes p) (no f) b =
          let g : Held ws s = record { inside = p; held = f } in
          omega (arith, ap height (reads_same (nodes ws) ws (slot_root (nodes ws) ws s) (tree s h) (tree s g) (S.trees.links s h) (S.trees.links s g)))
      go (yes p) (yes e) b = absurd (h.held e)
      go (no p) d b = absurd (p h.inside)

  abbrev LowTree : ℕ → Type 0
  LowTree i = (t : Tree) × Reads (nodes ws) ws i t × (height t ≤ top)

  left_tree : (i : ℕ) → 1 ≤ i → LowTree i → LowTree (left ws i)
  left_tree i p (leaf, r, b) = absurd (omega arith)
  left_tree i p (node q c l e r', r, b) = (l, r.2, omega arith)

  right_tree : (i : ℕ) → 1 ≤ i → LowTree i → LowTree (right ws i)
  right_tree i p (leaf, r, b) = absurd (omega arith)
  right_tree i p (node q c l e r', r, b) = (r', r.3, omega arith)

  pub reached_some : {i : ℕ} → Reached ws i → 1 ≤ i
  reached_some (from_slot s h p) = p
  reached_some (from_left i r p) = p
  reached_some (from_right i r p) = p

  reached_tree : {i : ℕ} → Reached ws i → LowTree i
  reached_tree (from_slot s h p) = (tree s h, S.trees.links s h, slot_low s h)
  reached_tree (from_left i r p) = left_tree i (reached_some r) (reached_tree r)
  reached_tree (from_right i r p) = right_tree i (reached_some r) (reached_tree r)

  pub reached_in : {i : ℕ} → Reached ws i → (1 ≤ i) × (i ≤ nodes ws)
  reached_in {i} r =
      let t = reached_tree r in
      ⊎_elim (λ z. absurd (let p = reached_some r in omega arith)) (λ b. b) (reads_link (nodes ws) ws i t.0 t.1)

  reached_named : {i : ℕ} → Reached ws i → 1 ≤ named ws S.books.reached i
  unfolding named held
  reached_named (from_slot s h p) =
      let r = slot_root (nodes ws) ws s in
      omega (
        arith,
        held_roots ws (nodes ws) r 0 (slots ws),
        sum_at (held (nodes ws) ws r) 0 (slots ws) s (omega arith) (omega (arith, h.inside)),
        same_eq r r refl,
      )
  reached_named (from_left i r p) = omega (arith, occ_map (left ws) i S.books.reached (S.books.all_reached.all i r))
  reached_named (from_right i r p) = omega (arith, occ_map (right ws) i S.books.reached (S.books.all_reached.all i r))

  abbrev InUse : ℕ → Type 0
  InUse i = (1 ≤ occ i S.books.reached) × (1 ≤ count ws i) × (occ i S.books.free ≡ 0)

  abbrev Free : ℕ → Type 0
  Free i = (occ i S.books.reached ≡ 0) × (count ws i ≡ 0) × (occ i S.books.free ≡ 1)

  -- A node is reached, with a count above 0, or free, with count 0.
  pub use_or_free : (i : ℕ) → 1 ≤ i → i ≤ nodes ws → InUse i ⊎ Free i
  use_or_free i p q = go (dec_le 1 (occ i S.books.reached)) (dec_le 1 (occ i S.books.free))
    where
      go : Dec (1 ≤ occ i S.books.reached) → Dec (1 ≤ occ i S.books.free) → InUse i ⊎ Free i
      go (yes h) (no f) =
          let r = S.books.all_reached.listed i h in
          inl (h, omega (arith, S.books.counts i p q, reached_named r), omega arith)
      go (yes h) (yes f) = absurd (S.books.free_unreached i f (S.books.all_reached.listed i h))
      go (no h) (yes f) = inr (omega arith, S.books.free_counts i f, omega (arith, S.books.free_once i))
      go (no h) (no f) = absurd (f (S.books.unreached_free i p q (λ r. h (S.books.all_reached.all i r))))

  sound_kids : (i j : ℕ) → 1 ≤ j → j ≤ nodes ws → by_list ws i S.books.reached j ≡ kids ws i j
  unfolding by_list kids
  sound_kids i j p q =
      let x = same (left ws j) i + same (right ws j) i in
      ⊎_elim
      (λ w. when_pos (occ j S.books.reached) x w.0 ∙ sym (when_pos (count ws j) x w.1))
      (λ w. when_zero (occ j S.books.reached) x w.0 ∙ sym (when_zero (count ws j) x w.1))
      (use_or_free j p q)

  sound_counts : (i : ℕ) → 1 ≤ i → i ≤ nodes ws → count ws i ≡ names (nodes ws) (slots ws) ws [] i
  unfolding names named occ
  sound_counts i p q =
      let a =
      list_sum ws i (nodes ws) S.books.reached (λ x h. reached_in (S.books.all_reached.listed x h)) S.books.all_reached.once in
      let b = sum_same (by_list ws i S.books.reached) (kids ws i) 1 (nodes ws) (λ j u w. sound_kids i j u (omega arith)) in
      omega (arith, S.books.counts i p q, held_roots ws (nodes ws) i 0 (slots ws))

  sound_trees : (i : ℕ) → Live (nodes ws) ws i → LowTree i
  sound_trees i l =
      ⊎_elim (λ w. reached_tree (S.books.all_reached.listed i w.0)) (λ w. absurd (omega (arith, w.1, l.2))) (use_or_free i l.0 l.1)

  pub sound_frees : (i : ℕ) → 1 ≤ i → i ≤ nodes ws → occ i S.books.free ≡ idle (count ws i)
  sound_frees i p q =
      ⊎_elim
      (λ w. omega (arith, idle_pos (count ws i) w.1, w.2))
      (λ w. omega (arith, idle_zero (count ws i) w.1, w.2))
      (use_or_free i p q)

  -- The tree of a held slot is fine.
  pub slot_fine : (s : ℕ) (h : Held ws s) → Fine (tree s h)
  slot_fine s h =
      record {
        ordered = S.trees.keys s h;
        root = S.trees.roots s h;
        blacks = (S.trees.shapes s h).0;
        shape = (S.trees.shapes s h).1;
      }

  sound_version : (s : ℕ) → s < slots ws → Dec (slot_root (nodes ws) ws s ≡ not_held) → Version Sized (nodes ws) ws s
  sound_version s p (yes e) = inl (e, S.books.no_sizes s p e)
  sound_version s p (no f) =
      let h : Held ws s = record { inside = p; held = f } in inr (tree s h, S.trees.links s h, (slot_fine s h, S.books.sizes s h))

  pub sound_owned : Owned Sized (nodes ws) (slots ws) ws []
  unfolding occ
  sound_owned =
      record {
        shaped = record { limits = S.trees.limits; n_is = refl; v_is = refl };
        bound = top;
        trees = sound_trees;
        counts = sound_counts;
        pending = λ p h. absurd (omega arith);
        free = S.books.free;
        chain = S.books.free_listed;
        frees = sound_frees;
        versions = λ s h. sound_version s h (ℕ_discrete (slot_root (nodes ws) ws s) not_held);
      }
