-- The first free node is taken and written: it names the two links that the call held, and the call holds it.
use mathlib.Core.Path.{◌≡◌, refl, ap, sym, ◌∙◌, subst}
use mathlib.Core.Logic.{inl, inr, ⊎_elim}
use mathlib.Core.List.{List, [], ◌∷◌}
use Prim.Native.Nat.{ℕ, zero, suc, ◌+◌, ◌≤◌}
use native.Mathlib.Omega.{arith}
use native.Mathlib.Decide.{ℕ_discrete}
use Rattle.trees.specs.Tree.{Entry, Color, kept, Tree, node, height}
use Rattle.words.specs.Layout.{head, left, right, count}
use Rattle.words.specs.Counting.{same, occ}
use Rattle.words.specs.Reads.{Reads}
use Rattle.words.specs.Sound.{Chain}
use Rattle.words.specs.Owned.{idle, kids, names, Live, Owned, idle_at, idles}
use Rattle.words.specs.Model.{making}
use Rattle.words.proofs.Counts.{occ-first, occ-rest, occ_more, sum_change, sum_none}
use Rattle.words.proofs.Holding.{agree_left}
use Rattle.words.proofs.OwnedLaws.{when_pos, when_zero, idle_pos, idle_zero, chain_kept, live_pending, pending_tree}
use Rattle.words.proofs.Changes.{Outside, outside_shaped, only_outside, only_agree, only_count, names_change, Made, is_made}
use Rattle.words.proofs.Recounting.{owned_long, pending_first}
use Rattle.words.proofs.Freeing.{else_frame, else_tree, else_version}

module _ (Valid : ℕ → Tree → ℕ → Type 0) (n v i : ℕ) (c : Color) (l : ℕ) (e : Entry) (r : ℕ) (ws ws' R F : List ℕ)
    (o : Owned Valid n v ws (l ∷ (r ∷ R))) (u : Made i c l e r ws ws') (taken : o.free ≡ i ∷ F) where
  old_chain : Chain n ws (head ws) (i ∷ F)
  old_chain = subst (λ (z : List ℕ). Chain n ws (head ws) z) taken o.chain

  abbrev low : 1 ≤ i
  low = old_chain.1

  abbrev high : i ≤ n
  high = old_chain.2

  -- It was not live.
  was_idle : (occ i F ≡ 0) × (count ws i ≡ 0)
  was_idle =
      let a = ap (occ i) taken in
      let g = o.frees i low high in
      let s = occ-first i F in
      go (count ws i) refl (omega arith)
    where
      go : (z : ℕ) → count ws i ≡ z → suc (occ i F) ≡ idle (count ws i) → (occ i F ≡ 0) × (count ws i ≡ 0)
      go zero e a = let y = idle_zero (count ws i) e in (omega arith, e)
      go (suc z) e a = let y = idle_pos (count ws i) (omega arith) in absurd (omega arith)

  lone : count ws i ≤ occ i (l ∷ (r ∷ R))
  lone = omega (arith, was_idle.1)

  made_counts : (x : ℕ) → 1 ≤ x → x ≤ n → count ws' x ≡ names n v ws' (i ∷ R) x
  unfolding occ kids
  made_counts x p q =
      go
      (ℕ_discrete x i)
      (names_change n i ws ws' u.only low high v (l ∷ (r ∷ R)) (i ∷ R) x)
      (when_zero (count ws i) (same (left ws i) x + same (right ws i) x) was_idle.1)
      (when_pos (count ws' i) (same (left ws' i) x + same (right ws' i) x) (omega (arith, u.count_is)) ∙ rw (u.left_is, u.right_is))
      (o.counts x p q)
    where
      go : Dec (x ≡ i) →
          names n v ws' (i ∷ R) x + kids ws x i + occ x (l ∷ (r ∷ R)) ≡ names n v ws (l ∷ (r ∷ R)) x + kids ws' x i + occ x (i ∷ R) →
          kids ws x i ≡ 0 → kids ws' x i ≡ same l x + same r x → count ws x ≡ names n v ws (l ∷ (r ∷ R)) x → count ws' x ≡ names n v ws' (i ∷ R) x
      go (yes z) m k k' c =
          let a = ap (count ws') z in
          let b = ap (count ws) z in
          let g = occ-first i R in
          let h = ap (λ (y : ℕ). occ y (i ∷ R)) z in
          let f = ap (λ (y : ℕ). occ y R) z in
          omega (arith, u.count_is, was_idle.1)
      go (no f) m k k' c =
          let a = only_count n i ws ws' u.only low high x p f in
          let g = occ-rest i x R f in
          omega arith

  made_frees : (x : ℕ) → 1 ≤ x → x ≤ n → occ x F ≡ idle (count ws' x)
  made_frees x p q = go (ℕ_discrete x i) (o.frees x p q) (ap (occ x) taken)
    where
      go : Dec (x ≡ i) → occ x o.free ≡ idle (count ws x) → occ x o.free ≡ occ x (i ∷ F) → occ x F ≡ idle (count ws' x)
      go (yes z) h t =
          let b = ap (λ (y : ℕ). occ y F) z in
          let c = idle_pos (count ws' x) (let a = ap (count ws') z in omega (arith, u.count_is)) in
          omega (arith, was_idle.0)
      go (no f) h t =
          let a = occ-rest i x F f in
          let b = ap idle (only_count n i ws ws' u.only low high x p f) in
          omega arith

  made_chain : Chain n ws' (head ws') F
  made_chain =
      rw
      u.head_is
      (chain_kept
      n
      ws
      ws'
      (left ws i)
      F
      (λ f p q m. agree_left ws ws' f (only_agree n i ws ws' u.only low high f p (λ z. let a = ap (λ (y : ℕ). occ y F) z in omega (arith, was_idle.0))))
      old_chain.3)

  -- A link that the call held is read as before.
  reads_before : (p : ℕ) (t : Tree) → 1 ≤ occ p (l ∷ (r ∷ R)) → Reads n ws p t → Reads n ws' p t
  reads_before p t h =
      else_frame
      Valid
      n
      v
      i
      ws
      ws'
      (l ∷ (r ∷ R))
      o
      u.only
      low
      high
      lone
      p
      t
      (⊎_elim inl (λ a. inr (a, λ z. let y = ap (count ws) z in omega (arith, was_idle.1))) (live_pending Valid n v ws (l ∷ (r ∷ R)) o p h))

  left_held : 1 ≤ occ l (l ∷ (r ∷ R))
  left_held = omega (arith, occ-first l (r ∷ R))

  right_held : 1 ≤ occ r (l ∷ (r ∷ R))
  right_held = omega (arith, occ-first r R, occ_more l r (r ∷ R))

  -- The new node holds the tree of its parts.
  made_tree : (tl tr : Tree) → Reads n ws l tl → Reads n ws r tr → Reads n ws' i (node (kept i) c tl e tr)
  made_tree tl tr hl hr = (
    refl,
    record { low = low; high = high; color_is = u.color_is; entry_is = u.entry_is },
    rw u.left_is (reads_before l tl left_held hl),
    rw u.right_is (reads_before r tr right_held hr),
  )

  made_trees : (j : ℕ) → Live n ws' j → (t : Tree) × Reads n ws' j t × (height t ≤ suc o.bound)
  made_trees j a = go (ℕ_discrete j i)
    where
      go : Dec (j ≡ i) → (t : Tree) × Reads n ws' j t × (height t ≤ suc o.bound)
      go (yes z) =
          let tl = pending_tree Valid n v ws (l ∷ (r ∷ R)) o l left_held in
          let tr = pending_tree Valid n v ws (l ∷ (r ∷ R)) o r right_held in
          (node (kept i) c tl.0 e tr.0, rw z (made_tree tl.0 tr.0 tl.1 tr.1), omega (arith, tl.2, tr.2))
      go (no f) =
          let t =
          else_tree Valid n v i ws ws' (l ∷ (r ∷ R)) o u.only low high lone j a f in
          (t.0, t.1, omega (arith, t.2))

  made_owned : Owned Valid n v ws' (i ∷ R)
  made_owned =
      record {
        shaped = outside_shaped n ws ws' (only_outside n i ws ws' u.only low high) v o.shaped;
        bound = suc o.bound;
        trees = made_trees;
        counts = made_counts;
        pending = pending_first n i R high (λ p h. o.pending p (omega (arith, occ_more l p (r ∷ R), occ_more r p R)));
        free = F;
        chain = made_chain;
        frees = made_frees;
        versions = else_version Valid n v i ws ws' (l ∷ (r ∷ R)) o u.only low high lone;
      }

-- Where a node is free, the free list begins with one.
module _ (Valid : ℕ → Tree → ℕ → Type 0) (n v : ℕ) (ws P : List ℕ) (o : Owned Valid n v ws P) where
  pub first_free : 1 ≤ idles n ws → (F : List ℕ) × (o.free ≡ head ws ∷ F)
  unfolding idles idle_at occ
  first_free h = go o.free refl o.chain
    where
      go : (F : List ℕ) → o.free ≡ F → Chain n ws (head ws) F → (G : List ℕ) × (F ≡ head ws ∷ G)
      go [] z c =
          absurd (omega (arith, sum_none (idle_at ws) 1 n (λ j p q. sym (o.frees j p (omega arith)) ∙ ap (occ j) z)))
      go (f ∷ F) z c = (F, ap (λ (y : ℕ). y ∷ F) (sym c.0))

-- Make node, by its model.
module _ (Valid : ℕ → Tree → ℕ → Type 0) (n v : ℕ) (c : Color) (l : ℕ) (e : Entry) (r : ℕ) (ws R : List ℕ) (o : Owned Valid n v ws (l ∷ (r ∷ R)))
    (some : 1 ≤ idles n ws) where
  abbrev F : List ℕ
  F = (first_free Valid n v ws (l ∷ (r ∷ R)) o some).0

  abbrev taken : o.free ≡ head ws ∷ F
  taken = (first_free Valid n v ws (l ∷ (r ∷ R)) o some).1

  -- The node that is taken: the head of the free list, one of the n, with count 0.
  pub head_in : (1 ≤ head ws) × (head ws ≤ n)
  head_in = let h = subst (λ (z : List ℕ). Chain n ws (head ws) z) taken o.chain in (h.1, h.2)

  pub made : Made (head ws) c l e r ws (making ws c l e r)
  made = is_made ws head_in.0 (omega (arith, head_in.1, owned_long Valid n v ws (l ∷ (r ∷ R)) o)) c l e r

  pub head_idle : count ws (head ws) ≡ 0
  head_idle = (was_idle Valid n v (head ws) c l e r ws (making ws c l e r) R F o made taken).1

  pub making_owned : Owned Valid n v (making ws c l e r) (head ws ∷ R)
  making_owned = made_owned Valid n v (head ws) c l e r ws (making ws c l e r) R F o made taken

  pub making_tree : (tl tr : Tree) → Reads n ws l tl → Reads n ws r tr → Reads n (making ws c l e r) (head ws) (node (kept (head ws)) c tl e tr)
  making_tree = made_tree Valid n v (head ws) c l e r ws (making ws c l e r) R F o made taken

  -- What the call held besides is read as before.
  pub making_reads : (p : ℕ) (t : Tree) → 1 ≤ occ p (l ∷ (r ∷ R)) → Reads n ws p t → Reads n (making ws c l e r) p t
  making_reads = reads_before Valid n v (head ws) c l e r ws (making ws c l e r) R F o made taken

  -- One free node less.
  pub making_idles : idles n (making ws c l e r) + 1 ≡ idles n ws
  unfolding idles idle_at
  making_idles =
      let ws' = making ws c l e r in
      let h = head_in in
      let z =
      sum_change
      (idle_at ws')
      (idle_at ws)
      1
      n
      (head ws)
      h.0
      (omega (arith, h.1))
      (λ j p q f. ap idle (only_count n (head ws) ws ws' made.only h.0 h.1 j p f)) in
      let a = idle_pos (count ws' (head ws)) (omega (arith, made.count_is)) in
      let b = idle_zero (count ws (head ws)) head_idle in
      omega arith

  -- The frame: only the head of the free list and the words of the node that was taken may change.
  pub making_outside : Outside n ws (making ws c l e r)
  making_outside = only_outside n (head ws) ws (making ws c l e r) made.only head_in.0 head_in.1
