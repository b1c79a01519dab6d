-- Node i, which only the call names, changes: all other trees stay. Freed, it gives its links to the call.
use mathlib.Core.Path.{◌≡◌, ap, sym, ◌∙◌}
use mathlib.Core.Logic.{◌⊎◌, inl, inr, ⊎_elim}
use mathlib.Core.List.{List, ◌∷◌}
use Prim.Native.Nat.{ℕ, ◌+◌, ◌≤◌, ◌<◌}
use native.Mathlib.Omega.{arith}
use native.Mathlib.Decide.{ℕ_discrete}
use Rattle.trees.specs.Tree.{Tree, height}
use Rattle.words.specs.Layout.{head, left, right, count, slot_root}
use Rattle.words.specs.Counting.{same, occ}
use Rattle.words.specs.Reads.{Reads}
use Rattle.words.specs.Sound.{Chain}
use Rattle.words.specs.Owned.{idle, kids, held, names, Live, Version, Owned}
use Rattle.words.proofs.Counts.{same_eq, same_ne, occ-first, occ-rest, occ_more}
use Rattle.words.proofs.Holding.{frame, agree_left, reads_left, reads_right}
use Rattle.words.proofs.OwnedLaws.{when_pos, when_zero, idle_pos, idle_zero, chain_kept, kids_count, held_count, left_kids, right_kids, root_held, live_left, live_right, live_root}
use Rattle.words.proofs.Changes.{outside_root, outside_size, outside_shaped, Only, only_outside, only_agree, only_count, names_change, Freed}
use Rattle.words.proofs.Recounting.{pending_first}

module _ (Valid : ℕ → Tree → ℕ → Type 0) (n v i : ℕ) (ws ws' P : List ℕ) (o : Owned Valid n v ws P) (d : Only i ws ws') (low : 1 ≤ i) (high : i ≤ n)
    (lone : count ws i ≤ occ i P) where
  abbrev Else : ℕ → Type 0
  Else j = Live n ws j × (j ≡ i → ⊥)

  else_left : (j : ℕ) → Else j → (left ws j ≡ 0) ⊎ Else (left ws j)
  else_left j e =
      ⊎_elim
      inl
      (λ l. inr (
        l,
        λ q.
            let a = kids_count Valid n v ws P o i j low high e.0.0 e.0.1 in
            let b = left_kids Valid n v ws P o j e.0.2 in
            let c = ap (λ (z : ℕ). kids ws z j) q in
            omega arith,
      ))
      (live_left Valid n v ws P o j e.0)

  else_right : (j : ℕ) → Else j → (right ws j ≡ 0) ⊎ Else (right ws j)
  else_right j e =
      ⊎_elim
      inl
      (λ l. inr (
        l,
        λ q.
            let a = kids_count Valid n v ws P o i j low high e.0.0 e.0.1 in
            let b = right_kids Valid n v ws P o j e.0.2 in
            let c = ap (λ (z : ℕ). kids ws z j) q in
            omega arith,
      ))
      (live_right Valid n v ws P o j e.0)

  else_root : (s : ℕ) (t : Tree) → s < v → Reads n ws (slot_root n ws s) t → (slot_root n ws s ≡ 0) ⊎ Else (slot_root n ws s)
  else_root s t h r =
      ⊎_elim
      inl
      (λ l. inr (
        l,
        λ q.
            let a = held_count Valid n v ws P o i s low high h in
            let b = root_held Valid n v ws P o s in
            let c = ap (λ (z : ℕ). held n ws z s) q in
            omega arith,
      ))
      (live_root Valid n v ws P o s t h r)

  pub else_frame : (j : ℕ) (t : Tree) → (j ≡ 0) ⊎ Else j → Reads n ws j t → Reads n ws' j t
  else_frame = frame n ws ws' Else (λ j e. only_agree n i ws ws' d low high j e.0.0 e.1) else_left else_right

  else_live : (j : ℕ) → Live n ws' j → (j ≡ i → ⊥) → Else j
  else_live j l f = ((l.0, l.1, omega (arith, only_count n i ws ws' d low high j l.0 f)), f)

  pub else_tree : (j : ℕ) → Live n ws' j → (j ≡ i → ⊥) → (t : Tree) × Reads n ws' j t × (height t ≤ o.bound)
  else_tree j l f =
      let e = else_live j l f in
      let t = o.trees j e.0 in
      (t.0, else_frame j t.0 (inr e) t.1, t.2)

  pub else_version : (s : ℕ) → s < v → Version Valid n ws' s
  else_version s h =
      let out = only_outside n i ws ws' d low high in
      ⊎_elim
      (λ e. inl (outside_root n ws ws' out s ∙ e.0, outside_size n ws ws' out s ∙ e.1))
      (λ w. inr (w.0, rw (outside_root n ws ws' out s) (else_frame (slot_root n ws s) w.0 (else_root s w.0 h w.1) w.1), rw (outside_size n ws ws' out s) w.2))
      (o.versions s h)

-- Node i, named once, by the call itself, goes to the free list, and the call holds its links.
module _ (Valid : ℕ → Tree → ℕ → Type 0) (n v i : ℕ) (ws ws' R : List ℕ) (o : Owned Valid n v ws (i ∷ R)) (u : Freed i ws ws') (low : 1 ≤ i)
    (high : i ≤ n) (one : count ws i ≡ 1) where
  abbrev freed_lone : count ws i ≤ occ i (i ∷ R)
  freed_lone = omega (arith, occ-first i R)

  abbrev L : List ℕ
  L = left ws i ∷ (right ws i ∷ R)

  freed_counts : (x : ℕ) → 1 ≤ x → x ≤ n → count ws' x ≡ names n v ws' L x
  unfolding occ kids
  freed_counts x p q =
      go
      (ℕ_discrete x i)
      (names_change n i ws ws' u.only low high v (i ∷ R) L x)
      (when_pos (count ws i) (same (left ws i) x + same (right ws i) x) (omega arith))
      (when_zero (count ws' i) (same (left ws' i) x + same (right ws' i) x) u.count_is)
      (o.counts x p q)
    where
      go : Dec (x ≡ i) → names n v ws' L x + kids ws x i + occ x (i ∷ R) ≡ names n v ws (i ∷ R) x + kids ws' x i + occ x L →
          kids ws x i ≡ same (left ws i) x + same (right ws i) x → kids ws' x i ≡ 0 → count ws x ≡ names n v ws (i ∷ R) x → count ws' x ≡ names n v ws' L x
      go (yes e) m k k' c =
          let a = ap (count ws') e in
          let b = ap (count ws) e in
          let g = same_eq i x (sym e) in
          let z = u.count_is in
          omega arith
      go (no f) m k k' c =
          let a = only_count n i ws ws' u.only low high x p f in
          let g = same_ne i x (λ e. f (sym e)) in
          omega arith

  freed_idle : occ i o.free ≡ 0
  freed_idle = o.frees i low high ∙ idle_pos (count ws i) (omega arith)

  freed_frees : (x : ℕ) → 1 ≤ x → x ≤ n → occ x (i ∷ o.free) ≡ idle (count ws' x)
  freed_frees x p q = go (ℕ_discrete x i) (o.frees x p q)
    where
      go : Dec (x ≡ i) → occ x o.free ≡ idle (count ws x) → occ x (i ∷ o.free) ≡ idle (count ws' x)
      go (yes e) h =
          let a = occ-first i o.free in
          let b = ap (λ (z : ℕ). occ z (i ∷ o.free)) e in
          let c = idle_zero (count ws' x) (ap (count ws') e ∙ u.count_is) in
          let z = freed_idle in
          omega arith
      go (no f) h =
          let a = occ-rest i x o.free f in
          let b = ap idle (only_count n i ws ws' u.only low high x p f) in
          omega arith

  not_free : (f : ℕ) → 1 ≤ occ f o.free → f ≡ i → ⊥
  not_free f m e = let a = ap (λ (z : ℕ). occ z o.free) e in let z = freed_idle in omega arith

  freed_chain : Chain n ws' (head ws') (i ∷ o.free)
  freed_chain = (
    u.head_is,
    low,
    high,
    rw
        u.next
        (chain_kept
        n
        ws
        ws'
        (head ws)
        o.free
        (λ f p q m. agree_left ws ws' f (only_agree n i ws ws' u.only low high f p (not_free f m)))
        o.chain),
  )

  link_high : (x : ℕ) → (x ≡ 0) ⊎ ((1 ≤ x) × (x ≤ n)) → x ≤ n
  link_high x = ⊎_elim (λ z. omega arith) (λ b. b.1)

  freed_pending : (p : ℕ) → 1 ≤ occ p L → p ≤ n
  freed_pending =
      let t = o.trees i (low, high, omega arith) in
      pending_first
      n
      (left ws i)
      (right ws i ∷ R)
      (link_high (left ws i) (reads_left n ws i t.0 low t.1))
      (pending_first
      n
      (right ws i)
      R
      (link_high (right ws i) (reads_right n ws i t.0 low t.1))
      (λ p h. o.pending p (omega (arith, occ_more i p R))))

  freed_tree : (j : ℕ) → Live n ws' j → (t : Tree) × Reads n ws' j t × (height t ≤ o.bound)
  freed_tree j l =
      else_tree Valid n v i ws ws' (i ∷ R) o u.only low high freed_lone j l (λ e. let a = ap (count ws') e in let z = u.count_is in omega arith)

  pub freed_owned : Owned Valid n v ws' L
  freed_owned =
      record {
        shaped = outside_shaped n ws ws' (only_outside n i ws ws' u.only low high) v o.shaped;
        bound = o.bound;
        trees = freed_tree;
        counts = freed_counts;
        pending = freed_pending;
        free = i ∷ o.free;
        chain = freed_chain;
        frees = freed_frees;
        versions = else_version Valid n v i ws ws' (i ∷ R) o u.only low high freed_lone;
      }
