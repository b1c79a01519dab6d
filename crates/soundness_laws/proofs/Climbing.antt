-- In a sound arena every live node gets into the queue: one that did not would have a parent that
-- did not, whose tree is higher.
use mathlib.Core.Path.{◌≡◌}
use mathlib.Core.Logic.{◌⊎◌, inl, inr}
use mathlib.Core.List.{List, []}
use Prim.Native.Nat.{ℕ, zero, suc, ◌+◌, ◌≤◌, ◌<◌}
use native.Mathlib.Omega.{arith}
use native.Mathlib.Decide.{ℕ_discrete, dec_le, dec_lt}
use Rattle.trees.specs.Tree.{Tree, height}
use Rattle.words.specs.Layout.{nodes, slots, left, right, count}
use Rattle.words.specs.Counting.{same, occ}
use Rattle.words.specs.Reads.{Reads}
use Rattle.words.specs.Owned.{kids, names, Live, Owned, Sized}
use Rattle.words.proofs.Counts.{same_ne}
use Rattle.words.proofs.Holding.{low_left, low_right}
use Rattle.words.proofs.OwnedLaws.{when_pos, when_zero, when_le}
use Rattle.soundness_laws.specs.Queue.{met, Full}
use Rattle.soundness_laws.proofs.Adding.{by_list, list_sum, sum_less}
use Rattle.soundness_laws.proofs.Arriving.{full_once}

module _ (ws : List ℕ) (o : Owned Sized (nodes ws) (slots ws) ws []) (Q : List ℕ) (F : Full ws (met ws (slots ws) Q) Q) where
  abbrev Names : ℕ → ℕ → Type 0
  Names j x = (left ws j ≡ x) ⊎ (right ws j ≡ x)

  -- Node j has a name of x that was not met.
  missed : (x j : ℕ) → by_list (left ws) (right ws) x Q j < kids ws x j → (1 ≤ count ws j) × (occ j Q ≡ 0) × Names j x
  unfolding by_list kids
  missed x j h = (live (dec_le 1 (count ws j)), out (dec_le 1 (occ j Q)), names_it (ℕ_discrete (left ws j) x) (ℕ_discrete (right ws j) x))
    where
      live : Dec (1 ≤ count ws j) → 1 ≤ count ws j
      live (yes l) = l
      live (no l) = absurd (omega (arith, when_zero (count ws j) (same (left ws j) x + same (right ws j) x) (omega arith)))

      out : Dec (1 ≤ occ j Q) → occ j Q ≡ 0
      out (yes l) =
          absurd (omega (
            arith,
            when_pos (occ j Q) (same (left ws j) x + same (right ws j) x) l,
            when_le (count ws j) (same (left ws j) x + same (right ws j) x),
          ))
      out (no l) = omega arith

      names_it : Dec (left ws j ≡ x) → Dec (right ws j ≡ x) → Names j x
      names_it (yes e) d = inl e
      names_it (no e) (yes d) = inr d
      names_it (no e) (no d) =
          absurd (omega (
            arith,
            when_le (count ws j) (same (left ws j) x + same (right ws j) x),
            same_ne (left ws j) x e,
            same_ne (right ws j) x d,
          ))

  unmet : (x : ℕ) → Live (nodes ws) ws x → occ x Q ≡ 0 → Dec (met ws (slots ws) Q x < count ws x) → met ws (slots ws) Q x < count ws x
  unmet x l z (yes h) = h
  unmet x l z (no h) =
      let b = F.low x l.0 l.1 in
      absurd (omega (arith, F.all x l.0 l.1 l.2 (omega arith)))

  parent : (x : ℕ) → Live (nodes ws) ws x → occ x Q ≡ 0 → (j : ℕ) × Live (nodes ws) ws j × (occ j Q ≡ 0) × Names j x
  unfolding met names occ
  parent x l z =
      let m = unmet x l z (dec_lt (met ws (slots ws) Q x) (count ws x)) in
      let c = o.counts x l.0 l.1 in
      let s = list_sum (left ws) (right ws) x (nodes ws) Q F.inside (full_once ws (met ws (slots ws) Q) Q F) in
      let r = sum_less (by_list (left ws) (right ws) x Q) (kids ws x) 1 (nodes ws) (omega arith) in
      let k = missed x r.0 r.3 in
      (r.0, (r.1, omega (arith, r.2), k.0), k.1, k.2)

  higher : (x j : ℕ) (t : Tree) → Live (nodes ws) ws j → Names j x → Reads (nodes ws) ws x t →
      (u : Tree) × Reads (nodes ws) ws j u × (suc (height t) ≤ height u) × (height u ≤ o.bound)
  higher x j t m (inl e) r = let u = o.trees j m in (u.0, u.1, low_left (nodes ws) ws j u.0 t m.0 u.1 (rw e r), u.2)
  higher x j t m (inr e) r = let u = o.trees j m in (u.0, u.1, low_right (nodes ws) ws j u.0 t m.0 u.1 (rw e r), u.2)

  climb : (k x : ℕ) (t : Tree) → Live (nodes ws) ws x → occ x Q ≡ 0 → Reads (nodes ws) ws x t → o.bound < height t + k → ⊥
  climb zero x t l z r b =
      let p = parent x l z in
      let u = higher x p.0 t p.1 p.3 r in
      omega (arith, u.2, u.3)
  climb (suc k) x t l z r b =
      let p = parent x l z in
      let u = higher x p.0 t p.1 p.3 r in
      climb k p.0 u.0 p.1 p.2 u.1 (omega (arith, u.2))

  pub live_queued : (x : ℕ) → Live (nodes ws) ws x → occ x Q ≡ 1
  live_queued x l = go (dec_le 1 (occ x Q))
    where
      go : Dec (1 ≤ occ x Q) → occ x Q ≡ 1
      go (yes h) = omega (arith, full_once ws (met ws (slots ws) Q) Q F x)
      go (no h) = absurd (let t = o.trees x l in climb (suc o.bound) x t.0 l (omega arith) t.1 (omega arith))
