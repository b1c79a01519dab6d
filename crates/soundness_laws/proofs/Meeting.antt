-- The names met: one slot more, one node more, and in a sound arena never more than the count.
use mathlib.Core.Path.{◌≡◌}
use mathlib.Core.List.{List, [], ◌∷◌, ◌++◌}
use Prim.Native.Nat.{ℕ, ◌+◌, ◌≤◌}
use native.Mathlib.Omega.{arith}
use native.Mathlib.Decide.{dec_le}
use Rattle.words.specs.Layout.{nodes, slots, left, right, count, slot_root}
use Rattle.words.specs.Counting.{same, occ}
use Rattle.words.specs.Owned.{when, kids, held, names, Live, Owned, Sized}
use Rattle.words.proofs.OwnedLaws.{when_pos, when_zero}
use Rattle.soundness_laws.specs.Queue.{met}
use Rattle.soundness_laws.proofs.Adding.{sum_more, by_list, list_sum, occ_map_last, sum_below, sum_front}

pub met_slot : (ws : List ℕ) (s y : ℕ) → met ws (s + 1) [] y ≡ met ws s [] y + same (slot_root (nodes ws) ws s) y
unfolding met held
met_slot ws s y = omega (arith, sum_more (held (nodes ws) ws y) 0 s s (omega arith))

pub met_node : (ws : List ℕ) (s : ℕ) (P : List ℕ) (i y : ℕ) → met ws s (P ++ (i ∷ [])) y ≡ met ws s P y + same (left ws i) y + same (right ws i) y
unfolding met
met_node ws s P i y = omega (arith, occ_map_last (left ws) y P i, occ_map_last (right ws) y P i)

module _ (ws : List ℕ) (o : Owned Sized (nodes ws) (slots ws) ws []) (P : List ℕ) (once : (j : ℕ) → occ j P ≤ 1)
    (live : (j : ℕ) → 1 ≤ occ j P → Live (nodes ws) ws j) where
  listed_low : (x j : ℕ) → by_list (left ws) (right ws) x P j ≤ kids ws x j
  unfolding by_list kids
  listed_low x j = go (dec_le 1 (occ j P))
    where
      go : Dec (1 ≤ occ j P) → when (occ j P) (same (left ws j) x + same (right ws j) x) ≤ when (count ws j) (same (left ws j) x + same (right ws j) x)
      go (yes h) = omega (arith, when_pos (occ j P) (same (left ws j) x + same (right ws j) x) h, when_pos (count ws j) (same (left ws j) x + same (right ws j) x) (live j h).2)
      go (no h) = omega (arith, when_zero (occ j P) (same (left ws j) x + same (right ws j) x) (omega arith))

  pub met_low : (x : ℕ) → 1 ≤ x → x ≤ nodes ws → met ws (slots ws) P x ≤ count ws x
  unfolding met names occ
  met_low x p q =
      omega (
        arith,
        o.counts x p q,
        list_sum (left ws) (right ws) x (nodes ws) P (λ j h. ((live j h).0, (live j h).1)) once,
        sum_below (by_list (left ws) (right ws) x P) (kids ws x) 1 (nodes ws) (λ j a b. listed_low x j),
      )

pub slots_low : (ws : List ℕ) → Owned Sized (nodes ws) (slots ws) ws [] → (s x : ℕ) → s ≤ slots ws → 1 ≤ x → x ≤ nodes ws → met ws s [] x ≤ count ws x
unfolding met names occ
slots_low ws o s x h p q = omega (arith, o.counts x p q, sum_front (held (nodes ws) ws x) 0 s (slots ws) h)
