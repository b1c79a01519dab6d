-- The free number of a sound arena is N less the number of different reachable nodes, whatever the witnesses.
use mathlib.Core.Path.{◌≡◌, refl, sym, ◌∙◌, subst}
use mathlib.Core.Logic.{⊎_elim}
use mathlib.Core.List.{List, [], ◌∷◌}
use Prim.Native.Nat.{ℕ, zero, suc, ◌+◌, ◌≤◌, ◌<◌}
use native.Mathlib.Omega.{arith}
use native.Mathlib.Decide.{dec_le}
use lib.ListN.{length}
use Rattle.trees.specs.Tree.{Tree}
use Rattle.words.specs.Layout.{nodes, head, left, count, slot_root}
use Rattle.words.specs.Counting.{occ, sum}
use Rattle.words.specs.Reads.{Held}
use Rattle.words.specs.Sound.{Reached, AllReached, Chain, Sound, free_number}
use Rattle.words.specs.Owned.{idle, Owned, idle_at, idles}
use Rattle.words.proofs.Counts.{sum_same, length_sum, times}
use Rattle.words.proofs.Holding.{reads_same}
use Rattle.words.proofs.OwnedLaws.{chain_in}
use Rattle.words.proofs.SoundOwned.{reached_in, use_or_free, sound_frees}

-- Two sums that make 1 at each number make n together.
sum_ones : (f g : ℕ → ℕ) (a n : ℕ) → ((j : ℕ) → a ≤ j → j < a + n → f j + g j ≡ 1) → sum f a n + sum g a n ≡ n
unfolding sum
sum_ones f g a zero h = omega arith
sum_ones f g a (suc n) h = omega (arith, h a (omega arith) (omega arith), sum_ones f g (suc a) n (λ j p q. h j (omega arith) (omega arith)))

-- A free list that has each node of count 0 once is as long as there are such nodes.
chain_idles : (n : ℕ) (ws F : List ℕ) → Chain n ws (head ws) F → ((i : ℕ) → 1 ≤ i → i ≤ n → occ i F ≡ idle (count ws i)) → length F ≡ idles n ws
unfolding idles idle_at times
chain_idles n ws F c f =
    let a = length_sum 1 n F (λ x h. let b = chain_in n ws (head ws) F x c h in (b.0, omega (arith, b.1))) in
    let b = sum_same (times F) (idle_at ws) 1 n (λ j p q. f j p (omega arith)) in
    omega arith

pub free-idles : (Valid : ℕ → Tree → ℕ → Type 0) (n v : ℕ) (ws P : List ℕ) (o : Owned Valid n v ws P) → length o.free ≡ idles n ws
free-idles Valid n v ws P o = chain_idles n ws o.free o.chain o.frees

module _ (ws : List ℕ) (S : Sound ws) where
  pub sound_idles : free_number S ≡ idles (nodes ws) ws
  sound_idles = chain_idles (nodes ws) ws S.books.free S.books.free_listed (sound_frees ws S)

  -- "the free nodes are exactly the nodes not reachable": together they are N.
  pub free_reached : free_number S + length S.books.reached ≡ nodes ws
  unfolding times
  free_reached =
      let F = S.books.free in
      let R = S.books.reached in
      let a =
      length_sum 1 (nodes ws) F (λ x h. let b = chain_in (nodes ws) ws (head ws) F x S.books.free_listed h in (b.0, omega (arith, b.1))) in
      let b =
      length_sum 1 (nodes ws) R (λ x h. let b = reached_in ws S (S.books.all_reached.listed x h) in (b.0, omega (arith, b.1))) in
      omega (arith, sum_ones (times F) (times R) 1 (nodes ws) (λ j p q. one j p (omega arith)))
    where
      one : (j : ℕ) → 1 ≤ j → j ≤ nodes ws → occ j S.books.free + occ j S.books.reached ≡ 1
      one j p q =
          ⊎_elim
          (λ w. omega (arith, w.0, w.2, S.books.all_reached.once j))
          (λ w. omega (arith, w.0, w.2))
          (use_or_free ws S j p q)

  -- Any list of the reachable nodes, each once, has that length.
  pub free_number_is : (xs : List ℕ) → AllReached ws xs → free_number S + length xs ≡ nodes ws
  unfolding times
  free_number_is xs r =
      let R = S.books.reached in
      let inside : (x : ℕ) → Reached ws x → (1 ≤ x) × (x < 1 + nodes ws) = λ x q. ((reached_in ws S q).0, omega (arith, (reached_in ws S q).1)) in
      let a = length_sum 1 (nodes ws) xs (λ x h. inside x (r.listed x h)) in
      let b = length_sum 1 (nodes ws) R (λ x h. inside x (S.books.all_reached.listed x h)) in
      omega (arith, free_reached, sum_same (times xs) (times R) 1 (nodes ws) (λ j p q. alike j (dec_le 1 (occ j xs)) (dec_le 1 (occ j R))))
    where
      alike : (j : ℕ) → Dec (1 ≤ occ j xs) → Dec (1 ≤ occ j S.books.reached) → occ j xs ≡ occ j S.books.reached
      alike j (yes p) (yes q) = omega (arith, r.once j, S.books.all_reached.once j)
      alike j (yes p) (no q) = absurd (q (S.books.all_reached.all j (r.listed j p)))
      alike j (no p) (yes q) = absurd (p (r.all j (S.books.all_reached.listed j q)))
      alike j (no p) (no q) = omega arith

-- Claims made from a `Sound` do not depend on its witnesses.
module _ (ws : List ℕ) (S S' : Sound ws) where
  pub same_free : free_number S ≡ free_number S'
  same_free = sound_idles ws S ∙ sym (sound_idles ws S')

  pub same_tree : (s : ℕ) (h h' : Held ws s) → S.trees.tree s h ≡ S'.trees.tree s h'
  same_tree s h h' =
      reads_same
      (nodes ws)
      ws
      (slot_root (nodes ws) ws s)
      (S.trees.tree s h)
      (S'.trees.tree s h')
      (S.trees.links s h)
      (S'.trees.links s h')

  -- One free list, in one order: it is read from the head.
  pub same_list : S.books.free ≡ S'.books.free
  same_list = chain_same S.books.free S'.books.free (head ws) S.books.free_listed S'.books.free_listed
    where
      chain_same : (F G : List ℕ) (i : ℕ) → Chain (nodes ws) ws i F → Chain (nodes ws) ws i G → F ≡ G
      chain_same [] [] i c d = refl
      chain_same [] (g ∷ G) i c d = absurd (omega (arith, c, d.0, d.1))
      chain_same (f ∷ F) [] i c d = absurd (omega (arith, d, c.0, c.1))
      chain_same (f ∷ F) (g ∷ G) i c d =
          let e : f ≡ g = sym c.0 ∙ d.0 in
          let t = chain_same F G (left ws f) c.3 (subst (λ (z : ℕ). Chain (nodes ws) ws (left ws z) G) (sym e) d.3) in
          cc
