-- The queue is whole, and the free list is held to it.
use mathlib.Core.Path.{◌≡◌, refl, sym, ◌∙◌}
use mathlib.Core.Bool.{Bool, true, false}
use mathlib.Core.List.{List, []}
use Prim.Native.Nat.{ℕ, ◌+◌, ◌-◌, ◌≤◌, ◌<◌}
use native.Mathlib.Omega.{arith}
use native.Mathlib.Decide.{dec_le, dec_lt}
use lib.ListN.{length, take}
use lib.Seq.{length-take-le}
use Rattle.words.specs.Layout.{nodes, slots, head, left, right, count, slot_root}
use Rattle.words.specs.Counting.{same, occ, sum}
use Rattle.words.specs.Reads.{Held}
use Rattle.words.specs.Sound.{Chain, Sound, free_number}
use Rattle.words.specs.Owned.{idle, kids, held, names, Live, idle_at, idles}
use Rattle.words.proofs.Counts.{same_eq, occ_map, sum_same, sum_at, times, length_sum}
use Rattle.words.proofs.OwnedLaws.{when_pos, when_zero, idle_pos, idle_zero}
use Rattle.words.proofs.SoundOwned.{sound_owned}
use Rattle.words.proofs.FreeNumber.{sound_idles}
use Rattle.soundness_laws.specs.Answer.{Decides}
use Rattle.soundness_laws.specs.Queue.{met, Full, Reach}
use Rattle.soundness_laws.specs.Spare.{Spare, SpareList}
use Rattle.soundness_laws.specs.Whole.{Whole}
use Rattle.soundness_laws.proofs.Adding.{by_list, list_sum, sum_ones, sum_each}
use Rattle.soundness_laws.proofs.Arriving.{place, full_once, full_live}
use Rattle.soundness_laws.proofs.Sparing.{chain_once, spares_chain, chain_spares}
use Rattle.soundness_laws.proofs.Climbing.{live_queued}

module _ (ws names' queue : List ℕ) (tail : ℕ) (R : Reach ws names' queue tail) where
  abbrev Q : List ℕ
  Q = take tail queue

  abbrev F : Full ws (met ws (slots ws) Q) Q
  F = R.queued.full

  once : (x : ℕ) → occ x Q ≤ 1
  once = full_once ws (met ws (slots ws) Q) Q F

  pub reach_short : tail ≤ nodes ws
  reach_short = R.queued.short

  queue_sum : sum (times Q) 1 (nodes ws) ≡ tail
  queue_sum =
      length_sum 1 (nodes ws) Q (λ x h. ((F.inside x h).0, omega (arith, (F.inside x h).1))) ∙
      length-take-le tail queue (omega (arith, R.queued.short, R.queued.space))

  -- In a sound arena the free list has all nodes that are not in the queue.
  module _ (S : Sound ws) where
    one_each : (j : ℕ) → 1 ≤ j → j ≤ nodes ws → Dec (1 ≤ count ws j) → occ j Q + idle (count ws j) ≡ 1
    one_each j p q (yes l) = omega (arith, live_queued ws (sound_owned ws S) Q F j (p, q, l), idle_pos (count ws j) l)
    one_each j p q (no l) = let z : count ws j ≡ 0 = omega arith in omega (arith, F.idle j p q z, idle_zero (count ws j) z)

    free_rest : free_number S + tail ≡ nodes ws
    unfolding idles idle_at times
    free_rest =
        omega (
          arith,
          sound_idles ws S,
          queue_sum,
          sum_ones (times Q) (idle_at ws) 1 (nodes ws) (λ j p q. one_each j p (omega arith) (dec_le 1 (count ws j))),
        )

    sound_spares : (k : ℕ) → k ≡ nodes ws - tail → SpareList ws k
    sound_spares k e =
        let z : k ≡ free_number S = omega (arith, free_rest) in
        record { spares = rw z (chain_spares ws (head ws) S.books.free S.books.free_listed S.books.free_counts) }

  module _ (k : ℕ) (ek : k ≡ nodes ws - tail) (r : Bool) (d : Decides r (SpareList ws k)) where
    pub reach_no : r ≡ false → Sound ws → ⊥
    reach_no e S = d.no e (sound_spares S k ek)

    module _ (e : r ≡ true) where
      W : (G : List ℕ) × Chain (nodes ws) ws (head ws) G × (length G ≡ k) × ((x : ℕ) → 1 ≤ occ x G → Spare ws x)
      W = spares_chain ws (head ws) k (d.yes e).spares

      abbrev G : List ℕ
      G = W.0

      apart : (j : ℕ) → Dec (1 ≤ occ j Q) → Dec (1 ≤ occ j G) → occ j Q + occ j G ≤ 1
      apart j (yes p) (yes q) = absurd (omega (arith, (full_live ws (met ws (slots ws) Q) Q F j p).2, (W.3 j q).idle))
      apart j (yes p) (no q) = omega (arith, once j)
      apart j (no p) q = omega (arith, chain_once (nodes ws) ws (head ws) j G W.1)

      each : (j : ℕ) → 1 ≤ j → j ≤ nodes ws → occ j Q + occ j G ≡ 1
      unfolding times
      each j p q =
          let g = length_sum 1 (nodes ws) G (λ x h. ((W.3 x h).low, omega (arith, (W.3 x h).high))) in
          let l = W.2 in
          let s = reach_short in
          sum_each (times Q) (times G) 1 (nodes ws) (λ j p q. apart j (dec_le 1 (occ j Q)) (dec_le 1 (occ j G))) (omega (arith, queue_sum)) j p (omega arith)

      live : (x : ℕ) → Live (nodes ws) ws x → occ x Q ≡ 1
      live x l = go (dec_le 1 (occ x G))
        where
          go : Dec (1 ≤ occ x G) → occ x Q ≡ 1
          go (yes h) = absurd (omega (arith, (W.3 x h).idle, l.2))
          go (no h) = omega (arith, each x l.0 l.1)

      frees : (x : ℕ) → 1 ≤ x → x ≤ nodes ws → Dec (1 ≤ count ws x) → occ x G ≡ idle (count ws x)
      frees x p q (yes l) = omega (arith, each x p q, live x (p, q, l), idle_pos (count ws x) l)
      frees x p q (no l) =
          let z : count ws x ≡ 0 = omega arith in
          omega (arith, each x p q, F.idle x p q z, idle_zero (count ws x) z)

      -- A node that was met is live; so the queue has all links of what it has.
      met_in : (x : ℕ) → 1 ≤ x → x ≤ nodes ws → 1 ≤ met ws (slots ws) Q x → 1 ≤ occ x Q
      met_in x p q h = omega (arith, live x (p, q, omega (arith, F.low x p q)))

      links : (x : ℕ) → 1 ≤ occ x Q → (left ws x ≤ nodes ws) × (right ws x ≤ nodes ws)
      links x o =
          let p = place tail queue x (omega (arith, R.queued.short, R.queued.space)) o in
          rw (← p.2) ((R.past p.0 p.1).left_link, (R.past p.0 p.1).right_link)

      lefts : (x : ℕ) → 1 ≤ occ x Q → 1 ≤ left ws x → 1 ≤ occ (left ws x) Q
      unfolding met
      lefts x o p = met_in (left ws x) p (links x o).0 (omega (arith, occ_map (left ws) x Q o))

      rights : (x : ℕ) → 1 ≤ occ x Q → 1 ≤ right ws x → 1 ≤ occ (right ws x) Q
      unfolding met
      rights x o p = met_in (right ws x) p (links x o).1 (omega (arith, occ_map (right ws) x Q o))

      roots : (s : ℕ) → Held ws s → 1 ≤ slot_root (nodes ws) ws s → 1 ≤ occ (slot_root (nodes ws) ws s) Q
      unfolding met held
      roots s h p =
          let x = slot_root (nodes ws) ws s in
          met_in x p (R.links s h) (omega (
            arith,
            sum_at (held (nodes ws) ws x) 0 (slots ws) s (omega arith) (omega (arith, h.inside)),
            same_eq x x refl,
          ))

      kids_in : (x j : ℕ) → 1 ≤ j → j ≤ nodes ws → Dec (1 ≤ count ws j) → by_list (left ws) (right ws) x Q j ≡ kids ws x j
      unfolding by_list kids
      kids_in x j p q (yes l) =
          let w = same (left ws j) x + same (right ws j) x in
          when_pos (occ j Q) w (omega (arith, live j (p, q, l))) ∙ sym (when_pos (count ws j) w l)
      kids_in x j p q (no l) =
          let w = same (left ws j) x + same (right ws j) x in
          let z : count ws j ≡ 0 = omega arith in
          when_zero (occ j Q) w (F.idle j p q z) ∙ sym (when_zero (count ws j) w z)

      met_names : (x : ℕ) → met ws (slots ws) Q x ≡ names (nodes ws) (slots ws) ws [] x
      unfolding met names occ
      met_names x =
          omega (
            arith,
            list_sum (left ws) (right ws) x (nodes ws) Q F.inside once,
            sum_same (by_list (left ws) (right ws) x Q) (kids ws x) 1 (nodes ws) (λ j p q. kids_in x j p (omega arith) (dec_le 1 (count ws j))),
          )

      count_met : (x : ℕ) → 1 ≤ x → x ≤ nodes ws → Dec (met ws (slots ws) Q x < count ws x) → count ws x ≡ met ws (slots ws) Q x
      count_met x p q (yes h) = absurd (omega (arith, live x (p, q, omega arith), F.some x p q h))
      count_met x p q (no h) = omega (arith, F.low x p q)

      pub reach_whole : Whole ws queue tail
      reach_whole =
          record {
            within = R.queued.within;
            space = R.queued.space;
            short = reach_short;
            live = live;
            inside = full_live ws (met ws (slots ws) Q) Q F;
            reached = F.reached;
            past = R.past;
            lefts = lefts;
            rights = rights;
            roots = roots;
            counts = λ x p q. count_met x p q (dec_lt (met ws (slots ws) Q x) (count ws x)) ∙ met_names x;
            free = G;
            chain = W.1;
            frees = λ x p q. frees x p q (dec_le 1 (count ws x));
            rest = omega (arith, W.2, reach_short);
          }
