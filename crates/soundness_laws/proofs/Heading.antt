-- The children of the node at the front of the queue are met.
use mathlib.Core.Path.{◌≡◌, ap, sym, ◌∙◌}
use mathlib.Core.Logic.{⊎_elim}
use mathlib.Core.List.{List, []}
use Prim.Native.Nat.{ℕ, suc, ◌+◌, ◌≤◌, ◌<◌}
use native.Mathlib.Omega.{arith}
use native.Mathlib.Numerals.{add-one}
use native.Mathlib.Decide.{ℕ_discrete}
use lib.ListN.{length, get_or, take}
use lib.Seq.{take-suc}
use Rattle.std.specs.Prelude.{Option, Some, None}
use Rattle.words.specs.Layout.{nodes, slots, left, right, count}
use Rattle.words.specs.Counting.{same, occ}
use Rattle.words.specs.Sound.{Reached, from_left, from_right, Sound}
use Rattle.words.specs.Owned.{Live, Sized}
use Rattle.words.proofs.Counts.{same_eq}
use Rattle.words.proofs.OwnedLaws.{live_left, live_right}
use Rattle.words.proofs.SoundOwned.{sound_owned}
use Rattle.soundness_laws.specs.Within.{Inside}
use Rattle.soundness_laws.specs.Queue.{met, Queue, Arriving, Arrived, Surplus, Arrives, Past, Heads, Onward}
use Rattle.soundness_laws.proofs.Saying.{stopping, gone_on, stopped}
use Rattle.soundness_laws.proofs.Filling.{plus}
use Rattle.soundness_laws.proofs.Arriving.{occ_take, occ_at, full_once, full_live, queue_asks, queue_as, queue_arrived, arrived_new, arrived_link, arrived_longer, arrived_take, arrived_at}
use Rattle.soundness_laws.proofs.Meeting.{met_node, met_low}

past_kept : (ws queue queue' : List ℕ) (p : ℕ) → take (suc p) queue' ≡ take (suc p) queue → get_or queue' p 0 ≡ get_or queue p 0 → Past ws queue p → Past ws queue' p
past_kept ws queue queue' p e f h =
    record {
      left_link = rw f h.left_link;
      right_link = rw f h.right_link;
      left_after = rw (f, e) h.left_after;
      right_after = rw (f, e) h.right_after;
    }

-- i is the node at the front, l and r are its links, as they were read.
module _ (ws : List ℕ) (front : ℕ) (names queue : List ℕ) (tail : ℕ) (H : Heads ws front names queue tail) (less : front < tail) where
  abbrev f0 : ℕ → ℕ
  f0 = met ws (slots ws) (take front queue)

  front_place : front < length queue
  front_place = omega (arith, H.queued.short, H.queued.space)

  module _ (i : ℕ) (ei : i ≡ get_or queue front 0) where
    front_in : 1 ≤ occ i (take tail queue)
    front_in = rw ei (occ_at front tail queue less (omega (arith, H.queued.short, H.queued.space)))

    front_live : Live (nodes ws) ws i
    front_live = full_live ws f0 (take tail queue) H.queued.full i front_in

    pub front_inside : Inside ws i
    front_inside = omega (arith, front_live.1, H.queued.within.long_is)

    abbrev P' : List ℕ
    P' = take (suc front) queue

    met_both : (y : ℕ) → f0 y + same (left ws i) y + same (right ws i) y ≡ met ws (slots ws) P' y
    met_both y = rw (take-suc queue front 0 front_place, ← ei) (sym (met_node ws (slots ws) (take front queue) i y))

    -- In a sound arena these names are among the count.
    both_low : Sound ws → (y : ℕ) → 1 ≤ y → y ≤ nodes ws → met ws (slots ws) P' y ≤ count ws y
    both_low S y =
        let F = H.queued.full in
        met_low
        ws
        (sound_owned ws S)
        P'
        (λ j. omega (arith, occ_take j (suc front) tail queue (omega arith), full_once ws f0 (take tail queue) F j))
        (λ j o. full_live ws f0 (take tail queue) F j (omega (arith, occ_take j (suc front) tail queue (omega arith))))
        y

    module _ (l : ℕ) (el : l ≡ left ws i) where
      left_reached : 1 ≤ l → Reached ws l
      left_reached p = rw el (from_left i (H.queued.full.reached i front_in) (omega (arith, el)))

      left_over : Surplus ws names l → Sound ws → ⊥
      left_over u S =
          ⊎_elim
          (λ z. omega (arith, u.low, el))
          (λ v.
          let h : l ≤ nodes ws = omega (arith, el, v.1) in
          omega (
            arith,
            u.over h,
            H.queued.are l u.low h,
            met_both l,
            same_eq (left ws i) l (sym el),
            both_low S l u.low h,
          ))
          (live_left Sized (nodes ws) (slots ws) ws [] (sound_owned ws S) i front_live)

      module _ (names1 queue1 : List ℕ) where
        pub front_no_left : (P : ℕ → Type 0) (u : Option ℕ) → u ≡ None → Arrives ws l names queue tail names1 queue1 None → Onward ws u P
        front_no_left P u e a1 = rw e (stopping (left_over (stopped a1)))

        module _ (t : ℕ) (a1 : Arrives ws l names queue tail names1 queue1 (Some t)) where
          b1 : Arrived ws l names queue tail names1 queue1 t
          b1 = gone_on a1

          Q1 : Queue ws (plus f0 l) names1 queue1 t
          Q1 = queue_arrived ws f0 names queue tail H.queued l left_reached names1 queue1 t b1

          pub front_asks_right : Arriving ws names1 queue1 t
          front_asks_right = queue_asks ws (plus f0 l) names1 queue1 t Q1

          module _ (r : ℕ) (er : r ≡ right ws i) where
            right_reached : 1 ≤ r → Reached ws r
            right_reached p = rw er (from_right i (H.queued.full.reached i front_in) (omega (arith, er)))

            right_over : Surplus ws names1 r → Sound ws → ⊥
            right_over u S =
                ⊎_elim
                (λ z. omega (arith, u.low, er))
                (λ v.
                let h : r ≤ nodes ws = omega (arith, er, v.1) in
                omega (
                  arith,
                  u.over h,
                  Q1.are r u.low h,
                  met_both r,
                  ap (λ (z : ℕ). same z r) el,
                  same_eq (right ws i) r (sym er),
                  both_low S r u.low h,
                ))
                (live_right Sized (nodes ws) (slots ws) ws [] (sound_owned ws S) i front_live)

            module _ (names2 queue2 : List ℕ) (u : ℕ) (b2 : Arrived ws r names1 queue1 t names2 queue2 u) where
              Q2 : Queue ws (plus (plus f0 l) r) names2 queue2 u
              Q2 = queue_arrived ws (plus f0 l) names1 queue1 t Q1 r right_reached names2 queue2 u b2

              longer : tail ≤ t
              longer = arrived_longer ws l names queue tail names1 queue1 t b1

              same_take : (p : ℕ) → p ≤ tail → take p queue2 ≡ take p queue
              same_take p h =
                  arrived_take ws r names1 queue1 t names2 queue2 u b2 p (omega (arith, longer)) ∙ arrived_take ws l names queue tail names1 queue1 t b1 p h

              same_at : (p : ℕ) → p < tail → get_or queue2 p 0 ≡ get_or queue p 0
              same_at p h =
                  arrived_at ws r names1 queue1 t names2 queue2 u b2 p (omega (arith, longer)) ∙ arrived_at ws l names queue tail names1 queue1 t b1 p h

              met_now : (y : ℕ) → f0 y + same l y + same r y ≡ met ws (slots ws) (take (front + 1) queue2) y
              met_now y =
                  let e : take (front + 1) queue2 ≡ P' = rw add-one (same_take (suc front) less) in
                  rw (el, er, e) (met_both y)

              left_new : occ (left ws i) P' ≡ 0
              left_new =
                  let n = arrived_new ws f0 names queue tail H.queued l names1 queue1 t b1 in
                  rw (← el) (omega (arith, occ_take l (suc front) tail queue less))

              right_new : occ (right ws i) P' ≡ 0
              right_new =
                  let n = arrived_new ws (plus f0 l) names1 queue1 t Q1 r names2 queue2 u b2 in
                  let e = arrived_take ws l names queue tail names1 queue1 t b1 (suc front) less in
                  rw (← er, ← e) (omega (arith, occ_take r (suc front) t queue1 (omega (arith, longer))))

              past_here : Past ws queue2 front
              past_here =
                  past_kept
                  ws
                  queue
                  queue2
                  front
                  (same_take (suc front) less)
                  (same_at front less)
                  (record {
                    left_link = rw (← ei) (omega (arith, el, arrived_link ws l names queue tail names1 queue1 t b1));
                    right_link = rw (← ei) (omega (arith, er, arrived_link ws r names1 queue1 t names2 queue2 u b2));
                    left_after = rw (← ei) left_new;
                    right_after = rw (← ei) right_new;
                  })

              past_more : (p : ℕ) → p < front + 1 → Dec (p ≡ front) → Past ws queue2 p
              past_more p h (yes e) = rw e past_here
              past_more p h (no d) = past_kept ws queue queue2 p (same_take (suc p) (omega arith)) (same_at p (omega arith)) (H.past p (omega arith))

              heads_more : Heads ws (front + 1) names2 queue2 u
              heads_more =
                  record {
                    queued = queue_as ws (plus (plus f0 l) r) (met ws (slots ws) (take (front + 1) queue2)) names2 queue2 u (λ y p q. met_now y) Q2;
                    high = omega (arith, longer, arrived_longer ws r names1 queue1 t names2 queue2 u b2);
                    links = H.links;
                    past = λ p h. past_more p h (ℕ_discrete p front);
                  }

            pub front_arrived : (names2 queue2 : List ℕ) (u : Option ℕ) → Arrives ws r names1 queue1 t names2 queue2 u →
                Onward ws u (Heads ws (front + 1) names2 queue2)
            front_arrived names2 queue2 u a2 =
                record { on = λ w d. heads_more names2 queue2 w (a2.on w d); stop = λ e. right_over (a2.stop e) }
